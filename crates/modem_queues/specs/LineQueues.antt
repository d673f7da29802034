-- Lines that wait for their listeners, with counts of them.
use Rattle.std.specs.Prelude.{◌≡◌, ℕ, ◌<◌, ◌==◌, List, length, filter, slice_index_or}
use Rattle.modem_desk.specs.declared.request.Urc.{Urc}
use Rattle.at_text.specs.Kinds.{kind_place}
use Rattle.modem_history.specs.Limits.{holding_lines}
use Rattle.modem_history.specs.Sessions.{backlog_in}

-- the lines, and for how many more there is room
pub record LineQueue : Type 0 where
  pub items : List Urc
  pub room : ℕ

-- at each place of the counts stands how many lines have that number
abbrev pub AreCounts : (number : Urc → ℕ) → (counts : List ℕ) → List Urc → Type 0
AreCounts number counts lines =
    (n : ℕ) → n < length counts → slice_index_or counts n 0 ≡ length (filter (λ (u : Urc). number u == n) lines)

-- a line's connection
abbrev pub channel_of : Urc → ℕ
channel_of u = u.dlci.number

-- the place of a line's kind
abbrev pub place_of : Urc → ℕ
place_of u = kind_place u.kind

-- those of this key
abbrev pub of_key : {X : Type 0} → (X → ℕ) → ℕ → List X → List X
of_key key n xs = filter (λ x. key x == n) xs

-- fewer than 256 are of each connection
abbrev pub AreFewOnEach : List Urc → Type 0
AreFewOnEach lines = (d : ℕ) → d < 62 → backlog_in d lines < holding_lines

-- the lines of each of the 62 connections and of each of the 263 kinds are counted
pub record AreCounted (channels kinds : List ℕ) (lines : List Urc) : Type 0 where
  pub all_channels : length channels ≡ 62
  pub all_kinds : length kinds ≡ 263
  pub by_channel : AreCounts channel_of channels lines
  pub by_kind : AreCounts place_of kinds lines
