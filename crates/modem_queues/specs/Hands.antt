-- How the requests in hand are kept.
use Rattle.std.specs.Prelude.{◌≡◌, ℕ, ◌+◌, ◌-◌, ◌≤◌, Bool, false, nat_lt, List, [], length, take, drop, find, Option, None, Some, slice_index_or, if◌then◌else◌}
use Rattle.std.specs.List.{list_any}
use Rattle.std.specs.Vec.{vec_capacity, vec_len}
use Rattle.std.specs.Global.{Vec}
use Rattle.modem_desk.specs.declared.request.Request.{Request}
use Rattle.modem_history.specs.Limits.{most_in_hand}
use Rattle.modem_history.specs.Requests.{commands_on}
use Rattle.modem_queues.specs.Stops.{is_stop}

-- for each connection a place in the list; none of its commands stands before that
pub record AreStarts (starts : List ℕ) (requests : List Request) : Type 0 where
  pub all : length starts ≡ 64
  pub within : (d : ℕ) → slice_index_or starts d 0 ≤ length requests
  pub none : (d : ℕ) → list_any (commands_on d) (take (slice_index_or starts d 0) requests) ≡ false

-- at most 128 behind those that have left, with room for so many, and what is noted of them
pub record HandIsKept (requests : Vec Request) (gone : ℕ) (starts : List ℕ) (may_stop : Bool) : Type 0 where
  pub within : gone ≤ vec_len requests
  pub few : vec_len requests ≤ gone + most_in_hand
  pub all : vec_len requests ≤ 192
  pub room : 192 ≤ vec_capacity requests
  pub starts_are : AreStarts starts (drop gone requests.items)
  pub no_stop : may_stop ≡ false → find is_stop (drop gone requests.items) ≡ None

-- a place, once the request at the first of these is taken out
abbrev pub moved_up : ℕ → ℕ → ℕ
moved_up place start = if nat_lt place start then start - 1 else start

-- the text of the command, or nothing
abbrev pub text_or : Option (List ℕ) → List ℕ
text_or None = []
text_or (Some text) = text
