-- What is kept of one connection.
use Rattle.std.specs.Prelude.{◌≡◌, ℕ, Bool, false, List, [], length, Option, None, Some, is_none, slice_set, slice_index_or, if◌then◌else◌}
use Rattle.at_text.specs.UnderWay.{UnderWay, unanswered}

-- what is kept of a connection: its unfinished line, the answer of the command under way, and whether it is held
pub record Lane : Type 0 where
  pub kept : List ℕ
  pub under_way : Option UnderWay
  pub held : Bool

-- the lane of a connection that has just opened
abbrev pub new_lane : Lane
new_lane = record { kept = []; under_way = None; held = false }

-- the lane of d among these
abbrev pub lane_in : List Lane → ℕ → Lane
lane_in lanes d = slice_index_or lanes d new_lane

-- the next line may be the echo of the command under way
abbrev pub awaits_echo : Option UnderWay → Bool
awaits_echo None = false
awaits_echo (Some u) = u.fresh

-- every connection has its lane; and where none may be held, none is
pub record AreLanes (lanes : List Lane) (may_hold : Bool) : Type 0 where
  pub all : length lanes ≡ 62
  pub free : may_hold ≡ false → (d : ℕ) → (lane_in lanes d).held ≡ false

-- the lanes, with a command under way on d where none was
abbrev pub begun : List Lane → ℕ → List Lane
begun lanes d =
    if is_none (lane_in lanes d).under_way
    then slice_set lanes d (record (lane_in lanes d) { under_way = Some unanswered }) else lanes

-- the lanes, with that of d held or not
abbrev pub turned : List Lane → ℕ → Bool → List Lane
turned lanes d held = slice_set lanes d (record (slice_index_or lanes d new_lane) { held = held })
