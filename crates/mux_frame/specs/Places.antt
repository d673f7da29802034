-- Where flags and octets stand, for the clauses of private functions.
use Rattle.circular_buffer.specs.Buffer.{Buffer, buffer}
use Rattle.std.specs.Prelude.{◌≡◌, ℕ, ◌+◌, ◌<◌, ◌==◌, List, [], ◌∷◌, ◌++◌, length, drop, take, Option, None, Some, not, if◌then◌else◌}
use Rattle.std.specs.List.{position_or_len}
use Rattle.mux_frame.specs.Spelling.{flag}
use Rattle.mux_frame.specs.Reading.{after_flag}

-- the first flag stands at this place
pub record IsFirstFlag (s : List ℕ) (place : ℕ) : Type 0 where
  pub within : place < length s
  pub here : drop place s ≡ flag ∷ drop (place + 1) s
  pub after : after_flag s ≡ Some (drop (place + 1) s)

-- the first flag stands there, or there is none
abbrev pub FirstFlag : List ℕ → Option ℕ → Type 0
FirstFlag s None = after_flag s ≡ None
FirstFlag s (Some place) = IsFirstFlag s place

-- the text from its first flag on, or nothing
abbrev pub from_flag : List ℕ → List ℕ
from_flag [] = []
from_flag (x ∷ xs) = if x == flag then x ∷ xs else from_flag xs

-- how many flags stand at the front
abbrev pub flags_at_front : List ℕ → ℕ
flags_at_front s = position_or_len (λ x. not (x == flag)) s

-- the ring with so many octets of its front behind the others
abbrev pub turned : ℕ → Buffer ℕ → Buffer ℕ
turned count old = buffer (drop count old.items ++ take count old.items) old.capacity
