-- Octets in order, of which the first ones have passed.
use Rattle.std.specs.Prelude.{ℕ, ◌+◌, ◌-◌, List, ◌++◌, length, take, drop}

-- the octets that have passed, those ahead, and how many it may have in all
pub record Track : Type 0 where
  pub gone : List ℕ
  pub ahead : List ℕ
  pub room : ℕ

-- how many octets more it may have
abbrev pub free : Track → ℕ
free t = t.room - (length t.gone + length t.ahead)

-- the tape with these octets behind all others
abbrev pub with_more : Track → List ℕ → Track
with_more t octets = record t { ahead = t.ahead ++ octets }

-- the tape after so many more octets have passed
abbrev pub with_passed : Track → ℕ → Track
with_passed t n = record t { gone = t.gone ++ take n t.ahead; ahead = drop n t.ahead }
