-- What stands on a writer that may refuse a part of what it is given.
use Rattle.std.specs.Prelude.{◌≡◌, ℕ, List, ◌++◌, Option}
use Rattle.std.specs.Io.KnownBytes.{Appends}

-- a beginning of the octets stands behind what stood there before, and nothing else: all, some of them, or none
pub record IsBegun (before after : Option (List ℕ)) (octets : List ℕ) : Type 0 where
  pub part : List ℕ
  pub left : List ℕ
  pub split : octets ≡ part ++ left
  pub appended : Appends before after part
