-- What goes between a device and its ring.
use Rattle.std.specs.Prelude.{◌≡◌, ℕ, ◌≤◌, List, ◌++◌, length, Option}
use Rattle.std.specs.Io.KnownBytes.{Consumes, Appends}

-- what a ring's end put in goes from `before` to `after`, by just the octets that the reader gave meanwhile, but the last of them:
-- `most` at most
pub record FlowsIn (most : ℕ) (before after : List ℕ) (old new : Option (List ℕ)) : Type 0 where
  pub octets : List ℕ
  pub lost : List ℕ
  pub few : length lost ≤ most
  pub given : Consumes old new (octets ++ lost)
  pub put : after ≡ before ++ octets

-- what a ring's end took out goes from `before` to `after`, by just the octets that the writer took meanwhile, and at most `most`
-- octets behind them
pub record FlowsOut (most : ℕ) (before after : List ℕ) (old new : Option (List ℕ)) : Type 0 where
  pub octets : List ℕ
  pub lost : List ℕ
  pub few : length lost ≤ most
  pub taken : after ≡ before ++ (octets ++ lost)
  pub written : Appends old new octets
