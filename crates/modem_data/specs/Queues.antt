-- Octets that wait, and the room behind them.
use Rattle.std.specs.Prelude.{ℕ, List}

-- the octets that wait; how many are kept, with those that have gone; and how many there is room for
pub record Queue : Type 0 where
  pub items : List ℕ
  pub len : ℕ
  pub capacity : ℕ
