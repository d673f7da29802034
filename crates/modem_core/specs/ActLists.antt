-- What contracts see of acts with room for more.
use Rattle.std.specs.Prelude.{ℕ, List}
use Rattle.modem_history.specs.declared.act.Act.{Act}

-- acts, and for how many more there is room
pub record ActList : Type 0 where
  pub acts : List Act
  pub left : ℕ
