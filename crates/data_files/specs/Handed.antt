-- A line in memory, whose owner takes out what it took.
use Rattle.std.specs.Prelude.{◌≡◌, ℕ, List, ◌++◌}

-- what it took beyond these stands behind other octets
pub record HandsOut (passed sent before after : List ℕ) : Type 0 where
  pub more : List ℕ
  pub sent_is : sent ≡ passed ++ more
  pub out_is : after ≡ before ++ more
