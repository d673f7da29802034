-- What the values of commands are read as.
use Rattle.std.specs.Prelude.{◌≡◌, ℕ, ◌<◌, List, [], ◌∷◌, length, None, refl}
use Rattle.std.proofs.Common.{arith}
use Rattle.at_cmds.specs.Params.{parameters}
use Rattle.at_cmds.specs.Values.{context_value}
use Rattle.at_cmds.proofs.values_read.Parameters.{length-parameters}

context_in-more : (cid pdp apn : List ℕ) (more : List (List ℕ)) → 0 < length more → context_value (cid ∷ pdp ∷ apn ∷ more) ≡ None
context_in-more cid pdp apn [] some = absurd (omega (arith, some))
context_in-more cid pdp apn (param ∷ more) some = refl

-- a fourth parameter
pub too_many : (cid pdp apn text : List ℕ) → context_value (cid ∷ pdp ∷ apn ∷ parameters text) ≡ None
too_many cid pdp apn text = context_in-more cid pdp apn (parameters text) (length-parameters text)
