-- What a refusal for want of memory says.
use Rattle.std.specs.Prelude.{◌≡◌, Result, Ok, Err, IfErr}
use Rattle.std.specs.Result.{IsErrAnd}
use Rattle.std.proofs.Common.{subst, sym}
use Rattle.at_text.specs.declared.dialect_error.DialectError.{DialectError}
use Rattle.at_text.specs.declared.dialect_error.DialectError.TheVariants.{NoMemory}

-- if the one error of a result is NoMemory, what holds of NoMemory holds of its error
pub if_no_memory : {T : Type 0} (r : Result T DialectError) (P : DialectError → Type 0) → IsErrAnd r (λ e. e ≡ NoMemory) → P NoMemory → IfErr r P
if_no_memory (Ok x) P h p = absurd h
if_no_memory (Err e) P h p = subst P (sym h) p
