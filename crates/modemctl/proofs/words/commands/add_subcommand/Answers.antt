use Rattle.std.specs.Prelude.{◌≡◌, ◌&&◌, Bool, not, false, refl, true, IfOk}
use Rattle.std.proofs.Common.{ap, ap₂, ◌∙◌, subst}
use Rattle.std.proofs.lemmas.Bool.{and_parts}
use Rattle.std.proofs.lemmas.Result.{IfOk-weaker}
use Rattle.clap.specs.Words.{App, app_of, with_subcommand}
use Rattle.modemctl.proofs.words.commands.add_subcommand.Goals as goal

not_set : (b : Bool) → not b ≡ true → b ≡ false
not_set false e = refl
not_set true e = cc

-- of what makes a command plain, the third is that no option of it is global
third : (a b g rest : Bool) → (a && (b && (not g && rest))) ≡ true → g ≡ false
third a b g rest e =
    not_set g (and_parts (not g) rest (and_parts b (not g && rest) (and_parts a (b && (not g && rest)) e).1).1).0

pub returns : goal.returns
returns c app sub plain program subcommand =
    let first : app_of c.in_ok-program.program ≡ app = subst (λ r. IfOk r (λ c'. app_of c' ≡ app)) c.in_ok-program.ensures.first program in
    let second : app_of c.in_ok-program.subcommand ≡ sub = subst (λ r. IfOk r (λ c'. app_of c' ≡ sub)) c.in_ok-program.ensures.second subcommand in
    IfOk-weaker c.subcommand.result _ _ (λ r adds. adds.shape (third _ _ _ _ (ap (λ (a : App). a.top.is_plain) second ∙ plain)) ∙ ap₂ (λ (a b : App). with_subcommand a b.top) first second) c.subcommand.ensures
