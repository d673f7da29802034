-- The answer is told at its place.
use Rattle.std.proofs.Common.{◌≡◌, List, ap, sym, ◌∙◌}
use Rattle.std.specs.Prelude.{map, Option, Result, Ok, Err, Some, IsOk, is_ok, if◌then◌else◌}
use Rattle.modem_history.specs.declared.act.Act as code
use Rattle.modem_history.specs.Acts.{act_of}
use Rattle.modem_core.specs.declared.settling.Answered.{Answered}
use Rattle.modem_core.specs.Settling.{with_told}
use Rattle.modem_core.proofs.lines.WholeAnswers.{told_at}
use Rattle.modem_core.proofs.frame_acts.FrameActs.into_vec.Goals as goal

put_there : {A E : Type 0} (r : Result A E) (xs ys zs : List code.Act) → IsOk r → xs ≡ (if is_ok r then ys else zs) → xs ≡ ys
put_there (Ok a) xs ys zs h e = e
put_there (Err x) xs ys zs h e = cc

pub returns-in-Some : goal.returns-in-Some
returns-in-Some c =
    ap (map act_of) (put_there c.insert.result _ _ _ (c.insert.ensures.succeeds c.self.invariant) c.insert.ensures.items)
    ∙ (told_at c.in-Some.answered c.self.inside.acts.items
    ∙ (ap (λ (xs : List code.Act). with_told (Some c.in-Some.answered) (map act_of xs)) c.self.view_is
    ∙ ap (λ (o : Option Answered). with_told o (map act_of c.args.self)) (sym c.in-Some.is)))
