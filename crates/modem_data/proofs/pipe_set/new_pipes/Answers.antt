-- There is one more.
use Rattle.std.proofs.Common.{rules, arith, ◌≡◌, get_or, ap, subst, sym, ◌∙◌, ℕ, List, []}
use Rattle.std.specs.Prelude.{All}
use Rattle.modem_data.specs.Pipes.{Pipe, PipeFits}
use Rattle.modem_data.specs.PipeSets.{connections}
use Rattle.modem_data.proofs.Named.{one_more, each_more}
use Rattle.modem_data.proofs.pipe_set.new_pipes.Goals as goal

pub loop-place-preserved : goal.loop-place-preserved
loop-place-preserved c =
    let test = c.loop-place-test.true in
    let is : c.in_ok-new.field-0.watch.dlci ≡ (get_or c.args.named.now c.loop-place.place c.index-named-place.result).number = search rules in
    record {
      few = omega (arith, test);
      those = ap connections c.in_ok-push.ensures.items ∙ one_more c.loop-place.each.items c.in_ok-new.field-0 c.args.named.now c.loop-place.place c.index-named-place.result test c.loop-place.invariant.those is;
      each = subst (λ (ps : List Pipe). All (λ (q : Pipe). (n1 : ℕ) → PipeFits c.args.role n1 q.watch.dlci q []) ps) (sym c.in_ok-push.ensures.items) (each_more c.args.role c.loop-place.each.items c.in_ok-new.field-0 c.index-named-place.result.number c.loop-place.invariant.each c.in_ok-new.ensures.past c.in_ok-new.ensures.dlci);
    }
