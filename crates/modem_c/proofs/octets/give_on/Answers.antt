-- One part more goes out, behind the frames at hand.
use Rattle.std.proofs.Common.{drop, refl, arith, ◌∙◌, ap, sym}
use Rattle.std.proofs.lemmas.List.{drop-drop}
use Rattle.modem_c.specs.Calls.{unmoved}
use Rattle.modem_c.proofs.GivenParts.{all_given, one_part, quiet_given}
use Rattle.modem_c.proofs.octets.give_on.Goals as goal

pub loop-count-init : goal.loop-count-init
loop-count-init c = record { out = λ v d. unmoved v d c.args.endpoint.now; behind = refl; few = omega arith; same = refl }

pub returns-then-given-eq0-clause-out : goal.returns-then-given-eq0-clause-out
returns-then-given-eq0-clause-out c =
    all_given _ _ _ _ c.loop-count.count c.give_part-given.result c.loop-count.room c.give_part-given.new.room _ c.loop-count.invariant.out
    c.handle_waiting-blocked.ensures.takes c.handle_waiting-blocked.ensures.says c.give_part-given.ensures.out c.give_part-given.ensures.before c.if-given-eq0.true

pub loop-count-preserved : goal.loop-count-preserved
loop-count-preserved c =
    let n = c.loop-count.count in
    let k = c.give_part-given.result in
    let few = c.give_part-given.ensures.few in
    let len = c.loop-count.invariant.same in
    record {
      out = one_part _ _ _ _ n k c.loop-count.room c.give_part-given.new.room _ c.loop-count.invariant.out c.handle_waiting-blocked.ensures.takes c.give_part-given.ensures.out
          c.give_part-given.ensures.before;
      behind = c.give_part-given.ensures.behind ∙ (sym (drop-drop k n c.loop-count.room) ∙ (ap (drop k) c.loop-count.invariant.behind ∙ drop-drop k n c.args.room.now));
      few = omega (arith, few, len);
      same = c.give_part-given.ensures.same ∙ len;
    }

pub returns-then-is_quiet-clause-out : goal.returns-then-is_quiet-clause-out
returns-then-is_quiet-clause-out c =
    quiet_given _ _ _ _ c.loop-count.count c.give_part-given.result c.loop-count.room c.give_part-given.new.room _ c.loop-count.invariant.out
    c.handle_waiting-blocked.ensures.takes c.give_part-given.ensures.out c.give_part-given.ensures.before
    (c.is_quiet.ensures.takes c.if-is_quiet.true) (c.is_quiet.ensures.none c.if-is_quiet.true)

pub returns-then-is_quiet-clause-behind : goal.returns-then-is_quiet-clause-behind
returns-then-is_quiet-clause-behind c =
    let n = c.loop-count.count in
    let k = c.give_part-given.result in
    c.give_part-given.ensures.behind ∙ (sym (drop-drop k n c.loop-count.room) ∙ (ap (drop k) c.loop-count.invariant.behind ∙ drop-drop k n c.args.room.now))
