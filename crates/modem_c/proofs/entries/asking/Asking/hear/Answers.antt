-- Octets come behind the text, to the first final code.
use Rattle.std.proofs.Common.{arith, refl, subst, ◌∙◌}
use Rattle.std.specs.Prelude.{take, ◌+◌}
use Rattle.modem_driver.specs.declared.entry.EntryStep.{EntryStep}
use Rattle.modem_c.specs.Entries.{Hears}
use Rattle.modem_c.proofs.Heard.{hears_more, hears_none, moved_by}
use Rattle.modem_c.proofs.entries.asking.Asking.hear.Goals as goal

pub loop-taken-init : goal.loop-taken-init
loop-taken-init c = record { hears = hears_none c.args.self.now; few = omega arith; text = refl; written = refl }

pub returns-then-is_some-clause-hears : goal.returns-then-is_some-clause-hears
returns-then-is_some-clause-hears c =
    hears_more _ _ _ _ _ _ _ c.loop-taken-test.true c.loop-taken.invariant.hears c.hear_octet-code.ensures.hears

pub loop-taken-preserved : goal.loop-taken-preserved
loop-taken-preserved c =
    let inside = c.loop-taken-test.true in
    record {
      hears = subst (λ (said : EntryStep). Hears c.args.self.now c.hear_octet-code.new.self (take (c.loop-taken.taken + 1) c.args.octets.now) said)
          (moved_by c.hear_octet-code.result c.is_some.result c.is_some.ensures c.if-is_some.false)
          (hears_more _ _ _ _ _ _ _ inside c.loop-taken.invariant.hears c.hear_octet-code.ensures.hears);
      few = omega (arith, inside);
      text = c.hear_octet-code.ensures.text ∙ c.loop-taken.invariant.text;
      written = c.hear_octet-code.ensures.written ∙ c.loop-taken.invariant.written;
    }
