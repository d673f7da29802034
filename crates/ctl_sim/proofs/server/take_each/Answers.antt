use Rattle.std.proofs.Common.{List, None, Option, option_map, ℕ, ◌∙◌, rules, arith, length, sym, subst, ◌++◌, ◌<◌}
use Rattle.modem_sim.specs.declared.state.ModemState.{ModemState}
use Rattle.ctl_sim.specs.EndlessClients.{ComesToEndless, IsEndlessMode}
use Rattle.ctl_sim.specs.Entry.{octets_of}
use Rattle.ctl_sim.specs.Leaving.{IsOfModemBy}
use Rattle.ctl_sim.proofs.EndlessClients.{comes_to_endless}
use Rattle.ctl_sim.proofs.Leaving.{endless_so, given_so}
use Rattle.ctl_sim.specs.Standing.{EndsWith, Stands, StepsOn, setting_by, undecided, weight}
use Rattle.ctl_sim.proofs.Stepping.{none_mapped, not_zero, takes_more, takes_none}
use Rattle.ctl_sim.proofs.LeftOctets.{ends_more, ends_none}
use Rattle.ctl_sim.proofs.server.take_each.Goals as goal

pub returns-in_err-next-clause-fault : goal.returns-in_err-next-clause-fault
returns-in_err-next-clause-fault c =
    given_so (IsOfModemBy ((m : ModemState) → ComesToEndless Stands IsEndlessMode (setting_by c.args.setup.now m) c.args.mode c.args.octets.now)) _ _ c.from_residual-in_err-next.ensures.1
    (endless_so {P = IsEndlessMode c.loop-now.now c.as_slice.result.now}
    {Q = (m : ModemState) → ComesToEndless Stands IsEndlessMode (setting_by c.args.setup.now m) c.args.mode c.args.octets.now} _
    (λ endless m.
    comes_to_endless (setting_by c.args.setup.now m) c.args.mode c.loop-now.now c.args.octets.now c.loop-now.rest.items c.as_slice.result.now c.args.out.now.items c.loop-now.out.items (c.loop-now.invariant.steps m) c.as_slice.ensures.value endless)
    c.in_err-next.ensures.fault)

pub loop-now-init : goal.loop-now-init
loop-now-init c = record {
  steps = λ m.
      subst (λ (l : List ℕ). StepsOn Stands undecided (setting_by c.args.setup.now m) c.args.mode c.args.mode None c.args.octets.now l c.args.out.now.items c.args.out.now.items) (sym c.in_ok-rest.ensures.items)
      (takes_none (setting_by c.args.setup.now m) c.args.mode c.args.octets.now c.args.out.now.items);
  ends = subst (λ (l : List ℕ). EndsWith (undecided c.args.mode ++ c.args.octets.now) (undecided c.args.mode ++ l)) (sym c.in_ok-rest.ensures.items) (ends_none (undecided c.args.mode ++ c.args.octets.now));
  fewer = search rules;
}

pub loop-now-preserved : goal.loop-now-preserved
loop-now-preserved c = record {
  steps = λ m.
      takes_more (setting_by c.args.setup.now m) c.args.mode c.loop-now.now c.in_ok-next.next None c.args.octets.now c.loop-now.rest.items c.in_ok-next.behind.items c.args.out.now.items c.loop-now.out.items c.step.new.out.items
      (c.loop-now.invariant.steps m)
      (subst (λ (o : Option ℕ). StepsOn Stands undecided (setting_by c.args.setup.now m) c.loop-now.now c.in_ok-next.next o c.loop-now.rest.items c.in_ok-next.behind.items c.loop-now.out.items c.step.new.out.items)
      (none_mapped octets_of c.in_ok-next.entered (sym c.is_some.ensures ∙ c.if-is_some.false))
      (subst (λ (l : List ℕ). StepsOn Stands undecided (setting_by c.args.setup.now m) c.loop-now.now c.in_ok-next.next (option_map octets_of c.in_ok-next.entered) l c.in_ok-next.behind.items c.loop-now.out.items c.step.new.out.items) c.as_slice.ensures.value (c.in_ok-next.ensures.steps m)));
  ends =
      ends_more (undecided c.args.mode ++ c.args.octets.now) (undecided c.loop-now.now ++ c.loop-now.rest.items) (undecided c.in_ok-next.next ++ c.in_ok-next.behind.items) c.loop-now.invariant.ends
      (subst (λ (l : List ℕ). EndsWith (undecided c.loop-now.now ++ l) (undecided c.in_ok-next.next ++ c.in_ok-next.behind.items)) c.as_slice.ensures.value c.in_ok-next.ensures.ends);
  fewer =
      let left = not_zero _ (sym c.is_empty.ensures ∙ c.loop-now-test.true) in
      let count = c.as_slice.ensures.len in
      let some : 0 < length c.as_slice.result.now = omega (arith, left, count) in
      let less : weight c.in_ok-next.next (length c.in_ok-next.behind.items) < weight c.loop-now.now (length c.loop-now.rest.items) =
      subst (λ (l : List ℕ). weight c.in_ok-next.next (length c.in_ok-next.behind.items) < weight c.loop-now.now (length l)) c.as_slice.ensures.value (c.in_ok-next.ensures.fewer some) in
      let so_far = c.loop-now.invariant.fewer in
      omega (arith, less, so_far);
}

pub returns-then-is_some-clause-ends : goal.returns-then-is_some-clause-ends
returns-then-is_some-clause-ends c =
    ends_more (undecided c.args.mode ++ c.args.octets.now) (undecided c.loop-now.now ++ c.loop-now.rest.items) (undecided c.in_ok-next.next ++ c.in_ok-next.behind.items) c.loop-now.invariant.ends
    (subst (λ (l : List ℕ). EndsWith (undecided c.loop-now.now ++ l) (undecided c.in_ok-next.next ++ c.in_ok-next.behind.items)) c.as_slice.ensures.value c.in_ok-next.ensures.ends)

pub returns-then-is_some-clause-steps : goal.returns-then-is_some-clause-steps
returns-then-is_some-clause-steps c = λ m.
    takes_more (setting_by c.args.setup.now m) c.args.mode c.loop-now.now c.in_ok-next.next (option_map octets_of c.in_ok-next.entered) c.args.octets.now c.loop-now.rest.items c.in_ok-next.behind.items c.args.out.now.items c.loop-now.out.items
    c.step.new.out.items (c.loop-now.invariant.steps m)
    (subst (λ (l : List ℕ). StepsOn Stands undecided (setting_by c.args.setup.now m) c.loop-now.now c.in_ok-next.next (option_map octets_of c.in_ok-next.entered) l c.in_ok-next.behind.items c.loop-now.out.items c.step.new.out.items) c.as_slice.ensures.value (c.in_ok-next.ensures.steps m))
