use Rattle.std.proofs.Common.{◌≡◌, ◌-◌, ◌∙◌, sym, ap, subst, drop}
use Rattle.mux_frame.specs.Deframing.{SameReading}
use Rattle.mux_frame.specs.Places.{flags_at_front}
use Rattle.mux_frame.proofs.deframers.FlagRuns.{flags_read}
use Rattle.mux_frame.proofs.settling.flags_passed.Goals as goal

pub returns-clause-reads : goal.returns-clause-reads
returns-clause-reads c o n1 =
    let e : c.saturating_sub.result ≡ flags_at_front c.args.octets.now - 1 = c.saturating_sub.ensures ∙ ap (λ i. i - 1) c.flags_in.ensures.value in
    subst (λ i. SameReading n1 c.args.octets.now (drop i c.args.octets.now)) (sym e) (flags_read n1 c.args.octets.now o)
