use Rattle.mux_frame.proofs.deframers.DeframerOctets.{decision_flags}
use Rattle.mux_frame.proofs.settling.slice_verdict.Goals as goal

pub returns-in-Some-eq249 : goal.returns-in-Some-eq249
returns-in-Some-eq249 c =
    decision_flags c.args.n1 c.in-Some-eq249-default.field-0-0.now c.in-Some-eq249.field-0.now c.args.octets.now c.in-Some-eq249-default.text.now
    c.in-Some-eq249-default.ensures.cases.0 c.in-Some-eq249-default.field-0-0-test c.in-Some-eq249.ensures.value c.in-Some-eq249.field-0-test
