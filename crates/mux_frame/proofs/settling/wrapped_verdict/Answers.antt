use Rattle.std.proofs.Common.{◌++◌, refl, rules}
use Rattle.mux_frame.specs.Judging.{unfinished, refused}
use Rattle.mux_frame.specs.Judged.{header_seen}
use Rattle.mux_frame.proofs.deframers.WrappedOctets.{decision_ends, decision_fits}
use Rattle.mux_frame.proofs.settling.wrapped_verdict.Goals as goal

pub returns-in-Fits : goal.returns-in-Fits
returns-in-Fits c =
    decision_fits c.args.n1 c.in-Some.first (c.args.front.now ++ c.args.back.now) (header_seen c.in-Fits.header) c.check_place-place.result c.octet_in-address.result c.octet_in-control.result c.octet_in-2.result c.octet_in-3.result c.octet_in-check.result c.octet_in-in-Fits.result _
    c.in-Some.ensures (search rules) c.octet_in-address.ensures c.octet_in-control.ensures c.octet_in-2.ensures c.octet_in-3.ensures c.in-Fits.ensures c.check_place-place.ensures.value c.octet_in-check.ensures c.octet_in-in-Fits.ensures c.by_end.ensures

pub returns-in-Unfinished : goal.returns-in-Unfinished
returns-in-Unfinished c =
    decision_ends c.args.n1 c.in-Some.first (c.args.front.now ++ c.args.back.now) c.octet_in-address.result c.octet_in-control.result c.octet_in-2.result c.octet_in-3.result unfinished
    c.in-Some.ensures (search rules) c.octet_in-address.ensures c.octet_in-control.ensures c.octet_in-2.ensures c.octet_in-3.ensures c.in-Unfinished.ensures refl

pub returns-in-Refused : goal.returns-in-Refused
returns-in-Refused c =
    decision_ends c.args.n1 c.in-Some.first (c.args.front.now ++ c.args.back.now) c.octet_in-address.result c.octet_in-control.result c.octet_in-2.result c.octet_in-3.result refused
    c.in-Some.ensures (search rules) c.octet_in-address.ensures c.octet_in-control.ensures c.octet_in-2.ensures c.octet_in-3.ensures c.in-Refused.ensures refl
