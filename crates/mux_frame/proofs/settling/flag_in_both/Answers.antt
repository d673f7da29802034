use Rattle.std.proofs.Common.{◌≡◌, length, arith}
use Rattle.mux_frame.proofs.deframers.WrappedOctets.{flag_in_first, flag_in_second}
use Rattle.mux_frame.proofs.settling.flag_in_both.Goals as goal

pub returns-then-place-front-clause-rest : goal.returns-then-place-front-clause-rest
returns-then-place-front-clause-rest c = flag_in_first c.flag_in-place.result c.args.front.now c.args.back.now c.if-place-front.true c.flag_in-place.ensures.rest

pub returns-clause-rest : goal.returns-clause-rest
returns-clause-rest c =
    let w = c.flag_in-place.ensures.within in
    let f = c.if-place-front.false in
    let s : c.flag_in-place.result ≡ length c.args.front.now = omega (arith, w, f) in
    flag_in_second c.flag_in-place.result c.flag_in.result c.args.front.now c.args.back.now s c.flag_in-place.ensures.rest c.flag_in.ensures.rest
