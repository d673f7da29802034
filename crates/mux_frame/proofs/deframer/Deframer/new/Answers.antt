use Rattle.std.proofs.Common.{arith, refl, rules}
use Rattle.mux_frame.specs.Deframing.{next_in}
use Rattle.mux_frame.proofs.deframers.DeframerPasts.{past_none}
use Rattle.mux_frame.proofs.deframer.Deframer.new.Goals as goal

pub returns-clause-ok : goal.returns-clause-ok
unfolding next_in
returns-clause-ok c = rw (c.in_ok-octets.ensures, c.in-Some.ensures.octets) refl

pub returns-clause-past : goal.returns-clause-past
unfolding next_in
returns-clause-past c = rw (c.in_ok-octets.ensures, c.in-Some.ensures.octets) (past_none c.args.n1)

pub invariant_of-result : goal.invariant_of-result
unfolding next_in
invariant_of-result c = rw c.in_ok-octets.ensures record {
  within = omega arith;
  are_octets = search rules;
  settled = search rules;
  at_hand = refl;
}
