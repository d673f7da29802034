use Rattle.std.proofs.Common.{drop, subst, sym}
use Rattle.mux_frame.specs.Judged.{IsAtHand, IsAtPlace}
use Rattle.mux_frame.proofs.deframer.Deframer.peek.Goals as goal

pub front_frame-requires-clause-at_place : goal.front_frame-requires-clause-at_place
front_frame-requires-clause-at_place c =
    let u = drop c.self.inside.passed c.self.inside.octets.items in
    let a : IsAtPlace c.self.inside.n1.octets u c.in-Some.place = subst (IsAtHand c.self.inside.n1.octets u) c.in-Some.is c.self.invariant.at_hand in
    let w = c.one_slice.ensures.items in
    subst (λ x. IsAtPlace c.self.inside.n1.octets (drop c.self.inside.passed x) c.in-Some.place) (sym w) a
