use Rattle.std.proofs.Common.{◌∙◌, drop, ap, sym, subst}
use Rattle.mux_frame.specs.Deframing.{Deframes}
use Rattle.mux_frame.specs.Judged.{IsAtHand, IsAtPlace}
use Rattle.mux_frame.proofs.deframers.DeframerPasts.{past_taken}
use Rattle.mux_frame.proofs.deframers.SearchedOctets.{settles_advanced}
use Rattle.mux_frame.proofs.deframer.Deframer.advance.Goals as goal

pub returns-clause-past : goal.returns-clause-past
returns-clause-past c = λ taken handed f some p.
    let u = drop c.self.inside.passed c.self.inside.octets.items in
    let q = subst (Deframes taken handed) (sym c.self.view_is) p in
    let h : IsAtPlace c.self.inside.n1.octets u c.in-Some.place = subst (IsAtHand c.self.inside.n1.octets u) c.in-Some.is c.self.invariant.at_hand in
    let b = c.one_slice-octets.ensures.items in
    let s = settles_advanced c.self.inside.n1.octets c.self.inside.passed c.in-Some.place c.settle-self-inside.new.passed _ c.self.inside.octets.items c.settle-self-inside.result b c.settle-self-inside.ensures in
    rw c.one_slice-octets.follows.holds-at-none (past_taken c.self.inside.n1.octets c.in-Some.place taken u (drop c.settle-self-inside.new.passed c.self.inside.octets.items) handed h.header f
    q h.front h.frame (ap (λ d. d.next) c.self.view_is ∙ some) h.place_is s.reads s.octets s.decided)
