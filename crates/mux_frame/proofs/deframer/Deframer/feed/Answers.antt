use Rattle.std.proofs.Common.{◌≡◌, ◌∙◌, ◌+◌, ◌≤◌, None, Some, ap, arith, drop, length, sym, subst, take}
use Rattle.std.proofs.Math.Nat.{le-max_left}
use Rattle.std.proofs.lemmas.List.{length-drop}
use Rattle.mux_frame.specs.Deframing.{Deframes, next_in}
use Rattle.mux_frame.specs.Laws.{AreOctets}
use Rattle.mux_frame.proofs.deframers.DeframerPasts.{past_fed, undecided_short, next_stays, octets-take}
use Rattle.mux_frame.proofs.readings.ComputedReadings.{octets_both}
use Rattle.mux_frame.proofs.deframer.Deframer.feed.Goals as goal

pub take_in-self-inside-requires-clause-more : goal.take_in-self-inside-requires-clause-more
take_in-self-inside-requires-clause-more c =
    let p : AreOctets c.args.octets.now = λ i. let h = c.type_inv.octets i in omega (arith, h) in
    octets-take c.min-count.result c.args.octets.now p

pub returns-clause-some : goal.returns-clause-some
returns-clause-some c = λ none some.
    let u = drop c.self.inside.passed c.self.inside.octets.items in
    let e : next_in c.self.inside.n1.octets u ≡ None = ap (λ d. d.next) c.self.view_is ∙ none in
    let l : length u ≤ c.self.inside.n1.octets + 6 = undecided_short c.self.inside.n1.octets u c.self.invariant.settled.octets c.self.invariant.settled.decided e in
    let d = length-drop c.self.inside.passed c.self.inside.octets.items in
    let r = c.min-count.ensures in
    let s = c.capacity.ensures.capacity in
    let t = c.len.ensures.len in
    let k = c.self.invariant.settled.room in
    let m = le-max_left (c.self.inside.n1.octets + 7) 8192 in
    omega (arith, l, d, r, s, t, k, m)

pub returns-clause-stays : goal.returns-clause-stays
returns-clause-stays c = λ f some.
    let u = drop c.self.inside.passed c.self.inside.octets.items in
    let x = take c.min-count.result c.args.octets.now in
    let p : AreOctets c.args.octets.now = λ i. let h = c.type_inv.octets i in omega (arith, h) in
    let e : next_in c.self.inside.n1.octets u ≡ Some f = ap (λ d. d.next) c.self.view_is ∙ some in
    let s = next_stays c.self.inside.n1.octets u x f c.self.invariant.settled.octets (octets_both u x c.self.invariant.settled.octets (octets-take c.min-count.result c.args.octets.now p)) c.self.invariant.settled.decided e in
    let k = c.take_in-self-inside.ensures.settles.kept s.decided in
    rw k s.next

pub returns-clause-past : goal.returns-clause-past
returns-clause-past c = λ taken handed p.
    let u = drop c.self.inside.passed c.self.inside.octets.items in
    let x = take c.min-count.result c.args.octets.now in
    let q = subst (Deframes taken handed) (sym c.self.view_is) p in
    let s = c.take_in-self-inside.ensures.settles in
    past_fed c.self.inside.n1.octets taken x u (drop c.take_in-self-inside.new.passed c.take_in-self-inside.new.octets.items) handed _ q s.reads s.octets s.decided
