-- One frame more was given and went.
use Rattle.std.specs.Prelude.{refl}
use Rattle.std.proofs.Common.{◌≡◌, ◌<◌, ◌+◌, ◌-◌, length, take, drop, ap, subst, sym, ◌∙◌, arith}
use Rattle.modem_data.specs.PipeSets.{IsFreeAt}
use Rattle.modem_data.specs.Hops.{Relay, SendsOut}
use Rattle.modem_data.proofs.GoingOut.{long_more, behind_more}
use Rattle.modem_data.proofs.Through.{none_sent, more_sent, turned}
use Rattle.modem_data.proofs.relay.Relay.pass_all_through.Goals as goal

pub loop-room-init : goal.loop-room-init
loop-room-init c = record {
  sends = λ d free. none_sent c.args.self.now d;
  taken = omega arith;
  few = omega arith;
  same = refl;
  long = refl;
  behind = refl;
  still = λ e. refl;
  some = λ h. absurd (omega (arith, h));
}

pub loop-room-preserved : goal.loop-room-preserved
loop-room-preserved c =
    let old = c.loop-room.room in
    let count = c.loop-room.count in
    let taken = c.loop-room.taken in
    let more = c.min-more.result in
    let size = c.pass_through-count.result in
    let new = c.pass_through-count.new.room in
    let kept = c.loop-room.invariant in
    let free = c.split_at_mut-free.ensures in
    let went = c.pass_through-count.ensures in
    let same : length new ≡ length (drop count old) = c.pass_through-count.auto.room ∙ ap length free.back in
    let long = long_more count old new kept.few same in
    let fits = went.few in
    let back = free.back_len in
    let most = c.min-more.ensures in
    let before = kept.taken in
    let longest = c.min-most.ensures in
    let one = c.self.invariant.some in
    let apart = c.if-taken-octets.false in
    let count_is : (taken + more) - taken ≡ more = omega arith in
    let some : 0 < size = went.some in
    let free_there : (d : _) → IsFreeAt c.args.self.now.pipes c.args.place d → IsFreeAt c.loop-room.self.pipes c.args.place d = λ d at. subst (λ (v : Relay). IsFreeAt v.pipes c.args.place d) (sym kept.same) (record { there = at.there; here = at.here; free = at.free }) in
    rw free.front (record {
      sends = λ d at. more_sent c.args.self.now c.loop-room.self c.pass_through-count.new.self d taken more count size c.args.octets.now old new kept.few (kept.sends d at) (subst (λ k. SendsOut c.loop-room.self c.pass_through-count.new.self d (take k (drop taken c.args.octets.now)) (take size new)) count_is (went.sends d (free_there d at)));
      taken = omega (arith, most, before);
      few = omega (arith, long, fits, back);
      same = turned c.args.self.now c.loop-room.self c.pass_through-count.new.self (c.args.place + 1) kept.same went.same;
      long = long ∙ kept.long;
      behind = behind_more count size old new c.args.room.now kept.few (went.behind ∙ ap (drop size) free.back) kept.behind;
      still = λ e. absurd (omega (arith, e, some));
      some = λ h. omega (arith, most, longest, one, apart, before);
    })
