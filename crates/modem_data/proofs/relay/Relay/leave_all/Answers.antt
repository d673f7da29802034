-- One frame more went.
use Rattle.std.proofs.Common.{◌≡◌, ◌<◌, length, drop, ap, ◌∙◌, arith}
use Rattle.modem_data.specs.Hops.{Relay}
use Rattle.modem_data.proofs.GoingOut.{more_goes, long_more, behind_more}
use Rattle.modem_data.proofs.relay.Relay.leave_all.Goals as goal

pub loop-room-preserved : goal.loop-room-preserved
loop-room-preserved c =
    let old = c.loop-room.room in
    let count = c.loop-room.count in
    let more = c.leave-more.result in
    let new = c.leave-more.new.room in
    let kept = c.loop-room.invariant in
    let free = c.split_at_mut-free.ensures in
    let some : 0 < more = omega (arith, c.if-more-eq0.false) in
    let same : length new ≡ length (drop count old) = c.leave-more.auto.room ∙ ap length free.back in
    let long = long_more count old new kept.few same in
    let fits = c.leave-more.ensures.few in
    let back = free.back_len in
    rw free.front (record {
      goes = more_goes c.args.self.now c.loop-room.self c.leave-more.new.self count more old new kept.few kept.goes (c.leave-more.ensures.left some);
      few = omega (arith, long, fits, back);
      same = c.leave-more.ensures.same ∙ ap (λ (x : Relay). record x { pipes = c.leave-more.new.self.pipes }) kept.same;
      long = long ∙ kept.long;
      behind = behind_more count more old new c.args.room.now kept.few (c.leave-more.ensures.behind ∙ ap (drop more) free.back) kept.behind;
      still = λ e. absurd (omega (arith, e, some));
    })
