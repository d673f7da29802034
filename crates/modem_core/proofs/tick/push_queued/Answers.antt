-- One frame more, or there is none.
use Rattle.std.specs.Prelude.{◌≡◌, ◌+◌, ◌++◌, map, slice_get, option_map}
use Rattle.std.proofs.Common.{ap, sym, ◌∙◌, subst, arith}
use Rattle.mux_frame.specs.Frames.{kept_frame}
use Rattle.mux_station.specs.Stations.{Station}
use Rattle.modem_core.specs.ActLists.{ActList}
use Rattle.modem_history.specs.Acts.{Sent, act_of}
use Rattle.modem_core.specs.Ticked.{bared, queued_from}
use Rattle.modem_core.proofs.ticks.StationTicks.{pushed_more, pushed_none}
use Rattle.modem_core.proofs.tick.push_queued.Goals as goal
use Rattle.modem_core.proofs.tick.push_queued.Goals.{in-Some, in_default}

pub loop-i-preserved : goal.loop-i-preserved
loop-i-preserved c =
    let queue = c.args.station.now.queue in
    let same = c.loop-i.invariant.0 in
    let inv = c.loop-i.invariant.1 in
    let found : option_map kept_frame c.bare_at.result ≡ option_map bared (slice_get queue (c.args.place + c.loop-i.i))
    = c.bare_at.ensures.frame ∙ ap (λ (v : Station). option_map bared (slice_get v.queue (c.args.place + c.loop-i.i))) same in (
      c.bare_at.ensures.same ∙ same,
      elim c.match-bare_at.branch [
        | in-Some w ↦ pushed_more queue c.args.place c.loop-i.i c.args.acts.now.acts c.loop-i.acts.acts c.match-bare_at.acts.acts w.in-Some.frame (ap (option_map kept_frame) (sym w.in-Some.is) ∙ found) inv
            (ap (λ (a : ActList). a.acts) w.acts-is ∙ ap (λ (a : ActList). a.acts) w.push.ensures)
        | in_default w ↦ subst (λ (a : ActList). map act_of a.acts ≡ map act_of c.args.acts.now.acts ++ map Sent (queued_from queue c.args.place (c.loop-i.i + 1))) (sym w.acts-is)
            (pushed_none queue c.args.place c.loop-i.i c.args.acts.now.acts c.loop-i.acts.acts c.bare_at.result w.in_default.is found inv)
      ],
      elim c.match-bare_at.branch [
        | in-Some w ↦ (let l = ap (λ (a : ActList). a.left) w.acts-is in let p = ap (λ (a : ActList). a.left) w.push.ensures in let i = c.loop-i.invariant.2 in omega (arith, l, p, i))
        | in_default w ↦ (let l = ap (λ (a : ActList). a.left) w.acts-is in let i = c.loop-i.invariant.2 in omega (arith, l, i))
      ],
    )
