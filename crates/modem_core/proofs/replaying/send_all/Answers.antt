-- Each frame that goes out is one more, and at last there is none.
use Rattle.std.proofs.Common.{refl, ◌≡◌, ◌∙◌, ◌++◌, ap, sym, subst, map, [], ◌∷◌, ◌<◌}
use Rattle.std.proofs.lemmas.List.{map-append}
use Rattle.mux_frame.specs.Frames.{frame_of}
use Rattle.mux_station.specs.GivenFrames.{outgoing_of}
use Rattle.modem_history.specs.Acts.{act_of, Sent}
use Rattle.modem_history.specs.declared.act.Act.TheVariants as act
use Rattle.modem_core.specs.Cores.{Core}
use Rattle.modem_core.specs.CoreGoing.{left_to_go}
use Rattle.modem_core.specs.Running.{CoreIsIdle}
use Rattle.modem_core.proofs.outgoing.FramesAfterCall.{nothing_gone_out, sends_mark, sends_data, sends_all, n1_stays, idle_stays}
use Rattle.modem_core.proofs.replaying.send_all.Goals as goal

pub loop-outgoing-init : goal.loop-outgoing-init
loop-outgoing-init c = record { sends = nothing_gone_out c.args.core.now (map act_of c.args.acts.now.items); n1 = refl }

pub loop-outgoing-smaller-in_ok-push : goal.loop-outgoing-smaller-in_ok-push
loop-outgoing-smaller-in_ok-push c = subst (λ (v : Core). left_to_go v < left_to_go c.loop-outgoing.core) (sym c.outgoing.follows.holds-at-none) c.in-Some.ensures.less

pub loop-outgoing-preserved-in_ok-push : goal.loop-outgoing-preserved-in_ok-push
loop-outgoing-preserved-in_ok-push c =
    let sent : map act_of c.push.new.self.items ≡ map act_of c.loop-outgoing.acts.items ++ Sent (frame_of c.in-Some.outgoing.frame) ∷ [] =
    ap (map act_of) c.in_ok-push.ensures.items ∙ (map-append act_of c.loop-outgoing.acts.items (act.Sent c.in_ok-to_buf.field-0 ∷ [])
    ∙ ap (λ (f : _). map act_of c.loop-outgoing.acts.items ++ Sent f ∷ []) c.in_ok-to_buf.ensures) in
    record {
      sends = sends_data c.args.core.now c.loop-outgoing.core c.outgoing.follows.lender-at-none (map act_of c.args.acts.now.items) (map act_of c.loop-outgoing.acts.items) (map act_of c.push.new.self.items) (outgoing_of c.in-Some.outgoing)
          c.loop-outgoing.invariant.sends c.in-Some.ensures.frame c.in-Some.ensures.past c.if-outgoing.true c.outgoing.follows.holds-at-none sent;
      n1 = ap (λ (v : Core). v.station.n1) c.outgoing.follows.holds-at-none ∙ (n1_stays c.loop-outgoing.core ∙ c.loop-outgoing.invariant.n1);
    }

pub loop-outgoing-smaller : goal.loop-outgoing-smaller
loop-outgoing-smaller c = subst (λ (v : Core). left_to_go v < left_to_go c.loop-outgoing.core) (sym c.outgoing.follows.holds-at-none) c.in-Some.ensures.less

pub loop-outgoing-preserved : goal.loop-outgoing-preserved
loop-outgoing-preserved c = record {
  sends = sends_mark c.args.core.now c.loop-outgoing.core c.outgoing.follows.lender-at-none (map act_of c.args.acts.now.items) (map act_of c.loop-outgoing.acts.items) (outgoing_of c.in-Some.outgoing)
      c.loop-outgoing.invariant.sends c.in-Some.ensures.frame c.in-Some.ensures.past c.if-outgoing.false c.outgoing.follows.holds-at-none;
  n1 = ap (λ (v : Core). v.station.n1) c.outgoing.follows.holds-at-none ∙ (n1_stays c.loop-outgoing.core ∙ c.loop-outgoing.invariant.n1);
}

pub returns-clause-sends : goal.returns-clause-sends
returns-clause-sends c =
    sends_all c.args.core.now c.loop-outgoing.core c.outgoing.follows.lender-at-none (map act_of c.args.acts.now.items) (map act_of c.loop-outgoing.acts.items)
    c.loop-outgoing.invariant.sends c.in_default.ensures.frame c.in_default.ensures.past c.outgoing.follows.holds-at-none

pub returns-clause-idle : goal.returns-clause-idle
returns-clause-idle c = subst CoreIsIdle (sym c.outgoing.follows.holds-at-none) (idle_stays c.loop-outgoing.core c.in_default.ensures.idle)

pub returns-clause-n1 : goal.returns-clause-n1
returns-clause-n1 c = ap (λ (v : Core). v.station.n1) c.outgoing.follows.holds-at-none ∙ (n1_stays c.loop-outgoing.core ∙ c.loop-outgoing.invariant.n1)
