-- The initiator sends to the modem, the responder from there.
use Rattle.std.specs.Prelude.{◌≡◌, List, ◌∷◌}
use Rattle.std.proofs.Common.{sym, subst}
use Rattle.std.proofs.lemmas.Result.{IfOk-weaker}
use Rattle.mux_frame.specs.Frames.{frame_of}
use Rattle.mux_capture.specs.declared.packet.Direction.{Direction}
use Rattle.mux_capture.specs.Passing.{Caught}
use Rattle.modem_show.specs.Ways.{caught}
use Rattle.modem_show.specs.Judging.{Watch, WatchFits, Passes, JudgedBy, faults_of}
use Rattle.modem_show.proofs.Passing.{watch_to, watch_from, judged_to, judged_from}
use Rattle.modem_show.proofs.watcher.Watcher.see.Goals as goal

pub returns-in-ToModem-clause-past : goal.returns-in-ToModem-clause-past
returns-in-ToModem-clause-past c =
    let here = caught c.args.stamp c.args.direction (frame_of c.args.frame) in
    let w : Watch = record { n1 = c.self.inside.n1; initiator = c.self.inside.initiator; responder = c.self.inside.responder } in
    IfOk-weaker c.pass.result
    (λ faults. (direction : Direction) → Passes (caught c.args.stamp direction (frame_of c.args.frame)) c.self.inside.initiator c.self.inside.responder c.pass.new.from c.pass.new.to)
    (λ faults. (line : List Caught) → WatchFits c.args.self.now line → WatchFits (record { n1 = c.self.inside.n1; initiator = c.pass.new.from; responder = c.pass.new.to }) (here ∷ line))
    (λ faults h. λ line fits. watch_to w c.args.stamp c.args.direction (frame_of c.args.frame) c.pass.new.from c.pass.new.to c.in-ToModem.is (h c.args.direction) line (subst (λ (v : Watch). WatchFits v line) (sym c.self.view_is) fits))
    c.pass.ensures.fits

pub returns-in-ToModem-clause-faults : goal.returns-in-ToModem-clause-faults
returns-in-ToModem-clause-faults c =
    let here = caught c.args.stamp c.args.direction (frame_of c.args.frame) in
    let w : Watch = record { n1 = c.self.inside.n1; initiator = c.self.inside.initiator; responder = c.self.inside.responder } in
    IfOk-weaker c.pass.result
    (λ faults. (direction : Direction) → JudgedBy c.self.inside.n1 (caught c.args.stamp direction (frame_of c.args.frame)) c.self.inside.initiator c.self.inside.responder faults)
    (λ faults. (line : List Caught) → WatchFits c.args.self.now line → faults ≡ faults_of c.args.self.now.n1 line here)
    (λ faults h. subst (λ (v : Watch). (line : List Caught) → WatchFits v line → faults ≡ faults_of v.n1 line here) c.self.view_is
    (judged_to w c.args.stamp c.args.direction (frame_of c.args.frame) faults c.in-ToModem.is (h c.args.direction)))
    c.pass.ensures.faults

pub returns-in-FromModem-clause-past : goal.returns-in-FromModem-clause-past
returns-in-FromModem-clause-past c =
    let here = caught c.args.stamp c.args.direction (frame_of c.args.frame) in
    let w : Watch = record { n1 = c.self.inside.n1; initiator = c.self.inside.initiator; responder = c.self.inside.responder } in
    IfOk-weaker c.pass-in-FromModem.result
    (λ faults. (direction : Direction) → Passes (caught c.args.stamp direction (frame_of c.args.frame)) c.self.inside.responder c.self.inside.initiator c.pass-in-FromModem.new.from c.pass-in-FromModem.new.to)
    (λ faults. (line : List Caught) → WatchFits c.args.self.now line → WatchFits (record { n1 = c.self.inside.n1; responder = c.pass-in-FromModem.new.from; initiator = c.pass-in-FromModem.new.to }) (here ∷ line))
    (λ faults h. λ line fits. watch_from w c.args.stamp c.args.direction (frame_of c.args.frame) c.pass-in-FromModem.new.from c.pass-in-FromModem.new.to c.in-FromModem.is (h c.args.direction) line (subst (λ (v : Watch). WatchFits v line) (sym c.self.view_is) fits))
    c.pass-in-FromModem.ensures.fits

pub returns-in-FromModem-clause-faults : goal.returns-in-FromModem-clause-faults
returns-in-FromModem-clause-faults c =
    let here = caught c.args.stamp c.args.direction (frame_of c.args.frame) in
    let w : Watch = record { n1 = c.self.inside.n1; initiator = c.self.inside.initiator; responder = c.self.inside.responder } in
    IfOk-weaker c.pass-in-FromModem.result
    (λ faults. (direction : Direction) → JudgedBy c.self.inside.n1 (caught c.args.stamp direction (frame_of c.args.frame)) c.self.inside.responder c.self.inside.initiator faults)
    (λ faults. (line : List Caught) → WatchFits c.args.self.now line → faults ≡ faults_of c.args.self.now.n1 line here)
    (λ faults h. subst (λ (v : Watch). (line : List Caught) → WatchFits v line → faults ≡ faults_of v.n1 line here) c.self.view_is
    (judged_from w c.args.stamp c.args.direction (frame_of c.args.frame) faults c.in-FromModem.is (h c.args.direction)))
    c.pass-in-FromModem.ensures.faults
