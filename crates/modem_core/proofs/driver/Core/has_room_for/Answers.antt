-- After a loss nothing is called for.
use Rattle.std.proofs.Common.{◌∙◌, ap, sym}
use Rattle.mux_frame.specs.Frames.{frame_of}
use Rattle.modem_core.specs.Cores.{Core}
use Rattle.modem_core.proofs.cores.FramesAfterLoss.{lost_room}
use Rattle.modem_core.proofs.driver.Core.has_room_for.Goals as goal

pub returns-then-self-clause-room : goal.returns-then-self-clause-room
returns-then-self-clause-room c = lost_room c.args.self.now (frame_of c.args.frame) (ap (λ (v : Core). v.lost) (sym c.self.view_is) ∙ c.if-self.true)

pub has_live_room-requires-clause-live : goal.has_live_room-requires-clause-live
has_live_room-requires-clause-live c = ap (λ (v : Core). v.lost) (sym c.self.view_is) ∙ c.if-self.false
