-- What data calls for has room: it calls for nothing.
use Rattle.std.proofs.Common.{◌≡◌, ℕ, List, [], ◌∙◌, ap, sym, subst, true}
use Rattle.std.proofs.lemmas.Bool.{and_parts}
use Rattle.mux_frame.specs.Frames.{Frame, frame_of}
use Rattle.mux_station.specs.declared.role.Role.{Role}
use Rattle.mux_station.specs.States.{State, is_opened}
use Rattle.mux_station.specs.Stations.{channel_at}
use Rattle.mux_station.specs.Tables.{have_room, octets_of, by_frame}
use Rattle.mux_station.specs.Written.{is_data_frame}
use Rattle.modem_history.specs.Acts.{Got}
use Rattle.modem_core.specs.Cores.{Core}
use Rattle.modem_core.specs.Receiving.{HasRoom, brings_data}
use Rattle.modem_core.proofs.frames.DataLines.{data_frames}
use Rattle.modem_core.proofs.frames.OtherFrames.{live_in, read_in, room_is}
use Rattle.modem_core.proofs.outgoing.CoreAfterFrame.{sound}
use Rattle.modem_core.proofs.driver.Core.is_data.Goals as goal

pub returns-clause-room : goal.returns-clause-room
returns-clause-room c said =
    let v : Core = record { station = c.self.inside.station; lanes = c.self.inside.lanes; hand = c.self.inside.hand; rules = c.self.inside.dialect; kinds = c.self.inside.kinds.items; lost = c.self.inside.lost } in
    let f = frame_of c.args.frame in
    let state : ℕ → State = λ d. (channel_at v.station d).state in
    let brings : brings_data v f ≡ true = ap (λ (w : Core). brings_data w f) c.self.view_is ∙ (sym c.brings_data.ensures ∙ said) in
    let carries = (and_parts (is_opened (channel_at v.station f.dlci).state) (is_data_frame f) (read_in v f brings)).1 in
    let none : by_frame v.station.role state f ≡ [] = ap (λ (r : Role). by_frame r state f) c.self.invariant.role_is ∙ data_frames state f carries in
    subst (λ (w : Core). HasRoom w (Got f) true) c.self.view_is
    (room_is v f true (sound v c.self.inside.n1 c.self.invariant) (live_in v f brings) c.args.frame.dlci.in_range (ap (λ (fs : List Frame). have_room v.station.n1 (octets_of v.station.queue) fs) none))
