-- The station says so.
use Rattle.std.proofs.Common.{◌≡◌, ◌≤◌, Bool, length, ◌∙◌, ap, sym, subst}
use Rattle.std.specs.Prelude.{Some, None, if◌then◌else◌}
use Rattle.mux_frame.specs.Frames.{frame_of}
use Rattle.mux_frame.specs.Spelling.{most_info}
use Rattle.mux_station.specs.declared.error.StationError.TheVariants as StationError
use Rattle.mux_station.specs.Sending.{got_refused}
use Rattle.mux_station.specs.Stations.{setting_of, seen_in}
use Rattle.modem_history.specs.Acts.{Got}
use Rattle.modem_core.specs.Cores.{Core}
use Rattle.modem_core.specs.Receiving.{HasRoom}
use Rattle.modem_core.specs.Running.{CoreIsIdle}
use Rattle.modem_core.proofs.frames.OtherFrames.{room_is}
use Rattle.modem_core.proofs.frames.QueueRoom.{never_full}
use Rattle.modem_core.proofs.outgoing.CoreAfterFrame.{sound}
use Rattle.modem_core.proofs.driver.Core.has_live_room.Goals as goal

pub returns-clause-room : goal.returns-clause-room
returns-clause-room c =
    let v : Core = record { station = c.self.inside.station; lanes = c.self.inside.lanes; hand = c.self.inside.hand; rules = c.self.inside.dialect; kinds = c.self.inside.kinds.items; lost = c.self.inside.lost } in
    let f = frame_of c.args.frame in
    let live = ap (λ (x : Core). x.lost) c.self.view_is ∙ c.requires.live in
    subst (λ (x : Core). HasRoom x (Got f) c.has_room_for.result) c.self.view_is
    (room_is v f c.has_room_for.result (sound v c.self.inside.n1 c.self.invariant) live c.args.frame.dlci.in_range (sym c.has_room_for.ensures))

pub returns-clause-never_full : goal.returns-clause-never_full
returns-clause-never_full c none =
    let v : Core = record { station = c.self.inside.station; lanes = c.self.inside.lanes; hand = c.self.inside.hand; rules = c.self.inside.dialect; kinds = c.self.inside.kinds.items; lost = c.self.inside.lost } in
    let f = frame_of c.args.frame in
    let live = ap (λ (x : Core). x.lost) c.self.view_is ∙ c.requires.live in
    let refused : Some StationError.NoRoom ≡ got_refused (setting_of v.station) (seen_in v.station) f = ap (λ (b : Bool). if b then None else Some StationError.NoRoom) (sym none ∙ c.has_room_for.ensures) in
    let short = subst (λ (x : Core). length f.info ≤ most_info x.station.n1 f.kind) (sym c.self.view_is) c.requires.short in
    subst (λ (x : Core). ¬ CoreIsIdle x) c.self.view_is
    (never_full v f StationError.NoRoom (sound v c.self.inside.n1 c.self.invariant) live short refused)
