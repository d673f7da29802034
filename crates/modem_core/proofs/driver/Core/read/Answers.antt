-- A frame of data that was read is handled.
use Rattle.std.proofs.Common.{◌≡◌, ◌∙◌, ap, subst, true, List, ◌∷◌, length}
use Rattle.std.specs.Prelude.{is_some, option_map}
use Rattle.std.proofs.lemmas.Bool.{and_parts}
use Rattle.mux_frame.specs.Frames.{frame_of}
use Rattle.modem_history.specs.Acts.{Got}
use Rattle.modem_history.specs.Calls.{first_on}
use Rattle.modem_queues.specs.Stops.{asker_of}
use Rattle.modem_core.specs.Cores.{Core, Handles, lane_at}
use Rattle.modem_core.specs.Lanes.{Lane}
use Rattle.modem_core.specs.Receiving.{Brings, HasRoom, brings_data}
use Rattle.modem_core.specs.Settling.{with_told, with_whole}
use Rattle.modem_core.proofs.outgoing.CoreAfterFrame.{sound}
use Rattle.modem_core.proofs.frames.OtherFrames.{live_in, read_in}
use Rattle.modem_core.proofs.frames.DataStays.{data_stays, noted_in, noted_truly, data_room}
use Rattle.modem_core.proofs.frames.DataFrames.{DataCame, data_handles}
use Rattle.modem_core.proofs.frames.ReadFrames.{HasLane, data_came}
use Rattle.modem_core.proofs.holds.HoldsAndFrames.{data_holds}
use Rattle.modem_core.proofs.lines.ReportedLines.{FrameSays, reads_frame}
use Rattle.modem_core.proofs.driver.Core.read.Goals as goal

pub returns-clause-brings : goal.returns-clause-brings
returns-clause-brings g c =
    let k = c.self.inside in
    let f = frame_of c.args.frame in
    let v : Core = record { station = k.station; lanes = k.lanes; hand = k.hand; rules = k.dialect; kinds = k.kinds.items; lost = k.lost } in
    let mid : Core = record v { lanes = c.read.new.self } in
    let new = c.answer.new.self in
    let lane = lane_at mid f.dlci in
    let whole = c.in_ok-whole.whole in
    let was = g.P.LineRoom.heard c.args.lines.now in
    let heard = g.P.LineRoom.heard c.read.new.lines in
    let owner = option_map asker_of (first_on f.dlci k.hand) in
    let is_data : brings_data v f ≡ true = ap (λ (x : Core). brings_data x f) c.self.view_is ∙ c.requires.is_data in
    let says : FrameSays v f lane was (with_whole owner whole heard)
    = reads_frame v f c.as_slice.result.now c.echo_text.result.now lane was (with_whole owner whole heard) c.as_slice.ensures.value c.echo_text.ensures (c.in_ok-whole.ensures.read owner) in
    let acts = Got f ∷ says.said in
    let quiet = (and_parts _ _ (read_in v f is_data)).1 in
    let m : HasLane v mid f.dlci lane = ap (λ (ls : List Lane). let x : Core = record v { lanes = ls } in x) c.read.ensures.lanes in
    let came : DataCame v new f (noted_in k.station f) lane k.station acts
    = data_came v mid new f lane acts (is_some whole) (noted_in k.station f) k.station (live_in v f is_data) (read_in v f is_data) c.args.frame.dlci.in_range
    says.reads m c.in_ok-whole.ensures.done (data_stays k.station f c.self.invariant.role_is quiet) (noted_truly k.station f c.args.frame.dlci.in_range) c.answer.ensures.ends in
    let past : Handles v new (Got f) acts = data_handles v new f (noted_in k.station f) lane k.station acts (sound v k.n1 c.self.invariant) came in
    subst (λ (x : Core). Brings x new f was (with_told c.answer.result heard)) c.self.view_is (record {
      said = says.said;
      now_is = c.answer.ensures.told heard ∙ says.now_is;
      past = past;
      holds = data_holds v new f lane k.station _ acts quiet c.read.ensures.held came.ends past;
    })

pub returns-clause-within : goal.returns-clause-within
returns-clause-within g c = c.answer.ensures.within (length (g.P.LineRoom.heard c.read.new.lines)) c.in_ok-whole.ensures.within

pub returns-clause-has_room : goal.returns-clause-has_room
returns-clause-has_room g c =
    let k = c.self.inside in
    let f = frame_of c.args.frame in
    let v : Core = record { station = k.station; lanes = k.lanes; hand = k.hand; rules = k.dialect; kinds = k.kinds.items; lost = k.lost } in
    let is_data : brings_data v f ≡ true = ap (λ (x : Core). brings_data x f) c.self.view_is ∙ c.requires.is_data in
    subst (λ (x : Core). HasRoom x (Got f) true) c.self.view_is
    (data_room v f (sound v k.n1 c.self.invariant) (live_in v f is_data) c.args.frame.dlci.in_range (and_parts _ _ (read_in v f is_data)).1)
