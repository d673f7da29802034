-- A frame that comes, and one that goes out, keep what is held.
use Rattle.std.specs.Prelude.{zero, suc, ◌≡◌, ℕ, ◌<◌, ◌==◌, nat_le, Bool, true, false, List, [], ◌∷◌, length, slice_set, slice_index_or, refl, Option, None, Some, is_none, if◌then◌else◌}
use Rattle.std.specs.List.{list_any}
use Rattle.std.proofs.Common.{ap, sym, ◌∙◌, subst, eqb-true}
use Rattle.std.proofs.lemmas.Bool.{and_parts}
use Rattle.mux_frame.specs.Frames.{Frame}
use Rattle.mux_station.specs.declared.role.Role.{Role}
use Rattle.mux_station.specs.declared.role.Role.TheVariants.{Initiator}
use Rattle.mux_station.specs.declared.noted.Noted.{Noted}
use Rattle.mux_station.specs.Acts as station
use Rattle.mux_station.specs.Written.{is_data_frame}
use Rattle.mux_station.specs.Opening.{opens_now, is_open, is_asked}
use Rattle.mux_station.proofs.states.OpeningSteps.{is_open_after}
use Rattle.mux_station.specs.Sending.{station_view as station_seen}
use Rattle.mux_station.specs.Noting.{noted_of, says_open}
use Rattle.mux_station.specs.Stations.{Station, channel_at, setting_of}
use Rattle.mux_station.specs.Giving.{next_sender, station_after}
use Rattle.mux_station.specs.GivenFrames.{Outgoing}
use Rattle.mux_station.specs.Fitting as station_fits
use Rattle.mux_station.proofs.received.StatesAfterFrames.{opens_elsewhere}
use Rattle.at_text.specs.UnderWay.{unanswered}
use Rattle.modem_history.specs.Acts.{Act, Got, Sent, Given, after, wire}
use Rattle.modem_history.specs.Information.{opens_here}
use Rattle.modem_history.specs.Requests.{commands_on}
use Rattle.modem_history.specs.Calls.{Setting}
use Rattle.modem_history.specs.Holding.{last_held}
use Rattle.modem_history.proofs.calls.CallEnds.{ended}
use Rattle.modem_history.proofs.requests.StepOfFrame.{data_opens_none, got_was}
use Rattle.modem_history.proofs.connections.ShutAfterLoss.{none_open}
use Rattle.modem_core.specs.Lanes.{Lane, new_lane}
use Rattle.modem_core.specs.Cores.{Core, Handles, lane_at}
use Rattle.modem_core.specs.CoreGoing.{begun_by, begun_on, begun_next, gone_on}
use Rattle.modem_history.specs.GoingOut.{next_out, with_out}
use Rattle.modem_core.specs.Handing.{EndedBy}
use Rattle.modem_core.specs.Receiving.{afresh_if}
use Rattle.modem_core.specs.Holding.{HoldsFit, KeepsHeld, KeepsHeldOut}
use Rattle.modem_core.proofs.holds.HeldAndFreed.{call_held, if_not}
use Rattle.modem_core.proofs.frames.LanesAfterFrame.{opens_noted, opens_seen, afresh_here, afresh_same}
use Rattle.modem_core.proofs.outgoing.CoreAfterFrame.{IsSound, running}
use Rattle.modem_core.proofs.cores.UnchangedParts.{all_was}

-- ## Lanes

-- a lane that is held as the one before it
set_held : (lanes : List Lane) (e d : ℕ) (lane : Lane) → lane.held ≡ (slice_index_or lanes e new_lane).held → (slice_index_or (slice_set lanes e lane) d new_lane).held ≡ (slice_index_or lanes d new_lane).held
set_held [] e d lane h = refl
set_held (x ∷ xs) zero zero lane h = h
set_held (x ∷ xs) zero (suc d) lane h = refl
set_held (x ∷ xs) (suc e) zero lane h = refl
set_held (x ∷ xs) (suc e) (suc d) lane h = set_held xs e d lane h

-- ## A frame that comes

frame_was : (s : Setting) (d : ℕ) (past : List Act) (f : Frame) → s.role ≡ Initiator → opens_now Initiator d (wire past) (station.Got f) ≡ false → is_open Initiator d (wire (ended s past (Got f))) ≡ true
    → is_open Initiator d (wire past) ≡ true
frame_was s d past f role n o =
    subst (λ (r : Role). is_open r d (wire past) ≡ true) role
    (got_was s d past f (subst (λ (r : Role). opens_now r d (wire past) (station.Got f) ≡ false) (sym role) n) (subst (λ (r : Role). is_open r d (wire (ended s past (Got f))) ≡ true) (sym role) o))

-- after a loss none is open
pub lost_holds : (v : Core) (f : Frame) (acts : List Act) → v.lost ≡ true → Handles v v (Got f) acts → KeepsHeld v v (Got f) acts
unfolding Handles KeepsHeld
lost_holds v f acts n h s past m g =
    let e = h s past m in
    let shut : (d : ℕ) → is_open Initiator d (wire (after past acts)) ≡ false
    = λ d. ap (λ (r : Role). is_open r d (wire (after past acts))) (sym m.setting.role_is) ∙ none_open s d (after past acts) m.setting.role_is e.run.lawful (e.fits.lost_is ∙ n) in
    record { held_are = λ d b z o. absurd (let x : true ≡ false = sym o ∙ shut d in cc) }

ended_lanes : (done : Bool) (kept new : Core) (d : ℕ) → EndedBy done kept new d → new.lanes ≡ kept.lanes
ended_lanes true kept new d e = ap (λ (v : Core). v.lanes) e.new_is
ended_lanes false kept new d e = ap (λ (v : Core). v.lanes) e

-- data opens nothing, and is kept in a lane that is held as before
pub data_holds : (old new : Core) (f : Frame) (lane : Lane) (st : Station) (done : Bool) (acts : List Act) → is_data_frame f ≡ true → lane.held ≡ (lane_at old f.dlci).held
    → EndedBy done (record old { station = st; lanes = slice_set old.lanes f.dlci lane }) new f.dlci → Handles old new (Got f) acts → KeepsHeld old new (Got f) acts
unfolding Handles KeepsHeld
data_holds old new f lane st done acts quiet held e h s past m g =
    let lanes : new.lanes ≡ slice_set old.lanes f.dlci lane = ended_lanes done _ new f.dlci e in
    let never : (d : ℕ) → opens_now Initiator d (wire past) (station.Got f) ≡ false = λ d. data_opens_none Initiator refl (is_open Initiator 0 (wire past)) (is_asked Initiator d (wire past)) d f quiet in
    let there : HoldsFit new (ended s past (Got f)) = record {
      held_are = λ d b z o.
          call_held s past (Got f) Initiator d
          ∙ (if_not (opens_here Initiator d past (Got f)) (last_held Initiator d past) (never d)
          ∙ (g.held_are d b z (frame_was s d past f m.setting.role_is (never d) o)
          ∙ sym (ap (λ (ls : List Lane). (slice_index_or ls d new_lane).held) lanes ∙ set_held old.lanes f.dlci d lane held)));
    } in
    subst (λ (x : List Act). HoldsFit new (after past x)) (sym (h s past m).called) there

-- a connection that opens isn't held, and neither is its lane
pub other_holds : (old new : Core) (f : Frame) (n : Noted) (acts : List Act) → IsSound old → old.lost ≡ false → f.dlci < 62
    → ((past : List station.Act) → station_fits.StationFits old.station past → n ≡ noted_of old.station.role (station_seen (setting_of old.station) past) f) → new.lanes ≡ afresh_if (says_open n) f.dlci old.lanes
    → Handles old new (Got f) acts → KeepsHeld old new (Got f) acts
unfolding Handles KeepsHeld
other_holds old new f n acts i live k noted lanes h s past m g =
    let r = running old past live m.fits in
    let opens : says_open n ≡ opens_now Initiator f.dlci (wire past) (station.Got f)
    = opens_noted old.station r.seen f n i.role_is r.fits k (noted r.seen r.fits) ∙ opens_seen f.dlci r.seen past (station.Got f) r.same in
    let there : HoldsFit new (ended s past (Got f)) = record {
      held_are = λ d b z o. call_held s past (Got f) Initiator d ∙ (by_open opens d b z o (opens_now Initiator d (wire past) (station.Got f)) refl ∙ sym (ap (λ (ls : List Lane). (slice_index_or ls d new_lane).held) lanes));
    } in
    subst (λ (x : List Act). HoldsFit new (after past x)) (sym (h s past m).called) there
  where
    by_open : says_open n ≡ opens_now Initiator f.dlci (wire past) (station.Got f) → (d : ℕ) → d < 62 → (d == 0) ≡ false → is_open Initiator d (wire (ended s past (Got f))) ≡ true
        → (x : Bool) → opens_now Initiator d (wire past) (station.Got f) ≡ x → last_held Initiator d (Got f ∷ past) ≡ (slice_index_or (afresh_if (says_open n) f.dlci old.lanes) d new_lane).held
    by_open opens d b z o true q = ap (λ (x : Bool). if x then false else last_held Initiator d past) q ∙ by_same (f.dlci == d) refl
      where
        by_same : (x : Bool) → (f.dlci == d) ≡ x → false ≡ (slice_index_or (afresh_if (says_open n) f.dlci old.lanes) d new_lane).held
        by_same false p = absurd (let x : true ≡ false = sym q ∙ opens_elsewhere Initiator d (wire past) f p in cc)
        by_same true p =
            let same : f.dlci ≡ d = eqb-true f.dlci d p in
            let here : slice_index_or (afresh_if (says_open n) f.dlci old.lanes) f.dlci new_lane ≡ new_lane
            = afresh_here (says_open n) f.dlci old.lanes (opens ∙ subst (λ (x : ℕ). opens_now Initiator x (wire past) (station.Got f) ≡ true) (sym same) q) (subst (λ (x : ℕ). f.dlci < x) (sym i.all) k) in
            sym (ap (λ (x : Lane). x.held) (subst (λ (x : ℕ). slice_index_or (afresh_if (says_open n) f.dlci old.lanes) x new_lane ≡ new_lane) same here))
    by_open opens d b z o false q =
        let there : slice_index_or (afresh_if (says_open n) f.dlci old.lanes) d new_lane ≡ lane_at old d
        = afresh_same (says_open n) f.dlci d old.lanes (λ p. opens ∙ subst (λ (x : ℕ). opens_now Initiator x (wire past) (station.Got f) ≡ false) (sym (eqb-true f.dlci d p)) q) in
        if_not (opens_here Initiator d past (Got f)) (last_held Initiator d past) q ∙ (g.held_are d b z (frame_was s d past f m.setting.role_is q o) ∙ sym (ap (λ (x : Lane). x.held) there))

-- ## A frame that goes out

out_lasts : (o : Option Outgoing) (d : ℕ) (past : List Act) → last_held Initiator d (with_out o past) ≡ last_held Initiator d past
out_lasts None d past = refl
out_lasts (Some x) d past = by_fresh x.fresh
  where
    by_fresh : (b : Bool) → last_held Initiator d ((if b then Sent x.frame else Given) ∷ past) ≡ last_held Initiator d past
    by_fresh true = refl
    by_fresh false = refl

out_was : (o : Option Outgoing) (d : ℕ) (past : List Act) → is_open Initiator d (wire (with_out o past)) ≡ true → is_open Initiator d (wire past) ≡ true
out_was None d past h = h
out_was (Some x) d past h = by_fresh x.fresh h
  where
    by_fresh : (b : Bool) → is_open Initiator d (wire ((if b then Sent x.frame else Given) ∷ past)) ≡ true → is_open Initiator d (wire past) ≡ true
    by_fresh true k = all_was Initiator d (x.frame ∷ []) (wire past) k
    by_fresh false k = (and_parts (is_open Initiator d (wire past)) _ (sym (is_open_after Initiator d (wire past) station.Given) ∙ k)).0

begun_held : (v : Core) (o : Option ℕ) (d : ℕ) → (lane_at (begun_on v o) d).held ≡ (lane_at v d).held
begun_held v None d = refl
begun_held v (Some e) d = by_whole (nat_le (length (channel_at v.station e).waiting) v.station.n1) (list_any (commands_on e) v.hand)
  where
    by_whole : (b has : Bool) → (lane_at (if b then begun_by v e has else v) d).held ≡ (lane_at v d).held
    by_whole false has = refl
    by_whole true false = refl
    by_whole true true = by_idle (is_none (lane_at v e).under_way)
      where
        by_idle : (b : Bool) → (lane_at (if b then record v { lanes = slice_set v.lanes e (record (lane_at v e) { under_way = Some unanswered }) } else v) d).held ≡ (lane_at v d).held
        by_idle true = set_held v.lanes e d (record (lane_at v e) { under_way = Some unanswered }) refl
        by_idle false = refl

gone_held : (v : Core) (d : ℕ) → (lane_at (gone_on v) d).held ≡ (lane_at v d).held
gone_held v d = by_lost v.lost
  where
    by_lost : (b : Bool) → (lane_at (if b then v else record (begun_next v) { station = station_after v.station v.station.queue }) d).held ≡ (lane_at v d).held
    by_lost true = refl
    by_lost false = begun_held v (next_sender v.station v.station.queue) d

-- what goes out next holds nothing and frees nothing, and each lane stays held or free
pub out_holds : (v : Core) → KeepsHeldOut v
unfolding KeepsHeldOut
out_holds v s past m g = record {
  held_are = λ d b z o. out_lasts (next_out s past) d past ∙ (g.held_are d b z (out_was (next_out s past) d past o) ∙ sym (gone_held v d));
}
