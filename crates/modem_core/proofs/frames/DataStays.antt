-- A station stays as it is where data comes: it fits each past with that behind it.
use Rattle.std.specs.Prelude.{◌≡◌, ℕ, ◌<◌, Bool, true, false, List, [], ◌∷◌, refl, Option, None, Some, Ok, if◌then◌else◌}
use Rattle.std.specs.List.{list_any}
use Rattle.std.proofs.Common.{◌∙◌, ap, sym, subst, arith}
use Rattle.mux_frame.specs.Frames.{Frame}
use Rattle.mux_frame.specs.declared.frame.Kind.TheVariants.{Uih}
use Rattle.mux_station.specs.declared.role.Role.{Role}
use Rattle.mux_station.specs.declared.role.Role.TheVariants.{Initiator}
use Rattle.mux_station.specs.declared.noted.Noted.{Noted}
use Rattle.mux_station.specs.Written.{is_on, is_data_frame}
use Rattle.mux_station.specs.Messages.{Message, message_in, message_of}
use Rattle.mux_station.specs.Acts.{Act, Got}
use Rattle.mux_station.specs.Opening.{opens_now}
use Rattle.mux_station.specs.States.{State, is_opened, state_of}
use Rattle.mux_station.specs.Stopping.{got_says, msc_says, flow_says, if_message}
use Rattle.mux_station.specs.Tables.{by_frame, have_room, octets_of}
use Rattle.mux_station.specs.Noting.{noted_of}
use Rattle.mux_station.specs.Sending.{StationSetting, Waiting, is_loss, station_view, called_frames, sent_after, probe_of, zero_stays}
use Rattle.mux_station.specs.Stations.{Station, channel_at, setting_of, seen_in}
use Rattle.mux_station.specs.Fitting.{StationFits, StationHandles}
use Rattle.mux_station.proofs.states.StatesAfterActs.{untouched}
use Rattle.mux_station.proofs.user_calls.CallFrames.{all_untouched, probe_needs}
use Rattle.mux_station.proofs.user_calls.OpenAndClose.{stop_in_past}
use Rattle.mux_station.proofs.received.TableFrames.{kept, got_kept, zero_stays_same}
use Rattle.mux_station.proofs.received.AnsweredFrames.{noted_in_past}
use Rattle.modem_history.proofs.outcomes.OutcomeCounts.{is_data}
use Rattle.modem_history.proofs.requests.StepsOfHistory.{not_on_zero}
use Rattle.modem_history.specs.Acts as history
use Rattle.modem_core.specs.Cores.{Core}
use Rattle.modem_core.specs.Receiving.{HasRoom}
use Rattle.modem_core.proofs.outgoing.CoreAfterFrame.{IsSound}
use Rattle.modem_core.proofs.frames.DataLines.{data_frames, data_state}
use Rattle.modem_core.proofs.frames.OtherFrames.{room_is}

-- ## What it leaves

off_zero : (f : Frame) → is_data_frame f ≡ true → is_on Uih 0 f ≡ false
off_zero f e = ap (is_on Uih 0) (is_data f e) ∙ not_on_zero f e

opens_none : (d : ℕ) (past : List Act) (f : Frame) → is_data_frame f ≡ true → opens_now Initiator d past (Got f) ≡ false
opens_none d past f e = ap (λ (g : Frame). opens_now Initiator d past (Got g)) (is_data f e)

no_message : (f : Frame) → is_data_frame f ≡ true → message_in f ≡ None
no_message f e = ap (λ (b : Bool). if b then message_of f.info else None) (off_zero f e)

says_nothing : (say : Message → Option Bool) (f : Frame) → is_data_frame f ≡ true → got_says say (Got f) ≡ None
says_nothing say f e = ap (if_message say) (no_message f e)

kept_none : (z : Bool) (o : Option Waiting) → (z ≡ false → o ≡ None) → kept z None o ≡ o
kept_none z None h = refl
kept_none true (Some w) h = refl
kept_none false (Some w) h = let e : Some w ≡ None = h refl in cc

probe_left : (s : StationSetting) (past : List Act) (f : Frame) → s.role ≡ Initiator → is_data_frame f ≡ true → probe_of s (Got f ∷ past) ≡ probe_of s past
probe_left s past f i e =
    let z = is_opened (state_of s.role 0 past) in
    let none : opens_now s.role 0 past (Got f) ≡ false = ap (λ (r : Role). opens_now r 0 past (Got f)) i ∙ opens_none 0 past f e in
    let same : state_of s.role 0 (Got f ∷ past) ≡ state_of s.role 0 past
    = ap (λ (r : Role). state_of r 0 (Got f ∷ past)) i ∙ (data_state f past 0 e ∙ ap (λ (r : Role). state_of r 0 past) (sym i)) in
    got_kept s (zero_stays s past (Got f)) (probe_of s past) f
    ∙ (ap (λ (b : Bool). kept b (message_in f) (probe_of s past)) (zero_stays_same s past f none same)
    ∙ (ap (λ (m : Option Message). kept z m (probe_of s past)) (no_message f e)
    ∙ kept_none z (probe_of s past) (λ (k : z ≡ false). probe_needs s past k)))

none_called : (s : StationSetting) (past : List Act) (f : Frame) → s.role ≡ Initiator → is_data_frame f ≡ true → called_frames s past (Got f) ≡ []
none_called s past f i e = by_test (list_any is_loss past)
  where
    none : by_frame s.role (station_view s past).state f ≡ []
    none = ap (λ (r : Role). by_frame r (station_view s past).state f) i ∙ data_frames (station_view s past).state f e

    by_test : (b : Bool) → (if b then [] else by_frame s.role (station_view s past).state f) ≡ []
    by_test true = refl
    by_test false = none

-- ## The station

abbrev initiating : Station → Station
initiating v = record v { role = Initiator }

data_fits : (v : Station) (past : List Act) (f : Frame) → is_data_frame f ≡ true → StationFits (initiating v) past → StationFits (initiating v) (Got f ∷ past)
data_fits v past f e h =
    let state : (d : ℕ) → state_of Initiator d (Got f ∷ past) ≡ state_of Initiator d past = λ d. data_state f past d e in
    let zero = (h.channels_are 0 (omega arith)).state_is in
    record {
      live = h.live;
      channels_are = λ d l. untouched Initiator d past (Got f) (channel_at v d) (h.channels_are d l) (state d ∙ (h.channels_are d l).state_is) (opens_none d past f e) refl (says_nothing (msc_says d) f e) refl refl;
      others_shut = h.others_shut;
      stop_of_all_is = λ o. all_untouched Initiator past (Got f) v.all_stopped (stop_in_past (initiating v) past h) (state 0) (opens_none 0 past f e) (says_nothing flow_says f e) (ap is_opened (state 0 ∙ zero) ∙ o);
      probe_is = probe_left (setting_of (initiating v)) past f refl e ∙ h.probe_is;
      queue_is = h.queue_is;
      last_is = h.last_is;
    }

initiating_stays : (v : Station) (f : Frame) → is_data_frame f ≡ true → StationHandles (initiating v) (initiating v) (Got f)
initiating_stays v f e = record {
  setting = refl;
  fits = λ past h. subst (λ (fs : List Frame). StationFits (initiating v) (sent_after fs (Got f ∷ past))) (sym (none_called (setting_of (initiating v)) past f refl e)) (data_fits v past f e h);
}

-- data leaves an initiator's station as it is
pub data_stays : (v : Station) (f : Frame) → v.role ≡ Initiator → is_data_frame f ≡ true → StationHandles v v (Got f)
data_stays v f i e =
    let same : initiating v ≡ v = ap (λ (r : Role). let x : Station = record v { role = r } in x) (sym i) in
    subst (λ (w : Station). StationHandles w w (Got f)) same (initiating_stays v f e)

-- ## What is noted of it, and its room

-- what is noted of a frame, by what the station keeps
abbrev pub noted_in : Station → Frame → Noted
noted_in v f = noted_of v.role (seen_in v) f

-- that is what is noted by every past that the station fits
pub noted_truly : (v : Station) (f : Frame) → f.dlci < 62 → (past : List Act) → StationFits v past → noted_in v f ≡ noted_of v.role (station_view (setting_of v) past) f
noted_truly v f l past h = noted_in_past (Ok (noted_in v f)) v f l refl past h

-- data calls for nothing, and so has room
pub data_room : (v : Core) (f : Frame) → IsSound v → v.lost ≡ false → f.dlci < 62 → is_data_frame f ≡ true → HasRoom v (history.Got f) true
data_room v f i live l e =
    let state : ℕ → State = λ d. (channel_at v.station d).state in
    let none : by_frame v.station.role state f ≡ [] = ap (λ (r : Role). by_frame r state f) i.role_is ∙ data_frames state f e in
    room_is v f true i live l (ap (λ (fs : List Frame). have_room v.station.n1 (octets_of v.station.queue) fs) none)
