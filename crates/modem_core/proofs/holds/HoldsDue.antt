-- Whether a hold or its end is due, as the code decides it.
use Rattle.std.specs.Prelude.{◌≡◌, ℕ, ◌<◌, ◌==◌, ◌&&◌, ◌||◌, not, Bool, true, false, List, [], ◌∷◌, length, map, refl, Option, Some, None, if◌then◌else◌}
use Rattle.std.proofs.Common.{ap, sym, ◌∙◌, subst}
use Rattle.std.proofs.lemmas.Bool.{lt-leb}
use Rattle.mux_frame.specs.Frames.{Frame, kept_frame}
use Rattle.mux_frame.specs.declared.dlci.Dlci.{Dlci}
use Rattle.mux_frame.specs.declared.frame.FrameBuf.{FrameBuf}
use Rattle.mux_station.specs.declared.role.Role.{Role}
use Rattle.mux_station.specs.declared.role.Role.TheVariants.{Initiator}
use Rattle.mux_station.specs.declared.error.StationError.{StationError}
use Rattle.mux_station.specs.declared.error.StationError.TheVariants as why
use Rattle.mux_station.specs.Acts as station
use Rattle.mux_station.specs.Opening.{is_open}
use Rattle.mux_station.specs.States.{is_opened, state_of}
use Rattle.mux_station.specs.Tables.{has_room, have_room, octets_of}
use Rattle.mux_station.specs.Sending as sending
use Rattle.mux_station.specs.Sending.{queue, refused, or_else}
use Rattle.mux_station.specs.Stations.{Station, channel_at, setting_of, seen_in}
use Rattle.modem_history.specs.declared.act.Act as code
use Rattle.modem_history.specs.Acts.{Act, Sent, act_of, wire}
use Rattle.modem_history.specs.Calls.{Setting, seen, all_have_room}
use Rattle.modem_core.specs.Lanes.{turned}
use Rattle.modem_core.specs.Cores.{Core, lane_at}
use Rattle.modem_history.specs.Holding.{last_held, is_held}
use Rattle.modem_core.specs.Holding.{due_in, flow_due, flow_act, due_by, MayAsk, FlowsOn, Flows, LacksRoom, HasPlace, HasNoRoom, FindsRoom, CallsForNothing, NeverDue, TurnsFlow, CannotTurn, CanTurn, has_flow_room}
use Rattle.modem_core.proofs.requests.TakenRequests.{live_of}
use Rattle.modem_core.proofs.requests.CloseRequests.{running_by}
use Rattle.modem_core.proofs.holds.HeldAndFreed.{Flowing, may_come, flow_frame, turn_on}

-- ## What the code comes to

flow_acts : (d : Dlci) (go : Bool) → act_of (if go then code.TheVariants.Freed d else code.TheVariants.Held d) ≡ flow_act d.number go
flow_acts d true = refl
flow_acts d false = refl

-- the acts that were written down are those that are due
pub flow_written : (d : Dlci) (go : Bool) (f : FrameBuf) (acts : List code.Act) → kept_frame f ≡ flow_frame d.number go Initiator
    → acts ≡ (if go then code.TheVariants.Freed d else code.TheVariants.Held d) ∷ code.TheVariants.Sent f ∷ [] → map act_of acts ≡ flow_act d.number go ∷ Sent (flow_frame d.number go Initiator) ∷ []
flow_written d go f acts k h =
    ap (map act_of) h ∙ (ap (λ (a : Act). a ∷ Sent (kept_frame f) ∷ []) (flow_acts d go) ∙ ap (λ (g : Frame). flow_act d.number go ∷ Sent g ∷ []) k)

-- a connection whose MSC the station took is held or freed, by that act and the MSC
pub turns_since : (v new : Core) (w : Station) (d : ℕ) (go : Bool) → v.station.role ≡ Initiator → v.lost ≡ false → length v.lanes ≡ 62 → Flowing v w d go
    → new ≡ record v { station = w; lanes = turned v.lanes d (not go) } → TurnsFlow v new d go (flow_act d go ∷ Sent (flow_frame d go Initiator) ∷ [])
unfolding TurnsFlow
turns_since v new w d go role lost size o n s past m = turn_on s v new past w d go role lost size o m n

refusal_by : (o r room : Bool) (x : StationError) → or_else (if not (o && r) then Some why.NotOpen else None) (if room && true then None else Some why.NoRoom) ≡ Some x → o ≡ true → r ≡ true → (room && true) ≡ false
refusal_by true true true x h k e = cc
refusal_by true true false x h k e = refl
refusal_by false r room x h k e = cc
refusal_by true false room x h k e = cc

-- whether the MSC has a place is what the station says of it
turn_room : (s : Setting) (v : Core) (past : List Act) (d : ℕ) (go : Bool) (b : Bool) → v.station.role ≡ Initiator → v.lost ≡ false → d < 62 → (d == 0) ≡ false → is_opened (channel_at v.station d).state ≡ true
    → have_room v.station.n1 (octets_of v.station.queue) (sending.frames_asked v.station.role (station.Flow d go)) ≡ b → MayAsk s v past → has_flow_room s past d go ≡ b
turn_room s v past d go b role lost small z o h m =
    let st = v.station in
    let l = live_of s v past (flow_act d go) role lost (may_come s v past d go m) in
    let asked : (has_room st.n1 (octets_of st.queue) (flow_frame d go st.role) && true) ≡ b
    = ap (λ (y : Bool). have_room st.n1 (octets_of st.queue) (if y then sending.frames_asked st.role (station.Flow 0 go) else flow_frame d go st.role ∷ [])) (sym z) ∙ h in
    let opened : is_opened (state_of s.role d (wire past)) ≡ true = ap is_opened (l.states_are d small) ∙ o in
    ap (λ (y : Bool). all_have_room s (seen s past) (if y then flow_frame d go s.role ∷ [] else [])) opened
    ∙ (ap (λ (n : ℕ). has_room n (octets_of (queue (wire past))) (flow_frame d go s.role) && true) l.n1_is
    ∙ (ap (λ (q : ℕ). has_room st.n1 q (flow_frame d go s.role) && true) l.queued_is
    ∙ (ap (λ (r : Role). has_room st.n1 (octets_of st.queue) (flow_frame d go r) && true) l.same_role ∙ asked)))

-- an MSC that doesn't fit into the station's queue has a place by no past
pub lacks_room : (v : Core) (d : ℕ) (go : Bool) → v.station.role ≡ Initiator → v.lost ≡ false → d < 62 → (d == 0) ≡ false → is_opened (channel_at v.station d).state ≡ true
    → have_room v.station.n1 (octets_of v.station.queue) (sending.frames_asked v.station.role (station.Flow d go)) ≡ false → CannotTurn v d go
unfolding CannotTurn
lacks_room v d go role lost b z o h s past m = turn_room s v past d go false role lost b z o h m

-- one that fits has a place by every past
pub finds_room : (v : Core) (d : ℕ) (go : Bool) → v.station.role ≡ Initiator → v.lost ≡ false → d < 62 → (d == 0) ≡ false → is_opened (channel_at v.station d).state ≡ true
    → have_room v.station.n1 (octets_of v.station.queue) (sending.frames_asked v.station.role (station.Flow d go)) ≡ true → CanTurn v d go
unfolding CanTurn
finds_room v d go role lost b z o h s past m = turn_room s v past d go true role lost b z o h m

-- where the station refuses to hold or free an open connection, the MSC has no place
pub cannot_turn : (v : Core) (d : ℕ) (go : Bool) (x : StationError) → v.station.role ≡ Initiator → v.lost ≡ false → d < 62 → (d == 0) ≡ false → is_opened (channel_at v.station d).state ≡ true
    → refused (setting_of v.station) (seen_in v.station) (station.Flow d go) ≡ Some x → CannotTurn v d go
unfolding CannotTurn
cannot_turn v d go x role lost b z o h s past m =
    let st = v.station in
    let l = live_of s v past (flow_act d go) role lost (may_come s v past d go m) in
    let running = running_by st l.runs.seen d l.runs.fits b z o in
    let asked : or_else (if not (is_opened (channel_at st d).state && is_opened (channel_at st 0).state) then Some why.NotOpen else None)
    (if has_room st.n1 (octets_of st.queue) (flow_frame d go st.role) && true then None else Some why.NoRoom) ≡ Some x
    = ap (λ (y : Bool). or_else (if not (is_opened (channel_at st d).state && is_opened (channel_at st 0).state) then Some why.NotOpen else None)
    (sending.without_room (setting_of st) (seen_in st) (if y then sending.frames_asked st.role (station.Flow 0 go) else flow_frame d go st.role ∷ []))) (sym z) ∙ h in
    let none = refusal_by (is_opened (channel_at st d).state) (is_opened (channel_at st 0).state) (has_room st.n1 (octets_of st.queue) (flow_frame d go st.role)) x asked o running in
    let opened : is_opened (state_of s.role d (wire past)) ≡ true = ap is_opened (l.states_are d b) ∙ o in
    ap (λ (y : Bool). all_have_room s (seen s past) (if y then flow_frame d go s.role ∷ [] else [])) opened
    ∙ (ap (λ (n : ℕ). has_room n (octets_of (queue (wire past))) (flow_frame d go s.role) && true) l.n1_is
    ∙ (ap (λ (q : ℕ). has_room st.n1 q (flow_frame d go s.role) && true) l.queued_is
    ∙ (ap (λ (r : Role). has_room st.n1 (octets_of st.queue) (flow_frame d go r) && true) l.same_role ∙ none)))

-- ## Whether it is due

due_same : (s : Setting) (v : Core) (past : List Act) (d lines : ℕ) → v.station.role ≡ Initiator → d < 62 → MayAsk s v past → due_by s past d lines ≡ due_in v d lines
due_same s v past d lines role b m = by_lost v.lost refl (d == 0) refl
  where
    open_by : (x : Bool) → (v.lost ≡ false) → (d == 0) ≡ false → is_open s.role d (wire past) ≡ x → flow_due (is_open s.role d (wire past)) (is_held s.role d past) lines ≡ flow_due x (lane_at v d).held lines
    open_by true lost z o =
        let held : last_held s.role d past ≡ (lane_at v d).held
        = ap (λ (r : Role). last_held r d past) m.setting.role_is ∙ m.holds.held_are d b z (ap (λ (r : Role). is_open r d (wire past)) (sym m.setting.role_is) ∙ o) in
        ap (λ (y : Bool). flow_due y (y && last_held s.role d past) lines) o ∙ ap (λ (y : Bool). flow_due true y lines) held
    open_by false lost z o = ap (λ (y : Bool). flow_due y (y && last_held s.role d past) lines) o

    by_lost : (x : Bool) → v.lost ≡ x → (y : Bool) → (d == 0) ≡ y → due_by s past d lines ≡ due_in v d lines
    by_lost true k y e =
        ap (λ (z : Bool). if z || (d == 0) then None else flow_due (is_open s.role d (wire past)) (is_held s.role d past) lines) (m.fits.lost_is ∙ k)
        ∙ sym (ap (λ (z : Bool). if z || (d == 0) then None else flow_due (is_opened (channel_at v.station d).state) (lane_at v d).held lines) k)
    by_lost false k true e =
        ap (λ (z : Bool). if z || (d == 0) then None else flow_due (is_open s.role d (wire past)) (is_held s.role d past) lines) (m.fits.lost_is ∙ k)
        ∙ (ap (λ (z : Bool). if z then None else flow_due (is_open s.role d (wire past)) (is_held s.role d past) lines) e
        ∙ sym (ap (λ (z : Bool). if z || (d == 0) then None else flow_due (is_opened (channel_at v.station d).state) (lane_at v d).held lines) k
        ∙ ap (λ (z : Bool). if z then None else flow_due (is_opened (channel_at v.station d).state) (lane_at v d).held lines) e))
    by_lost false k false e =
        let l = live_of s v past (flow_act d true) role k (may_come s v past d true m) in
        let shown : is_open s.role d (wire past) ≡ is_opened (channel_at v.station d).state = ap is_opened (l.states_are d b) in
        ap (λ (z : Bool). if z || (d == 0) then None else flow_due (is_open s.role d (wire past)) (is_held s.role d past) lines) (m.fits.lost_is ∙ k)
        ∙ (ap (λ (z : Bool). if z then None else flow_due (is_open s.role d (wire past)) (is_held s.role d past) lines) e
        ∙ (open_by (is_open s.role d (wire past)) k e refl ∙ (ap (λ (z : Bool). flow_due z (lane_at v d).held lines) shown
        ∙ sym (ap (λ (z : Bool). if z || (d == 0) then None else flow_due (is_opened (channel_at v.station d).state) (lane_at v d).held lines) k
        ∙ ap (λ (z : Bool). if z then None else flow_due (is_opened (channel_at v.station d).state) (lane_at v d).held lines) e))))

none_unless : (lost zero opened held : Bool) (lines : ℕ) → opened ≡ false → (if lost || zero then None else flow_due opened held lines) ≡ None
none_unless true zero opened held lines e = refl
none_unless false true opened held lines e = refl
none_unless false false true held lines e = cc
none_unless false false false held lines e = refl

none_after : (lost zero opened held : Bool) (lines : ℕ) → not lost ≡ false → (if lost || zero then None else flow_due opened held lines) ≡ None
none_after true zero opened held lines e = refl
none_after false zero opened held lines e = cc

-- on a connection that isn't Opened no backlog calls for anything
pub never_open : (v : Core) (d : ℕ) → v.station.role ≡ Initiator → d < 62 → is_opened (channel_at v.station d).state ≡ false → NeverDue v d
unfolding NeverDue
never_open v d role b shut s past lines m = due_same s v past d lines role b m ∙ none_unless v.lost (d == 0) (is_opened (channel_at v.station d).state) (lane_at v d).held lines shut

-- nor on any after a loss of the line
pub never_lost : (v : Core) (d : ℕ) → v.station.role ≡ Initiator → d < 62 → not v.lost ≡ false → NeverDue v d
unfolding NeverDue
never_lost v d role b gone s past lines m = due_same s v past d lines role b m ∙ none_after v.lost (d == 0) (is_opened (channel_at v.station d).state) (lane_at v d).held lines gone

-- a backlog for which nothing is due by what the core keeps leads to no act
pub none_flows : (v : Core) (d lines : ℕ) (acts : List code.Act) → v.station.role ≡ Initiator → d < 62 → due_in v d lines ≡ None → acts ≡ [] → Flows v v d lines (map act_of acts)
unfolding Flows
none_flows v d lines acts role b h e s past m =
    subst (λ (o : Option Bool). FlowsOn s v v past d o (map act_of acts)) (sym (due_same s v past d lines role b m ∙ h)) (ap (map act_of) e, refl)

free_due : (lost zero opened : Bool) (lines : ℕ) → lines < 256 → (if lost || zero then None else flow_due opened false lines) ≡ None
free_due true zero opened lines few = refl
free_due false true opened lines few = refl
free_due false false false lines few = refl
free_due false false true lines few = ap (λ (c : Bool). if c then Some false else None) (lt-leb 256 lines few)

-- where none is held, fewer than 256 lines call for nothing
pub free_flows : (v : Core) → v.station.role ≡ Initiator → ((d : ℕ) → (lane_at v d).held ≡ false) → CallsForNothing v
unfolding CallsForNothing
free_flows v role free d lines b few =
    none_flows v d lines [] role b (ap (λ (h : Bool). if v.lost || (d == 0) then None else flow_due (is_opened (channel_at v.station d).state) h lines) (free d)
    ∙ free_due v.lost (d == 0) (is_opened (channel_at v.station d).state) lines few) refl

-- one for which holding or freeing d is due leads to the acts that do so
pub some_flows : (v new : Core) (d lines : ℕ) (go : Bool) (acts : List Act) → v.station.role ≡ Initiator → d < 62 → due_in v d lines ≡ Some go → TurnsFlow v new d go acts → Flows v new d lines acts
unfolding Flows TurnsFlow
some_flows v new d lines go acts role b h t s past m = subst (λ (o : Option Bool). FlowsOn s v new past d o acts) (sym (due_same s v past d lines role b m ∙ h)) (t s past m)

-- it finds room where the MSC has a place
pub some_finds : (v : Core) (d lines : ℕ) (go : Bool) → v.station.role ≡ Initiator → d < 62 → due_in v d lines ≡ Some go → CanTurn v d go → FindsRoom v d lines
unfolding FindsRoom CanTurn
some_finds v d lines go role b h t s past m = subst (λ (o : Option Bool). HasPlace s past d o) (sym (due_same s v past d lines role b m ∙ h)) (t s past m)

-- and finds none where the MSC has none
pub some_lacks : (v : Core) (d lines : ℕ) (go : Bool) → v.station.role ≡ Initiator → d < 62 → due_in v d lines ≡ Some go → CannotTurn v d go → HasNoRoom v d lines
unfolding HasNoRoom CannotTurn
some_lacks v d lines go role b h t s past m = subst (λ (o : Option Bool). LacksRoom s past d o) (sym (due_same s v past d lines role b m ∙ h)) (t s past m)

-- what is due is of an Opened connection but 0, held where it is to go on, while the line isn't lost
pub record IsDue (lost zero opened held go : Bool) : Type 0 where
  pub live : lost ≡ false
  pub not_zero : zero ≡ false
  pub opened_is : opened ≡ true
  pub held_is : held ≡ go

held_so : (held many few go : Bool) → (if not held && many then Some false else if held && few then Some true else None) ≡ Some go → held ≡ go
held_so false true few false h = refl
held_so false true few true h = cc
held_so false false few go h = cc
held_so true many true true h = refl
held_so true many true false h = cc
held_so true many false go h = cc
