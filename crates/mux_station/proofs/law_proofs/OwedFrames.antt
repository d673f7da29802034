-- An act is followed by what it calls for.
use Rattle.std.specs.Prelude.{◌≡◌, ℕ, ◌==◌, ◌&&◌, ◌||◌, not, Bool, true, false, IsTrue, List, [], ◌∷◌, ◌++◌, refl, if◌then◌else◌, is_none, drop}
use Rattle.std.specs.List.{list_all, list_any}
use Rattle.std.proofs.Common.{◌∙◌, ap, sym, subst, append_assoc, append-nil, eqb-true}
use Rattle.std.proofs.lemmas.Bool.{and_parts}
use Rattle.mux_frame.specs.Frames.{Frame}
use Rattle.mux_station.specs.declared.role.Role.{Role}
use Rattle.mux_station.specs.Written.{is_data_frame}
use Rattle.mux_station.specs.Acts.{Call, Open, Close, Probe, Stop, Flow, Offer, Act, Called, Got, Sent, Tick, Lost, Given}
use Rattle.mux_station.specs.Opening.{since, opens_now, belongs, since_after}
use Rattle.mux_station.specs.Tables.{msc_frame, message_frame, ready, held_up}
use Rattle.mux_station.proofs.law_proofs.ControlFrames.{control_passes, all_if, all_of_frame, all_of_tick}
use Rattle.mux_station.specs.Offering.{offered, data_out, octets_offered, octets_sent, joined_octets}
use Rattle.mux_station.specs.Sending.{StationSetting, StationView, station_view, refused, frames_asked, called_frames, frames_seeing, is_loss, owed_frames, StationGated, Sends, StationLawful, StationComplete, sent_after, after_act, is_sent, AnswersKeep, NoFrameAfterLoss, GivesBeginning}

abbrev is_control : Frame → Bool
is_control f = not (is_data_frame f)

-- all of these are control frames
abbrev pub Controls : List Frame → Type 0
Controls fs = list_all is_control fs ≡ true

asked : (r : Role) (c : Call) → Controls (frames_asked r c)
asked r (Open d) = refl
asked r (Close d) = refl
asked r (Probe octets) = refl
asked r Stop = refl
asked r (Flow d go) = all_if is_control (d == 0) (message_frame r (if go then 0xa3 else 0x63) [] ∷ []) (msc_frame r d (if go then ready else held_up) ∷ []) refl refl
asked r (Offer d octets) = refl

framed : (s : StationSetting) (v : StationView) (a : Act) → Controls (frames_seeing s v a)
framed s v (Called c) = all_if is_control (is_none (refused s v c)) (frames_asked s.role c) [] (asked s.role c) refl
framed s v (Got f) = all_of_frame is_control control_passes s.role v.state f
framed s v Tick = all_of_tick is_control control_passes s.role s.n1 v.state v.queued 0 62
framed s v Lost = refl
framed s v (Sent f) = refl
framed s v Given = refl

-- no act calls for data
pub calls_control : (s : StationSetting) (past : List Act) (a : Act) → Controls (called_frames s past a)
calls_control s past a = all_if is_control (list_any is_loss past) [] (frames_seeing s (station_view s past) a) refl (framed s (station_view s past) a)

-- ## All that is owed is sent

not_data : (b : Bool) → not b ≡ true → b ≡ false
not_data false h = refl
not_data true h = cc

record Done (s : StationSetting) (past : List Act) : Type 0 where
  lawful : StationLawful s past
  complete : owed_frames s past ≡ []

record Next (s : StationSetting) (f : Frame) (fs : List Frame) (past : List Act) : Type 0 where
  lawful : StationLawful s (Sent f ∷ past)
  owes : owed_frames s (Sent f ∷ past) ≡ fs

next_by : (s : StationSetting) (f : Frame) (fs : List Frame) (past : List Act) (b : Bool) → b ≡ false → StationLawful s past → owed_frames s past ≡ f ∷ fs
    → Sends s past f b × ((if b then owed_frames s past else drop 1 (owed_frames s past)) ≡ fs)
unfolding Sends
next_by s f fs past false e l o = (record { later = fs; is_next = o }, ap (λ (v : List Frame). drop 1 v) o)
next_by s f fs past true e l o = absurd (let g : true ≡ false = e in cc)

next : (s : StationSetting) (f : Frame) (fs : List Frame) (past : List Act) → is_data_frame f ≡ false → StationLawful s past → owed_frames s past ≡ f ∷ fs → Next s f fs past
unfolding StationLawful
next s f fs past e l o =
    let both = next_by s f fs past (is_data_frame f) e l o in
    record { lawful = (both.0, l); owes = both.1 }

all_sent : (s : StationSetting) (fs : List Frame) (past : List Act) → Controls fs → StationLawful s past → owed_frames s past ≡ fs → Done s (sent_after fs past)
all_sent s [] past c l o = record { lawful = l; complete = o }
all_sent s (f ∷ fs) past c l o =
    let parts = and_parts (is_control f) (list_all is_control fs) c in
    let step = next s f fs past (not_data (is_data_frame f) parts.0) l o in
    all_sent s fs (Sent f ∷ past) parts.1 step.lawful step.owes

called_lawful : (s : StationSetting) (past : List Act) (a : Act) → is_sent a ≡ false → StationLawful s past → StationLawful s (a ∷ past)
unfolding StationLawful
called_lawful s past (Called c) e l = l
called_lawful s past (Got f) e l = l
called_lawful s past (Sent f) e l = absurd (let g : true ≡ false = e in cc)
called_lawful s past Tick e l = l
called_lawful s past Lost e l = l
called_lawful s past Given e l = l

abbrev no_frames : List Frame
no_frames = []

none_called : (b : Bool) → (if b then no_frames else no_frames) ≡ no_frames
none_called true = refl
none_called false = refl

called_owes : (s : StationSetting) (past : List Act) (a : Act) → is_sent a ≡ false → owed_frames s past ≡ [] → owed_frames s (a ∷ past) ≡ called_frames s past a
called_owes s past (Called c) e o = ap (λ (v : List Frame). v ++ called_frames s past (Called c)) o
called_owes s past (Got f) e o = ap (λ (v : List Frame). v ++ called_frames s past (Got f)) o
called_owes s past (Sent f) e o = absurd (let g : true ≡ false = e in cc)
called_owes s past Tick e o = ap (λ (v : List Frame). v ++ called_frames s past Tick) o
called_owes s past Lost e o = sym (none_called (list_any is_loss past))
called_owes s past Given e o = ap (λ (v : List Frame). v ++ called_frames s past Given) o

done : (s : StationSetting) (past : List Act) (a : Act) → is_sent a ≡ false → StationLawful s past → owed_frames s past ≡ [] → Done s (after_act s past a)
done s past a e l o = all_sent s (called_frames s past a) (a ∷ past) (calls_control s past a) (called_lawful s past a e l) (called_owes s past a e o)

-- an act that is no frame sent, with all that it calls for, keeps a past lawful and complete
pub answers_keep : (s : StationSetting) (past : List Act) (a : Act) → AnswersKeep s past a
unfolding StationComplete
answers_keep s past a = record {
  lawful = λ e l c. (done s past a e l c).lawful;
  complete = λ e l c. (done s past a e l c).complete;
}

-- ## After a loss

any_loss : (a : Act) (past : List Act) → is_loss a ≡ false → list_any is_loss (a ∷ past) ≡ true → list_any is_loss past ≡ true
any_loss a past e h = subst (λ (b : Bool). (b || list_any is_loss past) ≡ true) e h

none_called_lost : (s : StationSetting) (past : List Act) (a : Act) → list_any is_loss past ≡ true → called_frames s past a ≡ []
none_called_lost s past a h = ap (λ (b : Bool). if b then no_frames else frames_seeing s (station_view s past) a) h

none_more : (s : StationSetting) (past : List Act) (a : Act) → owed_frames s past ≡ [] → list_any is_loss past ≡ true → owed_frames s past ++ called_frames s past a ≡ []
none_more s past a o h = ap (λ (v : List Frame). v ++ called_frames s past a) o ∙ none_called_lost s past a h

still_none : (s : StationSetting) (past : List Act) (b : Bool) → owed_frames s past ≡ [] → (if b then owed_frames s past else drop 1 (owed_frames s past)) ≡ []
still_none s past true o = o
still_none s past false o = ap (λ (v : List Frame). drop 1 v) o

lost_owes : (s : StationSetting) (past : List Act) → list_any is_loss past ≡ true → owed_frames s past ≡ []
lost_owes s [] h = refl
lost_owes s (Lost ∷ past) h = refl
lost_owes s (Sent f ∷ past) h = still_none s past (is_data_frame f) (lost_owes s past (any_loss (Sent f) past refl h))
lost_owes s (Called c ∷ past) h = let l = any_loss (Called c) past refl h in none_more s past (Called c) (lost_owes s past l) l
lost_owes s (Got f ∷ past) h = let l = any_loss (Got f) past refl h in none_more s past (Got f) (lost_owes s past l) l
lost_owes s (Tick ∷ past) h = let l = any_loss Tick past refl h in none_more s past Tick (lost_owes s past l) l
lost_owes s (Given ∷ past) h = let l = any_loss Given past refl h in none_more s past Given (lost_owes s past l) l

none_sent : (s : StationSetting) (past : List Act) (f : Frame) (b : Bool) → list_any is_loss past ≡ true → Sends s past f b → ⊥
unfolding Sends
none_sent s past f true h g =
    let live : IsTrue (not (list_any is_loss past)) = g.live in
    let none : IsTrue (not true) = subst (λ (b : Bool). IsTrue (not b)) h live in
    let off : false ≡ true = none in
    cc
none_sent s past f false h c =
    let owes : owed_frames s past ≡ f ∷ c.later = c.is_next in
    let none : owed_frames s past ≡ [] = lost_owes s past h in
    cc

-- no lawful past goes on with a frame sent once the line is lost
pub none_after_loss : (s : StationSetting) (past : List Act) → NoFrameAfterLoss s past
unfolding StationLawful
none_after_loss s past f h l = none_sent s past f (is_data_frame f) h l.0

-- ## Data

-- what was offered and given, one act further
abbrev Begins : StationSetting → ℕ → List Act → Type 0
Begins s d acts = (rest : List ℕ) × (joined_octets (octets_sent d) acts ++ rest ≡ joined_octets (octets_offered d) acts)

more_offered : (d : ℕ) (a : Act) (acts : List Act) (rest : List ℕ) → octets_sent d a ≡ [] → joined_octets (octets_sent d) acts ++ rest ≡ joined_octets (octets_offered d) acts
    → joined_octets (octets_sent d) (a ∷ acts) ++ (rest ++ octets_offered d a) ≡ joined_octets (octets_offered d) (a ∷ acts)
more_offered d a acts rest e h =
    let sent = joined_octets (octets_sent d) acts in
    let more = octets_offered d a in
    let first : sent ++ octets_sent d a ≡ sent = ap (λ (v : List ℕ). sent ++ v) e ∙ append-nil sent in
    ap (λ (v : List ℕ). v ++ (rest ++ more)) first ∙ (sym (append_assoc sent rest more) ∙ ap (λ (v : List ℕ). v ++ more) h)

sends_data : (s : StationSetting) (past : List Act) (f : Frame) (b : Bool) → b ≡ true → Sends s past f b → StationGated s past f
unfolding Sends
sends_data s past f true e g = g
sends_data s past f false e g = absurd (let h : false ≡ true = e in cc)

lawful_sends : (s : StationSetting) (past : List Act) (f : Frame) → StationLawful s (Sent f ∷ past) → Sends s past f (is_data_frame f)
unfolding StationLawful
lawful_sends s past f l = l.0

lawful_before : (s : StationSetting) (past : List Act) (a : Act) → StationLawful s (a ∷ past) → StationLawful s past
unfolding StationLawful
lawful_before s past (Called c) l = l
lawful_before s past (Got f) l = l
lawful_before s past (Sent f) l = l.1
lawful_before s past Tick l = l
lawful_before s past Lost l = l
lawful_before s past Given l = l

gated_joins : (s : StationSetting) (past : List Act) (f : Frame) (d : ℕ) (later : List ℕ) → f.dlci ≡ d → offered s.role f.dlci past ≡ data_out s.role f.dlci past ++ f.info ++ later → data_out s.role d past ++ f.info ++ later ≡ offered s.role d past
gated_joins s past f d later e h = sym (subst (λ (m : ℕ). offered s.role m past ≡ data_out s.role m past ++ f.info ++ later) e h)

begins_sent : (s : StationSetting) (d : ℕ) (past : List Act) (f : Frame) (b : Bool) → (is_data_frame f && (f.dlci == d)) ≡ b → StationLawful s (Sent f ∷ past) → Begins s d (since s.role d past) → Begins s d (Sent f ∷ since s.role d past)
begins_sent s d past f true e l before =
    let parts = and_parts (is_data_frame f) (f.dlci == d) e in
    let g : StationGated s past f = sends_data s past f (is_data_frame f) parts.0 (lawful_sends s past f l) in
    let same : f.dlci ≡ d = eqb-true f.dlci d parts.1 in
    let joins : data_out s.role d past ++ f.info ++ g.later ≡ offered s.role d past = gated_joins s past f d g.later same g.is_offered in
    let info : octets_sent d (Sent f) ≡ f.info = ap (λ (b : Bool). if b then f.info else []) e in
    (g.later, ap (λ (v : List ℕ). data_out s.role d past ++ v ++ g.later) info ∙ (joins ∙ sym (append-nil (offered s.role d past))))
begins_sent s d past f false e l before =
    let none : octets_sent d (Sent f) ≡ [] = ap (λ (b : Bool). if b then f.info else []) e in
    (before.0 ++ octets_offered d (Sent f), more_offered d (Sent f) (since s.role d past) before.0 none before.1)

begins_step : (s : StationSetting) (d : ℕ) (past : List Act) (a : Act) → StationLawful s (a ∷ past) → Begins s d (since s.role d past) → Begins s d (a ∷ since s.role d past)
begins_step s d past (Sent f) l before = begins_sent s d past f (is_data_frame f && (f.dlci == d)) refl l before
begins_step s d past (Called c) l before = (before.0 ++ octets_offered d (Called c), more_offered d (Called c) (since s.role d past) before.0 refl before.1)
begins_step s d past (Got f) l before = (before.0 ++ octets_offered d (Got f), more_offered d (Got f) (since s.role d past) before.0 refl before.1)
begins_step s d past Tick l before = (before.0 ++ octets_offered d Tick, more_offered d Tick (since s.role d past) before.0 refl before.1)
begins_step s d past Lost l before = (before.0 ++ octets_offered d Lost, more_offered d Lost (since s.role d past) before.0 refl before.1)
begins_step s d past Given l before = (before.0 ++ octets_offered d Given, more_offered d Given (since s.role d past) before.0 refl before.1)

begins_since : (s : StationSetting) (d : ℕ) (past : List Act) (a : Act) (o b : Bool) → StationLawful s (a ∷ past) → Begins s d (since s.role d past) → Begins s d (since_after o b a (since s.role d past))
begins_since s d past a true b l before = ([], refl)
begins_since s d past a false true l before = begins_step s d past a l before
begins_since s d past a false false l before = before

begins : (s : StationSetting) (d : ℕ) (past : List Act) → StationLawful s past → Begins s d (since s.role d past)
begins s d [] l = ([], refl)
begins s d (a ∷ past) l = begins_since s d past a (opens_now s.role d past a) (belongs s.role d past a) l (begins s d past (lawful_before s past a l))

-- in a lawful past what was given on since d opened is the beginning of what was offered on it
pub gives_beginning : (s : StationSetting) (d : ℕ) (past : List Act) → StationLawful s past → GivesBeginning s d past
gives_beginning s d past l = let b = begins s d past l in record { rest = b.0; joins = b.1 }
