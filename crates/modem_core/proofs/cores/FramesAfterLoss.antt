-- After a loss of the line every connection is Shut, and a frame that comes calls for nothing.
use Rattle.std.specs.Prelude.{◌≡◌, ℕ, ◌==◌, ◌&&◌, Bool, true, false, List, [], ◌∷◌, ◌++◌, map, filter_map, refl, if◌then◌else◌}
use Rattle.std.proofs.Common.{ap, sym, ◌∙◌, subst}
use Rattle.mux_frame.specs.Frames.{Frame}
use Rattle.mux_station.specs.declared.role.Role.TheVariants.{Initiator}
use Rattle.mux_station.specs.declared.role.Role.{Role}
use Rattle.mux_station.specs.Acts as station
use Rattle.mux_station.specs.States.{ends_itself, State, States, IsShut, is_opened, states, states_after, state_of, own_after}
use Rattle.mux_station.specs.Tables.{have_room, octets_of}
use Rattle.mux_station.specs.Written.{is_data_frame}
use Rattle.mux_station.specs.Sending.{queue}
use Rattle.modem_history.specs.Acts.{Act, Took, Got, Sent, Told, Heard, Tick, Lost, Held, Freed, Given, wire, after, in_hand}
use Rattle.modem_history.specs.Calls.{Setting, seen, frames, frames_by, calls, is_lost, lines_said, tolds, told_later, by_lines, first_on}
use Rattle.at_text.specs.Lines.{lines}
use Rattle.modem_history.specs.Lawful.{Lawful}
use Rattle.modem_core.specs.Cores.{Core, Fits, RunsUnless, IsRun, Handles}
use Rattle.modem_core.specs.Receiving.{HasRoom}
use Rattle.modem_history.proofs.connections.SendingAfterLoss.{none_after_loss}
use Rattle.modem_history.proofs.calls.CallEnds.{now_in}
use Rattle.modem_core.proofs.cores.WholeCalls.{run_on as run_goes_on}

abbrev both_shut : States
both_shut = record { zero = IsShut; own = IsShut }

either : (b : Bool) → (if b then IsShut else IsShut) ≡ IsShut
either true = refl
either false = refl

pair : (zero own : State) → zero ≡ IsShut → own ≡ IsShut → record { zero = zero; own = own } ≡ both_shut
pair zero own z o = ap (λ (s : State). let v : States = record { zero = s; own = own } in v) z ∙ ap (λ (s : State). let v : States = record { zero = IsShut; own = s } in v) o

own_by : (d e : Bool) (channel own : State) → channel ≡ IsShut → own ≡ IsShut → (if d then channel else (if e then IsShut else own)) ≡ IsShut
own_by true e channel own c o = c
own_by false true channel own c o = refl
own_by false false channel own c o = o

twice : (b d : Bool) → (if b then (if d then IsShut else IsShut) else IsShut) ≡ IsShut
twice true true = refl
twice true false = refl
twice false d = refl

got_shut : (d : ℕ) (f : Frame) → states_after Initiator d both_shut (station.Got f) ≡ both_shut
got_shut d f =
    let zero = either (f.dlci == 0) in
    pair (own_after Initiator 0 true IsShut (station.Got f)) _ zero
    (own_by (d == 0) (ends_itself false 0 (station.Got f)) (own_after Initiator 0 true IsShut (station.Got f)) (own_after Initiator d false IsShut (station.Got f)) zero (twice (f.dlci == d) (d == 0)))

loss_shut : (d : ℕ) (s : States) → states_after Initiator d s station.Lost ≡ both_shut
loss_shut d s = pair IsShut _ refl (either (d == 0))

idle_shut : (d : ℕ) → (if d == 0 then IsShut else IsShut) ≡ IsShut
idle_shut d = either (d == 0)

-- every connection is Shut
pub lost_states : (s : Setting) (past : List Act) (d : ℕ) → Lawful s past → is_lost past ≡ true → states Initiator d (wire past) ≡ both_shut
unfolding Lawful
lost_states s [] d l h = cc
lost_states s (Lost ∷ past) d l h = loss_shut d (states Initiator d (wire past))
lost_states s (Got f ∷ past) d l h = ap (λ (v : States). states_after Initiator d v (station.Got f)) (lost_states s past d l.1 h) ∙ got_shut d f
lost_states s (Sent f ∷ past) d l h = absurd (none_after_loss s past f h l)
lost_states s (Tick ∷ past) d l h = ap (λ (v : States). states_after Initiator d v station.Tick) (lost_states s past d l.1 h) ∙ pair IsShut _ refl (idle_shut d)
lost_states s (Given ∷ past) d l h = ap (λ (v : States). states_after Initiator d v station.Given) (lost_states s past d l.1 h) ∙ pair IsShut _ refl (idle_shut d)
lost_states s (Took q ∷ past) d l h = lost_states s past d l.1 h
lost_states s (Told o ∷ past) d l h = lost_states s past d l.1 h
lost_states s (Heard k e line ∷ past) d l h = lost_states s past d l.1 h
lost_states s (Held e ∷ past) d l h = lost_states s past d l.1 h
lost_states s (Freed e ∷ past) d l h = lost_states s past d l.1 h

lost_shut : (s : Setting) (past : List Act) (d : ℕ) → s.role ≡ Initiator → Lawful s past → is_lost past ≡ true → state_of s.role d (wire past) ≡ IsShut
lost_shut s past d r l h = ap (λ (x : Role). state_of x d (wire past)) r ∙ ap (λ (v : States). v.own) (lost_states s past d l h)

-- a frame that comes calls for nothing
none_called : (s : Setting) (past : List Act) (f : Frame) → s.role ≡ Initiator → Lawful s past → is_lost past ≡ true → in_hand past ≡ [] → calls s past (Got f) ≡ []
none_called s past f r l h e =
    let v = seen s past in
    let none : frames s v (Got f) ≡ [] = ap (λ (b : Bool). if b then [] else frames_by s v (Got f)) h in
    let read = by_lines s f.dlci (first_on f.dlci v.waiting) (v.marks f.dlci) (lines (v.run f.dlci ++ f.info)) in
    let unsaid : lines_said s v (Got f) ≡ [] = ap (λ (x : State). if is_opened x && is_data_frame f then read else []) (lost_shut s past f.dlci r l h) in
    let untold : tolds v (now_in s past (Got f)) (Got f) ≡ [] = ap (filter_map (told_later v (now_in s past (Got f)) (Got f))) e in
    ap (λ (fs : List Frame). map Sent fs ++ (lines_said s v (Got f) ++ tolds v (now_in s past (Got f)) (Got f))) none
    ∙ (ap (λ (acts : List Act). acts ++ tolds v (now_in s past (Got f)) (Got f)) unsaid ∙ untold)

empty_hand : (v : Core) (past : List Act) → v.lost ≡ true → Fits v past → v.hand ≡ []
empty_hand v past n h = subst (λ (b : Bool). RunsUnless b v past) n h.runs

-- after a loss of the line the core handles a frame by the frame alone, and stays as it is
pub lost_got : (v : Core) (f : Frame) (acts : List Act) → v.lost ≡ true → acts ≡ Got f ∷ [] → Handles v v (Got f) acts
unfolding Handles
lost_got v f acts n a s past m =
    let lost : is_lost past ≡ true = m.fits.lost_is ∙ n in
    let none = empty_hand v past n m.fits in
    let called : calls s past (Got f) ≡ [] = none_called s past f m.setting.role_is m.run.lawful lost (m.fits.hand_is ∙ none) in
    let acts_are : acts ≡ Got f ∷ calls s past (Got f) = a ∙ ap (λ (w : List Act). Got f ∷ w) (sym called) in
    record {
      called = acts_are;
      setting = m.setting;
      fits = subst (λ (w : List Act). Fits v (after past w)) (sym a) (record { hand_is = m.fits.hand_is; lost_is = m.fits.lost_is; runs = subst (λ (b : Bool). RunsUnless b v (Got f ∷ past)) (sym n) none });
      run = subst (λ (w : List Act). IsRun s (after past w)) (sym acts_are) (run_goes_on s past (Got f) refl tt m.run m.numbers);
    }

-- and what such a frame calls for always has room
pub lost_room : (v : Core) (f : Frame) → v.lost ≡ true → HasRoom v (Got f) true
unfolding HasRoom
lost_room v f n s past m =
    let lost : is_lost past ≡ true = m.fits.lost_is ∙ n in
    ap (λ (b : Bool). have_room s.n1 (octets_of (queue (wire past))) (if b then [] else frames_by s (seen s past) (Got f))) lost
