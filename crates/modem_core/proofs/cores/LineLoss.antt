-- The line is lost: everyone in hand is told so.
use Rattle.std.specs.Prelude.{◌≡◌, ℕ, ◌==◌, Bool, true, false, List, [], ◌∷◌, ◌++◌, map, filter, filter_map, refl, Option, Some, is_none, if◌then◌else◌}
use Rattle.std.proofs.Common.{ap, sym, ◌∙◌, subst}
use Rattle.mux_frame.specs.Frames.{Frame}
use Rattle.mux_station.specs.States.{State, IsShut}
use Rattle.mux_station.specs.Stages.{as_shown}
use Rattle.mux_station.specs.Stations.{Station}
use Rattle.modem_desk.specs.declared.request.Ask.{Ask}
use Rattle.modem_desk.specs.declared.request.Ask.TheVariants.{OpenChannel, CloseChannel, Command, Probe, Stop}
use Rattle.modem_desk.specs.declared.request.Request.{Request}
use Rattle.modem_desk.specs.declared.request.Answer.{Answer}
use Rattle.modem_desk.specs.declared.request.Answer.TheVariants.{LineLost}
use Rattle.modem_history.specs.declared.act.Act as code
use Rattle.modem_core.specs.declared.telling.Happened.TheVariants as happened
use Rattle.modem_history.specs.Acts.{Act, Sent, Lost, act_of, after, in_hand}
use Rattle.modem_history.specs.Calls.{Setting, HistoryView, seen, is_lost, calls, told_later, tolds, states_now}
use Rattle.modem_core.specs.Telling.{told_by, said_to, told_to, left_by}
use Rattle.modem_core.specs.Cores.{Core, Fits, IsRun, IsSettingOf, Handles, state_shown}
use Rattle.modem_history.proofs.requests.RequestsAfterCalls.{stays}
use Rattle.modem_history.proofs.requests.CommandsInStep.{told_off_all}
use Rattle.modem_history.proofs.calls.CallEnds.{frames_in, now_in, ended, end_of}
use Rattle.modem_core.proofs.requests.LaterOutcomes.{AllSay, has_ended, all_say, tolds_are}
use Rattle.modem_core.proofs.cores.WholeCalls.{run_on, lost_on, hand_distinct}

none_either : (b : Bool) → (let none : List Frame = [] in if b then none else none) ≡ []
none_either true = refl
none_either false = refl

lost_frames : (s : Setting) (past : List Act) → frames_in s past Lost ≡ []
lost_frames s past = none_either (is_lost past)

shut_either : (b : Bool) → (if b then IsShut else IsShut) ≡ IsShut
shut_either true = refl
shut_either false = refl

lost_now : (s : Setting) (past : List Act) (d : ℕ) → now_in s past Lost d ≡ IsShut
lost_now s past d = ap (λ (fs : List Frame). states_now s (seen s past) (Lost ∷ map Sent fs) d) (lost_frames s past) ∙ shut_either (d == 0)

lost_calls : (s : Setting) (past : List Act) → calls s past Lost ≡ tolds (seen s past) (now_in s past Lost) Lost
lost_calls s past = ap (λ (fs : List Frame). map Sent fs ++ tolds (seen s past) (now_in s past Lost) Lost) (lost_frames s past)

none_left : (v : Station) (ended : Bool) (rs : List Request) → left_by (told_by happened.Lost ended (λ d. state_shown v true d)) rs ≡ []
none_left v ended [] = refl
none_left v ended (r ∷ rs) = by_ask r.ask (none_left v ended rs)
  where
    by_ask : (ask : Ask) → left_by (told_by happened.Lost ended (λ d. state_shown v true d)) rs ≡ []
        → (if is_none (told_by happened.Lost ended (λ d. state_shown v true d) ask) then r ∷ left_by (told_by happened.Lost ended (λ d. state_shown v true d)) rs else left_by (told_by happened.Lost ended (λ d. state_shown v true d)) rs) ≡ []
    by_ask (OpenChannel d) h = h
    by_ask (CloseChannel d) h = h
    by_ask (Command d line) h = h
    by_ask (Probe octets) h = h
    by_ask Stop h = h

same_told : (v : Station) (b c : Bool) (rs : List Request) → told_to (told_by happened.Lost b (λ d. state_shown v true d)) rs ≡ told_to (told_by happened.Lost c (λ d. state_shown v true d)) rs
same_told v b c [] = refl
same_told v b c (r ∷ rs) = by_ask r.ask (same_told v b c rs)
  where
    by_ask : (ask : Ask) → told_to (told_by happened.Lost b (λ d. state_shown v true d)) rs ≡ told_to (told_by happened.Lost c (λ d. state_shown v true d)) rs
        → said_to r (told_by happened.Lost b (λ d. state_shown v true d) ask) ++ told_to (told_by happened.Lost b (λ d. state_shown v true d)) rs
        ≡ said_to r (told_by happened.Lost c (λ d. state_shown v true d) ask) ++ told_to (told_by happened.Lost c (λ d. state_shown v true d)) rs
    by_ask (OpenChannel d) h = ap (λ (v : List code.Act). said_to r (Some LineLost) ++ v) h
    by_ask (CloseChannel d) h = ap (λ (v : List code.Act). said_to r (Some LineLost) ++ v) h
    by_ask (Command d line) h = ap (λ (v : List code.Act). said_to r (Some LineLost) ++ v) h
    by_ask (Probe octets) h = ap (λ (v : List code.Act). said_to r (Some LineLost) ++ v) h
    by_ask Stop h = ap (λ (v : List code.Act). said_to r (Some LineLost) ++ v) h

-- those who stay by the history are those who are told nothing
pub stays_left : (v : HistoryView) (now : ℕ → State) (a : Act) (says : Ask → Option Answer) (rs : List Request) → AllSay v now a says rs → filter (stays v now a) rs ≡ left_by says rs
stays_left v now a says [] h = refl
stays_left v now a says (r ∷ rs) h =
    ap (λ (o : Option Answer). if is_none o then r ∷ filter (stays v now a) rs else filter (stays v now a) rs) h.0
    ∙ ap (λ (qs : List Request). if is_none (says r.ask) then r ∷ qs else qs) (stays_left v now a says rs h.1)

lost_all : (s : Setting) (past : List Act) (v : Station) (rs : List Request)
    → AllSay (seen s past) (now_in s past Lost) Lost (told_by happened.Lost (has_ended (seen s past) (now_in s past Lost)) (λ d. state_shown v true d)) rs
lost_all s past v rs =
    all_say (seen s past) (now_in s past Lost) Lost happened.Lost (λ d. state_shown v true d) (record { cause_is = λ why. refl; stop_is = refl })
    (λ d l. ap as_shown (lost_now s past d)) (λ r octets. refl) rs

-- everyone in hand was told
pub lost_handles : (old new : Core) (ended : Bool) (acts : List code.Act) → new ≡ record old { hand = left_by (told_by happened.Lost ended (λ d. state_shown old.station true d)) old.hand; lost = true }
    → acts ≡ code.TheVariants.Lost ∷ told_to (told_by happened.Lost ended (λ d. state_shown old.station true d)) old.hand → Handles old new Lost (map act_of acts)
unfolding Handles
lost_handles old new e acts n h s past m =
    let says = told_by happened.Lost e (λ d. state_shown old.station true d) in
    let ended0 = has_ended (seen s past) (now_in s past Lost) in
    let all = lost_all s past old.station old.hand in
    let later : tolds (seen s past) (now_in s past Lost) Lost ≡ map act_of (told_to (told_by happened.Lost ended0 (λ d. state_shown old.station true d)) old.hand)
    = ap (filter_map (told_later (seen s past) (now_in s past Lost) Lost)) m.fits.hand_is ∙ tolds_are (seen s past) (now_in s past Lost) Lost _ old.hand all in
    let called : map act_of acts ≡ Lost ∷ calls s past Lost
    = ap (map act_of) h ∙ ap (λ (v : List Act). Lost ∷ v) (ap (map act_of) (same_told old.station e ended0 old.hand) ∙ (sym later ∙ sym (lost_calls s past))) in
    let none : left_by says old.hand ≡ [] = none_left old.station e old.hand in
    let hand : in_hand (ended s past Lost) ≡ []
    = (end_of s past Lost 0).hand_is ∙ (told_off_all s past Lost (hand_distinct s past m.run)
    ∙ (ap (filter (stays (seen s past) (now_in s past Lost) Lost)) m.fits.hand_is ∙ (stays_left (seen s past) (now_in s past Lost) Lost _ old.hand all ∙ none_left old.station ended0 old.hand))) in
    let there : Fits (record old { hand = left_by says old.hand; lost = true }) (ended s past Lost)
    = record { hand_is = hand ∙ sym none; lost_is = lost_on s past Lost; runs = none } in
    record {
      called = called;
      setting = subst (λ (v : Core). IsSettingOf s v) (sym n) (record { role_is = m.setting.role_is; n1_is = m.setting.n1_is; dialect_is = m.setting.dialect_is; listens_are = m.setting.listens_are });
      fits = subst (λ (v : Core). Fits v (after past (map act_of acts))) (sym n) (subst (λ (w : List Act). Fits (record old { hand = left_by says old.hand; lost = true }) (after past w)) (sym called) there);
      run = subst (λ (w : List Act). IsRun s (after past w)) (sym called) (run_on s past Lost refl tt m.run m.numbers);
    }
