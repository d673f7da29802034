-- A Stop that has ended is noted: it was the one in hand, and a call that takes a request ends none.
use Rattle.std.proofs.Common.{ap, sym, ◌∙◌, subst, arith}
use Rattle.std.proofs.lemmas.Bool.{and_parts, eqb-true}
use Rattle.std.proofs.lemmas.List.{length-append}
use Rattle.std.proofs.lemmas.List.Elements.{filter-append}
use Rattle.std.proofs.lemmas.List.Folds.{list_any-append}
use Rattle.std.specs.Prelude.{◌≡◌, ℕ, ◌+◌, ◌≤◌, ◌==◌, ◌&&◌, ◌||◌, not, nat_le, Bool, true, false, List, [], ◌∷◌, ◌++◌, filter, find, length, map, refl, Option, None, Some, option_map, if◌then◌else◌}
use Rattle.std.specs.List.{list_all, list_any}
use Rattle.mux_frame.specs.Frames.{Frame}
use Rattle.mux_station.specs.declared.role.ChannelState.{ChannelState}
use Rattle.mux_station.specs.Acts as station
use Rattle.mux_station.specs.Messages.{cld}
use Rattle.mux_station.specs.Messages.{brings_command}
use Rattle.mux_station.specs.Stages.{as_shown}
use Rattle.mux_station.proofs.states.StatesAfterActs.{state_next}
use Rattle.mux_station.specs.Stations.{channel_at}
use Rattle.mux_station.specs.States.{State, IsShut, IsOpening, IsOpened, IsClosing, IsStopping, at_sent, is_opened, is_shut, is_stopping, state_of}
use Rattle.mux_frame.specs.declared.frame.Kind.TheVariants.{Disc}
use Rattle.mux_station.specs.Written.{written}
use Rattle.mux_station.specs.declared.role.Role.TheVariants.{Initiator}
use Rattle.modem_desk.specs.Ends.{DriverView}
use Rattle.modem_desk.specs.declared.request.Ask.{Ask}
use Rattle.modem_desk.specs.declared.request.Ask.TheVariants.{OpenChannel, CloseChannel, Command, Probe, Stop}
use Rattle.modem_desk.specs.declared.request.Answer.{Answer}
use Rattle.modem_desk.specs.declared.request.Answer.TheVariants.{AlreadyOpen, Busy, Closed, ControlChannel, LineLost, NotOpen, Refused, Shut, Stopped}
use Rattle.modem_desk.specs.declared.request.Outcome.{Outcome}
use Rattle.modem_desk.specs.declared.request.Request.{Request}
use Rattle.modem_history.specs.Acts.{Act, Took, Got, Sent, Told, Heard, Tick, Lost, Held, Freed, Given, after, in_hand, is_for, wire}
use Rattle.modem_history.specs.Calls.{Setting, HistoryView, all_have_room, asking, at_once, calls, cause, close_later, is_lost, later, open_later, probe_waits, refused_ask, said_of, seen, tolds}
use Rattle.modem_history.specs.Lawful.{Lawful}
use Rattle.modem_history.specs.Requests.{are_distinct}
use Rattle.modem_history.specs.Sessions.{Beginning, LineView, driving}
use Rattle.modem_history.specs.Turns.{outcomes_told}
use Rattle.modem_history.specs.Wholes.{outcomes, taken_requests}
use Rattle.modem_history.proofs.calls.CallEnds.{ended, frames_in, now_in, now_is}
use Rattle.modem_history.proofs.outcomes.WholeCounts.{answers_once}
use Rattle.modem_history.proofs.calls.CalledActs.{Saids}
use Rattle.modem_history.proofs.outcomes.SingleOutcomes.{uses_once}
use Rattle.modem_history.proofs.requests.CommandsInStep.{left_in}
use Rattle.modem_history.proofs.requests.StepOfRequest.{if_none, took_hand}
use Rattle.modem_history.proofs.requests.RequestsAfterCalls.{distinct_ends}
use Rattle.modem_history.proofs.requests.UntoldRequests.{all_answer, hand_is, no_outcome}
use Rattle.modem_core.proofs.requests.TakenRequests.{asked_frames, distinct_with, live_of, once_now}
use Rattle.modem_core.proofs.sessions.steps.CollectedActs.{told_both}
use Rattle.modem_core.specs.Cores as cores
use Rattle.modem_core.specs.Cores.{Core, MayCome, Runs, RunsUnless, may_wait, state_shown}
use Rattle.modem_queues.specs.Stops.{asker_of, asks_stop, ends_stop, has_stopped, is_answered, is_end_of, is_stop, is_stopped_by}
use Rattle.modem_history.proofs.law_proofs.SessionLaws.{distinct_taken}
use Rattle.modem_driver.specs.SessionStates.{Machine, seen_by, end_of}
use Rattle.modem_core.proofs.sessions.steps.LongerHistories.{outcomes_after, taken_after}
use Rattle.modem_driver.proofs.sessions.steps.CoreCalls.{FitsMachine}
use Rattle.modem_core.proofs.sessions.steps.OutcomeCounts.{any_left, none_passes}
use Rattle.modem_driver.proofs.sessions.polls.StopProgress.{NoneEnds}
use Rattle.modem_driver.proofs.sessions.polls.StopsInHand.{any_same, ends, ends_by, later_ends, still_stopped, stopped_both, stops_left, unless_ends}
use Rattle.modem_history.proofs.rules.MadeLaws.{laws_of}

-- ## The Stop that ended was in hand

any_or : {X : Type 0} (p q : X → Bool) (xs : List X) → list_any p xs ≡ false → list_any (λ (x : X). p x || q x) xs ≡ true → list_any q xs ≡ true
any_or p q [] h k = k
any_or {X} p q (x ∷ xs) h k = by_tests (p x) (q x) h k (any_or p q xs)
  where
    by_tests : (c e : Bool) → (c || list_any p xs) ≡ false → ((c || e) || list_any (λ (y : X). p y || q y) xs) ≡ true → (list_any p xs ≡ false → list_any (λ (y : X). p y || q y) xs ≡ true → list_any q xs ≡ true) → (e || list_any q xs) ≡ true
    by_tests true e m n go = cc
    by_tests false true m n go = refl
    by_tests false false m n go = go m n

counted : {X : Type 0} (t : X → Bool) (xs : List X) → list_any t xs ≡ true → 1 ≤ length (filter t xs)
counted t [] h = cc
counted {X} t (x ∷ xs) h = by_test (t x) h (counted t xs)
  where
    by_test : (c : Bool) → (c || list_any t xs) ≡ true → (list_any t xs ≡ true → 1 ≤ length (filter t xs)) → 1 ≤ length (if c then x ∷ filter t xs else filter t xs)
    by_test true k go = omega arith
    by_test false k go = go k

any_part : {X : Type 0} (p q : X → Bool) (xs : List X) → list_any (λ (x : X). p x && q x) xs ≡ true → list_any p xs ≡ true
any_part p q [] h = h
any_part {X} p q (x ∷ xs) h = by_tests (p x) (q x) h (any_part p q xs)
  where
    by_tests : (c e : Bool) → ((c && e) || list_any (λ (y : X). p y && q y) xs) ≡ true → (list_any (λ (y : X). p y && q y) xs ≡ true → list_any p xs ≡ true) → (c || list_any p xs) ≡ true
    by_tests true e k go = refl
    by_tests false e k go = go k

ended_in_hand : (s : Setting) (past acts : List Act) → Lawful s past → Lawful s (after past acts) → are_distinct (taken_requests past) ≡ true → taken_requests (after past acts) ≡ taken_requests past → has_stopped past ≡ false → has_stopped (after past acts) ≡ true
    → list_any (is_stopped_by (outcomes_told acts)) (in_hand past) ≡ true
ended_in_hand s past acts before l distinct same none some =
    let os = outcomes past in
    let ps = outcomes_told acts in
    let split : list_any (λ (q : Request). is_stopped_by os q || is_stopped_by ps q) (taken_requests past) ≡ true =
    sym (any_same (is_stopped_by (outcomes (after past acts))) (λ (q : Request). is_stopped_by os q || is_stopped_by ps q) (taken_requests past) (λ q. ap (λ (xs : List Outcome). is_stopped_by xs q) (outcomes_after acts past) ∙ stopped_both os ps q))
    ∙ (sym (ap (list_any (is_stopped_by (outcomes (after past acts)))) same) ∙ some) in
    let now = any_or (is_stopped_by os) (is_stopped_by ps) (taken_requests past) none split in
    let untold_yet : (q : Request) → is_stopped_by ps q ≡ true → not (list_any (λ (o : Outcome). is_for q o) os) ≡ true = λ q h.
    let its = any_part (λ (o : Outcome). is_for q o) (λ (o : Outcome). ends_stop o.answer) ps (and_parts (is_stop q) (list_any (λ (o : Outcome). is_for q o && ends_stop o.answer) ps) h).1 in
    let one = counted (λ (o : Outcome). is_for q o) ps its in
    let few = (answers_once s (after past acts) l).once (uses_once (taken_requests (after past acts)) (ap are_distinct same ∙ distinct)) q in
    let all = ap (λ (xs : List Outcome). length (filter (λ (o : Outcome). is_for q o) xs)) (outcomes_after acts past) ∙ (ap length (filter-append (λ (o : Outcome). is_for q o) os ps) ∙ length-append (filter (λ (o : Outcome). is_for q o) os) (filter (λ (o : Outcome). is_for q o) ps)) in
    ap not (none_passes (λ (o : Outcome). is_for q o) os (omega (arith, one, few, all))) in
    ap (list_any (is_stopped_by ps)) (hand_is s past before distinct) ∙ any_left (is_stopped_by ps) (λ (q : Request). not (list_any (λ (o : Outcome). is_for q o) os)) untold_yet (taken_requests past) now

-- ## And it was the only one

record Found (qs : List Request) (t : Request → Bool) : Type 0 where
  stop : Request
  is_found : find is_stop qs ≡ Some stop
  passes : t stop ≡ true

found : (qs : List Request) (t : Request → Bool) → length (filter is_stop qs) ≤ 1 → list_any (λ (q : Request). is_stop q && t q) qs ≡ true → Found qs t
found [] t few h = cc
found (q ∷ qs) t few h = by_test (is_stop q) refl few h (found qs t)
  where
    first : (t q || list_any (λ (x : Request). is_stop x && t x) qs) ≡ true → list_any (λ (x : Request). is_stop x && t x) qs ≡ false → t q ≡ true
    first k none = by_first (t q) (sym (ap (λ (c : Bool). t q || c) none) ∙ k)
      where
        by_first : (c : Bool) → (c || false) ≡ true → c ≡ true
        by_first true e = refl
        by_first false e = e

    no_other : length (filter is_stop qs) ≡ 0 → list_any (λ (x : Request). is_stop x && t x) qs ≡ false
    no_other none = by_any (list_any (λ (x : Request). is_stop x && t x) qs) refl
      where
        by_any : (c : Bool) → list_any (λ (x : Request). is_stop x && t x) qs ≡ c → c ≡ false
        by_any false e = refl
        by_any true e = let one = counted is_stop qs (any_part is_stop t qs e) in absurd (omega (arith, one, none))

    by_test : (c : Bool) → is_stop q ≡ c → length (if c then q ∷ filter is_stop qs else filter is_stop qs) ≤ 1 → ((c && t q) || list_any (λ (x : Request). is_stop x && t x) qs) ≡ true
        → (length (filter is_stop qs) ≤ 1 → list_any (λ (x : Request). is_stop x && t x) qs ≡ true → Found qs t) → Found (q ∷ qs) t
    by_test true e n k go = record {
      stop = q;
      is_found = ap (λ (c : Bool). if c then Some q else find is_stop qs) e;
      passes = first k (no_other (omega arith));
    }
    by_test false e n k go =
        let f = go n k in
        record { stop = f.stop; is_found = ap (λ (c : Bool). if c then Some q else find is_stop qs) e ∙ f.is_found; passes = f.passes }

-- an outcome that was told is an act that tells so
told_ends : (q : Request) (acts : List Act) → list_any (is_end_of (asker_of q)) acts ≡ list_any (λ (o : Outcome). is_for q o && ends_stop o.answer) (outcomes_told acts)
told_ends q [] = refl
told_ends q (Told o ∷ acts) = ap (λ (c : Bool). (is_for q o && ends_stop o.answer) || c) (told_ends q acts)
told_ends q (Took r ∷ acts) = told_ends q acts
told_ends q (Got f ∷ acts) = told_ends q acts
told_ends q (Sent f ∷ acts) = told_ends q acts
told_ends q (Heard k d line ∷ acts) = told_ends q acts
told_ends q (Tick ∷ acts) = told_ends q acts
told_ends q (Lost ∷ acts) = told_ends q acts
told_ends q (Held d ∷ acts) = told_ends q acts
told_ends q (Freed d ∷ acts) = told_ends q acts
told_ends q (Given ∷ acts) = told_ends q acts

-- where nothing is noted, no Stop has ended
pub none_noted : (b : Beginning) (l : LineView) (d : DriverView) (old : Machine) (past acts more : List Act) (a : Act) → FitsMachine b l d old past → acts ≡ a ∷ more → taken_requests (a ∷ past) ≡ taken_requests past → Lawful (driving b) (after past acts) → Saids more → outcomes_told (a ∷ more) ≡ outcomes_told more
    → is_answered (option_map asker_of (find is_stop old.core.hand)) acts ≡ false → NoneEnds past acts
none_noted b l d old past acts more a f are bare lawful said told unnoted none = by_end (has_stopped (after past acts)) refl
  where
    by_end : (c : Bool) → has_stopped (after past acts) ≡ c → c ≡ false
    by_end false e = refl
    by_end true e =
        let same : taken_requests (after past acts) ≡ taken_requests past = ap (λ (xs : List Act). taken_requests (after past xs)) are ∙ (taken_after more (a ∷ past) said ∙ bare) in
        let some = ended_in_hand (driving b) past acts (laws_of f.session.history).lawful lawful (distinct_taken b (seen_by l (end_of d) old) past f.session) same none e in
        let it = found (in_hand past) (λ (q : Request). list_any (λ (o : Outcome). is_for q o && ends_stop o.answer) (outcomes_told acts)) f.inside.one_stop some in
        let first : find is_stop old.core.hand ≡ Some it.stop = ap (find is_stop) (sym f.inside.fits.hand_is) ∙ it.is_found in
        let noted : is_answered (option_map asker_of (find is_stop old.core.hand)) acts ≡ true = ap (λ (o : Option Request). is_answered (option_map asker_of o) acts) first ∙ (told_ends it.stop acts ∙ it.passes) in
        absurd (let both : false ≡ true = sym unnoted ∙ noted in cc)

-- ## While a Stop is in hand

not_opened : (x : State) → is_stopping x ≡ true → is_opened x ≡ false
not_opened IsShut h = cc
not_opened (IsOpening n) h = cc
not_opened IsOpened h = cc
not_opened (IsClosing n) h = cc
not_opened (IsStopping n) h = refl

not_shut : (x : State) → is_stopping x ≡ true → is_shut x ≡ false
not_shut IsShut h = cc
not_shut (IsOpening n) h = cc
not_shut IsOpened h = cc
not_shut (IsClosing n) h = cc
not_shut (IsStopping n) h = refl

shown_stopping : (x : State) → cores.shows_stopping (as_shown x) ≡ true → is_stopping x ≡ true
shown_stopping IsShut h = cc
shown_stopping (IsOpening n) h = cc
shown_stopping IsOpened h = cc
shown_stopping (IsClosing n) h = cc
shown_stopping (IsStopping n) h = refl

waits_stop : (now : ℕ → ChannelState) (rs : List Request) → list_all (λ (r : Request). may_wait now r.ask) rs ≡ true → list_any is_stop rs ≡ true → cores.shows_stopping (now 0) ≡ true
waits_stop now [] h k = cc
waits_stop now (r ∷ rs) h k =
    let parts = and_parts (may_wait now r.ask) (list_all (λ (q : Request). may_wait now q.ask) rs) h in
    by_ask r.ask parts.0 k (waits_stop now rs parts.1)
  where
    by_ask : (ask : Ask) → may_wait now ask ≡ true → (asks_stop ask || list_any is_stop rs) ≡ true → (list_any is_stop rs ≡ true → cores.shows_stopping (now 0) ≡ true) → cores.shows_stopping (now 0) ≡ true
    by_ask Stop w m go = w
    by_ask (OpenChannel d) w m go = go m
    by_ask (CloseChannel d) w m go = go m
    by_ask (Command d line) w m go = go m
    by_ask (Probe octets) w m go = go m

-- 0 is Stopping
zero_stops : (s : Setting) (v : Core) (past : List Act) (q : Request) → v.station.role ≡ Initiator → MayCome s v past (Took q) → list_any is_stop (in_hand past) ≡ true → is_stopping (state_of s.role 0 (wire past)) ≡ true
zero_stops s v past q role m some = by_lost v.lost refl
  where
    in_v : list_any is_stop v.hand ≡ true
    in_v = sym (ap (list_any is_stop) m.fits.hand_is) ∙ some

    by_lost : (c : Bool) → v.lost ≡ c → is_stopping (state_of s.role 0 (wire past)) ≡ true
    by_lost true e = let none : v.hand ≡ [] = subst (λ (c : Bool). RunsUnless c v past) e m.fits.runs in absurd (let both : false ≡ true = sym (ap (list_any is_stop) none) ∙ in_v in cc)
    by_lost false e =
        let l = live_of s v past (Took q) role e m in
        ap is_stopping (l.states_are 0 (omega arith)) ∙ shown_stopping (channel_at v.station 0).state (waits_stop (state_shown v.station false) v.hand l.runs.waits in_v)

after_if : (c : Bool) (x : Answer) (o : Option Answer) → (if c then Some x else o) ≡ None → o ≡ None
after_if false x o h = h
after_if true x o h = cc

test_of : (c : Bool) (x : Answer) (o : Option Answer) → (if c then Some x else o) ≡ None → c ≡ false
test_of false x o h = refl
test_of true x o h = cc

-- what isn't told at once isn't refused
unrefused : (s : Setting) (past : List Act) (q : Request) → at_once s (seen s past) q ≡ None → refused_ask s (seen s past) q.ask ≡ None
unrefused s past q h = after_if (nat_le 128 (length (in_hand past))) Busy _ (after_if (is_lost past) LineLost _ h)

-- 0 stays so when a request is taken
stays_stopping : (s : Setting) (past : List Act) (q : Request) → is_stopping (state_of s.role 0 (wire past)) ≡ true → is_stopping (now_in s past (Took q) 0) ≡ true
stays_stopping s past q h = by_answer (at_once s (seen s past) q) refl
  where
    x : State
    x = state_of s.role 0 (wire past)

    by_ask : (ask : Ask) → refused_ask s (seen s past) ask ≡ None → is_stopping (state_of s.role 0 (wire (after past (Took q ∷ map Sent (asking s.role ask))))) ≡ true
    by_ask (OpenChannel e) n = by_zero (e.number == 0) refl
      where
        by_zero : (c : Bool) → (e.number == 0) ≡ c → is_stopping (state_of s.role 0 (wire (after past (Took q ∷ map Sent (asking s.role (OpenChannel e)))))) ≡ true
        by_zero false z =
            let shut = test_of _ NotOpen _ n in
            absurd (let both : true ≡ false = sym (ap (λ (c : Bool). not c && not (is_opened x)) z ∙ ap not (not_opened x h)) ∙ shut in cc)
        by_zero true z =
            let free = test_of _ Busy _ (after_if _ AlreadyOpen _ (after_if _ NotOpen _ n)) in
            let room = all_have_room s (seen s past) (asking s.role (OpenChannel e)) in
            absurd (let both : true ≡ false = sym (ap (λ (m : ℕ). not (is_shut (state_of s.role m (wire past)) && room)) (eqb-true e.number 0 z) ∙ ap (λ (c : Bool). not (c && room)) (not_shut x h)) ∙ free in cc)
    by_ask (CloseChannel e) n = ap is_stopping (state_next s.role 0 (wire past) (station.Sent (written s.role Disc e.number []))) ∙ closes (e.number == 0) (test_of (e.number == 0) ControlChannel _ n) (brings_command cld (written s.role Disc e.number []))
      where
        closes : (c : Bool) → c ≡ false → (b : Bool) → is_stopping (if b then IsStopping 0 else if c then at_sent x Disc else x) ≡ true
        closes c z true = refl
        closes false z false = h
        closes true z false = cc
    by_ask (Command e line) n = h
    by_ask (Probe octets) n = absurd (let both : true ≡ false = sym (ap not (not_opened x h)) ∙ test_of (not (is_opened x)) NotOpen _ n in cc)
    by_ask Stop n = absurd (let both : true ≡ false = sym (ap not (not_opened x h)) ∙ test_of (not (is_opened x)) NotOpen _ n in cc)

    by_live : at_once s (seen s past) q ≡ None → is_stopping (now_in s past (Took q) 0) ≡ true
    by_live n =
        let frames = asked_frames s past q (test_of (is_lost past) LineLost _ n) n in
        ap is_stopping (now_is s past (Took q ∷ map Sent (frames_in s past (Took q))) 0)
        ∙ (ap (λ (fs : List Frame). is_stopping (state_of s.role 0 (wire (after past (Took q ∷ map Sent fs))))) frames ∙ by_ask q.ask (unrefused s past q n))

    by_answer : (o : Option Answer) → at_once s (seen s past) q ≡ o → is_stopping (now_in s past (Took q) 0) ≡ true
    by_answer None e = by_live e
    by_answer (Some why) e = ap is_stopping (once_now s past q why 0 e) ∙ h

-- ## A request is taken

cause_ends : (v : HistoryView) (now : ℕ → State) (q : Request) (why : Answer) → ends_stop why ≡ false → ends_stop (cause v now (Took q) why) ≡ false
cause_ends v now q why h = by_zero (is_opened (v.state 0) && not (is_opened (now 0)))
  where
    by_zero : (c : Bool) → ends_stop (if c then Closed else why) ≡ false
    by_zero true = refl
    by_zero false = h

answer_ends : (v : HistoryView) (now : ℕ → State) (q r : Request) (ask : Ask) → (asks_stop ask ≡ true → is_stopping (now 0) ≡ true) → ends_by (later v now (Took q) r ask) ≡ false
answer_ends v now q r (OpenChannel d) h = by_state (now d.number)
  where
    by_state : (x : State) → ends_by (open_later x (cause v now (Took q) Refused)) ≡ false
    by_state IsShut = cause_ends v now q Refused refl
    by_state (IsOpening n) = refl
    by_state IsOpened = refl
    by_state (IsClosing n) = cause_ends v now q Refused refl
    by_state (IsStopping n) = cause_ends v now q Refused refl
answer_ends v now q r (CloseChannel d) h = by_state (now d.number)
  where
    by_state : (x : State) → ends_by (close_later x (cause v now (Took q) Shut)) ≡ false
    by_state IsShut = cause_ends v now q Shut refl
    by_state (IsOpening n) = cause_ends v now q Shut refl
    by_state IsOpened = cause_ends v now q Shut refl
    by_state (IsClosing n) = refl
    by_state (IsStopping n) = cause_ends v now q Shut refl
answer_ends v now q r (Command d line) h = unless_ends (is_opened (now d.number)) None (Some (cause v now (Took q) Closed)) refl (cause_ends v now q Closed refl)
answer_ends v now q r (Probe octets) h = unless_ends (is_opened (now 0)) None (Some (cause v now (Took q) Closed)) refl (cause_ends v now q Closed refl)
answer_ends v now q r Stop h = ap (λ (c : Bool). ends_by (if c then None else Some Stopped)) (h refl)

refused_ends : (s : Setting) (v : HistoryView) (ask : Ask) → ends_by (refused_ask s v ask) ≡ false
refused_ends s v (OpenChannel d) = unless_ends (not (d.number == 0) && not (is_opened (v.state 0))) (Some NotOpen) _ refl (unless_ends (is_opened (v.state d.number)) (Some AlreadyOpen) _ refl (unless_ends (not (is_shut (v.state d.number) && all_have_room s v (asking s.role (OpenChannel d)))) (Some Busy) None refl refl))
refused_ends s v (CloseChannel d) = unless_ends (d.number == 0) (Some ControlChannel) _ refl (unless_ends (is_shut (v.state d.number)) (Some NotOpen) _ refl (unless_ends (not (is_opened (v.state d.number) && all_have_room s v (asking s.role (CloseChannel d)))) (Some Busy) None refl refl))
refused_ends s v (Command d line) = unless_ends (d.number == 0) (Some ControlChannel) _ refl (unless_ends (not (is_opened (v.state d.number))) (Some NotOpen) None refl refl)
refused_ends s v (Probe octets) = unless_ends (not (is_opened (v.state 0))) (Some NotOpen) _ refl (unless_ends (probe_waits v.waiting || not (all_have_room s v (asking s.role (Probe octets)))) (Some Busy) None refl refl)
refused_ends s v Stop = unless_ends (not (is_opened (v.state 0))) (Some NotOpen) _ refl (unless_ends (not (all_have_room s v (asking s.role Stop))) (Some Busy) None refl refl)

once_ends : (s : Setting) (v : HistoryView) (q : Request) → ends_by (at_once s v q) ≡ false
once_ends s v q = unless_ends v.lost (Some LineLost) _ refl (unless_ends (nat_le 128 (length v.hand)) (Some Busy) _ refl (refused_ends s v q.ask))

none_sent : (fs : List Frame) → outcomes_told (map Sent fs) ≡ []
none_sent [] = refl
none_sent (f ∷ fs) = none_sent fs

any_none : (xs ys : List Outcome) → list_any ends xs ≡ false → list_any ends ys ≡ false → list_any ends (xs ++ ys) ≡ false
any_none xs ys h k = list_any-append ends xs ys ∙ (ap (λ (c : Bool). c || list_any ends ys) h ∙ k)

said_ends : (q : Request) (o : Option Answer) → ends_by o ≡ false → list_any ends (outcomes_told (said_of q o)) ≡ false
said_ends q None h = refl
said_ends q (Some why) h = ap (λ (c : Bool). c || false) h

took_ends : (s : Setting) (v : Core) (past : List Act) (q : Request) → v.station.role ≡ Initiator → MayCome s v past (Took q) → list_any ends (outcomes_told (Took q ∷ calls s past (Took q))) ≡ false
took_ends s v past q role m =
    let see = seen s past in
    let now = now_in s past (Took q) in
    let sent = map Sent (frames_in s past (Took q)) in
    let once = said_of q (at_once s see q) in
    let rest = tolds see now (Took q) in
    ap (list_any ends) (told_both sent (once ++ rest) ∙ (ap (λ (os : List Outcome). os ++ outcomes_told (once ++ rest)) (none_sent (frames_in s past (Took q))) ∙ told_both once rest))
    ∙ any_none (outcomes_told once) (outcomes_told rest) (said_ends q (at_once s see q) (once_ends s see q))
    (later_ends (is_stopping (now 0) ≡ true) see now (Took q) (in_hand past) (λ r h. answer_ends see now q r r.ask h) (λ some. stays_stopping s past q (zero_stops s v past q role m some)))

-- what was told before it ends it not
new_goes_on : (s : Setting) (past : List Act) (q : Request) → Lawful s past → are_distinct (taken_requests past ++ q ∷ []) ≡ true → is_stopped_by (outcomes past) q ≡ false
new_goes_on s past q l distinct = by_any (is_stopped_by (outcomes past) q) refl
  where
    by_any : (c : Bool) → is_stopped_by (outcomes past) q ≡ c → c ≡ false
    by_any false e = refl
    by_any true e =
        let its = any_part (λ (o : Outcome). is_for q o) (λ (o : Outcome). ends_stop o.answer) (outcomes past) (and_parts (is_stop q) (list_any (λ (o : Outcome). is_for q o && ends_stop o.answer) (outcomes past)) e).1 in
        absurd (let both : true ≡ false = sym its ∙ no_outcome q (taken_requests past) (outcomes past) (distinct_ends (taken_requests past) q distinct).1 (all_answer s past l) in cc)

-- a request that is taken ends no Stop
pub took_ends_none : (s : Setting) (v : Core) (past : List Act) (q : Request) → v.station.role ≡ Initiator → MayCome s v past (Took q) → Lawful s past → Saids (calls s past (Took q)) → are_distinct (taken_requests past ++ q ∷ []) ≡ true → NoneEnds past (Took q ∷ calls s past (Took q))
took_ends_none s v past q role m l said distinct none =
    let acts = Took q ∷ calls s past (Took q) in
    ap (list_any (is_stopped_by (outcomes (after past acts)))) (taken_after (calls s past (Took q)) (Took q ∷ past) said)
    ∙ (still_stopped acts past (taken_requests past ++ q ∷ []) (took_ends s v past q role m)
    ∙ (list_any-append (is_stopped_by (outcomes past)) (taken_requests past) (q ∷ [])
    ∙ (ap (λ (c : Bool). c || (is_stopped_by (outcomes past) q || false)) none ∙ ap (λ (c : Bool). c || false) (new_goes_on s past q l distinct))))

-- a Stop that is taken on is the only one
pub took_stops : (s : Setting) (v : Core) (past : List Act) (q : Request) → v.station.role ≡ Initiator → MayCome s v past (Took q) → length (filter is_stop (in_hand past)) ≤ 1 → length (filter is_stop (in_hand (ended s past (Took q)))) ≤ 1
took_stops s v past q role m few = by_answer (at_once s (seen s past) q) refl
  where
    left : length (filter is_stop (left_in s past (Took q))) ≤ length (filter is_stop (in_hand past))
    left = stops_left _ (in_hand past)

    size : (o : Option Answer) → at_once s (seen s past) q ≡ o → length (filter is_stop (in_hand (ended s past (Took q)))) ≡ length (filter is_stop (left_in s past (Took q))) + length (filter is_stop (if_none o q))
    size o e =
        ap (λ (qs : List Request). length (filter is_stop qs)) (took_hand s past q (distinct_with s v past q m) ∙ ap (λ (x : Option Answer). left_in s past (Took q) ++ if_none x q) e)
        ∙ (ap length (filter-append is_stop (left_in s past (Took q)) (if_none o q)) ∙ length-append (filter is_stop (left_in s past (Took q))) (filter is_stop (if_none o q)))

    alone : asks_stop q.ask ≡ true → at_once s (seen s past) q ≡ None → list_any is_stop (in_hand past) ≡ false
    alone a n = by_any (list_any is_stop (in_hand past)) refl
      where
        by_ask : (ask : Ask) → asks_stop ask ≡ true → refused_ask s (seen s past) ask ≡ None → is_opened (state_of s.role 0 (wire past)) ≡ false → ⊥
        by_ask Stop x y z = let both : true ≡ false = sym (ap not z) ∙ test_of (not (is_opened (state_of s.role 0 (wire past)))) NotOpen _ y in cc
        by_ask (OpenChannel e) x y z = cc
        by_ask (CloseChannel e) x y z = cc
        by_ask (Command e line) x y z = cc
        by_ask (Probe octets) x y z = cc

        by_any : (c : Bool) → list_any is_stop (in_hand past) ≡ c → c ≡ false
        by_any false e = refl
        by_any true e = absurd (by_ask q.ask a (unrefused s past q n) (not_opened (state_of s.role 0 (wire past)) (zero_stops s v past q role m e)))

    none_count : (qs : List Request) → list_any is_stop qs ≡ false → length (filter is_stop qs) ≡ 0
    none_count [] h = refl
    none_count (r ∷ rs) h = by_test (is_stop r) h (none_count rs)
      where
        by_test : (c : Bool) → (c || list_any is_stop rs) ≡ false → (list_any is_stop rs ≡ false → length (filter is_stop rs) ≡ 0) → length (if c then r ∷ filter is_stop rs else filter is_stop rs) ≡ 0
        by_test false k go = go k
        by_test true k go = cc

    by_stop : (c : Bool) → is_stop q ≡ c → at_once s (seen s past) q ≡ None → length (filter is_stop (in_hand (ended s past (Took q)))) ≤ 1
    by_stop false e n =
        let all = size None n in
        let one = ap (λ (c : Bool). length (if c then q ∷ [] else [])) e in
        let before = left in
        omega (arith, all, one, before, few)
    by_stop true e n =
        let all = size None n in
        let one = ap (λ (c : Bool). length (if c then q ∷ [] else [])) e in
        let none = none_count (in_hand past) (alone e n) in
        let before = left in
        omega (arith, all, one, before, none)

    by_answer : (o : Option Answer) → at_once s (seen s past) q ≡ o → length (filter is_stop (in_hand (ended s past (Took q)))) ≤ 1
    by_answer None e = by_stop (is_stop q) refl e
    by_answer (Some why) e = let all = size (Some why) e in let before = left in omega (arith, all, before, few)
