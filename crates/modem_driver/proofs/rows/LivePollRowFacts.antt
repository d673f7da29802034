-- What isn't a poll of a session that has just begun.
use Rattle.std.proofs.Common.{ap, sym, ◌∙◌, subst, arith, lit<, lit≤}
use Rattle.std.proofs.lemmas.Bool.{and_parts, ltb-true}
use Rattle.std.proofs.lemmas.List.{get_or_past, length-append}
use Rattle.std.specs.Prelude.{◌≡◌, ℕ, zero, suc, ◌+◌, ◌-◌, ◌^◌, ◌<◌, ◌≤◌, ◌==◌, ◌||◌, not, min, nat_lt, Bool, true, false, List, [], ◌∷◌, ◌++◌, length, flat_map, refl, Option, None, Some, Ok}
use Rattle.std.specs.List.{list_all, list_any}
use Rattle.mux_frame.specs.Frames.{Frame}
use Rattle.mux_station.specs.declared.role.Role.TheVariants.{Initiator}
use Rattle.mux_station.specs.Written.{is_data_frame}
use Rattle.mux_station.proofs.states.StationPasts as stations
use Rattle.modem_desk.specs.Ends.{DeskId}
use Rattle.modem_desk.specs.declared.request.Request.{Request}
use Rattle.modem_desk.specs.declared.request.Urc.{Urc}
use Rattle.modem_history.specs.Acts.{Act, Took, Got, Sent, Told, Heard, Tick, Lost, Held, Freed, Given, after}
use Rattle.modem_history.specs.Calls.{Setting}
use Rattle.modem_history.specs.Lawful.{Lawful, Allows, Gated, IsNext, When}
use Rattle.modem_history.specs.Wholes.{IsPrefixOf, taken_requests}
use Rattle.modem_history.specs.Sessions.{Beginning, LineView, driving, gots, at_place}
use Rattle.modem_history.specs.Turns.{Read, TurnAnswer, amount, calls_made, counted, is_mark, may_act, may_fail, octets_read, octets_written}
use Rattle.modem_history.specs.EveryTurn.{Handles, ReadsWhereFed, asked_in_vain, gets, waits}
use Rattle.modem_history.proofs.law_proofs.SessionLaws.{begins_fitting}
use Rattle.modem_history.specs.SessionLaws.{BeginsFitting}
use Rattle.modem_driver.specs.SessionStates.{SessionState, Ticks, beginning_of, new_machine}
use Rattle.modem_driver.specs.SessionTurns.{TakesTurn}
use Rattle.modem_driver.specs.Polls.{MakesTurn, MovesOn, RunsTurns, ends, goes_on, has_ended, moves_none, moves_once, rests}
use Rattle.modem_driver.specs.PollLaws.{IsSession, MovesThrough, NoLossIsKeptBack, NoLossIsStopped, all_through, ended_through, fails_through, rests_through, through_none, through_once}
use Rattle.modem_driver.specs.PollRows.{bare_desk, lost_session}
use Rattle.modem_driver.specs.LivePollRows.{AreNoLivePolls, AsksPerTurn, IsNewSession, NoTickInAPoll, NoTickIsAPoll, ReadsTheLine, after_flags, after_idle, lost_and_stopped, new_session, ticks_in}
use Rattle.modem_core.proofs.cores.NewCore.{new_fits}
use Rattle.modem_driver.proofs.sessions.polls.PollLaws.{no_loss_is_kept_back, no_loss_is_stopped}
use Rattle.at_text.specs.Dialects.{standard}
use Rattle.at_text.specs.Rules.{no_rules}
use Rattle.at_text.proofs.NoRules.{no_rules_standard}
use Rattle.serial_line.specs.LineViews.{unused_line}
use Rattle.modem_driver.proofs.sessions.steps.StartAndTick.{machine_begins}
use Rattle.modem_history.proofs.rules.MadeLaws.{laws_of}

never : {P : Type 0} → false ≡ true → P
never e = cc

-- ## Ticks

-- acts of a turn have no tick
none_ticks : (test : Act → Bool) → test Tick ≡ false → (acts past : List Act) → list_all test acts ≡ true → ticks_in (after past acts) ≡ ticks_in past
none_ticks test off [] past h = refl
none_ticks test off (a ∷ acts) past h =
    let parts = and_parts (test a) (list_all test acts) h in
    none_ticks test off acts (a ∷ past) parts.1 ∙ by a parts.0
  where
    by : (x : Act) → test x ≡ true → ticks_in (x ∷ past) ≡ ticks_in past
    by Tick on = never (sym off ∙ on)
    by (Took _) on = refl
    by (Got _) on = refl
    by (Sent _) on = refl
    by (Told _) on = refl
    by (Heard _ _ _) on = refl
    by Lost on = refl
    by (Held _) on = refl
    by (Freed _) on = refl
    by Given on = refl

module _ {X : Type 0} (look : X → LineView) where
  moves_tick_none : (b : Beginning) (past : List Act) (old new : SessionState X) (n : ℕ) (now : List Act) → MovesThrough look b old past n new now → ticks_in now ≡ ticks_in past
  moves_tick_none b past old _ _ _ (through_none f) = refl
  moves_tick_none b past old _ _ _ (through_once n mid new before acts t moves going f turn steps) =
      none_ticks (may_act t.still_heard) refl acts before turn.acts_may ∙ moves_tick_none b past old mid n before moves

  -- the turns of a poll add no tick to a session's history
  pub no_tick_in_a_poll : NoTickInAPoll look
  unfolding NoTickInAPoll
  no_tick_in_a_poll b past _ old new _ (all_through now moves) = moves_tick_none b past old new 64 now moves
  no_tick_in_a_poll b past _ old new _ (ended_through n now few moves e) = moves_tick_none b past old new n now moves
  no_tick_in_a_poll b past _ old new _ (rests_through n mid before acts t says few moves going f turn steps other) =
      none_ticks (may_act t.still_heard) refl acts before turn.acts_may ∙ moves_tick_none b past old mid n before moves
  no_tick_in_a_poll b past _ old new _ (fails_through n mid before acts t why few moves going f turn offers) =
      none_ticks (may_fail t.still_heard) refl acts before turn.acts_may ∙ moves_tick_none b past old mid n before moves

-- ## Calls

abbrev counted_to : ℕ → ℕ → ℕ → ℕ
counted_to m n zero = n
counted_to m n (suc k) = min (n + suc k) m

same_count : (n k : ℕ) → counted n k ≡ counted_to (2 ^ 64 - 1) n k
same_count n zero = refl
same_count n (suc k) = refl

-- a count that ends at m is no lower, and above where it rose below m
rises : (m n k : ℕ) → n ≤ m → (n ≤ counted_to m n k) × (counted_to m n k ≤ m)
rises m n zero few = (omega arith, few)
rises m n (suc k) few = (omega (arith, few), omega arith)

rises_by : (m n k : ℕ) → n < m → 1 ≤ k → n < counted_to m n k
rises_by m n zero few one = omega (arith, one)
rises_by m n (suc k) few one = omega (arith, few)

at_most_more : (m n k : ℕ) → counted_to m n k ≤ n + k
at_most_more m n zero = omega arith
at_most_more m n (suc k) = omega arith

was_read : (r : Option Read) (unfed : List ℕ) → unfed ≡ [] → ReadsWhereFed r unfed → 1 ≤ calls_made r
was_read None unfed fed h = absurd (h fed)
was_read (Some r) unfed fed h = lit≤ tt

asked_once : (next : Option (Option Request)) → asked_in_vain next ≤ 1
asked_once None = lit≤ tt
asked_once (Some None) = lit≤ tt
asked_once (Some (Some q)) = lit≤ tt

module _ {X : Type 0} (look : X → LineView) where
  -- a turn keeps a history
  goes_on_in : (old new : SessionState X) (says : TurnAnswer) → IsSession look old → MakesTurn look old new says → IsSession look new
  unfolding TakesTurn
  goes_on_in old new says s turn = record { b = s.b; past = after s.past turn.turn.acts; fits = turn.turn.goes s.b s.past s.fits }

  moves_keep : (old new : SessionState X) (n : ℕ) → IsSession look old → MovesOn look old n new → IsSession look new
  moves_keep old _ _ s moves_none = s
  moves_keep old _ _ s (moves_once n mid new moves turn) = goes_on_in mid new TurnAnswer.Moved (moves_keep old mid n s moves) turn

  -- what a turn of a session does at its line and its desk
  record Turned (old new : SessionState X) : Type 0 where
    made : ℕ
    calls : (look new.line).calls ≡ counted (look old.line).calls made
    reads : old.machine.unfed ≡ [] → 1 ≤ made
    in_vain : ℕ
    found : new.driver.found_none ≡ counted old.driver.found_none in_vain
    once : in_vain ≤ 1
    came : List ℕ
    received : (look new.line).received ≡ (look old.line).received ++ came
    went : List ℕ
    sent : (look new.line).sent ≡ (look old.line).sent ++ went

  turned_so : (old new : SessionState X) (says : TurnAnswer) → IsSession look old → MakesTurn look old new says → Turned old new
  unfolding TakesTurn
  turned_so old new says s turn =
      let t = turn.turn.exchange in
      let is = (turn.turn.turn s.b s.past s.fits).exchanges in
      let steps = turn.turn.steps s.b s.past s.fits in
      record {
        made = calls_made t.write + calls_made t.read;
        calls = is.calls;
        reads = λ fed. let one = was_read t.read old.machine.unfed fed steps.reads.reads in omega (arith, one);
        in_vain = asked_in_vain t.next;
        found = steps.asks.found_none;
        once = asked_once t.next;
        came = octets_read t.read;
        received = is.came;
        went = octets_written t.write;
        sent = is.went;
      }

  record Called (old new : SessionState X) (n : ℕ) : Type 0 where
    bound : (look new.line).calls ≤ 2 ^ 64 - 1
    none : n ≡ 0 → new ≡ old
    some_more : 1 ≤ n → (look old.line).calls < (look new.line).calls

  calls_on : (old mid new : SessionState X) (n : ℕ) → old.machine.unfed ≡ [] → (look old.line).calls < 2 ^ 64 - 1 → Called old mid n → Turned mid new → Called old new (n + 1)
  calls_on old mid new zero fed few so turn =
      let same = so.none refl in
      let here : (look mid.line).calls ≡ (look old.line).calls = ap (λ (x : SessionState X). (look x.line).calls) same in
      let made = turn.reads (ap (λ (x : SessionState X). x.machine.unfed) same ∙ fed) in
      let k = turn.made in
      let is : (look new.line).calls ≡ counted_to (2 ^ 64 - 1) (look mid.line).calls k = turn.calls ∙ same_count (look mid.line).calls k in
      let less : (look mid.line).calls < 2 ^ 64 - 1 = subst (λ (n : ℕ). n < 2 ^ 64 - 1) (sym here) few in
      record {
        bound = subst (λ (n : ℕ). n ≤ 2 ^ 64 - 1) (sym is) (rises (2 ^ 64 - 1) (look mid.line).calls k so.bound).1;
        none = λ e. absurd (let x : 0 + 1 ≡ 0 = e in omega (arith, x));
        some_more = λ one. subst (λ (n : ℕ). n < (look new.line).calls) here (subst (λ (n : ℕ). (look mid.line).calls < n) (sym is) (rises_by (2 ^ 64 - 1) (look mid.line).calls k less made));
      }
  calls_on old mid new (suc n) fed few so turn =
      let k = turn.made in
      let is : (look new.line).calls ≡ counted_to (2 ^ 64 - 1) (look mid.line).calls k = turn.calls ∙ same_count (look mid.line).calls k in
      let both = rises (2 ^ 64 - 1) (look mid.line).calls k so.bound in
      let keeps : (look mid.line).calls ≤ (look new.line).calls = subst (λ (n : ℕ). (look mid.line).calls ≤ n) (sym is) both.0 in
      let one : 1 ≤ suc n = omega arith in
      let rose = so.some_more one in
      record {
        bound = subst (λ (n : ℕ). n ≤ 2 ^ 64 - 1) (sym is) both.1;
        none = λ e. absurd (omega (arith, e));
        some_more = λ e. omega (arith, keeps, rose);
      }

  called : (old new : SessionState X) (n : ℕ) → old.machine.unfed ≡ [] → (look old.line).calls < 2 ^ 64 - 1 → IsSession look old → MovesOn look old n new → Called old new n
  called old _ _ fed few s moves_none = record { bound = omega (arith, few); none = λ e. refl; some_more = λ e. absurd (omega (arith, e)) }
  called old _ _ fed few s (moves_once n mid new moves turn) =
      calls_on old mid new n fed few (called old mid n fed few s moves) (turned_so mid new TurnAnswer.Moved (moves_keep old mid n s moves) turn)

  -- where all that came was fed and the session hasn't ended, a poll without a fault calls the line
  pub reads_the_line : ReadsTheLine look
  unfolding ReadsTheLine
  reads_the_line old new _ s fed going few (goes_on moves) = (called old new 64 fed few s moves).some_more (lit≤ tt)
  reads_the_line old new _ s fed going few (ends n small moves e) = by n (called old new n fed few s moves)
    where
      by : (m : ℕ) → Called old new m → (look old.line).calls < (look new.line).calls
      by zero so = never (sym going ∙ (sym (ap (λ (x : SessionState X). has_ended x.machine) (so.none refl)) ∙ e))
      by (suc m) so = so.some_more (omega arith)
  reads_the_line old new _ s fed going few (rests n mid says small moves turn other) =
      (calls_on old mid new n fed few (called old mid n fed few s moves) (turned_so mid new says (moves_keep old mid n s moves) turn)).some_more (omega arith)

  -- where all that came was fed and it hasn't ended, what a tick comes to is no poll without a fault
  pub no_tick_is_a_poll : NoTickIsAPoll look
  unfolding NoTickIsAPoll ReadsTheLine Ticks
  no_tick_is_a_poll old new more s fed going few ticks runs =
      let rose = reads_the_line old new more s fed going few runs in
      let same = ap (λ (l : LineView). l.calls) (ticks.tick s.b s.past s.fits).line_stays in
      omega (arith, rose, same)

  -- ## The desk

  asks_on : (old new : SessionState X) → Turned old new → new.driver.found_none ≤ old.driver.found_none + 1
  asks_on old new turn =
      let is : new.driver.found_none ≡ counted_to (2 ^ 64 - 1) old.driver.found_none turn.in_vain = turn.found ∙ same_count old.driver.found_none turn.in_vain in
      let few = at_most_more (2 ^ 64 - 1) old.driver.found_none turn.in_vain in
      let one = turn.once in
      omega (arith, is, few, one)

  asked : (old new : SessionState X) (n : ℕ) → IsSession look old → MovesOn look old n new → new.driver.found_none ≤ old.driver.found_none + n
  asked old _ _ s moves_none = omega arith
  asked old _ _ s (moves_once n mid new moves turn) =
      let before = asked old mid n s moves in
      let one = asks_on mid new (turned_so mid new TurnAnswer.Moved (moves_keep old mid n s moves) turn) in
      omega (arith, before, one)

  -- a poll without a fault finds the desk without a request 64 times at most
  pub asks_per_turn : AsksPerTurn look
  unfolding AsksPerTurn
  asks_per_turn old new _ s (goes_on moves) = asked old new 64 s moves
  asks_per_turn old new _ s (ends n few moves e) = let all = asked old new n s moves in omega (arith, all, few)
  asks_per_turn old new _ s (rests n mid says few moves turn other) =
      let before = asked old mid n s moves in
      let one = asks_on mid new (turned_so mid new says (moves_keep old mid n s moves) turn) in
      omega (arith, before, one, few)

-- ## Where nothing came, left or was taken

prefix_none : {A : Type 0} (xs ys : List A) → xs ++ ys ≡ [] → xs ≡ []
prefix_none [] ys e = refl
prefix_none (x ∷ xs) ys e = let h : ⊥ = cc in absurd h

begins_none : {A : Type 0} (xs ys : List A) → IsPrefixOf xs ys → ys ≡ [] → xs ≡ []
begins_none xs ys h none = prefix_none xs h.rest (h.joins ∙ none)

amount_none : {A : Type 0} (xss : List (List A)) → ((c : ℕ) → at_place c xss ≡ []) → amount xss ≡ 0
amount_none [] all = refl
amount_none {A} (xs ∷ xss) all = ap (λ (ys : List A). length (ys ++ flat_map (λ (zs : List A). zs) xss)) (all 0) ∙ amount_none xss (λ c. all (suc c))

-- none was taken, told or announced
record IsStill (s : SessionState LineView) : Type 0 where
  received : s.line.received ≡ []
  sent : s.line.sent ≡ []
  taken : s.driver.taken ≡ []
  told : (c : ℕ) → at_place c s.driver.told ≡ []
  announced : (i : ℕ) → at_place i s.driver.announced ≡ []

abbrev itself : LineView → LineView
itself l = l

was_still : (old new : SessionState LineView) (says : TurnAnswer) → IsSession itself old → MakesTurn itself old new says → IsStill new → IsStill old
was_still old new says s turn still =
    let so = turned_so itself old new says s turn in
    record {
      received = prefix_none old.line.received so.came (sym so.received ∙ still.received);
      sent = prefix_none old.line.sent so.went (sym so.sent ∙ still.sent);
      taken = begins_none old.driver.taken new.driver.taken turn.turned.taken still.taken;
      told = λ c. begins_none (at_place c old.driver.told) (at_place c new.driver.told) (turn.turned.told c) (still.told c);
      announced = λ i. begins_none (at_place i old.driver.announced) (at_place i new.driver.announced) (turn.turned.announced i) (still.announced i);
    }

-- ## The first act of a history

lawful_before : (s : Setting) (acts past : List Act) → Lawful s (after past acts) → Lawful s past
unfolding Lawful
lawful_before s [] past h = h
lawful_before s (a ∷ acts) past h = (lawful_before s acts (a ∷ past) h).1

taken_step : (a : Act) (past : List Act) → length (taken_requests past) ≤ length (taken_requests (a ∷ past))
taken_step (Took r) past = let e = length-append (taken_requests past) (r ∷ []) in omega (arith, e)
taken_step (Got _) past = omega arith
taken_step (Sent _) past = omega arith
taken_step (Told _) past = omega arith
taken_step (Heard _ _ _) past = omega arith
taken_step Tick past = omega arith
taken_step Lost past = omega arith
taken_step (Held _) past = omega arith
taken_step (Freed _) past = omega arith
taken_step Given past = omega arith

taken_more : (acts past : List Act) → length (taken_requests past) ≤ length (taken_requests (after past acts))
taken_more [] past = omega arith
taken_more (a ∷ acts) past = let one = taken_step a past in let more = taken_more acts (a ∷ past) in omega (arith, one, more)

none_next : {P : Type 0} {a : Act} → IsNext [] a → P
none_next n = absurd (by n.is_next)
  where
    by : {x : Act} {xs : List Act} → [] ≡ x ∷ xs → ⊥
    by e = cc

none_behind : {P : Type 0} (fs : List Frame) (f : Frame) → fs ++ f ∷ [] ≡ [] → P
none_behind fs f e = let size = length-append fs (f ∷ []) in let none = ap length e in let x : ⊥ = omega (arith, size, none) in absurd x

-- no frame is the first
no_frame : {P : Type 0} (b : Beginning) (f : Frame) → Allows (driving b) [] [] (Sent f) → P
no_frame b f h = by (is_data_frame f) h.gated h.controlled
  where
    by : {Q : Type 0} (data_frame : Bool) → When data_frame (Gated (driving b) [] [] f) → When (not data_frame) (IsNext [] (Sent f)) → Q
    by true g c = never g.is_open
    by false g c = none_next c

no_acts : (b : Beginning) (lines : List Urc) (acts : List Act) → list_all (may_act lines) acts ≡ true → gots acts ≡ [] → Lawful (driving b) (after [] acts) → taken_requests (after [] acts) ≡ [] → acts ≡ []
unfolding Lawful
no_acts b lines [] may none lawful taken = refl
no_acts b lines (a ∷ acts) may none lawful taken = by a may none taken (lawful_before (driving b) acts (a ∷ []) lawful).0
  where
    by : (x : Act) → list_all (may_act lines) (x ∷ acts) ≡ true → gots (x ∷ acts) ≡ [] → taken_requests (after (x ∷ []) acts) ≡ [] → Allows (driving b) [] [] x → a ∷ acts ≡ []
    by (Took r) may none taken h = let more = taken_more acts (Took r ∷ []) in let size = ap length taken in let x : ⊥ = omega (arith, more, size) in absurd x
    by (Got f) may none taken h = none_behind (gots acts) f none
    by (Sent f) may none taken h = no_frame b f h
    by (Told o) may none taken h = none_next h.answered
    by (Heard k d line) may none taken h = none_next h.heard
    by Tick may none taken h = never may
    by Lost may none taken h = never may
    by (Held d) may none taken h = never (and_parts (not (d == 0)) false h.held).1
    by (Freed d) may none taken h = never h.held
    by Given may none taken h = never h.marked

none_got : (b : Beginning) (before acts : List Act) → Handles b None before acts → gots acts ≡ []
none_got b before acts (gets e) = e
none_got b before acts (waits f h room e) = e

-- ## A session that has just begun

-- a session to which nothing has happened has the empty history
pub is_new_session : IsNewSession
unfolding IsNewSession BeginsFitting
is_new_session at = record {
  session = begins_fitting (beginning_of 31 unused_line (bare_desk at)) (lit≤ tt);
  inside = machine_begins no_rules standard (sym no_rules_standard) 31 [] (new_machine 31 []) (bare_desk at) refl (λ m. ((λ c. c), (λ c. c)))
      (new_fits (new_machine 31 []).core no_rules 31 [] refl (stations.new_fits Initiator 31 (new_machine 31 []).core.station.channels [] refl refl))
      (record { held_are = λ d small own opened. never opened }) unused_line;
}

is_one : (at : DeskId) → IsSession itself (new_session at)
unfolding IsNewSession
is_one at = record { b = beginning_of 31 unused_line (bare_desk at); past = []; fits = is_new_session at }

or_cases : (x y : Bool) → (x || y) ≡ true → (x ≡ true → ⊥) → (y ≡ true → ⊥) → ⊥
or_cases true y e f g = f refl
or_cases false y e f g = g e

no_more : (n m : ℕ) → m ≡ 0 → nat_lt n m ≡ true → ⊥
no_more n m e h = let less : n < m = ltb-true n m h in omega (arith, e, less)

-- a turn that answers Moved moves something there
first_moves : (at : DeskId) (new : SessionState LineView) → MakesTurn itself (new_session at) new TurnAnswer.Moved → IsStill new → ⊥
unfolding TakesTurn IsNewSession
first_moves at new turn still =
    let b = beginning_of 31 unused_line (bare_desk at) in
    let acts = turn.turn.acts in
    let t = turn.turn.exchange in
    let is = turn.turn.turn b [] (is_new_session at) in
    let steps = turn.turn.steps b [] (is_new_session at) in
    let later = turn.turn.goes b [] (is_new_session at) in
    let taken : taken_requests (after [] acts) ≡ [] = sym later.session.requests.taken_are ∙ still.taken in
    let none = no_acts b t.still_heard acts is.acts_may (none_got b _ acts steps.handles) (laws_of later.session.history).lawful taken in
    or_cases _ _ is.moved (λ h. never (sym (ap (list_any (λ a. not (is_mark a))) none) ∙ h))
    (λ h1. or_cases _ _ h1 (no_more 0 (length new.line.received) (ap length still.received))
    (λ h2. or_cases _ _ h2 (no_more 0 (length new.line.sent) (ap length still.sent))
    (λ h3. or_cases _ _ h3 (no_more 0 (amount new.driver.told) (amount_none new.driver.told still.told))
    (λ h4. or_cases _ _ h4 (no_more 0 (amount new.driver.announced) (amount_none new.driver.announced still.announced))
    (no_more (length new.machine.unfed) 0 refl)))))

start_is : (old new : SessionState LineView) (n : ℕ) → MovesOn itself old n new → n ≡ 0 → new ≡ old
start_is old _ _ moves_none e = refl
start_is old _ _ (moves_once n mid new moves turn) e = absurd (let x : n + 1 ≡ 0 = e in omega (arith, x))

none_moved : (at : DeskId) (n : ℕ) (s : SessionState LineView) → MovesOn itself (new_session at) n s → IsStill s → n ≡ 0
none_moved at _ _ moves_none still = refl
none_moved at _ _ (moves_once n mid new moves turn) still =
    let zero = none_moved at n mid moves (was_still mid new TurnAnswer.Moved (moves_keep itself (new_session at) mid n (is_one at) moves) turn still) in
    absurd (first_moves at new (subst (λ (m : SessionState LineView). MakesTurn itself m new TurnAnswer.Moved) (start_is (new_session at) mid n moves zero) turn) still)

idle_is_still : (n : ℕ) (at : DeskId) → IsStill (after_idle n at)
idle_is_still n at = record { received = refl; sent = refl; taken = refl; told = λ c. get_or_past [] c [] (omega arith); announced = λ i. get_or_past [] i [] (omega arith) }

behind_an_idle : (at : DeskId) (more : Bool) → ¬ RunsTurns itself (new_session at) (after_idle 2 at) (Ok more)
behind_an_idle at _ (goes_on moves) = let x = none_moved at 64 (after_idle 2 at) moves (idle_is_still 2 at) in omega (arith, x)
behind_an_idle at _ (ends n few moves e) =
    let same = start_is (new_session at) (after_idle 2 at) n moves (none_moved at n (after_idle 2 at) moves (idle_is_still 2 at)) in
    let x : 2 ≡ 0 = ap (λ (s : SessionState LineView). s.driver.found_none) same in
    omega (arith, x)
behind_an_idle at _ (rests n mid says few moves turn other) =
    let s = moves_keep itself (new_session at) mid n (is_one at) moves in
    let same = start_is (new_session at) mid n moves (none_moved at n mid moves (was_still mid (after_idle 2 at) says s turn (idle_is_still 2 at))) in
    let none : mid.driver.found_none ≡ 0 = ap (λ (x : SessionState LineView). x.driver.found_none) same in
    let one : 2 ≤ mid.driver.found_none + 1 = asks_on itself mid (after_idle 2 at) (turned_so itself mid (after_idle 2 at) says s turn) in
    omega (arith, none, one)

no_turn : (at : DeskId) (more : Bool) → ¬ RunsTurns itself (new_session at) (new_session at) (Ok more)
unfolding ReadsTheLine
no_turn at more runs = let x : 0 < 0 = reads_the_line itself (new_session at) (new_session at) more (is_one at) refl refl (lit< tt) runs in omega (arith, x)

too_many : (at : DeskId) (more : Bool) → ¬ RunsTurns itself (new_session at) (after_flags 65 at) (Ok more)
unfolding AsksPerTurn
too_many at more runs = let x : 65 ≤ 0 + 64 = asks_per_turn itself (new_session at) (after_flags 65 at) more (is_one at) runs in omega (arith, x)

-- no turn, a tick, a loss kept back or given as Stopped, too many turns: none of this is a poll of it
pub no_live_polls : AreNoLivePolls
unfolding AreNoLivePolls NoTickIsAPoll NoLossIsKeptBack NoLossIsStopped
no_live_polls at more = (
  no_turn at more,
  (
    (λ new ticks. no_tick_is_a_poll itself (new_session at) new more (is_one at) refl refl (lit< tt) ticks),
    (
      no_loss_is_kept_back itself (new_session at) (lost_session at) more (is_one at) refl,
      (
        no_loss_is_stopped itself (new_session at) (lost_and_stopped at) (is_one at) refl,
        (too_many at more, behind_an_idle at more),
      ),
    ),
  ),
)
