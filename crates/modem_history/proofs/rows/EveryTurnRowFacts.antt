-- The rows of turns that take their steps, and of those that leave one out, computed.
use Rattle.std.proofs.Common.{append-nil, ap, sym, ◌∙◌, subst, arith, eqb-true, inl, inr, lit<, lit≤}
use Rattle.std.proofs.lemmas.List.{append_cancel_left, length-drop, get_or_past}
use Rattle.std.proofs.lemmas.Bool.{and_parts}
use Rattle.std.specs.Prelude.{◌≡◌, ◌⊎◌, ℕ, zero, suc, ◌-◌, ◌<◌, ◌≤◌, ◌==◌, Bool, true, false, List, [], ◌∷◌, ◌++◌, length, take, drop, map, filter, replicate, refl, Option, Some, None, if◌then◌else◌}
use Rattle.std.specs.List.{list_all}
use Rattle.mux_frame.specs.CheckOctet.{check_octet_of}
use Rattle.mux_frame.specs.Spelling.{body_of}
use Rattle.mux_station.specs.GivenFrames.{Outgoing}
use Rattle.modem_desk.specs.declared.request.Answer.TheVariants.{Opened}
use Rattle.modem_desk.specs.declared.request.Outcome.{Outcome}
use Rattle.modem_desk.specs.declared.request.Request.{Request}
use Rattle.modem_desk.specs.declared.request.Urc.{Urc}
use Rattle.modem_history.specs.Acts.{Act, Heard, Given, after}
use Rattle.modem_history.specs.Kinds.{of_kind}
use Rattle.modem_history.specs.Sessions.{SessionView, heard_as, at_place, caller_outcomes, backlog_in}
use Rattle.modem_history.specs.Turns.{Exchange, Read, Write, HoldsWhereRoom, counted, octets_read, request_given, HandsBack, IsOffer, IsTurn}
use Rattle.modem_history.specs.EveryTurn.{OffersWhatWaits, GivesSome, ReadsOn, ReadsWhereFed, acts_out, asked_in_vain, count_at, count_taken, counted_none, empty_after, gets, goes_in, is_check, octets_offered, octets_out, stalled_after}
use Rattle.modem_history.specs.SessionRows.{TurnRow, Each, beginning, sabm_zero, first_request, opened_zero, outcome_of, last_flag, lf_octet, ring, ua_zero}
use Rattle.modem_history.specs.GoodTurns.{exchanged, offers, outcome_back, reads_none, writes_on, takes_request, gets_frame, places_outcome, gives_on_in_vain, waits_for_zero}
use Rattle.modem_history.specs.EveryTurnRows.{SeemsATurn, StepsBy, SkipsAStep, TakeTheirSteps, raising, none_back, offers_nothing, reads_without_room, asks_for_none, looks_at_no_backlog, puts_half, leaves_an_outcome, skipping_turns}
use Rattle.modem_history.proofs.rows.SessionTests.{octets_differ, other_callers}
use Rattle.modem_history.proofs.rows.TurnTests.{none_held, first_own, of_kinds, one_back, turn_by}

-- ## Steps that are taken

gives_none : {A : Type 0} (xs waits : List A) → GivesSome xs xs waits waits
gives_none xs waits = record { given = []; given_are = sym (append-nil xs); rest_are = refl }

-- nothing waits for a place
nothing_waits : (old new : SessionView) (t : Exchange) → old.unplaced ≡ [] → old.unannounced ≡ [] → t.still_told ≡ [] → t.still_heard ≡ [] → t.told_back ≡ [] → t.heard_back ≡ []
    → new.desk.told ≡ old.desk.told → new.desk.announced ≡ old.desk.announced → new.desk.told_back ≡ old.desk.told_back → new.desk.announced_back ≡ old.desk.announced_back
    → OffersWhatWaits beginning old new t
nothing_waits old new t e1 e2 e3 e4 e5 e6 e7 e8 e9 e10 = record {
  outcomes = λ c. rw e7 (rw e1 (rw e3 (gives_none (at_place c old.desk.told) [])));
  lines = λ i k at. rw e8 (rw e2 (rw e4 (gives_none (at_place i old.desk.announced) [])));
  outcomes_back = λ c few. rw e9 (rw e5 refl);
  lines_back = λ i k at. rw e10 (rw e6 refl);
}

no_request : {A : Type 0} {a : A} {P : Type 0} → Some a ≡ None → P
no_request e = cc

-- nothing came where all was fed
reads_nothing : (old new : SessionView) (t : Exchange) → old.unfed ≡ [] → t.read ≡ reads_none → new.line.empty_reads ≡ counted old.line.empty_reads 1 → ReadsOn old new t
reads_nothing old new t fed read e = record {
  reads = rw read (lit≤ tt);
  empty = rw read e;
  feeds = λ none some. absurd (some (rw fed (rw read refl)));
}

writes_steps : StepsBy (raising 1 0 1 none_back writes_on) (exchanged (offers (drop 2 sabm_zero) 4) None)
writes_steps =
    let row = raising 1 0 1 none_back writes_on in
    record {
      offers = nothing_waits row.old row.new (exchanged (offers (drop 2 sabm_zero) 4) None) refl refl refl refl refl refl refl refl refl refl;
      checks = [];
      are_checks = refl;
      held = inl (none_held _ (after [] row.before) refl refl);
      rest = [];
      acts_are = refl;
      writes = record { offered = refl; left = refl; stalled = refl };
      handles = gets refl;
      reads = reads_nothing row.old row.new (exchanged (offers (drop 2 sabm_zero) 4) None) refl refl refl;
      asks = record { asks = λ e. no_request e; found_none = refl };
    }

stalls_steps : StepsBy (raising 1 1 1 none_back gives_on_in_vain) (exchanged (offers sabm_zero 0) None)
unfolding check_octet_of body_of
stalls_steps =
    let row = raising 1 1 1 none_back gives_on_in_vain in
    record {
      offers = nothing_waits row.old row.new (exchanged (offers sabm_zero 0) None) refl refl refl refl refl refl refl refl refl refl;
      checks = [];
      are_checks = refl;
      held = inl (none_held _ (after [] row.before) refl refl);
      rest = [];
      acts_are = refl;
      writes = record { offered = refl; left = refl; stalled = refl };
      handles = gets refl;
      reads = reads_nothing row.old row.new (exchanged (offers sabm_zero 0) None) refl refl refl;
      asks = record { asks = λ e. no_request e; found_none = refl };
    }

takes_steps : StepsBy (raising 1 0 0 none_back takes_request) (exchanged None (Some first_request))
takes_steps =
    let row = raising 1 0 0 none_back takes_request in
    record {
      offers = nothing_waits row.old row.new (exchanged None (Some first_request)) refl refl refl refl refl refl refl refl refl refl;
      checks = [];
      are_checks = refl;
      held = inl (none_held _ (after [] row.before) refl refl);
      rest = row.acts;
      acts_are = refl;
      writes = record { offered = refl; left = refl; stalled = refl };
      handles = gets refl;
      reads = reads_nothing row.old row.new (exchanged None (Some first_request)) refl refl refl;
      asks = record { asks = λ e. no_request e; found_none = refl };
    }

gets_steps : StepsBy (raising 1 0 1 none_back gets_frame) (exchanged None None)
unfolding check_octet_of body_of
gets_steps =
    let row = raising 1 0 1 none_back gets_frame in
    record {
      offers = nothing_waits row.old row.new (exchanged None None) refl refl refl refl refl refl refl refl refl refl;
      checks = [];
      are_checks = refl;
      held = inl (none_held _ (after [] row.before) refl refl);
      rest = row.acts;
      acts_are = refl;
      writes = record { offered = refl; left = refl; stalled = refl };
      handles = gets refl;
      reads = reads_nothing row.old row.new (exchanged None None) refl refl refl;
      asks = record { asks = λ e. no_request e; found_none = refl };
    }

-- the one outcome that waited was told
told_one : (c : ℕ) → GivesSome (at_place c ([] ∷ [] ∷ [])) (at_place c (opened_zero ∷ [] ∷ [])) (caller_outcomes c opened_zero) (caller_outcomes c [])
told_one zero = record { given = opened_zero; given_are = refl; rest_are = refl }
told_one (suc zero) = gives_none [] []
told_one (suc (suc c)) = record {
  given = [];
  given_are =
      get_or_past (opened_zero ∷ [] ∷ []) (suc (suc c)) [] (omega arith)
      ∙ (sym (get_or_past ([] ∷ [] ∷ []) (suc (suc c)) [] (omega arith)) ∙ sym (append-nil (at_place (suc (suc c)) ([] ∷ [] ∷ []))));
  rest_are = sym (other_callers 2 (suc (suc c)) opened_zero (omega arith) refl);
}

places_steps : StepsBy (raising 1 0 1 none_back places_outcome) (exchanged None None)
unfolding check_octet_of body_of
places_steps =
    let row = raising 1 0 1 none_back places_outcome in
    record {
      offers = record {
        outcomes = told_one;
        lines = λ i k at. gives_none (at_place i row.old.desk.announced) [];
        outcomes_back = λ c few. refl;
        lines_back = λ i k at. refl;
      };
      checks = [];
      are_checks = refl;
      held = inl (none_held _ (after [] row.before) refl refl);
      rest = [];
      acts_are = refl;
      writes = record { offered = refl; left = refl; stalled = refl };
      handles = gets refl;
      reads = reads_nothing row.old row.new (exchanged None None) refl refl refl;
      asks = record { asks = λ e. no_request e; found_none = refl };
    }

-- the one outcome that waits was handed back
back_one : (c : ℕ) → c < 2 → count_at c (1 ∷ 0 ∷ []) ≡ counted (count_at c none_back) (length (caller_outcomes c opened_zero))
back_one zero few = refl
back_one (suc zero) few = refl
back_one (suc (suc c)) few = let x : ⊥ = omega (arith, few) in absurd x

waits_steps : StepsBy (raising 1 0 1 (1 ∷ 0 ∷ []) waits_for_zero) (outcome_back (outcome_of 1 Opened))
unfolding check_octet_of body_of
waits_steps =
    let row = raising 1 0 1 (1 ∷ 0 ∷ []) waits_for_zero in
    record {
      offers = record {
        outcomes = λ c. gives_none (at_place c row.old.desk.told) (caller_outcomes c opened_zero);
        lines = λ i k at. gives_none (at_place i row.old.desk.announced) [];
        outcomes_back = back_one;
        lines_back = λ i k at. refl;
      };
      checks = [];
      are_checks = refl;
      held = inl (none_held _ (after [] row.before) refl refl);
      rest = [];
      acts_are = refl;
      writes = record { offered = refl; left = refl; stalled = refl };
      handles = gets refl;
      reads = reads_nothing row.old row.new (outcome_back (outcome_of 1 Opened)) refl refl refl;
      asks = record { asks = λ e. no_request e; found_none = refl };
    }

-- these turns take all their steps, and count only what moved nothing, found no request or was handed back
pub take_their_steps : TakeTheirSteps
take_their_steps = record {
  writes = writes_steps;
  stalls = stalls_steps;
  takes = takes_steps;
  gets = gets_steps;
  places = places_steps;
  waits = waits_steps;
}

-- ## Steps that are left out

never : false ≡ true → ⊥
never e = cc

empty_not : {A : Type 0} {x : A} {xs : List A} → [] ≡ x ∷ xs → ⊥
empty_not e = cc

abbrev one_unless : Bool → ℕ
one_unless c = if c then 0 else 1

raises_one : (m : ℕ) → counted_none (suc m) 0 0 ≡ 1
raises_one m = by (suc m == 0) refl
  where
    by : (c : Bool) → (suc m == 0) ≡ c → one_unless c ≡ 1
    by true e = let same : suc m ≡ 0 = eqb-true (suc m) 0 e in let x : ⊥ = omega (arith, same) in absurd x
    by false e = refl

-- octets that were offered, and still wait, raise the count
unraised : (w : Option Write) (waits : List ℕ) → 1 ≤ length waits → octets_offered w ≡ waits → waits ≡ drop (count_taken w) waits → 0 ≡ stalled_after w 0 → ⊥
unraised None waits many offered left e = let none = ap length offered in omega (arith, many, none)
unraised (Some w) waits many offered left e = by w.count refl
  where
    size : length waits ≡ length waits - w.count
    size = ap length left ∙ length-drop w.count waits

    by : (n : ℕ) → w.count ≡ n → ⊥
    by (suc n) h = omega (arith, many, size, h)
    by zero h = by_length (length w.offered) refl
      where
        by_length : (m : ℕ) → length w.offered ≡ m → ⊥
        by_length zero k = let none = ap length offered in omega (arith, many, none, k)
        by_length (suc m) k =
            let one : 0 ≡ 1 = e ∙ (ap (λ (x : ℕ). counted_none x w.count 0) k ∙ (ap (λ (x : ℕ). counted_none (suc m) x 0) h ∙ raises_one m)) in
            omega (arith, one)

offers_nothing_skips : SkipsAStep offers_nothing
offers_nothing_skips t turn steps = unraised t.write (0x3F ∷ 0x01 ∷ 0x1C ∷ 0xF9 ∷ []) (lit≤ tt) steps.writes.offered steps.writes.left steps.writes.stalled

-- a read with room that gave nothing raises the count
uncounted : (r : Option Read) → (r ≡ None → ⊥) → octets_read r ≡ [] → 0 ≡ empty_after r 0 → ((x : Read) → r ≡ Some x → 1 ≤ x.room) → ⊥
uncounted None asked none e room = asked refl
uncounted (Some r) asked none e room = by r.room refl (room r refl)
  where
    by : (n : ℕ) → r.room ≡ n → 1 ≤ r.room → ⊥
    by zero h much = omega (arith, h, much)
    by (suc n) h much =
        let one : 0 ≡ 1 = e ∙ (ap (λ (x : ℕ). counted_none x (length r.octets) 0) h ∙ (ap (λ (xs : List ℕ). counted_none (suc n) (length xs) 0) none ∙ raises_one n)) in
        omega (arith, one)

nothing_read : (read : Option Read) (before : List ℕ) → before ≡ before ++ octets_read read → octets_read read ≡ []
nothing_read read before e = sym (append_cancel_left before [] (octets_read read) (append-nil before ∙ e))

was_read : (row : TurnRow) (t : Exchange) → row.old.unfed ≡ [] → ReadsOn row.old row.new t → t.read ≡ None → ⊥
was_read row t fed reads none = by t.read none reads.reads
  where
    by : (r : Option Read) → r ≡ None → ReadsWhereFed r row.old.unfed → ⊥
    by None e h = h fed
    by (Some r) e h = no_request e

had_room : (row : TurnRow) (t : Exchange) → ReadsOn row.old row.new t → (x : Read) → t.read ≡ Some x → 1 ≤ x.room
had_room row t reads x e = let h : ReadsWhereFed (Some x) row.old.unfed = subst (λ (r : Option Read). ReadsWhereFed r row.old.unfed) e reads.reads in h

reads_without_room_skips : SkipsAStep reads_without_room
reads_without_room_skips t turn steps =
    uncounted t.read (was_read reads_without_room t refl steps.reads) (nothing_read t.read reads_without_room.old.line.received turn.exchanges.came) steps.reads.empty (had_room reads_without_room t steps.reads)

-- where fewer than 128 are in hand and nothing was found, that was counted
unasked : (next : Option (Option Request)) (n : ℕ) → n < 128 → (next ≡ None → n ≡ 128) → 0 ≡ counted 0 (asked_in_vain next) → request_given next ≡ [] → ⊥
unasked None n few asks found none = let full : n ≡ 128 = asks refl in omega (arith, few, full)
unasked (Some None) n few asks found none = omega (arith, found)
unasked (Some (Some q)) n few asks found none = empty_not (sym none)

nothing_taken : (next : Option (Option Request)) (before : List Request) → before ≡ before ++ request_given next → request_given next ≡ []
nothing_taken next before e = sym (append_cancel_left before [] (request_given next) (append-nil before ∙ e))

asks_for_none_skips : SkipsAStep asks_for_none
asks_for_none_skips t turn steps =
    unasked t.next 1 (lit< tt) steps.asks.asks steps.asks.found_none (nothing_taken t.next asks_for_none.old.desk.taken turn.exchanges.taken)

-- ## Backlogs

abbrev counts_if : (hit : Bool) → ℕ → ℕ
counts_if hit n = if hit then suc n else n

-- how many of these acts heard a line on d
abbrev heard_on : ℕ → List Act → ℕ
heard_on d [] = 0
heard_on d (Heard k n line ∷ acts) = counts_if (n == d) (heard_on d acts)
heard_on d (_ ∷ acts) = heard_on d acts

backlog_by : (d : ℕ) (lines : List Urc) → backlog_in d lines ≡ heard_on d (map heard_as lines)
backlog_by d [] = refl
backlog_by d (u ∷ lines) = by (u.dlci.number == d) (backlog_by d lines)
  where
    by : (hit : Bool) → backlog_in d lines ≡ heard_on d (map heard_as lines) → length (if hit then u ∷ filter (λ (x : Urc). x.dlci.number == d) lines else filter (λ (x : Urc). x.dlci.number == d) lines) ≡ counts_if hit (heard_on d (map heard_as lines))
    by true e = ap suc e
    by false e = e

-- nothing was done
no_checks : (checks rest : List Act) (out : Option Outgoing) → [] ≡ checks ++ acts_out out ++ rest → checks ≡ []
no_checks [] rest out e = refl
no_checks (a ∷ checks) rest out e = absurd (empty_not e)

has_place : {P : Type 0} (n : ℕ) → P ⊎ ((d : ℕ) → 4127 < n) → n ≤ 4127 → P
has_place n (inl h) few = h
has_place n (inr h) few = let x : 4127 < n = h 1 in let y : ⊥ = omega (arith, x, few) in absurd y

looks_at_no_backlog_skips : SkipsAStep looks_at_no_backlog
looks_at_no_backlog_skips t turn steps =
    let row = looks_at_no_backlog in
    let none = no_checks steps.checks steps.rest (goes_in beginning row.old (after (after [] row.before) steps.checks)) steps.acts_are in
    let held = subst (λ (checks : List Act). HoldsWhereRoom beginning (record row.new { unannounced = t.still_heard }) (after (after [] row.before) checks)) none steps.held in
    let lines : map heard_as row.new.unannounced ≡ map heard_as t.still_heard = turn.exchanges.lines_wait ∙ append-nil (map heard_as t.still_heard) in
    let many : 256 ≡ backlog_in 1 t.still_heard = ap (heard_on 1) lines ∙ sym (backlog_by 1 t.still_heard) in
    never ((has_place 10 held (lit≤ tt)).many 1 (lit< tt) refl refl (omega (arith, many)))

-- ## Half a frame

-- the only act is no check
no_check_first : (a : Act) (checks out rest : List Act) → is_check a ≡ false → list_all is_check checks ≡ true → a ∷ [] ≡ checks ++ out ++ rest → checks ≡ []
no_check_first a [] out rest other all e = refl
no_check_first a (c ∷ checks) out rest other all e =
    let same : a ≡ c = cc in
    let parts = and_parts (is_check c) (list_all is_check checks) all in
    absurd (never (sym other ∙ (ap is_check same ∙ parts.0)))

puts_half_skips : SkipsAStep puts_half
unfolding check_octet_of body_of
puts_half_skips t turn steps =
    let row = puts_half in
    let past = after [] row.before in
    let none = no_check_first Given steps.checks (acts_out (goes_in beginning row.old (after past steps.checks))) steps.rest refl steps.are_checks steps.acts_are in
    let left : take 3 sabm_zero ≡ drop (count_taken t.write) sabm_zero = subst (λ (checks : List Act). row.new.unwritten ≡ drop (count_taken t.write) (row.old.unwritten ++ octets_out (goes_in beginning row.old (after past checks)))) none steps.writes.left in
    let size : 3 ≡ 6 - count_taken t.write = ap length left ∙ length-drop (count_taken t.write) sabm_zero in
    let three : count_taken t.write ≡ 3 = omega (arith, size) in
    octets_differ (take 3 sabm_zero) (drop 3 sabm_zero) refl (left ∙ ap (λ (n : ℕ). drop n sabm_zero) three)

-- ## An outcome

leaves_an_outcome_skips : SkipsAStep leaves_an_outcome
leaves_an_outcome_skips t turn steps =
    let zero_first = steps.offers.outcomes 0 in
    let given : zero_first.given ≡ [] = sym zero_first.given_are in
    let still : caller_outcomes 0 t.still_told ≡ opened_zero = subst (λ (os : List Outcome). os ++ caller_outcomes 0 t.still_told ≡ opened_zero) given zero_first.rest_are in
    let back : caller_outcomes 0 t.told_back ≡ opened_zero = turn.exchanges.hands_back.outcomes 0 ∙ ap (take 1) still in
    let one : 0 ≡ counted 0 1 = steps.offers.outcomes_back 0 (lit< tt) ∙ ap (λ (os : List Outcome). counted 0 (length os)) back in
    omega (arith, one)

-- each of the skipping turns leaves a step out, whatever it exchanged
pub all_skip : Each SkipsAStep skipping_turns
all_skip = (offers_nothing_skips, (reads_without_room_skips, (asks_for_none_skips, (looks_at_no_backlog_skips, (puts_half_skips, (leaves_an_outcome_skips, tt))))))

-- ## They seem turns

none_handed_back : (t : Exchange) → t.still_told ≡ [] → t.told_back ≡ [] → t.still_heard ≡ [] → t.heard_back ≡ [] → HandsBack t
none_handed_back t e1 e2 e3 e4 = record {
  outcomes = λ c. rw e1 (rw e2 refl);
  lines = λ k. rw e3 (rw e4 refl);
}

abbrev reads_octets : List ℕ → Exchange → Exchange
reads_octets octets t = record t { read = Some (record { room = 64; octets = octets }) }

seems : (row : TurnRow) (t : Exchange) → IsTurn beginning row.old row.new t (after [] row.before) row.acts row.says → SeemsATurn row
seems row t turn = record { exchange = t; turn = turn }

all_offered : (w : Write) (unwritten : List ℕ) → 1 ≤ length w.offered → w.count ≤ length w.offered → w.offered ≡ take w.count w.offered ++ unwritten → IsOffer w unwritten
all_offered w unwritten some_there few e = record { some = some_there; bound = few; first = record { rest = []; joins = append-nil w.offered ∙ e } }

offers_nothing_seems : SeemsATurn offers_nothing
offers_nothing_seems =
    let row = offers_nothing in
    let t = reads_octets ua_zero (exchanged (offers (drop 2 sabm_zero) 0) None) in
    seems row t (turn_by row.old row.new t (after [] row.before) row.acts row.says refl refl refl (lit≤ tt) (all_offered _ _ (lit≤ tt) (lit≤ tt) refl) (none_handed_back t refl refl refl refl) tt)

reads_without_room_seems : SeemsATurn reads_without_room
reads_without_room_seems =
    let row = reads_without_room in
    let t : Exchange = record (exchanged None (Some first_request)) { read = Some (record { room = 0; octets = [] }) } in
    seems row t (turn_by row.old row.new t (after [] row.before) row.acts row.says refl refl refl (lit≤ tt) refl (none_handed_back t refl refl refl refl) tt)

asks_for_none_seems : SeemsATurn asks_for_none
asks_for_none_seems =
    let row = asks_for_none in
    let t : Exchange = record (exchanged (offers (drop 2 sabm_zero) 4) None) { next = None } in
    seems row t (turn_by row.old row.new t (after [] row.before) row.acts row.says refl refl refl (lit≤ tt) (all_offered _ _ (lit≤ tt) (lit≤ tt) refl) (none_handed_back t refl refl refl refl) tt)

looks_at_no_backlog_seems : SeemsATurn looks_at_no_backlog
looks_at_no_backlog_seems =
    let row = looks_at_no_backlog in
    let lines = replicate 256 ring in
    let t : Exchange = record (exchanged (offers last_flag 1) None) { still_heard = lines; heard_back = ring ∷ [] } in
    seems row t (turn_by row.old row.new t (after [] row.before) row.acts row.says refl refl refl (lit≤ tt) (all_offered _ _ (lit≤ tt) (lit≤ tt) refl)
    (record { outcomes = λ c. refl; lines = of_kinds (λ k. of_kind k (ring ∷ []) ≡ take 1 (of_kind k lines)) (record { ring = refl; cring = refl; creg = refl; cgreg = refl; cgev = refl; ciev = refl; other = refl; own = λ number. first_own number (ring ∷ []) lines refl refl }) }) tt)

puts_half_seems : SeemsATurn puts_half
puts_half_seems =
    let row = puts_half in
    let t = reads_octets lf_octet (exchanged (offers (take 3 sabm_zero) 0) None) in
    seems row t (turn_by row.old row.new t (after [] row.before) row.acts row.says refl refl refl (lit≤ tt) (all_offered _ _ (lit≤ tt) (lit≤ tt) refl) (none_handed_back t refl refl refl refl) tt)

leaves_an_outcome_seems : SeemsATurn leaves_an_outcome
leaves_an_outcome_seems =
    let row = leaves_an_outcome in
    let t = reads_octets lf_octet (outcome_back (outcome_of 1 Opened)) in
    seems row t (turn_by row.old row.new t (after [] row.before) row.acts row.says refl refl refl (lit≤ tt) refl (record { outcomes = one_back (outcome_of 1 Opened); lines = λ k. refl }) tt)

-- and yet each of them ends in its answer, by some exchange
pub all_seem : Each SeemsATurn skipping_turns
all_seem = (offers_nothing_seems, (reads_without_room_seems, (asks_for_none_seems, (looks_at_no_backlog_seems, (puts_half_seems, (leaves_an_outcome_seems, tt))))))
