-- Whether a turn is right, by tests that compute.
use Rattle.std.proofs.Common.{ap, sym, subst, ◌∙◌, arith, eqb-true}
use Rattle.std.specs.Prelude.{◌≡◌, ◌≢◌, ℕ, zero, suc, ◌+◌, ◌<◌, ◌≤◌, ◌==◌, ◌&&◌, not, nat_lt, nat_le, Bool, true, false, List, [], ◌∷◌, ◌++◌, length, take, filter, map, refl, if◌then◌else◌}
use Rattle.std.specs.List.{list_all}
use Rattle.std.proofs.lemmas.Bool.{and_parts, eqb-false, ltb-true, leb-true}
use Rattle.mux_station.specs.declared.role.Role.TheVariants.{Initiator}
use Rattle.at_text.specs.declared.unsolicited.UrcKind.{UrcKind}
use Rattle.at_text.specs.declared.unsolicited.UrcKind.TheVariants.{Ring, Cring, Creg, Cgreg, Cgev, Ciev, Other, Own}
use Rattle.modem_desk.specs.declared.request.Request.{Request}
use Rattle.modem_desk.specs.declared.request.Outcome.{Outcome}
use Rattle.at_text.specs.Kinds.{kind_place}
use Rattle.modem_desk.specs.declared.request.Urc.{Urc}
use Rattle.modem_history.specs.Kinds.{of_kind}
use Rattle.modem_history.specs.Acts.{Act, after}
use Rattle.modem_history.specs.Holding.{is_held}
use Rattle.modem_history.specs.Sessions.{SessionView, gots, heard_as, caller_outcomes, backlog}
use Rattle.modem_history.specs.SessionRows.{beginning}
use Rattle.modem_history.specs.Turns.{Exchange, Offers, HandsBack, TurnAnswer, HoldsByBacklog, octets_read, octets_written, request_given, calls_made, counted, outcomes_told, lines_heard, ReadHasRoom, may_act, has_moved, says_moved, Means, IsTurn}
use Rattle.modem_history.proofs.rows.HistoryTests.{all_below}

-- ## What the desk hands back

-- P of every kind
pub record OfKinds (P : UrcKind → Type 0) : Type 0 where
  pub ring : P Ring
  pub cring : P Cring
  pub creg : P Creg
  pub cgreg : P Cgreg
  pub cgev : P Cgev
  pub ciev : P Ciev
  pub other : P Other
  pub own : (number : ℕ) → P (Own number)

-- what holds of each of these, and of each kind of own codes, holds of every kind
pub of_kinds : (P : UrcKind → Type 0) → OfKinds P → (k : UrcKind) → P k
of_kinds P h Ring = h.ring
of_kinds P h Cring = h.cring
of_kinds P h Creg = h.creg
of_kinds P h Cgreg = h.cgreg
of_kinds P h Cgev = h.cgev
of_kinds P h Ciev = h.ciev
of_kinds P h Other = h.other
of_kinds P h (Own number) = h.own number

-- among lines of the standards' kinds none is of one's own
own_place : (b : Bool) (number place : ℕ) → place < 7 → (7 + number == place) ≡ b → b ≡ false
own_place false number place small e = refl
own_place true number place small e = let same : 7 + number ≡ place = eqb-true (7 + number) place e in absurd (omega (arith, small, same))

-- so it is for every number
pub none_own : (number : ℕ) (lines : List Urc) → list_all (λ (u : Urc). nat_lt (kind_place u.kind) 7) lines ≡ true → of_kind (Own number) lines ≡ []
none_own number [] h = refl
none_own number (u ∷ lines) h =
    let parts = and_parts (nat_lt (kind_place u.kind) 7) (list_all (λ (v : Urc). nat_lt (kind_place v.kind) 7) lines) h in
    let other : (7 + number == kind_place u.kind) ≡ false = own_place (7 + number == kind_place u.kind) number (kind_place u.kind) (ltb-true (kind_place u.kind) 7 parts.0) refl in
    ap (λ (b : Bool). if b then u ∷ of_kind (Own number) lines else of_kind (Own number) lines) other ∙ none_own number lines parts.1

-- so of one's own kinds the desk handed back the first that waits, since none does
pub first_own : (number : ℕ) (back lines : List Urc) → list_all (λ (u : Urc). nat_lt (kind_place u.kind) 7) back ≡ true → list_all (λ (u : Urc). nat_lt (kind_place u.kind) 7) lines ≡ true
    → of_kind (Own number) back ≡ take 1 (of_kind (Own number) lines)
first_own number back lines h k = none_own number back h ∙ sym (ap (take 1) (none_own number lines k))

one_taken : (b : Bool) (o : Outcome) → (if b then o ∷ [] else []) ≡ take 1 (if b then o ∷ [] else [])
one_taken true o = refl
one_taken false o = refl

-- one outcome waits and is handed back, or none does
pub one_back : (o : Outcome) (c : ℕ) → caller_outcomes c (o ∷ []) ≡ take 1 (caller_outcomes c (o ∷ []))
one_back o c = one_taken (o.caller == c) o

-- where no outcome waits and none is handed back, it handed back the first of each caller
pub no_outcomes_back : (still back : List Outcome) → still ≡ [] → back ≡ [] → (c : ℕ) → caller_outcomes c back ≡ take 1 (caller_outcomes c still)
no_outcomes_back still back e h c = rw e (rw h refl)

-- ## Backlogs

-- no more lines pass a test than there are
pub no_more : (test : Urc → Bool) (lines : List Urc) → length (filter test lines) ≤ length lines
no_more test [] = omega arith
no_more test (u ∷ lines) = by_test (test u) (no_more test lines)
  where
    by_test : (b : Bool) → length (filter test lines) ≤ length lines → length (if b then u ∷ filter test lines else filter test lines) ≤ length (u ∷ lines)
    by_test true le = omega arith
    by_test false le = omega arith

last_or_below : (test : ℕ → Bool) (n d : ℕ) (b : Bool) → (d == n) ≡ b → test n ≡ true → (d < n → test d ≡ true) → d < suc n → test d ≡ true
last_or_below test n d true e here below small = subst (λ (m : ℕ). test m ≡ true) (sym (eqb-true d n e)) here
last_or_below test n d false e here below small = let x : d ≢ n = eqb-false d n e in below (omega arith)

-- what holds of all numbers below n holds of each
pub holds_below : (test : ℕ → Bool) (n d : ℕ) → all_below test n ≡ true → d < n → test d ≡ true
holds_below test zero d h small = let x : ⊥ = omega arith in absurd x
holds_below test (suc n) d h small =
    let parts = and_parts (test n) (all_below test n) h in
    last_or_below test n d (d == n) refl parts.0 (holds_below test n d parts.1) small

isnt : (b : Bool) → not b ≡ true → b ≡ false
isnt true h = cc
isnt false h = refl

-- few lines wait, and no connection is held
pub none_held : (v : SessionView) (past : List Act) → nat_lt (length v.unannounced) 256 ≡ true → all_below (λ d. not (is_held Initiator d past)) 62 ≡ true → HoldsByBacklog v past
none_held v past h none = record {
  many = λ d small other opened full. (
      let few : length v.unannounced < 256 = ltb-true _ 256 h in
      let le : backlog d v ≤ length v.unannounced = no_more (λ (u : Urc). u.dlci.number == d) v.unannounced in
      let x : ⊥ = omega arith in
      absurd x);
  few = λ d small below. isnt (is_held Initiator d past) (holds_below (λ d. not (is_held Initiator d past)) 62 d none small);
}

-- ## Turns

-- what two sides have of a turn
pub record TurnSides : Type 0 where
  pub received : List ℕ
  pub sent : List ℕ
  pub calls : ℕ
  pub failures : ℕ
  pub taken : List Request
  pub outcomes : List Outcome
  pub lines : List Act
  pub moved : Bool

-- what is seen after it
abbrev pub after_side : SessionView → SessionView → List Act → TurnSides
after_side old new acts = record {
  received = new.line.received;
  sent = new.line.sent;
  calls = new.line.calls;
  failures = new.line.failures;
  taken = new.desk.taken;
  outcomes = new.unplaced;
  lines = map heard_as new.unannounced;
  moved = has_moved old new acts;
}

-- and what comes of what was before and of its exchange
abbrev pub exchanged_side : SessionView → Exchange → List Act → TurnAnswer → TurnSides
exchanged_side old t acts says = record {
  received = old.line.received ++ octets_read t.read;
  sent = old.line.sent ++ octets_written t.write;
  calls = counted old.line.calls (calls_made t.write + calls_made t.read);
  failures = beginning.line.failures;
  taken = old.desk.taken ++ request_given t.next;
  outcomes = t.still_told ++ outcomes_told acts;
  lines = map heard_as t.still_heard ++ lines_heard acts;
  moved = says_moved says;
}

-- where both sides agree, all that had come was fed, and exchange and answer are right, it is a turn
pub turn_by : (old new : SessionView) (t : Exchange) (past acts : List Act) (says : TurnAnswer) → after_side old new acts ≡ exchanged_side old t acts says
    → (list_all (may_act t.still_heard) acts && (nat_le (length new.unfed) (length old.unfed + length (octets_read t.read)) && nat_le (length (gots acts)) 1)) ≡ true
    → old.unfed ≡ [] → ReadHasRoom t.read → Offers t.write new.unwritten → HandsBack t → Means beginning new t past (after past acts) says → IsTurn beginning old new t past acts says
turn_by old new t past acts says e h unfed room offers back means =
    let parts = and_parts _ _ h in
    let few = and_parts _ _ parts.1 in
    record {
      exchanges = record {
        came = ap (λ (x : TurnSides). x.received) e;
        room = room;
        went = ap (λ (x : TurnSides). x.sent) e;
        calls = ap (λ (x : TurnSides). x.calls) e;
        taken = ap (λ (x : TurnSides). x.taken) e;
        hands_back = back;
        outcomes_wait = ap (λ (x : TurnSides). x.outcomes) e;
        lines_wait = ap (λ (x : TurnSides). x.lines) e;
        unfed = leb-true _ _ few.0;
        reads_fed = λ _. unfed;
        one_got = leb-true _ 1 few.1;
      };
      offers = offers;
      sound = ap (λ (x : TurnSides). x.failures) e;
      acts_may = parts.0;
      moved = ap (λ (x : TurnSides). x.moved) e;
      means = means;
    }
