-- Nothing moved, and something waits for the desk: there was no place for it.
use Rattle.std.proofs.Common.{ap, sym, ◌∙◌, subst, arith}
use Rattle.std.proofs.lemmas.Bool.{or_parts}
use Rattle.std.specs.Prelude.{◌≡◌, ◌≢◌, ℕ, ◌<◌, ◌||◌, Bool, true, false, List, [], ◌∷◌, length, take, slice_index_or, if◌then◌else◌}
use mathlib.Core.Option.{some}
use lib.ListN.{get_elem?}
use Rattle.at_text.specs.declared.unsolicited.UrcKind.{UrcKind}
use Rattle.modem_desk.specs.declared.request.Outcome.{Outcome}
use Rattle.modem_desk.specs.declared.request.Urc.{Urc}
use Rattle.modem_desk.specs.Ends.{DeskId, DriverView}
use Rattle.at_text.specs.Kinds.{is_same_kind}
use Rattle.modem_history.specs.Kinds.{of_kind}
use Rattle.modem_history.specs.Sessions.{caller_outcomes}
use Rattle.modem_history.specs.Turns.{TurnAnswer}
use Rattle.modem_driver.specs.SessionStates.{Machine}
use Rattle.modem_driver.specs.SessionTurns.{Answers, HasLine, HasNoPlace, HasOutcome}
use Rattle.modem_driver.specs.TurnSteps.{TurnState, Places, Checks, SendsOn, Writes, Gets, ReadsOn, TakesOne}
use Rattle.at_text.proofs.SameKinds.{same_itself}
use Rattle.modem_driver.proofs.sessions.steps.TakenRequests.{read_driver}

-- what waits is what was handed back, and the desk's end knows of no place more
record Stays (old new : TurnState) : Type 0 where
  pub unplaced : new.machine.unplaced ≡ old.machine.unplaced
  pub unannounced : new.machine.unannounced ≡ old.machine.unannounced
  pub desk : new.driver.desk ≡ old.driver.desk
  pub free : new.driver.free ≡ old.driver.free
  pub free_lines : new.driver.free_lines ≡ old.driver.free_lines

stays : {s1 s2 s3 s4 s5 s6 s7 : TurnState} {m2 m3 m4 m5 m6 m7 : Bool} → Checks s1 s2 m2 → SendsOn s2 s3 m3 → Writes s3 s4 m4 → Gets s4 s5 m5 → ReadsOn s5 s6 m6 → TakesOne s6 s7 m7 → m5 ≡ false → m7 ≡ false → Stays s1 s7
stays {s1} {s2} {s3} {s4} {s5} {s6} {s7} {m2} {m3} {m4} {m5} {m6} {m7} k n w g r q none_got none_taken =
    let took : s7.machine ≡ s6.machine = (q.still none_taken).1 in
    let got : s5 ≡ s4 = (g.still none_got).1 in
    let driver : s6.driver ≡ s1.driver = read_driver k n w g r in
    record {
      unplaced =
          ap (λ (v : Machine). v.unplaced) took
          ∙ (ap (λ (s : TurnState). s.machine.unplaced) r.stays
          ∙ (ap (λ (s : TurnState). s.machine.unplaced) got
          ∙ (ap (λ (s : TurnState). s.machine.unplaced) w.stays
          ∙ (ap (λ (s : TurnState). s.machine.unplaced) n.stays ∙ ap (λ (s : TurnState). s.machine.unplaced) k.stays))));
      unannounced =
          ap (λ (v : Machine). v.unannounced) took
          ∙ (ap (λ (s : TurnState). s.machine.unannounced) r.stays
          ∙ (ap (λ (s : TurnState). s.machine.unannounced) got
          ∙ (ap (λ (s : TurnState). s.machine.unannounced) w.stays
          ∙ (ap (λ (s : TurnState). s.machine.unannounced) n.stays ∙ ap (λ (s : TurnState). s.machine.unannounced) k.stays))));
      desk = q.desk_stays.0 ∙ ap (λ (d : DriverView). d.desk) driver;
      free = q.places_stay.0 ∙ ap (λ (d : DriverView). d.free) driver;
      free_lines = q.places_stay.1 ∙ ap (λ (d : DriverView). d.free_lines) driver;
    }

some_waits : {A : Type 0} → (xs : List A) (x : A) → take 1 xs ≡ x ∷ [] → xs ≢ []
some_waits {A} [] x h e = absurd (let long : 0 ≡ length (x ∷ []) = ap (length {A = A}) h in omega arith)
some_waits {A} (y ∷ ys) x h e = absurd (let long : length (y ∷ ys) ≡ 0 = ap (length {A = A}) e in omega arith)

first_waits : (kind : UrcKind) (us : List Urc) (u : Urc) → take 1 us ≡ u ∷ [] → u.kind ≡ kind → of_kind kind us ≢ []
first_waits kind [] u h is e = absurd (let long : 0 ≡ length (u ∷ []) = ap (length {A = Urc}) h in omega arith)
first_waits kind (v ∷ us) u h is e =
    let first : v ≡ u = ap (λ (xs : List Urc). slice_index_or xs 0 v) h in
    let same : is_same_kind kind v.kind ≡ true = ap (λ (w : Urc). is_same_kind kind w.kind) first ∙ (ap (is_same_kind kind) is ∙ same_itself kind) in
    let kept : of_kind kind (v ∷ us) ≡ v ∷ of_kind kind us = ap (λ (c : Bool). if c then v ∷ of_kind kind us else of_kind kind us) same in
    absurd (let long : length (v ∷ of_kind kind us) ≡ 0 = ap (length {A = Urc}) (sym kept ∙ e) in omega arith)

outcome_waits : {s0 s1 : TurnState} {m1 : Bool} → (p : Places s0 s1 m1) (s : TurnState) (c : ℕ) → Stays s1 s → HasOutcome s.machine c → c < length s.driver.desk.rings → slice_index_or s.driver.free c 0 ≡ 0
outcome_waits {s0} {s1} {m1} p s c h waits lt =
    let held : caller_outcomes c s.machine.unplaced ≢ [] = some_waits (caller_outcomes c s.machine.unplaced) waits.waits.outcome waits.waits.first in
    ap (λ (xs : List ℕ). slice_index_or xs c 0) h.free
    ∙ p.rings_full c (subst (λ (d : DeskId). c < length d.rings) h.desk lt) (subst (λ (os : List Outcome). caller_outcomes c os ≢ []) h.unplaced held)

line_waits : {s0 s1 : TurnState} {m1 : Bool} → (p : Places s0 s1 m1) (s : TurnState) (kind : UrcKind) → Stays s1 s → HasLine s.machine kind → (i : ℕ) → get_elem? s.driver.desk.kinds i ≡ some kind → slice_index_or s.driver.free_lines i 0 ≡ 0
line_waits {s0} {s1} {m1} p s kind h waits i at =
    let held : of_kind kind s.machine.unannounced ≢ [] = first_waits kind s.machine.unannounced waits.waits.line waits.waits.first waits.waits.is_of in
    ap (λ (xs : List ℕ). slice_index_or xs i 0) h.free_lines
    ∙ p.lines_full i kind (subst (λ (d : DeskId). get_elem? d.kinds i ≡ some kind) h.desk at) (subst (λ (us : List Urc). of_kind kind us ≢ []) h.unannounced held)

no_place : {s0 s1 : TurnState} {m1 : Bool} → (p : Places s0 s1 m1) (s : TurnState) (moved : Bool) (says : TurnAnswer) → (moved ≡ false → Stays s1 s) → Answers s.machine moved says → HasNoPlace s.driver says
no_place {s0} {s1} {m1} p s moved TurnAnswer.Moved h a = tt
no_place {s0} {s1} {m1} p s moved TurnAnswer.WriterFull h a = tt
no_place {s0} {s1} {m1} p s moved (TurnAnswer.Waiting c) h a = outcome_waits p s c (h a.0) a.1
no_place {s0} {s1} {m1} p s moved (TurnAnswer.Blocked kind) h a = line_waits p s kind (h a.0) a.1
no_place {s0} {s1} {m1} p s moved TurnAnswer.Idle h a = tt

-- a turn in which something waits though nothing moved
pub none_free : {s0 s1 s2 s3 s4 s5 s6 s7 : TurnState} {m1 m2 m3 m4 m5 m6 m7 : Bool} (says : TurnAnswer) → Places s0 s1 m1 → Checks s1 s2 m2 → SendsOn s2 s3 m3 → Writes s3 s4 m4 → Gets s4 s5 m5 → ReadsOn s5 s6 m6 → TakesOne s6 s7 m7
    → Answers s7.machine (m1 || (m2 || (m3 || (m4 || (m5 || (m6 || m7)))))) says → HasNoPlace s7.driver says
none_free {s0} {s1} {s2} {s3} {s4} {s5} {s6} {s7} {m1} {m2} {m3} {m4} {m5} {m6} {m7} says p k n w g r q =
    no_place p s7 (m1 || (m2 || (m3 || (m4 || (m5 || (m6 || m7)))))) says
    (λ none.
    let behind_place = (or_parts m1 (m2 || (m3 || (m4 || (m5 || (m6 || m7))))) none).1 in
    let behind_checks = (or_parts m2 (m3 || (m4 || (m5 || (m6 || m7)))) behind_place).1 in
    let behind_sends = (or_parts m3 (m4 || (m5 || (m6 || m7))) behind_checks).1 in
    let gets = or_parts m5 (m6 || m7) (or_parts m4 (m5 || (m6 || m7)) behind_sends).1 in
    stays k n w g r q gets.0 (or_parts m6 m7 gets.1).1)
