-- How far a session has come on the way to its end: what a call notes, and that it stays so.
use Rattle.std.proofs.Common.{ap, sym, ◌∙◌, subst}
use Rattle.std.proofs.lemmas.Bool.{and_from, and_parts}
use Rattle.std.proofs.lemmas.List.{append_assoc, append-nil}
use Rattle.std.proofs.lemmas.List.Folds.{list_any-append}
use Rattle.std.specs.Prelude.{◌≡◌, ℕ, ◌&&◌, ◌||◌, not, Bool, true, false, List, [], ◌∷◌, ◌++◌, find, refl, Option, Some, None, option_map, Ok, Err, if◌then◌else◌}
use Rattle.std.specs.List.{list_any}
use Rattle.modem_desk.specs.declared.request.Request.{Request}
use Rattle.modem_desk.specs.declared.request.Outcome.{Outcome}
use Rattle.modem_history.specs.Acts.{Act, Took, Got, Sent, Told, Heard, Tick, Lost, Held, Freed, Given, after, is_for, in_hand, without}
use Rattle.modem_history.specs.Calls.{is_loss, is_lost}
use Rattle.modem_history.specs.Wholes.{IsPrefixOf, outcomes, taken_requests}
use Rattle.modem_history.specs.Sessions.{Beginning, SessionView, at_place}
use Rattle.modem_history.specs.Turns.{outcomes_told}
use Rattle.modem_history.proofs.calls.StatesAfterActs.{after_both}
use Rattle.modem_history.proofs.requests.RequestsInHand.{found_tests}
use Rattle.modem_driver.specs.declared.machine.course.Course.{Course}
use Rattle.modem_driver.specs.declared.machine.course.Course.TheVariants.{GoesOn, Stopped, Ended}
use Rattle.modem_driver.specs.declared.session.ending.Ended.TheVariants as ended
use Rattle.modem_driver.specs.declared.session.error.SessionFault.TheVariants as fault
use Rattle.modem_driver.specs.Endings.{HasCome, HasEnded, KeepsEnd, course_after}
use Rattle.modem_queues.specs.Stops.{asker_of, ends_stop, has_stopped, is_answered, is_end_of, is_stop, is_stopped_by}
use Rattle.modem_core.proofs.sessions.steps.LongerHistories.{outcomes_after}

-- ## One of a list

never : {P : Type 0} → false ≡ true → P
never e = cc

or_left : (c d : Bool) → c ≡ true → (c || d) ≡ true
or_left true d e = refl
or_left false d e = never e

or_right : (c d : Bool) → d ≡ true → (c || d) ≡ true
or_right true d e = refl
or_right false d e = e

any_more : {X : Type 0} (xs ys : List X) (p : X → Bool) → list_any p xs ≡ true → list_any p (xs ++ ys) ≡ true
any_more xs ys p h = list_any-append p xs ys ∙ or_left (list_any p xs) (list_any p ys) h

any_last : {X : Type 0} (xs ys : List X) (p : X → Bool) → list_any p ys ≡ true → list_any p (xs ++ ys) ≡ true
any_last xs ys p h = list_any-append p xs ys ∙ or_right (list_any p xs) (list_any p ys) h

-- what one of them passes, it passes under a wider test
any_wider : {X : Type 0} (p q : X → Bool) (xs : List X) → ((x : X) → p x ≡ true → q x ≡ true) → list_any p xs ≡ true → list_any q xs ≡ true
any_wider p q [] wider h = never h
any_wider {X} p q (x ∷ xs) wider h = by_test (p x) refl (any_wider p q xs wider) h
  where
    by_test : (c : Bool) → p x ≡ c → (list_any p xs ≡ true → list_any q xs ≡ true) → (c || list_any p xs) ≡ true → (q x || list_any q xs) ≡ true
    by_test true e go k = or_left (q x) (list_any q xs) (wider x e)
    by_test false e go k = or_right (q x) (list_any q xs) (go k)

-- the one that is found is one of them
any_found : {X : Type 0} (p q : X → Bool) (xs : List X) (x : X) → find p xs ≡ Some x → q x ≡ true → list_any q xs ≡ true
any_found p q [] x h k = absurd (none_some h)
  where
    none_some : None ≡ Some x → ⊥
    none_some e = cc
any_found {X} p q (y ∷ ys) x h k = by_test (p y) (λ e. any_found p q ys x e k) h
  where
    same : Some y ≡ Some x → y ≡ x
    same e = cc

    by_test : (c : Bool) → (find p ys ≡ Some x → list_any q ys ≡ true) → (if c then Some y else find p ys) ≡ Some x → (q y || list_any q ys) ≡ true
    by_test true go e = or_left (q y) (list_any q ys) (ap q (same e) ∙ k)
    by_test false go e = or_right (q y) (list_any q ys) (go e)

-- ## A Stop that was answered stays so

stopped_more : (os ps : List Outcome) (q : Request) → is_stopped_by os q ≡ true → is_stopped_by (os ++ ps) q ≡ true
stopped_more os ps q h =
    let parts = and_parts (is_stop q) (list_any (λ (o : Outcome). is_for q o && ends_stop o.answer) os) h in
    and_from (is_stop q) (list_any (λ (o : Outcome). is_for q o && ends_stop o.answer) (os ++ ps)) parts.0 (any_more os ps (λ (o : Outcome). is_for q o && ends_stop o.answer) parts.1)

stopped_one : (a : Act) (past : List Act) → has_stopped past ≡ true → has_stopped (a ∷ past) ≡ true
stopped_one (Took r) past h = any_more (taken_requests past) (r ∷ []) (is_stopped_by (outcomes past)) h
stopped_one (Told o) past h = any_wider (is_stopped_by (outcomes past)) (is_stopped_by (outcomes past ++ o ∷ [])) (taken_requests past) (stopped_more (outcomes past) (o ∷ [])) h
stopped_one (Got f) past h = h
stopped_one (Sent f) past h = h
stopped_one (Heard k d line) past h = h
stopped_one Tick past h = h
stopped_one Lost past h = h
stopped_one (Held d) past h = h
stopped_one (Freed d) past h = h
stopped_one Given past h = h

-- a Stop that was answered stays so, whatever acts follow
pub stopped_after : (acts past : List Act) → has_stopped past ≡ true → has_stopped (after past acts) ≡ true
stopped_after [] past h = h
stopped_after (a ∷ acts) past h = stopped_after acts (a ∷ past) (stopped_one a past h)

lost_since : (acts past : List Act) → is_lost past ≡ true → is_lost (after past acts) ≡ true
lost_since [] past h = h
lost_since (a ∷ acts) past h = lost_since acts (a ∷ past) (or_right (is_loss a) (is_lost past) h)

-- ## How far it has come stays so

-- a list begins itself
pub begins_whole : {X : Type 0} (xs : List X) → IsPrefixOf xs xs
begins_whole xs = record { rest = []; joins = append-nil xs }

begins_on : {X : Type 0} (xs ys zs : List X) → IsPrefixOf xs ys → IsPrefixOf ys zs → IsPrefixOf xs zs
begins_on {X} xs ys zs h k = record { rest = h.rest ++ k.rest; joins = sym (append_assoc xs h.rest k.rest) ∙ (ap (λ (ws : List X). ws ++ k.rest) h.joins ∙ k.joins) }

-- more was written and told, and nothing else
pub record Grows (v w : SessionView) : Type 0 where
  pub sent : IsPrefixOf v.line.sent w.line.sent
  pub told : (c : ℕ) → IsPrefixOf (at_place c v.desk.told) (at_place c w.desk.told)

-- where nothing was written or told
pub grows_none : (v w : SessionView) → w.line.sent ≡ v.line.sent → w.desk.told ≡ v.desk.told → Grows v w
grows_none v w sent told = record {
  sent = subst (λ (xs : List ℕ). IsPrefixOf v.line.sent xs) (sym sent) (begins_whole v.line.sent);
  told = λ c. subst (λ (oss : List (List Outcome)). IsPrefixOf (at_place c v.desk.told) (at_place c oss)) (sym told) (begins_whole (at_place c v.desk.told));
}

-- where octets were written, and nothing was told
pub grows_sent : (v w : SessionView) (more : List ℕ) → w.line.sent ≡ v.line.sent ++ more → w.desk.told ≡ v.desk.told → Grows v w
grows_sent v w more sent told = record {
  sent = record { rest = more; joins = sym sent };
  told = λ c. subst (λ (oss : List (List Outcome)). IsPrefixOf (at_place c v.desk.told) (at_place c oss)) (sym told) (begins_whole (at_place c v.desk.told));
}

ended_on : (b : Beginning) (v w : SessionView) (past acts : List Act) → Grows v w → HasEnded b v past → HasEnded b w (after past acts)
ended_on b v w past acts g h = record {
  before = h.before;
  since = h.since ++ acts;
  past_is = ap (λ (p : List Act). after p acts) h.past_is ∙ sym (after_both h.since acts h.before);
  stopped = h.stopped;
  written = begins_on _ _ _ h.written g.sent;
  placed = λ c. begins_on _ _ _ (h.placed c) (g.told c);
}

-- acts that end no Stop where none had ended
abbrev pub NoneEnds : (past acts : List Act) → Type 0
NoneEnds past acts = has_stopped past ≡ false → has_stopped (after past acts) ≡ false

-- where no Stop ends, a session that goes on has come as far as before
pub come_on : (b : Beginning) (v w : SessionView) (past acts : List Act) (c : Course) → NoneEnds past acts → Grows v w → HasCome b v past c → HasCome b w (after past acts) c
come_on b v w past acts GoesOn none g h = none h
come_on b v w past acts Stopped none g h = stopped_after acts past h
come_on b v w past acts (Ended (Ok ended.Stopped)) none g h = ended_on b v w past acts g h
come_on b v w past acts (Ended (Err fault.NoMemory)) none g h = h
come_on b v w past acts (Ended (Err fault.Line)) none g h = lost_since acts past h
come_on b v w past acts (Ended (Err fault.Failed)) none g h = lost_since acts past h

-- a call notes nothing of an end that a poll gave
pub ended_after : (c : Course) (answered : Bool) → KeepsEnd c (course_after c answered)
ended_after GoesOn answered end e = cc
ended_after Stopped answered end e = cc
ended_after (Ended other) answered end e = e

-- ## What a call notes

-- one that an outcome left was there before
any_left : (p : Request → Bool) (o : Outcome) (qs : List Request) → list_any p (without o qs) ≡ true → list_any p qs ≡ true
any_left p o [] h = h
any_left p o (q ∷ qs) h = by_test (is_for q o) (any_left p o qs) h
  where
    by_own : (c : Bool) → (list_any p (without o qs) ≡ true → list_any p qs ≡ true) → (c || list_any p (without o qs)) ≡ true → (c || list_any p qs) ≡ true
    by_own true go k = refl
    by_own false go k = go k

    by_test : (c : Bool) → (list_any p (without o qs) ≡ true → list_any p qs ≡ true) → list_any p (if not c then q ∷ without o qs else without o qs) ≡ true → (p q || list_any p qs) ≡ true
    by_test true go k = or_right (p q) (list_any p qs) (go k)
    by_test false go k = by_own (p q) go k

-- a request in hand was taken
hand_taken : (p : Request → Bool) (past : List Act) → list_any p (in_hand past) ≡ true → list_any p (taken_requests past) ≡ true
hand_taken p [] h = h
hand_taken p (Took r ∷ past) h = by_last (list_any p (in_hand past)) (hand_taken p past) (sym (list_any-append p (in_hand past) (r ∷ [])) ∙ h)
  where
    by_last : (c : Bool) → (c ≡ true → list_any p (taken_requests past) ≡ true) → (c || list_any p (r ∷ [])) ≡ true → list_any p (taken_requests past ++ r ∷ []) ≡ true
    by_last true go k = any_more (taken_requests past) (r ∷ []) p (go refl)
    by_last false go k = any_last (taken_requests past) (r ∷ []) p k
hand_taken p (Told o ∷ past) h = hand_taken p past (any_left p o (in_hand past) h)
hand_taken p (Got f ∷ past) h = hand_taken p past h
hand_taken p (Sent f ∷ past) h = hand_taken p past h
hand_taken p (Heard k d line ∷ past) h = hand_taken p past h
hand_taken p (Tick ∷ past) h = hand_taken p past h
hand_taken p (Lost ∷ past) h = hand_taken p past h
hand_taken p (Held d ∷ past) h = hand_taken p past h
hand_taken p (Freed d ∷ past) h = hand_taken p past h
hand_taken p (Given ∷ past) h = hand_taken p past h

any_taken : (p : Request → Bool) (acts past : List Act) → list_any p (taken_requests past) ≡ true → list_any p (taken_requests (after past acts)) ≡ true
any_taken p [] past h = h
any_taken p (Took r ∷ acts) past h = any_taken p acts (Took r ∷ past) (any_more (taken_requests past) (r ∷ []) p h)
any_taken p (Told o ∷ acts) past h = any_taken p acts (Told o ∷ past) h
any_taken p (Got f ∷ acts) past h = any_taken p acts (Got f ∷ past) h
any_taken p (Sent f ∷ acts) past h = any_taken p acts (Sent f ∷ past) h
any_taken p (Heard k d line ∷ acts) past h = any_taken p acts (Heard k d line ∷ past) h
any_taken p (Tick ∷ acts) past h = any_taken p acts (Tick ∷ past) h
any_taken p (Lost ∷ acts) past h = any_taken p acts (Lost ∷ past) h
any_taken p (Held d ∷ acts) past h = any_taken p acts (Held d ∷ past) h
any_taken p (Freed d ∷ acts) past h = any_taken p acts (Freed d ∷ past) h
any_taken p (Given ∷ acts) past h = any_taken p acts (Given ∷ past) h

-- an act that tells so is an outcome that was told
end_told : (q : Request) (acts : List Act) → list_any (is_end_of (asker_of q)) acts ≡ true → list_any (λ (o : Outcome). is_for q o && ends_stop o.answer) (outcomes_told acts) ≡ true
end_told q [] h = h
end_told q (Told o ∷ acts) h = by_test (is_for q o && ends_stop o.answer) (end_told q acts) h
  where
    by_test : (c : Bool) → (list_any (is_end_of (asker_of q)) acts ≡ true → list_any (λ (x : Outcome). is_for q x && ends_stop x.answer) (outcomes_told acts) ≡ true)
        → (c || list_any (is_end_of (asker_of q)) acts) ≡ true → (c || list_any (λ (x : Outcome). is_for q x && ends_stop x.answer) (outcomes_told acts)) ≡ true
    by_test true go k = refl
    by_test false go k = go k
end_told q (Took r ∷ acts) h = end_told q acts h
end_told q (Got f ∷ acts) h = end_told q acts h
end_told q (Sent f ∷ acts) h = end_told q acts h
end_told q (Heard k d line ∷ acts) h = end_told q acts h
end_told q (Tick ∷ acts) h = end_told q acts h
end_told q (Lost ∷ acts) h = end_told q acts h
end_told q (Held d ∷ acts) h = end_told q acts h
end_told q (Freed d ∷ acts) h = end_told q acts h
end_told q (Given ∷ acts) h = end_told q acts h

-- the Stop in hand was answered by one of the acts
stopped_by : (past acts : List Act) (o : Option Request) → find is_stop (in_hand past) ≡ o → is_answered (option_map asker_of o) acts ≡ true → has_stopped (after past acts) ≡ true
stopped_by past acts None e h = never h
stopped_by past acts (Some q) e h =
    let all = outcomes (after past acts) in
    let told : list_any (λ (o : Outcome). is_for q o && ends_stop o.answer) all ≡ true =
    ap (list_any (λ (o : Outcome). is_for q o && ends_stop o.answer)) (outcomes_after acts past) ∙ any_last (outcomes past) (outcomes_told acts) (λ (o : Outcome). is_for q o && ends_stop o.answer) (end_told q acts h) in
    let its : is_stopped_by all q ≡ true = and_from (is_stop q) (list_any (λ (o : Outcome). is_for q o && ends_stop o.answer) all) (found_tests is_stop (in_hand past) q e) told in
    any_taken (is_stopped_by all) acts past (hand_taken (is_stopped_by all) past (any_found is_stop (is_stopped_by all) (in_hand past) q e its))

-- a session has come as far as is noted: an answer to the Stop in hand takes it on, and nothing else does
pub come_noted : (b : Beginning) (v w : SessionView) (past acts : List Act) (hand : List Request) (c : Course) → in_hand past ≡ hand → (is_answered (option_map asker_of (find is_stop hand)) acts ≡ false → NoneEnds past acts) → Grows v w → HasCome b v past c
    → HasCome b w (after past acts) (course_after c (is_answered (option_map asker_of (find is_stop hand)) acts))
come_noted b v w past acts hand GoesOn e none g h = by_answer (is_answered (option_map asker_of (find is_stop hand)) acts) refl
  where
    by_answer : (a : Bool) → is_answered (option_map asker_of (find is_stop hand)) acts ≡ a → HasCome b w (after past acts) (course_after GoesOn a)
    by_answer false k = none k h
    by_answer true k = stopped_by past acts (find is_stop hand) (ap (find is_stop) e) k
come_noted b v w past acts hand Stopped e none g h = stopped_after acts past h
come_noted b v w past acts hand (Ended (Ok ended.Stopped)) e none g h = ended_on b v w past acts g h
come_noted b v w past acts hand (Ended (Err fault.NoMemory)) e none g h = h
come_noted b v w past acts hand (Ended (Err fault.Line)) e none g h = lost_since acts past h
come_noted b v w past acts hand (Ended (Err fault.Failed)) e none g h = lost_since acts past h
