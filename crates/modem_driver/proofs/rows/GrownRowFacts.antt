-- An OK that came before a command was taken is no answer to it.
use Rattle.std.proofs.Common.{ap, sym, ◌∙◌, subst, eqb-true}
use Rattle.std.proofs.lemmas.Bool.{and_parts}
use Rattle.std.proofs.lemmas.List.{append-nil, append_assoc, append_cancel_left}
use Rattle.std.proofs.lemmas.List.Folds.{list_any-append}
use Rattle.std.specs.Prelude.{◌≡◌, ℕ, ◌==◌, ◌&&◌, ◌||◌, Bool, true, false, List, [], ◌∷◌, ◌++◌, drop, filter, refl, if◌then◌else◌}
use Rattle.std.specs.List.{list_any}
use Rattle.mux_frame.specs.CheckOctet.{check_octet_of}
use Rattle.mux_frame.specs.Deframing.{Deframes}
use Rattle.mux_frame.specs.Frames.{Frame}
use Rattle.mux_frame.specs.Judging.{verdict_on, by_header, by_end}
use Rattle.mux_frame.specs.Spelling.{body_of}
use Rattle.at_text.specs.declared.answer.AnswerLine.{AnswerLine}
use Rattle.modem_desk.specs.declared.request.Answer.{Answer}
use Rattle.modem_desk.specs.declared.request.Answer.TheVariants.{Done}
use Rattle.modem_desk.specs.declared.request.Outcome.{Outcome}
use Rattle.modem_desk.specs.declared.request.Request.{Request}
use Rattle.modem_history.specs.Acts.{Act, Took, Got, Sent, Told, Heard, Tick, Lost, Held, Freed, Given, after, is_for}
use Rattle.modem_history.specs.Information.{command_on}
use Rattle.modem_history.specs.SessionRows.{IsRight, beginning, csq_one, entry_answer, first_request, last_flag, one_came, one_left, opened_both, second_request, settled, third_request}
use Rattle.modem_history.specs.Sessions.{SessionFits, SessionView, TakesWithRoom, caller_outcomes, gots}
use Rattle.modem_history.specs.Wholes.{outcomes, taken_requests}
use Rattle.modem_history.proofs.rows.SessionTests.{all_small, fed_is, fits_none, frames_read, read_by, read_in}
use Rattle.modem_driver.specs.Grown.{HasGrown, seen_first, seen_later}
use Rattle.modem_driver.specs.GrownRows.{CountsBehind, CountsNotBefore, at_first, csq_history, csq_left, ok_came, ok_counted, ok_history, ok_one, opened_and_done}
use Rattle.modem_driver.proofs.law_proofs.Headlines.{answers_own, room_before, taken_both}
use Rattle.modem_driver.proofs.law_proofs.SubmittedOrder.{Stretch, stretch_of}
use Rattle.modem_driver.proofs.sessions.steps.OneFrame.{got_both}
use Rattle.modem_history.proofs.rules.MadeLaws.{laws_of}

-- ## Behind it is one

nothing_yet : IsRight (record { view = at_first; acts = [] })
unfolding check_octet_of body_of verdict_on by_header by_end
nothing_yet = fits_none (record { view = at_first; acts = [] }) [] [] 0 refl refl refl (read_in [] refl) (read_in [] refl) refl

left_right : IsRight (record { view = csq_left; acts = csq_history })
unfolding check_octet_of body_of verdict_on by_header by_end
left_right = fits_none (record { view = csq_left; acts = csq_history }) one_came last_flag 13 refl refl refl (read_in one_came refl) (read_in last_flag refl) refl

counted_right : IsRight (record { view = ok_counted; acts = csq_history ++ ok_history })
unfolding check_octet_of body_of verdict_on by_header by_end
counted_right = fits_none (record { view = ok_counted; acts = csq_history ++ ok_history }) (one_came ++ ok_one) last_flag 13 refl refl refl (read_in (one_came ++ ok_one) refl) (read_in last_flag refl) refl

-- an OK that came behind the command is its answer
pub counts_behind : CountsBehind
counts_behind = seen_later ok_counted (csq_left ∷ at_first ∷ []) (after [] csq_history) ok_history (seen_later csq_left (at_first ∷ []) [] csq_history (seen_first at_first nothing_yet) left_right) counted_right

-- ## Before it is none

-- all frames that were read were got
all_got : (came left : List ℕ) (qs : List Request) (os : List Outcome) (past : List Act) → all_small came ≡ true → SessionFits beginning (settled came left qs os [] [] last_flag) past → frames_read came ≡ gots past
all_got came left qs os past small f =
    let v = settled came left qs os [] [] last_flag in
    let fed : f.received.fed ≡ came = fed_is entry_answer f.received.fed came [] (entry_answer ++ came) f.received.received_are (sym (append-nil (entry_answer ++ came))) in
    (read_by came (gots past) v.deframer (subst (λ (xs : List ℕ). Deframes xs (gots past) v.deframer) fed f.received.deframes) refl refl small).frames

-- acts, newest first
abbrev newest : List Act → List Act
newest [] = []
newest (a ∷ acts) = newest acts ++ a ∷ []

joined : (past acts : List Act) → after past acts ≡ newest acts ++ past
joined past [] = refl
joined past (a ∷ acts) = joined (a ∷ past) acts ∙ sym (append_assoc (newest acts) (a ∷ []) past)

abbrev is_third : Request → Bool
is_third q = q.number == 3

none_behind : (fs : List Frame) (f : Frame) → fs ++ f ∷ [] ≡ [] → ⊥
none_behind [] f e = cc
none_behind (g ∷ fs) f e = cc

got_rest : (x : Act) (xs : List Act) → gots (x ∷ xs) ≡ [] → gots xs ≡ []
got_rest (Got f) xs e = absurd (none_behind (gots xs) f e)
got_rest (Took r) xs e = e
got_rest (Sent f) xs e = e
got_rest (Told o) xs e = e
got_rest (Heard k d line) xs e = e
got_rest Tick xs e = e
got_rest Lost xs e = e
got_rest (Held d) xs e = e
got_rest (Freed d) xs e = e
got_rest Given xs e = e

any_behind : (p : Request → Bool) (xs ys : List Request) → list_any p xs ≡ true → list_any p (xs ++ ys) ≡ true
any_behind p xs ys h = list_any-append p xs ys ∙ ap (λ (b : Bool). b || list_any p ys) h

or_true : (b : Bool) → (b || true) ≡ true
or_true true = refl
or_true false = refl

any_before : {A : Type 0} (p : A → Bool) (xs ys : List A) → list_any p ys ≡ true → list_any p (xs ++ ys) ≡ true
any_before p xs ys h = list_any-append p xs ys ∙ (ap (λ (b : Bool). list_any p xs || b) h ∙ or_true (list_any p xs))

any_filtered : {A : Type 0} (p q : A → Bool) (xs : List A) → list_any p (filter q xs) ≡ true → list_any p xs ≡ true
any_filtered p q [] h = h
any_filtered p q (x ∷ xs) h = by (q x) h (any_filtered p q xs)
  where
    first : (c : Bool) → (list_any p (filter q xs) ≡ true → list_any p xs ≡ true) → (c || list_any p (filter q xs)) ≡ true → (c || list_any p xs) ≡ true
    first true more g = refl
    first false more g = more g

    by : (c : Bool) → list_any p (if c then x ∷ filter q xs else filter q xs) ≡ true → (list_any p (filter q xs) ≡ true → list_any p xs ≡ true) → (p x || list_any p xs) ≡ true
    by false g more = ap (λ (b : Bool). p x || b) (more g) ∙ or_true (p x)
    by true g more = first (p x) more g

-- where a frame was got later than these acts began, none of them is that
climb : (xs past newer older : List Act) (f : Frame) → xs ++ past ≡ newer ++ Got f ∷ older → gots xs ≡ [] → list_any is_third (taken_requests older) ≡ true → list_any is_third (taken_requests past) ≡ true
climb [] past newer older f e none some = ap (λ (p : List Act). list_any is_third (taken_requests p)) e ∙ (ap (list_any is_third) (taken_both newer (Got f ∷ older)) ∙ any_behind is_third (taken_requests older) (taken_requests newer) some)
climb (x ∷ xs) past [] older f e none some = absurd (no_frame x (first_is e) none)
  where
    first_is : x ∷ (xs ++ past) ≡ Got f ∷ older → x ≡ Got f
    first_is h = cc

    no_frame : (y : Act) → y ≡ Got f → gots (y ∷ xs) ≡ [] → ⊥
    no_frame y h k = none_behind (gots xs) f (subst (λ (z : Act). gots (z ∷ xs) ≡ []) h k)
climb (x ∷ xs) past (y ∷ newer) older f e none some = climb xs past newer older f (ap (drop 1) e) (got_rest x xs none) some

-- ## The outcome

abbrev is_done : Answer → Bool
is_done (Done ls) = true
is_done _ = false

abbrev tells_third : Outcome → Bool
tells_third o = (o.number == 3) && is_done o.answer

record Stands (past : List Act) : Type 0 where
  newer : List Act
  older : List Act
  outcome : Outcome
  joins : past ≡ newer ++ Told outcome ∷ older
  third : tells_third outcome ≡ true

further : (a : Act) (past : List Act) → Stands past → Stands (a ∷ past)
further a past s = record { newer = a ∷ s.newer; older = s.older; outcome = s.outcome; joins = ap (λ (p : List Act). a ∷ p) s.joins; third = s.third }

stands : (past : List Act) → list_any tells_third (outcomes past) ≡ true → Stands past
stands [] h = cc
stands (Told o ∷ past) h = by (tells_third o) refl (stands past)
  where
    or_none : (b : Bool) → (b || (false || false)) ≡ true → b ≡ true
    or_none true g = refl
    or_none false g = cc

    by : (c : Bool) → tells_third o ≡ c → (list_any tells_third (outcomes past) ≡ true → Stands past) → Stands (Told o ∷ past)
    by true e more = record { newer = []; older = past; outcome = o; joins = refl; third = e }
    by false e more = further (Told o) past (more (or_none (list_any tells_third (outcomes past)) (sym (list_any-append tells_third (outcomes past) (o ∷ []) ∙ ap (λ (b : Bool). list_any tells_third (outcomes past) || (b || false)) e) ∙ h)))
stands (Took r ∷ past) h = further (Took r) past (stands past h)
stands (Got f ∷ past) h = further (Got f) past (stands past h)
stands (Sent f ∷ past) h = further (Sent f) past (stands past h)
stands (Heard k d line ∷ past) h = further (Heard k d line) past (stands past h)
stands (Tick ∷ past) h = further Tick past (stands past h)
stands (Lost ∷ past) h = further Lost past (stands past h)
stands (Held d ∷ past) h = further (Held d) past (stands past h)
stands (Freed d ∷ past) h = further (Freed d) past (stands past h)
stands (Given ∷ past) h = further Given past (stands past h)

-- what its answer is
record IsDone (o : Outcome) : Type 0 where
  lines : List AnswerLine
  answer : o.answer ≡ Done lines

done_is : (o : Outcome) → is_done o.answer ≡ true → IsDone o
done_is o h = by o.answer refl h
  where
    no : false ≡ true → ⊥
    no e = cc

    by : (a : Answer) → o.answer ≡ a → is_done a ≡ true → IsDone o
    by (Done ls) e g = record { lines = ls; answer = e }
    by _ e g = absurd (no g)

third_is : (q : Request) (o : Outcome) → is_for q o ≡ true → (o.number == 3) ≡ true → is_third q ≡ true
third_is q o own third = ap (λ (n : ℕ). n == 3) (eqb-true q.number o.number (and_parts (q.caller == o.caller) (q.number == o.number) own).1) ∙ third

-- the third request was taken before the OK came
taken_first : (past : List Act) → SessionFits beginning ok_counted past → (before acts : List Act) → past ≡ newest acts ++ before → gots (newest acts) ≡ [] → list_any is_third (taken_requests before) ≡ true
taken_first past f before acts joins none =
    let told = f.told.each 0 in
    let all : opened_and_done ++ [] ≡ caller_outcomes 0 (outcomes past) = ap (λ (os : List Outcome). os ++ []) told.told_are ∙ told.outcomes_are in
    let s = stands past (any_filtered tells_third (λ (o : Outcome). o.caller == 0) (outcomes past) (ap (list_any tells_third) (sym all))) in
    let parts = and_parts (s.outcome.number == 3) (is_done s.outcome.answer) s.third in
    let d = done_is s.outcome parts.1 in
    let h = answers_own beginning ok_counted past f s.newer s.older s.outcome d.lines s.joins d.answer in
    let whole : past ≡ (s.newer ++ Told s.outcome ∷ h.newer) ++ Got h.frame ∷ h.older = s.joins ∙ (ap (λ (p : List Act). s.newer ++ Told s.outcome ∷ p) h.joins ∙ sym (append_assoc s.newer (Told s.outcome ∷ h.newer) (Got h.frame ∷ h.older))) in
    let st : Stretch h.frame.dlci h.older = stretch_of h.frame.dlci h.older (room_before ((s.newer ++ Told s.outcome ∷ h.newer) ++ Got h.frame ∷ []) h.older (subst TakesWithRoom (whole ∙ sym (append_assoc (s.newer ++ Told s.outcome ∷ h.newer) (Got h.frame ∷ []) h.older)) (laws_of f.history).room)) in
    let accepted_third = ap (list_any is_third) h.owns.accepted_are ∙ any_before is_third h.owns.before (h.request ∷ h.owns.later) (ap (λ (b : Bool). b || list_any is_third h.owns.later) (third_is h.request s.outcome h.answers parts.0)) in
    let in_stretch = any_filtered is_third (λ (q : Request). command_on h.frame.dlci q.ask) st.stretch (sym (ap (list_any is_third) st.commands) ∙ accepted_third) in
    let taken : list_any is_third (taken_requests h.older) ≡ true = ap (list_any is_third) st.taken_are ∙ any_before is_third st.before (st.stretch ++ st.later) (any_behind is_third st.stretch st.later in_stretch) in
    climb (newest acts) before (s.newer ++ Told s.outcome ∷ h.newer) h.older h.frame (sym joins ∙ whole) none taken

fits_last : (v : SessionView) (seen : List SessionView) (past : List Act) → HasGrown beginning (v ∷ seen) past → SessionFits beginning v past
fits_last _ _ _ (seen_first v f) = f
fits_last _ _ _ (seen_later v seen past acts before f) = f

differ : false ≡ true → ⊥
differ e = cc

refused : (seen : List SessionView) (before acts : List Act) → SessionFits beginning ok_counted (after before acts) → SessionFits beginning ok_came before → ⊥
unfolding check_octet_of body_of verdict_on by_header by_end
refused seen before acts later earlier =
    let same = joined before acts in
    let got_before = all_got (one_came ++ ok_one) one_left (first_request ∷ second_request ∷ []) opened_both before refl earlier in
    let got_later = all_got (one_came ++ ok_one) (one_left ++ csq_one) (first_request ∷ second_request ∷ third_request ∷ []) opened_and_done (after before acts) refl later in
    let none : gots (newest acts) ≡ [] = append_cancel_left (gots before) (gots (newest acts)) [] (sym (got_both (newest acts) before) ∙ (ap gots (sym same) ∙ (sym got_later ∙ (got_before ∙ sym (append-nil (gots before)))))) in
    let some = taken_first (after before acts) later before acts same none in
    let taken : taken_requests before ≡ first_request ∷ second_request ∷ [] = sym earlier.requests.taken_are in
    differ (sym (ap (list_any is_third) taken) ∙ some)

by_sights : (seen : List SessionView) (past : List Act) → HasGrown beginning (ok_counted ∷ ok_came ∷ seen) past → ⊥
by_sights seen _ (seen_later _ _ before acts grown f) = refused seen before acts f (fits_last ok_came seen before grown)

-- one that came before it is none, whatever was seen earlier
pub counts_not_before : CountsNotBefore
counts_not_before seen past h = by_sights seen past h
