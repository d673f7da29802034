-- How often a request is told, over calls and whole histories.
use Rattle.std.specs.Prelude.{◌≡◌, ℕ, zero, suc, ◌+◌, ◌≤◌, ◌==◌, ◌&&◌, ◌||◌, not, cond, Bool, true, false, List, [], ◌∷◌, ◌++◌, length, map, filter, refl, if◌then◌else◌, drop}
use Rattle.std.specs.List.{list_any}
use Rattle.std.proofs.Common.{ap, sym, subst, ◌∙◌, arith, zero-add, append-nil}
use Rattle.std.proofs.lemmas.Bool.{and_from, eq-eqb}
use Rattle.std.proofs.lemmas.Bool.Decides.{nat_tests}
use Rattle.mux_frame.specs.Frames.{Frame}
use Rattle.mux_station.specs.Written.{is_data_frame}
use Rattle.mux_station.specs.Acts as station
use Rattle.mux_station.specs.States.{is_opened}
use Rattle.at_text.specs.declared.window.Seen as line_is
use Rattle.at_text.specs.Lines.{lines}
use Rattle.modem_desk.specs.declared.request.Ask.TheVariants.{Stop}
use Rattle.modem_desk.specs.declared.request.Request.{Request}
use Rattle.modem_desk.specs.declared.request.Outcome.{Outcome}
use Rattle.modem_history.specs.Acts.{Act, Took, Got, Sent, Told, Heard, Tick, Lost, Held, Freed, Given, is_for, without, in_hand}
use Rattle.modem_history.specs.Calls.{Setting, HistoryView, seen_behind, unanswered, calls_seeing, calls_behind, states_now, frames, at_once, said_of, said_at_once, lines_said, by_lines, first_on, tolds, later}
use Rattle.modem_history.specs.Lawful.{Lawful, IsNext, When, unsent, owed}
use Rattle.modem_history.specs.Wholes.{called, stands, taken_requests, outcomes, is_same, AnswersOnce}
use Rattle.modem_history.proofs.law_proofs.WholeHistories.{beginning}
use Rattle.modem_history.proofs.outcomes.OutcomeCounts.{one, told_one, told_to, many, told_append, many_append, same_for, many_without, left_of, left_step, many_unanswered, tolds_within, at_once_within, told_parts, lines_within, data_on, is_data, not_zero, still_open, first_within}

-- ## One call

-- of lines and of what is told later, on a frame
abbrev said_later : Setting → HistoryView → Act → List Act
said_later s v a = lines_said s v a ++ tolds v (states_now s v (a ∷ map Sent (frames s v a))) a

got_by_data : (s : Setting) (v : HistoryView) (f : Frame) (r : Request) → is_opened (v.state f.dlci) ≡ true → (f.dlci == 0) ≡ false
    → told_to r (by_lines s f.dlci (first_on f.dlci v.waiting) (v.marks f.dlci) (lines (v.run f.dlci ++ f.info)))
    + told_to r (tolds v (states_now s v (Got (data_on f.dlci f) ∷ map Sent (frames s v (Got (data_on f.dlci f))))) (Got (data_on f.dlci f))) ≤ many r v.waiting
got_by_data s v f r h e =
    let a = Got (data_on f.dlci f) in
    let now = states_now s v (a ∷ map Sent (frames s v a)) in
    let first = first_within v now a f.dlci (still_open s v f.dlci f e h) r v.waiting in
    let here = lines_within s f.dlci (first_on f.dlci v.waiting) r (v.marks f.dlci) (lines (v.run f.dlci ++ f.info)) in
    omega (arith, first, here)

got_within : (s : Setting) (v : HistoryView) (f : Frame) (r : Request) → told_to r (said_later s v (Got f)) ≤ many r v.waiting
got_within s v f r =
    let a = Got f in
    let now = states_now s v (a ∷ map Sent (frames s v a)) in
    let both = told_append r (lines_said s v a) (tolds v now a) in
    let parts = by_case (is_opened (v.state f.dlci)) (is_data_frame f) refl refl in
    omega (arith, both, parts)
  where
    by_case : (b c : Bool) → is_opened (v.state f.dlci) ≡ b → is_data_frame f ≡ c
        → told_to r (if b && c then by_lines s f.dlci (first_on f.dlci v.waiting) (v.marks f.dlci) (lines (v.run f.dlci ++ f.info)) else [])
        + told_to r (tolds v (states_now s v (Got f ∷ map Sent (frames s v (Got f)))) (Got f)) ≤ many r v.waiting
    by_case true true h e =
        let n = got_by_data s v f r h (not_zero f e) in
        subst (λ (g : Frame). told_to r (by_lines s f.dlci (first_on f.dlci v.waiting) (v.marks f.dlci) (lines (v.run f.dlci ++ f.info)))
        + told_to r (tolds v (states_now s v (Got g ∷ map Sent (frames s v (Got g)))) (Got g)) ≤ many r v.waiting) (sym (is_data f e)) n
    by_case true false h e = let t = tolds_within v (states_now s v (Got f ∷ map Sent (frames s v (Got f)))) (Got f) r v.waiting in omega (arith, t)
    by_case false c h e = let t = tolds_within v (states_now s v (Got f ∷ map Sent (frames s v (Got f)))) (Got f) r v.waiting in omega (arith, t)

-- the requests that an act brings
abbrev brought : Act → List Request
brought (Took q) = q ∷ []
brought _ = []

plain : (s : Setting) (v : HistoryView) (a : Act) (r : Request) → said_at_once s v a ≡ [] → lines_said s v a ≡ [] → told_to r (calls_seeing s v a) ≤ many r v.waiting
plain s v a r e h =
    let now = states_now s v (a ∷ map Sent (frames s v a)) in
    let parts = told_parts r (frames s v a) (said_at_once s v a) (lines_said s v a) (tolds v now a) in
    let x = ap (told_to r) e in
    let y = ap (told_to r) h in
    let t = tolds_within v now a r v.waiting in
    omega (arith, parts, x, y, t)

-- an act tells at most the requests that wait and the one that it brings, each once
calls_within : (s : Setting) (v : HistoryView) (a : Act) (r : Request) → told_to r (calls_seeing s v a) ≤ many r v.waiting + many r (brought a)
calls_within s v (Took q) r =
    let now = states_now s v (Took q ∷ map Sent (frames s v (Took q))) in
    let parts = told_parts r (frames s v (Took q)) (said_of q (at_once s v q)) [] (tolds v now (Took q)) in
    let x = at_once_within r q (at_once s v q) in
    let t = tolds_within v now (Took q) r v.waiting in
    omega (arith, parts, x, t)
calls_within s v (Got f) r =
    let now = states_now s v (Got f ∷ map Sent (frames s v (Got f))) in
    let parts = told_parts r (frames s v (Got f)) [] (lines_said s v (Got f)) (tolds v now (Got f)) in
    let both = told_append r (lines_said s v (Got f)) (tolds v now (Got f)) in
    let t = got_within s v f r in
    omega (arith, parts, both, t)
calls_within s v Tick r = let h = plain s v Tick r refl refl in omega (arith, h)
calls_within s v Lost r = let h = plain s v Lost r refl refl in omega (arith, h)
calls_within s v (Held d) r = let h = plain s v (Held d) r refl refl in omega (arith, h)
calls_within s v (Freed d) r = let h = plain s v (Freed d) r refl refl in omega (arith, h)
calls_within s v (Sent f) r = let h = plain s v (Sent f) r refl refl in omega (arith, h)
calls_within s v (Told o) r = let h = plain s v (Told o) r refl refl in omega (arith, h)
calls_within s v (Heard k d l) r = let h = plain s v (Heard k d l) r refl refl in omega (arith, h)
calls_within s v Given r = let h = plain s v Given r refl refl in omega (arith, h)

-- ## Whole histories

-- told and still to be answered are at most the requests that were taken
abbrev Counted : Setting → List Act → Request → Type 0
Counted s past r = told_to r (called s past) + left_of (told_to r (owed s past)) (many r (in_hand past)) ≤ many r (taken_requests past)

-- an outcome that was owed is told
left_pos : (t n : ℕ) → 1 ≤ t → left_of t n ≡ 0
left_pos t n h = grind (arith, nat_tests)

told_step : (b : Bool) (t n : ℕ) → left_of t (if b then 0 else n) ≤ left_of (one b + t) n
told_step false t n = let z = left_step false t n in omega (arith, z)
told_step true zero n = omega arith
told_step true (suc t) n = let z = left_pos (suc t) 0 (omega arith) in omega (arith, z)

-- more is called for
call_step : (c t more n new k w : ℕ) → c + left_of t n ≤ k → w ≡ left_of t n → more ≤ w + new → (c + more) + left_of (t + more) (n + new) ≤ k + new
call_step c zero zero n new k w h e b = omega (arith, h, e, b)
call_step c (suc t) zero n new k w h e b =
    let z = left_pos (suc t + 0) (n + new) (omega arith) in
    omega (arith, h, e, b, z)
call_step c t (suc more) n new k w h e b =
    let z = left_pos (t + suc more) (n + new) (omega arith) in
    omega (arith, h, e, b, z)

called_more : (s : Setting) (past : List Act) (a : Act) (r : Request) → Counted s past r
    → told_to r (called s past ++ calls_behind s past (owed s past) a)
    + left_of (told_to r (owed s past ++ calls_behind s past (owed s past) a)) (many r (in_hand past ++ brought a)) ≤ many r (taken_requests past ++ brought a)
called_more s past a r h =
    let more = calls_behind s past (owed s past) a in
    let xs = told_append r (called s past) more in
    let ys = told_append r (owed s past) more in
    let hs = many_append r (in_hand past) (brought a) in
    let ts = many_append r (taken_requests past) (brought a) in
    let w = many_unanswered r (owed s past) (in_hand past) in
    let b = calls_within s (seen_behind s past (owed s past)) a r in
    rw (xs, ys, hs, ts) (call_step (told_to r (called s past)) (told_to r (owed s past)) (told_to r more) (many r (in_hand past)) (many r (brought a)) (many r (taken_requests past))
    (many r (unanswered (owed s past) (in_hand past))) h w b)

-- an act that brings no request
with_none : (s : Setting) (past : List Act) (a : Act) (r : Request) → brought a ≡ [] → Counted s past r
    → told_to r (called s past ++ calls_behind s past (owed s past) a)
    + left_of (told_to r (owed s past ++ calls_behind s past (owed s past) a)) (many r (in_hand past)) ≤ many r (taken_requests past)
with_none s past a r e h =
    subst (λ (qs : List Request). told_to r (called s past ++ calls_behind s past (owed s past) a)
    + left_of (told_to r (owed s past ++ calls_behind s past (owed s past) a)) (many r qs) ≤ many r (taken_requests past)) (ap (λ (qs : List Request). in_hand past ++ qs) e ∙ append-nil (in_hand past))
    (subst (λ (qs : List Request). told_to r (called s past ++ calls_behind s past (owed s past) a)
    + left_of (told_to r (owed s past ++ calls_behind s past (owed s past) a)) (many r (in_hand past ++ brought a)) ≤ many r qs) (ap (λ (qs : List Request). taken_requests past ++ qs) e ∙ append-nil (taken_requests past))
    (called_more s past a r h))

-- what a loss leaves out is no outcome
told_unsent : (r : Request) (xs : List Act) → told_to r (unsent xs) ≡ told_to r xs
told_unsent r [] = refl
told_unsent r (Sent f ∷ xs) = told_unsent r xs ∙ sym (zero-add (told_to r xs))
told_unsent r (Took q ∷ xs) = ap (λ (n : ℕ). 0 + n) (told_unsent r xs)
told_unsent r (Got f ∷ xs) = ap (λ (n : ℕ). 0 + n) (told_unsent r xs)
told_unsent r (Told o ∷ xs) = ap (λ (n : ℕ). one (is_for r o) + n) (told_unsent r xs)
told_unsent r (Heard k d l ∷ xs) = ap (λ (n : ℕ). 0 + n) (told_unsent r xs)
told_unsent r (Tick ∷ xs) = ap (λ (n : ℕ). 0 + n) (told_unsent r xs)
told_unsent r (Lost ∷ xs) = ap (λ (n : ℕ). 0 + n) (told_unsent r xs)
told_unsent r (Held d ∷ xs) = ap (λ (n : ℕ). 0 + n) (told_unsent r xs)
told_unsent r (Freed d ∷ xs) = ap (λ (n : ℕ). 0 + n) (told_unsent r xs)
told_unsent r (Given ∷ xs) = ap (λ (n : ℕ). 0 + n) (told_unsent r xs)

lost_counted : (s : Setting) (past : List Act) (r : Request) → Lawful s past
    → told_to r (called s past ++ calls_behind s past (owed s past) Lost)
    + left_of (told_to r (owed s past ++ calls_behind s past (owed s past) Lost)) (many r (in_hand past)) ≤ many r (taken_requests past)
    → Counted s (Lost ∷ past) r
lost_counted s past r l h =
    let more = calls_behind s past (owed s past) Lost in
    let a = told_append r (unsent (owed s past)) more in
    let b = told_append r (owed s past) more in
    let c = told_unsent r (owed s past) in
    let same : told_to r (unsent (owed s past) ++ more) ≡ told_to r (owed s past ++ more) = omega (arith, a, b, c) in
    let d = told_append r (stands past) (unsent (owed s past) ++ more) in
    let e = told_append r (stands past) (owed s past) in
    let f = ap (told_to r) (beginning s past l) in
    let g = told_append r (called s past) more in
    let all : told_to r (stands past ++ (unsent (owed s past) ++ more)) ≡ told_to r (called s past ++ more) = omega (arith, a, b, c, d, e, f, g) in
    rw (all, same) h

told_next : (r : Request) (o : Outcome) (owing later : List Act) (h : List Request) → owing ≡ Told o ∷ later
    → left_of (told_to r (drop 1 owing)) (many r (without o h)) ≤ left_of (told_to r owing) (many r h)
told_next r o owing later h e =
    rw (e, many_without r o h) (told_step (is_for r o) (told_to r later) (many r h))

sent_next : (r : Request) (a : Act) (owing later : List Act) (n : ℕ) → owing ≡ a ∷ later → told_one r a ≡ 0 → left_of (told_to r (drop 1 owing)) n ≡ left_of (told_to r owing) n
sent_next r a owing later n e z = rw (e, z) (left_step false (told_to r later) n)

sent_counted : (r : Request) (f : Frame) (owing : List Act) (n : ℕ) (b : Bool) → When (not b) (IsNext owing (Sent f))
    → left_of (told_to r (if b then owing else drop 1 owing)) n ≡ left_of (told_to r owing) n
sent_counted r f owing n true w = refl
sent_counted r f owing n false w = sent_next r (Sent f) owing w.later n w.is_next refl

counted : (s : Setting) (past : List Act) (r : Request) → Lawful s past → Counted s past r
unfolding Lawful
counted s [] r l = omega arith
counted s (Told o ∷ past) r l =
    let h = counted s past r l.1 in
    let n = told_next r o (owed s past) l.0.answered.later (in_hand past) l.0.answered.is_next in
    omega (arith, h, n)
counted s (Sent f ∷ past) r l =
    let h = counted s past r l.1 in
    let n = sent_counted r f (owed s past) (many r (in_hand past)) (is_data_frame f) l.0.controlled in
    omega (arith, h, n)
counted s (Heard k d line ∷ past) r l =
    let h = counted s past r l.1 in
    let n = sent_next r (Heard k d line) (owed s past) l.0.heard.later (many r (in_hand past)) l.0.heard.is_next refl in
    omega (arith, h, n)
counted s (Given ∷ past) r l = counted s past r l.1
counted s (Took q ∷ past) r l = called_more s past (Took q) r (counted s past r l.1)
counted s (Got f ∷ past) r l = with_none s past (Got f) r refl (counted s past r l.1)
counted s (Tick ∷ past) r l = with_none s past Tick r refl (counted s past r l.1)
counted s (Lost ∷ past) r l = lost_counted s past r l.1 (with_none s past Lost r refl (counted s past r l.1))
counted s (Held d ∷ past) r l = with_none s past (Held d) r refl (counted s past r l.1)
counted s (Freed d ∷ past) r l = with_none s past (Freed d) r refl (counted s past r l.1)

-- the older part of a lawful history is lawful
pub lawful_part : (s : Setting) (newer older : List Act) → Lawful s (newer ++ older) → Lawful s older
unfolding Lawful
lawful_part s [] older l = l
lawful_part s (a ∷ newer) older l = lawful_part s newer older l.1

counted_cond : {X : Type 0} → (x : X) (xs : List X) (b : Bool) → length (cond b (x ∷ xs) xs) ≡ one b + length xs
counted_cond x xs true = omega arith
counted_cond x xs false = omega arith

-- as many requests are left by the test of being this one as are counted
pub many_filtered : (r : Request) (qs : List Request) → length (filter (is_same r) qs) ≡ many r qs
many_filtered r [] = refl
many_filtered r (q ∷ qs) = counted_cond q (filter (is_same r) qs) (is_same r q) ∙ ap (λ (n : ℕ). one (is_same r q) + n) (many_filtered r qs)

outcomes_counted : (r : Request) (os : List Outcome) (o : Outcome) → length (filter (λ (p : Outcome). is_for r p) (os ++ o ∷ [])) ≡ length (filter (λ (p : Outcome). is_for r p) os) + one (is_for r o)
outcomes_counted r [] o = counted_cond o [] (is_for r o) ∙ omega arith
outcomes_counted r (p ∷ os) o =
    let h = outcomes_counted r os o in
    let a = counted_cond p (filter (λ (q : Outcome). is_for r q) (os ++ o ∷ [])) (is_for r p) in
    let b = counted_cond p (filter (λ (q : Outcome). is_for r q) os) (is_for r p) in
    omega (arith, h, a, b)

told_last : (r : Request) (acts : List Act) (a : Act) → told_to r (acts ++ a ∷ []) ≡ told_to r acts + told_one r a
told_last r acts a = let h = told_append r acts (a ∷ []) in omega (arith, h)

standing_if : (r : Request) (acts : List Act) (f : Frame) (b : Bool) → told_to r (if b then acts else acts ++ Sent f ∷ []) ≡ told_to r acts
standing_if r acts f true = refl
standing_if r acts f false = let h = told_last r acts (Sent f) in omega (arith, h)

-- the outcomes that were told are those that stand
told_stand : (r : Request) (past : List Act) → length (filter (λ (o : Outcome). is_for r o) (outcomes past)) ≡ told_to r (stands past)
told_stand r [] = refl
told_stand r (Told o ∷ past) =
    let h = told_stand r past in
    let a = outcomes_counted r (outcomes past) o in
    let b = told_last r (stands past) (Told o) in
    omega (arith, h, a, b)
told_stand r (Heard k d line ∷ past) =
    let h = told_stand r past in
    let b = told_last r (stands past) (Heard k d line) in
    omega (arith, h, b)
told_stand r (Sent f ∷ past) = told_stand r past ∙ sym (standing_if r (stands past) f (is_data_frame f))
told_stand r (Took q ∷ past) = told_stand r past
told_stand r (Got f ∷ past) = told_stand r past
told_stand r (Tick ∷ past) = told_stand r past
told_stand r (Lost ∷ past) = told_stand r past
told_stand r (Held d ∷ past) = told_stand r past
told_stand r (Freed d ∷ past) = told_stand r past
told_stand r (Given ∷ past) = told_stand r past

abbrev key_of : Outcome → Request
key_of o = record { caller = o.caller; number = o.number; ask = Stop }

for_itself : (o : Outcome) → is_for (key_of o) o ≡ true
for_itself o = and_from (o.caller == o.caller) (o.number == o.number) (eq-eqb o.caller o.caller refl) (eq-eqb o.number o.number refl)

some_same : (o : Outcome) (qs : List Request) → 1 ≤ many (key_of o) qs → list_any (λ (q : Request). is_for q o) qs ≡ true
some_same o [] h = absurd (let g : 1 ≤ 0 = h in omega (arith, g))
some_same o (q ∷ qs) h = by_same (is_same (key_of o) q) refl h (some_same o qs)
  where
    or_true : (b : Bool) → (b || true) ≡ true
    or_true true = refl
    or_true false = refl

    by_same : (b : Bool) → is_same (key_of o) q ≡ b → 1 ≤ one b + many (key_of o) qs → (1 ≤ many (key_of o) qs → list_any (λ (p : Request). is_for p o) qs ≡ true)
        → (is_for q o || list_any (λ (p : Request). is_for p o) qs) ≡ true
    by_same true e n more = ap (λ (c : Bool). c || list_any (λ (p : Request). is_for p o) qs) (same_for (key_of o) q o e ∙ for_itself o)
    by_same false e n more = ap (λ (c : Bool). is_for q o || c) (more (omega (arith, n))) ∙ or_true (is_for q o)

owed_counts : (r : Request) (o : Outcome) (owing later : List Act) → owing ≡ Told o ∷ later → is_for r o ≡ true → 1 ≤ told_to r owing
owed_counts r o owing later e h = rw (e, h) (omega arith)

earlier_taken : (s : Setting) (older : List Act) (o : Outcome) → Lawful s (Told o ∷ older) → list_any (λ (q : Request). is_for q o) (taken_requests older) ≡ true
unfolding Lawful
earlier_taken s older o l =
    let r = key_of o in
    let n = counted s older r l.1 in
    let c = ap (told_to r) (beginning s older l.1) in
    let a = told_append r (stands older) (owed s older) in
    let some = owed_counts r o (owed s older) l.0.answered.later l.0.answered.is_next (for_itself o) in
    some_same o (taken_requests older) (omega (arith, n, c, a, some))

-- in a lawful history each outcome answers a request taken before it, and no request has two where no number is used twice
pub answers_once : (s : Setting) (past : List Act) → Lawful s past → AnswersOnce past
answers_once s past l = record {
  earlier = λ newer older o e. earlier_taken s older o (lawful_part s newer (Told o ∷ older) (subst (λ (acts : List Act). Lawful s acts) e l));
  once = λ uses r.
      let n = counted s past r l in
      let c = ap (told_to r) (beginning s past l) in
      let a = told_append r (stands past) (owed s past) in
      let t = told_stand r past in
      let u = uses r in
      let m = many_filtered r (taken_requests past) in
      omega (arith, n, c, a, t, u, m);
}
