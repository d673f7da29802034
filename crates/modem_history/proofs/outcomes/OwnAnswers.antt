-- Each answer that is told is that of the request's own command.
use Rattle.std.specs.Prelude.{◌≡◌, ℕ, ◌+◌, ◌≤◌, ◌==◌, ◌&&◌, Bool, true, false, List, [], ◌∷◌, ◌++◌, length, map, take, refl, if◌then◌else◌, Option, Some, None, is_some}
use Rattle.std.specs.List.{last_or}
use Rattle.std.proofs.Common.{ap, sym, ◌∙◌, subst, arith, append-nil}
use Rattle.std.proofs.lemmas.Bool.{and_parts, and_from}
use Rattle.std.proofs.lemmas.List.{length-map, length-take-le, map-append}
use Rattle.std.proofs.Math.Seq.{take-append-add}
use Rattle.mux_frame.specs.Frames.{Frame}
use Rattle.mux_station.specs.declared.role.Role.TheVariants.{Initiator}
use Rattle.mux_station.specs.Written.{is_data_frame}
use Rattle.mux_station.specs.Opening.{is_open}
use Rattle.mux_station.specs.States.{is_opened}
use Rattle.at_text.specs.declared.answer.AnswerLine.{AnswerLine}
use Rattle.at_text.specs.Lines.{lines}
use Rattle.at_text.specs.Windows.{Mark, Line, Window, answered, open_window, windows}
use Rattle.at_text.specs.Seeing.{seen_after}
use Rattle.modem_desk.specs.declared.request.Request.{Request}
use Rattle.modem_desk.specs.declared.request.Answer.TheVariants.{Done}
use Rattle.modem_desk.specs.declared.request.Outcome.{Outcome}
use Rattle.modem_history.specs.Acts.{Act, Took, Got, Sent, Told, Heard, Tick, Lost, Held, Freed, Given, wire, in_hand}
use Rattle.modem_history.specs.Information.{accepted, carries, information_out, line_of, texts}
use Rattle.modem_history.specs.Placing.{marks, run_on, whole_in, whole_after}
use Rattle.modem_history.specs.Calls.{Setting, seen, is_lost, states_now, frames, calls, calls_behind, said_at_once, lines_said, by_lines, by_seen, first_on, tolds}
use Rattle.modem_history.specs.Lawful.{Lawful, owed, unsent}
use Rattle.modem_history.specs.Begun.{begun_count}
use Rattle.modem_history.specs.Wholes.{called, stands, taken_requests, begun_in, commands_for, CompleteCalls, IsOwnAnswer, HasOwnAnswer, TellsOwn}
use Rattle.modem_history.proofs.law_proofs.WholeHistories.{beginning}
use Rattle.modem_history.proofs.connections.ShutAfterLoss.{none_open}
use Rattle.modem_history.proofs.outcomes.OutcomeCounts.{closed_tells_none, stays_closed, not_zero}
use Rattle.modem_history.proofs.outcomes.WholeCounts.{lawful_part}
use Rattle.modem_history.proofs.requests.RequestsInHand.{for_itself}
use Rattle.modem_history.proofs.commands.BegunCommands as begins
use Rattle.modem_history.proofs.commands.BegunCommands.{begun_append, begun_lines, begun_counted, texts_counted}
use Rattle.modem_history.proofs.commands.WholeTexts.{whole_few}
use Rattle.modem_history.proofs.commands.CommandOrder.{open_count, counts}
use Rattle.modem_history.proofs.outcomes.WindowAnswers.{AllTell, EndsAt, tell_both, tell_more, tell_right, none_told, tolds_tell, at_once_tells, line_tells, lines_tell, first_tells}
use Rattle.modem_history.proofs.requests.RequestsAfterCalls.{head_of, first_head}
use Rattle.modem_history.proofs.requests.CommandsInStep.{Kept}
use Rattle.modem_history.proofs.requests.StepOfFrame.{data_carries}
use Rattle.modem_history.proofs.requests.StepsOfHistory.{Few, few_once, kept_all, here, few_before}

-- ## The last command

last_command : (o : Option Window) (ws : List Window) (w : Window) (xs : List (List ℕ)) (c : List ℕ) → last_or o ws ≡ Some w → map (λ (v : Window). v.command) ws ≡ xs ++ c ∷ [] → w.command ≡ c
last_command o [] w [] c e h = cc
last_command o [] w (x ∷ xs) c e h = cc
last_command o (v ∷ []) w [] c e h = let same : v ≡ w = cc in let named : v.command ≡ c = cc in ap (λ (u : Window). u.command) (sym same) ∙ named
last_command o (v ∷ u ∷ vs) w [] c e h = cc
last_command o (v ∷ vs) w (x ∷ xs) c e h = let rest : map (λ (u : Window). u.command) vs ≡ xs ++ c ∷ [] = cc in last_command (Some v) vs w xs c e rest

-- ## One frame

-- the request is the first whose answer hasn't come, and its command the last that began
record Next (s : Setting) (d : ℕ) (past : List Act) (r : Request) : Type 0 where
  before : List Request
  later : List Request
  accepted_are : accepted s.role d past ≡ before ++ r ∷ later
  answered_are : answered s.dialect (marks s.role d past) ≡ length before
  begun : begun_in (marks s.role d past) ≡ map line_of before ++ line_of r ∷ []
  was_open : is_some (open_window s.dialect (marks s.role d past)) ≡ true

tail_of : (cs : List Request) (r : Request) → Some r ≡ head_of cs → (later : List Request) × (cs ≡ r ∷ later)
tail_of [] r e = cc
tail_of (q ∷ qs) r e = let same : r ≡ q = cc in (qs, ap (λ (x : Request). x ∷ qs) (sym same))

next_by : (s : Setting) (d : ℕ) (past : List Act) (r : Request) (w : Window) → Lawful s past → Kept s d past → is_open s.role d (wire past) ≡ true → open_window s.dialect (marks s.role d past) ≡ Some w
    → first_on d (in_hand past) ≡ Some r → Next s d past r
next_by s d past r w l k o e h =
    let i = k.on.while_open o in
    let ms = marks s.role d past in
    let acc = accepted s.role d past in
    let out = information_out s.role d past in
    let b = begins.kept s past l d in
    let tail = tail_of (commands_for d (in_hand past)) r (sym h ∙ first_head d (in_hand past)) in
    let n = whole_in (length out) (texts acc) in
    let few : n ≤ length acc = omega (arith, whole_few (length out) (texts acc), texts_counted acc) in
    let size : begun_count ms ≡ n = sym (begun_counted ms) ∙ (ap length b.first ∙ (length-map (whole_after (length out) acc) line_of ∙ length-take-le n acc few)) in
    let one : open_count (open_window s.dialect ms) ≡ 1 = ap open_count e in
    let all = counts s.dialect ms b.turns.order in
    let ans = i.answered_are in
    let count : n ≡ length i.before + 1 = omega (arith, size, one, all, ans) in
    let accepts : acc ≡ i.before ++ r ∷ tail.0 = i.accepted_are ∙ ap (λ (v : List Request). i.before ++ v) tail.1 in
    let front : take n acc ≡ i.before ++ r ∷ [] = ap (λ (m : ℕ). take m acc) count ∙ (ap (take (length i.before + 1)) accepts ∙ take-append-add i.before (r ∷ tail.0) 1) in
    record {
      before = i.before;
      later = tail.0;
      accepted_are = accepts;
      answered_are = ans;
      begun = b.first ∙ (ap (map line_of) front ∙ map-append line_of i.before (r ∷ []));
      was_open = ap (λ (v : Option Window). is_some v) e;
    }

begun_still : (ms : List Mark) (ls : List (List ℕ)) → begun_in (ms ++ map Line ls) ≡ begun_in ms
begun_still ms ls = begun_append ms (map Line ls) ∙ (ap (λ (v : List (List ℕ)). begun_in ms ++ v) (begun_lines ls) ∙ append-nil (begun_in ms))

-- what ends the window is its answer
owns : (s : Setting) (past : List Act) (f : Frame) (r : Request) (ls : List AnswerLine) → (carries f.dlci f && is_open s.role f.dlci (wire past)) ≡ true → Next s f.dlci past r → EndsAt s.dialect (marks s.role f.dlci past) (lines (run_on s.role f.dlci past ++ f.info)) ls → IsOwnAnswer s past f r ls
owns s past f r ls come n h =
    let ms = marks s.role f.dlci past in
    let all = lines (run_on s.role f.dlci past ++ f.info) in
    record {
      before = n.before;
      later = n.later;
      accepted_are = n.accepted_are;
      answered_are = n.answered_are;
      begun_are = n.begun;
      was_open = n.was_open;
      brings = come;
      ends = record { count = h.count; window = h.ends.window; is_last = h.ends.is_last; ended = h.ends.ended; answer = h.ends.answer };
      own = last_command None (windows (ms ++ map Line (take h.count all))) h.ends.window (map line_of n.before) (line_of r) h.ends.is_last (begun_still ms (take h.count all) ∙ n.begun);
    }

-- outside of a window nothing is told
closed_tell : (P : Outcome → List AnswerLine → Type 0) (s : Setting) (d : ℕ) (owner : Option Request) (ms : List Mark) (ls : List (List ℕ)) → open_window s.dialect ms ≡ None → AllTell P (by_lines s d owner ms ls)
closed_tell P s d owner ms [] e = tt
closed_tell P s d owner ms (l ∷ ls) e =
    tell_both P (by_seen s d owner l (seen_after s.dialect ms l)) (by_lines s d owner (ms ++ Line l ∷ []) ls)
    (line_tells P s d owner l (seen_after s.dialect ms l) (λ q got o h. absurd (closed_tells_none s.dialect ms l got e h)))
    (closed_tell P s d owner (ms ++ Line l ∷ []) ls (stays_closed s.dialect ms l e))

abbrev Owned : Setting → List Act → Outcome → List AnswerLine → Type 0
Owned s past o ls = HasOwnAnswer s past o ls

frame_owned : (s : Setting) (past : List Act) (f : Frame) → Lawful s past → Kept s f.dlci past → AllTell (Owned s (Got f ∷ past)) (lines_said s (seen s past) (Got f))
frame_owned s past f l k = by_case (is_opened ((seen s past).state f.dlci) && is_data_frame f) refl
  where
    ms : List Mark
    ms = marks s.role f.dlci past

    all : List (List ℕ)
    all = lines (run_on s.role f.dlci past ++ f.info)

    by_window : is_data_frame f ≡ true → is_open s.role f.dlci (wire past) ≡ true → (o : Option Window) → open_window s.dialect ms ≡ o → AllTell (Owned s (Got f ∷ past)) (by_lines s f.dlci (first_on f.dlci (in_hand past)) ms all)
    by_window come g None e = closed_tell (Owned s (Got f ∷ past)) s f.dlci (first_on f.dlci (in_hand past)) ms all e
    by_window come g (Some w) e =
        lines_tell (Owned s (Got f ∷ past)) s f.dlci (first_on f.dlci (in_hand past)) ms all [] all ms
        (λ q ls h ends. record {
          newer = [];
          older = past;
          frame = f;
          request = q;
          joins = refl;
          answers = for_itself q (Done ls);
          owns = owns s past f q ls (and_from (carries f.dlci f) (is_open s.role f.dlci (wire past)) (data_carries f.dlci f come (not_zero f come) refl) g) (next_by s f.dlci past q w l k g e h) ends;
        }) refl (sym (append-nil ms))

    by_case : (b : Bool) → (is_opened ((seen s past).state f.dlci) && is_data_frame f) ≡ b → AllTell (Owned s (Got f ∷ past)) (if b then by_lines s f.dlci (first_on f.dlci (in_hand past)) ms all else [])
    by_case true e =
        let parts = and_parts (is_opened ((seen s past).state f.dlci)) (is_data_frame f) e in
        by_window parts.1 parts.0 (open_window s.dialect ms) refl
    by_case false e = tt

-- ## Whole histories

call_owned : (s : Setting) (past : List Act) (a : Act) → AllTell (Owned s (a ∷ past)) (lines_said s (seen s past) a) → AllTell (Owned s (a ∷ past)) (calls s past a)
call_owned s past a h =
    let P = Owned s (a ∷ past) in
    let v = seen s past in
    let now = states_now s v (a ∷ map Sent (frames s v a)) in
    tell_both P (map Sent (frames s v a)) (said_at_once s v a ++ (lines_said s v a ++ tolds v now a)) (none_told P (frames s v a))
    (tell_both P (said_at_once s v a) (lines_said s v a ++ tolds v now a) (at_once_tells P s v a)
    (tell_both P (lines_said s v a) (tolds v now a) h (tolds_tell P v now a v.waiting)))

later_owned : (s : Setting) (a : Act) (past : List Act) (o : Outcome) (ls : List AnswerLine) → HasOwnAnswer s past o ls → HasOwnAnswer s (a ∷ past) o ls
later_owned s a past o ls h =
    record { newer = a ∷ h.newer; older = h.older; frame = h.frame; request = h.request; joins = ap (λ (acts : List Act). a ∷ acts) h.joins; answers = h.answers; owns = h.owns }

more_owned : (s : Setting) (a : Act) (past : List Act) → AllTell (Owned s past) (called s past) → AllTell (Owned s (a ∷ past)) (called s past)
more_owned s a past h = tell_more (Owned s past) (Owned s (a ∷ past)) (later_owned s a past) (called s past) h

one_owned : (s : Setting) (a : Act) (past : List Act) → owed s past ≡ [] → AllTell (Owned s (a ∷ past)) (calls s past a) → AllTell (Owned s past) (called s past)
    → AllTell (Owned s (a ∷ past)) (called s past ++ calls_behind s past (owed s past) a)
one_owned s a past e h k =
    tell_both (Owned s (a ∷ past)) (called s past) (calls_behind s past (owed s past) a) (more_owned s a past k)
    (subst (λ (owing : List Act). AllTell (Owned s (a ∷ past)) (calls_behind s past owing a)) (sym e) h)

-- data on 0 there is none
live_owned : (s : Setting) → s.role ≡ Initiator → (past : List Act) (f : Frame) → Lawful s past → CompleteCalls s past → Few (taken_requests past) → is_lost past ≡ false → owed s past ≡ []
    → AllTell (Owned s (Got f ∷ past)) (lines_said s (seen s past) (Got f))
live_owned s r past f l c u n e = by_zero (f.dlci == 0) refl
  where
    none_on_zero : (b x : Bool) (acts : List Act) → x ≡ false → AllTell (Owned s (Got f ∷ past)) (if b && x then acts else [])
    none_on_zero true x acts h = subst (λ (y : Bool). AllTell (Owned s (Got f ∷ past)) (if y then acts else [])) (sym h) tt
    none_on_zero false x acts h = tt

    no_data : (b : Bool) → is_data_frame f ≡ b → (f.dlci == 0) ≡ true → b ≡ false
    no_data false h z = refl
    no_data true h z = absurd (let x : false ≡ true = sym (not_zero f h) ∙ z in cc)

    by_zero : (b : Bool) → (f.dlci == 0) ≡ b → AllTell (Owned s (Got f ∷ past)) (lines_said s (seen s past) (Got f))
    by_zero false z = frame_owned s past f l (here s f.dlci past e (kept_all s r past l c u n f.dlci z))
    by_zero true z = none_on_zero (is_opened ((seen s past).state f.dlci)) (is_data_frame f) _ (no_data (is_data_frame f) refl z)

-- once the line is lost no line is read
lost_owned : (s : Setting) → s.role ≡ Initiator → (past : List Act) (f : Frame) → Lawful s past → is_lost past ≡ true → AllTell (Owned s (Got f ∷ past)) (lines_said s (seen s past) (Got f))
lost_owned s r past f l n = unread (is_opened ((seen s past).state f.dlci)) (none_open s f.dlci past r l n)
  where
    unread : (b : Bool) → b ≡ false
        → AllTell (Owned s (Got f ∷ past)) (if b && is_data_frame f then by_lines s f.dlci (first_on f.dlci (in_hand past)) (marks s.role f.dlci past) (lines (run_on s.role f.dlci past ++ f.info)) else [])
    unread false h = tt
    unread true h = cc

got_owned : (s : Setting) → s.role ≡ Initiator → (past : List Act) (f : Frame) → Lawful s past → CompleteCalls s past → Few (taken_requests past) → owed s past ≡ []
    → AllTell (Owned s (Got f ∷ past)) (lines_said s (seen s past) (Got f))
got_owned s r past f l c u e = by_loss (is_lost past) refl
  where
    by_loss : (b : Bool) → is_lost past ≡ b → AllTell (Owned s (Got f ∷ past)) (lines_said s (seen s past) (Got f))
    by_loss true n = lost_owned s r past f l n
    by_loss false n = live_owned s r past f l c u n e

-- a loss of the line where nothing was owed
loss_owned : (s : Setting) (past : List Act) → Lawful s past → owed s past ≡ [] → AllTell (Owned s past) (called s past) → AllTell (Owned s (Lost ∷ past)) (called s (Lost ∷ past))
loss_owned s past l e k =
    let P = Owned s (Lost ∷ past) in
    let stood : stands past ≡ called s past = sym (append-nil (stands past)) ∙ (ap (λ (v : List Act). stands past ++ v) (sym e) ∙ beginning s past l) in
    tell_both P (stands past) (unsent (owed s past) ++ calls_behind s past (owed s past) Lost)
    (subst (λ (acts : List Act). AllTell P acts) (sym stood) (more_owned s Lost past k))
    (subst (λ (owing : List Act). AllTell P (unsent owing ++ calls_behind s past owing Lost)) (sym e) (call_owned s past Lost tt))

owned : (s : Setting) → s.role ≡ Initiator → (past : List Act) → Lawful s past → CompleteCalls s past → Few (taken_requests past) → AllTell (Owned s past) (called s past)
unfolding Lawful
owned s r [] l c u = tt
owned s r (Sent f ∷ past) l c u = more_owned s (Sent f) past (owned s r past l.1 c.1 u)
owned s r (Told o ∷ past) l c u = more_owned s (Told o) past (owned s r past l.1 c.1 u)
owned s r (Heard k d line ∷ past) l c u = more_owned s (Heard k d line) past (owned s r past l.1 c.1 u)
owned s r (Given ∷ past) l c u = more_owned s Given past (owned s r past l.1 c.1 u)
owned s r (Took q ∷ past) l c u = one_owned s (Took q) past (c.0 refl) (call_owned s past (Took q) tt) (owned s r past l.1 c.1 (few_before past q u))
owned s r (Got f ∷ past) l c u = one_owned s (Got f) past (c.0 refl) (call_owned s past (Got f) (got_owned s r past f l.1 c.1 u (c.0 refl))) (owned s r past l.1 c.1 u)
owned s r (Tick ∷ past) l c u = one_owned s Tick past (c.0 refl) (call_owned s past Tick tt) (owned s r past l.1 c.1 u)
owned s r (Held d ∷ past) l c u = one_owned s (Held d) past (c.0 refl) (call_owned s past (Held d) tt) (owned s r past l.1 c.1 u)
owned s r (Freed d ∷ past) l c u = one_owned s (Freed d) past (c.0 refl) (call_owned s past (Freed d) tt) (owned s r past l.1 c.1 u)
owned s r (Lost ∷ past) l c u = loss_owned s past l.1 (c.0 refl) (owned s r past l.1 c.1 u)

-- what holds of a history holds of its older part
calls_part : (s : Setting) (newer older : List Act) → CompleteCalls s (newer ++ older) → CompleteCalls s older
calls_part s [] older c = c
calls_part s (a ∷ newer) older c = calls_part s newer older c.1

few_one : (past : List Act) (a : Act) → Few (taken_requests (a ∷ past)) → Few (taken_requests past)
few_one past (Took q) h = few_before past q h
few_one past (Got f) h = h
few_one past (Sent f) h = h
few_one past (Told o) h = h
few_one past (Heard k d line) h = h
few_one past Tick h = h
few_one past Lost h = h
few_one past (Held d) h = h
few_one past (Freed d) h = h
few_one past Given h = h

few_part : (newer older : List Act) → Few (taken_requests (newer ++ older)) → Few (taken_requests older)
few_part [] older h = h
few_part (a ∷ newer) older h = few_part newer older (few_one (newer ++ older) a h)

told_owned : (s : Setting) → s.role ≡ Initiator → (older : List Act) (o : Outcome) → Lawful s (Told o ∷ older) → CompleteCalls s older → Few (taken_requests older)
    → (ls : List AnswerLine) → o.answer ≡ Done ls → HasOwnAnswer s older o ls
unfolding Lawful
told_owned s r older o l c u ls d =
    let all = subst (λ (acts : List Act). AllTell (Owned s older) acts) (sym (beginning s older l.1)) (owned s r older l.1 c u) in
    first_tells (Owned s older) o (owed s older) l.0.answered.later l.0.answered.is_next (tell_right (Owned s older) (stands older) (owed s older) all) ls d

-- in a lawful history of an initiator, of whole calls without a number twice, each answer told is that of its own command
pub tells_own : (s : Setting) (past : List Act) → Lawful s past → TellsOwn s past
unfolding TellsOwn
tells_own s past l r c u newer older o ls e d =
    let part : Lawful s (Told o ∷ older) = lawful_part s newer (Told o ∷ older) (subst (λ (acts : List Act). Lawful s acts) e l) in
    let calls_so = calls_part s newer (Told o ∷ older) (subst (λ (acts : List Act). CompleteCalls s acts) e c) in
    let few_so = few_part newer (Told o ∷ older) (subst (λ (acts : List Act). Few (taken_requests acts)) e (few_once (taken_requests past) u)) in
    told_owned s r older o part calls_so.1 few_so ls d
