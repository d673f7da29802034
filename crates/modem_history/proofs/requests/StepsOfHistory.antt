-- The commands stay in step over a whole history.
use Rattle.std.specs.Prelude.{◌≡◌, ℕ, ◌+◌, ◌≤◌, ◌==◌, ◌&&◌, ◌||◌, not, Bool, true, false, List, [], ◌∷◌, ◌++◌, length, map, filter, drop, refl, if◌then◌else◌}
use Rattle.std.specs.List.{list_all}
use Rattle.std.proofs.Common.{ap, sym, ◌∙◌, subst, arith, append_assoc, append-nil}
use Rattle.std.proofs.lemmas.Bool.{and_parts, and_from, eq-eqb}
use Rattle.std.proofs.lemmas.List.Elements.{filter-append}
use Rattle.std.proofs.lemmas.List.{map-append}
use Rattle.mux_frame.specs.Frames.{Frame}
use Rattle.mux_station.specs.declared.role.Role.{Role}
use Rattle.mux_station.specs.declared.role.Role.TheVariants.{Initiator}
use Rattle.mux_station.specs.Acts as station
use Rattle.mux_station.specs.Written.{is_data_frame}
use Rattle.mux_station.specs.Opening.{opens, opens_now, ends, is_open, is_asked}
use Rattle.mux_station.proofs.states.OpeningSteps.{is_open_after}
use Rattle.at_text.specs.Dialects.{Dialect}
use Rattle.at_text.specs.Windows.{Mark, Begun, Window, answers, answer_of, answered, has_final, windows}
use Rattle.at_text.proofs.windows.AnswerWindows.{windows-begun}
use Rattle.modem_desk.specs.declared.request.Request.{Request}
use Rattle.modem_history.specs.Acts.{Act, Took, Got, Sent, Told, Heard, Tick, Lost, Held, Freed, Given, after, wire, in_hand}
use Rattle.modem_history.specs.Information.{accepted, carries, line_of}
use Rattle.modem_history.specs.Placing.{marks, begun_placed}
use Rattle.modem_history.specs.Calls.{Setting, is_lost, calls_behind}
use Rattle.modem_history.specs.Lawful.{Lawful, Complete, Gated, IsNext, When, owed}
use Rattle.modem_history.specs.Requests.{is_apart, are_distinct}
use Rattle.modem_history.specs.Wholes.{taken_requests, is_same, UsesOnce, CompleteCalls, commands_for, StaysInStep}
use Rattle.modem_history.proofs.law_proofs.WholeHistories.{not_true}
use Rattle.modem_history.proofs.outcomes.OutcomeCounts.{one, many, many_append, many_without, data_on, is_data}
use Rattle.modem_history.proofs.outcomes.WholeCounts.{many_filtered}
use Rattle.modem_history.proofs.commands.BegunCommands.{opens_by_sent, opens_by_mark, data_ends_none, marks_of}
use Rattle.modem_history.proofs.calls.CallEnds.{ended, if_false}
use Rattle.modem_history.proofs.requests.CommandsInStep.{Kept, kept_tick, kept_held, kept_freed}
use Rattle.modem_history.proofs.requests.StepOfRequest.{kept_took}
use Rattle.modem_history.proofs.requests.StepOfFrame.{kept_got}

-- ## No number twice

few_if : (b : Bool) (n m : ℕ) → n ≤ m → (if b then 0 else n) ≤ m
few_if true n m h = omega arith
few_if false n m h = h

-- what is in hand was taken
hand_few : (r : Request) (past : List Act) → many r (in_hand past) ≤ many r (taken_requests past)
hand_few r [] = omega arith
hand_few r (Took q ∷ past) =
    let h = hand_few r past in
    let a = many_append r (in_hand past) (q ∷ []) in
    let b = many_append r (taken_requests past) (q ∷ []) in
    omega (arith, h, a, b)
hand_few r (Told o ∷ past) = rw (many_without r o (in_hand past)) (few_if _ (many r (in_hand past)) (many r (taken_requests past)) (hand_few r past))
hand_few r (Got f ∷ past) = hand_few r past
hand_few r (Sent f ∷ past) = hand_few r past
hand_few r (Heard k d line ∷ past) = hand_few r past
hand_few r (Tick ∷ past) = hand_few r past
hand_few r (Lost ∷ past) = hand_few r past
hand_few r (Held d ∷ past) = hand_few r past
hand_few r (Freed d ∷ past) = hand_few r past
hand_few r (Given ∷ past) = hand_few r past

apart_by : (b : Bool) (n : ℕ) → one b + n ≡ 0 → (b ≡ false) × (n ≡ 0)
apart_by false n h = (refl, omega (arith, h))
apart_by true n h = absurd (omega (arith, h))

none_same : (q : Request) (qs : List Request) → many q qs ≡ 0 → list_all (is_apart q) qs ≡ true
none_same q [] h = refl
none_same q (r ∷ qs) h =
    let parts = apart_by (is_same q r) (many q qs) h in
    and_from (is_apart q r) (list_all (is_apart q) qs) (ap not parts.0) (none_same q qs parts.1)

itself : (q : Request) → is_same q q ≡ true
itself q = and_from (q.caller == q.caller) (q.number == q.number) (eq-eqb q.caller q.caller refl) (eq-eqb q.number q.number refl)

-- each request stands among these once at most, by caller and number
abbrev pub Few : List Request → Type 0
Few qs = (r : Request) → many r qs ≤ 1

-- requests that stand there once are distinct
pub distinct_few : (qs : List Request) → Few qs → are_distinct qs ≡ true
distinct_few [] h = refl
distinct_few (q ∷ qs) h =
    let here = h q in
    let first = ap one (itself q) in
    let none : many q qs ≡ 0 = omega (arith, here, first) in
    and_from (list_all (is_apart q) qs) (are_distinct qs) (none_same q qs none) (distinct_few qs (λ r. let x = h r in omega (arith, x)))

-- where each was taken once at most, each is in hand once at most
pub few_hand : (past : List Act) → Few (taken_requests past) → Few (in_hand past)
few_hand past h r = let a = hand_few r past in let b = h r in omega (arith, a, b)

-- and so was each before the last was taken
pub few_before : (past : List Act) (q : Request) → Few (taken_requests past ++ q ∷ []) → Few (taken_requests past)
few_before past q h r = let a = many_append r (taken_requests past) (q ∷ []) in let b = h r in omega (arith, a, b)

few_with : (past : List Act) (q : Request) → Few (taken_requests past ++ q ∷ []) → Few (in_hand past ++ q ∷ [])
few_with past q h r =
    let a = many_append r (taken_requests past) (q ∷ []) in
    let b = many_append r (in_hand past) (q ∷ []) in
    let c = hand_few r past in
    let e = h r in
    omega (arith, a, b, c, e)

-- ## A mark, and data

same_stand : (o b e : Bool) → o ≡ false → e ≡ false → (o || (b && not e)) ≡ b
same_stand false true false h k = refl
same_stand false false false h k = refl
same_stand true b e h k = cc
same_stand false b true h k = cc

none_and : (b : Bool) → (false || (b && false)) ≡ false
none_and true = refl
none_and false = refl

-- a frame given on leaves d open or shut as it was
pub given_open : (r : Role) (d : ℕ) (w : List station.Act) → is_open r d (station.Given ∷ w) ≡ is_open r d w
given_open r d w =
    is_open_after r d w station.Given
    ∙ same_stand (opens r (is_open r 0 w) (is_asked r d w) d station.Given) (is_open r d w) (ends (is_open r 0 w) d station.Given) (opens_by_mark r (is_open r 0 w) (is_asked r d w) d) (none_and (not (d == 0)))

given_asked : (r : Role) (d : ℕ) (w : List station.Act) → is_asked r d (station.Given ∷ w) ≡ is_asked r d w
given_asked r d w =
    same_stand false (is_asked r d w) (false || ends (is_open r 0 w) d station.Given) refl (none_and (not (d == 0)))

-- what stands as it stood keeps the commands in step
kept_same : (s : Setting) (d : ℕ) (past later : List Act) → is_open s.role d (wire later) ≡ is_open s.role d (wire past) → is_asked s.role d (wire later) ≡ is_asked s.role d (wire past)
    → accepted s.role d later ≡ accepted s.role d past → in_hand later ≡ in_hand past → answered s.dialect (marks s.role d later) ≡ answered s.dialect (marks s.role d past) → Kept s d past → Kept s d later
kept_same s d past later o k a h m kept =
    let hand : commands_for d (in_hand later) ≡ commands_for d (in_hand past) = ap (commands_for d) h in
    record {
      on = record {
        while_open = λ e.
            let i = kept.on.while_open (sym o ∙ e) in
            record { before = i.before; accepted_are = a ∙ (i.accepted_are ∙ ap (λ (v : List Request). i.before ++ v) (sym hand)); answered_are = m ∙ i.answered_are };
        while_shut = λ e. hand ∙ kept.on.while_shut (sym o ∙ e);
      };
      unasked = λ e. k ∙ kept.unasked (sym o ∙ e);
    }

kept_given : (s : Setting) (d : ℕ) (past : List Act) → Kept s d past → Kept s d (Given ∷ past)
kept_given s d past k =
    kept_same s d past (Given ∷ past) (given_open s.role d (wire past)) (given_asked s.role d (wire past))
    (if_false (opens_now s.role d (wire past) station.Given) [] (accepted s.role d past) (opens_by_mark s.role _ _ d)) refl refl k

-- a command that begins has no answer yet
pub answered_begun : (dialect : Dialect) (ms : List Mark) (c : List ℕ) → answered dialect (ms ++ Begun c ∷ []) ≡ answered dialect ms
answered_begun dialect ms c =
    ap (λ (ws : List Window). length (filter (has_final dialect) (map (answer_of dialect) ws))) (windows-begun ms c)
    ∙ (ap (λ (v : List (List (List ℕ))). length (filter (has_final dialect) v)) (map-append (answer_of dialect) (windows ms) (record { command = c; after = [] } ∷ []))
    ∙ ap length (filter-append (has_final dialect) (answers dialect ms) ([] ∷ []) ∙ append-nil (filter (has_final dialect) (answers dialect ms))))

-- nor have many that begin
pub answered_commands : (dialect : Dialect) (ms : List Mark) (qs : List Request) → answered dialect (ms ++ marks_of qs) ≡ answered dialect ms
answered_commands dialect ms [] = ap (answered dialect) (append-nil ms)
answered_commands dialect ms (q ∷ qs) =
    ap (answered dialect) (sym (append_assoc ms (Begun (line_of q) ∷ []) (marks_of qs))) ∙ (answered_commands dialect (ms ++ Begun (line_of q) ∷ []) qs ∙ answered_begun dialect ms (line_of q))

sent_answered : (dialect : Dialect) (r : Role) (d : ℕ) (past : List Act) (f : Frame) (b : Bool) → answered dialect (if b then marks r d past ++ begun_placed r d past f else marks r d past) ≡ answered dialect (marks r d past)
sent_answered dialect r d past f true = answered_commands dialect (marks r d past) _
sent_answered dialect r d past f false = refl

-- data sent on another connection than 0 leaves d open or shut as it was
pub data_open : (r : Role) (d e : ℕ) (f : Frame) (w : List station.Act) → (e == 0) ≡ false → is_open r d (station.Sent (data_on e f) ∷ w) ≡ is_open r d w
data_open r d e f w z =
    is_open_after r d w (station.Sent (data_on e f))
    ∙ same_stand (opens r (is_open r 0 w) (is_asked r d w) d (station.Sent (data_on e f))) (is_open r d w) (ends (is_open r 0 w) d (station.Sent (data_on e f)))
    (opens_by_sent r (is_open r 0 w) (is_asked r d w) d (data_on e f)) (data_ends_none (is_open r 0 w) d e f z)

data_asked : (r : Role) (d e : ℕ) (f : Frame) (w : List station.Act) → (e == 0) ≡ false → is_asked r d (station.Sent (data_on e f) ∷ w) ≡ is_asked r d w
data_asked r d e f w z =
    same_stand false (is_asked r d w) (false || ends (is_open r 0 w) d (station.Sent (data_on e f))) refl (data_ends_none (is_open r 0 w) d e f z)

-- a data frame is on another connection than 0
pub not_on_zero : (f : Frame) → is_data_frame f ≡ true → (f.dlci == 0) ≡ false
not_on_zero f h = not_true (f.dlci == 0) (and_parts _ (not (f.dlci == 0)) h).1

kept_data : (s : Setting) (d : ℕ) (past : List Act) (f : Frame) → is_data_frame f ≡ true → Kept s d past → Kept s d (Sent f ∷ past)
kept_data s d past f h k =
    let z = not_on_zero f h in
    let e = is_data f h in
    kept_same s d past (Sent f ∷ past)
    (ap (λ (g : Frame). is_open s.role d (station.Sent g ∷ wire past)) e ∙ data_open s.role d f.dlci f (wire past) z)
    (ap (λ (g : Frame). is_asked s.role d (station.Sent g ∷ wire past)) e ∙ data_asked s.role d f.dlci f (wire past) z)
    (if_false (opens_now s.role d (wire past) (station.Sent f)) [] (accepted s.role d past) (opens_by_sent s.role _ _ d f)) refl
    (sent_answered s.dialect s.role d past f (carries d f && is_open s.role d (wire past))) k

-- ## Whole histories

-- the history once what is owed has come
abbrev settled : Setting → List Act → List Act
settled s past = after past (owed s past)

-- what is owed comes
paid : (s : Setting) (d : ℕ) (past : List Act) (a : Act) → IsNext (owed s past) a → Kept s d (settled s past) → Kept s d (after (a ∷ past) (drop 1 (owed s past)))
paid s d past a n k =
    let rest : drop 1 (owed s past) ≡ n.later = ap (drop 1) n.is_next in
    subst (λ (acts : List Act). Kept s d (after (a ∷ past) acts)) (sym rest) (subst (λ (acts : List Act). Kept s d (after past acts)) n.is_next k)

-- a call begins where nothing is owed
called : (s : Setting) (d : ℕ) (past : List Act) (a : Act) → owed s past ≡ [] → Kept s d (ended s past a) → Kept s d (after (a ∷ past) (owed s past ++ calls_behind s past (owed s past) a))
called s d past a e k = subst (λ (owing : List Act). Kept s d (after (a ∷ past) (owing ++ calls_behind s past owing a))) (sym e) k

-- where nothing is owed, what is in step once all has come is so now
pub here : (s : Setting) (d : ℕ) (past : List Act) → owed s past ≡ [] → Kept s d (settled s past) → Kept s d past
here s d past e k = subst (λ (acts : List Act). Kept s d (after past acts)) e k

there : (s : Setting) (d : ℕ) (past : List Act) → owed s past ≡ [] → Kept s d past → Kept s d (settled s past)
there s d past e k = subst (λ (acts : List Act). Kept s d (after past acts)) (sym e) k

kept_sent : (s : Setting) (d : ℕ) (past : List Act) (f : Frame) (b : Bool) → is_data_frame f ≡ b → When b (Gated s past (owed s past) f) → When (not b) (IsNext (owed s past) (Sent f)) → Kept s d (settled s past)
    → Kept s d (after (Sent f ∷ past) (if b then owed s past else drop 1 (owed s past)))
kept_sent s d past f true e g n k =
    let none : owed s past ≡ [] = g.behind in
    subst (λ (acts : List Act). Kept s d (after (Sent f ∷ past) acts)) (sym none) (kept_data s d past f e (here s d past none k))
kept_sent s d past f false e g n k = paid s d past (Sent f) n k

-- in a lawful history of an initiator, of whole calls, no number twice and no loss, commands are in step once all owed has come
pub kept_all : (s : Setting) → s.role ≡ Initiator → (past : List Act) → Lawful s past → CompleteCalls s past → Few (taken_requests past) → is_lost past ≡ false → (d : ℕ) → (d == 0) ≡ false → Kept s d (settled s past)
unfolding Lawful
kept_all s r [] l c u n d z = record { on = record { while_open = λ e. absurd (let x : false ≡ true = e in cc); while_shut = λ e. refl }; unasked = λ e. absurd (let x : false ≡ true = e in cc) }
kept_all s r (Sent f ∷ past) l c u n d z =
    kept_sent s d past f (is_data_frame f) refl l.0.gated l.0.controlled (kept_all s r past l.1 c.1 u n d z)
kept_all s r (Told o ∷ past) l c u n d z = paid s d past (Told o) l.0.answered (kept_all s r past l.1 c.1 u n d z)
kept_all s r (Heard k e line ∷ past) l c u n d z = paid s d past (Heard k e line) l.0.heard (kept_all s r past l.1 c.1 u n d z)
kept_all s r (Given ∷ past) l c u n d z =
    let none = c.0 refl in
    subst (λ (acts : List Act). Kept s d (after (Given ∷ past) acts)) (sym none) (kept_given s d past (here s d past none (kept_all s r past l.1 c.1 u n d z)))
kept_all s r (Took q ∷ past) l c u n d z =
    let none = c.0 refl in
    let before = here s d past none (kept_all s r past l.1 c.1 (few_before past q u) n d z) in
    called s d past (Took q) none (kept_took s d past q n z (distinct_few (in_hand past ++ q ∷ []) (few_with past q u)) before)
kept_all s r (Got f ∷ past) l c u n d z =
    let none = c.0 refl in
    let before = here s d past none (kept_all s r past l.1 c.1 u n d z) in
    called s d past (Got f) none (kept_got s d past f r l.1 z (distinct_few (in_hand past) (few_hand past u)) before)
kept_all s r (Tick ∷ past) l c u n d z =
    let none = c.0 refl in
    called s d past Tick none (kept_tick s d past (distinct_few (in_hand past) (few_hand past u)) (here s d past none (kept_all s r past l.1 c.1 u n d z)))
kept_all s r (Held e ∷ past) l c u n d z =
    let none = c.0 refl in
    called s d past (Held e) none (kept_held s d e past (distinct_few (in_hand past) (few_hand past u)) (here s d past none (kept_all s r past l.1 c.1 u n d z)))
kept_all s r (Freed e ∷ past) l c u n d z =
    let none = c.0 refl in
    called s d past (Freed e) none (kept_freed s d e past (distinct_few (in_hand past) (few_hand past u)) (here s d past none (kept_all s r past l.1 c.1 u n d z)))
kept_all s r (Lost ∷ past) l c u n d z = absurd (let x : true ≡ false = n in cc)

-- requests of which no two have the same caller and number stand there once at most
pub few_once : (qs : List Request) → UsesOnce qs → Few qs
few_once qs h r = let a = many_filtered r qs in let b = h r in omega (arith, a, b)

-- so an initiator's commands are in step wherever nothing is owed
pub stays_in_step : (s : Setting) (past : List Act) → Lawful s past → StaysInStep s past
unfolding Complete StaysInStep
stays_in_step s past l r c u n e d z = (here s d past e (kept_all s r past l c (few_once (taken_requests past) u) n d z)).on
