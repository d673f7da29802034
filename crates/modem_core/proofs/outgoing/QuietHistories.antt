-- Where nothing more goes out a history is quiet.
use Rattle.std.specs.Prelude.{zero, suc, ◌≡◌, ℕ, ◌+◌, ◌<◌, ◌≤◌, ◌==◌, ◌&&◌, ◌||◌, ◌⊎◌, not, Bool, true, false, List, [], ◌∷◌, ◌++◌, length, take, drop, find, Option, Some, None, option_map, refl, if◌then◌else◌}
use Rattle.std.specs.List.{concat, range_with_len}
use Rattle.std.proofs.Common.{inl, inr, ap, sym, ◌∙◌, subst, arith, length-append, append-nil, eqb-true}
use Rattle.std.proofs.lemmas.Bool.{eqb-false, eq-eqb}
use Rattle.std.proofs.lemmas.Bool.Decides.{nat_tests}
use Rattle.std.proofs.lemmas.List.{length-drop, length-map, length-take-le, nil_from_length}
use Rattle.std.proofs.Math.Seq.{take-append-add}
use Rattle.mux_frame.specs.Frames.{Frame}
use Rattle.mux_station.specs.declared.role.Role.{Role}
use Rattle.mux_station.specs.declared.role.Role.TheVariants.{Initiator}
use Rattle.mux_station.specs.Opening.{is_open}
use Rattle.mux_station.specs.Stopping.{is_stopped}
use Rattle.mux_station.specs.Offering.{last_sender}
use Rattle.mux_station.specs.Sending.{queue}
use Rattle.mux_station.specs.GivenFrames.{with_freshness}
use Rattle.at_text.specs.Dialects.{Dialect}
use Rattle.at_text.specs.Windows.{Window, answered, open_window}
use Rattle.modem_desk.specs.declared.request.Request.{Request}
use Rattle.modem_history.specs.Acts.{Act, wire, in_hand}
use Rattle.modem_history.specs.Information.{accepted, texts, information_out, line_of}
use Rattle.modem_history.specs.Placing.{marks, whole_in, whole_after}
use Rattle.modem_history.specs.Calls.{Setting, is_lost}
use Rattle.modem_history.specs.Begun.{begun_count}
use Rattle.modem_history.specs.Lawful.{Lawful, Quiet, is_quiet_on}
use Rattle.modem_history.specs.Wholes.{InStep, commands_for, StaysInStep}
use Rattle.modem_history.proofs.commands.BegunCommands.{kept, begun_counted, texts_counted}
use Rattle.modem_history.proofs.commands.CommandOrder.{counts, open_count}
use Rattle.modem_history.proofs.requests.StepsOfHistory.{stays_in_step}
use Rattle.modem_history.proofs.commands.TextCounts.{whole_front, texts_filled, whole_one}
use Rattle.modem_history.proofs.commands.WholeTexts.{whole_few, whole_more}
use Rattle.modem_history.proofs.connections.ShutAfterLoss.{none_open}
use Rattle.modem_core.specs.Cores.{IsRun}
use Rattle.modem_history.specs.GoingOut.{data_of, waits_on, may_send, from_on, else_by, next_to_send, out_by, next_out}
use Rattle.modem_core.proofs.commands.SentTexts.{texts_both}

-- ## No connection is ready

find_none : (test : ℕ → Bool) (a n d : ℕ) → find test (range_with_len a n) ≡ None → a ≤ d → d < a + n → test d ≡ false
find_none test a zero d h low high = let x : ⊥ = omega arith in absurd x
find_none test a (suc n) d h low high = by_test (test a) refl (λ k l. find_none test (a + 1) n d k l (omega arith))
  where
    at_first : (b : Bool) → (d == a) ≡ b → test a ≡ false → (a + 1 ≤ d → test d ≡ false) → test d ≡ false
    at_first true e t later = let same : d ≡ a = grind (arith, nat_tests) in subst (λ (x : ℕ). test x ≡ false) (sym same) t
    at_first false e t later = let x = eqb-false d a e in later (omega arith)

    by_test : (b : Bool) → test a ≡ b → (find test (range_with_len (a + 1) n) ≡ None → a + 1 ≤ d → test d ≡ false) → test d ≡ false
    by_test true t later = let x : Some a ≡ None = ap (λ (b : Bool). if b then Some a else find test (range_with_len (a + 1) n)) (sym t) ∙ h in cc
    by_test false t later = at_first (d == a) refl t (later (ap (λ (b : Bool). if b then Some a else find test (range_with_len (a + 1) n)) (sym t) ∙ h))

else_none : (a b : Option ℕ) → else_by a b ≡ None → b ≡ None
else_none None b h = h
else_none (Some d) b h = cc

no_turn : (dialect : Dialect) (r : Role) (past : List Act) (d : ℕ) → next_to_send dialect r past ≡ None → 1 ≤ d → d < 62 → may_send dialect r past d ≡ false
no_turn dialect r past d h low high =
    find_none (may_send dialect r past) 1 61 d (else_none (find (may_send dialect r past) (from_on (last_sender (wire past) + 1))) (find (may_send dialect r past) (from_on 1)) h) low (omega arith)

-- an open connection that goes has nothing that waits
waits_none : (a b c : Bool) → (a && (not b && not c)) ≡ false → a ≡ true → b ≡ false → c ≡ true
waits_none true false true h i j = refl
waits_none true false false h i j = cc
waits_none false b c h i j = cc
waits_none true true c h i j = cc

-- ## Its command is wholly sent

whole_of : (before later : List Request) (c : Request) (n : ℕ) → length (concat (texts (before ++ c ∷ []))) ≤ n → length before + 1 ≤ whole_in n (texts (before ++ c ∷ later))
whole_of before later c n h =
    let t = line_of c ++ 13 ∷ [] in
    let front : texts (before ++ c ∷ []) ≡ texts before ++ t ∷ [] = texts_both before (c ∷ []) in
    let all : texts (before ++ c ∷ later) ≡ texts before ++ t ∷ texts later = texts_both before (c ∷ later) in
    let joined : length (concat (texts (before ++ c ∷ []))) ≡ length (concat (texts before)) + length t
    = ap (λ (ts : List (List ℕ)). length (concat ts)) front ∙ joins (texts before) t in
    let here : whole_in (length (concat (texts before)) + length t) (texts before ++ t ∷ texts later) ≡ length (texts before) + 1
    = whole_front (texts before) (t ∷ texts later) (length t) ∙ ap (λ (k : ℕ). length (texts before) + k) (whole_one t (texts later) (texts_filled later)) in
    let more = whole_more (length (concat (texts before)) + length t) n (texts before ++ t ∷ texts later) (omega (arith, h, joined)) in
    let count = texts_counted before in
    subst (λ (ts : List (List ℕ)). length before + 1 ≤ whole_in n ts) (sym all) (omega (arith, here, more, count))
  where
    joins : (ts : List (List ℕ)) (t : List ℕ) → length (concat (ts ++ t ∷ [])) ≡ length (concat ts) + length t
    joins [] t = let k = length-append t [] in omega (arith, k)
    joins (u ∷ ts) t = length-append u (concat (ts ++ t ∷ [])) ∙ (let k = joins ts t in let m = length-append u (concat ts) in omega (arith, k, m))

one_or_all : (a b : Bool) → (a ≡ true) ⊎ (b ≡ true) → (a || b) ≡ true
one_or_all true b h = refl
one_or_all false true h = refl
one_or_all false false (inl h) = h
one_or_all false false (inr h) = h

few_open : (o : Option Window) → open_count o ≤ 1
few_open None = omega arith
few_open (Some w) = omega arith

quiet_command : (s : Setting) (past : List Act) (d : ℕ) → Lawful s past → (i : InStep s d past) → waits_on s.dialect s.role d past ≡ [] → (c : Request) (later : List Request) → commands_for d (in_hand past) ≡ c ∷ later
    → whole_in (length (information_out s.role d past)) (texts (accepted s.role d past)) ≡ answered s.dialect (marks s.role d past) + 1
quiet_command s past d l i w c later e =
    let k = kept s past l d in
    let ms = marks s.role d past in
    let out = information_out s.role d past in
    let acc = accepted s.role d past in
    let qs : acc ≡ i.before ++ c ∷ later = i.accepted_are ∙ ap (λ (v : List Request). i.before ++ v) e in
    let front : take (answered s.dialect ms + 1) acc ≡ i.before ++ c ∷ [] = ap (λ (n : ℕ). take (n + 1) acc) i.answered_are ∙ (ap (take (length i.before + 1)) qs ∙ take-append-add i.before (c ∷ later) 1) in
    let none : drop (length out) (concat (texts (i.before ++ c ∷ []))) ≡ [] = ap (λ (v : List Request). drop (length out) (concat (texts v))) (sym front) ∙ w in
    let size = sym (length-drop (length out) (concat (texts (i.before ++ c ∷ [])))) ∙ ap length none in
    let least : length i.before + 1 ≤ whole_in (length out) (texts acc)
    = subst (λ (v : List Request). length i.before + 1 ≤ whole_in (length out) (texts v)) (sym qs) (whole_of i.before later c (length out) (omega (arith, size))) in
    let few : whole_in (length out) (texts acc) ≤ length acc = let f = whole_few (length out) (texts acc) in let t = texts_counted acc in omega (arith, f, t) in
    let began : begun_count ms ≡ whole_in (length out) (texts acc)
    = sym (begun_counted ms) ∙ (ap length k.first ∙ (length-map (whole_after (length out) acc) line_of ∙ length-take-le (whole_in (length out) (texts acc)) acc few)) in
    let all = counts s.dialect ms k.turns.order in
    let one = few_open (open_window s.dialect ms) in
    let given = i.answered_are in
    omega (arith, least, began, all, one, given)

quiet_here : (s : Setting) (past : List Act) (d : ℕ) → Lawful s past → (i : InStep s d past) → waits_on s.dialect s.role d past ≡ [] → (cs : List Request) → commands_for d (in_hand past) ≡ cs → is_quiet_on s d past ≡ true
quiet_here s past d l i w [] e =
    let qs : accepted s.role d past ≡ i.before = i.accepted_are ∙ (ap (λ (v : List Request). i.before ++ v) e ∙ append-nil i.before) in
    let count : length (texts (accepted s.role d past)) ≡ answered s.dialect (marks s.role d past) = texts_counted (accepted s.role d past) ∙ (ap length qs ∙ sym i.answered_are) in
    one_or_all (length (texts (accepted s.role d past)) == answered s.dialect (marks s.role d past)) _ (inl (eq-eqb _ _ count))
quiet_here s past d l i w (c ∷ later) e =
    one_or_all (length (texts (accepted s.role d past)) == answered s.dialect (marks s.role d past)) _ (inr (eq-eqb _ _ (quiet_command s past d l i w c later e)))

queue_none : (s : Setting) (past : List Act) (fs : List Frame) → out_by s past fs ≡ None → next_to_send s.dialect s.role past ≡ None
queue_none s past (f ∷ fs) h = cc
queue_none s past [] h = by_turn (next_to_send s.dialect s.role past) h
  where
    by_turn : (o : Option ℕ) → option_map (λ (d : ℕ). with_freshness true (data_of s past d)) o ≡ None → o ≡ None
    by_turn None h = refl
    by_turn (Some d) h = cc

-- nothing goes out of a history of whole calls: it is quiet
pub drained_quiet : (s : Setting) (past : List Act) → s.role ≡ Initiator → IsRun s past → next_out s past ≡ None → Quiet s past
unfolding Quiet StaysInStep
drained_quiet s past r run h d small z o stopped = by_loss (is_lost past) refl
  where
    by_loss : (b : Bool) → is_lost past ≡ b → is_quiet_on s d past ≡ true
    by_loss true n = let x : true ≡ false = sym o ∙ none_open s d past r run.lawful n in cc
    by_loss false n =
        let none : out_by s past (queue (wire past)) ≡ None = ap (λ (b : Bool). if b then None else out_by s past (queue (wire past))) (sym n) ∙ h in
        let turn = queue_none s past (queue (wire past)) none in
        let x = eqb-false d 0 z in
        let unready = no_turn s.dialect s.role past d turn (omega arith) small in
        let empty = waits_none (is_open s.role d (wire past)) (is_stopped s.role d (wire past)) (length (waits_on s.dialect s.role d past) == 0) unready o stopped in
        let i = (stays_in_step s past run.lawful r run.whole run.numbers n run.complete d z).while_open o in
        quiet_here s past d run.lawful i (nil_from_length (waits_on s.dialect s.role d past) (eqb-true (length (waits_on s.dialect s.role d past)) 0 empty)) (commands_for d (in_hand past)) refl
