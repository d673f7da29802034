-- The rows of the three rules, computed.
use Rattle.std.specs.Prelude.{◌≡◌, ℕ, ◌<◌, ◌&&◌, ◌||◌, Bool, true, false, List, [], ◌∷◌, ◌++◌, drop, map, flat_map, refl, Option, Some, None}
use Rattle.std.specs.List.{list_all}
use Rattle.std.specs.Str.{bytes_eq}
use Rattle.std.proofs.Common.{ap, sym, ◌∙◌, subst, arith, lit≤}
use Rattle.std.proofs.lemmas.Bool.{and_parts, and_from}
use Rattle.mux_frame.specs.Frames.{Frame}
use Rattle.mux_station.specs.Written.{is_data_frame}
use Rattle.mux_station.specs.GivenFrames.{Outgoing, with_freshness}
use Rattle.modem_history.specs.Acts.{Act, Took, Got, Sent, Told, Heard, Tick, Lost, Held, Freed, Given, after}
use Rattle.modem_history.specs.Calls.{Setting, calls, replaying}
use Rattle.modem_history.specs.Lawful.{When, owed}
use Rattle.modem_history.specs.GoingOut.{SendsInTurn, next_out, after_out}
use Rattle.modem_history.specs.Wholes.{CompleteCalls, is_said}
use Rattle.modem_history.specs.Rows.{AllAre, IsRefused, IsIncomplete}
use Rattle.modem_history.specs.GoodRows.{good_rows}
use Rattle.modem_history.specs.BadRows.{refused_rows, incomplete_rows}
use Rattle.modem_history.specs.Rules.{Made, may_begin, nothing, call}
use Rattle.modem_history.specs.RuleRows.{IsMade, IsUnmade, unmade_rows, told_behind_the_next, given_inside_a_call, lost_inside_a_call, half_a_command, out_of_turn, taken_past_128}
use Rattle.modem_history.proofs.rules.MadeLaws.{laws_of, made_after_out}
use Rattle.modem_history.proofs.rows.HistoryTests.{Step, Call, Data, Mark, steps_of, is_nil, act_code}
use Rattle.modem_history.proofs.rows.BadRowFacts.{all_refused, all_incomplete}
use Rattle.modem_history.proofs.rows.SessionTests.{calls_test, data_out, one_out, next_outs, one_next, octets_differ}

-- ## Histories that the rules make

-- the calls of a history, and between them whatever goes out next
abbrev pub step_by_rule : Setting → List Act → Step → List Act
step_by_rule s past (Call a) = after past (a ∷ calls s past a)
step_by_rule s past (Data d info) = after_out s past
step_by_rule s past Mark = after_out s past

-- a call may begin there; data and marks take whatever goes out next
abbrev pub may_step : Setting → List Act → Step → Bool
may_step s past (Call a) = may_begin s past a
may_step s past (Data d info) = true
may_step s past Mark = true

-- the past after these steps, each by its rule
abbrev pub run_by_rules : Setting → List Act → List Step → List Act
run_by_rules s past [] = past
run_by_rules s past (x ∷ xs) = run_by_rules s (step_by_rule s past x) xs

-- each step may follow what went before it
abbrev pub may_run : Setting → List Act → List Step → Bool
may_run s past [] = true
may_run s past (x ∷ xs) = may_step s past x && may_run s (step_by_rule s past x) xs

step_made : (s : Setting) (past : List Act) (x : Step) → may_step s past x ≡ true → Made s past → Made s (step_by_rule s past x)
step_made s past (Call a) h m = call past a m h
step_made s past (Data d info) h m = made_after_out s past m
step_made s past Mark h m = made_after_out s past m

run_made : (s : Setting) (past : List Act) (xs : List Step) → may_run s past xs ≡ true → Made s past → Made s (run_by_rules s past xs)
run_made s past [] h m = m
run_made s past (x ∷ xs) h m =
    let parts = and_parts (may_step s past x) (may_run s (step_by_rule s past x) xs) h in
    run_made s (step_by_rule s past x) xs parts.1 (step_made s past x parts.0 m)

-- the steps of these acts may be run by the rules, with N1 31
abbrev pub may_be_run : List Act → Bool
may_be_run acts = may_run (replaying 31) [] (steps_of acts)

-- the history that they make there
abbrev pub run_of : List Act → List Act
run_of acts = run_by_rules (replaying 31) [] (steps_of acts)

abbrev first_of_rows : List (List Act) → List Act
first_of_rows [] = []
first_of_rows (row ∷ rows) = row

-- histories that come out where they are run by the rules
made_rows : (rows : List (List Act)) → list_all may_be_run rows ≡ true → map run_of rows ≡ map (after []) rows → AllAre IsMade rows
made_rows [] h e = tt
made_rows (row ∷ rows) h e =
    let parts = and_parts (may_be_run row) (list_all may_be_run rows) h in
    let same : run_of row ≡ after [] row = ap first_of_rows e in
    (subst (Made (replaying 31)) same (run_made (replaying 31) [] (steps_of row) parts.0 (nothing (lit≤ tt))), made_rows rows parts.1 (ap (λ (xs : List (List Act)). drop 1 xs) e))

-- the rules make each of the good histories
pub all_made : AllAre IsMade good_rows
all_made = made_rows good_rows refl refl

-- ## Histories that they don't make

refused_unmade : (rows : List (List Act)) → AllAre IsRefused rows → AllAre IsUnmade rows
refused_unmade [] h = tt
refused_unmade (row ∷ rows) h = ((λ m. let k = laws_of m in h.0 k.lawful), refused_unmade rows h.1)

incomplete_unmade : (rows : List (List Act)) → AllAre IsIncomplete rows → AllAre IsUnmade rows
incomplete_unmade [] h = tt
incomplete_unmade (row ∷ rows) h = ((λ m. let k = laws_of m in h.0 k.complete), incomplete_unmade rows h.1)

-- they make none of the refused ones
pub none_refused : AllAre IsUnmade refused_rows
none_refused = refused_unmade refused_rows all_refused

-- and none of the incomplete ones
pub none_incomplete : AllAre IsUnmade incomplete_rows
none_incomplete = incomplete_unmade incomplete_rows all_incomplete

-- ## Calls that are broken into

clash : false ≡ true → ⊥
clash e = cc

nil_unless : (said : Bool) (owing : List Act) → (said ≡ false → owing ≡ []) → (said || is_nil owing) ≡ true
nil_unless true owing h = refl
nil_unless false owing h = ap (λ (acts : List Act). is_nil acts) (h refl)

whole_calls : (s : Setting) (past : List Act) → CompleteCalls s past → calls_test s past ≡ true
whole_calls s [] c = refl
whole_calls s (a ∷ past) c = and_from (is_said a || is_nil (owed s past)) (calls_test s past) (nil_unless (is_said a) (owed s past) c.0) (whole_calls s past c.1)

broken : (acts : List Act) → calls_test (replaying 31) (after [] acts) ≡ false → IsUnmade acts
broken acts h m = clash (sym h ∙ whole_calls (replaying 31) (after [] acts) (laws_of m).calls)

-- ## Data out of turn

one_sent : (s : Setting) (past : List Act) (f : Frame) (b : Bool) → When b (next_out s past ≡ Some (with_freshness true f)) → data_out past ≡ next_outs s past
    → one_out f b ++ data_out past ≡ one_next s past b ++ next_outs s past
one_sent s past f true next e = ap (λ (o : Option Outgoing). o ∷ data_out past) (sym next) ∙ ap (λ (os : List (Option Outgoing)). next_out s past ∷ os) e
one_sent s past f false next e = e

outs_in_turn : (s : Setting) (past : List Act) → SendsInTurn s past → data_out past ≡ next_outs s past
outs_in_turn s [] t = refl
outs_in_turn s (Sent f ∷ past) t = one_sent s past f (is_data_frame f) t.0 (outs_in_turn s past t.1)
outs_in_turn s (Took r ∷ past) t = outs_in_turn s past t.1
outs_in_turn s (Got f ∷ past) t = outs_in_turn s past t.1
outs_in_turn s (Told o ∷ past) t = outs_in_turn s past t.1
outs_in_turn s (Heard k d line ∷ past) t = outs_in_turn s past t.1
outs_in_turn s (Tick ∷ past) t = outs_in_turn s past t.1
outs_in_turn s (Lost ∷ past) t = outs_in_turn s past t.1
outs_in_turn s (Held d ∷ past) t = outs_in_turn s past t.1
outs_in_turn s (Freed d ∷ past) t = outs_in_turn s past t.1
outs_in_turn s (Given ∷ past) t = outs_in_turn s past t.1

-- numbers of a frame that goes out; none where none does
abbrev pub out_code : Option Outgoing → List ℕ
out_code None = []
out_code (Some o) = act_code (Sent o.frame)

-- numbers of all of them, joined
abbrev pub outs_code : List (Option Outgoing) → List ℕ
outs_code os = flat_map out_code os

untimely : (acts : List Act) → bytes_eq (outs_code (data_out (after [] acts))) (outs_code (next_outs (replaying 31) (after [] acts))) ≡ false → IsUnmade acts
untimely acts h m =
    octets_differ (outs_code (data_out (after [] acts))) (outs_code (next_outs (replaying 31) (after [] acts))) h
    (ap outs_code (outs_in_turn (replaying 31) (after [] acts) (laws_of m).in_turn))

-- ## A request past the bound

taken_past_128_unmade : IsUnmade taken_past_128
taken_past_128_unmade m = let few : 128 < 128 = (laws_of m).room.0 in omega (arith, few)

-- the rules make none of the histories that are broken into, out of turn or past the bound
pub all_unmade : AllAre IsUnmade unmade_rows
all_unmade = (
  broken told_behind_the_next refl,
  (
    broken given_inside_a_call refl,
    (broken lost_inside_a_call refl, (untimely half_a_command refl, (untimely out_of_turn refl, (taken_past_128_unmade, tt)))),
  ),
)
