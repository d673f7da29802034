-- How many final codes and command lines are among lines.
use Rattle.std.specs.Prelude.{◌≡◌, ℕ, ◌+◌, ◌≤◌, ◌||◌, Bool, true, false, List, [], ◌∷◌, ◌++◌, length, filter, Option, Some, None, is_none, refl, if◌then◌else◌}
use Rattle.std.specs.List.{flat_map}
use Rattle.std.proofs.Common.{ap, arith, ◌∙◌}
use Rattle.std.proofs.lemmas.List.{length-append}
use Rattle.std.proofs.lemmas.List.Elements.{filter-append}
use Rattle.at_text.specs.declared.unsolicited.UrcKind.{UrcKind}
use Rattle.at_text.specs.declared.window.Seen.{Seen}
use Rattle.at_text.specs.declared.window.Seen.TheVariants.{Echo, Kept, Done, Unsolicited, Other}
use Rattle.at_text.specs.Commands.{refusal_of}
use Rattle.at_text.specs.Dialects.{Dialect, is_solicited}
use Rattle.at_text.specs.Lines.{kept_run, lines}
use Rattle.at_text.specs.Windows.{Mark, Line, Begun, IsInTurn, answered, answers, has_final, lines_of, open_window}
use Rattle.at_text.specs.Seeing.{by_kind, seen_from, solicited_in}
use Rattle.at_text.specs.Whole.{parts}
use Rattle.at_text.proofs.lines.UnfinishedLines.{reads_on}
use Rattle.at_text.proofs.windows.AllLines.{none_lost}
use Rattle.modem_history.specs.Wholes.{IsPrefixOf}
use Rattle.show_laws.specs.Talks.{commands_in, finals_in}
use Rattle.show_laws.proofs.counts.ManyFrames.{unit}

-- one line more
pub counted : (b : Bool) (l : List ℕ) (xs : List (List ℕ)) → length (if b then l ∷ xs else xs) ≡ unit b + length xs
counted true l xs = omega arith
counted false l xs = omega arith

-- the final codes of two lists of lines add up
pub finals_both : (dialect : Dialect) (xs ys : List (List ℕ)) → finals_in dialect (xs ++ ys) ≡ finals_in dialect xs + finals_in dialect ys
finals_both dialect xs ys =
    ap (λ (ls : List (List ℕ)). length (filter dialect.is_final ls)) (filter-append (is_solicited dialect) xs ys)
    ∙ (ap length (filter-append dialect.is_final (filter (is_solicited dialect) xs) (filter (is_solicited dialect) ys))
    ∙ length-append (filter dialect.is_final (filter (is_solicited dialect) xs)) (filter dialect.is_final (filter (is_solicited dialect) ys)))

-- so do the command lines
pub commands_both : (xs ys : List (List ℕ)) → commands_in (xs ++ ys) ≡ commands_in xs + commands_in ys
commands_both xs ys =
    ap length (filter-append (λ (l : List ℕ). is_none (refusal_of l)) xs ys) ∙ length-append (filter (λ (l : List ℕ). is_none (refusal_of l)) xs) (filter (λ (l : List ℕ). is_none (refusal_of l)) ys)

-- no more lines are command lines than there are
pub commands_few : (ls : List (List ℕ)) → commands_in ls ≤ length ls
commands_few [] = omega arith
commands_few (l ∷ ls) = let e = counted (is_none (refusal_of l)) l (filter (λ (x : List ℕ). is_none (refusal_of x)) ls) in let u = one (is_none (refusal_of l)) in let k = commands_few ls in omega (arith, e, u, k)
  where
    one : (b : Bool) → unit b ≤ 1
    one true = omega arith
    one false = omega arith

-- the lines of a text that goes on are those of the text, and those that end later
pub lines_go_on : (x y : List ℕ) → lines (x ++ y) ≡ lines x ++ lines (kept_run x ++ y)
lines_go_on x y = (reads_on x y).reads_kept

-- and so their final codes add up
pub finals_go_on : (dialect : Dialect) (x y : List ℕ) → finals_in dialect (lines (x ++ y)) ≡ finals_in dialect (lines x) + finals_in dialect (lines (kept_run x ++ y))
finals_go_on dialect x y = ap (finals_in dialect) (lines_go_on x y) ∙ finals_both dialect (lines x) (lines (kept_run x ++ y))

-- and their command lines
pub commands_go_on : (x y : List ℕ) → commands_in (lines (x ++ y)) ≡ commands_in (lines x) + commands_in (lines (kept_run x ++ y))
commands_go_on x y = ap commands_in (lines_go_on x y) ∙ commands_both (lines x) (lines (kept_run x ++ y))

-- the beginning of a text has no more of them
pub finals_first : (dialect : Dialect) (x y : List ℕ) → IsPrefixOf x y → finals_in dialect (lines x) ≤ finals_in dialect (lines y)
finals_first dialect x y p =
    let e : finals_in dialect (lines (x ++ p.rest)) ≡ finals_in dialect (lines y) = ap (λ (z : List ℕ). finals_in dialect (lines z)) p.joins in
    let k = finals_go_on dialect x p.rest in
    omega (arith, e, k)

-- nor more command lines
pub commands_first : (x y : List ℕ) → IsPrefixOf x y → commands_in (lines x) ≤ commands_in (lines y)
commands_first x y p =
    let e : commands_in (lines (x ++ p.rest)) ≡ commands_in (lines y) = ap (λ (z : List ℕ). commands_in (lines z)) p.joins in
    let k = commands_go_on x p.rest in
    omega (arith, e, k)

-- ## Answers among marks

-- the final codes of lines that aren't unsolicited
abbrev finals : Dialect → List (List ℕ) → ℕ
finals dialect ls = length (filter dialect.is_final ls)

one_line : (dialect : Dialect) (l : List ℕ) (xs : List (List ℕ)) → finals dialect (l ∷ xs) ≡ unit (dialect.is_final l) + finals dialect xs
one_line dialect l xs = counted (dialect.is_final l) l (filter dialect.is_final xs)

head_part : (dialect : Dialect) (l : List ℕ) (o : Option UrcKind) (x : Seen) (ls some : List (List ℕ)) (ss : List Seen) → finals dialect (parts ls ss) ≤ finals dialect some → finals dialect (parts (l ∷ ls) (by_kind o x ∷ ss)) ≤ finals dialect (if is_none o then l ∷ some else some)
head_part dialect l (Some kind) x ls some ss h = h
head_part dialect l None Echo ls some ss h = let more = one_line dialect l some in omega (arith, more, h)
head_part dialect l None Kept ls some ss h = let more = one_line dialect l some in let less = one_line dialect l (parts ls ss) in omega (arith, more, less, h)
head_part dialect l None (Done a) ls some ss h = let more = one_line dialect l some in let less = one_line dialect l (parts ls ss) in omega (arith, more, less, h)
head_part dialect l None (Unsolicited k) ls some ss h = let more = one_line dialect l some in omega (arith, more, h)
head_part dialect l None Other ls some ss h = let more = one_line dialect l some in omega (arith, more, h)

fewer_parts : (dialect : Dialect) (past ms : List Mark) → finals dialect (parts (lines_of ms) (seen_from dialect past ms)) ≤ finals dialect (filter (is_solicited dialect) (lines_of ms))
fewer_parts dialect past [] = omega arith
fewer_parts dialect past (Line l ∷ ms) =
    head_part dialect l (dialect.kind_of l) (solicited_in dialect (open_window dialect past) l) (lines_of ms) (filter (is_solicited dialect) (lines_of ms)) (seen_from dialect (past ++ Line l ∷ []) ms) (fewer_parts dialect (past ++ Line l ∷ []) ms)
fewer_parts dialect past (Begun c ∷ ms) = fewer_parts dialect (past ++ Begun c ∷ []) ms

some_final : (dialect : Dialect) (ls : List (List ℕ)) → has_final dialect ls ≡ true → 1 ≤ finals dialect ls
some_final dialect [] is = cc
some_final dialect (l ∷ ls) is = by_final (dialect.is_final l) refl is (some_final dialect ls)
  where
    by_final : (b : Bool) → dialect.is_final l ≡ b → (b || has_final dialect ls) ≡ true → (has_final dialect ls ≡ true → 1 ≤ finals dialect ls) → 1 ≤ finals dialect (l ∷ ls)
    by_final true e h rest = let more = one_line dialect l ls in let u : unit (dialect.is_final l) ≡ 1 = ap unit e in omega (arith, more, u)
    by_final false e h rest = let more = one_line dialect l ls in let k = rest h in omega (arith, more, k)

answered_finals : (dialect : Dialect) (given : List (List (List ℕ))) → length (filter (has_final dialect) given) ≤ finals dialect (flat_map (λ ls. ls) given)
answered_finals dialect [] = omega arith
answered_finals dialect (a ∷ given) = by_final (has_final dialect a) refl (answered_finals dialect given)
  where
    both : finals dialect (a ++ flat_map (λ (ls : List (List ℕ)). ls) given) ≡ finals dialect a + finals dialect (flat_map (λ ls. ls) given)
    both = ap length (filter-append dialect.is_final a (flat_map (λ (ls : List (List ℕ)). ls) given)) ∙ length-append (filter dialect.is_final a) (filter dialect.is_final (flat_map (λ (ls : List (List ℕ)). ls) given))

    by_final : (b : Bool) → has_final dialect a ≡ b → length (filter (has_final dialect) given) ≤ finals dialect (flat_map (λ ls. ls) given)
        → length (if b then a ∷ filter (has_final dialect) given else filter (has_final dialect) given) ≤ finals dialect (a ++ flat_map (λ (ls : List (List ℕ)). ls) given)
    by_final true e rest = let some = some_final dialect a e in let k = both in omega (arith, some, k, rest)
    by_final false e rest = let k = both in omega (arith, k, rest)

-- each answer that is whole has its final code among the lines
pub answered_few : (dialect : Dialect) (ms : List Mark) → IsInTurn dialect ms → answered dialect ms ≤ finals_in dialect (lines_of ms)
answered_few dialect ms turns =
    let whole = none_lost dialect ms turns in
    let few = answered_finals dialect (answers dialect ms) in
    let same : finals dialect (parts (lines_of ms) (seen_from dialect [] ms)) ≡ finals dialect (flat_map (λ (ls : List (List ℕ)). ls) (answers dialect ms)) = ap (finals dialect) whole.joined in
    let less = fewer_parts dialect [] ms in
    omega (arith, few, same, less)
