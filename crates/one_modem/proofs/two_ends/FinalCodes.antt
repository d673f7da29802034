-- Final codes among the lines of a connection, and answers that end with them.
use Rattle.std.specs.Prelude.{◌≡◌, ℕ, ◌+◌, ◌≤◌, ◌||◌, Bool, true, false, List, [], ◌∷◌, ◌++◌, length, filter, Option, Some, None, is_none, refl, if◌then◌else◌}
use Rattle.std.specs.List.{flat_map, list_any}
use Rattle.std.specs.Str.{bytes_eq}
use Rattle.std.proofs.Common.{arith, sym, ap, ◌∙◌, append-nil}
use Rattle.std.proofs.lemmas.Bool.{or_parts}
use Rattle.std.proofs.lemmas.List.{length-append}
use Rattle.std.proofs.lemmas.List.Elements.{filter-append}
use Rattle.at_text.specs.declared.unsolicited.UrcKind.{UrcKind}
use Rattle.at_text.specs.declared.window.Seen.{Seen}
use Rattle.at_text.specs.declared.window.Seen.TheVariants.{Echo, Kept, Done, Unsolicited, Other}
use Rattle.at_text.specs.Dialects.{standard, is_solicited}
use Rattle.at_text.specs.Finals.{is_final}
use Rattle.at_text.specs.Unsolicited.{unsolicited_of}
use Rattle.at_text.specs.Windows.{Mark, Line, Begun, IsInTurn, lines_of, without_echo, up_to_final, answer, answers, answered, has_final, open_window}
use Rattle.at_text.specs.Seeing.{by_kind, seen_from, solicited_in}
use Rattle.at_text.specs.Whole.{parts}
use Rattle.at_text.proofs.windows.AllLines.{none_lost}
use Rattle.modem_sim.specs.Replied.{all_of}
use Rattle.modem_history.specs.Wholes.{IsPrefixOf}

-- ## How many there are

-- how many of these lines are final codes
abbrev pub finals : List (List ℕ) → ℕ
finals ls = length (filter is_final ls)

-- in two lists they add up
pub finals-append : (xs ys : List (List ℕ)) → finals (xs ++ ys) ≡ finals xs + finals ys
finals-append xs ys = ap length (filter-append is_final xs ys) ∙ length-append (filter is_final xs) (filter is_final ys)

-- one more line
counted : (b : Bool) (l : List ℕ) (xs : List (List ℕ)) → length (if b then l ∷ xs else xs) ≡ (if b then 1 else 0) + length xs
counted true l xs = omega arith
counted false l xs = omega arith

one_line : (l : List ℕ) (xs : List (List ℕ)) → finals (l ∷ xs) ≡ (if is_final l then 1 else 0) + finals xs
one_line l xs = counted (is_final l) l (filter is_final xs)

-- of lines that are part of an answer there are no more than of those that aren't unsolicited
head_part : (l : List ℕ) (o : Option UrcKind) (x : Seen) (ls some : List (List ℕ)) (ss : List Seen) → finals (parts ls ss) ≤ finals some → finals (parts (l ∷ ls) (by_kind o x ∷ ss)) ≤ finals (if is_none o then l ∷ some else some)
head_part l (Some kind) x ls some ss h = h
head_part l None Echo ls some ss h = let more = one_line l some in omega arith
head_part l None Kept ls some ss h = let more = one_line l some in let less = one_line l (parts ls ss) in omega arith
head_part l None (Done a) ls some ss h = let more = one_line l some in let less = one_line l (parts ls ss) in omega arith
head_part l None (Unsolicited k) ls some ss h = let more = one_line l some in omega arith
head_part l None Other ls some ss h = let more = one_line l some in omega arith

fewer_parts : (past ms : List Mark) → finals (parts (lines_of ms) (seen_from standard past ms)) ≤ finals (filter (is_solicited standard) (lines_of ms))
fewer_parts past [] = omega arith
fewer_parts past (Line l ∷ ms) =
    head_part l (unsolicited_of l) (solicited_in standard (open_window standard past) l) (lines_of ms) (filter (is_solicited standard) (lines_of ms)) (seen_from standard (past ++ Line l ∷ []) ms) (fewer_parts (past ++ Line l ∷ []) ms)
fewer_parts past (Begun c ∷ ms) = fewer_parts (past ++ Begun c ∷ []) ms

-- where some line is a final code one is counted at least
pub some_final : (ls : List (List ℕ)) → list_any is_final ls ≡ true → 1 ≤ finals ls
some_final [] is = cc
some_final (l ∷ ls) is = by_final (is_final l) refl (some_final ls)
  where
    by_final : (b : Bool) → is_final l ≡ b → (list_any is_final ls ≡ true → 1 ≤ finals ls) → 1 ≤ length (if b then l ∷ filter is_final ls else filter is_final ls)
    by_final true e rest = let more = counted true l (filter is_final ls) in omega arith
    by_final false e rest = rest (let same : list_any is_final (l ∷ ls) ≡ list_any is_final ls = rw e refl in sym same ∙ is)

answered_finals : (given : List (List (List ℕ))) → length (filter (has_final standard) given) ≤ finals (flat_map (λ ls. ls) given)
answered_finals [] = omega arith
answered_finals (a ∷ given) =
    let both = finals-append a (flat_map (λ (ls : List (List ℕ)). ls) given) in
    by_final (has_final standard a) refl both (answered_finals given)
  where
    by_final : (b : Bool) → has_final standard a ≡ b → finals (a ++ flat_map (λ (ls : List (List ℕ)). ls) given) ≡ finals a + finals (flat_map (λ ls. ls) given) → length (filter (has_final standard) given) ≤ finals (flat_map (λ (ls : List (List ℕ)). ls) given)
        → length (if b then a ∷ filter (has_final standard) given else filter (has_final standard) given) ≤ finals (a ++ flat_map (λ (ls : List (List ℕ)). ls) given)
    by_final true e both rest = let some = some_final a e in omega arith
    by_final false e both rest = omega arith

-- each answer that has come has its final code among the lines that aren't unsolicited
pub answered_few : (ms : List Mark) → IsInTurn standard ms → answered standard ms ≤ finals (filter (is_solicited standard) (lines_of ms))
answered_few ms turns =
    let whole = none_lost standard ms turns in
    let few = answered_finals (answers standard ms) in
    let same : finals (parts (lines_of ms) (seen_from standard [] ms)) ≡ finals (flat_map (λ (ls : List (List ℕ)). ls) (answers standard ms)) = ap finals whole.joined in
    let less = fewer_parts [] ms in
    omega arith

-- ## Lists that end with their only final code

pub record Ends (ls : List (List ℕ)) : Type 0 where
  pub front : List (List ℕ)
  pub code : List ℕ
  pub parts : ls ≡ front ++ code ∷ []
  pub before : list_any is_final front ≡ false
  pub last : is_final code ≡ true

-- so does each of these lists
abbrev pub AllEnd : List (List (List ℕ)) → Type 0
AllEnd [] = Unit {0}
AllEnd (r ∷ rs) = Ends r × AllEnd rs

none_final : (ls : List (List ℕ)) → list_any is_final ls ≡ false → finals ls ≡ 0
none_final [] is = refl
none_final (l ∷ ls) is = by_final (is_final l) refl (none_final ls)
  where
    by_final : (b : Bool) → is_final l ≡ b → (list_any is_final ls ≡ false → finals ls ≡ 0) → length (if b then l ∷ filter is_final ls else filter is_final ls) ≡ 0
    by_final true e rest = let same : list_any is_final (l ∷ ls) ≡ true = rw e refl in let g : true ≡ false = sym same ∙ is in cc
    by_final false e rest = rest (let same : list_any is_final (l ∷ ls) ≡ list_any is_final ls = rw e refl in sym same ∙ is)

-- such a list has one final code
pub one_final : (r : List (List ℕ)) → Ends r → finals r ≡ 1
one_final r e =
    let size = finals-append e.front (e.code ∷ []) in
    let none = none_final e.front e.before in
    let last : finals (e.code ∷ []) ≡ 1 = ap (λ (b : Bool). length (if b then e.code ∷ [] else [])) e.last in
    ap finals e.parts ∙ omega arith

-- such lists have one each
pub all_finals : (rs : List (List (List ℕ))) → AllEnd rs → finals (all_of rs) ≡ length rs
all_finals [] end = refl
all_finals (r ∷ rs) end =
    let size = finals-append r (all_of rs) in
    let one = one_final r end.0 in
    let rest = all_finals rs end.1 in
    omega arith

-- a list that goes less far than another has none of its last
record Short (s r : List (List ℕ)) : Type 0 where
  next : List ℕ
  rest : List (List ℕ)
  joins : s ++ next ∷ rest ≡ r

record Far (s later r more : List (List ℕ)) : Type 0 where
  behind : List (List ℕ)
  begins : s ≡ r ++ behind
  joins : behind ++ later ≡ more

data Reach (s later r more : List (List ℕ)) : Type 0 where
  short : Short s r → Reach s later r more
  far : Far s later r more → Reach s later r more

reach : (s later r more : List (List ℕ)) → s ++ later ≡ r ++ more → Reach s later r more
reach s later [] more is = far (record { behind = s; begins = refl; joins = is })
reach [] later (x ∷ r) more is = short (record { next = x; rest = r; joins = refl })
reach (y ∷ s) later (x ∷ r) more is =
    let same : y ≡ x = cc in
    let rest : s ++ later ≡ r ++ more = cc in
    onto y x same (reach s later r more rest)
  where
    onto : (y x : List ℕ) → y ≡ x → Reach s later r more → Reach (y ∷ s) later (x ∷ r) more
    onto y x same (short h) = short (record { next = h.next; rest = h.rest; joins = ap (λ z. z ∷ (s ++ h.next ∷ h.rest)) same ∙ ap (λ zs. x ∷ zs) h.joins })
    onto y x same (far h) = far (record { behind = h.behind; begins = ap (λ z. z ∷ s) same ∙ ap (λ zs. x ∷ zs) h.begins; joins = h.joins })

short_none : (s front : List (List ℕ)) (next code : List ℕ) (rest : List (List ℕ)) → s ++ next ∷ rest ≡ front ++ code ∷ [] → list_any is_final front ≡ false → finals s ≡ 0
short_none [] front next code rest is none = refl
short_none (y ∷ s) [] next code rest is none = absurd (nothing s (let g : s ++ next ∷ rest ≡ [] = cc in g))
  where
    nothing : (zs : List (List ℕ)) → zs ++ next ∷ rest ≡ [] → ⊥
    nothing [] g = cc
    nothing (z ∷ zs) g = cc
short_none (y ∷ s) (x ∷ front) next code rest is none =
    let same : y ≡ x = cc in
    let more : s ++ next ∷ rest ≡ front ++ code ∷ [] = cc in
    let split = or_parts (is_final x) (list_any is_final front) none in
    let off : is_final y ≡ false = ap is_final same ∙ split.0 in
    ap (λ (b : Bool). length (if b then y ∷ filter is_final s else filter is_final s)) off ∙ short_none s front next code rest more split.1

-- where lists joined are empty, the first is
pub nothing_left : (s later : List (List ℕ)) → s ++ later ≡ [] → s ≡ []
nothing_left [] later is = refl
nothing_left (x ∷ s) later is = cc

-- a beginning with as many final codes as there are lists is all of them
pub whole_by_count : (s : List (List ℕ)) (rs : List (List (List ℕ))) → IsPrefixOf s (all_of rs) → AllEnd rs → length rs ≤ finals s → s ≡ all_of rs
whole_by_count s [] first end enough = nothing_left s first.rest first.joins
whole_by_count s (r ∷ rs) first end enough = by_reach (reach s first.rest r (all_of rs) first.joins) (λ t later joins count. whole_by_count t rs (record { rest = later; joins = joins }) end.1 count)
  where
    by_reach : Reach s first.rest r (all_of rs) → ((t later : List (List ℕ)) → t ++ later ≡ all_of rs → length rs ≤ finals t → t ≡ all_of rs) → s ≡ all_of (r ∷ rs)
    by_reach (short h) rest =
        let none = short_none s end.0.front h.next end.0.code h.rest (h.joins ∙ end.0.parts) end.0.before in
        absurd (omega (arith, enough, none))
    by_reach (far h) rest =
        let size : finals s ≡ finals r + finals h.behind = ap finals h.begins ∙ finals-append r h.behind in
        let one = one_final r end.0 in
        h.begins ∙ ap (λ z. r ++ z) (rest h.behind first.rest h.joins (omega (arith, enough, size, one)))

-- ## An answer

up_to_code : (front : List (List ℕ)) (code : List ℕ) → list_any is_final front ≡ false → is_final code ≡ true → up_to_final standard (front ++ code ∷ []) ≡ front ++ code ∷ []
up_to_code [] code none last = ap (λ (b : Bool). if b then code ∷ [] else code ∷ []) last
up_to_code (x ∷ front) code none last =
    let split = or_parts (is_final x) (list_any is_final front) none in
    ap (λ (b : Bool). if b then x ∷ [] else x ∷ up_to_final standard (front ++ code ∷ [])) split.0 ∙ ap (λ z. x ∷ z) (up_to_code front code split.1 last)

-- up to its final code such a list is whole
pub ended_whole : (ls : List (List ℕ)) → Ends ls → up_to_final standard ls ≡ ls
ended_whole ls e = ap (up_to_final standard) e.parts ∙ up_to_code e.front e.code e.before e.last ∙ sym e.parts

-- a final code of an answer is among the lines
final_before : (ls : List (List ℕ)) → list_any is_final (up_to_final standard ls) ≡ true → list_any is_final ls ≡ true
final_before [] is = is
final_before (l ∷ ls) is = by_final (is_final l) refl is (final_before ls)
  where
    by_final : (b : Bool) → is_final l ≡ b → list_any is_final (if b then l ∷ [] else l ∷ up_to_final standard ls) ≡ true → (list_any is_final (up_to_final standard ls) ≡ true → list_any is_final ls ≡ true) → list_any is_final (l ∷ ls) ≡ true
    by_final true e h rest = rw e refl
    by_final false e h rest = let same : list_any is_final (l ∷ up_to_final standard ls) ≡ list_any is_final (up_to_final standard ls) = rw e refl in rw e (rest (sym same ∙ h))

final_in_all : (c : List ℕ) (ls : List (List ℕ)) → list_any is_final (without_echo c ls) ≡ true → list_any is_final ls ≡ true
final_in_all c [] is = is
final_in_all c (l ∷ ls) is = by_echo (bytes_eq l c) is
  where
    by_echo : (b : Bool) → list_any is_final (if b then ls else l ∷ ls) ≡ true → list_any is_final (l ∷ ls) ≡ true
    by_echo true h = by_final (is_final l)
      where
        by_final : (b : Bool) → (b || list_any is_final ls) ≡ true
        by_final true = refl
        by_final false = h
    by_echo false h = h

-- so an answer that has come has one among the lines behind its command
pub some_answered : (c : List ℕ) (after : List (List ℕ)) → has_final standard (answer standard c after) ≡ true → 1 ≤ finals (filter (is_solicited standard) after)
some_answered c after has =
    some_final (filter (is_solicited standard) after) (final_in_all c (filter (is_solicited standard) after) (final_before (without_echo c (filter (is_solicited standard) after)) has))

-- where what came behind a command is a beginning of its reply, an answer that has come is that of the whole reply
pub answer_whole : (c : List ℕ) (after r : List (List ℕ)) → IsPrefixOf (filter (is_solicited standard) after) r → Ends r → has_final standard (answer standard c after) ≡ true → answer standard c after ≡ up_to_final standard (without_echo c r)
answer_whole c after r first end has =
    let some = some_answered c after has in
    let all : all_of (r ∷ []) ≡ r = append-nil r in
    let same = whole_by_count (filter (is_solicited standard) after) (r ∷ []) (record { rest = first.rest; joins = first.joins ∙ sym all }) (end, tt) some in
    ap (λ x. up_to_final standard (without_echo c x)) (same ∙ all)
