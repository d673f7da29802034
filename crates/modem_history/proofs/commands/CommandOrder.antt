-- Commands that begin one after the other.
use Rattle.std.specs.Prelude.{◌≡◌, ℕ, suc, ◌+◌, Bool, true, false, List, [], ◌∷◌, ◌++◌, length, filter, map, refl, if◌then◌else◌, Option, Some, None}
use Rattle.std.proofs.Common.{ap, sym, ◌∙◌, arith}
use Rattle.at_text.specs.Dialects.{Dialect}
use Rattle.at_text.specs.Windows.{Mark, Line, Begun, Window, lines_of, answer, answers, answered, has_final, windows, last_window, answer_of, is_answered, open_of, open_window}
use Rattle.std.specs.List.{last_or}
use Rattle.at_text.proofs.windows.AnswerWindows.{answer-done}
use Rattle.modem_history.specs.Begun.{begun_count, has_begun, IsInOrder}

lines_more : (ms : List Mark) (line : List ℕ) → lines_of (ms ++ Line line ∷ []) ≡ lines_of ms ++ line ∷ []
lines_more [] line = refl
lines_more (Line l ∷ ms) line = ap (λ (v : List (List ℕ)). l ∷ v) (lines_more ms line)
lines_more (Begun c ∷ ms) line = lines_more ms line

lines_same : (ms : List Mark) (c : List ℕ) → lines_of (ms ++ Begun c ∷ []) ≡ lines_of ms
lines_same [] c = refl
lines_same (Line l ∷ ms) c = ap (λ (v : List (List ℕ)). l ∷ v) (lines_same ms c)
lines_same (Begun d ∷ ms) c = lines_same ms c

begun_same : (ms : List Mark) (line : List ℕ) → has_begun (ms ++ Line line ∷ []) ≡ has_begun ms
begun_same [] line = refl
begun_same (Line l ∷ ms) line = begun_same ms line
begun_same (Begun c ∷ ms) line = refl

final_stays : (dialect : Dialect) (c : List ℕ) (ls : List (List ℕ)) (line : List ℕ) → has_final dialect (answer dialect c ls) ≡ true → has_final dialect (answer dialect c (ls ++ line ∷ [])) ≡ true
final_stays dialect c ls line h = ap (has_final dialect) (answer-done dialect c ls line h) ∙ h

-- a line more
pub order_line : (dialect : Dialect) (ms : List Mark) (line : List ℕ) → IsInOrder dialect ms → IsInOrder dialect (ms ++ Line line ∷ [])
order_line dialect [] line h = tt
order_line dialect (Line l ∷ ms) line h = order_line dialect ms line h
order_line dialect (Begun c ∷ ms) line h =
    ((λ b. ap (λ (v : List (List ℕ)). has_final dialect (answer dialect c v)) (lines_more ms line) ∙ final_stays dialect c (lines_of ms) line (h.0 (sym (begun_same ms line) ∙ b))), order_line dialect ms line h.1)

-- without a command there is no window, and with one there is
no_window : (ms : List Mark) → has_begun ms ≡ false → windows ms ≡ []
no_window [] h = refl
no_window (Line l ∷ ms) h = no_window ms h
no_window (Begun c ∷ ms) h = cc

-- where a command has begun, the last window is the same whatever stands for none
pub some_window : (ms : List Mark) → has_begun ms ≡ true → (o : Option Window) → last_or o (windows ms) ≡ last_window ms
some_window [] h o = cc
some_window (Line l ∷ ms) h o = some_window ms h o
some_window (Begun c ∷ ms) h o = refl

-- the window of a command after which none began
abbrev own : List ℕ → List Mark → Window
own c ms = record { command = c; after = lines_of ms }

abbrev closed_by : Bool → Window → Option Window
closed_by b w = if b then None else Some w

closed_now : (dialect : Dialect) (w : Window) (b : Bool) → is_answered dialect w ≡ b → closed_by b w ≡ None → is_answered dialect w ≡ true
closed_now dialect w true e h = e
closed_now dialect w false e h = cc

-- a command more, where no window is open
pub order_begun : (dialect : Dialect) (ms : List Mark) (c : List ℕ) → open_window dialect ms ≡ None → IsInOrder dialect ms → IsInOrder dialect (ms ++ Begun c ∷ [])
order_begun dialect [] c e h = ((λ b. cc), tt)
order_begun dialect (Line l ∷ ms) c e h = order_begun dialect ms c e h
order_begun dialect (Begun d ∷ ms) c e h = by_begun (has_begun ms) refl (λ k. order_begun dialect ms c k h.1)
  where
    by_begun : (b : Bool) → has_begun ms ≡ b → (open_window dialect ms ≡ None → IsInOrder dialect (ms ++ Begun c ∷ [])) → IsInOrder dialect (Begun d ∷ (ms ++ Begun c ∷ []))
    by_begun true k more =
        let here : open_window dialect ms ≡ None = ap (open_of dialect) (sym (some_window ms k (Some (own d ms)))) ∙ e in
        ((λ b. ap (λ (v : List (List ℕ)). has_final dialect (answer dialect d v)) (lines_same ms c) ∙ h.0 k), more here)
    by_begun false k more =
        let none : windows ms ≡ [] = no_window ms k in
        let here : closed_by (is_answered dialect (own d ms)) (own d ms) ≡ None = ap (λ (v : List Window). open_of dialect (last_or (Some (own d ms)) v)) (sym none) ∙ e in
        let done : is_answered dialect (own d ms) ≡ true = closed_now dialect (own d ms) (is_answered dialect (own d ms)) refl here in
        ((λ b. ap (λ (v : List (List ℕ)). has_final dialect (answer dialect d v)) (lines_same ms c) ∙ done), more (ap (λ (v : List Window). open_of dialect (last_or None v)) none))

-- the commands that have begun are those that have their final code and the one under way
abbrev pub open_count : Option Window → ℕ
open_count None = 0
open_count (Some w) = 1

no_answers : (dialect : Dialect) (ms : List Mark) → has_begun ms ≡ false → answers dialect ms ≡ []
no_answers dialect ms h = ap (map (answer_of dialect)) (no_window ms h)

none_begun : (ms : List Mark) → has_begun ms ≡ false → begun_count ms ≡ 0
none_begun [] h = refl
none_begun (Line l ∷ ms) h = none_begun ms h
none_begun (Begun c ∷ ms) h = cc

abbrev counted : Dialect → Bool → List (List ℕ) → List (List (List ℕ)) → ℕ
counted dialect b x xs = length (if b then x ∷ filter (has_final dialect) xs else filter (has_final dialect) xs)

last_counts : (dialect : Dialect) (c : List ℕ) (ms : List Mark) (b : Bool) → counted dialect b (answer dialect c (lines_of ms)) [] + open_count (closed_by b (own c ms)) ≡ 1
last_counts dialect c ms true = refl
last_counts dialect c ms false = refl

-- where commands begin in order, those answered and the one whose window is open are all that began
pub counts : (dialect : Dialect) (ms : List Mark) → IsInOrder dialect ms → answered dialect ms + open_count (open_window dialect ms) ≡ begun_count ms
counts dialect [] h = refl
counts dialect (Line l ∷ ms) h = counts dialect ms h
counts dialect (Begun c ∷ ms) h = by_begun (has_begun ms) refl (counts dialect ms h.1)
  where
    by_begun : (b : Bool) → has_begun ms ≡ b → answered dialect ms + open_count (open_window dialect ms) ≡ begun_count ms → answered dialect (Begun c ∷ ms) + open_count (open_window dialect (Begun c ∷ ms)) ≡ begun_count ms + 1
    by_begun true k before =
        let one : answered dialect (Begun c ∷ ms) ≡ suc (answered dialect ms) = ap (λ (b : Bool). counted dialect b (answer dialect c (lines_of ms)) (answers dialect ms)) (h.0 k) in
        let same : open_count (open_window dialect (Begun c ∷ ms)) ≡ open_count (open_window dialect ms) = ap (λ (v : Option Window). open_count (open_of dialect v)) (some_window ms k (Some (own c ms))) in
        omega arith
    by_begun false k before =
        let none : begun_count ms ≡ 0 = none_begun ms k in
        let first : answered dialect (Begun c ∷ ms) ≡ counted dialect (is_answered dialect (own c ms)) (answer dialect c (lines_of ms)) [] = ap (λ (v : List (List (List ℕ))). counted dialect (is_answered dialect (own c ms)) (answer dialect c (lines_of ms)) v) (no_answers dialect ms k) in
        let alone : open_count (open_window dialect (Begun c ∷ ms)) ≡ open_count (closed_by (is_answered dialect (own c ms)) (own c ms)) = ap (λ (v : List Window). open_count (open_of dialect (last_or (Some (own c ms)) v))) (no_window ms k) in
        let total : counted dialect (is_answered dialect (own c ms)) (answer dialect c (lines_of ms)) [] + open_count (closed_by (is_answered dialect (own c ms)) (own c ms)) ≡ 1 = last_counts dialect c ms (is_answered dialect (own c ms)) in
        omega arith
