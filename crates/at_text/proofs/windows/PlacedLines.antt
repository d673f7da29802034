-- Lines placed in a window where an answer that is whole stays.
use Rattle.std.specs.Prelude.{◌≡◌, ℕ, Bool, true, false, List, [], ◌∷◌, refl, is_none, if◌then◌else◌, Option, Some, None}
use Rattle.std.proofs.Common.{ap, sym}
use Rattle.std.proofs.lemmas.List.{append-nil}
use Rattle.std.proofs.Math.Seq.{take-append_seam}
use Rattle.at_text.specs.declared.answer.AnswerLine.{AnswerLine}
use Rattle.at_text.specs.declared.unsolicited.UrcKind.{UrcKind}
use Rattle.at_text.specs.declared.window.Seen.TheVariants.{Echo, Kept, Done}
use Rattle.at_text.specs.Dialects.{Dialect}
use Rattle.at_text.specs.Seeing.{by_kind}
use Rattle.at_text.specs.OpenWindow.{OpenWindow, is_echo, with_line, seen_by, after_line, solicited_by, after_solicited}
use Rattle.at_text.specs.InPlace.{placed_as, placed_by, solicited_placed, after_placed, said_where, left_where, Grows, mark_of, back_at}

solicited_says : (dialect : Dialect) (w : Option OpenWindow) (line : List ℕ) → solicited_by dialect w line ≡ said_where (placed_as (solicited_by dialect w line)) (solicited_placed w line)
solicited_says dialect None line = refl
solicited_says dialect (Some o) line = by_tests (is_echo o line) (dialect.is_final line)
  where
    by_tests : (echo final : Bool)
        → (if echo then Echo else if final then Done (with_line o line).lines else Kept)
        ≡ said_where (placed_as (if echo then Echo else if final then Done (with_line o line).lines else Kept)) (if echo then Some (record o { fresh = false }) else Some (with_line o line))
    by_tests true final = refl
    by_tests false true = refl
    by_tests false false = refl

solicited_leaves : (dialect : Dialect) (w : Option OpenWindow) (line : List ℕ) → after_solicited dialect w line ≡ left_where (placed_as (solicited_by dialect w line)) (solicited_placed w line)
solicited_leaves dialect None line = refl
solicited_leaves dialect (Some o) line = by_tests (is_echo o line) (dialect.is_final line)
  where
    by_tests : (echo final : Bool)
        → (if echo then Some (record o { fresh = false }) else if final then None else Some (with_line o line))
        ≡ left_where (placed_as (if echo then Echo else if final then Done (with_line o line).lines else Kept)) (if echo then Some (record o { fresh = false }) else Some (with_line o line))
    by_tests true final = refl
    by_tests false true = refl
    by_tests false false = refl

-- what a line is after its marks follows from what it was placed as
pub placed_says : (dialect : Dialect) (w : Option OpenWindow) (line : List ℕ) → seen_by dialect w line ≡ said_where (placed_by dialect w line) (after_placed dialect w line)
placed_says dialect w line = by_kind_of (dialect.kind_of line)
  where
    by_kind_of : (kind : Option UrcKind) → by_kind kind (solicited_by dialect w line)
        ≡ said_where (placed_as (by_kind kind (solicited_by dialect w line))) (if is_none kind then solicited_placed w line else w)
    by_kind_of None = solicited_says dialect w line
    by_kind_of (Some kind) = refl

-- and so does the window behind it, without an answer that is whole
pub placed_leaves : (dialect : Dialect) (w : Option OpenWindow) (line : List ℕ) → after_line dialect w line ≡ left_where (placed_by dialect w line) (after_placed dialect w line)
placed_leaves dialect w line = by_kind_of (dialect.kind_of line)
  where
    by_kind_of : (kind : Option UrcKind) → (if is_none kind then after_solicited dialect w line else w)
        ≡ left_where (placed_as (by_kind kind (solicited_by dialect w line))) (if is_none kind then solicited_placed w line else w)
    by_kind_of None = solicited_leaves dialect w line
    by_kind_of (Some kind) = refl

-- a window goes on from itself with no line
pub grown_none : (w : Option OpenWindow) → Grows w w
unfolding Grows
grown_none None = refl
grown_none (Some o) = record {
  more = [];
  fresh = o.fresh;
  window_is = ap (λ (ls : List AnswerLine). Some (record { command = o.command; lines = ls; fresh = o.fresh })) (sym (append-nil o.lines));
}

-- and from itself with any line placed
pub grown_placed : (dialect : Dialect) (w : Option OpenWindow) (line : List ℕ) → Grows w (after_placed dialect w line)
unfolding Grows
grown_placed dialect w line = by_kind_of (dialect.kind_of line)
  where
    by_echo : (o : OpenWindow) (echo : Bool) → Grows (Some o) (if echo then Some (record o { fresh = false }) else Some (with_line o line))
    by_echo o true = record {
      more = [];
      fresh = false;
      window_is = ap (λ (ls : List AnswerLine). Some (record { command = o.command; lines = ls; fresh = false })) (sym (append-nil o.lines));
    }
    by_echo o false = record { more = record { text = line } ∷ []; fresh = false; window_is = refl }

    solicited : (w : Option OpenWindow) → Grows w (solicited_placed w line)
    solicited None = refl
    solicited (Some o) = by_echo o (is_echo o line)

    by_kind_of : (kind : Option UrcKind) → Grows w (if is_none kind then solicited_placed w line else w)
    by_kind_of None = solicited w
    by_kind_of (Some kind) = grown_none w

-- one that has grown, taken back to how far it had come, is as it was
pub back_was : (was now : Option OpenWindow) → Grows was now → back_at (mark_of was) now ≡ was
unfolding Grows
back_was None now e = rw e refl
back_was (Some o) now g =
    rw g.window_is (ap (λ (ls : List AnswerLine). Some (record { command = o.command; lines = ls; fresh = o.fresh })) (take-append_seam o.lines g.more))
