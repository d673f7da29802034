-- When a text is refused.
use Rattle.std.specs.Prelude.{◌≡◌, ℕ, ◌-◌, ◌<◌, ◌≤◌, true, List, [], ◌∷◌, ◌++◌, length, take, Some, None}
use Rattle.std.specs.List.{list_all}
use Rattle.std.proofs.Common.{ap, sym, ◌∙◌, arith}
use Rattle.std.proofs.lemmas.Bool.Decides.{nat_tests}
use Rattle.at_text.specs.declared.error.TextError.TheVariants.{TooLong}
use Rattle.std.proofs.lemmas.List.{length-append}
use Rattle.std.proofs.Math.Seq.{take-append_seam}
use Rattle.at_text.specs.Commands.{IsEnded, has_at, is_printable, refusal_of, without_cr}

-- a text with AT in front, of printable octets, is refused as too long if it has more than 256
pub refused_long : (text : List ℕ) → has_at text ≡ true → list_all is_printable text ≡ true → 256 < length text → refusal_of text ≡ Some TooLong
refused_long text at good long = rw (at, good) (grind (arith, nat_tests))

-- and is taken if it hasn't
pub taken_unrefused : (text : List ℕ) → has_at text ≡ true → list_all is_printable text ≡ true → length text ≤ 256 → refusal_of text ≡ None
taken_unrefused text at good short = rw (at, good) (grind (arith, nat_tests))

-- for callers: a command line is short
pub short : (text : List ℕ) → refusal_of text ≡ None → length text ≤ 256
short text taken_unrefused = grind (arith, nat_tests)

-- ## A text and CR

without_last : (text : List ℕ) → without_cr (text ++ 13 ∷ []) ≡ text
without_last text =
    let all = length-append text (13 ∷ []) in
    let count : length (text ++ 13 ∷ []) - 1 ≡ length text = omega (arith, all) in
    ap (λ n. take n (text ++ 13 ∷ [])) count ∙ take-append_seam text (13 ∷ [])

-- the octets without their CR are the text
pub text_ended : (text octets : List ℕ) → octets ≡ text ++ 13 ∷ [] → without_cr octets ≡ text
text_ended text octets e = ap without_cr e ∙ without_last text

-- and are those of a command line where the text is taken
pub is_ended : (text octets : List ℕ) → octets ≡ text ++ 13 ∷ [] → refusal_of text ≡ None → IsEnded octets
is_ended text octets e t =
    let same = text_ended text octets e in
    record { taken = ap refusal_of same ∙ t; ended = e ∙ ap (λ x. x ++ 13 ∷ []) (sym same) }
