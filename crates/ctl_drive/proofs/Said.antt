-- Bad lines are named, one behind the other.
use Rattle.std.specs.Prelude.{◌≡◌, ℕ, ◌+◌, ◌==◌, Bool, true, false, List, [], ◌∷◌, ◌++◌, Option, length, refl, if◌then◌else◌}
use Rattle.std.proofs.Common.{ap, arith, sym, subst, inl, inr, ◌∙◌}
use Rattle.ctl_text.specs.Writing.{IsBegun}
use Rattle.ctl_text.specs.declared.expected.Expected.{Expected}
use Rattle.file_threads.specs.Said.{AreSaid}
use Rattle.file_threads.proofs.FileEnds.{said_last}
use Rattle.ctl_drive.specs.Saying.{AreBadFrom, BadLine, IsBadFor, IsGood, Names, NamesBad, bad_text, bad_texts, is_any, left_text, left_texts}

texts_more : (bad : List BadLine) (line : BadLine) → bad_texts (bad ++ line ∷ []) ≡ bad_texts bad ++ bad_text line.place line.why ∷ []
texts_more [] line = refl
texts_more (b ∷ bad) line = ap (λ (l : List (List ℕ)). bad_text b.place b.why ∷ l) (texts_more bad line)

any_more : (bad : List BadLine) (line : BadLine) → is_any (bad ++ line ∷ []) ≡ true
any_more [] line = refl
any_more (b ∷ bad) line = refl

-- ## Another line at the end

good_last : (place : ℕ) (lines : List (List ℕ)) (bad : List BadLine) (line : List ℕ) → AreBadFrom place lines bad → IsGood line → AreBadFrom place (lines ++ line ∷ []) bad
good_last place [] [] line (AreBadFrom.bad_none _) good = AreBadFrom.bad_passed place line [] [] good (AreBadFrom.bad_none (place + 1))
good_last place [] (b ∷ bad) line h good = elim h [ ]
good_last place (l ∷ lines) bad line (AreBadFrom.bad_passed _ _ _ _ g h) good = AreBadFrom.bad_passed place l (lines ++ line ∷ []) bad g (good_last (place + 1) lines bad line h good)
good_last place (l ∷ lines) (b ∷ bad) line (AreBadFrom.bad_next _ _ why _ _ g h) good =
    AreBadFrom.bad_next place l why (lines ++ line ∷ []) bad g (good_last (place + 1) lines bad line h good)

bad_last : (place n : ℕ) (lines : List (List ℕ)) (bad : List BadLine) (line : List ℕ) (why : Expected) → n ≡ length lines + place → AreBadFrom place lines bad → IsBadFor line why
    → AreBadFrom place (lines ++ line ∷ []) (bad ++ record { place = n; why = why } ∷ [])
bad_last place n [] [] line why at (AreBadFrom.bad_none _) is =
    let same : place ≡ n = omega (arith, at) in
    subst (λ (k : ℕ). AreBadFrom place (line ∷ []) (record { place = k; why = why } ∷ [])) same (AreBadFrom.bad_next place line why [] [] is (AreBadFrom.bad_none (place + 1)))
bad_last place n [] (b ∷ bad) line why at h is = elim h [ ]
bad_last place n (l ∷ lines) bad line why at (AreBadFrom.bad_passed _ _ _ _ g h) is =
    AreBadFrom.bad_passed place l (lines ++ line ∷ []) (bad ++ record { place = n; why = why } ∷ []) g (bad_last (place + 1) n lines bad line why (omega (arith, at)) h is)
bad_last place n (l ∷ lines) (b ∷ bad) line why at (AreBadFrom.bad_next _ _ w _ _ g h) is =
    AreBadFrom.bad_next place l w (lines ++ line ∷ []) (bad ++ record { place = n; why = why } ∷ []) g (bad_last (place + 1) n lines bad line why (omega (arith, at)) h is)

-- ## What was named

-- of no lines none is bad, and nothing was said
pub names_none : (silent : Option (List ℕ)) → NamesBad [] false silent silent
names_none silent = record { bad = []; bad_are = AreBadFrom.bad_none 1; said = AreSaid.said_none silent; any = refl }

-- another line
pub names_next : (lines : List (List ℕ)) (line : List ℕ) (was is : Bool) (silent said more : Option (List ℕ)) → NamesBad lines was silent said → Names (length lines + 1) line was is said more
    → NamesBad (lines ++ line ∷ []) is silent more
names_next lines line was is silent said more h (inl good) = record {
  bad = h.bad;
  bad_are = good_last 1 lines h.bad line h.bad_are good.0;
  said = subst (λ (w : Option (List ℕ)). AreSaid silent w (bad_texts h.bad)) (sym good.2) h.said;
  any = good.1 ∙ h.any;
}
names_next lines line was is silent said more h (inr named) =
    let b : BadLine = record { place = length lines + 1; why = named.0 } in
    record {
      bad = h.bad ++ b ∷ [];
      bad_are = bad_last 1 (length lines + 1) lines h.bad line named.0 refl h.bad_are named.1;
      said = subst (AreSaid silent more) (sym (texts_more h.bad b)) (said_last silent said more (bad_texts h.bad) (bad_text b.place b.why) h.said named.3);
      any = named.2 ∙ sym (any_more h.bad b);
    }

-- of the lines of a count
pub names_at : (lines : List (List ℕ)) (count : ℕ) (line : List ℕ) (was is : Bool) (silent said more : Option (List ℕ)) → count ≡ length lines → NamesBad lines was silent said → Names (count + 1) line was is said more
    → NamesBad (lines ++ line ∷ []) is silent more
names_at lines count line was is silent said more same h n =
    names_next lines line was is silent said more h (subst (λ (k : ℕ). Names (k + 1) line was is said more) same n)

-- ## What is left

-- of no requests nothing is said
pub left_none : (a : Option (List ℕ)) (n : ℕ) → (n == 0) ≡ true → AreSaid a a (left_texts n)
left_none a n is = subst (λ (t : Bool). AreSaid a a (if t then [] else left_text n ∷ [])) (sym is) (AreSaid.said_none a)

-- of some it is said how many they are
pub left_some : (a b : Option (List ℕ)) (n : ℕ) → (n == 0) ≡ false → IsBegun a b (left_text n) → AreSaid a b (left_texts n)
left_some a b n is said = subst (λ (t : Bool). AreSaid a b (if t then [] else left_text n ∷ [])) (sym is) (AreSaid.said_next a b b (left_text n) [] said (AreSaid.said_none b))
