-- The worked inputs.
use Rattle.std.specs.Prelude.{◌≡◌, ℕ, ◌+◌, ◌/◌, ◌%◌, ◌<◌, nat_lt, Bool, true, false, List, [], ◌∷◌, ◌++◌, ◌⊎◌, length, Option, Some, None, codes, refl, if◌then◌else◌}
use Rattle.std.specs.Fmt.{digits}
use Rattle.std.proofs.Common.{ap, append-nil, append_assoc, sym, arith, inl, inr, ◌∙◌}
use Rattle.at_text.specs.Commands.{refusal_of}
use Rattle.at_text.specs.declared.error.TextError.TheVariants.{BadOctet}
use Rattle.std.specs.Io.KnownBytes.{Appends}
use Rattle.ctl_text.specs.Input.{input_lines}
use Rattle.ctl_text.specs.LineFaults.{IsCarrier}
use Rattle.ctl_text.specs.Words.{IsCommand, IsNoCommand, number_text}
use Rattle.ctl_text.specs.Writing.{IsBegun}
use Rattle.ctl_text.specs.declared.expected.Expected.{Expected}
use Rattle.ctl_text.specs.declared.expected.Expected.TheVariants.{Carrier, Command}
use Rattle.file_threads.specs.Said.{AreSaid}
use Rattle.ctl_drive.specs.Saying.{AreBad, AreBadFrom, BadLine, IsBadFor, IsGood, bad_text}
use Rattle.ctl_drive.specs.SayingRows.{AreNotTaken, AreRefused, AreTaken, AreWorked, bad_at, three_lines, two_texts}
use Rattle.ctl_drive.proofs.OneNaming.{one_naming}

-- ## Lines

command_on : (d : ℕ) (line : List ℕ) → IsCommand line d (codes "AT") → IsGood line
command_on d line is = inr (record { dlci = d; text = codes "AT"; command = is })

one_at : IsGood (codes "1 AT")
one_at = command_on 1 (codes "1 AT") (record { carries = omega arith; known = omega arith; is_line = refl; words_are = refl })

two_at : IsGood (codes "2 AT")
two_at = command_on 2 (codes "2 AT") (record { carries = omega arith; known = omega arith; is_line = refl; words_are = refl })

-- a number begins with a digit
head_of : (b : Bool) (d c : ℕ) (rest more : List ℕ) → c ∷ rest ≡ (if b then (48 + d) ∷ [] else (48 + d / 10) ∷ (48 + d % 10) ∷ []) ++ more → d < 62 → c < 110
head_of true d c rest more e l = let h : c ≡ 48 + d = cc in omega (arith, h, l)
head_of false d c rest more e l = let h : c ≡ 48 + d / 10 = cc in omega (arith, h, l)

x_is_none : IsNoCommand (codes "x")
x_is_none d line is =
    let words = is.words_are in
    let known = is.known in
    let low : 120 < 110 = head_of (nat_lt d 10) d 120 [] (32 ∷ line) words known in
    omega (arith, low)

no_carrier : IsCarrier (codes "x") → ⊥
no_carrier is =
    let known = is.known in
    let low : 120 < 110 = head_of (nat_lt is.number 10) is.number 120 [] [] (is.word_is ∙ sym (append-nil (number_text is.number))) known in
    omega (arith, low)

x_is_bad : IsBadFor (codes "x") Carrier
x_is_bad = record { some = λ e. cc; none = x_is_none; fault = inl (no_carrier, refl) }

-- a command line has no CR
with_cr : (b : Bool) (d : ℕ) (line : List ℕ) → codes "1 AT\r" ≡ (if b then (48 + d) ∷ [] else (48 + d / 10) ∷ (48 + d % 10) ∷ []) ++ 32 ∷ line → line ≡ codes "AT\r"
with_cr true d line e = cc
with_cr false d line e = let h : 32 ≡ 48 + d % 10 = cc in absurd (omega (arith, h))

refused_cr : (line : List ℕ) → line ≡ codes "AT\r" → refusal_of line ≡ None → ⊥
refused_cr line is none = let e : Some BadOctet ≡ None = ap refusal_of (sym is) ∙ none in cc

cr_is_none : IsNoCommand (codes "1 AT\r")
cr_is_none d line is = refused_cr line (with_cr (nat_lt d 10) d line is.words_are) is.is_line

cr_is_bad : IsBadFor (codes "1 AT\r") Command
cr_is_bad = record {
  some = λ e. cc;
  none = cr_is_none;
  fault = inr (record { number = 1; carries = omega arith; known = omega arith; word_is = refl }, inl (refused_cr (codes "AT\r") refl, refl));
}

text_is : bad_text 2 Carrier ≡ codes "bad line 2\na connection is 1 to 61, without leading zeros\n"
unfolding digits
text_is = refl

between : AreBad (input_lines three_lines) (bad_at 2 Carrier [])
between =
    AreBadFrom.bad_passed 1 (codes "1 AT") (codes "x" ∷ codes "2 AT" ∷ []) (bad_at 2 Carrier []) one_at
    (AreBadFrom.bad_next 2 (codes "x") Carrier (codes "2 AT" ∷ []) [] x_is_bad (AreBadFrom.bad_passed 3 (codes "2 AT") [] [] two_at (AreBadFrom.bad_none 4)))

-- the worked inputs have these bad lines
pub worked : AreWorked
worked = record {
  no_input = AreBadFrom.bad_none 1;
  between = between;
  empty_line = AreBadFrom.bad_passed 1 [] (codes "x" ∷ []) (bad_at 2 Carrier []) (inl refl) (AreBadFrom.bad_next 2 (codes "x") Carrier [] [] x_is_bad (AreBadFrom.bad_none 3));
  cr_before_lf = AreBadFrom.bad_passed 1 (codes "1 AT") [] [] one_at (AreBadFrom.bad_none 2);
  cr_alone = AreBadFrom.bad_next 1 (codes "1 AT\r") Command [] [] cr_is_bad (AreBadFrom.bad_none 2);
  text = text_is;
}

abbrev place_in : List BadLine → ℕ
place_in [] = 0
place_in (b ∷ more) = b.place

abbrev why_in : List BadLine → Expected
why_in [] = Carrier
why_in (b ∷ more) = b.why

-- and not those
pub refusals_said : AreRefused
refusals_said = record {
  place_before = λ h. let e : 1 ≡ 2 = ap place_in (one_naming (input_lines three_lines) _ _ h between) in omega (arith, e);
  another_reason = λ h. let e : Command ≡ Carrier = ap why_in (one_naming (input_lines three_lines) _ _ h between) in cc;
  none = λ h. let e : 0 ≡ 2 = ap place_in (one_naming (input_lines three_lines) _ _ h between) in omega (arith, e);
  all = λ h. let e : 1 ≡ 2 = ap place_in (one_naming (input_lines three_lines) _ _ h between) in omega (arith, e);
  twice = λ h. let e : 2 ≡ 1 = ap (λ (l : List BadLine). length l) (one_naming (input_lines three_lines) _ _ h between) in omega (arith, e);
  empty_line = λ h. let e : 1 ≡ 0 = ap place_in (one_naming (input_lines (codes "\n")) _ _ h (AreBadFrom.bad_passed 1 [] [] [] (inl refl) (AreBadFrom.bad_none 2))) in omega (arith, e);
}

-- ## Texts

-- what a writer that takes a beginning of each of two octets has of them
abbrev AreOf : (before after : List ℕ) → Type 0
AreOf before after =
    (after ≡ before) ⊎ (after ≡ before ++ 1 ∷ []) ⊎ (after ≡ before ++ 2 ∷ []) ⊎ (after ≡ before ++ 1 ∷ 2 ∷ [])

of_parts : (before between after p q l m : List ℕ) → 1 ∷ [] ≡ p ++ l → 2 ∷ [] ≡ q ++ m → between ≡ before ++ p → after ≡ between ++ q → AreOf before after
of_parts before between after [] [] l m first second e f = inl (f ∙ append-nil between ∙ e ∙ append-nil before)
of_parts before between after (x ∷ []) [] l m first second e f = let same : x ≡ 1 = cc in inr (inl (f ∙ append-nil between ∙ e ∙ ap (λ (c : ℕ). before ++ c ∷ []) same))
of_parts before between after [] (y ∷ []) l m first second e f =
    let same : y ≡ 2 = cc in
    inr (inr (inl (f ∙ ap (λ (b : List ℕ). b ++ y ∷ []) (e ∙ append-nil before) ∙ ap (λ (c : ℕ). before ++ c ∷ []) same)))
of_parts before between after (x ∷ []) (y ∷ []) l m first second e f =
    let a : x ≡ 1 = cc in
    let b : y ≡ 2 = cc in
    inr (inr (inr (f ∙ ap (λ (w : List ℕ). w ++ y ∷ []) e ∙ append_assoc before (x ∷ []) (y ∷ []) ∙ ap (λ (c : ℕ × ℕ). before ++ c.0 ∷ c.1 ∷ []) (λ i. (a i, b i)))))
of_parts before between after (x ∷ z ∷ p) q l m first second e f = absurd (cc)
of_parts before between after p (y ∷ z ∷ q) l m first second e f = absurd (cc)

of_two : (before after : List ℕ) → AreSaid (Some before) (Some after) two_texts → AreOf before after
of_two before after (AreSaid.said_next _ (Some between) _ _ _ first (AreSaid.said_next _ _ _ _ _ second (AreSaid.said_none _))) =
    of_parts before between after first.part second.part first.left second.left first.split second.split first.appended second.appended
of_two before after (AreSaid.said_next _ None _ _ _ first more) = absurd first.appended

begun_whole : (before text : List ℕ) → IsBegun (Some before) (Some (before ++ text)) text
begun_whole before text = record { part = text; left = []; split = sym (append-nil text); appended = refl }

begun_none : (before : Option (List ℕ)) (text : List ℕ) → Appends before before [] → IsBegun before before text
begun_none before text same = record { part = []; left = text; split = refl; appended = same }

-- a writer has these beginnings of two texts
pub taken : AreTaken
taken = record {
  both =
      AreSaid.said_next (Some []) (Some (1 ∷ [])) (Some (1 ∷ 2 ∷ [])) (1 ∷ []) ((2 ∷ []) ∷ []) (begun_whole [] (1 ∷ []))
      (AreSaid.said_next (Some (1 ∷ [])) (Some (1 ∷ 2 ∷ [])) (Some (1 ∷ 2 ∷ [])) (2 ∷ []) [] (begun_whole (1 ∷ []) (2 ∷ [])) (AreSaid.said_none (Some (1 ∷ 2 ∷ []))));
  second =
      AreSaid.said_next (Some []) (Some []) (Some (2 ∷ [])) (1 ∷ []) ((2 ∷ []) ∷ []) (begun_none (Some []) (1 ∷ []) refl)
      (AreSaid.said_next (Some []) (Some (2 ∷ [])) (Some (2 ∷ [])) (2 ∷ []) [] (begun_whole [] (2 ∷ [])) (AreSaid.said_none (Some (2 ∷ []))));
  nothing =
      AreSaid.said_next (Some []) (Some []) (Some []) (1 ∷ []) ((2 ∷ []) ∷ []) (begun_none (Some []) (1 ∷ []) refl)
      (AreSaid.said_next (Some []) (Some []) (Some []) (2 ∷ []) [] (begun_none (Some []) (2 ∷ []) refl) (AreSaid.said_none (Some [])));
}

none_of : (before after : List ℕ) → (after ≡ before → ⊥) → (after ≡ before ++ 1 ∷ [] → ⊥) → (after ≡ before ++ 2 ∷ [] → ⊥) → (after ≡ before ++ 1 ∷ 2 ∷ [] → ⊥) → AreOf before after → ⊥
none_of before after p q r s (inl e) = p e
none_of before after p q r s (inr (inl e)) = q e
none_of before after p q r s (inr (inr (inl e))) = r e
none_of before after p q r s (inr (inr (inr e))) = s e

-- and not those
pub not_taken : AreNotTaken
not_taken = record {
  again = λ h. none_of [] (1 ∷ 1 ∷ []) (λ e. cc) (λ e. cc) (λ e. cc) (λ e. cc) (of_two [] (1 ∷ 1 ∷ []) h);
  turned = λ h. none_of [] (2 ∷ 1 ∷ []) (λ e. cc) (λ e. cc) (λ e. cc) (λ e. cc) (of_two [] (2 ∷ 1 ∷ []) h);
  more = λ h. none_of [] (1 ∷ 2 ∷ 3 ∷ []) (λ e. cc) (λ e. cc) (λ e. cc) (λ e. cc) (of_two [] (1 ∷ 2 ∷ 3 ∷ []) h);
  lost = λ h. none_of (3 ∷ []) (1 ∷ 2 ∷ []) (λ e. cc) (λ e. cc) (λ e. cc) (λ e. cc) (of_two (3 ∷ []) (1 ∷ 2 ∷ []) h);
}
