-- Two rules that have a line in common have one of three in common.
use Rattle.std.specs.Prelude.{◌≡◌, ℕ, ◌==◌, ◌≤◌, ◌<◌, nat_eq, nat_lt, Bool, true, false, not, ◌&&◌, ◌||◌, List, [], ◌∷◌, ◌++◌, length, drop, Some, refl, if◌then◌else◌, codes}
use Rattle.std.specs.List.{starts_with}
use Rattle.std.specs.Option.{option_map_or}
use Rattle.std.proofs.Common.{arith, sym, ◌∙◌, ap, inl, inr}
use Rattle.std.proofs.lemmas.Bool.{and_parts, and_from, or_cases, or_left, or_right, eqb-true, ltb-true, ltb-false, true≢false}
use Rattle.std.proofs.lemmas.Bool.Decides.{Decides-eqb, nat_tests}
use Rattle.std.proofs.lemmas.List.{append_assoc, drop_at}
use Rattle.std.proofs.lemmas.Slice.Eq.{starts_is}
use Rattle.at_text.specs.declared.rules.Form.{Form}
use Rattle.at_text.specs.declared.rules.Form.TheVariants.{Line, Prefix, Quoted, Report, OpenReport}
use Rattle.at_text.specs.declared.rules.Pattern.{Pattern}
use Rattle.at_text.specs.Octets.{is_blank, is_comma, is_digit, is_quote, skip_blanks, begins, after_comma}
use Rattle.at_text.specs.Unsolicited.{is_without_second}
use Rattle.at_text.specs.Rules.{goes_on, is_without_number, takes}
use Rattle.at_text.specs.Refusals.{HaveLineInCommon, is_short}
use Rattle.at_text.specs.Deciding.{both_take, longer, can_meet}

-- ## Texts at the front of lines

at_front : (text rest : List ℕ) → starts_with nat_eq (text ++ rest) text ≡ true
at_front text rest = (starts_is Decides-eqb (text ++ rest) text (starts_with nat_eq (text ++ rest) text) refl).1 rest refl

-- a rule takes its text with something behind it just where that goes on as its form says
pub takes_front : (p : Pattern) (rest : List ℕ) → takes p (p.text ++ rest) ≡ goes_on p.form rest
takes_front p rest = rw (at_front p.text rest, drop_at p.text rest (length p.text) refl) refl

-- a line of a rule is its text and what goes on as its form says
pub record Taken (p : Pattern) (line : List ℕ) : Type 0 where
  pub rest : List ℕ
  pub whole : line ≡ p.text ++ rest
  pub going : goes_on p.form rest ≡ true

-- a line that a rule takes is such a one
pub taken : (p : Pattern) (line : List ℕ) → takes p line ≡ true → Taken p line
taken p line h =
    let parts = and_parts (starts_with nat_eq line p.text) (goes_on p.form (drop (length p.text) line)) h in
    record {
      rest = drop (length p.text) line;
      whole = (starts_is Decides-eqb line p.text (starts_with nat_eq line p.text) refl).0 parts.0;
      going = parts.1;
    }

-- ## What a line may go on with in its place

abbrev ending_by : Bool → Bool → List ℕ
ending_by quote digit = if quote then codes "\"" else if digit then codes "0" else []

abbrev ending_of : List ℕ → List ℕ
ending_of rest = ending_by (begins is_quote (skip_blanks rest)) (begins is_digit (skip_blanks rest))

quote_no_digit : (text : List ℕ) → begins is_quote text ≡ true → begins is_digit text ≡ false
quote_no_digit [] h = cc
quote_no_digit (c ∷ text) h = let e : c ≡ 34 = eqb-true c 34 h in rw e refl

quote_by : (q d : Bool) → begins is_quote (skip_blanks (ending_by q d)) ≡ q
quote_by true d = refl
quote_by false true = refl
quote_by false false = refl

digit_by : (q d : Bool) → (q ≡ true → d ≡ false) → begins is_digit (skip_blanks (ending_by q d)) ≡ d
digit_by true d h = sym (h refl)
digit_by false true h = refl
digit_by false false h = refl

no_comma_by : (test : List ℕ → Bool) (q d : Bool) → option_map_or test (after_comma (ending_by q d)) true ≡ true
no_comma_by test true d = refl
no_comma_by test false true = refl
no_comma_by test false false = refl

abbrev IsKept : (ℕ → Bool) → List ℕ → List ℕ → Type 0
IsKept test x y = begins test (skip_blanks x) ≡ begins test (skip_blanks y)

past_one : (test : ℕ → Bool) (b : Bool) (c : ℕ) (x y : List ℕ) → IsKept test x y → begins test (if b then skip_blanks x else c ∷ x) ≡ begins test (if b then skip_blanks y else c ∷ y)
past_one test true c x y h = h
past_one test false c x y h = refl

behind : (test : ℕ → Bool) (x y : List ℕ) → IsKept test x y → (mid : List ℕ) → IsKept test (mid ++ x) (mid ++ y)
behind test x y h [] = h
behind test x y h (c ∷ mid) = past_one test (is_blank c) c (mid ++ x) (mid ++ y) (behind test x y h mid)

quote_kept : (mid rest : List ℕ) → IsKept is_quote (mid ++ ending_of rest) (mid ++ rest)
quote_kept mid rest =
    behind is_quote (ending_of rest) rest
    (quote_by (begins is_quote (skip_blanks rest)) (begins is_digit (skip_blanks rest))) mid

digit_kept : (mid rest : List ℕ) → IsKept is_digit (mid ++ ending_of rest) (mid ++ rest)
digit_kept mid rest =
    behind is_digit (ending_of rest) rest
    (digit_by (begins is_quote (skip_blanks rest)) (begins is_digit (skip_blanks rest)) (quote_no_digit (skip_blanks rest)))
    mid

abbrev passes : (List ℕ → Bool) → List ℕ → Bool
passes test text = option_map_or test (after_comma text) true

past_comma : (test : List ℕ → Bool) (b : Bool) (x y : List ℕ) → test x ≡ test y → (passes test y ≡ true → passes test x ≡ true)
    → option_map_or test (if b then Some y else after_comma y) true ≡ true
    → option_map_or test (if b then Some x else after_comma x) true ≡ true
past_comma test true x y e h = λ t. e ∙ t
past_comma test false x y e h = h

comma_kept : (test : List ℕ → Bool) (rest : List ℕ) → ((mid : List ℕ) → test (mid ++ ending_of rest) ≡ test (mid ++ rest))
    → (mid : List ℕ) → passes test (mid ++ rest) ≡ true → passes test (mid ++ ending_of rest) ≡ true
comma_kept test rest same [] h = no_comma_by test (begins is_quote (skip_blanks rest)) (begins is_digit (skip_blanks rest))
comma_kept test rest same (c ∷ mid) h =
    past_comma test (is_comma c) (mid ++ ending_of rest) (mid ++ rest) (same mid) (comma_kept test rest same mid) h

nothing_kept : (mid rest : List ℕ) → (length (mid ++ rest) == 0) ≡ true → (length (mid ++ ending_of rest) == 0) ≡ true
nothing_kept [] [] h = refl
nothing_kept [] (c ∷ rest) h = absurd (let e : length (c ∷ rest) ≡ 0 = eqb-true (length (c ∷ rest)) 0 h in omega arith)
nothing_kept (c ∷ mid) rest h = absurd (let e : length (c ∷ mid ++ rest) ≡ 0 = eqb-true (length (c ∷ mid ++ rest)) 0 h in omega arith)

-- what goes on as a form says still does with one of the three endings for its end
kept : (form : Form) (mid rest : List ℕ) → goes_on form (mid ++ rest) ≡ true → goes_on form (mid ++ ending_of rest) ≡ true
kept Line mid rest h = nothing_kept mid rest h
kept Prefix mid rest h = refl
kept Quoted mid rest h = quote_kept mid rest ∙ h
kept Report mid rest h =
    let parts = and_parts (begins is_digit (skip_blanks (mid ++ rest))) (is_without_second (mid ++ rest)) h in
    and_from (begins is_digit (skip_blanks (mid ++ ending_of rest))) (is_without_second (mid ++ ending_of rest))
    (digit_kept mid rest ∙ parts.0)
    (comma_kept (λ more. begins is_quote (skip_blanks more)) rest (λ m. quote_kept m rest) mid parts.1)
kept OpenReport mid rest h =
    let parts = and_parts (begins is_digit (skip_blanks (mid ++ rest))) (is_without_number (mid ++ rest)) h in
    and_from (begins is_digit (skip_blanks (mid ++ ending_of rest))) (is_without_number (mid ++ ending_of rest))
    (digit_kept mid rest ∙ parts.0)
    (comma_kept (λ more. not (begins is_digit (skip_blanks more))) rest (λ m. ap not (digit_kept m rest)) mid parts.1)

-- ## A line of two rules

-- of two texts at the front of one line the longer goes on from the shorter
record GoesOn (a b x y : List ℕ) : Type 0 where
  mid : List ℕ
  text : b ≡ a ++ mid
  rest : x ≡ mid ++ y

both_parts : (c d : ℕ) (x y : List ℕ) → c ≡ d → y ≡ x → d ∷ y ≡ c ∷ x
both_parts c d x y e f = cc

split : (a b x y : List ℕ) → a ++ x ≡ b ++ y → length a ≤ length b → GoesOn a b x y
split [] b x y e l = record { mid = b; text = refl; rest = e }
split (c ∷ a) [] x y e l = absurd (omega arith)
split (c ∷ a) (d ∷ b) x y e l =
    let heads : c ≡ d = cc in
    let tails : a ++ x ≡ b ++ y = cc in
    let s = split a b x y tails (omega arith) in
    record { mid = s.mid; text = both_parts c d (a ++ s.mid) b heads s.text; rest = s.rest }

met : (p q : Pattern) (line : List ℕ) → takes p line ≡ true → takes q line ≡ true → length p.text ≤ length q.text
    → (rest : List ℕ) × (takes p (q.text ++ ending_of rest) ≡ true) × (takes q (q.text ++ ending_of rest) ≡ true)
met p q line one other l =
    let tp = taken p line one in
    let tq = taken q line other in
    let s = split p.text q.text tp.rest tq.rest (sym tp.whole ∙ tq.whole) l in
    let going : goes_on p.form (s.mid ++ ending_of tq.rest) ≡ true = kept p.form s.mid tq.rest (rw s.rest at tp.going) in
    let joined : q.text ++ ending_of tq.rest ≡ p.text ++ (s.mid ++ ending_of tq.rest) = ap (λ t. t ++ ending_of tq.rest) s.text ∙ append_assoc p.text s.mid (ending_of tq.rest) in
    (tq.rest, ap (takes p) joined ∙ takes_front p (s.mid ++ ending_of tq.rest) ∙ going, takes_front q (ending_of tq.rest) ∙ kept q.form [] tq.rest tq.going)

abbrev on_three : Pattern → Pattern → List ℕ → Bool
on_three p q text = both_take p q (text ++ []) || (both_take p q (text ++ codes "\"") || both_take p q (text ++ codes "0"))

on_one : (p q : Pattern) (text : List ℕ) (quote digit : Bool) → both_take p q (text ++ ending_by quote digit) ≡ true → on_three p q text ≡ true
on_one p q text true d h =
    or_right (both_take p q (text ++ [])) (both_take p q (text ++ codes "\"") || both_take p q (text ++ codes "0"))
    (or_left (both_take p q (text ++ codes "\"")) (both_take p q (text ++ codes "0")) h)
on_one p q text false true h =
    or_right (both_take p q (text ++ [])) (both_take p q (text ++ codes "\"") || both_take p q (text ++ codes "0"))
    (or_right (both_take p q (text ++ codes "\"")) (both_take p q (text ++ codes "0")) h)
on_one p q text false false h =
    or_left (both_take p q (text ++ [])) (both_take p q (text ++ codes "\"") || both_take p q (text ++ codes "0")) h

on_longer : (p q : Pattern) (line : List ℕ) (b : Bool) → nat_lt (length p.text) (length q.text) ≡ b → takes p line ≡ true → takes q line ≡ true
    → on_three p q (if b then q.text else p.text) ≡ true
on_longer p q line true e one other =
    let m = met p q line one other (let l : length p.text < length q.text = ltb-true (length p.text) (length q.text) e in omega arith) in
    on_one p q q.text (begins is_quote (skip_blanks m.0)) (begins is_digit (skip_blanks m.0))
    (and_from (takes p (q.text ++ ending_of m.0)) (takes q (q.text ++ ending_of m.0)) m.1 m.2)
on_longer p q line false e one other =
    let m = met q p line other one (ltb-false (length p.text) (length q.text) e) in
    on_one p q p.text (begins is_quote (skip_blanks m.0)) (begins is_digit (skip_blanks m.0))
    (and_from (takes p (p.text ++ ending_of m.0)) (takes q (p.text ++ ending_of m.0)) m.2 m.1)

-- a line of two rules of short texts shows that they meet
pub meet_shown : (p q : Pattern) → is_short p.text ≡ true → is_short q.text ≡ true → (line : List ℕ) → takes p line ≡ true → takes q line ≡ true → can_meet p q ≡ true
unfolding can_meet
meet_shown p q short_p short_q line one other =
    and_from (is_short p.text && is_short q.text) (on_three p q (longer p.text q.text))
    (and_from (is_short p.text) (is_short q.text) short_p short_q)
    (on_longer p q line (nat_lt (length p.text) (length q.text)) refl one other)

met_at : (p q : Pattern) (line : List ℕ) → both_take p q line ≡ true → HaveLineInCommon p q
met_at p q line h =
    let parts = and_parts (takes p line) (takes q line) h in
    record { line = line; one = parts.0; other = parts.1 }

met_on : (p q : Pattern) (text : List ℕ) → on_three p q text ≡ true → HaveLineInCommon p q
met_on p q text h =
    elim (or_cases (both_take p q (text ++ [])) (both_take p q (text ++ codes "\"") || both_take p q (text ++ codes "0")) h) [
      | inl a ↦ met_at p q (text ++ []) a
      | inr r ↦ elim (or_cases (both_take p q (text ++ codes "\"")) (both_take p q (text ++ codes "0")) r) [
        | inl b ↦ met_at p q (text ++ codes "\"") b
        | inr c ↦ met_at p q (text ++ codes "0") c
      ]
    ]

-- and where they meet there is such a line
pub meet_met : (p q : Pattern) → can_meet p q ≡ true → HaveLineInCommon p q
unfolding can_meet
meet_met p q h =
    met_on p q (longer p.text q.text)
    (and_parts (is_short p.text && is_short q.text) (on_three p q (longer p.text q.text)) h).1

short : (text : List ℕ) → length text ≤ 64 → is_short text ≡ true
short text less = grind (arith, nat_tests)

-- and where they don't there is none, of short texts
pub none_in_common : (p q : Pattern) → length p.text ≤ 64 → length q.text ≤ 64 → can_meet p q ≡ false → ¬ HaveLineInCommon p q
none_in_common p q less_p less_q apart both = true≢false (sym (meet_shown p q (short p.text less_p) (short q.text less_q) both.line both.one both.other) ∙ apart)
