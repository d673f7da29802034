-- Which lines say a rule.
use Rattle.std.specs.Prelude.{◌≡◌, ◌≢◌, ℕ, ◌==◌, Bool, true, false, List, [], ◌∷◌, ◌++◌, drop, codes, refl, if◌then◌else◌}
use Rattle.std.proofs.Common.{sym, ap, arith, ◌∙◌, inl, inr}
use Rattle.std.proofs.lemmas.Bool.{false≢true, eq-eqb}
use Rattle.std.specs.Str.Iter.{LacksByte}
use Rattle.at_text.specs.declared.rules.Form.{Form}
use Rattle.at_text.specs.declared.rules.Form.TheVariants.{Line, Prefix, Quoted, Report, OpenReport}
use Rattle.at_text.specs.Rules.{Rule, FinalRule, UrcRule}
use Rattle.ctl_text.specs.DialectTexts.{SaysNoRule, SaysNone, SaysRule, form_text}
use Rattle.ctl_text.specs.declared.dialects.RulePart.TheVariants as part
use Rattle.ctl_text.proofs.CommandWords.{lacks_middle, same_front}
use Rattle.ctl_text.proofs.CutTexts.{lacks_cons, lacks_nil}

abbrev head_of : List ℕ → ℕ
head_of [] = 0
head_of (c ∷ text) = c

-- ## Forms

abbrev lacks : ℕ → List ℕ → Bool
lacks c [] = true
lacks c (x ∷ xs) = if x == c then false else lacks c xs

lacks_step : (c x : ℕ) (xs : List ℕ) (b : Bool) → (x == c) ≡ b → (if b then false else lacks c xs) ≡ true → (x ≢ c) × (lacks c xs ≡ true)
lacks_step c x xs true e h = absurd (false≢true h)
lacks_step c x xs false e h = (λ same. false≢true (sym e ∙ eq-eqb x c same), h)

lacks_so : (c : ℕ) (xs : List ℕ) → lacks c xs ≡ true → LacksByte c xs
lacks_so c [] h = lacks_nil c
lacks_so c (x ∷ xs) h =
    let parts = lacks_step c x xs (x == c) refl h in
    lacks_cons c x xs parts.0 (lacks_so c xs parts.1)

lacks_form : (form : Form) → LacksByte 32 (form_text form)
lacks_form Line = lacks_so 32 (codes "line") refl
lacks_form Prefix = lacks_so 32 (codes "prefix") refl
lacks_form Quoted = lacks_so 32 (codes "quoted") refl
lacks_form Report = lacks_so 32 (codes "report") refl
lacks_form OpenReport = lacks_so 32 (codes "open-report") refl

-- words that don't begin with a form and a blank
abbrev pub HaveNoForm : List ℕ → Type 0
HaveNoForm words = (form : Form) (rest : List ℕ) → words ≢ form_text form ++ 32 ∷ rest

-- no blank
pub no_form_alone : (words : List ℕ) → LacksByte 32 words → HaveNoForm words
no_form_alone words h form rest e = lacks_middle 32 (form_text form) rest (rw (sym e) h)

-- the word before the blank is no form
pub no_form_first : (words word rest : List ℕ) → LacksByte 32 word → words ≡ word ++ 32 ∷ rest → ((form : Form) → word ≢ form_text form) → HaveNoForm words
no_form_first words word rest h w unknown form more e =
    let same = same_front 32 word (form_text form) rest more h (lacks_form form) (sym w ∙ e) in
    unknown form same.0

-- ## Rules

final_no : (words : List ℕ) → HaveNoForm words → SaysNoRule (codes "final " ++ words)
final_no words h (FinalRule form text) s = h form text (ap (drop 6) s)
final_no words h (UrcRule form text name) s = absurd (let e = ap head_of s.0 in omega (arith, e))

-- behind `final` they say no rule, for want of a form
pub no_final : (words : List ℕ) → HaveNoForm words → SaysNone part.Form (codes "final " ++ words)
no_final words h = record { says = final_no words h; lacks = record { word = codes "final "; is_word = inl refl; rest = words; split = refl; none = h } }

unsolicited_no : (words : List ℕ) → HaveNoForm words → SaysNoRule (codes "unsolicited " ++ words)
unsolicited_no words h (FinalRule form text) s = absurd (let e = ap head_of s in omega (arith, e))
unsolicited_no words h (UrcRule form text name) s = h form (text ++ 32 ∷ name) (ap (drop 12) s.0)

-- nor behind `unsolicited`
pub no_unsolicited : (words : List ℕ) → HaveNoForm words → SaysNone part.Form (codes "unsolicited " ++ words)
no_unsolicited words h = record { says = unsolicited_no words h; lacks = record { word = codes "unsolicited "; is_word = inr refl; rest = words; split = refl; none = h } }

name_no : (words : List ℕ) (form : Form) (rest : List ℕ) → words ≡ form_text form ++ 32 ∷ rest → LacksByte 32 rest → SaysNoRule (codes "unsolicited " ++ words)
name_no words form rest w h (FinalRule other text) s = absurd (let e = ap head_of s in omega (arith, e))
name_no words form rest w h (UrcRule other text name) s =
    let same = same_front 32 (form_text form) (form_text other) rest (text ++ 32 ∷ name) (lacks_form form) (lacks_form other) (sym w ∙ ap (drop 12) s.0) in
    lacks_middle 32 text name (rw (sym same.1) h)

-- no name behind the form
pub no_name : (words : List ℕ) (form : Form) (rest : List ℕ) → words ≡ form_text form ++ 32 ∷ rest → LacksByte 32 rest → SaysNone part.Name (codes "unsolicited " ++ words)
no_name words form rest w h = record {
  says = name_no words form rest w h;
  lacks = record { form = form; rest = rest; split = ap (λ (x : List ℕ). codes "unsolicited " ++ x) w; none = h };
}

-- behind `final` a form and a text are a rule
pub is_final : (words text : List ℕ) (form : Form) → words ≡ form_text form ++ 32 ∷ text → SaysRule (codes "final " ++ words) (FinalRule form text)
is_final words text form e = ap (λ (w : List ℕ). codes "final " ++ w) e

-- behind `unsolicited` a form, a text and a name without blanks are one
pub is_unsolicited : (words rest text name : List ℕ) (form : Form) → words ≡ form_text form ++ 32 ∷ rest → LacksByte 32 name → rest ≡ text ++ 32 ∷ name → SaysRule (codes "unsolicited " ++ words) (UrcRule form text name)
is_unsolicited words rest text name form e lacks f =
    (ap (λ (w : List ℕ). codes "unsolicited " ++ w) e ∙ ap (λ (r : List ℕ). codes "unsolicited " ++ form_text form ++ 32 ∷ r) f, lacks)

rule_no : (line : List ℕ) → ((rest : List ℕ) → line ≢ codes "final " ++ rest) → ((rest : List ℕ) → line ≢ codes "unsolicited " ++ rest) → SaysNoRule line
rule_no line f u (FinalRule form text) s = f (form_text form ++ 32 ∷ text) s
rule_no line f u (UrcRule form text name) s = u (form_text form ++ 32 ∷ (text ++ 32 ∷ name)) s.0

-- neither word stands first
pub no_rule : (line : List ℕ) → ((rest : List ℕ) → line ≢ codes "final " ++ rest) → ((rest : List ℕ) → line ≢ codes "unsolicited " ++ rest) → SaysNone part.Word line
no_rule line f u = record { says = rule_no line f u; lacks = record { no_final = f; no_unsolicited = u } }

-- ## One rule a line

-- the last of these octets cuts a text in one way
one_cut : (c : ℕ) (a b x y : List ℕ) → LacksByte c x → LacksByte c y → a ++ c ∷ x ≡ b ++ c ∷ y → (a ≡ b) × (x ≡ y)
one_cut c [] [] x y h k e = (refl, ap (drop 1) e)
one_cut c [] (z ∷ b) x y h k e = absurd (lacks_middle c b y (rw (sym (ap (drop 1) e)) h))
one_cut c (z ∷ a) [] x y h k e = absurd (lacks_middle c a x (rw (ap (drop 1) e) k))
one_cut c (z ∷ a) (w ∷ b) x y h k e =
    let rest = one_cut c a b x y h k (ap (drop 1) e) in
    let first : z ≡ w = ap head_of e in
    (rw (first, rest.0) refl, rest.1)

one_form_at : (f g : Form) → form_text f ≡ form_text g → f ≡ g
one_form_at Line Line e = refl
one_form_at Line Prefix e = absurd (let h = ap head_of e in omega (arith, h))
one_form_at Line Quoted e = absurd (let h = ap head_of e in omega (arith, h))
one_form_at Line Report e = absurd (let h = ap head_of e in omega (arith, h))
one_form_at Line OpenReport e = absurd (let h = ap head_of e in omega (arith, h))
one_form_at Prefix Line e = absurd (let h = ap head_of e in omega (arith, h))
one_form_at Prefix Prefix e = refl
one_form_at Prefix Quoted e = absurd (let h = ap head_of e in omega (arith, h))
one_form_at Prefix Report e = absurd (let h = ap head_of e in omega (arith, h))
one_form_at Prefix OpenReport e = absurd (let h = ap head_of e in omega (arith, h))
one_form_at Quoted Line e = absurd (let h = ap head_of e in omega (arith, h))
one_form_at Quoted Prefix e = absurd (let h = ap head_of e in omega (arith, h))
one_form_at Quoted Quoted e = refl
one_form_at Quoted Report e = absurd (let h = ap head_of e in omega (arith, h))
one_form_at Quoted OpenReport e = absurd (let h = ap head_of e in omega (arith, h))
one_form_at Report Line e = absurd (let h = ap head_of e in omega (arith, h))
one_form_at Report Prefix e = absurd (let h = ap head_of e in omega (arith, h))
one_form_at Report Quoted e = absurd (let h = ap head_of e in omega (arith, h))
one_form_at Report Report e = refl
one_form_at Report OpenReport e = absurd (let h = ap head_of e in omega (arith, h))
one_form_at OpenReport Line e = absurd (let h = ap head_of e in omega (arith, h))
one_form_at OpenReport Prefix e = absurd (let h = ap head_of e in omega (arith, h))
one_form_at OpenReport Quoted e = absurd (let h = ap head_of e in omega (arith, h))
one_form_at OpenReport Report e = absurd (let h = ap head_of e in omega (arith, h))
one_form_at OpenReport OpenReport e = refl

-- a line says one rule
pub one_rule : (line : List ℕ) (a b : Rule) → SaysRule line a → SaysRule line b → a ≡ b
one_rule line (FinalRule f t) (FinalRule g u) s r =
    let same = same_front 32 (form_text f) (form_text g) t u (lacks_form f) (lacks_form g) (ap (drop 6) (sym s ∙ r)) in
    rw (one_form_at f g same.0, same.1) refl
one_rule line (FinalRule f t) (UrcRule g u n) s r = absurd (let e = ap head_of (sym s ∙ r.0) in omega (arith, e))
one_rule line (UrcRule f t m) (FinalRule g u) s r = absurd (let e = ap head_of (sym r ∙ s.0) in omega (arith, e))
one_rule line (UrcRule f t m) (UrcRule g u n) s r =
    let same = same_front 32 (form_text f) (form_text g) (t ++ 32 ∷ m) (u ++ 32 ∷ n) (lacks_form f) (lacks_form g) (ap (drop 12) (sym s.0 ∙ r.0)) in
    let cut = one_cut 32 t u m n s.1 r.1 same.1 in
    rw (one_form_at f g same.0, cut.0, cut.1) refl
