-- The standard's lists are its rules.
use Rattle.std.specs.Prelude.{◌≡◌, ℕ, nat_eq, Bool, true, false, ◌&&◌, List, [], ◌∷◌, ◌++◌, length, drop, Option, Some, None, option_map, refl, if◌then◌else◌, codes}
use Rattle.std.specs.List.{starts_with, find}
use Rattle.std.specs.Str.{bytes_eq}
use Rattle.std.proofs.Common.{sym, ◌∙◌, ap}
use Rattle.std.proofs.lemmas.Bool.{eqb-true}
use Rattle.std.proofs.lemmas.Bool.Decides.{Decides-eqb, same_from_decides}
use Rattle.std.proofs.lemmas.List.{append-nil, nil_from_length}
use Rattle.std.proofs.lemmas.Slice.Eq.{starts_is, bytes_eq-Decides}
use Rattle.at_text.specs.declared.finals.Final.{Final}
use Rattle.at_text.specs.declared.finals.Final.TheVariants.{Good, Error, Cme}
use Rattle.at_text.specs.declared.unsolicited.UrcKind.{UrcKind}
use Rattle.at_text.specs.declared.unsolicited.UrcKind.TheVariants.{Ring, Cring, Creg, Cgreg, Cgev, Ciev}
use Rattle.at_text.specs.declared.rules.Form.TheVariants.{Line, Prefix, Report}
use Rattle.at_text.specs.Octets.{number_in, is_digit, skip_blanks, begins, after_comma}
use Rattle.at_text.specs.declared.rules.Pattern.{Pattern}
use Rattle.at_text.specs.Finals.{final_of}
use Rattle.at_text.specs.Unsolicited.{unsolicited_of, is_report, is_without_second}
use Rattle.at_text.specs.Rules.{takes, pattern}
use Rattle.at_text.specs.StandardRules.{AreStandard, standard_finals, standard_urcs}
use Rattle.at_text.proofs.NoRules.{no_rules_standard}
use Rattle.at_text.proofs.dialects.Meeting.{taken, takes_front}

-- a rule of a whole line takes just the line that is its text
pub takes_line : (text line : List ℕ) → takes (pattern Line text) line ≡ bytes_eq line text
takes_line text line =
    same_from_decides (takes (pattern Line text) line) (bytes_eq line text) (
      (λ h. let t = taken (pattern Line text) line h in
          t.whole ∙ ap (λ rest. text ++ rest) (nil_from_length t.rest (eqb-true (length t.rest) 0 t.going)) ∙ append-nil text),
      (λ e. ap (takes (pattern Line text)) (e ∙ sym (append-nil text)) ∙ takes_front (pattern Line text) []),
    )
    (bytes_eq-Decides line text)

and_true : (b : Bool) → (b && true) ≡ b
and_true true = refl
and_true false = refl

-- a rule of a prefix takes just the lines that begin with its text
pub takes_prefix : (text line : List ℕ) → takes (pattern Prefix text) line ≡ starts_with nat_eq line text
takes_prefix text line = and_true (starts_with nat_eq line text)

-- where the text has no comma, the first comma of the line stands behind it
abbrev HasNoComma : List ℕ → Type 0
HasNoComma text = (rest : List ℕ) → after_comma (text ++ rest) ≡ after_comma rest

report_at : (text line : List ℕ) → HasNoComma text → (b : Bool) → starts_with nat_eq line text ≡ b
    → (b && (begins is_digit (skip_blanks (drop (length text) line)) && is_without_second (drop (length text) line)))
    ≡ (b && (begins is_digit (skip_blanks (drop (length text) line)) && is_without_second line))
report_at text line none false e = refl
report_at text line none true e =
    let whole : line ≡ text ++ drop (length text) line = (starts_is Decides-eqb line text (starts_with nat_eq line text) refl).0 e in
    let same : after_comma (drop (length text) line) ≡ after_comma line = sym (ap after_comma whole ∙ none (drop (length text) line)) in
    rw same refl

-- a rule of a report, whose text has no comma, takes just the reports of that name
pub takes_report : (text line : List ℕ) → HasNoComma text → takes (pattern Report text) line ≡ is_report text line
takes_report text line none = report_at text line none (starts_with nat_eq line text) refl

-- ## The first rule that takes a line

step : {X R : Type 0} (test : X → Bool) (f : X → R) (a : X) (rest : List X) (b : Bool) (o : Option R) → test a ≡ b → option_map f (find test rest) ≡ o
    → (if b then Some (f a) else o) ≡ option_map f (find test (a ∷ rest))
step test f a rest true o e h = rw e refl
step test f a rest false o e h = rw e (sym h)

abbrev FinalRow : Type 0
FinalRow = Pattern × (List ℕ → Final)

abbrev first_final : List ℕ → List FinalRow → Option Final
first_final line rows = option_map (λ r. r.1 line) (find (λ r. takes r.0 line) rows)

final_step : (line : List ℕ) (p : Pattern) (says : List ℕ → Final) (rest : List FinalRow) (b : Bool) (o : Option Final) → takes p line ≡ b → o ≡ first_final line rest
    → (if b then Some (says line) else o) ≡ first_final line ((p, says) ∷ rest)
final_step line p says rest b o e h =
    step (λ (r : FinalRow). takes r.0 line) (λ (r : FinalRow). r.1 line) (p, says) rest b o e (sym h)

-- a line is the final code of the first rule of the standard's list that takes it
pub final_rules : (line : List ℕ) → final_of line ≡ first_final line standard_finals
final_rules line =
    final_step line (pattern Line (codes "OK")) (λ l. Good) (drop 1 standard_finals) (bytes_eq line (codes "OK")) _ (takes_line (codes "OK") line)
    (final_step line (pattern Line (codes "ERROR")) (λ l. Error) (drop 2 standard_finals) (bytes_eq line (codes "ERROR")) _ (takes_line (codes "ERROR") line)
    (final_step line (pattern Prefix (codes "+CME ERROR:")) (λ l. Cme (number_in (drop 11 l))) [] (starts_with nat_eq line (codes "+CME ERROR:")) None (takes_prefix (codes "+CME ERROR:") line) refl))

abbrev KindRow : Type 0
KindRow = Pattern × UrcKind

abbrev first_kind : List ℕ → List KindRow → Option UrcKind
first_kind line rows = option_map (λ r. r.1) (find (λ r. takes r.0 line) rows)

kind_step : (line : List ℕ) (p : Pattern) (kind : UrcKind) (rest : List KindRow) (b : Bool) (o : Option UrcKind) → takes p line ≡ b → o ≡ first_kind line rest
    → (if b then Some kind else o) ≡ first_kind line ((p, kind) ∷ rest)
kind_step line p kind rest b o e h =
    step (λ (r : KindRow). takes r.0 line) (λ (r : KindRow). r.1) (p, kind) rest b o e (sym h)

by_prefix : (line text : List ℕ) (kind : UrcKind) (rest : List KindRow) (o : Option UrcKind) → o ≡ first_kind line rest
    → (if starts_with nat_eq line text then Some kind else o) ≡ first_kind line ((pattern Prefix text, kind) ∷ rest)
by_prefix line text kind rest o h =
    kind_step line (pattern Prefix text) kind rest (starts_with nat_eq line text) o (takes_prefix text line) h

by_report : (line text : List ℕ) (kind : UrcKind) (rest : List KindRow) (o : Option UrcKind) → HasNoComma text → o ≡ first_kind line rest
    → (if is_report text line then Some kind else o) ≡ first_kind line ((pattern Report text, kind) ∷ rest)
by_report line text kind rest o none h =
    kind_step line (pattern Report text) kind rest (is_report text line) o (takes_report text line none) h

-- and of the kind of the first unsolicited one
pub kind_rules : (line : List ℕ) → unsolicited_of line ≡ first_kind line standard_urcs
kind_rules line =
    kind_step line (pattern Line (codes "RING")) Ring (drop 1 standard_urcs) (bytes_eq line (codes "RING")) _ (takes_line (codes "RING") line)
    (by_prefix line (codes "+CRING:") Cring (drop 2 standard_urcs) _
    (by_report line (codes "+CREG:") Creg (drop 3 standard_urcs) _ (λ rest. refl)
    (by_report line (codes "+CGREG:") Cgreg (drop 4 standard_urcs) _ (λ rest. refl)
    (by_prefix line (codes "+CGEV:") Cgev (drop 5 standard_urcs) _
    (by_prefix line (codes "+CIEV:") Ciev [] None refl)))))

-- the standard's lists are its rules, and without rules of one's own the dialect is the standard
pub are_standard : AreStandard
are_standard = record { finals = final_rules; kinds = kind_rules; none = no_rules_standard }
