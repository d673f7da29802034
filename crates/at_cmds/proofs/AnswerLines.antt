-- Lines of answers.
use Rattle.std.specs.Prelude.{◌≡◌, ℕ, suc, ◌+◌, ◌<◌, ◌≤◌, nat_eq, Bool, true, false, List, [], ◌∷◌, ◌++◌, length, take, drop, Option, Some, None, IfSome, refl, if◌then◌else◌, codes}
use Rattle.std.specs.List.{starts_with, filter_map, position_from}
use Rattle.std.specs.Str.{bytes_eq}
use Rattle.std.proofs.Common.{arith, ap, sym, ◌∙◌, add-one, get_or, drop-cons, append-nil}
use Rattle.std.proofs.Math.Seq.{take-suc}
use Rattle.std.proofs.lemmas.List.{take-append-drop}
use Rattle.std.proofs.lemmas.List.Elements.{filter_map-append}
use Rattle.at_text.specs.declared.answer.AnswerLine.{AnswerLine}
use Rattle.at_text.specs.declared.finals.Final.{Final}
use Rattle.at_text.specs.declared.finals.Final.TheVariants.{Good, Error, Cme, Named}
use Rattle.at_text.specs.Finals.{final_of}
use Rattle.at_text.specs.Octets.{number_in}
use Rattle.at_cmds.specs.declared.reply.Context.{Context}
use Rattle.at_cmds.specs.declared.reply.Reply.TheVariants.{Contexts}
use Rattle.at_cmds.specs.Replies.{named_from, context_in, is_malformed_context, takes_memory}
use Rattle.at_cmds.proofs.values_read.ValueForms.{if_some, holds_of}
use Rattle.at_cmds.proofs.command_texts.TextTable.{started}

-- a CME code has its whole name
abbrev IsLong : List ℕ → Final → Type 0
IsLong text Good = Unit {0}
IsLong text Error = Unit {0}
IsLong text (Cme n) = 11 ≤ length text
IsLong text (Named place) = Unit {0}

long_start : (text : List ℕ) → starts_with nat_eq text (codes "+CME ERROR:") ≡ true → 11 ≤ length text
long_start text begins =
    let whole : length text ≡ length (codes "+CME ERROR:" ++ drop 11 text) = ap length (started text (codes "+CME ERROR:") begins) in
    omega arith

final_long : (text : List ℕ) → IfSome (final_of text) (IsLong text)
final_long text =
    let behind = if starts_with nat_eq text (codes "+CME ERROR:") then Some (Cme (number_in (drop 11 text))) else None in
    if_some (bytes_eq text (codes "OK")) (Some Good) (if bytes_eq text (codes "ERROR") then Some Error else behind) (IsLong text)
    (λ is. tt)
    (λ other.
    if_some (bytes_eq text (codes "ERROR")) (Some Error) behind (IsLong text)
    (λ is. tt)
    (λ others. if_some (starts_with nat_eq text (codes "+CME ERROR:")) (Some (Cme (number_in (drop 11 text)))) None (IsLong text) (long_start text) (λ none. tt)))

-- a line that says a CME number has the whole name of that code, 11 octets
pub cme_long : (text : List ℕ) (n : Option ℕ) → final_of text ≡ Some (Cme n) → 11 ≤ length text
cme_long text n is = holds_of (final_of text) (IsLong text) (final_long text) (Cme n) is

at_line : (lines : List AnswerLine) (i : ℕ) (line : AnswerLine) → i < length lines → line ≡ get_or lines i line → drop i lines ≡ line ∷ drop (i + 1) lines
at_line lines i line inside is = rw add-one (drop-cons lines i line inside ∙ ap (λ x. x ∷ drop (suc i) lines) (sym is))

first_is : (test : AnswerLine → Bool) (i : ℕ) (line : AnswerLine) (lines : List AnswerLine) → test line ≡ true → position_from test i (line ∷ lines) ≡ Some i
first_is test i line lines so = rw so refl

first_is_not : (test : AnswerLine → Bool) (i : ℕ) (line : AnswerLine) (lines : List AnswerLine) → test line ≡ false → position_from test i (line ∷ lines) ≡ position_from test (i + 1) lines
first_is_not test i line lines other = rw other refl

-- a line that begins with the name is the first of those that are left
pub named_here : (name : List ℕ) (lines : List AnswerLine) (i : ℕ) (line : AnswerLine) → i < length lines → line ≡ get_or lines i line → starts_with nat_eq line.text name ≡ true → named_from name i (drop i lines) ≡ Some (i, drop (length name) line.text)
named_here name lines i line inside is begins = ap (named_from name i) (at_line lines i line inside is) ∙ rw begins refl

-- another line is passed over
pub named_passed : (name : List ℕ) (lines : List AnswerLine) (i : ℕ) (line : AnswerLine) → i < length lines → line ≡ get_or lines i line → starts_with nat_eq line.text name ≡ false → named_from name i (drop i lines) ≡ named_from name (i + 1) (drop (i + 1) lines)
named_passed name lines i line inside is other = ap (named_from name i) (at_line lines i line inside is) ∙ rw other refl

-- a line that is malformed is the first of those that are left
pub malformed_here : (lines : List AnswerLine) (i : ℕ) (line : AnswerLine) → i < length lines → line ≡ get_or lines i line → is_malformed_context line ≡ true → position_from is_malformed_context i (drop i lines) ≡ Some i
malformed_here lines i line inside is so = ap (position_from is_malformed_context i) (at_line lines i line inside is) ∙ first_is is_malformed_context i line (drop (i + 1) lines) so

-- another line is passed over
pub malformed_passed : (lines : List AnswerLine) (i : ℕ) (line : AnswerLine) → i < length lines → line ≡ get_or lines i line → is_malformed_context line ≡ false → position_from is_malformed_context i (drop i lines) ≡ position_from is_malformed_context (i + 1) (drop (i + 1) lines)
malformed_passed lines i line inside is other = ap (position_from is_malformed_context i) (at_line lines i line inside is) ∙ first_is_not is_malformed_context i line (drop (i + 1) lines) other

split_at : (lines : List AnswerLine) (i : ℕ) (line : AnswerLine) → i < length lines → line ≡ get_or lines i line → take (i + 1) lines ≡ take i lines ++ line ∷ []
split_at lines i line inside is = rw add-one (take-suc lines i line inside ∙ ap (λ x. take i lines ++ x ∷ []) (sym is))

one_none : (form : AnswerLine → Option Context) (line : AnswerLine) (lines : List AnswerLine) → form line ≡ None → filter_map form (line ∷ lines) ≡ filter_map form lines
one_none form line lines none = rw none refl

one_some : (form : AnswerLine → Option Context) (line : AnswerLine) (context : Context) (lines : List AnswerLine) → form line ≡ Some context → filter_map form (line ∷ lines) ≡ context ∷ filter_map form lines
one_some form line context lines some = rw some refl

-- a line without a context adds none
pub more_none : (lines : List AnswerLine) (i : ℕ) (line : AnswerLine) → i < length lines → line ≡ get_or lines i line → None ≡ context_in line → filter_map context_in (take (i + 1) lines) ≡ filter_map context_in (take i lines)
more_none lines i line inside is none =
    ap (filter_map context_in) (split_at lines i line inside is)
    ∙ filter_map-append context_in (take i lines) (line ∷ [])
    ∙ ap (λ x. filter_map context_in (take i lines) ++ x) (one_none context_in line [] (sym none))
    ∙ append-nil (filter_map context_in (take i lines))

-- a line with a context adds it at the end
pub more_some : (lines : List AnswerLine) (i : ℕ) (line : AnswerLine) (context : Context) → i < length lines → line ≡ get_or lines i line → Some context ≡ context_in line → filter_map context_in (take (i + 1) lines) ≡ filter_map context_in (take i lines) ++ context ∷ []
more_some lines i line context inside is some =
    ap (filter_map context_in) (split_at lines i line inside is)
    ∙ filter_map-append context_in (take i lines) (line ∷ [])
    ∙ ap (λ x. filter_map context_in (take i lines) ++ x) (one_some context_in line context [] (sym some))

any_memory : (before after : List Context) (context : Context) → takes_memory (Contexts (before ++ context ∷ after)) ≡ true
any_memory [] after context = refl
any_memory (first ∷ before) after context = refl

-- lines with a context make a list that takes memory
pub one_left : (lines : List AnswerLine) (i : ℕ) (line : AnswerLine) (context : Context) → i < length lines → line ≡ get_or lines i line → Some context ≡ context_in line → takes_memory (Contexts (filter_map context_in lines)) ≡ true
one_left lines i line context inside is some =
    let parts : filter_map context_in lines ≡ filter_map context_in (take i lines) ++ context ∷ filter_map context_in (drop (i + 1) lines) =
    ap (filter_map context_in) (sym (take-append-drop i lines) ∙ ap (λ x. take i lines ++ x) (at_line lines i line inside is))
    ∙ filter_map-append context_in (take i lines) (line ∷ drop (i + 1) lines)
    ∙ ap (λ x. filter_map context_in (take i lines) ++ x) (one_some context_in line context (drop (i + 1) lines) (sym some)) in
    ap (λ x. takes_memory (Contexts x)) parts ∙ any_memory (filter_map context_in (take i lines)) (filter_map context_in (drop (i + 1) lines)) context
