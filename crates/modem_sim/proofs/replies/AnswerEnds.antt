-- How answers end, and that nothing in them is unsolicited.
use Rattle.std.specs.Prelude.{◌≡◌, ℕ, ◌<◌, ◌==◌, ◌&&◌, Bool, true, false, List, [], ◌∷◌, ◌++◌, map, Option, Some, None, refl, if◌then◌else◌, codes}
use Rattle.std.specs.Fmt.{decimal}
use Rattle.std.specs.List.{list_all, list_any}
use Rattle.std.proofs.Common.{arith, sym, ap, ◌∙◌, subst}
use Rattle.std.proofs.lemmas.Bool.Decides.{nat_tests}
use Rattle.at_text.specs.declared.answer.AnswerLine.{AnswerLine}
use Rattle.at_text.specs.Dialects.{standard, is_solicited}
use Rattle.at_text.specs.Finals.{is_final}
use Rattle.at_text.specs.Octets.{is_digit, is_comma, is_quote, begins, skip_blanks, after_comma}
use Rattle.at_cmds.specs.declared.command.Command.{Command}
use Rattle.at_cmds.specs.declared.command.Command.TheVariants.{PinQuery, RegQuery, OperQuery, ContextQuery, AttachQuery}
use Rattle.at_cmds.specs.declared.command.OperChoice.{OperChoice}
use Rattle.at_cmds.specs.declared.command.OperChoice.TheVariants.{Automatic, Deregister, Manual}
use Rattle.at_cmds.proofs.command_texts.CommandLines.{both_true}
use Rattle.modem_sim.specs.declared.contexts.PdpContext.{PdpContext}
use Rattle.modem_sim.specs.declared.state.Lock.{Lock}
use Rattle.modem_sim.specs.declared.state.Lock.TheVariants.{Ready, NeedPin, NeedPuk}
use Rattle.modem_sim.specs.declared.state.ModemState.{ModemState}
use Rattle.at_cmds.specs.Values.{command_of}
use Rattle.modem_sim.specs.Reading.{is_attention}
use Rattle.modem_sim.specs.Steps.{Step, line_of, error_text, refusal_of, told_texts, good_answer, is_registered, obeyed_unless, step_by}
use Rattle.modem_sim.specs.StateTexts.{pin_text, cell_text, reg_text, oper_text, context_text, attached_text}
use Rattle.modem_sim.specs.Laws.{EndsOnce, AnswersWell, AnswersWellAlways, IsStart, reached}
use Rattle.modem_sim.specs.declared.modem.ModemStart.{ModemStart}
use Rattle.modem_sim.proofs.modem_steps.AnswerLines.{registered_text}
use Rattle.modem_sim.proofs.modem_steps.DecimalNumbers.{decimal_digits}
use Rattle.modem_sim.proofs.modem_steps.ReachedStates.{IsKept, reached_kept}
use Rattle.modem_sim.proofs.replies.RepliesReadBack.{read_back}
use Rattle.modem_sim.proofs.modem_steps.StandardModems.{step_standard}

abbrev is_code : AnswerLine → Bool
is_code line = is_final line.text

abbrev is_asked : AnswerLine → Bool
is_asked line = is_solicited standard line.text

contexts_no_code : (contexts : List PdpContext) → list_any is_code (map line_of (map context_text contexts)) ≡ false
contexts_no_code [] = refl
contexts_no_code (c ∷ contexts) = contexts_no_code contexts

pin_no_code : (lock : Lock) → list_any is_code (line_of (pin_text lock) ∷ []) ≡ false
pin_no_code Ready = refl
pin_no_code (NeedPin pin tries) = refl
pin_no_code NeedPuk = refl

reg_no_code : (n : ℕ) (registered : Bool) → list_any is_code (line_of (reg_text n registered) ∷ []) ≡ false
reg_no_code n true = refl
reg_no_code n false = refl

oper_no_code : (oper : OperChoice) → list_any is_code (line_of (oper_text oper) ∷ []) ≡ false
oper_no_code Automatic = refl
oper_no_code Deregister = refl
oper_no_code (Manual oper) = refl

attached_no_code : (attached : Bool) → list_any is_code (line_of (attached_text attached) ∷ []) ≡ false
attached_no_code true = refl
attached_no_code false = refl

-- what a command is told before OK holds no final code
no_code : (s : ModemState) (c : Command) → list_any is_code (map line_of (told_texts s c)) ≡ false
no_code s PinQuery = pin_no_code s.lock
no_code s RegQuery = reg_no_code s.reports (is_registered s.lock s.oper)
no_code s OperQuery = oper_no_code s.oper
no_code s ContextQuery = contexts_no_code s.contexts
no_code s AttachQuery = attached_no_code s.attached
no_code s c = refl

error_code_at : (plain numbered : Bool) (digits words : List ℕ) → is_final (if plain then codes "ERROR" else if numbered then codes "+CME ERROR: " ++ digits else codes "+CME ERROR: " ++ words) ≡ true
error_code_at true numbered digits words = refl
error_code_at false true digits words = refl
error_code_at false false digits words = refl

error_asked_at : (plain numbered : Bool) (digits words : List ℕ) → is_solicited standard (if plain then codes "ERROR" else if numbered then codes "+CME ERROR: " ++ digits else codes "+CME ERROR: " ++ words) ≡ true
error_asked_at true numbered digits words = refl
error_asked_at false true digits words = refl
error_asked_at false false digits words = refl

good_ends : (texts : List (List ℕ)) → list_any is_code (map line_of texts) ≡ false → EndsOnce (good_answer texts)
good_ends texts none = record { front = map line_of texts; code = line_of (codes "OK"); parts = refl; before = none; last = refl }

code_ends : (text : List ℕ) → is_final text ≡ true → EndsOnce (line_of text ∷ [])
code_ends text is = record { front = []; code = line_of text; parts = refl; before = refl; last = is }

obeyed_ends : (o : Option ℕ) (s : ModemState) (c : Command) → EndsOnce (obeyed_unless o s c).answer
obeyed_ends None s c = good_ends (told_texts s c) (no_code s c)
obeyed_ends (Some number) s c = code_ends (error_text s.errors number) (error_code_at (s.errors == 0) (s.errors == 1) _ _)

step_by_ends : (s : ModemState) (o : Option Command) → EndsOnce (step_by s o).answer
step_by_ends s None = code_ends (codes "ERROR") refl
step_by_ends s (Some c) = obeyed_ends (refusal_of s c) s c

-- the first comma behind digits
comma_behind : (digits rest : List ℕ) → list_all is_digit digits ≡ true → after_comma (digits ++ 44 ∷ rest) ≡ Some rest
comma_behind [] rest all = refl
comma_behind (c ∷ digits) rest all =
    let parts = both_true (is_digit c) (list_all is_digit digits) all in
    let digit = parts.0 in
    let other : is_comma c ≡ false = grind (arith, nat_tests) in
    rw other (comma_behind digits rest parts.1)

neither : (b : Bool) → (b && false) ≡ false
neither true = refl
neither false = refl

stat_asked : (n : ℕ) (rest : List ℕ) → n < 256 → begins is_quote (skip_blanks rest) ≡ false → is_solicited standard (codes "+CREG: " ++ (decimal n ++ 44 ∷ rest)) ≡ true
stat_asked n rest small other =
    rw (comma_behind (decimal n) rest (decimal_digits n small), other, neither (begins is_digit (skip_blanks (decimal n ++ 44 ∷ rest)))) refl

reg_asked : (n : ℕ) (registered : Bool) → n < 256 → is_solicited standard (reg_text n registered) ≡ true
reg_asked n false small = stat_asked n (codes "0") small refl
reg_asked n true small = ap (is_solicited standard) (sym (registered_text n true (cell_text n) refl refl)) ∙ stat_asked n (49 ∷ cell_text n) small refl

contexts_asked : (contexts : List PdpContext) → list_all is_asked (good_answer (map context_text contexts)) ≡ true
contexts_asked [] = refl
contexts_asked (c ∷ contexts) = contexts_asked contexts

pin_asked : (lock : Lock) → is_solicited standard (pin_text lock) ≡ true
pin_asked Ready = refl
pin_asked (NeedPin pin tries) = refl
pin_asked NeedPuk = refl

oper_asked : (oper : OperChoice) → is_solicited standard (oper_text oper) ≡ true
oper_asked Automatic = refl
oper_asked Deregister = refl
oper_asked (Manual oper) = refl

attached_asked : (attached : Bool) → is_solicited standard (attached_text attached) ≡ true
attached_asked true = refl
attached_asked false = refl

one_asked : (text : List ℕ) → is_solicited standard text ≡ true → list_all is_asked (good_answer (text ∷ [])) ≡ true
one_asked text is = rw is refl

told_asked : (s : ModemState) (c : Command) → IsKept s → list_all is_asked (good_answer (told_texts s c)) ≡ true
told_asked s PinQuery kept = one_asked (pin_text s.lock) (pin_asked s.lock)
told_asked s RegQuery kept = one_asked (reg_text s.reports (is_registered s.lock s.oper)) (reg_asked s.reports (is_registered s.lock s.oper) kept.reports)
told_asked s OperQuery kept = one_asked (oper_text s.oper) (oper_asked s.oper)
told_asked s ContextQuery kept = contexts_asked s.contexts
told_asked s AttachQuery kept = one_asked (attached_text s.attached) (attached_asked s.attached)
told_asked s c kept = refl

code_asked : (text : List ℕ) → is_solicited standard text ≡ true → list_all is_asked (line_of text ∷ []) ≡ true
code_asked text is = rw is refl

obeyed_asked : (o : Option ℕ) (s : ModemState) (c : Command) → IsKept s → list_all is_asked (obeyed_unless o s c).answer ≡ true
obeyed_asked None s c kept = told_asked s c kept
obeyed_asked (Some number) s c kept = code_asked (error_text s.errors number) (error_asked_at (s.errors == 0) (s.errors == 1) _ _)

step_by_asked : (s : ModemState) (o : Option Command) → IsKept s → list_all is_asked (step_by s o).answer ≡ true
step_by_asked s None kept = refl
step_by_asked s (Some c) kept = obeyed_asked (refusal_of s c) s c kept

chosen_ends : (at : Bool) (a b : Step) → EndsOnce a.answer → EndsOnce b.answer → EndsOnce (if at then a else b).answer
chosen_ends true a b first second = first
chosen_ends false a b first second = second

chosen_asked : (at : Bool) (a b : Step) → list_all is_asked a.answer ≡ true → list_all is_asked b.answer ≡ true → list_all is_asked (if at then a else b).answer ≡ true
chosen_asked true a b first second = first
chosen_asked false a b first second = second

-- what a modem answers to any line
answers_well : (s : ModemState) (line : List ℕ) → IsKept s → AnswersWell s line
answers_well s line kept = record {
  ends = subst (λ (t : Step). EndsOnce t.answer) (sym (step_standard s line kept.words)) (chosen_ends (is_attention line) (record { state = s; answer = good_answer [] }) (step_by s (command_of line)) (good_ends [] refl) (step_by_ends s (command_of line)));
  solicited = ap (λ (t : Step). list_all is_asked t.answer) (step_standard s line kept.words) ∙ chosen_asked (is_attention line) (record { state = s; answer = good_answer [] }) (step_by s (command_of line)) refl (step_by_asked s (command_of line) kept);
  read_back = λ c is. read_back s line c kept is;
}

-- after whatever lines each answer ends once, has nothing unsolicited, and is read back as the state's reply
pub reached_answers_well : (start : ModemStart) → IsStart start → AnswersWellAlways start
reached_answers_well start is lines line = answers_well (reached start lines) line (reached_kept start lines is)
