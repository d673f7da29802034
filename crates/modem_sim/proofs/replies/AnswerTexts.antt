-- Each line of an answer is one line as the other end reads it, and no command line.
use Rattle.std.specs.Prelude.{◌≡◌, ℕ, ◌+◌, ◌<◌, ◌≤◌, ◌==◌, ◌&&◌, nat_le, Bool, true, false, List, [], ◌∷◌, ◌++◌, length, map, Option, Some, None, IfSome, refl, if◌then◌else◌, codes}
use Rattle.std.specs.Fmt.{decimal, digits}
use Rattle.std.specs.List.{list_all, list_any}
use Rattle.std.proofs.Common.{arith, ap, ◌∙◌}
use Rattle.std.proofs.lemmas.Bool.Decides.{nat_tests}
use Rattle.std.proofs.lemmas.Bool.{and_parts}
use Rattle.std.proofs.lemmas.List.{length-append}
use Rattle.std.proofs.lemmas.Fmt.{length-decimal-le}
use Rattle.at_text.specs.Commands.{has_at, is_printable}
use Rattle.at_text.specs.Lines.{is_line_end, is_filled}
use Rattle.at_text.specs.Octets.{is_digit}
use Rattle.at_cmds.specs.Commands.{pdp_text}
use Rattle.at_cmds.specs.declared.command.Command.{Command}
use Rattle.at_cmds.specs.declared.command.Command.TheVariants.{PinQuery, RegQuery, Signal, OperQuery, ContextQuery, AttachQuery}
use Rattle.at_cmds.specs.declared.command.OperChoice.{OperChoice}
use Rattle.at_cmds.specs.declared.command.OperChoice.TheVariants.{Automatic, Deregister, Manual}
use Rattle.at_cmds.specs.declared.command.Pdp.{Pdp}
use Rattle.at_cmds.specs.declared.command.Pdp.TheVariants.{Ip, Ipv6, Ipv4v6}
use Rattle.at_cmds.specs.Forms.{in_quotes, is_in_apn}
use Rattle.at_cmds.proofs.values_read.ValueForms.{holds_of}
use Rattle.at_cmds.proofs.command_texts.CommandLines.{all_append, all_weaker, apn_printable, both_true, digit_printable, run_is}
use Rattle.modem_sim.specs.declared.contexts.PdpContext.{PdpContext}
use Rattle.modem_sim.specs.declared.modem.ModemStart.{ModemStart}
use Rattle.modem_sim.specs.declared.state.Lock.{Lock}
use Rattle.modem_sim.specs.declared.state.Lock.TheVariants.{Ready, NeedPin, NeedPuk}
use Rattle.modem_sim.specs.declared.state.ModemState.{ModemState}
use Rattle.at_cmds.specs.Values.{command_of}
use Rattle.modem_sim.specs.Reading.{is_attention}
use Rattle.modem_sim.specs.Steps.{Step, line_of, error_text, is_registered, refusal_of, told_texts, good_answer, obeyed_unless, step_by}
use Rattle.modem_sim.specs.LineSteps.{step}
use Rattle.modem_sim.specs.StateTexts.{pin_text, cell_text, reg_text, signal_text, oper_text, context_text, attached_text}
use Rattle.modem_sim.specs.Laws.{IsStart}
use Rattle.modem_sim.specs.Replied.{AnswersInLines, is_answer_line}
use Rattle.modem_sim.proofs.modem_steps.ReachedStates.{IsKept, IsContextKept, AreContextsKept, IsOperKept, reached_kept}
use Rattle.modem_sim.proofs.modem_steps.DecimalNumbers.{decimal_digits}
use Rattle.modem_sim.proofs.replies.RepliesReadBack.{refusals_are, text_by}
use Rattle.modem_sim.proofs.modem_steps.StandardModems.{step_standard}

-- ## Printable texts

record IsPlain (n : ℕ) (text : List ℕ) : Type 0 where
  all : list_all is_printable text ≡ true
  size : length text ≤ n

within : (m n : ℕ) → nat_le m n ≡ true → m ≤ n
within m n is = grind (arith, nat_tests)

plain : (n : ℕ) (text : List ℕ) → (list_all is_printable text && nat_le (length text) n) ≡ true → IsPlain n text
plain n text is = let parts = and_parts _ _ is in record { all = parts.0; size = within (length text) n parts.1 }

joined : (m n : ℕ) (a b : List ℕ) → IsPlain m a → IsPlain n b → IsPlain (m + n) (a ++ b)
joined m n a b first second =
    let size : length (a ++ b) ≡ length a + length b = length-append a b in
    let one = first.size in
    let two = second.size in
    record { all = all_append is_printable a b first.all second.all; size = omega arith }

number : (n : ℕ) → n < 256 → IsPlain 3 (decimal n)
number n small = record {
  all = all_weaker is_digit is_printable digit_printable (decimal n) (decimal_digits n small);
  size = length-decimal-le 3 n (omega arith) (omega arith) (omega arith);
}

quoted : (n : ℕ) (text : List ℕ) → IsPlain n text → IsPlain (n + 2) (in_quotes text)
quoted n text is =
    let all = joined n 1 text (34 ∷ []) is (plain 1 (34 ∷ []) refl) in
    let size = all.size in
    record { all = all.all; size = omega arith }

not_end : (c : ℕ) → is_printable c ≡ true → is_line_end c ≡ false
not_end c is = grind (arith, nat_tests)

no_ends : (text : List ℕ) → list_all is_printable text ≡ true → list_any is_line_end text ≡ false
no_ends [] all = refl
no_ends (c ∷ text) all = let parts = both_true (is_printable c) (list_all is_printable text) all in rw (not_end c parts.0) (no_ends text parts.1)

-- what is said of a line of an answer
abbrev Told : List ℕ → Type 0
Told text = is_answer_line (line_of text) ≡ true

told : (text : List ℕ) → is_filled text ≡ true → has_at text ≡ false → IsPlain 512 text → Told text
told text filled other is =
    let small = is.size in
    let short : nat_le (length text) 512 ≡ true = grind (arith, nat_tests) in
    rw (filled, other, short, no_ends text is.all) refl

-- ## Errors

abbrev IsTold : ℕ → Type 0
IsTold number = (plain numbered : Bool) → Told (text_by plain numbered number)

not_allowed : IsTold 3
unfolding digits
not_allowed true numbered = refl
not_allowed false true = refl
not_allowed false false = refl

pin_required : IsTold 11
unfolding digits
pin_required true numbered = refl
pin_required false true = refl
pin_required false false = refl

puk_required : IsTold 12
unfolding digits
puk_required true numbered = refl
puk_required false true = refl
puk_required false false = refl

incorrect_password : IsTold 16
unfolding digits
incorrect_password true numbered = refl
incorrect_password false true = refl
incorrect_password false false = refl

no_network : IsTold 30
unfolding digits
no_network true numbered = refl
no_network false true = refl
no_network false false = refl

refusals : (s : ModemState) (c : Command) → IfSome (refusal_of s c) IsTold
refusals s c = refusals_are IsTold not_allowed pin_required puk_required incorrect_password no_network s c

-- ## What a command is told

further : (m n : ℕ) (text : List ℕ) → m ≤ n → IsPlain m text → IsPlain n text
further m n text less is = let size = is.size in record { all = is.all; size = omega arith }

pin_told : (lock : Lock) → Told (pin_text lock)
pin_told Ready = refl
pin_told (NeedPin pin tries) = refl
pin_told NeedPuk = refl

cell_plain : (b : Bool) → IsPlain 22 (if b then codes ",\"00A1\",\"01B2C3D4\",7" else [])
cell_plain true = plain 22 (codes ",\"00A1\",\"01B2C3D4\",7") refl
cell_plain false = plain 22 [] refl

reg_head : (n : ℕ) → n < 256 → IsPlain 10 (codes "+CREG: " ++ decimal n)
reg_head n small = joined 7 3 (codes "+CREG: ") (decimal n) (plain 7 (codes "+CREG: ") refl) (number n small)

reg_told : (n : ℕ) (registered : Bool) → n < 256 → Told (reg_text n registered)
reg_told n false small =
    told (reg_text n false) refl refl (further 12 512 (reg_text n false) (omega arith) (joined 10 2 (codes "+CREG: " ++ decimal n) (codes ",0") (reg_head n small) (plain 2 (codes ",0") refl)))
reg_told n true small =
    let front = joined 10 2 (codes "+CREG: " ++ decimal n) (codes ",1") (reg_head n small) (plain 2 (codes ",1") refl) in
    told (reg_text n true) refl refl (further 34 512 (reg_text n true) (omega arith) (joined 12 22 ((codes "+CREG: " ++ decimal n) ++ codes ",1") (cell_text n) front (cell_plain (n == 2))))

signal_told : (rssi ber : ℕ) → rssi < 256 → ber < 256 → Told (signal_text rssi ber)
signal_told rssi ber first second =
    let one = joined 6 3 (codes "+CSQ: ") (decimal rssi) (plain 6 (codes "+CSQ: ") refl) (number rssi first) in
    let two = joined 9 1 (codes "+CSQ: " ++ decimal rssi) (codes ",") one (plain 1 (codes ",") refl) in
    told (signal_text rssi ber) refl refl (further 13 512 (signal_text rssi ber) (omega arith) (joined 10 3 ((codes "+CSQ: " ++ decimal rssi) ++ codes ",") (decimal ber) two (number ber second)))

oper_told : (oper : OperChoice) → IsOperKept oper → Told (oper_text oper)
oper_told Automatic kept = refl
oper_told Deregister kept = refl
oper_told (Manual oper) kept =
    let run = run_is is_digit 5 6 oper kept.1 in
    let own : IsPlain 6 oper = record { all = all_weaker is_digit is_printable digit_printable oper run.all; size = run.most } in
    let one = joined 11 8 (codes "+COPS: 1,2,") (in_quotes oper) (plain 11 (codes "+COPS: 1,2,") refl) (quoted 6 oper own) in
    told (oper_text (Manual oper)) refl refl (further 21 512 (oper_text (Manual oper)) (omega arith) (joined 19 2 (codes "+COPS: 1,2," ++ in_quotes oper) (codes ",7") one (plain 2 (codes ",7") refl)))

pdp_plain : (pdp : Pdp) → IsPlain 6 (pdp_text pdp)
pdp_plain Ip = plain 6 (codes "IP") refl
pdp_plain Ipv6 = plain 6 (codes "IPV6") refl
pdp_plain Ipv4v6 = plain 6 (codes "IPV4V6") refl

context_told : (c : PdpContext) → IsContextKept c → Told (context_text c)
context_told c kept =
    let run = run_is is_in_apn 1 63 c.apn kept.name in
    let apn : IsPlain 63 c.apn = record { all = all_weaker is_in_apn is_printable apn_printable c.apn run.all; size = run.most } in
    let one = joined 10 3 (codes "+CGDCONT: ") (decimal c.cid) (plain 10 (codes "+CGDCONT: ") refl) (number c.cid kept.cid) in
    let two = joined 13 1 (codes "+CGDCONT: " ++ decimal c.cid) (codes ",") one (plain 1 (codes ",") refl) in
    let three = joined 14 8 ((codes "+CGDCONT: " ++ decimal c.cid) ++ codes ",") (in_quotes (pdp_text c.pdp)) two (quoted 6 (pdp_text c.pdp) (pdp_plain c.pdp)) in
    let four = joined 22 1 (((codes "+CGDCONT: " ++ decimal c.cid) ++ codes ",") ++ in_quotes (pdp_text c.pdp)) (codes ",") three (plain 1 (codes ",") refl) in
    told (context_text c) refl refl (further 88 512 (context_text c) (omega arith) (joined 23 65 ((((codes "+CGDCONT: " ++ decimal c.cid) ++ codes ",") ++ in_quotes (pdp_text c.pdp)) ++ codes ",") (in_quotes c.apn) four (quoted 63 c.apn apn)))

attached_told : (attached : Bool) → Told (attached_text attached)
attached_told true = refl
attached_told false = refl

contexts_told : (contexts : List PdpContext) → AreContextsKept contexts → list_all is_answer_line (good_answer (map context_text contexts)) ≡ true
contexts_told [] kept = refl
contexts_told (c ∷ contexts) kept = rw (context_told c kept.0) (contexts_told contexts kept.1)

one_told : (text : List ℕ) → Told text → list_all is_answer_line (good_answer (text ∷ [])) ≡ true
one_told text is = rw is refl

texts_told : (s : ModemState) (c : Command) → IsKept s → list_all is_answer_line (good_answer (told_texts s c)) ≡ true
texts_told s PinQuery kept = one_told (pin_text s.lock) (pin_told s.lock)
texts_told s RegQuery kept = one_told (reg_text s.reports (is_registered s.lock s.oper)) (reg_told s.reports (is_registered s.lock s.oper) kept.reports)
texts_told s Signal kept = one_told (signal_text s.rssi s.ber) (signal_told s.rssi s.ber kept.rssi kept.ber)
texts_told s OperQuery kept = one_told (oper_text s.oper) (oper_told s.oper kept.oper)
texts_told s ContextQuery kept = contexts_told s.contexts kept.contexts
texts_told s AttachQuery kept = one_told (attached_text s.attached) (attached_told s.attached)
texts_told s c kept = refl

code_told : (text : List ℕ) → Told text → list_all is_answer_line (line_of text ∷ []) ≡ true
code_told text is = rw is refl

obeyed_told : (o : Option ℕ) (s : ModemState) (c : Command) → refusal_of s c ≡ o → IsKept s → list_all is_answer_line (obeyed_unless o s c).answer ≡ true
obeyed_told None s c is kept = texts_told s c kept
obeyed_told (Some number) s c is kept =
    let said = holds_of (refusal_of s c) IsTold (refusals s c) number is in
    code_told (error_text s.errors number) (said (s.errors == 0) (s.errors == 1))

step_by_told : (s : ModemState) (o : Option Command) → IsKept s → list_all is_answer_line (step_by s o).answer ≡ true
step_by_told s None kept = refl
step_by_told s (Some c) kept = obeyed_told (refusal_of s c) s c refl kept

chosen_told : (at : Bool) (a b : Step) → list_all is_answer_line a.answer ≡ true → list_all is_answer_line b.answer ≡ true → list_all is_answer_line (if at then a else b).answer ≡ true
chosen_told true a b first second = first
chosen_told false a b first second = second

-- each line of an answer is one line and no command line, in a state that a modem may reach
pub kept_told : (s : ModemState) (line : List ℕ) → IsKept s → list_all is_answer_line (step s line).answer ≡ true
kept_told s line kept =
    ap (λ (t : Step). list_all is_answer_line t.answer) (step_standard s line kept.words)
    ∙ chosen_told (is_attention line) (record { state = s; answer = good_answer [] }) (step_by s (command_of line)) refl (step_by_told s (command_of line) kept)

-- so it is after whatever lines
pub answers_in_lines : (start : ModemStart) → IsStart start → AnswersInLines start
answers_in_lines start is before line = kept_told _ line (reached_kept start before is)
