-- Answers are read back as the replies that the state says.
use Rattle.std.specs.Prelude.{◌≡◌, ℕ, suc, ◌+◌, ◌-◌, ◌<◌, ◌==◌, Bool, true, false, List, [], ◌∷◌, ◌++◌, length, take, drop, map, find, slice_get, Option, Some, None, IfSome, is_none, Ok, unwrap_or, refl, if◌then◌else◌, codes}
use Rattle.std.specs.Fmt.{decimal, digits}
use Rattle.std.specs.List.{list_any, filter_map, position_from}
use Rattle.std.specs.Option.{option_or}
use Rattle.std.specs.Str.{bytes_eq}
use Rattle.std.proofs.Common.{arith, sym, ap, ◌∙◌, append_assoc}
use Rattle.std.proofs.lemmas.List.{length-append}
use Rattle.at_text.specs.declared.answer.AnswerLine.{AnswerLine}
use Rattle.at_text.specs.Octets.{is_quote}
use Rattle.at_cmds.specs.declared.command.Command.{Command}
use Rattle.at_cmds.specs.declared.command.Command.TheVariants.{PinQuery, PinEnter, RegQuery, Signal, OperQuery, OperChoose, ContextSet, ContextQuery, AttachSet, AttachQuery, Multiplex}
use Rattle.at_cmds.specs.declared.command.OperChoice.{OperChoice}
use Rattle.at_cmds.specs.declared.command.OperChoice.TheVariants.{Automatic, Deregister, Manual}
use Rattle.at_cmds.specs.declared.error.ReplyFault.TheVariants.{Cme, PlainError}
use Rattle.at_cmds.specs.Cme.{cme_text, cme_number}
use Rattle.at_cmds.specs.declared.registration.Registration.{Registration}
use Rattle.at_cmds.specs.declared.reply.Reply.TheVariants.{Pin, Reg, Signal as SignalReply, Oper, Contexts, Attached}
use Rattle.at_cmds.specs.Params.{◌>>=◌, parameters, divided, number_of, unquoted, cell_code_of, hex_of}
use Rattle.at_cmds.specs.Forms.{in_quotes, lowered}
use Rattle.at_cmds.specs.declared.command.Pdp.{Pdp}
use Rattle.at_cmds.specs.declared.command.Pdp.TheVariants.{Ip, Ipv6, Ipv4v6}
use Rattle.at_cmds.specs.Commands.{fixed_commands, fixed_text, pdp_text, IsTextOf}
use Rattle.at_cmds.specs.Registrations.{registration_of}
use Rattle.at_cmds.specs.Replies.{fault_of, fault_at, reply_of, reply_unless, formed, first_named, reg_of, signal_of, oper_of, oper_reply_of, context_of, contexts_of, contexts_unless, context_in, is_malformed_context}
use Rattle.at_cmds.proofs.command_texts.TextTable.{pdp_not_quoted}
use Rattle.at_cmds.proofs.values_read.ValueForms.{unquoted_back, holds_of, same_octets}
use Rattle.at_cmds.proofs.command_texts.ReadCommands.{read_only}
use Rattle.at_cmds.proofs.values_read.Parameters.{divided-quoted, put_text-ended, parameters-quoted}
use Rattle.modem_sim.specs.declared.state.Lock.{Lock}
use Rattle.modem_sim.specs.declared.state.Lock.TheVariants.{Ready, NeedPin, NeedPuk}
use Rattle.modem_sim.specs.declared.state.ModemState.{ModemState}
use Rattle.modem_sim.specs.Steps.{Step, standard_step, line_of, error_text, lock_error, pin_error, attach_error, is_registered, refusal_of, told_texts, good_answer, obeyed_unless}
use Rattle.modem_sim.specs.LineSteps.{step}
use Rattle.modem_sim.specs.StateTexts.{pin_text, cell_text, reg_text, signal_text, oper_text, context_text, attached_text}
use Rattle.at_cmds.specs.Values.{command_in, command_of, head, names}
use Rattle.modem_sim.specs.Reading.{is_attention}
use Rattle.modem_sim.specs.declared.contexts.PdpContext.{PdpContext}
use Rattle.modem_sim.specs.Meanings.{told_reply, wanted_pin, registration, bare_registration, cell_registration, numbered, oper_reply, told_context, meant, meant_unless}
use Rattle.modem_sim.proofs.modem_steps.AnswerLines.{registered_text}
use Rattle.modem_sim.proofs.modem_steps.DecimalNumbers.{number_back, blank_number_back, blank_number_param, last_number_param}
use Rattle.modem_sim.proofs.modem_steps.ReachedStates.{IsKept, IsContextKept, AreContextsKept, IsOperKept}
use Rattle.at_cmds.proofs.values_read.ValueForms.{if_some}
use Rattle.modem_sim.proofs.modem_steps.StandardModems.{step_standard}

-- an error's text, by which mode it is
abbrev pub text_by : Bool → Bool → ℕ → List ℕ
text_by plain numbered number =
    if plain then codes "ERROR"
    else if numbered then codes "+CME ERROR: " ++ decimal number
    else codes "+CME ERROR: " ++ unwrap_or (cme_text number) []

-- an error is read back in each mode
abbrev IsReadBack : ℕ → Type 0
IsReadBack number = (plain numbered : Bool) → fault_of (line_of (text_by plain numbered number) ∷ []) ≡ Some (if plain then PlainError else Cme number)

not_allowed : IsReadBack 3
unfolding fault_of cme_number digits
not_allowed true numbered = refl
not_allowed false true = refl
not_allowed false false = refl

pin_required : IsReadBack 11
unfolding fault_of cme_number digits
pin_required true numbered = refl
pin_required false true = refl
pin_required false false = refl

puk_required : IsReadBack 12
unfolding fault_of cme_number digits
puk_required true numbered = refl
puk_required false true = refl
puk_required false false = refl

incorrect_password : IsReadBack 16
unfolding fault_of cme_number digits
incorrect_password true numbered = refl
incorrect_password false true = refl
incorrect_password false false = refl

no_network : IsReadBack 30
unfolding fault_of cme_number digits
no_network true numbered = refl
no_network false true = refl
no_network false false = refl

-- ## What holds of each error that a command is refused with

lock_refusals : (P : ℕ → Type 0) → P 11 → P 12 → (lock : Lock) → IfSome (lock_error lock) P
lock_refusals P pin puk Ready = tt
lock_refusals P pin puk (NeedPin wanted tries) = pin
lock_refusals P pin puk NeedPuk = puk

pin_refusals : (P : ℕ → Type 0) → P 3 → P 12 → P 16 → (lock : Lock) (pin : List ℕ) → IfSome (pin_error lock pin) P
pin_refusals P allowed puk wrong Ready pin = allowed
pin_refusals P allowed puk wrong (NeedPin wanted tries) pin = if_some _ None (Some 16) P (λ is. tt) (λ other. wrong)
pin_refusals P allowed puk wrong NeedPuk pin = puk

attach_refusals : (P : ℕ → Type 0) → P 30 → (o : Option ℕ) (registered : Bool) → IfSome o P → IfSome (attach_error o registered) P
attach_refusals P network (Some number) registered is = is
attach_refusals P network None true is = tt
attach_refusals P network None false is = network

-- what holds of 3, 11, 12, 16 and 30 holds of the error with which a command is refused
pub refusals_are : (P : ℕ → Type 0) → P 3 → P 11 → P 12 → P 16 → P 30 → (s : ModemState) (c : Command) → IfSome (refusal_of s c) P
refusals_are P allowed pin puk wrong network s (PinEnter entered) = pin_refusals P allowed puk wrong s.lock entered
refusals_are P allowed pin puk wrong network s OperQuery = lock_refusals P pin puk s.lock
refusals_are P allowed pin puk wrong network s (OperChoose choice) = lock_refusals P pin puk s.lock
refusals_are P allowed pin puk wrong network s (ContextSet cid pdp apn) = lock_refusals P pin puk s.lock
refusals_are P allowed pin puk wrong network s ContextQuery = lock_refusals P pin puk s.lock
refusals_are P allowed pin puk wrong network s (AttachSet true) = attach_refusals P network (lock_error s.lock) (is_registered s.lock s.oper) (lock_refusals P pin puk s.lock)
refusals_are P allowed pin puk wrong network s (AttachSet false) = lock_refusals P pin puk s.lock
refusals_are P allowed pin puk wrong network s AttachQuery = lock_refusals P pin puk s.lock
refusals_are P allowed pin puk wrong network s Multiplex = allowed
refusals_are P allowed pin puk wrong network s c = tt

-- each error that a command is refused with is read back
refusals : (s : ModemState) (c : Command) → IfSome (refusal_of s c) IsReadBack
refusals s c = refusals_are IsReadBack not_allowed pin_required puk_required incorrect_password no_network s c

pin_told : (lock : Lock) → reply_of PinQuery (good_answer (pin_text lock ∷ [])) ≡ Ok (Pin (wanted_pin lock))
unfolding fault_of first_named
pin_told Ready = refl
pin_told (NeedPin pin tries) = refl
pin_told NeedPuk = refl

reg_at : (n : ℕ) (rest : List ℕ) (r : Registration) → n < 256 → registration_of (divided false rest) ≡ Some r → reg_of (parameters (32 ∷ (decimal n ++ 44 ∷ rest))) ≡ Some (Reg n r)
unfolding parameters reg_of
reg_at n rest r small read = ap reg_of (blank_number_param n rest small) ∙ rw (blank_number_back n small, read) refl

cell_back : (cell : Bool) → registration_of (divided false (49 ∷ (if cell then codes ",\"00A1\",\"01B2C3D4\",7" else []))) ≡ Some (if cell then cell_registration else bare_registration 1)
unfolding registration_of number_of cell_code_of hex_of unquoted
cell_back true = refl
cell_back false = refl

none_back : registration_of (divided false (codes "0")) ≡ Some (bare_registration 0)
unfolding registration_of number_of
none_back = refl

reg_told : (n : ℕ) (registered : Bool) → n < 256 → reply_of RegQuery (good_answer (reg_text n registered ∷ [])) ≡ Ok (Reg n (registration n registered))
unfolding fault_of first_named
reg_told n false small = ap (formed 0) (reg_at n (codes "0") (bare_registration 0) small none_back)
reg_told n true small =
    ap (λ text. reply_of RegQuery (good_answer (text ∷ []))) (sym (registered_text n true (cell_text n) refl refl))
    ∙ ap (formed 0) (reg_at n (49 ∷ cell_text n) (registration n true) small (cell_back (n == 2)))

signal_at : (rssi ber : ℕ) → rssi < 256 → ber < 256 → signal_of (parameters (32 ∷ (decimal rssi ++ 44 ∷ decimal ber))) ≡ Some (SignalReply rssi ber)
unfolding parameters signal_of
signal_at rssi ber first second =
    ap signal_of (blank_number_param rssi (decimal ber) first ∙ ap (λ x. (32 ∷ decimal rssi) ∷ x) (last_number_param ber second))
    ∙ rw (blank_number_back rssi first, number_back ber second) refl

signal_told : (rssi ber : ℕ) → rssi < 256 → ber < 256 → reply_of Signal (good_answer (signal_text rssi ber ∷ [])) ≡ Ok (SignalReply rssi ber)
unfolding fault_of first_named
signal_told rssi ber first second =
    ap (λ text. reply_of Signal (good_answer (text ∷ []))) (append_assoc (codes "+CSQ: " ++ decimal rssi) (codes ",") (decimal ber) ∙ append_assoc (codes "+CSQ: ") (decimal rssi) (codes "," ++ decimal ber))
    ∙ ap (formed 0) (signal_at rssi ber first second)

-- an operator between quotes, and the number of its access technology
oper_params : (oper : List ℕ) → list_any is_quote oper ≡ false → divided false (in_quotes oper ++ codes ",7") ≡ in_quotes oper ∷ codes "7" ∷ []
oper_params oper plain =
    ap (λ x. divided false (34 ∷ x)) (append_assoc oper (codes "\"") (codes ",7"))
    ∙ divided-quoted oper (codes ",7") plain
    ∙ put_text-ended (in_quotes oper) (codes "7" ∷ [])

manual_at : (oper : List ℕ) → list_any is_quote oper ≡ false → oper_reply_of (codes " 1,2," ++ (in_quotes oper ++ codes ",7")) ≡ Some (Oper 1 (numbered oper))
unfolding parameters oper_of number_of
manual_at oper plain = rw (oper_params oper plain, unquoted_back oper plain) refl

oper_told : (oper : OperChoice) → IsOperKept oper → reply_of OperQuery (good_answer (oper_text oper ∷ [])) ≡ Ok (oper_reply oper)
unfolding fault_of first_named parameters oper_of number_of unquoted
oper_told Automatic kept = refl
oper_told Deregister kept = refl
oper_told (Manual oper) kept = ap (formed 0) (manual_at oper kept.0)

attached_told : (attached : Bool) → reply_of AttachQuery (good_answer (attached_text attached ∷ [])) ≡ Ok (Attached attached)
unfolding fault_of first_named
attached_told true = refl
attached_told false = refl

regroup : (h a b c d e : List ℕ) → ((((h ++ a) ++ b) ++ c) ++ d) ++ e ≡ h ++ (a ++ (b ++ (c ++ (d ++ e))))
regroup h a b c d e = simp append_assoc

context_text-split : (c : PdpContext) → context_text c ≡ codes "+CGDCONT: " ++ (decimal c.cid ++ 44 ∷ (in_quotes (pdp_text c.pdp) ++ 44 ∷ in_quotes c.apn))
context_text-split c = regroup (codes "+CGDCONT: ") (decimal c.cid) (codes ",") (in_quotes (pdp_text c.pdp)) (codes ",") (in_quotes c.apn)

pdp_params : (pdp : Pdp) (apn : List ℕ) → list_any is_quote apn ≡ false → divided false (in_quotes (pdp_text pdp) ++ 44 ∷ in_quotes apn) ≡ in_quotes (pdp_text pdp) ∷ in_quotes apn ∷ []
pdp_params Ip apn plain = ap (λ x. in_quotes (codes "IP") ∷ x) (parameters-quoted apn plain)
pdp_params Ipv6 apn plain = ap (λ x. in_quotes (codes "IPV6") ∷ x) (parameters-quoted apn plain)
pdp_params Ipv4v6 apn plain = ap (λ x. in_quotes (codes "IPV4V6") ∷ x) (parameters-quoted apn plain)

context_at : (c : PdpContext) → IsContextKept c → context_of (parameters (32 ∷ (decimal c.cid ++ 44 ∷ (in_quotes (pdp_text c.pdp) ++ 44 ∷ in_quotes c.apn)))) ≡ Some (told_context c)
unfolding parameters context_of
context_at c kept =
    ap context_of (blank_number_param c.cid (in_quotes (pdp_text c.pdp) ++ 44 ∷ in_quotes c.apn) kept.cid ∙ ap (λ x. (32 ∷ decimal c.cid) ∷ x) (pdp_params c.pdp c.apn kept.apn))
    ∙ rw (blank_number_back c.cid kept.cid, unquoted_back (pdp_text c.pdp) (pdp_not_quoted c.pdp), unquoted_back c.apn kept.apn) refl

context_back : (c : PdpContext) → IsContextKept c → context_in (line_of (context_text c)) ≡ Some (told_context c)
context_back c kept = ap (λ text. context_in (line_of text)) (context_text-split c) ∙ context_at c kept

formed_context : (c : PdpContext) → IsContextKept c → is_malformed_context (line_of (context_text c)) ≡ false
formed_context c kept = ap (λ text. is_malformed_context (line_of text)) (context_text-split c) ∙ ap is_none (context_at c kept)

-- the lines of contexts, and OK behind them
abbrev context_lines : List PdpContext → List AnswerLine
context_lines contexts = good_answer (map context_text contexts)

none_malformed : (contexts : List PdpContext) (k : ℕ) → AreContextsKept contexts → position_from is_malformed_context k (context_lines contexts) ≡ None
none_malformed [] k kept = refl
none_malformed (c ∷ contexts) k kept = rw (formed_context c kept.0) (none_malformed contexts (k + 1) kept.1)

contexts_back : (contexts : List PdpContext) → AreContextsKept contexts → filter_map context_in (context_lines contexts) ≡ map told_context contexts
contexts_back [] kept = refl
contexts_back (c ∷ contexts) kept = rw (context_back c kept.0) (ap (λ x. told_context c ∷ x) (contexts_back contexts kept.1))

last_line : (front : List AnswerLine) (line : AnswerLine) → slice_get (front ++ line ∷ []) (length (front ++ line ∷ []) - 1) ≡ Some line
last_line [] line = refl
last_line (first ∷ front) line =
    let size = length-append front (line ∷ []) in
    let place : length ((first ∷ front) ++ line ∷ []) - 1 ≡ suc (length (front ++ line ∷ []) - 1) = omega arith in
    rw place (last_line front line)

-- an answer that ends with OK has no fault
good_has_none : (texts : List (List ℕ)) → fault_of (good_answer texts) ≡ None
unfolding fault_of
good_has_none texts = ap fault_at (last_line (map line_of texts) (line_of (codes "OK")))

contexts_told : (contexts : List PdpContext) → AreContextsKept contexts → reply_of ContextQuery (context_lines contexts) ≡ Ok (Contexts (map told_context contexts))
unfolding contexts_of
contexts_told contexts kept =
    ap (λ fault. reply_unless fault ContextQuery (context_lines contexts)) (good_has_none (map context_text contexts))
    ∙ ap (λ place. contexts_unless place (context_lines contexts)) (none_malformed contexts 0 kept)
    ∙ ap (λ x. Ok (Contexts x)) (contexts_back contexts kept)

-- what a command that is carried out is told, is read back as what the state says
told_back : (s : ModemState) (c : Command) → IsKept s → reply_of c (good_answer (told_texts s c)) ≡ Ok (told_reply s c)
unfolding fault_of
told_back s PinQuery kept = pin_told s.lock
told_back s RegQuery kept = reg_told s.reports (is_registered s.lock s.oper) kept.reports
told_back s Signal kept = signal_told s.rssi s.ber kept.rssi kept.ber
told_back s OperQuery kept = oper_told s.oper kept.oper
told_back s ContextQuery kept = contexts_told s.contexts kept.contexts
told_back s AttachQuery kept = attached_told s.attached
told_back s c kept = refl

answer_back : (o : Option ℕ) (s : ModemState) (c : Command) → refusal_of s c ≡ o → IsKept s → reply_of c (obeyed_unless o s c).answer ≡ meant_unless o s c
answer_back None s c is kept = told_back s c kept
answer_back (Some number) s c is kept =
    let back = holds_of (refusal_of s c) IsReadBack (refusals s c) number is in
    ap (λ fault. reply_unless fault c (line_of (error_text s.errors number) ∷ [])) (back (s.errors == 0) (s.errors == 1))

-- AT alone is no command
attention_none : (line : List ℕ) → lowered line ≡ codes "at" → command_of line ≡ None
unfolding command_of
attention_none line is =
    ap (λ x. option_or (find (λ c. bytes_eq x (lowered (fixed_text c))) fixed_commands) (find (λ n. bytes_eq (take (length (head n)) x) (lowered (head n))) names >>= (λ n. command_in n (drop (length (head n)) line)))) is

-- so a command's text isn't AT alone
pub command_is_no_attention : (line : List ℕ) (c : Command) (at : Bool) → IsTextOf line c → is_attention line ≡ at → is_attention line ≡ false
command_is_no_attention line c false is here = here
command_is_no_attention line c true is here =
    let none = attention_none line (same_octets (lowered line) (codes "at") here) in
    let some = read_only line c is in
    cc

-- the command of a line is that whose text it is
pub command_is : (line : List ℕ) (c : Command) → IsTextOf line c → command_of line ≡ Some c
command_is line c is = read_only line c is

-- what the modem answers to a command is read back as what its state says
pub read_back : (s : ModemState) (line : List ℕ) (c : Command) → IsKept s → IsTextOf line c → reply_of c (step s line).answer ≡ meant s c
read_back s line c kept is =
    let behind = command_is_no_attention line c (is_attention line) is refl in
    let read = command_is line c is in
    let back : reply_of c (standard_step s line).answer ≡ meant s c = rw (behind, read) (answer_back (refusal_of s c) s c refl kept) in
    ap (λ (t : Step). reply_of c t.answer) (step_standard s line kept.words) ∙ back
