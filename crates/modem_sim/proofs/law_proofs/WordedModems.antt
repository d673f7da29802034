-- A modem with words does with the commands of the first table what one without them does.
use Rattle.std.specs.Prelude.{◌≡◌, ◌≢◌, ℕ, ◌==◌, Bool, true, false, List, [], ◌∷◌, ◌++◌, map, Option, Some, None, is_some, unwrap_or, if◌then◌else◌, refl, codes}
use Rattle.std.specs.Fmt.{decimal, digits}
use Rattle.std.proofs.Common.{ap, sym, ◌∙◌, append_assoc, append-nil}
use Rattle.at_text.specs.declared.answer.AnswerLine.{AnswerLine}
use Rattle.at_cmds.specs.declared.command.Command.{Command}
use Rattle.at_cmds.specs.declared.command.Command.TheVariants.{PinEnter, OperQuery, OperChoose, ContextQuery, AttachSet}
use Rattle.at_cmds.specs.declared.command.OperChoice.{OperChoice}
use Rattle.at_cmds.specs.declared.command.OperChoice.TheVariants.{Automatic, Deregister, Manual}
use Rattle.modem_sim.specs.declared.state.ModemState.{ModemState}
use Rattle.modem_sim.specs.declared.state.Words.{Words}
use Rattle.at_cmds.specs.Cme.{cme_text}
use Rattle.modem_sim.specs.OwnAnswers.{said_later, said_now, waits_on}
use Rattle.at_cmds.specs.Values.{command_of}
use Rattle.modem_sim.specs.Reading.{is_attention}
use Rattle.modem_data.specs.Switching.{is_connect}
use Rattle.modem_sim.specs.Steps.{after_command, after_refusal, line_of, obeyed, obeyed_unless, lock_error, refusal_of, settled, standard_step, Step, told_as, told_texts}
use Rattle.modem_sim.specs.LineSteps.{announced, answered_by, divided_by, is_through, is_too_long, line_commands, nothing_ran, own_answer, Ran, ran_command, ran_text, radio_error, refusal_as, refused_by, step, through_by, with_late, worded_by}
use Rattle.modem_sim.specs.StateTexts.{oper_text}
use Rattle.modem_sim.specs.SettingTexts.{named_oper_text}
use Rattle.modem_sim.specs.WordLaws.{AnswersAsStandard, IsAsStandard, bare}
use Rattle.at_cmds.proofs.command_texts.ReadCommands.{command_reads}
use Rattle.modem_sim.proofs.modem_steps.StandardModems.{step_standard, step_worded}
use Rattle.modem_sim.proofs.replies.RepliesReadBack.{command_is_no_attention}

same_refusal : (s : ModemState) (c : Command) → refusal_of (bare s) c ≡ refusal_of s c
same_refusal s (AttachSet true) = refl
same_refusal s (AttachSet false) = refl
same_refusal s c = refl

same_after : (s : ModemState) (c : Command) → bare (after_command s c) ≡ after_command (bare s) c
same_after s (OperChoose Automatic) = refl
same_after s (OperChoose Deregister) = refl
same_after s (OperChoose (Manual oper)) = refl
same_after s c = refl

bare_settled_as : (attached : Bool) (s : ModemState) → bare (if attached then s else record s { active = [] }) ≡ bare s
bare_settled_as true s = refl
bare_settled_as false s = refl

-- without words nothing is seen of which contexts are active
bare_settled : (s : ModemState) → bare (settled s) ≡ bare s
bare_settled s = bare_settled_as s.attached s

same_refused : (s : ModemState) (c : Command) → bare (after_refusal s c) ≡ after_refusal (bare s) c
same_refused s (PinEnter pin) = refl
same_refused s c = refl

-- the operator by its number is told as by the first table
by_number : (choice : OperChoice) → named_oper_text 2 choice ≡ oper_text choice
unfolding digits
by_number Automatic = refl
by_number (Manual oper) = refl
by_number Deregister = refl

-- with all functions on a command is refused as without words
on_refusal : (n : ℕ) (error : Option ℕ) → n ≡ 1 → radio_error n error ≡ error
on_refusal n (Some number) is = refl
on_refusal n None is = ap (λ (k : ℕ). if k == 1 then None else Some 30) is

refused_as : (w : Words) (s : ModemState) (c : Command) → w.functionality ≡ 1 → refusal_as (Some w) s c ≡ refusal_of s c
refused_as w s (OperChoose Automatic) on = on_refusal w.functionality (lock_error s.lock) on
refused_as w s (OperChoose (Manual oper)) on = on_refusal w.functionality (lock_error s.lock) on
refused_as w s (OperChoose Deregister) on = refl
refused_as w s c on = refl

same_told : (w : Words) (s : ModemState) (c : Command) → w.oper_format ≡ 2 → c ≢ ContextQuery → told_as (Some w) s c ≡ told_texts (bare s) c
same_told w s OperQuery is other = ap (λ n. named_oper_text n s.oper ∷ []) is ∙ ap (λ t. t ∷ []) (by_number s.oper)
same_told w s ContextQuery is other = absurd (other refl)
same_told w s c is other = refl

-- what one command comes to, and what it comes to without words
record IsSame (s : ModemState) (worded plain : Step) : Type 0 where
  answer : worded.answer ≡ plain.answer ++ map line_of (announced s worded.state)
  state : bare worded.state ≡ plain.state

abbrev worded_of : Option ℕ → ModemState → Command → Step
worded_of o s c = answered_by false s (ran_command o (nothing_ran s) c)

-- no error puts a call through
error_stays : (bare numbered : Bool) (number : ℕ)
    → is_connect (if bare then codes "ERROR" else if numbered then codes "+CME ERROR: " ++ decimal number else codes "+CME ERROR: " ++ unwrap_or (cme_text number) []) ≡ false
error_stays true numbered number = refl
error_stays false true number = refl
error_stays false false number = refl

none_through : (o : Option ℕ) (s : ModemState) (c : Command) → is_through (ran_command o (nothing_ran s) c).ended ≡ false
none_through None s c = refl
none_through (Some number) s c = error_stays (s.errors == 0) (s.errors == 1) number

same_at : (o : Option ℕ) (w : Words) (s : ModemState) (c : Command) → s.words ≡ Some w → w.oper_format ≡ 2 → c ≢ ContextQuery → IsSame s (worded_of o s c) (obeyed_unless o (bare s) c)
same_at None w s c some is other =
    let told : told_as s.words s c ≡ told_texts (bare s) c = ap (λ x. told_as x s c) some ∙ same_told w s c is other in
    let later : List AnswerLine = map line_of (announced s (settled (after_command s c))) in
    record {
      answer = ap (λ t. map line_of t ++ line_of (codes "OK") ∷ later) told
          ∙ sym (append_assoc (map line_of (told_texts (bare s) c)) (line_of (codes "OK") ∷ []) later);
      state = bare_settled (after_command s c) ∙ same_after s c;
    }
same_at (Some number) w s c some is other = record { answer = refl; state = same_refused s c }

-- a command leaves the lines that wait
carried_late : (s : ModemState) (c : Command) → (after_command s c).late ≡ s.late
carried_late s (OperChoose Automatic) = refl
carried_late s (OperChoose Deregister) = refl
carried_late s (OperChoose (Manual oper)) = refl
carried_late s c = refl

refused_late : (s : ModemState) (c : Command) → (after_refusal s c).late ≡ s.late
refused_late s (PinEnter pin) = refl
refused_late s c = refl

settled_late : (attached : Bool) (s : ModemState) → (if attached then s else record s { active = [] }).late ≡ s.late
settled_late true s = refl
settled_late false s = refl

worded_late : (o : Option ℕ) (s : ModemState) (c : Command) → (worded_of o s c).state.late ≡ s.late
worded_late None s c = settled_late (after_command s c).attached (after_command s c) ∙ carried_late s c
worded_late (Some number) s c = refused_late s c

-- where no line waits, none comes behind an answer
pub none_late : (through : Bool) (t : Step) → t.state.late ≡ [] → with_late through t ≡ t
none_late true t none =
    let state_is : record t.state { late = map waits_on t.state.late } ≡ t.state = ap (λ l. record t.state { late = map waits_on l }) none ∙ ap (λ l. record t.state { late = l }) (sym none) in
    let answer_is : t.answer ++ [] ≡ t.answer = append-nil t.answer in
    λ i. record { state = state_is i; answer = answer_is i }
none_late false t none =
    let state_is : record t.state { late = said_later t.state.late } ≡ t.state = ap (λ l. record t.state { late = said_later l }) none ∙ ap (λ l. record t.state { late = l }) (sym none) in
    let answer_is : t.answer ++ said_now t.state.late ≡ t.answer = ap (λ l. t.answer ++ said_now l) none ∙ append-nil t.answer in
    λ i. record { state = state_is i; answer = answer_is i }

-- what a line comes to whose commands are these
abbrev pub late_by : ModemState → Option (List (List ℕ)) → Step
late_by s commands = with_late (through_by s commands) (worded_by s commands)

-- a line that isn't too long, and has no answer of its own
pub whole_line : (s : ModemState) (line : List ℕ) (w : Words) → s.words ≡ Some w → is_too_long line ≡ false → own_answer s line ≡ None → step s line ≡ late_by s (line_commands line)
whole_line s line w some short own =
    let lines : Option (List (List ℕ)) = line_commands line in
    step_worded s line w some own
    ∙ ap (λ (b : Bool). with_late (if b then false else through_by s lines) (if b then refused_by s lines else worded_by s lines)) short

-- a line that is a command
pub one_command : (s : ModemState) (w : Words) (line : List ℕ) (c : Command) → s.words ≡ Some w → is_too_long line ≡ false → own_answer s line ≡ None → s.late ≡ [] → command_of line ≡ Some c → step s line ≡ worded_of (refusal_as s.words s c) s c
unfolding line_commands
one_command s w line c some short own none read =
    let o : Option ℕ = refusal_as s.words s c in
    let by : Ran → Step = λ r. with_late (is_through r.ended) (answered_by (is_through r.ended) s r) in
    whole_line s line w some short own
    ∙ ap (λ x. late_by s (divided_by x line)) read
    ∙ ap (λ x. by (ran_text x (nothing_ran s) line)) read
    ∙ ap (λ b. with_late b (answered_by b s (ran_command o (nothing_ran s) c))) (none_through o s c)
    ∙ none_late false (worded_of o s c) (worded_late o s c ∙ none)

bare_command : (s : ModemState) (line : List ℕ) (c : Command) → command_of line ≡ Some c → step (bare s) line ≡ obeyed_unless (refusal_of s c) (bare s) c
bare_command s line c read =
    let reads = rw read at (command_reads line) in
    let behind = command_is_no_attention line c (is_attention line) reads.is refl in
    let done : standard_step (bare s) line ≡ obeyed (bare s) c = rw (behind, read) refl in
    step_standard (bare s) line refl ∙ done ∙ ap (λ o. obeyed_unless o (bare s) c) (same_refusal s c)

by_command : (s : ModemState) (w : Words) (line : List ℕ) (o : Option Command) → command_of line ≡ o → is_some o ≡ true → s.words ≡ Some w → w.oper_format ≡ 2 → w.functionality ≡ 1 → is_too_long line ≡ false → own_answer s line ≡ None → s.late ≡ [] → o ≢ Some ContextQuery → IsAsStandard s line
by_command s w line None read is some two on short own none other = cc
by_command s w line (Some c) read is some two on short own none other =
    let refusal : refusal_as s.words s c ≡ refusal_of s c = ap (λ (x : Option Words). refusal_as x s c) some ∙ refused_as w s c on in
    let with : step s line ≡ worded_of (refusal_of s c) s c = one_command s w line c some short own none read ∙ ap (λ o. worded_of o s c) refusal in
    let without = bare_command s line c read in
    let same = same_at (refusal_of s c) w s c some two (λ is_query. other (ap Some is_query)) in
    record {
      answer = ap (λ (t : Step). t.answer) with ∙ same.answer
          ∙ ap (λ (t : Step). t.answer ++ map line_of (announced s (worded_of (refusal_of s c) s c).state)) (sym without)
          ∙ ap (λ (t : Step). (step (bare s) line).answer ++ map line_of (announced s t.state)) (sym with);
      state = ap (λ (t : Step). bare t.state) with ∙ same.state ∙ ap (λ (t : Step). t.state) (sym without);
    }

-- to a command of the first table but AT+CGDCONT? a modem with words answers as one without
pub answers_as_standard : AnswersAsStandard
answers_as_standard s w line some two on short own none other is = by_command s w line (command_of line) refl is some two on short own none other
