-- A modem without words stays one, and does what the first table says.
use Rattle.std.specs.Prelude.{◌≡◌, ◌⊎◌, ℕ, ◌==◌, ◌&&◌, Bool, true, false, List, [], ◌∷◌, Option, Some, None, if◌then◌else◌, refl}
use Rattle.std.proofs.Common.{inl, inr, ap, sym, ◌∙◌, subst}
use Rattle.std.proofs.lemmas.Bool.{and_parts, eqb-true, or_cases}
use Rattle.at_cmds.specs.declared.command.Command.{Command}
use Rattle.at_cmds.specs.declared.command.Command.TheVariants.{PinEnter, OperChoose}
use Rattle.at_cmds.specs.declared.command.OperChoice.TheVariants.{Automatic, Deregister, Manual}
use Rattle.modem_sim.specs.declared.modem.ModemStart.{ModemStart}
use Rattle.modem_sim.specs.declared.own_answers.OwnLine.{OwnLine}
use Rattle.modem_sim.specs.declared.state.ModemState.{ModemState}
use Rattle.modem_sim.specs.declared.state.Words.{Words}
use Rattle.at_cmds.specs.CommandLines.{begins_with_at, is_letter_a, is_letter_t}
use Rattle.modem_data.specs.Switching.{is_connect}
use Rattle.at_cmds.specs.Values.{command_of}
use Rattle.modem_sim.specs.Reading.{is_attention}
use Rattle.modem_sim.specs.Steps.{after_command, after_refusal, obeyed_unless, refusal_of, standard_step, started, step_by, Step}
use Rattle.modem_sim.specs.LineSteps.{echoes_as, line_through, own_answer, own_said, own_step, repeats, step, step_as, with_late, worded_step}
use Rattle.modem_sim.specs.Laws.{after_lines, reached}

-- a command that is carried out leaves the words
pub carried_words : (s : ModemState) (c : Command) → (after_command s c).words ≡ s.words
carried_words s (OperChoose Automatic) = refl
carried_words s (OperChoose Deregister) = refl
carried_words s (OperChoose (Manual oper)) = refl
carried_words s c = refl

refused_words : (s : ModemState) (c : Command) → (after_refusal s c).words ≡ s.words
refused_words s (PinEnter pin) = refl
refused_words s c = refl

-- so does one that may be refused
pub obeyed_words : (o : Option ℕ) (s : ModemState) (c : Command) → (obeyed_unless o s c).state.words ≡ s.words
obeyed_words None s c = carried_words s c
obeyed_words (Some number) s c = refused_words s c

read_words : (s : ModemState) (o : Option Command) → (step_by s o).state.words ≡ s.words
read_words s None = refl
read_words s (Some c) = obeyed_words (refusal_of s c) s c

chosen_words : (s : ModemState) (at : Bool) (a b : Step) → a.state.words ≡ s.words → b.state.words ≡ s.words → (if at then a else b).state.words ≡ s.words
chosen_words s true a b first second = first
chosen_words s false a b first second = second

-- the first table leaves what the second one needs
pub standard_words : (s : ModemState) (line : List ℕ) → (standard_step s line).state.words ≡ s.words
standard_words s line = chosen_words s (is_attention line) _ (step_by s (command_of line)) refl (read_words s (command_of line))

-- without words a line does what the first table says
pub step_standard : (s : ModemState) (line : List ℕ) → s.words ≡ None → step s line ≡ standard_step s line
step_standard s line none = ap (λ w. step_as w s line) none

-- with words it answers by itself, or does what both say
pub step_with_words : (s : ModemState) (line : List ℕ) (w : Words) → s.words ≡ Some w → step s line ≡ own_step (own_answer s line) s line
step_with_words s line w some = ap (λ x. step_as x s line) some

-- where it has an answer of its own it says that, and does nothing
pub own_step_some : (own : Option (List OwnLine)) (s : ModemState) (line : List ℕ) (lines : List OwnLine) → own ≡ Some lines → own_step own s line ≡ own_said lines s
own_step_some own s line lines some = ap (λ o. own_step o s line) some

-- where it has none it does what both tables say, and lines that wait may come behind
pub own_step_none : (own : Option (List OwnLine)) (s : ModemState) (line : List ℕ) → own ≡ None → own_step own s line ≡ with_late (line_through s line) (worded_step s line)
own_step_none own s line none = ap (λ o. own_step o s line) none

-- with words, and no answer of its own
pub step_worded : (s : ModemState) (line : List ℕ) (w : Words) → s.words ≡ Some w → own_answer s line ≡ None → step s line ≡ with_late (line_through s line) (worded_step s line)
step_worded s line w some none = step_with_words s line w some ∙ own_step_none (own_answer s line) s line none

-- a modem without words has none after a line
pub step_words : (s : ModemState) (line : List ℕ) → s.words ≡ None → (step s line).state.words ≡ None
step_words s line none = ap (λ t. t.state.words) (step_standard s line none) ∙ standard_words s line ∙ none

-- nor after lines
pub lines_words : (s : ModemState) (lines : List (List ℕ)) → s.words ≡ None → (after_lines s lines).words ≡ None
lines_words s [] none = none
lines_words s (line ∷ lines) none = lines_words (step s line).state lines (step_words s line none)

-- so one that started without has none ever
pub no_words : (start : ModemStart) (lines : List (List ℕ)) → (reached start lines).words ≡ None
no_words start lines = lines_words (started start) lines refl

-- it repeats lines where it is to always
pub repeats_standard : (start : ModemStart) (lines : List (List ℕ)) (line : List ℕ) → repeats false (reached start lines) line ≡ false
repeats_standard start lines line = ap (λ w. echoes_as w && begins_with_at line) (no_words start lines)

first_letter : (a t : ℕ) (rest : List ℕ) → ((a == 65) ≡ true) ⊎ ((a == 97) ≡ true) → is_connect (a ∷ t ∷ rest) ≡ false
first_letter a t rest (inl is) = subst (λ (n : ℕ). is_connect (n ∷ t ∷ rest) ≡ false) (sym (eqb-true a 65 is)) refl
first_letter a t rest (inr is) = subst (λ (n : ℕ). is_connect (n ∷ t ∷ rest) ≡ false) (sym (eqb-true a 97 is)) refl

no_connect : (line : List ℕ) → begins_with_at line ≡ true → is_connect line ≡ false
no_connect [] is = cc
no_connect (a ∷ []) is = cc
no_connect (a ∷ t ∷ rest) is = first_letter a t rest (or_cases (a == 65) (a == 97) (and_parts (is_letter_a a) (is_letter_t t) is).0)

-- a line that a modem repeats, though it isn't to repeat all, is no CONNECT
pub repeats_no_connect : (s : ModemState) (line : List ℕ) → repeats false s line ≡ true → is_connect line ≡ false
repeats_no_connect s line is = no_connect line (and_parts (echoes_as s.words) (begins_with_at line) is).1
