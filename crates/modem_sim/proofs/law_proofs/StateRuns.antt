-- What lines do to a modem's state.
use Rattle.std.specs.Prelude.{◌≡◌, ℕ, Bool, true, false, List, [], ◌∷◌, ◌++◌, Option, Some, None, Ok, refl}
use Rattle.std.proofs.Common.{sym, ap, ◌∙◌, subst}
use Rattle.at_cmds.specs.declared.command.Command.{Command}
use Rattle.at_cmds.specs.declared.command.Command.TheVariants.{PinEnter, OperChoose}
use Rattle.at_cmds.specs.declared.command.OperChoice.TheVariants.{Automatic, Deregister, Manual}
use Rattle.at_cmds.specs.declared.reply.Reply.TheVariants.{Accepted}
use Rattle.at_cmds.specs.Commands.{IsTextOf}
use Rattle.modem_sim.specs.declared.modem.ModemStart.{ModemStart}
use Rattle.modem_sim.specs.declared.state.Lock.{Lock}
use Rattle.modem_sim.specs.declared.state.Lock.TheVariants.{Ready, NeedPin, NeedPuk}
use Rattle.modem_sim.specs.declared.state.ModemState.{ModemState}
use Rattle.at_cmds.specs.Values.{command_of}
use Rattle.modem_sim.specs.Reading.{is_attention}
use Rattle.modem_sim.specs.Steps.{after_command, after_refusal, after_wrong_pin, lock_error, obeyed, obeyed_unless, refusal_of, standard_step, started, step_by, Step}
use Rattle.modem_sim.specs.LineSteps.{step}
use Rattle.modem_sim.specs.Meanings.{meant, meant_unless}
use Rattle.modem_sim.specs.Laws.{IsStart, after_lines, reached}
use Rattle.modem_sim.specs.SettingLaws.{Answer, IsSet, NoneSets, Tells, answered}
use Rattle.modem_sim.proofs.modem_steps.ReachedStates.{reached_kept}
use Rattle.at_cmds.proofs.command_texts.ReadCommands.{command_reads}
use Rattle.modem_sim.proofs.modem_steps.StandardModems.{carried_words, no_words, step_standard, step_words}
use Rattle.modem_sim.proofs.replies.RepliesReadBack.{command_is, command_is_no_attention, read_back}

-- a line that is this command does what that does
pub command_step : (s : ModemState) (line : List ℕ) (c : Command) → s.words ≡ None → IsTextOf line c → step s line ≡ obeyed s c
command_step s line c none is =
    let behind = command_is_no_attention line c (is_attention line) is refl in
    let read = command_is line c is in
    let same : standard_step s line ≡ obeyed s c = rw (behind, read) refl in
    step_standard s line none ∙ same

-- what holds of a state holds after a line, if it does after each command that the line is
pub by_line : (Holds : ModemState → Type 0) (s : ModemState) (line : List ℕ) → s.words ≡ None → Holds s → ((c : Command) → IsTextOf line c → Holds (obeyed s c).state) → Holds (step s line).state
by_line Holds s line none same does = subst (λ (t : Step). Holds t.state) (sym (step_standard s line none)) (at_attention (is_attention line) refl)
  where
    by_read : (o : Option Command) → command_of line ≡ o → Holds (step_by s o).state
    by_read None is = same
    by_read (Some c) is = let reads = rw is at (command_reads line) in does c reads.is

    at_attention : (b : Bool) → is_attention line ≡ b → Holds (standard_step s line).state
    at_attention true is = rw is same
    at_attention false is = rw is (by_read (command_of line) refl)

-- lines behind others are executed by the modem that those leave
pub after_append : (s : ModemState) (xs ys : List (List ℕ)) → after_lines s (xs ++ ys) ≡ after_lines (after_lines s xs) ys
after_append s [] ys = refl
after_append s (line ∷ xs) ys = after_append (step s line).state xs ys

-- and after all lines, if it stays after each command
pub by_lines : (Holds : ModemState → Type 0) → ((s : ModemState) (c : Command) → Holds s → Holds (obeyed s c).state) → (s : ModemState) (lines : List (List ℕ)) → s.words ≡ None → Holds s → Holds (after_lines s lines)
by_lines Holds does s [] none holds = holds
by_lines Holds does s (line ∷ lines) none holds = by_lines Holds does (step s line).state lines (step_words s line none) (by_line Holds s line none holds (λ c is. does s c holds))

-- ## What is kept

-- a refusal leaves what the lock doesn't touch
pub refused_keeps : {A : Type 0} (field : ModemState → A) → ((s : ModemState) (l : Lock) → field (record s { lock = l }) ≡ field s) → (s : ModemState) (c : Command) → field (after_refusal s c) ≡ field s
refused_keeps field apart s (PinEnter pin) = apart s (after_wrong_pin s.lock)
refused_keeps field apart s c = refl

-- lines that don't set it leave it
pub keeps : {A : Type 0} (field : ModemState → A) (sets : Command → Bool) → ((s : ModemState) (l : Lock) → field (record s { lock = l }) ≡ field s) → ((s : ModemState) (c : Command) → sets c ≡ false → field (after_command s c) ≡ field s) → (s : ModemState) (lines : List (List ℕ)) → s.words ≡ None → NoneSets sets lines → field (after_lines s lines) ≡ field s
keeps field sets apart carried s [] bare none = refl
keeps field sets apart carried s (line ∷ lines) bare none =
    keeps field sets apart carried (step s line).state lines (step_words s line bare) none.1
    ∙ by_line (λ t. field t ≡ field s) s line bare refl (λ c is. obeyed_keeps (refusal_of s c) c (none.0 c is))
  where
    obeyed_keeps : (o : Option ℕ) (c : Command) → sets c ≡ false → field (obeyed_unless o s c).state ≡ field s
    obeyed_keeps None c other = carried s c other
    obeyed_keeps (Some number) c other = refused_keeps field apart s c

-- a modem that is ready stays so
obeyed_ready : (o : Option ℕ) (s : ModemState) (c : Command) → s.lock ≡ Ready → (obeyed_unless o s c).state.lock ≡ Ready
obeyed_ready (Some number) s (PinEnter pin) ready = ap after_wrong_pin ready
obeyed_ready (Some number) s c ready = ready
obeyed_ready None s (PinEnter pin) ready = refl
obeyed_ready None s (OperChoose Automatic) ready = ready
obeyed_ready None s (OperChoose Deregister) ready = ready
obeyed_ready None s (OperChoose (Manual oper)) ready = ready
obeyed_ready None s c ready = ready

-- also after lines
pub stays_ready : (s : ModemState) (lines : List (List ℕ)) → s.words ≡ None → s.lock ≡ Ready → (after_lines s lines).lock ≡ Ready
stays_ready s lines none ready = by_lines (λ t. t.lock ≡ Ready) (λ t c is. obeyed_ready (refusal_of t c) t c is) s lines none ready

-- where the lock refuses nothing it is Ready
pub no_error : (l : Lock) → lock_error l ≡ None → l ≡ Ready
no_error Ready none = refl
no_error (NeedPin pin tries) none = cc
no_error NeedPuk none = cc

-- ## What is told

-- what holds of the state's reply to a command holds of what each line with it is answered
pub tells : (start : ModemStart) (lines : List (List ℕ)) (c : Command) (Holds : Answer → Type 0) → IsStart start → Holds (meant (reached start lines) c) → Tells (reached start lines) c Holds
tells start lines c Holds is holds line text =
    subst Holds (sym (read_back (reached start lines) line c (reached_kept start lines is) text)) holds

-- what a line with a command is answered is the reply that the state says
pub answered_is : (start : ModemStart) (lines : List (List ℕ)) (c : Command) (line : List ℕ) → IsStart start → IsTextOf line c → answered (reached start lines) c line ≡ meant (reached start lines) c
answered_is start lines c line is text = read_back (reached start lines) line c (reached_kept start lines is) text

none_refused : (o : Option ℕ) (s : ModemState) (c : Command) → meant_unless o s c ≡ Ok Accepted → o ≡ None
none_refused None s c is = refl
none_refused (Some number) s c is = cc

-- a command was carried out, and lines followed
pub record WasSet (start : ModemStart) (c : Command) (sets : Command → Bool) (s : ModemState) : Type 0 where
  pub all : List (List ℕ)
  pub mid : ModemState
  pub bare : mid.words ≡ None
  pub carried : refusal_of mid c ≡ None
  pub later : List (List ℕ)
  pub none_sets : NoneSets sets later
  pub is_reached : s ≡ reached start all
  pub state_is : s ≡ after_lines (after_command mid c) later

-- so it is where a command set something, and no line set the same since
pub was_set : (start : ModemStart) (c : Command) (sets : Command → Bool) (s : ModemState) → IsStart start → IsSet start c sets s → WasSet start c sets s
was_set start c sets s is set =
    let mid = reached start set.before in
    let carried = none_refused (refusal_of mid c) mid c (sym (answered_is start set.before c set.line is set.is_text) ∙ set.accepted) in
    record {
      all = set.before ++ set.line ∷ set.later;
      mid = mid;
      bare = no_words start set.before;
      carried = carried;
      later = set.later;
      none_sets = set.none_sets;
      is_reached = set.state_is;
      state_is = set.state_is
          ∙ after_append (started start) set.before (set.line ∷ set.later)
          ∙ ap (λ t. after_lines t.state set.later) (command_step mid set.line c (no_words start set.before) set.is_text)
          ∙ ap (λ o. after_lines (obeyed_unless o mid c).state set.later) carried;
    }

-- so what it set is still so
pub set_so : {A : Type 0} (start : ModemStart) (c : Command) (sets : Command → Bool) (s : ModemState) (field : ModemState → A) (w : WasSet start c sets s) → ((s : ModemState) (l : Lock) → field (record s { lock = l }) ≡ field s) → ((s : ModemState) (c : Command) → sets c ≡ false → field (after_command s c) ≡ field s) → field s ≡ field (after_command w.mid c)
set_so start c sets s field w apart carried = ap field w.state_is ∙ keeps field sets apart carried (after_command w.mid c) w.later (carried_words w.mid c ∙ w.bare) w.none_sets

-- a modem that was ready when it was set is ready
pub set_ready : (start : ModemStart) (c : Command) (sets : Command → Bool) (s : ModemState) (w : WasSet start c sets s) → (after_command w.mid c).lock ≡ Ready → s.lock ≡ Ready
set_ready start c sets s w ready = ap (λ t. t.lock) w.state_is ∙ stays_ready (after_command w.mid c) w.later (carried_words w.mid c ∙ w.bare) ready

-- what holds of the state's reply holds of what is told
pub set_tells : (start : ModemStart) (c : Command) (sets : Command → Bool) (s : ModemState) (q : Command) (Holds : Answer → Type 0) → IsStart start → WasSet start c sets s → Holds (meant s q) → Tells s q Holds
set_tells start c sets s q Holds is w holds =
    let There : ModemState → Type 0 = λ t. Holds (meant t q) in
    let At : ModemState → Type 0 = λ t. Tells t q Holds in
    subst At (sym w.is_reached) (tells start w.all q Holds is (subst There w.is_reached holds))
