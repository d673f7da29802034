-- The worked turns, computed.
use Rattle.std.specs.Prelude.{◌≡◌, ℕ, nat_lt, ◌||◌, codes, Bool, true, false, List, [], ◌∷◌, length, Option, Some, None, Ok, Err, IsErrOf, refl}
use Rattle.std.proofs.Common.{arith, sym, ap, ◌∙◌}
use Rattle.std.proofs.lemmas.Bool.Decides.{nat_tests}
use Rattle.mux_frame.specs.Reading.{no_flag}
use Rattle.serial_line.specs.LineViews.{LineView}
use Rattle.modem_sim.specs.declared.error.SimError.TheVariants as why
use Rattle.modem_sim.specs.declared.script.StepAct.TheVariants.{Announce}
use Rattle.modem_sim.specs.declared.script.Step.{Step}
use Rattle.modem_sim.specs.declared.sim.SimTurn.{SimTurn}
use Rattle.modem_sim.specs.Acts.{after}
use Rattle.modem_sim.specs.Doing.{IsDue}
use Rattle.modem_sim.specs.Sims.{SimMachine, SimState, has_failed}
use Rattle.modem_sim.specs.Cores.{holds_over, box_at}
use Rattle.modem_sim.specs.Boxes.{is_released}
use Rattle.modem_sim.specs.Polls.{Says}
use Rattle.mux_frame.specs.Frames.{Frame}
use Rattle.modem_sim.specs.Turns.{IsAtRest, IsHeldUp, IsIdle, IsLeft, NoneCanBeDone, at_rest, frame_at_hand, has_changed, hold_is_over, is_fewer, line_is_full, step_is_due}
use Rattle.modem_sim.specs.HistoryRows.{announcing, one, plain, ready_one, silent, step_at}
use Rattle.modem_sim.specs.TurnRows.{ComesTo, EndRows, IsStill, MovedRows, OneWaits, RightIdle, WantRows, WrongFailures, WrongGivings, WrongIdle, nothing_asked, offered_one, only_read, unseen}
use Rattle.modem_sim.proofs.rows.RefusedRowFacts.{said_nothing}
use Rattle.modem_history.specs.Turns.{Write}

none_left : (next : Step) (later : List Step) → [] ≡ next ∷ later → ⊥
none_left next later same = cc

no_steps : NoneCanBeDone plain []
no_steps act due = absurd (none_left due.next due.later due.is_first)

rests : (k : SimMachine) → IsIdle plain [] [] k only_read []
rests k = at_rest (record {
  nothing_came = record { room = 512; some = omega arith; nothing = refl };
  through = record { rest = []; reads = no_flag [] refl; written = refl };
  all_out = λ d small there goes free. cc;
  steps = no_steps;
})

some_octet : (x : ℕ) (xs : List ℕ) → x ∷ xs ≡ [] → ⊥
some_octet x xs same = cc

-- no option is both None and Some
pub none_some : {A : Type 0} (x : A) → None ≡ Some x → ⊥
none_some x same = cc

held_up : (k : SimMachine) → OneWaits k → IsHeldUp plain k (offered_one 0) []
held_up k waits = record {
  waits = λ none. some_octet 7 [] (sym waits.out ∙ none);
  offered = 7 ∷ [];
  some = some_octet 7 [];
  took_none = refl;
  reads = λ fed. record { room = 512; some = omega arith; nothing = refl };
  fed = λ _. waits.fed;
  no_room = λ f hand. absurd (none_some f (sym waits.hand ∙ hand));
  steps = no_steps;
}

-- a simulated modem is idle where nothing ever came and the line was read, and where the line took no octet that waits
pub right_idle : RightIdle
right_idle = (rests, held_up)

not_read : (k : SimMachine) → ¬ IsIdle plain [] [] k nothing_asked []
not_read k (line_is_full full) = none_some _ full.took_none
not_read k (at_rest rest) = none_some _ rest.nothing_came.nothing

count_of : Option Write → ℕ
count_of None = 0
count_of (Some w) = w.count

took_one : (k : SimMachine) → ¬ IsHeldUp plain k (offered_one 1) []
unfolding count_of
took_one k full = let same : 1 ≡ 0 = ap count_of full.took_none in absurd (omega (arith, same))

unanswered : (came went : List ℕ) → ¬ IsAtRest plain came went only_read (after [] silent)
unanswered came went rest = said_nothing rest.all_out

-- the step that announces is due once 1 is open
pub due_now : IsDue (announcing 0 one) (after [] ready_one) (Announce one (codes "RING"))
due_now = record { next = step_at 0 (Announce one (codes "RING")); later = []; is_first = refl; is_its = refl; come = refl; open_are = refl; free = refl }

not_done : (came went : List ℕ) → ¬ IsAtRest (announcing 0 one) came went only_read (after [] ready_one)
not_done came went rest = none_some _ (rest.steps (Announce one (codes "RING")) due_now).asked

-- it isn't where the line wasn't read or took the octet, a command wasn't answered, or a step is due
pub wrong_idle : WrongIdle
wrong_idle = (not_read, took_one, unanswered, not_done)

same_length : (n : ℕ) → nat_lt n n ≡ false
same_length n = grind (arith, nat_tests)

neither : (a b : Bool) → a ≡ false → b ≡ false → (a || b) ≡ false
neither true b is is_too = cc
neither false b is is_too = is_too

-- nothing has changed where all is as it was
pub unchanged : (s : SimState ℕ) → has_changed unseen s s ≡ false
unchanged s =
    neither (is_fewer s.machine.unfed s.machine.unfed) _ (same_length (length s.machine.unfed))
    (neither (is_fewer s.machine.core.steps s.machine.core.steps) _ (same_length (length s.machine.core.steps))
    (neither (is_fewer s.machine.out s.machine.out) _ (same_length (length s.machine.out))
    (same_length (holds_over s.machine.core.boxes))))

-- a turn has moved where octets came, a frame was got or octets were handed on, and not where all stays
pub moved_rows : MovedRows
moved_rows = (λ k. refl, λ s f. refl, λ s octets. refl, unchanged, unchanged)

not_both : (b : Bool) → b ≡ true → b ≡ false → ⊥
not_both true is other = cc
not_both false is other = cc

not_before : (old new : SimState ℕ) → has_failed old ≡ false → ¬ ComesTo old new (Err why.Failed)
not_before old new sound turn = not_both (has_failed old) (turn.failed.0 refl) sound

done_before : {says : SimTurn} → IsErrOf (Ok says) why.Failed → ⊥
done_before same = cc

not_after : (old new : SimState ℕ) (says : SimTurn) → has_failed new ≡ true → ¬ ComesTo old new (Ok says)
not_after old new says failed turn = done_before (turn.failed.1 (sym turn.fails ∙ failed))

refused_before : IsErrOf {T = SimTurn} (Err why.NoMemory) why.Failed → ⊥
refused_before same = cc

not_by_memory : (old new : SimState ℕ) → has_failed new ≡ true → ¬ ComesTo old new (Err why.NoMemory)
not_by_memory old new failed turn = refused_before (turn.failed.1 (sym turn.fails ∙ failed))

failing_before : IsErrOf {T = SimTurn} (Err why.Line) why.Failed → ⊥
failing_before same = cc

not_twice : (old new : SimState ℕ) → has_failed old ≡ true → ¬ ComesTo old new (Err why.Line)
not_twice old new failed turn = failing_before (turn.failed.1 failed)

-- Failed is answered just where the line had failed, and the line hasn't failed after Ok or NoMemory
pub wrong_failures : WrongFailures
wrong_failures = (not_before, not_after, not_by_memory, not_twice)

-- what a poll gave is the end, but for want of memory
pub end_rows : EndRows
end_rows = (refl, refl, refl)

step_wants : (k : SimMachine) → IsLeft (announcing 0 one) k (after [] ready_one)
step_wants k = step_is_due (Announce one (codes "RING")) due_now refl

frame_wants : (k : SimMachine) (f : Frame) → k.deframer.next ≡ Some f → IsLeft plain k []
frame_wants k f hand = frame_at_hand f hand

nothing_wants : (k : SimMachine) → IsStill k → ¬ IsLeft plain k []
nothing_wants k still (step_is_due act due none) = none_left due.next due.later due.is_first
nothing_wants k still (hold_is_over d there over) = not_both (is_released (box_at k.core d).hold) over (still.holds d)
nothing_wants k still (frame_at_hand f hand) = none_some f (sym still.hand ∙ hand)

-- memory is wanted for a step that announces and for a frame at hand, and not where there is nothing
pub want_rows : WantRows
want_rows = (step_wants, frame_wants, nothing_wants)

no_line : (s : SimState LineView) → ¬ Says (λ l. l) s s (Err why.Line)
no_line s fails = let one = fails.one_failed in absurd (omega (arith, one))

no_failed : (old new : SimState LineView) → has_failed old ≡ false → ¬ Says (λ l. l) old new (Err why.Failed)
no_failed old new sound had = not_both (has_failed old) had.before sound

-- a poll gives no Line where no call failed, no Failed where none had, and neither Idle nor Moved nor BadN1
pub wrong_givings : WrongGivings
wrong_givings = (no_line, no_failed, λ old new is. is, λ old new is. is, λ old new is. is)
