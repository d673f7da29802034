-- Worked turns of a simulated modem with N1 31: what Idle and Moved say, and what they don't.
use Rattle.std.specs.Prelude.{◌≡◌, ◌≢◌, ℕ, true, false, List, [], ◌∷◌, Some, None, Result, Ok, Err}
use Rattle.mux_frame.specs.Frames.{Frame}
use Rattle.mux_frame.specs.declared.frame.Kind.TheVariants.{Sabm, Ua}
use Rattle.mux_station.specs.declared.role.Role.TheVariants.{Initiator}
use Rattle.mux_station.specs.Acts as station
use Rattle.mux_station.specs.Written.{written}
use Rattle.serial_line.specs.LineViews.{LineView}
use Rattle.modem_history.specs.Turns.{Offers}
use Rattle.modem_sim.specs.declared.error.SimError.{SimError}
use Rattle.modem_sim.specs.declared.error.SimError.TheVariants as why
use Rattle.modem_sim.specs.declared.sim.SimTurn.{SimTurn}
use Rattle.modem_sim.specs.declared.sim.SimTurn.TheVariants.{Ended, Idle, Moved}
use Rattle.modem_sim.specs.Acts.{Act, Wire, after}
use Rattle.modem_sim.specs.Polls.{Says, Turned, kept_end}
use Rattle.modem_sim.specs.Boxes.{is_released}
use Rattle.modem_sim.specs.Cores.{box_at}
use Rattle.modem_sim.specs.Sims.{SimMachine, SimState, has_failed, is_ended}
use Rattle.modem_sim.specs.Turns.{DoesSteps, Exchange, Exchanges, GoesTurn, HandsOn, IsAtRest, IsHeldUp, IsIdle, IsIdleAtLine, IsLeft, Means, NoneIsThere, TakesAtHand, has_moved}
use Rattle.modem_sim.specs.HistoryRows.{announcing, comes, gives, offers, one, plain, ready_one, sends, silent}

-- the line was read and gave nothing; it was offered an octet, of which it took none, or one
abbrev pub only_read : Exchange
only_read = record { write = None; read = Some (record { room = 512; octets = [] }) }

abbrev pub offered_one : ℕ → Exchange
offered_one count =
    record {
      write = Some (record { offered = 7 ∷ []; count = count });
      read = Some (record { room = 512; octets = [] });
    }

abbrev pub nothing_asked : Exchange
nothing_asked = record { write = None; read = None }

-- a machine where an octet waits for the line, and nothing else does
pub record OneWaits (k : SimMachine) : Type 0 where
  pub out : k.out ≡ 7 ∷ []
  pub fed : k.unfed ≡ []
  pub hand : k.deframer.next ≡ None

-- no frame is at hand, and no hold is over
pub record IsStill (k : SimMachine) : Type 0 where
  pub hand : k.deframer.next ≡ None
  pub holds : (d : ℕ) → is_released (box_at k.core d).hold ≡ false

-- nothing ever came, and the line was read: idle; and an octet waits, and the line took none: idle
abbrev pub RightIdle : Type 0
RightIdle =
    ((k : SimMachine) → IsIdle plain [] [] k only_read [])
    × ((k : SimMachine) → OneWaits k → IsHeldUp plain k (offered_one 0) [])

-- A simulated modem isn't idle where the line wasn't read; where it took the octet; where a command wasn't answered;
-- where a step is due.
abbrev pub WrongIdle : Type 0
WrongIdle =
    ((k : SimMachine) → ¬ IsIdle plain [] [] k nothing_asked [])
    × ((k : SimMachine) → ¬ IsHeldUp plain k (offered_one 1) [])
    × ((came went : List ℕ) → ¬ IsAtRest plain came went only_read (after [] silent))
    × ((came went : List ℕ) → ¬ IsAtRest (announcing 0 one) came went only_read (after [] ready_one))

-- a line without octets, whose counts aren't looked at
abbrev pub unseen : ℕ → LineView
unseen l = record { received = []; sent = []; calls = 0; failures = 0; empty_reads = 0; stalled_writes = 0 }

-- a line that is seen to have given octets, and no more
abbrev pub gave : List ℕ → LineView
gave octets = record { received = octets; sent = []; calls = 0; failures = 0; empty_reads = 0; stalled_writes = 0 }

-- A turn has moved in which octets came, a frame was got, or octets were handed to the station. One that leaves all as
-- it was hasn't, even where a frame was given on.
abbrev pub MovedRows : Type 0
MovedRows =
    ((k : SimMachine)
    → has_moved gave (record { line = []; machine = k }) (record { line = 7 ∷ []; machine = k }) [] ≡ true)
    × ((s : SimState ℕ) (f : Frame) → has_moved unseen s s (Wire (station.Got f) ∷ []) ≡ true)
    × ((s : SimState ℕ) (octets : List ℕ) → has_moved unseen s s (offers 1 octets ∷ []) ≡ true)
    × ((s : SimState ℕ) → has_moved unseen s s [] ≡ false)
    × ((s : SimState ℕ) → has_moved unseen s s (gives ∷ []) ≡ false)

-- what a turn comes to, of a line that is seen so
abbrev pub ComesTo : (old new : SimState ℕ) → Result SimTurn SimError → Type 0
ComesTo old new says = Turned unseen old new says

-- A turn doesn't answer Failed where the line hadn't failed, and answers nothing else where it had. The line has failed
-- neither after a turn that did something nor after want of memory.
abbrev pub WrongFailures : Type 0
WrongFailures =
    ((old new : SimState ℕ) → has_failed old ≡ false → ¬ ComesTo old new (Err why.Failed))
    × ((old new : SimState ℕ) (says : SimTurn) → has_failed new ≡ true → ¬ ComesTo old new (Ok says))
    × ((old new : SimState ℕ) → has_failed new ≡ true → ¬ ComesTo old new (Err why.NoMemory))
    × ((old new : SimState ℕ) → has_failed old ≡ true → ¬ ComesTo old new (Err why.Line))

-- what a poll gave is the end, but for want of memory
abbrev pub EndRows : Type 0
EndRows =
    (kept_end None (Ok Ended) ≡ Some (Ok Ended))
    × (kept_end None (Err why.Line) ≡ Some (Err why.Line))
    × (kept_end None (Err why.NoMemory) ≡ None)

-- Memory is wanted where a step that announces is due, and where a frame is at hand; not where no step is
-- left, no hold is over and no frame is at hand.
abbrev pub WantRows : Type 0
WantRows =
    ((k : SimMachine) → IsLeft (announcing 0 one) k (after [] ready_one))
    × ((k : SimMachine) (f : Frame) → k.deframer.next ≡ Some f → IsLeft plain k [])
    × ((k : SimMachine) → IsStill k → ¬ IsLeft plain k [])

-- A poll doesn't give Line where no call failed, Failed where none had failed before, nor Idle, Moved and
-- BadN1 at all.
abbrev pub WrongGivings : Type 0
WrongGivings =
    ((s : SimState LineView) → ¬ Says (λ l. l) s s (Err why.Line))
    × ((old new : SimState LineView) → has_failed old ≡ false → ¬ Says (λ l. l) old new (Err why.Failed))
    × ((old new : SimState LineView) → ¬ Says (λ l. l) old new (Ok Idle))
    × ((old new : SimState LineView) → ¬ Says (λ l. l) old new (Ok Moved))
    × ((old new : SimState LineView) → ¬ Says (λ l. l) old new (Err why.BadN1))

-- a turn calls its line, whatever it answers: where it hasn't ended and nothing is to be fed, and where octets wait for
-- the line
abbrev pub CallsNothing : Type 0
CallsNothing =
    ((old new : SimState ℕ) (says : SimTurn) → is_ended old.machine ≡ false → old.machine.unfed ≡ []
    → ¬ GoesTurn unseen old new says)
    × ((old new : SimState ℕ) (says : SimTurn) → old.machine.out ≢ [] → ¬ GoesTurn unseen old new says)

-- A simulated modem isn't idle where all is fed and its line counts no further empty read, nor where octets wait and
-- its line counts no further stalled write.
abbrev pub WrongCounts : Type 0
WrongCounts =
    ((old new : SimState ℕ) → new.machine.unfed ≡ [] → ¬ IsIdleAtLine unseen old new)
    × ((old new : SimState ℕ) → new.machine.out ≢ [] → ¬ IsIdleAtLine unseen old new)

abbrev pub reads_in_vain : Exchange
reads_in_vain = record { write = None; read = Some (record { room = 0; octets = [] }) }

-- an offer has octets, and a read has room
abbrev pub WrongCalls : Type 0
WrongCalls =
    ((left : List ℕ) → ¬ Offers (Some (record { offered = []; count = 0 })) left)
    × ((old new : SimState ℕ) → ¬ Exchanges unseen old new reads_in_vain)

-- A turn doesn't answer Moved where nothing changed; it doesn't leave a step that is due, a frame at hand for
-- which there is room, nor an answer that it could hand to the station; and it doesn't say that all is there
-- while a frame waits in the control queue.
abbrev pub WrongTurns : Type 0
WrongTurns =
    ((s : SimState ℕ) (came went : List ℕ) (t : Exchange) (past : List Act)
    → ¬ Means unseen plain came went s s t [] past Moved)
    × ((past : List Act) → ¬ DoesSteps (announcing 0 one) past (after [] ready_one))
    × (¬ TakesAtHand plain (Some (written Initiator Sabm 0 [])) [] [])
    × ((past : List Act) → ¬ HandsOn plain past (after [] silent))
    × (¬ NoneIsThere (after [] (comes Sabm 0 [] ∷ sends Ua 0 [] ∷ [])))
