-- Worked histories of a simulated modem with N1 31.
use Rattle.std.proofs.Common.{lit<}
use Rattle.std.specs.Prelude.{◌≡◌, ℕ, Bool, true, false, List, [], ◌∷◌, ◌++◌, codes}
use Rattle.mux_frame.specs.declared.dlci.Dlci.{Dlci}
use Rattle.mux_frame.specs.declared.frame.Kind.{Kind}
use Rattle.mux_frame.specs.declared.frame.Kind.TheVariants.{Sabm, Ua, Dm, Disc, Uih}
use Rattle.mux_station.specs.declared.role.Role.TheVariants.{Initiator, Responder}
use Rattle.mux_station.specs.Acts as station
use Rattle.mux_station.specs.Written.{written}
use Rattle.mux_station.specs.Tables.{msc_frame, message_frame, ready, held_up}
use Rattle.mux_station.specs.Messages.{cld, msc, response_of}
use Rattle.modem_sim.specs.declared.script.Step.{Step}
use Rattle.modem_sim.specs.declared.script.StepAct.{StepAct}
use Rattle.modem_sim.specs.declared.script.StepAct.TheVariants.{Announce, Flow, Hold, Disconnect, CloseDown}
use Rattle.modem_sim.specs.Steps.{started}
use Rattle.modem_sim.specs.Rows.{unlocked}
use Rattle.mux_station.specs.Offering.{data_out}
use Rattle.modem_sim.specs.Acts.{Act, Wire, Did, End, wire, after}
use Rattle.modem_sim.specs.Pieces.{framed, pieces_octets}
use Rattle.modem_sim.specs.Outboxes.{outbox}
use Rattle.modem_sim.specs.Histories.{SimLawful, SimComplete, AllIsOut}

abbrev pub zero : Dlci
zero = record { number = 0; in_range = lit< tt }

abbrev pub one : Dlci
one = record { number = 1; in_range = lit< tt }

abbrev pub two : Dlci
two = record { number = 2; in_range = lit< tt }

-- a simulated modem that repeats commands or doesn't, with these steps
abbrev pub simulated : Bool → List Step → End
simulated echo steps = record { n1 = 31; echo = echo; steps = steps; modem = started unlocked }

abbrev pub plain : End
plain = simulated false []

abbrev pub step_at : ℕ → StepAct → Step
step_at n act = record { after = n; act = act }

-- a frame comes from the driver; a frame is sent; one of the control queue is given on; octets are handed
-- to the station
abbrev pub comes : Kind → ℕ → List ℕ → Act
comes k d info = Wire (station.Got (written Initiator k d info))

abbrev pub sends : Kind → ℕ → List ℕ → Act
sends k d info = Wire (station.Sent (written Responder k d info))

abbrev pub gives : Act
gives = Wire station.Given

abbrev pub offers : ℕ → List ℕ → Act
offers d octets = Wire (station.Called (station.Offer d octets))

abbrev pub cr : List ℕ
cr = 0xd ∷ []

-- a command comes
abbrev pub asks : ℕ → List ℕ → Act
asks d line = comes Uih d (line ++ cr)

-- octets are handed on and leave
abbrev pub writes : ℕ → List ℕ → List Act
writes d octets = offers d octets ∷ sends Uih d octets ∷ []

abbrev pub open_zero : List Act
open_zero = comes Sabm 0 [] ∷ sends Ua 0 [] ∷ gives ∷ []

abbrev pub opening : ℕ → List Act
opening d =
    comes Sabm d [] ∷ sends Ua d [] ∷ Wire (station.Sent (msc_frame Responder d ready)) ∷ gives ∷ gives ∷ []

-- connections 0 and 1 are open
abbrev pub ready_one : List Act
ready_one = open_zero ++ opening 1

-- 2 too
abbrev pub ready_two : List Act
ready_two = ready_one ++ opening 2

-- ## Histories of a right one

-- a command is answered
abbrev pub csq : List Act
csq = ready_one ++ asks 1 (codes "AT+CSQ") ∷ writes 1 (framed (codes "+CSQ: 18,99") ++ framed (codes "OK"))

-- a command is repeated, then answered
abbrev pub repeated : List Act
repeated = ready_one ++ asks 1 (codes "at") ∷ writes 1 (codes "at" ++ cr ++ framed (codes "OK"))

-- one modem for two connections, the answer in two pieces
abbrev pub two_connections : List Act
two_connections =
    ready_two ++ asks 1 (codes "AT+CMEE=1") ∷ asks 2 (codes "AT+CMUX=0") ∷ offers 1 (framed (codes "OK"))
    ∷ offers 2 (framed (codes "+CME ERROR: 3")) ∷ sends Uih 2 (0xd ∷ 0xa ∷ codes "+CME")
    ∷ sends Uih 1 (framed (codes "OK")) ∷ sends Uih 2 (codes " ERROR: 3" ++ 0xd ∷ 0xa ∷ []) ∷ []

-- the answer on 1 waits for a command on 2, a line of the modem's own doesn't
abbrev pub holding : End
holding = simulated false (step_at 0 (Hold one two) ∷ step_at 1 (Announce one (codes "RING")) ∷ [])

abbrev pub held_back : List Act
held_back =
    ready_two ++ Did (Hold one two) ∷ asks 1 (codes "AT") ∷ Did (Announce one (codes "RING"))
    ∷ writes 1 (framed (codes "RING")) ++ asks 2 (codes "AT+CGATT?")
    ∷ offers 2 (framed (codes "+CGATT: 0") ++ framed (codes "OK")) ∷ writes 1 (framed (codes "OK"))
    ++ sends Uih 2 (framed (codes "+CGATT: 0") ++ framed (codes "OK")) ∷ []

-- steps ask the station for flow control, for a close and for closing down; steps that can't be done are
-- passed over
abbrev pub asking : End
asking =
    simulated false
    (step_at 0 (Announce zero (codes "RING")) ∷ step_at 0 (Announce one []) ∷ step_at 0 (Flow one false)
    ∷ step_at 0 (Disconnect one) ∷ step_at 0 CloseDown ∷ [])

abbrev pub asked_of_station : List Act
asked_of_station =
    ready_one ++ Did (Flow one false) ∷ Wire (station.Called (station.Flow 1 false))
    ∷ Wire (station.Sent (msc_frame Responder 1 held_up)) ∷ gives ∷ Did (Disconnect one)
    ∷ Wire (station.Called (station.Close 1)) ∷ sends Disc 1 [] ∷ gives
    ∷ Did CloseDown ∷ Wire (station.Called station.Stop)
    ∷ Wire (station.Sent (message_frame Responder cld [])) ∷ gives ∷ []

-- ## Histories of wrong ones

-- an answer twice
abbrev pub answered_twice : List Act
answered_twice = csq ++ offers 1 (framed (codes "OK")) ∷ []

-- an answer to nothing
abbrev pub answered_unasked : List Act
answered_unasked = ready_one ++ offers 1 (framed (codes "OK")) ∷ []

-- a modem for each connection: the error mode that was set on 1 doesn't hold on 2
abbrev pub modem_for_each : List Act
modem_for_each =
    ready_two ++ asks 1 (codes "AT+CMEE=1") ∷ asks 2 (codes "AT+CMUX=0") ∷ offers 2 (framed (codes "ERROR"))
    ∷ []

-- an answer before the end of the line
abbrev pub answered_early : List Act
answered_early = ready_one ++ comes Uih 1 (codes "AT") ∷ offers 1 (framed (codes "OK")) ∷ []

-- a command is repeated where that is off, and isn't where it is on
abbrev pub repeated_unasked : List Act
repeated_unasked = ready_one ++ asks 1 (codes "AT") ∷ offers 1 (codes "AT" ++ cr ++ framed (codes "OK")) ∷ []

abbrev pub not_repeated : List Act
not_repeated = ready_one ++ asks 1 (codes "AT") ∷ offers 1 (framed (codes "OK")) ∷ []

-- a line without CR LF before it
abbrev pub unframed : List Act
unframed = ready_one ++ asks 1 (codes "AT") ∷ offers 1 (codes "OK" ++ 0xd ∷ 0xa ∷ []) ∷ []

-- the answer to another connection's command
abbrev pub answered_elsewhere : List Act
answered_elsewhere = ready_two ++ asks 1 (codes "AT") ∷ offers 2 (framed (codes "OK")) ∷ []

-- an answer that a hold holds back
abbrev pub answered_held : List Act
answered_held =
    ready_two ++ Did (Hold one two) ∷ asks 1 (codes "AT") ∷ offers 1 (framed (codes "OK")) ∷ []

-- the answer to a command that came before the connection opened anew
abbrev pub answered_after_reopening : List Act
answered_after_reopening = ready_one ++ asks 1 (codes "AT") ∷ opening 1 ++ offers 1 (framed (codes "OK")) ∷ []

-- a modem that announces a line
abbrev pub announcing : ℕ → Dlci → End
announcing n d = simulated false (step_at n (Announce d (codes "RING")) ∷ [])

-- a step before it is due, twice, and on a connection that isn't open
abbrev pub done_early : List Act
done_early = ready_one ++ Did (Announce one (codes "RING")) ∷ []

abbrev pub done_twice : List Act
done_twice = ready_one ++ Did (Announce one (codes "RING")) ∷ Did (Announce one (codes "RING")) ∷ []

abbrev pub done_while_shut : List Act
done_while_shut = ready_one ++ Did (Announce two (codes "RING")) ∷ []

-- another line than the step has
abbrev pub announced_otherwise : List Act
announced_otherwise =
    ready_one ++ Did (Announce one (codes "RING")) ∷ offers 1 (framed (codes "RINGING")) ∷ []

-- a close that no step asked for, and a step that doesn't ask the station
abbrev pub closed_unasked : List Act
closed_unasked = ready_one ++ Wire (station.Called (station.Close 1)) ∷ []

abbrev pub done_without_asking : List Act
done_without_asking = ready_one ++ Did (Flow one false) ∷ asks 1 (codes "AT") ∷ []

-- a tick that nobody gave
abbrev pub ticked : List Act
ticked = ready_one ++ Wire station.Tick ∷ []

-- an answer while the driver has stopped the connection
abbrev pub stop_one : List ℕ
stop_one = msc ∷ 5 ∷ 7 ∷ held_up ∷ []

abbrev pub answered_while_stopped : List Act
answered_while_stopped =
    ready_one ++ comes Uih 0 stop_one
    ∷ Wire (station.Sent (message_frame Responder (response_of msc) (7 ∷ held_up ∷ []))) ∷ gives
    ∷ asks 1 (codes "AT") ∷ writes 1 (framed (codes "OK"))

-- a mark that a frame was given on, where none waits
abbrev pub marked_alone : List Act
marked_alone = ready_one ++ gives ∷ []

-- no octets are handed to the station
abbrev pub offered_nothing : List Act
offered_nothing = ready_one ++ offers 1 [] ∷ []

-- an opening that is refused
abbrev pub refused_opening : List Act
refused_opening = open_zero ++ comes Sabm 1 [] ∷ sends Dm 1 [] ∷ []

-- a modem that answers nothing
abbrev pub silent : List Act
silent = ready_one ++ asks 1 (codes "AT") ∷ []

-- an opening without its MSC
abbrev pub without_msc : List Act
without_msc = open_zero ++ comes Sabm 1 [] ∷ sends Ua 1 [] ∷ []

-- ## What is said of rows

-- it is lawful, nothing is owed, and on 1 and 2 all is out
pub record IsGood (e : End) (acts : List Act) : Type 0 where
  pub lawful : SimLawful e (after [] acts)
  pub complete : SimComplete e (after [] acts)
  pub out : (data_out Responder 1 (wire (after [] acts)) ≡ pieces_octets (outbox e 1 (after [] acts)).said)
      × (data_out Responder 2 (wire (after [] acts)) ≡ pieces_octets (outbox e 2 (after [] acts)).said)

abbrev pub IsRefused : End → List Act → Type 0
IsRefused e acts = ¬ SimLawful e (after [] acts)

abbrev pub GoodRows : Type 0
GoodRows =
    IsGood plain csq × IsGood (simulated true []) repeated × IsGood plain two_connections
    × IsGood holding held_back × IsGood asking asked_of_station

-- those of one that answers wrongly
abbrev pub WrongAnswers : Type 0
WrongAnswers =
    IsRefused plain answered_twice × IsRefused plain answered_unasked × IsRefused plain modem_for_each
    × IsRefused plain answered_early × IsRefused plain repeated_unasked
    × IsRefused (simulated true []) not_repeated
    × IsRefused plain unframed × IsRefused plain answered_elsewhere × IsRefused holding answered_held
    × IsRefused plain answered_after_reopening × IsRefused plain answered_while_stopped

-- of one that does its steps wrongly
abbrev pub WrongSteps : Type 0
WrongSteps =
    IsRefused (announcing 1 one) done_early × IsRefused (announcing 0 one) done_twice
    × IsRefused (announcing 0 two) done_while_shut × IsRefused (announcing 0 one) announced_otherwise
    × IsRefused plain closed_unasked × IsRefused asking done_without_asking

-- of one that opens wrongly, has a time of its own, marks what isn't there, offers nothing, or says nothing
abbrev pub WrongOtherwise : Type 0
WrongOtherwise =
    IsRefused plain ticked × IsRefused plain refused_opening × IsRefused plain marked_alone
    × IsRefused plain offered_nothing
    × ¬ AllIsOut plain (after [] silent) × ¬ SimComplete plain (after [] without_msc)
