-- The laws of a simulated modem's history, and when its octets and its modem fit one.
use Rattle.std.specs.Prelude.{◌≡◌, ◌≢◌, ℕ, ◌<◌, nat_eq, true, false, List, [], ◌∷◌, ◌++◌, length, take, map, filter, Some, None}
use Rattle.std.specs.List.{starts_with, flat_map}
use Rattle.mux_frame.specs.Frames.{Frame}
use Rattle.mux_frame.specs.Reading.{Reads}
use Rattle.mux_frame.specs.Spelling as spelling
use Rattle.mux_station.specs.declared.role.Role.TheVariants.{Responder}
use Rattle.mux_station.specs.Acts as station
use Rattle.mux_station.specs.Sending as sending
use Rattle.mux_station.specs.Stopping.{is_stopped}
use Rattle.mux_station.specs.Offering.{offered, data_out}
use Rattle.modem_history.specs.Wholes.{IsPrefixOf}
use Rattle.modem_sim.specs.declared.script.Step.{Step}
use Rattle.modem_sim.specs.declared.script.StepAct.{StepAct}
use Rattle.modem_sim.specs.declared.state.ModemState.{ModemState}
use Rattle.modem_sim.specs.Acts.{Act, Wire, Did, End, setting, wire, is_open_at_modem}
use Rattle.modem_sim.specs.Heard.{modem_after}
use Rattle.modem_sim.specs.Pieces.{pieces_octets, asked_for}
use Rattle.modem_sim.specs.Outboxes.{outbox, hold_on, replies_since}
use Rattle.modem_sim.specs.Doing.{IsDue, call_owed, acts, done}

-- the octets that the station is handed, at least one, are the next ones of what is said
pub record IsStationOffer (e : End) (past : List Act) (d : ℕ) (octets : List ℕ) : Type 0 where
  pub free : call_owed past ≡ None
  pub some : octets ≢ []
  pub next :
      starts_with nat_eq (pieces_octets (outbox e d past).said) (offered Responder d (wire past) ++ octets)
      ≡ true

-- the call is what the step that was just done asks for, and it isn't refused
pub record IsAsked (e : End) (past : List Act) (call : station.Call) : Type 0 where
  pub owed : call_owed past ≡ Some call
  pub taken : sending.refused (setting e) (sending.station_view (setting e) (wire past)) call ≡ None

-- a step is done where it is due, and no step before it still asks something of the station
pub record MayDo (e : End) (past : List Act) (step : StepAct) : Type 0 where
  pub free : call_owed past ≡ None
  pub due : IsDue e past step

-- a frame of the control queue is given on where one waits there
pub record MayGive (past : List Act) : Type 0 where
  pub free : call_owed past ≡ None
  pub waits : sending.queue (wire past) ≢ []

-- the act may follow: the station is handed octets that are said, or asked for what the step asks that was just done;
-- there is no tick and no loss
abbrev pub Allows : End → List Act → Act → Type 0
Allows e past (Did step) = MayDo e past step
Allows e past (Wire (station.Called (station.Offer d octets))) = IsStationOffer e past d octets
Allows e past (Wire (station.Called call)) = IsAsked e past call
Allows e past (Wire (station.Got f)) = call_owed past ≡ None
Allows e past (Wire (station.Sent f)) = call_owed past ≡ None
Allows e past (Wire station.Given) = MayGive past
Allows e past (Wire station.Tick) = ⊥
Allows e past (Wire station.Lost) = ⊥

abbrev pub EachAllowed : End → List Act → Type 0
EachAllowed e [] = Unit {0}
EachAllowed e (a ∷ past) = Allows e past a × EachAllowed e past

-- each act may follow those before it, at the station and at the modem
pub record SimLawful (e : End) (past : List Act) : Type 0 where
  pub at_station : sending.StationLawful (setting e) (wire past)
  pub acts : EachAllowed e past

-- nothing is owed
pub record SimComplete (e : End) (past : List Act) : Type 0 where
  pub at_station : sending.StationComplete (setting e) (wire past)
  pub called : call_owed past ≡ None

-- ## What fits a history

abbrev pub got : List Act → List Frame
got [] = []
got (Wire (station.Got f) ∷ past) = got past ++ f ∷ []
got (_ ∷ past) = got past

abbrev pub sent : List Act → List Frame
sent [] = []
sent (Wire (station.Sent f) ∷ past) = sent past ++ f ∷ []
sent (_ ∷ past) = sent past

-- the frames that came are the first of those that the octets received are read as, and the octets sent are
-- the first of the spellings of the frames sent
pub record FitsOctets (n1 : ℕ) (received sent_octets : List ℕ) (past : List Act) : Type 0 where
  pub coming : List Frame
  pub rest : List ℕ
  pub reads : Reads n1 received (got past ++ coming) rest
  pub unwritten : List ℕ
  pub written : sent_octets ++ unwritten ≡ flat_map spelling.spelled (sent past)

-- all frames that the octets received are read as have come, and all frames sent are written
pub record IsThrough (n1 : ℕ) (received sent_octets : List ℕ) (past : List Act) : Type 0 where
  pub rest : List ℕ
  pub reads : Reads n1 received (got past) rest
  pub written : sent_octets ≡ flat_map spelling.spelled (sent past)

-- the modem is the one that was handed in, after all lines that came
abbrev pub FitsModem : End → List Act → ModemState → Type 0
FitsModem e past m = modem_after e past ≡ m

-- on each open connection that is neither stopped nor held, all that is said has gone out
abbrev pub AllIsOut : End → List Act → Type 0
AllIsOut e past =
    (d : ℕ) → d < 62 → is_open_at_modem d past ≡ true → is_stopped Responder d (wire past) ≡ false
    → hold_on d past ≡ None → data_out Responder d (wire past) ≡ pieces_octets (outbox e d past).said

-- ## Laws

-- what left on a connection since it opened is the beginning of what is said there, piece by piece
abbrev pub LeavesInPieces : End → List Act → Type 0
LeavesInPieces e past =
    (d : ℕ) → IsPrefixOf (data_out Responder d (wire past)) (pieces_octets (outbox e d past).said)

-- without the lines that no command asked for, what is said and held back on an open connection are the
-- replies to the lines that came on it since it opened, in order
abbrev pub SaysReplies : End → List Act → Type 0
SaysReplies e past =
    (d : ℕ) → is_open_at_modem d past ≡ true
    → asked_for (outbox e d past).said ++ asked_for (outbox e d past).held ≡ replies_since e d past

-- the steps that were done are the first of the script's, without those that are passed over: each once and
-- in order
abbrev pub DoesInOrder : End → List Act → Type 0
DoesInOrder e past =
    let steps = filter (λ (s : Step). acts s.act) e.steps in
    done past ≡ map (λ (s : Step). s.act) (take (length (done past)) steps)
