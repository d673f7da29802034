-- What holds of each frame of a line, by what holds at each of its points.
use Rattle.std.specs.Prelude.{◌≡◌, ℕ, false, List, [], ◌∷◌, length, refl}
use Rattle.mux_frame.specs.Frames.{Frame}
use Rattle.mux_capture.specs.Passing.{Caught}
use Rattle.mux_capture.specs.declared.packet.Direction.TheVariants.{ToModem, FromModem}
use Rattle.mux_capture.specs.declared.packet.Stamp.{Stamp}
use Rattle.mux_station.specs.Acts as station
use Rattle.mux_station.specs.Sending.{StationLawful}
use Rattle.modem_history.specs.Acts as driver
use Rattle.modem_history.specs.Calls.{Setting}
use Rattle.modem_history.specs.Lawful.{Lawful}
use Rattle.modem_show.specs.declared.rule.Rule.{Rule}
use Rattle.modem_show.specs.Judging.{faults_of}
use Rattle.modem_show.specs.Rules.{breaks}
use Rattle.modem_show.specs.Ways.{caught}
use Rattle.show_laws.specs.Lines.{AtDriver, AtModem, IsLawfulLine, LineAct, NoneBreaks, captured, stamped, driver_past, modem_past, responding}
use Rattle.show_laws.proofs.lines.JudgedFrames.{one_more}

-- ## Each point of the line

-- the modem's laws held before its last act
station_before : (n1 : ℕ) (a : station.Act) (past : List station.Act) → StationLawful (responding n1) (a ∷ past) → StationLawful (responding n1) past
unfolding StationLawful
station_before n1 (station.Called c) past l = l
station_before n1 (station.Got f) past l = l
station_before n1 (station.Sent f) past l = l.1
station_before n1 station.Tick past l = l
station_before n1 station.Lost past l = l
station_before n1 station.Given past l = l

driver_before : (s : Setting) (a : driver.Act) (past : List driver.Act) → Lawful s (a ∷ past) → Lawful s past
unfolding Lawful
driver_before s a past l = l.1

-- a lawful line is lawful before its newest act
pub lawful_before : (s : Setting) (n1 : ℕ) (x : LineAct) (line : List LineAct) → IsLawfulLine s n1 (x ∷ line) → IsLawfulLine s n1 line
lawful_before s n1 (AtDriver a) line h = record {
  is_initiator = h.is_initiator;
  driver_lawful = driver_before s a (driver_past line) h.driver_lawful;
  modem_lawful = h.modem_lawful;
  one_line = h.one_line.1;
}
lawful_before s n1 (AtModem a) line h = record {
  is_initiator = h.is_initiator;
  driver_lawful = h.driver_lawful;
  modem_lawful = station_before n1 a (modem_past line) h.modem_lawful;
  one_line = h.one_line.1;
}

-- ## All frames

-- what holds of the empty capture, and goes on with each frame that is sent, holds of the whole
pub over : (P : List LineAct → Type 0) → ((x : LineAct) (line : List LineAct) → P (x ∷ line) → P line) → (Q : List Caught → Type 0) → (stamps : ℕ → Stamp) → Q []
    → ((f : Frame) (line : List LineAct) → P (AtDriver (driver.Sent f) ∷ line) → Q (captured stamps line) → Q (stamped stamps ToModem f (captured stamps line)))
    → ((f : Frame) (line : List LineAct) → P (AtModem (station.Sent f) ∷ line) → Q (captured stamps line) → Q (stamped stamps FromModem f (captured stamps line)))
    → (line : List LineAct) → P line → Q (captured stamps line)
over P before Q stamps none d m [] h = none
over P before Q stamps none d m (AtDriver (driver.Sent f) ∷ line) h = d f line h (over P before Q stamps none d m line (before (AtDriver (driver.Sent f)) line h))
over P before Q stamps none d m (AtModem (station.Sent f) ∷ line) h = m f line h (over P before Q stamps none d m line (before (AtModem (station.Sent f)) line h))
over P before Q stamps none d m (AtDriver (driver.Took q) ∷ line) h = over P before Q stamps none d m line (before (AtDriver (driver.Took q)) line h)
over P before Q stamps none d m (AtDriver (driver.Got f) ∷ line) h = over P before Q stamps none d m line (before (AtDriver (driver.Got f)) line h)
over P before Q stamps none d m (AtDriver (driver.Told o) ∷ line) h = over P before Q stamps none d m line (before (AtDriver (driver.Told o)) line h)
over P before Q stamps none d m (AtDriver (driver.Heard k e l) ∷ line) h = over P before Q stamps none d m line (before (AtDriver (driver.Heard k e l)) line h)
over P before Q stamps none d m (AtDriver driver.Tick ∷ line) h = over P before Q stamps none d m line (before (AtDriver driver.Tick) line h)
over P before Q stamps none d m (AtDriver driver.Lost ∷ line) h = over P before Q stamps none d m line (before (AtDriver driver.Lost) line h)
over P before Q stamps none d m (AtDriver (driver.Held e) ∷ line) h = over P before Q stamps none d m line (before (AtDriver (driver.Held e)) line h)
over P before Q stamps none d m (AtDriver (driver.Freed e) ∷ line) h = over P before Q stamps none d m line (before (AtDriver (driver.Freed e)) line h)
over P before Q stamps none d m (AtDriver driver.Given ∷ line) h = over P before Q stamps none d m line (before (AtDriver driver.Given) line h)
over P before Q stamps none d m (AtModem (station.Called c) ∷ line) h = over P before Q stamps none d m line (before (AtModem (station.Called c)) line h)
over P before Q stamps none d m (AtModem (station.Got f) ∷ line) h = over P before Q stamps none d m line (before (AtModem (station.Got f)) line h)
over P before Q stamps none d m (AtModem station.Tick ∷ line) h = over P before Q stamps none d m line (before (AtModem station.Tick) line h)
over P before Q stamps none d m (AtModem station.Lost ∷ line) h = over P before Q stamps none d m line (before (AtModem station.Lost) line h)
over P before Q stamps none d m (AtModem station.Given ∷ line) h = over P before Q stamps none d m line (before (AtModem station.Given) line h)

-- no frame breaks the rule, where none does at the point at which it is sent
pub every : (P : List LineAct → Type 0) → ((x : LineAct) (line : List LineAct) → P (x ∷ line) → P line) → (rule : Rule) (most : ℕ) (stamps : ℕ → Stamp)
    → ((f : Frame) (line : List LineAct) → P (AtDriver (driver.Sent f) ∷ line) → breaks (faults_of most (captured stamps line) (caught (stamps (length (captured stamps line))) ToModem f)) rule ≡ false)
    → ((f : Frame) (line : List LineAct) → P (AtModem (station.Sent f) ∷ line) → breaks (faults_of most (captured stamps line) (caught (stamps (length (captured stamps line))) FromModem f)) rule ≡ false)
    → (line : List LineAct) → P line → NoneBreaks rule most (captured stamps line)
every P before rule most stamps d m line h =
    over P before (NoneBreaks rule most) stamps refl
    (λ f line k q. one_more rule most (caught (stamps (length (captured stamps line))) ToModem f) (captured stamps line) q (d f line k))
    (λ f line k q. one_more rule most (caught (stamps (length (captured stamps line))) FromModem f) (captured stamps line) q (m f line k)) line h
