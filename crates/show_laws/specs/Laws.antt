-- What is never wrong with a frame of a lawful line.
use Rattle.std.specs.Prelude.{◌≡◌, ℕ, ◌≤◌, ◌||◌, nat_le, Bool, true, false, List, [], ◌∷◌, length, ◌==◌, ◌&&◌, Option, None, Some, map, reverse}
use Rattle.std.specs.List.{list_all, list_any}
use Rattle.mux_capture.specs.declared.packet.Stamp.{Stamp}
use Rattle.mux_station.specs.declared.role.Role.TheVariants.{Initiator, Responder}
use Rattle.mux_station.specs.Acts as station
use Rattle.mux_station.specs.Messages.{Message, fcoff, message_in, msc, msc_stops}
use Rattle.modem_desk.specs.declared.request.Ask.{Ask}
use Rattle.modem_desk.specs.declared.request.Ask.TheVariants.{Probe}
use Rattle.modem_history.specs.Acts as driver
use Rattle.modem_history.specs.Acts.{wire}
use Rattle.modem_history.specs.Calls.{Setting}
use Rattle.modem_history.specs.TwoEnds.{AsksOnce, TakesCommandLines, frames_sent}
use Rattle.modem_history.specs.Wholes.{taken_requests}
use Rattle.modem_show.specs.declared.rule.Rule.TheVariants.{Unasked, Unopened, Unstopped, TooLong, Astray}
use Rattle.modem_show.specs.Judging.{faults_from, is_text, unanswered}
use Rattle.modem_show.specs.Rows.{sound}
use Rattle.show_laws.specs.Lines.{IsDone, IsLawfulLine, LineAct, NoneBreaks, ReadsInTime, ReadsWhileOpen, StopsAsking, captured, driver_past, modem_past}

-- each answer answers something that waits for it, whatever N1 the line is judged by
unfoldable pub AnswersAsks : Setting → ℕ → List LineAct → Type 0
AnswersAsks s n1 line =
    IsLawfulLine s n1 line → (stamps : ℕ → Stamp) (most : ℕ) → NoneBreaks Unasked most (captured stamps line)

-- ## Information

-- each probe that was taken has at most 16 octets
abbrev pub is_short_ask : Ask → Bool
is_short_ask (Probe octets) = nat_le (length octets) 16
is_short_ask _ = true

abbrev pub TakesShortProbes : List driver.Act → Type 0
TakesShortProbes past = list_all (λ q. is_short_ask q.ask) (taken_requests past) ≡ true

-- no frame has more information than this, where neither end has a greater N1, and a probe fits
unfoldable pub FitsN1 : Setting → ℕ → List LineAct → Type 0
FitsN1 s n1 line =
    IsLawfulLine s n1 line → TakesShortProbes (driver_past line)
    → (stamps : ℕ → Stamp) (most : ℕ) → 18 ≤ most → s.n1 ≤ most → n1 ≤ most → NoneBreaks TooLong most (captured stamps line)

-- ## Text

-- the octets of each offer are those of lines
abbrev pub OffersText : List station.Act → Type 0
OffersText [] = Unit {0}
OffersText (station.Called (station.Offer d octets) ∷ past) = (is_text octets ≡ true) × OffersText past
OffersText (_ ∷ past) = OffersText past

-- no data is a control message, where the driver is given command lines and the modem's user offers lines
unfoldable pub CarriesText : Setting → ℕ → List LineAct → Type 0
CarriesText s n1 line =
    IsLawfulLine s n1 line → TakesCommandLines (driver_past line) → OffersText (modem_past line)
    → (stamps : ℕ → Stamp) (most : ℕ) → NoneBreaks Astray most (captured stamps line)

-- ## Openings

-- neither end sends data on a connection that isn't open, where the driver asks for each connection once at most
unfoldable pub SendWhileOpen : Setting → ℕ → List LineAct → Type 0
SendWhileOpen s n1 line =
    IsLawfulLine s n1 line → AsksOnce (wire (driver_past line)) → (stamps : ℕ → Stamp) (most : ℕ) → NoneBreaks Unopened most (captured stamps line)

-- ## Answers

-- Where nothing is under way each ask was answered, or needn't be, where the driver asks for each connection once at most, each control
-- command came in time, and the modem sent none behind a CLD or the response to one.
unfoldable pub AnswersAll : Setting → ℕ → List LineAct → Type 0
AnswersAll s n1 line =
    IsLawfulLine s n1 line → IsDone s n1 line → AsksOnce (wire (driver_past line)) → ReadsInTime Initiator (wire (driver_past line))
    → ReadsInTime Responder (modem_past line) → StopsAsking (frames_sent (modem_past line)) → (stamps : ℕ → Stamp)
    → (unanswered Initiator (captured stamps line) ≡ []) × (unanswered Responder (captured stamps line) ≡ [])

-- so it is, however often a connection is asked for, where each control command came while 0 was open
unfoldable pub AnswersWhileOpen : Setting → ℕ → List LineAct → Type 0
AnswersWhileOpen s n1 line =
    IsLawfulLine s n1 line → IsDone s n1 line → ReadsWhileOpen Initiator (wire (driver_past line)) → ReadsWhileOpen Responder (modem_past line)
    → (stamps : ℕ → Stamp)
    → (unanswered Initiator (captured stamps line) ≡ []) × (unanswered Responder (captured stamps line) ≡ [])

-- ## Stops

-- a message stops connections: an MSC with FC, or FCoff
abbrev pub message_stops : Option Message → Bool
message_stops None = false
message_stops (Some m) = ((m.octet == msc) && msc_stops m.value) || (m.octet == fcoff)

-- no message that stops was sent
abbrev pub StopsNothing : List station.Act → Type 0
StopsNothing past = list_any (λ f. message_stops (message_in f)) (frames_sent past) ≡ false

-- no data is sent on a connection that is stopped, where neither end stops any
unfoldable pub NeverStopped : Setting → ℕ → List LineAct → Type 0
NeverStopped s n1 line =
    IsLawfulLine s n1 line → StopsNothing (wire (driver_past line)) → StopsNothing (modem_past line)
    → (stamps : ℕ → Stamp) (most : ℕ) → NoneBreaks Unstopped most (captured stamps line)

-- No data is sent on a connection that is stopped, whichever end stops it, where the driver asks for each connection once at most.
unfoldable pub HeedsStops : Setting → ℕ → List LineAct → Type 0
HeedsStops s n1 line =
    IsLawfulLine s n1 line → AsksOnce (wire (driver_past line)) → (stamps : ℕ → Stamp) (most : ℕ) → NoneBreaks Unstopped most (captured stamps line)

-- ## All rules of a frame

-- a lawful line on which all this holds
pub record IsPlainLine (s : Setting) (n1 : ℕ) (line : List LineAct) : Type 0 where
  pub lawful : IsLawfulLine s n1 line
  pub once : AsksOnce (wire (driver_past line))
  pub commands : TakesCommandLines (driver_past line)
  pub offers : OffersText (modem_past line)
  pub probes : TakesShortProbes (driver_past line)

-- nothing is wrong with any frame, where neither end has a greater N1 than this, and a probe fits
unfoldable pub AllSound : Setting → ℕ → List LineAct → Type 0
AllSound s n1 line =
    IsPlainLine s n1 line → (stamps : ℕ → Stamp) (most : ℕ) → 18 ≤ most → s.n1 ≤ most → n1 ≤ most
    → faults_from most [] (reverse (captured stamps line)) ≡ map (λ c. sound) (captured stamps line)
