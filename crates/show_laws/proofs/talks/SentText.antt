-- While a connection is open that was asked for once, what came on it and what was sent since it opened is all that did.
use Rattle.std.specs.Prelude.{◌≡◌, ℕ, ◌==◌, ◌≤◌, ◌&&◌, ◌||◌, Bool, true, false, List, [], ◌∷◌, ◌++◌, refl, if◌then◌else◌}
use Rattle.std.proofs.Common.{ap, arith, sym, ◌∙◌}
use Rattle.std.proofs.lemmas.Bool.{and_parts}
use Rattle.mux_frame.specs.Frames.{Frame}
use Rattle.mux_frame.specs.declared.frame.Kind.TheVariants.{Sabm, Ua}
use Rattle.mux_station.specs.declared.role.Role.TheVariants.{Initiator, Responder}
use Rattle.mux_station.specs.Acts as station
use Rattle.mux_station.specs.Opening.{is_open, opens_now, is_asked}
use Rattle.mux_station.specs.Sending.{StationLawful}
use Rattle.mux_station.specs.Written.{is_on}
use Rattle.modem_history.specs.Acts as driver
use Rattle.modem_history.specs.Acts.{wire}
use Rattle.modem_history.specs.Calls.{Setting}
use Rattle.modem_history.specs.Connections.{carries, information_got, information_sent}
use Rattle.modem_history.specs.TwoEnds.{frames_got, frames_sent}
use Rattle.modem_history.proofs.commands.FramesOnLine.{info_in, info_some}
use Rattle.modem_history.proofs.connections.InformationGrowth.{got_grows, got_same, sent_grows, sent_same, sent_still}
use Rattle.modem_history.proofs.lines.HeardLines.{opens_bare}
use Rattle.show_laws.specs.Lines.{AtDriver, AtModem, LineAct, driver_past, modem_past, responding}
use Rattle.show_laws.proofs.counts.ManyFrames.{many, unit}
use Rattle.show_laws.proofs.lines.CapturedFrames.{both_ways}
use Rattle.show_laws.proofs.openings.AskedLines.{waits_for_ua}
use Rattle.show_laws.proofs.openings.DriverOpen.{IsOnceLine, once_line_before}
use Rattle.show_laws.proofs.openings.QuietFrames.{asked_at}
use Rattle.show_laws.proofs.stops.SinceOpening.{open_before}
use Rattle.show_laws.proofs.talks.SilentChannels.{before_sabm_m, first_before_ua, nothing_more}

-- information that comes or goes while d is open
more_text : (d : ℕ) (f : Frame) (fs : List Frame) (old : List ℕ) (b : Bool) → carries d f ≡ b → old ≡ info_in d fs → (if b then old ++ f.info else old) ≡ info_in d (f ∷ fs)
more_text d f fs old true e h = ap (λ z. z ++ f.info) h ∙ sym (ap (λ z. info_in d fs ++ z) (info_some d f e))
more_text d f fs old false e h = h ∙ sym (nothing_more d f fs e)

-- ## The modem

-- while d is open at the modem, to which one SABM on it came at most, it sent all its information on d since d opened
pub modem_sent_all : (n1 d : ℕ) (past : List station.Act) → StationLawful (responding n1) past → many (is_on Sabm d) (frames_got past) ≤ 1 → is_open Responder d past ≡ true → information_sent Responder d past ≡ info_in d (frames_sent past)
unfolding StationLawful
modem_sent_all n1 d [] l once o = cc
modem_sent_all n1 d (station.Got f ∷ past) l once o = by_opens (opens_now Responder d past (station.Got f)) refl (λ k. modem_sent_all n1 d past l (omega (arith, once)) k)
  where
    by_opens : (b : Bool) → opens_now Responder d past (station.Got f) ≡ b → (is_open Responder d past ≡ true → information_sent Responder d past ≡ info_in d (frames_sent past)) → information_sent Responder d (station.Got f ∷ past) ≡ info_in d (frames_sent past)
    by_opens true e rest =
        let sabm = (and_parts (is_on Sabm d f) ((d == 0) || is_open Responder 0 past) e).0 in
        let u : unit (is_on Sabm d f) ≡ 1 = ap unit sabm in
        sent_same Responder d past (station.Got f) refl ∙ (ap (λ (b : Bool). if b then [] else information_sent Responder d past) e ∙ sym (before_sabm_m n1 d d past (λ p k. k) l (omega (arith, once, u))))
    by_opens false e rest =
        sent_same Responder d past (station.Got f) refl ∙ (ap (λ (b : Bool). if b then [] else information_sent Responder d past) e ∙ rest (open_before Responder d past (station.Got f) e o))
modem_sent_all n1 d (station.Sent f ∷ past) l once o =
    let before = open_before Responder d past (station.Sent f) refl o in
    sent_grows Responder d past f
    ∙ (ap (λ (i : Bool). if carries d f && i then information_sent Responder d past ++ f.info else information_sent Responder d past) before
    ∙ (either (carries d f) ∙ more_text d f (frames_sent past) (information_sent Responder d past) (carries d f) refl (modem_sent_all n1 d past l.1 once before)))
  where
    either : (b : Bool) → (if b && true then information_sent Responder d past ++ f.info else information_sent Responder d past) ≡ (if b then information_sent Responder d past ++ f.info else information_sent Responder d past)
    either true = refl
    either false = refl
modem_sent_all n1 d (station.Called c ∷ past) l once o = sent_still Responder d past (station.Called c) refl refl ∙ modem_sent_all n1 d past l once (open_before Responder d past (station.Called c) refl o)
modem_sent_all n1 d (station.Tick ∷ past) l once o = sent_still Responder d past station.Tick refl refl ∙ modem_sent_all n1 d past l once (open_before Responder d past station.Tick refl o)
modem_sent_all n1 d (station.Lost ∷ past) l once o = sent_still Responder d past station.Lost refl refl ∙ modem_sent_all n1 d past l once (open_before Responder d past station.Lost refl o)
modem_sent_all n1 d (station.Given ∷ past) l once o = sent_still Responder d past station.Given refl refl ∙ modem_sent_all n1 d past l once (open_before Responder d past station.Given refl o)

-- ## The driver

-- while d is open at the driver all information on d came since d opened
pub driver_got_all : (s : Setting) (n1 d : ℕ) (line : List LineAct) → IsOnceLine s n1 line → is_open Initiator d (wire (driver_past line)) ≡ true → information_got Initiator d (wire (driver_past line)) ≡ info_in d (frames_got (wire (driver_past line)))
driver_got_all s n1 d [] h o = cc
driver_got_all s n1 d (AtModem a ∷ line) h o = driver_got_all s n1 d line (once_line_before s n1 (AtModem a) line h) o
driver_got_all s n1 d (AtDriver (driver.Got f) ∷ line) h o = by_opens (opens_now Initiator d p (station.Got f)) refl (λ k. driver_got_all s n1 d line older k)
  where
    p : List station.Act
    p = wire (driver_past line)

    older : IsOnceLine s n1 line
    older = once_line_before s n1 (AtDriver (driver.Got f)) line h

    either : (b : Bool) → (if b && true then information_got Initiator d p ++ f.info else information_got Initiator d p) ≡ (if b then information_got Initiator d p ++ f.info else information_got Initiator d p)
    either true = refl
    either false = refl

    by_opens : (b : Bool) → opens_now Initiator d p (station.Got f) ≡ b → (is_open Initiator d p ≡ true → information_got Initiator d p ≡ info_in d (frames_got p)) → information_got Initiator d (station.Got f ∷ p) ≡ info_in d (f ∷ frames_got p)
    by_opens true e rest =
        let came = (both_ways line older.lawful.one_line).at_driver in
        let none = waits_for_ua s n1 d line older (and_parts (is_on Ua d f) (asked_at d p) e).1 in
        let silent = first_before_ua n1 d d (modem_past line) came.later (frames_got p) (λ q k. k) older.lawful.modem_lawful came.sent_are none in
        let bare = opens_bare Initiator (is_open Initiator 0 p) (is_asked Initiator d p) d f e in
        got_grows Initiator d p f ∙ (ap (λ (b : Bool). if b then [] else (if carries d f && is_open Initiator d p then information_got Initiator d p ++ f.info else information_got Initiator d p)) e
        ∙ sym (nothing_more d f (frames_got p) bare ∙ silent))
    by_opens false e rest =
        let before = open_before Initiator d p (station.Got f) e o in
        got_grows Initiator d p f
        ∙ (ap (λ (b : Bool). if b then [] else (if carries d f && is_open Initiator d p then information_got Initiator d p ++ f.info else information_got Initiator d p)) e
        ∙ (ap (λ (i : Bool). if carries d f && i then information_got Initiator d p ++ f.info else information_got Initiator d p) before
        ∙ (either (carries d f) ∙ more_text d f (frames_got p) (information_got Initiator d p) (carries d f) refl (rest before))))
driver_got_all s n1 d (AtDriver (driver.Sent f) ∷ line) h o =
    let p = wire (driver_past line) in
    got_same Initiator d p (station.Sent f) refl ∙ driver_got_all s n1 d line (once_line_before s n1 (AtDriver (driver.Sent f)) line h) (open_before Initiator d p (station.Sent f) refl o)
driver_got_all s n1 d (AtDriver driver.Tick ∷ line) h o =
    let p = wire (driver_past line) in
    got_same Initiator d p station.Tick refl ∙ driver_got_all s n1 d line (once_line_before s n1 (AtDriver driver.Tick) line h) (open_before Initiator d p station.Tick refl o)
driver_got_all s n1 d (AtDriver driver.Lost ∷ line) h o =
    let p = wire (driver_past line) in
    got_same Initiator d p station.Lost refl ∙ driver_got_all s n1 d line (once_line_before s n1 (AtDriver driver.Lost) line h) (open_before Initiator d p station.Lost refl o)
driver_got_all s n1 d (AtDriver driver.Given ∷ line) h o =
    let p = wire (driver_past line) in
    got_same Initiator d p station.Given refl ∙ driver_got_all s n1 d line (once_line_before s n1 (AtDriver driver.Given) line h) (open_before Initiator d p station.Given refl o)
driver_got_all s n1 d (AtDriver (driver.Took q) ∷ line) h o = driver_got_all s n1 d line (once_line_before s n1 (AtDriver (driver.Took q)) line h) o
driver_got_all s n1 d (AtDriver (driver.Told x) ∷ line) h o = driver_got_all s n1 d line (once_line_before s n1 (AtDriver (driver.Told x)) line h) o
driver_got_all s n1 d (AtDriver (driver.Heard u e l) ∷ line) h o = driver_got_all s n1 d line (once_line_before s n1 (AtDriver (driver.Heard u e l)) line h) o
driver_got_all s n1 d (AtDriver (driver.Held e) ∷ line) h o = driver_got_all s n1 d line (once_line_before s n1 (AtDriver (driver.Held e)) line h) o
driver_got_all s n1 d (AtDriver (driver.Freed e) ∷ line) h o = driver_got_all s n1 d line (once_line_before s n1 (AtDriver (driver.Freed e)) line h) o
