-- What a capture has of each end is what that end sent.
use Rattle.std.specs.Prelude.{◌≡◌, ℕ, ◌≤◌, Bool, List, [], ◌∷◌, ◌++◌, refl}
use Rattle.std.proofs.Common.{ap, arith, sym, ◌∙◌}
use Rattle.mux_frame.specs.Frames.{Frame}
use Rattle.mux_capture.specs.declared.packet.Stamp.{Stamp}
use Rattle.mux_station.specs.declared.role.Role.TheVariants.{Initiator, Responder}
use Rattle.mux_station.specs.Acts as station
use Rattle.modem_history.specs.Acts as driver
use Rattle.modem_history.specs.Acts.{wire}
use Rattle.modem_history.specs.TwoEnds.{ComesInOrder, frames_got, frames_sent}
use Rattle.show_laws.specs.Lines.{AtDriver, AtModem, ComesBothWays, IsOneLine, LineAct, captured, driver_past, modem_past}
use Rattle.show_laws.proofs.asks.WaitingAsks.{frames_of, frames_to}
use Rattle.show_laws.proofs.counts.ManyFrames.{many, many_both}

-- what was captured of the driver and of the modem, and what is not of each
pub record Shows (stamps : ℕ → Stamp) (line : List LineAct) : Type 0 where
  pub driver_frames : frames_of Initiator (captured stamps line) ≡ frames_sent (wire (driver_past line))
  pub modem_frames : frames_of Responder (captured stamps line) ≡ frames_sent (modem_past line)
  pub to_driver : frames_to Initiator (captured stamps line) ≡ frames_sent (modem_past line)
  pub to_modem : frames_to Responder (captured stamps line) ≡ frames_sent (wire (driver_past line))

more_of_driver : (stamps : ℕ → Stamp) (f : Frame) (line : List LineAct) → Shows stamps line → Shows stamps (AtDriver (driver.Sent f) ∷ line)
more_of_driver stamps f line h = record {
  driver_frames = ap (λ (fs : List Frame). f ∷ fs) h.driver_frames;
  modem_frames = h.modem_frames;
  to_driver = h.to_driver;
  to_modem = ap (λ (fs : List Frame). f ∷ fs) h.to_modem;
}

more_of_modem : (stamps : ℕ → Stamp) (f : Frame) (line : List LineAct) → Shows stamps line → Shows stamps (AtModem (station.Sent f) ∷ line)
more_of_modem stamps f line h = record {
  driver_frames = h.driver_frames;
  modem_frames = ap (λ (fs : List Frame). f ∷ fs) h.modem_frames;
  to_driver = ap (λ (fs : List Frame). f ∷ fs) h.to_driver;
  to_modem = h.to_modem;
}

as_before : (stamps : ℕ → Stamp) (x : LineAct) (line : List LineAct) → captured stamps (x ∷ line) ≡ captured stamps line
    → frames_sent (wire (driver_past (x ∷ line))) ≡ frames_sent (wire (driver_past line)) → frames_sent (modem_past (x ∷ line)) ≡ frames_sent (modem_past line) → Shows stamps line → Shows stamps (x ∷ line)
as_before stamps x line c d m h = record {
  driver_frames = ap (frames_of Initiator) c ∙ (h.driver_frames ∙ sym d);
  modem_frames = ap (frames_of Responder) c ∙ (h.modem_frames ∙ sym m);
  to_driver = ap (frames_to Initiator) c ∙ (h.to_driver ∙ sym m);
  to_modem = ap (frames_to Responder) c ∙ (h.to_modem ∙ sym d);
}

-- the capture of a line has of each end what that end sent
pub shows : (stamps : ℕ → Stamp) (line : List LineAct) → Shows stamps line
shows stamps [] = record { driver_frames = refl; modem_frames = refl; to_driver = refl; to_modem = refl }
shows stamps (AtDriver (driver.Sent f) ∷ line) = more_of_driver stamps f line (shows stamps line)
shows stamps (AtDriver (driver.Took q) ∷ line) = as_before stamps (AtDriver (driver.Took q)) line refl refl refl (shows stamps line)
shows stamps (AtDriver (driver.Got f) ∷ line) = as_before stamps (AtDriver (driver.Got f)) line refl refl refl (shows stamps line)
shows stamps (AtDriver (driver.Told o) ∷ line) = as_before stamps (AtDriver (driver.Told o)) line refl refl refl (shows stamps line)
shows stamps (AtDriver (driver.Heard k d l) ∷ line) = as_before stamps (AtDriver (driver.Heard k d l)) line refl refl refl (shows stamps line)
shows stamps (AtDriver driver.Tick ∷ line) = as_before stamps (AtDriver driver.Tick) line refl refl refl (shows stamps line)
shows stamps (AtDriver driver.Lost ∷ line) = as_before stamps (AtDriver driver.Lost) line refl refl refl (shows stamps line)
shows stamps (AtDriver (driver.Held d) ∷ line) = as_before stamps (AtDriver (driver.Held d)) line refl refl refl (shows stamps line)
shows stamps (AtDriver (driver.Freed d) ∷ line) = as_before stamps (AtDriver (driver.Freed d)) line refl refl refl (shows stamps line)
shows stamps (AtDriver driver.Given ∷ line) = as_before stamps (AtDriver driver.Given) line refl refl refl (shows stamps line)
shows stamps (AtModem (station.Sent f) ∷ line) = more_of_modem stamps f line (shows stamps line)
shows stamps (AtModem (station.Called c) ∷ line) = as_before stamps (AtModem (station.Called c)) line refl refl refl (shows stamps line)
shows stamps (AtModem (station.Got f) ∷ line) = as_before stamps (AtModem (station.Got f)) line refl refl refl (shows stamps line)
shows stamps (AtModem station.Tick ∷ line) = as_before stamps (AtModem station.Tick) line refl refl refl (shows stamps line)
shows stamps (AtModem station.Lost ∷ line) = as_before stamps (AtModem station.Lost) line refl refl refl (shows stamps line)
shows stamps (AtModem station.Given ∷ line) = as_before stamps (AtModem station.Given) line refl refl refl (shows stamps line)

-- ## The line

-- what came at each end is what the other sent first
pub both_ways : (line : List LineAct) → IsOneLine line → ComesBothWays line
both_ways [] one = record { at_modem = record { later = []; sent_are = refl }; at_driver = record { later = []; sent_are = refl } }
both_ways (a ∷ line) one = one.0

-- no more frames came than were sent
pub came_few : (t : Frame → Bool) (sender receiver : List station.Act) → ComesInOrder sender receiver → many t (frames_got receiver) ≤ many t (frames_sent sender)
came_few t sender receiver c =
    let e : many t (frames_sent sender) ≡ many t (c.later ++ frames_got receiver) = ap (many t) c.sent_are in
    let k = many_both t c.later (frames_got receiver) in
    omega (arith, e, k)
