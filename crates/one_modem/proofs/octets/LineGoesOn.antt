-- One line goes on by the acts of one of its ends.
use Rattle.std.proofs.Common.{ap, sym, ◌∙◌, subst, append_assoc}
use Rattle.std.specs.Prelude.{◌≡◌, List, [], ◌∷◌, ◌++◌, refl}
use Rattle.mux_frame.specs.Frames.{Frame}
use Rattle.mux_station.specs.Acts as station
use Rattle.modem_history.specs.Acts as driver
use Rattle.modem_history.specs.Acts.{Took, Got, Sent, Told, Heard, Tick, Lost, Held, Freed, Given}
use Rattle.modem_history.specs.TwoEnds.{ComesInOrder, frames_got, frames_sent}
use Rattle.modem_sim.specs.Acts as modem
use Rattle.modem_sim.specs.Acts.{Did, Wire}
use Rattle.one_modem.specs.OneModem.{AtDriver, AtModem, EndAct, IsOneLine, driver_past, driver_wire, modem_past, modem_wire}
use Rattle.one_modem.proofs.two_ends.LinePoints.{both_ways}

-- the later list of frames has the earlier one behind it
record IsBehind (now before : List Frame) : Type 0 where
  newer : List Frame
  joins : now ≡ newer ++ before

same : (fs : List Frame) → IsBehind fs fs
same fs = record { newer = []; joins = refl }

one_more : (f : Frame) (fs : List Frame) → IsBehind (f ∷ fs) fs
one_more f fs = record { newer = f ∷ []; joins = refl }

then_behind : (a b c : List Frame) → IsBehind a b → IsBehind b c → IsBehind a c
then_behind a b c x y = record { newer = x.newer ++ y.newer; joins = x.joins ∙ (ap (λ (fs : List Frame). x.newer ++ fs) y.joins ∙ sym (append_assoc x.newer y.newer c)) }

-- ## One act

near_sends : (a : driver.Act) (past : List driver.Act) → IsBehind (frames_sent (driver.wire (a ∷ past))) (frames_sent (driver.wire past))
near_sends (Sent f) past = one_more f (frames_sent (driver.wire past))
near_sends (Got f) past = same (frames_sent (driver.wire past))
near_sends (Took q) past = same (frames_sent (driver.wire past))
near_sends (Told o) past = same (frames_sent (driver.wire past))
near_sends (Heard k d line) past = same (frames_sent (driver.wire past))
near_sends Tick past = same (frames_sent (driver.wire past))
near_sends Lost past = same (frames_sent (driver.wire past))
near_sends (Held d) past = same (frames_sent (driver.wire past))
near_sends (Freed d) past = same (frames_sent (driver.wire past))
near_sends Given past = same (frames_sent (driver.wire past))

near_gets : (a : driver.Act) (past : List driver.Act) → IsBehind (frames_got (driver.wire (a ∷ past))) (frames_got (driver.wire past))
near_gets (Got f) past = one_more f (frames_got (driver.wire past))
near_gets (Sent f) past = same (frames_got (driver.wire past))
near_gets (Took q) past = same (frames_got (driver.wire past))
near_gets (Told o) past = same (frames_got (driver.wire past))
near_gets (Heard k d line) past = same (frames_got (driver.wire past))
near_gets Tick past = same (frames_got (driver.wire past))
near_gets Lost past = same (frames_got (driver.wire past))
near_gets (Held d) past = same (frames_got (driver.wire past))
near_gets (Freed d) past = same (frames_got (driver.wire past))
near_gets Given past = same (frames_got (driver.wire past))

far_sends : (a : modem.Act) (past : List modem.Act) → IsBehind (frames_sent (modem.wire (a ∷ past))) (frames_sent (modem.wire past))
far_sends (Did step) past = same (frames_sent (modem.wire past))
far_sends (Wire (station.Sent f)) past = one_more f (frames_sent (modem.wire past))
far_sends (Wire (station.Got f)) past = same (frames_sent (modem.wire past))
far_sends (Wire (station.Called c)) past = same (frames_sent (modem.wire past))
far_sends (Wire station.Tick) past = same (frames_sent (modem.wire past))
far_sends (Wire station.Lost) past = same (frames_sent (modem.wire past))
far_sends (Wire station.Given) past = same (frames_sent (modem.wire past))

far_gets : (a : modem.Act) (past : List modem.Act) → IsBehind (frames_got (modem.wire (a ∷ past))) (frames_got (modem.wire past))
far_gets (Did step) past = same (frames_got (modem.wire past))
far_gets (Wire (station.Got f)) past = one_more f (frames_got (modem.wire past))
far_gets (Wire (station.Sent f)) past = same (frames_got (modem.wire past))
far_gets (Wire (station.Called c)) past = same (frames_got (modem.wire past))
far_gets (Wire station.Tick) past = same (frames_got (modem.wire past))
far_gets (Wire station.Lost) past = same (frames_got (modem.wire past))
far_gets (Wire station.Given) past = same (frames_got (modem.wire past))

-- ## One way

sends_more : (sender newer receiver : List station.Act) → IsBehind (frames_sent newer) (frames_sent sender) → ComesInOrder sender receiver → ComesInOrder newer receiver
sends_more sender newer receiver k c =
    record { later = k.newer ++ c.later; sent_are = k.joins ∙ (ap (λ (fs : List Frame). k.newer ++ fs) c.sent_are ∙ sym (append_assoc k.newer c.later (frames_got receiver))) }

got_fewer : (sender receiver newer : List station.Act) → IsBehind (frames_got newer) (frames_got receiver) → ComesInOrder sender newer → ComesInOrder sender receiver
got_fewer sender receiver newer k c =
    record { later = c.later ++ k.newer; sent_are = c.sent_are ∙ (ap (λ (fs : List Frame). c.later ++ fs) k.joins ∙ sym (append_assoc c.later k.newer (frames_got receiver))) }

-- ## The acts of one end

-- the list with these acts of the driver behind it, of which the first comes first
abbrev pub after_near : List EndAct → List driver.Act → List EndAct
after_near line [] = line
after_near line (a ∷ acts) = after_near (AtDriver a ∷ line) acts

-- the list of these acts of the modem
abbrev pub at_far : List modem.Act → List EndAct
at_far [] = []
at_far (a ∷ acts) = AtModem a ∷ at_far acts

near_got : (line : List EndAct) (acts : List driver.Act) → IsBehind (frames_got (driver_wire (after_near line acts))) (frames_got (driver_wire line))
near_got line [] = same (frames_got (driver_wire line))
near_got line (a ∷ acts) =
    then_behind (frames_got (driver_wire (after_near (AtDriver a ∷ line) acts))) (frames_got (driver_wire (AtDriver a ∷ line))) (frames_got (driver_wire line))
    (near_got (AtDriver a ∷ line) acts) (near_gets a (driver_past line))

-- what the driver got by then is what the modem sent
pub near_line : (line : List EndAct) (acts : List driver.Act) → IsOneLine line → ComesInOrder (modem_wire line) (driver_wire (after_near line acts)) → IsOneLine (after_near line acts)
near_line line [] one c = one
near_line line (a ∷ acts) one c =
    let before = both_ways line one in
    near_line (AtDriver a ∷ line) acts (
      record {
        at_modem = sends_more (driver_wire line) (driver_wire (AtDriver a ∷ line)) (modem_wire line) (near_sends a (driver_past line)) before.at_modem;
        at_driver = got_fewer (modem_wire line) (driver_wire (AtDriver a ∷ line)) (driver_wire (after_near (AtDriver a ∷ line) acts)) (near_got (AtDriver a ∷ line) acts) c;
      },
      one,
    )
    c

-- what the modem got by then is what the driver sent
pub far_line : (line : List EndAct) (acts : List modem.Act) → IsOneLine line → ComesInOrder (driver_wire line) (modem_wire (at_far acts ++ line)) → (far_wire : (more : List modem.Act) → driver_wire (at_far more ++ line) ≡ driver_wire line) → IsOneLine (at_far acts ++ line)
far_line line [] one c wire = one
far_line line (a ∷ acts) one c wire =
    let older = at_far acts ++ line in
    let fewer = got_fewer (driver_wire line) (modem_wire older) (modem_wire (AtModem a ∷ older)) (far_gets a (modem_past older)) c in
    let rest = far_line line acts one fewer wire in
    let before = both_ways older rest in (
      record {
        at_modem = subst (λ (w : List station.Act). ComesInOrder w (modem_wire (AtModem a ∷ older))) (sym (wire acts)) c;
        at_driver = sends_more (modem_wire older) (modem_wire (AtModem a ∷ older)) (driver_wire older) (far_sends a (modem_past older)) before.at_driver;
      },
      rest,
    )
