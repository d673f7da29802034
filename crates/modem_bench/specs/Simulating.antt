-- The simulated modem of a bench: how it begins, and how it ends.
use Rattle.std.specs.Prelude.{◌≡◌, false, [], None, Some, Ok}
use Rattle.serial_line.specs.LineViews.{LineView}
use Rattle.serial_line.specs.OtherSide.{OtherSide}
use Rattle.modem_sim.specs.declared.modem.ModemStart.{ModemStart}
use Rattle.modem_sim.specs.declared.script.Script.{Script}
use Rattle.modem_sim.specs.declared.sim.SimTurn.TheVariants.{Ended}
use Rattle.modem_sim.specs.Acts.{End, end_of}
use Rattle.modem_sim.specs.Polls.{EndsSound, Polls, Waits}
use Rattle.modem_sim.specs.Sims.{FitsSim, SimGoes, SimState, end_given, has_failed}
use Rattle.modem_sim.specs.Steps.{started}

-- a start that wants no PIN, with a signal of strength 18 and an error rate that isn't known (27.007, 8.5)
abbrev pub plain_start : ModemStart
plain_start = record { pin = None; rssi = 18; ber = 99 }

-- whose history it is: frames have at most 31 octets of information, and its modem had just that start
abbrev pub plain_end : Script → End
plain_end script = end_of 31 (started plain_start) script

-- a simulated modem with that start and this script, over this end of a line, to which nothing has happened yet
pub record IsStarted {X : Type 0} (see : X → LineView) (line : X) (script : Script) (m : SimState X) :
    Type 0 where
  pub line_is : m.line ≡ line
  pub fits : FitsSim see (see line) (plain_end script) m []
  pub sound : has_failed m ≡ false
  pub no_end : end_given m ≡ None

-- After polls that gave nothing one gave Ended, and left the simulated modem so. Where none had given an end before, it has
-- closed down, all is written, and no call of its line failed. Whatever past it fitted before, it goes on to one that it fits
-- before that poll, and from there to one after it.
pub record IsSimulated {X : Type 0} (see : X → LineView) (old new : SimState X) : Type 0 where
  pub mid : SimState X
  pub waits : Waits see old mid
  pub waited : SimGoes see old mid
  pub polls : Polls see mid new (Some (Ok Ended))
  pub polled : SimGoes see mid new
  pub says : end_given old ≡ None → EndsSound see old new

-- the same, at the line at which it was
pub record EndsAtLine {X : Type 0} (see : X → LineView) (side : X → OtherSide) (old new : SimState X) :
    Type 0 where
  pub simulated : IsSimulated see old new
  pub same_line : side new.line ≡ side old.line
