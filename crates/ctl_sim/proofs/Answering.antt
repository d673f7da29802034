-- What is said to a line.
use Rattle.std.specs.Prelude.{◌≡◌, ℕ, false, List, Option, Some, None}
use Rattle.std.proofs.Common.{ap}
use Rattle.modem_sim.specs.declared.state.ModemState.{ModemState}
use Rattle.modem_sim.specs.Pieces.{pieces_octets, reply}
use Rattle.modem_sim.specs.LineSteps.{echoes}
use Rattle.ctl_sim.specs.Plain.{said_entering, said_to}

-- a line that doesn't enter the multiplexer gets the modem's reply
pub said_none : (entered : Option ℕ) (m : ModemState) (line : List ℕ) → entered ≡ None → said_to entered m line ≡ pieces_octets (reply false m line)
unfolding said_to
said_none entered m line is = ap (λ e. said_to e m line) is

-- one that enters it gets OK, behind its echo where that is on
pub said_some : (entered : Option ℕ) (n1 : ℕ) (m : ModemState) (line : List ℕ) → entered ≡ Some n1 → said_to entered m line ≡ said_entering (echoes false m) line
unfolding said_to
said_some entered n1 m line is = ap (λ e. said_to e m line) is
