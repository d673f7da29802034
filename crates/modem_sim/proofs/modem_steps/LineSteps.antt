-- What a line does, by the command that it is read as.
use Rattle.std.specs.Prelude.{◌≡◌, ℕ, Bool, true, false, List, Option, refl, codes}
use Rattle.std.proofs.Common.{sym, ap, ◌∙◌}
use Rattle.std.proofs.lemmas.Slice.Eq.{bytes_eq-Decides}
use Rattle.at_cmds.specs.declared.command.Command.{Command}
use Rattle.modem_sim.specs.declared.state.ModemState.{ModemState}
use Rattle.at_cmds.specs.Values.{command_of}
use Rattle.at_cmds.specs.Forms.{lowered}
use Rattle.modem_sim.specs.Reading.{is_attention}
use Rattle.modem_sim.specs.Steps.{standard_step, step_by}

not_attention : (line : List ℕ) (b : Bool) → is_attention line ≡ b → (lowered line ≡ codes "at" → false ≡ true) → is_attention line ≡ false
not_attention line true is other = is ∙ sym (other ((bytes_eq-Decides (lowered line) (codes "at")).0 is))
not_attention line false is other = is

-- a line that isn't AT alone does what the command does that it is read as
pub step_read : (s : ModemState) (line : List ℕ) (read : Option Command) → (lowered line ≡ codes "at" → false ≡ true) → read ≡ command_of line → step_by s read ≡ standard_step s line
step_read s line read other is =
    let behind : is_attention line ≡ false = not_attention line (is_attention line) refl other in
    rw behind (ap (step_by s) is)
