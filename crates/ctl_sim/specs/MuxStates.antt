-- What a modem for a client keeps in the multiplexer.
use Rattle.std.specs.Prelude.{ℕ, List}
use Rattle.modem_sim.specs.Sims.{SimState}
use Rattle.ctl_sim.specs.HeldLine.{HeldState}

pub record MuxState : Type 0 where
  pub sim : SimState HeldState
  pub n1 : ℕ
  pub kept : List ℕ  -- the octets that can become a frame
