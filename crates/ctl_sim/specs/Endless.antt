-- Why the turns of a simulated modem at a line in memory are given up.
use Rattle.std.specs.Prelude.{◌≡◌, ◌≢◌, ◌⊎◌, ℕ, ◌-◌, ◌<◌, ◌^◌, true, false, List, [], ◌++◌, Ok, Err}
use Rattle.modem_sim.specs.declared.error.SimError.TheVariants as why
use Rattle.modem_sim.specs.declared.sim.SimTurn.TheVariants.{Idle, Moved}
use Rattle.modem_sim.specs.Polls.{MovesOn, Turned}
use Rattle.modem_sim.specs.Sims.{SimState, has_ended, has_failed}
use Rattle.ctl_sim.specs.declared.fault.ServeFault.{ServeFault}
use Rattle.ctl_sim.specs.HeldLine.{HeldState, held_side, held_view}
use Rattle.ctl_sim.specs.Muxes.{ComesToRest}

-- a turn in which something was done
abbrev pub GoesOn : (old new : SimState HeldState) → Type 0
GoesOn old new = Turned held_view old new (Ok Moved)

-- so many turns that answer Moved, with nothing put in and nothing handed out meanwhile
pub record MovesFor (turns : ℕ) (old new : SimState HeldState) : Type 0 where
  pub moves : MovesOn held_view old turns new
  pub side : held_side new.line ≡ held_side old.line

-- 2^64 - 1 of them: it goes on without an end
abbrev pub IsEndless : (old new : SimState HeldState) → Type 0
IsEndless old new = MovesFor (2 ^ 64 - 1) old new

-- A turn was refused memory; or nothing could be done in it, though octets wait to be written or read. To wait with those, the line has
-- no other cause.
pub data LacksMemory (old new : SimState HeldState) : Type 0 where
  in_modem : Turned held_view old new (Err why.NoMemory) → LacksMemory old new
  at_line :
      Turned held_view old new (Ok Idle) → (new.machine.out ≢ []) ⊎ (new.line.waiting ≢ []) → LacksMemory old new

-- after fewer turns than that, one lacked memory
pub record ComesToLack (old new : SimState HeldState) : Type 0 where
  pub turns : ℕ
  pub few : turns < 2 ^ 64 - 1
  pub mid : SimState HeldState
  pub moves : MovesFor turns old mid
  pub lacks : LacksMemory mid new

-- why turns are given up that had begun on a sound line
abbrev pub IsGivenUpFor : ServeFault → (old new : SimState HeldState) → Type 0
IsGivenUpFor ServeFault.NoMemory old new = has_failed old ≡ false → ComesToLack old new
IsGivenUpFor ServeFault.EndlessModem old new = IsEndless old new
IsGivenUpFor ServeFault.Input old new = ⊥
IsGivenUpFor ServeFault.EndlessInput old new = ⊥
IsGivenUpFor ServeFault.Output old new = ⊥
IsGivenUpFor ServeFault.Capture old new = ⊥

-- ## Of octets that are handed in

abbrev pub handed_in : SimState HeldState → List ℕ → SimState HeldState
handed_in s piece = record s { line = record s.line { waiting = s.line.waiting ++ piece } }

-- memory was refused for these octets, before anything was done; for a turn; or for what is to be handed out, once it was at its end or at
-- rest
pub data LacksFor (old new : SimState HeldState) (piece : List ℕ) : Type 0 where
  for_piece : new ≡ old → LacksFor old new piece
  in_turn : ComesToLack (handed_in old piece) new → LacksFor old new piece
  at_end : has_ended new ≡ true → LacksFor old new piece
  at_rest : ComesToRest (handed_in old piece) new → LacksFor old new piece

-- why these octets aren't answered
abbrev pub IsUnanswered : ServeFault → (old new : SimState HeldState) → (piece : List ℕ) → Type 0
IsUnanswered ServeFault.NoMemory old new piece = has_failed old ≡ false → LacksFor old new piece
IsUnanswered ServeFault.EndlessModem old new piece = IsEndless (handed_in old piece) new
IsUnanswered ServeFault.Input old new piece = ⊥
IsUnanswered ServeFault.EndlessInput old new piece = ⊥
IsUnanswered ServeFault.Output old new piece = ⊥
IsUnanswered ServeFault.Capture old new piece = ⊥

-- once these octets are handed in, it goes on without an end
pub record IsEndlessAt (old : SimState HeldState) (piece : List ℕ) : Type 0 where
  pub new : SimState HeldState
  pub endless : IsEndless (handed_in old piece) new
