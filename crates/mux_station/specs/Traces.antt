-- What a call of the user leaves of itself in a past: the frames that it asks for, and nothing else.
use Rattle.std.specs.Prelude.{◌≡◌, ℕ, List, [], ◌∷◌}
use Rattle.mux_station.specs.declared.role.Role.{Role}
use Rattle.mux_station.specs.Acts.{Act, Called}
use Rattle.mux_station.specs.Opening.{is_asked, since}
use Rattle.mux_station.specs.States.{states}
use Rattle.mux_station.specs.Stopping.{is_stopped}
use Rattle.mux_station.specs.Sending.{queue}
use Rattle.mux_station.specs.Offering.{data_out}

-- the acts without the calls among them
abbrev pub without_calls : List Act → List Act
without_calls [] = []
without_calls (Called c ∷ past) = without_calls past
without_calls (a ∷ past) = a ∷ without_calls past

-- the calls themselves change no state, no opening and no stop, nor what waits in the control queue and what
-- was given on
pub record LeavesNoTrace (r : Role) (d : ℕ) (past : List Act) : Type 0 where
  pub states_same : states r d (without_calls past) ≡ states r d past
  pub asked_same : is_asked r d (without_calls past) ≡ is_asked r d past
  pub since_same : since r d (without_calls past) ≡ without_calls (since r d past)
  pub stopped_same : is_stopped r d (without_calls past) ≡ is_stopped r d past
  pub queue_same : queue (without_calls past) ≡ queue past
  pub given_same : data_out r d (without_calls past) ≡ data_out r d past
