-- States of connections as they were told, a number for each.
use Rattle.std.specs.Prelude.{◌≡◌, ◌≢◌, ℕ, ◌<◌, List, length, max, get_or, slice_set}
use Rattle.modem_core.specs.Cores.{state_shown}
use Rattle.modem_driver.specs.Endpoints.{EndpointState}
use Rattle.modem_c.specs.Numbers.{state_number}

-- the number of a connection's state
abbrev pub state_of : EndpointState → ℕ → ℕ
state_of e d = state_number (state_shown e.machine.core.station e.machine.core.lost d)

-- the number that was told of a connection: that of shut where none was
abbrev pub told_of : List ℕ → ℕ → ℕ
told_of told d = max (get_or told d 0) 1

-- the first so many connections, as far as there are places for them, have the states that were told
unfoldable pub AreTold : EndpointState → List ℕ → ℕ → Type 0
AreTold e told count = (d : ℕ) → d < count → d < length told → state_of e d ≡ told_of told d

-- this connection is the first whose state isn't as it was told, and now it is told
pub record ChangesAt (e : EndpointState) (before after : List ℕ) (d : ℕ) : Type 0 where
  pub place : d < length before
  pub earlier : AreTold e before d
  pub other : state_of e d ≢ told_of before d
  pub told : after ≡ slice_set before d (state_of e d)
