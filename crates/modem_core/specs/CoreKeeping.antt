-- The invariant of a core's fields.
use Rattle.std.specs.Prelude.{◌≡◌, ℕ, ◌≤◌, List, length}
use Rattle.mux_station.specs.declared.role.Role.TheVariants.{Initiator}
use Rattle.mux_station.specs.Stations.{Station}
use Rattle.modem_core.specs.Lanes.{Lane}

-- the station is an initiator with this N1, and every connection has its lane
pub record IsKept (station : Station) (n1 : ℕ) (lanes : List Lane) : Type 0 where
  pub role_is : station.role ≡ Initiator
  pub n1_is : station.n1 ≡ n1
  pub n1_least : 31 ≤ n1
  pub all : length lanes ≡ 62
