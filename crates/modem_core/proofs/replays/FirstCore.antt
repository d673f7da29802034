-- A new core that listens to every kind stands in the past in which nothing has happened.
use Rattle.std.specs.Prelude.{◌≡◌, ℕ, true, List, [], refl}
use Rattle.std.proofs.Common.{arith, sym, subst, length, ◌||◌, ◌==◌, false}
use Rattle.at_text.specs.declared.unsolicited.UrcKind.{UrcKind}
use Rattle.mux_station.specs.declared.role.Role.TheVariants.{Initiator}
use Rattle.mux_station.specs.Stations.{new_station}
use Rattle.mux_station.specs.Fitting as station_fits
use Rattle.mux_station.proofs.states.StationPasts.{new_past}
use Rattle.at_text.specs.Dialects.{Dialect, standard}
use Rattle.at_text.specs.Rules.{Rules, dialect_of, no_rules}
use Rattle.at_text.proofs.NoRules.{no_rules_standard}
use Rattle.modem_history.specs.Kinds.{is_listened, standard_kinds}
use Rattle.modem_history.specs.Calls.{Setting, replaying}
use Rattle.modem_core.proofs.sessions.steps.Kinds.{listened_in, in_listened}
use Rattle.modem_history.specs.Lawful.{Lawful, Complete}
use Rattle.modem_core.specs.Cores.{Core, core_by, new_core, IsRun}
use Rattle.modem_core.specs.Running.{Drained, CoreIsIdle}

nothing_run : (s : Setting) → IsRun s []
unfolding Lawful Complete
nothing_run s = record { lawful = tt; complete = refl; whole = tt; numbers = λ r. omega arith }

new_fits : (n1 : ℕ) → station_fits.StationFits (new_station Initiator n1) []
new_fits n1 = new_past Initiator n1

-- at a modem with any codes, listening to any kinds
pub starts_by : (rules : Rules) (n1 : ℕ) (kinds : List UrcKind) (d : Dialect) (v : Core) → v ≡ core_by rules n1 kinds → d ≡ dialect_of rules
    → Drained (record { role = Initiator; n1 = n1; dialect = d; listens = is_listened kinds }) v []
starts_by rules n1 kinds d v e same = subst (λ (x : Core). Drained (record { role = Initiator; n1 = n1; dialect = d; listens = is_listened kinds }) x []) (sym e) (record {
  stands = record {
    setting = record { role_is = refl; n1_is = refl; dialect_is = same; listens_are = λ kind. (listened_in kinds kind, in_listened kinds kind) };
    fits = record {
      hand_is = refl;
      lost_is = refl;
      runs = record {
        seen = [];
        fits = new_fits n1;
        same = refl;
        waits = refl;
        probe_is = refl;
        lanes_fit = λ d small z o. let x : false ≡ true = o in cc;
      };
    };
    run = nothing_run (record { role = Initiator; n1 = n1; dialect = d; listens = is_listened kinds });
  };
  none_left = refl;
})

-- at a standard modem, as in a replay
pub starts : (n1 : ℕ) (v : Core) → v ≡ new_core n1 standard_kinds → Drained (replaying n1) v []
starts n1 v e = starts_by no_rules n1 standard_kinds standard v e (sym no_rules_standard)

-- no control frame waits in a new core
pub idle_by : (rules : Rules) (n1 : ℕ) (kinds : List UrcKind) (v : Core) → v ≡ core_by rules n1 kinds → CoreIsIdle v
unfolding CoreIsIdle
idle_by rules n1 kinds v e = subst (λ (x : Core). (x.lost || (length x.station.queue == 0)) ≡ true) (sym e) refl

-- nor in one for a standard modem
pub idle_at_first : (n1 : ℕ) (v : Core) → v ≡ new_core n1 standard_kinds → CoreIsIdle v
idle_at_first n1 v e = idle_by no_rules n1 standard_kinds v e
