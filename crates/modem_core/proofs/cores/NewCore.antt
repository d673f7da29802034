-- A new core fits the past in which nothing has happened.
use Rattle.std.specs.Prelude.{◌≡◌, ℕ, true, false, List, [], refl}
use Rattle.std.proofs.Common.{sym, subst}
use Rattle.at_text.specs.Rules.{Rules}
use Rattle.at_text.specs.declared.unsolicited.UrcKind.{UrcKind}
use Rattle.mux_station.specs.Fitting as station_fits
use Rattle.modem_core.specs.Cores.{Core, core_by, Fits}

new_fits_so : (rules : Rules) (n1 : ℕ) (kinds : List UrcKind) → station_fits.StationFits (core_by rules n1 kinds).station [] → Fits (core_by rules n1 kinds) []
new_fits_so rules n1 kinds f = record {
  hand_is = refl;
  lost_is = refl;
  runs = record {
    seen = [];
    fits = f;
    same = refl;
    waits = refl;
    probe_is = refl;
    lanes_fit = λ d b z o. absurd (let x : false ≡ true = o in cc);
  };
}

-- a core as it is made fits the empty past, where its station does
pub new_fits : (v : Core) (rules : Rules) (n1 : ℕ) (kinds : List UrcKind) → v ≡ core_by rules n1 kinds → station_fits.StationFits v.station [] → Fits v []
new_fits v rules n1 kinds e f = subst (λ (x : Core). Fits x []) (sym e) (new_fits_so rules n1 kinds (subst (λ (x : Core). station_fits.StationFits x.station []) e f))
