-- A command that goes into hand and isn't told at once.
use Rattle.std.specs.Prelude.{◌≡◌, ℕ, ◌<◌, ◌||◌, nat_le, Bool, true, false, length, is_some, refl, Option, None, Some, if◌then◌else◌}
use Rattle.std.proofs.Common.{ap, sym, ◌∙◌, arith}
use Rattle.std.proofs.lemmas.Bool.Decides.{nat_tests}
use Rattle.mux_frame.specs.declared.dlci.Dlci.{Dlci}
use Rattle.modem_desk.specs.declared.request.Answer.{Answer}
use Rattle.modem_desk.specs.declared.request.Ask.{Ask}
use Rattle.modem_desk.specs.declared.request.Ask.TheVariants.{OpenChannel, CloseChannel, Command, Probe, Stop}
use Rattle.modem_history.specs.Information.{line_in}
use Rattle.modem_core.specs.Cores.{Core}
use Rattle.modem_core.specs.Offers.{refused_command, sends_on}

pub record GoesInHand (v : Core) (ask : Ask) (d : Dlci) : Type 0 where
  pub asks : ask ≡ Command d (line_in ask)
  pub live : v.lost ≡ false
  pub few : length v.hand < 128
  pub taken_on : refused_command v.station d.number ≡ None

not_full : (n : ℕ) → nat_le 128 n ≡ false → n < 128
not_full n h = grind (arith, nat_tests)

-- a request that is sent on is such a command
pub goes_in_hand : (v : Core) (ask : Ask) (d : Dlci) → sends_on v ask ≡ Some d → GoesInHand v ask d
goes_in_hand v (Command e line) d h = by_tests v.lost (nat_le 128 (length v.hand)) (refused_command v.station e.number) refl refl refl h
  where
    by_tests : (l m : Bool) (o : Option Answer) → v.lost ≡ l → nat_le 128 (length v.hand) ≡ m → refused_command v.station e.number ≡ o
        → (if l || (m || is_some o) then None else Some e) ≡ Some d → GoesInHand v (Command e line) d
    by_tests true m o a b r k = cc
    by_tests false true o a b r k = cc
    by_tests false false (Some why) a b r k = cc
    by_tests false false None a b r k =
        let same : e ≡ d = cc in
        record {
          asks = ap (λ (x : Dlci). Command x line) same;
          live = a;
          few = not_full (length v.hand) b;
          taken_on = ap (λ (x : Dlci). refused_command v.station x.number) (sym same) ∙ r;
        }
goes_in_hand v (OpenChannel e) d h = cc
goes_in_hand v (CloseChannel e) d h = cc
goes_in_hand v (Probe octets) d h = cc
goes_in_hand v Stop d h = cc
