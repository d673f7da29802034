-- No data of the driver is judged to be on a connection that isn't open.
use Rattle.std.specs.Prelude.{◌≡◌, ℕ, ◌&&◌, ◌||◌, not, Bool, true, false, List, ◌∷◌, length, refl}
use Rattle.std.proofs.Common.{subst}
use Rattle.mux_frame.specs.Frames.{Frame}
use Rattle.mux_capture.specs.declared.packet.Direction.TheVariants.{ToModem}
use Rattle.mux_capture.specs.declared.packet.Stamp.{Stamp}
use Rattle.mux_station.specs.declared.role.Role.{Role}
use Rattle.mux_station.specs.declared.role.Role.TheVariants.{Initiator, Responder}
use Rattle.mux_station.specs.Opening.{is_open}
use Rattle.mux_station.specs.Written.{is_data_frame}
use Rattle.modem_history.specs.Acts.{Act, Sent, wire}
use Rattle.modem_history.specs.Calls.{Setting}
use Rattle.modem_history.specs.Lawful.{Gated, Lawful, When, owed}
use Rattle.modem_show.specs.Asking.{is_in_doubt, waiting}
use Rattle.modem_show.specs.Judging.{is_unopened}
use Rattle.modem_show.specs.Ways.{caught}
use Rattle.show_laws.specs.Lines.{AtDriver, LineAct, captured, driver_past}
use Rattle.show_laws.proofs.openings.DriverOpen.{IsOnceLine, follows, once_line_before, seen_by}

-- data that a lawful driver sends keeps the laws of data
pub driver_gated : (s : Setting) (past : List Act) (f : Frame) → Lawful s (Sent f ∷ past) → is_data_frame f ≡ true → Gated s past (owed s past) f
unfolding Lawful
driver_gated s past f l is = subst (λ (b : Bool). When b (Gated s past (owed s past) f)) is l.0.gated

-- the driver's data is on an open connection by what passed, or one in doubt
pub driver_open : (s : Setting) (n1 : ℕ) (stamps : ℕ → Stamp) (f : Frame) (line : List LineAct) → IsOnceLine s n1 (AtDriver (Sent f) ∷ line) → is_unopened (captured stamps line) (caught (stamps (length (captured stamps line))) ToModem f) ≡ false
driver_open s n1 stamps f line h =
    by_data (is_data_frame f) (is_open Initiator f.dlci (seen_by stamps line)) (is_in_doubt f.dlci (waiting Responder (captured stamps line))) (λ is.
    let gated = driver_gated s (driver_past line) f h.lawful.driver_lawful is in
    let there : is_open Initiator f.dlci (wire (driver_past line)) ≡ true = subst (λ (r : Role). is_open r f.dlci (wire (driver_past line)) ≡ true) h.lawful.is_initiator gated.is_open in
    (follows s n1 f.dlci stamps line (once_line_before s n1 (AtDriver (Sent f)) line h)).opens there)
  where
    by_data : (a b c : Bool) → (a ≡ true → b ≡ true) → (a && not (b || c)) ≡ false
    by_data false b c k = refl
    by_data true true c k = refl
    by_data true false c k = let x : false ≡ true = k refl in cc
