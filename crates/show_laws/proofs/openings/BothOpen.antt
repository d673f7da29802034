-- No data is judged to be on a connection that isn't open.
use Rattle.std.specs.Prelude.{◌≡◌, ℕ, ◌==◌, ◌&&◌, ◌||◌, not, Bool, true, false, List, ◌∷◌, length, refl}
use Rattle.std.specs.List.{list_any}
use Rattle.std.proofs.Common.{ap, arith}
use Rattle.std.proofs.lemmas.Bool.{and_parts}
use Rattle.mux_frame.specs.Frames.{Frame}
use Rattle.mux_capture.specs.declared.packet.Direction.TheVariants.{FromModem}
use Rattle.mux_capture.specs.declared.packet.Stamp.{Stamp}
use Rattle.mux_station.specs.declared.role.Role.TheVariants.{Initiator, Responder}
use Rattle.mux_station.specs.Acts as station
use Rattle.mux_station.specs.Opening.{is_open}
use Rattle.mux_station.specs.Sending.{Sends, StationGated, StationLawful, is_loss, owed_frames}
use Rattle.mux_frame.specs.declared.frame.Kind.TheVariants.{Ua, Uih}
use Rattle.mux_station.specs.Written.{is_data_frame, is_kind, is_on}
use Rattle.show_laws.proofs.counts.ManyFrames.{many}
use Rattle.modem_history.specs.Calls.{Setting}
use Rattle.modem_show.specs.declared.rule.Rule.TheVariants.{Unopened}
use Rattle.modem_show.specs.Asking.{is_in_doubt, waiting}
use Rattle.modem_show.specs.Ends.{own}
use Rattle.modem_show.specs.Judging.{is_unopened}
use Rattle.modem_show.specs.Ways.{caught}
use Rattle.show_laws.specs.Lines.{AtModem, LineAct, captured, modem_past, responding}
use Rattle.show_laws.specs.Laws.{SendWhileOpen}
use Rattle.show_laws.proofs.lines.EveryFrame.{every}
use Rattle.show_laws.proofs.openings.DriverOpen.{IsOnceLine, once_line_before}
use Rattle.show_laws.proofs.openings.ModemLine.{answered_once, modem_line, ua_called}
use Rattle.show_laws.proofs.openings.NoneUnopened.{driver_open}

-- data that a lawful modem sends keeps the laws of data
pub data_gated : (n1 : ℕ) (past : List station.Act) (f : Frame) → StationLawful (responding n1) (station.Sent f ∷ past) → is_data_frame f ≡ true → StationGated (responding n1) past f
unfolding StationLawful Sends
data_gated n1 past f l is = rw is at l.0

modem_open : (s : Setting) (n1 : ℕ) (stamps : ℕ → Stamp) (f : Frame) (line : List LineAct) → IsOnceLine s n1 (AtModem (station.Sent f) ∷ line) → is_unopened (captured stamps line) (caught (stamps (length (captured stamps line))) FromModem f) ≡ false
modem_open s n1 stamps f line h =
    by_data (is_data_frame f) (is_open Responder f.dlci (own Responder (captured stamps line))) (is_in_doubt f.dlci (waiting Initiator (captured stamps line))) (λ is.
    let past = modem_past line in
    let older = once_line_before s n1 (AtModem (station.Sent f)) line h in
    let gated = data_gated n1 past f h.lawful.modem_lawful is in
    let called = ua_called n1 f.dlci past older.lawful.modem_lawful (turned (list_any is_loss past) gated.live) gated.is_open in
    let none : many (is_on Ua f.dlci) (owed_frames (responding n1) past) ≡ 0 = ap (many (is_on Ua f.dlci)) gated.behind in
    let apart = turned (f.dlci == 0) (and_parts (is_kind f.kind Uih) (not (f.dlci == 0)) is).1 in
    modem_line s n1 f.dlci stamps line older gated.is_open (omega (arith, called, none)) (answered_once s n1 f.dlci line older apart gated.is_open))
  where
    turned : (b : Bool) → not b ≡ true → b ≡ false
    turned false e = refl
    turned true e = cc

    by_data : (a b c : Bool) → (a ≡ true → b ≡ true) → (a && not (b || c)) ≡ false
    by_data false b c k = refl
    by_data true true c k = refl
    by_data true false c k = let x : false ≡ true = k refl in cc

-- on a lawful line whose driver asks for each connection once no data is sent where it isn't open
pub send_while_open : (s : Setting) (n1 : ℕ) (line : List LineAct) → SendWhileOpen s n1 line
unfolding SendWhileOpen
send_while_open s n1 line h once stamps most =
    every (IsOnceLine s n1) (λ x line k. once_line_before s n1 x line k) Unopened most stamps
    (λ f line k. driver_open s n1 stamps f line k)
    (λ f line k. modem_open s n1 stamps f line k)
    line (record { lawful = h; once = once })
