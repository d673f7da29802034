-- Where nothing is under way no ask waits.
use Rattle.std.specs.Prelude.{◌≡◌, ℕ, List}
use Rattle.std.proofs.Common.{ap, arith, sym, subst}
use Rattle.mux_station.specs.declared.role.Role.{Role}
use Rattle.mux_station.specs.declared.role.Role.TheVariants.{Initiator, Responder}
use Rattle.mux_station.specs.Sending.{StationComplete, owed_frames}
use Rattle.modem_history.specs.Acts.{wire}
use Rattle.modem_history.specs.Calls.{Setting}
use Rattle.modem_history.specs.Lawful.{Complete, owed}
use Rattle.modem_history.specs.TwoEnds.{frames_got, frames_sent}
use Rattle.modem_show.specs.Asking.{is_answer, is_ask, waiting}
use Rattle.show_laws.specs.Lines.{LineAct, ReadsWhileOpen, captured, driver_past, modem_past, responding}
use Rattle.show_laws.specs.Laws.{AnswersWhileOpen}
use Rattle.show_laws.proofs.while_open.EnoughSent.{driver_enough_while_open, station_enough_while_open}
use Rattle.show_laws.proofs.answered.FewWait.{few_wait}
use Rattle.show_laws.proofs.answered.NoneWaits.{all_asks, none_left, open_asks}
use Rattle.show_laws.proofs.asks.WaitingAsks.{frames_of, frames_to}
use Rattle.show_laws.proofs.counts.ManyFrames.{many}
use Rattle.show_laws.proofs.counts.DriverCounts.{sends}
use Rattle.show_laws.proofs.lines.CapturedFrames.{shows}
use Rattle.show_laws.proofs.openings.ResponderCalls.{each_frame}

-- where nothing is under way, and commands came while 0 was open, each ask was answered or needn't be
pub answers_while_open : (s : Setting) (n1 : ℕ) (line : List LineAct) → AnswersWhileOpen s n1 line
unfolding AnswersWhileOpen Complete StationComplete
answers_while_open s n1 line h done at_driver at_modem stamps =
    let few = few_wait s n1 stamps each_frame is_ask is_answer all_asks line h in
    let seen = shows stamps line in
    let past = driver_past line in
    let reads : ReadsWhileOpen s.role (wire past) = subst (λ (r : Role). ReadsWhileOpen r (wire past)) (sym h.is_initiator) at_driver in
    let by_driver = driver_enough_while_open s past h.driver_lawful done.driver_live reads in
    let by_modem = station_enough_while_open (responding n1) (modem_past line) h.modem_lawful done.modem_live at_modem in
    let none_owed : sends is_answer (owed s past) ≡ 0 = ap (sends is_answer) done.driver_complete in
    let none_at_modem : many is_answer (owed_frames (responding n1) (modem_past line)) ≡ 0 = ap (many is_answer) done.modem_complete in
    let came : many is_ask (frames_got (wire past)) ≡ many is_ask (frames_sent (modem_past line)) = ap (many is_ask) done.at_driver in
    let came_at_modem : many is_ask (frames_got (modem_past line)) ≡ many is_ask (frames_sent (wire past)) = ap (many is_ask) done.at_modem in
    let of_driver : many is_ask (frames_of Initiator (captured stamps line)) ≡ many is_ask (frames_sent (wire past)) = ap (many is_ask) seen.driver_frames in
    let of_modem : many is_ask (frames_of Responder (captured stamps line)) ≡ many is_ask (frames_sent (modem_past line)) = ap (many is_ask) seen.modem_frames in
    let to_driver : many is_answer (frames_to Initiator (captured stamps line)) ≡ many is_answer (frames_sent (modem_past line)) = ap (many is_answer) seen.to_driver in
    let to_modem : many is_answer (frames_to Responder (captured stamps line)) ≡ many is_answer (frames_sent (wire past)) = ap (many is_answer) seen.to_modem in
    let first = few.0 in
    let last = few.1 in (
      ap open_asks (none_left (waiting Initiator (captured stamps line)) (omega (arith, first, of_driver, to_driver, came_at_modem, by_modem, none_at_modem))),
      ap open_asks (none_left (waiting Responder (captured stamps line)) (omega (arith, last, of_modem, to_modem, came, by_driver, none_owed))),
    )
