-- No data of a lawful line is a control message.
use Rattle.std.specs.Prelude.{◌≡◌, ℕ, ◌&&◌, not, Bool, true, false, List, ◌∷◌, ◌++◌, refl}
use Rattle.std.specs.List.{concat}
use Rattle.std.proofs.Common.{ap, sym, ◌∙◌, subst}
use Rattle.mux_frame.specs.Frames.{Frame}
use Rattle.mux_station.specs.Acts as station
use Rattle.mux_station.specs.Messages.{message_of}
use Rattle.mux_station.specs.Offering.{data_out}
use Rattle.mux_station.specs.Sending.{Sends, StationLawful}
use Rattle.mux_station.specs.Written.{is_data_frame}
use Rattle.modem_history.specs.Acts as driver
use Rattle.modem_history.specs.Calls.{Setting}
use Rattle.modem_history.specs.Information.{accepted, information_out, texts}
use Rattle.modem_history.specs.Lawful.{Lawful, Once, When}
use Rattle.modem_history.specs.TwoEnds.{TakesCommandLines}
use Rattle.modem_show.specs.declared.rule.Rule.TheVariants.{Astray}
use Rattle.modem_show.specs.Judging.{is_astray, is_message, is_text}
use Rattle.one_modem.proofs.two_ends.LinePoints.{fewer_lines}
use Rattle.show_laws.specs.Lines.{AtDriver, AtModem, IsLawfulLine, LineAct, driver_past, modem_past, responding}
use Rattle.show_laws.specs.Laws.{CarriesText, OffersText}
use Rattle.show_laws.proofs.lines.EveryFrame.{every, lawful_before}
use Rattle.show_laws.proofs.texts.TextsSent.{accepted_text, front_text, offered_text, text_parts}

-- data that is text isn't astray
none_astray : (f : Frame) → (is_data_frame f ≡ true → is_text f.info ≡ true) → is_astray f ≡ false
none_astray f h = by_data (is_data_frame f) (is_message f.info (message_of f.info)) (is_text f.info) h
  where
    by_data : (a b c : Bool) → (a ≡ true → c ≡ true) → (a && (b && not c)) ≡ false
    by_data false b c h = refl
    by_data true false c h = refl
    by_data true true true h = refl
    by_data true true false h = let x : false ≡ true = h refl in cc

-- a lawful line with lines alone
record IsTextLine (s : Setting) (n1 : ℕ) (line : List LineAct) : Type 0 where
  lawful : IsLawfulLine s n1 line
  commands : TakesCommandLines (driver_past line)
  offers : OffersText (modem_past line)

offers_before : (a : station.Act) (past : List station.Act) → OffersText (a ∷ past) → OffersText past
offers_before (station.Called (station.Offer d octets)) past h = h.1
offers_before (station.Called (station.Open d)) past h = h
offers_before (station.Called (station.Close d)) past h = h
offers_before (station.Called (station.Probe octets)) past h = h
offers_before (station.Called station.Stop) past h = h
offers_before (station.Called (station.Flow d go)) past h = h
offers_before (station.Got f) past h = h
offers_before (station.Sent f) past h = h
offers_before station.Tick past h = h
offers_before station.Lost past h = h
offers_before station.Given past h = h

text_before : (s : Setting) (n1 : ℕ) (x : LineAct) (line : List LineAct) → IsTextLine s n1 (x ∷ line) → IsTextLine s n1 line
text_before s n1 (AtDriver a) line h = record { lawful = lawful_before s n1 (AtDriver a) line h.lawful; commands = fewer_lines a (driver_past line) h.commands; offers = h.offers }
text_before s n1 (AtModem a) line h = record { lawful = lawful_before s n1 (AtModem a) line h.lawful; commands = h.commands; offers = offers_before a (modem_past line) h.offers }

is_once : (s : Setting) (past : List driver.Act) (f : Frame) → Lawful s (driver.Sent f ∷ past) → is_data_frame f ≡ true → Once s past f
unfolding Lawful
is_once s past f l is = subst (λ (b : Bool). When b (Once s past f)) is l.0.once

driver_text : (s : Setting) (past : List driver.Act) (f : Frame) → Lawful s (driver.Sent f ∷ past) → TakesCommandLines past → is_data_frame f ≡ true → is_text f.info ≡ true
driver_text s past f l lines is =
    (text_parts (information_out s.role f.dlci past) f.info
    (front_text (information_out s.role f.dlci past ++ f.info) (concat (texts (accepted s.role f.dlci past))) (is_once s past f l is) (accepted_text s.role f.dlci past lines))).1

modem_text : (n1 : ℕ) (past : List station.Act) (f : Frame) → StationLawful (responding n1) (station.Sent f ∷ past) → OffersText past → is_data_frame f ≡ true → is_text f.info ≡ true
unfolding StationLawful Sends
modem_text n1 past f l offers is =
    let gated = rw is at l.0 in
    let all : is_text ((data_out (responding n1).role f.dlci past ++ f.info) ++ gated.later) ≡ true = sym (ap is_text gated.is_offered) ∙ offered_text (responding n1).role f.dlci past offers in
    (text_parts (data_out (responding n1).role f.dlci past) f.info (text_parts (data_out (responding n1).role f.dlci past ++ f.info) gated.later all).0).1

-- on a lawful line no data is a control message, where command lines are given and lines offered
pub carries_text : (s : Setting) (n1 : ℕ) (line : List LineAct) → CarriesText s n1 line
unfolding CarriesText
carries_text s n1 line h commands offers stamps most =
    every (IsTextLine s n1) (λ x line k. text_before s n1 x line k) Astray most stamps
    (λ f line k. none_astray f (driver_text s (driver_past line) f k.lawful.driver_lawful k.commands))
    (λ f line k. none_astray f (modem_text n1 (modem_past line) f k.lawful.modem_lawful k.offers))
    line (record { lawful = h; commands = commands; offers = offers })
