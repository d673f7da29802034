-- No frame of a lawful line has more information than N1 allows.
use Rattle.std.specs.Prelude.{◌≡◌, ℕ, ◌≤◌, Bool, true, false, List, [], ◌∷◌, ◌++◌, length, refl}
use Rattle.std.specs.List.{list_all}
use Rattle.std.proofs.Common.{ap, arith, sym, ◌∙◌}
use Rattle.std.proofs.lemmas.Bool.{and_parts, leb-true}
use Rattle.std.proofs.lemmas.List.Folds.{list_all-append}
use Rattle.mux_frame.specs.Frames.{Frame}
use Rattle.mux_station.specs.declared.role.Role.TheVariants.{Responder}
use Rattle.mux_station.specs.Acts as station
use Rattle.modem_desk.specs.declared.request.Ask.{Ask}
use Rattle.modem_desk.specs.declared.request.Ask.TheVariants.{OpenChannel, CloseChannel, Command, Probe, Stop}
use Rattle.modem_desk.specs.declared.request.Request.{Request}
use Rattle.modem_history.specs.Acts as driver
use Rattle.modem_history.specs.Acts.{wire}
use Rattle.modem_history.specs.Calls.{Setting}
use Rattle.modem_history.specs.Wholes.{taken_requests}
use Rattle.modem_history.specs.TwoEnds.{frames_sent}
use Rattle.modem_show.specs.declared.rule.Rule.TheVariants.{TooLong}
use Rattle.show_laws.specs.Lines.{AtDriver, AtModem, IsLawfulLine, LineAct, driver_past, modem_past, responding}
use Rattle.show_laws.specs.Laws.{FitsN1, TakesShortProbes, is_short_ask}
use Rattle.show_laws.proofs.counts.ManyFrames.{many, unit}
use Rattle.show_laws.proofs.counts.DriverCounts.{AsksProbe, TakesProbes, driver_sends}
use Rattle.show_laws.proofs.counts.StationCounts.{station_sends}
use Rattle.show_laws.proofs.lines.CapturedFrames.{both_ways, came_few}
use Rattle.show_laws.proofs.lines.EveryFrame.{every, lawful_before}
use Rattle.show_laws.proofs.sizes.LongFrames.{IsShort, is_long, sizes_balanced}

short_ask : (a : Ask) → is_short_ask a ≡ true → AsksProbe IsShort a
short_ask (OpenChannel d) h = tt
short_ask (CloseChannel d) h = tt
short_ask (Command d line) h = tt
short_ask (Probe octets) h = leb-true (length octets) 16 h
short_ask Stop h = tt

abbrev short_request : Request → Bool
short_request q = is_short_ask q.ask

last_short : (qs : List Request) (q : Request) → list_all short_request (qs ++ q ∷ []) ≡ true → (list_all short_request qs ≡ true) × (is_short_ask q.ask ≡ true)
last_short qs q h =
    let p = and_parts (list_all short_request qs) (list_all short_request (q ∷ [])) (sym (list_all-append short_request qs (q ∷ [])) ∙ h) in
    (p.0, (and_parts (is_short_ask q.ask) true p.1).0)

short_probes : (past : List driver.Act) → TakesShortProbes past → TakesProbes IsShort past
short_probes [] h = tt
short_probes (driver.Took q ∷ past) h = let p = last_short (taken_requests past) q h in (short_ask q.ask p.1, short_probes past p.0)
short_probes (driver.Got f ∷ past) h = short_probes past h
short_probes (driver.Sent f ∷ past) h = short_probes past h
short_probes (driver.Told o ∷ past) h = short_probes past h
short_probes (driver.Heard k d l ∷ past) h = short_probes past h
short_probes (driver.Tick ∷ past) h = short_probes past h
short_probes (driver.Lost ∷ past) h = short_probes past h
short_probes (driver.Held d ∷ past) h = short_probes past h
short_probes (driver.Freed d ∷ past) h = short_probes past h
short_probes (driver.Given ∷ past) h = short_probes past h

-- a lawful line with short probes
record IsShortLine (s : Setting) (n1 : ℕ) (line : List LineAct) : Type 0 where
  lawful : IsLawfulLine s n1 line
  probes : TakesProbes IsShort (driver_past line)

probes_before : (a : driver.Act) (past : List driver.Act) → TakesProbes IsShort (a ∷ past) → TakesProbes IsShort past
probes_before (driver.Took q) past h = h.1
probes_before (driver.Got f) past h = h
probes_before (driver.Sent f) past h = h
probes_before (driver.Told o) past h = h
probes_before (driver.Heard k d l) past h = h
probes_before driver.Tick past h = h
probes_before driver.Lost past h = h
probes_before (driver.Held d) past h = h
probes_before (driver.Freed d) past h = h
probes_before driver.Given past h = h

short_before : (s : Setting) (n1 : ℕ) (x : LineAct) (line : List LineAct) → IsShortLine s n1 (x ∷ line) → IsShortLine s n1 line
short_before s n1 (AtDriver a) line h = record { lawful = lawful_before s n1 (AtDriver a) line h.lawful; probes = probes_before a (driver_past line) h.probes }
short_before s n1 (AtModem a) line h = record { lawful = lawful_before s n1 (AtModem a) line h.lawful; probes = h.probes }

-- neither end sent a longer one
record Few (most : ℕ) (line : List LineAct) : Type 0 where
  by_driver : many (is_long most) (frames_sent (wire (driver_past line))) ≤ 0
  by_modem : many (is_long most) (frames_sent (modem_past line)) ≤ 0

driver_few : (s : Setting) (n1 most : ℕ) (line : List LineAct) → 18 ≤ most → s.n1 ≤ most → IsShortLine s n1 line → many (is_long most) (frames_sent (modem_past line)) ≤ 0 → many (is_long most) (frames_sent (wire (driver_past line))) ≤ 0
driver_few s n1 most line low high h none =
    let sent = driver_sends IsShort s (is_long most) (is_long most) (sizes_balanced s.n1 most s.role low high) (driver_past line) h.lawful.driver_lawful h.probes in
    let came = came_few (is_long most) (modem_past line) (wire (driver_past line)) (both_ways line h.lawful.one_line).at_driver in
    omega (arith, sent, came, none)

modem_few : (s : Setting) (n1 most : ℕ) (line : List LineAct) → 18 ≤ most → n1 ≤ most → IsShortLine s n1 line → many (is_long most) (frames_sent (wire (driver_past line))) ≤ 0 → many (is_long most) (frames_sent (modem_past line)) ≤ 0
modem_few s n1 most line low high h none =
    let sent = station_sends IsShort (responding n1) (is_long most) (is_long most) (sizes_balanced n1 most Responder low high) (modem_past line) h.lawful.modem_lawful in
    let came = came_few (is_long most) (wire (driver_past line)) (modem_past line) (both_ways line h.lawful.one_line).at_modem in
    omega (arith, sent, came, none)

few : (s : Setting) (n1 most : ℕ) (line : List LineAct) → 18 ≤ most → s.n1 ≤ most → n1 ≤ most → IsShortLine s n1 line → Few most line
few s n1 most [] low high high2 h = record { by_driver = omega arith; by_modem = omega arith }
few s n1 most (AtDriver a ∷ line) low high high2 h =
    let before = few s n1 most line low high high2 (short_before s n1 (AtDriver a) line h) in
    record { by_driver = driver_few s n1 most (AtDriver a ∷ line) low high h before.by_modem; by_modem = before.by_modem }
few s n1 most (AtModem a ∷ line) low high high2 h =
    let before = few s n1 most line low high high2 (short_before s n1 (AtModem a) line h) in
    record { by_driver = before.by_driver; by_modem = modem_few s n1 most (AtModem a ∷ line) low high2 h before.by_driver }

first_short : (t : Frame → Bool) (f : Frame) (fs : List Frame) → many t (f ∷ fs) ≤ 0 → t f ≡ false
first_short t f fs h = by_test (t f) refl
  where
    by_test : (b : Bool) → t f ≡ b → b ≡ false
    by_test false e = refl
    by_test true e = let x : unit (t f) ≡ 1 = ap unit e in absurd (omega (arith, x, h))

-- no frame of a lawful line is longer than this, where neither end has a greater N1, and probes are short and fit
pub fits_n1 : (s : Setting) (n1 : ℕ) (line : List LineAct) → FitsN1 s n1 line
unfolding FitsN1
fits_n1 s n1 line h probes stamps most low high high2 =
    every (IsShortLine s n1) (λ x line k. short_before s n1 x line k) TooLong most stamps
    (λ f line k. first_short (is_long most) f (frames_sent (wire (driver_past line))) (few s n1 most (AtDriver (driver.Sent f) ∷ line) low high high2 k).by_driver)
    (λ f line k. first_short (is_long most) f (frames_sent (modem_past line)) (few s n1 most (AtModem (station.Sent f) ∷ line) low high high2 k).by_modem)
    line (record { lawful = h; probes = short_probes (driver_past line) probes })
