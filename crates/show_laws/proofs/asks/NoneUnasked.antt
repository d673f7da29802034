-- No frame of a lawful line is an answer that nothing waits for.
use Rattle.std.specs.Prelude.{◌≡◌, ℕ, ◌==◌, ◌≤◌, ◌&&◌, ◌||◌, not, is_none, Bool, true, false, List, [], ◌∷◌, length, Option, Some, None, refl}
use Rattle.std.specs.Str.{bytes_eq}
use Rattle.std.specs.List.{list_all}
use Rattle.std.proofs.Common.{ap, arith, ◌∙◌}
use Rattle.std.proofs.lemmas.Bool.{and_from, and_parts, eq-eqb}
use Rattle.std.proofs.lemmas.Slice.Eq.{bytes_eq-Decides}
use Rattle.mux_frame.specs.Frames.{Frame}
use Rattle.mux_capture.specs.declared.packet.Direction.TheVariants.{ToModem, FromModem}
use Rattle.mux_capture.specs.declared.packet.Stamp.{Stamp}
use Rattle.mux_capture.specs.Passing.{Caught}
use Rattle.mux_station.specs.declared.role.Role.{Role}
use Rattle.mux_station.specs.declared.role.Role.TheVariants.{Initiator, Responder}
use Rattle.mux_station.specs.Acts as station
use Rattle.mux_station.specs.Messages.{Message, message_in}
use Rattle.mux_station.specs.Sending.{StationLawful}
use Rattle.modem_desk.specs.declared.request.Ask.{Ask}
use Rattle.modem_desk.specs.declared.request.Ask.TheVariants.{OpenChannel, CloseChannel, Command, Probe, Stop}
use Rattle.modem_history.specs.Acts as driver
use Rattle.modem_history.specs.Acts.{wire}
use Rattle.modem_history.specs.Calls.{Setting}
use Rattle.modem_history.specs.Lawful.{Lawful}
use Rattle.modem_history.specs.TwoEnds.{frames_got, frames_sent}
use Rattle.modem_show.specs.declared.rule.Rule.TheVariants.{Unasked}
use Rattle.modem_show.specs.Asking.{answers, answered_by, is_answer, is_mode_answer, message_answers, waiting}
use Rattle.modem_show.specs.Judging.{is_unasked}
use Rattle.modem_show.specs.Ways.{caught}
use Rattle.show_laws.specs.Lines.{AtDriver, AtModem, IsLawfulLine, LineAct, captured, driver_past, modem_past, responding}
use Rattle.show_laws.specs.Laws.{AnswersAsks}
use Rattle.show_laws.proofs.counts.ManyFrames.{many, unit}
use Rattle.show_laws.proofs.counts.DriverCounts.{AsksProbe, TakesProbes, driver_sends}
use Rattle.show_laws.proofs.counts.StationCounts.{station_sends}
use Rattle.show_laws.proofs.asks.AnswerShapes.{is_alike, is_shaped, same_message}
use Rattle.show_laws.proofs.asks.AnswersCalled.{AnyProbe, answers_balanced, misshapen, shapes_balanced}
use Rattle.show_laws.proofs.asks.WaitingAsks.{frames_of, frames_to, one_waits, some_wait}
use Rattle.show_laws.proofs.lines.CapturedFrames.{both_ways, came_few, shows}
use Rattle.show_laws.proofs.lines.EveryFrame.{every, lawful_before}

-- ## Shapes

-- each request may be asked for, where any probe may
pub any_asked : (a : Ask) → AsksProbe AnyProbe a
any_asked (OpenChannel d) = tt
any_asked (CloseChannel d) = tt
any_asked (Command d line) = tt
any_asked (Probe octets) = tt
any_asked Stop = tt

-- and each past took such requests alone
pub any_probes : (past : List driver.Act) → TakesProbes AnyProbe past
any_probes [] = tt
any_probes (driver.Took q ∷ past) = (any_asked q.ask, any_probes past)
any_probes (driver.Got f ∷ past) = any_probes past
any_probes (driver.Sent f ∷ past) = any_probes past
any_probes (driver.Told o ∷ past) = any_probes past
any_probes (driver.Heard k d l ∷ past) = any_probes past
any_probes (driver.Tick ∷ past) = any_probes past
any_probes (driver.Lost ∷ past) = any_probes past
any_probes (driver.Held d ∷ past) = any_probes past
any_probes (driver.Freed d ∷ past) = any_probes past
any_probes (driver.Given ∷ past) = any_probes past

none_many : (fs : List Frame) → many (λ (f : Frame). false) fs ≤ 0
none_many [] = omega arith
none_many (f ∷ fs) = let e = none_many fs in omega (arith, e)

all_shaped : (fs : List Frame) → many misshapen fs ≤ 0 → list_all is_shaped fs ≡ true
all_shaped [] h = refl
all_shaped (f ∷ fs) h = by_test (is_shaped f) refl (λ k. all_shaped fs k)
  where
    by_test : (b : Bool) → is_shaped f ≡ b → (many misshapen fs ≤ 0 → list_all is_shaped fs ≡ true) → (b && list_all is_shaped fs) ≡ true
    by_test true e rest = rest (omega (arith, h))
    by_test false e rest = let x : unit (misshapen f) ≡ 1 = ap (λ b. unit (not b)) e in absurd (omega (arith, x, h))

-- no frame that a lawful driver sent is misshapen
pub driver_shaped : (s : Setting) (past : List driver.Act) → Lawful s past → list_all is_shaped (frames_sent (wire past)) ≡ true
driver_shaped s past l =
    let few = driver_sends AnyProbe s misshapen (λ (f : Frame). false) (shapes_balanced s.n1 s.role) past l (any_probes past) in
    let none = none_many (frames_got (wire past)) in
    all_shaped (frames_sent (wire past)) (omega (arith, few, none))

-- nor is one of a lawful modem
pub modem_shaped : (n1 : ℕ) (past : List station.Act) → StationLawful (responding n1) past → list_all is_shaped (frames_sent past) ≡ true
modem_shaped n1 past l =
    let few = station_sends AnyProbe (responding n1) misshapen (λ (f : Frame). false) (shapes_balanced n1 Responder) past l in
    let none = none_many (frames_got past) in
    all_shaped (frames_sent past) (omega (arith, few, none))

-- ## One answer

-- an answer is like itself
pub self_alike : (g : Frame) → is_answer g ≡ true → is_alike g g ≡ true
self_alike g answer = by_mode (is_mode_answer g) (message_in g) refl answer
  where
    same : (o : Option Message) → message_answers o ≡ true → same_message o o ≡ true
    same None h = cc
    same (Some m) h = and_from (m.octet == m.octet) (bytes_eq m.value m.value) (eq-eqb m.octet m.octet refl) ((bytes_eq-Decides m.value m.value).1 refl)

    by_mode : (b : Bool) (o : Option Message) → is_mode_answer g ≡ b → (b || message_answers o) ≡ true → (((b && b) && (g.dlci == g.dlci)) || same_message o o) ≡ true
    by_mode true o e h = ap (λ (c : Bool). c || same_message o o) (eq-eqb g.dlci g.dlci refl)
    by_mode false o e h = same o h

-- an end has sent answers like g, and sends one more: one of the asks waits that it answers
waits : (r : Role) (g : Frame) (line : List Caught) (sent got asked : List Frame) → is_answer g ≡ true → list_all is_shaped (g ∷ sent) ≡ true
    → frames_of r line ≡ asked → frames_to r line ≡ sent → many (is_alike g) (g ∷ sent) ≤ many (λ f. answers f g) got → many (λ f. answers f g) got ≤ many (λ f. answers f g) asked
    → is_none (answered_by g (waiting r line)) ≡ false
waits r g line sent got asked answer shaped from to few came =
    let p = and_parts (is_shaped g) (list_all is_shaped sent) shaped in
    let wait = some_wait g r line p.0 (ap (list_all is_shaped) to ∙ p.1) in
    let x : many (λ f. answers f g) (frames_of r line) ≡ many (λ f. answers f g) asked = ap (many (λ f. answers f g)) from in
    let y : many (is_alike g) (frames_to r line) ≡ many (is_alike g) sent = ap (many (is_alike g)) to in
    let z : unit (is_alike g g) ≡ 1 = ap unit (self_alike g answer) in
    one_waits g (waiting r line) (omega (arith, wait, x, y, z, few, came))

by_answer : (b c : Bool) → (b ≡ true → c ≡ false) → (b && c) ≡ false
by_answer true c h = h refl
by_answer false c h = refl

-- what the driver sends on a lawful line is no answer that nothing waits for
pub driver_answers : (s : Setting) (n1 : ℕ) (stamps : ℕ → Stamp) (g : Frame) (line : List LineAct) (stamp : Stamp) → IsLawfulLine s n1 (AtDriver (driver.Sent g) ∷ line) → is_unasked (captured stamps line) (caught stamp ToModem g) ≡ false
driver_answers s n1 stamps g line stamp h =
    by_answer (is_answer g) (is_none (answered_by g (waiting Responder (captured stamps line)))) (λ answer.
    let past = driver_past line in
    let seen = shows stamps line in
    let there = both_ways line h.one_line.1 in
    waits Responder g (captured stamps line) (frames_sent (wire past)) (frames_got (wire past)) (frames_sent (modem_past line)) answer
    (driver_shaped s (driver.Sent g ∷ past) h.driver_lawful) seen.modem_frames seen.to_modem
    (driver_sends AnyProbe s (is_alike g) (λ f. answers f g) (answers_balanced s.n1 s.role g answer) (driver.Sent g ∷ past) h.driver_lawful (any_probes (driver.Sent g ∷ past)))
    (came_few (λ f. answers f g) (modem_past line) (wire past) there.at_driver))

-- nor is what the modem sends
pub modem_answers : (s : Setting) (n1 : ℕ) (stamps : ℕ → Stamp) (g : Frame) (line : List LineAct) (stamp : Stamp) → IsLawfulLine s n1 (AtModem (station.Sent g) ∷ line) → is_unasked (captured stamps line) (caught stamp FromModem g) ≡ false
modem_answers s n1 stamps g line stamp h =
    by_answer (is_answer g) (is_none (answered_by g (waiting Initiator (captured stamps line)))) (λ answer.
    let past = modem_past line in
    let seen = shows stamps line in
    let there = both_ways line h.one_line.1 in
    waits Initiator g (captured stamps line) (frames_sent past) (frames_got past) (frames_sent (wire (driver_past line))) answer
    (modem_shaped n1 (station.Sent g ∷ past) h.modem_lawful) seen.driver_frames seen.to_driver
    (station_sends AnyProbe (responding n1) (is_alike g) (λ f. answers f g) (answers_balanced n1 Responder g answer) (station.Sent g ∷ past) h.modem_lawful)
    (came_few (λ f. answers f g) (wire (driver_past line)) past there.at_modem))

-- on a lawful line each answer answers something that waits for it
pub answers_asks : (s : Setting) (n1 : ℕ) (line : List LineAct) → AnswersAsks s n1 line
unfolding AnswersAsks
answers_asks s n1 line h stamps most =
    every (IsLawfulLine s n1) (λ x line k. lawful_before s n1 x line k) Unasked most stamps
    (λ g line k. driver_answers s n1 stamps g line (stamps (length (captured stamps line))) k)
    (λ g line k. modem_answers s n1 stamps g line (stamps (length (captured stamps line))) k) line h
