-- No data is judged to be on a stopped connection, where neither end stops any.
use Rattle.std.specs.Prelude.{◌≡◌, ℕ, ◌+◌, ◌==◌, ◌≤◌, ◌&&◌, ◌||◌, not, Bool, true, false, List, [], ◌∷◌, ◌++◌, length, Option, Some, None, refl, unwrap_or, if◌then◌else◌}
use Rattle.std.specs.List.{list_any}
use Rattle.std.proofs.Common.{ap, arith, ◌∙◌}
use Rattle.std.proofs.lemmas.Bool.{or_parts}
use Rattle.mux_frame.specs.Frames.{Frame}
use Rattle.mux_capture.specs.declared.packet.Direction.{Direction}
use Rattle.mux_capture.specs.declared.packet.Direction.TheVariants.{ToModem, FromModem}
use Rattle.mux_capture.specs.declared.packet.Stamp.{Stamp}
use Rattle.mux_capture.specs.Passing.{Caught, is_same}
use Rattle.mux_station.specs.declared.role.Role.{Role}
use Rattle.mux_station.specs.declared.role.Role.TheVariants.{Initiator, Responder}
use Rattle.mux_station.specs.Acts.{Act, Called, Got, Sent, Tick, Lost, Given}
use Rattle.mux_station.specs.Messages.{Message, fcoff, fcon, message_in, msc, msc_dlci, msc_stops}
use Rattle.mux_station.specs.Opening.{belongs, is_open, opens_now, since, since_after}
use Rattle.mux_station.specs.Stopping.{flow_says, got_says, if_message, is_stopped, last_said, msc_says}
use Rattle.mux_station.specs.Written.{is_data_frame, is_kind}
use Rattle.mux_frame.specs.declared.frame.Kind.TheVariants.{Dm}
use Rattle.modem_history.specs.Acts as driver
use Rattle.modem_history.specs.Acts.{wire}
use Rattle.modem_history.specs.Calls.{Setting}
use Rattle.modem_history.specs.TwoEnds.{frames_sent}
use Rattle.modem_show.specs.declared.rule.Rule.TheVariants.{Unstopped}
use Rattle.modem_show.specs.Asking.{Ask, answered_by, answers, is_again, is_ask, waiting}
use Rattle.modem_show.specs.Ends.{come, handled, own}
use Rattle.modem_show.specs.Judging.{is_unstopped}
use Rattle.modem_show.specs.Ways.{caught, is_from, other, way_of}
use Rattle.show_laws.specs.Lines.{AtDriver, AtModem, LineAct, captured, driver_past, modem_past}
use Rattle.show_laws.specs.Laws.{NeverStopped, StopsNothing, message_stops}
use Rattle.show_laws.proofs.asks.WaitingAsks.{frames_of, frames_to}
use Rattle.show_laws.proofs.counts.ManyFrames.{many, unit}
use Rattle.show_laws.proofs.lines.CapturedFrames.{shows}
use Rattle.show_laws.proofs.lines.EveryFrame.{every}
use Rattle.show_laws.proofs.openings.SentRequests.{found_one, waiting_few}

abbrev stops : Frame → Bool
stops f = message_stops (message_in f)

-- ## What an end has read

-- nothing that it got stops
abbrev GetsNone : List Act → Type 0
GetsNone [] = Unit {0}
GetsNone (Got f ∷ past) = (stops f ≡ false) × GetsNone past
GetsNone (a ∷ past) = GetsNone past

other_way : (r : Role) (c : Caught) → is_from (other r) c ≡ not (is_from r c)
other_way r c = by_way r c.direction
  where
    by_way : (r : Role) (d : Direction) → is_same d (way_of (other r)) ≡ not (is_same d (way_of r))
    by_way Initiator ToModem = refl
    by_way Initiator FromModem = refl
    by_way Responder ToModem = refl
    by_way Responder FromModem = refl

other_frames : (r : Role) (line : List Caught) → frames_of (other r) line ≡ frames_to r line
other_frames r [] = refl
other_frames r (c ∷ line) =
    ap (λ (b : Bool). if b then c.frame ∷ frames_of (other r) line else frames_of (other r) line) (other_way r c)
    ∙ (turned (is_from r c) ∙ ap (λ (fs : List Frame). if is_from r c then fs else c.frame ∷ fs) (other_frames r line))
  where
    turned : (b : Bool) → (if not b then c.frame ∷ frames_of (other r) line else frames_of (other r) line) ≡ (if b then frames_of (other r) line else c.frame ∷ frames_of (other r) line)
    turned true = refl
    turned false = refl

handled_none : (o : Option Ask) (past : List Act) → ((a : Ask) → o ≡ Some a → stops a.frame ≡ false) → GetsNone past → GetsNone (handled o ++ past)
handled_none None past h k = k
handled_none (Some a) past h k = by_again (is_again a)
  where
    by_again : (b : Bool) → GetsNone ((if b then [] else Got a.frame ∷ []) ++ past)
    by_again true = k
    by_again false = (h a refl, k)

come_none : (f : Frame) (past : List Act) → stops f ≡ false → GetsNone past → GetsNone (come f past)
come_none f past h k = by_come (is_ask f || is_kind f.kind Dm)
  where
    by_come : (b : Bool) → GetsNone (if b then past else Got f ∷ past)
    by_come true = k
    by_come false = (h, k)

own_none : (r : Role) (line : List Caught) → many stops (frames_to r line) ≤ 0 → GetsNone (own r line)
own_none r [] h = tt
own_none r (c ∷ line) h = by_way (is_from r c) h (own_none r line)
  where
    off : (n : ℕ) → unit (stops c.frame) + n ≤ 0 → stops c.frame ≡ false
    off n k = by_test (stops c.frame) refl
      where
        by_test : (b : Bool) → stops c.frame ≡ b → b ≡ false
        by_test false e = refl
        by_test true e = let x : unit (stops c.frame) ≡ 1 = ap unit e in absurd (omega (arith, x, k))

    by_way : (b : Bool) → many stops (if b then frames_to r line else c.frame ∷ frames_to r line) ≤ 0 → (many stops (frames_to r line) ≤ 0 → GetsNone (own r line))
        → GetsNone (if b then Sent c.frame ∷ (handled (answered_by c.frame (waiting (other r) line)) ++ own r line) else come c.frame (own r line))
    by_way true h k =
        let few = waiting_few stops (other r) line in
        let same : many stops (frames_of (other r) line) ≡ many stops (frames_to r line) = ap (many stops) (other_frames r line) in
        handled_none (answered_by c.frame (waiting (other r) line)) (own r line) (λ a e. (found_one stops (λ f. answers f c.frame) (waiting (other r) line) a e (omega (arith, few, same, h))).1) (k h)
    by_way false h k = come_none c.frame (own r line) (off (many stops (frames_to r line)) h) (k (omega (arith, h)))

-- ## What it says

-- it says nothing, or that it goes on
abbrev goes : Option Bool → Bool
goes None = true
goes (Some b) = not b

msc_goes : (d : ℕ) (m : Message) → message_stops (Some m) ≡ false → goes (msc_says d m) ≡ true
msc_goes d m h = by_octet (m.octet == msc) (msc_dlci m.value == d) (msc_stops m.value) (or_parts ((m.octet == msc) && msc_stops m.value) (m.octet == fcoff) h).0
  where
    by_octet : (a b c : Bool) → (a && c) ≡ false → goes (if a && b then Some c else None) ≡ true
    by_octet true true true h = cc
    by_octet true true false h = refl
    by_octet true false c h = refl
    by_octet false b c h = refl

flow_goes : (m : Message) → message_stops (Some m) ≡ false → goes (flow_says m) ≡ true
flow_goes m h = by_octet (m.octet == fcoff) (m.octet == fcon) (or_parts ((m.octet == msc) && msc_stops m.value) (m.octet == fcoff) h).1
  where
    by_octet : (a b : Bool) → a ≡ false → goes (if a then Some true else (if b then Some false else None)) ≡ true
    by_octet true b h = cc
    by_octet false true h = refl
    by_octet false false h = refl

got_goes : (say : Message → Option Bool) → ((m : Message) → message_stops (Some m) ≡ false → goes (say m) ≡ true) → (o : Option Message) → message_stops o ≡ false → goes (if_message say o) ≡ true
got_goes say k None h = refl
got_goes say k (Some m) h = k m h

unsaid : (o : Option Bool) (b : Bool) → goes o ≡ true → b ≡ false → unwrap_or o b ≡ false
unsaid None b h e = e
unsaid (Some true) b h e = cc
unsaid (Some false) b h e = refl

since_off : (say : Act → Option Bool) (x y : Bool) (a : Act) (rest : List Act) → goes (say a) ≡ true → last_said say rest ≡ false → last_said say (since_after x y a rest) ≡ false
since_off say true y a rest h k = refl
since_off say false true a rest h k = unsaid (say a) (last_said say rest) h k
since_off say false false a rest h k = k

said_off : (say : Message → Option Bool) → ((m : Message) → message_stops (Some m) ≡ false → goes (say m) ≡ true) → (r : Role) (d : ℕ) (past : List Act) → GetsNone past → last_said (got_says say) (since r d past) ≡ false
said_off say k r d [] h = refl
said_off say k r d (Got f ∷ past) h = since_off (got_says say) (opens_now r d past (Got f)) (belongs r d past (Got f)) (Got f) (since r d past) (got_goes say k (message_in f) h.0) (said_off say k r d past h.1)
said_off say k r d (Sent f ∷ past) h = since_off (got_says say) (opens_now r d past (Sent f)) (belongs r d past (Sent f)) (Sent f) (since r d past) refl (said_off say k r d past h)
said_off say k r d (Called c ∷ past) h = since_off (got_says say) (opens_now r d past (Called c)) (belongs r d past (Called c)) (Called c) (since r d past) refl (said_off say k r d past h)
said_off say k r d (Tick ∷ past) h = since_off (got_says say) (opens_now r d past Tick) (belongs r d past Tick) Tick (since r d past) refl (said_off say k r d past h)
said_off say k r d (Lost ∷ past) h = since_off (got_says say) (opens_now r d past Lost) (belongs r d past Lost) Lost (since r d past) refl (said_off say k r d past h)
said_off say k r d (Given ∷ past) h = since_off (got_says say) (opens_now r d past Given) (belongs r d past Given) Given (since r d past) refl (said_off say k r d past h)

never_stopped_by : (r : Role) (d : ℕ) (past : List Act) → GetsNone past → is_stopped r d past ≡ false
never_stopped_by r d past h =
    off (not (d == 0)) (is_open r d past) (is_open r 0 past) (last_said (got_says (msc_says d)) (since r d past)) (last_said (got_says flow_says) (since r 0 past))
    (said_off (msc_says d) (msc_goes d) r d past h) (said_off flow_says flow_goes r 0 past h)
  where
    off : (n a b x y : Bool) → x ≡ false → y ≡ false → (n && ((a && x) || (b && y))) ≡ false
    off n a b true y e g = cc
    off n a b false true e g = cc
    off true true true false false e g = refl
    off true true false false false e g = refl
    off true false true false false e g = refl
    off true false false false false e g = refl
    off false a b false false e g = refl

-- ## The line

record IsFreeLine (line : List LineAct) : Type 0 where
  driver_free : StopsNothing (wire (driver_past line))
  modem_free : StopsNothing (modem_past line)

driver_before : (a : driver.Act) (past : List driver.Act) → StopsNothing (wire (a ∷ past)) → StopsNothing (wire past)
driver_before (driver.Sent f) past h = (or_parts (stops f) (list_any stops (frames_sent (wire past))) h).1
driver_before (driver.Took q) past h = h
driver_before (driver.Got f) past h = h
driver_before (driver.Told o) past h = h
driver_before (driver.Heard k d l) past h = h
driver_before driver.Tick past h = h
driver_before driver.Lost past h = h
driver_before (driver.Held d) past h = h
driver_before (driver.Freed d) past h = h
driver_before driver.Given past h = h

modem_before : (a : Act) (past : List Act) → StopsNothing (a ∷ past) → StopsNothing past
modem_before (Sent f) past h = (or_parts (stops f) (list_any stops (frames_sent past)) h).1
modem_before (Called c) past h = h
modem_before (Got f) past h = h
modem_before Tick past h = h
modem_before Lost past h = h
modem_before Given past h = h

free_before : (x : LineAct) (line : List LineAct) → IsFreeLine (x ∷ line) → IsFreeLine line
free_before (AtDriver a) line h = record { driver_free = driver_before a (driver_past line) h.driver_free; modem_free = h.modem_free }
free_before (AtModem a) line h = record { driver_free = h.driver_free; modem_free = modem_before a (modem_past line) h.modem_free }

none_many : (fs : List Frame) → list_any stops fs ≡ false → many stops fs ≤ 0
none_many [] h = omega arith
none_many (f ∷ fs) h =
    let p = or_parts (stops f) (list_any stops fs) h in
    let x : unit (stops f) ≡ 0 = ap unit p.0 in
    let y = none_many fs p.1 in
    omega (arith, x, y)

second : (a b : Bool) → b ≡ false → (a && b) ≡ false
second true b h = h
second false b h = refl

driver_goes : (stamps : ℕ → Stamp) (f : Frame) (line : List LineAct) → IsFreeLine (AtDriver (driver.Sent f) ∷ line) → is_unstopped (captured stamps line) (caught (stamps (length (captured stamps line))) ToModem f) ≡ false
driver_goes stamps f line h =
    let none = none_many (frames_sent (modem_past line)) h.modem_free in
    let same : many stops (frames_to Initiator (captured stamps line)) ≡ many stops (frames_sent (modem_past line)) = ap (many stops) (shows stamps line).to_driver in
    second (is_data_frame f) (is_stopped Initiator f.dlci (own Initiator (captured stamps line))) (never_stopped_by Initiator f.dlci (own Initiator (captured stamps line)) (own_none Initiator (captured stamps line) (omega (arith, none, same))))

modem_goes : (stamps : ℕ → Stamp) (f : Frame) (line : List LineAct) → IsFreeLine (AtModem (Sent f) ∷ line) → is_unstopped (captured stamps line) (caught (stamps (length (captured stamps line))) FromModem f) ≡ false
modem_goes stamps f line h =
    let none = none_many (frames_sent (wire (driver_past line))) h.driver_free in
    let same : many stops (frames_to Responder (captured stamps line)) ≡ many stops (frames_sent (wire (driver_past line))) = ap (many stops) (shows stamps line).to_modem in
    second (is_data_frame f) (is_stopped Responder f.dlci (own Responder (captured stamps line))) (never_stopped_by Responder f.dlci (own Responder (captured stamps line)) (own_none Responder (captured stamps line) (omega (arith, none, same))))

-- on a lawful line on which neither end stops any connection, no data is sent on a stopped one
pub never_stopped : (s : Setting) (n1 : ℕ) (line : List LineAct) → NeverStopped s n1 line
unfolding NeverStopped
never_stopped s n1 line h by_driver by_modem stamps most =
    every IsFreeLine free_before Unstopped most stamps (λ f line k. driver_goes stamps f line k) (λ f line k. modem_goes stamps f line k) line (record { driver_free = by_driver; modem_free = by_modem })
