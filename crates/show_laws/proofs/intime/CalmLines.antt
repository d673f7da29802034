-- On a calm line no SABM, DM or DISC comes on 0 to the driver, and no UA, DM or DISC to the modem.
use Rattle.std.specs.Prelude.{◌≡◌, ℕ, ◌==◌, ◌≤◌, ◌&&◌, ◌||◌, not, Bool, true, false, List, [], ◌∷◌, refl, if◌then◌else◌}
use Rattle.std.specs.List.{list_any}
use Rattle.std.proofs.Common.{arith}
use Rattle.std.proofs.lemmas.Bool.{and_parts, or_parts}
use Rattle.mux_frame.specs.Frames.{Frame}
use Rattle.mux_frame.specs.declared.frame.Kind.{Kind}
use Rattle.mux_frame.specs.declared.frame.Kind.TheVariants.{Sabm, Ua, Dm, Disc, Uih}
use Rattle.mux_station.specs.declared.role.Role.{Role}
use Rattle.mux_station.specs.declared.role.Role.TheVariants.{Initiator, Responder}
use Rattle.mux_station.specs.Acts as station
use Rattle.mux_station.specs.Sending.{is_loss}
use Rattle.mux_station.specs.States.{State, is_opened}
use Rattle.mux_station.specs.Tables.{by_frame, by_message, by_table, msc_after_opening, msc_frame, ready, ua_or_dm}
use Rattle.mux_station.specs.Written.{is_kind, is_on}
use Rattle.modem_history.specs.Acts as driver
use Rattle.modem_history.specs.Acts.{wire}
use Rattle.modem_history.specs.Calls as calls
use Rattle.modem_history.specs.Calls.{Setting, is_lost}
use Rattle.modem_history.specs.TwoEnds.{frames_got, frames_sent}
use Rattle.show_laws.specs.InTime.{ClosesByDown, IsCalmLine, IsPrompt, KeepsStops}
use Rattle.show_laws.specs.Lines.{AtDriver, AtModem, LineAct, driver_past, modem_past, responding}
use Rattle.show_laws.proofs.asks.AnswersCalled.{AnyProbe}
use Rattle.show_laws.proofs.asks.NoneUnasked.{any_probes}
use Rattle.show_laws.proofs.counts.BalancedTables.{Balanced}
use Rattle.show_laws.proofs.counts.DriverCounts.{driver_sends}
use Rattle.show_laws.proofs.counts.ManyFrames.{few_if, many, many_fewer, none_many, none_one, unit}
use Rattle.show_laws.proofs.counts.StationCounts.{station_sends}
use Rattle.show_laws.proofs.lines.CapturedFrames.{both_ways, came_few}
use Rattle.show_laws.proofs.lines.EveryFrame.{lawful_before}
use Rattle.show_laws.proofs.openings.DriverOpen.{IsOnceLine, once_before}
use Rattle.show_laws.proofs.openings.ModeAnswers.{OfModes, messaged, modes_balanced}
use Rattle.show_laws.proofs.openings.ModemAnswers.{answer_on, ask_on}
use Rattle.show_laws.proofs.openings.ModemOpen.{asks_parts}
use Rattle.show_laws.proofs.openings.ResponderCalls.{answer_balanced}
use Rattle.show_laws.proofs.openings.UaBehindSabm.{none_of}
use Rattle.show_laws.proofs.talks.EndedLines.{no_sabms, opens_before}

-- ## Each point

wire_down : (a : driver.Act) (past : List driver.Act) → ClosesByDown (wire (a ∷ past)) → ClosesByDown (wire past)
wire_down (driver.Sent f) past h = (or_parts (is_on Disc 0 f) (list_any (is_on Disc 0) (frames_sent (wire past))) h).1
wire_down (driver.Took q) past h = h
wire_down (driver.Got f) past h = h
wire_down (driver.Told o) past h = h
wire_down (driver.Heard u e l) past h = h
wire_down driver.Tick past h = h
wire_down driver.Lost past h = h
wire_down (driver.Held e) past h = h
wire_down (driver.Freed e) past h = h
wire_down driver.Given past h = h

wire_keeps : (a : driver.Act) (past : List driver.Act) → KeepsStops Initiator (wire (a ∷ past)) → KeepsStops Initiator (wire past)
wire_keeps (driver.Sent f) past h = h
wire_keeps (driver.Took q) past h = h
wire_keeps (driver.Got f) past h = h
wire_keeps (driver.Told o) past h = h
wire_keeps (driver.Heard u e l) past h = h
wire_keeps driver.Tick past h = h.1
wire_keeps driver.Lost past h = h
wire_keeps (driver.Held e) past h = h
wire_keeps (driver.Freed e) past h = h
wire_keeps driver.Given past h = h

down_before : (a : station.Act) (past : List station.Act) → ClosesByDown (a ∷ past) → ClosesByDown past
down_before (station.Sent f) past h = (or_parts (is_on Disc 0 f) (list_any (is_on Disc 0) (frames_sent past)) h).1
down_before (station.Got f) past h = h
down_before (station.Called c) past h = h
down_before station.Tick past h = h
down_before station.Lost past h = h
down_before station.Given past h = h

keeps_before : (r : Role) (a : station.Act) (past : List station.Act) → KeepsStops r (a ∷ past) → KeepsStops r past
keeps_before r (station.Sent f) past h = h
keeps_before r (station.Got f) past h = h
keeps_before r (station.Called c) past h = h
keeps_before r station.Tick past h = h.1
keeps_before r station.Lost past h = h
keeps_before r station.Given past h = h

prompt_before : (n1 : ℕ) (a : station.Act) (past : List station.Act) → IsPrompt (responding n1) (a ∷ past) → IsPrompt (responding n1) past
prompt_before n1 (station.Sent f) past h = h
prompt_before n1 station.Given past h = h
prompt_before n1 (station.Called c) past h = h.1
prompt_before n1 (station.Got f) past h = h.1
prompt_before n1 station.Tick past h = h.1
prompt_before n1 station.Lost past h = h.1

-- a calm line is calm before its newest act
pub calm_before : (s : Setting) (n1 : ℕ) (x : LineAct) (line : List LineAct) → IsCalmLine s n1 (x ∷ line) → IsCalmLine s n1 line
calm_before s n1 (AtDriver a) line h = record {
  lawful = lawful_before s n1 (AtDriver a) line h.lawful;
  once = once_before a (driver_past line) h.once;
  opens_none = h.opens_none;
  prompt = h.prompt;
  driver_down = wire_down a (driver_past line) h.driver_down;
  modem_down = h.modem_down;
  driver_keeps = wire_keeps a (driver_past line) h.driver_keeps;
  modem_keeps = h.modem_keeps;
  driver_live = (or_parts (calls.is_loss a) (is_lost (driver_past line)) h.driver_live).1;
  modem_live = h.modem_live;
}
calm_before s n1 (AtModem a) line h = record {
  lawful = lawful_before s n1 (AtModem a) line h.lawful;
  once = h.once;
  opens_none = opens_before a (modem_past line) h.opens_none;
  prompt = prompt_before n1 a (modem_past line) h.prompt;
  driver_down = h.driver_down;
  modem_down = down_before a (modem_past line) h.modem_down;
  driver_keeps = h.driver_keeps;
  modem_keeps = keeps_before Responder a (modem_past line) h.modem_keeps;
  driver_live = h.driver_live;
  modem_live = (or_parts (is_loss a) (list_any is_loss (modem_past line)) h.modem_live).1;
}

-- on a calm line the driver asks for each connection once at most
pub calm_once : (s : Setting) (n1 : ℕ) (line : List LineAct) → IsCalmLine s n1 line → IsOnceLine s n1 line
calm_once s n1 line h = record { lawful = h.lawful; once = h.once }

-- ## What isn't sent

-- a responder answers a SABM on 0 by UA
dm_modes : OfModes (is_on Dm 0) (λ n. n == 0)
dm_modes = record { uih = λ r e info. refl; answer = λ r e b. either r e b }
  where
    either : (r : Role) (e : ℕ) (b : Bool) → unit (is_on Dm 0 (ua_or_dm r e b)) ≤ unit (e == 0)
    either r e true = omega arith
    either r e false = omega arith

table_dm : (d : ℕ) (channel own : State) (k : Kind) → many (is_on Dm 0) (by_table Responder d channel own k) ≤ unit (is_kind k Disc && (d == 0))
table_dm d channel own Ua = omega arith
table_dm d channel own Dm = omega arith
table_dm d channel own Uih = omega arith
table_dm d channel own Disc = by_answer (is_opened own)
  where
    by_answer : (b : Bool) → many (is_on Dm 0) (ua_or_dm Responder d b ∷ []) ≤ unit (d == 0)
    by_answer true = omega arith
    by_answer false = omega arith
table_dm d channel own Sabm = by_zero (d == 0) (is_opened channel) refl
  where
    status : (b : Bool) → many (is_on Dm 0) (if b then [] else msc_frame Responder d ready ∷ []) ≤ 0
    status true = omega arith
    status false = omega arith

    by_zero : (z o : Bool) → (d == 0) ≡ z → many (is_on Dm 0) (if z || o then ua_or_dm Responder d true ∷ msc_after_opening Responder d else ua_or_dm Responder d false ∷ []) ≤ 0
    by_zero true o e = let x = status (d == 0) in omega (arith, x)
    by_zero false true e = let x = status (d == 0) in omega (arith, x)
    by_zero false false e = none_one (is_on Dm 0) (ua_or_dm Responder d false) e

dm_by_disc : (most : ℕ) → Balanced AnyProbe most Responder (is_on Dm 0) (is_on Disc 0)
dm_by_disc most =
    let b = modes_balanced most Responder (is_on Dm 0) (λ n. n == 0) dm_modes (λ f is. plain f.kind (f.dlci == 0) (and_parts (is_kind f.kind Uih) (not (f.dlci == 0)) is).0) (λ e. refl) (λ e. refl) in
    record { frame = λ state f. by_frame_dm state f; plain = b.plain; sabm = b.sabm; disc = b.disc; command = b.command; probe = b.probe; short = b.short }
  where
    plain : (k : Kind) (x : Bool) → is_kind k Uih ≡ true → (is_kind k Dm && x) ≡ false
    plain Uih x h = refl
    plain Sabm x h = cc
    plain Ua x h = cc
    plain Dm x h = cc
    plain Disc x h = cc

    by_frame_dm : (state : ℕ → State) (f : Frame) → many (is_on Dm 0) (by_frame Responder state f) ≤ unit (is_on Disc 0 f)
    by_frame_dm state f =
        few_if (is_on Dm 0) (unit (is_on Disc 0 f)) (is_on Uih 0 f) (by_message Responder (state 0) f) (by_table Responder f.dlci (state 0) (state f.dlci) f.kind)
        (let x = messaged (is_on Dm 0) (λ n. n == 0) dm_modes Responder (state 0) f in omega (arith, x)) (table_dm f.dlci (state 0) (state f.dlci) f.kind)

-- what the modem doesn't send on 0
pub record ModemSends (sent : List Frame) : Type 0 where
  pub sabm : many (is_on Sabm 0) sent ≤ 0
  pub disc : many (is_on Disc 0) sent ≤ 0
  pub dm : many (is_on Dm 0) sent ≤ 0

-- on a calm line the modem sends neither SABM nor DISC nor DM on 0
pub modem_sends : (s : Setting) (n1 : ℕ) (line : List LineAct) → IsCalmLine s n1 line → ModemSends (frames_sent (modem_past line))
modem_sends s n1 line h =
    let discs = none_many (is_on Disc 0) (frames_sent (wire (driver_past line))) h.driver_down in
    let came = came_few (is_on Disc 0) (wire (driver_past line)) (modem_past line) (both_ways line h.lawful.one_line).at_modem in
    let dms = station_sends AnyProbe (responding n1) (is_on Dm 0) (is_on Disc 0) (dm_by_disc n1) (modem_past line) h.lawful.modem_lawful in
    record {
      sabm = no_sabms 0 (frames_sent (modem_past line)) h.opens_none;
      disc = none_many (is_on Disc 0) (frames_sent (modem_past line)) h.modem_down;
      dm = omega (arith, discs, came, dms);
    }

-- what the driver doesn't
pub record DriverSends (sent : List Frame) : Type 0 where
  pub disc : many (is_on Disc 0) sent ≤ 0
  pub answers : many (answer_on 0) sent ≤ 0

-- and the driver neither DISC nor UA nor DM on 0
pub driver_quiet : (s : Setting) (n1 : ℕ) (line : List LineAct) → IsCalmLine s n1 line → DriverSends (frames_sent (wire (driver_past line)))
driver_quiet s n1 line h =
    let none = modem_sends s n1 line h in
    let a = none.sabm in
    let b = none.disc in
    let sent = driver_sends AnyProbe s (answer_on 0) (ask_on 0) (answer_balanced s.n1 s.role 0) (driver_past line) h.lawful.driver_lawful (any_probes (driver_past line)) in
    let came = came_few (ask_on 0) (modem_past line) (wire (driver_past line)) (both_ways line h.lawful.one_line).at_driver in
    let parts = asks_parts 0 (frames_sent (modem_past line)) in
    record { disc = none_many (is_on Disc 0) (frames_sent (wire (driver_past line))) h.driver_down; answers = omega (arith, a, b, sent, came, parts) }

-- ## What comes

pub record DriverGets (f : Frame) : Type 0 where
  pub sabm : is_on Sabm 0 f ≡ false
  pub disc : is_on Disc 0 f ≡ false
  pub dm : is_on Dm 0 f ≡ false

-- so no SABM, DISC or DM on 0 comes to the driver
pub driver_gets : (s : Setting) (n1 : ℕ) (f : Frame) (line : List LineAct) → IsCalmLine s n1 (AtDriver (driver.Got f) ∷ line) → DriverGets f
driver_gets s n1 f line h =
    let none = modem_sends s n1 (AtDriver (driver.Got f) ∷ line) h in
    let w = station.Got f ∷ wire (driver_past line) in
    let ways = (both_ways (AtDriver (driver.Got f) ∷ line) h.lawful.one_line).at_driver in
    let a = none.sabm in
    let b = none.disc in
    let c = none.dm in
    let x = came_few (is_on Sabm 0) (modem_past line) w ways in
    let y = came_few (is_on Disc 0) (modem_past line) w ways in
    let z = came_few (is_on Dm 0) (modem_past line) w ways in
    record {
      sabm = none_of (is_on Sabm 0) f (many (is_on Sabm 0) (frames_got (wire (driver_past line)))) (omega (arith, a, x));
      disc = none_of (is_on Disc 0) f (many (is_on Disc 0) (frames_got (wire (driver_past line)))) (omega (arith, b, y));
      dm = none_of (is_on Dm 0) f (many (is_on Dm 0) (frames_got (wire (driver_past line)))) (omega (arith, c, z));
    }

pub record ModemGets (f : Frame) : Type 0 where
  pub disc : is_on Disc 0 f ≡ false
  pub dm : is_on Dm 0 f ≡ false

-- and no DISC or DM on 0 to the modem
pub modem_gets : (s : Setting) (n1 : ℕ) (f : Frame) (line : List LineAct) → IsCalmLine s n1 (AtModem (station.Got f) ∷ line) → ModemGets f
modem_gets s n1 f line h =
    let none = driver_quiet s n1 (AtModem (station.Got f) ∷ line) h in
    let w = station.Got f ∷ modem_past line in
    let ways = (both_ways (AtModem (station.Got f) ∷ line) h.lawful.one_line).at_modem in
    let a = none.disc in
    let b = none.answers in
    let x = came_few (is_on Disc 0) (wire (driver_past line)) w ways in
    let y = came_few (is_on Dm 0) (wire (driver_past line)) w ways in
    let fewer = many_fewer (is_on Dm 0) (answer_on 0) (frames_sent (wire (driver_past line))) (λ g e. passes (is_kind g.kind Ua) (is_kind g.kind Dm) (g.dlci == 0) e) in
    record {
      disc = none_of (is_on Disc 0) f (many (is_on Disc 0) (frames_got (modem_past line))) (omega (arith, a, x));
      dm = none_of (is_on Dm 0) f (many (is_on Dm 0) (frames_got (modem_past line))) (omega (arith, b, y, fewer));
    }
  where
    passes : (u m z : Bool) → (m && z) ≡ true → ((u || m) && z) ≡ true
    passes true true z h = h
    passes true false z h = cc
    passes false m z h = h
