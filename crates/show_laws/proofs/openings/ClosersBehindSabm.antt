-- An end closes a connection only behind the SABM on it, and one that is open or asked for, and was asked for once, wasn't closed before.
use Rattle.std.specs.Prelude.{◌≡◌, ℕ, ◌+◌, ◌*◌, ◌==◌, ◌≤◌, ◌&&◌, ◌||◌, not, nat_le, Bool, true, false, List, [], ◌∷◌, ◌++◌, drop, length, Option, Some, None, refl, is_none, if◌then◌else◌}
use Rattle.std.proofs.Common.{ap, arith, sym, ◌∙◌, subst, eqb-true}
use Rattle.std.proofs.lemmas.Bool.{and_parts, or_left, or_parts, or_right}
use Rattle.mux_frame.specs.Frames.{Frame}
use Rattle.mux_frame.specs.declared.frame.Kind.{Kind}
use Rattle.mux_frame.specs.declared.frame.Kind.TheVariants.{Sabm, Ua, Dm, Disc, Uih}
use Rattle.mux_station.specs.declared.role.Role.TheVariants.{Initiator, Responder}
use Rattle.mux_station.specs.Acts as station
use Rattle.mux_station.specs.Messages.{brings_command, cld, message_of, msc, octet_is, test}
use Rattle.mux_station.specs.Opening.{ends, is_mode_frame_on, is_open, opens_now}
use Rattle.mux_station.proofs.states.OpeningSteps.{is_open_after}
use Rattle.mux_station.specs.States.{ends_itself, is_opened}
use Rattle.mux_station.specs.Tables.{held_up, message_frame, msc_frame, ready}
use Rattle.mux_station.specs.Written.{is_data_frame, is_kind, is_on, written}
use Rattle.modem_desk.specs.declared.request.Ask.{Ask}
use Rattle.modem_desk.specs.declared.request.Ask.TheVariants.{OpenChannel, CloseChannel, Command, Probe, Stop}
use Rattle.modem_desk.specs.declared.request.Answer.{Answer}
use Rattle.modem_desk.specs.declared.request.Answer.TheVariants.{Busy, LineLost}
use Rattle.modem_desk.specs.declared.request.Request.{Request}
use Rattle.modem_history.specs.Acts as driver
use Rattle.modem_history.specs.Acts.{wire}
use Rattle.modem_history.specs.Calls.{HistoryView, Setting, all_have_room, asking, at_once, calls_behind, frames_by, refused_ask, seen_behind}
use Rattle.modem_history.specs.Lawful.{IsNext, Lawful, When, owed, unsent}
use Rattle.modem_history.specs.TwoEnds.{AsksOnce, frames_got, frames_sent}
use Rattle.modem_history.proofs.commands.FramesOnLine.{AsksOne, asked_first, asks_older}
use Rattle.show_laws.specs.Lines.{AtDriver, AtModem, LineAct, driver_past, modem_past}
use Rattle.show_laws.proofs.asks.AnswerShapes.{or_elim}
use Rattle.show_laws.proofs.counts.ManyFrames.{few_if, many, none_one, unit}
use Rattle.show_laws.proofs.counts.BalancedTables.{tick_none}
use Rattle.show_laws.proofs.counts.DriverCounts.{called, dropped, sends, sends_both, unsent_none}
use Rattle.show_laws.proofs.lines.CapturedFrames.{both_ways, came_few}
use Rattle.show_laws.proofs.openings.DiscBehindUa.{disc_behind, discs, once_many}
use Rattle.show_laws.proofs.openings.DriverOpen.{IsOnceLine, none_filtered, once_line_before}
use Rattle.show_laws.proofs.openings.ModemCloses.{closer, data_no_closer, frame_no_cld, not_cld_frame}
use Rattle.show_laws.proofs.openings.OpenBelowZero.{many_or, none_when, open_not_refused}
use Rattle.show_laws.proofs.openings.QuietFrames.{asked_at, open_at, unended, zero_at}
use Rattle.show_laws.proofs.openings.UaBehindSabm.{ua_behind}
use Rattle.show_laws.proofs.stops.SinceOpening.{open_before}
use Rattle.show_laws.proofs.stops.StopsBehindSabm.{older, opened_state, unasked_yet}

-- ## CLD behind the SABM on 0

-- no CLD was sent, and none is owed
record NoneDown (s : Setting) (past : List driver.Act) : Type 0 where
  sent : many (brings_command cld) (frames_sent (wire past)) ≤ 0
  owed_none : sends (brings_command cld) (owed s past) ≤ 0

asked_cld : (s : Setting) (v : HistoryView) (q : Request) (b : Bool) → is_none (at_once s v q) ≡ b → (ask : Ask) → q.ask ≡ ask → is_opened (v.state 0) ≡ false → many (brings_command cld) (if b then asking s.role ask else []) ≤ 0
asked_cld s v q false e ask is shut = omega arith
asked_cld s v q true e (OpenChannel c) is shut = none_one (brings_command cld) (written s.role Sabm c.number []) refl
asked_cld s v q true e (CloseChannel c) is shut = none_one (brings_command cld) (written s.role Disc c.number []) refl
asked_cld s v q true e (Command c line) is shut = omega arith
asked_cld s v q true e (Probe octets) is shut = none_one (brings_command cld) (message_frame s.role test octets) (not_cld_frame s.role test octets refl)
asked_cld s v q true e Stop is shut =
    let rest : Option Answer = if not (all_have_room s v (asking s.role Stop)) then Some Busy else None in
    let none : is_none (if v.lost then Some LineLost else (if nat_le 128 (length v.hand) then Some Busy else refused_ask s v Stop)) ≡ true =
    sym (ap (λ (x : Ask). is_none (if v.lost then Some LineLost else (if nat_le 128 (length v.hand) then Some Busy else refused_ask s v x))) is) ∙ e in
    let passed = open_not_refused v.lost (nat_le 128 (length v.hand)) (not (is_opened (v.state 0))) rest none in
    let t : true ≡ false = sym (ap not shut) ∙ passed in cc

more_none : (s : Setting) (past : List driver.Act) (a : driver.Act) → many (brings_command cld) (frames_by s (seen_behind s past (owed s past)) a) ≤ 0 → sends (brings_command cld) (owed s past) ≤ 0
    → sends (brings_command cld) (owed s past ++ calls_behind s past (owed s past) a) ≤ 0
more_none s past a none before =
    let parts = sends_both (brings_command cld) (owed s past) (calls_behind s past (owed s past) a) in
    let few = called (brings_command cld) 0 s (seen_behind s past (owed s past)) a none in
    omega (arith, parts, few, before)

sent_down : (s : Setting) (past : List driver.Act) (f : Frame) (b : Bool) → is_data_frame f ≡ b → When (not b) (IsNext (owed s past) (driver.Sent f)) → NoneDown s past → NoneDown s (driver.Sent f ∷ past)
sent_down s past f true is n h =
    let quiet : unit (brings_command cld f) ≡ 0 = ap unit (or_parts (is_on Disc 0 f) (brings_command cld f) (data_no_closer 0 f is)).1 in
    let same : sends (brings_command cld) (owed s (driver.Sent f ∷ past)) ≡ sends (brings_command cld) (owed s past) = ap (λ (b : Bool). sends (brings_command cld) (if b then owed s past else drop 1 (owed s past))) is in
    let x = h.sent in
    let y = h.owed_none in
    record { sent = omega (arith, quiet, x); owed_none = omega (arith, same, y) }
sent_down s past f false is n h =
    let same : sends (brings_command cld) (owed s (driver.Sent f ∷ past)) ≡ sends (brings_command cld) (drop 1 (owed s past)) = ap (λ (b : Bool). sends (brings_command cld) (if b then owed s past else drop 1 (owed s past))) is in
    let first : sends (brings_command cld) (owed s past) ≡ unit (brings_command cld f) + sends (brings_command cld) n.later = ap (sends (brings_command cld)) n.is_next in
    let rest : sends (brings_command cld) (drop 1 (owed s past)) ≡ sends (brings_command cld) n.later = ap (λ (xs : List driver.Act). sends (brings_command cld) (drop 1 xs)) n.is_next in
    let x = h.sent in
    let y = h.owed_none in
    record { sent = omega (arith, first, x, y); owed_none = omega (arith, same, first, rest, y) }

few_sabms : (a : driver.Act) (past : List driver.Act) → many (is_on Sabm 0) (frames_sent (wire (a ∷ past))) ≤ 0 → many (is_on Sabm 0) (frames_sent (wire past)) ≤ 0
few_sabms (driver.Sent f) past h = omega (arith, h)
few_sabms (driver.Took q) past h = h
few_sabms (driver.Got f) past h = h
few_sabms (driver.Told o) past h = h
few_sabms (driver.Heard u e line) past h = h
few_sabms driver.Tick past h = h
few_sabms driver.Lost past h = h
few_sabms (driver.Held e) past h = h
few_sabms (driver.Freed e) past h = h
few_sabms driver.Given past h = h

none_down_yet : (s : Setting) (past : List driver.Act) → s.role ≡ Initiator → Lawful s past → many (is_on Sabm 0) (frames_sent (wire past)) ≤ 0 → NoneDown s past
unfolding Lawful
none_down_yet s [] is l none = record { sent = omega arith; owed_none = omega arith }
none_down_yet s (driver.Sent f ∷ past) is l none = sent_down s past f (is_data_frame f) refl l.0.controlled (none_down_yet s past is l.1 (few_sabms (driver.Sent f) past none))
none_down_yet s (driver.Told o ∷ past) is l none =
    let h = none_down_yet s past is l.1 none in
    let x = dropped (brings_command cld) (owed s past) in
    let y = h.owed_none in
    record { sent = h.sent; owed_none = omega (arith, x, y) }
none_down_yet s (driver.Heard u e line ∷ past) is l none =
    let h = none_down_yet s past is l.1 none in
    let x = dropped (brings_command cld) (owed s past) in
    let y = h.owed_none in
    record { sent = h.sent; owed_none = omega (arith, x, y) }
none_down_yet s (driver.Given ∷ past) is l none = let h = none_down_yet s past is l.1 none in record { sent = h.sent; owed_none = h.owed_none }
none_down_yet s (driver.Lost ∷ past) is l none =
    let h = none_down_yet s past is l.1 none in
    let parts = sends_both (brings_command cld) (unsent (owed s past)) (calls_behind s past (owed s past) driver.Lost) in
    let x = unsent_none (brings_command cld) (owed s past) in
    let y = called (brings_command cld) 0 s (seen_behind s past (owed s past)) driver.Lost (omega arith) in
    record { sent = h.sent; owed_none = omega (arith, parts, x, y) }
none_down_yet s (driver.Took q ∷ past) is l none =
    let h = none_down_yet s past is l.1 none in
    let v = seen_behind s past (owed s past) in
    record { sent = h.sent; owed_none = more_none s past (driver.Took q) (asked_cld s v q (is_none (at_once s v q)) refl q.ask refl (opened_state s 0 past is (unasked_yet s 0 past is l.1 none).shut)) h.owed_none }
none_down_yet s (driver.Got f ∷ past) is l none =
    let h = none_down_yet s past is l.1 none in
    record { sent = h.sent; owed_none = more_none s past (driver.Got f) (frame_no_cld s.role (seen_behind s past (owed s past)).state f) h.owed_none }
none_down_yet s (driver.Tick ∷ past) is l none =
    let h = none_down_yet s past is l.1 none in
    let v = seen_behind s past (owed s past) in
    record { sent = h.sent; owed_none = more_none s past driver.Tick (tick_none s.role (brings_command cld) (λ x. refl) (λ x. refl) s.n1 v.state v.queued 0 62) h.owed_none }
none_down_yet s (driver.Held e ∷ past) is l none =
    let h = none_down_yet s past is l.1 none in
    let v = seen_behind s past (owed s past) in
    record {
      sent = h.sent;
      owed_none = more_none s past (driver.Held e) (few_if (brings_command cld) 0 (is_opened (v.state e)) (msc_frame s.role e held_up ∷ []) [] (none_one (brings_command cld) (msc_frame s.role e held_up) (not_cld_frame s.role msc ((4 * e + 3) ∷ held_up ∷ []) refl)) (omega arith)) h.owed_none;
    }
none_down_yet s (driver.Freed e ∷ past) is l none =
    let h = none_down_yet s past is l.1 none in
    let v = seen_behind s past (owed s past) in
    record {
      sent = h.sent;
      owed_none = more_none s past (driver.Freed e) (few_if (brings_command cld) 0 (is_opened (v.state e)) (msc_frame s.role e ready ∷ []) [] (none_one (brings_command cld) (msc_frame s.role e ready) (not_cld_frame s.role msc ((4 * e + 3) ∷ ready ∷ []) refl)) (omega arith)) h.owed_none;
    }

-- ## Closers behind their SABM

flagged : (b : Bool) (fs : List Frame) → (b ≡ true → many (brings_command cld) fs ≤ 0) → many (λ f. b && brings_command cld f) fs ≤ 0
flagged true [] h = omega arith
flagged true (f ∷ fs) h = let k = h refl in let r = flagged true fs (λ e. omega (arith, k)) in omega (arith, k, r)
flagged false [] h = omega arith
flagged false (f ∷ fs) h = let r = flagged false fs (λ e. let t : false ≡ true = e in cc) in omega (arith, r)

closers_by : (e : ℕ) (fs : List Frame) → many (discs e) fs ≤ 0 → ((e == 0) ≡ true → many (brings_command cld) fs ≤ 0) → many (closer e) fs ≤ 0
closers_by e fs disc down =
    let a = many_or (is_on Disc e) (λ f. (e == 0) && brings_command cld f) fs in
    let b = flagged (e == 0) fs down in
    omega (arith, a, b, disc)

sabm_at : (e : ℕ) (fs : List Frame) → (e == 0) ≡ true → many (is_on Sabm e) fs ≤ 0 → many (is_on Sabm 0) fs ≤ 0
sabm_at e fs zero_is h = subst (λ n. many (is_on Sabm n) fs ≤ 0) (eqb-true e 0 zero_is) h

-- the driver closes nothing before it asked for it
pub unclosed_yet : (s : Setting) (n1 e : ℕ) (line : List LineAct) → IsOnceLine s n1 line → many (is_on Sabm e) (frames_sent (wire (driver_past line))) ≤ 0 → many (closer e) (frames_sent (wire (driver_past line))) ≤ 0
unclosed_yet s n1 e line h none =
    let p = wire (driver_past line) in
    let both = both_ways line h.lawful.one_line in
    let asked = came_few (is_on Sabm e) p (modem_past line) both.at_modem in
    let uas = ua_behind n1 e (modem_past line) h.lawful.modem_lawful (omega (arith, none, asked)) in
    let came = came_few (is_on Ua e) (modem_past line) p both.at_driver in
    closers_by e (frames_sent p)
    (none_when (many (discs e) (frames_sent p)) (λ some. let x = disc_behind s e (driver_past line) h.lawful.is_initiator h.lawful.driver_lawful h.once some in omega (arith, x, came, uas)))
    (λ zero_is. (none_down_yet s (driver_past line) h.lawful.is_initiator h.lawful.driver_lawful (sabm_at e (frames_sent p) zero_is none)).sent)

-- nor has any come to the modem before its SABM
uncame_yet : (s : Setting) (n1 e : ℕ) (line : List LineAct) → IsOnceLine s n1 line → many (is_on Sabm e) (frames_got (modem_past line)) ≤ 0 → many (closer e) (frames_got (modem_past line)) ≤ 0
uncame_yet s n1 e line h none =
    let p = wire (driver_past line) in
    let got = frames_got (modem_past line) in
    let both = both_ways line h.lawful.one_line in
    let there = both.at_modem in
    let o = older s (driver_past line) there.later got h.lawful.driver_lawful there.sent_are in
    let once : AsksOnce (wire o.past) = λ d. subst (λ (fs : List Frame). AsksOne d fs) (sym o.sent_are) (asks_older d there.later got (subst (λ (fs : List Frame). AsksOne d fs) there.sent_are (h.once d))) in
    let uas = ua_behind n1 e (modem_past line) h.lawful.modem_lawful none in
    let came = came_few (is_on Ua e) (modem_past line) p both.at_driver in
    let fewer = o.got_few (is_on Ua e) in
    let same : many (discs e) (frames_sent (wire o.past)) ≡ many (discs e) got = ap (many (discs e)) o.sent_are in
    let same_cld : many (brings_command cld) (frames_sent (wire o.past)) ≡ many (brings_command cld) got = ap (many (brings_command cld)) o.sent_are in
    closers_by e got
    (none_when (many (discs e) got) (λ some. let x = disc_behind s e o.past h.lawful.is_initiator o.lawful once (omega (arith, some, same)) in omega (arith, x, fewer, came, uas)))
    (λ zero_is.
    let x = (none_down_yet s o.past h.lawful.is_initiator o.lawful (subst (λ (fs : List Frame). many (is_on Sabm 0) fs ≤ 0) (sym o.sent_are) (sabm_at e got zero_is none))).sent in
    omega (arith, x, same_cld))

-- ## What is open or asked for wasn't closed

sabm_closes_none : (k : Kind) (x y z c : Bool) → (is_kind k Sabm && x) ≡ true → ((is_kind k Disc && x) || (z && ((is_kind k Uih && y) && c))) ≡ false
sabm_closes_none Sabm x y true c h = refl
sabm_closes_none Sabm x y false c h = refl
sabm_closes_none Ua x y z c h = cc
sabm_closes_none Dm x y z c h = cc
sabm_closes_none Disc x y z c h = cc
sabm_closes_none Uih x y z c h = cc

sabm_is_none : (e : ℕ) (f : Frame) → is_on Sabm e f ≡ true → closer e f ≡ false
sabm_is_none e f h = sabm_closes_none f.kind (f.dlci == e) (f.dlci == 0) (e == 0) (octet_is (λ n. n) cld (message_of f.info)) h

-- what doesn't end e where it is sent doesn't close it
sent_unended : (z : Bool) (e : ℕ) (f : Frame) → ends z e (station.Sent f) ≡ false → closer e f ≡ false
sent_unended z e f h =
    let p = or_parts (is_on Disc e f) (brings_command cld f) (or_parts (is_on Disc e f || brings_command cld f) (not (e == 0) && ends_itself z 0 (station.Sent f)) h).0 in
    both (is_on Disc e f) (e == 0) (brings_command cld f) p.0 p.1
  where
    both : (a z c : Bool) → a ≡ false → c ≡ false → (a || (z && c)) ≡ false
    both true z c g k = cc
    both false true c g k = k
    both false false c g k = refl

-- what is open or asked for at the driver it hasn't closed
pub driver_unclosed : (s : Setting) (n1 e : ℕ) (line : List LineAct) → IsOnceLine s n1 line → (open_at e (wire (driver_past line)) || asked_at e (wire (driver_past line))) ≡ true → many (closer e) (frames_sent (wire (driver_past line))) ≤ 0
driver_unclosed s n1 e [] h w = omega arith
driver_unclosed s n1 e (AtModem a ∷ line) h w = driver_unclosed s n1 e line (once_line_before s n1 (AtModem a) line h) w
driver_unclosed s n1 e (AtDriver (driver.Sent f) ∷ line) h w =
    let p = wire (driver_past line) in
    let k = once_line_before s n1 (AtDriver (driver.Sent f)) line h in
    or_elim (open_at e (station.Sent f ∷ p)) (asked_at e (station.Sent f ∷ p)) w
    (λ o.
    let q = unended (open_at e p) (ends (zero_at e p) e (station.Sent f)) (sym (is_open_after Initiator e p (station.Sent f)) ∙ o) in
    let x = driver_unclosed s n1 e line k (or_left (open_at e p) (asked_at e p) q.0) in
    let u : unit (closer e f) ≡ 0 = ap unit (sent_unended (zero_at e p) e f q.1) in
    omega (arith, x, u))
    (λ a.
    or_elim (is_on Sabm e f) (asked_at e p && not (is_mode_frame_on e f || ends (zero_at e p) e (station.Sent f))) a
    (λ sabm.
    let first = none_filtered (is_on Sabm e) (frames_sent p) (asked_first e f (frames_sent p) (h.once e) sabm) in
    let x = unclosed_yet s n1 e line k first in
    let u : unit (closer e f) ≡ 0 = ap unit (sabm_is_none e f sabm) in
    omega (arith, x, u))
    (λ still.
    let q = unended (asked_at e p) (is_mode_frame_on e f || ends (zero_at e p) e (station.Sent f)) still in
    let x = driver_unclosed s n1 e line k (or_right (open_at e p) (asked_at e p) q.0) in
    let u : unit (closer e f) ≡ 0 = ap unit (sent_unended (zero_at e p) e f (or_parts (is_mode_frame_on e f) (ends (zero_at e p) e (station.Sent f)) q.1).1) in
    omega (arith, x, u)))
driver_unclosed s n1 e (AtDriver (driver.Got f) ∷ line) h w =
    let p = wire (driver_past line) in
    driver_unclosed s n1 e line (once_line_before s n1 (AtDriver (driver.Got f)) line h)
    (or_elim (open_at e (station.Got f ∷ p)) (asked_at e (station.Got f ∷ p)) w
    (λ o.
    or_elim (is_on Ua e f && asked_at e p) (open_at e p && not (ends (zero_at e p) e (station.Got f))) (sym (is_open_after Initiator e p (station.Got f)) ∙ o) (λ u. or_right (open_at e p) (asked_at e p) (and_parts (is_on Ua e f) (asked_at e p) u).1)
    (λ b. or_left (open_at e p) (asked_at e p) (and_parts (open_at e p) (not (ends (zero_at e p) e (station.Got f))) b).0))
    (λ a. or_right (open_at e p) (asked_at e p) (and_parts (asked_at e p) (not (is_mode_frame_on e f || ends (zero_at e p) e (station.Got f))) a).0))
driver_unclosed s n1 e (AtDriver driver.Tick ∷ line) h w =
    let p = wire (driver_past line) in
    driver_unclosed s n1 e line (once_line_before s n1 (AtDriver driver.Tick) line h) (either (open_at e p) (asked_at e p) (not (ends (zero_at e p) e station.Tick)) (sym (ap (λ (b : Bool). b || asked_at e (station.Tick ∷ p)) (is_open_after Initiator e p station.Tick)) ∙ w))
  where
    either : (a b c : Bool) → ((a && c) || (b && c)) ≡ true → (a || b) ≡ true
    either true b c w = refl
    either false true c w = refl
    either false false c w = w
driver_unclosed s n1 e (AtDriver driver.Lost ∷ line) h w =
    let p = wire (driver_past line) in
    driver_unclosed s n1 e line (once_line_before s n1 (AtDriver driver.Lost) line h) (either (open_at e p) (asked_at e p) (not (ends (zero_at e p) e station.Lost)) (sym (ap (λ (b : Bool). b || asked_at e (station.Lost ∷ p)) (is_open_after Initiator e p station.Lost)) ∙ w))
  where
    either : (a b c : Bool) → ((a && c) || (b && c)) ≡ true → (a || b) ≡ true
    either true b c w = refl
    either false true c w = refl
    either false false c w = w
driver_unclosed s n1 e (AtDriver driver.Given ∷ line) h w =
    let p = wire (driver_past line) in
    driver_unclosed s n1 e line (once_line_before s n1 (AtDriver driver.Given) line h) (either (open_at e p) (asked_at e p) (not (ends (zero_at e p) e station.Given)) (sym (ap (λ (b : Bool). b || asked_at e (station.Given ∷ p)) (is_open_after Initiator e p station.Given)) ∙ w))
  where
    either : (a b c : Bool) → ((a && c) || (b && c)) ≡ true → (a || b) ≡ true
    either true b c w = refl
    either false true c w = refl
    either false false c w = w
driver_unclosed s n1 e (AtDriver (driver.Took q) ∷ line) h w = driver_unclosed s n1 e line (once_line_before s n1 (AtDriver (driver.Took q)) line h) w
driver_unclosed s n1 e (AtDriver (driver.Told o) ∷ line) h w = driver_unclosed s n1 e line (once_line_before s n1 (AtDriver (driver.Told o)) line h) w
driver_unclosed s n1 e (AtDriver (driver.Heard u d l) ∷ line) h w = driver_unclosed s n1 e line (once_line_before s n1 (AtDriver (driver.Heard u d l)) line h) w
driver_unclosed s n1 e (AtDriver (driver.Held d) ∷ line) h w = driver_unclosed s n1 e line (once_line_before s n1 (AtDriver (driver.Held d)) line h) w
driver_unclosed s n1 e (AtDriver (driver.Freed d) ∷ line) h w = driver_unclosed s n1 e line (once_line_before s n1 (AtDriver (driver.Freed d)) line h) w

-- what doesn't end e where it comes doesn't close it, while e is open
got_unended : (e : ℕ) (past : List station.Act) (f : Frame) → is_open Responder e past ≡ true → ends (is_open Responder 0 past) e (station.Got f) ≡ false → closer e f ≡ false
got_unended e past f o h =
    let z = is_open Responder 0 past in
    let own = (or_parts (ends_itself z e (station.Got f)) (not (e == 0) && ends_itself z 0 (station.Got f)) h).0 in
    let a = or_parts (is_on Disc e f) (is_on Dm e f || (is_on Sabm e f || (z && brings_command cld f))) own in
    let b = or_parts (is_on Dm e f) (is_on Sabm e f || (z && brings_command cld f)) a.1 in
    let c = or_parts (is_on Sabm e f) (z && brings_command cld f) b.1 in
    both (is_on Disc e f) (e == 0) z (brings_command cld f) a.0 c.1 (λ zero_is. sym (ap (λ n. is_open Responder n past) (eqb-true e 0 zero_is)) ∙ o)
  where
    both : (a x z c : Bool) → a ≡ false → (z && c) ≡ false → (x ≡ true → z ≡ true) → (a || (x && c)) ≡ false
    both true x z c g k m = cc
    both false false z c g k m = refl
    both false true true c g k m = k
    both false true false c g k m = let t : false ≡ true = m refl in cc

-- what is open at the modem no frame has closed that came there
pub modem_unclosed : (s : Setting) (n1 e : ℕ) (line : List LineAct) → IsOnceLine s n1 line → is_open Responder e (modem_past line) ≡ true → many (closer e) (frames_got (modem_past line)) ≤ 0
modem_unclosed s n1 e [] h o = omega arith
modem_unclosed s n1 e (AtDriver a ∷ line) h o = modem_unclosed s n1 e line (once_line_before s n1 (AtDriver a) line h) o
modem_unclosed s n1 e (AtModem (station.Got f) ∷ line) h o = by_opens (opens_now Responder e (modem_past line) (station.Got f)) refl (λ k. modem_unclosed s n1 e line (once_line_before s n1 (AtModem (station.Got f)) line h) k)
  where
    by_opens : (b : Bool) → opens_now Responder e (modem_past line) (station.Got f) ≡ b → (is_open Responder e (modem_past line) ≡ true → many (closer e) (frames_got (modem_past line)) ≤ 0) → unit (closer e f) + many (closer e) (frames_got (modem_past line)) ≤ 0
    by_opens true k rest =
        let sabm = (and_parts (is_on Sabm e f) ((e == 0) || is_open Responder 0 (modem_past line)) k).0 in
        let now = came_few (is_on Sabm e) (wire (driver_past line)) (station.Got f ∷ modem_past line) (both_ways (AtModem (station.Got f) ∷ line) h.lawful.one_line).at_modem in
        let once = once_many (is_on Sabm e) (frames_sent (wire (driver_past line))) in
        let one = h.once e in
        let this : unit (is_on Sabm e f) ≡ 1 = ap unit sabm in
        let x = uncame_yet s n1 e line (once_line_before s n1 (AtModem (station.Got f)) line h) (omega (arith, now, once, one, this)) in
        let u : unit (closer e f) ≡ 0 = ap unit (sabm_is_none e f sabm) in
        omega (arith, x, u)
    by_opens false k rest =
        let before = open_before Responder e (modem_past line) (station.Got f) k o in
        let x = rest before in
        let u : unit (closer e f) ≡ 0 = ap unit (got_unended e (modem_past line) f before (still (opens_now Responder e (modem_past line) (station.Got f)) (is_open Responder e (modem_past line)) (ends (is_open Responder 0 (modem_past line)) e (station.Got f)) k (sym (is_open_after Responder e (modem_past line) (station.Got f)) ∙ o))) in
        omega (arith, x, u)
      where
        still : (o i e : Bool) → o ≡ false → (o || (i && not e)) ≡ true → e ≡ false
        still true i e g h = cc
        still false true false g h = refl
        still false true true g h = cc
        still false false e g h = cc
modem_unclosed s n1 e (AtModem (station.Sent f) ∷ line) h o = modem_unclosed s n1 e line (once_line_before s n1 (AtModem (station.Sent f)) line h) (open_before Responder e (modem_past line) (station.Sent f) refl o)
modem_unclosed s n1 e (AtModem (station.Called c) ∷ line) h o = modem_unclosed s n1 e line (once_line_before s n1 (AtModem (station.Called c)) line h) (open_before Responder e (modem_past line) (station.Called c) refl o)
modem_unclosed s n1 e (AtModem station.Tick ∷ line) h o = modem_unclosed s n1 e line (once_line_before s n1 (AtModem station.Tick) line h) (open_before Responder e (modem_past line) station.Tick refl o)
modem_unclosed s n1 e (AtModem station.Lost ∷ line) h o = modem_unclosed s n1 e line (once_line_before s n1 (AtModem station.Lost) line h) (open_before Responder e (modem_past line) station.Lost refl o)
modem_unclosed s n1 e (AtModem station.Given ∷ line) h o = modem_unclosed s n1 e line (once_line_before s n1 (AtModem station.Given) line h) (open_before Responder e (modem_past line) station.Given refl o)
