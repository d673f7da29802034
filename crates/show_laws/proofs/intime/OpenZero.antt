-- On a calm line 0 is open at each end from its opening on, until this end sends a CLD or one comes; from its own CLD on the stop is under way.
use Rattle.std.specs.Prelude.{◌≡◌, zero, suc, ℕ, ◌+◌, ◌==◌, ◌≤◌, ◌&&◌, ◌||◌, not, Bool, true, false, List, [], ◌∷◌, refl}
use Rattle.std.proofs.Common.{ap, arith, ◌∙◌}
use Rattle.std.proofs.lemmas.Bool.{or_from, or_left, or_parts, or_right}
use Rattle.mux_frame.specs.Frames.{Frame}
use Rattle.mux_frame.specs.declared.frame.Kind.TheVariants.{Sabm, Ua, Dm, Disc}
use Rattle.mux_station.specs.declared.role.Role.TheVariants.{Initiator, Responder}
use Rattle.mux_station.specs.Acts as station
use Rattle.mux_station.specs.Messages.{brings_command, brings_response, cld}
use Rattle.mux_station.specs.Opening.{ends, is_mode_frame_on, is_open}
use Rattle.mux_station.proofs.states.OpeningSteps.{is_open_after}
use Rattle.mux_station.specs.States.{ends_itself, is_stopping, state_of}
use Rattle.mux_station.specs.Written.{is_kind, is_on}
use Rattle.modem_history.specs.Acts as driver
use Rattle.modem_history.specs.Acts.{wire}
use Rattle.modem_history.specs.Calls.{Setting}
use Rattle.modem_history.specs.TwoEnds.{frames_got, frames_sent}
use Rattle.show_laws.specs.InTime.{IsCalmLine}
use Rattle.show_laws.specs.Lines.{AtDriver, AtModem, LineAct, closes, driver_past, modem_past}
use Rattle.show_laws.proofs.answered.DriverStops.{sabm_before}
use Rattle.show_laws.proofs.counts.ManyFrames.{many, many_fewer, unit}
use Rattle.show_laws.proofs.intime.CalmLines.{calm_before, calm_once, driver_gets, driver_quiet, modem_gets, modem_sends}
use Rattle.show_laws.proofs.intime.StoppingStates.{stop_begins, stop_got, stop_sent, stop_ticks, there}
use Rattle.show_laws.proofs.lines.CapturedFrames.{both_ways, came_few}
use Rattle.show_laws.proofs.openings.DiscBehindUa.{once_many}
use Rattle.show_laws.proofs.openings.ModemAnswers.{answer_on}
use Rattle.show_laws.proofs.openings.ModemCloses.{cld_behind}
use Rattle.show_laws.proofs.openings.QuietFrames.{asked_at, open_at, zero_at}
use Rattle.show_laws.proofs.openings.UaBehindSabm.{none_of, ua_behind}

-- ## Words

some_before : (m n : ℕ) → (m ≤ 0 → n ≤ 0) → 1 ≤ n → 1 ≤ m
some_before zero n h some = let x = h (omega arith) in absurd (omega (arith, x, some))
some_before (suc m) n h some = omega arith

four_off : (a b c d : Bool) → a ≡ false → b ≡ false → c ≡ false → d ≡ false → (a || (b || (c || d))) ≡ false
four_off true b c d e f g h = cc
four_off false true c d e f g h = cc
four_off false false true d e f g h = cc
four_off false false false d e f g h = h

last_off : (x : Bool) → x ≡ false → (x || false) ≡ false
last_off true e = cc
last_off false e = refl

and_off : (z k : Bool) → k ≡ false → (z && k) ≡ false
and_off true k e = e
and_off false k e = refl

-- what a frame that comes doesn't end
got_ends : (z : Bool) (f : Frame) → is_on Sabm 0 f ≡ false → is_on Disc 0 f ≡ false → is_on Dm 0 f ≡ false → brings_command cld f ≡ false → ends z 0 (station.Got f) ≡ false
got_ends z f sabm disc dm down = last_off (ends_itself z 0 (station.Got f)) (four_off (is_on Disc 0 f) (is_on Dm 0 f) (is_on Sabm 0 f) (z && brings_command cld f) disc dm sabm (and_off z (brings_command cld f) down))

sent_ends : (z : Bool) (f : Frame) → is_on Disc 0 f ≡ false → brings_command cld f ≡ false → ends z 0 (station.Sent f) ≡ false
sent_ends z f disc down = last_off (is_on Disc 0 f || brings_command cld f) (or_from (is_on Disc 0 f) (brings_command cld f) disc down)

kept : (x o e : Bool) → o ≡ true → e ≡ false → (x || (o && not e)) ≡ true
kept true o e h g = refl
kept false true false h g = refl
kept false true true h g = cc
kept false false e h g = cc

-- it stays open or asked for
up_kept : (x y o a m e : Bool) → (o || a) ≡ true → m ≡ false → e ≡ false → ((x || (o && not e)) || (y || (a && not (m || e)))) ≡ true
up_kept true y o a m e h g k = refl
up_kept false y true a m false h g k = refl
up_kept false y true a m true h g k = cc
up_kept false true false a m e h g k = refl
up_kept false false false true false false h g k = refl
up_kept false false false true true e h g k = cc
up_kept false false false true false true h g k = cc
up_kept false false false false m e h g k = cc

mode_off : (f : Frame) → is_on Sabm 0 f ≡ false → is_on Ua 0 f ≡ false → is_on Dm 0 f ≡ false → is_on Disc 0 f ≡ false → is_mode_frame_on 0 f ≡ false
mode_off f a b c d = four_off (is_on Sabm 0 f) (is_on Ua 0 f) (is_on Dm 0 f) (is_on Disc 0 f) a b c d

-- ## The driver

-- a UA on 0 comes behind the SABM
pub ua_asked : (s : Setting) (n1 : ℕ) (line : List LineAct) → IsCalmLine s n1 line → 1 ≤ many (is_on Ua 0) (frames_got (wire (driver_past line))) → 1 ≤ many (is_on Sabm 0) (frames_sent (wire (driver_past line)))
ua_asked s n1 line h some =
    let ways = both_ways line h.lawful.one_line in
    let sent = came_few (is_on Ua 0) (modem_past line) (wire (driver_past line)) ways.at_driver in
    let got = came_few (is_on Sabm 0) (wire (driver_past line)) (modem_past line) ways.at_modem in
    let first = some_before (many (is_on Sabm 0) (frames_got (modem_past line))) (many (is_on Ua 0) (frames_sent (modem_past line))) (λ none. ua_behind n1 0 (modem_past line) h.lawful.modem_lawful none) (omega (arith, some, sent)) in
    omega (arith, got, first)

pub record Up (p : List station.Act) : Type 0 where
  pub up : (open_at 0 p || asked_at 0 p) ≡ true
  pub opened : 1 ≤ many (is_on Ua 0) (frames_got p) → open_at 0 p ≡ true

-- an act that ends nothing
still_up : (a : station.Act) (p : List station.Act) → (open_at 0 p ≡ true → open_at 0 (a ∷ p) ≡ true) → ((open_at 0 p || asked_at 0 p) ≡ true → (open_at 0 (a ∷ p) || asked_at 0 (a ∷ p)) ≡ true)
    → many (is_on Ua 0) (frames_got (a ∷ p)) ≡ many (is_on Ua 0) (frames_got p) → Up p → Up (a ∷ p)
still_up a p open_still up_still uas h = record { up = up_still h.up; opened = λ some. open_still (h.opened (omega (arith, some, uas))) }

sabm_sent_up : (s : Setting) (n1 : ℕ) (f : Frame) (line : List LineAct) → IsCalmLine s n1 (AtDriver (driver.Sent f) ∷ line) → is_on Sabm 0 f ≡ true → Up (station.Sent f ∷ wire (driver_past line))
sabm_sent_up s n1 f line h sabm =
    let p = wire (driver_past line) in
    record {
      up = or_right (open_at 0 (station.Sent f ∷ p)) (asked_at 0 (station.Sent f ∷ p)) (or_left (is_on Sabm 0 f) _ sabm);
      opened = λ some.
          let before = ua_asked s n1 line (calm_before s n1 (AtDriver (driver.Sent f)) line h) some in
          let once = h.once 0 in
          let all = once_many (is_on Sabm 0) (f ∷ frames_sent p) in
          let one : unit (is_on Sabm 0 f) ≡ 1 = ap unit sabm in
          absurd (omega (arith, before, once, all, one));
    }

none_sent : (s : Setting) (n1 : ℕ) (f : Frame) (line : List LineAct) → IsCalmLine s n1 (AtDriver (driver.Sent f) ∷ line) → (is_on Disc 0 f ≡ false) × (answer_on 0 f ≡ false)
none_sent s n1 f line h =
    let q = driver_quiet s n1 (AtDriver (driver.Sent f) ∷ line) h in
    (none_of (is_on Disc 0) f (many (is_on Disc 0) (frames_sent (wire (driver_past line)))) q.disc, none_of (answer_on 0) f (many (answer_on 0) (frames_sent (wire (driver_past line)))) q.answers)

no_ua : (u m z : Bool) → ((u || m) && z) ≡ false → ((u && z) ≡ false) × ((m && z) ≡ false)
no_ua true m false h = (refl, and_off m false refl)
no_ua true m true h = cc
no_ua false m z h = (refl, h)

-- once the driver sent a SABM on 0, and while no CLD and no response to one was sent or came, 0 is open or asked for there,
-- and open once a UA on 0 came
pub driver_up : (s : Setting) (n1 : ℕ) (line : List LineAct) → IsCalmLine s n1 line → 1 ≤ many (is_on Sabm 0) (frames_sent (wire (driver_past line))) → many closes (frames_sent (wire (driver_past line))) ≤ 0 → many closes (frames_got (wire (driver_past line))) ≤ 0 → Up (wire (driver_past line))
driver_up s n1 [] h some sent got = absurd (omega (arith, some))
driver_up s n1 (AtModem a ∷ line) h some sent got = driver_up s n1 line (calm_before s n1 (AtModem a) line h) some sent got
driver_up s n1 (AtDriver (driver.Sent f) ∷ line) h some sent got = by_sabm (is_on Sabm 0 f) refl some (λ k. driver_up s n1 line (calm_before s n1 (AtDriver (driver.Sent f)) line h) k (omega (arith, sent)) got)
  where
    p : List station.Act
    p = wire (driver_past line)

    by_sabm : (b : Bool) → is_on Sabm 0 f ≡ b → 1 ≤ unit b + many (is_on Sabm 0) (frames_sent (wire (driver_past line))) → (1 ≤ many (is_on Sabm 0) (frames_sent (wire (driver_past line))) → Up (wire (driver_past line))) → Up (station.Sent f ∷ wire (driver_past line))
    by_sabm true e k rest = sabm_sent_up s n1 f line h e
    by_sabm false e k rest =
        let none = none_sent s n1 f line h in
        let modes = no_ua (is_kind f.kind Ua) (is_kind f.kind Dm) (f.dlci == 0) none.1 in
        let bare = (or_parts (brings_command cld f) (brings_response cld f) (none_of closes f (many closes (frames_sent (wire (driver_past line)))) sent)).0 in
        let end = sent_ends (zero_at 0 p) f none.0 bare in
        still_up (station.Sent f) p (λ o. is_open_after Initiator 0 p (station.Sent f) ∙ kept false (open_at 0 p) (ends (zero_at 0 p) 0 (station.Sent f)) o end)
        (λ u. ap (λ (b : Bool). b || asked_at 0 (station.Sent f ∷ p)) (is_open_after Initiator 0 p (station.Sent f)) ∙ up_kept false (is_on Sabm 0 f) (open_at 0 p) (asked_at 0 p) (is_mode_frame_on 0 f) (ends (zero_at 0 p) 0 (station.Sent f)) u (mode_off f e modes.0 modes.1 none.0) end) refl (rest (omega (arith, k)))
driver_up s n1 (AtDriver (driver.Got f) ∷ line) h some sent got = by_ua (is_on Ua 0 f) refl (driver_up s n1 line (calm_before s n1 (AtDriver (driver.Got f)) line h) some sent (omega (arith, got)))
  where
    p : List station.Act
    p = wire (driver_past line)

    end : ends (zero_at 0 (wire (driver_past line))) 0 (station.Got f) ≡ false
    end =
        let g = driver_gets s n1 f line h in
        got_ends (zero_at 0 (wire (driver_past line))) f g.sabm g.disc g.dm (or_parts (brings_command cld f) (brings_response cld f) (none_of closes f (many closes (frames_got (wire (driver_past line)))) got)).0

    either : (u a o e : Bool) → u ≡ true → (o || a) ≡ true → e ≡ false → ((u && a) || (o && not e)) ≡ true
    either true true o e g k m = refl
    either true false true false g k m = refl
    either true false true true g k m = cc
    either true false false e g k m = cc
    either false a o e g k m = cc

    by_ua : (b : Bool) → is_on Ua 0 f ≡ b → Up (wire (driver_past line)) → Up (station.Got f ∷ wire (driver_past line))
    by_ua true e k =
        let now : open_at 0 (station.Got f ∷ p) ≡ true = is_open_after Initiator 0 p (station.Got f) ∙ either (is_on Ua 0 f) (asked_at 0 p) (open_at 0 p) (ends (zero_at 0 p) 0 (station.Got f)) e k.up end in
        record { up = or_left (open_at 0 (station.Got f ∷ p)) (asked_at 0 (station.Got f ∷ p)) now; opened = λ some. now }
    by_ua false e k =
        let g = driver_gets s n1 f line h in
        let u : unit (is_on Ua 0 f) ≡ 0 = ap unit e in
        still_up (station.Got f) p (λ o. is_open_after Initiator 0 p (station.Got f) ∙ kept (is_on Ua 0 f && asked_at 0 p) (open_at 0 p) (ends (zero_at 0 p) 0 (station.Got f)) o end)
        (λ w. ap (λ (b : Bool). b || asked_at 0 (station.Got f ∷ p)) (is_open_after Initiator 0 p (station.Got f)) ∙ up_kept (is_on Ua 0 f && asked_at 0 p) false (open_at 0 p) (asked_at 0 p) (is_mode_frame_on 0 f) (ends (zero_at 0 p) 0 (station.Got f)) w (mode_off f g.sabm e g.dm g.disc) end) (omega (arith, u)) k
driver_up s n1 (AtDriver driver.Tick ∷ line) h some sent got =
    let p = wire (driver_past line) in
    still_up station.Tick p (λ o. is_open_after Initiator 0 p station.Tick ∙ kept false (open_at 0 p) false o refl)
    (λ u. ap (λ (b : Bool). b || asked_at 0 (station.Tick ∷ p)) (is_open_after Initiator 0 p station.Tick) ∙ up_kept false false (open_at 0 p) (asked_at 0 p) false false u refl refl) refl
    (driver_up s n1 line (calm_before s n1 (AtDriver driver.Tick) line h) some sent got)
driver_up s n1 (AtDriver driver.Given ∷ line) h some sent got =
    let p = wire (driver_past line) in
    still_up station.Given p (λ o. is_open_after Initiator 0 p station.Given ∙ kept false (open_at 0 p) false o refl)
    (λ u. ap (λ (b : Bool). b || asked_at 0 (station.Given ∷ p)) (is_open_after Initiator 0 p station.Given) ∙ up_kept false false (open_at 0 p) (asked_at 0 p) false false u refl refl) refl
    (driver_up s n1 line (calm_before s n1 (AtDriver driver.Given) line h) some sent got)
driver_up s n1 (AtDriver driver.Lost ∷ line) h some sent got = absurd (let x : true ≡ false = h.driver_live in cc)
driver_up s n1 (AtDriver (driver.Took q) ∷ line) h some sent got = driver_up s n1 line (calm_before s n1 (AtDriver (driver.Took q)) line h) some sent got
driver_up s n1 (AtDriver (driver.Told o) ∷ line) h some sent got = driver_up s n1 line (calm_before s n1 (AtDriver (driver.Told o)) line h) some sent got
driver_up s n1 (AtDriver (driver.Heard u e l) ∷ line) h some sent got = driver_up s n1 line (calm_before s n1 (AtDriver (driver.Heard u e l)) line h) some sent got
driver_up s n1 (AtDriver (driver.Held e) ∷ line) h some sent got = driver_up s n1 line (calm_before s n1 (AtDriver (driver.Held e)) line h) some sent got
driver_up s n1 (AtDriver (driver.Freed e) ∷ line) h some sent got = driver_up s n1 line (calm_before s n1 (AtDriver (driver.Freed e)) line h) some sent got

-- each CLD closes
pub closes_sent : (fs : List Frame) → many (brings_command cld) fs ≤ many closes fs
closes_sent fs = many_fewer (brings_command cld) closes fs (λ f e. or_left (brings_command cld f) (brings_response cld f) e)

-- once it sent a CLD, and while no CLD and no response to one came, its stop is under way
pub driver_stopping : (s : Setting) (n1 : ℕ) (line : List LineAct) → IsCalmLine s n1 line → 1 ≤ many (brings_command cld) (frames_sent (wire (driver_past line))) → many closes (frames_got (wire (driver_past line))) ≤ 0 → is_stopping (state_of Initiator 0 (wire (driver_past line))) ≡ true
driver_stopping s n1 [] h some got = absurd (omega (arith, some))
driver_stopping s n1 (AtModem a ∷ line) h some got = driver_stopping s n1 line (calm_before s n1 (AtModem a) line h) some got
driver_stopping s n1 (AtDriver (driver.Sent f) ∷ line) h some got = by_cld (brings_command cld f) refl some (λ k. driver_stopping s n1 line (calm_before s n1 (AtDriver (driver.Sent f)) line h) k got)
  where
    p : List station.Act
    p = wire (driver_past line)

    no_more : 1 ≤ many (brings_command cld) (frames_sent (wire (driver_past line))) → (b : Bool) → is_on Sabm 0 f ≡ b → b ≡ false
    no_more k false e = refl
    no_more k true e =
        let older = calm_before s n1 (AtDriver (driver.Sent f)) line h in
        let less = closes_sent (frames_sent (wire (driver_past line))) in
        let before = sabm_before s n1 line (calm_once s n1 line older) (omega (arith, k, less)) in
        let once = h.once 0 in
        let all = once_many (is_on Sabm 0) (f ∷ frames_sent (wire (driver_past line))) in
        let one : unit (is_on Sabm 0 f) ≡ 1 = ap unit e in
        absurd (omega (arith, before, once, all, one))

    by_cld : (b : Bool) → brings_command cld f ≡ b → 1 ≤ unit b + many (brings_command cld) (frames_sent (wire (driver_past line))) → (1 ≤ many (brings_command cld) (frames_sent (wire (driver_past line))) → is_stopping (state_of Initiator 0 (wire (driver_past line))) ≡ true)
        → is_stopping (state_of Initiator 0 (station.Sent f ∷ wire (driver_past line))) ≡ true
    by_cld true e k rest = stop_begins Initiator p f e
    by_cld false e k rest = let q : 1 ≤ many (brings_command cld) (frames_sent p) = omega (arith, k) in stop_sent Initiator p f (no_more q (is_on Sabm 0 f) refl) (rest q)
driver_stopping s n1 (AtDriver (driver.Got f) ∷ line) h some got =
    let g = driver_gets s n1 f line h in
    stop_got Initiator (wire (driver_past line)) f g.sabm g.dm (none_of closes f (many closes (frames_got (wire (driver_past line)))) got) (driver_stopping s n1 line (calm_before s n1 (AtDriver (driver.Got f)) line h) some (omega (arith, got)))
driver_stopping s n1 (AtDriver driver.Tick ∷ line) h some got = stop_ticks Initiator (wire (driver_past line)) h.driver_keeps.0 (driver_stopping s n1 line (calm_before s n1 (AtDriver driver.Tick) line h) some got)
driver_stopping s n1 (AtDriver driver.Given ∷ line) h some got = there Initiator (wire (driver_past line)) (driver_stopping s n1 line (calm_before s n1 (AtDriver driver.Given) line h) some got)
driver_stopping s n1 (AtDriver driver.Lost ∷ line) h some got = absurd (let x : true ≡ false = h.driver_live in cc)
driver_stopping s n1 (AtDriver (driver.Took q) ∷ line) h some got = driver_stopping s n1 line (calm_before s n1 (AtDriver (driver.Took q)) line h) some got
driver_stopping s n1 (AtDriver (driver.Told o) ∷ line) h some got = driver_stopping s n1 line (calm_before s n1 (AtDriver (driver.Told o)) line h) some got
driver_stopping s n1 (AtDriver (driver.Heard u e l) ∷ line) h some got = driver_stopping s n1 line (calm_before s n1 (AtDriver (driver.Heard u e l)) line h) some got
driver_stopping s n1 (AtDriver (driver.Held e) ∷ line) h some got = driver_stopping s n1 line (calm_before s n1 (AtDriver (driver.Held e)) line h) some got
driver_stopping s n1 (AtDriver (driver.Freed e) ∷ line) h some got = driver_stopping s n1 line (calm_before s n1 (AtDriver (driver.Freed e)) line h) some got

-- ## The modem

abbrev open_zero : List station.Act → Bool
open_zero past = is_open Responder 0 past

abbrev its_zero : List station.Act → Bool
its_zero past = is_open Responder 0 past

-- once a SABM on 0 came to the modem, it sent no CLD, and while no CLD and no response to one came, 0 is open there
pub modem_up : (s : Setting) (n1 : ℕ) (line : List LineAct) → IsCalmLine s n1 line → 1 ≤ many (is_on Sabm 0) (frames_got (modem_past line)) → many (brings_command cld) (frames_sent (modem_past line)) ≤ 0 → many closes (frames_got (modem_past line)) ≤ 0 → is_open Responder 0 (modem_past line) ≡ true
modem_up s n1 [] h some sent got = absurd (omega (arith, some))
modem_up s n1 (AtDriver a ∷ line) h some sent got = modem_up s n1 line (calm_before s n1 (AtDriver a) line h) some sent got
modem_up s n1 (AtModem (station.Got f) ∷ line) h some sent got = by_sabm (is_on Sabm 0 f) refl some (λ k. modem_up s n1 line (calm_before s n1 (AtModem (station.Got f)) line h) k sent (omega (arith, got)))
  where
    p : List station.Act
    p = modem_past line

    opens : (x r : Bool) → x ≡ true → ((x && true) || r) ≡ true
    opens true r e = refl
    opens false r e = cc

    by_sabm : (b : Bool) → is_on Sabm 0 f ≡ b → 1 ≤ unit b + many (is_on Sabm 0) (frames_got (modem_past line)) → (1 ≤ many (is_on Sabm 0) (frames_got (modem_past line)) → is_open Responder 0 (modem_past line) ≡ true) → is_open Responder 0 (station.Got f ∷ modem_past line) ≡ true
    by_sabm true e k rest = is_open_after Responder 0 p (station.Got f) ∙ opens (is_on Sabm 0 f) (open_zero p && not (ends (its_zero p) 0 (station.Got f))) e
    by_sabm false e k rest =
        let g = modem_gets s n1 f line h in
        let end = got_ends (its_zero p) f e g.disc g.dm (or_parts (brings_command cld f) (brings_response cld f) (none_of closes f (many closes (frames_got p)) got)).0 in
        is_open_after Responder 0 p (station.Got f) ∙ kept (is_on Sabm 0 f && true) (open_zero p) (ends (its_zero p) 0 (station.Got f)) (rest (omega (arith, k))) end
modem_up s n1 (AtModem (station.Sent f) ∷ line) h some sent got =
    let p = modem_past line in
    let none = modem_sends s n1 (AtModem (station.Sent f) ∷ line) h in
    let end = sent_ends (its_zero p) f (none_of (is_on Disc 0) f (many (is_on Disc 0) (frames_sent p)) none.disc) (none_of (brings_command cld) f (many (brings_command cld) (frames_sent p)) sent) in
    is_open_after Responder 0 p (station.Sent f) ∙ kept false (open_zero p) (ends (its_zero p) 0 (station.Sent f)) (modem_up s n1 line (calm_before s n1 (AtModem (station.Sent f)) line h) some (omega (arith, sent)) got) end
modem_up s n1 (AtModem (station.Called c) ∷ line) h some sent got = is_open_after Responder 0 (modem_past line) (station.Called c) ∙ kept false (open_zero (modem_past line)) false (modem_up s n1 line (calm_before s n1 (AtModem (station.Called c)) line h) some sent got) refl
modem_up s n1 (AtModem station.Tick ∷ line) h some sent got = is_open_after Responder 0 (modem_past line) station.Tick ∙ kept false (open_zero (modem_past line)) false (modem_up s n1 line (calm_before s n1 (AtModem station.Tick) line h) some sent got) refl
modem_up s n1 (AtModem station.Given ∷ line) h some sent got = is_open_after Responder 0 (modem_past line) station.Given ∙ kept false (open_zero (modem_past line)) false (modem_up s n1 line (calm_before s n1 (AtModem station.Given) line h) some sent got) refl
modem_up s n1 (AtModem station.Lost ∷ line) h some sent got = absurd (let x : true ≡ false = h.modem_live in cc)

-- once it sent a CLD, and while no CLD and no response to one came, its stop is under way
pub modem_stopping : (s : Setting) (n1 : ℕ) (line : List LineAct) → IsCalmLine s n1 line → 1 ≤ many (brings_command cld) (frames_sent (modem_past line)) → many closes (frames_got (modem_past line)) ≤ 0 → is_stopping (state_of Responder 0 (modem_past line)) ≡ true
modem_stopping s n1 [] h some got = absurd (omega (arith, some))
modem_stopping s n1 (AtDriver a ∷ line) h some got = modem_stopping s n1 line (calm_before s n1 (AtDriver a) line h) some got
modem_stopping s n1 (AtModem (station.Sent f) ∷ line) h some got = by_cld (brings_command cld f) refl some (λ k. modem_stopping s n1 line (calm_before s n1 (AtModem (station.Sent f)) line h) k got)
  where
    p : List station.Act
    p = modem_past line

    by_cld : (b : Bool) → brings_command cld f ≡ b → 1 ≤ unit b + many (brings_command cld) (frames_sent (modem_past line)) → (1 ≤ many (brings_command cld) (frames_sent (modem_past line)) → is_stopping (state_of Responder 0 (modem_past line)) ≡ true)
        → is_stopping (state_of Responder 0 (station.Sent f ∷ modem_past line)) ≡ true
    by_cld true e k rest = stop_begins Responder p f e
    by_cld false e k rest =
        let none = modem_sends s n1 (AtModem (station.Sent f) ∷ line) h in
        stop_sent Responder p f (none_of (is_on Sabm 0) f (many (is_on Sabm 0) (frames_sent p)) none.sabm) (rest (omega (arith, k)))
modem_stopping s n1 (AtModem (station.Got f) ∷ line) h some got =
    let g = modem_gets s n1 f line h in
    stop_got Responder (modem_past line) f (no_more (is_on Sabm 0 f) refl) g.dm (none_of closes f (many closes (frames_got (modem_past line))) got) (modem_stopping s n1 line (calm_before s n1 (AtModem (station.Got f)) line h) some (omega (arith, got)))
  where
    no_more : (b : Bool) → is_on Sabm 0 f ≡ b → b ≡ false
    no_more false e = refl
    no_more true e =
        let p = modem_past line in
        let before = some_before (many (is_on Sabm 0) (frames_got p)) (many (brings_command cld) (frames_sent p)) (λ none. cld_behind n1 p (calm_before s n1 (AtModem (station.Got f)) line h).lawful.modem_lawful none) some in
        let came = came_few (is_on Sabm 0) (wire (driver_past line)) (station.Got f ∷ p) (both_ways (AtModem (station.Got f) ∷ line) h.lawful.one_line).at_modem in
        let once = h.once 0 in
        let all = once_many (is_on Sabm 0) (frames_sent (wire (driver_past line))) in
        let one : unit (is_on Sabm 0 f) ≡ 1 = ap unit e in
        absurd (omega (arith, before, came, once, all, one))
modem_stopping s n1 (AtModem (station.Called c) ∷ line) h some got = there Responder (modem_past line) (modem_stopping s n1 line (calm_before s n1 (AtModem (station.Called c)) line h) some got)
modem_stopping s n1 (AtModem station.Tick ∷ line) h some got = stop_ticks Responder (modem_past line) h.modem_keeps.0 (modem_stopping s n1 line (calm_before s n1 (AtModem station.Tick) line h) some got)
modem_stopping s n1 (AtModem station.Given ∷ line) h some got = there Responder (modem_past line) (modem_stopping s n1 line (calm_before s n1 (AtModem station.Given) line h) some got)
modem_stopping s n1 (AtModem station.Lost ∷ line) h some got = absurd (let x : true ≡ false = h.modem_live in cc)
