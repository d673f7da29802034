-- A responder sends no message about the stop of a connection before its UA on it.
use Rattle.std.specs.Prelude.{◌≡◌, ℕ, ◌+◌, ◌==◌, ◌≤◌, ◌&&◌, ◌||◌, not, Bool, true, false, List, [], ◌∷◌, ◌++◌, drop, Option, Some, None, refl, is_none, is_some, if◌then◌else◌}
use Rattle.std.specs.List.{list_any}
use Rattle.std.proofs.Common.{ap, arith, sym, ◌∙◌, eqb-true}
use Rattle.std.proofs.lemmas.Bool.{and_from, and_parts, or_left, or_right}
use Rattle.mux_frame.specs.Frames.{Frame}
use Rattle.mux_frame.specs.declared.frame.Kind.{Kind}
use Rattle.mux_frame.specs.declared.frame.Kind.TheVariants.{Sabm, Ua, Dm, Disc, Uih}
use Rattle.mux_station.specs.declared.role.Role.TheVariants.{Responder}
use Rattle.mux_station.specs.declared.error.StationError.{StationError}
use Rattle.mux_station.specs.declared.error.StationError.TheVariants.{NotOpen}
use Rattle.mux_station.specs.Acts.{Call, Open, Close, Probe, Stop, Flow, Offer, Act, Called, Got, Sent, Tick, Lost, Given}
use Rattle.mux_station.proofs.states.OpeningSteps.{is_open_after}
use Rattle.mux_station.specs.Messages.{Message, cld, test}
use Rattle.mux_station.specs.Opening.{ends, is_open}
use Rattle.mux_station.specs.Sending.{Sends, StationLawful, StationView, called_frames, frames_asked, frames_seeing, if_no_room, is_loss, or_else, owed_frames, refused, station_view}
use Rattle.mux_station.specs.States.{State, is_opened}
use Rattle.mux_station.specs.Stopping.{if_message}
use Rattle.mux_station.specs.Tables.{by_frame, by_message, by_table, held_up, message_frame, msc_after_opening, msc_frame, ready, ua_or_dm}
use Rattle.mux_station.specs.Written.{is_data_frame, is_kind, is_on, written}
use Rattle.modem_show.specs.Ends.{says_at}
use Rattle.modem_history.specs.TwoEnds.{frames_sent}
use Rattle.modem_history.proofs.connections.InformationGrowth.{is_got}
use Rattle.one_modem.proofs.two_ends.ResponderFrames.{not_opening}
use Rattle.show_laws.specs.Lines.{responding}
use Rattle.show_laws.proofs.asks.AnswerShapes.{or_elim}
use Rattle.show_laws.proofs.asks.AnswersCalled.{data_no_message}
use Rattle.show_laws.proofs.counts.ManyFrames.{many, many_both, none_one, unit}
use Rattle.show_laws.proofs.counts.BalancedTables.{tick_none}
use Rattle.show_laws.proofs.openings.ResponderCalls.{opening_answered, sabm_bare}
use Rattle.show_laws.proofs.openings.UaBehindSabm.{none_of}
use Rattle.show_laws.proofs.stops.StopWords.{flow_quiet, message_quiet, responder_quiet, speaks, status_quiet}

-- no message about the stop of d stands before a UA on d
abbrev pub led : ℕ → List Frame → Bool
led d [] = true
led d (f ∷ fs) = is_on Ua d f || (not (speaks d f) && led d fs)

led_quiet : (d : ℕ) (fs : List Frame) → many (speaks d) fs ≤ 0 → led d fs ≡ true
led_quiet d [] h = refl
led_quiet d (f ∷ fs) h =
    or_right (is_on Ua d f) (not (speaks d f) && led d fs)
    (and_from (not (speaks d f)) (led d fs) (ap not (none_of (speaks d) f (many (speaks d) fs) h)) (led_quiet d fs (omega (arith, h))))

led_both : (d : ℕ) (xs ys : List Frame) → led d xs ≡ true → (many (is_on Ua d) xs ≤ 0 → led d ys ≡ true) → led d (xs ++ ys) ≡ true
led_both d [] ys h k = k (omega arith)
led_both d (f ∷ xs) ys h k = by_ua (is_on Ua d f) refl h (λ l m. led_both d xs ys l m)
  where
    by_ua : (b : Bool) → is_on Ua d f ≡ b → (b || (not (speaks d f) && led d xs)) ≡ true → (led d xs ≡ true → (many (is_on Ua d) xs ≤ 0 → led d ys ≡ true) → led d (xs ++ ys) ≡ true)
        → (b || (not (speaks d f) && led d (xs ++ ys))) ≡ true
    by_ua true e h rest = refl
    by_ua false e h rest =
        let p = and_parts (not (speaks d f)) (led d xs) h in
        and_from (not (speaks d f)) (led d (xs ++ ys)) p.0 (rest p.1 (λ none. k (let x : unit (is_on Ua d f) ≡ 0 = ap unit e in omega (arith, x, none))))

-- While no UA on d was sent, no message about its stop was, and none is owed before that UA. It is owed where d is open.
pub record BehindUa (n1 d : ℕ) (past : List Act) : Type 0 where
  pub sent_none : many (speaks d) (frames_sent past) ≤ 0
  pub owed_led : led d (owed_frames (responding n1) past) ≡ true
  pub open_owes : list_any is_loss past ≡ false → is_open Responder d past ≡ true → 1 ≤ many (is_on Ua d) (owed_frames (responding n1) past)

-- ## Calls of the user

flow_open : (x y : Bool) (p : Option StationError) → is_none (or_else (if not (x && y) then Some NotOpen else None) p) ≡ true → x ≡ true
flow_open true y p h = refl
flow_open false y p h = cc

other_zero : (d e : ℕ) → (e == d) ≡ false → (e == 0) ≡ true → (d == 0) ≡ false
other_zero d e apart zero_is = by_test (d == 0) refl
  where
    by_test : (b : Bool) → (d == 0) ≡ b → b ≡ false
    by_test false k = refl
    by_test true k = let t : true ≡ false = sym zero_is ∙ (sym (ap (λ n. e == n) (eqb-true d 0 k)) ∙ apart) in cc

flow_asked : (n1 d : ℕ) (v : StationView) (e : ℕ) (go : Bool) → is_none (refused (responding n1) v (Flow e go)) ≡ true → is_opened (v.state d) ≡ false → many (speaks d) (frames_asked Responder (Flow e go)) ≤ 0
flow_asked n1 d v e go h shut = by_here (e == d) refl
  where
    by_zero : (z : Bool) → (e == 0) ≡ z → (e == d) ≡ false → many (speaks d) (if z then message_frame Responder (if go then 0xa3 else 0x63) [] ∷ [] else msc_frame Responder e (if go then ready else held_up) ∷ []) ≤ 0
    by_zero true k apart = none_one (speaks d) (message_frame Responder (if go then 0xa3 else 0x63) []) (flow_quiet Responder d go (other_zero d e apart k))
    by_zero false k apart = none_one (speaks d) (msc_frame Responder e (if go then ready else held_up)) (status_quiet Responder d e (if go then ready else held_up) apart)

    by_here : (b : Bool) → (e == d) ≡ b → many (speaks d) (frames_asked Responder (Flow e go)) ≤ 0
    by_here false apart = by_zero (e == 0) refl apart
    by_here true here =
        let there = flow_open (is_opened (v.state e)) (is_opened (v.state 0)) (if_no_room (responding n1) v (Flow e go)) h in
        let off : is_opened (v.state e) ≡ false = ap (λ n. is_opened (v.state n)) (eqb-true e d here) ∙ shut in
        absurd (let t : true ≡ false = sym there ∙ off in cc)

call_quiet : (n1 d : ℕ) (v : StationView) (c : Call) (b : Bool) → is_none (refused (responding n1) v c) ≡ b → is_opened (v.state d) ≡ false → many (speaks d) (if b then frames_asked Responder c else []) ≤ 0
call_quiet n1 d v c false h shut = omega arith
call_quiet n1 d v (Open e) true h shut = none_one (speaks d) (written Responder Sabm e []) refl
call_quiet n1 d v (Close e) true h shut = none_one (speaks d) (written Responder Disc e []) refl
call_quiet n1 d v (Probe octets) true h shut = none_one (speaks d) (message_frame Responder test octets) (message_quiet Responder d test octets refl refl refl)
call_quiet n1 d v Stop true h shut = none_one (speaks d) (message_frame Responder cld []) (message_quiet Responder d cld [] refl refl refl)
call_quiet n1 d v (Flow e go) true h shut = flow_asked n1 d v e go h shut
call_quiet n1 d v (Offer e octets) true h shut = omega arith

-- ## An act

opened_before : (d : ℕ) (past : List Act) (a : Act) → is_got a ≡ false → is_open Responder d (a ∷ past) ≡ true → is_open Responder d past ≡ true
opened_before d past a other o = by_test (is_open Responder d past) refl
  where
    by_test : (b : Bool) → is_open Responder d past ≡ b → b ≡ true
    by_test true e = refl
    by_test false e = let t : true ≡ false = sym o ∙ not_opening d past a other e in cc

-- while no UA is owed d is shut
shut_there : (n1 d : ℕ) (past : List Act) → BehindUa n1 d past → list_any is_loss past ≡ false → many (is_on Ua d) (owed_frames (responding n1) past) ≤ 0 → is_open Responder d past ≡ false
shut_there n1 d past h live none = by_test (is_open Responder d past) refl
  where
    by_test : (b : Bool) → is_open Responder d past ≡ b → b ≡ false
    by_test false e = refl
    by_test true e = let x = h.open_owes live e in absurd (omega (arith, x, none))

led_more : (n1 d : ℕ) (past : List Act) (a : Act) → BehindUa n1 d past → (list_any is_loss past ≡ false → is_open Responder d past ≡ false → led d (frames_seeing (responding n1) (station_view (responding n1) past) a) ≡ true)
    → led d (owed_frames (responding n1) past ++ called_frames (responding n1) past a) ≡ true
led_more n1 d past a h calls = led_both d (owed_frames (responding n1) past) (called_frames (responding n1) past a) h.owed_led (λ none. by_loss (list_any is_loss past) refl none)
  where
    by_loss : (b : Bool) → list_any is_loss past ≡ b → many (is_on Ua d) (owed_frames (responding n1) past) ≤ 0 → led d (if b then [] else frames_seeing (responding n1) (station_view (responding n1) past) a) ≡ true
    by_loss true e none = refl
    by_loss false e none = calls e (shut_there n1 d past h e none)

still_owed : (n1 d : ℕ) (past : List Act) (a : Act) → 1 ≤ many (is_on Ua d) (owed_frames (responding n1) past) → 1 ≤ many (is_on Ua d) (owed_frames (responding n1) past ++ called_frames (responding n1) past a)
still_owed n1 d past a some = let e = many_both (is_on Ua d) (owed_frames (responding n1) past) (called_frames (responding n1) past a) in omega (arith, some, e)

shut_state : (n1 d : ℕ) (past : List Act) → is_open Responder d past ≡ false → is_opened ((station_view (responding n1) past).state d) ≡ false
shut_state n1 d past h = h

-- what comes calls for a UA first, where it opens d
table_led : (d e : ℕ) (channel own : State) (k : Kind) → (is_kind k Sabm && (e == d)) ≡ true → led d (by_table Responder e channel own k) ≡ true
table_led d e channel own Sabm h = either ((e == 0) || is_opened channel)
  where
    either : (b : Bool) → led d (if b then ua_or_dm Responder e true ∷ msc_after_opening Responder e else ua_or_dm Responder e false ∷ []) ≡ true
    either true = or_left (e == d) (not (speaks d (ua_or_dm Responder e true)) && led d (msc_after_opening Responder e)) h
    either false = refl
table_led d e channel own Ua h = cc
table_led d e channel own Dm h = cc
table_led d e channel own Disc h = cc
table_led d e channel own Uih h = cc

frame_led : (d : ℕ) (state : ℕ → State) (f : Frame) → led d (by_frame Responder state f) ≡ true
frame_led d state f = by_sabm (is_on Sabm d f) refl
  where
    by_sabm : (b : Bool) → is_on Sabm d f ≡ b → led d (by_frame Responder state f) ≡ true
    by_sabm false e = led_quiet d (by_frame Responder state f) (responder_quiet d state f e)
    by_sabm true e =
        ap (λ (b : Bool). led d (if b then by_message Responder (state 0) f else by_table Responder f.dlci (state 0) (state f.dlci) f.kind)) (sabm_bare f.kind (f.dlci == d) (f.dlci == 0) e)
        ∙ table_led d f.dlci (state 0) (state f.dlci) f.kind e

opening_owes : (n1 d : ℕ) (past : List Act) (f : Frame) → BehindUa n1 d past → list_any is_loss past ≡ false → is_open Responder d (Got f ∷ past) ≡ true
    → 1 ≤ many (is_on Ua d) (owed_frames (responding n1) past ++ called_frames (responding n1) past (Got f))
opening_owes n1 d past f h live o =
    let z = is_open Responder 0 past in
    let v = station_view (responding n1) past in
    or_elim (is_on Sabm d f && ((d == 0) || z)) (is_open Responder d past && not (ends z d (Got f))) (sym (is_open_after Responder d past (Got f)) ∙ o)
    (λ s.
    let p = and_parts (is_on Sabm d f) ((d == 0) || z) s in
    let some = opening_answered d v.state f p.0 p.1 in
    let all : many (is_on Ua d) (called_frames (responding n1) past (Got f)) ≡ many (is_on Ua d) (by_frame Responder v.state f) = ap (λ (b : Bool). many (is_on Ua d) (if b then [] else by_frame Responder v.state f)) live in
    let e = many_both (is_on Ua d) (owed_frames (responding n1) past) (called_frames (responding n1) past (Got f)) in
    omega (arith, some, all, e))
    (λ b. still_owed n1 d past (Got f) (h.open_owes live (and_parts (is_open Responder d past) (not (ends z d (Got f))) b).0))

sent_behind : (n1 d : ℕ) (past : List Act) (f : Frame) (b : Bool) → is_data_frame f ≡ b → Sends (responding n1) past f b → unit (is_on Ua d f) + many (is_on Ua d) (frames_sent past) ≤ 0 → BehindUa n1 d past → BehindUa n1 d (Sent f ∷ past)
unfolding Sends
sent_behind n1 d past f true is g none h =
    let quiet : unit (speaks d f) ≡ 0 = ap (λ (o : Option Message). unit (is_some (if_message (says_at d) o))) (data_no_message f is) in
    let same : owed_frames (responding n1) (Sent f ∷ past) ≡ owed_frames (responding n1) past = ap (λ (b : Bool). if b then owed_frames (responding n1) past else drop 1 (owed_frames (responding n1) past)) is in
    let x = h.sent_none in
    record {
      sent_none = omega (arith, quiet, x);
      owed_led = ap (led d) same ∙ h.owed_led;
      open_owes = λ live o. let y = h.open_owes live (opened_before d past (Sent f) refl o) in let e : many (is_on Ua d) (owed_frames (responding n1) (Sent f ∷ past)) ≡ many (is_on Ua d) (owed_frames (responding n1) past) = ap (many (is_on Ua d)) same in omega (arith, y, e);
    }
sent_behind n1 d past f false is g none h =
    let ua = none_of (is_on Ua d) f (many (is_on Ua d) (frames_sent past)) none in
    let first : (is_on Ua d f || (not (speaks d f) && led d g.later)) ≡ true = sym (ap (led d) g.is_next) ∙ h.owed_led in
    let p = and_parts (not (speaks d f)) (led d g.later) (sym (ap (λ (b : Bool). b || (not (speaks d f) && led d g.later)) ua) ∙ first) in
    let rest : owed_frames (responding n1) (Sent f ∷ past) ≡ g.later = ap (λ (b : Bool). if b then owed_frames (responding n1) past else drop 1 (owed_frames (responding n1) past)) is ∙ ap (λ (fs : List Frame). drop 1 fs) g.is_next in
    let x = h.sent_none in
    let quiet : unit (speaks d f) ≤ 0 = unspoken (speaks d f) p.0 in
    record {
      sent_none = omega (arith, quiet, x);
      owed_led = ap (led d) rest ∙ p.1;
      open_owes = λ live o.
          let y = h.open_owes live (opened_before d past (Sent f) refl o) in
          let e : many (is_on Ua d) (owed_frames (responding n1) past) ≡ unit (is_on Ua d f) + many (is_on Ua d) g.later = ap (many (is_on Ua d)) g.is_next in
          let u : unit (is_on Ua d f) ≡ 0 = ap unit ua in
          let k : many (is_on Ua d) (owed_frames (responding n1) (Sent f ∷ past)) ≡ many (is_on Ua d) g.later = ap (many (is_on Ua d)) rest in
          omega (arith, y, e, u, k);
    }
  where
    unspoken : (b : Bool) → not b ≡ true → unit b ≤ 0
    unspoken false e = omega arith
    unspoken true e = cc

-- so it is of a lawful responder that sent no UA on d
pub behind : (n1 d : ℕ) (past : List Act) → StationLawful (responding n1) past → many (is_on Ua d) (frames_sent past) ≤ 0 → BehindUa n1 d past
unfolding StationLawful
behind n1 d [] l none = record { sent_none = omega arith; owed_led = refl; open_owes = λ live o. cc }
behind n1 d (Sent f ∷ past) l none = sent_behind n1 d past f (is_data_frame f) refl l.0 none (behind n1 d past l.1 (omega (arith, none)))
behind n1 d (Lost ∷ past) l none =
    let h = behind n1 d past l none in
    record { sent_none = h.sent_none; owed_led = refl; open_owes = λ live o. let t : true ≡ false = live in cc }
behind n1 d (Got f ∷ past) l none =
    let h = behind n1 d past l none in
    record {
      sent_none = h.sent_none;
      owed_led = led_more n1 d past (Got f) h (λ live shut. frame_led d (station_view (responding n1) past).state f);
      open_owes = λ live o. opening_owes n1 d past f h live o;
    }
behind n1 d (Called c ∷ past) l none =
    let h = behind n1 d past l none in
    let v = station_view (responding n1) past in
    record {
      sent_none = h.sent_none;
      owed_led = led_more n1 d past (Called c) h (λ live shut. led_quiet d (frames_seeing (responding n1) v (Called c)) (call_quiet n1 d v c (is_none (refused (responding n1) v c)) refl (shut_state n1 d past shut)));
      open_owes = λ live o. still_owed n1 d past (Called c) (h.open_owes live (opened_before d past (Called c) refl o));
    }
behind n1 d (Tick ∷ past) l none =
    let h = behind n1 d past l none in
    let v = station_view (responding n1) past in
    record {
      sent_none = h.sent_none;
      owed_led = led_more n1 d past Tick h (λ live shut. led_quiet d (frames_seeing (responding n1) v Tick) (tick_none Responder (speaks d) (λ e. refl) (λ e. refl) n1 v.state v.queued 0 62));
      open_owes = λ live o. still_owed n1 d past Tick (h.open_owes live (opened_before d past Tick refl o));
    }
behind n1 d (Given ∷ past) l none =
    let h = behind n1 d past l none in
    record {
      sent_none = h.sent_none;
      owed_led = led_more n1 d past Given h (λ live shut. refl);
      open_owes = λ live o. still_owed n1 d past Given (h.open_owes live (opened_before d past Given refl o));
    }

-- ## The frames that were sent first

pub record OlderFrames (n1 : ℕ) (fs : List Frame) : Type 0 where
  pub past : List Act
  pub lawful : StationLawful (responding n1) past
  pub sent_are : frames_sent past ≡ fs

-- the frames that it sent first are all of an earlier past
pub older_frames : (n1 : ℕ) (past : List Act) (later fs : List Frame) → StationLawful (responding n1) past → frames_sent past ≡ later ++ fs → OlderFrames n1 fs
unfolding StationLawful
older_frames n1 past [] fs l e = record { past = past; lawful = l; sent_are = e }
older_frames n1 [] (g ∷ later) fs l e = cc
older_frames n1 (Sent f ∷ past) (g ∷ later) fs l e = older_frames n1 past later fs l.1 (ap (λ (xs : List Frame). drop 1 xs) e)
older_frames n1 (Called c ∷ past) (g ∷ later) fs l e = older_frames n1 past (g ∷ later) fs l e
older_frames n1 (Got f ∷ past) (g ∷ later) fs l e = older_frames n1 past (g ∷ later) fs l e
older_frames n1 (Tick ∷ past) (g ∷ later) fs l e = older_frames n1 past (g ∷ later) fs l e
older_frames n1 (Lost ∷ past) (g ∷ later) fs l e = older_frames n1 past (g ∷ later) fs l e
older_frames n1 (Given ∷ past) (g ∷ later) fs l e = older_frames n1 past (g ∷ later) fs l e

-- of the frames that it sent first, those without a UA on d have no message about its stop
pub stops_behind_ua : (n1 d : ℕ) (past : List Act) (later fs : List Frame) → StationLawful (responding n1) past → frames_sent past ≡ later ++ fs → many (is_on Ua d) fs ≤ 0 → many (speaks d) fs ≤ 0
stops_behind_ua n1 d past later fs l e none =
    let o = older_frames n1 past later fs l e in
    let ua : many (is_on Ua d) (frames_sent o.past) ≡ many (is_on Ua d) fs = ap (many (is_on Ua d)) o.sent_are in
    let b = (behind n1 d o.past o.lawful (omega (arith, ua, none))).sent_none in
    let same : many (speaks d) (frames_sent o.past) ≡ many (speaks d) fs = ap (many (speaks d)) o.sent_are in
    omega (arith, b, same)
