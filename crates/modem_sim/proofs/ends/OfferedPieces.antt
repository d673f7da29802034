-- What an end says of its own accord, and what it hands to its station.
use Rattle.std.specs.Prelude.{◌≡◌, ◌≢◌, ℕ, zero, suc, ◌+◌, ◌<◌, nat_eq, ◌==◌, ◌&&◌, ◌||◌, not, Result, Ok, Err, IfOk, OnOk, Bool, true, false, List, [], ◌∷◌, ◌++◌, length, take, drop, Option, None, Some, is_none, option_map, slice_index_or, slice_set, refl, if◌then◌else◌}
use Rattle.std.specs.List.{list_all, list_any, starts_with}
use Rattle.std.proofs.Common.{arith, sym, ap, ◌∙◌, subst, append_assoc, append-nil}
use Rattle.std.proofs.lemmas.Bool.Decides.{nat_tests}
use Rattle.std.proofs.lemmas.List.{append_cancel_right}
use Rattle.at_cmds.proofs.command_texts.CommandLines.{both_true}
use Rattle.mux_station.specs.declared.role.Role.TheVariants.{Responder}
use Rattle.mux_frame.specs.Frames.{Frame}
use Rattle.mux_station.specs.Acts as station
use Rattle.mux_station.specs.Giving.{GivesOn, after_given, data_frame, data_given, data_sent, station_after, next_given, next_turn}
use Rattle.mux_station.specs.Sending as sending
use Rattle.mux_station.specs.Stations as stations
use Rattle.mux_station.specs.Fitting as fitting
use Rattle.mux_station.specs.Opening.{opens_now, belongs}
use Rattle.mux_station.specs.Offering.{offered}
use Rattle.mux_station.specs.States.{is_opened}
use Rattle.mux_station.proofs.law_proofs.OwedFrames.{answers_keep}
use Rattle.modem_sim.specs.declared.script.StepAct.TheVariants.{Announce, Flow, Hold, Disconnect, CloseDown}
use Rattle.modem_sim.specs.Acts.{Act, Wire, Did, End, is_handing, setting, wire}
use Rattle.modem_sim.specs.Heard.{heard, texts_of, modem_after}
use Rattle.modem_sim.specs.Laws.{after_lines}
use Rattle.modem_sim.specs.Pieces.{Announced, pieces_octets}
use Rattle.modem_sim.specs.Outboxes.{Outbox, empty_box, outbox, said_after, dropped, say, replies_by, hold_on, lasts, is_holding}
use Rattle.modem_sim.specs.Boxes.{Box, Waited, BoxFits, FitsOpen, fresh_box, lasting, is_released, released}
use Rattle.modem_sim.specs.Doing.{left, is_closed_down, closes_down}
use Rattle.modem_sim.specs.Histories.{EachAllowed, Allows, got, sent}
use Rattle.serial_line.specs.Counts.{saturated}
use Rattle.modem_sim.specs.Cores.{Core, Wired, IsLater, GoesFrom, GivesFrom, Goes, GivesOut, IsGivenOn, Fits, holds_over, after_wire_act, wire_after, boxed, box_at, from_queue, sent_now, that_act, over}
use Rattle.modem_sim.specs.Stills.{Offering}
use Rattle.modem_sim.proofs.connections.BoxesAfterFrame.{box_still, called_still, given_still, sent_still}
use Rattle.modem_sim.proofs.ends.EndAfterFrame.{sent_queued, wire-sent_after, heard-sent_after, owed-sent_after, allowed-sent_after, box-sent_after, done-sent_after, closed-sent_after, got-sent_after, box_here, opened_is}

-- ## What is held back

none_held_at : (past : List Act) (e : End) (d : ℕ) (a : station.Act) (o : Outbox) (h : Option ℕ) → (h ≡ None → o.held ≡ []) → lasts past a h ≡ None → hold_on d (Wire a ∷ past) ≡ None → (said_after e d past a o).held ≡ []
none_held_at past e d (station.Got f) o h before last none = ap (λ (x : Option ℕ). (say (is_holding x) o (replies_by e d past f)).held) none
none_held_at past e d (station.Called call) o h before last none = before (stayed h last)
  where
    stayed : (h : Option ℕ) → lasts past (station.Called call) h ≡ None → h ≡ None
    stayed None is = refl
    stayed (Some x) is = cc
none_held_at past e d (station.Sent f) o h before last none = before (stayed h last)
  where
    stayed : (h : Option ℕ) → lasts past (station.Sent f) h ≡ None → h ≡ None
    stayed None is = refl
    stayed (Some x) is = cc
none_held_at past e d station.Tick o h before last none = before (stayed h last)
  where
    stayed : (h : Option ℕ) → lasts past station.Tick h ≡ None → h ≡ None
    stayed None is = refl
    stayed (Some x) is = cc
none_held_at past e d station.Lost o h before last none = before (stayed h last)
  where
    stayed : (h : Option ℕ) → lasts past station.Lost h ≡ None → h ≡ None
    stayed None is = refl
    stayed (Some x) is = cc
none_held_at past e d station.Given o h before last none = before (stayed h last)
  where
    stayed : (h : Option ℕ) → lasts past station.Given h ≡ None → h ≡ None
    stayed None is = refl
    stayed (Some x) is = cc

none_held_by : (past : List Act) (e : End) (d : ℕ) (a : station.Act) (o : Outbox) (h : Option ℕ) (opens there : Bool) → (h ≡ None → o.held ≡ []) → (if there && not opens then lasts past a h else None) ≡ None → hold_on d (Wire a ∷ past) ≡ None → (if opens then empty_box else if there && not opens then said_after e d past a o else dropped o).held ≡ []
none_held_by past e d a o h true there before last none = refl
none_held_by past e d a o h false true before last none = none_held_at past e d a o h before last none
none_held_by past e d a o h false false before last none = refl

announced_held : (o : Outbox) (line : List ℕ) (here : Bool) → (if here then record { said = o.said ++ Announced line ∷ []; held = o.held } else o).held ≡ o.held
announced_held o line true = refl
announced_held o line false = refl

held_before : (h : Option ℕ) (y : ℕ) (here : Bool) → (if here then Some y else h) ≡ None → h ≡ None
held_before h y true is = cc
held_before h y false is = is

-- without a hold nothing is held back
pub none_held : (e : End) (d : ℕ) (past : List Act) → hold_on d past ≡ None → (outbox e d past).held ≡ []
none_held e d [] none = refl
none_held e d (Did (Announce x line) ∷ past) none = announced_held (outbox e d past) line (x.number == d) ∙ none_held e d past none
none_held e d (Did (Flow x go) ∷ past) none = none_held e d past none
none_held e d (Did (Hold x y) ∷ past) none = none_held e d past (held_before (hold_on d past) y.number (x.number == d) none)
none_held e d (Did (Disconnect x) ∷ past) none = none_held e d past none
none_held e d (Did CloseDown ∷ past) none = none_held e d past none
none_held e d (Wire a ∷ past) none =
    none_held_by past e d a (outbox e d past) (hold_on d past) (opens_now Responder d (wire past) a) (belongs Responder d (wire past) a) (none_held e d past) none none

-- what is held back is what is kept apart, while no hold is over
same_held_at : (e : End) (d : ℕ) (past : List Act) (b : Box) (w : Option Waited) → b.hold ≡ w → is_released w ≡ false → BoxFits e d past b → pieces_octets (outbox e d past).held ≡ b.held
same_held_at e d past b None is over fit =
    ap pieces_octets (none_held e d past (fit.hold_is ∙ ap lasting is)) ∙ sym (fit.apart is)
same_held_at e d past b (Some w) is over fit =
    fit.held_is (ap is_holding (fit.hold_is ∙ ap lasting is ∙ ap (λ (o : Bool). if o then None else Some w.dlci) over))

-- while no hold is over, what is held back of a connection is what its box keeps apart
pub same_held : (e : End) (d : ℕ) (past : List Act) (b : Box) → is_released b.hold ≡ false → BoxFits e d past b → pieces_octets (outbox e d past).held ≡ b.held
same_held e d past b over fit = same_held_at e d past b b.hold refl over fit

-- so what is said is what was handed on and what is to be
pub said_is : (e : End) (d : ℕ) (past : List Act) (b : Box) → is_released b.hold ≡ false → BoxFits e d past b → pieces_octets (outbox e d past).said ≡ offered Responder d (wire past) ++ b.unsent
said_is e d past b over fit =
    append_cancel_right (pieces_octets (outbox e d past).said) (offered Responder d (wire past) ++ b.unsent) b.held
    (ap (λ x. pieces_octets (outbox e d past).said ++ x) (sym (same_held e d past b over fit)) ∙ fit.all_is ∙ sym (append_assoc (offered Responder d (wire past)) b.unsent b.held))

over_held : (w : Option Waited) → is_released w ≡ true → lasting w ≡ None
over_held None is = cc
over_held (Some w) is = ap (λ (o : Bool). if o then None else Some w.dlci) is

-- where the hold is over, all of it is
said_whole : (e : End) (d : ℕ) (past : List Act) (b : Box) → is_released b.hold ≡ true → BoxFits e d past b → pieces_octets (outbox e d past).said ≡ offered Responder d (wire past) ++ (b.unsent ++ b.held)
said_whole e d past b over fit =
    sym (append-nil (pieces_octets (outbox e d past).said))
    ∙ ap (λ x. pieces_octets (outbox e d past).said ++ pieces_octets x) (sym (none_held e d past (fit.hold_is ∙ over_held b.hold over)))
    ∙ fit.all_is

starts : (xs ys : List ℕ) → starts_with nat_eq (xs ++ ys) xs ≡ true
starts [] ys = refl
starts (x ∷ xs) ys =
    let same : nat_eq x x ≡ true = grind (arith, nat_tests) in
    rw same (starts xs ys)

said_begins : (e : End) (d : ℕ) (past : List Act) (b : Box) (octets rest : List ℕ) (over : Bool) → is_released b.hold ≡ over → b.unsent ≡ octets ++ rest → BoxFits e d past b → starts_with nat_eq (pieces_octets (outbox e d past).said) (offered Responder d (wire past) ++ octets) ≡ true
said_begins e d past b octets rest false over parts fit =
    ap (λ x. starts_with nat_eq x (offered Responder d (wire past) ++ octets))
    (said_is e d past b over fit ∙ ap (λ x. offered Responder d (wire past) ++ x) parts ∙ sym (append_assoc (offered Responder d (wire past)) octets rest))
    ∙ starts (offered Responder d (wire past) ++ octets) rest
said_begins e d past b octets rest true over parts fit =
    ap (λ x. starts_with nat_eq x (offered Responder d (wire past) ++ octets))
    (said_whole e d past b over fit ∙ ap (λ x. offered Responder d (wire past) ++ (x ++ b.held)) parts
    ∙ ap (λ x. offered Responder d (wire past) ++ x) (append_assoc octets rest b.held)
    ∙ sym (append_assoc (offered Responder d (wire past)) octets (rest ++ b.held)))
    ∙ starts (offered Responder d (wire past) ++ octets) (rest ++ b.held)

released_at : (e : End) (d : ℕ) (past : List Act) (b : Box) (over : Bool) → is_released b.hold ≡ over → BoxFits e d past b → BoxFits e d past (if over then record b { unsent = b.unsent ++ b.held; held = []; hold = None } else b)
released_at e d past b false over fit = fit
released_at e d past b true over fit =
    let none = fit.hold_is ∙ over_held b.hold over in
    record {
      run_is = fit.run_is;
      hold_is = none;
      all_is = fit.all_is ∙ ap (λ x. offered Responder d (wire past) ++ x) (sym (append-nil (b.unsent ++ b.held)));
      held_is = λ holds. held_none (hold_on d past) none holds;
      apart = λ is. refl;
      call_is = fit.call_is;
    }
  where
    held_none : {A : Type 0} (h : Option ℕ) → h ≡ None → is_holding h ≡ true → A
    held_none None is holds = cc
    held_none (Some x) is holds = cc

-- what is kept apart may be moved behind the rest
pub released_fits : (e : End) (d : ℕ) (past : List Act) (b : Box) → FitsOpen e d past b → FitsOpen e d past (released b)
released_fits e d past b fits there = released_at e d past b (is_released b.hold) refl (fits there)

-- ## Another box

-- the same past fits where each box does
pub boxes_fit : (e : End) (w : Wired) (old new : Core) (past : List Act) → new ≡ record old { boxes = new.boxes } → ((d : ℕ) → d < 62 → FitsOpen e d past (box_at new d)) → Fits e w old past → Fits e w new past
boxes_fit e w old new past same boxes fits =
    let At : Core → Type 0 = λ c. Fits e w c past in
    let whole : Fits e w (record old { boxes = new.boxes }) past = record {
      setting_is = fits.setting_is;
      echo_is = fits.echo_is;
      station_is = fits.station_is;
      lawful = fits.lawful;
      complete = fits.complete;
      allowed = fits.allowed;
      free = fits.free;
      modem_is = fits.modem_is;
      boxes_are = boxes;
      come_is = fits.come_is;
      left_is = fits.left_is;
      closed_is = fits.closed_is;
      came_are = fits.came_are;
      gone_are = fits.gone_are;
    } in
    subst At (sym same) whole

-- an end goes on by no act from a past that it fits
unfoldable pub stays : (may : Act → Bool) (e : End) (w : Wired) (past : List Act) (c : Core) → Fits e w c past → GoesFrom may e w past c
stays may e w past c fits = record { now = past; later = record { newer = []; joins = refl }; only = refl; fits = fits }

-- and from whatever past
pub goes_none : (may : Act → Bool) (c : Core) → Goes may c c
goes_none may c e w past fits = stays may e w past c fits

-- a past that goes on and goes on again went on
unfoldable pub later_then : (a b c : List Act) → IsLater a b → IsLater b c → IsLater a c
later_then a b c p q = record { newer = q.newer ++ p.newer; joins = append_assoc q.newer p.newer a ∙ ap (λ x. q.newer ++ x) p.joins ∙ q.joins }

-- where all of two lists pass, all of both together do
pub both_all : {A : Type 0} (may : A → Bool) (xs ys : List A) → list_all may xs ≡ true → list_all may ys ≡ true → list_all may (xs ++ ys) ≡ true
both_all may [] ys all all_too = all_too
both_all may (x ∷ xs) ys all all_too =
    let both = both_true (may x) (list_all may xs) all in
    ap (λ (b : Bool). b && list_all may (xs ++ ys)) both.0 ∙ both_all may xs ys both.1 all_too

-- one after the other
unfoldable pub from_then : (may : Act → Bool) (e : End) (w : Wired) (past : List Act) (b c : Core) (first : GoesFrom may e w past b) → GoesFrom may e w first.now c → GoesFrom may e w past c
unfolding later_then
from_then may e w past b c first second = record {
  now = second.now;
  later = later_then past first.now second.now first.later second.later;
  only = both_all may second.later.newer first.later.newer second.only first.only;
  fits = second.fits;
}

-- an end that goes on and goes on again goes on
pub goes_then : (may : Act → Bool) (a b c : Core) → Goes may a b → Goes may b c → Goes may a c
goes_then may a b c p q e w past fits =
    let first = p e w past fits in
    from_then may e w past b c first (q e w first.now first.fits)

-- the box of a connection turns to another that fits
pub box_stays : (old new : Core) (d : ℕ) (b : Box) → length old.boxes ≡ 62 → d < 62 → new ≡ record old { boxes = slice_set old.boxes d b } → ((e : End) (past : List Act) → FitsOpen e d past (box_at old d) → FitsOpen e d past b) → (e : End) (w : Wired) (past : List Act) → Fits e w old past → Fits e w new past
box_stays old new d b all small same turns e w past fits =
    let boxes : new.boxes ≡ slice_set old.boxes d b = ap (λ (c : Core). c.boxes) same in
    let inside : d < length old.boxes = omega arith in
    let each : (n : ℕ) → n < 62 → FitsOpen e n past (box_at new n) = λ n n_small.
    let At : Box → Type 0 = λ x. FitsOpen e n past x in
    subst At (sym (ap (λ bs. slice_index_or bs n fresh_box) boxes)) (turned e w past fits n n_small (d == n) refl inside) in
    boxes_fit e w old new past (same ∙ ap (λ bs. record old { boxes = bs }) (sym boxes)) each fits
  where
    turned : (e : End) (w : Wired) (past : List Act) → Fits e w old past → (n : ℕ) → n < 62 → (here : Bool) → (d == n) ≡ here → d < length old.boxes → FitsOpen e n past (slice_index_or (slice_set old.boxes d b) n fresh_box)
    turned e w past fits n n_small true is inside =
        let At : Box → Type 0 = λ x. FitsOpen e n past x in
        let same_one : d ≡ n = grind (arith, nat_tests) in
        let There : ℕ → Type 0 = λ m. FitsOpen e m past b in
        subst At (sym (box_here old.boxes n d b true is inside)) (subst There same_one (turns e past (fits.boxes_are d small)))
    turned e w past fits n n_small false is inside =
        let At : Box → Type 0 = λ x. FitsOpen e n past x in
        subst At (sym (box_here old.boxes n d b false is inside)) (fits.boxes_are n n_small)

-- ## A call on the station

-- as Fits says, but for a step whose call doesn't stand yet
pub record Stands (e : End) (w : Wired) (c : Core) (past : List Act) : Type 0 where
  pub setting_is : stations.setting_of c.station ≡ setting e
  pub echo_is : c.echo ≡ e.echo
  pub station_is : fitting.StationFits c.station (wire past)
  pub lawful : sending.StationLawful (setting e) (wire past)
  pub complete : sending.StationComplete (setting e) (wire past)
  pub allowed : EachAllowed e past
  pub modem_is : modem_after e past ≡ c.modem
  pub boxes_are : (d : ℕ) → d < 62 → FitsOpen e d past (box_at c d)
  pub come_is : saturated (length (heard past)) ≡ c.come
  pub left_is : left e past ≡ that_act c.steps
  pub closed_is : is_closed_down past ≡ c.closed
  pub came_are : got past ≡ w.came
  pub gone_are : sent past ≡ w.gone ++ c.station.queue

-- an end that fits stands so
pub stands : (e : End) (w : Wired) (c : Core) (past : List Act) → Fits e w c past → Stands e w c past
stands e w c past fits = record {
  setting_is = fits.setting_is;
  echo_is = fits.echo_is;
  station_is = fits.station_is;
  lawful = fits.lawful;
  complete = fits.complete;
  allowed = fits.allowed;
  modem_is = fits.modem_is;
  boxes_are = fits.boxes_are;
  come_is = fits.come_is;
  left_is = fits.left_is;
  closed_is = fits.closed_is;
  came_are = fits.came_are;
  gone_are = fits.gone_are;
}

-- a call changes the station, maybe a box, and whether the end has closed down
pub record Calls (old new : Core) (call : station.Call) (boxes : List Box) (closes : Bool) : Type 0 where
  pub at_station : fitting.StationHandles old.station new.station (station.Called call)
  pub rest_is : new ≡ record old { station = new.station; boxes = boxes; closed = closes || old.closed }

-- with a call that may be made, and all that it calls for, the end fits
pub called_goes : (e : End) (w : Wired) (old new : Core) (past : List Act) (call : station.Call) (boxes : List Box) → Calls old new call boxes (closes_down past (station.Called call)) → Allows e past (Wire (station.Called call)) → ((d : ℕ) → d < 62 → FitsOpen e d (Wire (station.Called call) ∷ past) (slice_index_or boxes d fresh_box)) → Stands e w old past → Fits e w new (after_wire_act e past (station.Called call))
called_goes e w old new past call boxes calls allowed fit stood =
    let a : station.Act = station.Called call in
    let fs = sending.called_frames (setting e) (wire past) a in
    let keeps = answers_keep (setting e) (wire past) a in
    let There : List station.Act → Type 0 = λ p. fitting.StationFits new.station p in
    let LawfulAt : List station.Act → Type 0 = λ p. sending.StationLawful (setting e) p in
    let CompleteAt : List station.Act → Type 0 = λ p. sending.StationComplete (setting e) p in
    let By : sending.StationSetting → Type 0 = λ s. fitting.StationFits new.station (sending.after_act s (wire past) a) in
    let whole = sym (wire-sent_after fs (Wire a ∷ past)) in
    let station_fits = subst By stood.setting_is (calls.at_station.fits (wire past) stood.station_is) in
    let heard_is = heard-sent_after fs (Wire a ∷ past) in
    record {
      setting_is = calls.at_station.setting ∙ stood.setting_is;
      echo_is = ap (λ (c : Core). c.echo) calls.rest_is ∙ stood.echo_is;
      station_is = subst There whole station_fits;
      lawful = subst LawfulAt whole (keeps.lawful refl stood.lawful stood.complete);
      complete = subst CompleteAt whole (keeps.complete refl stood.lawful stood.complete);
      allowed = allowed-sent_after e fs a past (allowed, stood.allowed);
      free = owed-sent_after fs a past;
      modem_is = ap (λ hs. after_lines e.modem (texts_of hs)) heard_is ∙ stood.modem_is ∙ sym (ap (λ (c : Core). c.modem) calls.rest_is);
      boxes_are = λ d small.
          let At : Box → Type 0 = λ b. FitsOpen e d (after_wire_act e past a) b in
          subst At (sym (ap (λ (c : Core). box_at c d) calls.rest_is)) (box-sent_after e fs (Wire a ∷ past) d (slice_index_or boxes d fresh_box) (fit d small));
      come_is = ap (λ hs. saturated (length hs)) heard_is ∙ stood.come_is ∙ sym (ap (λ (c : Core). c.come) calls.rest_is);
      left_is = ap (λ ds. drop (length ds) (that_act e.steps)) (done-sent_after fs (Wire a ∷ past)) ∙ stood.left_is ∙ ap that_act (sym (ap (λ (c : Core). c.steps) calls.rest_is));
      closed_is = closed-sent_after fs (Wire a ∷ past)
          ∙ ap (λ (b : Bool). closes_down past a || b) stood.closed_is
          ∙ sym (ap (λ (c : Core). c.closed) calls.rest_is);
      came_are = got-sent_after fs (Wire a ∷ past) ∙ stood.came_are;
      gone_are = sent_queued e old.station new.station past a w.gone stood.station_is station_fits refl refl stood.gone_are;
    }

-- ## Octets for the station

halves : (n : ℕ) (xs : List ℕ) → xs ≡ take n xs ++ drop (length (take n xs)) xs
halves zero [] = refl
halves (suc n) [] = refl
halves zero (x ∷ xs) = refl
halves (suc n) (x ∷ xs) = ap (λ ys. x ∷ ys) (halves n xs)

offered_box : (e : End) (past : List Act) (d n : ℕ) (octets rest : List ℕ) (b own : Box) (here : Bool) → (d == n) ≡ here → (here ≡ true → own ≡ b) → b.unsent ≡ octets ++ rest → FitsOpen e n past own → FitsOpen e n (Wire (station.Called (station.Offer d octets)) ∷ past) (if here then record b { unsent = rest } else own)
offered_box e past d n octets rest b own true is same parts fits =
    let At : Box → Type 0 = λ x. FitsOpen e n past x in
    box_still e past (station.Called (station.Offer d octets)) n b rest (called_still n past (station.Offer d octets)) (parts ∙ ap (λ (h : Bool). (if h then octets else []) ++ rest) (sym is)) (subst At (same refl) fits)
offered_box e past d n octets rest b own false is same parts fits =
    box_still e past (station.Called (station.Offer d octets)) n own own.unsent (called_still n past (station.Offer d octets)) (ap (λ (h : Bool). (if h then octets else []) ++ own.unsent) (sym is)) fits

-- nothing is sent for it
abbrev none_asked : List Frame
none_asked = []

none_sent : (lost taken : Bool) → (if lost then [] else if taken then [] else []) ≡ none_asked
none_sent true taken = refl
none_sent false true = refl
none_sent false false = refl

none_called : (e : End) (past : List Act) (d : ℕ) (octets : List ℕ) → after_wire_act e past (station.Called (station.Offer d octets)) ≡ Wire (station.Called (station.Offer d octets)) ∷ past
none_called e past d octets =
    let a : station.Act = station.Called (station.Offer d octets) in
    ap (λ fs. wire_after fs (Wire a ∷ past))
    (none_sent (list_any sending.is_loss (wire past)) (is_none (sending.refused (setting e) (sending.station_view (setting e) (wire past)) (station.Offer d octets))))

-- the first of the octets that are unsent are handed to the station
pub hands_goes : (old new : Core) (d most : ℕ) (b : Box) (octets : List ℕ) → length old.boxes ≡ 62 → d < 62 → is_opened (stations.channel_at old.station d).state ≡ true → b ≡ box_at old d → octets ≡ take most b.unsent → fitting.StationHandles old.station new.station (station.Called (station.Offer d octets)) → new ≡ record old { station = new.station; boxes = slice_set old.boxes d (record b { unsent = drop (length octets) b.unsent }) } → octets ≢ [] → Offering old new d
hands_goes old new d most b octets all small opened here taken handles same some e w past fits =
    let rest = drop (length octets) b.unsent in
    let inside : d < length old.boxes = omega arith in
    let parts : b.unsent ≡ octets ++ rest =
    halves most b.unsent ∙ ap (λ x. x ++ drop (length x) b.unsent) (sym taken) in
    let At : Box → Type 0 = λ x. BoxFits e d past x in
    let fit = subst At (sym here) (fits.boxes_are d small (sym (opened_is e w old past d small fits) ∙ opened)) in
    let There : List Act → Type 0 = λ now. Fits e w new now in
    record {
      octets = octets;
      some = some;
      fits = subst There (none_called e past d octets)
          (called_goes e w old new past (station.Offer d octets) (slice_set old.boxes d (record b { unsent = rest }))
          (record { at_station = handles; rest_is = same })
          (record { free = fits.free; some = some; next = said_begins e d past b octets rest (is_released b.hold) refl parts fit })
          (λ n n_small.
          let There : Box → Type 0 = λ x. FitsOpen e n (Wire (station.Called (station.Offer d octets)) ∷ past) x in
          subst There (sym (box_here old.boxes n d (record b { unsent = rest }) (d == n) refl inside))
          (offered_box e past d n octets rest b (box_at old n) (d == n) refl (λ on. sym (ap (box_at old) (one_connection on)) ∙ sym here) parts (fits.boxes_are n n_small)))
          (stands e w old past fits));
    }
  where
    one_connection : {m n : ℕ} → (m == n) ≡ true → m ≡ n
    one_connection {m} {n} is = grind (arith, nat_tests)

-- where a hold that is over is let go the end fits the same past
pub release_stays : (old new : Core) (d : ℕ) → length old.boxes ≡ 62 → d < 62 → new ≡ boxed old d (released (box_at old d)) → (e : End) (w : Wired) (past : List Act) → Fits e w old past → Fits e w new past
release_stays old new d all small same = box_stays old new d (released (box_at old d)) all small same (λ e past fits. released_fits e d past (box_at old d) fits)

-- so it goes on by no act
pub release_goes : (old new : Core) (d : ℕ) → length old.boxes ≡ 62 → d < 62 → new ≡ boxed old d (released (box_at old d)) → Goes is_handing old new
release_goes old new d all small same e w past fits = stays is_handing e w past new (release_stays old new d all small same e w past fits)

-- where not one of two is so neither is
pub neither : (a b : Bool) → (a || b) ≡ false → (a ≡ false) × (b ≡ false)
neither true b is = cc
neither false b is = (refl, is)

-- ## How much is left to hand on

set_over : (boxes : List Box) (d : ℕ) (b : Box) → d < length boxes → holds_over (slice_set boxes d b) + over (slice_index_or boxes d fresh_box) ≡ holds_over boxes + over b
set_over [] d b inside = absurd (omega (arith, inside))
set_over (x ∷ boxes) zero b inside = omega arith
set_over (x ∷ boxes) (suc d) b inside = let rest = set_over boxes d b (omega (arith, inside)) in omega (arith, rest)

abbrev the_count : Bool → ℕ
the_count o = if o then 1 else 0

-- letting go of a hold that is over leaves one less
released_less : (b : Box) (ends : Bool) → is_released b.hold ≡ ends → ends ≡ true → over (if ends then record b { unsent = b.unsent ++ b.held; held = []; hold = None } else b) < over b
released_less b true is really =
    let one : (if is_released b.hold then 1 else 0) ≡ 1 = ap (λ (o : Bool). the_count o) is in
    omega (arith, one)
released_less b false is really = cc

-- so fewer holds are over where a call says that it let one go
pub fewer_released : {E : Type 0} (boxes : List Box) (d : ℕ) (b now : Box) (r : Result Bool E) → d < length boxes → b ≡ slice_index_or boxes d fresh_box → IfOk r (λ moved. moved ≡ is_released b.hold) → OnOk r (now ≡ released b) → IfOk r (λ moved. moved ≡ true → holds_over (slice_set boxes d now) < holds_over boxes)
fewer_released boxes d b now (Ok moved) inside here ends is = λ really.
    let less : over (released b) < over b = released_less b (is_released b.hold) refl (sym ends ∙ really) in
    let set = set_over boxes d now inside in
    let same = ap over here in
    let same_now = ap over is in
    omega (arith, less, set, same, same_now)
fewer_released boxes d b now (Err why) inside here ends is = tt

-- handing on octets leaves as many
pub same_over : (boxes : List Box) (d : ℕ) (b : Box) (unsent : List ℕ) → d < length boxes → b ≡ slice_index_or boxes d fresh_box → holds_over (slice_set boxes d (record b { unsent = unsent })) ≡ holds_over boxes
same_over boxes d b unsent inside here =
    let set = set_over boxes d (record b { unsent = unsent }) inside in
    let same = ap over here in
    omega (arith, set, same)

-- ## What goes out

queue_of_past : (e : End) (w : Wired) (c : Core) (past : List Act) → c.station.queue ≡ [] → Fits e w c past → sending.queue (wire past) ≡ []
queue_of_past e w c past none fits = fits.station_is.queue_is ∙ none

some_queued : (f : Frame) (fs : List Frame) → f ∷ fs ≡ [] → ⊥
some_queued f fs same = cc

given_data : (e : End) (w : Wired) (c : Core) (past : List Act) (f : Frame) (o : Option ℕ) → c.station.queue ≡ [] → Fits e w c past → fitting.StationFits (data_given c.station o) (data_sent c.station o (wire past)) → sending.StationLawful (setting e) (data_sent c.station o (wire past)) → sending.StationComplete (setting e) (data_sent c.station o (wire past)) → option_map (data_frame c.station) o ≡ Some f → GivesFrom e w past f (record c { station = data_given c.station o })
given_data e w c past f None none fits there lawful complete is = cc
given_data e w c past f (Some d) none fits there lawful complete is =
    let g = data_frame c.station d in
    let same : g ≡ f = some_same g f is in
    record {
      now = Wire (station.Sent g) ∷ past;
      given = subst (λ x. IsGivenOn past x (Wire (station.Sent g) ∷ past)) same (sent_now (queue_of_past e w c past none fits));
      fits = record {
        setting_is = fits.setting_is;
        echo_is = fits.echo_is;
        station_is = there;
        lawful = lawful;
        complete = complete;
        allowed = (fits.free, fits.allowed);
        free = refl;
        modem_is = fits.modem_is;
        boxes_are = λ n small. box_still e past (station.Sent g) n (box_at c n) (box_at c n).unsent (sent_still n past g) refl (fits.boxes_are n small);
        come_is = fits.come_is;
        left_is = fits.left_is;
        closed_is = fits.closed_is;
        came_are = fits.came_are;
        gone_are = ap (λ x. x ++ g ∷ []) (fits.gone_are ∙ ap (λ q. w.gone ++ q) none ∙ append-nil w.gone)
            ∙ ap (λ x. w.gone ++ x ∷ []) same
            ∙ sym (append-nil (w.gone ++ f ∷ []))
            ∙ ap (λ q. (w.gone ++ f ∷ []) ++ q) (sym none);
      };
    }
  where
    some_same : (g f : Frame) → Some g ≡ Some f → g ≡ f
    some_same g f is = cc

given_by : (e : End) (w : Wired) (c : Core) (past : List Act) (f : Frame) (q : List Frame) → c.station.queue ≡ q → Fits e w c past → fitting.StationFits (station_after c.station q) (after_given c.station q (wire past)) → sending.StationLawful (setting e) (after_given c.station q (wire past)) → sending.StationComplete (setting e) (after_given c.station q (wire past)) → next_given c.station q ≡ Some f → GivesFrom e w past f (record c { station = station_after c.station q })
given_by e w c past f [] queue fits there lawful complete is = given_data e w c past f (next_turn c.station) queue fits there lawful complete is
given_by e w c past f (g ∷ q) queue fits there lawful complete is =
    let same : g ≡ f = some_same g f is in
    record {
      now = Wire station.Given ∷ past;
      given = from_queue q (fits.station_is.queue_is ∙ queue ∙ ap (λ x. x ∷ q) same);
      fits = record {
        setting_is = fits.setting_is;
        echo_is = fits.echo_is;
        station_is = there;
        lawful = lawful;
        complete = complete;
        allowed = (record { free = fits.free; waits = λ none. some_queued g q (sym queue ∙ sym fits.station_is.queue_is ∙ none) }, fits.allowed);
        free = refl;
        modem_is = fits.modem_is;
        boxes_are = λ n small. box_still e past station.Given n (box_at c n) (box_at c n).unsent (given_still n past) refl (fits.boxes_are n small);
        come_is = fits.come_is;
        left_is = fits.left_is;
        closed_is = fits.closed_is;
        came_are = fits.came_are;
        gone_are = fits.gone_are ∙ ap (λ x. w.gone ++ x) queue ∙ sym (append_assoc w.gone (g ∷ []) q) ∙ ap (λ x. (w.gone ++ x ∷ []) ++ q) same;
      };
    }
  where
    some_same : (g f : Frame) → Some g ≡ Some f → g ≡ f
    some_same g f is = cc

-- an end goes on with the frame that its station gives on
pub gives_out : (c : Core) → GivesOn c.station → GivesOut c
gives_out c gives f is e w past fits =
    let There : sending.StationSetting → Type 0 = λ s. sending.StationLawful s (wire past) in
    let Whole : sending.StationSetting → Type 0 = λ s. sending.StationComplete s (wire past) in
    let ThereAfter : sending.StationSetting → Type 0 = λ s. sending.StationLawful s (after_given c.station c.station.queue (wire past)) in
    let WholeAfter : sending.StationSetting → Type 0 = λ s. sending.StationComplete s (after_given c.station c.station.queue (wire past)) in
    let lawful = subst There (sym fits.setting_is) fits.lawful in
    let complete = subst Whole (sym fits.setting_is) fits.complete in
    given_by e w c past f c.station.queue refl fits (gives.fits (wire past) fits.station_is)
    (subst ThereAfter fits.setting_is (gives.lawful (wire past) fits.station_is lawful complete))
    (subst WholeAfter fits.setting_is (gives.complete (wire past) fits.station_is lawful complete))
    is
