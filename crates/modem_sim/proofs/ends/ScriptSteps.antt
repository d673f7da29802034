-- The steps of a script are done.
use Rattle.std.specs.Prelude.{◌≡◌, ℕ, zero, suc, ◌+◌, ◌<◌, ◌≤◌, nat_le, nat_lt, ◌==◌, ◌&&◌, ◌||◌, not, Result, Ok, Err, OnOk, OnErr, is_ok, Bool, true, false, List, [], ◌∷◌, ◌++◌, length, drop, Option, None, Some, slice_index_or, slice_set, refl, if◌then◌else◌}
use Rattle.std.specs.List.{list_all}
use Rattle.std.specs.Result.{result_err}
use Rattle.std.proofs.Common.{lit<, arith, sym, ap, ◌∙◌, subst, append_assoc, append-nil, length-append, get_or}
use Rattle.std.proofs.lemmas.Bool.Decides.{nat_tests}
use Rattle.std.proofs.lemmas.List.{drop-drop}
use Rattle.at_cmds.proofs.command_texts.CommandLines.{both_true}
use Rattle.mux_frame.specs.declared.dlci.Dlci.{Dlci}
use Rattle.mux_station.specs.declared.role.Role.TheVariants.{Responder}
use Rattle.mux_station.specs.declared.error.StationError.{StationError}
use Rattle.mux_station.specs.Acts as station
use Rattle.mux_station.specs.Sending as sending
use Rattle.mux_station.specs.Stations as stations
use Rattle.mux_station.specs.Fitting as fitting
use Rattle.mux_station.specs.Offering.{offered, octets_offered}
use Rattle.mux_station.specs.States.{is_opened}
use Rattle.mux_station.proofs.user_calls.ProbeStopFlowOffer.{sees_the_past}
use Rattle.modem_sim.specs.declared.script.Step.{Step}
use Rattle.modem_sim.specs.declared.script.StepAct.{StepAct}
use Rattle.modem_sim.specs.declared.script.StepAct.TheVariants.{Announce, Flow, Hold, Disconnect, CloseDown}
use Rattle.modem_sim.specs.Acts.{Act, Wire, Did, End, is_step_act, setting, wire, is_open_at_modem}
use Rattle.modem_sim.specs.Heard.{heard}
use Rattle.modem_sim.specs.Pieces.{Announced, framed, pieces_octets}
use Rattle.modem_sim.specs.Outboxes.{Outbox, outbox, hold_on, is_holding}
use Rattle.modem_sim.specs.Boxes.{Box, BoxFits, FitsOpen, fresh_box, is_released, released, box_announced, box_holding}
use Rattle.modem_sim.specs.Doing.{acts, call_of, done, is_free, left, named_by, closes_down}
use Rattle.modem_sim.specs.Histories.{Allows, MayDo, IsAsked}
use Rattle.serial_line.specs.Counts.{saturated}
use Rattle.modem_sim.specs.Cores.{AtStation, HasNoneToDo, HasPassed, asks_nothing, asks, Refuses, Core, Wired, GoesFrom, Goes, Fits, after_wire_act, are_free_in, are_open_in, boxes_done, closes_by, that_act}
use Rattle.modem_sim.proofs.law_proofs.Histories.{spelled-append}
use Rattle.modem_sim.proofs.connections.BoxesAfterFrame.{box_still, called_still, was_open}
use Rattle.modem_sim.proofs.ends.EndAfterFrame.{box_here, later-sent_after, only_sent, opened_is}
use Rattle.modem_sim.proofs.ends.OfferedPieces.{Stands, both_all, called_goes, released_fits, said_is, same_held, stays}

-- ## Boxes

not_over_at : (b : Box) (over : Bool) → is_released b.hold ≡ over → is_released (if over then record b { unsent = b.unsent ++ b.held; held = []; hold = None } else b).hold ≡ false
not_over_at b true is = refl
not_over_at b false is = is

-- a box that was let go has no hold that is over
pub not_over : (b : Box) → is_released (released b).hold ≡ false
not_over b = not_over_at b (is_released b.hold) refl

-- an outbox with a line more, if it is this connection's
abbrev with_line : Outbox → List ℕ → Bool → Outbox
with_line o line here = if here then record { said = o.said ++ Announced line ∷ []; held = o.held } else o

announced_at : (e : End) (past : List Act) (d : ℕ) (x : Dlci) (line : List ℕ) (b : Box) (here : Bool) → (x.number == d) ≡ here → is_open_at_modem d past ≡ true → FitsOpen e d past b → BoxFits e d (Did (Announce x line) ∷ past) (if here then box_announced line b else b)
announced_at e past d x line b true is there fits =
    let r = released b in
    let fit = released_fits e d past b fits there in
    let over = not_over b in
    let o = outbox e d past in
    let given = offered Responder d (wire past) in
    record {
      run_is = fit.run_is;
      hold_is = fit.hold_is;
      all_is = ap (λ (h : Bool). pieces_octets (with_line o line h).said ++ pieces_octets (with_line o line h).held) is
          ∙ ap (λ y. y ++ pieces_octets o.held) (spelled-append o.said (Announced line ∷ []) ∙ ap (λ y. pieces_octets o.said ++ y) (append-nil (framed line)))
          ∙ ap (λ y. (y ++ framed line) ++ pieces_octets o.held) (said_is e d past r over fit)
          ∙ ap (λ y. ((given ++ r.unsent) ++ framed line) ++ y) (same_held e d past r over fit)
          ∙ ap (λ y. y ++ r.held) (append_assoc given r.unsent (framed line))
          ∙ append_assoc given (r.unsent ++ framed line) r.held;
      held_is = λ holds. ap (λ (h : Bool). pieces_octets (with_line o line h).held) is ∙ fit.held_is holds;
      apart = fit.apart;
      call_is = fit.call_is;
    }
announced_at e past d x line b false is there fits =
    let fit = fits there in
    let o = outbox e d past in
    record {
      run_is = fit.run_is;
      hold_is = fit.hold_is;
      all_is = ap (λ (h : Bool). pieces_octets (with_line o line h).said ++ pieces_octets (with_line o line h).held) is ∙ fit.all_is;
      held_is = λ holds. ap (λ (h : Bool). pieces_octets (with_line o line h).held) is ∙ fit.held_is holds;
      apart = fit.apart;
      call_is = fit.call_is;
    }

holding_at : (e : End) (past : List Act) (d : ℕ) (x y : Dlci) (b : Box) (here : Bool) → (x.number == d) ≡ here → is_open_at_modem d past ≡ true → FitsOpen e d past b → BoxFits e d (Did (Hold x y) ∷ past) (if here then box_holding y.number b else b)
holding_at e past d x y b true is there fits =
    let fit = released_fits e d past b fits there in
    record {
      run_is = fit.run_is;
      hold_is = ap (λ (h : Bool). if h then Some y.number else hold_on d past) is;
      all_is = fit.all_is;
      held_is = λ holds. same_held e d past (released b) (not_over b) fit;
      apart = λ none. cc;
      call_is = fit.call_is;
    }
holding_at e past d x y b false is there fits =
    let fit = fits there in
    let same = ap (λ (h : Bool). if h then Some y.number else hold_on d past) is in
    record {
      run_is = fit.run_is;
      hold_is = same ∙ fit.hold_is;
      all_is = fit.all_is;
      held_is = λ holds. fit.held_is (sym (ap is_holding same) ∙ holds);
      apart = fit.apart;
      call_is = fit.call_is;
    }

-- the box of a place, among which one was put
put_at : (boxes : List Box) (n d : ℕ) (turn : Box → Box) (here : Bool) → (n == d) ≡ here → n < length boxes → (if here then turn (slice_index_or boxes d fresh_box) else slice_index_or boxes d fresh_box) ≡ slice_index_or (slice_set boxes n (turn (slice_index_or boxes n fresh_box))) d fresh_box
put_at boxes n d turn true is inside =
    let same : n ≡ d = grind (arith, nat_tests) in
    ap (λ m. turn (slice_index_or boxes m fresh_box)) (sym same)
    ∙ sym (box_here boxes d n (turn (slice_index_or boxes n fresh_box)) true is inside)
put_at boxes n d turn false is inside = sym (box_here boxes d n (turn (slice_index_or boxes n fresh_box)) false is inside)

-- what is kept of each connection after a step
step_fits : (e : End) (past : List Act) (act : StepAct) (boxes : List Box) → length boxes ≡ 62 → ((d : ℕ) → d < 62 → FitsOpen e d past (slice_index_or boxes d fresh_box)) → (d : ℕ) → d < 62 → FitsOpen e d (Did act ∷ past) (slice_index_or (boxes_done act boxes) d fresh_box)
step_fits e past (Announce x line) boxes all fits d small there =
    let inside : x.number < length boxes = let low = x.in_range in omega arith in
    let At : Box → Type 0 = λ b. BoxFits e d (Did (Announce x line) ∷ past) b in
    subst At (put_at boxes x.number d (box_announced line) (x.number == d) refl inside)
    (announced_at e past d x line (slice_index_or boxes d fresh_box) (x.number == d) refl there (fits d small))
step_fits e past (Flow x go) boxes all fits d small there = let fit = fits d small there in record { run_is = fit.run_is; hold_is = fit.hold_is; all_is = fit.all_is; held_is = fit.held_is; apart = fit.apart; call_is = fit.call_is }
step_fits e past (Hold x y) boxes all fits d small there =
    let inside : x.number < length boxes = let low = x.in_range in omega arith in
    let At : Box → Type 0 = λ b. BoxFits e d (Did (Hold x y) ∷ past) b in
    subst At (put_at boxes x.number d (box_holding y.number) (x.number == d) refl inside)
    (holding_at e past d x y (slice_index_or boxes d fresh_box) (x.number == d) refl there (fits d small))
step_fits e past (Disconnect x) boxes all fits d small there = let fit = fits d small there in record { run_is = fit.run_is; hold_is = fit.hold_is; all_is = fit.all_is; held_is = fit.held_is; apart = fit.apart; call_is = fit.call_is }
step_fits e past CloseDown boxes all fits d small there = let fit = fits d small there in record { run_is = fit.run_is; hold_is = fit.hold_is; all_is = fit.all_is; held_is = fit.held_is; apart = fit.apart; call_is = fit.call_is }

-- ## The step

-- what a step asks for
calls_close : (act : StepAct) (call : station.Call) (past : List Act) → call_of act ≡ Some call → closes_down past (station.Called call) ≡ closes_by act
calls_close (Announce x line) call past is = cc
calls_close (Flow x go) call past is = ap (λ (c : Option station.Call). closes c) (sym is)
  where
    closes : Option station.Call → Bool
    closes None = false
    closes (Some c) = closes_down past (station.Called c)
calls_close (Hold x y) call past is = cc
calls_close (Disconnect x) call past is = ap (λ (c : Option station.Call). closes c) (sym is)
  where
    closes : Option station.Call → Bool
    closes None = false
    closes (Some c) = closes_down past (station.Called c)
calls_close CloseDown call past is = ap (λ (c : Option station.Call). closes c) (sym is)
  where
    closes : Option station.Call → Bool
    closes None = false
    closes (Some c) = closes_down past (station.Called c)

abbrev dlci_asked : Option station.Call → ℕ
dlci_asked None = 0
dlci_asked (Some c) = fitting.call_dlci c

small_asked : (act : StepAct) → dlci_asked (call_of act) < 62
small_asked (Announce x line) = lit< tt
small_asked (Flow x go) = x.in_range
small_asked (Hold x y) = lit< tt
small_asked (Disconnect x) = x.in_range
small_asked CloseDown = lit< tt

-- the call of a step is on a connection below 62
pub calls_small : (act : StepAct) (call : station.Call) → call_of act ≡ Some call → fitting.call_dlci call < 62
calls_small act call is = let Small : Option station.Call → Type 0 = λ o. dlci_asked o < 62 in subst Small is (small_asked act)

-- a step offers nothing
none_offered : (act : StepAct) (call : station.Call) (d : ℕ) {octets : List ℕ} → call_of act ≡ Some call → octets ≡ octets_offered d (station.Called call) ++ octets
none_offered act call d {octets} is = let None_offered : Option station.Call → Type 0 = λ o. octets ≡ offered_by d o ++ octets in subst None_offered is (by_act act)
  where
    offered_by : ℕ → Option station.Call → List ℕ
    offered_by d None = []
    offered_by d (Some c) = octets_offered d (station.Called c)

    by_act : (act : StepAct) → octets ≡ offered_by d (call_of act) ++ octets
    by_act (Announce x line) = refl
    by_act (Flow x go) = refl
    by_act (Hold x y) = refl
    by_act (Disconnect x) = refl
    by_act CloseDown = refl

-- no step asks for an offer
no_offer : (act : StepAct) (d : ℕ) (octets : List ℕ) → call_of act ≡ Some (station.Offer d octets) → ⊥
no_offer (Announce x line) d octets is = cc
no_offer (Flow x go) d octets is = cc
no_offer (Hold x y) d octets is = cc
no_offer (Disconnect x) d octets is = cc
no_offer CloseDown d octets is = cc

asked_allows : (e : End) (past : List Act) (act : StepAct) (call : station.Call) → call_of act ≡ Some call → IsAsked e past call → Allows e past (Wire (station.Called call))
asked_allows e past act (station.Offer d octets) is asked = absurd (no_offer act d octets is)
asked_allows e past act (station.Open d) is asked = asked
asked_allows e past act (station.Close d) is asked = asked
asked_allows e past act (station.Probe octets) is asked = asked
asked_allows e past act station.Stop is asked = asked
asked_allows e past act (station.Flow d go) is asked = asked

-- the step at a place, and those behind it
pub step_at : (steps : List Step) (n : ℕ) (step : Step) → n < length steps → step ≡ get_or steps n step → drop n steps ≡ step ∷ drop (n + 1) steps
step_at [] n step inside is = absurd (omega (arith, inside))
step_at (x ∷ steps) zero step inside is = ap (λ y. y ∷ steps) (sym is)
step_at (x ∷ steps) (suc n) step inside is =
    let same : suc (n + 1) ≡ suc n + 1 = omega arith in
    step_at steps n step (omega arith) is ∙ ap (λ m. step ∷ drop m (x ∷ steps)) same

-- a call that no step of the end closes it by
none_closes : (act : StepAct) → call_of act ≡ None → closes_by act ≡ false
none_closes (Announce x line) is = refl
none_closes (Flow x go) is = refl
none_closes (Hold x y) is = refl
none_closes (Disconnect x) is = refl
none_closes CloseDown is = cc

-- connections are open by what is kept of them where they are by the past
pub they_are_open : (e : End) (w : Wired) (c : Core) (past : List Act) (ds : List ℕ) → list_all (λ d. nat_lt d 62) ds ≡ true → Fits e w c past → list_all (λ d. is_open_at_modem d past) ds ≡ list_all (λ d. is_opened (stations.channel_at c.station d).state) ds
they_are_open e w c past [] small fits = refl
they_are_open e w c past (d ∷ ds) small fits =
    let both = both_true (nat_lt d 62) (list_all (λ d. nat_lt d 62) ds) small in
    let low : d < 62 = grind (arith, nat_tests) in
    ap (λ (o : Bool). o && list_all (λ d. is_open_at_modem d past) ds) (sym (opened_is e w c past d low fits))
    ∙ ap (λ (o : Bool). is_opened (stations.channel_at c.station d).state && o) (they_are_open e w c past ds both.1 fits)

-- a step names connections below 62
pub all_small : (act : StepAct) → list_all (λ d. nat_lt d 62) (named_by act) ≡ true
all_small (Announce x line) = let low = x.in_range in grind (arith, nat_tests)
all_small (Flow x go) = let low = x.in_range in grind (arith, nat_tests)
all_small (Hold x y) = let low = x.in_range in let low_too = y.in_range in grind (arith, nat_tests)
all_small (Disconnect x) = let low = x.in_range in grind (arith, nat_tests)
all_small CloseDown = refl

-- whether a line may be announced is what is kept of its connection
pub are_free : (e : End) (w : Wired) (c : Core) (past : List Act) (act : StepAct) → Fits e w c past → list_all (λ d. is_open_at_modem d past) (named_by act) ≡ true → is_free e past act ≡ are_free_in c.boxes act
are_free e w c past (Announce x line) fits there =
    ap (λ (b : Bool). not b) (fits.boxes_are x.number x.in_range (was_open (is_open_at_modem x.number past) true there)).call_is
are_free e w c past (Flow x go) fits there = refl
are_free e w c past (Hold x y) fits there = refl
are_free e w c past (Disconnect x) fits there = refl
are_free e w c past CloseDown fits there = refl

-- a step that isn't passed over is the first of those that aren't
pub first_acts : (step : Step) (later : List Step) → acts step.act ≡ true → that_act (step ∷ later) ≡ step ∷ that_act later
first_acts step later is = ap (λ (b : Bool). if b then step ∷ that_act later else that_act later) is

first_passed : (step : Step) (later : List Step) → acts step.act ≡ false → that_act (step ∷ later) ≡ that_act later
first_passed step later is = ap (λ (b : Bool). if b then step ∷ that_act later else that_act later) is

-- so many lines have come, also where the count stays at its end
enough : (n after come : ℕ) → saturated n ≡ come → nat_le after come ≡ true → nat_le after n ≡ true
enough n after come is less =
    let low : after ≤ come = grind (arith, nat_tests) in
    let high : after ≤ n = omega arith in
    grind (arith, nat_tests)

-- the steps that are left after it
one_less : (e : End) (past : List Act) (act : StepAct) (step : Step) (later : List Step) → left e past ≡ step ∷ later → left e (Did act ∷ past) ≡ later
one_less e past act step later is =
    let steps = that_act e.steps in
    ap (λ n. drop n steps) (length-append (done past) (act ∷ []))
    ∙ sym (drop-drop 1 (length (done past)) steps)
    ∙ ap (drop 1) is

-- acts by which a step is done
asked_only : (act : StepAct) (call : station.Call) → call_of act ≡ Some call → list_all is_step_act (Wire (station.Called call) ∷ Did act ∷ []) ≡ true
asked_only act (station.Offer d octets) is = absurd (no_offer act d octets is)
asked_only act (station.Open d) is = refl
asked_only act (station.Close d) is = refl
asked_only act (station.Probe octets) is = refl
asked_only act station.Stop is = refl
asked_only act (station.Flow d go) is = refl

-- where a step may be done, and the station takes what it asks, the end goes on
pub does_goes : (old new : Core) (step : Step) (later : List Step) → length old.boxes ≡ 62 → old.steps ≡ step ∷ later → acts step.act ≡ true → nat_le step.after old.come ≡ true → are_open_in old.station step.act ≡ true → are_free_in old.boxes step.act ≡ true → AtStation old.station new.station step.act → new ≡ record old { station = new.station; boxes = boxes_done step.act old.boxes; closed = closes_by step.act || old.closed; steps = later } → Goes is_step_act old new
does_goes old new step later all steps acting come open_are free at_station same e w past fits =
    let act = step.act in
    let first = fits.left_is ∙ ap that_act steps ∙ first_acts step later acting in
    let opened = they_are_open e w old past (named_by act) (all_small act) fits ∙ open_are in
    let may : MayDo e past act = record {
      free = fits.free;
      due = record {
        next = step;
        later = that_act later;
        is_first = first;
        is_its = refl;
        come = enough (length (heard past)) step.after old.come fits.come_is come;
        open_are = opened;
        free = are_free e w old past act fits opened ∙ free;
      };
    } in
    let boxes_are = step_fits e past act old.boxes all fits.boxes_are in
    let stood : Stands e w (record old { boxes = boxes_done act old.boxes; steps = later }) (Did act ∷ past) = record {
      setting_is = fits.setting_is;
      echo_is = fits.echo_is;
      station_is = fits.station_is;
      lawful = fits.lawful;
      complete = fits.complete;
      allowed = (may, fits.allowed);
      modem_is = fits.modem_is;
      boxes_are = boxes_are;
      come_is = fits.come_is;
      left_is = one_less e past act step (that_act later) first;
      closed_is = fits.closed_is;
      came_are = fits.came_are;
      gone_are = fits.gone_are;
    } in
    by_station e w past fits may stood at_station
  where
    by_station : (e : End) (w : Wired) (past : List Act) → Fits e w old past → MayDo e past step.act → Stands e w (record old { boxes = boxes_done step.act old.boxes; steps = later }) (Did step.act ∷ past) → AtStation old.station new.station step.act → GoesFrom is_step_act e w past new
    by_station e w past fits may stood (asks_nothing none still) =
        let whole : Fits e w (record old { boxes = boxes_done step.act old.boxes; steps = later }) (Did step.act ∷ past) = record {
          setting_is = stood.setting_is;
          echo_is = stood.echo_is;
          station_is = stood.station_is;
          lawful = stood.lawful;
          complete = stood.complete;
          allowed = stood.allowed;
          free = none;
          modem_is = stood.modem_is;
          boxes_are = stood.boxes_are;
          come_is = stood.come_is;
          left_is = stood.left_is;
          closed_is = stood.closed_is;
          came_are = stood.came_are;
          gone_are = stood.gone_are;
        } in
        let there : record old { boxes = boxes_done step.act old.boxes; steps = later } ≡ new =
        ap (λ (s : stations.Station). record old { station = s; boxes = boxes_done step.act old.boxes; steps = later }) (sym still)
        ∙ ap (λ (b : Bool). record old { station = new.station; boxes = boxes_done step.act old.boxes; steps = later; closed = b || old.closed }) (sym (none_closes step.act none))
        ∙ sym same in
        let At : Core → Type 0 = λ c. GoesFrom is_step_act e w past c in
        subst At there (record { now = Did step.act ∷ past; later = record { newer = Did step.act ∷ []; joins = refl }; only = refl; fits = whole })
    by_station e w past fits may stood (asks call is taken handles) =
        let mid : Core = record old { boxes = boxes_done step.act old.boxes; steps = later } in
        let closing = calls_close step.act call (Did step.act ∷ past) is in
        let By : sending.StationSetting → Type 0 = λ s. sending.refused s (sending.station_view s (wire past)) call ≡ None in
        let seen = sym (sees_the_past old.station (wire past) call fits.station_is (calls_small step.act call is)) ∙ taken in
        let went = called_goes e w mid new (Did step.act ∷ past) call (boxes_done step.act old.boxes)
        (record {
          at_station = handles;
          rest_is = same ∙ ap (λ (b : Bool). record mid { station = new.station; closed = b || old.closed }) (sym closing);
        })
        (asked_allows e (Did step.act ∷ past) step.act call is (record { owed = is; taken = subst By fits.setting_is seen }))
        (λ d small. box_still e (Did step.act ∷ past) (station.Called call) d (slice_index_or (boxes_done step.act old.boxes) d fresh_box) (slice_index_or (boxes_done step.act old.boxes) d fresh_box).unsent
        (called_still d (Did step.act ∷ past) call) (none_offered step.act call d is) (stood.boxes_are d small))
        stood in
        let fs = sending.called_frames (setting e) (wire past) (station.Called call) in
        let begun = later-sent_after fs (Wire (station.Called call) ∷ Did step.act ∷ past) in
        let first : List Act = Wire (station.Called call) ∷ Did step.act ∷ [] in
        record {
          now = after_wire_act e (Did step.act ∷ past) (station.Called call);
          later = record { newer = begun.newer ++ first; joins = append_assoc begun.newer first past ∙ begun.joins };
          only = both_all is_step_act begun.newer first (only_sent is_step_act (λ f. refl) fs (Wire (station.Called call) ∷ Did step.act ∷ past)) (asked_only step.act call is);
          fits = went;
        }

-- a step that is passed over
pub passes_goes : (old new : Core) (step : Step) (later : List Step) → old.steps ≡ step ∷ later → acts step.act ≡ false → new ≡ record old { steps = later } → Goes is_step_act old new
passes_goes old new step later steps passing same e w past fits =
    let At : Core → Type 0 = λ c. GoesFrom is_step_act e w past c in
    subst At (sym same)
    (stays is_step_act e w past (record old { steps = later }) (record {
      setting_is = fits.setting_is;
      echo_is = fits.echo_is;
      station_is = fits.station_is;
      lawful = fits.lawful;
      complete = fits.complete;
      allowed = fits.allowed;
      free = fits.free;
      modem_is = fits.modem_is;
      boxes_are = fits.boxes_are;
      come_is = fits.come_is;
      left_is = fits.left_is ∙ ap that_act steps ∙ first_passed step later passing;
      closed_is = fits.closed_is;
      came_are = fits.came_are;
      gone_are = fits.gone_are;
    }))

-- no step was passed
pub passed_none : (c : Core) → HasPassed c c
passed_none c = record { passed = []; joins = refl }

-- one was
pub passed_one : (old new : Core) (step : Step) → old.steps ≡ step ∷ new.steps → HasPassed old new
passed_one old new step is = record { passed = step ∷ []; joins = is }

-- some were, and then others
pub passed_then : (a b c : Core) → HasPassed a b → HasPassed b c → HasPassed a c
passed_then a b c p q = record { passed = p.passed ++ q.passed; joins = p.joins ∙ ap (λ xs. p.passed ++ xs) q.joins ∙ sym (append_assoc p.passed q.passed c.steps) }

-- a call that the station took
pub asked_for : (old new : stations.Station) (act : StepAct) (call : station.Call) (r : Result Unit StationError) → call_of act ≡ Some call → result_err r ≡ sending.refused (stations.setting_of old) (stations.seen_in old) call → OnOk r (fitting.StationHandles old new (station.Called call)) → is_ok r ≡ true → AtStation old new act
asked_for old new act call (Ok u) is refusal handles ok = asks call is (sym refusal) handles
asked_for old new act call (Err why) is refusal handles ok = cc

-- a call that the station refused
pub refused_so : (v : stations.Station) (act : StepAct) (call : station.Call) (r : Result Unit StationError) → call_of act ≡ Some call → result_err r ≡ sending.refused (stations.setting_of v) (stations.seen_in v) call → is_ok r ≡ false → Refuses v act
refused_so v act call (Ok u) is refusal none = cc
refused_so v act call (Err why) is refusal none = record { call = call; asked = is; refused = λ taken. some (refusal ∙ taken) }
  where
    some : Some why ≡ None → ⊥
    some same = cc

-- what holds anyway holds of a refusal
pub refused_any : {T E : Type 0} {P : Type 0} (r : Result T E) → P → OnErr r P
refused_any (Ok x) holds = tt
refused_any (Err why) holds = holds

-- whether it took the call or not, it keeps its N1
pub n1_stays : {T E : Type 0} (old new : stations.Station) (a : station.Act) (r : Result T E) → OnOk r (fitting.StationHandles old new a) → OnErr r (new ≡ old) → new.n1 ≡ old.n1
n1_stays old new a (Ok x) handles same = ap (λ (s : sending.StationSetting). s.n1) handles.setting
n1_stays old new a (Err why) handles same = ap (λ (v : stations.Station). v.n1) same

-- one step more, and fewer are left
pub still_fewer : (old mid new : Core) (done : Bool) → (done ≡ false → mid ≡ old) → (done ≡ true → length mid.steps < length old.steps) → length new.steps < length mid.steps → length new.steps < length old.steps
still_fewer old mid new true same less last = let first = less refl in omega (arith, first, last)
still_fewer old mid new false same less last = let first = ap (λ (c : Core). length c.steps) (same refl) in omega (arith, first, last)

-- nothing was done by the last one, after which none can be
pub none_after : (old new : Core) → new ≡ old → HasNoneToDo old → HasNoneToDo new
none_after old new same none = let There : Core → Type 0 = λ c. HasNoneToDo c in subst There (sym same) none
