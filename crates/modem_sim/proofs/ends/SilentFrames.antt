-- An end goes on with a frame that ends no line.
use Rattle.std.specs.Prelude.{◌≡◌, ◌≢◌, ℕ, ◌+◌, ◌^◌, ◌<◌, ◌≤◌, ◌==◌, nat_lt, Result, Ok, Err, OnErr, slice_index, ◌&&◌, ◌||◌, Bool, true, false, List, [], ◌∷◌, ◌++◌, length, map, Option, None, Some, slice_set, refl, if◌then◌else◌}
use Rattle.std.specs.List.{list_any}
use Rattle.std.proofs.lemmas.List.Folds.{list_any_at}
use Rattle.std.proofs.Common.{arith, sym, ap, ◌∙◌, subst, append-nil}
use Rattle.mux_frame.specs.Frames.{Frame}
use Rattle.mux_station.specs.Acts as station
use Rattle.mux_station.specs.Stations as stations
use Rattle.mux_station.specs.Fitting as fitting
use Rattle.serial_line.specs.Counts.{saturated}
use Rattle.at_text.specs.Lines.{is_line_end, lines, kept_run}
use Rattle.modem_sim.specs.declared.state.ModemState.{ModemState}
use Rattle.modem_sim.specs.Laws.{after_lines}
use Rattle.modem_sim.specs.Outboxes.{any_call}
use Rattle.modem_sim.specs.Pieces.{pieces_octets, replies}
use Rattle.modem_sim.specs.Boxes.{Box, Waited, box_heard, box_taken, box_turned, fresh_box, hold_heard, said_with}
use Rattle.modem_sim.specs.Cores.{Core, EndGoesOn, Takes, box_at, brought, closes_in, lines_in, octets_in, opens_in}
use Rattle.modem_sim.proofs.connections.OctetReplies.{or_none}
use Rattle.modem_sim.proofs.ends.EndAfterFrame.{takes_goes_on}

-- nothing is said
said_nothing : (h : Option Waited) (b : Box) → said_with h b [] ≡ b
said_nothing None b = ap (λ (xs : List ℕ). record b { unsent = xs }) (append-nil b.unsent)
said_nothing (Some w) b = ap (λ (xs : List ℕ). record b { held = xs }) (append-nil b.held)

-- its box keeps the octets alone
silent_box : (opens echo : Bool) (m : ModemState) (b : Box) (run : List ℕ) (ls : List (List ℕ)) → ls ≡ []
    → (if opens then fresh_box else record b { run = run }) ≡ box_turned opens true (record { run = run; said = pieces_octets (replies echo m ls); calls = any_call m ls }) b
silent_box true echo m b run ls none = refl
silent_box false echo m b run ls none =
    ap (λ (t : Bool). record b { run = run; through = t }) (sym (or_none b.through))
    ∙ ap (λ (x : Box). record x { run = run; through = b.through || false }) (sym (said_nothing b.hold b))
    ∙ ap (λ (xs : List (List ℕ)). box_taken (record { run = run; said = pieces_octets (replies echo m xs); calls = any_call m xs }) b) (sym none)

-- no hold is over
heard_nothing : (n : ℕ) (h : Option Waited) → hold_heard n 0 h ≡ h
heard_nothing n None = refl
heard_nothing n (Some w) = ap (λ (b : Bool). Some (record w { over = b })) (by_place (n == w.dlci))
  where
    by_place : (b : Bool) → (w.over || (b && nat_lt 0 0)) ≡ w.over
    by_place true = or_none w.over
    by_place false = or_none w.over

none_heard : (n : ℕ) (bs : List Box) → map (box_heard n 0) bs ≡ bs
none_heard n [] = refl
none_heard n (b ∷ bs) =
    ap (λ (h : Option Waited). record b { hold = h } ∷ map (box_heard n 0) bs) (heard_nothing n b.hold)
    ∙ ap (λ (xs : List Box). b ∷ xs) (none_heard n bs)

none_come : (n : ℕ) → n < 2 ^ 64 → n ≡ saturated (n + 0)
none_come n small = omega (arith, small)

-- what an end does that takes it
silent_takes : (old new : Core) (s : stations.Station) (f : Frame) → lines_in old f ≡ [] → fitting.StationHandles old.station s (station.Got f) → old.come < 2 ^ 64
    → new ≡ record old { station = s; boxes = slice_set old.boxes f.dlci (if opens_in old f then fresh_box else record (box_at old f.dlci) { run = (brought old f).run }); closed = old.closed || closes_in old f }
    → Takes old new f
silent_takes old new s f none handles small is = record {
  at_station = subst (λ (x : stations.Station). fitting.StationHandles old.station x (station.Got f)) (sym (ap (λ (c : Core). c.station) is)) handles;
  modem_is = ap (λ (c : Core). c.modem) is ∙ ap (after_lines old.modem) (sym none);
  echo_is = ap (λ (c : Core). c.echo) is;
  boxes_are = ap (λ (c : Core). c.boxes) is
      ∙ ap (λ (b : Box). slice_set old.boxes f.dlci b) (silent_box (opens_in old f) old.echo old.modem (box_at old f.dlci) (brought old f).run (lines_in old f) none)
      ∙ sym (none_heard f.dlci (slice_set old.boxes f.dlci (box_turned (opens_in old f) true (brought old f) (box_at old f.dlci))))
      ∙ ap (λ (n : ℕ). map (box_heard f.dlci n) (slice_set old.boxes f.dlci (box_turned (opens_in old f) true (brought old f) (box_at old f.dlci)))) (sym (ap length none));
  come_is = ap (λ (c : Core). c.come) is ∙ none_come old.come small ∙ ap (λ (n : ℕ). saturated (old.come + n)) (sym (ap length none));
  steps_are = ap (λ (c : Core). c.steps) is;
  closed_is = ap (λ (c : Core). c.closed) is;
}

-- an end goes on that takes a frame which ends no line, and keeps what that brings
pub silent_goes_on : (old new : Core) (s : stations.Station) (f : Frame) (octets : List ℕ) (opens closes : Bool) → length old.boxes ≡ 62 → f.dlci < 62 → octets ≡ octets_in old f → opens ≡ opens_in old f → closes ≡ closes_in old f
    → kept_run (box_at old f.dlci).run ≡ (box_at old f.dlci).run → lines ((box_at old f.dlci).run ++ octets) ≡ []
    → fitting.StationHandles old.station s (station.Got f) → old.come < 2 ^ 64
    → new ≡ record old { station = s; boxes = slice_set old.boxes f.dlci (if opens then fresh_box else record (box_at old f.dlci) { run = kept_run ((box_at old f.dlci).run ++ octets) }); closed = old.closed || closes }
    → EndGoesOn old new f
silent_goes_on old new s f octets opens closes all small octets_are opened closed kept none handles few is =
    takes_goes_on old new f small all kept
    (silent_takes old new s f (ap (λ (xs : List ℕ). lines ((box_at old f.dlci).run ++ xs)) (sym octets_are) ∙ none) handles few
    (is ∙ ap (λ (xs : List ℕ). made xs opens closes) octets_are ∙ ap (λ (o : Bool). made (octets_in old f) o closes) opened ∙ ap (λ (b : Bool). made (octets_in old f) (opens_in old f) b) closed))
  where
    made : List ℕ → (opens closes : Bool) → Core
    made xs o b = record old { station = s; boxes = slice_set old.boxes f.dlci (if o then fresh_box else record (box_at old f.dlci) { run = kept_run ((box_at old f.dlci).run ++ xs) }); closed = old.closed || b }

-- what holds anyway holds where a call fails
where_it_fails : {A E : Type 0} (r : Result A E) (P : Type 0) → P → OnErr r P
where_it_fails (Ok a) P holds = tt
where_it_fails (Err e) P holds = holds

-- a line end stands where the octets before the first end before all
pub ends_a_line : {A E : Type 0} (r : Result A E) (octets xs : List ℕ) (n : ℕ) → n ≤ length octets → n ≢ length octets → (n < length octets → is_line_end (slice_index octets n) ≡ true) → octets ≡ xs
    → OnErr r (list_any is_line_end xs ≡ true)
ends_a_line r octets xs n within other end same =
    let inside : n < length octets = omega (arith, within, other) in
    where_it_fails r (list_any is_line_end xs ≡ true) (ap (list_any is_line_end) (sym same) ∙ list_any_at is_line_end octets n 0 inside (end inside))
