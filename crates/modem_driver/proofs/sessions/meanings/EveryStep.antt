-- Every turn took all its steps.
use Rattle.std.proofs.Common.{ap, sym, ◌∙◌, inl, inr, subst, arith}
use Rattle.std.proofs.lemmas.List.{append-nil, append_assoc, nil_from_length}
use Rattle.std.specs.Prelude.{◌≡◌, ◌≢◌, ℕ, ◌<◌, ◌≤◌, ◌==◌, Bool, true, false, List, [], ◌++◌, length, drop, refl, Option, None, Some, option_to_list, if◌then◌else◌}
use Rattle.mux_frame.specs.Frames.{Frame}
use Rattle.mux_station.specs.GivenFrames.{Outgoing}
use Rattle.modem_desk.specs.Ends.{DriverView}
use Rattle.modem_desk.specs.declared.request.Urc.{Urc}
use Rattle.modem_history.specs.Acts.{Act, after}
use Rattle.modem_history.specs.GoingOut.{next_out}
use Rattle.modem_history.specs.Sessions.{Beginning, LineView, SessionView, driving, gots, backlog_in}
use Rattle.modem_history.specs.Turns.{HoldsWhereRoom, counted, octets_read}
use Rattle.modem_history.specs.EveryTurn.{TakesSteps, WritesOn, ReadsOn as ReadsFed, Handles, gets, waits, Asks, acts_out, octets_out, goes_in, asked_in_vain, stalled_after, empty_after, count_taken, ReadsWhereFed}
use Rattle.modem_history.proofs.calls.StatesAfterActs.{after_both}
use Rattle.modem_driver.specs.TurnSteps.{TurnState, StandingFits, Leads, AddsAll, view_of}
use Rattle.modem_driver.proofs.sessions.steps.OneFrame.{got_both, none_both}
use Rattle.modem_driver.proofs.sessions.meanings.WholeTurns.{offers_what_waits}
use Rattle.modem_driver.proofs.sessions.meanings.TurnAnswers.{Run, all_exchange, all_acts, went_out, went_all, not_lost, unfed_at_five, line_at_three, line_at_seven, driver_at_six}

-- what is held is said of the lines that wait alone
pub holds_of : (b : Beginning) (v w : SessionView) (past : List Act) → w.unannounced ≡ v.unannounced → HoldsWhereRoom b v past → HoldsWhereRoom b w past
holds_of b v w past same (inl h) = inl (record {
  many = λ d small z o many. h.many d small z o (subst (λ (us : List Urc). 256 ≤ backlog_in d us) same many);
  few = λ d small few. h.few d small (subst (λ (us : List Urc). backlog_in d us < 128) same few);
})
holds_of b v w past same (inr full) = inr full

no_gots : (acts : List Act) → length (gots acts) ≤ 0 → gots acts ≡ []
no_gots acts few = nil_from_length (gots acts) (omega (arith, few))

-- the frames got among four lists of acts, of which one alone has any
third_alone : (a b c d : List Act) → gots a ≡ [] → gots b ≡ [] → gots d ≡ [] → gots (((a ++ b) ++ c) ++ d) ≡ gots c
third_alone a b c d none_a none_b none_d =
    let front : gots (a ++ b) ≡ [] = none_both a b none_a none_b in
    let three : gots ((a ++ b) ++ c) ≡ gots c = got_both (a ++ b) c ∙ (ap (λ (fs : List Frame). gots c ++ fs) front ∙ append-nil (gots c)) in
    got_both ((a ++ b) ++ c) d ∙ (ap (λ (fs : List Frame). fs ++ gots ((a ++ b) ++ c)) none_d ∙ three)

module _ {s0 s1 s2 s3 s4 s5 s6 s7 : TurnState} {m1 m2 m3 m4 m5 m6 m7 : Bool} where
  -- ## The histories on the way

  fits_one : (r : Run s0 s1 s2 s3 s4 s5 s6 s7 m1 m2 m3 m4 m5 m6 m7) (b : Beginning) (past : List Act) → StandingFits b s0 past → StandingFits b s1 past
  unfolding Leads
  fits_one r b past f = r.places.leads b past f

  fits_two : (r : Run s0 s1 s2 s3 s4 s5 s6 s7 m1 m2 m3 m4 m5 m6 m7) (b : Beginning) (past : List Act) → StandingFits b s0 past → StandingFits b s2 (after past r.checks.acts)
  unfolding Leads
  fits_two r b past f = r.checks.leads b past (fits_one r b past f)

  fits_four : (r : Run s0 s1 s2 s3 s4 s5 s6 s7 m1 m2 m3 m4 m5 m6 m7) (b : Beginning) (past : List Act) → StandingFits b s0 past → StandingFits b s4 (after past (r.checks.acts ++ r.sends.acts))
  unfolding Leads
  fits_four r b past f = r.writes.leads b (after past (r.checks.acts ++ r.sends.acts)) ((went_out r).leads b past f)

  fits_six : (r : Run s0 s1 s2 s3 s4 s5 s6 s7 m1 m2 m3 m4 m5 m6 m7) (b : Beginning) (past : List Act) → StandingFits b s0 past → StandingFits b s6 (after past ((r.checks.acts ++ r.sends.acts) ++ r.gets.acts))
  unfolding Leads
  fits_six r b past f =
      let four = fits_four r b past f in
      let five = r.gets.leads b (after past (r.checks.acts ++ r.sends.acts)) four in
      r.reads.leads b (after past ((r.checks.acts ++ r.sends.acts) ++ r.gets.acts)) (subst (StandingFits b s5) (sym (after_both (r.checks.acts ++ r.sends.acts) r.gets.acts past)) five)

  fits_seven : (r : Run s0 s1 s2 s3 s4 s5 s6 s7 m1 m2 m3 m4 m5 m6 m7) (b : Beginning) (past : List Act) → StandingFits b s0 past → StandingFits b s7 (after past (all_acts r))
  unfolding Leads
  fits_seven r b past f = (went_all r).leads b past f

  -- ## The output

  unwritten_two : Run s0 s1 s2 s3 s4 s5 s6 s7 m1 m2 m3 m4 m5 m6 m7 → s2.machine.unwritten ≡ s0.machine.unwritten
  unwritten_two r = ap (λ (s : TurnState). s.machine.unwritten) r.checks.stays ∙ ap (λ (s : TurnState). s.machine.unwritten) r.places.stays

  abbrev out_of : (r : Run s0 s1 s2 s3 s4 s5 s6 s7 m1 m2 m3 m4 m5 m6 m7) → Beginning → List Act → Option Outgoing
  out_of r b past = goes_in b (view_of s0) (after past r.checks.acts)

  out_same : (r : Run s0 s1 s2 s3 s4 s5 s6 s7 m1 m2 m3 m4 m5 m6 m7) (b : Beginning) (past : List Act) → goes_in b (view_of s2) (after past r.checks.acts) ≡ out_of r b past
  out_same r b past = ap (λ (xs : List ℕ). if length xs == 0 then next_out (driving b) (after past r.checks.acts) else None) (unwritten_two r)

  sends_are : (r : Run s0 s1 s2 s3 s4 s5 s6 s7 m1 m2 m3 m4 m5 m6 m7) (b : Beginning) (past : List Act) → StandingFits b s0 past → r.sends.acts ≡ acts_out (out_of r b past)
  sends_are r b past f = r.sends.acts_are b (after past r.checks.acts) (fits_two r b past f) ∙ ap acts_out (out_same r b past)

  unwritten_three : (r : Run s0 s1 s2 s3 s4 s5 s6 s7 m1 m2 m3 m4 m5 m6 m7) (b : Beginning) (past : List Act) → StandingFits b s0 past → s3.machine.unwritten ≡ s0.machine.unwritten ++ octets_out (out_of r b past)
  unwritten_three r b past f =
      r.sends.octets_are b (after past r.checks.acts) (fits_two r b past f)
      ∙ (ap (λ (xs : List ℕ). xs ++ octets_out (goes_in b (view_of s2) (after past r.checks.acts))) (unwritten_two r)
      ∙ ap (λ (o : Option Outgoing). s0.machine.unwritten ++ octets_out o) (out_same r b past))

  writes_on : (r : Run s0 s1 s2 s3 s4 s5 s6 s7 m1 m2 m3 m4 m5 m6 m7) (b : Beginning) (past : List Act) → StandingFits b s0 past → WritesOn (view_of s0) (view_of s7) (all_exchange r) (octets_out (out_of r b past))
  writes_on r b past f =
      let three = unwritten_three r b past f in
      record {
        offered = r.writes.offered ∙ three;
        left =
            ap (λ (s : TurnState). s.machine.unwritten) r.takes.stays
            ∙ (ap (λ (s : TurnState). s.machine.unwritten) r.reads.stays
            ∙ (ap (λ (s : TurnState). s.machine.unwritten) r.gets.stays
            ∙ (r.writes.left ∙ ap (drop (count_taken r.writes.write)) three)));
        stalled =
            ap (λ (l : LineView). l.stalled_writes) (line_at_seven r)
            ∙ (r.reads.stalled_stays
            ∙ (ap (λ (s : TurnState). s.line.stalled_writes) r.gets.stays
            ∙ (r.writes.stalled r.sound_written ∙ ap (λ (l : LineView). stalled_after r.writes.write l.stalled_writes) (line_at_three r))));
      }

  -- ## The frame at hand

  next_four : Run s0 s1 s2 s3 s4 s5 s6 s7 m1 m2 m3 m4 m5 m6 m7 → s4.machine.deframer.next ≡ s0.machine.deframer.next
  next_four r =
      ap (λ (s : TurnState). s.machine.deframer.next) r.writes.stays
      ∙ (ap (λ (s : TurnState). s.machine.deframer.next) r.sends.stays
      ∙ (ap (λ (s : TurnState). s.machine.deframer.next) r.checks.stays ∙ ap (λ (s : TurnState). s.machine.deframer.next) r.places.stays))

  gots_are : (r : Run s0 s1 s2 s3 s4 s5 s6 s7 m1 m2 m3 m4 m5 m6 m7) (b : Beginning) (past : List Act) → StandingFits b s0 past → gots (all_acts r) ≡ gots r.gets.acts
  unfolding AddsAll
  gots_are r b past f =
      let us = s1.machine.unannounced in
      let two = fits_two r b past f in
      let six = fits_six r b past f in
      third_alone r.checks.acts r.sends.acts r.gets.acts r.takes.acts
      (no_gots r.checks.acts (r.checks.adds b past (fits_one r b past f)).few_got)
      (no_gots r.sends.acts (r.sends.adds us b (after past r.checks.acts) two).few_got)
      (no_gots r.takes.acts (r.takes.adds us b (after past ((r.checks.acts ++ r.sends.acts) ++ r.gets.acts)) six).few_got)

  handles : (r : Run s0 s1 s2 s3 s4 s5 s6 s7 m1 m2 m3 m4 m5 m6 m7) (b : Beginning) (past : List Act) → StandingFits b s0 past
      → Handles b s0.machine.deframer.next (after past (r.checks.acts ++ acts_out (out_of r b past))) (all_acts r)
  handles r b past f =
      subst (λ (xs : List Act). Handles b s0.machine.deframer.next (after past (r.checks.acts ++ xs)) (all_acts r)) (sends_are r b past f)
      (subst (λ (o : Option Frame). Handles b o (after past (r.checks.acts ++ r.sends.acts)) (all_acts r)) (next_four r) (by_moved m5 refl))
    where
      before : List Act
      before = after past (r.checks.acts ++ r.sends.acts)

      four : StandingFits b s4 before
      four = fits_four r b past f

      still : m5 ≡ false → gots (all_acts r) ≡ []
      still e = gots_are r b past f ∙ ap gots (r.gets.still e).0

      by_frame : m5 ≡ false → (o : Option Frame) → s4.machine.deframer.next ≡ o → Handles b s4.machine.deframer.next before (all_acts r)
      by_frame e None h = gets (still e ∙ ap option_to_list (sym h))
      by_frame e (Some g) h = waits g h ((r.gets.no_room g e h).1 b before four) (still e)

      by_moved : (c : Bool) → m5 ≡ c → Handles b s4.machine.deframer.next before (all_acts r)
      by_moved true e = gets (gots_are r b past f ∙ r.gets.got b before four e)
      by_moved false e = by_frame e s4.machine.deframer.next refl

  -- ## The input, and a request

  reads_fed : (r : Run s0 s1 s2 s3 s4 s5 s6 s7 m1 m2 m3 m4 m5 m6 m7) → ReadsFed (view_of s0) (view_of s7) (all_exchange r)
  reads_fed r =
      let unfed = unfed_at_five r in
      let last = ap (λ (s : TurnState). s.machine.unfed) r.takes.stays in
      record {
        reads = subst (ReadsWhereFed r.reads.read) unfed r.reads.reads;
        empty =
            ap (λ (l : LineView). l.empty_reads) (line_at_seven r)
            ∙ (r.reads.empty r.sound_read
            ∙ (ap (λ (s : TurnState). empty_after r.reads.read s.line.empty_reads) r.gets.stays
            ∙ (ap (empty_after r.reads.read) r.writes.empty_stays ∙ ap (λ (l : LineView). empty_after r.reads.read l.empty_reads) (line_at_three r))));
        feeds = λ none some.
            let less = r.reads.fewer (sym (ap (λ (s : TurnState). s.machine.deframer.next) r.takes.stays) ∙ none) (subst (λ (xs : List ℕ). xs ++ octets_read r.reads.read ≢ []) (sym unfed) some) in
            let size = ap length unfed in
            let end = ap length last in
            omega (arith, less, size, end);
      }

  asks_for : (r : Run s0 s1 s2 s3 s4 s5 s6 s7 m1 m2 m3 m4 m5 m6 m7) (b : Beginning) (past : List Act) → StandingFits b s0 past → Asks (view_of s0) (view_of s7) (all_exchange r) (after past (all_acts r))
  asks_for r b past f = record {
    asks = r.takes.asks b (after past (all_acts r)) (fits_seven r b past f);
    found_none = r.takes.found ∙ (ap (λ (d : DriverView). counted d.found_none (asked_in_vain r.takes.next)) (driver_at_six r) ∙ ap (λ (n : ℕ). counted n (asked_in_vain r.takes.next)) r.places.found_stays);
  }

  -- ## All of them

  -- a turn took all its steps, each in its order, after whatever history the session fits
  pub takes_steps : (r : Run s0 s1 s2 s3 s4 s5 s6 s7 m1 m2 m3 m4 m5 m6 m7) (b : Beginning) (past : List Act) → StandingFits b s0 past → TakesSteps b (view_of s0) (view_of s7) (all_exchange r) past (all_acts r)
  takes_steps r b past f =
      let lines : s1.machine.unannounced ≡ s2.machine.unannounced = sym (ap (λ (s : TurnState). s.machine.unannounced) r.checks.stays) in
      let looked = r.checks.looked b past (fits_one r b past f) (not_lost b s0 past r.sound_first f) in
      record {
        offers = offers_what_waits b s0 s7 (all_exchange r) past f (went_all r).offers;
        checks = r.checks.acts;
        are_checks = r.checks.are_checks;
        held = holds_of b (view_of s2) (record (view_of s7) { unannounced = s1.machine.unannounced }) (after past r.checks.acts) lines looked;
        rest = r.gets.acts ++ r.takes.acts;
        acts_are =
            append_assoc (r.checks.acts ++ r.sends.acts) r.gets.acts r.takes.acts
            ∙ ap (λ (xs : List Act). (r.checks.acts ++ xs) ++ (r.gets.acts ++ r.takes.acts)) (sends_are r b past f);
        writes = writes_on r b past f;
        handles = handles r b past f;
        reads = reads_fed r;
        asks = asks_for r b past f;
      }
