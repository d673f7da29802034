-- What a turn did at its line and to the machine, and that it says so.
use Rattle.std.specs.Prelude.{◌≡◌, ◌≢◌, ℕ, ◌+◌, ◌<◌, nat_lt, ◌||◌, Bool, true, false, List, [], ◌++◌, length, Option, Some, None, refl}
use Rattle.std.specs.List.{list_any}
use Rattle.std.proofs.Common.{arith, sym, ap, ◌∙◌, subst, append-nil, length-append}
use Rattle.std.proofs.lemmas.Bool.Decides.{nat_tests}
use Rattle.std.proofs.lemmas.List.{nil_from_length}
use Rattle.mux_station.specs.Giving.{next_given}
use Rattle.mux_station.specs.Sending.{got_refused}
use Rattle.mux_station.specs.Stations.{seen_in, setting_of}
use Rattle.serial_line.specs.LineViews.{LineView}
use Rattle.modem_sim.specs.Acts.{Act, is_step_act}
use Rattle.modem_sim.specs.Cores.{Core, HasNoneToDo, HasPassed, IsHandedOn, holds_over}
use Rattle.modem_sim.specs.Sims.{SimMachine, SimMachineGoes, SimState}
use Rattle.modem_sim.specs.Turns.{Exchanges, Leaves, has_changed, has_moved, is_fewer, is_work, left_of}
use Rattle.modem_sim.specs.Stills.{Feeds, FeedsNone, HasLoaded, HasNoneToLoad, Loads, LoadsBy, LoadsNone, ReadsOnce, StoodStill, TakesFrame, TakesNone, Writes, at_line, let_go, puts, puts_none, ready, some_wait}
use Rattle.modem_history.specs.EveryTurn.{empty_after}
use Rattle.modem_history.specs.Turns.{Offers, Read, Write, calls_made, counted, octets_read, octets_written}

-- ## What moved

or_left : (a b : Bool) → a ≡ true → (a || b) ≡ true
or_left true b is = refl
or_left false b is = cc

or_right : (a b : Bool) → b ≡ true → (a || b) ≡ true
or_right true b is = refl
or_right false b is = is

less : (m n : ℕ) → m < n → nat_lt m n ≡ true
less m n is = grind (arith, nat_tests)

not_less : (m n : ℕ) → m ≡ n → nat_lt m n ≡ false
not_less m n is = grind (arith, nat_tests)

neither : (a b : Bool) → a ≡ false → b ≡ false → (a || b) ≡ false
neither true b is is_too = cc
neither false b is is_too = is_too

is_zero : (n : ℕ) → nat_lt 0 n ≡ false → n ≡ 0
is_zero n is = grind (arith, nat_tests)

is_some : (n : ℕ) → nat_lt 0 n ≡ true → 0 < n
is_some n is = grind (arith, nat_tests)

-- the first thing that was done, those that hold for themselves before the others
first_of : {P : Type 0} (done wrote loaded took came fed : Bool) → (((((done || wrote) || loaded) || took) || came) || fed) ≡ true
    → (done ≡ true → P) → (wrote ≡ true → P) → (took ≡ true → P) → (came ≡ true → P)
    → (done ≡ false → wrote ≡ false → took ≡ false → loaded ≡ true → P) → (came ≡ false → fed ≡ true → P) → P
first_of true wrote loaded took came fed is D W T C L F = D refl
first_of false true loaded took came fed is D W T C L F = W refl
first_of false false loaded true came fed is D W T C L F = T refl
first_of false false loaded false true fed is D W T C L F = C refl
first_of false false true false false fed is D W T C L F = L refl refl refl refl
first_of false false false false false true is D W T C L F = F refl refl
first_of false false false false false false is D W T C L F = cc

-- nothing was done
record AllFalse (done wrote loaded took came fed : Bool) : Type 0 where
  not_done : done ≡ false
  not_wrote : wrote ≡ false
  not_loaded : loaded ≡ false
  not_took : took ≡ false
  not_came : came ≡ false
  not_fed : fed ≡ false

none_of : (done wrote loaded took came fed : Bool) → (((((done || wrote) || loaded) || took) || came) || fed) ≡ false → AllFalse done wrote loaded took came fed
none_of true wrote loaded took came fed is = cc
none_of false true loaded took came fed is = cc
none_of false false true took came fed is = cc
none_of false false false true came fed is = cc
none_of false false false false true fed is = cc
none_of false false false false false fed is = record { not_done = refl; not_wrote = refl; not_loaded = refl; not_took = refl; not_came = refl; not_fed = is }

-- ## The parts of a turn

-- what each of them did, one after the other
pub record Went {X : Type 0} (see : X → LineView) (l0 l2 l5 : X) (k0 k1 k2 k3 k4 k5 k6 : SimMachine) (done : Bool) (count : ℕ) (loaded took came fed : Bool) : Type 0 where
  pub steps_go : SimMachineGoes is_step_act k0 k1
  pub steps_same : done ≡ false → k1 ≡ k0
  pub steps_fewer : done ≡ true → length k1.core.steps < length k0.core.steps
  pub steps_rest : k1 ≡ record k0 { core = k1.core }
  pub steps_none : HasNoneToDo k1.core
  pub steps_passed : HasPassed k0.core k1.core
  pub writes : Writes (see l0) (see l2) k1 k2 count
  pub load_rest : k3 ≡ record k2 { core = k3.core; out = k3.out }
  pub loads : LoadsBy k2 k3 loaded
  pub load_none : loaded ≡ false → LoadsNone k2 k3
  pub load_steps : k3.core.steps ≡ k2.core.steps
  pub take_rest : k4 ≡ record k3 { core = k4.core; deframer = k4.deframer }
  pub takes : took ≡ true → TakesFrame k3 k4
  pub take_none : took ≡ false → TakesNone k3 k4
  pub take_steps : k4.core.steps ≡ k3.core.steps
  pub reads : ReadsOnce (see l2) (see l5) k4 k5 came
  pub feeds : Feeds k5 k6
  pub feed_rest : k6 ≡ record k5 { unfed = k6.unfed; deframer = k6.deframer }
  pub feed_fewer : fed ≡ true → length k6.unfed < length k5.unfed
  pub feed_none : fed ≡ false → FeedsNone k5 k6

-- the turn, in which each line has what the one before left it
module _ {X : Type 0} (see : X → LineView) (l0 l2 l5 : X) (k0 k1 k2 k3 k4 k5 k6 : SimMachine) (done : Bool) (count : ℕ) (loaded took came fed : Bool) (w : Went see l0 l2 l5 k0 k1 k2 k3 k4 k5 k6 done count loaded took came fed) where
  abbrev s0 : SimState X
  s0 = at_line l0 k0

  abbrev s6 : SimState X
  s6 = at_line l5 k6

  -- ## What stays in the parts that come after

  -- reading and feeding leave the core
  pub core_at_end : k6.core ≡ k4.core
  core_at_end = ap (λ (k : SimMachine). k.core) w.feed_rest ∙ ap (λ (k : SimMachine). k.core) w.reads.kept

  steps_at_end : k6.core.steps ≡ k1.core.steps
  steps_at_end =
      ap (λ (c : Core). c.steps) core_at_end ∙ w.take_steps ∙ w.load_steps ∙ ap (λ (k : SimMachine). k.core.steps) w.writes.kept

  -- taking a frame, reading and feeding leave the output
  pub out_at_end : k6.out ≡ k3.out
  out_at_end =
      ap (λ (k : SimMachine). k.out) w.feed_rest ∙ ap (λ (k : SimMachine). k.out) w.reads.kept ∙ ap (λ (k : SimMachine). k.out) w.take_rest

  -- until the line is read the same octets wait for the deframer
  pub unfed_before : k4.unfed ≡ k0.unfed
  unfed_before =
      ap (λ (k : SimMachine). k.unfed) w.take_rest ∙ ap (λ (k : SimMachine). k.unfed) w.load_rest ∙ ap (λ (k : SimMachine). k.unfed) w.writes.kept
      ∙ ap (λ (k : SimMachine). k.unfed) w.steps_rest

  -- of the whole turn, the write alone adds to what was sent on the line
  pub sent_at_end : (see l5).sent ≡ (see l0).sent ++ octets_written w.writes.write
  sent_at_end = w.reads.none_went ∙ w.writes.went

  -- and the read alone adds to what came from it
  pub came_at_end : (see l5).received ≡ (see l0).received ++ octets_read w.reads.read
  came_at_end = w.reads.came_are ∙ ap (λ xs. xs ++ octets_read w.reads.read) w.writes.none_came

  -- ## What each part moves

  by_octets_come : length (see l0).received < length (see l5).received → has_changed see s0 s6 ≡ true
  by_octets_come more = or_left (is_fewer (see l0).received (see l5).received) _ (less _ _ more)

  by_octets_gone : length (see l0).sent < length (see l5).sent → has_changed see s0 s6 ≡ true
  by_octets_gone more =
      or_right (is_fewer (see l0).received (see l5).received) _ (or_left (is_fewer (see l0).sent (see l5).sent) _ (less _ _ more))

  by_feeding : length k6.unfed < length k0.unfed → has_changed see s0 s6 ≡ true
  by_feeding more =
      or_right (is_fewer (see l0).received (see l5).received) _ (or_right (is_fewer (see l0).sent (see l5).sent) _
      (or_left (is_fewer k6.unfed k0.unfed) _ (less _ _ more)))

  by_steps : length k6.core.steps < length k0.core.steps → has_changed see s0 s6 ≡ true
  by_steps more =
      or_right (is_fewer (see l0).received (see l5).received) _ (or_right (is_fewer (see l0).sent (see l5).sent) _
      (or_right (is_fewer k6.unfed k0.unfed) _ (or_left (is_fewer k6.core.steps k0.core.steps) _ (less _ _ more))))

  by_out : length k0.out < length k6.out → has_changed see s0 s6 ≡ true
  by_out more =
      or_right (is_fewer (see l0).received (see l5).received) _ (or_right (is_fewer (see l0).sent (see l5).sent) _
      (or_right (is_fewer k6.unfed k0.unfed) _ (or_right (is_fewer k6.core.steps k0.core.steps) _ (or_left (is_fewer k0.out k6.out) _ (less _ _ more)))))

  by_letting_go : holds_over k6.core.boxes < holds_over k0.core.boxes → has_changed see s0 s6 ≡ true
  by_letting_go more =
      or_right (is_fewer (see l0).received (see l5).received) _ (or_right (is_fewer (see l0).sent (see l5).sent) _
      (or_right (is_fewer k6.unfed k0.unfed) _ (or_right (is_fewer k6.core.steps k0.core.steps) _ (or_right (is_fewer k0.out k6.out) _ (less _ _ more)))))

  -- ## Where a part did nothing

  same_0 : done ≡ false → k1 ≡ k0
  same_0 = w.steps_same

  none_written : nat_lt 0 count ≡ false → octets_written w.writes.write ≡ []
  none_written none = let zero = is_zero count none in nil_from_length (octets_written w.writes.write) (sym w.writes.count_is ∙ zero)

  same_1 : nat_lt 0 count ≡ false → k2 ≡ k1
  same_1 none = w.writes.kept ∙ ap (λ xs. record k1 { out = xs }) (ap (λ xs. xs ++ left_of w.writes.write k1.out) (sym (none_written none)) ∙ w.writes.parts)

  none_read : came ≡ false → octets_read w.reads.read ≡ []
  none_read none = let zero = is_zero (length (octets_read w.reads.read)) (sym w.reads.says ∙ none) in nil_from_length (octets_read w.reads.read) zero

  same_4 : came ≡ false → k5 ≡ k4
  same_4 none = w.reads.kept ∙ ap (λ xs. record k4 { unfed = k4.unfed ++ xs }) (none_read none) ∙ ap (λ xs. record k4 { unfed = xs }) (append-nil k4.unfed)

  by_loading : done ≡ false → nat_lt 0 count ≡ false → took ≡ false → HasLoaded k2 k3 → has_changed see s0 s6 ≡ true
  by_loading not_done not_wrote not_took (ready more) =
      let first = ap (λ (k : SimMachine). length k.out) (same_1 not_wrote ∙ same_0 not_done) in
      let last = ap length out_at_end in
      by_out (omega (arith, more, first, last))
  by_loading not_done not_wrote not_took (let_go same fewer) =
      let first = ap (λ (k : SimMachine). holds_over k.core.boxes) (same_1 not_wrote ∙ same_0 not_done) in
      let last = ap (λ (c : Core). holds_over c.boxes) (core_at_end ∙ ap (λ (k : SimMachine). k.core) (w.take_none not_took).same) in
      by_letting_go (omega (arith, fewer, first, last))

  abbrev moved : Bool
  moved = (((((done || nat_lt 0 count) || loaded) || took) || came) || fed)

  changed_so : (got : Bool) → got ≡ (took || w.loads.some) → moved ≡ true → (got || has_changed see s0 s6) ≡ true
  changed_so got same is =
      first_of done (nat_lt 0 count) loaded took came fed is
      (λ really. let fewer = w.steps_fewer really in let last = ap length steps_at_end in or_right got _ (by_steps (omega (arith, fewer, last))))
      (λ really.
      let some = is_some count really in
      let long = ap length sent_at_end ∙ length-append (see l0).sent (octets_written w.writes.write) in
      let is_count = w.writes.count_is in
      or_right got _ (by_octets_gone (omega (arith, some, long, is_count))))
      (λ really. or_left got _ (same ∙ ap (λ (b : Bool). b || w.loads.some) really))
      (λ really.
      let some = is_some (length (octets_read w.reads.read)) (sym w.reads.says ∙ really) in
      let long = ap length came_at_end ∙ length-append (see l0).received (octets_read w.reads.read) in
      or_right got _ (by_octets_come (omega (arith, some, long))))
      (λ not_done not_wrote not_took really. by_offers not_done not_wrote not_took really w.loads.some refl)
      (λ not_came really.
      let fewer = w.feed_fewer really in
      let first = ap (λ (k : SimMachine). length k.unfed) (same_4 not_came) in
      let before = ap length unfed_before in
      or_right got _ (by_feeding (omega (arith, fewer, first, before))))
    where
      by_offers : done ≡ false → nat_lt 0 count ≡ false → took ≡ false → loaded ≡ true → (b : Bool) → w.loads.some ≡ b → (got || has_changed see s0 s6) ≡ true
      by_offers not_done not_wrote not_took really true some = or_left got _ (same ∙ or_right took w.loads.some some)
      by_offers not_done not_wrote not_took really false none = or_right got _ (by_loading not_done not_wrote not_took (w.loads.has_loaded really none))

  -- ## Where nothing was done

  record AllSame : Type 0 where
    received_is : (see l5).received ≡ (see l0).received
    sent_is : (see l5).sent ≡ (see l0).sent
    core_is : k6.core ≡ k0.core
    core_loaded : k6.core ≡ k2.core
    core_stepped : k6.core ≡ k1.core
    out_is : k6.out ≡ k0.out
    out_stepped : k6.out ≡ k1.out
    unfed_is : k6.unfed ≡ k0.unfed
    unfed_read : k6.unfed ≡ k4.unfed
    next_is : k6.deframer.next ≡ k3.deframer.next
    core_took : k6.core ≡ k3.core

  all_same : AllFalse done (nat_lt 0 count) loaded took came fed → AllSame
  all_same all_false =
      let first : k2 ≡ k0 = same_1 all_false.not_wrote ∙ same_0 all_false.not_done in
      let loading = w.load_none all_false.not_loaded in
      let taking = w.take_none all_false.not_took in
      let feeding = w.feed_none all_false.not_fed in
      let later : k5 ≡ k3 = same_4 all_false.not_came ∙ taking.same in
      let core_is : k6.core ≡ k3.core = ap (λ (k : SimMachine). k.core) w.feed_rest ∙ ap (λ (k : SimMachine). k.core) later in
      let out_is : k6.out ≡ k1.out = out_at_end ∙ ap (λ (k : SimMachine). k.out) (loading.same ∙ same_1 all_false.not_wrote) in
      let unfed_is : k6.unfed ≡ k4.unfed = feeding.same_unfed ∙ ap (λ (k : SimMachine). k.unfed) (same_4 all_false.not_came) in
      record {
        received_is = came_at_end ∙ ap (λ xs. (see l0).received ++ xs) (none_read all_false.not_came) ∙ append-nil (see l0).received;
        sent_is = sent_at_end ∙ ap (λ xs. (see l0).sent ++ xs) (none_written all_false.not_wrote) ∙ append-nil (see l0).sent;
        core_is = core_is ∙ ap (λ (k : SimMachine). k.core) (loading.same ∙ first);
        core_loaded = core_is ∙ ap (λ (k : SimMachine). k.core) loading.same;
        core_stepped = core_is ∙ ap (λ (k : SimMachine). k.core) (loading.same ∙ same_1 all_false.not_wrote);
        out_is = out_is ∙ ap (λ (k : SimMachine). k.out) (same_0 all_false.not_done);
        out_stepped = out_is;
        unfed_is = unfed_is ∙ unfed_before;
        unfed_read = unfed_is;
        next_is = feeding.same_next ∙ ap (λ (k : SimMachine). k.deframer.next) later;
        core_took = core_is;
      }

  none_changed : AllSame → has_changed see s0 s6 ≡ false
  none_changed same =
      neither (is_fewer (see l0).received (see l5).received) _ (not_less _ _ (ap length (sym same.received_is)))
      (neither (is_fewer (see l0).sent (see l5).sent) _ (not_less _ _ (ap length (sym same.sent_is)))
      (neither (is_fewer k6.unfed k0.unfed) _ (not_less _ _ (ap length same.unfed_is))
      (neither (is_fewer k6.core.steps k0.core.steps) _ (not_less _ _ (ap (λ (c : Core). length c.steps) same.core_is))
      (neither (is_fewer k0.out k6.out) _ (not_less _ _ (ap length (sym same.out_is)))
      (not_less _ _ (ap (λ (c : Core). holds_over c.boxes) same.core_is))))))

  -- it has moved just where a part of it did something
  pub moves_so : (acts : List Act) → list_any is_work acts ≡ (took || w.loads.some) → has_moved see s0 s6 acts ≡ moved
  moves_so acts same = by_moved moved refl
    where
      by_moved : (b : Bool) → moved ≡ b → has_moved see s0 s6 acts ≡ moved
      by_moved true is = changed_so (list_any is_work acts) same is ∙ sym is
      by_moved false is =
          let all_false = none_of done (nat_lt 0 count) loaded took came fed is in
          neither (list_any is_work acts) _ (same ∙ neither took w.loads.some all_false.not_took (w.loads.none all_false.not_loaded)) (none_changed (all_same all_false)) ∙ sym is

  -- where no part did anything, none could
  pub still_so : moved ≡ false → StoodStill k6 (record { write = w.writes.write; read = w.reads.read })
  still_so is =
      let all_false = none_of done (nat_lt 0 count) loaded took came fed is in
      let same = all_same all_false in
      let loading = w.load_none all_false.not_loaded in
      let taking = w.take_none all_false.not_took in
      let feeding = w.feed_none all_false.not_fed in
      record {
        steps = subst (λ (c : Core). HasNoneToDo c) (sym same.core_stepped) w.steps_none;
        take = λ f hand.
            let Refused : Core → Type 0 = λ c. got_refused (setting_of c.station) (seen_in c.station) f ≢ None in
            subst Refused (sym same.core_took) (taking.none f (sym same.next_is ∙ hand));
        full = λ some.
            w.writes.none (λ none. some (same.out_stepped ∙ none)) (is_zero count all_false.not_wrote)
            ∙ ap (λ xs. Some (record { offered = xs; count = 0 })) (sym same.out_stepped);
        rest = λ none.
            let there = loading.none (ap (λ (k : SimMachine). k.out) (same_1 all_false.not_wrote) ∙ sym same.out_stepped ∙ none) in
            load_none_again k2 k6 same.core_loaded there;
        reads = λ none. w.reads.none (sym same.unfed_read ∙ none) all_false.not_came;
        waits = λ none. feeding.same_unfed ∙ feeding.none (sym feeding.same_next ∙ none);
      }
    where
      load_none_again : (old new : SimMachine) → new.core ≡ old.core → HasNoneToLoad old → HasNoneToLoad new
      load_none_again old new core_same none = record {
        handed = λ d small. subst (λ (c : Core). IsHandedOn c d) (sym core_same) (none.handed d small);
        none_next = ap (λ (c : Core). next_given c.station c.station.queue) core_same ∙ none.none_next;
      }

  -- ## At the line

  -- what the turn exchanged with its line are its write and its read
  pub deals_so : Exchanges see s0 s6 (record { write = w.writes.write; read = w.reads.read })
  deals_so = record {
    came = came_at_end;
    room = w.reads.room;
    some_room = w.reads.some_room;
    went = sent_at_end;
    offers = subst (λ (k : SimMachine). Offers w.writes.write (left_of w.writes.write k.out)) w.steps_rest w.writes.offers;
    parts = subst (λ (k : SimMachine). octets_written w.writes.write ++ left_of w.writes.write k.out ≡ k.out) w.steps_rest w.writes.parts;
    calls_are =
        w.reads.calls_are
        ∙ (ap (λ (n : ℕ). counted n (calls_made w.reads.read)) w.writes.calls_are ∙ both_made (see l0).calls w.writes.write w.reads.read);
    stalled_are = w.reads.stalled_stay ∙ w.writes.stalled_are;
    empty_are = w.reads.empty_are ∙ ap (empty_after w.reads.read) w.writes.empty_stay;
  }
    where
      both_made : (n : ℕ) (a : Option Write) (b : Option Read) → counted (counted n (calls_made a)) (calls_made b) ≡ counted n (calls_made a + calls_made b)
      both_made n None None = refl
      both_made n None (Some b) = refl
      both_made n (Some a) None = refl
      both_made n (Some a) (Some b) = omega arith

  -- behind the write the output has what the line didn't take
  pub left_at : k2.out ≡ left_of w.writes.write k0.out
  left_at = ap (λ (k : SimMachine). k.out) w.writes.kept ∙ ap (λ (k : SimMachine). left_of w.writes.write k.out) w.steps_rest

  all_came : k5.unfed ≡ k0.unfed ++ octets_read w.reads.read
  all_came = ap (λ (k : SimMachine). k.unfed) w.reads.kept ∙ ap (λ xs. xs ++ octets_read w.reads.read) unfed_before

  passed_so : HasPassed k0.core k6.core
  passed_so = record { passed = w.steps_passed.passed; joins = w.steps_passed.joins ∙ ap (λ xs. w.steps_passed.passed ++ xs) (sym steps_at_end) }

  -- the turn takes steps and octets in their order, and what the line didn't take waits for the next
  pub leaves_so : Leaves k0 k6 (record { write = w.writes.write; read = w.reads.read })
  leaves_so = record {
    reads = λ none. w.reads.reads (unfed_before ∙ none);
    reads_fed = λ some. sym unfed_before ∙ w.reads.reads_fed some;
    passed = passed_so;
    waits = λ some. out_at_end ∙ by_load some w.loads.some w.loads.loads ∙ left_at;
    fed = w.feeds.fed;
    feeds = sym all_came ∙ w.feeds.feeds;
    some_fed = λ none some. w.feeds.some none (λ empty. some (sym all_came ∙ empty));
  }
    where
      by_load : left_of w.writes.write k0.out ≢ [] → (b : Bool) → Loads k2 k3 b → k3.out ≡ k2.out
      by_load some _ (some_wait there same) = ap (λ (k : SimMachine). k.out) same
      by_load some _ (puts any none goes) = absurd (some (sym left_at ∙ none))
      by_load some _ (puts_none any none goes) = absurd (some (sym left_at ∙ none))
