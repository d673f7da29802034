-- The histories of a turn: whatever past it fitted before, it goes on by all that a turn does.
use Rattle.std.specs.Prelude.{◌≡◌, ℕ, nat_lt, ◌||◌, Bool, true, false, List, [], ◌∷◌, ◌++◌, Option, Some, None, refl}
use Rattle.std.specs.List.{list_all, list_any}
use Rattle.std.proofs.Common.{sym, ap, ◌∙◌, subst, append_assoc}
use Rattle.at_cmds.proofs.command_texts.CommandLines.{both_true}
use Rattle.mux_frame.specs.Frames.{Frame}
use Rattle.mux_station.specs.Acts as station
use Rattle.mux_station.specs.Sending as sending
use Rattle.serial_line.specs.LineViews.{LineView}
use Rattle.modem_sim.specs.Acts.{Act, Wire, Did, End, is_handing, is_step_act, setting, wire}
use Rattle.modem_sim.specs.Cores.{IsGivenOn, IsLater, after_wire_act, from_queue, sent_now}
use Rattle.modem_sim.specs.Sims.{FitsSim, SimMachine, SimMachineFits}
use Rattle.modem_sim.specs.Turns.{PutsNext, TakesAtHand, has_no_room, is_work, is_put, is_taken, left_of, none_at_hand, none_is_there, some_are_left}
use Rattle.modem_sim.specs.Stills.{GoesOnce, Loads, TakesFrame, TakesNone, WentOn, at_line, puts, puts_none, some_wait}
use Rattle.modem_sim.proofs.law_proofs.Histories.{does_in_order}
use Rattle.modem_sim.proofs.ends.EndAfterFrame.{later-sent_after}
use Rattle.modem_sim.proofs.ends.OfferedPieces.{later_then}
use Rattle.modem_sim.proofs.sims.IdleTurns.{no_room, none_can_be_done, some_room}
use Rattle.modem_sim.proofs.sims.SimPasts.{later_act}
use Rattle.modem_sim.proofs.sims.WholeTurns.{Went, came_at_end, deals_so, leaves_so, left_at, moves_so, out_at_end, sent_at_end, still_so}
use Rattle.modem_history.specs.Turns.{Write, octets_read, octets_written}

-- ## Work

any_of_both : (xs ys : List Act) → list_any is_work (xs ++ ys) ≡ (list_any is_work xs || list_any is_work ys)
any_of_both [] ys = refl
any_of_both (x ∷ xs) ys = ap (λ (b : Bool). is_work x || b) (any_of_both xs ys) ∙ either (is_work x) (list_any is_work xs) (list_any is_work ys)
  where
    either : (a b c : Bool) → (a || (b || c)) ≡ ((a || b) || c)
    either true b c = refl
    either false b c = refl

none_by : (may : Act → Bool) → ((a : Act) → may a ≡ true → is_work a ≡ false) → (xs : List Act) → list_all may xs ≡ true → list_any is_work xs ≡ false
none_by may each [] all = refl
none_by may each (x ∷ xs) all =
    let both = both_true (may x) (list_all may xs) all in
    ap (λ (b : Bool). b || list_any is_work xs) (each x both.0) ∙ none_by may each xs both.1

no_step_work : (a : Act) → is_step_act a ≡ true → is_work a ≡ false
no_step_work (Did step) is = refl
no_step_work (Wire (station.Called (station.Offer d octets))) is = cc
no_step_work (Wire (station.Called (station.Open d))) is = refl
no_step_work (Wire (station.Called (station.Close d))) is = refl
no_step_work (Wire (station.Called (station.Probe octets))) is = refl
no_step_work (Wire (station.Called station.Stop)) is = refl
no_step_work (Wire (station.Called (station.Flow d go))) is = refl
no_step_work (Wire (station.Sent f)) is = refl
no_step_work (Wire (station.Got f)) is = cc
no_step_work (Wire station.Given) is = refl
no_step_work (Wire station.Tick) is = refl
no_step_work (Wire station.Lost) is = refl

-- what is handed to the station is work
same_work : (xs : List Act) → list_all is_handing xs ≡ true → list_any is_work xs ≡ list_any is_handing xs
same_work [] all = refl
same_work (x ∷ xs) all =
    let both = both_true (is_handing x) (list_all is_handing xs) all in
    ap (λ (b : Bool). b || list_any is_work xs) (by_act x both.0) ∙ ap (λ (b : Bool). is_handing x || b) (same_work xs both.1)
  where
    by_act : (a : Act) → is_handing a ≡ true → is_work a ≡ is_handing a
    by_act (Did step) is = cc
    by_act (Wire (station.Called (station.Offer d octets))) is = refl
    by_act (Wire (station.Called (station.Open d))) is = cc
    by_act (Wire (station.Called (station.Close d))) is = cc
    by_act (Wire (station.Called (station.Probe octets))) is = cc
    by_act (Wire (station.Called station.Stop)) is = cc
    by_act (Wire (station.Called (station.Flow d go))) is = cc
    by_act (Wire (station.Sent f)) is = cc
    by_act (Wire (station.Got f)) is = cc
    by_act (Wire station.Given) is = cc
    by_act (Wire station.Tick) is = cc
    by_act (Wire station.Lost) is = cc

or_none : (x : Bool) → (x || false) ≡ x
or_none true = refl
or_none false = refl

-- the past went on, and such acts were among what came, or none was
record GoesBy (past now : List Act) (got : Bool) : Type 0 where
  later : IsLater past now
  brings : list_any is_work later.newer ≡ got

goes_by_both : (a b c : List Act) (first second : Bool) → GoesBy a b first → GoesBy b c second → GoesBy a c (second || first)
unfolding later_then
goes_by_both a b c first second p q = record {
  later = later_then a b c p.later q.later;
  brings = any_of_both q.later.newer p.later.newer ∙ ap (λ (x : Bool). x || list_any is_work p.later.newer) q.brings ∙ ap (λ (x : Bool). second || x) p.brings;
}

given_by : (past now : List Act) (f : Frame) → IsGivenOn past f now → GoesBy past now false
given_by past now f (from_queue later is) = record { later = record { newer = Wire station.Given ∷ []; joins = refl }; brings = refl }
given_by past now f (sent_now is) = record { later = record { newer = Wire (station.Sent f) ∷ []; joins = refl }; brings = refl }

any_behind : (xs : List Act) (f : Frame) → list_any is_work (xs ++ Wire (station.Got f) ∷ []) ≡ true
any_behind [] f = refl
any_behind (x ∷ xs) f = ap (λ (b : Bool). is_work x || b) (any_behind xs f) ∙ or_some (is_work x)
  where
    or_some : (b : Bool) → (b || true) ≡ true
    or_some true = refl
    or_some false = refl

got_by : (e : End) (past : List Act) (f : Frame) → GoesBy past (after_wire_act e past (station.Got f)) true
unfolding later_act
got_by e past f = record {
  later = later_act e past (station.Got f);
  brings = any_behind (later-sent_after (sending.called_frames (setting e) (wire past) (station.Got f)) (Wire (station.Got f) ∷ past)).newer f;
}

-- ## The parts

-- the next frame where all is written
record Loaded (e : End) (came went : List ℕ) (left : List ℕ) (k : SimMachine) (past : List Act) (some : Bool) : Type 0 where
  now : List Act
  goes : GoesBy past now some
  loads : PutsNext e left k.out past now
  fits : SimMachineFits e came went k now

loaded : (e : End) (came went : List ℕ) (old new : SimMachine) (past : List Act) (some : Bool) → Loads old new some → SimMachineFits e came went old past → Loaded e came went old.out new past some
loaded e came went old new past _ (some_wait some same) fits =
    let At : SimMachine → Type 0 = λ k. SimMachineFits e came went k past in
    record {
      now = past;
      goes = record { later = record { newer = []; joins = refl }; brings = refl };
      loads = some_are_left some (ap (λ (k : SimMachine). k.out) same) refl;
      fits = subst At (sym same) fits;
    }
loaded e came went old new past _ (puts some none goes) fits =
    let on = goes e came went past fits in
    let handing : GoesBy past on.between some = record { later = on.hands.later; brings = same_work on.hands.later.newer on.hands.only ∙ on.brings } in
    record {
      now = on.now;
      goes = goes_by_both past on.between on.now some false handing (given_by on.between on.now on.frame on.given);
      loads = is_put on.between on.frame none on.hands on.given on.out;
      fits = on.fits;
    }
loaded e came went old new past _ (puts_none some none goes) fits =
    let on = goes e came went past fits in
    record {
      now = on.now;
      goes = record { later = on.hands.later; brings = same_work on.hands.later.newer on.hands.only ∙ on.brings };
      loads = none_is_there none on.hands on.none on.out;
      fits = on.fits;
    }

-- the frame at hand
record Took (e : End) (came went : List ℕ) (hand : Option Frame) (k : SimMachine) (past : List Act) (took : Bool) : Type 0 where
  now : List Act
  goes : GoesBy past now took
  takes : TakesAtHand e hand past now
  fits : SimMachineFits e came went k now

took_it : (e : End) (came went : List ℕ) (old new : SimMachine) (past : List Act) (took : Bool) → (took ≡ true → TakesFrame old new) → (took ≡ false → TakesNone old new) → SimMachineFits e came went old past → Took e came went old.deframer.next new past took
took_it e came went old new past true takes none fits =
    let taken = takes refl in
    record {
      now = after_wire_act e past (station.Got taken.frame);
      goes = got_by e past taken.frame;
      takes = is_taken taken.frame taken.hand (some_room e came went old past fits taken.frame taken.hand taken.room) refl;
      fits = taken.goes e came went past fits;
    }
took_it e came went old new past false takes none fits =
    let still = none refl in
    let At : SimMachine → Type 0 = λ k. SimMachineFits e came went k past in
    record {
      now = past;
      goes = record { later = record { newer = []; joins = refl }; brings = refl };
      takes = by_hand old.deframer.next refl;
      fits = subst At (sym still.same) fits;
    }
  where
    by_hand : (o : Option Frame) → old.deframer.next ≡ o → TakesAtHand e old.deframer.next past past
    by_hand None is = none_at_hand is refl
    by_hand (Some f) is = has_no_room f is (no_room e came went old past (none refl).none fits f is) refl

-- octets went
wrote_fits : (e : End) (came went : List ℕ) (past : List Act) (old new : SimMachine) (w : Option Write) → octets_written w ++ left_of w old.out ≡ old.out → new ≡ record old { out = left_of w old.out } → SimMachineFits e came went old past → SimMachineFits e came (went ++ octets_written w) new past
wrote_fits e came went past old new w parts is fits =
    let At : SimMachine → Type 0 = λ k. SimMachineFits e came (went ++ octets_written w) k past in
    subst At (sym is) (record {
      wired = fits.wired;
      core_fits = fits.core_fits;
      n1_is = fits.n1_is;
      taken = fits.taken;
      came_is = fits.came_is;
      deframes = fits.deframes;
      went_is = append_assoc went (octets_written w) (left_of w old.out) ∙ ap (λ xs. went ++ xs) parts ∙ fits.went_is;
    })

-- octets came
read_fits : (e : End) (came went : List ℕ) (past : List Act) (old new : SimMachine) (octets : List ℕ) → new ≡ record old { unfed = old.unfed ++ octets } → SimMachineFits e came went old past → SimMachineFits e (came ++ octets) went new past
read_fits e came went past old new octets is fits =
    let At : SimMachine → Type 0 = λ k. SimMachineFits e (came ++ octets) went k past in
    subst At (sym is) (record {
      wired = fits.wired;
      core_fits = fits.core_fits;
      n1_is = fits.n1_is;
      taken = fits.taken;
      came_is = ap (λ x. x ++ octets) fits.came_is ∙ append_assoc fits.taken old.unfed octets;
      deframes = fits.deframes;
      went_is = fits.went_is;
    })

-- ## The turn

module _ {X : Type 0} (see : X → LineView) (l0 l2 l5 : X) (k0 k1 k2 k3 k4 k5 k6 : SimMachine) (done : Bool) (count : ℕ) (loads took came fed : Bool) (w : Went see l0 l2 l5 k0 k1 k2 k3 k4 k5 k6 done count loads took came fed) where
  goes_so : (at : LineView) (e : End) (past : List Act) → FitsSim see at e (at_line l0 k0) past → WentOn see at e past (at_line l0 k0) (at_line l5 k6) (record { write = w.writes.write; read = w.reads.read }) (((((done || nat_lt 0 count) || loads) || took) || came) || fed)
  goes_so at e past fits =
      let stepped = w.steps_go e fits.came fits.went past fits.machine_fits in
      let wrote = wrote_fits e fits.came fits.went stepped.now k1 k2 w.writes.write w.writes.parts w.writes.kept stepped.fits in
      let gone = fits.went ++ octets_written w.writes.write in
      let load = loaded e fits.came gone k2 k3 stepped.now w.loads.some w.loads.loads wrote in
      let take = took_it e fits.came gone k3 k4 load.now took w.takes w.take_none load.fits in
      let read = read_fits e fits.came gone take.now k4 k5 (octets_read w.reads.read) w.reads.kept take.fits in
      let first : GoesBy past stepped.now false = record { later = stepped.later; brings = none_by is_step_act no_step_work stepped.later.newer stepped.only } in
      let all = goes_by_both past load.now take.now (w.loads.some || false) took (goes_by_both past stepped.now load.now false w.loads.some first load.goes) take.goes in
      let Left : List ℕ → Type 0 = λ xs. PutsNext e xs k3.out stepped.now load.now in
      let Out : List ℕ → Type 0 = λ xs. PutsNext e (left_of w.writes.write k0.out) xs stepped.now load.now in
      let Hand : Option Frame → Type 0 = λ o. TakesAtHand e o load.now take.now in
      let hand : k3.deframer.next ≡ k0.deframer.next = ap (λ (k : SimMachine). k.deframer.next) w.load_rest ∙ ap (λ (k : SimMachine). k.deframer.next) w.writes.kept ∙ ap (λ (k : SimMachine). k.deframer.next) w.steps_rest in
      record {
        now = take.now;
        later = all.later;
        fits = record {
          came = fits.came ++ octets_read w.reads.read;
          went = gone;
          received_is = came_at_end see l0 l2 l5 k0 k1 k2 k3 k4 k5 k6 done count loads took came fed w ∙ ap (λ xs. xs ++ octets_read w.reads.read) fits.received_is ∙ append_assoc at.received fits.came (octets_read w.reads.read);
          sent_is = sent_at_end see l0 l2 l5 k0 k1 k2 k3 k4 k5 k6 done count loads took came fed w ∙ ap (λ xs. xs ++ octets_written w.writes.write) fits.sent_is ∙ append_assoc at.sent fits.went (octets_written w.writes.write);
          machine_fits = w.feeds.stays e (fits.came ++ octets_read w.reads.read) gone take.now read;
        };
        does = record {
          stepped = stepped.now;
          loaded = load.now;
          steps = record { later = stepped.later; only = stepped.only; none_left = none_can_be_done e stepped.fits.wired k1.core stepped.now w.steps_none stepped.fits.core_fits; in_order = does_in_order e stepped.now stepped.fits.core_fits.allowed };
          loads = subst Out (sym (out_at_end see l0 l2 l5 k0 k1 k2 k3 k4 k5 k6 done count loads took came fed w))
              (subst Left (left_at see l0 l2 l5 k0 k1 k2 k3 k4 k5 k6 done count loads took came fed w) load.loads);
          takes = subst Hand hand take.takes;
        };
        moves = moves_so see l0 l2 l5 k0 k1 k2 k3 k4 k5 k6 done count loads took came fed w all.later.newer (all.brings ∙ ap (λ (b : Bool). took || b) (or_none w.loads.some));
      }

  -- a turn does each of its parts once, and moves just where one of them did something
  pub goes_once : GoesOnce see (at_line l0 k0) (at_line l5 k6) (((((done || nat_lt 0 count) || loads) || took) || came) || fed)
  goes_once = record {
    exchange = record { write = w.writes.write; read = w.reads.read };
    exchanges = deals_so see l0 l2 l5 k0 k1 k2 k3 k4 k5 k6 done count loads took came fed w;
    leaves = leaves_so see l0 l2 l5 k0 k1 k2 k3 k4 k5 k6 done count loads took came fed w;
    goes = goes_so;
    still = still_so see l0 l2 l5 k0 k1 k2 k3 k4 k5 k6 done count loads took came fed w;
  }
