-- A session's calls on its line.
use Rattle.std.proofs.Common.{ap, sym, ◌∙◌, subst, arith, take-append-drop, lit≤}
use Rattle.std.proofs.Math.Seq.{take-length}
use Rattle.std.proofs.lemmas.Bool.{le-ltb, lt-ltb, ne_eqb}
use Rattle.std.proofs.lemmas.List.{append-nil, length-append, length-take-le, length-drop}
use Rattle.std.specs.Prelude.{◌≡◌, ◌≢◌, ℕ, zero, suc, ◌+◌, ◌<◌, ◌≤◌, ◌==◌, ◌&&◌, ◌||◌, if◌then◌else◌, Option, nat_lt, Bool, true, false, List, [], ◌∷◌, ◌++◌, length, take, drop, refl, None, Some}
use Rattle.mux_frame.specs.Frames.{Frame}
use Rattle.mux_frame.specs.Deframing.{Deframing, TakesIn}
use Rattle.serial_line.specs.Counts.{one_more, counted_if_none}
use Rattle.serial_line.specs.LineViews.{after_fault, after_read, after_write}
use Rattle.modem_history.specs.EveryTurn.{counted_none}
use Rattle.modem_history.specs.Turns.{counted}
use Rattle.modem_history.specs.Sessions.{LineView}
use Rattle.modem_driver.specs.SessionStates.{Machine, MachineGoes, MachineMoves}
use Rattle.modem_driver.specs.SessionTurns.{Feeds, MachineReads, MachineWrites}
use Rattle.modem_driver.specs.TurnSteps.{Leads}
use Rattle.modem_driver.proofs.sessions.steps.LineOctets.{feed_goes, read_goes, write_goes, fault_goes}

never_less : (n : ℕ) → false ≡ nat_lt n n
never_less n = sym (le-ltb n n (omega arith))

-- so many more is more where it isn't none
more_by : (n c : ℕ) → nat_lt 0 c ≡ nat_lt n (n + c)
more_by n zero = sym (le-ltb n (n + 0) (omega arith))
more_by n (suc c) = lt-ltb 0 (suc c) (omega arith) ∙ sym (lt-ltb n (n + suc c) (omega arith))

none_more : (c : ℕ) → nat_lt 0 c ≡ false → c ≡ 0
none_more zero h = refl
none_more (suc c) h = let both : true ≡ false = sym (lt-ltb 0 (suc c) (omega arith)) ∙ h in cc

some_length : (xs : List ℕ) → xs ≢ [] → 1 ≤ length xs
some_length [] h = absurd (h refl)
some_length (x ∷ xs) h = omega arith

true_is_false : true ≡ false → ⊥
true_is_false h = cc

-- a call that could move octets and moved none is counted
pub none_counted : (could n count : ℕ) → counted_if_none could n count ≡ counted_none could n count
none_counted zero n count = refl
none_counted (suc k) n count =
    ap (λ (b : Bool). if b && (n == 0) then one_more count else count) (lt-ltb 0 (suc k) (omega arith))
    ∙ (by_none (n == 0) ∙ sym (ap (λ (b : Bool). if b then count else if n == 0 then counted count 1 else count) (ne_eqb (suc k) 0 (λ e. omega (arith, e)))))
  where
    by_none : (c : Bool) → (if true && c then one_more count else count) ≡ (if c then counted count 1 else count)
    by_none true = refl
    by_none false = refl

-- where none is at hand afterwards, none was
none_before : (o p : Option Frame) → ((f : Frame) → o ≡ Some f → p ≡ Some f) → p ≡ None → o ≡ None
none_before None p stays e = refl
none_before (Some f) p stays e = absurd (both (stays f refl) e)
  where
    both : p ≡ Some f → p ≡ None → ⊥
    both a b = let c : Some f ≡ None = sym a ∙ b in cc

-- ## Writing

-- where no octets wait nothing is written
pub writes_none : (l : LineView) (old : Machine) → old.unwritten ≡ [] → MachineWrites l l old old false
unfolding MachineWrites Leads
writes_none l old none d = record {
  write = None;
  leads = λ b past f. f;
  offers = none;
  offered = sym none;
  left = refl;
  stalled = λ _. refl;
  empty_stays = refl;
  went = sym (append-nil l.sent);
  came_none = refl;
  calls = refl;
  moved_is = never_less (length l.sent);
  still = λ _ _. refl;
  stays = refl;
}

-- where some wait the line took some of them, or none
pub writes_some : (l m : LineView) (old : Machine) (count : ℕ) → old.unwritten ≢ [] → count ≤ length old.unwritten → m ≡ after_write count old.unwritten l
    → MachineWrites l m old (record old { unwritten = drop count old.unwritten }) (nat_lt 0 count)
unfolding MachineWrites Leads MachineMoves
writes_some l m old count some few took d =
    let received : m.received ≡ l.received = ap (λ (v : LineView). v.received) took in
    let sent : m.sent ≡ l.sent ++ take count old.unwritten = ap (λ (v : LineView). v.sent) took in
    record {
      write = Some (record { offered = old.unwritten; count = count });
      leads = λ b past f. write_goes l m old count received sent (ap (λ (v : LineView). v.failures) took) b d past f;
      offers = record { some = some_length old.unwritten some; bound = few; first = record { rest = []; joins = append-nil old.unwritten ∙ sym (take-append-drop count old.unwritten) } };
      offered = refl;
      left = refl;
      stalled = λ _. ap (λ (v : LineView). v.stalled_writes) took ∙ none_counted (length old.unwritten) count l.stalled_writes;
      empty_stays = ap (λ (v : LineView). v.empty_reads) took;
      went = sent;
      came_none = received;
      calls = ap (λ (v : LineView). v.calls) took;
      moved_is = more_by (length l.sent) count ∙ ap (nat_lt (length l.sent)) (sym (ap length sent ∙ (length-append l.sent (take count old.unwritten) ∙ ap (λ (n : ℕ). length l.sent + n) (length-take-le count old.unwritten few))));
      still = λ still same. ap (λ (n : ℕ). record old { unwritten = drop n old.unwritten }) (none_more count still);
      stays = refl;
    }

-- or the call failed
pub writes_failing : (l m : LineView) (old : Machine) → old.unwritten ≢ [] → m ≡ after_fault l → MachineWrites l m old (record old { faulty = true }) false
unfolding MachineWrites Leads MachineMoves
writes_failing l m old some fault d =
    let received : m.received ≡ l.received = ap (λ (v : LineView). v.received) fault in
    let sent : m.sent ≡ l.sent = ap (λ (v : LineView). v.sent) fault in
    record {
      write = Some (record { offered = old.unwritten; count = 0 });
      leads = λ b past f. fault_goes l m old received sent (ap (λ (v : LineView). v.failures) fault) b d past f;
      offers = record { some = some_length old.unwritten some; bound = omega arith; first = record { rest = []; joins = append-nil old.unwritten } };
      offered = refl;
      left = refl;
      stalled = λ sound. absurd (true_is_false sound);
      empty_stays = ap (λ (v : LineView). v.empty_reads) fault;
      went = sent ∙ sym (append-nil l.sent);
      came_none = received;
      calls = ap (λ (v : LineView). v.calls) fault;
      moved_is = never_less (length l.sent) ∙ ap (λ (xs : List ℕ). nat_lt (length l.sent) (length xs)) (sym sent);
      still = λ still same. ap (λ (c : Bool). record old { faulty = c }) same;
      stays = refl;
    }

-- ## Reading and feeding

-- what is fed waits no more
left_over : (xs : List ℕ) (count : ℕ) → count ≤ length xs → length (drop count xs) + count ≡ length xs
left_over xs count few = let rest = length-drop count xs in omega (arith, rest, few)

fed_more : (c rest all : ℕ) → rest + c ≡ all → nat_lt 0 c ≡ nat_lt rest all
fed_more c rest all e = more_by rest c ∙ ap (nat_lt rest) e

fed_there : (l : LineView) (old : Machine) (fed : Deframing) (count : ℕ) → old.unfed ≢ [] → TakesIn old.deframer (take count old.unfed) fed → fed.n1 ≡ old.deframer.n1 → count ≤ length old.unfed
    → (old.deframer.next ≡ None → 0 < length old.unfed → 0 < count) → ((f : Frame) → old.deframer.next ≡ Some f → fed.next ≡ Some f)
    → MachineReads l l old (record old { unfed = drop count old.unfed; deframer = fed }) (nat_lt 0 count)
unfolding MachineReads Leads MachineGoes
fed_there l old fed count some takes bound few more stays d = record {
  read = None;
  leads = λ b past f. feed_goes old fed count takes bound b l d past f;
  room = tt;
  came = sym (append-nil l.received);
  went_none = refl;
  calls = refl;
  unfed = let all = left_over old.unfed count few in omega (arith, all);
  reads_fed = λ read. absurd (read refl);
  moved_is = fed_more count (length (drop count old.unfed)) (length old.unfed) (left_over old.unfed count few) ∙ ap (λ (c : Bool). c || nat_lt (length (drop count old.unfed)) (length old.unfed)) (never_less (length l.received));
  nothing_came = λ _ _ none. absurd (some none);
  feeds = λ still _ none. no_fewer (none_more count still) (more none (some_length old.unfed some));
  reads = some;
  empty = λ _. refl;
  stalled_stays = refl;
  fewer = λ none _.
      let all = left_over old.unfed count few in
      let least = more (none_before old.deframer.next fed.next stays none) (some_length old.unfed some) in
      omega (arith, all, least);
  frame_stays = stays;
  stays = refl;
}
  where
    no_fewer : count ≡ 0 → 0 < count → ⊥
    no_fewer e h = omega (arith, e, h)

-- where octets wait to be fed the line isn't read, and some of them or none are fed
pub reads_fed : (l : LineView) (old new : Machine) (count : ℕ) → old.unfed ≢ [] → Feeds old new count → MachineReads l l old new (nat_lt 0 count)
reads_fed l old new count some k =
    subst (λ (v : Machine). MachineReads l l old v (nat_lt 0 count)) (sym k.stays) (fed_there l old new.deframer count some k.takes k.bound k.few k.some k.frame_stays)

-- where none wait the line was read, and gave none
pub reads_none : (l m : LineView) (old : Machine) → old.unfed ≡ [] → m ≡ after_read 512 0 [] l → MachineReads l m old (record old { unfed = [] }) false
unfolding MachineReads Leads MachineMoves
reads_none l m old none gave d =
    let received : m.received ≡ l.received ++ [] = ap (λ (v : LineView). v.received) gave in
    let sent : m.sent ≡ l.sent = ap (λ (v : LineView). v.sent) gave in
    record {
      read = Some (record { room = 512; octets = [] });
      leads = λ b past f. read_goes l m old [] none received sent (ap (λ (v : LineView). v.failures) gave) b d past f;
      room = lit≤ tt;
      came = received;
      went_none = sent;
      calls = ap (λ (v : LineView). v.calls) gave;
      unfed = omega arith;
      reads_fed = λ _. none;
      moved_is =
          (never_less (length l.received) ∙ ap (λ (xs : List ℕ). nat_lt (length l.received) (length xs)) (sym (received ∙ append-nil l.received)))
          ∙ (or_no (nat_lt (length l.received) (length m.received)) ∙ ap (λ (xs : List ℕ). nat_lt (length l.received) (length m.received) || nat_lt 0 (length xs)) (sym none));
      nothing_came = λ _ _ _. (refl, ap (λ (xs : List ℕ). record old { unfed = xs }) (sym none));
      feeds = λ _ some _. some none;
      reads = lit≤ tt;
      empty = λ _. ap (λ (v : LineView). v.empty_reads) gave ∙ none_counted 512 0 l.empty_reads;
      stalled_stays = ap (λ (v : LineView). v.stalled_writes) gave;
      fewer = λ _ some. absurd (some (append-nil old.unfed ∙ none));
      frame_stays = λ f e. e;
      stays = refl;
    }
  where
    or_no : (c : Bool) → c ≡ (c || false)
    or_no true = refl
    or_no false = refl

-- or the call failed
pub reads_failing : (l m : LineView) (old : Machine) → old.unfed ≡ [] → m ≡ after_fault l → MachineReads l m old (record old { faulty = true }) false
unfolding MachineReads Leads MachineMoves
reads_failing l m old none fault d =
    let received : m.received ≡ l.received = ap (λ (v : LineView). v.received) fault in
    let sent : m.sent ≡ l.sent = ap (λ (v : LineView). v.sent) fault in
    record {
      read = Some (record { room = 512; octets = [] });
      leads = λ b past f. fault_goes l m old received sent (ap (λ (v : LineView). v.failures) fault) b d past f;
      room = lit≤ tt;
      came = received ∙ sym (append-nil l.received);
      went_none = sent;
      calls = ap (λ (v : LineView). v.calls) fault;
      unfed = omega arith;
      reads_fed = λ _. none;
      moved_is =
          (never_less (length l.received) ∙ ap (λ (xs : List ℕ). nat_lt (length l.received) (length xs)) (sym received))
          ∙ (or_less (nat_lt (length l.received) (length m.received)) ∙ ap (λ (c : Bool). nat_lt (length l.received) (length m.received) || c) (never_less (length old.unfed)));
      nothing_came = λ _ same _. (refl, ap (λ (c : Bool). record old { faulty = c }) same);
      feeds = λ _ some _. absurd (some none);
      reads = lit≤ tt;
      empty = λ sound. absurd (true_is_false sound);
      stalled_stays = ap (λ (v : LineView). v.stalled_writes) fault;
      fewer = λ _ some. absurd (some (append-nil old.unfed ∙ none));
      frame_stays = λ f e. e;
      stays = refl;
    }
  where
    or_less : (c : Bool) → c ≡ (c || false)
    or_less true = refl
    or_less false = refl

-- octets came, and were given to the deframer at once
pub reads_some : (l m : LineView) (old : Machine) (came : List ℕ) (fed : Deframing) (count : ℕ) → old.unfed ≡ [] → came ≢ [] → length came ≤ 512 → m ≡ after_read 512 (length came) came l
    → TakesIn old.deframer (take count came) fed → fed.n1 ≡ old.deframer.n1 → count ≤ length came → (old.deframer.next ≡ None → 0 < length came → 0 < count) → ((f : Frame) → old.deframer.next ≡ Some f → fed.next ≡ Some f)
    → MachineReads l m old (record old { unfed = drop count came; deframer = fed }) true
unfolding MachineReads Leads MachineMoves MachineGoes
reads_some l m old came fed count none some few gave takes bound part more stays d =
    let received : m.received ≡ l.received ++ came = ap (λ (v : LineView). v.received) gave ∙ ap (λ (xs : List ℕ). l.received ++ xs) (take-length came) in
    let sent : m.sent ≡ l.sent = ap (λ (v : LineView). v.sent) gave in
    let long : length m.received ≡ length l.received + length came = ap length received ∙ length-append l.received came in
    let least = some_length came some in
    let moved : nat_lt (length l.received) (length m.received) ≡ true = lt-ltb (length l.received) (length m.received) (omega (arith, long, least)) in
    record {
      read = Some (record { room = 512; octets = came });
      leads = λ b past f. feed_goes (record old { unfed = came }) fed count takes bound b m d past (read_goes l m old came none received sent (ap (λ (v : LineView). v.failures) gave) b d past f);
      room = few;
      came = received;
      went_none = sent;
      calls = ap (λ (v : LineView). v.calls) gave;
      unfed = let rest = length-drop count came in omega (arith, rest);
      reads_fed = λ _. none;
      moved_is = ap (λ (c : Bool). c || nat_lt (length (drop count came)) (length old.unfed)) (sym moved);
      nothing_came = λ h. absurd (true_false h);
      feeds = λ h. absurd (true_false h);
      reads = lit≤ tt;
      empty = λ _. ap (λ (v : LineView). v.empty_reads) gave ∙ none_counted 512 (length came) l.empty_reads;
      stalled_stays = ap (λ (v : LineView). v.stalled_writes) gave;
      fewer = λ at_hand _.
          let rest = left_over came count part in
          let least_fed = more (none_before old.deframer.next fed.next stays at_hand) least in
          omega (arith, rest, least_fed);
      frame_stays = stays;
      stays = refl;
    }
  where
    true_false : true ≡ false → ⊥
    true_false h = cc
