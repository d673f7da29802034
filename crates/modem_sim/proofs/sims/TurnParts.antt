-- What the parts of a turn do, or why they do nothing.
use Rattle.std.specs.Prelude.{◌≡◌, ◌≢◌, ℕ, zero, suc, ◌<◌, ◌≤◌, nat_lt, ◌==◌, ◌&&◌, Bool, true, false, List, [], ◌∷◌, ◌++◌, length, take, drop, Option, Some, None, option_map, refl, if◌then◌else◌}
use Rattle.std.proofs.Common.{arith, sym, ap, ◌∙◌, append-nil, length-take, take-append-drop}
use Rattle.std.proofs.lemmas.Bool.Decides.{nat_tests}
use Rattle.std.proofs.lemmas.List.{nil_from_length}
use Rattle.std.proofs.Math.Seq.{take-length}
use Rattle.serial_line.specs.Counts.{one_more, counted_if_none}
use Rattle.serial_line.specs.LineViews.{LineView, after_read, after_write}
use Rattle.mux_frame.specs.Frames.{Frame}
use Rattle.mux_frame.specs.Deframing.{Deframing, TakesIn}
use Rattle.modem_sim.specs.Sims.{SimMachine}
use Rattle.mux_station.specs.Giving.{next_given}
use Rattle.mux_station.specs.GivenFrames.{with_freshness}
use Rattle.modem_sim.specs.Cores.{Core, IsHandedOn, gone_on}
use Rattle.modem_history.specs.EveryTurn.{counted_none}
use Rattle.modem_history.specs.Turns.{Read}
use Rattle.modem_sim.specs.Stills.{Feeds, FeedsNone, LoadsNone, ReadsOnce, Writes}
use Rattle.modem_sim.proofs.sims.SimPasts.{fed_fits, fetched_nothing, none_mapped}

-- a list of length 0 is empty
pub none_of : {A : Type 0} (xs : List A) → (length xs == 0) ≡ true → xs ≡ []
none_of xs is = let zero : length xs ≡ 0 = grind (arith, nat_tests) in nil_from_length xs zero

-- a list of another length isn't
pub some_of : {A : Type 0} (xs : List A) → (length xs == 0) ≡ false → xs ≢ []
some_of [] is = cc
some_of (x ∷ xs) is = λ none. cc

is_zero : (n : ℕ) → nat_lt 0 n ≡ false → n ≡ 0
is_zero n is = grind (arith, nat_tests)

-- ## Feeding

-- where no octets wait for the deframer it takes none
pub feeds_nothing : (k : SimMachine) → (length k.unfed == 0) ≡ true → FeedsNone k k
feeds_nothing k empty = record {
  stays = λ e came went past fits. fits;
  same_unfed = refl;
  same_next = refl;
  none = λ none. none_of k.unfed empty;
}

-- nor where it takes none of those that wait, since a frame is at hand
pub feeds_none : (old : SimMachine) (d : Deframing) (n : ℕ) → TakesIn old.deframer (take n old.unfed) d → d.n1 ≡ old.deframer.n1 → (old.deframer.next ≡ None → 0 < length old.unfed → 0 < n) → ((f : Frame) → old.deframer.next ≡ Some f → d.next ≡ Some f) → nat_lt 0 n ≡ false → (length old.unfed == 0) ≡ false → FeedsNone old (record old { unfed = drop n old.unfed; deframer = d })
feeds_none old d n takes same some stays none waiting =
    let zero = is_zero n none in
    record {
      stays = fed_fits old d n takes same;
      same_unfed = ap (λ m. drop m old.unfed) zero;
      same_next = by_next old.deframer.next refl;
      none = λ without. all_fed without (length old.unfed == 0) refl;
    }
  where
    all_fed : old.deframer.next ≡ None → (empty : Bool) → (length old.unfed == 0) ≡ empty → old.unfed ≡ []
    all_fed without true is = none_of old.unfed is
    all_fed without false is = let there : 0 < length old.unfed = grind (arith, nat_tests) in let fed = some without there in let zero = is_zero n none in absurd (omega (arith, fed, zero))

    by_next : (o : Option Frame) → old.deframer.next ≡ o → d.next ≡ old.deframer.next
    by_next (Some f) is = stays f is ∙ sym is
    by_next None is = let there : 0 < length old.unfed = grind (arith, nat_tests) in let fed = some is there in let zero = is_zero n none in absurd (omega (arith, fed, zero))

some_length : (xs : List ℕ) → xs ≢ [] → 0 < length xs
some_length [] some = absurd (some refl)
some_length (x ∷ xs) some = omega arith

-- where none wait none are fed
pub feeds_empty : (k : SimMachine) → (length k.unfed == 0) ≡ true → Feeds k k
feeds_empty k empty = record {
  stays = λ e came went past fits. fits;
  fed = [];
  feeds = refl;
  some = λ none some. absurd (some (none_of k.unfed empty));
}

first_taken : (n : ℕ) (xs : List ℕ) → 0 < n → xs ≢ [] → take n xs ≢ []
first_taken zero xs some there = absurd (omega (arith, some))
first_taken (suc n) [] some there = absurd (there refl)
first_taken (suc n) (x ∷ xs) some there = λ none. cc

-- the first of those that wait are fed
pub feeds_some : (old : SimMachine) (d : Deframing) (n : ℕ) → TakesIn old.deframer (take n old.unfed) d → d.n1 ≡ old.deframer.n1 → (old.deframer.next ≡ None → 0 < length old.unfed → 0 < n) → ((f : Frame) → old.deframer.next ≡ Some f → d.next ≡ Some f) → Feeds old (record old { unfed = drop n old.unfed; deframer = d })
feeds_some old d n takes same some stays = record {
  stays = fed_fits old d n takes same;
  fed = take n old.unfed;
  feeds = sym (take-append-drop n old.unfed);
  some = λ none there. first_taken n old.unfed (some (none_before old.deframer.next refl none) (some_length old.unfed there)) there;
}
  where
    none_before : (o : Option Frame) → old.deframer.next ≡ o → d.next ≡ None → old.deframer.next ≡ None
    none_before None is none = is
    none_before (Some f) is none = let kept = stays f is in cc

-- ## Loading

-- where none stood ready to be written and some do, more do
pub more_ready : (before now : List ℕ) → before ≡ [] → now ≢ [] → length before < length now
more_ready before now none some = let zero = ap length none in let long = some_length now some in omega (arith, zero, long)

-- where all is handed on and no frame is next nothing is loaded
pub loads_nothing : (old : SimMachine) (mid core : Core) (fresh : Bool) → mid ≡ old.core → None ≡ option_map (with_freshness fresh) (next_given mid.station mid.station.queue) → core ≡ gone_on mid → ((d : ℕ) → d < 62 → IsHandedOn old.core d) → LoadsNone old (record old { core = core })
loads_nothing old mid core fresh same none is handed = record {
  same = ap (λ (c : Core). record old { core = c }) (fetched_nothing old.core mid core fresh same none is);
  none = λ _. record {
    handed = handed;
    none_next = ap (λ (c : Core). next_given c.station c.station.queue) (sym same) ∙ none_mapped (with_freshness fresh) (next_given mid.station mid.station.queue) none;
  };
}

-- ## The line

-- a call that could move octets and moved none is counted
none_counted : (could n count : ℕ) → counted_if_none could n count ≡ counted_none could n count
none_counted zero n count = refl
none_counted (suc k) n count =
    let some : nat_lt 0 (suc k) ≡ true = grind (arith, nat_tests) in
    let no_zero : (suc k == 0) ≡ false = grind (arith, nat_tests) in
    ap (λ (b : Bool). if b && (n == 0) then one_more count else count) some
    ∙ sym (ap (λ (b : Bool). if b then count else if n == 0 then one_more count else count) no_zero)

-- where no octets wait the line is offered none
pub writes_nothing : (k : SimMachine) (l : LineView) → (length k.out == 0) ≡ true → Writes l l k k 0
writes_nothing k l empty = record {
  write = None;
  offers = none_of k.out empty;
  went = sym (append-nil l.sent);
  none_came = refl;
  calls_are = refl;
  stalled_are = refl;
  empty_stay = refl;
  parts = refl;
  count_is = refl;
  kept = refl;
  none = λ some zero. absurd (some (none_of k.out empty));
}

-- where some wait it is offered all, and takes the first
pub writes_some : (old new : SimMachine) (l m : LineView) (n : ℕ) → (length old.out == 0) ≡ false → n ≤ length old.out → m ≡ after_write n old.out l → new ≡ record old { out = drop n old.out } → Writes l m old new n
writes_some old new l m n some bound took is = record {
  write = Some (record { offered = old.out; count = n });
  offers = record {
    some = some_length old.out (some_of old.out some);
    bound = bound;
    first = record { rest = []; joins = append-nil old.out ∙ sym (take-append-drop n old.out) };
  };
  went = ap (λ (v : LineView). v.sent) took;
  none_came = ap (λ (v : LineView). v.received) took;
  calls_are = ap (λ (v : LineView). v.calls) took;
  stalled_are = ap (λ (v : LineView). v.stalled_writes) took ∙ none_counted (length old.out) n l.stalled_writes;
  empty_stay = ap (λ (v : LineView). v.empty_reads) took;
  parts = take-append-drop n old.out;
  count_is = let long = length-take n old.out in omega (arith, long, bound);
  kept = is;
  none = λ there zero. ap (λ m. Some (record { offered = old.out; count = m })) zero;
}

-- while octets wait for the deframer the line isn't read
pub reads_nothing : (k : SimMachine) (l : LineView) → (length k.unfed == 0) ≡ false → ReadsOnce l l k k false
reads_nothing k l some = record {
  read = None;
  room = tt;
  some_room = λ r none. cc;
  reads = λ empty. absurd (some_of k.unfed some empty);
  reads_fed = λ there. absurd (there refl);
  came_are = sym (append-nil l.received);
  none_went = refl;
  calls_are = refl;
  empty_are = refl;
  stalled_stay = refl;
  says = refl;
  kept = ap (λ xs. record k { unfed = xs }) (sym (append-nil k.unfed));
  none = λ empty none. absurd (some_of k.unfed some empty);
}

abbrev room_of : Option Read → ℕ
room_of None = 0
room_of (Some r) = r.room

-- else it is read, with room for 512 octets
pub reads_some : (old new : SimMachine) (l m : LineView) (octets : List ℕ) (n : ℕ) → (length old.unfed == 0) ≡ true → n ≤ 512 → n ≡ length octets → m ≡ after_read 512 n octets l → new ≡ record old { unfed = octets } → ReadsOnce l m old new (nat_lt 0 n)
reads_some old new l m octets n empty bound count gave is = record {
  read = Some (record { room = 512; octets = octets });
  room = omega (arith, bound, count);
  some_room = λ r is. let room : 512 ≡ r.room = ap room_of is in omega (arith, room);
  reads = λ _ none. cc;
  reads_fed = λ _. none_of old.unfed empty;
  came_are =
      ap (λ (v : LineView). v.received) gave ∙ ap (λ m. l.received ++ take m octets) count
      ∙ ap (λ xs. l.received ++ xs) (take-length octets);
  none_went = ap (λ (v : LineView). v.sent) gave;
  calls_are = ap (λ (v : LineView). v.calls) gave;
  empty_are =
      ap (λ (v : LineView). v.empty_reads) gave
      ∙ (ap (λ m. counted_if_none 512 m l.empty_reads) count ∙ none_counted 512 (length octets) l.empty_reads);
  stalled_stay = ap (λ (v : LineView). v.stalled_writes) gave;
  says = ap (nat_lt 0) count;
  kept = is ∙ ap (λ xs. record old { unfed = xs ++ octets }) (sym (none_of old.unfed empty));
  none = λ _ none. let zero = is_zero n none in ap (λ xs. Some (record { room = 512; octets = xs })) (nil_from_length octets (sym count ∙ zero));
}
