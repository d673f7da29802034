-- Octets are handed to the station, on one connection after the other, and all that can be.
use Rattle.std.specs.Prelude.{◌≡◌, ◌≢◌, ℕ, ◌+◌, ◌<◌, ◌≤◌, ◌==◌, ◌||◌, Bool, true, false, List, [], ◌∷◌, ◌++◌, length, refl, if◌then◌else◌}
use Rattle.std.specs.List.{list_any}
use Rattle.std.proofs.Common.{arith, sym, ap, ◌∙◌, subst, append_assoc, append-nil, length-append}
use Rattle.std.proofs.lemmas.Bool.Decides.{nat_tests}
use Rattle.std.proofs.lemmas.List.{append_cancel_left, nil_from_length}
use Rattle.mux_station.specs.declared.role.Role.{Role}
use Rattle.mux_station.specs.declared.role.Role.TheVariants.{Responder}
use Rattle.mux_station.specs.Acts as station
use Rattle.mux_station.specs.Sending as sending
use Rattle.mux_station.specs.Stations as stations
use Rattle.mux_station.specs.Opening.{opens_now, belongs, since, since_after}
use Rattle.mux_station.proofs.states.OpeningSteps.{is_open_after}
use Rattle.mux_station.specs.Offering.{data_out, joined_octets, octets_offered, octets_sent, offered}
use Rattle.mux_station.specs.States.{is_opened}
use Rattle.modem_sim.specs.Acts.{Act, Wire, End, is_handing, is_open_at_modem, wire}
use Rattle.modem_sim.specs.Boxes.{Box, is_released, released}
use Rattle.modem_sim.specs.Cores.{Core, Fits, Goes, GoesFrom, IsHandedOn, Wired, holds_over, box_at, boxed}
use Rattle.modem_sim.specs.Stills.{HandsOne, MayOffer, OffersAll, OffersFrom, OffersOn, Offering, OthersStay, offers_none, offers_some}
use Rattle.modem_sim.proofs.connections.BoxesAfterFrame.{still_offered, still_there, was_open}
use Rattle.modem_sim.proofs.ends.EndAfterFrame.{box_here, opened_is}
use Rattle.modem_sim.proofs.ends.OfferedPieces.{from_then, later_then, goes_none, goes_then, neither, stays}
use Rattle.modem_sim.proofs.ends.ScriptSteps.{not_over}

-- ## A connection after an offer

sent_after_call : (d : ℕ) (c : station.Call) (rest : List station.Act) (opens there : Bool) → (opens || there) ≡ true → opens ≡ false → joined_octets (octets_sent d) (since_after opens there (station.Called c) rest) ≡ joined_octets (octets_sent d) rest
sent_after_call d c rest true there is none = cc
sent_after_call d c rest false true is none = append-nil (joined_octets (octets_sent d) rest)
sent_after_call d c rest false false is none = cc

-- where it is open after a call it was before, what was offered before is offered still, and the same left
record StaysOpen (d : ℕ) (past : List Act) (c : station.Call) : Type 0 where
  was : is_open_at_modem d past ≡ true
  offers : offered Responder d (wire (Wire (station.Called c) ∷ past)) ≡ offered Responder d (wire past) ++ octets_offered d (station.Called c)
  leaves : data_out Responder d (wire (Wire (station.Called c) ∷ past)) ≡ data_out Responder d (wire past)

stays_open : (d : ℕ) (past : List Act) (c : station.Call) → is_open_at_modem d (Wire (station.Called c) ∷ past) ≡ true → StaysOpen d past c
stays_open d past c open_then =
    let a : station.Act = station.Called c in
    let opens = opens_now Responder d (wire past) a in
    let there = belongs Responder d (wire past) a in
    let there_open : (opens || there) ≡ true = sym (is_open_after Responder d (wire past) a) ∙ open_then in
    let rest = since Responder d (wire past) in
    record {
      was = was_open (is_open_at_modem d past) _ (still_there opens there there_open refl);
      offers = still_offered d a rest opens there there_open refl;
      leaves = sent_after_call d c rest opens there there_open refl;
    }

-- the station of an end is the responder
pub role_is : (e : End) (w : Wired) (c : Core) (past : List Act) → Fits e w c past → c.station.role ≡ Responder
role_is e w c past fits = ap (λ (s : sending.StationSetting). s.role) fits.setting_is

-- the ring of an open connection holds what was offered and hasn't left
pub ring_is : (e : End) (w : Wired) (c : Core) (past : List Act) (d : ℕ) → d < 62 → is_opened (stations.channel_at c.station d).state ≡ true → Fits e w c past → offered Responder d (wire past) ≡ data_out Responder d (wire past) ++ (stations.channel_at c.station d).waiting
ring_is e w c past d small opened fits =
    let By : Role → Type 0 = λ r. offered r d (wire past) ≡ data_out r d (wire past) ++ (stations.channel_at c.station d).waiting in
    subst By (role_is e w c past fits) ((fits.station_is.channels_are d small).ring_is opened)

-- ## Another connection

-- where all that was offered has left nothing waits
pub same_ring : (xs ys zs : List ℕ) → zs ≡ xs ++ ys → zs ≡ xs → ys ≡ []
same_ring xs ys zs is same = append_cancel_left xs ys [] (sym is ∙ same ∙ sym (append-nil xs))

apart_from : (d n : ℕ) (octets : List ℕ) (here : Bool) → (d == n) ≡ here → here ≡ false → (if d == n then octets else []) ≡ []
apart_from d n octets here is other = ap (λ (b : Bool). if b then octets else []) (is ∙ other)

-- of an open connection that stays as it was, all is handed on still
keeps_on : (e : End) (w : Wired) (old new : Core) (past now : List Act) (n : ℕ) → n < 62 → Fits e w old past → Fits e w new now → (is_open_at_modem n now ≡ true → is_open_at_modem n past ≡ true) → (is_open_at_modem n now ≡ true → offered Responder n (wire now) ≡ offered Responder n (wire past)) → (is_open_at_modem n now ≡ true → data_out Responder n (wire now) ≡ data_out Responder n (wire past)) → box_at new n ≡ box_at old n → IsHandedOn old n → IsHandedOn new n
keeps_on e w old new past now n small before fits was offers leaves box handed opened =
    let there = sym (opened_is e w new now n small fits) ∙ opened in
    let opened_before = opened_is e w old past n small before ∙ was there in
    let first = handed opened_before in
    let ring = ring_is e w old past n small opened_before before in
    let ring_now = ring_is e w new now n small opened fits in
    record {
      unsent = λ other none.
          let all : offered Responder n (wire past) ≡ data_out Responder n (wire past) =
          sym (offers there) ∙ ring_now ∙ ap (λ xs. data_out Responder n (wire now) ++ xs) none ∙ append-nil (data_out Responder n (wire now)) ∙ leaves there in
          ap (λ (b : Box). b.unsent) box ∙ first.unsent other (same_ring (data_out Responder n (wire past)) (stations.channel_at old.station n).waiting (offered Responder n (wire past)) ring all);
      released = ap (λ (b : Box). is_released b.hold) box ∙ first.released;
    }

keeps_handed : (e : End) (w : Wired) (old new : Core) (past : List Act) (d n : ℕ) → n < 62 → (d == n) ≡ false → (some : Bool) → Fits e w old past → MayOffer e w past d new some → box_at new n ≡ box_at old n → IsHandedOn old n → IsHandedOn new n
keeps_handed e w old new past d n small other _ before (offers_none fits) box handed =
    keeps_on e w old new past past n small before fits (λ is. is) (λ is. refl) (λ is. refl) box handed
keeps_handed e w old new past d n small other _ before (offers_some offers) box handed =
    let c : station.Call = station.Offer d offers.octets in
    keeps_on e w old new past (Wire (station.Called c) ∷ past) n small before offers.fits
    (λ is. (stays_open n past c is).was)
    (λ is. (stays_open n past c is).offers ∙ ap (λ xs. offered Responder n (wire past) ++ xs) (apart_from d n offers.octets (d == n) refl other) ∙ append-nil (offered Responder n (wire past)))
    (λ is. (stays_open n past c is).leaves) box handed

-- ## The same connection

some_in_ring : (out ring octets now : List ℕ) → octets ≢ [] → (out ++ ring) ++ octets ≡ out ++ now → now ≡ [] → ⊥
some_in_ring out ring octets now some same none =
    let parts = ap length (sym (append_assoc out ring octets) ∙ same ∙ ap (λ xs. out ++ xs) none) in
    let long = length-append out (ring ++ octets) in
    let long_too = length-append ring octets in
    let short = length-append out [] in
    some (nil_from_length octets (omega (arith, parts, long, long_too, short)))

same_place : (d : ℕ) (octets : List ℕ) → (if d == d then octets else []) ≡ octets
same_place d octets = let here : (d == d) ≡ true = grind (arith, nat_tests) in ap (λ (b : Bool). if b then octets else []) here

-- octets that were offered wait there
pub handed_some : (e : End) (w : Wired) (old new : Core) (past : List Act) (d : ℕ) → d < 62 → is_opened (stations.channel_at old.station d).state ≡ true → is_released (box_at new d).hold ≡ false → Fits e w old past → OffersFrom e w past d new → IsHandedOn new d
handed_some e w old new past d small was over before offers opened =
    let c : station.Call = station.Offer d offers.octets in
    let now : List Act = Wire (station.Called c) ∷ past in
    let there = sym (opened_is e w new now d small offers.fits) ∙ opened in
    let still = stays_open d past c there in
    let out = data_out Responder d (wire past) in
    let ring = (stations.channel_at old.station d).waiting in
    let waits = (stations.channel_at new.station d).waiting in
    let same : (out ++ ring) ++ offers.octets ≡ out ++ waits =
    ap (λ xs. xs ++ offers.octets) (sym (ring_is e w old past d small was before))
    ∙ ap (λ xs. offered Responder d (wire past) ++ xs) (sym (same_place d offers.octets))
    ∙ sym still.offers ∙ ring_is e w new now d small opened offers.fits ∙ ap (λ xs. xs ++ waits) still.leaves in
    record { unsent = λ other none. absurd (some_in_ring out ring offers.octets waits offers.some same none); released = over }

-- nothing was handed to the station, since nothing could be
pub handed_none : (c : Core) (d : ℕ) → is_released (box_at c d).hold ≡ false → ((d == 0) ≡ false → (stations.channel_at c.station d).waiting ≡ [] → (box_at c d).unsent ≡ []) → IsHandedOn c d
handed_none c d over none opened = record { unsent = none; released = over }

-- what was offered is handed to the station
pub offering_goes : (old new : Core) (d : ℕ) → Offering old new d → Goes is_handing old new
offering_goes old new d offers e w past fits =
    let given = offers e w past fits in
    record {
      now = Wire (station.Called (station.Offer d given.octets)) ∷ past;
      later = record { newer = Wire (station.Called (station.Offer d given.octets)) ∷ []; joins = refl };
      only = refl;
      fits = given.fits;
    }

-- whether octets of d were handed on or nothing changed, the end goes on
pub goes_either : (mid new : Core) (r : Bool) (d : ℕ) → (r ≡ true → Offering mid new d) → (r ≡ false → new ≡ mid) → Goes is_handing mid new
goes_either mid new true d offers same = offering_goes mid new d (offers refl)
goes_either mid new false d offers same = let At : Core → Type 0 = λ c. Goes is_handing mid c in subst At (sym (same refl)) (goes_none is_handing mid)

-- letting a hold go leaves its connection open
pub release_opened : (old new : Core) (d : ℕ) → new ≡ boxed old d (released (box_at old d)) → is_opened (stations.channel_at old.station d).state ≡ true → is_opened (stations.channel_at new.station d).state ≡ true
release_opened old new d same opened = ap (λ (c : Core). is_opened (stations.channel_at c.station d).state) same ∙ opened

-- behind that no hold is over there
pub released_there : (old new : Core) (d : ℕ) → length old.boxes ≡ 62 → d < 62 → new ≡ boxed old d (released (box_at old d)) → is_released (box_at new d).hold ≡ false
released_there old new d all small same =
    let inside : d < length old.boxes = omega (arith, all, small) in
    let here : (d == d) ≡ true = grind (arith, nat_tests) in
    ap (λ (c : Core). is_released (box_at c d).hold) same
    ∙ ap (λ (b : Box). is_released b.hold) (box_here old.boxes d d (released (box_at old d)) true here inside)
    ∙ not_over (box_at old d)

-- octets of an open connection without a hold that is over are handed on, if any, and then all of it is
pub hands_one : (mid new : Core) (d : ℕ) (r : Bool) → d < 62 → is_opened (stations.channel_at mid.station d).state ≡ true → is_released (box_at mid d).hold ≡ false → (box_at new d).hold ≡ (box_at mid d).hold → (r ≡ true → Offering mid new d) → (r ≡ false → new ≡ mid) → (r ≡ false → (d == 0) ≡ false → (stations.channel_at mid.station d).waiting ≡ [] → (box_at mid d).unsent ≡ []) → (e : End) (w : Wired) (past : List Act) → Fits e w mid past → HandsOne e w past d new r
hands_one mid new d true small opened ends hold offers same none e w past fits =
    let given = offers refl e w past fits in
    record { from = offers_some given; all = handed_some e w mid new past d small opened (ap is_released hold ∙ ends) fits given }
hands_one mid new d false small opened ends hold offers same none e w past fits =
    let At : Core → Type 0 = λ c. HandsOne e w past d c false in
    subst At (sym (same refl)) (record { from = offers_none fits; all = handed_none mid d ends (none refl) })

-- where a hold that is over was let go before
pub offers_on : (old mid new : Core) (d : ℕ) (released_it r : Bool) → (released_it ≡ true → holds_over mid.boxes < holds_over old.boxes) → (released_it ≡ false → mid ≡ old) → holds_over new.boxes ≡ holds_over mid.boxes → ((e : End) (w : Wired) (past : List Act) → Fits e w old past → Fits e w mid past) → ((e : End) (w : Wired) (past : List Act) → Fits e w mid past → HandsOne e w past d new r) → OffersOn old new d (released_it || r)
offers_on old mid new d released_it r fewer same count stays_so hands = record {
  some = r;
  hands = λ e w past fits. hands e w past (stays_so e w past fits);
  lets_go = λ moved none. let less = fewer (by_release released_it r moved none) in omega (arith, less, count);
  none = λ still. (neither released_it r still).1;
  no_more = by_flag released_it refl;
}
  where
    by_release : (a b : Bool) → (a || b) ≡ true → b ≡ false → a ≡ true
    by_release true b is none = refl
    by_release false true is none = cc
    by_release false false is none = cc

    by_flag : (b : Bool) → released_it ≡ b → holds_over new.boxes ≤ holds_over old.boxes
    by_flag true is = let less = fewer is in omega (arith, less, count)
    by_flag false is = let equal = ap (λ (c : Core). holds_over c.boxes) (same is) in omega (arith, equal, count)

-- where a connection isn't open nothing is handed on
pub offers_shut : (c : Core) (d : ℕ) → is_opened (stations.channel_at c.station d).state ≡ false → OffersOn c c d false
offers_shut c d shut = record {
  some = false;
  hands = λ e w past fits. record { from = offers_none fits; all = λ opened. absurd (not_both (is_opened (stations.channel_at c.station d).state) opened shut) };
  lets_go = λ moved. cc;
  none = λ still. refl;
  no_more = omega arith;
}
  where
    not_both : (b : Bool) → b ≡ true → b ≡ false → ⊥
    not_both true is other = cc
    not_both false is other = cc

-- octets were handed to the station, or none
record OneGoes (e : End) (w : Wired) (past : List Act) (c : Core) (some : Bool) : Type 0 where
  from : GoesFrom is_handing e w past c
  brings : list_any is_handing from.later.newer ≡ some

one_goes : (e : End) (w : Wired) (past : List Act) (d : ℕ) (c : Core) (some : Bool) → MayOffer e w past d c some → OneGoes e w past c some
unfolding stays
one_goes e w past d c _ (offers_none fits) = record { from = stays is_handing e w past c fits; brings = refl }
one_goes e w past d c _ (offers_some given) = record {
  from = record {
    now = Wire (station.Called (station.Offer d given.octets)) ∷ past;
    later = record { newer = Wire (station.Called (station.Offer d given.octets)) ∷ []; joins = refl };
    only = refl;
    fits = given.fits;
  };
  brings = refl;
}

any_both : (xs ys : List Act) → list_any is_handing (xs ++ ys) ≡ (list_any is_handing xs || list_any is_handing ys)
any_both [] ys = refl
any_both (x ∷ xs) ys = ap (λ (b : Bool). is_handing x || b) (any_both xs ys) ∙ either (is_handing x) (list_any is_handing xs) (list_any is_handing ys)
  where
    either : (a b c : Bool) → (a || (b || c)) ≡ ((a || b) || c)
    either true b c = refl
    either false b c = refl

then_brings : (e : End) (w : Wired) (past : List Act) (b c : Core) (first : GoesFrom is_handing e w past b) (second : GoesFrom is_handing e w first.now c) (p q : Bool) → list_any is_handing first.later.newer ≡ p → list_any is_handing second.later.newer ≡ q → list_any is_handing (from_then is_handing e w past b c first second).later.newer ≡ (q || p)
unfolding from_then later_then
then_brings e w past b c first second p q is is_too =
    any_both second.later.newer first.later.newer ∙ ap (λ (x : Bool). x || list_any is_handing first.later.newer) is_too ∙ ap (λ (x : Bool). q || x) is

-- where no hold was let go, and no octets could be offered, all of it is handed on
pub handed_on : (old mid : Core) (d : ℕ) (r : Bool) → r ≡ is_released (box_at old d).hold → mid ≡ old → r ≡ false → ((d == 0) ≡ false → (stations.channel_at mid.station d).waiting ≡ [] → (box_at mid d).unsent ≡ []) → IsHandedOn old d
handed_on old mid d r is same none unsent opened =
    let At : Core → Type 0 = λ c. (d == 0) ≡ false → (stations.channel_at c.station d).waiting ≡ [] → (box_at c d).unsent ≡ [] in
    record { unsent = subst At same unsent; released = sym is ∙ none }

-- it goes on by handing octets to the station, and hands on all of the first n connections
pub record HandsBelow (e : End) (w : Wired) (past : List Act) (c : Core) (n : ℕ) (some : Bool) : Type 0 where
  pub from : GoesFrom is_handing e w past c
  pub brings : list_any is_handing from.later.newer ≡ some
  pub all : (d : ℕ) → d < n → IsHandedOn c d

-- what an end handed on, on one connection after the other
pub record Hands (old new : Core) (moved : Bool) (n : ℕ) : Type 0 where
  pub goes : Goes is_handing old new
  pub some : Bool
  pub hands : (e : End) (w : Wired) (past : List Act) → Fits e w old past → HandsBelow e w past new n some
  pub lets_go : moved ≡ true → some ≡ false → holds_over new.boxes < holds_over old.boxes
  pub handed_none : moved ≡ false → some ≡ false
  pub same : moved ≡ false → new ≡ old
  pub none : moved ≡ false → (d : ℕ) → d < n → IsHandedOn old d
  pub steps : new.steps ≡ old.steps
  pub n1 : new.station.n1 ≡ old.station.n1

-- before the first connection nothing is handed on
pub hands_none : (c : Core) → Hands c c false 0
unfolding stays
hands_none c = record { goes = goes_none is_handing c; some = false; hands = none_below; lets_go = λ moved. cc; handed_none = λ still. refl; same = λ is. refl; none = λ is d small. absurd (omega arith); steps = refl; n1 = refl }
  where
    none_below : (e : End) (w : Wired) (past : List Act) → Fits e w c past → HandsBelow e w past c 0 false
    none_below e w past fits = record { from = stays is_handing e w past c fits; brings = refl; all = λ d small. absurd (omega arith) }

-- and then one connection more
pub hands_more : (old mid new : Core) (moved offered : Bool) (n : ℕ) → n < 62 → Hands old mid moved n → Goes is_handing mid new → OffersOn mid new n offered → OthersStay mid new n → (offered ≡ false → new ≡ mid) → (offered ≡ false → IsHandedOn mid n) → new.steps ≡ mid.steps → new.station.n1 ≡ mid.station.n1 → Hands old new (moved || offered) (n + 1)
hands_more old mid new moved offered n low before goes one others same none steps n1 = record {
  some = one.some || before.some;
  lets_go = λ really nothing. let both = neither one.some before.some nothing in fewer_by moved refl really both.0 both.1;
  handed_none = λ still.
      let both = neither moved offered still in
      ap (λ (b : Bool). b || before.some) (one.none both.1) ∙ before.handed_none both.0;
  steps = steps ∙ before.steps;
  n1 = n1 ∙ before.n1;
  goes = goes_then is_handing old mid new before.goes goes;
  hands = λ e w past fits.
      let first = before.hands e w past fits in
      let second = one.hands e w first.from.now first.from.fits in
      let went = one_goes e w first.from.now n new one.some second.from in
      record {
        from = from_then is_handing e w past mid new first.from went.from;
        brings = then_brings e w past mid new first.from went.from before.some one.some first.brings went.brings;
        all = λ d small.
            at_place (d == n) refl
            (λ less.
            let other : (n == d) ≡ false = grind (arith, nat_tests) in
            keeps_handed e w mid new first.from.now n d (omega (arith, less, low)) other one.some first.from.fits second.from (others d other) (first.all d less))
            (λ equal. let At : ℕ → Type 0 = λ m. IsHandedOn new m in subst At (sym equal) second.all)
            small;
      };
  same = λ is. let both = neither moved offered is in same both.1 ∙ before.same both.0;
  none = λ is d small.
      let both = neither moved offered is in
      let At : Core → Type 0 = λ c. IsHandedOn c n in
      let At_n : ℕ → Type 0 = λ m. IsHandedOn old m in
      at_place (d == n) refl (λ less. before.none both.0 d less) (λ equal. subst At_n (sym equal) (subst At (before.same both.0) (none both.1))) small;
}
  where
    fewer_by : (b : Bool) → moved ≡ b → (moved || offered) ≡ true → one.some ≡ false → before.some ≡ false → holds_over new.boxes < holds_over old.boxes
    fewer_by true is really none_one none_before =
        let less = before.lets_go is none_before in
        let no_more = one.no_more in
        omega (arith, less, no_more)
    fewer_by false is really none_one none_before =
        let less = one.lets_go (sym (ap (λ (b : Bool). b || offered) is) ∙ really) none_one in
        let equal = ap (λ (c : Core). holds_over c.boxes) (before.same is) in
        omega (arith, less, equal)

    at_place : {P : Type 0} {d n : ℕ} (here : Bool) → (d == n) ≡ here → (d < n → P) → (d ≡ n → P) → d < n + 1 → P
    at_place {d = d} {n = n} true is less equal small = equal (grind (arith, nat_tests))
    at_place {d = d} {n = n} false is less equal small = less (grind (arith, nat_tests))

-- where it went over all connections all is handed on
pub hands_all : (old new : Core) (moved : Bool) (n : ℕ) → n ≡ 62 → Hands old new moved n → OffersAll old new moved
hands_all old new moved n all hands = record {
  some = hands.some;
  hands = λ e w past fits.
      let done = hands.hands e w past fits in
      record { from = done.from; brings = done.brings; all = λ d small. done.all d (omega (arith, small, all)) };
  lets_go = hands.lets_go;
  none = hands.handed_none;
}
