-- What a caller was told before it submitted.
use Rattle.std.specs.Prelude.{◌≡◌, ◌⊎◌, ℕ, zero, suc, ◌+◌, ◌<◌, ◌≤◌, Bool, true, false, List, [], ◌∷◌, ◌++◌, length, set, slice_index_or, refl, if◌then◌else◌}
use Rattle.std.proofs.Common.{ap, sym, subst, ◌∙◌, arith, append_assoc, append-nil, inl, inr, ⊎_elim}
use Rattle.std.proofs.lemmas.List.{get_or-set_same, get_or-set_other, get_or_append_left, get_or_push, length-append, length_push}
use mathlib.Core.Option.{some, some-ne-none}
use lib.ListN.{get_elem?}
use Rattle.modem_desk.specs.Ends.{CallerView, Each, Place}
use Rattle.modem_desk.specs.declared.request.Answer.{Answer}
use Rattle.modem_desk.specs.declared.request.Ask.{Ask}
use Rattle.modem_desk.specs.declared.request.Ask.TheVariants as ask
use Rattle.modem_desk.specs.declared.request.Outcome.{Outcome}
use Rattle.modem_desk.specs.declared.request.Request.{Request}
use Rattle.modem_desk.proofs.desk_places.ReturnedEnds.{each_more}
use Rattle.modem_desk.proofs.queue_rule.CallerPasses.{at_number, below_length}
use Rattle.ctl_drive.specs.Asking.{IsAskedAs, is_on}
use Rattle.ctl_drive.specs.Channels.{HasToldOpening, KeepsOrder, closed_by, closes, is_told, shut_of, state_at, submitted_by, told_at}
use Rattle.ctl_drive.specs.declared.channels.ChannelState.{ChannelState}
use Rattle.ctl_drive.specs.declared.channels.ChannelState.TheVariants as state

-- ## The caller goes on

-- it took outcomes and submitted requests
pub record Grows (old new : CallerView) : Type 0 where
  pub place : new.place ≡ old.place
  pub more : List Request
  pub submitted : new.submitted ≡ old.submitted ++ more
  pub later : List Outcome
  pub got : new.got ≡ old.got ++ later

got_longer : (c d : CallerView) → Grows c d → length c.got ≤ length d.got
got_longer c d g = let e : length d.got ≡ length c.got + length g.later = ap (length {A = Outcome}) g.got ∙ length-append c.got g.later in omega arith

-- what the request of a number asks stays when more is submitted
pub asked_stays : (first : ℕ) (rs more : List Request) (n : ℕ) (what : Ask) → IsAskedAs first rs n what → IsAskedAs first (rs ++ more) n what
asked_stays first rs more n what h = record {
  before = h.before;
  request = h.request;
  later = h.later ++ more;
  submitted_are = ap (λ (x : List Request). x ++ more) h.submitted_are ∙ append_assoc h.before (h.request ∷ h.later) more;
  number_is = h.number_is;
  ask_is = h.ask_is;
}

-- and when the caller goes on
pub asked_grows : (c d : CallerView) (n : ℕ) (what : Ask) → Grows c d → IsAskedAs c.place.first c.submitted n what → IsAskedAs d.place.first d.submitted n what
asked_grows c d n what g h =
    subst (λ (x : Place × List Request). IsAskedAs x.0.first x.1 n what) (λ i. (sym g.place i, sym g.submitted i)) (asked_stays c.place.first c.submitted g.more n what h)

at_front : {A : Type 0} (xs ys : List A) (i : ℕ) (x : A) → get_elem? xs i ≡ some x → get_elem? (xs ++ ys) i ≡ some x
at_front [] ys i x e = absurd (some-ne-none x (sym e))
at_front (y ∷ xs) ys zero x e = e
at_front (y ∷ xs) ys (suc i) x e = at_front xs ys i x e

-- the last element is at the place of how many were before it
pub at_back : {A : Type 0} (xs : List A) (x : A) → get_elem? (xs ++ x ∷ []) (length xs) ≡ some x
at_back [] x = refl
at_back (y ∷ xs) x = at_back xs x

told_grows : (c d : CallerView) (n m e : ℕ) → Grows c d → n ≤ m → HasToldOpening c n e → HasToldOpening d m e
told_grows c d n m e g le h = record {
  dlci = h.dlci;
  dlci_is = h.dlci_is;
  outcome = h.outcome;
  asked = asked_grows c d h.outcome.number (ask.OpenChannel h.dlci) g h.asked;
  place = h.place;
  taken = subst (λ (x : List Outcome). get_elem? x h.place ≡ some h.outcome) (sym g.got) (at_front c.got g.later h.place h.outcome h.taken);
  early = let early : h.place < n = h.early in omega arith;
}

told_at_once : (c d : CallerView) (n m e : ℕ) → Grows c d → m ≡ n → HasToldOpening c n e → HasToldOpening d m e
told_at_once c d n m e g same h = told_grows c d n m e g (omega arith) h

-- ## An outcome was taken

pub record TakesOne (old new : CallerView) (o : Outcome) : Type 0 where
  pub place : new.place ≡ old.place
  pub submitted : new.submitted ≡ old.submitted
  pub before : new.got_before ≡ old.got_before
  pub got : new.got ≡ old.got ++ o ∷ []

-- so the caller goes on
pub grows_taking : (c d : CallerView) (o : Outcome) → TakesOne c d o → Grows c d
grows_taking c d o s = record { place = s.place; more = []; submitted = s.submitted ∙ sym (append-nil c.submitted); later = o ∷ []; got = s.got }

-- it keeps its order, if what is now known to be told was told before, or just now
pub keeps_taking : (states new : List ChannelState) (c d : CallerView) → Grows c d → d.submitted ≡ c.submitted → d.got_before ≡ c.got_before → length new ≡ 62
    → ((e : ℕ) → told_at new e ≡ true → (told_at states e ≡ true) ⊎ HasToldOpening d (length d.got) e) → KeepsOrder states c → KeepsOrder new d
keeps_taking states new c d g none before long known k = record {
  one_each = ap (length {A = ℕ}) before ∙ k.one_each ∙ ap (length {A = Request}) (sym none);
  long = long;
  told = λ e is. ⊎_elim (λ (was : told_at states e ≡ true). told_grows c d (length c.got) (length d.got) e g (got_longer c d g) (k.told e was)) (λ (h : HasToldOpening d (length d.got) e). h) (known e is);
  opens_first =
      subst (λ (x : List Request × List ℕ). Each (λ i r. (e : ℕ) → is_on e r.ask ≡ true → HasToldOpening d (slice_index_or x.1 i 0) e) x.0) (λ i. (sym none i, sym before i))
      (λ i r at e on. told_at_once c d (slice_index_or c.got_before i 0) (slice_index_or c.got_before i 0) e g refl (k.opens_first i r at e on));
  stops_last = subst (λ (x : List Request × List ℕ). Each (λ i r. r.ask ≡ ask.Stop → slice_index_or x.1 i 0 ≡ i) x.0) (λ i. (sym none i, sym before i)) k.stops_last;
}

-- ## A request was submitted

pub record SubmitsOne (old new : CallerView) (r : Request) : Type 0 where
  pub place : new.place ≡ old.place
  pub submitted : new.submitted ≡ old.submitted ++ r ∷ []
  pub got : new.got ≡ old.got
  pub before : new.got_before ≡ old.got_before ++ length old.got ∷ []

-- so the caller goes on
pub grows_one : (c d : CallerView) (r : Request) → SubmitsOne c d r → Grows c d
grows_one c d r s = record { place = s.place; more = r ∷ []; submitted = s.submitted; later = []; got = s.got ∙ sym (append-nil c.got) }

-- it keeps its order: a command's connection was told something, and before a Stop it had all outcomes
pub keeps_submitting : (states new : List ChannelState) (c d : CallerView) (r : Request) → SubmitsOne c d r → length new ≡ 62 → ((e : ℕ) → told_at new e ≡ true → told_at states e ≡ true)
    → ((e : ℕ) → is_on e r.ask ≡ true → told_at states e ≡ true) → (r.ask ≡ ask.Stop → length c.got ≡ length c.submitted) → KeepsOrder states c → KeepsOrder new d
keeps_submitting states new c d r s long same on stop k =
    let g = grows_one c d r s in
    let before : List ℕ = c.got_before ++ length c.got ∷ [] in
    let here : slice_index_or before (length c.submitted) 0 ≡ length c.got = get_or_push c.got_before (length c.got) 0 (length c.submitted) k.one_each in
    let old = λ (i : ℕ) (q : Request) (at : get_elem? c.submitted i ≡ some q).
    get_or_append_left c.got_before (length c.got ∷ []) 0 i (let lt : i < length c.submitted = below_length c.submitted i q at in let e = k.one_each in omega arith) in
    record {
      one_each =
          ap (length {A = ℕ}) s.before ∙ length_push c.got_before (length c.got) ∙ ap (λ (n : ℕ). n + 1) k.one_each ∙ sym (length_push c.submitted r) ∙ ap (length {A = Request}) (sym s.submitted);
      long = long;
      told = λ e is. told_grows c d (length c.got) (length d.got) e g (got_longer c d g) (k.told e (same e is));
      opens_first =
          subst (λ (x : List Request × List ℕ). Each (λ i q. (e : ℕ) → is_on e q.ask ≡ true → HasToldOpening d (slice_index_or x.1 i 0) e) x.0) (λ i. (sym s.submitted i, sym s.before i))
          (each_more (λ i q. (e : ℕ) → is_on e q.ask ≡ true → HasToldOpening d (slice_index_or before i 0) e) c.submitted r
          (λ i q at e is. told_at_once c d (slice_index_or c.got_before i 0) (slice_index_or before i 0) e g (old i q at) (k.opens_first i q at e is))
          (λ e is. told_at_once c d (length c.got) (slice_index_or before (length c.submitted) 0) e g here (k.told e (on e is))));
      stops_last =
          subst (λ (x : List Request × List ℕ). Each (λ i q. q.ask ≡ ask.Stop → slice_index_or x.1 i 0 ≡ i) x.0) (λ i. (sym s.submitted i, sym s.before i))
          (each_more (λ i q. q.ask ≡ ask.Stop → slice_index_or before i 0 ≡ i) c.submitted r (λ i q at is. old i q at ∙ k.stops_last i q at is) (λ is. here ∙ stop is));
    }

-- ## What is known of the connections

-- what was told before one was put into another state, or that state says so
pub told_set : (states : List ChannelState) (d e : ℕ) (s : ChannelState) → d < length states → told_at (set states d s) e ≡ true → (told_at states e ≡ true) ⊎ ((d ≡ e) × (is_told s ≡ true))
told_set states d e s within h =
    at_number e d
    (λ (q : e ≡ d). inr (sym q, sym (ap is_told (ap (λ (n : ℕ). state_at (set states d s) n) q ∙ get_or-set_same states d s state.Untold within)) ∙ h))
    (λ apart. inl (sym (ap is_told (get_or-set_other states d e s state.Untold apart)) ∙ h))

shut_told : (s : ChannelState) → is_told (shut_of s) ≡ is_told s
shut_told state.Untold = refl
shut_told state.Wanted = refl
shut_told state.Shut = refl
shut_told state.Refused = refl
shut_told state.Open = refl

closed_if : (b : Bool) (s : ChannelState) → is_told (if b then shut_of s else s) ≡ is_told s
closed_if true s = shut_told s
closed_if false s = refl

-- a state that says as much says no more
told_before : (states : List ChannelState) (d e : ℕ) (s : ChannelState) → d < length states → is_told s ≡ told_at states d → told_at (set states d s) e ≡ true → told_at states e ≡ true
told_before states d e s within as_much h =
    ⊎_elim (λ (was : told_at states e ≡ true). was) (λ (now : (d ≡ e) × (is_told s ≡ true)). ap (told_at states) (sym now.0) ∙ sym as_much ∙ now.1) (told_set states d e s within h)

-- where a connection isn't open any more, no opening more is known to have been told something
pub told_shut : (states : List ChannelState) (d e : ℕ) → d < length states → told_at (set states d (shut_of (state_at states d))) e ≡ true → told_at states e ≡ true
told_shut states d e within h = told_before states d e (shut_of (state_at states d)) within (shut_told (state_at states d)) h

-- nor where a command was told something
pub told_closed : (a : Answer) (states : List ChannelState) (d e : ℕ) → d < length states → told_at (set states d (closed_by a (state_at states d))) e ≡ true → told_at states e ≡ true
told_closed a states d e within h = told_before states d e (closed_by a (state_at states d)) within (closed_if (closes a) (state_at states d)) h

submitted_told : (s : ChannelState) → is_told (submitted_by s) ≡ is_told s
submitted_told state.Untold = refl
submitted_told state.Wanted = refl
submitted_told state.Shut = refl
submitted_told state.Refused = refl
submitted_told state.Open = refl

-- nor where one was submitted
pub told_submitted : (states : List ChannelState) (d e : ℕ) → d < length states → told_at (set states d (submitted_by (state_at states d))) e ≡ true → told_at states e ≡ true
told_submitted states d e within h = told_before states d e (submitted_by (state_at states d)) within (submitted_told (state_at states d)) h
