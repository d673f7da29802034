-- Lines are submitted, told and printed.
use Rattle.std.proofs.Common.{ap, sym, ◌∙◌, subst, arith, append_assoc, append-nil, inl, rules}
use Rattle.std.proofs.lemmas.Bool.{false≢true}
use Rattle.std.proofs.lemmas.List.{length-append}
use Rattle.std.proofs.lemmas.Grind.{common_steps, flat_map-append}
use Rattle.std.specs.declared.vec.Vec.{Vec}
use Rattle.std.specs.declared.alloc.Global.{Global}
use Rattle.std.specs.Prelude.{◌≡◌, ◌≢◌, ℕ, ◌+◌, ◌<◌, ◌==◌, Bool, true, false, List, [], ◌∷◌, ◌++◌, All, Option, None, Some, drop, filter, flat_map, get_or, length, map, set, slice_index_or, take, refl, if◌then◌else◌}
use Rattle.std.proofs.KnownBytes.{Appends-trans}
use Rattle.std.specs.Io.KnownBytes.{Appends}
use Rattle.std.proofs.lemmas.List.{get_or-set_same, get_or-set_other, length-set}
use Rattle.std.proofs.Math.Seq.{map-set_same}
use Rattle.std.proofs.lemmas.List.Elements.{filter-append, All-append, All-cons, All-nil, All-take, All-drop, All-get_or}
use Rattle.at_text.specs.Rules.{Rules}
use Rattle.modem_desk.specs.declared.request.Request.{Request}
use Rattle.modem_desk.specs.declared.request.Outcome.{Outcome}
use Rattle.modem_desk.specs.declared.request.Urc.{Urc}
use Rattle.modem_desk.specs.Ends.{CallerView, ListenerView, Place, subscription_of}
use Rattle.ctl_drive.specs.declared.users.UnderWay.{UnderWay}
use Rattle.ctl_drive.specs.declared.users.Users.{Users}
use Rattle.modem_desk.specs.declared.request.Ask.TheVariants as ask
use Rattle.ctl_drive.specs.Asking.{is_on}
use Rattle.ctl_drive.specs.Channels.{KeepsOrder, closed_by, state_at, submitted_by, told_at}
use Rattle.ctl_drive.specs.declared.channels.ChannelState.{ChannelState}
use Rattle.ctl_drive.specs.declared.users.Asked.{Asked}
use Rattle.ctl_drive.specs.Showing.{Shown, Answered, Announced, AreApart, AreUnderWay, GoOn, HasShown, IsAsked, IsLine, IsRightPiece, KeepPlaces, TellsLine, Unprinted, control_ask, count_asked, count_on, is_busy, lines_at, outcomes_in, shown_text}
use Rattle.ctl_drive.proofs.Aparts.{apart_fewer, apart_more, equal, unequal}
use Rattle.ctl_drive.proofs.Orders.{SubmitsOne, TakesOne, asked_stays, grows_taking, keeps_submitting, keeps_taking, told_closed, told_submitted}

-- a number compares equal to itself
pub same_number : (m : ℕ) → (m == m) ≡ true
same_number m = search rules

-- what holds of one holds of each in the list of that one alone
pub All-one : {X : Type 0} (P : X → Type 0) (x : X) → P x → All P (x ∷ [])
All-one P x h = All-cons P x [] h (All-nil P)

one_fewer : (us : List UnderWay) (at : ℕ) → at < length us → length (take at us ++ drop (at + 1) us) + 1 ≡ length us
one_fewer us at h = grind (arith, common_steps)

-- ## Nothing, and one thing after another

-- nobody did anything, and nothing was printed
pub stays : (out : Option (List ℕ)) (u : Users) → GoOn out out u u
stays out u = record { shows = λ first h. h; orders = λ first h k. k; places = record { caller = refl; listeners = refl; dialect = refl } }

-- what goes on twice goes on by both
pub goes_then : (a b c : Option (List ℕ)) (u v w : Users) → GoOn a b u v → GoOn b c v w → GoOn a c u w
goes_then a b c u v w g h = record {
  shows = λ first k. h.shows first (g.shows first k);
  orders = λ first k o. h.orders first (g.shows first k) (g.orders first k o);
  places = record {
    caller = h.places.caller ∙ g.places.caller;
    listeners = h.places.listeners ∙ g.places.listeners;
    dialect = h.places.dialect ∙ g.places.dialect;
  };
}

-- it was printed by the same dialect
pub printed_by : (first now : Option (List ℕ)) (old new : Rules) (ss : List Shown) → new ≡ old → Appends first now (flat_map (shown_text old) ss) → Appends first now (flat_map (shown_text new) ss)
printed_by first now old new ss same h = subst (λ (r : Rules). Appends first now (flat_map (shown_text r) ss)) (sym same) h

-- ## The lines of an output stay right

line_stays : (first : ℕ) (rs more : List Request) (n d place : ℕ) → IsLine first rs n d place → IsLine first (rs ++ more) n d place
line_stays first rs more n d place h = record {
  before = h.before;
  request = h.request;
  later = h.later ++ more;
  submitted_are = ap (λ (x : List Request). x ++ more) h.submitted_are ∙ append_assoc h.before (h.request ∷ h.later) more;
  number_is = h.number_is;
  on = h.on;
  place_is = h.place_is;
}

-- a piece names its line still when more is submitted
pub piece_stays : (first : ℕ) (rs more : List Request) (s : Shown) → IsRightPiece first rs s → IsRightPiece first (rs ++ more) s
piece_stays first rs more (Answered d i o) h = line_stays first rs more o.number d i h
piece_stays first rs more (Announced i u) h = tt
piece_stays first rs more (Unprinted a o) h = asked_stays first rs more o.number (control_ask a) h

-- so do all pieces
pub pieces_stay : (first : ℕ) (rs more : List Request) (ss : List Shown) → All (IsRightPiece first rs) ss → All (IsRightPiece first (rs ++ more)) ss
pieces_stay first rs more ss h = λ k d l. piece_stays first rs more (slice_index_or ss k d) (h k d l)

-- so do the lines under way
pub under_way_stay : (first : ℕ) (rs more : List Request) (us : List UnderWay) → AreUnderWay first rs us → AreUnderWay first (rs ++ more) us
under_way_stay first rs more us h = λ k d l.
    let u = slice_index_or us k d in
    line_stays first rs more u.number u.dlci.number u.place (h k d l)

-- and what was asked beside them
pub waits_stay : (first : ℕ) (rs more : List Request) (asked : Option Asked) → IsAsked first rs asked → IsAsked first (rs ++ more) asked
waits_stay first rs more None h = tt
waits_stay first rs more (Some a) h = asked_stays first rs more a.number (control_ask a.control) h

-- ## A line is submitted

count_one : (d : ℕ) (rs : List Request) (r : Request) (b : Bool) → is_on d r.ask ≡ b → count_on d (rs ++ r ∷ []) ≡ length (filter (λ (q : Request). is_on d q.ask) rs ++ (if b then r ∷ [] else []))
count_one d rs r b is =
    ap (length {A = Request}) (filter-append (λ (q : Request). is_on d q.ask) rs (r ∷ []))
    ∙ ap (λ (c : Bool). length (filter (λ (q : Request). is_on d q.ask) rs ++ (if c then r ∷ [] else []))) is

count_more : (d : ℕ) (rs : List Request) (r : Request) → is_on d r.ask ≡ true → count_on d (rs ++ r ∷ []) ≡ count_on d rs + 1
count_more d rs r is = count_one d rs r true is ∙ length-append (filter (λ (q : Request). is_on d q.ask) rs) (r ∷ [])

-- what is no command on d doesn't count there
pub count_same : (d : ℕ) (rs : List Request) (r : Request) → is_on d r.ask ≡ false → count_on d (rs ++ r ∷ []) ≡ count_on d rs
count_same d rs r is = count_one d rs r false is ∙ ap (length {A = Request}) (append-nil (filter (λ (q : Request). is_on d q.ask) rs))

-- one line more was submitted, on its connection
pub record Submits (old new : Users) (r : Request) (u : UnderWay) : Type 0 where
  pub one : SubmitsOne old.caller new.caller r
  pub number : u.number ≡ old.caller.place.first + length old.caller.submitted
  pub on : (d : ℕ) → is_on d r.ask ≡ (u.dlci.number == d)
  pub told : told_at old.channels u.dlci.number ≡ true
  pub free : is_busy u.dlci.number old.under_way.items ≡ false
  pub asked : new.asked ≡ old.asked
  pub channels : new.channels ≡ set old.channels u.dlci.number (submitted_by (state_at old.channels u.dlci.number))
  pub listeners : new.listeners ≡ old.listeners
  pub under_way : new.under_way.items ≡ old.under_way.items ++ u ∷ []
  pub counts : new.counts ≡ set old.counts u.dlci.number u.place
  pub counted : u.place ≡ slice_index_or old.counts u.dlci.number 0 + 1
  pub dialect : new.dialect ≡ old.dialect
  pub known : u.dlci.number < 62

counted_here : (old new : Users) (r : Request) (u : UnderWay) → Submits old new r u → length old.counts ≡ 62 → ((d : ℕ) → d < 62 → slice_index_or old.counts d 0 ≡ count_on d old.caller.submitted)
    → (d : ℕ) → d < 62 → (b : Bool) → (u.dlci.number == d) ≡ b → slice_index_or new.counts d 0 ≡ count_on d new.caller.submitted
counted_here old new r u s long h d few true is =
    let same : u.dlci.number ≡ d = equal u.dlci.number d is in
    let fits = s.known in
    subst (λ (e : ℕ). slice_index_or new.counts e 0 ≡ count_on e new.caller.submitted) same
    (ap (λ (xs : List ℕ). slice_index_or xs u.dlci.number 0) s.counts
    ∙ get_or-set_same old.counts u.dlci.number u.place 0 (omega (arith, fits, long)) ∙ s.counted
    ∙ ap (λ (n : ℕ). n + 1) (h u.dlci.number fits)
    ∙ sym (count_more u.dlci.number old.caller.submitted r (s.on u.dlci.number ∙ same_number u.dlci.number))
    ∙ ap (count_on u.dlci.number) (sym s.one.submitted))
counted_here old new r u s long h d few false is =
    ap (λ (xs : List ℕ). slice_index_or xs d 0) s.counts
    ∙ get_or-set_other old.counts u.dlci.number d u.place 0 (unequal u.dlci.number d is)
    ∙ h d few ∙ sym (count_same d old.caller.submitted r (s.on d ∙ is)) ∙ ap (count_on d) (sym s.one.submitted)

no_stop : (r : Request) (d : ℕ) → is_on d r.ask ≡ true → r.ask ≡ ask.Stop → ⊥
no_stop r d on is = false≢true (sym (ap (is_on d) is) ∙ on)

-- a line is submitted, and nothing is printed
pub submits : (out : Option (List ℕ)) (old new : Users) (r : Request) (u : UnderWay) → Submits old new r u → GoOn out out old new
submits out old new r u s =
    let more : List Request = r ∷ [] in
    record {
      shows = λ first h.
          let is_line : IsLine old.caller.place.first (old.caller.submitted ++ more) u.number u.dlci.number u.place = record {
            before = old.caller.submitted;
            request = r;
            later = [];
            submitted_are = refl;
            number_is = s.number;
            on = s.on u.dlci.number ∙ same_number u.dlci.number;
            place_is = s.counted ∙ ap (λ (n : ℕ). n + 1) (h.counted u.dlci.number s.known);
          } in
          let rest = h.rest in
          let submitted : length new.caller.submitted ≡ length old.caller.submitted + 1 = ap (length {A = Request}) s.one.submitted ∙ length-append old.caller.submitted more in
          let asked : count_asked new.asked ≡ count_asked old.asked = ap count_asked s.asked in
          let way : length new.under_way.items ≡ length old.under_way.items + 1 = ap (length {A = UnderWay}) s.under_way ∙ length-append old.under_way.items (u ∷ []) in
          let got : length new.caller.got ≡ length old.caller.got = ap (length {A = Outcome}) s.one.got in
          record {
            shown = h.shown;
            printed = printed_by first out old.dialect new.dialect h.shown s.dialect h.printed;
            outcomes_are = h.outcomes_are ∙ sym s.one.got;
            right =
                subst (λ (x : Place × List Request). All (IsRightPiece x.0.first x.1) h.shown) (λ i. (sym s.one.place i, sym s.one.submitted i))
                (pieces_stay old.caller.place.first old.caller.submitted more h.shown h.right);
            lines_are = subst (λ (v : Vec ListenerView Global). (i : ℕ) (l : ListenerView) → i < length v.items → lines_at i h.shown ≡ (get_or v.items i l).heard) (sym s.listeners) h.lines_are;
            under_way =
                subst (λ (x : Place × List Request × List UnderWay). AreUnderWay x.0.first x.1 x.2) (λ i. (sym s.one.place i, sym s.one.submitted i, sym s.under_way i))
                (All-append (λ (v : UnderWay). IsLine old.caller.place.first (old.caller.submitted ++ more) v.number v.dlci.number v.place) old.under_way.items (u ∷ [])
                (under_way_stay old.caller.place.first old.caller.submitted more old.under_way.items h.under_way) (All-one (λ (v : UnderWay). IsLine old.caller.place.first (old.caller.submitted ++ more) v.number v.dlci.number v.place) u is_line));
            apart = subst AreApart (sym s.under_way) (apart_more old.under_way.items u s.free h.apart);
            asked =
                subst (λ (x : Place × List Request × Option Asked). IsAsked x.0.first x.1 x.2) (λ i. (sym s.one.place i, sym s.one.submitted i, sym s.asked i))
                (waits_stay old.caller.place.first old.caller.submitted more old.asked h.asked);
            rest = omega (arith, rest, submitted, way, got, asked);
            long = ap (length {A = ℕ}) s.counts ∙ length-set old.counts u.dlci.number u.place ∙ h.long;
            counted = λ d few. counted_here old new r u s h.long h.counted d few (u.dlci.number == d) refl;
          };
      orders = λ first h k.
          let within : u.dlci.number < length old.channels = let fits = s.known in let long = k.long in omega arith in
          keeps_submitting old.channels new.channels old.caller new.caller r s.one
          (ap (length {A = ChannelState}) s.channels ∙ length-set old.channels u.dlci.number (submitted_by (state_at old.channels u.dlci.number)) ∙ k.long)
          (λ e is. told_submitted old.channels u.dlci.number e within (ap (λ (states : List ChannelState). told_at states e) (sym s.channels) ∙ is))
          (λ e is. ap (told_at old.channels) (sym (equal u.dlci.number e (sym (s.on e) ∙ is))) ∙ s.told)
          (λ is. absurd (no_stop r u.dlci.number (s.on u.dlci.number ∙ same_number u.dlci.number) is))
          k;
      places = record {
        caller = s.one.place;
        listeners = ap (λ (v : Vec ListenerView Global). map subscription_of v.items) s.listeners;
        dialect = s.dialect;
      };
    }

-- ## A line is told, and an outcome printed

-- the outcomes printed later stand behind those before
pub outcomes_more : (xs ys : List Shown) → outcomes_in (xs ++ ys) ≡ outcomes_in xs ++ outcomes_in ys
outcomes_more [] ys = refl
outcomes_more (Answered d i o ∷ xs) ys = ap (λ (x : List Outcome). o ∷ x) (outcomes_more xs ys)
outcomes_more (Announced i u ∷ xs) ys = outcomes_more xs ys
outcomes_more (Unprinted a o ∷ xs) ys = ap (λ (x : List Outcome). o ∷ x) (outcomes_more xs ys)

by_test : (u : Urc) (all front back : List Urc) → all ≡ front ++ back → (b : Bool) → (if b then u ∷ all else all) ≡ (if b then u ∷ front else front) ++ back
by_test u all front back e true = ap (λ (x : List Urc). u ∷ x) e
by_test u all front back e false = e

-- so do a listener's lines
pub lines_more : (n : ℕ) (xs ys : List Shown) → lines_at n (xs ++ ys) ≡ lines_at n xs ++ lines_at n ys
lines_more n [] ys = refl
lines_more n (Answered d i o ∷ xs) ys = lines_more n xs ys
lines_more n (Announced i u ∷ xs) ys = by_test u (lines_at n (xs ++ ys)) (lines_at n xs) (lines_at n ys) (lines_more n xs ys) (i == n)
lines_more n (Unprinted a o ∷ xs) ys = lines_more n xs ys

-- a piece was printed behind the others
pub printed_more : (rules : Rules) (a b c : Option (List ℕ)) (ss : List Shown) (s : Shown) → Appends a b (flat_map (shown_text rules) ss) → Appends b c (shown_text rules s)
    → Appends a c (flat_map (shown_text rules) (ss ++ s ∷ []))
printed_more rules a b c ss s h k =
    subst (Appends a c) (sym (flat_map-append (shown_text rules) ss (s ∷ []) ∙ ap (λ (x : List ℕ). flat_map (shown_text rules) ss ++ x) (append-nil (shown_text rules s))))
    (Appends-trans a b c (flat_map (shown_text rules) ss) (shown_text rules s) h k)

-- an outcome was taken, and printed as that of its line
pub record Tells (before after : Option (List ℕ)) (old new : Users) (o : Outcome) (line : UnderWay) : Type 0 where
  pub at : ℕ
  pub within : at < length old.under_way.items
  pub line_is : line ≡ get_or old.under_way.items at line
  pub number_is : line.number ≡ o.number
  pub one : TakesOne old.caller new.caller o
  pub asked : new.asked ≡ old.asked
  pub channels : new.channels ≡ set old.channels line.dlci.number (closed_by o.answer (state_at old.channels line.dlci.number))
  pub listeners : new.listeners ≡ old.listeners
  pub under_way : new.under_way.items ≡ take at old.under_way.items ++ drop (at + 1) old.under_way.items
  pub counts : new.counts ≡ old.counts
  pub printed : Appends before after (shown_text old.dialect (Answered line.dlci.number line.place o))
  pub dialect : new.dialect ≡ old.dialect

-- a line's outcome was taken and printed, and it isn't under way any more
pub tells : (before after : Option (List ℕ)) (old new : Users) (o : Outcome) (line : UnderWay) → Tells before after old new o line → GoOn before after old new
tells before after old new o line s =
    let piece : Shown = Answered line.dlci.number line.place o in
    record {
      shows = λ first h.
          let us : List UnderWay = old.under_way.items in
          let IsOne : UnderWay → Type 0 = λ v. IsLine old.caller.place.first old.caller.submitted v.number v.dlci.number v.place in
          let is_line : IsOne line = subst IsOne (sym s.line_is) (All-get_or IsOne us s.at line s.within h.under_way) in
          let is_right : IsRightPiece old.caller.place.first old.caller.submitted piece = subst (λ (n : ℕ). IsLine old.caller.place.first old.caller.submitted n line.dlci.number line.place) s.number_is is_line in
          let rest = h.rest in
          let within = s.within in
          let submitted : length new.caller.submitted ≡ length old.caller.submitted = ap (length {A = Request}) s.one.submitted in
          let got : length new.caller.got ≡ length old.caller.got + 1 = ap (length {A = Outcome}) s.one.got ∙ length-append old.caller.got (o ∷ []) in
          let asked : count_asked new.asked ≡ count_asked old.asked = ap count_asked s.asked in
          let way : length new.under_way.items + 1 ≡ length us = ap (λ (x : List UnderWay). length x + 1) s.under_way ∙ one_fewer us s.at s.within in
          record {
            shown = h.shown ++ piece ∷ [];
            printed =
                printed_by first after old.dialect new.dialect (h.shown ++ piece ∷ []) s.dialect
                (printed_more old.dialect first before after h.shown piece h.printed s.printed);
            outcomes_are = outcomes_more h.shown (piece ∷ []) ∙ ap (λ (x : List Outcome). x ++ o ∷ []) h.outcomes_are ∙ sym s.one.got;
            right =
                subst (λ (x : Place × List Request). All (IsRightPiece x.0.first x.1) (h.shown ++ piece ∷ [])) (λ i. (sym s.one.place i, sym s.one.submitted i))
                (All-append (IsRightPiece old.caller.place.first old.caller.submitted) h.shown (piece ∷ []) h.right (All-one (IsRightPiece old.caller.place.first old.caller.submitted) piece is_right));
            lines_are =
                subst (λ (v : Vec ListenerView Global). (i : ℕ) (l : ListenerView) → i < length v.items → lines_at i (h.shown ++ piece ∷ []) ≡ (get_or v.items i l).heard) (sym s.listeners)
                (λ i l e. lines_more i h.shown (piece ∷ []) ∙ append-nil (lines_at i h.shown) ∙ h.lines_are i l e);
            under_way =
                subst (λ (x : Place × List Request × List UnderWay). AreUnderWay x.0.first x.1 x.2) (λ i. (sym s.one.place i, sym s.one.submitted i, sym s.under_way i))
                (All-append IsOne (take s.at us) (drop (s.at + 1) us) (All-take IsOne s.at us h.under_way) (All-drop IsOne (s.at + 1) us h.under_way));
            apart = subst AreApart (sym s.under_way) (apart_fewer us s.at h.apart);
            asked =
                subst (λ (x : Place × List Request × Option Asked). IsAsked x.0.first x.1 x.2) (λ i. (sym s.one.place i, sym s.one.submitted i, sym s.asked i)) h.asked;
            rest = omega (arith, rest, submitted, got, way, asked);
            long = ap (length {A = ℕ}) s.counts ∙ h.long;
            counted = subst (λ (x : List ℕ × List Request). (d : ℕ) → d < 62 → slice_index_or x.0 d 0 ≡ count_on d x.1) (λ i. (sym s.counts i, sym s.one.submitted i)) h.counted;
          };
      orders = λ first h k.
          let within : line.dlci.number < length old.channels = let fits = line.dlci.in_range in let long = k.long in omega arith in
          keeps_taking old.channels new.channels old.caller new.caller (grows_taking old.caller new.caller o s.one) s.one.submitted s.one.before
          (ap (length {A = ChannelState}) s.channels ∙ length-set old.channels line.dlci.number (closed_by o.answer (state_at old.channels line.dlci.number)) ∙ k.long)
          (λ e is. inl (told_closed o.answer old.channels line.dlci.number e within (ap (λ (states : List ChannelState). told_at states e) (sym s.channels) ∙ is)))
          k;
      places = record {
        caller = s.one.place;
        listeners = ap (λ (v : Vec ListenerView Global). map subscription_of v.items) s.listeners;
        dialect = s.dialect;
      };
    }

-- it was taken by a caller that stands so
pub tells_line : (before after : Option (List ℕ)) (old new : Users) (c : CallerView) (o : Outcome) → TakesOne old.caller c o → TellsLine before after (record old { caller = c }) new o → GoOn before after old new
tells_line before after old new c o one h =
    let t = h.takes in
    let caller : new.caller ≡ c = ap (λ (u : Users). u.caller) h.stays ∙ ap (λ (u : Users). u.caller) t.stays in
    tells before after old new o h.line (record {
      at = t.at;
      within = t.within;
      line_is = t.line_is;
      number_is = t.number_is;
      one = record {
        place = ap (λ (x : CallerView). x.place) caller ∙ one.place;
        submitted = ap (λ (x : CallerView). x.submitted) caller ∙ one.submitted;
        before = ap (λ (x : CallerView). x.got_before) caller ∙ one.before;
        got = ap (λ (x : CallerView). x.got) caller ∙ one.got;
      };
      asked = ap (λ (u : Users). u.asked) h.stays ∙ ap (λ (u : Users). u.asked) t.stays;
      channels =
          ap (λ (u : Users). u.channels) h.stays
          ∙ ap (λ (states : List ChannelState). set states h.line.dlci.number (closed_by o.answer (state_at states h.line.dlci.number))) (ap (λ (u : Users). u.channels) t.stays);
      listeners = ap (λ (u : Users). u.listeners) h.stays ∙ ap (λ (u : Users). u.listeners) t.stays;
      under_way = ap (λ (u : Users). u.under_way.items) h.stays ∙ t.under_way;
      counts = ap (λ (u : Users). u.counts) h.stays ∙ ap (λ (u : Users). u.counts) t.stays;
      printed = h.printed;
      dialect = ap (λ (u : Users). u.dialect) h.stays ∙ ap (λ (u : Users). u.dialect) t.stays;
    })

-- ## A line is heard, and printed

-- of those who use the desk only the listener at this place did anything, and it is the same listener
pub record Listens (old new : Users) (place : ℕ) (was now : ListenerView) : Type 0 where
  pub within : place < length old.listeners.items
  pub was_is : was ≡ get_or old.listeners.items place was
  pub caller : new.caller ≡ old.caller
  pub asked : new.asked ≡ old.asked
  pub channels : new.channels ≡ old.channels
  pub listeners : new.listeners.items ≡ set old.listeners.items place now
  pub subscription : now.subscription ≡ was.subscription
  pub under_way : new.under_way ≡ old.under_way
  pub counts : new.counts ≡ old.counts
  pub dialect : new.dialect ≡ old.dialect

lines_here : (ls : List ListenerView) (was l m : ListenerView) (place i : ℕ) (shown : List Shown) (more : List Urc) → place < length ls → i < length ls → was ≡ get_or ls place was
    → l.heard ≡ was.heard ++ more → ((j : ℕ) (k : ListenerView) → j < length ls → lines_at j shown ≡ (get_or ls j k).heard)
    → (b : Bool) → (place == i) ≡ b → lines_at i shown ++ (if b then more else []) ≡ (get_or (set ls place l) i m).heard
lines_here ls was l m place i shown more within few was_is heard h true is =
    subst (λ (j : ℕ). lines_at j shown ++ more ≡ (get_or (set ls place l) j m).heard) (equal place i is)
    (ap (λ (x : List Urc). x ++ more) (h place was within ∙ ap (λ (k : ListenerView). k.heard) (sym was_is)) ∙ sym heard
    ∙ ap (λ (k : ListenerView). k.heard) (sym (get_or-set_same ls place l m within)))
lines_here ls was l m place i shown more within few was_is heard h false is =
    append-nil (lines_at i shown) ∙ h i m few ∙ ap (λ (k : ListenerView). k.heard) (sym (get_or-set_other ls place i l m (unequal place i is)))

keep_places : (old new : Users) (place : ℕ) (was now : ListenerView) → Listens old new place was now → KeepPlaces old new
keep_places old new place was now s = record {
  caller = ap (λ (c : CallerView). c.place) s.caller;
  listeners =
      ap (map subscription_of) s.listeners
      ∙ map-set_same subscription_of old.listeners.items place now was (s.subscription ∙ ap subscription_of s.was_is);
  dialect = s.dialect;
}

-- it took a line, which was printed, or none
shown_by : (before after : Option (List ℕ)) (old new : Users) (place : ℕ) (was now : ListenerView) (pieces : List Shown) (more : List Urc) → Listens old new place was now
    → now.heard ≡ was.heard ++ more → outcomes_in pieces ≡ [] → All (IsRightPiece old.caller.place.first old.caller.submitted) pieces
    → ((i : ℕ) → lines_at i pieces ≡ (if place == i then more else []))
    → ((first : Option (List ℕ)) (ss : List Shown) → Appends first before (flat_map (shown_text old.dialect) ss) → Appends first after (flat_map (shown_text old.dialect) (ss ++ pieces)))
    → (first : Option (List ℕ)) → HasShown first before old → HasShown first after new
shown_by before after old new place was now pieces more s heard none right lines prints first h =
    let ls : List ListenerView = old.listeners.items in
    let long : length new.listeners.items ≡ length ls = ap (length {A = ListenerView}) s.listeners ∙ length-set ls place now in
    record {
      shown = h.shown ++ pieces;
      printed = printed_by first after old.dialect new.dialect (h.shown ++ pieces) s.dialect (prints first h.shown h.printed);
      outcomes_are =
          outcomes_more h.shown pieces ∙ ap (λ (x : List Outcome). outcomes_in h.shown ++ x) none ∙ append-nil (outcomes_in h.shown) ∙ h.outcomes_are
          ∙ ap (λ (c : CallerView). c.got) (sym s.caller);
      right =
          subst (λ (c : CallerView). All (IsRightPiece c.place.first c.submitted) (h.shown ++ pieces)) (sym s.caller)
          (All-append (IsRightPiece old.caller.place.first old.caller.submitted) h.shown pieces h.right right);
      lines_are = λ i m few.
          lines_more i h.shown pieces ∙ ap (λ (x : List Urc). lines_at i h.shown ++ x) (lines i)
          ∙ lines_here ls was now m place i h.shown more s.within (omega (arith, few, long)) s.was_is heard h.lines_are (place == i) refl
          ∙ ap (λ (x : List ListenerView). (get_or x i m).heard) (sym s.listeners);
      under_way = subst (λ (x : CallerView × Vec UnderWay Global). AreUnderWay x.0.place.first x.0.submitted x.1.items) (λ i. (sym s.caller i, sym s.under_way i)) h.under_way;
      apart = subst (λ (v : Vec UnderWay Global). AreApart v.items) (sym s.under_way) h.apart;
      asked = subst (λ (x : CallerView × Option Asked). IsAsked x.0.place.first x.0.submitted x.1) (λ i. (sym s.caller i, sym s.asked i)) h.asked;
      rest =
          subst (λ (x : CallerView × Vec UnderWay Global × Option Asked). length x.0.submitted ≡ length x.0.got + length x.1.items + count_asked x.2) (λ i. (sym s.caller i, sym s.under_way i, sym s.asked i))
          h.rest;
      long = ap (length {A = ℕ}) s.counts ∙ h.long;
      counted = subst (λ (x : List ℕ × CallerView). (d : ℕ) → d < 62 → slice_index_or x.0 d 0 ≡ count_on d x.1.submitted) (λ i. (sym s.counts i, sym s.caller i)) h.counted;
    }

order_stays : (old new : Users) (place : ℕ) (was now : ListenerView) → Listens old new place was now → KeepsOrder old.channels old.caller → KeepsOrder new.channels new.caller
order_stays old new place was now s k = subst (λ (x : List ChannelState × CallerView). KeepsOrder x.0 x.1) (λ i. (sym s.channels i, sym s.caller i)) k

-- a listener took a line, and it was printed
pub hears : (before after : Option (List ℕ)) (old new : Users) (place : ℕ) (was now : ListenerView) (u : Urc) → Listens old new place was now → now.heard ≡ was.heard ++ u ∷ []
    → Appends before after (shown_text old.dialect (Announced place u)) → GoOn before after old new
hears before after old new place was now u s heard printed =
    let piece : Shown = Announced place u in
    record {
      shows =
          shown_by before after old new place was now (piece ∷ []) (u ∷ []) s heard refl (All-one (IsRightPiece old.caller.place.first old.caller.submitted) piece tt) (λ i. refl)
          (λ first ss k. printed_more old.dialect first before after ss piece k printed);
      orders = λ first h k. order_stays old new place was now s k;
      places = keep_places old new place was now s;
    }

abbrev no_lines : List Urc
no_lines = []

same_branch : (b : Bool) → no_lines ≡ (if b then no_lines else [])
same_branch true = refl
same_branch false = refl

-- a listener looked, and took none
pub hears_none : (out : Option (List ℕ)) (old new : Users) (place : ℕ) (was now : ListenerView) → Listens old new place was now → now.heard ≡ was.heard → GoOn out out old new
hears_none out old new place was now s heard = record {
  shows =
      shown_by out out old new place was now [] [] s (heard ∙ sym (append-nil was.heard)) refl (All-nil (IsRightPiece old.caller.place.first old.caller.submitted)) (λ i. same_branch (place == i))
      (λ first ss k. subst (λ (x : List Shown). Appends first out (flat_map (shown_text old.dialect) x)) (sym (append-nil ss)) k);
  orders = λ first h k. order_stays old new place was now s k;
  places = keep_places old new place was now s;
}
