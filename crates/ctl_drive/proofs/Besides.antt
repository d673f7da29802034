-- What is asked beside the lines, and told.
use Rattle.std.specs.Prelude.{◌≡◌, ◌⊎◌, ℕ, ◌+◌, ◌<◌, true, false, List, [], ◌∷◌, ◌++◌, All, Option, None, Some, get_or, length, map, refl, slice_index_or}
use Rattle.std.proofs.Common.{ap, sym, subst, ◌∙◌, arith, append-nil, inl, inr, ⊎_elim}
use Rattle.std.proofs.lemmas.List.{length-append, length-set}
use Rattle.std.proofs.lemmas.List.Elements.{All-append}
use Rattle.std.proofs.KnownBytes.{Appends-nil}
use Rattle.std.specs.declared.vec.Vec.{Vec}
use Rattle.std.specs.declared.alloc.Global.{Global}
use Rattle.std.proofs.lemmas.Bool.{false≢true}
use lib.ListN.{get_elem?}
use mathlib.Core.Option.{some}
use Rattle.modem_desk.specs.Ends.{CallerView, ListenerView, Place, subscription_of}
use Rattle.modem_desk.specs.declared.request.Answer.{Answer}
use Rattle.modem_desk.specs.declared.request.Ask.TheVariants as ask
use Rattle.modem_desk.specs.declared.request.Outcome.{Outcome}
use Rattle.modem_desk.specs.declared.request.Request.{Request}
use Rattle.ctl_drive.specs.Asking.{IsAskedAs, is_on}
use Rattle.ctl_drive.specs.Channels.{HasToldOpening, opened_by, shut_of, state_at, told_at}
use Rattle.ctl_drive.specs.Showing.{AreApart, GoOn, HasShown, IsAsked, IsLine, IsRightPiece, Shown, Unprinted, after_control, control_ask, count_asked, count_on, lines_at, shut_for}
use Rattle.ctl_drive.specs.declared.channels.ChannelState.{ChannelState}
use Rattle.ctl_drive.specs.declared.users.Asked.{Asked}
use Rattle.ctl_drive.specs.declared.users.Control.{Control}
use Rattle.ctl_drive.specs.declared.users.Control.TheVariants as control
use Rattle.ctl_drive.specs.declared.users.UnderWay.{UnderWay}
use Rattle.ctl_drive.specs.declared.users.Users.{Users}
use Rattle.ctl_drive.proofs.Lines.{All-one, count_same, lines_more, outcomes_more, pieces_stay, printed_by, printed_more, under_way_stay}
use Rattle.ctl_drive.proofs.Orders.{SubmitsOne, TakesOne, asked_grows, at_back, grows_taking, keeps_submitting, keeps_taking, told_set, told_shut}

-- ## Nothing is asked or told

-- the caller looked, and room was made
pub looks : (out : Option (List ℕ)) (old : Users) (c : CallerView) (v : Vec UnderWay Global) → c.place ≡ old.caller.place → c.submitted ≡ old.caller.submitted → c.got_before ≡ old.caller.got_before
    → c.got ≡ old.caller.got → v.items ≡ old.under_way.items → GoOn out out old (record old { caller = c; under_way = v })
looks out old c v place submitted before got way = record {
  shows = λ first h. record {
    shown = h.shown;
    printed = h.printed;
    outcomes_are = h.outcomes_are ∙ sym got;
    right = subst (λ (x : Place × List Request). All (IsRightPiece x.0.first x.1) h.shown) (λ i. (sym place i, sym submitted i)) h.right;
    lines_are = h.lines_are;
    under_way =
        subst (λ (x : Place × List Request × List UnderWay). All (λ (u : UnderWay). IsLine x.0.first x.1 u.number u.dlci.number u.place) x.2) (λ i. (sym place i, sym submitted i, sym way i)) h.under_way;
    apart = subst AreApart (sym way) h.apart;
    asked = subst (λ (x : Place × List Request). IsAsked x.0.first x.1 old.asked) (λ i. (sym place i, sym submitted i)) h.asked;
    rest =
        subst (λ (x : List Request × List Outcome × List UnderWay). length x.0 ≡ length x.1 + length x.2 + count_asked old.asked) (λ i. (sym submitted i, sym got i, sym way i)) h.rest;
    long = h.long;
    counted = subst (λ (rs : List Request). (d : ℕ) → d < 62 → slice_index_or old.counts d 0 ≡ count_on d rs) (sym submitted) h.counted;
  };
  orders = λ first h k.
      keeps_taking old.channels old.channels old.caller c
      (record { place = place; more = []; submitted = submitted ∙ sym (append-nil old.caller.submitted); later = []; got = got ∙ sym (append-nil old.caller.got) })
      submitted before k.long (λ e is. inl is) k;
  places = record { caller = place; listeners = refl; dialect = refl };
}

-- ## Something is asked

no_line : (a : Control) (d : ℕ) → is_on d (control_ask a) ≡ false
no_line (control.Open e) d = refl
no_line (control.Close e) d = refl
no_line control.Stop d = refl

is_stop : (a : Control) → control_ask a ≡ ask.Stop → a ≡ control.Stop
is_stop (control.Open d) e = absurd cc
is_stop (control.Close d) e = absurd cc
is_stop control.Stop e = refl

pub record AsksBeside (old new : Users) (r : Request) (a : Asked) : Type 0 where
  pub one : SubmitsOne old.caller new.caller r
  pub none : old.asked ≡ None
  pub asked : new.asked ≡ Some a
  pub number : a.number ≡ old.caller.place.first + length old.caller.submitted
  pub ask_is : r.ask ≡ control_ask a.control
  pub idle : a.control ≡ control.Stop → old.under_way.items ≡ []
  pub channels : new.channels ≡ shut_for a.control old.channels
  pub listeners : new.listeners ≡ old.listeners
  pub under_way : new.under_way ≡ old.under_way
  pub counts : new.counts ≡ old.counts
  pub dialect : new.dialect ≡ old.dialect

told_for : (a : Control) (states : List ChannelState) (e : ℕ) → length states ≡ 62 → told_at (shut_for a states) e ≡ true → told_at states e ≡ true
told_for (control.Open d) states e long h = h
told_for (control.Close d) states e long h = told_shut states d.number e (let fits = d.in_range in omega arith) h
told_for control.Stop states e long h = h

long_for : (a : Control) (states : List ChannelState) → length (shut_for a states) ≡ length states
long_for (control.Open d) states = refl
long_for (control.Close d) states = length-set states d.number (shut_of (state_at states d.number))
long_for control.Stop states = refl

-- where nothing waits, all outcomes were taken
all_taken : (first out : Option (List ℕ)) (u : Users) → HasShown first out u → u.asked ≡ None → u.under_way.items ≡ [] → length u.caller.got ≡ length u.caller.submitted
all_taken first out u h none idle =
    let rest = h.rest in
    let way : length u.under_way.items ≡ 0 = ap (length {A = UnderWay}) idle in
    let beside : count_asked u.asked ≡ 0 = ap count_asked none in
    omega arith

-- a request beside the lines is submitted, and nothing is printed
pub asks_beside : (out : Option (List ℕ)) (old new : Users) (r : Request) (a : Asked) → AsksBeside old new r a → GoOn out out old new
asks_beside out old new r a s =
    let more : List Request = r ∷ [] in
    record {
      shows = λ first h.
          let rest = h.rest in
          let submitted : length new.caller.submitted ≡ length old.caller.submitted + 1 = ap (length {A = Request}) s.one.submitted ∙ length-append old.caller.submitted more in
          let got : length new.caller.got ≡ length old.caller.got = ap (length {A = Outcome}) s.one.got in
          let way : length new.under_way.items ≡ length old.under_way.items = ap (λ (v : Vec UnderWay Global). length v.items) s.under_way in
          let was : count_asked old.asked ≡ 0 = ap count_asked s.none in
          let now : count_asked new.asked ≡ 1 = ap count_asked s.asked in
          record {
            shown = h.shown;
            printed = printed_by first out old.dialect new.dialect h.shown s.dialect h.printed;
            outcomes_are = h.outcomes_are ∙ sym s.one.got;
            right =
                subst (λ (x : Place × List Request). All (IsRightPiece x.0.first x.1) h.shown) (λ i. (sym s.one.place i, sym s.one.submitted i))
                (pieces_stay old.caller.place.first old.caller.submitted more h.shown h.right);
            lines_are = subst (λ (v : Vec ListenerView Global). (i : ℕ) (l : ListenerView) → i < length v.items → lines_at i h.shown ≡ (get_or v.items i l).heard) (sym s.listeners) h.lines_are;
            under_way =
                subst (λ (x : Place × List Request × Vec UnderWay Global). All (λ (v : UnderWay). IsLine x.0.first x.1 v.number v.dlci.number v.place) x.2.items) (λ i. (sym s.one.place i, sym s.one.submitted i, sym s.under_way i))
                (under_way_stay old.caller.place.first old.caller.submitted more old.under_way.items h.under_way);
            apart = subst (λ (v : Vec UnderWay Global). AreApart v.items) (sym s.under_way) h.apart;
            asked =
                subst (λ (x : Place × List Request × Option Asked). IsAsked x.0.first x.1 x.2) (λ i. (sym s.one.place i, sym s.one.submitted i, sym s.asked i))
                (record { before = old.caller.submitted; request = r; later = []; submitted_are = refl; number_is = s.number; ask_is = s.ask_is });
            rest = omega (arith, rest, submitted, got, way, was, now);
            long = ap (length {A = ℕ}) s.counts ∙ h.long;
            counted = λ d few.
                ap (λ (xs : List ℕ). slice_index_or xs d 0) s.counts ∙ h.counted d few ∙ sym (count_same d old.caller.submitted r (ap (is_on d) s.ask_is ∙ no_line a.control d))
                ∙ ap (count_on d) (sym s.one.submitted);
          };
      orders = λ first h k.
          keeps_submitting old.channels new.channels old.caller new.caller r s.one (ap (length {A = ChannelState}) s.channels ∙ long_for a.control old.channels ∙ k.long)
          (λ e is. told_for a.control old.channels e k.long (ap (λ (states : List ChannelState). told_at states e) (sym s.channels) ∙ is))
          (λ e is. absurd (false≢true (sym (ap (is_on e) s.ask_is ∙ no_line a.control e) ∙ is)))
          (λ is. all_taken first out old h s.none (s.idle (is_stop a.control (sym s.ask_is ∙ is))))
          k;
      places = record {
        caller = s.one.place;
        listeners = ap (λ (v : Vec ListenerView Global). map subscription_of v.items) s.listeners;
        dialect = s.dialect;
      };
    }

-- the same of users who differ in that alone
pub asks_noted : (out : Option (List ℕ)) (old new : Users) (c : CallerView) (r : Request) (a : Asked) → SubmitsOne old.caller c r → old.asked ≡ None → a.number ≡ old.caller.place.first + length old.caller.submitted
    → r.ask ≡ control_ask a.control → (a.control ≡ control.Stop → old.under_way.items ≡ []) → new ≡ record old { caller = c; asked = Some a; channels = shut_for a.control old.channels } → GoOn out out old new
asks_noted out old new c r a one none number ask_is idle same =
    subst (GoOn out out old) (sym same)
    (asks_beside out old (record old { caller = c; asked = Some a; channels = shut_for a.control old.channels }) r a (record {
      one = one;
      none = none;
      asked = refl;
      number = number;
      ask_is = ask_is;
      idle = idle;
      channels = refl;
      listeners = refl;
      under_way = refl;
      counts = refl;
      dialect = refl;
    }))

-- ## It is told

pub record ToldBeside (old new : Users) (o : Outcome) (a : Asked) : Type 0 where
  pub one : TakesOne old.caller new.caller o
  pub was : old.asked ≡ Some a
  pub number : a.number ≡ o.number
  pub asked : new.asked ≡ None
  pub channels : new.channels ≡ after_control a.control o.answer old.channels
  pub listeners : new.listeners ≡ old.listeners
  pub under_way : new.under_way ≡ old.under_way
  pub counts : new.counts ≡ old.counts
  pub dialect : new.dialect ≡ old.dialect

long_after : (a : Control) (answer : Answer) (states : List ChannelState) → length (after_control a answer states) ≡ length states
long_after (control.Open d) answer states = length-set states d.number (opened_by answer)
long_after (control.Close d) answer states = refl
long_after control.Stop answer states = refl

-- what is known to have been told then was before, or is what was told now
told_after : (c d : CallerView) (o : Outcome) (a : Control) (states : List ChannelState) (e : ℕ) → TakesOne c d o → IsAskedAs c.place.first c.submitted o.number (control_ask a)
    → length states ≡ 62 → told_at (after_control a o.answer states) e ≡ true → (told_at states e ≡ true) ⊎ HasToldOpening d (length d.got) e
told_after c d o (control.Open n) states e s asked long is =
    ⊎_elim (λ (was : told_at states e ≡ true). inl was)
    (λ now. inr (record {
      dlci = n;
      dlci_is = now.0;
      outcome = o;
      asked = asked_grows c d o.number (ask.OpenChannel n) (grows_taking c d o s) asked;
      place = length c.got;
      taken = subst (λ (x : List Outcome). get_elem? x (length c.got) ≡ some o) (sym s.got) (at_back c.got o);
      early = let e : length d.got ≡ length c.got + 1 = ap (length {A = Outcome}) s.got ∙ length-append c.got (o ∷ []) in omega arith;
    }))
    (told_set states n.number e (opened_by o.answer) (let fits = n.in_range in omega arith) is)
told_after c d o (control.Close n) states e s asked long is = inl is
told_after c d o control.Stop states e s asked long is = inl is

-- what it was told is taken, and nothing is printed
pub told_beside : (out : Option (List ℕ)) (old new : Users) (o : Outcome) (a : Asked) → ToldBeside old new o a → GoOn out out old new
told_beside out old new o a s =
    let piece : Shown = Unprinted a.control o in
    let asked_of = λ (h : IsAsked old.caller.place.first old.caller.submitted old.asked).
    let waits : IsAskedAs old.caller.place.first old.caller.submitted a.number (control_ask a.control) = subst (IsAsked old.caller.place.first old.caller.submitted) s.was h in
    subst (λ (n : ℕ). IsAskedAs old.caller.place.first old.caller.submitted n (control_ask a.control)) s.number waits in
    record {
      shows = λ first h.
          let rest = h.rest in
          let submitted : length new.caller.submitted ≡ length old.caller.submitted = ap (length {A = Request}) s.one.submitted in
          let got : length new.caller.got ≡ length old.caller.got + 1 = ap (length {A = Outcome}) s.one.got ∙ length-append old.caller.got (o ∷ []) in
          let way : length new.under_way.items ≡ length old.under_way.items = ap (λ (v : Vec UnderWay Global). length v.items) s.under_way in
          let was : count_asked old.asked ≡ 1 = ap count_asked s.was in
          let now : count_asked new.asked ≡ 0 = ap count_asked s.asked in
          record {
            shown = h.shown ++ piece ∷ [];
            printed = printed_by first out old.dialect new.dialect (h.shown ++ piece ∷ []) s.dialect (printed_more old.dialect first out out h.shown piece h.printed (Appends-nil out));
            outcomes_are = outcomes_more h.shown (piece ∷ []) ∙ ap (λ (x : List Outcome). x ++ o ∷ []) h.outcomes_are ∙ sym s.one.got;
            right =
                subst (λ (x : Place × List Request). All (IsRightPiece x.0.first x.1) (h.shown ++ piece ∷ [])) (λ i. (sym s.one.place i, sym s.one.submitted i))
                (All-append (IsRightPiece old.caller.place.first old.caller.submitted) h.shown (piece ∷ []) h.right
                (All-one (IsRightPiece old.caller.place.first old.caller.submitted) piece (asked_of h.asked)));
            lines_are =
                subst (λ (v : Vec ListenerView Global). (i : ℕ) (l : ListenerView) → i < length v.items → lines_at i (h.shown ++ piece ∷ []) ≡ (get_or v.items i l).heard) (sym s.listeners)
                (λ i l e. lines_more i h.shown (piece ∷ []) ∙ append-nil (lines_at i h.shown) ∙ h.lines_are i l e);
            under_way =
                subst (λ (x : Place × List Request × Vec UnderWay Global). All (λ (v : UnderWay). IsLine x.0.first x.1 v.number v.dlci.number v.place) x.2.items) (λ i. (sym s.one.place i, sym s.one.submitted i, sym s.under_way i))
                h.under_way;
            apart = subst (λ (v : Vec UnderWay Global). AreApart v.items) (sym s.under_way) h.apart;
            asked = subst (IsAsked new.caller.place.first new.caller.submitted) (sym s.asked) tt;
            rest = omega (arith, rest, submitted, got, way, was, now);
            long = ap (length {A = ℕ}) s.counts ∙ h.long;
            counted = subst (λ (x : List ℕ × List Request). (d : ℕ) → d < 62 → slice_index_or x.0 d 0 ≡ count_on d x.1) (λ i. (sym s.counts i, sym s.one.submitted i)) h.counted;
          };
      orders = λ first h k.
          keeps_taking old.channels new.channels old.caller new.caller (grows_taking old.caller new.caller o s.one) s.one.submitted s.one.before
          (ap (length {A = ChannelState}) s.channels ∙ long_after a.control o.answer old.channels ∙ k.long)
          (λ e is. told_after old.caller new.caller o a.control old.channels e s.one (asked_of h.asked) k.long (ap (λ (states : List ChannelState). told_at states e) (sym s.channels) ∙ is))
          k;
      places = record {
        caller = s.one.place;
        listeners = ap (λ (v : Vec ListenerView Global). map subscription_of v.items) s.listeners;
        dialect = s.dialect;
      };
    }

-- the same of users who differ in that alone
pub told_noted : (out : Option (List ℕ)) (old new : Users) (c : CallerView) (o : Outcome) (a : Asked) → TakesOne old.caller c o → old.asked ≡ Some a → a.number ≡ o.number
    → new ≡ record old { caller = c; asked = None; channels = after_control a.control o.answer old.channels } → GoOn out out old new
told_noted out old new c o a one was number same =
    subst (GoOn out out old) (sym same)
    (told_beside out old (record old { caller = c; asked = None; channels = after_control a.control o.answer old.channels }) o a (record {
      one = one;
      was = was;
      number = number;
      asked = refl;
      channels = refl;
      listeners = refl;
      under_way = refl;
      counts = refl;
      dialect = refl;
    }))
