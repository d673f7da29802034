-- How a drive begins.
use Rattle.std.specs.Prelude.{◌≡◌, ◌<◌, ℕ, All, Bool, false, zero, suc, List, [], ◌∷◌, Option, None, get_or, length, map, refl, replicate, slice_index_or, Result, Ok, Err, IfOk, OnErr}
use mathlib.Core.Option.{some, some-ne-none}
use Rattle.std.proofs.lemmas.Bool.{false≢true}
use lib.ListN.{get_elem?}
use Rattle.std.proofs.lemmas.List.Elements.{All-nil}
use Rattle.at_text.specs.declared.unsolicited.UrcKind.{UrcKind}
use Rattle.at_text.specs.Rules.{Rules, dialect_of}
use Rattle.std.proofs.Common.{sym, subst, arith, ◌∙◌, ap}
use Rattle.std.proofs.KnownBytes.{Appends-nil}
use Rattle.mux_frame.specs.declared.dlci.Dlci.{Dlci}
use Rattle.modem_desk.specs.Ends.{AreSubscribed, CallerView, DriverView, IsWhole, ListenerView, Opened, place_of, subscription_of}
use Rattle.modem_desk.specs.declared.request.Outcome.{Outcome}
use Rattle.modem_desk.specs.declared.request.Request.{Request}
use Rattle.modem_history.specs.Sessions.{LineView}
use Rattle.modem_driver.specs.SessionStates.{FitsAll, SessionState, beginning_by}
use Rattle.ctl_drive.specs.declared.users.UnderWay.{UnderWay}
use Rattle.ctl_drive.specs.declared.users.Users.{Users}
use Rattle.ctl_drive.specs.Asking.{AsksOn, HasAsked, NamesRead, PlanView, StopsOn, submitted_on}
use Rattle.ctl_drive.specs.Channels.{KeepsOrder, told_at, wanted_states}
use Rattle.ctl_drive.specs.declared.channels.ChannelState.{ChannelState}
use Rattle.ctl_drive.specs.declared.channels.ChannelState.TheVariants as state
use Rattle.ctl_drive.specs.Running.{Begins, DrivesInput, Drove, DroveFrom, HasEntered, IsNewDesk, kinds_by, plan_begun}
use Rattle.ctl_drive.specs.Ending.{HasDriven, HasEndedBy}
use Rattle.ctl_drive.specs.declared.fault.DriveFault.{DriveFault}
use Rattle.ctl_drive.specs.declared.running.Driven.{Driven}
use Rattle.ctl_drive.proofs.Asks.{all_asked, asks_same, asks_then, has_asked, names_read, names_stopped}
use Rattle.modem_desk.specs.declared.settling.Settled.{Settled}
use Rattle.ctl_drive.proofs.Aparts.{apart_none}
use Rattle.ctl_drive.proofs.WantedStates.{long_states, none_told_more}
use Rattle.ctl_drive.specs.Showing.{AreApart, HasShown, IsAsked, IsLine, IsRightPiece, count_asked, count_on}

-- a session over the line, on a new desk whose users have done nothing, begins a drive
pub begins : {X : Type 0} (look : X → LineView) (rules : Rules) (n1 : ℕ) (line : X) (d : DriverView) (s : SessionState X) (users : Users)
    → FitsAll (beginning_by (dialect_of rules) n1 (look line) d) look s [] → (s.line ≡ line) × (s.driver ≡ d) → IsNewDesk rules d → IsWhole d.desk (map place_of (users.caller ∷ []))
    → AreSubscribed d.desk (map subscription_of users.listeners.items) → ((out : Option (List ℕ)) → HasShown out out users) → users.caller.submitted ≡ [] → KeepsOrder users.channels users.caller → users.dialect ≡ rules → Begins look rules n1 line s users
begins look rules n1 line d s users fits same new whole subscribed shown none_asked order dialect = record {
  new = subst (IsNewDesk rules) (sym same.1) new;
  at_line = same.0;
  fits = subst (λ (x : DriverView). FitsAll (beginning_by (dialect_of rules) n1 (look line) x) look s []) (sym same.1) fits;
  whole = subst (λ (x : DriverView). IsWhole x.desk (map place_of (users.caller ∷ []))) (sym same.1) whole;
  subscribed = subst (λ (x : DriverView). AreSubscribed x.desk (map subscription_of users.listeners.items)) (sym same.1) subscribed;
  shown = shown;
  none_asked = none_asked;
  order = order;
  dialect = dialect;
}

-- the same, and it was driven to its end
pub drove_from : {X : Type 0} (look : X → LineView) (rules : Rules) (n1 period : ℕ) (line last : X) (s : SessionState X) (users : Users) (input before after silent said : Option (List ℕ)) (p : PlanView) (end : Option DriveFault) (was_bad : Bool) (left : Settled)
    → Begins look rules n1 line s users → HasDriven look period s users (plan_begun input) p before after silent said end left last → was_bad ≡ p.was_bad
    → DroveFrom look rules n1 period line last input before after silent said end was_bad left
drove_from {X} look rules n1 period line last s users input before after silent said p end was_bad left b driven bad =
    let asks : AsksOn (plan_begun input) p users.caller.submitted driven.ends.ended.caller.submitted silent said =
    asks_then _ p p users.caller.submitted driven.mid.caller.submitted driven.ends.ended.caller.submitted silent said said driven.asks
    (asks_same p p driven.mid.caller.submitted driven.ends.ended.caller.submitted said refl (λ d. ap (submitted_on d) driven.ends.submits_none)) in
    let asked : HasAsked input p driven.ends.ended.caller.submitted silent said = has_asked input p users.caller.submitted driven.ends.ended.caller.submitted silent said b.none_asked asks in
    let shown : HasShown before driven.between driven.mid = driven.goes.shows before (b.shown before) in
    let order : KeepsOrder driven.ends.ended.channels driven.ends.ended.caller = driven.ends.goes.orders before shown (driven.goes.orders before (b.shown before) b.order) in
    record {
      session = s;
      users = users;
      begins = b;
      through = p;
      driven = driven;
      read = asked;
      opens_first = order.opens_first;
      stops_last = order.stops_last;
      bad_is = bad;
      asked = λ e.
          let by : HasEndedBy driven.stopped.machine.course p None = subst (HasEndedBy driven.stopped.machine.course p) e driven.by in
          all_asked input p driven.ends.ended.caller.submitted silent said was_bad asked bad by.1 by.2;
    }

-- what it named
named_by : {X : Type 0} (look : X → LineView) (rules : Rules) (n1 period : ℕ) (first last : X) (input before after silent said : Option (List ℕ)) (end : Option DriveFault) (was_bad : Bool) (left : Settled)
    → DroveFrom look rules n1 period first last input before after silent said end was_bad left → NamesRead input silent said
named_by look rules n1 period first last input before after silent said end was_bad left h =
    names_read input h.through h.driven.ends.ended.caller.submitted silent said h.read

-- the same of what a drive that has begun came to
pub from_if : {X : Type 0} (look : X → LineView) (rules : Rules) (n1 period : ℕ) (line : X) (s : SessionState X) (users : Users) (input before after silent said : Option (List ℕ)) (r : Result (X × Driven) DriveFault)
    → Begins look rules n1 line s users → IfOk r (λ r. DrivesInput look period s users input before after silent said r.1.fault r.1.was_bad r.1.left r.0)
    → IfOk r (λ r. DroveFrom look rules n1 period line r.0 input before after silent said r.1.fault r.1.was_bad r.1.left)
from_if look rules n1 period line s users input before after silent said (Ok x) b h =
    drove_from look rules n1 period line x.0 s users input before after silent said h.through x.1.fault x.1.was_bad x.1.left b h.driven h.bad_is
from_if look rules n1 period line s users input before after silent said (Err why) b h = tt

-- where the multiplexer was entered before, the line was driven so
pub drove_if : {X : Type 0} (look : X → LineView) (rules : Rules) (text : List ℕ) (n1 period : ℕ) (first line : X) (input before after silent said : Option (List ℕ)) (r : Result (X × Driven) DriveFault)
    → HasEntered n1 text (look first) (look line) → IfOk r (λ r. DroveFrom look rules n1 period line r.0 input before after silent said r.1.fault r.1.was_bad r.1.left)
    → IfOk r (λ r. Drove look rules text n1 period first r.0 input before after silent said r.1.fault r.1.was_bad r.1.left)
drove_if look rules text n1 period first line input before after silent said (Ok x) entered h = record { first = line; entered = entered; from = h }
drove_if look rules text n1 period first line input before after silent said (Err why) entered h = tt

-- however it ended, the bad ones of the lines that were read were named
pub named_if : {X : Type 0} (look : X → LineView) (rules : Rules) (n1 period : ℕ) (first : X) (users : Users) (input before after silent said : Option (List ℕ)) (r : Result (X × Driven) DriveFault)
    → IfOk r (λ r. DroveFrom look rules n1 period first r.0 input before after silent said r.1.fault r.1.was_bad r.1.left) → users.caller.submitted ≡ [] → OnErr r (StopsOn (plan_begun input) users.caller.submitted silent said)
    → NamesRead input silent said
named_if look rules n1 period first users input before after silent said (Ok x) h none stops =
    named_by look rules n1 period first x.0 input before after silent said x.1.fault x.1.was_bad x.1.left h
named_if look rules n1 period first users input before after silent said (Err why) h none stops =
    names_stopped input (plan_begun input) users.caller.submitted silent said refl none stops

-- ## The desk that is opened

at_place : {A : Type 0} (xs : List A) (i : ℕ) (x : A) → i < length xs → get_elem? xs i ≡ some (get_or xs i x)
at_place [] i x h = absurd (omega (arith, h))
at_place (y ∷ xs) zero x h = refl
at_place (y ∷ xs) (suc i) x h = at_place xs i x (omega (arith, h))

abbrev zeros : ℕ → List ℕ
zeros n = replicate n 0

none_counted : (n d : ℕ) → slice_index_or (zeros n) d 0 ≡ 0
none_counted zero zero = refl
none_counted zero (suc d) = refl
none_counted (suc n) zero = refl
none_counted (suc n) (suc d) = none_counted n d

-- the only caller
pub one_is : (cs : List CallerView) (c : CallerView) → length cs ≡ 1 → c ≡ slice_index_or cs 0 c → cs ≡ c ∷ []
one_is [] c one is = absurd (omega (arith, one))
one_is (a ∷ []) c one is = ap (λ (x : CallerView). x ∷ []) (sym is)
one_is (a ∷ b ∷ cs) c one is = absurd (omega (arith, one))

-- those who use the desk as it was opened
pub record AreUsers (kinds : List UrcKind) (d : DriverView) (cs : List CallerView) (ls : List ListenerView) (u : Users) : Type 0 where
  pub opened : Opened 1 kinds 1 d cs ls
  pub callers : cs ≡ u.caller ∷ []
  pub listeners : u.listeners.items ≡ ls
  pub none : u.under_way.items ≡ []
  pub asked : u.asked ≡ None
  pub wanted : List Dlci
  pub channels : u.channels ≡ wanted_states wanted (replicate 62 state.Untold)
  pub counts : u.counts ≡ replicate 62 0

-- their caller is the only one of the desk
pub whole_users : (kinds : List UrcKind) (d : DriverView) (cs : List CallerView) (ls : List ListenerView) (u : Users) → AreUsers kinds d cs ls u → IsWhole d.desk (map place_of (u.caller ∷ []))
whole_users kinds d cs ls u h = subst (λ (x : List CallerView). IsWhole d.desk (map place_of x)) h.callers h.opened.whole

-- their listeners are subscribed there
pub subscribed_users : (kinds : List UrcKind) (d : DriverView) (cs : List CallerView) (ls : List ListenerView) (u : Users) → AreUsers kinds d cs ls u → AreSubscribed d.desk (map subscription_of u.listeners.items)
subscribed_users kinds d cs ls u h = subst (λ (x : List ListenerView). AreSubscribed d.desk (map subscription_of x)) (sym h.listeners) h.opened.subscribed

-- the caller has submitted nothing
pub none_submitted : (kinds : List UrcKind) (d : DriverView) (cs : List CallerView) (ls : List ListenerView) (u : Users) → AreUsers kinds d cs ls u → u.caller.submitted ≡ []
none_submitted kinds d cs ls u h = (h.opened.callers.1 0 u.caller (ap (λ (x : List CallerView). get_elem? x 0) h.callers)).3.0

-- nothing is printed of them yet
pub new_users : (kinds : List UrcKind) (d : DriverView) (cs : List CallerView) (ls : List ListenerView) (u : Users) → AreUsers kinds d cs ls u → (out : Option (List ℕ)) → HasShown out out u
new_users kinds d cs ls u h out =
    let fresh = h.opened.callers.1 0 u.caller (ap (λ (x : List CallerView). get_elem? x 0) h.callers) in
    let submitted : u.caller.submitted ≡ [] = fresh.3.0 in
    let got : u.caller.got ≡ [] = fresh.3.1 in
    record {
      shown = [];
      printed = Appends-nil out;
      outcomes_are = sym got;
      right = All-nil (IsRightPiece u.caller.place.first u.caller.submitted);
      lines_are = λ i l few.
          let within : i < length ls = subst (λ (x : List ListenerView). i < length x) h.listeners few in
          let heard = h.opened.listeners.1 i (get_or ls i l) (at_place ls i l within) in
          sym (ap (λ (x : List ListenerView). (get_or x i l).heard) h.listeners ∙ heard.2);
      under_way = subst (λ (x : List UnderWay). All (λ (v : UnderWay). IsLine u.caller.place.first u.caller.submitted v.number v.dlci.number v.place) x) (sym h.none) (All-nil (λ (v : UnderWay). IsLine u.caller.place.first u.caller.submitted v.number v.dlci.number v.place));
      apart = subst AreApart (sym h.none) apart_none;
      asked = subst (IsAsked u.caller.place.first u.caller.submitted) (sym h.asked) tt;
      rest =
          let none : length u.caller.submitted ≡ 0 = ap (length {A = Request}) submitted in
          let taken : length u.caller.got ≡ 0 = ap (length {A = Outcome}) got in
          let way : length u.under_way.items ≡ 0 = ap (length {A = UnderWay}) h.none in
          let beside : count_asked u.asked ≡ 0 = ap count_asked h.asked in
          omega arith;
      long = ap (length {A = ℕ}) h.counts;
      counted = λ e few. ap (λ (x : List ℕ). slice_index_or x e 0) h.counts ∙ none_counted 62 e ∙ ap (count_on e) (sym submitted);
    }

none_told : (n e : ℕ) → told_at (replicate n state.Untold) e ≡ false
none_told zero zero = refl
none_told zero (suc e) = refl
none_told (suc n) zero = refl
none_told (suc n) (suc e) = none_told n e

-- and the caller keeps its order: no opening is known to have been told anything
pub new_order : (kinds : List UrcKind) (d : DriverView) (cs : List CallerView) (ls : List ListenerView) (u : Users) → AreUsers kinds d cs ls u → KeepsOrder u.channels u.caller
new_order kinds d cs ls u h =
    let fresh = h.opened.callers.1 0 u.caller (ap (λ (x : List CallerView). get_elem? x 0) h.callers) in
    let submitted : u.caller.submitted ≡ [] = fresh.3.0 in
    let none = λ (i : ℕ) (r : Request) (at : get_elem? u.caller.submitted i ≡ some r). some-ne-none r (sym (ap (λ (x : List Request). get_elem? x i) (sym submitted) ∙ at)) in
    record {
      one_each = ap (length {A = ℕ}) fresh.3.4 ∙ sym (ap (length {A = Request}) submitted);
      long = ap (length {A = ChannelState}) h.channels ∙ long_states h.wanted (replicate 62 state.Untold);
      told = λ e is. absurd (false≢true (sym (none_told_more h.wanted (replicate 62 state.Untold) refl (none_told 62) e) ∙ ap (λ (states : List ChannelState). told_at states e) (sym h.channels) ∙ is));
      opens_first = λ i r at. absurd (none i r at);
      stops_last = λ i r at. absurd (none i r at);
    }

-- a desk opened with the kinds of these rules has done nothing yet
pub new_desk : (rules : Rules) (kinds : List UrcKind) (d : DriverView) (cs : List CallerView) (ls : List ListenerView) → kinds ≡ kinds_by rules → Opened 1 kinds 1 d cs ls → IsNewDesk rules d
new_desk rules kinds d cs ls are h = record {
  kinds_are = h.kinds ∙ are;
  none_taken = h.taken;
  none_told = h.told;
  none_announced = h.announced ∙ ap (λ (ks : List UrcKind). replicate (length ks) []) are;
}
