-- How a drive ends.
use Rattle.std.specs.Prelude.{◌≡◌, ℕ, List, [], ◌∷◌, ◌++◌, map, refl, slice_index_or, vec_items, Option, None, Result, Ok, Err, IfOk, IsOk, OnErr, OnOk}
use Rattle.std.proofs.Common.{ap, sym, subst, ◌∙◌, append-nil, true≢false}
use Rattle.std.specs.declared.time.Instant.{Instant}
use Rattle.modem_desk.specs.declared.request.Outcome.{Outcome}
use Rattle.modem_desk.specs.Ends.{AreSubscribed, DeskId, DriverView, IsWhole, Place, Subscription, place_of, subscription_of}
use Rattle.modem_history.specs.EveryTurn.{GivesSome}
use Rattle.modem_history.specs.Kinds.{of_kind}
use Rattle.modem_history.specs.Sessions.{Leftovers, LineView, caller_outcomes}
use Rattle.modem_desk.specs.Books.{DeskBooks}
use Rattle.modem_desk.specs.declared.settling.Settled.{Settled}
use Rattle.modem_driver.specs.SessionStates.{SessionEnds, SessionState, end_of}
use Rattle.ctl_drive.specs.Driving.{DrivesOn}
use Rattle.ctl_drive.specs.declared.fault.DriveFault.{DriveFault}
use Rattle.modem_driver.specs.declared.session.turn.Turn.{Turn}
use Rattle.modem_driver.specs.TurningAway.{Offline, PassSays, PassesAway, TurnsOn, moves, offline_from}
use Rattle.modem_driver.proofs.sessions.polls.OfflinePasses.{turns_on}
use Rattle.ctl_drive.specs.declared.users.Users.{Users}
use Rattle.ctl_drive.specs.Showing.{GoOn, KeepPlaces}
use Rattle.ctl_drive.specs.Asking.{AsksOn, PlanView}
use Rattle.ctl_drive.specs.Ending.{AllHeard, EndsDrive, HasDriven, HasEndedBy, NoneWaits, TurnsLeft, TurnsSome}

gives_none : {A : Type 0} (before waited : List A) → GivesSome before before waited waited
gives_none before waited = record { given = []; given_are = sym (append-nil before); rest_are = refl }

-- nothing was turned away yet
pub turns_none : (o : Offline) (d : DriverView) → TurnsSome o o d d
turns_none o d = record {
  taken = [];
  turns = record {
    taken_are = sym (append-nil d.taken);
    callers = refl;
    outcomes = λ c.
        subst (λ (x : List Outcome). GivesSome (slice_index_or d.told c []) (slice_index_or d.told c []) (caller_outcomes c x) (caller_outcomes c o.unplaced)) (sym (append-nil o.unplaced))
        (gives_none (slice_index_or d.told c []) (caller_outcomes c o.unplaced));
    lines = λ i k at. gives_none (slice_index_or d.announced i []) (of_kind k o.unannounced);
    elsewhere = λ i none. refl;
    desk = refl;
  };
}

-- one more pass turns some away
pub turns_more : (o p q : Offline) (d e f : DriverView) (says : Turn) → TurnsSome o p d e → PassesAway p q e f says → TurnsSome o q d f
unfolding TurnsOn
turns_more o p q d e f says h pass = record { taken = h.taken ++ pass.taken; turns = turns_on o p q d e f h.taken pass.taken h.turns pass.turns }

-- a pass that finds nothing leaves nothing that waits
pub rests_idle : (o p : Offline) (d e : DriverView) (says : Turn) → PassesAway o p d e says → says ≡ Turn.Idle → NoneWaits p
rests_idle o p d e says pass idle =
    let said = subst (λ (t : Turn). PassSays p (moves d e pass.taken) t) idle pass.answers in
    record { outcomes = said.1.0; lines = said.1.1 }

-- ## The same desk

-- users who keep their places are still all of the same desk
pub still_whole : (d e : DeskId) (old new : Users) → e ≡ d → KeepPlaces old new → IsWhole d (map place_of (old.caller ∷ [])) → IsWhole e (map place_of (new.caller ∷ []))
still_whole d e old new desk keep h =
    subst (λ (x : DeskId × Place). IsWhole x.0 (x.1 ∷ [])) (λ i. (sym desk i, sym keep.caller i)) h

-- and still subscribed there
pub still_subscribed : (d e : DeskId) (old new : Users) → e ≡ d → KeepPlaces old new → AreSubscribed d (map subscription_of old.listeners.items) → AreSubscribed e (map subscription_of new.listeners.items)
still_subscribed d e old new desk keep h =
    subst (λ (x : DeskId × List Subscription). AreSubscribed x.0 x.1) (λ i. (sym desk i, sym keep.listeners i)) h

-- what is told of an Ok holds, where it is one
pub known_done : {A E : Type 0} (P : Type 0) (r : Result A E) (x : A) → r ≡ Ok x → OnOk r P → P
known_done {A} {E} P r x is h = subst (λ (s : Result A E). OnOk s P) is h

-- what is told of an error holds, where it is one
pub known_err : {A E : Type 0} (P : Type 0) (r : Result A E) (e : E) → r ≡ Err e → OnErr r P → P
known_err {A} {E} P r e is h = subst (λ (s : Result A E). OnErr s P) is h

-- of what is done
pub done_ok : {A E : Type 0} (P : Type 0) (r : Result A E) → IsOk r → OnOk r P → P
done_ok P (Ok x) is h = h
done_ok P (Err e) is h = absurd (true≢false (sym is))

-- what follows from two things that are told of an Ok is told of it too
pub on_both : {A E : Type 0} (P Q S : Type 0) (r : Result A E) → OnOk r P → OnOk r Q → (P → Q → S) → OnOk r S
on_both P Q S (Ok x) p q f = f p q
on_both P Q S (Err e) p q f = tt

-- where the call is Ok, it turned away until nothing waits
pub turns_left : {A E : Type 0} (r : Result A E) (first o p : Offline) (d e : DriverView) → o ≡ first → OnOk r (TurnsSome o p d e) → OnOk r (NoneWaits p) → OnOk r (TurnsLeft first d e)
turns_left r first o p d e made h k =
    on_both (TurnsSome o p d e) (NoneWaits p) (TurnsLeft first d e) r h k (λ t n. record { last = p; turned = subst (λ (x : Offline). TurnsSome x p d e) made t; placed = n })

-- what holds is told of an Ok
pub on_ok : {A E : Type 0} (P : Type 0) (r : Result A E) → P → OnOk r P
on_ok P (Ok x) p = p
on_ok P (Err e) p = tt

-- what is known of what a desk held, where it is passed on
pub same_settled : (P : Settled → Type 0) (t : Settled) (r : Result Settled DriveFault) → P t → IfOk r (λ s. (s ≡ t) × AllHeard s) → IfOk r P
same_settled P t (Ok s) h k = subst P (sym k.0) h
same_settled P t (Err why) h k = tt

-- and that its listeners took all their lines
pub heard_then : (t : Settled) (r : Result Settled DriveFault) → IfOk r (λ s. (s ≡ t) × AllHeard s) → IfOk r AllHeard
heard_then t (Ok s) k = k.1
heard_then t (Err why) k = tt

-- the session left what its histories say, all was turned away and printed, the desk was settled: so the drive ended
pub ends_drive : {X : Type 0} (look : X → LineView) (s : SessionState X) (users ended : Users) (given away : DriverView) (f : Leftovers) (before after : Option (List ℕ)) (t : Settled)
    → given ≡ s.driver → SessionEnds look s f → f.desk ≡ end_of given → TurnsLeft (offline_from f.in_hand f.unplaced f.unannounced) given away → GoOn before after users ended
    → ended.under_way.items ≡ []
    → ended.caller.submitted ≡ users.caller.submitted → AllHeard t
    → DeskBooks away (ended.caller ∷ []) ended.listeners.items t.left.items (map vec_items t.untaken.items) (map vec_items t.unheard.items)
    → EndsDrive look s users before after t
ends_drive look s users ended given away f before after t same left desk turns goes none asked heard books = record {
  leftovers = f;
  ends = left;
  desk = desk ∙ ap end_of same;
  offline = turns.last;
  driver = away;
  turned = subst (λ (d : DriverView). TurnsSome (offline_from f.in_hand f.unplaced f.unannounced) turns.last d away) same turns.turned;
  ended = ended;
  goes = goes;
  submits_none = asked;
  none = none;
  placed = turns.placed;
  none_unheard = heard;
  books = books;
}

-- the session went on, ended so, and then the drive did
pub has_driven : {X : Type 0} (look : X → LineView) (period : ℕ) (last_tick : Option Instant) (s t u : SessionState X) (users mid kept : Users) (p q : PlanView) (before between after said more : Option (List ℕ)) (end : Option DriveFault) (left : Settled) (last : X)
    → DrivesOn look period s None t last_tick → GoOn before between users mid → AsksOn p q users.caller.submitted mid.caller.submitted said more → HasEndedBy t.machine.course q end
    → u ≡ t → kept ≡ mid → EndsDrive look u kept between after left → last ≡ u.line → HasDriven look period s users p q before after said more end left last
has_driven {X} look period last_tick s t u users mid kept p q before between after said more end left last drives goes asks by same stays ends line = record {
  stopped = t;
  last_tick = last_tick;
  drives = drives;
  line_is = sym (line ∙ ap (λ (x : SessionState X). x.line) same);
  mid = mid;
  between = between;
  goes = goes;
  asks = asks;
  by = by;
  ends = subst (λ (x : SessionState X × Users). EndsDrive look x.0 x.1 between after left) (λ i. (same i, stays i)) ends;
}
