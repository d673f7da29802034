-- A drive is a settled run of its desk.
use Rattle.std.proofs.Common.{ap, sym, subst, ◌∙◌, append-nil, eqb-true}
use Rattle.std.proofs.lemmas.Bool.{and_parts}
use Rattle.std.proofs.lemmas.List.{nil_from_length}
use Rattle.std.specs.declared.alloc.Global.{Global}
use Rattle.std.specs.declared.vec.Vec.{Vec}
use Rattle.modem_desk.specs.declared.request.Urc.{Urc}
use Rattle.modem_history.specs.Kinds.{of_kind}
use Rattle.std.specs.Prelude.{◌≡◌, ℕ, zero, suc, Bool, true, List, [], ◌∷◌, ◌++◌, Option, length, map, nat_lt, refl, replicate, slice_index_or, vec_items}
use Rattle.std.specs.List.{list_all}
use Rattle.at_text.specs.Rules.{Rules, dialect_of}
use Rattle.at_text.specs.declared.unsolicited.UrcKind.{UrcKind}
use Rattle.modem_desk.specs.declared.request.Request.{Request}
use Rattle.modem_desk.specs.declared.settling.Settled.{Settled}
use Rattle.modem_desk.specs.Ends.{DeskId}
use Rattle.modem_history.specs.Sessions.{LineView, SessionView, heard_as, heards, taken_since}
use Rattle.modem_driver.specs.DeskHeadline.{AnnouncedOver, DeskRun, IsDeskHeadline, IsDeskSettled, RestsOf, Spell, over_none, over_one}
use Rattle.modem_driver.specs.Grown.{HasGrown}
use Rattle.modem_driver.specs.OneSession.{HasOne, LivedGrows, OneSession, SessionCall, seen_after, seen_by_calls}
use Rattle.modem_driver.specs.SessionStates.{beginning_by, end_of, session_view}
use Rattle.modem_driver.proofs.law_proofs.DeskHeadlines.{desk_headline}
use Rattle.modem_driver.proofs.law_proofs.GrownHistories.{fits_in, lived_grows}
use Rattle.modem_driver.proofs.law_proofs.OneSessions.{one_session}
use Rattle.ctl_drive.specs.DeskRun.{DrivesSettle, HeardAll, RunsDesk}
use Rattle.ctl_drive.specs.Ending.{is_empty_list}
use Rattle.ctl_drive.specs.Running.{DroveFrom, kinds_by}
use Rattle.ctl_drive.specs.Showing.{KeepPlaces}
use Rattle.ctl_drive.specs.declared.fault.DriveFault.{DriveFault}
use Rattle.ctl_drive.proofs.Ends.{still_subscribed, still_whole}

none_at : {A : Type 0} (n i : ℕ) → slice_index_or {A = List A} (replicate n []) i [] ≡ []
none_at zero i = refl
none_at (suc n) zero = refl
none_at (suc n) (suc i) = none_at n i

-- the lines of the only session
none_over : (k : UrcKind) (xs : List Urc) → AnnouncedOver k [] xs → xs ≡ []
none_over k _ over_none = refl

one_over : (k : UrcKind) (s : Spell) (xs : List Urc) → AnnouncedOver k (s ∷ []) xs → map heard_as (xs ++ of_kind k s.rest.unannounced) ≡ heards k s.past
one_over k s _ (over_one _ _ here later e rest) = ap (λ (ys : List Urc). map heard_as (ys ++ of_kind k s.rest.unannounced)) (ap (λ (ys : List Urc). here ++ ys) (none_over k later rest) ∙ append-nil here) ∙ e

-- where each list is empty, so is that at a place
none_in : (xss : List (Vec Urc Global)) (i : ℕ) → list_all is_empty_list xss ≡ true → slice_index_or (map vec_items xss) i [] ≡ []
none_in [] i h = refl
none_in (xs ∷ xss) zero h = nil_from_length xs.items (eqb-true (length xs.items) 0 (and_parts (is_empty_list xs) (list_all is_empty_list xss) h).0)
none_in (xs ∷ xss) (suc i) h = none_in xss i (and_parts (is_empty_list xs) (list_all is_empty_list xss) h).1

-- the sights but the last
abbrev earlier_of : SessionView → List SessionCall → List SessionView
earlier_of first [] = []
earlier_of first (c ∷ calls) = seen_by_calls first calls

parted : (first : SessionView) (calls : List SessionCall) → seen_by_calls first calls ≡ seen_after first calls ∷ earlier_of first calls
parted first [] = refl
parted first (c ∷ calls) = refl

module _ {X : Type 0} (look : X → LineView) (rules : Rules) (n1 period : ℕ) (first last : X) (input before after silent said : Option (List ℕ)) (end : Option DriveFault) (was_bad : Bool) (left : Settled)
    (d : DroveFrom look rules n1 period first last input before after silent said end was_bad left) where
  one_of : HasOne look (beginning_by (dialect_of rules) n1 (look first) d.session.driver) d.session d.driven.stopped d.driven.drives.calls.calls
  unfolding OneSession
  one_of = one_session look (beginning_by (dialect_of rules) n1 (look first) d.session.driver) d.session d.driven.stopped d.driven.drives.calls.calls d.begins.fits d.driven.drives.calls.called

  abbrev spell_of : Spell
  spell_of = record {
    start = beginning_by (dialect_of rules) n1 (look first) d.session.driver;
    session = session_view look d.driven.stopped;
    earlier = earlier_of (session_view look d.session) d.driven.drives.calls.calls;
    past = one_of.past;
    leftovers = d.driven.ends.leftovers;
    rest = record {
      desk = end_of d.driven.ends.driver;
      in_hand = [];
      unplaced = d.driven.ends.offline.unplaced;
      unannounced = d.driven.ends.offline.unannounced;
    };
  }

  abbrev run_of : DeskRun
  run_of = record {
    first = end_of d.session.driver;
    spells = spell_of ∷ [];
    last = end_of d.driven.ends.driver;
    driver = d.driven.ends.driver;
    callers = d.driven.ends.ended.caller ∷ [];
    listeners = d.driven.ends.ended.listeners.items;
    settlement = record { left = left.left.items; untaken = map vec_items left.untaken.items; unheard = map vec_items left.unheard.items };
  }

  sights : seen_by_calls (session_view look d.session) d.driven.drives.calls.calls ≡ spell_of.session ∷ spell_of.earlier
  sights = parted (session_view look d.session) d.driven.drives.calls.calls ∙ ap (λ (v : SessionView). v ∷ spell_of.earlier) one_of.seen

  desk_on : d.driven.ends.driver.desk ≡ d.session.driver.desk
  desk_on = d.driven.ends.turned.turns.desk ∙ d.driven.drives.takes.desk

  keep_then : KeepPlaces d.users d.driven.ends.ended
  keep_then =
      let g = d.driven.goes.places in
      let h = d.driven.ends.goes.places in
      record { caller = h.caller ∙ g.caller; listeners = h.listeners ∙ g.listeners; dialect = h.dialect ∙ g.dialect }

  settled_by : IsDeskSettled run_of
  unfolding LivedGrows
  settled_by =
      let one = one_of in
      let grown = subst (λ (seen : List SessionView). HasGrown spell_of.start seen one.past) sights (lived_grows spell_of.start (session_view look d.session) d.driven.drives.calls.calls one.past one.lived) in
      record {
        none_taken = d.begins.new.none_taken;
        none_told = λ c. ap (λ xss. slice_index_or xss c []) d.begins.new.none_told ∙ none_at 1 c;
        none_announced = λ i. ap (λ xss. slice_index_or xss i []) d.begins.new.none_announced ∙ none_at (length (kinds_by rules)) i;
        follow = (
          record {
            begins = refl;
            kinds_are = ap (λ (k : DeskId). k.kinds) (sym desk_on);
            callers_are = subst (λ (k : DeskId). list_all (λ (q : Request). nat_lt q.caller (length k.rings)) (taken_since spell_of.start spell_of.session) ≡ true) (sym desk_on) (fits_in grown).requests.callers;
            grown = grown;
            finishes = d.driven.ends.ends spell_of.start one.past one.fits;
            rests = RestsOf.turned_away d.driven.ends.leftovers d.driven.ends.offline d.driven.stopped.driver d.driven.ends.driver d.driven.ends.turned.taken (sym d.driven.ends.desk)
                (ap (λ (k : DeskId). k.kinds) (sym d.driven.ends.turned.turns.desk)) (ap (λ (k : DeskId). length k.rings) (sym d.driven.ends.turned.turns.desk)) d.driven.ends.turned.turns;
          },
          refl,
        );
        taken = refl;
        told = refl;
        announced = refl;
        whole = still_whole d.session.driver.desk d.driven.ends.driver.desk d.users d.driven.ends.ended desk_on keep_then d.begins.whole;
        subscribed = still_subscribed d.session.driver.desk d.driven.ends.driver.desk d.users d.driven.ends.ended desk_on keep_then d.begins.subscribed;
        books = d.driven.ends.books;
      }

  heard_all : HeardAll d.driven.ends.ended.listeners.items spell_of.past
  unfolding IsDeskHeadline
  heard_all i l at =
      let k = l.subscription.kind in
      let e = one_over k spell_of (l.heard ++ slice_index_or run_of.settlement.unheard i []) ((desk_headline run_of settled_by).announces i l at) in
      let took : l.heard ++ slice_index_or run_of.settlement.unheard i [] ≡ l.heard = ap (λ (ys : List Urc). l.heard ++ ys) (none_in left.unheard.items i d.driven.ends.none_unheard) ∙ append-nil l.heard in
      let whole : (l.heard ++ slice_index_or run_of.settlement.unheard i []) ++ of_kind k d.driven.ends.offline.unannounced ≡ l.heard =
      ap (λ (ys : List Urc). ys ++ of_kind k d.driven.ends.offline.unannounced) took ∙ (ap (λ (us : List Urc). l.heard ++ of_kind k us) d.driven.ends.placed.lines ∙ append-nil l.heard) in
      sym (ap (map heard_as) whole) ∙ e

  runs_desk : RunsDesk look rules n1 period first last input before after silent said end was_bad left d
  unfolding IsDeskHeadline
  runs_desk = record {
    spell = spell_of;
    start_is = refl;
    seen_are = sym sights;
    session_is = refl;
    run = run_of;
    spells_are = refl;
    driver_is = refl;
    callers_are = refl;
    listeners_are = refl;
    settlement_is = refl;
    settled = settled_by;
    headline = desk_headline run_of settled_by;
    shown = d.driven.ends.goes.shows before (d.driven.goes.shows before (d.begins.shown before));
    heard = heard_all;
  }

-- each drive is one session of its desk, which was settled, and has the headline
pub drives_settle : {X : Type 0} (look : X → LineView) → DrivesSettle look
unfolding DrivesSettle
drives_settle look rules n1 period first last input before after silent said end was_bad left d = runs_desk look rules n1 period first last input before after silent said end was_bad left d
