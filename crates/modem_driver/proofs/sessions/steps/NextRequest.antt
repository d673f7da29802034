-- The desk's next request is taken.
use Rattle.std.proofs.Common.{ap, sym, ◌∙◌, arith, inl, inr}
use Rattle.std.proofs.lemmas.Bool.{and_parts}
use Rattle.std.proofs.lemmas.Bool.Decides.{nat_tests}
use Rattle.std.proofs.lemmas.List.{append-nil}
use Rattle.std.specs.Prelude.{◌≡◌, ℕ, zero, suc, ◌+◌, ◌≤◌, ◌<◌, true, false, List, [], ◌∷◌, ◌++◌, length, map, drop, refl, option_to_list, Option, None, Some, MatchOption, nat_le, false}
use Rattle.std.specs.List.{list_all}
use Rattle.modem_desk.specs.declared.request.Request.{Request}
use Rattle.modem_desk.specs.declared.request.Urc.{Urc}
use Rattle.modem_desk.specs.Ends.{DriverView, DeskId, RisesByOne}
use Rattle.modem_desk.specs.Rule.{AreNumbered}
use Rattle.modem_history.specs.Requests.{are_distinct, is_apart}
use Rattle.modem_history.specs.EveryTurn.{asked_in_vain}
use Rattle.modem_history.specs.Acts.{Act, in_hand}
use Rattle.modem_history.specs.Sessions.{Beginning, LineView, heard_as}
use Rattle.modem_history.specs.Turns.{counted}
use Rattle.modem_driver.specs.SessionStates.{AreFormed, Machine, seen_by, end_of}
use Rattle.modem_driver.specs.TurnSteps.{StandingFits, Leads, AddsAll, TakesOne, turn_state}
use Rattle.modem_driver.specs.TurnTakes.{MachineTakes, TakesNext}
use Rattle.modem_driver.proofs.law_proofs.RequestNumbers.{taken_once}
use Rattle.modem_core.proofs.sessions.steps.OutcomeCounts.{is_caller}
use Rattle.modem_driver.proofs.sessions.polls.StopProgress.{come_on, grows_none}
use Rattle.modem_driver.proofs.sessions.steps.LineOctets.{loss_with}
use Rattle.modem_driver.proofs.sessions.steps.WaitingDeliveries.{told_part, heard_part, sent_part, received_part}

-- ## The desk's next

-- what the desk gave: a request of one of its callers, or none
pub record Gives (d e : DriverView) (o : Option Request) : Type 0 where
  pub desk : e.desk ≡ d.desk
  pub told : e.told ≡ d.told
  pub announced : e.announced ≡ d.announced
  pub places : (e.free ≡ d.free) × (e.free_lines ≡ d.free_lines)
  pub backs : (e.told_back ≡ d.told_back) × (e.announced_back ≡ d.announced_back)
  pub found : e.found_none ≡ counted d.found_none (asked_in_vain (Some o))
  pub once : are_distinct e.taken ≡ true
  pub more : e.taken ≡ d.taken ++ option_to_list o
  pub callers : list_all (is_caller (length d.desk.rings)) (option_to_list o) ≡ true
  pub formed : AreFormed (option_to_list o)

caller_of : (d : DriverView) (q : Request) → q.caller < length d.desk.rings → list_all (is_caller (length d.desk.rings)) (q ∷ []) ≡ true
caller_of d q h = grind arith

-- what the desk's end promises of its next request, if it gave one
pub gives : (d e : DriverView) (o : Option Request) → e.desk ≡ d.desk → e.told ≡ d.told → e.announced ≡ d.announced → (e.free ≡ d.free) × (e.free_lines ≡ d.free_lines) → (e.told_back ≡ d.told_back) × (e.announced_back ≡ d.announced_back)
    → MatchOption o (RisesByOne d.found_none e.found_none) (λ _. e.found_none ≡ d.found_none) → AreNumbered e.taken
    → MatchOption o (e.taken ≡ d.taken) (λ q. (e.taken ≡ d.taken ++ q ∷ []) × (q.caller < length d.desk.rings)) → AreFormed (option_to_list o) → Gives d e o
gives d e None desk told announced places backs found once h formed = record { desk = desk; told = told; announced = announced; places = places; backs = backs; found = found; once = taken_once e.taken once; more = h ∙ sym (append-nil d.taken); callers = refl; formed = formed }
gives d e (Some q) desk told announced places backs found once h formed = record { desk = desk; told = told; announced = announced; places = places; backs = backs; found = found; once = taken_once e.taken once; more = h.0; callers = caller_of d q h.1; formed = formed }

-- it has none, and counts that
pub finding_gives_none : (d e : DriverView) → e ≡ record d { found_none = e.found_none } → RisesByOne d.found_none e.found_none → AreNumbered e.taken → Gives d e None
finding_gives_none d e same found once =
    gives d e None (ap (λ (v : DriverView). v.desk) same) (ap (λ (v : DriverView). v.told) same) (ap (λ (v : DriverView). v.announced) same) (ap (λ (v : DriverView). v.free) same, ap (λ (v : DriverView). v.free_lines) same)
    (ap (λ (v : DriverView). v.told_back) same, ap (λ (v : DriverView). v.announced_back) same) found once (ap (λ (v : DriverView). v.taken) same) tt

-- there is room for one more
pub not_full : (n : ℕ) → nat_le 128 n ≡ false → n < 128
not_full n h = grind (arith, nat_tests)

-- those behind some of them are distinct too
distinct_behind : (n : ℕ) (qs : List Request) → are_distinct qs ≡ true → are_distinct (drop n qs) ≡ true
distinct_behind zero qs h = h
distinct_behind (suc n) [] h = h
distinct_behind (suc n) (q ∷ qs) h = distinct_behind n qs (and_parts (list_all (is_apart q) qs) (are_distinct qs) h).1

-- ## None is taken

-- the desk gave none, or wasn't asked
leads_without : (l : LineView) (d e : DriverView) (k : Machine) → e.desk ≡ d.desk → e.told ≡ d.told → e.announced ≡ d.announced → e.taken ≡ d.taken → Leads (turn_state l d k) (turn_state l e k) []
unfolding Leads
leads_without l d e k desk told announced taken b past f =
    let v = seen_by l (end_of d) k in
    let w = seen_by l (end_of e) k in
    let s = f.session in
    record {
      session = record {
        history = s.history;
        loss = loss_with b v w past s (omega arith);
        requests = record {
          taken_are = taken ∙ s.requests.taken_are;
          once = ap (λ (qs : List Request). are_distinct (drop (length b.desk.taken) qs)) taken ∙ s.requests.once;
          callers = ap (λ (qs : List Request). list_all (is_caller b.callers) (drop (length b.desk.taken) qs)) taken ∙ s.requests.callers;
          few = s.requests.few;
        };
        received = received_part b v w past past s.received refl refl refl refl;
        sent = sent_part b v w past past s.sent refl refl refl;
        told = told_part b v w past [] s.told told (sym (append-nil k.unplaced)) refl;
        heard = heard_part b v w past [] s.heard announced (sym (append-nil (map heard_as k.unannounced))) refl;
      };
      inside = record {
        setting = f.inside.setting;
        fits = f.inside.fits;
        holds = f.inside.holds;
        kinds_are = ap (λ (x : DeskId). x.kinds) desk ∙ f.inside.kinds_are;
        callers_are = ap (λ (x : DeskId). length x.rings) desk ∙ f.inside.callers_are;
        sound = f.inside.sound;
        by_fault = f.inside.by_fault;
        one_stop = f.inside.one_stop;
        delays_are = f.inside.delays_are;
        come = come_on b v w past [] k.course (λ h. h) (grows_none v w refl told) f.inside.come;
      };
    }

none_adds : (l : LineView) (d e : DriverView) (k : Machine) (waiting : List Urc) → AddsAll (turn_state l d k) (turn_state l e k) waiting 0 []
unfolding AddsAll
none_adds l d e k waiting b past f = record {
  outcomes = sym (append-nil k.unplaced);
  lines = sym (append-nil (map heard_as k.unannounced));
  may = refl;
  few_got = omega arith;
}

-- the desk gave none
pub none_to_take : (l : LineView) (d e : DriverView) (k : Machine) → Gives d e None → TakesOne (turn_state l d k) (turn_state l e k) false
none_to_take l d e k g = record {
  next = Some None;
  acts = [];
  leads = leads_without l d e k g.desk g.told g.announced (g.more ∙ append-nil d.taken);
  adds = none_adds l d e k;
  moved_is = refl;
  taken = g.more;
  callers = refl;
  formed = tt;
  still = λ _. (refl, refl);
  no_request = λ _. inl refl;
  desk_stays = (g.desk, (g.told, g.announced));
  places_stay = g.places;
  backs_stay = g.backs;
  asks = λ b past f asked. absurd (let x : Some None ≡ None = asked in cc);
  found = g.found;
  stays = refl;
}

-- the desk wasn't asked, since requests in hand and outcomes that wait are 128
pub full_asks_none : (l : LineView) (d : DriverView) (k : Machine) → 128 ≤ length k.core.hand + length k.unplaced → TakesOne (turn_state l d k) (turn_state l d k) false
full_asks_none l d k full = record {
  next = None;
  acts = [];
  leads = leads_without l d d k refl refl refl refl;
  adds = none_adds l d d k;
  moved_is = refl;
  taken = sym (append-nil d.taken);
  callers = refl;
  formed = tt;
  still = λ _. (refl, refl);
  no_request = λ _. inr is_full;
  desk_stays = (refl, (refl, refl));
  places_stay = (refl, refl);
  backs_stay = (refl, refl);
  asks = λ b past f asked. is_full b past f;
  found = refl;
  stays = refl;
}
  where
    is_full : (b : Beginning) (past : List Act) → StandingFits b (turn_state l d k) past → length (in_hand past) + length k.unplaced ≡ 128
    is_full b past f =
        let hand = ap (length {A = Request}) f.inside.fits.hand_is in
        let few = f.session.requests.few in
        omega arith

-- ## One is taken

next_taken : (b : Beginning) (l : LineView) (d e : DriverView) (k : Machine) (q : Request) → length k.core.hand + length k.unplaced < 128 → Gives d e (Some q) → TakesNext b l d e k q
next_taken b l d e k q room g = record {
  taken = g.more;
  caller = (and_parts (is_caller (length d.desk.rings) q) true g.callers).0;
  once = distinct_behind (length b.desk.taken) e.taken g.once;
  room = room;
  desk_stays = g.desk;
  told_stays = g.told;
  announced_stays = g.announced;
}

-- the desk gave one, and it was taken
pub takes_some : (l : LineView) (d e : DriverView) (old new : Machine) (q : Request) → length old.core.hand + length old.unplaced < 128 → Gives d e (Some q) → MachineTakes old new q → TakesOne (turn_state l d old) (turn_state l e new) true
unfolding Leads AddsAll
takes_some l d e old new q room g t = record {
  next = Some (Some q);
  acts = t.acts;
  leads = λ b past f. t.goes b l d e past f (next_taken b l d e old q room g);
  adds = λ waiting b past f. t.adds waiting b l d e past f (next_taken b l d e old q room g);
  moved_is = sym t.moves;
  taken = g.more;
  callers = g.callers;
  formed = g.formed;
  still = λ n. cc;
  no_request = λ n. cc;
  desk_stays = (g.desk, (g.told, g.announced));
  places_stay = g.places;
  backs_stay = g.backs;
  asks = λ b past f asked. absurd (let x : Some (Some q) ≡ None = asked in cc);
  found = g.found;
  stays = ap (turn_state l e) t.stays;
}
