-- The steps of a turn together.
use Rattle.std.proofs.Common.{ap, sym, ◌∙◌, subst, arith}
use Rattle.std.proofs.lemmas.List.{append_assoc, append-nil}
use Rattle.std.proofs.lemmas.List.Folds.{list_all-append}
use Rattle.std.proofs.lemmas.Bool.{and_from}
use Rattle.std.specs.Prelude.{◌≡◌, ◌≢◌, ℕ, zero, suc, Bool, ◌+◌, ◌<◌, ◌≤◌, true, List, [], ◌∷◌, ◌++◌, length, map, refl, Option, None, Some}
use Rattle.std.specs.List.{list_all}
use lib.ListN.{get_elem?}
use Rattle.modem_desk.specs.declared.request.Request.{Request}
use mathlib.Core.Option.{some, some-ne-none}
use Rattle.at_text.specs.declared.unsolicited.UrcKind.{UrcKind}
use Rattle.modem_desk.specs.declared.request.Outcome.{Outcome}
use Rattle.modem_desk.specs.declared.request.Urc.{Urc}
use Rattle.modem_history.specs.Kinds.{of_kind}
use Rattle.modem_history.specs.EveryTurn.{GivesSome, OffersWhatWaits, count_at}
use Rattle.modem_history.specs.Acts.{Act, after}
use Rattle.modem_desk.specs.Ends.{DriverView}
use Rattle.modem_history.specs.Sessions.{Beginning, LineView, at_place, caller_outcomes, gots, heard_as}
use Rattle.modem_history.specs.Turns.{Write, Read, Exchange, HandsBack, ReadHasRoom, octets_written, octets_read, request_given, calls_made, counted, outcomes_told, lines_heard, may_act}
use Rattle.modem_history.specs.Wholes.{IsPrefixOf}
use Rattle.modem_history.proofs.calls.StatesAfterActs.{after_both}
use Rattle.modem_driver.specs.Endings.{KeepsEnd}
use Rattle.modem_driver.specs.SessionStates.{Machine}
use Rattle.modem_driver.specs.SessionTurns.{HasTurned}
use Rattle.modem_driver.specs.TurnSteps.{TurnState, StandingFits, Leads, Adds, AddsAll, Places, Writes, ReadsOn, TakesOne, view_of}
use Rattle.modem_core.proofs.sessions.steps.CollectedActs.{told_both}
use Rattle.modem_core.proofs.sessions.steps.ListenedLines.{heard_both}
use Rattle.modem_driver.proofs.sessions.steps.OneFrame.{few_both}

-- ## One step after the other

-- two steps lead on by the acts of both
pub leads_on : (s0 s1 s2 : TurnState) (xs ys : List Act) → Leads s0 s1 xs → Leads s1 s2 ys → Leads s0 s2 (xs ++ ys)
unfolding Leads
leads_on s0 s1 s2 xs ys l m b past f =
    subst (λ (p : List Act). StandingFits b s2 p) (sym (after_both xs ys past)) (m b (after past xs) (l b past f))

-- and by those of the first where the second has none
pub leads_still : (s0 s1 s2 : TurnState) (xs : List Act) → Leads s0 s1 xs → Leads s1 s2 [] → Leads s0 s2 xs
leads_still s0 s1 s2 xs l m = subst (Leads s0 s2) (append-nil xs) (leads_on s0 s1 s2 xs [] l m)

-- ## What a turn has done so far

-- what its acts told and heard waits behind what still waited, they are such as a turn may have, and so many frames were
-- handled at most
pub record AddsTo (t : Exchange) (now : Machine) (most : ℕ) (acts : List Act) : Type 0 where
  pub outcomes : now.unplaced ≡ t.still_told ++ outcomes_told acts
  pub lines : map heard_as now.unannounced ≡ map heard_as t.still_heard ++ lines_heard acts
  pub may : list_all (may_act t.still_heard) acts ≡ true
  pub few_got : length (gots acts) ≤ most

-- what waited at first was offered to the desk's end: it was told and announced, or still waits
pub record OffersAt (start now : TurnState) (still_told : List Outcome) (still_heard : List Urc) (told_back : List Outcome) (heard_back : List Urc) : Type 0 where
  pub outcomes : (c : ℕ) → GivesSome (at_place c start.driver.told) (at_place c now.driver.told) (caller_outcomes c start.machine.unplaced) (caller_outcomes c still_told)
  pub lines : (i : ℕ) (k : UrcKind) → get_elem? start.driver.desk.kinds i ≡ some k
      → GivesSome (at_place i start.driver.announced) (at_place i now.driver.announced) (of_kind k start.machine.unannounced) (of_kind k still_heard)
  pub elsewhere : (i : ℕ) → ((k : UrcKind) → ¬ (get_elem? start.driver.desk.kinds i ≡ some k)) → at_place i now.driver.announced ≡ at_place i start.driver.announced
  pub outcomes_back : (c : ℕ) → c < length start.driver.desk.rings → count_at c now.driver.told_back ≡ counted (count_at c start.driver.told_back) (length (caller_outcomes c told_back))
  pub lines_back : (i : ℕ) (k : UrcKind) → get_elem? start.driver.desk.kinds i ≡ some k → count_at i now.driver.announced_back ≡ counted (count_at i start.driver.announced_back) (length (of_kind k heard_back))

-- so it was offered in this exchange
abbrev pub OffersBy : (start now : TurnState) → Exchange → Type 0
OffersBy start now t = OffersAt start now t.still_told t.still_heard t.told_back t.heard_back

-- a step that leaves what the desk's end told and announced
pub record StaysAtDesk (old new : DriverView) : Type 0 where
  pub told : new.told ≡ old.told
  pub announced : new.announced ≡ old.announced
  pub told_back : new.told_back ≡ old.told_back
  pub announced_back : new.announced_back ≡ old.announced_back

-- a step that leaves the desk's end leaves that
pub same_desk : (old new : DriverView) → new ≡ old → StaysAtDesk old new
same_desk old new e = record { told = ap (λ (d : DriverView). d.told) e; announced = ap (λ (d : DriverView). d.announced) e; told_back = ap (λ (d : DriverView). d.told_back) e; announced_back = ap (λ (d : DriverView). d.announced_back) e }

-- after such a step all was offered as before
pub offers_on : (s0 s1 s2 : TurnState) (t : Exchange) → OffersBy s0 s1 t → StaysAtDesk s1.driver s2.driver → OffersBy s0 s2 t
offers_on s0 s1 s2 t o d = record {
  outcomes = λ c. subst (λ (os : List (List Outcome)). GivesSome (at_place c s0.driver.told) (at_place c os) (caller_outcomes c s0.machine.unplaced) (caller_outcomes c t.still_told)) (sym d.told) (o.outcomes c);
  lines = λ i k e. subst (λ (us : List (List Urc)). GivesSome (at_place i s0.driver.announced) (at_place i us) (of_kind k s0.machine.unannounced) (of_kind k t.still_heard)) (sym d.announced) (o.lines i k e);
  elsewhere = λ i out. ap (at_place i) d.announced ∙ o.elsewhere i out;
  outcomes_back = λ c lt. ap (count_at c) d.told_back ∙ o.outcomes_back c lt;
  lines_back = λ i k e. ap (count_at i) d.announced_back ∙ o.lines_back i k e;
}

-- said of what the session began with
pub offers_what_waits : (b : Beginning) (s0 s : TurnState) (t : Exchange) (past : List Act) → StandingFits b s0 past → OffersBy s0 s t → OffersWhatWaits b (view_of s0) (view_of s) t
offers_what_waits b s0 s t past f o = record {
  outcomes = o.outcomes;
  lines = λ i k e. o.lines i k (ap (λ (ks : List UrcKind). get_elem? ks i) f.inside.kinds_are ∙ e);
  outcomes_back = λ c lt. o.outcomes_back c (let many = f.inside.callers_are in omega (arith, many, lt));
  lines_back = λ i k e. o.lines_back i k (ap (λ (ks : List UrcKind). get_elem? ks i) f.inside.kinds_are ∙ e);
}

-- a place of a listener, or none
data Place (ks : List UrcKind) (i : ℕ) : Type 0 where
  heard_there : (k : UrcKind) → get_elem? ks i ≡ some k → Place ks i
  unheard : ((k : UrcKind) → ¬ (get_elem? ks i ≡ some k)) → Place ks i

find_place : (ks : List UrcKind) (i : ℕ) → Place ks i
find_place [] i = unheard (λ k e. some-ne-none k (sym e))
find_place (k ∷ ks) zero = heard_there k refl
find_place (k ∷ ks) (suc i) = by_place (find_place ks i)
  where
    by_place : Place ks i → Place (k ∷ ks) (suc i)
    by_place (heard_there m e) = heard_there m e
    by_place (unheard out) = unheard out

announced_grows : (s0 s : TurnState) (t : Exchange) → OffersBy s0 s t → (i : ℕ) → IsPrefixOf (at_place i s0.driver.announced) (at_place i s.driver.announced)
announced_grows s0 s t o i = by_place (find_place s0.driver.desk.kinds i)
  where
    by_place : Place s0.driver.desk.kinds i → IsPrefixOf (at_place i s0.driver.announced) (at_place i s.driver.announced)
    by_place (heard_there k e) = record { rest = (o.lines i k e).given; joins = sym (o.lines i k e).given_are }
    by_place (unheard out) = record { rest = []; joins = append-nil (at_place i s0.driver.announced) ∙ sym (o.elsewhere i out) }

pub record Went (start now : TurnState) (t : Exchange) (most : ℕ) (acts : List Act) : Type 0 where
  pub leads : Leads start now acts
  pub came : now.line.received ≡ start.line.received ++ octets_read t.read
  pub room : ReadHasRoom t.read
  pub went : now.line.sent ≡ start.line.sent ++ octets_written t.write
  pub calls : now.line.calls ≡ counted start.line.calls (calls_made t.write + calls_made t.read)
  pub taken : now.driver.taken ≡ start.driver.taken ++ request_given t.next
  pub hands_back : HandsBack t
  pub unfed : length now.machine.unfed ≤ length start.machine.unfed + length (octets_read t.read)
  pub reads_fed : t.read ≢ None → start.machine.unfed ≡ []
  pub ended : KeepsEnd start.machine.course now.machine.course
  pub offers : OffersBy start now t
  pub adds : (b : Beginning) (past : List Act) → StandingFits b start past → AddsTo t now.machine most acts

-- what the desk was offered first
abbrev pub placed : {old new : TurnState} {moved : Bool} → Places old new moved → Exchange
placed {old} {new} p = record { still_told = new.machine.unplaced; still_heard = new.machine.unannounced; told_back = p.told_back; heard_back = p.heard_back; write = None; read = None; next = None }

-- ## The steps

-- first what waits is placed
pub went_placed : (s0 s1 : TurnState) (moved : Bool) (p : Places s0 s1 moved) → Went s0 s1 (placed p) 0 []
went_placed s0 s1 moved p =
    let line : s1.line ≡ s0.line = ap (λ (s : TurnState). s.line) p.stays in
    let unfed : s1.machine.unfed ≡ s0.machine.unfed = ap (λ (s : TurnState). s.machine.unfed) p.stays in
    record {
      leads = p.leads;
      came = ap (λ (l : LineView). l.received) line ∙ sym (append-nil s0.line.received);
      room = tt;
      went = ap (λ (l : LineView). l.sent) line ∙ sym (append-nil s0.line.sent);
      calls = ap (λ (l : LineView). l.calls) line;
      taken = p.taken_stays ∙ sym (append-nil s0.driver.taken);
      hands_back = record { outcomes = p.outcomes_back; lines = p.lines_back };
      unfed = let e = ap length unfed in omega (arith, e);
      reads_fed = λ read. absurd (read refl);
      ended = λ end e. ap (λ (s : TurnState). s.machine.course) p.stays ∙ e;
      offers = record { outcomes = p.each_told; lines = p.each_announced; elsewhere = p.elsewhere; outcomes_back = p.told_counts; lines_back = p.announced_counts };
      adds = λ b past f. record {
        outcomes = sym (append-nil s1.machine.unplaced);
        lines = sym (append-nil (map heard_as s1.machine.unannounced));
        may = refl;
        few_got = omega arith;
      };
    }

-- no request was asked for yet
pub taken_still : (s0 s1 : TurnState) (t : Exchange) (n : ℕ) (xs : List Act) → t.next ≡ None → Went s0 s1 t n xs → s1.driver.taken ≡ s0.driver.taken
taken_still s0 s1 t n xs none w = w.taken ∙ (ap (λ (o : Option (Option Request)). s0.driver.taken ++ request_given o) none ∙ append-nil s0.driver.taken)

adds_on : (t : Exchange) (k1 k2 : Machine) (n m : ℕ) (xs ys : List Act) → AddsTo t k1 n xs → Adds k1 k2 t.still_heard m ys → AddsTo t k2 (n + m) (xs ++ ys)
adds_on t k1 k2 n m xs ys a d = record {
  outcomes =
      d.outcomes
      ∙ (ap (λ (os : List Outcome). os ++ outcomes_told ys) a.outcomes
      ∙ (append_assoc t.still_told (outcomes_told xs) (outcomes_told ys)
      ∙ ap (λ (os : List Outcome). t.still_told ++ os) (sym (told_both xs ys))));
  lines =
      d.lines
      ∙ (ap (λ (hs : List Act). hs ++ lines_heard ys) a.lines
      ∙ (append_assoc (map heard_as t.still_heard) (lines_heard xs) (lines_heard ys)
      ∙ ap (λ (hs : List Act). map heard_as t.still_heard ++ hs) (sym (heard_both xs ys))));
  may = list_all-append (may_act t.still_heard) xs ys ∙ and_from (list_all (may_act t.still_heard) xs) (list_all (may_act t.still_heard) ys) a.may d.may;
  few_got = few_both xs ys n m a.few_got d.few_got;
}

-- a step of the core: the line, what the desk gave and the octets not yet fed stay
pub went_step : (s0 s1 s2 : TurnState) (t : Exchange) (n m : ℕ) (xs ys : List Act) → t.next ≡ None → Went s0 s1 t n xs → Leads s1 s2 ys → AddsAll s1 s2 t.still_heard m ys
    → s2.line ≡ s1.line → s2.driver ≡ s1.driver → s2.machine.unfed ≡ s1.machine.unfed → KeepsEnd s1.machine.course s2.machine.course → Went s0 s2 t (n + m) (xs ++ ys)
unfolding Leads AddsAll
went_step s0 s1 s2 t n m xs ys none w leads adds line driver unfed ended =
    let still = taken_still s0 s1 t n xs none w in
    record {
      leads = leads_on s0 s1 s2 xs ys w.leads leads;
      came = ap (λ (l : LineView). l.received) line ∙ w.came;
      room = w.room;
      went = ap (λ (l : LineView). l.sent) line ∙ w.went;
      calls = ap (λ (l : LineView). l.calls) line ∙ w.calls;
      taken = ap (λ (d : DriverView). d.taken) driver ∙ w.taken;
      offers = offers_on s0 s1 s2 t w.offers (same_desk s1.driver s2.driver driver);
      hands_back = w.hands_back;
      unfed = let e = ap length unfed in let before = w.unfed in omega (arith, e, before);
      reads_fed = w.reads_fed;
      ended = λ end e. ended end (w.ended end e);
      adds = λ b past f.
          adds_on t s1.machine s2.machine n m xs ys (w.adds b past f) (adds b (after past xs) (w.leads b past f));
    }

-- what was told and heard still waits as it did
adds_still : (t : Exchange) (k1 k2 : Machine) (n : ℕ) (xs : List Act) → AddsTo t k1 n xs → k2.unplaced ≡ k1.unplaced → k2.unannounced ≡ k1.unannounced → AddsTo t k2 n xs
adds_still t k1 k2 n xs a told heard = record { outcomes = told ∙ a.outcomes; lines = ap (map heard_as) heard ∙ a.lines; may = a.may; few_got = a.few_got }

-- octets are written
pub went_wrote : (s0 s1 s2 : TurnState) (t : Exchange) (n : ℕ) (xs : List Act) (moved : Bool) → t.next ≡ None → t.write ≡ None → t.read ≡ None → Went s0 s1 t n xs → (k : Writes s1 s2 moved)
    → Went s0 s2 (record t { write = k.write }) n xs
went_wrote s0 s1 s2 t n xs moved none unwritten unread w k =
    let still = taken_still s0 s1 t n xs none w in
    let same : s2.driver ≡ s1.driver = ap (λ (s : TurnState). s.driver) k.stays in
    let sent : s1.line.sent ≡ s0.line.sent = w.went ∙ (ap (λ (o : Option Write). s0.line.sent ++ octets_written o) unwritten ∙ append-nil s0.line.sent) in
    let count : s1.line.calls ≡ s0.line.calls = w.calls ∙ (ap (λ (o : Option Write). counted s0.line.calls (calls_made o + calls_made t.read)) unwritten ∙ ap (λ (o : Option Read). counted s0.line.calls (0 + calls_made o)) unread) in
    record {
      leads = leads_still s0 s1 s2 xs w.leads k.leads;
      came = k.came_none ∙ w.came;
      room = w.room;
      went = k.went ∙ ap (λ (os : List ℕ). os ++ octets_written k.write) sent;
      calls = k.calls ∙ (ap (λ (n : ℕ). counted n (calls_made k.write)) count ∙ (ap (counted s0.line.calls) (sym (one_alone (calls_made k.write))) ∙ ap (λ (o : Option Read). counted s0.line.calls (calls_made k.write + calls_made o)) (sym unread)));
      taken = ap (λ (d : DriverView). d.taken) same ∙ w.taken;
      offers = offers_on s0 s1 s2 t w.offers (same_desk s1.driver s2.driver same);
      hands_back = record { outcomes = w.hands_back.outcomes; lines = w.hands_back.lines };
      ended = λ end e. ap (λ (s : TurnState). s.machine.course) k.stays ∙ w.ended end e;
      unfed = let e = ap (λ (s : TurnState). length s.machine.unfed) k.stays in let before = w.unfed in omega (arith, e, before);
      reads_fed = w.reads_fed;
      adds = λ b past f.
          let a = adds_still t s1.machine s2.machine n xs (w.adds b past f) (ap (λ (s : TurnState). s.machine.unplaced) k.stays) (ap (λ (s : TurnState). s.machine.unannounced) k.stays) in
          record { outcomes = a.outcomes; lines = a.lines; may = a.may; few_got = a.few_got };
    }
  where
    one_alone : (n : ℕ) → n + 0 ≡ n
    one_alone n = omega arith

-- calls that are counted one after the other
counted_both : {A B : Type 0} (n : ℕ) (w : Option A) (r : Option B) → counted (counted n (calls_made w)) (calls_made r) ≡ counted n (calls_made w + calls_made r)
counted_both n None None = refl
counted_both n None (Some r) = refl
counted_both n (Some w) None = refl
counted_both n (Some w) (Some r) = omega arith

-- the line is read, and what came is fed
pub went_read : (s0 s1 s2 : TurnState) (t : Exchange) (n : ℕ) (xs : List Act) (moved : Bool) → t.next ≡ None → t.read ≡ None → s1.machine.unfed ≡ s0.machine.unfed → Went s0 s1 t n xs → (k : ReadsOn s1 s2 moved)
    → Went s0 s2 (record t { read = k.read }) n xs
went_read s0 s1 s2 t n xs moved none unread same_unfed w k =
    let still = taken_still s0 s1 t n xs none w in
    let same : s2.driver ≡ s1.driver = ap (λ (s : TurnState). s.driver) k.stays in
    let came : s1.line.received ≡ s0.line.received = w.came ∙ (ap (λ (o : Option Read). s0.line.received ++ octets_read o) unread ∙ append-nil s0.line.received) in
    let before : length s1.machine.unfed ≤ length s0.machine.unfed + 0 = subst (λ (o : Option Read). length s1.machine.unfed ≤ length s0.machine.unfed + length (octets_read o)) unread w.unfed in
    let more = k.unfed in
    let count : s1.line.calls ≡ counted s0.line.calls (calls_made t.write) = w.calls ∙ (ap (λ (o : Option Read). counted s0.line.calls (calls_made t.write + calls_made o)) unread ∙ ap (counted s0.line.calls) (one_alone (calls_made t.write))) in
    record {
      leads = leads_still s0 s1 s2 xs w.leads k.leads;
      came = k.came ∙ ap (λ (os : List ℕ). os ++ octets_read k.read) came;
      room = k.room;
      went = k.went_none ∙ w.went;
      calls = k.calls ∙ (ap (λ (n : ℕ). counted n (calls_made k.read)) count ∙ counted_both s0.line.calls t.write k.read);
      taken = ap (λ (d : DriverView). d.taken) same ∙ w.taken;
      offers = offers_on s0 s1 s2 t w.offers (same_desk s1.driver s2.driver same);
      hands_back = record { outcomes = w.hands_back.outcomes; lines = w.hands_back.lines };
      ended = λ end e. ap (λ (s : TurnState). s.machine.course) k.stays ∙ w.ended end e;
      unfed = omega (arith, before, more);
      reads_fed = λ read. sym same_unfed ∙ k.reads_fed read;
      adds = λ b past f.
          let a = adds_still t s1.machine s2.machine n xs (w.adds b past f) (ap (λ (s : TurnState). s.machine.unplaced) k.stays) (ap (λ (s : TurnState). s.machine.unannounced) k.stays) in
          record { outcomes = a.outcomes; lines = a.lines; may = a.may; few_got = a.few_got };
    }
  where
    one_alone : (n : ℕ) → n + 0 ≡ n
    one_alone n = omega arith

-- a request is asked for last
pub went_took : (s0 s1 s2 : TurnState) (t : Exchange) (n : ℕ) (xs : List Act) (moved : Bool) → t.next ≡ None → Went s0 s1 t n xs → (k : TakesOne s1 s2 moved)
    → Went s0 s2 (record t { next = k.next }) (n + 0) (xs ++ k.acts)
unfolding Leads AddsAll
went_took s0 s1 s2 t n xs moved none w k =
    let still = taken_still s0 s1 t n xs none w in
    let line : s2.line ≡ s1.line = ap (λ (s : TurnState). s.line) k.stays in
    record {
      leads = leads_on s0 s1 s2 xs k.acts w.leads k.leads;
      came = ap (λ (l : LineView). l.received) line ∙ w.came;
      room = w.room;
      went = ap (λ (l : LineView). l.sent) line ∙ w.went;
      calls = ap (λ (l : LineView). l.calls) line ∙ w.calls;
      taken = k.taken ∙ ap (λ (qs : List Request). qs ++ request_given k.next) still;
      offers = offers_on s0 s1 s2 t w.offers (record { told = k.desk_stays.1.0; announced = k.desk_stays.1.1; told_back = k.backs_stay.0; announced_back = k.backs_stay.1 });
      hands_back = record { outcomes = w.hands_back.outcomes; lines = w.hands_back.lines };
      ended = λ end e. ap (λ (s : TurnState). s.machine.course) k.stays ∙ w.ended end e;
      unfed = let e = ap (λ (s : TurnState). length s.machine.unfed) k.stays in let before = w.unfed in omega (arith, e, before);
      reads_fed = w.reads_fed;
      adds = λ b past f.
          let a = adds_on t s1.machine s2.machine n 0 xs k.acts (w.adds b past f) (k.adds t.still_heard b (after past xs) (w.leads b past f)) in
          record { outcomes = a.outcomes; lines = a.lines; may = a.may; few_got = a.few_got };
    }

-- where none was handled, one at most was
pub one_at_most : (s0 s : TurnState) (t : Exchange) (acts : List Act) → Went s0 s t 0 acts → Went s0 s t 1 acts
one_at_most s0 s t acts w = record {
  leads = w.leads;
  came = w.came;
  room = w.room;
  went = w.went;
  calls = w.calls;
  taken = w.taken;
  hands_back = w.hands_back;
  unfed = w.unfed;
  reads_fed = w.reads_fed;
  ended = w.ended;
  offers = w.offers;
  adds = λ b past f.
      let a = w.adds b past f in
      record { outcomes = a.outcomes; lines = a.lines; may = a.may; few_got = let none = a.few_got in omega arith };
}

-- ## Whichever way it ends

few_calls : (n m : ℕ) {A B : Type 0} (w : Option A) (r : Option B) → m ≡ counted n (calls_made w + calls_made r) → m ≤ n + 2
few_calls n m None None e = omega (arith, e)
few_calls n m None (Some r) e = omega (arith, e)
few_calls n m (Some w) None e = omega (arith, e)
few_calls n m (Some w) (Some r) e = omega (arith, e)

-- two calls on the line at most; the desk's end keeps what it has, and an end that was given stays
pub has_turned : (s0 s : TurnState) (t : Exchange) (n : ℕ) (acts : List Act) → Went s0 s t n acts → HasTurned s0 s
has_turned s0 s t n acts w = record {
  calls = few_calls s0.line.calls s.line.calls t.write t.read w.calls;
  taken = record { rest = request_given t.next; joins = sym w.taken };
  told = λ c. record { rest = (w.offers.outcomes c).given; joins = sym (w.offers.outcomes c).given_are };
  announced = announced_grows s0 s t w.offers;
  ended = w.ended;
}
