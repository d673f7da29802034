-- An endpoint begins, and takes a request.
use Rattle.std.proofs.Common.{ap, sym, ◌∙◌, subst, arith}
use Rattle.std.proofs.Math.Seq.{drop-length}
use Rattle.std.proofs.lemmas.Bool.{and_from, and_parts}
use Rattle.std.proofs.lemmas.List.Folds.{list_all-append}
use Rattle.std.specs.Prelude.{◌≡◌, ℕ, ◌+◌, ◌<◌, ◌≤◌, true, List, [], ◌∷◌, ◌++◌, length, refl, Contains, Result, Ok, Err, OnErr, IsErrOf, ◌↔◌}
use Rattle.std.specs.List.{list_all}
use Rattle.mux_frame.specs.Spelling.{IsBadN1}
use Rattle.at_text.specs.Dialects.{Dialect, standard}
use Rattle.at_text.specs.Rules.{Rules, no_rules, dialect_of}
use Rattle.at_text.proofs.NoRules.{no_rules_standard}
use Rattle.at_text.specs.declared.unsolicited.UrcKind.{UrcKind}
use Rattle.modem_desk.specs.declared.request.Ask.{Ask}
use Rattle.modem_desk.specs.declared.request.Request.{Request}
use Rattle.modem_desk.specs.Ends.{DriverView}
use Rattle.modem_history.specs.Requests.{are_distinct, is_apart}
use Rattle.modem_history.specs.Acts.{Act}
use Rattle.modem_history.specs.Sessions.{Beginning, LineView, taken_since}
use Rattle.modem_history.proofs.law_proofs.SessionLaws.{since_more}
use Rattle.modem_core.specs.Cores.{Fits}
use Rattle.modem_core.specs.Holding.{HoldsFit}
use Rattle.modem_driver.specs.EndpointSteps.{HandLacksRoom, HandlesFrames}
use Rattle.modem_driver.specs.Endpoints.{EndpointFits, Begins, BeginsBy, LeadsOver, Numbers, Refuses, TakesRequest, is_numbered, with_taken}
use Rattle.modem_driver.specs.SessionStates.{Machine, machine_by, new_machine, seen_by, end_of}
use Rattle.modem_driver.specs.TurnTakes.{MachineTakes, TakesNext}
use Rattle.modem_driver.proofs.endpoints.WholeCalls.{handled_all, handled_alone}
use Rattle.modem_core.proofs.sessions.steps.OutcomeCounts.{is_caller}
use Rattle.modem_driver.proofs.sessions.steps.StartAndTick.{begins_over, least_n1, machine_begins}

-- ## The beginning

begins_so : (rules : Rules) (dialect : Dialect) → dialect ≡ dialect_of rules → (n1 : ℕ) (ks : List UrcKind) (k : Machine) (next : ℕ) → 1 ≤ n1 → k ≡ machine_by rules n1 ks → Fits k.core [] → HoldsFit k.core []
    → BeginsBy dialect n1 ks (record { machine = k; next = next })
unfolding BeginsBy
begins_so rules dialect is n1 ks k next low e fits holds l d same =
    let inside = machine_begins rules dialect is n1 ks k d e (λ m. ((λ c. subst (λ (xs : List UrcKind). Contains xs m) (sym same) c), (λ c. subst (λ (xs : List UrcKind). Contains xs m) same c))) fits holds l in
    record {
      stands = begins_over rules dialect n1 ks k l d low e inside;
      numbers = ap (list_all (is_numbered next)) (drop-length d.taken);
    }

-- an endpoint whose N1 isn't refused begins, at a modem with these rules of its own
pub begins : {T E : Type 0} (rules : Rules) (n1 : ℕ) (ks : List UrcKind) (k : Machine) (next : ℕ) (x : T) (e : E) → IsErrOf (Ok x) e ↔ IsBadN1 n1 → k ≡ machine_by rules n1 ks → Fits k.core [] → HoldsFit k.core [] → BeginsBy (dialect_of rules) n1 ks (record { machine = k; next = next })
begins rules n1 ks k next x y range e fits holds = begins_so rules (dialect_of rules) refl n1 ks k next (least_n1 n1 x y range) e fits holds

-- or at a standard modem
pub begins_standard : {T E : Type 0} (n1 : ℕ) (ks : List UrcKind) (k : Machine) (next : ℕ) (x : T) (e : E) → IsErrOf (Ok x) e ↔ IsBadN1 n1 → k ≡ new_machine n1 ks → Fits k.core [] → HoldsFit k.core [] → Begins n1 ks (record { machine = k; next = next })
begins_standard n1 ks k next x y range e fits holds = begins_so no_rules standard (sym no_rules_standard) n1 ks k next (least_n1 n1 x y range) e fits holds

-- ## Numbers

-- one with a higher number is another
apart_one : (n : ℕ) (ask : Ask) (q : Request) → is_numbered n q ≡ true → is_apart q (record { caller = 0; number = n; ask = ask }) ≡ true
apart_one n ask q h = grind arith

apart_last : (n : ℕ) (ask : Ask) (q : Request) (qs : List Request) → is_numbered n q ≡ true → list_all (is_apart q) qs ≡ true → list_all (is_apart q) (qs ++ record { caller = 0; number = n; ask = ask } ∷ []) ≡ true
apart_last n ask q qs low all =
    let r : Request = record { caller = 0; number = n; ask = ask } in
    list_all-append (is_apart q) qs (r ∷ []) ∙ and_from (list_all (is_apart q) qs) (list_all (is_apart q) (r ∷ [])) all (and_from (is_apart q r) true (apart_one n ask q low) refl)

distinct_last : (n : ℕ) (ask : Ask) (qs : List Request) → list_all (is_numbered n) qs ≡ true → are_distinct qs ≡ true → are_distinct (qs ++ record { caller = 0; number = n; ask = ask } ∷ []) ≡ true
distinct_last n ask [] low once = refl
distinct_last n ask (q ∷ qs) low once =
    let lows = and_parts (is_numbered n q) (list_all (is_numbered n) qs) low in
    let onces = and_parts (list_all (is_apart q) qs) (are_distinct qs) once in
    let r : Request = record { caller = 0; number = n; ask = ask } in
    and_from (list_all (is_apart q) (qs ++ r ∷ [])) (are_distinct (qs ++ r ∷ [])) (apart_last n ask q qs lows.0 onces.0) (distinct_last n ask qs lows.1 onces.1)

lower_one : (n : ℕ) (q : Request) → is_numbered n q ≡ true → is_numbered (n + 1) q ≡ true
lower_one n q h = grind arith

lower_all : (n : ℕ) (qs : List Request) → list_all (is_numbered n) qs ≡ true → list_all (is_numbered (n + 1)) qs ≡ true
lower_all n [] h = refl
lower_all n (q ∷ qs) h =
    let parts = and_parts (is_numbered n q) (list_all (is_numbered n) qs) h in
    and_from (is_numbered (n + 1) q) (list_all (is_numbered (n + 1)) qs) (lower_one n q parts.0) (lower_all n qs parts.1)

last_low : (n : ℕ) (ask : Ask) → is_numbered (n + 1) (record { caller = 0; number = n; ask = ask }) ≡ true
last_low n ask = grind arith

numbered_last : (n : ℕ) (ask : Ask) (qs : List Request) → list_all (is_numbered n) qs ≡ true → list_all (is_numbered (n + 1)) (qs ++ record { caller = 0; number = n; ask = ask } ∷ []) ≡ true
numbered_last n ask qs h =
    let r : Request = record { caller = 0; number = n; ask = ask } in
    list_all-append (is_numbered (n + 1)) qs (r ∷ []) ∙ and_from (list_all (is_numbered (n + 1)) qs) (list_all (is_numbered (n + 1)) (r ∷ [])) (lower_all n qs h) (and_from (is_numbered (n + 1) r) true (last_low n ask) refl)

-- ## The request is next

is_caller_0 : (n : ℕ) (q : Request) → q.caller ≡ 0 → 1 ≤ n → is_caller n q ≡ true
is_caller_0 n q e h = grind arith

next_here : (b : Beginning) (l : LineView) (d : DriverView) (old : Machine) (n : ℕ) (ask : Ask) (past : List Act) → length old.core.hand + length old.unplaced < 128 → 1 ≤ length d.desk.rings
    → EndpointFits b l d (record { machine = old; next = n }) past
    → TakesNext b l d (with_taken d (record { caller = 0; number = n; ask = ask })) old (record { caller = 0; number = n; ask = ask })
next_here b l d old n ask past room some fit =
    let q : Request = record { caller = 0; number = n; ask = ask } in
    let v = seen_by l (end_of d) old in
    let w = seen_by l (end_of (with_taken d q)) old in
    let s = fit.stands.session in
    record {
      taken = refl;
      caller = is_caller_0 (length d.desk.rings) q refl some;
      once = ap are_distinct (since_more b v w past (q ∷ []) s refl) ∙ distinct_last n ask (taken_since b v) fit.numbers s.requests.once;
      room = room;
      desk_stays = refl;
      told_stays = refl;
      announced_stays = refl;
    }

-- the numbers that its desk's end took then
numbered_here : (b : Beginning) (l : LineView) (d : DriverView) (old k : Machine) (n : ℕ) (ask : Ask) (past : List Act) → EndpointFits b l d (record { machine = old; next = n }) past
    → list_all (is_numbered (n + 1)) (taken_since b (seen_by l (end_of (with_taken d (record { caller = 0; number = n; ask = ask }))) k)) ≡ true
numbered_here b l d old k n ask past fit =
    let q : Request = record { caller = 0; number = n; ask = ask } in
    let v = seen_by l (end_of d) old in
    let w = seen_by l (end_of (with_taken d q)) k in
    ap (list_all (is_numbered (n + 1))) (since_more b v w past (q ∷ []) fit.stands.session refl) ∙ numbered_last n ask (taken_since b v) fit.numbers

-- ## It is taken

-- frames at hand are handled, and then a request of caller 0 with the next number is taken
pub takes_request : (k0 k1 k2 : Machine) (n : ℕ) (ask : Ask) → HandlesFrames k0 k1 → HandLacksRoom k1 → length k1.core.hand + length k1.unplaced < 128 → MachineTakes k1 k2 (record { caller = 0; number = n; ask = ask }) → (l : LineView) (d : DriverView)
    → TakesRequest l d (record { machine = k0; next = n }) (record { machine = k2; next = n + 1 }) ask n
unfolding LeadsOver
takes_request k0 k1 k2 n ask handles lacks room takes l d =
    let e = with_taken d (record { caller = 0; number = n; ask = ask }) in
    record {
      between = record { machine = k1; next = n };
      frames = handled_all k0 k1 n handles lacks l d;
      acts = takes.acts;
      leads = λ some b past f. record {
        stands = takes.goes b l d e past f.stands (next_here b l d k1 n ask past room some f);
        numbers = numbered_here b l d k1 k2 n ask past f;
      };
      may = λ some b past f waiting. (takes.adds waiting b l d e past f.stands (next_here b l d k1 n ask past room some f)).may;
    }

-- so it has that number, and the next request one more
pub numbers : (k0 k1 k2 : Machine) (n later : ℕ) (ask : Ask) → HandlesFrames k0 k1 → HandLacksRoom k1 → length k1.core.hand + length k1.unplaced < 128 → MachineTakes k1 k2 (record { caller = 0; number = n; ask = ask }) → later ≡ n + 1
    → Numbers (record { machine = k0; next = n }) (record { machine = k2; next = later }) ask n
numbers k0 k1 k2 n later ask handles lacks room takes e = record {
  number = refl;
  later = e;
  takes = λ l d. subst (λ (m : ℕ). TakesRequest l d (record { machine = k0; next = n }) (record { machine = k2; next = m }) ask n) (sym e) (takes_request k0 k1 k2 n ask handles lacks room takes l d);
}

-- a refused request: frames at hand were handled, and nothing else
pub refuses : (k0 k1 : Machine) (n : ℕ) → HandlesFrames k0 k1 → Refuses (record { machine = k0; next = n }) (record { machine = k1; next = n })
refuses k0 k1 n handles = record { number = refl; handles = handled_alone k0 k1 n handles }

-- the octets are all fed
pub fed_after : (k1 k2 : Machine) (q : Request) → MachineTakes k1 k2 q → k1.unfed ≡ [] → k2.unfed ≡ []
fed_after k1 k2 q takes fed = ap (λ (k : Machine). k.unfed) takes.stays ∙ fed

-- where a call was refused, whatever it is of
pub always_err : {A E : Type 0} (P : Type 0) (r : Result A E) → P → OnErr r P
always_err P (Ok a) p = tt
always_err P (Err e) p = p

-- so it is where a call was refused
pub refused_by : {A E : Type 0} (r : Result A E) (k0 k1 k2 : Machine) (n : ℕ) → HandlesFrames k0 k1 → OnErr r (k2 ≡ k1) → OnErr r (Refuses (record { machine = k0; next = n }) (record { machine = k2; next = n }))
refused_by (Ok a) k0 k1 k2 n handles same = tt
refused_by (Err e) k0 k1 k2 n handles same = subst (λ (k : Machine). Refuses (record { machine = k0; next = n }) (record { machine = k; next = n })) (sym same) (refuses k0 k1 n handles)
