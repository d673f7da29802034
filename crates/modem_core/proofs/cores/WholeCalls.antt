-- A call that does what its first act calls for goes on with a history of whole calls.
use Rattle.std.specs.Prelude.{◌≡◌, true, false, List, [], ◌∷◌, refl}
use Rattle.std.specs.List.{list_all}
use Rattle.std.proofs.Common.{sym, ◌∙◌, subst}
use Rattle.std.proofs.lemmas.Bool.{and_parts}
use Rattle.modem_history.specs.Acts.{Act, Took, Got, Sent, Told, Heard, Tick, Lost, Held, Freed, Given, after, in_hand}
use Rattle.modem_history.specs.Calls.{Setting, seen, calls, is_lost}
use Rattle.modem_history.specs.Lawful.{Complete}
use Rattle.modem_history.specs.Requests.{are_distinct}
use Rattle.modem_history.specs.Wholes.{taken_requests, is_first, is_said, CallGoesOn, UsesOnce, CompleteCalls}
use Rattle.modem_core.specs.Cores.{IsRun}
use Rattle.modem_history.proofs.calls.CalledActs.{calls_said}
use Rattle.modem_history.proofs.law_proofs.WholeHistories.{call_goes_on}
use Rattle.modem_history.proofs.calls.CallEnds.{ended}
use Rattle.modem_history.proofs.requests.StepsOfHistory.{few_once, few_hand, distinct_few}
use Rattle.modem_history.specs.Holding.{OnHeld}

-- what a call may be called for begins no call, and takes no request
pub record Behind (s : Setting) (acts past : List Act) : Type 0 where
  pub whole : CompleteCalls s past → CompleteCalls s (after past acts)
  pub taken_same : taken_requests (after past acts) ≡ taken_requests past
  pub lost_same : is_lost (after past acts) ≡ is_lost past

behind : (s : Setting) (acts past : List Act) → list_all is_said acts ≡ true → Behind s acts past
behind s [] past h = record { whole = λ w. w; taken_same = refl; lost_same = refl }
behind s (Sent f ∷ acts) past h =
    let parts = and_parts (is_said (Sent f)) (list_all is_said acts) h in
    let b = behind s acts (Sent f ∷ past) parts.1 in
    record { whole = λ w. b.whole ((λ e. absurd (let x : true ≡ false = sym parts.0 ∙ e in cc)), w); taken_same = b.taken_same; lost_same = b.lost_same }
behind s (Told o ∷ acts) past h =
    let b = behind s acts (Told o ∷ past) h in
    record { whole = λ w. b.whole ((λ e. absurd (let x : true ≡ false = e in cc)), w); taken_same = b.taken_same; lost_same = b.lost_same }
behind s (Heard k d line ∷ acts) past h =
    let b = behind s acts (Heard k d line ∷ past) h in
    record { whole = λ w. b.whole ((λ e. absurd (let x : true ≡ false = e in cc)), w); taken_same = b.taken_same; lost_same = b.lost_same }
behind s (Took q ∷ acts) past h = absurd (let e : false ≡ true = h in cc)
behind s (Got f ∷ acts) past h = absurd (let e : false ≡ true = h in cc)
behind s (Tick ∷ acts) past h = absurd (let e : false ≡ true = h in cc)
behind s (Lost ∷ acts) past h = absurd (let e : false ≡ true = h in cc)
behind s (Held d ∷ acts) past h = absurd (let e : false ≡ true = h in cc)
behind s (Freed d ∷ acts) past h = absurd (let e : false ≡ true = h in cc)
behind s (Given ∷ acts) past h = absurd (let e : false ≡ true = h in cc)

-- so it is with all that an act calls for
pub call_behind : (s : Setting) (past : List Act) (a : Act) → Behind s (calls s past a) (a ∷ past)
call_behind s past a = behind s (calls s past a) (a ∷ past) (calls_said s (seen s past) a)

-- a history of whole calls goes on with an act that a call begins with, and all that it calls for
pub run_on : (s : Setting) (past : List Act) (a : Act) → is_first a ≡ true → OnHeld s.role past a → IsRun s past → UsesOnce (taken_requests (a ∷ past)) → IsRun s (ended s past a)
unfolding Complete CallGoesOn
run_on s past a f h r u =
    let g = call_goes_on s past a f h r.lawful r.complete in
    let b = call_behind s past a in
    record {
      lawful = g.lawful;
      complete = g.complete;
      whole = b.whole ((λ e. r.complete), r.whole);
      numbers = subst UsesOnce (sym b.taken_same) u;
    }

-- at the end of a call the line is lost just where it is after the first act
pub lost_on : (s : Setting) (past : List Act) (a : Act) → is_lost (ended s past a) ≡ is_lost (a ∷ past)
lost_on s past a = (call_behind s past a).lost_same

-- of those in hand no two are of one caller and number
pub hand_distinct : (s : Setting) (past : List Act) → IsRun s past → are_distinct (in_hand past) ≡ true
hand_distinct s past r = distinct_few (in_hand past) (few_hand past (few_once (taken_requests past) r.numbers))
