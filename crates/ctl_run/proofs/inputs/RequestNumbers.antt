-- A script's requests are numbered one after the other, so no number comes twice.
use Rattle.std.specs.Prelude.{◌≡◌, ℕ, ◌+◌, ◌≤◌, ◌==◌, Bool, true, false, List, [], ◌∷◌, length, filter, refl, if◌then◌else◌}
use Rattle.std.proofs.Common.{ap, ◌∙◌, arith, eqb-true}
use Rattle.std.proofs.lemmas.Bool.{and_parts}
use Rattle.modem_desk.specs.declared.request.Request.{Request}
use Rattle.modem_history.specs.Wholes.{is_same, UsesOnce}
use Rattle.modem_core.specs.declared.event.Event.{Event}
use Rattle.modem_core.specs.declared.event.Event.TheVariants as event
use Rattle.modem_core.specs.Replays.{requests}
use Rattle.ctl_run.specs.Script.{IsScript}

-- each has this number or a greater one
abbrev AllFrom : ℕ → List Request → Type 0
AllFrom n [] = Unit {0}
AllFrom n (q ∷ qs) = (n ≤ q.number) × AllFrom n qs

lower : (n m : ℕ) (qs : List Request) → n ≤ m → AllFrom m qs → AllFrom n qs
lower n m [] h a = tt
lower n m (q ∷ qs) h a = let x = a.0 in (omega (arith, h, x), lower n m qs h a.1)

from_script : (lines : List (List ℕ)) (n : ℕ) (events : List Event) → IsScript n lines events → AllFrom n (requests events)
from_script [] n [] h = tt
from_script [] n (e ∷ events) h = absurd h
from_script ([] ∷ lines) n events h = from_script lines n events h
from_script ((c ∷ line) ∷ lines) n [] h = absurd h
from_script ((c ∷ line) ∷ lines) n (event.Ask q ∷ events) h = let x = h.2 in (omega (arith, x), lower n (n + 1) (requests events) (omega arith) (from_script lines (n + 1) events h.3))
from_script ((c ∷ line) ∷ lines) n (event.Octets x ∷ events) h = from_script lines n events h.1
from_script ((c ∷ line) ∷ lines) n (event.Tick ∷ events) h = from_script lines n events h.1
from_script ((c ∷ line) ∷ lines) n (event.Lost ∷ events) h = from_script lines n events h.1

-- none of the later ones has the number of an earlier one
none_same : (r : Request) (n : ℕ) (qs : List Request) → r.number ≡ n → AllFrom (n + 1) qs → filter (is_same r) qs ≡ []
none_same r n [] e a = refl
none_same r n (q ∷ qs) e a = by_test (is_same r q) refl (none_same r n qs e a.1)
  where
    by_test : (b : Bool) → is_same r q ≡ b → filter (is_same r) qs ≡ [] → (if b then q ∷ filter (is_same r) qs else filter (is_same r) qs) ≡ []
    by_test false t rest = rest
    by_test true t rest =
        let number : r.number ≡ q.number = eqb-true r.number q.number (and_parts (r.caller == q.caller) (r.number == q.number) t).1 in
        let more = a.0 in
        let x : ⊥ = omega (arith, number, more, e) in
        absurd x

at_most_once : (r q : Request) (n : ℕ) (qs : List Request) (b : Bool) → is_same r q ≡ b → q.number ≡ n → AllFrom (n + 1) qs → length (filter (is_same r) qs) ≤ 1 → length (if b then q ∷ filter (is_same r) qs else filter (is_same r) qs) ≤ 1
at_most_once r q n qs false t e a h = h
at_most_once r q n qs true t e a h =
    let number : r.number ≡ n = eqb-true r.number q.number (and_parts (r.caller == q.caller) (r.number == q.number) t).1 ∙ e in
    let none : length (filter (is_same r) qs) ≡ 0 = ap length (none_same r n qs number a) in
    omega (arith, none)

-- no number of a script's requests comes twice
pub script_once : (lines : List (List ℕ)) (n : ℕ) (events : List Event) → IsScript n lines events → UsesOnce (requests events)
script_once [] n [] h r = omega arith
script_once [] n (e ∷ events) h r = absurd h
script_once ([] ∷ lines) n events h r = script_once lines n events h r
script_once ((c ∷ line) ∷ lines) n [] h r = absurd h
script_once ((c ∷ line) ∷ lines) n (event.Ask q ∷ events) h r =
    at_most_once r q n (requests events) (is_same r q) refl h.2 (from_script lines (n + 1) events h.3) (script_once lines (n + 1) events h.3 r)
script_once ((c ∷ line) ∷ lines) n (event.Octets x ∷ events) h r = script_once lines n events h.1 r
script_once ((c ∷ line) ∷ lines) n (event.Tick ∷ events) h r = script_once lines n events h.1 r
script_once ((c ∷ line) ∷ lines) n (event.Lost ∷ events) h r = script_once lines n events h.1 r
