-- Octets that go out part by part.
use Rattle.std.proofs.Common.{ap, sym, ◌∙◌, subst}
use Rattle.std.specs.Prelude.{◌≡◌, ℕ, ◌+◌, List, [], ◌++◌, take, drop, Option, None, Some}
use Rattle.std.proofs.lemmas.List.{append-nil, append_assoc}
use Rattle.std.proofs.Math.Seq.{take-add}
use Rattle.modem_desk.specs.Ends.{DriverView}
use Rattle.modem_history.specs.Sessions.{LineView}
use Rattle.modem_driver.specs.Endpoints.{EndpointState, GivesOctets, MachineSays, TakesOctets}
use Rattle.modem_driver.specs.EndpointLaws.{Calls, World, called_more, gave_octets, none_called, took_octets}
use Rattle.modem_driver.specs.EndpointSteps.{with_received, with_sent}
use Rattle.modem_driver.specs.declared.endpoint.Blocked.{Blocked}
use Rattle.modem_driver.specs.declared.endpoint.Blocked.TheVariants.{NoMemory, OutputFirst}
use Rattle.modem_driver.proofs.endpoints.GivenOctets.{gives_none}
use Rattle.modem_driver.proofs.endpoints.WholeCalls.{gives_octets}
use Rattle.modem_c.specs.Calls.{GivesAll, GivesOn, OutputsAreCalls, SaysOfFrames, gave, handled, unmoved}

-- one part more, behind the frames at hand
pub one_part : (e f g h : EndpointState) (count given : ℕ) (before later : List ℕ) (blocked : Option Blocked)
    → ((l : LineView) (d : DriverView) → GivesOn l d e f (take count before))
    → ((l : LineView) (d : DriverView) → TakesOctets l d f g [] blocked)
    → ((l : LineView) (d : DriverView) → GivesOctets l d g h (take given (drop count later)))
    → take count later ≡ take count before
    → (l : LineView) (d : DriverView) → GivesOn l d e h (take (count + given) later)
one_part e f g h count given before later blocked out takes gives same l d =
    let here = with_sent l (take count before) in
    let both : take count before ++ take given (drop count later) ≡ take (count + given) later =
    ap (λ (xs : List ℕ). xs ++ take given (drop count later)) (sym same) ∙ sym (take-add count given later) in
    subst (GivesOn l d e h) both
    (gave l d e g h (take count before) (take given (drop count later)) (handled l d e f g (take count before) blocked (out l d) (takes here d)) (gives here d))

none_sent : (l : LineView) → l ≡ with_sent l []
none_sent l = ap (λ (xs : List ℕ). record l { sent = xs }) (sym (append-nil l.sent))

none_received : (l : LineView) → with_received l [] ≡ l
none_received l = ap (λ (xs : List ℕ). record l { received = xs }) (append-nil l.received)

more_sent : (l : LineView) (before octets : List ℕ) → with_sent (with_sent l before) octets ≡ with_sent l (before ++ octets)
more_sent l before octets = ap (λ (xs : List ℕ). record l { sent = xs }) (append_assoc l.sent before octets)

abbrev at : LineView → DriverView → EndpointState → World
at l d e = record { line = l; driver = d; endpoint = e }

all_parts : (l : LineView) (d : DriverView) (e f : EndpointState) (octets : List ℕ) → GivesOn l d e f octets
    → Calls (at l d e) (at (with_sent l octets) d f)
all_parts l d e _ _ (unmoved _ _ _) = subst (λ (m : LineView). Calls (at l d e) (at m d e)) (none_sent l) (none_called (at l d e))
all_parts l d e g _ (gave _ _ _ f _ before octets out gives) =
    subst (λ (m : LineView). Calls (at l d e) (at m d g)) (more_sent l before octets)
    (called_more _ _ _ (all_parts l d e f before out) (gave_octets (with_sent l before) d f g octets gives))
all_parts l d e g _ (handled _ _ _ f _ before blocked out takes) =
    subst (λ (m : LineView). Calls (at l d e) (at m d g)) (none_received (with_sent l before))
    (called_more _ _ _ (all_parts l d e f before out) (took_octets (with_sent l before) d f g [] blocked takes))

-- the last part is of no octets
last_part : (l : LineView) (d : DriverView) (e f : EndpointState) (octets : List ℕ) → GivesAll l d e f octets → GivesOn l d e f octets
last_part l d e f octets out =
    subst (GivesOn l d e f) (append-nil octets)
    (gave l d e out.between f octets [] (handled l d e out.before out.between octets out.blocked out.gives out.handles) out.rests)

-- an output, part by part, is a sequence of the endpoint's calls
pub outputs_are_calls : OutputsAreCalls
unfolding OutputsAreCalls
outputs_are_calls l d e f octets out = all_parts l d e f octets (last_part l d e f octets out)

-- nothing was given behind the frames at hand
pub all_given : (e f g h : EndpointState) (count given : ℕ) (before later : List ℕ) (blocked : Option Blocked)
    → ((l : LineView) (d : DriverView) → GivesOn l d e f (take count before))
    → ((l : LineView) (d : DriverView) → TakesOctets l d f g [] blocked)
    → SaysOfFrames g blocked
    → ((l : LineView) (d : DriverView) → GivesOctets l d g h (take given (drop count later)))
    → take count later ≡ take count before → given ≡ 0
    → (l : LineView) (d : DriverView) → GivesAll l d e h (take count later)
all_given e f g h count given before later blocked out takes says gives same none l d =
    let here = with_sent l (take count later) in
    record {
      before = f;
      between = g;
      blocked = blocked;
      gives = subst (GivesOn l d e f) (sym same) (out l d);
      handles = takes here d;
      says = says;
      rests = subst (λ (n : ℕ). GivesOctets here d g h (take n (drop count later))) none (gives here d);
    }

still_given : (l : LineView) (d : DriverView) (e : EndpointState) → GivesOctets l d e e []
still_given l d e = gives_octets e.machine e.machine e.next [] (gives_none e.machine) l d

-- nothing is left to handle behind the last part, and nothing to give
pub quiet_given : (e f g h : EndpointState) (count given : ℕ) (before later : List ℕ) (blocked : Option Blocked)
    → ((l : LineView) (d : DriverView) → GivesOn l d e f (take count before))
    → ((l : LineView) (d : DriverView) → TakesOctets l d f g [] blocked)
    → ((l : LineView) (d : DriverView) → GivesOctets l d g h (take given (drop count later)))
    → take count later ≡ take count before
    → ((l : LineView) (d : DriverView) → TakesOctets l d h h [] None) → h.machine.deframer.next ≡ None
    → (l : LineView) (d : DriverView) → GivesAll l d e h (take (count + given) later)
quiet_given e f g h count given before later blocked out takes gives same quiet none l d =
    let here = with_sent l (take (count + given) later) in
    record {
      before = h;
      between = h;
      blocked = None;
      gives = one_part e f g h count given before later blocked out takes gives same l d;
      handles = quiet here d;
      says = (tt, none);
      rests = still_given here d h;
    }

-- all of no octets was taken
pub says_of_frames : (e : EndpointState) (all : Type 0) (blocked : Option Blocked) → MachineSays e.machine all blocked → SaysOfFrames e blocked
says_of_frames e all None h = (tt, h.1)
says_of_frames e all (Some OutputFirst) h = h
says_of_frames e all (Some NoMemory) h = h
