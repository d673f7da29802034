-- What passes between the two.
use Rattle.std.specs.Prelude.{◌≡◌, ℕ, ◌<◌, ◌≤◌, List, length, take, drop, Option, None, refl}
use Rattle.std.proofs.Common.{subst, ◌∙◌, arith}
use Rattle.std.proofs.lemmas.List.{drop_all, take_all}
use Rattle.modem_desk.specs.Ends.{DriverView}
use Rattle.modem_history.specs.Sessions.{LineView}
use Rattle.modem_driver.specs.Endpoints.{EndpointState, GivesOctets, MachineSays, TakesOctets}
use Rattle.modem_driver.specs.EndpointLaws.{gave_octets, took_octets}
use Rattle.modem_driver.specs.EndpointSteps.{with_received, with_sent}
use Rattle.modem_driver.specs.declared.endpoint.Blocked.{Blocked}
use Rattle.modem_data.specs.Hops.{Relay, Handed, Took, Hops}
use Rattle.modem_data_endpoint.specs.Beside.{gave_in, took_out}
use Rattle.modem_data_endpoint.specs.Joined.{HandsOver, HandsAreSteps, TakesOver, TakesAreSteps}

all_of : (o : Option Blocked) (f : EndpointState) (n m : ℕ) → MachineSays f.machine (n ≡ m) o → o ≡ None → n ≡ m
all_of o f n m says e = (subst (λ (b : Option Blocked). MachineSays f.machine (n ≡ m) b) e says).0

none_of : (o : Option Blocked) (f : EndpointState) (n m : ℕ) → MachineSays f.machine (n ≡ m) o → o ≡ None → f.machine.deframer.next ≡ None
none_of o f n m says e = (subst (λ (b : Option Blocked). MachineSays f.machine (n ≡ m) b) e says).1

-- the endpoint took the first octets that waited for it, all of them unless it is blocked
pub hands_over : (r s : Relay) (e f : EndpointState) (n : ℕ) (blocked : Option Blocked) → Hops r s (Handed (take n r.to_driver)) → s.to_driver ≡ drop n r.to_driver → s.outer ≡ r.outer → ((l : LineView) (d : DriverView) → TakesOctets l d e f (take n r.to_driver) blocked) → MachineSays f.machine (n ≡ length r.to_driver) blocked → HandsOver r s e f blocked
hands_over r s e f n blocked hops rest same takes says = record {
  octets = take n r.to_driver;
  handed = hops;
  takes = takes;
  all = λ none. let m = all_of blocked f n (length r.to_driver) says none in take_all n r.to_driver (omega (arith, m));
  none_waits = λ none. let m = all_of blocked f n (length r.to_driver) says none in rest ∙ drop_all n r.to_driver (omega (arith, m));
  none_at_hand = none_of blocked f n (length r.to_driver) says;
  same = same;
}

-- one octet
one_there : (octets : List ℕ) (n : ℕ) → length octets ≡ 1 → n ≤ 1 → 0 < n → take n octets ≡ octets
one_there octets n one few some = take_all n octets (omega (arith, one, few, some))

-- the relay took one octet of the endpoint, where no frame of the driver was at hand
pub takes_over : (r s : Relay) (e f : EndpointState) (octets : List ℕ) (n m : ℕ) → r.inner.next ≡ None → length octets ≡ 1 → n ≤ 1 → 0 < n → m ≤ 1 → 0 < m → ((l : LineView) (d : DriverView) → GivesOctets l d e f (take n octets)) → Hops r s (Took (take m octets)) → TakesOver r s e f
takes_over r s e f octets n m none one few some low high gives took = record {
  octets = octets;
  some = omega (arith, one);
  none_at_hand = none;
  gives = λ l d. subst (λ xs. GivesOctets l d e f xs) (one_there octets n one few some) (gives l d);
  took = subst (λ xs. Hops r s (Took xs)) (one_there octets m one low high) took;
}

-- each handing over is a step of the two
pub hands_are_steps : HandsAreSteps
unfolding HandsAreSteps
hands_are_steps l d r s hops e f blocked h =
    gave_in (record { line = l; driver = d; endpoint = e }) (record { line = with_received l h.octets; driver = d; endpoint = f }) r s hops h.octets
    (took_octets l d e f h.octets blocked (h.takes l d)) refl refl h.handed

-- and so is each taking over
pub takes_are_steps : TakesAreSteps
unfolding TakesAreSteps
takes_are_steps l d r s hops e f h =
    took_out (record { line = l; driver = d; endpoint = e }) (record { line = with_sent l h.octets; driver = d; endpoint = f }) r s hops h.octets
    (gave_octets l d e f h.octets (h.gives l d)) refl refl h.took
