-- The calls of a relay and an endpoint as one value are steps of the two.
use Rattle.std.specs.Prelude.{◌≡◌, ◌≢◌, ◌⊎◌, ℕ, ◌<◌, Bool, true, false, List, [], ◌∷◌, ◌++◌, length, take, Option, None, refl}
use Rattle.std.specs.List.{list_all, list_any}
use Rattle.std.proofs.Common.{ap, sym, ◌∙◌, subst, arith, inl, inr}
use Rattle.std.proofs.lemmas.Bool.{and_from}
use Rattle.std.proofs.lemmas.List.{append_assoc, append-nil}
use Rattle.std.proofs.lemmas.List.Folds.{list_all-append}
use Rattle.modem_desk.specs.Ends.{DriverView}
use Rattle.modem_history.specs.Sessions.{LineView}
use Rattle.modem_driver.specs.Endpoints.{EndpointState, GivesOctets, HoldsNothingBack}
use Rattle.modem_driver.specs.EndpointLaws.{gave_octets}
use Rattle.modem_driver.specs.EndpointSteps.{with_received, with_sent}
use Rattle.modem_driver.specs.declared.endpoint.Blocked.{Blocked}
use Rattle.modem_data.specs.Passing.{Came, Went, Flowed, Left}
use Rattle.modem_data.specs.Hops.{Relay, Hop, Fed, Handed, Took, Wrote, Passed, Hops, HoldsNothing, LineIn, DriverOut, still_there, driver_out, OneOut, still_out, went_out, flow_out, left_out, fed, handed_over, taken, wrote, is_line_in}
use Rattle.modem_data_endpoint.specs.Beside.{Both, Step, Steps, DataLaw, called, relayed, came_in, no_step, more_steps, is_joint}
use Rattle.modem_data_endpoint.specs.Joined.{HandsOver, TakesOver, HandsAreSteps, TakesAreSteps}
use Rattle.modem_data_endpoint.specs.Pairs.{Pair, joined, seen, is_inward, is_outward, is_beside, CarriesIn, TakesAll, CarriesOut, NextOut, took_one, relay_first, none_behind, PairCall, took_line, gave_line, of_endpoint, of_lanes, PairCalls, no_call, more_calls, PairLaw}
use Rattle.modem_data_endpoint.proofs.Besides.{none_in}
use Rattle.modem_data_endpoint.proofs.Joins.{hands_are_steps, takes_are_steps}

-- ## One behind the other

steps_then : (x y z : Both) → Steps x y → Steps y z → Steps x z
steps_then x y _ a (no_step _) = a
steps_then x y z a (more_steps _ v _ b s) = more_steps x v z (steps_then x y v a b) s

one_step : (x y : Both) → Step x y → Steps x y
one_step x y s = more_steps x x y (no_step x) s

seen_at : (l m : LineView) (d : DriverView) (hops more : List Hop) (z : Pair) (w : Both) → l ≡ m → hops ≡ more → Steps w (seen l d hops z) → Steps w (seen m d more z)
seen_at l m d hops more z w e f s = subst (λ (k : LineView). Steps w (seen k d more z)) e (subst (λ (hs : List Hop). Steps w (seen l d hs z)) f s)

fed_both : (hs past : List Hop) → fed (hs ++ past) ≡ fed past ++ fed hs
fed_both [] past = sym (append-nil (fed past))
fed_both (Fed o ∷ hs) past = ap (λ (xs : List ℕ). xs ++ o) (fed_both hs past) ∙ append_assoc (fed past) (fed hs) o
fed_both (Handed o ∷ hs) past = fed_both hs past
fed_both (Took o ∷ hs) past = fed_both hs past
fed_both (Wrote o ∷ hs) past = fed_both hs past
fed_both (Passed p ∷ hs) past = fed_both hs past

handed_both : (hs past : List Hop) → handed_over (hs ++ past) ≡ handed_over past ++ handed_over hs
handed_both [] past = sym (append-nil (handed_over past))
handed_both (Fed o ∷ hs) past = handed_both hs past
handed_both (Handed o ∷ hs) past = ap (λ (xs : List ℕ). xs ++ o) (handed_both hs past) ∙ append_assoc (handed_over past) (handed_over hs) o
handed_both (Took o ∷ hs) past = handed_both hs past
handed_both (Wrote o ∷ hs) past = handed_both hs past
handed_both (Passed p ∷ hs) past = handed_both hs past

taken_both : (hs past : List Hop) → taken (hs ++ past) ≡ taken past ++ taken hs
taken_both [] past = sym (append-nil (taken past))
taken_both (Fed o ∷ hs) past = taken_both hs past
taken_both (Handed o ∷ hs) past = taken_both hs past
taken_both (Took o ∷ hs) past = ap (λ (xs : List ℕ). xs ++ o) (taken_both hs past) ∙ append_assoc (taken past) (taken hs) o
taken_both (Wrote o ∷ hs) past = taken_both hs past
taken_both (Passed p ∷ hs) past = taken_both hs past

all_both : (p : Hop → Bool) (xs ys : List Hop) → list_all p xs ≡ true → list_all p ys ≡ true → list_all p (xs ++ ys) ≡ true
all_both p xs ys a b = list_all-append p xs ys ∙ and_from (list_all p xs) (list_all p ys) a b

received_none : (l : LineView) → l ≡ with_received l []
received_none l = ap (λ (xs : List ℕ). record l { received = xs }) (sym (append-nil l.received))

sent_none : (l : LineView) → l ≡ with_sent l []
sent_none l = ap (λ (xs : List ℕ). record l { sent = xs }) (sym (append-nil l.sent))

-- ## Octets of the line

takes_then : (x y z : Pair) (o p : List ℕ) → CarriesIn x y o → CarriesIn y z p → CarriesIn x z (o ++ p)
takes_then x y z o p a b = record {
  hops = b.hops ++ a.hops;
  only = all_both is_inward b.hops a.hops b.only a.only;
  fed_are = fed_both b.hops a.hops ∙ (ap (λ (xs : List ℕ). xs ++ fed b.hops) a.fed_are ∙ ap (λ (xs : List ℕ). o ++ xs) b.fed_are);
  steps = λ l d past.
      let m = with_received l (handed_over a.hops) in
      let both : with_received m (handed_over b.hops) ≡ with_received l (handed_over (b.hops ++ a.hops)) = ap (λ (xs : List ℕ). record l { received = xs }) (append_assoc l.received (handed_over a.hops) (handed_over b.hops)) ∙ ap (λ (xs : List ℕ). with_received l xs) (sym (handed_both b.hops a.hops)) in
      let next = b.steps m d (a.hops ++ past) in
      steps_then (seen l d past x) (seen m d (a.hops ++ past) y) (seen (with_received l (handed_over (b.hops ++ a.hops))) d ((b.hops ++ a.hops) ++ past) z) (a.steps l d past)
      (seen_at (with_received m (handed_over b.hops)) (with_received l (handed_over (b.hops ++ a.hops))) d (b.hops ++ (a.hops ++ past)) ((b.hops ++ a.hops) ++ past) z (seen m d (a.hops ++ past) y) both (sym (append_assoc b.hops a.hops past)) next);
}

hands : (r s : Relay) (e f : EndpointState) (blocked : Option Blocked) → HandsOver r s e f blocked → CarriesIn (joined e r) (joined f s) []
unfolding HandsAreSteps
hands r s e f blocked h = record {
  hops = Handed h.octets ∷ [];
  only = refl;
  fed_are = refl;
  steps = λ l d past. one_step (seen l d past (joined e r)) (seen (with_received l h.octets) d (Handed h.octets ∷ past) (joined f s)) (hands_are_steps l d r s past e f blocked h);
}

line_inward : (hs : List Hop) → list_all is_line_in hs ≡ true → list_all is_inward hs ≡ true
line_inward [] e = refl
line_inward (Fed o ∷ hs) e = line_inward hs e
line_inward (Handed o ∷ hs) e = cc
line_inward (Took o ∷ hs) e = cc
line_inward (Wrote o ∷ hs) e = cc
line_inward (Passed (Came f) ∷ hs) e = line_inward hs e
line_inward (Passed p ∷ hs) e = cc

comes : (e : EndpointState) (r s : Relay) (octets : List ℕ) → LineIn r s octets → CarriesIn (joined e r) (joined e s) octets
comes e r s octets h = record {
  hops = h.hops;
  only = line_inward h.hops h.only;
  fed_are = h.fed_are;
  steps = λ l d past.
      let none : handed_over h.hops ≡ [] = subst (λ (hs : List Hop). handed_over hs ≡ []) (append-nil h.hops) (none_in h.hops [] h.only) in
      let same : l ≡ with_received l (handed_over h.hops) = received_none l ∙ ap (λ (xs : List ℕ). with_received l xs) (sym none) in
      seen_at l (with_received l (handed_over h.hops)) d (h.hops ++ past) (h.hops ++ past) (joined e s) (seen l d past (joined e r)) same refl
      (one_step (seen l d past (joined e r)) (seen l d (h.hops ++ past) (joined e s)) (came_in (record { line = l; driver = d; endpoint = e }) r s past octets h));
}

-- the endpoint took of what waited already, and none of the line's octets
pub takes_blocked : (r s : Relay) (e f : EndpointState) (blocked : Option Blocked) (octets : List ℕ) → HandsOver r s e f blocked → CarriesIn (joined e r) (joined f s) (take 0 octets)
takes_blocked r s e f blocked octets h = hands r s e f blocked h

-- it took of what waited, then octets came from the line, and it took of those
pub takes_on : (r m n s : Relay) (e f g : EndpointState) (first last : Option Blocked) (octets : List ℕ) → HandsOver r m e f first → LineIn m n octets → HandsOver n s f g last → CarriesIn (joined e r) (joined g s) octets
takes_on r m n s e f g first last octets a b c =
    let one = takes_then (joined e r) (joined f m) (joined f n) [] octets (hands r m e f first a) (comes f m n octets b) in
    subst (λ (xs : List ℕ). CarriesIn (joined e r) (joined g s) xs) (append-nil octets) (takes_then (joined e r) (joined f n) (joined g s) octets [] one (hands n s f g last c))

-- where neither is blocked in the end, all is taken
pub takes_all : (n s : Relay) (f g : EndpointState) (last : Option Blocked) → HandsOver n s f g last → n.outer.next ≡ None → last ≡ None → TakesAll (joined g s)
takes_all n s f g last c none all = record {
  none_at_relay = subst (λ o. o.next ≡ None) (sym c.same) none;
  none_waits = c.none_waits all;
  none_at_hand = c.none_at_hand all;
}

-- ## Octets for the line

-- by these hops, newest first, and by what the endpoint gave, one goes on to the other
abbrev Outs : List Hop → Pair → Pair → Type 0
Outs hops x y = (l : LineView) (d : DriverView) (past : List Hop) → Steps (seen l d past x) (seen (with_sent l (taken hops)) d (hops ++ past) y)

outs_then : (a b : List Hop) (x y z : Pair) → Outs a x y → Outs b y z → Outs (b ++ a) x z
outs_then a b x y z first second l d past =
    let m = with_sent l (taken a) in
    let both : with_sent m (taken b) ≡ with_sent l (taken (b ++ a)) = ap (λ (xs : List ℕ). record l { sent = xs }) (append_assoc l.sent (taken a) (taken b)) ∙ ap (λ (xs : List ℕ). with_sent l xs) (sym (taken_both b a)) in
    steps_then (seen l d past x) (seen m d (a ++ past) y) (seen (with_sent l (taken (b ++ a))) d ((b ++ a) ++ past) z) (first l d past)
    (seen_at (with_sent m (taken b)) (with_sent l (taken (b ++ a))) d (b ++ (a ++ past)) ((b ++ a) ++ past) z (seen m d (a ++ past) y) both (sym (append_assoc b a past)) (second m d (a ++ past)))

outs_none : (x : Pair) → Outs [] x x
outs_none x l d past = seen_at l (with_sent l []) d past past x (seen l d past x) (sent_none l) refl (no_step (seen l d past x))

outs_hop : (a : Hop) (e : EndpointState) (r s : Relay) → is_joint a ≡ false → taken (a ∷ []) ≡ [] → Hops r s a → Outs (a ∷ []) (joined e r) (joined e s)
outs_hop a e r s apart none leads l d past =
    seen_at l (with_sent l (taken (a ∷ []))) d (a ∷ past) (a ∷ past) (joined e s) (seen l d past (joined e r)) (sent_none l ∙ ap (λ (xs : List ℕ). with_sent l xs) (sym none)) refl
    (one_step (seen l d past (joined e r)) (seen l d (a ∷ past) (joined e s)) (relayed (record { line = l; driver = d; endpoint = e }) r s past a apart leads))

outs_took : (r s : Relay) (e f : EndpointState) (h : TakesOver r s e f) → Outs (Took h.octets ∷ []) (joined e r) (joined f s)
unfolding TakesAreSteps
outs_took r s e f h l d past = one_step (seen l d past (joined e r)) (seen (with_sent l h.octets) d (Took h.octets ∷ past) (joined f s)) (takes_are_steps l d r s past e f h)

outs_called : (r : Relay) (e f : EndpointState) → ((l : LineView) (d : DriverView) → GivesOctets l d e f []) → Outs [] (joined e r) (joined f r)
outs_called r e f gives l d past =
    seen_at (with_sent l []) (with_sent l []) d past past (joined f r) (seen l d past (joined e r)) refl refl
    (one_step (seen l d past (joined e r)) (seen (with_sent l []) d past (joined f r)) (called (record { line = l; driver = d; endpoint = e }) (record { line = with_sent l []; driver = d; endpoint = f }) r past (gave_octets l d e f [] (gives l d)) refl (append-nil l.sent)))

-- the hops of the three parts, and what they come to
by_parts : (hops : List Hop) (x y : Pair) (octets : List ℕ) (more : Bool) → Outs hops x y → list_all is_outward hops ≡ true → wrote hops ≡ octets → (list_any is_beside hops ≡ true → HoldsNothingBack y.endpoint) → (more ≡ true → 0 < length (taken hops)) → CarriesOut x y octets more
by_parts hops x y octets more outs only wrote_are behind some = record {
  hops = hops;
  only = only;
  wrote_are = wrote_are;
  behind_all = behind;
  some = some;
  steps = outs;
}

-- the last hop: octets are written
outs_wrote : (hops : List Hop) (x : Pair) (e : EndpointState) (n s : Relay) (octets : List ℕ) → Outs hops x (joined e n) → Hops n s (Wrote octets) → Outs (Wrote octets ∷ hops) x (joined e s)
outs_wrote hops x e n s octets outs leads = outs_then hops (Wrote octets ∷ []) x (joined e n) (joined e s) outs (outs_hop (Wrote octets) e n s refl refl leads)

-- a frame goes on
outs_passed : (hops : List Hop) (x : Pair) (e : EndpointState) (m n : Relay) (a : Hop) → is_joint a ≡ false → taken (a ∷ []) ≡ [] → Outs hops x (joined e m) → Hops m n a → Outs (a ∷ hops) x (joined e n)
outs_passed hops x e m n a apart none outs leads = outs_then hops (a ∷ []) x (joined e m) (joined e n) outs (outs_hop a e m n apart none leads)

same_relay : (hops : List Hop) (x : Pair) (e : EndpointState) (m n : Relay) → n ≡ m → Outs hops x (joined e m) → Outs hops x (joined e n)
same_relay hops x e m n q outs = subst (λ (k : Relay). Outs hops x (joined e k)) (sym q) outs

-- what is next for the line waits there, and the line takes some of it
pub gives : (x y : Pair) (s : Relay) (octets : List ℕ) (more : Bool) → NextOut x y more → Hops y.relay s (Wrote octets) → CarriesOut x (joined y.endpoint s) octets more
gives x y s octets _ (took_one m h (still_there q)) leads =
    let first = same_relay (Took h.octets ∷ []) x y.endpoint m y.relay q (outs_took x.relay m x.endpoint y.endpoint h) in
    by_parts (Wrote octets ∷ Took h.octets ∷ []) x (joined y.endpoint s) octets true (outs_wrote (Took h.octets ∷ []) x y.endpoint y.relay s octets first leads) refl refl (λ (q : false ≡ true). cc) (λ q. h.some)
gives x y s octets _ (took_one m h (driver_out b)) leads =
    let first = outs_passed (Took h.octets ∷ []) x y.endpoint m y.relay (Passed (Went b.frame)) refl refl (outs_took x.relay m x.endpoint y.endpoint h) b.leads in
    by_parts (Wrote octets ∷ Passed (Went b.frame) ∷ Took h.octets ∷ []) x (joined y.endpoint s) octets true (outs_wrote (Passed (Went b.frame) ∷ Took h.octets ∷ []) x y.endpoint y.relay s octets first leads) refl refl (λ (q : false ≡ true). cc) (λ q. h.some)
gives x y s octets _ (relay_first e (still_there q)) leads =
    let first : Outs [] x (joined y.endpoint y.relay) = subst (λ (f : EndpointState). Outs [] x (joined f y.relay)) (sym e) (same_relay [] x x.endpoint x.relay y.relay q (outs_none x)) in
    by_parts (Wrote octets ∷ []) x (joined y.endpoint s) octets false (outs_wrote [] x y.endpoint y.relay s octets first leads) refl refl (λ (q : false ≡ true). cc) (λ (q : false ≡ true). cc)
gives x y s octets _ (relay_first e (driver_out b)) leads =
    let first : Outs (Passed (Went b.frame) ∷ []) x (joined y.endpoint y.relay) = subst (λ (f : EndpointState). Outs (Passed (Went b.frame) ∷ []) x (joined f y.relay)) (sym e) (outs_passed [] x x.endpoint x.relay y.relay (Passed (Went b.frame)) refl refl (outs_none x) b.leads) in
    by_parts (Wrote octets ∷ Passed (Went b.frame) ∷ []) x (joined y.endpoint s) octets false (outs_wrote (Passed (Went b.frame) ∷ []) x y.endpoint y.relay s octets first leads) refl refl (λ (q : false ≡ true). cc) (λ (q : false ≡ true). cc)
gives x y s octets _ (none_behind g none (still_out q)) leads =
    let first = same_relay [] x y.endpoint x.relay y.relay q (outs_called x.relay x.endpoint y.endpoint g) in
    by_parts (Wrote octets ∷ []) x (joined y.endpoint s) octets false (outs_wrote [] x y.endpoint y.relay s octets first leads) refl refl (λ q. none) (λ (q : false ≡ true). cc)
gives x y s octets _ (none_behind g none (went_out b)) leads =
    let first = outs_passed [] x y.endpoint x.relay y.relay (Passed (Went b.frame)) refl refl (outs_called x.relay x.endpoint y.endpoint g) b.leads in
    by_parts (Wrote octets ∷ Passed (Went b.frame) ∷ []) x (joined y.endpoint s) octets false (outs_wrote (Passed (Went b.frame) ∷ []) x y.endpoint y.relay s octets first leads) refl refl (λ q. none) (λ (q : false ≡ true). cc)
gives x y s octets _ (none_behind g none (flow_out b)) leads =
    let first = outs_passed [] x y.endpoint x.relay y.relay (Passed (Flowed b.frame)) refl refl (outs_called x.relay x.endpoint y.endpoint g) b.leads in
    by_parts (Wrote octets ∷ Passed (Flowed b.frame) ∷ []) x (joined y.endpoint s) octets false (outs_wrote (Passed (Flowed b.frame) ∷ []) x y.endpoint y.relay s octets first leads) refl refl (λ q. none) (λ (q : false ≡ true). cc)
gives x y s octets _ (none_behind g none (left_out b)) leads =
    let first = outs_passed [] x y.endpoint x.relay y.relay (Passed (Left b.frame)) refl refl (outs_called x.relay x.endpoint y.endpoint g) b.leads in
    by_parts (Wrote octets ∷ Passed (Left b.frame) ∷ []) x (joined y.endpoint s) octets false (outs_wrote (Passed (Left b.frame) ∷ []) x y.endpoint y.relay s octets first leads) refl refl (λ q. none) (λ (q : false ≡ true). cc)

-- an octet of the endpoint's is next
pub next_took : (r m n : Relay) (e f : EndpointState) → TakesOver r m e f → DriverOut m n → NextOut (joined e r) (joined f n) true
next_took r m n e f h out = took_one m h out

-- the driver's frame at the relay is next
pub next_first : (r m n : Relay) (e f : EndpointState) → m ≡ r → f ≡ e → DriverOut m n → NextOut (joined e r) (joined f n) false
next_first r m n e f same still out = relay_first still (subst (λ (k : Relay). DriverOut k n) same out)

-- the endpoint has none, and a frame of the relay's own may be next
pub next_behind : (r m n : Relay) (e f : EndpointState) → m ≡ r → ((l : LineView) (d : DriverView) → GivesOctets l d e f []) → HoldsNothingBack f → OneOut m n → NextOut (joined e r) (joined f n) false
next_behind r m n e f same g none out = none_behind g none (subst (λ (k : Relay). OneOut k n) same out)

-- one of the driver's waits: so octets wait for the line
pub never_first : (r m n : Relay) (f : EndpointState) (said : Bool) → (0 < length r.to_line) ⊎ (r.inner.next ≢ None) → m ≡ r → (said ≡ true → 0 < length n.to_line) → (said ≡ false → (length m.to_line ≡ 0) × (m.inner.next ≡ None)) → length n.to_line ≡ 0 → HoldsNothingBack f × HoldsNothing n
never_first r m n f true first same some none empty = let x = some refl in absurd (omega (arith, x, empty))
never_first r m n f false (inl a) same some none empty = let x = subst (λ (k : Relay). length k.to_line ≡ 0) same (none refl).0 in absurd (omega (arith, x, a))
never_first r m n f false (inr b) same some none empty = absurd (b (subst (λ (k : Relay). k.inner.next ≡ None) same (none refl).1))

-- the endpoint has none: where nothing waits for the line, nothing is held back
pub idle_behind : (n : Relay) (f : EndpointState) (said : Bool) → HoldsNothingBack f → (said ≡ true → 0 < length n.to_line) → (said ≡ false → HoldsNothing n) → length n.to_line ≡ 0 → HoldsNothingBack f × HoldsNothing n
idle_behind n f true none some idle empty = let x = some refl in absurd (omega (arith, x, empty))
idle_behind n f false none some idle empty = (none, idle refl)

-- a call that gave no octets, though there was room, left nothing held back
pub idles : (n s : Relay) (f : EndpointState) (count room : ℕ) (more : Bool) → (more ≡ false → length n.to_line ≡ 0 → HoldsNothingBack f × HoldsNothing n) → (count ≡ 0 → s ≡ n) → (count ≡ 0 → 0 < room → length n.to_line ≡ 0) → count ≡ 0 → more ≡ false → 0 < room → HoldsNothingBack f × HoldsNothing s
idles n s f count room more idle same empty none over some =
    let both = idle over (empty none some) in
    (both.0, subst HoldsNothing (sym (same none)) both.1)

-- ## The law

call_steps : (x y : Both) → PairCall x y → Steps x y
call_steps _ _ (took_line l d past x y octets h) = h.steps l d past
call_steps _ _ (gave_line l d past x y octets more h) = h.steps l d past
call_steps _ _ (of_endpoint w v r past c i o) = one_step (record { world = w; relay = r; hops = past }) (record { world = v; relay = r; hops = past }) (called w v r past c i o)
call_steps _ _ (of_lanes w r s past a e leads) = one_step (record { world = w; relay = r; hops = past }) (record { world = w; relay = s; hops = Passed a ∷ past }) (relayed w r s past (Passed a) refl leads)

all_steps : (x y : Both) → PairCalls x y → Steps x y
all_steps x _ (no_call _) = no_step x
all_steps x z (more_calls _ y _ before one) = steps_then x y z (all_steps x y before) (call_steps y z one)

-- what holds of relay and endpoint beside one another holds of the two as one value
pub pair_law : DataLaw → PairLaw
unfolding DataLaw PairLaw
pair_law law dialect n1 ds kinds x y same some high begins starts none calls = law dialect n1 ds kinds x y same some high begins starts none (all_steps x y calls)
