-- The joint list of a session and a simulated modem goes on.
use Rattle.std.proofs.Common.{◌∙◌, append_assoc, sym, subst, ap}
use Rattle.std.specs.Prelude.{◌≡◌, ℕ, nat_lt, ◌+◌, ◌||◌, List, [], ◌∷◌, ◌++◌, length, Option, None, Some, IfSome, Result, Ok, refl}
use Rattle.serial_line.specs.CutLine.{CutState, after_carry, carried, cut_view}
use Rattle.modem_history.specs.Acts as driver
use Rattle.modem_history.specs.Acts.{after}
use Rattle.modem_driver.specs.Polls.{SessionGoesOn}
use Rattle.modem_driver.specs.SessionStates.{FitsAll, SessionState}
use Rattle.modem_sim.specs.Acts as modem
use Rattle.modem_sim.specs.Acts.{End}
use Rattle.modem_sim.specs.Sims.{FitsSim, SimGoes, SimState}
use Rattle.one_modem.specs.OneModem.{AtDriver, EndAct, driver_past, modem_past}
use Rattle.one_modem.proofs.octets.LineGoesOn.{after_near, at_far}
use Rattle.modem_bench.specs.Rounds.{AreJoined, IsFull, IsLastRound, IsRound, JoinsOn, Pair, Says, carried_between, is_full, judged, moved_in, pair}
use Rattle.modem_bench.specs.declared.rounds.Rest.{Rest}
use Rattle.modem_bench.specs.declared.rounds.Rest.TheVariants.{Full}
use Rattle.modem_bench.specs.declared.signals.Fault.{Fault}

-- ## Acts of the driver

-- acts at the driver's end go on from the driver's past
pub near_past : (line : List EndAct) (acts : List driver.Act) → driver_past (after_near line acts) ≡ after (driver_past line) acts
near_past line [] = refl
near_past line (a ∷ acts) = near_past (AtDriver a ∷ line) acts

-- and leave the modem's as it is
pub near_other : (line : List EndAct) (acts : List driver.Act) → modem_past (after_near line acts) ≡ modem_past line
near_other line [] = refl
near_other line (a ∷ acts) = near_other (AtDriver a ∷ line) acts

-- and all that the list had before
pub near_joins : (line more : List EndAct) (acts : List driver.Act) → after_near (more ++ line) acts ≡ after_near more acts ++ line
near_joins line more [] = refl
near_joins line more (a ∷ acts) = near_joins line (AtDriver a ∷ more) acts

-- ## Acts of the modem

-- acts at the modem's end go on from the modem's past
pub far_past : (line : List EndAct) (acts : List modem.Act) → modem_past (at_far acts ++ line) ≡ acts ++ modem_past line
far_past line [] = refl
far_past line (a ∷ acts) = ap (λ (l : List modem.Act). a ∷ l) (far_past line acts)

-- and leave the driver's as it is
pub far_other : (line : List EndAct) (acts : List modem.Act) → driver_past (at_far acts ++ line) ≡ driver_past line
far_other line [] = refl
far_other line (a ∷ acts) = far_other line acts

-- ## It goes on

-- nothing happens at either end
pub joins_none : (p : Pair) → JoinsOn p p
unfolding JoinsOn
joins_none p b at e line j = record { newer = []; joined = j }

-- the list goes on by two steps
pub joins_then : (p q r : Pair) → JoinsOn p q → JoinsOn q r → JoinsOn p r
unfolding JoinsOn
joins_then p q r f g b at e line j =
    let one = f b at e line j in
    let two = g b at e (one.newer ++ line) one.joined in
    record { newer = two.newer ++ one.newer; joined = subst (λ (l : List EndAct). AreJoined b at e l r) (sym (append_assoc two.newer one.newer line)) two.joined }

-- it goes on where the session does
pub joins_near : (old new : SessionState CutState) (far : SimState CutState) → SessionGoesOn cut_view old new → JoinsOn (pair old far) (pair new far)
unfolding SessionGoesOn JoinsOn
joins_near old new far goes b at e line j =
    let now : AreJoined b at e (after_near line goes.acts) (pair new far) = record {
      near = subst (FitsAll b cut_view new) (sym (near_past line goes.acts)) (goes.goes b (driver_past line) j.near);
      far = subst (FitsSim cut_view at e far) (sym (near_other line goes.acts)) j.far;
    } in
    record { newer = after_near [] goes.acts; joined = subst (λ (l : List EndAct). AreJoined b at e l (pair new far)) (near_joins line [] goes.acts) now }

-- and where the modem does
pub joins_far : (near : SessionState CutState) (old new : SimState CutState) → SimGoes cut_view old new → JoinsOn (pair near old) (pair near new)
unfolding JoinsOn
joins_far near old new goes b at e line j =
    let from = goes at e (modem_past line) j.far in
    let newer = from.later.newer in
    record {
      newer = at_far newer;
      joined = record {
        near = subst (FitsAll b cut_view near) (sym (far_other line newer)) j.near;
        far = subst (FitsSim cut_view at e new) (sym (far_past line newer ∙ from.later.joins)) from.fits;
      };
    }

-- what octets are under way is in no history
pub joins_carried : (cut : ℕ) (p : Pair) → JoinsOn p (carried_between cut p)
unfolding JoinsOn
joins_carried cut p b at e line j = record {
  newer = [];
  joined = record {
    near = j.near;
    far = record {
      came = j.far.came;
      went = j.far.went;
      received_is = j.far.received_is;
      sent_is = j.far.sent_is;
      machine_fits = j.far.machine_fits;
    };
  };
}

-- the same of lines taken out and put back
pub joins_carried_so : (cut : ℕ) (near : SessionState CutState) (far : SimState CutState) (a b c d : CutState) → a ≡ near.line → b ≡ far.line → c ≡ after_carry cut a b → d ≡ after_carry cut b a
    → JoinsOn (pair near far) (pair (record near { line = c }) (record far { line = d }))
joins_carried_so cut near far a b c d here there carried back =
    let one : c ≡ after_carry cut near.line far.line = carried ∙ (λ i. after_carry cut (here i) (there i)) in
    let two : d ≡ after_carry cut far.line near.line = back ∙ (λ i. after_carry cut (there i) (here i)) in
    subst (λ (x : CutState × CutState). JoinsOn (pair near far) (pair (record near { line = x.0 }) (record far { line = x.1 }))) (λ i. (sym one i, sym two i)) (joins_carried cut (pair near far))

-- whether octets moved, by the numbers that tell it
pub moved_so : (cut n before later : ℕ) (near far last a b : CutState) → a ≡ near → b ≡ far → n ≡ carried cut a b + carried cut b a → before ≡ length far.sent → later ≡ length last.sent
    → (nat_lt 0 n || nat_lt before later) ≡ moved_in cut near far last
moved_so cut n before later near far last a b here there count first then =
    let both : n ≡ carried cut near far + carried cut far near = count ∙ (λ i. carried cut (here i) (there i) + carried cut (there i) (here i)) in
    λ i. nat_lt 0 (both i) || nat_lt (first i) (then i)

-- ## The last round

-- a round that ends nothing is the last where it is answered that a line is full
pub last_full : (cut room : ℕ) (old mid new : Pair) (says : Says) (r : Option (Result Rest Fault)) → IsRound cut old mid says → judged says ≡ None → new ≡ mid
    → IfSome r (λ end. end ≡ Ok Full) → IfSome r (λ _. IsFull room mid) → IfSome r (IsLastRound cut room old new)
last_full cut room old mid new says None round none same ends full = tt
last_full cut room old mid new says (Some end) round none same ends full =
    subst (λ (x : Pair × Result Rest Fault). IsLastRound cut room old x.0 x.1) (λ i. (sym same i, sym ends i)) (is_full says round none full)
