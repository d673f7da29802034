-- Octets that came, and frames that were handled, and how that goes on.
use Rattle.std.proofs.Common.{ap, sym, ◌∙◌, subst, arith}
use Rattle.std.proofs.Math.Seq.{take-add, drop-length}
use Rattle.std.proofs.lemmas.Bool.{and_from}
use Rattle.std.proofs.lemmas.List.{append_assoc, append-nil, take_all}
use Rattle.std.proofs.lemmas.List.Folds.{list_all-append}
use Rattle.std.specs.Prelude.{◌≡◌, ℕ, ◌+◌, Bool, true, false, List, [], ◌++◌, length, take, drop, refl, Some, is_some}
use Rattle.std.specs.List.{list_all}
use Rattle.mux_frame.specs.Frames.{Frame}
use Rattle.mux_frame.specs.Deframing.{Deframing, TakesIn}
use Rattle.modem_history.specs.Acts.{after}
use Rattle.modem_history.specs.Turns.{may_act}
use Rattle.modem_driver.specs.EndpointSteps.{FeedsFrom, HandLacksRoom, HandlesFrames, LacksRoomFor, Passes, TakesFrom, with_received}
use Rattle.modem_driver.specs.GettingSteps.{MachineGets}
use Rattle.modem_driver.specs.SessionStates.{Machine, MachineMoves, MachineGoes}
use Rattle.modem_driver.specs.TurnSteps.{TurnState, StandingFits, Leads, AddsAll, turn_state}
use Rattle.modem_driver.proofs.sessions.steps.LineOctets.{read_goes, feed_goes}
use Rattle.modem_driver.proofs.sessions.meanings.WholeTurns.{leads_on, leads_still}

-- ## One after the other

-- what passes by some acts, and then by others, passes by both
pub passes_both : (s0 s1 s2 : TurnState) → Passes s0 s1 → Passes s1 s2 → Passes s0 s2
unfolding Leads
passes_both s0 s1 s2 p q = record {
  acts = p.acts ++ q.acts;
  leads = leads_on s0 s1 s2 p.acts q.acts p.leads q.leads;
  may = λ waiting b past f.
      list_all-append (may_act waiting) p.acts q.acts
      ∙ and_from (list_all (may_act waiting) p.acts) (list_all (may_act waiting) q.acts) (p.may waiting b past f) (q.may waiting b (after past p.acts) (p.leads b past f));
}

-- ## Frames at hand

-- at first no frame was handled
pub handles_none : (k : Machine) → HandlesFrames k k
unfolding HandlesFrames Leads
handles_none k l d = record { acts = []; leads = λ b past f. f; may = λ waiting b past f. refl }

-- one more is handled, or stays
pub handles_one : (k0 k1 k2 : Machine) (moved : Bool) → HandlesFrames k0 k1 → MachineGets k1 k2 moved → HandlesFrames k0 k2
unfolding HandlesFrames MachineGets AddsAll
handles_one k0 k1 k2 moved handles gets l d =
    let g = gets l d in
    passes_both (turn_state l d k0) (turn_state l d k1) (turn_state l d k2) (handles l d) (record {
      acts = g.acts;
      leads = g.leads;
      may = λ waiting b past f. (g.adds waiting b past f).may;
    })

-- one that wasn't handled lacks room
pub hand_lacks : (k0 k1 : Machine) → MachineGets k0 k1 false → HandLacksRoom k1
unfolding MachineGets HandLacksRoom
hand_lacks k0 k1 gets l d =
    let g = gets l d in
    subst (λ (s : TurnState). (f : Frame) → s.machine.deframer.next ≡ Some f → LacksRoomFor s f) (sym (g.still refl).1)
    (λ f at_hand. record { busy = (g.no_room f refl at_hand).0; full = (g.no_room f refl at_hand).1 })

-- where none is at hand, none lacks room
pub none_lacks : (k : Machine) → is_some k.deframer.next ≡ false → HandLacksRoom k
unfolding HandLacksRoom
none_lacks k none l d f at_hand = absurd (apart (sym none ∙ ap is_some at_hand))
  where
    apart : false ≡ true → ⊥
    apart e = cc

-- ## Octets

-- where none wait, octets that come go into the deframer
pub feeds : (old : Machine) (fed : Deframing) (octets : List ℕ) → old.unfed ≡ [] → TakesIn old.deframer octets fed → fed.n1 ≡ old.deframer.n1 → FeedsFrom old (record old { unfed = []; deframer = fed }) octets
unfolding FeedsFrom MachineMoves MachineGoes
feeds old fed octets none takes bound l b d past f =
    let m = with_received l octets in
    let read : Machine = record old { unfed = octets } in
    let all : take (length octets) octets ≡ octets = take_all (length octets) octets (omega arith) in
    let inn : TakesIn old.deframer (take (length octets) octets) fed = subst (λ (xs : List ℕ). TakesIn old.deframer xs fed) (sym all) takes in
    let g = read_goes l m old octets none refl refl refl b d past f in
    let h = feed_goes read fed (length octets) inn bound b m d past g in
    subst (λ (xs : List ℕ). StandingFits b (turn_state m d (record old { unfed = xs; deframer = fed })) past) (drop-length octets) h

-- at first none came
pub no_octets_taken : (k : Machine) → TakesFrom k k []
unfolding TakesFrom Leads
no_octets_taken k l d = record {
  acts = [];
  leads = λ b past f. subst (λ (xs : List ℕ). StandingFits b (turn_state (record l { received = xs }) d k) past) (sym (append-nil l.received)) f;
  may = λ waiting b past f. refl;
}

-- frames that they bring are handled
pub takes_handled : (k0 k1 k2 : Machine) (xs : List ℕ) → TakesFrom k0 k1 xs → HandlesFrames k1 k2 → TakesFrom k0 k2 xs
unfolding TakesFrom HandlesFrames
takes_handled k0 k1 k2 xs takes handles l d =
    passes_both (turn_state l d k0) (turn_state (with_received l xs) d k1) (turn_state (with_received l xs) d k2) (takes l d) (handles (with_received l xs) d)

takes_fed : (k0 k1 k2 : Machine) (xs ys : List ℕ) → TakesFrom k0 k1 xs → FeedsFrom k1 k2 ys → TakesFrom k0 k2 (xs ++ ys)
unfolding TakesFrom FeedsFrom MachineMoves Leads
takes_fed k0 k1 k2 xs ys takes fed l d =
    let p = takes l d in
    let m : Leads (turn_state (with_received l xs) d k1) (turn_state (with_received (with_received l xs) ys) d k2) [] = λ b past f. fed (with_received l xs) b d past f in
    let all = leads_still (turn_state l d k0) (turn_state (with_received l xs) d k1) (turn_state (with_received (with_received l xs) ys) d k2) p.acts p.leads m in
    record {
      acts = p.acts;
      leads = subst (λ (zs : List ℕ). Leads (turn_state l d k0) (turn_state (record l { received = zs }) d k2) p.acts) (append_assoc l.received xs ys) all;
      may = p.may;
    }

-- the octets behind those taken came
pub takes_more : (k0 k1 k2 : Machine) (octets : List ℕ) (taken count : ℕ) → TakesFrom k0 k1 (take taken octets) → FeedsFrom k1 k2 (take count (drop taken octets)) → TakesFrom k0 k2 (take (taken + count) octets)
takes_more k0 k1 k2 octets taken count takes fed =
    subst (TakesFrom k0 k2) (sym (take-add taken count octets)) (takes_fed k0 k1 k2 (take taken octets) (take count (drop taken octets)) takes fed)
