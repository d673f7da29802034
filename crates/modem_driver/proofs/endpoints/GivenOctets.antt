-- Octets that went out, and how that goes on.
use Rattle.std.proofs.Common.{ap, sym, ◌∙◌, subst}
use Rattle.std.proofs.lemmas.Bool.{and_from}
use Rattle.std.proofs.lemmas.List.{append_assoc, append-nil, drop-drop}
use Rattle.std.proofs.lemmas.List.Folds.{list_all-append}
use Rattle.std.specs.Prelude.{◌≡◌, ℕ, ◌+◌, Bool, true, false, List, [], ◌++◌, take, drop, refl, Option, None, Some, if◌then◌else◌}
use Rattle.std.specs.List.{list_all}
use Rattle.mux_frame.specs.Frames.{Frame}
use Rattle.modem_history.specs.Acts.{Sent, Given, after}
use Rattle.modem_history.specs.EveryTurn.{acts_out, goes_in}
use Rattle.modem_history.specs.GoingOut.{act_out}
use Rattle.mux_station.specs.GivenFrames.{Outgoing}
use Rattle.modem_driver.specs.EndpointSteps.{CopiesOut, GivesOut, MachineIsDrained, goes_out, with_sent}
use Rattle.modem_driver.specs.SendingSteps.{MachineSends}
use Rattle.modem_driver.specs.SessionStates.{Machine, MachineMoves}
use Rattle.modem_driver.specs.TurnSteps.{StandingFits, Leads, turn_state, view_of}
use Rattle.modem_driver.proofs.sessions.steps.LineOctets.{write_goes}
use Rattle.modem_driver.proofs.sessions.meanings.WholeTurns.{leads_on, leads_still}

-- the first octets that wait are given, and wait no more
pub copies : (old : Machine) (count : ℕ) → CopiesOut old (record old { unwritten = drop count old.unwritten }) (take count old.unwritten)
unfolding CopiesOut
copies old count l = write_goes l (with_sent l (take count old.unwritten)) old count refl refl refl

-- at first none went out
pub gives_none : (k : Machine) → GivesOut k k []
unfolding GivesOut Leads
gives_none k l d = record {
  acts = [];
  leads = λ b past f. subst (λ (xs : List ℕ). StandingFits b (turn_state (record l { sent = xs }) d k) past) (sym (append-nil l.sent)) f;
  are_out = λ b past f. refl;
}

act_goes_out : (f : Frame) (fresh : Bool) → goes_out (if fresh then Sent f else Given) ≡ true
act_goes_out f true = refl
act_goes_out f false = refl

one_out : (o : Option Outgoing) → list_all goes_out (acts_out o) ≡ true
one_out None = refl
one_out (Some o) = and_from (goes_out (act_out o)) true (act_goes_out o.frame o.fresh) refl

-- the next frame goes into the output, and no octets go out by that
pub gives_sent : (k0 k1 k2 : Machine) (xs : List ℕ) (moved : Bool) → GivesOut k0 k1 xs → MachineSends k1 k2 moved → GivesOut k0 k2 xs
unfolding GivesOut MachineSends Leads
gives_sent k0 k1 k2 xs moved gives sends l d =
    let p = gives l d in
    let s = sends (with_sent l xs) d in
    let mid = turn_state (with_sent l xs) d k1 in
    record {
      acts = p.acts ++ s.acts;
      leads = leads_on (turn_state l d k0) mid (turn_state (with_sent l xs) d k2) p.acts s.acts p.leads s.leads;
      are_out = λ b past f.
          let g = p.leads b past f in
          let here = ap (list_all goes_out) (s.acts_are b (after past p.acts) g) ∙ one_out (goes_in b (view_of mid) (after past p.acts)) in
          list_all-append goes_out p.acts s.acts ∙ and_from (list_all goes_out p.acts) (list_all goes_out s.acts) (p.are_out b past f) here;
    }

-- octets of it go out behind the others
pub gives_copied : (k0 k1 k2 : Machine) (xs ys : List ℕ) → GivesOut k0 k1 xs → CopiesOut k1 k2 ys → GivesOut k0 k2 (xs ++ ys)
unfolding GivesOut CopiesOut MachineMoves Leads
gives_copied k0 k1 k2 xs ys gives out l d =
    let p = gives l d in
    let m : Leads (turn_state (with_sent l xs) d k1) (turn_state (with_sent (with_sent l xs) ys) d k2) [] = λ b past f. out (with_sent l xs) b d past f in
    let all = leads_still (turn_state l d k0) (turn_state (with_sent l xs) d k1) (turn_state (with_sent (with_sent l xs) ys) d k2) p.acts p.leads m in
    record {
      acts = p.acts;
      leads = subst (λ (zs : List ℕ). Leads (turn_state l d k0) (turn_state (record l { sent = zs }) d k2) p.acts) (append_assoc l.sent xs ys) all;
      are_out = p.are_out;
    }

-- a frame was taken into the output, and octets of it went out
pub gives_more : (k0 k1 k2 k3 : Machine) (xs ys zs : List ℕ) (moved : Bool) → GivesOut k0 k1 xs → MachineSends k1 k2 moved → CopiesOut k2 k3 ys → zs ≡ xs ++ ys → GivesOut k0 k3 zs
gives_more k0 k1 k2 k3 xs ys zs moved gives sends out e =
    subst (GivesOut k0 k3) (sym e) (gives_copied k0 k2 k3 xs ys (gives_sent k0 k1 k2 xs moved gives sends) out)

-- where no octets wait then, nothing was left to go out
pub is_drained : (k0 k1 : Machine) (moved : Bool) → MachineSends k0 k1 moved → k1.unwritten ≡ [] → MachineIsDrained k1
unfolding MachineSends MachineIsDrained
is_drained k0 k1 moved sends none l d =
    let s = sends l d in
    record { written = none; idle = (s.idle none).1.1; none_left = s.none_left none }

-- what stands behind the octets copied stays
pub stays_behind : (place count : ℕ) (first room new : List ℕ) → drop place room ≡ drop place first → drop (place + count) new ≡ drop (place + count) room → drop (place + count) new ≡ drop (place + count) first
stays_behind place count first room new before here =
    let a : drop (place + count) room ≡ drop count (drop place room) = split room in
    let c : drop (place + count) first ≡ drop count (drop place first) = split first in
    here ∙ (a ∙ (ap (drop count) before ∙ sym c))
  where
    split : (xs : List ℕ) → drop (place + count) xs ≡ drop count (drop place xs)
    split xs = sym (drop-drop count place xs)
