-- Once the line is lost no connection is open.
use Rattle.std.specs.Prelude.{◌≡◌, ℕ, ◌&&◌, ◌||◌, not, Bool, true, false, List, [], ◌∷◌, refl}
use Rattle.std.proofs.Common.{ap, ◌∙◌}
use Rattle.std.proofs.Math.Bool.{and-false}
use Rattle.mux_frame.specs.Frames.{Frame}
use Rattle.mux_frame.specs.declared.frame.Kind.TheVariants.{Ua}
use Rattle.mux_station.specs.declared.role.Role.TheVariants.{Initiator}
use Rattle.mux_station.specs.Acts as station
use Rattle.mux_station.specs.Written.{is_on}
use Rattle.mux_station.specs.Opening.{asks, belongs, ends, is_asked, is_mode_frame, is_open, opens_now}
use Rattle.mux_station.proofs.states.OpeningSteps.{is_open_after}
use Rattle.modem_history.specs.Acts.{Act, Took, Got, Sent, Told, Heard, Tick, Lost, Held, Freed, Given, wire}
use Rattle.modem_history.specs.Calls.{Setting, is_lost}
use Rattle.modem_history.specs.Lawful.{Lawful}
use Rattle.modem_history.proofs.connections.SendingAfterLoss.{none_after_loss}

-- neither open nor asked for
abbrev IsNone : ℕ → List station.Act → Type 0
IsNone d w = (is_open Initiator d w ≡ false) × (is_asked Initiator d w ≡ false)

-- an act that opens none and asks for none
stays_none : (d : ℕ) (w : List station.Act) (a : station.Act) → opens_now Initiator d w a ≡ false → asks d a ≡ false → IsNone d w → IsNone d (a ∷ w)
stays_none d w a opens asked none = (
  is_open_after Initiator d w a
      ∙ (ap (λ (b : Bool). b || belongs Initiator d w a) opens ∙ ap (λ (b : Bool). b && not (ends (is_open Initiator 0 w) d a)) none.0),
  ap (λ (b : Bool). b || (is_asked Initiator d w && not (is_mode_frame d a || ends (is_open Initiator 0 w) d a))) asked
      ∙ ap (λ (b : Bool). b && not (is_mode_frame d a || ends (is_open Initiator 0 w) d a)) none.1,
)

-- a loss ends all
loss_ends : (d : ℕ) (w : List station.Act) → IsNone d (station.Lost ∷ w)
loss_ends d w =
    (is_open_after Initiator d w station.Lost ∙ and-false (is_open Initiator d w), and-false (is_asked Initiator d w))

-- a frame opens none that wasn't asked for
frame_opens_none : (d : ℕ) (f : Frame) (w : List station.Act) → IsNone d w → IsNone d (station.Got f ∷ w)
frame_opens_none d f w none =
    stays_none d w (station.Got f) (ap (λ (b : Bool). is_on Ua d f && b) none.1 ∙ and-false (is_on Ua d f)) refl none

none_stand : (s : Setting) (d : ℕ) (past : List Act) → Lawful s past → is_lost past ≡ true → IsNone d (wire past)
unfolding Lawful
none_stand s d [] l n = cc
none_stand s d (Lost ∷ past) l n = loss_ends d (wire past)
none_stand s d (Sent f ∷ past) l n = absurd (none_after_loss s past f n l)
none_stand s d (Got f ∷ past) l n = frame_opens_none d f (wire past) (none_stand s d past l.1 n)
none_stand s d (Tick ∷ past) l n = stays_none d (wire past) station.Tick refl refl (none_stand s d past l.1 n)
none_stand s d (Given ∷ past) l n = stays_none d (wire past) station.Given refl refl (none_stand s d past l.1 n)
none_stand s d (Took q ∷ past) l n = none_stand s d past l.1 n
none_stand s d (Told o ∷ past) l n = none_stand s d past l.1 n
none_stand s d (Heard k e line ∷ past) l n = none_stand s d past l.1 n
none_stand s d (Held e ∷ past) l n = none_stand s d past l.1 n
none_stand s d (Freed e ∷ past) l n = none_stand s d past l.1 n

-- once its line is lost, no connection of a lawful initiator is open
pub none_open : (s : Setting) (d : ℕ) (past : List Act) → s.role ≡ Initiator → Lawful s past → is_lost past ≡ true → is_open s.role d (wire past) ≡ false
none_open s d past r l n = ap (λ (v : _). is_open v d (wire past)) r ∙ (none_stand s d past l n).0
