-- What turns of a simulated modem at a line in memory come to.
use Rattle.std.specs.Prelude.{◌≡◌, ◌≢◌, ℕ, ◌&&◌, ◌||◌, not, Bool, true, false, List, [], ◌++◌, refl}
use Rattle.std.proofs.Common.{ap, sym, ◌∙◌, append_assoc, append-nil, subst}
use Rattle.mux_station.specs.declared.role.Role.TheVariants.{Responder}
use Rattle.mux_station.specs.declared.role.ChannelState.{ChannelState}
use Rattle.mux_station.specs.declared.role.ChannelState.TheVariants.{Opened}
use Rattle.mux_station.specs.Stages.{as_shown}
use Rattle.mux_station.specs.States.{State, IsShut, IsOpening, IsOpened, IsClosing, IsStopping, is_opened, state_of}
use Rattle.serial_line.specs.LineViews.{LineView, unused_line}
use Rattle.modem_sim.specs.declared.sim.SimTurn.{SimTurn}
use Rattle.modem_sim.specs.declared.sim.SimTurn.TheVariants.{Moved, Idle, Ended}
use Rattle.modem_sim.specs.Acts.{Act, End, is_open_at_modem, wire}
use Rattle.modem_sim.specs.Cores.{IsLater}
use Rattle.modem_sim.specs.Heard.{modem_after}
use Rattle.modem_sim.specs.Histories.{FitsOctets, IsThrough}
use Rattle.serial_line.specs.OtherSide.{OtherSide}
use Rattle.modem_sim.specs.Sims.{IsOver, SimGoes, SimState, has_ended, modem_of, state_shown}
use Rattle.modem_sim.specs.Turns.{Exchange, GoesTurn, IsIdle, Means, TurnFrom, at_rest, has_done, is_over, line_is_full, stood_still}
use Rattle.modem_sim.proofs.ends.OfferedPieces.{later_then}
use Rattle.modem_sim.proofs.sims.SimPasts as pasts
use Rattle.ctl_sim.specs.HeldLine.{HeldState, held_side, held_view}
use Rattle.ctl_sim.specs.InMux.{is_closed_by}
use Rattle.ctl_sim.specs.Muxes.{ComesToRest, FedTo, FitsHeld, FitsMux, IsDown, IsFed, Rests, RestsFrom, is_down}
use Rattle.ctl_sim.specs.Muxes as muxes

-- ## Turns

idle_by : {X : Type 0} (see : X → LineView) (e : End) (came went : List ℕ) (old new : SimState X) (t : Exchange) (acts past : List Act) (says : SimTurn) → says ≡ Idle → Means see e came went old new t acts past says → IsIdle e came went new.machine t past
idle_by see e came went old new t acts past _ is (has_done moved) = absurd (let bad : Moved ≡ Idle = is in cc)
idle_by see e came went old new t acts past _ is (stood_still none idle) = idle
idle_by see e came went old new t acts past _ is (is_over over) = absurd (let bad : Ended ≡ Idle = is in cc)

-- an idle turn behind which nothing is to be written or read
pub comes_to_rest : (old new : SimState HeldState) → GoesTurn held_view old new Idle → new.machine.out ≡ [] → new.line.waiting ≡ [] → ComesToRest old new
comes_to_rest old new turn none read = record {
  read = read;
  rests = λ e past fits.
      let from = turn.turn unused_line e past fits in
      rests_by e past from (idle_by held_view e from.fits.came from.fits.went old new turn.exchange from.later.newer from.now Idle refl from.means);
}
  where
    rests_by : (e : End) (past : List Act) → (from : TurnFrom held_view unused_line e past old new turn.exchange Idle) → IsIdle e from.fits.came from.fits.went new.machine turn.exchange from.now → RestsFrom e past new
    rests_by e past from (line_is_full held) = absurd (held.waits none)
    rests_by e past from (at_rest rest) = record {
      now = from.now;
      later = from.later;
      fits = from.fits;
      through = rest.through;
      all_out = rest.all_out;
      steps = rest.steps;
    }

-- turns, and one that comes to rest
pub rests_then : (a b c : SimState HeldState) → SimGoes held_view a b → ComesToRest b c → ComesToRest a c
rests_then a b c goes rest = record {
  read = rest.read;
  rests = λ e past fits.
      let first = goes unused_line e past fits in
      let second = rest.rests e first.now first.fits in
      record {
        now = second.now;
        later = later_then past first.now second.now first.later second.later;
        fits = second.fits;
        through = second.through;
        all_out = second.all_out;
        steps = second.steps;
      };
}

-- ## Whether 0 is open

shown_open : (s : State) → as_shown s ≡ Opened → is_opened s ≡ true
shown_open IsShut is = cc
shown_open (IsOpening n) is = cc
shown_open IsOpened is = refl
shown_open (IsClosing n) is = cc
shown_open (IsStopping n) is = cc

shown_other : (s : State) → as_shown s ≢ Opened → is_opened s ≡ false
shown_other IsShut other = refl
shown_other (IsOpening n) other = refl
shown_other IsOpened other = absurd (other refl)
shown_other (IsClosing n) other = refl
shown_other (IsStopping n) other = refl

-- shown as opened, it is
pub up_is : (past : List Act) (shown : ChannelState) → shown ≡ state_shown 0 past → shown ≡ Opened → true ≡ is_open_at_modem 0 past
up_is past shown is opened = sym (shown_open (state_of Responder 0 (wire past)) (sym is ∙ opened))

-- shown otherwise, it isn't
pub down_is : (past : List Act) (shown : ChannelState) → shown ≡ state_shown 0 past → shown ≢ Opened → false ≡ is_open_at_modem 0 past
down_is past shown is other = sym (shown_other (state_of Responder 0 (wire past)) (λ same. other (is ∙ same)))

-- ## A piece

-- how it fits where only octets that wait or that are handed out change
refits : (e : End) (s : SimState HeldState) (line : HeldState) (past : List Act) → line.received ≡ s.line.received → (held_view line).sent ≡ (held_view s.line).sent → FitsHeld e s past → FitsHeld e (record s { line = line }) past
refits e s line past came went fits = record {
  came = fits.came;
  went = fits.went;
  received_is = came ∙ fits.received_is;
  sent_is = went ∙ fits.sent_is;
  machine_fits = fits.machine_fits;
}

given_is : (a b : HeldState) → held_side a ≡ held_side b → a.received ++ a.waiting ≡ b.received ++ b.waiting
given_is a b side = ap (λ (x : OtherSide). x.given) side

taken_is : (a b : HeldState) → held_side a ≡ held_side b → a.taken ≡ b.taken
taken_is a b side = ap (λ (x : OtherSide). x.passed_on) side

-- what a line was handed that had been read before, and is read again
all_read : (old line : HeldState) (came piece : List ℕ) → old.received ≡ came → old.waiting ≡ [] → line.received ++ line.waiting ≡ old.received ++ (old.waiting ++ piece) → line.waiting ≡ [] → line.received ≡ came ++ piece
all_read old line came piece came_is none side read =
    sym (append-nil line.received) ∙ ap (λ (l : List ℕ). line.received ++ l) (sym read) ∙ side
    ∙ ap (λ (l : List ℕ). old.received ++ (l ++ piece)) none ∙ ap (λ (l : List ℕ). l ++ piece) came_is

-- octets handed in, and those that are to go handed out
handed_in : SimState HeldState → List ℕ → SimState HeldState
handed_in s piece = record s { line = record s.line { waiting = s.line.waiting ++ piece } }

handed_out : SimState HeldState → SimState HeldState
handed_out s = record s { line = record s.line { taken = s.line.taken ++ s.line.going; going = [] } }

fits_in : (e : End) (s : SimState HeldState) (piece : List ℕ) (past : List Act) → FitsHeld e s past → FitsHeld e (handed_in s piece) past
unfolding handed_in
fits_in e s piece past fits = refits e s (record s.line { waiting = s.line.waiting ++ piece }) past refl refl fits

fits_out : (e : End) (s : SimState HeldState) (past : List Act) → FitsHeld e s past → FitsHeld e (handed_out s) past
unfolding handed_out
fits_out e s past fits =
    refits e s (record s.line { taken = s.line.taken ++ s.line.going; going = [] }) past refl (append-nil (s.line.taken ++ s.line.going)) fits

-- a modem at rest behind the piece
record RestsHere (e : End) (came went : List ℕ) (past : List Act) (s : SimState HeldState) : Type 0 where
  now : List Act
  later : IsLater past now
  fits : FitsHeld e s now
  received_is : s.line.received ≡ came
  rests : Rests e came went now
  modem_is : modem_of s ≡ modem_after e now

rests_here : (e : End) (came went piece : List ℕ) (past : List Act) (a b : SimState HeldState) → FitsMux e came went a past → held_side b.line ≡ held_side (handed_in a piece).line → ComesToRest (handed_in a piece) b → RestsHere e (came ++ piece) (went ++ b.line.going) past b
unfolding handed_in
rests_here e came went piece past a b fits side rest =
    let from = rest.rests e past (fits_in e a piece past fits.fits) in
    let all = pasts.simulates e from.fits.came from.fits.went b.machine from.now from.fits.machine_fits in
    let read : b.line.received ≡ came ++ piece = all_read a.line b.line came piece fits.received_is fits.read (given_is b.line (handed_in a piece).line side) rest.read in
    let sent : from.fits.went ≡ went ++ b.line.going = sym from.fits.sent_is ∙ ap (λ (l : List ℕ). l ++ b.line.going) (taken_is b.line (handed_in a piece).line side ∙ fits.taken_is) in
    record {
      now = from.now;
      later = from.later;
      fits = from.fits;
      received_is = read;
      rests = record {
        lawful = all.lawful;
        complete = all.complete;
        through = subst (λ (l : List ℕ). IsThrough e.n1 l (went ++ b.line.going) from.now) (sym from.fits.received_is ∙ read) (subst (λ (l : List ℕ). IsThrough e.n1 from.fits.came l from.now) sent from.through);
        all_out = from.all_out;
        steps = from.steps;
      };
      modem_is = sym all.modem_is;
    }

-- a modem that has closed down
record ClosesHere (e : End) (came went : List ℕ) (past : List Act) (s : SimState HeldState) : Type 0 where
  now : List Act
  later : IsLater past now
  closes : IsDown e came went now
  modem_is : modem_of s ≡ modem_after e now

closes_here : (e : End) (came went piece : List ℕ) (past : List Act) (a b : SimState HeldState) → FitsMux e came went a past → SimGoes held_view (handed_in a piece) b → held_side b.line ≡ held_side (handed_in a piece).line → has_ended b ≡ true → ClosesHere e (came ++ piece) (went ++ b.line.going) past b
unfolding handed_in
closes_here e came went piece past a b fits goes side ended =
    let from = goes unused_line e past (fits_in e a piece past fits.fits) in
    let all = pasts.simulates e from.fits.came from.fits.went b.machine from.now from.fits.machine_fits in
    let over : IsOver from.fits.went from.now = pasts.is_over e from.fits.came from.fits.went b.machine from.now ended from.fits.machine_fits in
    let sent : from.fits.went ≡ went ++ b.line.going = sym from.fits.sent_is ∙ ap (λ (l : List ℕ). l ++ b.line.going) (taken_is b.line (handed_in a piece).line side ∙ fits.taken_is) in
    let given : b.line.received ++ b.line.waiting ≡ came ++ piece = given_is b.line (handed_in a piece).line side ∙ ap (λ (l : List ℕ). a.line.received ++ (l ++ piece)) fits.read ∙ ap (λ (l : List ℕ). l ++ piece) fits.received_is in
    record {
      now = from.now;
      later = from.later;
      closes = record {
        lawful = all.lawful;
        complete = all.complete;
        taken = all.taken;
        unread = b.machine.unfed ++ b.line.waiting;
        came_is = sym given ∙ ap (λ (l : List ℕ). l ++ b.line.waiting) (from.fits.received_is ∙ all.came_is) ∙ append_assoc all.taken b.machine.unfed b.line.waiting;
        octets = subst (λ (l : List ℕ). FitsOctets e.n1 all.taken l from.now) sent all.octets;
        over = subst (λ (l : List ℕ). IsOver l from.now) sent over;
      };
      modem_is = sym all.modem_is;
    }

-- whether 0 was open before and is behind it, and whether it is over
fed_at : (e : End) (came went piece : List ℕ) (past : List Act) (a b : SimState HeldState) (was up ended over : Bool) → FitsMux e came went a past
    → was ≡ is_open_at_modem 0 past → ((now : List Act) → FitsHeld e (handed_out b) now → up ≡ is_open_at_modem 0 now)
    → SimGoes held_view (handed_in a piece) b → held_side b.line ≡ held_side (handed_in a piece).line
    → (ended ≡ false → ComesToRest (handed_in a piece) b) → (ended ≡ true → has_ended b ≡ true) → over ≡ (ended || (was && not up)) → FedTo e (came ++ piece) (went ++ b.line.going) past (handed_out b) over
unfolding handed_in handed_out
fed_at e came went piece past a b was up false over fits was_is up_is goes side rest end over_is =
    let here = rests_here e came went piece past a b fits side (rest refl) in
    let fits_now = fits_out e b here.now here.fits in
    let closed : is_closed_by past here.now ≡ over = sym (over_is ∙ ap (λ (x : Bool). x && not up) was_is ∙ ap (λ (x : Bool). is_open_at_modem 0 past && not x) (up_is here.now fits_now)) in
    record {
      now = here.now;
      later = here.later;
      goes_on = λ on. record {
        rests = here.rests;
        open_still = closed ∙ on;
        fits = record {
          fits = fits_now;
          received_is = here.received_is;
          read = (rest refl).read;
          taken_is = ap (λ (l : List ℕ). l ++ b.line.going) (taken_is b.line (handed_in a piece).line side ∙ same_taken a piece ∙ fits.taken_is);
          handed = refl;
        };
      };
      is_over = λ ends. record { ended = muxes.at_rest here.rests (closed ∙ ends); modem_is = here.modem_is };
    }
  where
    same_taken : (s : SimState HeldState) (octets : List ℕ) → (handed_in s octets).line.taken ≡ s.line.taken
    same_taken s octets = refl
fed_at e came went piece past a b was up true over fits was_is up_is goes side rest end over_is =
    let here = closes_here e came went piece past a b fits goes side (end refl) in
    record {
      now = here.now;
      later = here.later;
      goes_on = λ on. absurd (let bad : true ≡ false = sym over_is ∙ on in cc);
      is_over = λ ends. record { ended = is_down here.closes; modem_is = here.modem_is };
    }

-- a piece is handed in, the modem turns, and what is to go is handed out
pub fed_by : (a into b new : SimState HeldState) (piece before after : List ℕ) (was up ended over : Bool)
    → ((e : End) (past : List Act) → FitsHeld e a past → was ≡ is_open_at_modem 0 past)
    → into ≡ record a { line = record a.line { waiting = a.line.waiting ++ piece } }
    → SimGoes held_view into b → held_side b.line ≡ held_side into.line
    → (ended ≡ false → ComesToRest into b) → (ended ≡ true → has_ended b ≡ true)
    → after ≡ before ++ b.line.going
    → new ≡ record b { line = record b.line { taken = b.line.taken ++ b.line.going; going = [] } }
    → ((e : End) (past : List Act) → FitsHeld e new past → up ≡ is_open_at_modem 0 past)
    → over ≡ (ended || (was && not up)) → IsFed a new piece before after over
unfolding handed_in handed_out
fed_by a into b new piece before after was up ended over was_is into_is goes side rest end written new_is up_is over_is = record {
  more = b.line.going;
  written = written;
  fed = λ e came went past fits.
      subst (λ (s : SimState HeldState). FedTo e (came ++ piece) (went ++ b.line.going) past s over) (sym new_is)
      (fed_at e came went piece past a b was up ended over fits (was_is e past fits.fits)
      (λ now there. up_is e now (subst (λ (s : SimState HeldState). FitsHeld e s now) (sym new_is) there))
      (subst (λ (s : SimState HeldState). SimGoes held_view s b) into_is goes)
      (side ∙ ap (λ (s : SimState HeldState). held_side s.line) into_is)
      (λ is. subst (λ (s : SimState HeldState). ComesToRest s b) into_is (rest is)) end over_is);
}
