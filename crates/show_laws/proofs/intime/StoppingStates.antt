-- What leaves a stop under way.
use Rattle.std.specs.Prelude.{◌≡◌, ◌+◌, ◌==◌, ◌&&◌, ◌||◌, Bool, true, false, List, ◌∷◌, refl, if◌then◌else◌}
use Rattle.std.proofs.Common.{ap, sym, ◌∙◌}
use Rattle.mux_frame.specs.Frames.{Frame}
use Rattle.mux_frame.specs.declared.frame.Kind.{Kind}
use Rattle.mux_frame.specs.declared.frame.Kind.TheVariants.{Sabm, Ua, Dm, Disc, Uih}
use Rattle.mux_station.specs.declared.role.Role.{Role}
use Rattle.mux_station.specs.declared.role.Role.TheVariants.{Initiator, Responder}
use Rattle.mux_station.specs.Acts.{Act, Got, Sent, Tick}
use Rattle.mux_station.specs.Messages.{brings_command, brings_response, cld}
use Rattle.mux_station.specs.States.{State, IsShut, IsOpening, IsOpened, IsClosing, IsStopping, at_close_down, at_sent, at_tick, got_by, is_stopping, state_of, states}
use Rattle.mux_station.specs.Written.{is_kind, is_on}
use Rattle.mux_station.proofs.states.StatesAfterActs.{zero_own}
use Rattle.show_laws.specs.InTime.{is_last}
use Rattle.show_laws.specs.Lines.{closes}

stays_sent : (s : State) (k : Kind) → is_stopping s ≡ true → is_kind k Sabm ≡ false → is_stopping (at_sent s k) ≡ true
stays_sent (IsStopping n) Sabm h g = cc
stays_sent (IsStopping n) Ua h g = refl
stays_sent (IsStopping n) Dm h g = refl
stays_sent (IsStopping n) Disc h g = refl
stays_sent (IsStopping n) Uih h g = refl
stays_sent IsShut k h g = cc
stays_sent (IsOpening n) k h g = cc
stays_sent IsOpened k h g = cc
stays_sent (IsClosing n) k h g = cc

stays_got : (r : Role) (s : State) (k : Kind) → is_stopping s ≡ true → is_kind k Dm ≡ false → is_kind k Sabm ≡ false → is_stopping (got_by r true s k) ≡ true
stays_got Initiator (IsStopping n) Sabm h d g = cc
stays_got Initiator (IsStopping n) Ua h d g = refl
stays_got Initiator (IsStopping n) Dm h d g = cc
stays_got Initiator (IsStopping n) Disc h d g = refl
stays_got Initiator (IsStopping n) Uih h d g = refl
stays_got Responder (IsStopping n) Sabm h d g = cc
stays_got Responder (IsStopping n) Ua h d g = refl
stays_got Responder (IsStopping n) Dm h d g = cc
stays_got Responder (IsStopping n) Disc h d g = refl
stays_got Responder (IsStopping n) Uih h d g = refl
stays_got r IsShut k h d g = cc
stays_got r (IsOpening n) k h d g = cc
stays_got r IsOpened k h d g = cc
stays_got r (IsClosing n) k h d g = cc

stays_down : (a b : Bool) (s : State) → is_stopping s ≡ true → (a || b) ≡ false → is_stopping (at_close_down a b s) ≡ true
stays_down a b (IsStopping n) h g = either (a || b) g
  where
    either : (c : Bool) → c ≡ false → is_stopping (if c then IsShut else IsStopping n) ≡ true
    either true e = cc
    either false e = refl
stays_down a b IsShut h g = cc
stays_down a b (IsOpening n) h g = cc
stays_down a b IsOpened h g = cc
stays_down a b (IsClosing n) h g = cc

stays_tick : (s : State) → is_stopping s ≡ true → is_last s ≡ false → is_stopping (at_tick s) ≡ true
stays_tick (IsStopping n) h g = either (n == 3) g
  where
    either : (c : Bool) → c ≡ false → is_stopping (if c then IsShut else IsStopping (n + 1)) ≡ true
    either true e = cc
    either false e = refl
stays_tick IsShut h g = cc
stays_tick (IsOpening n) h g = cc
stays_tick IsOpened h g = cc
stays_tick (IsClosing n) h g = cc

-- a stop that is under way by the state of 0 is so by the state of 0 that each connection looks at
pub there : (r : Role) (past : List Act) → is_stopping (state_of r 0 past) ≡ true → is_stopping (states r 0 past).zero ≡ true
there r past h = ap is_stopping (sym (zero_own r past)) ∙ h

kind_off : (k : Bool) (z : Bool) → (k && z) ≡ false → z ≡ true → k ≡ false
kind_off true true h e = cc
kind_off false z h e = refl
kind_off true false h e = cc

-- a stop begins with its CLD
pub stop_begins : (r : Role) (past : List Act) (f : Frame) → brings_command cld f ≡ true → is_stopping (state_of r 0 (Sent f ∷ past)) ≡ true
stop_begins r past f down = ap (λ (b : Bool). is_stopping (if b then IsStopping 0 else (if f.dlci == 0 then at_sent (states r 0 past).zero f.kind else (states r 0 past).zero))) down

-- a frame that is sent leaves it under way, unless it is a SABM on 0
pub stop_sent : (r : Role) (past : List Act) (f : Frame) → is_on Sabm 0 f ≡ false → is_stopping (state_of r 0 past) ≡ true → is_stopping (state_of r 0 (Sent f ∷ past)) ≡ true
stop_sent r past f sabm h = by_cld (brings_command cld f) (f.dlci == 0) refl
  where
    by_cld : (b z : Bool) → (f.dlci == 0) ≡ z → is_stopping (if b then IsStopping 0 else (if z then at_sent (states r 0 past).zero f.kind else (states r 0 past).zero)) ≡ true
    by_cld true z e = refl
    by_cld false true e = stays_sent (states r 0 past).zero f.kind (there r past h) (kind_off (is_kind f.kind Sabm) (f.dlci == 0) sabm e)
    by_cld false false e = there r past h

-- so does one that comes, unless it is a SABM or DM on 0, a CLD or the response to one
pub stop_got : (r : Role) (past : List Act) (f : Frame) → is_on Sabm 0 f ≡ false → is_on Dm 0 f ≡ false → closes f ≡ false → is_stopping (state_of r 0 past) ≡ true → is_stopping (state_of r 0 (Got f ∷ past)) ≡ true
stop_got r past f sabm dm bare h = by_place (f.dlci == 0) refl
  where
    by_place : (z : Bool) → (f.dlci == 0) ≡ z → is_stopping (if z then at_close_down (brings_command cld f) (brings_response cld f) (got_by r true (states r 0 past).zero f.kind) else (states r 0 past).zero) ≡ true
    by_place true e =
        stays_down (brings_command cld f) (brings_response cld f) (got_by r true (states r 0 past).zero f.kind)
        (stays_got r (states r 0 past).zero f.kind (there r past h) (kind_off (is_kind f.kind Dm) (f.dlci == 0) dm e) (kind_off (is_kind f.kind Sabm) (f.dlci == 0) sabm e)) bare
    by_place false e = there r past h

-- so does a tick, but that which gives it up
pub stop_ticks : (r : Role) (past : List Act) → is_last (state_of r 0 past) ≡ false → is_stopping (state_of r 0 past) ≡ true → is_stopping (state_of r 0 (Tick ∷ past)) ≡ true
stop_ticks r past keeps h = stays_tick (states r 0 past).zero (there r past h) (ap is_last (sym (zero_own r past)) ∙ keeps)
