-- What the state of an initiator's connection says of the frames on it: where it is Opened or Closing a UA came, and where it is Opening so many
-- SABM were sent.
use Rattle.std.specs.Prelude.{◌≡◌, ℕ, ◌+◌, ◌==◌, ◌≤◌, ◌&&◌, Bool, true, false, List, [], ◌∷◌, refl, if◌then◌else◌}
use Rattle.std.proofs.Common.{ap, arith, sym, subst, eqb-true}
use Rattle.mux_frame.specs.declared.frame.Kind.{Kind}
use Rattle.mux_frame.specs.declared.frame.Kind.TheVariants.{Sabm, Ua, Dm, Disc, Uih}
use Rattle.mux_station.specs.declared.role.Role.TheVariants.{Initiator}
use Rattle.mux_station.specs.Acts.{Act, Called, Got, Sent, Tick, Lost, Given}
use Rattle.mux_station.specs.Messages.{cld, brings_command, brings_response}
use Rattle.mux_station.specs.States.{ends_itself, State, IsShut, IsOpening, IsOpened, IsClosing, IsStopping, at_close_down, at_got, at_sent, at_tick, got_by, is_opened, own_after, state_of}
use Rattle.mux_station.specs.Written.{is_kind, is_on}
use Rattle.mux_station.proofs.states.StatesAfterActs.{state_next}
use Rattle.modem_history.specs.TwoEnds.{frames_got, frames_sent}
use Rattle.show_laws.proofs.counts.ManyFrames.{many, unit}

-- so many UA came and SABM were sent as the state says: a UA where it is Opened or Closing, and a SABM for each count of Opening
abbrev pub Says : (ua sabm : ℕ) → State → Type 0
Says ua sabm IsShut = Unit {0}
Says ua sabm (IsOpening n) = n + 1 ≤ sabm
Says ua sabm IsOpened = 1 ≤ ua
Says ua sabm (IsClosing n) = 1 ≤ ua
Says ua sabm (IsStopping n) = Unit {0}

sent_says : (s : State) (k : Kind) (ua sabm m : ℕ) → Says ua sabm s → (is_kind k Sabm ≡ true → 1 ≤ m) → Says ua (m + sabm) (at_sent s k)
sent_says IsShut Sabm ua sabm m c h = let x = h refl in omega (arith, x)
sent_says IsShut Ua ua sabm m c h = tt
sent_says IsShut Dm ua sabm m c h = tt
sent_says IsShut Disc ua sabm m c h = tt
sent_says IsShut Uih ua sabm m c h = tt
sent_says (IsOpening n) Sabm ua sabm m c h = let x = h refl in omega (arith, x, c)
sent_says (IsOpening n) Ua ua sabm m c h = tt
sent_says (IsOpening n) Dm ua sabm m c h = tt
sent_says (IsOpening n) Disc ua sabm m c h = tt
sent_says (IsOpening n) Uih ua sabm m c h = omega (arith, c)
sent_says IsOpened Sabm ua sabm m c h = omega (arith, c)
sent_says IsOpened Ua ua sabm m c h = omega (arith, c)
sent_says IsOpened Dm ua sabm m c h = omega (arith, c)
sent_says IsOpened Disc ua sabm m c h = omega (arith, c)
sent_says IsOpened Uih ua sabm m c h = omega (arith, c)
sent_says (IsClosing n) Sabm ua sabm m c h = let x = h refl in omega (arith, x)
sent_says (IsClosing n) Ua ua sabm m c h = omega (arith, c)
sent_says (IsClosing n) Dm ua sabm m c h = omega (arith, c)
sent_says (IsClosing n) Disc ua sabm m c h = omega (arith, c)
sent_says (IsClosing n) Uih ua sabm m c h = omega (arith, c)
sent_says (IsStopping n) Sabm ua sabm m c h = let x = h refl in omega (arith, x)
sent_says (IsStopping n) Ua ua sabm m c h = tt
sent_says (IsStopping n) Dm ua sabm m c h = tt
sent_says (IsStopping n) Disc ua sabm m c h = tt
sent_says (IsStopping n) Uih ua sabm m c h = tt

got_says : (s : State) (k : Kind) (ua sabm m : ℕ) → Says ua sabm s → (is_kind k Ua ≡ true → 1 ≤ m) → Says (m + ua) sabm (at_got s k)
got_says IsShut Sabm ua sabm m c h = tt
got_says IsShut Ua ua sabm m c h = tt
got_says IsShut Dm ua sabm m c h = tt
got_says IsShut Disc ua sabm m c h = tt
got_says IsShut Uih ua sabm m c h = tt
got_says (IsOpening n) Sabm ua sabm m c h = tt
got_says (IsOpening n) Ua ua sabm m c h = let x = h refl in omega (arith, x)
got_says (IsOpening n) Dm ua sabm m c h = tt
got_says (IsOpening n) Disc ua sabm m c h = tt
got_says (IsOpening n) Uih ua sabm m c h = omega (arith, c)
got_says IsOpened Sabm ua sabm m c h = tt
got_says IsOpened Ua ua sabm m c h = omega (arith, c)
got_says IsOpened Dm ua sabm m c h = tt
got_says IsOpened Disc ua sabm m c h = tt
got_says IsOpened Uih ua sabm m c h = omega (arith, c)
got_says (IsClosing n) Sabm ua sabm m c h = omega (arith, c)
got_says (IsClosing n) Ua ua sabm m c h = tt
got_says (IsClosing n) Dm ua sabm m c h = tt
got_says (IsClosing n) Disc ua sabm m c h = omega (arith, c)
got_says (IsClosing n) Uih ua sabm m c h = omega (arith, c)
got_says (IsStopping n) Sabm ua sabm m c h = tt
got_says (IsStopping n) Ua ua sabm m c h = tt
got_says (IsStopping n) Dm ua sabm m c h = tt
got_says (IsStopping n) Disc ua sabm m c h = tt
got_says (IsStopping n) Uih ua sabm m c h = tt

more : (s : State) (ua sabm ua2 sabm2 : ℕ) → Says ua sabm s → ua ≤ ua2 → sabm ≤ sabm2 → Says ua2 sabm2 s
more IsShut ua sabm ua2 sabm2 c h k = tt
more (IsOpening n) ua sabm ua2 sabm2 c h k = omega (arith, c, k)
more IsOpened ua sabm ua2 sabm2 c h k = omega (arith, c, h)
more (IsClosing n) ua sabm ua2 sabm2 c h k = omega (arith, c, h)
more (IsStopping n) ua sabm ua2 sabm2 c h k = tt

closed_down : (a b : Bool) (s : State) (ua sabm : ℕ) → Says ua sabm s → Says ua sabm (at_close_down a b s)
closed_down true b IsOpened ua sabm c = tt
closed_down false b IsOpened ua sabm c = c
closed_down true b (IsStopping n) ua sabm c = tt
closed_down false true (IsStopping n) ua sabm c = tt
closed_down false false (IsStopping n) ua sabm c = tt
closed_down a b IsShut ua sabm c = tt
closed_down a b (IsOpening n) ua sabm c = c
closed_down a b (IsClosing n) ua sabm c = c

ticked : (s : State) (ua sabm : ℕ) → Says ua sabm s → Says ua sabm (at_tick s)
ticked IsShut ua sabm c = tt
ticked (IsOpening n) ua sabm c = c
ticked IsOpened ua sabm c = c
ticked (IsClosing n) ua sabm c = either (n == 3)
  where
    either : (b : Bool) → Says ua sabm (if b then IsShut else IsClosing n)
    either true = tt
    either false = c
ticked (IsStopping n) ua sabm c = either (n == 3)
  where
    either : (b : Bool) → Says ua sabm (if b then IsShut else IsStopping (n + 1))
    either true = tt
    either false = tt

-- the frames of an act on d
abbrev pub ua_with : ℕ → Act → ℕ
ua_with d (Got f) = unit (is_on Ua d f)
ua_with d _ = 0

-- how many SABM on d the act sends
abbrev pub sabm_with : ℕ → Act → ℕ
sabm_with d (Sent f) = unit (is_on Sabm d f)
sabm_with d _ = 0

on_here : (a b : Bool) → a ≡ true → b ≡ true → 1 ≤ unit (a && b)
on_here true true h k = omega arith
on_here true false h k = cc
on_here false b h k = cc

own_says : (d : ℕ) (z : Bool) (s : State) (a : Act) (ua sabm : ℕ) → Says ua sabm s → Says (ua_with d a + ua) (sabm_with d a + sabm) (own_after Initiator d z s a)
own_says d z s (Called c) ua sabm h = more s ua sabm (0 + ua) (0 + sabm) h (omega arith) (omega arith)
own_says d z s Given ua sabm h = more s ua sabm (0 + ua) (0 + sabm) h (omega arith) (omega arith)
own_says d z s Lost ua sabm h = tt
own_says d z s Tick ua sabm h = more (at_tick s) ua sabm (0 + ua) (0 + sabm) (ticked s ua sabm h) (omega arith) (omega arith)
own_says d z s (Sent f) ua sabm h = by_close ((d == 0) && brings_command cld f)
  where
    by_here : (b : Bool) → (f.dlci == d) ≡ b → Says (0 + ua) (unit (is_on Sabm d f) + sabm) (if b then at_sent s f.kind else s)
    by_here true e = more (at_sent s f.kind) ua (unit (is_on Sabm d f) + sabm) (0 + ua) (unit (is_on Sabm d f) + sabm) (sent_says s f.kind ua sabm (unit (is_on Sabm d f)) h (λ k. on_here (is_kind f.kind Sabm) (f.dlci == d) k e)) (omega arith) (omega arith)
    by_here false e = more s ua sabm (0 + ua) (unit (is_on Sabm d f) + sabm) h (omega arith) (omega arith)

    by_close : (b : Bool) → Says (0 + ua) (unit (is_on Sabm d f) + sabm) (if b then IsStopping 0 else (if f.dlci == d then at_sent s f.kind else s))
    by_close true = tt
    by_close false = by_here (f.dlci == d) refl
own_says d z s (Got f) ua sabm h = by_here (f.dlci == d) refl
  where
    read : (f.dlci == d) ≡ true → Says (unit (is_on Ua d f) + ua) (0 + sabm) (at_got s f.kind)
    read e = more (at_got s f.kind) (unit (is_on Ua d f) + ua) sabm (unit (is_on Ua d f) + ua) (0 + sabm) (got_says s f.kind ua sabm (unit (is_on Ua d f)) h (λ k. on_here (is_kind f.kind Ua) (f.dlci == d) k e)) (omega arith) (omega arith)

    by_zero : (b : Bool) → (f.dlci == d) ≡ true → Says (unit (is_on Ua d f) + ua) (0 + sabm) (if b then at_close_down (brings_command cld f) (brings_response cld f) (got_by Initiator true s f.kind) else got_by Initiator z s f.kind)
    by_zero true e = closed_down (brings_command cld f) (brings_response cld f) (at_got s f.kind) (unit (is_on Ua d f) + ua) (0 + sabm) (read e)
    by_zero false e = read e

    by_here : (b : Bool) → (f.dlci == d) ≡ b → Says (unit (is_on Ua d f) + ua) (0 + sabm) (if b then (if d == 0 then at_close_down (brings_command cld f) (brings_response cld f) (got_by Initiator true s f.kind) else got_by Initiator z s f.kind) else s)
    by_here true e = by_zero (d == 0) e
    by_here false e = more s ua sabm (unit (is_on Ua d f) + ua) (0 + sabm) h (omega arith) (omega arith)

next_says : (d : ℕ) (past : List Act) (a : Act) (ua sabm : ℕ) → Says ua sabm (state_of Initiator d past) → Says (ua_with d a + ua) (sabm_with d a + sabm) (state_of Initiator d (a ∷ past))
next_says d past a ua sabm h =
    subst (Says (ua_with d a + ua) (sabm_with d a + sabm)) (sym (state_next Initiator d past a)) (by_zero (d == 0) refl)
  where
    z : State
    z = state_of Initiator 0 past

    ended : (b : Bool) → Says (ua_with d a + ua) (sabm_with d a + sabm) (if b then IsShut else own_after Initiator d (is_opened z) (state_of Initiator d past) a)
    ended true = tt
    ended false = own_says d (is_opened z) (state_of Initiator d past) a ua sabm h

    at_zero : (n : ℕ) → d ≡ n → n ≡ 0 → Says (ua_with d a + ua) (sabm_with d a + sabm) (own_after Initiator n true (state_of Initiator n past) a)
    at_zero n e k = subst (λ (m : ℕ). Says (ua_with d a + ua) (sabm_with d a + sabm) (own_after Initiator m true (state_of Initiator m past) a)) e (own_says d true (state_of Initiator d past) a ua sabm h)

    by_zero : (b : Bool) → (d == 0) ≡ b → Says (ua_with d a + ua) (sabm_with d a + sabm) (if b then own_after Initiator 0 true z a else (if ends_itself (is_opened z) 0 a then IsShut else own_after Initiator d (is_opened z) (state_of Initiator d past) a))
    by_zero true e = at_zero 0 (eqb-true d 0 e) refl
    by_zero false e = ended (ends_itself (is_opened z) 0 a)

still : (d : ℕ) (past : List Act) (a : Act) → ua_with d a ≡ 0 → sabm_with d a ≡ 0 → frames_got (a ∷ past) ≡ frames_got past → frames_sent (a ∷ past) ≡ frames_sent past
    → Says (many (is_on Ua d) (frames_got past)) (many (is_on Sabm d) (frames_sent past)) (state_of Initiator d past)
    → Says (many (is_on Ua d) (frames_got (a ∷ past))) (many (is_on Sabm d) (frames_sent (a ∷ past))) (state_of Initiator d (a ∷ past))
still d past a u m g s h =
    let x : many (is_on Ua d) (frames_got (a ∷ past)) ≡ many (is_on Ua d) (frames_got past) = ap (many (is_on Ua d)) g in
    let y : many (is_on Sabm d) (frames_sent (a ∷ past)) ≡ many (is_on Sabm d) (frames_sent past) = ap (many (is_on Sabm d)) s in
    more (state_of Initiator d (a ∷ past)) (ua_with d a + many (is_on Ua d) (frames_got past)) (sabm_with d a + many (is_on Sabm d) (frames_sent past)) (many (is_on Ua d) (frames_got (a ∷ past))) (many (is_on Sabm d) (frames_sent (a ∷ past)))
    (next_says d past a (many (is_on Ua d) (frames_got past)) (many (is_on Sabm d) (frames_sent past)) h) (omega (arith, x, u)) (omega (arith, y, m))

-- so many came and were sent by each past
pub state_says : (d : ℕ) (past : List Act) → Says (many (is_on Ua d) (frames_got past)) (many (is_on Sabm d) (frames_sent past)) (state_of Initiator d past)
state_says d [] = tt
state_says d (Got f ∷ past) = weaken (state_of Initiator d (Got f ∷ past)) (next_says d past (Got f) (many (is_on Ua d) (frames_got past)) (many (is_on Sabm d) (frames_sent past)) (state_says d past))
  where
    weaken : (s : State) → Says (unit (is_on Ua d f) + many (is_on Ua d) (frames_got past)) (0 + many (is_on Sabm d) (frames_sent past)) s → Says (unit (is_on Ua d f) + many (is_on Ua d) (frames_got past)) (many (is_on Sabm d) (frames_sent past)) s
    weaken s h = more s (unit (is_on Ua d f) + many (is_on Ua d) (frames_got past)) (0 + many (is_on Sabm d) (frames_sent past)) (unit (is_on Ua d f) + many (is_on Ua d) (frames_got past)) (many (is_on Sabm d) (frames_sent past)) h (omega arith) (omega arith)
state_says d (Sent f ∷ past) = weaken (state_of Initiator d (Sent f ∷ past)) (next_says d past (Sent f) (many (is_on Ua d) (frames_got past)) (many (is_on Sabm d) (frames_sent past)) (state_says d past))
  where
    weaken : (s : State) → Says (0 + many (is_on Ua d) (frames_got past)) (unit (is_on Sabm d f) + many (is_on Sabm d) (frames_sent past)) s → Says (many (is_on Ua d) (frames_got past)) (unit (is_on Sabm d f) + many (is_on Sabm d) (frames_sent past)) s
    weaken s h = more s (0 + many (is_on Ua d) (frames_got past)) (unit (is_on Sabm d f) + many (is_on Sabm d) (frames_sent past)) (many (is_on Ua d) (frames_got past)) (unit (is_on Sabm d f) + many (is_on Sabm d) (frames_sent past)) h (omega arith) (omega arith)
state_says d (Called c ∷ past) = still d past (Called c) refl refl refl refl (state_says d past)
state_says d (Tick ∷ past) = still d past Tick refl refl refl refl (state_says d past)
state_says d (Lost ∷ past) = still d past Lost refl refl refl refl (state_says d past)
state_says d (Given ∷ past) = still d past Given refl refl refl refl (state_says d past)
