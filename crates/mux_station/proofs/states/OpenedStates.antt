-- Opened in the table is open.
use Rattle.std.specs.Prelude.{◌≡◌, ℕ, ◌+◌, ◌==◌, ◌&&◌, ◌||◌, not, Bool, true, false, List, [], ◌∷◌, refl, if◌then◌else◌}
use Rattle.std.specs.Bool.{beq}
use Rattle.std.proofs.Common.{ap, sym, ◌∙◌, subst, eqb-true}
use Rattle.std.proofs.lemmas.Bool.{and_parts}
use Rattle.mux_frame.specs.Frames.{Frame}
use Rattle.mux_frame.specs.declared.frame.Kind.{Kind}
use Rattle.mux_frame.specs.declared.frame.Kind.TheVariants.{Sabm, Ua, Dm, Disc, Uih}
use Rattle.mux_station.specs.declared.role.Role.{Role}
use Rattle.mux_station.specs.declared.role.Role.TheVariants.{Initiator, Responder}
use Rattle.mux_station.specs.Written.{is_kind}
use Rattle.mux_station.specs.Messages.{cld, octet_is, message_of, command_of}
use Rattle.mux_station.specs.Acts.{Act, Called, Got, Sent, Tick, Lost, Given}
use Rattle.mux_station.specs.OpeningRule.{Standing, standing_after, standings, OpenedIsOpen}
use Rattle.mux_station.specs.States.{State, IsShut, IsOpening, IsOpened, IsClosing, IsStopping, is_opened, at_tick, at_sent, got_by, at_close_down, own_after, states, state_of, ends_itself}
use Rattle.mux_station.specs.Tables.{is_opening as opening}

beq_same : (b c : Bool) → beq b c ≡ true → b ≡ c
beq_same true true h = refl
beq_same false false h = refl
beq_same true false h = cc
beq_same false true h = cc

is_opening : State → Bool
is_opening (IsOpening n) = true
is_opening _ = false

abbrev mk : Bool → Bool → Standing
mk o a = record { is_open = o; is_asked = a }

-- the state and the standing say the same
abbrev fits : Role → State → Standing → Bool
fits Initiator s t = beq (is_opened s) t.is_open && beq (is_opening s) (t.is_asked && not t.is_open)
fits Responder s t = beq (is_opened s) t.is_open

abbrev implies : Bool → Bool → Bool
implies p q = not p || q

by_implies : (p q : Bool) → implies p q ≡ true → p ≡ true → q ≡ true
by_implies true q h k = h
by_implies false q h k = cc

-- a test of all values
abbrev bools : (Bool → Bool) → Bool
bools p = p true && p false

bool_at : (p : Bool → Bool) → bools p ≡ true → (b : Bool) → p b ≡ true
bool_at p h true = (and_parts (p true) (p false) h).0
bool_at p h false = (and_parts (p true) (p false) h).1

abbrev roles : (Role → Bool) → Bool
roles p = p Initiator && p Responder

role_at : (p : Role → Bool) → roles p ≡ true → (r : Role) → p r ≡ true
role_at p h Initiator = (and_parts (p Initiator) (p Responder) h).0
role_at p h Responder = (and_parts (p Initiator) (p Responder) h).1

abbrev kinds : (Kind → Bool) → Bool
kinds p = p Sabm && (p Ua && (p Dm && (p Disc && p Uih)))

kind_at : (p : Kind → Bool) → kinds p ≡ true → (k : Kind) → p k ≡ true
kind_at p h Sabm = (and_parts (p Sabm) (p Ua && (p Dm && (p Disc && p Uih))) h).0
kind_at p h Ua = (and_parts (p Ua) (p Dm && (p Disc && p Uih)) (and_parts (p Sabm) (p Ua && (p Dm && (p Disc && p Uih))) h).1).0
kind_at p h Dm = (and_parts (p Dm) (p Disc && p Uih) (and_parts (p Ua) (p Dm && (p Disc && p Uih)) (and_parts (p Sabm) (p Ua && (p Dm && (p Disc && p Uih))) h).1).1).0
kind_at p h Disc = (and_parts (p Disc) (p Uih) (and_parts (p Dm) (p Disc && p Uih) (and_parts (p Ua) (p Dm && (p Disc && p Uih)) (and_parts (p Sabm) (p Ua && (p Dm && (p Disc && p Uih))) h).1).1).1).0
kind_at p h Uih = (and_parts (p Disc) (p Uih) (and_parts (p Dm) (p Disc && p Uih) (and_parts (p Ua) (p Dm && (p Disc && p Uih)) (and_parts (p Sabm) (p Ua && (p Dm && (p Disc && p Uih))) h).1).1).1).1

-- of a role, a kind and six flags
abbrev all8 : (Role → Kind → Bool → Bool → Bool → Bool → Bool → Bool → Bool) → Bool
all8 p = roles (λ r. kinds (λ k. bools (λ b. bools (λ c. bools (λ x. bools (λ y. bools (λ o. bools (λ a. p r k b c x y o a))))))))

all8_at : (p : Role → Kind → Bool → Bool → Bool → Bool → Bool → Bool → Bool) → all8 p ≡ true → (r : Role) (k : Kind) (b c x y o a : Bool) → p r k b c x y o a ≡ true
all8_at p h r k b c x y o a =
    bool_at (λ a. p r k b c x y o a)
    (bool_at (λ o. bools (λ a. p r k b c x y o a))
    (bool_at (λ y. bools (λ o. bools (λ a. p r k b c x y o a)))
    (bool_at (λ x. bools (λ y. bools (λ o. bools (λ a. p r k b c x y o a))))
    (bool_at (λ c. bools (λ x. bools (λ y. bools (λ o. bools (λ a. p r k b c x y o a)))))
    (bool_at (λ b. bools (λ c. bools (λ x. bools (λ y. bools (λ o. bools (λ a. p r k b c x y o a))))))
    (kind_at (λ k. bools (λ b. bools (λ c. bools (λ x. bools (λ y. bools (λ o. bools (λ a. p r k b c x y o a)))))))
    (role_at (λ r. kinds (λ k. bools (λ b. bools (λ c. bools (λ x. bools (λ y. bools (λ o. bools (λ a. p r k b c x y o a)))))))) h r) k) b) c) x) y) o) a

-- a frame of kind k, on: it is on the connection, on0: it is on 0, e: the connection is 0, c: it has a CLD command, x: a response, z: 0 is open

abbrev is_mode : Kind → Bool → Bool
is_mode k on = (is_kind k Sabm && on) || ((is_kind k Ua && on) || ((is_kind k Dm && on) || (is_kind k Disc && on)))

abbrev close : Kind → Bool → Bool → Bool
close k on0 c = (is_kind k Uih && on0) && c

abbrev sent_ends : Kind → Bool → Bool → Bool → Bool
sent_ends k on on0 c = (is_kind k Disc && on) || close k on0 c

abbrev sent_standing : Kind → Bool → Bool → Standing → Standing
sent_standing k on ended t = record {
  is_open = false || (t.is_open && not ended);
  is_asked = (is_kind k Sabm && on) || (t.is_asked && not (is_mode k on || ended));
}

abbrev sent_own : Kind → Bool → Bool → Bool → Bool → State → State
sent_own k on on0 c e s = if e && close k on0 c then IsStopping 0 else if on then at_sent s k else s

abbrev got_ends : Kind → Bool → Bool → Bool → Bool → Bool
got_ends k on on0 c z = (is_kind k Disc && on) || ((is_kind k Dm && on) || ((is_kind k Sabm && on) || (z && close k on0 c)))

abbrev got_opens : Role → Kind → Bool → Bool → Bool → Bool → Bool
got_opens Initiator k on e z a = (is_kind k Ua && on) && a
got_opens Responder k on e z a = (is_kind k Sabm && on) && (e || z)

abbrev got_standing : Role → Kind → Bool → Bool → Bool → Bool → Standing → Standing
got_standing r k on e z ended t = record {
  is_open = got_opens r k on e z t.is_asked || (t.is_open && not ended);
  is_asked = false || (t.is_asked && not (is_mode k on || ended));
}

abbrev got_own : Role → Kind → Bool → Bool → Bool → Bool → Bool → Bool → State → State
got_own r k on on0 c x e z s =
    if on then (if e then at_close_down (close k on0 c) (close k on0 x) (got_by r true s k) else got_by r z s k) else s

-- ## 0

abbrev sent_zero : State → Role → Kind → Bool → Bool → Bool → Bool → Bool → Bool → Bool
sent_zero s r k on c x y o a =
    implies (fits r s (mk o a)) (fits r (sent_own k on on c true s) (sent_standing k on (sent_ends k on on c || (not true && sent_ends k on on c)) (mk o a)))

sent_zero_all : (s : State) → all8 (sent_zero s) ≡ true
unfolding is_opening
sent_zero_all IsShut = refl
sent_zero_all (IsOpening n) = refl
sent_zero_all IsOpened = refl
sent_zero_all (IsClosing n) = refl
sent_zero_all (IsStopping n) = refl

abbrev got_zero : State → Role → Kind → Bool → Bool → Bool → Bool → Bool → Bool → Bool
got_zero s r k on c x y o a =
    implies (fits r s (mk o a)) (fits r (got_own r k on on c x true true s) (got_standing r k on true o (got_ends k on on c o || (not true && got_ends k on on c o)) (mk o a)))

got_zero_all : (s : State) → all8 (got_zero s) ≡ true
unfolding is_opening
got_zero_all IsShut = refl
got_zero_all (IsOpening n) = refl
got_zero_all IsOpened = refl
got_zero_all (IsClosing n) = refl
got_zero_all (IsStopping n) = refl

-- ## Another connection

abbrev sent_lane : State → Role → Kind → Bool → Bool → Bool → Bool → Bool → Bool → Bool
sent_lane s r k on c on0 y o a =
    implies (fits r s (mk o a)) (fits r (if sent_ends k on0 on0 c then IsShut else sent_own k on on0 c false s) (sent_standing k on (sent_ends k on on0 c || (not false && sent_ends k on0 on0 c)) (mk o a)))

sent_lane_all : (s : State) → all8 (sent_lane s) ≡ true
unfolding is_opening
sent_lane_all IsShut = refl
sent_lane_all (IsOpening n) = refl
sent_lane_all IsOpened = refl
sent_lane_all (IsClosing n) = refl
sent_lane_all (IsStopping n) = refl

abbrev got_lane : Bool → State → Role → Kind → Bool → Bool → Bool → Bool → Bool → Bool → Bool
got_lane x s r k on c on0 z o a =
    implies (not (on && on0)) (implies (fits r s (mk o a)) (fits r (if got_ends k on0 on0 c z then IsShut else got_own r k on on0 c x false z s) (got_standing r k on false z (got_ends k on on0 c z || (not false && got_ends k on0 on0 c z)) (mk o a))))

got_lane_all : (x : Bool) (s : State) → all8 (got_lane x s) ≡ true
unfolding is_opening
got_lane_all x IsShut = refl
got_lane_all x (IsOpening n) = refl
got_lane_all x IsOpened = refl
got_lane_all x (IsClosing n) = refl
got_lane_all x (IsStopping n) = refl

-- ## What is no frame

-- gone: the line is lost, e: the connection is 0
abbrev still : Bool → Bool → Bool → Standing → Standing
still gone e none t = record {
  is_open = none || (t.is_open && not (gone || (not e && gone)));
  is_asked = false || (t.is_asked && not (false || (gone || (not e && gone))));
}

abbrev rest_all8 : State → Role → Kind → Bool → Bool → Bool → Bool → Bool → Bool → Bool
rest_all8 s r k gone e x y o a =
    implies (fits r s (mk o a)) (fits r (if gone then IsShut else s) (still gone e false (mk o a)))

rest_all : (s : State) → all8 (rest_all8 s) ≡ true
unfolding is_opening
rest_all IsShut = refl
rest_all (IsOpening n) = refl
rest_all IsOpened = refl
rest_all (IsClosing n) = refl
rest_all (IsStopping n) = refl

ticked : (s : State) → State → Bool → State
ticked (IsClosing n) t b = if b then IsShut else t
ticked (IsStopping n) t b = if b then IsShut else t
ticked s t b = s

abbrev tick_all8 : State → State → Role → Kind → Bool → Bool → Bool → Bool → Bool → Bool → Bool
tick_all8 s t r k b e x y o a =
    implies (fits r s (mk o a)) (fits r (ticked s t b) (still false e false (mk o a)))

tick_all_closing : (n : ℕ) → all8 (tick_all8 (IsClosing n) (IsClosing n)) ≡ true
unfolding is_opening ticked
tick_all_closing n = refl

tick_all_stopping : (n : ℕ) → all8 (tick_all8 (IsStopping n) (IsStopping (n + 1))) ≡ true
unfolding is_opening ticked
tick_all_stopping n = refl

rested : (r : Role) (s : State) (t : Standing) (gone e : Bool) → fits r s t ≡ true → fits r (if gone then IsShut else s) (still gone e false t) ≡ true
rested r s t gone e h =
    by_implies (fits r s t) (fits r (if gone then IsShut else s) (still gone e false t))
    (all8_at (rest_all8 s) (rest_all s) r Sabm gone e true true t.is_open t.is_asked) h

at_ticks : (r : Role) (s : State) (t : Standing) (e : Bool) → fits r s t ≡ true → fits r (at_tick s) (still false e false t) ≡ true
unfolding ticked
at_ticks r IsShut t e h = rested r IsShut t false e h
at_ticks r (IsOpening n) t e h = rested r (IsOpening n) t false e h
at_ticks r IsOpened t e h = rested r IsOpened t false e h
at_ticks r (IsClosing n) t e h =
    by_implies (fits r (IsClosing n) t) (fits r (if n == 3 then IsShut else IsClosing n) (still false e false t))
    (all8_at (tick_all8 (IsClosing n) (IsClosing n)) (tick_all_closing n) r Sabm (n == 3) e true true t.is_open t.is_asked) h
at_ticks r (IsStopping n) t e h =
    by_implies (fits r (IsStopping n) t) (fits r (if n == 3 then IsShut else IsStopping (n + 1)) (still false e false t))
    (all8_at (tick_all8 (IsStopping n) (IsStopping (n + 1))) (tick_all_stopping n) r Sabm (n == 3) e true true t.is_open t.is_asked) h

-- ## One act

cld_in : Frame → Bool
cld_in f = octet_is (λ n. n) cld (message_of f.info)

reply_in : Frame → Bool
reply_in f = octet_is command_of cld (message_of f.info)

zero_step : (r : Role) (s : State) (t : Standing) (a : Act) → fits r s t ≡ true → fits r (own_after r 0 true s a) (standing_after r t.is_open 0 t a) ≡ true
unfolding cld_in reply_in
zero_step Initiator s t (Sent f) h =
    let on = f.dlci == 0 in
    by_implies (fits Initiator s t) (fits Initiator (own_after Initiator 0 true s (Sent f)) (standing_after Initiator t.is_open 0 t (Sent f)))
    (all8_at (sent_zero s) (sent_zero_all s) Initiator f.kind on (cld_in f) true true t.is_open t.is_asked) h
zero_step Initiator s t (Got f) h =
    let on = f.dlci == 0 in
    by_implies (fits Initiator s t) (fits Initiator (own_after Initiator 0 true s (Got f)) (standing_after Initiator t.is_open 0 t (Got f)))
    (all8_at (got_zero s) (got_zero_all s) Initiator f.kind on (cld_in f) (reply_in f) true t.is_open t.is_asked) h
zero_step Initiator s t Lost h = rested Initiator s t true true h
zero_step Initiator s t Tick h = at_ticks Initiator s t true h
zero_step Initiator s t (Called x) h = rested Initiator s t false true h
zero_step Initiator s t Given h = rested Initiator s t false true h
zero_step Responder s t (Sent f) h =
    let on = f.dlci == 0 in
    by_implies (fits Responder s t) (fits Responder (own_after Responder 0 true s (Sent f)) (standing_after Responder t.is_open 0 t (Sent f)))
    (all8_at (sent_zero s) (sent_zero_all s) Responder f.kind on (cld_in f) true true t.is_open t.is_asked) h
zero_step Responder s t (Got f) h =
    let on = f.dlci == 0 in
    by_implies (fits Responder s t) (fits Responder (own_after Responder 0 true s (Got f)) (standing_after Responder t.is_open 0 t (Got f)))
    (all8_at (got_zero s) (got_zero_all s) Responder f.kind on (cld_in f) (reply_in f) true t.is_open t.is_asked) h
zero_step Responder s t Lost h = rested Responder s t true true h
zero_step Responder s t Tick h = at_ticks Responder s t true h
zero_step Responder s t (Called x) h = rested Responder s t false true h
zero_step Responder s t Given h = rested Responder s t false true h

apart_by : (n d : ℕ) (b : Bool) → (n == d) ≡ b → (d == 0) ≡ false → not (b && (n == 0)) ≡ true
apart_by n d false e h = refl
apart_by n d true e h =
    let same : n ≡ d = eqb-true n d e in
    let none : (n == 0) ≡ false = ap (λ (m : ℕ). m == 0) same ∙ h in
    ap not none

lane_step : (r : Role) (d : ℕ) (z : Bool) (s : State) (t : Standing) (a : Act) → (d == 0) ≡ false → fits r s t ≡ true
    → fits r (if ends_itself z 0 a then IsShut else own_after r d z s a) (standing_after r z d t a) ≡ true
unfolding cld_in reply_in
lane_step Initiator d z s t (Sent f) n h =
    let on = f.dlci == d in
    let on0 = f.dlci == 0 in
    let c = cld_in f in
    subst (λ (e : Bool). fits Initiator (if sent_ends f.kind on0 on0 c then IsShut else sent_own f.kind on on0 c e s) (sent_standing f.kind on (sent_ends f.kind on on0 c || (not e && sent_ends f.kind on0 on0 c)) t) ≡ true) (sym n)
    (by_implies (fits Initiator s t) (fits Initiator (if sent_ends f.kind on0 on0 c then IsShut else sent_own f.kind on on0 c false s) (sent_standing f.kind on (sent_ends f.kind on on0 c || (not false && sent_ends f.kind on0 on0 c)) t))
    (all8_at (sent_lane s) (sent_lane_all s) Initiator f.kind on c on0 true t.is_open t.is_asked) h)
lane_step Initiator d z s t (Got f) n h =
    let on = f.dlci == d in
    let on0 = f.dlci == 0 in
    let c = cld_in f in
    let x = reply_in f in
    subst (λ (e : Bool). fits Initiator (if got_ends f.kind on0 on0 c z then IsShut else got_own Initiator f.kind on on0 c x e z s) (got_standing Initiator f.kind on e z (got_ends f.kind on on0 c z || (not e && got_ends f.kind on0 on0 c z)) t) ≡ true) (sym n)
    (by_implies (fits Initiator s t) (fits Initiator (if got_ends f.kind on0 on0 c z then IsShut else got_own Initiator f.kind on on0 c x false z s) (got_standing Initiator f.kind on false z (got_ends f.kind on on0 c z || (not false && got_ends f.kind on0 on0 c z)) t))
    (by_implies (not (on && on0)) _ (all8_at (got_lane x s) (got_lane_all x s) Initiator f.kind on c on0 z t.is_open t.is_asked) (apart_by f.dlci d on refl n)) h)
lane_step Initiator d z s t Lost n h = rested Initiator s t true (d == 0) h
lane_step Initiator d z s t Tick n h = at_ticks Initiator s t (d == 0) h
lane_step Initiator d z s t (Called x) n h = rested Initiator s t false (d == 0) h
lane_step Initiator d z s t Given n h = rested Initiator s t false (d == 0) h
lane_step Responder d z s t (Sent f) n h =
    let on = f.dlci == d in
    let on0 = f.dlci == 0 in
    let c = cld_in f in
    subst (λ (e : Bool). fits Responder (if sent_ends f.kind on0 on0 c then IsShut else sent_own f.kind on on0 c e s) (sent_standing f.kind on (sent_ends f.kind on on0 c || (not e && sent_ends f.kind on0 on0 c)) t) ≡ true) (sym n)
    (by_implies (fits Responder s t) (fits Responder (if sent_ends f.kind on0 on0 c then IsShut else sent_own f.kind on on0 c false s) (sent_standing f.kind on (sent_ends f.kind on on0 c || (not false && sent_ends f.kind on0 on0 c)) t))
    (all8_at (sent_lane s) (sent_lane_all s) Responder f.kind on c on0 true t.is_open t.is_asked) h)
lane_step Responder d z s t (Got f) n h =
    let on = f.dlci == d in
    let on0 = f.dlci == 0 in
    let c = cld_in f in
    let x = reply_in f in
    subst (λ (e : Bool). fits Responder (if got_ends f.kind on0 on0 c z then IsShut else got_own Responder f.kind on on0 c x e z s) (got_standing Responder f.kind on e z (got_ends f.kind on on0 c z || (not e && got_ends f.kind on0 on0 c z)) t) ≡ true) (sym n)
    (by_implies (fits Responder s t) (fits Responder (if got_ends f.kind on0 on0 c z then IsShut else got_own Responder f.kind on on0 c x false z s) (got_standing Responder f.kind on false z (got_ends f.kind on on0 c z || (not false && got_ends f.kind on0 on0 c z)) t))
    (by_implies (not (on && on0)) _ (all8_at (got_lane x s) (got_lane_all x s) Responder f.kind on c on0 z t.is_open t.is_asked) (apart_by f.dlci d on refl n)) h)
lane_step Responder d z s t Lost n h = rested Responder s t true (d == 0) h
lane_step Responder d z s t Tick n h = at_ticks Responder s t (d == 0) h
lane_step Responder d z s t (Called x) n h = rested Responder s t false (d == 0) h
lane_step Responder d z s t Given n h = rested Responder s t false (d == 0) h

-- ## The whole past

opened_same : (r : Role) (s : State) (t : Standing) → fits r s t ≡ true → is_opened s ≡ t.is_open
opened_same Initiator s t h = beq_same (is_opened s) t.is_open (and_parts (beq (is_opened s) t.is_open) (beq (is_opening s) (t.is_asked && not t.is_open)) h).0
opened_same Responder s t h = beq_same (is_opened s) t.is_open h

zero_fits : (r : Role) (d : ℕ) (past : List Act) → fits r (states r d past).zero (standings r d past).zero ≡ true
unfolding is_opening
zero_fits Initiator d [] = refl
zero_fits Responder d [] = refl
zero_fits Initiator d (a ∷ past) = zero_step Initiator (states Initiator d past).zero (standings Initiator d past).zero a (zero_fits Initiator d past)
zero_fits Responder d (a ∷ past) = zero_step Responder (states Responder d past).zero (standings Responder d past).zero a (zero_fits Responder d past)

lane_fits : (r : Role) (d : ℕ) (past : List Act) → (d == 0) ≡ false → fits r (states r d past).own (standings r d past).own ≡ true
unfolding is_opening
lane_fits Initiator d [] n = refl
lane_fits Responder d [] n = refl
lane_fits r d (a ∷ past) n =
    let s = states r d past in
    let t = standings r d past in
    let z : is_opened s.zero ≡ t.zero.is_open = opened_same r s.zero t.zero (zero_fits r d past) in
    let next : State = own_after r 0 true s.zero a in
    let there : fits r (if ends_itself (is_opened s.zero) 0 a then IsShut else own_after r d (is_opened s.zero) s.own a) (standing_after r (is_opened s.zero) d t.own a) ≡ true
    = lane_step r d (is_opened s.zero) s.own t.own a n (lane_fits r d past n) in
    let moved : fits r (if ends_itself (is_opened s.zero) 0 a then IsShut else own_after r d (is_opened s.zero) s.own a) (standing_after r t.zero.is_open d t.own a) ≡ true
    = subst (λ (v : Bool). fits r (if ends_itself (is_opened s.zero) 0 a then IsShut else own_after r d (is_opened s.zero) s.own a) (standing_after r v d t.own a) ≡ true) z there in
    subst (λ (e : Bool). fits r (if e then next else (if ends_itself (is_opened s.zero) 0 a then IsShut else own_after r d (is_opened s.zero) s.own a)) (standing_after r t.zero.is_open d t.own a) ≡ true) (sym n) moved

own_zero : (r : Role) (past : List Act) → (standings r 0 past).own ≡ (standings r 0 past).zero
own_zero r [] = refl
own_zero r (a ∷ past) = ap (λ (t : Standing). standing_after r (standings r 0 past).zero.is_open 0 t a) (own_zero r past)

state_zero : (r : Role) (past : List Act) → (states r 0 past).own ≡ (states r 0 past).zero
state_zero r [] = refl
state_zero r (a ∷ past) = refl

by_zero : (r : Role) (past : List Act) (d : ℕ) (b : Bool) → (d == 0) ≡ b → is_opened (states r d past).own ≡ (standings r d past).own.is_open
by_zero r past d false n = opened_same r (states r d past).own (standings r d past).own (lane_fits r d past n)
by_zero r past d true e =
    let here : is_opened (states r 0 past).own ≡ (standings r 0 past).own.is_open =
    ap is_opened (state_zero r past) ∙ (opened_same r (states r 0 past).zero (standings r 0 past).zero (zero_fits r 0 past) ∙ sym (ap (λ (t : Standing). t.is_open) (own_zero r past))) in
    subst (λ (m : ℕ). is_opened (states r m past).own ≡ (standings r m past).own.is_open) (sym (eqb-true d 0 e)) here

-- a connection is Opened in the table exactly where it is open
pub opened_is_open : (r : Role) (past : List Act) → OpenedIsOpen r past
opened_is_open r past d = by_zero r past d (d == 0) refl

asked_same : (s : State) (t : Standing) → fits Initiator s t ≡ true → opening s ≡ (t.is_asked && not t.is_open)
unfolding is_opening
asked_same IsShut t h = beq_same false (t.is_asked && not t.is_open) (and_parts (beq false t.is_open) (beq false (t.is_asked && not t.is_open)) h).1
asked_same (IsOpening n) t h = beq_same true (t.is_asked && not t.is_open) (and_parts (beq false t.is_open) (beq true (t.is_asked && not t.is_open)) h).1
asked_same IsOpened t h = beq_same false (t.is_asked && not t.is_open) (and_parts (beq true t.is_open) (beq false (t.is_asked && not t.is_open)) h).1
asked_same (IsClosing n) t h = beq_same false (t.is_asked && not t.is_open) (and_parts (beq false t.is_open) (beq false (t.is_asked && not t.is_open)) h).1
asked_same (IsStopping n) t h = beq_same false (t.is_asked && not t.is_open) (and_parts (beq false t.is_open) (beq false (t.is_asked && not t.is_open)) h).1

abbrev is_asked_at : ℕ → List Act → Bool
is_asked_at d past = (standings Initiator d past).own.is_asked && not (standings Initiator d past).own.is_open

asked_at : (past : List Act) (d : ℕ) (b : Bool) → (d == 0) ≡ b → opening (states Initiator d past).own ≡ is_asked_at d past
asked_at past d false n = asked_same (states Initiator d past).own (standings Initiator d past).own (lane_fits Initiator d past n)
asked_at past d true e =
    let here : opening (states Initiator 0 past).own ≡ is_asked_at 0 past =
    ap opening (state_zero Initiator past)
    ∙ (asked_same (states Initiator 0 past).zero (standings Initiator 0 past).zero (zero_fits Initiator 0 past)
    ∙ sym (ap (λ (t : Standing). t.is_asked && not t.is_open) (own_zero Initiator past))) in
    subst (λ (m : ℕ). opening (states Initiator m past).own ≡ is_asked_at m past) (sym (eqb-true d 0 e)) here

-- an initiator's connection is Opening exactly where a SABM was its last mode frame and it isn't open
pub opening_is_asked : (d : ℕ) (past : List Act) → opening (state_of Initiator d past) ≡ ((standings Initiator d past).own.is_asked && not (standings Initiator d past).own.is_open)
opening_is_asked d past = asked_at past d (d == 0) refl
