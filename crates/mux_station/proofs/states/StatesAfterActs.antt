-- One act further: what a connection comes to.
use Rattle.std.specs.Prelude.{◌≡◌, ℕ, ◌&&◌, ◌||◌, not, Bool, true, false, List, [], ◌∷◌, ◌++◌, refl, Option, None, unwrap_or}
use Rattle.std.proofs.Common.{◌∙◌, ap, sym, append_assoc, append-nil}
use Rattle.mux_station.specs.declared.role.Role.{Role}
use Rattle.mux_station.specs.Acts.{Act}
use Rattle.mux_station.specs.Opening.{asks, is_mode_frame, ends, is_asked, is_open, since, since_after, opens_now, belongs}
use Rattle.mux_station.specs.States.{State, IsOpened, is_opened, own_after, joined, states, state_of}
use Rattle.mux_station.specs.Stopping.{last_said, got_says, msc_says}
use Rattle.mux_station.specs.Offering.{offered, data_out, octets_offered, octets_sent, joined_octets}
use Rattle.mux_station.specs.Stations.{Channel}
use Rattle.mux_station.specs.Fitting.{ChannelFits}
use Rattle.mux_station.proofs.states.OpeningSteps.{is_open_after}

-- ## States

-- 0's own state is that of 0
pub zero_own : (r : Role) (past : List Act) → (states r 0 past).own ≡ (states r 0 past).zero
zero_own r [] = refl
zero_own r (a ∷ past) = refl

zero_beside : (r : Role) (d : ℕ) (past : List Act) → (states r d past).zero ≡ (states r 0 past).zero
zero_beside r d [] = refl
zero_beside r d (a ∷ past) = ap (λ (s : State). own_after r 0 true s a) (zero_beside r d past)

-- and 0 has its own state beside every connection
pub state_beside : (r : Role) (d : ℕ) (past : List Act) → (states r d past).zero ≡ state_of r 0 past
state_beside r d past = zero_beside r d past ∙ sym (zero_own r past)

-- the state of d after one act more, where the state of 0 was z and its own was s
abbrev pub next_state : Role → ℕ → State → State → Act → State
next_state r d z s a = (joined r d (record { zero = z; own = s }) (own_after r 0 true z a) a).own

-- an act makes it so, of the state of 0 and its own before
pub state_next : (r : Role) (d : ℕ) (past : List Act) (a : Act) → state_of r d (a ∷ past) ≡ next_state r d (state_of r 0 past) (state_of r d past) a
state_next r d past a = ap (λ (z : State). next_state r d z (state_of r d past) a) (state_beside r d past)

-- ## A connection

-- a connection that is Opened is open
pub opened_open : (r : Role) (d : ℕ) (past : List Act) (s : State) → state_of r d past ≡ s → is_opened s ≡ true → is_open r d past ≡ true
opened_open r d past s e o = ap is_opened e ∙ o

none_opened : (s : State) → is_opened s ≡ false → is_opened s ≡ true → ⊥
none_opened s f t = let e : false ≡ true = sym f ∙ t in cc

-- a connection that isn't open
pub shut_now : (r : Role) (d : ℕ) (past : List Act) (c : Channel) → state_of r d past ≡ c.state → is_opened c.state ≡ false → ChannelFits r d past c
shut_now r d past c e f = record {
  state_is = e;
  unasked = λ t. absurd (none_opened c.state f t);
  stop_is = λ t. absurd (none_opened c.state f t);
  ring_is = λ t. absurd (none_opened c.state f t);
}

asked_off : (b : Bool) (w e : Bool) → w ≡ true → (b && not (w || e)) ≡ false
asked_off true true e h = refl
asked_off true false e h = cc
asked_off false w e h = refl

or_false : (b c : Bool) → b ≡ false → c ≡ false → (b || c) ≡ false
or_false false c g h = h
or_false true c g h = cc

-- nothing follows the act that opens it
pub since_opens : (r : Role) (d : ℕ) (past : List Act) (a : Act) → opens_now r d past a ≡ true → since r d (a ∷ past) ≡ []
since_opens r d past a o = ap (λ (b : Bool). since_after b (belongs r d past a) a (since r d past)) o

-- a connection that opens, again or for the first time
pub opened_now : (r : Role) (d : ℕ) (past : List Act) (a : Act) → opens_now r d past a ≡ true → asks d a ≡ false → is_mode_frame d a ≡ true
    → state_of r d (a ∷ past) ≡ IsOpened → ChannelFits r d (a ∷ past) (record { state = IsOpened; is_stopped = false; waiting = [] })
opened_now r d past a o k w e =
    let none = since_opens r d past a o in
    record {
      state_is = e;
      unasked = λ t. or_false (asks d a) (is_asked r d past && not (is_mode_frame d a || ends (is_open r 0 past) d a)) k (asked_off (is_asked r d past) (is_mode_frame d a) (ends (is_open r 0 past) d a) w);
      stop_is = λ t. ap (last_said (got_says (msc_says d))) none;
      ring_is = λ t. ap (joined_octets (octets_offered d)) none ∙ sym (append-nil (data_out r d (a ∷ past)) ∙ ap (joined_octets (octets_sent d)) none);
    }

stays_belongs : (o b : Bool) → (o || b) ≡ true → o ≡ false → b ≡ true
stays_belongs false b h k = h
stays_belongs true b h k = cc

-- an act that doesn't open a connection, which is open after it, follows its opening
pub since_goes_on : (r : Role) (d : ℕ) (past : List Act) (a : Act) → opens_now r d past a ≡ false → is_open r d (a ∷ past) ≡ true → since r d (a ∷ past) ≡ a ∷ since r d past
since_goes_on r d past a o h =
    let b : belongs r d past a ≡ true = stays_belongs (opens_now r d past a) (belongs r d past a) (sym (is_open_after r d past a) ∙ h) o in
    ap (λ (v : Bool). since_after v (belongs r d past a) a (since r d past)) o ∙ ap (λ (v : Bool). since_after false v a (since r d past)) b

asked_stays : (b e : Bool) (x : Bool) → b ≡ false → e ≡ false → (e || (b && x)) ≡ false
asked_stays false false x h k = refl
asked_stays true e x h k = cc
asked_stays b true x h k = cc

-- where more joins what waits, and some leaves its front, all offered is still all given on and then what waits
pub offered_more : (off sent waiting more less waiting2 : List ℕ) → off ≡ sent ++ waiting → waiting ++ more ≡ less ++ waiting2 → off ++ more ≡ sent ++ less ++ waiting2
offered_more off sent waiting more less waiting2 h k =
    ap (λ (v : List ℕ). v ++ more) h ∙ (append_assoc sent waiting more ∙ (ap (λ (v : List ℕ). sent ++ v) k ∙ sym (append_assoc sent less waiting2)))

-- a connection that stays open
pub goes_on : (r : Role) (d : ℕ) (past : List Act) (a : Act) (c new : Channel) → ChannelFits r d past c → is_opened c.state ≡ true → state_of r d (a ∷ past) ≡ new.state → is_opened new.state ≡ true
    → opens_now r d past a ≡ false → asks d a ≡ false
    → new.is_stopped ≡ unwrap_or (got_says (msc_says d) a) c.is_stopped → c.waiting ++ octets_offered d a ≡ octets_sent d a ++ new.waiting
    → ChannelFits r d (a ∷ past) new
goes_on r d past a c new h o e t n k stops rings =
    let on : since r d (a ∷ past) ≡ a ∷ since r d past = since_goes_on r d past a n (opened_open r d (a ∷ past) new.state e t) in
    record {
      state_is = e;
      unasked = λ v. asked_stays (is_asked r d past) (asks d a) (not (is_mode_frame d a || ends (is_open r 0 past) d a)) (h.unasked o) k;
      stop_is = λ v. ap (last_said (got_says (msc_says d))) on ∙ (ap (λ (b : Bool). unwrap_or (got_says (msc_says d) a) b) (h.stop_is o) ∙ sym stops);
      ring_is = λ v. ap (joined_octets (octets_offered d)) on ∙ (offered_more (offered r d past) (data_out r d past) c.waiting (octets_offered d a) (octets_sent d a) new.waiting (h.ring_is o) rings
          ∙ ap (λ (w : List Act). joined_octets (octets_sent d) w ++ new.waiting) (sym on));
    }

-- a connection that the act doesn't concern
pub untouched : (r : Role) (d : ℕ) (past : List Act) (a : Act) (c : Channel) → ChannelFits r d past c → state_of r d (a ∷ past) ≡ c.state
    → opens_now r d past a ≡ false → asks d a ≡ false → got_says (msc_says d) a ≡ None → octets_offered d a ≡ [] → octets_sent d a ≡ []
    → ChannelFits r d (a ∷ past) c
untouched r d past a c h e n k m o s = by_state (is_opened c.state) refl
  where
    by_state : (b : Bool) → is_opened c.state ≡ b → ChannelFits r d (a ∷ past) c
    by_state false f = shut_now r d (a ∷ past) c e f
    by_state true t =
        goes_on r d past a c c h t e t n k (ap (λ (w : Option Bool). unwrap_or w c.is_stopped) (sym m))
        (ap (λ (v : List ℕ). c.waiting ++ v) o ∙ (append-nil c.waiting ∙ ap (λ (v : List ℕ). v ++ c.waiting) (sym s)))
