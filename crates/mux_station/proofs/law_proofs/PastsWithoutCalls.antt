-- A past says the same without the calls of the user.
use Rattle.std.specs.Prelude.{◌≡◌, ℕ, ◌==◌, ◌&&◌, ◌||◌, not, Bool, true, false, List, [], ◌∷◌, ◌++◌, refl, if◌then◌else◌, drop, unwrap_or, Option}
use Rattle.std.proofs.Common.{◌∙◌, ap, sym, subst, eqb-true, append-nil}
use Rattle.mux_frame.specs.Frames.{Frame}
use Rattle.mux_station.specs.declared.role.Role.{Role}
use Rattle.mux_station.specs.declared.role.Role.TheVariants.{Initiator, Responder}
use Rattle.mux_station.specs.Written.{is_data_frame}
use Rattle.mux_station.specs.Acts.{Call, Act, Called, Got, Sent, Tick, Lost, Given}
use Rattle.mux_station.specs.Opening.{asks, ends, is_asked, is_mode_frame, is_open, opens, since_after, since, opens_now, belongs}
use Rattle.mux_station.specs.States.{State, States, is_opened, states_after, states}
use Rattle.mux_station.specs.Stopping.{last_said, got_says, msc_says, flow_says, is_stopped}
use Rattle.mux_station.specs.Messages.{Message}
use Rattle.mux_station.specs.Sending.{queue}
use Rattle.mux_station.specs.Offering.{octets_sent, joined_octets, data_out}
use Rattle.mux_station.specs.Traces.{without_calls, LeavesNoTrace}
use Rattle.mux_station.proofs.states.StatesAfterActs.{zero_own}

-- ## States

-- a call changes no state
called_states : (r : Role) (d : ℕ) (s : States) (x : Call) → ((d == 0) ≡ true → s.own ≡ s.zero) → states_after r d s (Called x) ≡ s
called_states r d s x same = by_zero (d == 0) refl
  where
    by_zero : (b : Bool) → (d == 0) ≡ b → record { zero = s.zero; own = if b then s.zero else s.own } ≡ s
    by_zero true e = ap (λ (v : State). record { zero = s.zero; own = v }) (sym (same e))
    by_zero false e = refl

-- without the calls 0 and d have the same states
pub same_states : (r : Role) (d : ℕ) (past : List Act) → states r d (without_calls past) ≡ states r d past
same_states r d [] = refl
same_states r d (Called x ∷ past) = same_states r d past ∙ sym (called_states r d (states r d past) x (own_zero (d == 0) refl))
  where
    own_zero : (b : Bool) → (d == 0) ≡ b → b ≡ true → (states r d past).own ≡ (states r d past).zero
    own_zero b e t = subst (λ (m : ℕ). (states r m past).own ≡ (states r m past).zero) (sym (eqb-true d 0 (e ∙ t))) (zero_own r past)
same_states r d (Got f ∷ past) = ap (λ (s : States). states_after r d s (Got f)) (same_states r d past)
same_states r d (Sent f ∷ past) = ap (λ (s : States). states_after r d s (Sent f)) (same_states r d past)
same_states r d (Tick ∷ past) = ap (λ (s : States). states_after r d s Tick) (same_states r d past)
same_states r d (Lost ∷ past) = ap (λ (s : States). states_after r d s Lost) (same_states r d past)
same_states r d (Given ∷ past) = ap (λ (s : States). states_after r d s Given) (same_states r d past)

-- ## Openings

none_and : (b : Bool) → (false || (b && false)) ≡ false
none_and true = refl
none_and false = refl

stays : (o b e : Bool) → o ≡ false → e ≡ false → (o || (b && not e)) ≡ b
stays false true false h k = refl
stays false false false h k = refl
stays true b e h k = cc
stays false b true h k = cc

opens_none : (r : Role) (z k : Bool) (d : ℕ) (x : Call) → opens r z k d (Called x) ≡ false
opens_none Initiator z k d x = refl
opens_none Responder z k d x = refl

-- a call opens nothing, ends nothing and asks for nothing
called_asked : (r : Role) (d : ℕ) (past : List Act) (x : Call) → is_asked r d (Called x ∷ past) ≡ is_asked r d past
called_asked r d past x = stays false (is_asked r d past) (ends (is_open r 0 past) d (Called x)) refl (none_and (not (d == 0)))

-- without the calls d is open where it was
pub same_open : (r : Role) (d : ℕ) (past : List Act) → is_open r d (without_calls past) ≡ is_open r d past
same_open r d past = ap (λ (s : States). is_opened s.own) (same_states r d past)

asked_after : (r : Role) (d : ℕ) (past : List Act) (a : Act) → is_asked r d (without_calls past) ≡ is_asked r d past → is_asked r d (a ∷ without_calls past) ≡ is_asked r d (a ∷ past)
asked_after r d past a before =
    ap (λ (b : Bool). asks d a || (b && not (is_mode_frame d a || ends (is_open r 0 (without_calls past)) d a))) before
    ∙ ap (λ (b : Bool). asks d a || (is_asked r d past && not (is_mode_frame d a || ends b d a))) (same_open r 0 past)

-- and asked for where it was
pub same_asked : (r : Role) (d : ℕ) (past : List Act) → is_asked r d (without_calls past) ≡ is_asked r d past
same_asked r d [] = refl
same_asked r d (Called x ∷ past) = same_asked r d past ∙ sym (called_asked r d past x)
same_asked r d (Got f ∷ past) = asked_after r d past (Got f) (same_asked r d past)
same_asked r d (Sent f ∷ past) = asked_after r d past (Sent f) (same_asked r d past)
same_asked r d (Tick ∷ past) = asked_after r d past Tick (same_asked r d past)
same_asked r d (Lost ∷ past) = asked_after r d past Lost (same_asked r d past)
same_asked r d (Given ∷ past) = asked_after r d past Given (same_asked r d past)

-- ## What follows an opening

kept_after : (b c : Bool) (a : Act) (rest : List Act) → without_calls (a ∷ []) ≡ a ∷ [] → without_calls (since_after b c a rest) ≡ since_after b c a (without_calls rest)
kept_after true true a rest h = refl
kept_after true false a rest h = refl
kept_after false true a rest h = goes a h
  where
    goes : (a : Act) → without_calls (a ∷ []) ≡ a ∷ [] → without_calls (a ∷ rest) ≡ a ∷ without_calls rest
    goes (Called x) h = cc
    goes (Got f) h = refl
    goes (Sent f) h = refl
    goes Tick h = refl
    goes Lost h = refl
    goes Given h = refl
kept_after false false a rest h = refl

called_after : (b c : Bool) (x : Call) (rest : List Act) → b ≡ false → without_calls (since_after b c (Called x) rest) ≡ without_calls rest
called_after true c x rest h = cc
called_after false true x rest h = refl
called_after false false x rest h = refl

-- an act that is no call
more : (r : Role) (d : ℕ) (past : List Act) (a : Act) → without_calls (a ∷ []) ≡ a ∷ [] → since r d (without_calls past) ≡ without_calls (since r d past)
    → since r d (a ∷ without_calls past) ≡ without_calls (since r d (a ∷ past))
more r d past a h before =
    let rest = since r d (without_calls past) in
    let zero = same_open r 0 past in
    ap (λ (z : Bool). since_after (opens r z (is_asked r d (without_calls past)) d a) (is_open r d (without_calls past) && not (ends z d a)) a rest) zero
    ∙ (ap (λ (k : Bool). since_after (opens r (is_open r 0 past) k d a) (is_open r d (without_calls past) && not (ends (is_open r 0 past) d a)) a rest) (same_asked r d past)
    ∙ (ap (λ (o : Bool). since_after (opens_now r d past a) (o && not (ends (is_open r 0 past) d a)) a rest) (same_open r d past)
    ∙ (ap (since_after (opens_now r d past a) (belongs r d past a) a) before
    ∙ sym (kept_after (opens_now r d past a) (belongs r d past a) a (since r d past) h))))

-- of what follows its opening only the calls are missing
pub same_since : (r : Role) (d : ℕ) (past : List Act) → since r d (without_calls past) ≡ without_calls (since r d past)
same_since r d [] = refl
same_since r d (Called x ∷ past) =
    same_since r d past ∙ sym (called_after (opens_now r d past (Called x)) (belongs r d past (Called x)) x (since r d past) (opens_none r _ _ d x))
same_since r d (Got f ∷ past) = more r d past (Got f) refl (same_since r d past)
same_since r d (Sent f ∷ past) = more r d past (Sent f) refl (same_since r d past)
same_since r d (Tick ∷ past) = more r d past Tick refl (same_since r d past)
same_since r d (Lost ∷ past) = more r d past Lost refl (same_since r d past)
same_since r d (Given ∷ past) = more r d past Given refl (same_since r d past)

-- ## Stops

same_said : (say : Message → Option Bool) (acts : List Act) → last_said (got_says say) (without_calls acts) ≡ last_said (got_says say) acts
same_said say [] = refl
same_said say (Called x ∷ acts) = same_said say acts
same_said say (Got f ∷ acts) = ap (λ (b : Bool). unwrap_or (got_says say (Got f)) b) (same_said say acts)
same_said say (Sent f ∷ acts) = same_said say acts
same_said say (Tick ∷ acts) = same_said say acts
same_said say (Lost ∷ acts) = same_said say acts
same_said say (Given ∷ acts) = same_said say acts

same_last : (r : Role) (d : ℕ) (say : Message → Option Bool) (past : List Act) → last_said (got_says say) (since r d (without_calls past)) ≡ last_said (got_says say) (since r d past)
same_last r d say past = ap (last_said (got_says say)) (same_since r d past) ∙ same_said say (since r d past)

-- d is stopped, or not, as it was
pub same_stopped : (r : Role) (d : ℕ) (past : List Act) → is_stopped r d (without_calls past) ≡ is_stopped r d past
same_stopped r d past =
    let p = without_calls past in
    let own = last_said (got_says (msc_says d)) (since r d p) in
    let all = last_said (got_says flow_says) (since r 0 p) in
    ap (λ (o : Bool). not (d == 0) && ((o && own) || (is_open r 0 p && all))) (same_open r d past)
    ∙ (ap (λ (o : Bool). not (d == 0) && ((is_open r d past && own) || (o && all))) (same_open r 0 past)
    ∙ (ap (λ (b : Bool). not (d == 0) && ((is_open r d past && b) || (is_open r 0 past && all))) (same_last r d (msc_says d) past)
    ∙ ap (λ (b : Bool). not (d == 0) && ((is_open r d past && last_said (got_says (msc_says d)) (since r d past)) || (is_open r 0 past && b))) (same_last r 0 flow_says past)))

-- ## What is sent

-- the same frames wait in the control queue
pub same_queue : (past : List Act) → queue (without_calls past) ≡ queue past
same_queue [] = refl
same_queue (Called x ∷ past) = same_queue past
same_queue (Got f ∷ past) = same_queue past
same_queue (Sent f ∷ past) = ap (λ (fs : List Frame). fs ++ (if is_data_frame f then [] else f ∷ [])) (same_queue past)
same_queue (Tick ∷ past) = same_queue past
same_queue (Lost ∷ past) = refl
same_queue (Given ∷ past) = ap (λ (fs : List Frame). drop 1 fs) (same_queue past)

same_joined : (d : ℕ) (acts : List Act) → joined_octets (octets_sent d) (without_calls acts) ≡ joined_octets (octets_sent d) acts
same_joined d [] = refl
same_joined d (Called x ∷ acts) = same_joined d acts ∙ sym (append-nil (joined_octets (octets_sent d) acts))
same_joined d (Got f ∷ acts) = ap (λ (v : List ℕ). v ++ []) (same_joined d acts)
same_joined d (Sent f ∷ acts) = ap (λ (v : List ℕ). v ++ octets_sent d (Sent f)) (same_joined d acts)
same_joined d (Tick ∷ acts) = ap (λ (v : List ℕ). v ++ []) (same_joined d acts)
same_joined d (Lost ∷ acts) = ap (λ (v : List ℕ). v ++ []) (same_joined d acts)
same_joined d (Given ∷ acts) = ap (λ (v : List ℕ). v ++ []) (same_joined d acts)

-- and the same data was given on since d opened
pub same_given : (r : Role) (d : ℕ) (past : List Act) → data_out r d (without_calls past) ≡ data_out r d past
same_given r d past = ap (joined_octets (octets_sent d)) (same_since r d past) ∙ same_joined d (since r d past)

-- so calls leave no trace of themselves
pub leaves_no_trace : (r : Role) (d : ℕ) (past : List Act) → LeavesNoTrace r d past
leaves_no_trace r d past = record {
  states_same = same_states r d past;
  asked_same = same_asked r d past;
  since_same = same_since r d past;
  stopped_same = same_stopped r d past;
  queue_same = same_queue past;
  given_same = same_given r d past;
}
