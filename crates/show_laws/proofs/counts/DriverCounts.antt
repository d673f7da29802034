-- A driver sends no more frames of the first of two balanced tests than frames of the second came.
use Rattle.std.specs.Prelude.{◌≡◌, ℕ, ◌+◌, ◌≤◌, not, Bool, true, false, List, [], ◌∷◌, ◌++◌, map, drop, refl, is_none, if◌then◌else◌}
use Rattle.std.proofs.Common.{ap, append-nil, arith, ◌∙◌}
use Rattle.mux_frame.specs.Frames.{Frame}
use Rattle.mux_frame.specs.declared.frame.Kind.TheVariants.{Sabm, Disc}
use Rattle.mux_station.specs.declared.role.Role.{Role}
use Rattle.mux_station.specs.Messages.{cld, test}
use Rattle.mux_station.specs.Tables.{held_up, message_frame, ready}
use Rattle.mux_station.specs.Written.{is_data_frame, written}
use Rattle.modem_desk.specs.declared.request.Ask.{Ask}
use Rattle.modem_desk.specs.declared.request.Ask.TheVariants.{OpenChannel, CloseChannel, Command, Probe, Stop}
use Rattle.modem_history.specs.Acts.{Act, Took, Got, Sent, Told, Heard, Tick, Lost, Held, Freed, Given, wire}
use Rattle.modem_history.specs.Calls.{Setting, HistoryView, asking, at_once, calls_behind, calls_seeing, frames, frames_by, lines_said, said_at_once, seen_behind, states_now, tolds}
use Rattle.modem_history.specs.Lawful.{Gated, IsNext, Lawful, When, owed, owes_frame, unsent}
use Rattle.modem_history.specs.TwoEnds.{frames_got, frames_sent}
use Rattle.modem_history.proofs.calls.CalledActs.{Deliveries, spoken}
use Rattle.show_laws.proofs.counts.ManyFrames.{few_if, many, many_both, none_one, unit}
use Rattle.show_laws.proofs.counts.BalancedTables.{Balanced, none_of_flow, none_of_tick}

-- each probe that is asked for is such
abbrev pub AsksProbe : (List ℕ → Type 0) → Ask → Type 0
AsksProbe P (Probe octets) = P octets
AsksProbe P _ = Unit {0}

-- each probe that was taken is such
abbrev pub TakesProbes : (List ℕ → Type 0) → List Act → Type 0
TakesProbes P [] = Unit {0}
TakesProbes P (Took q ∷ past) = AsksProbe P q.ask × TakesProbes P past
TakesProbes P (_ ∷ past) = TakesProbes P past

-- the frames of acts, the first of which comes first
abbrev pub frames_in : List Act → List Frame
frames_in [] = []
frames_in (Sent f ∷ acts) = f ∷ frames_in acts
frames_in (_ ∷ acts) = frames_in acts

-- the frames of two lists of acts, one behind the other, are those of both
pub in_both : (xs ys : List Act) → frames_in (xs ++ ys) ≡ frames_in xs ++ frames_in ys
in_both [] ys = refl
in_both (Sent f ∷ xs) ys = ap (λ (fs : List Frame). f ∷ fs) (in_both xs ys)
in_both (Took q ∷ xs) ys = in_both xs ys
in_both (Got f ∷ xs) ys = in_both xs ys
in_both (Told o ∷ xs) ys = in_both xs ys
in_both (Heard k d l ∷ xs) ys = in_both xs ys
in_both (Tick ∷ xs) ys = in_both xs ys
in_both (Lost ∷ xs) ys = in_both xs ys
in_both (Held d ∷ xs) ys = in_both xs ys
in_both (Freed d ∷ xs) ys = in_both xs ys
in_both (Given ∷ xs) ys = in_both xs ys

-- how many frames of acts pass a test
abbrev pub sends : (Frame → Bool) → List Act → ℕ
sends u acts = many u (frames_in acts)

-- in two lists of acts they add up
pub sends_both : (u : Frame → Bool) (xs ys : List Act) → sends u (xs ++ ys) ≡ sends u xs + sends u ys
sends_both u xs ys = ap (many u) (in_both xs ys) ∙ many_both u (frames_in xs) (frames_in ys)

-- the acts that send these frames send as many as pass among them
pub sends_mapped : (u : Frame → Bool) (fs : List Frame) → sends u (map Sent fs) ≡ many u fs
sends_mapped u [] = refl
sends_mapped u (f ∷ fs) = let e = sends_mapped u fs in omega (arith, e)

never : {P : Type 0} → false ≡ true → P
never e = cc

sends_none : (u : Frame → Bool) (acts : List Act) → Deliveries acts → sends u acts ≤ 0
sends_none u [] h = omega arith
sends_none u (Told o ∷ acts) h = sends_none u acts h
sends_none u (Heard k d line ∷ acts) h = sends_none u acts h
sends_none u (Took r ∷ acts) h = never h
sends_none u (Got f ∷ acts) h = never h
sends_none u (Sent f ∷ acts) h = never h
sends_none u (Tick ∷ acts) h = never h
sends_none u (Lost ∷ acts) h = never h
sends_none u (Held d ∷ acts) h = never h
sends_none u (Freed d ∷ acts) h = never h
sends_none u (Given ∷ acts) h = never h

-- what stays owed at a loss sends no frame
pub unsent_none : (u : Frame → Bool) (acts : List Act) → sends u (unsent acts) ≤ 0
unsent_none u [] = omega arith
unsent_none u (Sent f ∷ acts) = unsent_none u acts
unsent_none u (Told o ∷ acts) = unsent_none u acts
unsent_none u (Heard k d line ∷ acts) = unsent_none u acts
unsent_none u (Took r ∷ acts) = unsent_none u acts
unsent_none u (Got f ∷ acts) = unsent_none u acts
unsent_none u (Tick ∷ acts) = unsent_none u acts
unsent_none u (Lost ∷ acts) = unsent_none u acts
unsent_none u (Held d ∷ acts) = unsent_none u acts
unsent_none u (Freed d ∷ acts) = unsent_none u acts
unsent_none u (Given ∷ acts) = unsent_none u acts

-- while nothing but requests, ticks and the like happen no frame is owed
pub none_owed : (u : Frame → Bool) (owing : List Act) → owes_frame owing ≡ false → sends u owing ≤ 0
none_owed u [] h = omega arith
none_owed u (Sent f ∷ owing) h = cc
none_owed u (Took q ∷ owing) h = none_owed u owing h
none_owed u (Got f ∷ owing) h = none_owed u owing h
none_owed u (Told o ∷ owing) h = none_owed u owing h
none_owed u (Heard k d l ∷ owing) h = none_owed u owing h
none_owed u (Tick ∷ owing) h = none_owed u owing h
none_owed u (Lost ∷ owing) h = none_owed u owing h
none_owed u (Held d ∷ owing) h = none_owed u owing h
none_owed u (Freed d ∷ owing) h = none_owed u owing h
none_owed u (Given ∷ owing) h = none_owed u owing h

-- without their first act, acts send no more
pub dropped : (u : Frame → Bool) (acts : List Act) → sends u (drop 1 acts) ≤ sends u acts
dropped u [] = omega arith
dropped u (Sent f ∷ acts) = omega arith
dropped u (Told o ∷ acts) = omega arith
dropped u (Heard k d line ∷ acts) = omega arith
dropped u (Took r ∷ acts) = omega arith
dropped u (Got f ∷ acts) = omega arith
dropped u (Tick ∷ acts) = omega arith
dropped u (Lost ∷ acts) = omega arith
dropped u (Held d ∷ acts) = omega arith
dropped u (Freed d ∷ acts) = omega arith
dropped u (Given ∷ acts) = omega arith

-- of what an act calls for, the frames are those that it calls for
mapped_in : (fs : List Frame) → frames_in (map Sent fs) ≡ fs
mapped_in [] = refl
mapped_in (f ∷ fs) = ap (λ (gs : List Frame). f ∷ gs) (mapped_in fs)

none_in : (acts : List Act) → Deliveries acts → frames_in acts ≡ []
none_in [] h = refl
none_in (Told o ∷ acts) h = none_in acts h
none_in (Heard k d line ∷ acts) h = none_in acts h
none_in (Took r ∷ acts) h = never h
none_in (Got f ∷ acts) h = never h
none_in (Sent f ∷ acts) h = never h
none_in (Tick ∷ acts) h = never h
none_in (Lost ∷ acts) h = never h
none_in (Held d ∷ acts) h = never h
none_in (Freed d ∷ acts) h = never h
none_in (Given ∷ acts) h = never h

-- the frames among all that an act calls for are those that it calls for
pub in_calls : (s : Setting) (v : HistoryView) (a : Act) → frames_in (calls_seeing s v a) ≡ frames s v a
in_calls s v a =
    let sent = map Sent (frames s v a) in
    let now = states_now s v (a ∷ sent) in
    let said = said_at_once s v a ++ (lines_said s v a ++ tolds v now a) in
    in_both sent said
    ∙ (ap (λ (fs : List Frame). fs ++ frames_in said) (mapped_in (frames s v a))
    ∙ (ap (λ (gs : List Frame). frames s v a ++ gs) (none_in said (spoken s v a now)) ∙ append-nil (frames s v a)))

-- and those by its table
pub called : (u : Frame → Bool) (n : ℕ) (s : Setting) (v : HistoryView) (a : Act) → many u (frames_by s v a) ≤ n → sends u (calls_seeing s v a) ≤ n
called u n s v a h =
    let sent = map Sent (frames s v a) in
    let now = states_now s v (a ∷ sent) in
    let said = said_at_once s v a ++ (lines_said s v a ++ tolds v now a) in
    let parts = sends_both u sent said in
    let first = sends_mapped u (frames s v a) in
    let few = few_if u n v.lost [] (frames_by s v a) (omega arith) h in
    let none = sends_none u said (spoken s v a now) in
    omega (arith, parts, first, few, none)

-- a request calls for no frame of the first test, where its probe is such
pub asked : (P : List ℕ → Type 0) (most : ℕ) (r : Role) (u t : Frame → Bool) → Balanced P most r u t → (a : Ask) → AsksProbe P a → many u (asking r a) ≤ 0
asked P most r u t b (OpenChannel d) h = none_one u (written r Sabm d.number []) (b.sabm d.number)
asked P most r u t b (CloseChannel d) h = none_one u (written r Disc d.number []) (b.disc d.number)
asked P most r u t b (Command d line) h = omega arith
asked P most r u t b (Probe octets) h = none_one u (message_frame r test octets) (b.probe octets h)
asked P most r u t b Stop h = none_one u (message_frame r cld []) (b.command cld [] refl (omega arith))

-- what was sent, and what is owed, is no more than what came
abbrev Few : Setting → (u t : Frame → Bool) → List Act → Type 0
Few s u t past = sends u (owed s past) + many u (frames_sent (wire past)) ≤ many t (frames_got (wire past))

more : (s : Setting) (u t : Frame → Bool) (past : List Act) (a : Act) (n : ℕ) → many u (frames_by s (seen_behind s past (owed s past)) a) ≤ n → Few s u t past
    → sends u (owed s past ++ calls_behind s past (owed s past) a) + many u (frames_sent (wire past)) ≤ n + many t (frames_got (wire past))
more s u t past a n h k =
    let owing = owed s past in
    let c = calls_behind s past owing a in
    let parts = sends_both u owing c in
    let few = called u n s (seen_behind s past owing) a h in
    omega (arith, parts, few, k)

more_none : (s : Setting) (u t : Frame → Bool) (past : List Act) (a : Act) → many u (frames_by s (seen_behind s past (owed s past)) a) ≤ 0 → Few s u t past
    → sends u (owed s past ++ calls_behind s past (owed s past) a) + many u (frames_sent (wire past)) ≤ many t (frames_got (wire past))
more_none s u t past a h k = let e = more s u t past a 0 h k in omega (arith, e)

fewer : (s : Setting) (u t : Frame → Bool) (past : List Act) → Few s u t past → sends u (drop 1 (owed s past)) + many u (frames_sent (wire past)) ≤ many t (frames_got (wire past))
fewer s u t past k = let e = dropped u (owed s past) in omega (arith, e, k)

sent_by : (P : List ℕ → Type 0) (s : Setting) (u t : Frame → Bool) → Balanced P s.n1 s.role u t → (past : List Act) (f : Frame) (b : Bool) → is_data_frame f ≡ b
    → When b (Gated s past (owed s past) f) → When (not b) (IsNext (owed s past) (Sent f)) → Few s u t past
    → sends u (if b then owed s past else drop 1 (owed s past)) + (unit (u f) + many u (frames_sent (wire past))) ≤ many t (frames_got (wire past))
sent_by P s u t b past f true is g n k = let e : unit (u f) ≡ 0 = ap unit (b.plain f is g.fits) in omega (arith, e, k)
sent_by P s u t b past f false is g n k =
    let e : sends u (owed s past) ≡ unit (u f) + sends u n.later = ap (sends u) n.is_next in
    let d : sends u (drop 1 (owed s past)) ≡ sends u n.later = ap (λ (xs : List Act). sends u (drop 1 xs)) n.is_next in
    omega (arith, e, d, k)

few : (P : List ℕ → Type 0) (s : Setting) (u t : Frame → Bool) → Balanced P s.n1 s.role u t → (past : List Act) → Lawful s past → TakesProbes P past → Few s u t past
unfolding Lawful
few P s u t b [] l p = omega arith
few P s u t b (Sent f ∷ past) l p = sent_by P s u t b past f (is_data_frame f) refl l.0.gated l.0.controlled (few P s u t b past l.1 p)
few P s u t b (Told o ∷ past) l p = fewer s u t past (few P s u t b past l.1 p)
few P s u t b (Heard k d line ∷ past) l p = fewer s u t past (few P s u t b past l.1 p)
few P s u t b (Given ∷ past) l p = few P s u t b past l.1 p
few P s u t b (Lost ∷ past) l p =
    let k = few P s u t b past l.1 p in
    let parts = sends_both u (unsent (owed s past)) (calls_behind s past (owed s past) Lost) in
    let none = unsent_none u (owed s past) in
    let none_called = called u 0 s (seen_behind s past (owed s past)) Lost (omega arith) in
    omega (arith, parts, none, none_called, k)
few P s u t b (Took q ∷ past) l p =
    let v = seen_behind s past (owed s past) in
    more_none s u t past (Took q) (few_if u 0 (is_none (at_once s v q)) (asking s.role q.ask) [] (asked P s.n1 s.role u t b q.ask p.0) (omega arith)) (few P s u t b past l.1 p.1)
few P s u t b (Got f ∷ past) l p = more s u t past (Got f) (unit (t f)) (b.frame (seen_behind s past (owed s past)).state f) (few P s u t b past l.1 p)
few P s u t b (Tick ∷ past) l p =
    let v = seen_behind s past (owed s past) in
    more_none s u t past Tick (none_of_tick P s.n1 s.role u t b s.n1 v.state v.queued 0 62) (few P s u t b past l.1 p)
few P s u t b (Held d ∷ past) l p = more_none s u t past (Held d) (none_of_flow P s.n1 s.role u t b (seen_behind s past (owed s past)).state d held_up) (few P s u t b past l.1 p)
few P s u t b (Freed d ∷ past) l p = more_none s u t past (Freed d) (none_of_flow P s.n1 s.role u t b (seen_behind s past (owed s past)).state d ready) (few P s u t b past l.1 p)

-- a lawful driver sent no more frames of the first test than of the second came to it
pub driver_sends : (P : List ℕ → Type 0) (s : Setting) (u t : Frame → Bool) → Balanced P s.n1 s.role u t → (past : List Act) → Lawful s past → TakesProbes P past → many u (frames_sent (wire past)) ≤ many t (frames_got (wire past))
driver_sends P s u t b past l p = let k = few P s u t b past l p in omega (arith, k)
