-- What a call does, by the acts that are read off it.
use Rattle.std.specs.Prelude.{zero, suc, ◌≡◌, ◌||◌, ℕ, ◌+◌, ◌≤◌, Bool, true, false, List, [], ◌∷◌, ◌++◌, length, map, take, drop, refl, Option, Some, None}
use Rattle.std.specs.List.{list_any}
use Rattle.std.proofs.Common.{ap, sym, ◌∙◌, subst, append-nil, arith}
use Rattle.mux_frame.specs.Frames.{Frame}
use Rattle.mux_station.specs.Stations.{Station}
use Rattle.modem_desk.specs.declared.request.Ask.{Ask}
use Rattle.modem_desk.specs.declared.request.Answer.{Answer}
use Rattle.modem_desk.specs.declared.request.Outcome.{Outcome}
use Rattle.modem_history.specs.Acts.{Act, Got, Sent, Told, Lost, act_of, after}
use Rattle.modem_history.specs.declared.act.Act.TheVariants as code
use Rattle.modem_history.specs.Sessions.{heard_as}
use Rattle.modem_history.specs.Turns.{outcomes_told, lines_heard}
use Rattle.modem_desk.specs.declared.request.Urc.{Urc}
use Rattle.modem_core.specs.WaitingLists.{Keeps}
use Rattle.modem_queues.specs.declared.asker.Asker.{Asker}
use Rattle.modem_core.specs.declared.telling.Happened.TheVariants as happened
use Rattle.modem_core.specs.Cores.{Core, GoesOn, Handles, MayCome, state_shown}
use Rattle.modem_history.specs.Calls.{Setting}
use Rattle.modem_core.specs.Receiving.{cut_to}
use Rattle.modem_core.specs.Ticked.{bared}
use Rattle.modem_core.specs.Doing.{Adds, Does, QueuesAtMost, acts_since, first_frames, new_frames, outcomes_to, stop_in}
use Rattle.modem_queues.specs.Stops.{is_answered, is_end_of}
use Rattle.modem_core.specs.Holding.{HoldsFit, KeepsHeld}
use Rattle.modem_core.specs.Telling.{told_by, told_to, left_by}
use Rattle.modem_core.proofs.cores.FramesAfterLoss.{lost_got}
use Rattle.modem_core.proofs.cores.LineLoss.{lost_handles}
use Rattle.modem_core.proofs.holds.HoldsAndFrames.{lost_holds}
use Rattle.modem_core.proofs.holds.OtherCalls.{keeps_lost}
use Rattle.modem_core.proofs.requests.ToldOutcomes.{few_outcomes, told_back}

-- what was sent ends no Stop
sent_ends : (stop : Asker) (fs : List Frame) (acts : List Act) → list_any (is_end_of stop) (map Sent fs ++ acts) ≡ list_any (is_end_of stop) acts
sent_ends stop [] acts = refl
sent_ends stop (f ∷ fs) acts = sent_ends stop fs acts

-- nor does a call's first act
pub answered_since : (stop : Option Asker) (a : Act) (fs : List Frame) (acts : List Act) → ((s : Asker) → is_end_of s a ≡ false) → is_answered stop (a ∷ (map Sent fs ++ acts)) ≡ is_answered stop acts
answered_since None a fs acts h = refl
answered_since (Some s) a fs acts h = ap (λ (b : Bool). b || list_any (is_end_of s) (map Sent fs ++ acts)) (h s) ∙ sent_ends s fs acts

-- the core handled it, and told those in hand what they are told
pub does_telling : (old new : Core) (was now : List Outcome) (a : Act) (answered : Bool) (says : Ask → Option Answer) → ((s : Asker) → is_end_of s a ≡ false)
    → Handles old new a (a ∷ (map Sent (drop (length old.station.queue) new.station.queue) ++ map act_of (told_to says old.hand)))
    → KeepsHeld old new a (a ∷ (map Sent (drop (length old.station.queue) new.station.queue) ++ map act_of (told_to says old.hand)))
    → Adds was now (outcomes_to says old.hand) → answered ≡ is_answered (stop_in old) (map act_of (told_to says old.hand)) → Does old new was now a answered
does_telling old new was now a answered says h past holds adds ends =
    let fs = drop (length old.station.queue) new.station.queue in
    let same : a ∷ (map Sent fs ++ map act_of (told_to says old.hand)) ≡ acts_since a old new (outcomes_to says old.hand) = ap (λ (x : List Act). a ∷ (map Sent fs ++ x)) (sym (told_back says old.hand)) in
    record {
      told = outcomes_to says old.hand;
      few = few_outcomes says old.hand;
      past = subst (Handles old new a) same past;
      holds = subst (KeepsHeld old new a) same holds;
      adds = adds;
      answered_is = ends ∙ (sym (answered_since (stop_in old) a fs (map act_of (told_to says old.hand)) h) ∙ ap (is_answered (stop_in old)) same);
    }

-- behind all frames of a queue there is none
pub none_since : (xs : List Frame) → drop (length xs) xs ≡ []
none_since [] = refl
none_since (x ∷ xs) = none_since xs

-- a loss of the line
pub loss_does : (old new : Core) (was now : List Outcome) (answered : Bool) → new ≡ record old { hand = left_by (told_by happened.Lost false (λ d. state_shown old.station true d)) old.hand; lost = true }
    → Adds was now (outcomes_to (told_by happened.Lost false (λ d. state_shown old.station true d)) old.hand)
    → answered ≡ is_answered (stop_in old) (map act_of (told_to (told_by happened.Lost false (λ d. state_shown old.station true d)) old.hand)) → Does old new was now Lost answered
loss_does old new was now answered n adds ends =
    let says = told_by happened.Lost false (λ d. state_shown old.station true d) in
    let none : [] ≡ drop (length old.station.queue) new.station.queue = sym (ap (λ (x : Core). drop (length old.station.queue) x.station.queue) n ∙ none_since old.station.queue) in
    let handles : Handles old new Lost (Lost ∷ map act_of (told_to says old.hand)) = lost_handles old new false (code.Lost ∷ told_to says old.hand) n refl in
    let since : Handles old new Lost (Lost ∷ (map Sent (drop (length old.station.queue) new.station.queue) ++ map act_of (told_to says old.hand)))
    = subst (λ (fs : List Frame). Handles old new Lost (Lost ∷ (map Sent fs ++ map act_of (told_to says old.hand)))) none handles in
    does_telling old new was now Lost answered says (λ s. refl) since (keeps_lost old new _ since) adds ends

-- ## What waits

outcomes_since : (fs : List Frame) (told : List Outcome) → outcomes_told (map Sent fs ++ map Told told) ≡ told
outcomes_since [] [] = refl
outcomes_since [] (o ∷ told) = ap (λ (os : List Outcome). o ∷ os) (outcomes_since [] told)
outcomes_since (f ∷ fs) told = outcomes_since fs told

none_heard : (fs : List Frame) (told : List Outcome) → lines_heard (map Sent fs ++ map Told told) ≡ []
none_heard [] [] = refl
none_heard [] (o ∷ told) = none_heard [] told
none_heard (f ∷ fs) told = none_heard fs told

-- what the call told waits, and no line
pub keeps_since : (a : Act) (old new : Core) (was now told : List Outcome) (us : List Urc) → ((xs : List Act) → outcomes_told (a ∷ xs) ≡ outcomes_told xs) → ((xs : List Act) → lines_heard (a ∷ xs) ≡ lines_heard xs)
    → Adds was now told → Keeps (record { outcomes = was; lines = us }) (record { outcomes = now; lines = us }) (acts_since a old new told)
keeps_since a old new was now told us o h adds =
    let fs = drop (length old.station.queue) new.station.queue in
    let all : outcomes_told (acts_since a old new told) ≡ told = o (map Sent fs ++ map Told told) ∙ outcomes_since fs told in
    let none : lines_heard (acts_since a old new told) ≡ [] = h (map Sent fs ++ map Told told) ∙ none_heard fs told in
    record {
      outcomes = λ few. adds (subst (λ (os : List Outcome). length was + length os ≤ 128) all few) ∙ ap (λ (os : List Outcome). was ++ os) (sym all);
      lines = sym (append-nil (map heard_as us)) ∙ ap (λ (hs : List Act). map heard_as us ++ hs) (sym none);
    }

-- ## A frame after a loss

none_ends : (stop : Option Asker) → is_answered stop [] ≡ false
none_ends None = refl
none_ends (Some s) = refl

-- it came, and nothing else
pub lost_does : (v : Core) (f : Frame) (was : List Outcome) → v.lost ≡ true → Does v v was was (Got f) false
lost_does v f was lost =
    let none : acts_since (Got f) v v [] ≡ Got f ∷ [] = ap (λ (fs : List Frame). Got f ∷ (map Sent fs ++ [])) (none_since v.station.queue) in
    let past = lost_got v f (acts_since (Got f) v v []) lost none in
    record {
      told = [];
      few = omega arith;
      past = past;
      holds = lost_holds v f (acts_since (Got f) v v []) lost past;
      adds = λ few. sym (append-nil was);
      answered_is = sym (answered_since (stop_in v) (Got f) (new_frames v v) [] (λ s. refl) ∙ none_ends (stop_in v));
    }

-- ## What is read off the control queue

take_empty : (n : ℕ) (fs : List Frame) → fs ≡ [] → take n fs ≡ []
take_empty zero [] h = refl
take_empty (suc n) [] h = refl
take_empty n (f ∷ fs) h = cc

-- nothing was queued
pub none_queued : (most room : ℕ) (old new : Core) (a : Act) → new.station ≡ old.station → QueuesAtMost most room old new a
unfolding QueuesAtMost
none_queued most room old new a same s past m =
    let none : new_frames old new ≡ [] = ap (λ (x : Station). drop (length old.station.queue) x.queue) same ∙ none_since old.station.queue in
    ap (map (cut_to room)) (take_empty most (new_frames old new) none) ∙ sym none

-- the first 0 elements of a list are none
pub take_none : {A : Type 0} (xs : List A) → take 0 xs ≡ []
take_none [] = refl
take_none (x ∷ xs) = refl

-- without information
pub bare_cut : (fs : List Frame) → map bared fs ≡ map (cut_to 0) fs
bare_cut [] = refl
bare_cut (f ∷ fs) =
    ap (λ (info : List ℕ). record f { info = info } ∷ map bared fs) (sym (take_none f.info)) ∙ ap (λ (gs : List Frame). cut_to 0 f ∷ gs) (bare_cut fs)

-- the acts that were written down are the call's
written_so : (old new : Core) (a : Act) (now : List Outcome) (answered : Bool) (most room : ℕ) (acts : List Act) → length old.hand ≤ 128 → (does : Does old new [] now a answered) → QueuesAtMost most room old new a
    → acts ≡ a ∷ (map Sent (first_frames most room old new) ++ map Told now) → (s : Setting) (past : List Act) → MayCome s old past a → acts_since a old new does.told ≡ acts
unfolding QueuesAtMost
written_so old new a now answered most room acts few does queues are s past m =
    let less = does.few in
    let told : now ≡ does.told = does.adds (omega (arith, few, less)) in
    sym (are ∙ (ap (λ (fs : List Frame). a ∷ (map Sent fs ++ map Told now)) (queues s past m) ∙ ap (λ (os : List Outcome). a ∷ (map Sent (new_frames old new) ++ map Told os)) told))

-- so the core handles the act by the acts that were written down
pub written : (old new : Core) (a : Act) (now : List Outcome) (answered : Bool) (most room : ℕ) (acts : List Act) → length old.hand ≤ 128 → Does old new [] now a answered → QueuesAtMost most room old new a
    → acts ≡ a ∷ (map Sent (first_frames most room old new) ++ map Told now) → Handles old new a acts
unfolding Handles
written old new a now answered most room acts few does queues are s past m =
    subst (λ (x : List Act). GoesOn s new past a x) (written_so old new a now answered most room acts few does queues are s past m) (does.past s past m)

-- and its lanes still know after them which connections are held
pub written_held : (old new : Core) (a : Act) (now : List Outcome) (answered : Bool) (most room : ℕ) (acts : List Act) → length old.hand ≤ 128 → Does old new [] now a answered → QueuesAtMost most room old new a
    → acts ≡ a ∷ (map Sent (first_frames most room old new) ++ map Told now) → KeepsHeld old new a acts
unfolding KeepsHeld
written_held old new a now answered most room acts few does queues are s past m held =
    subst (λ (x : List Act). HoldsFit new (after past x)) (written_so old new a now answered most room acts few does queues are s past m) (does.holds s past m held)

-- what was told is no more than were in hand
pub few_since : (old new : Core) (a : Act) (now : List Outcome) (answered : Bool) → length old.hand ≤ 128 → Does old new [] now a answered → length now ≤ length old.hand
few_since old new a now answered few does =
    let less = does.few in
    let told = ap (length {A = Outcome}) (does.adds (omega (arith, few, less))) in
    omega (arith, less, told)
