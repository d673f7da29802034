-- Where a turn stood still nothing could be done.
use Rattle.std.specs.Prelude.{◌≡◌, ◌≢◌, ℕ, zero, suc, ◌+◌, ◌^◌, ◌<◌, ◌≤◌, ◌==◌, ◌&&◌, not, nat_le, Bool, true, false, List, [], ◌∷◌, ◌++◌, length, Option, Some, None, is_none, option_map, Result, Ok, Err, IsErrOf, refl, if◌then◌else◌}
use Rattle.std.specs.List.{flat_map}
use Rattle.std.proofs.Common.{arith, sym, ap, ◌∙◌, subst, append-nil}
use Rattle.std.proofs.lemmas.Bool.Decides.{nat_tests}
use Rattle.std.proofs.lemmas.List.{nil_from_length}
use Rattle.mux_frame.specs.Frames.{Frame}
use Rattle.mux_frame.specs.Deframing.{AtHand, IsNext}
use Rattle.mux_frame.specs.Reading.{Reads}
use Rattle.mux_frame.specs.Spelling as spelling
use Rattle.mux_frame.specs.declared.frame.Kind.{Kind}
use Rattle.mux_frame.specs.declared.frame.Kind.TheVariants.{Sabm, Ua, Dm, Disc, Uih}
use Rattle.mux_station.specs.declared.role.Role.{Role}
use Rattle.mux_station.specs.declared.role.Role.TheVariants.{Responder}
use Rattle.mux_station.specs.declared.error.StationError.TheVariants.{NoRoom}
use Rattle.mux_station.specs.Sending as sending
use Rattle.mux_station.specs.Stations as stations
use Rattle.mux_station.specs.States.{is_opened}
use Rattle.mux_station.specs.Stopping.{is_stopped}
use Rattle.mux_station.specs.Offering.{offered, data_out}
use Rattle.mux_station.specs.Tables.{by_frame, have_room, octets_of}
use Rattle.mux_station.specs.Giving.{data_frame, else_first, first_ready, is_ready, next_given, next_turn, ready_from}
use Rattle.mux_station.proofs.user_calls.ProbeStopFlowOffer.{sees_the_past}
use Rattle.mux_station.proofs.received.AnsweredFrames.{sees_the_frame}
use Rattle.mux_station.proofs.states.StationPasts.{stopped_fits}
use Rattle.std.specs.Result.{IsErrAnd}
use Rattle.serial_line.specs.LineViews.{LineView}
use Rattle.modem_sim.specs.declared.error.SimError.{SimError}
use Rattle.modem_sim.specs.declared.error.SimError.TheVariants.{NoMemory}
use Rattle.modem_sim.specs.declared.sim.SimTurn.{SimTurn}
use Rattle.modem_sim.specs.declared.script.Step.{Step}
use Rattle.modem_sim.specs.Acts.{Act, End, setting, wire, is_open_at_modem}
use Rattle.modem_sim.specs.Heard.{heard}
use Rattle.modem_sim.specs.Pieces.{pieces_octets}
use Rattle.modem_sim.specs.Outboxes.{outbox}
use Rattle.modem_sim.specs.Doing.{call_of, named_by}
use Rattle.modem_sim.specs.Histories.{got}
use Rattle.serial_line.specs.Counts.{saturated}
use Rattle.modem_sim.specs.Cores.{are_free_in, for_calls, Core, Fits, HasNoneToDo, IsHandedOn, Waits, box_at, Wired, are_open_in, for_lines, for_openings, for_room, none_left, that_act, waits}
use Rattle.modem_sim.specs.Sims.{SimMachine, SimMachineFits, SimState}
use Rattle.modem_sim.specs.Turns.{Exchange, IsAtRest, IsIdle, IsLeft, StepIsRefused, NoneCanBeDone, WantsMemory, at_rest, frame_at_hand, has_room_for, hold_is_over, line_is_full, step_is_due}
use Rattle.modem_sim.specs.Stills.{HasNoneToTake, LeavesUndone, StoodStill, leaves_frame, leaves_octets, leaves_step}
use Rattle.modem_sim.proofs.ends.EndAfterFrame.{opened_is}
use Rattle.modem_sim.proofs.ends.ScriptSteps.{are_free, all_small, calls_small, first_acts, they_are_open}
use Rattle.modem_sim.proofs.ends.HandedOctets.{ring_is, role_is, same_ring}
use Rattle.modem_sim.proofs.ends.OfferedPieces.{said_is}
use Rattle.modem_sim.proofs.ends.QueueRoom.{empty_fits}
use Rattle.modem_sim.proofs.connections.ControlChannel.{none_given, says_none}

-- ## Steps

too_early : (n after come : ℕ) → saturated n ≡ come → come < after → after < 2 ^ 64 → nat_le after n ≡ true → ⊥
too_early n after come is less small late =
    let low : after ≤ n = grind (arith, nat_tests) in
    omega (arith, is, less, small, low)

head_is : (x y : Step) (xs ys : List Step) → x ∷ xs ≡ y ∷ ys → x ≡ y
head_is x y xs ys same = cc

none_there : (x : Step) (xs : List Step) → x ∷ xs ≡ [] → ⊥
none_there x xs same = cc

not_both : (b : Bool) → b ≡ true → b ≡ false → ⊥
not_both true is isnt = cc
not_both false is isnt = cc

-- where an end has no step to do, none that is due by its past can be done
pub none_can_be_done : (e : End) (w : Wired) (c : Core) (past : List Act) → HasNoneToDo c → Fits e w c past → NoneCanBeDone e past
none_can_be_done e w c past (none_left none) fits act due = absurd (none_there due.next due.later (sym due.is_first ∙ fits.left_is ∙ ap that_act none))
none_can_be_done e w c past (waits step later is acting why) fits act due = by_why why
  where
    same : due.next ≡ step
    same = head_is due.next step due.later (that_act later) (sym due.is_first ∙ fits.left_is ∙ ap that_act is ∙ first_acts step later acting)

    same_act : step.act ≡ act
    same_act = ap (λ (s : Step). s.act) (sym same) ∙ due.is_its

    by_why : Waits c step → StepIsRefused e past act
    by_why (for_lines less small) =
        absurd (too_early (length (heard past)) step.after c.come fits.come_is less small (ap (λ (s : Step). nat_le s.after (length (heard past))) (sym same) ∙ due.come))
    by_why (for_openings shut) =
        absurd (not_both (are_open_in c.station act)
        (sym (they_are_open e w c past (named_by act) (all_small act) fits) ∙ due.open_are)
        (ap (are_open_in c.station) (sym same_act) ∙ shut))
    by_why (for_calls busy) =
        absurd (not_both (are_free_in c.boxes act) (sym (are_free e w c past act fits due.open_are) ∙ due.free) (ap (are_free_in c.boxes) (sym same_act) ∙ busy))
    by_why (for_room refuses) =
        let asked : call_of act ≡ Some refuses.call = ap call_of (sym same_act) ∙ refuses.asked in
        let By : sending.StationSetting → Type 0 = λ s. sending.refused s (sending.station_view s (wire past)) refuses.call ≢ None in
        record {
          call = refuses.call;
          asked = asked;
          refused = subst By fits.setting_is (λ taken. refuses.refused (sees_the_past c.station (wire past) refuses.call fits.station_is (calls_small act refuses.call asked) ∙ taken));
        }

-- ## A frame at hand

some_there : {A : Type 0} (o : Option A) → o ≢ None → is_none o ≡ false
some_there None some = absurd (some refl)
some_there (Some x) some = refl

hand_fits : (k : SimMachine) (f : Frame) → k.deframer.next ≡ Some f → AtHand k.deframer.n1 k.deframer.undecided k.deframer.next → IsNext k.deframer.n1 k.deframer.undecided f
hand_fits k f is hand = subst (λ (o : Option Frame). AtHand k.deframer.n1 k.deframer.undecided o) is hand

same_n1 : (e : End) (came went : List ℕ) (k : SimMachine) (past : List Act) → SimMachineFits e came went k past → k.core.station.n1 ≡ k.deframer.n1
same_n1 e came went k past fits = ap (λ (s : sending.StationSetting). s.n1) fits.core_fits.setting_is ∙ sym fits.n1_is

-- where its station refuses the frame at hand, what that calls for finds no room by the past
pub no_room : (e : End) (came went : List ℕ) (k : SimMachine) (past : List Act) → HasNoneToTake k → SimMachineFits e came went k past → (f : Frame) → k.deframer.next ≡ Some f → has_room_for e past f ≡ false
no_room e came went k past none fits f hand =
    let next = hand_fits k f hand fits.deframes.at_hand in
    let By : sending.StationSetting → Type 0 = λ s. sending.got_refused s (sending.station_view s (wire past)) f ≢ None in
    some_there (sending.got_refused (setting e) (sending.station_view (setting e) (wire past)) f)
    (subst By fits.core_fits.setting_is
    (λ taken. none f hand (sees_the_frame k.core.station (wire past) f fits.core_fits.station_is next.spells.dlci ∙ taken)))

-- a frame that the station takes finds room
pub some_room : (e : End) (came went : List ℕ) (k : SimMachine) (past : List Act) → SimMachineFits e came went k past → (f : Frame) → k.deframer.next ≡ Some f → sending.got_refused (stations.setting_of k.core.station) (stations.seen_in k.core.station) f ≡ None → has_room_for e past f ≡ true
some_room e came went k past fits f hand room =
    let next = hand_fits k f hand fits.deframes.at_hand in
    let By : sending.StationSetting → Type 0 = λ s. sending.got_refused s (sending.station_view s (wire past)) f ≡ None in
    ap is_none (subst By fits.core_fits.setting_is (sym (sees_the_frame k.core.station (wire past) f fits.core_fits.station_is next.spells.dlci) ∙ room))

at_most : (n1 : ℕ) (k : Kind) → spelling.most_info n1 k ≤ n1
at_most n1 Sabm = omega arith
at_most n1 Ua = omega arith
at_most n1 Dm = omega arith
at_most n1 Disc = omega arith
at_most n1 Uih = omega arith

without_refusal : (b : Bool) → b ≡ true → (if b then None else Some NoRoom) ≡ None
without_refusal true is = refl
without_refusal false is = cc

-- where no control frame waits none is at hand
none_at_hand : (e : End) (came went : List ℕ) (k : SimMachine) (past : List Act) → k.core.station.queue ≡ [] → HasNoneToTake k → SimMachineFits e came went k past → (o : Option Frame) → k.deframer.next ≡ o → k.deframer.next ≡ None
none_at_hand e came went k past queue none fits None is = is
none_at_hand e came went k past queue none fits (Some f) is =
    let next = hand_fits k f is fits.deframes.at_hand in
    let v = k.core.station in
    let same = same_n1 e came went k past fits in
    let most = at_most k.deframer.n1 f.kind in
    let bound = next.spells.room in
    let short : length f.info ≤ v.n1 = omega (arith, same, most, bound) in
    let ByRole : Role → Type 0 = λ r. have_room v.n1 0 (by_frame r (λ d. (stations.channel_at v d).state) f) ≡ true in
    let fits_in : have_room v.n1 (octets_of v.queue) (by_frame v.role (λ d. (stations.channel_at v d).state) f) ≡ true =
    ap (λ q. have_room v.n1 (octets_of q) (by_frame v.role (λ d. (stations.channel_at v d).state) f)) queue
    ∙ subst ByRole (sym (role_is e fits.wired k.core past fits.core_fits)) (empty_fits v.n1 (λ d. (stations.channel_at v d).state) f short) in
    absurd (none f is (without_refusal (have_room v.n1 (octets_of v.queue) (by_frame v.role (λ d. (stations.channel_at v d).state) f)) fits_in))

-- ## Want of memory

late_enough : (n after come : ℕ) → saturated n ≡ come → after ≤ come → nat_le after n ≡ true
late_enough n after come is late = let low : after ≤ n = omega (arith, is, late) in grind (arith, nat_tests)

some_hand : (o : Option Frame) (e : End) (k : SimMachine) (past : List Act) → k.deframer.next ≡ o → k.deframer.next ≢ None → IsLeft e k past
some_hand None e k past is some = absurd (some is)
some_hand (Some f) e k past is some = frame_at_hand f is

-- what was left undone is left by the past
pub is_left : (e : End) (came went : List ℕ) (k : SimMachine) (past : List Act) → LeavesUndone k → SimMachineFits e came went k past → IsLeft e k past
is_left e came went k past (leaves_step s) fits =
    let core = fits.core_fits in
    step_is_due s.step.act
    (record {
      next = s.step;
      later = that_act s.later;
      is_first = core.left_is ∙ ap that_act s.is_first ∙ first_acts s.step s.later s.is_done;
      is_its = refl;
      come = late_enough (length (heard past)) s.step.after k.core.come core.come_is s.come;
      open_are = they_are_open e fits.wired k.core past (named_by s.step.act) (all_small s.step.act) core ∙ s.open_are;
      free = are_free e fits.wired k.core past s.step.act core (they_are_open e fits.wired k.core past (named_by s.step.act) (all_small s.step.act) core ∙ s.open_are) ∙ s.free;
    })
    s.asks_nothing
is_left e came went k past (leaves_octets h) fits =
    hold_is_over h.dlci (sym (opened_is e fits.wired k.core past h.dlci h.small fits.core_fits) ∙ h.opened) h.released
is_left e came went k past (leaves_frame some) fits = some_hand k.deframer.next e k past refl some

-- what follows where this refusal is NoMemory follows where the call was refused so
pub refused_by : {P : Type 0} (r : Result SimTurn SimError) (e : SimError) → IsErrAnd r (λ y. y ≡ e) → IsErrOf r NoMemory → (IsErrOf {T = Bool} (Err e) NoMemory → P) → P
refused_by (Ok turn) e is none there = cc
refused_by (Err y) e is none there = let same : y ≡ NoMemory = cc in there (ap (λ (x : SimError). Err x) (sym is ∙ same))

-- so memory is wanted in each past
pub wants_memory : {X : Type 0} (look : X → LineView) (s : SimState X) → LeavesUndone s.machine → WantsMemory look s
wants_memory look s left at e past fits = is_left e fits.came fits.went s.machine past left fits.machine_fits

-- ## What goes out

-- where no frame is next none waits in the control queue
pub none_queued : (v : stations.Station) (q : List Frame) → next_given v q ≡ None → q ≡ []
none_queued v [] is = refl
none_queued v (f ∷ q) is = cc

none_mapped : {A B : Type 0} (f : A → B) (o : Option A) → option_map f o ≡ None → o ≡ None
none_mapped f None is = refl
none_mapped f (Some x) is = cc

none_first : (a b : Option ℕ) → else_first a b ≡ None → b ≡ None
none_first None b is = is
none_first (Some d) b is = cc

none_ready : (v : stations.Station) (d count : ℕ) → first_ready v d count ≡ None → (x : ℕ) → d ≤ x → x < d + count → is_ready v x ≡ false
none_ready v d zero none x low high = absurd (omega (arith, low, high))
none_ready v d (suc count) none x low high = by_test (λ rest apart. none_ready v (d + 1) count rest x apart (omega (arith, high))) (is_ready v d) refl none
  where
    by_place : (here : Bool) → (d == x) ≡ here → is_ready v d ≡ false → first_ready v (d + 1) count ≡ None → (first_ready v (d + 1) count ≡ None → d + 1 ≤ x → is_ready v x ≡ false) → is_ready v x ≡ false
    by_place true same is rest others = let one : d ≡ x = grind (arith, nat_tests) in ap (is_ready v) (sym one) ∙ is
    by_place false other is rest others = let apart : d + 1 ≤ x = grind (arith, nat_tests) in others rest apart

    by_test : (first_ready v (d + 1) count ≡ None → d + 1 ≤ x → is_ready v x ≡ false) → (b : Bool) → is_ready v d ≡ b → (if b then Some d else first_ready v (d + 1) count) ≡ None → is_ready v x ≡ false
    by_test others true is some = cc
    by_test others false is rest = by_place (d == x) refl is rest others

none_next : (v : stations.Station) (q : List Frame) → next_given v q ≡ None → (d : ℕ) → 1 ≤ d → d < 62 → is_ready v d ≡ false
none_next v [] none d low high =
    none_ready v 1 61 (none_first (ready_from v (v.last + 1)) (ready_from v 1) (none_mapped (data_frame v) (next_turn v) none)) d low (omega (arith, high))
none_next v (f ∷ q) none d low high = cc

none_waiting : (a b : Bool) (xs : List ℕ) → a ≡ true → b ≡ false → (a && (not b && not (length xs == 0))) ≡ false → xs ≡ []
none_waiting true false xs there goes none = by_test (length xs == 0) refl none
  where
    by_test : (z : Bool) → (length xs == 0) ≡ z → not z ≡ false → xs ≡ []
    by_test true is isnt = nil_from_length xs (grind (arith, nat_tests))
    by_test false is isnt = cc
none_waiting true true xs there goes none = cc
none_waiting false b xs there goes none = cc

-- where no frame is there no octets wait on a connection that isn't stopped
pub sent_all : (e : End) (w : Wired) (c : Core) (past : List Act) → next_given c.station c.station.queue ≡ None → Fits e w c past → (d : ℕ) → d < 62 → (d == 0) ≡ false → is_open_at_modem d past ≡ true → is_stopped Responder d (wire past) ≡ false → data_out Responder d (wire past) ≡ offered Responder d (wire past)
sent_all e w c past none fits d small other there goes =
    let v = c.station in
    let opened : is_opened (stations.channel_at v d).state ≡ true = opened_is e w c past d small fits ∙ there in
    let low : 1 ≤ d = grind (arith, nat_tests) in
    let not_stopped : stations.stopped_in v d ≡ false = stopped_fits v (wire past) d fits.station_is small ∙ ap (λ (r : Role). is_stopped r d (wire past)) (role_is e w c past fits) ∙ goes in
    let empty = none_waiting (is_opened (stations.channel_at v d).state) (stations.stopped_in v d) (stations.channel_at v d).waiting opened not_stopped (none_next v v.queue none d low small) in
    sym (append-nil (data_out Responder d (wire past))) ∙ ap (λ xs. data_out Responder d (wire past) ++ xs) (sym empty) ∙ sym (ring_is e w c past d small opened fits)

all_out_on : (e : End) (w : Wired) (c : Core) (past : List Act) → ((d : ℕ) → d < 62 → IsHandedOn c d) → next_given c.station c.station.queue ≡ None → Fits e w c past → (d : ℕ) → (here : Bool) → (d == 0) ≡ here → d < 62 → is_open_at_modem d past ≡ true → is_stopped Responder d (wire past) ≡ false → data_out Responder d (wire past) ≡ pieces_octets (outbox e d past).said
all_out_on e w c past handed none fits d true is small there goes =
    let zero_is : 0 ≡ d = grind (arith, nat_tests) in
    let At : ℕ → Type 0 = λ n. data_out Responder n (wire past) ≡ pieces_octets (outbox e n past).said in
    subst At zero_is (none_given (wire past) ∙ ap pieces_octets (sym (says_none e past fits.allowed).said))
all_out_on e w c past handed none fits d false is small there goes =
    let opened = opened_is e w c past d small fits ∙ there in
    let on = handed d small opened in
    let out = sent_all e w c past none fits d small is there goes in
    let ring = ring_is e w c past d small opened fits in
    let empty = same_ring (data_out Responder d (wire past)) (stations.channel_at c.station d).waiting (offered Responder d (wire past)) ring (sym out) in
    sym (said_is e d past (box_at c d) on.released (fits.boxes_are d small there)
    ∙ ap (λ xs. offered Responder d (wire past) ++ xs) (on.unsent is empty) ∙ append-nil (offered Responder d (wire past)) ∙ sym out)

-- ## Idle

rests : (e : End) (came went : List ℕ) (k : SimMachine) (t : Exchange) (past : List Act) → k.out ≡ [] → StoodStill k t → SimMachineFits e came went k past → IsAtRest e came went t past
rests e came went k t past written still fits =
    let core = fits.core_fits in
    let load = still.rest written in
    let queue = none_queued k.core.station k.core.station.queue load.none_next in
    let none = none_at_hand e came went k past queue still.take fits k.deframer.next refl in
    let fed = still.waits none in
    let At : Option Frame → Type 0 = λ o. AtHand k.deframer.n1 k.deframer.undecided o in
    let all : Reads k.deframer.n1 k.deframer.undecided [] k.deframer.undecided = subst At none fits.deframes.at_hand in
    let Undecided : List ℕ → Type 0 = λ x. Reads k.deframer.n1 x [] k.deframer.undecided in
    let Handed : List Frame → Type 0 = λ fs. Reads k.deframer.n1 (fits.taken ++ []) fs k.deframer.undecided in
    let Taken : List ℕ → Type 0 = λ x. Reads k.deframer.n1 x (got past) k.deframer.undecided in
    let By : ℕ → Type 0 = λ n. Reads n came (got past) k.deframer.undecided in
    record {
      nothing_came = record { room = 512; some = omega arith; nothing = still.reads fed };
      through = record {
        rest = k.deframer.undecided;
        reads = subst By fits.n1_is
            (subst Taken (append-nil fits.taken ∙ sym (fits.came_is ∙ ap (λ xs. fits.taken ++ xs) fed ∙ append-nil fits.taken))
            (subst Handed (append-nil fits.wired.came ∙ sym core.came_are)
            (fits.deframes.reads [] [] k.deframer.undecided (subst Undecided (sym (append-nil k.deframer.undecided)) all))));
        written = sym (append-nil went)
            ∙ ap (λ x. went ++ x) (sym written)
            ∙ fits.went_is
            ∙ ap (flat_map spelling.spelled) (sym (append-nil fits.wired.gone) ∙ ap (λ q. fits.wired.gone ++ q) (sym queue) ∙ sym core.gone_are);
      };
      all_out = λ d small there goes free. all_out_on e fits.wired k.core past load.handed load.none_next core d (d == 0) refl small there goes;
      steps = none_can_be_done e fits.wired k.core past still.steps core;
    }

some_there_too : (x : ℕ) (xs : List ℕ) → x ∷ xs ≢ []
some_there_too x xs same = cc

-- a simulated modem that stood still is idle
pub idle : (e : End) (came went : List ℕ) (k : SimMachine) (t : Exchange) (past : List Act) → StoodStill k t → SimMachineFits e came went k past → IsIdle e came went k t past
idle e came went k t past still fits = by_out k.out refl
  where
    by_out : (out : List ℕ) → k.out ≡ out → IsIdle e came went k t past
    by_out [] is = at_rest (rests e came went k t past is still fits)
    by_out (x ∷ xs) is =
        let some : k.out ≢ [] = λ none. some_there_too x xs (sym is ∙ none) in
        line_is_full (record {
          waits = some;
          offered = k.out;
          some = some;
          took_none = still.full some;
          reads = λ fed. record { room = 512; some = omega arith; nothing = still.reads fed };
          fed = still.waits;
          no_room = no_room e came went k past still.take fits;
          steps = none_can_be_done e fits.wired k.core past still.steps fits.core_fits;
        })
