-- Whether a history is good or refused, by tests that compute.
use Rattle.std.specs.Prelude.{◌≡◌, ◌≢◌, ℕ, zero, suc, ◌+◌, ◌<◌, ◌==◌, ◌&&◌, ◌||◌, not, nat_eq, nat_le, ◌⊎◌, Bool, true, false, List, [], ◌∷◌, ◌++◌, length, refl, if◌then◌else◌}
use Rattle.std.specs.List.{starts_with, concat, flat_map}
use Rattle.std.specs.Str.{bytes_eq}
use Rattle.std.proofs.Common.{inl, inr, ap, sym, ◌∙◌, subst, arith, eqb-true}
use Rattle.std.proofs.lemmas.Bool.{and_parts, eqb-false}
use Rattle.std.proofs.lemmas.Bool.Decides.{not_from_Decides}
use Rattle.std.proofs.lemmas.Slice.Eq.{bytes_eq-Decides}
use Rattle.std.specs.Bool.{beq}
use Rattle.mux_frame.specs.Frames.{Frame}
use Rattle.mux_frame.specs.declared.frame.Kind.TheVariants.{Uih}
use Rattle.mux_station.specs.Written.{written, written_cr, kind_place, is_data_frame}
use Rattle.mux_station.specs.Opening.{is_open}
use Rattle.mux_station.specs.Stopping.{is_stopped}
use Rattle.mux_station.specs.Sending.{queue}
use Rattle.at_text.specs.Windows.{answered}
use Rattle.at_text.specs.declared.answer.AnswerLine.{AnswerLine}
use Rattle.at_text.specs.declared.unsolicited.UrcKind.{UrcKind}
use Rattle.at_text.specs.declared.unsolicited.UrcKind.TheVariants.{Ring, Cring, Creg, Cgreg, Cgev, Ciev, Other, Own}
use Rattle.modem_desk.specs.declared.request.Answer.{Answer}
use Rattle.modem_desk.specs.declared.request.Answer.TheVariants.{Done, Opened, Shut, ProbeBack, Stopped, NotOpen, AlreadyOpen, Refused, NoAnswer, Closed, ControlChannel, LineLost, Busy}
use Rattle.modem_history.specs.Acts.{Act, Took, Got, Sent, Told, Heard, Tick, Lost, Held, Freed, Given, after, wire}
use Rattle.modem_history.specs.Information.{accepted, texts, information_out}
use Rattle.modem_history.specs.Placing.{marks, reached_in}
use Rattle.modem_history.specs.Calls.{Setting, calls, is_lost}
use Rattle.modem_history.specs.Holding.{OnHeld, may_hold, is_held}
use Rattle.modem_history.specs.Lawful.{Lawful, Complete, Quiet, Keeps, Allows, Gated, IsNext, When, owed, owes_frame, some_wait, is_quiet_on}
use Rattle.modem_history.specs.Wholes.{is_first, CallGoesOn}
use Rattle.modem_history.proofs.law_proofs.WholeHistories.{call_goes_on}

-- ## Tests

-- the list is empty
abbrev pub is_nil : {A : Type 0} → List A → Bool
is_nil [] = true
is_nil (x ∷ xs) = false

-- all that is asked of a data frame
abbrev pub data_test : Setting → List Act → ℕ → List ℕ → Bool
data_test s past d info =
    not (is_lost past)
    && (is_open s.role d (wire past)
    && (not (is_stopped s.role d (wire past))
    && (nat_le 1 (length info)
    && (nat_le (length info) s.n1
    && (is_nil (owed s past)
    && (is_nil (queue (wire past))
    && (starts_with nat_eq (concat (texts (accepted s.role d past))) (information_out s.role d past ++ info)
    && nat_le (reached_in (length (information_out s.role d past ++ info)) (texts (accepted s.role d past))) (answered s.dialect (marks s.role d past) + 1))))))))

-- a connection may be held, or freed, where the act does so
abbrev pub held_test : Setting → List Act → Act → Bool
held_test s past (Held d) = may_hold s.role d past
held_test s past (Freed d) = is_held s.role d past
held_test s past _ = true

-- ## Good histories

-- what a history is made of: calls whole, data, and control frames that are given on
pub data Step : Type 0 where
  Call : Act → Step
  Data : (dlci : ℕ) → (info : List ℕ) → Step
  Mark : Step

-- the step may follow the past
abbrev pub step_test : Setting → List Act → Step → Bool
step_test s past (Call a) = is_first a && held_test s past a
step_test s past (Data d info) = not (d == 0) && data_test s past d info
step_test s past Mark = some_wait (queue (wire past))

-- the past after the step: a call with all that it calls for, a data frame as this end writes it, or a mark
abbrev pub step_on : Setting → List Act → Step → List Act
step_on s past (Call a) = after past (a ∷ calls s past a)
step_on s past (Data d info) = Sent (written s.role Uih d info) ∷ past
step_on s past Mark = Given ∷ past

-- each step may follow what went before it
abbrev pub steps_test : Setting → List Act → List Step → Bool
steps_test s past [] = true
steps_test s past (x ∷ xs) = step_test s past x && steps_test s (step_on s past x) xs

-- the past after these steps
abbrev pub run : Setting → List Act → List Step → List Act
run s past [] = past
run s past (x ∷ xs) = run s (step_on s past x) xs

-- the steps of some acts
abbrev pub steps_at : Frame → Bool → List Step → List Step
steps_at f true rest = Data f.dlci f.info ∷ rest
steps_at f false rest = rest

-- a call for each act that begins one, data and marks; what is called for has no step of its own
abbrev pub steps_of : List Act → List Step
steps_of [] = []
steps_of (Sent f ∷ acts) = steps_at f (is_data_frame f) (steps_of acts)
steps_of (Told o ∷ acts) = steps_of acts
steps_of (Heard k d line ∷ acts) = steps_of acts
steps_of (Given ∷ acts) = Mark ∷ steps_of acts
steps_of (a ∷ acts) = Call a ∷ steps_of acts

nil_of : {A : Type 0} (xs : List A) → is_nil xs ≡ true → xs ≡ []
nil_of [] h = refl
nil_of (x ∷ xs) h = cc

not_of : (b : Bool) → not b ≡ true → b ≡ false
not_of true h = cc
not_of false h = refl

held_by : (s : Setting) (past : List Act) (a : Act) → held_test s past a ≡ true → OnHeld s.role past a
held_by s past (Held d) h = h
held_by s past (Freed d) h = h
held_by s past (Took r) h = tt
held_by s past (Got f) h = tt
held_by s past (Sent f) h = tt
held_by s past (Told o) h = tt
held_by s past (Heard k d line) h = tt
held_by s past Tick h = tt
held_by s past Lost h = tt
held_by s past Given h = tt

-- the frame is data
data_is : (s : Setting) (d : ℕ) (info : List ℕ) → (d == 0) ≡ false → is_data_frame (written s.role Uih d info) ≡ true
data_is s d info h = ap not h

law_of : (b : Bool) (P : Type 0) → P → When b P
law_of true P p = p
law_of false P p = tt

no_law : (b : Bool) (P : Type 0) → b ≡ true → When (not b) P
no_law true P h = tt
no_law false P h = cc

still : (b : Bool) (xs ys : List Act) → b ≡ true → (if b then xs else ys) ≡ xs
still true xs ys h = refl
still false xs ys h = cc

record Good (s : Setting) (past : List Act) : Type 0 where
  lawful : Lawful s past
  complete : Complete s past

data_good : (s : Setting) (past : List Act) (d : ℕ) (info : List ℕ) → (d == 0) ≡ false → data_test s past d info ≡ true → Good s past → Good s (Sent (written s.role Uih d info) ∷ past)
unfolding Lawful Complete
data_good s past d info z h g =
    let f = written s.role Uih d info in
    let p1 = and_parts _ _ h in
    let p2 = and_parts _ _ p1.1 in
    let p3 = and_parts _ _ p2.1 in
    let p4 = and_parts _ _ p3.1 in
    let p5 = and_parts _ _ p4.1 in
    let p6 = and_parts _ _ p5.1 in
    let p7 = and_parts _ _ p6.1 in
    let p8 = and_parts _ _ p7.1 in
    let is_data = data_is s d info z in
    let allowed : Allows s past (owed s past) (Sent f) = record {
      gated = law_of (is_data_frame f) _ (record { live = not_of _ p1.0; is_open = p2.0; goes = not_of _ p3.0; as_written = refl; some = p4.0; fits = p5.0; behind = nil_of _ p6.0; alone = nil_of _ p7.0 });
      once = law_of (is_data_frame f) _ p8.0;
      in_turn = law_of (is_data_frame f) _ p8.1;
      controlled = no_law (is_data_frame f) _ is_data;
      answered = tt;
      heard = tt;
      prompt = tt;
      held = tt;
      marked = tt;
    } in
    record { lawful = (allowed, g.lawful); complete = still (is_data_frame f) (owed s past) _ is_data ∙ g.complete }

step_good : (s : Setting) (past : List Act) (x : Step) → step_test s past x ≡ true → Good s past → Good s (step_on s past x)
unfolding Lawful Complete CallGoesOn
step_good s past (Call a) h g =
    let parts = and_parts (is_first a) (held_test s past a) h in
    let on = call_goes_on s past a parts.0 (held_by s past a parts.1) g.lawful g.complete in
    record { lawful = on.lawful; complete = on.complete }
step_good s past (Data d info) h g =
    let parts = and_parts (not (d == 0)) (data_test s past d info) h in
    data_good s past d info (not_of (d == 0) parts.0) parts.1 g
step_good s past Mark h g =
    record {
      lawful = (record { gated = tt; once = tt; in_turn = tt; controlled = tt; answered = tt; heard = tt; prompt = tt; held = tt; marked = h }, g.lawful);
      complete = g.complete;
    }

steps_good : (s : Setting) (past : List Act) (xs : List Step) → steps_test s past xs ≡ true → Good s past → Good s (run s past xs)
steps_good s past [] h g = g
steps_good s past (x ∷ xs) h g =
    let parts = and_parts (step_test s past x) (steps_test s (step_on s past x) xs) h in
    steps_good s (step_on s past x) xs parts.1 (step_good s past x parts.0 g)

-- a test that holds of all numbers below n
abbrev pub all_below : (ℕ → Bool) → ℕ → Bool
all_below test zero = true
all_below test (suc n) = test n && all_below test n

last_or_below : (test : ℕ → Bool) (n d : ℕ) (b : Bool) → (d == n) ≡ b → test n ≡ true → (d < n → test d ≡ true) → d < suc n → test d ≡ true
last_or_below test n d true e here below small = subst (λ (m : ℕ). test m ≡ true) (sym (eqb-true d n e)) here
last_or_below test n d false e here below small = let x : d ≢ n = eqb-false d n e in below (omega arith)

holds_below : (test : ℕ → Bool) (n d : ℕ) → all_below test n ≡ true → d < n → test d ≡ true
holds_below test zero d h small = let x : ⊥ = omega arith in absurd x
holds_below test (suc n) d h small =
    let parts = and_parts (test n) (all_below test n) h in
    last_or_below test n d (d == n) refl parts.0 (holds_below test n d parts.1) small

-- d is 0, shut or stopped, or else waits for one answer or has them all
abbrev pub quiet_at : Setting → List Act → ℕ → Bool
quiet_at s past d = (d == 0) || (not (is_open s.role d (wire past)) || (is_stopped s.role d (wire past) || is_quiet_on s d past))

-- so is each connection
abbrev pub quiet_test : Setting → List Act → Bool
quiet_test s past = all_below (quiet_at s past) 62

fourth_of : (a b c e : Bool) → (a || (not b || (c || e))) ≡ true → a ≡ false → b ≡ true → c ≡ false → e ≡ true
fourth_of true b c e h i j k = cc
fourth_of false false c e h i j k = cc
fourth_of false true true e h i j k = cc
fourth_of false true false e h i j k = h

quiet_by : (s : Setting) (past : List Act) → quiet_test s past ≡ true → Quiet s past
unfolding Quiet
quiet_by s past h d small z o stopped = fourth_of (d == 0) (is_open s.role d (wire past)) (is_stopped s.role d (wire past)) (is_quiet_on s d past) (holds_below (quiet_at s past) 62 d h small) z o stopped

-- a history made of whole calls, data where it may leave, and marks where a frame waits, is good
pub good : (s : Setting) (acts : List Act) → steps_test s [] (steps_of acts) ≡ true → run s [] (steps_of acts) ≡ after [] acts → quiet_test s (after [] acts) ≡ true → Keeps s (after [] acts)
unfolding Lawful Complete
good s acts h e q =
    let g = steps_good s [] (steps_of acts) h (record { lawful = tt; complete = refl }) in
    let there = subst (Good s) e g in
    record { lawful = there.lawful; complete = there.complete; quiet = quiet_by s (after [] acts) q }

-- ## Refused histories

-- numbers of an answer
abbrev pub answer_code : Answer → List ℕ
answer_code (Done ls) = 0 ∷ flat_map (λ (l : AnswerLine). length l.text ∷ l.text) ls
answer_code Opened = 1 ∷ []
answer_code Shut = 2 ∷ []
answer_code ProbeBack = 3 ∷ []
answer_code Stopped = 4 ∷ []
answer_code NotOpen = 5 ∷ []
answer_code AlreadyOpen = 6 ∷ []
answer_code Refused = 7 ∷ []
answer_code NoAnswer = 8 ∷ []
answer_code Closed = 9 ∷ []
answer_code ControlChannel = 10 ∷ []
answer_code LineLost = 11 ∷ []
answer_code Busy = 12 ∷ []

-- 1 for true, 0 for false
abbrev pub bit : Bool → ℕ
bit true = 1
bit false = 0

-- the number of a kind of lines
abbrev pub kind_code : UrcKind → ℕ
kind_code Ring = 0
kind_code Cring = 1
kind_code Creg = 2
kind_code Cgreg = 3
kind_code Cgev = 4
kind_code Ciev = 5
kind_code Other = 6
kind_code (Own number) = 7 + number

-- numbers of an act that may be owed
abbrev pub act_code : Act → List ℕ
act_code (Told o) = 1 ∷ o.caller ∷ o.number ∷ answer_code o.answer
act_code (Sent f) = 2 ∷ kind_place f.kind ∷ f.dlci ∷ bit f.cr ∷ bit f.pf ∷ f.info
act_code (Heard kind d line) = 3 ∷ kind_code kind ∷ d ∷ line
act_code _ = []

-- numbers of the next act owed; none where nothing is owed
abbrev pub next_code : List Act → List ℕ
next_code [] = []
next_code (a ∷ owing) = act_code a

-- it isn't the next one owed
abbrev pub other_test : List Act → Act → Bool
other_test owing a = not (bytes_eq (next_code owing) (act_code a))

-- the frame isn't written as this end writes it
abbrev pub unwritten : Setting → Frame → Bool
unwritten s f = not (beq f.cr (written_cr s.role f.kind)) || f.pf

-- the frame sent may not follow: data that isn't as written or fails its test, or a control frame that isn't the next owed
abbrev pub sent_refused : Setting → List Act → Frame → Bool → Bool
sent_refused s past f true = unwritten s f || not (data_test s past f.dlci f.info)
sent_refused s past f false = other_test (owed s past) (Sent f)

-- the act may not stand behind the past
abbrev pub refused_test : Setting → List Act → Act → Bool
refused_test s past (Sent f) = sent_refused s past f (is_data_frame f)
refused_test s past (Told o) = other_test (owed s past) (Told o)
refused_test s past (Heard k d line) = other_test (owed s past) (Heard k d line)
refused_test s past (Took r) = owes_frame (owed s past)
refused_test s past (Got f) = owes_frame (owed s past)
refused_test s past Tick = owes_frame (owed s past)
refused_test s past Lost = false
refused_test s past (Held d) = owes_frame (owed s past) || not (may_hold s.role d past)
refused_test s past (Freed d) = owes_frame (owed s past) || not (is_held s.role d past)
refused_test s past Given = not (some_wait (queue (wire past)))

-- some act may not stand where it stands
abbrev pub refusal_test : Setting → List Act → Bool
refusal_test s [] = false
refusal_test s (a ∷ past) = refused_test s past a || refusal_test s past

same_bytes : (xs ys : List ℕ) → xs ≡ ys → bytes_eq xs ys ≡ true
same_bytes xs ys e = by_test (bytes_eq xs ys) refl
  where
    by_test : (b : Bool) → bytes_eq xs ys ≡ b → b ≡ true
    by_test true h = refl
    by_test false h = absurd (not_from_Decides (bytes_eq xs ys) (bytes_eq-Decides xs ys) h e)

no_test : (b : Bool) → b ≡ true → not b ≡ true → ⊥
no_test true h k = cc
no_test false h k = cc

either : (x y : Bool) → (x || y) ≡ true → (x ≡ true) ⊎ (y ≡ true)
either true y h = inl refl
either false y h = inr h

not_next : (owing : List Act) (a : Act) → IsNext owing a → other_test owing a ≡ true → ⊥
not_next owing a n h = no_test (bytes_eq (next_code owing) (act_code a)) (same_bytes (next_code owing) (act_code a) (ap next_code n.is_next)) h

lawful_now : {b : Bool} {P : Type 0} → b ≡ true → When b P → P
lawful_now {b = true} h p = p
lawful_now {b = false} h p = cc

clash : (b : Bool) → b ≡ false → b ≡ true → ⊥
clash true h k = cc
clash false h k = cc

both : (x y : Bool) → x ≡ true → y ≡ true → (x && y) ≡ true
both true true h k = refl
both true false h k = cc
both false y h k = cc

negated : (b : Bool) → b ≡ false → not b ≡ true
negated true h = cc
negated false h = refl

nil_is : {A : Type 0} (xs : List A) → xs ≡ [] → is_nil xs ≡ true
nil_is [] h = refl
nil_is (x ∷ xs) h = cc

data_tests : (s : Setting) (past : List Act) (f : Frame) → Gated s past (owed s past) f
    → starts_with nat_eq (concat (texts (accepted s.role f.dlci past))) (information_out s.role f.dlci past ++ f.info) ≡ true
    → nat_le (reached_in (length (information_out s.role f.dlci past ++ f.info)) (texts (accepted s.role f.dlci past))) (answered s.dialect (marks s.role f.dlci past) + 1) ≡ true
    → data_test s past f.dlci f.info ≡ true
data_tests s past f g o t =
    both _ _ (negated _ g.live) (both _ _ g.is_open (both _ _ (negated _ g.goes) (both _ _ g.some (both _ _ g.fits
    (both _ _ (nil_is _ g.behind) (both _ _ (nil_is _ g.alone) (both _ _ o t)))))))

beq_same : (x y : Bool) → x ≡ y → beq x y ≡ true
beq_same true true h = refl
beq_same false false h = refl
beq_same true false h = cc
beq_same false true h = cc

written_tests : (s : Setting) (f : Frame) → f ≡ written s.role Uih f.dlci f.info → unwritten s f ≡ true → ⊥
written_tests s f e h = by_bit (either (not (beq f.cr (written_cr s.role f.kind))) f.pf h)
  where
    kind_is : f.kind ≡ Uih
    kind_is = ap (λ (g : Frame). g.kind) e

    by_bit : (not (beq f.cr (written_cr s.role f.kind)) ≡ true) ⊎ (f.pf ≡ true) → ⊥
    by_bit (inl k) = no_test (beq f.cr (written_cr s.role f.kind)) (beq_same f.cr (written_cr s.role f.kind) (ap (λ (g : Frame). g.cr) e ∙ ap (written_cr s.role) (sym kind_is))) k
    by_bit (inr k) = clash f.pf (ap (λ (g : Frame). g.pf) e) k

sent_by : (s : Setting) (past : List Act) (f : Frame) (b : Bool) → is_data_frame f ≡ b → Allows s past (owed s past) (Sent f) → sent_refused s past f b ≡ true → ⊥
sent_by s past f true e l h =
    let g = lawful_now e l.gated in
    by_either g (either (unwritten s f) (not (data_test s past f.dlci f.info)) h)
  where
    by_either : Gated s past (owed s past) f → (unwritten s f ≡ true) ⊎ (not (data_test s past f.dlci f.info) ≡ true) → ⊥
    by_either g (inl k) = written_tests s f g.as_written k
    by_either g (inr k) = no_test (data_test s past f.dlci f.info) (data_tests s past f g (lawful_now e l.once) (lawful_now e l.in_turn)) k
sent_by s past f false e l h = not_next (owed s past) (Sent f) (lawful_now (negated (is_data_frame f) e) l.controlled) h

late : (b : Bool) → b ≡ false → b ≡ true → ⊥
late b h k = clash b h k

refused_act : (s : Setting) (past : List Act) (a : Act) → Allows s past (owed s past) a → refused_test s past a ≡ true → ⊥
refused_act s past (Sent f) l h = sent_by s past f (is_data_frame f) refl l h
refused_act s past (Told o) l h = not_next (owed s past) (Told o) l.answered h
refused_act s past (Heard k d line) l h = not_next (owed s past) (Heard k d line) l.heard h
refused_act s past (Took r) l h = late (owes_frame (owed s past)) l.prompt h
refused_act s past (Got f) l h = late (owes_frame (owed s past)) l.prompt h
refused_act s past Tick l h = late (owes_frame (owed s past)) l.prompt h
refused_act s past Lost l h = cc
refused_act s past (Held d) l h = by_either (either (owes_frame (owed s past)) (not (may_hold s.role d past)) h)
  where
    by_either : (owes_frame (owed s past) ≡ true) ⊎ (not (may_hold s.role d past) ≡ true) → ⊥
    by_either (inl k) = late (owes_frame (owed s past)) l.prompt k
    by_either (inr k) = no_test (may_hold s.role d past) l.held k
refused_act s past (Freed d) l h = by_either (either (owes_frame (owed s past)) (not (is_held s.role d past)) h)
  where
    by_either : (owes_frame (owed s past) ≡ true) ⊎ (not (is_held s.role d past) ≡ true) → ⊥
    by_either (inl k) = late (owes_frame (owed s past)) l.prompt k
    by_either (inr k) = no_test (is_held s.role d past) l.held k
refused_act s past Given l h = no_test (some_wait (queue (wire past))) l.marked h

-- a history in which some act may not stand where it stands isn't lawful
pub refused : (s : Setting) (past : List Act) → refusal_test s past ≡ true → ¬ Lawful s past
unfolding Lawful
refused s [] h l = cc
refused s (a ∷ past) h l = by_either (either (refused_test s past a) (refusal_test s past) h) (λ k. refused s past k l.1)
  where
    by_either : (refused_test s past a ≡ true) ⊎ (refusal_test s past ≡ true) → (refusal_test s past ≡ true → ⊥) → ⊥
    by_either (inl k) rest = refused_act s past a l.0 k
    by_either (inr k) rest = rest k

-- something is owed
pub incomplete : (s : Setting) (past : List Act) → is_nil (owed s past) ≡ false → ¬ Complete s past
unfolding Complete
incomplete s past h c = clash (is_nil (owed s past)) h (nil_is (owed s past) c)

-- an open connection that isn't stopped doesn't wait for one answer
abbrev pub unquiet_test : Setting → List Act → ℕ → Bool
unquiet_test s past d = not (d == 0) && (is_open s.role d (wire past) && (not (is_stopped s.role d (wire past)) && not (is_quiet_on s d past)))

-- a history with such a connection isn't quiet
pub unquiet : (s : Setting) (past : List Act) (d : ℕ) → d < 62 → unquiet_test s past d ≡ true → ¬ Quiet s past
unfolding Quiet
unquiet s past d small h q =
    let p1 = and_parts _ _ h in
    let p2 = and_parts _ _ p1.1 in
    let p3 = and_parts _ _ p2.1 in
    no_test (is_quiet_on s d past) (q d small (not_of _ p1.0) p2.0 (not_of _ p3.0)) p3.1
