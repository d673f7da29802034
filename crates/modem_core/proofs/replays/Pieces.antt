-- A call and all that goes out after it are a piece of a replay.
use Rattle.std.specs.Prelude.{zero, suc, ◌≡◌, ℕ, ◌+◌, ◌-◌, ◌≤◌, ◌==◌, not, ◌⊎◌, Bool, true, false, List, [], ◌∷◌, ◌++◌, drop, map, find, refl, Option, Some, None, option_map, if◌then◌else◌}
use Rattle.std.specs.List.{list_all, range_with_len}
use Rattle.std.proofs.Common.{inl, inr, ap, sym, ◌∙◌, subst, arith, append-nil, append_assoc}
use Rattle.std.proofs.lemmas.Bool.{and_parts, ne_eqb}
use Rattle.at_text.specs.Dialects.{Dialect}
use Rattle.mux_frame.specs.Frames.{Frame}
use Rattle.mux_station.specs.declared.role.Role.{Role}
use Rattle.mux_station.specs.Written.{is_data_frame}
use Rattle.mux_station.specs.Offering.{last_sender}
use Rattle.mux_station.specs.Sending.{queue}
use Rattle.mux_station.specs.GivenFrames.{Outgoing, with_freshness}
use Rattle.modem_history.specs.Acts.{Act, Took, Got, Sent, Told, Heard, Tick, Lost, Held, Freed, Given, after, wire}
use Rattle.modem_history.specs.Calls.{Setting, calls, seen, is_lost}
use Rattle.modem_history.specs.Lawful.{Lawful}
use Rattle.modem_history.specs.Wholes.{is_said, is_first}
use Rattle.modem_history.proofs.calls.CalledActs.{calls_said}
use Rattle.modem_history.proofs.connections.SendingAfterLoss.{none_after_loss}
use Rattle.modem_core.specs.Cores.{Core, Fits, IsRun, MayCome, Handles}
use Rattle.modem_core.specs.CoreGoing.{StandsIn}
use Rattle.modem_history.specs.GoingOut.{may_send, from_on, else_by, next_to_send, data_of, out_by, next_out}
use Rattle.modem_core.specs.Replays.{Piece, marks_for, with_piece, GoOutInTurn}
use Rattle.modem_core.specs.Running.{GoesTo, stays, marks, sends, SendsAll, Running, Steps}
use Rattle.modem_core.proofs.outgoing.QuietHistories.{drained_quiet}

-- ## The control queue

-- the frames among what a call is called for
abbrev pub frames_in : List Act → List Frame
frames_in [] = []
frames_in (Sent f ∷ acts) = f ∷ frames_in acts
frames_in (_ ∷ acts) = frames_in acts

each_marked : List Frame → List Act
each_marked fs = map (λ (f : Frame). Given) fs

if_not : (b : Bool) (f : Frame) → b ≡ false → (if b then [] else f ∷ []) ≡ f ∷ []
if_not false f h = refl
if_not true f h = cc

not_data : (b : Bool) → not b ≡ true → b ≡ false
not_data true h = cc
not_data false h = refl

queue_after : (acts past : List Act) → list_all is_said acts ≡ true → queue (wire (after past acts)) ≡ queue (wire past) ++ frames_in acts
queue_after [] past h = sym (append-nil (queue (wire past)))
queue_after (Sent f ∷ acts) past h =
    let parts = and_parts (not (is_data_frame f)) (list_all is_said acts) h in
    queue_after acts (Sent f ∷ past) parts.1
    ∙ (ap (λ (fs : List Frame). (queue (wire past) ++ fs) ++ frames_in acts) (if_not (is_data_frame f) f (not_data (is_data_frame f) parts.0)) ∙ append_assoc (queue (wire past)) (f ∷ []) (frames_in acts))
queue_after (Told o ∷ acts) past h = queue_after acts (Told o ∷ past) h
queue_after (Heard k d line ∷ acts) past h = queue_after acts (Heard k d line ∷ past) h
queue_after (Took q ∷ acts) past h = absurd (let e : false ≡ true = h in cc)
queue_after (Got f ∷ acts) past h = absurd (let e : false ≡ true = h in cc)
queue_after (Tick ∷ acts) past h = absurd (let e : false ≡ true = h in cc)
queue_after (Lost ∷ acts) past h = absurd (let e : false ≡ true = h in cc)
queue_after (Held d ∷ acts) past h = absurd (let e : false ≡ true = h in cc)
queue_after (Freed d ∷ acts) past h = absurd (let e : false ≡ true = h in cc)
queue_after (Given ∷ acts) past h = absurd (let e : false ≡ true = h in cc)

marked_if : (b : Bool) (rest rest' : List Act) → b ≡ false → rest ≡ rest' → (if b then rest else Given ∷ rest) ≡ Given ∷ rest'
marked_if false rest rest' h e = ap (λ (v : List Act). Given ∷ v) e
marked_if true rest rest' h e = cc

marks_are : (acts : List Act) → list_all is_said acts ≡ true → marks_for acts ≡ each_marked (frames_in acts)
unfolding each_marked
marks_are [] h = refl
marks_are (Sent f ∷ acts) h =
    let parts = and_parts (not (is_data_frame f)) (list_all is_said acts) h in
    marked_if (is_data_frame f) (marks_for acts) (each_marked (frames_in acts)) (not_data (is_data_frame f) parts.0) (marks_are acts parts.1)
marks_are (Told o ∷ acts) h = marks_are acts h
marks_are (Heard k d line ∷ acts) h = marks_are acts h
marks_are (Took q ∷ acts) h = absurd (let e : false ≡ true = h in cc)
marks_are (Got f ∷ acts) h = absurd (let e : false ≡ true = h in cc)
marks_are (Tick ∷ acts) h = absurd (let e : false ≡ true = h in cc)
marks_are (Lost ∷ acts) h = absurd (let e : false ≡ true = h in cc)
marks_are (Held d ∷ acts) h = absurd (let e : false ≡ true = h in cc)
marks_are (Freed d ∷ acts) h = absurd (let e : false ≡ true = h in cc)
marks_are (Given ∷ acts) h = absurd (let e : false ≡ true = h in cc)

-- what begins a call queues no frame by itself
queue_first : (a : Act) (past : List Act) → is_first a ≡ true → queue (wire past) ≡ [] → queue (wire (a ∷ past)) ≡ []
queue_first (Took q) past f h = h
queue_first (Got g) past f h = h
queue_first Tick past f h = h
queue_first Lost past f h = refl
queue_first (Held d) past f h = h
queue_first (Freed d) past f h = h
queue_first (Sent g) past f h = absurd (let e : false ≡ true = f in cc)
queue_first (Told o) past f h = absurd (let e : false ≡ true = f in cc)
queue_first (Heard k d line) past f h = absurd (let e : false ≡ true = f in cc)
queue_first Given past f h = absurd (let e : false ≡ true = f in cc)

-- once the line is lost nothing waits there
queue_lost : (s : Setting) (past : List Act) → Lawful s past → is_lost past ≡ true → queue (wire past) ≡ []
unfolding Lawful
queue_lost s [] l n = cc
queue_lost s (Lost ∷ past) l n = refl
queue_lost s (Sent f ∷ past) l n = absurd (none_after_loss s past f n l)
queue_lost s (Given ∷ past) l n = ap (λ (fs : List Frame). drop 1 fs) (queue_lost s past l.1 n)
queue_lost s (Took q ∷ past) l n = queue_lost s past l.1 n
queue_lost s (Got f ∷ past) l n = queue_lost s past l.1 n
queue_lost s (Told o ∷ past) l n = queue_lost s past l.1 n
queue_lost s (Heard k d line ∷ past) l n = queue_lost s past l.1 n
queue_lost s (Tick ∷ past) l n = queue_lost s past l.1 n
queue_lost s (Held d ∷ past) l n = queue_lost s past l.1 n
queue_lost s (Freed d ∷ past) l n = queue_lost s past l.1 n

live_none : (s : Setting) (past : List Act) (fs : List Frame) → out_by s past fs ≡ None → fs ≡ []
live_none s past [] h = refl
live_none s past (f ∷ fs) h = cc

-- where nothing may go out, no control frame waits
pub queue_drained : (s : Setting) (past : List Act) → Lawful s past → next_out s past ≡ None → queue (wire past) ≡ []
queue_drained s past l h = by_loss (is_lost past) refl
  where
    by_loss : (b : Bool) → is_lost past ≡ b → queue (wire past) ≡ []
    by_loss true n = queue_lost s past l n
    by_loss false n = live_none s past (queue (wire past)) (ap (λ (b : Bool). if b then None else out_by s past (queue (wire past))) (sym n) ∙ h)

-- ## Control frames go out first

found_from : (test : ℕ → Bool) (a n d : ℕ) → find test (range_with_len a n) ≡ Some d → a ≤ d
found_from test a zero d h = cc
found_from test a (suc n) d h = by_test (test a) (λ k. found_from test (a + 1) n d k) h
  where
    by_test : (b : Bool) → (find test (range_with_len (a + 1) n) ≡ Some d → a + 1 ≤ d) → (if b then Some a else find test (range_with_len (a + 1) n)) ≡ Some d → a ≤ d
    by_test true k h = let same : a ≡ d = cc in omega (arith, same)
    by_test false k h = let x = k h in omega (arith, x)

-- the connection whose turn it is was found above the last sender, or else from 1 on
pub turn_found : (a b : Option ℕ) (d : ℕ) → else_by a b ≡ Some d → (a ≡ Some d) ⊎ (b ≡ Some d)
turn_found (Some e) b d h = inl h
turn_found None b d h = inr h

turn_no_zero : (dialect : Dialect) (r : Role) (past : List Act) (d : ℕ) → next_to_send dialect r past ≡ Some d → 1 ≤ d
turn_no_zero dialect r past d h = by_case (turn_found (find (may_send dialect r past) (from_on (last_sender (wire past) + 1))) (find (may_send dialect r past) (from_on 1)) d h)
  where
    by_case : (find (may_send dialect r past) (from_on (last_sender (wire past) + 1)) ≡ Some d) ⊎ (find (may_send dialect r past) (from_on 1) ≡ Some d) → 1 ≤ d
    by_case (inl k) = let x = found_from (may_send dialect r past) (last_sender (wire past) + 1) (62 - (last_sender (wire past) + 1)) d k in omega (arith, x)
    by_case (inr k) = found_from (may_send dialect r past) 1 61 d k

-- which frame it is
record NextIs (s : Setting) (past : List Act) (f : Frame) : Type 0 where
  live : is_lost past ≡ false
  out : out_by s past (queue (wire past)) ≡ Some (with_freshness true f)

-- what goes out next does so while the line isn't lost: the first control frame that waits, or data
pub next_live : (s : Setting) (past : List Act) (o : Outgoing) → next_out s past ≡ Some o → (is_lost past ≡ false) × (out_by s past (queue (wire past)) ≡ Some o)
next_live s past o h = by_loss (is_lost past) refl h
  where
    by_loss : (b : Bool) → is_lost past ≡ b → (if b then None else out_by s past (queue (wire past))) ≡ Some o → (is_lost past ≡ false) × (out_by s past (queue (wire past)) ≡ Some o)
    by_loss true n h = cc
    by_loss false n h = (n, h)

-- the frame that goes out, or else this one
abbrev pub frame_out : Frame → Option Outgoing → Frame
frame_out f None = f
frame_out f (Some o) = o.frame

abbrev is_fresh : Option Outgoing → Bool
is_fresh None = false
is_fresh (Some o) = o.fresh

control_next : (s : Setting) (past : List Act) (q : List Frame) (f : Frame) → out_by s past q ≡ Some (with_freshness false f) → (rest : List Frame) × (q ≡ f ∷ rest)
control_next s past (g ∷ q) f h = let same : g ≡ f = ap (frame_out f) h in (q, ap (λ (x : Frame). x ∷ q) same)
control_next s past [] f h = absurd (no_control (next_to_send s.dialect s.role past) h)
  where
    no_control : (o : Option ℕ) → option_map (λ (d : ℕ). with_freshness true (data_of s past d)) o ≡ Some (with_freshness false f) → ⊥
    no_control None h = cc
    no_control (Some d) h = let x : true ≡ false = ap is_fresh h in cc

-- what goes out fresh is data, and no control frame waits
pub data_next : (s : Setting) (past : List Act) (q : List Frame) (f : Frame) → out_by s past q ≡ Some (with_freshness true f) → (q ≡ []) × (is_data_frame f ≡ true)
data_next s past (g ∷ q) f h = absurd (let x : false ≡ true = ap is_fresh h in cc)
data_next s past [] f h = (refl, by_turn (next_to_send s.dialect s.role past) refl h)
  where
    by_turn : (o : Option ℕ) → next_to_send s.dialect s.role past ≡ o → option_map (λ (d : ℕ). with_freshness true (data_of s past d)) o ≡ Some (with_freshness true f) → is_data_frame f ≡ true
    by_turn None e h = cc
    by_turn (Some d) e h =
        let same : data_of s past d ≡ f = ap (frame_out f) h in
        let one = turn_no_zero s.dialect s.role past d e in
        let no : (d == 0) ≡ false = ne_eqb d 0 (omega (arith, one)) in
        subst (λ (g : Frame). is_data_frame g ≡ true) same (ap not no)

-- what has gone out: a mark for each frame that waited, and then data
record OutSo (s : Setting) (past : List Act) (q : List Frame) (fs : List Frame) (last : List Act) : Type 0 where
  last_is : last ≡ after (after past (each_marked q)) (map Sent fs)
  in_turn : GoOutInTurn s (after past (each_marked q)) fs

no_more : (b : Bool) (q : List Frame) → (b ≡ true → q ≡ []) → (b ≡ false → q ≡ []) → q ≡ []
no_more true q h k = h refl
no_more false q h k = k refl

kept_if : (b : Bool) (f : Frame) (q : List Frame) → b ≡ true → q ≡ [] → q ++ (if b then [] else f ∷ []) ≡ []
kept_if true f q h e = append-nil q ∙ e
kept_if false f q h e = cc

out_so : (s : Setting) (past last : List Act) (fs q : List Frame) → GoesTo s past fs last → next_out s last ≡ None → queue (wire past) ≡ q → (is_lost past ≡ true → q ≡ []) → OutSo s past q fs last
unfolding each_marked
out_so s _ _ _ q (stays past) none e lost =
    let empty : q ≡ [] = no_more (is_lost past) q lost (λ n. sym e ∙ live_none s past (queue (wire past)) (ap (λ (b : Bool). if b then None else out_by s past (queue (wire past))) (sym n) ∙ none)) in
    subst (λ (x : List Frame). OutSo s past x [] past) (sym empty) (record { last_is = refl; in_turn = none })
out_so s _ _ _ q (marks past last f fs n k) none e lost =
    let now = next_live s past (with_freshness false f) n in
    let c = control_next s past (queue (wire past)) f now.1 in
    let q_is : q ≡ f ∷ c.0 = sym e ∙ c.1 in
    let o = out_so s (Given ∷ past) last fs c.0 k none (ap (λ (x : List Frame). drop 1 x) c.1) (λ l. absurd (let x : true ≡ false = sym l ∙ now.0 in cc)) in
    subst (λ (x : List Frame). OutSo s past x fs last) (sym q_is) (record { last_is = o.last_is; in_turn = o.in_turn })
out_so s _ _ _ q (sends past last f fs n k) none e lost =
    let now = next_live s past (with_freshness true f) n in
    let d = data_next s past (queue (wire past)) f now.1 in
    let q_is : q ≡ [] = sym e ∙ d.0 in
    let o = out_so s (Sent f ∷ past) last fs [] k none (kept_if (is_data_frame f) f (queue (wire past)) d.1 d.0) (λ l. refl) in
    subst (λ (x : List Frame). OutSo s past x (f ∷ fs) last) (sym q_is) (record { last_is = o.last_is; in_turn = (n, o.in_turn) })

-- ## A whole piece

-- a call that the core handles, and all that then goes out, are a piece
pub steps : (a : Act) (old new : Running) (mid : Core) (acts : List Act) → is_first a ≡ true → Handles old.core mid a acts → SendsAll mid new.core (old.acts ++ acts) new.acts → Steps a old new
unfolding Steps Handles
steps a old new mid acts first h out s past d numbers =
    let m : MayCome s old.core past a = record { setting = d.stands.setting; fits = d.stands.fits; run = d.stands.run; numbers = numbers } in
    let g = h s past m in
    let more = calls s past a in
    let said : list_all is_said more ≡ true = calls_said s (seen s past) a in
    let now : List Act = after past (a ∷ more) in
    let same : after past acts ≡ now = ap (λ (x : List Act). after past x) g.called in
    let stands : StandsIn s mid now = record { setting = g.setting; fits = subst (λ (x : List Act). Fits mid x) same g.fits; run = subst (IsRun s) same g.run } in
    let w = out.some.out s now stands in
    let none = out.none_left s now stands in
    let before : queue (wire past) ≡ [] = queue_drained s past d.stands.run.lawful d.none_left in
    let waits : queue (wire now) ≡ frames_in more = queue_after more (a ∷ past) said ∙ ap (λ (x : List Frame). x ++ frames_in more) (queue_first a past first before) in
    let o = out_so s now w.now out.some.frames (frames_in more) w.goes none waits (λ l. sym waits ∙ queue_lost s now stands.run.lawful l) in
    let p : Piece = record { first = a; more = more; data_frames = out.some.frames } in
    let marked = marks_are more said in
    let last : w.now ≡ with_piece past p = o.last_is ∙ ap (λ (x : List Act). after (after now x) (map Sent out.some.frames)) (sym marked) in
    let there : StandsIn s new.core (with_piece past p) = subst (StandsIn s new.core) last w.stands in
    let drained : next_out s (with_piece past p) ≡ None = ap (next_out s) (sym last) ∙ none in
    record {
      piece = p;
      first_is = refl;
      acts_are = out.some.acts_are ∙ (append_assoc old.acts acts (map Sent out.some.frames) ∙ ap (λ (x : List Act). old.acts ++ (x ++ map Sent out.some.frames)) g.called);
      is_piece = record {
        follow = said;
        goes_out = subst (λ (x : List Act). GoOutInTurn s (after now x) out.some.frames) (sym marked) o.in_turn;
        keeps = record { lawful = there.run.lawful; complete = there.run.complete; quiet = drained_quiet s (with_piece past p) there.setting.role_is there.run drained };
      };
      drained = record { stands = there; none_left = drained };
    }
