-- What goes out next, and that it may.
use Rattle.std.specs.Prelude.{◌≡◌, ℕ, zero, suc, ◌+◌, ◌-◌, ◌<◌, ◌≤◌, ◌==◌, ◌&&◌, ◌⊎◌, not, cond, Bool, true, false, List, [], ◌∷◌, length, take, drop, min, find, refl, Option, None, Some, option_map, if◌then◌else◌}
use Rattle.std.specs.List.{range_with_len}
use Rattle.std.proofs.Common.{ap, sym, ◌∙◌, subst, arith, inl, inr}
use Rattle.std.proofs.lemmas.Bool.{and_parts, ne_eqb, le-leb}
use Rattle.std.proofs.lemmas.List.{length-take}
use Rattle.mux_frame.specs.Frames.{Frame}
use Rattle.mux_station.specs.Written.{is_data_frame}
use Rattle.mux_station.specs.Opening.{is_open}
use Rattle.mux_station.specs.Stopping.{is_stopped}
use Rattle.mux_station.specs.Offering.{last_sender}
use Rattle.mux_station.specs.Sending.{queue}
use Rattle.mux_station.specs.GivenFrames.{Outgoing, with_freshness}
use Rattle.at_text.specs.Windows.{answered}
use Rattle.modem_history.specs.Acts.{Act, Took, Got, Sent, Told, Heard, Tick, Lost, Held, Freed, Given, wire}
use Rattle.modem_history.specs.Information.{accepted, information_out}
use Rattle.modem_history.specs.Placing.{marks}
use Rattle.modem_history.specs.Calls.{Setting, is_lost}
use Rattle.modem_history.specs.Lawful.{Lawful, Complete, Allows, owed, some_wait}
use Rattle.modem_history.specs.GoingOut.{waits_on, may_send, from_on, else_by, next_to_send, data_of, out_by, next_out}
use Rattle.modem_history.proofs.commands.SentPrefixes.{leaves_once}
use Rattle.modem_history.proofs.connections.SendingAfterLoss.{none_after_loss}
use Rattle.modem_history.proofs.law_proofs.WholeHistories.{not_true, when_is, when_not}
use Rattle.modem_history.proofs.rules.WaitingOctets.{GoesOn, goes_on}

-- ## Whose turn it is

some_same : {A : Type 0} (x y : A) → Some x ≡ Some y → x ≡ y
some_same x y e = cc

none_some : {A : Type 0} (x : A) → None ≡ Some x → ⊥
none_some x e = cc

-- a number that was found from a first one on is no lower, and passes the test
found : (test : ℕ → Bool) (first count d : ℕ) → find test (range_with_len first count) ≡ Some d → (first ≤ d) × (test d ≡ true)
found test first zero d h = absurd (none_some d h)
found test first (suc count) d h = by_test (test first) refl (found test (first + 1) count d) h
  where
    by_test : (b : Bool) → test first ≡ b → (find test (range_with_len (first + 1) count) ≡ Some d → (first + 1 ≤ d) × (test d ≡ true))
        → cond b (Some first) (find test (range_with_len (first + 1) count)) ≡ Some d → (first ≤ d) × (test d ≡ true)
    by_test true e more k =
        let same : first ≡ d = some_same first d k in
        (omega (arith, same), ap test (sym same) ∙ e)
    by_test false e more k =
        let later = more k in
        let least = later.0 in
        (omega (arith, least), later.1)

-- the connection may send, and isn't 0
pub record MaySend (s : Setting) (past : List Act) (d : ℕ) : Type 0 where
  pub least : 1 ≤ d
  pub ready : may_send s.dialect s.role past d ≡ true

from_here : (s : Setting) (past : List Act) (first d : ℕ) → 1 ≤ first → find (may_send s.dialect s.role past) (from_on first) ≡ Some d → MaySend s past d
from_here s past first d low h =
    let here = found (may_send s.dialect s.role past) first (62 - first) d h in
    let least = here.0 in
    record { least = omega (arith, least, low); ready = here.1 }

one_of : (o p : Option ℕ) (d : ℕ) → else_by o p ≡ Some d → (o ≡ Some d) ⊎ (p ≡ Some d)
one_of (Some e) p d h = inl h
one_of None p d h = inr h

turn_of : (s : Setting) (past : List Act) (d : ℕ) → next_to_send s.dialect s.role past ≡ Some d → MaySend s past d
turn_of s past d h =
    by_place (one_of (find (may_send s.dialect s.role past) (from_on (last_sender (wire past) + 1))) (find (may_send s.dialect s.role past) (from_on 1)) d h)
  where
    by_place : (find (may_send s.dialect s.role past) (from_on (last_sender (wire past) + 1)) ≡ Some d) ⊎ (find (may_send s.dialect s.role past) (from_on 1) ≡ Some d) → MaySend s past d
    by_place (inl k) = from_here s past (last_sender (wire past) + 1) d (omega arith) k
    by_place (inr k) = from_here s past 1 d (omega arith) k

-- ## What goes out

-- a control frame that waits, or data where none does
pub data Next (s : Setting) (past : List Act) : Outgoing → Type 0 where
  queued : (f : Frame) (fs : List Frame) → queue (wire past) ≡ f ∷ fs → Next s past (with_freshness false f)
  fresh : (d : ℕ) → queue (wire past) ≡ [] → MaySend s past d → Next s past (with_freshness true (data_of s past d))

next_by : (s : Setting) (past : List Act) (o : Outgoing) (fs : List Frame) → queue (wire past) ≡ fs → out_by s past fs ≡ Some o → Next s past o
next_by s past o (f ∷ fs) e h = subst (Next s past) (some_same (with_freshness false f) o h) (queued f fs e)
next_by s past o [] e h = by_turn (next_to_send s.dialect s.role past) refl h
  where
    by_turn : (turn : Option ℕ) → next_to_send s.dialect s.role past ≡ turn → option_map (λ (d : ℕ). with_freshness true (data_of s past d)) turn ≡ Some o → Next s past o
    by_turn None k g = absurd (none_some o g)
    by_turn (Some d) k g = subst (Next s past) (some_same (with_freshness true (data_of s past d)) o g) (fresh d e (turn_of s past d k))

-- it goes out, and the line isn't lost
pub record Leaves (s : Setting) (past : List Act) (o : Outgoing) : Type 0 where
  pub live : is_lost past ≡ false
  pub next : Next s past o

-- what is next leaves so: a control frame that waits or else data, and the line is live
pub leaves : (s : Setting) (past : List Act) (o : Outgoing) → next_out s past ≡ Some o → Leaves s past o
leaves s past o h = by_loss (is_lost past) refl h
  where
    by_loss : (b : Bool) → is_lost past ≡ b → (if b then None else out_by s past (queue (wire past))) ≡ Some o → Leaves s past o
    by_loss true e g = absurd (none_some o g)
    by_loss false e g = record { live = e; next = next_by s past o (queue (wire past)) refl g }

-- ## Data may leave

more_than_none : (n : ℕ) → not (n == 0) ≡ true → 0 < n
more_than_none zero h = absurd (let e : false ≡ true = h in cc)
more_than_none (suc n) h = omega arith

-- data of a connection that may send may be sent where no control frame waits and nothing is owed, and is a data frame
pub data_allowed : (s : Setting) (past : List Act) (d : ℕ) → 1 ≤ s.n1 → is_lost past ≡ false → queue (wire past) ≡ [] → MaySend s past d → Lawful s past → Complete s past
    → (is_data_frame (data_of s past d) ≡ true) × (Allows s past (owed s past) (Sent (data_of s past d)))
unfolding Complete
data_allowed s past d n live none m l c =
    let f = data_of s past d in
    let low = m.least in
    let apart : (d == 0) ≡ false = ne_eqb d 0 (λ (e : d ≡ 0). omega (arith, e, low)) in
    let is_data : is_data_frame f ≡ true = ap not apart in
    let w = waits_on s.dialect s.role d past in
    let opened = and_parts (is_open s.role d (wire past)) (not (is_stopped s.role d (wire past)) && not (length w == 0)) m.ready in
    let goes = and_parts (not (is_stopped s.role d (wire past))) (not (length w == 0)) opened.1 in
    let some : 0 < length w = more_than_none (length w) goes.1 in
    let size : length (take s.n1 w) ≡ min s.n1 (length w) = length-take s.n1 w in
    let count = answered s.dialect (marks s.role d past) + 1 in
    let on : GoesOn (accepted s.role d past) (information_out s.role d past) (take s.n1 w) count
    = goes_on (accepted s.role d past) (information_out s.role d past) count s.n1 (leaves_once s past l d) some in (
      is_data,
      record {
        gated = when_is (is_data_frame f) _ (record {
          live = live;
          is_open = opened.0;
          goes = not_true (is_stopped s.role d (wire past)) goes.0;
          as_written = refl;
          some = le-leb 1 (length (take s.n1 w)) (omega (arith, size, some, n));
          fits = le-leb (length (take s.n1 w)) s.n1 (omega (arith, size));
          behind = c;
          alone = none;
        });
        once = when_is (is_data_frame f) _ on.once;
        in_turn = when_is (is_data_frame f) _ (le-leb _ count on.few);
        controlled = when_not (not (is_data_frame f)) _ (ap not is_data);
        answered = tt;
        heard = tt;
        prompt = tt;
        held = tt;
        marked = tt;
      },
    )

-- ## A frame waits

-- after a loss none waits
none_waits : (s : Setting) (past : List Act) → Lawful s past → is_lost past ≡ true → queue (wire past) ≡ []
unfolding Lawful
none_waits s [] l h = refl
none_waits s (Lost ∷ past) l h = refl
none_waits s (Sent f ∷ past) l h = absurd (none_after_loss s past f h l)
none_waits s (Given ∷ past) l h = ap (λ (fs : List Frame). drop 1 fs) (none_waits s past l.1 h)
none_waits s (Took r ∷ past) l h = none_waits s past l.1 h
none_waits s (Got f ∷ past) l h = none_waits s past l.1 h
none_waits s (Told o ∷ past) l h = none_waits s past l.1 h
none_waits s (Heard k d line ∷ past) l h = none_waits s past l.1 h
none_waits s (Tick ∷ past) l h = none_waits s past l.1 h
none_waits s (Held d ∷ past) l h = none_waits s past l.1 h
none_waits s (Freed d ∷ past) l h = none_waits s past l.1 h

-- the frame that waits first goes out next
pub record WaitsFirst (s : Setting) (past : List Act) : Type 0 where
  pub frame : Frame
  pub goes : next_out s past ≡ Some (with_freshness false frame)

-- in a lawful history some frame that waits is next, where one waits at all
pub waits_first : (s : Setting) (past : List Act) → Lawful s past → some_wait (queue (wire past)) ≡ true → WaitsFirst s past
waits_first s past l h = by_loss (is_lost past) refl
  where
    by_queue : (fs : List Frame) → queue (wire past) ≡ fs → some_wait fs ≡ true → is_lost past ≡ false → WaitsFirst s past
    by_queue [] e k live = absurd (let x : false ≡ true = k in cc)
    by_queue (f ∷ fs) e k live = record {
      frame = f;
      goes = ap (λ (b : Bool). if b then None else out_by s past (queue (wire past))) live ∙ ap (out_by s past) e;
    }

    by_loss : (b : Bool) → is_lost past ≡ b → WaitsFirst s past
    by_loss true e = absurd (let x : false ≡ true = sym (ap some_wait (none_waits s past l e)) ∙ h in cc)
    by_loss false e = by_queue (queue (wire past)) refl h e
