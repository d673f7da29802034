-- What an initiator's connection is by what passed, beside what it is by its past, act by act.
use Rattle.std.specs.Prelude.{◌≡◌, ℕ, ◌+◌, ◌==◌, ◌≤◌, ◌&&◌, ◌||◌, not, Bool, true, false, List, ◌∷◌, Option, Some, None, refl, if◌then◌else◌}
use Rattle.std.proofs.Common.{ap, arith, sym, ◌∙◌}
use Rattle.std.proofs.lemmas.Bool.{and_from, and_parts, or_parts}
use Rattle.mux_frame.specs.Frames.{Frame}
use Rattle.mux_frame.specs.declared.frame.Kind.{Kind}
use Rattle.mux_frame.specs.declared.frame.Kind.TheVariants.{Sabm, Ua, Dm, Disc, Uih}
use Rattle.mux_station.specs.declared.role.Role.TheVariants.{Initiator}
use Rattle.mux_station.specs.Acts.{Act, Got, Sent}
use Rattle.mux_station.proofs.states.OpeningSteps.{is_open_after}
use Rattle.mux_station.specs.Messages.{Message, cld, brings_command, message_in}
use Rattle.mux_station.specs.Opening.{ends, is_mode_frame_on}
use Rattle.mux_station.specs.Written.{is_kind, is_on}
use Rattle.modem_show.specs.Asking.{is_mode_command, message_asks}
use Rattle.modem_show.specs.Ends.{come}
use Rattle.show_laws.proofs.asks.AnswerShapes.{message_no_mode, or_elim}
use Rattle.show_laws.proofs.asks.AnswersCalled.{test_false}
use Rattle.show_laws.proofs.counts.ManyFrames.{unit}
use Rattle.show_laws.proofs.openings.QuietFrames.{EndsNone, asked_at, cld_asks, ends_none, open_at, zero_at}

-- d is open, or it is asked for and each UA on it came that was sent
pub data Ready (d : ℕ) (q : List Act) (sent got : ℕ) : Type 0 where
  there : open_at d q ≡ true → Ready d q sent got
  asked_there : asked_at d q ≡ true → sent ≤ got → Ready d q sent got

-- Where d is open by the past p it is so by q, and where it is asked for by p it will be open by q. While so many answers are owed that may
-- end it, it is neither, and so many SABM are owed on it.
pub record Follows (d : ℕ) (p q : List Act) (endings sabms sent got : ℕ) : Type 0 where
  pub opens : open_at d p ≡ true → open_at d q ≡ true
  pub asks : asked_at d p ≡ true → Ready d q sent got
  pub owes : 1 ≤ endings → (open_at d p ≡ false) × (asked_at d p ≡ false)
  pub free : 1 ≤ endings → sabms ≤ 0

never : {P : Type 0} → true ≡ false → P
never e = cc

-- ## Less is so

-- it stays so where less is open or asked for by p, fewer such answers are owed, and no more SABM while one is
pub fewer_step : (d : ℕ) (p p2 q : List Act) (endings endings2 sabms sabms2 sent got : ℕ) → Follows d p q endings sabms sent got
    → (open_at d p2 ≡ true → open_at d p ≡ true) → (asked_at d p2 ≡ true → asked_at d p ≡ true) → (1 ≤ endings2 → 1 ≤ endings) → (1 ≤ endings2 → sabms2 ≤ sabms)
    → Follows d p2 q endings2 sabms2 sent got
fewer_step d p p2 q endings endings2 sabms sabms2 sent got h o a e s = record {
  opens = λ k. h.opens (o k);
  asks = λ k. h.asks (a k);
  owes = λ k. (test_false (open_at d p2) (λ x. sym (o x) ∙ (h.owes (e k)).0), test_false (asked_at d p2) (λ x. sym (a x) ∙ (h.owes (e k)).1));
  free = λ k. let x = h.free (e k) in let y = s k in omega (arith, x, y);
}

-- ## A frame comes to the initiator

later : (d : ℕ) (q : List Act) (sent got got2 : ℕ) → got ≤ got2 → Ready d q sent got → Ready d q sent got2
later d q sent got got2 h (there o) = there o
later d q sent got got2 h (asked_there a l) = asked_there a (omega (arith, h, l))

opened_by : (d : ℕ) (q : List Act) (sent got : ℕ) (f : Frame) → unit (is_on Ua d f) + got ≤ sent → is_on Ua d f ≡ true → Ready d q sent got → open_at d q ≡ true
opened_by d q sent got f came is (there o) = o
opened_by d q sent got f came is (asked_there a l) = let e : unit (is_on Ua d f) ≡ 1 = ap unit is in absurd (omega (arith, e, came, l))

-- and where a frame comes to p that had passed, while no SABM is owed after it, and no such answer where d is open or asked for
pub got_step : (d : ℕ) (p q : List Act) (endings endings2 sabms sabms2 sent got : ℕ) (f : Frame) → Follows d p q endings sabms sent got
    → unit (is_on Ua d f) + got ≤ sent → (1 ≤ endings2 → (open_at d (Got f ∷ p) ≡ false) × (asked_at d (Got f ∷ p) ≡ false)) → sabms2 ≤ 0 → Follows d (Got f ∷ p) q endings2 sabms2 sent (unit (is_on Ua d f) + got)
got_step d p q endings endings2 sabms sabms2 sent got f h came shuts none = record {
  opens = λ k.
      or_elim (is_on Ua d f && asked_at d p) (open_at d p && not (ends (zero_at d p) d (Got f))) (sym (is_open_after Initiator d p (Got f)) ∙ k)
      (λ u. let x = and_parts (is_on Ua d f) (asked_at d p) u in opened_by d q sent got f came x.0 (h.asks x.1))
      (λ o. h.opens (and_parts (open_at d p) (not (ends (zero_at d p) d (Got f))) o).0);
  asks = λ k. later d q sent got (unit (is_on Ua d f) + got) (omega arith) (h.asks (and_parts (asked_at d p) (not (is_mode_frame_on d f || ends (zero_at d p) d (Got f))) k).0);
  owes = λ k. shuts k;
  free = λ k. none;
}

-- ## The initiator sends a frame

off_sum : (a b : Bool) → a ≡ false → (a && b) ≡ false
off_sum true b e = cc
off_sum false b e = refl

-- a frame but a SABM on d that is sent leaves d neither open nor asked for
pub sent_closed : (d : ℕ) (f : Frame) (p : List Act) → open_at d p ≡ false → asked_at d p ≡ false → is_on Sabm d f ≡ false → (open_at d (Sent f ∷ p) ≡ false) × (asked_at d (Sent f ∷ p) ≡ false)
sent_closed d f p o a s = (
  is_open_after Initiator d p (Sent f) ∙ off_sum (open_at d p) (not (ends (zero_at d p) d (Sent f))) o,
  both (is_on Sabm d f) (asked_at d p) (not (is_mode_frame_on d f || ends (zero_at d p) d (Sent f))) s a,
)
  where
    both : (x y w : Bool) → x ≡ false → y ≡ false → (x || (y && w)) ≡ false
    both true y w e g = cc
    both false true w e g = cc
    both false false w e g = refl

no_sabm : (d : ℕ) (f : Frame) (sabms sabms2 : ℕ) → sabms2 + unit (is_on Sabm d f) ≤ sabms → sabms ≤ 0 → is_on Sabm d f ≡ false
no_sabm d f sabms sabms2 h k = test_false (is_on Sabm d f) (λ e. let x : unit (is_on Sabm d f) ≡ 1 = ap unit e in absurd (omega (arith, x, h, k)))

not_second : (m e : Bool) → not (m || e) ≡ true → not e ≡ true
not_second true e h = cc
not_second false e h = h

-- where the frame ends nothing by what it answers, what stands before it in q is as in q
sent_open : (d : ℕ) (p q r : List Act) (endings endings2 sabms sabms2 sent got : ℕ) (f : Frame) → Follows d p q endings sabms sent got
    → endings2 ≤ endings → sabms2 + unit (is_on Sabm d f) ≤ sabms → (is_on Sabm d f ≡ true → sent ≤ got)
    → open_at d r ≡ open_at d q → asked_at d r ≡ asked_at d q → Follows d (Sent f ∷ p) (Sent f ∷ r) endings2 sabms2 sent got
sent_open d p q r endings endings2 sabms sabms2 sent got f h fewer fewer_sabms level same_open same_asked = record {
  opens = λ k.
      let x = and_parts (open_at d p) (not (ends (zero_at d p) d (Sent f))) (sym (is_open_after Initiator d p (Sent f)) ∙ k) in
      is_open_after Initiator d r (Sent f) ∙ and_from (open_at d r) (not (ends (zero_at d p) d (Sent f))) (same_open ∙ h.opens x.0) x.1;
  asks = λ k.
      or_elim (is_on Sabm d f) (asked_at d p && not (is_mode_frame_on d f || ends (zero_at d p) d (Sent f))) k
      (λ s. asked_there (ap (λ (b : Bool). b || (asked_at d r && not (is_mode_frame_on d f || ends (zero_at d r) d (Sent f)))) s) (level s))
      (λ a. let x = and_parts (asked_at d p) (not (is_mode_frame_on d f || ends (zero_at d p) d (Sent f))) a in goes_on (h.asks x.0) x.1);
  owes = λ k.
      let c = h.owes (omega (arith, k, fewer)) in
      let n = h.free (omega (arith, k, fewer)) in
      sent_closed d f p c.0 c.1 (no_sabm d f sabms sabms2 fewer_sabms n);
  free = λ k. let n = h.free (omega (arith, k, fewer)) in omega (arith, n, fewer_sabms);
}
  where
    second : (a b : Bool) → b ≡ true → (a || b) ≡ true
    second true b e = refl
    second false b e = e

    goes_on : Ready d q sent got → not (is_mode_frame_on d f || ends (zero_at d p) d (Sent f)) ≡ true → Ready d (Sent f ∷ r) sent got
    goes_on (there o) n = there (is_open_after Initiator d r (Sent f) ∙ and_from (open_at d r) (not (ends (zero_at d r) d (Sent f))) (same_open ∙ o) (not_second (is_mode_frame_on d f) (ends (zero_at d r) d (Sent f)) n))
    goes_on (asked_there a l) n =
        asked_there (second (is_on Sabm d f) (asked_at d r && not (is_mode_frame_on d f || ends (zero_at d r) d (Sent f)))
        (and_from (asked_at d r) (not (is_mode_frame_on d f || ends (zero_at d r) d (Sent f))) (same_asked ∙ a) n)) l

-- and where a frame that was owed is sent: a SABM on d while no UA is under way, and an answer that may end d behind
-- what it answers
pub sent_step : (d : ℕ) (p q r : List Act) (endings endings2 sabms sabms2 sent got : ℕ) (f : Frame) (ending : Bool) → Follows d p q endings sabms sent got
    → endings2 + unit ending ≤ endings → sabms2 + unit (is_on Sabm d f) ≤ sabms → (is_on Sabm d f ≡ true → sent ≤ got)
    → (ending ≡ false → (open_at d r ≡ open_at d q) × (asked_at d r ≡ asked_at d q)) → Follows d (Sent f ∷ p) (Sent f ∷ r) endings2 sabms2 sent got
sent_step d p q r endings endings2 sabms sabms2 sent got f ending h fewer fewer_sabms level quiet = by_ending ending refl
  where
    by_ending : (b : Bool) → ending ≡ b → Follows d (Sent f ∷ p) (Sent f ∷ r) endings2 sabms2 sent got
    by_ending false e =
        let s = quiet e in
        sent_open d p q r endings endings2 sabms sabms2 sent got f h (omega (arith, fewer)) fewer_sabms level s.0 s.1
    by_ending true e =
        let x : unit ending ≡ 1 = ap unit e in
        let c = h.owes (omega (arith, x, fewer)) in
        let n = h.free (omega (arith, x, fewer)) in
        let shut = sent_closed d f p c.0 c.1 (no_sabm d f sabms sabms2 fewer_sabms n) in
        record {
          opens = λ k. never (sym k ∙ shut.0);
          asks = λ k. never (sym k ∙ shut.1);
          owes = λ k. shut;
          free = λ k. omega (arith, n, fewer_sabms);
        }

-- ## A frame of the responder passes

kinds : (k : Kind) (x : Bool) → (is_kind k Sabm || is_kind k Disc) ≡ false → is_kind k Dm ≡ false → ((is_kind k Disc && x) ≡ false) × (((is_kind k Dm && x) ≡ false) × ((is_kind k Sabm && x) ≡ false))
kinds Ua x h g = (refl, (refl, refl))
kinds Uih x h g = (refl, (refl, refl))
kinds Sabm x h g = cc
kinds Disc x h g = cc
kinds Dm x h g = cc

none_ends : (e : ℕ) (f : Frame) → is_mode_command f ≡ false → is_kind f.kind Dm ≡ false → EndsNone e f
none_ends e f h g = let k = kinds f.kind (f.dlci == e) h g in record { disc = k.0; dm = k.1.0; sabm = k.1.1 }

no_ua : (k : Kind) (x : Bool) → (is_kind k Sabm || is_kind k Disc) ≡ true → (is_kind k Ua && x) ≡ false
no_ua Sabm x h = refl
no_ua Disc x h = refl
no_ua Ua x h = cc
no_ua Dm x h = cc
no_ua Uih x h = cc

dm_no_ua : (k : Kind) (x : Bool) → is_kind k Dm ≡ true → (is_kind k Ua && x) ≡ false
dm_no_ua Dm x h = refl
dm_no_ua Sabm x h = cc
dm_no_ua Ua x h = cc
dm_no_ua Disc x h = cc
dm_no_ua Uih x h = cc

same_ready : (d : ℕ) (q : List Act) (sent sent2 got : ℕ) → sent2 ≤ sent → Ready d q sent got → Ready d q sent2 got
same_ready d q sent sent2 got h (there o) = there o
same_ready d q sent sent2 got h (asked_there a l) = asked_there a (omega (arith, h, l))

unread : (d : ℕ) (p q : List Act) (endings sabms sent got : ℕ) (f : Frame) → Follows d p q endings sabms sent got → is_on Ua d f ≡ false → Follows d p q endings sabms (unit (is_on Ua d f) + sent) got
unread d p q endings sabms sent got f h e =
    let x : unit (is_on Ua d f) ≡ 0 = ap unit e in
    record { opens = h.opens; asks = λ k. same_ready d q sent (unit (is_on Ua d f) + sent) got (omega (arith, x)) (h.asks k); owes = h.owes; free = h.free }

read : (d : ℕ) (p q : List Act) (endings sabms sent got : ℕ) (f : Frame) → Follows d p q endings sabms sent got → is_mode_command f ≡ false → is_kind f.kind Dm ≡ false → brings_command cld f ≡ false
    → Follows d p (Got f ∷ q) endings sabms (unit (is_on Ua d f) + sent) got
read d p q endings sabms sent got f h mode dm no_cld =
    let e = ends_none (zero_at d q) d f (none_ends d f mode dm) (none_ends 0 f mode dm) no_cld in
    record { opens = λ k. stays e (h.opens k); asks = λ k. ready e (h.asks k); owes = h.owes; free = h.free }
  where
    kept : (u o e : Bool) → o ≡ true → e ≡ false → (u || (o && not e)) ≡ true
    kept true o e g h = refl
    kept false true false g h = refl
    kept false true true g h = cc
    kept false false e g h = cc

    stays : ends (zero_at d q) d (Got f) ≡ false → open_at d q ≡ true → open_at d (Got f ∷ q) ≡ true
    stays e o = is_open_after Initiator d q (Got f) ∙ kept (is_on Ua d f && asked_at d q) (open_at d q) (ends (zero_at d q) d (Got f)) o e

    first : (u k o : Bool) → u ≡ true → k ≡ true → ((u && k) || o) ≡ true
    first true true o e g = refl
    first true false o e g = cc
    first false k o e g = cc

    still : (k m e : Bool) → k ≡ true → m ≡ false → e ≡ false → (k && not (m || e)) ≡ true
    still true false false e g h = refl
    still true false true e g h = cc
    still true true e g h i = cc
    still false m e g h i = cc

    unmode : is_on Ua d f ≡ false → is_mode_frame_on d f ≡ false
    unmode u =
        let k = kinds f.kind (f.dlci == d) mode dm in
        four (is_on Sabm d f) (is_on Ua d f) (is_on Dm d f) (is_on Disc d f) k.1.1 u k.1.0 k.0
      where
        four : (a b c e : Bool) → a ≡ false → b ≡ false → c ≡ false → e ≡ false → (a || (b || (c || e))) ≡ false
        four true b c e g h i j = cc
        four false true c e g h i j = cc
        four false false true e g h i j = cc
        four false false false e g h i j = j

    by_ua : (b : Bool) → is_on Ua d f ≡ b → ends (zero_at d q) d (Got f) ≡ false → asked_at d q ≡ true → sent ≤ got → Ready d (Got f ∷ q) (unit (is_on Ua d f) + sent) got
    by_ua true u e a l = there (is_open_after Initiator d q (Got f) ∙ first (is_on Ua d f) (asked_at d q) (open_at d q && not (ends (zero_at d q) d (Got f))) u a)
    by_ua false u e a l =
        let x : unit (is_on Ua d f) ≡ 0 = ap unit u in
        asked_there (still (asked_at d q) (is_mode_frame_on d f) (ends (zero_at d q) d (Got f)) a (unmode u) e) (omega (arith, x, l))

    ready : ends (zero_at d q) d (Got f) ≡ false → Ready d q sent got → Ready d (Got f ∷ q) (unit (is_on Ua d f) + sent) got
    ready e (there o) = there (stays e o)
    ready e (asked_there a l) = by_ua (is_on Ua d f) refl e a l

asks_no_ua : (d : ℕ) (f : Frame) (o : Option Message) → message_in f ≡ o → message_asks o ≡ true → is_on Ua d f ≡ false
asks_no_ua d f None e h = cc
asks_no_ua d f (Some m) e h = off_sum (is_kind f.kind Ua) (f.dlci == d) (or_parts (is_kind f.kind Ua) (is_kind f.kind Dm) (message_no_mode f m e).1).0

-- and where a frame of the responder passes
pub passed_step : (d : ℕ) (p q : List Act) (endings sabms sent got : ℕ) (f : Frame) → Follows d p q endings sabms sent got
    → Follows d p (come f q) endings sabms (unit (is_on Ua d f) + sent) got
passed_step d p q endings sabms sent got f h = by_come (is_mode_command f) (message_asks (message_in f)) (is_kind f.kind Dm) refl refl refl
  where
    by_come : (a b c : Bool) → is_mode_command f ≡ a → message_asks (message_in f) ≡ b → is_kind f.kind Dm ≡ c → Follows d p (if (a || b) || c then q else Got f ∷ q) endings sabms (unit (is_on Ua d f) + sent) got
    by_come true b c m e k = unread d p q endings sabms sent got f h (no_ua f.kind (f.dlci == d) m)
    by_come false true c m e k = unread d p q endings sabms sent got f h (asks_no_ua d f (message_in f) refl e)
    by_come false false true m e k = unread d p q endings sabms sent got f h (dm_no_ua f.kind (f.dlci == d) k)
    by_come false false false m e k = read d p q endings sabms sent got f h m k (cld_asks f e)
