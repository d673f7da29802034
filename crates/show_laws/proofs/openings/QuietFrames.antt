-- Frames that change nothing of a connection of the initiator, and frames that end it.
use Rattle.std.specs.Prelude.{◌≡◌, ℕ, ◌==◌, ◌&&◌, ◌||◌, not, Bool, true, false, List, ◌∷◌, Option, Some, None, refl, if◌then◌else◌}
use Rattle.std.proofs.Common.{ap, sym, ◌∙◌, eqb-true}
use Rattle.std.proofs.lemmas.Bool.{and_parts, or_parts}
use Rattle.mux_frame.specs.Frames.{Frame}
use Rattle.mux_frame.specs.declared.frame.Kind.{Kind}
use Rattle.mux_frame.specs.declared.frame.Kind.TheVariants.{Sabm, Ua, Dm, Disc, Uih}
use Rattle.mux_station.specs.declared.role.Role.TheVariants.{Initiator}
use Rattle.mux_station.specs.Acts.{Act, Got}
use Rattle.mux_station.proofs.states.OpeningSteps.{is_open_after}
use Rattle.mux_station.specs.Messages.{Message, cld, nsc, brings_command, is_command, message_in, message_of, octet_is}
use Rattle.mux_station.specs.Opening.{ends, is_mode_frame_on, is_open, is_asked}
use Rattle.mux_station.specs.States.{ends_itself}
use Rattle.mux_station.specs.Written.{is_kind, is_on}
use Rattle.modem_show.specs.Asking.{is_mode_command, message_asks}
use Rattle.show_laws.proofs.counts.BalancedTables.{is_command_octet}

-- whether d is open at an initiator of this past, is asked for, and 0 is open
abbrev pub open_at : ℕ → List Act → Bool
open_at d past = is_open Initiator d past

-- d is asked for there
abbrev pub asked_at : ℕ → List Act → Bool
asked_at d past = is_asked Initiator d past

-- 0 is open there
abbrev pub zero_at : ℕ → List Act → Bool
zero_at d past = is_open Initiator 0 past

-- ## What ends nothing

word : (a b c z k : Bool) → a ≡ false → b ≡ false → c ≡ false → k ≡ false → (a || (b || (c || (z && k)))) ≡ false
word true b c z k e f g h = cc
word false true c z k e f g h = cc
word false false true z k e f g h = cc
word false false false true k e f g h = h
word false false false false k e f g h = refl

-- the frame ends e by no word of its own
pub record EndsNone (e : ℕ) (f : Frame) : Type 0 where
  pub disc : is_on Disc e f ≡ false
  pub dm : is_on Dm e f ≡ false
  pub sabm : is_on Sabm e f ≡ false

itself : (z : Bool) (e : ℕ) (f : Frame) → EndsNone e f → brings_command cld f ≡ false → ends_itself z e (Got f) ≡ false
itself z e f h k = word (is_on Disc e f) (is_on Dm e f) (is_on Sabm e f) z (brings_command cld f) h.disc h.dm h.sabm k

-- a frame that comes ends nothing of d, if it ends neither d nor 0 by a word of its own and is no CLD
pub ends_none : (z : Bool) (d : ℕ) (f : Frame) → EndsNone d f → EndsNone 0 f → brings_command cld f ≡ false → ends z d (Got f) ≡ false
ends_none z d f h h0 k = either (ends_itself z d (Got f)) (not (d == 0)) (ends_itself z 0 (Got f)) (itself z d f h k) (itself z 0 f h0 k)
  where
    either : (x w y : Bool) → x ≡ false → y ≡ false → (x || (w && y)) ≡ false
    either true w y e f = cc
    either false true y e f = f
    either false false y e f = refl

-- ## Quiet frames

-- no mode frame on d or on 0, and no CLD
pub record Quiet (d : ℕ) (f : Frame) : Type 0 where
  pub mode : is_mode_frame_on d f ≡ false
  pub mode_of_zero : is_mode_frame_on 0 f ≡ false
  pub no_cld : brings_command cld f ≡ false

no_mode : (e : ℕ) (f : Frame) → is_mode_frame_on e f ≡ false → EndsNone e f × (is_on Ua e f ≡ false)
no_mode e f h =
    let a = or_parts (is_on Sabm e f) (is_on Ua e f || (is_on Dm e f || is_on Disc e f)) h in
    let b = or_parts (is_on Ua e f) (is_on Dm e f || is_on Disc e f) a.1 in
    let c = or_parts (is_on Dm e f) (is_on Disc e f) b.1 in
    (record { disc = c.1; dm = c.0; sabm = a.0 }, b.0)

quiet_ends : (z : Bool) (d : ℕ) (f : Frame) → Quiet d f → ends z d (Got f) ≡ false
quiet_ends z d f h = ends_none z d f (no_mode d f h.mode).0 (no_mode 0 f h.mode_of_zero).0 h.no_cld

-- a quiet frame that comes leaves d open or not, as it was
pub quiet_open : (d : ℕ) (f : Frame) (past : List Act) → Quiet d f → open_at d (Got f ∷ past) ≡ open_at d past
quiet_open d f past h = is_open_after Initiator d past (Got f) ∙ keep (is_on Ua d f) (asked_at d past) (open_at d past) (ends (zero_at d past) d (Got f)) (no_mode d f h.mode).1 (quiet_ends (zero_at d past) d f h)
  where
    keep : (u k o e : Bool) → u ≡ false → e ≡ false → ((u && k) || (o && not e)) ≡ o
    keep true k o e g h = cc
    keep false k o true g h = cc
    keep false k true false g h = refl
    keep false k false false g h = refl

-- and asked for or not
pub quiet_asked : (d : ℕ) (f : Frame) (past : List Act) → Quiet d f → asked_at d (Got f ∷ past) ≡ asked_at d past
quiet_asked d f past h = keep (asked_at d past) (is_mode_frame_on d f) (ends (zero_at d past) d (Got f)) h.mode (quiet_ends (zero_at d past) d f h)
  where
    keep : (k m e : Bool) → m ≡ false → e ≡ false → (k && not (m || e)) ≡ k
    keep k true e g h = cc
    keep k false true g h = cc
    keep true false false g h = refl
    keep false false false g h = refl

-- ## Frames that end

-- a SABM or DISC on d, or on 0
abbrev pub is_ender : ℕ → Frame → Bool
is_ender d f = is_mode_command f && ((f.dlci == d) || (f.dlci == 0))

ended : (k : Kind) (x z c : Bool) → (is_kind k Sabm || is_kind k Disc) ≡ true → x ≡ true → ((is_kind k Disc && x) || ((is_kind k Dm && x) || ((is_kind k Sabm && x) || (z && c)))) ≡ true
ended Disc x z c h e = ap (λ (b : Bool). b || (false || (false || (z && c)))) e
ended Sabm x z c h e = ap (λ (b : Bool). b || (z && c)) e
ended Ua x z c h e = cc
ended Dm x z c h e = cc
ended Uih x z c h e = cc

ender_ends : (z : Bool) (d : ℕ) (f : Frame) → is_ender d f ≡ true → ends z d (Got f) ≡ true
ender_ends z d f h =
    let p = and_parts (is_mode_command f) ((f.dlci == d) || (f.dlci == 0)) h in
    by_place (f.dlci == d) refl p.0 p.1
  where
    apart : (d == 0) ≡ true → (f.dlci == d) ≡ (f.dlci == 0)
    apart e = ap (λ n. f.dlci == n) (eqb-true d 0 e)

    other : (b : Bool) → (d == 0) ≡ b → (f.dlci == d) ≡ false → (f.dlci == 0) ≡ true → not b ≡ true
    other false e g h = refl
    other true e g h = absurd (let x : true ≡ false = sym h ∙ (sym (apart e) ∙ g) in cc)

    second : (a w y : Bool) → w ≡ true → y ≡ true → (a || (w && y)) ≡ true
    second true w y e g = refl
    second false true y e g = g
    second false false y e g = cc

    by_place : (b : Bool) → (f.dlci == d) ≡ b → is_mode_command f ≡ true → (b || (f.dlci == 0)) ≡ true → ends z d (Got f) ≡ true
    by_place true e m h = ap (λ (b : Bool). b || (not (d == 0) && ends_itself z 0 (Got f))) (ended f.kind (f.dlci == d) z (brings_command cld f) m e)
    by_place false e m h = second (ends_itself z d (Got f)) (not (d == 0)) (ends_itself z 0 (Got f)) (other (d == 0) refl e h) (ended f.kind (f.dlci == 0) z (brings_command cld f) m h)

mode_no_ua : (k : Kind) (x : Bool) → (is_kind k Sabm || is_kind k Disc) ≡ true → (is_kind k Ua && x) ≡ false
mode_no_ua Sabm x h = refl
mode_no_ua Disc x h = refl
mode_no_ua Ua x h = cc
mode_no_ua Dm x h = cc
mode_no_ua Uih x h = cc

-- after it d is neither open nor asked for
pub ender_shuts : (d : ℕ) (f : Frame) (past : List Act) → is_ender d f ≡ true → (open_at d (Got f ∷ past) ≡ false) × (asked_at d (Got f ∷ past) ≡ false)
ender_shuts d f past h =
    let e = ender_ends (zero_at d past) d f h in
    let u = mode_no_ua f.kind (f.dlci == d) (and_parts (is_mode_command f) ((f.dlci == d) || (f.dlci == 0)) h).0 in
    (is_open_after Initiator d past (Got f) ∙ shut (is_on Ua d f) (asked_at d past) (open_at d past) (ends (zero_at d past) d (Got f)) u e, unasked (asked_at d past) (is_mode_frame_on d f) (ends (zero_at d past) d (Got f)) e)
  where
    shut : (u k o e : Bool) → u ≡ false → e ≡ true → ((u && k) || (o && not e)) ≡ false
    shut true k o e g h = cc
    shut false k o false g h = cc
    shut false k true true g h = refl
    shut false k false true g h = refl

    unasked : (k m e : Bool) → e ≡ true → (k && not (m || e)) ≡ false
    unasked k m false h = cc
    unasked true true true h = refl
    unasked true false true h = refl
    unasked false m true h = refl

-- ## Below 0

-- what doesn't end another connection doesn't end 0
pub itself_zero : (z : Bool) (a : Act) (d : ℕ) → (d == 0) ≡ false → ends z d a ≡ false → ends z 0 a ≡ false
itself_zero z a d apart h =
    let p = or_parts (ends_itself z d a) (not (d == 0) && ends_itself z 0 a) h in
    let q : ends_itself z 0 a ≡ false = sym (ap (λ (b : Bool). not b && ends_itself z 0 a) apart) ∙ p.1 in
    last (ends_itself z 0 a) q
  where
    last : (x : Bool) → x ≡ false → (x || false) ≡ false
    last true e = cc
    last false e = refl

-- what stayed open was open, and wasn't ended
pub unended : (o e : Bool) → (o && not e) ≡ true → (o ≡ true) × (e ≡ false)
unended true false h = (refl, refl)
unended true true h = cc
unended false e h = cc

-- what is open and isn't ended stays open
pub kept_zero : (x z e : Bool) → z ≡ true → e ≡ false → (x || (z && not e)) ≡ true
kept_zero true z e h k = refl
kept_zero false true false h k = refl
kept_zero false true true h k = cc
kept_zero false false e h k = cc

-- ## Control messages

-- a CLD asks
pub cld_asks : (f : Frame) → message_asks (message_in f) ≡ false → brings_command cld f ≡ false
cld_asks f h = by_on (is_on Uih 0 f) h
  where
    off : (x y : Bool) → x ≡ true → y ≡ true → (x && not y) ≡ false
    off true true e g = refl
    off true false e g = cc
    off false y e g = cc

    by_octet : (m : Message) (b : Bool) → (m.octet == cld) ≡ b → (is_command m && not (m.octet == nsc)) ≡ false → b ≡ false
    by_octet m false e k = refl
    by_octet m true e k =
        let same = eqb-true m.octet cld e in
        let x : (is_command_octet m.octet && not (m.octet == nsc)) ≡ true = ap (λ n. is_command_octet n && not (n == nsc)) same in
        let y : true ≡ false = sym x ∙ k in cc

    by_message : (o : Option Message) → message_asks o ≡ false → octet_is (λ n. n) cld o ≡ false
    by_message None k = refl
    by_message (Some m) k = by_octet m (m.octet == cld) refl k

    by_on : (b : Bool) → message_asks (if b then message_of f.info else None) ≡ false → (b && octet_is (λ n. n) cld (message_of f.info)) ≡ false
    by_on true k = by_message (message_of f.info) k
    by_on false k = refl
