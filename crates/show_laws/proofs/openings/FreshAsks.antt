-- A SABM that was sent and isn't answered is the ask that the next UA or DM on its connection answers.
use Rattle.std.specs.Prelude.{◌≡◌, suc, ℕ, ◌+◌, ◌==◌, ◌&&◌, ◌||◌, not, Bool, true, false, List, [], ◌∷◌, ◌++◌, map, Option, Some, None, refl, if◌then◌else◌}
use Rattle.std.specs.List.{find, position_or_len, remove}
use Rattle.std.proofs.Common.{ap, arith, sym, ◌∙◌, eqb-true}
use Rattle.std.proofs.lemmas.Bool.{and_from, and_parts, eq-eqb}
use Rattle.mux_frame.specs.Frames.{Frame}
use Rattle.mux_frame.specs.declared.frame.Kind.{Kind}
use Rattle.mux_frame.specs.declared.frame.Kind.TheVariants.{Sabm, Ua, Dm, Disc, Uih}
use Rattle.mux_capture.specs.declared.packet.Stamp.{Stamp}
use Rattle.mux_station.specs.Acts.{Act, Got, Sent}
use Rattle.mux_station.specs.Messages.{Message, cld, brings_command, brings_response, message_in, message_of}
use Rattle.mux_station.specs.Opening.{is_mode_frame_on}
use Rattle.mux_station.specs.Written.{is_kind, is_on}
use Rattle.modem_show.specs.Asking.{Ask, answered_by, answers, asked_with, both_respond, drops, excused_by, excuses, is_ask, message_asks, is_mode_answer, is_mode_command, unanswered_by}

-- the ask that each UA or DM on d answers
pub record Fresh (d : ℕ) (asks : List Ask) : Type 0 where
  pub ask : Ask
  pub found : (g : Frame) → is_mode_answer g ≡ true → g.dlci ≡ d → answered_by g asks ≡ Some ask
  pub sabm : is_on Sabm d ask.frame ≡ true
  pub new : ask.is_excused ≡ false

-- ## Kinds

mode_no_message : (k : Kind) (x : Bool) → (is_kind k Ua || is_kind k Dm) ≡ true → (is_kind k Uih && x) ≡ false
mode_no_message Ua x h = refl
mode_no_message Dm x h = refl
mode_no_message Sabm x h = cc
mode_no_message Disc x h = cc
mode_no_message Uih x h = cc

answer_without : (g : Frame) → is_mode_answer g ≡ true → message_in g ≡ None
answer_without g h = ap (λ (b : Bool). if b then message_of g.info else None) (mode_no_message g.kind (g.dlci == 0) h)

sabm_no_uih : (k : Kind) (x : Bool) → (is_kind k Sabm && x) ≡ true → (is_kind k Uih ≡ false) × ((is_kind k Ua || is_kind k Dm) ≡ false)
sabm_no_uih Sabm x h = (refl, refl)
sabm_no_uih Ua x h = cc
sabm_no_uih Dm x h = cc
sabm_no_uih Disc x h = cc
sabm_no_uih Uih x h = cc

no_message : (f : Frame) → is_kind f.kind Uih ≡ false → message_in f ≡ None
no_message f h = ap (λ (b : Bool). if b && (f.dlci == 0) then message_of f.info else None) h

no_response : (o : Option Message) → both_respond o None ≡ false
no_response None = refl
no_response (Some m) = refl

-- what a UA or DM on d answers
pub mode_answers : (f g : Frame) (d : ℕ) → is_mode_answer g ≡ true → g.dlci ≡ d → answers f g ≡ (is_mode_command f && (f.dlci == d))
mode_answers f g d h e =
    ap (λ (o : Option Message). ((is_mode_command f && is_mode_answer g) && (f.dlci == g.dlci)) || both_respond (message_in f) o) (answer_without g h)
    ∙ (ap (λ (b : Bool). ((is_mode_command f && is_mode_answer g) && (f.dlci == g.dlci)) || b) (no_response (message_in f))
    ∙ (ap (λ (b : Bool). ((is_mode_command f && b) && (f.dlci == g.dlci)) || false) h
    ∙ (ap (λ n. ((is_mode_command f && true) && (f.dlci == n)) || false) e ∙ plain (is_mode_command f) (f.dlci == d))))
  where
    plain : (a b : Bool) → (((a && true) && b) || false) ≡ (a && b)
    plain true true = refl
    plain true false = refl
    plain false b = refl

-- ## One frame more

-- a frame that is no UA or DM on d answers no SABM on it
not_answered : (d : ℕ) (a f : Frame) → is_on Sabm d a ≡ true → (is_mode_answer f && (f.dlci == d)) ≡ false → answers a f ≡ false
not_answered d a f sabm other =
    let p = and_parts (is_kind a.kind Sabm) (a.dlci == d) sabm in
    let same = eqb-true a.dlci d p.1 in
    let k = sabm_no_uih a.kind (a.dlci == d) sabm in
    off ((is_mode_command a && is_mode_answer f) && (a.dlci == f.dlci)) (both_respond (message_in a) (message_in f))
    (apart (is_mode_command a) (is_mode_answer f) (a.dlci == f.dlci) (turned same)) (ap (λ (o : Option Message). both_respond o (message_in f)) (no_message a k.0))
  where
    off : (x y : Bool) → x ≡ false → y ≡ false → (x || y) ≡ false
    off true y e g = cc
    off false y e g = g

    swapped : (b : Bool) → (a.dlci == f.dlci) ≡ b → a.dlci ≡ d → b ≡ true → (f.dlci == d) ≡ true
    swapped b e same is = eq-eqb f.dlci d (sym (eqb-true a.dlci f.dlci (e ∙ is)) ∙ same)

    turned : a.dlci ≡ d → is_mode_answer f ≡ true → (a.dlci == f.dlci) ≡ true → true ≡ false
    turned same m is = sym (and_from (is_mode_answer f) (f.dlci == d) m (swapped (a.dlci == f.dlci) refl same is)) ∙ other

    apart : (x y z : Bool) → (y ≡ true → z ≡ true → true ≡ false) → ((x && y) && z) ≡ false
    apart false y z k = refl
    apart true false z k = refl
    apart true true false k = refl
    apart true true true k = let e : true ≡ false = k refl refl in cc

off_first : (x y : Bool) → x ≡ false → (x && y) ≡ false
off_first true y e = cc
off_first false y e = refl

-- none drops a SABM
not_dropped : (d : ℕ) (a f : Frame) → is_on Sabm d a ≡ true → drops f a ≡ false
not_dropped d a f sabm =
    off_first (is_kind a.kind Uih) (is_mode_frame_on 0 f || ((brings_command cld f || brings_response cld f) && not (brings_command cld a))) (sabm_no_uih a.kind (a.dlci == d) sabm).0

found_mapped : (p : Frame → Bool) (act : Act) (asks : List Ask) (a : Ask) → find (λ x. p x.frame) asks ≡ Some a → find (λ x. p x.frame) (map (excused_by act) asks) ≡ Some (excused_by act a)
found_mapped p act [] a e = cc
found_mapped p act (x ∷ asks) a e = by_test (p x.frame) e (found_mapped p act asks a)
  where
    by_test : (b : Bool) → (if b then Some x else find (λ y. p y.frame) asks) ≡ Some a
        → (find (λ y. p y.frame) asks ≡ Some a → find (λ y. p y.frame) (map (excused_by act) asks) ≡ Some (excused_by act a))
        → (if b then Some (excused_by act x) else find (λ y. p y.frame) (map (excused_by act) asks)) ≡ Some (excused_by act a)
    by_test true e k = ap (λ (o : Option Ask). excused_option o) e
      where
        excused_option : Option Ask → Option Ask
        excused_option None = None
        excused_option (Some y) = Some (excused_by act y)
    by_test false e k = k e

passed : (d : ℕ) (act : Act) (asks : List Ask) → ((a : Frame) → is_on Sabm d a ≡ true → excuses act a ≡ false) → Fresh d asks → Fresh d (map (excused_by act) asks)
passed d act asks h r = record {
  ask = excused_by act r.ask;
  found = λ g m e. found_mapped (λ x. answers x g) act asks r.ask (r.found g m e);
  sabm = r.sabm;
  new = ap (λ (b : Bool). b || excuses act r.ask.frame) r.new ∙ h r.ask.frame r.sabm;
}

-- another frame of the end that asks
found_behind : (d : ℕ) (stamp : Stamp) (f : Frame) (asks : List Ask) → (is_mode_command f && (f.dlci == d)) ≡ false → Fresh d asks → Fresh d (asked_with stamp f ++ asks)
found_behind d stamp f asks other r = record { ask = r.ask; found = λ g m e. by_ask (is_ask f) g (mode_answers f g d m e ∙ other) (r.found g m e); sabm = r.sabm; new = r.new }
  where
    by_ask : (b : Bool) (g : Frame) → answers f g ≡ false → answered_by g asks ≡ Some r.ask → answered_by g ((if b then record { stamp = stamp; frame = f; is_excused = false } ∷ [] else []) ++ asks) ≡ Some r.ask
    by_ask true g e k = ap (λ (b : Bool). if b then Some (record { stamp = stamp; frame = f; is_excused = false }) else answered_by g asks) e ∙ k
    by_ask false g e k = k

-- a SABM that isn't answered stays so where the end sends a frame but a SABM or DISC on d
pub other_asks : (d : ℕ) (stamp : Stamp) (f : Frame) (asks : List Ask) → (is_mode_command f && (f.dlci == d)) ≡ false → Fresh d asks → Fresh d (map (excused_by (Sent f)) (asked_with stamp f ++ asks))
other_asks d stamp f asks other r = passed d (Sent f) (asked_with stamp f ++ asks) (λ a sabm. not_dropped d a f sabm) (found_behind d stamp f asks other r)

-- a frame of the other end
still_found : (p q : Frame → Bool) (asks : List Ask) (a : Ask) → find (λ x. p x.frame) asks ≡ Some a → q a.frame ≡ false → find (λ x. p x.frame) (remove asks (position_or_len (λ x. q x.frame) asks)) ≡ Some a
still_found p q [] a e off = cc
still_found p q (x ∷ asks) a e off = by_tests (p x.frame) (q x.frame) refl refl e (still_found p q asks a)
  where
    by_tests : (b c : Bool) → p x.frame ≡ b → q x.frame ≡ c → (if b then Some x else find (λ y. p y.frame) asks) ≡ Some a
        → (find (λ y. p y.frame) asks ≡ Some a → q a.frame ≡ false → find (λ y. p y.frame) (remove asks (position_or_len (λ y. q y.frame) asks)) ≡ Some a)
        → find (λ y. p y.frame) (remove (x ∷ asks) (if not c then 1 + position_or_len (λ y. q y.frame) asks else 0)) ≡ Some a
    by_tests true true bp bq e k =
        let same : q x.frame ≡ q a.frame = ap (λ (o : Option Ask). of_option o) e in
        absurd (let t : true ≡ false = sym bq ∙ (same ∙ off) in cc)
      where
        of_option : Option Ask → Bool
        of_option None = false
        of_option (Some y) = q y.frame
    by_tests false true bp bq e k = e
    by_tests b false bp bq e k =
        let n = position_or_len (λ y. q y.frame) asks in
        let one : 1 + n ≡ suc n = omega arith in
        let next : find (λ y. p y.frame) (remove (x ∷ asks) (1 + n)) ≡ (if p x.frame then Some x else find (λ y. p y.frame) (remove asks n)) = ap (λ m. find (λ y. p y.frame) (remove (x ∷ asks) m)) one in
        next ∙ (ap (λ (c : Bool). if c then Some x else find (λ y. p y.frame) (remove asks n)) bp ∙ by_first b e)
      where
        by_first : (c : Bool) → (if c then Some x else find (λ y. p y.frame) asks) ≡ Some a → (if c then Some x else find (λ y. p y.frame) (remove asks (position_or_len (λ y. q y.frame) asks))) ≡ Some a
        by_first true e = e
        by_first false e = k e off

-- and where the other end sends one but a UA or DM on d
pub other_answers : (d : ℕ) (f : Frame) (asks : List Ask) → (is_mode_answer f && (f.dlci == d)) ≡ false → Fresh d asks → Fresh d (map (excused_by (Got f)) (unanswered_by f asks))
other_answers d f asks other r =
    passed d (Got f) (unanswered_by f asks) (λ a sabm. ap (λ (b : Bool). b || drops f a) (not_answered d a f sabm other) ∙ not_dropped d a f sabm)
    (record { ask = r.ask; found = λ g m e. still_found (λ x. answers x g) (λ x. answers x f) asks r.ask (r.found g m e) (not_answered d r.ask.frame f r.sabm other); sabm = r.sabm; new = r.new })

-- a SABM on d
pub sabm_asks : (d : ℕ) (stamp : Stamp) (f : Frame) (asks : List Ask) → is_on Sabm d f ≡ true → Fresh d (map (excused_by (Sent f)) (asked_with stamp f ++ asks))
sabm_asks d stamp f asks is =
    let p = and_parts (is_kind f.kind Sabm) (f.dlci == d) is in
    let asking : is_mode_command f ≡ true = ap (λ (b : Bool). b || is_kind f.kind Disc) p.0 in
    by_ask (is_ask f) (ap (λ (b : Bool). b || message_asks (message_in f)) asking) (and_from (is_mode_command f) (f.dlci == d) asking p.1)
  where
    by_ask : (b : Bool) → b ≡ true → (is_mode_command f && (f.dlci == d)) ≡ true → Fresh d (map (excused_by (Sent f)) ((if b then record { stamp = stamp; frame = f; is_excused = false } ∷ [] else []) ++ asks))
    by_ask false e asking = cc
    by_ask true e asking = record {
      ask = excused_by (Sent f) (record { stamp = stamp; frame = f; is_excused = false });
      found = λ g m k.
          ap (λ (b : Bool). if b then Some (excused_by (Sent f) (record { stamp = stamp; frame = f; is_excused = false })) else answered_by g (map (excused_by (Sent f)) asks)) (mode_answers f g d m k ∙ asking);
      sabm = is;
      new = not_dropped d f f is;
    }
