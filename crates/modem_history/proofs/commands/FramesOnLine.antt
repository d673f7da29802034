-- Of a list of frames, newest first: what they carry, line by line; and what a responder reads of them.
use Rattle.std.proofs.Common.{ap, sym, ◌∙◌, subst, arith, append-nil}
use Rattle.std.proofs.lemmas.Bool.{and_parts}
use Rattle.std.proofs.lemmas.List.{length-append}
use Rattle.std.proofs.lemmas.List.Elements.{filter-append}
use Rattle.std.specs.Prelude.{◌≡◌, ℕ, ◌+◌, ◌≤◌, ◌==◌, ◌&&◌, ◌||◌, not, Bool, true, false, List, [], ◌∷◌, ◌++◌, length, map, filter, refl, if◌then◌else◌}
use Rattle.mux_frame.specs.Frames.{Frame}
use Rattle.mux_frame.specs.declared.frame.Kind.{Kind}
use Rattle.mux_frame.specs.declared.frame.Kind.TheVariants.{Sabm, Ua, Dm, Disc, Uih}
use Rattle.mux_station.specs.declared.role.Role.TheVariants.{Responder}
use Rattle.mux_station.specs.Written.{is_kind, is_on}
use Rattle.mux_station.specs.Acts.{Act, Called, Got, Sent, Tick, Lost, Given}
use Rattle.mux_station.specs.Opening.{ends, is_open, opens_now, is_asked}
use Rattle.mux_station.proofs.states.OpeningSteps.{is_open_after}
use Rattle.at_text.specs.Lines.{lines, kept_run}
use Rattle.modem_history.specs.Connections.{carries, info_of, information_got, lines_ended, lines_got}
use Rattle.modem_history.specs.TwoEnds.{IsAmong, none, takes, leaves, frames_got}
use Rattle.modem_history.proofs.connections.InformationGrowth.{got_grows, got_same, is_got, opens_none}

-- ## Elements in the same order

module _ {A : Type 0} where
  -- the empty list stands in any other
  pub among_none : (ys : List A) → IsAmong [] ys
  among_none [] = none
  among_none (y ∷ ys) = leaves y [] ys (among_none ys)

  -- a list stands in itself
  pub among_same : (xs : List A) → IsAmong xs xs
  among_same [] = none
  among_same (x ∷ xs) = takes x xs xs (among_same xs)

  -- where each of two lists stands in another, their join stands in the join of those
  pub among_both : (xs ys us vs : List A) → IsAmong xs ys → IsAmong us vs → IsAmong (xs ++ us) (ys ++ vs)
  among_both _ _ us vs none h = h
  among_both _ _ us vs (takes x xs ys k) h = takes x (xs ++ us) (ys ++ vs) (among_both xs ys us vs k h)
  among_both _ _ us vs (leaves y xs ys k) h = leaves y (xs ++ us) (ys ++ vs) (among_both xs ys us vs k h)

  -- what stands in a list stands in each list in which that one does
  pub among_then : (xs ys zs : List A) → IsAmong xs ys → IsAmong ys zs → IsAmong xs zs
  among_then xs _ _ h none = h
  among_then xs _ _ h (leaves z ys zs k) = leaves z xs zs (among_then xs ys zs h k)
  among_then _ _ _ (takes x xs ys h) (takes _ _ zs k) = takes x xs zs (among_then xs ys zs h k)
  among_then _ _ _ (leaves y xs ys h) (takes _ _ zs k) = leaves y xs zs (among_then xs ys zs h k)

  -- what stands in a list stands in it still with more behind it
  pub among_more : (xs ys vs : List A) → IsAmong xs ys → IsAmong xs (ys ++ vs)
  among_more xs ys vs h = subst (λ zs. IsAmong zs (ys ++ vs)) (append-nil xs) (among_both xs ys [] vs h (among_none vs))

-- ## What frames carry

-- all information on d of some frames, joined
abbrev pub info_in : ℕ → List Frame → List ℕ
info_in d [] = []
info_in d (f ∷ older) = info_in d older ++ info_of d f

-- the lines that end in a frame, behind those before it
abbrev pub lines_at : List Frame → Frame → List (ℕ × List ℕ)
lines_at older f = if carries f.dlci f then map (λ l. (f.dlci, l)) (lines (kept_run (info_in f.dlci older) ++ f.info)) else []

-- the lines of all these frames, each with its connection: in the order in which they end
abbrev pub lines_in : List Frame → List (ℕ × List ℕ)
lines_in [] = []
lines_in (f ∷ older) = lines_in older ++ lines_at older f

-- the lines of older frames are among those of all, in the same order
pub lines_later : (later older : List Frame) → IsAmong (lines_in older) (lines_in (later ++ older))
lines_later [] older = among_same (lines_in older)
lines_later (f ∷ later) older = among_more (lines_in older) (lines_in (later ++ older)) (lines_at (later ++ older) f) (lines_later later older)

-- ## Information comes behind its SABM

-- before the first SABM on d there is no information on d
abbrev pub ComesBehind : ℕ → List Frame → Type 0
ComesBehind d [] = Unit {0}
ComesBehind d (f ∷ older) = (filter (is_on Sabm d) (f ∷ older) ≡ [] → info_in d (f ∷ older) ≡ []) × ComesBehind d older

-- where information on d comes behind a SABM, it does so among the older frames
pub behind_older : (d : ℕ) (later older : List Frame) → ComesBehind d (later ++ older) → ComesBehind d older
behind_older d [] older h = h
behind_older d (f ∷ later) older h = behind_older d later older h.1

-- and where no SABM on d is among them, they carry no information on it
pub behind_first : (d : ℕ) (fs : List Frame) → ComesBehind d fs → filter (is_on Sabm d) fs ≡ [] → info_in d fs ≡ []
behind_first d [] h e = refl
behind_first d (f ∷ fs) h e = h.0 e

-- at most one SABM on d
abbrev pub AsksOne : ℕ → List Frame → Type 0
AsksOne d fs = length (filter (is_on Sabm d) fs) ≤ 1

-- so there is among the older frames
pub asks_older : (d : ℕ) (later older : List Frame) → AsksOne d (later ++ older) → AsksOne d older
asks_older d later older h =
    let both : length (filter (is_on Sabm d) (later ++ older)) ≡ length (filter (is_on Sabm d) later) + length (filter (is_on Sabm d) older) =
    ap length (filter-append (is_on Sabm d) later older) ∙ length-append (filter (is_on Sabm d) later) (filter (is_on Sabm d) older) in
    omega (arith, h, both)

asked_if : (d : ℕ) (f : Frame) (fs : List Frame) (b : Bool) → is_on Sabm d f ≡ b → filter (is_on Sabm d) (f ∷ fs) ≡ (if b then f ∷ filter (is_on Sabm d) fs else filter (is_on Sabm d) fs)
asked_if d f fs b e = ap (λ (c : Bool). if c then f ∷ filter (is_on Sabm d) fs else filter (is_on Sabm d) fs) e

empty_of : {A : Type 0} (xs : List A) → length xs ≤ 0 → xs ≡ []
empty_of [] h = refl
empty_of (x ∷ xs) h = absurd (omega (arith, h))

-- where the newest is a SABM on d, none of the others is
pub asked_first : (d : ℕ) (f : Frame) (fs : List Frame) → AsksOne d (f ∷ fs) → is_on Sabm d f ≡ true → filter (is_on Sabm d) fs ≡ []
asked_first d f fs h e =
    let one : length (filter (is_on Sabm d) (f ∷ fs)) ≡ length (f ∷ filter (is_on Sabm d) fs) = ap length (asked_if d f fs true e) in
    empty_of (filter (is_on Sabm d) fs) (omega (arith, h, one))

-- without the newest there is one at most still
pub asks_fewer : (d : ℕ) (f : Frame) (fs : List Frame) → AsksOne d (f ∷ fs) → AsksOne d fs
asks_fewer d f fs h = asks_older d (f ∷ []) fs h

-- where none is a SABM on d, the newest isn't and none of the others is
pub none_asked : (d : ℕ) (f : Frame) (fs : List Frame) (b : Bool) → is_on Sabm d f ≡ b → filter (is_on Sabm d) (f ∷ fs) ≡ [] → (b ≡ false) × (filter (is_on Sabm d) fs ≡ [])
none_asked d f fs true e h = let x : f ∷ filter (is_on Sabm d) fs ≡ [] = sym (asked_if d f fs true e) ∙ h in absurd (clash x)
  where
    clash : {A : Type 0} {y : A} {ys : List A} → y ∷ ys ≡ [] → ⊥
    clash g = cc
none_asked d f fs false e h = (refl, sym (asked_if d f fs false e) ∙ h)

-- a SABM carries nothing
kind_clash : (k : Kind) → is_kind k Sabm ≡ true → is_kind k Uih ≡ true → ⊥
kind_clash Sabm h g = cc
kind_clash Ua h g = cc
kind_clash Dm h g = cc
kind_clash Disc h g = cc
kind_clash Uih h g = cc

-- a frame that is a SABM on d carries no information on it
pub sabm_carries_none : (d : ℕ) (f : Frame) (b : Bool) → carries d f ≡ b → is_on Sabm d f ≡ true → b ≡ false
sabm_carries_none d f false c e = refl
sabm_carries_none d f true c e =
    let on = (and_parts (not (d == 0)) (is_on Uih d f) c).1 in
    absurd (kind_clash f.kind (and_parts (is_kind f.kind Sabm) (f.dlci == d) e).0 (and_parts (is_kind f.kind Uih) (f.dlci == d) on).0)

-- a frame that carries no information on d adds none
pub info_none : (d : ℕ) (f : Frame) → carries d f ≡ false → info_of d f ≡ []
info_none d f e = ap (λ (b : Bool). if b then f.info else []) e

-- and one that carries some adds all that it has
pub info_some : (d : ℕ) (f : Frame) → carries d f ≡ true → info_of d f ≡ f.info
info_some d f e = ap (λ (b : Bool). if b then f.info else []) e

-- ## At the responder

-- while no SABM came on d it isn't open; where it is open, what came since it opened is all that came
pub record Hears (d : ℕ) (past : List Act) : Type 0 where
  pub shut : filter (is_on Sabm d) (frames_got past) ≡ [] → is_open Responder d past ≡ false
  pub all : is_open Responder d past ≡ true → information_got Responder d past ≡ info_in d (frames_got past)

never : {A : Type 0} → false ≡ true → A
never e = cc

-- an act by which nothing comes
idle : (d : ℕ) (past : List Act) (a : Act) → is_got a ≡ false → frames_got (a ∷ past) ≡ frames_got past → Hears d past → Hears d (a ∷ past)
idle d past a n same k = record {
  shut = λ e. is_open_after Responder d past a ∙ shut_still (opens_now Responder d past a) (is_open Responder d past) (ends (is_open Responder 0 past) d a) (opens_none Responder (is_open Responder 0 past) (is_asked Responder d past) d a n) (k.shut (ap (filter (is_on Sabm d)) (sym same) ∙ e));
  all = λ e. got_same Responder d past a n ∙ (k.all (was_open (opens_now Responder d past a) (is_open Responder d past) (ends (is_open Responder 0 past) d a) (opens_none Responder (is_open Responder 0 past) (is_asked Responder d past) d a n) (sym (is_open_after Responder d past a) ∙ e)) ∙ ap (info_in d) (sym same));
}
  where
    shut_still : (o i e : Bool) → o ≡ false → i ≡ false → (o || (i && not e)) ≡ false
    shut_still true i e g h = cc
    shut_still false true e g h = cc
    shut_still false false e g h = refl

    was_open : (o i e : Bool) → o ≡ false → (o || (i && not e)) ≡ true → i ≡ true
    was_open true i e g h = cc
    was_open false true e g h = refl
    was_open false false e g h = cc

-- a frame comes
come : (d : ℕ) (past : List Act) (f : Frame) (asked zero i e : Bool) → is_on Sabm d f ≡ asked → AsksOne d (f ∷ frames_got past) → ComesBehind d (frames_got past)
    → opens_now Responder d past (Got f) ≡ (asked && zero) → is_open Responder d past ≡ i → is_open Responder d (Got f ∷ past) ≡ ((asked && zero) || (i && not e))
    → Hears d past → Hears d (Got f ∷ past)
come d past f true true i e on one behind opens was is k = record {
  shut = λ h. let g : true ≡ false = (none_asked d f (frames_got past) true on h).0 in cc;
  all = λ h.
      got_grows Responder d past f
      ∙ (ap (λ (b : Bool). if b then [] else (if carries d f && is_open Responder d past then information_got Responder d past ++ f.info else information_got Responder d past)) opens
      ∙ sym (ap (λ (xs : List ℕ). xs ++ info_of d f) (behind_first d (frames_got past) behind (asked_first d f (frames_got past) one on)) ∙ info_none d f (sabm_carries_none d f (carries d f) refl on)));
}
come d past f true false false e on one behind opens was is k =
    record { shut = λ h. is; all = λ h. never (sym is ∙ h) }
come d past f true false true e on one behind opens was is k =
    let g : false ≡ true = sym (k.shut (asked_first d f (frames_got past) one on)) ∙ was in never g
come d past f false zero i e on one behind opens was is k = record {
  shut = λ h. is ∙ shut_by i (sym was ∙ k.shut (none_asked d f (frames_got past) false on h).1);
  all = λ h.
      let open_was : i ≡ true = was_open i e (sym is ∙ h) in
      got_grows Responder d past f
      ∙ (ap (λ (b : Bool). if b then [] else (if carries d f && is_open Responder d past then information_got Responder d past ++ f.info else information_got Responder d past)) opens
      ∙ (ap (λ (b : Bool). if carries d f && b then information_got Responder d past ++ f.info else information_got Responder d past) (was ∙ open_was)
      ∙ (grows (carries d f) ∙ ap (λ (xs : List ℕ). xs ++ info_of d f) (k.all (was ∙ open_was)))));
}
  where
    shut_by : (j : Bool) → j ≡ false → (j && not e) ≡ false
    shut_by true g = cc
    shut_by false g = refl

    was_open : (j x : Bool) → (j && not x) ≡ true → j ≡ true
    was_open true x h = refl
    was_open false x h = cc

    grows : (c : Bool) → (if c && true then information_got Responder d past ++ f.info else information_got Responder d past) ≡ information_got Responder d past ++ (if c then f.info else [])
    grows true = refl
    grows false = sym (append-nil (information_got Responder d past))

-- so it is at a responder where one SABM on d at most came, and information on d only behind it
pub hears : (d : ℕ) (past : List Act) → AsksOne d (frames_got past) → ComesBehind d (frames_got past) → Hears d past
hears d [] one behind = record { shut = λ h. refl; all = λ h. never h }
hears d (Got f ∷ past) one behind =
    come d past f (is_on Sabm d f) ((d == 0) || is_open Responder 0 past) (is_open Responder d past) (ends (is_open Responder 0 past) d (Got f)) refl one behind.1 refl refl (is_open_after Responder d past (Got f))
    (hears d past (asks_fewer d f (frames_got past) one) behind.1)
hears d (Sent f ∷ past) one behind = idle d past (Sent f) refl refl (hears d past one behind)
hears d (Called c ∷ past) one behind = idle d past (Called c) refl refl (hears d past one behind)
hears d (Tick ∷ past) one behind = idle d past Tick refl refl (hears d past one behind)
hears d (Lost ∷ past) one behind = idle d past Lost refl refl (hears d past one behind)
hears d (Given ∷ past) one behind = idle d past Given refl refl (hears d past one behind)

-- so its lines are those of the frames that came, or fewer
pub lines_among : (past : List Act) → ((d : ℕ) → AsksOne d (frames_got past)) → ((d : ℕ) → ComesBehind d (frames_got past)) → IsAmong (lines_got Responder past) (lines_in (frames_got past))
lines_among [] one behind = none
lines_among (Got f ∷ past) one behind =
    let ones = λ (d : ℕ). asks_fewer d f (frames_got past) (one d) in
    let behinds = λ (d : ℕ). (behind d).1 in
    among_both (lines_got Responder past) (lines_in (frames_got past)) _ (lines_at (frames_got past) f) (lines_among past ones behinds)
    (by_open (carries f.dlci f) (is_open Responder f.dlci past) refl ((hears f.dlci past (ones f.dlci) (behinds f.dlci)).all))
  where
    by_open : (c o : Bool) → is_open Responder f.dlci past ≡ o → (is_open Responder f.dlci past ≡ true → information_got Responder f.dlci past ≡ info_in f.dlci (frames_got past))
        → IsAmong {A = ℕ × List ℕ} (if c && o then map (λ l. (f.dlci, l)) (lines_ended Responder f.dlci past f) else []) (if c then map (λ l. (f.dlci, l)) (lines (kept_run (info_in f.dlci (frames_got past)) ++ f.info)) else [])
    by_open false o e h = none
    by_open true false e h = among_none (map (λ l. (f.dlci, l)) (lines (kept_run (info_in f.dlci (frames_got past)) ++ f.info)))
    by_open true true e h =
        subst (λ (xs : List ℕ). IsAmong {A = ℕ × List ℕ} (map (λ l. (f.dlci, l)) (lines_ended Responder f.dlci past f)) (map (λ l. (f.dlci, l)) (lines (kept_run xs ++ f.info)))) (h e) (among_same {A = ℕ × List ℕ} (map (λ l. (f.dlci, l)) (lines_ended Responder f.dlci past f)))
lines_among (Sent f ∷ past) one behind = lines_among past one behind
lines_among (Called c ∷ past) one behind = lines_among past one behind
lines_among (Tick ∷ past) one behind = lines_among past one behind
lines_among (Lost ∷ past) one behind = lines_among past one behind
lines_among (Given ∷ past) one behind = lines_among past one behind
