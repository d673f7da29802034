-- Once an end has sent a CLD or the response to one, what it asked by a message is excused, but for its CLD.
use Rattle.std.specs.Prelude.{◌≡◌, suc, ◌+◌, ◌==◌, ◌≤◌, ◌&&◌, ◌||◌, not, Bool, true, false, List, [], ◌∷◌, ◌++◌, filter, map, None, refl, if◌then◌else◌}
use Rattle.std.specs.List.{list_any, position_or_len, remove}
use Rattle.std.proofs.Common.{ap, arith, sym, subst, ◌∙◌}
use Rattle.std.proofs.lemmas.Bool.{and_parts}
use Rattle.mux_frame.specs.Frames.{Frame}
use Rattle.mux_frame.specs.declared.frame.Kind.TheVariants.{Uih}
use Rattle.mux_capture.specs.declared.packet.Stamp.{Stamp}
use Rattle.mux_capture.specs.Passing.{Caught}
use Rattle.mux_station.specs.declared.role.Role.{Role}
use Rattle.mux_station.specs.Acts.{Act, Got, Sent}
use Rattle.mux_station.specs.Messages.{brings_command, cld, message_in, message_of}
use Rattle.mux_station.specs.Opening.{is_mode_frame_on}
use Rattle.mux_station.specs.Written.{is_kind, is_on}
use Rattle.modem_show.specs.Asking.{Ask, answers, asked_with, drops, excused_by, excuses, is_ask, is_mode_command, message_asks, unanswered_by, waiting}
use Rattle.modem_show.specs.Ways.{is_from}
use Rattle.show_laws.specs.Lines.{StopsAsking, closes}
use Rattle.show_laws.proofs.asks.WaitingAsks.{frames_of, many_asks}
use Rattle.show_laws.proofs.counts.ManyFrames.{unit}

-- ## All asks of a list

abbrev All : (Ask → Bool) → List Ask → Type 0
All p [] = Unit {0}
All p (a ∷ asks) = (p a ≡ true) × All p asks

all_removed : (p : Ask → Bool) (q : Ask → Bool) (asks : List Ask) → All p asks → All p (remove asks (position_or_len q asks))
all_removed p q [] h = tt
all_removed p q (a ∷ asks) h = by_test (q a) h.0 h.1 (all_removed p q asks h.1)
  where
    by_test : (b : Bool) → p a ≡ true → All p asks → All p (remove asks (position_or_len q asks)) → All p (remove (a ∷ asks) (if not b then 1 + position_or_len q asks else 0))
    by_test true x all rest = all
    by_test false x all rest =
        let n = position_or_len q asks in
        let one : suc n ≡ 1 + n = omega arith in
        subst (λ m. All p (remove (a ∷ asks) m)) one (x, rest)

all_mapped : (p q : Ask → Bool) (act : Act) (asks : List Ask) → ((a : Ask) → p a ≡ true → q (excused_by act a) ≡ true) → All p asks → All q (map (excused_by act) asks)
all_mapped p q act [] k h = tt
all_mapped p q act (a ∷ asks) k h = (k a h.0, all_mapped p q act asks k h.1)

all_asked : (p : Ask → Bool) (stamp : Stamp) (f : Frame) (asks : List Ask) → (is_ask f ≡ true → p (record { stamp = stamp; frame = f; is_excused = false }) ≡ true) → All p asks → All p (asked_with stamp f ++ asks)
all_asked p stamp f asks k h = by_ask (is_ask f) refl
  where
    by_ask : (b : Bool) → is_ask f ≡ b → All p ((if b then record { stamp = stamp; frame = f; is_excused = false } ∷ [] else []) ++ asks)
    by_ask true e = (k e, h)
    by_ask false e = h

-- ## Asks

abbrev asks : Ask → Bool
asks a = is_ask a.frame

all_ask : (r : Role) (line : List Caught) → All asks (waiting r line)
all_ask r [] = tt
all_ask r (c ∷ line) = by_way (is_from r c) (all_ask r line)
  where
    by_way : (b : Bool) → All asks (waiting r line) → All asks (if b then map (excused_by (Sent c.frame)) (asked_with c.stamp c.frame ++ waiting r line) else map (excused_by (Got c.frame)) (unanswered_by c.frame (waiting r line)))
    by_way true h = all_mapped asks asks (Sent c.frame) (asked_with c.stamp c.frame ++ waiting r line) (λ a e. e) (all_asked asks c.stamp c.frame (waiting r line) (λ e. e) h)
    by_way false h = all_mapped asks asks (Got c.frame) (unanswered_by c.frame (waiting r line)) (λ a e. e) (all_removed asks (λ a. answers a.frame c.frame) (waiting r line) h)

-- a SABM, DISC or CLD, or excused
abbrev is_over : Ask → Bool
is_over a = (is_mode_command a.frame || brings_command cld a.frame) || a.is_excused

more_over : (act : Act) (a : Ask) → is_over a ≡ true → is_over (excused_by act a) ≡ true
more_over act a h = more (is_mode_command a.frame || brings_command cld a.frame) a.is_excused (excuses act a.frame) h
  where
    more : (x e k : Bool) → (x || e) ≡ true → (x || (e || k)) ≡ true
    more true e k h = refl
    more false true k h = refl
    more false false k h = cc

message_kind : (f : Frame) → message_asks (message_in f) ≡ true → is_kind f.kind Uih ≡ true
message_kind f h = by_on (is_on Uih 0 f) refl h
  where
    by_on : (b : Bool) → is_on Uih 0 f ≡ b → message_asks (if b then message_of f.info else None) ≡ true → is_kind f.kind Uih ≡ true
    by_on true e k = (and_parts (is_kind f.kind Uih) (f.dlci == 0) e).0
    by_on false e k = cc

-- behind a CLD or its response all are
closed_over : (g : Frame) (a : Ask) → closes g ≡ true → asks a ≡ true → is_over (excused_by (Sent g) a) ≡ true
closed_over g a c h = by_mode (is_mode_command a.frame) (brings_command cld a.frame) refl refl h
  where
    dropped : (k m z d : Bool) → k ≡ true → z ≡ true → d ≡ false → (k && (m || (z && not d))) ≡ true
    dropped true true z d e g h = refl
    dropped true false true false e g h = refl
    dropped true false true true e g h = cc
    dropped true false false d e g h = cc
    dropped false m z d e g h = cc

    excused : (e k : Bool) → k ≡ true → (e || k) ≡ true
    excused true k h = refl
    excused false k h = h

    by_mode : (m d : Bool) → is_mode_command a.frame ≡ m → brings_command cld a.frame ≡ d → (m || message_asks (message_in a.frame)) ≡ true → ((m || d) || (a.is_excused || drops g a.frame)) ≡ true
    by_mode true d e k h = refl
    by_mode false true e k h = refl
    by_mode false false e k h = excused a.is_excused (drops g a.frame) (dropped (is_kind a.frame.kind Uih) (is_mode_frame_on 0 g) (closes g) (brings_command cld a.frame) (message_kind a.frame h) c k)

-- an end that has sent a CLD or its response, and stopped asking, waits for SABM, DISC, CLD and excused asks alone
pub excused : (r : Role) (line : List Caught) → StopsAsking (frames_of r line) → list_any closes (frames_of r line) ≡ true → All is_over (waiting r line)
excused r [] stops some = tt
excused r (c ∷ line) stops some = by_way (is_from r c) stops some (excused r line)
  where
    -- a frame that closes nothing, behind one that does, is no control command
    no_message : message_asks (message_in c.frame) ≡ true → (message_asks (message_in c.frame) ≡ true → list_any closes (frames_of r line) ≡ false) → list_any closes (frames_of r line) ≡ true → true ≡ false
    no_message m stops some = sym some ∙ stops m

    by_kind : (m b d : Bool) → (m || b) ≡ true → (b ≡ true → true ≡ false) → ((m || d) || false) ≡ true
    by_kind true b d h k = refl
    by_kind false true d h k = let t : true ≡ false = k refl in cc
    by_kind false false d h k = cc

    by_closes : (b : Bool) → closes c.frame ≡ b → (message_asks (message_in c.frame) ≡ true → list_any closes (frames_of r line) ≡ false) → (b || list_any closes (frames_of r line)) ≡ true
        → (list_any closes (frames_of r line) ≡ true → All is_over (waiting r line)) → All is_over (map (excused_by (Sent c.frame)) (asked_with c.stamp c.frame ++ waiting r line))
    by_closes true e stops some rest =
        all_mapped asks is_over (Sent c.frame) (asked_with c.stamp c.frame ++ waiting r line) (λ a h. closed_over c.frame a e h) (all_asked asks c.stamp c.frame (waiting r line) (λ h. h) (all_ask r line))
    by_closes false e stops some rest =
        all_mapped is_over is_over (Sent c.frame) (asked_with c.stamp c.frame ++ waiting r line) (λ a h. more_over (Sent c.frame) a h)
        (all_asked is_over c.stamp c.frame (waiting r line)
        (λ h. by_kind (is_mode_command c.frame) (message_asks (message_in c.frame)) (brings_command cld c.frame) h (λ m. no_message m stops some)) (rest some))

    by_way : (b : Bool) → StopsAsking (if b then c.frame ∷ frames_of r line else frames_of r line) → list_any closes (if b then c.frame ∷ frames_of r line else frames_of r line) ≡ true
        → (StopsAsking (frames_of r line) → list_any closes (frames_of r line) ≡ true → All is_over (waiting r line))
        → All is_over (if b then map (excused_by (Sent c.frame)) (asked_with c.stamp c.frame ++ waiting r line) else map (excused_by (Got c.frame)) (unanswered_by c.frame (waiting r line)))
    by_way true stops some rest = by_closes (closes c.frame) refl stops.0 some (rest stops.1)
    by_way false stops some rest =
        all_mapped is_over is_over (Got c.frame) (unanswered_by c.frame (waiting r line)) (λ a h. more_over (Got c.frame) a h)
        (all_removed is_over (λ a. answers a.frame c.frame) (waiting r line) (rest stops some))

-- ## None is left

-- where all asks are such, and no SABM, DISC or CLD is among them, each is excused
pub none_open : (xs : List Ask) → All is_over xs → many_asks is_mode_command xs ≤ 0 → many_asks (brings_command cld) xs ≤ 0 → filter (λ a. not a.is_excused) xs ≡ []
none_open [] h m d = refl
none_open (a ∷ xs) h m d =
    by_over (is_mode_command a.frame) (brings_command cld a.frame) a.is_excused refl refl refl h.0 (none_open xs h.1 (omega (arith, m)) (omega (arith, d)))
  where
    by_over : (x y e : Bool) → is_mode_command a.frame ≡ x → brings_command cld a.frame ≡ y → a.is_excused ≡ e → ((x || y) || e) ≡ true → filter (λ a. not a.is_excused) xs ≡ [] → filter (λ a. not a.is_excused) (a ∷ xs) ≡ []
    by_over true y e k l n h rest = let u : unit (is_mode_command a.frame) ≡ 1 = ap unit k in absurd (omega (arith, u, m))
    by_over false true e k l n h rest = let u : unit (brings_command cld a.frame) ≡ 1 = ap unit l in absurd (omega (arith, u, d))
    by_over false false true k l n h rest = ap (λ (b : Bool). if not b then a ∷ filter (λ a. not a.is_excused) xs else filter (λ a. not a.is_excused) xs) n ∙ rest
    by_over false false false k l n h rest = cc
