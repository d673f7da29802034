-- What the last message about a stop said, by the responses that an end sent, and by the messages that came while 0 was open.
use Rattle.std.specs.Prelude.{◌≡◌, ℕ, ◌==◌, ◌≤◌, ◌&&◌, not, Bool, true, false, List, [], ◌∷◌, ◌++◌, Option, Some, None, refl, is_some, unwrap_or, if◌then◌else◌}
use Rattle.std.proofs.Common.{ap, arith, sym, ◌∙◌}
use Rattle.std.proofs.lemmas.Bool.{and_parts}
use Rattle.mux_frame.specs.Frames.{Frame}
use Rattle.mux_frame.specs.declared.frame.Kind.TheVariants.{Uih}
use Rattle.mux_station.specs.declared.role.Role.{Role}
use Rattle.mux_station.specs.Acts.{Act, Called, Got, Sent, Tick, Lost, Given}
use Rattle.mux_station.specs.Written.{is_on}
use Rattle.mux_station.specs.Messages.{Message, brings_command, cld, is_command, message_in, message_of, nsc, octet_is, response_of}
use Rattle.mux_station.specs.Opening.{is_open}
use Rattle.mux_station.specs.Stopping.{if_message}
use Rattle.mux_station.specs.States.{State, IsShut, IsOpening, IsOpened, IsClosing, IsStopping, is_opened}
use Rattle.mux_station.specs.Tables.{by_frame, by_message, by_table, is_supported, message_frame, response_to}
use Rattle.modem_show.specs.Ends.{says_at}
use Rattle.modem_history.specs.TwoEnds.{frames_got}
use Rattle.show_laws.proofs.counts.ManyFrames.{many, unit}
use Rattle.show_laws.proofs.stops.StopWords.{answer_says, closing_back, good_read, refusal_back, same_back, says_on, speaks, speaks_back, table_back, unsupported_unsaid}

-- by the responses that were sent, the newest first
abbrev pub last_back : ℕ → List Frame → Bool
last_back d [] = false
last_back d (f ∷ fs) = unwrap_or (answer_says d f) (last_back d fs)

-- by responses that follow, of which the first comes first
abbrev pub then_back : ℕ → List Frame → Bool → Bool
then_back d [] b = b
then_back d (f ∷ fs) b = then_back d fs (unwrap_or (answer_says d f) b)

-- by the messages that came while 0 was open
abbrev pub kept_stop : Role → ℕ → List Act → Bool
kept_stop r d [] = false
kept_stop r d (Got f ∷ past) = unwrap_or (if is_open r 0 past then says_on d f else None) (kept_stop r d past)
kept_stop r d (_ ∷ past) = kept_stop r d past

-- responses that follow others say it behind those
pub back_both : (d : ℕ) (xs ys : List Frame) (b : Bool) → then_back d (xs ++ ys) b ≡ then_back d ys (then_back d xs b)
back_both d [] ys b = refl
back_both d (f ∷ xs) ys b = back_both d xs ys (unwrap_or (answer_says d f) b)

says_nothing : (o : Option Bool) (b : Bool) → unit (is_some o) ≤ 0 → unwrap_or o b ≡ b
says_nothing None b h = refl
says_nothing (Some x) b h = absurd (omega (arith, h))

-- frames that respond to nothing about a stop
pub quiet_back : (d : ℕ) (fs : List Frame) (b : Bool) → many (speaks_back d) fs ≤ 0 → then_back d fs b ≡ b
quiet_back d [] b h = refl
quiet_back d (f ∷ fs) b h = ap (then_back d fs) (says_nothing (answer_says d f) b (omega (arith, h))) ∙ quiet_back d fs b (omega (arith, h))

-- where no message that says something came, nothing is kept
pub none_kept : (r : Role) (d : ℕ) (past : List Act) → many (speaks d) (frames_got past) ≤ 0 → kept_stop r d past ≡ false
none_kept r d [] h = refl
none_kept r d (Got f ∷ past) h = by_zero (is_open r 0 past) (says_nothing (says_on d f) (kept_stop r d past) (omega (arith, h))) ∙ none_kept r d past (omega (arith, h))
  where
    by_zero : (z : Bool) → unwrap_or (says_on d f) (kept_stop r d past) ≡ kept_stop r d past → unwrap_or (if z then says_on d f else None) (kept_stop r d past) ≡ kept_stop r d past
    by_zero true e = e
    by_zero false e = refl
none_kept r d (Called c ∷ past) h = none_kept r d past h
none_kept r d (Sent f ∷ past) h = none_kept r d past h
none_kept r d (Tick ∷ past) h = none_kept r d past h
none_kept r d (Lost ∷ past) h = none_kept r d past h
none_kept r d (Given ∷ past) h = none_kept r d past h

-- ## What a frame calls for

answered_back : (r : Role) (d : ℕ) (b : Bool) (m : Message) (info : List ℕ) → message_of info ≡ Some m → then_back d (response_to r (Some m)) b ≡ unwrap_or (says_at d m) b
answered_back r d b m info e = by_supported (is_supported m.octet) (is_command m && not (m.octet == nsc)) refl
  where
    unsaid_here : is_supported m.octet ≡ false → unwrap_or (says_at d m) b ≡ b
    unsaid_here s = ap (λ (o : Option Bool). unwrap_or o b) (unsupported_unsaid d m s)

    by_supported : (x c : Bool) → is_supported m.octet ≡ x
        → then_back d (if x then message_frame r (response_of m.octet) m.value ∷ [] else if c then message_frame r (response_of nsc) (m.octet ∷ []) ∷ [] else []) b ≡ unwrap_or (says_at d m) b
    by_supported true c s = ap (λ (o : Option Bool). unwrap_or o b) (same_back r d m s (good_read info m e))
    by_supported false true s = quiet_back d (message_frame r (response_of nsc) (m.octet ∷ []) ∷ []) b (refusal_back r d m.octet) ∙ sym (unsaid_here s)
    by_supported false false s = sym (unsaid_here s)

message_back : (r : Role) (d : ℕ) (s : State) (f : Frame) (b : Bool) → is_on Uih 0 f ≡ true → then_back d (by_message r s f) b ≡ unwrap_or (if is_opened s then says_on d f else None) b
message_back r d IsOpened f b on = by_read (message_in f) refl
  where
    by_read : (o : Option Message) → message_in f ≡ o → then_back d (response_to r o) b ≡ unwrap_or (if_message (says_at d) o) b
    by_read None e = refl
    by_read (Some m) e = answered_back r d b m f.info (sym (ap (λ (c : Bool). if c then message_of f.info else None) on) ∙ e)
message_back r d (IsStopping n) f b on = by_cld (brings_command cld f) refl
  where
    by_cld : (c : Bool) → brings_command cld f ≡ c → then_back d (if c then response_to r (message_in f) else []) b ≡ b
    by_cld false e = refl
    by_cld true e =
        let p = and_parts (is_on Uih 0 f) (octet_is (λ n. n) cld (message_of f.info)) e in
        quiet_back d (response_to r (message_in f)) b (closing_back r d (message_in f) (ap (λ (c : Bool). octet_is (λ n. n) cld (if c then message_of f.info else None)) on ∙ p.1))
message_back r d IsShut f b on = refl
message_back r d (IsOpening n) f b on = refl
message_back r d (IsClosing n) f b on = refl

-- what comes while 0 is open is answered by a response that says what it says
pub frame_back : (r : Role) (d : ℕ) (state : ℕ → State) (f : Frame) (b : Bool) → then_back d (by_frame r state f) b ≡ unwrap_or (if is_opened (state 0) then says_on d f else None) b
frame_back r d state f b = by_on (is_on Uih 0 f) refl
  where
    silent : (x : Bool) (o : Option Bool) → o ≡ None → unwrap_or (if x then o else None) b ≡ b
    silent true o e = ap (λ (p : Option Bool). unwrap_or p b) e
    silent false o e = refl

    by_on : (x : Bool) → is_on Uih 0 f ≡ x → then_back d (if x then by_message r (state 0) f else by_table r f.dlci (state 0) (state f.dlci) f.kind) b ≡ unwrap_or (if is_opened (state 0) then says_on d f else None) b
    by_on true on = message_back r d (state 0) f b on
    by_on false off =
        quiet_back d (by_table r f.dlci (state 0) (state f.dlci) f.kind) b (table_back r d f.dlci (state 0) (state f.dlci) f.kind)
        ∙ sym (silent (is_opened (state 0)) (says_on d f) (ap (λ (c : Bool). if_message (says_at d) (if c then message_of f.info else None)) off))
