-- No command overlaps another one, and no final code answers nothing; in the end each command is answered.
use Rattle.std.specs.Prelude.{◌≡◌, ℕ, ◌+◌, ◌==◌, ◌≤◌, ◌&&◌, ◌||◌, not, Bool, true, false, List, [], ◌∷◌, ◌++◌, Option, Some, None, is_some, length, option_map, refl, if◌then◌else◌}
use Rattle.std.specs.List.{list_any}
use Rattle.std.proofs.Common.{ap, arith, sym, ◌∙◌, subst, eqb-true}
use Rattle.std.proofs.lemmas.Bool.{and_from, and_parts, eq-eqb, or_from}
use Rattle.std.proofs.lemmas.List.Folds.{list_any-append}
use Rattle.mux_frame.specs.Frames.{Frame}
use Rattle.mux_frame.specs.declared.dlci.Dlci.{Dlci}
use Rattle.mux_frame.specs.declared.frame.Kind.{Kind}
use Rattle.mux_frame.specs.declared.frame.Kind.TheVariants.{Sabm, Ua, Dm, Disc, Uih}
use Rattle.mux_capture.specs.Passing.{Caught}
use Rattle.mux_capture.specs.declared.packet.Direction.{Direction}
use Rattle.mux_capture.specs.declared.packet.Direction.TheVariants.{ToModem, FromModem}
use Rattle.mux_capture.specs.declared.packet.Stamp.{Stamp}
use Rattle.mux_station.specs.declared.role.Role.TheVariants.{Initiator, Responder}
use Rattle.mux_station.specs.Acts as station
use Rattle.mux_station.specs.Messages.{brings_response, cld, command_of, message_of, octet_is}
use Rattle.mux_station.specs.Written.{is_data_frame, is_kind, is_on}
use Rattle.at_text.specs.Dialects.{Dialect}
use Rattle.at_text.specs.Lines.{lines}
use Rattle.at_text.specs.OpenWindow.{OpenWindow}
use Rattle.modem_history.specs.Acts as driver
use Rattle.modem_history.specs.Acts.{wire}
use Rattle.modem_history.specs.Calls.{Setting}
use Rattle.modem_history.specs.Connections.{carries, info_got, info_of, info_sent}
use Rattle.modem_history.specs.TwoEnds.{frames_got, frames_sent}
use Rattle.modem_history.proofs.commands.FramesOnLine.{info_in, info_some}
use Rattle.modem_show.specs.declared.told.Told.{Told}
use Rattle.modem_show.specs.Asking.{answered_by, answered_kind, waiting}
use Rattle.modem_show.specs.Talking.{Talk, has_text, heard_each, is_close, is_turn_on, is_unprompted, overlaps, silence, starts_afresh, talk_after, talk_of, told_each, told_in}
use Rattle.modem_show.specs.Ways.{caught}
use Rattle.show_laws.specs.Lines.{AtDriver, AtModem, LineAct, captured, driver_past, modem_past}
use Rattle.show_laws.specs.Talks.{FinishesTalk, IsTalkingLine, TalksInTurn, commands_in, finals_in, told_by}
use Rattle.show_laws.proofs.asks.WaitingAsks.{frames_of}
use Rattle.show_laws.proofs.lines.CapturedFrames.{shows}
use Rattle.show_laws.proofs.lines.EveryFrame.{over}
use Rattle.show_laws.proofs.openings.ModemOpen.{above}
use Rattle.show_laws.proofs.openings.OpenBelowZero.{open_below}
use Rattle.show_laws.proofs.talks.EndedLines.{IsEnded, driver_says_none, ended_stays, modem_says_none}
use Rattle.show_laws.proofs.talks.SilentChannels.{Under, UnderM, carried_data, nothing_more}
use Rattle.show_laws.proofs.talks.TalkingLines.{IsFresh, driver_afresh, modem_afresh, past_it, quiet, talking_asked, talking_before}
use Rattle.show_laws.proofs.talks.TextBounds.{driver_bound, modem_bound}
use Rattle.show_laws.proofs.talks.TextFits.{TextFits, driver_text, modem_text, same_fits, silent_fits}
use Rattle.show_laws.proofs.talks.ToldLines.{under_way}

-- the connection is named as one of data
abbrev is_named : List Dlci → ℕ → Bool
is_named data_channels d = list_any (λ (e : Dlci). e.number == d) data_channels

-- ## Data begins nothing afresh

uih_turns_none : (k : Kind) (x y b : Bool) → is_kind k Uih ≡ true → ((is_kind k Sabm && x) || (((is_kind k Ua && x) && b) || (is_kind k Dm && x))) ≡ false
uih_turns_none Uih x y b h = refl
uih_turns_none Sabm x y b h = cc
uih_turns_none Ua x y b h = cc
uih_turns_none Dm x y b h = cc
uih_turns_none Disc x y b h = cc

data_goes_on : (answered : Option Kind) (d : ℕ) (f : Frame) → is_data_frame f ≡ true → starts_afresh answered d f ≡ false
data_goes_on answered d f is =
    let p = and_parts (is_kind f.kind Uih) (not (f.dlci == 0)) is in
    or_from (is_turn_on answered 0 f || brings_response cld f) (is_turn_on answered d f)
    (or_from (is_turn_on answered 0 f) (brings_response cld f) (uih_turns_none f.kind (f.dlci == 0) true (is_close answered) p.0) (no_response (is_kind f.kind Uih) (f.dlci == 0) (octet_is command_of cld (message_of f.info)) p.1))
    (uih_turns_none f.kind (f.dlci == d) true (is_close answered) p.0)
  where
    no_response : (a z c : Bool) → not z ≡ true → ((a && z) && c) ≡ false
    no_response true true c h = cc
    no_response true false c h = refl
    no_response false z c h = refl

data_carries : (f : Frame) → is_data_frame f ≡ true → carries f.dlci f ≡ true
data_carries f is =
    let p = and_parts (is_kind f.kind Uih) (not (f.dlci == 0)) is in
    and_from (not (f.dlci == 0)) (is_on Uih f.dlci f) p.1 (and_from (is_kind f.kind Uih) (f.dlci == f.dlci) p.0 (eq-eqb f.dlci f.dlci refl))

-- ## What is kept of a connection

abbrev TalkFits : Dialect → List Dlci → ℕ → List Caught → Type 0
TalkFits dialect data_channels d cs = TextFits dialect (talk_of dialect data_channels d cs) (info_in d (frames_of Initiator cs)) (info_in d (frames_of Responder cs))

-- data with text on d
abbrev SaysText : Dialect → List Dlci → Direction → ℕ → Talk → Option Kind → Frame → Type 0
SaysText dialect data_channels direction d t answered f = talk_after dialect data_channels d t direction answered f ≡ heard_each dialect direction t f.info

says_text : (dialect : Dialect) (data_channels : List Dlci) (direction : Direction) (d : ℕ) (t : Talk) (answered : Option Kind) (f : Frame) → is_named data_channels d ≡ false → carries d f ≡ true → SaysText dialect data_channels direction d t answered f
says_text dialect data_channels direction d t answered f named carry =
    let k = carried_data d f carry in
    let text : (has_text data_channels f && (f.dlci == d)) ≡ true =
    and_from (has_text data_channels f) (f.dlci == d) (and_from (is_data_frame f) (not (is_named data_channels f.dlci)) k.0 (ap not (ap (is_named data_channels) k.1 ∙ named))) (eq-eqb f.dlci d k.1) in
    ap (λ (b : Bool). if b then silence else (if has_text data_channels f && (f.dlci == d) then heard_each dialect direction t f.info else t)) (data_goes_on answered d f k.0)
    ∙ ap (λ (b : Bool). if b then heard_each dialect direction t f.info else t) text

-- another frame
other_frame : (dialect : Dialect) (data_channels : List Dlci) (direction : Direction) (d : ℕ) (t : Talk) (answered : Option Kind) (f : Frame) → (d == 0) ≡ false → carries d f ≡ false → starts_afresh answered d f ≡ false
    → talk_after dialect data_channels d t direction answered f ≡ t
other_frame dialect data_channels direction d t answered f apart carry goes_on =
    ap (λ (b : Bool). if b then silence else (if has_text data_channels f && (f.dlci == d) then heard_each dialect direction t f.info else t)) goes_on
    ∙ ap (λ (b : Bool). if b then heard_each dialect direction t f.info else t) (off (has_text data_channels f) (f.dlci == d) refl refl)
  where
    off : (a b : Bool) → has_text data_channels f ≡ a → (f.dlci == d) ≡ b → (a && b) ≡ false
    off false b e g = refl
    off true false e g = refl
    off true true e g =
        let p = and_parts (is_data_frame f) (not (is_named data_channels f.dlci)) e in
        let q = and_parts (is_kind f.kind Uih) (not (f.dlci == 0)) p.0 in
        let c : carries d f ≡ true = and_from (not (d == 0)) (is_on Uih d f) (ap not apart) (and_from (is_kind f.kind Uih) (f.dlci == d) q.0 g) in
        let t : true ≡ false = sym c ∙ carry in cc

under_zero : (s : Setting) (n1 d : ℕ) (line : List LineAct) → (d == 0) ≡ false → IsTalkingLine s n1 line → Under s d 0
under_zero s n1 d line apart h = λ p l o. open_below s d p h.lawful.is_initiator apart l o

under_zero_m : (d : ℕ) → (d == 0) ≡ false → UnderM d 0
under_zero_m d apart = λ p o. above d p apart o

-- the kind that a frame of each end answers
abbrev asked_of_modem : (ℕ → Stamp) → List LineAct → Frame → Option Kind
asked_of_modem stamps line f = option_map (λ a. a.frame.kind) (answered_by f (waiting Responder (captured stamps line)))

abbrev asked_of_driver : (ℕ → Stamp) → List LineAct → Frame → Option Kind
asked_of_driver stamps line f = option_map (λ a. a.frame.kind) (answered_by f (waiting Initiator (captured stamps line)))

driver_room : (s : Setting) (n1 d : ℕ) (stamps : ℕ → Stamp) (f : Frame) (line : List LineAct) → IsTalkingLine s n1 (AtDriver (driver.Sent f) ∷ line) → is_data_frame f ≡ true → f.dlci ≡ d
    → commands_in (lines (info_in d (frames_of Initiator (captured stamps line)) ++ f.info)) ≤ finals_in s.dialect (lines (info_in d (frames_of Responder (captured stamps line)))) + 1
driver_room s n1 d stamps f line h is same =
    let cs = captured stamps line in
    let seen = shows stamps line in
    let b = driver_bound s n1 f line h is (data_carries f is) in
    let out : commands_in (lines (info_in d (frames_of Initiator cs) ++ f.info)) ≡ commands_in (lines (info_in f.dlci (frames_sent (wire (driver_past line))) ++ f.info)) =
    ap (λ z. commands_in (lines (z ++ f.info))) (ap (λ n. info_in n (frames_of Initiator cs)) (sym same) ∙ ap (info_in f.dlci) seen.driver_frames) in
    let back : finals_in s.dialect (lines (info_in d (frames_of Responder cs))) ≡ finals_in s.dialect (lines (info_in f.dlci (frames_sent (modem_past line)))) =
    ap (λ z. finals_in s.dialect (lines z)) (ap (λ n. info_in n (frames_of Responder cs)) (sym same) ∙ ap (info_in f.dlci) seen.modem_frames) in
    omega (arith, b, out, back)

modem_room : (s : Setting) (n1 d : ℕ) (stamps : ℕ → Stamp) (f : Frame) (line : List LineAct) → IsTalkingLine s n1 (AtModem (station.Sent f) ∷ line) → is_data_frame f ≡ true → f.dlci ≡ d
    → finals_in s.dialect (lines (info_in d (frames_of Responder (captured stamps line)) ++ f.info)) ≤ commands_in (lines (info_in d (frames_of Initiator (captured stamps line))))
modem_room s n1 d stamps f line h is same =
    let cs = captured stamps line in
    let seen = shows stamps line in
    let b = modem_bound s n1 f line h is (data_carries f is) in
    let out : commands_in (lines (info_in d (frames_of Initiator cs))) ≡ commands_in (lines (info_in f.dlci (frames_sent (wire (driver_past line))))) =
    ap (λ z. commands_in (lines z)) (ap (λ n. info_in n (frames_of Initiator cs)) (sym same) ∙ ap (info_in f.dlci) seen.driver_frames) in
    let back : finals_in s.dialect (lines (info_in d (frames_of Responder cs) ++ f.info)) ≡ finals_in s.dialect (lines (info_in f.dlci (frames_sent (modem_past line)) ++ f.info)) =
    ap (λ z. finals_in s.dialect (lines (z ++ f.info))) (ap (λ n. info_in n (frames_of Responder cs)) (sym same) ∙ ap (info_in f.dlci) seen.modem_frames) in
    omega (arith, b, out, back)

-- what is kept fits what was sent, or d ended for good, and nothing is kept
pub data IsKept (s : Setting) (d : ℕ) (data_channels : List Dlci) (stamps : ℕ → Stamp) (line : List LineAct) : Type 0 where
  fits : TalkFits s.dialect data_channels d (captured stamps line) → IsKept s d data_channels stamps line
  ended : (e : ℕ) → Under s d e → UnderM d e → IsEnded e line → talk_of s.dialect data_channels d (captured stamps line) ≡ silence → IsKept s d data_channels stamps line

-- what is kept behind a frame
abbrev talk_by : Setting → List Dlci → ℕ → Direction → Option Kind → Frame → Talk → Talk
talk_by s data_channels d direction answered f t = if starts_afresh answered d f then silence else (if has_text data_channels f && (f.dlci == d) then heard_each s.dialect direction t f.info else t)

silenced : (s : Setting) (data_channels : List Dlci) (d : ℕ) (direction : Direction) (answered : Option Kind) (f : Frame) (t : Talk) → starts_afresh answered d f ≡ true → talk_by s data_channels d direction answered f t ≡ silence
silenced s data_channels d direction answered f t e = ap (λ (b : Bool). if b then silence else (if has_text data_channels f && (f.dlci == d) then heard_each s.dialect direction t f.info else t)) e

stays_silent : (s : Setting) (data_channels : List Dlci) (d : ℕ) (direction : Direction) (answered : Option Kind) (f : Frame) (t : Talk) → (d == 0) ≡ false → carries d f ≡ false → t ≡ silence → (b : Bool) → starts_afresh answered d f ≡ b
    → talk_by s data_channels d direction answered f t ≡ silence
stays_silent s data_channels d direction answered f t apart c e true k = silenced s data_channels d direction answered f t k
stays_silent s data_channels d direction answered f t apart c e false k = other_frame s.dialect data_channels direction d t answered f apart c k ∙ e

driver_kept : (s : Setting) (n1 d : ℕ) (data_channels : List Dlci) (stamps : ℕ → Stamp) (f : Frame) (line : List LineAct) → (d == 0) ≡ false → is_named data_channels d ≡ false → IsTalkingLine s n1 (AtDriver (driver.Sent f) ∷ line)
    → IsKept s d data_channels stamps line → IsKept s d data_channels stamps (AtDriver (driver.Sent f) ∷ line)
driver_kept s n1 d data_channels stamps f line apart named h (ended e up upm gone t) = by_carry (carries d f) refl
  where
    by_carry : (b : Bool) → carries d f ≡ b → IsKept s d data_channels stamps (AtDriver (driver.Sent f) ∷ line)
    by_carry true c = absurd (driver_says_none s n1 d e f line up (talking_asked s n1 (AtDriver (driver.Sent f) ∷ line) h) gone c)
    by_carry false c =
        ended e up upm (ended_stays e (AtDriver (driver.Sent f)) line h.once gone)
        (stays_silent s data_channels d ToModem (asked_of_modem stamps line f) f (talk_of s.dialect data_channels d (captured stamps line)) apart c t (starts_afresh (asked_of_modem stamps line f) d f) refl)
driver_kept s n1 d data_channels stamps f line apart named h (fits q) = by_carry (carries d f) refl
  where
    afresh : carries d f ≡ false → starts_afresh (asked_of_modem stamps line f) d f ≡ true → IsFresh s d line → IsKept s d data_channels stamps (AtDriver (driver.Sent f) ∷ line)
    afresh c e (quiet silent) =
        let seen = shows stamps line in
        fits (same_fits s.dialect silence _ [] _ [] _
        (silenced s data_channels d ToModem (asked_of_modem stamps line f) f (talk_of s.dialect data_channels d (captured stamps line)) e)
        (nothing_more d f (frames_of Initiator (captured stamps line)) c ∙ (ap (info_in d) seen.driver_frames ∙ silent.driver)) (ap (info_in d) seen.modem_frames ∙ silent.modem) (silent_fits s.dialect))
    afresh c e (past_it n up upm gone) =
        ended n up upm (ended_stays n (AtDriver (driver.Sent f)) line h.once gone)
        (silenced s data_channels d ToModem (asked_of_modem stamps line f) f (talk_of s.dialect data_channels d (captured stamps line)) e)

    by_start : (b : Bool) → starts_afresh (asked_of_modem stamps line f) d f ≡ b → carries d f ≡ false → IsKept s d data_channels stamps (AtDriver (driver.Sent f) ∷ line)
    by_start true e c =
        let k = talking_before s n1 (AtDriver (driver.Sent f)) line h in
        afresh c e (driver_afresh s n1 d stamps f line (asked_of_modem stamps line f) (under_zero s n1 d line apart k) (under_zero_m d apart) h e)
    by_start false e c =
        fits (same_fits s.dialect (talk_of s.dialect data_channels d (captured stamps line)) _ (info_in d (frames_of Initiator (captured stamps line))) _ (info_in d (frames_of Responder (captured stamps line))) _
        (other_frame s.dialect data_channels ToModem d (talk_of s.dialect data_channels d (captured stamps line)) (asked_of_modem stamps line f) f apart c e)
        (nothing_more d f (frames_of Initiator (captured stamps line)) c) refl q)

    by_carry : (b : Bool) → carries d f ≡ b → IsKept s d data_channels stamps (AtDriver (driver.Sent f) ∷ line)
    by_carry false c = by_start (starts_afresh (asked_of_modem stamps line f) d f) refl c
    by_carry true c =
        let k = carried_data d f c in
        fits (same_fits s.dialect (heard_each s.dialect ToModem (talk_of s.dialect data_channels d (captured stamps line)) f.info) _ (info_in d (frames_of Initiator (captured stamps line)) ++ f.info) _ (info_in d (frames_of Responder (captured stamps line))) _
        (says_text s.dialect data_channels ToModem d (talk_of s.dialect data_channels d (captured stamps line)) (asked_of_modem stamps line f) f named c)
        (ap (λ z. info_in d (frames_of Initiator (captured stamps line)) ++ z) (info_some d f c)) refl
        (driver_text s.dialect (talk_of s.dialect data_channels d (captured stamps line)) (info_in d (frames_of Initiator (captured stamps line))) (info_in d (frames_of Responder (captured stamps line))) f.info q (driver_room s n1 d stamps f line h k.0 k.1)).fits)

modem_kept : (s : Setting) (n1 d : ℕ) (data_channels : List Dlci) (stamps : ℕ → Stamp) (f : Frame) (line : List LineAct) → (d == 0) ≡ false → is_named data_channels d ≡ false → IsTalkingLine s n1 (AtModem (station.Sent f) ∷ line)
    → IsKept s d data_channels stamps line → IsKept s d data_channels stamps (AtModem (station.Sent f) ∷ line)
modem_kept s n1 d data_channels stamps f line apart named h (ended e up upm gone t) = by_carry (carries d f) refl
  where
    by_carry : (b : Bool) → carries d f ≡ b → IsKept s d data_channels stamps (AtModem (station.Sent f) ∷ line)
    by_carry true c = absurd (modem_says_none s n1 d e f line upm (talking_asked s n1 (AtModem (station.Sent f) ∷ line) h) (talking_before s n1 (AtModem (station.Sent f)) line h).opens_none gone c)
    by_carry false c =
        ended e up upm (ended_stays e (AtModem (station.Sent f)) line h.once gone)
        (stays_silent s data_channels d FromModem (asked_of_driver stamps line f) f (talk_of s.dialect data_channels d (captured stamps line)) apart c t (starts_afresh (asked_of_driver stamps line f) d f) refl)
modem_kept s n1 d data_channels stamps f line apart named h (fits q) = by_carry (carries d f) refl
  where
    afresh : carries d f ≡ false → starts_afresh (asked_of_driver stamps line f) d f ≡ true → IsFresh s d line → IsKept s d data_channels stamps (AtModem (station.Sent f) ∷ line)
    afresh c e (quiet silent) =
        let seen = shows stamps line in
        fits (same_fits s.dialect silence _ [] _ [] _
        (silenced s data_channels d FromModem (asked_of_driver stamps line f) f (talk_of s.dialect data_channels d (captured stamps line)) e)
        (ap (info_in d) seen.driver_frames ∙ silent.driver) (nothing_more d f (frames_of Responder (captured stamps line)) c ∙ (ap (info_in d) seen.modem_frames ∙ silent.modem)) (silent_fits s.dialect))
    afresh c e (past_it n up upm gone) =
        ended n up upm (ended_stays n (AtModem (station.Sent f)) line h.once gone)
        (silenced s data_channels d FromModem (asked_of_driver stamps line f) f (talk_of s.dialect data_channels d (captured stamps line)) e)

    by_start : (b : Bool) → starts_afresh (asked_of_driver stamps line f) d f ≡ b → carries d f ≡ false → IsKept s d data_channels stamps (AtModem (station.Sent f) ∷ line)
    by_start true e c =
        let k = talking_before s n1 (AtModem (station.Sent f)) line h in
        afresh c e (modem_afresh s n1 d f line (asked_of_driver stamps line f) (under_zero s n1 d line apart k) (under_zero_m d apart) h e)
    by_start false e c =
        fits (same_fits s.dialect (talk_of s.dialect data_channels d (captured stamps line)) _ (info_in d (frames_of Initiator (captured stamps line))) _ (info_in d (frames_of Responder (captured stamps line))) _
        (other_frame s.dialect data_channels FromModem d (talk_of s.dialect data_channels d (captured stamps line)) (asked_of_driver stamps line f) f apart c e)
        refl (nothing_more d f (frames_of Responder (captured stamps line)) c) q)

    by_carry : (b : Bool) → carries d f ≡ b → IsKept s d data_channels stamps (AtModem (station.Sent f) ∷ line)
    by_carry false c = by_start (starts_afresh (asked_of_driver stamps line f) d f) refl c
    by_carry true c =
        let k = carried_data d f c in
        fits (same_fits s.dialect (heard_each s.dialect FromModem (talk_of s.dialect data_channels d (captured stamps line)) f.info) _ (info_in d (frames_of Initiator (captured stamps line))) _ (info_in d (frames_of Responder (captured stamps line)) ++ f.info) _
        (says_text s.dialect data_channels FromModem d (talk_of s.dialect data_channels d (captured stamps line)) (asked_of_driver stamps line f) f named c)
        refl (ap (λ z. info_in d (frames_of Responder (captured stamps line)) ++ z) (info_some d f c))
        (modem_text s.dialect (talk_of s.dialect data_channels d (captured stamps line)) (info_in d (frames_of Initiator (captured stamps line))) (info_in d (frames_of Responder (captured stamps line))) f.info h.apart q (modem_room s n1 d stamps f line h k.0 k.1)).fits)

-- an act that sends nothing
same_kept : (s : Setting) (n1 d : ℕ) (data_channels : List Dlci) (stamps : ℕ → Stamp) (x : LineAct) (line : List LineAct) → captured stamps (x ∷ line) ≡ captured stamps line → IsTalkingLine s n1 (x ∷ line)
    → IsKept s d data_channels stamps line → IsKept s d data_channels stamps (x ∷ line)
same_kept s n1 d data_channels stamps x line same h (fits q) = fits (subst (λ (cs : List Caught). TalkFits s.dialect data_channels d cs) (sym same) q)
same_kept s n1 d data_channels stamps x line same h (ended e up upm gone t) = ended e up upm (ended_stays e x line h.once gone) (ap (talk_of s.dialect data_channels d) same ∙ t)

-- what is kept of a connection that isn't named as one of data
all_kept : (s : Setting) (n1 d : ℕ) (data_channels : List Dlci) (stamps : ℕ → Stamp) (line : List LineAct) → (d == 0) ≡ false → is_named data_channels d ≡ false → IsTalkingLine s n1 line → IsKept s d data_channels stamps line
all_kept s n1 d data_channels stamps [] apart named h = fits (silent_fits s.dialect)
all_kept s n1 d data_channels stamps (AtDriver (driver.Sent f) ∷ line) apart named h = driver_kept s n1 d data_channels stamps f line apart named h (all_kept s n1 d data_channels stamps line apart named (talking_before s n1 (AtDriver (driver.Sent f)) line h))
all_kept s n1 d data_channels stamps (AtModem (station.Sent f) ∷ line) apart named h = modem_kept s n1 d data_channels stamps f line apart named h (all_kept s n1 d data_channels stamps line apart named (talking_before s n1 (AtModem (station.Sent f)) line h))
all_kept s n1 d data_channels stamps (AtDriver (driver.Took q) ∷ line) apart named h = same_kept s n1 d data_channels stamps (AtDriver (driver.Took q)) line refl h (all_kept s n1 d data_channels stamps line apart named (talking_before s n1 (AtDriver (driver.Took q)) line h))
all_kept s n1 d data_channels stamps (AtDriver (driver.Got f) ∷ line) apart named h = same_kept s n1 d data_channels stamps (AtDriver (driver.Got f)) line refl h (all_kept s n1 d data_channels stamps line apart named (talking_before s n1 (AtDriver (driver.Got f)) line h))
all_kept s n1 d data_channels stamps (AtDriver (driver.Told o) ∷ line) apart named h = same_kept s n1 d data_channels stamps (AtDriver (driver.Told o)) line refl h (all_kept s n1 d data_channels stamps line apart named (talking_before s n1 (AtDriver (driver.Told o)) line h))
all_kept s n1 d data_channels stamps (AtDriver (driver.Heard u e l) ∷ line) apart named h = same_kept s n1 d data_channels stamps (AtDriver (driver.Heard u e l)) line refl h (all_kept s n1 d data_channels stamps line apart named (talking_before s n1 (AtDriver (driver.Heard u e l)) line h))
all_kept s n1 d data_channels stamps (AtDriver driver.Tick ∷ line) apart named h = same_kept s n1 d data_channels stamps (AtDriver driver.Tick) line refl h (all_kept s n1 d data_channels stamps line apart named (talking_before s n1 (AtDriver driver.Tick) line h))
all_kept s n1 d data_channels stamps (AtDriver driver.Lost ∷ line) apart named h = same_kept s n1 d data_channels stamps (AtDriver driver.Lost) line refl h (all_kept s n1 d data_channels stamps line apart named (talking_before s n1 (AtDriver driver.Lost) line h))
all_kept s n1 d data_channels stamps (AtDriver (driver.Held e) ∷ line) apart named h = same_kept s n1 d data_channels stamps (AtDriver (driver.Held e)) line refl h (all_kept s n1 d data_channels stamps line apart named (talking_before s n1 (AtDriver (driver.Held e)) line h))
all_kept s n1 d data_channels stamps (AtDriver (driver.Freed e) ∷ line) apart named h = same_kept s n1 d data_channels stamps (AtDriver (driver.Freed e)) line refl h (all_kept s n1 d data_channels stamps line apart named (talking_before s n1 (AtDriver (driver.Freed e)) line h))
all_kept s n1 d data_channels stamps (AtDriver driver.Given ∷ line) apart named h = same_kept s n1 d data_channels stamps (AtDriver driver.Given) line refl h (all_kept s n1 d data_channels stamps line apart named (talking_before s n1 (AtDriver driver.Given) line h))
all_kept s n1 d data_channels stamps (AtModem (station.Called c) ∷ line) apart named h = same_kept s n1 d data_channels stamps (AtModem (station.Called c)) line refl h (all_kept s n1 d data_channels stamps line apart named (talking_before s n1 (AtModem (station.Called c)) line h))
all_kept s n1 d data_channels stamps (AtModem (station.Got f) ∷ line) apart named h = same_kept s n1 d data_channels stamps (AtModem (station.Got f)) line refl h (all_kept s n1 d data_channels stamps line apart named (talking_before s n1 (AtModem (station.Got f)) line h))
all_kept s n1 d data_channels stamps (AtModem station.Tick ∷ line) apart named h = same_kept s n1 d data_channels stamps (AtModem station.Tick) line refl h (all_kept s n1 d data_channels stamps line apart named (talking_before s n1 (AtModem station.Tick) line h))
all_kept s n1 d data_channels stamps (AtModem station.Lost ∷ line) apart named h = same_kept s n1 d data_channels stamps (AtModem station.Lost) line refl h (all_kept s n1 d data_channels stamps line apart named (talking_before s n1 (AtModem station.Lost) line h))
all_kept s n1 d data_channels stamps (AtModem station.Given ∷ line) apart named h = same_kept s n1 d data_channels stamps (AtModem station.Given) line refl h (all_kept s n1 d data_channels stamps line apart named (talking_before s n1 (AtModem station.Given) line h))

-- where the driver sends data on d, and where the modem does
driver_fit : (s : Setting) (n1 d : ℕ) (data_channels : List Dlci) (stamps : ℕ → Stamp) (f : Frame) (line : List LineAct) → IsTalkingLine s n1 (AtDriver (driver.Sent f) ∷ line) → carries d f ≡ true → IsKept s d data_channels stamps line
    → TalkFits s.dialect data_channels d (captured stamps line)
driver_fit s n1 d data_channels stamps f line h c (fits q) = q
driver_fit s n1 d data_channels stamps f line h c (ended e up upm gone t) = absurd (driver_says_none s n1 d e f line up (talking_asked s n1 (AtDriver (driver.Sent f) ∷ line) h) gone c)

modem_fit : (s : Setting) (n1 d : ℕ) (data_channels : List Dlci) (stamps : ℕ → Stamp) (f : Frame) (line : List LineAct) → IsTalkingLine s n1 (AtModem (station.Sent f) ∷ line) → carries d f ≡ true → IsKept s d data_channels stamps line
    → TalkFits s.dialect data_channels d (captured stamps line)
modem_fit s n1 d data_channels stamps f line h c (fits q) = q
modem_fit s n1 d data_channels stamps f line h c (ended e up upm gone t) =
    absurd (modem_says_none s n1 d e f line upm (talking_asked s n1 (AtModem (station.Sent f) ∷ line) h) (talking_before s n1 (AtModem (station.Sent f)) line h).opens_none gone c)

-- ## What is told

turned_not : (b : Bool) → not b ≡ true → b ≡ false
turned_not false e = refl
turned_not true e = cc

abbrev IsRightTold : Dialect → List Told → Type 0
IsRightTold dialect told = (list_any overlaps told ≡ false) × (list_any (is_unprompted dialect) told ≡ false)

driver_told : (s : Setting) (n1 : ℕ) (data_channels : List Dlci) (stamps : ℕ → Stamp) (f : Frame) (line : List LineAct) → IsTalkingLine s n1 (AtDriver (driver.Sent f) ∷ line)
    → IsRightTold s.dialect (told_in s.dialect data_channels (captured stamps line) (caught (stamps (length (captured stamps line))) ToModem f))
driver_told s n1 data_channels stamps f line h = by_text (has_text data_channels f) refl
  where
    by_start : (b c : Bool) → (c ≡ true → (b ≡ false) × IsRightTold s.dialect (told_each s.dialect ToModem (talk_of s.dialect data_channels f.dlci (captured stamps line)) f.info)) → IsRightTold s.dialect (if b then [] else (if c then told_each s.dialect ToModem (talk_of s.dialect data_channels f.dlci (captured stamps line)) f.info else []))
    by_start true c k = (refl, refl)
    by_start false false k = (refl, refl)
    by_start false true k = (k refl).1

    by_text : (c : Bool) → has_text data_channels f ≡ c → IsRightTold s.dialect (if starts_afresh (asked_of_modem stamps line f) f.dlci f then [] else (if c then told_each s.dialect ToModem (talk_of s.dialect data_channels f.dlci (captured stamps line)) f.info else []))
    by_text c e = by_start (starts_afresh (asked_of_modem stamps line f) f.dlci f) c (λ k.
        let p = and_parts (is_data_frame f) (not (is_named data_channels f.dlci)) (e ∙ k) in
        let kept = all_kept s n1 f.dlci data_channels stamps line (turned_not (f.dlci == 0) (and_parts (is_kind f.kind Uih) (not (f.dlci == 0)) p.0).1) (turned_not (is_named data_channels f.dlci) p.1) (talking_before s n1 (AtDriver (driver.Sent f)) line h) in
        let q = driver_fit s n1 f.dlci data_channels stamps f line h (data_carries f p.0) kept in
        let t = driver_text s.dialect (talk_of s.dialect data_channels f.dlci (captured stamps line)) (info_in f.dlci (frames_of Initiator (captured stamps line))) (info_in f.dlci (frames_of Responder (captured stamps line))) f.info q (driver_room s n1 f.dlci stamps f line h p.0 refl) in
        (data_goes_on (asked_of_modem stamps line f) f.dlci f p.0, (t.apart, t.prompted)))

modem_told : (s : Setting) (n1 : ℕ) (data_channels : List Dlci) (stamps : ℕ → Stamp) (f : Frame) (line : List LineAct) → IsTalkingLine s n1 (AtModem (station.Sent f) ∷ line)
    → IsRightTold s.dialect (told_in s.dialect data_channels (captured stamps line) (caught (stamps (length (captured stamps line))) FromModem f))
modem_told s n1 data_channels stamps f line h = by_text (has_text data_channels f) refl
  where
    by_start : (b c : Bool) → (c ≡ true → (b ≡ false) × IsRightTold s.dialect (told_each s.dialect FromModem (talk_of s.dialect data_channels f.dlci (captured stamps line)) f.info)) → IsRightTold s.dialect (if b then [] else (if c then told_each s.dialect FromModem (talk_of s.dialect data_channels f.dlci (captured stamps line)) f.info else []))
    by_start true c k = (refl, refl)
    by_start false false k = (refl, refl)
    by_start false true k = (k refl).1

    by_text : (c : Bool) → has_text data_channels f ≡ c → IsRightTold s.dialect (if starts_afresh (asked_of_driver stamps line f) f.dlci f then [] else (if c then told_each s.dialect FromModem (talk_of s.dialect data_channels f.dlci (captured stamps line)) f.info else []))
    by_text c e = by_start (starts_afresh (asked_of_driver stamps line f) f.dlci f) c (λ k.
        let p = and_parts (is_data_frame f) (not (is_named data_channels f.dlci)) (e ∙ k) in
        let kept = all_kept s n1 f.dlci data_channels stamps line (turned_not (f.dlci == 0) (and_parts (is_kind f.kind Uih) (not (f.dlci == 0)) p.0).1) (turned_not (is_named data_channels f.dlci) p.1) (talking_before s n1 (AtModem (station.Sent f)) line h) in
        let q = modem_fit s n1 f.dlci data_channels stamps f line h (data_carries f p.0) kept in
        let t = modem_text s.dialect (talk_of s.dialect data_channels f.dlci (captured stamps line)) (info_in f.dlci (frames_of Initiator (captured stamps line))) (info_in f.dlci (frames_of Responder (captured stamps line))) f.info h.apart q (modem_room s n1 f.dlci stamps f line h p.0 refl) in
        (data_goes_on (asked_of_driver stamps line f) f.dlci f p.0, (t.apart, t.prompted)))

both_right : (dialect : Dialect) (xs ys : List Told) → IsRightTold dialect xs → IsRightTold dialect ys → IsRightTold dialect (xs ++ ys)
both_right dialect xs ys h k = (
  list_any-append overlaps xs ys ∙ or_from (list_any overlaps xs) (list_any overlaps ys) h.0 k.0,
  list_any-append (is_unprompted dialect) xs ys ∙ or_from (list_any (is_unprompted dialect) xs) (list_any (is_unprompted dialect) ys) h.1 k.1,
)

-- on a talking line no command overlaps another one, and no final code answers nothing
pub talks_in_turn : (s : Setting) (n1 : ℕ) (line : List LineAct) → TalksInTurn s n1 line
unfolding TalksInTurn
talks_in_turn s n1 line h stamps data_channels =
    over (IsTalkingLine s n1) (λ x line k. talking_before s n1 x line k) (λ cs. IsRightTold s.dialect (told_by s.dialect data_channels cs)) stamps (refl, refl)
    (λ f line k q. both_right s.dialect (told_by s.dialect data_channels (captured stamps line)) _ q (driver_told s n1 data_channels stamps f line k))
    (λ f line k q. both_right s.dialect (told_by s.dialect data_channels (captured stamps line)) _ q (modem_told s n1 data_channels stamps f line k)) line h

-- ## The end

-- what came on d is the information of the frames that came
pub acts_got : (d : ℕ) (past : List station.Act) → info_got d past ≡ info_in d (frames_got past)
acts_got d [] = refl
acts_got d (station.Got f ∷ past) = ap (λ z. z ++ info_of d f) (acts_got d past)
acts_got d (station.Sent f ∷ past) = acts_got d past
acts_got d (station.Called c ∷ past) = acts_got d past
acts_got d (station.Tick ∷ past) = acts_got d past
acts_got d (station.Lost ∷ past) = acts_got d past
acts_got d (station.Given ∷ past) = acts_got d past

-- and what was sent that of those sent
pub acts_sent : (d : ℕ) (past : List station.Act) → info_sent d past ≡ info_in d (frames_sent past)
acts_sent d [] = refl
acts_sent d (station.Sent f ∷ past) = ap (λ z. z ++ info_of d f) (acts_sent d past)
acts_sent d (station.Got f ∷ past) = acts_sent d past
acts_sent d (station.Called c ∷ past) = acts_sent d past
acts_sent d (station.Tick ∷ past) = acts_sent d past
acts_sent d (station.Lost ∷ past) = acts_sent d past
acts_sent d (station.Given ∷ past) = acts_sent d past

-- on 0, and on a connection of data, nothing is said
says_nothing : (dialect : Dialect) (data_channels : List Dlci) (d : ℕ) → ((d == 0) || is_named data_channels d) ≡ true → (cs : List Caught) → talk_of dialect data_channels d cs ≡ silence
says_nothing dialect data_channels d none [] = refl
says_nothing dialect data_channels d none (c ∷ cs) = by_start (starts_afresh (answered_kind cs c) d c.frame) (has_text data_channels c.frame && (c.frame.dlci == d)) off (says_nothing dialect data_channels d none cs)
  where
    by_place : (a b : Bool) → has_text data_channels c.frame ≡ a → (c.frame.dlci == d) ≡ b → (a && b) ≡ false
    by_place false b e g = refl
    by_place true false e g = refl
    by_place true true e g =
        let p = and_parts (is_data_frame c.frame) (not (is_named data_channels c.frame.dlci)) e in
        let q = and_parts (is_kind c.frame.kind Uih) (not (c.frame.dlci == 0)) p.0 in
        let same = eqb-true c.frame.dlci d g in
        let none_here : ((d == 0) || is_named data_channels d) ≡ false = or_from (d == 0) (is_named data_channels d) (sym (ap (λ n. n == 0) same) ∙ turned_not (c.frame.dlci == 0) q.1) (sym (ap (is_named data_channels) same) ∙ turned_not (is_named data_channels c.frame.dlci) p.1) in
        let t : true ≡ false = sym none ∙ none_here in cc

    off : (has_text data_channels c.frame && (c.frame.dlci == d)) ≡ false
    off = by_place (has_text data_channels c.frame) (c.frame.dlci == d) refl refl

    by_start : (a b : Bool) → b ≡ false → talk_of dialect data_channels d cs ≡ silence
        → (if a then silence else (if b then heard_each dialect c.direction (talk_of dialect data_channels d cs) c.frame.info else talk_of dialect data_channels d cs)) ≡ silence
    by_start true b e rest = refl
    by_start false false e rest = rest
    by_start false true e rest = cc

-- where each command line on d has its final code, and all came that the driver sent, no command is left without an answer
pub finishes_talk : (s : Setting) (n1 : ℕ) (line : List LineAct) → FinishesTalk s n1 line
unfolding FinishesTalk
finishes_talk s n1 line h d done stamps data_channels = by_place (d == 0) (is_named data_channels d) refl refl
  where
    idle : (w : Option OpenWindow) → under_way w ≤ 0 → is_some w ≡ false
    idle None k = refl
    idle (Some o) k = absurd (omega (arith, k))

    by_place : (a b : Bool) → (d == 0) ≡ a → is_named data_channels d ≡ b → is_some (talk_of s.dialect data_channels d (captured stamps line)).window ≡ false
    by_place true b e g = ap (λ (t : Talk). is_some t.window) (says_nothing s.dialect data_channels d (ap (λ (x : Bool). x || is_named data_channels d) e) (captured stamps line))
    by_place false true e g = ap (λ (t : Talk). is_some t.window) (says_nothing s.dialect data_channels d (ap (λ (x : Bool). x || is_named data_channels d) e ∙ g) (captured stamps line))
    by_place false false e g = by_kept (all_kept s n1 d data_channels stamps line e g h)
      where
        by_kept : IsKept s d data_channels stamps line → is_some (talk_of s.dialect data_channels d (captured stamps line)).window ≡ false
        by_kept (ended n up upm gone t) = ap (λ (x : Talk). is_some x.window) t
        by_kept (fits fit) =
            let cs = captured stamps line in
            let seen = shows stamps line in
            let count = fit.count in
            let answered = done.answered in
            let out : commands_in (lines (info_in d (frames_of Initiator cs))) ≡ commands_in (lines (info_got d (modem_past line))) =
            ap (λ z. commands_in (lines z)) (ap (info_in d) seen.driver_frames ∙ (ap (info_in d) (sym done.came) ∙ sym (acts_got d (modem_past line)))) in
            let back : finals_in s.dialect (lines (info_in d (frames_of Responder cs))) ≡ finals_in s.dialect (lines (info_sent d (modem_past line))) =
            ap (λ z. finals_in s.dialect (lines z)) (ap (info_in d) seen.modem_frames ∙ sym (acts_sent d (modem_past line))) in
            idle (talk_of s.dialect data_channels d cs).window (omega (arith, count, answered, out, back))
