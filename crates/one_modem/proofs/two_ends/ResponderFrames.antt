-- What a responder sends on a connection: UA behind its SABM, and information behind its UA.
use Rattle.std.specs.Prelude.{◌≡◌, ℕ, ◌==◌, ◌&&◌, ◌||◌, not, Bool, true, false, List, [], ◌∷◌, ◌++◌, drop, is_none, Option, Some, None, refl, if◌then◌else◌}
use Rattle.std.specs.List.{list_any}
use Rattle.std.proofs.Common.{sym, ap, ◌∙◌, eqb-true}
use Rattle.std.proofs.lemmas.Bool.{and_parts, or_parts}
use Rattle.std.proofs.lemmas.List.Folds.{list_any-append}
use Rattle.mux_frame.specs.Frames.{Frame}
use Rattle.mux_frame.specs.declared.frame.Kind.{Kind}
use Rattle.mux_frame.specs.declared.frame.Kind.TheVariants.{Sabm, Ua, Dm, Disc, Uih}
use Rattle.mux_station.specs.declared.role.Role.TheVariants.{Responder}
use Rattle.mux_station.specs.Acts.{Act, Call, Open, Close, Probe, Stop, Flow, Offer, Called, Got, Sent, Tick, Lost, Given}
use Rattle.mux_station.specs.Messages.{Message, is_command, nsc, cld, brings_command, message_in, response_of}
use Rattle.mux_station.specs.Opening.{ends, is_open, opens_now, is_asked}
use Rattle.mux_station.proofs.states.OpeningSteps.{is_open_after}
use Rattle.mux_station.specs.Sending.{StationSetting, frames_asked, called_frames, frames_seeing, is_loss, owed_frames, refused, station_view, StationLawful, Sends}
use Rattle.mux_station.specs.States.{State, IsShut, IsOpening, IsOpened, IsClosing, IsStopping, is_opened, state_of}
use Rattle.mux_station.specs.Tables.{by_frame, by_message, by_table, is_supported, message_frame, msc_after_opening, msc_frame, ready, held_up, response_to, ua_or_dm}
use Rattle.mux_station.specs.Written.{is_data_frame, is_kind, is_on}
use Rattle.modem_history.specs.Connections.{carries, info_of}
use Rattle.modem_history.specs.TwoEnds.{frames_got, frames_sent}
use Rattle.modem_history.proofs.commands.FramesOnLine.{info_in, info_none}
use Rattle.modem_history.proofs.connections.InformationGrowth.{is_got, opens_none}

-- a UA on d is among these frames
abbrev pub uas : ℕ → List Frame → Bool
uas d fs = list_any (is_on Ua d) fs

-- a SABM on d is
abbrev pub sabms : ℕ → List Frame → Bool
sabms d fs = list_any (is_on Sabm d) fs

-- the setting of a responder with this N1
abbrev pub answering : ℕ → StationSetting
answering n1 = record { role = Responder; n1 = n1 }

-- without ticks, and without a loss of the line
abbrev pub IsTimeless : List Act → Type 0
IsTimeless [] = Unit {0}
IsTimeless (Tick ∷ past) = ⊥
IsTimeless (Lost ∷ past) = ⊥
IsTimeless (a ∷ past) = IsTimeless past

or_from : (a b : Bool) → a ≡ false → b ≡ false → (a || b) ≡ false
or_from true b g h = cc
or_from false b g h = h

none_if : (d : ℕ) (b : Bool) (fs gs : List Frame) → uas d fs ≡ false → uas d gs ≡ false → uas d (if b then fs else gs) ≡ false
none_if d true fs gs g h = g
none_if d false fs gs g h = h

none_both : (d : ℕ) (fs gs : List Frame) → uas d fs ≡ false → uas d gs ≡ false → uas d (fs ++ gs) ≡ false
none_both d fs gs g h = list_any-append (is_on Ua d) fs gs ∙ or_from (uas d fs) (uas d gs) g h

none_parts : (d : ℕ) (fs gs : List Frame) → uas d (fs ++ gs) ≡ false → (uas d fs ≡ false) × (uas d gs ≡ false)
none_parts d fs gs h = or_parts (uas d fs) (uas d gs) (sym (list_any-append (is_on Ua d) fs gs) ∙ h)

-- ## What is called for

none_asked_for : (d : ℕ) (c : Call) → uas d (frames_asked Responder c) ≡ false
none_asked_for d (Open e) = refl
none_asked_for d (Close e) = refl
none_asked_for d (Probe octets) = refl
none_asked_for d Stop = refl
none_asked_for d (Flow e go) = none_if d (e == 0) (message_frame Responder (if go then 0xa3 else 0x63) [] ∷ []) (msc_frame Responder e (if go then ready else held_up) ∷ []) refl refl
none_asked_for d (Offer e octets) = refl

none_responded : (d : ℕ) (m : Option Message) → uas d (response_to Responder m) ≡ false
none_responded d None = refl
none_responded d (Some m) =
    none_if d (is_supported m.octet) _ (if is_command m && not (m.octet == nsc) then message_frame Responder (response_of nsc) (m.octet ∷ []) ∷ [] else []) refl
    (none_if d (is_command m && not (m.octet == nsc)) (message_frame Responder (response_of nsc) (m.octet ∷ []) ∷ []) [] refl refl)

none_messaged : (d : ℕ) (s : State) (f : Frame) → uas d (by_message Responder s f) ≡ false
none_messaged d IsOpened f = none_responded d (message_in f)
none_messaged d (IsStopping n) f = none_if d (brings_command cld f) (response_to Responder (message_in f)) [] (none_responded d (message_in f)) refl
none_messaged d IsShut f = refl
none_messaged d (IsOpening n) f = refl
none_messaged d (IsClosing n) f = refl

none_after_opening : (d n : ℕ) → uas d (msc_after_opening Responder n) ≡ false
none_after_opening d n = none_if d (n == 0) [] (msc_frame Responder n ready ∷ []) refl refl

disc_none : (b here : Bool) → (here ≡ true → b ≡ false) → ((is_kind (if b then Ua else Dm) Ua && here) || false) ≡ false
disc_none true true h = let g : true ≡ false = h refl in cc
disc_none true false h = refl
disc_none false here h = refl

none_tabled : (d n : ℕ) (channel own : State) (k : Kind) → (is_kind k Sabm && (n == d)) ≡ false → ((n == d) ≡ true → is_opened own ≡ false) → uas d (by_table Responder n channel own k) ≡ false
none_tabled d n channel own Sabm unasked shut =
    none_if d ((n == 0) || is_opened channel) (ua_or_dm Responder n true ∷ msc_after_opening Responder n) (ua_or_dm Responder n false ∷ [])
    (or_from (n == d) (uas d (msc_after_opening Responder n)) unasked (none_after_opening d n)) refl
none_tabled d n channel own Disc unasked shut = disc_none (is_opened own) (n == d) shut
none_tabled d n channel own Ua unasked shut = refl
none_tabled d n channel own Dm unasked shut = refl
none_tabled d n channel own Uih unasked shut = refl

none_framed : (d : ℕ) (state : ℕ → State) (f : Frame) → is_on Sabm d f ≡ false → ((f.dlci == d) ≡ true → is_opened (state f.dlci) ≡ false) → uas d (by_frame Responder state f) ≡ false
none_framed d state f unasked shut =
    none_if d (is_on Uih 0 f) (by_message Responder (state 0) f) (by_table Responder f.dlci (state 0) (state f.dlci) f.kind)
    (none_messaged d (state 0) f) (none_tabled d f.dlci (state 0) (state f.dlci) f.kind unasked shut)

-- a SABM that opens is answered by UA
some_tabled : (d n : ℕ) (channel own : State) (k : Kind) (zero : Bool) → is_kind k Sabm ≡ true → (n == d) ≡ true → ((n == 0) || is_opened channel) ≡ true → uas d (by_table Responder n channel own k) ≡ true
some_tabled d n channel own Sabm zero is here there =
    ap (λ (b : Bool). uas d (if b then ua_or_dm Responder n true ∷ msc_after_opening Responder n else ua_or_dm Responder n false ∷ [])) there
    ∙ ap (λ (b : Bool). b || uas d (msc_after_opening Responder n)) here
some_tabled d n channel own Ua zero is here there = cc
some_tabled d n channel own Dm zero is here there = cc
some_tabled d n channel own Disc zero is here there = cc
some_tabled d n channel own Uih zero is here there = cc

sabm_no_uih : (k : Kind) → is_kind k Sabm ≡ true → is_kind k Uih ≡ false
sabm_no_uih Sabm is = refl
sabm_no_uih Ua is = cc
sabm_no_uih Dm is = cc
sabm_no_uih Disc is = cc
sabm_no_uih Uih is = cc

some_framed : (d : ℕ) (state : ℕ → State) (f : Frame) → is_on Sabm d f ≡ true → ((d == 0) || is_opened (state 0)) ≡ true → uas d (by_frame Responder state f) ≡ true
some_framed d state f asked there =
    let parts = and_parts (is_kind f.kind Sabm) (f.dlci == d) asked in
    let same : f.dlci ≡ d = eqb-true f.dlci d parts.1 in
    let bare : is_on Uih 0 f ≡ false = ap (λ (b : Bool). b && (f.dlci == 0)) (sabm_no_uih f.kind parts.0) in
    ap (λ (b : Bool). uas d (if b then by_message Responder (state 0) f else by_table Responder f.dlci (state 0) (state f.dlci) f.kind)) bare
    ∙ some_tabled d f.dlci (state 0) (state f.dlci) f.kind true parts.0 parts.1 (ap (λ (n : ℕ). (n == 0) || is_opened (state 0)) same ∙ there)

-- ## The past

none_lost : (past : List Act) → IsTimeless past → list_any is_loss past ≡ false
none_lost [] timeless = refl
none_lost (Called c ∷ past) timeless = none_lost past timeless
none_lost (Got f ∷ past) timeless = none_lost past timeless
none_lost (Sent f ∷ past) timeless = none_lost past timeless
none_lost (Given ∷ past) timeless = none_lost past timeless
none_lost (Tick ∷ past) timeless = absurd timeless
none_lost (Lost ∷ past) timeless = absurd timeless

called_now : (s : StationSetting) (past : List Act) (a : Act) → IsTimeless past → called_frames s past a ≡ frames_seeing s (station_view s past) a
called_now s past a timeless = ap (λ (b : Bool). if b then [] else frames_seeing s (station_view s past) a) (none_lost past timeless)

-- how UA, SABM and information on d stand to one another
pub record Stands (n1 d : ℕ) (past : List Act) : Type 0 where
  pub shut : sabms d (frames_got past) ≡ false → is_open Responder d past ≡ false
  pub sent_none : sabms d (frames_got past) ≡ false → uas d (frames_sent past) ≡ false
  pub owed_none : sabms d (frames_got past) ≡ false → uas d (owed_frames (answering n1) past) ≡ false
  pub unopened : uas d (frames_sent past) ≡ false → uas d (owed_frames (answering n1) past) ≡ false → is_open Responder d past ≡ false

-- what is shut stays so, where nothing opens it
pub still_shut : (o i e : Bool) → o ≡ false → i ≡ false → (o || (i && not e)) ≡ false
still_shut true i e g h = cc
still_shut false true e g h = cc
still_shut false false e g h = refl

abbrev zero_open : ℕ → List Act → Bool
zero_open d past = is_open Responder 0 past

-- where d is shut at a responder, an act but a frame that comes leaves it so
pub not_opening : (d : ℕ) (past : List Act) (a : Act) → is_got a ≡ false → is_open Responder d past ≡ false → is_open Responder d (a ∷ past) ≡ false
not_opening d past a other was = is_open_after Responder d past a ∙ still_shut (opens_now Responder d past a) (is_open Responder d past) (ends (zero_open d past) d a) (opens_none Responder (zero_open d past) (is_asked Responder d past) d a other) was

-- an act that brings and sends nothing, and calls for nothing that is UA
plain : (n1 d : ℕ) (past : List Act) (a : Act) → is_got a ≡ false → frames_got (a ∷ past) ≡ frames_got past → frames_sent (a ∷ past) ≡ frames_sent past → owed_frames (answering n1) (a ∷ past) ≡ owed_frames (answering n1) past ++ called_frames (answering n1) past a → uas d (called_frames (answering n1) past a) ≡ false → Stands n1 d past → Stands n1 d (a ∷ past)
plain n1 d past a other came went owes none h = record {
  shut = λ e. not_opening d past a other (h.shut (ap (sabms d) (sym came) ∙ e));
  sent_none = λ e. ap (uas d) went ∙ h.sent_none (ap (sabms d) (sym came) ∙ e);
  owed_none = λ e. ap (uas d) owes ∙ none_both d (owed_frames (answering n1) past) (called_frames (answering n1) past a) (h.owed_none (ap (sabms d) (sym came) ∙ e)) none;
  unopened = λ e g.
      not_opening d past a other (h.unopened (ap (uas d) (sym went) ∙ e) (none_parts d (owed_frames (answering n1) past) (called_frames (answering n1) past a) (ap (uas d) (sym owes) ∙ g)).0);
}

no_word : (k : Kind) (b z : Bool) → (is_kind k Uih && z) ≡ true → (is_kind k Ua && b) ≡ false
no_word Uih b z is = refl
no_word Sabm b z is = cc
no_word Ua b z is = cc
no_word Dm b z is = cc
no_word Disc b z is = cc

-- a frame of data is sent
sent_data : (n1 d : ℕ) (past : List Act) (f : Frame) → is_data_frame f ≡ true → Stands n1 d past → Stands n1 d (Sent f ∷ past)
sent_data n1 d past f is h =
    let other : is_on Ua d f ≡ false = no_word f.kind (f.dlci == d) (not (f.dlci == 0)) is in
    let owes : owed_frames (answering n1) (Sent f ∷ past) ≡ owed_frames (answering n1) past = ap (λ (b : Bool). if b then owed_frames (answering n1) past else drop 1 (owed_frames (answering n1) past)) is in
    record {
      shut = λ e. not_opening d past (Sent f) refl (h.shut e);
      sent_none = λ e. or_from (is_on Ua d f) (uas d (frames_sent past)) other (h.sent_none e);
      owed_none = λ e. ap (uas d) owes ∙ h.owed_none e;
      unopened = λ e g. not_opening d past (Sent f) refl (h.unopened (or_parts (is_on Ua d f) (uas d (frames_sent past)) e).1 (ap (uas d) (sym owes) ∙ g));
    }

-- a frame is sent that is owed
sent_control : (n1 d : ℕ) (past : List Act) (f : Frame) (later : List Frame) → is_data_frame f ≡ false → owed_frames (answering n1) past ≡ f ∷ later → Stands n1 d past → Stands n1 d (Sent f ∷ past)
sent_control n1 d past f later is next h =
    let owes : owed_frames (answering n1) (Sent f ∷ past) ≡ later = ap (λ (b : Bool). if b then owed_frames (answering n1) past else drop 1 (owed_frames (answering n1) past)) is ∙ ap (drop 1) next in
    record {
      shut = λ e. not_opening d past (Sent f) refl (h.shut e);
      sent_none = λ e. or_from (is_on Ua d f) (uas d (frames_sent past)) (or_parts (is_on Ua d f) (uas d later) (ap (uas d) (sym next) ∙ h.owed_none e)).0 (h.sent_none e);
      owed_none = λ e. ap (uas d) owes ∙ (or_parts (is_on Ua d f) (uas d later) (ap (uas d) (sym next) ∙ h.owed_none e)).1;
      unopened = λ e g.
          let parts = or_parts (is_on Ua d f) (uas d (frames_sent past)) e in
          not_opening d past (Sent f) refl (h.unopened parts.1 (ap (uas d) next ∙ or_from (is_on Ua d f) (uas d later) parts.0 (ap (uas d) (sym owes) ∙ g)));
    }

-- a frame comes
comes : (n1 d : ℕ) (past : List Act) (f : Frame) → IsTimeless past → Stands n1 d past → Stands n1 d (Got f ∷ past)
comes n1 d past f timeless h =
    let s = answering n1 in
    let fs = called_frames s past (Got f) in
    let now : fs ≡ by_frame Responder (station_view s past).state f = called_now s past (Got f) timeless in
    record {
      shut = λ e.
          let parts = or_parts (is_on Sabm d f) (sabms d (frames_got past)) e in
          is_open_after Responder d past (Got f) ∙ unopened_by (is_on Sabm d f) parts.0 (h.shut parts.1);
      sent_none = λ e. h.sent_none (or_parts (is_on Sabm d f) (sabms d (frames_got past)) e).1;
      owed_none = λ e.
          let parts = or_parts (is_on Sabm d f) (sabms d (frames_got past)) e in
          let closed : (f.dlci == d) ≡ true → is_opened (state_of Responder f.dlci past) ≡ false = λ here.
          let same : f.dlci ≡ d = eqb-true f.dlci d here in
          ap (λ n. is_open Responder n past) same ∙ h.shut parts.1 in
          none_both d (owed_frames s past) fs (h.owed_none parts.1) (ap (uas d) now ∙ none_framed d (station_view s past).state f parts.0 closed);
      unopened = λ e g.
          let parts = none_parts d (owed_frames s past) fs g in
          by_opens (is_on Sabm d f && ((d == 0) || zero_open d past)) refl (sym (ap (uas d) now) ∙ parts.1) (h.unopened e parts.0);
    }
  where
    unopened_by : (b : Bool) → b ≡ false → is_open Responder d past ≡ false → ((b && ((d == 0) || zero_open d past)) || (is_open Responder d past && not (ends (zero_open d past) d (Got f)))) ≡ false
    unopened_by b off was = still_shut (b && ((d == 0) || zero_open d past)) (is_open Responder d past) (ends (zero_open d past) d (Got f)) (ap (λ (x : Bool). x && ((d == 0) || zero_open d past)) off) was

    by_opens : (b : Bool) → (is_on Sabm d f && ((d == 0) || zero_open d past)) ≡ b → uas d (by_frame Responder (λ n. state_of Responder n past) f) ≡ false → is_open Responder d past ≡ false → is_open Responder d (Got f ∷ past) ≡ false
    by_opens true is none was =
        let parts = and_parts (is_on Sabm d f) ((d == 0) || zero_open d past) is in
        let some = some_framed d (λ n. state_of Responder n past) f parts.0 parts.1 in
        absurd (let g : true ≡ false = sym some ∙ none in cc)
    by_opens false is none was = is_open_after Responder d past (Got f) ∙ still_shut (is_on Sabm d f && ((d == 0) || zero_open d past)) (is_open Responder d past) (ends (zero_open d past) d (Got f)) is was

-- so they stand in each past that keeps the responder's tables, without ticks and losses
pub stands : (n1 d : ℕ) (past : List Act) → IsTimeless past → StationLawful (answering n1) past → Stands n1 d past
unfolding StationLawful Sends
stands n1 d [] timeless lawful = record { shut = λ e. refl; sent_none = λ e. refl; owed_none = λ e. refl; unopened = λ e g. refl }
stands n1 d (Called c ∷ past) timeless lawful =
    plain n1 d past (Called c) refl refl refl refl
    (ap (uas d) (called_now (answering n1) past (Called c) timeless) ∙ none_if d (is_none (refused (answering n1) (station_view (answering n1) past) c)) (frames_asked Responder c) [] (none_asked_for d c) refl)
    (stands n1 d past timeless lawful)
stands n1 d (Given ∷ past) timeless lawful =
    plain n1 d past Given refl refl refl refl (ap (uas d) (called_now (answering n1) past Given timeless)) (stands n1 d past timeless lawful)
stands n1 d (Got f ∷ past) timeless lawful = comes n1 d past f timeless (stands n1 d past timeless lawful)
stands n1 d (Sent f ∷ past) timeless lawful = by_data (is_data_frame f) refl lawful.0 (stands n1 d past timeless lawful.1)
  where
    by_data : (b : Bool) → is_data_frame f ≡ b → Sends (answering n1) past f b → Stands n1 d past → Stands n1 d (Sent f ∷ past)
    by_data true is sends h = sent_data n1 d past f is h
    by_data false is sends h = sent_control n1 d past f sends.later is sends.is_next h
stands n1 d (Tick ∷ past) timeless lawful = absurd timeless
stands n1 d (Lost ∷ past) timeless lawful = absurd timeless

-- ## Information behind UA

-- before the first UA on d there is no information on d
abbrev pub ComesBehindUa : ℕ → List Frame → Type 0
ComesBehindUa d [] = Unit {0}
ComesBehindUa d (f ∷ older) = (uas d (f ∷ older) ≡ false → info_in d (f ∷ older) ≡ []) × ComesBehindUa d older

-- while no UA on d is among such frames there is no information on d
pub first_behind_ua : (d : ℕ) (fs : List Frame) → ComesBehindUa d fs → uas d fs ≡ false → info_in d fs ≡ []
first_behind_ua d [] h e = refl
first_behind_ua d (f ∷ fs) h e = h.0 e

-- and so it is of the older ones of them
pub older_behind_ua : (d : ℕ) (later older : List Frame) → ComesBehindUa d (later ++ older) → ComesBehindUa d older
older_behind_ua d [] older h = h
older_behind_ua d (f ∷ later) older h = older_behind_ua d later older h.1

data_there : (d : ℕ) (f : Frame) → carries d f ≡ true → (is_data_frame f ≡ true) × (f.dlci ≡ d)
data_there d f e =
    let parts = and_parts (not (d == 0)) (is_on Uih d f) e in
    let more = and_parts (is_kind f.kind Uih) (f.dlci == d) parts.1 in
    let same : f.dlci ≡ d = eqb-true f.dlci d more.1 in
    (ap (λ (b : Bool). b && not (f.dlci == 0)) more.0 ∙ ap (λ (m : ℕ). not (m == 0)) same ∙ parts.0, same)

-- information is sent where d is open and nothing is owed
pub data_while_open : (n1 d : ℕ) (past : List Act) (f : Frame) → StationLawful (answering n1) (Sent f ∷ past) → carries d f ≡ true → (is_open Responder d past ≡ true) × (owed_frames (answering n1) past ≡ [])
unfolding StationLawful Sends
data_while_open n1 d past f lawful e =
    let there = data_there d f e in
    let gated = rw there.0 at lawful.0 in
    (ap (λ n. is_open Responder n past) (sym there.1) ∙ gated.is_open, gated.behind)

-- so it is of the frames that such a responder sent
pub behind_ua : (n1 d : ℕ) (past : List Act) → IsTimeless past → StationLawful (answering n1) past → ComesBehindUa d (frames_sent past)
unfolding StationLawful
behind_ua n1 d [] timeless lawful = tt
behind_ua n1 d (Called c ∷ past) timeless lawful = behind_ua n1 d past timeless lawful
behind_ua n1 d (Given ∷ past) timeless lawful = behind_ua n1 d past timeless lawful
behind_ua n1 d (Got f ∷ past) timeless lawful = behind_ua n1 d past timeless lawful
behind_ua n1 d (Sent f ∷ past) timeless lawful =
    let rest = behind_ua n1 d past timeless lawful.1 in
    let h = stands n1 d past timeless lawful.1 in
    ((λ e. by_carry (carries d f) refl lawful h rest (or_parts (is_on Ua d f) (uas d (frames_sent past)) e).1), rest)
  where
    by_carry : (b : Bool) → carries d f ≡ b → StationLawful (answering n1) (Sent f ∷ past) → Stands n1 d past → ComesBehindUa d (frames_sent past) → uas d (frames_sent past) ≡ false → info_in d (f ∷ frames_sent past) ≡ []
    by_carry true is all h rest none =
        let there = data_while_open n1 d past f all is in
        let shut = h.unopened none (ap (uas d) there.1) in
        absurd (let g : true ≡ false = sym there.0 ∙ shut in cc)
    by_carry false is all h rest none = ap (λ xs. xs ++ info_of d f) (first_behind_ua d (frames_sent past) rest none) ∙ info_none d f is
behind_ua n1 d (Tick ∷ past) timeless lawful = absurd timeless
behind_ua n1 d (Lost ∷ past) timeless lawful = absurd timeless
