-- What a responder reads are the commands that were sent, in the order in which they were.
use Rattle.std.proofs.Common.{ap, sym, ◌∙◌, subst, append-nil, eqb-true}
use Rattle.std.proofs.lemmas.Bool.{and_parts, and_from}
use Rattle.std.proofs.lemmas.List.{append_cancel_left, length-append}
use Rattle.std.specs.Prelude.{◌≡◌, ℕ, ◌+◌, ◌==◌, ◌&&◌, ◌||◌, not, Bool, true, false, List, [], ◌∷◌, ◌++◌, length, map, filter, drop, refl, if◌then◌else◌, None}
use Rattle.std.specs.List.{concat}
use Rattle.mux_frame.specs.Frames.{Frame}
use Rattle.mux_frame.specs.declared.frame.Kind.TheVariants.{Sabm, Ua, Dm, Disc, Uih}
use Rattle.mux_station.specs.declared.role.Role.TheVariants.{Initiator, Responder}
use Rattle.mux_station.specs.Written.{is_data_frame, is_kind, is_on}
use Rattle.mux_station.specs.Acts as station
use Rattle.mux_station.specs.Opening as opening
use Rattle.mux_station.specs.Opening.{ends, is_open, is_mode_frame_on, opens_now}
use Rattle.mux_station.proofs.states.OpeningSteps.{is_open_after}
use Rattle.at_text.specs.Lines.{lines, kept_run}
use Rattle.at_text.specs.Commands.{refusal_of}
use Rattle.at_text.proofs.lines.UnfinishedLines.{reads_on}
use Rattle.modem_desk.specs.declared.request.Request.{Request}
use Rattle.modem_history.specs.Acts.{Act, Took, Got, Sent, Told, Heard, Tick, Lost, Held, Freed, Given, wire}
use Rattle.modem_history.specs.Calls.{Setting}
use Rattle.modem_history.specs.Connections.{carries, commands_ended, info_of, information_sent, lines_got, whole_in, wholly_sent, with_cr}
use Rattle.modem_history.specs.Information.{accepted, is_accepted, line_of, opens_here, texts}
use Rattle.modem_history.specs.Lawful.{Gated, Lawful, When, owed}
use Rattle.modem_history.specs.Placements.{AreCommandLines, AreReadAsSent}
use Rattle.modem_history.specs.TwoEnds.{AsksOnce, IsAmong, ReadsInOrder, TakesCommandLines, commands_sent, commands_with, frames_got, frames_sent}
use Rattle.modem_history.specs.Wholes.{IsPrefixOf}
use Rattle.modem_history.proofs.commands.FramesOnLine.{AsksOne, among_then, ComesBehind, asked_first, asks_fewer, asks_older, behind_older, info_in, info_none, lines_among, lines_at, lines_in, lines_later, none_asked}
use Rattle.modem_history.proofs.connections.InformationGrowth.{is_got, is_sent, sent_grows, sent_same, sent_still}
use Rattle.modem_history.proofs.commands.SentPrefixes.{leaves_once}
use Rattle.modem_history.proofs.lines.MarkPlaces.{texts_are}
use Rattle.modem_history.proofs.commands.CommandPlaces.{whole_grows}
use Rattle.modem_history.proofs.commands.ReadCommands.{are_read_as_sent}

never : {A : Type 0} → false ≡ true → A
never e = cc

off_and : (b c : Bool) → b ≡ false → (b && c) ≡ false
off_and true c e = cc
off_and false c e = refl

on_and : (b c : Bool) → (b && c) ≡ true → b ≡ true
on_and true c e = refl
on_and false c e = cc

-- ## At the initiator

-- the initiator asked for d: of the mode frames on d the last is a SABM that it sent, and nothing ended d since
abbrev pub is_asked : ℕ → List station.Act → Bool
is_asked d past = opening.is_asked Initiator d past

-- Before its one SABM d isn't open, and nothing was sent on it; nor was anything while the SABM waits for its answer. So
-- what was sent since d opened is all that was.
pub record Asks (d : ℕ) (past : List station.Act) : Type 0 where
  pub unasked : filter (is_on Sabm d) (frames_sent past) ≡ [] → (is_asked d past ≡ false) × (is_open Initiator d past ≡ false) × (info_in d (frames_sent past) ≡ [])
  pub asked : is_asked d past ≡ true → (is_open Initiator d past ≡ false) × (info_in d (frames_sent past) ≡ [])
  pub all : information_sent Initiator d past ≡ info_in d (frames_sent past)

-- data leaves only while its connection is open
abbrev pub DataWhileOpen : List station.Act → Type 0
DataWhileOpen [] = Unit {0}
DataWhileOpen (station.Sent f ∷ past) = ((d : ℕ) → carries d f ≡ true → is_open Initiator d past ≡ true) × DataWhileOpen past
DataWhileOpen (_ ∷ past) = DataWhileOpen past

-- an act by which nothing comes or goes
idle : (d : ℕ) (past : List station.Act) (a : station.Act) (e w : Bool) → is_got a ≡ false → is_sent a ≡ false → frames_sent (a ∷ past) ≡ frames_sent past
    → is_open Initiator d (a ∷ past) ≡ (is_open Initiator d past && e) → is_asked d (a ∷ past) ≡ (is_asked d past && w) → Asks d past → Asks d (a ∷ past)
idle d past a e w g n same o k h = record {
  unasked = λ x.
      let old = h.unasked (ap (filter (is_on Sabm d)) (sym same) ∙ x) in
      (k ∙ off_and (is_asked d past) w old.0, o ∙ off_and (is_open Initiator d past) e old.1, ap (info_in d) same ∙ old.2);
  asked = λ x.
      let old = h.asked (on_and (is_asked d past) w (sym k ∙ x)) in
      (o ∙ off_and (is_open Initiator d past) e old.0, ap (info_in d) same ∙ old.1);
  all = sent_still Initiator d past a g n ∙ (h.all ∙ ap (info_in d) (sym same));
}

-- a frame comes
come : (d : ℕ) (past : List station.Act) (f : Frame) (ua asked i e w : Bool) → is_on Ua d f ≡ ua → is_asked d past ≡ asked → is_open Initiator d past ≡ i → (w ≡ true → ua ≡ false)
    → opens_now Initiator d past (station.Got f) ≡ (ua && asked) → is_open Initiator d (station.Got f ∷ past) ≡ ((ua && asked) || (i && e))
    → is_asked d (station.Got f ∷ past) ≡ (asked && w) → Asks d past → Asks d (station.Got f ∷ past)
come d past f ua asked i e w on was is mode opens o k h = record {
  unasked = λ x.
      let old = h.unasked x in
      (k ∙ off_and asked w (sym was ∙ old.0), o ∙ shut ua asked i (sym was ∙ old.0) (sym is ∙ old.1), old.2);
  asked = λ x.
      let both = and_parts asked w (sym k ∙ x) in
      let old = h.asked (was ∙ both.0) in
      (o ∙ unopened ua asked i (mode both.1) (sym is ∙ old.0), old.1);
  all =
      sent_same Initiator d past (station.Got f) refl
      ∙ (ap (λ (b : Bool). if b then [] else information_sent Initiator d past) opens ∙ (by_opening ua asked (λ x. (h.asked (was ∙ x)).1) ∙ h.all));
}
  where
    shut : (u a j : Bool) → a ≡ false → j ≡ false → ((u && a) || (j && e)) ≡ false
    shut true true j g x = cc
    shut true false true g x = cc
    shut true false false g x = refl
    shut false a true g x = cc
    shut false a false g x = refl

    unopened : (u a j : Bool) → u ≡ false → j ≡ false → ((u && a) || (j && e)) ≡ false
    unopened true a j g x = cc
    unopened false a true g x = cc
    unopened false a false g x = refl

    by_opening : (u a : Bool) → (a ≡ true → info_in d (frames_sent past) ≡ []) → (if u && a then [] else information_sent Initiator d past) ≡ information_sent Initiator d past
    by_opening true true none = sym (h.all ∙ none refl)
    by_opening true false none = refl
    by_opening false a none = refl

-- a frame is sent
sent : (d : ℕ) (past : List station.Act) (f : Frame) (sabm carry e w : Bool) → is_on Sabm d f ≡ sabm → carries d f ≡ carry → (carry ≡ true → is_open Initiator d past ≡ true) → AsksOne d (f ∷ frames_sent past)
    → is_open Initiator d (station.Sent f ∷ past) ≡ (is_open Initiator d past && e) → is_asked d (station.Sent f ∷ past) ≡ (sabm || (is_asked d past && w))
    → Asks d past → Asks d (station.Sent f ∷ past)
sent d past f sabm carry e w on carried gated one o k h = record {
  unasked = λ x.
      let none = none_asked d f (frames_sent past) sabm on x in
      let old = h.unasked none.1 in
      (k ∙ neither sabm (is_asked d past) none.0 old.0, o ∙ off_and (is_open Initiator d past) e old.1, nothing old.1 old.2);
  asked = λ x. by_sabm sabm refl (sym k ∙ x);
  all =
      sent_grows Initiator d past f
      ∙ (ap (λ (b : Bool). if b && is_open Initiator d past then information_sent Initiator d past ++ f.info else information_sent Initiator d past) carried
      ∙ (grows carry gated ∙ (ap (λ (xs : List ℕ). xs ++ (if carry then f.info else [])) h.all ∙ ap (λ (b : Bool). info_in d (frames_sent past) ++ (if b then f.info else [])) (sym carried))));
}
  where
    neither : (a b : Bool) → a ≡ false → b ≡ false → (a || (b && w)) ≡ false
    neither true b g x = cc
    neither false true g x = cc
    neither false false g x = refl

    -- where d isn't open no information is sent on it
    not_carried : is_open Initiator d past ≡ false → carries d f ≡ false
    not_carried shut = by_carry carry refl
      where
        by_carry : (c : Bool) → carry ≡ c → carries d f ≡ false
        by_carry true g = never (sym shut ∙ gated g)
        by_carry false g = carried ∙ g

    nothing : is_open Initiator d past ≡ false → info_in d (frames_sent past) ≡ [] → info_in d (f ∷ frames_sent past) ≡ []
    nothing shut none = ap (λ (xs : List ℕ). xs ++ info_of d f) none ∙ info_none d f (not_carried shut)

    by_sabm : (b : Bool) → sabm ≡ b → (b || (is_asked d past && w)) ≡ true → (is_open Initiator d (station.Sent f ∷ past) ≡ false) × (info_in d (frames_sent (station.Sent f ∷ past)) ≡ [])
    by_sabm true g x =
        let old = h.unasked (asked_first d f (frames_sent past) one (on ∙ g)) in
        (o ∙ off_and (is_open Initiator d past) e old.1, nothing old.1 old.2)
    by_sabm false g x =
        let old = h.asked (on_and (is_asked d past) w x) in
        (o ∙ off_and (is_open Initiator d past) e old.0, nothing old.0 old.1)

    grows : (c : Bool) → (c ≡ true → is_open Initiator d past ≡ true)
        → (if c && is_open Initiator d past then information_sent Initiator d past ++ f.info else information_sent Initiator d past) ≡ information_sent Initiator d past ++ (if c then f.info else [])
    grows true g = ap (λ (b : Bool). if b then information_sent Initiator d past ++ f.info else information_sent Initiator d past) (g refl)
    grows false g = sym (append-nil (information_sent Initiator d past))

-- what is no SABM, UA, DM or DISC on d is no UA
not_the_second : (a b c : Bool) → not ((a || (b || c))) ≡ true → b ≡ false
not_the_second true b c h = cc
not_the_second false true c h = cc
not_the_second false false c h = refl

no_ua_among : (d : ℕ) (f : Frame) (e : Bool) → not (is_mode_frame_on d f || e) ≡ true → is_on Ua d f ≡ false
no_ua_among d f e h = not_the_second (is_on Sabm d f) (is_on Ua d f) (is_on Dm d f || is_on Disc d f) (left (is_mode_frame_on d f) e h)
  where
    left : (a b : Bool) → not (a || b) ≡ true → not a ≡ true
    left true b g = cc
    left false b g = refl

-- so it is where one SABM on d at most was sent, and data left only while its connection was open
pub asks_of : (d : ℕ) (past : List station.Act) → AsksOne d (frames_sent past) → DataWhileOpen past → Asks d past
asks_of d [] one gated = record { unasked = λ x. (refl, refl, refl); asked = λ x. never x; all = refl }
asks_of d (station.Got f ∷ past) one gated =
    let e = ends (is_open Initiator 0 past) d (station.Got f) in
    come d past f (is_on Ua d f) (is_asked d past) (is_open Initiator d past) (not e) (not (is_mode_frame_on d f || e)) refl refl refl (no_ua_among d f e) refl (is_open_after Initiator d past (station.Got f)) refl (asks_of d past one gated)
asks_of d (station.Sent f ∷ past) one gated =
    let e = ends (is_open Initiator 0 past) d (station.Sent f) in
    sent d past f (is_on Sabm d f) (carries d f) (not e) (not (is_mode_frame_on d f || e)) refl refl (gated.0 d) one (is_open_after Initiator d past (station.Sent f)) refl (asks_of d past (asks_fewer d f (frames_sent past) one) gated.1)
asks_of d (station.Called c ∷ past) one gated =
    let e = ends (is_open Initiator 0 past) d (station.Called c) in
    idle d past (station.Called c) (not e) (not e) refl refl refl (is_open_after Initiator d past (station.Called c)) refl (asks_of d past one gated)
asks_of d (station.Tick ∷ past) one gated =
    let e = ends (is_open Initiator 0 past) d station.Tick in
    idle d past station.Tick (not e) (not e) refl refl refl (is_open_after Initiator d past station.Tick) refl (asks_of d past one gated)
asks_of d (station.Lost ∷ past) one gated =
    let e = ends (is_open Initiator 0 past) d station.Lost in
    idle d past station.Lost (not e) (not e) refl refl refl (is_open_after Initiator d past station.Lost) refl (asks_of d past one gated)
asks_of d (station.Given ∷ past) one gated =
    let e = ends (is_open Initiator 0 past) d station.Given in
    idle d past station.Given (not e) (not e) refl refl refl (is_open_after Initiator d past station.Given) refl (asks_of d past one gated)

-- so on each connection information is sent behind its SABM
pub sent_behind : (d : ℕ) (past : List station.Act) → AsksOne d (frames_sent past) → DataWhileOpen past → ComesBehind d (frames_sent past)
sent_behind d [] one gated = tt
sent_behind d (station.Sent f ∷ past) one gated =
    ((λ x. ((asks_of d (station.Sent f ∷ past) one gated).unasked x).2), sent_behind d past (asks_fewer d f (frames_sent past) one) gated.1)
sent_behind d (station.Got f ∷ past) one gated = sent_behind d past one gated
sent_behind d (station.Called c ∷ past) one gated = sent_behind d past one gated
sent_behind d (station.Tick ∷ past) one gated = sent_behind d past one gated
sent_behind d (station.Lost ∷ past) one gated = sent_behind d past one gated
sent_behind d (station.Given ∷ past) one gated = sent_behind d past one gated

-- ## The commands of a history

carried_on : (d : ℕ) (f : Frame) → carries d f ≡ true → (is_data_frame f ≡ true) × (f.dlci ≡ d)
carried_on d f e =
    let parts = and_parts (not (d == 0)) (is_on Uih d f) e in
    let more = and_parts (is_kind f.kind Uih) (f.dlci == d) parts.1 in
    let same : f.dlci ≡ d = eqb-true f.dlci d more.1 in
    (and_from (is_kind f.kind Uih) (not (f.dlci == 0)) more.0 (ap (λ (m : ℕ). not (m == 0)) same ∙ parts.0), same)

open_for : (s : Setting) (past : List Act) (f : Frame) → s.role ≡ Initiator → (b : Bool) → b ≡ true → When b (Gated s past (owed s past) f) → is_open Initiator f.dlci (wire past) ≡ true
open_for s past f role true e g = subst (λ r. is_open r f.dlci (wire past) ≡ true) role g.is_open
open_for s past f role false e g = never e

-- in a lawful history of an initiator data left only while its connection was open
pub while_open : (s : Setting) (past : List Act) → s.role ≡ Initiator → Lawful s past → DataWhileOpen (wire past)
unfolding Lawful
while_open s [] role l = tt
while_open s (Sent f ∷ past) role l =
    ((λ d e. let on = carried_on d f e in subst (λ (m : ℕ). is_open Initiator m (wire past) ≡ true) on.1 (open_for s past f role (is_data_frame f) on.0 l.0.gated)), while_open s past role l.1)
while_open s (Got f ∷ past) role l = while_open s past role l.1
while_open s (Tick ∷ past) role l = while_open s past role l.1
while_open s (Lost ∷ past) role l = while_open s past role l.1
while_open s (Given ∷ past) role l = while_open s past role l.1
while_open s (Took q ∷ past) role l = while_open s past role l.1
while_open s (Told o ∷ past) role l = while_open s past role l.1
while_open s (Heard k d line ∷ past) role l = while_open s past role l.1
while_open s (Held d ∷ past) role l = while_open s past role l.1
while_open s (Freed d ∷ past) role l = while_open s past role l.1

-- the commands that were accepted are command lines
lines_more : (qs : List Request) (q : Request) → AreCommandLines (map line_of qs) → refusal_of (line_of q) ≡ None → AreCommandLines (map line_of (qs ++ q ∷ []))
lines_more [] q h g = (g, tt)
lines_more (x ∷ qs) q h g = (h.0, lines_more qs q h.1 g)

-- where each command taken is a command line, so is each accepted on d
pub are_lines : (d : ℕ) (past : List Act) → TakesCommandLines past → AreCommandLines (map line_of (accepted Initiator d past))
are_lines d [] h = tt
are_lines d (Took q ∷ past) h = by_accepted (is_accepted Initiator d past q) refl (are_lines d past h.1)
  where
    by_accepted : (b : Bool) → is_accepted Initiator d past q ≡ b → AreCommandLines (map line_of (accepted Initiator d past))
        → AreCommandLines (map line_of (if b then accepted Initiator d past ++ q ∷ [] else accepted Initiator d past))
    by_accepted true e k = lines_more (accepted Initiator d past) q k (h.0 d (and_parts _ _ (and_parts _ _ e).1).0)
    by_accepted false e k = k
are_lines d (Got f ∷ past) h = if_opened (opens_here Initiator d past (Got f)) (accepted Initiator d past) (are_lines d past h)
  where
    if_opened : (b : Bool) (qs : List Request) → AreCommandLines (map line_of qs) → AreCommandLines (map line_of (if b then [] else qs))
    if_opened true qs k = tt
    if_opened false qs k = k
are_lines d (Sent f ∷ past) h = are_lines d past h
are_lines d (Told o ∷ past) h = are_lines d past h
are_lines d (Heard k e line ∷ past) h = are_lines d past h
are_lines d (Tick ∷ past) h = are_lines d past h
are_lines d (Lost ∷ past) h = are_lines d past h
are_lines d (Held e ∷ past) h = are_lines d past h
are_lines d (Freed e ∷ past) h = are_lines d past h
are_lines d (Given ∷ past) h = are_lines d past h

-- the lines that end in a frame are the commands that it makes whole
ended_are : (cs : List (List ℕ)) (out info : List ℕ) → AreCommandLines cs → IsPrefixOf out (concat (with_cr cs)) → IsPrefixOf (out ++ info) (concat (with_cr cs))
    → lines (kept_run out ++ info) ≡ drop (whole_in (length out) (with_cr cs)) (wholly_sent (length out + length info) cs)
unfolding AreReadAsSent
ended_are cs out info h p q =
    let before : lines out ≡ wholly_sent (length out) cs = read_whole cs out h p in
    let after : lines (out ++ info) ≡ wholly_sent (length out + length info) cs = read_whole cs (out ++ info) h q ∙ ap (λ (n : ℕ). wholly_sent n cs) (length-append out info) in
    append_cancel_left (wholly_sent (length out) cs) (lines (kept_run out ++ info)) (drop (whole_in (length out) (with_cr cs)) (wholly_sent (length out + length info) cs))
    (ap (λ (ls : List (List ℕ)). ls ++ lines (kept_run out ++ info)) (sym before) ∙ (sym ((reads_on out info).reads_kept) ∙ (after ∙ sym (whole_grows (length out) (length info) cs))))
  where
    read_whole : (ds : List (List ℕ)) (xs : List ℕ) → AreCommandLines ds → IsPrefixOf xs (concat (with_cr ds)) → lines xs ≡ wholly_sent (length xs) ds
    read_whole ds xs k r = are_read_as_sent ds xs k r

prefix_of : (s : Setting) (past : List Act) (d : ℕ) → s.role ≡ Initiator → Lawful s past → IsPrefixOf (information_sent Initiator d (wire past)) (concat (with_cr (map line_of (accepted Initiator d past))))
prefix_of s past d role l =
    subst (λ ts. IsPrefixOf (information_sent Initiator d (wire past)) (concat ts)) (texts_are (accepted Initiator d past))
    (subst (λ r. IsPrefixOf (information_sent r d (wire past)) (concat (texts (accepted r d past)))) role (leaves_once s past l d))

abbrev on_line : ℕ → List (List ℕ) → List (ℕ × List ℕ)
on_line d ls = map (λ l. (d, l)) ls

abbrev read_at : List Act → Frame → List (List ℕ)
read_at past f = lines (kept_run (info_in f.dlci (frames_sent (wire past))) ++ f.info)

abbrev whole_at : List Act → Frame → List (List ℕ)
whole_at past f = commands_ended Initiator f.dlci (map line_of (accepted Initiator f.dlci past)) (wire past) f

-- what a frame brings is what it makes whole
brings : (s : Setting) (past : List Act) (f : Frame) → s.role ≡ Initiator → Lawful s (Sent f ∷ past) → Lawful s past → TakesCommandLines past → AsksOnce (wire past)
    → lines_at (frames_sent (wire past)) f ≡ commands_with past f
brings s past f role l older h one = by_carry (carries f.dlci f) refl
  where
    by_carry : (c : Bool) → carries f.dlci f ≡ c → lines_at (frames_sent (wire past)) f ≡ commands_with past f
    by_carry false e =
        ap (λ (b : Bool). if b then on_line f.dlci (read_at past f) else []) e ∙ sym (ap (λ (b : Bool). if b && is_open Initiator f.dlci (wire past) then on_line f.dlci (whole_at past f) else []) e)
    by_carry true e =
        let opened : is_open Initiator f.dlci (wire past) ≡ true = (while_open s (Sent f ∷ past) role l).0 f.dlci e in
        let out = information_sent Initiator f.dlci (wire past) in
        let cs = map line_of (accepted Initiator f.dlci past) in
        let all : out ≡ info_in f.dlci (frames_sent (wire past)) = (asks_of f.dlci (wire past) (one f.dlci) (while_open s past role older)).all in
        let grown : information_sent Initiator f.dlci (station.Sent f ∷ wire past) ≡ out ++ f.info =
        sent_grows Initiator f.dlci (wire past) f ∙ (ap (λ (b : Bool). if b && is_open Initiator f.dlci (wire past) then out ++ f.info else out) e ∙ ap (λ (b : Bool). if b then out ++ f.info else out) opened) in
        let longer : IsPrefixOf (out ++ f.info) (concat (with_cr cs)) = subst (λ (xs : List ℕ). IsPrefixOf xs (concat (with_cr cs))) grown (prefix_of s (Sent f ∷ past) f.dlci role l) in
        let same : lines (kept_run out ++ f.info) ≡ whole_at past f = ended_are cs out f.info (are_lines f.dlci past h) (prefix_of s past f.dlci role older) longer in
        ap (λ (b : Bool). if b then on_line f.dlci (read_at past f) else []) e
        ∙ (ap (λ (xs : List ℕ). on_line f.dlci (lines (kept_run xs ++ f.info))) (sym all)
        ∙ (ap (on_line f.dlci) same
        ∙ sym (ap (λ (b : Bool). if b && is_open Initiator f.dlci (wire past) then on_line f.dlci (whole_at past f) else []) e ∙ ap (λ (b : Bool). if b then on_line f.dlci (whole_at past f) else []) opened)))

fewer_asked : (f : Frame) (w : List station.Act) → AsksOnce (station.Sent f ∷ w) → AsksOnce w
fewer_asked f w one d = asks_fewer d f (frames_sent w) (one d)

lines_sent : (s : Setting) (past : List Act) → s.role ≡ Initiator → Lawful s past → TakesCommandLines past → AsksOnce (wire past) → lines_in (frames_sent (wire past)) ≡ commands_sent past
unfolding Lawful
lines_sent s [] role l h one = refl
lines_sent s (Sent f ∷ past) role l h one =
    let before = fewer_asked f (wire past) one in
    ap (λ (ls : List (ℕ × List ℕ)). ls ++ lines_at (frames_sent (wire past)) f) (lines_sent s past role l.1 h before)
    ∙ ap (λ (ls : List (ℕ × List ℕ)). commands_sent past ++ ls) (brings s past f role l l.1 h before)
lines_sent s (Got f ∷ past) role l h one = lines_sent s past role l.1 h one
lines_sent s (Tick ∷ past) role l h one = lines_sent s past role l.1 h one
lines_sent s (Lost ∷ past) role l h one = lines_sent s past role l.1 h one
lines_sent s (Given ∷ past) role l h one = lines_sent s past role l.1 h one
lines_sent s (Took q ∷ past) role l h one = lines_sent s past role l.1 h.1 one
lines_sent s (Told o ∷ past) role l h one = lines_sent s past role l.1 h one
lines_sent s (Heard k d line ∷ past) role l h one = lines_sent s past role l.1 h one
lines_sent s (Held d ∷ past) role l h one = lines_sent s past role l.1 h one
lines_sent s (Freed d ∷ past) role l h one = lines_sent s past role l.1 h one

-- ## The law

-- a responder reads, in order, command lines that a lawful initiator wholly sent, where each connection is asked for once
pub reads_in_order : (s : Setting) (past : List Act) (responder : List station.Act) → ReadsInOrder s past responder
unfolding ReadsInOrder
reads_in_order s past responder role l h one comes =
    let gated = while_open s past role l in
    let ones = λ (d : ℕ). asks_older d comes.later (frames_got responder) (subst (AsksOne d) comes.sent_are (one d)) in
    let behinds = λ (d : ℕ). behind_older d comes.later (frames_got responder) (subst (ComesBehind d) comes.sent_are (sent_behind d (wire past) (one d) gated)) in
    let all : lines_in (comes.later ++ frames_got responder) ≡ commands_sent past = ap lines_in (sym comes.sent_are) ∙ lines_sent s past role l h one in
    subst (λ (ls : List (ℕ × List ℕ)). IsAmong (lines_got Responder responder) ls) all
    (among_then (lines_got Responder responder) (lines_in (frames_got responder)) (lines_in (comes.later ++ frames_got responder)) (lines_among responder ones behinds) (lines_later comes.later (frames_got responder)))
