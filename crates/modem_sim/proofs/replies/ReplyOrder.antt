-- What is said on a connection are the replies to the lines that came on it.
use Rattle.std.specs.Prelude.{◌≡◌, ℕ, ◌==◌, ◌&&◌, ◌||◌, not, Bool, true, false, List, [], ◌∷◌, ◌++◌, map, filter, refl, if◌then◌else◌}
use Rattle.std.proofs.Common.{sym, ap, ◌∙◌, append_assoc, append-nil, eqb-true}
use Rattle.std.proofs.lemmas.Bool.{and_parts}
use Rattle.std.proofs.lemmas.List.{map-append}
use Rattle.std.proofs.lemmas.List.Elements.{filter-append}
use Rattle.mux_frame.specs.Frames.{Frame}
use Rattle.mux_frame.specs.declared.frame.Kind.TheVariants.{Sabm}
use Rattle.mux_station.specs.declared.role.Role.TheVariants.{Responder}
use Rattle.mux_station.specs.Acts as station
use Rattle.mux_station.specs.Opening as opening
use Rattle.mux_station.specs.Opening.{opens_now, belongs, ends, is_open, is_asked}
use Rattle.mux_station.proofs.states.OpeningSteps.{is_open_after}
use Rattle.mux_station.specs.Offering.{data_out}
use Rattle.mux_station.specs.Written.{is_kind, is_on}
use Rattle.at_text.specs.Dialects.{standard, is_solicited}
use Rattle.at_text.specs.Lines.{lines, kept_run}
use Rattle.at_text.proofs.lines.UnfinishedLines.{reads_on}
use Rattle.modem_history.specs.Connections.{carries, lines_ended, lines_with}
use Rattle.modem_history.specs.TwoEnds.{frames_got}
use Rattle.modem_history.specs.Wholes.{IsPrefixOf}
use Rattle.modem_history.proofs.commands.FramesOnLine.{asked_first, asks_fewer, none_asked, sabm_carries_none}
use Rattle.modem_history.proofs.connections.InformationGrowth.{is_got, opens_none}
use Rattle.modem_sim.specs.declared.script.StepAct.TheVariants.{Announce, Flow, Hold, Disconnect, CloseDown}
use Rattle.modem_sim.specs.declared.state.ModemState.{ModemState}
use Rattle.modem_sim.specs.Laws.{after_lines}
use Rattle.modem_sim.specs.LineSteps.{step}
use Rattle.modem_sim.specs.Acts.{Act, Wire, Did, End, wire, is_open_at_modem}
use Rattle.modem_sim.specs.Heard.{heard, texts_of, modem_after}
use Rattle.modem_sim.specs.Pieces.{Piece, Announced, reply, replies, asked_for}
use Rattle.modem_sim.specs.Outboxes.{Outbox, empty_box, outbox, dropped, said_after, replies_by, replies_after, replies_since}
use Rattle.modem_sim.specs.Replied.{IsAskedOnce, SendsReplies, all_of, replied_on, text_of, written_for}
use Rattle.modem_sim.proofs.law_proofs.Histories.{leaves_in_pieces}
use Rattle.modem_sim.proofs.connections.Outboxes.{says_replies, asked_for-append}
use Rattle.modem_sim.proofs.replies.PieceLines.{lines_said, asked_lines, says_sound}

-- ## Beginnings

module _ {A : Type 0} where
  all_first : (xs : List A) → IsPrefixOf xs xs
  all_first xs = record { rest = []; joins = append-nil xs }

  first_more : (xs ys zs : List A) → IsPrefixOf xs ys → IsPrefixOf xs (ys ++ zs)
  first_more xs ys zs is = record { rest = is.rest ++ zs; joins = sym (append_assoc xs is.rest zs) ∙ ap (λ x. x ++ zs) is.joins }

-- ## What is said is a beginning of the replies

one_announced : (here : Bool) (line : List ℕ) (b : Outbox) → asked_for (if here then record { said = b.said ++ Announced line ∷ []; held = b.held } else b).said ≡ asked_for b.said
one_announced true line b = asked_for-append b.said (Announced line ∷ []) ∙ append-nil (asked_for b.said)
one_announced false line b = refl

same_first : (xs ys zs : List Piece) → xs ≡ ys → IsPrefixOf ys zs → IsPrefixOf xs zs
same_first xs ys zs same is = record { rest = is.rest; joins = ap (λ x. x ++ is.rest) same ∙ is.joins }

replies_more : (e : End) (d : ℕ) (past : List Act) (a : station.Act) (xs old : List Piece) → IsPrefixOf xs old → IsPrefixOf xs (replies_after e d past a old)
replies_more e d past (station.Got f) xs old is = first_more xs old (replies_by e d past f) is
replies_more e d past (station.Called c) xs old is = is
replies_more e d past (station.Sent f) xs old is = is
replies_more e d past station.Tick xs old is = is
replies_more e d past station.Lost xs old is = is
replies_more e d past station.Given xs old is = is

shut_first : (e : End) (d : ℕ) (past : List Act) (a : station.Act) (b : Outbox) (old : List Piece) (opens there : Bool) → (opens || there) ≡ false → IsPrefixOf (asked_for b.said) old
    → IsPrefixOf (asked_for (if opens then empty_box else if there && not opens then said_after e d past a b else dropped b).said) (if opens then [] else replies_after e d past a old)
shut_first e d past a b old true there shut is = cc
shut_first e d past a b old false true shut is = cc
shut_first e d past a b old false false shut is = replies_more e d past a (asked_for b.said) old is

-- what is said on d, without what is announced, is the beginning of the replies since d opened
pub says_first : (e : End) (past : List Act) (d : ℕ) → IsPrefixOf (asked_for (outbox e d past).said) (replies_since e d past)
says_first e [] d = all_first []
says_first e (Did (Announce x line) ∷ past) d = same_first _ (asked_for (outbox e d past).said) (replies_since e d past) (one_announced (x.number == d) line (outbox e d past)) (says_first e past d)
says_first e (Did (Flow x go) ∷ past) d = says_first e past d
says_first e (Did (Hold x y) ∷ past) d = says_first e past d
says_first e (Did (Disconnect x) ∷ past) d = says_first e past d
says_first e (Did CloseDown ∷ past) d = says_first e past d
says_first e (Wire a ∷ past) d = by_open (is_open_at_modem d (Wire a ∷ past)) refl (says_first e past d)
  where
    by_open : (b : Bool) → is_open_at_modem d (Wire a ∷ past) ≡ b → IsPrefixOf (asked_for (outbox e d past).said) (replies_since e d past) → IsPrefixOf (asked_for (outbox e d (Wire a ∷ past)).said) (replies_since e d (Wire a ∷ past))
    by_open true is before = record { rest = asked_for (outbox e d (Wire a ∷ past)).held; joins = says_replies e (Wire a ∷ past) d is }
    by_open false is before =
        shut_first e d past a (outbox e d past) (replies_since e d past) (opens_now Responder d (wire past) a) (belongs Responder d (wire past) a)
        (sym (is_open_after Responder d (wire past) a) ∙ is) before

-- ## The replies to all lines

-- replies to lines behind others are those of the modem that those leave
pub replied_on-append : (echo : Bool) (d : ℕ) (m : ModemState) (xs ys : List (ℕ × List ℕ)) → replied_on echo d m (xs ++ ys) ≡ replied_on echo d m xs ++ replied_on echo d (after_lines m (texts_of xs)) ys
replied_on-append echo d m [] ys = refl
replied_on-append echo d m (p ∷ xs) ys =
    ap (λ x. (if p.0 == d then written_for echo m p.1 ∷ [] else []) ++ x) (replied_on-append echo d (step m p.1).state xs ys)
    ∙ sym (append_assoc (if p.0 == d then written_for echo m p.1 ∷ [] else []) (replied_on echo d (step m p.1).state xs) (replied_on echo d (after_lines (step m p.1).state (texts_of xs)) ys))

-- the lines of two lists of replies are those of both
pub all-append : (xs ys : List (List (List ℕ))) → all_of (xs ++ ys) ≡ all_of xs ++ all_of ys
all-append [] ys = refl
all-append (x ∷ xs) ys = ap (λ z. x ++ z) (all-append xs ys) ∙ sym (append_assoc x (all_of xs) (all_of ys))

-- those to lines of one connection
replied_there : (echo here : Bool) (m : ModemState) (line : List ℕ) (rest : List (List (List ℕ))) (more : List Piece) → all_of rest ≡ map text_of (if here then more else []) → all_of ((if here then written_for echo m line ∷ [] else []) ++ rest) ≡ map text_of (if here then reply echo m line ++ more else [])
replied_there echo true m line rest more is = ap (λ x. written_for echo m line ++ x) is ∙ sym (map-append text_of (reply echo m line) more)
replied_there echo false m line rest more is = is

replied_one : (echo : Bool) (d n : ℕ) (m : ModemState) (ls : List (List ℕ)) → all_of (replied_on echo d m (map (λ l. (n, l)) ls)) ≡ map text_of (if n == d then replies echo m ls else [])
replied_one echo d n m [] = none (n == d)
  where
    none : (b : Bool) → [] ≡ map text_of (if b then [] else [])
    none true = refl
    none false = refl
replied_one echo d n m (line ∷ ls) =
    replied_there echo (n == d) m line (replied_on echo d (step m line).state (map (λ l. (n, l)) ls)) (replies echo (step m line).state ls) (replied_one echo d n (step m line).state ls)

texts_one : (n : ℕ) (ls : List (List ℕ)) → texts_of (map (λ l. (n, l)) ls) ≡ ls
texts_one n [] = refl
texts_one n (l ∷ ls) = ap (λ x. l ∷ x) (texts_one n ls)

replied_some : (echo some : Bool) (d n : ℕ) (m : ModemState) (ls : List (List ℕ)) → all_of (replied_on echo d m (if some then map (λ l. (n, l)) ls else [])) ≡ map text_of (if n == d then replies echo m (texts_of (if some then map (λ l. (n, l)) ls else [])) else [])
replied_some echo true d n m ls = replied_one echo d n m ls ∙ ap (λ x. map text_of (if n == d then replies echo m x else [])) (sym (texts_one n ls))
replied_some echo false d n m ls = replied_one echo d n m []

-- while no SABM came on d it isn't open
no_sabm : (b : Bool) (zero i e : Bool) → b ≡ false → i ≡ false → ((b && zero) || (i && not e)) ≡ false
no_sabm true zero i e is was = cc
no_sabm false zero true e is was = cc
no_sabm false zero false e is was = refl

idle_shut : (o i e : Bool) → o ≡ false → i ≡ false → (o || (i && not e)) ≡ false
idle_shut true i e is was = cc
idle_shut false true e is was = cc
idle_shut false false e is was = refl

abbrev zero_open : ℕ → List station.Act → Bool
zero_open d past = is_open Responder 0 past

idle : (d : ℕ) (past : List station.Act) (a : station.Act) → is_got a ≡ false → opening.is_open Responder d past ≡ false → opening.is_open Responder d (a ∷ past) ≡ false
idle d past a other was = is_open_after Responder d past a ∙ idle_shut (opens_now Responder d past a) (opening.is_open Responder d past) (ends (zero_open d past) d a) (opens_none Responder (zero_open d past) (is_asked Responder d past) d a other) was

shut_before : (d : ℕ) (past : List station.Act) → filter (is_on Sabm d) (frames_got past) ≡ [] → opening.is_open Responder d past ≡ false
shut_before d [] none = refl
shut_before d (station.Got f ∷ past) none =
    let parts = none_asked d f (frames_got past) (is_on Sabm d f) refl none in
    is_open_after Responder d past (station.Got f)
    ∙ no_sabm (is_on Sabm d f) ((d == 0) || zero_open d past) (opening.is_open Responder d past) (ends (zero_open d past) d (station.Got f)) parts.0 (shut_before d past parts.1)
shut_before d (station.Sent f ∷ past) none = idle d past (station.Sent f) refl (shut_before d past none)
shut_before d (station.Called c ∷ past) none = idle d past (station.Called c) refl (shut_before d past none)
shut_before d (station.Tick ∷ past) none = idle d past station.Tick refl (shut_before d past none)
shut_before d (station.Lost ∷ past) none = idle d past station.Lost refl (shut_before d past none)
shut_before d (station.Given ∷ past) none = idle d past station.Given refl (shut_before d past none)

-- where a connection isn't open no line comes on it
none_with : (e : End) (d : ℕ) (past : List Act) (f : Frame) (m : ModemState) → (f.dlci ≡ d → is_open_at_modem d past ≡ false) → all_of (replied_on e.echo d m (lines_with Responder (wire past) f)) ≡ []
none_with e d past f m shut =
    replied_some e.echo (carries f.dlci f && is_open_at_modem f.dlci past) d f.dlci m (lines_ended Responder f.dlci (wire past) f) ∙ by_here (f.dlci == d) refl
  where
    texts : List (List ℕ)
    texts = texts_of (lines_with Responder (wire past) f)

    closed : (b c : Bool) → c ≡ false → texts_of (if b && c then map (λ l. (f.dlci, l)) (lines_ended Responder f.dlci (wire past) f) else []) ≡ []
    closed true c is = ap (λ (x : Bool). texts_of (if x then map (λ l. (f.dlci, l)) (lines_ended Responder f.dlci (wire past) f) else [])) is
    closed false c is = refl

    by_here : (b : Bool) → (f.dlci == d) ≡ b → map text_of (if b then replies e.echo m texts else []) ≡ []
    by_here true is =
        let same : f.dlci ≡ d = eqb-true f.dlci d is in
        let there : is_open_at_modem f.dlci past ≡ false = ap (λ n. is_open_at_modem n past) same ∙ shut same in
        ap (λ x. map text_of (replies e.echo m x)) (closed (carries f.dlci f) (is_open_at_modem f.dlci past) there)
    by_here false is = refl

both_none : (xs ys : List (List ℕ)) → xs ≡ [] → ys ≡ [] → xs ++ ys ≡ []
both_none xs ys first second = ap (λ x. x ++ ys) first ∙ second

none_before : (e : End) (d : ℕ) (past : List Act) → filter (is_on Sabm d) (frames_got (wire past)) ≡ [] → all_of (replied_on e.echo d e.modem (heard past)) ≡ []
none_before e d [] none = refl
none_before e d (Did step ∷ past) none = none_before e d past none
none_before e d (Wire (station.Got f) ∷ past) none =
    let before = (none_asked d f (frames_got (wire past)) (is_on Sabm d f) refl none).1 in
    let more = lines_with Responder (wire past) f in
    ap all_of (replied_on-append e.echo d e.modem (heard past) more)
    ∙ all-append (replied_on e.echo d e.modem (heard past)) (replied_on e.echo d (modem_after e past) more)
    ∙ both_none _ _ (none_before e d past before) (none_with e d past f (modem_after e past) (λ same. shut_before d (wire past) before))
none_before e d (Wire (station.Sent f) ∷ past) none = none_before e d past none
none_before e d (Wire (station.Called c) ∷ past) none = none_before e d past none
none_before e d (Wire station.Tick ∷ past) none = none_before e d past none
none_before e d (Wire station.Lost ∷ past) none = none_before e d past none
none_before e d (Wire station.Given ∷ past) none = none_before e d past none

-- a SABM brings no line
none_in_sabm : (e : End) (d : ℕ) (past : List Act) (f : Frame) (m : ModemState) → is_on Sabm d f ≡ true → all_of (replied_on e.echo d m (lines_with Responder (wire past) f)) ≡ []
none_in_sabm e d past f m is =
    let same : f.dlci ≡ d = eqb-true f.dlci d (and_parts (is_kind f.kind Sabm) (f.dlci == d) is).1 in
    let own : is_on Sabm f.dlci f ≡ true = ap (λ n. is_on Sabm n f) same ∙ is in
    let bare : carries f.dlci f ≡ false = sabm_carries_none f.dlci f (carries f.dlci f) refl own in
    ap (λ (b : Bool). all_of (replied_on e.echo d m (if b && is_open_at_modem f.dlci past then map (λ l. (f.dlci, l)) (lines_ended Responder f.dlci (wire past) f) else []))) bare

abbrev old_all : End → ℕ → List Act → List (List ℕ)
old_all e d past = all_of (replied_on e.echo d e.modem (heard past))

abbrev new_all : End → ℕ → List Act → Frame → List (List ℕ)
new_all e d past f = all_of (replied_on e.echo d (modem_after e past) (lines_with Responder (wire past) f))

more_are : (e : End) (d : ℕ) (past : List Act) (f : Frame) → map text_of (replies_since e d past) ≡ old_all e d past → map text_of (replies_since e d past ++ replies_by e d past f) ≡ old_all e d past ++ new_all e d past f
more_are e d past f before =
    map-append text_of (replies_since e d past) (replies_by e d past f)
    ∙ ap (λ x. x ++ map text_of (replies_by e d past f)) before
    ∙ ap (λ x. old_all e d past ++ x) (sym (replied_some e.echo (carries f.dlci f && is_open_at_modem f.dlci past) d f.dlci (modem_after e past) (lines_ended Responder f.dlci (wire past) f)))

by_opens : (e : End) (d : ℕ) (past : List Act) (f : Frame) → IsAskedOnce d (Wire (station.Got f) ∷ past) → (b z : Bool) → is_on Sabm d f ≡ b → map text_of (replies_since e d past) ≡ old_all e d past → map text_of (if b && z then [] else replies_since e d past ++ replies_by e d past f) ≡ old_all e d past ++ new_all e d past f
by_opens e d past f once true true is before =
    sym (both_none _ _ (none_before e d past (asked_first d f (frames_got (wire past)) once is)) (none_in_sabm e d past f (modem_after e past) is))
by_opens e d past f once true false is before = more_are e d past f before
by_opens e d past f once false z is before = more_are e d past f before

-- the replies since a connection opened are those to all its lines, where it is asked for once
pub since_are : (e : End) (d : ℕ) (past : List Act) → IsAskedOnce d past → map text_of (replies_since e d past) ≡ all_of (replied_on e.echo d e.modem (heard past))
since_are e d [] once = refl
since_are e d (Did step ∷ past) once = since_are e d past once
since_are e d (Wire (station.Got f) ∷ past) once =
    by_opens e d past f once (is_on Sabm d f) ((d == 0) || zero_open d (wire past)) refl (since_are e d past (asks_fewer d f (frames_got (wire past)) once))
    ∙ sym (ap all_of (replied_on-append e.echo d e.modem (heard past) (lines_with Responder (wire past) f))
    ∙ all-append (replied_on e.echo d e.modem (heard past)) (replied_on e.echo d (modem_after e past) (lines_with Responder (wire past) f)))
since_are e d (Wire (station.Sent f) ∷ past) once = since_are e d past once
since_are e d (Wire (station.Called c) ∷ past) once = since_are e d past once
since_are e d (Wire station.Tick ∷ past) once = since_are e d past once
since_are e d (Wire station.Lost ∷ past) once = since_are e d past once
since_are e d (Wire station.Given ∷ past) once = since_are e d past once

-- ## All together

filtered_first : (xs later ys : List (List ℕ)) → xs ++ later ≡ ys → IsPrefixOf (filter (is_solicited standard) xs) (filter (is_solicited standard) ys)
filtered_first xs later ys joins = record { rest = filter (is_solicited standard) later; joins = sym (filter-append (is_solicited standard) xs later) ∙ ap (filter (is_solicited standard)) joins }

-- what left on a connection that was asked for once is, without unsolicited lines, the beginning of its replies
pub sends_replies : (e : End) (past : List Act) → SendsReplies e past
unfolding SendsReplies
sends_replies e past lawful modem un d once =
    let said = (outbox e d past).said in
    let left = leaves_in_pieces e past lawful d in
    let sound = (says_sound e modem past lawful.acts un d).said in
    let read : lines (data_out Responder d (wire past)) ++ lines (kept_run (data_out Responder d (wire past)) ++ left.rest) ≡ map text_of said =
    sym (reads_on (data_out Responder d (wire past)) left.rest).reads_kept ∙ ap lines left.joins ∙ lines_said said sound in
    let first = filtered_first (lines (data_out Responder d (wire past))) _ (map text_of said) read in
    let told = says_first e past d in
    let texts : map text_of (asked_for said) ++ map text_of told.rest ≡ all_of (replied_on e.echo d e.modem (heard past)) =
    sym (map-append text_of (asked_for said) told.rest) ∙ ap (map text_of) told.joins ∙ since_are e d past once in
    let second = filtered_first (map text_of (asked_for said)) _ (all_of (replied_on e.echo d e.modem (heard past))) texts in
    record {
      rest = first.rest ++ second.rest;
      joins = sym (append_assoc (filter (is_solicited standard) (lines (data_out Responder d (wire past)))) first.rest second.rest)
          ∙ ap (λ x. x ++ second.rest) (first.joins ∙ asked_lines said sound)
          ∙ second.joins;
    }
