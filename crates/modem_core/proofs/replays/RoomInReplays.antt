-- A replay never meets want of room.
use Rattle.std.specs.Prelude.{◌≡◌, ℕ, ◌≤◌, ◌==◌, ◌&&◌, ◌||◌, not, nat_le, nat_lt, Bool, true, false, List, [], ◌∷◌, ◌++◌, length, drop, map, refl, Option, None, Some, filter_map, option_map, if◌then◌else◌}
use Rattle.std.specs.List.{cons_option, list_all, list_any}
use Rattle.std.specs.Str.{bytes_eq}
use Rattle.std.proofs.Common.{ap, sym, ◌∙◌, arith}
use Rattle.std.proofs.lemmas.Bool.{and_parts, ltb-false}
use Rattle.std.proofs.lemmas.List.Folds.{list_any-append}
use Rattle.mux_frame.specs.Frames.{Frame}
use Rattle.mux_frame.specs.Reading.{Reads, no_flag, fill, frame, cut_short, other}
use Rattle.mux_frame.specs.Spelling.{most_info}
use Rattle.mux_station.specs.declared.role.Role.TheVariants.{Initiator}
use Rattle.mux_station.specs.States.{State, IsShut, IsOpening, IsOpened, IsClosing, IsStopping, is_opened, is_shut, is_stopping, state_of}
use Rattle.mux_station.specs.Tables.{by_frame, by_tick, have_room, octets_of}
use Rattle.mux_station.specs.Messages.{Message, command_of, message_in, nsc, test}
use Rattle.mux_station.specs.Sending.{names_test, queue}
use Rattle.mux_station.specs.Written.{is_data_frame}
use Rattle.at_text.specs.declared.unsolicited.UrcKind.TheVariants.{Other}
use Rattle.at_text.specs.declared.window.Seen as line_is
use Rattle.at_text.specs.declared.window.Seen.TheVariants.{Echo, Kept, Unsolicited}
use Rattle.at_text.specs.Windows.{Mark, Line}
use Rattle.at_text.specs.Lines.{lines}
use Rattle.at_text.specs.Seeing.{seen_after}
use Rattle.modem_desk.specs.declared.request.Ask.{Ask}
use Rattle.modem_desk.specs.declared.request.Ask.TheVariants.{OpenChannel, CloseChannel, Command, Probe, Stop}
use Rattle.modem_desk.specs.declared.request.Request.{Request}
use Rattle.modem_desk.specs.declared.request.Answer.{Answer}
use Rattle.modem_desk.specs.declared.request.Answer.TheVariants.{Shut, ProbeBack, NotOpen, AlreadyOpen, Refused, NoAnswer, Closed, ControlChannel, LineLost, Busy}
use Rattle.modem_history.specs.Acts.{Act, Took, Got, Sent, Told, Heard, Tick, Lost, Held, Freed, Given, after, told, wire}
use Rattle.modem_history.specs.Calls.{Setting, HistoryView, all_have_room, asking, replaying, seen, frames, calls, refused_ask, at_once, cause, open_later, close_later, stop_ended, probe_answer, probe_later, later, told_later, tolds, by_seen, by_lines, lines_said, first_on, said_of, said_at_once, states_now, probe_waits}
use Rattle.modem_history.specs.Lawful.{Lawful, Complete, IsNext, When, Allows, owed}
use Rattle.modem_history.specs.Wholes.{is_first, is_said}
use Rattle.modem_core.specs.declared.event.Event.{Event}
use Rattle.modem_core.specs.Replays.{Piece, first_of, after_call, with_piece, marks_for, IsPiece, ArePieces, BegunBy, ends, asks, hears, ticks, loses, Replays}
use Rattle.modem_core.specs.Room.{AllFits, BeginEmpty, EachBeginsEmpty, FindRoom, FindsRoom, NeverWantsRoom, is_busy_by, is_under_way, probe_size, says_busy, tells_busy}
use Rattle.modem_core.specs.ReplayRows.{WantsRoom, busy_again, busy_at_first, full_queue, test_comes, while_opening}
use Rattle.modem_core.proofs.replays.EmptyQueues.{begin_empty, fits_empty}
use Rattle.modem_core.proofs.replays.FirstActs.{brought_first}
use Rattle.modem_core.proofs.sessions.steps.OutcomeCounts.{lawful_front}

out : {P : Type 0} → false ≡ true → P
out e = cc

-- ## What follows in a piece is called for

next_then : (owing : List Act) (a : Act) (rest : List Act) → IsNext owing a → drop 1 owing ≡ rest → owing ≡ a ∷ rest
next_then owing a rest n h = n.is_next ∙ ap (λ (xs : List Act). a ∷ xs) (sym (ap (drop 1) n.is_next) ∙ h)

sent_then : (b : Bool) (owing : List Act) (f : Frame) (rest : List Act) → not b ≡ true → When (not b) (IsNext owing (Sent f)) → (if b then owing else drop 1 owing) ≡ rest → owing ≡ Sent f ∷ rest
sent_then false owing f rest e n h = next_then owing (Sent f) rest n h
sent_then true owing f rest e n h = out e

allowed : (s : Setting) (past : List Act) (a : Act) → Lawful s (a ∷ past) → Allows s past (owed s past) a
unfolding Lawful
allowed s past a l = l.0

-- what stands there is the beginning of what was owed
stands_owed : (s : Setting) (acts past : List Act) → list_all is_said acts ≡ true → Lawful s (after past acts) → owed s past ≡ acts ++ owed s (after past acts)
stands_owed s [] past h l = refl
stands_owed s (Sent f ∷ acts) past h l =
    let parts = and_parts (not (is_data_frame f)) (list_all is_said acts) h in
    let here = allowed s past (Sent f) (lawful_front s acts (Sent f ∷ past) l) in
    sent_then (is_data_frame f) (owed s past) f (acts ++ owed s (after (Sent f ∷ past) acts)) parts.0 here.controlled (stands_owed s acts (Sent f ∷ past) parts.1 l)
stands_owed s (Told o ∷ acts) past h l =
    next_then (owed s past) (Told o) (acts ++ owed s (after (Told o ∷ past) acts)) (allowed s past (Told o) (lawful_front s acts (Told o ∷ past) l)).answered (stands_owed s acts (Told o ∷ past) h l)
stands_owed s (Heard k d line ∷ acts) past h l =
    next_then (owed s past) (Heard k d line) (acts ++ owed s (after (Heard k d line ∷ past) acts)) (allowed s past (Heard k d line) (lawful_front s acts (Heard k d line ∷ past) l)).heard (stands_owed s acts (Heard k d line ∷ past) h l)
stands_owed s (Took q ∷ acts) past h l = out h
stands_owed s (Got f ∷ acts) past h l = out h
stands_owed s (Tick ∷ acts) past h l = out h
stands_owed s (Lost ∷ acts) past h l = out h
stands_owed s (Held d ∷ acts) past h l = out h
stands_owed s (Freed d ∷ acts) past h l = out h
stands_owed s (Given ∷ acts) past h l = out h

-- where nothing was owed, all that is owed then is what the act calls for
owed_first : (s : Setting) (past : List Act) (a : Act) → is_first a ≡ true → owed s past ≡ [] → owed s (a ∷ past) ≡ calls s past a
owed_first s past (Took q) f e = rw e refl
owed_first s past (Got g) f e = rw e refl
owed_first s past Tick f e = rw e refl
owed_first s past Lost f e = rw e refl
owed_first s past (Held d) f e = rw e refl
owed_first s past (Freed d) f e = rw e refl
owed_first s past (Sent g) f e = out f
owed_first s past (Told o) f e = out f
owed_first s past (Heard k d line) f e = out f
owed_first s past Given f e = out f

complete_owed : (s : Setting) (past : List Act) → Complete s past → owed s past ≡ []
unfolding Complete
complete_owed s past c = c

-- where Busy is told in a piece, its first act calls for it
called_busy : (s : Setting) (past : List Act) (p : Piece) → is_first p.first ≡ true → owed s past ≡ [] → IsPiece s past p → list_any tells_busy p.more ≡ true → list_any tells_busy (calls s past p.first) ≡ true
called_busy s past p f none k busy =
    let marked : Lawful s (after_call past p) = lawful_front s (map Sent p.data_frames) (after_call past p) k.keeps.lawful in
    let call : Lawful s (after (p.first ∷ past) p.more) = lawful_front s (marks_for p.more) (after past (p.first ∷ p.more)) marked in
    let left = owed s (after (p.first ∷ past) p.more) in
    let all : calls s past p.first ≡ p.more ++ left = sym (owed_first s past p.first f none) ∙ stands_owed s p.more (p.first ∷ past) k.follow call in
    ap (list_any tells_busy) all ∙ (list_any-append tells_busy p.more left ∙ ap (λ (b : Bool). b || list_any tells_busy left) busy)

-- ## What is called for tells Busy at once alone

both_none : (xs ys : List Act) → list_any tells_busy xs ≡ false → list_any tells_busy ys ≡ false → list_any tells_busy (xs ++ ys) ≡ false
both_none xs ys h k = list_any-append tells_busy xs ys ∙ (ap (λ (b : Bool). b || list_any tells_busy ys) h ∙ k)

sent_none : (fs : List Frame) → list_any tells_busy (map Sent fs) ≡ false
sent_none [] = refl
sent_none (f ∷ fs) = sent_none fs

seen_none : (s : Setting) (d : ℕ) (owner : Option Request) (line : List ℕ) (x : line_is.Seen) → list_any tells_busy (by_seen s d owner line x) ≡ false
seen_none s d owner line Echo = refl
seen_none s d owner line Kept = refl
seen_none s d None line (line_is.TheVariants.Done ls) = refl
seen_none s d (Some r) line (line_is.TheVariants.Done ls) = refl
seen_none s d owner line (Unsolicited kind) = by_kind (s.listens kind)
  where
    by_kind : (b : Bool) → list_any tells_busy (if b then Heard kind d line ∷ [] else []) ≡ false
    by_kind true = refl
    by_kind false = refl
seen_none s d owner line line_is.TheVariants.Other = by_kind (s.listens Other)
  where
    by_kind : (b : Bool) → list_any tells_busy (if b then Heard Other d line ∷ [] else []) ≡ false
    by_kind true = refl
    by_kind false = refl

lines_none : (s : Setting) (d : ℕ) (owner : Option Request) (ms : List Mark) (ls : List (List ℕ)) → list_any tells_busy (by_lines s d owner ms ls) ≡ false
lines_none s d owner ms [] = refl
lines_none s d owner ms (line ∷ rest) =
    both_none (by_seen s d owner line (seen_after s.dialect ms line)) (by_lines s d owner (ms ++ Line line ∷ []) rest) (seen_none s d owner line (seen_after s.dialect ms line)) (lines_none s d owner (ms ++ Line line ∷ []) rest)

said_lines_none : (s : Setting) (v : HistoryView) (a : Act) → list_any tells_busy (lines_said s v a) ≡ false
said_lines_none s v (Got f) = by_test (is_opened (v.state f.dlci) && is_data_frame f)
  where
    said : List Act
    said = by_lines s f.dlci (first_on f.dlci v.waiting) (v.marks f.dlci) (lines (v.run f.dlci ++ f.info))

    by_test : (b : Bool) → list_any tells_busy (if b then by_lines s f.dlci (first_on f.dlci v.waiting) (v.marks f.dlci) (lines (v.run f.dlci ++ f.info)) else []) ≡ false
    by_test true = lines_none s f.dlci (first_on f.dlci v.waiting) (v.marks f.dlci) (lines (v.run f.dlci ++ f.info))
    by_test false = refl
said_lines_none s v (Took q) = refl
said_lines_none s v (Sent f) = refl
said_lines_none s v (Told o) = refl
said_lines_none s v (Heard k d line) = refl
said_lines_none s v Tick = refl
said_lines_none s v Lost = refl
said_lines_none s v (Held d) = refl
said_lines_none s v (Freed d) = refl
said_lines_none s v Given = refl

-- ## No one that waits is told Busy

abbrev busy_in : Option Answer → Bool
busy_in None = false
busy_in (Some answer) = says_busy answer

if_closed : (b : Bool) (why : Answer) → says_busy why ≡ false → says_busy (if b then Closed else why) ≡ false
if_closed true why h = refl
if_closed false why h = h

cause_none : (v : HistoryView) (now : ℕ → State) (a : Act) (why : Answer) → says_busy why ≡ false → says_busy (cause v now a why) ≡ false
cause_none v now Lost why h = refl
cause_none v now Tick why h = if_closed (is_opened (v.state 0) && not (is_opened (now 0))) NoAnswer refl
cause_none v now (Took q) why h = if_closed (is_opened (v.state 0) && not (is_opened (now 0))) why h
cause_none v now (Got f) why h = if_closed (is_opened (v.state 0) && not (is_opened (now 0))) why h
cause_none v now (Sent f) why h = if_closed (is_opened (v.state 0) && not (is_opened (now 0))) why h
cause_none v now (Told o) why h = if_closed (is_opened (v.state 0) && not (is_opened (now 0))) why h
cause_none v now (Heard k d line) why h = if_closed (is_opened (v.state 0) && not (is_opened (now 0))) why h
cause_none v now (Held d) why h = if_closed (is_opened (v.state 0) && not (is_opened (now 0))) why h
cause_none v now (Freed d) why h = if_closed (is_opened (v.state 0) && not (is_opened (now 0))) why h
cause_none v now Given why h = if_closed (is_opened (v.state 0) && not (is_opened (now 0))) why h

open_none : (st : State) (why : Answer) → says_busy why ≡ false → busy_in (open_later st why) ≡ false
open_none IsOpened why h = refl
open_none (IsOpening n) why h = refl
open_none IsShut why h = h
open_none (IsClosing n) why h = h
open_none (IsStopping n) why h = h

close_none : (st : State) (why : Answer) → says_busy why ≡ false → busy_in (close_later st why) ≡ false
close_none (IsClosing n) why h = refl
close_none IsOpened why h = h
close_none (IsOpening n) why h = h
close_none IsShut why h = h
close_none (IsStopping n) why h = h

if_none : (b : Bool) (x y : Option Answer) → busy_in x ≡ false → busy_in y ≡ false → busy_in (if b then x else y) ≡ false
if_none true x y h k = h
if_none false x y h k = k

answer_none : (octets : List ℕ) (m : Option Message) → busy_in (probe_answer octets m) ≡ false
answer_none octets None = refl
answer_none octets (Some m) =
    if_none ((command_of m.octet == test) && bytes_eq m.value octets) (Some ProbeBack) (if (command_of m.octet == nsc) && names_test m.value then Some Refused else None) refl
    (if_none ((command_of m.octet == nsc) && names_test m.value) (Some Refused) None refl refl)

probe_none : (r : Request) (octets : List ℕ) (v : HistoryView) (a : Act) → busy_in (probe_later r octets v a) ≡ false
probe_none r octets v (Got f) = answer_none octets (message_in f)
probe_none r octets v Tick = if_none (v.ticks r == 3) (Some NoAnswer) None refl refl
probe_none r octets v (Took q) = refl
probe_none r octets v (Sent f) = refl
probe_none r octets v (Told o) = refl
probe_none r octets v (Heard k d line) = refl
probe_none r octets v Lost = refl
probe_none r octets v (Held d) = refl
probe_none r octets v (Freed d) = refl
probe_none r octets v Given = refl

stop_none : (a : Act) → says_busy (stop_ended a) ≡ false
stop_none Lost = refl
stop_none Tick = refl
stop_none (Took q) = refl
stop_none (Got f) = refl
stop_none (Sent f) = refl
stop_none (Told o) = refl
stop_none (Heard k d line) = refl
stop_none (Held d) = refl
stop_none (Freed d) = refl
stop_none Given = refl

later_none : (v : HistoryView) (now : ℕ → State) (a : Act) (r : Request) (ask : Ask) → busy_in (later v now a r ask) ≡ false
later_none v now a r (OpenChannel d) = open_none (now d.number) (cause v now a Refused) (cause_none v now a Refused refl)
later_none v now a r (CloseChannel d) = close_none (now d.number) (cause v now a Shut) (cause_none v now a Shut refl)
later_none v now a r (Command d line) = if_none (is_opened (now d.number)) None (Some (cause v now a Closed)) refl (cause_none v now a Closed refl)
later_none v now a r (Probe octets) = if_none (is_opened (now 0)) (probe_later r octets v a) (Some (cause v now a Closed)) (probe_none r octets v a) (cause_none v now a Closed refl)
later_none v now a r Stop = if_none (is_stopping (now 0)) None (Some (stop_ended a)) refl (stop_none a)

tolds_none : (v : HistoryView) (now : ℕ → State) (a : Act) (rs : List Request) → list_any tells_busy (filter_map (told_later v now a) rs) ≡ false
tolds_none v now a [] = refl
tolds_none v now a (r ∷ rs) = by_answer (later v now a r r.ask) (later_none v now a r r.ask) (tolds_none v now a rs)
  where
    by_answer : (o : Option Answer) → busy_in o ≡ false → list_any tells_busy (filter_map (told_later v now a) rs) ≡ false → list_any tells_busy (cons_option (option_map (told r) o) (filter_map (told_later v now a) rs)) ≡ false
    by_answer None h rest = rest
    by_answer (Some answer) h rest = ap (λ (b : Bool). b || list_any tells_busy (filter_map (told_later v now a) rs)) h ∙ rest

-- ## What a request is told at once

or_left : (x y : Bool) → x ≡ true → (x || y) ≡ true
or_left true y h = refl
or_left false y h = out h

open_by : (a b c r : Bool) → r ≡ true → busy_in (if a then Some NotOpen else if b then Some AlreadyOpen else if not (c && r) then Some Busy else None) ≡ true → not c ≡ true
open_by true b c r e h = out h
open_by false true c r e h = out h
open_by false false false r e h = refl
open_by false false true true e h = out h
open_by false false true false e h = out e

close_by : (a b c r : Bool) → r ≡ true → busy_in (if a then Some ControlChannel else if b then Some NotOpen else if not (c && r) then Some Busy else None) ≡ true → not c ≡ true
close_by true b c r e h = out h
close_by false true c r e h = out h
close_by false false false r e h = refl
close_by false false true true e h = out h
close_by false false true false e h = out e

probe_by : (a c r : Bool) → r ≡ true → busy_in (if a then Some NotOpen else if c || not r then Some Busy else None) ≡ true → c ≡ true
probe_by true c r e h = out h
probe_by false true r e h = refl
probe_by false false true e h = out h
probe_by false false false e h = out e

stop_by : (a r : Bool) → r ≡ true → busy_in (if a then Some NotOpen else if not r then Some Busy else None) ≡ true → ⊥
stop_by true r e h = out h
stop_by false true e h = out h
stop_by false false e h = out e

command_by : (a b : Bool) → busy_in (if a then Some ControlChannel else if b then Some NotOpen else None) ≡ true → ⊥
command_by true b h = out h
command_by false true h = out h
command_by false false h = out h

refused_busy : (n1 : ℕ) (v : HistoryView) (ask : Ask) → v.queued ≡ 0 → busy_in (refused_ask (replaying n1) v ask) ≡ true → (is_under_way v ask || nat_lt 16 (probe_size ask)) ≡ true
refused_busy n1 v (OpenChannel d) e h =
    let room = (fits_empty n1).asks v (OpenChannel d) e (omega arith) in
    or_left (not (is_shut (v.state d.number))) (nat_lt 16 0) (open_by (not (d.number == 0) && not (is_opened (v.state 0))) (is_opened (v.state d.number)) (is_shut (v.state d.number)) (all_have_room (replaying n1) v (asking Initiator (OpenChannel d))) room h)
refused_busy n1 v (CloseChannel d) e h =
    let room = (fits_empty n1).asks v (CloseChannel d) e (omega arith) in
    or_left (not (is_opened (v.state d.number))) (nat_lt 16 0) (close_by (d.number == 0) (is_shut (v.state d.number)) (is_opened (v.state d.number)) (all_have_room (replaying n1) v (asking Initiator (CloseChannel d))) room h)
refused_busy n1 v (Command d line) e h = absurd (command_by (d.number == 0) (not (is_opened (v.state d.number))) h)
refused_busy n1 v Stop e h =
    let room = (fits_empty n1).asks v Stop e (omega arith) in
    absurd (stop_by (not (is_opened (v.state 0))) (all_have_room (replaying n1) v (asking Initiator Stop)) room h)
refused_busy n1 v (Probe octets) e h = by_size (nat_lt 16 (length octets)) refl
  where
    or_right : (x y : Bool) → y ≡ true → (x || y) ≡ true
    or_right true y k = refl
    or_right false y k = k

    by_size : (c : Bool) → nat_lt 16 (length octets) ≡ c → (probe_waits v.waiting || nat_lt 16 (length octets)) ≡ true
    by_size true k = or_right (probe_waits v.waiting) (nat_lt 16 (length octets)) k
    by_size false k =
        let room = (fits_empty n1).asks v (Probe octets) e (ltb-false 16 (length octets) k) in
        or_left (probe_waits v.waiting) (nat_lt 16 (length octets)) (probe_by (not (is_opened (v.state 0))) (probe_waits v.waiting) (all_have_room (replaying n1) v (asking Initiator (Probe octets))) room h)

once_busy : (n1 : ℕ) (v : HistoryView) (q : Request) → v.queued ≡ 0 → busy_in (at_once (replaying n1) v q) ≡ true → is_busy_by v (Took q) ≡ true
once_busy n1 v q e h = by_tests v.lost (nat_le 128 (length v.hand)) h
  where
    by_tests : (a b : Bool) → busy_in (if a then Some LineLost else if b then Some Busy else refused_ask (replaying n1) v q.ask) ≡ true → (b || (is_under_way v q.ask || nat_lt 16 (probe_size q.ask))) ≡ true
    by_tests true b k = out k
    by_tests false true k = refl
    by_tests false false k = refused_busy n1 v q.ask e k

-- ## A piece

said_busy : (q : Request) (o : Option Answer) → list_any tells_busy (said_of q o) ≡ true → busy_in o ≡ true
said_busy q None h = h
said_busy q (Some answer) h = by_or (says_busy answer) h
  where
    by_or : (b : Bool) → (b || false) ≡ true → b ≡ true
    by_or true k = refl
    by_or false k = k

-- of three lists with no Busy in the others
middle : (xs ys zs ws : List Act) → list_any tells_busy xs ≡ false → list_any tells_busy zs ≡ false → list_any tells_busy ws ≡ false
    → list_any tells_busy (xs ++ (ys ++ (zs ++ ws))) ≡ true → list_any tells_busy ys ≡ true
middle xs ys zs ws x z w h =
    let all : list_any tells_busy (xs ++ (ys ++ (zs ++ ws))) ≡ (list_any tells_busy ys || false) =
    list_any-append tells_busy xs (ys ++ (zs ++ ws))
    ∙ (ap (λ (b : Bool). b || list_any tells_busy (ys ++ (zs ++ ws))) x
    ∙ (list_any-append tells_busy ys (zs ++ ws) ∙ ap (λ (b : Bool). list_any tells_busy ys || b) (both_none zs ws z w))) in
    by_or (list_any tells_busy ys) (sym all ∙ h)
  where
    by_or : (b : Bool) → (b || false) ≡ true → b ≡ true
    by_or true k = refl
    by_or false k = k

calls_busy : (n1 : ℕ) (past : List Act) (a : Act) → queue (wire past) ≡ [] → list_any tells_busy (calls (replaying n1) past a) ≡ true → is_busy_by (seen (replaying n1) past) a ≡ true
calls_busy n1 past a e h = by_act a (middle (map Sent fs) (said_at_once s v a) (lines_said s v a) (tolds v (states_now s v (a ∷ map Sent fs)) a) (sent_none fs) (said_lines_none s v a) (tolds_none v (states_now s v (a ∷ map Sent fs)) a v.waiting) h)
  where
    s : Setting
    s = replaying n1

    v : HistoryView
    v = seen s past

    fs : List Frame
    fs = frames s v a

    by_act : (x : Act) → list_any tells_busy (said_at_once (replaying n1) (seen (replaying n1) past) x) ≡ true → is_busy_by (seen (replaying n1) past) x ≡ true
    by_act (Took q) k = once_busy n1 (seen (replaying n1) past) q (ap octets_of e) (said_busy q (at_once (replaying n1) (seen (replaying n1) past) q) k)
    by_act (Got f) k = out k
    by_act (Sent f) k = out k
    by_act (Told o) k = out k
    by_act (Heard kind d line) k = out k
    by_act Tick k = out k
    by_act Lost k = out k
    by_act (Held d) k = out k
    by_act (Freed d) k = out k
    by_act Given k = out k

-- ## Frames that come have at most N1 octets of information

abbrev IsShort : ℕ → Act → Type 0
IsShort n1 (Got f) = length f.info ≤ most_info n1 f.kind
IsShort n1 _ = Unit {0}

abbrev AreShort : ℕ → List Act → Type 0
AreShort n1 [] = Unit {0}
AreShort n1 (a ∷ acts) = IsShort n1 a × AreShort n1 acts

reads_short : (n1 : ℕ) (t : List ℕ) (fs : List Frame) (rest : List ℕ) → Reads n1 t fs rest → AreShort n1 (map Got fs)
reads_short n1 _ _ _ (no_flag t e) = tt
reads_short n1 _ _ _ (fill t u fs rest e r) = reads_short n1 _ fs rest r
reads_short n1 _ _ _ (frame t b x f fs rest e spells r) = (spells.room, reads_short n1 _ fs rest r)
reads_short n1 _ _ _ (cut_short t u e c) = tt
reads_short n1 _ _ _ (other t u fs rest e a b c r) = reads_short n1 _ fs rest r

short_right : (n1 : ℕ) (fs gs : List Frame) → AreShort n1 (map Got (fs ++ gs)) → AreShort n1 (map Got gs)
short_right n1 [] gs h = h
short_right n1 (f ∷ fs) gs h = short_right n1 fs gs h.1

short_both : (n1 : ℕ) (gs : List Frame) (acts : List Act) → AreShort n1 (map Got gs) → AreShort n1 acts → AreShort n1 (map Got gs ++ acts)
short_both n1 [] acts h k = k
short_both n1 (g ∷ gs) acts h k = (h.0, short_both n1 gs acts h.1 k)

firsts_short : (n1 : ℕ) (past : List ℕ) (events : List Event) (firsts : List Act) → BegunBy n1 past events firsts → AreShort n1 firsts
firsts_short n1 _ _ _ (ends past) = tt
firsts_short n1 _ _ _ (asks past q events firsts b) = (tt, firsts_short n1 past events firsts b)
firsts_short n1 _ _ _ (ticks past events firsts b) = (tt, firsts_short n1 past events firsts b)
firsts_short n1 _ _ _ (loses past events firsts b) = (tt, firsts_short n1 past events firsts b)
firsts_short n1 _ _ _ (hears past x fs gs rest last events firsts h k b) =
    short_both n1 gs firsts (short_right n1 fs gs (reads_short n1 (past ++ x) (fs ++ gs) last k)) (firsts_short n1 (past ++ x) events firsts b)

-- ## All pieces

all_fits : (n1 : ℕ) (past : List Act) (a : Act) → queue (wire past) ≡ [] → IsShort n1 a → AllFits n1 past a
all_fits n1 past (Got f) e h =
    ap (λ (fs : List Frame). have_room n1 (octets_of fs) (by_frame Initiator (λ d. state_of Initiator d (wire past)) f)) e
    ∙ (fits_empty n1).frames (λ d. state_of Initiator d (wire past)) f h
all_fits n1 past Tick e h =
    ap (λ (fs : List Frame). by_tick Initiator n1 (λ d. state_of Initiator d (wire past)) (octets_of fs)) e
    ∙ (fits_empty n1).ticks (λ d. state_of Initiator d (wire past))
all_fits n1 past (Took q) e h = tt
all_fits n1 past (Sent f) e h = tt
all_fits n1 past (Told o) e h = tt
all_fits n1 past (Heard k d line) e h = tt
all_fits n1 past Lost e h = tt
all_fits n1 past (Held d) e h = tt
all_fits n1 past (Freed d) e h = tt
all_fits n1 past Given e h = tt

find_room : (n1 : ℕ) (ps : List Piece) (past : List Act) → list_all is_first (map first_of ps) ≡ true → AreShort n1 (map first_of ps) → owed (replaying n1) past ≡ [] → BeginEmpty past ps → ArePieces (replaying n1) past ps → FindRoom n1 past ps
unfolding BeginEmpty
find_room n1 [] past f short none empty k = tt
find_room n1 (p ∷ ps) past f short none empty k =
    let parts = and_parts (is_first p.first) (list_all is_first (map first_of ps)) f in (
      record {
        busy = λ busy. calls_busy n1 past p.first empty.0 (called_busy (replaying n1) past p parts.0 none k.0 busy);
        fits = all_fits n1 past p.first empty.0 short.0;
      },
      find_room n1 ps (with_piece past p) parts.1 short.1 (complete_owed (replaying n1) (with_piece past p) k.0.keeps.complete) empty.1 k.1,
    )

empty_in : (n1 : ℕ) (events : List Event) (acts : List Act) (r : Replays n1 events acts) → BeginEmpty [] r.pieces
unfolding EachBeginsEmpty
empty_in n1 events acts r = begin_empty n1 events acts r

-- in no replay is a request told Busy for want of room, and what a frame or a tick calls for always has room
pub never_wants_room : (n1 : ℕ) (events : List Event) (acts : List Act) → NeverWantsRoom n1 events acts
unfolding NeverWantsRoom
never_wants_room n1 events acts r =
    find_room n1 r.pieces [] (brought_first n1 [] events (map first_of r.pieces) r.begins) (firsts_short n1 [] events (map first_of r.pieces) r.begins) refl (empty_in n1 events acts r) r.are_pieces

-- ## Rows

-- Busy for the first request of all would be want of room
pub busy_wanted : WantsRoom [] busy_at_first
busy_wanted h = out (h.busy refl)

-- Busy while 0 is being opened is not
pub busy_under_way : FindsRoom 31 while_opening busy_again
busy_under_way = record { busy = λ told. refl; fits = tt }

-- a frame whose answer has no place behind a full queue would be
pub place_wanted : WantsRoom full_queue test_comes
place_wanted h = out h.fits
