-- What is said on a connection is read as the lines of its pieces.
use Rattle.std.specs.Prelude.{◌≡◌, ℕ, zero, suc, ◌≤◌, ◌==◌, ◌&&◌, not, nat_le, Bool, true, false, List, [], ◌∷◌, ◌++◌, length, take, map, filter, refl, if◌then◌else◌}
use Rattle.std.specs.List.{list_all, list_any}
use Rattle.std.proofs.Common.{arith, sym, ap, ◌∙◌, subst, append_assoc}
use Rattle.std.proofs.lemmas.Bool.Decides.{nat_tests}
use Rattle.std.proofs.lemmas.Bool.{and_parts}
use Rattle.mux_frame.specs.Frames.{Frame}
use Rattle.mux_station.specs.declared.role.Role.TheVariants.{Responder}
use Rattle.mux_station.specs.Acts as station
use Rattle.mux_station.specs.Opening.{opens_now, belongs}
use Rattle.mux_station.specs.Written.{is_data_frame}
use Rattle.at_text.specs.declared.answer.AnswerLine.{AnswerLine}
use Rattle.at_text.specs.Dialects.{standard, is_solicited}
use Rattle.at_text.specs.Lines.{is_line_end, ended_runs, onto_first, is_filled, cut, lines}
use Rattle.at_text.proofs.lines.UnfinishedLines.{has_end, has_end-take}
use Rattle.modem_history.specs.Connections.{unfinished_on}
use Rattle.modem_history.proofs.commands.ReadCommands.{IsLine, line_more}
use Rattle.modem_sim.specs.declared.modem.ModemStart.{ModemStart}
use Rattle.modem_sim.specs.declared.script.StepAct.TheVariants.{Announce, Flow, Hold, Disconnect, CloseDown}
use Rattle.modem_sim.specs.Laws.{IsStart, after_lines, reached}
use Rattle.modem_sim.specs.LineSteps.{step}
use Rattle.modem_sim.specs.Acts.{Act, Wire, Did, End, wire, is_open_at_modem}
use Rattle.modem_sim.specs.Heard.{heard, texts_of, texts_with, modem_after}
use Rattle.modem_sim.specs.Pieces.{Piece, Echo, Answer, Announced, framed, octets_of, pieces_octets, answers, echoed, reply, replies, asked_for}
use Rattle.modem_sim.specs.Outboxes.{Outbox, empty_box, outbox, dropped, said_after, say, replies_by, hold_on, is_holding}
use Rattle.modem_sim.specs.Doing.{is_line}
use Rattle.modem_sim.specs.Histories.{EachAllowed}
use Rattle.modem_sim.specs.Replied.{IsModem, AnnouncesUnsolicited, is_answer_line, text_of}
use Rattle.modem_sim.proofs.connections.BoxesAfterFrame.{texts_are}
use Rattle.modem_sim.proofs.modem_steps.ReachedStates.{reached_kept}
use Rattle.modem_sim.proofs.connections.OctetReplies.{after_lines-append}
use Rattle.modem_sim.proofs.connections.ControlChannel.{does_act}
use Rattle.modem_sim.proofs.replies.AnswerTexts.{kept_told}
use Rattle.modem_sim.proofs.modem_steps.StandardModems.{repeats_standard}

-- ## Pieces that are lines

-- the piece is a line, and unsolicited if it is announced
abbrev pub IsSound : Piece → Type 0
IsSound (Echo line) = is_line line ≡ true
IsSound (Answer line) = is_line line ≡ true
IsSound (Announced line) = (is_line line ≡ true) × (is_solicited standard line ≡ false)

-- so is each of these
abbrev pub AreSound : List Piece → Type 0
AreSound [] = Unit {0}
AreSound (p ∷ pieces) = IsSound p × AreSound pieces

sound-append : (a b : List Piece) → AreSound a → AreSound b → AreSound (a ++ b)
sound-append [] b first second = second
sound-append (p ∷ a) b first second = (first.0, sound-append a b first.1 second)

within : (n : ℕ) → nat_le n 512 ≡ true → n ≤ 512
within n is = grind (arith, nat_tests)

negated : (b : Bool) → not b ≡ true → b ≡ false
negated true is = cc
negated false is = refl

line_parts : (text : List ℕ) → is_line text ≡ true → IsLine text
line_parts text is =
    let first = and_parts (is_filled text) (nat_le (length text) 512 && not (list_any is_line_end text)) is in
    let second = and_parts (nat_le (length text) 512) (not (list_any is_line_end text)) first.1 in
    record { filled = first.0; no_end = negated (list_any is_line_end text) second.1; short = within (length text) second.0 }

-- a line before its end
line_before : (text y : List ℕ) → is_line text ≡ true → lines ((text ++ 13 ∷ []) ++ y) ≡ text ∷ lines y
line_before text y is = line_more text y (line_parts text is)

framed_before : (text y : List ℕ) → is_line text ≡ true → lines (framed text ++ y) ≡ text ∷ lines y
framed_before text y is =
    let own : lines ((text ++ 13 ∷ []) ++ 10 ∷ y) ≡ text ∷ lines y = line_before text (10 ∷ y) is in
    let same : (text ++ 13 ∷ 10 ∷ []) ++ y ≡ (text ++ 13 ∷ []) ++ 10 ∷ y = append_assoc text (13 ∷ 10 ∷ []) y ∙ sym (append_assoc text (13 ∷ []) (10 ∷ y)) in
    ap (λ (z : List ℕ). lines (13 ∷ 10 ∷ z)) same ∙ own

piece_before : (p : Piece) (y : List ℕ) → IsSound p → lines (octets_of p ++ y) ≡ text_of p ∷ lines y
piece_before (Echo line) y is = line_before line y is
piece_before (Answer line) y is = framed_before line y is
piece_before (Announced line) y is = framed_before line y is.0

-- the octets of such pieces are read as their lines, one for each
pub lines_said : (pieces : List Piece) → AreSound pieces → lines (pieces_octets pieces) ≡ map text_of pieces
lines_said [] are = refl
lines_said (p ∷ pieces) are = piece_before p (pieces_octets pieces) are.0 ∙ ap (λ x. text_of p ∷ x) (lines_said pieces are.1)

-- without the unsolicited ones they are those that are asked for
pub asked_lines : (pieces : List Piece) → AreSound pieces → filter (is_solicited standard) (map text_of pieces) ≡ filter (is_solicited standard) (map text_of (asked_for pieces))
asked_lines [] are = refl
asked_lines (Echo line ∷ pieces) are = ap (λ x. if is_solicited standard line then line ∷ x else x) (asked_lines pieces are.1)
asked_lines (Answer line ∷ pieces) are = ap (λ x. if is_solicited standard line then line ∷ x else x) (asked_lines pieces are.1)
asked_lines (Announced line ∷ pieces) are =
    let rest = filter (is_solicited standard) (map text_of pieces) in
    ap (λ (b : Bool). if b then line ∷ rest else rest) are.0.1 ∙ asked_lines pieces are.1

-- ## Lines of a text

abbrev AreLines : List (List ℕ) → Type 0
AreLines [] = Unit {0}
AreLines (l ∷ ls) = (is_line l ≡ true) × AreLines ls

abbrev NoneEnds : List (List ℕ) → Type 0
NoneEnds [] = Unit {0}
NoneEnds (run ∷ runs) = (has_end run ≡ false) × NoneEnds runs

onto_none : (c : ℕ) (runs : List (List ℕ)) → is_line_end c ≡ false → NoneEnds runs → NoneEnds (onto_first c runs)
onto_none c [] is none = tt
onto_none c (run ∷ runs) is none = (rw is (none.0), none.1)

runs_none : (text : List ℕ) → NoneEnds (ended_runs text)
runs_none [] = tt
runs_none (c ∷ text) = by_end (is_line_end c) refl (runs_none text)
  where
    by_end : (b : Bool) → is_line_end c ≡ b → NoneEnds (ended_runs text) → NoneEnds (if b then [] ∷ ended_runs text else onto_first c (ended_runs text))
    by_end true is rest = (refl, rest)
    by_end false is rest = onto_none c (ended_runs text) is rest

cut_filled : (run : List ℕ) → is_filled run ≡ true → is_filled (cut run) ≡ true
cut_filled [] is = is
cut_filled (c ∷ run) is = refl

take_short : (n : ℕ) (run : List ℕ) → length (take n run) ≤ n
take_short zero run = omega arith
take_short (suc n) [] = omega arith
take_short (suc n) (c ∷ run) = let less = take_short n run in omega arith

cut_line : (run : List ℕ) → is_filled run ≡ true → has_end run ≡ false → is_line (cut run) ≡ true
cut_line run filled none =
    let size : length (take 512 run) ≤ 512 = take_short 512 run in
    let short : nat_le (length (cut run)) 512 ≡ true = grind (arith, nat_tests) in
    rw (cut_filled run filled, short, has_end-take 512 run none) refl

cut_lines : (runs : List (List ℕ)) → NoneEnds runs → AreLines (map cut (filter is_filled runs))
cut_lines [] none = tt
cut_lines (run ∷ runs) none = by_filled (is_filled run) refl (cut_lines runs none.1)
  where
    by_filled : (b : Bool) → is_filled run ≡ b → AreLines (map cut (filter is_filled runs)) → AreLines (map cut (if b then run ∷ filter is_filled runs else filter is_filled runs))
    by_filled true is rest = (cut_line run is none.0, rest)
    by_filled false is rest = rest

are_lines : (text : List ℕ) → AreLines (lines text)
are_lines text = cut_lines (ended_runs text) (runs_none text)

if_lines : (b : Bool) (text : List ℕ) → AreLines (if b then lines text else [])
if_lines true text = are_lines text
if_lines false text = tt

-- ## What is said

answers_sound : (ls : List AnswerLine) → list_all is_answer_line ls ≡ true → AreSound (answers ls)
answers_sound [] all = tt
answers_sound (l ∷ ls) all =
    let parts = and_parts (is_answer_line l) (list_all is_answer_line ls) all in
    ((and_parts (is_line l.text) _ parts.0).0, answers_sound ls parts.1)

reply_sound : (start : ModemStart) → IsStart start → (echo : Bool) (before : List (List ℕ)) (line : List ℕ) → is_line line ≡ true → AreSound (reply echo (reached start before) line)
reply_sound start is true before line own = (own, answers_sound (step (reached start before) line).answer (kept_told (reached start before) line (reached_kept start before is)))
reply_sound start is false before line own =
    subst (λ (b : Bool). AreSound (echoed b line ++ answers (step (reached start before) line).answer)) (sym (repeats_standard start before line))
    (answers_sound (step (reached start before) line).answer (kept_told (reached start before) line (reached_kept start before is)))

replies_sound : (start : ModemStart) → IsStart start → (echo : Bool) (before ls : List (List ℕ)) → AreLines ls → AreSound (replies echo (reached start before) ls)
replies_sound start is echo before [] are = tt
replies_sound start is echo before (line ∷ ls) are =
    let next : reached start (before ++ line ∷ []) ≡ (step (reached start before) line).state = after_lines-append _ before (line ∷ []) in
    sound-append (reply echo (reached start before) line) (replies echo (step (reached start before) line).state ls) (reply_sound start is echo before line are.0)
    (rw (sym next) (replies_sound start is echo (before ++ line ∷ []) ls are.1))

-- the modem after lines is one that started so too
goes_on : (e : End) (m : IsModem e.modem) (ls : List (List ℕ)) → after_lines e.modem ls ≡ reached m.start (m.before ++ ls)
goes_on e m ls = ap (λ x. after_lines x ls) m.is ∙ sym (after_lines-append _ m.before ls)

said_by : (e : End) → IsModem e.modem → (d : ℕ) (past : List Act) (f : Frame) → AreSound (replies_by e d past f)
said_by e m d past f = by_here (f.dlci == d)
  where
    all : AreSound (replies e.echo (modem_after e past) (texts_with past f))
    all =
        rw (goes_on e m (texts_of (heard past)), texts_are past f)
        (replies_sound m.start m.is_start e.echo (m.before ++ texts_of (heard past)) _ (if_lines (is_data_frame f && is_open_at_modem f.dlci past) (unfinished_on Responder f.dlci (wire past) ++ f.info)))

    by_here : (b : Bool) → AreSound (if b then replies e.echo (modem_after e past) (texts_with past f) else [])
    by_here true = all
    by_here false = tt

pub record SaysSound (b : Outbox) : Type 0 where
  pub said : AreSound b.said
  pub held : AreSound b.held

say_sound : (holds : Bool) (b : Outbox) (pieces : List Piece) → AreSound pieces → SaysSound b → SaysSound (say holds b pieces)
say_sound true b pieces more old = record { said = old.said; held = sound-append b.held pieces old.held more }
say_sound false b pieces more old =
    record { said = sound-append b.said (b.held ++ pieces) old.said (sound-append b.held pieces old.held more); held = tt }

after_sound : (e : End) → IsModem e.modem → (d : ℕ) (past : List Act) (a : station.Act) (b : Outbox) → SaysSound b → SaysSound (said_after e d past a b)
after_sound e m d past (station.Got f) b old = say_sound (is_holding (hold_on d (Wire (station.Got f) ∷ past))) b (replies_by e d past f) (said_by e m d past f) old
after_sound e m d past (station.Called c) b old = old
after_sound e m d past (station.Sent f) b old = old
after_sound e m d past station.Given b old = old
after_sound e m d past station.Tick b old = old
after_sound e m d past station.Lost b old = old

box_sound : (e : End) → IsModem e.modem → (d : ℕ) (past : List Act) (a : station.Act) (b : Outbox) (opens there : Bool) → SaysSound b → SaysSound (if opens then empty_box else if there && not opens then said_after e d past a b else dropped b)
box_sound e m d past a b true there old = record { said = tt; held = tt }
box_sound e m d past a b false true old = after_sound e m d past a b old
box_sound e m d past a b false false old = record { said = old.said; held = tt }

announced_sound : (here : Bool) (line : List ℕ) (b : Outbox) → IsSound (Announced line) → SaysSound b → SaysSound (if here then record { said = b.said ++ Announced line ∷ []; held = b.held } else b)
announced_sound true line b is old = record { said = sound-append b.said (Announced line ∷ []) old.said (is, tt); held = old.held }
announced_sound false line b is old = old

-- all that is said are lines, and what is announced is unsolicited
pub says_sound : (e : End) → IsModem e.modem → (past : List Act) → EachAllowed e past → AnnouncesUnsolicited past → (d : ℕ) → SaysSound (outbox e d past)
says_sound e m [] may un d = record { said = tt; held = tt }
says_sound e m (Did (Announce x line) ∷ past) may un d =
    let does = and_parts (not (x.number == 0)) (is_line line) (does_act e past (Announce x line) may.0) in
    announced_sound (x.number == d) line (outbox e d past) (does.1, un.0) (says_sound e m past may.1 un.1 d)
says_sound e m (Did (Flow x go) ∷ past) may un d = says_sound e m past may.1 un d
says_sound e m (Did (Hold x y) ∷ past) may un d = says_sound e m past may.1 un d
says_sound e m (Did (Disconnect x) ∷ past) may un d = says_sound e m past may.1 un d
says_sound e m (Did CloseDown ∷ past) may un d = says_sound e m past may.1 un d
says_sound e m (Wire a ∷ past) may un d =
    box_sound e m d past a (outbox e d past) (opens_now Responder d (wire past) a) (belongs Responder d (wire past) a) (says_sound e m past may.1 un d)
