-- What is said on a connection.
use Rattle.std.specs.Prelude.{◌≡◌, ℕ, ◌==◌, ◌&&◌, ◌||◌, not, Bool, true, false, List, [], ◌∷◌, ◌++◌, refl, if◌then◌else◌}
use Rattle.std.proofs.Common.{sym, ap, ◌∙◌, append_assoc, append-nil}
use Rattle.at_text.specs.declared.answer.AnswerLine.{AnswerLine}
use Rattle.mux_frame.specs.Frames.{Frame}
use Rattle.mux_station.specs.declared.role.Role.TheVariants.{Responder}
use Rattle.mux_station.specs.Acts as station
use Rattle.mux_station.specs.Opening.{opens_now, belongs}
use Rattle.mux_station.proofs.states.OpeningSteps.{is_open_after}
use Rattle.modem_sim.specs.declared.script.StepAct.TheVariants.{Announce, Flow, Hold, Disconnect, CloseDown}
use Rattle.modem_sim.specs.declared.state.ModemState.{ModemState}
use Rattle.modem_sim.specs.LineSteps.{repeats, step}
use Rattle.modem_sim.specs.Acts.{Act, Wire, Did, End, wire, is_open_at_modem}
use Rattle.modem_sim.specs.Heard.{modem_after, texts_with}
use Rattle.modem_sim.specs.Pieces.{Piece, Echo, Answer, Announced, answers, echoed, reply, replies, asked_for}
use Rattle.modem_sim.specs.Outboxes.{Outbox, empty_box, outbox, say, said_after, dropped, replies_by, replies_after, hold_on, is_holding, replies_since}
use Rattle.modem_sim.specs.Histories.{SaysReplies}

-- what is asked for of two lists of pieces is that of both
pub asked_for-append : (a b : List Piece) → asked_for (a ++ b) ≡ asked_for a ++ asked_for b
asked_for-append [] b = refl
asked_for-append (Echo line ∷ a) b = ap (λ x. Echo line ∷ x) (asked_for-append a b)
asked_for-append (Answer line ∷ a) b = ap (λ x. Answer line ∷ x) (asked_for-append a b)
asked_for-append (Announced line ∷ a) b = asked_for-append a b

asked_answers : (ls : List AnswerLine) → asked_for (answers ls) ≡ answers ls
asked_answers [] = refl
asked_answers (l ∷ ls) = ap (λ x. Answer l.text ∷ x) (asked_answers ls)

asked_echoed : (echo : Bool) (line : List ℕ) (ls : List AnswerLine) → asked_for (echoed echo line ++ answers ls) ≡ echoed echo line ++ answers ls
asked_echoed true line ls = ap (λ x. Echo line ∷ x) (asked_answers ls)
asked_echoed false line ls = asked_answers ls

asked_reply : (echo : Bool) (m : ModemState) (line : List ℕ) → asked_for (reply echo m line) ≡ reply echo m line
asked_reply echo m line = asked_echoed (repeats echo m line) line (step m line).answer

-- replies are asked for
asked_replies : (echo : Bool) (m : ModemState) (ls : List (List ℕ)) → asked_for (replies echo m ls) ≡ replies echo m ls
asked_replies echo m [] = refl
asked_replies echo m (line ∷ ls) =
    asked_for-append (reply echo m line) (replies echo (step m line).state ls)
    ∙ ap (λ x. x ++ asked_for (replies echo (step m line).state ls)) (asked_reply echo m line)
    ∙ ap (λ x. reply echo m line ++ x) (asked_replies echo (step m line).state ls)

chosen_asked : (b : Bool) (pieces : List Piece) → asked_for pieces ≡ pieces → asked_for (if b then pieces else []) ≡ (if b then pieces else [])
chosen_asked true pieces is = is
chosen_asked false pieces is = refl

replies_asked : (e : End) (d : ℕ) (past : List Act) (f : Frame) → asked_for (replies_by e d past f) ≡ replies_by e d past f
replies_asked e d past f = chosen_asked (f.dlci == d) (replies e.echo (modem_after e past) (texts_with past f)) (asked_replies e.echo (modem_after e past) (texts_with past f))

-- all that is asked for in an outbox
abbrev asked_in : Outbox → List Piece
asked_in b = asked_for b.said ++ asked_for b.held

say_asked : (holds : Bool) (b : Outbox) (pieces : List Piece) → asked_in (say holds b pieces) ≡ asked_in b ++ asked_for pieces
say_asked true b pieces =
    ap (λ x. asked_for b.said ++ x) (asked_for-append b.held pieces) ∙ sym (append_assoc (asked_for b.said) (asked_for b.held) (asked_for pieces))
say_asked false b pieces =
    append-nil (asked_for (b.said ++ (b.held ++ pieces)))
    ∙ asked_for-append b.said (b.held ++ pieces)
    ∙ ap (λ x. asked_for b.said ++ x) (asked_for-append b.held pieces)
    ∙ sym (append_assoc (asked_for b.said) (asked_for b.held) (asked_for pieces))

after_asked : (e : End) (d : ℕ) (past : List Act) (a : station.Act) (b : Outbox) (old : List Piece) → asked_in b ≡ old → asked_in (said_after e d past a b) ≡ replies_after e d past a old
after_asked e d past (station.Got f) b old before =
    let new = replies_by e d past f in
    say_asked (is_holding (hold_on d (Wire (station.Got f) ∷ past))) b new ∙ ap (λ x. x ++ asked_for new) before ∙ ap (λ x. old ++ x) (replies_asked e d past f)
after_asked e d past (station.Called call) b old before = before
after_asked e d past (station.Sent f) b old before = before
after_asked e d past station.Tick b old before = before
after_asked e d past station.Lost b old before = before
after_asked e d past station.Given b old before = before

box_asked : (e : End) (d : ℕ) (past : List Act) (a : station.Act) (b : Outbox) (old : List Piece) (opens there : Bool) → (opens || there) ≡ true → (there ≡ true → asked_in b ≡ old) → asked_in (if opens then empty_box else if there && not opens then said_after e d past a b else dropped b) ≡ (if opens then [] else replies_after e d past a old)
box_asked e d past a b old true there is before = refl
box_asked e d past a b old false true is before = after_asked e d past a b old (before refl)
box_asked e d past a b old false false is before = cc

announced_box : (e : End) (d : ℕ) (past : List Act) (here : Bool) (line : List ℕ) (b : Outbox) → asked_in (if here then record { said = b.said ++ Announced line ∷ []; held = b.held } else b) ≡ asked_in b
announced_box e d past true line b = ap (λ x. x ++ asked_for b.held) (asked_for-append b.said (Announced line ∷ []) ∙ append-nil (asked_for b.said))
announced_box e d past false line b = refl

still_open : (a b : Bool) → (a && b) ≡ true → a ≡ true
still_open true b is = refl
still_open false b is = cc

-- what is said is what the lines were answered with
pub says_replies : (e : End) (past : List Act) → SaysReplies e past
says_replies e [] d there_open = cc
says_replies e (Did (Announce x line) ∷ past) d there_open = announced_box e d past (x.number == d) line (outbox e d past) ∙ says_replies e past d there_open
says_replies e (Did (Flow x go) ∷ past) d there_open = says_replies e past d there_open
says_replies e (Did (Hold x y) ∷ past) d there_open = says_replies e past d there_open
says_replies e (Did (Disconnect x) ∷ past) d there_open = says_replies e past d there_open
says_replies e (Did CloseDown ∷ past) d there_open = says_replies e past d there_open
says_replies e (Wire a ∷ past) d there_open =
    box_asked e d past a (outbox e d past) (replies_since e d past) (opens_now Responder d (wire past) a) (belongs Responder d (wire past) a)
    (sym (is_open_after Responder d (wire past) a) ∙ there_open)
    (λ there. says_replies e past d (still_open (is_open_at_modem d past) _ there))
