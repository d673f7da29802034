-- What a command told Done is told, is what the modem answers to it at its place.
use Rattle.std.specs.Prelude.{◌≡◌, ℕ, zero, suc, ◌+◌, ◌≤◌, ◌==◌, ◌&&◌, Bool, true, false, List, [], ◌∷◌, ◌++◌, length, map, filter, take, Some, refl, if◌then◌else◌}
use Rattle.std.proofs.Common.{arith, sym, ap, ◌∙◌, subst, append_assoc, append-nil}
use Rattle.std.proofs.lemmas.Bool.Decides.{nat_tests}
use Rattle.std.proofs.lemmas.List.{append_cancel_left, length-append, length-map, map-append}
use Rattle.std.proofs.lemmas.List.Elements.{filter-append}
use Rattle.mux_frame.specs.Frames.{Frame}
use Rattle.mux_station.specs.Acts as station
use Rattle.mux_station.specs.Opening.{is_open}
use Rattle.at_text.specs.declared.answer.AnswerLine.{AnswerLine}
use Rattle.at_text.specs.Dialects.{standard, is_solicited}
use Rattle.at_text.specs.Commands.{has_at}
use Rattle.at_text.specs.Seeing.{answer_lines}
use Rattle.at_text.specs.Windows.{Mark, Line, Begun, Window, IsInTurn, answer, answer_of, answered, has_final, is_answered, last_window, lines_of}
use Rattle.at_text.proofs.windows.AnswerWindows.{lines_of-append}
use Rattle.modem_desk.specs.declared.request.Request.{Request}
use Rattle.modem_history.specs.Acts as driver
use Rattle.modem_history.specs.Acts.{Took, Got, Sent, Told, Heard, Tick, Lost, Held, Freed, Given}
use Rattle.modem_history.specs.Calls.{Setting}
use Rattle.modem_history.specs.Connections.{begun_in, carries, lines_on}
use Rattle.modem_history.specs.Information.{accepted, line_of, opens_here}
use Rattle.modem_history.specs.Placements.{AreCommandLines}
use Rattle.modem_history.specs.Wholes.{BeginsInTurn, IsPrefixOf}
use Rattle.modem_history.proofs.commands.BegunCommands.{begins_in_turn, begun_append}
use Rattle.modem_history.proofs.commands.SentCommands.{are_lines}
use Rattle.modem_history.proofs.lines.LinePlaces.{on_both}
use Rattle.modem_sim.specs.Acts as modem
use Rattle.modem_sim.specs.Acts.{End, Wire, Did}
use Rattle.modem_sim.specs.Heard.{heard, texts_of}
use Rattle.modem_sim.specs.Laws.{after_lines, reached}
use Rattle.modem_sim.specs.Replied.{IsModem, all_of, replied_on, written_for}
use Rattle.modem_sim.specs.LineSteps.{step}
use Rattle.modem_sim.proofs.connections.OctetReplies.{after_lines-append}
use Rattle.modem_sim.proofs.replies.ReplyOrder.{all-append, replied_on-append}
use Rattle.one_modem.specs.OneModem.{AtDriver, AtModem, EndAct, IsAnswerAt, driver_past, modem_past}
use Rattle.one_modem.proofs.two_ends.FinalCodes.{AllEnd, all_finals, answer_whole, answered_few, finals, nothing_left, some_answered, whole_by_count}
use Rattle.one_modem.proofs.two_ends.LinePoints.{Along, driver_earlier, first_same, first_then, marks_at, modem_earlier, read_first, replied_first, replies_at}
use Rattle.one_modem.proofs.two_ends.ReplyPlaces.{AllAt, RepliesAt, all_end, all_solicited_in, at_of, last_at, line_on, replied_count, replies_at_place, reply_answer, reply_ends, solicited_in}

-- ## Before a command begins

-- the replies that there were when a command began: no more than commands before it, and of their lines those that had come
-- are the first
pub record Before (s : Setting) (e : End) (d : ℕ) (line : List EndAct) (ms : List Mark) : Type 0 where
  replies : List (List (List ℕ))
  so_far : IsPrefixOf replies (replies_at e d line)
  first : IsPrefixOf (filter (is_solicited standard) (lines_of ms)) (filter (is_solicited standard) (all_of replies))
  few : length replies ≤ length (begun_in ms)

-- a list is the beginning of itself
pub self_first : {A : Type 0} (xs : List A) → IsPrefixOf xs xs
self_first xs = record { rest = []; joins = append-nil xs }

-- a command among marks that are joined stands in the one or the other
record InOld (old : List Mark) (ms : List Mark) (c : List ℕ) : Type 0 where
  rest : List Mark
  joins : old ≡ ms ++ Begun c ∷ rest

record InNew (old new : List Mark) (ms : List Mark) (c : List ℕ) : Type 0 where
  mid : List Mark
  rest : List Mark
  begins : ms ≡ old ++ mid
  joins : new ≡ mid ++ Begun c ∷ rest

data Where (old new ms : List Mark) (c : List ℕ) : Type 0 where
  in_old : InOld old ms c → Where old new ms c
  in_new : InNew old new ms c → Where old new ms c

place : (old new ms rest : List Mark) (c : List ℕ) → old ++ new ≡ ms ++ Begun c ∷ rest → Where old new ms c
place [] new ms rest c e = in_new (record { mid = ms; rest = rest; begins = refl; joins = e })
place (x ∷ old) new [] rest c e =
    let same : x ≡ Begun c = cc in
    in_old (record { rest = old; joins = ap (λ z. z ∷ old) same })
place (x ∷ old) new (y ∷ ms) rest c e =
    let same : x ≡ y = cc in
    let more : old ++ new ≡ ms ++ Begun c ∷ rest = cc in
    onto x y same (place old new ms rest c more)
  where
    onto : (x y : Mark) → x ≡ y → Where old new ms c → Where (x ∷ old) new (y ∷ ms) c
    onto x y same (in_old h) = in_old (record { rest = h.rest; joins = ap (λ z. z ∷ old) same ∙ ap (λ z. y ∷ z) h.joins })
    onto x y same (in_new h) = in_new (record { mid = h.mid; rest = h.rest; begins = ap (λ z. z ∷ ms) (sym same) ∙ ap (λ z. x ∷ z) h.begins; joins = h.joins })

no_command : (ls : List (List ℕ)) (mid rest : List Mark) (c : List ℕ) → map Line ls ≡ mid ++ Begun c ∷ rest → ⊥
no_command [] [] rest c e = cc
no_command [] (m ∷ mid) rest c e = cc
no_command (l ∷ ls) [] rest c e = cc
no_command (l ∷ ls) (m ∷ mid) rest c e = no_command ls mid rest c (let more : map Line ls ≡ mid ++ Begun c ∷ rest = cc in more)

begun_marks : List Request → List Mark
begun_marks qs = map (λ (q : Request). Begun (line_of q)) qs

no_line : (qs : List Request) (mid rest : List Mark) → begun_marks qs ≡ mid ++ rest → lines_of mid ≡ []
unfolding begun_marks
no_line qs [] rest e = refl
no_line [] (m ∷ mid) rest e = cc
no_line (q ∷ qs) (Line l ∷ mid) rest e = cc
no_line (q ∷ qs) (Begun c ∷ mid) rest e = no_line qs mid rest (let more : begun_marks qs ≡ mid ++ rest = cc in more)

-- marks that a frame made, which was sent
sent_marks : (s : Setting) (e : End) (d : ℕ) (line : List EndAct) (a : EndAct) (qs : List Request) (ms rest : List Mark) (c : List ℕ) → Along s e line → replies_at e d (a ∷ line) ≡ replies_at e d line
    → marks_at s d line ++ begun_marks qs ≡ ms ++ Begun c ∷ rest
    → ((more : List Mark) → marks_at s d line ≡ ms ++ Begun c ∷ more → Before s e d line ms) → Before s e d line ms
sent_marks s e d line a qs ms rest c p same joins before = by_place (place (marks_at s d line) (begun_marks qs) ms rest c joins)
  where
    by_place : Where (marks_at s d line) (begun_marks qs) ms c → Before s e d line ms
    by_place (in_old h) = before h.rest h.joins
    by_place (in_new h) =
        let none = no_line qs h.mid (Begun c ∷ h.rest) h.joins in
        let all : lines_of ms ≡ lines_of (marks_at s d line) = ap lines_of h.begins ∙ (lines_of-append (marks_at s d line) h.mid ∙ (ap (λ z. lines_of (marks_at s d line) ++ z) none ∙ append-nil (lines_of (marks_at s d line)))) in
        let read = read_first s e line p d in
        let size : length (begun_in ms) ≡ length (begun_in (marks_at s d line)) + length (begun_in h.mid) =
        ap (λ z. length (begun_in z)) h.begins ∙ (ap length (begun_append (marks_at s d line) h.mid) ∙ length-append (begun_in (marks_at s d line)) (begun_in h.mid)) in
        let count : length (lines_on d (heard (modem_past line))) + length read.rest ≡ length (begun_in (marks_at s d line)) = sym (length-append (lines_on d (heard (modem_past line))) read.rest) ∙ ap length read.joins in
        let replied = replied_count e.echo d e.modem (heard (modem_past line)) in
        record {
          replies = replies_at e d line;
          so_far = self_first (replies_at e d line);
          first = first_same _ (filter (is_solicited standard) (lines_of (marks_at s d line))) _ (filter (is_solicited standard) (all_of (replies_at e d line))) (ap (filter (is_solicited standard)) all) refl (replied_first s e line p d);
          few = omega (arith, size, count, replied);
        }

-- more replies
replies_grow : (e : End) (d : ℕ) (a : modem.Act) (past : List modem.Act) → IsPrefixOf (replied_on e.echo d e.modem (heard past)) (replied_on e.echo d e.modem (heard (a ∷ past)))
replies_grow e d (Wire (station.Got f)) past = record { rest = _; joins = sym (replied_on-append e.echo d e.modem (heard past) _) }
replies_grow e d (Wire (station.Sent f)) past = self_first _
replies_grow e d (Wire (station.Called c)) past = self_first _
replies_grow e d (Wire station.Tick) past = self_first _
replies_grow e d (Wire station.Lost) past = self_first _
replies_grow e d (Wire station.Given) past = self_first _
replies_grow e d (Did step) past = self_first _

later_before : (s : Setting) (e : End) (d : ℕ) (a : modem.Act) (line : List EndAct) (ms : List Mark) → Before s e d line ms → Before s e d (AtModem a ∷ line) ms
later_before s e d a line ms h =
    record { replies = h.replies; so_far = first_then _ _ _ h.so_far (replies_grow e d a (modem_past line)); first = h.first; few = h.few }

same_before : (s : Setting) (e : End) (d : ℕ) (a : driver.Act) (line : List EndAct) (ms : List Mark) → Before s e d line ms → Before s e d (AtDriver a ∷ line) ms
same_before s e d a line ms h = record { replies = h.replies; so_far = h.so_far; first = h.first; few = h.few }

-- by what a frame that was sent made of the marks
by_sent : (s : Setting) (e : End) (d : ℕ) (line : List EndAct) (f : Frame) (b : Bool) (qs : List Request) (ms rest : List Mark) (c : List ℕ) → Along s e line
    → (if b then marks_at s d line ++ begun_marks qs else marks_at s d line) ≡ ms ++ Begun c ∷ rest
    → ((more : List Mark) → marks_at s d line ≡ ms ++ Begun c ∷ more → Before s e d line ms) → Before s e d line ms
by_sent s e d line f true qs ms rest c p joins before = sent_marks s e d line (AtDriver (Sent f)) qs ms rest c p refl joins before
by_sent s e d line f false qs ms rest c p joins before = before rest joins

by_got : (s : Setting) (e : End) (d : ℕ) (line : List EndAct) (o b : Bool) (ls : List (List ℕ)) (ms rest : List Mark) (c : List ℕ)
    → (if o then [] else (if b then marks_at s d line ++ map Line ls else marks_at s d line)) ≡ ms ++ Begun c ∷ rest
    → ((more : List Mark) → marks_at s d line ≡ ms ++ Begun c ∷ more → Before s e d line ms) → Before s e d line ms
by_got s e d line true b ls [] rest c joins before = absurd (clash joins)
  where
    clash : {A : Type 0} {y : A} {ys : List A} → [] ≡ y ∷ ys → ⊥
    clash g = cc
by_got s e d line true b ls (m ∷ ms) rest c joins before = absurd (clash joins)
  where
    clash : {A : Type 0} {y : A} {ys : List A} → [] ≡ y ∷ ys → ⊥
    clash g = cc
by_got s e d line false true ls ms rest c joins before = by_place (place (marks_at s d line) (map Line ls) ms rest c joins)
  where
    by_place : Where (marks_at s d line) (map Line ls) ms c → Before s e d line ms
    by_place (in_old h) = before h.rest h.joins
    by_place (in_new h) = absurd (no_command ls h.mid h.rest c h.joins)
by_got s e d line false false ls ms rest c joins before = before rest joins

-- so it is of each command that began, at each point of the line behind that
pub before_begun : (s : Setting) (e : End) (d : ℕ) (line : List EndAct) → Along s e line → (ms rest : List Mark) (c : List ℕ) → marks_at s d line ≡ ms ++ Begun c ∷ rest → Before s e d line ms
unfolding begun_marks
before_begun s e d [] p [] rest c joins = cc
before_begun s e d [] p (m ∷ ms) rest c joins = cc
before_begun s e d (AtModem a ∷ line) p ms rest c joins = later_before s e d a line ms (before_begun s e d line (modem_earlier s e a line p) ms rest c joins)
before_begun s e d (AtDriver (Sent f) ∷ line) p ms rest c joins =
    let q = driver_earlier s e (Sent f) line p in
    same_before s e d (Sent f) line ms
    (by_sent s e d line f (carries d f && is_open s.role d (driver.wire (driver_past line))) _ ms rest c q joins (λ more j. before_begun s e d line q ms more c j))
before_begun s e d (AtDriver (Got f) ∷ line) p ms rest c joins =
    let q = driver_earlier s e (Got f) line p in
    same_before s e d (Got f) line ms
    (by_got s e d line (opens_here s.role d (driver_past line) (Got f)) (carries d f && is_open s.role d (driver.wire (driver_past line))) _ ms rest c joins (λ more j. before_begun s e d line q ms more c j))
before_begun s e d (AtDriver (Took r) ∷ line) p ms rest c joins = same_before s e d (Took r) line ms (before_begun s e d line (driver_earlier s e (Took r) line p) ms rest c joins)
before_begun s e d (AtDriver (Told o) ∷ line) p ms rest c joins = same_before s e d (Told o) line ms (before_begun s e d line (driver_earlier s e (Told o) line p) ms rest c joins)
before_begun s e d (AtDriver (Heard k n l) ∷ line) p ms rest c joins = same_before s e d (Heard k n l) line ms (before_begun s e d line (driver_earlier s e (Heard k n l) line p) ms rest c joins)
before_begun s e d (AtDriver Tick ∷ line) p ms rest c joins = same_before s e d Tick line ms (before_begun s e d line (driver_earlier s e Tick line p) ms rest c joins)
before_begun s e d (AtDriver Lost ∷ line) p ms rest c joins = same_before s e d Lost line ms (before_begun s e d line (driver_earlier s e Lost line p) ms rest c joins)
before_begun s e d (AtDriver (Held n) ∷ line) p ms rest c joins = same_before s e d (Held n) line ms (before_begun s e d line (driver_earlier s e (Held n) line p) ms rest c joins)
before_begun s e d (AtDriver (Freed n) ∷ line) p ms rest c joins = same_before s e d (Freed n) line ms (before_begun s e d line (driver_earlier s e (Freed n) line p) ms rest c joins)
before_begun s e d (AtDriver Given ∷ line) p ms rest c joins = same_before s e d Given line ms (before_begun s e d line (driver_earlier s e Given line p) ms rest c joins)

-- ## The command at its place

-- command lines each begin with AT
pub at_all : (texts : List (List ℕ)) → AreCommandLines texts → AllAt texts
at_all [] h = tt
at_all (text ∷ texts) h = (at_of text h.0, at_all texts h.1)

at_take : (n : ℕ) (qs : List Request) → AllAt (map line_of qs) → AllAt (map line_of (take n qs))
at_take zero qs h = tt
at_take (suc n) [] h = tt
at_take (suc n) (q ∷ qs) h = (h.0, at_take n qs h.1)

at_front : (xs ys : List (List ℕ)) → AllAt (xs ++ ys) → AllAt xs
at_front [] ys h = tt
at_front (x ∷ xs) ys h = (h.0, at_front xs ys h.1)

at_last : (xs : List (List ℕ)) (c : List ℕ) → AllAt (xs ++ c ∷ []) → has_at c ≡ true
at_last [] c h = h.0
at_last (x ∷ xs) c h = at_last xs c h.1

-- the commands that began are command lines
commands_at : (s : Setting) (e : End) (d : ℕ) (line : List EndAct) → Along s e line → AllAt (begun_in (marks_at s d line))
unfolding BeginsInTurn
commands_at s e d line p =
    let past = driver_past line in
    let texts = subst (λ r. AreCommandLines (map line_of (accepted r d past))) (sym p.role) (are_lines d past p.commands) in
    subst (λ z. AllAt z) (sym (begins_in_turn s past p.driver_lawful d).first) (at_take _ (accepted s.role d past) (at_all (map line_of (accepted s.role d past)) texts))

-- and so are the lines that were read
lines_at : (s : Setting) (e : End) (d : ℕ) (line : List EndAct) → Along s e line → AllAt (lines_on d (heard (modem_past line)))
lines_at s e d line p =
    let read = read_first s e line p d in
    at_front (lines_on d (heard (modem_past line))) read.rest (subst (λ z. AllAt z) (sym read.joins) (commands_at s e d line p))

at_place : (xs ys us later : List (List ℕ)) (x y : List ℕ) → (xs ++ x ∷ us) ++ later ≡ ys ++ y ∷ [] → length xs ≡ length ys → x ≡ y
at_place [] [] us later x y e size = cc
at_place [] (b ∷ ys) us later x y e size = absurd (omega (arith, size))
at_place (a ∷ xs) [] us later x y e size = absurd (omega (arith, size))
at_place (a ∷ xs) (b ∷ ys) us later x y e size =
    let more : (xs ++ x ∷ us) ++ later ≡ ys ++ y ∷ [] = cc in
    at_place xs ys us later x y more (omega (arith, size))

empty_of : {A : Type 0} (xs : List A) → length xs ≤ 0 → xs ≡ []
empty_of [] h = refl
empty_of (x ∷ xs) h = absurd (omega (arith, h))

ends_front : (xs ys : List (List (List ℕ))) → AllEnd (solicited_in (xs ++ ys)) → AllEnd (solicited_in xs)
ends_front [] ys h = tt
ends_front (x ∷ xs) ys h = (h.0, ends_front xs ys h.1)

same_number : (d : ℕ) → (d == d) ≡ true
same_number d = grind (arith, nat_tests)

-- the command stands where its reply does
read_at : (s : Setting) (e : End) (d : ℕ) (line : List EndAct) → Along s e line → (earlier : List (List ℕ)) (c : List ℕ) → begun_in (marks_at s d line) ≡ earlier ++ c ∷ []
    → (n : ℕ) (r : List (List ℕ)) (h : RepliesAt e.echo d e.modem (heard (modem_past line)) n r) → n ≡ length earlier → h.line ≡ c
read_at s e d line p earlier c begun n r h size =
    let read = read_first s e line p d in
    let split : lines_on d (heard (modem_past line)) ≡ lines_on d h.before ++ h.line ∷ lines_on d h.later =
    ap (lines_on d) h.joins ∙ (on_both d h.before ((d, h.line) ∷ h.later) ∙ ap (λ z. lines_on d h.before ++ z) (line_on d (d, h.line) h.later true (same_number d))) in
    at_place (lines_on d h.before) earlier (lines_on d h.later) read.rest h.line c
    (ap (λ z. z ++ read.rest) (sym split) ∙ (read.joins ∙ begun)) (h.place_is ∙ size)

-- ## The answer

-- the lines behind a command, where its window ends in them
pub record Ended (c : List ℕ) (after : List (List ℕ)) (ans : List AnswerLine) : Type 0 where
  has : has_final standard (answer standard c after) ≡ true
  is : ans ≡ answer_lines (answer standard c after)

some_same : {A : Type 0} (a b : A) → Some a ≡ Some b → a ≡ b
some_same a b e = cc

-- where the window of the last command is answered, its answer ends in the lines behind that command
pub ended_by : (ms : List Mark) (c : List ℕ) (behind more : List (List ℕ)) (w : Window) (ans : List AnswerLine) (all : List Mark) → all ≡ ms ++ Begun c ∷ map Line behind
    → last_window (all ++ map Line more) ≡ Some w → is_answered standard w ≡ true → ans ≡ answer_lines (answer_of standard w) → Ended c (behind ++ more) ans
ended_by ms c behind more w ans all joins last ended is =
    let whole : all ++ map Line more ≡ ms ++ Begun c ∷ map Line (behind ++ more) =
    ap (λ z. z ++ map Line more) joins ∙ (append_assoc ms (Begun c ∷ map Line behind) (map Line more) ∙ ap (λ z. ms ++ Begun c ∷ z) (sym (map-append Line behind more))) in
    let same : w ≡ record { command = c; after = behind ++ more } = some_same w _ (sym last ∙ (ap last_window whole ∙ last_at ms c (behind ++ more))) in
    record { has = ap (is_answered standard) (sym same) ∙ ended; is = is ∙ ap (λ v. answer_lines (answer_of standard v)) same }

-- what came behind the command is the beginning of its own reply
answered_by : (s : Setting) (e : End) (d : ℕ) (line : List EndAct) → Along s e line → (before : List Request) (c : List ℕ) (after : List (List ℕ)) (ans : List AnswerLine)
    → begun_in (marks_at s d line) ≡ map line_of before ++ c ∷ [] → Ended c after ans → (n : ℕ) → n ≡ length before → (r : List (List ℕ)) (rs : List (List (List ℕ)))
    → RepliesAt e.echo d e.modem (heard (modem_past line)) n r → n + suc (length rs) ≡ length (replies_at e d line)
    → IsPrefixOf (filter (is_solicited standard) after) (all_of (solicited_in (r ∷ rs))) → IsAnswerAt e (heard (modem_past line)) d (length before) c ans
answered_by s e d line p before c after ans begun ended n count r rs h total came =
    let m = p.modem_is in
    let X = heard (modem_past line) in
    let read = read_first s e line p d in
    let replied = replied_count e.echo d e.modem X in
    let most : length (lines_on d X) + length read.rest ≡ length before + 1 =
    sym (length-append (lines_on d X) read.rest) ∙ (ap length (read.joins ∙ begun) ∙ (length-append (map line_of before) (c ∷ []) ∙ ap (λ z. z + 1) (length-map before line_of))) in
    let alone : rs ≡ [] = empty_of rs (omega (arith, count, total, replied, most)) in
    let size : n ≡ length (map line_of before) = count ∙ sym (length-map before line_of) in
    let own : h.line ≡ c = read_at s e d line p (map line_of before) c begun n r h size in
    let at : has_at c ≡ true = at_last (map line_of before) c (subst (λ z. AllAt z) begun (commands_at s e d line p)) in
    let texts = m.before ++ texts_of h.before in
    let state : after_lines e.modem (texts_of h.before) ≡ reached m.start texts = ap (λ x. after_lines x (texts_of h.before)) m.is ∙ sym (after_lines-append _ m.before (texts_of h.before)) in
    let reply : r ≡ written_for e.echo (reached m.start texts) c = h.is ∙ (ap (λ x. written_for e.echo x h.line) state ∙ ap (written_for e.echo (reached m.start texts)) own) in
    let one : all_of (solicited_in (r ∷ rs)) ≡ filter (is_solicited standard) (written_for e.echo (reached m.start texts) c) =
    ap (λ z. all_of (solicited_in (r ∷ z))) alone ∙ (append-nil (filter (is_solicited standard) r) ∙ ap (filter (is_solicited standard)) reply) in
    let first = first_same _ (filter (is_solicited standard) after) _ (all_of (solicited_in (r ∷ rs))) refl (sym one) came in
    let given = answer_whole c after (filter (is_solicited standard) (written_for e.echo (reached m.start texts) c)) first (reply_ends m.start m.is_start texts e.echo c at) ended.has in
    record {
      before = h.before;
      later = h.later;
      joins = h.joins ∙ ap (λ l. h.before ++ (d, l) ∷ h.later) own;
      place_is = h.place_is ∙ count;
      answer_is = ended.is ∙ (ap answer_lines given ∙ (reply_answer m.start m.is_start texts e.echo c at ∙ ap (λ x. (step x c).answer) (sym state)));
    }

-- all replies so far came before the command, and what came behind it is the beginning of its reply
pub finishes : (s : Setting) (e : End) (d : ℕ) (line : List EndAct) → Along s e line → (before : List Request) (c : List ℕ) (ms : List Mark) (after rest : List (List ℕ)) (ans : List AnswerLine)
    → begun_in (marks_at s d line) ≡ map line_of before ++ c ∷ [] → begun_in ms ≡ map line_of before → answered standard ms ≡ length (begun_in ms) → IsInTurn standard ms → Before s e d line ms
    → IsPrefixOf (filter (is_solicited standard) (lines_of ms) ++ filter (is_solicited standard) (after ++ rest)) (filter (is_solicited standard) (all_of (replies_at e d line)))
    → Ended c after ans → IsAnswerAt e (heard (modem_past line)) d (length before) c ans
finishes s e d line p before c ms after rest ans begun earlier whole turns h first ended =
    by_more h.so_far.rest h.so_far.joins
  where
    X : List (ℕ × List ℕ)
    X = heard (modem_past line)

    m : IsModem e.modem
    m = p.modem_is

    old : List (List (List ℕ))
    old = solicited_in h.replies

    ends : AllEnd (solicited_in (replies_at e d line))
    ends = all_end m.start m.is_start e.echo d m.before e.modem X m.is (lines_at s e d line p)

    size : length (begun_in ms) ≡ length before
    size = ap length earlier ∙ length-map before line_of

    old_ends : AllEnd old
    old_ends = ends_front h.replies h.so_far.rest (subst (λ z. AllEnd (solicited_in z)) (sym h.so_far.joins) ends)

    old_count : length old ≡ length h.replies
    old_count = length-map h.replies (λ (r : List (List ℕ)). filter (is_solicited standard) r)

    all_old : filter (is_solicited standard) (lines_of ms) ≡ all_of old
    all_old =
        let enough = answered_few ms turns in
        let few = h.few in
        whole_by_count (filter (is_solicited standard) (lines_of ms)) old (first_same _ (filter (is_solicited standard) (lines_of ms)) _ (filter (is_solicited standard) (all_of h.replies)) refl (sym (all_solicited_in h.replies)) h.first) old_ends (omega (arith, enough, few, whole, old_count))

    count : length h.replies ≡ length before
    count =
        let enough = answered_few ms turns in
        let few = h.few in
        let codes : finals (filter (is_solicited standard) (lines_of ms)) ≡ length h.replies = ap finals all_old ∙ (all_finals old old_ends ∙ old_count) in
        omega (arith, enough, few, codes, whole, size)

    by_more : (more : List (List (List ℕ))) → h.replies ++ more ≡ replies_at e d line → IsAnswerAt e X d (length before) c ans
    by_more more joins = by_reply more joins behind
      where
        behind : IsPrefixOf (filter (is_solicited standard) after) (all_of (solicited_in more))
        behind =
            let parts : filter (is_solicited standard) (all_of (replies_at e d line)) ≡ all_of old ++ all_of (solicited_in more) =
            all_solicited_in (replies_at e d line)
            ∙ (ap (λ z. all_of (solicited_in z)) (sym joins)
            ∙ (ap all_of (map-append (λ (r : List (List ℕ)). filter (is_solicited standard) r) h.replies more)
            ∙ all-append old (solicited_in more))) in
            let left : all_of old ++ (filter (is_solicited standard) (after ++ rest) ++ first.rest) ≡ all_of old ++ all_of (solicited_in more) =
            sym (append_assoc (all_of old) (filter (is_solicited standard) (after ++ rest)) first.rest)
            ∙ (ap (λ z. (z ++ filter (is_solicited standard) (after ++ rest)) ++ first.rest) (sym all_old) ∙ (first.joins ∙ parts)) in
            let tail = append_cancel_left (all_of old) (filter (is_solicited standard) (after ++ rest) ++ first.rest) (all_of (solicited_in more)) left in
            record {
              rest = filter (is_solicited standard) rest ++ first.rest;
              joins = sym (append_assoc (filter (is_solicited standard) after) (filter (is_solicited standard) rest) first.rest)
                  ∙ (ap (λ z. z ++ first.rest) (sym (filter-append (is_solicited standard) after rest)) ∙ tail);
            }

        by_reply : (rs : List (List (List ℕ))) → h.replies ++ rs ≡ replies_at e d line → IsPrefixOf (filter (is_solicited standard) after) (all_of (solicited_in rs)) → IsAnswerAt e X d (length before) c ans
        by_reply [] joined came =
            let some = some_answered c after ended.has in
            let none : finals (filter (is_solicited standard) after) ≡ 0 = ap finals (nothing_left (filter (is_solicited standard) after) came.rest came.joins) in
            absurd (omega (arith, some, none))
        by_reply (r ∷ rs) joined came = answered_by s e d line p before c after ans begun ended (length h.replies) count r rs (replies_at_place e.echo d e.modem X h.replies r rs (sym joined)) (sym (length-append h.replies (r ∷ rs)) ∙ ap length joined) came
