-- The laws of one modem.
use Rattle.std.specs.Prelude.{◌≡◌, ℕ, ◌&&◌, Bool, true, false, List, [], ◌∷◌, ◌++◌, length, map, filter, take, drop, Some, refl}
use Rattle.std.proofs.Common.{sym, ap, ◌∙◌, subst, append_assoc}
use Rattle.std.proofs.lemmas.Bool.{and_parts}
use Rattle.std.proofs.lemmas.List.{map-append, take-append-drop}
use Rattle.std.proofs.lemmas.List.Elements.{filter-append}
use Rattle.mux_frame.specs.Frames.{Frame}
use Rattle.mux_station.specs.Acts as station
use Rattle.mux_station.specs.Opening.{is_open, opens_now}
use Rattle.at_text.specs.declared.answer.AnswerLine.{AnswerLine}
use Rattle.at_text.specs.Dialects.{standard, is_solicited}
use Rattle.at_text.specs.Lines.{lines}
use Rattle.at_text.specs.Seeing.{answer_lines}
use Rattle.at_text.specs.Windows.{Line, Begun, Window, IsInTurn, answer_of, is_answered, last_window, lines_of}
use Rattle.at_text.proofs.windows.AnswerWindows.{lines_of-append}
use Rattle.modem_desk.specs.declared.request.Request.{Request}
use Rattle.modem_history.specs.Acts as driver
use Rattle.modem_history.specs.Acts.{Got, Told}
use Rattle.modem_history.specs.Calls.{Setting}
use Rattle.modem_history.specs.Connections.{begun_in, carries}
use Rattle.modem_history.specs.Information.{line_of}
use Rattle.modem_history.specs.Placing.{marks, run_on}
use Rattle.modem_history.specs.TwoEnds.{ReadsInOrder}
use Rattle.modem_history.specs.Wholes.{BeginsInTurn, IsPrefixOf, TellsOwn}
use Rattle.modem_history.proofs.commands.BegunCommands.{begins_in_turn}
use Rattle.modem_history.proofs.commands.SentCommands.{reads_in_order}
use Rattle.modem_history.proofs.lines.HeardLines.{opens_bare}
use Rattle.modem_history.proofs.outcomes.OwnAnswers.{tells_own}
use Rattle.modem_history.proofs.requests.StepOfFrame.{got_marks}
use Rattle.modem_history.proofs.lines.LinePlaces.{lines_placed_are}
use Rattle.modem_sim.specs.Acts as modem
use Rattle.modem_sim.specs.Acts.{End, Wire, Did}
use Rattle.modem_sim.specs.Heard.{heard}
use Rattle.modem_sim.specs.Replied.{all_of}
use Rattle.one_modem.specs.OneModem.{AtDriver, AtModem, EndAct, IsAnswerAt, ReadsCommands, TellsModem, driver_past, modem_past, modem_wire}
use Rattle.one_modem.proofs.two_ends.LinePoints.{Along, along, both_ways, driver_earlier, first_same, first_then, marks_at, modem_earlier, replied_first, replies_at}
use Rattle.one_modem.proofs.two_ends.ModemAnswers.{before_begun, ended_by, finishes, self_first}
use Rattle.one_modem.proofs.two_ends.ReplyPlaces.{answered_before, last_begun, turn_before}

-- ## What the modem reads

-- the lines that the modem reads are commands that the driver was given, in the order in which they were wholly sent
pub reads_commands : (s : Setting) (e : End) (line : List EndAct) → ReadsCommands s e line
unfolding ReadsCommands ReadsInOrder
reads_commands s e line p =
    reads_in_order s (driver_past line) (modem_wire line) p.is_initiator p.driver_lawful p.commands p.once (both_ways line p.one_line).at_modem

-- ## A point of the line

-- an act of the driver's past, where it stands on the line
record Stands (line : List EndAct) (a : driver.Act) (older : List driver.Act) : Type 0 where
  later : List EndAct
  earlier : List EndAct
  joins : line ≡ later ++ AtDriver a ∷ earlier
  past_is : driver_past earlier ≡ older

stands_at : (line : List EndAct) (newer older : List driver.Act) (a : driver.Act) → driver_past line ≡ newer ++ a ∷ older → Stands line a older
stands_at [] [] older a e = cc
stands_at [] (n ∷ newer) older a e = cc
stands_at (AtModem b ∷ line) newer older a e =
    let h = stands_at line newer older a e in
    record { later = AtModem b ∷ h.later; earlier = h.earlier; joins = ap (λ z. AtModem b ∷ z) h.joins; past_is = h.past_is }
stands_at (AtDriver b ∷ line) [] older a e =
    let same : b ≡ a = cc in
    let rest : driver_past line ≡ older = cc in
    record { later = []; earlier = line; joins = ap (λ z. AtDriver z ∷ line) same; past_is = rest }
stands_at (AtDriver b ∷ line) (n ∷ newer) older a e =
    let rest : driver_past line ≡ newer ++ a ∷ older = cc in
    let h = stands_at line newer older a rest in
    record { later = AtDriver b ∷ h.later; earlier = h.earlier; joins = ap (λ z. AtDriver b ∷ z) h.joins; past_is = h.past_is }

along_later : (s : Setting) (e : End) (later line : List EndAct) → Along s e (later ++ line) → Along s e line
along_later s e [] line p = p
along_later s e (AtDriver a ∷ later) line p = along_later s e later line (driver_earlier s e a (later ++ line) p)
along_later s e (AtModem a ∷ later) line p = along_later s e later line (modem_earlier s e a (later ++ line) p)

-- what was read goes on
heard_grows : (a : modem.Act) (past : List modem.Act) → IsPrefixOf (heard past) (heard (a ∷ past))
heard_grows (Wire (station.Got f)) past = record { rest = _; joins = refl }
heard_grows (Wire (station.Sent f)) past = self_first _
heard_grows (Wire (station.Called c)) past = self_first _
heard_grows (Wire station.Tick) past = self_first _
heard_grows (Wire station.Lost) past = self_first _
heard_grows (Wire station.Given) past = self_first _
heard_grows (Did step) past = self_first _

heard_later : (later line : List EndAct) → IsPrefixOf (heard (modem_past line)) (heard (modem_past (later ++ line)))
heard_later [] line = self_first _
heard_later (AtDriver a ∷ later) line = heard_later later line
heard_later (AtModem a ∷ later) line = first_then _ _ _ (heard_later later line) (heard_grows a (modem_past (later ++ line)))

answer_later : (e : End) (ls more : List (ℕ × List ℕ)) (d place : ℕ) (c : List ℕ) (ans : List AnswerLine) → IsPrefixOf ls more → IsAnswerAt e ls d place c ans → IsAnswerAt e more d place c ans
answer_later e ls more d place c ans first h = record {
  before = h.before;
  later = h.later ++ first.rest;
  joins = sym first.joins ∙ (ap (λ z. z ++ first.rest) h.joins ∙ append_assoc h.before ((d, c) ∷ h.later) first.rest);
  place_is = h.place_is;
  answer_is = h.answer_is;
}

-- ## A frame that ends a window

not_opening : (s : Setting) (past : List driver.Act) (f : Frame) (b : Bool) → opens_now s.role f.dlci (driver.wire past) (station.Got f) ≡ b → carries f.dlci f ≡ true → opens_now s.role f.dlci (driver.wire past) (station.Got f) ≡ false
not_opening s past f true e come = let bare = opens_bare s.role _ _ f.dlci f e in absurd (let g : true ≡ false = sym come ∙ bare in cc)
not_opening s past f false e come = e

gives : (s : Setting) (e : End) (line : List EndAct) (f : Frame) (before : List Request) (c : List ℕ) (count : ℕ) (w : Window) (ans : List AnswerLine) → s.dialect ≡ standard → Along s e (AtDriver (Got f) ∷ line)
    → (carries f.dlci f && is_open s.role f.dlci (driver.wire (driver_past line))) ≡ true → begun_in (marks_at s f.dlci line) ≡ map line_of before ++ c ∷ []
    → last_window (marks_at s f.dlci line ++ map Line (take count (lines (run_on s.role f.dlci (driver_past line) ++ f.info)))) ≡ Some w → is_answered standard w ≡ true → ans ≡ answer_lines (answer_of standard w)
    → IsAnswerAt e (heard (modem_past line)) f.dlci (length before) c ans
unfolding BeginsInTurn
gives s e line f before c count w ans codes p come begun last ended is =
    let d = f.dlci in
    let past = driver_past line in
    let q = driver_earlier s e (Got f) line p in
    let all = lines (run_on s.role d past ++ f.info) in
    let parts = and_parts (carries d f) (is_open s.role d (driver.wire past)) come in
    let lb = last_begun (marks_at s d line) (map line_of before) c begun in
    let turns = subst (λ z. IsInTurn standard z) lb.joins (subst (λ z. IsInTurn z (marks_at s d line)) codes (begins_in_turn s past q.driver_lawful d).in_turn) in
    let own = turn_before lb.before (Begun c ∷ map Line lb.behind) turns in
    let now : marks_at s d (AtDriver (Got f) ∷ line) ≡ lb.before ++ Begun c ∷ map Line (lb.behind ++ all) =
    got_marks s d past f true (not_opening s past f _ refl parts.0) come
    ∙ (ap (λ z. z ++ map Line all) lb.joins
    ∙ (append_assoc lb.before (Begun c ∷ map Line lb.behind) (map Line all)
    ∙ ap (λ z. lb.before ++ Begun c ∷ z) (sym (map-append Line lb.behind all)))) in
    let lines_so : lines_of (marks_at s d (AtDriver (Got f) ∷ line)) ≡ lines_of lb.before ++ (lb.behind ++ all) =
    ap lines_of now ∙ (lines_of-append lb.before (Begun c ∷ map Line (lb.behind ++ all)) ∙ ap (λ z. lines_of lb.before ++ z) (lines_placed_are (lb.behind ++ all))) in
    let cut : (lb.behind ++ take count all) ++ drop count all ≡ lb.behind ++ all = append_assoc lb.behind (take count all) (drop count all) ∙ ap (λ z. lb.behind ++ z) (take-append-drop count all) in
    let came : filter (is_solicited standard) (lines_of lb.before) ++ filter (is_solicited standard) ((lb.behind ++ take count all) ++ drop count all) ≡ filter (is_solicited standard) (lines_of (marks_at s d (AtDriver (Got f) ∷ line))) =
    sym (filter-append (is_solicited standard) (lines_of lb.before) ((lb.behind ++ take count all) ++ drop count all)) ∙ ap (filter (is_solicited standard)) (ap (λ z. lines_of lb.before ++ z) cut ∙ sym lines_so) in
    finishes s e d line q before c lb.before (lb.behind ++ take count all) (drop count all) ans begun lb.begun
    (answered_before lb.before c (map Line lb.behind) turns) own (before_begun s e d line q lb.before (map Line lb.behind) c lb.joins)
    (first_same _ (filter (is_solicited standard) (lines_of (marks_at s d (AtDriver (Got f) ∷ line)))) _ (filter (is_solicited standard) (all_of (replies_at e d line))) came refl (replied_first s e (AtDriver (Got f) ∷ line) p d))
    (ended_by lb.before c lb.behind (take count all) w ans (marks_at s d line) lb.joins last ended is)

-- ## The law

-- each command told Done was read, and is told what the modem answered to it there
pub tells_modem : (s : Setting) (e : End) (line : List EndAct) → TellsModem s e line
unfolding TellsModem TellsOwn
tells_modem s e line p newer older o ans joins done =
    let own = tells_own s (driver_past line) p.driver_lawful p.is_initiator p.calls p.numbers newer older o ans joins done in
    let f = own.frame in
    let whole : driver_past line ≡ (newer ++ Told o ∷ own.newer) ++ Got f ∷ own.older =
    joins ∙ (ap (λ z. newer ++ Told o ∷ z) own.joins ∙ sym (append_assoc newer (Told o ∷ own.newer) (Got f ∷ own.older))) in
    let at = stands_at line (newer ++ Told o ∷ own.newer) own.older (Got f) whole in
    let here = along_later s e at.later (AtDriver (Got f) ∷ at.earlier) (subst (λ z. Along s e z) at.joins (along s e line p)) in
    let past = at.past_is in
    let r = line_of own.request in
    let gave = gives s e at.earlier f own.owns.before r own.owns.ends.count own.owns.ends.window ans p.codes here
    (ap (λ z. carries f.dlci f && is_open s.role f.dlci (driver.wire z)) past ∙ own.owns.brings)
    (ap (λ z. begun_in (marks s.role f.dlci z)) past ∙ own.owns.begun_are)
    (ap (λ z. last_window (marks s.role f.dlci z ++ map Line (take own.owns.ends.count (lines (run_on s.role f.dlci z ++ f.info))))) past ∙ own.owns.ends.is_last)
    (subst (λ z. is_answered z own.owns.ends.window ≡ true) p.codes own.owns.ends.ended)
    (subst (λ z. ans ≡ answer_lines (answer_of z own.owns.ends.window)) p.codes own.owns.ends.answer) in
    record {
      own = own;
      modem_gave = subst (λ z. IsAnswerAt e (heard (modem_past z)) f.dlci (length own.owns.before) r ans) (sym at.joins)
          (answer_later e (heard (modem_past at.earlier)) (heard (modem_past (at.later ++ AtDriver (Got f) ∷ at.earlier))) f.dlci (length own.owns.before) r ans (heard_later at.later (AtDriver (Got f) ∷ at.earlier)) gave);
    }
