-- A simulated modem answers commands alone: each reply has one final code.
use Rattle.std.specs.Prelude.{◌≡◌, zero, suc, ℕ, ◌≤◌, true, List, [], ◌∷◌, ◌++◌, filter, is_none, length, map, Option, Some, None, refl, take}
use Rattle.std.proofs.Common.{ap, append-nil, arith, subst, sym, ◌∙◌}
use Rattle.std.proofs.lemmas.List.{length-map}
use Rattle.mux_station.specs.declared.role.Role.TheVariants.{Responder}
use Rattle.mux_station.specs.Offering.{data_out}
use Rattle.at_text.specs.declared.error.TextError.{TextError}
use Rattle.at_text.specs.Commands.{refusal_of}
use Rattle.at_text.specs.Dialects.{is_solicited, standard}
use Rattle.at_text.specs.Lines.{lines}
use Rattle.modem_desk.specs.declared.request.Request.{Request}
use Rattle.modem_history.specs.Calls.{Setting}
use Rattle.modem_history.specs.Connections.{begun_in, information_got, lines_on}
use Rattle.modem_history.specs.Information.{accepted, line_of}
use Rattle.modem_history.specs.Placements.{AreCommandLines}
use Rattle.modem_history.specs.Wholes.{BeginsInTurn}
use Rattle.modem_history.proofs.commands.BegunCommands.{begins_in_turn}
use Rattle.modem_history.proofs.commands.SentCommands.{are_lines}
use Rattle.modem_sim.specs.Acts.{Did, End, Wire}
use Rattle.modem_sim.specs.Heard.{heard}
use Rattle.modem_sim.specs.Histories.{SimLawful}
use Rattle.modem_sim.specs.Outboxes.{outbox, replies_since}
use Rattle.modem_sim.specs.Pieces.{Piece, asked_for}
use Rattle.modem_sim.specs.Replied.{SendsReplies, all_of, text_of}
use Rattle.modem_sim.proofs.connections.Outboxes.{says_replies}
use Rattle.modem_sim.proofs.replies.PieceLines.{asked_lines, lines_said, says_sound}
use Rattle.modem_sim.proofs.replies.ReplyOrder.{sends_replies, since_are}
use Rattle.one_modem.specs.OneModem.{AtDriver, AtModem, EndAct, driver_past, modem_past, modem_wire}
use Rattle.one_modem.proofs.two_ends.FinalCodes.{all_finals, finals, finals-append}
use Rattle.one_modem.proofs.two_ends.LinePoints.{Along, behind_there, driver_earlier, lines_heard, marks_at, modem_earlier, once_there, read_first, replies_at}
use Rattle.one_modem.proofs.two_ends.ModemAnswers.{at_all}
use Rattle.one_modem.proofs.two_ends.ReplyPlaces.{all_end, all_solicited_in, at_of, plain_command, replied_count, solicited_in}
use Rattle.show_laws.specs.Simulated.{HasSaidAll}
use Rattle.show_laws.specs.Talks.{AnswersCommands, AnswersNoMore, TellsApart, commands_in, finals_in}
use Rattle.show_laws.proofs.counts.ManyFrames.{unit}
use Rattle.show_laws.proofs.talks.CountedLines.{counted}

-- ## Command lines

first_taken : (n : ℕ) (qs : List Request) → AreCommandLines (map line_of qs) → AreCommandLines (map line_of (take n qs))
first_taken zero qs h = tt
first_taken (suc n) [] h = tt
first_taken (suc n) (q ∷ qs) h = (h.0, first_taken n qs h.1)

first_commands : (xs ys : List (List ℕ)) → AreCommandLines (xs ++ ys) → AreCommandLines xs
first_commands [] ys h = tt
first_commands (x ∷ xs) ys h = (h.0, first_commands xs ys h.1)

all_commands : (ls : List (List ℕ)) → AreCommandLines ls → commands_in ls ≡ length ls
all_commands [] h = refl
all_commands (l ∷ ls) h =
    let e = counted (is_none (refusal_of l)) l (filter (λ (x : List ℕ). is_none (refusal_of x)) ls) in
    let u : unit (is_none (refusal_of l)) ≡ 1 = ap (λ (o : Option TextError). unit (is_none o)) h.0 in
    let k = all_commands ls h.1 in
    omega (arith, e, u, k)

-- the lines that the modem reads are commands
heard_commands : (s : Setting) (e : End) (d : ℕ) (line : List EndAct) → Along s e line → AreCommandLines (lines_on d (heard (modem_past line)))
unfolding BeginsInTurn
heard_commands s e d line p =
    let past = driver_past line in
    let texts = subst (λ r. AreCommandLines (map line_of (accepted r d past))) (sym p.role) (are_lines d past p.commands) in
    let read = read_first s e line p d in
    let begun : AreCommandLines (begun_in (marks_at s d line)) = subst (λ z. AreCommandLines z) (sym (begins_in_turn s past p.driver_lawful d).first) (first_taken _ (accepted s.role d past) texts) in
    first_commands (lines_on d (heard (modem_past line))) read.rest (subst (λ z. AreCommandLines z) (sym read.joins) begun)

-- ## Final codes

-- what left has no more final codes than the replies, which have one each
no_more : (s : Setting) (e : End) (line : List EndAct) → Along s e line → AnswersNoMore standard (modem_wire line)
unfolding SendsReplies
no_more s e line p d =
    let past = modem_past line in
    let one = once_there s e line p d in
    let lawful : SimLawful e past = record { at_station = p.station_lawful; acts = p.allowed } in
    let first = sends_replies e past lawful p.modem_is p.announced d one in
    let left = filter (is_solicited standard) (lines (data_out Responder d (modem_wire line))) in
    let rs = replies_at e d line in
    let commands = heard_commands s e d line p in
    let ends = all_end p.modem_is.start p.modem_is.is_start e.echo d p.modem_is.before e.modem (heard past) p.modem_is.is (at_all (lines_on d (heard past)) commands) in
    let parts = finals-append left first.rest in
    let joined : finals (left ++ first.rest) ≡ finals (filter (is_solicited standard) (all_of rs)) = ap finals first.joins in
    let all : finals (filter (is_solicited standard) (all_of rs)) ≡ finals (all_of (solicited_in rs)) = ap finals (all_solicited_in rs) in
    let ones = all_finals (solicited_in rs) ends in
    let size : length (solicited_in rs) ≡ length rs = length-map rs (λ (r : List (List ℕ)). filter (is_solicited standard) r) in
    let count = replied_count e.echo d e.modem (heard past) in
    let each = all_commands (lines_on d (heard past)) commands in
    let came : commands_in (lines_on d (heard past)) ≡ commands_in (lines (information_got Responder d (modem_wire line))) =
    ap commands_in (lines_heard d (modem_wire line) one (behind_there s e line p d)) in
    omega (arith, parts, joined, all, ones, size, count, each, came)

-- at each point of its past a simulated modem sent no more final codes than command lines came
pub answers_commands : (s : Setting) (e : End) (line : List EndAct) → Along s e line → AnswersCommands standard (modem_wire line)
answers_commands s e [] p = tt
answers_commands s e (AtDriver a ∷ line) p = answers_commands s e line (driver_earlier s e a line p)
answers_commands s e (AtModem (Wire a) ∷ line) p = (no_more s e (AtModem (Wire a) ∷ line) p, answers_commands s e line (modem_earlier s e (Wire a) line p))
answers_commands s e (AtModem (Did step) ∷ line) p = answers_commands s e line (modem_earlier s e (Did step) line p)

-- where all that is said has gone out each command has its final code
pub all_answered : (s : Setting) (e : End) (d : ℕ) (line : List EndAct) → Along s e line → HasSaidAll e d line → commands_in (lines (information_got Responder d (modem_wire line))) ≤ finals_in standard (lines (data_out Responder d (modem_wire line)))
unfolding SendsReplies
all_answered s e d line p h =
    let past = modem_past line in
    let one = once_there s e line p d in
    let said = (outbox e d past).said in
    let sound = (says_sound e p.modem_is past p.allowed p.announced d).said in
    let rs = replies_at e d line in
    let told : asked_for said ≡ replies_since e d past =
    sym (append-nil (asked_for said)) ∙ (ap (λ (held : List Piece). asked_for said ++ asked_for held) (sym h.none_held) ∙ says_replies e past d h.is_open) in
    let left : filter (is_solicited standard) (lines (data_out Responder d (modem_wire line))) ≡ filter (is_solicited standard) (all_of rs) =
    ap (λ z. filter (is_solicited standard) (lines z)) h.out
    ∙ (ap (filter (is_solicited standard)) (lines_said said sound)
    ∙ (asked_lines said sound ∙ ap (filter (is_solicited standard)) (ap (map text_of) told ∙ since_are e d past one))) in
    let commands = heard_commands s e d line p in
    let ends = all_end p.modem_is.start p.modem_is.is_start e.echo d p.modem_is.before e.modem (heard past) p.modem_is.is (at_all (lines_on d (heard past)) commands) in
    let gone : finals_in standard (lines (data_out Responder d (modem_wire line))) ≡ finals (filter (is_solicited standard) (all_of rs)) = ap finals left in
    let all : finals (filter (is_solicited standard) (all_of rs)) ≡ finals (all_of (solicited_in rs)) = ap finals (all_solicited_in rs) in
    let ones = all_finals (solicited_in rs) ends in
    let size : length (solicited_in rs) ≡ length rs = length-map rs (λ (r : List (List ℕ)). filter (is_solicited standard) r) in
    let count = replied_count e.echo d e.modem (heard past) in
    let each = all_commands (lines_on d (heard past)) commands in
    let came : commands_in (lines_on d (heard past)) ≡ commands_in (lines (information_got Responder d (modem_wire line))) =
    ap commands_in (lines_heard d (modem_wire line) one (behind_there s e line p d)) in
    omega (arith, gone, all, ones, size, count, each, came)

-- no command line is a final code of the standard
pub tells_apart : TellsApart standard
tells_apart l is = (plain_command l (at_of l (none_is (refusal_of l) is))).no_final
  where
    none_is : (o : Option TextError) → is_none o ≡ true → o ≡ None
    none_is None e = refl
    none_is (Some x) e = cc
