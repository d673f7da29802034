-- The command whose window is open is the first in hand on its connection.
use Rattle.std.specs.Prelude.{◌≡◌, ℕ, ◌+◌, ◌<◌, ◌≤◌, ◌==◌, ◌&&◌, Bool, true, false, List, [], ◌∷◌, ◌++◌, length, map, take, refl, if◌then◌else◌, Option, Some, None, option_map, is_some, is_none}
use Rattle.std.specs.List.{last_or}
use Rattle.std.proofs.Common.{ap, sym, subst, ◌∙◌, arith, length-append}
use Rattle.std.proofs.lemmas.List.{map-append}
use Rattle.std.proofs.Math.Seq.{take-append-add}
use Rattle.mux_station.specs.declared.role.Role.TheVariants.{Initiator}
use Rattle.mux_station.specs.Acts as station
use Rattle.mux_station.specs.Opening.{is_open}
use Rattle.at_text.specs.declared.unsolicited.UrcKind.{UrcKind}
use Rattle.at_text.specs.Dialects.{Dialect}
use Rattle.at_text.specs.Windows.{Mark, Window, is_answered, open_of, open_window, windows}
use Rattle.at_text.specs.OpenWindow.{shown}
use Rattle.at_text.specs.UnderWay.{UnderWay, window_of}
use Rattle.at_text.proofs.windows.AnswersUnderWay.{window_fits}
use Rattle.modem_desk.specs.declared.request.Request.{Request}
use Rattle.modem_history.specs.Acts.{Act, wire, in_hand}
use Rattle.modem_history.specs.Information.{accepted, information_out, line_of, texts}
use Rattle.modem_history.specs.Placing.{marks, whole_in}
use Rattle.modem_history.specs.Calls.{Setting, is_lost}
use Rattle.modem_history.specs.Begun.{begun_count}
use Rattle.modem_history.specs.Wholes.{InStep, begun_in, commands_for}
use Rattle.modem_history.proofs.commands.BegunCommands as begins
use Rattle.modem_history.proofs.commands.BegunCommands.{begun_counted, texts_counted}
use Rattle.modem_history.proofs.commands.CommandOrder.{open_count, counts}
use Rattle.modem_history.proofs.commands.WholeTexts.{whole_few}
use Rattle.modem_history.proofs.requests.RequestsAfterCalls.{head_of, first_head}
use Rattle.modem_core.specs.Lanes.{Lane}
use Rattle.modem_core.specs.Cores.{dialect_in, Core, LaneFits, IsRun, lane_at}
use Rattle.modem_core.specs.Handing.{text_on, window_by, WindowFits}
use Rattle.modem_queues.specs.Hands.{text_or}
use Rattle.modem_core.proofs.commands.NextCommand.{began}
use Rattle.modem_core.proofs.outgoing.CoreAfterFrame.{own, own_is, running}
use Rattle.modem_core.proofs.frames.DataLanes.{step_of}

-- ## A command's text changes not whether one is under way

some_same : (command : List ℕ) (u : Option UnderWay) → is_some u ≡ is_some (window_of command u)
some_same command None = refl
some_same command (Some u) = refl

none_same : (command : List ℕ) (u : Option UnderWay) → is_none u ≡ is_none (window_of command u)
none_same command None = refl
none_same command (Some u) = refl

-- one that was under way is no more where its window has closed
pub ends_same : (command : List ℕ) (u v : Option UnderWay) → (is_some u && is_none v) ≡ (is_some (window_of command u) && is_none (window_of command v))
ends_same command u v = ap (λ (b : Bool). b && is_none v) (some_same command u) ∙ ap (λ (b : Bool). is_some (window_of command u) && b) (none_same command v)

-- ## The last command that began

last_command : (o : Option Window) (ws : List Window) (w : Window) (xs : List (List ℕ)) (c : List ℕ) → last_or o ws ≡ Some w → map (λ (v : Window). v.command) ws ≡ xs ++ c ∷ [] → w.command ≡ c
last_command o [] w [] c e h = cc
last_command o [] w (x ∷ xs) c e h = cc
last_command o (v ∷ []) w [] c e h = let same : v ≡ w = cc in let named : v.command ≡ c = cc in ap (λ (u : Window). u.command) (sym same) ∙ named
last_command o (v ∷ u ∷ vs) w [] c e h = cc
last_command o (v ∷ vs) w (x ∷ xs) c e h = let rest : map (λ (u : Window). u.command) vs ≡ xs ++ c ∷ [] = cc in last_command (Some v) vs w xs c e rest

last_is : (dialect : Dialect) (o : Option Window) (w : Window) → open_of dialect o ≡ Some w → o ≡ Some w
last_is dialect None w e = cc
last_is dialect (Some v) w e = by_answer (is_answered dialect v) e
  where
    by_answer : (b : Bool) → (if b then None else Some v) ≡ Some w → Some v ≡ Some w
    by_answer true e = cc
    by_answer false e = e

-- the commands that began are those whose answer is whole, and the one whose window is open
text_of_first : (s : Setting) (d : ℕ) (past : List Act) (w : Window) → InStep s d past → begins.KeptCommands s.dialect (marks s.role d past) (information_out s.role d past) (accepted s.role d past)
    → open_window s.dialect (marks s.role d past) ≡ Some w → (cs : List Request) → commands_for d (in_hand past) ≡ cs → text_or (option_map line_of (head_of cs)) ≡ w.command
text_of_first s d past w i b e cs h = by_commands cs h
  where
    ms : List Mark
    ms = marks s.role d past

    acc : List Request
    acc = accepted s.role d past

    n : ℕ
    n = whole_in (length (information_out s.role d past)) (texts acc)

    few : n ≤ length acc
    few = omega (arith, whole_few (length (information_out s.role d past)) (texts acc), texts_counted acc)

    size : begun_count ms ≡ n
    size = began s.dialect ms (information_out s.role d past) acc b

    count : n ≡ length i.before + 1
    count =
        let one : open_count (open_window s.dialect ms) ≡ 1 = ap open_count e in
        let all = counts s.dialect ms b.turns.order in
        let ans = i.answered_are in
        omega (arith, size, one, all, ans)

    by_commands : (cs : List Request) → commands_for d (in_hand past) ≡ cs → text_or (option_map line_of (head_of cs)) ≡ w.command
    by_commands [] h =
        let accepts : acc ≡ i.before ++ [] = i.accepted_are ∙ ap (λ (v : List Request). i.before ++ v) h in
        let long = ap length accepts ∙ length-append i.before [] in
        absurd (omega (arith, few, count, long))
    by_commands (r ∷ rest) h =
        let accepts : acc ≡ i.before ++ r ∷ rest = i.accepted_are ∙ ap (λ (v : List Request). i.before ++ v) h in
        let front : take n acc ≡ i.before ++ r ∷ [] = ap (λ (m : ℕ). take m acc) count ∙ (ap (take (length i.before + 1)) accepts ∙ take-append-add i.before (r ∷ rest) 1) in
        let begun : begun_in ms ≡ map line_of i.before ++ line_of r ∷ [] = b.first ∙ (ap (map line_of) front ∙ map-append line_of i.before (r ∷ [])) in
        sym (last_command None (windows ms) w (map line_of i.before) (line_of r) (last_is s.dialect (last_or None (windows ms)) w e) begun)

-- the window of a connection, with the text of the first command in hand there, is the one that is open
pub window_shows : (v : Core) (l : UrcKind → Bool) (past : List Act) (seen : List station.Act) (d : ℕ) (lane : Lane) → is_lost past ≡ false → in_hand past ≡ v.hand → IsRun (own v l) past → (d == 0) ≡ false
    → is_open Initiator d (wire past) ≡ true → LaneFits (dialect_in v) d seen past lane → window_by v.hand d lane ≡ option_map (shown (dialect_in v)) (open_window (dialect_in v) (marks Initiator d past))
window_shows v l past seen d lane live hand run z o k =
    let s = own v l in
    let i = step_of s past d refl run live z o in
    let first : text_on d v.hand ≡ text_or (option_map line_of (head_of (commands_for d (in_hand past))))
    = ap (text_on d) (sym hand) ∙ ap (λ (q : Option Request). text_or (option_map line_of q)) (first_head d (in_hand past)) in
    (window_fits (dialect_in v) (text_on d v.hand) lane.under_way (marks Initiator d past)
    (λ w e. first ∙ text_of_first s d past w i (begins.kept s past run.lawful d) e (commands_for d (in_hand past)) refl) k.under_way_fits).shows

-- and fits all that was placed on the connection
pub windows_fit : (v : Core) (d : ℕ) → d < 62 → (d == 0) ≡ false → WindowFits v d
unfolding WindowFits
windows_fit v d l z s past m n o =
    let r = running v past n m.fits in
    let k = r.lanes_fit d l z o in
    let run = subst (λ (x : Setting). IsRun x past) (own_is s v m.setting) m.run in
    record { in_turn = k.under_way_fits.in_turn; shows = window_shows v s.listens past r.seen d (lane_at v d) (m.fits.lost_is ∙ n) m.fits.hand_is run z o k }
