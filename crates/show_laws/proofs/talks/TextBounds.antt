-- How many commands the driver has sent with a frame, and how many final codes the modem, by what the other end did.
use Rattle.std.specs.Prelude.{◌≡◌, ℕ, ◌+◌, ◌≤◌, ◌&&◌, Bool, true, List, [], ◌∷◌, ◌++◌, length, map, take, min, refl, if◌then◌else◌}
use Rattle.std.proofs.Common.{ap, arith, length-take, sym, ◌∙◌, subst}
use Rattle.std.proofs.lemmas.Bool.{leb-true}
use Rattle.mux_frame.specs.Frames.{Frame}
use Rattle.mux_frame.specs.declared.frame.Kind.TheVariants.{Sabm}
use Rattle.mux_station.specs.declared.role.Role.{Role}
use Rattle.mux_station.specs.declared.role.Role.TheVariants.{Initiator, Responder}
use Rattle.mux_station.specs.Acts as station
use Rattle.mux_station.specs.Offering.{data_out}
use Rattle.mux_station.specs.Opening.{is_open}
use Rattle.mux_station.specs.Written.{is_data_frame, is_on}
use Rattle.at_text.specs.Lines.{lines}
use Rattle.at_text.specs.Windows.{answered, lines_of}
use Rattle.modem_desk.specs.declared.request.Request.{Request}
use Rattle.modem_history.specs.Acts as driver
use Rattle.modem_history.specs.Acts.{wire}
use Rattle.modem_history.specs.Calls.{Setting}
use Rattle.modem_history.specs.Connections.{carries, information_got, information_sent, reached_in, whole_in}
use Rattle.modem_history.specs.Information.{accepted, information_out, line_of, texts}
use Rattle.modem_history.specs.Lawful.{Lawful}
use Rattle.modem_history.specs.Placements.{AreCommandLines, ReadsAccepted}
use Rattle.modem_history.specs.Placing.{marks, whole_after}
use Rattle.modem_history.specs.TwoEnds.{frames_got, frames_sent}
use Rattle.modem_history.specs.Wholes.{IsPrefixOf}
use Rattle.modem_history.proofs.commands.BegunCommands.{kept, opens_by_sent}
use Rattle.modem_history.proofs.commands.FramesOnLine.{AsksOne, ComesBehind, asks_older, behind_older, hears, info_in, info_some}
use Rattle.modem_history.proofs.commands.ReadCommands.{reads_accepted}
use Rattle.modem_history.proofs.commands.SentCommands.{are_lines, asks_of, sent_behind, while_open}
use Rattle.modem_history.proofs.commands.SentPrefixes.{when_true}
use Rattle.modem_history.proofs.commands.TextCounts.{texts_filled}
use Rattle.modem_history.proofs.commands.WholeTexts.{whole_reached}
use Rattle.modem_history.proofs.connections.InformationGrowth.{got_same, sent_grows}
use Rattle.modem_history.proofs.lines.LinePlaces.{placed_lines}
use Rattle.modem_history.proofs.lines.MarkPlaces.{are_placed}
use Rattle.one_modem.proofs.two_ends.InitiatorFrames.{given_is, info_later}
use Rattle.show_laws.specs.Lines.{AtDriver, AtModem, LineAct, driver_past, modem_past}
use Rattle.show_laws.specs.Talks.{IsTalkingLine, commands_in, finals_in}
use Rattle.show_laws.proofs.lines.CapturedFrames.{both_ways, came_few}
use Rattle.show_laws.proofs.openings.BothOpen as modem_data
use Rattle.show_laws.proofs.openings.DiscBehindUa.{once_many}
use Rattle.show_laws.proofs.talks.CountedLines.{answered_few, commands_few, commands_first, finals_first}
use Rattle.show_laws.proofs.talks.SentText.{driver_got_all, modem_sent_all}
use Rattle.show_laws.proofs.talks.TalkingLines.{talking_asked, talking_before}

same_first : (x y z : List ℕ) → y ≡ z → IsPrefixOf x y → IsPrefixOf x z
same_first x y z e h = record { rest = h.rest; joins = h.joins ∙ e }

-- ## The driver

-- commands among the lines that are sent, and answers among the lines that came
turns : (s : Setting) (past : List driver.Act) (f : Frame) → Lawful s (driver.Sent f ∷ past) → is_data_frame f ≡ true
    → reached_in (length (information_out s.role f.dlci past ++ f.info)) (texts (accepted s.role f.dlci past)) ≤ answered s.dialect (marks s.role f.dlci past) + 1
unfolding Lawful
turns s past f l is = leb-true (reached_in (length (information_out s.role f.dlci past ++ f.info)) (texts (accepted s.role f.dlci past))) (answered s.dialect (marks s.role f.dlci past) + 1) (when_true (is_data_frame f) is l.0.in_turn)

few_taken : {X : Type 0} → (n : ℕ) (xs : List X) → length (take n xs) ≤ n
few_taken n xs = let e = length-take n xs in least n (length xs) (length (take n xs)) e
  where
    least : (a b c : ℕ) → c ≡ min a b → c ≤ a
    least a b c e = omega (arith, e)

-- the commands that are whole with the frame are no more than it reaches into
sent_commands : (s : Setting) (past : List driver.Act) (f : Frame) → Lawful s (driver.Sent f ∷ past) → AreCommandLines (map line_of (accepted s.role f.dlci past)) → is_data_frame f ≡ true
    → information_out s.role f.dlci (driver.Sent f ∷ past) ≡ information_out s.role f.dlci past ++ f.info
    → commands_in (lines (information_out s.role f.dlci (driver.Sent f ∷ past))) ≤ answered s.dialect (marks s.role f.dlci past) + 1
unfolding ReadsAccepted
sent_commands s past f l plain is grows =
    let d = f.dlci in
    let now = driver.Sent f ∷ past in
    let out = information_out s.role d now in
    let same : accepted s.role d now ≡ accepted s.role d past = ap (λ (b : Bool). if b then [] else accepted s.role d past) (opens_by_sent s.role _ _ d f) in
    let reads = reads_accepted s now l d (subst (λ (qs : List Request). AreCommandLines (map line_of qs)) (sym same) plain) in
    let all = commands_few (lines out) in
    let size : length (lines out) ≡ length (map line_of (whole_after (length out) (accepted s.role d now))) = ap length reads in
    let mapped = map_size (whole_after (length out) (accepted s.role d now)) in
    let taken = few_taken (whole_in (length out) (texts (accepted s.role d now))) (accepted s.role d now) in
    let whole = whole_reached (length out) (texts (accepted s.role d now)) (texts_filled (accepted s.role d now)) in
    let reached : reached_in (length out) (texts (accepted s.role d now)) ≡ reached_in (length (information_out s.role d past ++ f.info)) (texts (accepted s.role d past)) =
    ap (λ (qs : List Request). reached_in (length out) (texts qs)) same ∙ ap (λ (x : List ℕ). reached_in (length x) (texts (accepted s.role d past))) grows in
    let turn = turns s past f l is in
    omega (arith, all, size, mapped, taken, whole, reached, turn)
  where
    map_size : (qs : List Request) → length (map line_of qs) ≡ length qs
    map_size [] = refl
    map_size (q ∷ qs) = let e = map_size qs in omega (arith, e)

-- an answer that is whole has its final code among the lines that came
came_finals : (s : Setting) (past : List driver.Act) (d : ℕ) → Lawful s past → answered s.dialect (marks s.role d past) ≤ finals_in s.dialect (lines (information_got s.role d (wire past)))
came_finals s past d l =
    let few = answered_few s.dialect (marks s.role d past) (kept s past l d).turns.in_turn in
    let same : finals_in s.dialect (lines_of (marks s.role d past)) ≡ finals_in s.dialect (lines (information_got s.role d (wire past))) =
    ap (finals_in s.dialect) (ap lines_of (are_placed s past l d) ∙ placed_lines s.role d (map line_of (accepted s.role d past)) (wire past)) in
    omega (arith, few, same)

-- with data of the driver the command lines sent on its connection are one more at most than the final codes of the modem
pub driver_bound : (s : Setting) (n1 : ℕ) (f : Frame) (line : List LineAct) → IsTalkingLine s n1 (AtDriver (driver.Sent f) ∷ line) → is_data_frame f ≡ true → carries f.dlci f ≡ true
    → commands_in (lines (info_in f.dlci (frames_sent (wire (driver_past line))) ++ f.info)) ≤ finals_in s.dialect (lines (info_in f.dlci (frames_sent (modem_past line)))) + 1
driver_bound s n1 f line h is carry =
    let d = f.dlci in
    let past = driver_past line in
    let p = wire past in
    let now = driver.Sent f ∷ past in
    let k = talking_before s n1 (AtDriver (driver.Sent f)) line h in
    let role = k.lawful.is_initiator in
    let gate = while_open s now role h.lawful.driver_lawful in
    let o : is_open Initiator d p ≡ true = gate.0 d carry in
    let there : (carries d f && is_open s.role d p) ≡ true = ap (λ (b : Bool). b && is_open s.role d p) carry ∙ (ap (λ (r : Role). is_open r d p) role ∙ o) in
    let grows : information_out s.role d now ≡ information_out s.role d past ++ f.info =
    sent_grows s.role d p f ∙ ap (λ (b : Bool). if b then information_sent s.role d p ++ f.info else information_sent s.role d p) there in
    let out : information_out s.role d now ≡ info_in d (frames_sent p) ++ f.info =
    ap (λ (r : Role). information_sent r d (wire now)) role ∙ ((asks_of d (wire now) (h.once d) gate).all ∙ ap (λ z. info_in d (frames_sent p) ++ z) (info_some d f carry)) in
    let plain = subst (λ (r : Role). AreCommandLines (map line_of (accepted r d past))) (sym role) (are_lines d past k.commands) in
    let few = sent_commands s past f h.lawful.driver_lawful plain is grows in
    let same : commands_in (lines (information_out s.role d now)) ≡ commands_in (lines (info_in d (frames_sent p) ++ f.info)) = ap (λ z. commands_in (lines z)) out in
    let came = came_finals s past d k.lawful.driver_lawful in
    let got : finals_in s.dialect (lines (information_got s.role d p)) ≡ finals_in s.dialect (lines (info_in d (frames_got p))) =
    ap (λ z. finals_in s.dialect (lines z)) (ap (λ (r : Role). information_got r d p) role ∙ driver_got_all s n1 d line (talking_asked s n1 line k) o) in
    let back = (both_ways line k.lawful.one_line).at_driver in
    let first = finals_first s.dialect (info_in d (frames_got p)) (info_in d (frames_sent (modem_past line)))
    (same_first (info_in d (frames_got p)) (info_in d (back.later ++ frames_got p)) (info_in d (frames_sent (modem_past line))) (sym (ap (info_in d) back.sent_are)) (info_later d back.later (frames_got p))) in
    omega (arith, few, same, came, got, first)

-- ## The modem

-- with data of the modem the final codes sent on its connection are no more than the command lines of the driver
pub modem_bound : (s : Setting) (n1 : ℕ) (f : Frame) (line : List LineAct) → IsTalkingLine s n1 (AtModem (station.Sent f) ∷ line) → is_data_frame f ≡ true → carries f.dlci f ≡ true
    → finals_in s.dialect (lines (info_in f.dlci (frames_sent (modem_past line)) ++ f.info)) ≤ commands_in (lines (info_in f.dlci (frames_sent (wire (driver_past line)))))
modem_bound s n1 f line h is carry =
    let d = f.dlci in
    let past = modem_past line in
    let p = wire (driver_past line) in
    let k = talking_before s n1 (AtModem (station.Sent f)) line h in
    let gated = modem_data.data_gated n1 past f h.lawful.modem_lawful is in
    let there = (both_ways line k.lawful.one_line).at_modem in
    let once = h.once d in
    let many_sent = once_many (is_on Sabm d) (frames_sent p) in
    let came = came_few (is_on Sabm d) p past there in
    let open_there : (carries d f && is_open Responder d past) ≡ true = ap (λ (b : Bool). b && is_open Responder d past) carry ∙ gated.is_open in
    let sent : data_out Responder d (station.Sent f ∷ past) ≡ info_in d (frames_sent past) ++ f.info =
    given_is d (station.Sent f ∷ past)
    ∙ (sent_grows Responder d past f
    ∙ (ap (λ (b : Bool). if b then information_sent Responder d past ++ f.info else information_sent Responder d past) open_there
    ∙ ap (λ z. z ++ f.info) (modem_sent_all n1 d past k.lawful.modem_lawful (omega (arith, once, many_sent, came)) gated.is_open))) in
    let out : finals_in s.dialect (lines (data_out Responder d (station.Sent f ∷ past))) ≡ finals_in s.dialect (lines (info_in d (frames_sent past) ++ f.info)) =
    ap (λ z. finals_in s.dialect (lines z)) sent in
    let answers = h.answers.0 d in
    let still : commands_in (lines (information_got Responder d (station.Sent f ∷ past))) ≡ commands_in (lines (information_got Responder d past)) =
    ap (λ z. commands_in (lines z)) (got_same Responder d past (station.Sent f) refl) in
    let one = asks_older d there.later (frames_got past) (subst (λ (fs : List Frame). AsksOne d fs) there.sent_are (h.once d)) in
    let behind = behind_older d there.later (frames_got past) (subst (λ fs. ComesBehind d fs) there.sent_are (sent_behind d p (h.once d) (while_open s (driver_past line) k.lawful.is_initiator k.lawful.driver_lawful))) in
    let got : commands_in (lines (information_got Responder d past)) ≡ commands_in (lines (info_in d (frames_got past))) = ap (λ z. commands_in (lines z)) ((hears d past one behind).all gated.is_open) in
    let first = commands_first (info_in d (frames_got past)) (info_in d (frames_sent p))
    (same_first (info_in d (frames_got past)) (info_in d (there.later ++ frames_got past)) (info_in d (frames_sent p)) (sym (ap (info_in d) there.sent_are)) (info_later d there.later (frames_got past))) in
    omega (arith, out, answers, still, got, first)
