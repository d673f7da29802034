-- Worked lines with a driver and a simulated modem at their ends, computed.
use Rattle.std.specs.Prelude.{◌≡◌, ℕ, ◌-◌, ◌≤◌, ◌==◌, ◌&&◌, ◌||◌, Bool, true, false, List, [], ◌∷◌, ◌++◌, length, take, drop, refl, if◌then◌else◌, codes}
use Rattle.std.specs.Fmt.{digits}
use Rattle.std.specs.Str.{bytes_eq}
use Rattle.std.proofs.Common.{lit<, arith, sym, ap, ◌∙◌, eqb-true}
use Rattle.std.proofs.lemmas.Bool.{and_parts}
use Rattle.std.proofs.lemmas.Bool.Decides.{nat_tests}
use Rattle.std.proofs.lemmas.List.{take-append-drop}
use Rattle.at_cmds.specs.Forms.{numeral_in}
use Rattle.at_cmds.specs.Params.{parameters, unquoted}
use Rattle.at_cmds.specs.Values.{command_in, command_of}
use Rattle.mux_frame.specs.Frames.{Frame}
use Rattle.mux_frame.specs.declared.frame.Kind.TheVariants.{Sabm, Ua, Uih}
use Rattle.mux_station.specs.Acts as station
use Rattle.mux_station.specs.declared.role.Role.TheVariants.{Responder}
use Rattle.mux_station.specs.Messages.{response_of, msc as msc_type}
use Rattle.mux_station.specs.Tables.{message_frame}
use Rattle.mux_station.specs.Written.{kind_place}
use Rattle.at_text.specs.declared.answer.AnswerLine.{AnswerLine}
use Rattle.at_text.specs.Seeing.{answer_lines}
use Rattle.at_text.specs.declared.unsolicited.UrcKind.TheVariants.{Ring}
use Rattle.modem_desk.specs.declared.request.Ask.TheVariants.{OpenChannel, Command}
use Rattle.modem_desk.specs.declared.request.Answer.TheVariants.{Opened}
use Rattle.modem_history.specs.Acts as driver
use Rattle.modem_history.specs.Acts.{Heard, Given}
use Rattle.modem_history.specs.Calls.{Setting, replaying}
use Rattle.modem_history.specs.Connections.{lines_on}
use Rattle.modem_history.specs.Lawful.{owed}
use Rattle.modem_history.specs.Rows as row
use Rattle.modem_history.specs.Rows.{takes, tells, tells_done, zero, one}
use Rattle.modem_history.specs.TwoEnds.{AsksOnce, ComesInOrder, frames_got, frames_sent}
use Rattle.modem_history.specs.Wholes.{CompleteCalls, is_said, taken_requests}
use Rattle.modem_history.proofs.rows.HistoryTests.{good}
use Rattle.modem_history.proofs.outcomes.SingleOutcomes.{uses_once}
use Rattle.modem_sim.specs.Acts as modem
use Rattle.modem_sim.specs.Acts.{End}
use Rattle.modem_sim.specs.declared.script.StepAct.TheVariants.{Announce}
use Rattle.modem_sim.specs.Heard.{texts_of}
use Rattle.modem_sim.specs.Histories.{EachAllowed}
use Rattle.modem_sim.specs.HistoryRows as sim
use Rattle.modem_sim.specs.HistoryRows.{cr, step_at}
use Rattle.modem_sim.specs.Laws.{after_lines}
use Rattle.modem_sim.specs.Pieces.{framed}
use Rattle.modem_sim.specs.Rows.{unlocked}
use Rattle.modem_sim.specs.LineSteps.{step}
use Rattle.modem_sim.proofs.rows.HistoryRowFacts.{GoodThere, called, due, end, gave, given_on, got, leaves, next_offer, offer, ready_one_allowed, ready_one_there}
use Rattle.one_modem.specs.OneModem.{EndAct, IsOneLine, driver_past, driver_wire, modem_past, modem_wire}
use Rattle.one_modem.specs.OneModemRows.{RightAnswer, RightLine, WrongAnswers, WrongLines, after, ask_mux, error_three, ringing, set_mode, two_commands}

-- ## One line

comes_by : (sender receiver : List station.Act) → drop (length (frames_sent sender) - length (frames_got receiver)) (frames_sent sender) ≡ frames_got receiver → ComesInOrder sender receiver
comes_by sender receiver e =
    let n = length (frames_sent sender) - length (frames_got receiver) in
    record { later = take n (frames_sent sender); sent_are = sym (take-append-drop n (frames_sent sender)) ∙ ap (λ z. take n (frames_sent sender) ++ z) e }

-- the frames that came by one act more are those sent first
abbrev Follows : List station.Act → List station.Act → Type 0
Follows sender receiver = drop (length (frames_sent sender) - length (frames_got receiver)) (frames_sent sender) ≡ frames_got receiver

next : {a : EndAct} {line : List EndAct} → Follows (driver_wire (a ∷ line)) (modem_wire (a ∷ line)) → Follows (modem_wire (a ∷ line)) (driver_wire (a ∷ line)) → IsOneLine line → IsOneLine (a ∷ line)
next {a} {line} there back before =
    (record { at_modem = comes_by (driver_wire (a ∷ line)) (modem_wire (a ∷ line)) there; at_driver = comes_by (modem_wire (a ∷ line)) (driver_wire (a ∷ line)) back }, before)

one_line : IsOneLine (after [] two_commands)
one_line =
    next refl refl (next refl refl (next refl refl (next refl refl (next refl refl (next refl refl (next refl refl (next refl refl
    (next refl refl (next refl refl (next refl refl (next refl refl (next refl refl (next refl refl (next refl refl (next refl refl
    (next refl refl (next refl refl (next refl refl (next refl refl (next refl refl (next refl refl (next refl refl (next refl refl
    (next refl refl (next refl refl (next refl refl (next refl refl (next refl refl (next refl refl (next refl refl (next refl refl
    (next refl refl (next refl refl (next refl refl (next refl refl (next refl refl (next refl refl (next refl refl (next refl refl
    (next refl refl (next refl refl (next refl refl (next refl refl (next refl refl (next refl refl (next refl refl tt))))))))))))))))))))))))))))))))))))))))))))))

-- ## The driver

driver_acts : List driver.Act
driver_acts =
    takes 1 (OpenChannel zero) ∷ row.sends Sabm 0 [] ∷ Given ∷ row.comes Ua 0 [] ∷ tells 1 Opened
    ∷ takes 2 (OpenChannel one) ∷ row.sends Sabm 1 [] ∷ Given ∷ row.comes Ua 1 [] ∷ row.sends Uih 0 (row.msc_command 1 0x8d) ∷ tells 2 Opened ∷ Given
    ∷ row.comes Uih 0 (row.msc_command 1 0x8d) ∷ row.sends Uih 0 (row.msc_response 1 0x8d) ∷ Given ∷ row.comes Uih 0 (row.msc_response 1 0x8d)
    ∷ takes 3 (Command one set_mode) ∷ row.sends Uih 1 (set_mode ++ row.cr) ∷ row.comes Uih 1 (framed (codes "OK")) ∷ tells_done 3 (codes "OK" ∷ [])
    ∷ row.comes Uih 1 (framed (codes "RING")) ∷ Heard Ring 1 (codes "RING")
    ∷ takes 4 (Command one ask_mux) ∷ row.sends Uih 1 (ask_mux ++ row.cr) ∷ row.comes Uih 1 (framed error_three) ∷ tells_done 4 (error_three ∷ []) ∷ []

is_none : List driver.Act → Bool
is_none [] = true
is_none (a ∷ acts) = false

calls_test : Setting → List driver.Act → Bool
calls_test s [] = true
calls_test s (a ∷ past) = (is_said a || is_none (owed s past)) && calls_test s past

calls_complete : (s : Setting) (past : List driver.Act) → calls_test s past ≡ true → CompleteCalls s past
unfolding calls_test is_none
calls_complete s [] e = tt
calls_complete s (a ∷ past) e =
    let parts = and_parts (is_said a || is_none (owed s past)) (calls_test s past) e in
    (λ first. nothing (is_said a) (owed s past) parts.0 first, calls_complete s past parts.1)
  where
    nothing : (b : Bool) (owing : List driver.Act) → (b || is_none owing) ≡ true → b ≡ false → owing ≡ []
    nothing true owing h g = cc
    nothing false [] h g = refl
    nothing false (x ∷ owing) h g = cc

two_numbers : (m n d : ℕ) → (m == n) ≡ false → m ≡ d → n ≡ d → ⊥
two_numbers m n d apart first second = let g : (m == n) ≡ true = grind (arith, nat_tests) in let h : false ≡ true = sym apart ∙ g in cc

few : {A : Type 0} (a b : Bool) (x y : A) → (a ≡ true → b ≡ true → ⊥) → length (if a then x ∷ (if b then y ∷ [] else []) else (if b then y ∷ [] else [])) ≤ 1
few true true x y apart = absurd (apart refl refl)
few true false x y apart = omega arith
few false true x y apart = omega arith
few false false x y apart = omega arith

asks_once : AsksOnce (driver_wire (after [] two_commands))
asks_once d = few (1 == d) (0 == d) _ _ (λ first second. two_numbers 1 0 d refl (eqb-true 1 d first) (eqb-true 0 d second))

-- ## The modem

abbrev acts_1 : List modem.Act
acts_1 = sim.ready_one ++ sim.comes Uih 0 (row.msc_command 1 0x8d) ∷ modem.Wire (station.Sent (message_frame Responder (response_of msc_type) (7 ∷ 0x8d ∷ []))) ∷ sim.gives ∷ sim.comes Uih 0 (row.msc_response 1 0x8d) ∷ sim.asks 1 set_mode ∷ []

abbrev acts_2 : List modem.Act
acts_2 = acts_1 ++ sim.offers 1 (framed (codes "OK")) ∷ sim.sends Uih 1 (framed (codes "OK")) ∷ modem.Did (Announce sim.one (codes "RING")) ∷ []

abbrev acts_3 : List modem.Act
acts_3 = acts_2 ++ sim.offers 1 (framed (codes "RING")) ∷ sim.sends Uih 1 (framed (codes "RING")) ∷ sim.asks 1 ask_mux ∷ []

abbrev acts_4 : List modem.Act
acts_4 = acts_3 ++ sim.offers 1 (framed error_three) ∷ sim.sends Uih 1 (framed error_three) ∷ []

abbrev wire_of : List modem.Act → List station.Act
wire_of acts = modem.wire (modem.after [] acts)

abbrev msc_come : List modem.Act
msc_come = sim.ready_one ++ sim.comes Uih 0 (row.msc_command 1 0x8d) ∷ modem.Wire (station.Sent (message_frame Responder (response_of msc_type) (7 ∷ 0x8d ∷ []))) ∷ []

there_msc : GoodThere end (wire_of msc_come)
there_msc = got {past = wire_of sim.ready_one} Uih 0 (row.msc_command 1 0x8d) (ready_one_there false [])

abbrev response_come : List modem.Act
response_come = msc_come ++ sim.gives ∷ sim.comes Uih 0 (row.msc_response 1 0x8d) ∷ []

there_response : GoodThere end (wire_of response_come)
there_response = got {past = wire_of (msc_come ++ sim.gives ∷ [])} Uih 0 (row.msc_response 1 0x8d) (given_on {past = wire_of msc_come} there_msc)

there_1 : GoodThere end (wire_of acts_1)
there_1 = got {past = wire_of response_come} Uih 1 (set_mode ++ cr) there_response

there_2 : GoodThere end (wire_of acts_2)
there_2 =
    let ok = framed (codes "OK") in
    leaves {past = wire_of (acts_1 ++ sim.offers 1 ok ∷ [])} 1 ok [] refl refl refl refl refl refl refl (called {past = wire_of acts_1} (offer 1 ok) there_1)

there_3 : GoodThere end (wire_of acts_3)
there_3 =
    let ring = framed (codes "RING") in
    got {past = wire_of (acts_2 ++ sim.offers 1 ring ∷ sim.sends Uih 1 ring ∷ [])} Uih 1 (ask_mux ++ cr)
    (leaves {past = wire_of (acts_2 ++ sim.offers 1 ring ∷ [])} 1 ring [] refl refl refl refl refl refl refl (called {past = wire_of acts_2} (offer 1 ring) there_2))

there : GoodThere end (wire_of acts_4)
there =
    let three = framed error_three in
    leaves {past = wire_of (acts_3 ++ sim.offers 1 three ∷ [])} 1 three [] refl refl refl refl refl refl refl (called {past = wire_of acts_3} (offer 1 three) there_3)

allowed : EachAllowed ringing (modem_past (after [] two_commands))
unfolding command_of command_in numeral_in unquoted parameters digits
allowed =
    (refl, (next_offer refl refl, (refl, (refl, (next_offer refl refl, (due (step_at 1 (Announce sim.one (codes "RING"))) [] refl refl refl refl refl refl, (refl, (next_offer refl refl, (refl, (refl, (gave refl refl, (refl, (refl, ready_one_allowed ringing)))))))))))))

-- ## The premise

-- on the worked line the driver, the modem and the line between them keep their laws
pub right_line : RightLine
unfolding driver_acts calls_test is_none
right_line = record {
  is_initiator = refl;
  codes = refl;
  driver_lawful = (good (replaying 31) driver_acts refl refl refl).lawful;
  calls = calls_complete (replaying 31) (driver_past (after [] two_commands)) refl;
  numbers = uses_once (taken_requests (driver_past (after [] two_commands))) refl;
  commands = ((λ d h. refl), ((λ d h. refl), ((λ d h. cc), ((λ d h. cc), tt))));
  modem_lawful = record { at_station = there.lawful; acts = allowed };
  modem_is = record { start = unlocked; before = []; is_start = record { rssi = lit< tt; ber = lit< tt }; is = refl };
  announced = (refl, tt);
  one_line = one_line;
  once = asks_once;
}

-- the second command on 1 is answered with the number of its error
pub right_answer : RightAnswer
unfolding command_of command_in numeral_in unquoted parameters digits
right_answer = record { before = (1, set_mode) ∷ []; later = []; joins = refl; place_is = refl; answer_is = refl }

-- ## What isn't right

too_long : {A : Type 0} (xs : List A) (x : A) (ys : List A) → [] ≡ xs ++ x ∷ ys → ⊥
too_long [] x ys e = cc
too_long (y ∷ xs) x ys e = cc

abbrev both_lines : List (ℕ × List ℕ)
both_lines = (1, set_mode) ∷ (1, ask_mux) ∷ []

abbrev IsOver : List (ℕ × List ℕ) → Type 0
IsOver ls = [] ≡ ls

text_first : List (ℕ × List ℕ) → List ℕ
text_first [] = []
text_first (p ∷ ls) = p.1

second_number : List (ℕ × List ℕ) → ℕ
second_number (p ∷ q ∷ ls) = q.0
second_number ls = 0

other_text : set_mode ≡ ask_mux → ⊥
other_text e = let g : false ≡ true = ap (λ z. bytes_eq z ask_mux) e in cc

-- the second of two is one place only
second_alone : (d : ℕ) (before later : List (ℕ × List ℕ)) → both_lines ≡ before ++ (d, ask_mux) ∷ later → (before ≡ (1, set_mode) ∷ []) × (d ≡ 1)
unfolding text_first second_number
second_alone d [] later e = absurd (other_text (ap text_first e))
second_alone d (x ∷ []) later e = (cc, sym (ap second_number e))
second_alone d (x ∷ y ∷ before) later e = absurd (too_long before (d, ask_mux) later (let g : IsOver (before ++ (d, ask_mux) ∷ later) = cc in g))

line_first : List AnswerLine → List ℕ
line_first [] = []
line_first (l ∷ ls) = l.text

wrong_answer : (before later : List (ℕ × List ℕ)) → both_lines ≡ before ++ (1, ask_mux) ∷ later → answer_lines (codes "ERROR" ∷ []) ≡ (step (after_lines ringing.modem (texts_of before)) ask_mux).answer → ⊥
unfolding command_of command_in numeral_in unquoted parameters digits line_first
wrong_answer before later joins e =
    let first = (second_alone 1 before later joins).0 in
    let all : answer_lines (codes "ERROR" ∷ []) ≡ answer_lines (error_three ∷ []) = e ∙ ap (λ z. (step (after_lines ringing.modem (texts_of z)) ask_mux).answer) first in
    let g : false ≡ true = ap (λ z. bytes_eq (line_first z) error_three) all in
    cc

wrong_place : (before later : List (ℕ × List ℕ)) → both_lines ≡ before ++ (1, ask_mux) ∷ later → length (lines_on 1 before) ≡ 0 → ⊥
wrong_place before later joins e =
    let first = (second_alone 1 before later joins).0 in
    let none : ◌≡◌ {A = ℕ} 1 0 = ap (λ z. length (lines_on 1 z)) (sym first) ∙ e in
    cc

-- it isn't as by a modem to which no mode was set, nor at the first place, nor on another connection
pub wrong_answers : WrongAnswers
wrong_answers = (
  λ h. wrong_answer h.before h.later h.joins h.answer_is,
  λ h. wrong_place h.before h.later h.joins h.place_is,
  λ h. let d : 2 ≡ 1 = (second_alone 2 h.before h.later h.joins).1 in cc,
)

none_sent : (f : Frame) (later : List Frame) → [] ≡ later ++ f ∷ [] → ⊥
none_sent f later e = too_long later f [] e

second_lost : (first second third : Frame) (later : List Frame) → kind_place second.kind ≡ 1 → kind_place third.kind ≡ 4 → third ∷ second ∷ first ∷ [] ≡ later ++ third ∷ first ∷ [] → ⊥
second_lost first second third [] u m e = let g : second ∷ first ∷ [] ≡ first ∷ [] = cc in let h : first ∷ [] ≡ [] = cc in cc
second_lost first second third (x ∷ []) u m e =
    let g : second ∷ first ∷ [] ≡ third ∷ first ∷ [] = cc in
    let same : second ≡ third = cc in
    let places : ◌≡◌ {A = ℕ} 1 4 = sym u ∙ (ap (λ (f : Frame). kind_place f.kind) same ∙ m) in
    cc
second_lost first second third (x ∷ y ∷ later) u m e =
    let g : first ∷ [] ≡ later ++ third ∷ first ∷ [] = cc in
    longer later g
  where
    longer : (zs : List Frame) → first ∷ [] ≡ zs ++ third ∷ first ∷ [] → ⊥
    longer [] h = let k : [] ≡ first ∷ [] = cc in cc
    longer (z ∷ zs) h = too_long zs third (first ∷ []) (let k : [] ≡ zs ++ third ∷ first ∷ [] = cc in k)

-- no line has a frame that comes before it was sent, or passes one over
pub wrong_lines : WrongLines
wrong_lines = (λ h. none_sent _ h.1.1.1.1.0.at_driver.later h.1.1.1.1.0.at_driver.sent_are, λ h. second_lost _ _ _ h.0.at_driver.later refl refl h.0.at_driver.sent_are)
