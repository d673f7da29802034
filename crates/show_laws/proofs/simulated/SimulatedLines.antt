-- A line of a driver and a simulated modem is one on which commands are answered.
use Rattle.std.specs.Prelude.{◌≡◌, ℕ, ◌+◌, ◌==◌, ◌≤◌, ◌&&◌, not, Bool, true, false, List, [], ◌∷◌, ◌++◌, drop, Some, refl, is_none, if◌then◌else◌}
use Rattle.std.specs.List.{list_any}
use Rattle.std.proofs.Common.{ap, arith, sym, ◌∙◌, subst}
use Rattle.std.proofs.lemmas.Bool.{and_parts, or_from}
use Rattle.mux_frame.specs.Frames.{Frame}
use Rattle.mux_frame.specs.declared.frame.Kind.{Kind}
use Rattle.mux_frame.specs.declared.frame.Kind.TheVariants.{Sabm, Ua, Dm, Disc, Uih}
use Rattle.mux_station.specs.declared.role.Role.{Role}
use Rattle.mux_station.specs.declared.role.Role.TheVariants.{Responder}
use Rattle.mux_station.specs.Acts as station
use Rattle.mux_station.specs.Acts.{Open, Close, Probe, Stop, Flow, Offer}
use Rattle.mux_station.specs.Sending.{Sends, StationLawful, called_frames, frames_asked, frames_seeing, owed_frames, refused, station_view}
use Rattle.mux_station.specs.States.{State}
use Rattle.mux_station.specs.Tables.{by_frame, held_up, message_frame, msc_frame, ready, ua_or_dm}
use Rattle.mux_station.specs.Offering.{data_out}
use Rattle.mux_station.specs.Written.{is_data_frame, is_kind, is_on}
use Rattle.at_text.specs.Dialects.{Dialect, standard}
use Rattle.at_text.specs.Lines.{lines}
use Rattle.modem_history.specs.Acts as driver
use Rattle.modem_history.specs.Acts.{wire}
use Rattle.modem_history.specs.Calls.{Setting}
use Rattle.modem_history.specs.Connections.{info_got, info_sent, information_got}
use Rattle.modem_history.specs.Lawful.{Lawful}
use Rattle.modem_history.specs.TwoEnds.{AsksOnce, ComesInOrder, TakesCommandLines, frames_got, frames_sent}
use Rattle.modem_history.proofs.commands.FramesOnLine.{hears}
use Rattle.modem_sim.specs.declared.script.StepAct.{StepAct}
use Rattle.modem_sim.specs.declared.script.StepAct.TheVariants.{Announce, Flow as StepFlow, Hold, Disconnect, CloseDown}
use Rattle.modem_sim.specs.Acts as modem
use Rattle.modem_sim.specs.Acts.{Did, End, Wire}
use Rattle.modem_sim.specs.Doing.{call_of, call_owed}
use Rattle.modem_sim.specs.Histories.{EachAllowed}
use Rattle.one_modem.specs.OneModem as ends
use Rattle.one_modem.specs.OneModem.{EndAct}
use Rattle.one_modem.proofs.two_ends.InitiatorFrames.{given_is}
use Rattle.one_modem.proofs.two_ends.LinePoints.{along, behind_there, once_there}
use Rattle.modem_show.specs.Asking.{is_mode_command}
use Rattle.show_laws.specs.Laws.{AllSound}
use Rattle.show_laws.specs.Lines.{IsOneLine, driver_past, modem_past, responding}
use Rattle.show_laws.specs.Simulated.{FinishesWithModem, Simulates, SoundToModem, TalksToModem, as_line}
use Rattle.show_laws.specs.Talks.{AnswersCommands, FinishesTalk, TalksInTurn, TellsApart, commands_in, finals_in}
use Rattle.show_laws.proofs.counts.ManyFrames.{few_if, many, many_both, unit}
use Rattle.show_laws.proofs.counts.StationCounts.{station_called}
use Rattle.show_laws.proofs.openings.DiscBehindUa.{once_many}
use Rattle.show_laws.proofs.openings.ModeAnswers.{modes_few}
use Rattle.show_laws.proofs.openings.UaBehindSabm.{none_of}
use Rattle.show_laws.proofs.simulated.AnsweredCommands.{all_answered, answers_commands, tells_apart}
use Rattle.show_laws.proofs.sound.AllFrames.{all_sound}
use Rattle.show_laws.proofs.talks.InTurn.{acts_got, acts_sent, finishes_talk, talks_in_turn}
use Rattle.show_laws.proofs.talks.SentText.{modem_sent_all}

same_driver : (line : List EndAct) → driver_past (as_line line) ≡ ends.driver_past line
same_driver [] = refl
same_driver (ends.AtDriver a ∷ line) = ap (λ (past : List driver.Act). a ∷ past) (same_driver line)
same_driver (ends.AtModem (Wire a) ∷ line) = same_driver line
same_driver (ends.AtModem (Did step) ∷ line) = same_driver line

same_modem : (line : List EndAct) → modem_past (as_line line) ≡ ends.modem_wire line
same_modem [] = refl
same_modem (ends.AtDriver a ∷ line) = same_modem line
same_modem (ends.AtModem (Wire a) ∷ line) = ap (λ (past : List station.Act). a ∷ past) (same_modem line)
same_modem (ends.AtModem (Did step) ∷ line) = same_modem line

-- what came at both ends
comes_there : (line : List EndAct) → ends.ComesBothWays line → ComesInOrder (wire (driver_past (as_line line))) (modem_past (as_line line))
comes_there line c =
    subst (λ (p : List driver.Act). ComesInOrder (wire p) (modem_past (as_line line))) (sym (same_driver line))
    (subst (λ (q : List station.Act). ComesInOrder (wire (ends.driver_past line)) q) (sym (same_modem line)) c.at_modem)

comes_back : (line : List EndAct) → ends.ComesBothWays line → ComesInOrder (modem_past (as_line line)) (wire (driver_past (as_line line)))
comes_back line c =
    subst (λ (p : List driver.Act). ComesInOrder (modem_past (as_line line)) (wire p)) (sym (same_driver line))
    (subst (λ (q : List station.Act). ComesInOrder q (wire (ends.driver_past line))) (sym (same_modem line)) c.at_driver)

one_line : (line : List EndAct) → ends.IsOneLine line → IsOneLine (as_line line)
one_line [] one = tt
one_line (ends.AtDriver a ∷ line) one =
    (record { at_modem = comes_there (ends.AtDriver a ∷ line) one.0; at_driver = comes_back (ends.AtDriver a ∷ line) one.0 }, one_line line one.1)
one_line (ends.AtModem (Wire a) ∷ line) one =
    (record { at_modem = comes_there (ends.AtModem (Wire a) ∷ line) one.0; at_driver = comes_back (ends.AtModem (Wire a) ∷ line) one.0 }, one_line line one.1)
one_line (ends.AtModem (Did step) ∷ line) one = one_line line one.1

-- ## The modem opens none

abbrev is_sabm : Frame → Bool
is_sabm f = is_kind f.kind Sabm

never_called : (r : Role) (state : ℕ → State) (f : Frame) → many is_sabm (by_frame r state f) ≤ 0
never_called r state f =
    let e = modes_few is_sabm (λ n. false) (record { uih = λ q d info. refl; answer = λ q d b. either q d b }) r state f in
    let z = none (is_mode_command f) in
    omega (arith, e, z)
  where
    either : (q : Role) (d : ℕ) (b : Bool) → unit (is_sabm (ua_or_dm q d b)) ≤ 0
    either q d true = omega arith
    either q d false = omega arith

    none : (b : Bool) → unit (b && false) ≤ 0
    none true = omega arith
    none false = omega arith

-- no step of a script opens a connection
step_opens_none : (step : StepAct) (d : ℕ) → call_of step ≡ Some (Open d) → ⊥
step_opens_none (Announce c line) d e = cc
step_opens_none (StepFlow c go) d e = cc
step_opens_none (Hold c x) d e = cc
step_opens_none (Disconnect c) d e = cc
step_opens_none CloseDown d e = cc

never_opens : (past : List modem.Act) (d : ℕ) → call_owed past ≡ Some (Open d) → ⊥
never_opens [] d e = cc
never_opens (Did step ∷ past) d e = step_opens_none step d e
never_opens (Wire a ∷ past) d e = cc

-- no SABM was sent, and none is owed
record OwesNone (e : End) (past : List modem.Act) : Type 0 where
  sent : many is_sabm (frames_sent (modem.wire past)) ≤ 0
  owed : many is_sabm (owed_frames (responding e.n1) (modem.wire past)) ≤ 0

owes_more : (e : End) (past : List modem.Act) (a : station.Act) → many is_sabm (frames_seeing (responding e.n1) (station_view (responding e.n1) (modem.wire past)) a) ≤ 0 → OwesNone e past
    → many is_sabm (owed_frames (responding e.n1) (modem.wire past) ++ called_frames (responding e.n1) (modem.wire past) a) ≤ 0
owes_more e past a none h =
    let both = many_both is_sabm (owed_frames (responding e.n1) (modem.wire past)) (called_frames (responding e.n1) (modem.wire past) a) in
    let few = station_called is_sabm 0 (responding e.n1) (modem.wire past) a none in
    let o = h.owed in
    omega (arith, both, few, o)

asks_none : (c : station.Call) (b : Bool) → ((d : ℕ) → c ≡ Open d → ⊥) → many is_sabm (if b then frames_asked Responder c else []) ≤ 0
asks_none c false h = omega arith
asks_none (Open d) true h = absurd (h d refl)
asks_none (Close d) true h = omega arith
asks_none (Probe octets) true h = omega arith
asks_none Stop true h = omega arith
asks_none (Flow d go) true h =
    few_if is_sabm 0 (d == 0) (message_frame Responder (if go then 0xa3 else 0x63) [] ∷ []) (msc_frame Responder d (if go then ready else held_up) ∷ []) (omega arith) (omega arith)
asks_none (Offer d octets) true h = omega arith

sent_none : (e : End) (past : List modem.Act) (f : Frame) (b : Bool) → is_data_frame f ≡ b → Sends (responding e.n1) (modem.wire past) f b → OwesNone e past → OwesNone e (Wire (station.Sent f) ∷ past)
unfolding Sends
sent_none e past f true is g h =
    let off : unit (is_sabm f) ≡ 0 = ap unit (no_sabm f.kind (and_parts (is_kind f.kind Uih) (not (f.dlci == 0)) is).0) in
    let same : many is_sabm (owed_frames (responding e.n1) (station.Sent f ∷ modem.wire past)) ≡ many is_sabm (owed_frames (responding e.n1) (modem.wire past)) =
    ap (λ (b : Bool). many is_sabm (if b then owed_frames (responding e.n1) (modem.wire past) else drop 1 (owed_frames (responding e.n1) (modem.wire past)))) is in
    let x = h.sent in
    let y = h.owed in
    record { sent = omega (arith, off, x); owed = omega (arith, same, y) }
  where
    no_sabm : (k : Kind) → is_kind k Uih ≡ true → is_kind k Sabm ≡ false
    no_sabm Uih h = refl
    no_sabm Sabm h = cc
    no_sabm Ua h = cc
    no_sabm Dm h = cc
    no_sabm Disc h = cc
sent_none e past f false is g h =
    let first : many is_sabm (owed_frames (responding e.n1) (modem.wire past)) ≡ unit (is_sabm f) + many is_sabm g.later = ap (many is_sabm) g.is_next in
    let same : many is_sabm (owed_frames (responding e.n1) (station.Sent f ∷ modem.wire past)) ≡ many is_sabm g.later =
    ap (λ (b : Bool). many is_sabm (if b then owed_frames (responding e.n1) (modem.wire past) else drop 1 (owed_frames (responding e.n1) (modem.wire past)))) is
    ∙ ap (λ (fs : List Frame). many is_sabm (drop 1 fs)) g.is_next in
    let x = h.sent in
    let y = h.owed in
    record { sent = omega (arith, first, x, y); owed = omega (arith, same, first, y) }

owes_none : (e : End) (past : List modem.Act) → StationLawful (responding e.n1) (modem.wire past) → EachAllowed e past → OwesNone e past
unfolding StationLawful
owes_none e [] l h = record { sent = omega arith; owed = omega arith }
owes_none e (Did step ∷ past) l h = let k = owes_none e past l h.1 in record { sent = k.sent; owed = k.owed }
owes_none e (Wire (station.Sent f) ∷ past) l h = sent_none e past f (is_data_frame f) refl l.0 (owes_none e past l.1 h.1)
owes_none e (Wire (station.Got f) ∷ past) l h =
    let k = owes_none e past l h.1 in
    record { sent = k.sent; owed = owes_more e past (station.Got f) (never_called Responder (station_view (responding e.n1) (modem.wire past)).state f) k }
owes_none e (Wire station.Given ∷ past) l h = let k = owes_none e past l h.1 in record { sent = k.sent; owed = owes_more e past station.Given (omega arith) k }
owes_none e (Wire station.Tick ∷ past) l h = absurd h.0
owes_none e (Wire station.Lost ∷ past) l h = absurd h.0
owes_none e (Wire (station.Called (Offer d octets)) ∷ past) l h =
    let k = owes_none e past l h.1 in
    record { sent = k.sent; owed = owes_more e past (station.Called (Offer d octets)) (asks_none (Offer d octets) (is_none (refused (responding e.n1) (station_view (responding e.n1) (modem.wire past)) (Offer d octets))) (λ x c. cc)) k }
owes_none e (Wire (station.Called (Open d)) ∷ past) l h = absurd (never_opens past d h.0.owed)
owes_none e (Wire (station.Called (Close d)) ∷ past) l h =
    let k = owes_none e past l h.1 in
    record { sent = k.sent; owed = owes_more e past (station.Called (Close d)) (asks_none (Close d) (is_none (refused (responding e.n1) (station_view (responding e.n1) (modem.wire past)) (Close d))) (λ x c. cc)) k }
owes_none e (Wire (station.Called (Probe octets)) ∷ past) l h =
    let k = owes_none e past l h.1 in
    record { sent = k.sent; owed = owes_more e past (station.Called (Probe octets)) (asks_none (Probe octets) (is_none (refused (responding e.n1) (station_view (responding e.n1) (modem.wire past)) (Probe octets))) (λ x c. cc)) k }
owes_none e (Wire (station.Called Stop) ∷ past) l h =
    let k = owes_none e past l h.1 in
    record { sent = k.sent; owed = owes_more e past (station.Called Stop) (asks_none Stop (is_none (refused (responding e.n1) (station_view (responding e.n1) (modem.wire past)) Stop)) (λ x c. cc)) k }
owes_none e (Wire (station.Called (Flow d go)) ∷ past) l h =
    let k = owes_none e past l h.1 in
    record { sent = k.sent; owed = owes_more e past (station.Called (Flow d go)) (asks_none (Flow d go) (is_none (refused (responding e.n1) (station_view (responding e.n1) (modem.wire past)) (Flow d go))) (λ x c. cc)) k }

none_any : (fs : List Frame) → many is_sabm fs ≤ 0 → list_any (λ f. is_kind f.kind Sabm) fs ≡ false
none_any [] h = refl
none_any (f ∷ fs) h = or_from (is_kind f.kind Sabm) (list_any (λ g. is_kind g.kind Sabm) fs) (none_of is_sabm f (many is_sabm fs) h) (none_any fs (omega (arith, h)))

-- the modem opens no connection, and answers commands alone
pub simulates : (s : Setting) (e : End) (line : List EndAct) → Simulates s e line
unfolding Simulates
simulates s e line h = record {
  lawful =
      record {
        is_initiator = h.is_initiator;
        driver_lawful = subst (λ (p : List driver.Act). Lawful s p) (sym (same_driver line)) h.driver_lawful;
        modem_lawful = subst (λ (q : List station.Act). StationLawful (responding e.n1) q) (sym (same_modem line)) h.modem_lawful.at_station;
        one_line = one_line line h.one_line;
      };
  once = subst (λ (p : List driver.Act). AsksOnce (wire p)) (sym (same_driver line)) h.once;
  commands = subst (λ (p : List driver.Act). TakesCommandLines p) (sym (same_driver line)) h.commands;
  opens_none =
      ap (λ (q : List station.Act). list_any (λ f. is_kind f.kind Sabm) (frames_sent q)) (same_modem line)
      ∙ none_any (frames_sent (ends.modem_wire line)) (owes_none e (ends.modem_past line) h.modem_lawful.at_station h.modem_lawful.acts).sent;
  apart = subst (λ (x : Dialect). TellsApart x) (sym h.codes) tells_apart;
  answers =
      subst (λ (x : Dialect). AnswersCommands x (modem_past (as_line line))) (sym h.codes)
      (subst (λ (q : List station.Act). AnswersCommands standard q) (sym (same_modem line)) (answers_commands s e line (along s e line h)));
}

-- nothing is wrong with any frame, where lines are offered, a probe fits, and neither end has a greater N1
pub sound_to_modem : (s : Setting) (e : End) (line : List EndAct) → SoundToModem s e line
unfolding SoundToModem Simulates AllSound
sound_to_modem s e line h offers probes stamps most low high high2 =
    let k = simulates s e line h in
    all_sound s e.n1 (as_line line)
    (record { lawful = k.lawful; once = k.once; commands = k.commands; offers = offers; probes = probes }) stamps most low high high2

-- no command overlaps another one, and no final code answers nothing
pub talks_to_modem : (s : Setting) (e : End) (line : List EndAct) → TalksToModem s e line
unfolding TalksToModem Simulates TalksInTurn
talks_to_modem s e line h stamps data_channels = talks_in_turn s e.n1 (as_line line) (simulates s e line h) stamps data_channels

-- no command on d is left without an answer, where all came to the modem and all that it says on d has gone out
pub finishes_with_modem : (s : Setting) (e : End) (line : List EndAct) → FinishesWithModem s e line
unfolding FinishesWithModem Simulates FinishesTalk
finishes_with_modem s e line h d said stamps data_channels =
    let p = along s e line h in
    let m = ends.modem_wire line in
    let one = once_there s e line p d in
    let few = once_many (is_on Sabm d) (frames_got m) in
    let got : info_got d (modem_past (as_line line)) ≡ information_got Responder d m =
    ap (info_got d) (same_modem line) ∙ (acts_got d m ∙ sym ((hears d m one (behind_there s e line p d)).all said.is_open)) in
    let sent : info_sent d (modem_past (as_line line)) ≡ data_out Responder d m =
    ap (info_sent d) (same_modem line)
    ∙ (acts_sent d m ∙ (sym (modem_sent_all e.n1 d m h.modem_lawful.at_station (omega (arith, one, few)) said.is_open) ∙ sym (given_is d m))) in
    let commands : commands_in (lines (info_got d (modem_past (as_line line)))) ≡ commands_in (lines (information_got Responder d m)) = ap (λ z. commands_in (lines z)) got in
    let finals : finals_in s.dialect (lines (info_sent d (modem_past (as_line line)))) ≡ finals_in standard (lines (data_out Responder d m)) =
    ap (λ (x : Dialect). finals_in x (lines (info_sent d (modem_past (as_line line))))) h.codes ∙ ap (λ z. finals_in standard (lines z)) sent in
    let all = all_answered s e d line p said in
    finishes_talk s e.n1 (as_line line) (simulates s e line h) d
    (record {
      came = ap frames_got (same_modem line) ∙ (said.came ∙ ap (λ (past : List driver.Act). frames_sent (wire past)) (sym (same_driver line)));
      answered = omega (arith, commands, finals, all);
    }) stamps data_channels
