-- The worked lines are lawful, and nothing is wrong with them.
use Rattle.std.specs.Prelude.{◌≡◌, ℕ, ◌-◌, ◌==◌, ◌≤◌, Bool, true, false, List, [], ◌∷◌, ◌++◌, codes, drop, length, refl, take, if◌then◌else◌}
use Rattle.std.proofs.Common.{arith, sym, ap, ◌∙◌, eqb-true}
use Rattle.std.proofs.lemmas.Bool.Decides.{nat_tests}
use Rattle.std.proofs.lemmas.List.{take-append-drop}
use Rattle.mux_frame.specs.declared.frame.Kind.TheVariants.{Sabm, Ua, Dm, Uih}
use Rattle.mux_station.specs.declared.role.Role.TheVariants.{Responder}
use Rattle.mux_station.specs.Acts as station
use Rattle.mux_station.specs.Written.{written}
use Rattle.mux_station.specs.Sending.{Sends, StationComplete, StationLawful}
use Rattle.modem_desk.specs.declared.request.Ask.TheVariants.{OpenChannel, Command, Stop}
use Rattle.modem_desk.specs.declared.request.Answer.TheVariants.{Opened, Refused, Closed, Stopped}
use Rattle.modem_history.specs.Acts as driver
use Rattle.modem_history.specs.Acts.{Given, wire}
use Rattle.modem_history.specs.Calls.{replaying}
use Rattle.modem_history.specs.Rows as row
use Rattle.modem_history.specs.Rows.{takes, tells, tells_done, zero, one}
use Rattle.modem_history.specs.TwoEnds.{AsksOnce, ComesInOrder, frames_got, frames_sent}
use Rattle.modem_history.proofs.rows.HistoryTests.{good}
use Rattle.show_laws.specs.Lines.{IsLawfulLine, IsOneLine, LineAct, driver_past, modem_past, responding}
use Rattle.show_laws.specs.Laws.{IsPlainLine}
use Rattle.show_laws.specs.LineRows.{AreRight, MeetsAll, after, both_open, one_command, stopped_early}

-- ## One line

comes_by : (sender receiver : List station.Act) → drop (length (frames_sent sender) - length (frames_got receiver)) (frames_sent sender) ≡ frames_got receiver → ComesInOrder sender receiver
comes_by sender receiver e =
    let n = length (frames_sent sender) - length (frames_got receiver) in
    record { later = take n (frames_sent sender); sent_are = sym (take-append-drop n (frames_sent sender)) ∙ ap (λ z. take n (frames_sent sender) ++ z) e }

-- the frames that came by one act more are those sent first
abbrev Comes : List station.Act → List station.Act → Type 0
Comes sender receiver = drop (length (frames_sent sender) - length (frames_got receiver)) (frames_sent sender) ≡ frames_got receiver

next : {a : LineAct} {line : List LineAct} → Comes (wire (driver_past (a ∷ line))) (modem_past (a ∷ line)) → Comes (modem_past (a ∷ line)) (wire (driver_past (a ∷ line))) → IsOneLine line → IsOneLine (a ∷ line)
next {a} {line} there back before =
    (record { at_modem = comes_by (wire (driver_past (a ∷ line))) (modem_past (a ∷ line)) there; at_driver = comes_by (modem_past (a ∷ line)) (wire (driver_past (a ∷ line))) back }, before)

-- ## A command

command_acts : List driver.Act
command_acts =
    takes 1 (OpenChannel zero) ∷ row.sends Sabm 0 [] ∷ Given ∷ row.comes Ua 0 [] ∷ tells 1 Opened
    ∷ takes 2 (OpenChannel one) ∷ row.sends Sabm 1 [] ∷ Given
    ∷ row.comes Ua 1 [] ∷ row.sends Uih 0 (row.msc_command 1 0x8d) ∷ tells 2 Opened ∷ Given
    ∷ row.comes Uih 0 (row.msc_command 1 0x8d) ∷ row.sends Uih 0 (row.msc_response 1 0x8d) ∷ Given
    ∷ takes 3 (Command one (codes "AT")) ∷ row.sends Uih 1 (codes "AT" ++ row.cr)
    ∷ row.comes Uih 0 (row.msc_response 1 0x8d) ∷ row.comes Uih 1 (row.framed (codes "OK")) ∷ tells_done 3 (codes "OK" ∷ [])
    ∷ takes 4 Stop ∷ row.sends Uih 0 row.cld_command ∷ Given ∷ row.comes Uih 0 row.cld_response ∷ tells 4 Stopped ∷ []

command_line : IsOneLine (after [] one_command)
command_line = next refl refl (next refl refl (next refl refl (next refl refl (next refl refl (next refl refl (next refl refl (next refl refl (next refl refl (next refl refl (next refl refl (next refl refl (next refl refl (next refl refl (next refl refl (next refl refl (next refl refl (next refl refl (next refl refl (next refl refl (next refl refl (next refl refl (next refl refl (next refl refl (next refl refl (next refl refl (next refl refl (next refl refl (next refl refl (next refl refl (next refl refl (next refl refl (next refl refl (next refl refl (next refl refl (next refl refl (next refl refl (next refl refl (next refl refl (next refl refl (next refl refl (next refl refl (next refl refl (tt)))))))))))))))))))))))))))))))))))))))))))

command_station : StationLawful (responding 31) (modem_past (after [] one_command))
unfolding StationLawful Sends
command_station = (
  record { later = []; is_next = refl },
  (
    record { live = refl; is_open = refl; goes = refl; as_written = refl; some = refl; fits = refl; behind = refl; later = []; is_offered = refl },
    (
      record { later = []; is_next = refl },
      (
        record { later = []; is_next = refl },
        (
          record { later = written Responder Uih 0 (row.msc_command 1 0x8d) ∷ []; is_next = refl },
          (record { later = []; is_next = refl }, tt),
        ),
      ),
    ),
  ),
)

-- ## A stop

stop_acts : List driver.Act
stop_acts =
    takes 1 (OpenChannel zero) ∷ row.sends Sabm 0 [] ∷ Given ∷ row.comes Ua 0 [] ∷ tells 1 Opened
    ∷ takes 2 (OpenChannel one) ∷ row.sends Sabm 1 [] ∷ Given ∷ takes 3 Stop ∷ row.sends Uih 0 row.cld_command ∷ tells 2 Closed ∷ Given
    ∷ row.comes Ua 1 [] ∷ row.comes Uih 0 (row.msc_command 1 0x8d) ∷ row.comes Uih 0 row.cld_response ∷ tells 3 Stopped ∷ []

stop_line : IsOneLine (after [] stopped_early)
stop_line = next refl refl (next refl refl (next refl refl (next refl refl (next refl refl (next refl refl (next refl refl (next refl refl (next refl refl (next refl refl (next refl refl (next refl refl (next refl refl (next refl refl (next refl refl (next refl refl (next refl refl (next refl refl (next refl refl (next refl refl (next refl refl (next refl refl (next refl refl (next refl refl (next refl refl (next refl refl (next refl refl (tt)))))))))))))))))))))))))))

stop_station : StationLawful (responding 31) (modem_past (after [] stopped_early))
unfolding StationLawful Sends
stop_station = (
  record { later = []; is_next = refl },
  (
    record { later = []; is_next = refl },
    (
      record { later = written Responder Uih 0 (row.msc_command 1 0x8d) ∷ []; is_next = refl },
      (record { later = []; is_next = refl }, tt),
    ),
  ),
)

-- ## Two openings

open_acts : List driver.Act
open_acts =
    takes 1 (OpenChannel zero) ∷ row.sends Sabm 0 [] ∷ Given ∷ row.comes Ua 0 [] ∷ tells 1 Opened
    ∷ takes 2 (OpenChannel one) ∷ row.sends Sabm 1 [] ∷ Given ∷ row.comes Sabm 1 [] ∷ row.sends Dm 1 [] ∷ tells 2 Refused ∷ Given
    ∷ row.comes Ua 1 [] ∷ row.comes Uih 0 (row.msc_command 1 0x8d) ∷ row.sends Uih 0 (row.msc_response 1 0x8d) ∷ Given
    ∷ row.comes Uih 1 (row.framed (codes "RING")) ∷ []

open_line : IsOneLine (after [] both_open)
open_line = next refl refl (next refl refl (next refl refl (next refl refl (next refl refl (next refl refl (next refl refl (next refl refl (next refl refl (next refl refl (next refl refl (next refl refl (next refl refl (next refl refl (next refl refl (next refl refl (next refl refl (next refl refl (next refl refl (next refl refl (next refl refl (next refl refl (next refl refl (next refl refl (next refl refl (next refl refl (next refl refl (next refl refl (next refl refl (next refl refl (next refl refl (next refl refl (tt))))))))))))))))))))))))))))))))

open_station : StationLawful (responding 31) (modem_past (after [] both_open))
unfolding StationLawful Sends
open_station = (
  record { live = refl; is_open = refl; goes = refl; as_written = refl; some = refl; fits = refl; behind = refl; later = []; is_offered = refl },
  (
    record { later = []; is_next = refl },
    (
      record { later = written Responder Uih 0 (row.msc_command 1 0x8d) ∷ []; is_next = refl },
      (record { later = []; is_next = refl }, (record { later = []; is_next = refl }, tt)),
    ),
  ),
)

-- ## What the laws ask

two_numbers : (m n d : ℕ) → (m == n) ≡ false → m ≡ d → n ≡ d → ⊥
two_numbers m n d apart first second = let g : (m == n) ≡ true = grind (arith, nat_tests) in let h : false ≡ true = sym apart ∙ g in cc

at_most_one : {A : Type 0} (a b : Bool) (x y : A) → (a ≡ true → b ≡ true → ⊥) → length (if a then x ∷ (if b then y ∷ [] else []) else (if b then y ∷ [] else [])) ≤ 1
at_most_one true true x y apart = absurd (apart refl refl)
at_most_one true false x y apart = omega arith
at_most_one false true x y apart = omega arith
at_most_one false false x y apart = omega arith

command_once : AsksOnce (wire (driver_past (after [] one_command)))
command_once d = at_most_one (1 == d) (0 == d) _ _ (λ first second. two_numbers 1 0 d refl (eqb-true 1 d first) (eqb-true 0 d second))

open_once : AsksOnce (wire (driver_past (after [] both_open)))
open_once d = at_most_one (1 == d) (0 == d) _ _ (λ first second. two_numbers 1 0 d refl (eqb-true 1 d first) (eqb-true 0 d second))

opens_plainly : IsPlainLine (replaying 31) 31 (after [] both_open)
unfolding open_acts
opens_plainly = record {
  lawful = record { is_initiator = refl; driver_lawful = (good (replaying 31) open_acts refl refl refl).lawful; modem_lawful = open_station; one_line = open_line };
  once = open_once;
  commands = (λ d e. cc, (λ d e. cc, tt));
  offers = (refl, tt);
  probes = refl;
}

command_lawful : IsLawfulLine (replaying 31) 31 (after [] one_command)
unfolding command_acts
command_lawful = record { is_initiator = refl; driver_lawful = (good (replaying 31) command_acts refl refl refl).lawful; modem_lawful = command_station; one_line = command_line }

meets_all : MeetsAll one_command
unfolding command_acts StationComplete
meets_all = record {
  plain =
      record {
        lawful = command_lawful;
        once = command_once;
        commands = (λ d e. cc, (λ d e. refl, (λ d e. cc, (λ d e. cc, tt))));
        offers = (refl, tt);
        probes = refl;
      };
  done =
      record {
        driver_live = refl;
        modem_live = refl;
        driver_complete = (good (replaying 31) command_acts refl refl refl).complete;
        modem_complete = refl;
        at_driver = refl;
        at_modem = refl;
      };
  calm =
      record {
        lawful = command_lawful;
        once = command_once;
        opens_none = refl;
        prompt = (refl, (refl, (refl, (refl, (refl, (refl, (refl, tt)))))));
        driver_down = refl;
        modem_down = refl;
        driver_keeps = tt;
        modem_keeps = tt;
        driver_live = refl;
        modem_live = refl;
      };
  in_time =
      record {
        at_driver = (λ e. cc, (λ e. cc, (λ e. cc, (λ e. refl, (λ e. cc, (λ e. cc, tt))))));
        at_modem = (λ e. refl, (λ e. cc, (λ e. cc, (λ e. refl, (λ e. cc, (λ e. cc, tt))))));
        by_modem = (λ e. cc, (λ e. cc, (λ e. cc, (λ e. refl, (λ e. cc, (λ e. cc, tt))))));
      };
}

stop_once : AsksOnce (wire (driver_past (after [] stopped_early)))
stop_once d = at_most_one (1 == d) (0 == d) _ _ (λ first second. two_numbers 1 0 d refl (eqb-true 1 d first) (eqb-true 0 d second))

stop_lawful : IsLawfulLine (replaying 31) 31 (after [] stopped_early)
unfolding stop_acts
stop_lawful = record { is_initiator = refl; driver_lawful = (good (replaying 31) stop_acts refl refl refl).lawful; modem_lawful = stop_station; one_line = stop_line }

stops_by_all : MeetsAll stopped_early
unfolding stop_acts StationComplete
stops_by_all = record {
  plain =
      record {
        lawful = stop_lawful;
        once = stop_once;
        commands = (λ d e. cc, (λ d e. cc, (λ d e. cc, tt)));
        offers = tt;
        probes = refl;
      };
  done =
      record {
        driver_live = refl;
        modem_live = refl;
        driver_complete = (good (replaying 31) stop_acts refl refl refl).complete;
        modem_complete = refl;
        at_driver = refl;
        at_modem = refl;
      };
  calm =
      record {
        lawful = stop_lawful;
        once = stop_once;
        opens_none = refl;
        prompt = (refl, (refl, (refl, tt)));
        driver_down = refl;
        modem_down = refl;
        driver_keeps = tt;
        modem_keeps = tt;
        driver_live = refl;
        modem_live = refl;
      };
  in_time =
      record {
        at_driver = (λ e. cc, (λ e. refl, (λ e. cc, (λ e. cc, tt))));
        at_modem = (λ e. refl, (λ e. cc, (λ e. cc, tt)));
        by_modem = (λ e. cc, (λ e. refl, (λ e. cc, (λ e. cc, tt))));
      };
}

-- ## Both

-- the worked lines are lawful and nothing is wrong with them, and the first two meet all that the laws ask
pub are_right : AreRight
unfolding command_acts stop_acts open_acts
are_right = record {
  talks =
      record {
        lawful = command_lawful;
        frames = refl;
        of_driver = refl;
        of_modem = refl;
      };
  talks_by_all = meets_all;
  stops =
      record {
        lawful = stop_lawful;
        frames = refl;
        of_driver = refl;
        of_modem = refl;
      };
  stops_by_all = stops_by_all;
  opens = record { lawful = opens_plainly.lawful; frames = refl; of_driver = refl; of_modem = refl };
  opens_plainly = opens_plainly;
}
