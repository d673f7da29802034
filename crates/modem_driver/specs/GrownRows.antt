-- Worked sights of a session: an OK that came before a command was taken is no answer to it.
use Rattle.std.specs.Prelude.{ℕ, List, [], ◌∷◌, ◌++◌, codes}
use Rattle.at_text.specs.Seeing.{answer_lines}
use Rattle.mux_frame.specs.declared.frame.Kind.TheVariants.{Uih}
use Rattle.modem_desk.specs.declared.request.Ask.TheVariants.{Command}
use Rattle.modem_desk.specs.declared.request.Answer.TheVariants.{Done}
use Rattle.modem_desk.specs.declared.request.Outcome.{Outcome}
use Rattle.modem_history.specs.Acts.{Act, after}
use Rattle.modem_history.specs.Rows.{comes, cr, framed, one, opening_one, sends, takes, tells_done}
use Rattle.modem_history.specs.SessionRows.{beginning, csq_one, first_request, last_flag, one_came, one_left, opened_both, outcome_of, second_request, settled, third_request}
use Rattle.modem_history.specs.Sessions.{SessionView}
use Rattle.modem_driver.specs.Grown.{HasGrown}

-- OK between its line ends, on 1
abbrev pub ok_one : List ℕ
ok_one = 0xF9 ∷ 0x05 ∷ 0xEF ∷ 0x0D ∷ 0x0D ∷ 0x0A ∷ 0x4F ∷ 0x4B ∷ 0x0D ∷ 0x0A ∷ 0x5F ∷ 0xF9 ∷ []

abbrev pub opened_and_done : List Outcome
opened_and_done = opened_both ++ outcome_of 3 (Done (answer_lines (codes "OK" ∷ []))) ∷ []

-- nothing has happened; 0 and 1 are open
abbrev pub at_first : SessionView
at_first = settled [] [] [] [] [] [] []

abbrev pub is_open : SessionView
is_open = settled one_came one_left (first_request ∷ second_request ∷ []) opened_both [] [] last_flag

-- OK came, though nothing was asked; AT+CSQ was taken and left, though no answer came
abbrev pub ok_came : SessionView
ok_came = settled (one_came ++ ok_one) one_left (first_request ∷ second_request ∷ []) opened_both [] [] last_flag

abbrev pub csq_left : SessionView
csq_left =
    settled one_came (one_left ++ csq_one) (first_request ∷ second_request ∷ third_request ∷ []) opened_both [] [] last_flag

-- AT+CSQ was taken and left, and told Done by an OK
abbrev pub ok_counted : SessionView
ok_counted =
    settled (one_came ++ ok_one) (one_left ++ csq_one) (first_request ∷ second_request ∷ third_request ∷ []) opened_and_done
    [] [] last_flag

-- where the command left before the OK came, it is the command's answer
abbrev pub csq_history : List Act
csq_history =
    opening_one ++ takes 3 (Command one (codes "AT+CSQ")) ∷ sends Uih 1 (codes "AT+CSQ" ++ cr) ∷ []

abbrev pub ok_history : List Act
ok_history = comes Uih 1 (framed (codes "OK")) ∷ tells_done 3 (codes "OK" ∷ []) ∷ []

abbrev pub CountsBehind : Type 0
CountsBehind =
    HasGrown beginning (ok_counted ∷ csq_left ∷ at_first ∷ []) (after (after [] csq_history) ok_history)

-- where it came before, the session has no history at all, whatever was seen before that
abbrev pub CountsNotBefore : Type 0
CountsNotBefore =
    (seen : List SessionView) (past : List Act) → ¬ HasGrown beginning (ok_counted ∷ ok_came ∷ seen) past
