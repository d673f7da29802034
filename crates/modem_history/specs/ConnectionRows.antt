-- What comes and goes on connections, worked by hand.
use Rattle.std.specs.Prelude.{◌≡◌, ℕ, List, [], ◌∷◌, ◌++◌, codes}
use Rattle.mux_frame.specs.declared.frame.Kind.{Kind}
use Rattle.mux_frame.specs.declared.frame.Kind.TheVariants.{Sabm, Ua, Disc, Uih}
use Rattle.mux_station.specs.declared.role.Role.TheVariants.{Initiator, Responder}
use Rattle.mux_station.specs.Written.{written}
use Rattle.mux_station.specs.Acts.{Act, Got, Sent}
use Rattle.at_text.specs.Windows.{Line, Begun}
use Rattle.modem_history.specs.Connections.{all_information_got, all_placed, lines_got, placed}
use Rattle.modem_history.specs.Rows.{cr, framed}

-- the past of acts, of which the first comes first
abbrev pub past_of : List Act → List Act → List Act
past_of past [] = past
past_of past (a ∷ acts) = past_of (a ∷ past) acts

-- a frame of the initiator and one of the responder, each as it comes to the other
abbrev pub of_initiator : Kind → ℕ → List ℕ → Act
of_initiator k d info = Got (written Initiator k d info)

abbrev pub of_responder : Kind → ℕ → List ℕ → Act
of_responder k d info = Sent (written Responder k d info)

-- Two connections of a modem: lines are cut over frames and end in another order than they begin, and the
-- line that is unfinished when a connection closes doesn't go on when it opens again.
abbrev pub at_a_modem : List Act
at_a_modem =
    of_initiator Sabm 0 [] ∷ of_responder Ua 0 [] ∷ of_initiator Sabm 1 [] ∷ of_responder Ua 1 [] ∷
    of_initiator Uih 2 (codes "ATZ" ++ cr) ∷ of_initiator Sabm 2 [] ∷ of_responder Ua 2 [] ∷
    of_initiator Uih 1 (codes "AT+C") ∷ of_initiator Uih 2 (codes "ATI" ++ cr) ∷
    of_initiator Uih 1 (codes "SQ" ++ cr ++ codes "AT+CR") ∷ of_initiator Disc 1 [] ∷ of_responder Ua 1 [] ∷
    of_initiator Sabm 1 [] ∷ of_responder Ua 1 [] ∷ of_initiator Uih 1 (codes "ATE0" ++ cr) ∷ []

-- the lines of all connections, in the order in which they end
abbrev pub LinesInOrder : Type 0
LinesInOrder =
    lines_got Responder (past_of [] at_a_modem)
    ≡ (2, codes "ATI") ∷ (1, codes "AT+CSQ") ∷ (1, codes "ATE0") ∷ []

-- before it opened first, in the first opening and in the second
abbrev pub InformationByOpenings : Type 0
InformationByOpenings =
    all_information_got Responder 1 (past_of [] at_a_modem)
    ≡ [] ∷ (codes "AT+CSQ" ++ cr ++ codes "AT+CR") ∷ (codes "ATE0" ++ cr) ∷ []

-- A driver's commands, cut over frames: the first is whole before the end of RING comes.
abbrev pub of_modem : Kind → ℕ → List ℕ → Act
of_modem k d info = Got (written Responder k d info)

abbrev pub of_driver : Kind → ℕ → List ℕ → Act
of_driver k d info = Sent (written Initiator k d info)

abbrev pub at_a_driver : List Act
at_a_driver =
    of_driver Sabm 0 [] ∷ of_modem Ua 0 [] ∷ of_driver Sabm 1 [] ∷ of_modem Ua 1 [] ∷
    of_driver Uih 1 (codes "AT+C") ∷ of_modem Uih 1 (codes "RI") ∷ of_driver Uih 1 (codes "SQ" ++ cr) ∷
    of_modem Uih 1 (codes "NG" ++ cr ++ framed (codes "+CSQ: 18,99") ++ framed (codes "OK")) ∷
    of_driver Uih 1 (codes "AT") ∷ of_driver Uih 1 (codes "I" ++ cr) ∷
    of_modem Uih 1 (framed (codes "OK")) ∷ []

abbrev pub CommandsAmongLines : Type 0
CommandsAmongLines =
    placed Initiator 1 (codes "AT+CSQ" ∷ codes "ATI" ∷ []) (past_of [] at_a_driver)
    ≡ Begun (codes "AT+CSQ") ∷ Line (codes "RING") ∷ Line (codes "+CSQ: 18,99") ∷ Line (codes "OK") ∷
    Begun (codes "ATI") ∷ Line (codes "OK") ∷ []

-- when it opens again, what was placed before is gone
abbrev pub at_a_driver_again : List Act
at_a_driver_again =
    at_a_driver ++ of_modem Disc 1 [] ∷ of_driver Ua 1 [] ∷ of_driver Sabm 1 [] ∷ of_modem Ua 1 [] ∷
    of_driver Uih 1 (codes "ATZ" ++ cr) ∷ []

abbrev pub PlacedAgain : Type 0
PlacedAgain = placed Initiator 1 (codes "ATZ" ∷ []) (past_of [] at_a_driver_again) ≡ Begun (codes "ATZ") ∷ []

-- before 1 opened first, in its first opening and in its second
abbrev pub PlacedByOpenings : Type 0
PlacedByOpenings =
    all_placed Initiator 1 ([] ∷ (codes "AT+CSQ" ∷ codes "ATI" ∷ []) ∷ (codes "ATZ" ∷ []) ∷ [])
    (past_of [] at_a_driver_again)
    ≡ [] ∷ (Begun (codes "AT+CSQ") ∷ Line (codes "RING") ∷ Line (codes "+CSQ: 18,99") ∷ Line (codes "OK") ∷
    Begun (codes "ATI") ∷ Line (codes "OK") ∷ []) ∷ (Begun (codes "ATZ") ∷ []) ∷ []
