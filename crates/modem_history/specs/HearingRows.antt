-- What is heard over two openings of a connection, worked by hand.
use Rattle.std.specs.Prelude.{◌≡◌, List, [], ◌∷◌, ◌++◌, codes}
use Rattle.mux_frame.specs.declared.frame.Kind.TheVariants.{Sabm, Ua, Disc, Uih}
use Rattle.at_text.specs.declared.unsolicited.UrcKind.TheVariants.{Ring, Other}
use Rattle.modem_desk.specs.declared.request.Ask.TheVariants.{OpenChannel, Command}
use Rattle.modem_desk.specs.declared.request.Answer.TheVariants.{Opened}
use Rattle.modem_history.specs.Acts.{Act, Heard, Given, after}
use Rattle.modem_history.specs.Calls.{replaying}
use Rattle.modem_history.specs.Lawful.{owed}
use Rattle.modem_history.specs.Hearing.{was_heard, to_be_heard, listened_on}
use Rattle.modem_history.specs.Rows.{one, takes, tells, tells_done, sends, comes, msc_command, cr, framed, opening_one}

-- a RING in the first opening; in the second one inside an answer with its echo, and then a line that no
-- command asked for
abbrev pub rings : List Act
rings =
    opening_one ++ comes Uih 1 (framed (codes "RING")) ∷ Heard Ring 1 (codes "RING") ∷
    comes Disc 1 [] ∷ sends Ua 1 [] ∷ Given ∷ takes 3 (OpenChannel one) ∷ sends Sabm 1 [] ∷ Given ∷
    comes Ua 1 [] ∷ sends Uih 0 (msc_command 1 0x8d) ∷ tells 3 Opened ∷ Given ∷
    takes 4 (Command one (codes "AT")) ∷ sends Uih 1 (codes "AT" ++ cr) ∷
    comes Uih 1 (codes "AT" ++ cr ++ framed (codes "RING") ++ framed (codes "OK") ++ framed (codes "OK")) ∷
    Heard Ring 1 (codes "RING") ∷ tells_done 4 (codes "OK" ∷ []) ∷ []

pub record RingsOnce : Type 0 where
  pub announced : listened_on (replaying 31) 1 (after [] rings)
      ≡ (Ring, codes "RING") ∷ (Ring, codes "RING") ∷ (Other, codes "OK") ∷ []
  pub heard : was_heard 1 (after [] rings) ≡ (Ring, codes "RING") ∷ (Ring, codes "RING") ∷ []
  pub rest : to_be_heard 1 (owed (replaying 31) (after [] rings)) ≡ (Other, codes "OK") ∷ []
  pub elsewhere : listened_on (replaying 31) 2 (after [] rings) ≡ []
