-- What the three rules of a history come to: its laws, and nothing else.
use Rattle.std.specs.Prelude.{◌≤◌, List}
use Rattle.modem_history.specs.Acts.{Act}
use Rattle.modem_history.specs.Calls.{Setting}
use Rattle.modem_history.specs.Lawful.{Lawful, Complete}
use Rattle.modem_history.specs.GoingOut.{SendsInTurn}
use Rattle.modem_history.specs.Wholes.{CompleteCalls}
use Rattle.modem_history.specs.Sessions.{TakesWithRoom}
use Rattle.modem_history.specs.Rules.{Made}

-- the laws of a history of whole calls: it is lawful, each call is complete, no request is taken where 128 are in hand,
-- and each data frame is sent in turn
pub record KeepsLaws (s : Setting) (past : List Act) : Type 0 where
  pub lawful : Lawful s past
  pub complete : Complete s past
  pub calls : CompleteCalls s past
  pub room : TakesWithRoom past
  pub in_turn : SendsInTurn s past

-- what the rules make keeps the laws
unfoldable pub MadeKeepsLaws : Setting → List Act → Type 0
MadeKeepsLaws s past = Made s past → KeepsLaws s past

-- what keeps the laws the rules make, where a frame takes an octet at least
unfoldable pub LawfulIsMade : Setting → List Act → Type 0
LawfulIsMade s past = 1 ≤ s.n1 → KeepsLaws s past → Made s past
