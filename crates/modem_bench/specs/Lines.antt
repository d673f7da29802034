-- The line of a bench.
use Rattle.std.specs.Prelude.{[], ◌∷◌}
use Rattle.modem_history.specs.Sessions.{LineView}
use Rattle.modem_history.specs.Wholes.{IsPrefixOf}
use Rattle.serial_line.specs.LineViews.{unused_line}

-- of the octets that each of the two ends of a line sent the other received the first
pub record AreConnected (near far : LineView) : Type 0 where
  pub to_far : IsPrefixOf far.received near.sent
  pub to_near : IsPrefixOf near.received far.sent

-- ## Worked ends

-- 1, 2 and 3 were sent, and nothing came
abbrev pub three_sent : LineView
three_sent = record unused_line { sent = 1 ∷ 2 ∷ 3 ∷ [] }

-- some of them may be under way, each way
pub record RightConnections : Type 0 where
  pub unused : AreConnected unused_line unused_line
  pub none_came : AreConnected three_sent unused_line
  pub two_came : AreConnected three_sent (record unused_line { received = 1 ∷ 2 ∷ [] })
  pub all_came : AreConnected three_sent (record unused_line { received = 1 ∷ 2 ∷ 3 ∷ [] })
  pub two_back : AreConnected (record unused_line { received = 1 ∷ 2 ∷ [] }) three_sent

-- none may come that wasn't sent, and none may be left out or overtaken, either way
pub record WrongConnections : Type 0 where
  pub stray : ¬ AreConnected three_sent (record unused_line { received = 1 ∷ 2 ∷ 3 ∷ 4 ∷ [] })
  pub left_out : ¬ AreConnected three_sent (record unused_line { received = 1 ∷ 3 ∷ [] })
  pub overtaken : ¬ AreConnected three_sent (record unused_line { received = 2 ∷ 1 ∷ [] })
  pub stray_back : ¬ AreConnected (record unused_line { received = 1 ∷ 2 ∷ 3 ∷ 4 ∷ [] }) three_sent
  pub its_own : ¬ AreConnected (record three_sent { received = 1 ∷ [] }) unused_line
