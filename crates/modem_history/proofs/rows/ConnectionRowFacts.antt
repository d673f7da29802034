-- The rows of connections and of what is heard, computed.
use Rattle.std.specs.Prelude.{refl}
use Rattle.modem_history.specs.ConnectionRows.{LinesInOrder, InformationByOpenings, CommandsAmongLines, PlacedAgain, PlacedByOpenings}
use Rattle.modem_history.specs.HearingRows.{RingsOnce}

-- the lines that come at the modem stand in the order in which they end, over both connections
pub lines_in_order : LinesInOrder
lines_in_order = refl

-- what came there on 1 stands opening by opening: nothing before the first
pub information_by_openings : InformationByOpenings
information_by_openings = refl

-- the driver's commands stand among the lines, the first before the RING whose end comes later
pub commands_among_lines : CommandsAmongLines
commands_among_lines = refl

-- after it opened again only the new command is placed
pub placed_again : PlacedAgain
placed_again = refl

-- what is placed stands opening by opening
pub placed_by_openings : PlacedByOpenings
placed_by_openings = refl

-- a RING in each opening is heard once, and the line that no command asked for is still owed
pub rings_once : RingsOnce
rings_once = record { announced = refl; heard = refl; rest = refl; elsewhere = refl }
