-- What a replay of events is at a modem with codes of its own.
use Rattle.std.specs.Prelude.{◌≡◌, ℕ, zero, suc, List, [], ◌∷◌, ◌++◌, map}
use Rattle.std.specs.List.{flat_map}
use Rattle.mux_station.specs.declared.role.Role.TheVariants.{Initiator}
use Rattle.at_text.specs.declared.unsolicited.UrcKind.{UrcKind}
use Rattle.at_text.specs.declared.unsolicited.UrcKind.TheVariants.{Own}
use Rattle.at_text.specs.Rules.{Rules, dialect_of}
use Rattle.modem_history.specs.Acts.{Act}
use Rattle.modem_history.specs.Calls.{Setting}
use Rattle.modem_history.specs.Kinds.{is_listened, standard_kinds}
use Rattle.modem_core.specs.declared.event.Event.{Event}
use Rattle.modem_core.specs.Replays.{Piece, acts_in, first_of, ArePieces, BegunBy}

-- the first kinds of one's own, so many
abbrev pub own_kinds : ℕ → List UrcKind
own_kinds zero = []
own_kinds (suc n) = own_kinds n ++ Own n ∷ []

-- every kind: those of the standards, Other, and as many of one's own as a dialect may have rules
abbrev pub every_kind : List UrcKind
every_kind = standard_kinds ++ own_kinds 64

-- a replay's history at a modem with these rules of its own: of an initiator that listens to every kind
abbrev pub replaying_by : Rules → ℕ → Setting
replaying_by rules n1 =
    record { role = Initiator; n1 = n1; dialect = dialect_of rules; listens = is_listened every_kind }

-- the acts are one piece for each request, frame, tick and loss, in the order of the events
pub record ReplaysBy (rules : Rules) (n1 : ℕ) (events : List Event) (acts : List Act) : Type 0 where
  pub pieces : List Piece
  pub joins : flat_map acts_in pieces ≡ acts
  pub begins : BegunBy n1 [] events (map first_of pieces)
  pub are_pieces : ArePieces (replaying_by rules n1) [] pieces
