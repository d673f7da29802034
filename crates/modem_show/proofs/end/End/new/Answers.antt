use Rattle.std.specs.Prelude.{List, []}
use Rattle.std.proofs.Common.{sym, subst}
use Rattle.modem_show.specs.declared.place.Place.{Place}
use Rattle.modem_show.specs.Ends.{EndFits}
use Rattle.modem_show.proofs.Keeping.{new_end}
use Rattle.modem_show.proofs.end.End.new.Goals as goal

pub returns-clause-past : goal.returns-clause-past
returns-clause-past c =
    subst (λ (ps : List Place). EndFits (record { role = c.args.role; places = ps }) []) (sym c.in_ok-places.ensures) (new_end c.args.role)
