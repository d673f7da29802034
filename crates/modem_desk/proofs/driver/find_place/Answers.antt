-- A kind that compares the same is the one looked for.
use Rattle.std.proofs.Common.{sym}
use Rattle.modem_desk.proofs.desk_places.KindPlaces.{elem_at, same_kind}
use Rattle.modem_desk.proofs.driver.find_place.Goals as goal

pub returns-then-eq : goal.returns-then-eq
returns-then-eq c = elem_at c.args.kinds.now c.loop-place.place c.args.kind _ c.loop-place-test.true (same_kind _ c.args.kind (sym c.if-eq.ensures))
