use Rattle.std.proofs.Common.{refl, length}
use Rattle.modem_desk.proofs.desk_places.DeskPlaces.{are_whole, are_listeners_at}
use Rattle.modem_desk.proofs.settling.settle.Goals as goal

pub gather-requires-clause-whole : goal.gather-requires-clause-whole
gather-requires-clause-whole g c = (
  are_whole c.args.driver.desk (length c.args.driver.desk.rings) c.args.callers.items refl c.requires.callers,
  are_listeners_at c.args.driver.desk c.args.listeners.items c.requires.listeners,
)
