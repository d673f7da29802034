-- What a handle owns: a relay in a box, or nothing.
use Rattle.std.specs.Prelude.{Option, None, Some}
use Rattle.std.specs.Coded.{Coded, coded_option}
use base.Fml.{Fml, ftrue}
use denote.RawPtr.{Ptr}
use Rattle.std.specs.Box.Ownership.{box_owns}
use Rattle.std.specs.Global.{Global}
use Rattle.std_heap.specs.contracts.GlobalAllocator.TheImpl.{ghosts}
use Rattle.modem_data.specs.contracts.relay.Relay.{the_row}

abbrev pub holds : Global → Ptr → Option the_row.Denot → Fml
holds a p None = ftrue
holds a p (Some e) = box_owns (ghosts.dealloc_token a) the_row p e

abbrev pub held_coded : Coded (Option the_row.Denot)
held_coded = coded_option the_row.coded
