-- A handle and the parts of a box own what a box at the same types owns.
use mir.Syntax.{impl, tnil, dnil}
use mathlib.Core.List.{[]}
use denote.Signature.{Slot, plain}
use Rattle.std_alloc.proofs.BoxSteps.Form.{Bx}
use Rattle.std_heap.specs.contracts.Global as Heap
use Rattle.std_heap.specs.contracts.GlobalAllocator.TheImpl.{ghosts, dict}
use Rattle.std_heap.proofs.Global.TheLaws as heap
use Rattle.modem_driver.specs.contracts.endpoint.Endpoint as Endpoint
use Rattle.modem_driver.proofs.endpoint.Endpoint.TheLaws as endpoint
use Rattle.box_parts.specs.contracts.parts.Parts as Parts
use Rattle.modem_c.specs.contracts.handle.Handle as Handle

-- a box of an endpoint, on the heap
abbrev pub E : Bx
E = record { row = Endpoint.the_row; laws = endpoint.the_row_laws; al = record { row = Heap.the_row; laws = heap.the_row_laws; g = ghosts; d = dict; drops = impl [] tnil dnil } }

-- what `of_parts` takes: the parts of such a box
abbrev pub FromParts : Slot 0
FromParts = plain (λ _. Parts.the_row Endpoint.the_row Heap.the_row ghosts)

-- what `into_parts` takes: a handle
abbrev pub FromHandle : Slot 0
FromHandle = plain (λ _. Handle.the_row)
