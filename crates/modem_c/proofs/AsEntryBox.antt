-- A handle of an entry and the parts of a box own what a box at the same types owns.
use mir.Syntax.{impl, tnil, dnil}
use mathlib.Core.List.{[]}
use denote.Signature.{Slot, plain}
use Rattle.std_alloc.proofs.BoxSteps.Form.{Bx}
use Rattle.std_heap.specs.contracts.Global as Heap
use Rattle.std_heap.specs.contracts.GlobalAllocator.TheImpl.{ghosts, dict}
use Rattle.std_heap.proofs.Global.TheLaws as heap
use Rattle.modem_c.specs.contracts.entries.entering.Entering as Entering
use Rattle.modem_c.proofs.entries.entering.Entering.TheLaws as entering
use Rattle.box_parts.specs.contracts.parts.Parts as Parts
use Rattle.modem_c.specs.contracts.entries.handle.Handle as Handle

-- a box of an entry, on the heap
abbrev pub E : Bx
E = record { row = Entering.the_row; laws = entering.the_row_laws; al = record { row = Heap.the_row; laws = heap.the_row_laws; g = ghosts; d = dict; drops = impl [] tnil dnil } }

-- what `of_parts` takes: the parts of such a box
abbrev pub FromParts : Slot 0
FromParts = plain (λ _. Parts.the_row Entering.the_row Heap.the_row ghosts)

-- what `into_parts` takes: a handle of an entry
abbrev pub FromHandle : Slot 0
FromHandle = plain (λ _. Handle.the_row)
