-- What begins with a packet is read.
use Rattle.std.specs.Prelude.{ℕ, ◌+◌, ◌<◌, ◌^◌, List, ◌++◌, length}
use Rattle.std.proofs.Common.{arith}
use Rattle.mux_capture.specs.declared.packet.Direction.{Direction}
use Rattle.mux_capture.specs.declared.packet.Kind.{Kind}
use Rattle.mux_capture.specs.declared.packet.Kind.TheVariants.{Damage, Frame}
use Rattle.mux_capture.specs.Pcap.{head_of}
use Rattle.mux_capture.proofs.read.read_packet.Goals as goal

head_short : (kind : Kind) (direction : Direction) (held : List ℕ) → length held + 3 < 2 ^ 32 → length (head_of kind direction ++ held) < 2 ^ 32
head_short Frame direction held few = omega (arith, few)
head_short Damage direction held few = omega (arith, few)

pub returns-in_err-stamp-clause-all : goal.returns-in_err-stamp-clause-all
returns-in_err-stamp-clause-all c = λ kind stamp direction held more h l e.
    absurd (c.in_err-stamp.ensures.all stamp (length (head_of kind direction ++ held)) ((head_of kind direction ++ held) ++ more) h (head_short kind direction held l) e)
