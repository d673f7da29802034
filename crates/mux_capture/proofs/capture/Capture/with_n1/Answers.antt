use Rattle.std.proofs.Common.{List, ℕ, ◌++◌, ◌∙◌, ap, subst}
use Rattle.std.specs.Io.KnownBytes.{Appends}
use Rattle.mux_capture.specs.Pcap.{file_header}
use Rattle.mux_capture.proofs.Passing.{captured_none}
use Rattle.mux_capture.proofs.capture.Capture.with_n1.Goals as goal

pub returns-clause-captured : goal.returns-clause-captured
returns-clause-captured g c =
    captured_none (g.C.Write.contents c.args.output) (g.C.Write.contents c.put.new.output) c.args.n1 c.new.result.items c.new-2.result.items c.new.ensures.items c.new-2.ensures.items
    (subst (λ (l : List ℕ). Appends (g.C.Write.contents c.args.output) (g.C.Write.contents c.put.new.output) l)
    (c.as_slice.ensures.value ∙ c.in_ok-push_header.ensures.ok ∙ ap (λ (l : List ℕ). l ++ file_header) c.new-header.ensures.items) c.in_ok-put.ensures)
