-- Each has seen it.
use Rattle.std.proofs.Common.{subst, sym, ap}
use Rattle.mux_frame.specs.Frames.{frame_of}
use Rattle.modem_data.specs.Passing.{Flowed, IsDue, flow_frame}
use Rattle.modem_data.specs.Pipes.{Pipe}
use Rattle.modem_data.specs.PipeSets.{PipeSet, AllLead, OfEachPast}
use Rattle.modem_data.proofs.PipeSetCalls.{all_flowed}
use Rattle.std.specs.Prelude.{◌≡◌, List}
use Rattle.modem_data.proofs.pipe_set.Pipes.flowed.Goals as goal

pub returns : goal.returns
returns c =
    let old : PipeSet = record { role = c.self.inside.role; each = c.self.inside.each.items; turn = c.self.inside.turn } in
    let new : PipeSet = record old { each = c.flow_all.new.pipes.items } in
    let f = frame_of c.args.frame in
    let due = subst (λ (v : PipeSet). OfEachPast v (λ role past. IsDue role c.args.flow.dlci.number past c.args.flow.go)) (sym c.self.view_is) c.requires.due in
    let written = subst (λ (v : PipeSet). f ≡ flow_frame v.role c.args.flow.dlci.number c.args.flow.go) (sym c.self.view_is) c.requires.written in
    subst (λ (v : PipeSet). AllLead v new (Flowed f)) c.self.view_is (all_flowed old new c.args.flow.dlci.number c.args.flow.go f due written (ap (λ (ps : List Pipe). record old { each = ps }) c.flow_all.ensures))
