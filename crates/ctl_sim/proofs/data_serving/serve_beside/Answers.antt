-- The files are those that were handed in.
use Rattle.std.specs.Prelude.{List, ℕ, OnOk}
use Rattle.std.proofs.Common.{subst}
use Rattle.std.proofs.lemmas.Result.{IfOk-at_ok}
use Rattle.serial_line.specs.StreamLine.{StreamState, stream_view}
use Rattle.data_files.specs.Files.{FiledState, dlcis}
use Rattle.ctl_sim.specs.DataEnds.{EndsFiles, ServedTo}
use Rattle.ctl_sim.specs.HeldLine.{HeldState}
use Rattle.ctl_sim.proofs.data_serving.serve_beside.Goals as goal

pub returns-clause-served : goal.returns-clause-served
returns-clause-served g c =
    subst (λ (ds : List ℕ). OnOk c.serve_captured.result (ServedTo (λ (last : FiledState HeldState StreamState). dlcis last.files) (EndsFiles stream_view) ds (g.E.Write.contents c.args.faults.now) (g.E.Write.contents c.serve_captured.new.faults)))
    (IfOk-at_ok _ c.in_ok-line.ensures.made c.first_line-made.ensures) c.serve_captured.ensures.served
