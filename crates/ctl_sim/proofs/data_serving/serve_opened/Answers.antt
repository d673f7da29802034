-- The files are those of the paths, and all threads are through.
use Rattle.std.specs.Prelude.{true}
use Rattle.data_files.specs.Files.{dlcis}
use Rattle.std.proofs.lemmas.Result.{on_ok_weaker}
use Rattle.ctl_sim.proofs.DataEnding.{ok_then, served_opened}
use Rattle.ctl_sim.proofs.DataLines.{opened_dlcis, opened_fit}
use Rattle.ctl_sim.proofs.data_serving.serve_opened.Goals as goal

pub serve_beside-ended-requires-clause-fits : goal.serve_beside-ended-requires-clause-fits
serve_beside-ended-requires-clause-fits g c κs lives = opened_fit true c.args.data_paths.now c.args.opened.0.items c.requires.files

pub returns-clause-served : goal.returns-clause-served
returns-clause-served g c = on_ok_weaker c.through.result (λ ok.
    served_opened c.args.data_paths.now (dlcis c.args.opened.0.items) (g.E.Write.contents c.args.faults.now) (g.E.Write.contents c.serve_beside-ended.new.faults) (g.E.Write.contents c.say_full-is_through.new.faults)
    c.say_full-is_through.result (opened_dlcis true c.args.data_paths.now c.args.opened.0.items c.requires.files)
    (ok_then c.serve_beside-ended.result ok.0 c.serve_beside-ended.ensures.served) c.say_full-is_through.ensures ok.1) c.through.ensures

pub returns-clause-said : goal.returns-clause-said
returns-clause-said g c = record {
  ended = g.E.Write.contents c.serve_beside-ended.new.faults;
  files = c.serve_beside-ended.ensures.said;
  is_through = c.say_full-is_through.result;
  full = c.say_full-is_through.ensures;
}
