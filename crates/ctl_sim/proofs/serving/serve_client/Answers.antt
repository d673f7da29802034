use Rattle.std.proofs.Common.{Result, Ok, Err, OnOk}
use Rattle.ctl_sim.specs.Standing.{setting_by}
use Rattle.ctl_sim.proofs.Leaving.{left_client}
use Rattle.ctl_sim.proofs.Served.{none_undecided}
use Rattle.ctl_sim.proofs.Watched.{answered_client, watched_client}
use Rattle.ctl_sim.proofs.serving.serve_client.Goals as goal

weaker : {A E P Q : Type 0} (r : Result A E) → (P → Q) → OnOk r P → OnOk r Q
weaker (Ok x) f holds = f holds
weaker (Err e) f holds = tt

pub serve-requires : goal.serve-requires
serve-requires g c = none_undecided c.args.setup.now c.args.modem c.at_lines.result c.at_lines.ensures

pub returns-clause-answered : goal.returns-clause-answered
returns-clause-answered g c =
    weaker c.serve.result
    (λ serves.
    answered_client g.V.Watcher.sees g.V.Watcher.begins (setting_by c.args.setup.now c.args.modem) (g.I.Read.remaining c.args.input.now) (g.W.Write.contents c.args.output.now) (g.W.Write.contents c.serve.new.output) c.args.watcher.now c.serve.new.watcher
    (watched_client g.V.Watcher.sees g.V.Watcher.begins c.args.setup.now c.args.modem c.at_lines.result (g.I.Read.remaining c.args.input.now) (g.W.Write.contents c.args.output.now)
    (g.W.Write.contents c.serve.new.output) c.args.watcher.now c.serve.new.watcher c.at_lines.ensures serves)) c.serve.ensures.whole

pub returns-clause-watched : goal.returns-clause-watched
returns-clause-watched g c =
    weaker c.serve.result
    (watched_client g.V.Watcher.sees g.V.Watcher.begins c.args.setup.now c.args.modem c.at_lines.result (g.I.Read.remaining c.args.input.now) (g.W.Write.contents c.args.output.now)
    (g.W.Write.contents c.serve.new.output) c.args.watcher.now c.serve.new.watcher c.at_lines.ensures) c.serve.ensures.whole

pub returns-clause-left : goal.returns-clause-left
returns-clause-left g c =
    left_client c.args.setup.now c.args.modem c.at_lines.result _ (g.I.Read.remaining c.args.input.now) (g.I.Read.remaining c.serve.new.input)
    (g.W.Write.contents c.args.output.now) (g.W.Write.contents c.serve.new.output) c.at_lines.ensures c.serve.ensures.left
