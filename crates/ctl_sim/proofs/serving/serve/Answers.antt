use Rattle.std.proofs.Common.{List, ℕ, [], None, refl, subst, sym, take, rules, ◌++◌, ◌∙◌}
use Rattle.std.proofs.KnownBytes.{Consumes-nil}
use Rattle.std.specs.Io.KnownBytes.{Appends, Consumes}
use Rattle.modem_sim.specs.declared.state.ModemState.{ModemState}
use Rattle.ctl_text.specs.Writing.{IsBegun}
use Rattle.ctl_sim.specs.EndlessClients.{PassesToEndless, StandsEndless}
use Rattle.ctl_sim.specs.Standing.{setting_by}
use Rattle.ctl_sim.specs.Watching.{SeesPart}
use Rattle.ctl_sim.proofs.Leaving.{endless_so, few_taken, given_no_capture, left_given, left_unanswered, left_unwritten, modem_leaves, modem_no_capture, reader_leaves, reader_no_capture, some_taken}
use Rattle.ctl_sim.proofs.Watched.{passing_more, served_so_far, watched_end, watched_more, watched_none}
use Rattle.ctl_sim.proofs.serving.serve.Goals as goal

pub loop-init : goal.loop-init
loop-init g c = record {
  so_far = λ m holds.
      watched_none g.M.Answering.holds g.M.Answering.undecided g.V.Watcher.sees g.V.Watcher.begins (setting_by c.args.setup.now m) (g.I.Read.remaining c.args.input.now) (g.W.Write.contents c.args.output.now)
      c.args.first c.args.watcher.now c.requires holds;
  pending = c.new-pending.ensures.items ∙ sym c.requires;
  none_left = c.new-out.ensures.items;
}

pub loop-preserved : goal.loop-preserved
loop-preserved g c = record {
  so_far = λ m holds.
      watched_more g.M.Answering.holds g.M.Answering.undecided g.V.Watcher.sees g.V.Watcher.begins g.met.M.Answering.brings (setting_by c.args.setup.now m) (g.I.Read.remaining c.args.input.now) (g.I.Read.remaining c.loop.input)
      (g.I.Read.remaining c.read_some.new.input) (g.W.Write.contents c.args.output.now) (g.W.Write.contents c.loop.output)
      (g.W.Write.contents c.put.new.output) c.loop.now c.in_ok-now.now c.args.watcher.now c.loop.watcher c.pass.new.watcher (take c.in_ok-count.count c.read_some.new.piece) c.loop.out.items
      c.pass.new.out.items (c.loop.invariant.so_far m holds) c.in_ok-count.ensures.read (c.in_ok-now.ensures.passes m) c.loop.invariant.none_left
      (subst (λ (l : List ℕ). Appends (g.W.Write.contents c.loop.output) (g.W.Write.contents c.put.new.output) l) c.as_slice-in-loop.ensures.value c.in_ok-put.ensures.whole);
  pending = c.in_ok-now.ensures.pending;
  none_left = c.clear.ensures.items;
}

pub returns-then-count-eq0-clause-whole : goal.returns-then-count-eq0-clause-whole
returns-then-count-eq0-clause-whole g c = λ m holds.
    watched_end g.M.Answering.holds g.M.Answering.undecided g.V.Watcher.sees g.V.Watcher.begins (setting_by c.args.setup.now m) (g.I.Read.remaining c.args.input.now) (g.I.Read.remaining c.loop.input)
    (g.I.Read.remaining c.read_some.new.input) (g.W.Write.contents c.args.output.now) (g.W.Write.contents c.loop.output) c.loop.now c.args.watcher.now c.loop.watcher c.tell.new.watcher c.loop.pending.items c.loop.out.items
    (c.loop.invariant.so_far m holds)
    (subst (λ (n : ℕ). Consumes (g.I.Read.remaining c.loop.input) (g.I.Read.remaining c.read_some.new.input) (take n c.read_some.new.piece)) c.if-count-eq0.true c.in_ok-count.ensures.read)
    (c.in_ok-count.ensures.end c.if-count-eq0.true (search rules)) c.loop.invariant.pending c.loop.invariant.none_left
    (subst (λ (l : List ℕ). SeesPart g.V.Watcher.sees g.V.Watcher.begins c.loop.watcher c.tell.new.watcher l c.loop.out.items None) c.as_slice.ensures.value
    (subst (λ (l : List ℕ). SeesPart g.V.Watcher.sees g.V.Watcher.begins c.loop.watcher c.tell.new.watcher c.as_slice.result.now l None) c.as_slice-then-count-eq0.ensures.value c.tell.ensures))

pub returns-then-count-eq0-clause-left : goal.returns-then-count-eq0-clause-left
returns-then-count-eq0-clause-left g c = λ m holds.
    left_unanswered g.M.Answering.holds g.M.Answering.endless (setting_by c.args.setup.now m) _ (g.I.Read.remaining c.args.input.now) (g.I.Read.remaining c.loop.input)
    (g.I.Read.remaining c.read_some.new.input) (g.W.Write.contents c.args.output.now) (g.W.Write.contents c.loop.output) c.loop.now []
    (served_so_far g.M.Answering.holds g.M.Answering.undecided g.V.Watcher.sees g.V.Watcher.begins (setting_by c.args.setup.now m) _ _ _ _ _ _ _ (c.loop.invariant.so_far m holds))
    (subst (λ (n : ℕ). Consumes (g.I.Read.remaining c.loop.input) (g.I.Read.remaining c.read_some.new.input) (take n c.read_some.new.piece)) c.if-count-eq0.true c.in_ok-count.ensures.read)
    (search rules) (λ Begun. (refl, refl))

pub returns-in_err-count-clause-left : goal.returns-in_err-count-clause-left
returns-in_err-count-clause-left g c = λ m holds.
    left_given g.M.Answering.holds g.M.Answering.endless (setting_by c.args.setup.now m) _ _ _ _ _ _ c.from_residual.ensures.1
    (left_unanswered g.M.Answering.holds g.M.Answering.endless (setting_by c.args.setup.now m) _ (g.I.Read.remaining c.args.input.now) (g.I.Read.remaining c.loop.input)
    (g.I.Read.remaining c.read_some.new.input) (g.W.Write.contents c.args.output.now) (g.W.Write.contents c.loop.output) c.loop.now []
    (served_so_far g.M.Answering.holds g.M.Answering.undecided g.V.Watcher.sees g.V.Watcher.begins (setting_by c.args.setup.now m) _ _ _ _ _ _ _ (c.loop.invariant.so_far m holds)) c.in_err-count.ensures.none (search rules) (λ Begun. reader_leaves _ Begun _ c.in_err-count.ensures.fault))

pub returns-in_err-now-clause-left : goal.returns-in_err-now-clause-left
returns-in_err-now-clause-left g c = λ m holds.
    left_given g.M.Answering.holds g.M.Answering.endless (setting_by c.args.setup.now m) _ _ _ _ _ _ c.from_residual-in_err-now.ensures.1
    (left_unanswered g.M.Answering.holds g.M.Answering.endless (setting_by c.args.setup.now m) _ (g.I.Read.remaining c.args.input.now) (g.I.Read.remaining c.loop.input)
    (g.I.Read.remaining c.read_some.new.input) (g.W.Write.contents c.args.output.now) (g.W.Write.contents c.loop.output) c.loop.now (take c.in_ok-count.count c.read_some.new.piece)
    (served_so_far g.M.Answering.holds g.M.Answering.undecided g.V.Watcher.sees g.V.Watcher.begins (setting_by c.args.setup.now m) _ _ _ _ _ _ _ (c.loop.invariant.so_far m holds)) c.in_ok-count.ensures.read (few_taken c.in_ok-count.count c.read_some.new.piece (search rules))
    (λ Begun.
    let so_far = c.loop.invariant.so_far m holds in
    modem_leaves _ _ Begun _
    (endless_so
    {P = (n : ModemState) → PassesToEndless g.M.Answering.holds g.M.Answering.undecided g.V.Watcher.sees g.V.Watcher.begins g.M.Answering.endless (setting_by c.args.setup.now n) c.loop.now c.loop.watcher (take c.in_ok-count.count c.read_some.new.piece)}
    {Q = StandsEndless g.M.Answering.holds g.M.Answering.endless (setting_by c.args.setup.now m) (so_far.came ++ take c.in_ok-count.count c.read_some.new.piece)} _
    (λ passes.
    passes m c.args.watcher.now _ _
    (passing_more g.M.Answering.holds g.M.Answering.undecided g.V.Watcher.sees g.V.Watcher.begins g.met.M.Answering.brings (setting_by c.args.setup.now m) c.args.watcher.now so_far.came so_far.went c.loop.now c.loop.watcher (take c.in_ok-count.count c.read_some.new.piece) so_far.passing))
    c.in_err-now.ensures.fault)
    (some_taken c.in_ok-count.count c.read_some.new.piece c.if-count-eq0.false c.in_ok-count.ensures.bound)))

pub returns-in_err-put-clause-left : goal.returns-in_err-put-clause-left
returns-in_err-put-clause-left g c = λ m holds.
    left_given g.M.Answering.holds g.M.Answering.endless (setting_by c.args.setup.now m) _ _ _ _ _ _ c.from_residual-in_err-put.ensures.1
    (let so_far = c.loop.invariant.so_far m holds in
    let passes = c.in_ok-now.ensures.passes m in
    let passing =
    passes.passes c.args.watcher.now _ _
    (passing_more g.M.Answering.holds g.M.Answering.undecided g.V.Watcher.sees g.V.Watcher.begins g.met.M.Answering.brings (setting_by c.args.setup.now m) c.args.watcher.now so_far.came so_far.went c.loop.now c.loop.watcher (take c.in_ok-count.count c.read_some.new.piece) so_far.passing) in
    left_unwritten g.M.Answering.holds g.M.Answering.endless (setting_by c.args.setup.now m) _ (g.I.Read.remaining c.args.input.now) (g.I.Read.remaining c.loop.input)
    (g.I.Read.remaining c.read_some.new.input) (g.W.Write.contents c.args.output.now) (g.W.Write.contents c.loop.output)
    (g.W.Write.contents c.put.new.output) c.loop.now c.in_ok-now.now (take c.in_ok-count.count c.read_some.new.piece) c.loop.out.items
    c.pass.new.out.items passes.more passing.entries c.in_err-put.ensures.fault
    (served_so_far g.M.Answering.holds g.M.Answering.undecided g.V.Watcher.sees g.V.Watcher.begins (setting_by c.args.setup.now m) _ _ _ _ _ _ _ so_far) c.in_ok-count.ensures.read
    (few_taken c.in_ok-count.count c.read_some.new.piece (search rules))
    (some_taken c.in_ok-count.count c.read_some.new.piece c.if-count-eq0.false c.in_ok-count.ensures.bound) passing.holds passes.written c.loop.invariant.none_left
    (subst (λ (l : List ℕ). IsBegun (g.W.Write.contents c.loop.output) (g.W.Write.contents c.put.new.output) l) c.as_slice-in-loop.ensures.value c.in_err-put.ensures.part))

pub returns-clause-left : goal.returns-clause-left
returns-clause-left g c = λ m holds.
    left_unanswered g.M.Answering.holds g.M.Answering.endless (setting_by c.args.setup.now m) _ (g.I.Read.remaining c.args.input.now) (g.I.Read.remaining c.loop.input)
    (g.I.Read.remaining c.loop.input) (g.W.Write.contents c.args.output.now) (g.W.Write.contents c.loop.output) c.loop.now []
    (served_so_far g.M.Answering.holds g.M.Answering.undecided g.V.Watcher.sees g.V.Watcher.begins (setting_by c.args.setup.now m) _ _ _ _ _ _ _ (c.loop.invariant.so_far m holds)) (Consumes-nil (g.I.Read.remaining c.loop.input)) (search rules) (λ Begun. (refl, refl))

pub returns-in_err-count-clause-fault : goal.returns-in_err-count-clause-fault
returns-in_err-count-clause-fault g c = given_no_capture _ _ c.from_residual.ensures.1 (reader_no_capture _ c.in_err-count.ensures.fault)

pub returns-in_err-now-clause-fault : goal.returns-in_err-now-clause-fault
returns-in_err-now-clause-fault g c =
    given_no_capture _ _ c.from_residual-in_err-now.ensures.1
    (modem_no_capture
    ((n : ModemState) → PassesToEndless g.M.Answering.holds g.M.Answering.undecided g.V.Watcher.sees g.V.Watcher.begins g.M.Answering.endless (setting_by c.args.setup.now n) c.loop.now c.loop.watcher (take c.in_ok-count.count c.read_some.new.piece))
    _ c.in_err-now.ensures.fault)
