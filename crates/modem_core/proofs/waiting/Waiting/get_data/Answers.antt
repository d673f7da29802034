-- What a frame told and announced waits, or nothing has changed.
use Rattle.std.proofs.Common.{List, arith, ap, append-nil, subst, sym, ◌∙◌}
use Rattle.std.specs.Prelude.{Option}
use Rattle.mux_frame.specs.Frames.{frame_of}
use Rattle.modem_desk.specs.declared.request.Urc.{Urc}
use Rattle.modem_history.specs.Acts.{Got}
use Rattle.modem_queues.proofs.lists.HeardLines.{same_heard}
use Rattle.modem_core.specs.declared.settling.Answered.{Answered}
use Rattle.modem_core.specs.Doing.{Adds, GetsData}
use Rattle.modem_core.specs.WaitingLists.{WaitingLists}
use Rattle.modem_core.proofs.lines.ReportedLines.{on_err}
use Rattle.modem_core.proofs.sessions.steps.CollectedActs.{gets_data, told_then}
use Rattle.modem_core.proofs.waiting.Waiting.get_data.Goals as goal

pub returns-in_err-answered-clause-stays : goal.returns-in_err-answered-clause-stays
returns-in_err-answered-clause-stays c =
    let k = c.self.inside in
    on_err _ c.from_residual.result
    (ap (λ (us : List Urc). let w : WaitingLists = record { outcomes = k.outcomes.items; lines = us } in w) (same_heard c.read.new.lines.items k.lines.items c.in_err-answered.ensures.unheard) ∙ c.self.view_is)

pub returns-in-Some-clause-gets : goal.returns-in-Some-clause-gets
returns-in-Some-clause-gets c =
    let k = c.self.inside in
    let was : WaitingLists = record { outcomes = k.outcomes.items; lines = k.lines.items } in
    let now : WaitingLists = record { outcomes = c.put_told.new.told.items; lines = c.read.new.lines.items } in
    let adds : Adds was.outcomes now.outcomes (told_then c.in_ok-answered.field-0)
    = subst (λ (o : Option Answered). Adds was.outcomes now.outcomes (told_then o)) (sym c.in-Some.is) (λ few. c.put_told.ensures.put (omega (arith, few))) in
    subst (λ (w : WaitingLists). GetsData c.args.core.now c.read.new.self w now (Got (frame_of c.args.frame))) c.self.view_is
    (gets_data c.args.core.now c.read.new.self (frame_of c.args.frame) was now c.in_ok-answered.field-0 c.in_ok-answered.ensures.brings c.in_ok-answered.ensures.ends_none adds)

pub returns-in_default-clause-gets : goal.returns-in_default-clause-gets
returns-in_default-clause-gets c =
    let k = c.self.inside in
    let was : WaitingLists = record { outcomes = k.outcomes.items; lines = k.lines.items } in
    let now : WaitingLists = record was { lines = c.read.new.lines.items } in
    let adds : Adds was.outcomes now.outcomes (told_then c.in_ok-answered.field-0)
    = subst (λ (o : Option Answered). Adds was.outcomes now.outcomes (told_then o)) (sym c.in_default.is) (λ few. sym (append-nil was.outcomes)) in
    subst (λ (w : WaitingLists). GetsData c.args.core.now c.read.new.self w now (Got (frame_of c.args.frame))) c.self.view_is
    (gets_data c.args.core.now c.read.new.self (frame_of c.args.frame) was now c.in_ok-answered.field-0 c.in_ok-answered.ensures.brings c.in_ok-answered.ensures.ends_none adds)
