use Rattle.std.proofs.Common.{refl, Bool, List, ◌∷◌, ◌≡◌, ◌+◌, ◌||◌, drop, sym, ap, ◌∙◌, subst, arith}
use Rattle.std.proofs.lemmas.Bool.Decides.{nat_tests}
use Rattle.modem_sim.proofs.ends.EndAfterFrame.{either_way}
use Rattle.modem_sim.specs.Acts.{is_step_act}
use Rattle.modem_sim.specs.declared.script.Step.{Step}
use Rattle.modem_sim.specs.Cores.{Core, Goes, HasNoneToDo, HasPassed, SaysNext, Waits, boxes_done, for_calls, for_lines, for_openings, for_room, waits}
use Rattle.modem_sim.proofs.ends.ScriptSteps.{does_goes, passed_one, passes_goes, refused_any, step_at}
use Rattle.modem_sim.proofs.sim_core.SimCore.do_next.Goals as goal
use Rattle.modem_sim.proofs.sim_core.SimCore.do_next.Goals.{then-step-self-via-then-step-self, then-step-self-via-else-step-self+then-not-are_open}

pub returns-clause-goes : goal.returns-clause-goes
returns-clause-goes c =
    let old : Core = record {
      station = c.self.inside.station;
      modem = c.self.inside.modem;
      echo = c.self.inside.echo;
      boxes = c.self.inside.channels.items;
      come = c.self.inside.come;
      steps = drop c.self.inside.next c.self.inside.steps.items;
      closed = c.self.inside.closed;
    } in
    let step = c.in-Some.step.now in
    let later = drop (c.self.inside.next + 1) c.self.inside.steps.items in
    let new : Core = record {
      station = c.carry_out.new.station;
      modem = c.self.inside.modem;
      echo = c.self.inside.echo;
      boxes = c.carry_out.new.channels.items;
      come = c.self.inside.come;
      steps = later;
      closed = c.self.inside.closed || c.closes_by-closes.result;
    } in
    let Steps : List Step → Type 0 = λ xs. drop c.self.inside.next xs ≡ step ∷ drop (c.self.inside.next + 1) xs in
    let first = subst Steps c.deref.ensures.value (step_at c.deref.result.now c.self.inside.next step c.in-Some.ensures.lookup.3.0 c.in-Some.ensures.lookup.1) in
    let Goes_to : Core → Type 0 = λ o. Goes is_step_act o new in
    subst Goes_to c.self.view_is
    (does_goes old new step later c.self.invariant.0 first
    (sym c.if-not-acts.ensures) (let late = c.if-step-self.false in grind (arith, nat_tests)) (sym c.if-not-are_open.ensures) (sym c.if-not-are_free.ensures)
    (c.in_ok-carry_out.ensures.station c.if-not-branch.false)
    (ap (λ bs. record new { boxes = bs }) (c.in_ok-carry_out.ensures.boxes c.if-not-branch.false)
    ∙ ap (λ (b : Bool). record new { boxes = boxes_done step.act c.self.inside.channels.items; closed = b })
    (either_way c.self.inside.closed c.closes_by-closes.result ∙ ap (λ (b : Bool). b || c.self.inside.closed) c.closes_by-closes.ensures)))

pub returns-then-not-acts-clause-goes : goal.returns-then-not-acts-clause-goes
returns-then-not-acts-clause-goes c =
    let old : Core = record {
      station = c.self.inside.station;
      modem = c.self.inside.modem;
      echo = c.self.inside.echo;
      boxes = c.self.inside.channels.items;
      come = c.self.inside.come;
      steps = drop c.self.inside.next c.self.inside.steps.items;
      closed = c.self.inside.closed;
    } in
    let step = c.in-Some.step.now in
    let later = drop (c.self.inside.next + 1) c.self.inside.steps.items in
    let Steps : List Step → Type 0 = λ xs. drop c.self.inside.next xs ≡ step ∷ drop (c.self.inside.next + 1) xs in
    let first = subst Steps c.deref.ensures.value (step_at c.deref.result.now c.self.inside.next step c.in-Some.ensures.lookup.3.0 c.in-Some.ensures.lookup.1) in
    let Goes_to : Core → Type 0 = λ o. Goes is_step_act o (record old { steps = later }) in
    subst Goes_to c.self.view_is (passes_goes old (record old { steps = later }) step later first (sym c.acts.ensures ∙ c.if-not-acts.true) refl)

pub returns-then-step-self-clause-none : goal.returns-then-step-self-clause-none
returns-then-step-self-clause-none c = λ _.
    let old : Core = record {
      station = c.self.inside.station;
      modem = c.self.inside.modem;
      echo = c.self.inside.echo;
      boxes = c.self.inside.channels.items;
      come = c.self.inside.come;
      steps = drop c.self.inside.next c.self.inside.steps.items;
      closed = c.self.inside.closed;
    } in
    let step = c.in-Some.step.now in
    let later = drop (c.self.inside.next + 1) c.self.inside.steps.items in
    let Steps : List Step → Type 0 = λ xs. drop c.self.inside.next xs ≡ step ∷ drop (c.self.inside.next + 1) xs in
    let first = subst Steps c.deref.ensures.value (step_at c.deref.result.now c.self.inside.next step c.in-Some.ensures.lookup.3.0 c.in-Some.ensures.lookup.1) in
    let There : Core → Type 0 = λ o. HasNoneToDo o in
    let why : Waits old step =
    elim c.then-step-self.branch [
      | then-step-self-via-then-step-self w ↦ for_lines w.if-step-self.true (omega arith)
      | then-step-self-via-else-step-self+then-not-are_open w ↦ for_openings (sym w.are_open.ensures ∙ w.if-not-are_open.true)
    ] in
    subst There c.self.view_is (waits step later first (sym c.if-not-acts.ensures) why)

pub returns-then-not-are_free-clause-none : goal.returns-then-not-are_free-clause-none
returns-then-not-are_free-clause-none c = λ _.
    let old : Core = record {
      station = c.self.inside.station;
      modem = c.self.inside.modem;
      echo = c.self.inside.echo;
      boxes = c.self.inside.channels.items;
      come = c.self.inside.come;
      steps = drop c.self.inside.next c.self.inside.steps.items;
      closed = c.self.inside.closed;
    } in
    let step = c.in-Some.step.now in
    let later = drop (c.self.inside.next + 1) c.self.inside.steps.items in
    let Steps : List Step → Type 0 = λ xs. drop c.self.inside.next xs ≡ step ∷ drop (c.self.inside.next + 1) xs in
    let first = subst Steps c.deref.ensures.value (step_at c.deref.result.now c.self.inside.next step c.in-Some.ensures.lookup.3.0 c.in-Some.ensures.lookup.1) in
    let There : Core → Type 0 = λ o. HasNoneToDo o in
    subst There c.self.view_is (waits step later first (sym c.if-not-acts.ensures) (for_calls (sym c.are_free.ensures ∙ c.if-not-are_free.true)))

pub returns-then-not-branch-clause-none : goal.returns-then-not-branch-clause-none
returns-then-not-branch-clause-none c = λ _.
    let old : Core = record {
      station = c.self.inside.station;
      modem = c.self.inside.modem;
      echo = c.self.inside.echo;
      boxes = c.self.inside.channels.items;
      come = c.self.inside.come;
      steps = drop c.self.inside.next c.self.inside.steps.items;
      closed = c.self.inside.closed;
    } in
    let step = c.in-Some.step.now in
    let later = drop (c.self.inside.next + 1) c.self.inside.steps.items in
    let Steps : List Step → Type 0 = λ xs. drop c.self.inside.next xs ≡ step ∷ drop (c.self.inside.next + 1) xs in
    let first = subst Steps c.deref.ensures.value (step_at c.deref.result.now c.self.inside.next step c.in-Some.ensures.lookup.3.0 c.in-Some.ensures.lookup.1) in
    let There : Core → Type 0 = λ o. HasNoneToDo o in
    subst There c.self.view_is (waits step later first (sym c.if-not-acts.ensures) (for_room (c.in_ok-carry_out.ensures.refused c.if-not-branch.true)))

pub returns-in_err-carry_out-clause-says : goal.returns-in_err-carry_out-clause-says
returns-in_err-carry_out-clause-says c =
    let old : Core = record {
      station = c.self.inside.station;
      modem = c.self.inside.modem;
      echo = c.self.inside.echo;
      boxes = c.self.inside.channels.items;
      come = c.self.inside.come;
      steps = drop c.self.inside.next c.self.inside.steps.items;
      closed = c.self.inside.closed;
    } in
    let step = c.in-Some.step.now in
    let later = drop (c.self.inside.next + 1) c.self.inside.steps.items in
    let Steps : List Step → Type 0 = λ xs. drop c.self.inside.next xs ≡ step ∷ drop (c.self.inside.next + 1) xs in
    let first = subst Steps c.deref.ensures.value (step_at c.deref.result.now c.self.inside.next step c.in-Some.ensures.lookup.3.0 c.in-Some.ensures.lookup.1) in
    let says : SaysNext old = record {
      step = step;
      later = later;
      is_first = first;
      is_done = sym c.if-not-acts.ensures;
      come = let late = c.if-step-self.false in omega (arith, late);
      open_are = sym c.if-not-are_open.ensures;
      free = sym c.if-not-are_free.ensures;
      asks_nothing = c.in_err-carry_out.ensures.says;
    } in
    let There : Core → Type 0 = λ o. SaysNext o in
    refused_any c.from_residual.result (subst There c.self.view_is says)

pub returns-then-not-acts-clause-passed : goal.returns-then-not-acts-clause-passed
returns-then-not-acts-clause-passed c =
    let old : Core = record {
      station = c.self.inside.station;
      modem = c.self.inside.modem;
      echo = c.self.inside.echo;
      boxes = c.self.inside.channels.items;
      come = c.self.inside.come;
      steps = drop c.self.inside.next c.self.inside.steps.items;
      closed = c.self.inside.closed;
    } in
    let step = c.in-Some.step.now in
    let later = drop (c.self.inside.next + 1) c.self.inside.steps.items in
    let Steps : List Step → Type 0 = λ xs. drop c.self.inside.next xs ≡ step ∷ drop (c.self.inside.next + 1) xs in
    let first = subst Steps c.deref.ensures.value (step_at c.deref.result.now c.self.inside.next step c.in-Some.ensures.lookup.3.0 c.in-Some.ensures.lookup.1) in
    let Passed : Core → Type 0 = λ o. HasPassed o (record old { steps = later }) in
    subst Passed c.self.view_is (passed_one old (record old { steps = later }) step first)

pub returns-clause-passed : goal.returns-clause-passed
returns-clause-passed c =
    let old : Core = record {
      station = c.self.inside.station;
      modem = c.self.inside.modem;
      echo = c.self.inside.echo;
      boxes = c.self.inside.channels.items;
      come = c.self.inside.come;
      steps = drop c.self.inside.next c.self.inside.steps.items;
      closed = c.self.inside.closed;
    } in
    let step = c.in-Some.step.now in
    let later = drop (c.self.inside.next + 1) c.self.inside.steps.items in
    let new : Core = record {
      station = c.carry_out.new.station;
      modem = c.self.inside.modem;
      echo = c.self.inside.echo;
      boxes = c.carry_out.new.channels.items;
      come = c.self.inside.come;
      steps = later;
      closed = c.self.inside.closed || c.closes_by-closes.result;
    } in
    let Steps : List Step → Type 0 = λ xs. drop c.self.inside.next xs ≡ step ∷ drop (c.self.inside.next + 1) xs in
    let first = subst Steps c.deref.ensures.value (step_at c.deref.result.now c.self.inside.next step c.in-Some.ensures.lookup.3.0 c.in-Some.ensures.lookup.1) in
    let Passed : Core → Type 0 = λ o. HasPassed o new in
    subst Passed c.self.view_is (passed_one old new step first)
