use Rattle.std.proofs.Common.{◌≡◌, ◌++◌, ◌∙◌, ℕ, Bool, List, Some, ap, sym, option_map}
use Rattle.ctl_sim.specs.Entry.{mux_entry, octets_of}
use Rattle.ctl_sim.specs.Plain.{said_entering}
use Rattle.ctl_sim.proofs.Answering.{said_some}
use Rattle.ctl_sim.proofs.plain.answer.Goals as goal

pub returns-in_ok-push_entering-in-Some-clause-said : goal.returns-in_ok-push_entering-in-Some-clause-said
returns-in_ok-push_entering-in-Some-clause-said c =
    let entered : mux_entry c.args.n1.octets c.args.line.now ≡ Some c.in-Some.entered.octets = sym c.in_ok-entered.ensures ∙ ap (option_map octets_of) c.in-Some.is in
    c.in_ok-push_entering-in-Some.ensures
    ∙ ap (λ (l : List ℕ). c.args.out.now.items ++ l)
    (ap (λ (b : Bool). said_entering b c.args.line.now) c.echoes.ensures ∙ sym (said_some (mux_entry c.args.n1.octets c.args.line.now) c.in-Some.entered.octets c.args.modem.now c.args.line.now entered))
