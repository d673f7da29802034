use Rattle.std.proofs.Common.{◌∙◌, ◌==◌, true, false, length, ap, sym, subst}
use Rattle.mux_station.specs.GivenFrames.{outgoing_of}
use Rattle.line_end.specs.LineEnds.{LineEnd}
use Rattle.modem_sim.specs.Sims.{SimMachine, SimMachineGoes}
use Rattle.modem_sim.specs.Acts.{any_act, is_handing}
use Rattle.modem_sim.specs.Stills.{Loads, LoadsBy, LoadsNone, ready}
use Rattle.modem_sim.proofs.sims.LoadedFrames.{loaded_goes, loads_frame, loads_no_frame, loads_nothing_yet}
use Rattle.modem_sim.proofs.sims.SimPasts.{machine_any, machine_core, fetched_none, gone_n1}
use Rattle.modem_sim.proofs.sims.TurnParts.{loads_nothing, more_ready, none_of, some_of}
use Rattle.modem_sim.proofs.sims.MachineParts.{machine_of}
use Rattle.modem_sim.proofs.sim_machine.SimMachine.load.Goals as goal

pub returns-in_err-offered-clause-goes : goal.returns-in_err-offered-clause-goes
returns-in_err-offered-clause-goes c =
    let old : SimMachine = machine_of c.self.inside.core c.self.inside.line_end c.self.inside.end in
    let new : SimMachine = record old { core = c.offer_all.new.self } in
    let Goes_to : SimMachine → Type 0 = λ k. SimMachineGoes any_act k new in
    subst Goes_to c.self.view_is (machine_any is_handing old new (machine_core is_handing old c.offer_all.new.self c.offer_all.ensures.goes))

pub returns-in_default-clause-goes : goal.returns-in_default-clause-goes
returns-in_default-clause-goes c =
    let old : SimMachine = machine_of c.self.inside.core c.self.inside.line_end c.self.inside.end in
    let new : SimMachine = record old { core = c.outgoing.follows.lender-at-none } in
    let Goes_to : SimMachine → Type 0 = λ k. SimMachineGoes any_act k new in
    subst Goes_to c.self.view_is
    (machine_any is_handing old new (machine_core is_handing old c.outgoing.follows.lender-at-none
    (fetched_none old.core c.offer_all.new.self c.outgoing.follows.lender-at-none is_handing (length c.offer_all.new.self.station.queue == 0) c.offer_all.ensures.goes
    c.in_default.ensures.frame c.outgoing.follows.holds-at-none)))

pub returns-then-not-is_written-clause-loads : goal.returns-then-not-is_written-clause-loads
returns-then-not-is_written-clause-loads c =
    let old : SimMachine = machine_of c.self.inside.core c.self.inside.line_end c.self.inside.end in
    let From : SimMachine → Type 0 = λ k. LoadsBy k k false in
    subst From c.self.view_is (loads_nothing_yet old (some_of c.self.inside.line_end.unwritten (sym c.is_written.ensures ∙ c.if-not-is_written.true)))

pub returns-in_default-clause-loads : goal.returns-in_default-clause-loads
returns-in_default-clause-loads c =
    let old : SimMachine = machine_of c.self.inside.core c.self.inside.line_end c.self.inside.end in
    let From : SimMachine → Type 0 = λ k. LoadsBy k (record old { core = c.outgoing.follows.lender-at-none }) c.in_ok-offered.offered in
    subst From c.self.view_is
    (loads_no_frame old c.offer_all.new.self c.outgoing.follows.lender-at-none c.in_ok-offered.offered (length c.offer_all.new.self.station.queue == 0)
    (none_of c.self.inside.line_end.unwritten (sym c.is_written.ensures ∙ c.if-not-is_written.false)) c.in_ok-offered.ensures.hands c.in_default.ensures.frame c.outgoing.follows.holds-at-none)

pub returns-in_default-clause-none : goal.returns-in_default-clause-none
returns-in_default-clause-none c = λ none.
    let old : SimMachine = machine_of c.self.inside.core c.self.inside.line_end c.self.inside.end in
    let From : SimMachine → Type 0 = λ k. LoadsNone k (record old { core = c.outgoing.follows.lender-at-none }) in
    subst From c.self.view_is
    (loads_nothing old c.offer_all.new.self c.outgoing.follows.lender-at-none (length c.offer_all.new.self.station.queue == 0)
    (c.in_ok-offered.ensures.same none) c.in_default.ensures.frame c.outgoing.follows.holds-at-none (c.in_ok-offered.ensures.none none))

pub returns-clause-goes : goal.returns-clause-goes
returns-clause-goes c =
    let old : SimMachine = machine_of c.self.inside.core c.self.inside.line_end c.self.inside.end in
    let out = c.put.new.self.unwritten in
    let new : SimMachine = record old { core = c.outgoing.follows.lender-at-none; out = out } in
    let put : LineEnd → SimMachine = λ l. machine_of c.outgoing.follows.lender-at-none l c.self.inside.end in
    let none = none_of c.self.inside.line_end.unwritten (sym c.is_written.ensures ∙ c.if-not-is_written.false) in
    let offers = c.in_ok-offered.ensures.hands in
    let loads : Loads old new offers.some =
    loads_frame old c.offer_all.new.self c.outgoing.follows.lender-at-none c.in_ok-offered.offered (length c.offer_all.new.self.station.queue == 0) (outgoing_of c.in-Some.outgoing) out
    none offers c.in-Some.ensures.frame c.in-Some.ensures.short c.put.ensures.octets c.in-Some.ensures.past c.outgoing.follows.holds-at-none in
    subst (λ (v : SimMachine). SimMachineGoes any_act v (put c.put.new.self)) c.self.view_is
    (subst (λ (l : LineEnd). SimMachineGoes any_act old (put l)) (sym c.put.ensures.rest) (loaded_goes old new offers.some loads))

pub returns-clause-loads : goal.returns-clause-loads
returns-clause-loads c =
    let old : SimMachine = machine_of c.self.inside.core c.self.inside.line_end c.self.inside.end in
    let out = c.put.new.self.unwritten in
    let new : SimMachine = record old { core = c.outgoing.follows.lender-at-none; out = out } in
    let put : LineEnd → SimMachine = λ l. machine_of c.outgoing.follows.lender-at-none l c.self.inside.end in
    let none = none_of c.self.inside.line_end.unwritten (sym c.is_written.ensures ∙ c.if-not-is_written.false) in
    let offers = c.in_ok-offered.ensures.hands in
    let loads : Loads old new offers.some =
    loads_frame old c.offer_all.new.self c.outgoing.follows.lender-at-none c.in_ok-offered.offered (length c.offer_all.new.self.station.queue == 0) (outgoing_of c.in-Some.outgoing) out
    none offers c.in-Some.ensures.frame c.in-Some.ensures.short c.put.ensures.octets c.in-Some.ensures.past c.outgoing.follows.holds-at-none in
    let loaded : LoadsBy old new true =
    record { some = offers.some; loads = loads; has_loaded = λ _ _. ready (more_ready c.self.inside.line_end.unwritten out none c.put.ensures.some); none = λ still. cc } in
    subst (λ (v : SimMachine). LoadsBy v (put c.put.new.self) true) c.self.view_is
    (subst (λ (l : LineEnd). LoadsBy old (put l) true) (sym c.put.ensures.rest) loaded)

pub invariant_of-self-in_default : goal.invariant_of-self-in_default
invariant_of-self-in_default c =
    gone_n1 c.offer_all.new.self c.outgoing.follows.lender-at-none c.self.inside.line_end.deframer.n1 c.outgoing.follows.holds-at-none
    (c.offer_all.ensures.n1 ∙ c.self.invariant)

pub invariant_of-self-2 : goal.invariant_of-self-2
invariant_of-self-2 c =
    gone_n1 c.offer_all.new.self c.outgoing.follows.lender-at-none c.self.inside.line_end.deframer.n1 c.outgoing.follows.holds-at-none
    (c.offer_all.ensures.n1 ∙ c.self.invariant)
    ∙ sym (ap (λ (l : LineEnd). l.deframer.n1) c.put.ensures.rest)
