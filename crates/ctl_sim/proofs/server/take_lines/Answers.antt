use Rattle.std.proofs.Common.{ap, sym, ◌∙◌, refl, subst}
use Rattle.std.specs.Prelude.{option_map}
use Rattle.ctl_sim.specs.declared.server.Mode.TheVariants.{Lines}
use Rattle.ctl_sim.specs.Entry.{octets_of}
use Rattle.ctl_sim.specs.Plain.{Plain}
use Rattle.ctl_sim.specs.Standing.{Hears, setting_by}
use Rattle.ctl_sim.proofs.Stepping.{enters_by, moves_on, stays_by}
use Rattle.ctl_sim.proofs.LeftOctets.{ends_dropped, ends_entered}
use Rattle.ctl_sim.proofs.server.take_lines.Goals as goal

pub returns-in_ok-mux-in-Some-clause-fewer : goal.returns-in_ok-mux-in-Some-clause-fewer
returns-in_ok-mux-in-Some-clause-fewer c =
    let hears = rw c.in_ok-behind.ensures.made at c.hear.ensures in
    let left = ap (λ v. v.items) c.in_ok-mux-in-Some.ensures.kept in
    moves_on c.args.setup.now c.finish.result c.in-Some.n1.octets (Lines c.args.plain) c.in_ok-mux-in-Some.mux c.args.plain.entered hears.count
    c.args.octets.now c.in_ok-mux-in-Some.behind.items refl (rw c.in_ok-mux-in-Some.ensures.made at c.enter.ensures) hears.bound (left ∙ hears.behind_is) hears.some

pub returns-in_ok-mux-in-Some-clause-ends : goal.returns-in_ok-mux-in-Some-clause-ends
returns-in_ok-mux-in-Some-clause-ends c =
    let hears = rw c.in_ok-behind.ensures.made at c.hear.ensures in
    let left = ap (λ v. v.items) c.in_ok-mux-in-Some.ensures.kept in
    ends_entered c.args.setup.now c.finish.result c.in-Some.n1.octets c.args.octets.now c.in_ok-mux-in-Some.behind.items c.in_ok-mux-in-Some.mux (rw c.in_ok-mux-in-Some.ensures.made at c.enter.ensures)
    (ends_dropped hears.count c.args.octets.now c.in_ok-mux-in-Some.behind.items (left ∙ hears.behind_is))

pub returns-in_ok-mux-in-Some-clause-steps : goal.returns-in_ok-mux-in-Some-clause-steps
returns-in_ok-mux-in-Some-clause-steps c = λ m.
    let hears = rw c.in_ok-behind.ensures.made at c.hear.ensures in
    enters_by c.args.setup.now (setting_by c.args.setup.now m) c.args.plain c.in_ok-behind.lines c.in-Some.n1.octets c.finish.result c.in_ok-mux-in-Some.mux c.args.octets.now c.in_ok-behind.behind.items
    c.in_ok-mux-in-Some.behind.items c.args.out.now.items c.hear.new.out.items refl
    (subst (λ (q : Plain). Hears c.args.plain q c.args.octets.now c.in_ok-behind.behind.items c.args.out.now.items c.hear.new.out.items) (sym c.in_ok-behind.ensures.kept) hears)
    (sym c.entered.ensures.entered ∙ ap (option_map octets_of) c.in-Some.is) c.entered.ensures.none_behind c.finish.ensures (rw c.in_ok-mux-in-Some.ensures.made at c.enter.ensures)
    (ap (λ v. v.items) c.in_ok-mux-in-Some.ensures.kept)

pub returns-in-None-clause-ends : goal.returns-in-None-clause-ends
returns-in-None-clause-ends c =
    let hears = rw c.in_ok-behind.ensures.made at c.hear.ensures in
    ends_dropped hears.count c.args.octets.now c.in_ok-behind.behind.items hears.behind_is

pub returns-in-None-clause-steps : goal.returns-in-None-clause-steps
returns-in-None-clause-steps c = λ m.
    let hears = rw c.in_ok-behind.ensures.made at c.hear.ensures in
    stays_by (setting_by c.args.setup.now m) c.args.plain c.in_ok-behind.lines c.args.octets.now c.in_ok-behind.behind.items c.args.out.now.items c.hear.new.out.items
    (subst (λ (q : Plain). Hears c.args.plain q c.args.octets.now c.in_ok-behind.behind.items c.args.out.now.items c.hear.new.out.items) (sym c.in_ok-behind.ensures.kept) hears)
    (sym c.entered.ensures.entered ∙ ap (option_map octets_of) c.in-None.is)
