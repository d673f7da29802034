use Rattle.std.specs.Prelude.{◌≡◌, ◌⊎◌, Bool, true}
use Rattle.std.proofs.Common.{ap, sym, subst}
use Rattle.modem_data_line.specs.DataLines.{DataLineState, LeadsBy, may_pass}
use Rattle.modem_data_line.specs.Moving.{IsAsked}
use Rattle.modem_data_line.proofs.Leads.{leads_then}
use Rattle.modem_data_line.proofs.data_line.DataLine.take_in.Goals as goal

pub returns-clause-goes : goal.returns-clause-goes
returns-clause-goes g c =
    let same = ap (λ (x : DataLineState _). x.is_behind) c.read_line-came.ensures.same in
    leads_then g.L.SerialLine.seen (may_pass c.args.self.now.is_behind) c.args.self.now c.read_line-came.new.self c.feed_relay.new.self
    c.read_line-came.ensures.goes (subst (λ (k : Bool). LeadsBy g.L.SerialLine.seen (may_pass k) c.read_line-came.new.self c.feed_relay.new.self) same c.feed_relay.ensures.goes)

pub returns-clause-asked : goal.returns-clause-asked
returns-clause-asked g c = λ none e.
    let lost = ap (λ (x : DataLineState _). x.is_lost) c.feed_relay.ensures.same in
    let line = ap (λ (x : DataLineState _). x.line) c.feed_relay.ensures.same in
    subst (λ (k : Bool). (k ≡ true) ⊎ IsAsked g.L.SerialLine.seen c.args.self.now.line c.feed_relay.new.self.line) (sym lost)
    (subst (λ l. (c.read_line-came.new.self.is_lost ≡ true) ⊎ IsAsked g.L.SerialLine.seen c.args.self.now.line l) (sym line) (c.read_line-came.ensures.asked e))
