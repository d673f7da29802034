-- A call on the line has failed already.
use Rattle.std.proofs.Common.{◌≡◌, ap, sym, subst, true, Bool}
use Rattle.modem_driver.specs.SessionStates.{Machine, MachineLoses}
use Rattle.modem_driver.proofs.machine.Machine.lose.Goals as goal

pub returns-clause-loses : goal.returns-clause-loses
returns-clause-loses c =
    let old = c.args.self.now in
    let same : record old { faulty = true } ≡ old = ap (λ (b : Bool). record old { faulty = b }) (sym c.requires.faulty) in
    subst (λ (v : Machine). MachineLoses v c.lose_line.new.self) same c.lose_line.ensures.loses
