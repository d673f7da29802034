use Rattle.std.proofs.Common.{◌≡◌, ◌∙◌, List, map, sym, ap, subst}
use Rattle.modem_desk.specs.Ends.{DeskId, Place, DriverView, place_of, IsWhole}
use Rattle.desk_tests.proofs.threads.run.Goals as goal

pub settle-requires-clause-callers : goal.settle-requires-clause-callers
settle-requires-clause-callers g c =
    let was = ap (λ p. p.0.value) c.in-Ok-spawn_with.ensures.ok ∙ c.of.ensures in
    let desk : c.join-driver.result.desk ≡ c.in-Ok.driver.desk = c.join-driver.ensures ∙ ap (λ (v : DriverView). v.desk) was in
    let places : map place_of c.in-Ok-call_all.back.items ≡ map place_of c.in-Ok.all.items = c.in-Ok-call_all.ensures in
    subst (λ (x : DeskId × List Place). IsWhole x.0 x.1) (λ i. (sym desk i, sym places i)) c.in-Ok.ensures.opened.whole
