use Rattle.std.proofs.Common.{◌↔◌, subst, List, ap, ◌∙◌}
use Rattle.std.specs.Prelude.{IsTrue, Contains}
use Rattle.at_text.specs.declared.unsolicited.UrcKind.{UrcKind}
use Rattle.modem_desk.specs.Ends.{DriverView}
use Rattle.modem_desk.proofs.desk_places.KindPlaces.{found}
use Rattle.modem_desk.proofs.driver.DriverEnd.listens.Goals as goal

pub returns : goal.returns
returns c =
    subst (λ (ks : List UrcKind). IsTrue c.contains.result ↔ Contains ks c.args.kind) (c.deref.ensures.value ∙ ap (λ (d : DriverView). d.desk.kinds) c.self.view_is)
    (found c.deref.result.now c.args.kind c.contains.result c.contains.ensures.cases)
