-- The two callers are those of the desk.
use Rattle.std.specs.Prelude.{List, Option, map, option_to_list, ◌++◌}
use Rattle.std.proofs.Common.{ap, subst, ◌∙◌}
use Rattle.modem_desk.specs.Ends.{CallerView, IsWhole, place_of}
use Rattle.examples.proofs.TwoCallers.{both}
use Rattle.examples.proofs.session.ends.Goals as goal

pub returns : goal.returns
returns c =
    let opened = c.in-Ok.ensures.opened in
    let last = c.pop.ensures.items ∙ ap (λ (o : Option CallerView). c.pop.new.self.items ++ option_to_list o) c.unwrap-second.ensures in
    let before = c.pop-2.ensures.items ∙ ap (λ (o : Option CallerView). c.pop-2.new.self.items ++ option_to_list o) c.unwrap-first.ensures in
    let two = both c.in-Ok.callers.items _ _ c.unwrap-first.result c.unwrap-second.result opened.callers.0 last before in
    subst (λ (xs : List CallerView). IsWhole c.in-Ok.driver.desk (map place_of xs)) two opened.whole
