-- The first command is in hand no more, and the next one is offered.
use Rattle.std.proofs.Common.{◌≡◌, ℕ, List, ◌∙◌, ap, sym, subst, refl}
use Rattle.std.specs.Option.{option_copied}
use Rattle.std.specs.Prelude.{None, Some, Option, option_map}
use Rattle.modem_desk.specs.declared.request.Request.{Request}
use Rattle.modem_history.specs.Information.{line_of}
use Rattle.modem_history.specs.Calls.{first_on}
use Rattle.modem_history.specs.Requests.{commands_on, without_first}
use Rattle.modem_core.specs.Cores.{Core}
use Rattle.modem_core.specs.Handing.{HandsOn, EndsCommand}
use Rattle.modem_core.proofs.driver.Core.end_command.Goals as goal

pub returns-in-Some : goal.returns-in-Some
returns-in-Some c =
    let old : Core = record { station = c.self.inside.station; lanes = c.self.inside.lanes; hand = c.self.inside.hand; rules = c.self.inside.dialect; kinds = c.self.inside.kinds.items; lost = c.self.inside.lost } in
    let d = c.args.dlci.number in
    let station = c.offer_next.new.station in
    let new : Core = record old { station = station; hand = c.remove_command.new.hand } in
    let next : Some c.in-Some.line.now ≡ option_map line_of (first_on d (without_first (commands_on d) old.hand))
    = ap option_copied (sym c.in-Some.is) ∙ (c.first_command.ensures.line ∙ (ap (option_map line_of) c.from_first.ensures.first ∙ ap (λ (q : List Request). option_map line_of (first_on d q)) c.remove_command.ensures)) in
    let ends : EndsCommand old new d = record {
      station = station;
      new_is = ap (λ (q : List Request). let v : Core = record old { station = station; hand = q } in v) c.remove_command.ensures;
      next = subst (λ (o : Option (List ℕ)). HandsOn old.station station d o) next c.offer_next.ensures;
    } in
    subst (λ (v : Core). EndsCommand v new d) c.self.view_is ends

pub returns-in_default : goal.returns-in_default
returns-in_default c =
    let old : Core = record { station = c.self.inside.station; lanes = c.self.inside.lanes; hand = c.self.inside.hand; rules = c.self.inside.dialect; kinds = c.self.inside.kinds.items; lost = c.self.inside.lost } in
    let d = c.args.dlci.number in
    let new : Core = record old { hand = c.remove_command.new.hand } in
    let next : None ≡ option_map line_of (first_on d (without_first (commands_on d) old.hand))
    = ap option_copied (sym c.in_default.is) ∙ (c.first_command.ensures.line ∙ (ap (option_map line_of) c.from_first.ensures.first ∙ ap (λ (q : List Request). option_map line_of (first_on d q)) c.remove_command.ensures)) in
    let ends : EndsCommand old new d = record {
      station = old.station;
      new_is = ap (λ (q : List Request). let v : Core = record old { hand = q } in v) c.remove_command.ensures;
      next = subst (λ (o : Option (List ℕ)). HandsOn old.station old.station d o) next refl;
    } in
    subst (λ (v : Core). EndsCommand v new d) c.self.view_is ends
