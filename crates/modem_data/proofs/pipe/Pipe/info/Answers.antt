-- Data that came leads on.
use Rattle.std.specs.Prelude.{◌≡◌, true, ◌&&◌}
use Rattle.std.proofs.Common.{rules, subst, sym}
use Rattle.mux_frame.specs.Frames.{frame_of}
use Rattle.mux_frame.specs.declared.frame.Kind.TheVariants.{Uih}
use Rattle.mux_station.specs.Written.{is_on}
use Rattle.modem_data.specs.Passing.{Came}
use Rattle.modem_data.specs.Pipes.{Leads, Pipe}
use Rattle.modem_data.proofs.Pipes.{leads_info}
use Rattle.modem_data.proofs.pipe.Pipe.info.Goals as goal

pub returns-clause-leads : goal.returns-clause-leads
returns-clause-leads c =
    let old : Pipe = record { watch = c.self.inside.watch; lane = c.self.inside.lane; until = c.self.inside.until; held = c.self.inside.held; by_driver = c.self.inside.by_driver } in
    let new : Pipe = record old { lane = c.take.new.self } in
    let on : is_on Uih c.self.inside.watch.dlci (frame_of c.args.frame) ≡ true = subst (λ (v : Pipe). is_on Uih v.watch.dlci (frame_of c.args.frame) ≡ true) (sym c.self.view_is) c.requires in
    let up : (is_on Uih c.self.inside.watch.dlci (frame_of c.args.frame) && c.self.inside.watch.own.is_open) ≡ true = search rules in
    subst (λ v. Leads v new (Came (frame_of c.args.frame))) c.self.view_is (leads_info old c.take.new.self (frame_of c.args.frame) c.in_ok-cut.cut on up c.in_ok-cut.ensures.takes)
