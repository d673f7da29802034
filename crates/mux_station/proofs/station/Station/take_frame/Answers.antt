-- A message is refused as the frame that brings it.
use Rattle.std.specs.Prelude.{◌≡◌, ◌==◌, ◌&&◌, true}
use Rattle.std.proofs.Common.{◌∙◌, ap, sym, eq-eqb}
use Rattle.mux_frame.specs.declared.frame.Kind.{Kind}
use Rattle.mux_frame.specs.declared.frame.Kind.TheVariants.{Uih}
use Rattle.mux_frame.specs.Frames.{frame_of}
use Rattle.mux_station.specs.Written.{is_kind, is_on}
use Rattle.mux_station.proofs.received.StatesAfterFrames.{refused_by}
use Rattle.mux_station.proofs.station.Station.take_frame.Goals as goal

pub returns-in-Uih-clause-refusal : goal.returns-in-Uih-clause-refusal
returns-in-Uih-clause-refusal c =
    let f = frame_of c.args.frame in
    let zero : (f.dlci == 0) ≡ true = eq-eqb f.dlci 0 (sym c.number.ensures.number ∙ c.if-number-eq0.true) in
    let on : is_on Uih 0 f ≡ true = ap (λ (k : Kind). is_kind k Uih && (f.dlci == 0)) c.in-Uih.is ∙ zero in
    c.take_message.ensures.refusal ∙ refused_by c.args.self.now f on
