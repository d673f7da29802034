-- One frame more is told.
use Rattle.std.specs.Prelude.{◌≡◌, ◌+◌, ◌∷◌, ◌++◌, [], List, map, take}
use Rattle.std.proofs.Common.{rules, subst, ap, sym, ◌∙◌}
use Rattle.std.proofs.lemmas.List.{map_more, take_all}
use Rattle.mux_capture.specs.Passing.{Passed}
use Rattle.mux_frame.specs.Frames.{Frame, kept_frame}
use Rattle.mux_frame.specs.declared.frame.FrameBuf.{FrameBuf}
use Rattle.modem_show.specs.Ways.{caught}
use Rattle.show_texts.specs.Captures.{TellsFrames}
use Rattle.show_texts.specs.Telling.{Framed, Tells}
use Rattle.show_texts.proofs.Shown.{frame_more_told, no_frame_told}
use Rattle.show_texts.proofs.teller.Teller.take_frames.Goals as goal

pub loop-frame-init : goal.loop-frame-init
loop-frame-init c =
    no_frame_told c.args.self.now (record { stamp = c.args.stamp; direction = c.args.direction; octets = c.args.octets.now })
    (map kept_frame (take 0 c.args.frames.now)) (search rules)

pub loop-frame-preserved : goal.loop-frame-preserved
loop-frame-preserved c =
    let p : Passed = record { stamp = c.args.stamp; direction = c.args.direction; octets = c.args.octets.now } in
    let all : map kept_frame (take (c.loop-frame.frame-index + 1) c.args.frames.now) ≡ map kept_frame (take c.loop-frame.frame-index c.args.frames.now) ++ kept_frame c.frame-item.result ∷ [] =
    map_more kept_frame c.args.frames.now c.loop-frame.frame-index c.frame-item.result (search rules)
    ∙ ap (λ (b : FrameBuf). map kept_frame (take c.loop-frame.frame-index c.args.frames.now) ++ kept_frame b ∷ []) (sym c.frame-item.is) in
    frame_more_told c.args.self.now c.loop-frame.self c.take_frame.new.self p (kept_frame c.frame-item.result)
    (map kept_frame (take c.loop-frame.frame-index c.args.frames.now))
    (map kept_frame (take (c.loop-frame.frame-index + 1) c.args.frames.now))
    c.loop-frame.invariant
    (subst (λ (f : Frame). Tells c.loop-frame.self c.take_frame.new.self (Framed (caught c.args.stamp c.args.direction f))) c.view.ensures
    c.in_ok-take_frame.ensures)
    all

pub returns : goal.returns
returns c =
    let p : Passed = record { stamp = c.args.stamp; direction = c.args.direction; octets = c.args.octets.now } in
    let all : map kept_frame (take c.loop-frame.frame-index c.args.frames.now) ≡ map kept_frame c.args.frames.now =
    ap (λ (bs : List FrameBuf). map kept_frame bs) (take_all c.loop-frame.frame-index c.args.frames.now (search rules)) in
    subst (λ (fs : List Frame). TellsFrames c.args.self.now c.loop-frame.self p fs) all c.loop-frame.invariant
