-- A packet with frames is told.
use Rattle.std.specs.Prelude.{◌≡◌, [], List, map, vec_len}
use Rattle.std.proofs.Common.{rules, subst, sym}
use Rattle.mux_capture.specs.Passing.{Passed}
use Rattle.mux_capture.specs.declared.packet.Kind.TheVariants as kind
use Rattle.mux_frame.specs.Frames.{kept_frame}
use Rattle.mux_frame.specs.Reading.{Reads}
use Rattle.mux_frame.specs.declared.frame.FrameBuf.{FrameBuf}
use Rattle.show_texts.specs.Captures.{TellsFrames, TellsPacket}
use Rattle.show_texts.proofs.FramesTold.{on_ok}
use Rattle.show_texts.proofs.Shown.{not_none, packet_frames}
use Rattle.show_texts.proofs.teller.Teller.take_read.Goals as goal

pub returns : goal.returns
returns c =
    let p : Passed = record { stamp = c.args.stamp; direction = c.args.direction; octets = c.args.octets.now } in
    let some : ¬ (map kept_frame c.as_slice.result.now ≡ []) =
    not_none c.as_slice.result.now (vec_len c.in-Ok.frames) c.is_empty.result (search rules) c.is_empty.ensures c.if-is_empty.false in
    on_ok (TellsFrames c.args.self.now c.take_frames.new.self p (map kept_frame c.as_slice.result.now))
    (TellsPacket c.args.self.now c.take_frames.new.self kind.Frame p) c.take_frames.result
    (λ t.
    packet_frames c.args.self.now c.take_frames.new.self p (map kept_frame c.as_slice.result.now) c.in-Ok.field-0-1.items
    (subst (λ (fs : List FrameBuf). Reads 32767 c.args.octets.now (map kept_frame fs) c.in-Ok.field-0-1.items) (sym c.as_slice.ensures.value) c.in-Ok.ensures.ok)
    some t)
    c.take_frames.ensures
