use Rattle.std.proofs.Common.{refl}
use Rattle.mux_frame.specs.Reading.{no_flag}
use Rattle.mux_capture.proofs.Showing.{frame_size, framed_packet, pushes_frame, pushes_none}
use Rattle.mux_capture.proofs.pieces.push_first.Goals as goal

pub first_frame-requires-clause-seen : goal.first_frame-requires-clause-seen
first_frame-requires-clause-seen c = no_flag _ refl

pub push_packet-requires : goal.push_packet-requires
push_packet-requires c = let found = rw c.in-Frame.is at c.in_ok-front.ensures in (frame_size c.args.n1 c.in-Frame.frame.now found.2).1

pub returns-in_ok-push_all_damage-in-None-clause-pushes :
    goal.returns-in_ok-push_all_damage-in-None-clause-pushes
returns-in_ok-push_all_damage-in-None-clause-pushes c =
    let found = rw c.in-None.is at c.in_ok-front.ensures in
    pushes_none c.args.n1 c.args.stamp c.args.direction c.args.text.now c.in-None.front.now c.in-None.rest.now c.args.out.now.items c.push_all_damage.new.out.items found.0 found.1 found.2 c.in_ok-push_all_damage-in-None.ensures

pub returns-in_ok-push_packet-in-Frame-clause-pushes :
    goal.returns-in_ok-push_packet-in-Frame-clause-pushes
returns-in_ok-push_packet-in-Frame-clause-pushes c =
    let found = rw c.in-Frame.is at c.in_ok-front.ensures in
    pushes_frame c.args.n1 c.args.stamp c.args.direction c.args.text.now c.in-Frame.front.now c.in-Frame.frame.now c.in-Frame.behind.now _ c.args.out.now.items c.push_all_damage-in-Frame.new.out.items c.push_packet.new.out.items
    found.0 found.1 found.2 c.split_at.ensures.back c.in_ok-push_all_damage-in-Frame.ensures (framed_packet c.args.stamp c.args.direction c.in-Frame.frame.now c.push_all_damage-in-Frame.new.out.items c.push_packet.new.out.items c.args.n1 found.2 c.in_ok-push_packet-in-Frame.ensures.ok)
