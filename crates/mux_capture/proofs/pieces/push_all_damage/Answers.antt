use Rattle.std.proofs.Common.{refl, rules}
use Rattle.std.proofs.lemmas.List.{nil_from_length}
use Rattle.mux_capture.specs.Pieces.{behind_flags}
use Rattle.mux_capture.proofs.Showing.{cut_less, cut_short, damage_all, damage_more}
use Rattle.mux_capture.proofs.pieces.push_all_damage.Goals as goal

pub push_damage-requires : goal.push_damage-requires
push_damage-requires c = cut_short c.loop-left.left.now c.cut.result.0.now c.cut.ensures.part

pub loop-left-smaller : goal.loop-left-smaller
loop-left-smaller c = cut_less c.loop-left.left.now c.cut.result.1.now (search rules) c.cut.ensures.rest

pub loop-left-preserved : goal.loop-left-preserved
loop-left-preserved c =
    damage_more c.args.stamp c.args.direction (behind_flags c.args.octets.now) c.loop-left.left.now c.cut.result.0.now c.cut.result.1.now c.args.out.now.items c.loop-left.out.items c.push_damage.new.out.items
    (search rules) c.cut.ensures.part c.cut.ensures.rest c.loop-left.invariant c.in_ok-push_damage.ensures.ok

pub returns : goal.returns
returns c =
    damage_all c.args.stamp c.args.direction c.args.octets.now (behind_flags c.args.octets.now) c.loop-left.left.now c.args.out.now.items c.loop-left.out.items refl (nil_from_length c.loop-left.left.now (search rules)) c.loop-left.invariant
