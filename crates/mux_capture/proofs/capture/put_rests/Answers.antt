use Rattle.std.specs.Prelude.{List, ℕ}
use Rattle.std.proofs.Common.{subst}
use Rattle.std.specs.Io.KnownBytes.{Appends}
use Rattle.mux_capture.specs.declared.packet.Direction.TheVariants.{ToModem, FromModem}
use Rattle.mux_capture.specs.Pushing.{PushesDamage}
use Rattle.mux_capture.proofs.Passing.{rests_pushed, weaker}
use Rattle.mux_capture.proofs.capture.put_rests.Goals as goal

pub returns : goal.returns
returns g c =
    weaker c.put.result
    (λ written.
    rests_pushed c.args.stamp c.args.to_modem.now.items c.args.from_modem.now.items c.clear.new.self.items c.clear-2.new.self.items c.new-packets.result.items c.push_all_damage.new.out.items c.push_all_damage-2.new.out.items
    (g.C.Write.contents c.args.output.now) (g.C.Write.contents c.put.new.output) c.new-packets.ensures.items
    (subst (λ (l : List ℕ). PushesDamage c.args.stamp ToModem l c.new-packets.result.items c.push_all_damage.new.out.items) c.as_slice.ensures.value c.in_ok-push_all_damage.ensures)
    (subst (λ (l : List ℕ). PushesDamage c.args.stamp FromModem l c.push_all_damage.new.out.items c.push_all_damage-2.new.out.items) c.as_slice-2.ensures.value c.in_ok-push_all_damage-2.ensures)
    c.clear.ensures.items c.clear-2.ensures.items
    (subst (λ (l : List ℕ). Appends (g.C.Write.contents c.args.output.now) (g.C.Write.contents c.put.new.output) l) c.as_slice-3.ensures.value written)) c.put.ensures
