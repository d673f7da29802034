-- Damage is told.
use Rattle.std.specs.Prelude.{◌≡◌, ◌++◌}
use Rattle.std.proofs.Common.{ap}
use Rattle.std.specs.String.{string_bytes}
use Rattle.mux_capture.specs.Passing.{Passed}
use Rattle.show_texts.specs.Telling.{Damage, Teller, damage_text}
use Rattle.show_texts.proofs.FramesTold.{damage_tells, tells_on_ok}
use Rattle.show_texts.proofs.teller.Teller.take_damage.Goals as goal

pub returns : goal.returns
returns c =
    let t : Teller = record {
      watch = c.self.inside.watcher;
      talks = c.self.inside.talks;
      tallies = c.self.inside.tallies.items;
      text = string_bytes c.self.inside.text;
      is_wrong = c.self.inside.wrong;
    } in
    let p : Passed = record { stamp = c.args.stamp; direction = c.args.direction; octets = c.args.octets.now } in
    let new : Teller = record t { text = string_bytes c.push_damage.new.text } in
    tells_on_ok c.push_damage.result t c.args.self.now new
    (string_bytes c.push_damage.new.text ≡ string_bytes c.self.inside.text ++ damage_text p) (Damage p) c.self.view_is
    (λ e. damage_tells t new p (ap (λ x. record t { text = x }) e)) c.push_damage.ensures
