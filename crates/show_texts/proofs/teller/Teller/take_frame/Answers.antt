-- A frame is told.
use Rattle.std.specs.Prelude.{◌≡◌, List, ◌++◌}
use Rattle.std.proofs.Common.{refl, ap, ◌∙◌}
use Rattle.std.specs.String.{string_bytes}
use Rattle.at_text.specs.Rules.{dialect_of}
use Rattle.mux_frame.specs.Frames.{frame_of}
use Rattle.modem_show.specs.Talking.{told_in}
use Rattle.modem_show.specs.Ways.{caught}
use Rattle.modem_show.specs.declared.told.Told.{Told}
use Rattle.show_texts.specs.Telling.{Framed, Teller, told_by}
use Rattle.show_texts.proofs.FramesTold.{frame_tells, tells_on_ok}
use Rattle.show_texts.proofs.teller.Teller.take_frame.Goals as goal

pub returns : goal.returns
returns c =
    let t : Teller = record {
      watch = c.self.inside.watcher;
      talks = c.self.inside.talks;
      tallies = c.self.inside.tallies.items;
      text = string_bytes c.self.inside.text;
      is_wrong = c.self.inside.wrong;
    } in
    let mid : Teller = record t { watch = c.see.new.self; talks = c.pass.new.self } in
    let f = frame_of c.args.frame in
    let here = caught c.args.stamp c.args.direction f in
    tells_on_ok c.tell.result t c.args.self.now c.tell.new.self
    (c.tell.new.self ≡ told_by mid c.args.stamp c.args.direction f c.answered_kind-answered.result c.in_ok-faults.faults c.as_slice.result.now)
    (Framed here) c.self.view_is
    (λ is.
    frame_tells t mid c.tell.new.self c.args.stamp c.args.direction f c.answered_kind-answered.result c.in_ok-faults.faults c.as_slice.result.now
    c.self.invariant c.args.frame.dlci.in_range refl refl refl c.see.ensures.n1 c.in_ok-pass.ensures.rules c.in_ok-pass.ensures.data_channels
    c.in_ok-faults.ensures.past c.in_ok-faults.ensures.faults
    (λ line h. c.answered_kind-answered.ensures c.args.stamp line h)
    c.in_ok-pass.ensures.past
    (λ line h e.
    c.as_slice.ensures.value
    ∙ (c.in_ok-pass.ensures.told line h e
    ∙ ap (λ (l : List Told). l ++ told_in (dialect_of c.self.inside.talks.rules) c.self.inside.talks.data_channels line here) c.new-told.ensures.items))
    is)
    c.tell.ensures
