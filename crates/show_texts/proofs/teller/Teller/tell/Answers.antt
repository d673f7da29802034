-- What is written and counted.
use Rattle.std.specs.Prelude.{◌||◌}
use Rattle.std.proofs.Common.{◌∙◌, ap, rules}
use Rattle.std.specs.String.{string_bytes}
use Rattle.mux_frame.specs.Frames.{frame_of}
use Rattle.show_texts.specs.Complaints.{has_fault}
use Rattle.show_texts.specs.Telling.{Teller, told_by}
use Rattle.show_texts.proofs.FramesTold.{told_parts}
use Rattle.show_texts.proofs.teller.Teller.tell.Goals as goal

pub returns : goal.returns
returns c =
    let t : Teller = record {
      watch = c.self.inside.watcher;
      talks = c.self.inside.talks;
      tallies = c.self.inside.tallies.items;
      text = string_bytes c.self.inside.text;
      is_wrong = c.self.inside.wrong;
    } in
    told_parts t c.args.stamp c.args.direction (frame_of c.args.frame) c.args.answered c.args.faults c.args.told.now
    c.dialect.result.now c.dialect-2.result.now c.index-tally.result.now c.with_frame.result c.is_data-is_data.result c.from-place.result
    c.data_in.result (string_bytes c.push_event.new.text) (string_bytes c.push_faults.new.text) c.either-self-inside.result
    c.self.invariant c.args.frame.dlci.in_range (search rules) c.index-tally.ensures c.dialect.ensures c.dialect-2.ensures
    c.is_data-is_data.ensures c.in_ok-push_event.ensures c.in_ok-push_faults.ensures c.data_in.ensures c.with_frame.ensures
    (c.either-self-inside.ensures
    ∙ ap (λ b. c.self.inside.wrong || b)
    (c.either-wrong.ensures
    ∙ (ap (λ b. b || c.are_wrong.result) c.has_fault.ensures ∙ ap (λ b. has_fault c.args.faults || b) c.are_wrong.ensures)))
    ∙ ap (λ (v : Teller). told_by v c.args.stamp c.args.direction (frame_of c.args.frame) c.args.answered c.args.faults c.args.told.now)
    c.self.view_is
