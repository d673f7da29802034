-- Of nothing that passed nothing is kept.
use Rattle.std.specs.Prelude.{false}
use Rattle.std.proofs.Common.{refl}
use Rattle.std.specs.String.{string_bytes}
use Rattle.show_texts.specs.Telling.{Teller}
use Rattle.show_texts.proofs.FramesTold.{nothing_told}
use Rattle.show_texts.proofs.teller.Teller.new.Goals as goal

pub returns-clause-fits : goal.returns-clause-fits
returns-clause-fits c =
    let t : Teller = record {
      watch = c.in_ok-watcher.watcher;
      talks = c.in_ok-talks.talks;
      tallies = c.in_ok-tallies.tallies.items;
      text = string_bytes c.new-3.result;
      is_wrong = false;
    } in
    nothing_told t c.in_ok-tallies.ensures c.new-3.ensures.bytes refl c.in_ok-watcher.ensures.past c.in_ok-talks.ensures.past
