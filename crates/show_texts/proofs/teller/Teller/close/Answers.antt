-- The end is told.
use Rattle.std.specs.Prelude.{List, ◌||◌}
use Rattle.std.proofs.Common.{refl, ap, ◌∙◌, subst}
use Rattle.std.specs.String.{string_bytes}
use Rattle.show_texts.specs.declared.tally.Tally.{Tally}
use Rattle.show_texts.specs.Telling.{AreClosed, Closes, Teller}
use Rattle.show_texts.proofs.LineEnds.{all_closed}
use Rattle.show_texts.proofs.teller.Teller.close.Goals as goal

pub returns : goal.returns
returns c =
    let t : Teller = record {
      watch = c.self.inside.watcher;
      talks = c.self.inside.talks;
      tallies = c.self.inside.tallies.items;
      text = string_bytes c.self.inside.text;
      is_wrong = c.self.inside.wrong;
    } in
    let new : Teller = record t { text = string_bytes c.push_connections.new.text; is_wrong = c.either-self-inside.result } in
    subst (λ (v : Teller). Closes v new) c.self.view_is
    (all_closed t new c.asks-3.result.now c.asks-4.result.now c.asks.result.now c.asks-2.result.now
    (string_bytes c.push_unanswered.new.text) (string_bytes c.push_unanswered-2.new.text) (string_bytes c.push_connections.new.text)
    c.some_unanswered-to_modem.result c.some_unanswered-from_modem.result c.in_ok-unfinished.unfinished
    c.asks-3.ensures c.asks-4.ensures c.asks.ensures c.asks-2.ensures
    c.in_ok-push_unanswered.ensures c.in_ok-push_unanswered-2.ensures
    (subst
    (λ (ts : List Tally). AreClosed c.self.inside.talks ts (string_bytes c.push_unanswered-2.new.text) (string_bytes c.push_connections.new.text) c.in_ok-unfinished.unfinished 62)
    c.deref.ensures.value c.in_ok-unfinished.ensures)
    c.some_unanswered-to_modem.ensures c.some_unanswered-from_modem.ensures refl
    (c.either-self-inside.ensures
    ∙ ap (λ b. c.self.inside.wrong || b) (c.either-wrong.ensures ∙ ap (λ b. c.some_unanswered-to_modem.result || b) c.either.ensures)))
