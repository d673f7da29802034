-- They stand behind those that were kept.
use Rattle.std.specs.Prelude.{◌≡◌, ◌≤◌, ℕ, List, ◌++◌, drop, length, take, vec_capacity, vec_len}
use Rattle.std.proofs.Common.{ap, rules, sym, subst, ◌∙◌}
use Rattle.modem_data.specs.Passing.{Read}
use Rattle.modem_data.specs.Hops.{Hops, Passed}
use Rattle.data_files.proofs.Keeping.{extended, few_more, kept_more, reads_some}
use Rattle.data_files.proofs.Waiting.{reads_512}
use Rattle.data_files.proofs.kept.Kept.read.Goals as goal

grew : (g : _) (c : goal.After-extend_from_slice g) → c.self.inside.start ≤ length c.self.inside.octets.items
    → drop c.self.inside.start c.extend_from_slice.new.self.items ≡ c.args.self.now ++ take c.min-count.result c.read.new.room
grew g c few =
    ap (λ (l : List ℕ). drop c.self.inside.start l)
    (extended c.extend_from_slice.result c.make_room.new.octets.items (take c.min-count.result c.read.new.room) c.extend_from_slice.new.self.items
    (c.extend_from_slice.ensures.succeeds (few_more (vec_len c.make_room.new.octets) (vec_capacity c.make_room.new.octets) c.in_ok-reading.reading.count c.min-count.result c.read.new.room
    c.in_ok-make_room.ensures.room c.min-count.ensures)) c.extend_from_slice.ensures.items
    ∙ ap (λ (l : List ℕ). l ++ take c.min-count.result c.read.new.room) c.make_room.ensures.same)
    ∙ (kept_more c.self.inside.start c.self.inside.octets.items (take c.min-count.result c.read.new.room) few
    ∙ ap (λ (l : List ℕ). l ++ take c.min-count.result c.read.new.room) (c.self.view_is ∙ c.clear_gone.ensures))

pub returns-clause-keeps : goal.returns-clause-keeps
returns-clause-keeps g c = record {
  octets = take c.min-count.result c.read.new.room;
  kept = (let few : c.self.inside.start ≤ length c.self.inside.octets.items = search rules in grew g c few);
  read = subst (λ (n : ℕ). Hops c.args.line.now.relay c.read.new.self.relay (Passed (Read c.args.dlci.number (take n c.read.new.room)))) (sym c.min-count.ensures)
      (reads_512 c.args.line.now.relay c.read.new.self.relay c.args.dlci.number c.in_ok-reading.reading.count c.read.new.room c.read.auto.room c.in_ok-reading.ensures.read);
}

pub returns-clause-some : goal.returns-clause-some
returns-clause-some g c =
    let few : c.self.inside.start ≤ length c.self.inside.octets.items = search rules in
    reads_some c.args.line.now.relay.pipes c.args.dlci.number c.in_ok-reading.reading.count c.min-count.result c.args.self.now _ c.read.new.room
    c.in_ok-reading.ensures.count c.min-count.ensures c.read.auto.room (grew g c few)
