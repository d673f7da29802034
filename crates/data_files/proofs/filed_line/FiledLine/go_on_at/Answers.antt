-- The files go on beside another line.
use Rattle.std.specs.Prelude.{List, map}
use Rattle.std.proofs.Common.{sym, subst}
use Rattle.modem_data.specs.Hops.{BeginsAs, passes}
use Rattle.modem_data_line.specs.DataLines.{new_data_line}
use Rattle.data_files.specs.Files.{BeginsFiled, FileState, FiledState, HasMoved, again, dlcis}
use Rattle.data_files.specs.Moves.{HasBegunTo}
use Rattle.data_files.proofs.Again.{again_begins, again_relay, all_again}
use Rattle.data_files.proofs.Begins.{begins_filed, has_begun}
use Rattle.data_files.proofs.filed_line.FiledLine.go_on_at.Goals as goal

pub invariant_of-self : goal.invariant_of-self
invariant_of-self g c =
    let look = g.L.SerialLine.seen in
    let file_look = g.P.SerialLine.seen in
    let files = c.self.inside.files.items in
    let made = subst (λ (v : FiledState _ _). BeginsAs c.args.role c.args.n1 (dlcis v.files) c.args.relay) (sym c.self.view_is) c.requires in
    let begun = subst (λ fs. HasBegunTo look fs (new_data_line c.args.line c.args.relay) c.in_ok-line.line) c.as_slice.ensures.value c.in_ok-line.ensures in
    subst (λ (fs : List (FileState _)). HasMoved look file_look (record { line = c.in_ok-line.line; files = fs; role = c.args.role; n1 = c.args.n1; before = c.of-before.result })) (sym c.begin_again.ensures)
    (has_begun look file_look c.args.line c.args.relay c.args.role c.args.n1 (map (again file_look) files) c.in_ok-line.line c.of-before.result
    (again_relay file_look c.args.role c.args.n1 files c.args.relay made) (again_begins look file_look files (new_data_line c.args.line c.args.relay) c.in_ok-line.line begun)
    c.of-before.ensures (all_again file_look (passes c.self.invariant.past) files c.self.invariant.files))

pub returns-clause-begins : goal.returns-clause-begins
returns-clause-begins g c =
    let look = g.L.SerialLine.seen in
    let file_look = g.P.SerialLine.seen in
    let files = c.self.inside.files.items in
    let made = subst (λ (v : FiledState _ _). BeginsAs c.args.role c.args.n1 (dlcis v.files) c.args.relay) (sym c.self.view_is) c.requires in
    let begun = subst (λ fs. HasBegunTo look fs (new_data_line c.args.line c.args.relay) c.in_ok-line.line) c.as_slice.ensures.value c.in_ok-line.ensures in
    rw (← c.self.view_is)
    (subst (λ (fs : List (FileState _)). BeginsFiled look c.args.line c.args.relay c.args.n1 (map (again file_look) files) (record { line = c.in_ok-line.line; files = fs; role = c.args.role; n1 = c.args.n1; before = c.of-before.result })) (sym c.begin_again.ensures)
    (begins_filed look c.args.line c.args.relay c.args.role c.args.n1 (map (again file_look) files) c.in_ok-line.line c.of-before.result
    (again_relay file_look c.args.role c.args.n1 files c.args.relay made) (again_begins look file_look files (new_data_line c.args.line c.args.relay) c.in_ok-line.line begun)
    c.of-before.ensures))
