use Rattle.std.specs.Prelude.{◌≡◌, ℕ}
use Rattle.std.proofs.Common.{ap, subst}
use Rattle.modem_data.specs.PipeSets.{NoneOf}
use Rattle.data_files.specs.Files.{FileState}
use Rattle.data_files.proofs.FileSteps.{moves_file, moves_then}
use Rattle.data_files.proofs.Growing.{had_turn, more_grows}
use Rattle.data_files.proofs.Renewing.{renew_or, turn_or}
use Rattle.data_files.proofs.Turns.{turn_then}
use Rattle.data_files.proofs.data_file.DataFile.move_on.Goals as goal

pub returns-clause-moves : goal.returns-clause-moves
returns-clause-moves g c =
    let read = moves_file g.L.SerialLine.seen g.P.SerialLine.seen c.renew-began.new.line c.renew-began.new.self c.read_file.new.self (ap (λ (x : FileState _). x.dlci) c.read_file.ensures.same) c.read_file.ensures.fits in
    let wrote = moves_file g.L.SerialLine.seen g.P.SerialLine.seen c.take-took.new.line c.take-took.new.self c.write_file-wrote.new.self (ap (λ (x : FileState _). x.dlci) c.write_file-wrote.ensures.same) c.write_file-wrote.ensures.fits in
    let began = renew_or g.L.SerialLine.seen g.P.SerialLine.seen c.args.line.now c.renew-began.new.line c.args.self.now c.renew-began.new.self c.renew-began.result c.renew-began.ensures.renews c.renew-began.ensures.line c.renew-began.ensures.still in
    moves_then g.L.SerialLine.seen g.P.SerialLine.seen _ _ _ _ _ _ began (moves_then g.L.SerialLine.seen g.P.SerialLine.seen _ _ _ _ _ _ read (moves_then g.L.SerialLine.seen g.P.SerialLine.seen _ _ _ _ _ _ c.give-gave.ensures.moves (moves_then g.L.SerialLine.seen g.P.SerialLine.seen _ _ _ _ _ _ c.take-took.ensures.moves (moves_then g.L.SerialLine.seen g.P.SerialLine.seen _ _ _ _ _ _ wrote c.keep.ensures.moves))))

pub returns-clause-turn : goal.returns-clause-turn
returns-clause-turn g c role n1 ds p among =
    let same : c.renew-began.new.self.dlci ≡ c.args.self.now.dlci = ap (λ (x : FileState _). x.dlci) c.renew-began.ensures.same in
    turn_then g.L.SerialLine.seen g.P.SerialLine.seen role n1 ds p
    c.args.line.now c.args.self.now c.write_file-wrote.new.self c.keep.new.self
    (turn_or g.L.SerialLine.seen g.P.SerialLine.seen role n1 ds p
    c.args.line.now c.renew-began.new.line c.args.self.now c.renew-began.new.self c.write_file-wrote.new.self c.renew-began.result c.renew-began.ensures.renews c.renew-began.ensures.line
    c.renew-began.ensures.still c.renew-began.ensures.over among
    (had_turn g.L.SerialLine.seen g.P.SerialLine.seen c.renew-began.new.line c.give-gave.new.line
    c.renew-began.new.self c.read_file.new.self c.give-gave.new.self c.take-took.new.self c.write_file-wrote.new.self
    (record {
      asks = c.read_file.ensures.asked;
      still = c.read_file.ensures.still;
      a_is = c.read_file.ensures.same;
      a_grows = c.read_file.ensures.grows;
      gives = c.give-gave.ensures.gives;
      keeps = c.give-gave.ensures.unread;
      b_is = c.give-gave.ensures.same;
      fewer = c.give-gave.ensures.fewer;
      reads = c.take-took.ensures.reads;
      kept = c.take-took.ensures.still;
      c_is = c.take-took.ensures.same;
      more = c.take-took.ensures.more;
      offers = c.write_file-wrote.ensures.offered;
      h_grows = c.write_file-wrote.ensures.grows;
    })
    role n1 ds p (λ none. among (subst (λ (d : ℕ). NoneOf ds d) same none))))
    (more_grows g.P.SerialLine.seen c.write_file-wrote.new.self c.keep.new.self c.keep.ensures.same c.keep.ensures.more)
