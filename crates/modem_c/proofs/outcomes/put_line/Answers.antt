-- The LF stands behind the line.
use Rattle.std.proofs.Common.{[], ◌∷◌, arith}
use Rattle.modem_c.proofs.Rooms.{put_both}
use Rattle.modem_c.proofs.outcomes.put_line.Goals as goal

pub returns-clause-room : goal.returns-clause-room
returns-clause-room c =
    let room = c.args.room.now in
    let q = c.requires in
    put_both c.args.place c.put-behind.result c.put.result room c.args.line.now (10 ∷ []) c.put-behind.new.room c.put.new.room
    (omega (arith, q)) c.put-behind.ensures.place c.put.ensures.place c.put-behind.ensures.room c.put.ensures.room
