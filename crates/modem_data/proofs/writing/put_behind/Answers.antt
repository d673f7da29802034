-- What is written stands at the front, and what stood behind it stands there.
use Rattle.std.proofs.Common.{◌≤◌, length, drop, arith, length-drop}
use Rattle.std.proofs.lemmas.List.{take_rest}
use Rattle.mux_frame.specs.CheckOctet.{check_octet_of}
use Rattle.modem_data.proofs.DataSpelled.{two_behind, rest_behind}
use Rattle.modem_data.proofs.writing.put_behind.Goals as goal

pub returns-clause-put : goal.returns-clause-put
returns-clause-put c =
    let rest = c.split_at_mut-middle.ensures.back_len in
    let all = c.split_at_mut-front.ensures.back_len in
    let room = c.requires.room in
    let long : 2 ≤ length c.split_at_mut-middle.result.1.now = omega (arith, rest, all, room) in
    let head = c.args.head.now in
    rw (c.copy_from_slice.ensures.after, c.copy_from_slice-2.ensures.after, c.check_octet-check.ensures, take_rest head 1) (two_behind head c.args.info.now c.split_at_mut-middle.result.1.now (check_octet_of (drop 1 head)) 249 long)

pub returns-clause-behind : goal.returns-clause-behind
returns-clause-behind c =
    let a = c.args.head.now in
    let b = c.args.info.now in
    let all = c.args.room.now in
    let first = length-drop (length a) all in
    let rest = length-drop (length b) (drop (length a) all) in
    let room = c.requires.room in
    let long : 2 ≤ length (drop (length b) (drop (length a) all)) = omega (arith, first, rest, room) in
    rw (c.copy_from_slice.ensures.after, c.copy_from_slice-2.ensures.after, c.split_at_mut-middle.ensures.back, c.split_at_mut-front.ensures.back) (rest_behind a b all c.check_octet-check.result 249 long)
