use Rattle.std.proofs.Common.{refl}
use Rattle.mux_frame.proofs.deframers.SearchedOctets.{begin_within, behind_octets, behind_within, found_behind, on_behind}
use Rattle.mux_frame.proofs.settling.settle_behind.Goals as goal

pub split_at-requires-2 : goal.split_at-requires-2
split_at-requires-2 c =
    begin_within c.args.n1 c.args.failed c.flag_in.result 0 c.args.octets.now c.split_at.result.1.now _ c.requires.octets c.split_at.ensures.back c.flag_in.ensures.within refl c.flag_in.ensures.rest c.requires.failed

pub sought-requires : goal.sought-requires
sought-requires c =
    behind_octets c.args.n1 c.args.failed c.flag_in.result 0 c.args.octets.now c.split_at.result.1.now c.split_at-2.result.1.now c.requires.octets c.split_at.ensures.back c.flag_in.ensures.within c.split_at-2.ensures.back c.flag_in.ensures.rest c.requires.failed

pub settle_searching-requires-clause-from : goal.settle_searching-requires-clause-from
settle_searching-requires-clause-from c =
    behind_within c.args.n1 c.args.failed c.flag_in.result c.sought.result.0 c.args.octets.now c.split_at.result.1.now c.split_at-2.result.1.now c.requires.octets c.split_at.ensures.back c.flag_in.ensures.within c.split_at-2.ensures.back c.flag_in.ensures.rest c.requires.failed
    (rw c.in_default-None.is-1 at c.sought.ensures)

pub returns-in_default-Some : goal.returns-in_default-Some
returns-in_default-Some c =
    found_behind c.args.n1 c.args.failed c.flag_in.result c.sought.result.0 c.args.octets.now c.split_at.result.1.now c.split_at-2.result.1.now c.requires.octets c.split_at.ensures.back c.flag_in.ensures.within c.split_at-2.ensures.back c.flag_in.ensures.rest c.requires.failed
    c.in_default-Some.check_place (rw c.in_default-Some.is-1 at c.sought.ensures)

pub returns-in_default-None : goal.returns-in_default-None
returns-in_default-None c =
    on_behind c.args.n1 c.args.failed c.flag_in.result c.sought.result.0 c.args.octets.now c.split_at.result.1.now c.split_at-2.result.1.now c.requires.octets c.split_at.ensures.back c.flag_in.ensures.within c.split_at-2.ensures.back c.flag_in.ensures.rest c.requires.failed
    _ c.settle_searching.result (rw c.in_default-None.is-1 at c.sought.ensures) c.settle_searching.ensures
