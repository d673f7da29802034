use Rattle.std.proofs.Common.{◌∙◌, arith, length, sym}
use Rattle.std.proofs.lemmas.List.{take_all}
use Rattle.std.proofs.Math.ListN.{drop_of_length-le}
use Rattle.mux_capture.specs.Pieces.{most_damage}
use Rattle.mux_capture.proofs.pieces.cut.Goals as goal

pub returns-else-octets-gt-MOST_DAMAGE-clause-part : goal.returns-else-octets-gt-MOST_DAMAGE-clause-part
returns-else-octets-gt-MOST_DAMAGE-clause-part c =
    c.split_at-else-octets-gt-MOST_DAMAGE.ensures.front ∙ take_all (length c.args.octets.now) c.args.octets.now (omega arith) ∙ sym (take_all most_damage c.args.octets.now c.if-octets-gt-MOST_DAMAGE.false)

pub returns-else-octets-gt-MOST_DAMAGE-clause-rest : goal.returns-else-octets-gt-MOST_DAMAGE-clause-rest
returns-else-octets-gt-MOST_DAMAGE-clause-rest c =
    c.split_at-else-octets-gt-MOST_DAMAGE.ensures.back ∙ drop_of_length-le c.args.octets.now (omega arith) ∙ sym (drop_of_length-le c.args.octets.now c.if-octets-gt-MOST_DAMAGE.false)
