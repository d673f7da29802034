-- What there is room for is added.
use Rattle.std.proofs.Common.{◌∙◌}
use Rattle.at_text.proofs.lines.KeptOctets.{cut_more, fits_more, when_ok}
use Rattle.at_text.proofs.line_run.append_cut.Goals as goal

pub returns-clause-all : goal.returns-clause-all
returns-clause-all c =
    let run = c.args.octets.now.items in
    let room = c.remaining_capacity.result in
    let fits = fits_more run c.args.more.now room c.min-count.result c.remaining_capacity.ensures c.min-count.ensures in
    when_ok c.try_extend_from_slice.result _ (c.try_extend_from_slice.ensures.variant.1 fits) c.try_extend_from_slice.ensures.ok
    ∙ cut_more run c.args.more.now room c.min-count.result c.remaining_capacity.ensures c.min-count.ensures
