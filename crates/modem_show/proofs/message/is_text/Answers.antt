use Rattle.std.proofs.Common.{rules, tests}
use Rattle.std.specs.Prelude.{◌||◌}
use Rattle.std.proofs.lemmas.Iterator.{YieldsList-from_slice}
use Rattle.std.proofs.lemmas.Iterator.Search.{all_from_yields_List}
use Rattle.at_text.specs.Commands.{is_printable}
use Rattle.at_text.specs.Lines.{is_line_end}
use Rattle.modem_show.proofs.message.is_text.Goals as goal

pub returns : goal.returns
returns c = all_from_yields_List (λ n. is_printable n || is_line_end n) _ _ _ c.all.ensures.ran (YieldsList-from_slice c.args.octets.now cc) (λ x b q k. search (rules, tests))
