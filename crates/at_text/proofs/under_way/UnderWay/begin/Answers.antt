use Rattle.std.specs.Prelude.{Some}
use Rattle.std.proofs.Common.{ap}
use Rattle.at_text.specs.UnderWay.{UnderWay}
use Rattle.at_text.proofs.windows.AnswersUnderWay.{answer_begins}
use Rattle.at_text.proofs.under_way.UnderWay.begin.Goals as goal

pub returns-clause-past : goal.returns-clause-past
returns-clause-past c = λ dialect command past fits. answer_begins dialect c.args.self.now (Some c.begin.new.self) past command fits c.requires (ap (λ (u : UnderWay). Some u) c.begin.ensures)
