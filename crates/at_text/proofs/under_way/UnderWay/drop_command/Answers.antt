use Rattle.std.specs.Prelude.{refl, None}
use Rattle.at_text.proofs.windows.AnswersUnderWay.{none_fits}
use Rattle.at_text.proofs.under_way.UnderWay.drop_command.Goals as goal

pub returns-clause-past : goal.returns-clause-past
returns-clause-past c = λ dialect. none_fits dialect None refl
