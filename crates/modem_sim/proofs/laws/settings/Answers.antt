use Rattle.modem_sim.proofs.law_proofs.KeptSettings.{keeps_attached, keeps_context, keeps_errors, keeps_oper, keeps_reports}
use Rattle.modem_sim.proofs.laws.settings.Goals as goal

pub returns-clause-reports : goal.returns-clause-reports
returns-clause-reports c = keeps_reports

pub returns-clause-errors : goal.returns-clause-errors
returns-clause-errors c = keeps_errors

pub returns-clause-attached : goal.returns-clause-attached
returns-clause-attached c = keeps_attached

pub returns-clause-contexts : goal.returns-clause-contexts
returns-clause-contexts c = keeps_context

pub returns-clause-oper : goal.returns-clause-oper
returns-clause-oper c = keeps_oper
