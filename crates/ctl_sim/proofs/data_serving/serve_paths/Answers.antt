-- How it ended is what the status says.
use Rattle.ctl_sim.specs.DataEnds.{EndsByDataFault}
use Rattle.ctl_sim.specs.declared.data_fault.DataFault.TheVariants as fault
use Rattle.ctl_sim.specs.declared.fault.ServeFault.TheVariants.{NoMemory}
use Rattle.ctl_sim.proofs.DataEnding.{ended_at_once, served_badly, served_well}
use Rattle.ctl_sim.proofs.data_serving.serve_paths.Goals as goal

pub returns-in_default-clause-fault : goal.returns-in_default-clause-fault
returns-in_default-clause-fault g c one = ended_at_once c.args.data_paths.now _ _ (fault.Served NoMemory) c.say_data_fault.ensures.said

pub returns-in-Ok-start_files-clause-served : goal.returns-in-Ok-start_files-clause-served
returns-in-Ok-start_files-clause-served g c zero =
    served_well g.E.Write.contents c.serve_opened-ended.result c.end_data.result c.args.data_paths.now (g.E.Write.contents c.args.faults.now) _ _ c.end_data.ensures.well c.end_data.ensures.said c.serve_opened-ended.ensures.served zero

pub returns-in-Ok-start_files-clause-fault : goal.returns-in-Ok-start_files-clause-fault
returns-in-Ok-start_files-clause-fault g c one =
    served_badly g.E.Write.contents c.serve_opened-ended.result c.end_data.result c.args.data_paths.now (g.E.Write.contents c.args.faults.now) _ _ c.end_data.ensures.well c.end_data.ensures.said c.serve_opened-ended.ensures.said one

pub returns-in-Err-clause-fault : goal.returns-in-Err-clause-fault
returns-in-Err-clause-fault g c one = EndsByDataFault.unopened c.in-Err.unopened.path.now c.in-Err.unopened.why _ _ c.in-Err.ensures.refused c.say_unopened.ensures.said
