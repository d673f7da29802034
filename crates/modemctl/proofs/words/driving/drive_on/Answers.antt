-- A drive ended by a fault.
use Rattle.std.proofs.Common.{arith, inl, inr}
use Rattle.modemctl.proofs.Refused.{ends_alone, ends_with}
use Rattle.modemctl.proofs.words.driving.drive_on.Goals as goal

pub returns-in-Err-clause-fault : goal.returns-in-Err-clause-fault
returns-in-Err-clause-fault g c one = inl (c.refuse_data.ensures.said one)

pub returns-clause-fault : goal.returns-clause-fault
returns-clause-fault g c one = inr (ends_with _ _ _ _ _ _ _ _ _ c.as_slice.ensures.value c.in-Ok.ensures (c.drive_data_run.ensures.fault one))
