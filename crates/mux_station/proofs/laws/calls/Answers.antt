use Rattle.mux_station.proofs.laws.calls.Goals as goal
use Rattle.mux_station.proofs.law_proofs.PastsWithoutCalls.{leaves_no_trace}

-- src/laws.rt:50:1
pub returns : goal.returns
returns c = λ r d past. leaves_no_trace r d past
