-- `stability::examples` states what Through and Demand3 prove.
use Rattle.stability.proofs.Through.{through_fault, earth_faults}
use Rattle.stability.proofs.Demand3.{fault_unhealthy}
use Rattle.stability.proofs.examples.Goals as goal

pub returns : goal.returns
returns c = (through_fault, earth_faults, fault_unhealthy)
