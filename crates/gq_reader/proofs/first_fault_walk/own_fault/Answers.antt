use Rattle.std.proofs.Common.{Some}
use Rattle.gq_reader.proofs.Reported_table_faults.{reports_first, reports_second}
use Rattle.gq_reader.proofs.first_fault_walk.own_fault.Goals as goal

pub returns-in-Some : goal.returns-in-Some
returns-in-Some c = reports_first c.in-Some.fault _ _ (rw c.in-Some.is at c.keys_fault.ensures)

pub returns-in-Some-routes_fault : goal.returns-in-Some-routes_fault
returns-in-Some-routes_fault c =
    let reported = rw c.in_default.is at c.keys_fault.ensures in
    let f = c.in-Some-routes_fault.fault in
    reports_second (Some f) _ _ reported (reports_first f _ _ (rw c.in-Some-routes_fault.is at c.routes_fault.ensures))

pub returns : goal.returns
returns c =
    let found = c.routes_fault-2.result in
    let reported = rw c.in_default.is at c.keys_fault.ensures in
    reports_second found _ _ reported (reports_second found _ _ (rw c.in_default-routes_fault.is at c.routes_fault.ensures) c.routes_fault-2.ensures)
