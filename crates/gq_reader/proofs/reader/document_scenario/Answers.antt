use Rattle.std.proofs.Common.{◌<◌, ◌≤◌, Ok, length, sym, ap, refl, subst, ◌∙◌, arith}
use Rattle.toml.specs.View.{table_view}
use Rattle.gq_model.specs.machine.Scenario.{Scenario}
use Rattle.gq_scenario.specs.Document.{keys_of, walk_fault, document_fault}
use Rattle.gq_scenario.specs.Scenario_parts.{IsScenario}
use Rattle.gq_reader.specs.internal.Document_parts.{interfaces_at, parts_fault}
use Rattle.gq_scenario.specs.Fault_words.{SameFault}
use Rattle.gq_reader.proofs.Faulty_document_result.{fault_read}
use Rattle.gq_reader.proofs.Reported_table_faults.{reports_none}
use Rattle.gq_reader.proofs.Faultless_document_parts.{many_interfaces, parts_left, is_scenario}
use Rattle.gq_reader.proofs.reader.document_scenario.Goals as goal

pub returns-then-interface_count-gt-GREATEST_COUNT : goal.returns-then-interface_count-gt-GREATEST_COUNT
returns-then-interface_count-gt-GREATEST_COUNT c =
    let top = table_view c.args.top in
    let walked = reports_none (walk_fault top) (rw c.in_default.is at c.walk_fault.ensures) in
    let many : 64 < length (keys_of (interfaces_at top)) = omega (arith, c.interface_count.ensures) in
    rw (many_interfaces top walked many) refl

pub returns-in-Some-2 : goal.returns-in-Some-2
returns-in-Some-2 c =
    let top = table_view c.args.top in
    let walked = reports_none (walk_fault top) (rw c.in_default.is at c.walk_fault.ensures) in
    let few : length (keys_of (interfaces_at top)) ≤ 64 = omega (arith, c.interface_count.ensures) in
    let Q : Scenario → Type 0 = λ s. SameFault c.in_ok-fault.field-0 (parts_fault s.default_routes s.nodes) in
    let reported = rw c.in-Some-2.is at (subst Q c.in_ok-parts.ensures (rw c.reported.ensures at c.in_ok-fault.ensures)) in
    fault_read top c.in-Some-2.fault (document_fault top) (rw (parts_left top walked few) reported)

pub new-requires : goal.new-requires
new-requires c =
    let top = table_view c.args.top in
    let walked = reports_none (walk_fault top) (rw c.in_default.is at c.walk_fault.ensures) in
    let few : length (keys_of (interfaces_at top)) ≤ 64 = omega (arith, c.interface_count.ensures) in
    let Q : Scenario → Type 0 = λ s. SameFault c.in_ok-fault.field-0 (parts_fault s.default_routes s.nodes) in
    let reported = rw c.in-None.is at (subst Q c.in_ok-parts.ensures (rw c.reported.ensures at c.in_ok-fault.ensures)) in
    subst IsScenario (sym c.in_ok-parts.ensures) (is_scenario top walked few (reports_none _ reported))

pub returns-in-None : goal.returns-in-None
returns-in-None c =
    let top = table_view c.args.top in
    let walked = reports_none (walk_fault top) (rw c.in_default.is at c.walk_fault.ensures) in
    let few : length (keys_of (interfaces_at top)) ≤ 64 = omega (arith, c.interface_count.ensures) in
    let Q : Scenario → Type 0 = λ s. SameFault c.in_ok-fault.field-0 (parts_fault s.default_routes s.nodes) in
    let reported = rw c.in-None.is at (subst Q c.in_ok-parts.ensures (rw c.reported.ensures at c.in_ok-fault.ensures)) in
    rw (parts_left top walked few, reports_none _ reported) (ap Ok (sym (c.new.ensures ∙ c.in_ok-parts.ensures)))
