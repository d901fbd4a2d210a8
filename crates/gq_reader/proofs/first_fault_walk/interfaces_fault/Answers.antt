use Rattle.std.proofs.Common.{◌≡◌, ◌∷◌, Some, refl, sym, ◌∙◌, arith}
use Rattle.std.specs.Prelude.{string_bytes}
use Rattle.std.proofs.lemmas.Grind.{common_steps}
use Rattle.toml.specs.Data.{as_table}
use Rattle.toml.specs.View.{view, table_view, members_view}
use Rattle.toml.proofs.Views.{Entry}
use Rattle.gq_scenario.specs.Component_trees.{version_number}
use Rattle.gq_reader.proofs.First_document_fault.{interface_first, interface_next}
use Rattle.gq_reader.proofs.first_fault_walk.interfaces_fault.Goals as goal

pub returns-in-Some-interface_fault : goal.returns-in-Some-interface_fault
returns-in-Some-interface_fault c =
    let (can, finite, same) = c.loop-value.invariant in
    let e : Entry = (c.in-Some.field-0-0.now, c.in-Some.value.now) in
    let iter : c.loop-value.value-iterator ≡ e ∷ c.next.new.self = grind (arith, common_steps) in
    let is : as_table (view e.1) ≡ Some (table_view c.in-Some-as_table.table.now) = sym (rw c.in-Some-as_table.is at c.as_table.ensures) in
    let reported = rw c.in-Some-interface_fault.is at c.interface_fault.ensures in
    rw (← same, iter) (interface_first (version_number c.args.version) c.in-Some-interface_fault.fault (string_bytes e.0) (view e.1)
    (members_view c.next.new.self) (table_view c.in-Some-as_table.table.now) is reported)

pub loop-value-preserved : goal.loop-value-preserved
loop-value-preserved c =
    let (can, finite, same) = c.loop-value.invariant in
    let e : Entry = (c.in-Some.field-0-0.now, c.in-Some.value.now) in
    let iter : c.loop-value.value-iterator ≡ e ∷ c.next.new.self = grind (arith, common_steps) in
    let is : as_table (view e.1) ≡ Some (table_view c.in-Some-as_table.table.now) = sym (rw c.in-Some-as_table.is at c.as_table.ensures) in
    let reported = rw c.in_default-interface_fault.is at c.interface_fault.ensures in
    let next = interface_next (version_number c.args.version) (string_bytes e.0) (view e.1) (members_view c.next.new.self)
    (table_view c.in-Some-as_table.table.now) is reported in
    (tt, tt, sym (rw (iter, next) refl) ∙ same)
