use Rattle.std.proofs.Common.{◌≡◌, ◌∷◌, Some, None, true, sym, ◌∙◌, arith}
use Rattle.std.specs.Prelude.{string_bytes}
use Rattle.std.proofs.lemmas.Grind.{common_steps}
use Rattle.toml.specs.Data.{as_table, member}
use Rattle.toml.specs.View.{view, table_view, members_view}
use Rattle.toml.proofs.Views.{Entry}
use Rattle.gq_scenario.specs.Document.{interfaces_fault}
use Rattle.gq_scenario.specs.Document_tables.{are_named_tables}
use Rattle.gq_scenario.specs.Component_trees.{version_number}
use Rattle.gq_reader.proofs.Faulty_document_result.{name_kept}
use Rattle.gq_reader.proofs.Interface_tables.{table_sound, rest_sound, interface_read, rest_named, keys_rise}
use Rattle.gq_reader.proofs.interface_reading.read_entries.Goals as goal

pub read_interface-requires : goal.read_interface-requires
read_interface-requires c =
    let (can, finite, read, named, sound) = c.loop-key.invariant in
    let e : Entry = (c.in-Some.key.now, c.in-Some.value.now) in
    let iter : c.loop-key.key-iterator ≡ e ∷ c.next.new.self = grind (arith, common_steps) in
    let is : as_table (view e.1) ≡ Some (table_view c.in-Some-as_table.table.now) = sym (rw c.in-Some-as_table.is at c.as_table.ensures) in
    let here : interfaces_fault (version_number c.args.version) (member (string_bytes e.0) (view e.1) (members_view c.next.new.self)) ≡ None =
    rw iter at sound in
    table_sound (version_number c.args.version) (string_bytes e.0) (view e.1) (members_view c.next.new.self) (table_view c.in-Some-as_table.table.now) is here

pub loop-key-preserved : goal.loop-key-preserved
loop-key-preserved c =
    let (can, finite, read, named, sound) = c.loop-key.invariant in
    let e : Entry = (c.in-Some.key.now, c.in-Some.value.now) in
    let iter : c.loop-key.key-iterator ≡ e ∷ c.next.new.self = grind (arith, common_steps) in
    let is : as_table (view e.1) ≡ Some (table_view c.in-Some-as_table.table.now) = sym (rw c.in-Some-as_table.is at c.as_table.ensures) in
    let here : interfaces_fault (version_number c.args.version) (member (string_bytes e.0) (view e.1) (members_view c.next.new.self)) ≡ None =
    rw iter at sound in
    let tables : are_named_tables (member (string_bytes e.0) (view e.1) (members_view c.next.new.self)) ≡ true = rw iter at named in
    let (this, table, others) = rest_named (string_bytes e.0) (view e.1) (members_view c.next.new.self) tables in
    let name = name_kept c.new.result _ c.as_bytes.result.now c.in-Some-new.name c.new.ensures c.in-Some-new.is
    ∙ (c.as_bytes.ensures.value ∙ c.as_str-name.ensures.value) in
    let one = interface_read (version_number c.args.version) (string_bytes e.0) (view e.1) (members_view c.next.new.self)
    (table_view c.in-Some-as_table.table.now) is c.loop-key.entries.items c.in-Some-new.name c.read_interface.result name c.read_interface.ensures in (
      tt,
      tt,
      rw c.in_ok-push.ensures.items (one ∙ (rw iter at read)),
      others,
      rest_sound (version_number c.args.version) (string_bytes e.0) (view e.1) (members_view c.next.new.self) (table_view c.in-Some-as_table.table.now) is here,
    )

pub returns-in_err-push-clause-rising : goal.returns-in_err-push-clause-rising
returns-in_err-push-clause-rising c = keys_rise (version_number c.args.version) c.args.tables.now.entries c.iter-key-items.ensures.ordered

pub returns-clause-rising : goal.returns-clause-rising
returns-clause-rising c = keys_rise (version_number c.args.version) c.args.tables.now.entries c.iter-key-items.ensures.ordered
