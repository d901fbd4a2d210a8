use Rattle.std.proofs.Common.{◌≡◌, length, refl, ap, sym, ◌∙◌, arith}
use Rattle.toml.specs.View.{table_view}
use Rattle.gq_scenario.specs.Component_trees.{version_number}
use Rattle.gq_reader.proofs.Interface_tables.{sound_interface}
use Rattle.gq_reader.proofs.Document_list_values.{listed_length}
use Rattle.gq_reader.proofs.interface_reading.read_interface.Goals as goal

pub overflow_cast-need : goal.overflow_cast-need
overflow_cast-need c = let s = (sound_interface (version_number c.args.version) (table_view c.args.table.now) c.requires).need in
    omega (arith, s, c.quantity_at-need.ensures)

pub overflow_cast-object : goal.overflow_cast-object
overflow_cast-object c =
    let s = (sound_interface (version_number c.args.version) (table_view c.args.table.now) c.requires).object in omega (arith, s, c.quantity_at-object.ensures)

pub overflow_cast-buffer : goal.overflow_cast-buffer
overflow_cast-buffer c =
    let s = (sound_interface (version_number c.args.version) (table_view c.args.table.now) c.requires).buffer in omega (arith, s, c.quantity_at-buffer.ensures)

pub with_object-requires : goal.with_object-requires
with_object-requires c =
    let s = (sound_interface (version_number c.args.version) (table_view c.args.table.now) c.requires).object in omega (arith, s, c.quantity_at-object.ensures)

pub with_buffer-interface-requires : goal.with_buffer-interface-requires
with_buffer-interface-requires c =
    let s = (sound_interface (version_number c.args.version) (table_view c.args.table.now) c.requires).buffer in omega (arith, s, c.quantity_at-buffer.ensures)

pub with_upgrades-requires-clause-few : goal.with_upgrades-requires-clause-few
with_upgrades-requires-clause-few c =
    let s = (sound_interface (version_number c.args.version) (table_view c.args.table.now) c.requires).few in
    let all = sym (listed_length c.list_at.result.now) ∙ ap length c.list_at.ensures in
    let none : length c.with_buffer-interface.result.upgrades ≡ 0 = rw (c.with_buffer-interface.ensures, c.with_object.ensures, c.new.ensures) refl in
    omega (arith, s, all, none)

pub with_upgrades-requires-clause-bytes : goal.with_upgrades-requires-clause-bytes
with_upgrades-requires-clause-bytes c = rw c.list_at.ensures (sound_interface (version_number c.args.version) (table_view c.args.table.now) c.requires).bytes

pub with_upgrades-requires-clause-counts : goal.with_upgrades-requires-clause-counts
with_upgrades-requires-clause-counts c = rw c.list_at-2.ensures
    (sound_interface (version_number c.args.version) (table_view c.args.table.now) c.requires).counts
