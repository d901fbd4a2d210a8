use Rattle.std.proofs.Common.{◌<◌, ◌∙◌, ap, arith, get_or, length}
use Rattle.gq_scenario.specs.Component_trees.{version_number}
use Rattle.gq_sizes.proofs.Printed_interfaces.{caps_row, endless_row, interface_put, ram_row}
use Rattle.gq_sizes.proofs.interface_lines.push_interfaces.Goals as goal

pub loop-place-preserved : goal.loop-place-preserved
loop-place-preserved c all given rams capss tests =
    let l = c.loop-place in
    let v = version_number c.args.version in
    let entries = c.args.interfaces.now in
    let e = c.entry-item.result in
    let same = c.entries-entry-items.ensures.entries in
    let within : l.place < length entries = omega (arith, c.loop-place-test.true, ap length same) in
    let is = c.entry-item.is ∙ ap (λ xs. get_or xs l.place e) same in
    let row = ram_row v all given entries l.place e within is c.args.sums.now.ram.items rams in
    let caps = caps_row v all given entries l.place e within is c.args.sums.now.caps.items capss in
    let endless = endless_row v all given entries l.place e within is c.args.sums.now.endless.items tests in
    interface_put v all given entries l.place e within is l.text.items c.push_interface.new.text.items _
    (c.in_ok-push_interface.ensures all given row caps endless) (l.invariant all given rams capss tests)
