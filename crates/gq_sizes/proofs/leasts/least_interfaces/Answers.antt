-- A row more, and at the end all.
use Rattle.std.proofs.Common.{◌<◌, ◌≤◌, ◌∙◌, ap, arith, get_or, length}
use Rattle.gq_sizes.specs.Least_numbers.{interface_row}
use Rattle.gq_sizes.proofs.Number_table_rows.{row_more, row_none}
use Rattle.gq_sizes.proofs.Printed_interfaces.{caps_row, endless_row, ram_row}
use Rattle.gq_sizes.proofs.leasts.least_interfaces.Goals as goal

pub loop-place-preserved : goal.loop-place-preserved
loop-place-preserved c all given rams capss tests =
    let l = c.loop-place in
    let entries = c.args.interfaces.now in
    let e = c._entry-item.result in
    let same = c.entries-entry-items.ensures.entries in
    let within : l.place < length entries = omega (arith, c.loop-place-test.true, ap length same) in
    let is = c._entry-item.is ∙ ap (λ xs. get_or xs l.place e) same in
    let row = ram_row 0 all given entries l.place e within is c.args.sums.now.ram.items rams in
    let caps = caps_row 0 all given entries l.place e within is c.args.sums.now.caps.items capss in
    let endless = endless_row 0 all given entries l.place e within is c.args.sums.now.endless.items tests in
    row_more (interface_row all given) entries l.place e l.least.items c.push.new.self.items c.least_interface.result within is c.in_ok-push.ensures.items
    (c.least_interface.ensures all given e row caps endless) (l.invariant all given rams capss tests)

pub returns : goal.returns
returns c all given rams capss tests =
    let l = c.loop-place in
    let entries = c.args.interfaces.now in
    let same = c.entries-entry-items.ensures.entries in
    let end : length entries ≤ l.place = omega (arith, c.loop-place-test.false, ap length same) in
    row_none (interface_row all given) entries l.place l.least.items end (l.invariant all given rams capss tests)
