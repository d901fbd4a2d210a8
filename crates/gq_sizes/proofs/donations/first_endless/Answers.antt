-- The first is here, or among those that are left.
use Rattle.std.proofs.Common.{◌<◌, ◌≤◌, ◌∙◌, [], Some, ap, arith, get_or, length}
use Rattle.gq_sizes.specs.Endless.{endless_up_to}
use Rattle.gq_sizes.proofs.First_endless_search.{first_end, first_here, first_next}
use Rattle.gq_sizes.proofs.Printed_interfaces.{endless_row}
use Rattle.gq_sizes.proofs.donations.first_endless.Goals as goal

pub loop-place-preserved : goal.loop-place-preserved
loop-place-preserved c all rows =
    let l = c.loop-place in
    let items = c.args.interfaces.now in
    let e = c.entry-item.result in
    let same = c.entries-entry-items.ensures.entries in
    let within : l.place < length items = omega (arith, c.loop-place-test.true, ap length same) in
    let is = c.entry-item.is ∙ ap (λ xs. get_or xs l.place e) same in
    let row = endless_row 0 all [] items l.place e within is c.args.endless.now rows in
    let test = c.is_endless_up_to.ensures all e.0 row ∙ ap (λ u. endless_up_to all e.0 (length u)) c.upgrades.ensures.upgrades in
    first_next all items l.place e c.is_endless_up_to.result within is test c.if-is_endless_up_to.false _ (l.invariant all rows)

pub returns-then-is_endless_up_to : goal.returns-then-is_endless_up_to
returns-then-is_endless_up_to c all rows =
    let l = c.loop-place in
    let items = c.args.interfaces.now in
    let e = c.entry-item.result in
    let same = c.entries-entry-items.ensures.entries in
    let within : l.place < length items = omega (arith, c.loop-place-test.true, ap length same) in
    let is = c.entry-item.is ∙ ap (λ xs. get_or xs l.place e) same in
    let row = endless_row 0 all [] items l.place e within is c.args.endless.now rows in
    let test = c.is_endless_up_to.ensures all e.0 row ∙ ap (λ u. endless_up_to all e.0 (length u)) c.upgrades.ensures.upgrades in
    ap Some c.copied.ensures
    ∙ first_here all items l.place e c.is_endless_up_to.result within is test c.if-is_endless_up_to.true _ (l.invariant all rows)

pub returns : goal.returns
returns c all rows =
    let l = c.loop-place in
    let items = c.args.interfaces.now in
    let end : length items ≤ l.place = omega (arith, c.loop-place-test.false, ap length c.entries-entry-items.ensures.entries) in
    first_end all items l.place end _ (l.invariant all rows)
