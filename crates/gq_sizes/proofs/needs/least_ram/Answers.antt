use Rattle.std.proofs.Common.{◌∙◌, ℕ, List, length, ap}
use Rattle.gq_model.specs.machine.Scenario.{Interface}
use Rattle.gq_sizes.specs.Size.{all_gifts, ram_sum}
use Rattle.gq_sizes.specs.Needing.{gifts_of}
use Rattle.gq_sizes.specs.Saturated_tables.{ram_rows, row}
use Rattle.gq_sizes.proofs.Least_gifts.{same_gifts}
use Rattle.gq_sizes.proofs.Number_table_rows.{row_more, row_none}
use Rattle.gq_sizes.proofs.needs.least_ram.Goals as goal

pub loop-service-preserved : goal.loop-service-preserved
loop-service-preserved c all components leaves =
    let x = c.loop-service-item.result in
    let given = all_gifts all all.components in
    let made =
    c.sums_of.ensures all (gifts_of c.args.leaves.now) x.0 x.1 (c.needs_ram-needs.ensures all components leaves) c.least_gifts-gifts.ensures
    (ap length c.upgrades-upgrades.ensures.upgrades)
    ∙ ap (λ g. row (ram_sum all g x.0 x.1)) (ap gifts_of leaves ∙ same_gifts all all.components) in
    row_more (λ (e : List ℕ × Interface). row (ram_sum all given e.0 e.1)) c.entries-service-items.result.now c.loop-service.service-index x
    c.loop-service.sums.items c.push.new.self.items c.sums_of.result c.loop-service-test.true c.loop-service-item.is c.in_ok-push.ensures.items made
    (c.loop-service.invariant all components leaves)

pub returns : goal.returns
returns c all components leaves =
    let given = all_gifts all all.components in
    row_none (λ (e : List ℕ × Interface). row (ram_sum all given e.0 e.1)) c.entries-service-items.result.now c.loop-service.service-index
    c.loop-service.sums.items c.loop-service-test.false (c.loop-service.invariant all components leaves)
    ∙ ap (ram_rows all given) c.entries-service-items.ensures.entries
