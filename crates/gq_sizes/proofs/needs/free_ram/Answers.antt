use Rattle.std.proofs.Common.{◌∙◌, List, ℕ, ap}
use Rattle.gq_model.specs.machine.Amounts.{Ram}
use Rattle.gq_model.specs.machine.Scenario.{Interface}
use Rattle.gq_sizes.specs.Size.{needed}
use Rattle.gq_sizes.specs.Saturated_tables.{needed_rows, row}
use Rattle.gq_sizes.proofs.Number_table_rows.{row_more, row_none}
use Rattle.gq_sizes.proofs.needs.free_ram.Goals as goal

pub loop-service-preserved : goal.loop-service-preserved
loop-service-preserved c all components leaves =
    row_more (λ (e : List ℕ × Interface). row (needed (λ _ _. 0) Ram all e.0 e.1)) c.entries-service-items.result.now c.loop-service.service-index
    c.loop-service-item.result c.loop-service.needs.items c.push.new.self.items c.needs_ram.result c.loop-service-test.true c.loop-service-item.is
    c.in_ok-push.ensures.items (c.needs_ram.ensures all components leaves) (c.loop-service.invariant all components leaves)

pub returns : goal.returns
returns c all components leaves =
    row_none (λ (e : List ℕ × Interface). row (needed (λ _ _. 0) Ram all e.0 e.1)) c.entries-service-items.result.now c.loop-service.service-index
    c.loop-service.needs.items c.loop-service-test.false (c.loop-service.invariant all components leaves)
    ∙ ap (needed_rows all) c.entries-service-items.ensures.entries
