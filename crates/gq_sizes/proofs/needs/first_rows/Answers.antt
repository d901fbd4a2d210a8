use Rattle.std.proofs.Common.{◌∙◌, ℕ, List, refl, ap}
use Rattle.gq_model.specs.machine.Scenario.{Interface}
use Rattle.gq_verify.specs.Saturated_numbers.{saturated}
use Rattle.gq_sizes.specs.Size.{caps_sum}
use Rattle.gq_sizes.specs.Saturated_tables.{row, sum_rows}
use Rattle.gq_sizes.proofs.Number_table_rows.{row_more, row_none}
use Rattle.gq_sizes.proofs.needs.first_rows.Goals as goal

pub loop-entry-preserved : goal.loop-entry-preserved
loop-entry-preserved c all =
    row_more (λ (e : List ℕ × Interface). row (λ l. saturated (caps_sum 0 all e.0 l))) c.entries-entry-items.result.now c.loop-entry._entry-index
    c._entry-item.result c.loop-entry.rows.items c.push.new.self.items _ c.loop-entry-test.true c._entry-item.is c.in_ok-push.ensures.items refl
    (c.loop-entry.invariant all)

pub returns : goal.returns
returns c all =
    row_none (λ (e : List ℕ × Interface). row (λ l. saturated (caps_sum 0 all e.0 l))) c.entries-entry-items.result.now c.loop-entry._entry-index
    c.loop-entry.rows.items c.loop-entry-test.false (c.loop-entry.invariant all)
    ∙ ap (sum_rows all 0) c.entries-entry-items.ensures.entries
