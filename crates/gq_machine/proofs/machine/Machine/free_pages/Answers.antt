-- The pages that no leaf holds.
use Rattle.std.proofs.Common.{ap, arith, ◌≡◌, ◌∙◌}
use Rattle.gq_model.specs.machine.Amounts.{Amount}
use Rattle.gq_model.specs.machine.Scenario.{Scenario}
use Rattle.gq_machine.specs.Machines.{Machine}
use Rattle.gq_machine.proofs.Whole_page_holdings.{all_pages}
use Rattle.gq_machine.proofs.Machine_reader_values.{free_read}
use Rattle.gq_machine.proofs.machine.Machine.free_pages.Goals as goal

pub overflow_sub-result : goal.overflow_sub-result
overflow_sub-result c =
    let all = free_read c.self.inside c.args.self.now c.self.view_is c.self.invariant c.leaf_count.result c.used_before-used.result c.leaf_count.ensures.count
    c.used_before-used.ensures in
    let ram : c.ram.result ≡ c.self.inside.fixed.table.total.ram =
    c.ram.ensures.ram ∙ ap (λ (a : Amount). a.ram) c.total.ensures ∙ ap (λ (s : Scenario). s.total.ram) c.scenario-scenario.ensures in
    let same = ap (λ (m : Machine). m.scenario.total.ram) c.self.view_is in
    let less = c.requires in
    omega (arith, all, ram, same, less)

pub returns : goal.returns
returns c =
    let all = free_read c.self.inside c.args.self.now c.self.view_is c.self.invariant c.leaf_count.result c.used_before-used.result c.leaf_count.ensures.count
    c.used_before-used.ensures in
    let ram : c.ram.result ≡ c.self.inside.fixed.table.total.ram =
    c.ram.ensures.ram ∙ ap (λ (a : Amount). a.ram) c.total.ensures ∙ ap (λ (s : Scenario). s.total.ram) c.scenario-scenario.ensures in
    let same = ap (λ (m : Machine). m.scenario.total.ram) c.self.view_is in
    let less = c.requires in
    let memory = ap (λ (s : Scenario). s.total.ram) c.scenario-scenario.ensures in
    all_pages c.args.self.now.world c.args.self.now.scenario.total.ram c.ram.result c.used_before-used.result c.scenario-scenario.result.now.total.ram
    (ram ∙ same) (memory ∙ same) all c.laws.ensures.memory.whole less
