use Rattle.std.proofs.Common.{◌∙◌, ℕ, ap, length}
use Rattle.gq_model.specs.declared.section.Section.{Section}
use Rattle.gq_model.specs.machine.Scenario.{system}
use Rattle.gq_model.specs.rules.Use.{from_leaves}
use Rattle.gq_scenario.specs.Without_quantities.{unsized}
use Rattle.gq_why.proofs.Known_steps.{no_cycle}
use Rattle.gq_why.proofs.Leaf_number_sums.{items_add, own_adds, session_adds, shown_same, steps_add}
use Rattle.gq_why.proofs.Section_run_chains.{adds_up}
use Rattle.gq_why.proofs.why_sum_laws.why_laws.Goals as goal

pub returns-clause-items : goal.returns-clause-items
returns-clause-items c r kinds = items_add r kinds

pub returns-clause-sessions : goal.returns-clause-sessions
returns-clause-sessions c r i bank = session_adds r i bank

pub returns-clause-own : goal.returns-clause-own
returns-clause-own c r v = own_adds r v

pub returns-clause-steps : goal.returns-clause-steps
returns-clause-steps c cause all x d = steps_add cause all x d

pub returns-clause-times : goal.returns-clause-times
returns-clause-times c cause s faultless x d service section there provides outside =
    let all = system (unsized s) in
    ap (λ (runs : ℕ → Section → ℕ). from_leaves runs all x service section 0 all.components) (λ i y p. shown_same cause all y p i)
    ∙ adds_up cause all (no_cycle (unsized s) faultless) x d service section there provides outside
