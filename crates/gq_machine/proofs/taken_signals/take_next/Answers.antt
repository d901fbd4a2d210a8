-- What a leaf that serves does next.
use Rattle.std.proofs.Common.{◌≡◌, Some, None, sym, subst, ◌∙◌}
use Rattle.std.specs.Prelude.{option_map}
use Rattle.gq_model.specs.machine.Step.{first_signal}
use Rattle.gq_leaf.specs.Coded.{Coded}
use Rattle.gq_machine.specs.internal.Machine_invariant.{OfLeaf}
use Rattle.gq_machine.proofs.Machine_signals.{none_found}
use Rattle.gq_machine.proofs.Stepping_leaf_facts.{item_there}
use Rattle.gq_machine.proofs.taken_signals.take_next.Goals as goal

pub accept-requires-clause-no_signal : goal.accept-requires-clause-no_signal
accept-requires-clause-no_signal c =
    let can = c.requires.serves.can in
    let old = c.index.result.now in
    let there = item_there c.args.state.now.leaves.items c.args.number can.leaf old can.leaf_is c.index.ensures in
    subst (OfLeaf (λ (l : Coded). first_signal l.state.signals ≡ None)) (sym there)
    (none_found (first_signal old.state.signals) (sym c.first_signal-first.ensures.first ∙ c.in-None.is))

pub react-requires-clause-first : goal.react-requires-clause-first
react-requires-clause-first c =
    let can = c.requires.serves.can in
    let old = c.index.result.now in
    let there = item_there c.args.state.now.leaves.items c.args.number can.leaf old can.leaf_is c.index.ensures in
    subst (OfLeaf (λ (l : Coded). option_map (λ p. p.0) (first_signal l.state.signals) ≡ Some c.in-Some.signal)) (sym there)
    (sym c.first_signal-first.ensures.first ∙ c.in-Some.is)
