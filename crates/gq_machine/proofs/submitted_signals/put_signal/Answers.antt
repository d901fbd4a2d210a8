-- A signal that is submitted.
use Rattle.std.proofs.Common.{◌≡◌, ◌<◌, ℕ, length, refl, ap, ◌∙◌, arith}
use Rattle.std.specs.Prelude.{slice_set}
use Rattle.gq_model.specs.machine.Scenario.{components, system}
use Rattle.gq_model.proofs.Small_facts.{get_within}
use Rattle.gq_leaf.specs.Coded.{Coded}
use Rattle.gq_leaf.specs.Leaf_states.{leaf_of}
use Rattle.gq_machine.specs.Machine_world.{frame_of}
use Rattle.gq_machine.proofs.Machine_leaf_frames.{elsewhere, leaf_set}
use Rattle.gq_machine.proofs.Machine_signals.{holds_submitted}
use Rattle.gq_machine.proofs.Stepping_leaf_facts.{item_there, standing}
use Rattle.gq_machine.proofs.submitted_signals.put_signal.Goals as goal

pub returns-clause-submitted : goal.returns-clause-submitted
returns-clause-submitted c =
    let f = c.args.fixed.now in
    let m = c.args.state.now in
    let ls = m.leaves.items in
    let x = c.args.leaf in
    let holds = c.requires.holds in
    let less = c.requires.leaf in
    let count = holds.count in
    let d = get_within (components f.table) x less in
    let l = get_within ls x (omega (arith, less, count)) in
    let old = c.index_mut.result.now in
    let new = c.submit.new.self in
    let there = item_there ls x l.0 old l.1 c.index_mut.ensures.value in
    c.submits.ensures (system f.table) (frame_of f.table ls) (frame_of f.table (slice_set ls x new)) m.slots x d.0 old f.services.buffers c.args.signal
    c.requires.lawful (standing f m holds c.requires.lawful x d.0 old d.1 there) (elsewhere f.table ls x new)
    (leaf_set f.table ls x d.0 old new d.1 there ∙ ap (λ (k : Coded). leaf_of d.0.node.program k.state) c.submit.ensures)

pub returns-clause-holds : goal.returns-clause-holds
returns-clause-holds c =
    let f = c.args.fixed.now in
    let m = c.args.state.now in
    let ls = m.leaves.items in
    let x = c.args.leaf in
    let holds = c.requires.holds in
    let less = c.requires.leaf in
    let count = holds.count in
    let d = get_within (components f.table) x less in
    let l = get_within ls x (omega (arith, less, count)) in
    let old = c.index_mut.result.now in
    let there = item_there ls x l.0 old l.1 c.index_mut.ensures.value in
    holds_submitted f m holds c.requires.lawful x d.0 old d.1 there c.args.signal _ c.submit.new.self c.submit.ensures refl refl (returns-clause-submitted c)
