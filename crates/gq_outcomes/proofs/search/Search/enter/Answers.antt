use Rattle.std.proofs.Common.{◌∙◌, ◌<◌, sym, subst, length}
use Rattle.std.specs.Prelude.{All, OnOk}
use Rattle.gq_model.specs.machine.Scenario.{components, system}
use Rattle.gq_outcomes.specs.Choices.{racy_servers}
use Rattle.gq_outcomes.specs.internal.Search_states.{HasLeaves, IsAtStack}
use Rattle.gq_outcomes.specs.internal.Walks.{reached}
use Rattle.gq_outcomes.proofs.Search_facts.{all_put, none_there, opened_none, opened_put, some_there}
use Rattle.gq_outcomes.proofs.Search_worlds.{choices_below, leaves_are}
use Rattle.gq_outcomes.proofs.search.Search.enter.Goals as goal

pub returns-then-is_empty-clause-opened : goal.returns-then-is_empty-clause-opened
returns-then-is_empty-clause-opened c t branches h =
    let w = c.args.walk.now in
    let s = w.world.scenario in
    let leaves = c.leaves-leaves.result.items in
    let are = leaves_are s w c.requires.walk c.machine.result.now c.machine.ensures.is leaves c.leaves-leaves.ensures in
    subst (λ r. OnOk c.put_outcome.result (IsAtStack s w.past.items c.put_outcome.new.self r branches))
    (sym (opened_none s w.past.items t leaves are (none_there leaves c.is_empty.result c.is_empty.ensures c.if-is_empty.true)))
    (c.put_outcome.ensures.at t branches h)

pub returns-clause-search : goal.returns-clause-search
returns-clause-search c =
    let w = c.args.walk.now in
    let s = w.world.scenario in
    let n = length (components s) in
    let leaves = c.leaves-leaves.result in
    let are = leaves_are s w c.requires.walk c.machine.result.now c.machine.ensures.is leaves.items c.leaves-leaves.ensures in
    let below = subst (λ l. All (λ x. x < n) l) (sym are) (choices_below s (racy_servers (system s)) (reached s w.past.items).world) in
    record {
      branches = subst (All (HasLeaves n)) (sym c.in_ok-push.ensures.items) (all_put (HasLeaves n) c.args.self.now.branches.items
          (record { turns = c.len.result; leaves = leaves; next = 0 }) c.requires.search.branches below);
      found = c.requires.search.found;
    }

pub returns-clause-opened : goal.returns-clause-opened
returns-clause-opened c t branches h =
    let w = c.args.walk.now in
    let s = w.world.scenario in
    let leaves = c.leaves-leaves.result in
    let are = leaves_are s w c.requires.walk c.machine.result.now c.machine.ensures.is leaves.items c.leaves-leaves.ensures in
    opened_put s w.past.items c.args.self.now t branches (record { turns = c.len.result; leaves = leaves; next = 0 }) c.push.new.self
    (c.len.ensures ∙ w.past.ok.0) (λ i. 0) (some_there leaves.items c.is_empty.result c.is_empty.ensures c.if-is_empty.false) are c.in_ok-push.ensures.items h
