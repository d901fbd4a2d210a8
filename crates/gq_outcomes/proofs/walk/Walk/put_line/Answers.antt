use Rattle.std.proofs.Common.{◌≡◌, ◌∙◌, ◌<◌, ◌++◌, [], Some, ap, sym, subst, refl, is_some, length, get_or}
use Rattle.std.specs.Prelude.{slice_get, slice_set}
use Rattle.std.proofs.lemmas.Option.{slice_get-get_or}
use Rattle.gq_model.specs.machine.Doing.{Line}
use Rattle.gq_model.specs.machine.Run.{line_of}
use Rattle.gq_model.specs.machine.Scenario.{Component, components}
use Rattle.gq_model.proofs.Small_facts.{some_same}
use Rattle.gq_views.specs.internal.Table_leaves.{leaf_of}
use Rattle.gq_views.proofs.Table_leaf_servers.{leaf_there}
use Rattle.gq_outcomes.specs.Outcomes.{line_by}
use Rattle.gq_outcomes.specs.internal.Walks.{said_of}
use Rattle.gq_outcomes.proofs.Walk_facts.{line_put, none_put, ok_items, on_ok, provided, some_map, unprovided}
use Rattle.gq_outcomes.proofs.walk.Walk.put_line.Goals as goal

pub returns-then-is_some-clause-puts : goal.returns-then-is_some-clause-puts
returns-then-is_some-clause-puts c =
    let old = c.args.self.now in
    let s = old.world.scenario in
    let x = c.args.leaf in
    let own = c.new-own.result in
    let at = leaf_there s own x x _ (c.new-own.ensures ∙ ap (λ s. leaf_of s x) c.table.ensures) refl refl c.requires.leaf in
    let there = slice_get-get_or (components s) x own.component at.within ∙ ap Some (sym at.is) in
    let some = ap is_some (sym c.provides.ensures) ∙ some_map _ c.provides.result ∙ sym c.is_some.ensures ∙ c.if-is_some.true in
    let o = slice_get (components s) x in
    record {
      world = refl;
      said = none_put (said_of old) x (line_by o (Line c.args.text.now)) (provided o (Line c.args.text.now) (λ d is.
          ap (λ (c : Component). is_some c.node.provides) (some_same (sym is ∙ there)) ∙ some));
    }

pub returns-clause-puts : goal.returns-clause-puts
returns-clause-puts c =
    let old = c.args.self.now in
    let s = old.world.scenario in
    let x = c.args.leaf in
    let event = Line c.args.text.now in
    let said = old.said.items in
    let before = c.index_mut.result.now in
    let after = c.extend_from_slice.new.self in
    let own = c.new-own.result in
    let at = leaf_there s own x x _ (c.new-own.ensures ∙ ap (λ s. leaf_of s x) c.table.ensures) refl refl c.requires.leaf in
    let there = slice_get-get_or (components s) x own.component at.within ∙ ap Some (sym at.is) in
    let none = ap is_some (sym c.provides.ensures) ∙ some_map _ c.provides.result ∙ sym c.is_some.ensures ∙ c.if-is_some.false in
    let line : c.as_slice.result.now ≡ line_by (slice_get (components s) x) event =
    c.as_slice.ensures.value ∙ c.text_line-line.ensures ∙ ap (λ l. line_of l event) c.label.ensures.label
    ∙ sym (unprovided (slice_get (components s) x) own.component event there none) in
    let less = subst (λ n. n < length said) (sym c.index.ensures) (subst (λ n. x < n) (sym c.requires.walk.count) c.requires.leaf) in
    on_ok c.extend_from_slice.result (λ (is : after.items ≡ before.items ++ c.as_slice.result.now).
    record {
      world = refl;
      said = line_put (λ v. v.items) said c.index.result before after (line_by (slice_get (components s) x) event) less c.index_mut.ensures.value
          (is ∙ ap (λ l. before.items ++ l) line)
          ∙ ap (λ i. slice_set (said_of old) i (get_or (said_of old) i [] ++ line_by (slice_get (components s) x) event)) c.index.ensures;
    })
    (ok_items c.extend_from_slice.result after.items before.items c.as_slice.result.now c.extend_from_slice.ensures.items)
