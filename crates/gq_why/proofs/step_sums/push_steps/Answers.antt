use Rattle.std.proofs.Common.{◌≡◌, ◌∙◌, ◌++◌, List, OnOk, Some, ap, arith, get_or, length, refl, subst, sym}
use Rattle.std.specs.Prelude.{slice_get}
use Rattle.std.proofs.lemmas.Option.{get_or_from_slice_get, slice_get_read}
use Rattle.gq_model.specs.machine.Scenario.{Component, system}
use Rattle.gq_why.specs.Why.{steps_part}
use Rattle.gq_why.proofs.Known_steps.{counted_so}
use Rattle.gq_why.proofs.step_sums.push_steps.Goals as goal

pub invariant_of-counts : goal.invariant_of-counts
invariant_of-counts c =
    let same = ap (λ (l : List Component). length l) c.requires.components in
    let few = c.bounds.ensures.leaves in
    record {
      leaves = c.requires.components;
      few = omega (arith, same, few);
      counted = counted_so c.args.free.now c.args.components.now c.args.found.now.surveys.counted.items c.args.found.now.surveys.counted.items
          c.requires.components refl c.requires.surveys.counted;
      servers = c.requires.servers;
      budgets = c.requires.budgets;
      faultless = c.requires.faultless;
    }

pub push_parts-requires : goal.push_parts-requires
push_parts-requires c =
    let cs = c.args.components.now in
    let d = c.index-components-index.result in
    let read = c.index-components-index.is ∙ ap (λ x. get_or cs x d) c.index.ensures in
    ap (λ (l : List Component). slice_get l c.args.leaf) (sym c.requires.components) ∙ slice_get_read cs (length cs) c.args.leaf d refl c.requires.there read

pub returns : goal.returns
returns c d there =
    let cs = c.args.components.now in
    let x = c.args.leaf in
    let item = c.index-components-index.result in
    let same : item ≡ d = c.index-components-index.is ∙ (ap (λ x. get_or cs x item) c.index.ensures ∙ get_or_from_slice_get cs x d item there) in
    subst (λ (e : Component). OnOk c.push_parts.result (c.push_parts.new.text.items ≡ c.args.text.now.items ++ steps_part (system c.args.free.now) x e)) same
    c.push_parts.ensures
