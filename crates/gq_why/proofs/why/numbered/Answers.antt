use Rattle.std.proofs.Common.{◌∙◌, ◌≡◌, ℕ, Some, sym, ap, subst}
use Rattle.std.specs.Prelude.{option_map, slice_get}
use Rattle.gq_model.specs.machine.Program.{text_eq}
use Rattle.gq_model.specs.machine.Scenario.{Component, components}
use Rattle.gq_why.proofs.Searched_leaf_name.{found_here, found_later}
use Rattle.gq_why.proofs.why.numbered.Goals as goal

pub returns-then-same_text : goal.returns-then-same_text
returns-then-same_text c =
    let cs = components c.args.scenario.now in
    let name = c.args.name.now in
    let node = c.leaf.result.now in
    let there = subst (λ (k : ℕ). option_map (λ (d : Component). d.node) (slice_get cs k) ≡ Some node) c.new-leaf.ensures c.leaf.ensures in
    let same = ap (text_eq name) (sym (c.as_bytes.ensures.bytes ∙ c.name.ensures)) ∙ (sym c.same_text.ensures ∙ c.if-same_text.true) in
    ap (λ (k : ℕ). Some k) c.new-leaf.ensures ∙ sym (c.loop-place.invariant ∙ found_here name cs c.loop-place.place node there same)

pub loop-place-preserved : goal.loop-place-preserved
loop-place-preserved c =
    let cs = components c.args.scenario.now in
    let name = c.args.name.now in
    let node = c.leaf.result.now in
    let there = subst (λ (k : ℕ). option_map (λ (d : Component). d.node) (slice_get cs k) ≡ Some node) c.new-leaf.ensures c.leaf.ensures in
    let other = ap (text_eq name) (sym (c.as_bytes.ensures.bytes ∙ c.name.ensures)) ∙ (sym c.same_text.ensures ∙ c.if-same_text.false) in
    c.loop-place.invariant ∙ found_later name cs c.loop-place.place node there other
