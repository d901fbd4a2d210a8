use Rattle.std.proofs.Common.{◌≡◌, ◌<◌, ◌+◌, ◌∙◌, ◌++◌, ◌∷◌, [], ap, sym, subst, refl, arith, drop, length}
use Rattle.gq_model.specs.machine.Scenario.{components, system}
use Rattle.gq_outcomes.specs.Choices.{choices, choices_from, is_at_choice, racy_servers}
use Rattle.gq_outcomes.proofs.Choice_lists.{choice_here, choice_past, count_put}
use Rattle.gq_outcomes.proofs.choices.Choices.leaves.Goals as goal
use Rattle.gq_outcomes.proofs.choices.Choices.leaves.Goals.{then-is_at_choice, else-is_at_choice}

pub push-requires : goal.push-requires
push-requires c =
    let few = c.loop-number.invariant.few in
    let less = c.loop-number-test.true in
    let most = c.leaf_count-number-end.ensures.few in
    (omega arith, omega (arith, few, less, most))

pub loop-number-preserved : goal.loop-number-preserved
loop-number-preserved c =
    let m = c.args.machine.now in
    let s = system m.scenario in
    let racy = racy_servers s in
    let n = c.loop-number.number in
    let old = c.loop-number.leaves.items in
    let all = choices s racy m.world in
    let few = c.loop-number.invariant.few in
    let less = subst (λ k. n < k) (c.leaf_count-number-end.ensures.count ∙ ap (λ s. length (components s)) c.table.ensures) c.loop-number-test.true in
    let is = ap (λ x. is_at_choice s racy m.world x) (sym c.new.ensures) ∙ sym c.is_at_choice.ensures in
    elim c.if-is_at_choice.branch [
      | then-is_at_choice w ↦ (
          let pushed : c.if-is_at_choice.leaves.items ≡ old ++ n ∷ [] = ap (λ v. v.items) w.leaves-is ∙ w.push.ensures.items in
          let count = count_put old c.if-is_at_choice.leaves.items n (length old) pushed refl in
          record {
            few = omega (arith, few, count);
            are = choice_here s racy m.world (components m.scenario) n old c.if-is_at_choice.leaves.items all less (is ∙ w.if-is_at_choice.true) pushed
                c.loop-number.invariant.are;
          })
      | else-is_at_choice w ↦ (
          let same : c.if-is_at_choice.leaves.items ≡ old = ap (λ v. v.items) w.leaves-is in
          let later = choice_past s racy m.world (components m.scenario) n old all less (is ∙ w.if-is_at_choice.false) c.loop-number.invariant.are in
          let count = ap length same in
          record {
            few = omega (arith, few, count);
            are = ap (λ l. l ++ choices_from s racy m.world (n + 1) (drop (n + 1) (components m.scenario))) same ∙ later;
          })
    ]
