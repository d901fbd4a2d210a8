use Rattle.std.proofs.Common.{◌≡◌, ◌∙◌, ◌||◌, ℕ, List, ap, sym, subst, true, false, inl, inr, Option, is_some}
use Rattle.std.specs.Prelude.{IfSome, option_map}
use Rattle.gq_model.specs.machine.Rest.{runs}
use Rattle.gq_model.specs.machine.Step.{first_signal, oldest}
use Rattle.gq_model.specs.machine.World.{Leaf, Signal}
use Rattle.gq_outcomes.proofs.Choosing_facts.{leaf_there, some_map, take_is}
use Rattle.gq_outcomes.proofs.choices.can_take.Goals as goal

abbrev number : ℕ × List Signal → ℕ
number p = p.0

pub returns-in-Running : goal.returns-in-Running
returns-in-Running c =
    let m = c.args.machine.now in
    let l = leaf_there m c.requires.sound c.args.leaf c.requires.leaf in
    let is = take_is m c.requires.sound c.args.leaf c.phase.result c.requires.leaf c.phase.ensures l.0 l.1 in
    elim c.in-Running.is [
      | inl e ↦ sym (is ∙ ap (runs m.world c.args.leaf l.0) e)
      | inr e ↦ sym (is ∙ ap (runs m.world c.args.leaf l.0) e)
    ]

pub returns-in-Pending : goal.returns-in-Pending
returns-in-Pending c =
    let m = c.args.machine.now in
    let l = leaf_there m c.requires.sound c.args.leaf c.requires.leaf in
    let is = take_is m c.requires.sound c.args.leaf c.phase.result c.requires.leaf c.phase.ensures l.0 l.1 in
    elim c.in-Pending.is [
      | inl e ↦ sym (is ∙ ap (runs m.world c.args.leaf l.0) e)
      | inr h ↦ elim h [
        | inl e ↦ sym (is ∙ ap (runs m.world c.args.leaf l.0) e)
        | inr e ↦ sym (is ∙ ap (runs m.world c.args.leaf l.0) e)
      ]
    ]

-- a signal is submitted
pub returns-then-is_some : goal.returns-then-is_some
returns-then-is_some c =
    let m = c.args.machine.now in
    let x = c.args.leaf in
    let l = leaf_there m c.requires.sound x c.requires.leaf in
    let is = take_is m c.requires.sound x c.phase.result c.requires.leaf c.phase.ensures l.0 l.1 in
    let signals = subst (λ (o : Option Leaf). IfSome o (λ l. c.signals.result.now ≡ l.signals)) l.1 c.signals.ensures in
    let some : is_some (first_signal l.0.signals) ≡ true =
    sym (some_map number (first_signal l.0.signals)) ∙ ap (λ s. is_some (option_map number (first_signal s))) (sym signals)
    ∙ ap is_some (sym c.first.ensures.first) ∙ sym c.is_some.ensures ∙ c.if-is_some.true in
    c.if-is_some.true
    ∙ sym (is ∙ ap (runs m.world x l.0) c.in-Serving.is ∙ ap (λ b. b || is_some (oldest m.world x m.world.requests)) some)

-- none is, so it is whether a request waits
pub returns-else-is_some : goal.returns-else-is_some
returns-else-is_some c =
    let m = c.args.machine.now in
    let x = c.args.leaf in
    let l = leaf_there m c.requires.sound x c.requires.leaf in
    let is = take_is m c.requires.sound x c.phase.result c.requires.leaf c.phase.ensures l.0 l.1 in
    let signals = subst (λ (o : Option Leaf). IfSome o (λ l. c.signals.result.now ≡ l.signals)) l.1 c.signals.ensures in
    let none : is_some (first_signal l.0.signals) ≡ false =
    sym (some_map number (first_signal l.0.signals)) ∙ ap (λ s. is_some (option_map number (first_signal s))) (sym signals)
    ∙ ap is_some (sym c.first.ensures.first) ∙ sym c.is_some.ensures ∙ c.if-is_some.false in
    c.is_some-else-is_some.ensures ∙ ap is_some c.oldest.ensures ∙ some_map _ _
    ∙ sym (is ∙ ap (runs m.world x l.0) c.in-Serving.is ∙ ap (λ b. b || is_some (oldest m.world x m.world.requests)) none)
