-- The first signal that is submitted.
use Rattle.std.proofs.Common.{◌≡◌, ◌<◌, ◌≤◌, ◌+◌, ◌^◌, ◌∙◌, ℕ, Option, Some, None, length, refl, sym, ap, map, subst, arith}
use Rattle.std.specs.Prelude.{IfSome, option_map, slice_get}
use Rattle.gq_model.specs.machine.Step.{first_signal}
use Rattle.gq_leaf.specs.declared.signals.Signal.{Signal}
use Rattle.gq_leaf.specs.internal.Signal_lists.{AreTakenWithin, signal_seen, with_taken}
use Rattle.gq_leaf.proofs.Signal_counts.{first_there, refilled_taken, taken_seen, within_there}
use Rattle.gq_leaf.proofs.signals.Signals.take.Goals as goal

pub take_in-requires-clause-there : goal.take_in-requires-clause-there
take_in-requires-clause-there c =
    let xs = c.self.inside.list.items in
    let first = ap (λ l. option_map (λ p. p.0) (first_signal l)) c.self.view_is ∙ c.requires.first in
    let there = first_there xs c.args.number first in
    let long = ap length c.as_mut_slice.ensures.value in
    omega (arith, there, long, c.from.ensures)

pub take_in-requires-clause-countable : goal.take_in-requires-clause-countable
take_in-requires-clause-countable c =
    let few = subst (λ l. AreTakenWithin c.requires.countable.0 l) (sym c.self.view_is) c.requires.countable.1 in
    let less = c.requires.countable.2 in
    by c.requires.countable.0 less (slice_get c.as_mut_slice.result.now c.from.result) (λ s e.
    within_there c.requires.countable.0 c.self.inside.list.items c.from.result s few
    (ap (λ l. slice_get l c.from.result) (sym c.as_mut_slice.ensures.value) ∙ e))
  where
    by : (n : ℕ) → n + 1 < 2 ^ 64 → (o : Option Signal) → ((s : Signal) → o ≡ Some s → s.taken ≤ n)
        → IfSome o (λ s. s.taken + 1 < 2 ^ 64)
    by n less None f = tt
    by n less (Some s) f = let most = f s refl in omega (arith, less, most)

pub returns : goal.returns
returns c =
    let xs = c.self.inside.list.items in
    let i = c.args.number in
    let first = ap (λ l. option_map (λ p. p.0) (first_signal l)) c.self.view_is ∙ c.requires.first in
    let is = refilled_taken xs c.as_mut_slice.result.now c.take_in.new.signals i c.as_mut_slice.ensures.value
    (c.take_in.ensures ∙ ap (with_taken c.as_mut_slice.result.now) c.from.ensures) in
    ap first_signal (sym c.self.view_is) ∙ taken_seen xs i first ∙ ap (λ l. Some (i, map signal_seen l)) (sym is)
