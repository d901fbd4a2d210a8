-- A signal that is submitted, or one that the leaf has not.
use Rattle.std.proofs.Common.{◌≡◌, ◌≤◌, ℕ, List, Option, Some, None, length, sym, ap, ◌∙◌, arith}
use Rattle.std.specs.Prelude.{IfSome, slice_get}
use Rattle.gq_model.specs.machine.Run.{submit}
use Rattle.gq_model.specs.machine.World as world
use Rattle.gq_machine.proofs.Machine_signals.{submit_none}
use Rattle.gq_machine.proofs.machine.Machine.submit.Goals as goal

few_there : (o : Option world.Leaf) (signals : List world.Signal) (n i : ℕ) → IfSome o (λ l. signals ≡ l.signals) → n ≡ length signals → n ≤ i
    → IfSome o (λ l. length l.signals ≤ i)
few_there None signals n i h count le = tt
few_there (Some l) signals n i h count le = let same = ap length h in omega (arith, same, count, le)

pub returns-then-signal-count-clause-submitted : goal.returns-then-signal-count-clause-submitted
returns-then-signal-count-clause-submitted c =
    let w = c.args.self.now.world in
    sym (submit_none w c.args.leaf c.args.signal (few_there (slice_get w.leaves c.args.leaf) c.signals.result.now c.count.result c.args.signal c.signals.ensures
    c.count.ensures.count c.if-signal-count.true))

pub returns-clause-submitted : goal.returns-clause-submitted
returns-clause-submitted c = c.put_signal.ensures.submitted ∙ (λ k. submit (c.self.view_is k).world (c.index.ensures k) c.args.signal)
