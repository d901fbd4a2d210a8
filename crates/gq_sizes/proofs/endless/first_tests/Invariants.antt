use Rattle.std.proofs.Common.{◌≡◌, ◌++◌, ℕ, List, true, drop, map}
use Rattle.gq_model.specs.machine.Scenario.{Interface}
use Rattle.gq_sizes.specs.Passing.{tests}
use Rattle.gq_sizes.proofs.endless.first_tests.Given as goal

-- the rows so far, with those of the interfaces that are left, are all
abbrev pub invariant-loop-entry : goal.invariant-loop-entry
invariant-loop-entry l =
    l.tests.items ++ map (λ (e : List ℕ × Interface). tests (λ l. true)) (drop l._entry-index l._entry-items)
    ≡ map (λ (e : List ℕ × Interface). tests (λ l. true)) l._entry-items
