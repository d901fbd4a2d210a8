-- The leaf that takes the next turns on the way to rest, as it is found.
use Rattle.std.proofs.Common.{◌≡◌, ◌∙◌, ℕ, suc, ◌<◌, true, Option, Some, IfSome, sym, subst}
use Rattle.std.specs.Prelude.{IsOk}
use Rattle.gq_model.specs.machine.Rest.{can_run, while_can}
use Rattle.gq_model.specs.machine.Scenario.{Scenario, system}
use Rattle.gq_model.specs.machine.Step.{next}
use Rattle.gq_model.specs.machine.World.{World}
use Rattle.gq_traces.specs.internal.Next_able.{next_able}
use Rattle.gq_traces.proofs.Steps_when_able.{able_some}

-- the next leaf, by what is found
pub next_of : (s t : Scenario) (w : World) (from : ℕ) (r o : Option ℕ) → t ≡ s → r ≡ next_able (system t) w from → r ≡ o → next_able (system s) w from ≡ o
next_of s t w from r o same found is = subst (λ (u : Scenario). next_able (system u) w from ≡ o) same (sym found ∙ is)

-- it can take a turn, and takes some
pub some_of : (s t : Scenario) (w v : World) (x n k : ℕ) (r : Option ℕ) → t ≡ s → r ≡ Some x → IfSome r (λ y. can_run (system t) w y ≡ true)
    → IsOk (next (system t) w x) → 0 < n → while_can n (system s) w x ≡ (k, v) → (m : ℕ) × (k ≡ suc m)
some_of s t w v x n k r same is can goes some takes =
    able_some (system s) x n k w v some
    (subst (λ (u : Scenario). can_run (system u) w x ≡ true) same (subst (λ o. IfSome o (λ y. can_run (system t) w y ≡ true)) is can))
    (subst (λ (u : Scenario). IsOk (next (system u) w x)) same goes) takes
