-- Labels of leaves.
use Rattle.std.proofs.Common.{◌≡◌, ◌<◌, ℕ, zero, suc, List, [], ◌∷◌, length, IfSome, arith}
use Rattle.std.specs.Prelude.{slice_get}
use Rattle.gq_model.specs.machine.Scenario.{Component}
use Rattle.gq_model.specs.machine.Run.{label_at}

pub label_reported : (cs : List Component) (x : ℕ) (label : List ℕ) → x < length cs → IfSome (slice_get cs x) (λ d. label ≡ d.label)
    → label ≡ label_at (slice_get cs x)
label_reported [] x label less h = absurd (omega (arith, less))
label_reported (c ∷ cs) zero label less h = h
label_reported (c ∷ cs) (suc x) label less h = label_reported cs x label (omega (arith, less)) h
