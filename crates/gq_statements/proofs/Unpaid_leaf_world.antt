-- A world in which a leaf holds and has lent more than it was handed and has received is not paid for.
use Rattle.std.proofs.Common.{◌≡◌, ℕ, ◌+◌, ◌<◌, Bool, true, false, List, [], ◌∷◌, inl, inr, refl, sym, subst, arith}
use Rattle.std.specs.Prelude.{slice_get, Some}
use Rattle.std.proofs.lemmas.Bool.{and_parts, leb-true}
use Rattle.gq_model.specs.machine.Amounts.{Resource, part}
use Rattle.gq_model.specs.machine.Scenario.{System, Component}
use Rattle.gq_model.specs.machine.World.{Leaf, World}
use Rattle.gq_model.specs.machine.Sums.{are_paid, handed, held, is_paid, lent, paid, received}
use Rattle.gq_laws.proofs.quota_payment.Written_world_prices.{paid_one}
use Rattle.gq_statements.specs.Among.{IsAmong}

-- where each of these resources is paid, this one is
pub paid_among : (w : World) (x : ℕ) (c : Component) (leaf : Leaf) (resources : List Resource) (r : Resource) → IsAmong r resources
    → are_paid w x c leaf resources ≡ true → is_paid w x c leaf r ≡ true
paid_among w x c leaf [] r among h = absurd among
paid_among w x c leaf (q ∷ rest) r (inl e) h =
    subst (λ y. is_paid w x c leaf y ≡ true) (sym e) (and_parts (is_paid w x c leaf q) (are_paid w x c leaf rest) h).0
paid_among w x c leaf (q ∷ rest) r (inr e) h =
    paid_among w x c leaf rest r e (and_parts (is_paid w x c leaf q) (are_paid w x c leaf rest) h).1

false_where : (b : Bool) → (b ≡ true → ⊥) → b ≡ false
false_where true h = absurd (h refl)
false_where false h = refl

-- Where one of the leaves holds and has lent more of a resource that is counted than it was handed and has received, not all is paid.
pub not_paid : (system : System) (w : World) (x : ℕ) (c : Component) (leaf : Leaf) (r : Resource) → slice_get system.components x ≡ Some c
    → slice_get w.leaves x ≡ Some leaf → IsAmong r system.counted
    → handed leaf.phase (part r c.node.quantum) + received r w x < held r w x leaf + lent r w x → paid system w ≡ false
not_paid system w x c leaf r there stands among more =
    false_where (paid system w) (λ p.
    let each = paid_one system.counted w 0 system.components w.leaves p x c leaf there stands x (omega arith) in
    let enough = leb-true _ _ (paid_among w x c leaf system.counted r among each) in
    omega (arith, enough, more))
