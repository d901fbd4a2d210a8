-- The greatest number of the leaves that provide a service, found one after the other.
use Rattle.std.proofs.Common.{◌≡◌, ℕ, max, List, [], ◌∷◌, map, refl, ap, ◌∙◌, ◌⊎◌, inl, inr, arith}
use Rattle.std.specs.Prelude.{if◌then◌else◌}
use Rattle.gq_model.specs.machine.Lists.{greatest}
use Rattle.gq_model.specs.machine.Scenario.{Component, System}
use Rattle.gq_model.specs.rules.Kinds.{Subject}
use Rattle.gq_model.specs.rules.Use.{subject}
use Rattle.gq_verify.specs.Saturated_numbers.{saturated}
use Rattle.gq_sizes.specs.Size.{is_named}
use Rattle.gq_sizes.specs.Needing.{needed_of}

-- over the leaves of a system
needed_all : (f : Subject → ℕ) (service : List ℕ) (all : System) (cs : List Component) →
    needed_of f service cs (map (subject all) cs)
    ≡ greatest (λ (c : Component). if is_named service c.node.provides then f (subject all c) else 0) cs
needed_all f service all [] = refl
needed_all f service all (c ∷ rest) = ap (max (if is_named service c.node.provides then f (subject all c) else 0)) (needed_all f service all rest)

pub needed_next : (f : Subject → ℕ) (service : List ℕ) (xs xs' : List Component) (ys ys' : List Subject) (c : Component) (v : Subject)
    (now next all : ℕ) → xs ≡ c ∷ xs' → ys ≡ v ∷ ys' → next ≡ max now (if is_named service c.node.provides then f v else 0) →
    max now (needed_of f service xs ys) ≡ all → max next (needed_of f service xs' ys') ≡ all
needed_next f service xs xs' ys ys' c v now next all ex ey here whole =
    let left : needed_of f service xs ys ≡ needed_of f service (c ∷ xs') (v ∷ ys') = (λ i. needed_of f service (ex i) (ey i)) in
    omega (arith, left, here, whole)

pub kept_next : (f : Subject → ℕ) (service : List ℕ) (xs xs' : List Component) (ys ys' : List Subject) (c : Component) (v : Subject)
    (now next all : ℕ) → xs ≡ c ∷ xs' → ys ≡ v ∷ ys' → next ≡ max now (saturated (if is_named service c.node.provides then f v else 0)) →
    max now (saturated (needed_of f service xs ys)) ≡ all → max next (saturated (needed_of f service xs' ys')) ≡ all
kept_next f service xs xs' ys ys' c v now next all ex ey here whole =
    let left : needed_of f service xs ys ≡ needed_of f service (c ∷ xs') (v ∷ ys') = (λ i. needed_of f service (ex i) (ey i)) in
    omega (arith, left, here, whole)

-- where none is left
pub needed_none : (f : Subject → ℕ) (service : List ℕ) (xs : List Component) (ys : List Subject) → (xs ≡ []) ⊎ (ys ≡ []) → needed_of f service xs ys ≡ 0
needed_none f service [] ys h = refl
needed_none f service (x ∷ xs) [] h = refl
needed_none f service (x ∷ xs) (y ∷ ys) (inl e) = cc
needed_none f service (x ∷ xs) (y ∷ ys) (inr e) = cc

pub needed_is : (f : Subject → ℕ) (service : List ℕ) (all : System) (cs : List Component) (vs : List Subject) → cs ≡ all.components →
    vs ≡ map (subject all) all.components →
    needed_of f service cs vs ≡ greatest (λ (c : Component). if is_named service c.node.provides then f (subject all c) else 0) all.components
needed_is f service all cs vs e h = (λ i. needed_of f service (e i) (h i)) ∙ needed_all f service all all.components
