-- Texts that were compared.
use Rattle.std.proofs.Common.{◌≡◌, ◌∙◌, ℕ, Bool, true, List, [], ◌∷◌, ap, ap₂, sym, refl, arith}
use Rattle.std.specs.Prelude.{IsTrue, ◌&&◌}
use Rattle.std.specs.Cmp.Lexicographic.{pointwise}
use Rattle.gq_model.specs.machine.Program.{text_eq}
use Rattle.gq_model.proofs.Small_facts.{text_is, text_self}
use Rattle.gq_scenario.specs.Component_trees.{version_number}
use Rattle.gq_scenario.specs.declared.scenario.Version.{Version}
use Rattle.gq_scenario.specs.declared.scenario.Version.TheVariants.{One, Two, Three, Four}

-- texts that were found the same are one, by what they were read from
pub same_is : (same : Bool) (a b x y : List ℕ) → same ≡ text_eq a b → a ≡ x → b ≡ y → IsTrue same → x ≡ y
same_is same a b x y is left right h = sym left ∙ (text_is a b (sym is ∙ h) ∙ right)

-- and those that are one are found the same
pub one_is_same : (same : Bool) (a b x y : List ℕ) → same ≡ text_eq a b → a ≡ x → b ≡ y → x ≡ y → IsTrue same
one_is_same same a b x y is left right e = is ∙ (ap (λ t. text_eq t b) (left ∙ (e ∙ sym right)) ∙ text_self b)

-- a list is item by item the same as itself
pub pointwise_self : {A : Type 0} → (f : A → A → Bool) → ((a : A) → f a a ≡ true) → (xs : List A) → pointwise f xs xs ≡ true
pointwise_self f same [] = refl
pointwise_self f same (x ∷ xs) = ap₂ (λ a b. a && b) (same x) (pointwise_self f same xs)

-- versions of one number are one
pub one_version : (a b : Version) → version_number a ≡ version_number b → a ≡ b
one_version One One e = refl
one_version One Two e = absurd (omega (arith, e))
one_version One Three e = absurd (omega (arith, e))
one_version One Four e = absurd (omega (arith, e))
one_version Two One e = absurd (omega (arith, e))
one_version Two Two e = refl
one_version Two Three e = absurd (omega (arith, e))
one_version Two Four e = absurd (omega (arith, e))
one_version Three One e = absurd (omega (arith, e))
one_version Three Two e = absurd (omega (arith, e))
one_version Three Three e = refl
one_version Three Four e = absurd (omega (arith, e))
one_version Four One e = absurd (omega (arith, e))
one_version Four Two e = absurd (omega (arith, e))
one_version Four Three e = absurd (omega (arith, e))
one_version Four Four e = refl
