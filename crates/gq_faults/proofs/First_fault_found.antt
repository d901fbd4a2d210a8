-- The first of all that is found.
use Rattle.std.proofs.Common.{◌≡◌, Bool, true, false, cond, List, [], ◌∷◌, ◌++◌, map, Option, Some, None, option_map, refl, ap, sym, ◌∙◌, append_assoc}
use Rattle.gq_model.specs.machine.Lists.{or_first}
use Rattle.gq_faults.specs.Found_lists.{listed_if, when, all_found, or_else, first}

module _ {A : Type 0} where
  pub first-append : (a b : List A) → first (a ++ b) ≡ or_first (first a) (first b)
  first-append [] b = refl
  first-append (x ∷ a) b = refl

  pub first_both : (a b : List A) (x y : Option A) → first a ≡ x → first b ≡ y → first (a ++ b) ≡ or_first x y
  first_both a b x y e f = first-append a b ∙ (ap (λ o. or_first o (first b)) e ∙ ap (or_first x) f)

  pub or_assoc : (x y z : Option A) → or_first (or_first x y) z ≡ or_first x (or_first y z)
  or_assoc None y z = refl
  or_assoc (Some a) y z = refl

  -- what follows matters only where nothing is before it
  pub first_then : (a b : List A) (x y : Option A) → first a ≡ x → (x ≡ None → first b ≡ y) → first (a ++ b) ≡ or_first x y
  first_then a b None y e f = first_both a b None y e (f refl)
  first_then a b (Some z) y e f = first-append a b ∙ ap (λ o. or_first o (first b)) e

  pub first_listed : (o : Option A) → first (listed_if o) ≡ o
  first_listed None = refl
  first_listed (Some x) = refl

  pub first_when : (b : Bool) (x : A) (rest : List A) (o : Option A) → first rest ≡ o → first (when b x ++ rest) ≡ cond b (Some x) o
  first_when true x rest o e = refl
  first_when false x rest o e = e

  pub first_else : (a b : List A) (x y : Option A) → first a ≡ x → first b ≡ y → first (or_else a b) ≡ or_first x y
  first_else [] b x y e f = f ∙ ap (λ o. or_first o y) e
  first_else (z ∷ a) b x y e f = ap (λ o. or_first o y) e

  -- without a first one there is none
  pub first_none : (a : List A) → first a ≡ None → a ≡ []
  first_none [] e = refl
  first_none (x ∷ a) e = absurd (none e)
    where
      none : Some x ≡ None → ⊥
      none h = cc

pub first_map : {A B : Type 0} (f : A → B) (a : List A) → first (map f a) ≡ option_map f (first a)
first_map f [] = refl
first_map f (x ∷ a) = refl

pub all_found-append : {A B : Type 0} (f : A → List B) (a b : List A) → all_found f (a ++ b) ≡ all_found f a ++ all_found f b
all_found-append f [] b = refl
all_found-append f (x ∷ a) b = ap (λ l. f x ++ l) (all_found-append f a b) ∙ sym (append_assoc (f x) (all_found f a) (all_found f b))
