-- Sums over lists, where a term may know its item's number.
use Rattle.std.proofs.Common.{◌≡◌, ◌≢◌, ℕ, zero, suc, ◌+◌, List, [], ◌∷◌, Some, refl, ap, sym, ◌∙◌, arith}
use Rattle.std.specs.Prelude.{slice_get, sum_by}
use Rattle.std.proofs.lemmas.List.Sums.{sum_by-cons}
use Rattle.gq_laws.specs.internal.Lending.{sum_numbered}
use Rattle.gq_model.proofs.Small_facts.{some_same, none_some, add_none, add_next}

module _ {A : Type 0} where
  pub sum_same : (f g : A → ℕ) (items : List A) → ((k : ℕ) (a : A) → slice_get items k ≡ Some a → f a ≡ g a) → sum_by f items ≡ sum_by g items
  sum_same f g [] h = refl
  sum_same f g (a ∷ rest) h =
      let here = h zero a refl in
      let further = sum_same f g rest (λ k b e. h (suc k) b e) in
      omega (arith, here, further, sum_by-cons f a rest, sum_by-cons g a rest)

  pub sum_add : (f g : A → ℕ) (items : List A) → sum_by (λ a. f a + g a) items ≡ sum_by f items + sum_by g items
  sum_add f g [] = refl
  sum_add f g (a ∷ rest) =
      let further = sum_add f g rest in
      omega (arith, further, sum_by-cons (λ a. f a + g a) a rest, sum_by-cons f a rest, sum_by-cons g a rest)

  pub sum_zero : (f : A → ℕ) (items : List A) → ((k : ℕ) (a : A) → slice_get items k ≡ Some a → f a ≡ 0) → sum_by f items ≡ 0
  sum_zero f [] h = refl
  sum_zero f (a ∷ rest) h = let here = h zero a refl in let further = sum_zero f rest (λ k b e. h (suc k) b e) in
      omega (arith, here, further, sum_by-cons f a rest)

  -- one term alone is not 0
  pub sum_one : (f : A → ℕ) (items : List A) (k : ℕ) (a : A) → slice_get items k ≡ Some a → ((j : ℕ) (b : A) → slice_get items j ≡ Some b → j ≢ k → f b ≡ 0)
      → sum_by f items ≡ f a
  sum_one f [] k a e h = absurd (none_some e)
  sum_one f (b ∷ rest) zero a e h =
      let here = ap f (some_same e) in
      let further = sum_zero f rest (λ j c g. h (suc j) c g (λ q. omega (arith, q))) in
      omega (arith, here, further, sum_by-cons f b rest)
  sum_one f (b ∷ rest) (suc k) a e h =
      let here = h zero b refl (λ q. omega (arith, q)) in
      let further = sum_one f rest k a e (λ j c g ne. h (suc j) c g (λ q. ne (omega (arith, q)))) in
      omega (arith, here, further, sum_by-cons f b rest)

  -- the same for numbered items
  pub numbered_zero : (f : ℕ → A → ℕ) (n : ℕ) (items : List A) → ((k : ℕ) (a : A) → slice_get items k ≡ Some a → f (n + k) a ≡ 0) → sum_numbered f n items ≡ 0
  numbered_zero f n [] h = refl
  numbered_zero f n (a ∷ rest) h =
      let here = ap (λ m. f m a) (add_none n) ∙ h zero a refl in
      let further = numbered_zero f (suc n) rest (λ k b e. ap (λ m. f m b) (add_next n k) ∙ h (suc k) b e) in
      omega (arith, here, further)

  pub numbered_one : (f : ℕ → A → ℕ) (n : ℕ) (items : List A) (k : ℕ) (a : A) → slice_get items k ≡ Some a
      → ((j : ℕ) (b : A) → slice_get items j ≡ Some b → j ≢ k → f (n + j) b ≡ 0) → sum_numbered f n items ≡ f (n + k) a
  numbered_one f n [] k a e h = absurd (none_some e)
  numbered_one f n (b ∷ rest) zero a e h =
      let here : f n b ≡ f (n + 0) a = (λ i. f (add_none n i) (some_same e i)) in
      let further = numbered_zero f (suc n) rest (λ j c g. ap (λ m. f m c) (add_next n j) ∙ h (suc j) c g (λ q. omega (arith, q))) in
      omega (arith, here, further)
  numbered_one f n (b ∷ rest) (suc k) a e h =
      let here = ap (λ m. f m b) (add_none n) ∙ h zero b refl (λ q. omega (arith, q)) in
      let further = numbered_one f (suc n) rest k a e (λ j c g ne. ap (λ m. f m c) (add_next n j) ∙ h (suc j) c g (λ q. ne (omega (arith, q)))) in
      let at = ap (λ m. f m a) (add_next n k) in
      omega (arith, here, further, at)

  pub numbered_same : (f g : ℕ → A → ℕ) (n : ℕ) (items : List A) → ((k : ℕ) (a : A) → slice_get items k ≡ Some a → f (n + k) a ≡ g (n + k) a)
      → sum_numbered f n items ≡ sum_numbered g n items
  numbered_same f g n [] h = refl
  numbered_same f g n (a ∷ rest) h =
      let here = ap (λ m. f m a) (add_none n) ∙ (h zero a refl ∙ ap (λ m. g m a) (sym (add_none n))) in
      let further = numbered_same f g (suc n) rest (λ k b e. ap (λ m. f m b) (add_next n k) ∙ (h (suc k) b e ∙ ap (λ m. g m b) (sym (add_next n k)))) in
      omega (arith, here, further)

  pub numbered_add : (f g : ℕ → A → ℕ) (n : ℕ) (items : List A) → sum_numbered (λ k a. f k a + g k a) n items ≡ sum_numbered f n items + sum_numbered g n items
  numbered_add f g n [] = refl
  numbered_add f g n (a ∷ rest) = let further = numbered_add f g (suc n) rest in omega (arith, further)

  -- where the number does not matter
  pub numbered_plain : (f : A → ℕ) (n : ℕ) (items : List A) → sum_numbered (λ k a. f a) n items ≡ sum_by f items
  numbered_plain f n [] = refl
  numbered_plain f n (a ∷ rest) = let further = numbered_plain f (suc n) rest in omega (arith, further, sum_by-cons f a rest)

-- sums can be taken in either order
pub sums_swap : {A B : Type 0} (g : ℕ → A → B → ℕ) (n : ℕ) (items : List A) (others : List B)
    → sum_by (λ b. sum_numbered (λ k a. g k a b) n items) others ≡ sum_numbered (λ k a. sum_by (g k a) others) n items
sums_swap g n items [] = sym (numbered_zero (λ k a. sum_by (g k a) []) n items (λ k a e. refl))
sums_swap g n items (b ∷ rest) =
    let further = sums_swap g n items rest in
    let both = numbered_add (λ k a. g k a b) (λ k a. sum_by (g k a) rest) n items in
    let each = numbered_same (λ k a. sum_by (g k a) (b ∷ rest)) (λ k a. g k a b + sum_by (g k a) rest) n items (λ k a e. sum_by-cons (g (n + k) a) b rest) in
    omega (arith, further, both, each, sum_by-cons (λ b. sum_numbered (λ k a. g k a b) n items) b rest)
