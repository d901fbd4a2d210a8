-- Numbers: places in a chunk, and bytes in whole pages.
use Rattle.std.proofs.Common.{◌≡◌, ℕ, zero, suc, ◌+◌, ◌*◌, ◌/◌, ◌%◌, ◌<◌, ◌≤◌, ◌⊎◌, inl, inr, sym, ap, ◌∙◌, arith}
use Rattle.std.proofs.Math.Nat.{mul-le-mul_left, mul-le-mul_right, le_of_mul-le-mul_left, mul-mod_left, mod-lt, div-add-mod}
use Rattle.std.proofs.lemmas.Bool.{cases_order}
use Rattle.gq_heap.specs.internal.Chain.{IsSize}
use Rattle.gq_tariff.specs.Prices.{up}

pub price_mono : (z m n : ℕ) → m ≤ n → up (z * m) ≤ up (z * n)
price_mono z m n h = omega (arith, mul-le-mul_left z h)

some_places : (z p : ℕ) → z * p ≡ 4096 → 0 < p
some_places z zero e = absurd (omega arith)
some_places z (suc p) e = omega arith

module _ (z p : ℕ) (s : IsSize z p) where
  pub places_pos : 0 < p
  places_pos = some_places z p s.whole

  pub places_few : p ≤ 256
  places_few = omega (arith, s.whole, mul-le-mul_right p s.least)

  pub size_few : z ≤ 4096
  size_few = let h : 1 ≤ p = places_pos in omega (arith, s.whole, mul-le-mul_left z h)

  pub cell_aligned : (i : ℕ) → i * z % 4 ≡ 0
  cell_aligned i =
      let w : z ≡ z / 4 * 4 = omega (arith, s.words) in
      let e : i * z ≡ i * (z / 4) * 4 = omega (arith, ap (λ m. i * m) w) in
      ap (λ m. m % 4) e ∙ mul-mod_left (i * (z / 4)) 4

  pub cells_apart : (i j : ℕ) → i < j → i * z + z ≤ j * z
  cells_apart i j h = omega (arith, mul-le-mul_right z h)

  pub cell_inside : (i : ℕ) → i < p → i * z + z ≤ 4096
  cell_inside i h = omega (arith, s.whole, cells_apart i p h)

  pub place_inside : (q : ℕ) → q % p * z + z ≤ 4096
  place_inside q = cell_inside (q % p) (mod-lt q places_pos)

  -- two places of one chunk are apart
  pub places_apart : (q r : ℕ) → (q ≡ r → ⊥) → q / p ≡ r / p → (q % p * z + z ≤ r % p * z) ⊎ (r % p * z + z ≤ q % p * z)
  places_apart q r other same = elim (cases_order (q % p) (r % p)) [
    | inl e ↦ absurd (other (sym (div-add-mod q p) ∙ ap (λ m. p * m + q % p) same ∙ ap (λ m. p * (r / p) + m) e ∙ div-add-mod r p))
    | inr (inl lt) ↦ inl (cells_apart (q % p) (r % p) lt)
    | inr (inr gt) ↦ inr (cells_apart (r % p) (q % p) gt)
  ]

  pub full : (n L : ℕ) → up (z * n) ≡ 4096 * L → n ≤ p * L
  full n L e =
      let a : z * n ≤ z * (p * L) = omega (arith, ap (λ m. m * L) s.whole) in
      let pos : 0 < z = omega (arith, s.least) in
      le_of_mul-le-mul_left a pos

  -- the price stays as long as the chunks have room
  pub up_between : (n m L : ℕ) → up (z * n) ≡ 4096 * L → n ≤ m → m ≤ p * L → up (z * m) ≡ 4096 * L
  up_between n m L e a b =
      omega (arith, ap (λ x. x * L) s.whole, mul-le-mul_left z a, mul-le-mul_left z b)

  -- one place more than the chunks have takes one page more
  pub up_next : (L : ℕ) → up (z * (p * L + 1)) ≡ 4096 * L + 4096
  up_next L = omega (arith, ap (λ x. x * L) s.whole, s.least, size_few)
