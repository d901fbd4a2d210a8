-- What is measured of slots, once one of them has changed.
use Rattle.std.proofs.Common.{◌≡◌, ◌<◌, ◌≤◌, ℕ, zero, suc, arith, ◌+◌, ◌*◌, List, [], ◌∷◌, length, set, get_or, replicate, refl, subst, ap}
use Rattle.std.proofs.Common.{sym, ◌∙◌}
use Rattle.std.proofs.lemmas.List.Sums.{sum_by-set, sum_by-cons}
use Rattle.std.proofs.lemmas.List.{map-set, length-set, length-map, length-replicate}
use Rattle.std.proofs.Math.ListN.{get_or-map}
use Rattle.gq_tariff.specs.Prices.{class_size}
use Rattle.gq_model.specs.machine.Amounts as amounts
use Rattle.gq_model.specs.rules.Kinds as kinds
use Rattle.gq_caps.specs.Measured.{total_of, measured, limit_of, AreFew}
use Rattle.gq_caps.specs.internal.Totalled.{weight, IsSmall, AreSmall, IsTotalled}
use Rattle.gq_caps.specs.Known.{known, all_known}
use Rattle.gq_caps.specs.declared.kind.Kind.{Kind}
use Rattle.gq_caps.specs.declared.kind.Kind.TheVariants.{Empty}
use Rattle.gq_caps.specs.declared.totals.Measure.{Measure}
use Rattle.gq_caps.specs.declared.totals.Measure.TheVariants.{Ram, Caps, Places}
use Rattle.gq_caps.specs.declared.totals.Totals.{Totals}

-- the sum changes by the one slot that has changed
pub measured_set : (m : Measure) (ks : List kinds.Kind) (i : ℕ) (y d : kinds.Kind) → i < length ks →
    measured m (set ks i y) + weight m (get_or ks i d) ≡ measured m ks + weight m y
measured_set Ram ks i y d h =
    let a = sum_by-set (kinds.kind_price amounts.Ram) ks i y d h in
    let b = sum_by-set (kinds.kind_lent amounts.Ram) ks i y d h in omega (arith, a, b)
measured_set Caps ks i y d h =
    let a = sum_by-set (kinds.kind_price amounts.Caps) ks i y d h in
    let b = sum_by-set (kinds.kind_lent amounts.Caps) ks i y d h in omega (arith, a, b)
measured_set (Places class) ks i y d h = sum_by-set (kinds.kind_places (class_size class)) ks i y d h

-- one slot and the others
pub measured_cons : (m : Measure) (k : kinds.Kind) (ks : List kinds.Kind) → measured m (k ∷ ks) ≡ weight m k + measured m ks
measured_cons Ram k ks =
    let a = sum_by-cons (kinds.kind_price amounts.Ram) k ks in
    let b = sum_by-cons (kinds.kind_lent amounts.Ram) k ks in omega (arith, a, b)
measured_cons Caps k ks =
    let a = sum_by-cons (kinds.kind_price amounts.Caps) k ks in
    let b = sum_by-cons (kinds.kind_lent amounts.Caps) k ks in omega (arith, a, b)
measured_cons (Places class) k ks = sum_by-cons (kinds.kind_places (class_size class)) k ks

pub measured_none : (m : Measure) → measured m [] ≡ 0
measured_none Ram = refl
measured_none Caps = refl
measured_none (Places class) = refl

one_more : (all w rest n l : ℕ) → all ≡ w + rest → w ≤ l → rest ≤ n * l → all ≤ suc n * l
one_more all w rest n l e here h = omega (arith, e, here, h)

at_most_64 : (t n l : ℕ) → t ≤ n * l → n ≤ 64 → t ≤ 64 * l
at_most_64 t n l h few = mul_trans few h where
  mul_trans : n ≤ 64 → t ≤ n * l → t ≤ 64 * l
  mul_trans a b = let k : n * l ≤ 64 * l = grind (arith) in omega (arith, k, b)

-- small slots have small sums
pub sum_small : (m : Measure) (ks : List kinds.Kind) → AreSmall ks → measured m ks ≤ length ks * limit_of m
sum_small m [] h = let e = measured_none m in omega (arith, e)
sum_small m (k ∷ ks) h =
    let e = measured_cons m k ks in
    let here = h.0 m in
    let rest = sum_small m ks h.1 in one_more (measured m (k ∷ ks)) (weight m k) (measured m ks) (length ks) (limit_of m) e here rest

-- one slot weighs no more than all
pub weight_le : (m : Measure) (ks : List kinds.Kind) (i : ℕ) (d : kinds.Kind) → i < length ks → weight m (get_or ks i d) ≤ measured m ks
weight_le m [] i d h = omega (arith, h)
weight_le m (k ∷ ks) zero d h = let e = measured_cons m k ks in omega (arith, e)
weight_le m (k ∷ ks) (suc i) d h =
    let e = measured_cons m k ks in
    let rest = weight_le m ks i d (omega (arith, h)) in omega (arith, e, rest)

pub small_set : (ks : List kinds.Kind) (i : ℕ) (y : kinds.Kind) → AreSmall ks → IsSmall y → AreSmall (set ks i y)
small_set [] i y h s = h
small_set (k ∷ ks) zero y h s = (s, h.1)
small_set (k ∷ ks) (suc i) y h s = (h.0, small_set ks i y h.1 s)

empty_weighs : (m : Measure) → weight m kinds.Empty_kind ≡ 0
empty_weighs Ram = refl
empty_weighs Caps = refl
empty_weighs (Places class) = refl

empty_small : IsSmall kinds.Empty_kind
empty_small m = let e = empty_weighs m in let z : 0 ≤ limit_of m = omega arith in omega (arith, e, z)

pub small_empty : (n : ℕ) → AreSmall (replicate n kinds.Empty_kind)
small_empty zero = tt
small_empty (suc n) = (empty_small, small_empty n)

pub measured_empty : (m : Measure) (n : ℕ) → measured m (replicate n kinds.Empty_kind) ≡ 0
measured_empty m zero = measured_none m
measured_empty m (suc n) =
    let e = measured_cons m kinds.Empty_kind (replicate n kinds.Empty_kind) in
    let z = empty_weighs m in
    let rest = measured_empty m n in omega (arith, e, z, rest)

-- a slot weighs no more than all of them
pub gone_le : (ks : List Kind) (i : ℕ) (d : Kind) (t : Totals) → i < length ks → IsTotalled ks t → (m : Measure) →
    weight m (known (get_or ks i d)) ≤ total_of t m
gone_le ks i d t less h m =
    let len = length-map ks known in
    let a = weight_le m (all_known ks) i (known d) (omega (arith, less, len)) in
    let w = ap (weight m) (get_or-map known ks i d) in
    omega (arith, a, w, h.sums m)

-- all sums are small
pub small_sums : (ks : List Kind) (t : Totals) → IsTotalled ks t → AreFew t
small_sums ks t h m =
    let a = sum_small m (all_known ks) h.small in
    let len = length-map ks known in
    let b : total_of t m ≤ length ks * limit_of m =
    subst (λ n. total_of t m ≤ n * limit_of m) len (subst (λ n. n ≤ length (all_known ks) * limit_of m) (sym (h.sums m)) a) in
    at_most_64 (total_of t m) (length ks) (limit_of m) b h.few

-- the sums once a slot has changed
pub totals_set : (ks : List Kind) (i : ℕ) (y d : Kind) (t r : Totals) → i < length ks → IsTotalled ks t → IsSmall (known y) →
    ((m : Measure) → total_of r m + weight m (known (get_or ks i d)) ≡ total_of t m + weight m (known y)) → IsTotalled (set ks i y) r
totals_set ks i y d t r less h s e = record {
  few = omega (arith, h.few, length-set ks i y);
  small = subst AreSmall (sym (map-set known ks i y)) (small_set (all_known ks) i (known y) h.small s);
  sums = λ m. by m ∙ ap (measured m) (sym (map-set known ks i y));
} where
  by : (m : Measure) → total_of r m ≡ measured m (set (all_known ks) i (known y))
  by m =
      let len = length-map ks known in
      let a = measured_set m (all_known ks) i (known y) (known d) (omega (arith, less, len)) in
      let w = ap (weight m) (get_or-map known ks i d) in
      omega (arith, a, w, h.sums m, e m)

-- no slot is in use
pub totals_new : (n : ℕ) (ks : List Kind) (t : Totals) → n ≤ 64 → length ks ≡ n → all_known ks ≡ replicate n kinds.Empty_kind →
    ((m : Measure) → total_of t m ≡ 0) → IsTotalled ks t
totals_new n ks t few len e z = record {
  few = omega (arith, few, len);
  small = subst AreSmall (sym e) (small_empty n);
  sums = λ m. z m ∙ (sym (measured_empty m n) ∙ ap (measured m) (sym e));
}

known_empty : (n : ℕ) → all_known (replicate n Empty) ≡ replicate n kinds.Empty_kind
known_empty zero = refl
known_empty (suc n) = ap (λ (ks : List kinds.Kind). kinds.Empty_kind ∷ ks) (known_empty n)

pub totals_of_empty : (n : ℕ) (t : Totals) → n ≤ 64 → ((m : Measure) → total_of t m ≡ 0) → IsTotalled (replicate n Empty) t
totals_of_empty n t few z = totals_new n (replicate n Empty) t few (length-replicate n Empty) (known_empty n) z
