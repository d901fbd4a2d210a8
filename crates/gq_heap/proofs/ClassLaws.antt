-- The classes by number.
use Rattle.std.proofs.Common.{◌≡◌, ℕ, zero, suc, ◌-◌, ◌*◌, ◌%◌, ◌^◌, ◌<◌, ◌≤◌, Bool, true, false, ltb, cond, [], ◌∷◌, get_or, refl, sym, ap, ◌∙◌, arith}
use Rattle.std.proofs.lemmas.Bool.Decides.{nat_tests}
use Rattle.gq_tariff.specs.Prices.{classes, class_size, size_for}
use Rattle.gq_tariff.specs.declared.class.Class.{Class}
use Rattle.gq_tariff.specs.declared.class.Class.TheVariants.{Bytes16, Bytes32, Bytes64, Bytes128, Bytes256, Bytes512, Bytes1024, Bytes2048}
use Rattle.gq_heap.specs.internal.Chain.{IsSize}
use Rattle.gq_heap.specs.Classes.{index_of, size_at, places_at, too_small, class_for}

-- each class fills a chunk with its places
pub sizes : (i : ℕ) → i < 8 → IsSize (size_at i) (places_at i)
unfolding size_at places_at
sizes zero h = record { whole = refl; words = refl; least = omega arith }
sizes (suc zero) h = record { whole = refl; words = refl; least = omega arith }
sizes (suc (suc zero)) h = record { whole = refl; words = refl; least = omega arith }
sizes (suc (suc (suc zero))) h = record { whole = refl; words = refl; least = omega arith }
sizes (suc (suc (suc (suc zero)))) h = record { whole = refl; words = refl; least = omega arith }
sizes (suc (suc (suc (suc (suc zero))))) h = record { whole = refl; words = refl; least = omega arith }
sizes (suc (suc (suc (suc (suc (suc zero)))))) h = record { whole = refl; words = refl; least = omega arith }
sizes (suc (suc (suc (suc (suc (suc (suc zero))))))) h = record { whole = refl; words = refl; least = omega arith }
sizes (suc (suc (suc (suc (suc (suc (suc (suc i)))))))) h = absurd (omega arith)

-- a chunk has a power of two of them
pub places_power : (i : ℕ) → i < 8 → places_at i ≡ 2 ^ (8 - i)
unfolding places_at
places_power zero h = refl
places_power (suc zero) h = refl
places_power (suc (suc zero)) h = refl
places_power (suc (suc (suc zero))) h = refl
places_power (suc (suc (suc (suc zero)))) h = refl
places_power (suc (suc (suc (suc (suc zero))))) h = refl
places_power (suc (suc (suc (suc (suc (suc zero)))))) h = refl
places_power (suc (suc (suc (suc (suc (suc (suc zero))))))) h = refl
places_power (suc (suc (suc (suc (suc (suc (suc (suc i)))))))) h = absurd (omega arith)

-- the bytes of a place, as the code computes them
pub size_shifted : (i : ℕ) → i < 8 → 16 * 2 ^ i % 4294967296 ≡ size_at i
unfolding size_at
size_shifted zero h = refl
size_shifted (suc zero) h = refl
size_shifted (suc (suc zero)) h = refl
size_shifted (suc (suc (suc zero))) h = refl
size_shifted (suc (suc (suc (suc zero)))) h = refl
size_shifted (suc (suc (suc (suc (suc zero))))) h = refl
size_shifted (suc (suc (suc (suc (suc (suc zero)))))) h = refl
size_shifted (suc (suc (suc (suc (suc (suc (suc zero))))))) h = refl
size_shifted (suc (suc (suc (suc (suc (suc (suc (suc i)))))))) h = absurd (omega arith)

-- there are eight
pub index_below : (c : Class) → index_of c < 8
index_below Bytes16 = omega arith
index_below Bytes32 = omega arith
index_below Bytes64 = omega arith
index_below Bytes128 = omega arith
index_below Bytes256 = omega arith
index_below Bytes512 = omega arith
index_below Bytes1024 = omega arith
index_below Bytes2048 = omega arith

pub size_is : (c : Class) → class_size c ≡ size_at (index_of c)
unfolding size_at
size_is Bytes16 = refl
size_is Bytes32 = refl
size_is Bytes64 = refl
size_is Bytes128 = refl
size_is Bytes256 = refl
size_is Bytes512 = refl
size_is Bytes1024 = refl
size_is Bytes2048 = refl

number_of_size : (c : Class) → too_small classes (class_size c) ≡ index_of c
number_of_size Bytes16 = refl
number_of_size Bytes32 = refl
number_of_size Bytes64 = refl
number_of_size Bytes128 = refl
number_of_size Bytes256 = refl
number_of_size Bytes512 = refl
number_of_size Bytes1024 = refl
number_of_size Bytes2048 = refl

abbrev size_by : (a b c d e f g h : Bool) → ℕ
size_by a b c d e f g h =
    cond a (cond b (cond c (cond d (cond e (cond f (cond g (cond h 0 2048) 1024) 512) 256) 128) 64) 32) 16

abbrev number_by : (a b c d e f g h : Bool) → ℕ
number_by a b c d e f g h =
    cond a (suc (cond b (suc (cond c (suc (cond d (suc (cond e (suc (cond f (suc (cond g (suc (cond h 1 0)) 0)) 0)) 0)) 0)) 0)) 0)) 0

same_number : (a b c d e f g h : Bool) → h ≡ false → too_small classes (size_by a b c d e f g h) ≡ number_by a b c d e f g h
same_number false b c d e f g h l = refl
same_number true false c d e f g h l = refl
same_number true true false d e f g h l = refl
same_number true true true false e f g h l = refl
same_number true true true true false f g h l = refl
same_number true true true true true false g h l = refl
same_number true true true true true true false h l = refl
same_number true true true true true true true false l = refl
same_number true true true true true true true true l = absurd (cc)

-- the class of n's size has n's number
pub number_is : (c : Class) (n : ℕ) → n ≤ 2048 → class_size c ≡ size_for n → index_of c ≡ class_for n
number_is c n h e =
    let most : ltb 2048 n ≡ false = grind (arith, nat_tests) in
    sym (number_of_size c) ∙ ap (too_small classes) e
    ∙ same_number (ltb 16 n) (ltb 32 n) (ltb 64 n) (ltb 128 n) (ltb 256 n) (ltb 512 n) (ltb 1024 n) (ltb 2048 n) most

-- the sizes in the order of the classes
pub size_in_order : (i : ℕ) → i < 8
    → class_size (get_or (Bytes16 ∷ Bytes32 ∷ Bytes64 ∷ Bytes128 ∷ Bytes256 ∷ Bytes512 ∷ Bytes1024 ∷ Bytes2048 ∷ []) i Bytes16) ≡ size_at i
unfolding size_at
size_in_order zero h = refl
size_in_order (suc zero) h = refl
size_in_order (suc (suc zero)) h = refl
size_in_order (suc (suc (suc zero))) h = refl
size_in_order (suc (suc (suc (suc zero)))) h = refl
size_in_order (suc (suc (suc (suc (suc zero))))) h = refl
size_in_order (suc (suc (suc (suc (suc (suc zero)))))) h = refl
size_in_order (suc (suc (suc (suc (suc (suc (suc zero))))))) h = refl
size_in_order (suc (suc (suc (suc (suc (suc (suc (suc i)))))))) h = absurd (omega arith)
