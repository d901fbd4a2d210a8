-- How many places of a class a content has in use, by the definition and in the heap.
use Rattle.std.proofs.Common.{◌≡◌, ℕ, suc, ◌<◌, ◌≤◌, inl, inr, Bool, true, false, cond, eqb, List, [], ◌∷◌, length, map, Option, Some, None, refl, sym, ap}
use Rattle.std.proofs.Common.{◌∙◌, arith}
use Rattle.std.specs.Prelude.{is_some}
use Rattle.std.specs.List.{count_by}
use Rattle.std.proofs.lemmas.Bool.{cases_eq}
use Rattle.std.proofs.lemmas.Bool.Decides.{nat_tests}
use Rattle.std.proofs.lemmas.List.Sums.{sum_by-cons}
use Rattle.gq_tariff.specs.Prices.{class_size, size_for}
use Rattle.gq_tariff.specs.declared.class.Class.{Class}
use Rattle.gq_tariff.specs.declared.class.Class.TheVariants.{Bytes16, Bytes32, Bytes64, Bytes128, Bytes256, Bytes512, Bytes1024, Bytes2048}
use Rattle.gq_model.specs.machine.Sums.{slot_places}
use Rattle.gq_store.specs.Store.{Store}
use Rattle.gq_store.specs.Chunk_bytes.{listed}
use Rattle.gq_heap.specs.declared.heap.Place.TheVariants.{Small, Large}
use Rattle.gq_heap.specs.Classes.{index_of, size_at}
use Rattle.gq_heap.specs.Heap.{numbers, byte_of}
use Rattle.gq_heap.proofs.ClassLaws.{size_is, number_is}
use Rattle.gq_heap.proofs.Heap_cell_lists.{eqb_other}
use Rattle.gq_pool.specs.declared.pool.Pool as pool
use Rattle.gq_pool.specs.Pools.{places_of, held_of, entry_bytes}
use Rattle.gq_contents.specs.declared.content.Content.{Content}
use Rattle.gq_contents.specs.declared.content.Content.TheVariants.{Empty, Block, Slice, Space, Pool, Link, Waiting}
use Rattle.gq_contents.specs.Contents.{seen, places, IsContent}

-- a class is that of its size
size_back : (c : Class) → class_size c ≡ size_for (class_size c)
size_back Bytes16 = refl
size_back Bytes32 = refl
size_back Bytes64 = refl
size_back Bytes128 = refl
size_back Bytes256 = refl
size_back Bytes512 = refl
size_back Bytes1024 = refl
size_back Bytes2048 = refl

size_small : (c : Class) → class_size c ≤ 2048
size_small Bytes16 = omega arith
size_small Bytes32 = omega arith
size_small Bytes64 = omega arith
size_small Bytes128 = omega arith
size_small Bytes256 = omega arith
size_small Bytes512 = omega arith
size_small Bytes1024 = omega arith
size_small Bytes2048 = omega arith

size_reports : (a b : Class) → class_size a ≡ class_size b → index_of a ≡ index_of b
size_reports a b e =
    number_is a (class_size a) (size_small a) (size_back a) ∙ sym (number_is b (class_size a) (size_small a) (sym e ∙ size_back a))

same_both : (i j k l : ℕ) → i ≡ j → k ≡ l → eqb i j ≡ eqb k l
same_both i j k l p q = grind (arith, nat_tests)

same_class : (a b : Class) → eqb (index_of a) (index_of b) ≡ eqb (class_size a) (class_size b)
same_class a b = elim (cases_eq (index_of a) (index_of b)) [
  | inl e ↦ same_both (index_of a) (index_of b) (class_size a) (class_size b) e (size_is a ∙ ap size_at e ∙ sym (size_is b))
  | inr ne ↦ eqb_other (index_of a) (index_of b) ne ∙ sym (eqb_other (class_size a) (class_size b) (λ e. ne (size_reports a b e)))
]

no_class : (a : Class) → eqb 0 (class_size a) ≡ false
no_class Bytes16 = refl
no_class Bytes32 = refl
no_class Bytes64 = refl
no_class Bytes128 = refl
no_class Bytes256 = refl
no_class Bytes512 = refl
no_class Bytes1024 = refl
no_class Bytes2048 = refl

size_large : (n : ℕ) → 2048 < n → size_for n ≡ 0
size_large n h = grind (arith, nat_tests)

one_some : {A : Type 0} (x : A) (xs : List (Option A)) → count_by is_some (Some x ∷ xs) ≡ suc (count_by is_some xs)
one_some x xs = sum_by-cons (λ o. cond (is_some o) 1 0) (Some x) xs ∙ omega arith

no_some : {A : Type 0} (xs : List (Option A)) → count_by is_some (None ∷ xs) ≡ count_by is_some xs
no_some xs = sum_by-cons (λ o. cond (is_some o) 1 0) None xs ∙ omega arith

zero_both : (b : Bool) → ◌≡◌ {A = ℕ} 0 (cond b 0 0)
zero_both true = refl
zero_both false = refl

one_more_if : (b : Bool) (q m : ℕ) (qs : List ℕ) → length qs ≡ cond b m 0 → length (cond b (q ∷ qs) qs) ≡ cond b (suc m) 0
one_more_if true q m qs e = ap suc e
one_more_if false q m qs e = e

some_held : (a c : Class) (held : List (Option ℕ))
    → length (numbers (index_of c) (places_of a held)) ≡ cond (eqb (index_of a) (index_of c)) (count_by is_some held) 0
some_held a c [] = zero_both (eqb (index_of a) (index_of c))
some_held a c (None ∷ held) = some_held a c held ∙ ap (λ m. cond (eqb (index_of a) (index_of c)) m 0) (sym (no_some held))
some_held a c (Some q ∷ held) =
    one_more_if (eqb (index_of a) (index_of c)) q (count_by is_some held) (numbers (index_of c) (places_of a held)) (some_held a c held)
    ∙ ap (λ m. cond (eqb (index_of a) (index_of c)) m 0) (sym (one_some q held))

some_seen : (p : pool.Pool) (st : Store) (held : List (Option ℕ)) → count_by is_some (map (entry_bytes p st) held) ≡ count_by is_some held
some_seen p st [] = refl
some_seen p st (None ∷ held) = no_some (map (entry_bytes p st) held) ∙ some_seen p st held ∙ sym (no_some held)
some_seen p st (Some q ∷ held) = one_some (listed p.size (byte_of st (Small p.class q))) (map (entry_bytes p st) held) ∙ ap suc (some_seen p st held)
    ∙ sym (one_some q held)

one_if : (b : Bool) (q : ℕ) → length (cond b (q ∷ []) []) ≡ cond b 1 0
one_if true q = refl
one_if false q = refl

pub count_is : (st : Store) (t : Content) (c : Class) → IsContent st t → length (numbers (index_of c) (places st t)) ≡ slot_places (class_size c) (seen st t)
count_is st Empty c is = refl
count_is st (Block (Small a q) n) c is =
    one_if (eqb (index_of a) (index_of c)) q ∙ ap (λ b. cond b 1 0) (same_class a c ∙ ap (λ m. eqb m (class_size c)) is.0.1)
count_is st (Block (Large k m) n) c is = ap (λ b. cond b 1 0) (sym (ap (λ m. eqb m (class_size c)) (size_large n is.0.0) ∙ no_class c))
count_is st (Slice k n) c is = refl
count_is st (Space k n) c is = refl
count_is st (Link k) c is = refl
count_is st (Waiting k) c is = refl
count_is st (Pool p) c is =
    some_held p.class c (held_of p st) ∙ (λ k. cond (same_class p.class c k) (sym (some_seen p st (held_of p st)) k) 0)
    ∙ ap (λ m. cond (eqb m (class_size c)) (count_by is_some (map (entry_bytes p st) (held_of p st))) 0) is.class
