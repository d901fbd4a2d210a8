-- Lists of places.
use Rattle.std.proofs.Common.{◌≡◌, ℕ, ◌+◌, ◌*◌, ◌<◌, ◌≤◌, inl, inr, List, [], ◌∷◌, ◌++◌, length, length-append, cond, Bool, true, false, eqb, refl, sym, ap}
use Rattle.std.proofs.Common.{subst, ◌∙◌, arith}
use Rattle.std.proofs.lemmas.Bool.{cases_eq}
use Rattle.std.proofs.lemmas.Bool.Decides.{nat_tests}
use Rattle.gq_store.specs.Store.{Store}
use Rattle.gq_tariff.specs.declared.class.Class.{Class}
use Rattle.gq_heap.specs.declared.heap.Place.{Place}
use Rattle.gq_heap.specs.declared.heap.Place.TheVariants.{Small, Large}
use Rattle.gq_heap.specs.List_occurrences.{times}
use Rattle.gq_heap.specs.internal.Chain.{Adds}
use Rattle.gq_heap.specs.Classes.{index_of}
use Rattle.gq_tariff.specs.Prices.{up}
use Rattle.gq_heap.specs.Heap.{numbers, large_chunks, large_price, AreLarge, Inserts}
use Rattle.gq_heap.proofs.Free_cell_chains.{times_same}

pub eqb_same : (i : ℕ) → eqb i i ≡ true
eqb_same i = grind (arith, nat_tests)

pub eqb_other : (i j : ℕ) → (i ≡ j → ⊥) → eqb i j ≡ false
eqb_other i j h = grind (arith, nat_tests)

-- a for the number i, and f for the others
abbrev pub put : {A : Type 0} → ℕ → A → (ℕ → A) → ℕ → A
put i a f j = cond (eqb j i) a (f j)

pub put_same : {A : Type 0} (i : ℕ) (a : A) (f : ℕ → A) → put i a f i ≡ a
put_same i a f = ap (λ b. cond b a (f i)) (eqb_same i)

pub put_other : {A : Type 0} (i : ℕ) (a : A) (f : ℕ → A) (j : ℕ) → (j ≡ i → ⊥) → put i a f j ≡ f j
put_other i a f j h = ap (λ b. cond b a (f j)) (eqb_other j i h)

pub times-append : (x : ℕ) (xs ys : List ℕ) → times x (xs ++ ys) ≡ times x xs + times x ys
times-append x [] ys = omega arith
times-append x (y ∷ xs) ys = omega (arith, times-append x xs ys)

pub adds_at : (x : ℕ) (xs ys : List ℕ) → Adds x (xs ++ ys) (xs ++ x ∷ ys)
adds_at x xs ys = record {
  each = λ y. omega (arith, times-append y xs (x ∷ ys), times-append y xs ys);
  long = omega (arith, length-append xs (x ∷ ys), length-append xs ys);
}

numbers_cond : (b : Bool) (n : ℕ) (xs ys : List ℕ) → cond b (n ∷ (xs ++ ys)) (xs ++ ys) ≡ cond b (n ∷ xs) xs ++ ys
numbers_cond true n xs ys = refl
numbers_cond false n xs ys = refl

pub numbers-append : (i : ℕ) (ps qs : List Place) → numbers i (ps ++ qs) ≡ numbers i ps ++ numbers i qs
numbers-append i [] qs = refl
numbers-append i (Small c n ∷ ps) qs = ap (λ xs. cond (eqb (index_of c) i) (n ∷ xs) xs) (numbers-append i ps qs) ∙ numbers_cond (eqb (index_of c) i) n
    (numbers i ps) (numbers i qs)
numbers-append i (Large k n ∷ ps) qs = numbers-append i ps qs

pub large_chunks-append : (ps qs : List Place) → large_chunks (ps ++ qs) ≡ large_chunks ps ++ large_chunks qs
large_chunks-append [] qs = refl
large_chunks-append (Small c n ∷ ps) qs = large_chunks-append ps qs
large_chunks-append (Large k n ∷ ps) qs = ap (λ xs. k ∷ xs) (large_chunks-append ps qs)

pub large_price-append : (ps qs : List Place) → large_price (ps ++ qs) ≡ large_price ps + large_price qs
large_price-append [] qs = omega arith
large_price-append (Small c n ∷ ps) qs = large_price-append ps qs
large_price-append (Large k n ∷ ps) qs = omega (arith, large_price-append ps qs)

-- ---- a small place more
small_numbers : (i : ℕ) (c : Class) (q : ℕ) (prefix back : List Place)
    → numbers i (prefix ++ Small c q ∷ back) ≡ numbers i prefix ++ cond (eqb (index_of c) i) (q ∷ numbers i back) (numbers i back)
small_numbers i c q prefix back = numbers-append i prefix (Small c q ∷ back)

pub small_same : (c : Class) (q : ℕ) (places more : List Place) → Inserts (Small c q) places more
    → Adds q (numbers (index_of c) places) (numbers (index_of c) more)
small_same c q places more h =
    let i = index_of c in let prefix = h.0 in let back = h.1 in
    let a : numbers i places ≡ numbers i prefix ++ numbers i back = ap (numbers i) h.2 ∙ numbers-append i prefix back in
    let b : numbers i more ≡ numbers i prefix ++ q ∷ numbers i back =
    ap (numbers i) h.3 ∙ small_numbers i c q prefix back ∙ ap (λ t. numbers i prefix ++ cond t (q ∷ numbers i back) (numbers i back)) (eqb_same i) in
    rw (a, b) (adds_at q (numbers i prefix) (numbers i back))

pub small_other : (i : ℕ) (c : Class) (q : ℕ) (places more : List Place) → (index_of c ≡ i → ⊥) → Inserts (Small c q) places more
    → numbers i more ≡ numbers i places
small_other i c q places more ne h =
    let prefix = h.0 in let back = h.1 in
    ap (numbers i) h.3 ∙ small_numbers i c q prefix back ∙ ap (λ t. numbers i prefix ++ cond t (q ∷ numbers i back) (numbers i back))
    (eqb_other (index_of c) i ne)
    ∙ sym (numbers-append i prefix back) ∙ ap (numbers i) (sym h.2)

pub small_large : (c : Class) (q : ℕ) (places more : List Place) → Inserts (Small c q) places more → large_chunks more ≡ large_chunks places
small_large c q places more h =
    ap large_chunks h.3 ∙ large_chunks-append h.0 (Small c q ∷ h.1) ∙ sym (large_chunks-append h.0 h.1) ∙ ap large_chunks (sym h.2)

pub small_price : (c : Class) (q : ℕ) (places more : List Place) → Inserts (Small c q) places more → large_price more ≡ large_price places
small_price c q places more h =
    ap large_price h.3 ∙ large_price-append h.0 (Small c q ∷ h.1) ∙ sym (large_price-append h.0 h.1) ∙ ap large_price (sym h.2)

are_small : (st : Store) (c : Class) (q : ℕ) (prefix back : List Place) → AreLarge st (prefix ++ back) → AreLarge st (prefix ++ Small c q ∷ back)
are_small st c q [] back h = h
are_small st c q (Small d n ∷ prefix) back h = are_small st c q prefix back h
are_small st c q (Large k n ∷ prefix) back h = (h.0, h.1, h.2, h.3, are_small st c q prefix back h.4)

pub small_are : (st : Store) (c : Class) (q : ℕ) (places more : List Place) → Inserts (Small c q) places more → AreLarge st places → AreLarge st more
small_are st c q places more h l = subst (AreLarge st) (sym h.3) (are_small st c q h.0 h.1 (subst (AreLarge st) h.2 l))

are_less : (st : Store) (p : Place) (prefix back : List Place) → AreLarge st (prefix ++ p ∷ back) → AreLarge st (prefix ++ back)
are_less st (Small c q) [] back h = h
are_less st (Large k n) [] back h = h.4
are_less st p (Small d n ∷ prefix) back h = are_less st p prefix back h
are_less st p (Large k n ∷ prefix) back h = (h.0, h.1, h.2, h.3, are_less st p prefix back h.4)

pub less_are : (st : Store) (p : Place) (places more : List Place) → Inserts p places more → AreLarge st more → AreLarge st places
less_are st p places more h l = subst (AreLarge st) (sym h.2) (are_less st p h.0 h.1 (subst (AreLarge st) h.3 l))

pub up_pos : (n : ℕ) → 0 < n → 0 < up n
up_pos n h = omega arith

pub times_other : (x y : ℕ) (xs : List ℕ) → (x ≡ y → ⊥) → times x (y ∷ xs) ≡ times x xs
times_other x y xs ne = grind (arith, nat_tests)

-- ---- large blocks
pub large_exists : (st : Store) (places : List Place) (k : ℕ) → AreLarge st places → 0 < times k (large_chunks places) → 0 < st.size k
large_exists st [] k l t = absurd (omega arith)
large_exists st (Small c n ∷ ps) k l t = large_exists st ps k l t
large_exists st (Large c n ∷ ps) k l t = elim (cases_eq k c) [
  | inl e ↦ omega (arith, ap st.size e, l.0, up_pos n (omega (arith, l.1)))
  | inr ne ↦ large_exists st ps k l.4 (omega (arith, t, times_other k c (large_chunks ps) ne))
]

pub frame_large : (old new : Store) (places : List Place) → AreLarge old places → ((k : ℕ) → 0 < times k (large_chunks places) → new.size k ≡ old.size k)
    → AreLarge new places
frame_large old new [] l same = tt
frame_large old new (Small c n ∷ ps) l same = frame_large old new ps l same
frame_large old new (Large k n ∷ ps) l same =
    (same k (omega (arith, times_same k (large_chunks ps))) ∙ l.0, l.1, l.2, l.3, frame_large old new ps l.4 (λ c t. same c (omega arith)))

-- ---- one large block more
pub large_adds : (k n : ℕ) (places more : List Place) → Inserts (Large k n) places more → Adds k (large_chunks places) (large_chunks more)
large_adds k n places more h =
    let a : large_chunks places ≡ large_chunks h.0 ++ large_chunks h.1 = ap large_chunks h.2 ∙ large_chunks-append h.0 h.1 in
    let b : large_chunks more ≡ large_chunks h.0 ++ k ∷ large_chunks h.1 = ap large_chunks h.3 ∙ large_chunks-append h.0 (Large k n ∷ h.1) in
    rw (a, b) (adds_at k (large_chunks h.0) (large_chunks h.1))

pub large_more : (k n : ℕ) (places more : List Place) → Inserts (Large k n) places more → large_price more ≡ up n + large_price places
large_more k n places more h =
    omega (arith, ap large_price h.2, large_price-append h.0 h.1, ap large_price h.3, large_price-append h.0 (Large k n ∷ h.1))

pub large_numbers : (i k n : ℕ) (places more : List Place) → Inserts (Large k n) places more → numbers i more ≡ numbers i places
large_numbers i k n places more h = ap (numbers i) h.3 ∙ numbers-append i h.0 (Large k n ∷ h.1) ∙ sym (numbers-append i h.0 h.1) ∙ ap (numbers i) (sym h.2)

are_at : (st : Store) (k n : ℕ) (prefix back : List Place) → AreLarge st (prefix ++ Large k n ∷ back)
    → (st.size k ≡ up n) × (2048 < n) × (n ≤ 67108864) × (k < 1048576)
are_at st k n [] back h = (h.0, h.1, h.2, h.3)
are_at st k n (Small c q ∷ prefix) back h = are_at st k n prefix back h
are_at st k n (Large d m ∷ prefix) back h = are_at st k n prefix back h.4

pub large_at : (st : Store) (k n : ℕ) (places more : List Place) → Inserts (Large k n) places more → AreLarge st more
    → (st.size k ≡ up n) × (2048 < n) × (n ≤ 67108864) × (k < 1048576)
large_at st k n places more h l = are_at st k n h.0 h.1 (subst (AreLarge st) h.3 l)

are_large : (st : Store) (k n : ℕ) (prefix back : List Place) → (st.size k ≡ up n) × (2048 < n) × (n ≤ 67108864) × (k < 1048576) → AreLarge st (prefix ++ back)
    → AreLarge st (prefix ++ Large k n ∷ back)
are_large st k n [] back f h = (f.0, f.1, f.2, f.3, h)
are_large st k n (Small c q ∷ prefix) back f h = are_large st k n prefix back f h
are_large st k n (Large d m ∷ prefix) back f h = (h.0, h.1, h.2, h.3, are_large st k n prefix back f h.4)

pub large_are : (st : Store) (k n : ℕ) (places more : List Place) → Inserts (Large k n) places more
    → (st.size k ≡ up n) × (2048 < n) × (n ≤ 67108864) × (k < 1048576) → AreLarge st places → AreLarge st more
large_are st k n places more h f l = subst (AreLarge st) (sym h.3) (are_large st k n h.0 h.1 f (subst (AreLarge st) h.2 l))

pub up_small : (n : ℕ) → n ≤ 67108864 → up n ≤ 67108864
up_small n h = omega arith

pub large_price_few : (st : Store) (places : List Place) → AreLarge st places → large_price places ≤ 67108864 * length (large_chunks places)
large_price_few st [] l = omega arith
large_price_few st (Small c n ∷ ps) l = large_price_few st ps l
large_price_few st (Large k n ∷ ps) l = omega (arith, large_price_few st ps l.4, up_small n l.2)

pub large_below : (st : Store) (places : List Place) (k : ℕ) → AreLarge st places → 0 < times k (large_chunks places) → k < 1048576
large_below st [] k l t = absurd (omega arith)
large_below st (Small c n ∷ ps) k l t = large_below st ps k l t
large_below st (Large c n ∷ ps) k l t = elim (cases_eq k c) [
  | inl e ↦ omega (arith, l.3)
  | inr ne ↦ large_below st ps k l.4 (omega (arith, t, times_other k c (large_chunks ps) ne))
]

pub up_least : (n : ℕ) → n ≤ up n
up_least n = omega arith
