-- Chains of free places.
use Rattle.std.proofs.Common.{◌≡◌, ℕ, zero, suc, ◌+◌, ◌-◌, ◌*◌, ◌/◌, ◌%◌, ◌<◌, ◌≤◌, ◌⊎◌, inl, inr, List, [], ◌∷◌, add-one, length, cond, eqb, refl, sym, ap}
use Rattle.std.proofs.Common.{subst, ◌∙◌, arith}
use Rattle.std.proofs.Math.Nat.{mod-lt, div-add-mod, mul-le-mul_left}
use Rattle.std.proofs.lemmas.Nat.{div-mul-add, mod-mul-add}
use Rattle.std.proofs.lemmas.Bool.{cases_order, cases_lt, cases_eq}
use Rattle.std.proofs.lemmas.Bool.Decides.{nat_tests}
use Rattle.gq_store.specs.Store.{Store, word, Writes, Grows}
use Rattle.gq_heap.specs.internal.Chain.{IsSize, link, IsChain, descending, Places, Adds}
use Rattle.gq_heap.specs.List_occurrences.{times}
use Rattle.gq_heap.proofs.Cell_page_numbers.{places_pos, places_apart}

-- ---- how often a number stands in a list
pub times_same : (x : ℕ) (xs : List ℕ) → times x (x ∷ xs) ≡ suc (times x xs)
times_same x xs = grind (arith, nat_tests)

pub times_outside : (x start n : ℕ) → (x < start) ⊎ (start + n ≤ x) → times x (descending start n) ≡ 0
times_outside x start zero h = refl
times_outside x start (suc n) h =
    let out : (x < start) ⊎ (start + n ≤ x) = grind arith in
    let ih = times_outside x start n out in grind (arith, nat_tests)

pub times_descending : (x start n : ℕ) → start ≤ x → x < start + n → times x (descending start n) ≡ 1
times_descending x start zero a b = absurd (omega arith)
times_descending x start (suc n) a b = elim (cases_eq x (start + n)) [
  | inl e ↦ let none = times_outside x start n (inr (omega arith)) in grind (arith, nat_tests)
  | inr ne ↦ let less : x < start + n = omega (arith, ne) in let ih = times_descending x start n a less in grind (arith, nat_tests)
]

pub length-descending : (start n : ℕ) → length (descending start n) ≡ n
length-descending start zero = refl
length-descending start (suc n) = ap suc (length-descending start n)

-- ---- words
pub word_same : (f g : ℕ → ℕ) (o : ℕ) → ((i : ℕ) → o ≤ i → i < o + 4 → f i ≡ g i) → word f o ≡ word g o
word_same f g o h = omega (
  arith,
  h o (omega arith) (omega arith),
  h (o + 1) (omega arith) (omega arith),
  h (o + 2) (omega arith) (omega arith),
  h (o + 3)
      (omega arith) (omega arith),
)

-- ---- chains
pub chain_same : (f g : ℕ → ℕ) (head : ℕ) (qs : List ℕ) → ((q : ℕ) → 0 < times q qs → f q ≡ g q) → IsChain f head qs → IsChain g head qs
chain_same f g head [] h c = c
chain_same f g head (x ∷ xs) h c =
    let here : f x ≡ g x = h x (omega (arith, times_same x xs)) in
    (c.0, subst (λ n. IsChain g n xs) here (chain_same f g (f x) xs (λ q m. h q (omega arith)) c.1))

pub chain_head : (f : ℕ → ℕ) (head : ℕ) (qs : List ℕ) → 0 < head → IsChain f head qs
    → (rest : List ℕ) × (qs ≡ (head - 1) ∷ rest) × IsChain f (f (head - 1)) rest
chain_head f head [] pos c = absurd (omega arith)
chain_head f head (x ∷ xs) pos c =
    let e : x ≡ head - 1 = omega (arith, c.0) in
    (xs, ap (λ y. y ∷ xs) e, subst (λ y. IsChain f (f y) xs) e c.1)

pub chain_end : (f : ℕ → ℕ) (head : ℕ) (qs : List ℕ) → head ≡ 0 → IsChain f head qs → qs ≡ []
chain_end f head [] e c = refl
chain_end f head (x ∷ xs) e c = absurd (omega (arith, c.0))

-- ---- writes
module _ (z p : ℕ) (s : IsSize z p) where
  -- a write to one place leaves the bytes of the others
  pub byte_other : (old new : Store) (r n q i : ℕ) → Writes old new (r / p) (r % p * z) n → n ≤ z → (q ≡ r → ⊥) → q % p * z ≤ i → i < q % p * z + z
      → new.byte (q / p) i ≡ old.byte (q / p) i
  byte_other old new r n q i w small other from below =
      w.elsewhere (q / p) i (λ e a b. elim (places_apart z p s q r other e) [ inl h ↦ omega arith | inr h ↦ omega arith ])

  pub link_other : (old new : Store) (r n q : ℕ) → Writes old new (r / p) (r % p * z) n → n ≤ z → (q ≡ r → ⊥) → link new z p q ≡ link old z p q
  link_other old new r n q w small other =
      word_same (new.byte (q / p)) (old.byte (q / p)) (q % p * z) (λ i a b. byte_other old new r n q i w small other a (omega (arith, s.least)))

  pub chained_more : (c i head : ℕ) → i < p → (old new : Store) → IsChain (link old z p) head (descending (c * p) i) → word (new.byte c) (i * z) ≡ head
      → Writes old new c (i * z) 4 → IsChain (link new z p) (c * p + i + 1) (descending (c * p) (i + 1))
  chained_more c i head h old new chain stored w =
      let r = c * p + i in
      let d : r / p ≡ c = div-mul-add c p i h in
      let m : r % p ≡ i = mod-mul-add c p i h in
      let v : Writes old new (r / p) (r % p * z) 4 = rw (d, m) w in
      let here : link new z p r ≡ head = rw (d, m) stored in
      let small : 4 ≤ z = omega (arith, s.least) in
      subst (λ n. IsChain (link new z p) (c * p + i + 1) (descending (c * p) n)) (sym (add-one i)) (
        refl,
        subst (λ n. IsChain (link new z p) n (descending (c * p) i)) (sym here)
            (chain_same (link old z p) (link new z p) head (descending (c * p) i)
            (λ q t. sym (link_other old new r 4 q v small
            (λ e. let none : times q (descending (c * p) i) ≡ 0 = times_outside q (c * p) i (inr (omega arith)) in omega arith))) chain),
      )

-- ---- a new chunk
pub times_chunk : (p : ℕ) → 0 < p → (c q : ℕ) → times q (descending (c * p) p) ≡ cond (eqb (q / p) c) 1 0
times_chunk p pos c q =
    let whole : p * (q / p) + q % p ≡ q = div-add-mod q p in
    let rest : q % p < p = mod-lt q pos in
    elim (cases_order (q / p) c) [
      | inl e ↦
          let f : p * (q / p) ≡ c * p = ap (λ n. p * n) e ∙ omega arith in
          let one = times_descending q (c * p) p (omega arith) (omega arith) in
          grind (arith, nat_tests)
      | inr (inl lt) ↦
          let f : p * (q / p) + p ≤ p * c = omega (arith, mul-le-mul_left p lt) in
          let none = times_outside q (c * p) p (inl (omega arith)) in
          grind (arith, nat_tests)
      | inr (inr gt) ↦
          let f : p * c + p ≤ p * (q / p) = omega (arith, mul-le-mul_left p gt) in
          let none = times_outside q (c * p) p (inr (omega arith)) in
          grind (arith, nat_tests)
    ]

-- numbers below n, each at most once, are at most n
abbrev sum_times : ℕ → List ℕ → ℕ
sum_times zero xs = 0
sum_times (suc n) xs = times n xs + sum_times n xs

sum_none : (n : ℕ) → sum_times n [] ≡ 0
sum_none zero = refl
sum_none (suc n) = omega (arith, sum_none n)

sum_past : (n x : ℕ) (xs : List ℕ) → n ≤ x → sum_times n (x ∷ xs) ≡ sum_times n xs
sum_past zero x xs h = refl
sum_past (suc n) x xs h = let ih = sum_past n x xs (omega arith) in grind (arith, nat_tests)

sum_more : (n x : ℕ) (xs : List ℕ) → x < n → sum_times n (x ∷ xs) ≡ suc (sum_times n xs)
sum_more zero x xs h = absurd (omega arith)
sum_more (suc n) x xs h = elim (cases_eq n x) [
  | inl e ↦ let past = sum_past n x xs (omega arith) in grind (arith, nat_tests)
  | inr ne ↦ let less : x < n = omega (arith, ne) in let ih = sum_more n x xs less in grind (arith, nat_tests)
]

sum_all : (n : ℕ) (xs : List ℕ) → ((x : ℕ) → 0 < times x xs → x < n) → sum_times n xs ≡ length xs
sum_all n [] h = sum_none n
sum_all n (x ∷ xs) h =
    let here : x < n = h x (omega (arith, times_same x xs)) in
    sum_more n x xs here ∙ ap suc (sum_all n xs (λ y m. h y (omega arith)))

sum_few : (n : ℕ) (xs : List ℕ) → ((x : ℕ) → times x xs ≤ 1) → sum_times n xs ≤ n
sum_few zero xs h = omega arith
sum_few (suc n) xs h = omega (arith, h n, sum_few n xs h)

pub few : (n : ℕ) (xs : List ℕ) → ((x : ℕ) → times x xs ≤ 1) → ((x : ℕ) → 0 < times x xs → x < n) → length xs ≤ n
few n xs once below = omega (arith, sum_few n xs once, sum_all n xs below)

-- ---- places
module _ (z p : ℕ) (s : IsSize z p) where
  -- the place at the head is taken out
  pub popped : (head q : ℕ) (old new : Store) (free used more mine : List ℕ) → 0 < head → q ≡ head - 1
      → Places z p head old free used mine → Writes old new (q / p) (q % p * z) z → Adds q used more
      → (rest : List ℕ) × (length free ≡ suc (length rest)) × Places z p (link old z p q) new rest more mine
  popped head q old new free used more mine pos e places w a =
      let h = chain_head (link old z p) head free pos places.chain in
      let rest = h.0 in
      let is : free ≡ q ∷ rest = h.1 ∙ ap (λ n. n ∷ rest) (sym e) in
      let next : IsChain (link old z p) (link old z p q) rest = subst (λ n. IsChain (link old z p) (link old z p n) rest) (sym e) h.2 in
      let long : length free ≡ suc (length rest) = ap length is in
      let count : (x : ℕ) → times x free ≡ times x (q ∷ rest) = λ x. ap (times x) is in (
        rest,
        long,
        record {
          chain = chain_same (link old z p) (link new z p) (link old z p q) rest
              (λ x t. sym (link_other z p s old new q z x w (omega arith) (λ f.
              let u : times x free ≡ suc (times x rest) = count x ∙ ap (λ n. times x (n ∷ rest)) (sym f) ∙ times_same x rest in
              omega (arith, places.each x, places.once (x / p))))) next;
          each = λ x. omega (arith, places.each x, count x, a.each x);
          once = places.once;
          chunk = λ c t. (w.size c ∙ (places.chunk c t).0, (places.chunk c t).1);
          all = omega (arith, places.all, long, a.long);
        },
      )

  -- a place in use is put first
  pub pushed : (head q : ℕ) (old new : Store) (free used rest mine : List ℕ)
      → Places z p head old free used mine → Writes old new (q / p) (q % p * z) 4 → link new z p q ≡ head → Adds q rest used
      → Places z p (q + 1) new (q ∷ free) rest mine
  pushed head q old new free used rest mine places w stored a =
      record {
        chain = (
          refl,
          subst (λ n. IsChain (link new z p) n free) (sym stored) (chain_same (link old z p) (link new z p) head free
              (λ x t. sym (link_other z p s old new q 4 x w (omega (arith, s.least)) (λ f.
              let u : times x (q ∷ rest) ≡ suc (times x rest) = ap (λ n. times x (n ∷ rest)) (sym f) ∙ times_same x rest in
              omega (arith, places.each x, places.once (x / p), a.each x)))) places.chain),
        );
        each = λ x. omega (arith, places.each x, a.each x);
        once = places.once;
        chunk = λ c t. (w.size c ∙ (places.chunk c t).0, (places.chunk c t).1);
        all = omega (arith, places.all, a.long);
      }

  -- a new chunk is chained
  pub grown : (c head : ℕ) (old mid new : Store) (free used mine : List ℕ)
      → Places z p 0 old free used mine → Grows old mid c 4096 → Writes mid new c 0 4096 → IsChain (link new z p) head (descending (c * p) p)
      → Places z p head new (descending (c * p) p) used (c ∷ mine)
  grown c head old mid new free used mine places g w chain =
      let none : free ≡ [] = chain_end (link old z p) 0 free refl places.chain in
      let others : times c mine ≡ 0 = elim (cases_lt 0 (times c mine)) [ inl t ↦ omega (arith, g.fresh, (places.chunk c t).0) | inr l ↦ omega arith ] in
      record {
        chain = chain;
        each = λ q. omega (arith, times_chunk p (places_pos z p s) c q, places.each q, ap (times q) none);
        once = λ x. elim (cases_eq x c) [
          | inl e ↦ let u : times x (c ∷ mine) ≡ suc (times x mine) = ap (λ n. times x (n ∷ mine)) (sym e) ∙ times_same x mine in omega
              (arith, ap (λ n. times n mine) e)
          | inr ne ↦ grind (arith, nat_tests, places.once x)
        ];
        chunk = λ x t. elim (cases_eq x c) [
          | inl e ↦ (ap new.size e ∙ w.size c ∙ g.size, omega (arith, g.number))
          | inr ne ↦
              let u : 0 < times x mine = grind (arith, nat_tests) in
              (w.size x ∙ g.sizes x ne ∙ (places.chunk x u).0, (places.chunk x u).1)
        ];
        all = omega (arith, places.all, ap length none, length-descending (c * p) p);
      }
