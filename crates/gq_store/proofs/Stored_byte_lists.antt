-- The bytes at places as lists: what some bytes put there change.
use Rattle.std.proofs.Common.{◌≡◌, ℕ, ◌+◌, ◌-◌, ◌<◌, ◌≤◌, inl, inr, List, [], ◌∷◌, ◌++◌, length, length-append, append_assoc, get_or, take, drop, set}
use Rattle.std.proofs.Common.{length-set, replicate, get_or-set_same, get_or-set_other, refl, sym, ap, ◌∙◌, arith}
use Rattle.std.specs.Prelude.{slice_range}
use Rattle.std.proofs.lemmas.Bool.{cases_eq, cases_lt}
use Rattle.std.proofs.lemmas.List.{length-take-le, length-replicate, get_or-replicate, get_or_append_left, get_or-append_right, get_or-take, get_or-drop}
use Rattle.std.proofs.lemmas.List.{length-drop}
use Rattle.std.proofs.lemmas.List.FromFn.{length-map-range_with_len, get_or-map-range_with_len, fill_by_all}
use Rattle.gq_model.specs.machine.Program.{little}
use Rattle.gq_store.specs.Store.{word}
use Rattle.gq_store.specs.Chunk_bytes.{listed, PutsBytes}

pub length-listed : {A : Type 0} (n : ℕ) (f : ℕ → A) → length (listed n f) ≡ n
length-listed n f = length-map-range_with_len f 0 n

pub get_or-listed : {A : Type 0} (n : ℕ) (f : ℕ → A) (i : ℕ) (d : A) → i < n → get_or (listed n f) i d ≡ f i
get_or-listed n f i d l = get_or-map-range_with_len f 0 n i i d l (omega arith)

-- a list with these elements
pub listed_by : {A : Type 0} (n : ℕ) (f : ℕ → A) (xs : List A) (d : A) → length xs ≡ n → ((k : ℕ) → k < n → get_or xs k d ≡ f k) → listed n f ≡ xs
listed_by n f xs d l h = sym (fill_by_all f xs n d l h)

pub listed_same : {A : Type 0} (n : ℕ) (f g : ℕ → A) (d : A) → ((i : ℕ) → i < n → f i ≡ g i) → listed n f ≡ listed n g
listed_same n f g d h = fill_by_all g (listed n f) n d (length-listed n f) (λ k l. get_or-listed n f k d l ∙ h k l)

pub listed_zero : (n : ℕ) (f : ℕ → ℕ) → ((i : ℕ) → i < n → f i ≡ 0) → listed n f ≡ replicate n 0
listed_zero n f h = listed_by n f (replicate n 0) 0 (length-replicate n 0) (λ k l. get_or-replicate n k 0 0 l ∙ sym (h k l))

-- one element differs
pub listed_set : {A : Type 0} (n : ℕ) (f g : ℕ → A) (i : ℕ) (b d : A) → i < n → g i ≡ b → ((j : ℕ) → (j ≡ i → ⊥) → g j ≡ f j)
    → listed n g ≡ set (listed n f) i b
listed_set n f g i b d l here others =
    listed_by n g (set (listed n f) i b) d (length-set (listed n f) i b ∙ length-listed n f)
    (λ k h. elim (cases_eq k i) [
      | inl e ↦ ap (λ x. get_or (set (listed n f) i b) x d) e ∙ get_or-set_same (listed n f) i b d (omega (arith, length-listed n f)) ∙ sym here ∙ ap g (sym e)
      | inr ne ↦ get_or-set_other (listed n f) i k b d ne ∙ get_or-listed n f k d h ∙ sym (others k ne)
    ])

-- some bytes were put there
pub listed_put : (n : ℕ) (f g : ℕ → ℕ) (o : ℕ) (bytes : List ℕ) → o + length bytes ≤ n → PutsBytes f g o bytes
    → listed n g ≡ take o (listed n f) ++ bytes ++ drop (o + length bytes) (listed n f)
listed_put n f g o bytes inside p =
    let m = length bytes in
    let prefix : length (take o (listed n f)) ≡ o = length-take-le o (listed n f) (omega (arith, length-listed n f)) in
    let long : length (take o (listed n f) ++ (bytes ++ drop (o + m) (listed n f))) ≡ n = omega (
      arith,
      length-append (take o (listed n f)) (bytes ++ drop (o + m) (listed n f)),
      length-append bytes (drop (o + m) (listed n f)),
      length-drop (o + m) (listed n f),
      length-listed n f,
      prefix,
    ) in
    listed_by n g (take o (listed n f) ++ (bytes ++ drop (o + m) (listed n f))) 0 long
    (λ k l. elim (cases_lt k o) [
      | inl a ↦
          get_or_append_left (take o (listed n f)) (bytes ++ drop (o + m) (listed n f)) 0 k (omega (arith, prefix))
          ∙ get_or-take o (listed n f) k 0 a ∙ get_or-listed n f k 0 l ∙ sym (p.rest k (λ x y. omega arith))
      | inr a ↦ get_or-append_right (take o (listed n f)) (bytes ++ drop (o + m) (listed n f)) o k 0 prefix a ∙ elim (cases_lt (k - o) m) [
        | inl b ↦
            get_or_append_left bytes (drop (o + m) (listed n f)) 0 (k - o) b ∙ sym (p.here (k - o) b) ∙ ap g (omega arith)
        | inr b ↦
            get_or-append_right bytes (drop (o + m) (listed n f)) m (k - o) 0 refl b ∙ get_or-drop (o + m) (listed n f) (k - o - m) 0
            ∙ ap (λ x. get_or (listed n f) x 0) (omega arith) ∙ get_or-listed n f k 0 l ∙ sym (p.rest k (λ x y. omega arith))
      ]
    ])
    ∙ sym (append_assoc (take o (listed n f)) bytes (drop (o + m) (listed n f)))

-- the number that four of the bytes spell
pub listed_word : (n : ℕ) (f : ℕ → ℕ) (o : ℕ) → o + 4 ≤ n → little (slice_range (listed n f) o (o + 4)) ≡ word f o
listed_word n f o inside =
    let xs = listed n f in
    let few : o + 4 - o ≡ 4 = omega arith in
    let long : length (take 4 (drop o xs)) ≡ 4 = length-take-le 4 (drop o xs) (omega (arith, length-drop o xs, length-listed n f)) in
    let four : listed 4 (λ j. f (o + j)) ≡ take 4 (drop o xs) = listed_by 4 (λ j. f (o + j)) (take 4 (drop o xs)) 0 long
    (λ k l. get_or-take 4 (drop o xs) k 0 l ∙ get_or-drop o xs k 0 ∙ get_or-listed n f (o + k) 0 (omega arith)) in
    let first : f (o + 0) ≡ f o = ap f (omega arith) in
    ap (λ k. little (take k (drop o xs))) few ∙ ap little (sym four) ∙ omega (arith, first)

-- the number that one of the bytes spells
pub listed_byte : (n : ℕ) (f : ℕ → ℕ) (o : ℕ) → o + 1 ≤ n → little (slice_range (listed n f) o (o + 1)) ≡ f o
listed_byte n f o inside =
    let xs = listed n f in
    let few : o + 1 - o ≡ 1 = omega arith in
    let long : length (take 1 (drop o xs)) ≡ 1 = length-take-le 1 (drop o xs) (omega (arith, length-drop o xs, length-listed n f)) in
    let one : listed 1 (λ j. f (o + j)) ≡ take 1 (drop o xs) = listed_by 1 (λ j. f (o + j)) (take 1 (drop o xs)) 0 long
    (λ k l. get_or-take 1 (drop o xs) k 0 l ∙ get_or-drop o xs k 0 ∙ get_or-listed n f (o + k) 0 (omega arith)) in
    let first : f (o + 0) ≡ f o = ap f (omega arith) in
    ap (λ k. little (take k (drop o xs))) few ∙ ap little (sym one) ∙ omega (arith, first)

-- one byte that was put there
pub put_here : (f g : ℕ → ℕ) (o b : ℕ) → PutsBytes f g o (b ∷ []) → g o ≡ b
put_here f g o b p = ap g (omega arith) ∙ p.here 0 (omega arith)

pub put_others : (f g : ℕ → ℕ) (o b : ℕ) → PutsBytes f g o (b ∷ []) → (j : ℕ) → (j ≡ o → ⊥) → g j ≡ f j
put_others f g o b p j ne = p.rest j (λ x y. ne (omega arith))

pub listed_one : (n : ℕ) (f g : ℕ → ℕ) (i b : ℕ) → i < n → PutsBytes f g i (b ∷ []) → listed n g ≡ set (listed n f) i b
listed_one n f g i b l p = listed_set n f g i b 0 l (put_here f g i b p) (put_others f g i b p)
