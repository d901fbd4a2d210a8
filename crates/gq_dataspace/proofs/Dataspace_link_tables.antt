-- All the lists of a table.
use Rattle.std.proofs.Common.{◌≡◌, ℕ, zero, suc, ◌+◌, ◌*◌, ◌/◌, ◌%◌, ◌<◌, ◌≤◌, inl, inr, List, [], ◌∷◌, ◌++◌, length, set, get_or, replicate, refl, sym, ap}
use Rattle.std.proofs.Common.{subst, ◌∙◌, arith, length-append, length-set}
use Rattle.std.proofs.lemmas.Bool.{cases_lt, cases_eq}
use Rattle.std.proofs.lemmas.Bool.Decides.{nat_tests}
use Rattle.std.proofs.lemmas.List.{get_or-set_same, get_or-set_other, get_or_append_left, get_or_at, length-replicate, get_or-replicate}
use Rattle.std.proofs.lemmas.List.FromFn.{length-map-range_with_len, get_or-map-range_with_len, fill_by_all}
use Rattle.gq_dataspace.specs.internal.Frame_lists.{Lists, list_at, AreApart, IsOwn, AreBelow}
use Rattle.gq_dataspace.specs.internal.List_trees.{parent_at}
use Rattle.gq_dataspace.specs.internal.Link_table.{link_at, frames_in, list_in, lists_in}
use Rattle.gq_dataspace.proofs.Link_table_lists.{length-frames_in, frame_at_link, frames_kept, frames_more}

pub past : {X : Type 0} (l : List X) (k : ℕ) (d : X) → length l ≤ k → get_or l k d ≡ d
past [] k d h = refl
past (x ∷ xs) zero d h = absurd (omega arith)
past (x ∷ xs) (suc k) d h = past xs k d (omega arith)

-- what an index reads
pub reads : (xs : List ℕ) (i x : ℕ) → i < length xs → x ≡ get_or xs i x → x ≡ get_or xs i 0
reads [] i x h e = absurd (omega arith)
reads (y ∷ ys) zero x h e = e
reads (y ∷ ys) (suc i) x h e = reads ys i x (omega arith) e

pub length-lists_in : (links counts : List ℕ) → length (lists_in links counts) ≡ length counts
unfolding lists_in
length-lists_in links counts = length-map-range_with_len (list_in links counts) 0 (length counts)

pub list_at-lists_in : (links counts : List ℕ) (r : ℕ) → list_at (lists_in links counts) r ≡ list_in links counts r
unfolding lists_in list_in
list_at-lists_in links counts r = elim (cases_lt r (length counts)) [
  | inl lt ↦ get_or-map-range_with_len (list_in links counts) 0 (length counts) r r [] lt (omega arith)
  | inr ge ↦ past (lists_in links counts) r [] (omega (arith, length-lists_in links counts)) ∙ ap (frames_in links r) (sym (past counts r 0 ge))
]

list_is : (links counts : List ℕ) (r : ℕ) → list_in links counts r ≡ frames_in links r (get_or counts r 0)
unfolding list_in
list_is links counts r = refl

pub length-list_in : (links counts : List ℕ) (r : ℕ) → length (list_in links counts r) ≡ get_or counts r 0
unfolding list_in
length-list_in links counts r = length-frames_in links r (get_or counts r 0)

pub length-list_at : (links counts : List ℕ) (r : ℕ) → length (list_at (lists_in links counts) r) ≡ get_or counts r 0
length-list_at links counts r = ap length (list_at-lists_in links counts r) ∙ length-list_in links counts r

-- a list with an entry is one of the table
pub some_below : (counts : List ℕ) (r : ℕ) → 0 < get_or counts r 0 → r < length counts
some_below counts r h = elim (cases_lt r (length counts)) [ inl lt ↦ lt | inr ge ↦ absurd (omega (arith, past counts r 0 ge)) ]

pub at_some : (ls : Lists) (r : ℕ) → 0 < length (list_at ls r) → r < length ls
at_some ls r h = elim (cases_lt r (length ls)) [ inl lt ↦ lt | inr ge ↦ absurd (omega (arith, h, ap length (past ls r [] ge))) ]

pub parent_first : (xs : List ℕ) (r i : ℕ) → i < 16 → parent_at xs r i ≡ r
unfolding parent_at
parent_first xs r i h = grind (arith, nat_tests)

pub parent_more : (xs : List ℕ) (r i : ℕ) → 16 ≤ i → parent_at xs r i ≡ get_or xs (i / 16) 0
unfolding parent_at
parent_more xs r i h = grind (arith, nat_tests)

pub frame_is_linked : (links counts : List ℕ) (r i : ℕ) → i < get_or counts r 0
    → get_or (list_at (lists_in links counts) r) i 0 ≡ get_or links (16 * parent_at (list_at (lists_in links counts) r) r i + i % 16) 0
unfolding list_in
frame_is_linked links counts r i h = rw (list_at-lists_in links counts r) (frame_at_link links r (get_or counts r 0) i h)

all_lists : (links counts : List ℕ) (n : ℕ) → length counts ≡ n → (ls : Lists) → length ls ≡ n → ((g : ℕ) → g < n → get_or ls g [] ≡ list_in links counts g)
    → lists_in links counts ≡ ls
unfolding lists_in
all_lists links counts n same ls long each = rw same (sym (fill_by_all (list_in links counts) ls n [] long each))

-- one list of the table is another
pub lists_set : (links counts links' counts' : List ℕ) (r : ℕ) (xs : List ℕ) → r < length counts → length counts' ≡ length counts
    → list_in links' counts' r ≡ xs
    → ((g : ℕ) → g < length counts → (g ≡ r → ⊥) → list_in links' counts' g ≡ list_in links counts g)
    → lists_in links' counts' ≡ set (lists_in links counts) r xs
lists_set links counts links' counts' r xs lt same here there =
    let n = length counts in let ls = lists_in links counts in
    all_lists links' counts' n same (set ls r xs) (length-set ls r xs ∙ length-lists_in links counts)
    (λ g below. elim (cases_eq g r) [
      | inl e ↦ rw e (get_or-set_same ls r xs [] (omega (arith, length-lists_in links counts)) ∙ sym here)
      | inr other ↦ get_or-set_other ls r g xs [] other ∙ list_at-lists_in links counts g ∙ sym (there g below other)
    ])

-- ---- what is written
-- two places of links are one only where both frames have one parent, and are of one digit there
digits : (p q a b : ℕ) → 16 * p + a % 16 ≡ 16 * q + b % 16 → (p ≡ q) × (a % 16 ≡ b % 16)
digits p q a b e = (omega (arith, e), omega (arith, e))

parent_in_list : (ls : Lists) (g i : ℕ) → AreApart ls → i < length (list_at ls g) → parent_at (list_at ls g) g i ≡ get_or (list_at ls g) (i / 16) 0
parent_in_list ls g i apart h = elim (cases_lt i 16) [
  | inl lt ↦ let z : 0 ≡ i / 16 = omega arith in parent_first (list_at ls g) g i lt ∙ sym (apart.heads g (omega arith))
      ∙ ap (λ (a : ℕ). get_or (list_at ls g) a 0) z
  | inr ge ↦ parent_more (list_at ls g) g i ge
]

-- the place of the link to a next entry of the list r is that of no link
clash : (ls : Lists) (r g i : ℕ) → AreApart ls → IsOwn ls r → i < length (list_at ls g)
    → link_at (list_at ls g) g i ≡ link_at (list_at ls r) r (length (list_at ls r)) → ⊥
clash ls r g i apart own h e =
    let xs : List ℕ = list_at ls r in let ys : List ℕ = list_at ls g in let k : ℕ = length xs in let a : ℕ = i / 16 in
    let d : (parent_at ys g i ≡ parent_at xs r k) × (i % 16 ≡ k % 16) = digits (parent_at ys g i) (parent_at xs r k) i k e in
    let mine : get_or ys a 0 ≡ parent_at xs r k = sym (parent_in_list ls g i apart h) ∙ d.0 in
    let a_lt : a < length ys = omega arith in
    elim (cases_lt k 16) [
      | inl lt ↦ let eq : get_or ys a 0 ≡ r = mine ∙ parent_first xs r k lt in
          let same : g ≡ r = own g a a_lt eq in
          let z : (g ≡ g) × (a ≡ 0) = apart.once g g a 0 a_lt (omega arith) (eq ∙ sym same ∙ sym (apart.heads g (omega arith))) in
          let l : length ys ≡ k = ap (λ (m : ℕ). length (list_at ls m)) same in
          absurd (omega (arith, z.1, d.1, h, l, lt))
      | inr ge ↦ let both : (g ≡ r) × (a ≡ k / 16) = apart.once g r a (k / 16) a_lt (omega arith) (mine ∙ parent_more xs r k ge) in
          let l : length ys ≡ k = ap (λ (m : ℕ). length (list_at ls m)) both.0 in
          absurd (omega (arith, both.1, d.1, h, l))
    ]

-- an entry is added at the end of a list
pushes_at : (links counts : List ℕ) (r k x : ℕ) → r < length counts → get_or counts r 0 ≡ k → link_at (frames_in links r k) r k < length links
    → ((g i : ℕ) → i < get_or counts g 0 → link_at (list_in links counts g) g i ≡ link_at (frames_in links r k) r k → ⊥)
    → lists_in (set links (link_at (frames_in links r k) r k) x) (set counts r (k + 1)) ≡ set (lists_in links counts) r (frames_in links r k ++ x ∷ [])
unfolding list_in
pushes_at links counts r k x lt e within other =
    let p = link_at (frames_in links r k) r k in let m : k + 1 ≡ suc k = omega arith in
    let mine : (i : ℕ) → i < k → link_at (frames_in links r k) r i ≡ p → ⊥ = λ i h f. other r i (omega (arith, e)) (rw e f) in
    lists_set links counts (set links p x) (set counts r (k + 1)) r (frames_in links r k ++ x ∷ []) lt (length-set counts r (k + 1))
    (ap (frames_in (set links p x) r) (get_or-set_same counts r (k + 1) 0 lt ∙ m) ∙ frames_more links r k x within mine)
    (λ g below apart. ap (frames_in (set links p x) g) (get_or-set_other counts r g (k + 1) 0 apart)
    ∙ frames_kept links g (get_or counts g 0) p x (λ i h f. other g i h f))

pub pushes : (links counts : List ℕ) (r x : ℕ) → r < length counts → AreApart (lists_in links counts) → IsOwn (lists_in links counts) r
    → link_at (list_at (lists_in links counts) r) r (get_or counts r 0) < length links
    → lists_in (set links (link_at (list_at (lists_in links counts) r) r (get_or counts r 0)) x) (set counts r (get_or counts r 0 + 1)) ≡ set
    (lists_in links counts) r (list_at (lists_in links counts) r ++ x ∷ [])
pushes links counts r x lt apart own within =
    let ls = lists_in links counts in let k : ℕ = get_or counts r 0 in
    let is : list_at ls r ≡ frames_in links r k = list_at-lists_in links counts r ∙ list_is links counts r in
    let long : length (list_at ls r) ≡ k = length-list_at links counts r in
    let place : link_at (frames_in links r k) r k ≡ link_at (list_at ls r) r (length (list_at ls r)) = ap (λ (xs : List ℕ). link_at xs r k) (sym is)
    ∙ ap (link_at (list_at ls r) r) (sym long) in
    rw is (pushes_at links counts r k x lt refl (subst (λ (xs : List ℕ). link_at xs r k < length links) is within)
    (λ g i h e. clash ls r g i apart own (omega (arith, h, length-list_at links counts g)) (ap (λ (xs : List ℕ). link_at xs g i)
    (list_at-lists_in links counts g) ∙ e ∙ place)))

-- the last entry of a list is taken off
pub pops : (links counts : List ℕ) (r k : ℕ) → get_or counts r 0 ≡ suc k → lists_in links (set counts r k) ≡ set (lists_in links counts) r (frames_in links r k)
unfolding list_in
pops links counts r k e =
    let lt : r < length counts = some_below counts r (omega arith) in
    lists_set links counts links (set counts r k) r (frames_in links r k) lt (length-set counts r k) (ap (frames_in links r) (get_or-set_same counts r k 0 lt))
    (λ g below other. ap (frames_in links g) (get_or-set_other counts r g k 0 other))

-- and this is what it was
pub popped : (links counts : List ℕ) (r k : ℕ) → get_or counts r 0 ≡ suc k
    → list_at (lists_in links counts) r ≡ frames_in links r k ++ get_or (list_at (lists_in links counts) r) k 0 ∷ []
popped links counts r k e =
    let xs : List ℕ = frames_in links r k in let y : ℕ = get_or links (link_at xs r k) 0 in
    let is : list_at (lists_in links counts) r ≡ xs ++ y ∷ [] = list_at-lists_in links counts r ∙ list_is links counts r ∙ ap (frames_in links r) e in
    is ∙ ap (λ (z : ℕ). xs ++ z ∷ []) (sym (ap (λ (zs : List ℕ). get_or zs k 0) is ∙ get_or_at xs y [] 0 k (length-frames_in links r k)))

-- ---- numbers below n
pub below_set : (ls : Lists) (r n : ℕ) (xs : List ℕ) → AreBelow ls n → ((i : ℕ) → i < length xs → get_or xs i 0 < n) → AreBelow (set ls r xs) n
below_set ls r n xs below all g i h = elim (cases_eq g r) [
  | inl e ↦ elim (cases_lt r (length ls)) [
    | inl lt ↦ let same : list_at (set ls r xs) g ≡ xs = rw e (get_or-set_same ls r xs [] lt) in
        rw same (all i (omega (arith, h, ap length same)))
    | inr ge ↦ let same : list_at (set ls r xs) g ≡ [] = rw e (past (set ls r xs) r [] (omega (arith, length-set ls r xs))) in
        absurd (omega (arith, h, ap length same))
  ]
  | inr other ↦ let same : list_at (set ls r xs) g ≡ list_at ls g = get_or-set_other ls r g xs [] other in
      rw same (below g i (omega (arith, h, ap length same)))
]

pub below_prefix : (xs ys : List ℕ) (n : ℕ) → ((i : ℕ) → i < length (xs ++ ys) → get_or (xs ++ ys) i 0 < n) → (i : ℕ) → i < length xs → get_or xs i 0 < n
below_prefix xs ys n all i h = subst (λ (y : ℕ). y < n) (get_or_append_left xs ys 0 i h) (all i (omega (arith, length-append xs ys)))

pub below_more : (xs : List ℕ) (x n : ℕ) → ((i : ℕ) → i < length xs → get_or xs i 0 < n) → x < n → (i : ℕ) → i < length (xs ++ x ∷ [])
    → get_or (xs ++ x ∷ []) i 0 < n
below_more xs x n all lt i h = elim (cases_lt i (length xs)) [
  | inl prefix ↦ rw (get_or_append_left xs (x ∷ []) 0 i prefix) (all i prefix)
  | inr back ↦ let e : length xs ≡ i = omega (arith, length-append xs (x ∷ [])) in rw (get_or_at xs x [] 0 i e) lt
]

-- ---- a table without entries
pub lists_of_none : (links : List ℕ) (n m : ℕ) → m ≡ n → lists_in links (replicate m 0) ≡ replicate n []
unfolding list_in
lists_of_none links n m e = rw e (all_lists links (replicate n 0) n (length-replicate n 0) (replicate n []) (length-replicate {A = List ℕ} n [])
    (λ g lt. get_or-replicate n g [] [] lt ∙ ap (frames_in links g) (sym (get_or-replicate n g 0 0 lt))))

pub below_of_none : (n m : ℕ) → AreBelow (replicate n []) m
below_of_none n m r i h = elim (cases_lt r n) [
  | inl lt ↦ absurd (omega (arith, h, ap length (get_or-replicate {A = List ℕ} n r [] [] lt)))
  | inr ge ↦ absurd (omega (arith, h, ap length (past (replicate {A = List ℕ} n []) r [] (omega (arith, length-replicate {A = List ℕ} n [])))))
]
