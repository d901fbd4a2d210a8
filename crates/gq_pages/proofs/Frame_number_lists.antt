-- The numbers of the frames, and the list of them.
use Rattle.std.proofs.Common.{◌≡◌, ℕ, zero, suc, ◌+◌, ◌-◌, ◌<◌, ◌≤◌, inl, inr, List, [], ◌∷◌, ◌++◌, length, set, get_or, cond, Bool, true, false, not, ◌||◌}
use Rattle.std.proofs.Common.{Option, Some, None, IsTrue, refl, sym, ap, subst, ◌∙◌, arith, length-set}
use Rattle.std.proofs.lemmas.Bool.{cases_lt, cases_eq}
use Rattle.std.proofs.lemmas.Bool.Decides.{nat_tests}
use Rattle.std.specs.List.{range_with_len}
use Rattle.std.proofs.lemmas.List.Sums.{fold-append}
use Rattle.std.proofs.lemmas.List.{get_or-set_same, get_or-set_other}
use Rattle.std.proofs.lemmas.List.FromFn.{length-map-range_with_len, get_or-map-range_with_len, map-range_with_len_more, fill_by_all}
use Rattle.gq_pages.specs.Frame_bytes.{word_at}
use Rattle.gq_pages.specs.Frame_map.{Frames, IsTaken, IsFree, bytes_of, count_free, has_bytes, its_bytes}
use Rattle.gq_pages.specs.internal.Region_layout.{chain, IsChain, is_listed, AreFrames, page, frame_at, frames_of}

pub range_more : (a n : ℕ) → range_with_len a (n + 1) ≡ range_with_len a n ++ (a + n) ∷ []
range_more a zero = grind arith
range_more a (suc n) = grind (arith, range_more (a + 1) n)

-- ---- numbers in a list
pub listed-append : (xs ys : List ℕ) (k : ℕ) → is_listed (xs ++ ys) k ≡ is_listed xs k || is_listed ys k
listed-append [] ys k = refl
listed-append (x ∷ xs) ys k = grind (arith, nat_tests, listed-append xs ys k)

pub frames_prefix : (n : ℕ) (xs : List ℕ) (k : ℕ) → AreFrames n (xs ++ k ∷ []) → AreFrames n xs × (k < n) × (is_listed xs k ≡ false)
frames_prefix n [] k h = (tt, h.0, refl)
frames_prefix n (x ∷ xs) k h =
    let ih : AreFrames n xs × (k < n) × (is_listed xs k ≡ false) = frames_prefix n xs k h.2 in
    let a : is_listed xs x || is_listed (k ∷ []) x ≡ false = sym (listed-append xs (k ∷ []) x) ∙ h.1 in
    let b : is_listed xs x ≡ false = grind (arith, nat_tests) in
    let c : is_listed (x ∷ xs) k ≡ false = grind (arith, nat_tests) in
    ((h.0, b, ih.0), ih.1, c)

pub frames_push : (n : ℕ) (xs : List ℕ) (k : ℕ) → AreFrames n xs → k < n → is_listed xs k ≡ false → AreFrames n (xs ++ k ∷ [])
frames_push n [] k h lt out = (lt, refl, tt)
frames_push n (x ∷ xs) k h lt out =
    let a : is_listed xs k ≡ false = grind (arith, nat_tests) in
    let b : is_listed (xs ++ k ∷ []) x ≡ false = rw listed-append (grind (arith, nat_tests)) in
    (h.0, b, frames_push n xs k h.2 lt a)

-- ---- 0, 1, .., up to n
pub listed_below_range : (a n k : ℕ) → k < a → is_listed (range_with_len a n) k ≡ false
listed_below_range a zero k h = refl
listed_below_range a (suc n) k h = grind (arith, nat_tests, listed_below_range (a + 1) n k (omega arith))

pub listed_in_range : (a n k : ℕ) → a ≤ k → k < a + n → is_listed (range_with_len a n) k ≡ true
listed_in_range a zero k h lt = absurd (omega arith)
listed_in_range a (suc n) k h lt = grind (arith, nat_tests, λ (b : a + 1 ≤ k). listed_in_range (a + 1) n k b (omega arith))

pub frames_range : (a n m : ℕ) → a + n ≤ m → AreFrames m (range_with_len a n)
frames_range a zero m h = tt
frames_range a (suc n) m h = (omega arith, listed_below_range (a + 1) n a (omega arith), frames_range (a + 1) n m (omega arith))

-- ---- how many numbers below n are listed
abbrev one_if : Bool → ℕ
one_if b = cond b 1 0

abbrev listed_below : List ℕ → ℕ → ℕ
listed_below xs zero = 0
listed_below xs (suc n) = one_if (is_listed xs n) + listed_below xs n

listed_below_none : (n : ℕ) → listed_below [] n ≡ 0
listed_below_none zero = refl
listed_below_none (suc n) = omega (arith, listed_below_none n)

listed_below_past : (x : ℕ) (xs : List ℕ) (n : ℕ) → n ≤ x → listed_below (x ∷ xs) n ≡ listed_below xs n
listed_below_past x xs zero h = refl
listed_below_past x xs (suc n) h = let ih = listed_below_past x xs n (omega arith) in grind (arith, nat_tests)

listed_below_more : (x : ℕ) (xs : List ℕ) (n : ℕ) → x < n → is_listed xs x ≡ false → listed_below (x ∷ xs) n ≡ listed_below xs n + 1
listed_below_more x xs zero h out = absurd (omega arith)
listed_below_more x xs (suc n) h out = grind (arith, nat_tests, listed_below_past x xs n, λ (lt : x < n). listed_below_more x xs n lt out)

listed_below_all : (n : ℕ) (xs : List ℕ) → AreFrames n xs → listed_below xs n ≡ length xs
listed_below_all n [] h = listed_below_none n
listed_below_all n (x ∷ xs) h = omega (arith, listed_below_more x xs n h.0 h.1, listed_below_all n xs h.2)

listed_below-le : (xs : List ℕ) (n : ℕ) → listed_below xs n ≤ n
listed_below-le xs zero = omega arith
listed_below-le xs (suc n) = grind (arith, nat_tests, listed_below-le xs n)

listed_below-lt : (xs : List ℕ) (n k : ℕ) → k < n → is_listed xs k ≡ false → listed_below xs n < n
listed_below-lt xs zero k h out = absurd (omega arith)
listed_below-lt xs (suc n) k h out = grind (arith, nat_tests, listed_below-le xs n, λ (lt : k < n). listed_below-lt xs n k lt out)

-- some frame is not free, so fewer are
pub fewer_free : (n : ℕ) (xs : List ℕ) (k : ℕ) → AreFrames n xs → k < n → is_listed xs k ≡ false → length xs < n
fewer_free n xs k h lt out = omega (arith, listed_below_all n xs h, listed_below-lt xs n k lt out)

pub no_more_free : (n : ℕ) (xs : List ℕ) → AreFrames n xs → length xs ≤ n
no_more_free n xs h = omega (arith, listed_below_all n xs h, listed_below-le xs n)

-- ---- the list of all frames
pub length-frames_of : (n : ℕ) (bs free : List ℕ) → length (frames_of n bs free) ≡ n
unfolding frames_of
length-frames_of n bs free = length-map-range_with_len (frame_at bs free) 0 n

pub get_or-frames_of : (n : ℕ) (bs free : List ℕ) (k : ℕ) → k < n → get_or (frames_of n bs free) k None ≡ frame_at bs free k
unfolding frames_of
get_or-frames_of n bs free k h = get_or-map-range_with_len (frame_at bs free) 0 n k k None h (omega arith)

is_past : {X : Type 0} (l : List X) (k : ℕ) (d : X) → length l ≤ k → get_or l k d ≡ d
is_past [] k d h = refl
is_past (x ∷ xs) zero d h = absurd (omega arith)
is_past (x ∷ xs) (suc k) d h = is_past xs k d (omega arith)

cell_counts : (b : Bool) (bs : List ℕ) → one_if (not (has_bytes (cond b None (Some bs)))) ≡ one_if b
cell_counts true bs = refl
cell_counts false bs = refl

cell_says : (b : Bool) (bs : List ℕ) → IsTrue (has_bytes (cond b None (Some bs))) → (b ≡ false) × (its_bytes (cond b None (Some bs)) ≡ bs)
cell_says true bs h = cc
cell_says false bs h = (refl, refl)

-- what a taken frame is
pub is_taken_says : (n : ℕ) (bs free : List ℕ) (k : ℕ) → IsTaken (frames_of n bs free) k → (k < n) × (is_listed free k ≡ false)
    × (bytes_of (frames_of n bs free) k ≡ page bs k)
unfolding frame_at
is_taken_says n bs free k h = elim (cases_lt k n) [
  | inl lt ↦ let e : get_or (frames_of n bs free) k None ≡ frame_at bs free k = get_or-frames_of n bs free k lt in
      let t : (is_listed free k ≡ false) × (its_bytes (frame_at bs free k) ≡ page bs k) = cell_says (is_listed free k) (page bs k) (ap has_bytes (sym e) ∙ h) in
      (lt, t.0, ap its_bytes e ∙ t.1)
  | inr ge ↦ let e : get_or (frames_of n bs free) k None ≡ None = is_past (frames_of n bs free) k None (omega (arith, length-frames_of n bs free)) in
      let t : false ≡ true = ap has_bytes (sym e) ∙ h in cc
]

-- one frame of the list is another
pub frames_of_set : (n : ℕ) (bs free bs' free' : List ℕ) (k : ℕ) (v : Option (List ℕ)) → k < n → frame_at bs' free' k ≡ v
    → ((j : ℕ) → j < n → (j ≡ k → ⊥) → frame_at bs' free' j ≡ frame_at bs free j) → frames_of n bs' free' ≡ set (frames_of n bs free) k v
unfolding frames_of
frames_of_set n bs free bs' free' k v lt here there =
    sym (fill_by_all (frame_at bs' free') (set (frames_of n bs free) k v) n None (length-set (frames_of n bs free) k v ∙ length-frames_of n bs free)
    (λ j below. elim (cases_eq j k) [
      | inl same ↦ rw same (get_or-set_same (frames_of n bs free) k v None (omega (arith, length-frames_of n bs free)) ∙ sym here)
      | inr other ↦ get_or-set_other (frames_of n bs free) k j v None other ∙ get_or-frames_of n bs free j below ∙ sym (there j below other)
    ]))

count_free_push : (fs : Frames) (f : Option (List ℕ)) → count_free (fs ++ f ∷ []) ≡ count_free fs + one_if (not (has_bytes f))
count_free_push fs f = fold-append _ 0 fs (f ∷ [])

count_free_below : (n : ℕ) (bs free : List ℕ) → count_free (frames_of n bs free) ≡ listed_below free n
unfolding frames_of frame_at
count_free_below zero bs free = refl
count_free_below (suc n) bs free =
    let m : suc n ≡ n + 1 = omega arith in
    let e : frames_of (suc n) bs free ≡ frames_of n bs free ++ frame_at bs free n ∷ [] = ap (λ k. frames_of k bs free) m
    ∙ map-range_with_len_more (frame_at bs free) 0 n n (omega arith) in
    let f : one_if (not (has_bytes (frame_at bs free n))) ≡ one_if (is_listed free n) = cell_counts (is_listed free n) (page bs n) in
    let g : count_free (frames_of n bs free ++ frame_at bs free n ∷ []) ≡ count_free (frames_of n bs free) + one_if (not (has_bytes (frame_at bs free n))) =
    count_free_push (frames_of n bs free) (frame_at bs free n) in
    ap count_free e ∙ g ∙ omega (arith, count_free_below n bs free, f)

pub count_free-frames_of : (n : ℕ) (bs free : List ℕ) → AreFrames n free → count_free (frames_of n bs free) ≡ length free
count_free-frames_of n bs free h = count_free_below n bs free ∙ listed_below_all n free h

-- ---- what the methods do to the list
-- the bytes of a taken frame change
pub frames_written : (n : ℕ) (bs bs' free : List ℕ) (k : ℕ) (xs : List ℕ) → k < n → is_listed free k ≡ false → page bs' k ≡ xs
    → ((j : ℕ) → (j ≡ k → ⊥) → page bs' j ≡ page bs j)
    → frames_of n bs' free ≡ set (frames_of n bs free) k (Some xs)
unfolding frame_at
frames_written n bs bs' free k xs lt taken here there =
    frames_of_set n bs free bs' free k (Some xs) lt (rw taken (ap Some here)) (λ j below other. ap (λ (ys : List ℕ). cond (is_listed free j) None (Some ys))
    (there j other))

-- the first of the free frames is taken
pub frames_taken : (n : ℕ) (bs bs' free : List ℕ) (k : ℕ) (xs : List ℕ) → AreFrames n (k ∷ free) → page bs' k ≡ xs
    → ((j : ℕ) → (j ≡ k → ⊥) → page bs' j ≡ page bs j)
    → frames_of n bs' free ≡ set (frames_of n bs (k ∷ free)) k (Some xs)
unfolding frame_at
frames_taken n bs bs' free k xs h here there =
    frames_of_set n bs (k ∷ free) bs' free k (Some xs) h.0 (rw h.1 (ap Some here))
    (λ j below other. let e : is_listed (k ∷ free) j ≡ is_listed free j = grind (arith, nat_tests) in
    rw e (ap (λ (ys : List ℕ). cond (is_listed free j) None (Some ys)) (there j other)))

pub first_was_free : (n : ℕ) (bs free : List ℕ) (k : ℕ) → k < n → IsFree (frames_of n bs (k ∷ free)) k
unfolding frame_at
first_was_free n bs free k lt =
    let e : is_listed (k ∷ free) k ≡ true = grind (arith, nat_tests) in
    (omega (arith, length-frames_of n bs (k ∷ free)), get_or-frames_of n bs (k ∷ free) k lt ∙ rw e refl)

-- the free frames with k among them
listed_here : (xs ys : List ℕ) (k : ℕ) → is_listed (xs ++ k ∷ ys) k ≡ true
listed_here [] ys k = grind (arith, nat_tests)
listed_here (x ∷ xs) ys k = grind (arith, nat_tests, listed_here xs ys k)

listed_other : (xs ys : List ℕ) (k j : ℕ) → (j ≡ k → ⊥) → is_listed (xs ++ k ∷ ys) j ≡ is_listed (xs ++ ys) j
listed_other [] ys k j other = grind (arith, nat_tests)
listed_other (x ∷ xs) ys k j other = grind (arith, nat_tests, listed_other xs ys k j other)

pub frames_without : (n : ℕ) (xs ys : List ℕ) (k : ℕ) → AreFrames n (xs ++ k ∷ ys) → AreFrames n (xs ++ ys) × (k < n) × (is_listed (xs ++ ys) k ≡ false)
frames_without n [] ys k h = (h.2, h.0, h.1)
frames_without n (x ∷ xs) ys k h =
    let ih : AreFrames n (xs ++ ys) × (k < n) × (is_listed (xs ++ ys) k ≡ false) = frames_without n xs ys k h.2 in
    let other : x ≡ k → ⊥ = λ e. let t : is_listed (xs ++ k ∷ ys) x ≡ true = ap (is_listed (xs ++ k ∷ ys)) e ∙ listed_here xs ys k in
    let f : true ≡ false = sym t ∙ h.1 in cc in
    let b : is_listed (xs ++ ys) x ≡ false = sym (listed_other xs ys k x other) ∙ h.1 in
    let c : is_listed (x ∷ (xs ++ ys)) k ≡ false = grind (arith, nat_tests) in
    ((h.0, b, ih.0), ih.1, c)

-- one of the free frames is taken
pub frames_taken_within : (n : ℕ) (bs bs' xs ys : List ℕ) (k : ℕ) (zs : List ℕ) → AreFrames n (xs ++ k ∷ ys) → page bs' k ≡ zs
    → ((j : ℕ) → (j ≡ k → ⊥) → page bs' j ≡ page bs j)
    → frames_of n bs' (xs ++ ys) ≡ set (frames_of n bs (xs ++ k ∷ ys)) k (Some zs)
unfolding frame_at
frames_taken_within n bs bs' xs ys k zs h here there =
    let w = frames_without n xs ys k h in
    frames_of_set n bs (xs ++ k ∷ ys) bs' (xs ++ ys) k (Some zs) w.1 (rw w.2 (ap Some here))
    (λ j below other. rw (listed_other xs ys k j other) (ap (λ (us : List ℕ). cond (is_listed (xs ++ ys) j) None (Some us)) (there j other)))

pub was_free_within : (n : ℕ) (bs xs ys : List ℕ) (k : ℕ) → k < n → IsFree (frames_of n bs (xs ++ k ∷ ys)) k
unfolding frame_at
was_free_within n bs xs ys k lt = (
  omega (arith, length-frames_of n bs (xs ++ k ∷ ys)),
  get_or-frames_of n bs (xs ++ k ∷ ys) k lt
      ∙ rw (listed_here xs ys k) refl,
)

-- a frame is given back, and its bytes may change
pub frames_given : (n : ℕ) (bs bs' free : List ℕ) (k : ℕ) → k < n → ((j : ℕ) → (j ≡ k → ⊥) → page bs' j ≡ page bs j)
    → frames_of n bs' (k ∷ free) ≡ set (frames_of n bs free) k None
unfolding frame_at
frames_given n bs bs' free k lt there =
    let e : is_listed (k ∷ free) k ≡ true = grind (arith, nat_tests) in
    frames_of_set n bs free bs' (k ∷ free) k None lt (rw e refl)
    (λ j below other. let f : is_listed (k ∷ free) j ≡ is_listed free j = grind (arith, nat_tests) in
    rw f (ap (λ (ys : List ℕ). cond (is_listed free j) None (Some ys)) (there j other)))

-- ---- the chain
-- it reads the frames that are listed in it, and no other
pub chain_same : (m : ℕ) (bs bs' : List ℕ) (link : ℕ) → ((j : ℕ) → is_listed (chain m bs link) j ≡ true → page bs' j ≡ page bs j)
    → (chain m bs' link ≡ chain m bs link) × (IsChain m bs link → IsChain m bs' link)
chain_same zero bs bs' link same = (refl, λ (h : link ≡ 0). h)
chain_same (suc m) bs bs' link same =
    let k = link - 1 in let next = word_at (page bs k) 0 in
    let here : is_listed (chain (suc m) bs link) k ≡ true = grind (arith, nat_tests) in
    let e : word_at (page bs' k) 0 ≡ next = ap (λ (xs : List ℕ). word_at xs 0) (same k here) in
    let ih : (chain m bs' next ≡ chain m bs next) × (IsChain m bs next → IsChain m bs' next) =
    chain_same m bs bs' next (λ j h. let h' : is_listed (chain (suc m) bs link) j ≡ true = grind (arith, nat_tests) in same j h') in
    (ap (λ (xs : List ℕ). k ∷ xs) (ap (chain m bs') e ∙ ih.0), λ (h : IsChain (suc m) bs link). (h.0, subst (IsChain m bs') (sym e) (ih.1 h.1)))

-- a change of a frame that is not listed
pub chain_kept : (m : ℕ) (bs bs' : List ℕ) (link k : ℕ) → is_listed (chain m bs link) k ≡ false → ((j : ℕ) → (j ≡ k → ⊥) → page bs' j ≡ page bs j)
    → (chain m bs' link ≡ chain m bs link) × (IsChain m bs link → IsChain m bs' link)
chain_kept m bs bs' link k out there = chain_same m bs bs' link (λ j h. there j (λ (e : j ≡ k). let x : is_listed (chain m bs link) k ≡ true =
    ap (is_listed (chain m bs link)) (sym e) ∙ h in let y : true ≡ false = sym x ∙ out in cc))

pub length-chain : (m : ℕ) (bs : List ℕ) (link : ℕ) → length (chain m bs link) ≡ m
length-chain zero bs link = refl
length-chain (suc m) bs link = ap suc (length-chain m bs (word_at (page bs (link - 1)) 0))

pub some_free : (m : ℕ) (bs : List ℕ) (link : ℕ) → IsChain m bs link → 0 < link → 0 < m
some_free zero bs link h lt = absurd (omega (arith, h))
some_free (suc m) bs link h lt = omega arith

pub none_free : (m : ℕ) (bs : List ℕ) (link : ℕ) → IsChain m bs link → link ≡ 0 → m ≡ 0
none_free zero bs link h e = refl
none_free (suc m) bs link h e = absurd (omega (arith, h.0))

-- a frame that is not listed is linked before the others
pub links_one : (m : ℕ) (bs bs' : List ℕ) (link k : ℕ) → is_listed (chain m bs link) k ≡ false → word_at (page bs' k) 0 ≡ link
    → ((j : ℕ) → (j ≡ k → ⊥) → page bs' j ≡ page bs j)
    → (chain (suc m) bs' (k + 1) ≡ k ∷ chain m bs link) × (IsChain m bs link → IsChain (suc m) bs' (k + 1))
links_one m bs bs' link k out here there =
    let kept : (chain m bs' link ≡ chain m bs link) × (IsChain m bs link → IsChain m bs' link) = chain_kept m bs bs' link k out there in
    let e : k + 1 - 1 ≡ k = omega arith in
    let w : word_at (page bs' (k + 1 - 1)) 0 ≡ link = ap (λ (j : ℕ). word_at (page bs' j) 0) e ∙ here in
    ((λ i. e i ∷ (ap (chain m bs') w ∙ kept.0) i), λ (h : IsChain m bs link). (omega arith, subst (IsChain m bs') (sym w) (kept.1 h)))

pub first_small : (n m : ℕ) (bs : List ℕ) (link : ℕ) → IsChain m bs link → AreFrames n (chain m bs link) → link ≤ n
first_small n zero bs link h all = omega (arith, h)
first_small n (suc m) bs link h all = omega (arith, h.0, all.0)
