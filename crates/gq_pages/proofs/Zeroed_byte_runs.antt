-- Bytes set to 0, one after another.
use Rattle.std.proofs.Common.{◌≡◌, ℕ, zero, suc, ◌+◌, ◌<◌, ◌≤◌, ◌⊎◌, List, [], ◌∷◌, ◌++◌, ◌-◌, length, take, drop, set, get_or, replicate, refl, sym, ap, ◌∙◌}
use Rattle.std.proofs.Common.{arith, length-take, length-drop, append-nil, append_assoc}
use Rattle.std.proofs.lemmas.Grind.{common_steps, replicate_next, same_number_lists}
use Rattle.std.proofs.lemmas.List.{length-replicate, get_or-replicate, get_or-take, get_or-drop, get_or-set_other}
use Rattle.std.proofs.lemmas.List.Edits.{paste_none, length-paste, fill_from_more}
use Rattle.gq_pages.specs.Frame_bytes.{zeros, zeroed}

pub zeros_none : zeros 0 ≡ []
unfolding zeros
zeros_none = refl

pub zeros_more : (n : ℕ) → zeros (n + 1) ≡ zeros n ++ 0 ∷ []
unfolding zeros
zeros_more n = replicate_next n 0

pub length-zeros : (n : ℕ) → length (zeros n) ≡ n
unfolding zeros
length-zeros n = length-replicate n 0

pub get_or-zeros : (n i : ℕ) → i < n → get_or (zeros n) i 0 ≡ 0
unfolding zeros
get_or-zeros n i h = get_or-replicate n i 0 0 h

pub length-zeroed : (xs : List ℕ) (start n : ℕ) → start + n ≤ length xs → length (zeroed xs start n) ≡ length xs
unfolding zeroed
length-zeroed xs start n h = length-paste xs start (replicate n 0) n h (omega (arith, length-replicate {A = ℕ} n 0))

pub zeroed_none : (xs : List ℕ) (start n : ℕ) → n ≡ 0 → zeroed xs start n ≡ xs
unfolding zeroed
zeroed_none xs start n e = rw e (sym (paste_none xs start (replicate 0 0)))

pub zeroed_more : (xs : List ℕ) (start n m k : ℕ) → k ≡ start + n → m ≡ n + 1 → k < length xs → set (zeroed xs start n) k 0 ≡ zeroed xs start m
unfolding zeroed
zeroed_more xs start n m k e f h = rw (e, f) (fill_from_more xs start n 0 (omega arith))

pub get_or-zeroed_in : (xs : List ℕ) (start n i : ℕ) → start ≤ i → i < start + n → start + n ≤ length xs → get_or (zeroed xs start n) i 0 ≡ 0
get_or-zeroed_in xs start zero i a b h = absurd (omega arith)
get_or-zeroed_in xs start (suc n) i a b h =
    rw (← zeroed_more xs start n (suc n) (start + n) refl (omega arith) (omega arith))
    (grind (arith, common_steps, length-zeroed xs start n (omega arith), λ (c : i < start + n). get_or-zeroed_in xs start n i a c (omega arith)))

pub get_or-zeroed_out : (xs : List ℕ) (start n i : ℕ) → (i < start) ⊎ (start + n ≤ i) → start + n ≤ length xs → get_or (zeroed xs start n) i 0 ≡ get_or xs i 0
get_or-zeroed_out xs start zero i a h = rw (zeroed_none xs start 0 refl) refl
get_or-zeroed_out xs start (suc n) i a h =
    let b : (i < start) ⊎ (start + n ≤ i) = grind arith in
    rw (← zeroed_more xs start n (suc n) (start + n) refl (omega arith) (omega arith))
    (get_or-set_other (zeroed xs start n) (start + n) i 0 0 (λ (e : i ≡ start + n). grind arith) ∙ get_or-zeroed_out xs start n i b (omega arith))

pub ruleset zeros_steps = (zeros_none, zeros_more, length-zeros)

pub ruleset zeroed_steps = (zeroed_none, zeroed_more, length-zeroed)

pub take-zeroed : (xs : List ℕ) (start n : ℕ) → start + n ≤ length xs → take n (drop start (zeroed xs start n)) ≡ zeros n
take-zeroed xs start n h =
    let long : length (take n (drop start (zeroed xs start n))) ≡ n = omega (
      arith,
      length-take n (drop start (zeroed xs start n)),
      length-drop start (zeroed xs start n),
      length-zeroed xs start n h,
    ) in
    same_number_lists (take n (drop start (zeroed xs start n))) (zeros n) (long ∙ sym (length-zeros n))
    (λ i lt. let below : i < n = omega arith in
    get_or-take n (drop start (zeroed xs start n)) i 0 below ∙ get_or-drop start (zeroed xs start n) i 0
    ∙ get_or-zeroed_in xs start n (start + i) (omega arith) (omega arith) h ∙ sym (get_or-zeros n i below))

pub take-zeroed_other : (xs : List ℕ) (start n a m : ℕ) → (a + m ≤ start) ⊎ (start + n ≤ a) → start + n ≤ length xs
    → take m (drop a (zeroed xs start n)) ≡ take m (drop a xs)
take-zeroed_other xs start n a m apart h =
    let zs = zeroed xs start n in
    let long : length (take m (drop a zs)) ≡ length (take m (drop a xs)) = omega (
      arith,
      length-take m (drop a zs),
      length-drop a zs,
      length-take m (drop a xs),
      length-drop a xs,
      length-zeroed xs start n h,
    ) in
    same_number_lists (take m (drop a zs)) (take m (drop a xs)) long
    (λ i lt. let below : i < m = omega (arith, length-take m (drop a zs)) in let beside : (a + i < start) ⊎ (start + n ≤ a + i) = grind arith in
    get_or-take m (drop a zs) i 0 below ∙ get_or-drop a zs i 0 ∙ get_or-zeroed_out xs start n (a + i) beside h ∙ sym (get_or-drop a xs i 0)
    ∙ sym (get_or-take m (drop a xs) i 0 below))

-- more zeros behind what there was
pub behind_none : (xs : List ℕ) (n : ℕ) → n ≡ 0 → xs ≡ xs ++ zeros n
behind_none xs n e = rw (e, zeros_none) (sym (append-nil xs))

pub behind_more : (xs ys : List ℕ) (a k : ℕ) → a ≤ k → ys ≡ xs ++ zeros (k - a) → ys ++ 0 ∷ [] ≡ xs ++ zeros (k + 1 - a)
behind_more xs ys a k h e =
    let m : k + 1 - a ≡ k - a + 1 = omega arith in
    ap (λ (zs : List ℕ). zs ++ 0 ∷ []) e ∙ append_assoc xs (zeros (k - a)) (0 ∷ []) ∙ ap (λ (zs : List ℕ). xs ++ zs) (sym (zeros_more (k - a)))
    ∙ ap (λ (n : ℕ). xs ++ zeros n) (sym m)
