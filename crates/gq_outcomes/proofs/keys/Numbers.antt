-- Keys of numbers and lists: no key is the beginning of another one.
use Rattle.std.proofs.Common.{◌≡◌, ℕ, zero, suc, ◌+◌, ◌*◌, ◌/◌, ◌%◌, ◌<◌, ◌≤◌, inl, inr, List, [], ◌∷◌, ◌++◌, length, drop, get_or, replicate}
use Rattle.std.proofs.Common.{Some, None}
use Rattle.std.proofs.Common.{refl, ap, sym, ◌∙◌, append_assoc, arith}
use Rattle.std.specs.Prelude.{if◌then◌else◌}
use Rattle.std.proofs.lemmas.Bool.{cases_lt, le-ltb, lt-ltb}
use Rattle.std.proofs.lemmas.Nat.{div-add-mod', div_below}
use Rattle.gq_outcomes.specs.internal.Keys.{bytes_key, each_key, list_key, number_key, number_within, option_key, text_key}

-- what follows a key is known by the key, and so is what it is of
abbrev pub IsFree : {A : Type 0} → (A → List ℕ) → Type 0
IsFree {A} key = (a b : A) (r s : List ℕ) → key a ++ r ≡ key b ++ s → (a ≡ b) × (r ≡ s)

pub head_is : (x y : ℕ) (xs ys : List ℕ) → x ∷ xs ≡ y ∷ ys → x ≡ y
head_is x y xs ys e = ap (λ l. get_or l 0 0) e

pub tail_is : (x y : ℕ) (xs ys : List ℕ) → x ∷ xs ≡ y ∷ ys → xs ≡ ys
tail_is x y xs ys e = ap (drop 1) e

-- NUMBERS

small : (k n : ℕ) → n < 128 → number_within k n ≡ n ∷ []
small zero n l = refl
small (suc k) n l = ap (λ b. if b then n ∷ [] else (n % 128 + 128) ∷ number_within k (n / 128)) (lt-ltb n 128 l)

large : (k n : ℕ) → 128 ≤ n → number_within (suc k) n ≡ (n % 128 + 128) ∷ number_within k (n / 128)
large k n l = ap (λ b. if b then n ∷ [] else (n % 128 + 128) ∷ number_within k (n / 128)) (le-ltb n 128 l)

less : (k n : ℕ) → 128 ≤ n → n ≤ suc k → n / 128 ≤ k
less k n l le = let d = div_below n 128 (suc k) (omega arith) (omega (arith, le)) in omega (arith, d)

whole : (n m : ℕ) → n / 128 ≡ m / 128 → n % 128 ≡ m % 128 → n ≡ m
whole n m d r = sym (div-add-mod' n 128) ∙ (λ i. d i * 128 + r i) ∙ div-add-mod' m 128

-- each byte but the last is 128 or more
apart : (k n m : ℕ) (r s : List ℕ) → n < 128 → 128 ≤ m → m ≤ suc k → n ∷ r ≡ number_within (suc k) m ++ s → ⊥
apart k n m r s l big le e =
    let f = e ∙ ap (λ l. l ++ s) (large k m big) in
    let h = head_is n (m % 128 + 128) r (number_within k (m / 128) ++ s) f in omega (arith, h, l)

small_both : (k j n m : ℕ) (r s : List ℕ) → n < 128 → m < 128 → number_within k n ++ r ≡ number_within j m ++ s → (n ≡ m) × (r ≡ s)
small_both k j n m r s a b e =
    let f = ap (λ l. l ++ r) (sym (small k n a)) ∙ e ∙ ap (λ l. l ++ s) (small j m b) in (head_is n m r s f, tail_is n m r s f)

large_head : (k j n m : ℕ) (r s : List ℕ) → 128 ≤ n → 128 ≤ m → number_within (suc k) n ++ r ≡ number_within (suc j) m ++ s
    → (n % 128 ≡ m % 128) × (number_within k (n / 128) ++ r ≡ number_within j (m / 128) ++ s)
large_head k j n m r s a b e =
    let f = ap (λ l. l ++ r) (sym (large k n a)) ∙ e ∙ ap (λ l. l ++ s) (large j m b) in
    let h = head_is (n % 128 + 128) (m % 128 + 128) (number_within k (n / 128) ++ r) (number_within j (m / 128) ++ s) f in
    (omega (arith, h), tail_is (n % 128 + 128) (m % 128 + 128) (number_within k (n / 128) ++ r) (number_within j (m / 128) ++ s) f)

mixed : (k j n m : ℕ) (r s : List ℕ) → m ≤ j → n < 128 → 128 ≤ m → number_within k n ++ r ≡ number_within j m ++ s → ⊥
mixed k zero n m r s mj a b e = absurd (omega (arith, mj, b))
mixed k (suc j) n m r s mj a b e = apart j n m r s a b mj (ap (λ l. l ++ r) (sym (small k n a)) ∙ e)

pub within_free : (k j n m : ℕ) (r s : List ℕ) → n ≤ k → m ≤ j → number_within k n ++ r ≡ number_within j m ++ s → (n ≡ m) × (r ≡ s)
within_free zero j n m r s nk mj e = elim (cases_lt m 128) [
  | inl b ↦ small_both zero j n m r s (omega (arith, nk)) b e
  | inr b ↦ absurd (mixed zero j n m r s mj (omega (arith, nk)) b e)
]
within_free (suc k) zero n m r s nk mj e = elim (cases_lt n 128) [
  | inl a ↦ small_both (suc k) zero n m r s a (omega (arith, mj)) e
  | inr a ↦ absurd (mixed zero (suc k) m n s r nk (omega (arith, mj)) a (sym e))
]
within_free (suc k) (suc j) n m r s nk mj e = elim (cases_lt n 128) [
  | inl a ↦ elim (cases_lt m 128) [
    | inl b ↦ small_both (suc k) (suc j) n m r s a b e
    | inr b ↦ absurd (mixed (suc k) (suc j) n m r s mj a b e)
  ]
  | inr a ↦ elim (cases_lt m 128) [
    | inl b ↦ absurd (mixed (suc j) (suc k) m n s r nk b a (sym e))
    | inr b ↦
        let h = large_head k j n m r s a b e in
        let p = within_free k j (n / 128) (m / 128) r s (less k n a nk) (less j m b mj) h.1 in
        (whole n m p.0 h.0, p.1)
  ]
]

pub number_free : IsFree number_key
number_free n m r s e = within_free n m n m r s (omega arith) (omega arith) e

-- more room changes nothing
same_within : (k j n : ℕ) → n ≤ k → n ≤ j → number_within k n ≡ number_within j n
same_within zero j n nk nj = small zero n (omega (arith, nk)) ∙ sym (small j n (omega (arith, nk)))
same_within (suc k) zero n nk nj = small (suc k) n (omega (arith, nj)) ∙ sym (small zero n (omega (arith, nj)))
same_within (suc k) (suc j) n nk nj = elim (cases_lt n 128) [
  | inl a ↦ small (suc k) n a ∙ sym (small (suc j) n a)
  | inr a ↦ large k n a ∙ ap (λ l. (n % 128 + 128) ∷ l) (same_within k j (n / 128) (less k n a nk) (less j n a nj)) ∙ sym (large j n a)
]

pub number_small : (n : ℕ) → n < 128 → number_key n ≡ n ∷ []
number_small n l = small n n l

pub number_large : (n : ℕ) → 128 ≤ n → number_key n ≡ (n % 128 + 128) ∷ number_key (n / 128)
number_large zero l = absurd (omega (arith, l))
number_large (suc n) l =
    large n (suc n) l
    ∙ ap (λ r. (suc n % 128 + 128) ∷ r) (same_within n (suc n / 128) (suc n / 128) (less n (suc n) l (omega arith)) (omega arith))

-- ONE AFTER THE OTHER

-- one key behind another one
pub both_free : {A B : Type 0} (f : A → List ℕ) (g : B → List ℕ) → IsFree f → IsFree g → IsFree (λ (p : A × B). f p.0 ++ g p.1)
both_free f g hf hg p q r s e =
    let first = hf p.0 q.0 (g p.1 ++ r) (g q.1 ++ s) (sym (append_assoc (f p.0) (g p.1) r) ∙ e ∙ append_assoc (f q.0) (g q.1) s) in
    let second = hg p.1 q.1 r s first.1 in ((λ i. (first.0 i, second.0 i)), second.1)

-- the key of what something is made of
pub via_free : {A B : Type 0} (of : B → A) (back : A → B) → ((b : B) → back (of b) ≡ b) → (f : A → List ℕ) → IsFree f → IsFree (λ (b : B). f (of b))
via_free of back same f h a b r s e = let p = h (of a) (of b) r s e in (sym (same a) ∙ ap back p.0 ∙ same b, p.1)

-- a mark alone
pub tag_free : {A : Type 0} (tag : A → ℕ) → ((a b : A) → tag a ≡ tag b → a ≡ b) → IsFree (λ (a : A). tag a ∷ [])
tag_free tag same a b r s e = (same a b (head_is (tag a) (tag b) r s e), tail_is (tag a) (tag b) r s e)

pub option_free : {A : Type 0} (f : A → List ℕ) → IsFree f → IsFree (option_key f)
option_free f h None None r s e = (refl, tail_is 0 0 r s e)
option_free f h (Some a) (Some b) r s e = let p = h a b r s (tail_is 1 1 (f a ++ r) (f b ++ s) e) in (ap Some p.0, p.1)
option_free f h None (Some b) r s e = absurd (omega (arith, head_is 0 1 r (f b ++ s) e))
option_free f h (Some a) None r s e = absurd (omega (arith, head_is 1 0 (f a ++ r) s e))

each_free : {A : Type 0} (f : A → List ℕ) → IsFree f → (xs ys : List A) (r s : List ℕ) → length xs ≡ length ys → each_key f xs ++ r ≡ each_key f ys ++ s
    → (xs ≡ ys) × (r ≡ s)
each_free f h [] [] r s n e = (refl, e)
each_free f h [] (y ∷ ys) r s n e = absurd (omega (arith, n))
each_free f h (x ∷ xs) [] r s n e = absurd (omega (arith, n))
each_free f h (x ∷ xs) (y ∷ ys) r s n e =
    let first = h x y (each_key f xs ++ r) (each_key f ys ++ s) (sym (append_assoc (f x) (each_key f xs) r) ∙ e ∙ append_assoc (f y) (each_key f ys) s) in
    let others = each_free f h xs ys r s (omega (arith, n)) first.1 in ((λ i. first.0 i ∷ others.0 i), others.1)

-- what is put at the end stands before what is left
pub grown : (old more first rest left : List ℕ) → more ≡ old ++ first → left ≡ first ++ rest → more ++ rest ≡ old ++ left
grown old more first rest left e h = rw (e, h) (append_assoc old first rest)

-- the key of what is left of a list, one by one
pub each_here : (xs : List ℕ) (i x : ℕ) → i < length xs → x ≡ get_or xs i x
    → each_key number_key (drop i xs) ≡ number_key x ++ each_key number_key (drop (i + 1) xs)
each_here [] i x l e = absurd (omega (arith, l))
each_here (y ∷ xs) zero x l e = ap (λ z. number_key z ++ each_key number_key xs) (sym e)
each_here (y ∷ xs) (suc i) x l e =
    let on : suc (i + 1) ≡ suc i + 1 = omega arith in
    each_here xs i x (omega (arith, l)) e ∙ ap (λ n. number_key x ++ each_key number_key (drop n (y ∷ xs))) on

pub list_free : {A : Type 0} (f : A → List ℕ) → IsFree f → IsFree (list_key f)
list_free f h xs ys r s e =
    let n = number_key (length xs) in
    let m = number_key (length ys) in
    let count = number_free (length xs) (length ys) (each_key f xs ++ r) (each_key f ys ++ s)
    (sym (append_assoc n (each_key f xs) r) ∙ e ∙ append_assoc m (each_key f ys) s) in
    each_free f h xs ys r s count.0 count.1

pub text_free : IsFree text_key
text_free = list_free number_key number_free

-- BYTES

-- zeros and the bytes after them
abbrev zeros_before : ℕ → List ℕ → List ℕ
zeros_before z bytes = replicate z 0 ++ bytes

one_more : (z : ℕ) (bytes : List ℕ) → zeros_before (suc z) bytes ≡ zeros_before z (0 ∷ bytes)
one_more zero bytes = refl
one_more (suc z) bytes = ap (λ l. 0 ∷ l) (one_more z bytes)

bytes_from : (a b : List ℕ) (z y : ℕ) (r s : List ℕ) → bytes_key z a ++ r ≡ bytes_key y b ++ s → (zeros_before z a ≡ zeros_before y b) × (r ≡ s)
bytes_from (zero ∷ a) b z y r s e =
    let p = bytes_from a b (suc z) y r s e in (sym (one_more z a) ∙ p.0, p.1)
bytes_from [] (zero ∷ b) z y r s e =
    let p = bytes_from [] b z (suc y) r s e in (p.0 ∙ one_more y b, p.1)
bytes_from (suc c ∷ a) (zero ∷ b) z y r s e =
    let p = bytes_from (suc c ∷ a) b z (suc y) r s e in (p.0 ∙ one_more y b, p.1)
bytes_from [] [] z y r s e =
    let p = number_free z y (0 ∷ r) (0 ∷ s) (sym (append_assoc (number_key z) (0 ∷ []) r) ∙ e ∙ append_assoc (number_key y) (0 ∷ []) s) in
    (ap (λ n. zeros_before n []) p.0, tail_is 0 0 r s p.1)
bytes_from [] (suc d ∷ b) z y r s e =
    let p = number_free z y (0 ∷ r) ((number_key (suc d) ++ bytes_key 0 b) ++ s)
    (sym (append_assoc (number_key z) (0 ∷ []) r) ∙ e ∙ append_assoc (number_key y) (number_key (suc d) ++ bytes_key 0 b) s) in
    let first = number_free 0 (suc d) r (bytes_key 0 b ++ s) (p.1 ∙ append_assoc (number_key (suc d)) (bytes_key 0 b) s) in
    absurd (omega (arith, first.0))
bytes_from (suc c ∷ a) [] z y r s e =
    let p = number_free z y ((number_key (suc c) ++ bytes_key 0 a) ++ r) (0 ∷ s)
    (sym (append_assoc (number_key z) (number_key (suc c) ++ bytes_key 0 a) r) ∙ e ∙ append_assoc (number_key y) (0 ∷ []) s) in
    let first = number_free (suc c) 0 (bytes_key 0 a ++ r) s (sym (append_assoc (number_key (suc c)) (bytes_key 0 a) r) ∙ p.1) in
    absurd (omega (arith, first.0))
bytes_from (suc c ∷ a) (suc d ∷ b) z y r s e =
    let p = number_free z y ((number_key (suc c) ++ bytes_key 0 a) ++ r) ((number_key (suc d) ++ bytes_key 0 b) ++ s)
    (sym (append_assoc (number_key z) (number_key (suc c) ++ bytes_key 0 a) r) ∙ e ∙ append_assoc (number_key y) (number_key (suc d) ++ bytes_key 0 b) s) in
    let first = number_free (suc c) (suc d) (bytes_key 0 a ++ r) (bytes_key 0 b ++ s)
    (sym (append_assoc (number_key (suc c)) (bytes_key 0 a) r) ∙ p.1 ∙ append_assoc (number_key (suc d)) (bytes_key 0 b) s) in
    let others = bytes_from a b 0 0 r s first.1 in
    ((λ i. zeros_before (p.0 i) (first.0 i ∷ others.0 i)), others.1)

pub bytes_free : IsFree (bytes_key 0)
bytes_free a b r s e = bytes_from a b 0 0 r s e
