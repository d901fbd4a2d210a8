-- Line feeds of a text in two parts, and the table of the places at which its lines start.
use Rattle.std.proofs.Common.{◌≡◌, ℕ, zero, suc, ◌+◌, ◌-◌, ◌<◌, ◌≤◌, ◌≢◌, ◌==◌, Bool, true, false, cond, List, [], ◌∷◌, ◌++◌, length, take, drop, get_or, refl}
use Rattle.std.proofs.Common.{sym, ap, ◌∙◌, arith}
use Rattle.std.proofs.lemmas.List.{take-append-drop, take-take, length-take-le, take_all, take_more}
use Rattle.std.proofs.Common.{length-drop, length-append}
use Rattle.std.proofs.lemmas.Bool.Decides.{nat_tests}
use Rattle.gq_toml_places.specs.Positions.{feeds, since, StartLines}

counted : (b : Bool) (n m : ℕ) → cond b (suc (n + m)) (n + m) ≡ cond b (suc n) n + m
counted true n m = omega arith
counted false n m = refl

pub feeds-append : (a b : List ℕ) → feeds (a ++ b) ≡ feeds a + feeds b
unfolding feeds
feeds-append [] b = omega arith
feeds-append (c ∷ cs) b = rw (feeds-append cs b) (counted (c == 10) (feeds cs) (feeds b))

one_way : (t : Bool) (x y : ℕ) (b : List ℕ) → cond t (since x b) (since y b) ≡ since (cond t x y) b
one_way true x y b = refl
one_way false x y b = refl

pub since-append : (k : ℕ) (a b : List ℕ) → since k (a ++ b) ≡ since (since k a) b
unfolding since
since-append k [] b = refl
since-append k (c ∷ cs) b =
    rw (since-append 0 cs b, since-append (suc k) cs b) (one_way (c == 10) (since 0 cs) (since (suc k) cs) b)

no_feed : (t : Bool) (n : ℕ) → cond t (suc n) n ≡ 0 → (t ≡ false) × (n ≡ 0)
no_feed true n e = absurd (omega (arith, e))
no_feed false n e = (refl, e)

cond_false : {A : Type 0} (b : Bool) (x y : A) → b ≡ false → cond b x y ≡ y
cond_false true x y e = cc
cond_false false x y e = refl

cond_true : {A : Type 0} (b : Bool) (x y : A) → b ≡ true → cond b x y ≡ x
cond_true true x y e = refl
cond_true false x y e = cc

pub since-none : (k : ℕ) (b : List ℕ) → feeds b ≡ 0 → since k b ≡ k + length b
unfolding feeds since
since-none k [] e = omega arith
since-none k (c ∷ cs) e =
    let no = no_feed (c == 10) (feeds cs) e in
    let later = since-none (suc k) cs no.1 in
    cond_false (c == 10) (since 0 cs) (since (suc k) cs) no.0 ∙ later ∙ omega arith

-- the text up to n in two parts
two_parts : (o n : ℕ) (t : List ℕ) → o ≤ n → take n t ≡ take o t ++ drop o (take n t)
two_parts o n t h = sym (ap (λ prefix. prefix ++ drop o (take n t)) (sym (take-take o n t h)) ∙ take-append-drop o (take n t))

rest_length : (o n : ℕ) (t : List ℕ) → n ≤ length t → length (drop o (take n t)) ≡ n - o
rest_length o n t h = omega (arith, length-drop o (take n t), length-take-le n t h)

feeds_split : (o n : ℕ) (t : List ℕ) → o ≤ n → feeds (take n t) ≡ feeds (take o t) + feeds (drop o (take n t))
feeds_split o n t h = ap feeds (two_parts o n t h) ∙ feeds-append (take o t) (drop o (take n t))

since_split : (o n : ℕ) (t : List ℕ) → o ≤ n → since 0 (take n t) ≡ since (since 0 (take o t)) (drop o (take n t))
since_split o n t h = ap (since 0) (two_parts o n t h) ∙ since-append 0 (take o t) (drop o (take n t))

some_feed : (f : ℕ) → (f ≡ 0 → ⊥) → 0 < f
some_feed zero not = absurd (not refl)
some_feed (suc f) not = omega arith

none_left : (k : ℕ) (part : List ℕ) → 0 < length part → since k part ≡ 0 → feeds part ≡ 0 → ⊥
none_left k part some begins e = omega (arith, some, begins, since-none k part e)

-- a part that ends right after a line feed has one more than each shorter part
before_start : (o n : ℕ) (t : List ℕ) → o < n → n ≤ length t → since 0 (take n t) ≡ 0 → feeds (take o t) < feeds (take n t)
before_start o n t less inside begins =
    let part = drop o (take n t) in
    let size = rest_length o n t inside in
    let whole = since_split o n t (omega (arith, less)) in
    let some : 0 < feeds part = some_feed (feeds part) (none_left (since 0 (take o t)) part (omega (arith, less, size)) (sym whole ∙ begins)) in
    omega (arith, some, feeds_split o n t (omega (arith, less)))

-- THE TABLE

-- the lines that start in the first i bytes
pub record StartsUpTo (text : List ℕ) (starts : List ℕ) (i : ℕ) : Type 0 where
  pub some : length starts ≡ suc (feeds (take i text))
  pub within : (k : ℕ) → k < length starts → get_or starts k 0 ≤ length text
  pub before : (k : ℕ) → k < length starts → feeds (take (get_or starts k 0) text) ≡ k
  pub begins : (k : ℕ) → k < length starts → since 0 (take (get_or starts k 0) text) ≡ 0

-- the only place of a list of one
only : (P : ℕ → ℕ → Type 0) (y : ℕ) → P 0 y → (k : ℕ) → k < 1 → P k (get_or (y ∷ []) k 0)
only P y p zero h = p
only P y p (suc k) h = absurd (omega (arith, h))

pub starts_first : (text : List ℕ) → StartsUpTo text (0 ∷ []) 0
unfolding feeds since
starts_first text = record {
  some = refl;
  within = only (λ k y. y ≤ length text) 0 (omega arith);
  before = only (λ k y. feeds (take y text) ≡ k) 0 refl;
  begins = only (λ k y. since 0 (take y text) ≡ 0) 0 refl;
}

-- what holds of each place of a list, and of one more at its end
pushed : (P : ℕ → ℕ → Type 0) (xs : List ℕ) (y : ℕ) → ((k : ℕ) → k < length xs → P k (get_or xs k 0)) → P (length xs) y
    → (k : ℕ) → k < length (xs ++ y ∷ []) → P k (get_or (xs ++ y ∷ []) k 0)
pushed P [] y all p k h = only P y p k (omega (arith, h))
pushed P (x ∷ xs) y all p zero h = all 0 (omega arith)
pushed P (x ∷ xs) y all p (suc k) h =
    pushed (λ j z. P (suc j) z) xs y (λ j less. all (suc j) (omega (arith, less))) p k (omega (arith, h))

feeds_more : (text : List ℕ) (i : ℕ) → i < length text → feeds (take (i + 1) text) ≡ feeds (take i text) + feeds (get_or text i 0 ∷ [])
feeds_more text i h = ap feeds (take_more text i 0 h) ∙ feeds-append (take i text) (get_or text i 0 ∷ [])

one_feed : (c : ℕ) → (c == 10) ≡ true → feeds (c ∷ []) ≡ 1
unfolding feeds
one_feed c e = cond_true (c == 10) 1 0 e

one_other : (c : ℕ) → (c == 10) ≡ false → feeds (c ∷ []) ≡ 0
unfolding feeds
one_other c e = cond_false (c == 10) 1 0 e

begins_after : (k c : ℕ) → (c == 10) ≡ true → since k (c ∷ []) ≡ 0
unfolding since
begins_after k c e = cond_true (c == 10) 0 (suc k) e

-- after a line feed a line starts
pub starts_more : (text starts : List ℕ) (i : ℕ) → StartsUpTo text starts i → i < length text → get_or text i 0 ≡ 10
    → StartsUpTo text (starts ++ (i + 1) ∷ []) (i + 1)
starts_more text starts i so h e =
    let feed : (get_or text i 0 == 10) ≡ true = grind (arith, nat_tests, e) in
    let one = one_feed (get_or text i 0) feed in
    let more = feeds_more text i h in
    let begun = ap (since 0) (take_more text i 0 h) ∙ since-append 0 (take i text) (get_or text i 0 ∷ [])
    ∙ begins_after (since 0 (take i text)) (get_or text i 0) feed in
    record {
      some = omega (arith, so.some, one, more, length-append starts ((i + 1) ∷ []));
      within = pushed (λ k y. y ≤ length text) starts (i + 1) so.within (omega (arith, h));
      before = pushed (λ k y. feeds (take y text) ≡ k) starts (i + 1) so.before (omega (arith, so.some, one, more));
      begins = pushed (λ k y. since 0 (take y text) ≡ 0) starts (i + 1) so.begins begun;
    }

-- after another byte none does
pub starts_same : (text starts : List ℕ) (i : ℕ) → StartsUpTo text starts i → i < length text → get_or text i 0 ≢ 10
    → StartsUpTo text starts (i + 1)
starts_same text starts i so h e =
    let other : (get_or text i 0 == 10) ≡ false = grind (arith, nat_tests, e) in
    record {
      some = omega (arith, so.some, one_other (get_or text i 0) other, feeds_more text i h);
      within = so.within;
      before = so.before;
      begins = so.begins;
    }

-- the table of the whole text
pub starts_all : (text starts : List ℕ) (i : ℕ) → StartsUpTo text starts i → length text ≤ i → StartLines text starts
starts_all text starts i so h = record {
  some = so.some ∙ ap (λ t. suc (feeds t)) (take_all i text h);
  within = so.within;
  before = so.before;
  begins = so.begins;
}

-- THE LINE OF AN OFFSET

feeds_grow : (o n : ℕ) (t : List ℕ) → o ≤ n → feeds (take o t) ≤ feeds (take n t)
feeds_grow o n t h = omega (arith, feeds_split o n t h)

feeds_within : (o : ℕ) (t : List ℕ) → o ≤ length t → feeds (take o t) ≤ feeds t
feeds_within o t h = omega (arith, feeds_grow o (length t) t h, ap feeds (take_all (length t) t (omega arith)))

-- d is the number of lines after line i
not_later : (d : ℕ) (text starts : List ℕ) (i offset : ℕ) → StartLines text starts → length starts ≡ i + 1 + d → offset ≤ length text
    → (i + 1 < length starts → offset < get_or starts (i + 1) 0) → feeds (take offset text) ≤ i
not_later zero text starts i offset is e h after = omega (arith, e, is.some, feeds_within offset text h)
not_later (suc d) text starts i offset is e h after =
    let there : i + 1 < length starts = omega (arith, e) in
    let less = before_start offset (get_or starts (i + 1) 0) text (after there) (is.within (i + 1) there) (is.begins (i + 1) there) in
    omega (arith, less, is.before (i + 1) there)

pub line_is : (text starts : List ℕ) (i offset : ℕ) → StartLines text starts → i < length starts → get_or starts i 0 ≤ offset
    → offset ≤ length text → (i + 1 < length starts → offset < get_or starts (i + 1) 0) → feeds (take offset text) ≡ i
line_is text starts i offset is there before h after =
    let later = not_later (length starts - (i + 1)) text starts i offset is (omega (arith, there)) h after in
    omega (arith, later, is.before i there, feeds_grow (get_or starts i 0) offset text before)

pub column_is : (text starts : List ℕ) (i offset : ℕ) → StartLines text starts → i < length starts → get_or starts i 0 ≤ offset
    → offset ≤ length text → feeds (take offset text) ≡ i → since 0 (take offset text) ≡ offset - get_or starts i 0
column_is text starts i offset is there before h line =
    let start = get_or starts i 0 in
    let part = drop start (take offset text) in
    let none : feeds part ≡ 0 = omega (arith, feeds_split start offset text before, is.before i there, line) in
    let alone = since-none (since 0 (take start text)) part none in
    omega (arith, alone, since_split start offset text before, is.begins i there, rest_length start offset text h)

-- the first line starts at 0
pub starts_zero : (text starts : List ℕ) → StartLines text starts → get_or starts 0 0 ≡ 0
starts_zero text starts is =
    let there : 0 < length starts = omega (arith, is.some) in
    let alone = since-none 0 (take (get_or starts 0 0) text) (is.before 0 there) in
    omega (arith, alone, is.begins 0 there, length-take-le (get_or starts 0 0) text (is.within 0 there))

-- the number that stands for a place past the end is no matter at a place
pub at_place : (xs : List ℕ) (k d : ℕ) → k < length xs → get_or xs k d ≡ get_or xs k 0
at_place [] k d h = absurd (omega (arith, h))
at_place (x ∷ xs) zero d h = refl
at_place (x ∷ xs) (suc k) d h = at_place xs k d (omega (arith, h))
