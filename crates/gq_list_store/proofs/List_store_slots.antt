-- Slots of the list.
use Rattle.std.proofs.Common.{◌≡◌, ℕ, zero, suc, ◌+◌, ◌-◌, ◌*◌, ◌/◌, ◌%◌, ◌<◌, ◌≤◌, ◌⊎◌, inl, inr, List, [], ◌∷◌, length, length-set, get_or, set, sum, cond}
use Rattle.std.proofs.Common.{Bool, true, false, ltb, Option, Some, None, refl, sym, ap, subst, ◌∙◌, arith, get_or-set_same, get_or-set_other}
use Rattle.std.proofs.Math.Nat.{mul-le-mul_right, div-div-eq-div-mul}
use Rattle.std.proofs.lemmas.Bool.{cases_lt, cases_eq, cases_order}
use Rattle.std.proofs.lemmas.Bool.Decides.{nat_tests}
use Rattle.std.proofs.lemmas.List.{get_or_past}
use Rattle.std.proofs.lemmas.List.Sums.{sum_by-set, count_by-le-length, sum_by-cons}
use Rattle.std.proofs.lemmas.Nat.{same_from_place}
use Rattle.std.specs.List.{count_by, sum_by}
use Rattle.gq_store.specs.Store.{Store, word, IsWord, Writes, Grows, Shrinks, one_more}
use Rattle.gq_list_store.specs.Chunk_layout.{AreSlots, byte_at, caps_or_none}

abbrev pub the_store : List ℕ → List ℕ → ℕ → ℕ → Option ℕ → Store
the_store bytes sizes stride left caps = record { byte = byte_at bytes sizes stride; size = λ k. get_or sizes k 0; left = left; caps = caps }

abbrev pub used : ℕ → Bool
used n = ltb 0 n

abbrev one_if : Bool → ℕ
one_if b = cond b 1 0

cond_same : (b : Bool) (x y : ℕ) → (b ≡ true → x ≡ y) → cond b x 0 ≡ cond b y 0
cond_same true x y h = h refl
cond_same false x y h = refl

below : (m n : ℕ) → ltb m n ≡ true → m < n
below m n e = grind (arith, nat_tests)

is_below : (m n : ℕ) → m < n → ltb m n ≡ true
is_below m n e = grind (arith, nat_tests)

module _ (bytes sizes : List ℕ) (stride left : ℕ) (caps : Option ℕ) (a : AreSlots bytes sizes stride left caps) where
  pub slots_few : length sizes ≤ 16384
  slots_few = omega (arith, a.room, a.few)

  pub slot_there : (c : ℕ) → 0 < get_or sizes c 0 → c < length sizes
  slot_there c h = elim (cases_lt c (length sizes)) [ inl l ↦ l | inr g ↦ absurd (omega (arith, get_or_past sizes c 0 g)) ]

  -- a byte is written
  pub writes : (c o v : ℕ) → o < get_or sizes c 0
      → Writes (the_store bytes sizes stride left caps) (the_store (set bytes (c * stride + o) v) sizes stride left caps) c o 1
  writes c o v h = record {
    elsewhere = λ k i out. cond_same (ltb i (get_or sizes k 0)) _ _ (λ e.
        let l : i < get_or sizes k 0 = below i (get_or sizes k 0) e in
        get_or-set_other bytes (c * stride + o) (k * stride + i) v 0 (λ f.
        let p = same_from_place k i c o stride (omega (arith, a.fits k)) (omega (arith, a.fits c)) f in
        out p.0 (omega (arith, p.1)) (omega (arith, p.1))));
    size = λ k. refl;
    left = refl;
    caps = refl;
  }

  pub wrote : (j v : ℕ) → AreSlots (set bytes j v) sizes stride left caps
  wrote j v = record {
    whole = length-set bytes j v ∙ a.whole;
    fits = a.fits;
    pages = a.pages;
    paid = a.paid;
    room = a.room;
    few = a.few;
    caps_few =
        a.caps_few;
  }

  -- some bytes are cleared
  pub slot_room : (c o n : ℕ) → 0 < n → o + n ≤ get_or sizes c 0 → c * stride + o + n ≤ length bytes
  slot_room c o n some h = omega (arith, mul-le-mul_right stride (slot_there c (omega arith)), a.whole, a.fits c)

  module _ (c o n : ℕ) (cleared : List ℕ) (inside : o + n ≤ get_or sizes c 0)
      (zero_there : (i : ℕ) → c * stride + o ≤ i → i < c * stride + o + n → get_or cleared i 0 ≡ 0)
      (others : (i : ℕ) → (i < c * stride + o) ⊎ (c * stride + o + n ≤ i) → get_or cleared i 0 ≡ get_or bytes i 0) where
    outside : (k i : ℕ) → i < get_or sizes k 0 → (k ≡ c → o ≤ i → i < o + n → ⊥) → get_or cleared (k * stride + i) 0 ≡ get_or bytes (k * stride + i) 0
    outside k i l out = elim (cases_order k c) [
      | inl e ↦
          let same : k * stride ≡ c * stride = ap (λ x. x * stride) e in
          elim (cases_lt i o) [
            | inl b ↦ others (k * stride + i) (inl (omega (arith, same)))
            | inr b ↦ elim (cases_lt i (o + n)) [
              | inl d ↦ absurd (out e b d)
              | inr d ↦ others (k * stride + i) (inr (omega (arith, same)))
            ]
          ]
      | inr (inl less) ↦ others (k * stride + i) (inl (omega (arith, mul-le-mul_right stride less, a.fits k)))
      | inr (inr more) ↦ others (k * stride + i) (inr (omega (arith, mul-le-mul_right stride more, a.fits c)))
    ]

    pub clears : Writes (the_store bytes sizes stride left caps) (the_store cleared sizes stride left caps) c o n
    clears = record {
      elsewhere = λ k i out. cond_same (ltb i (get_or sizes k 0)) _ _ (λ e. outside k i (below i (get_or sizes k 0) e) out);
      size = λ k. refl;
      left = refl;
      caps = refl;
    }

    pub is_clear : (i : ℕ) → o ≤ i → i < o + n → byte_at cleared sizes stride c i ≡ 0
    is_clear i from to =
        ap (λ b. cond b (get_or cleared (c * stride + i) 0) 0) (is_below i (get_or sizes c 0) (omega arith))
        ∙ zero_there (c * stride + i) (omega arith) (omega arith)

  pub has_cleared : (cleared : List ℕ) → length cleared ≡ length bytes → AreSlots cleared sizes stride left caps
  has_cleared cleared long = record {
    whole = long ∙ a.whole;
    fits = a.fits;
    pages = a.pages;
    paid = a.paid;
    room = a.room;
    few = a.few;
    caps_few = a.caps_few;
  }

  -- a chunk goes
  pub shrinks : (c : ℕ) → 0 < get_or sizes c 0
      → Shrinks (the_store bytes sizes stride left caps) (the_store bytes (set sizes c 0) stride (left + get_or sizes c 0) (one_more caps)) c
  shrinks c h = record {
    gone = get_or-set_same sizes c 0 0 (slot_there c h);
    sizes = λ k ne. get_or-set_other sizes c k 0 0 ne;
    bytes = λ k i ne. ap (λ n. cond (ltb i n) (get_or bytes (k * stride + i) 0) 0) (get_or-set_other sizes c k 0 0 ne);
    back = refl;
    caps = refl;
  }

  set_each : (c n : ℕ) (P : ℕ → Type 0) → P n → ((k : ℕ) → P (get_or sizes k 0)) → c < length sizes → (k : ℕ) → P (get_or (set sizes c n) k 0)
  set_each c n P new old l k = elim (cases_eq k c) [
    | inl e ↦ subst P (sym (ap (λ x. get_or (set sizes c n) x 0) e ∙ get_or-set_same sizes c n 0 l)) new
    | inr ne ↦ subst P (sym (get_or-set_other sizes c k n 0 ne)) (old k)
  ]

  one_less : (m : ℕ) (o : Option ℕ) → caps_or_none o + suc m ≤ 81920 → caps_or_none (one_more o) + m ≤ 81920
  one_less m None h = omega arith
  one_less m (Some n) h = omega arith

  count_set : (c n : ℕ) → c < length sizes → count_by used (set sizes c n) + cond (used (get_or sizes c 0)) 1 0 ≡ count_by used sizes + cond (used n) 1 0
  count_set c n l = sum_by-set (λ x. cond (used x) 1 0) sizes c n 0 l

  sum_set : (c n : ℕ) → c < length sizes → sum (set sizes c n) + get_or sizes c 0 ≡ sum sizes + n
  sum_set c n l = sum_by-set (λ x. x) sizes c n 0 l

  pub shrunk : (c : ℕ) → 0 < get_or sizes c 0 → AreSlots bytes (set sizes c 0) stride (left + get_or sizes c 0) (one_more caps)
  shrunk c h =
      let l = slot_there c h in
      let u : used (get_or sizes c 0) ≡ true = is_below 0 (get_or sizes c 0) h in
      let n : count_by used (set sizes c 0) + 1 ≡ count_by used sizes = sym (ap (λ b. count_by used (set sizes c 0) + cond b 1 0) u) ∙ count_set c 0 l ∙
      omega arith in
      record {
        whole = a.whole ∙ ap (λ x. x * stride) (sym (length-set sizes c 0));
        fits = set_each c 0 (λ x. x ≤ stride) (omega arith) a.fits l;
        pages = set_each c 0 (λ x. 0 < x → 4096 ≤ x) (λ e. absurd (omega arith)) a.pages l;
        paid = omega (arith, a.paid, sum_set c 0 l);
        room = omega (arith, a.room, length-set sizes c 0);
        few = a.few;
        caps_few = one_less (count_by used (set sizes c 0)) caps (omega (arith, a.caps_few, n));
      }

  -- a chunk comes
  module _ (k n : ℕ) (cleared : List ℕ) (lt : k < length sizes) (free : get_or sizes k 0 ≡ 0) (some : 4096 ≤ n) (room : n ≤ left)
      (long : length cleared ≡ length bytes) (zero_there : (i : ℕ) → k * stride ≤ i → i < k * stride + n → get_or cleared i 0 ≡ 0)
      (others : (i : ℕ) → (i < k * stride) ⊎ (k * stride + n ≤ i) → get_or cleared i 0 ≡ get_or bytes i 0) where
    apart : (j i : ℕ) → (j ≡ k → ⊥) → i < stride → get_or cleared (j * stride + i) 0 ≡ get_or bytes (j * stride + i) 0
    apart j i ne h = elim (cases_order j k) [
      | inl e ↦ absurd (ne e)
      | inr (inl l) ↦ others (j * stride + i) (inl (omega (arith, mul-le-mul_right stride l)))
      | inr (inr g) ↦ others (j * stride + i) (inr (omega (arith, mul-le-mul_right stride g, a.paid)))
    ]

    pub grows : (new_caps : Option ℕ) → caps ≡ one_more new_caps
        → Grows (the_store bytes sizes stride left caps) (the_store cleared (set sizes k n) stride (left - n) new_caps) k n
    grows new_caps e = record {
      number = omega (arith, slots_few);
      fresh = free;
      size = get_or-set_same sizes k n 0 lt;
      zero = λ i h. ap (λ b. cond b (get_or cleared (k * stride + i) 0) 0)
          (is_below i (get_or (set sizes k n) k 0) (omega (arith, get_or-set_same sizes k n 0 lt))) ∙ zero_there (k * stride + i) (omega arith) (omega arith);
      sizes = λ j ne. get_or-set_other sizes k j n 0 ne;
      bytes = λ j i ne.
          ap (λ m. cond (ltb i m) (get_or cleared (j * stride + i) 0) 0) (get_or-set_other sizes k j n 0 ne)
          ∙ cond_same (ltb i (get_or sizes j 0)) _ _ (λ e. apart j i ne (omega (arith, a.fits j, below i (get_or sizes j 0) e)));
      paid = omega arith;
      caps = e;
      few = omega (arith, a.few, a.paid);
    }

    one_taken : (m : ℕ) (o p : Option ℕ) → o ≡ one_more p → caps_or_none o + m ≤ 81920 → m ≤ 16383 → caps_or_none p + suc m ≤ 81920
    one_taken m o None e h l = omega arith
    one_taken m o (Some n) e h l = omega (arith, ap caps_or_none e)

    pub has_grown : (new_caps : Option ℕ) → caps ≡ one_more new_caps → AreSlots cleared (set sizes k n) stride (left - n) new_caps
    has_grown new_caps e =
        let u : used (get_or sizes k 0) ≡ false = ap used free in
        let v : used n ≡ true = is_below 0 n (omega arith) in
        let m : count_by used (set sizes k n) ≡ count_by used sizes + 1 =
        omega (arith, count_set k n lt, ap one_if u, ap one_if v) in
        record {
          whole = long ∙ a.whole ∙ ap (λ x. x * stride) (sym (length-set sizes k n));
          fits = set_each k n (λ x. x ≤ stride) (omega (arith, a.paid)) a.fits lt;
          pages = set_each k n (λ x. 0 < x → 4096 ≤ x) (λ h. some) a.pages lt;
          paid = omega (arith, a.paid, sum_set k n lt);
          room = omega (arith, a.room, length-set sizes k n);
          few = a.few;
          caps_few = subst (λ x. caps_or_none new_caps + x ≤ 81920) (omega (arith, m)) (one_taken (count_by used sizes) caps new_caps e a.caps_few
              (omega (arith, m, count_by-le-length used (set sizes k n), length-set sizes k n, slots_few)));
        }

sum_full : (xs : List ℕ) → ((k : ℕ) → k < length xs → 4096 ≤ get_or xs k 0) → 4096 * length xs ≤ sum_by (λ x. x) xs
sum_full [] h = omega arith
sum_full (x ∷ xs) h =
    let here : 4096 ≤ x = h zero (omega arith) in
    let rest : 4096 * length xs ≤ sum_by (λ x. x) xs = sum_full xs (λ k l. h (suc k) (omega arith)) in
    omega (arith, rest, sum_by-cons (λ x. x) x xs)

-- where no slot is free nothing can be paid
pub all_taken : (bytes sizes : List ℕ) (stride left : ℕ) (caps : Option ℕ) → AreSlots bytes sizes stride left caps
    → ((k : ℕ) → k < length sizes → 0 < get_or sizes k 0) → left ≡ 0
all_taken bytes sizes stride left caps a h = omega (arith, a.paid, a.room, sum_full sizes (λ k l. a.pages k (h k l)))

pub writes_four : (a b c d e : Store) (k o : ℕ) → Writes a b k o 1 → Writes b c k (o + 1) 1 → Writes c d k (o + 2) 1 → Writes d e k (o + 3) 1 → Writes a e k o 4
writes_four a b c d e k o s t u v = record {
  elsewhere = λ x i out.
      v.elsewhere x i (λ f p q. out f (omega arith) (omega arith)) ∙ u.elsewhere x i (λ f p q. out f (omega arith) (omega arith))
      ∙ t.elsewhere x i (λ f p q. out f (omega arith) (omega arith)) ∙ s.elsewhere x i (λ f p q. out f (omega arith) (omega arith));
  size = λ x. v.size x ∙ u.size x ∙ t.size x ∙ s.size x;
  left = v.left ∙ u.left ∙ t.left ∙ s.left;
  caps = v.caps ∙ u.caps ∙ t.caps ∙ s.caps;
}

pub is_word : (b c d e : Store) (k o n : ℕ) → b.byte k o ≡ n % 256 → c.byte k (o + 1) ≡ n / 256 % 256 → d.byte k (o + 2) ≡ n / 65536 % 256
    → e.byte k (o + 3) ≡ n / 16777216
    → Writes b c k (o + 1) 1 → Writes c d k (o + 2) 1 → Writes d e k (o + 3) 1 → IsWord (e.byte k) o n
is_word b c d e k o n p q r s t u v = record {
  at_0 = v.elsewhere k o (λ f x y. omega arith) ∙ u.elsewhere k o (λ f x y. omega arith) ∙ t.elsewhere k o (λ f x y. omega arith) ∙ p;
  at_1 = v.elsewhere k (o + 1) (λ f x y. omega arith) ∙ u.elsewhere k (o + 1) (λ f x y. omega arith) ∙ q;
  at_2 = v.elsewhere k (o + 2) (λ f x y. omega arith) ∙ r;
  at_3 = s;
}

pub word_of : (f : ℕ → ℕ) (o n : ℕ) → IsWord f o n → word f o ≡ n
word_of f o n w =
    let a : n / 256 / 256 ≡ n / 65536 = div-div-eq-div-mul n 256 256 in
    let b : n / 65536 / 256 ≡ n / 16777216 = div-div-eq-div-mul n 65536 256 in
    omega (arith, w.at_0, w.at_1, w.at_2, w.at_3)

-- a byte of a chunk stands in the list
pub byte_is : (bytes sizes : List ℕ) (stride k i : ℕ) → i < get_or sizes k 0 → byte_at bytes sizes stride k i ≡ get_or bytes (k * stride + i) 0
byte_is bytes sizes stride k i h = ap (λ b. cond b (get_or bytes (k * stride + i) 0) 0) (is_below i (get_or sizes k 0) h)
