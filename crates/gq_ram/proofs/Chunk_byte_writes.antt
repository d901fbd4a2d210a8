-- Bytes of a chunk that are written: those of a dataspace of an account.
use Rattle.std.proofs.Common.{◌≡◌, ℕ, zero, suc, ◌+◌, ◌^◌, ◌<◌, ◌≤◌, ◌⊎◌, inl, inr, List, [], ◌∷◌, length, length-set, Some, None, get_or, set}
use Rattle.std.proofs.Common.{get_or-set_same, get_or-set_other, refl, sym, ap, subst, ◌∙◌, arith}
use Rattle.std.specs.Int.{w32, to_le_bytes}
use Rattle.std.proofs.lemmas.Bool.{cases_eq, cases_lt}
use Rattle.gq_pages.specs.Frame_bytes.{with_bytes, zeroed}
use Rattle.gq_pages.specs.Frame_map.{its_bytes}
use Rattle.gq_pages.proofs.Zeroed_byte_runs.{length-zeroed, get_or-zeroed_in, get_or-zeroed_out}
use Rattle.gq_dataspace.specs.Dataspaces.{content_of}
use Rattle.gq_dataspace.proofs.Dataspace_caller_facts.{length-with_bytes}
use Rattle.gq_store.specs.Store.{Writes, IsWord}
use Rattle.gq_store.specs.declared.AccountNo.{AccountNo}
use Rattle.gq_ram.specs.Ledgers.{Ledger, IsBalanced, with_content}
use Rattle.gq_ram.specs.Account_stores.{bytes_for, content_for, store_at, SameRest}
use Rattle.gq_ram.proofs.Account_byte_views.{bytes_own, bytes_others, is_own, own_there, own_content, none_of_others, same_store}

-- outside of the n places from i on
outside : (i n j : ℕ) → (i ≤ j → j < i + n → ⊥) → (j < i) ⊎ (i + n ≤ j)
outside i n j out = elim (cases_lt j i) [
  | inl lt ↦ inl lt
  | inr ge ↦ elim (cases_lt j (i + n)) [ inl lt ↦ absurd (out ge lt) | inr past ↦ inr past ]
]

-- a dataspace of the account has other bytes
module _ (l : Ledger) (a : AccountNo) (k : ℕ) (bs : List ℕ) (b : IsBalanced l) (some : 0 < length (content_for l a.0 k)) where
  abbrev m : Ledger
  m = with_content l k bs

  some_now : get_or m.spaces.spaces k None ≡ Some bs
  some_now = get_or-set_same l.spaces.spaces k (Some bs) None (own_there l a k some b)

  content_now : content_for m a.0 k ≡ bs
  content_now = (λ t. bytes_for a.0 (is_own l a k some t) (its_bytes (some_now t))) ∙ bytes_own a.0 a bs refl

  content_off : (x j : ℕ) → (j ≡ k → ⊥) → content_for m x j ≡ content_for l x j
  content_off x j ne = ap (λ s. bytes_for x (get_or l.owners j None) (its_bytes s)) (get_or-set_other l.spaces.spaces k j (Some bs) None ne)

  pub writes : (i n : ℕ) → length bs ≡ length (content_of l.spaces.spaces k)
      → ((j : ℕ) → (j < i) ⊎ (i + n ≤ j) → get_or bs j 0 ≡ get_or (content_of l.spaces.spaces k) j 0) → Writes (store_at l a.0) (store_at m a.0) k i n
  writes i n long same = record {
    elsewhere = λ x j out. elim (cases_eq x k) [
      | inl e ↦ subst (λ y. get_or (content_for m a.0 y) j 0 ≡ get_or (content_for l a.0 y) j 0) (sym e)
          (ap (λ xs. get_or xs j 0) content_now ∙ same j (outside i n j (out e)) ∙ ap (λ xs. get_or xs j 0) (sym (own_content l a k some)))
      | inr ne ↦ ap (λ xs. get_or xs j 0) (content_off a.0 x ne)
    ];
    size = λ x. elim (cases_eq x k) [
      | inl e ↦ subst (λ y. length (content_for m a.0 y) ≡ length (content_for l a.0 y)) (sym e)
          (ap length content_now ∙ long ∙ ap length (sym (own_content l a k some)))
      | inr ne ↦ ap length (content_off a.0 x ne)
    ];
    left = refl;
    caps = refl;
  }

  byte_now : (j : ℕ) → get_or (content_for m a.0 k) j 0 ≡ get_or bs j 0
  byte_now j = ap (λ xs. get_or xs j 0) content_now

  -- another account has the dataspaces that it had
  others_same : (x j : ℕ) → (x ≡ a.0 → ⊥) → content_for m x j ≡ content_for l x j
  others_same x j ne = elim (cases_eq j k) [
    | inl e ↦ subst (λ y. content_for m x y ≡ content_for l x y) (sym e)
        ((λ t. bytes_for x (is_own l a k some t) (its_bytes (some_now t))) ∙ bytes_others x a bs (λ f. ne (sym f)) ∙ sym (none_of_others l a k some x ne))
    | inr other ↦ content_off x j other
  ]

  pub writes_rest : SameRest a.0 l m
  writes_rest = record {
    stores = λ x ne. same_store l m x refl refl (λ j. others_same x j ne);
    accounts = λ x ne. refl;
    quota = refl;
    reference = refl;
    still_open = λ x h. h;
    were_open = λ x h. h;
    whole = (refl, refl, refl);
  }

-- ---- a byte
module _ (l : Ledger) (a : AccountNo) (k i v : ℕ) (b : IsBalanced l) (inside : i < length (content_for l a.0 k)) where
  abbrev byte_bytes : List ℕ
  byte_bytes = set (content_of l.spaces.spaces k) i v

  apart : (j : ℕ) → (j < i) ⊎ (i + 1 ≤ j) → j ≡ i → ⊥
  apart j (inl h) e = omega (arith, h, e)
  apart j (inr h) e = omega (arith, h, e)

  pub byte_alone : Writes (store_at l a.0) (store_at (with_content l k byte_bytes) a.0) k i 1
  byte_alone = writes l a k byte_bytes b (omega (arith, inside)) i 1 (length-set (content_of l.spaces.spaces k) i v)
      (λ j out. get_or-set_other (content_of l.spaces.spaces k) i j v 0 (apart j out))

  pub byte_stored : get_or (content_for (with_content l k byte_bytes) a.0 k) i 0 ≡ v
  byte_stored = byte_now l a k byte_bytes b (omega (arith, inside)) i
      ∙ get_or-set_same (content_of l.spaces.spaces k) i v 0 (omega (arith, inside, ap length (own_content l a k (omega (arith, inside)))))

-- ---- four bytes
get_below : (xs : List ℕ) (i : ℕ) (ws : List ℕ) (j : ℕ) → j < i → get_or (with_bytes xs i ws) j 0 ≡ get_or xs j 0
get_below xs i [] j h = refl
get_below xs i (w ∷ ws) j h = get_below (set xs i w) (i + 1) ws j (omega arith) ∙ get_or-set_other xs i j w 0 (omega arith)

get_in : (xs : List ℕ) (i : ℕ) (ws : List ℕ) (j : ℕ) → i + length ws ≤ length xs → j < length ws → get_or (with_bytes xs i ws) (i + j) 0 ≡ get_or ws j 0
get_in xs i [] j h lt = absurd (omega (arith, lt))
get_in xs i (w ∷ ws) zero h lt =
    ap (λ n. get_or (with_bytes (set xs i w) (i + 1) ws) n 0) (omega arith) ∙ get_below (set xs i w) (i + 1) ws i (omega arith)
    ∙ get_or-set_same xs i w 0 (omega arith)
get_in xs i (w ∷ ws) (suc j) h lt =
    ap (λ n. get_or (with_bytes (set xs i w) (i + 1) ws) n 0) (omega arith)
    ∙ get_in (set xs i w) (i + 1) ws j (omega (arith, length-set xs i w)) (omega (arith, lt))

get_out : (xs : List ℕ) (i : ℕ) (ws : List ℕ) (j : ℕ) → (j < i) ⊎ (i + length ws ≤ j) → get_or (with_bytes xs i ws) j 0 ≡ get_or xs j 0
get_out xs i [] j h = refl
get_out xs i (w ∷ ws) j (inl h) = get_below xs i (w ∷ ws) j h
get_out xs i (w ∷ ws) j (inr h) = get_out (set xs i w) (i + 1) ws j (inr (omega (arith, h))) ∙ get_or-set_other xs i j w 0 (omega (arith, h))

module _ (l : Ledger) (a : AccountNo) (k i v : ℕ) (b : IsBalanced l) (inside : i + 4 ≤ length (content_for l a.0 k)) where
  abbrev word_bytes : List ℕ
  word_bytes = with_bytes (content_of l.spaces.spaces k) i (to_le_bytes w32 v)

  pub word_alone : Writes (store_at l a.0) (store_at (with_content l k word_bytes) a.0) k i 4
  word_alone = writes l a k word_bytes b (omega (arith, inside)) i 4 (length-with_bytes (content_of l.spaces.spaces k) i (to_le_bytes w32 v))
      (get_out (content_of l.spaces.spaces k) i (to_le_bytes w32 v))

  word_byte : (j : ℕ) → j < 4 → get_or (content_for (with_content l k word_bytes) a.0 k) (i + j) 0 ≡ get_or (to_le_bytes w32 v) j 0
  word_byte j lt = byte_now l a k word_bytes b (omega (arith, inside)) (i + j)
      ∙ get_in (content_of l.spaces.spaces k) i (to_le_bytes w32 v) j (omega (arith, inside, ap length (own_content l a k (omega (arith, inside))))) lt

  pub word_stored : v < 2 ^ 32 → IsWord ((store_at (with_content l k word_bytes) a.0).byte k) i v
  word_stored fits = record {
    at_0 = ap (λ n. get_or (content_for (with_content l k word_bytes) a.0 k) n 0) (omega arith) ∙ word_byte 0 (omega arith);
    at_1 = word_byte 1 (omega arith);
    at_2 = word_byte 2 (omega arith);
    at_3 = word_byte 3 (omega arith) ∙ omega (arith, fits);
  }

-- ---- bytes that are cleared
module _ (l : Ledger) (a : AccountNo) (k i n : ℕ) (b : IsBalanced l) (some : 0 < n) (inside : i + n ≤ length (content_for l a.0 k)) where
  abbrev clear_bytes : List ℕ
  clear_bytes = zeroed (content_of l.spaces.spaces k) i n

  within : i + n ≤ length (content_of l.spaces.spaces k)
  within = omega (arith, inside, ap length (own_content l a k (omega (arith, inside, some))))

  pub clear_alone : Writes (store_at l a.0) (store_at (with_content l k clear_bytes) a.0) k i n
  clear_alone = writes l a k clear_bytes b (omega (arith, inside, some)) i n (length-zeroed (content_of l.spaces.spaces k) i n within)
      (λ j out. get_or-zeroed_out (content_of l.spaces.spaces k) i n j out within)

  pub clear_zero : (j : ℕ) → i ≤ j → j < i + n → get_or (content_for (with_content l k clear_bytes) a.0 k) j 0 ≡ 0
  clear_zero j ge lt = byte_now l a k clear_bytes b (omega (arith, inside, some)) j ∙ get_or-zeroed_in (content_of l.spaces.spaces k) i n j ge lt within
