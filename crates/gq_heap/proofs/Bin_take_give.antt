-- What taking and giving a place leaves of a bin.
use Rattle.std.proofs.Common.{◌≡◌, ℕ, zero, suc, ◌+◌, ◌-◌, ◌*◌, ◌/◌, ◌%◌, ◌<◌, ◌≤◌, ◌↔◌, inl, inr, List, [], ◌∷◌, length, Option, Some, None, Result, Ok, Err}
use Rattle.std.proofs.Common.{refl, sym, ap, subst, ◌∙◌, arith}
use Rattle.std.proofs.lemmas.Bool.{cases_eq}
use Rattle.std.proofs.lemmas.Bool.Decides.{nat_tests}
use Rattle.std.proofs.Math.Nat.{mul-le-mul}
use Rattle.std.proofs.lemmas.Nat.{div-mul-add}
use Rattle.gq_tariff.specs.Prices.{up}
use Rattle.gq_store.specs.Store.{Store, Writes, one_more, plus_caps}
use Rattle.gq_heap.specs.declared.bin.Bin.{Bin}
use Rattle.gq_heap.specs.internal.Chain.{IsSize, place_byte, link, IsChain, descending, Places}
use Rattle.gq_heap.specs.List_occurrences.{times}
use Rattle.gq_heap.specs.internal.Bin.{KeepsBin, IsBin, TakesPlace, FreesPlace, HasPlace, Chains}
use Rattle.gq_heap.specs.Bins.{bin_price, next_peak}
use Rattle.gq_heap.proofs.Cell_page_numbers.{places_pos, places_few, full, up_between, up_next}
use Rattle.gq_heap.proofs.Free_cell_chains.{times_same, chain_head, chain_end, few, popped, pushed, grown}

same_plus : (n m : ℕ) (c : Option ℕ) → n ≡ m → plus_caps n c ≡ plus_caps m c
same_plus n m c e = ap (λ k. plus_caps k c) e

one_plus : (n m : ℕ) (a b : Option ℕ) → n ≡ m + 1 → b ≡ one_more a → plus_caps n a ≡ plus_caps m b
one_plus n m None b e f = ap (plus_caps m) (sym f)
one_plus n m (Some k) b e f = ap Some (omega arith) ∙ ap (plus_caps m) (sym f)

times_le_length : (x : ℕ) (xs : List ℕ) → times x xs ≤ length xs
times_le_length x [] = omega arith
times_le_length x (y ∷ ys) = let ih = times_le_length x ys in grind (arith, nat_tests)

chain_first : (f : ℕ → ℕ) (start n first : ℕ) → 0 < n → IsChain f first (descending start n) → first ≡ start + n
chain_first f start zero first pos c = absurd (omega arith)
chain_first f start (suc n) first pos c = omega (arith, c.0)

module _ (z p : ℕ) (s : IsSize z p) where
  -- where the chain has a place, the price stays
  pub price_room : (bin : Bin) (st : Store) (used mine : List ℕ) → KeepsBin z p bin st used mine → 0 < bin.head → up (z * next_peak bin) ≡ up (z * bin.peak)
  price_room bin st used mine k pos =
      let h = chain_head (link st z p) bin.head k.free pos k.places.chain in
      let long : length k.free ≡ suc (length h.0) = ap length h.1 in
      let a : bin.peak ≤ p * length mine = full z p s bin.peak (length mine) k.charge in
      up_between z p s bin.peak (next_peak bin) (length mine) k.charge (omega arith) (omega (arith, k.places.all, k.count)) ∙ sym k.charge

  -- where it has none, it rises by a page
  pub price_full : (bin : Bin) (st : Store) (used mine : List ℕ) → KeepsBin z p bin st used mine → bin.head ≡ 0
      → up (z * next_peak bin) ≡ up (z * bin.peak) + 4096
  price_full bin st used mine k e =
      let none : length k.free ≡ 0 = ap length (chain_end (link st z p) bin.head k.free e k.places.chain) in
      let a : bin.peak ≤ p * length mine = full z p s bin.peak (length mine) k.charge in
      let next : next_peak bin ≡ p * length mine + 1 = omega (arith, k.places.all, k.count, k.peak) in
      ap (λ n. up (z * n)) next ∙ up_next z p s (length mine) ∙ ap (λ n. n + 4096) (sym k.charge)

  pub exceeded_iff : (bin : Bin) (st : Store) → IsBin z p bin st
      → (st.left + bin_price z bin.peak < bin_price z (next_peak bin)) ↔ ((bin.head ≡ 0) × (st.left < 4096))
  exceeded_iff bin st i = elim (cases_eq bin.head 0) [
    | inl e ↦ let f = price_full bin st i.used i.mine i.kept e in (λ l. (e, omega arith), λ l. omega (arith, l.1))
    | inr ne ↦ let pos : 0 < bin.head = omega (arith, ne) in let f = price_room bin st i.used i.mine i.kept pos in
        (λ l. absurd (omega arith), λ l. absurd (ne l.0))
  ]

  pub caps_iff : (bin : Bin) (st : Store) → IsBin z p bin st
      → ((bin_price z bin.peak < bin_price z (next_peak bin)) × (bin_price z (next_peak bin) ≤ st.left + bin_price z bin.peak) × (st.caps ≡ Some 0)) ↔
      ((bin.head ≡ 0) × (4096 ≤ st.left) × (st.caps ≡ Some 0))
  caps_iff bin st i = elim (cases_eq bin.head 0) [
    | inl e ↦ let f = price_full bin st i.used i.mine i.kept e in (λ l. (e, omega (arith, l.0, l.1), l.2), λ l. (omega (arith, l.1), omega (arith, l.1), l.2))
    | inr ne ↦ let pos : 0 < bin.head = omega (arith, ne) in let f = price_room bin st i.used i.mine i.kept pos in
        (λ l. absurd (omega (arith, l.0)), λ l. absurd (ne l.0))
  ]

  pub bin_few : (head : ℕ) (st : Store) (free used mine : List ℕ) → Places z p head st free used mine → length used ≤ 268435456
  bin_few head st free used mine k =
      let n : length mine ≤ 1048576 = few 1048576 mine k.once (λ c t. (k.chunk c t).1) in
      let m : p * length mine ≤ 256 * 1048576 = mul-le-mul (places_few z p s) n in
      omega (arith, k.all)

  -- the place at the head lies in one of the chunks
  pub head_chunk : (head : ℕ) (st : Store) (free used mine : List ℕ) → 0 < head → Places z p head st free used mine
      → (0 < times ((head - 1) / p) mine) × (times (head - 1) used ≡ 0)
  head_chunk head st free used mine pos k =
      let h = chain_head (link st z p) head free pos k.chain in
      let t : times (head - 1) free ≡ suc (times (head - 1) h.0) = ap (times (head - 1)) h.1 ∙ times_same (head - 1) h.0 in
      (omega (arith, k.each (head - 1)), omega (arith, k.each (head - 1), k.once ((head - 1) / p)))

  pub takes_old : (before after : Bin) (old new : Store) (q : ℕ) → IsBin z p before old → 0 < before.head → q ≡ before.head - 1
      → after.head ≡ link old z p q → after.count ≡ before.count + 1 → after.peak ≡ next_peak before
      → ((i : ℕ) → i < z → place_byte new z p q i ≡ 0) → Writes old new (q / p) (q % p * z) z → TakesPlace z p before after old new q
  takes_old before after old new q is pos e head count peak zeros w =
      let price : up (z * after.peak) ≡ up (z * before.peak) = ap (λ n. up (z * n)) peak ∙ price_room before old is.used is.mine is.kept pos in
      record {
        fresh = λ used mine k. ap (λ n. times n used) e ∙ (head_chunk before.head old k.free used mine pos k.places).1;
        kept = λ used mine more k a.
            let r = popped z p s before.head q old new k.free used more mine pos e k.places w a in
            record {
              mine_after = mine;
              chunks = inl refl;
              kept = record {
                free = r.0;
                places = subst (λ n. Places z p n new r.0 more mine) (sym head) r.2;
                count = omega (arith, count, k.count, a.long);
                peak = omega (arith, count, peak);
                charge = price ∙ k.charge;
              };
            };
        zero = zeros;
        alone = record { bytes = λ k i h out. w.elsewhere k i out; sizes = λ k h. w.size k; no_other = λ k h. w.size k };
        peak = peak;
        paid = omega (arith, w.left, price);
        caps = same_plus _ _ new.caps (ap (λ n. n / 4096) price) ∙ ap (plus_caps (up (z * before.peak) / 4096)) w.caps;
      }

  pub takes_new : (before after : Bin) (old mid new : Store) (first q : ℕ) → IsBin z p before old → before.head ≡ 0 → Chains z p first old mid → q ≡ first - 1
      → after.head ≡ link mid z p q → after.count ≡ before.count + 1 → after.peak ≡ next_peak before
      → ((i : ℕ) → i < z → place_byte new z p q i ≡ 0) → Writes mid new (q / p) (q % p * z) z → TakesPlace z p before after old new q
  takes_new before after old mid new first q is empty ch e head count peak zeros w =
      let price : up (z * after.peak) ≡ up (z * before.peak) + 4096 = ap (λ n. up (z * n)) peak ∙ price_full before old is.used is.mine is.kept empty in
      let g = ch.grows in let v = ch.writes in
      let places_mid : (used mine : List ℕ) (k : KeepsBin z p before old used mine)
      → Places z p first mid (descending (ch.chunk * p) p) used (ch.chunk ∷ mine) =
      λ used mine k. grown z p s ch.chunk first old ch.grown mid k.free used mine (subst (λ n. Places z p n old k.free used mine) empty k.places) g v
      ch.chain in
      let some : 0 < p = places_pos z p s in
      let first_is : first ≡ ch.chunk * p + p = chain_first (link mid z p) (ch.chunk * p) p first some ch.chain in
      let pos : 0 < first = omega arith in
      let at : q ≡ ch.chunk * p + (p - 1) = omega arith in
      let is_chunk : q / p ≡ ch.chunk = ap (λ n. n / p) at ∙ div-mul-add ch.chunk p (p - 1) (omega arith) in
      record {
        fresh = λ used mine k. ap (λ n. times n used) e ∙
            (head_chunk first mid (descending (ch.chunk * p) p) used (ch.chunk ∷ mine) pos (places_mid used mine k)).1;
        kept = λ used mine more k a.
            let r = popped z p s first q mid new (descending (ch.chunk * p) p) used more (ch.chunk ∷ mine) pos e (places_mid used mine k) w a in
            record {
              mine_after = ch.chunk ∷ mine;
              chunks = inr (ap (λ n. n ∷ mine) (sym is_chunk), ap old.size is_chunk ∙ g.fresh);
              kept = record {
                free = r.0;
                places = subst (λ n. Places z p n new r.0 more (ch.chunk ∷ mine)) (sym head) r.2;
                count = omega (arith, count, k.count, a.long);
                peak = omega (arith, count, peak);
                charge = omega (arith, price, k.charge);
              };
            };
        zero = zeros;
        alone = record {
          bytes = λ k i h out.
              let ne : k ≡ ch.chunk → ⊥ = λ f. omega (arith, ap old.size f, g.fresh) in
              w.elsewhere k i (λ f a b. ne (f ∙ is_chunk)) ∙ v.elsewhere k i (λ f a b. ne f) ∙ g.bytes k i ne;
          sizes = λ k h.
              let ne : k ≡ ch.chunk → ⊥ = λ f. omega (arith, ap old.size f, g.fresh) in
              w.size k ∙ v.size k ∙ g.sizes k ne;
          no_other = λ k h. w.size k ∙ v.size k ∙ g.sizes k (λ f. h (f ∙ sym is_chunk));
        };
        peak = peak;
        paid = omega (arith, w.left, v.left, g.paid, price);
        caps = one_plus _ _ new.caps old.caps (omega (arith, price)) (g.caps ∙ ap one_more (sym (w.caps ∙ v.caps)));
      }

  pub gives : (before after : Bin) (old new : Store) (q : ℕ) → after.head ≡ q + 1 → after.count ≡ before.count - 1 → after.peak ≡ before.peak
      → link new z p q ≡ before.head → Writes old new (q / p) (q % p * z) 4 → FreesPlace z p before after old new q
  gives before after old new q head count peak stored w = record {
    kept = λ used mine rest k a. record {
      free = q ∷ k.free;
      places = subst (λ n. Places z p n new (q ∷ k.free) rest mine) (sym head) (pushed z p s before.head q old new k.free used rest mine k.places w stored a);
      count = omega (arith, count, k.count, a.long);
      peak = omega (arith, count, peak, k.peak);
      charge = ap (λ n. up (z * n)) peak ∙ k.charge;
    };
    alone = record { elsewhere = λ k i out. w.elsewhere k i (λ e a b. out e a (omega (arith, s.least))); size = w.size; left = w.left; caps = w.caps };
    peak = peak;
  }

  pub has_chunk : (bin : Bin) (st : Store) (q : ℕ) → HasPlace z p bin st q → (st.size (q / p) ≡ 4096) × (q / p < 1048576)
  has_chunk bin st q h =
      let m : 0 < times (q / p) h.mine = omega (arith, h.kept.places.each q, h.has) in
      h.kept.places.chunk (q / p) m

  pub has_count : (bin : Bin) (st : Store) (q : ℕ) → HasPlace z p bin st q → 0 < bin.count
  has_count bin st q h = omega (arith, h.kept.count, times_le_length q h.used, h.has)

  -- the chain has a place now
  pub first_chunk : (before : Bin) (old mid : Store) (first : ℕ) → IsBin z p before old → (0 < before.head → (first ≡ before.head) × (mid ≡ old))
      → (before.head ≡ 0 → Chains z p first old mid)
      → (1 ≤ first) × (mid.size ((first - 1) / p) ≡ 4096)
  first_chunk before old mid first is same made = elim (cases_eq before.head 0) [
    | inl e ↦
        let ch = made e in
        let some : 0 < p = places_pos z p s in
        let first_is : first ≡ ch.chunk * p + p = chain_first (link mid z p) (ch.chunk * p) p first some ch.chain in
        let at : first - 1 ≡ ch.chunk * p + (p - 1) = omega arith in
        let is_chunk : (first - 1) / p ≡ ch.chunk = ap (λ n. n / p) at ∙ div-mul-add ch.chunk p (p - 1) (omega arith) in
        (omega arith, ap mid.size is_chunk ∙ ch.writes.size ch.chunk ∙ ch.grows.size)
    | inr ne ↦
        let pos : 0 < before.head = omega (arith, ne) in
        let h = head_chunk before.head old is.kept.free is.used is.mine pos is.kept.places in (
          omega (arith, (same pos).0),
          ap (λ st. st.size ((first - 1) / p)) (same pos).1 ∙ ap (λ n. old.size ((n - 1) / p)) (same pos).0 ∙
              (is.kept.places.chunk ((before.head - 1) / p) h.0).0,
        )
  ]

  pub taken : (before after : Bin) (old mid new : Store) (first : ℕ) → IsBin z p before old → (0 < before.head → (first ≡ before.head) × (mid ≡ old))
      → (before.head ≡ 0 → Chains z p first old mid)
      → after.head ≡ link mid z p (first - 1) → after.count ≡ before.count + 1 → after.peak ≡ next_peak before
      → ((i : ℕ) → i < z → place_byte new z p (first - 1) i ≡ 0) → Writes mid new ((first - 1) / p) ((first - 1) % p * z) z
      → TakesPlace z p before after old new (first - 1)
  taken before after old mid new first is same made head count peak zeros w = elim (cases_eq before.head 0) [
    | inl e ↦ takes_new before after old mid new first (first - 1) is e (made e) refl head count peak zeros w
    | inr ne ↦
        let pos : 0 < before.head = omega (arith, ne) in
        let e = (same pos).1 in
        takes_old before after old new (first - 1) is pos (ap (λ n. n - 1) (same pos).0)
        (head ∙ ap (λ st. link st z p (first - 1)) e) count peak zeros (subst (λ st. Writes st new ((first - 1) / p) ((first - 1) % p * z) z) e w)
  ]

-- ---- the clauses on errors
pub at_err : {T E : Type 0} (r : Result T E) (y z e : E) (A B : Type 0) → r ≡ Err y → y ≡ z → (B ↔ A) → (◌≡◌ {A = Result T E} (Err z) (Err e) ↔ A)
    → ((r ≡ Err e) ↔ B)
at_err {T} {E} r y z e A B q f i k =
    let err : E → Result T E = λ v. Err v in let is : r ≡ err z = q ∙ ap err f in (λ h. i.1 (k.0 (sym is ∙ h)), λ l. is ∙ k.1 (i.0 l))

ok_err : {T E : Type 0} (x : T) (e : E) → ◌≡◌ {A = Result T E} (Ok x) (Err e) → ⊥
ok_err x e h = cc

pub at_ok : {T U E : Type 0} (x : T) (y : U) (e : E) (A B : Type 0) → (B ↔ A) → (◌≡◌ {A = Result T E} (Ok x) (Err e) ↔ A)
    → (◌≡◌ {A = Result U E} (Ok y) (Err e) ↔ B)
at_ok x y e A B i k = (λ h. absurd (ok_err y e h), λ l. absurd (ok_err x e (k.1 (i.0 l))))

pub same_ok : {T E S : Type 0} (x y : T) (s t : S) → (◌≡◌ {A = Result T E} (Ok x) (Ok y)) × (s ≡ t) → (x ≡ y) × (s ≡ t)
same_ok x y s t h = let e = h.0 in (cc, h.1)
