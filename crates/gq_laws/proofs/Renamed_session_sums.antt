-- Sums over sessions that correspond, and so the accounts of leaves inside, are the same.
use Rattle.std.proofs.Common.{◌≡◌, ◌≢◌, ℕ, zero, suc, ◌+◌, ◌-◌, ◌==◌, inl, inr, Bool, true, cond, List, [], ◌∷◌, map, Option, Some, None, refl, ap, sym, ◌∙◌}
use Rattle.std.proofs.Common.{arith}
use Rattle.std.specs.Prelude.{◌&&◌, nat_le, max, option_map, slice_get, slice_set, sum_by}
use Rattle.std.proofs.lemmas.Bool.Decides.{eqb_tells}
use Rattle.std.proofs.lemmas.List.Sums.{sum_by-cons}
use Rattle.gq_tariff.specs.Prices.{classes}
use Rattle.gq_model.specs.machine.Amounts.{Resource, Ram, Caps, part}
use Rattle.gq_model.specs.machine.Scenario.{Component}
use Rattle.gq_model.specs.machine.World.{Slot, Empty, Bytes, Pool, Link, Waiting, Session, Leaf, World, joined}
use Rattle.gq_model.specs.machine.Resource_prices.{heap}
use Rattle.gq_model.specs.machine.Sums.{slot_price, bank_price, donated, to_leaf, from_leaf, held, handed, quota}
use Rattle.gq_model.specs.machine.Sums.{is_paid, are_paid, slot_places, places, raised, with_peaks}
use Rattle.gq_model.specs.machine.Accounts.{Account, amount_in, account_at}
use Rattle.gq_laws.proofs.session_links.Written_world_links.{set_else}
use Rattle.gq_laws.proofs.step_shapes.Number_sums.{sum_zero}
use Rattle.gq_laws.specs.Separation.{own_session}
use Rattle.gq_laws.proofs.Group_account_sums.{to_known, from_known}
use Rattle.gq_laws.specs.Renamed.{renamed_slot, renamed_leaf, renamed_session}
use Rattle.gq_laws.specs.internal.Corresponding.{own_at, Correspond, IsSame}

-- TERMS THAT CORRESPOND

module _ (n : Option Session → ℕ) (none : n None ≡ 0) where
  abbrev term : List (Option Session) → ℕ → ℕ
  term items k = n (joined (slice_get items k))

  -- each term but 0 of the one list is a term of the other, one to one
  record AreTerms (f : ℕ → ℕ) (items others : List (Option Session)) : Type 0 where
    there : (k : ℕ) → term items k ≢ 0 → term others (f k) ≡ term items k
    back : (m : ℕ) → term others m ≢ 0 → (k : ℕ) × (term items k ≢ 0) × (f k ≡ m)
    single : (j k : ℕ) → term items j ≢ 0 → term items k ≢ 0 → f j ≡ f k → j ≡ k

  no_term : (items : List (Option Session)) (m : ℕ) → term (slice_set items m None) m ≡ 0
  no_term [] m = none
  no_term (a ∷ items) zero = none
  no_term (a ∷ items) (suc m) = no_term items m

  sum_without : (items : List (Option Session)) (m : ℕ) → sum_by n items ≡ term items m + sum_by n (slice_set items m None)
  sum_without [] m = omega (arith, none)
  sum_without (a ∷ items) zero = omega (arith, none, sum_by-cons n a items, sum_by-cons n None items)
  sum_without (a ∷ items) (suc m) =
      let further = sum_without items m in
      omega (arith, further, sum_by-cons n a items, sum_by-cons n a (slice_set items m None))

  zero_terms : (f : ℕ → ℕ) (others : List (Option Session)) → AreTerms f [] others → (m : ℕ) (a : Option Session) → slice_get others m ≡ Some a → n a ≡ 0
  zero_terms f others h m a e = elim (eqb_tells (n a) 0) [
    | inl z ↦ z.1
    | inr z ↦ let p = h.back m (λ q. z.1 (ap (λ o. n (joined o)) (sym e) ∙ q)) in absurd (p.1 none)
  ]

  suc_same : (j k : ℕ) → suc j ≡ suc k → j ≡ k
  suc_same j k e = omega (arith, e)

  suc_zero : (j : ℕ) → suc j ≡ 0 → ⊥
  suc_zero j e = omega (arith, e)

  -- a term of the list that is not its first
  later : (f : ℕ → ℕ) (a : Option Session) (items : List (Option Session)) (m k : ℕ) → term (a ∷ items) k ≢ 0 → f k ≡ m → (k ≡ 0 → ⊥)
      → (j : ℕ) × (term items j ≢ 0) × (f (suc j) ≡ m)
  later f a items m zero ne e not = absurd (not refl)
  later f a items m (suc j) ne e not = (j, ne, e)

  module _ (f : ℕ → ℕ) (a : Option Session) (items others : List (Option Session)) (h : AreTerms f (a ∷ items) others) where
    without_zero : n a ≡ 0 → AreTerms (λ k. f (suc k)) items others
    without_zero z =
        record {
          there = λ k ne. h.there (suc k) ne;
          back = λ m ne. let p = h.back m ne in
              later f a items m p.0 p.1 p.2 (λ e. p.1 (ap (term (a ∷ items)) e ∙ z));
          single = λ j k p q e. suc_same j k (h.single (suc j) (suc k) p q e);
        }

    without_first : n a ≢ 0 → AreTerms (λ k. f (suc k)) items (slice_set others (f 0) None)
    without_first nz =
        record {
          there = λ k ne. ap (λ o. n (joined o)) (set_else others (f 0) (f (suc k)) None (λ e. suc_zero k (h.single (suc k) 0 ne nz e)))
              ∙ h.there (suc k) ne;
          back = back;
          single = λ j k p q e. suc_same j k (h.single (suc j) (suc k) p q e);
        }
      where
        back : (m : ℕ) → term (slice_set others (f 0) None) m ≢ 0 → (k : ℕ) × (term items k ≢ 0) × (f (suc k) ≡ m)
        back m ne = elim (eqb_tells m (f 0)) [
          | inl e ↦ absurd (ne (ap (term (slice_set others (f 0) None)) e.1 ∙ no_term others (f 0)))
          | inr e ↦
              let p = h.back m (λ z. ne (ap (λ o. n (joined o)) (set_else others (f 0) m None e.1) ∙ z)) in
              later f a items m p.0 p.1 p.2 (λ q. e.1 (sym p.2 ∙ ap f q))
        ]

  sum_alike : (f : ℕ → ℕ) (items others : List (Option Session)) → AreTerms f items others → sum_by n items ≡ sum_by n others
  sum_alike f [] others h = sym (sum_zero n others (zero_terms f others h))
  sum_alike f (a ∷ items) others h = elim (eqb_tells (n a) 0) [
    | inl z ↦
        let is = z.1 in
        let further = sum_alike (λ k. f (suc k)) items others (without_zero f a items others h z.1) in
        omega (arith, is, further, sum_by-cons n a items)
    | inr z ↦
        let first = h.there 0 z.1 in
        let further = sum_alike (λ k. f (suc k)) items (slice_set others (f 0) None) (without_first f a items others h z.1) in
        omega (arith, first, further, sum_without others (f 0), sum_by-cons n a items)
  ]

  -- SESSIONS THAT CORRESPOND

  module _ (group : ℕ → Bool) (f : ℕ → ℕ) (known : (o : Option Session) → n o ≡ n (own_session group o))
      (named : (s : Session) → n (Some (renamed_session f s)) ≡ n (Some s)) where
    -- a term that is not 0 is of a session of the group
    of_own : (o : Option Session) → n o ≢ 0 → (s : Session) × (own_session group o ≡ Some s)
    of_own o ne = by (own_session group o) refl
      where
        by : (p : Option Session) → own_session group o ≡ p → (s : Session) × (own_session group o ≡ Some s)
        by None e = absurd (ne (known o ∙ (ap n e ∙ none)))
        by (Some s) e = (s, e)

    pub sums_alike : (items others : List (Option Session)) → Correspond f (own_at group items) (own_at group others) → sum_by n items ≡ sum_by n others
    sums_alike items others h = sum_alike f items others (record { there = there; back = back; single = single })
      where
        same : (k : ℕ) (s : Session) → own_at group items k ≡ Some s → term others (f k) ≡ term items k
        same k s e =
            known (joined (slice_get others (f k))) ∙ (ap n (h.there k s e) ∙ (named s ∙ (ap n (sym e) ∙ sym (known (joined (slice_get items k))))))

        there : (k : ℕ) → term items k ≢ 0 → term others (f k) ≡ term items k
        there k ne = let s = of_own (joined (slice_get items k)) ne in same k s.0 s.1

        back : (m : ℕ) → term others m ≢ 0 → (k : ℕ) × (term items k ≢ 0) × (f k ≡ m)
        back m ne =
            let t = of_own (joined (slice_get others m)) ne in
            let p = h.back m t.0 t.1 in
            (p.0, λ z. ne (ap (term others) (sym p.3) ∙ (same p.0 p.1 p.2 ∙ z)), p.3)

        single : (j k : ℕ) → term items j ≢ 0 → term items k ≢ 0 → f j ≡ f k → j ≡ k
        single j k p q e =
            let s = of_own (joined (slice_get items j)) p in
            let t = of_own (joined (slice_get items k)) q in h.single j k s.0 t.0 s.1 t.1 e

-- SLOTS

module _ (f : ℕ → ℕ) where
  sum_slots : (n : Slot → ℕ) → ((slot : Slot) → n (renamed_slot f slot) ≡ n slot) → (slots : List Slot)
      → sum_by n (map (renamed_slot f) slots) ≡ sum_by n slots
  sum_slots n same [] = refl
  sum_slots n same (slot ∷ slots) =
      let here = same slot in
      let further = sum_slots n same slots in
      omega (arith, here, further, sum_by-cons n slot slots, sum_by-cons n (renamed_slot f slot) (map (renamed_slot f) slots))

  price_same : (r : Resource) (slot : Slot) → slot_price r (renamed_slot f slot) ≡ slot_price r slot
  price_same r Empty = refl
  price_same r (Bytes form n bytes) = refl
  price_same r (Pool n entries) = refl
  price_same r (Link k) = refl
  price_same r (Waiting k) = refl

  places_same : (c : ℕ) (slot : Slot) → slot_places c (renamed_slot f slot) ≡ slot_places c slot
  places_same c Empty = refl
  places_same c (Bytes form n bytes) = refl
  places_same c (Pool n entries) = refl
  places_same c (Link k) = refl
  places_same c (Waiting k) = refl

  bank_same : (r : Resource) (s : Session) → bank_price r (renamed_session f s) ≡ bank_price r s
  bank_same r s = λ t. price_same r s.object t + sum_slots (slot_price r) (price_same r) s.slots t

  -- LEAVES INSIDE

  module _ (group : ℕ → Bool) (w v : World) (h : IsSame group f w v) (y : ℕ) (inside : group y ≡ true) where
    to_same : (g : Session → ℕ) → ((s : Session) → g (renamed_session f s) ≡ g s) → sum_by (to_leaf y g) w.sessions ≡ sum_by (to_leaf y g) v.sessions
    to_same g same =
        sums_alike (to_leaf y g) refl group f (to_known group y inside g) (λ s. ap (λ n. cond (s.server == y) n 0) (same s)) w.sessions v.sessions h.sessions

    from_same : (g : Session → ℕ) → ((s : Session) → g (renamed_session f s) ≡ g s)
        → sum_by (from_leaf y g) w.sessions ≡ sum_by (from_leaf y g) v.sessions
    from_same g same =
        sums_alike (from_leaf y g) refl group f (from_known group y inside g) (λ s. ap (λ n. cond (s.client == y) n 0) (same s))
        w.sessions v.sessions h.sessions

    -- PEAKS

    all_places : (leaf : Leaf) (c : ℕ) → places v y (renamed_leaf f leaf) c ≡ places w y leaf c
    all_places leaf c = λ t. sum_slots (slot_places c) (places_same c) leaf.slots t
        + sym (to_same (λ s. sum_by (slot_places c) s.slots) (λ s. sum_slots (slot_places c) (places_same c) s.slots)) t

    all_raised : (leaf : Leaf) (cs peaks : List ℕ) → raised v y (renamed_leaf f leaf) cs peaks ≡ raised w y leaf cs peaks
    all_raised leaf [] peaks = refl
    all_raised leaf (c ∷ cs) [] = refl
    all_raised leaf (c ∷ cs) (peak ∷ peaks) = λ t. max peak (all_places leaf c t) ∷ all_raised leaf cs peaks t

    pub peaks_same : (leaf : Leaf) → with_peaks v y (renamed_leaf f leaf) ≡ renamed_leaf f (with_peaks w y leaf)
    peaks_same leaf = ap (λ peaks. record (renamed_leaf f leaf) { peaks = peaks }) (all_raised leaf classes leaf.peaks)

    -- ACCOUNTS

    held_same : (r : Resource) (leaf : Leaf) → held r v y (renamed_leaf f leaf) ≡ held r w y leaf
    held_same r leaf =
        λ t. sum_slots (slot_price r) (price_same r) leaf.slots t + heap r leaf.peaks + sym (to_same (bank_price r) (bank_same r)) t

    quota_same : (r : Resource) (c : Component) (leaf : Leaf) → quota r v y c (renamed_leaf f leaf) ≡ quota r w y c leaf
    quota_same r c leaf =
        λ t. handed leaf.phase (part r c.node.quantum) + sym (to_same (donated r) (λ s. refl)) t - sym (from_same (donated r) (λ s. refl)) t

    one_paid : (r : Resource) (c : Component) (leaf : Leaf) → is_paid v y c (renamed_leaf f leaf) r ≡ is_paid w y c leaf r
    one_paid r c leaf =
        λ t. nat_le (held_same r leaf t + sym (from_same (donated r) (λ s. refl)) t)
        (handed leaf.phase (part r c.node.quantum) + sym (to_same (donated r) (λ s. refl)) t)

    pub paid_same : (c : Component) (leaf : Leaf) (resources : List Resource)
        → are_paid v y c (renamed_leaf f leaf) resources ≡ are_paid w y c leaf resources
    paid_same c leaf [] = refl
    paid_same c leaf (r ∷ resources) = λ t. one_paid r c leaf t && paid_same c leaf resources t

    account_by : (version : ℕ) (c : Component) (leaf : Leaf) (budget ram caps used taken : ℕ) → List Account
    account_by version c leaf budget ram caps used taken =
        record {
          label = c.label;
          quota = amount_in version ram caps;
          leaf = Some (record { used = amount_in version used taken; steps = leaf.steps; budget = budget; phase = leaf.phase });
        } ∷ []

    account_same : (version budget : ℕ) (c : Option Component) (leaf : Option Leaf)
        → account_at version v y c (option_map (renamed_leaf f) leaf) budget ≡ account_at version w y c leaf budget
    unfolding account_by
    account_same version budget None leaf = refl
    account_same version budget (Some c) None = refl
    account_same version budget (Some c) (Some leaf) =
        λ t. account_by version c leaf budget (quota_same Ram c leaf t) (quota_same Caps c leaf t) (held_same Ram leaf t) (held_same Caps leaf t)

    pub same_account : (version budget : ℕ) (c : Option Component)
        → account_at version v y c (slice_get v.leaves y) budget ≡ account_at version w y c (slice_get w.leaves y) budget
    same_account version budget c =
        ap (λ o. account_at version v y c o budget) (h.leaves y inside) ∙ account_same version budget c (slice_get w.leaves y)
