-- A table that a round leaves as it is, where the leaves stand in an order of use, is that of all rounds.
use Rattle.std.proofs.Common.{◌≡◌, ◌<◌, ◌≤◌, ◌⊎◌, inl, inr, ℕ, zero, suc, arith, ◌+◌, ◌*◌, List, [], ◌∷◌, get_or, length, refl, ap, sym, ◌∙◌}
use Rattle.std.specs.Prelude.{if◌then◌else◌}
use Rattle.std.proofs.lemmas.List.{get_or_past}
use Rattle.std.proofs.lemmas.Bool.{cases_lt}
use Rattle.gq_model.specs.machine.Sections.{same_section}
use Rattle.gq_model.specs.rules.Use.{Cause}
use Rattle.gq_model.specs.declared.section.Section.{Section}
use Rattle.gq_model.specs.declared.section.Section.TheVariants.{Main, Opening, Upgrading, Calling, Closing, Reacting}
use Rattle.gq_verify.specs.declared.asked.Asker.{Asker}
use Rattle.gq_verify.specs.Saturated_numbers.{saturated}
use Rattle.gq_budget.specs.internal.Run_rounds.{Asks, runs, asked_sum, often, leaf_round, round, rounds}
use Rattle.gq_budget.specs.internal.Asking_order.{IsOrder, no_asker, no_asks}

-- SUMS

-- the rows of two tables are the same for all who ask
abbrev AreSame : List Asker → List (List ℕ) → List (List ℕ) → Type 0
AreSame askers a b = (i : ℕ) → i < length askers → get_or a (get_or askers i no_asker).leaf [] ≡ get_or b (get_or askers i no_asker).leaf []

same_sum : (section : Section) (askers : List Asker) (a b : List (List ℕ)) → AreSame askers a b → asked_sum section askers a ≡ asked_sum section askers b
same_sum section [] a b h = refl
same_sum section (asker ∷ rest) a b h =
    let count : ℕ = if same_section section asker.section then asker.count else 0 in
    ap (λ (row : List ℕ). count * get_or row asker.part 0 + asked_sum section rest a) (h 0 (omega arith))
    ∙ ap (λ (n : ℕ). count * runs b asker + n) (same_sum section rest a b (λ i less. h (suc i) (omega (arith, less))))

same_often : (cause : Cause) (x : ℕ) (section : Section) (askers : List Asker) (a b : List (List ℕ)) → AreSame askers a b
    → often cause x section askers a ≡ often cause x section askers b
same_often cause x Main askers a b h = refl
same_often cause x Opening askers a b h = ap saturated (same_sum Opening askers a b h)
same_often cause x (Upgrading l) askers a b h = ap saturated (same_sum (Upgrading l) askers a b h)
same_often cause x (Calling l) askers a b h = ap saturated (same_sum (Calling l) askers a b h)
same_often cause x (Closing l) askers a b h = ap saturated (same_sum (Closing l) askers a b h)
same_often cause x (Reacting i) askers a b h = refl

-- ROUNDS

same_round : (cause : Cause) (x : ℕ) (sections : List Section) (askers : List Asker) (a b : List (List ℕ)) → AreSame askers a b →
    leaf_round cause x sections askers a ≡ leaf_round cause x sections askers b
same_round cause x [] askers a b h = refl
same_round cause x (section ∷ rest) askers a b h =
    ap (λ (n : ℕ). n ∷ leaf_round cause x rest askers a) (same_often cause x section askers a b h)
    ∙ ap (λ (l : List ℕ). often cause x section askers b ∷ l) (same_round cause x rest askers a b h)

-- the numbers of a leaf
abbrev row : Cause → Asks → List (List ℕ) → List ℕ
row cause asks table = leaf_round cause asks.number asks.sections asks.askers table

same_rounds : (cause : Cause) (asks : List Asks) (a b : List (List ℕ)) → ((x : ℕ) → row cause (get_or asks x no_asks) a ≡ row cause (get_or asks x no_asks) b)
    → round cause asks a ≡ round cause asks b
same_rounds cause [] a b h = refl
same_rounds cause (asks ∷ rest) a b h =
    ap (λ (l : List ℕ). l ∷ round cause rest a) (h 0) ∙ ap (λ (l : List (List ℕ)). row cause asks b ∷ l) (same_rounds cause rest a b (λ x. h (suc x)))

row_of : (cause : Cause) (asks : List Asks) (table : List (List ℕ)) (x : ℕ) → get_or (round cause asks table) x [] ≡ row cause (get_or asks x no_asks) table
row_of cause [] table x = refl
row_of cause (asks ∷ rest) table zero = refl
row_of cause (asks ∷ rest) table (suc x) = row_of cause rest table x

-- THE TABLE

module _ (cause : Cause) (asks : List Asks) (table : List (List ℕ)) (levels : List ℕ) (uses : ℕ) (fixed : table ≡ round cause asks table)
    (order : IsOrder asks levels uses) where
  fixed_row : (x : ℕ) → get_or table x [] ≡ row cause (get_or asks x no_asks) table
  fixed_row x = ap (λ (t : List (List ℕ)). get_or t x []) fixed ∙ row_of cause asks table x

  -- past the leaves there is no row
  no_row : (k x : ℕ) → length asks ≤ x → get_or (rounds cause k asks []) x [] ≡ []
  no_row zero x past = refl
  no_row (suc k) x past =
      row_of cause asks (rounds cause k asks []) x ∙ ap (λ (a : Asks). row cause a (rounds cause k asks [])) (get_or_past asks x no_asks past)

  past_same : (k x : ℕ) → length asks ≤ x → get_or (rounds cause k asks []) x [] ≡ get_or table x []
  past_same k x past = no_row k x past ∙ sym (fixed_row x ∙ ap (λ (a : Asks). row cause a table) (get_or_past asks x no_asks past))

  -- after so many rounds the rows of the leaves below this level are those of the table
  abbrev Below : ℕ → Type 0
  Below k = (x : ℕ) → x < length asks → get_or levels x 0 < k → get_or (rounds cause k asks []) x [] ≡ get_or table x []

  below_same : (k y : ℕ) → Below k → get_or levels y 0 < k → (y < length asks) ⊎ (length asks ≤ y) → get_or (rounds cause k asks []) y [] ≡ get_or table y []
  below_same k y before lower (inl less) = before y less lower
  below_same k y before lower (inr past) = past_same k y past

  asker : (k x : ℕ) → Below k → x < length asks → get_or levels x 0 ≤ k → AreSame (get_or asks x no_asks).askers (rounds cause k asks []) table
  asker k x before there few i less =
      let y = (get_or (get_or asks x no_asks).askers i no_asker).leaf in
      below_same k y before (omega (arith, (order.placed x there).1 i less, few)) (cases_lt y (length asks))

  below : (k : ℕ) → Below k
  below zero x there less = absurd (omega (arith, less))
  below (suc k) x there less =
      row_of cause asks (rounds cause k asks []) x
      ∙ (same_round cause (get_or asks x no_asks).number (get_or asks x no_asks).sections (get_or asks x no_asks).askers (rounds cause k asks []) table
      (asker k x (below k) there (omega (arith, less)))
      ∙ sym (fixed_row x))

  same_at : (x : ℕ) → (x < length asks) ⊎ (length asks ≤ x)
      → row cause (get_or asks x no_asks) (rounds cause uses asks []) ≡ row cause (get_or asks x no_asks) table
  same_at x (inl there) =
      same_round cause (get_or asks x no_asks).number (get_or asks x no_asks).sections (get_or asks x no_asks).askers (rounds cause uses asks []) table
      (asker uses x (below uses) there (order.placed x there).0)
  same_at x (inr past) =
      let none = get_or_past asks x no_asks past in
      ap (λ (a : Asks). row cause a (rounds cause uses asks [])) none ∙ sym (ap (λ (a : Asks). row cause a table) none)

  pub ordered : table ≡ rounds cause (suc uses) asks []
  ordered = fixed ∙ sym (same_rounds cause asks (rounds cause uses asks []) table (λ x. same_at x (cases_lt x (length asks))))
