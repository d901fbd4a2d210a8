-- Turns in their order, row by row.
use Rattle.std.proofs.Common.{◌≡◌, ◌∙◌, ◌<◌, ◌≤◌, inl, inr, ℕ, zero, suc, ◌+◌, ◌==◌, drop, get_or, Bool, true, false, List, []}
use Rattle.std.proofs.Common.{◌∷◌, ◌++◌, length, map, refl, ap, sym, arith, append_assoc}
use Rattle.std.specs.Prelude.{◌&&◌, nat_lt, if◌then◌else◌, reverse}
use Rattle.std.proofs.lemmas.Bool.Decides.{eqb_tells, nat_tests}
use Rattle.std.proofs.lemmas.List.{map-append}
use Rattle.gq_model.specs.machine.Scenario.{Component}
use Rattle.gq_views.specs.Listing.{joined}
use Rattle.gq_outcomes.specs.Text.{greatest_row, onto_row, row_line, rows_back}
use Rattle.gq_outcomes.specs.internal.Turn_rows.{past_before, past_of, rows_onto}
use Rattle.gq_outcomes.proofs.Text_lines.{none_left}
use Rattle.gq_outcomes.proofs.Turns_read_back.{reverse_first}

-- the rows of the definition
pub rows_are : (turns past : List ℕ) → rows_back (past_before turns past) ≡ rows_onto turns (rows_back past)
rows_are [] past = refl
rows_are (x ∷ turns) past = rows_are turns (x ∷ past)

before_count : (turns past : List ℕ) → length (past_before turns past) ≡ length turns + length past
before_count [] past = omega arith
before_count (x ∷ turns) past = let h = before_count turns (x ∷ past) in omega (arith, h)

pub past_count : (turns : List ℕ) → length (past_of turns) ≡ length turns
past_count turns = let h = before_count turns [] in omega (arith, h)

-- one turn more
pub past_more : (turns past : List ℕ) (x : ℕ) → past_before (turns ++ x ∷ []) past ≡ x ∷ past_before turns past
past_more [] past x = refl
past_more (y ∷ turns) past x = past_more turns (y ∷ past) x

-- LINES

pub joined_both : (a b : List (List ℕ)) → joined (a ++ b) ≡ joined a ++ joined b
joined_both [] b = refl
joined_both (l ∷ a) b = ap (λ t. l ++ 10 ∷ t) (joined_both a b) ∙ sym (append_assoc l (10 ∷ joined a) (joined b))

module _ (cs : List Component) where
  -- the lines of rows, of which the last comes first
  abbrev pub lines_back : List (ℕ × ℕ) → List ℕ
  lines_back rows = joined (map (row_line cs) (reverse rows))

  -- one row more
  pub row_put : (old t new : List ℕ) (r : ℕ × ℕ) (done : List (ℕ × ℕ)) → t ≡ old ++ lines_back done → new ≡ t ++ joined (row_line cs r ∷ [])
      → new ≡ old ++ lines_back (r ∷ done)
  row_put old t new r done so put =
      put ∙ ap (λ t. t ++ joined (row_line cs r ∷ [])) so ∙ append_assoc old (lines_back done) (joined (row_line cs r ∷ []))
      ∙ ap (λ l. old ++ l) (sym (ap (λ l. joined (map (row_line cs) l)) (reverse_first r done)
      ∙ ap joined (map-append (row_line cs) (reverse done) (r ∷ [])) ∙ joined_both (map (row_line cs) (reverse done)) (row_line cs r ∷ [])))

-- A TURN MORE

equal_true : (y x : ℕ) → y ≡ x → (y == x) ≡ true
equal_true y x e = elim (eqb_tells y x) [ inl t ↦ t.0 | inr t ↦ absurd (t.1 e) ]

other_false : (y x : ℕ) → (y ≡ x → ⊥) → (y == x) ≡ false
other_false y x ne = elim (eqb_tells y x) [ inl t ↦ absurd (ne t.1) | inr t ↦ t.0 ]

less_true : (n m : ℕ) → n < m → nat_lt n m ≡ true
less_true n m less = grind (arith, nat_tests)

full_false : (n m : ℕ) → m ≤ n → nat_lt n m ≡ false
full_false n m full = grind (arith, nat_tests)

module _ (x y n : ℕ) (done : List (ℕ × ℕ)) where
  abbrev put : Bool → List (ℕ × ℕ)
  put b = if b then (x, suc n) ∷ done else (x, 1) ∷ (y, n) ∷ done

  -- of the leaf of the last row, which is not full
  pub grows : y ≡ x → n < greatest_row → onto_row x ((y, n) ∷ done) ≡ (y, n + 1) ∷ done
  grows e few =
      let next : suc n ≡ n + 1 = omega arith in
      ap (λ b. put (b && nat_lt n greatest_row)) (equal_true y x e) ∙ ap put (less_true n greatest_row few)
      ∙ ap (λ z. (z, suc n) ∷ done) (sym e) ∙ ap (λ m. (y, m) ∷ done) next

  -- of another leaf
  pub begins_other : (y ≡ x → ⊥) → onto_row x ((y, n) ∷ done) ≡ (x, 1) ∷ (y, n) ∷ done
  begins_other ne = ap (λ b. put (b && nat_lt n greatest_row)) (other_false y x ne)

  -- behind a full row
  pub begins_full : y ≡ x → greatest_row ≤ n → onto_row x ((y, n) ∷ done) ≡ (x, 1) ∷ (y, n) ∷ done
  begins_full e full = ap (λ b. put (b && nat_lt n greatest_row)) (equal_true y x e) ∙ ap put (full_false n greatest_row full)

-- at the end no turns are left
pub rows_end : (turns : List ℕ) (k : ℕ) (rows : List (ℕ × ℕ)) → length turns ≤ k → rows ≡ rows_onto (drop k turns) rows
rows_end turns k rows over = ap (λ t. rows_onto t rows) (sym (none_left turns k over))

pub turn_same : (turns : List ℕ) (k d : ℕ) → k < length turns → get_or turns k d ≡ get_or turns k (get_or turns k d)
turn_same [] k d l = absurd (omega (arith, l))
turn_same (x ∷ turns) zero d l = refl
turn_same (x ∷ turns) (suc k) d l = turn_same turns k d (omega (arith, l))
