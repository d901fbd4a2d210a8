-- What statements are to give, put in lists; and what sessions need, by the table of what is needed.
use Rattle.std.proofs.Common.{◌≡◌, ◌∙◌, ℕ, suc, ◌+◌, ◌<◌, ◌≤◌, ◌++◌, min, Bool, true, false, List, [], ◌∷◌, length, map, get_or, drop, Option, Some, None}
use Rattle.std.proofs.Common.{ap, sym, refl, arith, append_assoc, append-nil}
use Rattle.std.specs.Prelude.{if◌then◌else◌}
use Rattle.std.proofs.lemmas.List.{map-append}
use Rattle.gq_model.specs.machine.Amounts.{Ram}
use Rattle.gq_model.specs.machine.Program.{text_eq}
use Rattle.gq_model.specs.machine.Scenario.{Interface, Interfaces, Component, System, interface_in}
use Rattle.gq_model.specs.rules.Kinds.{Subject}
use Rattle.gq_model.specs.rules.Use.{subject}
use Rattle.gq_model.proofs.Small_facts.{text_is}
use Rattle.gq_program.specs.Interfaces.{place_from}
use Rattle.gq_verify.specs.Visits.{Sight, Shows}
use Rattle.gq_sizes.specs.declared.donations.Donating.{Donating}
use Rattle.gq_sizes.specs.Donated.{all_donated, donated, donated_in, leaf_donated, needed_by}
use Rattle.gq_sizes.specs.Needing.{AreLow}
use Rattle.gq_sizes.specs.Point_maxima.{given_in, sum_at}
use Rattle.gq_sizes.specs.Saturated_tables.{needed_rows, row}
use Rattle.gq_sizes.specs.Size.{Given, needed, sum_in}
use Rattle.gq_sizes.proofs.Capability_need_rounds.{needed_low, row_get}
use Rattle.gq_sizes.proofs.Number_table_rows.{row_more, row_none}

-- LISTS

-- one more of what is read as g makes it
pub list_more : {A B C : Type 0} → (g : C → B) (f : A → B) (xs : List A) (i : ℕ) (x : A) (made made' : List C) (r : C) → i < length xs
    → x ≡ get_or xs i x → made' ≡ made ++ r ∷ [] → g r ≡ f x → map g made ++ map f (drop i xs) ≡ map f xs
    → map g made' ++ map f (drop (i + 1) xs) ≡ map f xs
list_more g f xs i x made made' r lt is put same whole =
    row_more f xs i x (map g made) (map g made') (g r) lt is (ap (map g) put ∙ map-append g made (r ∷ [])) same whole

pub list_all : {A B C : Type 0} → (g : C → B) (f : A → B) (xs : List A) (i : ℕ) (made : List C) → length xs ≤ i
    → map g made ++ map f (drop i xs) ≡ map f xs → map g made ≡ map f xs
list_all g f xs i made end whole = row_none f xs i (map g made) end whole

-- WHAT IS SHOWN

-- a visitor that was not refused memory has what all that it was shown gives
abbrev pub Leads : Donating → Sight → Donating → Type 0
Leads a e b = (b.needs ≡ a.needs) × (b.refused ≡ false → a.refused ≡ false)
    × (b.refused ≡ false → b.amounts.items ≡ a.amounts.items ++ donated (given_in a.needs.now.interfaces.now a.needs.now.sums.now) e)

not_before : (a b : Donating) (seen : List Sight) → Shows Leads a seen b → b.refused ≡ false → a.refused ≡ false
not_before a b [] h e = ap (λ (d : Donating). d.refused) h ∙ e
not_before a b (s ∷ rest) h e = h.1.1 (not_before h.0 b rest h.2 e)

pub shown_donated : (a b : Donating) (seen : List Sight) → Shows Leads a seen b → b.refused ≡ false
    → b.amounts.items ≡ a.amounts.items ++ donated_in (given_in a.needs.now.interfaces.now a.needs.now.sums.now) seen
shown_donated a b [] h e = ap (λ (d : Donating). d.amounts.items) (sym h) ∙ sym (append-nil a.amounts.items)
shown_donated a b (s ∷ rest) h e =
    let f = given_in a.needs.now.interfaces.now a.needs.now.sums.now in
    shown_donated h.0 b rest h.2 e
    ∙ ((λ j. h.1.2 (not_before h.0 b rest h.2 e) j ++ donated_in (given_in (h.1.0 j).now.interfaces.now (h.1.0 j).now.sums.now) rest)
    ∙ append_assoc a.amounts.items (donated f s) (donated_in f rest))

-- WHAT SESSIONS NEED

-- the number that stands at the place of a service, among those from the k-th on
needed_from : (all : System) (service : List ℕ) (l : ℕ) (rows : List (List ℕ)) (k : ℕ) (entries : Interfaces) →
    ((j : ℕ) → get_or rows (k + j) [] ≡ get_or (needed_rows all entries) j []) →
    sum_at (place_from k service entries) rows l ≡ sum_in (λ i. needed (λ _ _. 0) Ram all service i (min l 3)) (interface_in service entries)
needed_from all service l rows k [] h = refl
needed_from all service l rows k (e ∷ rest) h =
    by (text_eq service e.0) refl (needed_from all service l rows (suc k) rest (λ j. ap (λ n. get_or rows n []) (omega arith) ∙ h (suc j)))
  where
    at : get_or rows k [] ≡ row (needed (λ _ _. 0) Ram all e.0 e.1)
    at = ap (λ n. get_or rows n []) (omega arith) ∙ h 0

    by : (b : Bool) → text_eq service e.0 ≡ b →
        sum_at (place_from (suc k) service rest) rows l ≡ sum_in (λ i. needed (λ _ _. 0) Ram all service i (min l 3)) (interface_in service rest) →
        sum_at (if b then Some k else place_from (suc k) service rest) rows l
        ≡ sum_in (λ i. needed (λ _ _. 0) Ram all service i (min l 3)) (if b then Some e.1 else interface_in service rest)
    by true t more =
        ap (λ r. get_or r (min l 3) 0) at
        ∙ (row_get (needed (λ _ _. 0) Ram all e.0 e.1) (min l 3) (omega arith)
        ∙ ap (λ s. needed (λ _ _. 0) Ram all s e.1 (min l 3)) (sym (text_is service e.0 t)))
    by false t more = more

module _ (all : System) (low : AreLow (map (subject all) all.components)) where
  sum_needed : (service : List ℕ) (l : ℕ) (o : Option Interface)
      → sum_in (λ i. needed (λ _ _. 0) Ram all service i (min l 3)) o ≡ sum_in (λ i. needed (λ _ _. 0) Ram all service i l) o
  sum_needed service l None = refl
  sum_needed service l (Some i) = needed_low (λ _ _. 0) Ram all service i l all.components low

  pub needed_is : (ifs : Interfaces) (rows : List (List ℕ)) → ifs ≡ all.interfaces → rows ≡ needed_rows all ifs → given_in ifs rows ≡ needed_by all
  needed_is ifs rows same h = λ j service l.
      (needed_from all service l rows 0 ifs (λ k. ap (λ r. get_or r (0 + k) []) h ∙ ap (λ n. get_or (needed_rows all ifs) n []) (omega arith))
      ∙ (sum_needed service l (interface_in service ifs)
      ∙ ap (λ e. sum_in (λ i. needed (λ _ _. 0) Ram all service i l) (interface_in service e)) same)) j

-- LEAVES

leaves_by : (f : Given) (all : System) (cs : List Component)
    → map (leaf_donated f) (map (subject all) cs) ≡ map (λ (c : Component). leaf_donated f (subject all c)) cs
leaves_by f all [] = refl
leaves_by f all (c ∷ rest) = ap (λ l. leaf_donated f (subject all c) ∷ l) (leaves_by f all rest)

pub leaves_donated : (f : Given) (all : System) (vs : List Subject) → f ≡ needed_by all → vs ≡ map (subject all) all.components
    → map (leaf_donated f) vs ≡ all_donated all
leaves_donated f all vs is are =
    (λ j. map (leaf_donated (is j)) (are j)) ∙ leaves_by (needed_by all) all all.components
