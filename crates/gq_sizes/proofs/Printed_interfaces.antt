-- The lines of interfaces as a text that grows at its end, by rows of what is least.
use Rattle.std.proofs.Common.{◌≡◌, ◌∙◌, ℕ, zero, suc, ◌+◌, ◌-◌, ◌^◌, ◌<◌, Bool, false, List, [], ◌++◌, length, get_or, drop, Option, ap, ap₂, sym}
use Rattle.std.proofs.Common.{arith, add-one, append_assoc}
use Rattle.std.proofs.lemmas.List.{get_or-map}
use Rattle.gq_model.specs.machine.Amounts.{Amount, amount}
use Rattle.gq_model.specs.machine.Scenario.{Interface, Interfaces, System}
use Rattle.gq_resolve.proofs.Mapped_list_growth.{next_is, onto}
use Rattle.gq_verify.specs.Saturated_numbers.{saturated}
use Rattle.gq_sizes.specs.Size.{Gift, least_caps, ram_sum}
use Rattle.gq_sizes.specs.Endless.{is_endless}
use Rattle.gq_sizes.specs.Passing.{endless_rows, tests}
use Rattle.gq_sizes.specs.Size_text.{need_line, unless, upgrade_line}
use Rattle.gq_sizes.specs.internal.Printed_sizes.{interface_lines, need_least, upgrade_least, upgrade_lines}
use Rattle.gq_sizes.specs.Saturated_tables.{caps_rows, ram_rows, row}

-- the number of a level stands at it
row_at : (f : ℕ → ℕ) (xs : List ℕ) → xs ≡ row f → (k : ℕ) → k < 4 → get_or xs k 0 ≡ f k
row_at f xs e zero h = ap (λ l. get_or l 0 0) e
row_at f xs e (suc zero) h = ap (λ l. get_or l 1 0) e
row_at f xs e (suc (suc zero)) h = ap (λ l. get_or l 2 0) e
row_at f xs e (suc (suc (suc zero))) h = ap (λ l. get_or l 3 0) e
row_at f xs e (suc (suc (suc (suc k)))) h = absurd (omega arith)

pub test_at : (f : ℕ → Bool) (xs : List Bool) → xs ≡ tests f → (l k : ℕ) → l ≡ k → l < 4 → get_or xs l false ≡ f k
test_at f xs e l k same h = by l h ∙ ap f same
  where
    by : (l : ℕ) → l < 4 → get_or xs l false ≡ f l
    by zero h = ap (λ r. get_or r 0 false) e
    by (suc zero) h = ap (λ r. get_or r 1 false) e
    by (suc (suc zero)) h = ap (λ r. get_or r 2 false) e
    by (suc (suc (suc zero))) h = ap (λ r. get_or r 3 false) e
    by (suc (suc (suc (suc k)))) h = absurd (omega (arith, h))

kept : (n : ℕ) (m : ℕ) → m ≡ n → m < 2 ^ 64 → m ≡ saturated n
kept n m e h = omega (arith, e, h)

module _ (f g : ℕ → ℕ) (ram caps : List ℕ) (rams : ram ≡ row f) (capss : caps ≡ row (λ l. saturated (g l))) where
  ram_at : (l k : ℕ) → l ≡ k → l < 4 → get_or ram l 0 < 2 ^ 64 → get_or ram l 0 ≡ saturated (f k)
  ram_at l k e h small = kept (f k) (get_or ram l 0) (row_at f ram rams l h ∙ ap f e) small

  caps_at : (l k : ℕ) → l ≡ k → l < 4 → get_or caps l 0 ≡ saturated (g k)
  caps_at l k e h = row_at (λ j. saturated (g j)) caps capss l h ∙ ap (λ j. saturated (g j)) e

  -- what is needed to be opened
  pub first_is : get_or ram 0 0 < 2 ^ 64 → amount (get_or ram 0 0) (get_or caps 0 0) ≡ amount (saturated (f 0)) (saturated (g 0))
  first_is small = ap₂ amount (ram_at 0 0 (λ i. 0) (omega arith) small) (caps_at 0 0 (λ i. 0) (omega arith))

  -- what has to be added for the level above one
  pub step_is : (l : ℕ) → l < 3 → get_or ram l 0 < 2 ^ 64 → get_or ram (l + 1) 0 < 2 ^ 64 →
      amount (get_or ram (l + 1) 0 - get_or ram l 0) (get_or caps (l + 1) 0 - get_or caps l 0)
      ≡ amount (saturated (f (suc l)) - saturated (f l)) (saturated (g (suc l)) - saturated (g l))
  step_is l h small above =
      ap₂ amount
      (ap₂ (λ a b. a - b) (ram_at (l + 1) (suc l) (add-one l) (omega arith) above) (ram_at l l (λ i. l) (omega arith) small))
      (ap₂ (λ a b. a - b) (caps_at (l + 1) (suc l) (add-one l) (omega arith)) (caps_at l l (λ i. l) (omega arith)))

-- UPGRADES

module _ (version : ℕ) (all : System) (given : List Gift) (service : List ℕ) (i : Interface) (upgrades : List Amount) (l : ℕ) (a : Amount)
    (within : l < length upgrades) (is : a ≡ get_or upgrades l a) where
  abbrev lines : ℕ → List ℕ
  lines k = upgrade_lines version all given service i k (drop (l + 1) upgrades)

  -- the line of the upgrade that stands there was put at the end
  pub upgrade_put : (least : Amount) → least ≡ upgrade_least all given service i l → (endless : Bool) → endless ≡ is_endless all service (suc l) →
      (ram : ℕ) (caps : Option ℕ) → ram ≡ least.ram → caps ≡ unless endless least.caps → (old more whole : List ℕ) →
      more ≡ old ++ upgrade_line version service (l + 1) a ram caps →
      old ++ upgrade_lines version all given service i l (drop l upgrades) ≡ whole →
      more ++ upgrade_lines version all given service i (l + 1) (drop (l + 1) upgrades) ≡ whole
  upgrade_put least e endless without ram caps rams capss old more whole put inv =
      let reported = upgrade_least all given service i l in
      let here = ap (upgrade_lines version all given service i l) (next_is upgrades l a within is) in
      let there = ap (λ n. upgrade_line version service n a reported.ram (unless (is_endless all service (suc l)) reported.caps) ++ lines n) (sym (add-one l))
      in
      let first : ram ≡ reported.ram = rams ∙ ap (λ (x : Amount). x.ram) e in
      let second : caps ≡ unless (is_endless all service (suc l)) reported.caps = capss ∙ ap₂ (λ b (x : Amount). unless b x.caps) without e in
      let known : upgrade_line version service (l + 1) a reported.ram (unless (is_endless all service (suc l)) reported.caps) ++ lines (l + 1)
      ≡ upgrade_line version service (l + 1) a ram caps ++ lines (l + 1) =
      (λ j. upgrade_line version service (l + 1) a (sym first j) (sym second j) ++ lines (l + 1)) in
      onto old more (upgrade_line version service (l + 1) a ram caps) (lines (l + 1)) (upgrade_lines version all given service i l (drop l upgrades)) whole put
      (here ∙ (there ∙ known)) inv

-- INTERFACES

module _ (version : ℕ) (all : System) (given : List Gift) (entries : Interfaces) (k : ℕ) (e : List ℕ × Interface) (within : k < length entries)
    (is : e ≡ get_or entries k e) where
  -- the lines of the interface that stands there were put at the end
  pub interface_put : (old more whole : List ℕ) →
      more ≡ (old ++ need_line version e.0 e.1.need (need_least all given e.0 e.1).ram (unless (is_endless all e.0 0) (need_least all given e.0 e.1).caps))
      ++ upgrade_lines version all given e.0 e.1 0 e.1.upgrades →
      old ++ interface_lines version all given (drop k entries) ≡ whole →
      more ++ interface_lines version all given (drop (k + 1) entries) ≡ whole
  interface_put old more whole put inv =
      let least = need_least all given e.0 e.1 in
      let first = need_line version e.0 e.1.need least.ram (unless (is_endless all e.0 0) least.caps) in
      let second = upgrade_lines version all given e.0 e.1 0 e.1.upgrades in
      onto old more (first ++ second) (interface_lines version all given (drop (k + 1) entries)) (interface_lines version all given (drop k entries)) whole
      (put ∙ append_assoc old first second) (ap (interface_lines version all given) (next_is entries k e within is)) inv

  -- and so are its rows
  pub ram_row : (rows : List (List ℕ)) → rows ≡ ram_rows all given entries → get_or rows k [] ≡ row (ram_sum all given e.0 e.1)
  ram_row rows h =
      ap (λ l. get_or l k []) h
      ∙ (get_or-map (λ (d : List ℕ × Interface). row (ram_sum all given d.0 d.1)) entries k e [] within
      ∙ ap (λ (d : List ℕ × Interface). row (ram_sum all given d.0 d.1)) (sym is))

  pub caps_row : (rows : List (List ℕ)) → rows ≡ caps_rows all entries → get_or rows k [] ≡ row (λ l. saturated (least_caps all e.0 l))
  caps_row rows h =
      ap (λ l. get_or l k []) h
      ∙ (get_or-map (λ (d : List ℕ × Interface). row (λ l. saturated (least_caps all d.0 l))) entries k e [] within
      ∙ ap (λ (d : List ℕ × Interface). row (λ l. saturated (least_caps all d.0 l))) (sym is))

  pub endless_row : (rows : List (List Bool)) → rows ≡ endless_rows all entries → get_or rows k [] ≡ tests (is_endless all e.0)
  endless_row rows h =
      ap (λ l. get_or l k []) h
      ∙ (get_or-map (λ (d : List ℕ × Interface). tests (is_endless all d.0)) entries k e [] within
      ∙ ap (λ (d : List ℕ × Interface). tests (is_endless all d.0)) (sym is))
