-- What interfaces ask level by level, and whether that is just what sessions need.
use Rattle.std.proofs.Common.{◌≡◌, ◌∙◌, ℕ, zero, suc, ◌+◌, ◌≤◌, ◌==◌, ◌&&◌, Bool, true, false, List, [], ◌∷◌, length, take, Some}
use Rattle.std.proofs.Common.{ap, ap₂, sym, refl, inl, inr, ◌≢◌, arith}
use Rattle.std.specs.Prelude.{if◌then◌else◌, nat_le, slice_get}
use Rattle.std.proofs.lemmas.Bool.{and_parts, eq-eqb, eqb-true}
use Rattle.std.proofs.lemmas.Bool.Decides.{eqb_tells}
use Rattle.gq_model.specs.machine.Amounts.{Ram, Amount, total}
use Rattle.gq_model.specs.machine.Lists.{all_of}
use Rattle.gq_model.specs.machine.Program.{text_eq}
use Rattle.gq_model.specs.machine.Scenario.{Interface, Interfaces, System, interface_in}
use Rattle.gq_model.specs.rules.Kinds.{need_of}
use Rattle.gq_model.proofs.Small_facts.{none_some, some_same, text_is}
use Rattle.gq_program.specs.Interfaces.{are_interfaces, is_rising}
use Rattle.gq_program.proofs.Sorted_interfaces.{rising_entry}
use Rattle.gq_sizes.specs.Gives.{AskJust}
use Rattle.gq_sizes.specs.Size.{needed}
use Rattle.gq_sizes.specs.internal.Just_asked.{asks_above, asks_by, asks_just}

-- LEVELS

module _ (needs : ℕ → ℕ) where
  -- up to each of these levels just its number is asked
  abbrev Just : ℕ → ℕ → List Amount → Type 0
  Just l asked upgrades = (k : ℕ) → k ≤ length upgrades → asked + (total (take k upgrades)).ram ≡ needs (l + k)

  here : (l asked : ℕ) → (asked == needs l) ≡ true → asked + 0 ≡ needs (l + 0)
  here l asked e =
      let at : l ≡ l + 0 = omega arith in
      let same : asked + 0 ≡ asked = omega arith in same ∙ (eqb-true asked (needs l) e ∙ ap needs at)

  first : (l asked : ℕ) → asked + 0 ≡ needs (l + 0) → (asked == needs l) ≡ true
  first l asked e =
      let at : l + 0 ≡ l = omega arith in
      let same : asked ≡ asked + 0 = omega arith in eq-eqb asked (needs l) (same ∙ (e ∙ ap needs at))

  differs : (l asked : ℕ) → asked ≢ needs l → (asked == needs l) ≡ false
  differs l asked h = elim (eqb_tells asked (needs l)) [ inl e ↦ absurd (h e.1) | inr e ↦ e.0 ]

  levels_asked : (l asked : ℕ) (upgrades : List Amount) → asks_above needs l asked upgrades ≡ true → Just l asked upgrades
  levels_asked l asked [] e zero h = here l asked e
  levels_asked l asked [] e (suc k) h = absurd (omega (arith, h))
  levels_asked l asked (a ∷ rest) e zero h = here l asked (and_parts (asked == needs l) (asks_above needs (suc l) (asked + a.ram) rest) e).0
  levels_asked l asked (a ∷ rest) e (suc k) h =
      let more = levels_asked (suc l) (asked + a.ram) rest (and_parts (asked == needs l) (asks_above needs (suc l) (asked + a.ram) rest) e).1 k
      (omega (arith, h)) in
      let sum : asked + (a.ram + (total (take k rest)).ram) ≡ asked + a.ram + (total (take k rest)).ram = omega arith in
      let at : suc l + k ≡ l + suc k = omega arith in sum ∙ (more ∙ ap needs at)

  asked_levels : (l asked : ℕ) (upgrades : List Amount) → Just l asked upgrades → asks_above needs l asked upgrades ≡ true
  asked_levels l asked [] h = first l asked (h 0 (omega arith))
  asked_levels l asked (a ∷ rest) h =
      let more : Just (suc l) (asked + a.ram) rest = λ k within.
      let sum : asked + a.ram + (total (take k rest)).ram ≡ asked + (a.ram + (total (take k rest)).ram) = omega arith in
      let at : l + suc k ≡ suc l + k = omega arith in sum ∙ (h (suc k) (omega (arith, within)) ∙ ap needs at) in
      ap₂ (λ a b. a && b) (first l asked (h 0 (omega arith))) (asked_levels (suc l) (asked + a.ram) rest more)

  -- where it is not the number of the first of them
  pub not_asked : (l asked : ℕ) (upgrades : List Amount) → asked ≢ needs l → false ≡ asks_above needs l asked upgrades
  not_asked l asked [] h = sym (differs l asked h)
  not_asked l asked (a ∷ rest) h = ap (λ b. b && asks_above needs (suc l) (asked + a.ram) rest) (sym (differs l asked h))

  -- of an interface
  asks_levels : (i : Interface) → asks_by needs i ≡ true → (l : ℕ) → l ≤ length i.upgrades → (need_of i l).ram ≡ needs l
  asks_levels i e l h = let at : 0 + l ≡ l = omega arith in levels_asked 0 i.need.ram i.upgrades e l h ∙ ap needs at

  levels_asks : (i : Interface) → ((l : ℕ) → l ≤ length i.upgrades → (need_of i l).ram ≡ needs l) → asks_by needs i ≡ true
  levels_asks i h = asked_levels 0 i.need.ram i.upgrades (λ k within. let at : k ≡ 0 + k = omega arith in h k within ∙ ap needs at)

-- INTERFACES

-- what holds of all holds of the one of a service
all_named : (f : List ℕ × Interface → Bool) (items : Interfaces) → all_of f items ≡ true → (service : List ℕ) (i : Interface)
    → interface_in service items ≡ Some i → f (service, i) ≡ true
all_named f [] e service i declared = absurd (none_some declared)
all_named f (d ∷ rest) e service i declared =
    by (text_eq service d.0) refl declared (all_named f rest (and_parts (f d) (all_of f rest) e).1 service i)
  where
    by : (b : Bool) → text_eq service d.0 ≡ b → (if b then Some d.1 else interface_in service rest) ≡ Some i
        → (interface_in service rest ≡ Some i → f (service, i) ≡ true) → f (service, i) ≡ true
    by true same is more = (λ j. f (text_is service d.0 same j, sym (some_same is) j)) ∙ (and_parts (f d) (all_of f rest) e).0
    by false same is more = more is

all_there : {A : Type 0} → (f : A → Bool) (xs : List A) → ((i : ℕ) (x : A) → slice_get xs i ≡ Some x → f x ≡ true) → all_of f xs ≡ true
all_there f [] h = refl
all_there f (x ∷ xs) h = ap₂ (λ a b. a && b) (h 0 x refl) (all_there f xs (λ i y e. h (suc i) y e))

pub rising_of : (items : Interfaces) → are_interfaces items ≡ true → is_rising items ≡ true
rising_of items e = (and_parts (nat_le (length items) 64) (is_rising items) e).1

pub just_asked : (all : System) (items : Interfaces) → all_of (asks_just all) items ≡ true → AskJust all items
just_asked all items e service i l declared h =
    asks_levels (needed (λ _ _. 0) Ram all service i) i (all_named (asks_just all) items e service i declared) l h

pub asked_just : (all : System) (items : Interfaces) → is_rising items ≡ true → AskJust all items → all_of (asks_just all) items ≡ true
asked_just all items rises h =
    all_there (asks_just all) items (λ i e there.
    levels_asks (needed (λ _ _. 0) Ram all e.0 e.1) e.1 (λ l within. h e.0 e.1 l (rising_entry items rises i e there) within))
