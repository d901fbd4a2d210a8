-- The first interface whose sessions hold one another without end, found one after the other; and what it is.
use Rattle.std.proofs.Common.{◌≡◌, ◌∙◌, ℕ, zero, suc, ◌+◌, ◌<◌, ◌≤◌, ◌||◌, Bool, true, false, List, [], ◌∷◌}
use Rattle.std.proofs.Common.{length, get_or, drop, Option, Some, None, Result, Ok, Err}
use Rattle.std.proofs.Common.{ap, sym, refl, subst, inl, inr, arith}
use Rattle.std.specs.Prelude.{if◌then◌else◌, slice_get, IfOk, IfSome}
use Rattle.std.proofs.Math.ListN.{drop_of_length-le}
use Rattle.std.proofs.lemmas.Bool.Decides.{eqb_tells}
use Rattle.std.proofs.lemmas.List.{length-map}
use Rattle.gq_model.specs.machine.Program.{text_eq}
use Rattle.gq_model.specs.machine.Scenario.{Interface, Interfaces, Scenario, System, interface_in, system}
use Rattle.gq_model.proofs.Small_facts.{none_some, some_none, some_same, text_is}
use Rattle.gq_program.specs.Interfaces.{all_unbounded, capped, is_rising}
use Rattle.gq_program.proofs.Sorted_interfaces.{rising_entry}
use Rattle.gq_resolve.proofs.Mapped_list_growth.{next_is}
use Rattle.gq_scenario.specs.Without_quantities.{unsized}
use Rattle.gq_sizes.specs.Endless.{IsWithoutEnd, SessionsEnd, endless_up_to, first_endless, is_endless}

-- LEVELS

module _ (all : System) (service : List ℕ) where
  -- one of the levels is without end
  pub level_found : (l : ℕ) (b : Bool) → b ≡ is_endless all service l → b ≡ true → true ≡ endless_up_to all service l
  level_found zero b is e = sym e ∙ is
  level_found (suc l) b is e = ap (λ a. a || endless_up_to all service l) (sym e ∙ is)

  pub level_none : (l : ℕ) (b : Bool) → b ≡ is_endless all service l → b ≡ false → l ≡ 0 → false ≡ endless_up_to all service l
  level_none zero b is e z = sym e ∙ is
  level_none (suc l) b is e z = absurd (omega (arith, z))

  pub level_below : (l k : ℕ) (b more : Bool) → b ≡ is_endless all service l → b ≡ false → l ≡ suc k → more ≡ endless_up_to all service k
      → more ≡ endless_up_to all service l
  level_below l k b more is e at below =
      below ∙ (ap (λ a. a || endless_up_to all service k) (sym e ∙ (is ∙ ap (is_endless all service) at)) ∙ ap (endless_up_to all service) (sym at))

  some_level : (l : ℕ) → endless_up_to all service l ≡ true → (k : ℕ) × (k ≤ l) × (is_endless all service k ≡ true)
  some_level zero e = (0, omega arith, e)
  some_level (suc l) e = by (is_endless all service (suc l)) refl e (some_level l)
    where
      by : (b : Bool) → is_endless all service (suc l) ≡ b → (b || endless_up_to all service l) ≡ true
          → (endless_up_to all service l ≡ true → (k : ℕ) × (k ≤ l) × (is_endless all service k ≡ true))
          → (k : ℕ) × (k ≤ suc l) × (is_endless all service k ≡ true)
      by true is h more = (suc l, omega arith, is)
      by false is h more = let below = more h in (below.0, omega (arith, below.1), below.2)

  no_level : (l : ℕ) → endless_up_to all service l ≡ false → (k : ℕ) → k ≤ l → is_endless all service k ≡ false
  no_level zero e k h = let z : k ≡ 0 = omega (arith, h) in ap (is_endless all service) z ∙ e
  no_level (suc l) e k h = by (is_endless all service (suc l)) refl e (no_level l)
    where
      by : (b : Bool) → is_endless all service (suc l) ≡ b → (b || endless_up_to all service l) ≡ false
          → (endless_up_to all service l ≡ false → (n : ℕ) → n ≤ l → is_endless all service n ≡ false) → is_endless all service k ≡ false
      by true is none more = absurd cc
      by false is none more =
          elim (eqb_tells k (suc l)) [ inl e ↦ ap (is_endless all service) e.1 ∙ is | inr e ↦ more none k (omega (arith, h, e.1)) ]

-- ONE AFTER THE OTHER

module _ (all : System) (items : Interfaces) (i : ℕ) where
  first_of : (e : List ℕ × Interface) → i < length items → e ≡ get_or items i e
      → first_endless all (drop i items) ≡ (if endless_up_to all e.0 (length e.1.upgrades) then Some e.0 else first_endless all (drop (i + 1) items))
  first_of e within is = ap (first_endless all) (next_is items i e within is)

  -- one that ends leaves those behind it
  pub first_next : (e : List ℕ × Interface) (found : Bool) → i < length items → e ≡ get_or items i e → found ≡ endless_up_to all e.0 (length e.1.upgrades)
      → found ≡ false → (whole : Option (List ℕ)) → first_endless all (drop i items) ≡ whole → first_endless all (drop (i + 1) items) ≡ whole
  first_next e found within is test fails whole inv =
      sym (first_of e within is ∙ ap (λ b. if b then Some e.0 else first_endless all (drop (i + 1) items)) (sym test ∙ fails)) ∙ inv

  -- one that does not is the first
  pub first_here : (e : List ℕ × Interface) (found : Bool) → i < length items → e ≡ get_or items i e → found ≡ endless_up_to all e.0 (length e.1.upgrades)
      → found ≡ true → (whole : Option (List ℕ)) → first_endless all (drop i items) ≡ whole → Some e.0 ≡ whole
  first_here e found within is test holds whole inv =
      sym (first_of e within is ∙ ap (λ b. if b then Some e.0 else first_endless all (drop (i + 1) items)) (sym test ∙ holds)) ∙ inv

  -- and where none is left there is none
  pub first_end : length items ≤ i → (whole : Option (List ℕ)) → first_endless all (drop i items) ≡ whole → None ≡ whole
  first_end end whole inv = sym (ap (first_endless all) (drop_of_length-le items end)) ∙ inv

-- it is the same without quantities
pub first_without : (all : System) (items : Interfaces) → first_endless all (all_unbounded items) ≡ first_endless all items
first_without all [] = refl
first_without all (e ∷ rest) =
    let same = length-map e.1.upgrades capped in
    (λ j. if endless_up_to all e.0 (same j) then Some e.0 else first_without all rest j)

-- WHAT IT IS

-- where it stands, at a level that it has
abbrev Stands : System → Interfaces → List ℕ → Type 0
Stands all items service =
    (i : ℕ) × (e : List ℕ × Interface) × (slice_get items i ≡ Some e) × (e.0 ≡ service) × (endless_up_to all e.0 (length e.1.upgrades) ≡ true)

found_there : (all : System) (items : Interfaces) (service : List ℕ) → first_endless all items ≡ Some service → Stands all items service
found_there all [] service e = absurd (none_some e)
found_there all (d ∷ rest) service e = by (endless_up_to all d.0 (length d.1.upgrades)) refl e (found_there all rest service)
  where
    by : (b : Bool) → endless_up_to all d.0 (length d.1.upgrades) ≡ b → (if b then Some d.0 else first_endless all rest) ≡ Some service
        → (first_endless all rest ≡ Some service → Stands all rest service) → Stands all (d ∷ rest) service
    by true is h more = (0, d, refl, some_same h, is)
    by false is h more = let there = more h in (suc there.0, there.1, there.2, there.3, there.4)

pub first_is_endless : (s : Scenario) → is_rising s.interfaces ≡ true → (service : List ℕ)
    → first_endless (system (unsized s)) s.interfaces ≡ Some service → IsWithoutEnd s service
first_is_endless s rises service e =
    let all = system (unsized s) in
    let there = found_there all s.interfaces service e in
    let level = some_level all there.1.0 (length there.1.1.upgrades) there.4 in
    record {
      interface = there.1.1;
      level = level.0;
      declared = ap (λ n. interface_in n s.interfaces) (sym there.3) ∙ rising_entry s.interfaces rises there.0 there.1 there.2;
      within = level.1;
      endless = ap (λ n. is_endless all n level.0) (sym there.3) ∙ level.2;
    }

none_there : (all : System) (items : Interfaces) → first_endless all items ≡ None → (service : List ℕ) (i : Interface) (l : ℕ)
    → interface_in service items ≡ Some i → l ≤ length i.upgrades → is_endless all service l ≡ false
none_there all [] e service i l declared h = absurd (none_some declared)
none_there all (d ∷ rest) e service i l declared h =
    by (endless_up_to all d.0 (length d.1.upgrades)) refl e (λ none is. none_there all rest none service i l is h)
  where
    at : (b : Bool) → text_eq service d.0 ≡ b → (if b then Some d.1 else interface_in service rest) ≡ Some i
        → endless_up_to all d.0 (length d.1.upgrades) ≡ false → (interface_in service rest ≡ Some i → is_endless all service l ≡ false)
        → is_endless all service l ≡ false
    at true same is ends more =
        ap (λ n. is_endless all n l) (text_is service d.0 same)
        ∙ no_level all d.0 (length d.1.upgrades) ends l (subst (λ (j : Interface). l ≤ length j.upgrades) (sym (some_same is)) h)
    at false same is ends more = more is

    by : (b : Bool) → endless_up_to all d.0 (length d.1.upgrades) ≡ b → (if b then Some d.0 else first_endless all rest) ≡ None
        → (first_endless all rest ≡ None → interface_in service rest ≡ Some i → is_endless all service l ≡ false) → is_endless all service l ≡ false
    by true is none more = absurd (some_none none)
    by false is none more = at (text_eq service d.0) refl declared is (more none)

pub none_is_endless : (s : Scenario) → first_endless (system (unsized s)) s.interfaces ≡ None → SessionsEnd s
none_is_endless s e = none_there (system (unsized s)) s.interfaces e

-- OF A SCENARIO

module _ (s : Scenario) where
  -- what was found without quantities
  pub first_of_scenario : {A E : Type 0} → (free : Scenario) → free ≡ unsized s → (found : A → Option (List ℕ)) (r : Result A E)
      → IfOk r (λ d. found d ≡ first_endless (system free) free.interfaces) → IfOk r (λ d. found d ≡ first_endless (system (unsized s)) s.interfaces)
  first_of_scenario free is found (Ok d) h =
      h ∙ (ap (λ (f : Scenario). first_endless (system f) f.interfaces) is ∙ first_without (system (unsized s)) s.interfaces)
  first_of_scenario free is found (Err e) h = tt

  some_by : is_rising s.interfaces ≡ true → (o : Option (List ℕ)) → o ≡ first_endless (system (unsized s)) s.interfaces → IfSome o (IsWithoutEnd s)
  some_by rises None e = tt
  some_by rises (Some service) e = first_is_endless s rises service (sym e)

  pub some_of_scenario : {A E : Type 0} → is_rising s.interfaces ≡ true → (found : A → Option (List ℕ)) (r : Result A E)
      → IfOk r (λ d. found d ≡ first_endless (system (unsized s)) s.interfaces) → IfOk r (λ d. IfSome (found d) (IsWithoutEnd s))
  some_of_scenario rises found (Ok d) h = some_by rises (found d) h
  some_of_scenario rises found (Err e) h = tt

  pub none_of_scenario : {A E : Type 0} → (found : A → Option (List ℕ)) (r : Result A E)
      → IfOk r (λ d. found d ≡ first_endless (system (unsized s)) s.interfaces) → IfOk r (λ d. found d ≡ None → SessionsEnd s)
  none_of_scenario found (Ok d) h = λ e. none_is_endless s (sym h ∙ e)
  none_of_scenario found (Err e) h = tt
