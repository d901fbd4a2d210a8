-- Whether all that is shown, all sections and all leaves pass a test.
use Rattle.std.proofs.Common.{◌≡◌, ◌∙◌, ℕ, ◌+◌, ◌<◌, ◌≤◌, ◌&&◌, Bool, true, false, List, [], ◌∷◌, length, get_or, drop, map, ap, ap₂, sym, refl}
use Rattle.std.proofs.Math.Bool.{and-true, and_assoc}
use Rattle.std.proofs.lemmas.Bool.{and_parts}
use Rattle.gq_model.specs.machine.Lists.{all_of}
use Rattle.gq_model.specs.machine.Scenario.{Component, Interfaces, Scenario, System, system}
use Rattle.gq_model.specs.rules.Use.{subject}
use Rattle.gq_scenario.specs.Without_quantities.{unsized}
use Rattle.gq_verify.specs.Visits.{Sight, after_all}
use Rattle.gq_verify.proofs.List_remainders.{next_left, none_left}
use Rattle.gq_sizes.specs.Gives.{AskJust, GivesLeast, leaf_gives_right}

-- a test of all that is shown, one after the other
pub all_shown : (f : Sight → Bool) (b : Bool) (seen : List Sight) → after_all (λ right e. right && f e) b seen ≡ (b && all_of f seen)
all_shown f b [] = sym (and-true b)
all_shown f b (e ∷ rest) = all_shown f (b && f e) rest ∙ and_assoc b (f e) (all_of f rest)

module _ {A : Type 0} (f : A → Bool) (xs : List A) (i : ℕ) (whole : Bool) where
  first_of : (x : A) → i < length xs → x ≡ get_or xs i x → all_of f (drop i xs) ≡ (f x && all_of f (drop (i + 1) xs))
  first_of x lt is = ap (all_of f) (next_left xs i x lt is)

  -- one that passes leaves those behind it
  pub all_next : (x : A) → i < length xs → x ≡ get_or xs i x → f x ≡ true → all_of f (drop i xs) ≡ whole → all_of f (drop (i + 1) xs) ≡ whole
  all_next x lt is holds inv = sym (first_of x lt is ∙ ap (λ b. b && all_of f (drop (i + 1) xs)) holds) ∙ inv

  -- one that does not is enough
  pub all_here : (x : A) → i < length xs → x ≡ get_or xs i x → f x ≡ false → all_of f (drop i xs) ≡ whole → false ≡ whole
  all_here x lt is fails inv = sym (first_of x lt is ∙ ap (λ b. b && all_of f (drop (i + 1) xs)) fails) ∙ inv

  -- and where none is left all pass
  pub all_end : length xs ≤ i → all_of f (drop i xs) ≡ whole → true ≡ whole
  all_end end inv = sym (ap (all_of f) (none_left xs i end)) ∙ inv

-- the leaves of a system, by what each is judged by
pub all_subjects : (ifs : Interfaces) (all : System) (cs : List Component)
    → all_of (leaf_gives_right ifs) (map (subject all) cs) ≡ all_of (λ (c : Component). leaf_gives_right ifs (subject all c)) cs
all_subjects ifs all [] = refl
all_subjects ifs all (c ∷ rest) = ap (λ b. leaf_gives_right ifs (subject all c) && b) (all_subjects ifs all rest)

-- one test is whether the statements of a scenario give what its interfaces ask, the other whether these ask what sessions need
pub record AreDecided (s : Scenario) (gives asks : Bool) : Type 0 where
  pub statements : gives
      ≡ all_of (λ (c : Component). leaf_gives_right s.interfaces (subject (system (unsized s)) c)) (system (unsized s)).components
  pub just : asks ≡ true → AskJust (system (unsized s)) s.interfaces
  pub only : AskJust (system (unsized s)) s.interfaces → asks ≡ true

module _ (s : Scenario) (gives asks : Bool) (are : AreDecided s gives asks) where
  pub decided_true : (gives && asks) ≡ true → GivesLeast s
  decided_true e = let both = and_parts gives asks e in record { statements = sym are.statements ∙ both.0; just = are.just both.1 }

  pub decided_only : GivesLeast s → (gives && asks) ≡ true
  decided_only h = ap₂ (λ a b. a && b) (are.statements ∙ h.statements) (are.only h.just)
