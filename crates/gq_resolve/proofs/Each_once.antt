-- The first service of a component that leads nowhere, where each is asked for once.
use Rattle.std.proofs.Common.{◌≡◌, Bool, true, false, ℕ, List, [], ◌∷◌, cond, Option, Some, None, refl, ap, sym, ◌∙◌}
use Rattle.gq_model.specs.machine.Lists.{or_first}
use Rattle.gq_model.specs.machine.Program.{text_eq}
use Rattle.gq_model.specs.machine.Scenario.{Component}
use Rattle.gq_model.specs.machine.Routes.{route}
use Rattle.gq_model.specs.rules.Resolve.{Unresolved, unrouted, services_fault}
use Rattle.gq_resolve.specs.Served.{without, once}
use Rattle.gq_model.proofs.Small_facts.{text_is}

module _ (c : Component) where
  abbrev fault : List ℕ → Option Unresolved
  fault s = unrouted c s (route c.levels s)

  none_here : (x s : List ℕ) (b : Bool) (l : List (List ℕ)) → fault x ≡ None → text_eq s x ≡ b
      → services_fault c (without x l) ≡ services_fault c l
      → services_fault c (cond b (without x l) (s ∷ without x l)) ≡ services_fault c (s ∷ l)
  none_here x s true l none is h = h ∙ sym (ap (λ f. or_first f (services_fault c l)) (ap fault (text_is s x is) ∙ none))
  none_here x s false l none is h = ap (or_first (fault s)) h

  -- a service without fault may be left out
  left_out : (x : List ℕ) (l : List (List ℕ)) → fault x ≡ None → services_fault c (without x l) ≡ services_fault c l
  left_out x [] none = refl
  left_out x (s ∷ l) none = none_here x s (text_eq s x) l none refl (left_out x l none)

  first_of : (f : Option Unresolved) (a b : Option Unresolved) → (f ≡ None → a ≡ b) → or_first f a ≡ or_first f b
  first_of None a b h = h refl
  first_of (Some why) a b h = refl

  -- the first fault of these is that of each of them once
  pub fault_once : (l : List (List ℕ)) → services_fault c l ≡ services_fault c (once l)
  fault_once [] = refl
  fault_once (s ∷ l) = first_of (fault s) _ _ (λ none. fault_once l ∙ sym (left_out s (once l) none))
