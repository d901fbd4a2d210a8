-- Leaves that use more than they are given, one after the other.
use Rattle.std.proofs.Common.{◌≡◌, ◌<◌, ◌≤◌, ◌+◌, ℕ, suc, Bool, true, false, cond, Some, None, List, [], ◌∷◌, ◌++◌, length}
use Rattle.std.proofs.Common.{map, get_or, drop, refl, ap, sym, ◌∙◌, append-nil}
use Rattle.std.specs.Prelude.{nat_le, not}
use Rattle.std.proofs.lemmas.List.{drop_more, drop_all}
use Rattle.gq_model.specs.machine.Amounts.{Resource, Ram, Caps, part}
use Rattle.gq_model.specs.machine.Scenario.{Component, Scenario, System, components, system}
use Rattle.gq_model.specs.rules.Accept.{Refusal, Over_own, Over_steps, Budget, are_small, budget, budgets, budgets_from}
use Rattle.gq_model.specs.rules.Use.{step_budget}
use Rattle.gq_model.specs.texts.Fault_texts.{refusal_text}
use Rattle.gq_load.specs.Load_faults.{Prints, load_fault_text}
use Rattle.gq_load.specs.Load.{refused}
use Rattle.gq_load.specs.Over_limits.{over_refusal}
use Rattle.gq_load.specs.declared.load_fault.LoadFault.{LoadFault}
use Rattle.gq_load.specs.declared.over.Limit.{Limit}
use Rattle.gq_load.specs.declared.over.Limit.TheVariants as limits
use Rattle.gq_load.specs.internal.Saturated_budgets.{kept_from}
use Rattle.gq_load.proofs.Saturated_step_budgets.{steps_kept}
use Rattle.gq_faults.specs.Found_lists.{when}
use Rattle.gq_faults.specs.Leaves_over_limit.{over_limit}
use Rattle.gq_faults.specs.Scenario_faults.{over_own, over_steps, over_budgets}
use Rattle.gq_faults.proofs.Joined_fault_lists.{map-append}

module _ {C : Type 0} (t : Refusal → C) (cs : List Component) (bs : List Budget) (i : ℕ) where
  own_next : (r : Resource) (c : Component) (b : Budget) → i < length cs → i < length bs → c ≡ get_or cs i c → b ≡ get_or bs i b
      → map t (over_own r (drop i cs) (drop i bs)) ≡ map t (over_own r (c ∷ []) (b ∷ [])) ++ map t (over_own r (drop (i + 1) cs) (drop (i + 1) bs))
  own_next r c b h k at_c at_b =
      rw (drop_more cs i c h, ← at_c, drop_more bs i b k, ← at_b)
      (map-append t (when (not (nat_le (part r b.own) (part r c.node.quantum))) (Over_own r c.node.name (part r b.own) (part r c.node.quantum)))
      (over_own r (drop (i + 1) cs) (drop (i + 1) bs))
      ∙ ap (λ l. map t l ++ map t (over_own r (drop (i + 1) cs) (drop (i + 1) bs))) (sym (append-nil _)))

  own_end : (r : Resource) → length cs ≤ i → map t (over_own r (drop i cs) (drop i bs)) ≡ []
  own_end r past = rw (drop_all i cs past) refl

  steps_next : (c : Component) (b : Budget) → i < length cs → i < length bs → c ≡ get_or cs i c → b ≡ get_or bs i b
      → map t (over_steps (drop i cs) (drop i bs)) ≡ map t (over_steps (c ∷ []) (b ∷ [])) ++ map t (over_steps (drop (i + 1) cs) (drop (i + 1) bs))
  steps_next c b h k at_c at_b =
      rw (drop_more cs i c h, ← at_c, drop_more bs i b k, ← at_b)
      (map-append t (when (not (are_small b.steps)) (Over_steps c.node.name)) (over_steps (drop (i + 1) cs) (drop (i + 1) bs))
      ∙ ap (λ l. map t l ++ map t (over_steps (drop (i + 1) cs) (drop (i + 1) bs))) (sym (append-nil _)))

  steps_end : length cs ≤ i → map t (over_steps (drop i cs) (drop i bs)) ≡ []
  steps_end past = rw (drop_all i cs past) refl

  -- the same of any limit
  pub over_next : (l : Limit) (c : Component) (b : Budget) → i < length cs → i < length bs → c ≡ get_or cs i c → b ≡ get_or bs i b
      → map t (over_limit l (drop i cs) (drop i bs)) ≡ map t (over_limit l (c ∷ []) (b ∷ [])) ++ map t (over_limit l (drop (i + 1) cs) (drop (i + 1) bs))
  over_next limits.Ram c b h k at_c at_b = own_next Ram c b h k at_c at_b
  over_next limits.Steps c b h k at_c at_b = steps_next c b h k at_c at_b
  over_next limits.Caps c b h k at_c at_b = own_next Caps c b h k at_c at_b

  pub over_end : (l : Limit) → length cs ≤ i → map t (over_limit l (drop i cs) (drop i bs)) ≡ []
  over_end limits.Ram past = own_end Ram past
  over_end limits.Steps past = steps_end past
  over_end limits.Caps past = own_end Caps past

-- ONE LEAF

test_passed : (t : Bool) (x : Refusal) → cond t None (Some x) ≡ None → map refusal_text (when (not t) x ++ []) ≡ []
test_passed true x e = refl
test_passed false x e = absurd cc

test_failed : (t : Bool) (x : Refusal) (f : LoadFault) → Prints f (refused (cond t None (Some x)))
    → map refusal_text (when (not t) x ++ []) ≡ load_fault_text f ∷ []
test_failed true x f h = absurd h
test_failed false x f h = ap (λ l. l ∷ []) (sym h)

module _ (c : Component) (b : Budget) where
  pub none_over : (l : Limit) → over_refusal l (c ∷ []) (b ∷ []) ≡ None → map refusal_text (over_limit l (c ∷ []) (b ∷ [])) ≡ []
  none_over limits.Ram e = test_passed (nat_le (part Ram b.own) (part Ram c.node.quantum)) _ e
  none_over limits.Steps e = test_passed (are_small b.steps) _ e
  none_over limits.Caps e = test_passed (nat_le (part Caps b.own) (part Caps c.node.quantum)) _ e

  pub one_over : (l : Limit) (f : LoadFault) → Prints f (refused (over_refusal l (c ∷ []) (b ∷ [])))
      → map refusal_text (over_limit l (c ∷ []) (b ∷ [])) ≡ load_fault_text f ∷ []
  one_over limits.Ram f h = test_failed (nat_le (part Ram b.own) (part Ram c.node.quantum)) _ f h
  one_over limits.Steps f h = test_failed (are_small b.steps) _ f h
  one_over limits.Caps f h = test_failed (nat_le (part Caps b.own) (part Caps c.node.quantum)) _ f h

-- BUDGETS AS FAR AS THEY ARE KEPT

own_same : (r : Resource) (version : ℕ) (system : System) (x : ℕ) (cs all : List Component)
    → over_own r cs (kept_from version system x all) ≡ over_own r cs (budgets_from version system x all)
own_same r version system x [] all = refl
own_same r version system x (c ∷ cs) [] = refl
own_same r version system x (c ∷ cs) (d ∷ all) =
    let own = part r (budget version system x d).own in
    let quantum = part r c.node.quantum in
    ap (λ l. when (not (nat_le own quantum)) (Over_own r c.node.name own quantum) ++ l) (own_same r version system (suc x) cs all)

same_test : (a b : Bool) (y : Refusal) → cond a None (Some y) ≡ cond b None (Some y) → a ≡ b
same_test true true y e = refl
same_test false false y e = refl
same_test true false y e = absurd cc
same_test false true y e = absurd cc

steps_same : (version : ℕ) (system : System) (x : ℕ) (cs all : List Component)
    → over_steps cs (kept_from version system x all) ≡ over_steps cs (budgets_from version system x all)
steps_same version system x [] all = refl
steps_same version system x (c ∷ cs) [] = refl
steps_same version system x (c ∷ cs) (d ∷ all) =
    ap (λ b. when (not b) (Over_steps c.node.name) ++ over_steps cs (kept_from version system (suc x) all))
    (same_test _ _ (Over_steps c.node.name) (steps_kept version system x (c ∷ []) (d ∷ [])))
    ∙ ap (λ l. when (not (are_small (step_budget system x d))) (Over_steps c.node.name) ++ l) (steps_same version system (suc x) cs all)

kept_over : (version : ℕ) (system : System) (cs : List Component)
    → over_budgets cs (kept_from version system 0 cs) ≡ over_budgets cs (budgets_from version system 0 cs)
kept_over version system cs =
    ap (λ l. l ++ over_steps cs (kept_from version system 0 cs) ++ over_own Caps cs (kept_from version system 0 cs)) (own_same Ram version system 0 cs cs)
    ∙ (ap (λ l. over_own Ram cs (budgets_from version system 0 cs) ++ l ++ over_own Caps cs (kept_from version system 0 cs)) (steps_same version system 0 cs cs)
    ∙ ap (λ l. over_own Ram cs (budgets_from version system 0 cs) ++ over_steps cs (budgets_from version system 0 cs) ++ l)
    (own_same Caps version system 0 cs cs))

pub over_same : (s : Scenario) (cs : List Component) → cs ≡ components s
    → over_budgets cs (kept_from s.version (system s) 0 cs) ≡ over_budgets cs (budgets s)
over_same s cs e = kept_over s.version (system s) cs ∙ ap (λ all. over_budgets cs (budgets_from s.version (system s) 0 all)) e
