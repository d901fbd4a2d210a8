-- Leaves that use more than a limit, one after the other.
use Rattle.std.proofs.Common.{◌≡◌, ◌<◌, ◌≤◌, ◌+◌, ℕ, Bool, true, false, cond, Option, Some, None, List, [], ◌∷◌, length, get_or, drop, refl}
use Rattle.std.specs.Prelude.{nat_le}
use Rattle.std.proofs.lemmas.List.{drop_more, drop_all}
use Rattle.gq_model.specs.machine.Amounts as resources
use Rattle.gq_model.specs.machine.Amounts.{part}
use Rattle.gq_model.specs.machine.Scenario.{Component}
use Rattle.gq_model.specs.rules.Accept.{Budget, Refusal, own_refusal, are_small, steps_refusal}
use Rattle.gq_load.specs.Load_faults.{Prints}
use Rattle.gq_load.specs.Load.{refused}
use Rattle.gq_load.specs.Over_limits.{over_refusal}
use Rattle.gq_load.specs.declared.load_fault.LoadFault.{LoadFault}
use Rattle.gq_load.specs.declared.over.Limit.{Limit}
use Rattle.gq_load.specs.declared.over.Limit.TheVariants.{Ram, Steps, Caps}

-- a test that is passed alone is passed before others
passed : (t : Bool) (x : Refusal) (rest : Option Refusal) → cond t None (Some x) ≡ None → cond t rest (Some x) ≡ rest
passed true x rest e = refl
passed false x rest e = absurd cc

failed : (t : Bool) (x : Refusal) (rest : Option Refusal) (f : LoadFault) → Prints f (refused (cond t None (Some x)))
    → Prints f (refused (cond t rest (Some x)))
failed true x rest f h = absurd h
failed false x rest f h = h

over_passed : (limit : Limit) (c : Component) (b : Budget) (cs : List Component) (bs : List Budget) → over_refusal limit (c ∷ []) (b ∷ []) ≡ None
    → over_refusal limit (c ∷ cs) (b ∷ bs) ≡ over_refusal limit cs bs
over_passed Ram c b cs bs e = passed (nat_le (part resources.Ram b.own) (part resources.Ram c.node.quantum)) _ (own_refusal resources.Ram cs bs) e
over_passed Steps c b cs bs e = passed (are_small b.steps) _ (steps_refusal cs bs) e
over_passed Caps c b cs bs e = passed (nat_le (part resources.Caps b.own) (part resources.Caps c.node.quantum)) _ (own_refusal resources.Caps cs bs) e

over_failed : (limit : Limit) (c : Component) (b : Budget) (cs : List Component) (bs : List Budget) (f : LoadFault)
    → Prints f (refused (over_refusal limit (c ∷ []) (b ∷ []))) → Prints f (refused (over_refusal limit (c ∷ cs) (b ∷ bs)))
over_failed Ram c b cs bs f h =
    failed (nat_le (part resources.Ram b.own) (part resources.Ram c.node.quantum)) _ (own_refusal resources.Ram cs bs) f h
over_failed Steps c b cs bs f h = failed (are_small b.steps) _ (steps_refusal cs bs) f h
over_failed Caps c b cs bs f h =
    failed (nat_le (part resources.Caps b.own) (part resources.Caps c.node.quantum)) _ (own_refusal resources.Caps cs bs) f h

module _ (limit : Limit) (cs : List Component) (bs : List Budget) (i : ℕ) where
  pub over_next : (c : Component) (b : Budget) → i < length cs → i < length bs → c ≡ get_or cs i c → b ≡ get_or bs i b
      → over_refusal limit (c ∷ []) (b ∷ []) ≡ None
      → over_refusal limit (drop i cs) (drop i bs) ≡ over_refusal limit (drop (i + 1) cs) (drop (i + 1) bs)
  over_next c b h k at_c at_b e =
      rw (drop_more cs i c h, ← at_c, drop_more bs i b k, ← at_b) (over_passed limit c b (drop (i + 1) cs) (drop (i + 1) bs) e)

  pub over_here : (c : Component) (b : Budget) (f : LoadFault) → i < length cs → i < length bs → c ≡ get_or cs i c → b ≡ get_or bs i b
      → Prints f (refused (over_refusal limit (c ∷ []) (b ∷ []))) → Prints f (refused (over_refusal limit (drop i cs) (drop i bs)))
  over_here c b f h k at_c at_b p =
      rw (drop_more cs i c h, ← at_c, drop_more bs i b k, ← at_b) (over_failed limit c b (drop (i + 1) cs) (drop (i + 1) bs) f p)

  pub over_end : length cs ≤ i → over_refusal limit (drop i cs) (drop i bs) ≡ None
  over_end past = rw (drop_all i cs past) (none limit)
    where
      none : (l : Limit) → over_refusal l [] (drop i bs) ≡ None
      none Ram = refl
      none Steps = refl
      none Caps = refl
