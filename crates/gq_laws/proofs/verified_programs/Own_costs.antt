-- What a leaf's own slots cost: outside `main` they stay as they are, `main` leaves them at one of its points, and in an accepted scenario the budget that is
-- reported of them is within the leaf's quantum.
use Rattle.std.proofs.Common.{◌≡◌, ℕ, zero, suc, ◌+◌, ◌≤◌, cond, Bool, true, false, nat_le, List, [], ◌∷◌, ◌++◌, Option, Some, None, Ok, refl, ap, sym}
use Rattle.std.proofs.Common.{◌∙◌, subst, arith}
use Rattle.std.specs.Prelude.{slice_get}
use Rattle.std.proofs.Math.Nat.{le-max_left, le-max_right}
use Rattle.std.proofs.lemmas.Bool.{leb-true}
use Rattle.gq_model.specs.machine.Amounts.{Resource, Ram, Caps, amount, part, counts_caps}
use Rattle.gq_model.specs.machine.Lists.{or_first, greatest}
use Rattle.gq_model.specs.declared.section.Section.{Section}
use Rattle.gq_model.specs.declared.section.Section.TheVariants.{Main}
use Rattle.gq_model.specs.machine.Program.{Statements, Done, Do, If, Loop}
use Rattle.gq_model.specs.machine.Scenario.{Scenario, System, Component, components, system}
use Rattle.gq_model.specs.machine.World.{Round}
use Rattle.gq_model.specs.rules.Kinds.{Kind, AbstractState, Subject, Context, inside}
use Rattle.gq_model.specs.machine.Sections.{is_start_section}
use Rattle.gq_model.specs.rules.Rules.{judged}
use Rattle.gq_model.specs.rules.Flow.{at, later, flow, state_or, points, context, body, own_after, start_of}
use Rattle.gq_model.specs.rules.Budgets.{own}
use Rattle.gq_model.specs.rules.Verdict.{program_fault, greatest_cost}
use Rattle.gq_model.specs.rules.Use.{subject}
use Rattle.gq_laws.specs.Current_section_facts.{within, After, Continues}
use Rattle.gq_model.specs.rules.Resolve.{unresolved}
use Rattle.gq_model.specs.rules.Accept.{are_small, Refusal, Over_own, Over_steps, Budget, budget, budgets_from, budgets, program_refusal, not_resolved}
use Rattle.gq_model.specs.rules.Accept.{own_refusal}
use Rattle.gq_model.specs.rules.Accept.{are_small, steps_refusal, IsAccepted}
use Rattle.gq_model.specs.Promises.{EachOf, budget_of}
use Rattle.gq_model.proofs.Small_facts.{none_some, some_same, or_first_none, add_none, add_next, none_add}
use Rattle.gq_laws.proofs.verified_programs.Flow_banks.{own_stays}
use Rattle.gq_laws.proofs.verified_programs.Accepted_program_facts.{main_there, own_main, own_left}
use Rattle.gq_laws.proofs.remaining_work.Section_move_cases.{chosen_is}
use Rattle.gq_model.proofs.Rules_laws.{then_ok, later_ok, loop_ok, section_flows, if_parts}

-- OUTSIDE MAIN

after_own : (c : Context) (loops : List Round) (u end : AbstractState) → is_start_section c.section ≡ false → After c loops u end → u.own ≡ end.own
after_own c [] u end outside h = ap (λ (s : AbstractState). s.own) h
after_own c (r ∷ loops) u end outside h =
    let rest = h.3 in sym (own_stays (within c loops) u rest.0 r.rest outside rest.1) ∙ after_own c loops rest.0 end outside rest.2

-- what is left of a section changes no own slot
pub own_at : (c : Context) (s end : AbstractState) (todo : Statements) (loops : List Round) → is_start_section c.section ≡ false
    → Continues c s todo loops end →
    s.own ≡ end.own
own_at c s end todo loops outside h = sym (own_stays (within c loops) s h.0 todo outside h.1) ∙ after_own c loops h.0 end outside h.2

-- AT THE END OF MAIN

greatest_later : {A : Type 0} (f : A → ℕ) (before after : List A) → greatest f after ≤ greatest f (before ++ after)
greatest_later f [] after = omega arith
greatest_later f (a ∷ before) after =
    let further = greatest_later f before after in let more = le-max_right (f a) (greatest f (before ++ after)) in omega (arith, further, more)

-- a list that passes ends at one of its points
module _ (g : List Kind → ℕ) where
  abbrev most_of : List AbstractState → ℕ
  most_of states = greatest (λ (s : AbstractState). g s.own) states

  ends_under : (c : Context) (s end : AbstractState) (todo : Statements) → flow c s todo ≡ Ok end → g end.own ≤ most_of (points c s todo)
  ends_under c s end Done e =
      let same = ap (λ (r : AbstractState). g r.own) (ap (state_or s) e) in let first = le-max_left (g s.own) 0 in omega (arith, same, first)
  ends_under c s end (Do i rest) e =
      let p = then_ok (at 1 (judged c s i)) (λ v. later 1 (flow c v rest)) end e in
      let here : state_or s (at 1 (judged c s i)) ≡ p.0 = ap (state_or s) p.1 in
      let further = ends_under c p.0 end rest (later_ok 1 (flow c p.0 rest) end p.2) in
      let same = ap (λ u. most_of (points c u rest)) here in
      let more = le-max_right (g s.own) (most_of (points c (state_or s (at 1 (judged c s i))) rest)) in
      omega (arith, further, same, more)
  ends_under c s end (If arm other rest) e =
      let t : AbstractState = record s { bounds = [] } in
      let p = if_parts c s arm other rest end e in
      let armed : flow c t arm ≡ Ok p.1 = ap (λ u. flow c u arm) (sym (chosen_is s p.0 p.2)) ∙ p.3 in
      let here : state_or t (flow c t arm) ≡ p.1 = ap (state_or t) armed in
      let further = ends_under c p.1 end rest p.5 in
      let same = ap (λ u. most_of (points c u rest)) here in
      let last = points c (state_or t (flow c t arm)) rest in
      let past = greatest_later (λ (s : AbstractState). g s.own) (points c t arm ++ points c t other) last in
      let more = le-max_right (g s.own) (most_of (points c t arm ++ points c t other ++ last)) in
      omega (arith, further, same, past, more)
  ends_under c s end (Loop count inner rest) e =
      let further = ends_under c s end rest (loop_ok c s count inner rest end e).2 in
      let past_body = greatest_later (λ (s : AbstractState). g s.own) (points (inside c count) s inner) (points c s rest) in
      let more = le-max_right (g s.own) (most_of (points (inside c count) s inner ++ points c s rest)) in
      omega (arith, further, past_body, more)

  -- `main` leaves the own slots at one of its points
  pub own_after_is_point : (v : Subject) (end : AbstractState) → flow (context v Main) (start_of v Main) (body v Main) ≡ Ok end
      → g end.own ≤ greatest (λ (s : AbstractState). g s.own) (points (context v Main) (start_of v Main) (body v Main))
  own_after_is_point v end e = ends_under (context v Main) (start_of v Main) end (body v Main) e

  -- so the own slots that it leaves count no more than those at its points
  pub own_after_under : (v : Subject) → program_fault v ≡ None
      → g (own_after v) ≤ greatest (λ (s : AbstractState). g s.own) (points (context v Main) (start_of v Main) (body v Main))
  own_after_under v e =
      let there = main_there v e in
      let f = section_flows v Main there.0 e there.1 in
      subst (λ own. g own ≤ most_of (points (context v Main) (start_of v Main) (body v Main))) (own_main v f.0 f.2) (own_after_is_point v f.0 f.2)

-- in every other section the own slots are as `main` left them
pub own_in_section : (v : Subject) (section : Section) (s end : AbstractState) (todo : Statements) (loops : List Round) → is_start_section section ≡ false
    → flow (context v section) (start_of v section) (body v section) ≡ Ok end
    → Continues (context v section) s todo loops end → s.own ≡ own_after v
own_in_section v section s end todo loops outside whole goes =
    own_at (context v section) s end todo loops outside goes ∙ own_left v section end outside whole

-- BUDGETS

reported_at : (version : ℕ) (system : System) (x : ℕ) (cs : List Component) (y : ℕ) (c : Component) → slice_get cs y ≡ Some c
    → slice_get (budgets_from version system x cs) y ≡ Some (budget version system (x + y) c)
reported_at version system x [] y c there = absurd (none_some there)
reported_at version system x (d ∷ cs) zero c there = (λ i. Some (budget version system (add_none x i) (some_same there i)))
reported_at version system x (d ∷ cs) (suc y) c there = reported_at version system (suc x) cs y c there ∙ ap (λ n. Some (budget version system n c))
    (add_next x y)

held_within : (r : Resource) (cs : List Component) (bs : List Budget) → own_refusal r cs bs ≡ None → (x : ℕ) (c : Component) (b : Budget)
    → slice_get cs x ≡ Some c → slice_get bs x ≡ Some b → part r b.own ≤ part r c.node.quantum
held_within r [] bs e x c b there is = absurd (none_some there)
held_within r (d ∷ cs) [] e x c b there is = absurd (none_some is)
held_within r (d ∷ cs) (a ∷ bs) e x c b there is = by (nat_le (part r a.own) (part r d.node.quantum)) refl e x there is (λ f y. held_within r cs bs f y c b)
  where
    by : (t : Bool) → nat_le (part r a.own) (part r d.node.quantum) ≡ t
        → cond t (own_refusal r cs bs) (Some (Over_own r d.node.name (part r a.own) (part r d.node.quantum))) ≡ None → (x : ℕ) → slice_get (d ∷ cs) x ≡ Some c
        → slice_get (a ∷ bs) x ≡ Some b
        → (own_refusal r cs bs ≡ None → (y : ℕ) → slice_get cs y ≡ Some c → slice_get bs y ≡ Some b → part r b.own ≤ part r c.node.quantum)
        → part r b.own ≤ part r c.node.quantum
    by false t f x there is further = absurd (none_some (sym f))
    by true t f zero there is further =
        let own = ap (λ (b : Budget). part r b.own) (some_same is) in
        let quantum = ap (λ (c : Component). part r c.node.quantum) (some_same there) in
        let less = leb-true (part r a.own) (part r d.node.quantum) t in
        omega (arith, own, quantum, less)
    by true t f (suc x) there is further = further f x there is

steps_within : (cs : List Component) (bs : List Budget) → steps_refusal cs bs ≡ None → (x : ℕ) (c : Component) (b : Budget) → slice_get cs x ≡ Some c
    → slice_get bs x ≡ Some b → are_small b.steps ≡ true
steps_within [] bs e x c b there is = absurd (none_some there)
steps_within (d ∷ cs) [] e x c b there is = absurd (none_some is)
steps_within (d ∷ cs) (a ∷ bs) e x c b there is = by (are_small a.steps) refl e x there is (λ f y. steps_within cs bs f y c b)
  where
    by : (t : Bool) → are_small a.steps ≡ t → cond t (steps_refusal cs bs) (Some (Over_steps d.node.name)) ≡ None → (x : ℕ)
        → slice_get (d ∷ cs) x ≡ Some c → slice_get (a ∷ bs) x ≡ Some b
        → (steps_refusal cs bs ≡ None → (y : ℕ) → slice_get cs y ≡ Some c → slice_get bs y ≡ Some b → are_small b.steps ≡ true) → are_small b.steps ≡ true
    by false t f x there is further = absurd (none_some (sym f))
    by true t f zero there is further = subst (λ (b : Budget). are_small b.steps ≡ true) (some_same is) t
    by true t f (suc x) there is further = further f x there is

module _ (s : Scenario) (x : ℕ) (c : Component) (there : slice_get (components s) x ≡ Some c) where
  -- this budget is reported of the leaf
  pub reported_is : slice_get (budgets s) x ≡ Some (budget_of s x c)
  reported_is = reported_at s.version (system s) 0 (components s) x c there ∙ ap (λ n. Some (budget s.version (system s) n c)) (none_add x)

  module _ (accepted : IsAccepted s) where
    abbrev rest : Option Refusal
    rest = or_first (own_refusal Ram (components s) (budgets s))
        (or_first (steps_refusal (components s) (budgets s)) (own_refusal Caps (components s) (budgets s)))

    parts : (own_refusal Ram (components s) (budgets s) ≡ None) × (steps_refusal (components s) (budgets s) ≡ None)
        × (own_refusal Caps (components s) (budgets s) ≡ None)
    parts =
        let a = or_first_none (program_refusal (system s) (components s)) (or_first (not_resolved (unresolved s)) rest) accepted in
        let b = or_first_none (not_resolved (unresolved s)) rest a.1 in
        let d = or_first_none (own_refusal Ram (components s) (budgets s)) _ b.1 in
        let f = or_first_none (steps_refusal (components s) (budgets s)) (own_refusal Caps (components s) (budgets s)) d.1 in
        (d.0, f.0, f.1)

    -- it is within the leaf's quantum
    pub own_pays : (r : Resource) → part r (budget_of s x c).own ≤ part r c.node.quantum
    own_pays Ram = held_within Ram (components s) (budgets s) parts.0 x c (budget_of s x c) there reported_is
    own_pays Caps = held_within Caps (components s) (budgets s) parts.2 x c (budget_of s x c) there reported_is

    -- and its steps are limited
    pub steps_limited : are_small (budget_of s x c).steps ≡ true
    steps_limited = steps_within (components s) (budgets s) parts.1 x c (budget_of s x c) there reported_is

-- of each resource that is counted it is what the verifier finds
pub own_is : (s : Scenario) (x : ℕ) (c : Component) → EachOf (system s).counted (λ r. part r (budget_of s x c).own ≡ own r (subject (system s) c))
own_is s x c = by (counts_caps s.version)
  where
    by : (b : Bool) → EachOf (cond b (Ram ∷ Caps ∷ []) (Ram ∷ []))
        (λ r. part r (amount (own Ram (subject (system s) c)) (cond b (own Caps (subject (system s) c)) 0)) ≡ own r (subject (system s) c))
    by true = (refl, (refl, tt))
    by false = (refl, tt)
