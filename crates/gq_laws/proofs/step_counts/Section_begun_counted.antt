-- A section that is taken up pays its steps, and the requests that are left then.
use Rattle.std.proofs.Common.{◌≡◌, ◌≢◌, ◌≤◌, ℕ, ◌+◌, ◌==◌, inl, inr, cond, List, [], Option, Some, refl, ap, sym, ◌∙◌, subst, arith}
use Rattle.std.specs.Prelude.{slice_get}
use Rattle.std.proofs.lemmas.Bool.Decides.{eqb_tells}
use Rattle.gq_model.specs.declared.section.Section.{Section}
use Rattle.gq_model.specs.machine.Program.{Statements, section_in}
use Rattle.gq_model.specs.machine.Scenario.{Component}
use Rattle.gq_model.specs.machine.World.{Leaf, World}
use Rattle.gq_model.specs.machine.Doing.{Doing}
use Rattle.gq_model.specs.rules.Kinds.{Subject}
use Rattle.gq_model.specs.rules.Flow.{context, body, start_of}
use Rattle.gq_model.specs.rules.Budgets.{cost, section_cost, section_requests}
use Rattle.gq_model.specs.rules.Use.{subject, from_sections, steps_of}
use Rattle.gq_laws.specs.internal.Remaining.{left_requests}
use Rattle.gq_laws.specs.Inside_steps.{TakesLeaf}
use Rattle.gq_laws.specs.internal.Carrying.{Carries}
use Rattle.gq_laws.specs.internal.Section_counts.{Requests, ahead, one_at, Within}
use Rattle.gq_model.proofs.Small_facts.{some_same}
use Rattle.gq_laws.proofs.remaining_work.Move_requests_left.{requests_start}
use Rattle.gq_laws.proofs.step_counts.Section_request_sums.{steps_one, from_one}
use Rattle.gq_laws.proofs.step_counts.Inside_step_counted.{IsOneOn, one_on}

-- the leaf is at the start of a section, which costs its statements, its end and that it is taken up; all other leaves are left alone
pub record Begun (d : Doing) (section : Section) (w : World) : Type 0 where
  pub list : Statements
  pub listed : section_in section d.component.node.program.sections ≡ Some list
  pub costs : section_cost section list ≡ cost list + 2
  pub leaf : Leaf
  pub there : slice_get w.leaves d.x ≡ Some leaf
  pub steps : leaf.steps ≡ d.leaf.steps
  pub whole : ahead leaf leaf.phase ≡ cost list + 1
  pub leaves : (y : ℕ) → y ≢ d.x → slice_get w.leaves y ≡ slice_get d.world.leaves y

module _ (left : Requests) (d : Doing) (takes : TakesLeaf d) (at : slice_get d.system.components d.x ≡ Some d.component) (own : IsOneOn d takes) (w : World)
    (section : Section) (s : Begun d section w) where
  abbrev v : Subject
  v = subject d.system d.component

  -- STEPS

  here : (c : Component) (leaf : Leaf) → d.component ≡ c → s.leaf ≡ leaf
      → leaf.steps + ahead leaf leaf.phase ≤ takes.old.steps + ahead takes.old takes.old.phase + steps_of (one_at d.x section d.x) c.node.program.sections
  here c leaf component same =
      let steps : leaf.steps ≡ d.leaf.steps = ap (λ (l : Leaf). l.steps) (sym same) ∙ s.steps in
      let now : ahead leaf leaf.phase ≡ cost s.list + 1 = ap (λ (l : Leaf). ahead l l.phase) (sym same) ∙ s.whole in
      let one = one_on d takes own in
      let pays = steps_one d.x section c.node.program.sections s.list
      (subst (λ (c : Component). section_in section c.node.program.sections ≡ Some s.list) component s.listed) in
      let costs = s.costs in
      omega (arith, steps, now, one, pays, costs)

  pub leaves : (y : ℕ) (c : Component) (leaf : Leaf) → slice_get d.system.components y ≡ Some c → slice_get w.leaves y ≡ Some leaf
      → (old : Leaf) × (slice_get d.world.leaves y ≡ Some old)
      × (leaf.steps + ahead leaf leaf.phase ≤ old.steps + ahead old old.phase + steps_of (one_at d.x section y) c.node.program.sections)
  leaves y c leaf placed there =
      elim (eqb_tells y d.x) [
        | inl e ↦ (
          takes.old,
          ap (slice_get d.world.leaves) e.1 ∙ takes.there,
          subst (λ z. leaf.steps + ahead leaf leaf.phase ≤ takes.old.steps + ahead takes.old takes.old.phase + steps_of
              (one_at d.x section z) c.node.program.sections) (sym e.1)
              (here c leaf (some_same (sym at ∙ (ap (slice_get d.system.components) (sym e.1) ∙ placed)))
              (some_same (sym s.there ∙ (ap (slice_get w.leaves) (sym e.1) ∙ there)))),
        )
        | inr e ↦ (leaf, sym (s.leaves y e.1) ∙ there, omega arith)
      ]

  -- REQUESTS THAT ARE LEFT

  pub new : Requests
  new y service q = cond (y == d.x) (section_requests v section service q) (left y service q)

  new_else : (y : ℕ) → y ≢ d.x → (service : List ℕ) (q : Section) → new y service q ≡ left y service q
  unfolding new
  new_else y ne service q = elim (eqb_tells y d.x) [
    | inl e ↦ absurd (ne e.1)
    | inr e ↦ ap (λ b. cond b (section_requests v section service q) (left y service q)) e.0
  ]

  new_here : (y : ℕ) → y ≡ d.x → (service : List ℕ) (q : Section) → new y service q ≡ section_requests v section service q
  unfolding new
  new_here y same service q = elim (eqb_tells y d.x) [
    | inl e ↦ ap (λ b. cond b (section_requests v section service q) (left y service q)) e.0
    | inr e ↦ absurd (e.1 same)
  ]

  pub pays : (y : ℕ) (c : Component) → slice_get d.system.components y ≡ Some c → (service : List ℕ) (q : Section)
      → 0 + new y service q ≤ left y service q + from_sections (one_at d.x section y) (subject d.system c) service q c.node.program.sections
  pays y c placed service q =
      elim (eqb_tells y d.x) [
        | inl e ↦ (
            let component : d.component ≡ c = some_same (sym at ∙ (ap (slice_get d.system.components) (sym e.1) ∙ placed)) in
            let one : section_requests v section service q ≤ from_sections (one_at d.x section y) (subject d.system c) service q c.node.program.sections =
            subst (λ z. section_requests v section service q ≤ from_sections (one_at d.x section z) (subject d.system c) service q c.node.program.sections)
            (sym e.1)
            (subst (λ c. section_requests v section service q ≤ from_sections (one_at d.x section d.x) (subject d.system c) service q c.node.program.sections)
            component (from_one d.x section v service q d.component.node.program.sections s.list s.listed)) in
            let is = new_here y e.1 service q in
            omega (arith, one, is)
            )
        | inr e ↦ (let is = new_else y e.1 service q in omega (arith, is))
      ]

  pub carries : Carries d.x (Within d.system left) (Within d.system new)
  carries y from state todo loops ne b c placed service q = let most = b c placed service q in let is = new_else y ne service q in omega (arith, most, is)

  pub within_new : Within d.system new d.x section (start_of v section) (body v section) []
  within_new c placed service q =
      let whole = requests_start service q (context v section) (start_of v section) (body v section) refl in
      let is = new_here d.x refl service q in
      subst (λ c. left_requests service q (context (subject d.system c) section) (start_of v section) (body v section) [] ≤ new d.x service q)
      (some_same (sym at ∙ placed)) (omega (arith, whole, is))
