-- A step inside a section is one of those that the section has left, and keeps worlds counted.
use Rattle.std.proofs.Common.{◌≡◌, ◌≤◌, ℕ, suc, ◌+◌, inl, inr, Option, Some, None, ap, sym, ◌∙◌, subst, arith}
use Rattle.std.specs.Prelude.{slice_get}
use Rattle.std.proofs.lemmas.Bool.Decides.{eqb_tells}
use Rattle.gq_model.specs.declared.phase.Phase.{Phase}
use Rattle.gq_model.specs.machine.Scenario.{Component}
use Rattle.gq_model.specs.machine.World.{Session, Current, Leaf, World, session_at, section_of}
use Rattle.gq_model.specs.machine.Doing.{Doing}
use Rattle.gq_model.specs.rules.Kinds.{Kind, Context}
use Rattle.gq_model.specs.rules.Flow.{context}
use Rattle.gq_model.specs.rules.Budgets.{cost}
use Rattle.gq_laws.specs.internal.Section_counts.{rounds_cost}
use Rattle.gq_model.specs.rules.Use.{subject}
use Rattle.gq_laws.specs.Session_links.{IsLinkedWorld}
use Rattle.gq_laws.specs.internal.Remaining.{left_requests}
use Rattle.gq_laws.specs.internal.Remaining_instructions.{IsGood}
use Rattle.gq_laws.specs.Inside_steps.{TakesLeaf, LeadsOn, KeepsSessionIn, LeavesOthers}
use Rattle.gq_laws.specs.Typing.{IsTypedBy}
use Rattle.gq_laws.specs.internal.Section_counts.{Often, Requests, ahead, served_at, waiting_in, Within, Since, Counts, IsCounted}
use Rattle.gq_model.proofs.Small_facts.{some_same}
use Rattle.gq_laws.proofs.remaining_work.Move_step_count.{all_have_round, cost_move}
use Rattle.gq_laws.proofs.remaining_work.Move_requests_left.{requests_moves}
use Rattle.gq_laws.proofs.verified_programs.Sure_system_facts.{IsSure}
use Rattle.gq_laws.proofs.typed_worlds.Inside_step_typed.{IsActive}
use Rattle.gq_laws.proofs.typed_worlds.Typed_world_step.{Acts, goes_typed}
use Rattle.gq_laws.proofs.step_counts.Counted_world_step.{waiting_all, Rises, Spends, quiet_spends, spends_counted}

-- LEAVES

-- all that a leaf has left of its section
abbrev pub all_left : Leaf → ℕ
all_left leaf = cost leaf.todo + rounds_cost leaf.loops + 1

pub ahead_active : (leaf : Leaf) (phase : Phase) → IsActive phase → ahead leaf phase ≡ all_left leaf
ahead_active leaf phase (inl e) = ap (ahead leaf) e
ahead_active leaf phase (inr e) = ap (ahead leaf) e

-- the leaf of a step is the one that the world has, with one step more
abbrev pub IsOneOn : (d : Doing) → TakesLeaf d → Type 0
IsOneOn d takes = d.leaf ≡ record takes.old { steps = suc takes.old.steps }

module _ (d : Doing) (takes : TakesLeaf d) (own : IsOneOn d takes) where
  pub one_on : d.leaf.steps ≡ suc takes.old.steps
  one_on = ap (λ (l : Leaf). l.steps) own

  -- what it had left of its section
  pub was_ahead : IsActive d.leaf.phase → ahead takes.old takes.old.phase ≡ all_left d.leaf
  was_ahead active = ahead_active takes.old takes.old.phase (subst IsActive takes.phase active) ∙ ap all_left (sym own)

-- SESSIONS

kept_served : (current : Option Current) (k : ℕ) (old new : Option Session) → KeepsSessionIn current k old new → served_at new ≡ served_at old
kept_served current k None new h = ap served_at h
kept_served current k (Some old) new h = ap served_at h.1 ∙ ap (λ (s : Session). Some (s.server, s.level)) h.2.rest

-- STEPS INSIDE A SECTION

module _ (promised : ℕ → Option Kind) (left : Requests) (d : Doing) (sure : IsSure d.system) (takes : TakesLeaf d) (h : IsLinkedWorld d.system d.world)
    (t : IsTypedBy promised (Within d.system left) d.system d.world) (at : slice_get d.system.components d.x ≡ Some d.component)
    (own : IsOneOn d takes) (w : World) (stepped : (leaf : Leaf) → slice_get w.leaves d.x ≡ Some leaf
    → leaf.steps ≡ d.leaf.steps) (rises : Rises d.world w) (a : Acts promised (Within d.system left) d) (others : LeavesOthers d w)
    (leads : LeadsOn promised (context (subject d.system d.component) (section_of d.leaf.current d.leaf.reacting)) a.state a.end d w) where
  abbrev c : Context
  c = context (subject d.system d.component) (section_of d.leaf.current d.leaf.reacting)

  here : (leaf : Leaf) → slice_get w.leaves d.x ≡ Some leaf → leaf.steps + ahead leaf leaf.phase ≤ takes.old.steps + ahead takes.old takes.old.phase
  here leaf there =
      let same : leads.leaf ≡ leaf = some_same (sym leads.there ∙ there) in
      let now : ahead leaf leaf.phase ≡ all_left leads.leaf =
      ap (λ l. ahead l l.phase) (sym same) ∙ ahead_active leads.leaf leads.leaf.phase (subst IsActive (sym leads.phase) a.active) in
      let was = was_ahead d takes own a.active in
      let move = cost_move c a.state leads.state d.leaf.todo leads.leaf.todo d.leaf.loops leads.leaf.loops
      (all_have_round (IsGood d.system d.component) d.leaf.todo a.good) leads.moves in
      let steps = stepped leaf there in
      let one = one_on d takes own in
      omega (arith, now, was, move, steps, one)

  leaves : (y : ℕ) (b : Component) (leaf : Leaf) → slice_get d.system.components y ≡ Some b → slice_get w.leaves y ≡ Some leaf
      → (old : Leaf) × (slice_get d.world.leaves y ≡ Some old) × (leaf.steps + ahead leaf leaf.phase ≤ old.steps + ahead old old.phase)
  leaves y b leaf placed there =
      elim (eqb_tells y d.x) [
        | inl e ↦ (
          takes.old,
          ap (slice_get d.world.leaves) e.1
              ∙ takes.there,
          (let most = here leaf (ap (slice_get w.leaves) (sym e.1) ∙ there) in omega (arith, most)),
        )
        | inr e ↦ (leaf, sym (others.leaves y e.1) ∙ there, omega arith)
      ]

  spends : Spends d.system d.world w left left
  spends =
      quiet_spends d.system d.world w left rises
      (λ y q. ap (waiting_in w y q) others.requests ∙ waiting_all d.world w
      (λ j. kept_served d.leaf.current j (session_at d.world j) (session_at w j) (others.sessions j)) d.world.requests y q)
      leaves

  -- no more requests are left
  within_left : Within d.system left d.x (section_of d.leaf.current d.leaf.reacting) leads.state leads.leaf.todo leads.leaf.loops
  within_left b placed service section =
      let same : d.component ≡ b = some_same (sym at ∙ placed) in
      let most = a.also d.component at service section in
      let fewer = requests_moves service section c a.state leads.state a.end d.leaf.todo leads.leaf.todo d.leaf.loops leads.leaf.loops
      (all_have_round (IsGood d.system d.component) d.leaf.todo a.good) a.goes_on leads.moves in
      subst (λ b. left_requests service section (context (subject d.system b) (section_of d.leaf.current d.leaf.reacting)) leads.state leads.leaf.todo
      leads.leaf.loops
      ≤ left d.x service section) same (omega (arith, most, fewer))

  pub goes_counted : (since : Since) (done : Often) (made : Requests) → Counts since done made left d.system d.world → IsCounted since d.system w
  goes_counted since done made counts =
      spends_counted since done made left left d.system d.world w counts spends promised
      (goes_typed promised (Within d.system left) d sure takes h t at (Within d.system left)
      (λ y section state todo loops ne b. b) w a others leads within_left)
