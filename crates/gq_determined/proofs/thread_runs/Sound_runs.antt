-- The runs of sound scenarios without races.
use Rattle.std.proofs.Common.{◌≡◌, ◌⊎◌, ◌<◌, inr, ℕ, zero, suc, List, [], ◌∷◌, length, Bool, true, Option, Some, None, is_some, Ok, refl, ap, sym, ◌∙◌}
use Rattle.std.proofs.Common.{subst}
use Rattle.std.specs.Prelude.{replicate, slice_get}
use Rattle.std.proofs.Common.{arith}
use Rattle.gq_model.specs.machine.Scenario.{Scenario, Component, System, system}
use Rattle.gq_model.specs.machine.World.{Leaf, World, start_leaves, start}
use Rattle.gq_model.specs.machine.Doing.{Event}
use Rattle.gq_model.specs.machine.Step.{next}
use Rattle.gq_model.proofs.Small_facts.{none_some, some_same, get_within}
use Rattle.gq_laws.specs.Leaf_phases.{serves}
use Rattle.gq_laws.specs.Sound_scenarios.{IsSound}
use Rattle.gq_laws.specs.Stands.{Stands}
use Rattle.gq_laws.specs.internal.Uncounted.{uncounted}
use Rattle.gq_laws.proofs.upheld_worlds.Standing_world_invariant.{stands_first, stands_next, stands_upheld}
use Rattle.gq_laws.proofs.held_resources.Uncounted_resource_step.{step_same}
use Rattle.gq_model.specs.machine.Sums.{paid}
use Rattle.gq_laws.proofs.quota_payment.Written_world_prices.{paid_all}
use Rattle.gq_determined.specs.internal.Threads.{Tracked, tracked_from, who, stepped_to, ready, turn_for, SameAtEnds, SamePrefixes}
use Rattle.gq_determined.proofs.thread_steps.Stateless_thread_agreement.{IsStateless, ReadSame}
use Rattle.gq_determined.proofs.thread_steps.Input_changes.{HasInputs, inputs_next}
use Rattle.gq_determined.proofs.thread_steps.Signal_flags.{AreSince, signals_at, since_first, since_next, since_none}
use Rattle.gq_determined.proofs.thread_positions.Single_thread_position.{IsTracked}
use Rattle.gq_determined.proofs.thread_runs.Thread_run_determinism.{tracked, start_tracked, AreGood, same_end, same_prefixes}
use Rattle.gq_determined.proofs.thread_runs.Remaining_section_statements.{AreSections, IsCalm, Lefts, kept_outside, start_outside}
use Rattle.gq_determined.proofs.thread_runs.Raceless_first_statements.{IsFree, free_sections}
use Rattle.gq_determined.proofs.thread_runs.Opened_session_owner.{FirstOpens}
use Rattle.gq_determined.proofs.thread_runs.Uncounted_uses.{cycle_same}
use Rattle.gq_laws.proofs.verified_programs.Use_chains.{resolved_acyclic}
use Rattle.gq_laws.proofs.verified_programs.Sound_systems.{good_of, is_resolved}
use Rattle.gq_races.specs.Races.{IsRaceFree}
use Rattle.gq_laws.specs.internal.Remaining_instructions.{AllAre, IsGood}
use Rattle.gq_model.specs.declared.program.Instruction.{Instruction}
use Rattle.gq_model.specs.machine.Program.{Statements, Done, Do, If, Loop}

-- where nothing is counted all is paid for
pub all_pay : (system : System) (z : World) → paid (uncounted system) z ≡ true
all_pay system z = paid_all [] z 0 system.components z.leaves (λ i c leaf e f x at. refl)

-- a world from which turns are taken, with the threads of its sessions: all that is known of worlds that a run comes to holds of it, and what is tracked fits
pub record IsFirst (s : Scenario) (w : World) (root : ℕ → ℕ) : Type 1 where
  pub stands : Stands s w
  pub tracked : IsTracked (uncounted (system s)) (tracked_from w root)
  pub left : (P : ℕ → Component → Bool → Instruction → Type 0) → AreSections P (uncounted (system s)) → Lefts P (uncounted (system s)) w
  -- a leaf does not exit from here on, or its inputs are 0
  pub inputs : (x : ℕ) (c : Component) (leaf : Leaf) → slice_get (uncounted (system s)).components x ≡ Some c → slice_get w.leaves x ≡ Some leaf
      → (serves c.node.provides c.node.signals ≡ true) ⊎ (leaf.inputs ≡ replicate 8 0)

module _ (s : Scenario) (sound : IsSound s) where
  pub goes_by : (w : World) (x : ℕ) → Stands s w → (p : World × Event) × (next (uncounted (system s)) w x ≡ Ok p) × (next (system s) w x ≡ Ok p)
  goes_by w x h = let p = (stands_upheld s w h).goes_on x in (p.0, step_same (system s) w x p.0.0 p.0.1 p.1, p.1)

  pub within : (leaves : List Leaf) (x : ℕ) (leaf : Leaf) → slice_get leaves x ≡ Some leaf → x < length leaves
  within [] x leaf e = absurd (none_some e)
  within (l ∷ leaves) zero leaf e = omega arith
  within (l ∷ leaves) (suc x) leaf e = let h = within leaves x leaf e in omega (arith, h)

  -- THE START

  pub first_start : IsFirst s (start (system s)) (λ k. 0)
  first_start = record {
    stands = stands_first s sound;
    tracked = start_tracked (uncounted (system s)) (cycle_same (system s) 0 (system s).components ∙ resolved_acyclic s (is_resolved s sound.accepted));
    left = λ P sections. start_outside P (uncounted (system s)) sections;
    inputs = λ x c leaf at there. inr (started (system s).components x leaf there);
  }
    where
      started : (cs : List Component) (x : ℕ) (leaf : Leaf) → slice_get (start_leaves cs) x ≡ Some leaf → leaf.inputs ≡ replicate 8 0
      started [] x leaf e = absurd (none_some e)
      started (c ∷ cs) zero leaf e = ap (λ (l : Leaf). l.inputs) (sym (some_same e))
      started (c ∷ cs) (suc x) leaf e = started cs x leaf e

-- FROM A WORLD ON

module _ (s : Scenario) (sound : IsSound s) (w : World) (root : ℕ → ℕ) (first : IsFirst s w root) where
  abbrev u : System
  u = uncounted (system s)

  abbrev pub after : List ℕ → Tracked
  after = tracked u (all_pay (system s)) w root

  pub all_stand : (a : List ℕ) → Stands s (after a).world
  all_stand [] = first.stands
  all_stand (x ∷ a) = by (all_stand a) (who (after a) x)
    where
      by : Stands s (after a).world → (o : Option ℕ) → Stands s (turn_for u (after a) x o).world
      by h None = h
      by h (Some i) =
          let p = goes_by s sound (after a).world x h in
          subst (λ g. Stands s g.world) (sym (ap (stepped_to (ready u (after a) x i) x i) p.1)) (stands_next s (after a).world x p.0.0 p.0.1 h p.2)

  pub placed : (a : List ℕ) (x : ℕ) (leaf : Leaf) → slice_get (after a).world.leaves x ≡ Some leaf → (c : Component) × (slice_get u.components x ≡ Some c)
  placed a x leaf e =
      let count = (all_stand a).whole.count in
      let less = within s sound (after a).world.leaves x leaf e in
      get_within u.components x (omega (arith, count, less))

  -- what is left to each leaf is made of statements of its program
  pub all_left : (P : ℕ → Component → Bool → Instruction → Type 0) → AreSections P u → (a : List ℕ) → Lefts P u (after a).world
  all_left P sections [] = first.left P sections
  all_left P sections (x ∷ a) = by (all_left P sections a) (who (after a) x)
    where
      by : Lefts P u (after a).world → (o : Option ℕ) → Lefts P u (turn_for u (after a) x o).world
      by h None = h
      by h (Some i) =
          let p = goes_by s sound (after a).world x (all_stand a) in
          subst (λ g. Lefts P u g.world) (sym (ap (stepped_to (ready u (after a) x i) x i) p.1))
          (kept_outside P u sections (after a).world x p.0.0 p.0.1 h p.1)

  -- signals are taken, and none is submitted
  pub all_since : (a : List ℕ) → AreSince (signals_at w) (after a).world
  all_since [] = since_first w
  all_since (x ∷ a) = by (all_since a) (who (after a) x)
    where
      by : AreSince (signals_at w) (after a).world → (o : Option ℕ) → AreSince (signals_at w) (turn_for u (after a) x o).world
      by h None = h
      by h (Some i) =
          let p = goes_by s sound (after a).world x (all_stand a) in
          subst (λ g. AreSince (signals_at w) g.world) (sym (ap (stepped_to (ready u (after a) x i) x i) p.1))
          (since_next (signals_at w) u (after a).world x p.0.0 p.0.1 h p.1)

  -- and no input is set
  all_inputs : (y : ℕ) (leaf : Leaf) → slice_get w.leaves y ≡ Some leaf → (a : List ℕ) → HasInputs y leaf.inputs (after a).world
  all_inputs y leaf there [] = record { keeps = λ l e. ap (λ (l : Leaf). l.inputs) (some_same (sym e ∙ there)) }
  all_inputs y leaf there (x ∷ a) = by (all_inputs y leaf there a) (who (after a) x)
    where
      by : HasInputs y leaf.inputs (after a).world → (o : Option ℕ) → HasInputs y leaf.inputs (turn_for u (after a) x o).world
      by h None = h
      by h (Some i) =
          let p = goes_by s sound (after a).world x (all_stand a) in
          subst (λ g. HasInputs y leaf.inputs g.world) (sym (ap (stepped_to (ready u (after a) x i) x i) p.1))
          (inputs_next y leaf.inputs u (after a).world x p.0.0 p.0.1 (λ c at. first.inputs y c leaf at there) h p.1)

  -- a leaf that is there was there at first
  pub there_first : (a : List ℕ) (y : ℕ) (l : Leaf) → slice_get (after a).world.leaves y ≡ Some l → (leaf : Leaf) × (slice_get w.leaves y ≡ Some leaf)
  there_first a y l e =
      let less = within s sound (after a).world.leaves y l e in
      let now = (all_stand a).whole.count in
      let old = first.stands.whole.count in
      get_within w.leaves y (omega (arith, less, now, old))

  -- nothing is current at a leaf that serves, and it reacts to no signal
  calm : (a : List ℕ) (y : ℕ) (l : Leaf) → slice_get (after a).world.leaves y ≡ Some l → IsCalm l
  calm a y l e =
      let c = placed a y l e in
      ((all_left (λ x c later i. IsGood (system s) c i) (λ x c at. good_of s sound x c at) a).at y l e c.0 c.1).2

  -- so what is read beside threads is the same in all runs
  reads : (a b : List ℕ) → ReadSame (after a).world (after b).world
  reads a b = record {
    same = λ y l m i rest at at_b is. inr (
        let leaf = there_first a y l at in
        (all_inputs y leaf.0 leaf.1 a).keeps l at ∙ sym ((all_inputs y leaf.0 leaf.1 b).keeps m at_b));
    served = λ y l m at at_b p q. (
      since_none (signals_at w y) m.signals ((all_since b).at y m at_b) q.1
          ∙ sym (since_none (signals_at w y) l.signals ((all_since a).at y l at) p.1),
      (calm b y m at_b q.0).1 ∙ sym (calm a y l at p.0).1,
    );
  }

  -- WHERE THERE IS NO RACE

  module _ (none : IsRaceFree s) where
    left : (a : List ℕ) → Lefts (IsFree u) u (after a).world
    left = all_left (IsFree u) (free_sections s sound none)

    -- what comes first
    comes_first : (a : List ℕ) (x : ℕ) (leaf : Leaf) (i : Instruction) (rest : Statements) → (there : slice_get (after a).world.leaves x ≡ Some leaf)
        → leaf.todo ≡ Do i rest → IsFree u x (placed a x leaf there).0 (is_some leaf.current) i
    comes_first a x leaf i rest there is =
        let c = placed a x leaf there in
        (subst (AllAre (IsFree u x c.0 (is_some leaf.current))) is ((left a).at x leaf there c.0 c.1).0).0

    stateless : (a : List ℕ) → IsStateless u (after a).world
    stateless a = record {
      keeps = λ x leaf q i rest there current shared is. (comes_first a x leaf i rest there is).0 (ap is_some current) shared;
    }

    -- what comes first opens sessions as the program is judged to
    opens : (a : List ℕ) (x : ℕ) (c : Component) (leaf : Leaf) → slice_get u.components x ≡ Some c → slice_get (after a).world.leaves x ≡ Some leaf
        → FirstOpens u c (is_some leaf.current) leaf.todo
    opens a x c leaf component there = by leaf.todo ((left a).at x leaf there c component).0
      where
        by : (todo : Statements) → AllAre (IsFree u x c (is_some leaf.current)) todo → FirstOpens u c (is_some leaf.current) todo
        by Done h = tt
        by (Do i rest) h = h.0.1
        by (If arm other rest) h = tt
        by (Loop n body rest) h = tt

    pub good : AreGood u (all_pay (system s)) w root
    good = record {
      first = first.tracked;
      goes = λ a x. (let p = goes_by s sound (after a).world x (all_stand a) in (p.0, p.1));
      placed = placed;
      stateless = stateless;
      reads = reads;
      opens = opens;
    }

    pub ends_same : SameAtEnds u w root
    ends_same = same_end u (all_pay (system s)) w root good

    pub prefixes_same : SamePrefixes u w root
    prefixes_same = same_prefixes u (all_pay (system s)) w root good
