-- From a world that a scenario without races comes to, and in which each leaf has exited or serves: turns alone go on from it as from the start. Each leaf is
-- its own thread's, and a session is of the leaf in whose own slots it stands.
use Rattle.std.proofs.Common.{◌≡◌, ◌⊎◌, inl, inr, ℕ, true, Some, None, refl, ap, ◌∙◌, subst}
use Rattle.std.specs.Prelude.{replicate, slice_get}
use Rattle.gq_model.specs.machine.Scenario.{Component, Scenario, System, system}
use Rattle.gq_model.specs.machine.World.{Waiting, SlotId, Leaf, World, slot_at}
use Rattle.gq_model.specs.rules.Resolve.{cycle_fault}
use Rattle.gq_laws.specs.Leaf_phases.{Suits, serves}
use Rattle.gq_laws.specs.Reached_worlds.{IsReached}
use Rattle.gq_laws.specs.Session_links.{IsLinkedWorld, Waits, links, naming_in}
use Rattle.gq_laws.specs.Sound_scenarios.{IsSound}
use Rattle.gq_laws.specs.internal.Uncounted.{uncounted}
use Rattle.gq_laws.proofs.progress.Lasting_world_invariant.{Lasts, reached_lasts}
use Rattle.gq_laws.proofs.verified_programs.Sound_systems.{is_resolved}
use Rattle.gq_laws.proofs.verified_programs.Use_chains.{resolved_acyclic}
use Rattle.gq_races.specs.Races.{IsRaceFree}
use Rattle.gq_determined.specs.internal.Threads.{tracked_from}
use Rattle.gq_determined.proofs.from_rest.Exited_inputs.{reached_cleared}
use Rattle.gq_determined.proofs.from_rest.Idle_worlds.{IsIdle, IsIdlePhase, idle_current, no_stance, none_waits}
use Rattle.gq_determined.proofs.from_rest.Opened_places.{IsPlace, reached_left, reached_places}
use Rattle.gq_determined.proofs.from_rest.Session_leaves.{are_opened, leaf_is, leaf_of, uses}
use Rattle.gq_determined.proofs.thread_positions.Single_thread_position.{IsByCurrent, IsPlaced, IsTracked}
use Rattle.gq_determined.proofs.thread_runs.Sound_runs.{IsFirst}
use Rattle.gq_determined.proofs.thread_runs.Suitable_session_slots.{AllSuit}
use Rattle.gq_determined.proofs.thread_runs.Uncounted_uses.{cycle_same}

module _ (s : Scenario) (sound : IsSound s) (none : IsRaceFree s) (w : World) (reached : IsReached s w) (idle : IsIdle w) where
  abbrev u : System
  u = uncounted (system s)

  lasts : Lasts s w
  lasts = reached_lasts s sound w reached

  linked : IsLinkedWorld u w
  linked =
      let l = lasts.stands.linked in
      record {
        stands = l.stands;
        named = l.named;
        belongs = l.belongs;
        routed = l.routed;
        opens = l.opens;
        objects = l.objects;
        asked = l.asked;
        handles = l.handles;
        fits = l.fits;
        waits = l.waits;
        alone = l.alone;
        blocked = l.blocked;
      }

  acyclic : cycle_fault u 0 u.components ≡ None
  acyclic = cycle_same (system s) 0 (system s).components ∙ resolved_acyclic s (is_resolved s sound.accepted)

  places : AllSuit (IsPlace u) w
  places = reached_places s sound none w reached

  abbrev pub root : ℕ → ℕ
  root = leaf_of (uncounted (system s)) w

  -- no slot waits
  no_waiting : (q : SlotId) (k : ℕ) → slot_at w q ≡ Some (Waiting k) → ⊥
  no_waiting q k at =
      let m = linked.named q (Waits k) (ap naming_in at) in
      let c = linked.waits k m.0 m.1 (ap (links w).slots m.2 ∙ ap naming_in at) in
      none_waits u w linked idle m.0.client c.0 c.1

  waits : (q : SlotId) (k : ℕ) → slot_at w q ≡ Some (Waiting k) → IsByCurrent (λ y. y) w q
  waits q k at = absurd (no_waiting q k at)

  placed : IsPlaced u (tracked_from w root)
  placed = record {
    acyclic = acyclic;
    linked = linked;
    below = leaf_is u acyclic w linked places;
    waits = waits;
    uses = uses u acyclic w linked places;
    lives = λ k t at. refl;
    main = λ y phase at act. refl;
    held = λ y phase q at ne. absurd (ne refl);
    signals = λ y l at flag. (refl, idle_current u w linked idle y l at);
  }

  tracked : IsTracked u (tracked_from w root)
  tracked = record {
    placed = placed;
    stands = are_opened u acyclic w linked places;
    owned = record { opened = λ x ne. absurd (ne refl); whole = λ x. refl };
    busy = λ y phase q at single. absurd (no_stance u w linked idle y phase q at);
  }

  -- a leaf serves, or it has exited and its inputs are 0
  inputs : (x : ℕ) (c : Component) (leaf : Leaf) → slice_get u.components x ≡ Some c → slice_get w.leaves x ≡ Some leaf
      → (serves c.node.provides c.node.signals ≡ true) ⊎ (leaf.inputs ≡ replicate 8 0)
  inputs x c leaf at there = by (idle.phase x leaf there)
    where
      by : IsIdlePhase leaf.phase → (serves c.node.provides c.node.signals ≡ true) ⊎ (leaf.inputs ≡ replicate 8 0)
      by (inl e) = inl (subst (Suits c.node.provides c.node.signals) e (lasts.ready.suits x c leaf at there))
      by (inr e) = inr ((reached_cleared s w reached).each x leaf there e)

  pub rest_first : IsFirst s w root
  rest_first = record {
    stands = lasts.stands;
    tracked = tracked;
    left = λ P sections. reached_left s P sections w reached;
    inputs = inputs;
  }
