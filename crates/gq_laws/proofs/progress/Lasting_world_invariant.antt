-- What stands in each world of a sound scenario, with all that going on takes for granted: the start has it and each step keeps it.
use Rattle.std.proofs.Common.{◌≡◌, ℕ, true, false, List, [], Option, Some, None, Ok, refl, ap, ◌∙◌}
use Rattle.std.specs.Prelude.{slice_get, is_some}
use Rattle.gq_model.specs.machine.Amounts.{Ram, Caps}
use Rattle.gq_model.specs.machine.Scenario.{Scenario, Component, components, system}
use Rattle.gq_model.specs.machine.Routes.{is_service, server_of}
use Rattle.gq_model.specs.machine.World.{World, start}
use Rattle.gq_model.specs.machine.Doing.{Event}
use Rattle.gq_model.specs.machine.Step.{next}
use Rattle.gq_model.specs.rules.Resolve.{quanta_fault, offer_fault, after_fault}
use Rattle.gq_laws.specs.Session_links.{stance, stance_in}
use Rattle.gq_laws.specs.Sound_scenarios.{IsSound}
use Rattle.gq_laws.specs.Reached_worlds.{IsReached}
use Rattle.gq_laws.specs.Stands.{Stands}
use Rattle.gq_laws.specs.internal.Remaining_instructions.{AreLeft, ArePrograms, IsGood}
use Rattle.gq_laws.proofs.quota_payment.Leaf_component_positions.{starts_after}
use Rattle.gq_laws.proofs.quota_payment.Routed_server_provides.{server_provides}
use Rattle.gq_laws.proofs.remaining_work.Remaining_program_statements.{start_left, kept_left}
use Rattle.gq_laws.proofs.verified_programs.Sound_systems.{is_resolved, good_of}
use Rattle.gq_laws.proofs.upheld_worlds.Reached_world_induction.{in_reached}
use Rattle.gq_laws.proofs.upheld_worlds.Standing_world_invariant.{stands_first, stands_next, stands_set, stands_submit, stands_submit}
use Rattle.gq_laws.proofs.input_settings.Setting_keeps_invariants.{set_left, set_opened, set_ready, submit_left, submit_opened, submit_ready}
use Rattle.gq_laws.proofs.progress.Opened_services_invariant.{OpensOwn, opens_programs, AllOpened, kept_opened, start_opened}
use Rattle.gq_laws.specs.Leaf_phases.{AreReady}
use Rattle.gq_laws.proofs.progress.Leaf_phase_invariant.{CurrentProvides, kept_ready, start_ready}
use Rattle.gq_model.proofs.Small_facts.{or_first_none}
use Rattle.gq_model.specs.machine.Run.{set_input, submit}

pub record Lasts (s : Scenario) (w : World) : Type 0 where
  pub stands : Stands s w
  pub own : AreLeft OpensOwn (system s) w
  pub opened : AllOpened (system s) w
  pub ready : AreReady (system s) w

-- a leaf that provides a service provides one
service_some : (provides : Option (List ℕ)) (service : List ℕ) → is_service provides service ≡ true → is_some provides ≡ true
service_some None service e = e
service_some (Some name) service e = refl

-- the leaf to which a route leads provides a service
pub server_some : (s : Scenario) → IsSound s → (x y : ℕ) (c d : Component) (service : List ℕ) → slice_get (components s) x ≡ Some c
    → server_of (system s) c service ≡ Some y → slice_get (components s) y ≡ Some d → is_some d.node.provides ≡ true
server_some s sound x y c d service there routed at =
    service_some d.node.provides service (server_provides s sound.formed.differ x y c d service there routed at)

current_provides : (s : Scenario) (w : World) → Stands s w → CurrentProvides (system s) w
current_provides s w h x c leaf g placed there mine =
    let l = h.linked in
    let m = l.handles x leaf.phase g (ap stance_in there ∙ ap (λ o. Some (stance leaf.phase o)) mine) in
    let r = l.routed g.session m.0 m.1 in
    server_some s h.sound m.0.client m.0.server r.0 c m.0.service r.1 r.2 (ap (slice_get (components s)) m.2 ∙ placed)

none_of : (provides : Option (List ℕ)) → is_some provides ≡ false → provides ≡ None
none_of None e = refl
none_of (Some name) e = absurd cc

-- who starts after whom fits
pub afters_fit : (s : Scenario) → IsSound s → after_fault (components s) [] (components s) ≡ None
afters_fit s sound =
    let a = or_first_none (quanta_fault Ram s) _ (is_resolved s sound.accepted) in
    let b = or_first_none (quanta_fault Caps s) _ a.1 in
    let c = or_first_none (offer_fault s) _ b.1 in (or_first_none (after_fault (components s) [] (components s)) _ c.1).0

module _ (s : Scenario) (sound : IsSound s) where
  programs : ArePrograms OpensOwn (system s)
  programs = opens_programs (IsGood (system s)) (system s) (good_of s sound)

  lasts_first : Lasts s (start (system s))
  lasts_first =
      record {
        stands = stands_first s sound;
        own = start_left OpensOwn (system s) programs;
        opened = start_opened (system s);
        ready = start_ready (system s) (λ x c name there after.
            none_of c.node.provides (starts_after (components s) [] (components s) (afters_fit s sound) x c name there after).0.provides);
      }

  pub lasts_next : (w : World) (x : ℕ) (new : World) (event : Event) → Lasts s w → next (system s) w x ≡ Ok (new, event) → Lasts s new
  lasts_next w x new event h e =
      record {
        stands = stands_next s w x new event h.stands e;
        own = kept_left OpensOwn (system s) programs w x new event h.own e;
        opened = kept_opened (system s) w x new event h.opened h.own e;
        ready = kept_ready (system s) w x new event h.ready (current_provides s w h.stands) e;
      }

  pub lasts_set : (w : World) (x i n : ℕ) → Lasts s w → Lasts s (set_input (system s) w x i n)
  lasts_set w x i n h =
      record {
        stands = stands_set s w x i n h.stands;
        own = set_left OpensOwn (system s) w x i n h.own;
        opened = set_opened (system s) w x i n h.opened;
        ready = set_ready (system s) w x i n h.ready;
      }

  pub lasts_submit : (w : World) (x i : ℕ) → Lasts s w → Lasts s (submit w x i)
  lasts_submit w x i h =
      record {
        stands = stands_submit s w x i h.stands;
        own = submit_left OpensOwn (system s) w x i h.own;
        opened = submit_opened (system s) w x i h.opened;
        ready = submit_ready (system s) w x i h.ready;
      }

  pub reached_lasts : (w : World) → IsReached s w → Lasts s w
  reached_lasts = in_reached s (Lasts s) lasts_next lasts_set lasts_submit lasts_first
