-- Where the sessions of a leaf stand, in each world that a scenario without races comes to: one that it opens in `main` in an own slot, and one that it opens
-- in another section in a slot of the session that the section is for.
use Rattle.std.proofs.Common.{◌≡◌, ℕ, suc, Bool, true, List, Option, Some, None, Ok, is_some, refl, subst}
use Rattle.std.specs.Prelude.{slice_get}
use Rattle.gq_model.specs.declared.program.Instruction.{Instruction}
use Rattle.gq_model.specs.declared.program.Instruction.TheVariants.{Open}
use Rattle.gq_model.specs.declared.program.OperandSlot.{OperandSlot}
use Rattle.gq_model.specs.declared.program.OperandSlot.TheVariants.{Own, Shared, Object}
use Rattle.gq_model.specs.machine.Doing.{Event}
use Rattle.gq_model.specs.machine.Program.{Statements, Done, Do, If, Loop}
use Rattle.gq_model.specs.machine.Run.{set_input, submit}
use Rattle.gq_model.specs.machine.Scenario.{Component, Scenario, System, system}
use Rattle.gq_model.specs.machine.Step.{next}
use Rattle.gq_model.specs.machine.World.{SlotId, In_leaf, In_session, In_object, Current, Leaf, World, slot_id_of, start}
use Rattle.gq_model.proofs.Small_facts.{none_some, some_same}
use Rattle.gq_laws.specs.Reached_worlds.{IsReached}
use Rattle.gq_laws.specs.Sound_scenarios.{IsSound}
use Rattle.gq_laws.specs.Stands.{Stands}
use Rattle.gq_laws.specs.internal.Remaining_instructions.{AllAre}
use Rattle.gq_laws.specs.internal.Uncounted.{uncounted}
use Rattle.gq_laws.proofs.held_resources.Uncounted_resource_step.{step_same}
use Rattle.gq_laws.proofs.input_settings.Setting_keeps_invariants.{of_setting, of_submit}
use Rattle.gq_laws.proofs.upheld_worlds.Reached_world_induction.{in_reached}
use Rattle.gq_laws.proofs.upheld_worlds.Standing_world_invariant.{stands_first, stands_next, stands_set, stands_submit}
use Rattle.gq_races.specs.Races.{IsRaceFree, opens_first, opens_later}
use Rattle.gq_determined.proofs.from_rest.Own_opens.{opens_elsewhere}
use Rattle.gq_determined.proofs.thread_runs.Raceless_first_statements.{IsFree, free_sections, opens_at}
use Rattle.gq_determined.proofs.thread_runs.Remaining_section_statements.{AreSections, Lefts, kept_outside, left_leaf, start_outside}
use Rattle.gq_determined.proofs.thread_runs.Suitable_session_slots.{AllSuit, FirstSuited, FirstsSuited, kept_suited}

-- WHAT IS LEFT

-- what is left to leaves is made of statements of their programs, in each world that is reached
module _ (s : Scenario) (P : ℕ → Component → Bool → Instruction → Type 0) (sections : AreSections P (uncounted (system s))) where
  left_set : (w : World) (x i n : ℕ) → Lefts P (uncounted (system s)) w → Lefts P (uncounted (system s)) (set_input (system s) w x i n)
  left_set w x i n h =
      of_setting (system s) (Lefts P (uncounted (system s))) w x i n
      (λ leaf inputs there. left_leaf P (uncounted (system s)) w x (record leaf { inputs = inputs }) h (h.at x leaf there)) h

  left_submit : (w : World) (x i : ℕ) → Lefts P (uncounted (system s)) w → Lefts P (uncounted (system s)) (submit w x i)
  left_submit w x i h =
      of_submit (Lefts P (uncounted (system s))) w x i (λ leaf there. left_leaf P (uncounted (system s)) w x _ h (h.at x leaf there)) h

  left_next : (w : World) (x : ℕ) (new : World) (event : Event) → Lefts P (uncounted (system s)) w → next (system s) w x ≡ Ok (new, event)
      → Lefts P (uncounted (system s)) new
  left_next w x new event h stepped =
      kept_outside P (uncounted (system s)) sections w x new event h (step_same (system s) w x new event stepped)

  pub reached_left : (w : World) → IsReached s w → Lefts P (uncounted (system s)) w
  reached_left =
      in_reached s (Lefts P (uncounted (system s))) left_next left_set left_submit (start_outside P (uncounted (system s)) sections)

-- PLACES

-- a session of a client with a server stands where the client opens such sessions
abbrev pub IsPlace : System → SlotId → ℕ → ℕ → Type 0
IsPlace u (In_leaf y a) client server = (c : Component) × (slice_get u.components client ≡ Some c) × (opens_first u server c ≡ true)
IsPlace u (In_session j a) client server = (c : Component) × (slice_get u.components client ≡ Some c) × (opens_later u server c ≡ true)
IsPlace u (In_object j) client server = Unit {0}

module _ (s : Scenario) (sound : IsSound s) (none : IsRaceFree s) where
  abbrev u : System
  u = uncounted (system s)

  -- what holds of each world that is reached
  record Keeps (w : World) : Type 0 where
    stands : Stands s w
    left : Lefts (IsFree u) u w
    places : AllSuit (IsPlace u) w

  -- what a leaf does first opens sessions so
  module _ (w : World) (stands : Stands s w) (left : Lefts (IsFree u) u w) where
    module _ (x : ℕ) (c : Component) (leaf : Leaf) (at : slice_get u.components x ≡ Some c) (there : slice_get w.leaves x ≡ Some leaf)
        (service : List ℕ) (n : ℕ) (rest : Statements) (q : SlotId) (server : ℕ) where
      placed_by : (place : OperandSlot) → leaf.todo ≡ Do (Open place service n) rest → (current : Option Current) → leaf.current ≡ current
          → slot_id_of x current place ≡ Some q → opens_at u server c (is_some current) ≡ true → IsPlace u q x server
      placed_by (Own a) first None is named opens = subst (λ q. IsPlace u q x server) (some_same named) (c, at, opens)
      placed_by (Own a) first (Some current) is named opens = absurd (opens_elsewhere s w stands x c leaf at there current is a service n rest first)
      placed_by (Shared a) first None is named opens = absurd (none_some named)
      placed_by (Shared a) first (Some current) is named opens = subst (λ q. IsPlace u q x server) (some_same named) (c, at, opens)
      placed_by Object first None is named opens = absurd (none_some named)
      placed_by Object first (Some current) is named opens = subst (λ q. IsPlace u q x server) (some_same named) tt

    firsts : FirstsSuited (IsPlace u) u w
    firsts x c leaf at there = by leaf.todo refl ((left.at x leaf there c at).0)
      where
        by : (todo : Statements) → leaf.todo ≡ todo → AllAre (IsFree u x c (is_some leaf.current)) todo
            → FirstSuited (IsPlace u) (record { system = u; world = w; x = x; component = c; leaf = record leaf { steps = suc leaf.steps } }) todo
        by Done e h = tt
        by (Do (Open place service n) rest) e h = λ q server named routed.
            placed_by x c leaf at there service n rest q server place e leaf.current refl named (h.0.1 server routed)
        by (Do _ rest) e h = tt
        by (If arm other rest) e h = tt
        by (Loop count body rest) e h = tt

  sections : AreSections (IsFree u) u
  sections = free_sections s sound none

  places_next : (w : World) (x : ℕ) (new : World) (event : Event) → Keeps w → next (system s) w x ≡ Ok (new, event) → Keeps new
  places_next w x new event h stepped =
      let same = step_same (system s) w x new event stepped in
      record {
        stands = stands_next s w x new event h.stands stepped;
        left = kept_outside (IsFree u) u sections w x new event h.left same;
        places = kept_suited (IsPlace u) u w x new event h.places (firsts w h.stands h.left) same;
      }

  -- settings and signals change no session
  places_set : (w : World) (x i n : ℕ) → Keeps w → Keeps (set_input (system s) w x i n)
  places_set w x i n h = record {
    stands = stands_set s w x i n h.stands;
    left = left_set s (IsFree u) sections w x i n h.left;
    places = of_setting (system s) (AllSuit (IsPlace u)) w x i n (λ leaf inputs there. record { at = h.places.at }) h.places;
  }

  places_submit : (w : World) (x i : ℕ) → Keeps w → Keeps (submit w x i)
  places_submit w x i h = record {
    stands = stands_submit s w x i h.stands;
    left = left_submit s (IsFree u) sections w x i h.left;
    places = of_submit (AllSuit (IsPlace u)) w x i (λ leaf there. record { at = h.places.at }) h.places;
  }

  places_first : Keeps (start (system s))
  places_first = record {
    stands = stands_first s sound;
    left = start_outside (IsFree u) u sections;
    places = record { at = λ k t e. absurd (none_some e) };
  }

  pub reached_places : (w : World) → IsReached s w → AllSuit (IsPlace u) w
  reached_places w r = (in_reached s Keeps places_next places_set places_submit places_first w r).places
