-- No step of an accepted scenario is wrong: in each world that it comes to, all is held within what was verified, and so each step is paid for.
use Rattle.std.proofs.Common.{◌≡◌, ◌≤◌, ◌+◌, true, ℕ, zero, suc, List, [], ◌∷◌, replicate, Option, Some, None, Ok, Err, refl, sym, subst, arith}
use Rattle.std.specs.Prelude.{slice_get, sum_by}
use Rattle.gq_tariff.specs.Prices.{classes}
use Rattle.gq_model.specs.machine.Amounts.{Resource, Ram, Caps, part}
use Rattle.gq_model.specs.declared.fault.Wrong.{Wrong}
use Rattle.gq_model.specs.declared.program.Instruction.{Instruction}
use Rattle.gq_model.specs.declared.program.Instruction.TheVariants.{Open}
use Rattle.gq_model.specs.declared.section.Section.TheVariants.{Main}
use Rattle.gq_model.specs.machine.Program.{Statements, Done, Do, If, Loop, section_in}
use Rattle.gq_model.specs.machine.Scenario.{Scenario, System, Component, system}
use Rattle.gq_model.specs.machine.World.{Empty, Leaf, World, first_phase, start_leaf, start}
use Rattle.gq_model.specs.machine.Sums.{slot_price, paid}
use Rattle.gq_model.specs.machine.Doing.{Doing, Event, Idle, Stepped}
use Rattle.gq_model.specs.machine.Step.{step_of, next}
use Rattle.gq_model.specs.rules.Kinds.{Kind, AbstractState}
use Rattle.gq_model.specs.rules.Flow.{flow, context, body, start_of}
use Rattle.gq_model.specs.rules.Budgets.{own}
use Rattle.gq_model.specs.rules.Use.{subject}
use Rattle.gq_model.specs.Promises.{budget_of}
use Rattle.gq_laws.specs.Session_links.{IsLinkedWorld}
use Rattle.gq_laws.specs.Shapes.{IsWholeWorld}
use Rattle.gq_laws.specs.Sound_scenarios.{IsSound}
use Rattle.gq_laws.specs.internal.Remaining_instructions.{AllAre, AreLeft, IsGood}
use Rattle.gq_laws.specs.Inside_steps.{TakesLeaf}
use Rattle.gq_laws.specs.Typing.{IsTypedBy}
use Rattle.gq_laws.specs.internal.Lending.{slot_given}
use Rattle.gq_laws.specs.internal.Verified_holdings.{IsBounded, main_points, PeaksWithin, HoldsNone, HoldsWithin, IsHeld}
use Rattle.gq_laws.specs.internal.Uncounted.{uncounted}
use Rattle.gq_model.proofs.Small_facts.{none_some}
use Rattle.gq_laws.proofs.session_links.Linked_worlds.{kept_linked, start_linked}
use Rattle.gq_laws.proofs.remaining_work.Remaining_program_statements.{start_left, kept_left}
use Rattle.gq_laws.proofs.verified_programs.Accepted_program_facts.{main_there}
use Rattle.gq_laws.proofs.verified_programs.Sure_system_facts.{IsSure}
use Rattle.gq_laws.proofs.verified_programs.Sound_systems.{sure_of, good_of}
use Rattle.gq_laws.proofs.verified_programs.Own_costs.{own_pays, own_is}
use Rattle.gq_laws.proofs.held_resources.Uncounted_resource_step.{step_paid, never_short}
use Rattle.gq_laws.proofs.typed_worlds.Start_typed.{nothing, start_typed}
use Rattle.gq_laws.proofs.typed_worlds.Typed_world_step.{outcome}
use Rattle.gq_laws.proofs.step_shapes.Whole_worlds.{start_whole, kept_whole}
use Rattle.gq_laws.proofs.typed_worlds.Accepted_run_typed.{counted}
use Rattle.gq_laws.proofs.typed_worlds.Bounded_typed_step.{bounded_start}
use Rattle.gq_laws.proofs.held_resources.Held_after_step.{typed_then, held_after}
use Rattle.gq_laws.proofs.held_resources.Held_within_paid.{IsAmong, of_each, HaveInterfaces, held_paid}
use Rattle.gq_laws.proofs.step_shapes.Step_end_shapes.{gives}
use Rattle.gq_laws.proofs.typed_worlds.Start_typed.{start_at}
use Rattle.gq_model.proofs.Rules_laws.{section_flows}

-- what is good in a system is good where nothing is counted
good_same : (system : System) (c : Component) (i : Instruction) → IsGood system c i → IsGood (uncounted system) c i
good_same system c (Open place service n) h = h
good_same system c i h = (h.0, tt)

all_good_same : (system : System) (c : Component) (todo : Statements) → AllAre (IsGood system c) todo → AllAre (IsGood (uncounted system) c) todo
all_good_same system c Done h = tt
all_good_same system c (Do i rest) h = (good_same system c i h.0, all_good_same system c rest h.1)
all_good_same system c (If arm other rest) h = (all_good_same system c arm h.0, all_good_same system c other h.1, all_good_same system c rest h.2)
all_good_same system c (Loop n body rest) h = (h.0, all_good_same system c body h.1, all_good_same system c rest h.2)

-- THE START

no_peaks : (states : List AbstractState) (cs : List ℕ) (n : ℕ) → PeaksWithin states cs (replicate n 0)
no_peaks states [] n = tt
no_peaks states (c ∷ cs) zero = tt
no_peaks states (c ∷ cs) (suc n) = (omega arith, no_peaks states cs n)

none_first : (c : Component) (after : Option (List ℕ)) → HoldsNone (start_leaf c) (first_phase after)
none_first c None = tt
none_first c (Some name) = (refl, refl)

no_slots : (r : Resource) (w : World) → sum_by (slot_price r) (replicate 64 Empty) + sum_by (slot_given r w) (replicate 64 Empty) ≡ 0
no_slots Ram w = refl
no_slots Caps w = refl

start_holds : (system : System) (x : ℕ) (c : Component) (leaf : Leaf) → slice_get system.components x ≡ Some c → slice_get (start system).leaves x ≡ Some leaf
    → HoldsWithin system (start system) c leaf
start_holds system x c leaf placed there =
    subst (HoldsWithin system (start system) c) (sym (start_at system.components x c leaf placed there)) (record {
      own = λ r. (let nothing_there = no_slots r (start system) in omega (arith, nothing_there));
      peaks = no_peaks (main_points (subject system c)) classes 8;
      none = none_first c c.node.after;
    })

start_held : (system : System) → IsHeld system (start system)
start_held system =
    record {
      leaves = start_holds system;
      sessions = λ k s there. absurd (none_some there);
      requests = tt;
    }

-- EACH STEP

module _ (s : Scenario) (sound : IsSound s) where
  abbrev real : System
  real = system s

  abbrev u : System
  u = uncounted real

  real_sure : IsSure real
  real_sure = sure_of s sound

  sure : IsSure u
  sure =
      record {
        server = real_sure.server;
        provides = real_sure.provides;
        faultless = real_sure.faultless;
        locals = real_sure.locals;
        sections = real_sure.sections;
        upgrades = real_sure.upgrades;
        signals = real_sure.signals;
      }

  -- a world in which all that a step takes for granted holds
  pub record Stands (w : World) : Type 0 where
    pub whole : IsWholeWorld u w
    pub linked : IsLinkedWorld u w
    pub left : AreLeft (IsGood real) u w
    pub promised : ℕ → Option Kind
    pub typed : IsTypedBy promised (IsBounded u) u w
    pub held : IsHeld u w

  pub stands_on : (w : World) (x : ℕ) (new : World) (event : Event) → Stands w → next u w x ≡ Ok (new, event) → Stands new
  stands_on w x new event h e = by (slice_get u.components x) refl (slice_get w.leaves x) refl e
    where
      linked_new : IsLinkedWorld u new
      linked_new = kept_linked u w x new event h.linked e

      left_new : AreLeft (IsGood real) u new
      left_new = kept_left (IsGood real) u (good_of s sound) w x new event h.left e

      by : (o : Option Component) → slice_get u.components x ≡ o → (p : Option Leaf) → slice_get w.leaves x ≡ p → step_of u w x o p ≡ Ok (new, event)
          → Stands new
      by None f p g k = (gives {P = Stands} w Idle h).holds new event k
      by (Some c) f None g k = (gives {P = Stands} w Idle h).holds new event k
      by (Some c) f (Some leaf) g k =
          let d : Doing = record { system = u; world = w; x = x; component = c; leaf = record leaf { steps = suc leaf.steps } } in
          let taken : TakesLeaf d = record { old = leaf; there = g; slots = refl; phase = refl; current = refl; reacting = refl } in
          let good = all_good_same real c leaf.todo (h.left x c leaf f g).todo in
          let stands = counted h.promised (IsBounded u) u w x c leaf (suc leaf.steps) leaf.phase (h.typed.leaves x c leaf f g) in
          let o = (outcome h.promised (IsBounded u) d sure taken h.linked h.typed f good (h.whole.inputs x c leaf f g)
          (h.whole.signals x c leaf f g) stands).ends new event k in
          let n = typed_then h.promised d sure taken refl h.linked h.typed f h.held new linked_new o in
          record {
            whole = kept_whole u w x new event h.whole e;
            linked = linked_new;
            left = left_new;
            promised = n.0;
            typed = n.1;
            held = held_after h.promised d sure taken refl h.linked h.typed f h.held new linked_new o;
          }

  -- only want of quota could be wrong with a step, and where nothing is counted there is none
  never : (w : World) (x : ℕ) (wrong : Wrong) → Stands w → next u w x ≡ Err wrong → ⊥
  never w x wrong h e = by (slice_get u.components x) refl (slice_get w.leaves x) refl e
    where
      no : ◌≡◌ {A = Stepped} (Ok (w, Idle)) (Err wrong) → ⊥
      no e = cc

      by : (o : Option Component) → slice_get u.components x ≡ o → (p : Option Leaf) → slice_get w.leaves x ≡ p → step_of u w x o p ≡ Err wrong → ⊥
      by None f p g k = absurd (no k)
      by (Some c) f None g k = absurd (no k)
      by (Some c) f (Some leaf) g k =
          let d : Doing = record { system = u; world = w; x = x; component = c; leaf = record leaf { steps = suc leaf.steps } } in
          let taken : TakesLeaf d = record { old = leaf; there = g; slots = refl; phase = refl; current = refl; reacting = refl } in
          let good = all_good_same real c leaf.todo (h.left x c leaf f g).todo in
          let stands = counted h.promised (IsBounded u) u w x c leaf (suc leaf.steps) leaf.phase (h.typed.leaves x c leaf f g) in
          never_short real w x wrong e ((outcome h.promised (IsBounded u) d sure taken h.linked h.typed f good
          (h.whole.inputs x c leaf f g) (h.whole.signals x c leaf f g) stands).short wrong k)

  -- all is paid for
  pub interfaces : (w : World) → Stands w → HaveInterfaces u real.counted w
  interfaces w h k session there =
      let f = h.typed.sessions k session there in (f.interface, f.known, sound.formed.counted session.service f.interface f.known)

  pays : (x : ℕ) (c : Component) → slice_get u.components x ≡ Some c → (r : Resource) → IsAmong r real.counted → own r (subject u c) ≤ part r c.node.quantum
  pays x c there r among =
      let is = of_each (λ r. part r (budget_of s x c).own ≡ own r (subject real c)) real.counted (own_is s x c) r among in
      subst (λ n. n ≤ part r c.node.quantum) is (own_pays s x c there sound.accepted r)

  pub stands_paid : (w : World) → Stands w → paid real w ≡ true
  stands_paid w h = held_paid u real.counted w h.linked (interfaces w h) h.held.leaves h.held.sessions pays real refl refl

  -- so each step is
  pub goes_on : (w : World) → Stands w → (x : ℕ) → (p : World × Event) × (next real w x ≡ Ok p)
  goes_on w h x = by (next u w x) refl
    where
      by : (r : Stepped) → next u w x ≡ r → (p : World × Event) × (next real w x ≡ Ok p)
      by (Ok p) e = (p, step_paid real w x p.0 p.1 e (stands_paid p.0 (stands_on w x p.0 p.1 h e)))
      by (Err wrong) e = absurd (never w x wrong h e)

  -- THE WORLDS OF THE SCENARIO

  main_listed : (x : ℕ) (c : Component) → slice_get u.components x ≡ Some c → (list : Statements) × (section_in Main c.node.program.sections ≡ Some list)
  main_listed x c there = main_there (subject u c) (sure.faultless x c there)

  main_flows : (x : ℕ) (c : Component) → slice_get u.components x ≡ Some c
      → (end : AbstractState) × (flow (context (subject u c) Main) (start_of (subject u c) Main) (body (subject u c) Main) ≡ Ok end)
  main_flows x c there =
      let l = main_listed x c there in
      let f = section_flows (subject u c) Main l.0 (sure.faultless x c there) l.1 in
      (f.0, f.2)

  pub stands_first : Stands (start real)
  stands_first =
      record {
        whole = start_whole u;
        linked = start_linked u;
        left = start_left (IsGood real) u (good_of s sound);
        promised = nothing;
        typed = start_typed (IsBounded u) u sure main_flows main_listed (λ x c there. let l = main_listed x c there in
            bounded_start u x c Main l.0 there (sure.faultless x c there) l.1);
        held = start_held u;
      }
