-- The step that a leaf can take, by what it does.
use Rattle.std.proofs.Common.{◌≡◌, ◌∙◌, ℕ, ◌<◌, List, [], length, map, option_map, Option, Some, None, refl, ap, sym, arith}
use Rattle.std.specs.Prelude.{IfSome, slice_get}
use Rattle.gq_model.specs.declared.phase.Phase.{Phase}
use Rattle.gq_model.specs.declared.section.Section.{Section}
use Rattle.gq_model.specs.declared.section.Section.TheVariants.{Reacting}
use Rattle.gq_model.specs.declared.phase.Phase.TheVariants.{Running, Serving, Handling}
use Rattle.gq_model.specs.machine.Scenario.{Component, Scenario, components}
use Rattle.gq_model.specs.machine.Step.{first_signal, oldest}
use Rattle.gq_model.specs.machine.World.{Leaf, Request, Signal, World, section_of}
use Rattle.gq_model.proofs.Small_facts.{none_some, some_same}
use Rattle.gq_machine.specs.Readers.{asked_in, requested}
use Rattle.gq_machine.specs.declared.world_reads.Asked.{Asked}
use Rattle.gq_traces.specs.Step_positions.{Ahead, ahead, at_request, at_signal, body_in, first_request, next_place, past, place, place_in, request_place}
use Rattle.gq_traces.specs.Step_positions.{signal_place, stepped}
use Rattle.gq_traces.specs.Trace.{Due, due_by, due_in}
use Rattle.gq_traces.specs.declared.numbered_program.NumberedProgram.{NumberedProgram as Entries}
use Rattle.gq_traces.specs.declared.tracker.Ahead as places
use Rattle.gq_traces.specs.declared.tracker.Due as stated
use Rattle.gq_traces.specs.internal.Flat.{AreAheads, ArePrograms}
use Rattle.gq_traces.specs.internal.Printed_steps.{StepPrinted, due_of, place_of, section_by, section_due}
use Rattle.gq_traces.proofs.Leaves_standing.{from_some, program, programs_long, there_is, printed_there}

module _ (s : Scenario) (w : World) (x : ℕ) (less : x < length (components s)) (count : length w.leaves ≡ length (components s)) (programs : List Entries)
    (stands : List places.Ahead) (are : ArePrograms programs (map program (components s))) (ts : List Ahead) (aheads : AreAheads programs stands ts) where
  -- its component, its leaf and where it stands
  pub record Parts : Type 0 where
    pub component : Component
    pub leaf : Leaf
    pub ahead : Ahead
    pub component_is : slice_get (components s) x ≡ Some component
    pub leaf_is : slice_get w.leaves x ≡ Some leaf
    pub ahead_is : slice_get ts x ≡ Some ahead

  pub parts : Parts
  parts =
      let long = programs_long programs (components s) are in
      let c = there_is (components s) x less in
      let l = there_is w.leaves x (omega (arith, less, count)) in
      let t = printed_there programs stands ts x aheads (omega (arith, less, long)) in
      record { component = c.0; leaf = l.0; ahead = t.0; component_is = c.1; leaf_is = l.1; ahead_is = t.1 }

  module _ (p : Parts) where
    pub due_is : due_of s w x ts ≡ due_by p.component (stepped w x p.component p.leaf p.ahead p.leaf.phase) (place_in w x p.component p.leaf p.ahead
        p.leaf.phase)
    due_is = λ i. due_in w x (p.component_is i) (p.leaf_is i) (p.ahead_is i)

    -- the phase that is reported
    abbrev by_phase : Phase → Option Due
    by_phase phase = due_by p.component (stepped w x p.component p.leaf p.ahead phase) (place_in w x p.component p.leaf p.ahead phase)

    module _ (phase : Phase) (reported : IfSome (slice_get w.leaves x) (λ l. phase ≡ l.phase)) where
      phase_is : phase ≡ p.leaf.phase
      phase_is = from_some (slice_get w.leaves x) (λ l. phase ≡ l.phase) p.leaf p.leaf_is reported

      pub due_then : (q : Phase) → phase ≡ q → due_of s w x ts ≡ by_phase q
      due_then q e = due_is ∙ ap by_phase (sym phase_is ∙ e)

    -- a leaf that takes steps of its own
    pub own_due : (d : stated.Due) → StepPrinted programs stands s w x d
        → place_of d ≡ next_place p.component (section_of p.leaf.current p.leaf.reacting) p.ahead.todo p.ahead.loops
    own_due d reported = reported p.component p.leaf ts p.ahead p.component_is p.leaf_is aheads p.ahead_is

    -- one that takes a signal or a request
    start_at : (f : Option (ℕ × List Signal)) (o : Option Request) (section : Section)
        → section_by f (option_map (λ (r : Request). requested w r) o) ≡ Some section
        → due_by p.component (at_signal p.component f (at_request p.component w o)) (signal_place f (request_place w o))
        ≡ due_by p.component (ahead (body_in p.component section)) (Some (place section 0 []))
    start_at (Some q) o section e = ap (λ z. due_by p.component (ahead (body_in p.component z)) (Some (place z 0 []))) (some_same e)
    start_at None (Some r) section e = ap (λ z. due_by p.component (ahead (body_in p.component z)) (Some (place z 0 []))) (some_same e)
    start_at None None section e = absurd (none_some e)

    pub start_due : (section : Section) → section_due w x p.leaf ≡ Some section
        → by_phase Serving ≡ due_by p.component (ahead (body_in p.component section)) (Some (place section 0 []))
    start_due section e = start_at (first_signal p.leaf.signals) (first_request (oldest w x w.requests)) section e

    none_at : (f : Option (ℕ × List Signal)) (o : Option Request) → section_by f (option_map (λ (r : Request). requested w r) o) ≡ None
        → due_by p.component (at_signal p.component f (at_request p.component w o)) (signal_place f (request_place w o)) ≡ None
    none_at (Some q) o e = absurd (none_some (sym e))
    none_at None (Some r) e = absurd (none_some (sym e))
    none_at None None e = refl

    pub no_start : section_due w x p.leaf ≡ None → by_phase Serving ≡ None
    no_start e = none_at (first_signal p.leaf.signals) (first_request (oldest w x w.requests)) e

    -- the section that was read
    pub section_read : (o : Option Section) → IfSome (slice_get w.leaves x) (λ l. o ≡ section_due w x l) → section_due w x p.leaf ≡ o
    section_read o h = sym (from_some (slice_get w.leaves x) (λ l. o ≡ section_due w x l) p.leaf p.leaf_is h)

    -- where it stands then
    pub running_ahead : (d : Due) → by_phase Running ≡ Some d → past p.leaf.operands p.ahead.todo p.ahead.loops ≡ d.ahead
    running_ahead d e = ap (λ (z : Due). z.ahead) (some_same e)

    pub handling_ahead : (d : Due) → by_phase Handling ≡ Some d → past p.leaf.operands p.ahead.todo p.ahead.loops ≡ d.ahead
    handling_ahead d e = ap (λ (z : Due). z.ahead) (some_same e)

    pub start_ahead : (section : Section) (d : Due)
        → due_by p.component (ahead (body_in p.component section)) (Some (place section 0 [])) ≡ Some d
        → ahead (body_in p.component section) ≡ d.ahead
    start_ahead section d e = ap (λ (z : Due). z.ahead) (some_same e)

-- what is read of signals and requests
module _ (w : World) (x : ℕ) (l : Leaf) where
  first_read : (f : Option (ℕ × List Signal)) (o : Option Section) (i : ℕ) → Some i ≡ option_map (λ (q : ℕ × List Signal). q.0) f
      → Some (Reacting i) ≡ section_by f o
  first_read None o i e = absurd (none_some (sym e))
  first_read (Some q) o i e = ap (λ (n : ℕ). Some (Reacting n)) (some_same e)

  none_read : (f : Option (ℕ × List Signal)) (o : Option Section) → None ≡ option_map (λ (q : ℕ × List Signal). q.0) f → o ≡ section_by f o
  none_read None o e = refl
  none_read (Some q) o e = absurd (none_some e)

  asked_read : (o : Option (Request × List Request)) (a : Asked) → Some a ≡ option_map (λ (q : Request × List Request). asked_in w q.0) o
      → Some a.section ≡ option_map (λ (r : Request). requested w r) (first_request o)
  asked_read None a e = absurd (none_some (sym e))
  asked_read (Some q) a e = ap (λ (b : Asked). Some b.section) (some_same e)

  no_asked_read : (o : Option (Request × List Request)) → None ≡ option_map (λ (q : Request × List Request). asked_in w q.0) o
      → None ≡ option_map (λ (r : Request). requested w r) (first_request o)
  no_asked_read None e = refl
  no_asked_read (Some q) e = absurd (none_some e)

  -- a signal goes first
  pub signal_section : (i : ℕ) → Some i ≡ option_map (λ (q : ℕ × List Signal). q.0) (first_signal l.signals) → Some (Reacting i) ≡ section_due w x l
  signal_section i e = first_read (first_signal l.signals) (option_map (λ (r : Request). requested w r) (first_request (oldest w x w.requests))) i e

  module _ (none : None ≡ option_map (λ (q : ℕ × List Signal). q.0) (first_signal l.signals)) where
    pub request_section : (a : Asked) → Some a ≡ option_map (λ (q : Request × List Request). asked_in w q.0) (oldest w x w.requests)
        → Some a.section ≡ section_due w x l
    request_section a e = asked_read (oldest w x w.requests) a e ∙ none_read (first_signal l.signals) _ none

    pub no_section : None ≡ option_map (λ (q : Request × List Request). asked_in w q.0) (oldest w x w.requests) → None ≡ section_due w x l
    no_section e = no_asked_read (oldest w x w.requests) e ∙ none_read (first_signal l.signals) _ none
