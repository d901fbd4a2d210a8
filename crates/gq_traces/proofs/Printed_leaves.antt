-- A leaf that is reported.
use Rattle.std.proofs.Common.{◌≡◌, ◌∙◌, ◌<◌, ℕ, Bool, true, false, List, [], ◌∷◌, ◌++◌, length, Option, Some, None, Ok, Err, IfSome, refl, ap, sym}
use Rattle.std.proofs.Common.{subst, codes}
use Rattle.std.specs.Prelude.{decimal, slice_get}
use Rattle.gq_model.specs.declared.phase.Phase.{Phase}
use Rattle.gq_model.specs.machine.Scenario.{Component, Scenario, components, system}
use Rattle.gq_model.specs.machine.World as model
use Rattle.gq_model.specs.machine.World.{Leaf}
use Rattle.gq_model.specs.machine.Sections.{section_word}
use Rattle.gq_output.specs.Writer_failures.{Writes}
use Rattle.gq_output.specs.declared.counted.Counted.{Counted}
use Rattle.gq_machine.specs.Machines.{Machine}
use Rattle.gq_resolve.specs.NodeTables.{NodeRow, node_rows}
use Rattle.gq_views.specs.Listing.{line}
use Rattle.gq_traces.specs.Step_positions.{StepPosition}
use Rattle.gq_traces.specs.Account_state.{has_quantum, init_items, is_live, lives, items_text, leaf_items, leaf_text, next_text, node_text, start_text}
use Rattle.gq_traces.specs.Trace.{Due, Traced}
use Rattle.gq_traces.specs.internal.Slot_items.{Prints_items, next_prefix}
use Rattle.gq_traces.specs.internal.Printed_steps.{Goes, IsDue, due_of, statement_text}
use Rattle.gq_traces.specs.declared.tracker.Due as stated
use Rattle.gq_traces.proofs.Unprinted_turns.{due_at}
use Rattle.gq_traces.proofs.Sequential_text_writes.{goes_both, goes_text}
use Rattle.gq_traces.proofs.Sound_world_leaves.{there_is}

-- whether a leaf has its quantum
pub live_at : (w : model.World) (o : Option NodeRow) (found : Option ℕ) (x : ℕ) (l : Leaf) (phase : Phase) (b : Bool) → IfSome o (λ r. found ≡ r.leaf)
    → found ≡ Some x → slice_get w.leaves x ≡ Some l → IfSome (slice_get w.leaves x) (λ l. phase ≡ l.phase) → b ≡ is_live phase
    → IfSome o (λ r. b ≡ has_quantum w r.leaf)
live_at w None found x l phase b is some there phased live = tt
live_at w (Some r) found x l phase b is some there phased live =
    let same = subst (λ (o : Option Leaf). IfSome o (λ l. phase ≡ l.phase)) there phased in
    live ∙ ap is_live same ∙ ap lives (sym there) ∙ ap (has_quantum w) (sym some ∙ is)

module _ {W : Type 0} (contents : W → Option (List ℕ)) where
  abbrev place_line : StepPosition → List ℕ
  place_line p = line 1 (codes "next: " ++ section_word p.section ++ codes " at " ++ decimal p.number ++ p.statement)

  -- the place of the next step
  pub next_reported : (c : stated.Due) (o : Option Due) → IsDue (Some c) o → (a b : Counted W) (x y : Bool)
      → Goes contents a b x y (next_prefix c ++ statement_text c.statement ++ 10 ∷ []) → Goes contents a b x y (next_text o)
  next_reported c None is a b x y g = absurd is
  next_reported c (Some o) is a b x y g = goes_text contents a b x y (next_prefix c ++ statement_text c.statement ++ 10 ∷ []) _ (ap place_line is) g

  pub no_next : (o : Option Due) → IsDue None o → (v : Counted W) (g : Bool) → Goes contents v v g g [] → Goes contents v v g g (next_text o)
  no_next None is v g a = a
  no_next (Some d) is v g a = absurd is

  pub leaf_reported : (s : Scenario) (w : model.World) (x : ℕ) (phase : Phase) (t : Traced) (v0 v1 v2 v3 : Counted W) (g0 g1 g2 g3 : Bool)
      → t.world ≡ w → length w.leaves ≡ length (components s) → x < length (components s) → IfSome (slice_get w.leaves x) (λ l. phase ≡ l.phase)
      → IfSome (slice_get (components s) x) (λ c. Goes contents v0 v1 g0 g1 (start_text (system s) c phase))
      → ((c : Component) (l : Leaf) → slice_get (components s) x ≡ Some c → slice_get w.leaves x ≡ Some l
      → Goes contents v1 v2 g1 g2 (items_text s.version (leaf_items (system s) w x c l phase)))
      → Goes contents v2 v3 g2 g3 (next_text (due_of s w x t.aheads))
      → Goes contents v0 v3 g0 g3 (leaf_text s.version (system s) t x (slice_get (components s) x) (slice_get t.world.leaves x))
  leaf_reported s w x phase t v0 v1 v2 v3 g0 g1 g2 g3 at long less phased starts items next =
      let c = there_is (components s) x less in
      let l = there_is w.leaves x (subst (λ n. x < n) (sym long) less) in
      let is = subst (λ (o : Option Leaf). IfSome o (λ l. phase ≡ l.phase)) l.1 phased in
      let first = subst (λ (o : Option Component). IfSome o (λ c. Goes contents v0 v1 g0 g1 (start_text (system s) c phase))) c.1 starts in
      goes_text contents v0 v3 g0 g3 _ _
      ((λ i. start_text (system s) c.0 (is i) ++ items_text s.version (leaf_items (system s) (sym at i) x c.0 l.0 (is i)) ++ next_text (sym (due_at s x w t
      at) i))
      ∙ (λ i. leaf_text s.version (system s) t x (sym c.1 i) ((sym l.1 ∙ ap (λ (v : model.World). slice_get v.leaves x) (sym at)) i)))
      (goes_both contents v0 v2 v3 g0 g2 g3 _ _ (goes_both contents v0 v1 v2 g0 g1 g2 _ _ first (items c.0 l.0 c.1 l.1)) next)

  -- NODES

  pub init_below : (m : Machine) (t : Traced) (n : ℕ) (r : NodeRow) (o : Option ℕ) (a b : Counted W) (x y : Bool) → t.world ≡ m.world
      → slice_get (node_rows m.scenario) n ≡ Some r → o ≡ None → IfSome (slice_get (node_rows m.scenario) n) (λ r. o ≡ r.leaf)
      → IfSome (slice_get (node_rows m.scenario) n) (λ r. Prints_items contents a b x y m (init_items m.world n r (node_rows m.scenario)))
      → Goes contents a b x y (node_text m.scenario t n r r.leaf)
  init_below m t n r o a b x y at there none is reported =
      let none_at = subst (λ (q : Option NodeRow). IfSome q (λ r. o ≡ r.leaf)) there is in
      let h = subst (λ (q : Option NodeRow). IfSome q (λ r. Prints_items contents a b x y m (init_items m.world n r (node_rows m.scenario)))) there reported in
      goes_text contents a b x y _ _
      ((λ i. items_text m.scenario.version (init_items (sym at i) n r (node_rows m.scenario)))
      ∙ ap (λ l. node_text m.scenario t n r l) (sym none ∙ none_at)) h

  pub leaf_below : (s : Scenario) (t : Traced) (n k : ℕ) (r : NodeRow) (o : Option ℕ) (a b : Counted W) (x y : Bool)
      → slice_get (node_rows s) n ≡ Some r → o ≡ Some k → IfSome (slice_get (node_rows s) n) (λ r. o ≡ r.leaf)
      → Goes contents a b x y (leaf_text s.version (system s) t k (slice_get (components s) k) (slice_get t.world.leaves k))
      → Goes contents a b x y (node_text s t n r r.leaf)
  leaf_below s t n k r o a b x y there some is reported =
      let at = subst (λ (q : Option NodeRow). IfSome q (λ r. o ≡ r.leaf)) there is in
      goes_text contents a b x y _ _ (ap (λ l. node_text s t n r l) (sym some ∙ at)) reported

  -- ENDS

  pub all_went : {A E : Type 0} (old new : Counted W) (going : Bool) (text : List ℕ) (a : A) → going ≡ true → Goes contents old new true going text
      → Writes {E = E} contents old new text (Ok a)
  all_went old new going text a is g = record { written = g.written is; counted = g.counted is; prefix = tt; raised = tt }

  pub cut_off : {A E : Type 0} (old new : Counted W) (going : Bool) (text : List ℕ) (e : E) → going ≡ false → Goes contents old new true going text
      → Writes {A = A} contents old new text (Err e)
  cut_off old new going text e is g = record { written = tt; counted = tt; prefix = g.prefix refl is; raised = g.raised refl is }
