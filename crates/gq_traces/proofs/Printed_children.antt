-- What is reported below the account of a node.
use Rattle.std.proofs.Common.{◌≡◌, ◌∙◌, ◌&&◌, ℕ, Bool, true, false, cond, List, [], ◌∷◌, ◌++◌, Option, Some, None, IfSome, refl, ap, sym}
use Rattle.std.proofs.Common.{subst, codes}
use Rattle.std.specs.Prelude.{option_map, slice_get}
use Rattle.gq_model.specs.machine.Amounts.{Amount}
use Rattle.gq_model.specs.machine.Scenario.{Component, Scenario, components, system}
use Rattle.gq_model.specs.machine.World.{Leaf, Slot}
use Rattle.gq_output.specs.declared.counted.Counted.{Counted}
use Rattle.gq_machine.specs.Machines.{Machine}
use Rattle.gq_resolve.specs.NodeTables.{IsNodeOf, NodeRow, node_rows}
use Rattle.gq_views.specs.Listing.{indent}
use Rattle.gq_tariff.specs.Prices.{classes}
use Rattle.gq_model.specs.declared.program.OperandSlot.TheVariants.{Own}
use Rattle.gq_traces.specs.Account_state.{Given, Handed, child_items, handed_items, has_quantum, init_items, inputs_behind, inputs_of, is_at, item, items_text}
use Rattle.gq_traces.specs.Account_state.{live_items, places_items, sessions_items, signals_behind, slots_items}
use Rattle.gq_traces.specs.internal.Slot_items.{Prints_items}
use Rattle.gq_traces.specs.internal.Printed_steps.{Goes}
use Rattle.gq_traces.proofs.Sequential_text_writes.{goes_both, goes_text}
use Rattle.gq_traces.proofs.Printed_items.{amount_is_printed, items_both, put_line}
use Rattle.gq_traces.proofs.Printed_nodes.{four_items}

-- a leaf's own slots
pub own_slots : (o : Option Leaf) (P : List Slot → Type 0) → IfSome (option_map (λ l. l.slots) o) P → IfSome o (λ l. P l.slots)
own_slots None P h = tt
own_slots (Some l) P h = h

module _ {W : Type 0} (contents : W → Option (List ℕ)) where
  -- what a node is given
  pub given_printed : (s : Scenario) (o : Option NodeRow) (q : Amount) (a b : Counted W) (x y : Bool) → IfSome o (λ r. q ≡ r.quantum)
      → Goes contents a b x y (put_line s.version (indent 1) (codes "quantum") q []) → IfSome o (λ r. Goes contents a b x y
      (items_text s.version (item 1 Given r.quantum [] ∷ [])))
  given_printed s None q a b x y h g = tt
  given_printed s (Some r) q a b x y h g = goes_text contents a b x y _ _ (amount_is_printed s s refl 1 Given q r.quantum h (indent 1) [] [] refl refl) g

  -- a node that is no live child
  pub no_child : (m : Machine) (n : ℕ) (o : Option NodeRow) (child quantum : Bool) (a : Counted W) (x : Bool) → child && quantum ≡ false
      → IfSome o (λ r. child ≡ is_at n r.parent) → IfSome o (λ r. quantum ≡ has_quantum m.world r.leaf) → Goes contents a a x x []
      → IfSome o (λ r. Prints_items contents a a x x m (child_items m.world n r))
  no_child m n None child quantum a x e h k g = tt
  no_child m n (Some r) child quantum a x e h k g =
      goes_text contents a a x x [] _
      (ap (λ t. items_text m.scenario.version (cond t (item 1 Handed r.quantum (codes " to " ++ r.label) ∷ []) [])) (sym e ∙ (λ i. h i && k i))) g

  -- a live child
  pub child_printed : (m : Machine) (t : Scenario) (n : ℕ) (o : Option NodeRow) (child quantum : Bool) (q : Amount) (label rest : List ℕ) (a b : Counted W)
      (x y : Bool) → t ≡ m.scenario → child ≡ true → quantum ≡ true → IfSome o (λ r. child ≡ is_at n r.parent)
      → IfSome o (λ r. quantum ≡ has_quantum m.world r.leaf) → IfSome o (λ r. q ≡ r.quantum) → IfSome o (λ r. label ≡ r.label) → rest ≡ codes " to " ++ label
      → Goes contents a b x y (put_line t.version (indent 1) (codes "hands") q rest)
      → IfSome o (λ r. Prints_items contents a b x y m (child_items m.world n r))
  child_printed m t n None child quantum q label rest a b x y same is has h k f l e g = tt
  child_printed m t n (Some r) child quantum q label rest a b x y same is has h k f l e g =
      let both : is_at n r.parent && has_quantum m.world r.leaf ≡ true = (λ i. (sym h ∙ is) i && (sym k ∙ has) i) in
      goes_text contents a b x y _ _
      (amount_is_printed t m.scenario same 1 Handed q r.quantum f (indent 1) rest (codes " to " ++ r.label) refl (e ∙ ap (λ z. codes " to " ++ z) l)
      ∙ ap (λ z. items_text m.scenario.version (cond z (item 1 Handed r.quantum (codes " to " ++ r.label) ∷ []) [])) (sym both)) g

  pub init_reported : (m : Machine) (n : ℕ) (o : Option NodeRow) (a b c : Counted W) (x y z : Bool)
      → IfSome o (λ r. Goes contents a b x y (items_text m.scenario.version (item 1 Given r.quantum [] ∷ [])))
      → Prints_items contents b c y z m (handed_items m.world n (node_rows m.scenario))
      → IfSome o (λ r. Prints_items contents a c x z m (init_items m.world n r (node_rows m.scenario)))
  init_reported m n None a b c x y z g h = tt
  init_reported m n (Some r) a b c x y z g h =
      goes_text contents a c x z _ _
      (items_both m.scenario.version (item 1 Given r.quantum [] ∷ []) (handed_items m.world n (node_rows m.scenario)))
      (goes_both contents a b c x y z _ _ g h)

  -- what a leaf is given, the values of its inputs, and how often its signals were taken
  pub given_with : (m : Machine) (s : Scenario) (x : ℕ) (c : Component) (l : Leaf) (node : ℕ) (q : Amount) (rest : List ℕ) (a b : Counted W) (y z : Bool)
      → s ≡ m.scenario → slice_get (components m.scenario) x ≡ Some c → IfSome (slice_get (components s) x) (λ d. IsNodeOf (node_rows s) node d)
      → IfSome (slice_get (node_rows s) node) (λ r. q ≡ r.quantum) → rest ≡ inputs_behind (inputs_of c l) ++ signals_behind l.signals
      → Goes contents a b y z (put_line s.version (indent 1) (codes "quantum") q rest)
      → Prints_items contents a b y z m (item 1 Given c.node.quantum (inputs_behind (inputs_of c l) ++ signals_behind l.signals) ∷ [])
  given_with m s x c l node q rest a b y z same named is_node quantum line g =
      let there : slice_get (components s) x ≡ Some c = ap (λ (t : Scenario). slice_get (components t) x) same ∙ named in
      let k = subst (λ (o : Option Component). IfSome o (λ d. IsNodeOf (node_rows s) node d)) there is_node in
      let is = subst (λ (o : Option NodeRow). IfSome o (λ r. q ≡ r.quantum)) k.1 quantum in
      goes_text contents a b y z _ _
      (amount_is_printed s m.scenario same 1 Given q c.node.quantum (is ∙ k.3) (indent 1) rest (inputs_behind (inputs_of c l) ++ signals_behind l.signals)
      refl line) g

  pub live_printed : (m : Machine) (x : ℕ) (c : Component) (l : Leaf) (v0 v1 v2 v3 v4 : Counted W) (g0 g1 g2 g3 g4 : Bool)
      → slice_get m.world.leaves x ≡ Some l
      → Prints_items contents v0 v1 g0 g1 m (item 1 Given c.node.quantum (inputs_behind (inputs_of c l) ++ signals_behind l.signals) ∷ [])
      → IfSome (slice_get m.world.leaves x)
      (λ l. Prints_items contents v1 v2 g1 g2 m (slots_items (system m.scenario) m.world Own 0 l.slots))
      → IfSome (slice_get m.world.leaves x) (λ l. Prints_items contents v2 v3 g2 g3 m (places_items classes l.peaks))
      → Prints_items contents v3 v4 g3 g4 m (sessions_items (system m.scenario) m.world x m.world.sessions)
      → Prints_items contents v0 v4 g0 g4 m (live_items (system m.scenario) m.world x c l)
  live_printed m x c l v0 v1 v2 v3 v4 g0 g1 g2 g3 g4 there given slots places sessions =
      let version = m.scenario.version in
      let w = m.world in
      let all = system m.scenario in
      let own = subst (λ (o : Option Leaf). IfSome o (λ l. Prints_items contents v1 v2 g1 g2 m (slots_items all w Own 0 l.slots))) there slots in
      let heap = subst (λ (o : Option Leaf). IfSome o (λ l. Prints_items contents v2 v3 g2 g3 m (places_items classes l.peaks))) there places in
      goes_text contents v0 v4 g0 g4 _ _
      (four_items version (item 1 Given c.node.quantum (inputs_behind (inputs_of c l) ++ signals_behind l.signals) ∷ []) (slots_items all w Own 0 l.slots)
      (places_items classes l.peaks)
      (sessions_items all w x w.sessions))
      (goes_both contents v0 v3 v4 g0 g3 g4 _ _ (goes_both contents v0 v2 v3 g0 g2 g3 _ _ (goes_both contents v0 v1 v2 g0 g1 g2 _ _ given own) heap) sessions)
