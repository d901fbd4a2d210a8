-- An init hands out no more than it has, in each world that is reached.
use Rattle.std.proofs.Common.{◌≡◌, ◌≢◌, ℕ, zero, suc, ◌+◌, ◌≤◌, ◌<◌, inl, inr, Bool, true, false, cond, nat_le, List, [], ◌∷◌, Option, Some, None, refl, ap}
use Rattle.std.proofs.Common.{sym, ◌∙◌, subst, arith}
use Rattle.std.specs.Prelude.{slice_get}
use Rattle.std.proofs.lemmas.Bool.{leb-true}
use Rattle.std.proofs.lemmas.Bool.Decides.{eqb_tells}
use Rattle.gq_model.specs.declared.phase.Phase.{Phase}
use Rattle.gq_model.specs.declared.phase.Phase.TheVariants.{Pending, Running, Blocked, Serving, Handling, Exited}
use Rattle.gq_model.specs.machine.Amounts.{Resource, Ram, Caps, Amount, part}
use Rattle.gq_model.specs.machine.Program.{text_eq}
use Rattle.gq_model.specs.machine.Scenario.{LeafNode, Nodes, End, Leaf_node, Init_node, Component, components, Scenario, System, system}
use Rattle.gq_model.specs.machine.World.{Leaf, World, first_phase, start_leaves, start}
use Rattle.gq_model.specs.machine.Sums.{handed}
use Rattle.gq_model.specs.machine.Accounts.{leaf_count, handed_to, spent}
use Rattle.gq_model.specs.machine.Lists.{or_first}
use Rattle.gq_model.specs.rules.Resolve.{Unresolved, first_handed, handed_out, exceeded, exceeds, first_exceeding, quanta_fault, leaf_child, sibling}
use Rattle.gq_model.specs.rules.Resolve.{after_fault}
use Rattle.gq_model.specs.machine.Doing.{Doing, standing}
use Rattle.gq_model.specs.machine.Step.{is_named, released, all_released, exited, exit_of}
use Rattle.gq_laws.specs.internal.Init_quanta.{AllFit, Fit}
use Rattle.gq_laws.specs.Resolved_scenarios.{IsResolved}
use Rattle.gq_model.proofs.Small_facts.{some_same, none_some}
use Rattle.gq_laws.proofs.session_links.Written_world_links.{set_here, set_else}
use Rattle.gq_model.proofs.Small_facts.{text_is}
use Rattle.gq_laws.proofs.quota_payment.Leaf_component_positions.{Placed, all_placed, starts_after, not_again}

-- WHAT IS HANDED OUT

module _ (r : Resource) (all : List Component) (w v : World) (less : (x : ℕ) (nodes : Nodes) → Placed all nodes x nodes
    → spent r v x nodes ≤ spent r w x nodes) where
  still_fit : (whole : Nodes) (x : ℕ) (nodes : Nodes) → Placed all whole x nodes → AllFit r w x nodes → AllFit r v x nodes
  still_fit whole x End p h = tt
  still_fit whole x (Leaf_node node rest) p h = still_fit whole (suc x) rest p.1 h
  still_fit whole x (Init_node node children rest) p h = (
    (let le = less x children p.0 in let was = h.0 in omega (arith, le, was)),
    still_fit children x children p.0 h.1,
    still_fit whole (x + leaf_count children) rest p.1 h.2,
  )

pub fit_less : (r : Resource) (s : Scenario) (w v : World)
    → ((x : ℕ) (nodes : Nodes) → Placed (components s) nodes x nodes → spent r v x nodes ≤ spent r w x nodes) → Fit r s w → Fit r s v
fit_less r s w v less h = (
  (let le = less 0 s.nodes (all_placed s) in let was = h.0 in omega (arith, le, was)),
  still_fit r (components s) w v less s.nodes 0 s.nodes (all_placed s) h.1,
)

-- as much is handed to each leaf
pub spent_same : (r : Resource) (w v : World) → ((y q : ℕ) → handed_to (slice_get v.leaves y) q ≡ handed_to (slice_get w.leaves y) q) → (x : ℕ) (nodes : Nodes)
    → spent r v x nodes ≡ spent r w x nodes
spent_same r w v same x End = refl
spent_same r w v same x (Leaf_node node rest) = (λ i. same x (part r node.quantum) i + spent_same r w v same (suc x) rest i)
spent_same r w v same x (Init_node node children rest) = ap (λ n. part r node.quantum + n) (spent_same r w v same (x + leaf_count children) rest)

-- EXIT

-- the quanta of the leaves among these nodes that have the name, and of those that start after it
abbrev of_name : Resource → List ℕ → Nodes → ℕ
of_name r name End = 0
of_name r name (Leaf_node node rest) = cond (text_eq name node.name) (part r node.quantum) 0 + of_name r name rest
of_name r name (Init_node node children rest) = of_name r name rest

abbrev of_after : Resource → List ℕ → Nodes → ℕ
of_after r name End = 0
of_after r name (Leaf_node node rest) = cond (is_named name node.after) (part r node.quantum) 0 + of_after r name rest
of_after r name (Init_node node children rest) = of_after r name rest

-- the leaf of that name is counted
child_counts : (r : Resource) (name : List ℕ) (nodes : Nodes) (b : LeafNode) → leaf_child name nodes ≡ Some b → part r b.quantum ≤ of_name r name nodes
child_counts r name End b e = absurd (none_some e)
child_counts r name (Leaf_node node rest) b e = by (text_eq name node.name) e (λ f. child_counts r name rest b f)
  where
    by : (t : Bool) → cond t (Some node) (leaf_child name rest) ≡ Some b → (leaf_child name rest ≡ Some b → part r b.quantum ≤ of_name r name rest)
        → part r b.quantum ≤ cond t (part r node.quantum) 0 + of_name r name rest
    by true f further = let same = ap (λ (n : LeafNode). part r n.quantum) (some_same f) in omega (arith, same)
    by false f further = let h = further f in omega (arith, h)
child_counts r name (Init_node node children rest) b e = child_counts r name rest b e

-- a name that a leaf has given for who is before it
name_given : (name : List ℕ) (after : Option (List ℕ)) → is_named name after ≡ true → after ≡ Some name
name_given name None e = absurd cc
name_given name (Some other) e = ap Some (sym (text_is name other e))

within_part : (r : Resource) (a b : Amount) → a.ram ≤ b.ram → a.caps ≤ b.caps → part r a ≤ part r b
within_part Ram a b h k = h
within_part Caps a b h k = k

module _ (r : Resource) (s : Scenario) (resolved : after_fault (components s) [] (components s) ≡ None) (name : List ℕ) where
  abbrev all : List Component
  all = components s

  -- the leaf that starts after the name is no greater than the leaf of that name
  after_fits : (whole : Nodes) (x : ℕ) (node : LeafNode) (c : Component) → slice_get all x ≡ Some c → c.node ≡ node
      → ((n : List ℕ) → sibling n c.levels ≡ leaf_child n whole) → is_named name node.after ≡ true → part r node.quantum ≤ of_name r name whole
  after_fits whole x node c at same levels is =
      let after = ap (λ (n : LeafNode). n.after) same ∙ name_given name node.after is in
      let b = (starts_after all [] all resolved x c name at after).0 in
      let counts = child_counts r name whole b.before (sym (levels name) ∙ b.there) in
      let le = within_part r c.node.quantum b.before.quantum b.ram b.caps in
      let quantum = ap (λ (n : LeafNode). part r n.quantum) same in
      omega (arith, counts, le, quantum)

  -- no leaf after the x-th starts after the name, where an earlier one does
  none_after : (whole : Nodes) (i : ℕ) (c : Component) → slice_get all i ≡ Some c → c.node.after ≡ Some name → (x : ℕ) (nodes : Nodes) → i < x
      → Placed all whole x nodes → of_after r name nodes ≡ 0
  none_after whole i c at after x End less p = refl
  none_after whole i c at after x (Leaf_node node rest) less p =
      by (is_named name node.after) refl (none_after whole i c at after (suc x) rest (omega (arith, less)) p.1)
    where
      by : (t : Bool) → is_named name node.after ≡ t → of_after r name rest ≡ 0 → cond t (part r node.quantum) 0 + of_after r name rest ≡ 0
      by true is further = absurd (not_again all [] all resolved i x c p.0.0 name at p.0.1 after (ap (λ (n : LeafNode). n.after) p.0.2
          ∙ name_given name node.after is) less)
      by false is further = omega (arith, further)
  none_after whole i c at after x (Init_node node children rest) less p = none_after whole i c at after (x + leaf_count children) rest (omega (arith, less)) p.1

  -- at most one starts after it
  after_within : (whole : Nodes) (x : ℕ) (nodes : Nodes) → Placed all whole x nodes → of_after r name nodes ≤ of_name r name whole
  after_within whole x End p = omega arith
  after_within whole x (Leaf_node node rest) p = by (is_named name node.after) refl (after_within whole (suc x) rest p.1)
    where
      by : (t : Bool) → is_named name node.after ≡ t → of_after r name rest ≤ of_name r name whole
          → cond t (part r node.quantum) 0 + of_after r name rest ≤ of_name r name whole
      by true is further =
          let none = none_after whole x p.0.0 p.0.1 (ap (λ (n : LeafNode). n.after) p.0.2 ∙ name_given name node.after is) (suc x) rest (omega arith) p.1 in
          let fits = after_fits whole x node p.0.0 p.0.1 p.0.2 p.0.3 is in
          omega (arith, none, fits)
      by false is further = omega (arith, further)
  after_within whole x (Init_node node children rest) p = after_within whole (x + leaf_count children) rest p.1

  -- leaves of that name were handed their quantum and are not any more; others are handed more only where they start after it
  module _ (w v : World) (each : (y : ℕ) (c : Component) → slice_get all y ≡ Some c → (q : ℕ)
      → handed_to (slice_get v.leaves y) q + cond (text_eq name c.node.name) q 0
      ≤ handed_to (slice_get w.leaves y) q + cond (is_named name c.node.after) q 0) where
    credit : (whole : Nodes) (x : ℕ) (nodes : Nodes) → Placed all whole x nodes
        → spent r v x nodes + of_name r name nodes ≤ spent r w x nodes + of_after r name nodes
    credit whole x End p = omega arith
    credit whole x (Leaf_node node rest) p =
        let here = subst (λ (n : LeafNode). handed_to (slice_get v.leaves x) (part r node.quantum) + cond (text_eq name n.name) (part r node.quantum) 0
        ≤ handed_to (slice_get w.leaves x) (part r node.quantum) + cond (is_named name n.after) (part r node.quantum) 0) p.0.2
        (each x p.0.0 p.0.1 (part r node.quantum)) in
        let further = credit whole (suc x) rest p.1 in
        omega (arith, here, further)
    credit whole x (Init_node node children rest) p = let further = credit whole (x + leaf_count children) rest p.1 in omega (arith, further)

    pub exit_spends : (x : ℕ) (nodes : Nodes) → Placed all nodes x nodes → spent r v x nodes ≤ spent r w x nodes
    exit_spends x nodes p = let a = credit nodes x nodes p in let b = after_within nodes x nodes p in omega (arith, a, b)

-- what is handed once the leaf of that name has exited
released_by : (b : Bool) (q : ℕ) → handed (cond b Running Pending) q ≤ 0 + cond b q 0
released_by true q = omega arith
released_by false q = omega arith

released_handed : (name : List ℕ) (after : Option (List ℕ)) (phase : Phase) (q : ℕ)
    → handed (released name after phase) q ≤ handed phase q + cond (is_named name after) q 0
released_handed name after Pending q = released_by (is_named name after) q
released_handed name after Running q = omega arith
released_handed name after Blocked q = omega arith
released_handed name after Serving q = omega arith
released_handed name after Handling q = omega arith
released_handed name after Exited q = omega arith

all_released_handed : (name : List ℕ) (cs : List Component) (leaves : List Leaf) (y : ℕ) (c : Component) (q : ℕ) → slice_get cs y ≡ Some c
    → handed_to (slice_get (all_released name cs leaves) y) q ≤ handed_to (slice_get leaves y) q + cond (is_named name c.node.after) q 0
all_released_handed name [] leaves y c q e = absurd (none_some e)
all_released_handed name (d ∷ cs) [] y c q e = omega arith
all_released_handed name (d ∷ cs) (leaf ∷ leaves) zero c q e =
    subst (λ (c : Component). handed (released name d.node.after leaf.phase) q ≤ handed leaf.phase q + cond (is_named name c.node.after) q 0) (some_same e)
    (released_handed name d.node.after leaf.phase q)
all_released_handed name (d ∷ cs) (leaf ∷ leaves) (suc y) c q e = all_released_handed name cs leaves y c q e

-- an exited leaf is released to nothing
released_exited : (name : List ℕ) (cs : List Component) (leaves : List Leaf) (y : ℕ) (leaf : Leaf) (q : ℕ) → slice_get leaves y ≡ Some leaf
    → leaf.phase ≡ Exited → handed_to (slice_get (all_released name cs leaves) y) q ≡ 0
released_exited name [] leaves y leaf q e gone = (λ i. handed_to (e i) q) ∙ ap (λ p. handed p q) gone
released_exited name (c ∷ cs) [] y leaf q e gone = refl
released_exited name (c ∷ cs) (l ∷ leaves) zero leaf q e gone =
    ap (λ p. handed (released name c.node.after p) q) (ap (λ (l : Leaf). l.phase) (some_same e) ∙ gone)
released_exited name (c ∷ cs) (l ∷ leaves) (suc y) leaf q e gone = released_exited name cs leaves y leaf q e gone

pub exit_fits : (r : Resource) (s : Scenario) → IsResolved s → after_fault (components s) [] (components s) ≡ None → (d : Doing) (old : Leaf)
    → d.system ≡ system s → slice_get d.world.leaves d.x ≡ Some old → ((q : ℕ) → handed old.phase q ≡ q) → slice_get (components s) d.x ≡ Some d.component
    → Fit r s d.world → Fit r s (exit_of d)
exit_fits r s resolved fits d old of there lives component h =
    fit_less r s d.world (exit_of d) (exit_spends r s fits d.component.node.name d.world (exit_of d) each) h
  where
    left : World
    left = standing d (exited d.leaf)

    each : (y : ℕ) (c : Component) → slice_get (components s) y ≡ Some c → (q : ℕ)
        → handed_to (slice_get (exit_of d).leaves y) q + cond (text_eq d.component.node.name c.node.name) q 0
        ≤ handed_to (slice_get d.world.leaves y) q + cond (is_named d.component.node.name c.node.after) q 0
    each y c at q = elim (eqb_tells y d.x) [ inl e ↦ here e.1 | inr e ↦ there_else e.1 (text_eq d.component.node.name c.node.name) refl ]
      where
        most : (b : Bool) → cond b q 0 ≤ q
        most true = omega arith
        most false = omega arith

        here : y ≡ d.x → handed_to (slice_get (exit_of d).leaves y) q + cond (text_eq d.component.node.name c.node.name) q 0
            ≤ handed_to (slice_get d.world.leaves y) q + cond (is_named d.component.node.name c.node.after) q 0
        here same =
            let none = released_exited d.component.node.name d.system.components (standing d (exited d.leaf)).leaves y (exited d.leaf) q
            (ap (slice_get (standing d (exited d.leaf)).leaves) same ∙ set_here d.world.leaves d.x (exited d.leaf) old there) refl in
            let own : handed_to (slice_get d.world.leaves y) q ≡ q = ap (λ o. handed_to o q) (ap (slice_get d.world.leaves) same ∙ there) ∙ lives q in
            let le = most (text_eq d.component.node.name c.node.name) in
            omega (arith, none, own, le)

        there_else : y ≢ d.x → (b : Bool) → text_eq d.component.node.name c.node.name ≡ b
            → handed_to (slice_get (exit_of d).leaves y) q + cond b q 0
            ≤ handed_to (slice_get d.world.leaves y) q + cond (is_named d.component.node.name c.node.after) q 0
        there_else ne true same = absurd (ne (resolved.differ y d.x c d.component at component (sym (text_is d.component.node.name c.node.name same))))
        there_else ne false same =
            let most_now = all_released_handed d.component.node.name d.system.components (standing d (exited d.leaf)).leaves y c q
            (ap (λ (a : System). slice_get a.components y) of ∙ at) in
            let was : handed_to (slice_get (standing d (exited d.leaf)).leaves y) q ≡ handed_to (slice_get d.world.leaves y) q =
            ap (λ o. handed_to o q) (set_else d.world.leaves d.x y (exited d.leaf) ne) in
            omega (arith, most_now, was)

-- THE START

start_handed : (cs : List Component) (x : ℕ) (c : Component) (q : ℕ) → slice_get cs x ≡ Some c
    → handed_to (slice_get (start_leaves cs) x) q ≡ first_handed c.node.after q
start_handed [] x c q e = absurd (none_some e)
start_handed (b ∷ cs) zero c q e = by b.node.after ∙ ap (λ (c : Component). first_handed c.node.after q) (some_same e)
  where
    by : (after : Option (List ℕ)) → handed (first_phase after) q ≡ first_handed after q
    by None = refl
    by (Some name) = refl
start_handed (b ∷ cs) (suc x) c q e = start_handed cs x c q e

module _ (r : Resource) (s : Scenario) where
  start_spent : (whole : Nodes) (x : ℕ) (nodes : Nodes) → Placed (components s) whole x nodes → spent r (start (system s)) x nodes ≡ handed_out r nodes
  start_spent whole x End p = refl
  start_spent whole x (Leaf_node node rest) p =
      (λ i. (start_handed (components s) x p.0.0 (part r node.quantum) p.0.1
      ∙ ap (λ (n : LeafNode). first_handed n.after (part r node.quantum)) p.0.2) i + start_spent whole (suc x) rest p.1 i)
  start_spent whole x (Init_node node children rest) p = ap (λ n. part r node.quantum + n) (start_spent whole (x + leaf_count children) rest p.1)

  or_none : (a b : Option Unresolved) → or_first a b ≡ None → (a ≡ None) × (b ≡ None)
  or_none None b e = (refl, e)
  or_none (Some u) b e = absurd cc

  not_exceeded : (name : List ℕ) (quantum : Amount) (nodes : Nodes) → exceeds r name quantum nodes ≡ None → handed_out r nodes ≤ part r quantum
  not_exceeded name quantum nodes e = by (nat_le (handed_out r nodes) (part r quantum)) refl e
    where
      by : (b : Bool) → nat_le (handed_out r nodes) (part r quantum) ≡ b → cond b None (Some (exceeded r name)) ≡ None → handed_out r nodes ≤ part r quantum
      by true f e = leb-true (handed_out r nodes) (part r quantum) f
      by false f e = absurd cc

  start_all_fit : (whole : Nodes) (x : ℕ) (nodes : Nodes) → Placed (components s) whole x nodes → first_exceeding r nodes ≡ None
      → AllFit r (start (system s)) x nodes
  start_all_fit whole x End p e = tt
  start_all_fit whole x (Leaf_node node rest) p e = start_all_fit whole (suc x) rest p.1 e
  start_all_fit whole x (Init_node node children rest) p e =
      let one = or_none (exceeds r node.name node.quantum children) (or_first (first_exceeding r children) (first_exceeding r rest)) e in
      let two = or_none (first_exceeding r children) (first_exceeding r rest) one.1 in
      let le = not_exceeded node.name node.quantum children one.0 in
      let same = start_spent children x children p.0 in
      (omega (arith, le, same), start_all_fit children x children p.0 two.0, start_all_fit whole (x + leaf_count children) rest p.1 two.1)

  pub start_fit : quanta_fault r s ≡ None → Fit r s (start (system s))
  start_fit e =
      let one = or_none _ (first_exceeding r s.nodes) e in
      let le = not_exceeded _ s.total s.nodes one.0 in
      let same = start_spent s.nodes 0 s.nodes (all_placed s) in
      (omega (arith, le, same), start_all_fit s.nodes 0 s.nodes (all_placed s) one.1)
