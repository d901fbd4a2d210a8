-- Of a scenario that is accepted: no node is given less than the least quantities, also where leaves start after others.
use Rattle.std.proofs.Common.{◌≡◌, ℕ, zero, suc, ◌+◌, ◌≤◌, Bool, true, false, List, [], ◌∷◌, length, Option, Some, None, refl, ap, sym, ◌∙◌, subst, arith}
use Rattle.std.proofs.Common.{nat_le}
use Rattle.std.specs.Prelude.{slice_get, if◌then◌else◌}
use Rattle.std.proofs.lemmas.Bool.{leb-true}
use Rattle.gq_model.specs.machine.Accounts.{leaf_count}
use Rattle.gq_model.specs.machine.Amounts.{Resource, Ram, Caps, Amount, part}
use Rattle.gq_model.specs.machine.Lists.{or_first}
use Rattle.gq_model.specs.machine.Program.{text_eq}
use Rattle.gq_model.specs.declared.section.Section.TheVariants.{Main}
use Rattle.gq_model.specs.machine.Scenario.{Component, LeafNode, Nodes, End, Leaf_node, Init_node, Level, Scenario, System, system}
use Rattle.gq_model.specs.rules.Resolve.{first_handed, handed_out, exceeded, exceeds, first_exceeding, leaf_child, sibling}
use Rattle.gq_model.specs.rules.Use.{subject}
use Rattle.gq_model.specs.rules.Budgets.{own}
use Rattle.gq_model.specs.Promises.{budget_of}
use Rattle.gq_model.proofs.Small_facts.{none_some, some_same, or_first_none, text_is}
use Rattle.gq_laws.specs.Sound_scenarios.{IsSound}
use Rattle.gq_laws.specs.Shapes as shapes
use Rattle.gq_laws.proofs.quota_payment.Leaf_component_positions.{Placed, starts_after}
use Rattle.gq_laws.proofs.quota_payment.Routed_server_provides.{Among, Holds, holds_at, IsKnown, all_known}
use Rattle.gq_laws.proofs.progress.Lasting_world_invariant.{afters_fit}
use Rattle.gq_laws.proofs.verified_programs.Own_costs.{own_pays, own_is}
use Rattle.gq_laws.proofs.step_shapes.Whole_worlds.{each_get}
use Rattle.std.proofs.Common.{inl, inr, cond}
use Rattle.gq_sizes.specs.Unsized_equality.{ComponentsAsOne, AllComponents, ScenariosAsOne}
use Rattle.gq_sizes.specs.Size.{is_named, own_by, least_caps, quantum_of, leaf_least, least_at, unless_after, children_least}
use Rattle.gq_sizes.specs.Size as size
use Rattle.gq_scenario.specs.Without_quantities.{unsized}
use Rattle.gq_sizes.proofs.Costs_without_quantities.{own_least}
use Rattle.gq_sizes.proofs.Freed_scenarios.{pair_of}
use Rattle.gq_sizes.proofs.Session_needs_bounded.{Counts, counts_of, both, caps_within, points_so}

-- NAMES

child_among : (name : List ℕ) (nodes : Nodes) (n : LeafNode) → leaf_child name nodes ≡ Some n → Among n nodes × (n.name ≡ name)
child_among name End n e = absurd (none_some e)
child_among name (Leaf_node node rest) n e = by (text_eq name node.name) refl e (child_among name rest n)
  where
    by : (b : Bool) → text_eq name node.name ≡ b → cond b (Some node) (leaf_child name rest) ≡ Some n
        → (leaf_child name rest ≡ Some n → Among n rest × (n.name ≡ name)) → Among n (Leaf_node node rest) × (n.name ≡ name)
    by true f g further = (inl (some_same g), sym (text_is name node.name f ∙ ap (λ (n : LeafNode). n.name) (some_same g)))
    by false f g further = let r = further g in (inr r.0, r.1)
child_among name (Init_node node children rest) n e = let r = child_among name rest n e in (inr r.0, r.1)

pub sibling_held : (all : List Component) (name : List ℕ) (levels : List Level) (n : LeafNode) → shapes.Each (IsKnown all) levels → sibling name levels ≡ Some n
    → Holds n all × (n.name ≡ name)
sibling_held all name [] n known e = absurd (none_some e)
sibling_held all name (l ∷ above) n known e = let a = child_among name l.siblings n e in (known.0 n a.0, a.1)

-- who starts after a name is a component that says so
pub after_there : (name : List ℕ) (cs : List Component) (e : Component) → size.starts_after name cs ≡ Some e
    → (y : ℕ) × (slice_get cs y ≡ Some e) × (e.node.after ≡ Some name)
after_there name [] e h = absurd (none_some h)
after_there name (c ∷ cs) e h = by (is_named name c.node.after) refl h (after_there name cs e)
  where
    name_given : (after : Option (List ℕ)) → is_named name after ≡ true → after ≡ Some name
    name_given None f = absurd cc
    name_given (Some other) f = ap Some (sym (text_is name other f))

    by : (b : Bool) → is_named name c.node.after ≡ b → (if◌then◌else◌ b (Some c) (size.starts_after name cs)) ≡ Some e
        → (size.starts_after name cs ≡ Some e → (y : ℕ) × (slice_get cs y ≡ Some e) × (e.node.after ≡ Some name))
        → (y : ℕ) × (slice_get (c ∷ cs) y ≡ Some e) × (e.node.after ≡ Some name)
    by true f g further = (0, g, ap (λ (c : Component). c.node.after) (sym (some_same g)) ∙ name_given c.node.after f)
    by false f g further = let r = further g in (suc r.0, r.1, r.2)

part_within : (r : Resource) (a b : Amount) → a.ram ≤ b.ram → a.caps ≤ b.caps → part r a ≤ part r b
part_within Ram a b h k = h
part_within Caps a b h k = k

pub pair_on : (cs ds : List Component) → AllComponents cs ds → (x : ℕ) (c : Component) → slice_get cs x ≡ Some c
    → (d : Component) × (slice_get ds x ≡ Some d) × ComponentsAsOne c d
pair_on [] [] h x c e = absurd (none_some e)
pair_on [] (b ∷ ds) h x c e = absurd h
pair_on (a ∷ cs) [] h x c e = absurd h
pair_on (a ∷ cs) (b ∷ ds) h zero c e = (b, refl, subst (λ c. ComponentsAsOne c b) (some_same e) h.0)
pair_on (a ∷ cs) (b ∷ ds) h (suc x) c e = pair_on cs ds h.1 x c e

module _ (t s : Scenario) (sound : IsSound t) (alike : ScenariosAsOne t s) where
  abbrev mine : System
  mine = system t

  abbrev all : System
  all = system (unsized s)

  pairs : AllComponents mine.components all.components
  pairs = both t s sound alike

  module _ (r : Resource) (counts : Counts t.version r) where
    own_small : (x : ℕ) (c d : Component) → slice_get mine.components x ≡ Some c → ComponentsAsOne c d
        → own_by (least_caps all) r (subject all d) ≤ part r c.node.quantum
    own_small x c d at o =
        let least = own_least (subject mine c) (subject all d) (least_caps all) r (caps_within t s sound alike r counts) (points_so t s sound alike x c d at o
        Main) in
        let reported = counts_of t.version r (λ r. part r (budget_of t x c).own ≡ own r (subject mine c)) counts (own_is t x c) in
        let pays = own_pays t x c at sound.accepted r in
        omega (arith, least, reported, pays)

    -- a leaf has what it needs, and what those need that start after it
    leaf_small : (n x : ℕ) (c d : Component) → slice_get mine.components x ≡ Some c → ComponentsAsOne c d → leaf_least n r all d ≤ part r c.node.quantum
    leaf_small zero x c d at o = own_small x c d at o
    leaf_small (suc n) x c d at o =
        let here = own_small x c d at o in
        let later = by (size.starts_after d.node.name all.components) refl (leaf_small n) in
        grind (arith, here, later)
      where
        same_name : d.node.name ≡ c.node.name
        same_name = ap (λ (n : LeafNode). n.name) o.node

        by : (q : Option Component) → size.starts_after d.node.name all.components ≡ q
            → ((x : ℕ) (c d : Component) → slice_get mine.components x ≡ Some c → ComponentsAsOne c d → leaf_least n r all d ≤ part r c.node.quantum)
            → quantum_of (leaf_least n r all) q ≤ part r c.node.quantum
        by None f less = omega arith
        by (Some e) f less =
            let y = after_there d.node.name all.components e f in
            let p = pair_of mine.components all.components pairs y.0 e y.1 in
            let small = less y.0 p.0 e p.1 p.2 in
            let after : p.0.node.after ≡ Some c.node.name = ap (λ (n : LeafNode). n.after) (sym p.2.node) ∙ y.2 ∙ ap Some same_name in
            let fits = (starts_after mine.components [] mine.components (afters_fit t sound) y.0 p.0 c.node.name p.1 after).0 in
            let held = sibling_held mine.components c.node.name p.0.levels fits.before (each_get _ mine.components y.0 p.0 (all_known t) p.1) fits.there in
            let stands = holds_at fits.before mine.components held.0 in
            let same_place = sound.formed.differ stands.0 x stands.1 c stands.2 at (ap (λ (n : LeafNode). n.name) stands.3 ∙ held.1) in
            let one : stands.1 ≡ c = some_same (sym stands.2 ∙ ap (slice_get mine.components) same_place ∙ at) in
            let before : fits.before ≡ c.node = sym stands.3 ∙ ap (λ (c : Component). c.node) one in
            let le = part_within r p.0.node.quantum fits.before.quantum fits.ram fits.caps in
            let same = ap (λ (n : LeafNode). part r n.quantum) before in
            omega (arith, small, le, same)

    pub place_small : (x : ℕ) (c : Component) → slice_get mine.components x ≡ Some c → least_at r all x ≤ part r c.node.quantum
    place_small x c at =
        let p = pair_on mine.components all.components pairs x c at in
        let small = leaf_small (length all.components) x c p.0 at p.2 in
        let e : least_at r all x ≡ leaf_least (length all.components) r all p.0 = ap (quantum_of (leaf_least (length all.components) r all)) p.1 in
        omega (arith, small, e)

    pub hands : (name : List ℕ) (quantum : Amount) (children : Nodes) → exceeds r name quantum children ≡ None → handed_out r children ≤ part r quantum
    hands name quantum children e = by (nat_le (handed_out r children) (part r quantum)) refl e
      where
        by : (b : Bool) → nat_le (handed_out r children) (part r quantum) ≡ b → (if◌then◌else◌ b None (Some (exceeded r name))) ≡ None
            → handed_out r children ≤ part r quantum
        by true f g = leb-true (handed_out r children) (part r quantum) f
        by false f g = absurd (none_some (sym g))

    first_small : (after : Option (List ℕ)) (n m : ℕ) → n ≤ m → unless_after after n ≤ first_handed after m
    first_small None n m h = h
    first_small (Some name) n m h = omega arith

    pub children_small : (whole : Nodes) (x : ℕ) (ns : Nodes) → Placed mine.components whole x ns → first_exceeding r ns ≡ None
        → children_least r all x ns ≤ handed_out r ns
    children_small whole x End p e = omega arith
    children_small whole x (Leaf_node node rest) p e =
        let rest_small = children_small whole (suc x) rest p.1 e in
        let small = place_small x p.0.0 p.0.1 in
        let same = ap (λ (n : LeafNode). part r n.quantum) p.0.2 in
        let here = first_small node.after (least_at r all x) (part r node.quantum) (omega (arith, small, same)) in
        omega (arith, rest_small, here)
    children_small whole x (Init_node node children rest) p e =
        let a = or_first_none (exceeds r node.name node.quantum children) (or_first (first_exceeding r children) (first_exceeding r rest)) e in
        let b = or_first_none (first_exceeding r children) (first_exceeding r rest) a.1 in
        let inner = children_small children x children p.0 b.0 in
        let outer = children_small whole (x + leaf_count children) rest p.1 b.1 in
        let own = hands node.name node.quantum children a.0 in
        omega (arith, inner, outer, own)
