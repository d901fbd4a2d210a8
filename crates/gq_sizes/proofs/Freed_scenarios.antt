-- A scenario that is accepted, beside one that differs in quantities alone and has none.
use Rattle.std.proofs.Common.{◌≡◌, ℕ, zero, suc, List, [], ◌∷◌, Option, Some, None, refl, ap, sym, ◌∙◌, subst}
use Rattle.std.specs.Prelude.{slice_get, if◌then◌else◌, codes, Bool, true, false}
use Rattle.gq_model.specs.machine.Amounts.{amount}
use Rattle.gq_model.specs.machine.Program.{text_eq}
use Rattle.gq_model.specs.machine.Scenario.{Interface, Interfaces, LeafNode, InitNode, Nodes, End, Leaf_node, Init_node, Scenario, Component, System}
use Rattle.gq_model.specs.machine.Scenario.{components_of, components, interface_in, service_in}
use Rattle.gq_model.specs.rules.Use.{subject}
use Rattle.gq_model.proofs.Small_facts.{none_some, some_same}
use Rattle.gq_sizes.specs.Unsized_equality.{AreAsOne, AllAsOne, ProvideAsOne, SubjectsAsOne, LeavesAsOne, InitsAsOne, NodesAsOne, ComponentsAsOne}
use Rattle.gq_sizes.specs.Unsized_equality.{AllComponents}
use Rattle.gq_program.specs.Interfaces.{unbounded}
use Rattle.gq_scenario.specs.Without_quantities.{without_quanta}
use Rattle.gq_sizes.proofs.Least_sizes_fit.{free, found_again, map_length}
use Rattle.gq_sizes.proofs.Equal_route_targets.{components_so}

-- INTERFACES

as_one_free : (i j : Interface) → AreAsOne i j → AreAsOne i (unbounded j)
as_one_free i j h = record {
  arg = h.arg;
  reply = h.reply;
  object = h.object;
  buffer = h.buffer;
  levels = h.levels ∙ sym (map_length (λ a. amount 0 a.caps) j.upgrades);
}

pub all_free : (is js : Interfaces) → AllAsOne is js → AllAsOne is (free js)
all_free [] [] h = tt
all_free [] (f ∷ js) h = absurd h
all_free (e ∷ is) [] h = absurd h
all_free (e ∷ is) (f ∷ js) h = (h.0, as_one_free e.1 f.1 h.1, all_free is js h.2)

-- what is found of a service in one is found in the other
pub found_both : (service : List ℕ) (is js : Interfaces) → AllAsOne is js → ProvideAsOne (interface_in service is) (interface_in service js)
found_both service [] [] h = tt
found_both service [] (f ∷ js) h = absurd h
found_both service (e ∷ is) [] h = absurd h
found_both service (e ∷ is) (f ∷ js) h =
    subst (λ n. ProvideAsOne (interface_in service (e ∷ is)) (if◌then◌else◌ (text_eq service n) (Some f.1) (interface_in service js))) h.0
    (by (text_eq service e.0) (found_both service is js h.2))
  where
    by : (b : Bool) → ProvideAsOne (interface_in service is) (interface_in service js)
        → ProvideAsOne (if◌then◌else◌ b (Some e.1) (interface_in service is)) (if◌then◌else◌ b (Some f.1) (interface_in service js))
    by true further = h.1
    by false further = further

pub provided_both : (p : Option (List ℕ)) (is js : Interfaces) → AllAsOne is js → ProvideAsOne (service_in p is) (service_in p js)
provided_both None is js h = tt
provided_both (Some service) is js h = found_both service is js h

-- NODES

leaves_free : (m n : LeafNode) → LeavesAsOne m n → LeavesAsOne m (record n { quantum = amount 0 0 })
leaves_free m n h = ap (λ (k : LeafNode). record k { quantum = amount 0 0 }) h

inits_free : (m n : InitNode) → InitsAsOne m n → InitsAsOne m (record n { quantum = amount 0 0 })
inits_free m n h = ap (λ (k : InitNode). record k { quantum = amount 0 0 }) h

pub nodes_free : (ms ns : Nodes) → NodesAsOne ms ns → NodesAsOne ms (without_quanta ns)
nodes_free End End h = tt
nodes_free End (Leaf_node n ns) h = absurd h
nodes_free End (Init_node n cs ns) h = absurd h
nodes_free (Leaf_node m ms) End h = absurd h
nodes_free (Leaf_node m ms) (Init_node n cs ns) h = absurd h
nodes_free (Leaf_node m ms) (Leaf_node n ns) h = (leaves_free m n h.0, nodes_free ms ns h.1)
nodes_free (Init_node m cs ms) End h = absurd h
nodes_free (Init_node m cs ms) (Leaf_node n ns) h = absurd h
nodes_free (Init_node m cs ms) (Init_node n ds ns) h = (inits_free m n h.0, nodes_free cs ds h.1, nodes_free ms ns h.2)

-- COMPONENTS

pub components_both : (s t : Scenario) → s.default_routes ≡ t.default_routes → NodesAsOne s.nodes t.nodes → AllComponents (components s) (components t)
components_both s t routes nodes =
    subst (λ r. AllComponents (components s) (components_of (codes "init") r t.nodes [] t.nodes)) routes
    (components_so (codes "init") s.default_routes s.nodes t.nodes [] [] s.nodes t.nodes nodes tt nodes)

-- each of one has one of the other
pub pair_of : (cs ds : List Component) → AllComponents cs ds → (x : ℕ) (d : Component) → slice_get ds x ≡ Some d
    → (c : Component) × (slice_get cs x ≡ Some c) × ComponentsAsOne c d
pair_of [] [] h x d e = absurd (none_some e)
pair_of [] (b ∷ ds) h x d e = absurd h
pair_of (a ∷ cs) [] h x d e = absurd h
pair_of (a ∷ cs) (b ∷ ds) h zero d e = (a, refl, subst (ComponentsAsOne a) (some_same e) h.0)
pair_of (a ∷ cs) (b ∷ ds) h (suc x) d e = pair_of cs ds h.1 x d e

-- SUBJECTS

pub subjects_both : (all others : System) (c d : Component) → AllAsOne all.interfaces others.interfaces → ComponentsAsOne c d
    → SubjectsAsOne (subject all c) (subject others d)
subjects_both all others c d h o = record {
  program = ap (λ (n : LeafNode). n.program) (sym o.node);
  provided = subst (λ p. ProvideAsOne (service_in c.node.provides all.interfaces) (service_in p others.interfaces))
      (ap (λ (n : LeafNode). n.provides) (sym o.node)) (provided_both c.node.provides all.interfaces others.interfaces h);
  interfaces = h;
  inputs = ap (λ (n : LeafNode). n.inputs) (sym o.node);
  signals = ap (λ (n : LeafNode). n.signals) (sym o.node);
}

pub none_counted : (zs : Interfaces) (p : Option (List ℕ)) (j : Interface) → service_in p (free zs) ≡ Some j → j.counted ≡ []
none_counted zs None j e = absurd (none_some e)
none_counted zs (Some service) j e = let p = found_again zs service j e in ap (λ (k : Interface). k.counted) p.2
