-- Leaves of a scenario that was loaded have names.
use Rattle.std.proofs.Common.{◌≡◌, ℕ, zero, suc, Bool, true, false, true≢false, cond, List, [], ◌∷◌, map, Option, Some, None, Ok}
use Rattle.std.proofs.Common.{is_some, refl, sym, subst}
use Rattle.std.specs.Prelude.{Result, Err, codes, slice_get}
use Rattle.toml.specs.Data.{Data, Members, get_member}
use Rattle.gq_model.proofs.Small_facts.{none_some, or_first_none, some_none, some_same}
use Rattle.gq_model.specs.machine.Lists.{or_first}
use Rattle.gq_model.specs.machine.Scenario.{Component, Nodes, End, Leaf_node, Init_node, Scenario, components}
use Rattle.gq_model.specs.texts.Letters.{is_name}
use Rattle.gq_scenario.specs.Document.{described, document_fault, first_of, init_of, interfaces_fault, is_init, keys_of, leaf_of, list_at, name_at}
use Rattle.gq_scenario.specs.Document.{node_fault, node_onto, nodes_by, or_empty, routes_fault, table_of, value_of, walk_fault}
use Rattle.gq_scenario.specs.Table_keys.{DocumentFault, is_name_text, members_of, passes, table_fault, text_of}
use Rattle.gq_scenario.specs.Document_tables.{init_keys, leaf_keys, top_keys, version_of}
use Rattle.gq_scenario.specs.Top_table.{ReadFault, Bad_document, described_or, document_in, read_from}
use Rattle.gq_scenario.specs.Sizes.{leaves_in}
use Rattle.gq_scenario.proofs.Preorder_leaves.{components-leaves_in}
use Rattle.gq_reader.proofs.Table_rules_kept.{fits_or_none, kept, one_there}
use Rattle.gq_laws.specs.Shapes.{Each}
use Rattle.gq_load.specs.Load.{LoadRefusal, Unread, loaded, loaded_from, loaded_or, scenario_fault}
use Rattle.gq_load.proofs.Sound_programs.{each_append}
use Rattle.gq_load.proofs.Sound_texts.{not_ok, same_scenario}

-- NODES

abbrev pub AreNodes : Nodes → Type 0
AreNodes End = Unit {0}
AreNodes (Leaf_node node rest) = (is_name node.name ≡ true) × AreNodes rest
AreNodes (Init_node node children rest) = (is_name node.name ≡ true) × AreNodes children × AreNodes rest

-- DOCUMENTS

passed_name : (o : Option (List ℕ)) → passes is_name o ≡ true → is_name (or_empty o) ≡ true
passed_name None h = absurd (true≢false (sym h))
passed_name (Some name) h = h

text_named : (o : Option Data) → is_some o ≡ true → fits_or_none is_name_text o ≡ true → is_name (or_empty (value_of text_of o)) ≡ true
text_named None there h = absurd (true≢false (sym there))
text_named (Some d) there h = passed_name (text_of d) h

leaf_named : (version : ℕ) (services : List (List ℕ)) (entries : Members) → table_fault (leaf_keys version services) entries ≡ None
    → is_name (name_at entries) ≡ true
leaf_named version services entries e =
    let name = (kept (leaf_keys version services) entries e).1.0 in
    text_named (get_member (codes "name") entries) (one_there (is_some (get_member (codes "name") entries)) name.there) name.fits

init_named : (version : ℕ) (entries : Members) → table_fault (init_keys version) entries ≡ None → is_name (name_at entries) ≡ true
init_named version entries e =
    let name = (kept (init_keys version) entries e).1.0 in
    text_named (get_member (codes "name") entries) (one_there (is_some (get_member (codes "name") entries)) name.there) name.fits

module _ (version : ℕ) (services : List (List ℕ)) where
  each_named : (fault : Members → Option DocumentFault) (f : Members → Nodes → Nodes)
      → ((entries : Members) (rest : Nodes) → fault entries ≡ None → AreNodes rest → AreNodes (f entries rest))
      → (items : List Data) → first_of fault items ≡ None → AreNodes (nodes_by f items)
  each_named fault f h [] e = tt
  each_named fault f h (d ∷ rest) e =
      let p = or_first_none (fault (members_of d)) (first_of fault rest) e in h (members_of d) (nodes_by f rest) p.0 (each_named fault f h rest p.1)

  node_named : (n : ℕ) (entries : Members) (rest : Nodes) → node_fault n version services entries ≡ None → AreNodes rest → AreNodes (node_onto n entries rest)
  node_named zero entries rest e h = absurd (some_none e)
  node_named (suc n) entries rest e h =
      by (is_init entries) e (each_named (node_fault n version services) (node_onto n) (λ m r f g. node_named n m r f g) (list_at (codes "start") entries))
    where
      inside : Option DocumentFault
      inside = first_of (node_fault n version services) (list_at (codes "start") entries)

      later : Option DocumentFault
      later = or_first (routes_fault (codes "route") entries) (or_first (routes_fault (codes "default-route") entries) inside)

      children : Nodes
      children = nodes_by (node_onto n) (list_at (codes "start") entries)

      by : (b : Bool) → or_first (table_fault (cond b (init_keys version) (leaf_keys version services)) entries) later ≡ None
          → (inside ≡ None → AreNodes children) → AreNodes (cond b (Init_node (init_of entries) children rest) (Leaf_node (leaf_of entries) rest))
      by true f named =
          let p = or_first_none (table_fault (init_keys version) entries) later f in
          let q = or_first_none (routes_fault (codes "route") entries) _ p.1 in
          let r = or_first_none (routes_fault (codes "default-route") entries) inside q.1 in
          (init_named version entries p.0, named r.1, h)
      by false f named = let p = or_first_none (table_fault (leaf_keys version services) entries) later f in (leaf_named version services entries p.0, h)

-- A SCENARIO

described_named : (top : Members) → document_fault top ≡ None → AreNodes (described top).nodes
described_named top e =
    let version = version_of top in
    let interfaces = table_of (get_member (codes "interface") top) in
    let a = or_first_none (walk_fault top) _ e in
    let w = or_first_none (table_fault (top_keys version) top) _ a.0 in
    let i = or_first_none (interfaces_fault version interfaces) _ w.1 in
    let r = or_first_none (routes_fault (codes "default-route") top) _ i.1 in
    each_named version (keys_of interfaces) (node_fault 4 version (keys_of interfaces)) (node_onto 4)
    (λ entries rest f g. node_named version (keys_of interfaces) 4 entries rest f g) (list_at (codes "start") top) r.1

loaded_named : (text : List ℕ) (s : Scenario) → loaded text ≡ Ok s → AreNodes s.nodes
loaded_named text s e = from (document_in text) e
  where
    last : (top : Members) → document_fault top ≡ None → (o : Option LoadRefusal) → loaded_or (described top) o ≡ Ok s → AreNodes s.nodes
    last top whole None f = subst (λ (s : Scenario). AreNodes s.nodes) (same_scenario (described top) s f) (described_named top whole)
    last top whole (Some fault) f = absurd (not_ok fault s f)

    found : (top : Members) (o : Option DocumentFault) → document_fault top ≡ o → loaded_from (described_or top o) ≡ Ok s → AreNodes s.nodes
    found top None whole f = last top whole (scenario_fault (described top)) f
    found top (Some fault) whole f = absurd (not_ok (Unread (Bad_document fault)) s f)

    from : (r : Result Members ReadFault) → loaded_from (read_from document_fault r) ≡ Ok s → AreNodes s.nodes
    from (Ok top) f = found top (document_fault top) refl f
    from (Err why) f = absurd (not_ok (Unread why) s f)

-- LEAVES

leaves_named : (nodes : Nodes) → AreNodes nodes → Each (λ n. is_name n.name ≡ true) (leaves_in nodes)
leaves_named End h = tt
leaves_named (Leaf_node node rest) h = (h.0, leaves_named rest h.1)
leaves_named (Init_node node children rest) h =
    each_append (λ n. is_name n.name ≡ true) (leaves_in children) (leaves_in rest) (leaves_named children h.1) (leaves_named rest h.2)

leaf_there : (cs : List Component) → Each (λ n. is_name n.name ≡ true) (map (λ (c : Component). c.node) cs) → (x : ℕ) (c : Component)
    → slice_get cs x ≡ Some c → is_name c.node.name ≡ true
leaf_there [] h x c e = absurd (none_some e)
leaf_there (d ∷ cs) h zero c e = subst (λ (c : Component). is_name c.node.name ≡ true) (some_same e) h.0
leaf_there (d ∷ cs) h (suc x) c e = leaf_there cs h.1 x c e

-- each leaf of a scenario that is loaded has a name
pub leaves_have_names : (text : List ℕ) (s : Scenario) → loaded text ≡ Ok s → (x : ℕ) (c : Component) → slice_get (components s) x ≡ Some c
    → is_name c.node.name ≡ true
leaves_have_names text s e =
    leaf_there (components s) (subst (Each (λ n. is_name n.name ≡ true)) (sym (components-leaves_in s)) (leaves_named s.nodes (loaded_named text s e)))
