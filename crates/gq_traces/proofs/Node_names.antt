-- Nodes of a scenario that was read have printed names, and so have its services.
use Rattle.std.proofs.Common.{◌≡◌, ℕ, zero, suc, ◌+◌, ◌≤◌, ◌||◌, Bool, true, false, true≢false, cond, List, [], ◌∷◌, ◌++◌, length, map, Option, Some, None, Ok}
use Rattle.std.proofs.Common.{is_some, refl, sym, subst, arith}
use Rattle.std.specs.Prelude.{Result, Err, codes, nat_lt, slice_get}
use Rattle.std.proofs.lemmas.Bool.Decides.{nat_tests}
use Rattle.std.proofs.lemmas.Bool.{and_parts}
use Rattle.toml.specs.Data.{Data, Members, no_members, member, get_member}
use Rattle.gq_model.proofs.Small_facts.{none_some, or_first_none, some_none, some_same, text_is}
use Rattle.gq_model.specs.machine.Accounts.{Account, account_at, accounts, leaf_count, node_accounts}
use Rattle.gq_model.specs.machine.Lists.{or_first}
use Rattle.gq_model.specs.machine.Program.{text_eq}
use Rattle.gq_model.specs.machine.Scenario.{Component, Interface, Interfaces, Nodes, End, Leaf_node, Init_node, Level, Route, Scenario, System, below}
use Rattle.gq_model.specs.machine.Scenario.{components}
use Rattle.gq_model.specs.machine.Scenario.{components_of, interface_in, level, system}
use Rattle.gq_model.specs.machine.World.{Leaf, World}
use Rattle.gq_model.specs.texts.Letters.{is_name}
use Rattle.gq_scenario.specs.Document.{described, document_fault, first_of, init_of, interface_of, interfaces_of, is_init, keys_of, leaf_of, list_at, name_at}
use Rattle.gq_scenario.specs.Document.{node_fault, node_onto, nodes_by, or_empty, interfaces_fault, routes_fault, table_of, value_of, walk_fault}
use Rattle.gq_scenario.specs.Document.{counts_fault, has_too_many, name_twice, names_of}
use Rattle.gq_scenario.specs.Table_keys.{DocumentFault, TooMany, is_name_text, members_of, passes, table_fault, text_of}
use Rattle.gq_scenario.specs.Document_tables.{are_named_tables, init_keys, leaf_keys, top_keys, version_of}
use Rattle.gq_scenario.specs.Top_table.{ReadFault, Bad_document, described_or, document_in, read_from}
use Rattle.gq_reader.proofs.Faultless_document_parts.{walked}
use Rattle.gq_scenario.specs.Sizes.{leaves_in}
use Rattle.gq_scenario.proofs.Preorder_leaves.{components-count, components-leaves_in}
use Rattle.gq_reader.proofs.Table_rules_kept.{fits_or_none, kept, one_there}
use Rattle.gq_laws.specs.Shapes.{Each}
use Rattle.gq_load.specs.Load.{LoadRefusal, Unread, loaded, loaded_from, loaded_or, scenario_fault}
use Rattle.gq_load.proofs.Sound_programs.{each_append}
use Rattle.gq_load.proofs.Sound_texts.{not_ok, same_scenario}
use Rattle.gq_traces.proofs.Leaf_table_names.{HasNames}
use Rattle.gq_traces.proofs.Printed_instructions.{name_printed}
use Rattle.gq_traces.proofs.Printed_numbers.{IsPrinted, both}
use Rattle.gq_traces.proofs.Lines_of_steps.{AreLabelled, HasTexts}

-- NODES

abbrev pub AreNodes : Nodes → Type 0
AreNodes End = Unit {0}
AreNodes (Leaf_node node rest) = (is_name node.name ≡ true) × AreNodes rest
AreNodes (Init_node node children rest) = (is_name node.name ≡ true) × AreNodes children × AreNodes rest

below_printed : (label name : List ℕ) → IsPrinted label → is_name name ≡ true → IsPrinted (below label name)
below_printed label name h g = both (label ++ codes " -> ") name (both label (codes " -> ") h refl) (name_printed name g)

each_both : (P : Component → Type 0) (xs ys : List Component) → Each P xs → Each P ys → Each P (xs ++ ys)
each_both P [] ys h g = g
each_both P (x ∷ xs) ys h g = (h.0, each_both P xs ys h.1 g)

labels_of : (label : List ℕ) (routes : Option (List Route)) (siblings : Nodes) (above : List Level) (nodes : Nodes) → IsPrinted label → AreNodes nodes
    → Each (λ c. IsPrinted c.label) (components_of label routes siblings above nodes)
labels_of label routes siblings above End h g = tt
labels_of label routes siblings above (Leaf_node node rest) h g = (below_printed label node.name h g.0, labels_of label routes siblings above rest h g.1)
labels_of label routes siblings above (Init_node node children rest) h g =
    each_both (λ c. IsPrinted c.label) _ _
    (labels_of (below label node.name) node.default_routes children (level node.routes routes siblings ∷ above) children
    (below_printed label node.name h g.0) g.1)
    (labels_of label routes siblings above rest h g.2)

each_at : (cs : List Component) → Each (λ c. IsPrinted c.label) cs → (x : ℕ) (c : Component) → slice_get cs x ≡ Some c → IsPrinted c.label
each_at [] h x c e = absurd (none_some e)
each_at (d ∷ cs) h zero c e = subst (λ (c : Component). IsPrinted c.label) (some_same e) h.0
each_at (d ∷ cs) h (suc x) c e = each_at cs h.1 x c e

pub has_texts : (s : Scenario) → AreNodes s.nodes → HasTexts (system s)
has_texts s h = record { labels = each_at (components s) (labels_of (codes "init") s.default_routes s.nodes [] s.nodes refl h) }

-- ACCOUNTS

labelled_both : (xs ys : List Account) → AreLabelled xs → AreLabelled ys → AreLabelled (xs ++ ys)
labelled_both [] ys h g = g
labelled_both (x ∷ xs) ys h g = (h.0, labelled_both xs ys h.1 g)

module _ (version : ℕ) (system : System) (texts : HasTexts system) (w : World) (budgets : List ℕ) where
  at_labelled : (x : ℕ) (c : Option Component) (leaf : Option Leaf) (budget : ℕ) → slice_get system.components x ≡ c
      → AreLabelled (account_at version w x c leaf budget)
  at_labelled x (Some c) (Some leaf) budget e = (texts.labels x c e, tt)
  at_labelled x (Some c) None budget e = tt
  at_labelled x None leaf budget e = tt

  nodes_labelled : (x : ℕ) (label : List ℕ) (nodes : Nodes) → IsPrinted label → AreNodes nodes
      → AreLabelled (node_accounts version system w budgets x label nodes)
  nodes_labelled x label End h g = tt
  nodes_labelled x label (Leaf_node node rest) h g =
      labelled_both _ (node_accounts version system w budgets (suc x) label rest)
      (at_labelled x (slice_get system.components x) (slice_get w.leaves x) _ refl)
      (nodes_labelled (suc x) label rest h g.1)
  nodes_labelled x label (Init_node node children rest) h g = (
    below_printed label node.name h g.0,
    labelled_both _ (node_accounts version system w budgets (x + leaf_count children) label rest)
        (nodes_labelled x (below label node.name) children (below_printed label node.name h g.0) g.1)
        (nodes_labelled (x + leaf_count children) label rest h g.2),
  )

pub accounts_labelled : (s : Scenario) (w : World) (budgets : List ℕ) → AreNodes s.nodes → AreLabelled (accounts s w budgets)
accounts_labelled s w budgets h = (refl, nodes_labelled s.version (system s) (has_texts s h) w budgets 0 (codes "init") s.nodes refl h)

-- DOCUMENTS

passed_name : (o : Option (List ℕ)) → passes is_name o ≡ true → is_name (or_empty o) ≡ true
passed_name None h = absurd (true≢false (sym h))
passed_name (Some name) h = h

text_named : (o : Option Data) → is_some o ≡ true → fits_or_none is_name_text o ≡ true → is_name (or_empty (value_of text_of o)) ≡ true
text_named None there h = absurd (true≢false (sym there))
text_named (Some d) there h = passed_name (text_of d) h

leaf_named : (version : ℕ) (services : List (List ℕ)) (entries : Members) → table_fault (leaf_keys version services) entries ≡ None
    → is_name (name_at entries) ≡ true
leaf_named version services entries e =
    let name = (kept (leaf_keys version services) entries e).1.0 in
    text_named (get_member (codes "name") entries) (one_there (is_some (get_member (codes "name") entries)) name.there) name.fits

init_named : (version : ℕ) (entries : Members) → table_fault (init_keys version) entries ≡ None → is_name (name_at entries) ≡ true
init_named version entries e =
    let name = (kept (init_keys version) entries e).1.0 in
    text_named (get_member (codes "name") entries) (one_there (is_some (get_member (codes "name") entries)) name.there) name.fits

module _ (version : ℕ) (services : List (List ℕ)) where
  each_named : (fault : Members → Option DocumentFault) (f : Members → Nodes → Nodes)
      → ((entries : Members) (rest : Nodes) → fault entries ≡ None → AreNodes rest → AreNodes (f entries rest))
      → (items : List Data) → first_of fault items ≡ None → AreNodes (nodes_by f items)
  each_named fault f h [] e = tt
  each_named fault f h (d ∷ rest) e =
      let p = or_first_none (fault (members_of d)) (first_of fault rest) e in h (members_of d) (nodes_by f rest) p.0 (each_named fault f h rest p.1)

  node_named : (n : ℕ) (entries : Members) (rest : Nodes) → node_fault n version services entries ≡ None → AreNodes rest → AreNodes (node_onto n entries rest)
  node_named zero entries rest e h = absurd (some_none e)
  node_named (suc n) entries rest e h =
      by (is_init entries) e (each_named (node_fault n version services) (node_onto n) (λ m r f g. node_named n m r f g) (list_at (codes "start") entries))
    where
      inside : Option DocumentFault
      inside = first_of (node_fault n version services) (list_at (codes "start") entries)

      later : Option DocumentFault
      later = or_first (routes_fault (codes "route") entries) (or_first (routes_fault (codes "default-route") entries) inside)

      children : Nodes
      children = nodes_by (node_onto n) (list_at (codes "start") entries)

      by : (b : Bool) → or_first (table_fault (cond b (init_keys version) (leaf_keys version services)) entries) later ≡ None
          → (inside ≡ None → AreNodes children) → AreNodes (cond b (Init_node (init_of entries) children rest) (Leaf_node (leaf_of entries) rest))
      by true f named =
          let p = or_first_none (table_fault (init_keys version) entries) later f in
          let q = or_first_none (routes_fault (codes "route") entries) _ p.1 in
          let r = or_first_none (routes_fault (codes "default-route") entries) inside q.1 in
          (init_named version entries p.0, named r.1, h)
      by false f named = let p = or_first_none (table_fault (leaf_keys version services) entries) later f in (leaf_named version services entries p.0, h)

-- SERVICES

-- each service that has an interface has a printed name
abbrev pub AreServices : Interfaces → Type 0
AreServices interfaces = (service : List ℕ) (i : Interface) → interface_in service interfaces ≡ Some i → IsPrinted service

services_named : (version : ℕ) (entries : Members) → are_named_tables entries ≡ true → AreServices (interfaces_of version entries)
services_named version no_members h service i e = absurd (none_some e)
services_named version (member key d rest) h service i e =
    let p = and_parts _ (are_named_tables rest) h in
    by (text_eq service key) refl e (and_parts (is_name key) _ p.0).0 (services_named version rest p.1 service i)
  where
    by : (b : Bool) → text_eq service key ≡ b → cond b (Some (interface_of version (members_of d))) (interface_in service (interfaces_of version rest)) ≡ Some i
        → is_name key ≡ true → (interface_in service (interfaces_of version rest) ≡ Some i → IsPrinted service) → IsPrinted service
    by true same f named later = subst IsPrinted (sym (text_is service key same)) (name_printed key named)
    by false other f named later = later f

-- A SCENARIO

-- all nodes and services of a scenario have names, and there are not too many leaves
pub record AllNamed (s : Scenario) : Type 0 where
  pub nodes : AreNodes s.nodes
  pub services : AreServices s.interfaces
  pub few : length (components s) ≤ 64

first_false : (a b : Bool) → (a || b) ≡ false → a ≡ false
first_false true b e = e
first_false false b e = refl

not_many : (s : Scenario) → counts_fault s ≡ None → has_too_many s ≡ false
not_many s e = by (has_too_many s) refl e
  where
    by : (b : Bool) → has_too_many s ≡ b → cond b (Some TooMany) None ≡ None → has_too_many s ≡ false
    by true same f = absurd (some_none f)
    by false same f = same

few_leaves : (s : Scenario) → counts_fault s ≡ None → length (components s) ≤ 64
few_leaves s e =
    let few : nat_lt 64 (leaf_count s.nodes) ≡ false = first_false _ _ (first_false _ _ (first_false _ _ (first_false _ _ (not_many s e)))) in
    let count = components-count s in
    let low : leaf_count s.nodes ≤ 64 = grind (arith, nat_tests) in
    omega (arith, low, count)

described_named : (top : Members) → document_fault top ≡ None → AllNamed (described top)
described_named top e =
    let version = version_of top in
    let interfaces = table_of (get_member (codes "interface") top) in
    let a = or_first_none (walk_fault top) _ e in
    let w = or_first_none (table_fault (top_keys version) top) _ a.0 in
    let i = or_first_none (interfaces_fault version interfaces) _ w.1 in
    let r = or_first_none (routes_fault (codes "default-route") top) _ i.1 in
    record {
      nodes = each_named version (keys_of interfaces) (node_fault 4 version (keys_of interfaces)) (node_onto 4)
          (λ entries rest f g. node_named version (keys_of interfaces) 4 entries rest f g) (list_at (codes "start") top) r.1;
      services = services_named version interfaces (walked top a.0).sound.named;
      few = few_leaves (described top) (or_first_none (counts_fault (described top)) (name_twice (codes "init" ∷ []) (names_of (described top).nodes)) a.1).0;
    }

-- a scenario that is loaded is one of these
pub loaded_named : (text : List ℕ) (s : Scenario) → loaded text ≡ Ok s → AllNamed s
loaded_named text s e = from (document_in text) e
  where
    last : (top : Members) → document_fault top ≡ None → (o : Option LoadRefusal) → loaded_or (described top) o ≡ Ok s → AllNamed s
    last top whole None f = subst AllNamed (same_scenario (described top) s f) (described_named top whole)
    last top whole (Some fault) f = absurd (not_ok fault s f)

    found : (top : Members) (o : Option DocumentFault) → document_fault top ≡ o → loaded_from (described_or top o) ≡ Ok s → AllNamed s
    found top None whole f = last top whole (scenario_fault (described top)) f
    found top (Some fault) whole f = absurd (not_ok (Unread (Bad_document fault)) s f)

    from : (r : Result Members ReadFault) → loaded_from (read_from document_fault r) ≡ Ok s → AllNamed s
    from (Ok top) f = found top (document_fault top) refl f
    from (Err why) f = absurd (not_ok (Unread why) s f)

-- LEAVES

leaves_named : (nodes : Nodes) → AreNodes nodes → Each (λ n. is_name n.name ≡ true) (leaves_in nodes)
leaves_named End h = tt
leaves_named (Leaf_node node rest) h = (h.0, leaves_named rest h.1)
leaves_named (Init_node node children rest) h =
    each_append (λ n. is_name n.name ≡ true) (leaves_in children) (leaves_in rest) (leaves_named children h.1) (leaves_named rest h.2)

leaf_there : (cs : List Component) → Each (λ n. is_name n.name ≡ true) (map (λ (c : Component). c.node) cs) → (x : ℕ) (c : Component)
    → slice_get cs x ≡ Some c → is_name c.node.name ≡ true
leaf_there [] h x c e = absurd (none_some e)
leaf_there (d ∷ cs) h zero c e = subst (λ (c : Component). is_name c.node.name ≡ true) (some_same e) h.0
leaf_there (d ∷ cs) h (suc x) c e = leaf_there cs h.1 x c e

-- the leaves of a scenario that is loaded have names, and are not too many
pub has_names : (text : List ℕ) (s : Scenario) → loaded text ≡ Ok s → HasNames s
has_names text s e =
    let named = loaded_named text s e in
    record {
      names = leaf_there (components s) (subst (Each (λ n. is_name n.name ≡ true)) (sym (components-leaves_in s)) (leaves_named s.nodes named.nodes));
      few = named.few;
    }
