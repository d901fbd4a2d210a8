-- The first of a document's faults is the one that its reader reports.
use Rattle.std.proofs.Common.{◌≡◌, ℕ, zero, suc, nat_le, Bool, true, false, ◌&&◌, not, cond, List, []}
use Rattle.std.proofs.Common.{◌∷◌, ◌++◌, Option, Some, None}
use Rattle.std.proofs.Common.{refl, ap, ◌∙◌}
use Rattle.std.specs.Prelude.{codes}
use Rattle.toml.specs.Data.{Data, string, integer, float, boolean, datetime, array, table, Members, no_members, member, get_member}
use Rattle.gq_model.specs.machine.Amounts.{counts_caps}
use Rattle.gq_model.specs.machine.Lists.{any_of, all_of, or_first}
use Rattle.gq_model.specs.machine.Program.{text_eq}
use Rattle.gq_model.proofs.Small_facts.{or_first_none}
use Rattle.gq_scenario.specs.Document.{first_of, list_at, table_of, keys_of, is_init, routes_fault, interfaces_fault, node_fault}
use Rattle.gq_scenario.specs.Table_keys.{DocumentFault, MissingKey, BadValue, UnknownKey, KeyRule, members_of, is_table, unknown_key, missing_key}
use Rattle.gq_scenario.specs.Table_keys.{bad_value, table_fault}
use Rattle.gq_scenario.specs.Document_tables.{top_keys, interface_keys, route_keys, version_of}
use Rattle.gq_faults.specs.Found_lists.{all_found, first}
use Rattle.gq_faults.specs.Documents.{unknown_keys, missing_of, bad_of, table_faults, in_table, in_tables, interfaces_faults, routes_faults, nodes_below}
use Rattle.gq_faults.specs.Documents.{keys_of_node, nodes_in, own_faults, node_faults, walk_faults}
use Rattle.gq_faults.proofs.First_fault_found.{first_both, first_then, first_when, all_found-append, or_assoc}
use Rattle.std.proofs.lemmas.Bool.{and_parts}
use Rattle.gq_model.specs.texts.Letters.{is_name}
use Rattle.gq_scenario.specs.Document.{list_of, walk_fault}
use Rattle.gq_scenario.specs.Table_keys.{items_of, is_list, required, optional, either, other, is_number, is_quantity, is_text, is_hex, is_name_text}
use Rattle.gq_scenario.specs.Document_tables.{are_named_tables, is_named_tables, is_named_names, is_total, is_declared, is_inputs, greatest_caps}
use Rattle.gq_scenario.specs.Document_tables.{greatest_signals}
use Rattle.gq_reader.specs.internal.Walk.{own_fault}
use Rattle.gq_reader.proofs.Table_rules_kept.{kept, fits_or_none}
use Rattle.gq_reader.proofs.Faultless_table_facts.{absent}

-- TABLES

flipped : {A : Type 0} (b : Bool) (x : A) (o : Option A) → cond (not b) (Some x) o ≡ cond b o (Some x)
flipped true x o = refl
flipped false x o = refl

first_unknown : (rules : List KeyRule) (entries : Members) → first (unknown_keys rules entries) ≡ unknown_key rules entries
first_unknown rules no_members = refl
first_unknown rules (member key d rest) =
    first_when (not (any_of (λ r. text_eq key r.key) rules)) (UnknownKey key) (unknown_keys rules rest) (unknown_key rules rest) (first_unknown rules rest)
    ∙ flipped (any_of (λ r. text_eq key r.key) rules) (UnknownKey key) (unknown_key rules rest)

first_missing : (rules : List KeyRule) (entries : Members) → first (all_found (missing_of entries) rules) ≡ missing_key rules entries
first_missing [] entries = refl
first_missing (r ∷ rules) entries = first_when _ (MissingKey r.key) _ _ (first_missing rules entries)

first_bad : (rules : List KeyRule) (entries : Members) → first (all_found (bad_of entries) rules) ≡ bad_value rules entries
first_bad [] entries = refl
first_bad (r ∷ rules) entries = first_when _ (BadValue r.key) _ _ (first_bad rules entries)

pub first_of_table : (rules : List KeyRule) (entries : Members) → first (table_faults rules entries) ≡ table_fault rules entries
first_of_table rules entries =
    first_both _ _ _ _ (first_both _ _ _ _ (first_unknown rules entries) (first_missing rules entries)) (first_bad rules entries)
    ∙ or_assoc (unknown_key rules entries) (missing_key rules entries) (bad_value rules entries)

-- VALUES THAT ARE TABLES

pub at_table : {B : Type 0} (f : Members → List B) (d : Data) → is_table d ≡ true → in_table f d ≡ f (members_of d)
at_table f (table ms) e = refl
at_table f (string s) e = absurd cc
at_table f (integer z) e = absurd cc
at_table f (float x) e = absurd cc
at_table f (boolean b) e = absurd cc
at_table f (datetime x) e = absurd cc
at_table f (array ds) e = absurd cc

first_in_tables : (f : Members → List DocumentFault) (o : Members → Option DocumentFault) → ((m : Members) → first (f m) ≡ o m) → (ds : List Data)
    → all_of is_table ds ≡ true → first (in_tables f ds) ≡ first_of o ds
first_in_tables f o each [] e = refl
first_in_tables f o each (d ∷ ds) e =
    let p = and_parts (is_table d) (all_of is_table ds) e in
    first_both (in_table f d) (in_tables f ds) (o (members_of d)) (first_of o ds) (ap first (at_table f d p.0) ∙ each (members_of d))
    (first_in_tables f o each ds p.1)

-- a list at a key, of which each value is a table
abbrev pub HasTables : Members → List ℕ → Type 0
HasTables entries key = all_of is_table (list_at key entries) ≡ true

listed_tables : (d : Data) → is_list is_table d ≡ true → all_of is_table (list_of (items_of d)) ≡ true
listed_tables (array ds) e = e
listed_tables (table ms) e = absurd cc
listed_tables (string s) e = absurd cc
listed_tables (integer z) e = absurd cc
listed_tables (float x) e = absurd cc
listed_tables (boolean b) e = absurd cc
listed_tables (datetime x) e = absurd cc

tables_by : (entries : Members) (key : List ℕ) (o : Option Data) → get_member key entries ≡ o → fits_or_none (is_list is_table) o ≡ true → HasTables entries key
tables_by entries key None is e = rw is refl
tables_by entries key (Some d) is e = rw is (listed_tables d e)

tables_at : (entries : Members) (key : List ℕ) → fits_or_none (is_list is_table) (get_member key entries) ≡ true → HasTables entries key
tables_at entries key e = tables_by entries key (get_member key entries) refl e

pub tables_none : (entries : Members) (key : List ℕ) → get_member key entries ≡ None → HasTables entries key
tables_none entries key is = rw is refl

routes_first : (key : List ℕ) (entries : Members) → HasTables entries key → first (routes_faults key entries) ≡ routes_fault key entries
routes_first key entries e = first_in_tables (table_faults route_keys) (table_fault route_keys) (first_of_table route_keys) (list_at key entries) e

-- INTERFACES

interfaces_first : (version : ℕ) (entries : Members) → are_named_tables entries ≡ true
    → first (interfaces_faults version entries) ≡ interfaces_fault version entries
interfaces_first version no_members e = refl
interfaces_first version (member key d rest) e =
    let p = and_parts (is_name key && is_table d) (are_named_tables rest) e in
    let q = and_parts (is_name key) (is_table d) p.0 in
    let f : Members → List DocumentFault = λ entries. table_faults (interface_keys version entries) entries in
    first_both (in_table f d) (interfaces_faults version rest) (table_fault (interface_keys version (members_of d)) (members_of d))
    (interfaces_fault version rest) (ap first (at_table f d q.1) ∙ first_of_table (interface_keys version (members_of d)) (members_of d))
    (interfaces_first version rest p.1)

-- NODES

-- the lists of a node's table
pub record HasLists (entries : Members) : Type 0 where
  pub routes : HasTables entries (codes "route")
  pub default_routes : HasTables entries (codes "default-route")
  pub start : HasTables entries (codes "start")

abbrev node_keys_by : Bool → List KeyRule → List KeyRule
node_keys_by two rest =
    (required (codes "name") is_name_text ∷ required (codes "quantum") (is_quantity 0 1099511627776)
    ∷ cond two (required (codes "caps") (is_number 0 greatest_caps) ∷ []) [] ++ optional (codes "route") (is_list is_table) ∷ []) ++ rest

abbrev init_rest : Bool → List KeyRule
init_rest three =
    required (codes "start") (is_list is_table) ∷ optional (codes "default-route") (is_list is_table)
    ∷ cond three (optional (codes "offers") is_named_names ∷ []) []

abbrev leaf_rest : Bool → List (List ℕ) → List KeyRule
leaf_rest three services =
    optional (codes "provides") (is_declared services) ∷ optional (codes "after") is_name_text
    ∷ cond three (optional (codes "inputs") is_inputs ∷ []) []

abbrev leaf_keys_by : Bool → Bool → Bool → List (List ℕ) → List KeyRule
leaf_keys_by two three four services =
    node_keys_by two (leaf_rest three services) ++ cond four (optional (codes "signals") (is_number 0 greatest_signals) ∷ []) []
    ++ either (codes "program") (codes "code" ∷ []) is_text ∷ other (codes "code") (codes "program" ∷ []) is_hex ∷ []

abbrev keys_by : Bool → Bool → Bool → Bool → List (List ℕ) → List KeyRule
keys_by inner two three four services = cond inner (node_keys_by two (init_rest three)) (leaf_keys_by two three four services)

-- a leaf has no nodes, and no routes for some
no_nodes : (two three four : Bool) (services : List (List ℕ)) (entries : Members) → unknown_key (leaf_keys_by two three four services) entries ≡ None
    → (get_member (codes "start") entries ≡ None) × (get_member (codes "default-route") entries ≡ None)
no_nodes true true true services entries e =
    let keys = leaf_keys_by true true true services in (absent keys entries (codes "start") e refl, absent keys entries (codes "default-route") e refl)
no_nodes true true false services entries e =
    let keys = leaf_keys_by true true false services in (absent keys entries (codes "start") e refl, absent keys entries (codes "default-route") e refl)
no_nodes true false true services entries e =
    let keys = leaf_keys_by true false true services in (absent keys entries (codes "start") e refl, absent keys entries (codes "default-route") e refl)
no_nodes true false false services entries e =
    let keys = leaf_keys_by true false false services in (absent keys entries (codes "start") e refl, absent keys entries (codes "default-route") e refl)
no_nodes false true true services entries e =
    let keys = leaf_keys_by false true true services in (absent keys entries (codes "start") e refl, absent keys entries (codes "default-route") e refl)
no_nodes false true false services entries e =
    let keys = leaf_keys_by false true false services in (absent keys entries (codes "start") e refl, absent keys entries (codes "default-route") e refl)
no_nodes false false true services entries e =
    let keys = leaf_keys_by false false true services in (absent keys entries (codes "start") e refl, absent keys entries (codes "default-route") e refl)
no_nodes false false false services entries e =
    let keys = leaf_keys_by false false false services in (absent keys entries (codes "start") e refl, absent keys entries (codes "default-route") e refl)

leaf_lists : (two three four : Bool) (services : List (List ℕ)) (entries : Members) → HasTables entries (codes "route")
    → unknown_key (leaf_keys_by two three four services) entries ≡ None → HasLists entries
leaf_lists two three four services entries routes e =
    let none = no_nodes two three four services entries e in
    record {
      routes = routes;
      start = tables_none entries (codes "start") none.0;
      default_routes = tables_none entries (codes "default-route") none.1;
    }

lists_by : (inner two three four : Bool) (services : List (List ℕ)) (entries : Members)
    → table_fault (keys_by inner two three four services) entries ≡ None → HasLists entries
lists_by true true three four services entries e =
    let (known, k) = kept (node_keys_by true (init_rest three)) entries e in
    record {
      routes = tables_at entries (codes "route") k.1.1.1.0.fits;
      start = tables_at entries (codes "start") k.1.1.1.1.0.fits;
      default_routes = tables_at entries (codes "default-route") k.1.1.1.1.1.0.fits;
    }
lists_by true false three four services entries e =
    let (known, k) = kept (node_keys_by false (init_rest three)) entries e in
    record {
      routes = tables_at entries (codes "route") k.1.1.0.fits;
      start = tables_at entries (codes "start") k.1.1.1.0.fits;
      default_routes = tables_at entries (codes "default-route") k.1.1.1.1.0.fits;
    }
lists_by false true three four services entries e =
    let (known, k) = kept (leaf_keys_by true three four services) entries e in
    leaf_lists true three four services entries (tables_at entries (codes "route") k.1.1.1.0.fits) known
lists_by false false three four services entries e =
    let (known, k) = kept (leaf_keys_by false three four services) entries e in
    leaf_lists false three four services entries (tables_at entries (codes "route") k.1.1.0.fits) known

pub lists_of : (version : ℕ) (services : List (List ℕ)) (entries : Members) → table_fault (keys_of_node version services entries) entries ≡ None
    → HasLists entries
lists_of version services entries e = lists_by (is_init entries) (counts_caps version) (nat_le 3 version) (nat_le 4 version) services entries e

module _ (version : ℕ) (services : List (List ℕ)) where
  own_first : (entries : Members) → first (own_faults version services entries) ≡ own_fault version services entries
  own_first entries =
      let keys = keys_of_node version services entries in
      let t = table_fault keys entries in
      let r = routes_fault (codes "route") entries in
      let d = routes_fault (codes "default-route") entries in
      first_then (table_faults keys entries ++ routes_faults (codes "route") entries) (routes_faults (codes "default-route") entries) (or_first t r) d
      (first_then (table_faults keys entries) (routes_faults (codes "route") entries) t r (first_of_table keys entries)
      (λ (none : t ≡ None). routes_first (codes "route") entries (lists_of version services entries none).routes))
      (λ (none : or_first t r ≡ None). routes_first (codes "default-route") entries (lists_of version services entries
      (or_first_none t r none).0).default_routes)
      ∙ or_assoc t r d

  -- nodes of which it is known of each
  nodes_by : (n : ℕ) → ((entries : Members) → first (all_found (node_faults version services) (nodes_below n entries)) ≡ node_fault n version services entries)
      → (ds : List Data) → all_of is_table ds ≡ true
      → first (all_found (node_faults version services) (in_tables (nodes_below n) ds)) ≡ first_of (node_fault n version services) ds
  nodes_by n each [] e = refl
  nodes_by n each (d ∷ ds) e =
      let p = and_parts (is_table d) (all_of is_table ds) e in
      let f = node_faults version services in
      ap first (all_found-append f (in_table (nodes_below n) d) (in_tables (nodes_below n) ds))
      ∙ first_both (all_found f (in_table (nodes_below n) d)) (all_found f (in_tables (nodes_below n) ds)) (node_fault n version services (members_of d))
      (first_of (node_fault n version services) ds)
      (ap (λ l. first (all_found f l)) (at_table (nodes_below n) d p.0) ∙ each (members_of d)) (nodes_by n each ds p.1)

  node_first : (n : ℕ) (entries : Members)
      → first (all_found (node_faults version services) (nodes_below n entries)) ≡ node_fault n version services entries
  node_first zero entries = refl
  node_first (suc n) entries =
      let t = table_fault (keys_of_node version services entries) entries in
      let r = routes_fault (codes "route") entries in
      let d = routes_fault (codes "default-route") entries in
      let o = own_fault version services entries in
      let below = first_of (node_fault n version services) (list_at (codes "start") entries) in
      first_then (own_faults version services entries) _ o below (own_first entries)
      (λ (none : o ≡ None). nodes_by n (node_first n) (list_at (codes "start") entries)
      (lists_of version services entries (or_first_none t (or_first r d) none).0).start)
      ∙ (or_assoc t (or_first r d) below ∙ ap (or_first t) (or_assoc r d below))

  nodes_first : (n : ℕ) (ds : List Data) → all_of is_table ds ≡ true
      → first (all_found (node_faults version services) (in_tables (nodes_below n) ds)) ≡ first_of (node_fault n version services) ds
  nodes_first n ds e = nodes_by n (node_first n) ds e

-- THE WALK

pub record HasParts (top : Members) : Type 0 where
  pub routes : HasTables top (codes "default-route")
  pub interfaces : are_named_tables (table_of (get_member (codes "interface") top)) ≡ true
  pub start : HasTables top (codes "start")

abbrev top_by : Bool → List KeyRule
top_by two =
    required (codes "version") (is_number 1 4) ∷ required (codes "ram") is_total
    ∷ cond two (required (codes "caps") (is_number 1 greatest_caps) ∷ []) []
    ++ optional (codes "default-route") (is_list is_table) ∷ optional (codes "interface") is_named_tables ∷ required (codes "start") (is_list is_table) ∷ []

named_there : (d : Data) → is_named_tables d ≡ true → are_named_tables (members_of d) ≡ true
named_there (table ms) e = e
named_there (array ds) e = refl
named_there (string s) e = refl
named_there (integer z) e = refl
named_there (float x) e = refl
named_there (boolean b) e = refl
named_there (datetime x) e = refl

named_or_none : (o : Option Data) → fits_or_none is_named_tables o ≡ true → are_named_tables (table_of o) ≡ true
named_or_none None e = refl
named_or_none (Some d) e = named_there d e

parts_by : (two : Bool) (top : Members) → table_fault (top_by two) top ≡ None → HasParts top
parts_by true top e =
    let (known, k) = kept (top_by true) top e in
    record {
      routes = tables_at top (codes "default-route") k.1.1.1.0.fits;
      interfaces = named_or_none (get_member (codes "interface") top) k.1.1.1.1.0.fits;
      start = tables_at top (codes "start") k.1.1.1.1.1.0.fits;
    }
parts_by false top e =
    let (known, k) = kept (top_by false) top e in
    record {
      routes = tables_at top (codes "default-route") k.1.1.0.fits;
      interfaces = named_or_none (get_member (codes "interface") top) k.1.1.1.0.fits;
      start = tables_at top (codes "start") k.1.1.1.1.0.fits;
    }

pub parts_of : (top : Members) → table_fault (top_keys (version_of top)) top ≡ None → HasParts top
parts_of top e = parts_by (counts_caps (version_of top)) top e

pub walk_first : (top : Members) → first (walk_faults top) ≡ walk_fault top
walk_first top =
    let version = version_of top in
    let interfaces = table_of (get_member (codes "interface") top) in
    let t = table_fault (top_keys version) top in
    let i = interfaces_fault version interfaces in
    let r = routes_fault (codes "default-route") top in
    let n = first_of (node_fault 4 version (keys_of interfaces)) (list_at (codes "start") top) in
    let a = table_faults (top_keys version) top in
    let b = interfaces_faults version interfaces in
    let c = routes_faults (codes "default-route") top in
    first_then (a ++ b ++ c) (all_found (node_faults version (keys_of interfaces)) (nodes_in top)) (or_first (or_first t i) r) n
    (first_then (a ++ b) c (or_first t i) r
    (first_then a b t i (first_of_table (top_keys version) top) (λ (none : t ≡ None). interfaces_first version interfaces (parts_of top none).interfaces))
    (λ (none : or_first t i ≡ None). routes_first (codes "default-route") top (parts_of top (or_first_none t i none).0).routes))
    (λ (none : or_first (or_first t i) r ≡ None). nodes_first version (keys_of interfaces) 4 (list_at (codes "start") top)
    (parts_of top (or_first_none t i (or_first_none (or_first t i) r none).0).0).start)
    ∙ (or_assoc (or_first t i) r n ∙ or_assoc t i (or_first r n))
