-- The nodes of a document without fault: in version 1 none is given capabilities, and what a leaf provides is declared.
use Rattle.std.proofs.Common.{◌≡◌, ℕ, zero, suc, ◌==◌, cond, Bool, true, false, List, [], ◌∷◌, ◌++◌, map, Option, Some, None, refl, ap, sym, ◌∙◌, subst}
use Rattle.std.specs.Prelude.{codes, nat_le, slice_get}
use Rattle.toml.specs.Data.{Data, Members, get_member}
use Rattle.gq_model.specs.machine.Lists.{any_of, or_first}
use Rattle.gq_model.specs.machine.Program.{text_eq}
use Rattle.gq_model.specs.machine.Scenario.{LeafNode, Nodes, End, Leaf_node, Init_node, Scenario, Component, components}
use Rattle.gq_scenario.specs.Table_keys.{DocumentFault, KeyRule, required, optional, either, other, text_of, members_of, passes, is_number, is_quantity}
use Rattle.gq_scenario.specs.Table_keys.{is_text}
use Rattle.gq_scenario.specs.Table_keys.{is_hex, is_name_text, is_table, is_list, table_fault}
use Rattle.gq_scenario.specs.Document_tables.{greatest_caps, greatest_signals, is_declared, is_inputs, is_named_names, leaf_keys, init_keys}
use Rattle.gq_scenario.specs.Document.{value_of, list_at, leaf_of, is_init, init_of, nodes_by, node_onto, first_of, routes_fault, node_fault}
use Rattle.gq_scenario.specs.Sizes.{leaves_in}
use Rattle.gq_scenario.proofs.Preorder_leaves.{components-leaves_in}
use Rattle.gq_reader.proofs.Faultless_table_facts.{absent}
use Rattle.gq_reader.proofs.Table_rules_kept.{AreKept, fits_or_none, kept}
use Rattle.gq_laws.specs.Shapes.{Each}
use Rattle.gq_laws.specs.Ready.{AreWithoutCaps}
use Rattle.gq_model.proofs.Small_facts.{none_some, some_none, some_same, or_first_none}
use Rattle.gq_load.proofs.Sound_programs.{each_append}
use Rattle.gq_load.proofs.Read_interfaces.{no_number}
use Rattle.gq_model.specs.machine.Amounts.{counts_caps}

-- A LEAF

-- what a leaf provides is one of these services
abbrev pub IsDeclared : List (List ℕ) → LeafNode → Type 0
IsDeclared services node = (service : List ℕ) → node.provides ≡ Some service → any_of (text_eq service) services ≡ true

passes_there : (test : List ℕ → Bool) (o : Option (List ℕ)) (service : List ℕ) → o ≡ Some service → passes test o ≡ true → test service ≡ true
passes_there test None service e f = absurd (none_some e)
passes_there test (Some text) service e f = ap test (sym (some_same e)) ∙ f

declared_there : (services : List (List ℕ)) (o : Option Data) → fits_or_none (is_declared services) o ≡ true → (service : List ℕ)
    → value_of text_of o ≡ Some service → any_of (text_eq service) services ≡ true
declared_there services None f service e = absurd (none_some e)
declared_there services (Some d) f service e = passes_there (λ name. any_of (text_eq name) services) (text_of d) service e f

-- the keys of a leaf, from version 2 on or not, from version 3 on or not, and from version 4 on or not
abbrev leaf_keys_by : Bool → Bool → Bool → List (List ℕ) → List KeyRule
leaf_keys_by two three four services =
    (required (codes "name") is_name_text ∷ required (codes "quantum") (is_quantity 0 1099511627776)
    ∷ cond two (required (codes "caps") (is_number 0 greatest_caps) ∷ []) [] ++ optional (codes "route") (is_list is_table) ∷ [])
    ++ (optional (codes "provides") (is_declared services) ∷ optional (codes "after") is_name_text
    ∷ cond three (optional (codes "inputs") is_inputs ∷ []) [])
    ++ cond four (optional (codes "signals") (is_number 0 greatest_signals) ∷ []) []
    ++ either (codes "program") (codes "code" ∷ []) is_text ∷ other (codes "code") (codes "program" ∷ []) is_hex ∷ []

-- those of an init
abbrev init_keys_by : Bool → Bool → List KeyRule
init_keys_by two three =
    (required (codes "name") is_name_text ∷ required (codes "quantum") (is_quantity 0 1099511627776)
    ∷ cond two (required (codes "caps") (is_number 0 greatest_caps) ∷ []) [] ++ optional (codes "route") (is_list is_table) ∷ [])
    ++ required (codes "start") (is_list is_table) ∷ optional (codes "default-route") (is_list is_table)
    ∷ cond three (optional (codes "offers") is_named_names ∷ []) []

-- no key of capabilities before version 2
no_caps_key : (three four : Bool) (services : List (List ℕ))
    → any_of (λ (a : KeyRule). text_eq (codes "caps") a.key) (leaf_keys_by false three four services) ≡ false
no_caps_key true true services = refl
no_caps_key true false services = refl
no_caps_key false true services = refl
no_caps_key false false services = refl

no_caps_of_inits : (three : Bool) → any_of (λ (a : KeyRule). text_eq (codes "caps") a.key) (init_keys_by false three) ≡ false
no_caps_of_inits true = refl
no_caps_of_inits false = refl

provides_fits : (two three four : Bool) (services : List (List ℕ)) (entries : Members) → AreKept (leaf_keys_by two three four services) entries
    → fits_or_none (is_declared services) (get_member (codes "provides") entries) ≡ true
provides_fits true three four services entries k = k.1.1.1.1.0.fits
provides_fits false three four services entries k = k.1.1.1.0.fits

-- LISTS

-- what holds of each leaf holds of each component's
pub each_component : (P : LeafNode → Type 0) (s : Scenario) → Each P (leaves_in s.nodes) → (x : ℕ) (c : Component) → slice_get (components s) x ≡ Some c
    → P c.node
each_component P s h x c there = find (components s) (subst (Each P) (sym (components-leaves_in s)) h) x c there
  where
    find : (cs : List Component) → Each P (map (λ (c : Component). c.node) cs) → (x : ℕ) (c : Component) → slice_get cs x ≡ Some c → P c.node
    find [] g x c e = absurd (none_some e)
    find (d ∷ cs) g zero c e = subst (λ (c : Component). P c.node) (some_same e) g.0
    find (d ∷ cs) g (suc x) c e = find cs g.1 x c e

-- NODES

module _ (version : ℕ) (services : List (List ℕ)) where
  -- what is known of nodes without fault
  pub record AreRead (nodes : Nodes) : Type 0 where
    pub plain : counts_caps version ≡ false → AreWithoutCaps nodes
    pub declared : Each (IsDeclared services) (leaves_in nodes)

  none_read : AreRead End
  none_read = record { plain = λ one. tt; declared = tt }

  leaf_read : (entries : Members) (rest : Nodes) → table_fault (leaf_keys version services) entries ≡ None → AreRead rest
      → AreRead (Leaf_node (leaf_of entries) rest)
  leaf_read entries rest e h =
      let k = kept (leaf_keys version services) entries e in
      record {
        plain = λ one. (
          no_number (codes "caps") entries (absent (leaf_keys version services) entries (codes "caps") k.0
              (subst (λ b. any_of (λ (a : KeyRule). text_eq (codes "caps") a.key) (leaf_keys_by b (nat_le 3 version) (nat_le 4 version) services)
              ≡ false) (sym one) (no_caps_key (nat_le 3 version) (nat_le 4 version) services))),
          h.plain one,
        );
        declared = (
          declared_there services (get_member (codes "provides") entries)
              (provides_fits (counts_caps version) (nat_le 3 version) (nat_le 4 version) services entries k.1),
          h.declared,
        );
      }

  init_read : (entries : Members) (children rest : Nodes) → table_fault (init_keys version) entries ≡ None → AreRead children → AreRead rest
      → AreRead (Init_node (init_of entries) children rest)
  init_read entries children rest e below h =
      let k = kept (init_keys version) entries e in
      record {
        plain = λ one. (
          no_number (codes "caps") entries (absent (init_keys version) entries (codes "caps") k.0
              (subst (λ b. any_of (λ (a : KeyRule). text_eq (codes "caps") a.key) (init_keys_by b (nat_le 3 version)) ≡ false) (sym one)
              (no_caps_of_inits (nat_le 3 version)))),
          below.plain one,
          h.plain one,
        );
        declared = each_append (IsDeclared services) (leaves_in children) (leaves_in rest) below.declared h.declared;
      }

  each_read : (fault : Members → Option DocumentFault) (f : Members → Nodes → Nodes)
      → ((entries : Members) (rest : Nodes) → fault entries ≡ None → AreRead rest → AreRead (f entries rest))
      → (items : List Data) → first_of fault items ≡ None → AreRead (nodes_by f items)
  each_read fault f h [] e = none_read
  each_read fault f h (d ∷ rest) e =
      let p = or_first_none (fault (members_of d)) (first_of fault rest) e in h (members_of d) (nodes_by f rest) p.0 (each_read fault f h rest p.1)

  -- what is below a node, and the faults that come after those of its keys
  abbrev below : ℕ → Members → Nodes
  below n entries = nodes_by (node_onto n) (list_at (codes "start") entries)

  abbrev later : ℕ → Members → Option DocumentFault
  later n entries =
      or_first (routes_fault (codes "route") entries) (or_first (routes_fault (codes "default-route") entries)
      (first_of (node_fault n version services) (list_at (codes "start") entries)))

  below_whole : (n : ℕ) (entries : Members) → later n entries ≡ None → first_of (node_fault n version services) (list_at (codes "start") entries) ≡ None
  below_whole n entries e =
      let p = or_first_none (routes_fault (codes "route") entries) _ e in (or_first_none (routes_fault (codes "default-route") entries) _ p.1).1

  node_read : (n : ℕ) (entries : Members) (rest : Nodes) → node_fault n version services entries ≡ None → AreRead rest → AreRead (node_onto n entries rest)
  node_read zero entries rest e h = absurd (some_none e)
  node_read (suc n) entries rest e h =
      by (is_init entries) e (each_read (node_fault n version services) (node_onto n) (λ m r f g. node_read n m r f g) (list_at (codes "start") entries))
    where
      by : (b : Bool) → or_first (table_fault (cond b (init_keys version) (leaf_keys version services)) entries) (later n entries) ≡ None
          → (first_of (node_fault n version services) (list_at (codes "start") entries) ≡ None → AreRead (below n entries))
          → AreRead (cond b (Init_node (init_of entries) (below n entries) rest) (Leaf_node (leaf_of entries) rest))
      by true f inside =
          let p = or_first_none (table_fault (init_keys version) entries) (later n entries) f in
          init_read entries (below n entries) rest p.0 (inside (below_whole n entries p.1)) h
      by false f inside = let p = or_first_none (table_fault (leaf_keys version services) entries) (later n entries) f in leaf_read entries rest p.0 h

  -- the nodes of these tables
  pub nodes_read : (n : ℕ) (items : List Data) → first_of (node_fault n version services) items ≡ None → AreRead (nodes_by (node_onto n) items)
  nodes_read n items e = each_read (node_fault n version services) (node_onto n) (λ m r f g. node_read n m r f g) items e
