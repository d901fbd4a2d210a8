-- What is known of the tables of nodes and of routes without faults.
use Rattle.std.proofs.Common.{◌≡◌, ℕ, ◌≤◌, nat_le, Bool, true, false, ◌&&◌, cond, List, [], ◌∷◌, ◌++◌, length, Option, Some, None, refl, ap, ◌∙◌}
use Rattle.std.proofs.Common.{append_assoc, arith}
use Rattle.std.specs.Prelude.{codes}
use Rattle.std.proofs.lemmas.Bool.{and_parts}
use Rattle.toml.specs.Data.{Data, string, integer, float, boolean, datetime, array, table, Members, member, get_member}
use Rattle.gq_model.specs.machine.Lists.{any_of, all_of, between}
use Rattle.gq_model.specs.machine.Program.{text_eq}
use Rattle.gq_model.specs.texts.Letters.{is_name}
use Rattle.gq_model.specs.texts.Operands.{greatest_number}
use Rattle.gq_scenario.specs.Table_keys.{KeyRule, required, optional, either, other, has, is_number, is_quantity, is_text, is_hex, is_name_text, is_table}
use Rattle.gq_scenario.specs.Table_keys.{is_list}
use Rattle.gq_scenario.specs.Table_keys.{items_of, list_length, unknown_key, table_fault}
use Rattle.gq_scenario.specs.Table_keys.{text_of}
use Rattle.gq_scenario.specs.Document_tables.{is_declared, is_inputs, greatest_signals, are_named_names, is_named_names, greatest_caps, route_keys}
use Rattle.gq_scenario.specs.Document.{or_empty, text_at, list_at, number_at, quantity_at, table_of, offers_of}
use Rattle.gq_scenario.specs.Sizes.{IsQuantum}
use Rattle.gq_model.specs.machine.Scenario.{Offers}
use Rattle.gq_reader.specs.internal.Faultless_tables.{is_name_or_none, has_source, offers_at, IsLeafTable, IsInitTable}
use Rattle.gq_reader.proofs.Faultless_table_facts.{absent}
use Rattle.gq_reader.proofs.Table_rules_kept.{AreKept, fits_or_none, kept, kept_parts, one_there, some_there, last_there, number_small, quantity_small}
use Rattle.gq_reader.proofs.Table_rules_kept.{name_or_none}
use Rattle.gq_reader.proofs.Table_rules_kept.{name_there, declared_name, source_there, all_at, few_at}

-- THE KEYS, by whether the version is at least 2, at least 3, and at least 4

abbrev caps_rest : Bool → List KeyRule
caps_rest two = cond two (required (codes "caps") (is_number 0 greatest_caps) ∷ []) [] ++ optional (codes "route") (is_list is_table) ∷ []

abbrev node_keys_by : Bool → List KeyRule
node_keys_by two = required (codes "name") is_name_text ∷ required (codes "quantum") (is_quantity 0 1099511627776) ∷ caps_rest two

abbrev source_keys : List KeyRule
source_keys = either (codes "program") (codes "code" ∷ []) is_text ∷ other (codes "code") (codes "program" ∷ []) is_hex ∷ []

abbrev inputs_key : Bool → List KeyRule
inputs_key three = cond three (optional (codes "inputs") is_inputs ∷ []) []

abbrev own_keys : Bool → List (List ℕ) → List KeyRule
own_keys three services = optional (codes "provides") (is_declared services) ∷ optional (codes "after") is_name_text ∷ inputs_key three

abbrev signals_key : Bool → List KeyRule
signals_key four = cond four (optional (codes "signals") (is_number 0 greatest_signals) ∷ []) []

abbrev leaf_keys_by : Bool → Bool → Bool → List (List ℕ) → List KeyRule
leaf_keys_by two three four services = ((node_keys_by two ++ own_keys three services) ++ signals_key four) ++ source_keys

abbrev offers_key : Bool → List KeyRule
offers_key three = cond three (optional (codes "offers") is_named_names ∷ []) []

abbrev init_rest : Bool → List KeyRule
init_rest three = required (codes "start") (is_list is_table) ∷ optional (codes "default-route") (is_list is_table) ∷ offers_key three

abbrev init_keys_by : Bool → Bool → List KeyRule
init_keys_by two three = node_keys_by two ++ init_rest three

pub record IsSoundLeaf (entries : Members) : Type 0 where
  pub name : is_name_or_none (text_at (codes "name") entries) ≡ true
  pub named : text_at (codes "name") entries ≡ None → ⊥
  pub quantum : IsQuantum (quantity_at (codes "quantum") entries) (number_at (codes "caps") entries)
  pub provides : is_name_or_none (text_at (codes "provides") entries) ≡ true
  pub after : is_name_or_none (text_at (codes "after") entries) ≡ true
  pub few : length (list_at (codes "inputs") entries) ≤ 8
  pub numbers : all_of (is_number 0 greatest_number) (list_at (codes "inputs") entries) ≡ true
  pub signals : number_at (codes "signals") entries ≤ 3
  pub source : has_source entries ≡ true

pub record IsSoundInit (entries : Members) : Type 0 where
  pub name : is_name_or_none (text_at (codes "name") entries) ≡ true
  pub named : text_at (codes "name") entries ≡ None → ⊥
  pub quantum : IsQuantum (quantity_at (codes "quantum") entries) (number_at (codes "caps") entries)
  pub offers : are_named_names (offers_at entries) ≡ true

-- CAPABILITIES

pub no_caps : (entries : Members) → get_member (codes "caps") entries ≡ None → number_at (codes "caps") entries ≤ 65536
no_caps entries e = rw e (omega arith)

kept_caps : (entries : Members) → fits_or_none (is_number 0 greatest_caps) (get_member (codes "caps") entries) ≡ true → number_at (codes "caps") entries ≤ 65536
kept_caps entries e = number_small 0 greatest_caps (get_member (codes "caps") entries) e

leaf_caps : (two three four : Bool) (services : List (List ℕ)) (entries : Members) → unknown_key (leaf_keys_by two three four services) entries ≡ None
    → AreKept (caps_rest two) entries → number_at (codes "caps") entries ≤ 65536
leaf_caps true three four services entries known k = kept_caps entries k.0.fits
leaf_caps false three four services entries known k =
    no_caps entries (absent (leaf_keys_by false three four services) entries (codes "caps") known (no_caps_key three four))
  where
    no_caps_key : (three four : Bool) → any_of (λ r. text_eq (codes "caps") r.key) (leaf_keys_by false three four services) ≡ false
    no_caps_key true true = refl
    no_caps_key true false = refl
    no_caps_key false true = refl
    no_caps_key false false = refl

init_caps : (two three : Bool) (entries : Members) → unknown_key (init_keys_by two three) entries ≡ None → AreKept (caps_rest two) entries
    → number_at (codes "caps") entries ≤ 65536
init_caps true three entries known k = kept_caps entries k.0.fits
init_caps false true entries known k = no_caps entries (absent (init_keys_by false true) entries (codes "caps") known refl)
init_caps false false entries known k = no_caps entries (absent (init_keys_by false false) entries (codes "caps") known refl)

-- INPUTS

no_inputs : (entries : Members) → get_member (codes "inputs") entries ≡ None → fits_or_none is_inputs (get_member (codes "inputs") entries) ≡ true
no_inputs entries e = rw e refl

inputs_fit : (two three four : Bool) (services : List (List ℕ)) (entries : Members) → unknown_key (leaf_keys_by two three four services) entries ≡ None
    → AreKept (inputs_key three) entries → fits_or_none is_inputs (get_member (codes "inputs") entries) ≡ true
inputs_fit two true four services entries known k = k.0.fits
inputs_fit two false four services entries known k =
    no_inputs entries (absent (leaf_keys_by two false four services) entries (codes "inputs") known (no_inputs_key two four))
  where
    no_inputs_key : (two four : Bool) → any_of (λ r. text_eq (codes "inputs") r.key) (leaf_keys_by two false four services) ≡ false
    no_inputs_key true true = refl
    no_inputs_key true false = refl
    no_inputs_key false true = refl
    no_inputs_key false false = refl

-- SIGNALS

no_signals : (entries : Members) → get_member (codes "signals") entries ≡ None → number_at (codes "signals") entries ≤ 3
no_signals entries e = rw e (omega arith)

signals_few : (two three four : Bool) (services : List (List ℕ)) (entries : Members) → unknown_key (leaf_keys_by two three four services) entries ≡ None
    → AreKept (signals_key four) entries → number_at (codes "signals") entries ≤ 3
signals_few two three true services entries known k = number_small 0 greatest_signals (get_member (codes "signals") entries) k.0.fits
signals_few two three false services entries known k =
    no_signals entries (absent (leaf_keys_by two three false services) entries (codes "signals") known (no_signals_key two three))
  where
    no_signals_key : (two three : Bool) → any_of (λ r. text_eq (codes "signals") r.key) (leaf_keys_by two three false services) ≡ false
    no_signals_key true true = refl
    no_signals_key true false = refl
    no_signals_key false true = refl
    no_signals_key false false = refl

-- OFFERS

table_named : (d : Data) → is_named_names d ≡ true → are_named_names (table_of (Some d)) ≡ true
table_named (string s) e = refl
table_named (integer z) e = refl
table_named (float x) e = refl
table_named (boolean b) e = refl
table_named (datetime x) e = refl
table_named (array ds) e = refl
table_named (table ms) e = e

names_named : (o : Option Data) → fits_or_none is_named_names o ≡ true → are_named_names (table_of o) ≡ true
names_named None e = refl
names_named (Some d) e = table_named d e

no_offers : (entries : Members) → get_member (codes "offers") entries ≡ None → are_named_names (offers_at entries) ≡ true
no_offers entries e = rw e refl

offers_named : (two three : Bool) (entries : Members) → unknown_key (init_keys_by two three) entries ≡ None
    → AreKept (offers_key three) entries → are_named_names (offers_at entries) ≡ true
offers_named two true entries known k = names_named (get_member (codes "offers") entries) k.0.fits
offers_named true false entries known k = no_offers entries (absent (init_keys_by true false) entries (codes "offers") known refl)
offers_named false false entries known k = no_offers entries (absent (init_keys_by false false) entries (codes "offers") known refl)

pub rest_offered : (key : List ℕ) (d : Data) (rest : Members) → are_named_names (member key d rest) ≡ true
    → (is_name key ≡ true) × (is_name_text d ≡ true) × (are_named_names rest ≡ true)
rest_offered key d rest e =
    let (here, others) = and_parts (is_name key && is_name_text d) (are_named_names rest) e in
    let (named, child) = and_parts (is_name key) (is_name_text d) here in (named, child, others)

-- one offer more
pub offer_read : (key : List ℕ) (d : Data) (rest : Members) (done : Offers) (service child : List ℕ) → service ≡ key → text_of d ≡ Some child
    → (done ++ (service, child) ∷ []) ++ offers_of rest ≡ done ++ offers_of (member key d rest)
offer_read key d rest done service child e f =
    let one : (service, child) ∷ offers_of rest ≡ offers_of (member key d rest) = rw (e, f) refl in
    append_assoc done ((service, child) ∷ []) (offers_of rest) ∙ ap (λ l. done ++ l) one

-- NODES

leaf_by : (two three four : Bool) (services : List (List ℕ)) (entries : Members) → all_of is_name services ≡ true
    → table_fault (leaf_keys_by two three four services) entries ≡ None → IsSoundLeaf entries
leaf_by two three four services entries names e =
    let (known, all) = kept (leaf_keys_by two three four services) entries e in
    let (most, source) = kept_parts ((node_keys_by two ++ own_keys three services) ++ signals_key four) source_keys entries all in
    let (more, signals) = kept_parts (node_keys_by two ++ own_keys three services) (signals_key four) entries most in
    let (node, own) = kept_parts (node_keys_by two) (own_keys three services) entries more in
    let inputs = inputs_fit two three four services entries known own.1.1 in
    record {
      name = name_or_none (get_member (codes "name") entries) node.0.fits;
      named = name_there (get_member (codes "name") entries) (one_there _ node.0.there) node.0.fits;
      quantum = record {
        bytes = quantity_small 0 1099511627776 (get_member (codes "quantum") entries) node.1.0.fits;
        few = leaf_caps two three four services entries known node.1.1;
      };
      provides = declared_name services (get_member (codes "provides") entries) names own.0.fits;
      after = name_or_none (get_member (codes "after") entries) own.1.0.fits;
      few = few_at (is_number 0 greatest_number) 8 (codes "inputs") entries (get_member (codes "inputs") entries) refl inputs;
      numbers = all_at (is_number 0 greatest_number) (λ d. between 0 8 (list_length (items_of d))) (codes "inputs") entries
          (get_member (codes "inputs") entries) refl inputs;
      signals = signals_few two three four services entries known signals;
      source = source_there (get_member (codes "program") entries) (get_member (codes "code") entries)
          (some_there _ _ source.0.there) source.0.fits source.1.0.fits;
    }

init_by : (two three : Bool) (entries : Members) → table_fault (init_keys_by two three) entries ≡ None → IsSoundInit entries
init_by two three entries e =
    let (known, all) = kept (init_keys_by two three) entries e in
    let (node, own) = kept_parts (node_keys_by two) (init_rest three) entries all in
    record {
      name = name_or_none (get_member (codes "name") entries) node.0.fits;
      named = name_there (get_member (codes "name") entries) (one_there _ node.0.there) node.0.fits;
      quantum = record {
        bytes = quantity_small 0 1099511627776 (get_member (codes "quantum") entries) node.1.0.fits;
        few = init_caps two three entries known node.1.1;
      };
      offers = offers_named two three entries known own.1.1;
    }

pub sound_leaf : (entries : Members) → IsLeafTable entries → IsSoundLeaf entries
sound_leaf entries t = leaf_by (nat_le 2 t.version) (nat_le 3 t.version) (nat_le 4 t.version) t.services entries t.names t.keys

pub sound_init : (entries : Members) → IsInitTable entries → IsSoundInit entries
sound_init entries t = init_by (nat_le 2 t.version) (nat_le 3 t.version) entries t.keys

-- ROUTES

pub record IsSoundRoute (entries : Members) : Type 0 where
  pub service : is_name_or_none (text_at (codes "service") entries) ≡ true
  pub child : is_name_or_none (text_at (codes "child") entries) ≡ true
  pub named : has entries (codes "parent") ≡ false → has entries (codes "any-child") ≡ false → text_at (codes "child") entries ≡ None → ⊥

pub sound_route : (entries : Members) → table_fault route_keys entries ≡ None → IsSoundRoute entries
sound_route entries e =
    let (known, k) = kept route_keys entries e in
    record {
      service = name_or_none (get_member (codes "service") entries) k.0.fits;
      child = name_or_none (get_member (codes "child") entries) k.1.1.0.fits;
      named = λ parent any_child. name_there (get_member (codes "child") entries) (last_there _ _ _ k.1.1.0.there any_child parent) k.1.1.0.fits;
    }
