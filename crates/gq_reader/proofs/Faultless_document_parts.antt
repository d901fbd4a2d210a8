-- A document whose tables have no faults: its parts, and the faults that are left.
use Rattle.std.proofs.Common.{◌≡◌, ℕ, suc, ◌<◌, ◌≤◌, ◌%◌, ◌==◌, nat_lt, zero, is_some, Bool, true, false, ◌||◌, ◌&&◌, cond, List, [], ◌∷◌, ◌++◌, length, Option}
use Rattle.std.proofs.Common.{Some, None}
use Rattle.std.proofs.Common.{nat_le, refl, ap, sym, ◌∙◌, arith}
use Rattle.std.specs.Prelude.{codes}
use Rattle.std.proofs.lemmas.Bool.{and_from, lt-ltb, le-ltb, le-leb, false≢true}
use Rattle.std.proofs.lemmas.Bool.Decides.{nat_tests}
use Rattle.toml.specs.Data.{Data, string, integer, float, boolean, datetime, array, table, Members, no_members, member, get_member}
use Rattle.toml.specs.View.{members_view}
use Rattle.toml.proofs.Views.{Entry}
use Rattle.gq_model.specs.machine.Accounts.{leaf_count}
use Rattle.gq_model.specs.machine.Amounts.{counts_caps}
use Rattle.gq_model.specs.machine.Lists.{all_of, between, or_first}
use Rattle.gq_model.specs.texts.Letters.{is_name}
use Rattle.gq_model.specs.machine.Scenario.{Scenario}
use Rattle.gq_scenario.specs.Table_keys.{DocumentFault, TooMany, KeyRule, has, number_of, members_of, required, optional, passes, quantity, is_number, is_table}
use Rattle.gq_scenario.specs.Table_keys.{is_list, table_fault}
use Rattle.gq_scenario.specs.Document_tables.{greatest_caps, is_total, are_named_tables, is_named_tables, version_of, top_keys, init_keys, leaf_keys}
use Rattle.gq_scenario.specs.Document.{nodes_by, node_onto, is_init, init_of, leaf_of, or_zero, value_of, number_at, quantity_at, list_at, table_of, keys_of}
use Rattle.gq_scenario.specs.Document.{described, routes_fault, interfaces_fault, node_fault}
use Rattle.gq_scenario.specs.Document.{first_of, walk_fault, init_count, is_long, has_long_routes, has_too_many, counts_fault, names_of, name_twice}
use Rattle.gq_scenario.specs.Document.{document_fault}
use Rattle.gq_reader.specs.internal.Document_parts.{interfaces_at, are_too_many, parts_fault}
use Rattle.gq_scenario.specs.Scenario_parts.{IsScenario}
use Rattle.gq_scenario.specs.Sizes.{IsQuantum, IsMemory, depth, few_signals}
use Rattle.std.proofs.Math.Nat.{max-le}
use Rattle.gq_model.specs.machine.Scenario.{LeafNode, InitNode, Nodes, Leaf_node, Init_node}
use Rattle.gq_reader.specs.internal.Faultless_tables.{AreNodes}
use Rattle.gq_reader.proofs.Faultless_table_facts.{absent}
use Rattle.gq_reader.proofs.Table_rules_kept.{fits_or_none, kept, one_there, number_small}
use Rattle.gq_reader.proofs.Interface_tables.{interfaces_length, rest_named}
use Rattle.gq_reader.proofs.Node_tables.{no_caps, sound_leaf}
use Rattle.gq_model.proofs.Small_facts.{or_first_none}

-- THE TOP TABLE

abbrev keys_by : Bool → List KeyRule
keys_by two =
    required (codes "version") (is_number 1 4) ∷ required (codes "ram") is_total ∷ cond two (required (codes "caps") (is_number 1 greatest_caps) ∷ []) []
    ++ optional (codes "default-route") (is_list is_table) ∷ optional (codes "interface") is_named_tables ∷ required (codes "start") (is_list is_table) ∷ []

pub record IsSoundTop (two : Bool) (top : Members) : Type 0 where
  pub memory : IsMemory (quantity_at (codes "ram") top)
  pub caps : two ≡ true → 1 ≤ number_at (codes "caps") top
  pub total : IsQuantum (quantity_at (codes "ram") top) (number_at (codes "caps") top)
  pub named : are_named_tables (interfaces_at top) ≡ true

few_bytes : (n : ℕ) → (between 4096 67108864 n && n % 4096 == 0) ≡ true → n ≤ 1099511627776
few_bytes n e = grind (arith, nat_tests)

few_passed : (o : Option ℕ) → passes (λ n. between 4096 67108864 n && n % 4096 == 0) o ≡ true → or_zero o ≤ 1099511627776
few_passed None e = absurd cc
few_passed (Some n) e = few_bytes n e

total_small : (o : Option Data) → fits_or_none is_total o ≡ true → or_zero (value_of quantity o) ≤ 1099511627776
total_small None e = omega arith
total_small (Some d) e = few_passed (quantity d) e

memory_by : (n : ℕ) → (between 4096 67108864 n && n % 4096 == 0) ≡ true → IsMemory n
memory_by n e = record { least = grind (arith, nat_tests); most = grind (arith, nat_tests); whole = grind (arith, nat_tests) }

memory_passed : (o : Option ℕ) → passes (λ n. between 4096 67108864 n && n % 4096 == 0) o ≡ true → IsMemory (or_zero o)
memory_passed None e = absurd cc
memory_passed (Some n) e = memory_by n e

-- the bytes of the whole system, which have to be reported
memory_at : (o : Option Data) → is_some o ≡ true → fits_or_none is_total o ≡ true → IsMemory (or_zero (value_of quantity o))
memory_at None h e = absurd cc
memory_at (Some d) h e = memory_passed (quantity d) e

above_low : (low high n : ℕ) → between low high n ≡ true → low ≤ n
above_low low high n e = grind (arith, nat_tests)

passed_above : (low high : ℕ) (o : Option ℕ) → passes (between low high) o ≡ true → low ≤ or_zero o
passed_above low high None e = absurd cc
passed_above low high (Some n) e = above_low low high n e

number_great : (low high : ℕ) (o : Option Data) → is_some o ≡ true → fits_or_none (is_number low high) o ≡ true → low ≤ or_zero (value_of number_of o)
number_great low high None h e = absurd cc
number_great low high (Some d) h e = passed_above low high (number_of d) e

tables_named : (o : Option Data) → fits_or_none is_named_tables o ≡ true → are_named_tables (table_of o) ≡ true
tables_named None e = refl
tables_named (Some (string s)) e = refl
tables_named (Some (integer z)) e = refl
tables_named (Some (float x)) e = refl
tables_named (Some (boolean b)) e = refl
tables_named (Some (datetime x)) e = refl
tables_named (Some (array ds)) e = refl
tables_named (Some (table ms)) e = e

top_by : (two : Bool) (top : Members) → table_fault (keys_by two) top ≡ None → IsSoundTop two top
top_by true top e =
    let (known, k) = kept (keys_by true) top e in
    record {
      memory = memory_at (get_member (codes "ram") top) (one_there (has top (codes "ram")) k.1.0.there) k.1.0.fits;
      caps = λ e. number_great 1 greatest_caps (get_member (codes "caps") top) (one_there (has top (codes "caps")) k.1.1.0.there) k.1.1.0.fits;
      total = record {
        bytes = total_small (get_member (codes "ram") top) k.1.0.fits;
        few =
            number_small 1 greatest_caps (get_member (codes "caps") top) k.1.1.0.fits;
      };
      named = tables_named (get_member (codes "interface") top) k.1.1.1.1.0.fits;
    }
top_by false top e =
    let (known, k) = kept (keys_by false) top e in
    record {
      memory = memory_at (get_member (codes "ram") top) (one_there (has top (codes "ram")) k.1.0.there) k.1.0.fits;
      caps = λ e. absurd (false≢true e);
      total = record {
        bytes = total_small (get_member (codes "ram") top) k.1.0.fits;
        few =
            no_caps top (absent (keys_by false) top (codes "caps") known refl);
      };
      named = tables_named (get_member (codes "interface") top) k.1.1.1.0.fits;
    }

names_reported : (entries : Members) → are_named_tables entries ≡ true → all_of is_name (keys_of entries) ≡ true
names_reported no_members e = refl
names_reported (member key d rest) e = let (named, here, others) = rest_named key d rest e in rw (named, names_reported rest others) refl

-- THE WALK

pub record IsWalked (top : Members) : Type 0 where
  pub sound : IsSoundTop (counts_caps (version_of top)) top
  pub interfaces : interfaces_fault (version_of top) (interfaces_at top) ≡ None
  pub routes : routes_fault (codes "default-route") top ≡ None
  pub nodes : AreNodes 4 (list_at (codes "start") top)

pub walked : (top : Members) → walk_fault top ≡ None → IsWalked top
walked top e =
    let version = version_of top in
    let nodes = first_of (node_fault 4 version (keys_of (interfaces_at top))) (list_at (codes "start") top) in
    let routes = routes_fault (codes "default-route") top in
    let interfaces = interfaces_fault version (interfaces_at top) in
    let (tables, more) = or_first_none (table_fault (top_keys version) top) (or_first interfaces (or_first routes nodes)) e in
    let (no_interface, more') = or_first_none interfaces (or_first routes nodes) more in
    let (no_route, no_node) = or_first_none routes nodes more' in
    let sound = top_by (counts_caps version) top tables in
    record {
      sound = sound;
      interfaces = no_interface;
      routes = no_route;
      nodes = record { version = version; services = keys_of (interfaces_at top); names = names_reported (interfaces_at top) sound.named; sound = no_node };
    }

-- DEPTH

deep_onto : (b : Bool) (n : ℕ) (init : InitNode) (children rest : Nodes) (leaf : LeafNode) → depth children ≤ n → depth rest ≤ suc n
    → depth (cond b (Init_node init children rest) (Leaf_node leaf rest)) ≤ suc n
deep_onto true n init children rest leaf h k = max-le (omega (arith, h)) k
deep_onto false n init children rest leaf h k = max-le (omega arith) k

-- nodes that are read so far down are no deeper
deep_by : (n : ℕ) (ds : List Data) → depth (nodes_by (node_onto n) ds) ≤ n
deep_by zero [] = omega arith
deep_by zero (d ∷ ds) = deep_by zero ds
deep_by (suc n) [] = omega arith
deep_by (suc n) (d ∷ ds) =
    let entries = members_of d in
    deep_onto (is_init entries) n (init_of entries) (nodes_by (node_onto n) (list_at (codes "start") entries)) (nodes_by (node_onto (suc n)) ds)
    (leaf_of entries)
    (deep_by n (list_at (codes "start") entries)) (deep_by (suc n) ds)

-- SIGNALS

few_onto : (b : Bool) (init : InitNode) (children rest : Nodes) (leaf : LeafNode) → (b ≡ true → few_signals children ≡ true)
    → (b ≡ false → leaf.signals ≤ 3) → few_signals rest ≡ true → few_signals (cond b (Init_node init children rest) (Leaf_node leaf rest)) ≡ true
few_onto true init children rest leaf below here r = and_from (few_signals children) (few_signals rest) (below refl) r
few_onto false init children rest leaf below here r = and_from (nat_le leaf.signals 3) (few_signals rest) (le-leb leaf.signals 3 (here refl)) r

-- nodes whose tables have no faults have few signals
few_by : (n version : ℕ) (services : List (List ℕ)) (ds : List Data) → all_of is_name services ≡ true → first_of (node_fault n version services) ds ≡ None
    → few_signals (nodes_by (node_onto n) ds) ≡ true
few_by n version services [] names e = refl
few_by zero version services (d ∷ ds) names e = absurd cc
few_by (suc n) version services (d ∷ ds) names e =
    let entries = members_of d in
    let keys = cond (is_init entries) (init_keys version) (leaf_keys version services) in
    let all = or_first_none (node_fault (suc n) version services entries) (first_of (node_fault (suc n) version services) ds) e in
    let more = or_first_none (table_fault keys entries) _ all.0 in
    let routes = or_first_none (routes_fault (codes "route") entries) _ more.1 in
    let children = or_first_none (routes_fault (codes "default-route") entries) _ routes.1 in
    few_onto (is_init entries) (init_of entries) (nodes_by (node_onto n) (list_at (codes "start") entries)) (nodes_by (node_onto (suc n)) ds)
    (leaf_of entries)
    (λ i. few_by n version services (list_at (codes "start") entries) names children.1)
    (λ i. (sound_leaf entries (record {
      version = version;
      services = services;
      names = names;
      keys = ap (λ b. table_fault (cond b (init_keys version) (leaf_keys version services)) entries) (sym i) ∙ more.0;
      routes = routes.0;
    })).signals)
    (few_by (suc n) version services ds names all.1)

-- no leaf that such a document describes has more than 3 signals
pub described_signals : (top : Members) → walk_fault top ≡ None → few_signals (described top).nodes ≡ true
described_signals top e =
    let nodes = (walked top e).nodes in few_by 4 nodes.version nodes.services (list_at (codes "start") top) nodes.names nodes.sound

-- COUNTS AND NAMES

pub keys_length : (es : List Entry) → length (keys_of (members_view es)) ≡ length es
keys_length [] = refl
keys_length (e ∷ es) = ap suc (keys_length es)

parted : (a b c d e : Bool) → (a || b || c || d || e) ≡ (c || (a || b || d || e))
parted true b true d e = refl
parted true b false d e = refl
parted false true true d e = refl
parted false true false d e = refl
parted false false true d e = refl
parted false false false d e = refl

many_is : (s : Scenario) → has_too_many s ≡ (nat_lt 64 (length s.interfaces) || are_too_many s.default_routes s.nodes)
many_is s = parted (nat_lt 64 (leaf_count s.nodes)) (nat_lt 64 (init_count s.nodes)) (nat_lt 64 (length s.interfaces)) (is_long s.default_routes)
    (has_long_routes s.nodes)

fault_by : Bool → Bool → Option DocumentFault → Option DocumentFault
fault_by interfaces parts twice = or_first (cond (interfaces || parts) (Some TooMany) None) twice

by_parts : (b : Bool) (o : Option DocumentFault) → fault_by false b o ≡ cond b (Some TooMany) o
unfolding fault_by
by_parts true o = refl
by_parts false o = refl

none_left : (b : Bool) (o : Option DocumentFault) → cond b (Some TooMany) o ≡ None → (b ≡ false) × (o ≡ None)
none_left true o e = absurd cc
none_left false o e = (refl, e)

none_first : (a b : Option DocumentFault) → a ≡ None → or_first a b ≡ b
none_first None b e = refl
none_first (Some d) b e = cc

counts_same : (s : Scenario) → counts_fault s ≡ cond (nat_lt 64 (length s.interfaces) || are_too_many s.default_routes s.nodes) (Some TooMany) None
counts_same s = ap (λ b. cond b (Some TooMany) None) (many_is s)

twice_in : Scenario → Option DocumentFault
twice_in s = name_twice (codes "init" ∷ []) (names_of s.nodes)

module _ (top : Members) (no_fault : walk_fault top ≡ None) where
  later : document_fault top ≡ fault_by (nat_lt 64 (length (keys_of (interfaces_at top)))) (are_too_many (described top).default_routes (described top).nodes)
      (twice_in (described top))
  unfolding fault_by twice_in
  later =
      none_first (walk_fault top) (or_first (counts_fault (described top)) (twice_in (described top))) no_fault
      ∙ (ap (λ o. or_first o (twice_in (described top))) (counts_same (described top))
      ∙ ap (λ n. or_first (cond (nat_lt 64 n || are_too_many (described top).default_routes (described top).nodes) (Some TooMany) None)
      (twice_in (described top)))
      (interfaces_length (version_of top) (interfaces_at top)))

  pub many_interfaces : 64 < length (keys_of (interfaces_at top)) → document_fault top ≡ Some TooMany
  unfolding fault_by
  many_interfaces h = later ∙ rw (lt-ltb 64 (length (keys_of (interfaces_at top))) h) refl

  module _ (few : length (keys_of (interfaces_at top)) ≤ 64) where
    after_interfaces : document_fault top ≡ fault_by false (are_too_many (described top).default_routes (described top).nodes) (twice_in (described top))
    after_interfaces = later ∙ ap (λ b. fault_by b (are_too_many (described top).default_routes (described top).nodes) (twice_in (described top)))
        (le-ltb 64 (length (keys_of (interfaces_at top))) few)

    pub parts_left : document_fault top ≡ parts_fault (described top).default_routes (described top).nodes
    unfolding twice_in
    parts_left = after_interfaces ∙ by_parts (are_too_many (described top).default_routes (described top).nodes) (twice_in (described top))

    -- such a document describes a scenario
    pub is_scenario : parts_fault (described top).default_routes (described top).nodes ≡ None → IsScenario (described top)
    is_scenario none =
        let (e, single) = none_left (are_too_many (described top).default_routes (described top).nodes)
        (name_twice (codes "init" ∷ []) (names_of (described top).nodes)) none in
        let interfaces : nat_lt 64 (length (described top).interfaces) ≡ false =
        ap (nat_lt 64) (interfaces_length (version_of top) (interfaces_at top)) ∙ le-ltb 64 (length (keys_of (interfaces_at top))) few in
        let sound = (walked top no_fault).sound in
        record {
          few = many_is (described top) ∙ (λ i. interfaces i || e i);
          single = single;
          memory = sound.memory;
          caps = sound.caps;
          shallow = deep_by 4 (list_at (codes "start") top);
          signals = described_signals top no_fault;
        }
