-- The first of a document's faults is the one that its reader reports: of counts and of names, where its tables have none.
use Rattle.std.proofs.Common.{◌≡◌, ℕ, zero, suc, ◌+◌, Bool, true, false, ◌||◌, cond, List, [], ◌∷◌, ◌++◌, length, filter, Option, Some, None}
use Rattle.std.proofs.Common.{refl, ap, sym, ◌∙◌, append-nil, length-append}
use Rattle.std.specs.Prelude.{codes, nat_lt, is_some}
use Rattle.std.proofs.lemmas.Bool.{and_parts}
use Rattle.toml.specs.Data.{Data, Members, no_members, member, get_member}
use Rattle.gq_model.specs.machine.Accounts.{leaf_count}
use Rattle.gq_model.specs.machine.Lists.{any_of, all_of, or_first}
use Rattle.gq_model.specs.machine.Program.{text_eq}
use Rattle.gq_model.specs.machine.Scenario.{Nodes, End, Leaf_node, Init_node}
use Rattle.gq_model.specs.texts.Letters.{is_name}
use Rattle.gq_model.proofs.Small_facts.{or_first_none}
use Rattle.gq_scenario.specs.Document.{described, document_fault, first_of, list_at, table_of, keys_of, is_init, is_long, routes_at, routes_fault, node_fault}
use Rattle.gq_scenario.specs.Document.{walk_fault, nodes_by, node_onto, leaf_of, init_of, init_count, has_long_routes, counts_fault, names_of}
use Rattle.gq_scenario.specs.Document.{name_twice, name_at, or_empty, value_of, interfaces_of}
use Rattle.gq_scenario.specs.Table_keys.{DocumentFault, NameTwice, TooMany, members_of, is_table, is_name_text, text_of, table_fault, passes}
use Rattle.gq_scenario.specs.Document.{interfaces_fault}
use Rattle.gq_scenario.specs.Document_tables.{top_keys, init_keys, leaf_keys, version_of}
use Rattle.gq_reader.proofs.Table_rules_kept.{kept, fits_or_none, one_there}
use Rattle.gq_faults.specs.Found_lists.{when, all_found, first}
use Rattle.gq_faults.specs.Documents.{in_table, in_tables, DocumentNode, nodes_below, nodes_in, is_inner, is_leaf, long_lists, counts_faults, named}
use Rattle.gq_faults.specs.Documents.{names_twice}
use Rattle.gq_faults.specs.Documents.{keys_of_node, names_faults, walk_faults, document_faults}
use Rattle.gq_faults.proofs.First_fault_found.{first_both, first_then, first_when, all_found-append, or_assoc}
use Rattle.gq_faults.proofs.First_of_documents.{HasParts, lists_of, parts_of, at_table, walk_first}

abbrev node_of : Members → DocumentNode
node_of entries = record { deep = false; entries = entries }

-- WHAT IS KEPT OF EACH NODE

-- without a key there is no list at it
no_list : (entries : Members) (key : List ℕ) (o : Option Data) → get_member key entries ≡ o → is_some o ≡ false → list_at key entries ≡ []
no_list entries key None is e = rw is refl
no_list entries key (Some d) is e = absurd cc

module _ {B : Type 0} (m : Nodes → List B) (p : DocumentNode → List B) (version : ℕ) (services : List (List ℕ)) (end : m End ≡ [])
    (leaf : (entries : Members) (rest : Nodes) → is_init entries ≡ false → table_fault (leaf_keys version services) entries ≡ None
    → m (Leaf_node (leaf_of entries) rest) ≡ p (node_of entries) ++ m rest)
    (init : (entries : Members) (children rest : Nodes) → is_init entries ≡ true → table_fault (init_keys version) entries ≡ None
    → m (Init_node (init_of entries) children rest) ≡ p (node_of entries) ++ m children ++ m rest) where
  -- those of a list, of which it is known of each
  of_list : (n : ℕ)
      → ((entries : Members) (rest : Nodes) → node_fault n version services entries ≡ None
      → m (node_onto n entries rest) ≡ all_found p (nodes_below n entries) ++ m rest)
      → (ds : List Data) → all_of is_table ds ≡ true → first_of (node_fault n version services) ds ≡ None
      → m (nodes_by (node_onto n) ds) ≡ all_found p (in_tables (nodes_below n) ds)
  of_list n each [] e none = end
  of_list n each (d ∷ ds) e none =
      let q = and_parts (is_table d) (all_of is_table ds) e in
      let (here, later) = or_first_none (node_fault n version services (members_of d)) (first_of (node_fault n version services) ds) none in
      each (members_of d) (nodes_by (node_onto n) ds) here
      ∙ (ap (λ l. all_found p (nodes_below n (members_of d)) ++ l) (of_list n each ds q.1 later)
      ∙ (ap (λ l. all_found p l ++ all_found p (in_tables (nodes_below n) ds)) (sym (at_table (nodes_below n) d q.0))
      ∙ sym (all_found-append p (in_table (nodes_below n) d) (in_tables (nodes_below n) ds))))

  of_init : (n : ℕ) (entries : Members) (rest : Nodes) (children : Nodes) (below : List DocumentNode) → is_init entries ≡ true
      → table_fault (init_keys version) entries ≡ None → m children ≡ all_found p below
      → m (Init_node (init_of entries) children rest) ≡ all_found p (node_of entries ∷ below) ++ m rest
  of_init n entries rest children below is none e =
      init entries children rest is none ∙ ap (λ l. p (node_of entries) ++ l ++ m rest) e

  of_leaf : (n : ℕ) (entries : Members) (rest : Nodes) → is_init entries ≡ false → table_fault (leaf_keys version services) entries ≡ None
      → m (Leaf_node (leaf_of entries) rest)
      ≡ all_found p (node_of entries ∷ in_tables (nodes_below n) (list_at (codes "start") entries)) ++ m rest
  of_leaf n entries rest is none =
      leaf entries rest is none
      ∙ rw (no_list entries (codes "start") (get_member (codes "start") entries) refl is) (ap (λ l. l ++ m rest) (sym (append-nil (p (node_of entries)))))

  of_either : (n : ℕ) (entries : Members) (rest : Nodes) → (b : Bool) → is_init entries ≡ b
      → table_fault (keys_of_node version services entries) entries ≡ None
      → m (nodes_by (node_onto n) (list_at (codes "start") entries)) ≡ all_found p (in_tables (nodes_below n) (list_at (codes "start") entries))
      → m (node_onto (suc n) entries rest) ≡ all_found p (nodes_below (suc n) entries) ++ m rest
  of_either n entries rest true is keys e =
      rw is (of_init n entries rest (nodes_by (node_onto n) (list_at (codes "start") entries)) (in_tables (nodes_below n) (list_at (codes "start") entries)) is
      (rw is at keys) e)
  of_either n entries rest false is keys e = rw is (of_leaf n entries rest is (rw is at keys))

  of_node : (n : ℕ) (entries : Members) (rest : Nodes) → node_fault n version services entries ≡ None
      → m (node_onto n entries rest) ≡ all_found p (nodes_below n entries) ++ m rest
  of_node zero entries rest none = absurd cc
  of_node (suc n) entries rest none =
      let (keys, more) = or_first_none (table_fault (keys_of_node version services entries) entries) _ none in
      let (routes, others) = or_first_none (routes_fault (codes "route") entries) _ more in
      let (defaults, below) = or_first_none (routes_fault (codes "default-route") entries) _ others in
      of_either n entries rest (is_init entries) refl keys
      (of_list n (of_node n) (list_at (codes "start") entries) (lists_of version services entries keys).start below)

  pub of_nodes : (n : ℕ) (ds : List Data) → all_of is_table ds ≡ true → first_of (node_fault n version services) ds ≡ None
      → m (nodes_by (node_onto n) ds) ≡ all_found p (in_tables (nodes_below n) ds)
  of_nodes n ds e none = of_list n (of_node n) ds e none

-- COUNTS

-- a mark for each leaf
abbrev leaves : Nodes → List ℕ
leaves End = []
leaves (Leaf_node node rest) = 0 ∷ leaves rest
leaves (Init_node node children rest) = leaves children ++ leaves rest

leaves_are : (nodes : Nodes) → length (leaves nodes) ≡ leaf_count nodes
leaves_are End = refl
leaves_are (Leaf_node node rest) = ap suc (leaves_are rest)
leaves_are (Init_node node children rest) =
    length-append (leaves children) (leaves rest) ∙ (ap (λ n. n + length (leaves rest)) (leaves_are children)
    ∙ ap (λ n. leaf_count children + n) (leaves_are rest))

-- a mark for each init
abbrev inits : Nodes → List ℕ
inits End = []
inits (Leaf_node node rest) = inits rest
inits (Init_node node children rest) = 0 ∷ inits children ++ inits rest

inits_are : (nodes : Nodes) → length (inits nodes) ≡ init_count nodes
inits_are End = refl
inits_are (Leaf_node node rest) = inits_are rest
inits_are (Init_node node children rest) =
    ap suc (length-append (inits children) (inits rest)
    ∙ (ap (λ n. n + length (inits rest)) (inits_are children) ∙ ap (λ n. init_count children + n) (inits_are rest)))

-- a mark for each node that passes a test
marked : (test : DocumentNode → Bool) (nodes : List DocumentNode) → length {A = ℕ} (all_found (λ node. when (test node) 0) nodes) ≡ length (filter test nodes)
marked test [] = refl
marked test (node ∷ nodes) = by (test node) (marked test nodes)
  where
    by : (b : Bool) → length {A = ℕ} (all_found (λ node. when (test node) 0) nodes) ≡ length (filter test nodes)
        → length {A = ℕ} (when b 0 ++ all_found (λ node. when (test node) 0) nodes) ≡ length (cond b (node ∷ filter test nodes) (filter test nodes))
    by true e = ap suc e
    by false e = e

-- each list of routes that is too long
abbrev longs : Nodes → List DocumentFault
longs End = []
longs (Leaf_node node rest) = when (is_long node.routes) TooMany ++ longs rest
longs (Init_node node children rest) =
    when (is_long node.routes) TooMany ++ when (is_long node.default_routes) TooMany ++ longs children ++ longs rest

abbrev reported : Bool → Option DocumentFault
reported b = cond b (Some TooMany) None

reported_either : (a b : Bool) → or_first (reported a) (reported b) ≡ reported (a || b)
reported_either true b = refl
reported_either false b = refl

first_reported : (b : Bool) → first (when b TooMany) ≡ reported b
first_reported true = refl
first_reported false = refl

longs_are : (nodes : Nodes) → first (longs nodes) ≡ reported (has_long_routes nodes)
longs_are End = refl
longs_are (Leaf_node node rest) =
    first_both (when (is_long node.routes) TooMany) (longs rest) (reported (is_long node.routes)) (reported (has_long_routes rest))
    (first_reported (is_long node.routes)) (longs_are rest)
    ∙ reported_either (is_long node.routes) (has_long_routes rest)
longs_are (Init_node node children rest) =
    let a = is_long node.routes in
    let b = is_long node.default_routes in
    let c = has_long_routes children in
    let d = has_long_routes rest in
    first_both (when a TooMany ++ when b TooMany ++ longs children) (longs rest) (reported (a || b || c)) (reported d)
    (first_both (when a TooMany ++ when b TooMany) (longs children) (reported (a || b)) (reported c)
    (first_both (when a TooMany) (when b TooMany) (reported a) (reported b) (first_reported a) (first_reported b) ∙ reported_either a b) (longs_are children)
    ∙ reported_either (a || b) c) (longs_are rest)
    ∙ reported_either (a || b || c) d

five : (a b c d e : Bool) (rest : List DocumentFault) → first rest ≡ reported e
    → first (when a TooMany ++ when b TooMany ++ when c TooMany ++ when d TooMany ++ rest) ≡ reported (a || b || c || d || e)
five a b c d e rest h =
    first_both (when a TooMany ++ when b TooMany ++ when c TooMany ++ when d TooMany) rest (reported (a || b || c || d)) (reported e)
    (first_both (when a TooMany ++ when b TooMany ++ when c TooMany) (when d TooMany) (reported (a || b || c)) (reported d)
    (first_both (when a TooMany ++ when b TooMany) (when c TooMany) (reported (a || b)) (reported c)
    (first_both (when a TooMany) (when b TooMany) (reported a) (reported b) (first_reported a) (first_reported b) ∙ reported_either a b) (first_reported c)
    ∙ reported_either (a || b) c) (first_reported d)
    ∙ reported_either (a || b || c) d) h
    ∙ reported_either (a || b || c || d) e

interfaces_count : (version : ℕ) (entries : Members) → length (keys_of entries) ≡ length (interfaces_of version entries)
interfaces_count version no_members = refl
interfaces_count version (member key d rest) = ap suc (interfaces_count version rest)

-- NAMES

first_twice : (seen names : List (List ℕ)) → first (names_twice seen names) ≡ name_twice seen names
first_twice seen [] = refl
first_twice seen (name ∷ rest) = first_when (any_of (text_eq name) seen) (NameTwice name) _ _ (first_twice (name ∷ seen) rest)

passed_text : (o : Option (List ℕ)) → passes is_name o ≡ true → is_name (or_empty o) ≡ true
passed_text None e = absurd cc
passed_text (Some text) e = e

name_by : (o : Option Data) → is_some o ≡ true → fits_or_none is_name_text o ≡ true → is_name (or_empty (value_of text_of o)) ≡ true
name_by None h e = absurd cc
name_by (Some d) h e = passed_text (text_of d) e

leaf_name : (version : ℕ) (services : List (List ℕ)) (entries : Members) → table_fault (leaf_keys version services) entries ≡ None
    → is_name (name_at entries) ≡ true
leaf_name version services entries e =
    let (known, k) = kept (leaf_keys version services) entries e in name_by (get_member (codes "name") entries) (one_there _ k.0.there) k.0.fits

init_name : (version : ℕ) (entries : Members) → table_fault (init_keys version) entries ≡ None → is_name (name_at entries) ≡ true
init_name version entries e =
    let (known, k) = kept (init_keys version) entries e in name_by (get_member (codes "name") entries) (one_there _ k.0.there) k.0.fits

module _ (version : ℕ) (services : List (List ℕ)) (ds : List Data) (tables : all_of is_table ds ≡ true)
    (none : first_of (node_fault 4 version services) ds ≡ None) where
  leaves_here : leaf_count (nodes_by (node_onto 4) ds) ≡ length (filter is_leaf (in_tables (nodes_below 4) ds))
  leaves_here =
      sym (leaves_are (nodes_by (node_onto 4) ds))
      ∙ (ap length (of_nodes leaves (λ node. when (is_leaf node) 0) version services refl (λ entries rest is e. rw is refl)
      (λ entries children rest is e. rw is refl)
      4 ds tables none)
      ∙ marked is_leaf (in_tables (nodes_below 4) ds))

  inits_here : init_count (nodes_by (node_onto 4) ds) ≡ length (filter is_inner (in_tables (nodes_below 4) ds))
  inits_here =
      sym (inits_are (nodes_by (node_onto 4) ds))
      ∙ (ap length (of_nodes inits (λ node. when (is_inner node) 0) version services refl (λ entries rest is e. rw is refl)
      (λ entries children rest is e. rw is refl)
      4 ds tables none)
      ∙ marked is_inner (in_tables (nodes_below 4) ds))

  longs_here : first (all_found long_lists (in_tables (nodes_below 4) ds)) ≡ reported (has_long_routes (nodes_by (node_onto 4) ds))
  longs_here =
      ap first (sym (of_nodes longs long_lists version services refl
      (λ entries rest is e. rw is (ap (λ l. l ++ longs rest) (sym (append-nil (when (is_long (routes_at (codes "route") entries)) TooMany)))))
      (λ entries children rest is e. rw is refl)
      4 ds tables none))
      ∙ longs_are (nodes_by (node_onto 4) ds)

  names_here : all_found named (in_tables (nodes_below 4) ds) ≡ names_of (nodes_by (node_onto 4) ds)
  names_here =
      sym (of_nodes names_of named version services refl
      (λ entries rest is e. rw (leaf_name version services entries e) refl) (λ entries children rest is e. rw
      (init_name version entries e) refl) 4 ds tables none)

same_counts : (a b c : ℕ) (a2 b2 c2 : ℕ) (d e : Bool) → a ≡ a2 → b ≡ b2 → c ≡ c2
    → reported (nat_lt 64 a || nat_lt 64 b || nat_lt 64 c || d || e) ≡ reported (nat_lt 64 a2 || nat_lt 64 b2 || nat_lt 64 c2 || d || e)
same_counts a b c a2 b2 c2 d e p q r = rw (p, q, r) refl

module _ (top : Members) (none : walk_fault top ≡ None) where
  parts : HasParts top
  parts = parts_of top (or_first_none (table_fault (top_keys (version_of top)) top) _ none).0

  below : first_of (node_fault 4 (version_of top) (keys_of (table_of (get_member (codes "interface") top)))) (list_at (codes "start") top) ≡ None
  below =
      (or_first_none (routes_fault (codes "default-route") top) _
      (or_first_none (interfaces_fault (version_of top) (table_of (get_member (codes "interface") top))) _
      (or_first_none (table_fault (top_keys (version_of top)) top) _ none).1).1).1

  counts_first : first (counts_faults top) ≡ counts_fault (described top)
  counts_first =
      let version = version_of top in
      let interfaces = table_of (get_member (codes "interface") top) in
      let ds = list_at (codes "start") top in
      let nodes = nodes_in top in
      let tree = nodes_by (node_onto 4) ds in
      let long = is_long (routes_at (codes "default-route") top) in
      five (nat_lt 64 (length (filter is_leaf nodes))) (nat_lt 64 (length (filter is_inner nodes))) (nat_lt 64 (length (keys_of interfaces))) long
      (has_long_routes tree) (all_found long_lists nodes) (longs_here version (keys_of interfaces) ds parts.start below)
      ∙ same_counts (length (filter is_leaf nodes)) (length (filter is_inner nodes)) (length (keys_of interfaces)) (leaf_count tree) (init_count tree)
      (length (interfaces_of version interfaces)) long (has_long_routes tree)
      (sym (leaves_here version (keys_of interfaces) ds parts.start below)) (sym (inits_here version (keys_of interfaces) ds parts.start below))
      (interfaces_count version interfaces)

  names_first : first (names_faults top) ≡ name_twice (codes "init" ∷ []) (names_of (described top).nodes)
  names_first =
      first_twice (codes "init" ∷ []) (all_found named (nodes_in top))
      ∙ ap (name_twice (codes "init" ∷ []))
      (names_here (version_of top) (keys_of (table_of (get_member (codes "interface") top))) (list_at (codes "start") top) parts.start below)

pub first_of_document : (top : Members) → first (document_faults top) ≡ document_fault top
first_of_document top =
    let w = walk_fault top in
    let c = counts_fault (described top) in
    let n = name_twice (codes "init" ∷ []) (names_of (described top).nodes) in
    first_then (walk_faults top ++ counts_faults top) (names_faults top) (or_first w c) n
    (first_then (walk_faults top) (counts_faults top) w c (walk_first top) (λ (none : w ≡ None). counts_first top none))
    (λ (none : or_first w c ≡ None). names_first top (or_first_none w c none).0)
    ∙ or_assoc w c n
