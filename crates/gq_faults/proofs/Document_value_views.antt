-- Values of a document as code has them.
use Rattle.std.proofs.Common.{◌≡◌, ℕ, zero, suc, ◌+◌, ◌-◌, ◌<◌, ◌≤◌, false, List, [], ◌∷◌, ◌++◌, length, get_or, drop, Some, None}
use Rattle.std.proofs.Common.{refl, ap, sym, ◌∙◌, append_assoc, arith}
use Rattle.std.specs.Prelude.{codes}
use Rattle.std.proofs.lemmas.List.{drop_all}
use Rattle.toml.specs.Data.{Data, string, integer, float, boolean, datetime, array, table, Members, as_table}
use Rattle.toml.specs.View.{view, items_view}
use Rattle.toml.specs.declared.value.Value.{Value}
use Rattle.toml.proofs.Views.{items_view-drop}
use Rattle.gq_scenario.specs.Document.{list_at}
use Rattle.gq_scenario.specs.Table_keys.{listed}
use Rattle.toml.specs.Data.{get_member}
use Rattle.toml.specs.View.{members_view}
use Rattle.toml.proofs.Views.{Entry}
use Rattle.gq_scenario.specs.Document.{table_of, keys_of, routes_of}
use Rattle.gq_scenario.specs.Document_tables.{version_of, top_keys}
use Rattle.gq_faults.specs.Found_lists.{all_found}
use Rattle.gq_faults.specs.Documents.{in_table, in_tables, DocumentNode, nodes_below, nodes_in, interfaces_faults}
use Rattle.gq_faults.specs.Documents.{node_faults, routes_faults, table_faults, walk_faults}

pub in_table_at : {B : Type 0} (f : Members → List B) (d : Data) (t : Members) → as_table d ≡ Some t → in_table f d ≡ f t
in_table_at f (table ms) t e = ap f (by e)
  where
    by : Some ms ≡ Some t → ms ≡ t
    by e = cc
in_table_at f (string s) t e = absurd cc
in_table_at f (integer z) t e = absurd cc
in_table_at f (float x) t e = absurd cc
in_table_at f (boolean b) t e = absurd cc
in_table_at f (datetime x) t e = absurd cc
in_table_at f (array ds) t e = absurd cc

pub in_table_none : {B : Type 0} (f : Members → List B) (d : Data) → as_table d ≡ None → in_table f d ≡ []
in_table_none f (table ms) e = absurd cc
in_table_none f (string s) e = refl
in_table_none f (integer z) e = refl
in_table_none f (float x) e = refl
in_table_none f (boolean b) e = refl
in_table_none f (datetime x) e = refl
in_table_none f (array ds) e = refl

-- those of the value that stands there, and of what follows
pub values_next : {B : Type 0} (f : Members → List B) (vs : List Value) (i : ℕ) (v : Value) → i < length vs → v ≡ get_or vs i v
    → in_tables f (listed (items_view (drop i vs))) ≡ in_table f (view v) ++ in_tables f (listed (items_view (drop (i + 1) vs)))
values_next f vs i v less is = rw (items_view-drop vs i v less, ← is) refl

pub values_end : {B : Type 0} (f : Members → List B) (vs : List Value) (i : ℕ) → length vs ≤ i → in_tables f (listed (items_view (drop i vs))) ≡ []
values_end f vs i past = rw (drop_all i vs past) refl

-- NODES

pub node_step : (levels : ℕ) (entries : Members) → 0 < levels
    → nodes_below levels entries ≡ record { deep = false; entries = entries } ∷ in_tables (nodes_below (levels - 1)) (list_at (codes "start") entries)
node_step zero entries h = absurd (omega arith)
node_step (suc n) entries h = let e : suc n - 1 ≡ n = omega arith in rw e refl

pub one_more : {A : Type 0} (old new mid first rest : List A) (a : A) → mid ≡ old ++ a ∷ [] → new ≡ mid ++ rest → first ≡ a ∷ rest → new ≡ old ++ first
one_more old new mid first rest a e f h = f ∙ (ap (λ l. l ++ rest) e ∙ (append_assoc old (a ∷ []) rest ∙ ap (λ l. old ++ l) (sym h)))

-- THE WALK

pub walk_is : (version : ℕ) (interfaces : Members) (nodes : List DocumentNode) (top : Members) → version ≡ version_of top
    → interfaces ≡ table_of (get_member (codes "interface") top) → nodes ≡ nodes_in top
    → walk_faults top ≡ table_faults (top_keys version) top ++ interfaces_faults version interfaces ++ routes_faults (codes "default-route") top
    ++ all_found (node_faults version (keys_of interfaces)) nodes
walk_is version interfaces nodes top e f h = rw (e, f, h) refl

-- COUNTS AND NAMES

pub routes_length : (ds : List Data) → length (routes_of ds) ≡ length ds
routes_length [] = refl
routes_length (d ∷ ds) = ap suc (routes_length ds)

pub listed_length : (vs : List Value) → length (listed (items_view vs)) ≡ length vs
listed_length [] = refl
listed_length (v ∷ vs) = ap suc (listed_length vs)

pub keys_length : (es : List Entry) → length (keys_of (members_view es)) ≡ length es
keys_length [] = refl
keys_length (e ∷ es) = ap suc (keys_length es)
