-- A plan of a scenario that is ready hands down its quanta.
use Rattle.std.proofs.Common.{◌≡◌, ℕ, zero, suc, ◌<◌, ◌≤◌, ◌⊎◌, inl, inr, Bool, true, false, cond, List, [], ◌∷◌, length, map, get_or, Option}
use Rattle.std.proofs.Common.{Some, None, option_map, codes, refl, ap, sym, ◌∙◌, arith}
use Rattle.std.specs.Prelude.{slice_get}
use Rattle.std.proofs.lemmas.Bool.{cases_Bool}
use Rattle.std.proofs.lemmas.List.{length-map, get_or_past}
use Rattle.std.proofs.lemmas.Option.{get_or_from_slice_get, slice_get_within}
use Rattle.gq_tariff.specs.declared.amount.Amount.{Amount}
use Rattle.gq_ram.specs.Account_table.{no_amount}
use Rattle.gq_ram.specs.Ledgers.{caps_where}
use Rattle.gq_model.specs.machine.Accounts.{handed_to}
use Rattle.gq_model.specs.machine.Amounts.{Resource, Ram, Caps, part, counts_caps}
use Rattle.gq_model.specs.machine.Routes.{numbered}
use Rattle.gq_model.specs.machine.Scenario.{LeafNode, Nodes, End, Leaf_node, Init_node, Level, Scenario, Component, components, system}
use Rattle.gq_model.specs.machine.World.{World, first_phase, start_leaves, start}
use Rattle.gq_model.specs.machine.Sums.{handed as handed_in}
use Rattle.gq_model.specs.machine.Program.{text_eq}
use Rattle.gq_model.specs.rules.Resolve.{first_handed, leaf_child, sibling, quanta_fault, offer_fault, after_fault, unresolved}
use Rattle.gq_model.proofs.Small_facts.{some_same, none_some, get_within, or_first_none, text_is}
use Rattle.gq_laws.specs.Resolved_scenarios.{IsResolved}
use Rattle.gq_laws.proofs.quota_payment.Leaf_component_positions.{starts_after}
use Rattle.gq_laws.proofs.quota_payment.Quanta_kept.{start_fits}
use Rattle.gq_laws.proofs.quota_payment.Routed_server_provides.{numbered_name}
use Rattle.gq_laws.specs.Ready.{IsReady}
use Rattle.gq_scenario.specs.Sizes.{leaf_places}
use Rattle.gq_resolve.specs.NodeTables.{NodeRow, init_node, node_rows, number_named}
use Rattle.gq_ram.specs.Handing.{tail, spent}
use Rattle.gq_trade.specs.declared.trade_node.NodeState.{NodeState}
use Rattle.gq_trade.specs.declared.trade_node.Stage.{Stage}
use Rattle.gq_trade.specs.declared.trade_node.Stage.TheVariants.{Pending, Live, Ended}
use Rattle.gq_trade.specs.Balances.{handed, node_at, no_node, while_live}
use Rattle.gq_trade.specs.Trades_plan.{IsPlan, tree_of}
use Rattle.gq_trade.specs.Trades.{Follows}
use Rattle.gq_prepared.specs.Account_nodes.{or_zero, caps_of, given_in, node_after}
use Rattle.gq_prepared.specs.Scenario_plan.{IsPlanOf, first_stage}
use Rattle.gq_prepared.proofs.Joined_lists.{get_map}
use Rattle.gq_prepared.proofs.Handed_quota_sums.{due, row_due, all_spent, length-each_spent, spent_at, fits_at, none_spent}
use Rattle.gq_prepared.proofs.Scenario_node_positions.{LeafNodePosition, slot_id_of, above_at, place_of}
use Rattle.gq_resolve.proofs.Node_table_rows.{length-rows_of, length-leaf_places}
use Rattle.gq_scenario.proofs.Preorder_leaves.{components-count}
use Rattle.gq_scenario.specs.Sizes.{node_count}

pub afters_fit : (s : Scenario) → unresolved s ≡ None → after_fault (components s) [] (components s) ≡ None
afters_fit s e =
    let one = or_first_none (quanta_fault Ram s) _ e in
    let two = or_first_none (quanta_fault Caps s) _ one.1 in
    let three = or_first_none (offer_fault s) _ two.1 in (or_first_none (after_fault (components s) [] (components s)) _ three.1).0

-- WHAT IS HANDED OUT AT FIRST

start_handed : (cs : List Component) (x : ℕ) (c : Component) (q : ℕ) → slice_get cs x ≡ Some c
    → handed_to (slice_get (start_leaves cs) x) q ≡ first_handed c.node.after q
start_handed [] x c q e = absurd (none_some e)
start_handed (b ∷ cs) zero c q e = by b.node.after ∙ ap (λ (c : Component). first_handed c.node.after q) (some_same e)
  where
    by : (after : Option (List ℕ)) → handed_in (first_phase after) q ≡ first_handed after q
    by None = refl
    by (Some name) = refl
start_handed (b ∷ cs) (suc x) c q e = start_handed cs x c q e

-- the amounts of a version that counts a resource, or of one that does not
abbrev pub Counts : Resource → ℕ → Type 0
Counts Ram version = Unit {0}
Counts Caps version = (counts_caps version) ≡ true

pub given_part : (r : Resource) (version : ℕ) (q : Amount) → Counts r version → part r (given_in version q) ≡ part r q
given_part Ram version q counts = refl
given_part Caps version q counts = ap (λ b. cond b q.caps 0) counts

pub live_part : (r : Resource) (n : NodeState) → n.stage ≡ Live → part r (handed n) ≡ part r n.quantum
live_part r n e = ap (λ s. part r (while_live s n.quantum)) e

first_part : (r : Resource) (n : NodeState) (after : Option (List ℕ)) → n.stage ≡ first_stage after → part r (handed n) ≡ first_handed after (part r n.quantum)
first_part r n after e = ap (λ s. part r (while_live s n.quantum)) e ∙ by r after
  where
    by : (r : Resource) (after : Option (List ℕ)) → part r (while_live (first_stage after) n.quantum) ≡ first_handed after (part r n.quantum)
    by r None = refl
    by Ram (Some name) = refl
    by Caps (Some name) = refl

no_caps : (s : Stage) (n : Amount) → n.caps ≡ 0 → (while_live s n).caps ≡ 0
no_caps Pending n e = refl
no_caps Live n e = e
no_caps Ended n e = refl

none_handed : (ns : List NodeState) → ((k : ℕ) → (node_at ns k).quantum.caps ≡ 0) → (k : ℕ) → (get_or (map handed ns) k no_amount).caps ≡ 0
none_handed [] none k = refl
none_handed (n ∷ ns) none zero = no_caps n.stage n.quantum (none 0)
none_handed (n ∷ ns) none (suc k) = none_handed ns (λ k. none (suc k)) k

none_below : (ns : List NodeState) → ((k : ℕ) → (node_at ns k).quantum.caps ≡ 0) → (k : ℕ) → (get_or (tail (map handed ns)) k no_amount).caps ≡ 0
none_below [] none k = refl
none_below (n ∷ ns) none k = none_handed ns (λ k. none (suc k)) k

-- the leaf of a name has that name
child_name : (name : List ℕ) (nodes : Nodes) (b : LeafNode) → leaf_child name nodes ≡ Some b → b.name ≡ name
child_name name End b e = absurd (none_some e)
child_name name (Leaf_node node rest) b e = by (text_eq name node.name) refl e (λ f. child_name name rest b f)
  where
    by : (t : Bool) → text_eq name node.name ≡ t → cond t (Some node) (leaf_child name rest) ≡ Some b → (leaf_child name rest ≡ Some b → b.name ≡ name)
        → b.name ≡ name
    by true same f further = ap (λ (n : LeafNode). n.name) (sym (some_same f)) ∙ sym (text_is name node.name same)
    by false other f further = further f
child_name name (Init_node node children rest) b e = child_name name rest b e

pub sibling_name : (name : List ℕ) (levels : List Level) (b : LeafNode) → sibling name levels ≡ Some b → b.name ≡ name
sibling_name name [] b e = absurd (none_some e)
sibling_name name (l ∷ above) b e = child_name name l.siblings b e

whole_caps : (b : Bool) (caps : ℕ) → cond b caps 0 ≡ caps_where (cond b (Some caps) None)
whole_caps true caps = refl
whole_caps false caps = refl

is_uncounted : (b : Bool) (caps : ℕ) → cond b (Some caps) None ≡ None → b ≡ false
is_uncounted true caps e = absurd (none_some (sym e))
is_uncounted false caps e = refl

caps_less : (b : Bool) (m n : ℕ) → m ≤ n → cond b m 0 ≤ cond b n 0
caps_less true m n h = h
caps_less false m n h = omega arith

-- a node that has one above it is not the root
not_root : (s : Scenario) (i : ℕ) (row : NodeRow) (under : ℕ) → slice_get (node_rows s) i ≡ Some row → row.parent ≡ Some under → 0 < i
not_root s zero row under e is = absurd (none_some (ap (λ (r : NodeRow). r.parent) (some_same e) ∙ is))
not_root s (suc i) row under e is = omega arith

places_count : (s : Scenario) → length (leaf_places 1 s.nodes) ≡ length (components s)
places_count s = length-leaf_places 1 s.nodes ∙ components-count s

rows_count : (s : Scenario) → length (node_rows s) ≡ suc (node_count s.nodes)
rows_count s = ap suc (length-rows_of (codes "init") 0 1 0 s.nodes)

module _ (s : Scenario) (ps : List ℕ) (ns : List NodeState) (xs os : List ℕ) (p : IsPlanOf s ps ns xs os) where
  abbrev rows : List NodeRow
  rows = node_rows s

  abbrev places : List ℕ
  places = leaf_places 1 s.nodes

  parents_count : length ps ≡ length rows
  parents_count = ap length p.parents ∙ length-map rows _

  parent_at : (i : ℕ) (row : NodeRow) → slice_get rows i ≡ Some row → get_or ps i 0 ≡ or_zero row.parent
  parent_at i row e = ap (λ l. get_or l i 0) p.parents ∙ get_map (λ (r : NodeRow). or_zero r.parent) rows i row 0 e

  place_here : (y i : ℕ) → slice_get places y ≡ Some i → get_or places y 0 ≡ i
  place_here y i e = get_or_from_slice_get places y i 0 e

  component_at : (y i : ℕ) → slice_get places y ≡ Some i → (c : Component) × (slice_get (components s) y ≡ Some c)
  component_at y i e =
      let within = slice_get_within places y i e in
      let count = places_count s in
      get_within (components s) y (omega (arith, within, count))

  -- where capabilities are not counted, there are none
  uncounted : caps_of s ≡ None → (i : ℕ) → (node_at ns i).quantum.caps ≡ 0
  uncounted none i = elim (le_cases (length ns) i) [
    | inl past ↦ ap (λ (n : NodeState). n.quantum.caps) (get_or_past ns i no_node past)
    | inr less ↦ within less
  ]
    where
      le_cases : (n i : ℕ) → (n ≤ i) ⊎ (i < n)
      le_cases zero i = inl (omega arith)
      le_cases (suc n) zero = inr (omega arith)
      le_cases (suc n) (suc i) = elim (le_cases n i) [ inl h ↦ inl (omega (arith, h)) | inr h ↦ inr (omega (arith, h)) ]

      within : i < length ns → (node_at ns i).quantum.caps ≡ 0
      within less =
          let count = p.count in
          let row = get_within rows i (omega (arith, less, count)) in
          ap (λ (a : Amount). a.caps) (p.quanta i row.0 row.1)
          ∙ ap (λ b. cond b row.0.quantum.caps 0) (is_uncounted (counts_caps s.version) s.total.caps none)

  module _ (r : Resource) (counts : Counts r s.version) where
    abbrev first : World
    first = start (system s)

    due_first : (k : ℕ) (row : NodeRow) → slice_get rows k ≡ Some row → part r (handed (node_at ns k)) ≡ row_due r first row
    due_first k row e = by row.leaf refl
      where
        quantum : part r (node_at ns k).quantum ≡ part r row.quantum
        quantum = ap (part r) (p.quanta k row e) ∙ given_part r s.version row.quantum counts

        by : (o : Option ℕ) → row.leaf ≡ o → part r (handed (node_at ns k)) ≡ due r first o row.quantum
        by None is = live_part r (node_at ns k) (p.inits k row e is) ∙ quantum
        by (Some y) is =
            let at = place_of s k row y e is in
            let c = component_at y k at in
            let stage : (node_at ns k).stage ≡ first_stage c.0.node.after =
            ap (λ i. (node_at ns i).stage) (sym (place_here y k at)) ∙ p.stages y c.0 c.1 in
            first_part r (node_at ns k) c.0.node.after stage ∙ ap (first_handed c.0.node.after) quantum
            ∙ sym (start_handed (components s) y c.0 (part r row.quantum) c.1)

    fits : IsResolved s → (i : ℕ) → i < length ps → spent (part r) (tree_of ps) (map handed ns) i ≤ part r (handed (node_at ns i))
    fits resolved i less =
        let count = parents_count in
        let all = rows_count s in
        let long = length-each_spent r first 0 s.nodes in
        let row = get_within rows i (omega (arith, less, count)) in
        let m = get_within (all_spent r first s) i (omega (arith, less, count, all, long)) in
        let e = spent_at r first s (part r) (tree_of ps) ns p.parents p.count due_first i m.0 m.1 in
        let le = fits_at r first s i m.0 row.0 (start_fits r s resolved) m.1 row.1 in
        let same = due_first i row.0 row.1 in
        omega (arith, e, le, same)

  fits_caps : IsResolved s → (i : ℕ) → i < length ps → spent (λ n. n.caps) (tree_of ps) (map handed ns) i ≤ (handed (node_at ns i)).caps
  fits_caps resolved i less = elim (cases_Bool (counts_caps s.version)) [ inl counted ↦ fits Caps counted resolved i less | inr not ↦ none not ]
    where
      none : (counts_caps s.version) ≡ false → spent (λ n. n.caps) (tree_of ps) (map handed ns) i ≤ (handed (node_at ns i)).caps
      none not =
          let e = none_spent (λ n. n.caps) i (tail ps) (tail (map handed ns)) (none_below ns (uncounted (ap (λ b. cond b (Some s.total.caps) None) not))) in
          omega (arith, e)

  -- an init is above each node but the root
  record Up (i : ℕ) : Type 0 where
    place : ℕ
    up : NodeRow
    is : get_or ps i 0 ≡ place
    less : place < i
    there : slice_get rows place ≡ Some up
    init : up.leaf ≡ None

  up_of : (i : ℕ) → 0 < i → i < length ps → Up i
  up_of zero pos less = absurd (omega (arith, pos))
  up_of (suc k) pos less =
      let count = parents_count in
      let row = get_within rows (suc k) (omega (arith, less, count)) in
      let a = above_at s k row.0 row.1 in
      record { place = a.place; up = a.up; is = parent_at (suc k) row.0 row.1 ∙ ap or_zero a.is; less = a.less; there = a.there; init = a.init }

  -- the node of a leaf
  record LeafNodeAt (x : ℕ) : Type 0 where
    component : Component
    slot_id : LeafNodePosition rows places (components s) x component
    is : get_or xs x 0 ≡ slot_id.place

  leaf_at : (x : ℕ) → x < length xs → LeafNodeAt x
  leaf_at x less =
      let count = places_count s in
      let same = ap length p.leaves in
      let c = get_within (components s) x (omega (arith, less, count, same)) in
      let t = slot_id_of s x c.0 c.1 in
      record { component = c.0; slot_id = t; is = ap (λ l. get_or l x 0) p.leaves ∙ place_here x t.place t.at }

  leaf_row_at : (x i : ℕ) (row : NodeRow) (l : LeafNodeAt x) → l.slot_id.place ≡ i → slice_get rows i ≡ Some row → row.leaf ≡ Some x
  leaf_row_at x i row l same e =
      ap (λ (r : NodeRow). r.leaf) (some_same (sym e ∙ ap (slice_get rows) (sym same) ∙ l.slot_id.there)) ∙ l.slot_id.leaf

  -- a leaf stands beside the one that it starts after
  module _ (resolved : IsResolved s) where
    follows_by : (i j y : ℕ) (c : Component) (name : List ℕ) → slice_get places y ≡ Some i → slice_get (components s) y ≡ Some c
        → c.node.after ≡ Some name → option_map (λ z. get_or places z 0) (numbered 0 name (components s)) ≡ Some j → Follows (tree_of ps) ns i j
    follows_by i j y c name at known after e = by (numbered 0 name (components s)) refl e
      where
        by : (o : Option ℕ) → numbered 0 name (components s) ≡ o → option_map (λ z. get_or places z 0) o ≡ Some j → Follows (tree_of ps) ns i j
        by None n f = absurd (none_some f)
        by (Some z) n f =
            let d = numbered_name 0 name (components s) z n in
            let which = d.2 in
            let b = (starts_after (components s) [] (components s) (afters_fit s resolved.fits) y c name known after).0 in
            let own = slot_id_of s y c known in
            let here : own.place ≡ i = some_same (sym own.at ∙ at) in
            let other = own.beside name b.before b.there in
            let named : other.component.node.name ≡ d.1.node.name =
            ap (λ (n : LeafNode). n.name) other.is ∙ sibling_name name c.levels b.before b.there ∙ d.4 in
            let number = resolved.differ other.number d.0 other.component d.1 other.known d.3 named in
            let same : other.number ≡ z = omega (arith, number, which) in
            let place : j ≡ other.place =
            sym (some_same f) ∙ ap (λ z. get_or places z 0) (sym same) ∙ place_here other.number other.place other.at in
            let row_there : slice_get rows i ≡ Some own.row = ap (slice_get rows) (sym here) ∙ own.there in
            let other_there : slice_get rows j ≡ Some other.row = ap (slice_get rows) place ∙ other.there in
            let within = slice_get_within rows j other.row other_there in
            let count = parents_count in
            let quantum : (node_at ns i).quantum ≡ given_in s.version c.node.quantum =
            p.quanta i own.row row_there ∙ ap (given_in s.version) own.quantum in
            let other_quantum : (node_at ns j).quantum ≡ given_in s.version b.before.quantum =
            p.quanta j other.row other_there ∙ ap (given_in s.version) (other.quantum ∙ ap (λ (n : LeafNode). n.quantum) other.is) in
            let ram = ap (λ (a : Amount). a.ram) quantum in
            let other_ram = ap (λ (a : Amount). a.ram) other_quantum in
            let caps = ap (λ (a : Amount). a.caps) quantum in
            let other_caps = ap (λ (a : Amount). a.caps) other_quantum in
            let ram_less = b.ram in
            let less = caps_less (counts_caps s.version) c.node.quantum.caps b.before.quantum.caps b.caps in
            record {
              below = not_root s i own.row own.under row_there own.parent;
              before = not_root s j other.row own.under other_there other.parent;
              there = omega (arith, within, count);
              beside = parent_at i own.row row_there ∙ ap or_zero own.parent
                  ∙ sym (parent_at j other.row other_there ∙ ap or_zero other.parent);
              ram = omega (arith, ram, other_ram, ram_less);
              caps = omega (arith, caps, other_caps, less);
            }

    follows : (i j : ℕ) → i < length ps → (node_at ns i).after ≡ Some j → Follows (tree_of ps) ns i j
    follows i j less e =
        let count = parents_count in let row = get_within rows i (omega (arith, less, count)) in by row.0 row.1 row.0.leaf refl
      where
        named : (y : ℕ) (c : Component) → slice_get places y ≡ Some i → slice_get (components s) y ≡ Some c → (after : Option (List ℕ))
            → c.node.after ≡ after
            → option_map (λ z. get_or places z 0) (number_named after (λ name. numbered 0 name (components s))) ≡ Some j → Follows (tree_of ps) ns i j
        named y c at known None after f = absurd (none_some f)
        named y c at known (Some name) after f = follows_by i j y c name at known after f

        by : (row : NodeRow) → slice_get rows i ≡ Some row → (o : Option ℕ) → row.leaf ≡ o → Follows (tree_of ps) ns i j
        by row there None is = absurd (none_some (sym (p.none_after i row there is) ∙ e))
        by row there (Some y) is =
            let at = place_of s i row y there is in
            let c = component_at y i at in
            let after : node_after s c.0 ≡ Some j =
            sym (p.after y c.0 c.1) ∙ ap (λ k. (node_at ns k).after) (place_here y i at) ∙ e in
            named y c.0 at c.1 c.0.node.after refl after

  pub is_plan : IsReady s → length (components s) ≤ 64 → ((i : ℕ) → i < length os → get_or os i 0 ≤ 67108864)
      → IsPlan s.total.ram (caps_of s) ps ns xs os
  is_plan ready few small =
      let count = parents_count in
      let all = rows_count s in
      let leaves = ap length p.leaves in
      let leaves_count = places_count s in
      let root = init_node (codes "init") None s.total in
      record {
        some = omega (arith, count, all);
        count = p.count ∙ sym count;
        preorder = λ i pos less. let u = up_of i pos less in let is = u.is in let before = u.less in omega (arith, is, before);
        whole = p.quanta 0 root refl ∙ ap (λ n. record { ram = s.total.ram; caps = n }) (whole_caps (counts_caps s.version) s.total.caps);
        root = p.inits 0 root refl refl;
        inits = λ j pos less. let u = up_of j pos less in ap (λ i. (node_at ns i).stage) u.is ∙ p.inits u.place u.up u.there u.init;
        fits = λ i less. fits Ram tt ready.resolved i less;
        fits_caps = λ i less. fits_caps ready.resolved i less;
        uncounted = uncounted;
        within = λ x less.
            let l = leaf_at x less in
            let is = l.is in
            let inside = slice_get_within rows l.slot_id.place l.slot_id.row l.slot_id.there in omega (arith, is, inside, count);
        few = omega (arith, few, leaves, leaves_count);
        below = λ x less.
            let l = leaf_at x less in
            let is = l.is in
            let pos = not_root s l.slot_id.place l.slot_id.row l.slot_id.under l.slot_id.there l.slot_id.parent in omega (arith, is, pos);
        apart = λ x y xl yl same.
            let l = leaf_at x xl in
            let m = leaf_at y yl in
            some_same (sym l.slot_id.leaf ∙ leaf_row_at y l.slot_id.place l.slot_id.row m (sym m.is ∙ sym same ∙ l.is) l.slot_id.there);
        childless = λ x j xl pos less same.
            let l = leaf_at x xl in
            let u = up_of j pos less in
            none_some (sym u.init ∙ leaf_row_at x u.place u.up l (sym l.is ∙ sym same ∙ u.is) u.there);
        after = follows ready.resolved;
        small = small;
      }
