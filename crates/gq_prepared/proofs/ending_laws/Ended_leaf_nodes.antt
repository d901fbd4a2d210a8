-- How a system and the nodes of a scenario go on where a leaf has ended.
use Rattle.std.proofs.Common.{◌≡◌, ℕ, zero, suc, ◌<◌, inl, inr, Bool, true, false, List, [], ◌∷◌, length, length-set, get_or, Option, Some, None, IfSome}
use Rattle.std.proofs.Common.{refl, ap, sym, subst, ◌∙◌, arith}
use Rattle.std.specs.Prelude.{if◌then◌else◌, slice_get}
use Rattle.std.proofs.lemmas.Bool.{cases_eq}
use Rattle.std.proofs.lemmas.Option.{get_or_from_slice_get, slice_get-get_or, slice_get_within}
use Rattle.gq_model.proofs.Small_facts.{none_some, some_same, text_is, text_self}
use Rattle.gq_model.specs.declared.phase.Phase.{Phase}
use Rattle.gq_model.specs.declared.phase.Phase.TheVariants as phase
use Rattle.gq_model.specs.machine.Scenario.{Component, Scenario, components, system}
use Rattle.gq_model.specs.machine.Step.{is_named, released}
use Rattle.gq_laws.specs.Ready.{IsReady}
use Rattle.gq_scenario.specs.Sizes.{leaf_places}
use Rattle.gq_resolve.specs.NodeTables.{NodeRow, node_rows}
use Rattle.gq_resolve.proofs.Node_table_rows.{places-count}
use Rattle.gq_trade.specs.Trading.{Trading, node_of}
use Rattle.gq_trade.specs.declared.trade_node.NodeState.{NodeState}
use Rattle.gq_trade.specs.declared.trade_node.Stage.{Stage}
use Rattle.gq_trade.specs.declared.trade_node.Stage.TheVariants.{Pending, Live, Ended}
use Rattle.gq_trade.specs.Balances.{node_at}
use Rattle.gq_trade.specs.Leaf_ends.{follower, staged, with_stage}
use Rattle.gq_trade.specs.Trades.{IsLive, Trades}
use Rattle.gq_trade.proofs.Leaf_end_start.{IsFollower}
use Rattle.gq_trade.proofs.Init_spending.{staged_here, staged_other, staged_same}
use Rattle.gq_slots.specs.Session_calls.{EndsLeaf}
use Rattle.gq_slots.specs.Slots.{Frame, Slots}
use Rattle.gq_statements.specs.Systems.{AreLawful, IsOf, counted_at, stage_in}
use Rattle.gq_prepared.specs.Account_nodes.{AreNodesOf, node_after}
use Rattle.gq_prepared.proofs.ending_laws.Start_after_nodes.{after_node, node_then, one_after}
use Rattle.gq_prepared.proofs.ending_laws.Following_nodes.{SameWhole, Waits, alone_follows, follows_then, started_nodes, started_whole, then_live, then_long}
use Rattle.gq_prepared.proofs.ending_laws.Following_nodes.{then_nodes}
use Rattle.gq_prepared.proofs.ending_laws.Following_nodes.{then_same, then_stays}
use Rattle.gq_prepared.proofs.ending_laws.Leaf_node_rows.{IsKind, leaf_no_init, row_kind}

at_own : (s : Scenario) (x : ℕ) (c : Component) → slice_get (components s) x ≡ Some c
    → slice_get (leaf_places 1 s.nodes) x ≡ Some (get_or (leaf_places 1 s.nodes) x 0)
at_own s x c e = slice_get-get_or (leaf_places 1 s.nodes) x 0 (let a = slice_get_within (components s) x c e in omega (arith, a, places-count s))

is_component : (cs : List Component) (y : ℕ) → y < length cs → (d : Component) × (slice_get cs y ≡ Some d)
is_component [] y less = absurd (omega (arith, less))
is_component (c ∷ cs) zero less = (c, refl)
is_component (c ∷ cs) (suc y) less = is_component cs y (omega (arith, less))

is_row : (rows : List NodeRow) (n : ℕ) → n < length rows → (r : NodeRow) × (slice_get rows n ≡ Some r)
is_row [] n less = absurd (omega (arith, less))
is_row (r ∷ rows) zero less = (r, refl)
is_row (r ∷ rows) (suc n) less = is_row rows n (omega (arith, less))

-- only a leaf that is pending has a node that is
pending_phase : (p : Phase) → stage_in p ≡ Pending → p ≡ phase.Pending
pending_phase phase.Pending e = refl
pending_phase phase.Running e = cc
pending_phase phase.Blocked e = cc
pending_phase phase.Serving e = cc
pending_phase phase.Handling e = cc
pending_phase phase.Exited e = cc

named_then : (name : List ℕ) (o : Option (List ℕ)) → is_named name o ≡ true → o ≡ Some name
named_then name None e = cc
named_then name (Some other) e = ap (λ (t : List ℕ). Some t) (sym (text_is name other e))

-- the stage of a node in the phase that its leaf has then
module _ (name : List ℕ) (after : Option (List ℕ)) (old new : Stage) where
  named_stage : (b : Bool) → is_named name after ≡ b → (is_named name after ≡ true → new ≡ Live) → (is_named name after ≡ false → new ≡ Pending)
      → new ≡ stage_in (if b then phase.Running else phase.Pending)
  named_stage true e starts waits = starts e
  named_stage false e starts waits = waits e

  pub released_stage : (p : Phase) → old ≡ stage_in p → (old ≡ Pending → is_named name after ≡ true → new ≡ Live)
      → (old ≡ Pending → is_named name after ≡ false → new ≡ old) → ((old ≡ Pending → ⊥) → new ≡ old) → new ≡ stage_in (released name after p)
  released_stage phase.Pending e starts waits stays =
      named_stage (is_named name after) refl (starts e) (λ f. waits e f ∙ e)
  released_stage phase.Running e starts waits stays = stays (λ p. cc) ∙ e
  released_stage phase.Blocked e starts waits stays = stays (λ p. cc) ∙ e
  released_stage phase.Serving e starts waits stays = stays (λ p. cc) ∙ e
  released_stage phase.Handling e starts waits stays = stays (λ p. cc) ∙ e
  released_stage phase.Exited e starts waits stays = stays (λ p. cc) ∙ e

module _ (s : Scenario) (f g : Frame) (t u : Slots) (x : ℕ) (c : Component) (ready : IsReady s) (lawful : AreLawful t) (later : AreLawful u)
    (nodes : AreNodesOf s t.trades) (of : IsOf (system s) f t) (there : slice_get (components s) x ≡ Some c) (live : IsLive t.trades x)
    (ends : EndsLeaf t u x) (exited : (g.leaf x).phase ≡ phase.Exited)
    (others : (y : ℕ) (d : Component) → (y ≡ x → ⊥) → slice_get (components s) y ≡ Some d
    → (g.leaf y).phase ≡ released c.node.name d.node.after (f.leaf y).phase) where
  abbrev w : Trading
  w = t.trades.trading

  abbrev ns : List NodeState
  ns = t.trades.nodes

  abbrev n : ℕ
  n = node_of w x

  -- the nodes once the leaf's has ended, and who starts then
  abbrev now : List NodeState
  now = staged ns n Ended

  abbrev who : Option ℕ
  who = follower n now

  abbrev between : Trades
  between = record { trading = ends.ends.between; nodes = now }

  -- HOW MANY

  n_less : n < length ns
  n_less = let a = lawful.trading.leaves x live.there in let b = lawful.trades.settled.count in omega (arith, a, b)

  now_long : length now ≡ length ns
  now_long = length-set ns n (with_stage (node_at ns n) Ended)

  places_long : length (leaf_places 1 s.nodes) ≡ length (components s)
  places_long = places-count s

  leaves_long : length w.leaves ≡ length (components s)
  leaves_long = ap length nodes.leaves ∙ places_long

  place_of : (y : ℕ) → node_of w y ≡ get_or (leaf_places 1 s.nodes) y 0
  place_of y = ap (λ l. get_or l y 0) nodes.leaves

  -- WHAT STAYS

  whole : SameWhole between u.trades
  whole = subst (λ (v : Trades). SameWhole between v) (sym ends.ends.is) (started_whole between who)

  new_nodes : u.trades.nodes ≡ then_nodes now who
  new_nodes = ap (λ (v : Trades). v.nodes) ends.ends.is ∙ started_nodes between who

  who_there : IfSome who (λ i. i < length now)
  who_there = by who (follows_then n now)
    where
      by : (o : Option ℕ) → IfSome o (λ i. IsFollower now n i) → IfSome o (λ i. i < length now)
      by None h = tt
      by (Some i) h = h.there

  same_of : {A : Type 0} (F : NodeState → A) → ((m : NodeState) (st : Stage) → F (with_stage m st) ≡ F m) → (j : ℕ) → F (node_at u.trades.nodes j) ≡ F
      (node_at ns j)
  same_of F same j =
      ap (λ l. F (node_at l j)) new_nodes ∙ (then_same F same now who who_there j ∙ staged_same ns n Ended F (λ m. same m Ended) n_less j)

  quantum_same : (j : ℕ) → (node_at u.trades.nodes j).quantum ≡ (node_at ns j).quantum
  quantum_same j = same_of (λ m. m.quantum) (λ m st. refl) j

  after_same : (j : ℕ) → (node_at u.trades.nodes j).after ≡ (node_at ns j).after
  after_same j = same_of (λ m. m.after) (λ m st. refl) j

  -- a node that is not the leaf's and does not start has its stage
  stage_stays : (j : ℕ) → (j ≡ n → ⊥) → (who ≡ Some j → ⊥) → (node_at u.trades.nodes j).stage ≡ (node_at ns j).stage
  stage_stays j apart idle =
      ap (λ l. (node_at l j).stage) new_nodes ∙ (then_stays now who j idle ∙ ap (λ (m : NodeState). m.stage) (staged_other ns n Ended j apart))

  follows : (j : ℕ) → who ≡ Some j → IsFollower now n j
  follows j e = by who e (follows_then n now)
    where
      by : (o : Option ℕ) → o ≡ Some j → IfSome o (λ i. IsFollower now n i) → IsFollower now n j
      by None f h = absurd (none_some f)
      by (Some i) f h = subst (λ k. IsFollower now n k) (some_same f) h

  -- the leaf's node has ended
  own_ended : (node_at u.trades.nodes n).stage ≡ Ended
  own_ended =
      let gone : (node_at now n).stage ≡ Ended = ap (λ (m : NodeState). m.stage) (staged_here ns n Ended n_less) in
      let idle : who ≡ Some n → ⊥ = λ e. let h = follows n e in absurd (let p : Ended ≡ Pending = sym gone ∙ h.pending in cc) in
      ap (λ l. (node_at l n).stage) new_nodes ∙ (then_stays now who n idle ∙ gone)

  -- WHO STARTS

  -- a leaf starts after the node n where it starts after the leaf x
  named_by : (d : Component) → node_after s d ≡ Some n → d.node.after ≡ Some c.node.name
  named_by d e =
      let h = node_then s d n e in
      let less : h.leaf < length w.leaves =
      let a = slice_get_within (components s) h.leaf h.before h.there in omega (arith, a, leaves_long) in
      let same : h.leaf ≡ x = lawful.trading.apart h.leaf x less live.there (place_of h.leaf ∙ h.node) in
      let its : h.before ≡ c = some_same (sym h.there ∙ (ap (slice_get (components s)) same ∙ there)) in
      h.after ∙ ap (λ (z : Component). Some z.node.name) its

  after_at : (y : ℕ) (d : Component) → slice_get (components s) y ≡ Some d → (node_at ns (node_of w y)).after ≡ node_after s d
  after_at y d e = ap (λ k. (node_at ns k).after) (place_of y) ∙ nodes.after y d e

  now_after : (j : ℕ) → (node_at now j).after ≡ (node_at ns j).after
  now_after j = staged_same ns n Ended (λ m. m.after) (λ m. refl) n_less j

  -- a node that starts after n is that of a leaf that starts after x
  by_kind : (j : ℕ) (r : NodeRow) → slice_get (node_rows s) j ≡ Some r → (node_at ns j).after ≡ Some n → IsKind r (leaf_places 1 s.nodes) j
      → (z : ℕ) × (d : Component) × (slice_get (components s) z ≡ Some d) × (d.node.after ≡ Some c.node.name) × (j ≡ node_of w z)
  by_kind j r e after (inl none) = absurd (none_some (sym (nodes.none_after j r e none) ∙ after))
  by_kind j r e after (inr h) =
      let z = h.0 in
      let less : z < length (components s) = let a = slice_get_within (leaf_places 1 s.nodes) z j h.1 in omega (arith, a, places_long) in
      let d = is_component (components s) z less in
      let at : node_of w z ≡ j = place_of z ∙ get_or_from_slice_get (leaf_places 1 s.nodes) z j 0 h.1 in
      let its : node_after s d.0 ≡ Some n = sym (after_at z d.0 d.1) ∙ (ap (λ k. (node_at ns k).after) at ∙ after) in
      (z, d.0, d.1, named_by d.0 its, sym at)

  waiting_leaf : (j : ℕ) → j < length now → Waits n (node_at now j)
      → (z : ℕ) × (d : Component) × (slice_get (components s) z ≡ Some d) × (d.node.after ≡ Some c.node.name) × (j ≡ node_of w z)
  waiting_leaf j less h =
      let r = is_row (node_rows s) j (omega (arith, less, now_long, nodes.count)) in
      by_kind j r.0 r.1 (sym (now_after j) ∙ h.after) (row_kind s j r.0 r.1)

  -- another leaf that is pending and starts after x is the one that starts
  starts : (y : ℕ) (d : Component) → (y ≡ x → ⊥) → slice_get (components s) y ≡ Some d → (node_of w y ≡ n → ⊥) → (node_at ns (node_of w y)).stage ≡ Pending
      → is_named c.node.name d.node.after ≡ true → who ≡ Some (node_of w y)
  starts y d other e apart pending named =
      let m = node_of w y in
      let after : d.node.after ≡ Some c.node.name = named_then c.node.name d.node.after named in
      let its : (node_at ns m).after ≡ Some n =
      after_at y d e ∙ (after_node s ready.resolved.differ x c d there after ∙ ap (λ (k : ℕ). Some k) (sym (place_of x))) in
      let less : m < length now =
      let a = lawful.trading.leaves y (let b = slice_get_within (components s) y d e in omega (arith, b, leaves_long)) in
      let b = lawful.trades.settled.count in omega (arith, a, b, now_long) in
      let waits : Waits n (node_at now m) = record {
        pending = ap (λ (k : NodeState). k.stage) (staged_other ns n Ended m apart) ∙ pending;
        after = now_after m ∙ its;
      } in
      alone_follows n m now less waits (λ j l h.
      let z = waiting_leaf j l h in z.4 ∙ ap (node_of w) (one_after s ready.resolved z.0 y z.1 d c.node.name z.2 e z.3 after))

  -- who starts is pending, and starts after x
  started_named : (y : ℕ) (d : Component) → slice_get (components s) y ≡ Some d → who ≡ Some (node_of w y) → is_named c.node.name d.node.after ≡ true
  started_named y d e is =
      let h = follows (node_of w y) is in
      let after = named_by d (sym (after_at y d e) ∙ (sym (now_after (node_of w y)) ∙ h.after)) in
      ap (is_named c.node.name) after ∙ text_self c.node.name

  -- STAGES

  other_stage : (y : ℕ) (d : Component) → (y ≡ x → ⊥) → y < length w.leaves → slice_get (components s) y ≡ Some d
      → (node_at u.trades.nodes (node_of w y)).stage ≡ stage_in (g.leaf y).phase
  other_stage y d other less e =
      let m = node_of w y in
      let apart : m ≡ n → ⊥ = λ same. other (lawful.trading.apart y x less live.there same) in
      let old : (node_at ns m).stage ≡ stage_in (f.leaf y).phase = of.stages y (omega (arith, less, lawful.count)) in
      let in_now : (node_at now m).stage ≡ (node_at ns m).stage = ap (λ (k : NodeState). k.stage) (staged_other ns n Ended m apart) in
      let long : m < length now =
      let a = lawful.trading.leaves y less in let b = lawful.trades.settled.count in omega (arith, a, b, now_long) in
      released_stage c.node.name d.node.after (node_at ns m).stage (node_at u.trades.nodes m).stage (f.leaf y).phase old
      (λ pending named. ap (λ l. (node_at l m).stage) new_nodes ∙ then_live now who m long (starts y d other e apart pending named))
      (λ pending named. stage_stays m apart (λ is. absurd (let no : false ≡ true = sym named ∙ started_named y d e is in cc)))
      (λ no. stage_stays m apart (λ is. no (sym in_now ∙ (follows m is).pending)))
      ∙ ap stage_in (sym (others y d other e))

  all_stages : (y : ℕ) → y < length u.own → (node_at u.trades.nodes (node_of u.trades.trading y)).stage ≡ stage_in (g.leaf y).phase
  all_stages y less =
      let same : node_of u.trades.trading y ≡ node_of w y = ap (λ l. get_or l y 0) ends.leaves in
      let within : y < length w.leaves = let a = later.count in let b = ap length ends.leaves in omega (arith, less, a, b) in
      let d = is_component (components s) y (omega (arith, within, leaves_long)) in
      ap (λ k. (node_at u.trades.nodes k).stage) same ∙ elim (cases_eq y x) [
        | inl e ↦ ap (λ k. (node_at u.trades.nodes (node_of w k)).stage) e ∙ (own_ended ∙ sym (ap (λ k. stage_in (g.leaf k).phase) e ∙ ap stage_in exited))
        | inr other ↦ other_stage y d.0 other within d.1
      ]

  -- ALL OF IT

  price_same : u.trades.trading.ledger.price ≡ w.ledger.price
  price_same = whole.price ∙ ends.ends.leaves.closed.whole.0

  pub of_then : IsOf (system s) g u
  of_then = record {
    count = let a = of.count in let b = lawful.count in let d = later.count in let e = ap length ends.leaves in omega (arith, a, b, d, e);
    counted = of.counted ∙ ap counted_at (sym price_same);
    quanta = λ y d e.
        ap (λ l. (node_at u.trades.nodes (get_or l y 0)).quantum) ends.leaves ∙ (quantum_same (node_of w y) ∙ of.quanta y d e);
    stages = all_stages;
  }

  -- an init does not end, and does not start
  init_stays : (j : ℕ) (r : NodeRow) → slice_get (node_rows s) j ≡ Some r → r.leaf ≡ None → (node_at u.trades.nodes j).stage ≡ (node_at ns j).stage
  init_stays j r e none =
      stage_stays j
      (λ same. leaf_no_init s x j r (at_own s x c there ∙ ap (λ (k : ℕ). Some k) (sym (place_of x) ∙ sym same)) e none)
      (λ is. none_some (sym (nodes.none_after j r e none) ∙ (sym (now_after j) ∙ (follows j is).after)))

  pub nodes_then : AreNodesOf s u.trades
  nodes_then = record {
    parents = whole.parents ∙ (ap (λ (v : Trading). v.tree.parents) ends.ends.leaves.is ∙ nodes.parents);
    leaves = ends.leaves ∙ nodes.leaves;
    objects = whole.objects ∙ (ap (λ (v : Trading). v.objects) ends.ends.leaves.is ∙ nodes.objects);
    price = price_same ∙ nodes.price;
    count = ap length new_nodes ∙ (then_long now who ∙ (now_long ∙ nodes.count));
    quanta = λ j r e. quantum_same j ∙ nodes.quanta j r e;
    inits = λ j r e none. init_stays j r e none ∙ nodes.inits j r e none;
    none_after = λ j r e none. after_same j ∙ nodes.none_after j r e none;
    after = λ y d e. after_same (get_or (leaf_places 1 s.nodes) y 0) ∙ nodes.after y d e;
  }
