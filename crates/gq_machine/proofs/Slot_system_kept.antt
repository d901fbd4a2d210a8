-- What stays of slots: the nodes of the scenario, and which system goes with them.
use Rattle.std.proofs.Common.{◌≡◌, ◌<◌, ℕ, List, length, get_or, refl, sym, ap, ◌∙◌, arith}
use Rattle.gq_model.specs.machine.Scenario.{Scenario, System, system}
use Rattle.gq_trade.specs.declared.requests.Ask.{Ask}
use Rattle.gq_trade.specs.declared.requests.Ask.TheVariants.{Open, Upgrade, Close, Call}
use Rattle.gq_trade.specs.declared.requests.Request.{Request}
use Rattle.gq_trade.specs.Trading as trading
use Rattle.gq_trade.specs.Trading.{Trading, node_of, with_requests}
use Rattle.gq_trade.specs.declared.trade_node.NodeState.{NodeState}
use Rattle.gq_trade.specs.Balances.{node_at}
use Rattle.gq_slots.specs.Slots.{Frame, Slots}
use Rattle.gq_slots.specs.Calls.{SameBeside}
use Rattle.gq_slots.specs.Session_calls.{EndsSession, TakesOldest}
use Rattle.gq_statements.specs.Systems.{AreLawful, IsOf, counted_at, stage_in}
use Rattle.gq_statements.specs.Client_requests.{Stays}
use Rattle.gq_prepared.specs.Account_nodes.{AreNodesOf}
use Rattle.gq_machine.specs.internal.Scenes.{SameScene}

pub scene_self : (t : Slots) → SameScene t t
scene_self t = record { nodes = refl; parents = refl; leaves = refl; objects = refl; room = refl; price = refl }

pub scene_then : (t u v : Slots) → SameScene t u → SameScene u v → SameScene t v
scene_then t u v a b =
    record {
      nodes = b.nodes ∙ a.nodes;
      parents = b.parents ∙ a.parents;
      leaves = b.leaves ∙ a.leaves;
      objects = b.objects ∙ a.objects;
      room = b.room ∙ a.room;
      price = b.price ∙ a.price;
    }

pub scene_beside : (t u : Slots) → SameBeside t u → SameScene t u
scene_beside t u b =
    record {
      nodes = b.nodes;
      parents = ap (λ (r : Rattle.gq_ram.specs.Account_tree.Tree). r.parents) b.accounts.tree;
      leaves = b.accounts.leaves;
      objects = b.accounts.objects;
      room = b.accounts.room;
      price = b.accounts.price;
    }

pub scene_asked : (t u : Slots) → Stays t u → SameScene t u
scene_asked t u b =
    record {
      nodes = b.nodes;
      parents = ap (λ (r : Rattle.gq_ram.specs.Account_tree.Tree). r.parents) b.tree;
      leaves = b.leaves;
      objects = b.objects;
      room = b.room;
      price = b.price;
    }

-- A REQUEST THAT IS TAKEN

record SameTrading (w v : Trading) : Type 0 where
  pub parents : v.tree.parents ≡ w.tree.parents
  pub leaves : v.leaves ≡ w.leaves
  pub objects : v.objects ≡ w.objects
  pub room : v.room ≡ w.room
  pub price : v.ledger.price ≡ w.ledger.price

begun_same : (a : Ask) (w v : Trading) (k : ℕ) → trading.Begins a w (with_requests v w.requests) k → SameTrading w v
begun_same Open w v k b =
    let same = b.makes.others.whole in
    record {
      parents = ap (λ (t : Trading). t.tree.parents) b.is;
      leaves = ap (λ (t : Trading). t.leaves) b.is;
      objects = ap (λ (t : Trading). t.objects) b.is;
      room = ap (λ (t : Trading). t.room) b.is;
      price = same.0;
    }
begun_same Upgrade w v k b =
    record {
      parents = ap (λ (t : Trading). t.tree.parents) b;
      leaves = ap (λ (t : Trading). t.leaves) b;
      objects = ap (λ (t : Trading). t.objects) b;
      room = ap (λ (t : Trading). t.room) b;
      price = ap (λ (t : Trading). t.ledger.price) b;
    }
begun_same Close w v k b =
    record {
      parents = ap (λ (t : Trading). t.tree.parents) b;
      leaves = ap (λ (t : Trading). t.leaves) b;
      objects = ap (λ (t : Trading). t.objects) b;
      room = ap (λ (t : Trading). t.room) b;
      price = ap (λ (t : Trading). t.ledger.price) b;
    }
begun_same (Call n) w v k b =
    record {
      parents = ap (λ (t : Trading). t.tree.parents) b;
      leaves = ap (λ (t : Trading). t.leaves) b;
      objects = ap (λ (t : Trading). t.objects) b;
      room = ap (λ (t : Trading). t.room) b;
      price = ap (λ (t : Trading). t.ledger.price) b;
    }

pub scene_taken : (t u : Slots) (x : ℕ) (r : Request) → TakesOldest t u x r → SameScene t u
scene_taken t u x r b =
    let same = begun_same r.ask t.trades.trading u.trades.trading r.session b.accepts.begins in
    record { nodes = b.nodes; parents = same.parents; leaves = same.leaves; objects = same.objects; room = same.room; price = same.price }

-- A SESSION THAT ENDS

pub scene_ended : (t u : Slots) (k : ℕ) → EndsSession t u k → SameScene t u
scene_ended t u k b =
    let is = b.closes.is in
    let same = b.closes.frees.others.whole in
    record {
      nodes = b.nodes;
      parents = ap (λ (w : Trading). w.tree.parents) is;
      leaves = b.leaves;
      objects = ap (λ (w : Trading). w.objects) is;
      room = ap (λ (w : Trading). w.room) is;
      price = ap (λ (w : Trading). w.ledger.price) is ∙ same.0;
    }

-- WHAT IT KEEPS

pub nodes_kept : (s : Scenario) (t u : Slots) → SameScene t u → AreNodesOf s t.trades → AreNodesOf s u.trades
nodes_kept s t u e n =
    record {
      parents = e.parents ∙ n.parents;
      leaves = e.leaves ∙ n.leaves;
      objects = e.objects ∙ n.objects;
      price = e.price ∙ n.price;
      count = ap length e.nodes ∙ n.count;
      quanta = λ i r h. ap (λ (ns : List NodeState). (node_at ns i).quantum) e.nodes ∙ n.quanta i r h;
      inits = λ i r h m. ap (λ (ns : List NodeState). (node_at ns i).stage) e.nodes ∙ n.inits i r h m;
      none_after = λ i r h m. ap (λ (ns : List NodeState). (node_at ns i).after) e.nodes ∙ n.none_after i r h m;
      after = λ x c h. ap (λ (ns : List NodeState). (node_at ns (get_or (Rattle.gq_scenario.specs.Sizes.leaf_places 1 s.nodes) x 0)).after) e.nodes ∙ n.after x
          c h;
    }

-- the leaves' nodes stand the same
pub of_kept : (system : System) (f g : Frame) (t u : Slots) → AreLawful t → AreLawful u → SameScene t u
    → ((y : ℕ) → y < length t.own → stage_in (g.leaf y).phase ≡ stage_in (f.leaf y).phase) → IsOf system f t → IsOf system g u
of_kept system f g t u lt lu e same of =
    let own : length u.own ≡ length t.own = lu.count ∙ ap length e.leaves ∙ sym lt.count in
    let node : (y : ℕ) → node_at u.trades.nodes (node_of u.trades.trading y) ≡ node_at t.trades.nodes (node_of t.trades.trading y) =
    λ y. λ k. node_at (e.nodes k) (get_or (e.leaves k) y 0) in
    record {
      count = of.count ∙ sym own;
      counted = of.counted ∙ ap counted_at (sym e.price);
      quanta = λ y c h. ap (λ (n : NodeState). n.quantum) (node y) ∙ of.quanta y c h;
      stages = λ y less.
          let before : y < length t.own = omega (arith, own, less) in
          ap (λ (n : NodeState). n.stage) (node y) ∙ of.stages y before ∙ sym (same y before);
    }
