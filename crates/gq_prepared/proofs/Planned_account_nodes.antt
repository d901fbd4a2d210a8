-- The nodes of accounts that are made from a plan.
use Rattle.std.proofs.Common.{inl, inr, ◌≡◌, ℕ, Bool, true, false, cond, List, [], ◌∷◌, ◌++◌, get_or, length, Option, Some, None, codes}
use Rattle.std.proofs.Common.{refl, ap, sym, ◌∙◌}
use Rattle.std.specs.Prelude.{slice_get}
use Rattle.std.proofs.lemmas.Bool.{cases_Bool}
use Rattle.std.proofs.lemmas.Option.{get_or_from_slice_get}
use Rattle.gq_ram.specs.Ledgers.{Ledger, price_where}
use Rattle.gq_model.specs.machine.Scenario.{Route, Nodes, End, Leaf_node, Init_node, Level, level, below, Scenario, Component, components_of, components}
use Rattle.gq_laws.specs.Shapes.{Each}
use Rattle.gq_laws.proofs.step_shapes.Whole_worlds.{each_get}
use Rattle.gq_laws.specs.Ready.{AreWithoutCaps, IsReady}
use Rattle.gq_scenario.specs.Sizes.{leaf_places}
use Rattle.gq_trade.specs.declared.trade_node.NodeState.{NodeState}
use Rattle.gq_trade.specs.Balances.{node_at}
use Rattle.gq_trade.specs.Trades_plan.{IsFirst}
use Rattle.gq_trade.specs.Trades.{Trades}
use Rattle.gq_prepared.specs.Account_nodes.{AreNodesOf, caps_of, given_in}
use Rattle.gq_prepared.specs.Scenario_plan.{IsPlanOf, first_stage}
use Rattle.gq_prepared.proofs.Scenario_node_positions.{slot_id_of}
use Rattle.gq_model.specs.machine.Amounts.{counts_caps}

price_in : (b : Bool) (caps : ℕ) → price_where (cond b (Some caps) None) ≡ cond b 1 0
price_in true caps = refl
price_in false caps = refl

pub first_kept : (s : Scenario) (ps : List ℕ) (ns : List NodeState) (xs os : List ℕ) (n : ℕ) (w : Trades) → IsPlanOf s ps ns xs os
    → IsFirst s.total.ram (caps_of s) ps ns xs os n w → AreNodesOf s w
first_kept s ps ns xs os n w p f =
    let moved : (i : ℕ) → node_at w.nodes i ≡ node_at ns i = λ i. ap (λ l. node_at l i) f.nodes in
    record {
      parents = f.parents ∙ p.parents;
      leaves = f.leaves ∙ p.leaves;
      objects = f.objects ∙ p.objects;
      price = ap (λ (l : Ledger). l.price) f.ledger ∙ price_in (counts_caps s.version) s.total.caps;
      count = ap length f.nodes ∙ p.count;
      quanta = λ i row e. ap (λ (n : NodeState). n.quantum) (moved i) ∙ p.quanta i row e;
      inits = λ i row e is. ap (λ (n : NodeState). n.stage) (moved i) ∙ p.inits i row e is;
      none_after = λ i row e is. ap (λ (n : NodeState). n.after) (moved i) ∙ p.none_after i row e is;
      after = λ x c e. ap (λ (n : NodeState). n.after) (moved (get_or (leaf_places 1 s.nodes) x 0)) ∙ p.after x c e;
    }

pub stage_of : (s : Scenario) (ps : List ℕ) (ns : List NodeState) (xs os : List ℕ) (n : ℕ) (w : Trades) (x : ℕ) (c : Component) → IsPlanOf s ps ns xs os
    → IsFirst s.total.ram (caps_of s) ps ns xs os n w → slice_get (components s) x ≡ Some c
    → (node_at w.nodes (get_or w.trading.leaves x 0)).stage ≡ first_stage c.node.after
stage_of s ps ns xs os n w x c p f e =
    (λ k. (node_at (f.nodes k) (get_or ((f.leaves ∙ p.leaves) k) x 0)).stage) ∙ p.stages x c e

-- where no node is given capabilities, no leaf is
each_both : (P : Component → Type 0) (cs ds : List Component) → Each P cs → Each P ds → Each P (cs ++ ds)
each_both P [] ds h k = k
each_both P (c ∷ cs) ds h k = (h.0, each_both P cs ds h.1 k)

none_given : (label : List ℕ) (routes : Option (List Route)) (siblings : Nodes) (above : List Level) (nodes : Nodes) → AreWithoutCaps nodes
    → Each (λ c. c.node.quantum.caps ≡ 0) (components_of label routes siblings above nodes)
none_given label routes siblings above End h = tt
none_given label routes siblings above (Leaf_node node rest) h = (h.0, none_given label routes siblings above rest h.1)
none_given label routes siblings above (Init_node node children rest) h =
    each_both (λ c. c.node.quantum.caps ≡ 0)
    (components_of (below label node.name) node.default_routes children (level node.routes routes siblings ∷ above) children)
    (components_of label routes siblings above rest)
    (none_given (below label node.name) node.default_routes children (level node.routes routes siblings ∷ above) children h.1)
    (none_given label routes siblings above rest h.2)

given_whole : (s : Scenario) (x : ℕ) (c : Component) → IsReady s → slice_get (components s) x ≡ Some c → given_in s.version c.node.quantum ≡ c.node.quantum
given_whole s x c ready e =
    ap (λ n. record { ram = c.node.quantum.ram; caps = n }) (elim (cases_Bool (counts_caps s.version)) [
      | inl counted ↦ ap (λ b. cond b c.node.quantum.caps 0) counted
      | inr not ↦
          ap (λ b. cond b c.node.quantum.caps 0) not
          ∙ sym (each_get (λ c. c.node.quantum.caps ≡ 0) (components s) x c
          (none_given (codes "init") s.default_routes s.nodes [] s.nodes (ready.read.uncounted not).nodes) e)
    ])

pub quantum_of : (s : Scenario) (w : Trades) (x : ℕ) (c : Component) → IsReady s → AreNodesOf s w → slice_get (components s) x ≡ Some c
    → (node_at w.nodes (get_or w.trading.leaves x 0)).quantum ≡ c.node.quantum
quantum_of s w x c ready a e =
    let t = slot_id_of s x c e in
    let at : get_or w.trading.leaves x 0 ≡ t.place =
    ap (λ l. get_or l x 0) a.leaves ∙ get_or_from_slice_get (leaf_places 1 s.nodes) x t.place 0 t.at in
    ap (λ i. (node_at w.nodes i).quantum) at ∙ a.quanta t.place t.row t.there ∙ ap (given_in s.version) t.quantum ∙ given_whole s x c ready e
