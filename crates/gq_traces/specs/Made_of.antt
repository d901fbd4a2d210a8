-- How the items of an account add up to it, in the text of `state`.
use Rattle.std.specs.Prelude.{◌≡◌, ℕ, suc, ◌+◌, if◌then◌else◌, Bool, true, false, List, [], ◌∷◌, ◌++◌, Option, Some, None, Ok, slice_get}
use Rattle.gq_model.specs.machine.Accounts.{Account, LeafAccount, account_line}
use Rattle.gq_model.specs.machine.Amounts.{Resource, part}
use Rattle.gq_model.specs.machine.Run.{Acts, run}
use Rattle.gq_model.specs.machine.Scenario.{Component, Scenario, System, components, system}
use Rattle.gq_model.specs.machine.World.{Leaf}
use Rattle.gq_model.specs.rules.Accept.{budgets, step_budgets}
use Rattle.gq_model.specs.texts.Turns.{turned}
use Rattle.gq_model.specs.Promises.{EachOf}
use Rattle.gq_laws.specs.Shapes.{Each}
use Rattle.gq_load.specs.Load.{loaded}
use Rattle.gq_resolve.specs.NodeTables.{NodeRow, node_rows}
use Rattle.gq_traces.specs.Account_state.{Item, Role, Given, Handed, Held, Lent, Received, init_items, is_live, items_text, leaf_items, next_text, start_text}
use Rattle.gq_traces.specs.First_turns.{AreFirst}
use Rattle.gq_traces.specs.Trace.{Traced, accounts_in, after_all, due, start_traced}

-- NODES AS THEY ARE SHOWN

-- an account, what stands between it and its items, these, and what stands behind them
pub record Shown : Type 0 where
  pub account : Account
  pub before : List ℕ
  pub items : List Item
  pub behind : List ℕ

abbrev pub shown_below : ℕ → Shown → List ℕ
shown_below version n = n.before ++ items_text version n.items ++ n.behind

-- the lines of nodes
abbrev pub shown_text : ℕ → List Shown → List ℕ
shown_text version [] = []
shown_text version (n ∷ rest) = account_line version n.account ++ shown_below version n ++ shown_text version rest

abbrev pub shown_leaf : System → Traced → Account → ℕ → Option Component → Option Leaf → Shown
shown_leaf system t a x (Some c) (Some leaf) =
    record {
      account = a;
      before = start_text system c leaf.phase;
      items = leaf_items system t.world x c leaf leaf.phase;
      behind = next_text (due system x t);
    }
shown_leaf system t a x _ _ = record { account = a; before = []; items = []; behind = [] }

-- the n-th node, which is a leaf or an init
abbrev pub shown_node : Scenario → Traced → ℕ → Account → NodeRow → Option ℕ → Shown
shown_node s t n a node None = record { account = a; before = []; items = init_items t.world n node (node_rows s); behind = [] }
shown_node s t n a node (Some x) = shown_leaf (system s) t a x (slice_get (components s) x) (slice_get t.world.leaves x)

abbrev pub shown_nodes : Scenario → Traced → ℕ → List Account → List NodeRow → List Shown
shown_nodes s t n [] nodes = []
shown_nodes s t n (a ∷ accounts) [] = []
shown_nodes s t n (a ∷ accounts) (node ∷ nodes) = shown_node s t n a node node.leaf ∷ shown_nodes s t (suc n) accounts nodes

-- all nodes, in preorder
abbrev pub all_shown : Scenario → Traced → List Shown
all_shown s t = shown_nodes s t 0 (accounts_in s t.world (step_budgets (budgets s))) (node_rows s)

-- SUMS

abbrev pub same_role : Role → Role → Bool
same_role Given Given = true
same_role Handed Handed = true
same_role Held Held = true
same_role Lent Lent = true
same_role Received Received = true
same_role _ _ = false

-- the amounts of one role, of one resource, added
abbrev pub sum_of : Role → Resource → List Item → ℕ
sum_of role r [] = 0
sum_of role r (i ∷ rest) = (if same_role role i.role then part r i.amount else 0) + sum_of role r rest

-- of a leaf: what it holds is what its account has used; what it is given and what it receives are its quota and what it lends
pub record LeafAddsUp (n : Shown) (a : LeafAccount) (r : Resource) : Type 0 where
  pub used : sum_of Held r n.items ≡ part r a.used
  pub quota_is : sum_of Given r n.items + sum_of Received r n.items ≡ part r n.account.quota + sum_of Lent r n.items

-- of an init: what it is given, it has or hands on
abbrev pub InitAddsUp : Shown → Resource → Type 0
InitAddsUp n r = sum_of Given r n.items ≡ part r n.account.quota + sum_of Handed r n.items

-- of an init, and of a leaf that lives, of each of these resources
abbrev pub AddsUp : List Resource → Shown → Option LeafAccount → Type 0
AddsUp resources n None = EachOf resources (InitAddsUp n)
AddsUp resources n (Some a) = is_live a.phase ≡ true → EachOf resources (LeafAddsUp n a)

-- TEXTS

-- a run on the way, after these turns, settings and signals
abbrev pub after : Scenario → Acts → Traced
after s turns = after_all (system s) turns (start_traced (system s))

-- from bytes to bytes: the scenario is loaded and the turns, settings and signals are read; the text is that of all nodes in the world that a run over these
-- comes to, or over the first so many turns, and what is shown of each node adds up to its account, of each resource that is counted
pub record ShowsSums (first : Option ℕ) (scenario turns text : List ℕ) : Type 0 where
  pub accepted : Scenario
  pub loads : loaded scenario ≡ Ok accepted
  pub all : Acts
  pub reads : turned accepted turns ≡ Ok all
  pub taken : Acts
  pub first_of_all : AreFirst first all taken
  pub shows : text ≡ shown_text accepted.version (all_shown accepted (after accepted taken))
  pub world : (after accepted taken).world ≡ (run (system accepted) taken).world
  pub adds : Each (λ n. AddsUp (system accepted).counted n n.account.leaf) (all_shown accepted (after accepted taken))
