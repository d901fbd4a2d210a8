-- What the readers of a machine report.
use Rattle.std.proofs.Common.{◌≡◌, ◌<◌, ◌≤◌, ℕ, zero, suc, ◌+◌, ◌*◌, ◌⊎◌, inl, inr, Bool, true, false, cond}
use Rattle.std.proofs.Common.{List, [], ◌∷◌, length, get_or, Option, Some, None, IfSome, refl, sym, ap, subst, ◌∙◌, arith}
use Rattle.std.specs.Prelude.{slice_get, sum_by}
use Rattle.std.proofs.lemmas.List.{length-map}
use Rattle.std.proofs.lemmas.List.Sums.{sum_by-cons}
use Rattle.gq_tariff.specs.declared.amount.Amount.{Amount}
use Rattle.gq_model.specs.declared.phase.Phase.{Phase}
use Rattle.gq_model.specs.declared.phase.Phase.TheVariants as phase
use Rattle.gq_model.specs.machine.Accounts.{accounts, amount_in}
use Rattle.gq_model.specs.machine.Amounts.{Resource, Ram, Caps, counts_caps}
use Rattle.gq_model.specs.machine.Scenario.{Scenario, Component, components}
use Rattle.gq_model.specs.machine.Sums.{held}
use Rattle.gq_model.specs.machine.World as world
use Rattle.gq_model.proofs.Small_facts.{get_within, none_some, some_same}
use Rattle.gq_scenario.specs.Sizes.{leaf_places}
use Rattle.gq_resolve.specs.NodeTables.{LeafRow, leaf_row, leaf_rows, leaf_rows_of, node_rows}
use Rattle.gq_resolve.proofs.Node_table_rows.{row_at}
use Rattle.gq_trade.specs.Numbers.{IsTaken}
use Rattle.gq_ram.specs.declared.account.Account.{Account as Stored}
use Rattle.gq_ram.specs.Account_table.{Entries, account_at, no_account, sum_over}
use Rattle.gq_store.specs.Store.{Store}
use Rattle.gq_heap.specs.declared.heap.Heap.{Heap}
use Rattle.gq_contents.specs.declared.content.Content.{Content}
use Rattle.gq_ram.specs.Account_tree.{account_of}
use Rattle.gq_trade.specs.declared.session.Session.{Session}
use Rattle.gq_trade.specs.Trading.{account_of as account_no, its_account, node_of, session_in}
use Rattle.gq_trade.specs.declared.trade_node.NodeState.{NodeState}
use Rattle.gq_trade.specs.declared.trade_node.Stage.TheVariants.{Live, Ended}
use Rattle.gq_trade.specs.Balances.{node_at, received_for, while_live}
use Rattle.gq_trade.specs.Trades.{HasAccount, Trades}
use Rattle.gq_trade.proofs.Balances_after_trades.{for_other}
use Rattle.gq_slots.specs.Slots.{Slots, leaf_seen, leaves_seen, memory_of}
use Rattle.gq_statements.specs.Systems.{AreLawful, stage_in}
use Rattle.gq_prepared.proofs.quotas.Stored_node_quotas.{caps_used, leaf_there, quota_stored, ram_used}
use Rattle.gq_prepared.specs.Leaf_holdings.{held_by_all, held_from}
use Rattle.gq_leaf.specs.Leaf_states.{leaf_of}
use Rattle.gq_leaf.specs.Coded.{Coded}
use Rattle.gq_machine.specs.Machines.{Machine}
use Rattle.gq_machine.specs.Machine_world.{frame_of, world_of}
use Rattle.gq_machine.specs.declared.machine.Machine.TheInside.{Inside}
use Rattle.gq_machine.specs.declared.machine_state.Fixed.{Fixed}
use Rattle.gq_machine.specs.declared.machine_state.MachineState.{MachineState}
use Rattle.gq_machine.specs.internal.First_leaf_holdings.{held_before}
use Rattle.gq_machine.specs.internal.Machine_invariant.{Holds}
use Rattle.gq_machine.specs.internal.Starts.{machine_seen}
use Rattle.gq_machine.proofs.Machine_leaf_frames.{leaf_at}
use Rattle.gq_machine.proofs.Stepping_leaf_facts.{item_there}

pub if_some : {A : Type 0} (o : Option A) (P : A → Type 0) → ((a : A) → o ≡ Some a → P a) → IfSome o P
if_some None P f = tt
if_some (Some a) P f = f a refl

pub from_some : {A : Type 0} (o : Option A) (P : A → Type 0) (a : A) → o ≡ Some a → IfSome o P → P a
from_some None P a e h = absurd (none_some e)
from_some (Some b) P a e h = subst P (some_same e) h

-- what the slots and the heap of a leaf do not report is as in the frame
pub seen_at : {A : Type 0} (g : world.Leaf → A) → ((leaf : world.Leaf) (st : Store) (ts : List Content) (h : Heap) → g (leaf_seen leaf st ts h) ≡ g leaf)
    → (leaf : ℕ → world.Leaf) (st : ℕ → Store) (own : List (List Content)) (hs : List Heap) (x : ℕ) (l : world.Leaf)
    → slice_get (leaves_seen leaf st own hs) x ≡ Some l → g l ≡ g (leaf x)
seen_at g same leaf st [] hs x l e = absurd (none_some e)
seen_at g same leaf st (ts ∷ own) [] x l e = absurd (none_some e)
seen_at g same leaf st (ts ∷ own) (h ∷ hs) zero l e = ap g (sym (some_same e)) ∙ same (leaf 0) (st 0) ts h
seen_at g same leaf st (ts ∷ own) (h ∷ hs) (suc x) l e = seen_at g same (λ y. leaf (suc y)) (λ y. st (suc y)) own hs x l e

-- what an account has is within what all have
account_within : (f : Stored → ℕ) → f no_account ≡ 0 → (es : Entries) (k : ℕ) → f (account_at es k) ≤ sum_over f es
account_within f z [] k = omega (arith, z)
account_within f z (None ∷ es) zero = omega (arith, z)
account_within f z (Some a ∷ es) zero = omega arith
account_within f z (None ∷ es) (suc k) = account_within f z es k
account_within f z (Some a ∷ es) (suc k) =
    let further = account_within f z es k in
    omega (arith, further)

-- A NODE THAT HAS ENDED

-- it is given nothing, as no session has such a server
none_given : (f : Amount → ℕ) (leaves : List ℕ) (ns : List NodeState) (i : ℕ) (ss : List (Option Session))
    → ((k : ℕ) → IsTaken ss k → (node_at ns (get_or leaves (session_in ss k).server 0)).stage ≡ Live) → (node_at ns i).stage ≡ Ended
    → sum_by (received_for f leaves i) ss ≡ 0
none_given f leaves ns i [] live ended = refl
none_given f leaves ns i (None ∷ ss) live ended =
    let e = sum_by-cons (received_for f leaves i) None ss in
    let further = none_given f leaves ns i ss (λ k. live (suc k)) ended in
    omega (arith, e, further)
none_given f leaves ns i (Some s ∷ ss) live ended =
    let e = sum_by-cons (received_for f leaves i) (Some s) ss in
    let other : get_or leaves s.server 0 ≡ i → ⊥ = λ same. apart (sym (live 0 refl) ∙ ap (λ j. (node_at ns j).stage) same ∙ ended) in
    let here = for_other (get_or leaves s.server 0) i (f s.donation) other in
    let further = none_given f leaves ns i ss (λ k. live (suc k)) ended in
    omega (arith, e, here, further)
  where
    apart : Live ≡ Ended → ⊥
    apart e = cc

-- its account has nothing
pub ended_none : (t : Slots) → AreLawful t → (i : ℕ) → i < length t.trades.trading.tree.parents → (node_at t.trades.nodes i).stage ≡ Ended
    → ((account_of t.trades.trading.tree t.trades.trading.ledger i).quota.ram ≡ 0)
    × ((account_of t.trades.trading.tree t.trades.trading.ledger i).quota.caps ≡ 0)
ended_none t l i less ended =
    let w = t.trades.trading in
    let ns = t.trades.nodes in
    let live : (k : ℕ) → IsTaken w.sessions k → (node_at ns (get_or w.leaves (session_in w.sessions k).server 0)).stage ≡ Live =
    λ k there. (l.trades.sessions k there).server in
    let ram = none_given (λ n. n.ram) w.leaves ns i w.sessions live ended in
    let caps = none_given (λ n. n.caps) w.leaves ns i w.sessions live ended in
    let both = l.trades.even i less in
    let even_ram = both.0 in
    let even_caps = both.1 in
    let handed_ram = ap (λ s. (while_live s (node_at ns i).quantum).ram) ended in
    let handed_caps = ap (λ s. (while_live s (node_at ns i).quantum).caps) ended in
    (omega (arith, ram, even_ram, handed_ram), omega (arith, caps, even_caps, handed_caps))

-- THE NODE OF A LEAF

row_place : (s : Scenario) (places : List ℕ) (cs : List Component) (x : ℕ) (r : LeafRow) → slice_get (leaf_rows_of s places cs) x ≡ Some r
    → r.node ≡ get_or places x 0
row_place s [] cs x r e = absurd (none_some e)
row_place s (p ∷ places) [] x r e = absurd (none_some e)
row_place s (p ∷ places) (c ∷ cs) zero r e = ap (λ (l : LeafRow). l.node) (sym (some_same e))
row_place s (p ∷ places) (c ∷ cs) (suc x) r e = row_place s places cs x r e

place_reported : (s : Scenario) (x place : ℕ) → x < length (components s) → IfSome (slice_get (leaf_rows s) x) (λ r. place ≡ r.node)
    → place ≡ get_or (leaf_places 1 s.nodes) x 0
place_reported s x place less h =
    let a = row_at s x less in
    subst (λ (l : Option LeafRow). IfSome l (λ r. place ≡ r.node)) a.row h
    ∙ row_place s (leaf_places 1 s.nodes) (components s) x (leaf_row s a.place a.component) a.row

ends_exited : (p : Phase) → stage_in p ≡ Ended → p ≡ phase.Exited
ends_exited phase.Pending e = absurd cc
ends_exited phase.Running e = absurd cc
ends_exited phase.Blocked e = absurd cc
ends_exited phase.Serving e = absurd cc
ends_exited phase.Handling e = absurd cc
ends_exited phase.Exited e = refl

no_caps : (version ram caps : ℕ) → counts_caps version ≡ false → (amount_in version ram caps).caps ≡ 0
no_caps version ram caps e = ap (λ b. cond b caps 0) e

all_caps : (version ram caps : ℕ) → counts_caps version ≡ true → (amount_in version ram caps).caps ≡ caps
all_caps version ram caps e = ap (λ b. cond b caps 0) e

no_caps_of : (version ram caps : ℕ) → caps ≡ 0 → (amount_in version ram caps).caps ≡ 0
no_caps_of version ram caps e = by (counts_caps version) caps e
  where
    by : (b : Bool) (n : ℕ) → n ≡ 0 → cond b n 0 ≡ 0
    by true n e = e
    by false n e = refl

-- a leaf is there
module _ (f : Fixed) (m : MachineState) (h : Holds f m) (x : ℕ) (less : x < length (components f.table)) where
  pub component : (c : Component) × (slice_get (components f.table) x ≡ Some c)
  component = get_within (components f.table) x less

  pub below : x < length m.slots.own
  below = let count = h.of.count in omega (arith, less, count)

  pub item_is : (p : ℕ) (item : Coded) → item ≡ get_or m.leaves.items p item → p ≡ x → slice_get m.leaves.items x ≡ Some item
  item_is p item is at =
      let count = h.count in
      let a = get_within m.leaves.items x (omega (arith, less, count)) in
      item_there m.leaves.items x a.0 item a.1 (is ∙ ap (λ q. get_or m.leaves.items q item) at)

  -- what is reported of it without its memory
  pub reads : {A : Type 0} (g : world.Leaf → A) → ((leaf : world.Leaf) (st : Store) (ts : List Content) (hp : Heap) → g (leaf_seen leaf st ts hp) ≡ g leaf)
      → (p : ℕ) (item : Coded) → item ≡ get_or m.leaves.items p item → p ≡ x → (r : A) → ((c : Component) → r ≡ g (leaf_of c.node.program item.state))
      → IfSome (slice_get (world_of f.table m.leaves.items m.slots).leaves x) (λ l. r ≡ g l)
  reads g same p item is at r reported =
      let c = component in
      let el = item_is p item is at in
      let frame = frame_of f.table m.leaves.items in
      if_some (slice_get (world_of f.table m.leaves.items m.slots).leaves x) (λ l. r ≡ g l)
      (λ l there. reported c.0 ∙ sym (ap g (leaf_at f.table m.leaves.items x c.0 item c.1 el))
      ∙ sym (seen_at g same frame.leaf (memory_of m.slots) m.slots.own m.slots.heaps x l there))

  pub stage_here : (p : ℕ) (item : Coded) → item ≡ get_or m.leaves.items p item → p ≡ x
      → (node_at m.slots.trades.nodes (node_of m.slots.trades.trading x)).stage ≡ stage_in item.state.phase
  stage_here p item is at =
      let c = component in
      h.of.stages x below ∙ ap (λ (y : world.Leaf). stage_in y.phase) (leaf_at f.table m.leaves.items x c.0 item c.1 (item_is p item is at))

  pub node_is : (n : ℕ) → IfSome (slice_get (leaf_rows f.table) x) (λ r. n ≡ r.node) → n ≡ node_of m.slots.trades.trading x
  node_is n row = place_reported f.table x n less row ∙ ap (λ l. get_or l x 0) (sym h.nodes.leaves)

  module _ (l : AreLawful m.slots) where
    pub node_there : node_of m.slots.trades.trading x < length m.slots.trades.trading.tree.parents
    node_there = let b = below in let count = l.count in l.trading.leaves x (omega (arith, b, count))

    -- a leaf that has not exited has an account
    pub has_account : (p : ℕ) (item : Coded) → item ≡ get_or m.leaves.items p item → p ≡ x → (q : Phase) → q ≡ item.state.phase → (q ≡ phase.Exited → ⊥)
        → (t : Trades) → t ≡ m.slots.trades → (i n : ℕ) → i ≡ n → IfSome (slice_get (leaf_rows f.table) x) (λ r. n ≡ r.node) → HasAccount t i
    has_account p item is at q same stays t trades i n index row =
        let own : HasAccount m.slots.trades (node_of m.slots.trades.trading x) = record {
          there = node_there;
          stays = λ ended. stays (same ∙ ends_exited item.state.phase (sym (stage_here p item is at) ∙ ended));
        } in
        subst (λ k. HasAccount t k) (sym (index ∙ node_is n row))
        (subst (λ (v : Trades). HasAccount v (node_of m.slots.trades.trading x)) (sym trades) own)

    ended : (p : ℕ) (item : Coded) → item ≡ get_or m.leaves.items p item → p ≡ x → (q : Phase) → q ≡ item.state.phase → q ≡ phase.Exited
        → ((its_account m.slots.trades.trading x).quota.ram ≡ 0) × ((its_account m.slots.trades.trading x).quota.caps ≡ 0)
    ended p item is at q same exited =
        ended_none m.slots l (node_of m.slots.trades.trading x) node_there (stage_here p item is at ∙ ap stage_in (sym same ∙ exited))

-- A READER OF A MACHINE

-- the sum of what the first n leaves hold, and how great it is at most
pub record IsSum (w : Machine) (n sum : ℕ) : Type 0 where
  pub is : sum ≡ held_before Ram w.world 0 n w.world.leaves
  pub small : sum ≤ n * 67108864

held_next : (r : Resource) (w : world.World) (x n y : ℕ) (ls : List world.Leaf) (leaf : world.Leaf) → y ≡ x + n → slice_get ls n ≡ Some leaf
    → held_before r w x (suc n) ls ≡ held_before r w x n ls + held r w y leaf
held_next r w x n y [] leaf at e = absurd (none_some e)
held_next r w x zero y (l ∷ ls) leaf at e =
    let same : x ≡ y = omega (arith, at) in
    let here : held r w x l ≡ held r w y leaf = λ i. held r w (same i) (some_same e i) in
    omega (arith, here)
held_next r w x (suc n) y (l ∷ ls) leaf at e =
    let further = held_next r w (suc x) n y ls leaf (omega (arith, at)) e in
    omega (arith, further)

pub held_all : (r : Resource) (w : world.World) (x n : ℕ) (ls : List world.Leaf) → length ls ≤ n → held_before r w x n ls ≡ held_from r w x ls
held_all r w x zero [] few = refl
held_all r w x (suc n) [] few = refl
held_all r w x zero (l ∷ ls) few = absurd (omega (arith, few))
held_all r w x (suc n) (l ∷ ls) few =
    let further = held_all r w (suc x) n ls (omega (arith, few)) in
    omega (arith, further)

length_seen : (leaf : ℕ → world.Leaf) (st : ℕ → Store) (own : List (List Content)) (hs : List Heap) → length (leaves_seen leaf st own hs) ≤ length own
length_seen leaf st [] hs = omega arith
length_seen leaf st (ts ∷ own) [] = omega arith
length_seen leaf st (ts ∷ own) (h ∷ hs) =
    let further = length_seen (λ y. leaf (suc y)) (λ y. st (suc y)) own hs in
    omega (arith, further)

module _ (i : Inside) (w : Machine) (e : machine_seen i ≡ w) (h : Holds i.fixed i.state) where
  abbrev t : Slots
  t = i.state.slots

  abbrev own : world.World
  own = world_of i.fixed.table i.state.leaves.items t

  there : (x : ℕ) → x < length (components w.scenario) → x < length (components i.fixed.table)
  there x less = subst (λ (v : Machine). x < length (components v.scenario)) (sym e) less

  pub few_leaves : length w.world.leaves ≤ length (components w.scenario)
  few_leaves =
      let frame = frame_of i.fixed.table i.state.leaves.items in
      let seen = length_seen frame.leaf (memory_of t) t.own t.heaps in
      let count = h.of.count in
      subst (λ (v : Machine). length v.world.leaves ≤ length (components v.scenario)) e (omega (arith, seen, count))

  -- what the first n leaves hold, of all, is what all leaves hold
  pub free_read : (n used : ℕ) → n ≡ length (components i.fixed.table) → used ≡ held_before Ram w.world 0 n w.world.leaves → used ≡ held_by_all Ram w.world
  free_read n used all is =
      let few = few_leaves in
      let same = ap (λ (v : Machine). length (components v.scenario)) e in
      is ∙ held_all Ram w.world 0 n w.world.leaves (omega (arith, few, all, same))

  pub read : {A : Type 0} (g : world.Leaf → A) → ((leaf : world.Leaf) (st : Store) (ts : List Content) (hp : Heap) → g (leaf_seen leaf st ts hp) ≡ g leaf)
      → (x : ℕ) → x < length (components w.scenario) → (p : ℕ) (item : Coded) → item ≡ get_or i.state.leaves.items p item → p ≡ x → (r : A)
      → ((c : Component) → r ≡ g (leaf_of c.node.program item.state)) → IfSome (slice_get w.world.leaves x) (λ l. r ≡ g l)
  read g same x less p item is at r reported =
      subst (λ (v : Machine). IfSome (slice_get v.world.leaves x) (λ l. r ≡ g l)) e
      (reads i.fixed i.state h x (there x less) g same p item is at r reported)

  node_below : (n : ℕ) → n < length (node_rows w.scenario) → n < length t.trades.trading.tree.parents
  node_below n less =
      let count = ap length h.nodes.parents ∙ length-map (node_rows i.fixed.table) _ in
      let within = subst (λ (v : Machine). n < length (node_rows v.scenario)) (sym e) less in
      omega (arith, count, within)

  module _ (l : AreLawful i.state.slots) where
    -- the stored quota of a node is that of its account
    pub quota_read : (reported : List ℕ) (n r : ℕ) → r ≡ (account_of t.trades.trading.tree t.trades.trading.ledger n).quota.ram
        → IfSome (slice_get (accounts w.scenario w.world reported) n) (λ a. r ≡ a.quota.ram)
    quota_read reported n r is =
        subst (λ (v : Machine). IfSome (slice_get (accounts v.scenario v.world reported) n) (λ a. r ≡ a.quota.ram)) e
        (if_some (slice_get (accounts i.fixed.table own reported) n) (λ a. r ≡ a.quota.ram)
        (λ a g. is ∙ sym (ap (λ (q : Amount). q.ram)
        (quota_stored i.fixed.table (frame_of i.fixed.table i.state.leaves.items) t reported n a h.ready l h.of h.nodes g))))

    caps_read : (reported : List ℕ) (n r : ℕ)
        → r ≡ (amount_in i.fixed.table.version (account_of t.trades.trading.tree t.trades.trading.ledger n).quota.ram
        (account_of t.trades.trading.tree t.trades.trading.ledger n).quota.caps).caps
        → IfSome (slice_get (accounts w.scenario w.world reported) n) (λ a. r ≡ a.quota.caps)
    caps_read reported n r is =
        subst (λ (v : Machine). IfSome (slice_get (accounts v.scenario v.world reported) n) (λ a. r ≡ a.quota.caps)) e
        (if_some (slice_get (accounts i.fixed.table own reported) n) (λ a. r ≡ a.quota.caps)
        (λ a g. is ∙ sym (ap (λ (q : Amount). q.caps)
        (quota_stored i.fixed.table (frame_of i.fixed.table i.state.leaves.items) t reported n a h.ready l h.of h.nodes g))))

    -- where there are none, or none is counted, it is 0
    pub no_caps_read : (reported : List ℕ) (n : ℕ)
        → (counts_caps i.fixed.table.version ≡ false) ⊎ ((account_of t.trades.trading.tree t.trades.trading.ledger n).quota.caps ≡ 0)
        → IfSome (slice_get (accounts w.scenario w.world reported) n) (λ a. 0 ≡ a.quota.caps)
    no_caps_read reported n (inl one) =
        let a = account_of t.trades.trading.tree t.trades.trading.ledger n in
        caps_read reported n 0 (sym (no_caps i.fixed.table.version a.quota.ram a.quota.caps one))
    no_caps_read reported n (inr none) =
        let a = account_of t.trades.trading.tree t.trades.trading.ledger n in
        caps_read reported n 0 (sym (no_caps_of i.fixed.table.version a.quota.ram a.quota.caps none))

    pub all_caps_read : (reported : List ℕ) (n r : ℕ) → counts_caps i.fixed.table.version ≡ true
        → r ≡ (account_of t.trades.trading.tree t.trades.trading.ledger n).quota.caps
        → IfSome (slice_get (accounts w.scenario w.world reported) n) (λ a. r ≡ a.quota.caps)
    all_caps_read reported n r two is =
        let a = account_of t.trades.trading.tree t.trades.trading.ledger n in
        caps_read reported n r (is ∙ sym (all_caps i.fixed.table.version a.quota.ram a.quota.caps two))

    pub none_left : (n : ℕ) → n < length (node_rows w.scenario) → (node_at t.trades.nodes n).stage ≡ Ended
        → ((account_of t.trades.trading.tree t.trades.trading.ledger n).quota.ram ≡ 0)
        × ((account_of t.trades.trading.tree t.trades.trading.ledger n).quota.caps ≡ 0)
    none_left n less gone = ended_none t l n (node_below n less) gone

    pub used_read : (x r : ℕ) → r ≡ (its_account t.trades.trading x).used.ram → IfSome (slice_get w.world.leaves x) (λ leaf. r ≡ held Ram w.world x leaf)
    used_read x r is =
        subst (λ (v : Machine). IfSome (slice_get v.world.leaves x) (λ leaf. r ≡ held Ram v.world x leaf)) e
        (if_some (slice_get own.leaves x) (λ leaf. r ≡ held Ram own x leaf)
        (λ leaf g. is ∙ sym (ram_used i.fixed.table (frame_of i.fixed.table i.state.leaves.items) t x leaf h.ready l h.of h.nodes g)))

    pub caps_used_read : counts_caps w.scenario.version ≡ true → (x r : ℕ) → r ≡ (its_account t.trades.trading x).used.caps
        → IfSome (slice_get w.world.leaves x) (λ leaf. r ≡ held Caps w.world x leaf)
    caps_used_read two x r is =
        let counted = subst (λ (v : Machine). counts_caps v.scenario.version ≡ true) (sym e) two in
        subst (λ (v : Machine). IfSome (slice_get v.world.leaves x) (λ leaf. r ≡ held Caps v.world x leaf)) e
        (if_some (slice_get own.leaves x) (λ leaf. r ≡ held Caps own x leaf)
        (λ leaf g. is ∙ sym (caps_used i.fixed.table (frame_of i.fixed.table i.state.leaves.items) t x leaf h.ready l h.of h.nodes g counted)))

    -- a leaf that has exited uses nothing
    pub exited_none : (x : ℕ) → x < length (components w.scenario) → (p : ℕ) (item : Coded) → item ≡ get_or i.state.leaves.items p item → p ≡ x → (q : Phase)
        → q ≡ item.state.phase → q ≡ phase.Exited
        → (0 ≡ (its_account t.trades.trading x).used.ram) × (0 ≡ (its_account t.trades.trading x).used.caps)
    exited_none x less p item is at q same gone =
        let none = ended i.fixed i.state h x (there x less) l p item is at q same gone in
        let ram = none.0 in
        let caps = none.1 in
        let within = l.balanced.within (account_no t.trades.trading x) in
        let caps_within = l.balanced.caps_within (account_no t.trades.trading x) in
        (omega (arith, ram, within), omega (arith, caps, caps_within))

    pub account_there : (x : ℕ) → x < length (components w.scenario) → (p : ℕ) (item : Coded) → item ≡ get_or i.state.leaves.items p item → p ≡ x → (q : Phase)
        → q ≡ item.state.phase → (q ≡ phase.Exited → ⊥) → (v : Trades) → v ≡ t.trades → (k n : ℕ) → k ≡ n
        → IfSome (slice_get (leaf_rows i.fixed.table) x) (λ r. n ≡ r.node) → HasAccount v k
    account_there x less p item is at q same stays v trades k n index row =
        has_account i.fixed i.state h x (there x less) l p item is at q same stays v trades k n index row

    pub its_node : (x : ℕ) → x < length (components w.scenario) → (n : ℕ) → IfSome (slice_get (leaf_rows i.fixed.table) x) (λ r. n ≡ r.node)
        → n ≡ node_of t.trades.trading x
    its_node x less n row = node_is i.fixed i.state h x (there x less) n row

    -- what one more leaf holds is added
    pub one_more : (n sum used k : ℕ) → n < length (components w.scenario) → k ≡ n
        → IfSome (slice_get w.world.leaves k) (λ leaf. used ≡ held Ram w.world k leaf)
        → IsSum w n sum → (used ≤ 67108864) × IsSum w (n + 1) (sum + used)
    one_more n sum used k less at reported so_far =
        let frame = frame_of i.fixed.table i.state.leaves.items in
        let leaf = leaf_there i.fixed.table frame t [] h.ready l h.of h.nodes n (below i.fixed i.state h n (there n less)) in
        let stands : slice_get w.world.leaves n ≡ Some leaf.0 = subst (λ (v : Machine). slice_get v.world.leaves n ≡ Some leaf.0) e leaf.1 in
        let used_is : used ≡ held Ram w.world n leaf.0 =
        from_some (slice_get w.world.leaves n) (λ y. used ≡ held Ram w.world n y) leaf.0 stands
        (subst (λ j. IfSome (slice_get w.world.leaves j) (λ y. used ≡ held Ram w.world j y)) at reported) in
        let stored = used_is ∙ ap (λ (v : Machine). held Ram v.world n leaf.0) (sym e)
        ∙ ram_used i.fixed.table frame t n leaf.0 h.ready l h.of h.nodes leaf.1 in
        let ledger = t.trades.trading.ledger in
        let within = l.balanced.within (account_no t.trades.trading n) in
        let whole = account_within (λ a. a.quota.ram) refl ledger.accounts (account_no t.trades.trading n) in
        let total = l.balanced.quotas in
        let least = l.balanced.small in
        let few : used ≤ 67108864 = omega (arith, stored, within, whole, total, least) in
        let so_is = so_far.is in
        let so_small = so_far.small in
        let next = held_next Ram w.world 0 n n w.world.leaves leaf.0 (omega arith) stands in
        let place : n + 1 ≡ suc n = omega arith in (
          few,
          record {
            is = (λ j. so_is j + used_is j) ∙ sym next ∙ ap (λ j. held_before Ram w.world 0 j w.world.leaves) (sym place);
            small = omega (arith, few, so_small);
          },
        )
