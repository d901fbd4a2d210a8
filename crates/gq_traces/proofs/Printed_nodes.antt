-- Nodes that are reported one after the other.
use Rattle.std.proofs.Common.{◌≡◌, ◌∙◌, ◌<◌, ◌≤◌, ◌+◌, ℕ, suc, Bool, List, ◌++◌, length, drop, Option, Some, IfSome, ap}
use Rattle.std.proofs.Common.{sym, subst, arith}
use Rattle.std.specs.Prelude.{slice_get}
use Rattle.gq_model.specs.machine.Accounts.{Account, account_line}
use Rattle.gq_model.specs.machine.World as model
use Rattle.gq_output.specs.declared.counted.Counted.{Counted}
use Rattle.gq_machine.specs.Machines.{Machine}
use Rattle.gq_resolve.specs.NodeTables.{NodeRow, node_rows}
use Rattle.gq_world.specs.Account_lines.{all_accounts}
use Rattle.gq_world.specs.World_between_turns.{World}
use Rattle.gq_traces.specs.Account_state.{Item, child_items, handed_items, items_text, node_text, nodes_text, text_in}
use Rattle.gq_traces.specs.Trace.{Traced, accounts_in}
use Rattle.gq_traces.specs.internal.Follows.{IsAt}
use Rattle.gq_traces.specs.internal.Slot_items.{Prints_items}
use Rattle.gq_traces.specs.internal.Printed_steps.{Goes, budgets_of}
use Rattle.gq_traces.specs.declared.follow.Followed.{Followed}
use Rattle.gq_traces.proofs.Accounts_by_budgets.{all_seen, nodes_same_text}
use Rattle.gq_traces.proofs.Printed_items.{items_both}
use Rattle.gq_traces.proofs.So_far.{So_far, next_one, none_left, reported_end, printed_first, printed_next}

pub four_items : (version : ℕ) (a b c d : List Item)
    → items_text version a ++ items_text version b ++ items_text version c ++ items_text version d ≡ items_text version (a ++ b ++ c ++ d)
four_items version a b c d =
    ap (λ l. l ++ items_text version c ++ items_text version d) (items_both version a b)
    ∙ (ap (λ l. l ++ items_text version d) (items_both version (a ++ b) c) ∙ items_both version (a ++ b ++ c) d)

module _ {W : Type 0} (contents : W → Option (List ℕ)) where
  -- WHAT AN INIT HANDS ON

  module _ (m : Machine) (n : ℕ) where
    -- the children so far were reported
    abbrev pub Children_so_far : Counted W → Counted W → Bool → Bool → ℕ → Type 0
    Children_so_far old new was now i =
        So_far contents old new was now (items_text m.scenario.version (handed_items m.world n (drop i (node_rows m.scenario))))
        (items_text m.scenario.version (handed_items m.world n (node_rows m.scenario)))

    pub children_first : (out : Counted W) (was : Bool) → Children_so_far out out was was 0
    children_first out was = printed_first contents out was _

    pub children_next : (a b c : Counted W) (y z u : Bool) (i : ℕ) → i < length (node_rows m.scenario) → Children_so_far a b y z i
        → IfSome (slice_get (node_rows m.scenario) i) (λ r. Prints_items contents b c z u m (child_items m.world n r)) → Children_so_far a c y u (i + 1)
    children_next a b c y z u i less so_far reported =
        let k = next_one (node_rows m.scenario) i less in
        let here = child_items m.world n k.here in
        let later = handed_items m.world n (drop (i + 1) (node_rows m.scenario)) in
        printed_next contents a b c y z u (items_text m.scenario.version here) (items_text m.scenario.version later) _ _
        (ap (λ l. items_text m.scenario.version (handed_items m.world n l)) k.next ∙ sym (items_both m.scenario.version here later)) so_far
        (subst (λ (o : Option NodeRow). IfSome o (λ r. Prints_items contents b c z u m (child_items m.world n r))) k.is reported)

    pub children_end : (a b : Counted W) (y z : Bool) (i : ℕ) → length (node_rows m.scenario) ≤ i → Children_so_far a b y z i
        → Prints_items contents a b y z m (handed_items m.world n (node_rows m.scenario))
    children_end a b y z i least so_far =
        reported_end contents a b y z _ _
        (ap (λ l. items_text m.scenario.version (handed_items m.world n l)) (none_left (node_rows m.scenario) i least)) so_far

  -- NODES

  -- the nodes so far were reported
  abbrev pub Nodes_so_far : World → Followed → Counted W → Counted W → Bool → Bool → ℕ → Type 0
  Nodes_so_far w f old new was now n = (t : Traced) → IsAt f w t
      → So_far contents old new was now (nodes_text w.scenario t n (drop n (all_accounts w)) (drop n (node_rows w.scenario)))
      (nodes_text w.scenario t 0 (all_accounts w) (node_rows w.scenario))

  -- what is reported of a node of this number
  abbrev pub Prints_node : World → Followed → Counted W → Counted W → Bool → Bool → ℕ → Type 0
  Prints_node w f b c z u n = (t : Traced) → (r : NodeRow) → (x : Account) → IsAt f w t → slice_get (node_rows w.scenario) n ≡ Some r
      → slice_get (all_accounts w) n ≡ Some x → Goes contents b c z u (account_line w.scenario.version x ++ node_text w.scenario t n r r.leaf)

  pub node_as : (w : World) (f : Followed) (b c : Counted W) (z u : Bool) (k n : ℕ) → k ≡ n → Prints_node w f b c z u k → Prints_node w f b c z u n
  node_as w f b c z u k n e h = subst (Prints_node w f b c z u) e h

  pub nodes_first : (w : World) (f : Followed) (out : Counted W) (was : Bool) → Nodes_so_far w f out out was was 0
  nodes_first w f out was t at = printed_first contents out was _

  pub nodes_next : (w : World) (f : Followed) (a b c : Counted W) (y z u : Bool) (n : ℕ) → n < length (all_accounts w) → n < length (node_rows w.scenario)
      → Nodes_so_far w f a b y z n
      → Prints_node w f b c z u n → Nodes_so_far w f a c y u (n + 1)
  nodes_next w f a b c y z u n less fewer so_far reported t at =
      let s = w.scenario in
      let i = next_one (all_accounts w) n less in
      let j = next_one (node_rows s) n fewer in
      let one : suc n ≡ n + 1 = omega arith in
      printed_next contents a b c y z u (account_line s.version i.here ++ node_text s t n j.here j.here.leaf)
      (nodes_text s t (n + 1) (drop (n + 1) (all_accounts w)) (drop (n + 1) (node_rows s))) _ _
      ((λ k. nodes_text s t n (i.next k) (j.next k))
      ∙ ap (λ m. account_line s.version i.here ++ node_text s t n j.here j.here.leaf ++ nodes_text s t m (drop (n + 1) (all_accounts w))
      (drop (n + 1) (node_rows s))) one)
      (so_far t at) (reported t j.here i.here at j.is i.is)

  pub nodes_end : (w : World) (f : Followed) (a b : Counted W) (y z : Bool) (n : ℕ) → length (all_accounts w) ≤ n → Nodes_so_far w f a b y z n
      → (t : Traced) → IsAt f w t → Goes contents a b y z (text_in w.scenario t)
  nodes_end w f a b y z n least so_far t at =
      subst (Goes contents a b y z)
      (nodes_same_text w.scenario t 0 (all_accounts w) (accounts_in w.scenario w.world (budgets_of w.scenario)) (node_rows w.scenario) (all_seen w)
      ∙ ap (λ (v : model.World). nodes_text w.scenario t 0 (accounts_in w.scenario v (budgets_of w.scenario)) (node_rows w.scenario)) (sym at.world))
      (reported_end contents a b y z _ _
      (ap (λ l. nodes_text w.scenario t n l (drop n (node_rows w.scenario))) (none_left (all_accounts w) n least)) (so_far t at))
