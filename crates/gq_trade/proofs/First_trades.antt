-- What holds in a `Trades` that is new.
use Rattle.std.proofs.Common.{◌≡◌, ℕ, zero, suc, ◌+◌, ◌<◌, ◌≤◌, ◌↔◌, List, [], ◌∷◌, length, map, get_or, Option, Some, None, true, false, refl, sym, ap}
use Rattle.std.proofs.Common.{subst, ◌∙◌, arith}
use Rattle.std.specs.Prelude.{is_some}
use Rattle.gq_tariff.specs.declared.amount.Amount.{Amount}
use Rattle.gq_ram.specs.declared.account.Account.{Account}
use Rattle.gq_store.specs.declared.AccountNo.{AccountNo}
use Rattle.gq_ram.specs.Account_table.{Entries, account_at, its_account, no_amount, IsOpen}
use Rattle.gq_ram.specs.Ledgers.{Ledger, first_ledger, price_where}
use Rattle.gq_ram.specs.Account_tree.{Tree, account_of, number, parent}
use Rattle.gq_ram.specs.Handing.{spent}
use Rattle.gq_ram.specs.Opening.{IsOpened}
use Rattle.gq_trade.specs.declared.trade_node.NodeState.{NodeState}
use Rattle.gq_trade.specs.declared.trade_node.Stage.{Stage}
use Rattle.gq_trade.specs.declared.trade_node.Stage.TheVariants.{Pending, Live, Ended}
use Rattle.gq_trade.specs.Balances.{handed, node_at, while_live}
use Rattle.gq_trade.specs.Trades_plan.{IsPlan, tree_of}
use Rattle.gq_trade.specs.Trades.{IsTrades, AreSettled}

-- what a node is handed, from the list of all
map_handed : (ns : List NodeState) (i : ℕ) → get_or (map handed ns) i no_amount ≡ handed (node_at ns i)
map_handed [] i = refl
map_handed (n ∷ ns) zero = refl
map_handed (n ∷ ns) (suc i) = map_handed ns i

none_while : (s : Stage) (n : Amount) → n.caps ≡ 0 → (while_live s n).caps ≡ 0
none_while Pending n e = refl
none_while Live n e = e
none_while Ended n e = refl

not_counted : (caps : Option ℕ) → price_where caps ≡ 0 → caps ≡ None
not_counted None e = refl
not_counted (Some n) e = absurd (omega (arith, e))

is_taken_none : false ≡ true → ⊥
is_taken_none e = cc

number_of : (a b : AccountNo) → Some a ≡ Some b → a.0 ≡ b.0
number_of a b e = let f : a ≡ b = cc in ap (λ (x : AccountNo). x.0) f

none_some : (a : AccountNo) → None ≡ Some a → ⊥
none_some a e = cc

module _ {total : ℕ} {caps : Option ℕ} {ps : List ℕ} {ns : List NodeState} {xs os : List ℕ} (p : IsPlan total caps ps ns xs os) (t : Tree) (tp : t.parents ≡ ps)
    (hs : List Amount) (hp : hs ≡ map handed ns) where
  here : (j : ℕ) → parent t j ≡ get_or ps j 0
  here j = ap (λ qs. get_or qs j 0) tp

  count : length t.parents ≡ length ps
  count = ap length tp

  handed_at : (i : ℕ) → get_or hs i no_amount ≡ handed (node_at ns i)
  handed_at i = ap (λ zs. get_or zs i no_amount) hp ∙ map_handed ns i

  pub fits_here : (f : Amount → ℕ) → ((i : ℕ) → i < length ps → spent f (tree_of ps) (map handed ns) i ≤ f (handed (node_at ns i))) → (i : ℕ)
      → i < length t.parents → spent f t hs i ≤ f (get_or hs i no_amount)
  fits_here f fits i lt =
      let e : spent f t hs i ≡ spent f (tree_of ps) (map handed ns) i = (λ k. spent f (tree_of (tp k)) (hp k) i) in
      omega (arith, e, fits i (omega (arith, lt, count)), ap f (handed_at i))

  pub counted_here : (price : ℕ) → price ≡ price_where caps → price ≡ 0 → (i : ℕ) → i < length hs → (get_or hs i no_amount).caps ≡ 0
  counted_here price e z i lt =
      ap (λ (n : Amount). n.caps) (handed_at i) ∙ none_while (node_at ns i).stage (node_at ns i).quantum (p.uncounted (not_counted caps (sym e ∙ z)) i)

  -- no account is below a leaf's
  module _ (l : Ledger) (lp : l ≡ first_ledger total caps) (es : Entries) (o : IsOpened t l.accounts es) where
    root_alone : (account_at es 0).reference ≡ None
    root_alone = ap (λ x. (its_account x).reference) (o.kept ∙ ap (λ (m : Ledger). get_or m.accounts 0 None) lp)

    -- no account has memory in use
    pub unused_at : (i : ℕ) → i < length t.parents → (account_at es (number t i)).used ≡ no_amount
    unused_at zero lt =
        ap (λ k. (account_at es k).used) o.root ∙ ap (λ x. (its_account x).used) (o.kept ∙ ap (λ (m : Ledger). get_or m.accounts 0 None) lp)
    unused_at (suc i) lt = ap (λ x. (its_account x).used) (o.empty (suc i) (omega arith) lt)

    -- the root's account has all that its node is handed, and every other has nothing yet
    pub first_at : (account_at es (number t 0)).quota ≡ get_or hs 0 no_amount
    first_at =
        let live : handed (node_at ns 0) ≡ (node_at ns 0).quantum = ap (λ s. while_live s (node_at ns 0).quantum) p.root in
        ap (λ k. (account_at es k).quota) o.root
        ∙ (ap (λ x. (its_account x).quota) (o.kept ∙ ap (λ (m : Ledger). get_or m.accounts 0 None) lp) ∙ sym (handed_at 0 ∙ (live ∙ p.whole)))

    pub empty_at : (i : ℕ) → 0 < i → i < length t.parents → (account_at es (number t i)).quota ≡ no_amount
    empty_at i below lt = ap (λ x. (its_account x).quota) (o.empty i below lt)

    refers : (i : ℕ) (r : AccountNo) → i < length t.parents → (account_at es (number t i)).reference ≡ Some r → (0 < i) × (number t (parent t i) ≡ r.0)
    refers zero r lt e = absurd (none_some r (sym (ap (λ k. (account_at es k).reference) o.root ∙ root_alone) ∙ e))
    refers (suc i) r lt e = (
      omega arith,
      number_of (record { 0 = number t (parent t (suc i)) }) r
          (sym (ap (λ x. (its_account x).reference) (o.empty (suc i) (omega arith) lt)) ∙ e),
    )

    alone_at : (k : ℕ) (x : Option Account) (y : ℕ) → get_or es k None ≡ x → y < length xs
        → (account_at es k).reference ≡ Some (record { 0 = number t (get_or xs y 0) }) → ⊥
    alone_at k None y e yl r = none_some (record { 0 = number t (get_or xs y 0) }) (sym (ap (λ z. (its_account z).reference) e) ∙ r)
    alone_at k (Some a) y e yl r =
        let n = o.only k (ap is_some e) in
        let q = refers n.0 (record { 0 = number t (get_or xs y 0) }) n.1 (ap (λ j. (account_at es j).reference) n.2 ∙ r) in
        let same = o.nodes.apart (parent t n.0) (get_or xs y 0) (omega (arith, here n.0, p.preorder n.0 q.0 (omega (arith, n.1, count)), n.1))
        (omega (arith, p.within y yl, count)) q.1 in
        p.childless y n.0 yl q.0 (omega (arith, n.1, count)) (sym (here n.0) ∙ same)

    module _ (new : Entries) (still : (k : ℕ) → IsOpen new k ↔ IsOpen es k)
        (references : (k : ℕ) → (account_at new k).reference ≡ (account_at es k).reference) where
      first_settled : AreSettled t xs ns new
      first_settled = record {
        count = p.count ∙ sym count;
        below = p.below;
        childless = λ x j xl pos lt e. p.childless x j xl pos (omega (arith, lt, count)) (sym (here j) ∙ e);
        root = p.root;
        inits = λ j pos lt. ap (λ k. (node_at ns k).stage) (here j) ∙ p.inits j pos (omega (arith, lt, count));
        opened = λ i lt ne. (still (number t i)).1 (o.opened i lt);
        after = λ i j lt e.
            let f = p.after i j (omega (arith, lt, count)) e in
            record {
              below = f.below;
              before = f.before;
              there = omega (arith, f.there, count);
              beside = here i ∙ f.beside ∙ sym (here j);
              ram = f.ram;
              caps = f.caps;
            };
        alone = λ x k xl e. alone_at k (get_or es k None) x refl xl (sym (references k) ∙ e);
      }

      pub first_kept : (m : Ledger) (r : ℕ) → m.accounts ≡ new → m.price ≡ price_where caps
          → ((i : ℕ) → i < length t.parents → (account_of t m i).quota.ram + spent (λ a. a.ram) t hs i ≡ (get_or hs i no_amount).ram)
          → ((i : ℕ) → i < length t.parents → (account_of t m i).quota.caps + spent (λ a. a.caps) t hs i ≡ (get_or hs i no_amount).caps)
          → IsTrades (record {
            trading = record { ledger = m; tree = t; leaves = xs; objects = os; sessions = []; room = r; requests = [] };
            nodes = ns;
          })
      first_kept m r am pm ram_even caps_even = record {
        uncounted = λ z i. p.uncounted (not_counted caps (sym pm ∙ z)) i;
        settled = subst (AreSettled t xs ns) (sym am) first_settled;
        sessions = λ k taken. absurd (is_taken_none taken);
        few = p.few;
        asks = tt;
        given = λ k taken. absurd (is_taken_none taken);
        even = λ i lt. (
          let e : spent (λ a. a.ram) t hs i ≡ spent (λ a. a.ram) t (map handed ns) i = ap (λ zs. spent (λ a. a.ram) t zs i) hp in
              omega (arith, ram_even i lt, e, ap (λ (a : Amount). a.ram) (handed_at i)),
          let e : spent (λ a. a.caps) t hs i ≡ spent (λ a. a.caps) t (map handed ns) i = ap (λ zs. spent (λ a. a.caps) t zs i) hp in
              omega (arith, caps_even i lt, e, ap (λ (a : Amount). a.caps) (handed_at i)),
        );
      }
