-- What holds in a `Trades` once a leaf has ended, and once another has started.
use Rattle.std.proofs.Common.{◌≡◌, ℕ, zero, suc, ◌+◌, ◌⊎◌, Bool, true, false, [], ◌∷◌, IfSome, ◌<◌, ◌≤◌, inl, inr, List, length, length-set, map, get_or}
use Rattle.std.proofs.Common.{Option, Some, None, refl, sym, ap, subst}
use Rattle.std.proofs.Common.{◌∙◌, arith}
use Rattle.std.proofs.lemmas.Bool.{cases_eq}
use Rattle.std.proofs.lemmas.Bool.Decides.{eqb_tells}
use Rattle.gq_tariff.specs.declared.amount.Amount.{Amount}
use Rattle.gq_ram.specs.declared.account.Account.{Account}
use Rattle.gq_store.specs.declared.AccountNo.{AccountNo}
use Rattle.gq_ram.specs.Account_table.{Entries, account_at, available, available_caps, its_account, has_members, is_it, left_to, no_amount, IsOpen}
use Rattle.gq_ram.specs.Ledgers.{Ledger, IsBalanced}
use Rattle.gq_ram.proofs.Account_caller_facts.{is_same}
use Rattle.gq_ram.specs.Account_tree.{number, parent, account_of as account_in}
use Rattle.gq_ram.specs.Handing.{spent}
use Rattle.gq_trade.specs.Numbers.{IsTaken}
use Rattle.gq_trade.specs.Trading.{Trading, IsTrading, Leaves, client_of, handed_on, init_no, node_of, server_of}
use Rattle.gq_trade.specs.Trading.{session_at, with_ledger}
use Rattle.gq_trade.proofs.Leaf_account_closing.{gone, heir_now, open_still, other_entry, reference_stays}
use Rattle.gq_trade.specs.declared.trade_node.NodeState.{NodeState}
use Rattle.gq_trade.specs.declared.trade_node.Stage.{Stage}
use Rattle.gq_trade.specs.declared.trade_node.Stage.TheVariants.{Pending, Live, Ended}
use Rattle.gq_trade.specs.Balances.{IsEven, for_node, handed, lent, lent_for, node_at, quota, received, received_for, while_live}
use Rattle.gq_trade.specs.Trades.{Trades, IsTrades, IsLive, AreSettled}
use Rattle.gq_trade.specs.Leaf_ends.{CanStart, HasNoSessions, follower, follower_from, if_pending, is_number, staged, waits_for, with_stage}
use Rattle.gq_trade.proofs.Balances_after_trades.{IsKind, ram_kind, caps_kind, for_same, for_other, moved_quota}
use Rattle.gq_trade.proofs.Settled_nodes_sessions.{moved_settled}
use Rattle.gq_trade.proofs.Trades_invariant_kept.{live_open, not_both, parties}
use Rattle.gq_trade.proofs.Init_spending.{spent_none, spent_staged, staged_here, staged_other, staged_same, sum_none}

for_zero : (j i : ℕ) → for_node j i 0 ≡ 0
for_zero j i = elim (cases_eq j i) [
  | inl e ↦ for_same j i 0 e
  | inr ne ↦ for_other j i 0 ne
]

cases_true : (b : Bool) → (b ≡ true) ⊎ (b ≡ false)
cases_true true = inl refl
cases_true false = inr refl

-- an item that is there, whatever stands for one that is not
pub item : {A : Type 0} (xs : List A) (i : ℕ) (r d : A) → i < length xs → r ≡ get_or xs i r → r ≡ get_or xs i d
item [] i r d lt e = absurd (omega (arith, lt))
item (x ∷ xs) zero r d lt e = e
item (x ∷ xs) (suc i) r d lt e = item xs i r d (omega (arith, lt)) e

-- an account that is the reference account of none
pub no_members : (es : Entries) (a : AccountNo) → ((k : ℕ) → (account_at es k).reference ≡ Some a → ⊥) → has_members es a ≡ false
no_members [] a h = refl
no_members (x ∷ es) a h = elim (cases_true (is_it (its_account x).reference a)) [
  | inl y ↦ absurd (h zero (is_same (its_account x).reference a y))
  | inr n ↦ rw n (no_members es a (λ k. h (suc k)))
]

-- who follows is pending, and starts after the node
pub record IsFollower (ns : List NodeState) (j i : ℕ) : Type 0 where
  pub there : i < length ns
  pub pending : (node_at ns i).stage ≡ Pending
  pub after : (node_at ns i).after ≡ Some j

waits_then : (j : ℕ) (after : Option ℕ) (s : Stage) → if_pending s (is_number j after) ≡ true → (s ≡ Pending) × (after ≡ Some j)
waits_then j None Pending e = cc
waits_then j (Some i) Pending e = elim (eqb_tells i j) [
  | inl t ↦ (refl, ap Some t.1)
  | inr n ↦ absurd (let x : true ≡ false = sym e ∙ n.0 in cc)
]
waits_then j after Live e = cc
waits_then j after Ended e = cc

some_same : (a b : ℕ) → Some a ≡ Some b → a ≡ b
some_same a b e = cc

follower_is : (k j i : ℕ) (ns : List NodeState) → follower_from k j ns ≡ Some i → (m : ℕ) × (i ≡ k + m) × IsFollower ns j m
follower_is k j i [] e = cc
follower_is k j i (n ∷ ns) e = elim (cases_true (waits_for j n)) [
  | inl y ↦
      let p = waits_then j n.after n.stage y in
      let f : Some k ≡ Some i = rw y at e in
      (0, omega (arith, some_same k i f), record { there = omega arith; pending = p.0; after = p.1 })
  | inr z ↦
      let r = follower_is (suc k) j i ns (rw z at e) in
      (suc r.0, omega (arith, r.1), record { there = omega (arith, r.2.there); pending = r.2.pending; after = r.2.after })
]

pub if_follower : (j : ℕ) (ns : List NodeState) (P : ℕ → Type 0) → ((i : ℕ) → IsFollower ns j i → P i) → (o : Option ℕ) → follower j ns ≡ o → IfSome o P
if_follower j ns P h None e = tt
if_follower j ns P h (Some i) e = let r = follower_is 0 j i ns e in subst P (omega (arith, r.1)) (h r.0 r.2)

not_none : {A : Type 0} (a : A) → None ≡ Some a → ⊥
not_none a e = cc

module _ (w : Trades) (h : IsTrades w) (t : IsTrading w.trading) (b : IsBalanced w.trading.ledger) (x : ℕ) (live : IsLive w x)
    (alone : HasNoSessions w.trading x) where
  abbrev n : ℕ
  n = node_of w.trading x

  abbrev init : ℕ
  init = parent w.trading.tree n

  abbrev es : Entries
  es = w.trading.ledger.accounts

  abbrev now : List NodeState
  now = staged w.nodes n Ended

  pos : 0 < n
  pos = h.settled.below x live.there

  lt : n < length w.trading.tree.parents
  lt = t.leaves x live.there

  in_nodes : n < length w.nodes
  in_nodes = omega (arith, lt, h.settled.count)

  opened : IsOpen es (number w.trading.tree n)
  opened = live_open w h t x live

  refers : (account_at es (number w.trading.tree n)).reference ≡ Some (init_no w.trading x)
  refers = t.nodes.references n pos lt opened

  init_open : IsOpen es (number w.trading.tree init)
  init_open = (b.references (number w.trading.tree n) (init_no w.trading x) refers).0

  apart : number w.trading.tree init ≡ number w.trading.tree n → ⊥
  apart = (b.references (number w.trading.tree n) (init_no w.trading x) refers).1

  init_there : init < length w.trading.tree.parents
  init_there = omega (arith, t.tree.preorder n pos lt, lt)

  there : (k : ℕ) → IsTaken w.trading.sessions k → client_of w.trading k < length w.trading.leaves
  there k taken = (parties w h t k taken).client

  server_there : (k : ℕ) → IsTaken w.trading.sessions k → server_of w.trading k < length w.trading.leaves
  server_there k taken = (parties w h t k taken).server

  client_apart : (k : ℕ) → IsTaken w.trading.sessions k → node_of w.trading (client_of w.trading k) ≡ n → ⊥
  client_apart k taken e = (alone k taken).0 (t.apart (client_of w.trading k) x (there k taken) live.there e)

  server_apart : (k : ℕ) → IsTaken w.trading.sessions k → node_of w.trading (server_of w.trading k) ≡ n → ⊥
  server_apart k taken e = (alone k taken).1 (t.apart (server_of w.trading k) x (server_there k taken) live.there e)

  -- the ledger once the account is closed
  module _ (v : Trading) (leaves : Leaves w.trading v x) where
    abbrev m : Ledger
    m = v.ledger

    closed : m.accounts ≡ left_to es (number w.trading.tree n) (number w.trading.tree init)
    closed = leaves.closed.accounts

    settled_now : AreSettled w.trading.tree w.trading.leaves now m.accounts
    settled_now =
        let a = number w.trading.tree n in
        let r = number w.trading.tree init in
        let gone_stage : (node_at now n).stage ≡ Ended = ap (λ (y : NodeState). y.stage) (staged_here w.nodes n Ended in_nodes) in
        let same_after = staged_same w.nodes n Ended (λ (y : NodeState). y.after) (λ y. refl) in_nodes in
        let same_quantum = staged_same w.nodes n Ended (λ (y : NodeState). y.quantum) (λ y. refl) in_nodes in
        record {
          count = length-set w.nodes n (with_stage (node_at w.nodes n) Ended) ∙ h.settled.count;
          below = h.settled.below;
          childless = h.settled.childless;
          root = ap (λ (y : NodeState). y.stage) (staged_other w.nodes n Ended 0 (λ e. absurd (omega (arith, e, pos)))) ∙ h.settled.root;
          inits = λ j p l.
              ap (λ (y : NodeState). y.stage) (staged_other w.nodes n Ended (parent w.trading.tree j) (h.settled.childless x j live.there p l))
              ∙ h.settled.inits j p l;
          opened = λ i l ne. elim (cases_eq i n) [
            | inl e ↦ absurd (ne (ap (λ j. (node_at now j).stage) e ∙ gone_stage))
            | inr other ↦
                subst (λ (fs : Entries). IsOpen fs (number w.trading.tree i)) (sym closed)
                (open_still es a r opened init_open apart (number w.trading.tree i) (λ e. other (t.nodes.apart i n l lt e))
                (h.settled.opened i l (λ e. ne (ap (λ (y : NodeState). y.stage) (staged_other w.nodes n Ended i other) ∙ e))))
          ];
          after = λ i j l e.
              let old = h.settled.after i j l (sym (same_after i) ∙ e) in
              record {
                below = old.below;
                before = old.before;
                there = old.there;
                beside = old.beside;
                ram = omega (arith, old.ram, ap (λ (q : Amount). q.ram) (same_quantum i), ap (λ (q : Amount). q.ram) (same_quantum j));
                caps = omega (arith, old.caps, ap (λ (q : Amount). q.caps) (same_quantum i), ap (λ (q : Amount). q.caps) (same_quantum j));
              };
          alone = λ y k l e. elim (cases_eq k a) [
            | inl at_a ↦
                not_none (record { 0 = number w.trading.tree (node_of w.trading y) })
                (sym (ap (λ j. (account_at m.accounts j).reference) at_a ∙ ap (λ (fs : Entries). (account_at fs a).reference) closed
                ∙ ap (λ o. (its_account o).reference) (gone es a r opened init_open apart)) ∙ e)
            | inr other ↦
                h.settled.alone y k l (sym (ap (λ (fs : Entries). (account_at fs k).reference) closed
                ∙ reference_stays es a r opened init_open apart k other) ∙ e)
          ];
        }

    -- the leaf had nothing but its quantum
    module _ (f : Amount → ℕ) (kind : IsKind f) (even : (i : ℕ) → i < length w.trading.tree.parents → IsEven f w.trading w.nodes i) where
      lent_none : lent f w.trading n ≡ 0
      lent_none = sum_none (lent_for f w.trading.leaves n) refl w.trading.sessions (λ k taken.
          for_other (node_of w.trading (client_of w.trading k)) n (f (session_at w.trading k).donation) (client_apart k taken))

      received_none : received f w.trading n ≡ 0
      received_none = sum_none (received_for f w.trading.leaves n) refl w.trading.sessions (λ k taken.
          for_other (node_of w.trading (server_of w.trading k)) n (f (session_at w.trading k).donation) (server_apart k taken))

      none_on : (ns : List NodeState) → spent f w.trading.tree (map handed ns) n ≡ 0
      none_on ns = spent_none f w.trading.tree (map handed ns) n (λ k p l. h.settled.childless x k live.there p l)

      is_handed : f (handed (node_at w.nodes n)) ≡ f (node_at w.nodes n).quantum
      is_handed = ap (λ s. f (while_live s (node_at w.nodes n).quantum)) live.live

      pub its_quantum : quota f w.trading n ≡ f (node_at w.nodes n).quantum
      its_quantum = omega (arith, even n lt, lent_none, received_none, none_on w.nodes, is_handed)

      handed_now : f (handed (node_at now n)) ≡ 0
      handed_now = ap (λ (y : NodeState). f (handed y)) (staged_here w.nodes n Ended in_nodes) ∙ kind.none_is

      gone_quota : quota f (with_ledger w.trading m) n ≡ 0
      gone_quota =
          ap (λ (fs : Entries). f (account_at fs (number w.trading.tree n)).quota) closed
          ∙ ap (λ o. f (its_account o).quota) (gone es (number w.trading.tree n) (number w.trading.tree init) opened init_open apart)
          ∙ kind.none_is

      pub heir_quota : quota f (with_ledger w.trading m) init ≡ quota f w.trading init + quota f w.trading n
      heir_quota =
          ap (λ (fs : Entries). f (account_at fs (number w.trading.tree init)).quota) closed
          ∙ ap (λ (y : Account). f y.quota) (heir_now es (number w.trading.tree n) (number w.trading.tree init) opened init_open apart)
          ∙ kind.heir_is (account_at es (number w.trading.tree init)) (account_at es (number w.trading.tree n))

      other_quota : (i : ℕ) → i < length w.trading.tree.parents → (i ≡ n → ⊥) → (i ≡ init → ⊥) → quota f (with_ledger w.trading m) i ≡ quota f w.trading i
      other_quota i l nn ni =
          ap (λ (fs : Entries). f (account_at fs (number w.trading.tree i)).quota) closed
          ∙ ap (λ o. f (its_account o).quota) (other_entry es (number w.trading.tree n) (number w.trading.tree init) opened init_open apart
          (number w.trading.tree i) (λ e. nn (t.nodes.apart i n l lt e)) (λ e. ni (t.nodes.apart i init l init_there e)))

      spent_now : (i : ℕ) → spent f w.trading.tree (map handed now) i + for_node init i (f (handed (node_at w.nodes n)))
          ≡ spent f w.trading.tree (map handed w.nodes) i + for_node init i (f no_amount)
      spent_now i = spent_staged f w.trading.tree w.nodes n (with_stage (node_at w.nodes n) Ended) i pos lt h.settled.count

      even_now : (i : ℕ) → i < length w.trading.tree.parents → IsEven f (with_ledger w.trading m) now i
      even_now i l = elim (cases_eq i n) [
        | inl e ↦ subst (λ j. IsEven f (with_ledger w.trading m) now j) (sym e)
            (omega (arith, gone_quota, lent_none, received_none, none_on now, handed_now))
        | inr nn ↦ elim (cases_eq i init) [
          | inl e ↦ subst (λ j. IsEven f (with_ledger w.trading m) now j) (sym e) (omega (
            arith,
            even init init_there,
            heir_quota,
            its_quantum,
            is_handed,
            spent_now init,
            for_same init init (f (handed (node_at w.nodes n))) refl,
            for_same init init (f no_amount) refl,
            kind.none_is,
            ap (λ (y : NodeState). f (handed y)) (staged_other w.nodes n Ended init (λ d. nn (e ∙ d))),
          ))
          | inr ni ↦ omega (
            arith,
            even i l,
            other_quota i l nn ni,
            spent_now i,
            for_other init i (f (handed (node_at w.nodes n))) (λ d. ni (sym d)),
            for_other init i (f no_amount) (λ d. ni (sym d)),
            ap (λ (y : NodeState). f (handed y)) (staged_other w.nodes n Ended i nn),
          )
        ]
      ]

    abbrev left : Trades
    left = record { trading = v; nodes = now }

    pub left_kept : IsTrades left
    left_kept = subst (λ (y : Trading). IsTrades (record { trading = y; nodes = now })) (sym leaves.is) (record {
      uncounted = λ z i.
          ap (λ (q : Amount). q.caps) (staged_same w.nodes n Ended (λ (y : NodeState). y.quantum) (λ y. refl) in_nodes i)
          ∙ h.uncounted (sym leaves.closed.whole.0 ∙ z) i;
      settled = settled_now;
      sessions = λ k taken.
          let old = h.sessions k taken in
          record {
            client = ap (λ (y : NodeState). y.stage) (staged_other w.nodes n Ended (node_of w.trading (client_of w.trading k)) (client_apart k taken)) ∙
                old.client;
            server = ap (λ (y : NodeState). y.stage) (staged_other w.nodes n Ended (node_of w.trading (server_of w.trading k)) (server_apart k taken)) ∙
                old.server;
            counted = λ z. old.counted (sym leaves.closed.whole.0 ∙ z);
          };
      few = h.few;
      asks = h.asks;
      given = h.given;
      even = λ i l. (even_now (λ d. d.ram) ram_kind (λ j q. (h.even j q).0) i l, even_now (λ d. d.caps) caps_kind (λ j q. (h.even j q).1) i l);
    })

    -- its init can pay as much again
    pub ram_back : (node_at w.nodes n).quantum.ram ≤ available (account_in w.trading.tree m init)
    ram_back =
        let e = ap (λ (fs : Entries). (account_at fs (number w.trading.tree init)).used.ram) closed
        ∙ ap (λ (y : Account). y.used.ram) (heir_now es (number w.trading.tree n) (number w.trading.tree init) opened init_open apart) in
        omega (
          arith,
          heir_quota (λ d. d.ram) ram_kind (λ j q. (h.even j q).0),
          its_quantum (λ d. d.ram) ram_kind (λ j q. (h.even j q).0),
          e,
          b.within (number w.trading.tree init),
        )

    pub caps_back : (node_at w.nodes n).quantum.caps ≤ available_caps (account_in w.trading.tree m init)
    caps_back =
        let e = ap (λ (fs : Entries). (account_at fs (number w.trading.tree init)).used.caps) closed
        ∙ ap (λ (y : Account). y.used.caps) (heir_now es (number w.trading.tree n) (number w.trading.tree init) opened init_open apart) in
        omega (
          arith,
          heir_quota (λ d. d.caps) caps_kind (λ j q. (h.even j q).1),
          its_quantum (λ d. d.caps) caps_kind (λ j q. (h.even j q).1),
          e,
          b.caps_within (number w.trading.tree init),
        )

    -- who starts after it can start
    pub can_start : (i : ℕ) → IsFollower now n i → CanStart left i
    can_start i fo =
        let same_quantum = staged_same w.nodes n Ended (λ (y : NodeState). y.quantum) (λ y. refl) in_nodes in
        let f = settled_now.after i n (omega (arith, fo.there, settled_now.count)) fo.after in
        record {
          below = f.below;
          there = omega (arith, fo.there, settled_now.count, ap (λ (y : Trading). length y.tree.parents) leaves.is);
          pending = fo.pending;
          ram = omega (
            arith,
            f.ram,
            ram_back,
            ap (λ (q : Amount). q.ram) (same_quantum n),
            ap (λ j. available (account_in w.trading.tree m j)) f.beside,
            ap (λ (y : Trading). available (account_in y.tree y.ledger (parent y.tree i))) leaves.is,
          );
          caps = omega (
            arith,
            f.caps,
            caps_back,
            ap (λ (q : Amount). q.caps) (same_quantum n),
            ap (λ j. available_caps (account_in w.trading.tree m j)) f.beside,
            ap (λ (y : Trading). available_caps (account_in y.tree y.ledger (parent y.tree i))) leaves.is,
          );
        }

-- a pending node starts: it has its quantum from its init
module _ (w : Trades) (h : IsTrades w) (t : IsTrading w.trading) (i : ℕ) (pos : 0 < i) (lt : i < length w.trading.tree.parents)
    (pending : (node_at w.nodes i).stage ≡ Pending)
    (enough : (node_at w.nodes i).quantum.ram ≤ available (account_in w.trading.tree w.trading.ledger (parent w.trading.tree i)))
    (enough_caps : (node_at w.nodes i).quantum.caps ≤ available_caps (account_in w.trading.tree w.trading.ledger (parent w.trading.tree i))) where
  abbrev q : Amount
  q = (node_at w.nodes i).quantum

  abbrev p : ℕ
  p = parent w.trading.tree i

  abbrev now_live : List NodeState
  now_live = staged w.nodes i Live

  before : p < i
  before = t.tree.preorder i pos lt

  p_there : p < length w.trading.tree.parents
  p_there = omega (arith, before, lt)

  not_ended : (node_at w.nodes i).stage ≡ Ended → ⊥
  not_ended e = let x : Pending ≡ Ended = sym pending ∙ e in cc

  pub i_open : IsOpen w.trading.ledger.accounts (number w.trading.tree i)
  i_open = h.settled.opened i lt not_ended

  pub p_open : IsOpen w.trading.ledger.accounts (number w.trading.tree p)
  p_open = h.settled.opened p p_there (λ e. not_both (node_at w.nodes p).stage (h.settled.inits i pos lt) e)

  i_in : i < length w.nodes
  i_in = omega (arith, lt, h.settled.count)

  stays_live : (j : ℕ) → (node_at w.nodes j).stage ≡ Live → (node_at now_live j).stage ≡ Live
  stays_live j l = elim (cases_eq j i) [
    | inl e ↦ ap (λ k. (node_at now_live k).stage) e ∙ ap (λ (y : NodeState). y.stage) (staged_here w.nodes i Live i_in)
    | inr ne ↦ ap (λ (y : NodeState). y.stage) (staged_other w.nodes i Live j ne) ∙ l
  ]

  same_quanta : (j : ℕ) → (node_at now_live j).quantum ≡ (node_at w.nodes j).quantum
  same_quanta = staged_same w.nodes i Live (λ (y : NodeState). y.quantum) (λ y. refl) i_in

  same_afters : (j : ℕ) → (node_at now_live j).after ≡ (node_at w.nodes j).after
  same_afters = staged_same w.nodes i Live (λ (y : NodeState). y.after) (λ y. refl) i_in

  module _ (f : Amount → ℕ) (kind : IsKind f) (even : (j : ℕ) → j < length w.trading.tree.parents → IsEven f w.trading w.nodes j)
      (can : f q ≤ quota f w.trading p) where
    was_none : f (handed (node_at w.nodes i)) ≡ 0
    was_none = ap (λ s. f (while_live s q)) pending ∙ kind.none_is

    is_whole : f (handed (node_at now_live i)) ≡ f q
    is_whole = ap (λ (y : NodeState). f (handed y)) (staged_here w.nodes i Live i_in)

    even_live : (j : ℕ) → j < length w.trading.tree.parents → IsEven f (handed_on w.trading i q) now_live j
    even_live j l =
        let m = moved_quota f kind w.trading p i q t.nodes p_there lt p_open i_open (λ e. absurd (omega (arith, e, before))) can j l in
        let s = spent_staged f w.trading.tree w.nodes i (with_stage (node_at w.nodes i) Live) j pos lt h.settled.count in
        elim (cases_eq j i) [
          | inl e ↦
              let here : f (handed (node_at now_live j)) ≡ f q = ap (λ k. f (handed (node_at now_live k))) e ∙ is_whole in
              let old : f (handed (node_at w.nodes j)) ≡ 0 = ap (λ k. f (handed (node_at w.nodes k))) e ∙ was_none in
              omega (
                arith,
                even j l,
                m,
                s,
                here,
                old,
                for_same i j (f q) (sym e),
                for_other p j (f q) (λ d. absurd (omega (arith, d, e, before))),
                for_other p j (f (handed (node_at w.nodes i))) (λ d. absurd (omega (arith, d, e, before))),
              )
          | inr ne ↦
              let here : f (handed (node_at now_live j)) ≡ f (handed (node_at w.nodes j)) =
              ap (λ (y : NodeState). f (handed y)) (staged_other w.nodes i Live j ne) in
              let zero_there : for_node p j (f (handed (node_at w.nodes i))) ≡ 0 = ap (for_node p j) was_none ∙ for_zero p j in
              omega (arith, even j l, m, s, here, for_other i j (f q) (λ d. ne (sym d)), zero_there)
        ]

  pub started_kept : IsTrades (record { trading = handed_on w.trading i q; nodes = now_live })
  started_kept =
      let es = w.trading.ledger.accounts in
      let moved_on = moved_settled w.trading.tree w.trading.leaves w.nodes es (number w.trading.tree p) (number w.trading.tree i) q h.settled p_open i_open in
      record {
        uncounted = λ z j. ap (λ (y : Amount). y.caps) (same_quanta j) ∙ h.uncounted z j;
        settled = record {
          count = length-set w.nodes i (with_stage (node_at w.nodes i) Live) ∙ h.settled.count;
          below = h.settled.below;
          childless = h.settled.childless;
          root = stays_live 0 h.settled.root;
          inits = λ j s l. stays_live (parent w.trading.tree j) (h.settled.inits j s l);
          opened = λ j l ne. elim (cases_eq j i) [
            | inl e ↦ moved_on.opened j l (λ d. not_ended (ap (λ k. (node_at w.nodes k).stage) (sym e) ∙ d))
            | inr other ↦ moved_on.opened j l (λ d. ne (ap (λ (y : NodeState). y.stage) (staged_other w.nodes i Live j other) ∙ d))
          ];
          after = λ j k l e.
              let old = h.settled.after j k l (sym (same_afters j) ∙ e) in
              record {
                below = old.below;
                before = old.before;
                there = old.there;
                beside = old.beside;
                ram = omega (arith, old.ram, ap (λ (y : Amount). y.ram) (same_quanta j), ap (λ (y : Amount). y.ram) (same_quanta k));
                caps = omega (arith, old.caps, ap (λ (y : Amount). y.caps) (same_quanta j), ap (λ (y : Amount). y.caps) (same_quanta k));
              };
          alone = moved_on.alone;
        };
        sessions = λ k taken.
            let old = h.sessions k taken in
            record {
              client = stays_live (node_of w.trading (client_of w.trading k)) old.client;
              server = stays_live (node_of w.trading (server_of w.trading k)) old.server;
              counted = old.counted;
            };
        few = h.few;
        asks = h.asks;
        given = h.given;
        even = λ j l. (
          even_live (λ d. d.ram) ram_kind (λ k s. (h.even k s).0) (omega (arith, enough)) j l,
          even_live (λ d. d.caps) caps_kind (λ k s. (h.even k s).1) (omega (arith, enough_caps)) j l,
        );
      }
