-- What holds in every `Trades` holds after each call.
use Rattle.std.proofs.Common.{◌≡◌, ℕ, ◌+◌, ◌<◌, ◌≤◌, List, length, Some, None, IfSome, get_or, slice_set, is_some, refl, sym, ap, subst, ◌∙◌, arith}
use Rattle.gq_tariff.specs.declared.amount.Amount.{Amount}
use Rattle.gq_store.specs.declared.AccountNo.{AccountNo}
use Rattle.gq_ram.specs.Account_table.{account_at, available, available_caps, IsOpen}
use Rattle.gq_ram.specs.Ledgers.{Ledger, IsBalanced}
use Rattle.gq_ram.specs.Account_tree.{donated, account_of as account_in, number, parent}
use Rattle.gq_ram.specs.declared.account.Account.{Account}
use Rattle.gq_ram.specs.Giving.{CanGive}
use Rattle.gq_ram.specs.Account_stores.{SameRest}
use Rattle.gq_trade.specs.Rest.{IsClosed}
use Rattle.gq_trade.specs.Balances.{no_node, node_at}
use Rattle.gq_trade.specs.Leaf_ends.{CanStart, HasNoSessions, follower, staged, with_stage}
use Rattle.gq_trade.specs.declared.trade_node.NodeState.{NodeState}
use Rattle.gq_trade.specs.declared.trade_node.Stage.TheVariants.{Live, Ended}
use Rattle.gq_trade.specs.internal.Trades_fields.{Holds}
use Rattle.gq_ram.specs.internal.Kept_rest.{rest_refl}
use Rattle.gq_trade.specs.Numbers.{IsTaken}
use Rattle.gq_trade.specs.declared.requests.Ask.{Ask}
use Rattle.gq_trade.specs.declared.requests.Ask.TheVariants.{Upgrade}
use Rattle.gq_trade.specs.declared.requests.Request.{Request}
use Rattle.gq_trade.specs.declared.session.Session.{Session}
use Rattle.gq_trade.specs.Queues.{oldest_to}
use Rattle.gq_trade.specs.Trading.{AreOfOthers, Begins, Leaves, account_no, handed_on, parted, with_requests}
use Rattle.gq_trade.specs.Trading.{Trading, IsTrading, IsBetween, account_of, asked, client_of, found, given, its_account, node_of}
use Rattle.gq_trade.specs.Trading.{server_of, session_at, upgraded, with_ask, with_ledger, with_more, with_session}
use Rattle.gq_trade.specs.Trades.{Trades, AreParties, IsLive, IsTrades, with_trading}
use Rattle.gq_trade.specs.Waiting.{IsIdle}
use Rattle.gq_trade.proofs.Donation_bounds.{caps_within, ram_within}
use Rattle.gq_trade.proofs.Leaf_account_closing.{closed_kept, leaves_of}
use Rattle.gq_trade.proofs.Accepted_closed_trades as ends
use Rattle.gq_trade.proofs.Trades_invariant_kept as kept
use Rattle.gq_trade.proofs.Leaf_end_start as leaving
use Rattle.gq_trade.proofs.Sessions_kept as trading
use Rattle.gq_trade.proofs.Waiting_client_count.{idle_none}

-- what a donation makes of the ledger, where i and j are the nodes of the leaves x and y
pub given_is : (w : Trading) (m : Ledger) (x y i j : ℕ) (n : Amount) → i ≡ node_of w x → j ≡ node_of w y
    → m ≡ donated w.tree w.ledger i j n → m ≡ (given w x y n).ledger
given_is w m x y i j n ei ej moved =
    moved ∙ ap (λ a. donated w.tree w.ledger a j n) ei ∙ ap (λ a. donated w.tree w.ledger (node_of w x) a n) ej

-- what the account of the node i has is what the leaf x has
pub enough_of : (w : Trading) (x i n : ℕ) (f : Account → ℕ) → i ≡ node_of w x → n ≤ f (account_in w.tree w.ledger i) → n ≤ f (its_account w x)
enough_of w x i n f e le = subst (λ j. n ≤ f (account_in w.tree w.ledger j)) e le

module _ (w : Trades) (h : Holds w) where
  pub open_of : (x : ℕ) → IsLive w x → IsOpen w.trading.ledger.accounts (account_of w.trading x)
  open_of x l = kept.live_open w h.trades h.trading x l

  pub can_give : (x y : ℕ) → IsLive w x → IsLive w y → (x ≡ y → ⊥)
      → CanGive w.trading.tree w.trading.ledger.accounts (node_of w.trading x) (node_of w.trading y)
  can_give x y xl yl ne = record {
    nodes = h.trading.nodes;
    from = h.trading.leaves x xl.there;
    to = h.trading.leaves y yl.there;
    apart = λ e. ne (h.trading.apart x y xl.there yl.there e);
    from_open = open_of x xl;
    to_open = open_of y yl;
  }

  pub parties_at : (k : ℕ) → IsTaken w.trading.sessions k → AreParties w (session_at w.trading k)
  parties_at k taken =
      let b = kept.parties w h.trades h.trading k taken in
      record {
        client = kept.client_live w h.trades h.trading k taken;
        server = kept.server_live w h.trades h.trading k taken;
        apart = b.apart;
        service = b.service;
        counted = (h.trades.sessions k taken).counted;
      }

  pub room_for_one : (x : ℕ) → x < length w.trading.leaves → IsIdle w.trading x → length w.trading.requests < 64
  room_for_one x lt idle = kept.few_wait w h.trades h.trading x lt idle

  pub room_for_its : (k : ℕ) → IsTaken w.trading.sessions k → IsIdle w.trading (client_of w.trading k) → length w.trading.requests < 64
  room_for_its k taken idle = room_for_one (client_of w.trading k) (parties_at k taken).client.there idle

  -- what was given for a session stays a small number
  pub small_ram : (k i n : ℕ) → IsTaken w.trading.sessions k → IsIdle w.trading (client_of w.trading k) → IsBalanced w.trading.ledger
      → n ≤ available (account_in w.trading.tree w.trading.ledger i) → (session_at w.trading k).donation.ram + n ≤ 2199023255552
  small_ram k i n taken idle b le =
      let g = h.trades.given k taken in
      let m = ram_within w.trading.ledger (number w.trading.tree i) n b le in
      omega (arith, g.ram, g.level, idle_none w.trading.sessions k w.trading.requests idle, m)

  pub small_caps : (k i n : ℕ) → IsTaken w.trading.sessions k → IsIdle w.trading (client_of w.trading k) → IsBalanced w.trading.ledger
      → n ≤ available_caps (account_in w.trading.tree w.trading.ledger i) → (session_at w.trading k).donation.caps + n ≤ 2199023255552
  small_caps k i n taken idle b le =
      let g = h.trades.given k taken in
      let m = caps_within w.trading.ledger (number w.trading.tree i) n b le in
      omega (arith, g.caps, g.level, idle_none w.trading.sessions k w.trading.requests idle, m)

  pub asked_holds : (s : Session) → AreParties w s → s.donation.ram ≤ available (its_account w.trading s.client)
      → s.donation.caps ≤ available_caps (its_account w.trading s.client) → IsIdle w.trading s.client → s.level ≡ 0
      → IsBalanced w.trading.ledger → Holds (with_trading w (asked w.trading s))
  asked_holds s p enough enough_caps idle zero b =
      let b2 : IsBetween (length w.trading.leaves) (length w.trading.objects) s =
      record { client = p.client.there; server = p.server.there; apart = p.apart; service = p.service } in
      record {
        trading = trading.entered_kept (given w.trading s.client s.server s.donation) s
            (trading.given_kept w.trading s.client s.server s.donation h.trading (open_of s.client p.client) (open_of s.server p.server)) b2;
        trades = kept.asked_kept w h.trades h.trading s p.client p.server p.apart p.counted enough enough_caps idle zero b;
      }

  pub upgraded_holds : (k : ℕ) (n : Amount) → IsTaken w.trading.sessions k → (w.trading.ledger.price ≡ 0 → n.caps ≡ 0)
      → n.ram ≤ available (its_account w.trading (client_of w.trading k)) → n.caps ≤ available_caps (its_account w.trading (client_of w.trading k))
      → IsIdle w.trading (client_of w.trading k) → IsBalanced w.trading.ledger → Holds (with_trading w (upgraded w.trading k n))
  upgraded_holds k n taken counted enough enough_caps idle b =
      let p = parties_at k taken in
      let v : Trading = given w.trading (client_of w.trading k) (server_of w.trading k) n in
      let s = with_more (session_at w.trading k) n in
      let t : IsTrading v =
      trading.given_kept w.trading (client_of w.trading k) (server_of w.trading k) n h.trading (open_of (client_of w.trading k) p.client)
      (open_of (server_of w.trading k) p.server) in
      record {
        trading = trading.with_ask_kept (with_session v k s) k Upgrade (trading.set_kept v k s t taken refl refl refl) (trading.taken_still v k s taken);
        trades = kept.upgraded_kept w h.trades h.trading k n taken counted enough enough_caps idle b;
      }

  -- a request more waits
  pub ask_holds : (k : ℕ) (a : Ask) → IsTaken w.trading.sessions k → IsIdle w.trading (client_of w.trading k)
      → Holds (with_trading w (with_ask w.trading k a))
  ask_holds k a taken idle = record {
    trading = trading.with_ask_kept w.trading k a h.trading taken;
    trades = kept.with_ask_kept w h.trades h.trading k a taken idle;
  }

  -- one session is other, of the same client, server, service and donation
  pub session_holds : (k : ℕ) (old s : Session) → get_or w.trading.sessions k None ≡ Some old → s.client ≡ old.client → s.server ≡ old.server
      → s.service ≡ old.service → s.donation ≡ old.donation → old.level ≤ s.level → (old.level ≤ 3 → s.level ≤ 3)
      → Holds (with_trading w (with_session w.trading k s))
  session_holds k old s is ec es ev ed up most =
      let taken : IsTaken w.trading.sessions k = ap is_some is in
      let same : old ≡ session_at w.trading k = sym (ap found is) in
      record {
        trading = trading.changed_kept w.trading k old s h.trading is ec es ev;
        trades = kept.session_kept w h.trades h.trading w.trading.ledger 0 k s (rest_refl 0 w.trading.ledger) taken
            (ec ∙ ap (λ (x : Session). x.client) same) (es ∙ ap (λ (x : Session). x.server) same) (ed ∙ ap (λ (x : Session). x.donation) same)
            (subst (λ (x : Session). x.level ≤ s.level) same up)
            (most (subst (λ (x : Session). x.level ≤ 3) (sym same) (h.trades.given k taken).level));
      }

  -- what one account has is other
  pub rest_holds : (m : Ledger) (a : ℕ) → SameRest a w.trading.ledger m → Holds (with_trading w (with_ledger w.trading m))
  rest_holds m a rest = record {
    trading = trading.others_kept w.trading m a h.trading rest;
    trades = kept.memory_kept w h.trades h.trading m a rest;
  }

  -- a request has begun, and is taken
  pub accepted_holds : (u : Trades) (x : ℕ) (r : Request) (rest : List Request) → Holds u
      → (r.ask ≡ Upgrade → (session_at w.trading r.session).level < 3) → Begins r.ask w.trading u.trading r.session → u.nodes ≡ w.nodes
      → oldest_to x u.trading.requests ≡ Some (r, rest) → Holds (with_trading u (with_requests u.trading rest))
  accepted_holds u x r rest hu low begins nodes taken =
      let v : Trading = with_requests u.trading rest in
      record {
        trading = trading.taken_kept u.trading x (Some r) rest hu.trading taken tt;
        trades = subst (λ ns. IsTrades (record { trading = v; nodes = ns })) (sym nodes)
            (ends.accepted_kept w h.trades h.trading v x r low (trading.accepts_of w.trading u.trading v x r begins taken refl));
      }

  -- what was given for a session goes back, and it is there no more
  pub parted_holds : (k : ℕ) → IsTaken w.trading.sessions k → (session_at w.trading k).donation.ram ≤ available (its_account w.trading (server_of w.trading k))
      → (session_at w.trading k).donation.caps ≤ available_caps (its_account w.trading (server_of w.trading k)) → AreOfOthers k w.trading.requests
      → Holds (with_trading w (parted w.trading k))
  parted_holds k taken enough enough_caps none =
      let p = parties_at k taken in
      let x = server_of w.trading k in let y = client_of w.trading k in
      let v : Trading = given w.trading x y (session_at w.trading k).donation in
      record {
        trading = trading.removed_kept v k
            (trading.given_kept w.trading x y (session_at w.trading k).donation h.trading (open_of x p.server) (open_of y p.client)) none;
        trades = ends.parted_kept w h.trades h.trading k taken enough enough_caps none;
      }

  -- a leaf ends
  pub left_holds : IsBalanced w.trading.ledger → (x : ℕ) → IsLive w x → HasNoSessions w.trading x → (v : Trading) → Leaves w.trading v x
      → Holds (record { trading = v; nodes = staged w.nodes (node_of w.trading x) Ended })
  left_holds b x live alone v l =
      let t = w.trading in
      let refers = h.trading.nodes.references (node_of t x) (h.trades.settled.below x live.there) (h.trading.leaves x live.there) (open_of x live) in
      record {
        trading = subst IsTrading (sym l.is) (closed_kept t x v.ledger (account_no t x) h.trading b live.there (h.trades.settled.below x live.there)
            (open_of x live) refl (subst (λ o. IfSome o (λ init. IsClosed t.ledger v.ledger (account_no t x) init)) (sym refers) l.closed));
        trades = leaving.left_kept w h.trades h.trading b x live alone v l;
      }

  -- m is the ledger in which the account of the leaf x is closed; old is what was known of its node i
  module _ (b : IsBalanced w.trading.ledger) (x : ℕ) (live : IsLive w x) (alone : HasNoSessions w.trading x) (m : Ledger) (a : AccountNo)
      (i : ℕ) (old : NodeState) (ei : i ≡ node_of w.trading x) (ea : a.0 ≡ number w.trading.tree i)
      (closes : IfSome (account_at w.trading.ledger.accounts a.0).reference (λ init. IsClosed w.trading.ledger m a init))
      (eo : old ≡ get_or w.nodes i old) where
    abbrev after : Trading
    after = with_ledger w.trading m

    abbrev nodes : List NodeState
    nodes = slice_set w.nodes i (with_stage old Ended)

    leaves : Leaves w.trading after x
    leaves =
        leaves_of w.trading x m a h.trading live.there (h.trades.settled.below x live.there) (open_of x live) (ea ∙ ap (number w.trading.tree) ei) closes

    old_node : old ≡ node_at w.nodes i
    old_node = leaving.item w.nodes i old no_node (omega (arith, h.trading.leaves x live.there, h.trades.settled.count, ei)) eo

    staged_now : staged w.nodes (node_of w.trading x) Ended ≡ nodes
    staged_now = ap (λ j. staged w.nodes j Ended) (sym ei) ∙ ap (λ y. slice_set w.nodes i (with_stage y Ended)) (sym old_node)

    pub left_now : Holds (record { trading = after; nodes = nodes })
    left_now = subst (λ ns. Holds (record { trading = after; nodes = ns })) staged_now (left_holds b x live alone after leaves)

    pub follower_now : IfSome (follower (node_of w.trading x) nodes) (λ j. CanStart (record { trading = after; nodes = nodes }) j)
    follower_now =
        let k = node_of w.trading x in
        subst (λ ns. IfSome (follower k ns) (λ j. CanStart (record { trading = after; nodes = ns }) j)) staged_now
        (leaving.if_follower k (staged w.nodes k Ended) (CanStart (record { trading = after; nodes = staged w.nodes k Ended }))
        (leaving.can_start w h.trades h.trading b x live alone after leaves) (follower k (staged w.nodes k Ended)) refl)

  -- a node starts
  pub started_holds : (i : ℕ) → CanStart w i
      → Holds (record { trading = handed_on w.trading i (node_at w.nodes i).quantum; nodes = staged w.nodes i Live })
  started_holds i can =
      let t = w.trading in let n = (node_at w.nodes i).quantum in
      let io = leaving.i_open w h.trades h.trading i can.below can.there can.pending can.ram can.caps in
      let po = leaving.p_open w h.trades h.trading i can.below can.there can.pending can.ram can.caps in
      record {
        trading = trading.handed_kept t i (parent t.tree i) n (handed_on t i n).ledger h.trading io po refl refl;
        trades = leaving.started_kept w h.trades h.trading i can.below can.there can.pending can.ram can.caps;
      }
