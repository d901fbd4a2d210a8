-- What holds in a `Trades`, after each call.
use Rattle.std.proofs.Common.{◌≡◌, ℕ, [], ◌∷◌, ◌++◌, Option, None, ◌<◌, ◌≤◌, List, length, set, Some, refl, sym, ap}
use Rattle.std.proofs.Common.{subst, ◌∙◌, arith}
use Rattle.gq_tariff.specs.declared.amount.Amount.{Amount}
use Rattle.gq_ram.specs.Account_table.{available, available_caps, IsOpen}
use Rattle.gq_ram.specs.Ledgers.{Ledger, IsBalanced}
use Rattle.gq_ram.specs.Account_stores.{SameRest}
use Rattle.gq_trade.specs.Numbers.{IsTaken}
use Rattle.gq_trade.specs.declared.session.Session.{Session}
use Rattle.gq_trade.specs.Trading.{IsTrading, IsBetween, account_of, asked, client_of, its_account}
use Rattle.gq_trade.specs.Trading.{node_of, server_of, session_at, upgraded, with_ledger, with_more}
use Rattle.gq_trade.specs.Trading.{with_session}
use Rattle.gq_trade.proofs.Sessions_kept.{between_at}
use Rattle.gq_trade.specs.declared.trade_node.Stage.{Stage}
use Rattle.gq_trade.specs.declared.trade_node.Stage.TheVariants.{Live, Ended}
use Rattle.gq_trade.specs.Balances.{node_at}
use Rattle.gq_trade.specs.Trades.{Trades, IsTrades, IsSettled, IsLive, with_trading}
use Rattle.gq_trade.proofs.Balances_after_trades.{ram_kind, caps_kind, asked_even, upgraded_even, session_even, rest_quota}
use Rattle.std.proofs.lemmas.List.{get_or-set_same}
use Rattle.gq_trade.specs.Numbers.{added, free_number}
use Rattle.gq_trade.proofs.Lowest_free_number.{taken_there}
use Rattle.gq_trade.specs.declared.requests.Ask.{Ask}
use Rattle.gq_trade.specs.declared.requests.Ask.TheVariants.{Open, Upgrade}
use Rattle.gq_trade.specs.Trading.{found, session_in, with_ask}
use Rattle.gq_trade.proofs.Sessions_kept.{added_here}
use Rattle.gq_trade.specs.Waiting.{AreApart, AreOther, IsBounded, IsIdle, upgrades}
use Rattle.gq_trade.proofs.Waiting_client_count.{asked_apart, clients_added, clients_set, fewer, upgrade_bounded, waits_more}
use Rattle.gq_trade.specs.declared.requests.Request.{Request}
use Rattle.gq_trade.proofs.Donation_bounds.{caps_within, ram_within}
use Rattle.gq_trade.proofs.Settled_nodes_sessions.{Each, each_added, each_set, moved_settled, rest_settled}

pub not_both : (s : Stage) → s ≡ Live → s ≡ Ended → ⊥
not_both s a b = let e : Live ≡ Ended = sym a ∙ b in cc

module _ (w : Trades) (h : IsTrades w) (t : IsTrading w.trading) where
  pub node_there : (x : ℕ) → x < length w.trading.leaves → node_of w.trading x < length w.trading.tree.parents
  node_there x lt = t.leaves x lt

  pub live_open : (x : ℕ) → IsLive w x → IsOpen w.trading.ledger.accounts (account_of w.trading x)
  live_open x l = h.settled.opened (node_of w.trading x) (t.leaves x l.there) (λ e. not_both (node_at w.nodes (node_of w.trading x)).stage l.live e)

  pub nodes_apart : (x y : ℕ) → x < length w.trading.leaves → y < length w.trading.leaves → (x ≡ y → ⊥)
      → node_of w.trading y ≡ node_of w.trading x → ⊥
  nodes_apart x y xl yl ne e = ne (sym (t.apart y x yl xl e))

  pub parties : (k : ℕ) → IsTaken w.trading.sessions k → IsBetween (length w.trading.leaves) (length w.trading.objects) (session_at w.trading k)
  parties k taken = between_at (length w.trading.leaves) (length w.trading.objects) w.trading.sessions k t.between taken

  pub client_live : (k : ℕ) → IsTaken w.trading.sessions k → IsLive w (client_of w.trading k)
  client_live k taken = record { there = (parties k taken).client; live = (h.sessions k taken).client }

  pub server_live : (k : ℕ) → IsTaken w.trading.sessions k → IsLive w (server_of w.trading k)
  server_live k taken = record { there = (parties k taken).server; live = (h.sessions k taken).server }

  -- ASKED FOR

  pub asked_kept : (s : Session) → IsLive w s.client → IsLive w s.server → (s.client ≡ s.server → ⊥)
      → (w.trading.ledger.price ≡ 0 → s.donation.caps ≡ 0) → s.donation.ram ≤ available (its_account w.trading s.client)
      → s.donation.caps ≤ available_caps (its_account w.trading s.client) → IsIdle w.trading s.client → s.level ≡ 0
      → IsBalanced w.trading.ledger → IsTrades (with_trading w (asked w.trading s))
  asked_kept s cl sl apart counted enough enough_caps idle zero_level b =
      let v = w.trading in
      let xl = t.leaves s.client cl.there in let yl = t.leaves s.server sl.there in
      let xo = live_open s.client cl in let yo = live_open s.server sl in
      let ne = nodes_apart s.client s.server cl.there sl.there apart in
      record {
        uncounted = h.uncounted;
        settled = moved_settled v.tree v.leaves w.nodes v.ledger.accounts (account_of v s.client) (account_of v s.server) s.donation h.settled xo yo;
        sessions = each_added (λ j. IsSettled v.leaves w.nodes v.ledger.price) s v.sessions
            (record { client = cl.live; server = sl.live; counted = counted }) h.sessions;
        few = h.few;
        asks =
            let e = clients_added s v.sessions v.requests t.requests in
            asked_apart (added s v.sessions) v.requests (record { session = free_number v.sessions; server = s.server; ask = Open }) s.client
            (ap (λ o. (found o).client) (added_here s v.sessions)) (subst AreApart (sym e) h.asks) (subst (AreOther s.client) (sym e) idle);
        given =
            let r : Request = record { session = free_number v.sessions; server = s.server; ask = Open } in
            let nr = ram_within v.ledger (account_of v s.client) s.donation.ram b enough in
            let nc = caps_within v.ledger (account_of v s.client) s.donation.caps b enough_caps in
            each_added (λ k u. IsBounded u (upgrades k (v.requests ++ r ∷ []))) s v.sessions
            (record { level = omega (arith, zero_level); ram = omega (arith, nr); caps = omega (arith, nc) })
            (λ k taken. waits_more (session_in v.sessions k) k v.requests r (h.given k taken));
        even = λ i lt. (
          asked_even (λ n. n.ram) ram_kind v w.nodes s t.nodes xl yl xo yo ne (omega (arith, enough)) i lt (h.even i lt).0,
          asked_even (λ n. n.caps) caps_kind v w.nodes s t.nodes xl yl xo yo ne (omega (arith, enough_caps)) i lt (h.even i lt).1,
        );
      }

  pub upgraded_kept : (k : ℕ) (n : Amount) → IsTaken w.trading.sessions k → (w.trading.ledger.price ≡ 0 → n.caps ≡ 0)
      → n.ram ≤ available (its_account w.trading (client_of w.trading k)) → n.caps ≤ available_caps (its_account w.trading (client_of w.trading k))
      → IsIdle w.trading (client_of w.trading k) → IsBalanced w.trading.ledger → IsTrades (with_trading w (upgraded w.trading k n))
  upgraded_kept k n taken counted enough enough_caps idle b =
      let v = w.trading in
      let s = session_at v k in
      let cl = client_live k taken in let sl = server_live k taken in
      let xl = t.leaves s.client cl.there in let yl = t.leaves s.server sl.there in
      let xo = live_open s.client cl in let yo = live_open s.server sl in
      let ne = nodes_apart s.client s.server cl.there sl.there (parties k taken).apart in
      let old = h.sessions k taken in
      record {
        uncounted = h.uncounted;
        settled = moved_settled v.tree v.leaves w.nodes v.ledger.accounts (account_of v s.client) (account_of v s.server) n h.settled xo yo;
        sessions = each_set (λ j. IsSettled v.leaves w.nodes v.ledger.price) v.sessions k (with_more s n)
            (record { client = old.client; server = old.server; counted = λ z. omega (arith, old.counted z, counted z) }) h.sessions;
        few = h.few;
        asks =
            let ts : List (Option Session) = set v.sessions k (Some (with_more s n)) in
            let e = clients_set v.sessions k (with_more s n) v.requests t.requests taken refl in
            asked_apart ts v.requests (record { session = k; server = (session_in ts k).server; ask = Upgrade }) s.client
            (ap (λ o. (found o).client) (get_or-set_same v.sessions k (Some (with_more s n)) None (taken_there v.sessions k taken)))
            (subst AreApart (sym e) h.asks) (subst (AreOther s.client) (sym e) idle);
        given =
            let ts : List (Option Session) = set v.sessions k (Some (with_more s n)) in
            let r : Request = record { session = k; server = (session_in ts k).server; ask = Upgrade } in
            let nr = ram_within v.ledger (account_of v s.client) n.ram b enough in
            let nc = caps_within v.ledger (account_of v s.client) n.caps b enough_caps in
            each_set (λ j u. IsBounded u (upgrades j (v.requests ++ r ∷ []))) v.sessions k (with_more s n)
            (upgrade_bounded s k (session_in ts k).server n v.requests nr (omega (arith, nc)) (h.given k taken))
            (λ j u. waits_more (session_in v.sessions j) j v.requests r (h.given j u));
        even = λ i lt. (
          upgraded_even (λ a. a.ram) ram_kind v w.nodes k n t.nodes taken xl yl xo yo ne (omega (arith, enough)) i lt (h.even i lt).0,
          upgraded_even (λ a. a.caps) caps_kind v w.nodes k n t.nodes taken xl yl xo yo ne (omega (arith, enough_caps)) i lt (h.even i lt).1,
        );
      }

  -- what one account has is other, and one session of the same client, server and donation
  pub session_kept : (m : Ledger) (a k : ℕ) (s : Session) → SameRest a w.trading.ledger m → IsTaken w.trading.sessions k
      → s.client ≡ client_of w.trading k → s.server ≡ server_of w.trading k → s.donation ≡ (session_at w.trading k).donation
      → (session_at w.trading k).level ≤ s.level → s.level ≤ 3 → IsTrades (with_trading w (with_session (with_ledger w.trading m) k s))
  session_kept m a k s rest taken ec es ed up most =
      let v = w.trading in
      let old = h.sessions k taken in
      record {
        uncounted = λ z. h.uncounted (sym rest.whole.0 ∙ z);
        settled = rest_settled v.tree v.leaves w.nodes a v.ledger m h.settled rest;
        sessions = subst (λ p. Each (λ j. IsSettled v.leaves w.nodes p) (set v.sessions k (Some s))) (sym rest.whole.0)
            (each_set (λ j. IsSettled v.leaves w.nodes v.ledger.price) v.sessions k s (record {
              client = ap (λ x. (node_at w.nodes (node_of v x)).stage) ec ∙ old.client;
              server = ap (λ x. (node_at w.nodes (node_of v x)).stage) es ∙ old.server;
              counted = λ z. ap (λ (d : Amount). d.caps) ed ∙ old.counted z;
            }) h.sessions);
        few = h.few;
        asks = subst AreApart (sym (clients_set v.sessions k s v.requests t.requests taken ec)) h.asks;
        given =
            let b = h.given k taken in
            each_set (λ j u. IsBounded u (upgrades j v.requests)) v.sessions k s (record {
              level = most;
              ram = omega (arith, b.ram, up, ap (λ (d : Amount). d.ram) ed);
              caps = omega (arith, b.caps, up, ap (λ (d : Amount). d.caps) ed);
            }) h.given;
        even = λ i lt. (
          session_even (λ d. d.ram) ram_kind v w.nodes m k s (λ j. rest_quota (λ d. d.ram) v.tree a v.ledger m j rest) taken ec es
              (ap (λ (d : Amount). d.ram) ed) i (h.even i lt).0,
          session_even (λ d. d.caps) caps_kind v w.nodes m k s (λ j. rest_quota (λ d. d.caps) v.tree a v.ledger m j rest) taken ec es
              (ap (λ (d : Amount). d.caps) ed) i (h.even i lt).1,
        );
      }

  -- what one account has is other
  pub memory_kept : (m : Ledger) (a : ℕ) → SameRest a w.trading.ledger m → IsTrades (with_trading w (with_ledger w.trading m))
  memory_kept m a rest =
      let v = w.trading in
      record {
        uncounted = λ z. h.uncounted (sym rest.whole.0 ∙ z);
        settled = rest_settled v.tree v.leaves w.nodes a v.ledger m h.settled rest;
        sessions = subst (λ p. Each (λ j. IsSettled v.leaves w.nodes p) v.sessions) (sym rest.whole.0) h.sessions;
        few = h.few;
        asks = h.asks;
        given = h.given;
        even = λ i lt. (
          omega (arith, (h.even i lt).0, rest_quota (λ d. d.ram) v.tree a v.ledger m i rest),
          omega (arith, (h.even i lt).1, rest_quota (λ d. d.caps) v.tree a v.ledger m i rest),
        );
      }

  -- a request more waits
  pub with_ask_kept : (k : ℕ) (a : Ask) → IsTaken w.trading.sessions k → IsIdle w.trading (client_of w.trading k)
      → IsTrades (with_trading w (with_ask w.trading k a))
  with_ask_kept k a taken idle = record {
    uncounted = h.uncounted;
    settled = h.settled;
    sessions = h.sessions;
    few = h.few;
    asks = asked_apart w.trading.sessions w.trading.requests (record { session = k; server = server_of w.trading k; ask = a })
        (client_of w.trading k) refl h.asks idle;
    given = λ j u. waits_more (session_in w.trading.sessions j) j w.trading.requests (record { session = k; server = server_of w.trading k; ask = a })
        (h.given j u);
    even = h.even;
  }

  -- so there is room for another one
  pub few_wait : (x : ℕ) → x < length w.trading.leaves → IsIdle w.trading x → length w.trading.requests < 64
  few_wait x lt idle =
      let f = fewer (length w.trading.leaves) (length w.trading.objects) x w.trading.sessions w.trading.requests t.between t.requests h.asks idle lt in
      omega (arith, f, h.few)
