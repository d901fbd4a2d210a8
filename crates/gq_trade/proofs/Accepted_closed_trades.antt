-- What holds in a `Trades` once a request is accepted, and once a session is closed.
use Rattle.gq_trade.specs.declared.session.Session.{Session}
use Rattle.std.proofs.Common.{◌≡◌, ℕ, ◌+◌, ◌<◌, ◌≤◌, inl, inr, List, set, Some, None}
use Rattle.std.proofs.Common.{ap, get_or}
use Rattle.std.proofs.Common.{refl, sym, subst, ◌∙◌, arith}
use Rattle.std.proofs.lemmas.Bool.Decides.{eqb_tells}
use Rattle.gq_tariff.specs.declared.amount.Amount.{Amount}
use Rattle.gq_ram.specs.declared.account.Account.{Account}
use Rattle.gq_ram.specs.Account_table.{available, available_caps}
use Rattle.gq_store.specs.Store.{one_more}
use Rattle.gq_ram.specs.Account_stores.{caps_left}
use Rattle.gq_ram.specs.internal.Kept_rest.{rest_refl}
use Rattle.gq_trade.specs.Numbers.{IsTaken}
use Rattle.gq_trade.specs.declared.requests.Ask.{Ask}
use Rattle.gq_trade.specs.declared.requests.Ask.TheVariants.{Open, Upgrade, Close, Call}
use Rattle.gq_trade.specs.declared.requests.Request.{Request}
use Rattle.gq_trade.specs.Trading.{Trading, IsTrading, Accepts, Begins, account_of, its_account, parted}
use Rattle.gq_trade.specs.Trading.{opened, raised, server_of, session_at, with_requests}
use Rattle.gq_trade.proofs.Sessions_kept.{taken_from}
use Rattle.gq_trade.specs.Trades.{Trades, IsTrades, IsSettled, with_trading}
use Rattle.gq_trade.proofs.Balances_after_trades.{ram_kind, caps_kind, closed_even}
use Rattle.gq_trade.specs.Trading.{AreOfOthers}
use Rattle.gq_trade.specs.Waiting.{AreApart, IsBounded, is_upgrade, upgrades}
use Rattle.gq_trade.proofs.Waiting_client_count.{clients_unset, taken_apart, taken_upgrades}
use Rattle.std.specs.Prelude.{is_some}
use Rattle.std.proofs.lemmas.Bool.{cases_eq}
use Rattle.std.proofs.lemmas.List.{get_or-set_same, get_or-set_other}
use Rattle.gq_trade.proofs.Lowest_free_number.{taken_there}
use Rattle.gq_trade.specs.Trading.{found, session_in}
use Rattle.gq_trade.specs.Balances.{for_node}
use Rattle.gq_trade.proofs.Balances_after_trades.{for_same, for_other}
use Rattle.gq_trade.proofs.Settled_nodes_sessions.{each_set}
use Rattle.gq_trade.proofs.Settled_nodes_sessions.{Each, each_unset, moved_settled}
use Rattle.gq_trade.proofs.Trades_invariant_kept.{client_live, live_open, nodes_apart, parties, server_live, session_kept}

some_number : (a b : ℕ) → Some a ≡ Some b → a ≡ b
some_number a b e = cc

-- what a server can pay back of capabilities, once it has one more
pub caps_enough : (price : ℕ) (a b : Account) (n : ℕ) → caps_left price b ≡ one_more (caps_left price a) → (price ≡ 0 → n ≡ 0)
    → n ≤ available_caps a + 1 → n ≤ available_caps b
caps_enough price a b n e none h = elim (eqb_tells price 0) [
  | inl y ↦ omega (arith, none y.1)
  | inr u ↦
      let f : Some (available_caps b) ≡ Some (available_caps a + 1) = rw u.0 at e in
      let q = some_number (available_caps b) (available_caps a + 1) f in
      omega (arith, q, h)
]

abbrev pair : Request → List Request → Request × List Request
pair r rs = (r, rs)

module _ (w : Trades) (h : IsTrades w) (t : IsTrading w.trading) where
  begun_kept : (a : Ask) (u : Trading) (k : ℕ) → IsTaken w.trading.sessions k → (a ≡ Upgrade → (session_at w.trading k).level < 3)
      → Begins a w.trading u k → IsTrades (with_trading w u)
  begun_kept Open u k taken low b =
      subst (λ y. IsTrades (with_trading w y)) (sym b.is)
      (session_kept w h t u.ledger (account_of w.trading (server_of w.trading k)) k (opened (session_at w.trading k) b.object) b.makes.others taken
      refl refl refl (omega arith) (h.given k taken).level)
  begun_kept Upgrade u k taken low b =
      let l = low refl in
      subst (λ y. IsTrades (with_trading w y)) (sym b)
      (session_kept w h t w.trading.ledger 0 k (raised (session_at w.trading k)) (rest_refl 0 w.trading.ledger) taken refl refl refl
      (omega arith) (omega (arith, l)))
  begun_kept Close u k taken low b = subst (λ y. IsTrades (with_trading w y)) (sym b) h
  begun_kept (Call n) u k taken low b = subst (λ y. IsTrades (with_trading w y)) (sym b) h

  -- each session with its level and what was given for it, once a request of the session k has begun
  abbrev Begun : ℕ → ℕ → ℕ → Session → Type 0
  Begun k n j s = (s.level ≡ (session_at w.trading j).level + for_node k j n) × (s.donation ≡ (session_at w.trading j).donation)
      × IsTaken w.trading.sessions j

  same_begun : (k j n : ℕ) → n ≡ 0 → IsTaken w.trading.sessions j → Begun k n j (session_in w.trading.sessions j)
  same_begun k j n e taken = (
    elim (cases_eq k j) [
      | inl f ↦ let g = for_same k j n f in omega (arith, g, e)
      | inr ne ↦ let g = for_other k j n ne in omega (arith, g)
    ],
    refl,
    taken,
  )

  begun : (a : Ask) (u : Trading) (k : ℕ) → IsTaken w.trading.sessions k → Begins a w.trading u k → Each (Begun k (is_upgrade a)) u.sessions
  begun Open u k taken b =
      subst (λ (y : Trading). Each (Begun k 0) y.sessions) (sym b.is)
      (each_set (Begun k 0) w.trading.sessions k (opened (session_at w.trading k) b.object) (same_begun k k 0 refl taken) (λ j. same_begun k j 0 refl))
  begun Upgrade u k taken b =
      let one : for_node k k 1 ≡ 1 = for_same k k 1 refl in
      subst (λ (y : Trading). Each (Begun k 1) y.sessions) (sym b)
      (upgraded_each k taken one)
    where
      upgraded_each : (k : ℕ) → IsTaken w.trading.sessions k → for_node k k 1 ≡ 1
          → Each (Begun k 1) (set w.trading.sessions k (Some (raised (session_at w.trading k))))
      upgraded_each k taken one j u = elim (cases_eq j k) [
        | inl e ↦
            let f : session_in (set w.trading.sessions k (Some (raised (session_at w.trading k)))) j ≡ raised (session_at w.trading k) =
            ap (session_in (set w.trading.sessions k (Some (raised (session_at w.trading k))))) e
            ∙ ap found (get_or-set_same w.trading.sessions k (Some (raised (session_at w.trading k))) None (taken_there w.trading.sessions k taken)) in
            subst (Begun k 1 j) (sym f) (subst (λ i. Begun k 1 i (raised (session_at w.trading k))) (sym e) (omega (arith, one), refl, taken))
        | inr ne ↦
            let f : get_or (set w.trading.sessions k (Some (raised (session_at w.trading k)))) j None ≡ get_or w.trading.sessions j None =
            get_or-set_other w.trading.sessions k j (Some (raised (session_at w.trading k))) None ne in
            let g = for_other k j 1 (λ d. ne (sym d)) in
            subst (Begun k 1 j) (ap found (sym f)) (omega (arith, g), refl, sym (ap is_some f) ∙ u)
      ]
  begun Close u k taken b = subst (λ (y : Trading). Each (Begun k 0) y.sessions) (sym b) (λ j. same_begun k j 0 refl)
  begun (Call n) u k taken b = subst (λ (y : Trading). Each (Begun k 0) y.sessions) (sym b) (λ j. same_begun k j 0 refl)

  pub accepted_kept : (v : Trading) (x : ℕ) (r : Request) → (r.ask ≡ Upgrade → (session_at w.trading r.session).level < 3) → Accepts w.trading v x r
      → IsTrades (with_trading w v)
  accepted_kept v x r low a =
      let there = taken_from w.trading.sessions x w.trading.requests (pair r v.requests) t.requests a.oldest in
      let i = begun_kept r.ask (with_requests v w.trading.requests) r.session there.there low a.begins in
      let each = begun r.ask (with_requests v w.trading.requests) r.session there.there a.begins in
      record {
        uncounted = i.uncounted;
        settled = i.settled;
        sessions = i.sessions;
        few = i.few;
        asks = taken_apart v.sessions x w.trading.requests r v.requests i.asks a.oldest;
        given = λ j u.
            let e = each j u in
            let b = h.given j e.2 in
            let n = taken_upgrades j x w.trading.requests (pair r v.requests) a.oldest in
            record {
              level = (i.given j u).level;
              ram = omega (arith, b.ram, e.0, n, ap (λ (d : Amount). d.ram) e.1);
              caps = omega (arith, b.caps, e.0, n, ap (λ (d : Amount). d.caps) e.1);
            };
        even = i.even;
      }

  pub parted_kept : (k : ℕ) → IsTaken w.trading.sessions k → (session_at w.trading k).donation.ram ≤ available (its_account w.trading (server_of w.trading k))
      → (session_at w.trading k).donation.caps ≤ available_caps (its_account w.trading (server_of w.trading k)) → AreOfOthers k w.trading.requests
      → IsTrades (with_trading w (parted w.trading k))
  parted_kept k taken enough enough_caps none =
      let u = w.trading in
      let s = session_at u k in
      let cl = client_live w h t k taken in let sl = server_live w h t k taken in
      let xo = live_open w h t s.client cl in let yo = live_open w h t s.server sl in
      let xl = t.leaves s.client cl.there in let yl = t.leaves s.server sl.there in
      let ne = nodes_apart w h t s.server s.client sl.there cl.there (λ e. (parties w h t k taken).apart (sym e)) in
      record {
        uncounted = h.uncounted;
        settled = moved_settled u.tree u.leaves w.nodes u.ledger.accounts (account_of u s.server) (account_of u s.client) s.donation h.settled yo xo;
        sessions = each_unset (λ j. IsSettled u.leaves w.nodes u.ledger.price) u.sessions k h.sessions;
        few = h.few;
        given = each_unset (λ j x. IsBounded x (upgrades j u.requests)) u.sessions k h.given;
        asks = subst AreApart (sym (clients_unset u.sessions k u.requests none)) h.asks;
        even = λ i lt. (
          closed_even (λ d. d.ram) ram_kind u w.nodes u.ledger k (λ j. refl) t.nodes taken xl yl xo yo ne (omega (arith, enough)) i lt (h.even i lt).0,
          closed_even (λ d. d.caps) caps_kind u w.nodes u.ledger k (λ j. refl) t.nodes taken xl yl xo yo ne (omega (arith, enough_caps)) i lt (h.even i lt).1,
        );
      }
