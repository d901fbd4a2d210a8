-- What the server of a session can give back once the session's object is free.
use Rattle.std.proofs.Common.{◌≡◌, ℕ, ◌≤◌, ◌+◌, sym, ap, subst, ◌∙◌, arith}
use Rattle.gq_tariff.specs.Prices.{up}
use Rattle.gq_ram.specs.declared.account.Account.{Account}
use Rattle.gq_ram.specs.Account_table.{available, available_caps}
use Rattle.gq_store.specs.Store.{one_more}
use Rattle.gq_contents.specs.Contents.{size_of}
use Rattle.gq_ram.specs.Account_stores.{caps_left}
use Rattle.gq_trade.specs.declared.session.Session.{Session}
use Rattle.gq_trade.specs.Trading.{Trading, Frees, account_of, its_account, server_of, session_at}
use Rattle.gq_trade.proofs.Accepted_closed_trades.{caps_enough}

-- v is what w is once the object of the session k, which is s, is free
module _ (w v : Trading) (k : ℕ) (s : Session) (is : s ≡ session_at w k) (frees : Frees w v s.server s.object) where
  there : session_at v k ≡ s
  there = ap (λ (x : Trading). session_at x k) frees.is ∙ sym is

  same_number : account_of v s.server ≡ account_of w s.server
  same_number = ap (λ (x : Trading). account_of x s.server) frees.is

  its_server : its_account v (server_of v k) ≡ its_account v s.server
  its_server = ap (λ (x : Session). its_account v x.server) there

  pub bytes_back : s.donation.ram ≤ available (its_account w s.server) + up (size_of s.object + 32)
      → (session_at v k).donation.ram ≤ available (its_account v (server_of v k))
  bytes_back le =
      omega (arith, le, frees.back, ap (λ (x : Session). x.donation.ram) there, ap (λ (x : Account). available x) its_server)

  pub caps_back : (w.ledger.price ≡ 0 → s.donation.caps ≡ 0) → s.donation.caps ≤ available_caps (its_account w s.server) + 1
      → (session_at v k).donation.caps ≤ available_caps (its_account v (server_of v k))
  caps_back counted le =
      let c : caps_left w.ledger.price (its_account v s.server) ≡ one_more (caps_left w.ledger.price (its_account w s.server)) =
      subst (λ p. caps_left p (its_account v s.server) ≡ one_more (caps_left w.ledger.price (its_account w s.server))) frees.others.whole.0
      frees.caps in
      let e = caps_enough w.ledger.price (its_account w s.server) (its_account v s.server) s.donation.caps c counted le in
      omega (arith, e, ap (λ (x : Session). x.donation.caps) there, ap (λ (x : Account). available_caps x) its_server)
