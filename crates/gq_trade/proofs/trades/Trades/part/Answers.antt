use Rattle.std.proofs.Common.{◌≡◌, ◌≤◌, sym, ap, subst, ◌∙◌}
use Rattle.gq_ram.specs.Account_table.{available, available_caps}
use Rattle.gq_ram.specs.Account_tree.{donated}
use Rattle.gq_trade.specs.Numbers.{IsTaken}
use Rattle.gq_trade.specs.declared.session.Session.{Session}
use Rattle.gq_trade.specs.internal.Trades_fields.{Holds, trades_of}
use Rattle.gq_trade.specs.Trading.{AreOfOthers, client_of, given, its_account, node_of, parted, server_of, session_at}
use Rattle.gq_trade.specs.Trades.{Trades, with_trading}
use Rattle.gq_trade.proofs.Trades_view_fields.{here}
use Rattle.gq_trade.proofs.Quotas_after_trades.{given_is, parted_holds}
use Rattle.gq_trade.proofs.trades.Trades.part.Goals as goal

pub invariant_of-self : goal.invariant_of-self
invariant_of-self c =
    let w : Trades = here c.self.inside in
    let v : w ≡ c.args.self.now = c.self.view_is in
    let k = c.args.session in
    let x = server_of w.trading k in let y = client_of w.trading k in
    let its : c.between-old.result ≡ session_at w.trading k = c.between-old.ensures.is ∙ ap (λ (a : Trades). session_at a.trading k) (sym v) in
    let n = (session_at w.trading k).donation in
    let i = c.givers-from.result.0 in let j = c.givers-from.result.1 in
    let from : i ≡ node_of w.trading x =
    c.givers-from.ensures.from ∙ ap (λ (a : Trades). node_of a.trading c.between-old.result.server) (sym v)
    ∙ ap (λ (s : Session). node_of w.trading s.server) its in
    let to : j ≡ node_of w.trading y =
    c.givers-from.ensures.to ∙ ap (λ (a : Trades). node_of a.trading c.between-old.result.client) (sym v)
    ∙ ap (λ (s : Session). node_of w.trading s.client) its in
    let m : c.give.new.accounts ≡ (given w.trading x y n).ledger =
    given_is w.trading c.give.new.accounts x y i j n from to (c.give.ensures
    ∙ ap (λ (s : Session). donated w.trading.tree w.trading.ledger i j s.donation) its) in
    let ss = c.remove.ensures in
    let is : trades_of c.give.new.accounts w.trading.tree w.trading.leaves w.trading.objects c.remove.new.self w.trading.requests w.nodes
    ≡ with_trading w (parted w.trading k) =
    λ t. record {
      trading = record {
        ledger = m t;
        tree = w.trading.tree;
        leaves = w.trading.leaves;
        objects = w.trading.objects;
        sessions = (ss t).values;
        room = (ss t).room;
        requests = w.trading.requests;
      };
      nodes = w.nodes;
    } in
    subst Holds (sym is) (parted_holds w c.self.invariant k (subst (λ (a : Trades). IsTaken a.trading.sessions k) (sym v) c.requires.there)
    (subst (λ (a : Trades). (session_at a.trading k).donation.ram ≤ available (its_account a.trading (server_of a.trading k))) (sym v) c.requires.enough)
    (subst (λ (a : Trades). (session_at a.trading k).donation.caps ≤ available_caps (its_account a.trading (server_of a.trading k))) (sym v)
    c.requires.enough_caps) (subst (λ (a : Trades). AreOfOthers k a.trading.requests) (sym v) c.requires.none_waits))
