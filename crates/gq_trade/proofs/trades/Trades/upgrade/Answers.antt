use Rattle.std.proofs.Common.{◌≡◌, ◌++◌, [], ◌∷◌, Some, set, sym, ap, subst, ◌∙◌, arith}
use Rattle.gq_ram.specs.Account_table.{available, available_caps}
use Rattle.gq_trade.specs.Lends.{with_value}
use Rattle.gq_trade.specs.Numbers.{IsTaken}
use Rattle.gq_trade.specs.declared.requests.Ask.TheVariants.{Upgrade}
use Rattle.gq_trade.specs.declared.session.Session.{Session}
use Rattle.gq_trade.specs.internal.Trades_fields.{Holds, trades_of}
use Rattle.gq_trade.specs.Trading.{client_of, found, given, node_of, server_of, session_at, upgraded, with_more}
use Rattle.gq_trade.specs.Trades.{Trades, with_trading}
use Rattle.gq_trade.specs.Waiting.{IsIdle}
use Rattle.gq_trade.proofs.Trades_view_fields.{here}
use Rattle.gq_trade.proofs.Quotas_after_trades.{enough_of, given_is, room_for_its, small_caps, small_ram, upgraded_holds}
use Rattle.gq_trade.proofs.Sessions_kept.{server_still}
use Rattle.gq_trade.proofs.trades.Trades.upgrade.Goals as goal

pub overflow_add-raised : goal.overflow_add-raised
overflow_add-raised c =
    let w : Trades = here c.self.inside in
    let v : w ≡ c.args.self.now = c.self.view_is in
    let k = c.args.session in
    let s = small_ram w c.self.invariant k c.givers-from.result.0 c.args.donation.ram
    (subst (λ (a : Trades). IsTaken a.trading.sessions k) (sym v) c.requires.there)
    (subst (λ (a : Trades). IsIdle a.trading (client_of a.trading k)) (sym v) c.requires.idle) c.laws.ensures
    c.in_ok-donate.ensures.afforded.enough in
    omega (arith, s, ap (λ o. (found o).donation.ram) c.at_mut-raised.ensures.value)

pub overflow_add-raised-2 : goal.overflow_add-raised-2
overflow_add-raised-2 c =
    let w : Trades = here c.self.inside in
    let v : w ≡ c.args.self.now = c.self.view_is in
    let k = c.args.session in
    let s = small_caps w c.self.invariant k c.givers-from.result.0 c.args.donation.caps
    (subst (λ (a : Trades). IsTaken a.trading.sessions k) (sym v) c.requires.there)
    (subst (λ (a : Trades). IsIdle a.trading (client_of a.trading k)) (sym v) c.requires.idle) c.laws.ensures
    c.in_ok-donate.ensures.afforded.enough_caps in
    omega (arith, s, ap (λ o. (found o).donation.caps) c.at_mut-raised.ensures.value)

pub push-requires : goal.push-requires
push-requires c =
    let w : Trades = here c.self.inside in
    let v : w ≡ c.args.self.now = c.self.view_is in
    let k = c.args.session in
    room_for_its w c.self.invariant k (subst (λ (a : Trades). IsTaken a.trading.sessions k) (sym v) c.requires.there)
    (subst (λ (a : Trades). IsIdle a.trading (client_of a.trading k)) (sym v) c.requires.idle)

pub invariant_of-self-2 : goal.invariant_of-self-2
invariant_of-self-2 c =
    let w : Trades = here c.self.inside in
    let v : w ≡ c.args.self.now = c.self.view_is in
    let k = c.args.session in let n = c.args.donation in
    let x = client_of w.trading k in let y = server_of w.trading k in
    let taken = subst (λ (a : Trades). IsTaken a.trading.sessions k) (sym v) c.requires.there in
    let old = c.at_mut-raised.result.now in
    let same : old ≡ session_at w.trading k = sym (ap found c.at_mut-raised.ensures.value) in
    let its : c.between-old.result ≡ session_at w.trading k = c.between-old.ensures.is ∙ ap (λ (a : Trades). session_at a.trading k) (sym v) in
    let i = c.givers-from.result.0 in
    let from : i ≡ node_of w.trading x =
    c.givers-from.ensures.from ∙ ap (λ (a : Trades). node_of a.trading c.between-old.result.client) (sym v)
    ∙ ap (λ (s : Session). node_of w.trading s.client) its in
    let to : c.givers-from.result.1 ≡ node_of w.trading y =
    c.givers-from.ensures.to ∙ ap (λ (a : Trades). node_of a.trading c.between-old.result.server) (sym v)
    ∙ ap (λ (s : Session). node_of w.trading s.server) its in
    let e = c.in_ok-donate.ensures in
    let m : c.donate.new.accounts ≡ (given w.trading x y n).ledger =
    given_is w.trading c.donate.new.accounts x y i c.givers-from.result.1 n from to e.moved in
    let q : c.push.new.self ≡ (upgraded w.trading k n).requests =
    c.push.ensures ∙ ap (λ j. w.trading.requests ++ record { session = k; server = j; ask = Upgrade } ∷ [])
    (ap (λ (s : Session). s.server) its ∙ sym (server_still w.trading k (with_more (session_at w.trading k) n) taken)) in
    let is : trades_of c.donate.new.accounts w.trading.tree w.trading.leaves w.trading.objects (with_value c.self.inside.sessions k (with_more old n))
    c.push.new.self w.nodes ≡ with_trading w (upgraded w.trading k n) =
    λ t. record {
      trading = record {
        ledger = m t;
        tree = w.trading.tree;
        leaves = w.trading.leaves;
        objects = w.trading.objects;
        sessions = set w.trading.sessions k (Some (with_more (same t) n));
        room = w.trading.room;
        requests = q t;
      };
      nodes = w.nodes;
    } in
    subst Holds (sym is) (upgraded_holds w c.self.invariant k n taken
    (λ z. c.requires.counted (ap (λ (a : Trades). a.trading.ledger.price) (sym v) ∙ z)) (enough_of w.trading x i n.ram available from e.afforded.enough)
    (enough_of w.trading x i n.caps available_caps from e.afforded.enough_caps)
    (subst (λ (a : Trades). IsIdle a.trading (client_of a.trading k)) (sym v) c.requires.idle)
    c.laws.ensures)
