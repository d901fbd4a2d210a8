use Rattle.std.proofs.Common.{◌≡◌, ◌<◌, length, ◌++◌, [], ◌∷◌, refl, rules, sym, ap, subst, ◌∙◌}
use Rattle.gq_ram.specs.Account_table.{available, available_caps}
use Rattle.gq_trade.specs.declared.requests.Ask.TheVariants.{Open}
use Rattle.gq_trade.specs.internal.Trades_fields.{Holds, trades_of}
use Rattle.gq_trade.specs.Trading.{asked, entered, fresh, given, node_of}
use Rattle.gq_trade.specs.Trades.{Trades, AreParties, IsLive, with_trading}
use Rattle.gq_trade.specs.Waiting.{IsIdle}
use Rattle.gq_trade.proofs.Trades_view_fields.{here}
use Rattle.gq_trade.proofs.Quotas_after_trades.{asked_holds, enough_of, given_is, room_for_one}
use Rattle.gq_trade.proofs.trades.Trades.ask.Goals as goal

pub push-requires : goal.push-requires
push-requires c =
    let w : Trades = here c.self.inside in
    let v : w ≡ c.args.self.now = c.self.view_is in
    let x = c.args.client in
    let live : IsLive w x = subst (λ (a : Trades). IsLive a x) (sym v) c.requires.can.client in
    room_for_one w c.self.invariant x live.there (subst (λ (a : Trades). IsIdle a.trading x) (sym v) c.requires.can.idle)

pub invariant_of-self-2 : goal.invariant_of-self-2
invariant_of-self-2 c =
    let w : Trades = here c.self.inside in
    let v : w ≡ c.args.self.now = c.self.view_is in
    let x = c.args.client in let y = c.args.server in
    let s = fresh x c.args.slot_id y c.args.service c.args.donation in
    let p : AreParties w s = record {
      client = subst (λ (a : Trades). IsLive a x) (sym v) c.requires.can.client;
      server = subst (λ (a : Trades). IsLive a y) (sym v) c.requires.can.server;
      apart = c.requires.can.apart;
      service = subst (λ (a : Trades). c.args.service < length a.trading.objects) (sym v) c.requires.service;
      counted = λ z. c.requires.counted (ap (λ (a : Trades). a.trading.ledger.price) (sym v) ∙ z);
    } in
    let e = c.in_ok-donate.ensures in
    let i = c.givers-from.result.0 in
    let from : i ≡ node_of w.trading x = c.givers-from.ensures.from ∙ ap (λ (a : Trades). node_of a.trading x) (sym v) in
    let m : c.donate.new.accounts ≡ (given w.trading x y c.args.donation).ledger =
    given_is w.trading c.donate.new.accounts x y i c.givers-from.result.1 c.args.donation from
    (c.givers-from.ensures.to ∙ ap (λ (a : Trades). node_of a.trading y) (sym v)) e.moved in
    let n = c.add-number.ensures in
    let q : c.push.new.self ≡ (entered w.trading s).requests =
    c.push.ensures ∙ ap (λ k. w.trading.requests ++ record { session = k; server = y; ask = Open } ∷ []) n.number in
    let is : trades_of c.donate.new.accounts w.trading.tree w.trading.leaves w.trading.objects c.add-number.new.self c.push.new.self w.nodes
    ≡ with_trading w (asked w.trading s) =
    λ t. record {
      trading = record {
        ledger = m t;
        tree = w.trading.tree;
        leaves = w.trading.leaves;
        objects = w.trading.objects;
        sessions = n.added t;
        room = n.same_room t;
        requests = q t;
      };
      nodes = w.nodes;
    } in
    subst Holds (sym is) (asked_holds w c.self.invariant s p (enough_of w.trading x i c.args.donation.ram available from e.afforded.enough)
    (enough_of w.trading x i c.args.donation.caps available_caps from e.afforded.enough_caps)
    (subst (λ (a : Trades). IsIdle a.trading x) (sym v) c.requires.can.idle) refl c.laws.ensures)

pub returns-in_err-donate-clause-afforded : goal.returns-in_err-donate-clause-afforded
returns-in_err-donate-clause-afforded c = record {
  enough = search rules;
  enough_caps = search rules;
  exceeded = search rules;
  caps_exceeded = search rules;
  only = search rules;
}
