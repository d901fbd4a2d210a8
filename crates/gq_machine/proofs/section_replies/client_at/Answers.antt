-- The client of the current session.
use Rattle.std.proofs.Common.{refl, sym, ap, subst, ◌∙◌}
use Rattle.gq_trade.specs.Numbers.{IsTaken}
use Rattle.gq_trade.specs.Trading.{client_of}
use Rattle.gq_trade.specs.declared.session.Session.{Session}
use Rattle.gq_trade.specs.Trades.{Trades}
use Rattle.gq_machine.specs.internal.Section_replies.{IsEnd}
use Rattle.gq_machine.proofs.Section_end_reply.{apart, awaited, client_there, counts, is_handled, rooms, small, there}
use Rattle.gq_machine.proofs.section_replies.client_at.Goals as goal

pub session-requires : goal.session-requires
session-requires c =
    let f = c.args.fixed.now in
    let m = c.args.state.now in
    let x = c.args.number in
    let current = c.args.current in
    let y = client_of m.slots.trades.trading current.session in
    let e : IsEnd f m x y current = record {
      can = c.requires.ends.can;
      next = c.requires.ends.next;
      at_current = c.requires.ends.at_current;
      lawful = c.lawful.ensures;
      client = refl;
    } in
    subst (λ (t : Trades). IsTaken t.trading.sessions current.session) (sym c.trades.ensures) (there f m x y current e)

pub returns : goal.returns
returns c =
    let f = c.args.fixed.now in
    let m = c.args.state.now in
    let x = c.args.number in
    record {
      client =
          let e : IsEnd f m x c.session.result.client c.args.current = record {
            can = c.requires.ends.can;
            next = c.requires.ends.next;
            at_current = c.requires.ends.at_current;
            lawful = c.lawful.ensures;
            client = ap (λ (q : Session). q.client) c.session.ensures ∙ ap (λ (t : Trades). client_of t.trading c.args.current.session) c.trades.ensures;
          } in
          let handled = is_handled f m x _ c.args.current e in
          record {
            end = e;
            there = client_there f m x _ c.args.current e;
            apart = apart f m x _ c.args.current e;
            countable = counts f m x _ c.args.current e;
            room = rooms f m x _ c.args.current e;
            awaited = awaited f m x _ c.args.current e c.laws.ensures.long;
            small = small f m x _ c.args.current e c.laws.ensures.numbers;
            object = handled.object;
            none_waits = handled.none_waits;
          };
    }
