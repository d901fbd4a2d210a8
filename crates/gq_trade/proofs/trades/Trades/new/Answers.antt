use Rattle.std.proofs.Common.{◌≡◌, [], length, map, refl, sym, ap, subst, ◌∙◌, arith}
use Rattle.std.proofs.lemmas.List.{length-map}
use Rattle.gq_ram.specs.Account_tree.{IsTree, number}
use Rattle.gq_ram.specs.Ledgers.{Ledger, with_accounts}
use Rattle.gq_trade.specs.Trading.{IsTrading}
use Rattle.gq_trade.specs.Balances.{handed}
use Rattle.gq_trade.specs.internal.Trades_fields.{Holds, trades_of}
use Rattle.gq_trade.specs.Numbers.{Numbers}
use Rattle.gq_trade.specs.Trades.{IsTrades}
use Rattle.gq_trade.specs.declared.session.Session.{Session}
use Rattle.gq_trade.proofs.First_trades.{counted_here, empty_at, first_at, first_kept, fits_here, unused_at}
use Rattle.gq_trade.proofs.trades.Trades.new.Goals as goal

pub hand_out-requires-clause-nodes : goal.hand_out-requires-clause-nodes
hand_out-requires-clause-nodes c = c.in_ok-tree.ensures.opened.nodes

pub hand_out-requires-clause-opened : goal.hand_out-requires-clause-opened
hand_out-requires-clause-opened c = c.in_ok-tree.ensures.opened.opened

pub hand_out-requires-clause-count : goal.hand_out-requires-clause-count
hand_out-requires-clause-count c =
    let a = c.args.plan in
    let hp = c.as_slice-2.ensures.value ∙ c.in_ok-handed.ensures ∙ ap (map handed) c.as_slice.ensures.value in
    ap length hp ∙ (length-map a.nodes.items handed ∙ (c.requires.plan.count ∙ sym (ap length c.in_ok-tree.ensures.parents)))

pub hand_out-requires-clause-some : goal.hand_out-requires-clause-some
hand_out-requires-clause-some c =
    let a = c.args.plan in
    let hp = c.as_slice-2.ensures.value ∙ c.in_ok-handed.ensures ∙ ap (map handed) c.as_slice.ensures.value in
    omega (arith, ap length hp ∙ length-map a.nodes.items handed, c.requires.plan.count, c.requires.plan.some)

pub hand_out-requires-clause-first : goal.hand_out-requires-clause-first
hand_out-requires-clause-first c =
    let hp = c.as_slice-2.ensures.value ∙ c.in_ok-handed.ensures ∙ ap (map handed) c.as_slice.ensures.value in
    first_at c.requires.plan c.in_ok-tree.tree
    c.in_ok-tree.ensures.parents c.as_slice-2.result.now hp c.in_ok-accounts.accounts c.in_ok-accounts.ensures c.open.new.accounts.accounts
    c.in_ok-tree.ensures.opened

pub hand_out-requires-clause-empty : goal.hand_out-requires-clause-empty
hand_out-requires-clause-empty c =
    let hp = c.as_slice-2.ensures.value ∙ c.in_ok-handed.ensures ∙ ap (map handed) c.as_slice.ensures.value in
    empty_at c.requires.plan c.in_ok-tree.tree
    c.in_ok-tree.ensures.parents c.as_slice-2.result.now hp c.in_ok-accounts.accounts c.in_ok-accounts.ensures c.open.new.accounts.accounts
    c.in_ok-tree.ensures.opened

pub hand_out-requires-clause-unused : goal.hand_out-requires-clause-unused
hand_out-requires-clause-unused c =
    let hp = c.as_slice-2.ensures.value ∙ c.in_ok-handed.ensures ∙ ap (map handed) c.as_slice.ensures.value in
    unused_at c.requires.plan c.in_ok-tree.tree
    c.in_ok-tree.ensures.parents c.as_slice-2.result.now hp c.in_ok-accounts.accounts c.in_ok-accounts.ensures c.open.new.accounts.accounts
    c.in_ok-tree.ensures.opened

pub hand_out-requires-clause-fits : goal.hand_out-requires-clause-fits
hand_out-requires-clause-fits c =
    let hp = c.as_slice-2.ensures.value ∙ c.in_ok-handed.ensures ∙ ap (map handed) c.as_slice.ensures.value in
    fits_here c.requires.plan c.in_ok-tree.tree
    c.in_ok-tree.ensures.parents c.as_slice-2.result.now hp (λ n. n.ram) c.requires.plan.fits

pub hand_out-requires-clause-fits_caps : goal.hand_out-requires-clause-fits_caps
hand_out-requires-clause-fits_caps c =
    let hp = c.as_slice-2.ensures.value ∙ c.in_ok-handed.ensures ∙ ap (map handed) c.as_slice.ensures.value in
    fits_here c.requires.plan c.in_ok-tree.tree
    c.in_ok-tree.ensures.parents c.as_slice-2.result.now hp (λ n. n.caps) c.requires.plan.fits_caps

pub hand_out-requires-clause-counted : goal.hand_out-requires-clause-counted
hand_out-requires-clause-counted c =
    let hp = c.as_slice-2.ensures.value ∙ c.in_ok-handed.ensures ∙ ap (map handed) c.as_slice.ensures.value in
    counted_here c.requires.plan c.in_ok-tree.tree
    c.in_ok-tree.ensures.parents c.as_slice-2.result.now hp c.open.new.accounts.price
    (ap (λ (l : Ledger). l.price) c.in_ok-tree.ensures.same ∙ ap (λ (l : Ledger). l.price) c.in_ok-accounts.ensures)

pub invariant_of-result : goal.invariant_of-result
invariant_of-result c =
    let a = c.args.plan in
    let hp = c.as_slice-2.ensures.value ∙ c.in_ok-handed.ensures ∙ ap (map handed) c.as_slice.ensures.value in
    let e = c.hand_out.ensures in
    let tree = c.in_ok-tree.tree in
    let m = c.hand_out.new.accounts in
    let price = ap (λ (l : Ledger). l.price) e.same ∙ ap (λ (l : Ledger). l.price) c.in_ok-tree.ensures.same
    ∙ ap (λ (l : Ledger). l.price) c.in_ok-accounts.ensures in
    let first = trades_of m tree a.leaves.items a.objects.items (record { values = []; room = c.args.room }) [] a.nodes.items in
    let is : trades_of m tree a.leaves.items a.objects.items c.in_ok-sessions.sessions c.new-3.result a.nodes.items ≡ first =
    λ t. trades_of m tree a.leaves.items a.objects.items (c.in_ok-sessions.ensures t) (c.new-3.ensures t) a.nodes.items in
    let trading : IsTrading first.trading = record {
      tree = subst IsTree c.tree.view_is c.tree.invariant;
      nodes = e.nodes;
      leaves = λ x lt. omega (arith, c.requires.plan.within x lt, ap length c.in_ok-tree.ensures.parents);
      apart = c.requires.plan.apart;
      objects = c.requires.plan.small;
      between = tt;
      requests = tt;
    } in
    let trades : IsTrades first =
    first_kept c.requires.plan tree
    c.in_ok-tree.ensures.parents c.as_slice-2.result.now hp c.in_ok-accounts.accounts c.in_ok-accounts.ensures c.open.new.accounts.accounts
    c.in_ok-tree.ensures.opened c.hand_out.new.accounts.accounts e.still e.references m c.args.room refl price
    e.balanced
    e.balanced_caps in
    subst Holds (sym is) (record { trading = trading; trades = trades })

pub returns : goal.returns
returns c =
    let tree = c.in_ok-tree.tree in
    let e = c.hand_out.ensures in
    let hp = c.as_slice-2.ensures.value ∙ c.in_ok-handed.ensures ∙ ap (map handed) c.as_slice.ensures.value in
    let es = c.hand_out.new.accounts.accounts in
    record {
      nodes = refl;
      parents = c.in_ok-tree.ensures.parents;
      leaves = refl;
      objects = refl;
      sessions = ap (λ (n : Numbers Session). n.values) c.in_ok-sessions.ensures;
      room = ap (λ (n : Numbers Session). n.room) c.in_ok-sessions.ensures;
      requests = c.new-3.ensures;
      unused = λ i lt. e.used (number tree i)
          ∙ unused_at c.requires.plan tree
          c.in_ok-tree.ensures.parents c.as_slice-2.result.now hp c.in_ok-accounts.accounts c.in_ok-accounts.ensures
          c.open.new.accounts.accounts c.in_ok-tree.ensures.opened i
          (omega (arith, lt, ap length c.in_ok-tree.ensures.parents));
      ledger = e.same ∙ ap (λ (l : Ledger). with_accounts l es) (c.in_ok-tree.ensures.same)
          ∙ ap (λ (l : Ledger). with_accounts l es) c.in_ok-accounts.ensures;
    }
