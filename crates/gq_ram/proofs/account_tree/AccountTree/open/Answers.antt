use Rattle.std.proofs.Common.{◌≡◌, ◌<◌, ◌∷◌, ◌++◌, [], List, length, get_or, ap, ◌∙◌, arith}
use Rattle.gq_store.specs.declared.AccountNo.{AccountNo}
use Rattle.gq_ram.proofs.Quota_move_sequences.{item, place}
use Rattle.gq_ram.proofs.Node_accounts_opened.{its_number, open_first, open_more}
use Rattle.gq_ram.proofs.account_tree.AccountTree.open.Goals as goal

pub loop-node-init : goal.loop-node-init
loop-node-init c =
    let r = c.root.result in
    let e : c.push.new.self.items ≡ r ∷ [] = c.in_ok-push.ensures.items ∙ ap (λ (xs : List AccountNo). xs ++ r ∷ []) c.in_ok-opened.ensures.items in
    open_first c.args.parents.items c.args.accounts.now c.push.new.self.items r e c.root.ensures.first c.root.ensures.open c.requires.root_alone

pub loop-node-preserved : goal.loop-node-preserved
loop-node-preserved c =
    let ps = c.args.parents.items in let n = c.loop-node.node in let p = c.index.result.now in let xs = c.loop-node.opened.items in
    let h = c.loop-node.invariant in
    let r = c.index-above.result.now in
    let lt : n < length ps = omega arith in
    let pe : p ≡ get_or ps n 0 = place ps n p 0 lt c.index.ensures in
    let pl : p < n = omega (arith, pe, c.requires.preorder n (omega arith) lt) in
    let within : p < length xs = omega (arith, pl, h.count) in
    let re : r.0 ≡ its_number xs p = ap (λ (a : AccountNo). a.0) (item xs p r (record { 0 = 0 }) within c.index-above.ensures) in
    let m = c.in_ok-account.ensures in
    open_more ps c.args.accounts.now c.loop-node.accounts c.add.new.self xs n p r c.in_ok-account.account h (omega arith) pe pl re
    m.was_closed m.opened m.others c.push-in-loop-node.new.self.items c.in_ok-push-2.ensures.items m.same
    (λ i pos il. c.requires.preorder i pos (omega arith))
