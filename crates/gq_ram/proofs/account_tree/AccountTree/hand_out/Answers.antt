use Rattle.std.proofs.Common.{◌≡◌, ◌<◌, length, arith}
use Rattle.gq_ram.proofs.Quota_handed_down.{enough, enough_caps, handed_on, handed_all}
use Rattle.gq_ram.proofs.account_tree.AccountTree.hand_out.Goals as goal

pub give-requires-clause-enough : goal.give-requires-clause-enough
give-requires-clause-enough c =
    let t = c.args.self.now in let l = c.args.accounts.now in let hs = c.args.handed.now in let n = c.loop-node.node in let p = c.parent-above.result in
    let lt : n < length t.parents = omega arith in
    let pl : p < n = omega arith in
    enough t l c.loop-node.accounts hs n p c.loop-node.invariant (omega arith) lt (omega arith) c.parent-above.ensures.place pl c.requires.opened
    (c.requires.unused p (omega arith)) (c.requires.fits p (omega arith))

pub give-requires-clause-enough_caps : goal.give-requires-clause-enough_caps
give-requires-clause-enough_caps c =
    let t = c.args.self.now in let l = c.args.accounts.now in let hs = c.args.handed.now in let n = c.loop-node.node in let p = c.parent-above.result in
    let lt : n < length t.parents = omega arith in
    let pl : p < n = omega arith in
    enough_caps t l c.loop-node.accounts hs n p c.loop-node.invariant (omega arith) lt (omega arith) c.parent-above.ensures.place pl c.requires.opened
    (c.requires.unused p (omega arith)) (c.requires.fits_caps p (omega arith))

pub loop-node-preserved : goal.loop-node-preserved
loop-node-preserved c =
    let t = c.args.self.now in let l = c.args.accounts.now in let hs = c.args.handed.now in let n = c.loop-node.node in let p = c.parent-above.result in
    let lt : n < length t.parents = omega arith in
    let pl : p < n = omega arith in
    handed_on t l c.loop-node.accounts hs n p c.loop-node.invariant (omega arith) lt (omega arith) c.parent-above.ensures.place pl c.requires.opened
    c.give.new.accounts (c.requires.fits p (omega arith)) (c.requires.fits_caps p (omega arith)) c.give.ensures

pub returns-clause-balanced : goal.returns-clause-balanced
returns-clause-balanced c =
    let t = c.args.self.now in let n = c.loop-node.node in
    let all : n ≡ length t.parents = omega arith in
    handed_all (λ a. a.ram) t c.loop-node.accounts.accounts c.args.handed.now n all c.loop-node.invariant.ram

pub returns-clause-balanced_caps : goal.returns-clause-balanced_caps
returns-clause-balanced_caps c =
    let t = c.args.self.now in let n = c.loop-node.node in
    let all : n ≡ length t.parents = omega arith in
    handed_all (λ a. a.caps) t c.loop-node.accounts.accounts c.args.handed.now n all c.loop-node.invariant.caps
