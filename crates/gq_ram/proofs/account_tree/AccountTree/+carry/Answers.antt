use Rattle.std.proofs.Common.{◌≡◌, ◌<◌, length, sym, subst, arith, rules, get_or, inl, inr}
use Rattle.std.proofs.lemmas.Bool.{cases_lt}
use Rattle.gq_ram.specs.Account_tree.{Tree, IsTree, number, parent}
use Rattle.gq_ram.proofs.Quota_move_sequences.{after_move, node_parent, init_open, far, joined}
use Rattle.gq_ram.proofs.account_tree.AccountTree.+carry.Goals as goal

-- UP

pub carry-requires : goal.carry-requires
carry-requires t c =
    let n0 : Tree = record { accounts = c.self.inside.accounts.items; parents = c.self.inside.parents.items } in
    let n = c.args.self.now in let l = c.args.accounts.now in let p = c.index-init.result.now in
    let e : n0 ≡ n = c.self.view_is in
    let tree : IsTree n = subst IsTree e c.self.invariant in
    let up = c.if-from-to.true in
    let pe : p
    ≡ parent n c.args.from = node_parent n c.args.from p c.requires.can.from
    (subst (λ (x : Tree). p ≡ get_or x.parents c.args.from p) e c.index-init.ensures) in
    let less : p < c.args.from = omega (arith, pe, tree.preorder c.args.from (omega arith) c.requires.can.from) in
    let po = init_open n l c.args.from p c.laws.ensures c.requires.can.nodes (omega arith) c.requires.can.from pe c.requires.can.from_open in
    let a = after_move n l c.hop.new.accounts c.args.from p c.args.to c.args.amount c.laws.ensures c.requires.can
    (omega (arith, less, c.requires.can.from)) (λ s. omega arith) c.if-init-to.true po c.requires.counted c.hop.ensures in
    (search rules, (a.can, (a.counted, (a.enough, a.enough_caps))))

pub returns-then-init-to : goal.returns-then-init-to
returns-then-init-to t c =
    let n0 : Tree = record { accounts = c.self.inside.accounts.items; parents = c.self.inside.parents.items } in
    let n = c.args.self.now in let l = c.args.accounts.now in let p = c.index-init.result.now in
    let e : n0 ≡ n = c.self.view_is in
    let tree : IsTree n = subst IsTree e c.self.invariant in
    let up = c.if-from-to.true in
    let pe : p
    ≡ parent n c.args.from = node_parent n c.args.from p c.requires.can.from
    (subst (λ (x : Tree). p ≡ get_or x.parents c.args.from p) e c.index-init.ensures) in
    let less : p < c.args.from = omega (arith, pe, tree.preorder c.args.from (omega arith) c.requires.can.from) in
    let pl : p < length n.parents = omega (arith, less, c.requires.can.from) in
    let po = init_open n l c.args.from p c.laws.ensures c.requires.can.nodes (omega arith) c.requires.can.from pe c.requires.can.from_open in
    joined l c.hop.new.accounts c.carry.new.accounts (number n c.args.from) (number n p)
    (number n c.args.to) c.args.amount c.requires.can.from_open po c.requires.can.to_open
    (far n l.accounts p c.args.from c.requires.can.nodes pl c.requires.can.from (λ s. omega arith))
    (far n l.accounts c.args.to p c.requires.can.nodes c.requires.can.to pl (λ s. c.if-init-to.true (sym s)))
    (far n l.accounts c.args.to c.args.from c.requires.can.nodes c.requires.can.to c.requires.can.from (λ s. omega arith))
    c.hop.ensures c.carry.ensures

-- DOWN

pub hop-requires-else-from-to : goal.hop-requires-else-from-to
hop-requires-else-from-to t c =
    let n0 : Tree = record { accounts = c.self.inside.accounts.items; parents = c.self.inside.parents.items } in
    let n = c.args.self.now in let l = c.args.accounts.now in let p = c.index-init-else-from-to.result.now in
    let e : n0 ≡ n = c.self.view_is in
    let tree : IsTree n = subst IsTree e c.self.invariant in
    let other : c.args.from ≡ c.args.to → ⊥ = c.requires.can.apart in
    let pos : 0 < c.args.to = elim (cases_lt 0 c.args.to) [ inl y ↦ y | inr z ↦ absurd (other (omega (arith, c.if-from-to.false))) ] in
    let pe : p
    ≡ parent n c.args.to = node_parent n c.args.to p c.requires.can.to
    (subst (λ (x : Tree). p ≡ get_or x.parents c.args.to p) e c.index-init-else-from-to.ensures) in
    let less : p < c.args.to = omega (arith, pe, tree.preorder c.args.to pos c.requires.can.to) in
    let pl : p < length n.parents = omega (arith, less, c.requires.can.to) in
    let po = init_open n l c.args.to p c.laws.ensures c.requires.can.nodes pos c.requires.can.to pe c.requires.can.to_open in
    let a = after_move n l c.carry-else-from-to.new.accounts c.args.from p c.args.to c.args.amount c.laws.ensures c.requires.can pl
    c.if-init-from.false (λ s. omega (arith, less, s)) po c.requires.counted c.carry-else-from-to.ensures in
    record { can = a.can; near = inr (pos, sym pe); counted = a.counted; enough = a.enough; enough_caps = a.enough_caps }

pub returns-else-init-from : goal.returns-else-init-from
returns-else-init-from t c =
    let n0 : Tree = record { accounts = c.self.inside.accounts.items; parents = c.self.inside.parents.items } in
    let n = c.args.self.now in let l = c.args.accounts.now in let p = c.index-init-else-from-to.result.now in
    let e : n0 ≡ n = c.self.view_is in
    let tree : IsTree n = subst IsTree e c.self.invariant in
    let other : c.args.from ≡ c.args.to → ⊥ = c.requires.can.apart in
    let pos : 0 < c.args.to = elim (cases_lt 0 c.args.to) [ inl y ↦ y | inr z ↦ absurd (other (omega (arith, c.if-from-to.false))) ] in
    let pe : p
    ≡ parent n c.args.to = node_parent n c.args.to p c.requires.can.to
    (subst (λ (x : Tree). p ≡ get_or x.parents c.args.to p) e c.index-init-else-from-to.ensures) in
    let less : p < c.args.to = omega (arith, pe, tree.preorder c.args.to pos c.requires.can.to) in
    let pl : p < length n.parents = omega (arith, less, c.requires.can.to) in
    let po = init_open n l c.args.to p c.laws.ensures c.requires.can.nodes pos c.requires.can.to pe c.requires.can.to_open in
    joined l c.carry-else-from-to.new.accounts c.hop-else-from-to.new.accounts (number n c.args.from) (number n p)
    (number n c.args.to) c.args.amount c.requires.can.from_open po c.requires.can.to_open
    (far n l.accounts p c.args.from c.requires.can.nodes pl c.requires.can.from c.if-init-from.false)
    (far n l.accounts c.args.to p c.requires.can.nodes c.requires.can.to pl (λ s. omega arith))
    (far n l.accounts c.args.to c.args.from c.requires.can.nodes c.requires.can.to c.requires.can.from (λ s. other (sym s)))
    c.carry-else-from-to.ensures c.hop-else-from-to.ensures
