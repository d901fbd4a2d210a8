-- The first turns of one line after the other.
use Rattle.std.proofs.Common.{◌≡◌, ◌∙◌, ◌+◌, ◌-◌, ◌++◌, ◌∷◌, [], drop, suc, ap, arith, length, subst, sym, take}
use Rattle.gq_init.specs.Turn_items.{IsOf}
use Rattle.gq_model.specs.machine.Scenario.{Scenario, components, system}
use Rattle.gq_traces.specs.First_turns.{first_turns, turns_in}
use Rattle.gq_traces.specs.Trace.{after_all}
use Rattle.gq_traces.specs.internal.Follows.{Follows}
use Rattle.gq_traces.specs.internal.Line_acts.{acts_at}
use Rattle.gq_traces.proofs.Lines_taken.{drop_at, lines_followed, lines_followed_more, no_lines_followed}
use Rattle.gq_traces.proofs.Turns_few.{of_here, take_more}
use Rattle.gq_traces.proofs.follow.take_most.Goals as goal

pub loop-item-init : goal.loop-item-init
loop-item-init c = no_lines_followed c.args.turns.now c.args.most c.args.world.now c.args.followed.now c.requires.followed

pub take_line-requires-clause-leaf : goal.take_line-requires-clause-leaf
take_line-requires-clause-leaf c =
    let l = c.loop-item in
    let q = c.item-item.result in
    subst (λ line. IsOf (length (components l.world.scenario)) line) (sym c.line.ensures)
    (subst (λ (s : Scenario). IsOf (length (components s)) q) (sym l.invariant.follows.scenario)
    (of_here (length (components c.args.world.now.scenario)) c.args.turns.now l.item-index q c.loop-item-test.true c.item-item.is c.requires.leaves))

pub loop-item-preserved : goal.loop-item-preserved
loop-item-preserved c =
    let l = c.loop-item in
    let i = l.item-index in
    let w = c.args.world.now in
    let turns = c.args.turns.now in
    let step = c.take_line in
    let line = c.line.result in
    let same = l.invariant.follows.scenario in
    let before = ap (λ line. take i turns ++ line ∷ []) c.line.ensures
    ∙ (take_more turns i c.item-item.result c.loop-item-test.true c.item-item.is ∙ (let next : suc i ≡ i + 1 = omega arith in ap (λ m. take m turns) next)) in
    let behind = drop_at turns i c.item-item.result c.loop-item-test.true c.item-item.is ∙ ap (λ q. q ∷ drop (i + 1) turns) (sym c.line.ensures) in
    lines_followed_more turns i l.left (l.left - c.from-left.result) c.args.most w l.world step.new.world c.args.followed.now l.followed step.new.followed line
    before behind l.invariant
    (ap (λ n. l.left - n) c.from-left.ensures
    ∙ subst (λ (s : Scenario). l.left - step.result ≡ l.left - turns_in (acts_at (system s) l.world.world line)) same step.ensures.left)
    (subst (λ (s : Scenario). Follows 1 (λ t. after_all (system s) (first_turns l.left (acts_at (system s) t.world line)) t) l.world step.new.world l.followed
    step.new.followed) same step.ensures.follows)

pub returns : goal.returns
returns c =
    let l = c.loop-item in
    let over = c.loop-item-test.false in
    let end = l.auto.item-index-end in
    lines_followed c.args.turns.now l.item-index l.left c.args.most c.args.world.now l.world c.args.followed.now l.followed (omega (arith, over, end))
    l.invariant
