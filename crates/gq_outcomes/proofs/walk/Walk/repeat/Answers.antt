use Rattle.std.proofs.Common.{◌≡◌, ◌∙◌, ◌<◌, ◌++◌, ◌∷◌, [], ap, sym, subst, get_or, length, take, arith}
use Rattle.std.proofs.lemmas.List.{take_more}
use Rattle.gq_outcomes.specs.internal.Walks.{At, IsWalk, Steps}
use Rattle.gq_outcomes.proofs.Walk_facts.{turn_put}
use Rattle.gq_outcomes.proofs.walk.Walk.repeat.Goals as goal

pub loop-place-preserved : goal.loop-place-preserved
loop-place-preserved c =
    let all = c.args.self.now in
    let s = all.world.scenario in
    let turns = all.past.items in
    let l = c.loop-place in
    let new = c.step.new.self in
    let x = c.new-leaf.result in
    let of = l.invariant.walk.scenario in
    let same : l.self.past.items ≡ turns = ap (λ v. v.items) l.invariant.past in
    let less : l.place < length turns = omega arith in
    let turn = c.index.result.now in
    let leaf : get_or turns l.place turn ≡ x =
    ap (λ t. get_or t l.place turn) (sym same) ∙ sym c.index.ensures ∙ sym c.from.ensures ∙ sym c.new-leaf.ensures in
    record {
      walk = subst (λ t. IsWalk t new) of c.in_ok-step.ensures.walk;
      past = c.in_ok-step.ensures.past ∙ l.invariant.past;
      at = subst (At s new) (sym (take_more turns l.place turn less ∙ ap (λ n. take l.place turns ++ n ∷ []) leaf))
          (turn_put s l.self new (take l.place turns) x l.invariant.at (subst (λ t. Steps t l.self new x) of c.in_ok-step.ensures.steps));
    }
