use Rattle.std.proofs.Common.{◌≡◌, ◌∙◌, ◌++◌, ◌∷◌, [], ap, sym, subst}
use Rattle.gq_outcomes.specs.internal.Walks.{At, IsOnWay, IsWalk, Steps}
use Rattle.gq_outcomes.proofs.Walk_facts.{all_ok, turn_put}
use Rattle.gq_outcomes.proofs.walk.Walk.take_turn.Goals as goal

pub returns-clause-walk : goal.returns-clause-walk
returns-clause-walk c =
    let old = c.args.self.now in
    let s = old.world.scenario in
    let x = c.args.leaf in
    let mid = record old { past = c.push.new.self } in
    let new = c.step.new.self in
    let turns = old.past.items in
    let at : At s mid turns = record {
      stands = record { world = c.requires.walk.at.stands.world; said = c.requires.walk.at.stands.said };
      past = c.requires.walk.at.past;
    } in
    all_ok c.step.result (λ (walk : IsWalk s new) (past : new.past ≡ mid.past) (steps : Steps s mid new x).
    (let put : new.past.items ≡ turns ++ x ∷ [] =
    ap (λ v. v.items) past ∙ c.in_ok-push.ensures.items ∙ ap (λ n. turns ++ n ∷ []) c.number.ensures in
    let is : IsOnWay s new = record { walk = walk; at = subst (At s new) (sym put) (turn_put s mid new turns x at steps) } in is))
    c.step.ensures.walk c.step.ensures.past c.step.ensures.steps
