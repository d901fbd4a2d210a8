-- A turn that a leaf takes, or can't take.
use Rattle.std.proofs.Common.{◌≡◌, ◌∙◌, ◌-◌, ◌<◌, ◌≤◌, ℕ, Bool, true, false, not, Option, None, Some, IfSome, ap, length, refl, sym, subst, arith}
use Rattle.std.specs.Prelude.{if◌then◌else◌, nat_eq, slice_get}
use Rattle.std.proofs.lemmas.Bool.Decides.{nat_tests}
use Rattle.gq_model.specs.declared.fault.Wrong.{Wrong}
use Rattle.gq_model.specs.machine.Run.{turns_of}
use Rattle.gq_model.specs.machine.Scenario.{components, system}
use Rattle.gq_model.specs.machine.World.{Leaf, World}
use Rattle.gq_unverified.specs.internal.Taking.{HasCome}
use Rattle.gq_unverified.proofs.Tested_rest_runs.{taken_there, turn_cut, turn_few, turn_ran, turn_taken, wrong_none, wrong_same}
use Rattle.gq_unverified.proofs.tested_rest.try_turn.Goals as goal

-- at most one step more
one_or_none : (a b : ℕ) → a ≤ b → b - a ≤ 1 → b - a ≡ (if not (nat_eq b a) then 1 else 0)
one_or_none a b least most = by (nat_eq b a) refl
  where
    by : (t : Bool) → nat_eq b a ≡ t → b - a ≡ (if not t then 1 else 0)
    by true e = grind (arith, nat_tests, e)
    by false e = grind (arith, nat_tests, least, most, e)

pub returns-in-Ok-None-clause-taken : goal.returns-in-Ok-None-clause-taken
returns-in-Ok-None-clause-taken g c =
    let m = c.args.machine.now in
    let sys = system m.scenario in
    let x = c.args.leaf in
    let w = c.take_turn.new.machine.world in
    let a = g.W.Write.contents c.args.out.now.writer in
    let b = g.W.Write.contents c.take_turn.new.out.writer in
    let idle = λ (v : World). c.turn_laws.ensures.idle sys v x in
    let counted = λ (v : World). c.turn_laws.ensures.counted sys v x in
    let come = subst (λ (o : Option (ℕ × Wrong)). HasCome (turns_of sys x 1) m.world w o a b) c.in-Ok-None.field-0-is c.in-Ok-None.ensures.come in
    let less : x < length m.world.leaves = omega (arith, c.requires.leaf, c.requires.count) in
    let long = c.in-Ok-None.ensures.near.leaves in
    let was = taken_there m.world x c.steps-before.result less c.steps-before.ensures in
    let is = taken_there w x c.steps.result (omega (arith, less, long)) c.steps.ensures in
    let few = turn_few m.scenario x idle counted m.world w a b come c.steps-before.result c.steps.result was is in
    turn_taken m.scenario x idle counted m.world w a b come c.steps-before.result c.steps.result was is
    ∙ ap (λ n. (n, w)) (one_or_none c.steps-before.result c.steps.result few.0 few.1)

pub returns-in-Ok-None-clause-come : goal.returns-in-Ok-None-clause-come
returns-in-Ok-None-clause-come g c =
    let m = c.args.machine.now in
    let sys = system m.scenario in
    let x = c.args.leaf in
    let w = c.take_turn.new.machine.world in
    let a = g.W.Write.contents c.args.out.now.writer in
    let b = g.W.Write.contents c.take_turn.new.out.writer in
    let idle = λ (v : World). c.turn_laws.ensures.idle sys v x in
    let counted = λ (v : World). c.turn_laws.ensures.counted sys v x in
    let come = subst (λ (o : Option (ℕ × Wrong)). HasCome (turns_of sys x 1) m.world w o a b) c.in-Ok-None.field-0-is c.in-Ok-None.ensures.come in
    let less : x < length m.world.leaves = omega (arith, c.requires.leaf, c.requires.count) in
    let long = c.in-Ok-None.ensures.near.leaves in
    let was = taken_there m.world x c.steps-before.result less c.steps-before.ensures in
    let is = taken_there w x c.steps.result (omega (arith, less, long)) c.steps.ensures in
    turn_ran m.scenario x idle counted m.world w a b come c.steps-before.result c.steps.result was is

pub returns-in-Ok-Some-clause-taken : goal.returns-in-Ok-Some-clause-taken
returns-in-Ok-Some-clause-taken g c =
    let m = c.args.machine.now in
    let w = c.take_turn.new.machine.world in
    let a = g.W.Write.contents c.args.out.now.writer in
    let b = g.W.Write.contents c.take_turn.new.out.writer in
    let come = subst (λ (o : Option (ℕ × Wrong)). HasCome (turns_of (system m.scenario) c.args.leaf 1) m.world w o a b) c.in-Ok-Some.field-0-is
    c.in-Ok-Some.ensures.come in
    wrong_none m.scenario c.args.leaf m.world w c.in-Ok-Some.field-0-0 a b come

pub returns-in-Ok-Some-clause-come : goal.returns-in-Ok-Some-clause-come
returns-in-Ok-Some-clause-come g c =
    let m = c.args.machine.now in
    let w = c.take_turn.new.machine.world in
    let a = g.W.Write.contents c.args.out.now.writer in
    let b = g.W.Write.contents c.take_turn.new.out.writer in
    let come = subst (λ (o : Option (ℕ × Wrong)). HasCome (turns_of (system m.scenario) c.args.leaf 1) m.world w o a b) c.in-Ok-Some.field-0-is
    c.in-Ok-Some.ensures.come in
    wrong_same m.scenario c.args.leaf m.world w c.in-Ok-Some.field-0-0 a b come

pub returns-in-Err-clause-cut : goal.returns-in-Err-clause-cut
returns-in-Err-clause-cut g c =
    let m = c.args.machine.now in
    let sys = system m.scenario in
    let x = c.args.leaf in
    turn_cut m.scenario x (λ v. c.turn_laws.ensures.idle sys v x) (λ v. c.turn_laws.ensures.counted sys v x) m.world m.world
    (g.W.Write.contents c.args.out.now.writer) (g.W.Write.contents c.take_turn.new.out.writer) 1 c.in-Err.ensures.cut
