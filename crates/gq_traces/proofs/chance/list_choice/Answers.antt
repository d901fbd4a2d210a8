-- The leaf that is chosen is one of the scenario's, and takes the turns of the choice.
use Rattle.std.proofs.Common.{◌≡◌, ◌∙◌, ◌+◌, ℕ, suc, min, List, length, get_or, ap, ap₂, sym, arith}
use Rattle.rand_pcg.specs.Lcg.{Lcg}
use Rattle.gq_model.specs.machine.Rest.{while_can}
use Rattle.gq_model.specs.machine.Scenario.{System, system}
use Rattle.gq_model.specs.machine.World.{World}
use Rattle.gq_traces.specs.Schedule.{able, chosen_turns, drawn, next_choice}
use Rattle.gq_traces.proofs.Random_turn_schedule.{leaf_below}
use Rattle.gq_traces.proofs.chance.list_choice.Goals as goal

-- the choice that was drawn is the next one
chosen_is : (all : System) (left : ℕ) (w new : World) (g h f : Lcg) (leaves : List ℕ) (place leaf drawn_most most taken : ℕ)
    → leaves ≡ able all w 0 all.components → (place, h) ≡ drawn g (length leaves) → leaf ≡ get_or leaves place 0 → (drawn_most, f) ≡ drawn h 16
    → most ≡ min (drawn_most + 1) left → while_can most all w leaf ≡ (taken, new) → chosen_turns all left w (next_choice all w g) ≡ (taken, new)
chosen_is all left w new g h f leaves place leaf drawn_most most taken is first at second least takes =
    let here = able all w 0 all.components in
    let place_is : place ≡ (drawn g (length here)).0 = ap (λ (p : ℕ × Lcg). p.0) first ∙ ap (λ (l : List ℕ). (drawn g (length l)).0) is in
    let leaf_is : leaf ≡ get_or here (drawn g (length here)).0 0 =
    at ∙ (ap (λ (l : List ℕ). get_or l place 0) is ∙ ap (λ (k : ℕ). get_or here k 0) place_is) in
    let next : h ≡ (drawn g (length here)).1 = ap (λ (p : ℕ × Lcg). p.1) first ∙ ap (λ (l : List ℕ). (drawn g (length l)).1) is in
    let more : drawn_most ≡ (drawn (drawn g (length here)).1 16).0 = ap (λ (p : ℕ × Lcg). p.0) second ∙ ap (λ (z : Lcg). (drawn z 16).0) next in
    let one : drawn_most + 1 ≡ suc (drawn (drawn g (length here)).1 16).0 = omega (arith, more) in
    let most_is : most ≡ min (suc (drawn (drawn g (length here)).1 16).0) left = least ∙ ap (λ (k : ℕ). min k left) one in
    sym (ap₂ (λ (k x : ℕ). while_can k all w x) most_is leaf_is) ∙ takes

pub take_turns-taken-requires-clause-leaf : goal.take_turns-taken-requires-clause-leaf
take_turns-taken-requires-clause-leaf c =
    let w = c.args.world.now in
    leaf_below (system w.scenario) w.world c.args.generator.now c.draw-place.new.generator c.args.leaves.now c.draw-place.result c.new-leaf.result
    c.requires.leaves c.requires.some c.draw-place.ensures c.new-leaf.ensures

pub list_taken-requires-clause-leaf : goal.list_taken-requires-clause-leaf
list_taken-requires-clause-leaf c =
    let w = c.args.world.now in
    let below = leaf_below (system w.scenario) w.world c.args.generator.now c.draw-place.new.generator c.args.leaves.now c.draw-place.result c.new-leaf.result
    c.requires.leaves c.requires.some c.draw-place.ensures c.new-leaf.ensures in
    let few = c.requires.few_leaves in
    omega (arith, below, few)

pub returns-clause-taken : goal.returns-clause-taken
returns-clause-taken c =
    let w = c.args.world.now in
    chosen_is (system w.scenario) c.args.left w.world c.take_turns-taken.new.world.world c.args.generator.now c.draw-place.new.generator c.draw.new.generator
    c.args.leaves.now c.draw-place.result c.new-leaf.result c.draw.result c.min.result c.take_turns-taken.result c.requires.leaves c.draw-place.ensures
    c.new-leaf.ensures c.draw.ensures c.min.ensures c.take_turns-taken.ensures.taken
