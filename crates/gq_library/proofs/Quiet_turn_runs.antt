-- Turns that a leaf takes alone, and one turn more.
use Rattle.std.proofs.Common.{◌≡◌, ◌+◌, ◌∙◌, ◌<◌, ◌≤◌, ◌^◌, ◌==◌, ℕ, zero, suc, Bool, true, false, not, ◌&&◌, List, [], ◌∷◌, Some}
use Rattle.std.proofs.Common.{refl, ap, sym, subst, arith}
use Rattle.std.specs.Prelude.{IsOk, Ok, Err, if◌then◌else◌, slice_get, slice_index, slice_set}
use Rattle.std.proofs.lemmas.Bool.Decides.{nat_tests}
use Rattle.std.proofs.lemmas.List.{get_or-set_same}
use Rattle.gq_bytecode.specs.Nexts.{Active, GoesAlone, leaf_with}
use Rattle.gq_model.specs.declared.fault.Wrong.{Wrong}
use Rattle.gq_model.specs.declared.phase.Phase.{Phase}
use Rattle.gq_model.specs.declared.phase.Phase.TheVariants as phase
use Rattle.gq_model.specs.machine.Doing.{Event, Quiet, Stepped}
use Rattle.gq_model.specs.machine.Rest.{can_run, runs, runs_as}
use Rattle.gq_model.specs.machine.Scenario.{Component, System}
use Rattle.gq_model.specs.machine.Step.{next}
use Rattle.gq_model.specs.machine.World as model
use Rattle.gq_model.specs.machine.World.{Leaf}
use Rattle.gq_laws.specs.Turn_effects.{CountsSteps, steps_of}
use Rattle.gq_world.specs.World_between_turns.{HasTaken}
use Rattle.gq_world.proofs.Rest_runs.{steps_at, steps_there}
use Rattle.gq_library.specs.C_turns.{after_event, after_turn, burst, Burst, can_take, is_last, is_spent, spent_leaf, taken_on}

-- STEPS THAT ARE COUNTED

pub not_spent : (w : model.World) (x n : ℕ) → HasTaken w x n → n < 18446744073709551615 → is_spent w x ≡ false
not_spent w x n h less = ap spent_leaf h.there ∙ other h.leaf.steps (ap (λ k. k) h.taken) less
  where
    other : (k : ℕ) → k ≡ n → n < 18446744073709551615 → (k == 18446744073709551615) ≡ false
    other k e less = grind (arith, nat_tests, e, less)

pub spent : (w : model.World) (x : ℕ) → HasTaken w x 18446744073709551615 → is_spent w x ≡ true
spent w x h = ap spent_leaf h.there ∙ same h.leaf.steps h.taken
  where
    same : (k : ℕ) → k ≡ 18446744073709551615 → (k == 18446744073709551615) ≡ true
    same k e = grind (arith, nat_tests, e)

-- a leaf that is there, and has not taken so many
pub unspent : (w : model.World) (x n : ℕ) → HasTaken w x n → (HasTaken w x 18446744073709551615 → ⊥) → is_spent w x ≡ false
unspent w x n h other = ap spent_leaf h.there ∙ by (h.leaf.steps == 18446744073709551615) refl
  where
    same : (k : ℕ) → (k == 18446744073709551615) ≡ true → k ≡ 18446744073709551615
    same k e = grind (arith, nat_tests, e)

    by : (b : Bool) → (h.leaf.steps == 18446744073709551615) ≡ b → (h.leaf.steps == 18446744073709551615) ≡ false
    by true e = absurd (other (record { leaf = h.leaf; there = h.there; taken = same h.leaf.steps e }))
    by false e = e

-- ONE TURN

pub can_both : (system : System) (w : model.World) (x : ℕ) → can_run system w x ≡ true → is_spent w x ≡ false → can_take system w x ≡ true
can_both system w x can unspent = (λ i. can i && not (unspent i))

-- one turn, by what the step shows
pub one_turn : (system : System) (x n : ℕ) (b : Burst) (r : Stepped) → can_take system b.world x ≡ true → next system b.world x ≡ r
    → taken_on system x (suc n) b ≡ after_turn b r (taken_on system x n)
one_turn system x n b r can e =
    ap (λ (t : Bool). if t then after_turn b (next system b.world x) (taken_on system x n) else b) can
    ∙ ap (λ (s : Stepped). after_turn b s (taken_on system x n)) e

-- a leaf that can take none
pub no_turn : (system : System) (x n : ℕ) (b : Burst) → can_take system b.world x ≡ false → taken_on system x n b ≡ b
no_turn system x zero b can = refl
no_turn system x (suc n) b can = ap (λ (t : Bool). if t then after_turn b (next system b.world x) (taken_on system x n) else b) can

-- TURNS ALONE

-- what the last of n quiet turns shows, after this event
abbrev pub quieted : ℕ → Event → Event
quieted zero event = event
quieted (suc n) event = Quiet

stays_quiet : (n : ℕ) → quieted n Quiet ≡ Quiet
stays_quiet zero = refl
stays_quiet (suc n) = refl

pub quiet_some : (n : ℕ) (event : Event) → 0 < n → quieted n event ≡ Quiet
quiet_some zero event h = let no : ⊥ = omega (arith, h) in absurd no
quiet_some (suc n) event h = refl

-- a leaf that takes its own steps can
active_runs : (w : model.World) (x : ℕ) (leaf : Leaf) (p : Phase) → Active p → runs w x leaf p ≡ true
active_runs w x leaf phase.Pending h = absurd h
active_runs w x leaf phase.Running h = refl
active_runs w x leaf phase.Blocked h = absurd h
active_runs w x leaf phase.Serving h = absurd h
active_runs w x leaf phase.Handling h = refl
active_runs w x leaf phase.Exited h = absurd h

can_alone : (system : System) (w : model.World) (x : ℕ) (c : Component) (leaf : Leaf) → slice_get system.components x ≡ Some c
    → slice_get w.leaves x ≡ Some leaf → Active leaf.phase → can_run system w x ≡ true
can_alone system w x c leaf there at active = (λ i. runs_as w x (there i) (at i)) ∙ active_runs w x leaf leaf.phase active

set_at : (leaves : List Leaf) (x : ℕ) (old new : Leaf) → slice_get leaves x ≡ Some old → slice_get (slice_set leaves x new) x ≡ Some new
set_at [] x old new e = cc
set_at (l ∷ leaves) zero old new e = refl
set_at (l ∷ leaves) (suc x) old new e = set_at leaves x old new e

-- a step more
step_more : (system : System) (w : model.World) (x a : ℕ) (leaf new : Leaf) → CountsSteps system w x → can_run system w x ≡ true
    → slice_get w.leaves x ≡ Some leaf → next system w x ≡ Ok (model.with_leaf w x new, Quiet) → HasTaken w x a → HasTaken (model.with_leaf w x new) x (suc a)
step_more system w x a leaf new counts can at e h =
    let mid = model.with_leaf w x new in
    let there = set_at w.leaves x leaf new at in
    let own : HasTaken mid x new.steps = record { leaf = new; there = there; taken = refl } in
    let up = ap (λ (l : List ℕ). slice_index l x) (counts mid Quiet can e)
    ∙ get_or-set_same (steps_of w) x (suc (slice_index (steps_of w) x)) 0 (steps_there w x a h) in
    record { leaf = new; there = there; taken = sym (steps_at mid x new.steps own) ∙ (up ∙ ap suc (steps_at w x a h)) }

-- turns that the leaf takes alone
pub alone : (system : System) (x n k m t u a : ℕ) (c : Component) (event : Event) (old new : model.World) → slice_get system.components x ≡ Some c
    → ((w : model.World) → CountsSteps system w x) → HasTaken old x a → a + n < 2 ^ 64 → m ≡ n + k → u ≡ t + n → GoesAlone system x n old new
    → taken_on system x m (burst t event old) ≡ taken_on system x k (burst u (quieted n event) new)
alone system x zero k m t u a c event old new there counts h less em eu g =
    let same : m ≡ k = omega (arith, em) in
    let also : t ≡ u = omega (arith, eu) in
    λ i. taken_on system x (same i) (burst (also i) event (g i))
alone system x (suc n) k m t u a c event old new there counts h less em eu g =
    let one : m ≡ suc (n + k) = omega (arith, em) in
    let next_u : u ≡ suc t + n = omega (arith, eu) in
    let mid = model.with_leaf old x (leaf_with g.0 g.1) in
    let can = can_alone system old x c g.0 there g.2 g.3 in
    let take = can_both system old x can (not_spent old x a h (omega (arith, less))) in
    let more = step_more system old x a g.0 (leaf_with g.0 g.1) (counts old) can g.2 g.4 h in
    (λ i. taken_on system x (one i) (burst t event old)) ∙ (one_turn system x (n + k) (burst t event old) (Ok (mid, Quiet)) take g.4
    ∙ (alone system x n k (n + k) (suc t) u (suc a) c Quiet mid new there counts more (omega (arith, less)) refl next_u g.5
    ∙ (λ i. taken_on system x k (burst u (stays_quiet n i) new))))

-- WHAT WAS TAKEN

event_grows : (b : Burst) (go : Burst → Burst) → ((u : Burst) → u.taken ≤ (go u).taken) → b.taken ≤ (after_event b go).taken
event_grows b go grows = by (is_last b.event)
  where
    by : (t : Bool) → b.taken ≤ (if t then b else go b).taken
    by true = omega arith
    by false = grows b

turn_grows : (b : Burst) (r : Stepped) (go : Burst → Burst) → ((u : Burst) → u.taken ≤ (go u).taken) → b.taken ≤ (after_turn b r go).taken
turn_grows b (Ok p) go grows = let more = event_grows (burst (suc b.taken) p.1 p.0) go grows in omega (arith, more)
turn_grows b (Err wrong) go grows = omega arith

if_grows : (t : Bool) (b u : Burst) → b.taken ≤ u.taken → b.taken ≤ (if t then u else b).taken
if_grows true b u h = h
if_grows false b u h = omega arith

-- further turns are counted on
grows : (system : System) (x n : ℕ) (b : Burst) → b.taken ≤ (taken_on system x n b).taken
grows system x zero b = omega arith
grows system x (suc n) b =
    if_grows (can_take system b.world x) b (after_turn b (next system b.world x) (taken_on system x n))
    (turn_grows b (next system b.world x) (taken_on system x n) (λ u. grows system x n u))

wrong_not_ok : (wrong : Wrong) → IsOk {T = model.World × Event} {E = Wrong} (Err wrong) → ⊥
wrong_not_ok wrong e = cc

-- a leaf that can take a turn, which is not wrong, takes one at least
pub takes_one : (system : System) (x n : ℕ) (b : Burst) → can_take system b.world x ≡ true → IsOk (next system b.world x) → 0 < n
    → suc b.taken ≤ (taken_on system x n b).taken
takes_one system x zero b can goes some = absurd (omega (arith, some))
takes_one system x (suc n) b can goes some = by (next system b.world x) refl goes
  where
    by : (r : Stepped) → next system b.world x ≡ r → IsOk r → suc b.taken ≤ (taken_on system x (suc n) b).taken
    by (Ok p) e ok =
        subst (λ (u : Burst). suc b.taken ≤ u.taken) (sym (one_turn system x n b (Ok p) can e))
        (event_grows (burst (suc b.taken) p.1 p.0) (taken_on system x n) (λ u. grows system x n u))
    by (Err wrong) e ok = absurd (wrong_not_ok wrong ok)
