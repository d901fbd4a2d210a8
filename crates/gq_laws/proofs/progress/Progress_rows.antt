-- What is taken for granted is needed: scenarios that are refused, and worlds of theirs in which nothing goes on and not all is at rest. And
-- worked runs in which budgets, and the rounds that they allow, are met exactly. By computation.
use Rattle.std.proofs.Common.{◌≡◌, ℕ, zero, suc, Bool, true, false, List, [], ◌∷◌, replicate, codes, Some, inl, inr, refl, sym}
use Rattle.std.proofs.lemmas.Bool.{true≢false}
use Rattle.gq_model.specs.declared.phase.Phase.{Phase}
use Rattle.gq_model.specs.declared.phase.Phase.TheVariants.{Pending, Running, Blocked, Serving, Exited}
use Rattle.gq_model.specs.declared.program.Instruction.TheVariants.{Out}
use Rattle.gq_model.specs.declared.section.Section.TheVariants.{Main, Opening, Calling, Closing}
use Rattle.gq_model.specs.machine.Program.{Done}
use Rattle.gq_model.specs.machine.Scenario.{Scenario, System, system}
use Rattle.gq_model.specs.machine.World.{Leaf, World, start}
use Rattle.gq_model.specs.rules.Accept.{Not_resolved, refusal}
use Rattle.gq_model.specs.rules.Resolve.{Bad_after}
use Rattle.gq_model.proofs.Sample_scenarios.{all_do, server, leaves, served, one, hello, echo, echo_of, asking, row_of_leaves}
use Rattle.gq_model.specs.machine.Rest.{can_run}
use Rattle.gq_laws.specs.Progress.{GoesOn, after_turns, steps_in, taken, budgeted, after_rounds, Turn_of}

abbrev phases_of : List Leaf → List Phase
phases_of [] = []
phases_of (leaf ∷ rest) = leaf.phase ∷ phases_of rest

-- which of these leaves can run
abbrev run_in : System → World → ℕ → List Leaf → List Bool
run_in system w x [] = []
run_in system w x (leaf ∷ rest) = can_run system w x ∷ run_in system w (suc x) rest

-- the leaves' phases, and which of them can run
abbrev seen : Scenario → World → List Phase × List Bool
seen s w = (phases_of w.leaves, run_in (system s) w 0 w.leaves)

-- EACH PREMISE IS NEEDED

-- a server that opens its own service
abbrev own_client : Scenario
own_client =
    served ((codes "echo", echo) ∷ [])
    (leaves (server (codes "srv") 16384 (codes "echo") ((Main, all_do (asking (codes "echo") 8192 1)) ∷ (Opening, Done) ∷ (Calling 0, Done)
    ∷ (Closing 0, Done) ∷ []) ∷ []))

blocked_by_itself : seen own_client (after_turns (system own_client) (start (system own_client)) (0 ∷ [])) ≡ (Blocked ∷ [], false ∷ [])
blocked_by_itself = refl

-- it does not go on from there
never_goes_on : GoesOn (system own_client) (after_turns (system own_client) (start (system own_client)) (0 ∷ [])) → ⊥
never_goes_on h = elim h [ inl rest ↦ true≢false (sym (rest zero _ refl)) | inr step ↦ no_leaf step.0 step.1.can ]
  where
    no_leaf : (x : ℕ) → can_run (system own_client) (after_turns (system own_client) (start (system own_client)) (0 ∷ [])) x ≡ true → ⊥
    no_leaf zero can = true≢false (sym can)
    no_leaf (suc x) can = true≢false (sym can)

-- three leaves that start after one another
none_starts : seen (row_of_leaves 8192 (Some (codes "three"))) (start (system (row_of_leaves 8192 (Some (codes "three")))))
    ≡ (Pending ∷ Pending ∷ Pending ∷ [], false ∷ false ∷ false ∷ [])
none_starts = refl

is_bad_after : refusal (row_of_leaves 8192 (Some (codes "three"))) ≡ Some (Not_resolved (Bad_after (codes "one")))
is_bad_after = refl

-- a program that the verifier refuses: its first step is wrong, so no turn is a step, and the leaf never comes to rest
abbrev wrong_first : Scenario
wrong_first = one 4096 4096 (Out ∷ [])

never_rests : seen wrong_first (after_turns (system wrong_first) (start (system wrong_first)) (replicate 5 0)) ≡ (Running ∷ [], true ∷ [])
never_rests = refl

no_step : taken (after_turns (system wrong_first) (start (system wrong_first)) (replicate 5 0)) ≡ 0
no_step = refl

-- EXACTLY

hello_budget : budgeted hello (start (system hello)) ≡ 2
hello_budget = refl

-- as many turns are steps as are budgeted, and no more
hello_steps : steps_in (system hello) (start (system hello)) (replicate 5 (Turn_of 0)) ≡ 2
hello_steps = refl

-- one round less does not suffice
hello_one_round : seen hello (after_rounds (system hello) (start (system hello)) ((Turn_of 0 ∷ []) ∷ [])) ≡ (Running ∷ [], true ∷ [])
hello_one_round = refl

hello_two_rounds : seen hello (after_rounds (system hello) (start (system hello)) ((Turn_of 0 ∷ []) ∷ (Turn_of 0 ∷ []) ∷ [])) ≡ (Exited ∷ [], false ∷ [])
hello_two_rounds = refl

echo_budget : budgeted (echo_of 8192) (start (system (echo_of 8192))) ≡ 15
echo_budget = refl

-- a server and its client: after all rounds one serves with no request, the other has exited
echo_rounds : seen (echo_of 8192) (after_rounds (system (echo_of 8192)) (start (system (echo_of 8192))) (replicate 15 (Turn_of 1 ∷ Turn_of 0 ∷ [])))
    ≡ (Serving ∷ Exited ∷ [], false ∷ false ∷ [])
echo_rounds = refl

-- and all that was budgeted was taken
echo_steps : taken (after_rounds (system (echo_of 8192)) (start (system (echo_of 8192))) (replicate 15 (Turn_of 1 ∷ Turn_of 0 ∷ []))) ≡ 15
echo_steps = refl
