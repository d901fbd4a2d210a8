-- The laws of turns on a worked run, by computation: a server and its client.
use Rattle.std.proofs.Common.{◌≡◌, ℕ, Bool, true, false, [], ◌∷◌, refl}
use Rattle.gq_model.specs.declared.act.Act.TheVariants.{Turns}
use Rattle.gq_model.specs.machine.Scenario.{system}
use Rattle.gq_model.specs.machine.World.{World}
use Rattle.gq_model.specs.machine.Run.{run, Acts}
use Rattle.gq_model.proofs.Sample_scenarios.{echo_of, echo_turns}
use Rattle.gq_model.specs.machine.Rest.{can_run}
use Rattle.gq_laws.specs.Turn_effects.{steps_of}

abbrev after : Acts → World
after turns = (run (system (echo_of 8192)) turns).world

abbrev runs_then : Acts → ℕ → Bool
runs_then turns x = can_run (system (echo_of 8192)) (after turns) x

-- at the start both can run; once its `main` has ended the server waits for a request; the client that has sent one waits for its
-- reply, and the server can run
both_run : (runs_then [] 0 ≡ true) × (runs_then [] 1 ≡ true)
both_run = (refl, refl)

server_waits : (runs_then ((0, Turns 1) ∷ []) 0 ≡ false) × (runs_then ((0, Turns 1) ∷ []) 1 ≡ true)
server_waits = (refl, refl)

client_waits : (runs_then ((0, Turns 1) ∷ (1, Turns 1) ∷ []) 0 ≡ true) × (runs_then ((0, Turns 1) ∷ (1, Turns 1) ∷ []) 1 ≡ false)
client_waits = (refl, refl)

-- a turn of the server that waits, and of a leaf that is not there, leaves all steps as they were
steps_stay : (steps_of (after ((0, Turns 3) ∷ (5, Turns 1) ∷ [])) ≡ 1 ∷ 0 ∷ []) × (runs_then [] 5 ≡ false)
steps_stay = (refl, refl)

-- at the end of the whole run there are still two leaves, and none can run
all_done : (steps_of (after echo_turns) ≡ 9 ∷ 6 ∷ []) × (runs_then echo_turns 0 ≡ false) × (runs_then echo_turns 1 ≡ false)
all_done = (refl, refl, refl)
