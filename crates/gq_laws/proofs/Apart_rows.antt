-- Two pairs of a client and its server, whose turns are mixed. By computation.
use Rattle.std.proofs.Common.{◌≡◌, ◌||◌, ◌==◌, ℕ, Bool, true, [], ◌∷◌, ◌++◌, codes, Option, Some, refl}
use Rattle.std.specs.Fmt.{digits}
use Rattle.std.specs.Prelude.{slice_get}
use Rattle.gq_model.specs.declared.act.Act.TheVariants.{Turns}
use Rattle.gq_model.specs.declared.program.Instruction.TheVariants.{Out}
use Rattle.gq_model.specs.machine.Scenario.{Scenario, system}
use Rattle.gq_model.specs.machine.World.{Slot, Waiting, leaf_slot}
use Rattle.gq_model.specs.machine.Run.{run, Acts}
use Rattle.gq_model.proofs.Sample_scenarios.{main_of, leaf, server, leaves, served, echo, echo_sections, echo_server, asking, echo_client}
use Rattle.gq_laws.specs.Group_alone.{own_turns, own_lines}
use Rattle.gq_model.proofs.Statement_word_rows.{push}

abbrev pairs : Scenario
pairs =
    served ((codes "echo", echo) ∷ (codes "twice", echo) ∷ [])
    (leaves (echo_server ∷ echo_client (codes "cli") 16384 8192 21 ∷ server (codes "other") 4096 (codes "twice") echo_sections
    ∷ leaf (codes "asker") 16384 (main_of (asking (codes "twice") 8192 5)) ∷ []))

-- the first pair
abbrev first : ℕ → Bool
first x = x == 0 || x == 1

-- the second pair opens its session before the first does
abbrev mixed : Acts
mixed = (2, Turns 1) ∷ (0, Turns 1) ∷ (3, Turns 1) ∷ (1, Turns 1) ∷ (2, Turns 3) ∷ (0, Turns 3) ∷ (3, Turns 2) ∷ (1, Turns 2) ∷ (2, Turns 4) ∷ (0, Turns 4) ∷
    (3, Turns 3) ∷ (1, Turns 3) ∷ (0, Turns 2) ∷ (2, Turns 2) ∷ []

abbrev slot_after : Acts → Option Slot
slot_after turns = leaf_slot (slice_get (run (system pairs) turns).world.leaves 1) 0

-- so its session has another number than alone
number_mixed : slot_after ((2, Turns 1) ∷ (0, Turns 1) ∷ (3, Turns 1) ∷ (1, Turns 1) ∷ []) ≡ Some (Waiting 1)
number_mixed = refl

number_alone : slot_after (own_turns first ((2, Turns 1) ∷ (0, Turns 1) ∷ (3, Turns 1) ∷ (1, Turns 1) ∷ [])) ≡ Some (Waiting 0)
number_alone = refl

own : own_turns first mixed ≡ (0, Turns 1) ∷ (1, Turns 1) ∷ (0, Turns 3) ∷ (1, Turns 2) ∷ (0, Turns 4) ∷ (1, Turns 3) ∷ (0, Turns 2) ∷ []
own = refl

-- the lines of all leaves
all_lines : (run (system pairs) mixed).text ≡ codes "[init -> asker] 10" ++ 10 ∷ codes "[init -> cli] 42" ++ 10 ∷ []
unfolding digits
all_lines = refl

lines_of_all : own_lines (system pairs) (λ x. true) mixed ≡ codes "[init -> asker] 10" ++ 10 ∷ codes "[init -> cli] 42" ++ 10 ∷ []
unfolding digits
lines_of_all = refl

-- those of the first pair, beside the other and alone
lines : own_lines (system pairs) first mixed ≡ codes "[init -> cli] 42" ++ 10 ∷ []
unfolding digits
lines = refl

lines_alone : (run (system pairs) (own_turns first mixed)).text ≡ codes "[init -> cli] 42" ++ 10 ∷ []
unfolding digits
lines_alone = refl

-- a client without its server is no group that is apart: alone it waits for ever
abbrev client : ℕ → Bool
client x = x == 1

client_mixed : own_lines (system pairs) client mixed ≡ codes "[init -> cli] 42" ++ 10 ∷ []
unfolding digits
client_mixed = refl

client_alone : (run (system pairs) (own_turns client mixed)).text ≡ []
client_alone = refl

-- nor is it so where the scenario is not accepted: a wrong step outside ends the run, and with it the lines of the group
abbrev wrong_beside : Scenario
wrong_beside =
    served [] (leaves (leaf (codes "talker") 4096 (main_of (push 7 ∷ Out ∷ [])) ∷ leaf (codes "wrong") 4096 (main_of (Out ∷ [])) ∷ []))

abbrev talker : ℕ → Bool
talker x = x == 0

abbrev wrong_first : Acts
wrong_first = (0, Turns 1) ∷ (1, Turns 1) ∷ (0, Turns 2) ∷ []

talker_beside : own_lines (system wrong_beside) talker wrong_first ≡ []
talker_beside = refl

talker_alone : (run (system wrong_beside) (own_turns talker wrong_first)).text ≡ codes "[init -> talker] 7" ++ 10 ∷ []
unfolding digits
talker_alone = refl
