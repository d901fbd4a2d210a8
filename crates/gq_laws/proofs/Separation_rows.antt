-- Two pairs of a client and its server, and a pair in which the client is outside. By computation.
use Rattle.std.proofs.Common.{◌≡◌, ℕ, List, [], ◌∷◌, codes, Option, Some, None, refl}
use Rattle.std.specs.Prelude.{slice_get}
use Rattle.gq_model.specs.declared.act.Act.TheVariants.{Turns}
use Rattle.gq_model.specs.machine.Amounts.{Ram}
use Rattle.gq_model.specs.machine.Scenario.{Scenario, Component, system}
use Rattle.gq_model.specs.machine.World.{Leaf, World}
use Rattle.gq_model.specs.machine.Sums.{quota}
use Rattle.gq_model.specs.machine.Accounts.{Account, account_at}
use Rattle.gq_model.specs.machine.Run.{run, Acts}
use Rattle.gq_model.proofs.Sample_scenarios.{main_of, leaf, server, leaves, served, echo, echo_sections, echo_server, asking, echo_client, echo_of}

abbrev pairs : Scenario
pairs =
    served ((codes "echo", echo) ∷ (codes "twice", echo) ∷ [])
    (leaves (echo_server ∷ echo_client (codes "cli") 16384 8192 21 ∷ server (codes "other") 4096 (codes "twice") echo_sections
    ∷ leaf (codes "asker") 16384 (main_of (asking (codes "twice") 8192 5)) ∷ []))

-- the account of the y-th leaf after these turns
abbrev account_after : Scenario → Acts → ℕ → List Account
account_after s turns y =
    let w = (run (system s) turns).world in account_at s.version w y (slice_get (system s).components y) (slice_get w.leaves y) 100

abbrev quota_in : World → ℕ → Option Component → Option Leaf → ℕ
quota_in w y None leaf = 0
quota_in w y (Some c) None = 0
quota_in w y (Some c) (Some leaf) = quota Ram w y c leaf

abbrev quota_after : Scenario → Acts → ℕ → ℕ
quota_after s turns y = let w = (run (system s) turns).world in quota_in w y (slice_get (system s).components y) (slice_get w.leaves y)

-- the second pair opens a session, and the first pair's accounts stay
server_stays : account_after pairs ((0, Turns 1) ∷ (1, Turns 1) ∷ (3, Turns 1) ∷ (2, Turns 3) ∷ []) 0 ≡ account_after pairs ((0, Turns 1) ∷ (1, Turns 1) ∷ []) 0
server_stays = refl

client_stays : account_after pairs ((0, Turns 1) ∷ (1, Turns 1) ∷ (3, Turns 1) ∷ (2, Turns 3) ∷ []) 1 ≡ account_after pairs ((0, Turns 1) ∷ (1, Turns 1) ∷ []) 1
client_stays = refl

-- a server whose client is outside: its quota grows with the client's step
before_client : quota_after (echo_of 8192) ((0, Turns 1) ∷ []) 0 ≡ 4096
before_client = refl

after_client : quota_after (echo_of 8192) ((0, Turns 1) ∷ (1, Turns 1) ∷ []) 0 ≡ 12288
after_client = refl
