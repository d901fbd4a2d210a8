-- The runs of a server that counts what its clients ask of it together, of one that counts for each session alone, and of leaves with inputs. By computation.
use Rattle.std.proofs.Common.{◌≡◌, ℕ, zero, suc, List, [], ◌∷◌, ◌++◌, codes, refl}
use Rattle.std.specs.Fmt.{digits}
use Rattle.gq_model.specs.machine.Scenario.{Scenario, system}
use Rattle.gq_model.specs.declared.act.Act.TheVariants.{Turns, Sets}
use Rattle.gq_model.specs.machine.Run.{Acts, run}
use Rattle.gq_model.specs.machine.Accounts.{account_lines, accounts}
use Rattle.gq_races.proofs.Race_rows.{together, apart, two, relayed_once, behind_one, sensed_once}
use Rattle.gq_determined.specs.Determined.{lines_of}

-- the clients one after the other, in either order
abbrev turns : ℕ → ℕ → Acts
turns x y =
    (0, Turns 9) ∷ (x, Turns 1) ∷ (0, Turns 9) ∷ (x, Turns 2) ∷ (0, Turns 9) ∷ (x, Turns 2) ∷ (0, Turns 9) ∷ (x, Turns 1) ∷ (y, Turns 1) ∷ (0, Turns 9)
    ∷ (y, Turns 2) ∷ (0, Turns 9) ∷ (y, Turns 2) ∷ (0, Turns 9) ∷ (y, Turns 1) ∷ []

-- who comes second is given a greater number
first_of_two : lines_of (two together) 1 (turns 1 2) ≡ codes "[init -> a] 1" ++ 10 ∷ []
unfolding digits
first_of_two = refl

second_of_two : lines_of (two together) 1 (turns 2 1) ≡ codes "[init -> a] 2" ++ 10 ∷ []
unfolding digits
second_of_two = refl

-- with numbers of its own each client is reported the same
first_apart : lines_of (two apart) 1 (turns 1 2) ≡ codes "[init -> a] 1" ++ 10 ∷ []
unfolding digits
first_apart = refl

second_apart : lines_of (two apart) 1 (turns 2 1) ≡ codes "[init -> a] 1" ++ 10 ∷ []
unfolding digits
second_apart = refl

-- and in the end the accounts are the same
abbrev accounts_after : Acts → List ℕ
accounts_after all = account_lines 1 (accounts (two apart) (run (system (two apart)) all).world [])

same_accounts : accounts_after (turns 1 2) ≡ accounts_after (turns 2 1)
unfolding digits
same_accounts = refl

-- A SERVER BEHIND ANOTHER, EACH WITH ONE CLIENT

-- rounds over the leaves, in this order
abbrev rounds : ℕ → Acts → Acts
rounds zero order = []
rounds (suc n) order = order ++ rounds n order

abbrev upwards : Acts
upwards = rounds 8 ((0, Turns 9) ∷ (1, Turns 9) ∷ (2, Turns 9) ∷ [])

abbrev downwards : Acts
downwards = rounds 8 ((2, Turns 1) ∷ (1, Turns 1) ∷ (2, Turns 8) ∷ (1, Turns 8) ∷ (0, Turns 9) ∷ [])

-- both change their own slots in sections, and the outcome is the same
first_relayed : lines_of relayed_once 2 upwards ≡ codes "[init -> a] 1" ++ 10 ∷ []
unfolding digits
first_relayed = refl

second_relayed : lines_of relayed_once 2 downwards ≡ codes "[init -> a] 1" ++ 10 ∷ []
unfolding digits
second_relayed = refl

abbrev relayed_after : Acts → List ℕ
relayed_after all = account_lines 1 (accounts relayed_once (run (system relayed_once) all).world [])

same_relayed : relayed_after upwards ≡ relayed_after downwards
unfolding digits
same_relayed = refl

-- A SERVER BEHIND ANOTHER, BOTH OPENED FOR ONE LEAF

first_behind : lines_of behind_one 2 upwards ≡ codes "[init -> a] 1" ++ 10 ∷ []
unfolding digits
first_behind = refl

second_behind : lines_of behind_one 2 downwards ≡ codes "[init -> a] 1" ++ 10 ∷ []
unfolding digits
second_behind = refl

-- INPUTS THAT ARE READ

-- the client once has its answer
abbrev asked : Acts
asked = (1, Turns 2) ∷ (0, Turns 9) ∷ (1, Turns 1) ∷ (0, Turns 9) ∷ (1, Turns 2) ∷ (0, Turns 9) ∷ (1, Turns 1) ∷ []

-- after the same turns it writes what was set before the server read it
set_before : lines_of sensed_once 1 ((0, Sets 0 9) ∷ asked) ≡ codes "[init -> a] 9" ++ 10 ∷ []
unfolding digits
set_before = refl

set_behind : lines_of sensed_once 1 (asked ++ (0, Sets 0 9) ∷ []) ≡ codes "[init -> a] 0" ++ 10 ∷ []
unfolding digits
set_behind = refl

-- INPUTS THAT NOBODY READS

abbrev unread : Scenario
unread = two (record apart { inputs = 7 ∷ [] })

-- settings in between change nothing that is written
abbrev settings : Acts
settings = (0, Sets 0 5) ∷ turns 2 1 ++ (0, Sets 0 7) ∷ []

lines_unread : lines_of unread 1 settings ≡ codes "[init -> a] 1" ++ 10 ∷ []
unfolding digits
lines_unread = refl

-- nor of the accounts
accounts_unread : account_lines 1 (accounts unread (run (system unread) settings).world []) ≡ codes
    "account init quota 61440\naccount init -> srv quota 4096 used 0 steps 31/0 serving\naccount init -> a quota 0 used 0 steps 6/0 exited\n"
    ++ codes "account init -> b quota 0 used 0 steps 6/0 exited\n"
unfolding digits
accounts_unread = refl
