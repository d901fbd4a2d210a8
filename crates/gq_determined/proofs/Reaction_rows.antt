-- What follows the signals of two clients of a server that counts what they ask of it together, and of one that counts for each session alone. By computation.
use Rattle.std.proofs.Common.{◌≡◌, ℕ, suc, Bool, true, false, List, [], ◌∷◌, ◌++◌, codes, None, refl}
use Rattle.std.specs.Fmt.{digits}
use Rattle.gq_tariff.specs.declared.amount.Resource.TheVariants.{Ram}
use Rattle.gq_model.specs.declared.act.Act.TheVariants.{Turns, Submits}
use Rattle.gq_model.specs.declared.program.Instruction.TheVariants.{Open, Call, Out, Store}
use Rattle.gq_model.specs.declared.program.OperandSlot.TheVariants.{Own}
use Rattle.gq_model.specs.declared.section.Section.TheVariants.{Main, Calling, Reacting}
use Rattle.gq_model.specs.declared.program.Width.TheVariants.{Byte}
use Rattle.gq_model.specs.machine.Accounts.{account_lines, accounts}
use Rattle.gq_model.specs.machine.Amounts.{amount}
use Rattle.gq_model.specs.machine.Run.{Acts, run}
use Rattle.gq_model.specs.machine.Scenario.{Scenario, Interface, LeafNode, system}
use Rattle.gq_model.specs.machine.World.{World, Leaf}
use Rattle.gq_model.specs.rules.Accept.{refusal}
use Rattle.gq_model.proofs.Sample_scenarios.{all_do, leaf, leaves, program, served}
use Rattle.gq_model.proofs.Statement_word_rows.{push}
use Rattle.gq_laws.specs.Progress.{rests}
use Rattle.gq_races.specs.Races.{races}
use Rattle.gq_races.proofs.Race_rows.{together, apart}
use Rattle.gq_determined.specs.Synchronous.{world_after, lines_after}

abbrev counted : Interface
counted = record { arg = 10; reply = 255; need = amount 8192 0; object = 0; upgrades = []; buffer = 0; counted = Ram ∷ [] }

-- it opens a session, and asks by it when its signal is submitted
abbrev asker : List ℕ → LeafNode
asker name =
    record (leaf name 12288 (program ((Main, all_do (Open (Own 0) (codes "tally") 8192 ∷ [])) ∷ (Reacting 0, all_do (push 0 ∷ Call (Own 0) ∷ Out ∷ [])) ∷ [])))
    { signals = 1 }

abbrev asked : LeafNode → Scenario
asked srv = served ((codes "tally", counted) ∷ []) (leaves (srv ∷ asker (codes "a") ∷ asker (codes "b") ∷ []))

accepted_together : refusal (asked together) ≡ None
accepted_together = refl

accepted_apart : refusal (asked apart) ≡ None
accepted_apart = refl

race_together : races (asked together)
    ≡ record { leaf = codes "init -> srv"; section = Calling 0; place = 6; statement = Store Byte (Own 0) } ∷ []
race_together = refl

none_apart : races (asked apart) ≡ []
none_apart = refl

-- all sessions are open
abbrev opened : LeafNode → World
opened srv = (run (system (asked srv)) ((0, Turns 9) ∷ (1, Turns 9) ∷ (2, Turns 9) ∷ (0, Turns 9) ∷ (1, Turns 9) ∷ (2, Turns 9) ∷ (0, Turns 9) ∷ [])).world

-- both signals are submitted there
abbrev submitted : LeafNode → World
submitted srv = world_after (asked srv) (opened srv) ((2, Submits 0) ∷ (1, Submits 0) ∷ [])

-- which leaves are at rest
abbrev resting : World → List Leaf → ℕ → List Bool
resting w [] x = []
resting w (leaf ∷ rest) x = rests w x leaf leaf.phase ∷ resting w rest (suc x)

abbrev all_resting : World → List Bool
all_resting w = resting w w.leaves 0

all_opened : all_resting (opened together) ≡ true ∷ true ∷ true ∷ []
all_opened = refl

clients_begin : all_resting (submitted together) ≡ true ∷ false ∷ false ∷ []
clients_begin = refl

-- one client after the other is served
abbrev after : ℕ → ℕ → Acts
after x y =
    (x, Turns 9) ∷ (0, Turns 9) ∷ (x, Turns 9) ∷ (y, Turns 9) ∷ (0, Turns 9) ∷ (y, Turns 9) ∷ []

abbrev lines_of_first : LeafNode → Acts → List ℕ
lines_of_first srv turns = lines_after (asked srv) (submitted srv) 1 turns

all_served : all_resting (world_after (asked together) (submitted together) (after 1 2)) ≡ true ∷ true ∷ true ∷ []
all_served = refl

all_served_back : all_resting (world_after (asked together) (submitted together) (after 2 1)) ≡ true ∷ true ∷ true ∷ []
all_served_back = refl

-- a race: who is served second is given a greater number
first_of_two : lines_of_first together (after 1 2) ≡ codes "[init -> a] 1" ++ 10 ∷ []
unfolding digits
first_of_two = refl

second_of_two : lines_of_first together (after 2 1) ≡ codes "[init -> a] 2" ++ 10 ∷ []
unfolding digits
second_of_two = refl

-- with numbers of its own each client is answered the same
first_apart : lines_of_first apart (after 1 2) ≡ codes "[init -> a] 1" ++ 10 ∷ []
unfolding digits
first_apart = refl

second_apart : lines_of_first apart (after 2 1) ≡ codes "[init -> a] 1" ++ 10 ∷ []
unfolding digits
second_apart = refl

-- and in the end the accounts are the same
abbrev accounts_after : LeafNode → Acts → List ℕ
accounts_after srv turns = account_lines 1 (accounts (asked srv) (world_after (asked srv) (submitted srv) turns) [])

same_accounts : accounts_after apart (after 1 2) ≡ accounts_after apart (after 2 1)
unfolding digits
same_accounts = refl
