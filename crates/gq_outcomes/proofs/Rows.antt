-- The outcomes of small scenarios, by computation.
use Rattle.std.proofs.Common.{◌≡◌, ℕ, true, false, List, [], ◌∷◌, ◌++◌, codes, length, option_map, None, Some, Ok, refl}
use Rattle.std.specs.Fmt.{digits}
use Rattle.gq_model.specs.declared.act.Act.TheVariants.{Turns}
use Rattle.gq_model.specs.declared.program.Instruction.{Instruction}
use Rattle.gq_model.specs.declared.program.Instruction.TheVariants.{Out, MakePool, Take, Give, Open, Call, Close}
use Rattle.gq_model.specs.declared.program.OperandSlot.TheVariants.{Own}
use Rattle.gq_model.specs.declared.section.Section.TheVariants.{Main, Opening, Calling, Closing}
use Rattle.gq_tariff.specs.declared.amount.Resource.TheVariants.{Ram}
use Rattle.gq_model.specs.machine.Amounts.{amount}
use Rattle.gq_model.specs.machine.Program.{Done}
use Rattle.gq_model.specs.machine.Run.{run}
use Rattle.gq_model.specs.machine.Scenario.{Scenario, Interface, LeafNode, components, system}
use Rattle.gq_model.specs.machine.World.{World}
use Rattle.gq_model.specs.texts.Turns.{turned}
use Rattle.gq_model.proofs.Sample_scenarios.{all_do, leaf, leaves, served, server, main_of, echo_of, chain}
use Rattle.gq_model.proofs.Statement_word_rows.{push}
use Rattle.gq_races.proofs.Race_rows.{together, apart, two, relayed_once, relayed_twice, behind_two}
use Rattle.gq_outcomes.specs.Choices.{racy_servers}
use Rattle.gq_outcomes.specs.Laws.{turns_alone}
use Rattle.gq_outcomes.specs.Outcomes.{most_turns, outcomes, search_of}
use Rattle.gq_outcomes.specs.Same.{ordered, same_world}
use Rattle.gq_outcomes.specs.Text.{many_lines, nth_outcome, onto_row, search_text, turns_text}

-- RACY SERVERS

racy_together : racy_servers (system (two together)) ≡ true ∷ false ∷ false ∷ []
racy_together = refl

-- a shared server with no race, and none behind it
racy_apart : racy_servers (system (two apart)) ≡ false ∷ false ∷ false ∷ []
racy_apart = refl

-- no server is shared
racy_relayed_once : racy_servers (system relayed_once) ≡ false ∷ false ∷ false ∷ []
racy_relayed_once = refl

-- the server in the middle is shared and calls by its own link; the one behind it has it as its only opener
racy_relayed_twice : racy_servers (system relayed_twice) ≡ false ∷ true ∷ false ∷ false ∷ []
racy_relayed_twice = refl

racy_behind_two : racy_servers (system behind_two) ≡ true ∷ false ∷ false ∷ false ∷ []
racy_behind_two = refl

-- ONE OUTCOME

echo_outcomes : search_text (outcomes (echo_of 8192))
    ≡ (codes "outcome 1 after 15 turns\n[init -> cli] 42\naccount init quota 61440\naccount init -> srv quota 4096 used 0 steps 9/9 serving\n"
    ++ codes "account init -> cli quota 0 used 0 steps 6/6 exited\n1 outcome\n")
unfolding digits outcomes most_turns
echo_outcomes = refl

chain_outcomes : search_text (outcomes chain)
    ≡ (codes "outcome 1 after 22 turns\n[init -> cli] 42\naccount init quota 53248\naccount init -> srv quota 12288 used 4096 steps 7/7 serving\n"
    ++ codes "account init -> mid quota 0 used 0 steps 9/9 serving\naccount init -> cli quota 0 used 0 steps 6/6 exited\n1 outcome\n")
unfolding digits outcomes most_turns
chain_outcomes = refl

-- TWO OUTCOMES

abbrev pooling : Interface
pooling = record { arg = 3; reply = 3; need = amount 32768 0; object = 0; upgrades = []; buffer = 0; counted = Ram ∷ [] }

-- the first to take the entry is answered 1, and leaves it taken
abbrev pooled : List Instruction → LeafNode
pooled calling =
    server (codes "a") 4194304 (codes "a") ((Main, all_do (MakePool (Own 0) 2 4 ∷ [])) ∷ (Opening, Done) ∷ (Calling 0, all_do calling) ∷ (Closing 0, Done) ∷ [])

abbrev k0 : LeafNode
k0 = leaf (codes "k0") 4194304 (main_of (Open (Own 2) (codes "a") 32768 ∷ push 0 ∷ Call (Own 2) ∷ Out ∷ Close (Own 2) ∷ []))

abbrev k1 : LeafNode
k1 =
    leaf (codes "k1") 4194304 (main_of (Open (Own 2) (codes "a") 32768 ∷ push 0 ∷ Call (Own 2) ∷ Out ∷ push 1 ∷ Call (Own 2) ∷ Out ∷ push 1 ∷ Call (Own 2)
    ∷ Out ∷ Close (Own 2) ∷ []))

abbrev taking_turns : Scenario
taking_turns =
    record (served ((codes "a", pooling) ∷ []) (leaves (k0 ∷ k1 ∷ pooled (Take (Own 0) ∷ Give (Own 0) ∷ []) ∷ []))) { total = amount 67108864 0 }

pooled_outcomes : search_text (outcomes taking_turns)
    ≡ (codes "outcome 1 after 44 turns\n[init -> k0] 0\n[init -> k1] 1\n[init -> k1] 1\n[init -> k1] 1\naccount init quota 62914560\n"
    ++ codes "account init -> k0 quota 0 used 0 steps 6/6 exited\naccount init -> k1 quota 0 used 0 steps 12/12 exited\n"
    ++ codes "account init -> a quota 4194304 used 8192 steps 26/26 serving\n"
    ++ codes "outcome 2 after 44 turns\n[init -> k0] 1\n[init -> k1] 0\n[init -> k1] 1\n[init -> k1] 1\naccount init quota 62914560\n"
    ++ codes "account init -> k0 quota 0 used 0 steps 6/6 exited\naccount init -> k1 quota 0 used 0 steps 12/12 exited\n"
    ++ codes "account init -> a quota 4194304 used 8192 steps 26/26 serving\n2 outcomes\n")
unfolding digits outcomes most_turns
pooled_outcomes = refl

-- the turns that lead to the second one
second_turns : option_map (turns_text (components taking_turns)) (nth_outcome 2 (outcomes taking_turns).found)
    ≡ Some (codes "a 2\nk0 1\na 2\nk0 1\nk1 1\na 2\nk1 2\na 4\nk1 2\nk0 1\na 4\nk0 2\na 2\nk0 1\nk1 1\na 4\nk1 3\na 4\nk1 2\na 2\nk1 1\n")
unfolding digits outcomes most_turns
second_turns = refl

-- there is no third one, and none before the first
no_third : nth_outcome 3 (outcomes taking_turns).found ≡ None
unfolding digits outcomes most_turns
no_third = refl

none_before : nth_outcome 0 (outcomes taking_turns).found ≡ None
unfolding digits outcomes most_turns
none_before = refl

-- the text of the second one is read back
second_list : option_map (λ o. turned taking_turns (turns_text (components taking_turns) o)) (nth_outcome 2 (outcomes taking_turns).found)
    ≡ Some (Ok (turns_alone ((2, 2) ∷ (0, 1) ∷ (2, 2) ∷ (0, 1) ∷ (1, 1) ∷ (2, 2) ∷ (1, 2) ∷ (2, 4) ∷ (1, 2) ∷ (0, 1) ∷ (2, 4) ∷ (0, 2) ∷ (2, 2) ∷ (0, 1)
    ∷ (1, 1) ∷ (2, 4) ∷ (1, 3) ∷ (2, 4) ∷ (1, 2) ∷ (2, 2) ∷ (1, 1) ∷ [])))
unfolding digits outcomes most_turns
second_list = refl

-- a row of eight digits is parted
row_full : onto_row 2 ((2, 9999998) ∷ (0, 1) ∷ []) ≡ (2, 9999999) ∷ (0, 1) ∷ []
row_full = refl

row_parted : onto_row 2 ((2, 9999999) ∷ (0, 1) ∷ []) ≡ (2, 1) ∷ (2, 9999999) ∷ (0, 1) ∷ []
row_parted = refl

-- more turns than a list may have, of which a reader of lists knows nothing
as_many : many_lines 1000000 ≡ []
as_many = refl

too_many : many_lines 1000001 ≡ codes "# 1000001 turns, more than a list may have" ∷ []
unfolding digits
too_many = refl

no_turns_there : turned taking_turns (codes "# 1000001 turns, more than a list may have\nk1 3\n") ≡ Ok ((1, Turns 3) ∷ [])
no_turns_there = refl

-- CUT

-- with as many turns as the first outcome takes, that one is found, and more turns are wanted
found_one : length (search_of 44 taking_turns).found ≡ 1
found_one = refl

cut_behind : (search_of 44 taking_turns).cut ≡ true
cut_behind = refl

found_none : length (search_of 43 taking_turns).found ≡ 0
found_none = refl

-- with as many as there are, it is not cut
not_cut : (outcomes taking_turns).cut ≡ false
unfolding digits outcomes most_turns
not_cut = refl

-- THE SAME WORLD

-- two clients of a server open their sessions, one after the other
abbrev opened : ℕ → ℕ → World
opened x y = (run (system (two apart)) ((0, Turns 9) ∷ (x, Turns 1) ∷ (0, Turns 9) ∷ (y, Turns 1) ∷ (0, Turns 9) ∷ [])).world

-- the sessions have other numbers, and the world is the same but for these
other_numbers : same_world (opened 1 2) (opened 2 1) ≡ false
other_numbers = refl

same_opened : same_world (ordered (opened 1 2)) (ordered (opened 2 1)) ≡ true
same_opened = refl

-- a further turn makes it another one
other_opened : same_world (ordered (opened 1 2)) (ordered (opened 1 1)) ≡ false
other_opened = refl
