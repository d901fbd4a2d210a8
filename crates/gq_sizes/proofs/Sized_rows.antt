-- Worked texts of least quantities, by computation.
use Rattle.std.proofs.Common.{◌≡◌, ◌++◌, true, [], ◌∷◌, Some, List, ℕ, refl}
use Rattle.std.specs.Prelude.{codes}
use Rattle.std.specs.Fmt.{digits}
use Rattle.gq_model.specs.machine.Amounts.{Ram, Caps, amount}
use Rattle.gq_model.specs.declared.program.Instruction.{Instruction}
use Rattle.gq_model.specs.declared.program.Instruction.TheVariants.{Make, Open, Close}
use Rattle.gq_model.specs.declared.program.Form.TheVariants.{Slice}
use Rattle.gq_model.specs.declared.program.OperandSlot.TheVariants.{Own, Shared}
use Rattle.gq_model.specs.declared.section.Section.TheVariants.{Main, Opening, Upgrading, Calling, Closing}
use Rattle.gq_model.specs.machine.Program.{Done}
use Rattle.gq_model.specs.machine.Scenario.{Scenario, Interface, Any_child, LeafNode, Nodes, End, Init_node, system}
use Rattle.gq_model.proofs.Sample_scenarios.{all_do, any_to, init_node, leaf, leaves, main_of, server}
use Rattle.gq_scenario.specs.Without_quantities.{unsized}
use Rattle.gq_sizes.specs.Endless.{is_endless}
use Rattle.gq_sizes.specs.Size_text.{size_text}

-- an interface whose sessions need nothing of their own but an object
abbrev plain : ℕ → ℕ → Interface
plain ram caps = record { arg = 1; reply = 1; need = amount ram caps; object = 0; upgrades = []; buffer = 0; counted = Ram ∷ Caps ∷ [] }

-- a server that does this when it is opened, called and closed
abbrev serving : List ℕ → List ℕ → List Instruction → List Instruction → List Instruction → LeafNode
serving name service opening calling closing =
    server name 0 service ((Main, Done) ∷ (Opening, all_do opening) ∷ (Calling 0, all_do calling) ∷ (Closing 0, all_do closing) ∷ [])

abbrev group : List ℕ → List LeafNode → Nodes → Nodes
group name members rest = Init_node (record (init_node name 409600) { default_routes = any_to Any_child }) (leaves members) rest

abbrev pair : Nodes → Scenario
pair nodes =
    record {
      version = 2;
      total = amount 1048576 100;
      default_routes = any_to Any_child;
      interfaces = (codes "i", plain 65536 9) ∷ (codes "j", plain 32768 5) ∷ [];
      nodes = nodes;
    }

abbrev idle : List ℕ → List ℕ → LeafNode
idle name service = serving name service [] [] []

-- a session of i holds one of j for a while, and a session of j holds one of i as long as it is open
abbrev for_a_while : Scenario
for_a_while =
    pair (group (codes "g1")
    (serving (codes "a") (codes "i") [] (Open (Shared 7) (codes "j") 32768 ∷ Close (Shared 7) ∷ []) [] ∷ idle (codes "b") (codes "j") ∷ [])
    (group (codes "g2")
    (serving (codes "c") (codes "j") (Open (Shared 0) (codes "i") 65536 ∷ []) [] (Close (Shared 0) ∷ []) ∷ idle (codes "d") (codes "i") ∷ []) End))

endless_for_a_while : is_endless (system (unsized for_a_while)) (codes "i") 0 ≡ true
endless_for_a_while = refl

text_for_a_while : size_text for_a_while ≡ codes "size i need 65536 least 36864 caps 9 least none\n"
    ++ codes "size j need 32768 least 69632 caps 5 least none\n"
    ++ codes "short init -> g1 -> a in call 0 at 1 gives 32768 least 69632\n"
    ++ codes "size init quantum 1048576 least 4096 caps 100 least 1\n"
    ++ codes "size init -> g1 quantum 409600 least 0 caps 0 least 0\n"
    ++ codes "size init -> g1 -> a quantum 0 least 0 caps 0 least 0\n"
    ++ codes "size init -> g1 -> b quantum 0 least 0 caps 0 least 0\n"
    ++ codes "size init -> g2 quantum 409600 least 0 caps 0 least 0\n"
    ++ codes "size init -> g2 -> c quantum 0 least 0 caps 0 least 0\n"
    ++ codes "size init -> g2 -> d quantum 0 least 0 caps 0 least 0\n"
unfolding digits
text_for_a_while = refl

-- leaves of which one starts after another, and alone has a link to a session that goes on without end
abbrev chained : Scenario
chained =
    pair (group (codes "g1") (serving (codes "a") (codes "i") (Open (Shared 0) (codes "j") 69632 ∷ []) [] (Close (Shared 0) ∷ []) ∷ [])
    (group (codes "g2") (serving (codes "c") (codes "j") (Open (Shared 0) (codes "i") 73728 ∷ []) [] (Close (Shared 0) ∷ []) ∷ [])
    (group (codes "g3") (leaf (codes "first") 90112 (main_of (Make Slice (Own 0) 1 ∷ []))
    ∷ record (leaf (codes "then") 81920 (main_of (Open (Own 9) (codes "i") 65536 ∷ Close (Own 9) ∷ []))) { after = Some (codes "first") }
    ∷ leaf (codes "other") 4096 (main_of (Make Slice (Own 0) 1 ∷ [])) ∷ []) End)))

text_chained : size_text chained ≡ codes "size i need 65536 least 73728 caps 9 least none\n"
    ++ codes "size j need 32768 least 77824 caps 5 least none\n"
    ++ codes "short init -> g1 -> a in open at 1 gives 69632 least 77824\n"
    ++ codes "short init -> g3 -> then in main at 1 gives 65536 least 73728\n"
    ++ codes "size init quantum 1048576 least 69632 caps 100 least none\n"
    ++ codes "size init -> g1 quantum 409600 least 0 caps 0 least 0\n"
    ++ codes "size init -> g1 -> a quantum 0 least 0 caps 0 least 0\n"
    ++ codes "size init -> g2 quantum 409600 least 0 caps 0 least 0\n"
    ++ codes "size init -> g2 -> c quantum 0 least 0 caps 0 least 0\n"
    ++ codes "size init -> g3 quantum 409600 least 69632 caps 0 least none\n"
    ++ codes "size init -> g3 -> first quantum 90112 least 65536 caps 0 least none\n"
    ++ codes "size init -> g3 -> then quantum 81920 least 65536 caps 0 least none\n"
    ++ codes "size init -> g3 -> other quantum 4096 least 4096 caps 0 least 1\n"
unfolding digits
text_chained = refl

-- in version 1 nothing is counted but bytes
text_of_bytes : size_text (record for_a_while { version = 1 }) ≡ codes "size i need 65536 least 36864\n"
    ++ codes "size j need 32768 least 69632\n"
    ++ codes "short init -> g1 -> a in call 0 at 1 gives 32768 least 69632\n"
    ++ codes "size init quantum 1048576 least 4096\n"
    ++ codes "size init -> g1 quantum 409600 least 0\n"
    ++ codes "size init -> g1 -> a quantum 0 least 0\n"
    ++ codes "size init -> g1 -> b quantum 0 least 0\n"
    ++ codes "size init -> g2 quantum 409600 least 0\n"
    ++ codes "size init -> g2 -> c quantum 0 least 0\n"
    ++ codes "size init -> g2 -> d quantum 0 least 0\n"
unfolding digits
text_of_bytes = refl

-- a server of i whose sessions hold one of j from the first upgrade on, or from the start
abbrev upgraded : List ℕ → List Instruction → List Instruction → List Instruction → List Instruction → LeafNode
upgraded name opening up closing closing_up =
    server name 0 (codes "i") ((Main, Done) ∷ (Opening, all_do opening) ∷ (Upgrading 1, all_do up) ∷ (Calling 0, Done) ∷ (Calling 1, Done)
    ∷ (Closing 0, all_do closing) ∷ (Closing 1, all_do closing_up) ∷ [])

abbrev by_level : List LeafNode → Scenario
by_level members =
    record {
      version = 2;
      total = amount 1048576 50;
      default_routes = any_to Any_child;
      interfaces = (codes "i", record (plain 4096 1) { upgrades = amount 8192 2 ∷ [] }) ∷ (codes "j", plain 8192 2) ∷ [];
      nodes = leaves members;
    }

abbrev of_j : LeafNode
of_j = serving (codes "c") (codes "j") (Open (Shared 0) (codes "i") 4096 ∷ []) [] (Close (Shared 0) ∷ [])

-- a session of j holds one of i at its first level, which holds none, so all chains end
abbrev level_two : Scenario
level_two =
    by_level (upgraded (codes "a") [] (Open (Shared 0) (codes "j") 8192 ∷ []) [] (Close (Shared 0) ∷ []) ∷ upgraded (codes "b") [] [] [] [] ∷ of_j ∷ [])

text_of_two : size_text level_two ≡ codes "size i need 4096 least 4096 caps 1 least 1\n"
    ++ codes "size i upgrade 1 8192 least 8192 caps 2 least 2\n"
    ++ codes "size j need 8192 least 8192 caps 2 least 2\n"
    ++ codes "size init quantum 1048576 least 4096 caps 50 least 1\n"
    ++ codes "size init -> a quantum 0 least 0 caps 0 least 0\n"
    ++ codes "size init -> b quantum 0 least 0 caps 0 least 0\n"
    ++ codes "size init -> c quantum 0 least 0 caps 0 least 0\n"
unfolding digits
text_of_two = refl

-- where it holds one from the start, neither of the two ends
abbrev level_one : Scenario
level_one =
    by_level (upgraded (codes "a") (Open (Shared 0) (codes "j") 8192 ∷ []) [] (Close (Shared 0) ∷ []) (Close (Shared 0) ∷ [])
    ∷ upgraded (codes "b") [] [] [] [] ∷ of_j ∷ [])

pub text_of_one : size_text level_one ≡ codes "size i need 4096 least 12288 caps 1 least none\n"
    ++ codes "size i upgrade 1 8192 least 0 caps 2 least none\n"
    ++ codes "size j need 8192 least 8192 caps 2 least none\n"
    ++ codes "short init -> c in open at 1 gives 4096 least 12288\n"
    ++ codes "size init quantum 1048576 least 4096 caps 50 least 1\n"
    ++ codes "size init -> a quantum 0 least 0 caps 0 least 0\n"
    ++ codes "size init -> b quantum 0 least 0 caps 0 least 0\n"
    ++ codes "size init -> c quantum 0 least 0 caps 0 least 0\n"
unfolding digits
text_of_one = refl
