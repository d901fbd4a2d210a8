-- The first wrong step of worked runs, with its leaf, by computation.
use Rattle.std.proofs.Common.{◌≡◌, ℕ, [], ◌∷◌, Option, Some, None, refl}
use Rattle.std.specs.Prelude.{codes}
use Rattle.std.specs.Fmt.{digits}
use Rattle.gq_model.specs.machine.Program.{Own, Space, Make, Multiply, Done, Out}
use Rattle.gq_model.specs.machine.Sections.{Main, Opening, Calling}
use Rattle.gq_model.specs.machine.Scenario.{Scenario, system}
use Rattle.gq_model.specs.machine.Doing.{Wrong, MissingOperand, WrongKind, ExceededQuota, MissingSection}
use Rattle.gq_model.specs.machine.Run.{run}
use Rattle.gq_model.proofs.Sample_scenarios.{one, all_do, served, leaves, server, echo, echo_client, echo_turns, echo_of, log_of, two_blocks}
use Rattle.gq_model.proofs.Statement_word_rows.{combine, push}
use Rattle.gq_model.specs.machine.Run.{Turns, Acts}

abbrev first_wrong : Scenario → Acts → Option (ℕ × Wrong)
first_wrong s turns = (run (system s) turns).wrong

space_too_large : first_wrong (one 65536 4096 (Make Space (Own 0) 4097 ∷ [])) ((0, Turns 1) ∷ []) ≡ Some (0, ExceededQuota)
space_too_large = refl

no_operand : first_wrong (one 65536 4096 (Out ∷ [])) ((0, Turns 1) ∷ []) ≡ Some (0, MissingOperand)
no_operand = refl

-- the second class of blocks needs a second capability
no_capability : first_wrong two_blocks ((0, Turns 1) ∷ []) ≡ None
no_capability = refl

no_second_capability : first_wrong two_blocks ((0, Turns 2) ∷ []) ≡ Some (0, ExceededQuota)
no_second_capability = refl

-- the second step of the third item: `open` ends without the buffer
no_buffer : (first_wrong (log_of []) ((0, Turns 1) ∷ (1, Turns 1) ∷ (0, Turns 1) ∷ []) ≡ None)
    × (first_wrong (log_of []) ((0, Turns 1) ∷ (1, Turns 1) ∷ (0, Turns 2) ∷ []) ≡ Some (0, WrongKind))
no_buffer = (refl, refl)

-- a server without `close 0`: the line is written, then the close is wrong
abbrev not_closing : Scenario
not_closing =
    served ((codes "echo", echo) ∷ []) (leaves (server (codes "srv") 4096 (codes "echo")
    ((Main, Done) ∷ (Opening, Done) ∷ (Calling 0, all_do (push 2 ∷ combine Multiply ∷ [])) ∷ [])
    ∷ echo_client (codes "cli") 16384 8192 21 ∷ []))

no_section : first_wrong not_closing echo_turns ≡ Some (0, MissingSection)
no_section = refl

no_section_text : (run (system not_closing) echo_turns).text ≡ codes "[init -> cli] 42\n"
unfolding digits
no_section_text = refl

short_donation : first_wrong (echo_of 8191) echo_turns ≡ None
short_donation = refl
