-- The statements by which the outcome of a scenario could depend on the turns, on when inputs are set and on when signals are submitted, as text.
use Rattle.std.specs.Prelude.{ℕ, suc, if◌then◌else◌, ◌||◌, Bool, List, [], ◌∷◌, ◌++◌, map, codes, decimal, Option, Some, None}
use Rattle.gq_model.specs.declared.program.Instruction.{Instruction}
use Rattle.gq_model.specs.declared.section.Section.{Section}
use Rattle.gq_model.specs.machine.Program.{Statements}
use Rattle.gq_model.specs.machine.Scenario.{Scenario, System, Component, system}
use Rattle.gq_model.specs.machine.Sections.{section_word}
use Rattle.gq_views.specs.Listing.{instruction_text, joined}
use Rattle.gq_races.specs.Races.{Stated, writes_line, reads_input, is_race, is_input, is_order, is_reaction, is_shared, for_several, found_in}
use Rattle.gq_races.specs.Races.{each_stated, stated_of, openers}

-- a statement of which a line is written: a race, an input or an order
abbrev pub has_effect : Bool → Instruction → Bool
has_effect several i = is_race several i || is_input several i || is_order several i

-- a statement by which several threads can report of one another: a race or an order
abbrev pub is_conflict : Bool → Instruction → Bool
is_conflict several i = is_race several i || is_order several i

-- what stands between the first words and the number of a statement
abbrev pub prefix_of : List ℕ → Section → List ℕ
prefix_of leaf section = leaf ++ codes " in " ++ section_word section ++ codes " at "

abbrev pub place_text : Stated → List ℕ
place_text r = prefix_of r.leaf r.section ++ decimal r.place

-- of these an order writes a line, an input reads an input, and a race does neither
abbrev pub word_of : Instruction → List ℕ
word_of i = if writes_line i then codes "order " else if reads_input i then codes "input " else codes "race "

abbrev pub effect_text : Stated → List ℕ
effect_text r = word_of r.statement ++ place_text r ++ codes " " ++ instruction_text r.statement

abbrev pub opened_text : Stated → List ℕ
opened_text r = codes "  opened by " ++ place_text r

abbrev pub service_text : Option (List ℕ) → List ℕ
service_text None = []
service_text (Some service) = codes " " ++ service

abbrev pub shared_text : Component → List ℕ
shared_text c = codes "shared " ++ c.label ++ service_text c.node.provides

abbrev pub reaction_text : List ℕ → Section → List ℕ
reaction_text leaf section = codes "signal " ++ leaf ++ codes " in " ++ section_word section

-- the line of a section, if a signal begins it
abbrev pub reaction_lines : List ℕ → Section → List (List ℕ)
reaction_lines leaf section = if is_reaction section then reaction_text leaf section ∷ [] else []

-- what stands before a leaf's lines, if there are conflicts in it: the leaf, and where sessions with it are opened
abbrev pub sharing_lines : Component → List Stated → List Stated → List (List ℕ)
sharing_lines c openers [] = []
sharing_lines c openers (r ∷ rest) = shared_text c ∷ map opened_text openers

-- the line of a section, and those of its races, inputs and orders
abbrev pub section_lines : Bool → List ℕ → Section → Statements → List (List ℕ)
section_lines shared leaf section body =
    reaction_lines leaf section ++ map effect_text (each_stated leaf section (found_in (has_effect (for_several shared section)) 1 body))

abbrev pub sections_lines : Bool → List ℕ → List (Section × Statements) → List (List ℕ)
sections_lines shared leaf [] = []
sections_lines shared leaf (p ∷ rest) = section_lines shared leaf p.0 p.1 ++ sections_lines shared leaf rest

-- a leaf's lines; one that is not shared has no conflicts
abbrev pub leaf_lines : System → ℕ → Component → List (List ℕ)
leaf_lines system x c =
    let shared = is_shared system x in
    sharing_lines c (openers system x) (stated_of is_conflict shared c) ++ sections_lines shared c.label c.node.program.sections

-- of all leaves from the x-th on
abbrev pub lines_from : System → ℕ → List Component → List (List ℕ)
lines_from system x [] = []
lines_from system x (c ∷ rest) = leaf_lines system x c ++ lines_from system (suc x) rest

-- each on a line of its own
abbrev pub races_text : Scenario → List ℕ
races_text s = let all = system s in joined (lines_from all 0 all.components)
