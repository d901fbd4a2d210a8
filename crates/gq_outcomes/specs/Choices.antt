-- Servers by whose requests the outcome could depend on the turns, and the leaves that would make such a request.
use Rattle.std.specs.Prelude.{ℕ, suc, Bool, true, false, ◌&&◌, ◌||◌, not, if◌then◌else◌, List, [], ◌∷◌, length, Option, Some, None}
use Rattle.std.specs.Prelude.{slice_get, get_or}
use Rattle.gq_model.specs.declared.program.Instruction.{Instruction}
use Rattle.gq_model.specs.declared.program.Instruction.TheVariants.{Open, Upgrade, Call, Close}
use Rattle.gq_model.specs.declared.program.OperandSlot.{OperandSlot}
use Rattle.gq_model.specs.machine.Program.{Statements, Done, Do, If, Loop}
use Rattle.gq_model.specs.machine.Scenario.{System, Component}
use Rattle.gq_model.specs.machine.Routes.{server_of}
use Rattle.gq_model.specs.machine.World.{Slot, Link, SlotId, Session, Leaf, World, session_at, slot_at, slot_id_of}
use Rattle.gq_model.specs.rules.Use.{reaches}
use Rattle.gq_model.specs.machine.Rest.{can_run}
use Rattle.gq_races.specs.Races.{Stated, is_race, is_shared, stated_of}

-- RACY SERVERS

abbrev pub are_some : List Stated → Bool
are_some [] = false
are_some (r ∷ rest) = true

-- a leaf, which is shared or not, has a race
abbrev pub races_at : Bool → Option Component → Bool
races_at shared None = false
races_at shared (Some c) = are_some (stated_of is_race shared c)

abbrev pub has_race : System → ℕ → Bool
has_race system x = races_at (is_shared system x) (slice_get system.components x)

-- its uses lead, over any number of leaves, to one of these that has a race; the first of these is the y-th
abbrev pub leads_to_race : System → ℕ → ℕ → List Component → Bool
leads_to_race system x y [] = false
leads_to_race system x y (c ∷ rest) =
    reaches (length system.components) system y x && has_race system y || leads_to_race system x (suc y) rest

-- a shared server is racy if it has a race, or if its uses lead to a server that has one
abbrev pub is_racy : System → ℕ → Bool
is_racy system x = is_shared system x && (has_race system x || leads_to_race system x 0 system.components)

-- whether each of these leaves is racy, of which the first is the x-th
abbrev pub racy_from : System → ℕ → List Component → List Bool
racy_from system x [] = []
racy_from system x (c ∷ rest) = is_racy system x ∷ racy_from system (suc x) rest

abbrev pub racy_servers : System → List Bool
racy_servers system = racy_from system 0 system.components

-- CHOICES

-- the leaf that is found is racy
abbrev pub is_one_of : List Bool → Option ℕ → Bool
is_one_of racy None = false
is_one_of racy (Some x) = get_or racy x false

-- the server of a session
abbrev pub server_in : Option Session → Option ℕ
server_in None = None
server_in (Some s) = Some s.server

-- the server of the session behind a link
abbrev pub server_behind : World → Option Slot → Option ℕ
server_behind w (Some (Link k)) = server_in (session_at w k)
server_behind w _ = None

abbrev pub server_at_slot_id : World → Option SlotId → Option ℕ
server_at_slot_id w None = None
server_at_slot_id w (Some slot_id) = server_behind w (slot_at w slot_id)

-- the server of the session that an operand names
abbrev pub server_at : World → ℕ → Leaf → OperandSlot → Option ℕ
server_at w x leaf place = server_at_slot_id w (slot_id_of x leaf.current place)

-- the server that an instruction makes a request to, if it makes one
abbrev pub asked_by : System → World → ℕ → Component → Leaf → Instruction → Option ℕ
asked_by system w x c leaf (Open place service n) = server_of system c service
asked_by system w x c leaf (Upgrade place n) = server_at w x leaf place
asked_by system w x c leaf (Call place) = server_at w x leaf place
asked_by system w x c leaf (Close place) = server_at w x leaf place
asked_by system w x c leaf _ = None

-- the server that the next statement of a leaf makes a request to
abbrev pub next_asked : System → World → ℕ → Component → Leaf → Statements → Option ℕ
next_asked system w x c leaf (Do i rest) = asked_by system w x c leaf i
next_asked system w x c leaf Done = None
next_asked system w x c leaf (If arm other rest) = None
next_asked system w x c leaf (Loop n body rest) = None

abbrev pub asks_next : System → World → ℕ → Option Component → Option Leaf → Option ℕ
asks_next system w x (Some c) (Some leaf) = next_asked system w x c leaf leaf.todo
asks_next system w x (Some c) None = None
asks_next system w x None leaf = None

-- the next statement of the x-th leaf makes a request to a racy server
abbrev pub asks_racy : System → List Bool → World → ℕ → Bool
asks_racy system racy w x = is_one_of racy (asks_next system w x (slice_get system.components x) (slice_get w.leaves x))

-- the x-th leaf can take a turn, and stands at a choice
abbrev pub is_at_choice : System → List Bool → World → ℕ → Bool
is_at_choice system racy w x = can_run system w x && asks_racy system racy w x

-- it can take a turn that is no choice
abbrev pub can_settle : System → List Bool → World → ℕ → Bool
can_settle system racy w x = can_run system w x && not (asks_racy system racy w x)

-- those of these leaves that stand at a choice, of which the first is the x-th
abbrev pub choices_from : System → List Bool → World → ℕ → List Component → List ℕ
choices_from system racy w x [] = []
choices_from system racy w x (c ∷ rest) =
    if is_at_choice system racy w x then x ∷ choices_from system racy w (suc x) rest else choices_from system racy w (suc x) rest

abbrev pub choices : System → List Bool → World → List ℕ
choices system racy w = choices_from system racy w 0 system.components

-- some leaf from the x-th on can take a turn that is no choice
abbrev pub some_settle : System → List Bool → World → ℕ → List Component → Bool
some_settle system racy w x [] = false
some_settle system racy w x (c ∷ rest) = can_settle system racy w x || some_settle system racy w (suc x) rest

-- no leaf can take a turn but by a choice
abbrev pub is_settled : System → List Bool → World → Bool
is_settled system racy w = not (some_settle system racy w 0 system.components)
