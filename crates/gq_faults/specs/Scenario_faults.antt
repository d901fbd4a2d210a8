-- All faults of a scenario that was read that are reported at once: those of the first stage that has any.
use Rattle.std.specs.Prelude.{ℕ, suc, nat_le, not, List, [], ◌∷◌, ◌++◌, length, map, codes}
use Rattle.gq_model.specs.machine.Amounts.{Resource, Ram, Caps, part}
use Rattle.gq_model.specs.machine.Routes.{route}
use Rattle.gq_model.specs.machine.Scenario.{Scenario, Interfaces, Offers, Nodes, End, Leaf_node, Init_node, Component, System, components, system}
use Rattle.gq_model.specs.rules.Accept.{Refusal, Not_resolved, Over_own, Over_steps, Budget, are_small, bad_program, budgets}
use Rattle.gq_model.specs.rules.Resolve.{Unresolved, Bad_offer, Bad_after, Cycle, exceeds, is_offer, is_bad_after, with_name, unrouted}
use Rattle.gq_model.specs.rules.Use.{services, reaches, subject}
use Rattle.gq_model.specs.rules.Verdict.{program_fault}
use Rattle.gq_resolve.specs.Served.{once}
use Rattle.gq_load.specs.Load.{LoadRefusal, Refused_for, source_fault}
use Rattle.gq_faults.specs.Found_lists.{listed_if, when, all_found, or_else}

-- PROGRAMS

-- the first fault of each text and code
abbrev pub sources_faults : List Component → List LoadRefusal
sources_faults = all_found (λ c. listed_if (source_fault c.node.name c.node.source))

-- the rule that each program breaks first
abbrev pub rules_faults : System → List Component → List Refusal
rules_faults all = all_found (λ c. listed_if (bad_program c.node.name (program_fault (subject all c))))

-- ROUTES AND THE LIKE

-- each of these inits in preorder that hands out more of a resource than it has
abbrev pub all_exceeding : Resource → Nodes → List Unresolved
all_exceeding r End = []
all_exceeding r (Leaf_node node rest) = all_exceeding r rest
all_exceeding r (Init_node node children rest) =
    listed_if (exceeds r node.name node.quantum children) ++ all_exceeding r children ++ all_exceeding r rest

abbrev pub quanta_faults : Resource → Scenario → List Unresolved
quanta_faults r s = listed_if (exceeds r (codes "init") s.total s.nodes) ++ all_exceeding r s.nodes

-- each of an init's offers that is none
abbrev pub offers_bad : Interfaces → List ℕ → Nodes → Offers → List Unresolved
offers_bad interfaces name children = all_found (λ o. when (not (is_offer interfaces children o.0 o.1)) (Bad_offer name))

-- the same of each of these inits in preorder
abbrev pub all_bad_offers : Interfaces → Nodes → List Unresolved
all_bad_offers interfaces End = []
all_bad_offers interfaces (Leaf_node node rest) = all_bad_offers interfaces rest
all_bad_offers interfaces (Init_node node children rest) =
    offers_bad interfaces node.name children node.offers ++ all_bad_offers interfaces children ++ all_bad_offers interfaces rest

-- each leaf that may not start after the one that it names
abbrev pub after_faults : List Component → List (List ℕ) → List Component → List Unresolved
after_faults all earlier [] = []
after_faults all earlier (c ∷ rest) =
    when (is_bad_after all earlier c c.node.after) (Bad_after c.node.name) ++ after_faults all (with_name c.node.after earlier) rest

-- each of these services of a leaf that leads nowhere
abbrev pub services_lost : Component → List (List ℕ) → List Unresolved
services_lost c = all_found (λ service. listed_if (unrouted c service (route c.levels service)))

-- each service of each leaf that does, reported once
abbrev pub routes_lost : List Component → List Unresolved
routes_lost = all_found (λ c. services_lost c (once (services c)))

-- each leaf from the x-th on that reaches itself by the services that lead somewhere
abbrev pub cycles : System → ℕ → List Component → List Unresolved
cycles all x [] = []
cycles all x (c ∷ rest) = when (reaches (length all.components) all x x) (Cycle c.node.name) ++ cycles all (suc x) rest

abbrev pub unresolved_all : Scenario → List Unresolved
unresolved_all s =
    let all = system s in
    quanta_faults Ram s ++ quanta_faults Caps s ++ all_bad_offers s.interfaces s.nodes ++ after_faults all.components [] all.components
    ++ routes_lost all.components ++ cycles all 0 all.components

-- BUDGETS

-- each leaf whose own budget is above its quantum
abbrev pub over_own : Resource → List Component → List Budget → List Refusal
over_own r (c ∷ rest) (b ∷ others) =
    let own = part r b.own in
    let quantum = part r c.node.quantum in
    when (not (nat_le own quantum)) (Over_own r c.node.name own quantum) ++ over_own r rest others
over_own r [] others = []
over_own r (c ∷ rest) [] = []

-- each leaf with a greater budget of steps than there is, for the start or for a signal
abbrev pub over_steps : List Component → List Budget → List Refusal
over_steps (c ∷ rest) (b ∷ others) = when (not (are_small b.steps)) (Over_steps c.node.name) ++ over_steps rest others
over_steps [] others = []
over_steps (c ∷ rest) [] = []

abbrev pub over_budgets : List Component → List Budget → List Refusal
over_budgets all used = over_own Ram all used ++ over_steps all used ++ over_own Caps all used

-- STAGES

-- the faults of a scenario whose programs break no rule
abbrev pub rest_faults : Scenario → List Refusal
rest_faults s = or_else (map Not_resolved (unresolved_all s)) (over_budgets (components s) (budgets s))

-- the faults of a scenario that was read
abbrev pub scenario_faults : Scenario → List LoadRefusal
scenario_faults s = or_else (sources_faults (components s)) (map Refused_for (or_else (rules_faults (system s) (components s)) (rest_faults s)))
