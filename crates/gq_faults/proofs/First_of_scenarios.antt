-- The first of all faults of a scenario that was read is the one that `check` reports.
use Rattle.std.proofs.Common.{◌≡◌, ℕ, suc, Bool, true, false, not, cond, List, [], ◌∷◌, ◌++◌, length, map, Option, Some, None, option_map}
use Rattle.std.proofs.Common.{refl, ap, sym, ◌∙◌}
use Rattle.std.specs.Prelude.{codes, nat_le}
use Rattle.gq_model.specs.machine.Amounts.{Resource, Ram, Caps, part}
use Rattle.gq_model.specs.machine.Lists.{or_first}
use Rattle.gq_model.specs.machine.Routes.{route}
use Rattle.gq_model.specs.machine.Scenario.{Scenario, Interfaces, Offers, Nodes, End, Leaf_node, Init_node, Component, System, components, system}
use Rattle.gq_model.specs.rules.Accept.{Refusal, Over_own, Over_steps, Budget, bad_program, budgets, program_refusal, not_resolved, own_refusal, steps_refusal}
use Rattle.gq_model.specs.rules.Accept.{are_small, refusal, Not_resolved}
use Rattle.gq_model.specs.rules.Resolve.{Unresolved, Bad_offer, Bad_after, Cycle, exceeds, first_exceeding, quanta_fault, is_offer, offers_fault}
use Rattle.gq_model.specs.rules.Resolve.{first_bad_offer, offer_fault, is_bad_after, with_name, after_fault, unrouted, services_fault, routes_fault}
use Rattle.gq_model.specs.rules.Resolve.{cycle_fault, unresolved}
use Rattle.gq_model.specs.rules.Use.{services, reaches, subject}
use Rattle.gq_model.specs.rules.Verdict.{program_fault}
use Rattle.gq_resolve.specs.Served.{once}
use Rattle.gq_resolve.proofs.Each_once.{fault_once}
use Rattle.gq_load.specs.Load.{Refused_for, source_fault, sources_fault, refused, scenario_fault}
use Rattle.gq_faults.specs.Found_lists.{listed_if, all_found, or_else, first}
use Rattle.gq_faults.specs.Scenario_faults.{sources_faults, rules_faults, all_exceeding, quanta_faults, offers_bad, all_bad_offers, after_faults, services_lost}
use Rattle.gq_faults.specs.Scenario_faults.{routes_lost, cycles, unresolved_all, over_own, over_steps, over_budgets, scenario_faults}
use Rattle.gq_faults.proofs.First_fault_found.{first_both, first_when, first_listed, first_else, first_map, or_assoc}

first_of_each : {A B : Type 0} (f : A → Option B) (a : A) (rest : List A) (o : Option B) → first (all_found (λ a. listed_if (f a)) rest) ≡ o
    → first (all_found (λ a. listed_if (f a)) (a ∷ rest)) ≡ or_first (f a) o
first_of_each f a rest o e = first_both (listed_if (f a)) (all_found (λ a. listed_if (f a)) rest) (f a) o (first_listed (f a)) e

flipped : {A : Type 0} (b : Bool) (x : A) (o : Option A) → cond (not b) (Some x) o ≡ cond b o (Some x)
flipped true x o = refl
flipped false x o = refl

-- PROGRAMS

pub first_of_sources : (cs : List Component) → first (sources_faults cs) ≡ sources_fault cs
first_of_sources [] = refl
first_of_sources (c ∷ rest) = first_of_each (λ (c : Component). source_fault c.node.name c.node.source) c rest (sources_fault rest) (first_of_sources rest)

pub first_of_rules : (all : System) (cs : List Component) → first (rules_faults all cs) ≡ program_refusal all cs
first_of_rules all [] = refl
first_of_rules all (c ∷ rest) =
    first_of_each (λ (c : Component). bad_program c.node.name (program_fault (subject all c))) c rest (program_refusal all rest) (first_of_rules all rest)

-- ROUTES AND THE LIKE

first_below : (r : Resource) (nodes : Nodes) → first (all_exceeding r nodes) ≡ first_exceeding r nodes
first_below r End = refl
first_below r (Leaf_node node rest) = first_below r rest
first_below r (Init_node node children rest) =
    let e = exceeds r node.name node.quantum children in
    first_both (listed_if e ++ all_exceeding r children) (all_exceeding r rest) (or_first e (first_exceeding r children)) (first_exceeding r rest)
    (first_both (listed_if e) (all_exceeding r children) e (first_exceeding r children) (first_listed e) (first_below r children)) (first_below r rest)
    ∙ or_assoc e (first_exceeding r children) (first_exceeding r rest)

first_of_quanta : (r : Resource) (s : Scenario) → first (quanta_faults r s) ≡ quanta_fault r s
first_of_quanta r s =
    let e = exceeds r (codes "init") s.total s.nodes in
    first_both (listed_if e) (all_exceeding r s.nodes) e (first_exceeding r s.nodes) (first_listed e) (first_below r s.nodes)

first_of_offers : (interfaces : Interfaces) (name : List ℕ) (children : Nodes) (offers : Offers)
    → first (offers_bad interfaces name children offers) ≡ offers_fault interfaces name children offers
first_of_offers interfaces name children [] = refl
first_of_offers interfaces name children (o ∷ rest) =
    first_when (not (is_offer interfaces children o.0 o.1)) (Bad_offer name) (offers_bad interfaces name children rest)
    (offers_fault interfaces name children rest) (first_of_offers interfaces name children rest)
    ∙ flipped (is_offer interfaces children o.0 o.1) (Bad_offer name) (offers_fault interfaces name children rest)

first_of_bad : (interfaces : Interfaces) (nodes : Nodes) → first (all_bad_offers interfaces nodes) ≡ first_bad_offer interfaces nodes
first_of_bad interfaces End = refl
first_of_bad interfaces (Leaf_node node rest) = first_of_bad interfaces rest
first_of_bad interfaces (Init_node node children rest) =
    let o = offers_fault interfaces node.name children node.offers in
    let b = first_bad_offer interfaces children in
    let r = first_bad_offer interfaces rest in
    first_both (offers_bad interfaces node.name children node.offers ++ all_bad_offers interfaces children) (all_bad_offers interfaces rest) (or_first o b) r
    (first_both (offers_bad interfaces node.name children node.offers) (all_bad_offers interfaces children) o b
    (first_of_offers interfaces node.name children node.offers) (first_of_bad interfaces children)) (first_of_bad interfaces rest)
    ∙ or_assoc o b r

first_of_after : (all : List Component) (earlier : List (List ℕ)) (cs : List Component) → first (after_faults all earlier cs) ≡ after_fault all earlier cs
first_of_after all earlier [] = refl
first_of_after all earlier (c ∷ rest) =
    first_when (is_bad_after all earlier c c.node.after) (Bad_after c.node.name) (after_faults all (with_name c.node.after earlier) rest)
    (after_fault all (with_name c.node.after earlier) rest) (first_of_after all (with_name c.node.after earlier) rest)

first_of_services : (c : Component) (l : List (List ℕ)) → first (services_lost c l) ≡ services_fault c l
first_of_services c [] = refl
first_of_services c (service ∷ rest) =
    first_of_each (λ (service : List ℕ). unrouted c service (route c.levels service)) service rest (services_fault c rest) (first_of_services c rest)

first_of_routes : (cs : List Component) → first (routes_lost cs) ≡ routes_fault cs
first_of_routes [] = refl
first_of_routes (c ∷ rest) =
    first_both (services_lost c (once (services c))) (routes_lost rest) (services_fault c (services c)) (routes_fault rest)
    (first_of_services c (once (services c)) ∙ sym (fault_once c (services c))) (first_of_routes rest)

first_of_cycles : (all : System) (x : ℕ) (cs : List Component) → first (cycles all x cs) ≡ cycle_fault all x cs
first_of_cycles all x [] = refl
first_of_cycles all x (c ∷ rest) =
    first_when (reaches (length all.components) all x x) (Cycle c.node.name) (cycles all (suc x) rest) (cycle_fault all (suc x) rest)
    (first_of_cycles all (suc x) rest)

pub first_of_unresolved : (s : Scenario) → first (unresolved_all s) ≡ unresolved s
first_of_unresolved s =
    let all = system s in
    let q = quanta_fault Ram s in
    let k = quanta_fault Caps s in
    let o = offer_fault s in
    let a = after_fault all.components [] all.components in
    let r = routes_fault all.components in
    let c = cycle_fault all 0 all.components in
    let qs = quanta_faults Ram s in
    let ks = quanta_faults Caps s in
    let os = all_bad_offers s.interfaces s.nodes in
    let afters = after_faults all.components [] all.components in
    first_both (qs ++ ks ++ os ++ afters ++ routes_lost all.components) _ (or_first (or_first (or_first (or_first q k) o) a) r) c
    (first_both (qs ++ ks ++ os ++ afters) _ (or_first (or_first (or_first q k) o) a) r
    (first_both (qs ++ ks ++ os) _ (or_first (or_first q k) o) a
    (first_both (qs ++ ks) os (or_first q k) o (first_both qs ks q k (first_of_quanta Ram s) (first_of_quanta Caps s)) (first_of_bad s.interfaces s.nodes))
    (first_of_after all.components [] all.components)) (first_of_routes all.components)) (first_of_cycles all 0 all.components)
    ∙ (or_assoc (or_first (or_first (or_first q k) o) a) r c ∙ (or_assoc (or_first (or_first q k) o) a (or_first r c)
    ∙ (or_assoc (or_first q k) o (or_first a (or_first r c)) ∙ or_assoc q k (or_first o (or_first a (or_first r c))))))

-- BUDGETS

first_of_own : (r : Resource) (cs : List Component) (bs : List Budget) → first (over_own r cs bs) ≡ own_refusal r cs bs
first_of_own r [] bs = refl
first_of_own r (c ∷ rest) [] = refl
first_of_own r (c ∷ rest) (b ∷ others) =
    let own = part r b.own in
    let quantum = part r c.node.quantum in
    first_when (not (nat_le own quantum)) (Over_own r c.node.name own quantum) (over_own r rest others) (own_refusal r rest others)
    (first_of_own r rest others)
    ∙ flipped (nat_le own quantum) (Over_own r c.node.name own quantum) (own_refusal r rest others)

first_of_steps : (cs : List Component) (bs : List Budget) → first (over_steps cs bs) ≡ steps_refusal cs bs
first_of_steps [] bs = refl
first_of_steps (c ∷ rest) [] = refl
first_of_steps (c ∷ rest) (b ∷ others) =
    first_when (not (are_small b.steps)) (Over_steps c.node.name) (over_steps rest others) (steps_refusal rest others) (first_of_steps rest others)
    ∙ flipped (are_small b.steps) (Over_steps c.node.name) (steps_refusal rest others)

first_of_budgets : (cs : List Component) (bs : List Budget)
    → first (over_budgets cs bs) ≡ or_first (own_refusal Ram cs bs) (or_first (steps_refusal cs bs) (own_refusal Caps cs bs))
first_of_budgets cs bs =
    first_both (over_own Ram cs bs ++ over_steps cs bs) (over_own Caps cs bs) (or_first (own_refusal Ram cs bs) (steps_refusal cs bs)) (own_refusal Caps cs bs)
    (first_both (over_own Ram cs bs) (over_steps cs bs) (own_refusal Ram cs bs) (steps_refusal cs bs) (first_of_own Ram cs bs) (first_of_steps cs bs))
    (first_of_own Caps cs bs)
    ∙ or_assoc (own_refusal Ram cs bs) (steps_refusal cs bs) (own_refusal Caps cs bs)

-- ALL

mapped_not : (o : Option Unresolved) → option_map Not_resolved o ≡ not_resolved o
mapped_not None = refl
mapped_not (Some why) = refl

mapped_refused : (o : Option Refusal) → option_map Refused_for o ≡ refused o
mapped_refused None = refl
mapped_refused (Some why) = refl

first_of_refusals : (s : Scenario) (l : List Refusal)
    → l ≡ or_else (rules_faults (system s) (components s)) (or_else (map Not_resolved (unresolved_all s)) (over_budgets (components s) (budgets s)))
    → first l ≡ refusal s
first_of_refusals s l e =
    ap first e
    ∙ first_else (rules_faults (system s) (components s)) _ (program_refusal (system s) (components s)) _ (first_of_rules (system s) (components s))
    (first_else (map Not_resolved (unresolved_all s)) (over_budgets (components s) (budgets s)) (not_resolved (unresolved s)) _
    (first_map Not_resolved (unresolved_all s) ∙ (ap (option_map Not_resolved) (first_of_unresolved s) ∙ mapped_not (unresolved s)))
    (first_of_budgets (components s) (budgets s)))

pub first_of_scenario : (s : Scenario) → first (scenario_faults s) ≡ scenario_fault s
first_of_scenario s =
    let rest = or_else (rules_faults (system s) (components s)) (or_else (map Not_resolved (unresolved_all s)) (over_budgets (components s) (budgets s))) in
    first_else (sources_faults (components s)) (map Refused_for rest) (sources_fault (components s)) (refused (refusal s)) (first_of_sources (components s))
    (first_map Refused_for rest ∙ (ap (option_map Refused_for) (first_of_refusals s rest refl) ∙ mapped_refused (refusal s)))
