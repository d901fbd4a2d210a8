-- Programs of accepted scenarios are made of statements whose operands are in range and whose services lead to a server, and each loop has a round.
use Rattle.std.proofs.Common.{◌≡◌, ℕ, suc, ◌+◌, ◌-◌, ◌==◌, inl, inr, Bool, true, false, cond, nat_lt, nat_le, ◌&&◌, List, [], ◌∷◌, ◌++◌, Some, None, refl, sym}
use Rattle.std.proofs.Common.{ap, ◌∙◌}
use Rattle.std.specs.Prelude.{slice_get, length, sum_by}
use Rattle.std.proofs.lemmas.Bool.{leb-true}
use Rattle.gq_model.specs.machine.Lists.{all_of, between}
use Rattle.gq_model.specs.machine.Amounts.{Ram, Caps}
use Rattle.gq_model.specs.declared.program.Instruction.{Instruction}
use Rattle.gq_model.specs.declared.program.Instruction.TheVariants.{Open}
use Rattle.gq_model.specs.machine.Program.{Statements, Done, Do, If, Loop, size, Program, text_eq}
use Rattle.gq_model.specs.declared.section.Section.{Section}
use Rattle.gq_model.specs.texts.Operands.{greatest_number, operands, in_range}
use Rattle.gq_model.specs.texts.Code.{is_body, are_sections, greatest_statements, IsProgram}
use Rattle.gq_model.specs.machine.Sections.{is_section, section_number}
use Rattle.gq_model.specs.machine.Scenario.{LeafNode, Component, System, components, Scenario, system}
use Rattle.gq_model.specs.machine.Routes.{To, route, numbered, leaf_routed, server_of}
use Rattle.gq_model.specs.rules.Use.{opened_by, services_of, services_in, services}
use Rattle.gq_model.specs.rules.Resolve.{quanta_fault, offer_fault, after_fault, unrouted, services_fault, routes_fault, cycle_fault, unresolved}
use Rattle.gq_laws.specs.Shapes.{Each}
use Rattle.gq_laws.specs.internal.Remaining_instructions.{AllAre, ArePrograms, Leads, IsGood}
use Rattle.gq_model.proofs.Small_facts.{or_first_none}
use Rattle.std.proofs.lemmas.Bool.{and_parts}
use Rattle.gq_laws.proofs.quota_payment.Routed_server_provides.{Holds, IsKnown, all_known, route_provides}
use Rattle.gq_laws.proofs.step_shapes.Whole_worlds.{each_get}
use Rattle.gq_laws.proofs.session_links.Asked_request_changes.{each_map}
use Rattle.gq_model.proofs.Small_facts.{text_self}
use Rattle.gq_model.proofs.Component_laws.{leads_to}

-- OPERANDS

abbrev IsInRange : Instruction → Type 0
IsInRange i = all_of in_range (operands i) ≡ true

body_good : (n : ℕ) (s : Statements) → is_body n s ≡ true → AllAre IsInRange s
body_good n Done e = tt
body_good n (Do i rest) e = let p = and_parts (all_of in_range (operands i)) (is_body n rest) e in (p.0, body_good n rest p.1)
body_good n (If arm other rest) e =
    let a = and_parts (nat_lt 0 n && is_body (n - 1) arm && is_body (n - 1) other) (is_body n rest) e in
    let b = and_parts (nat_lt 0 n && is_body (n - 1) arm) (is_body (n - 1) other) a.0 in
    let c = and_parts (nat_lt 0 n) (is_body (n - 1) arm) b.0 in
    (body_good (n - 1) arm c.1, body_good (n - 1) other b.1, body_good n rest a.1)
body_good n (Loop count body rest) e =
    let a = and_parts (nat_lt 0 n && between 1 65535 count && is_body (n - 1) body) (is_body n rest) e in
    let b = and_parts (nat_lt 0 n && between 1 65535 count) (is_body (n - 1) body) a.0 in
    let c = and_parts (nat_lt 0 n) (between 1 65535 count) b.0 in
    let low = and_parts (nat_le 1 count) (nat_le count 65535) c.1 in
    (leb-true 1 count low.0, body_good (n - 1) body b.1, body_good n rest a.1)

sections_good : (n : ℕ) (sections : List (Section × Statements)) → are_sections n sections ≡ true → Each (λ p. AllAre IsInRange p.1) sections
sections_good n [] e = tt
sections_good n (p ∷ rest) e =
    let a = and_parts (is_section p.0 && nat_le n (section_number p.0) && is_body 4 p.1) (are_sections (1 + section_number p.0) rest) e in
    let b = and_parts (is_section p.0 && nat_le n (section_number p.0)) (is_body 4 p.1) a.0 in
    (body_good 4 p.1 b.1, sections_good (1 + section_number p.0) rest a.1)

-- in a program each operand is in range, and each loop has a round
pub program_good : (p : Program) → IsProgram p → Each (λ s. AllAre (λ i. all_of in_range (operands i) ≡ true) s.1) p.sections
program_good p e =
    let a = and_parts (length p.locals == 8 && all_of (between 0 greatest_number) p.locals && are_sections 0 p.sections)
    (nat_le (sum_by (λ s. size s.1) p.sections) greatest_statements) e in
    let b = and_parts (length p.locals == 8 && all_of (between 0 greatest_number) p.locals) (are_sections 0 p.sections) a.0 in
    sections_good 0 p.sections b.1

-- SERVERS

-- a component of that name has a place
pub numbered_there : (k : ℕ) (n : LeafNode) (cs : List Component) (name : List ℕ) → Holds n cs → n.name ≡ name → (y : ℕ) × (numbered k name cs ≡ Some y)
numbered_there k n [] name h same = absurd h
numbered_there k n (c ∷ cs) name h same = by (text_eq name c.node.name) refl h (λ g. numbered_there (suc k) n cs name g same)
  where
    by : (b : Bool) → text_eq name c.node.name ≡ b → Holds n (c ∷ cs) → (Holds n cs → (y : ℕ) × (numbered (suc k) name cs ≡ Some y))
        → (y : ℕ) × (cond b (Some k) (numbered (suc k) name cs) ≡ Some y)
    by true e h further = (k, refl)
    by false e (inr h) further = further h
    by false e (inl f) further = absurd (other (sym (text_self name) ∙ ap (text_eq name) (sym same ∙ ap (λ (n : LeafNode). n.name) (sym f)) ∙ e))
      where
        other : true ≡ false → ⊥
        other e = cc

abbrev Served : System → Component → List ℕ → Type 0
Served system c service = (server : ℕ) × (server_of system c service ≡ Some server)

-- a route to a leaf leads to a server
routed_served : (s : Scenario) (x : ℕ) (c : Component) (service name : List ℕ) → slice_get (components s) x ≡ Some c → route c.levels service ≡ To name
    → Served (system s) c service
routed_served s x c service name there e =
    let p = route_provides (components s) service c.levels name
    (each_get (λ c. Each (IsKnown (components s)) c.levels) (components s) x c (all_known s) there) e in
    let found = numbered_there 0 p.leaf (components s) name p.there p.is in
    (found.0, ap (λ r. leaf_routed r (components s)) e ∙ found.1)

-- WHAT IS RESOLVED

abbrev IsRouted : Component → List ℕ → Type 0
IsRouted c service = (name : List ℕ) × (route c.levels service ≡ To name)

all_routed : (c : Component) (names : List (List ℕ)) → services_fault c names ≡ None → Each (IsRouted c) names
all_routed c [] e = tt
all_routed c (service ∷ rest) e =
    let p = or_first_none (unrouted c service (route c.levels service)) (services_fault c rest) e in
    (leads_to c service (route c.levels service) p.0, all_routed c rest p.1)

each_routed : (cs : List Component) → routes_fault cs ≡ None → Each (λ c. Each (IsRouted c) (services c)) cs
each_routed [] e = tt
each_routed (c ∷ rest) e = let p = or_first_none (services_fault c (services c)) (routes_fault rest) e in (all_routed c (services c) p.0, each_routed rest p.1)

resolved_routes : (s : Scenario) → unresolved s ≡ None → routes_fault (components s) ≡ None
resolved_routes s e =
    let a = or_first_none (quanta_fault Ram s) _ e in
    let b = or_first_none (quanta_fault Caps s) _ a.1 in
    let c = or_first_none (offer_fault s) _ b.1 in
    let d = or_first_none (after_fault (components s) [] (components s)) _ c.1 in
    let e = or_first_none (routes_fault (components s)) (cycle_fault (system s) 0 (components s)) d.1 in
    e.0

-- each service of the open statements of a scenario's leaf is served
pub services_served : (s : Scenario) → unresolved s ≡ None → (x : ℕ) (c : Component) → slice_get (components s) x ≡ Some c
    → Each (λ service. (server : ℕ) × (server_of (system s) c service ≡ Some server)) (services c)
services_served s e x c there =
    each_map (IsRouted c) (Served (system s) c) (λ service r. routed_served s x c service r.0 there r.1) (services c)
    (each_get (λ c. Each (IsRouted c) (services c)) (components s) x c (each_routed (components s) (resolved_routes s e)) there)

-- OPEN STATEMENTS

each_split : {A : Type 0} (P : A → Type 0) (items others : List A) → Each P (items ++ others) → Each P items × Each P others
each_split P [] others h = (tt, h)
each_split P (a ∷ items) others h = let p = each_split P items others h.1 in ((h.0, p.0), p.1)

module _ (system : System) (c : Component) (Q : Instruction → Type 0) where
  leads_one : (i : Instruction) → Each (Served system c) (opened_by i) → Leads system c i
  leads_one (Open place service n) h = h.0
  leads_one _ h = tt

  leads_all : (s : Statements) → AllAre Q s → Each (Served system c) (services_of s) → AllAre (λ i. Q i × Leads system c i) s
  leads_all Done h e = tt
  leads_all (Do i rest) h e = let p = each_split (Served system c) (opened_by i) (services_of rest) e in ((h.0, leads_one i p.0), leads_all rest h.1 p.1)
  leads_all (If arm other rest) h e =
      let p = each_split (Served system c) (services_of arm ++ services_of other) (services_of rest) e in
      let q = each_split (Served system c) (services_of arm) (services_of other) p.0 in
      (leads_all arm h.0 q.0, leads_all other h.1 q.1, leads_all rest h.2 p.1)
  leads_all (Loop n body rest) h e =
      let p = each_split (Served system c) (services_of body) (services_of rest) e in (h.0, leads_all body h.1 p.0, leads_all rest h.2 p.1)

  leads_sections : (sections : List (Section × Statements)) → Each (λ p. AllAre Q p.1) sections → Each (Served system c) (services_in sections)
      → Each (λ p. AllAre (λ i. Q i × Leads system c i) p.1) sections
  leads_sections [] h e = tt
  leads_sections (p ∷ rest) h e =
      let parts = each_split (Served system c) (services_of p.1) (services_in rest) e in (leads_all p.1 h.0 parts.0, leads_sections rest h.1 parts.1)

-- of statements that are such, each leads to a server besides
pub services_lead : (s : Scenario) → unresolved s ≡ None → (x : ℕ) (c : Component) → slice_get (components s) x ≡ Some c → (Q : Instruction → Type 0)
    → Each (λ p. AllAre Q p.1) c.node.program.sections → Each (λ p. AllAre (λ i. Q i × Leads (system s) c i) p.1) c.node.program.sections
services_lead s e x c there Q h = leads_sections (system s) c Q c.node.program.sections h (services_served s e x c there)

-- so are the programs of a scenario that is resolved
pub all_good : (s : Scenario) → ((x : ℕ) (c : Component) → slice_get (components s) x ≡ Some c → IsProgram c.node.program) → unresolved s ≡ None
    → ArePrograms (IsGood (system s)) (system s)
all_good s programs e x c there = services_lead s e x c there IsInRange (program_good c.node.program (programs x c there))
