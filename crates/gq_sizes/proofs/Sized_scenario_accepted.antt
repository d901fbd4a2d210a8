-- With the least quantities in place of its own, a scenario is accepted, where it passes what is judged and no `open` is short.
use Rattle.std.proofs.Common.{◌≡◌, ℕ, zero, suc, ◌+◌, ◌≤◌, ◌||◌, ◌%◌, ◌*◌, ◌/◌, Bool, true, false, List, [], ◌∷◌, length, max, Option, Some, None, refl}
use Rattle.std.proofs.Common.{ap, sym, ◌∙◌, subst, arith, nat_le, nat_lt}
use Rattle.std.specs.Prelude.{slice_get, is_some, if◌then◌else◌, codes}
use Rattle.std.proofs.lemmas.Bool.Decides.{nat_tests}
use Rattle.gq_model.specs.machine.Amounts.{Resource, Ram, Caps, Amount, amount, part, counts_caps}
use Rattle.gq_model.specs.machine.Lists.{or_first}
use Rattle.gq_model.specs.declared.section.Section.{Section}
use Rattle.gq_model.specs.declared.section.Section.TheVariants.{Main}
use Rattle.gq_model.specs.machine.Program.{Statements, section_in, text_eq}
use Rattle.gq_model.specs.machine.Scenario.{Interface, LeafNode, Nodes, End, Leaf_node, Init_node, Level, Component, Scenario, System, components, system}
use Rattle.gq_model.specs.machine.Scenario.{service_in}
use Rattle.gq_model.specs.rules.Accept.{bad_program, program_refusal, not_resolved, own_refusal, steps_refusal, budget, budgets_from, budgets, IsAccepted}
use Rattle.gq_model.specs.rules.Accept.{Over_own, Over_steps, are_small}
use Rattle.gq_model.specs.rules.Budgets.{own, section_requests}
use Rattle.gq_model.specs.rules.Kinds.{AbstractState, Subject}
use Rattle.gq_model.specs.rules.Flow.{context}
use Rattle.gq_model.specs.declared.program.Instruction.{Instruction}
use Rattle.gq_tariff.specs.Prices.{up}
use Rattle.gq_model.specs.rules.Resolve.{Unresolved, leaf_child, sibling, unfit, unfit_after, offer_fault, after_fault, routes_fault, cycle_fault}
use Rattle.gq_model.specs.rules.Resolve.{quanta_fault, unresolved}
use Rattle.gq_model.specs.rules.Use.{subject, step_budget}
use Rattle.gq_model.specs.rules.Verdict.{Fault, program_fault}
use Rattle.gq_model.specs.texts.Code.{IsProgram}
use Rattle.gq_model.proofs.Small_facts.{none_some, some_same, or_first_none}
use Rattle.gq_laws.specs.Names.{NamesDiffer}
use Rattle.gq_laws.specs.Sound_scenarios.{IsWellFormed}
use Rattle.gq_laws.proofs.quota_payment.Leaf_component_positions.{starts_after}
use Rattle.gq_laws.proofs.quota_payment.Routed_server_provides.{holds_at, all_known}
use Rattle.gq_laws.proofs.step_shapes.Whole_worlds.{each_get}
use Rattle.gq_sizes.specs.Unsized_equality.{SubjectsAsOne, PointsAsOne, LeavesAsOne, NodesAsOne, LevelsAsOne, ComponentsAsOne, AllComponents}
use Rattle.gq_sizes.specs.Size.{Gift, all_gifts, refusal_without, own_by, least_caps, leaf_least, quantum_of, least_at, children_least, root_least}
use Rattle.gq_sizes.specs.Size.{section_points}
use Rattle.gq_program.specs.Interfaces.{unbounded}
use Rattle.gq_scenario.specs.Without_quantities.{unsized}
use Rattle.gq_sizes.specs.Least.{caps_of, sum_at, sized, NoneShort, HasWholePages, IsAcceptedSized}
use Rattle.gq_sizes.proofs.Settled_capability_needs.{IsSettled}
use Rattle.gq_sizes.proofs.Opens_give_enough.{sufficient}
use Rattle.gq_sizes.proofs.Least_sizes_fit.{IsFree, IsSufficient, HasLevel, all_as_one, found_least, found_free, map_length, fits_least, allows, along}
use Rattle.gq_sizes.proofs.Least_sizes_fit.{settled_caps}
use Rattle.gq_sizes.proofs.Least_sizes_fit as fitting
use Rattle.gq_sizes.proofs.Statement_point_predicates.{Met}
use Rattle.gq_sizes.proofs.Own_need_comparison.{own_ram_so, own_caps_so}
use Rattle.gq_sizes.proofs.Level_sums_cover.{upgrades_length}
use Rattle.gq_sizes.proofs.Sized_program_points.{points_sized, requests_sized}
use Rattle.gq_sizes.proofs.Equal_section_requests.{AskAsOne, budget_so}
use Rattle.gq_sizes.proofs.Freed_scenarios.{nodes_free, components_both, pair_of}
use Rattle.gq_sizes.proofs.Node_quanta_suffice.{sibling_held}
use Rattle.gq_sizes.proofs.Start_chain_quanta.{after_least}
use Rattle.gq_sizes.proofs.Levels_of_sections.{level_known}
use Rattle.gq_sizes.proofs.Resolved_without_quantities.{offers_so, after_so, routes_so, cycles_so}
use Rattle.gq_sizes.proofs.Sized_nodes.{handed, free_sized, all_have, has_at, quanta_fit}
use Rattle.gq_sizes.proofs.Accepted_sizes_suffice.{nodes_self}

-- PROGRAMS

no_fault : (leaf : List ℕ) (f : Option Fault) → bad_program leaf f ≡ None → f ≡ None
no_fault leaf None e = refl
no_fault leaf (Some fault) e = absurd (none_some (sym e))

programs_pass : (system : System) (cs : List Component) → program_refusal system cs ≡ None → (x : ℕ) (c : Component) → slice_get cs x ≡ Some c
    → program_fault (subject system c) ≡ None
programs_pass system [] e x c there = absurd (none_some there)
programs_pass system (d ∷ cs) e zero c there =
    let p = or_first_none (bad_program d.node.name (program_fault (subject system d))) (program_refusal system cs) e in
    subst (λ c. program_fault (subject system c) ≡ None) (some_same there) (no_fault d.node.name (program_fault (subject system d)) p.0)
programs_pass system (d ∷ cs) e (suc x) c there =
    let p = or_first_none (bad_program d.node.name (program_fault (subject system d))) (program_refusal system cs) e in programs_pass system cs p.1 x c there

pub all_pass : (system : System) (cs : List Component) → ((x : ℕ) (c : Component) → slice_get cs x ≡ Some c → program_fault (subject system c) ≡ None)
    → program_refusal system cs ≡ None
all_pass system [] h = refl
all_pass system (d ∷ cs) h =
    (λ i. or_first (bad_program d.node.name (h 0 d refl i)) (program_refusal system cs)) ∙ all_pass system cs (λ x c e. h (suc x) c e)

-- BUDGETS

own_none : (r : Resource) (version : ℕ) (system : System) (x : ℕ) (cs : List Component)
    → ((i y : ℕ) (c : Component) → slice_get cs i ≡ Some c → part r (budget version system y c).own ≤ part r c.node.quantum)
    → own_refusal r cs (budgets_from version system x cs) ≡ None
own_none r version system x [] h = refl
own_none r version system x (c ∷ cs) h =
    by (nat_le (part r (budget version system x c).own) (part r c.node.quantum)) refl (own_none r version system (suc x) cs (λ i y d e. h (suc i) y d e))
  where
    by : (b : Bool) → nat_le (part r (budget version system x c).own) (part r c.node.quantum) ≡ b
        → own_refusal r cs (budgets_from version system (suc x) cs) ≡ None
        → (if◌then◌else◌ b (own_refusal r cs (budgets_from version system (suc x) cs))
        (Some (Over_own r c.node.name (part r (budget version system x c).own) (part r c.node.quantum)))) ≡ None
    by true e further = further
    by false e further = let less = h 0 x c refl in absurd (grind (arith, nat_tests, less))

pub steps_none : (version : ℕ) (all others : System) (x : ℕ) (cs ds : List Component) → AllComponents cs ds
    → ((y : ℕ) (c d : Component) → ComponentsAsOne c d → step_budget all y c ≡ step_budget others y d)
    → steps_refusal cs (budgets_from version all x cs) ≡ None → steps_refusal ds (budgets_from version others x ds) ≡ None
steps_none version all others x [] [] h same e = refl
steps_none version all others x [] (d ∷ ds) h same e = absurd h
steps_none version all others x (c ∷ cs) [] h same e = absurd h
steps_none version all others x (c ∷ cs) (d ∷ ds) h same e =
    by (are_small (step_budget all x c)) refl e (steps_none version all others (suc x) cs ds h.1 same)
  where
    by : (b : Bool) → are_small (step_budget all x c) ≡ b
        → (if◌then◌else◌ b (steps_refusal cs (budgets_from version all (suc x) cs)) (Some (Over_steps c.node.name))) ≡ None
        → (steps_refusal cs (budgets_from version all (suc x) cs) ≡ None → steps_refusal ds (budgets_from version others (suc x) ds) ≡ None)
        → (if◌then◌else◌ (are_small (step_budget others x d)) (steps_refusal ds (budgets_from version others (suc x) ds)) (Some (Over_steps
        d.node.name)))
        ≡ None
    by true f g further =
        let t : are_small (step_budget others x d) ≡ true = ap are_small (sym (same x c d h.0)) ∙ f in
        (λ i. if◌then◌else◌ (t i) (steps_refusal ds (budgets_from version others (suc x) ds)) (Some (Over_steps d.node.name))) ∙ further g
    by false f g further = absurd (none_some (sym g))

pub asks_all : (all others : System) (cs ds : List Component) → AllComponents cs ds
    → ((x : ℕ) (c d : Component) → slice_get cs x ≡ Some c → ComponentsAsOne c d → (from : Section) (service : List ℕ) (section : Section)
    → section_requests (subject all c) from service section ≡ section_requests (subject others d) from service section)
    → AskAsOne all others cs ds
asks_all all others [] [] h each = tt
asks_all all others [] (d ∷ ds) h each = absurd h
asks_all all others (c ∷ cs) [] h each = absurd h
asks_all all others (c ∷ cs) (d ∷ ds) h each = (each 0 c d refl h.0, asks_all all others cs ds h.1 (λ x a b e o. each (suc x) a b e o))

-- SIBLINGS

child_both : (name : List ℕ) (ms ns : Nodes) → NodesAsOne ms ns → (m : LeafNode) → leaf_child name ms ≡ Some m
    → (n : LeafNode) × (leaf_child name ns ≡ Some n) × LeavesAsOne m n
child_both name End End h m e = absurd (none_some e)
child_both name End (Leaf_node n ns) h m e = absurd h
child_both name End (Init_node n cs ns) h m e = absurd h
child_both name (Leaf_node k ms) End h m e = absurd h
child_both name (Leaf_node k ms) (Init_node n cs ns) h m e = absurd h
child_both name (Leaf_node k ms) (Leaf_node n ns) h m e =
    let r = by (text_eq name k.name) e (child_both name ms ns h.1 m) in
    (r.0, (λ i. if◌then◌else◌ (text_eq name (h.0 i).name) (Some n) (leaf_child name ns)) ∙ r.1, r.2)
  where
    by : (b : Bool) → (if◌then◌else◌ b (Some k) (leaf_child name ms)) ≡ Some m
        → (leaf_child name ms ≡ Some m → (l : LeafNode) × (leaf_child name ns ≡ Some l) × LeavesAsOne m l)
        → (l : LeafNode) × ((if◌then◌else◌ b (Some n) (leaf_child name ns)) ≡ Some l) × LeavesAsOne m l
    by true f further = (n, refl, subst (λ k. LeavesAsOne k n) (some_same f) h.0)
    by false f further = further f
child_both name (Init_node k cs ms) End h m e = absurd h
child_both name (Init_node k cs ms) (Leaf_node n ns) h m e = absurd h
child_both name (Init_node k cs ms) (Init_node n ds ns) h m e = child_both name ms ns h.2 m e

pub sibling_both : (name : List ℕ) (ls ms : List Level) → LevelsAsOne ls ms → (m : LeafNode) → sibling name ls ≡ Some m
    → (n : LeafNode) × (sibling name ms ≡ Some n) × LeavesAsOne m n
sibling_both name [] [] h m e = absurd (none_some e)
sibling_both name [] (l ∷ ms) h m e = absurd h
sibling_both name (k ∷ ls) [] h m e = absurd h
sibling_both name (k ∷ ls) (l ∷ ms) h m e = child_both name k.siblings l.siblings h.1 m e

pub not_less : (a b : ℕ) → b ≤ a → nat_lt a b ≡ false
not_less a b h = by (nat_lt a b) refl
  where
    by : (t : Bool) → nat_lt a b ≡ t → t ≡ false
    by false e = refl
    by true e = absurd (grind (arith, nat_tests, h))

caps_less : (version n m : ℕ) → n ≤ m → caps_of version n ≤ caps_of version m
caps_less version n m h = by (counts_caps version)
  where
    by : (b : Bool) → (if◌then◌else◌ b n 0) ≤ (if◌then◌else◌ b m 0)
    by true = h
    by false = omega arith

resolved_none : (f : Option Unresolved) → not_resolved f ≡ None → f ≡ None
resolved_none None e = refl
resolved_none (Some fault) e = absurd (none_some (sym e))

whole_pages : (n : ℕ) → (4096 ≤ max 4096 (up n)) × (max 4096 (up n) % 4096 ≡ 0)
whole_pages n = (grind arith, by ((n + 4095) / 4096))
  where
    by : (k : ℕ) → max 4096 (k * 4096) % 4096 ≡ 0
    by zero = omega arith
    by (suc k) =
        let e : max 4096 (suc k * 4096) ≡ suc k * 4096 = grind arith in
        let f : suc k * 4096 % 4096 ≡ 0 = omega arith in
        ap (λ m. m % 4096) e ∙ f

-- a leaf needs what its own slots and heap cost
own_first : (n : ℕ) (r : Resource) (all : System) (c : Component) → own_by (least_caps all) r (subject all c) ≤ leaf_least n r all c
own_first zero r all c = omega arith
own_first (suc n) r all c = grind arith

module _ (s : Scenario) (formed : IsWellFormed s) (settled : IsSettled s) (judged : refusal_without s ≡ None) (quiet : NoneShort s) where
  abbrev u : Scenario
  u = unsized s

  abbrev z : Scenario
  z = sized s

  abbrev all : System
  all = system u

  abbrev others : System
  others = system z

  abbrev gs : List Gift
  gs = all_gifts all all.components

  -- WHAT IS JUDGED

  parts : (program_refusal all all.components ≡ None) × (unresolved u ≡ None) × (steps_refusal all.components (budgets u) ≡ None)
  parts =
      let a = or_first_none (program_refusal all all.components) (or_first (not_resolved (unresolved u)) (steps_refusal all.components (budgets u))) judged in
      let b = or_first_none (not_resolved (unresolved u)) (steps_refusal all.components (budgets u)) a.1 in
      (a.0, resolved_none (unresolved u) b.0, b.1)

  faults : (offer_fault u ≡ None) × (after_fault all.components [] all.components ≡ None) × (routes_fault all.components ≡ None)
      × (cycle_fault all 0 all.components ≡ None)
  faults =
      let a = or_first_none (quanta_fault Ram u) _ parts.1 in
      let b = or_first_none (quanta_fault Caps u) _ a.1 in
      let c = or_first_none (offer_fault u) _ b.1 in
      let d = or_first_none (after_fault all.components [] all.components) _ c.1 in
      let e = or_first_none (routes_fault all.components) (cycle_fault all 0 all.components) d.1 in
      (c.0, d.0, e.0, e.1)

  unquantified : IsFree s.version all s.interfaces
  unquantified = record { interfaces = refl; counted = formed.counted; settled = λ two service i l e below. settled two service i l e below }

  -- COMPONENTS

  as_given : AllComponents (components s) all.components
  as_given = components_both s u refl (nodes_free s.nodes s.nodes (nodes_self s.nodes))

  as_sized : AllComponents all.components others.components
  as_sized = components_both u z refl (free_sized s.version all 0 s.nodes)

  programs : (x : ℕ) (c : Component) → slice_get all.components x ≡ Some c → IsProgram c.node.program
  programs x c at =
      let p = pair_of (components s) all.components as_given x c at in
      subst IsProgram (ap (λ (n : LeafNode). n.program) (sym p.2.node)) (formed.programs x p.0 p.1)

  names : NamesDiffer u
  names x y c d at there same =
      let p = pair_of (components s) all.components as_given x c at in
      let q = pair_of (components s) all.components as_given y d there in
      formed.differ x y p.0 q.0 p.1 q.1 (ap (λ (n : LeafNode). n.name) (sym p.2.node) ∙ same ∙ ap (λ (n : LeafNode). n.name) q.2.node)

  module _ (x : ℕ) (c : Component) (at : slice_get all.components x ≡ Some c) where
    fine : program_fault (subject all c) ≡ None
    fine = programs_pass all all.components parts.0 x c at

    levels : (section : Section) (list : Statements) → section_in section c.node.program.sections ≡ Some list
        → HasLevel s.version all gs s.interfaces unquantified c section
    levels section list there service i provides known up =
        let provided : service_in c.node.provides all.interfaces ≡ Some (unbounded i) =
        ap (λ p. service_in p all.interfaces) provides ∙ found_free s.version all gs s.interfaces service i known in
        let l = level_known (subject all c) (unbounded i) section list (programs x c at) fine provided there up in
        let same = map_length (λ (a : Amount). amount 0 a.caps) i.upgrades in omega (arith, l, same)

    enough : IsSufficient s.version all gs s.interfaces unquantified c
    enough = sufficient s.version all s.interfaces unquantified quiet x c at fine levels

    abbrev v : Subject
    v = subject all c

    abbrev w : Subject
    w = fitting.w s.version all gs s.interfaces unquantified c

    both_subjects : SubjectsAsOne v w
    both_subjects = fitting.subjects s.version all gs s.interfaces unquantified c

    abbrev Step : Section → AbstractState → Instruction → Type 0
    Step section = Met (fitting.Enough s.version all gs s.interfaces unquantified c) (fitting.IsGift s.version all gs s.interfaces unquantified c)
        (context v section)

    abbrev Point : Section → AbstractState → Type 0
    Point section = fitting.Fits s.version all gs s.interfaces unquantified c section

    points_so : (section : Section) → PointsAsOne v.interfaces w.interfaces (section_points v section) (section_points w section)
    points_so = points_sized v w both_subjects fine Step Point (allows s.version all gs s.interfaces unquantified c enough)
        (along s.version all gs s.interfaces unquantified c enough)

    asks_so : (from : Section) (service : List ℕ) (section : Section) → section_requests v from service section ≡ section_requests w from service section
    asks_so = requests_sized v w both_subjects fine Step Point (allows s.version all gs s.interfaces unquantified c enough)
        (along s.version all gs s.interfaces unquantified c enough)

    fine_sized : program_fault w ≡ None
    fine_sized = fits_least s.version all gs s.interfaces unquantified c enough

    own_ram_is : own Ram w ≡ own_by (least_caps all) Ram v
    own_ram_is = own_ram_so v w (least_caps all) (points_so Main)

    own_caps_is : counts_caps s.version ≡ true → own Caps w ≡ own_by (least_caps all) Caps v
    own_caps_is two = own_caps_so v w (least_caps all) (settled_caps s.version all gs s.interfaces unquantified c two) (points_so Main)

    -- what the partner is judged by
    same_subject : (d : Component) → ComponentsAsOne c d → subject others d ≡ w
    same_subject d o =
        ap (λ (n : LeafNode).
        record {
          program = n.program;
          provided = service_in n.provides z.interfaces;
          interfaces = z.interfaces;
          inputs = n.inputs;
          signals = n.signals;
        }) o.node

    has_ram : own_by (least_caps all) Ram v ≤ least_at Ram all x
    has_ram =
        let e : least_at Ram all x ≡ leaf_least (length all.components) Ram all c = ap (quantum_of (leaf_least (length all.components) Ram all)) at in
        let a = own_first (length all.components) Ram all c in omega (arith, e, a)

    has_caps : own_by (least_caps all) Caps v ≤ least_at Caps all x
    has_caps =
        let e : least_at Caps all x ≡ leaf_least (length all.components) Caps all c = ap (quantum_of (leaf_least (length all.components) Caps all)) at in
        let a = own_first (length all.components) Caps all c in omega (arith, e, a)

    -- what it uses is within what it is handed
    budget_fits : (r : Resource) (y : ℕ) (d : Component) → ComponentsAsOne c d → d.node.quantum ≡ handed s.version all x
        → part r (budget s.version others y d).own ≤ part r d.node.quantum
    budget_fits Ram y d o e =
        let a = ap (own Ram) (same_subject d o) in
        let b = own_ram_is in
        let h = has_ram in
        let q = ap (λ (n : Amount). n.ram) e in omega (arith, a, b, h, q)
    budget_fits Caps y d o e =
        let q = ap (λ (n : Amount). n.caps) e in
        let h = by (counts_caps s.version) refl in omega (arith, q, h)
      where
        by : (b : Bool) → counts_caps s.version ≡ b → (if◌then◌else◌ b (own Caps (subject others d)) 0) ≤ (if◌then◌else◌ b (least_at Caps all x) 0)
        by true f =
            let a = ap (own Caps) (same_subject d o) in
            let b = own_caps_is f in
            let h = has_caps in omega (arith, a, b, h)
        by false f = omega arith

  -- QUANTA

  sized_quantum : (x : ℕ) (d : Component) → slice_get others.components x ≡ Some d → d.node.quantum ≡ handed s.version all x
  sized_quantum x d at =
      has_at s.version all 0 x x others.components d (all_have s.version all (codes "init") z.default_routes z.nodes [] 0 s.nodes) at (omega arith)

  handed_less : (x y : ℕ) (c b : Component) → slice_get all.components x ≡ Some c → slice_get all.components y ≡ Some b → c.node.after ≡ Some b.node.name
      → ((handed s.version all x).ram ≤ (handed s.version all y).ram) × ((handed s.version all x).caps ≤ (handed s.version all y).caps)
  handed_less x y c b at there after = (
    after_least u names faults.1 Ram x y c b at there after,
    caps_less s.version (least_at Caps all x) (least_at Caps all y) (after_least u names faults.1 Caps x y c b at there after),
  )

  unfit_none : (before node : LeafNode) → is_some before.provides ≡ false → nat_lt 0 before.signals ≡ false → is_some node.provides ≡ false
      → node.quantum.ram ≤ before.quantum.ram → node.quantum.caps ≤ before.quantum.caps → unfit before node ≡ false
  unfit_none before node e g f h k =
      (λ i. e i || g i || f i || not_less before.quantum.ram node.quantum.ram h i || not_less before.quantum.caps node.quantum.caps k i)

  -- who starts after another fits it
  after_fits : (x : ℕ) (d : Component) (name : List ℕ) → slice_get others.components x ≡ Some d → d.node.after ≡ Some name
      → unfit_after (sibling name d.levels) d.node ≡ false
  after_fits x d name at after =
      let p = pair_of all.components others.components as_sized x d at in
      let c = p.0 in
      let after_c : c.node.after ≡ Some name = ap (λ (n : LeafNode). n.after) (sym p.2.node) ∙ after in
      let known = (starts_after all.components [] all.components faults.1 x c name p.1 after_c).0 in
      let b = sibling_both name c.levels d.levels p.2.levels known.before known.there in
      let held = sibling_held others.components name d.levels b.0 (each_get _ others.components x d (all_known z) at) b.1 in
      let stands = holds_at b.0 others.components held.0 in
      let q = pair_of all.components others.components as_sized stands.0 stands.1 stands.2 in
      let named : q.0.node.name ≡ name = ap (λ (n : LeafNode). n.name) (sym q.2.node ∙ stands.3) ∙ held.1 in
      let less = handed_less x stands.0 c q.0 p.1 q.1 (after_c ∙ ap Some (sym named)) in
      let mine = sized_quantum x d at in
      let its : b.0.quantum ≡ handed s.version all stands.0 =
      ap (λ (n : LeafNode). n.quantum) (sym stands.3) ∙ sized_quantum stands.0 stands.1 stands.2 in
      let ram : d.node.quantum.ram ≤ b.0.quantum.ram =
      omega (arith, less.0, ap (λ (n : Amount). n.ram) mine, ap (λ (n : Amount). n.ram) its) in
      let caps : d.node.quantum.caps ≤ b.0.quantum.caps =
      omega (arith, less.1, ap (λ (n : Amount). n.caps) mine, ap (λ (n : Amount). n.caps) its) in
      let one : is_some b.0.provides ≡ false = ap (λ (n : LeafNode). is_some n.provides) b.2 ∙ known.before_provides in
      let none : nat_lt 0 b.0.signals ≡ false = ap (λ (n : LeafNode). nat_lt 0 n.signals) b.2 ∙ known.before_signals in
      let two : is_some d.node.provides ≡ false = ap (λ (n : LeafNode). is_some n.provides) p.2.node ∙ known.provides in
      ap (λ o. unfit_after o d.node) b.1 ∙ unfit_none b.0 d.node one none two ram caps

  -- THE PARTS OF THE VERDICT

  programs_none : program_refusal others others.components ≡ None
  programs_none = all_pass others others.components (λ x d at.
      let p = pair_of all.components others.components as_sized x d at in
      ap program_fault (same_subject x p.0 p.1 d p.2) ∙ fine_sized x p.0 p.1)

  unresolved_none : unresolved z ≡ None
  unresolved_none =
      let ram = quanta_fit s.version all Ram z s.nodes refl refl in
      let caps = quanta_fit s.version all Caps z s.nodes refl refl in
      let offers = sym (offers_so u z (all_as_one s.version all gs s.interfaces) (free_sized s.version all 0 s.nodes)) ∙ faults.0 in
      let after = after_so all.components others.components as_sized [] all.components others.components as_sized after_fits faults.1 in
      let routes = routes_so all.components others.components as_sized faults.2 in
      let cycles = cycles_so all others as_sized 0 all.components others.components as_sized faults.3 in
      (λ i. or_first (ram i) (or_first (caps i) (or_first (offers i) (or_first (after i) (or_first (routes i) (cycles i))))))

  budgets_fit : (r : Resource) → own_refusal r others.components (budgets z) ≡ None
  budgets_fit r = own_none r s.version others 0 others.components (λ x y d at.
      let p = pair_of all.components others.components as_sized x d at in
      budget_fits x p.0 p.1 r y d p.2 (sized_quantum x d at))

  asks : AskAsOne all others all.components others.components
  asks = asks_all all others all.components others.components as_sized (λ x c d at o from service section.
      asks_so x c at from service section ∙ ap (λ k. section_requests k from service section) (sym (same_subject x c at d o)))

  steps_fit : steps_refusal others.components (budgets z) ≡ None
  steps_fit = steps_none s.version all others 0 all.components others.components as_sized (λ y c d o. budget_so all others as_sized asks y c d o) parts.2

  pub accepted_sized : IsAccepted z
  accepted_sized =
      (λ i. or_first (programs_none i) (or_first (not_resolved (unresolved_none i))
      (or_first (budgets_fit Ram i) (or_first (steps_fit i) (budgets_fit Caps i)))))

  -- AS THE READERS GIVE THEM

  names_sized : NamesDiffer z
  names_sized x y c d at there same =
      let p = pair_of all.components others.components as_sized x c at in
      let q = pair_of all.components others.components as_sized y d there in
      names x y p.0 q.0 p.1 q.1 (ap (λ (n : LeafNode). n.name) (sym p.2.node) ∙ same ∙ ap (λ (n : LeafNode). n.name) q.2.node)

  formed_sized : IsWellFormed z
  formed_sized = record {
    differ = names_sized;
    programs = λ x d at.
        let p = pair_of all.components others.components as_sized x d at in
        subst IsProgram (ap (λ (n : LeafNode). n.program) (sym p.2.node)) (programs x p.0 p.1);
    counted = λ service j e.
        let p = found_least s.version all gs s.interfaces service j e in
        ap (λ (k : Interface). k.counted) p.2 ∙ formed.counted service p.0 p.1;
    upgrades = λ service j e.
        let p = found_least s.version all gs s.interfaces service j e in
        let a = ap (λ (k : Interface). length k.upgrades) p.2 in
        let b = upgrades_length (sum_at s.version all gs service p.0) 0 p.0.upgrades in
        let c = formed.upgrades service p.0 p.1 in omega (arith, a, b, c);
    signals = λ x d at.
        let p = pair_of all.components others.components as_sized x d at in
        let q = pair_of (components s) all.components as_given x p.0 p.1 in
        let same = ap (λ (n : LeafNode). n.signals) p.2.node in
        let first = ap (λ (n : LeafNode). n.signals) q.2.node in
        let few = formed.signals x q.0 q.1 in omega (arith, same, first, few);
  }

  pages_sized : HasWholePages z
  pages_sized =
      let p = whole_pages (children_least Ram all 0 s.nodes) in
      record {
        least = p.0;
        whole = p.1;
        caps = λ two. let e = ap (λ (b : Bool). if◌then◌else◌ b (root_least Caps (children_least Caps all 0 s.nodes)) 0) two in
            let a : 1 ≤ max 1 (children_least Caps all 0 s.nodes) = grind arith in omega (arith, e, a);
      }

  pub is_accepted_sized : IsAcceptedSized s
  is_accepted_sized = record { sound = record { formed = formed_sized; accepted = accepted_sized }; pages = pages_sized }
