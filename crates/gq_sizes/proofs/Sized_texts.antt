-- What is found of a scenario without its quantities is what its text prints.
use Rattle.std.proofs.Common.{◌≡◌, ℕ, zero, suc, ◌-◌, max, Bool, List, [], ◌∷◌, ◌++◌, map, Option, Some, None, Result, Ok, Err, refl, ap, sym, ◌∙◌, subst}
use Rattle.std.specs.Prelude.{codes, IfErr}
use Rattle.std.proofs.lemmas.List.{length-map}
use Rattle.gq_model.specs.machine.Amounts.{Ram}
use Rattle.gq_model.specs.machine.Lists.{or_first}
use Rattle.gq_model.specs.machine.Program.{Program}
use Rattle.gq_model.specs.machine.Scenario.{Interface, Interfaces, Component, Scenario, System, components, system}
use Rattle.gq_model.specs.rules.Accept.{Refusal, bad_program, budgets, not_resolved, program_refusal, steps_refusal}
use Rattle.gq_model.specs.rules.Kinds.{Subject}
use Rattle.gq_model.specs.rules.Resolve.{unresolved}
use Rattle.gq_model.specs.rules.Use.{subject}
use Rattle.gq_model.specs.rules.Verdict.{program_fault}
use Rattle.gq_model.proofs.Small_facts.{or_first_none, some_none}
use Rattle.gq_program.specs.Interfaces.{all_unbounded, capped, unbounded}
use Rattle.gq_scenario.specs.Top_table.{scenario_in}
use Rattle.gq_scenario.specs.Without_quantities.{unsized}
use Rattle.gq_load.specs.Load_faults.{PrintsFault, Refuses}
use Rattle.gq_load.specs.Load.{LoadRefusal, loaded_or, refused, sources_fault}
use Rattle.gq_load.specs.declared.load_fault.LoadError.{LoadError}
use Rattle.gq_load.specs.declared.load_fault.LoadError.TheVariants as error
use Rattle.gq_load.specs.Unsized_judgement.{unsized_fault, unsized_refusal}
use Rattle.gq_verify.specs.Saturated_numbers.{saturated}
use Rattle.gq_sizes.specs.Size.{Gift, all_gifts, all_short, asked_above, least_caps, needed, ram_sum}
use Rattle.gq_sizes.specs.Needing.{BreakNothing, subjects_by}
use Rattle.gq_sizes.specs.Endless.{is_endless}
use Rattle.gq_sizes.specs.Judged_scenario.{fault_without, judged_without, judged_without_from}
use Rattle.gq_sizes.specs.Passing.{endless_rows, tests}
use Rattle.gq_sizes.specs.Size_text.{size_text}
use Rattle.gq_sizes.specs.internal.Printed_sizes as reported
use Rattle.gq_sizes.specs.internal.Printed_sizes.{interface_lines, node_lines, root_line}
use Rattle.gq_sizes.specs.Saturated_tables.{AreOf, caps_rows, ram_rows, row}
use Rattle.gq_sizes.proofs.Least_sizes_printed.{text_beside}
use Rattle.gq_sizes.proofs.Judged_leaf_subjects.{subjects_are}

-- NO PROGRAM BREAKS A RULE

pub refused_none : (why : Option Refusal) → refused why ≡ None → why ≡ None
refused_none None e = refl
refused_none (Some why) e = absurd (some_none e)

bad_none : (name : List ℕ) (v : Subject) → bad_program name (program_fault v) ≡ None → program_fault v ≡ None
bad_none name v e = by (program_fault v) e
  where
    by : (f : _) → bad_program name f ≡ None → f ≡ None
    by None h = refl
    by (Some f) h = absurd (some_none h)

break_nothing : (all : System) (cs : List Component) → program_refusal all cs ≡ None →
    BreakNothing all.interfaces cs (map (λ (c : Component). c.node.program) cs)
break_nothing all [] e = tt
break_nothing all (c ∷ rest) e =
    let both = or_first_none (bad_program c.node.name (program_fault (subject all c))) (program_refusal all rest) e in
    (bad_none c.node.name (subject all c) both.0, break_nothing all rest both.1)

nothing_broken : (s : Scenario) → unsized_fault s ≡ None →
    BreakNothing s.interfaces (components s) (map (λ (c : Component). c.node.program) (components s))
nothing_broken s e =
    let refusal = (or_first_none (sources_fault (components s)) (refused (unsized_refusal s)) e).1 in
    let programs = (or_first_none (program_refusal (system s) (components s))
    (or_first (not_resolved (unresolved s)) (steps_refusal (components s) (budgets s))) (refused_none (unsized_refusal s) refusal)).0 in
    break_nothing (system s) (components s) programs

pub right_programs : (s : Scenario) (ifs : Interfaces) (cs : List Component) (ps : List Program) → unsized_fault s ≡ None → ifs ≡ s.interfaces →
    cs ≡ components s → ps ≡ map (λ (c : Component). c.node.program) cs → BreakNothing ifs cs ps
right_programs s ifs cs ps none same are programs =
    subst (λ l. BreakNothing l cs ps) (sym same)
    (subst (BreakNothing s.interfaces cs) (sym programs)
    (subst (λ l. BreakNothing s.interfaces l (map (λ (c : Component). c.node.program) l)) (sym are) (nothing_broken s none)))

-- WHAT LEAVES ARE JUDGED BY

pub leaves_are : (s : Scenario) (ifs : Interfaces) (cs : List Component) (ps : List Program) (vs : List Subject) → ifs ≡ s.interfaces → cs ≡ components s →
    ps ≡ map (λ (c : Component). c.node.program) cs → vs ≡ subjects_by ifs cs ps → AreOf (system s) cs vs s.interfaces
leaves_are s ifs cs ps vs same are programs is =
    record {
      components = are;
      leaves =
          is
          ∙ (ap (λ l. subjects_by l cs ps) same
          ∙ (ap (subjects_by s.interfaces cs) programs
          ∙ (ap (λ l. subjects_by s.interfaces l (map (λ (c : Component). c.node.program) l)) are ∙ subjects_are (system s) (components s))));
      interfaces = refl;
    }

-- ROWS DO NOT DEPEND ON QUANTITIES

sum_same : (all : System) (given : List Gift) (service : List ℕ) (i : Interface) (l : ℕ) →
    ram_sum all given service (unbounded i) l ≡ ram_sum all given service i l
sum_same all given service i zero =
    ap (λ u. max (needed (λ _ _. 0) Ram all service i 0) (asked_above (needed (λ _ _. 0) Ram all service i) given service u 0))
    (length-map i.upgrades capped)
sum_same all given service i (suc l) =
    let need = needed (λ _ _. 0) Ram all service i in
    let same = length-map i.upgrades capped in
    (λ j. max (max (need (suc l)) (asked_above need given service (same j - suc l) (suc l))) (sum_same all given service i l j))

ram_rows_same : (all : System) (given : List Gift) (ifs : Interfaces) → ram_rows all given (all_unbounded ifs) ≡ ram_rows all given ifs
ram_rows_same all given [] = refl
ram_rows_same all given (e ∷ rest) = (λ j. row (λ l. sum_same all given e.0 e.1 l j) ∷ ram_rows_same all given rest j)

caps_rows_same : (all : System) (ifs : Interfaces) → caps_rows all (all_unbounded ifs) ≡ caps_rows all ifs
caps_rows_same all [] = refl
caps_rows_same all (e ∷ rest) = ap (λ rows. row (λ l. saturated (least_caps all e.0 l)) ∷ rows) (caps_rows_same all rest)

endless_rows_same : (all : System) (ifs : Interfaces) → endless_rows all (all_unbounded ifs) ≡ endless_rows all ifs
endless_rows_same all [] = refl
endless_rows_same all (e ∷ rest) = ap (λ rows. tests (is_endless all e.0) ∷ rows) (endless_rows_same all rest)

-- the rows of the scenario without its quantities are those of the scenario
module _ (all : System) (s free : Scenario) (ifs : Interfaces) (rows : List (List ℕ)) (is : free ≡ unsized s) (same : ifs ≡ s.interfaces) where
  pub ram_printed : (cs : List Component) → cs ≡ all.components → rows ≡ ram_rows all (all_gifts all cs) free.interfaces →
      rows ≡ ram_rows all (all_gifts all all.components) ifs
  ram_printed cs are made =
      let given = all_gifts all all.components in
      made
      ∙ (ap (λ l. ram_rows all (all_gifts all l) free.interfaces) are
      ∙ (ap (λ (f : Scenario). ram_rows all given f.interfaces) is ∙ (ram_rows_same all given s.interfaces ∙ ap (ram_rows all given) (sym same))))

  pub caps_are_printed : rows ≡ caps_rows all free.interfaces → rows ≡ caps_rows all ifs
  caps_are_printed made = made ∙ (ap (λ (f : Scenario). caps_rows all f.interfaces) is ∙ (caps_rows_same all s.interfaces ∙ ap (caps_rows all) (sym same)))

pub endless_printed : (all : System) (s free : Scenario) (ifs : Interfaces) (rows : List (List Bool)) → free ≡ unsized s → ifs ≡ s.interfaces
    → rows ≡ endless_rows all free.interfaces → rows ≡ endless_rows all ifs
endless_printed all s free ifs rows is same made =
    made ∙ (ap (λ (f : Scenario). endless_rows all f.interfaces) is ∙ (endless_rows_same all s.interfaces ∙ ap (endless_rows all) (sym same)))

-- REFUSALS

refuses_or : (s : Scenario) (fault : Option LoadRefusal) (e : LoadError) → PrintsFault e fault → Refuses e (loaded_or s fault)
refuses_or s fault error.Memory h = tt
refuses_or s None (error.Fault f) h = h
refuses_or s (Some fault) (error.Fault f) h = h

-- a text whose scenario is refused is refused so
pub refuses_so : {A : Type 0} (text : List ℕ) (s : Scenario) (r : Result A LoadError) → scenario_in text ≡ Ok s → IfErr r (λ e. PrintsFault e (fault_without s))
    → IfErr r (λ e. Refuses e (judged_without text))
refuses_so text s (Ok a) is h = tt
refuses_so text s (Err e) is h =
    subst (λ (l : Result Scenario LoadRefusal). Refuses e l) (sym (ap judged_without_from is)) (refuses_or s (fault_without s) e h)

-- THE TEXT

-- the lines that were put one after the other are the text
pub text_is : (s free : Scenario) (version : ℕ) (ifs : Interfaces) → free ≡ unsized s → version ≡ s.version → ifs ≡ s.interfaces →
    (first second third whole : List ℕ) → first ≡ [] → second ≡ first ++ interface_lines version (system free) (all_gifts (system free) (components free)) ifs →
    third ≡ second ++ all_short (system free) (all_gifts (system free) (components free)) (components free) →
    whole ≡ third ++ root_line s.version (system free) s.total s.nodes ++ node_lines s.version (system free) (codes "init") 0 s.nodes → whole ≡ size_text s
text_is s free version ifs is numbered same first second third whole a b c d =
    let all = system free in
    let given = all_gifts all (components free) in
    let lines = λ (n : ℕ) (l : Interfaces). interface_lines n all given l in
    let short = all_short all given (components free) in
    let root = root_line s.version all s.total s.nodes in
    let nodes = node_lines s.version all (codes "init") 0 s.nodes in
    d
    ∙ (ap (λ t. t ++ root ++ nodes) (c ∙ ap (λ t. t ++ short) (b ∙ ap (λ t. t ++ lines version ifs) a))
    ∙ ((λ j. lines (numbered j) (same j) ++ short ++ root ++ nodes) ∙ (ap (λ (f : Scenario). reported.reported_text (system f) s) is ∙ text_beside s)))
