-- What is sure of the system of a scenario that is well formed and accepted.
use Rattle.std.proofs.Common.{◌≡◌, ℕ, zero, suc, ◌+◌, ◌==◌, cond, Bool, true, false, ◌&&◌, nat_le, List, [], ◌∷◌, length, Option, Some, None, refl, ap, sym}
use Rattle.std.proofs.Common.{◌∙◌, subst, arith, eqb-true}
use Rattle.std.specs.Prelude.{slice_get, sum_by}
use Rattle.gq_model.specs.machine.Amounts.{Ram, Caps}
use Rattle.gq_model.specs.machine.Lists.{or_first, all_of, between}
use Rattle.gq_model.specs.declared.section.Section.{Section}
use Rattle.gq_model.specs.machine.Program.{Statements, Program, size, section_in}
use Rattle.gq_model.specs.machine.Sections.{same_section, is_section, section_number}
use Rattle.gq_model.specs.texts.Operands.{greatest_number}
use Rattle.gq_model.specs.texts.Code.{is_body, are_sections, greatest_statements, IsProgram}
use Rattle.gq_model.specs.machine.Scenario.{Scenario, System, Component, Interfaces, components, system, interface_in, service_in}
use Rattle.gq_model.specs.machine.Routes.{Routed, To, No_route, Ambiguous, Provides_differs, is_service, route, leaf_routed, server_of}
use Rattle.gq_model.specs.rules.Resolve.{Unresolved, unresolved}
use Rattle.gq_model.specs.rules.Verdict.{Fault, program_fault}
use Rattle.gq_model.specs.rules.Use.{subject}
use Rattle.gq_model.specs.rules.Accept.{Refusal, bad_program, program_refusal, not_resolved, own_refusal, steps_refusal, budgets, IsAccepted}
use Rattle.gq_laws.specs.Sound_scenarios.{IsSound}
use Rattle.gq_laws.specs.internal.Remaining_instructions.{ArePrograms, IsGood}
use Rattle.gq_model.proofs.Small_facts.{none_some, some_same, or_first_none}
use Rattle.std.proofs.lemmas.Bool.{and_parts}
use Rattle.gq_laws.proofs.quota_payment.Routed_server_provides.{numbered_name, server_provides}
use Rattle.gq_model.proofs.Small_facts.{text_is}
use Rattle.gq_laws.proofs.remaining_work.Program_statements_valid.{all_good}
use Rattle.gq_laws.proofs.verified_programs.Sure_system_facts.{IsSure}
use Rattle.gq_model.proofs.Rules_laws.{same_section_is}

-- ACCEPTED

no_fault : (leaf : List ℕ) (f : Option Fault) → bad_program leaf f ≡ None → f ≡ None
no_fault leaf None e = refl
no_fault leaf (Some fault) e = absurd (none_some (sym e))

programs_pass : (system : System) (cs : List Component) → program_refusal system cs ≡ None → (x : ℕ) (c : Component) → slice_get cs x ≡ Some c
    → program_fault (subject system c) ≡ None
programs_pass system [] e x c there = absurd (none_some there)
programs_pass system (d ∷ cs) e zero c there =
    let p = or_first_none (bad_program d.node.name (program_fault (subject system d))) (program_refusal system cs) e in
    subst (λ c. program_fault (subject system c) ≡ None) (some_same there) (no_fault d.node.name (program_fault (subject system d)) p.0)
programs_pass system (d ∷ cs) e (suc x) c there =
    let p = or_first_none (bad_program d.node.name (program_fault (subject system d))) (program_refusal system cs) e in programs_pass system cs p.1 x c there

no_unresolved : (f : Option Unresolved) → not_resolved f ≡ None → f ≡ None
no_unresolved None e = refl
no_unresolved (Some fault) e = absurd (none_some (sym e))

module _ (s : Scenario) (accepted : IsAccepted s) where
  abbrev rest : Option Refusal
  rest =
      or_first (not_resolved (unresolved s))
      (or_first (own_refusal Ram (components s) (budgets s))
      (or_first (steps_refusal (components s) (budgets s)) (own_refusal Caps (components s) (budgets s))))

  parts : (program_refusal (system s) (components s) ≡ None) × (rest ≡ None)
  parts = or_first_none (program_refusal (system s) (components s)) rest accepted

  pub all_pass : (x : ℕ) (c : Component) → slice_get (components s) x ≡ Some c → program_fault (subject (system s) c) ≡ None
  all_pass = programs_pass (system s) (components s) parts.0

  pub is_resolved : unresolved s ≡ None
  is_resolved = no_unresolved (unresolved s) (or_first_none (not_resolved (unresolved s)) _ parts.1).0

-- PROGRAMS

section_fits : (n : ℕ) (sections : List (Section × Statements)) (section : Section) (list : Statements) → are_sections n sections ≡ true
    → section_in section sections ≡ Some list → is_section section ≡ true
section_fits n [] section list e there = absurd (none_some there)
section_fits n (p ∷ rest) section list e there =
    let a = and_parts (is_section p.0 && nat_le n (section_number p.0) && is_body 4 p.1) (are_sections (1 + section_number p.0) rest) e in
    let b = and_parts (is_section p.0 && nat_le n (section_number p.0)) (is_body 4 p.1) a.0 in
    let c = and_parts (is_section p.0) (nat_le n (section_number p.0)) b.0 in
    by (same_section section p.0) refl there c.0 (λ f. section_fits (1 + section_number p.0) rest section list a.1 f)
  where
    by : (b : Bool) → same_section section p.0 ≡ b → cond b (Some p.1) (section_in section rest) ≡ Some list → is_section p.0 ≡ true
        → (section_in section rest ≡ Some list → is_section section ≡ true) → is_section section ≡ true
    by true same f is further = ap is_section (same_section_is section p.0 same) ∙ is
    by false other f is further = further f

program_parts : (p : Program) → IsProgram p → (length p.locals ≡ 8) × (are_sections 0 p.sections ≡ true)
program_parts p e =
    let a = and_parts (length p.locals == 8 && all_of (between 0 greatest_number) p.locals && are_sections 0 p.sections)
    (nat_le (sum_by (λ s. size s.1) p.sections) greatest_statements) e in
    let b = and_parts (length p.locals == 8 && all_of (between 0 greatest_number) p.locals) (are_sections 0 p.sections) a.0 in
    let c = and_parts (length p.locals == 8) (all_of (between 0 greatest_number) p.locals) b.0 in
    (eqb-true (length p.locals) 8 c.0, b.1)

-- SERVERS

found : (s : Scenario) (c : Component) (service : List ℕ) (y : ℕ) → server_of (system s) c service ≡ Some y
    → (d : Component) × (slice_get (components s) y ≡ Some d)
found s c service y e = by (route c.levels service) e
  where
    by : (r : Routed) → leaf_routed r (components s) ≡ Some y → (d : Component) × (slice_get (components s) y ≡ Some d)
    by (To name) f = let u = numbered_name 0 name (components s) y f in let place = u.2 in (u.1, ap (slice_get (components s)) (omega (arith, place)) ∙ u.3)
    by No_route f = absurd (none_some f)
    by Ambiguous f = absurd (none_some f)
    by Provides_differs f = absurd (none_some f)

provides_by : (provides : Option (List ℕ)) (service : List ℕ) (interfaces : Interfaces) → is_service provides service ≡ true
    → service_in provides interfaces ≡ interface_in service interfaces
provides_by None service interfaces e = absurd (no e)
  where
    no : false ≡ true → ⊥
    no e = cc
provides_by (Some own) service interfaces e = ap (λ n. interface_in n interfaces) (text_is own service e)

-- ALL OF IT

pub sure_of : (s : Scenario) → IsSound s → IsSure (system s)
sure_of s sound =
    record {
      server = λ x y c service there routed. found s c service y routed;
      provides = λ x y c d service there routed at. provides_by d.node.provides service s.interfaces
          (server_provides s sound.formed.differ x y c d service there routed at);
      faultless = all_pass s sound.accepted;
      locals = λ x c there. (program_parts c.node.program (sound.formed.programs x c there)).0;
      sections = λ x c section list there listed. section_fits 0 c.node.program.sections section list
          (program_parts c.node.program (sound.formed.programs x c there)).1 listed;
      upgrades = sound.formed.upgrades;
      signals = sound.formed.signals;
    }

pub good_of : (s : Scenario) → IsSound s → ArePrograms (IsGood (system s)) (system s)
good_of s sound = all_good s sound.formed.programs (is_resolved s sound.accepted)
