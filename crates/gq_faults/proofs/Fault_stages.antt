-- Stages: what is reported where one has faults, and what is known where it has none.
use Rattle.std.proofs.Common.{◌≡◌, ℕ, List, [], ◌∷◌, ◌++◌, length, map, None, refl, ap, sym, ◌∙◌, arith}
use Rattle.gq_model.specs.machine.Scenario.{Scenario, Component, Interfaces, components, system}
use Rattle.gq_model.specs.rules.Accept.{Refusal, Not_resolved}
use Rattle.gq_model.specs.rules.Resolve.{Unresolved, unresolved}
use Rattle.gq_model.specs.texts.Fault_texts.{refusal_text, unresolved_text}
use Rattle.gq_load.specs.Load.{LoadRefusal, Refused_for, fault_text, sources_fault}
use Rattle.gq_load.specs.internal.Judged_programs.{leaf_refusal, first_refusal}
use Rattle.gq_load.proofs.First_refusal_reason.{first_same}
use Rattle.gq_faults.specs.Found_lists.{all_found, listed_if, or_else, first}
use Rattle.gq_faults.specs.Scenario_faults.{rules_faults, sources_faults, unresolved_all}
use Rattle.gq_faults.specs.Found_lines.{lines_found}
use Rattle.gq_faults.specs.declared.fault_value.FoundFault.{FoundFault}
use Rattle.gq_faults.proofs.First_of_scenarios.{first_of_sources, first_of_rules, first_of_unresolved}

pub no_items : {A : Type 0} (l : List A) → length l ≡ 0 → l ≡ []
no_items [] e = refl
no_items (x ∷ l) e = absurd (omega arith)

some_items : {A : Type 0} (l : List A) → (length l ≡ 0 → ⊥) → l ≡ [] → ⊥
some_items l h e = h (ap length e)

resolved_lines : (l : List Unresolved) → map refusal_text (map Not_resolved l) ≡ map unresolved_text l
resolved_lines [] = refl
resolved_lines (u ∷ l) = ap (λ r. unresolved_text u ∷ r) (resolved_lines l)

refused_lines : (l : List Refusal) → map fault_text (map Refused_for l) ≡ map refusal_text l
refused_lines [] = refl
refused_lines (u ∷ l) = ap (λ r. refusal_text u ∷ r) (refused_lines l)

none_mapped : {A B : Type 0} (t : A → B) (l : List A) → [] ≡ map t l → l ≡ []
none_mapped t [] e = refl
none_mapped t (a ∷ l) e = absurd cc

-- what was found is all of the stage, and there is none of it
pub none_of : {A : Type 0} (t : A → List ℕ) (items : List FoundFault) (l : List A) → lines_found items ≡ map t l → length items ≡ 0 → l ≡ []
none_of t items l e z = none_mapped t l (sym (ap lines_found (no_items items z)) ∙ e)

some_of : {A : Type 0} (t : A → List ℕ) (items : List FoundFault) (l others : List A) → lines_found items ≡ map t l → (length items ≡ 0 → ⊥)
    → lines_found items ≡ map t (or_else l others)
some_of t [] l others e h = absurd (h refl)
some_of t (x ∷ items) [] others e h = absurd cc
some_of t (x ∷ items) (y ∷ l) others e h = e

-- unresolved ones were found, and are reported
pub some_unresolved : (items : List FoundFault) (l : List Unresolved) (others : List Refusal) → lines_found items ≡ map unresolved_text l →
    (length items ≡ 0 → ⊥)
    → lines_found items ≡ map refusal_text (or_else (map Not_resolved l) others)
some_unresolved items l others e h = some_of refusal_text items (map Not_resolved l) others (e ∙ sym (resolved_lines l)) h

pub no_unresolved : (lines : List (List ℕ)) (l : List Unresolved) (others : List Refusal) → l ≡ [] → lines ≡ map refusal_text others
    → lines ≡ map refusal_text (or_else (map Not_resolved l) others)
no_unresolved lines l others e h = h ∙ ap (λ l. map refusal_text (or_else (map Not_resolved l) others)) (sym e)

pub resolved : (s : Scenario) → unresolved_all s ≡ [] → unresolved s ≡ None
resolved s e = sym (first_of_unresolved s) ∙ ap first e

-- texts and codes that are no programs
pub some_sources : (items : List FoundFault) (l others : List LoadRefusal) → lines_found items ≡ map fault_text l → (length items ≡ 0 → ⊥)
    → lines_found items ≡ map fault_text (or_else l others)
some_sources items l others e h = some_of fault_text items l others e h

pub programs : (cs : List Component) → sources_faults cs ≡ [] → sources_fault cs ≡ None
programs cs e = sym (first_of_sources cs) ∙ ap first e

-- programs that break rules
pub some_rules : (items : List FoundFault) (l m others : List Refusal) (sources : List LoadRefusal) → sources ≡ [] → lines_found items ≡ map refusal_text l →
    l ≡ m
    → (length items ≡ 0 → ⊥) → lines_found items ≡ map fault_text (or_else sources (map Refused_for (or_else m others)))
some_rules items l m others sources none e same h =
    some_of refusal_text items m others (e ∙ ap (map refusal_text) same) h
    ∙ (sym (refused_lines (or_else m others)) ∙ ap (λ s. map fault_text (or_else s (map Refused_for (or_else m others)))) (sym none))

pub no_rules : (lines : List (List ℕ)) (m others : List Refusal) (sources : List LoadRefusal) → sources ≡ [] → m ≡ [] → lines ≡ map refusal_text others
    → lines ≡ map fault_text (or_else sources (map Refused_for (or_else m others)))
no_rules lines m others sources none e h =
    h ∙ (sym (refused_lines others)
    ∙ (ap (λ m. map fault_text (map Refused_for (or_else m others))) (sym e)
    ∙ ap (λ s. map fault_text (or_else s (map Refused_for (or_else m others)))) (sym none)))

pub rules_none : (s : Scenario) → all_found (λ (c : Component). listed_if (leaf_refusal s.interfaces c)) (components s) ≡ []
    → first_refusal s.interfaces (components s) ≡ None
rules_none s e = first_same (system s) (components s) ∙ (sym (first_of_rules (system s) (components s)) ∙ ap first e)

-- what was put behind nothing is all
pub from_none : (items : List FoundFault) (lines more : List (List ℕ)) → items ≡ [] → lines ≡ lines_found items ++ more → lines ≡ more
from_none items lines more none e = e ∙ ap (λ l. lines_found l ++ more) none

pub onto_none : (items : List FoundFault) (lines more : List (List ℕ)) → length items ≡ 0 → lines ≡ lines_found items ++ more → lines ≡ more
onto_none items lines more none e = from_none items lines more (no_items items none) e

-- the rules that these programs break, by these interfaces
abbrev pub found_rules : Interfaces → List Component → List Refusal
found_rules interfaces = all_found (λ (c : Component). listed_if (leaf_refusal interfaces c))

pub rules_as : (s : Scenario) (i : Interfaces) (cs : List Component) → i ≡ s.interfaces → cs ≡ components s
    → found_rules i cs ≡ rules_faults (system s) (components s)
rules_as s i cs e f = rw (e, f) refl

pub rules_clean : (s : Scenario) (i : Interfaces) (cs : List Component) → i ≡ s.interfaces → cs ≡ components s → found_rules i cs ≡ []
    → first_refusal s.interfaces cs ≡ None
rules_clean s i cs e f none =
    ap (first_refusal s.interfaces) f ∙ rules_none s (sym (rules_as s i cs e f) ∙ none)
