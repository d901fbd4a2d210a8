-- What the sections of a program that breaks no rule cost.
use Rattle.std.proofs.Common.{◌≡◌, ◌≤◌, ℕ, suc, arith, Bool, true, false, List, [], ◌∷◌, refl, ap, sym, ◌∙◌, Option, Some, None, Ok, Err}
use Rattle.std.specs.Prelude.{nat_le, if◌then◌else◌}
use Rattle.std.proofs.lemmas.Bool.Decides.{nat_tests}
use Rattle.gq_model.specs.declared.section.Section.TheVariants.{Main, Opening, Upgrading, Calling, Closing, Reacting}
use Rattle.gq_model.specs.machine.Program.{Statements, size, section_in}
use Rattle.gq_model.specs.machine.Sections.{same_section}
use Rattle.gq_model.specs.declared.section.Section.{Section}
use Rattle.gq_model.specs.declared.fault.Rule.TheVariants.{BudgetTooLarge}
use Rattle.gq_model.specs.rules.Kinds.{Subject}
use Rattle.gq_model.specs.rules.Flow.{Flowed, section_flow}
use Rattle.gq_model.specs.rules.Budgets.{section_cost}
use Rattle.gq_model.specs.rules.Verdict.{Fault, greatest_cost, fault_of, first_fault, program_fault}
use Rattle.gq_verify.specs.Subjects.{cost_in}
use Rattle.gq_verify.specs.Saturated_numbers.{saturated}
use Rattle.gq_model.proofs.Rules_laws.{accepted}
use Rattle.gq_model.proofs.Small_facts.{or_first_none}

-- a section has the cost of its statements
found_cost : (s : Section) (p : Section × Statements) (rest : List (Section × Statements)) (b : Statements) (t : Bool) (x : Option Statements) (y : Option ℕ) →
    (x ≡ Some b → y ≡ Some (section_cost s b)) → (if t then Some p.1 else x) ≡ Some b → (if t then Some (section_cost s p.1) else y) ≡ Some (section_cost s b)
found_cost s p rest b true x y go e = let same : p.1 ≡ b = cc in ap (λ (b : Statements). Some (section_cost s b)) same
found_cost s p rest b false x y go e = go e

cost_found : (s : Section) (ps : List (Section × Statements)) (b : Statements) → section_in s ps ≡ Some b → cost_in s ps ≡ Some (section_cost s b)
cost_found s [] b e = cc
cost_found s (p ∷ rest) b e = found_cost s p rest b (same_section s p.0) (section_in s rest) (cost_in s rest) (cost_found s rest b) e

none_cost : (s : Section) (p : Section × Statements) (t : Bool) (x : Option Statements) (y : Option ℕ) → (x ≡ None → y ≡ None) →
    (if t then Some p.1 else x) ≡ None → (if t then Some (section_cost s p.1) else y) ≡ None
none_cost s p true x y go e = cc
none_cost s p false x y go e = go e

pub cost_none : (s : Section) (ps : List (Section × Statements)) → section_in s ps ≡ None → cost_in s ps ≡ None
cost_none s [] e = refl
cost_none s (p ∷ rest) e = none_cost s p (same_section s p.0) (section_in s rest) (cost_in s rest) (cost_none s rest) e

same_cost : (s t : Section) (b : Statements) → same_section s t ≡ true → section_cost s b ≡ section_cost t b
same_cost Main Main b e = refl
same_cost Opening Opening b e = refl
same_cost (Upgrading l) (Upgrading m) b e = refl
same_cost (Calling l) (Calling m) b e = refl
same_cost (Closing l) (Closing m) b e = refl
same_cost (Reacting i) (Reacting j) b e = refl
same_cost _ _ b e = cc

affordable : (n : ℕ) (f : Fault) → (if nat_le n greatest_cost then None else Some f) ≡ None → n ≤ greatest_cost
affordable n f e = by_test (nat_le n greatest_cost) refl e where
  by_test : (t : Bool) → nat_le n greatest_cost ≡ t → (if t then None else Some f) ≡ None → n ≤ greatest_cost
  by_test true is e = grind (arith, nat_tests)
  by_test false is e = cc

cheap_here : (s : Section) (b : Statements) (x : Flowed) → fault_of s b x ≡ None → section_cost s b ≤ greatest_cost
cheap_here s b (Ok t) e = affordable (section_cost s b) (record { rule = BudgetTooLarge; section = s; place = suc (size b) }) e
cheap_here s b (Err f) e = cc

cheap_by : (s : Section) (p : Section × Statements) (b : Statements) (t : Bool) (x : Option Statements) → same_section s p.0 ≡ t →
    section_cost p.0 p.1 ≤ greatest_cost → (x ≡ Some b → section_cost s b ≤ greatest_cost) → (if t then Some p.1 else x) ≡ Some b →
    section_cost s b ≤ greatest_cost
cheap_by s p b true x is h go e =
    let same : p.1 ≡ b = cc in
    let cost = same_cost s p.0 p.1 is in
    let here = ap (λ (b : Statements). section_cost s b) same in omega (arith, cost, here, h)
cheap_by s p b false x is h go e = go e

cheap : (v : Subject) (s : Section) (ps : List (Section × Statements)) (b : Statements) → first_fault v ps ≡ None → section_in s ps ≡ Some b →
    section_cost s b ≤ greatest_cost
cheap v s [] b f e = cc
cheap v s (p ∷ rest) b f e =
    let q = or_first_none (fault_of p.0 p.1 (section_flow v p.0)) (first_fault v rest) f in
    cheap_by s p b (same_section s p.0) (section_in s rest) refl (cheap_here p.0 p.1 (section_flow v p.0) q.0) (cheap v s rest b q.1) e

-- so it costs what is kept
pub cost_is : (v : Subject) (s : Section) (b : Statements) (n : ℕ) → program_fault v ≡ None → section_in s v.program.sections ≡ Some b →
    n ≡ saturated (section_cost s b) → Some n ≡ cost_in s v.program.sections
cost_is v s b n f e is =
    let h = cheap v s v.program.sections b (accepted v f).1 e in
    let k : n ≡ section_cost s b = omega (arith, h, is) in
    ap (λ (n : ℕ). Some n) k ∙ sym (cost_found s v.program.sections b e)
