-- The statements of a section, and what is left of them.
use Rattle.std.proofs.Common.{◌≡◌, ℕ, zero, suc, ◌+◌, ◌<◌, ◌≤◌, true, false, List, [], ◌∷◌, ◌++◌, length, drop, get_or, Option, Some, None}
use Rattle.std.proofs.Common.{refl, ap, sym, ◌∙◌, arith}
use Rattle.std.specs.Prelude.{if◌then◌else◌}
use Rattle.gq_model.specs.declared.section.Section.{Section}
use Rattle.gq_model.specs.declared.phase.Phase.{Phase}
use Rattle.gq_model.specs.declared.phase.Phase.TheVariants as phase
use Rattle.gq_model.specs.machine.Program.{Statements, Done, section_in}
use Rattle.gq_model.specs.machine.Sections.{same_section}
use Rattle.gq_model.specs.machine.World.{Leaf}
use Rattle.gq_bytecode.specs.Cores.{Core}
use Rattle.gq_bytecode.specs.Nexts.{state_in}
use Rattle.gq_bytecode.specs.Views.{state_of}
use Rattle.gq_machine.specs.Readers.{body_in}
use Rattle.gq_outcomes.specs.internal.Key_parts.{rests}
use Rattle.gq_outcomes.specs.internal.Keys.{left_key}
use Rattle.gq_outcomes.specs.internal.Left.{left_in}
use Rattle.gq_outcomes.proofs.keys.Left.{section_left}

module _ (s : Section) where
  -- one section, against those that are left
  pub section_next : (sections : List (Section × Statements)) (i : ℕ) (p : Section × Statements) → i < length sections → p ≡ get_or sections i p
      → section_in s (drop i sections) ≡ (if same_section s p.0 then Some p.1 else section_in s (drop (i + 1) sections))
  section_next [] i p l e = absurd (omega (arith, l))
  section_next (q ∷ sections) zero p l e =
      ap (λ (r : Section × Statements). if same_section s r.0 then Some r.1 else section_in s sections) (sym e)
  section_next (q ∷ sections) (suc i) p l e =
      let on : suc (i + 1) ≡ suc i + 1 = omega arith in
      section_next sections i p (omega (arith, l)) e
      ∙ ap (λ n. if same_section s p.0 then Some p.1 else section_in s (drop n (q ∷ sections))) on

  pub section_here : (sections : List (Section × Statements)) (i : ℕ) (p : Section × Statements) (all : Option Statements) → i < length sections
      → p ≡ get_or sections i p → same_section s p.0 ≡ true → section_in s (drop i sections) ≡ all → Some p.1 ≡ all
  section_here sections i p all l e same so_far =
      sym (section_next sections i p l e ∙ ap (λ b. if b then Some p.1 else section_in s (drop (i + 1) sections)) same) ∙ so_far

  pub section_past : (sections : List (Section × Statements)) (i : ℕ) (p : Section × Statements) (all : Option Statements) → i < length sections
      → p ≡ get_or sections i p → same_section s p.0 ≡ false → section_in s (drop i sections) ≡ all → section_in s (drop (i + 1) sections) ≡ all
  section_past sections i p all l e other so_far =
      sym (section_next sections i p l e ∙ ap (λ b. if b then Some p.1 else section_in s (drop (i + 1) sections)) other) ∙ so_far

  pub no_section : (sections : List (Section × Statements)) (i : ℕ) (all : Option Statements) → length sections ≤ i → section_in s (drop i sections) ≡ all
      → None ≡ all
  no_section [] zero all l so_far = so_far
  no_section [] (suc i) all l so_far = so_far
  no_section (q ∷ sections) zero all l so_far = absurd (omega (arith, l))
  no_section (q ∷ sections) (suc i) all l so_far = no_section sections i all (omega (arith, l)) so_far

-- a leaf that rests has no statements, and any other one those of its section
pub at_rest : (p : Phase) (body : Statements) → rests p ≡ true → Done ≡ body_in p body
at_rest phase.Pending body e = absurd (cc e)
at_rest phase.Running body e = absurd (cc e)
at_rest phase.Blocked body e = absurd (cc e)
at_rest phase.Serving body e = refl
at_rest phase.Handling body e = absurd (cc e)
at_rest phase.Exited body e = refl

pub in_section : (p : Phase) (body : Statements) → rests p ≡ false → body ≡ body_in p body
in_section phase.Pending body e = refl
in_section phase.Running body e = refl
in_section phase.Blocked body e = refl
in_section phase.Serving body e = absurd (cc e)
in_section phase.Handling body e = refl
in_section phase.Exited body e = absurd (cc e)

-- what a leaf that stands at these registers has left to do
pub todo_is : (l : Leaf) (body : Statements) (core : Core) → state_in l ≡ state_of body core l.steps
    → left_key l.todo l.loops ≡ left_in core.rounds 0 body core.position ++ 0 ∷ []
todo_is l body core stands = (λ i. left_key (stands i).todo (stands i).loops) ∙ section_left core.rounds body core.position
