-- With the least quantities, what is known at the points of a program's sections is the same but for quantities, and so are its requests.
use Rattle.std.proofs.Common.{◌≡◌, ℕ, List, Option, Some, None, refl, ap, sym, ◌∙◌, subst}
use Rattle.gq_model.specs.declared.section.Section.{Section}
use Rattle.gq_model.specs.declared.program.Instruction.{Instruction}
use Rattle.gq_model.specs.machine.Program.{Program, Statements, Done, body_of, section_in}
use Rattle.gq_model.specs.rules.Budgets.{requests, section_requests}
use Rattle.gq_model.specs.rules.Kinds.{AbstractState, Subject}
use Rattle.gq_model.specs.rules.Flow.{context, body, points, start_of}
use Rattle.gq_model.specs.rules.Verdict.{program_fault}
use Rattle.gq_sizes.specs.Unsized_equality.{SubjectsAsOne, ContextsAsOne, StatesAsOne, PointsAsOne, Along, Allows}
use Rattle.gq_sizes.specs.Size.{section_points}
use Rattle.gq_sizes.proofs.Flow_under_larger_gifts.{points_so}
use Rattle.gq_sizes.proofs.Program_under_larger_gifts.{flows_through, starts}
use Rattle.gq_sizes.proofs.Equal_section_requests.{requests_so}

module _ (v w : Subject) (h : SubjectsAsOne v w) (fine : program_fault v ≡ None) (A : Section → AbstractState → Instruction → Type 0)
    (B : Section → AbstractState → Type 0)
    (allows : (section : Section) (list : Statements) → section_in section v.program.sections ≡ Some list
    → Allows (A section) (B section) (context v section) (context w section))
    (along : (section : Section) (list : Statements) → section_in section v.program.sections ≡ Some list
    → Along (A section) (B section) (context v section) (start_of v section) (body v section)) where
  contexts : (section : Section) → ContextsAsOne (context v section) (context w section)
  contexts section = record { subject = h; section = refl; counts = refl }

  first : (section : Section) → StatesAsOne v.interfaces w.interfaces (start_of v section) (start_of w section)
  first section = starts v w h fine A B allows along section

  bodies : (section : Section) → body v section ≡ body w section
  bodies section = ap (λ (p : Program). body_of (section_in section p.sections)) h.program

  pub points_sized : (section : Section) → PointsAsOne v.interfaces w.interfaces (section_points v section) (section_points w section)
  points_sized section =
      subst (λ l. PointsAsOne v.interfaces w.interfaces (section_points v section) (points (context w section) (start_of w section) l)) (bodies section)
      (by (section_in section v.program.sections) refl)
    where
      by : (o : Option Statements) → section_in section v.program.sections ≡ o
          → PointsAsOne v.interfaces w.interfaces (section_points v section) (points (context w section) (start_of w section) (body v section))
      by None e =
          let none : body v section ≡ Done = ap body_of e in
          subst (λ l. PointsAsOne v.interfaces w.interfaces (points (context v section) (start_of v section) l) (points (context w section) (start_of w
          section) l))
          (sym none) (first section, tt)
      by (Some list) e =
          let p = flows_through v section fine in
          points_so (A section) (B section) (context v section) (context w section) (start_of v section) (start_of w section) p.0 (body v section)
          (contexts section) (first section) (allows section list e) (along section list e) p.1

  pub requests_sized : (from : Section) (service : List ℕ) (section : Section)
      → section_requests v from service section ≡ section_requests w from service section
  requests_sized from service section =
      by (section_in from v.program.sections) refl ∙ ap (requests service section (context w from) (start_of w from)) (bodies from)
    where
      by : (o : Option Statements) → section_in from v.program.sections ≡ o
          → requests service section (context v from) (start_of v from) (body v from) ≡ requests service section (context w from) (start_of w from) (body v
          from)
      by None e =
          let none : body v from ≡ Done = ap body_of e in
          subst (λ l. requests service section (context v from) (start_of v from) l ≡ requests service section (context w from) (start_of w from) l)
          (sym none) refl
      by (Some list) e =
          let p = flows_through v from fine in
          requests_so service section (A from) (B from) (context v from) (context w from) (start_of v from) (start_of w from) p.0 (body v from)
          (contexts from) (first from) (allows from list e) (along from list e) p.1
