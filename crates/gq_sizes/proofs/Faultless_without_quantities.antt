-- A program that breaks no rule breaks none without quantities, and its numbers are not below the least ones.
use Rattle.std.proofs.Common.{◌≡◌, ℕ, zero, suc, ◌≤◌, List, [], ◌∷◌, map, Option, Some, None, Ok, refl, ap, sym, ◌∙◌, subst, arith}
use Rattle.std.specs.Prelude.{slice_index_or}
use Rattle.gq_model.specs.machine.Amounts.{Amount, amount}
use Rattle.gq_model.specs.declared.section.Section.{Section}
use Rattle.gq_model.specs.declared.section.Section.TheVariants.{Main, Opening, Upgrading, Calling, Closing, Reacting}
use Rattle.gq_model.specs.declared.program.Instruction.{Instruction}
use Rattle.gq_model.specs.declared.program.Instruction.TheVariants.{Say, Out, Operands, Make, MakePool, Load}
use Rattle.gq_model.specs.declared.program.Instruction.TheVariants.{Store, Free, Take, Give, Peek, Poke, Open, Upgrade, Call, Close}
use Rattle.gq_model.specs.machine.Program.{Program, Statements, Done, Do, If, Loop, body_of, section_in}
use Rattle.gq_model.specs.machine.Scenario.{Interface, Interfaces, interface_in}
use Rattle.gq_model.specs.rules.Kinds.{AbstractState, Subject, Context, inside}
use Rattle.gq_model.specs.rules.Rules.{covered, within_need, judged}
use Rattle.gq_model.specs.rules.Flow.{at, flow, state_or, context, body, points, start_of}
use Rattle.gq_model.specs.rules.Verdict.{program_fault}
use Rattle.gq_sizes.specs.Unsized_equality.{Affords, Allows, Along, ContextsAsOne, SubjectsAsOne, StatesAsOne, PointsAsOne}
use Rattle.gq_sizes.specs.Size.{gifts, section_points}
use Rattle.gq_program.specs.Interfaces.{unbounded}
use Rattle.gq_sizes.proofs.Least_sizes_fit.{free, found_again}
use Rattle.gq_sizes.proofs.Program_under_larger_gifts.{flows_through, program_so, starts}
use Rattle.gq_sizes.proofs.Flow_under_larger_gifts.{points_so}
use Rattle.gq_sizes.proofs.Equal_section_gifts.{gifts_so}

-- nothing is asked of a statement, nor of a state
abbrev pub AnyStep : AbstractState → Instruction → Type 0
AnyStep s i = Unit {0}

abbrev pub AnyState : AbstractState → Type 0
AnyState s = Unit {0}

pub along_any : (c : Context) (s : AbstractState) (list : Statements) → Along AnyStep AnyState c s list
along_any c s Done = tt
along_any c s (Do i rest) = (tt, tt, along_any c (state_or s (at 1 (judged c s i))) rest)
along_any c s (If arm other rest) =
    let t : AbstractState = record s { bounds = [] } in (along_any c t arm, along_any c t other, along_any c (state_or t (flow c t arm)) rest)
along_any c s (Loop n body rest) = (along_any (inside c n) s body, along_any c s rest)

no_ram : (ups : List Amount) (l : ℕ) → (slice_index_or (map (λ a. amount 0 a.caps) ups) l (amount 0 0)).ram ≡ 0
no_ram [] l = refl
no_ram (a ∷ ups) zero = refl
no_ram (a ∷ ups) (suc l) = no_ram ups l

-- a program v, and one that differs in quantities alone and has none
module _ (v w : Subject) (zs : Interfaces) (h : SubjectsAsOne v w) (same : w.interfaces ≡ free zs)
    (uncounted : (j : Interface) → w.provided ≡ Some j → j.counted ≡ []) where
  found_unbounded : (service : List ℕ) (j : Interface) → interface_in service w.interfaces ≡ Some j → (i : Interface) × (j ≡ unbounded i)
  found_unbounded service j e = let p = found_again zs service j ((λ k. interface_in service (sym same k)) ∙ e) in (p.0, p.2)

  free_affords : (section : Section) (t : AbstractState) (i : Instruction) → Affords (context w section) t i
  free_affords section t (Open place service n) = λ j e.
      let p = found_unbounded service j e in subst (λ (k : Interface). k.need.ram ≤ n) (sym p.1) (omega arith)
  free_affords section t (Upgrade place n) = λ service level given j link e.
      let p = found_unbounded service j e in
      subst (λ (k : Interface). (slice_index_or k.upgrades level (amount 0 0)).ram ≤ n) (sym p.1) (omega (arith, no_ram p.0.upgrades level))
  free_affords section t (Say text) = tt
  free_affords section t Out = tt
  free_affords section t (Operands m) = tt
  free_affords section t (Make form place m) = tt
  free_affords section t (MakePool place m k) = tt
  free_affords section t (Load width place) = tt
  free_affords section t (Store width place) = tt
  free_affords section t (Free place) = tt
  free_affords section t (Take place) = tt
  free_affords section t (Give place) = tt
  free_affords section t (Peek place) = tt
  free_affords section t (Poke place) = tt
  free_affords section t (Call place) = tt
  free_affords section t (Close place) = tt

  free_within : (section : Section) (q : Option Interface) (t : AbstractState) → ((j : Interface) → q ≡ Some j → j.counted ≡ []) → within_need section q t ≡ Ok
      t
  free_within Main q t h = refl
  free_within (Reacting i) q t h = refl
  free_within Opening None t h = refl
  free_within Opening (Some j) t h = (λ k. covered (h j refl k) j 0 t)
  free_within (Upgrading l) None t h = refl
  free_within (Upgrading l) (Some j) t h = (λ k. covered (h j refl k) j l t)
  free_within (Calling l) None t h = refl
  free_within (Calling l) (Some j) t h = (λ k. covered (h j refl k) j l t)
  free_within (Closing l) None t h = refl
  free_within (Closing l) (Some j) t h = (λ k. covered (h j refl k) j l t)

  pub free_allows : (section : Section) → Allows AnyStep AnyState (context v section) (context w section)
  free_allows section = record {
    affords = λ s t i o a. free_affords section t i;
    covers = λ s t o b. free_within section w.provided t uncounted;
  }

  pub any_along : (section : Section) → Along AnyStep AnyState (context v section) (start_of v section) (body v section)
  any_along section = along_any (context v section) (start_of v section) (body v section)

  module _ (fine : program_fault v ≡ None) where
    -- a program that breaks no rule breaks none without quantities
    pub fits_free : program_fault w ≡ None
    fits_free =
        program_so v w h fine (λ section. AnyStep) (λ section. AnyState) (λ section list there. free_allows section)
        (λ section list there. any_along section) (λ section list there. tt)

    starts_free : (section : Section) → StatesAsOne v.interfaces w.interfaces (start_of v section) (start_of w section)
    starts_free =
        starts v w h fine (λ section. AnyStep) (λ section. AnyState) (λ section list there. free_allows section)
        (λ section list there. any_along section)

    both_contexts : (section : Section) → ContextsAsOne (context v section) (context w section)
    both_contexts section = record { subject = h; section = refl; counts = refl }

    bodies : (section : Section) → body v section ≡ body w section
    bodies section = ap (λ (p : Program). body_of (section_in section p.sections)) h.program

    -- what is known at the points of a section is the same but for quantities
    pub points_free : (section : Section) → PointsAsOne v.interfaces w.interfaces (section_points v section) (section_points w section)
    points_free section =
        let p = flows_through v section fine in
        let q = points_so AnyStep AnyState (context v section) (context w section) (start_of v section) (start_of w section) p.0 (body v section)
        (both_contexts section) (starts_free section) (free_allows section) (any_along section) p.1 in
        subst (λ l. PointsAsOne v.interfaces w.interfaces (section_points v section) (points (context w section) (start_of w section) l)) (bodies section) q

    -- and its gifts are the same
    pub gifts_free : (section : Section) → gifts (context v section) (start_of v section) (body v section)
        ≡ gifts (context w section) (start_of w section) (body v section)
    gifts_free section =
        let p = flows_through v section fine in
        gifts_so AnyStep AnyState (context v section) (context w section) (start_of v section) (start_of w section) p.0 (body v section)
        (both_contexts section) (starts_free section) (free_allows section) (any_along section) p.1
