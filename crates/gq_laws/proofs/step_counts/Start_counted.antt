-- At the start of an accepted scenario `main` has been asked for once in each leaf, and nothing else: worlds are counted.
use Rattle.std.proofs.Common.{◌≡◌, ◌≤◌, ℕ, ◌+◌, ◌==◌, ◌&&◌, cond, Bool, true, false, List, [], ◌∷◌, Option, Some, None, Ok, refl, ap, sym, ◌∙◌}
use Rattle.std.proofs.Common.{subst, arith}
use Rattle.std.specs.Prelude.{slice_get}
use Rattle.gq_model.specs.declared.section.Section.{Section}
use Rattle.gq_model.specs.declared.section.Section.TheVariants.{Main, Opening, Upgrading, Calling, Closing, Reacting}
use Rattle.gq_model.specs.machine.Program.{Statements, section_in, body_of}
use Rattle.gq_model.specs.machine.Sections.{same_section, is_own_section}
use Rattle.gq_model.specs.machine.Scenario.{System, Component}
use Rattle.gq_model.specs.machine.World.{Leaf, first_phase, start_leaf, start}
use Rattle.gq_model.specs.rules.Kinds.{AbstractState, Subject}
use Rattle.gq_model.specs.rules.Flow.{flow, context, body, start_of}
use Rattle.gq_model.specs.rules.Budgets.{cost, section_cost, section_requests}
use Rattle.gq_model.specs.rules.Use.{subject, from_sections, steps_of}
use Rattle.gq_laws.specs.internal.Remaining.{left_requests}
use Rattle.gq_laws.specs.internal.Section_counts.{Often, Requests, ahead, one_at, waiting, Within, since_start, steps_taken, Counts, IsCounted}
use Rattle.gq_model.proofs.Small_facts.{some_same}
use Rattle.gq_laws.proofs.verified_programs.Accepted_program_facts.{main_there}
use Rattle.gq_laws.proofs.remaining_work.Move_requests_left.{requests_start}
use Rattle.gq_laws.proofs.verified_programs.Sure_system_facts.{IsSure}
use Rattle.gq_laws.proofs.typed_worlds.Start_typed.{nothing, start_typed}
use Rattle.gq_laws.proofs.step_counts.Section_request_sums.{one_here, steps_one, from_one}
use Rattle.gq_laws.proofs.remaining_work.Remaining_program_statements.{start_get}
use Rattle.gq_model.proofs.Rules_laws.{section_flows}

-- SUMS OF NOTHING

steps_none : (sections : List (Section × Statements)) → steps_of (λ q. 0) sections ≡ 0
steps_none [] = refl
steps_none (p ∷ rest) = let further = steps_none rest in omega (arith, further)

from_none : (v : Subject) (service : List ℕ) (section : Section) (sections : List (Section × Statements))
    → from_sections (λ q. 0) v service section sections ≡ 0
from_none v service section [] = refl
from_none v service section (p ∷ rest) = let further = from_none v service section rest in omega (arith, further)

-- LEAVES

-- each leaf is at the start of its program
-- all of `main` is ahead
all_ahead : (c : Component) (list : Statements) → section_in Main c.node.program.sections ≡ Some list
    → ahead (start_leaf c) (first_phase c.node.after) ≡ cost list + 1
all_ahead c list there = by c.node.after
  where
    whole : cost (body_of (section_in Main c.node.program.sections)) ≡ cost list
    whole = ap (λ o. cost (body_of o)) there

    by : (after : Option (List ℕ)) → ahead (start_leaf c) (first_phase after) ≡ cost list + 1
    by None = omega (arith, whole)
    by (Some name) = omega (arith, whole)

-- the requests of `main` are left
abbrev left_of : System → Option Component → List ℕ → Section → ℕ
left_of system None service section = 0
left_of system (Some c) service section = section_requests (subject system c) Main service section

never_signalled : (x i : ℕ) → one_at x Main x (Reacting i) ≡ 0
never_signalled x i = by (x == x)
  where
    by : (b : Bool) → ◌≡◌ {A = ℕ} (cond (b && false) 1 0) 0
    by true = refl
    by false = refl

not_main : (x : ℕ) (section : Section) → is_own_section section ≡ false → one_at x Main x section ≡ 0
not_main x section e = by (x == x) (same_section section Main) (other section e)
  where
    other : (section : Section) → is_own_section section ≡ false → same_section section Main ≡ false
    other Main e = absurd cc
    other Opening e = refl
    other (Upgrading l) e = refl
    other (Calling l) e = refl
    other (Closing l) e = refl
    other (Reacting i) e = absurd cc

    by : (a b : Bool) → b ≡ false → ◌≡◌ {A = ℕ} (cond (a && b) 1 0) 0
    by true b e = ap (λ b. cond b 1 0) e
    by false b e = refl

module _ (system : System) (sure : IsSure system) where
  main_listed : (x : ℕ) (c : Component) → slice_get system.components x ≡ Some c → (list : Statements) × (section_in Main c.node.program.sections ≡ Some list)
  main_listed x c there = main_there (subject system c) (sure.faultless x c there)

  main_flows : (x : ℕ) (c : Component) → slice_get system.components x ≡ Some c
      → (end : AbstractState) × (flow (context (subject system c) Main) (start_of (subject system c) Main) (body (subject system c) Main) ≡ Ok end)
  main_flows x c there =
      let l = main_listed x c there in
      let f = section_flows (subject system c) Main l.0 (sure.faultless x c there) l.1 in
      (f.0, f.2)

  done : Often
  done x section = one_at x Main x section

  left : Requests
  left y service section = left_of system (slice_get system.components y) service section

  within_left : (x : ℕ) (c : Component) → slice_get system.components x ≡ Some c
      → Within system left x Main (start_of (subject system c) Main) (body (subject system c) Main) []
  unfolding left
  within_left x c there b placed service section =
      subst (λ b. left_requests service section (context (subject system b) Main) (start_of (subject system c) Main) (body (subject system c) Main) []
      ≤ left_of system (slice_get system.components x) service section) (some_same (sym there ∙ placed))
      (let whole = requests_start service section (context (subject system c) Main) (start_of (subject system c) Main) (body (subject system c) Main) refl in
      let is : left_of system (slice_get system.components x) service section ≡ section_requests (subject system c) Main service section =
      ap (λ o. left_of system o service section) there in
      omega (arith, whole, is))

  taken : (x : ℕ) (c : Component) (leaf : Leaf) → slice_get system.components x ≡ Some c → slice_get (start system).leaves x ≡ Some leaf
      → leaf.steps + ahead leaf leaf.phase + steps_of (waiting (start system) x) c.node.program.sections ≤ steps_taken (start system) x + steps_of (done x)
      c.node.program.sections
  unfolding done
  taken x c leaf placed there =
      let same = start_get system.components x c leaf placed there in
      let l = main_listed x c placed in
      let steps : leaf.steps ≡ 0 = ap (λ (l : Leaf). l.steps) (sym same) in
      let whole : ahead leaf leaf.phase ≡ cost l.0 + 1 = ap (λ (l : Leaf). ahead l l.phase) (sym same) ∙ all_ahead c l.0 l.1 in
      let none = steps_none c.node.program.sections in
      let pays : section_cost Main l.0 ≤ steps_of (one_at x Main x) c.node.program.sections = steps_one x Main c.node.program.sections l.0 l.1 in
      omega (arith, steps, whole, none, pays)

  requests : (y : ℕ) (c : Component) → slice_get system.components y ≡ Some c → (service : List ℕ) (section : Section)
      → 0 + left y service section + from_sections (waiting (start system) y) (subject system c) service section c.node.program.sections
      ≤ from_sections (done y) (subject system c) service section c.node.program.sections
  unfolding done left
  requests y c placed service section =
      let l = main_listed y c placed in
      let is : left_of system (slice_get system.components y) service section ≡ section_requests (subject system c) Main service section =
      ap (λ o. left_of system o service section) placed in
      let none = from_none (subject system c) service section c.node.program.sections in
      let pays = from_one y Main (subject system c) service section c.node.program.sections l.0 l.1 in
      omega (arith, is, none, pays)

  first_counts : Counts (since_start system) done (λ y service q. 0) left system (start system)
  unfolding done
  first_counts =
      record {
        once = λ x. (let one = one_here x Main in omega (arith, one));
        reacted = λ x i. (let none = never_signalled x i in omega (arith, none));
        taken = taken;
        asked = λ x section other. (let none = not_main x section other in omega (arith, none));
        requests = requests;
      }

  pub start_counted : IsCounted (since_start system) system (start system)
  start_counted = record {
    promised = nothing;
    done = done;
    made = λ y service q. 0;
    left = left;
    typed = start_typed (Within system left) system sure main_flows main_listed within_left;
    counts = first_counts;
  }
