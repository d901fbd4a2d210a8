-- A leaf that reacts to a signal.
use Rattle.std.proofs.Common.{◌≡◌, ◌+◌, ℕ, suc, List, None, Some, Option, sym, ap, subst, ◌∙◌, arith}
use Rattle.gq_model.proofs.Small_facts.{some_same}
use Rattle.gq_model.specs.declared.phase.Phase.TheVariants.{Handling}
use Rattle.gq_model.specs.declared.section.Section.TheVariants.{Reacting}
use Rattle.gq_model.specs.machine.Step.{first_signal}
use Rattle.gq_model.specs.machine.World.{Signal}
use Rattle.gq_bytecode.specs.Cores.{Core}
use Rattle.gq_bytecode.specs.Programs.{code_in}
use Rattle.gq_statements.specs.declared.actor.Current.{Current}
use Rattle.gq_leaf.specs.Coded.{Coded, coded_of}
use Rattle.gq_leaf.specs.Leaf_states.{section_at}
use Rattle.gq_leaf.specs.Section_boundaries.{reacted}
use Rattle.gq_leaf.specs.internal.Leaf_invariant.{IsInside}
use Rattle.gq_leaf.proofs.Signal_counts.{within_taken}
use Rattle.gq_leaf.proofs.Sound_program_code.{first_inside}
use Rattle.gq_leaf.proofs.leaf.Leaf.react.Goals as goal

pub invariant_of-self : goal.invariant_of-self
invariant_of-self c =
    let i = c.self.inside in
    let s = c.args.signal in
    let alone : i.current ≡ None = ap (λ (l : Coded). l.state.current) c.self.view_is ∙ c.requires.no_request in
    let P : Option Current → Type 0 = λ h. IsInside (code_in (section_at h (Some s)) i.code.sections) c.begin.new.self.position in
    record {
      code = c.self.invariant.code;
      inside = subst P (sym alone) (first_inside i.code (Reacting s) c.begin.new.self.position c.self.invariant.code
          (ap (λ (r : Core). r.position) c.begin.ensures));
      placed = c.place-self-inside.ensures ∙ ap (λ h. code_in (section_at h (Some s)) i.code.sections) (sym alone);
      taken = within_taken i.steps i.signals (s, c.take.new.self) c.take.ensures c.self.invariant.taken;
    }

pub returns : goal.returns
returns c signals e =
    let i = c.self.inside in
    let s = c.args.signal in
    let here : first_signal i.signals ≡ Some (s, signals) = ap (λ (l : Coded). first_signal l.state.signals) c.self.view_is ∙ e in
    let same : c.take.new.self ≡ signals = ap (λ (p : ℕ × List Signal). p.1) (some_same (sym c.take.ensures ∙ here)) in
    let steps : i.steps + 1 ≡ suc i.steps = omega arith in
    let P : Coded → Type 0 = λ o. coded_of Handling i.current (Some s) c.begin.new.self (i.steps + 1) c.take.new.self i.code
    ≡ record o { state = reacted o.state s signals } in
    subst P c.self.view_is (λ k. coded_of Handling i.current (Some s) (c.begin.ensures k) (steps k) (same k) i.code)

pub take-requires-clause-countable : goal.take-requires-clause-countable
take-requires-clause-countable c =
    let steps = ap (λ (l : Coded). l.state.steps) c.self.view_is in
    let few = c.requires.steps in
    (c.self.inside.steps, c.self.invariant.taken, omega (arith, steps, few))
