-- At the start of a system whose programs keep the rules, worlds are typed.
use Rattle.std.proofs.Common.{◌≡◌, ℕ, zero, suc, List, [], ◌∷◌, Option, Some, None, Ok, refl, ap, sym, ◌∙◌, subst}
use Rattle.std.specs.Prelude.{slice_get}
use Rattle.gq_model.specs.declared.section.Section.TheVariants.{Main}
use Rattle.gq_model.specs.machine.Program.{Statements, section_in}
use Rattle.gq_model.specs.machine.Scenario.{System, Component}
use Rattle.gq_model.specs.machine.World.{Leaf, first_phase, start_leaf, start_leaves, start}
use Rattle.gq_model.specs.rules.Kinds.{Kind, AbstractState}
use Rattle.gq_model.specs.rules.Flow.{flow, context, body, start_of}
use Rattle.gq_model.specs.rules.Use.{subject}
use Rattle.gq_laws.specs.Typing.{Extra, StandsBy, IsTypedBy, IsInSection, GoesOnFrom}
use Rattle.gq_model.proofs.Small_facts.{some_same, none_some}
use Rattle.gq_laws.proofs.statement_rules.Stance_frame.{starts}
use Rattle.gq_laws.proofs.verified_programs.Sure_system_facts.{IsSure}
use Rattle.gq_model.specs.declared.phase.Phase.{Phase}
use Rattle.gq_model.specs.declared.phase.Phase.TheVariants.{Running, Pending}

-- each leaf is at the start of its program
pub start_at : (cs : List Component) (x : ℕ) (c : Component) (leaf : Leaf) → slice_get cs x ≡ Some c → slice_get (start_leaves cs) x ≡ Some leaf
    → leaf ≡ start_leaf c
start_at [] x c leaf placed there = absurd (none_some placed)
start_at (b ∷ rest) zero c leaf placed there = sym (some_same there) ∙ ap start_leaf (some_same placed)
start_at (b ∷ rest) (suc x) c leaf placed there = start_at rest x c leaf placed there

-- nothing is promised yet
abbrev pub nothing : ℕ → Option Kind
nothing k = None

module _ (extra : Extra) (system : System) (sure : IsSure system) where
  module _ (x : ℕ) (c : Component) (placed : slice_get system.components x ≡ Some c) (end : AbstractState)
      (whole : flow (context (subject system c) Main) (start_of (subject system c) Main) (body (subject system c) Main) ≡ Ok end)
      (listed : (list : Statements) × (section_in Main c.node.program.sections ≡ Some list))
      (also : extra x Main (start_of (subject system c) Main) (body (subject system c) Main) []) where
    begins : (phase : Phase) → GoesOnFrom system (start system) x phase (start_of (subject system c) Main) (start_of (subject system c) Main)
        → IsInSection nothing extra system (start system) x c (start_leaf c) phase Main
    begins phase from =
        let v = subject system c in
        record {
          state = start_of v Main;
          next = start_of v Main;
          end = end;
          meets = starts nothing v (start system) c (sure.locals x c placed);
          from = from;
          goes_on = (end, whole, refl);
          whole = whole;
          listed = listed;
          also = also;
        }

    start_stands : (after : Option (List ℕ)) → StandsBy nothing extra system (start system) x c (start_leaf c) (first_phase after)
    start_stands None = begins Running refl
    start_stands (Some name) = begins Pending refl

pub start_typed : (extra : Extra) (system : System) → IsSure system
    → (main_flows : (x : ℕ) (c : Component) → slice_get system.components x ≡ Some c
    → (end : AbstractState) × (flow (context (subject system c) Main) (start_of (subject system c) Main) (body (subject system c) Main) ≡ Ok end))
    → (main_listed : (x : ℕ) (c : Component) → slice_get system.components x ≡ Some c
    → (list : Statements) × (section_in Main c.node.program.sections ≡ Some list))
    → ((x : ℕ) (c : Component) → slice_get system.components x ≡ Some c → extra x Main (start_of (subject system c) Main) (body (subject system c) Main) [])
    → IsTypedBy nothing extra system (start system)
start_typed extra system sure main_flows main_listed also =
    record {
      reports = λ k s there. absurd (none_some there);
      leaves = λ x c leaf placed there.
          let f = main_flows x c placed in
          subst (λ l. StandsBy nothing extra system (start system) x c l l.phase) (sym (start_at system.components x c leaf placed there))
          (start_stands extra system sure x c placed f.0 f.1 (main_listed x c placed) (also x c placed) c.node.after);
      sessions = λ k s there. absurd (none_some there);
      requests = tt;
    }
