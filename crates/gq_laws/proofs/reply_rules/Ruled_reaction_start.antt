-- A signal that is taken: the leaf stands where the rules start the section for it.
use Rattle.std.proofs.Common.{◌≡◌, ℕ, List, [], length, Option, None, Some, refl, ap, sym, subst}
use Rattle.gq_model.specs.declared.section.Section.TheVariants.{Reacting}
use Rattle.gq_model.specs.machine.Program.{Statements, section_in, body_of}
use Rattle.gq_model.specs.rules.Use.{subject}
use Rattle.gq_model.specs.machine.World.{Signal, Leaf}
use Rattle.gq_model.specs.machine.Doing.{Doing, standing}
use Rattle.gq_model.specs.machine.Step.{reacting_to}
use Rattle.gq_model.specs.rules.Kinds.{Kind, Subject, no_kinds}
use Rattle.gq_model.specs.rules.Flow.{context}
use Rattle.gq_laws.specs.Typed.{IsCurrent, CurrentMeets}
use Rattle.gq_laws.specs.Inside_steps.{TakesLeaf}
use Rattle.gq_laws.specs.Section_rules.{Reacts, IsReadyFor, ReactsAsRuled}
use Rattle.gq_laws.proofs.session_links.Written_world_links.{set_here}
use Rattle.gq_laws.proofs.statement_rules.Ruled_step_shapes.{safe_gives, safe_need}
use Rattle.gq_laws.proofs.statement_rules.Stance_frame.{zeros}

module _ (promised : ℕ → Option Kind) (d : Doing) (t : TakesLeaf d) (eight : length d.component.node.program.locals ≡ 8) (i : ℕ) (signals : List Signal)
    (h : IsReadyFor promised (subject d.system d.component) i d) where
  abbrev v : Subject
  v = subject d.system d.component

  abbrev leaf_at : Leaf
  leaf_at = reacting_to d.leaf i signals h.body.0

  pub reacts : Reacts promised v i signals d (standing d leaf_at)
  reacts =
      record {
        leaf = leaf_at;
        there = set_here d.world.leaves d.x leaf_at t.old t.there;
        meets =
            record {
              own = h.own;
              current = subst (λ o. IsCurrent (Reacting i) o (Some i)) (sym h.current) refl;
              bank = subst (CurrentMeets promised (context v (Reacting i)) no_kinds (standing d leaf_at)) (sym h.current) tt;
              operands = tt;
              locals = zeros 8 d.component.node.program.locals eight;
              loops = tt;
            };
        todo = sym (ap body_of h.body.1);
        loops = refl;
        current = h.current;
        reacting = refl;
        phase = refl;
        signals = refl;
      }

pub reacts_ruled : (promised : ℕ → Option Kind) (d : Doing) → TakesLeaf d → ReactsAsRuled promised d
reacts_ruled promised d t i signals eight h =
    safe_need (section_in (Reacting i) d.component.node.program.sections) _ _ h.body.0 h.body.1
    (safe_gives _ _ (reacts promised d t eight i signals h))
