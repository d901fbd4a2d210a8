-- A request that is taken up: the leaf stands where the rules start the section that it asks for.
use Rattle.std.proofs.Common.{◌≡◌, ◌≤◌, ℕ, false, List, [], ◌∷◌, length, replicate, Option, Some, refl, ap, subst}
use Rattle.std.proofs.lemmas.List.{length-replicate}
use Rattle.gq_model.specs.declared.program.Form.TheVariants.{Slice}
use Rattle.gq_model.specs.declared.section.Section.{Section}
use Rattle.gq_model.specs.machine.Program.{section_in, body_of}
use Rattle.gq_model.specs.machine.Scenario.{interface_in, number_of}
use Rattle.gq_model.specs.rules.Use.{subject}
use Rattle.gq_model.specs.machine.World.{Bytes, Session, Ask, Ask_open, Ask_upgrade, Ask_close, Ask_call, Request, Leaf, World, session_at, with_session}
use Rattle.gq_model.specs.machine.Doing.{Doing, standing}
use Rattle.gq_model.specs.machine.Step.{section_for, accepted_as, beginning, accept, level_then}
use Rattle.gq_model.specs.rules.Kinds.{Kind, Memory, Subject}
use Rattle.gq_model.specs.machine.Sections.{is_own_section}
use Rattle.gq_model.specs.rules.Flow.{first_bounds, bank_before, own_before}
use Rattle.gq_laws.specs.Current_section_facts.{Under}
use Rattle.gq_laws.specs.Typed.{IsKind, AreKinds}
use Rattle.gq_laws.specs.Inside_steps.{IsSafe, TakesLeaf}
use Rattle.gq_laws.specs.Section_rules.{IsAtRest, Begins, BeginsAsRuled}
use Rattle.gq_laws.proofs.session_links.Written_world_links.{set_here, session_here}
use Rattle.gq_laws.proofs.statement_rules.Ruled_step_shapes.{safe_gives, safe_tested, safe_need}
use Rattle.gq_laws.proofs.statement_rules.Statement_number_bounds.{zeros_bytes}
use Rattle.gq_laws.proofs.statement_rules.Stance_frame.{zeros}

module _ (promised : ℕ → Option Kind) (d : Doing) (t : TakesLeaf d) (eight : length d.component.node.program.locals ≡ 8) (k : ℕ) (rest : List Request) where
  abbrev v : Subject
  v = subject d.system d.component

  abbrev leaf_at : Section → List ℕ → Leaf
  leaf_at section ops = beginning d.leaf (record { session = k; section = section }) ops (body_of (section_in section v.program.sections))

  abbrev world_at : Section → List ℕ → Session → World
  world_at section ops s = with_session (record (standing d (leaf_at section ops)) { requests = rest }) k s

  -- the leaf at the start of a section, with the current session
  begins : (ask : Ask) (section : Section) (ops : List ℕ) (old new : Session) → session_at d.world k ≡ Some old → is_own_section section ≡ false
      → AreKinds promised d.leaf.slots (own_before v section) → AreKinds promised new.slots (bank_before v section)
      → IsKind promised new.object (Memory Slice (number_of v.provided (λ i. i.object))) → Under ops (first_bounds v.provided section)
      → Begins promised v section d (record { session = k; ask = ask }) (world_at section ops new)
  begins ask section ops old new there outside own bank object operands =
      record {
        leaf = leaf_at section ops;
        there = set_here d.world.leaves d.x (leaf_at section ops) t.old t.there;
        meets =
            record {
              own = own;
              current = (refl, outside);
              bank = (
                new,
                session_here (record (standing d (leaf_at section ops)) { requests = rest }) k old new there,
                record { slots = bank; object = object },
              );
              operands = operands;
              locals = zeros 8 d.component.node.program.locals eight;
              loops = tt;
            };
        todo = refl;
        loops = refl;
        current = refl;
        reacting = refl;
        phase = refl;
      }

  begins_by : (ask : Ask) (s : Session) → IsAtRest promised v d (record { session = k; ask = ask }) s
      → IsSafe (Begins promised v (section_for ask (level_then ask s.level)) d (record { session = k; ask = ask }))
      (accept d (record { session = k; ask = ask }) rest)
  begins_by Ask_open s h =
      let n = number_of (interface_in s.service d.system.interfaces) (λ i. i.object) in
      let same : n ≡ number_of v.provided (λ i. i.object) = ap (λ o. number_of o (λ i. i.object)) h.provided in
      let object : IsKind promised (Bytes Slice n (replicate n 0)) (Memory Slice (number_of v.provided (λ i. i.object))) =
      subst (λ m. IsKind promised (Bytes Slice n (replicate n 0)) (Memory Slice m)) same (refl, length-replicate n 0, zeros_bytes n) in
      safe_need (session_at d.world k) _ _ s h.there
      (safe_tested _ _ (safe_need (section_in (section_for Ask_open s.level) v.program.sections) _ _ h.body.0 h.body.1
      (safe_gives _ _ (begins Ask_open (section_for Ask_open s.level) [] s (accepted_as d.system Ask_open s) h.there refl h.own h.bank object tt))))
  begins_by Ask_upgrade s h =
      safe_need (session_at d.world k) _ _ s h.there
      (safe_tested _ _ (safe_need (section_in (section_for Ask_upgrade (level_then Ask_upgrade s.level)) v.program.sections) _ _ h.body.0 h.body.1
      (safe_gives _ _ (begins Ask_upgrade (section_for Ask_upgrade (level_then Ask_upgrade s.level)) [] s
      (accepted_as d.system Ask_upgrade s) h.there refl h.own h.bank h.object tt))))
  begins_by Ask_close s h =
      safe_need (session_at d.world k) _ _ s h.there
      (safe_tested _ _ (safe_need (section_in (section_for Ask_close s.level) v.program.sections) _ _ h.body.0 h.body.1
      (safe_gives _ _ (begins Ask_close (section_for Ask_close s.level) [] s s h.there refl h.own h.bank h.object tt))))
  begins_by (Ask_call value) s h =
      safe_need (session_at d.world k) _ _ s h.there
      (safe_tested _ _ (safe_need (section_in (section_for (Ask_call value) s.level) v.program.sections) _ _ h.body.0 h.body.1
      (safe_gives _ _ (begins (Ask_call value) (section_for (Ask_call value) s.level) (value ∷ []) s s h.there refl h.own h.bank h.object
      (subst (λ o. value ≤ number_of o (λ i. i.arg)) h.provided h.argument, tt)))))

pub begins_ruled : (promised : ℕ → Option Kind) (d : Doing) → TakesLeaf d → BeginsAsRuled promised d
begins_ruled promised d t r rest s eight h = begins_by promised d t eight r.session rest r.ask s h
