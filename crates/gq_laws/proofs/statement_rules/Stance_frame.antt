-- Where leaves stand: at the start of `main`, and after a statement of another.
use Rattle.std.proofs.Common.{◌≡◌, ℕ, zero, suc, List, [], ◌∷◌, length, replicate, Option, Some, None, refl, subst, arith}
use Rattle.gq_model.specs.declared.program.Form.TheVariants.{Slice}
use Rattle.gq_model.specs.machine.Scenario.{number_of}
use Rattle.gq_model.specs.machine.World.{Empty, Current, World, session_at}
use Rattle.gq_model.specs.machine.Doing.{Doing}
use Rattle.gq_model.specs.rules.Kinds.{Kind, Empty_kind, Memory, Context, Subject}
use Rattle.gq_laws.specs.Current_section_facts.{Under}
use Rattle.gq_laws.specs.Typed.{AreKinds, CurrentMeets}
use Rattle.gq_laws.specs.Inside_steps.{IsElse, KeepsSessionIn, LeavesOthers, StandElse, StartsAsRuled}
use Rattle.gq_laws.proofs.statement_rules.Statement_leaves_others.{stays_kind, stay_kinds}

empties : (promised : ℕ → Option Kind) (n : ℕ) → AreKinds promised (replicate n Empty) (replicate n Empty_kind)
empties promised zero = tt
empties promised (suc n) = (refl, empties promised n)

pub zeros : (n : ℕ) (bounds : List ℕ) → length bounds ≡ n → Under (replicate n 0) bounds
zeros zero [] e = tt
zeros (suc n) (b ∷ bounds) e = (omega arith, zeros n bounds (omega (arith, e)))
zeros zero (b ∷ bounds) e = absurd (omega (arith, e))
zeros (suc n) [] e = absurd (omega (arith, e))

pub starts : (promised : ℕ → Option Kind) (v : Subject) → StartsAsRuled promised v
starts promised v w c eight =
    record { own = empties promised 64; current = refl; bank = tt; operands = tt; locals = zeros 8 v.program.locals eight; loops = tt }

current_stands : (promised : ℕ → Option Kind) (c : Context) (kinds : List Kind) (d : Doing) (w : World) → LeavesOthers d w → (current : Option Current)
    → ((g : Current) → current ≡ Some g → IsElse g.session d.leaf.current) → CurrentMeets promised c kinds d.world current
    → CurrentMeets promised c kinds w current
current_stands promised c kinds d w others None else h = tt
current_stands promised c kinds d w others (Some g) else h =
    let s = subst (λ o. KeepsSessionIn d.leaf.current g.session o (session_at w g.session)) h.1 (others.sessions g.session) in (
      s.0,
      s.1,
      record {
        slots = stay_kinds promised h.0.slots s.0.slots kinds (s.2.slots (else g refl)) h.2.slots;
        object = stays_kind promised h.0.object s.0.object (Memory Slice (number_of c.subject.provided (λ i. i.object))) s.2.object h.2.object;
      },
    )

pub stand_else : (promised : ℕ → Option Kind) (d : Doing) (w : World) → LeavesOthers d w → StandElse promised d w
stand_else promised d w others c state leaf else h =
    record {
      own = h.own;
      current = h.current;
      bank = current_stands promised c state.bank d w others leaf.current else h.bank;
      operands = h.operands;
      locals = h.locals;
      loops = h.loops;
    }
