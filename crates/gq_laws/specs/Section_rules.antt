-- Starts and ends of sections that the rules allow.
use Rattle.std.specs.Prelude.{◌≡◌, ℕ, List, [], length, Option, Some, None, Ok, Err, slice_get}
use Rattle.gq_model.specs.declared.program.Form.TheVariants.{Slice}
use Rattle.gq_model.specs.declared.section.Section.{Section}
use Rattle.gq_model.specs.declared.section.Section.TheVariants.{Reacting}
use Rattle.gq_model.specs.declared.phase.Phase.TheVariants.{Handling}
use Rattle.gq_model.specs.machine.Program.{Statements, section_in}
use Rattle.gq_model.specs.machine.Scenario.{interface_in, number_of}
use Rattle.gq_model.specs.rules.Use.{subject}
use Rattle.gq_model.specs.machine.World.{Slot, Session, Ask, Ask_open, Request, Signal, Leaf, World, session_at}
use Rattle.gq_model.specs.declared.fault.Wrong.{Wrong}
use Rattle.gq_model.specs.declared.fault.Wrong.TheVariants.{ExceededQuota}
use Rattle.gq_model.specs.machine.Doing.{Doing}
use Rattle.gq_model.specs.machine.Step.{section_for, accept, take_signal, section_ended, level_then}
use Rattle.gq_model.specs.rules.Kinds.{Kind, Memory, AbstractState, Subject, Context}
use Rattle.gq_model.specs.rules.Flow.{context, body, own_after, bank_before, start_of, section_end}
use Rattle.gq_laws.specs.Typed.{IsKind, AreKinds, Meets}
use Rattle.gq_laws.specs.Inside_steps.{IsSafe}
use Rattle.gq_laws.specs.Asking.{IsWithin}

-- ENDS

-- where a section may end by the rules, its end is not wrong, but for want of quota
abbrev pub EndsAsRuled : (ℕ → Option Kind) → Context → Doing → Type 0
EndsAsRuled promised c d =
    (state last : AbstractState) (wrong : Wrong) → Meets promised c state d.world d.leaf → section_end c.subject c.section state ≡ Ok last
    → section_ended d d.leaf.current d.leaf.reacting ≡ Err wrong → wrong ≡ ExceededQuota

-- STARTS

-- a new session has no object yet, any other a slice of so many bytes
abbrev pub HasObject : (ℕ → Option Kind) → ℕ → Ask → Slot → Type 0
HasObject promised n Ask_open object = Unit {0}
HasObject promised n ask object = IsKind promised object (Memory Slice n)

-- the session whose request is taken up is of the leaf's service, and stands with its slots as its last section left them
pub record IsAtRest (promised : ℕ → Option Kind) (v : Subject) (d : Doing) (r : Request) (s : Session) : Type 0 where
  pub there : session_at d.world r.session ≡ Some s
  pub own : AreKinds promised d.leaf.slots (own_after v)
  pub bank : AreKinds promised s.slots (bank_before v (section_for r.ask (level_then r.ask s.level)))
  pub object : HasObject promised (number_of v.provided (λ i. i.object)) r.ask s.object
  pub argument : IsWithin d.system s.service r.ask
  pub provided : interface_in s.service d.system.interfaces ≡ v.provided
  pub body : (list : Statements) × (section_in (section_for r.ask (level_then r.ask s.level)) v.program.sections ≡ Some list)

-- the leaf stands where the rules start the section, with all of its statements left
pub record Begins (promised : ℕ → Option Kind) (v : Subject) (section : Section) (d : Doing) (r : Request) (w : World) : Type 0 where
  pub leaf : Leaf
  pub there : slice_get w.leaves d.x ≡ Some leaf
  pub meets : Meets promised (context v section) (start_of v section) w leaf
  pub todo : leaf.todo ≡ body v section
  pub loops : leaf.loops ≡ []
  pub current : leaf.current ≡ Some (record { session = r.session; section = section })
  pub reacting : leaf.reacting ≡ d.leaf.reacting
  pub phase : leaf.phase ≡ Handling

-- a request that is taken up is not wrong, but for want of quota, and the leaf stands at the start of the section that it asks for
abbrev pub BeginsAsRuled : (ℕ → Option Kind) → Doing → Type 0
BeginsAsRuled promised d =
    (r : Request) (rest : List Request) (s : Session) → length d.component.node.program.locals ≡ 8 → IsAtRest promised (subject d.system d.component) d r s
    → IsSafe (Begins promised (subject d.system d.component) (section_for r.ask (level_then r.ask s.level)) d r) (accept d r rest)

-- the leaf stands where the rules start the section for a signal, with all of its statements left
pub record Reacts (promised : ℕ → Option Kind) (v : Subject) (i : ℕ) (taken : List Signal) (d : Doing) (w : World) : Type 0 where
  pub leaf : Leaf
  pub there : slice_get w.leaves d.x ≡ Some leaf
  pub meets : Meets promised (context v (Reacting i)) (start_of v (Reacting i)) w leaf
  pub todo : leaf.todo ≡ body v (Reacting i)
  pub loops : leaf.loops ≡ []
  pub current : leaf.current ≡ None
  pub reacting : leaf.reacting ≡ Some i
  pub phase : leaf.phase ≡ Handling
  pub signals : leaf.signals ≡ taken

-- a leaf without a current request, whose own slots are as `main` left them, takes a signal for which it has a section
pub record IsReadyFor (promised : ℕ → Option Kind) (v : Subject) (i : ℕ) (d : Doing) : Type 0 where
  pub own : AreKinds promised d.leaf.slots (own_after v)
  pub current : d.leaf.current ≡ None
  pub body : (list : Statements) × (section_in (Reacting i) v.program.sections ≡ Some list)

-- a signal that is taken is never wrong, and the leaf stands at the start of the section for it
abbrev pub ReactsAsRuled : (ℕ → Option Kind) → Doing → Type 0
ReactsAsRuled promised d =
    (i : ℕ) (signals : List Signal) → length d.component.node.program.locals ≡ 8 → IsReadyFor promised (subject d.system d.component) i d
    → IsSafe (Reacts promised (subject d.system d.component) i signals d) (take_signal d i signals)
