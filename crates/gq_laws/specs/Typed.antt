-- When a leaf stands at a state of the rules: its slots are of the kinds, its operands within the bounds, its loops the counts.
use Rattle.std.specs.Prelude.{◌≡◌, true, false, ℕ, ◌<◌, List, [], ◌∷◌, length, Option, Some, None, slice_get}
use Rattle.gq_model.specs.declared.program.Form.TheVariants.{Slice, Space}
use Rattle.gq_model.specs.declared.section.Section.{Section}
use Rattle.gq_model.specs.machine.Amounts.{Amount}
use Rattle.gq_model.specs.machine.Scenario.{System, number_of}
use Rattle.gq_model.specs.machine.World.{Slot, Empty, Waiting, Bytes, Pool, Link, SlotId, Session, Current, Round, Leaf, World, session_at, slot_at}
use Rattle.gq_model.specs.machine.World.{own_section}
use Rattle.gq_model.specs.machine.Memory.{room, buffer_of}
use Rattle.gq_model.specs.rules.Kinds.{Kind, Empty_kind, Memory, Pool_kind, Link_kind, AbstractState, Context}
use Rattle.gq_model.specs.machine.Sections.{is_own_section}
use Rattle.gq_laws.specs.Current_section_facts.{Under}
use Rattle.gq_laws.specs.Shapes.{Each}
use Rattle.gq_model.specs.declared.section.Section.TheVariants.{Main}

-- SLOTS

abbrev pub AreBytes : List ℕ → Type 0
AreBytes = Each (λ b. b < 256)

abbrev pub IsEntry : ℕ → Option (List ℕ) → Type 0
IsEntry n None = Unit {0}
IsEntry n (Some bytes) = (length bytes ≡ n) × AreBytes bytes

-- a slot is of a kind; a slot that names a session is of the kind that is promised of that session
abbrev pub IsKind : (ℕ → Option Kind) → Slot → Kind → Type 0
IsKind promised Empty kind = kind ≡ Empty_kind
IsKind promised (Bytes form n bytes) kind = (kind ≡ Memory form n) × (length bytes ≡ room form n) × AreBytes bytes
IsKind promised (Pool n entries) kind = (kind ≡ Pool_kind n (length entries)) × Each (IsEntry n) entries
IsKind promised (Link k) kind = promised k ≡ Some kind
IsKind promised (Waiting k) kind = promised k ≡ Some kind

-- as many slots as kinds, each of its kind
abbrev pub AreKinds : (ℕ → Option Kind) → List Slot → List Kind → Type 0
AreKinds promised [] [] = Unit {0}
AreKinds promised (slot ∷ slots) (kind ∷ kinds) = IsKind promised slot kind × AreKinds promised slots kinds
AreKinds promised [] (kind ∷ kinds) = ⊥
AreKinds promised (slot ∷ slots) [] = ⊥

-- bytes stay bytes, of the same form, size and number; any other slot stays what it is
abbrev pub StaysOfKind : Slot → Slot → Type 0
StaysOfKind (Bytes form n bytes) new = (others : List ℕ) × (new ≡ Bytes form n others) × (length others ≡ length bytes) × (AreBytes bytes → AreBytes others)
StaysOfKind Empty new = new ≡ Empty
StaysOfKind (Pool n entries) new = new ≡ Pool n entries
StaysOfKind (Link k) new = new ≡ Link k
StaysOfKind (Waiting k) new = new ≡ Waiting k

abbrev pub StayOfKind : List Slot → List Slot → Type 0
StayOfKind [] [] = Unit {0}
StayOfKind (old ∷ olds) (new ∷ news) = StaysOfKind old new × StayOfKind olds news
StayOfKind [] (new ∷ news) = ⊥
StayOfKind (old ∷ olds) [] = ⊥

-- LOOPS

-- the loops that were entered are these, each in a round of its
abbrev pub AreCounts : List Round → List ℕ → Type 0
AreCounts [] [] = Unit {0}
AreCounts (r ∷ loops) (n ∷ counts) = (r.count ≡ n) × (r.round < n) × AreCounts loops counts
AreCounts [] (n ∷ counts) = ⊥
AreCounts (r ∷ loops) [] = ⊥

-- SECTIONS

-- a section of the leaf's own has no current request, and every other section a session of which it is a section
abbrev pub IsCurrent : Section → Option Current → Option ℕ → Type 0
IsCurrent section None reacting = section ≡ own_section reacting
IsCurrent section (Some current) reacting = (current.section ≡ section) × (is_own_section section ≡ false)

-- the session's slots are of these kinds, and its object is a slice of so many bytes
pub record BankMeets (promised : ℕ → Option Kind) (c : Context) (kinds : List Kind) (s : Session) : Type 0 where
  pub slots : AreKinds promised s.slots kinds
  pub object : IsKind promised s.object (Memory Slice (number_of c.subject.provided (λ i. i.object)))

-- the current session, if there is one
abbrev pub CurrentMeets : (ℕ → Option Kind) → Context → List Kind → World → Option Current → Type 0
CurrentMeets promised c kinds w None = Unit {0}
CurrentMeets promised c kinds w (Some current) = (s : Session) × (session_at w current.session ≡ Some s) × BankMeets promised c kinds s

-- the leaf stands at the state
pub record Meets (promised : ℕ → Option Kind) (c : Context) (state : AbstractState) (w : World) (leaf : Leaf) : Type 0 where
  pub own : AreKinds promised leaf.slots state.own
  pub current : IsCurrent c.section leaf.current leaf.reacting
  pub bank : CurrentMeets promised c state.bank w leaf.current
  pub operands : Under leaf.operands state.bounds
  pub locals : Under leaf.locals c.subject.program.locals
  pub loops : AreCounts leaf.loops c.counts

-- LINKS

abbrev pub IsLinkKind : Kind → Type 0
IsLinkKind (Link_kind service level given) = Unit {0}
IsLinkKind _ = ⊥

-- what is promised of a session to which a link leads is the kind of a link
abbrev pub PromisesLinks : (ℕ → Option Kind) → World → Type 0
PromisesLinks promised w = (q : SlotId) (k : ℕ) (kind : Kind) → slot_at w q ≡ Some (Link k) → promised k ≡ Some kind → IsLinkKind kind

-- a session whose first slot is a space of n bytes
pub record HasBuffer (n : ℕ) (s : Session) : Type 0 where
  pub bytes : List ℕ
  pub there : slice_get s.slots 0 ≡ Some (Bytes Space n bytes)
  pub count : length bytes ≡ room Space n
  pub each : AreBytes bytes

-- behind a link whose service shares a buffer stands a space of just its size, in the first slot of the session
abbrev pub SharesBuffers : System → (ℕ → Option Kind) → World → Type 0
SharesBuffers system promised w =
    (q : SlotId) (k : ℕ) (service : List ℕ) (level : ℕ) (given : Amount) → slot_at w q ≡ Some (Link k)
    → promised k ≡ Some (Link_kind service level given) → 0 < buffer_of system service
    → (s : Session) × (session_at w k ≡ Some s) × (s.service ≡ service) × HasBuffer (buffer_of system service) s
