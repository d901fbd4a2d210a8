-- What the proofs say of current sections, of the statements that are left, and of the steps that they cost.
use Rattle.std.specs.Prelude.{◌≡◌, ℕ, suc, ◌<◌, ◌≤◌, ◌==◌, if◌then◌else◌, List, [], ◌∷◌, Option, Some, None, Ok, slice_get}
use Rattle.gq_model.specs.declared.section.Section.{Section}
use Rattle.gq_model.specs.declared.section.Section.TheVariants.{Main, Opening, Upgrading, Calling, Closing, Reacting}
use Rattle.gq_model.specs.machine.Program.{Statements}
use Rattle.gq_model.specs.machine.Lists.{or_first}
use Rattle.gq_model.specs.machine.Scenario.{System, Component}
use Rattle.gq_model.specs.machine.World.{Session, Ask, Ask_open, Ask_upgrade, Ask_close, Ask_call, Request, Current, Round, Leaf, World}
use Rattle.gq_model.specs.machine.Step.{section_for, level_then}
use Rattle.gq_model.specs.rules.Kinds.{Kind, Empty_kind, Link_kind, AbstractState, Context, no_kinds}
use Rattle.gq_model.specs.rules.Flow.{flow, bank_at}
use Rattle.gq_model.specs.rules.Use.{subject}

-- KINDS OF SLOTS

-- the section that the first request of a session starts
abbrev pub section_waiting : ℕ → Session → List Request → Option Section
section_waiting k s [] = None
section_waiting k s (r ∷ rest) = if r.session == k then Some (section_for r.ask (level_then r.ask s.level)) else section_waiting k s rest

abbrev pub section_if : ℕ → Option Current → Option Section
section_if k None = None
section_if k (Some current) = if current.session == k then Some current.section else None

-- the section current at a leaf, if it is for this session
abbrev pub current_section : ℕ → Option Leaf → Option Section
current_section k None = None
current_section k (Some leaf) = section_if k leaf.current

-- the section that a session waits for
abbrev pub section_asked : World → ℕ → Session → Option Section
section_asked w k s = or_first (section_waiting k s w.requests) (current_section k (slice_get w.leaves s.server))

-- what the reply makes of the client's slot
abbrev pub kind_replied : Section → Session → Kind
kind_replied Main s = Empty_kind
kind_replied Opening s = Link_kind s.service 0 s.donation
kind_replied (Upgrading l) s = Link_kind s.service l s.donation
kind_replied (Calling l) s = Link_kind s.service l s.donation
kind_replied (Closing l) s = Empty_kind
kind_replied (Reacting i) s = Empty_kind

-- OPERANDS

-- as many operands as bounds, and none above its own
abbrev pub Under : List ℕ → List ℕ → Type 0
Under [] [] = Unit {0}
Under (a ∷ operands) (b ∷ bounds) = (a ≤ b) × Under operands bounds
Under [] (b ∷ bounds) = ⊥
Under (a ∷ operands) [] = ⊥

-- STATEMENTS LEFT

-- the counts of the loops around
abbrev pub counts_of : List Round → List ℕ
counts_of [] = []
counts_of (r ∷ loops) = r.count ∷ counts_of loops

-- the context inside these loops
abbrev pub within : Context → List Round → Context
within c loops = record c { counts = counts_of loops }

-- from the state at the end of the innermost block, the loops around lead to the section's end
abbrev pub After : Context → List Round → AbstractState → AbstractState → Type 0
After c [] u end = u ≡ end
After c (r ∷ loops) u end =
    (u.bounds ≡ []) × (r.round < r.count) × (flow (within c (r ∷ loops)) u r.body ≡ Ok u)
    × ((v : AbstractState) × (flow (within c loops) u r.rest ≡ Ok v) × After c loops v end)

-- the statements left lead, by the rules, from a state to the section's end
abbrev pub Continues : Context → AbstractState → Statements → List Round → AbstractState → Type 0
Continues c s todo loops end = (u : AbstractState) × (flow (within c loops) s todo ≡ Ok u) × After c loops u end

-- SESSIONS

-- its bank as the last section left it
abbrev pub bank_kinds : System → Component → Session → List Kind
bank_kinds system server s = if s.accepted then bank_at (subject system server) s.level else no_kinds
