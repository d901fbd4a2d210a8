-- The worlds that steps end in, by name.
use Rattle.std.proofs.Common.{◌≡◌, ℕ, List, [], ◌∷◌, ◌++◌, None}
use Rattle.std.specs.Prelude.{slice_set}
use Rattle.gq_model.specs.declared.section.Section.{Section}
use Rattle.gq_model.specs.declared.phase.Phase.TheVariants.{Running, Blocked, Handling, Serving}
use Rattle.gq_model.specs.machine.Program.{section_in, body_of}
use Rattle.gq_model.specs.machine.World.{Empty, Waiting, SlotId, Session, Ask, Request, Leaf, World, with_leaf, with_session, with_slot}
use Rattle.gq_model.specs.machine.Doing.{Doing, standing}
use Rattle.gq_model.specs.machine.Step.{section_for, first_operands, accepted_as, beginning, serving, unblocked}

-- the world of a request, before and after the slot waits
abbrev pub blocking : Doing → World → World
blocking d w = with_leaf w d.x (record d.leaf { phase = Blocked })

abbrev pub asked_world : Doing → World → SlotId → ℕ → Ask → World
asked_world d w q k ask =
    let waiting = with_slot (blocking d w) q (Waiting k) in record waiting { requests = waiting.requests ++ record { session = k; ask = ask } ∷ [] }

-- the section that a request starts
abbrev pub section_taken : Doing → Request → Session → Section
section_taken d r old = section_for r.ask (accepted_as d.system r.ask old).level

-- its leaf at the start of that section
abbrev pub begun : Doing → Request → Session → Leaf
begun d r old =
    beginning d.leaf (record { session = r.session; section = section_taken d r old }) (first_operands r.ask)
    (body_of (section_in (section_taken d r old) d.component.node.program.sections))

-- the world once a request is accepted
abbrev pub taken : Doing → Request → List Request → Session → World
taken d r rest old = with_session (record (standing d (begun d r old)) { requests = rest }) r.session (accepted_as d.system r.ask old)

-- the world after the reply to a close
abbrev pub closed : Doing → ℕ → Session → World
closed d k s =
    let w = with_slot (standing d (serving d.leaf)) s.slot_id Empty in
    unblocked (record w { sessions = slice_set w.sessions k None }) s.client (λ operands. operands)

-- a leaf that takes a step is not blocked
pub running_blocked : Running ≡ Blocked → ⊥
running_blocked e = cc

pub handling_blocked : Handling ≡ Blocked → ⊥
handling_blocked e = cc

pub serving_blocked : Serving ≡ Blocked → ⊥
serving_blocked e = cc
