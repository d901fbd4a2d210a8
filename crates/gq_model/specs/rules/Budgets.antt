-- Budgets of a program: steps, requests, bytes and capabilities.
use Rattle.std.specs.Prelude.{ℕ, suc, ◌+◌, ◌*◌, max, if◌then◌else◌, ◌&&◌, List, [], ◌∷◌, Option, Some, None, sum_by}
use Rattle.gq_model.specs.machine.Amounts.{Resource, Amount}
use Rattle.gq_model.specs.machine.Program.{Instruction, Open, Upgrade, Call, Close, Statements, Done, Do, If, Loop}
use Rattle.gq_model.specs.machine.Sections.{Section, Main, Opening, Upgrading, Calling, Closing, same_section}
use Rattle.gq_model.specs.machine.Program.{text_eq}
use Rattle.gq_tariff.specs.Prices.{classes}
use Rattle.gq_model.specs.machine.Resource_prices.{chunks}
use Rattle.gq_model.specs.machine.Lists.{greatest}
use Rattle.gq_model.specs.rules.Kinds.{AbstractState, Subject, Context, inside, kind_at, kinds_cost, kind_places}
use Rattle.gq_model.specs.rules.Rules.{link_kind, judged}
use Rattle.gq_model.specs.rules.Flow.{at, flow, state_or, points, context, body, start_of}

-- STEPS

-- the greatest number of steps that a list takes
abbrev pub cost : Statements → ℕ
cost Done = 0
cost (Do i rest) = 1 + cost rest
cost (If arm other rest) = 1 + max (cost arm) (cost other) + cost rest
cost (Loop n body rest) = n * (1 + cost body) + 1 + cost rest

-- with the step that ends it, and the one that accepts its request
abbrev pub section_cost : Section → Statements → ℕ
section_cost Main body = cost body + 1
section_cost _ body = cost body + 2

-- REQUESTS

-- 1 where this section of this service is the one that is asked for
abbrev pub is_one : List ℕ → Section → List ℕ → Section → ℕ
is_one service section service' section' = if text_eq service service' && same_section section section' then 1 else 0

-- a request on a link is for the section of its level
abbrev pub by_link : List ℕ → Section → Option (List ℕ × ℕ × Amount) → (ℕ → Section) → ℕ
by_link service section None of = 0
by_link service section (Some l) of = is_one service section l.0 (of l.1)

-- requests of an instruction for a section of a service
abbrev pub asks : List ℕ → Section → Context → AbstractState → Instruction → ℕ
asks service section c s (Open place v n) = is_one service section v Opening
asks service section c s (Upgrade place n) = by_link service section (link_kind (kind_at c s place)) (λ l. Upgrading (suc l))
asks service section c s (Call place) = by_link service section (link_kind (kind_at c s place)) (λ l. Calling l)
asks service section c s (Close place) = by_link service section (link_kind (kind_at c s place)) (λ l. Closing l)
asks service section c s _ = 0

-- the greatest number of requests of a list
abbrev pub requests : List ℕ → Section → Context → AbstractState → Statements → ℕ
requests v r c s Done = 0
requests v r c s (Do i rest) = asks v r c s i + requests v r c (state_or s (at 1 (judged c s i))) rest
requests v r c s (If arm other rest) =
    let t = record s { bounds = [] } in max (requests v r c t arm) (requests v r c t other) + requests v r c (state_or t (flow c t arm)) rest
requests v r c s (Loop n body rest) = n * requests v r (inside c n) s body + requests v r c s rest

-- requests of a section for a section of a service
abbrev pub section_requests : Subject → Section → List ℕ → Section → ℕ
section_requests v from service section = requests service section (context v from) (start_of v from) (body v from)

-- BYTES AND CAPABILITIES

-- what the heap costs by the greatest number of places of each class
abbrev pub heap_cost : Resource → List AbstractState → List ℕ → ℕ
heap_cost r states [] = 0
heap_cost r states (c ∷ cs) = chunks r (c * greatest (λ s. sum_by (kind_places c) s.own) states) + heap_cost r states cs

-- the most that the own slots hold and have lent at a point of `main`, and the heap
abbrev pub own : Resource → Subject → ℕ
own r v =
    let states = points (context v Main) (start_of v Main) (body v Main) in greatest (λ s. kinds_cost r s.own) states + heap_cost r states classes
