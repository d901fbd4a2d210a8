-- How much is enough: the least quantities under which a scenario is accepted.
use Rattle.std.specs.Prelude.{ℕ, zero, suc, ◌+◌, ◌-◌, ◌*◌, ◌==◌, max, min, nat_le, nat_lt, if◌then◌else◌, Bool, false, ◌&&◌, List, [], ◌∷◌, ◌++◌}
use Rattle.std.specs.Prelude.{length}
use Rattle.std.specs.Prelude.{sum_by, Option, Some, None, decimal, codes, slice_get}
use Rattle.gq_tariff.specs.Prices.{classes, up}
use Rattle.gq_model.specs.machine.Accounts.{entry, leaf_count}
use Rattle.gq_model.specs.machine.Amounts.{Resource, Ram, Caps, Amount}
use Rattle.gq_model.specs.machine.Lists.{greatest}
use Rattle.gq_model.specs.machine.Resource_prices.{price_memory}
use Rattle.gq_model.specs.declared.program.Form.TheVariants.{Slice}
use Rattle.gq_model.specs.declared.program.Instruction.{Instruction}
use Rattle.gq_model.specs.declared.program.Instruction.TheVariants.{Open, Upgrade}
use Rattle.gq_model.specs.declared.section.Section.{Section}
use Rattle.gq_model.specs.declared.section.Section.TheVariants.{Main, Reacting}
use Rattle.gq_model.specs.machine.Program.{Statements, Done, Do, If, Loop, size, text_eq}
use Rattle.gq_model.specs.machine.Scenario.{Interface, Nodes, End, Leaf_node, Init_node, Scenario, Component, System}
use Rattle.gq_model.specs.machine.Scenario.{interface_in}
use Rattle.gq_model.specs.rules.Accept.{Refusal}
use Rattle.gq_model.specs.rules.Budgets.{heap_cost}
use Rattle.gq_model.specs.rules.Flow.{at, body, context, flow, points, start_of, state_or}
use Rattle.gq_model.specs.rules.Kinds.{Kind, Link_kind, AbstractState, Subject, Context, inside, kind_at, kind_price}
use Rattle.gq_model.specs.machine.Sections.{level_of, section_word}
use Rattle.gq_model.specs.rules.Rules.{judged, link_kind}
use Rattle.gq_model.specs.rules.Use.{subject}
use Rattle.gq_scenario.specs.Without_quantities.{unsized}
use Rattle.gq_load.specs.Unsized_judgement.{unsized_refusal}

-- WHAT IS JUDGED

-- the first reason to refuse it that no quantity decides
abbrev pub refusal_without : Scenario → Option Refusal
refusal_without s = unsized_refusal (unsized s)

-- WHAT IS NEEDED

-- the capabilities that are given for a session of a service and a level
abbrev pub Given : Type 0
Given = List ℕ → ℕ → ℕ

-- what is lent with a link
abbrev pub lent_by : Given → Resource → Kind → ℕ
lent_by given Ram (Link_kind service level a) = a.ram
lent_by given Caps (Link_kind service level a) = given service level
lent_by given r _ = 0

abbrev pub slot_cost : Given → Resource → Kind → ℕ
slot_cost given r kind = kind_price r kind + lent_by given r kind

abbrev pub slots_cost : Given → Resource → List Kind → ℕ
slots_cost given r kinds = sum_by (slot_cost given r) kinds

-- a session's object and its slots
abbrev pub session_cost : Given → Resource → Interface → AbstractState → ℕ
session_cost given r i s = price_memory r Slice i.object + slots_cost given r s.bank

abbrev pub section_points : Subject → Section → List AbstractState
section_points v section = points (context v section) (start_of v section) (body v section)

abbrev pub is_up_to : ℕ → Section → Bool
is_up_to l Main = false
is_up_to l (Reacting i) = false
is_up_to l section = nat_le (level_of section) l

-- the most that a session of a level up to l costs a leaf
abbrev pub leaf_needed : Given → Resource → Subject → Interface → ℕ → ℕ
leaf_needed given r v i l =
    greatest (λ (p : Section × Statements). if is_up_to l p.0 then greatest (session_cost given r i) (section_points v p.0) else 0) v.program.sections

abbrev pub is_named : List ℕ → Option (List ℕ) → Bool
is_named service None = false
is_named service (Some name) = text_eq service name

-- the most that it costs any leaf that provides the service
abbrev pub needed : Given → Resource → System → List ℕ → Interface → ℕ → ℕ
needed given r all service i l =
    greatest (λ (c : Component). if is_named service c.node.provides then leaf_needed given r (subject all c) i l else 0) all.components

-- GIFTS

-- an upgrade of a session: its service, the level that it leads to, and what is given
abbrev pub Gift : Type 0
Gift = List ℕ × ℕ × ℕ

abbrev pub gift_on : ℕ → Option (List ℕ × ℕ × Amount) → List Gift
gift_on n None = []
gift_on n (Some l) = (l.0, suc l.1, n) ∷ []

abbrev pub gift_of : Context → AbstractState → Instruction → List Gift
gift_of c s (Upgrade place n) = gift_on n (link_kind (kind_at c s place))
gift_of c s _ = []

abbrev pub gifts : Context → AbstractState → Statements → List Gift
gifts c s Done = []
gifts c s (Do i rest) = gift_of c s i ++ gifts c (state_or s (at 1 (judged c s i))) rest
gifts c s (If arm other rest) =
    let t = record s { bounds = [] } in gifts c t arm ++ gifts c t other ++ gifts c (state_or t (flow c t arm)) rest
gifts c s (Loop n body rest) = gifts (inside c n) s body ++ gifts c s rest

abbrev pub gifts_in : Subject → List (Section × Statements) → List Gift
gifts_in v [] = []
gifts_in v (p ∷ rest) = gifts (context v p.0) (start_of v p.0) p.1 ++ gifts_in v rest

abbrev pub all_gifts : System → List Component → List Gift
all_gifts all [] = []
all_gifts all (c ∷ rest) = gifts_in (subject all c) c.node.program.sections ++ all_gifts all rest

abbrev pub lesser : ℕ → Option ℕ → Option ℕ
lesser n None = Some n
lesser n (Some m) = Some (min n m)

-- the least that is given for a service's level, if it is ever
abbrev pub least_gift : List ℕ → ℕ → List Gift → Option ℕ
least_gift service level [] = None
least_gift service level (g ∷ rest) =
    if text_eq service g.0 && g.1 == level then lesser g.2 (least_gift service level rest) else least_gift service level rest

abbrev pub both : Option ℕ → Option ℕ → Option ℕ
both (Some a) (Some b) = Some (a + b)
both _ _ = None

-- the least gifts for the d levels above l together, if all are ever given
abbrev pub gifts_above : List Gift → List ℕ → ℕ → ℕ → Option ℕ
gifts_above all service zero l = Some 0
gifts_above all service (suc d) l = both (least_gift service (suc l) all) (gifts_above all service d (suc l))

-- LEAST SUMS

abbrev pub less_gifts : ℕ → Option ℕ → ℕ
less_gifts n None = 0
less_gifts n (Some given) = n - given

-- what the d levels above l ask of the sum up to l, beyond what is always given for them
abbrev pub asked_above : (ℕ → ℕ) → List Gift → List ℕ → ℕ → ℕ → ℕ
asked_above need all service zero l = 0
asked_above need all service (suc d) l =
    max (less_gifts (need (l + suc d)) (gifts_above all service (suc d) l)) (asked_above need all service d l)

-- the least that need and upgrades up to l may be together: of an interface with u upgrades
abbrev pub ram_sum : System → List Gift → List ℕ → Interface → ℕ → ℕ
ram_sum all given service i zero =
    let need = needed (λ _ _. 0) Ram all service i in max (need 0) (asked_above need given service (length i.upgrades) 0)
ram_sum all given service i (suc l) =
    let need = needed (λ _ _. 0) Ram all service i in
    max (max (need (suc l)) (asked_above need given service (length i.upgrades - suc l) (suc l))) (ram_sum all given service i l)

abbrev pub sum_in : (Interface → ℕ) → Option Interface → ℕ
sum_in f None = 0
sum_in f (Some i) = f i

-- the same of capabilities, with the least ones of the services whose links a session holds, along chains of at most n uses
abbrev pub caps_sum : ℕ → System → List ℕ → ℕ → ℕ
caps_sum zero all service l = 0
caps_sum (suc n) all service l = sum_in (λ i. needed (caps_sum n all) Caps all service i l) (interface_in service all.interfaces)

-- a round for each level of each service, of which there are at most four, and one more
abbrev pub rounds : System → ℕ
rounds all = suc (4 * length all.interfaces)

abbrev pub least_caps : System → Given
least_caps all = caps_sum (rounds all) all

-- NODES

-- what a leaf's own slots and heap cost at most
abbrev pub own_by : Given → Resource → Subject → ℕ
own_by given r v =
    let states = section_points v Main in greatest (λ (s : AbstractState). slots_cost given r s.own) states + heap_cost r states classes

-- the leaves that start after that of this name
abbrev pub starts_after : List ℕ → List Component → Option Component
starts_after name [] = None
starts_after name (c ∷ rest) = if is_named name c.node.after then Some c else starts_after name rest

abbrev pub quantum_of : (Component → ℕ) → Option Component → ℕ
quantum_of f None = 0
quantum_of f (Some c) = f c

-- the least quantum of a leaf: for itself, and for who starts after it, along at most n starts
abbrev pub leaf_least : ℕ → Resource → System → Component → ℕ
leaf_least zero r all c = own_by (least_caps all) r (subject all c)
leaf_least (suc n) r all c =
    max (own_by (least_caps all) r (subject all c)) (quantum_of (leaf_least n r all) (starts_after c.node.name all.components))

abbrev pub least_at : Resource → System → ℕ → ℕ
least_at r all x = quantum_of (leaf_least (length all.components) r all) (slice_get all.components x)

abbrev pub unless_after : Option (List ℕ) → ℕ → ℕ
unless_after None n = n
unless_after (Some name) n = 0

-- what these children need at the start, of which the first leaf is the x-th
abbrev pub children_least : Resource → System → ℕ → Nodes → ℕ
children_least r all x End = 0
children_least r all x (Leaf_node node rest) = unless_after node.after (least_at r all x) + children_least r all (suc x) rest
children_least r all x (Init_node node children rest) = children_least r all x children + children_least r all (x + leaf_count children) rest

-- all of it is whole pages, and at least one
abbrev pub root_least : Resource → ℕ → ℕ
root_least Ram n = max 4096 (up n)
root_least Caps n = max 1 n

-- STATEMENTS THAT OPEN SESSIONS FOR LESS THAN THEY NEED

abbrev pub open_at : ℕ → Instruction → List (ℕ × List ℕ × ℕ)
open_at k (Open place service n) = (k, service, n) ∷ []
open_at k _ = []

-- the `open` statements of a list, each with its number, of which the first is k
abbrev pub opens_from : ℕ → Statements → List (ℕ × List ℕ × ℕ)
opens_from k Done = []
opens_from k (Do i rest) = open_at k i ++ opens_from (suc k) rest
opens_from k (If arm other rest) =
    opens_from (suc k) arm ++ opens_from (suc k + size arm) other ++ opens_from (suc k + size arm + size other) rest
opens_from k (Loop n body rest) = opens_from (suc k) body ++ opens_from (suc k + size body) rest

abbrev pub least_need : System → List Gift → List ℕ → ℕ
least_need all given service = sum_in (λ i. ram_sum all given service i 0) (interface_in service all.interfaces)

abbrev pub short_line : Component → Section → ℕ × List ℕ × ℕ → ℕ → List ℕ
short_line c section o least =
    if nat_lt o.2 least
    then codes "short " ++ c.label ++ codes " in " ++ section_word section ++ codes " at " ++ decimal o.0 ++ entry (codes "gives") o.2
    ++ entry (codes "least") least ++ 10 ∷ []
    else []

abbrev pub short_lines : System → List Gift → Component → Section → List (ℕ × List ℕ × ℕ) → List ℕ
short_lines all given c section [] = []
short_lines all given c section (o ∷ rest) =
    short_line c section o (least_need all given o.1) ++ short_lines all given c section rest

abbrev pub short_in : System → List Gift → Component → List (Section × Statements) → List ℕ
short_in all given c [] = []
short_in all given c (p ∷ rest) = short_lines all given c p.0 (opens_from 1 p.1) ++ short_in all given c rest

abbrev pub all_short : System → List Gift → List Component → List ℕ
all_short all given [] = []
all_short all given (c ∷ rest) = short_in all given c c.node.program.sections ++ all_short all given rest
