-- What a leaf's numbers are made of, and where.
use Rattle.std.specs.Prelude.{ℕ, zero, suc, ◌+◌, ◌*◌, ◌==◌, nat_lt, if◌then◌else◌, Bool, true, false, List, [], ◌∷◌, ◌++◌, length, sum_by}
use Rattle.std.specs.Prelude.{Option, Some, None, decimal, codes, slice_get}
use Rattle.gq_tariff.specs.Prices.{classes}
use Rattle.gq_model.specs.declared.program.Form.{Form}
use Rattle.gq_model.specs.declared.program.Form.TheVariants.{Block, Slice, Space}
use Rattle.gq_model.specs.declared.section.Section.{Section}
use Rattle.gq_model.specs.declared.section.Section.TheVariants.{Main, Reacting}
use Rattle.gq_model.specs.machine.Accounts.{reported}
use Rattle.gq_model.specs.machine.Amounts.{Amount, Resource, Ram, Caps, part}
use Rattle.gq_model.specs.machine.Resource_prices.{chunks}
use Rattle.gq_model.specs.machine.Program.{Statements, Done, Do, If, Loop, size}
use Rattle.gq_model.specs.machine.Routes.{server_of}
use Rattle.gq_model.specs.machine.Run.{label_at}
use Rattle.gq_model.specs.machine.Scenario.{Interface, Scenario, Component, System, components, interface_in, system}
use Rattle.gq_model.specs.rules.Budgets.{own, section_cost, section_requests}
use Rattle.gq_model.specs.rules.Flow.{at, body, context, flow, start_of, state_or}
use Rattle.gq_model.specs.rules.Kinds.{Kind, Empty_kind, Memory, Pool_kind, Link_kind, AbstractState, Subject, Context, inside, kind_lent, kind_places}
use Rattle.gq_model.specs.rules.Kinds.{kind_price}
use Rattle.gq_model.specs.rules.Kinds.{kinds_cost, need_of}
use Rattle.gq_model.specs.machine.Sections.{level_of, section_word}
use Rattle.gq_model.specs.rules.Kinds.{session_cost}
use Rattle.gq_model.specs.rules.Rules.{judged}
use Rattle.gq_model.specs.rules.Use.{Cause, The_start, A_signal, is_there, steps_for, subject, times}
use Rattle.gq_scenario.specs.Without_quantities.{unsized}

-- POINTS

-- a point of a section: the number of the statement that it comes after, 0 at the start, and what is known there
pub record Point : Type 0 where
  pub section : Section
  pub number : ℕ
  pub state : AbstractState

-- the points after the statements of a list, of which the first is the k-th; that after an `if` or a `loop` comes after those inside it
abbrev pub after_each : Section → Context → ℕ → AbstractState → Statements → List Point
after_each section c k s Done = []
after_each section c k s (Do i rest) =
    let t = state_or s (at 1 (judged c s i)) in record { section = section; number = k; state = t } ∷ after_each section c (suc k) t rest
after_each section c k s (If arm other rest) =
    let t = record s { bounds = [] } in
    let w = state_or t (flow c t arm) in
    after_each section c (suc k) t arm ++ after_each section c (suc k + size arm) t other
    ++ record { section = section; number = k; state = w } ∷ after_each section c (suc k + size arm + size other) w rest
after_each section c k s (Loop n body rest) =
    after_each section (inside c n) (suc k) s body ++ record { section = section; number = k; state = s } ∷ after_each section c (suc k + size body) s rest

abbrev pub points_of : Subject → Section → List Point
points_of v section =
    let s = start_of v section in
    record { section = section; number = 0; state = s } ∷ after_each section (context v section) 1 s (body v section)

-- those of the sections of a level
abbrev pub is_of_level : ℕ → Section → Bool
is_of_level l Main = false
is_of_level l (Reacting i) = false
is_of_level l section = level_of section == l

abbrev pub points_at : Subject → ℕ → List (Section × Statements) → List Point
points_at v l [] = []
points_at v l (p ∷ rest) = (if is_of_level l p.0 then points_of v p.0 else []) ++ points_at v l rest

-- the first of the points at which a number is greatest
abbrev pub or_later : (AbstractState → ℕ) → Point → Option Point → Point
or_later f p None = p
or_later f p (Some q) = if nat_lt (f p.state) (f q.state) then q else p

abbrev pub highest : (AbstractState → ℕ) → List Point → Option Point
highest f [] = None
highest f (p ∷ rest) = Some (or_later f p (highest f rest))

-- ITEMS

abbrev pub form_word : Form → List ℕ
form_word Block = codes "block "
form_word Slice = codes "slice "
form_word Space = codes "space "

abbrev pub kind_text : Kind → List ℕ
kind_text Empty_kind = []
kind_text (Memory form n) = form_word form ++ decimal n
kind_text (Pool_kind n m) = codes "pool " ++ decimal n ++ codes " " ++ decimal m
kind_text (Link_kind service level given) = codes "link " ++ service ++ codes " at level " ++ decimal level

abbrev pub kind_cost : Resource → Kind → ℕ
kind_cost r kind = kind_price r kind + kind_lent r kind

abbrev pub item_line : List ℕ → List ℕ → ℕ → List ℕ
item_line slot kind zero = []
item_line slot kind (suc n) = codes "    " ++ slot ++ codes " " ++ kind ++ codes ": " ++ decimal (suc n) ++ 10 ∷ []

-- the slots from the i-th on, whose names begin so, with what each costs
abbrev pub item_lines : Resource → List ℕ → ℕ → List Kind → List ℕ
item_lines r letter i [] = []
item_lines r letter i (kind ∷ rest) =
    item_line (letter ++ decimal i) (kind_text kind) (kind_cost r kind) ++ item_lines r letter (suc i) rest

abbrev pub place_words : Section → ℕ → List ℕ
place_words section k = codes "  in " ++ section_word section ++ codes " at " ++ decimal k ++ codes ": "

-- OWN

abbrev pub sum_by_items : Resource → Point → ℕ → List ℕ
sum_by_items r p zero = []
sum_by_items r p (suc n) = place_words Main p.number ++ decimal (suc n) ++ 10 ∷ item_lines r (codes "o") 0 p.state.own

abbrev pub sum_lines : Resource → Option Point → List ℕ
sum_lines r None = []
sum_lines r (Some p) = sum_by_items r p (kinds_cost r p.state.own)

-- what so many places of a class cost
abbrev pub places_cost : Resource → ℕ → ℕ → ℕ
places_cost r c m = chunks r (c * m)

-- the places of a class, where one is counted
abbrev pub places_line : Resource → ℕ → Point → ℕ → List ℕ
places_line r c p zero = []
places_line r c p (suc m) =
    place_words Main p.number ++ decimal (places_cost r c (suc m)) ++ codes " for " ++ decimal (suc m) ++ codes " places of " ++ decimal c ++ 10 ∷ []

-- the places of a class at a point
abbrev pub places_at : ℕ → AbstractState → ℕ
places_at c s = sum_by (kind_places c) s.own

abbrev pub class_line : Resource → ℕ → Option Point → List ℕ
class_line r c None = []
class_line r c (Some p) = places_line r c p (places_at c p.state)

abbrev pub class_lines : Resource → List Point → List ℕ → List ℕ
class_lines r points [] = []
class_lines r points (c ∷ cs) = class_line r c (highest (places_at c) points) ++ class_lines r points cs

abbrev pub own_part : Resource → List ℕ → Subject → ℕ → List ℕ
own_part r words v quantum =
    let points = points_of v Main in
    words ++ decimal (own r v) ++ codes " of " ++ decimal quantum ++ 10 ∷ []
    ++ sum_lines r (highest (λ s. kinds_cost r s.own) points) ++ class_lines r points classes

-- of capabilities too, where they are counted
abbrev pub own_parts : ℕ → Subject → Amount → List ℕ
own_parts version v quantum = own_part Ram (codes "own ") v quantum.ram ++ reported version (own_part Caps (codes "own caps ") v quantum.caps)

-- NEED

abbrev pub point_lines : Resource → Interface → Option Point → List ℕ
point_lines r i None = []
point_lines r i (Some p) =
    place_words p.section p.number ++ decimal (session_cost r i p.state.bank) ++ 10 ∷ []
    ++ item_line (codes "obj") (codes "slice " ++ decimal i.object) (kind_price r (Memory Slice i.object)) ++ item_lines r (codes "s") 0 p.state.bank

abbrev pub point_sum : Resource → Interface → Option Point → ℕ
point_sum r i None = 0
point_sum r i (Some p) = session_cost r i p.state.bank

-- what a session of a level needs, by the interface's own numbers
abbrev pub need_part : Resource → List ℕ → List ℕ → Interface → ℕ → List Point → List ℕ
need_part r words service i l points =
    let p = highest (λ s. session_cost r i s.bank) points in
    words ++ service ++ codes " at level " ++ decimal l ++ codes " " ++ decimal (point_sum r i p) ++ codes " of " ++ decimal (part r (need_of i l)) ++ 10 ∷ []
    ++ point_lines r i p

abbrev pub level_parts : ℕ → Subject → List ℕ → Interface → ℕ → ℕ → List ℕ
level_parts version v service i l zero = []
level_parts version v service i l (suc n) =
    let points = points_at v l v.program.sections in
    need_part Ram (codes "need of ") service i l points ++ reported version (need_part Caps (codes "need caps of ") service i l points)
    ++ level_parts version v service i (suc l) n

abbrev pub needs_by : ℕ → Subject → List ℕ → Option Interface → List ℕ
needs_by version v service None = []
needs_by version v service (Some i) = level_parts version v service i 0 (suc (length i.upgrades))

-- the interface with its own numbers
abbrev pub needs_part : Scenario → Subject → Option (List ℕ) → List ℕ
needs_part s v None = []
needs_part s v (Some service) = needs_by s.version v service (interface_in service s.interfaces)

-- STEPS

abbrev pub product : ℕ → ℕ → List ℕ
product a b = codes ": " ++ decimal a ++ codes " x " ++ decimal b ++ codes " = " ++ decimal (a * b) ++ 10 ∷ []

-- whether a section that runs t times has a line: for the start each but those that are done for signals; for a signal each that runs
abbrev pub is_shown : Cause → Section → ℕ → Bool
is_shown The_start (Reacting i) t = false
is_shown The_start section t = true
is_shown (A_signal y i) section t = nat_lt 0 t

-- the line of a section that asks r times, each time that it runs
abbrev pub asker_line : Cause → List ℕ → Section → ℕ → ℕ → List ℕ
asker_line cause label section t zero = []
asker_line cause label section t (suc r) =
    if is_shown cause section t then codes "    " ++ label ++ codes " " ++ section_word section ++ product t (suc r) else []

-- how often a section of the x-th leaf runs for one cause
abbrev pub often : Cause → System → ℕ → Section → ℕ
often cause all x section = times (length all.components) cause all x section

-- the requests of the sections of the y-th leaf
abbrev pub asker_lines : Cause → System → ℕ → Component → List ℕ → Section → List (Section × Statements) → List ℕ
asker_lines cause all y c service section [] = []
asker_lines cause all y c service section (p ∷ rest) =
    asker_line cause c.label p.0 (often cause all y p.0) (section_requests (subject all c) p.0 service section)
    ++ asker_lines cause all y c service section rest

-- those of the leaves from the y-th on whose route leads to the x-th
abbrev pub askers_from : Cause → System → ℕ → List ℕ → Section → ℕ → List Component → List ℕ
askers_from cause all x service section y [] = []
askers_from cause all x service section y (c ∷ rest) =
    (if is_there x (server_of all c service) then asker_lines cause all y c service section c.node.program.sections else [])
    ++ askers_from cause all x service section (suc y) rest

abbrev pub askers : Cause → System → ℕ → Option (List ℕ) → Section → List ℕ
askers cause all x None section = []
askers cause all x (Some service) Main = []
askers cause all x (Some service) (Reacting i) = []
askers cause all x (Some service) section = askers_from cause all x service section 0 all.components

-- the lines of a section that runs t times, at so many steps each time
abbrev pub section_part : Cause → System → ℕ → Option (List ℕ) → Section → ℕ → ℕ → List ℕ
section_part cause all x provided section t steps =
    if is_shown cause section t then codes "  " ++ section_word section ++ product t steps ++ askers cause all x provided section else []

abbrev pub section_lines : Cause → System → ℕ → Component → List (Section × Statements) → List ℕ
section_lines cause all x c [] = []
section_lines cause all x c (p ∷ rest) =
    section_part cause all x c.node.provides p.0 (often cause all x p.0) (section_cost p.0 p.1) ++ section_lines cause all x c rest

-- what stands behind the number of steps for a signal
abbrev pub cause_words : List Component → Cause → List ℕ
cause_words all The_start = []
cause_words all (A_signal y i) = codes " for signal " ++ decimal i ++ codes " of " ++ label_at (slice_get all y)

-- the steps of the x-th leaf for one cause, and the lines of its sections
abbrev pub cause_part : Cause → System → ℕ → Component → List ℕ
cause_part cause all x c =
    codes "steps " ++ decimal (steps_for cause all x c) ++ cause_words all.components cause ++ 10 ∷ section_lines cause all x c c.node.program.sections

-- those for a signal, where there are any
abbrev pub signal_part : System → ℕ → Component → ℕ → ℕ → List ℕ
signal_part all x c y i = let cause = A_signal y i in if steps_for cause all x c == 0 then [] else cause_part cause all x c

-- those for the signals of the y-th leaf, from the i-th on
abbrev pub signal_parts : System → ℕ → Component → ℕ → ℕ → ℕ → List ℕ
signal_parts all x c y i zero = []
signal_parts all x c y i (suc n) = signal_part all x c y i ++ signal_parts all x c y (suc i) n

-- those for the signals of the leaves from the y-th on
abbrev pub parts_of_leaves : System → ℕ → Component → ℕ → List Component → List ℕ
parts_of_leaves all x c y [] = []
parts_of_leaves all x c y (d ∷ rest) = signal_parts all x c y 0 d.node.signals ++ parts_of_leaves all x c (suc y) rest

abbrev pub steps_part : System → ℕ → Component → List ℕ
steps_part all x c = cause_part The_start all x c ++ parts_of_leaves all x c 0 all.components

-- A LEAF

-- with the quantum that it is given; what is reported besides is of the system without quantities
abbrev pub why_lines : Scenario → System → ℕ → Component → Amount → List ℕ
why_lines s all x c quantum = own_parts s.version (subject all c) quantum ++ needs_part s (subject all c) c.node.provides ++ steps_part all x c

-- the x-th leaf of a system, and of the scenario with its quantities
abbrev pub leaf_lines : Scenario → System → ℕ → Option Component → Option Component → List ℕ
leaf_lines s all x (Some c) (Some d) = why_lines s all x c d.node.quantum
leaf_lines s all x None d = []
leaf_lines s all x (Some c) None = []

abbrev pub why_text : Scenario → ℕ → List ℕ
why_text s x = let all = system (unsized s) in leaf_lines s all x (slice_get all.components x) (slice_get (components s) x)
