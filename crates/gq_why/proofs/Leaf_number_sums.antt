-- What the numbers of a leaf add up to.
use Rattle.std.proofs.Common.{◌≡◌, ℕ, zero, suc, ◌+◌, ◌*◌, max, length, Bool, true, false, List, [], ◌∷◌, ◌++◌, Option, Some, None, refl, ap, sym, ◌∙◌, arith}
use Rattle.std.specs.Prelude.{nat_lt, if◌then◌else◌, sum_by}
use Rattle.std.proofs.lemmas.Bool.Decides.{nat_tests}
use Rattle.std.proofs.lemmas.List.Sums.{sum_by-cons}
use Rattle.gq_tariff.specs.Prices.{classes}
use Rattle.gq_model.specs.declared.program.Form.TheVariants.{Slice}
use Rattle.gq_model.specs.declared.section.Section.{Section}
use Rattle.gq_model.specs.declared.section.Section.TheVariants.{Main, Opening, Upgrading, Calling, Closing, Reacting}
use Rattle.gq_model.specs.machine.Amounts.{Resource}
use Rattle.gq_model.specs.machine.Lists.{greatest}
use Rattle.gq_model.specs.machine.Resource_prices.{chunks}
use Rattle.gq_model.specs.machine.Program.{Statements, Done, Do, If, Loop, size}
use Rattle.gq_model.specs.machine.Scenario.{Component, Interface, System}
use Rattle.gq_model.specs.rules.Budgets.{heap_cost, own, section_cost}
use Rattle.gq_model.specs.rules.Flow.{at, body, context, flow, points, start_of, state_or}
use Rattle.gq_model.specs.rules.Kinds.{Kind, Memory, AbstractState, Subject, Context, inside, kind_lent, kind_price, kinds_cost, session_cost}
use Rattle.gq_model.specs.rules.Rules.{judged}
use Rattle.gq_model.specs.rules.Use.{Cause, The_start, A_signal, steps_for, steps_of, times}
use Rattle.gq_verify.specs.Visits.{slots_of}
use Rattle.gq_verify.proofs.Visited_point_maxima.{greatest-append}
use Rattle.gq_why.specs.Why.{Point, after_each, highest, kind_cost, often, or_later, places_at, points_of}
use Rattle.gq_why.specs.Adds.{classes_sum, number_at, shown_times}

-- SLOTS

pub items_add : (r : Resource) (kinds : List Kind) → sum_by (kind_cost r) kinds ≡ kinds_cost r kinds
items_add r [] = refl
items_add r (kind ∷ rest) =
    let all = sum_by-cons (kind_cost r) kind rest in
    let prices = sum_by-cons (kind_price r) kind rest in
    let lent = sum_by-cons (kind_lent r) kind rest in
    let further = items_add r rest in
    omega (arith, all, prices, lent, further)

pub session_adds : (r : Resource) (i : Interface) (bank : List Kind) → kind_price r (Memory Slice i.object) + sum_by (kind_cost r) bank ≡ session_cost r i bank
session_adds r i bank = ap (λ n. kind_price r (Memory Slice i.object) + n) (items_add r bank)

-- STEPS

none_runs : (d : ℕ) (all : System) (x i : ℕ) → times d The_start all x (Reacting i) ≡ 0
none_runs zero all x i = refl
none_runs (suc d) all x i = refl

some_run : (t : ℕ) → (if nat_lt 0 t then t else 0) ≡ t
some_run t = by (nat_lt 0 t) refl
  where
    by : (b : Bool) → nat_lt 0 t ≡ b → (if b then t else 0) ≡ t
    by true e = refl
    by false e = grind (arith, nat_tests)

-- a section without a line does not run
pub shown_same : (cause : Cause) (all : System) (x : ℕ) (section : Section) → shown_times cause all x section ≡ often cause all x section
shown_same The_start all x Main = refl
shown_same The_start all x Opening = refl
shown_same The_start all x (Upgrading l) = refl
shown_same The_start all x (Calling l) = refl
shown_same The_start all x (Closing l) = refl
shown_same The_start all x (Reacting i) = sym (none_runs (length all.components) all x i)
shown_same (A_signal y j) all x section = some_run (often (A_signal y j) all x section)

products_add : (runs : Section → ℕ) (sections : List (Section × Statements)) →
    sum_by (λ (p : Section × Statements). runs p.0 * section_cost p.0 p.1) sections ≡ steps_of runs sections
products_add runs [] = refl
products_add runs (p ∷ rest) =
    sum_by-cons (λ (p : Section × Statements). runs p.0 * section_cost p.0 p.1) p rest
    ∙ ap (λ n. runs p.0 * section_cost p.0 p.1 + n) (products_add runs rest)

pub steps_add : (cause : Cause) (all : System) (x : ℕ) (c : Component) →
    sum_by (λ (p : Section × Statements). shown_times cause all x p.0 * section_cost p.0 p.1) c.node.program.sections ≡ steps_for cause all x c
steps_add cause all x c =
    products_add (shown_times cause all x) c.node.program.sections
    ∙ ap (λ (runs : Section → ℕ). steps_of runs c.node.program.sections) (λ i p. shown_same cause all x p i)

-- OWN

-- what is there at the first highest point is the greatest number of all
later_number : (f : AbstractState → ℕ) (p : Point) (o : Option Point) → f (or_later f p o).state ≡ max (f p.state) (number_at f o)
later_number f p None = omega arith
later_number f p (Some q) = by (nat_lt (f p.state) (f q.state)) refl
  where
    by : (b : Bool) → nat_lt (f p.state) (f q.state) ≡ b → f (if b then q else p).state ≡ max (f p.state) (f q.state)
    by true less = grind (arith, nat_tests)
    by false less = grind (arith, nat_tests)

pub highest_number : (f : AbstractState → ℕ) (ps : List Point) → number_at f (highest f ps) ≡ greatest (λ (p : Point). f p.state) ps
highest_number f [] = refl
highest_number f (p ∷ rest) = later_number f p (highest f rest) ∙ ap (λ n. max (f p.state) n) (highest_number f rest)

-- the points after the statements of a list, with its start, are its points, as far as a number goes that depends on slots alone
each_greatest : (f : AbstractState → ℕ) → ((s : AbstractState) → f (slots_of s) ≡ f s) → (section : Section) (c : Context) (k : ℕ) (s : AbstractState)
    (b : Statements) →
    greatest f (points c s b) ≡ max (f s) (greatest (λ (p : Point). f p.state) (after_each section c k s b))
each_greatest f slots section c k s Done = refl
each_greatest f slots section c k s (Do i rest) =
    let t = state_or s (at 1 (judged c s i)) in
    let more = each_greatest f slots section c (suc k) t rest in
    omega (arith, more)
each_greatest f slots section c k s (If arm other rest) =
    let t = slots_of s in
    let w = state_or t (flow c t arm) in
    let n = λ (p : Point). f p.state in
    let first = after_each section c (suc k) t arm in
    let second = after_each section c (suc k + size arm) t other in
    let third = after_each section c (suc k + size arm + size other) w rest in
    let a = each_greatest f slots section c (suc k) t arm in
    let b = each_greatest f slots section c (suc k + size arm) t other in
    let d = each_greatest f slots section c (suc k + size arm + size other) w rest in
    let e = greatest-append n (first ++ second) (record { section = section; number = k; state = w } ∷ third) in
    let g = greatest-append n first second in
    let p = greatest-append f (points c t arm ++ points c t other) (points c w rest) in
    let q = greatest-append f (points c t arm) (points c t other) in
    let here = slots s in
    omega (arith, a, b, d, e, g, p, q, here)
each_greatest f slots section c k s (Loop m inner rest) =
    let n = λ (p : Point). f p.state in
    let first = after_each section (inside c m) (suc k) s inner in
    let second = after_each section c (suc k + size inner) s rest in
    let a = each_greatest f slots section (inside c m) (suc k) s inner in
    let d = each_greatest f slots section c (suc k + size inner) s rest in
    let e = greatest-append n first (record { section = section; number = k; state = s } ∷ second) in
    let p = greatest-append f (points (inside c m) s inner) (points c s rest) in
    omega (arith, a, d, e, p)

points_number : (f : AbstractState → ℕ) → ((s : AbstractState) → f (slots_of s) ≡ f s) → (v : Subject) →
    number_at f (highest f (points_of v Main)) ≡ greatest f (points (context v Main) (start_of v Main) (body v Main))
points_number f slots v =
    highest_number f (points_of v Main) ∙ sym (each_greatest f slots Main (context v Main) 1 (start_of v Main) (body v Main))

classes_add : (r : Resource) (v : Subject) (cs : List ℕ) →
    classes_sum r (points_of v Main) cs ≡ heap_cost r (points (context v Main) (start_of v Main) (body v Main)) cs
classes_add r v [] = refl
classes_add r v (c ∷ cs) = (λ i. chunks r (c * points_number (places_at c) (λ s. refl) v i) + classes_add r v cs i)

pub own_adds : (r : Resource) (v : Subject) → let points = points_of v Main in
    number_at (λ s. kinds_cost r s.own) (highest (λ s. kinds_cost r s.own) points) + classes_sum r points classes ≡ own r v
own_adds r v = (λ i. points_number (λ s. kinds_cost r s.own) (λ s. refl) v i + classes_add r v classes i)
