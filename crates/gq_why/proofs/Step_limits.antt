-- How large the numbers of a leaf's steps are: each product, and each factor, is within its step budget or within what a section may cost.
use Rattle.std.proofs.Common.{◌≡◌, ◌<◌, ◌≤◌, ℕ, zero, suc, ◌+◌, ◌*◌, Bool, true, false, ◌&&◌, List, [], ◌∷◌, Option, Some, None, Ok, Err}
use Rattle.std.proofs.Common.{refl, ap, sym, ◌∙◌, subst, arith, nat_le}
use Rattle.std.proofs.Math.Nat.{mul-le-mul_left, le-mul_of_pos_right}
use Rattle.std.specs.Prelude.{slice_get, slice_index, slice_index_or, if◌then◌else◌}
use Rattle.std.proofs.lemmas.Bool.Decides.{nat_tests}
use Rattle.gq_model.specs.declared.fault.Rule.TheVariants.{BudgetTooLarge}
use Rattle.gq_model.specs.declared.program.Instruction.{Instruction}
use Rattle.gq_model.specs.declared.program.Instruction.TheVariants.{Open, Upgrade, Call, Close}
use Rattle.gq_model.specs.declared.section.Section.{Section}
use Rattle.gq_model.specs.declared.section.Section.TheVariants.{Main, Opening, Upgrading, Calling, Closing, Reacting}
use Rattle.gq_model.specs.machine.Amounts.{Amount}
use Rattle.gq_model.specs.machine.Program.{Statements, Done, Do, If, Loop, body_of, section_in, size, text_eq}
use Rattle.gq_model.specs.machine.Sections.{same_section}
use Rattle.gq_model.specs.machine.Scenario.{Component, System}
use Rattle.gq_model.specs.machine.Lists.{all_of}
use Rattle.gq_model.specs.machine.Step_budgets.{StepBudget}
use Rattle.gq_model.specs.rules.Accept.{Budget, are_small, is_small, steps_refusal}
use Rattle.gq_model.specs.rules.Budgets.{asks, by_link, cost, is_one, requests, section_cost, section_requests}
use Rattle.gq_model.specs.rules.Flow.{Flowed, at, context, flow, section_flow, start_of, state_or}
use Rattle.gq_model.specs.rules.Kinds.{Context, AbstractState, Subject, inside, kind_at}
use Rattle.gq_model.specs.rules.Rules.{judged, link_kind}
use Rattle.gq_model.specs.rules.Use.{Cause, The_start, A_signal, step_budget, steps_for, steps_for_leaves, steps_for_signals, steps_of}
use Rattle.gq_model.specs.rules.Verdict.{Fault, fault_of, first_fault, greatest_cost, program_fault}
use Rattle.gq_model.proofs.Rules_laws.{accepted, same_section_is}
use Rattle.gq_model.proofs.Section_laws.{same_self}
use Rattle.std.proofs.lemmas.Bool.{and_from, and_parts, leb-true, true≢false}
use Rattle.gq_model.proofs.Small_facts.{add_next, add_none, none_add, none_some, or_first_none, some_none, some_same}
use Rattle.gq_load.proofs.Saturated_step_budgets.{small_first}
use Rattle.gq_load.proofs.Signal_line_steps.{step_at_small}
use Rattle.gq_why.specs.internal.Step_parts.{IsCauseOf}

-- REQUESTS

one_most : (service : List ℕ) (section : Section) (of : List ℕ) (asked : Section) → is_one service section of asked ≤ 1
one_most service section of asked = by (text_eq service of && same_section section asked)
  where
    by : (b : Bool) → (if b then 1 else 0) ≤ 1
    by true = omega arith
    by false = omega arith

link_most : (service : List ℕ) (section : Section) (l : Option (List ℕ × ℕ × Amount)) (of : ℕ → Section) → by_link service section l of ≤ 1
link_most service section None of = omega arith
link_most service section (Some l) of = one_most service section l.0 (of l.1)

-- a statement asks once at most
asks_most : (service : List ℕ) (section : Section) (c : Context) (s : AbstractState) (i : Instruction) → asks service section c s i ≤ 1
asks_most service section c s (Open place of n) = one_most service section of Opening
asks_most service section c s (Upgrade place n) = link_most service section (link_kind (kind_at c s place)) (λ l. Upgrading (suc l))
asks_most service section c s (Call place) = link_most service section (link_kind (kind_at c s place)) (λ l. Calling l)
asks_most service section c s (Close place) = link_most service section (link_kind (kind_at c s place)) (λ l. Closing l)
asks_most service section c s _ = omega arith

rounds_less : (n a b r d : ℕ) → a ≤ b → r ≤ d → n * a + r ≤ n * (1 + b) + 1 + d
rounds_less n a b r d h k =
    let less : a ≤ 1 + b = omega (arith, h) in let more = mul-le-mul_left n less in omega (arith, more, k)

-- so statements ask no more often than they take steps
requests_less : (service : List ℕ) (section : Section) (c : Context) (s : AbstractState) (b : Statements) → requests service section c s b ≤ cost b
requests_less service section c s Done = omega arith
requests_less service section c s (Do i rest) =
    let here = asks_most service section c s i in
    let further = requests_less service section c (state_or s (at 1 (judged c s i))) rest in
    omega (arith, here, further)
requests_less service section c s (If arm other rest) =
    let t : AbstractState = record s { bounds = [] } in
    let first = requests_less service section c t arm in
    let second = requests_less service section c t other in
    let further = requests_less service section c (state_or t (flow c t arm)) rest in
    omega (arith, first, second, further)
requests_less service section c s (Loop n body rest) =
    rounds_less n _ _ _ _ (requests_less service section (inside c n) s body) (requests_less service section c s rest)

-- SECTIONS

section_more : (section : Section) (b : Statements) → suc (cost b) ≤ section_cost section b
section_more Main b = omega arith
section_more Opening b = omega arith
section_more (Upgrading l) b = omega arith
section_more (Calling l) b = omega arith
section_more (Closing l) b = omega arith
section_more (Reacting i) b = omega arith

-- a section that is there is found by its name
there_found : (sections : List (Section × Statements)) (k : ℕ) (p : Section × Statements) → slice_get sections k ≡ Some p
    → (b : Statements) × (section_in p.0 sections ≡ Some b)
there_found [] k p e = absurd (none_some e)
there_found (q ∷ rest) k p e = by (same_section p.0 q.0) refl k e (λ j. there_found rest j p)
  where
    by : (same : Bool) → same_section p.0 q.0 ≡ same → (k : ℕ) → slice_get (q ∷ rest) k ≡ Some p
        → ((j : ℕ) → slice_get rest j ≡ Some p → (b : Statements) × (section_in p.0 rest ≡ Some b))
        → (b : Statements) × ((if same then Some q.1 else section_in p.0 rest) ≡ Some b)
    by true is k e further = (q.1, refl)
    by false is zero e further =
        absurd (true≢false (sym (same_self p.0) ∙ (ap (λ (o : Section × Statements). same_section p.0 o.0) (sym (some_same e)) ∙ is)))
    by false is (suc k) e further = further k e

-- and what is found by a name is there
found_there : (sections : List (Section × Statements)) (section : Section) (b : Statements) → section_in section sections ≡ Some b
    → (k : ℕ) × (slice_get sections k ≡ Some (section, b))
found_there [] section b e = absurd (none_some e)
found_there (q ∷ rest) section b e = by (same_section section q.0) refl e (found_there rest section b)
  where
    by : (same : Bool) → same_section section q.0 ≡ same → (if same then Some q.1 else section_in section rest) ≡ Some b
        → (section_in section rest ≡ Some b → (k : ℕ) × (slice_get rest k ≡ Some (section, b))) → (k : ℕ) × (slice_get (q ∷ rest) k ≡ Some (section, b))
    by true is e further = (zero, (λ i. Some (sym (same_section_is section q.0 is) i, some_same e i)))
    by false is e further = let more = further e in (suc more.0, more.1)

-- where there is no fault each costs little
cheap_here : (section : Section) (b : Statements) (x : Flowed) → fault_of section b x ≡ None → section_cost section b ≤ greatest_cost
cheap_here section b (Err fault) e = absurd (some_none e)
cheap_here section b (Ok s) e = by (nat_le (section_cost section b) greatest_cost) refl e
  where
    by : (t : Bool) → nat_le (section_cost section b) greatest_cost ≡ t
        → if◌then◌else◌ {A = Option Fault} t None (Some (record { rule = BudgetTooLarge; section = section; place = suc (size b) })) ≡ None
        → section_cost section b ≤ greatest_cost
    by true is e = grind (arith, nat_tests)
    by false is e = absurd (some_none e)

cheap_there : (v : Subject) (sections : List (Section × Statements)) → first_fault v sections ≡ None → (k : ℕ) (p : Section × Statements)
    → slice_get sections k ≡ Some p → section_cost p.0 p.1 ≤ greatest_cost
cheap_there v [] none k p e = absurd (none_some e)
cheap_there v (q ∷ rest) none zero p e =
    let both = or_first_none (fault_of q.0 q.1 (section_flow v q.0)) (first_fault v rest) none in
    subst (λ (o : Section × Statements). section_cost o.0 o.1 ≤ greatest_cost) (some_same e) (cheap_here q.0 q.1 (section_flow v q.0) both.0)
cheap_there v (q ∷ rest) none (suc k) p e =
    let both = or_first_none (fault_of q.0 q.1 (section_flow v q.0)) (first_fault v rest) none in cheap_there v rest both.1 k p e

-- PRODUCTS

-- each product is within the sum
term_less : (often : Section → ℕ) (sections : List (Section × Statements)) (k : ℕ) (p : Section × Statements) → slice_get sections k ≡ Some p
    → often p.0 * section_cost p.0 p.1 ≤ steps_of often sections
term_less often [] k p e = absurd (none_some e)
term_less often (q ∷ rest) zero p e =
    let same = ap (λ (o : Section × Statements). often o.0 * section_cost o.0 o.1) (some_same e) in omega (arith, same)
term_less often (q ∷ rest) (suc k) p e = let more = term_less often rest k p e in omega (arith, more)

-- how often a section runs, a number that it has each time, and their product are no greater than what a section may cost
pub record AreSmall (times number : ℕ) : Type 0 where
  pub often : times ≤ greatest_cost
  pub once : number ≤ greatest_cost
  pub all : times * number ≤ greatest_cost

module _ (v : Subject) (fine : program_fault v ≡ None) (often : Section → ℕ) (few : steps_of often v.program.sections ≤ greatest_cost) (k : ℕ)
    (p : Section × Statements) (there : slice_get v.program.sections k ≡ Some p) where
  -- what a section costs, as often as it runs
  pub costs_small : AreSmall (often p.0) (section_cost p.0 p.1)
  costs_small =
      let term = term_less often v.program.sections k p there in
      let steps = section_more p.0 p.1 in
      let once : often p.0 ≤ often p.0 * section_cost p.0 p.1 = le-mul_of_pos_right (often p.0) (omega (arith, steps)) in
      record { often = omega (arith, once, term, few); once = cheap_there v v.program.sections (accepted v fine).1 k p there; all = omega (arith, term, few) }

  -- what it asks for
  pub requests_small : (service : List ℕ) (section : Section) → AreSmall (often p.0) (section_requests v p.0 service section)
  requests_small service section =
      let found = there_found v.program.sections k p there in
      let place = found_there v.program.sections p.0 found.0 found.1 in
      let term = term_less often v.program.sections place.0 (p.0, found.0) place.1 in
      let cheap = cheap_there v v.program.sections (accepted v fine).1 place.0 (p.0, found.0) place.1 in
      let steps = section_more p.0 found.0 in
      let asked = requests_less service section (context v p.0) (start_of v p.0) (body_of (section_in p.0 v.program.sections)) in
      let same = ap (λ o. cost (body_of o)) found.1 in
      let less : section_requests v p.0 service section ≤ section_cost p.0 found.0 = omega (arith, steps, asked, same) in
      let product = mul-le-mul_left (often p.0) less in
      record { often = costs_small.often; once = omega (arith, less, cheap); all = omega (arith, product, term, few) }

-- BUDGETS

-- where none is refused for its steps, the steps of each leaf are few
pub budget_small : (cs : List Component) (bs : List Budget) → steps_refusal cs bs ≡ None → (x : ℕ) (c : Component) (b : Budget) → slice_get cs x ≡ Some c
    → slice_get bs x ≡ Some b → are_small b.steps ≡ true
budget_small [] bs none x c b there is = absurd (none_some there)
budget_small (d ∷ cs) [] none x c b there is = absurd (none_some is)
budget_small (d ∷ cs) (a ∷ bs) none zero c b there is =
    ap (λ (b : Budget). are_small b.steps) (sym (some_same is)) ∙ (small_first (are_small a.steps) d.node.name (steps_refusal cs bs) none).0
budget_small (d ∷ cs) (a ∷ bs) none (suc x) c b there is =
    budget_small cs bs (small_first (are_small a.steps) d.node.name (steps_refusal cs bs) none).1 x c b there is

-- the steps for the signals of a leaf, and those for a signal
signals_at : (all : System) (x : ℕ) (c : Component) (y : ℕ) (cs : List Component) (k : ℕ) (d : Component) → slice_get cs k ≡ Some d
    → slice_index_or (steps_for_leaves all x c y cs) k [] ≡ steps_for_signals all x c (y + k) 0 d.node.signals
signals_at all x c y [] k d e = absurd (none_some e)
signals_at all x c y (b ∷ cs) zero d e = (λ i. steps_for_signals all x c (add_none y i) 0 (some_same e i).node.signals)
signals_at all x c y (b ∷ cs) (suc k) d e = signals_at all x c (suc y) cs k d e ∙ ap (λ n. steps_for_signals all x c n 0 d.node.signals) (add_next y k)

signal_at : (all : System) (x : ℕ) (c : Component) (y i n j : ℕ) → j < n
    → slice_index (steps_for_signals all x c y i n) j ≡ steps_for (A_signal y (i + j)) all x c
signal_at all x c y i zero j less = absurd (omega (arith, less))
signal_at all x c y i (suc n) zero less = ap (λ m. steps_for (A_signal y m) all x c) (add_none i)
signal_at all x c y i (suc n) (suc j) less = signal_at all x c y (suc i) n j (omega (arith, less)) ∙ ap (λ m. steps_for (A_signal y m) all x c) (add_next i j)

-- the budget of a leaf has them
pub signal_in_budget : (all : System) (x : ℕ) (c : Component) (y i : ℕ) (d : Component) → slice_get all.components y ≡ Some d → i < d.node.signals
    → slice_index (slice_index_or (step_budget all x c).for_signals y []) i ≡ steps_for (A_signal y i) all x c
signal_in_budget all x c y i d there less =
    ap (λ (l : List ℕ). slice_index l i) (signals_at all x c 0 all.components y d there ∙ ap (λ n. steps_for_signals all x c n 0 d.node.signals) (none_add y))
    ∙ (signal_at all x c y 0 d.node.signals i less ∙ ap (λ m. steps_for (A_signal y m) all x c) (none_add i))

-- so its steps for one cause are few
pub steps_few : (all : System) (x : ℕ) (c : Component) (b : Budget) → b.steps ≡ step_budget all x c → are_small b.steps ≡ true → (cause : Cause)
    → IsCauseOf all.components cause → steps_for cause all x c ≤ greatest_cost
steps_few all x c b is small The_start cause =
    let least = leb-true b.steps.from_start greatest_cost (and_parts (is_small b.steps.from_start) (all_of (all_of is_small) b.steps.for_signals) small).0 in
    let same = ap (λ (b : StepBudget). b.from_start) is in
    omega (arith, least, same)
steps_few all x c b is small (A_signal y i) cause =
    let least = step_at_small y i 0 (b ∷ []) b (and_from (are_small b.steps) true small refl) (omega arith) refl in
    let same = ap (λ (b : StepBudget). slice_index (slice_index_or b.for_signals y []) i) is ∙ signal_in_budget all x c y i cause.0 cause.1 cause.2 in
    omega (arith, least, same)
