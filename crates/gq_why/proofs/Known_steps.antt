-- The numbers of a leaf's steps are kept as they are, where there is no fault but for quantities.
use Rattle.std.proofs.Common.{◌≡◌, ◌<◌, ◌≤◌, ℕ, zero, suc, ◌*◌, ◌^◌, Bool, true, false, ◌&&◌, List, [], ◌∷◌, length, map, get_or, drop, Option, Some, None}
use Rattle.std.proofs.Common.{refl, ap, sym, ◌∙◌, subst, arith}
use Rattle.std.proofs.lemmas.List.{length-map}
use Rattle.std.proofs.Math.ListN.{drop_of_length-le}
use Rattle.std.specs.Prelude.{if◌then◌else◌, option_map, slice_get, slice_index, slice_index_or}
use Rattle.std.proofs.lemmas.Option.{get_or_from_slice_get, slice_get-get_or, slice_get-map, slice_get_read, slice_get_within}
use Rattle.gq_model.specs.declared.section.Section.{Section}
use Rattle.gq_model.specs.machine.Amounts.{Ram, Caps}
use Rattle.gq_model.specs.machine.Lists.{any_of, or_first}
use Rattle.gq_model.specs.machine.Program.{Statements, text_eq}
use Rattle.gq_model.specs.machine.Routes.{server_of}
use Rattle.gq_model.specs.machine.Run.{label_at}
use Rattle.gq_model.specs.machine.Scenario.{Component, Scenario, System, components, system}
use Rattle.gq_model.specs.machine.Step_budgets.{StepBudget}
use Rattle.gq_model.specs.rules.Accept.{Budget, Refusal, bad_program, budgets, not_resolved, program_refusal, steps_refusal}
use Rattle.gq_model.specs.rules.Budgets.{section_cost, section_requests}
use Rattle.gq_model.specs.rules.Resolve.{after_fault, cycle_fault, offer_fault, quanta_fault, routes_fault, unresolved}
use Rattle.gq_model.specs.rules.Use.{Cause, The_start, A_signal, is_there, services, step_budget, steps_for, subject, times}
use Rattle.gq_model.specs.rules.Verdict.{Fault, greatest_cost, program_fault}
use Rattle.gq_model.specs.Promises.{budget_of}
use Rattle.gq_model.proofs.Small_facts.{get_within, none_some, or_first_none, some_none, some_same}
use Rattle.gq_laws.proofs.verified_programs.Own_costs.{reported_is}
use Rattle.gq_verify.specs.Saturated_numbers.{saturated}
use Rattle.gq_verify.specs.Requested.{requests_for}
use Rattle.gq_resolve.specs.Served.{AreServers, server_at}
use Rattle.gq_budget.specs.Leaf_section_counts.{AreCountsOf, Counted, IsCountOf}
use Rattle.gq_budget.specs.Leaf_routes.{leaves_of}
use Rattle.gq_budget.specs.Times.{time_at}
use Rattle.gq_load.specs.Load.{refused, sources_fault}
use Rattle.gq_load.specs.Unsized_judgement.{unsized_fault, unsized_refusal}
use Rattle.gq_load.specs.internal.Counted_leaves.{counted_leaves}
use Rattle.gq_load.proofs.Step_counted_leaves.{leaves_same}
use Rattle.gq_why.specs.internal.Step_parts.{AreCounts, AreRunsOf, IsCauseOf, Runs}
use Rattle.gq_why.proofs.Counted_steps.{as_many, cost_at, counts_at, kept_small, often_at, requests_at}
use Rattle.gq_why.proofs.Step_limits.{AreSmall, budget_small, costs_small, requests_small, signal_in_budget, steps_few}

-- FAULTS

refused_none : (why : Option Refusal) → refused why ≡ None → why ≡ None
refused_none None e = refl
refused_none (Some why) e = absurd (some_none e)

bad_none : (name : List ℕ) (fault : Option Fault) → bad_program name fault ≡ None → fault ≡ None
bad_none name None e = refl
bad_none name (Some fault) e = absurd (some_none e)

each_fine : (all : System) (cs : List Component) → program_refusal all cs ≡ None → (x : ℕ) (c : Component) → slice_get cs x ≡ Some c
    → program_fault (subject all c) ≡ None
each_fine all [] none x c there = absurd (none_some there)
each_fine all (d ∷ cs) none zero c there =
    let both = or_first_none (bad_program d.node.name (program_fault (subject all d))) (program_refusal all cs) none in
    subst (λ (e : Component). program_fault (subject all e) ≡ None) (some_same there)
    (bad_none d.node.name (program_fault (subject all d)) both.0)
each_fine all (d ∷ cs) none (suc x) c there =
    let both = or_first_none (bad_program d.node.name (program_fault (subject all d))) (program_refusal all cs) none in each_fine all cs both.1 x c there

module _ (s : Scenario) (faultless : unsized_fault s ≡ None) where
  refusals : (program_refusal (system s) (components s) ≡ None) × (unresolved s ≡ None) × (steps_refusal (components s) (budgets s) ≡ None)
  refusals =
      let judged = refused_none (unsized_refusal s) (or_first_none (sources_fault (components s)) (refused (unsized_refusal s)) faultless).1 in
      let a = or_first_none (program_refusal (system s) (components s))
      (or_first (not_resolved (unresolved s)) (steps_refusal (components s) (budgets s))) judged in
      let b = or_first_none (not_resolved (unresolved s)) (steps_refusal (components s) (budgets s)) a.1 in
      (a.0, by (unresolved s) b.0, b.1)
    where
      by : (o : _) → not_resolved o ≡ None → o ≡ None
      by None e = refl
      by (Some fault) e = absurd (some_none e)

  -- no leaf reaches itself
  pub no_cycle : cycle_fault (system s) 0 (components s) ≡ None
  no_cycle =
      let all = system s in
      let a = or_first_none (quanta_fault Ram s) _ refusals.1 in
      let b = or_first_none (quanta_fault Caps s) _ a.1 in
      let c = or_first_none (offer_fault s) _ b.1 in
      let d = or_first_none (after_fault all.components [] all.components) _ c.1 in
      (or_first_none (routes_fault all.components) (cycle_fault all 0 all.components) d.1).1

  module _ (x : ℕ) (c : Component) (there : slice_get (components s) x ≡ Some c) where
    -- no program breaks a rule
    pub fine : program_fault (subject (system s) c) ≡ None
    fine = each_fine (system s) (components s) refusals.0 x c there

    -- and no leaf takes too many steps for one cause
    few : (cause : Cause) → IsCauseOf (components s) cause → steps_for cause (system s) x c ≤ greatest_cost
    few cause is =
        let b = budget_of s x c in
        steps_few (system s) x c b refl (budget_small (components s) (budgets s) refusals.2 x c b there (reported_is s x c there)) cause is

-- NUMBERS

-- how often a section of the x-th leaf runs, a number that it has each time, and their product, which is no number of more than 64 bits
pub record IsProduct (cause : Cause) (all : System) (x : ℕ) (section : Section) (number : ℕ) (often_kept kept : ℕ) : Type 0 where
  pub often : often_kept ≡ times (length all.components) cause all x section
  pub each : kept ≡ number
  pub fits : often_kept * kept < 2 ^ 64

kept_product : (cause : Cause) (all : System) (x : ℕ) (section : Section) (number often_kept kept : ℕ)
    → AreSmall (times (length all.components) cause all x section) number → often_kept ≡ saturated (times (length all.components) cause all x section)
    → kept ≡ saturated number → IsProduct cause all x section number often_kept kept
kept_product cause all x section number often_kept kept small o e =
    let often = kept_small (times (length all.components) cause all x section) often_kept small.often o in
    let each = kept_small number kept small.once e in
    let same : often_kept * kept ≡ times (length all.components) cause all x section * number = (λ i. often i * each i) in
    let most = small.all in
    record { often = often; each = each; fits = omega (arith, same, most) }

-- what stands at a place among the sections of a leaf, by their names
section_at : (sections : List (Section × Statements)) (names : List Section) (k : ℕ) (section : Section) → names ≡ map (λ p. p.0) sections
    → slice_get names k ≡ Some section → (b : Statements) × (slice_get sections k ≡ Some (section, b))
section_at sections names k section e is =
    by (slice_get sections k) refl (sym (slice_get-map name sections k) ∙ (ap (λ l. slice_get l k) (sym e) ∙ is))
  where
    name : Section × Statements → Section
    name p = p.0

    by : (o : Option (Section × Statements)) → slice_get sections k ≡ o → option_map name o ≡ Some section
        → (b : Statements) × (slice_get sections k ≡ Some (section, b))
    by None f named = absurd (none_some named)
    by (Some p) f named = (p.1, f ∙ (λ i. Some (some_same named i, p.1)))

module _ (s : Scenario) (cs : List Component) (ns : List Counted) (routes : List (List (List ℕ × ℕ))) (bs : List Budget)
    (known : AreCounts s cs ns routes bs) where
  -- as much is counted as there are leaves
  pub counts_length : length ns ≡ length (components s)
  counts_length = as_many (system s) ns (components s) known.counted

  module _ (x : ℕ) (c : Component) (n : Counted) (there : slice_get (components s) x ≡ Some c) (read : n ≡ get_or ns x n) where
    counts : IsCountOf n (record { subject = subject (system s) c; provides = c.node.provides })
    counts =
        let many = counts_length in
        let within = slice_get_within (components s) x c there in
        counts_at (system s) ns (components s) known.counted x c n there (slice_get_read ns (length ns) x n refl (omega (arith, many, within)) read)

    module _ (names : List Section) (all : names ≡ n.sections) (k : ℕ) where
      -- past the last name no section is left
      pub none_left : length names ≤ k → drop k c.node.program.sections ≡ []
      none_left past =
          let many = ap length (all ∙ counts.sections) in
          let same = length-map c.node.program.sections (λ (p : Section × Statements). p.0) in
          drop_of_length-le c.node.program.sections (omega (arith, past, many, same))

      -- else there is a section of that name
      module _ (r : Runs) (runs : AreRunsOf s r) (less : k < length names) (d : Section) where
        found : (b : Statements) × (slice_get c.node.program.sections k ≡ Some (get_or names k d, b))
        found = section_at c.node.program.sections names k (get_or names k d) (all ∙ counts.sections) (slice_get-get_or names k d less)

        times_kept : time_at r.table x k ≡ saturated (times (length (components s)) r.cause (system s) x (get_or names k d))
        times_kept = ap (λ t. time_at t x k) runs.table ∙ often_at r.cause (system s) x c k (get_or names k d, found.0) there found.1

        -- with its steps
        pub costs_known : (often cost : ℕ) → often ≡ time_at r.table x k → cost ≡ get_or n.costs k 0 → (b : Statements)
            × (slice_get c.node.program.sections k ≡ Some (get_or names k d, b))
            × IsProduct r.cause (system s) x (get_or names k d) (section_cost (get_or names k d) b) often cost
        costs_known often cost o e =
            let p : Section × Statements = (get_or names k d, found.0) in
            let small = costs_small (subject (system s) c) (fine s known.faultless x c there)
            (times (length (components s)) r.cause (system s) x) (few s known.faultless x c there r.cause runs.there) k p found.1 in (
              found.0,
              found.1,
              kept_product r.cause (system s) x p.0 (section_cost p.0 p.1) often cost small (o ∙ times_kept)
                  (e ∙ (ap (λ l. get_or l k 0) counts.costs ∙ cost_at c.node.program.sections k p found.1)),
            )

        -- and with its requests for a section of a service
        pub requests_known : (service : List ℕ) (asked : Section) (often requests : ℕ) → often ≡ time_at r.table x k
            → requests ≡ saturated (requests_for (get_or n.requests k []) service asked) → (b : Statements)
            × (slice_get c.node.program.sections k ≡ Some (get_or names k d, b))
            × IsProduct r.cause (system s) x (get_or names k d) (section_requests (subject (system s) c) (get_or names k d) service asked) often requests
        requests_known service asked often requests o e =
            let v = subject (system s) c in
            let p : Section × Statements = (get_or names k d, found.0) in
            let small = requests_small v (fine s known.faultless x c there) (times (length (components s)) r.cause (system s) x)
            (few s known.faultless x c there r.cause runs.there) k p found.1 service asked in (
              found.0,
              found.1,
              kept_product r.cause (system s) x p.0 (section_requests v p.0 service asked) often requests small (o ∙ times_kept)
                  (e ∙ requests_at v c.node.program.sections n.requests counts.requests k p found.1 service asked),
            )

-- ROUTES

printed_so : (x : ℕ) (opens : Bool) (server : Option ℕ) → is_there x (if opens then server else None) ≡ (opens && is_there x server)
printed_so x true server = refl
printed_so x false server = refl

-- where a server is reported a leaf opens the service and its route leads there
pub server_reported : (s : Scenario) (routes : List (List (List ℕ × ℕ))) → AreServers s routes → (y : ℕ) (c : Component) → slice_get (components s) y ≡ Some c
    → (service : List ℕ) (x : ℕ)
    → is_there x (server_at y service routes) ≡ (any_of (text_eq service) (services c) && is_there x (server_of (system s) c service))
server_reported s routes known y c there service x =
    ap (is_there x) (known.reported y c there service) ∙ printed_so x (any_of (text_eq service) (services c)) (server_of (system s) c service)

-- LEAVES

-- what is counted of the leaves of a scenario, as a system knows them
pub counted_so : (s : Scenario) (cs : List Component) (ns others : List Counted) → cs ≡ components s → others ≡ ns
    → AreCountsOf ns (counted_leaves s.interfaces cs) → AreCountsOf others (leaves_of (system s))
counted_so s cs ns others e same h =
    subst (λ (l : List Counted). AreCountsOf l (leaves_of (system s))) (sym same)
    (subst (AreCountsOf ns) (ap (counted_leaves s.interfaces) e ∙ leaves_same (system s) (components s)) h)

-- each leaf has a budget
pub budget_there : (s : Scenario) (bs : List Budget) (x : ℕ) → bs ≡ budgets s → x < length (components s) → x < length bs
budget_there s bs x e less =
    let found = get_within (components s) x less in
    let within = slice_get_within (budgets s) x (budget_of s x found.0) (reported_is s x found.0 found.1) in
    let same = ap (λ (l : List Budget). length l) e in
    omega (arith, within, same)

-- which has its steps
pub budget_steps : (s : Scenario) (bs : List Budget) (x : ℕ) (c : Component) (b : Budget) → bs ≡ budgets s → slice_get (components s) x ≡ Some c
    → b ≡ get_or bs x b → b.steps ≡ step_budget (system s) x c
budget_steps s bs x c b e there is =
    let all : b ≡ get_or (budgets s) x b = is ∙ ap (λ (l : List Budget). get_or l x b) e in
    ap (λ (b : Budget). b.steps) (all ∙ get_or_from_slice_get (budgets s) x (budget_of s x c) b (reported_is s x c there))

-- so it has its steps for the start
pub start_steps : (s : Scenario) (bs : List Budget) (x : ℕ) (c : Component) (b : Budget) → bs ≡ budgets s → slice_get (components s) x ≡ Some c
    → b ≡ get_or bs x b → b.steps.from_start ≡ steps_for The_start (system s) x c
start_steps s bs x c b e there is = ap (λ (b : StepBudget). b.from_start) (budget_steps s bs x c b e there is)

-- and for a signal
pub signal_steps : (s : Scenario) (bs : List Budget) (x : ℕ) (c : Component) (b : Budget) → bs ≡ budgets s → slice_get (components s) x ≡ Some c
    → b ≡ get_or bs x b → (y i : ℕ) → IsCauseOf (components s) (A_signal y i)
    → slice_index (slice_index_or b.steps.for_signals y []) i ≡ steps_for (A_signal y i) (system s) x c
signal_steps s bs x c b e there is y i cause =
    ap (λ (b : StepBudget). slice_index (slice_index_or b.for_signals y []) i) (budget_steps s bs x c b e there is)
    ∙ signal_in_budget (system s) x c y i cause.0 cause.1 cause.2

-- the leaf of a signal at its place
pub signal_label : (s : Scenario) (cs : List Component) (y i : ℕ) (item : Component) → cs ≡ components s → IsCauseOf (components s) (A_signal y i)
    → (get_or cs y item).label ≡ label_at (slice_get (components s) y)
signal_label s cs y i item leaves cause =
    let is : get_or cs y item ≡ cause.0 =
    ap (λ (l : List Component). get_or l y item) leaves ∙ get_or_from_slice_get (components s) y cause.0 item cause.1 in
    ap (λ (c : Component). c.label) is ∙ ap label_at (sym cause.1)
