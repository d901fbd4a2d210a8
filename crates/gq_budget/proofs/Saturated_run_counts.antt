-- The rounds are the definition of how often sections run, kept as far as it goes.
use Rattle.std.proofs.Common.{◌≡◌, ℕ, zero, suc, arith, ◌+◌, ◌-◌, ◌^◌, Bool, true, false, List, [], ◌∷◌, map, length, get_or, Option, Some, None}
use Rattle.std.proofs.Common.{refl, ap, sym, subst, ◌∙◌}
use Rattle.std.specs.Prelude.{if◌then◌else◌, slice_get}
use Rattle.std.proofs.lemmas.Bool.{true≢false}
use Rattle.gq_model.specs.machine.Program.{Statements}
use Rattle.gq_model.specs.declared.section.Section.{Section}
use Rattle.gq_model.specs.declared.section.Section.TheVariants.{Main, Opening, Upgrading, Calling, Closing, Reacting}
use Rattle.gq_model.specs.machine.Scenario.{System, Component}
use Rattle.gq_model.specs.machine.Routes.{server_of}
use Rattle.gq_model.specs.rules.Budgets.{section_cost}
use Rattle.gq_model.specs.rules.Use.{subject, is_there, from_sections, from_leaves, asked_of, provided_by, times, steps_of, steps_for}
use Rattle.gq_model.specs.rules.Use.{Cause, The_start, A_signal, starts_main, is_signal}
use Rattle.gq_verify.specs.declared.asked.Asker.{Asker}
use Rattle.gq_verify.specs.Saturated_numbers.{saturated}
use Rattle.gq_budget.specs.Leaf_routes.{leaves_from, leaves_of, leads_for, leads_from, leads_of}
use Rattle.gq_budget.specs.Leaf_section_counts.{Counted, AreCountsOf, Agree, AgreeFor, AgreeWhereAsked, asks}
use Rattle.gq_budget.specs.Times.{row_of, table_of, times_table}
use Rattle.gq_budget.specs.internal.Counted.{costs_of}
use Rattle.gq_budget.specs.internal.Product_sums.{products}
use Rattle.gq_budget.specs.internal.Run_rounds.{askers_in, leaf_askers, askers_by, askers_for, all_asks, asked_sum, often, leaf_round, round, rounds}
use Rattle.gq_budget.specs.internal.Run_rounds.{budgets_by}
use Rattle.gq_budget.proofs.Section_request_counts.{asked_append, never, parts_kept, no_asker_in, product_and, HasParts}
use Rattle.gq_model.proofs.Small_facts.{add_none, none_add, add_next}

abbrev most : ℕ
most = 2 ^ 64 - 1

-- the steps of the leaves from the x-th on for one cause
abbrev pub cause_steps : Cause → System → ℕ → List Component → List ℕ
cause_steps cause system x [] = []
cause_steps cause system x (c ∷ rest) = saturated (steps_for cause system x c) ∷ cause_steps cause system (suc x) rest

-- TABLES

has_parts : (f : Section → ℕ) (row : List ℕ) (k : ℕ) (ps : List (Section × Statements)) → ((i : ℕ) → get_or row (k + i) 0 ≡ get_or (row_of f ps) i 0) →
    HasParts row f k ps
has_parts f row k [] h = tt {0}
has_parts f row k (p ∷ rest) h =
    (ap (λ n. get_or row n 0) (add_none k) ∙ h 0, has_parts f row (suc k) rest (λ i. ap (λ n. get_or row n 0) (add_next k i) ∙ h (suc i)))

-- a table has, from its y-th row on, how often the sections of these leaves run
abbrev HasRows : List (List ℕ) → (ℕ → Section → ℕ) → ℕ → List Component → Type 0
HasRows table f y cs = (i : ℕ) → get_or table (y + i) [] ≡ get_or (table_of f y cs) i []

row_parts : (f : ℕ → Section → ℕ) (table : List (List ℕ)) (y : ℕ) (c : Component) (rest : List Component) → HasRows table f y (c ∷ rest) →
    HasParts (get_or table y []) (f y) 0 c.node.program.sections
row_parts f table y c rest h =
    let row = ap (λ n. get_or table n []) (add_none y) ∙ h 0 in
    has_parts (f y) (get_or table y []) 0 c.node.program.sections
    (λ i. ap (λ n. get_or (get_or table y []) n 0) (none_add i) ∙ ap (λ (r : List ℕ). get_or r i 0) row)

rows_after : (f : ℕ → Section → ℕ) (table : List (List ℕ)) (y : ℕ) (c : Component) (rest : List Component) → HasRows table f y (c ∷ rest) →
    HasRows table f (suc y) rest
rows_after f table y c rest h = λ i. ap (λ n. get_or table n []) (add_next y i) ∙ h (suc i)

-- THOSE WHO ASK

-- a leaf asks by what is reported of its routes as by the routes, if it asks at all
one_leaf : (section : Section) (askers : List Asker) (table : List (List ℕ)) (all : ℕ) (is b d : Bool) → (is ≡ true → b ≡ d) → (is ≡ false → askers ≡ []) →
    saturated (asked_sum section askers table) ≡ saturated all →
    saturated (asked_sum section (if b then askers else []) table) ≡ saturated (if d then all else 0)
one_leaf section askers table all true true true same none e = e
one_leaf section askers table all true true false same none e = absurd (true≢false (same refl))
one_leaf section askers table all true false true same none e = absurd (true≢false (sym (same refl)))
one_leaf section askers table all true false false same none e = refl
one_leaf section askers table all false b d same none e =
    let zero_all : saturated all ≡ 0 = sym e ∙ ap (λ (l : List Asker). saturated (asked_sum section l table)) (none refl) in
    left b ∙ sym (right d zero_all)
  where
    left : (b : Bool) → saturated (asked_sum section (if b then askers else []) table) ≡ 0
    left true = ap (λ (l : List Asker). saturated (asked_sum section l table)) (none refl)
    left false = refl

    right : (d : Bool) → saturated all ≡ 0 → saturated (if d then all else 0) ≡ 0
    right true z = z
    right false z = refl

kept_both : (a b c d : ℕ) → saturated a ≡ saturated c → saturated b ≡ saturated d → saturated (a + b) ≡ saturated (c + d)
kept_both a b c d e f = omega (arith, e, f)

leaves_kept : (f : ℕ → Section → ℕ) (system : System) (x : ℕ) (service : List ℕ) (section : Section) (y : ℕ) (cs : List Component) (ns : List Counted)
    (row : List Bool) (table : List (List ℕ)) → AreCountsOf ns (leaves_from system cs) → AgreeFor service ns row (leads_for system x (Some service) cs) →
    HasRows table f y cs →
    saturated (asked_sum section (askers_by service y ns row) table) ≡ saturated (from_leaves f system x service section y cs)
leaves_kept f system x service section y [] [] row table h agree at = refl
leaves_kept f system x service section y [] (n ∷ ns) row table h agree at = absurd h
leaves_kept f system x service section y (c ∷ rest) [] row table h agree at = absurd h
leaves_kept f system x service section y (c ∷ rest) (n ∷ ns) [] table h agree at = absurd agree
leaves_kept f system x service section y (c ∷ rest) (n ∷ ns) (b ∷ row) table h agree at =
    let own = askers_in service y 0 n.requests in
    let ps = c.node.program.sections in
    let v = subject system c in
    let kept = parts_kept (f y) v service section y 0 ps n.requests table h.0.requests (row_parts f table y c rest at) in
    let first = one_leaf section own table (from_sections (f y) v service section ps) (asks service n) b (is_there x (server_of system c service)) agree.0
    (no_asker_in service y 0 n.requests) kept in
    let more = leaves_kept f system x service section (suc y) rest ns row table h.1 agree.1 (rows_after f table y c rest at) in
    ap saturated (asked_append section (leaf_askers service y n b) (askers_by service (suc y) ns row) table)
    ∙ kept_both (asked_sum section (leaf_askers service y n b) table) (asked_sum section (askers_by service (suc y) ns row) table)
    (if is_there x (server_of system c service) then from_sections (f y) v service section ps else 0) (from_leaves f system x service section (suc y) rest)
    first more

-- ROUNDS

-- how often a section runs in the round after the n-th, where the leaf provides this service
abbrev next_times : ℕ → Cause → System → ℕ → Option (List ℕ) → Section → ℕ
next_times n cause system x provides Main = starts_main cause
next_times n cause system x provides (Reacting i) = if is_signal cause x i then 1 else 0
next_times n cause system x provides section = asked_of (times n cause system) system x section provides

main_kept : (cause : Cause) → starts_main cause ≡ saturated (starts_main cause)
main_kept The_start = refl
main_kept (A_signal y i) = refl

once_kept : (b : Bool) → (if b then 1 else 0) ≡ saturated (if b then 1 else 0)
once_kept true = refl
once_kept false = refl

module _ (cause : Cause) (system : System) (ns : List Counted) (counts : AreCountsOf ns (leaves_of system)) where
  -- a table that has, at each leaf and section, how often it runs by f
  abbrev IsKept : List (List ℕ) → (ℕ → Section → ℕ) → Type 0
  IsKept table f =
      (x : ℕ) (provides : Option (List ℕ)) (section : Section) (row : List Bool) → provided_by (slice_get system.components x) ≡ provides
      → Agree provides ns row (leads_for system x provides system.components)
      → often cause x section (askers_for ns row provides) table ≡ saturated (f x section)

  abbrev now_table : ℕ → List (List ℕ)
  now_table n = table_of (times n cause system) 0 system.components

  next_asked : (n x : ℕ) (provides : Option (List ℕ)) (section : Section) (row : List Bool) →
      Agree provides ns row (leads_for system x provides system.components) →
      saturated (asked_sum section (askers_for ns row provides) (now_table n)) ≡ saturated (asked_of (times n cause system) system x section provides)
  next_asked n x None section row agree = refl
  next_asked n x (Some service) section row agree =
      leaves_kept (times n cause system) system x service section 0 system.components ns row (now_table n) counts agree
      (λ i. ap (λ k. get_or (now_table n) k []) (none_add i))

  next_often : (n x : ℕ) (provides : Option (List ℕ)) (section : Section) (row : List Bool) →
      Agree provides ns row (leads_for system x provides system.components) →
      often cause x section (askers_for ns row provides) (now_table n) ≡ saturated (next_times n cause system x provides section)
  next_often n x provides Main row agree = main_kept cause
  next_often n x provides Opening row agree = next_asked n x provides Opening row agree
  next_often n x provides (Upgrading l) row agree = next_asked n x provides (Upgrading l) row agree
  next_often n x provides (Calling l) row agree = next_asked n x provides (Calling l) row agree
  next_often n x provides (Closing l) row agree = next_asked n x provides (Closing l) row agree
  next_often n x provides (Reacting i) row agree = once_kept (is_signal cause x i)

  next_is : (n x : ℕ) (section : Section)
      → times (suc n) cause system x section ≡ next_times n cause system x (provided_by (slice_get system.components x)) section
  next_is n x Main = refl
  next_is n x Opening = refl
  next_is n x (Upgrading l) = refl
  next_is n x (Calling l) = refl
  next_is n x (Closing l) = refl
  next_is n x (Reacting i) = refl

  next_kept : (n : ℕ) → IsKept (now_table n) (times (suc n) cause system)
  next_kept n x provides section row e agree =
      next_often n x provides section row agree
      ∙ ap (λ n. saturated n) (sym (next_is n x section ∙ ap (λ p. next_times n cause system x p section) e))

  -- in the first round none is asked for
  first_kept : IsKept [] (times 0 cause system)
  first_kept x provides Main row e agree = main_kept cause
  first_kept x provides Opening row e agree = ap saturated (never Opening (askers_for ns row provides))
  first_kept x provides (Upgrading l) row e agree = ap saturated (never (Upgrading l) (askers_for ns row provides))
  first_kept x provides (Calling l) row e agree = ap saturated (never (Calling l) (askers_for ns row provides))
  first_kept x provides (Closing l) row e agree = ap saturated (never (Closing l) (askers_for ns row provides))
  first_kept x provides (Reacting i) row e agree = once_kept (is_signal cause x i)

  leaf_kept : (table : List (List ℕ)) (f : ℕ → Section → ℕ) (x : ℕ) (provides : Option (List ℕ)) (row : List Bool) (ps : List (Section × Statements)) →
      IsKept table f → provided_by (slice_get system.components x) ≡ provides → Agree provides ns row (leads_for system x provides system.components) →
      leaf_round cause x (map (λ p. p.0) ps) (askers_for ns row provides) table ≡ row_of (f x) ps
  leaf_kept table f x provides row [] h e agree = refl
  leaf_kept table f x provides row (p ∷ rest) h e agree =
      ap (λ n. n ∷ leaf_round cause x (map (λ p. p.0) rest) (askers_for ns row provides) table) (h x provides p.0 row e agree)
      ∙ ap (λ l. saturated (f x p.0) ∷ l) (leaf_kept table f x provides row rest h e agree)

  -- these are the leaves of a system from the x-th on
  abbrev AreFrom : ℕ → List Component → Type 0
  AreFrom x cs = (k : ℕ) → slice_get system.components (x + k) ≡ slice_get cs k

  round_kept : (table : List (List ℕ)) (f : ℕ → Section → ℕ) (x : ℕ) (cs : List Component) (ms : List Counted) (rows : List (List Bool)) → IsKept table f →
      AreFrom x cs → AreCountsOf ms (leaves_from system cs) → AgreeWhereAsked ns ms rows (leads_from system x cs) →
      round cause (all_asks ns x ms rows) table ≡ table_of f x cs
  round_kept table f x [] [] rows h at are agree = refl
  round_kept table f x [] (m ∷ ms) rows h at are agree = absurd are
  round_kept table f x (c ∷ rest) [] rows h at are agree = absurd are
  round_kept table f x (c ∷ rest) (m ∷ ms) [] h at are agree = absurd agree
  round_kept table f x (c ∷ rest) (m ∷ ms) (row ∷ rows) h at are agree =
      let ps = c.node.program.sections in
      let here : slice_get system.components x ≡ Some c = ap (λ n. slice_get system.components n) (add_none x) ∙ at 0 in
      let after : AreFrom (suc x) rest = λ k. ap (λ n. slice_get system.components n) (add_next x k) ∙ at (suc k) in
      let agrees : Agree c.node.provides ns row (leads_for system x c.node.provides system.components) =
      subst (λ (p : Option (List ℕ)). Agree p ns row (leads_for system x c.node.provides system.components)) are.0.provides agree.0 in
      ap (λ l. l ∷ round cause (all_asks ns (suc x) ms rows) table)
      (ap (λ (p : Option (List ℕ)). leaf_round cause x m.sections (askers_for ns row p) table) are.0.provides
      ∙ (ap (λ (l : List Section). leaf_round cause x l (askers_for ns row c.node.provides) table) are.0.sections
      ∙ leaf_kept table f x c.node.provides row ps h (ap provided_by here) agrees))
      ∙ ap (λ l. row_of (f x) ps ∷ l) (round_kept table f (suc x) rest ms rows h after are.1 agree.1)

  module _ (rows : List (List Bool)) (agree : AgreeWhereAsked ns ns rows (leads_of system)) where
    all_kept : (table : List (List ℕ)) (f : ℕ → Section → ℕ) → IsKept table f → round cause (all_asks ns 0 ns rows) table ≡ table_of f 0 system.components
    all_kept table f h =
        round_kept table f 0 system.components ns rows h (λ k. ap (λ n. slice_get system.components n) (none_add k)) counts agree

    rounds_kept : (n : ℕ) → rounds cause (suc n) (all_asks ns 0 ns rows) [] ≡ now_table n
    rounds_kept zero = all_kept [] (times 0 cause system) first_kept
    rounds_kept (suc n) =
        ap (λ table. round cause (all_asks ns 0 ns rows) table) (rounds_kept n) ∙ all_kept (now_table n) (times (suc n) cause system) (next_kept n)

    -- the last round has how often sections run
    pub times_kept : (uses : ℕ) → uses ≡ length system.components → rounds cause (suc uses) (all_asks ns 0 ns rows) [] ≡ times_table cause system
    times_kept uses u = ap (λ n. rounds cause (suc n) (all_asks ns 0 ns rows) []) u ∙ rounds_kept (length system.components)

  -- so the steps by that are those of the system
  pub steps_kept : budgets_by ns (times_table cause system) ≡ cause_steps cause system 0 system.components
  steps_kept = steps_from 0 system.components ns counts
    where
      -- the steps of a leaf's sections
      costs_kept : (f : Section → ℕ) (ps : List (Section × Statements)) → saturated (products (costs_of ps) (row_of f ps)) ≡ saturated (steps_of f ps)
      costs_kept f [] = refl
      costs_kept f (p ∷ rest) =
          product_and most (saturated (section_cost p.0 p.1)) (saturated (f p.0)) (section_cost p.0 p.1) (f p.0) (products (costs_of rest) (row_of f rest))
          (steps_of f rest) (twice (section_cost p.0 p.1)) (twice (f p.0)) (costs_kept f rest)
        where
          twice : (n : ℕ) → saturated (saturated n) ≡ saturated n
          twice n = omega arith

      steps_from : (x : ℕ) (cs : List Component) (ms : List Counted) → AreCountsOf ms (leaves_from system cs) →
          budgets_by ms (table_of (times (length system.components) cause system) x cs) ≡ cause_steps cause system x cs
      steps_from x [] [] h = refl
      steps_from x [] (m ∷ ms) h = absurd h
      steps_from x (c ∷ rest) [] h = absurd h
      steps_from x (c ∷ rest) (m ∷ ms) h =
          let f = times (length system.components) cause system in
          let more = budgets_by ms (table_of f (suc x) rest) in
          ap (λ (costs : List ℕ). saturated (products costs (row_of (f x) c.node.program.sections)) ∷ more) h.0.costs
          ∙ (ap (λ (n : ℕ). n ∷ more) (costs_kept (f x) c.node.program.sections)
          ∙ ap (λ (l : List ℕ). saturated (steps_for cause system x c) ∷ l) (steps_from (suc x) rest ms h.1))
