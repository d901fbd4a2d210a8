-- What is counted of leaves, by their places.
use Rattle.std.proofs.Common.{◌≡◌, ◌≤◌, ℕ, zero, suc, ◌+◌, List, [], ◌∷◌, length, get_or, Some, refl, ap, ◌∙◌, subst, arith}
use Rattle.std.specs.Prelude.{slice_get}
use Rattle.gq_model.specs.declared.section.Section.{Section}
use Rattle.gq_model.specs.machine.Program.{Statements}
use Rattle.gq_model.specs.machine.Scenario.{Component, System}
use Rattle.gq_model.specs.rules.Budgets.{section_cost, section_requests}
use Rattle.gq_model.specs.rules.Kinds.{Subject}
use Rattle.gq_model.specs.rules.Use.{Cause, times}
use Rattle.gq_model.specs.rules.Verdict.{greatest_cost}
use Rattle.gq_model.proofs.Small_facts.{add_next, add_none, none_add, none_some, some_same}
use Rattle.gq_verify.specs.Saturated_numbers.{saturated}
use Rattle.gq_verify.specs.Requested.{Requested, requests_for}
use Rattle.gq_budget.specs.Leaf_section_counts.{AreCountsOf, Counted, IsCountOf}
use Rattle.gq_budget.specs.Leaf_routes.{leaf_of, leaves_from}
use Rattle.gq_budget.specs.Times.{row_of, table_of, time_at, times_table}
use Rattle.gq_budget.specs.internal.Counted.{AreRequests, costs_of}

-- LEAVES

pub as_many : (system : System) (ns : List Counted) (cs : List Component) → AreCountsOf ns (leaves_from system cs) → length ns ≡ length cs
as_many system [] [] h = refl
as_many system [] (c ∷ cs) h = absurd h
as_many system (n ∷ ns) [] h = absurd h
as_many system (n ∷ ns) (c ∷ cs) h = ap suc (as_many system ns cs h.1)

-- what is counted at a place is what the leaf there has
pub counts_at : (system : System) (ns : List Counted) (cs : List Component) → AreCountsOf ns (leaves_from system cs) → (x : ℕ) (c : Component) (n : Counted)
    → slice_get cs x ≡ Some c → slice_get ns x ≡ Some n → IsCountOf n (leaf_of system c)
counts_at system [] cs h x c n there is = absurd (none_some is)
counts_at system (m ∷ ns) [] h x c n there is = absurd (none_some there)
counts_at system (m ∷ ns) (d ∷ cs) h zero c n there is =
    subst (λ (k : Counted). IsCountOf k (leaf_of system c)) (some_same is)
    (subst (λ (e : Component). IsCountOf m (leaf_of system e)) (some_same there) h.0)
counts_at system (m ∷ ns) (d ∷ cs) h (suc x) c n there is = counts_at system ns cs h.1 x c n there is

-- NUMBERS OF SECTIONS

pub cost_at : (sections : List (Section × Statements)) (k : ℕ) (p : Section × Statements) → slice_get sections k ≡ Some p
    → get_or (costs_of sections) k 0 ≡ saturated (section_cost p.0 p.1)
cost_at [] k p e = absurd (none_some e)
cost_at (q ∷ rest) zero p e = ap (λ (o : Section × Statements). saturated (section_cost o.0 o.1)) (some_same e)
cost_at (q ∷ rest) (suc k) p e = cost_at rest k p e

pub requests_at : (v : Subject) (sections : List (Section × Statements)) (asked : List (List Requested)) → AreRequests v sections asked → (k : ℕ)
    (p : Section × Statements) → slice_get sections k ≡ Some p → (service : List ℕ) (section : Section)
    → saturated (requests_for (get_or asked k []) service section) ≡ saturated (section_requests v p.0 service section)
requests_at v [] asked h k p e service section = absurd (none_some e)
requests_at v (q ∷ rest) [] h k p e service section = absurd h
requests_at v (q ∷ rest) (a ∷ asked) h zero p e service section =
    h.0 service section ∙ ap (λ (o : Section × Statements). saturated (section_requests v o.0 service section)) (some_same e)
requests_at v (q ∷ rest) (a ∷ asked) h (suc k) p e service section = requests_at v rest asked h.1 k p e service section

row_at : (f : Section → ℕ) (sections : List (Section × Statements)) (k : ℕ) (p : Section × Statements) → slice_get sections k ≡ Some p
    → get_or (row_of f sections) k 0 ≡ saturated (f p.0)
row_at f [] k p e = absurd (none_some e)
row_at f (q ∷ rest) zero p e = ap (λ (o : Section × Statements). saturated (f o.0)) (some_same e)
row_at f (q ∷ rest) (suc k) p e = row_at f rest k p e

table_at : (f : ℕ → Section → ℕ) (y : ℕ) (cs : List Component) (x : ℕ) (c : Component) → slice_get cs x ≡ Some c
    → get_or (table_of f y cs) x [] ≡ row_of (f (y + x)) c.node.program.sections
table_at f y [] x c e = absurd (none_some e)
table_at f y (d ∷ cs) zero c e = (λ i. row_of (f (add_none y i)) (some_same e i).node.program.sections)
table_at f y (d ∷ cs) (suc x) c e = table_at f (suc y) cs x c e ∙ ap (λ n. row_of (f n) c.node.program.sections) (add_next y x)

-- how often a section runs
pub often_at : (cause : Cause) (system : System) (x : ℕ) (c : Component) (k : ℕ) (p : Section × Statements) → slice_get system.components x ≡ Some c
    → slice_get c.node.program.sections k ≡ Some p → time_at (times_table cause system) x k ≡ saturated (times (length system.components) cause system x p.0)
often_at cause system x c k p there is =
    let f = times (length system.components) cause system in
    ap (λ (row : List ℕ). get_or row k 0) (table_at f 0 system.components x c there ∙ ap (λ n. row_of (f n) c.node.program.sections) (none_add x))
    ∙ row_at (f x) c.node.program.sections k p is

-- what is small is kept as it is
pub kept_small : (number kept : ℕ) → number ≤ greatest_cost → kept ≡ saturated number → kept ≡ number
kept_small number kept small e = omega (arith, small, e)
