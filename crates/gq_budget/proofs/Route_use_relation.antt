-- Whose routes lead to whom, as a system knows it.
use Rattle.std.proofs.Common.{arith, ◌≡◌, ℕ, suc, Bool, true, false, List, [], ◌∷◌, length, Option, Some, None, refl, ap, sym}
use Rattle.std.proofs.Common.{subst, ◌∙◌}
use Rattle.std.proofs.lemmas.Bool.{true≢false}
use Rattle.std.specs.Prelude.{if◌then◌else◌, ◌&&◌}
use Rattle.gq_model.specs.machine.Lists.{any_of}
use Rattle.gq_model.specs.machine.Program.{text_eq}
use Rattle.gq_model.specs.machine.Scenario.{Scenario, System, Component, components, system}
use Rattle.gq_model.specs.machine.Routes.{server_of}
use Rattle.gq_model.specs.rules.Use.{is_there, services}
use Rattle.gq_resolve.specs.Served.{AreServers}
use Rattle.gq_budget.specs.Leaf_routes.{leads_for, leads_from, leaves_from}
use Rattle.gq_budget.specs.Leaf_section_counts.{Counted, Agree, AgreeFor, AgreeWhereAsked, AreCountsOf, asks}
use Rattle.gq_budget.specs.internal.Route_leads.{AreReported, leads_row, leads_rows}

-- ROUTES

reported_when : (b : Bool) (found : Option ℕ) (server : ℕ) → (if b then found else None) ≡ Some server → found ≡ Some server
reported_when true found server e = e
reported_when false found server e = cc

-- where routes report a server, a route leads there
pub are_reported : (s : Scenario) (all : List Component) (routes : List (List (List ℕ × ℕ))) → all ≡ components s → AreServers s routes → AreReported all routes
are_reported s all routes e h =
    subst (λ (cs : List Component). AreReported cs routes) (sym e)
    (λ x c at service server is.
    reported_when (any_of (text_eq service) (services c)) (server_of (system s) c service) server (sym (h.reported x c at service) ∙ is))

-- AGREEING

-- where it is asked for, what is reported is the route
asked : (a b : Bool) → a ≡ true → (a && b) ≡ b
asked true b e = refl
asked false b e = absurd (true≢false (sym e))

row_agrees : (system : System) (x : ℕ) (service : List ℕ) (cs : List Component) (ns : List Counted) → length ns ≡ length cs
    → AgreeFor service ns (leads_row system.components x (Some service) cs ns) (leads_for system x (Some service) cs)
row_agrees system x service [] [] e = tt {0}
row_agrees system x service [] (n ∷ ns) e = tt {0}
row_agrees system x service (c ∷ cs) [] e = tt {0}
row_agrees system x service (c ∷ cs) (n ∷ ns) e =
    (asked (asks service n) (is_there x (server_of system c service)), row_agrees system x service cs ns (omega (arith, e)))

agrees : (system : System) (x : ℕ) (provides : Option (List ℕ)) (cs : List Component) (ns : List Counted) → length ns ≡ length cs
    → Agree provides ns (leads_row system.components x provides cs ns) (leads_for system x provides cs)
agrees system x None cs ns e = tt {0}
agrees system x (Some service) cs ns e = row_agrees system x service cs ns e

-- what is reported of these leaves is what the system says, where it is asked for
pub rows_agree : (system : System) (all ms : List Counted) (x : ℕ) (cs : List Component) → length all ≡ length system.components
    → AreCountsOf ms (leaves_from system cs) → AgreeWhereAsked all ms (leads_rows system.components all x cs) (leads_from system x cs)
rows_agree system all [] x [] e h = tt {0}
rows_agree system all [] x (c ∷ cs) e h = absurd h
rows_agree system all (m ∷ ms) x [] e h = absurd h
rows_agree system all (m ∷ ms) x (c ∷ cs) e h =
    let provides = c.node.provides in
    let row = leads_row system.components x provides system.components all in
    let other = leads_for system x provides system.components in
    let here = agrees system x provides system.components all e in
    (subst (λ (p : Option (List ℕ)). Agree p all row other) (sym h.0.provides) here, rows_agree system all ms (suc x) cs e h.1)

-- LEAVES

-- there are as many as are counted
pub as_many : (system : System) (ns : List Counted) (cs : List Component) → AreCountsOf ns (leaves_from system cs) → length ns ≡ length cs
as_many system [] [] h = refl
as_many system [] (c ∷ cs) h = absurd h
as_many system (n ∷ ns) [] h = absurd h
as_many system (n ∷ ns) (c ∷ cs) h = ap suc (as_many system ns cs h.1)
