-- A round that changes nothing is the last.
use Rattle.std.proofs.Common.{◌≡◌, ◌<◌, ℕ, zero, suc, arith, ◌+◌, ◌-◌, List, [], ap, sym, ◌∙◌}
use Rattle.gq_model.specs.rules.Use.{Cause}
use Rattle.gq_budget.specs.internal.Run_rounds.{Asks, round, rounds}

-- all later rounds give the same
pub rounds_stay : (cause : Cause) (asks : List Asks) (table : List (List ℕ)) (k d : ℕ)
    → round cause asks (rounds cause k asks table) ≡ rounds cause k asks table → rounds cause (k + d) asks table ≡ rounds cause k asks table
rounds_stay cause asks table k zero e = ap (λ n. rounds cause n asks table) (omega arith)
rounds_stay cause asks table k (suc d) e =
    let next : k + suc d ≡ suc (k + d) = omega arith in
    ap (λ n. rounds cause n asks table) next ∙ (ap (round cause asks) (rounds_stay cause asks table k d e) ∙ e)

-- so a table that a round leaves as it is, is that of all rounds
pub rounds_end : (cause : Cause) (asks : List Asks) (table next : List (List ℕ)) (n uses : ℕ) → n < uses → table ≡ rounds cause (suc n) asks [] →
    next ≡ round cause asks table → next ≡ table → table ≡ round cause asks (rounds cause uses asks [])
rounds_end cause asks table next n uses less is to same =
    let fixed : round cause asks (rounds cause (suc n) asks []) ≡ rounds cause (suc n) asks [] = ap (round cause asks) (sym is) ∙ (sym to ∙ (same ∙ is)) in
    let stay = rounds_stay cause asks [] (suc n) (uses - n) fixed in
    let all : suc n + (uses - n) ≡ suc uses = omega (arith, less) in
    is ∙ (sym stay ∙ ap (λ m. rounds cause m asks []) all)
