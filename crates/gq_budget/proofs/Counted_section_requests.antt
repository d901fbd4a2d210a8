-- The requests of sections, counted all at once.
use Rattle.std.proofs.Common.{◌≡◌, ◌<◌, ◌≤◌, ℕ, ◌+◌, List, [], ◌∷◌, ◌++◌, drop, length, get_or, ap, sym, subst, ◌∙◌, append_assoc, append-nil}
use Rattle.std.proofs.Math.ListN.{drop_of_length-le}
use Rattle.std.proofs.lemmas.List.{drop_more}
use Rattle.gq_model.specs.machine.Program.{Statements}
use Rattle.gq_model.specs.declared.section.Section.{Section}
use Rattle.gq_model.specs.rules.Kinds.{Subject}
use Rattle.gq_model.specs.rules.Budgets.{section_requests}
use Rattle.gq_verify.specs.Saturated_numbers.{saturated}
use Rattle.gq_verify.specs.Requested.{Requested, requests_for}
use Rattle.gq_budget.specs.internal.Counted.{AreRequests}

-- with those of the sections that are left they are those of all
abbrev pub Leads : Subject → List (Section × Statements) → List (Section × Statements) → List (List Requested) → Type 0
Leads v all left made = (more : List (List Requested)) → AreRequests v left more → AreRequests v all (made ++ more)

-- with one more
pub leads_on : (v : Subject) (items : List (Section × Statements)) (i : ℕ) (p : Section × Statements) (made made' : List (List Requested))
    (asked : List Requested) → i < length items → p ≡ get_or items i p → made' ≡ made ++ asked ∷ [] →
    ((service : List ℕ) (section : Section) → saturated (requests_for asked service section) ≡ saturated (section_requests v p.0 service section)) →
    Leads v items (drop i items) made → Leads v items (drop (i + 1) items) made'
leads_on v items i p made made' asked less at is here before more h =
    let left : drop i items ≡ p ∷ drop (i + 1) items = drop_more items i p less ∙ ap (λ (p : Section × Statements). p ∷ drop (i + 1) items) (sym at) in
    let all = before (asked ∷ more) (subst (λ (l : List (Section × Statements)). AreRequests v l (asked ∷ more)) (sym left) (here, h)) in
    let same = ap (λ (l : List (List Requested)). l ++ more) is ∙ append_assoc made (asked ∷ []) more in
    subst (λ (l : List (List Requested)). AreRequests v items l) (sym same) all

pub leads_end : (v : Subject) (items : List (Section × Statements)) (i : ℕ) (made : List (List Requested)) → length items ≤ i →
    Leads v items (drop i items) made → AreRequests v items made
leads_end v items i made past h =
    let none = drop_of_length-le items past in
    let all = h [] (subst (λ (l : List (Section × Statements)). AreRequests v l []) (sym none) tt) in
    subst (λ (l : List (List Requested)). AreRequests v items l) (append-nil made) all
