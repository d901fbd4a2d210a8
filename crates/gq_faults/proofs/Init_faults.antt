-- What is reported of inits, one after the other.
use Rattle.std.proofs.Common.{◌≡◌, ◌<◌, ◌≤◌, ◌+◌, ℕ, zero, suc, List, [], ◌∷◌, ◌++◌, length, map, get_or, drop, refl, ap, sym, ◌∙◌, append-nil}
use Rattle.std.proofs.Common.{arith}
use Rattle.std.proofs.lemmas.List.{drop_more, drop_all}
use Rattle.gq_model.specs.machine.Amounts.{Resource}
use Rattle.gq_model.specs.machine.Scenario.{Interfaces, Nodes, End}
use Rattle.gq_model.specs.rules.Resolve.{Unresolved, exceeds}
use Rattle.gq_scenario.specs.Sizes.{node_count}
use Rattle.gq_scenario.specs.Component_trees.{nodes_of}
use Rattle.gq_scenario.specs.declared.scenario.Node.{Node}
use Rattle.gq_scenario.specs.declared.scenario.Node.TheVariants.{Leaf, Init}
use Rattle.gq_faults.specs.Scenario_faults.{all_exceeding, offers_bad, all_bad_offers}
use Rattle.gq_faults.specs.Found_lists.{listed_if}
use Rattle.gq_faults.proofs.Joined_fault_lists.{map-append}

-- what is reported of nodes is what is reported of the first, and then of the rest
abbrev pub IsReportedInTurn : (Nodes → List Unresolved) → Type 0
IsReportedInTurn reported = (x : Node) (rest : List Node) → reported (nodes_of (x ∷ rest)) ≡ reported (nodes_of (x ∷ [])) ++ reported (nodes_of rest)

pub exceeding_in_turn : (r : Resource) → IsReportedInTurn (all_exceeding r)
exceeding_in_turn r (Leaf node) rest = refl
exceeding_in_turn r (Init node children) rest =
    ap (λ l. l ++ all_exceeding r (nodes_of rest)) (sym (append-nil (listed_if (exceeds r node.name node.quantum children) ++ all_exceeding r children)))

pub offers_in_turn : (interfaces : Interfaces) → IsReportedInTurn (all_bad_offers interfaces)
offers_in_turn interfaces (Leaf node) rest = refl
offers_in_turn interfaces (Init node children) rest =
    ap (λ l. l ++ all_bad_offers interfaces (nodes_of rest))
    (sym (append-nil (offers_bad interfaces node.name children node.offers ++ all_bad_offers interfaces children)))

pub mapped_first : {C : Type 0} (t : Unresolved → C) (reported : Nodes → List Unresolved) → IsReportedInTurn reported → (xs : List Node) (i : ℕ) (x : Node)
    → i < length xs → x ≡ get_or xs i x
    → map t (reported (nodes_of (drop i xs))) ≡ map t (reported (nodes_of (x ∷ []))) ++ map t (reported (nodes_of (drop (i + 1) xs)))
mapped_first t reported in_turn xs i x less is =
    rw (drop_more xs i x less, ← is) (ap (map t) (in_turn x (drop (i + 1) xs)) ∙ map-append t _ _)

pub mapped_last : {C : Type 0} (t : Unresolved → C) (reported : Nodes → List Unresolved) → reported End ≡ [] → (xs : List Node) (i : ℕ) → length xs ≤ i
    → map t (reported (nodes_of (drop i xs))) ≡ []
mapped_last t reported none xs i past = rw (drop_all i xs past, none) refl

smaller : (x : Node) (rest : List Node) → node_count (nodes_of (x ∷ [])) ≤ node_count (nodes_of (x ∷ rest))
smaller (Leaf node) rest = omega arith
smaller (Init node children) rest = omega arith

later : (x : Node) (rest : List Node) → node_count (nodes_of rest) ≤ node_count (nodes_of (x ∷ rest))
later (Leaf node) rest = omega arith
later (Init node children) rest = omega arith

pub node_smaller : (xs : List Node) (i : ℕ) (x : Node) → i < length xs → x ≡ get_or xs i x → node_count (nodes_of (x ∷ [])) ≤ node_count (nodes_of xs)
node_smaller [] i x less is = absurd (omega arith)
node_smaller (y ∷ xs) zero x less is = rw is (smaller y xs)
node_smaller (y ∷ xs) (suc i) x less is = let h = node_smaller xs i x (omega arith) is in let k = later y xs in omega (arith, h, k)

pub one_init : (x : List Unresolved) (a : List Unresolved) → (x ++ a) ++ [] ≡ x ++ a
one_init x a = append-nil (x ++ a)
