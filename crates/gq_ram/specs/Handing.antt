-- Quota that is handed down a tree: each node is handed an amount, which the nodes right below it are handed theirs from.
use Rattle.std.specs.Prelude.{ℕ, ◌+◌, List, [], ◌∷◌, nat_eq, if◌then◌else◌}
use Rattle.gq_tariff.specs.declared.amount.Amount.{Amount}
use Rattle.gq_ram.specs.Account_tree.{Tree}

-- all but the first
abbrev pub tail : {A : Type 0} → List A → List A
tail [] = []
tail (x ∷ xs) = xs

-- what a node below p is handed counts for the node i where that is p
abbrev pub part : (Amount → ℕ) → ℕ → ℕ → Amount → ℕ
part f i p a = if nat_eq p i then f a else 0

-- of what these nodes are handed, the parts for those right below the node i
abbrev pub spent_in : (Amount → ℕ) → ℕ → List ℕ → List Amount → ℕ
spent_in f i [] handed = 0
spent_in f i (p ∷ ps) [] = 0
spent_in f i (p ∷ ps) (a ∷ handed) = part f i p a + spent_in f i ps handed

-- what the node i hands on to the nodes right below it; the root is below none
abbrev pub spent : (Amount → ℕ) → Tree → List Amount → ℕ → ℕ
spent f t handed i = spent_in f i (tail t.parents) (tail handed)
