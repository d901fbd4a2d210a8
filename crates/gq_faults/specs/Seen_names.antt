-- Names that were seen, as code has them.
use Rattle.std.specs.Prelude.{◌≡◌, ℕ, List, [], ◌∷◌}
use Rattle.std.specs.Ordering.{nat_cmp}
use Rattle.std.specs.Borrow.{Bor}
use Rattle.std.specs.BTreeSet.{BTreeSet, contains_by}
use Rattle.std.specs.Cmp.Lexicographic.{slice_cmp}
use Rattle.gq_model.specs.machine.Lists.{any_of}
use Rattle.gq_model.specs.machine.Program.{text_eq}

-- a set has just these names
abbrev pub AreSeen : BTreeSet (Bor (List ℕ)) → List (List ℕ) → Type 0
AreSeen set names = (name : List ℕ) → contains_by (λ k. slice_cmp nat_cmp name k.now) set ≡ any_of (text_eq name) names

-- those that were seen, and these
abbrev pub seen_after : List (List ℕ) → List (List ℕ) → List (List ℕ)
seen_after seen [] = seen
seen_after seen (name ∷ rest) = seen_after (name ∷ seen) rest
