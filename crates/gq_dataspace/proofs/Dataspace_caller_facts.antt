-- For callers: what stays of the other dataspaces where one is set, and when one is there.
use Rattle.std.proofs.Common.{◌≡◌, ℕ, ◌<◌, List, length, set, get_or, Option, Some, None, IsTrue, refl, ap, subst, ◌∙◌, arith}
use Rattle.std.proofs.lemmas.List.{get_or-set_other}
use Rattle.gq_pages.specs.Frame_map.{its_bytes, has_bytes}
use Rattle.gq_dataspace.specs.Dataspaces.{Contents, IsLive, IsVacant, content_of}
pub use Rattle.gq_dataspace.proofs.Frame_list_bytes.{length-zeros, length-with_bytes}
pub use Rattle.gq_dataspace.proofs.Repeated_dataspace_sets.{content_there, content_set}

pub content_other : (ss : Contents) (r k : ℕ) (v : Option (List ℕ)) → (k ≡ r → ⊥) → content_of (set ss r v) k ≡ content_of ss k
content_other ss r k v other = ap its_bytes (get_or-set_other ss r k v None other)

-- a number that none has is not that of one
pub vacant_apart : (ss : Contents) (r k : ℕ) → IsVacant ss r → IsLive ss k → k ≡ r → ⊥
vacant_apart ss r k vacant live e =
    let no : IsTrue (has_bytes None) = subst (λ (o : Option (List ℕ)). IsTrue (has_bytes o)) (ap (λ (i : ℕ). get_or ss i None) e ∙ vacant.1) live in cc

some_live : (o : Option (List ℕ)) → 0 < length (its_bytes o) → IsTrue (has_bytes o)
some_live None h = absurd (omega (arith, h))
some_live (Some bs) h = refl

-- one with bytes is there
pub is_live : (ss : Contents) (k : ℕ) → 0 < length (content_of ss k) → IsLive ss k
is_live ss k h = some_live (get_or ss k None) h
