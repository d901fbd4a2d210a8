-- Texts that grow at their end.
use Rattle.std.proofs.Common.{◌≡◌, ◌∙◌, ℕ, suc, ◌-◌, ◌<◌, List, [], ◌∷◌, ◌++◌, ap, sym, arith, append_assoc, codes}
use Rattle.gq_views.specs.Listing.{indent, line}

-- the next two blanks, and what is left
indent_turn : (left : ℕ) → 0 < left → indent left ≡ codes "  " ++ indent (left - 1)
indent_turn left h = let e : left ≡ suc (left - 1) = omega arith in ap indent e

pub indent_more : (now old whole : List ℕ) (left : ℕ) → 0 < left → now ≡ old ++ codes "  " → old ++ indent left ≡ whole → now ++ indent (left - 1) ≡ whole
indent_more now old whole left h n inv =
    rw (n, append_assoc) (ap (λ t. old ++ t) (sym (indent_turn left h)) ∙ inv)

-- a line is put at the end, its blanks first
pub line_put : (d : ℕ) (text t u v w : List ℕ) → u ≡ t ++ indent d → v ≡ u ++ text → w ≡ v ++ 10 ∷ [] → w ≡ t ++ line d text
line_put d text t u v w p q r = rw (r, q, p) (simp append_assoc)
