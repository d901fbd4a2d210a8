-- Lists of kinds, compared place by place.
use Rattle.std.proofs.Common.{◌≡◌, ℕ, suc, ◌+◌, ◌<◌, Bool, true, false, ◌&&◌, List, [], ◌∷◌, length, drop, get_or, refl, ap, sym, ◌∙◌, add-one}
use Rattle.std.proofs.Math.Seq.{drop-cons}
use Rattle.gq_model.specs.rules.Kinds.{same_kind, same_kinds}
use Rattle.gq_caps.specs.Known.{known, all_known}
use Rattle.gq_caps.specs.declared.kind.Kind.{Kind}

and_false : (b : Bool) → (b && false) ≡ false
and_false true = refl
and_false false = refl

-- lists of different lengths are not the same
pub apart : (ks ls : List Kind) → (length ks ≡ length ls → ⊥) → same_kinds (all_known ks) (all_known ls) ≡ false
apart [] [] f = absurd (f refl)
apart [] (l ∷ ls) f = refl
apart (k ∷ ks) [] f = refl
apart (k ∷ ks) (l ∷ ls) f =
    ap (λ b. same_kind (known k) (known l) && b) (apart ks ls (λ e. f (ap suc e))) ∙ and_false (same_kind (known k) (known l))

-- what is left from a place on starts with what stands there
from_place : (ks : List Kind) (i : ℕ) (k : Kind) → i < length ks → k ≡ get_or ks i k → drop i ks ≡ k ∷ drop (i + 1) ks
from_place ks i k less e = drop-cons ks i k less ∙ (ap (λ h. h ∷ drop (suc i) ks) (sym e) ∙ ap (λ n. k ∷ drop n ks) (sym (add-one i)))

-- what is left from a place on is the same just where the kinds there are, and what is left after them
pub same_at : (ks ls : List Kind) (i : ℕ) (k l : Kind) → i < length ks → i < length ls → k ≡ get_or ks i k → l ≡ get_or ls i l
    → same_kinds (all_known (drop i ks)) (all_known (drop i ls))
    ≡ (same_kind (known k) (known l) && same_kinds (all_known (drop (i + 1) ks)) (all_known (drop (i + 1) ls)))
same_at ks ls i k l a b e f = λ j. same_kinds (all_known (from_place ks i k a e j)) (all_known (from_place ls i l b f j))
