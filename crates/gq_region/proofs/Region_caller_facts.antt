-- For callers: where addresses lie after something is attached or detached.
use Rattle.std.proofs.Common.{◌≡◌, ℕ, ◌+◌, ◌*◌, ◌/◌, ◌%◌, ◌<◌, ◌≤◌, true, cond, ltb, [], ◌∷◌, length, Option, Some, None, get_or, set, get_or-set_same}
use Rattle.std.proofs.Common.{get_or-set_other, refl, ap, ◌∙◌, arith}
use Rattle.std.proofs.lemmas.Bool.Decides.{nat_tests}
use Rattle.gq_region.specs.declared.map.Range.{Range}
use Rattle.gq_region.specs.Region_places.{Places, lowest_free, inside, resolved}

-- the lowest free place is free
pub lowest_is_free : (ps : Places) → get_or ps (lowest_free ps) None ≡ None
lowest_is_free [] = refl
lowest_is_free (None ∷ ps) = refl
lowest_is_free (Some r ∷ ps) = lowest_is_free ps

is_inside : (r : Range) (o : ℕ) → o < r.size → inside (Some r) o ≡ Some (r.ds, o)
is_inside r o h = let e : ltb o r.size ≡ true = grind (arith, nat_tests) in ap (λ b. cond b (Some (r.ds, o)) None) e

-- the byte o of what is attached at the place k
pub resolved_here : (ps : Places) (k o : ℕ) (r : Range) → k < length ps → o < r.size → r.size ≤ 67108864
    → resolved (set ps k (Some r)) (67108864 * k + o) ≡ Some (r.ds, o)
resolved_here ps k o r l below size =
    let place : (67108864 * k + o) / 67108864 ≡ k = omega arith in
    let offset : (67108864 * k + o) % 67108864 ≡ o = omega arith in
    ap (λ i. inside (get_or (set ps k (Some r)) i None) ((67108864 * k + o) % 67108864)) place
    ∙ ap (inside (get_or (set ps k (Some r)) k None)) offset
    ∙ ap (λ s. inside s o) (get_or-set_same ps k (Some r) None l) ∙ is_inside r o below

-- nothing lies at a place that is free
pub resolved_none : (ps : Places) (k a : ℕ) → k < length ps → a / 67108864 ≡ k → resolved (set ps k None) a ≡ None
resolved_none ps k a l e =
    ap (λ i. inside (get_or (set ps k None) i None) (a % 67108864)) e ∙ ap (λ s. inside s (a % 67108864)) (get_or-set_same ps k None None l)

-- the addresses of the other places lie where they did
pub resolved_other : (ps : Places) (k a : ℕ) (s : Option Range) → (a / 67108864 ≡ k → ⊥) → resolved (set ps k s) a ≡ resolved ps a
resolved_other ps k a s ne = ap (λ x. inside x (a % 67108864)) (get_or-set_other ps k (a / 67108864) s None ne)
