-- What visitors keep that goes on by something that stays.
use Rattle.std.proofs.Common.{◌≡◌, ℕ, max, List, [], ◌∷◌, ap, sym, subst, ◌∙◌, arith}
use Rattle.gq_model.specs.rules.Kinds.{AbstractState}
use Rattle.gq_verify.specs.Visits.{Sight, At_statement, At_point, Shows, after_all, most_shown, raised}

pub shows_by : {A B K : Type 0} → (leads : A → Sight → A → Type 0) (stays : A → K) (kept : A → B) (go : K → B → Sight → B) →
    ((a : A) (e : Sight) (b : A) → leads a e b → (stays b ≡ stays a) × (kept b ≡ go (stays a) (kept a) e)) →
    (k : K) (a b : A) (seen : List Sight) → stays a ≡ k → Shows leads a seen b → kept b ≡ after_all (go k) (kept a) seen
shows_by leads stays kept go step k a b [] is h = ap kept (sym h)
shows_by leads stays kept go step k a b (e ∷ rest) is h =
    let p = step a e h.0 h.1 in
    shows_by leads stays kept go step k h.0 b rest (p.0 ∙ is) h.2
    ∙ ap (λ x. after_all (go k) x rest) (p.1 ∙ ap (λ j. go j (kept a) e) is)

-- a number that points raise is the greatest of all
pub all_raised : (f : AbstractState → ℕ) (n : ℕ) (seen : List Sight) → after_all (raised f) n seen ≡ max n (most_shown f seen)
all_raised f n [] = omega arith
all_raised f n (At_statement c s i ∷ rest) = all_raised f n rest
all_raised f n (At_point k s ∷ rest) = let h = all_raised f (max n (f s)) rest in omega (arith, h)

-- what each step keeps holds at the end
pub shows_keep : {A : Type 0} → (leads : A → Sight → A → Type 0) (P : A → Type 0) → ((a : A) (e : Sight) (b : A) → leads a e b → P a → P b) →
    (a b : A) (seen : List Sight) → Shows leads a seen b → P a → P b
shows_keep leads P step a b [] h p = subst P h p
shows_keep leads P step a b (e ∷ rest) h p = shows_keep leads P step h.0 b rest h.2 (step a e h.0 h.1 p)
