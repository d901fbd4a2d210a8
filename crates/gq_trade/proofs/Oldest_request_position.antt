-- The oldest request for a server, by its place.
use Rattle.std.proofs.Common.{◌≡◌, ℕ, zero, suc, ◌<◌, ◌≤◌, inl, inr, List, [], ◌∷◌, length, get_or, Some, None, refl, ap, arith}
use Rattle.std.specs.List.{remove}
use Rattle.std.proofs.lemmas.Bool.Decides.{eqb_tells}
use Rattle.gq_trade.specs.declared.requests.Request.{Request}
use Rattle.gq_trade.specs.declared.requests.Ask.TheVariants.{Open}
use Rattle.gq_trade.specs.Queues.{oldest_to, kept_before, place_to, request_of}

pub place_within : (x : ℕ) (rs : List Request) → place_to x rs ≤ length rs
place_within x [] = omega arith
place_within x (r ∷ rs) = elim (eqb_tells r.server x) [
  | inl t ↦ rw t.0 (omega arith)
  | inr n ↦ rw n.0 (omega (arith, place_within x rs))
]

-- where there is none
pub no_place : (x : ℕ) (rs : List Request) → place_to x rs ≡ length rs → oldest_to x rs ≡ None
no_place x [] e = refl
no_place x (r ∷ rs) e = elim (eqb_tells r.server x) [
  | inl t ↦ absurd (let e2 : 0 ≡ suc (length rs) = rw t.0 at e in omega arith)
  | inr n ↦ (let e2 : suc (place_to x rs) ≡ suc (length rs) = rw n.0 at e in rw n.0 (ap (kept_before r) (no_place x rs (omega (arith, e2)))))
]

-- where there is one
pub at_place : (x : ℕ) (rs : List Request) (d : Request) → place_to x rs < length rs
    → oldest_to x rs ≡ Some (get_or rs (place_to x rs) d, remove rs (place_to x rs))
at_place x [] d h = absurd (omega (arith, h))
at_place x (r ∷ rs) d h = elim (eqb_tells r.server x) [
  | inl t ↦ rw t.0 refl
  | inr n ↦ (let h2 : suc (place_to x rs) < suc (length rs) = rw n.0 at h in rw n.0 (ap (kept_before r) (at_place x rs d (omega (arith, h2)))))
]

pub none_before : (x : ℕ) (rs : List Request) (k : ℕ) (d : Request) → ((j : ℕ) → j < k → (get_or rs j d).server ≡ x → ⊥) → k < length rs
    → (get_or rs k d).server ≡ x → place_to x rs ≡ k
none_before x [] k d below h e = absurd (omega (arith, h))
none_before x (r ∷ rs) zero d below h e = elim (eqb_tells r.server x) [ inl t ↦ rw t.0 refl | inr n ↦ absurd (n.1 e) ]
none_before x (r ∷ rs) (suc k) d below h e = elim (eqb_tells r.server x) [
  | inl t ↦ absurd (below 0 (omega arith) t.1)
  | inr n ↦ rw n.0 (ap suc (none_before x rs k d (λ j lt. below (suc j) (omega (arith, lt))) (omega (arith, h)) e))
]

pub none_at_all : (x : ℕ) (rs : List Request) (d : Request) → ((j : ℕ) → j < length rs → (get_or rs j d).server ≡ x → ⊥) → place_to x rs ≡ length rs
none_at_all x [] d below = refl
none_at_all x (r ∷ rs) d below = elim (eqb_tells r.server x) [
  | inl t ↦ absurd (below 0 (omega arith) t.1)
  | inr n ↦ rw n.0 (ap suc (none_at_all x rs d (λ j lt. below (suc j) (omega (arith, lt)))))
]

abbrev pub blank : Request
blank = record { session = 0; server = 0; ask = Open }

-- THE REQUEST OF A SESSION

pub request_here : (k : ℕ) (r : Request) (rs : List Request) → r.session ≡ k → request_of k (r ∷ rs) ≡ Some r
request_here k r rs e = elim (eqb_tells r.session k) [ inl t ↦ rw t.0 refl | inr n ↦ absurd (n.1 e) ]

pub request_further : (k : ℕ) (r : Request) (rs : List Request) → (r.session ≡ k → ⊥) → request_of k (r ∷ rs) ≡ request_of k rs
request_further k r rs other = elim (eqb_tells r.session k) [ inl t ↦ absurd (other t.1) | inr n ↦ rw n.0 refl ]
