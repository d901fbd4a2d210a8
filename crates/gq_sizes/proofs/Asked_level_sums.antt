-- What levels ask of the sums below them.
use Rattle.std.proofs.Common.{◌≡◌, ℕ, suc, ◌+◌, ◌-◌, max, List, length, ap, sym, ◌∙◌}
use Rattle.gq_model.specs.machine.Amounts.{Ram}
use Rattle.gq_model.specs.machine.Scenario.{Interface, System}
use Rattle.gq_sizes.specs.Size.{Gift, asked_above, gifts_above, less_gifts, needed, ram_sum}

pub asked_next : (f : ℕ → ℕ) (given : List Gift) (service : List ℕ) (count l d last rest : ℕ) → count ≡ suc d →
    last ≡ less_gifts (f (l + count)) (gifts_above given service count l) → rest ≡ asked_above f given service d l →
    max last rest ≡ asked_above f given service count l
asked_next f given service count l d last rest e here more =
    (λ i. max (here i) (more i))
    ∙ (ap (λ n. max (less_gifts (f (l + n)) (gifts_above given service n l)) (asked_above f given service d l)) e
    ∙ ap (λ n. asked_above f given service n l) (sym e))

module _ (all : System) (given : List Gift) (service : List ℕ) (i : Interface) where
  abbrev pub need : ℕ → ℕ
  need = needed (λ _ _. 0) Ram all service i

  pub sum_first : (n a u : ℕ) → n ≡ need 0 → a ≡ asked_above need given service u 0 → u ≡ length i.upgrades → max n a ≡ ram_sum all given service i 0
  sum_first n a u e f g = (λ j. max (e j) (f j)) ∙ ap (λ k. max (need 0) (asked_above need given service k 0)) g

  pub sum_next : (l n a d before : ℕ) → n ≡ need (suc l) → a ≡ asked_above need given service d (suc l) → d ≡ length i.upgrades - suc l →
      before ≡ ram_sum all given service i l → max (max n a) before ≡ ram_sum all given service i (suc l)
  sum_next l n a d before e f g h =
      (λ j. max (max (e j) (f j)) (h j)) ∙ ap (λ k. max (max (need (suc l)) (asked_above need given service k (suc l))) (ram_sum all given service i l)) g
