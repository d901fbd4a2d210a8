-- Bytes that are 0 from the mark of their page on.
use Rattle.std.proofs.Common.{◌≡◌, ℕ, ◌+◌, ◌/◌, ◌%◌, ◌<◌, ◌≤◌, ◌⊎◌, inl, inr, List, ◌++◌, ◌-◌, length, get_or, refl, sym, ap, ◌∙◌, arith, length-append}
use Rattle.std.proofs.lemmas.Bool.{cases_lt}
use Rattle.std.proofs.lemmas.Grind.{same_number_lists}
use Rattle.std.proofs.lemmas.List.{get_or_append_left, get_or-append_right}
use Rattle.gq_pages.specs.Frame_bytes.{zeros, zeroed}
use Rattle.gq_pages.specs.internal.Region.{AreClean}
use Rattle.gq_pages.proofs.Zeroed_byte_runs.{length-zeros, length-zeroed, get_or-zeros, get_or-zeroed_in, get_or-zeroed_out}

-- with zeros behind them
pub clean_behind : (bs ms : List ℕ) (n : ℕ) → AreClean bs ms → AreClean (bs ++ zeros n) ms
clean_behind bs ms n h = λ i lt low. elim (cases_lt i (length bs)) [
  | inl prefix ↦ get_or_append_left bs (zeros n) 0 i prefix ∙ h i prefix low
  | inr back ↦
      let long : length (bs ++ zeros n) ≡ length bs + n = length-append bs (zeros n) ∙ ap (λ m. length bs + m) (length-zeros n) in
      get_or-append_right bs (zeros n) (length bs) i 0 refl back ∙ get_or-zeros n (i - length bs) (omega (arith, lt, long, back))
]

-- where the rest is 0, fewer are cleared
pub zeroed_rest : (xs : List ℕ) (s m n : ℕ) → m ≤ n → s + n ≤ length xs → ((i : ℕ) → s + m ≤ i → i < s + n → get_or xs i 0 ≡ 0)
    → zeroed xs s m ≡ zeroed xs s n
zeroed_rest xs s m n few h rest =
    let within : s + m ≤ length xs = omega (arith, few, h) in
    same_number_lists (zeroed xs s m) (zeroed xs s n) (length-zeroed xs s m within ∙ sym (length-zeroed xs s n h))
    (λ i lt. elim (cases_lt i s) [
      | inl prefix ↦ get_or-zeroed_out xs s m i (inl prefix) within ∙ sym (get_or-zeroed_out xs s n i (inl prefix) h)
      | inr from ↦ elim (cases_lt i (s + m)) [
        | inl to ↦ get_or-zeroed_in xs s m i from to within ∙ sym (get_or-zeroed_in xs s n i from (omega (arith, to, few)) h)
        | inr past ↦ elim (cases_lt i (s + n)) [
          | inl among ↦ get_or-zeroed_out xs s m i (inr past) within ∙ rest i past among ∙ sym (get_or-zeroed_in xs s n i from among h)
          | inr back ↦ get_or-zeroed_out xs s m i (inr past) within ∙ sym (get_or-zeroed_out xs s n i (inr back) h)
        ]
      ]
    ])

-- where some are cleared
pub clean_zeroed : (bs ms ns : List ℕ) (s m : ℕ) → s + m ≤ length bs → AreClean bs ms
    → ((i : ℕ) → get_or ns (i / 4096) 0 ≤ i % 4096 → (get_or ms (i / 4096) 0 ≤ i % 4096) ⊎ ((s ≤ i) × (i < s + m))) → AreClean (zeroed bs s m) ns
clean_zeroed bs ms ns s m within h now = λ i lt low.
    let there : i < length bs = omega (arith, lt, length-zeroed bs s m within) in
    elim (now i low) [
      | inr cleared ↦ get_or-zeroed_in bs s m i cleared.0 cleared.1 within
      | inl was ↦ elim (cases_lt i s) [
        | inl prefix ↦ get_or-zeroed_out bs s m i (inl prefix) within ∙ h i there was
        | inr from ↦ elim (cases_lt i (s + m)) [
          | inl to ↦ get_or-zeroed_in bs s m i from to within
          | inr past ↦ get_or-zeroed_out bs s m i (inr past) within ∙ h i there was
        ]
      ]
    ]
