-- Runs of frames, and what a longer or shorter list does to them.
use Rattle.std.proofs.Common.{◌≡◌, ℕ, ◌+◌, ◌<◌, ◌≤◌, ◌⊎◌, inl, inr, List, [], ◌∷◌, ◌++◌, length, set, get_or, replicate, sym, ap, ◌∙◌, arith}
use Rattle.std.proofs.Common.{length-append, length-set}
use Rattle.std.proofs.lemmas.Bool.{cases_lt, cases_eq}
use Rattle.std.proofs.lemmas.List.{get_or-set_same, get_or-set_other, get_or_append_left, get_or_at, length-replicate, get_or-replicate}
use Rattle.gq_dataspace.specs.internal.Frame_lists.{Lists, list_at}
use Rattle.gq_dataspace.specs.internal.Runs.{IsRun, AreRuns}
use Rattle.gq_dataspace.proofs.Dataspace_link_tables.{past}

get_or-zero : (n r : ℕ) → get_or {A = ℕ} (replicate n 0) r 0 ≡ 0
get_or-zero n r = elim (cases_lt r n) [
  | inl lt ↦ get_or-replicate n r 0 0 lt
  | inr ge ↦ past (replicate {A = ℕ} n 0) r 0
      (omega (arith, length-replicate {A = ℕ} n 0))
]

-- lists without entries
pub no_runs : (n : ℕ) → n ≤ 16384 → AreRuns (replicate n []) (replicate n 0)
no_runs n few = record {
  few = rw (length-replicate {A = List ℕ} n []) few;
  same = length-replicate {A = ℕ} n 0 ∙ sym (length-replicate {A = List ℕ} n []);
  each = λ r. let z = get_or-zero n r in record {
    within = omega (arith, z);
    entries = λ i h. absurd (omega (arith, h, z));
    below = λ h. absurd (omega (arith, h, z));
  };
}

-- one list and its run are others
set_runs : (ls : Lists) (runs : List ℕ) (r v : ℕ) (xs : List ℕ) → AreRuns ls runs → r < length ls → IsRun xs r v (length ls)
    → AreRuns (set ls r xs) (set runs r v)
set_runs ls runs r v xs all lt run = record {
  few = rw (length-set ls r xs) all.few;
  same = length-set runs r v ∙ all.same ∙ sym (length-set ls r xs);
  each = λ g. rw (length-set ls r xs) (elim (cases_eq g r) [
    | inl e ↦ rw (e, get_or-set_same ls r xs [] lt, get_or-set_same runs r v 0 (omega (arith, all.same))) run
    | inr other ↦ rw (get_or-set_other ls r g xs [] other, get_or-set_other runs r g v 0 other) (all.each g)
  ]);
}

grown : (xs : List ℕ) (r x n v m : ℕ) → IsRun xs r n m → x < m → (v ≡ n) ⊎ ((v ≡ length xs + 1) × (n ≡ length xs) × (x ≡ r + length xs))
    → IsRun (xs ++ x ∷ []) r v m
grown xs r x n v m run lt (inl e) = record {
  within = omega (arith, e, run.within, length-append xs (x ∷ []));
  entries = λ i h. get_or_append_left xs (x ∷ []) 0 i (omega (arith, e, run.within)) ∙ run.entries i (omega (arith, e));
  below = λ h. omega (arith, e, run.below (omega (arith, e)));
}
grown xs r x n v m run lt (inr o) = record {
  within = omega (arith, o.0, length-append xs (x ∷ []));
  entries = λ i h. elim (cases_lt i (length xs)) [
    | inl prefix ↦ get_or_append_left xs (x ∷ []) 0 i prefix ∙ run.entries i (omega (arith, o.1))
    | inr back ↦ let e : length xs ≡ i = omega (arith, o.0) in get_or_at xs x [] 0 i e ∙ o.2 ∙ ap (λ (k : ℕ). r + k) e
  ];
  below = λ h. omega (arith, o.0, o.2, lt);
}

-- a list gets one more frame
pub runs_pushed : (ls : Lists) (runs : List ℕ) (r x v : ℕ) → AreRuns ls runs → r < length ls → x < length ls
    → (v ≡ get_or runs r 0) ⊎ ((v ≡ length (list_at ls r) + 1) × (get_or runs r 0 ≡ length (list_at ls r)) × (x ≡ r + length (list_at ls r)))
    → AreRuns (set ls r (list_at ls r ++ x ∷ [])) (set runs r v)
runs_pushed ls runs r x v all lt below o =
    set_runs ls runs r v (list_at ls r ++ x ∷ []) all lt (grown (list_at ls r) r x (get_or runs r 0) v (length ls) (all.each r) below o)

-- a list loses its last frame
pub runs_popped : (ls : Lists) (runs : List ℕ) (r f v : ℕ) (ys : List ℕ) → AreRuns ls runs → r < length ls → list_at ls r ≡ ys ++ f ∷ [] → v ≤ get_or runs r 0
    → v ≤ length ys
    → AreRuns (set ls r ys) (set runs r v)
runs_popped ls runs r f v ys all lt was less few =
    let run = all.each r in
    set_runs ls runs r v ys all lt (record {
      within = few;
      entries = λ i h. sym (get_or_append_left ys (f ∷ []) 0 i (omega (arith, h, few))) ∙ ap (λ (zs : List ℕ). get_or zs i 0) (sym was)
          ∙ run.entries i (omega (arith, h, less));
      below = λ h. omega (arith, h, less, run.below (omega (arith, h, less)));
    })
