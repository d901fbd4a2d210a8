-- Bytes of a dataspace that become 0.
use Rattle.std.proofs.Common.{◌≡◌, ℕ, ◌+◌, ◌*◌, ◌/◌, ◌%◌, ◌<◌, ◌≤◌, inl, inr, List, length, set, get_or, Some, None, sym, ap, ◌∙◌, arith}
use Rattle.std.proofs.lemmas.Bool.{cases_lt, cases_eq}
use Rattle.std.proofs.lemmas.Grind.{same_number_lists}
use Rattle.std.proofs.lemmas.List.{get_or-set_same, get_or-set_other, set-set}
use Rattle.gq_pages.specs.Frame_bytes.{zeroed}
use Rattle.gq_pages.specs.Frame_map.{Frames, bytes_of, its_bytes}
use Rattle.gq_pages.proofs.Zeroed_byte_runs.{length-zeroed, get_or-zeroed_in, get_or-zeroed_out}
use Rattle.gq_dataspace.specs.Dataspaces.{Contents, content_of}
use Rattle.gq_dataspace.specs.internal.Spaces_fields.{bytes_in}
use Rattle.gq_dataspace.proofs.Frame_list_bytes.{length-bytes_in, get_or-bytes_in, bytes_all, is_there}
use Rattle.gq_dataspace.proofs.Repeated_dataspace_sets.{content_set}

-- bytes of one frame
pub bytes_cleared : (fs : Frames) (xs : List ℕ) (f o n : ℕ) → o / 4096 < length xs → o + n ≤ 4096 * length xs → o % 4096 + n ≤ 4096 → get_or xs (o / 4096) 0 ≡ f
    → length (bytes_of fs f) ≡ 4096 → ((a : ℕ) → a < length xs → get_or xs a 0 ≡ f → a ≡ o / 4096)
    → bytes_in (set fs f (Some (zeroed (bytes_of fs f) (o % 4096) n))) xs ≡ zeroed (bytes_in fs xs) o n
bytes_cleared fs xs f o n there room fits at whole once =
    let bs : List ℕ = bytes_of fs f in let ys : List ℕ = bytes_in fs xs in let zs : List ℕ = zeroed bs (o % 4096) n in let fs' : Frames = set fs f (Some zs) in
    let long : length ys ≡ 4096 * length xs = length-bytes_in fs xs in
    let inside : o + n ≤ length ys = omega (arith, long) in let within : o % 4096 + n ≤ length bs = omega (arith, whole) in
    let here : bytes_of fs' f ≡ zs = ap its_bytes (get_or-set_same fs f (Some zs) None (is_there fs f whole)) in
    bytes_all fs' xs (zeroed ys o n) (length-zeroed ys o n inside ∙ long)
    (λ p lt. elim (cases_eq (p / 4096) (o / 4096)) [
      | inl e ↦ let now : bytes_of fs' (get_or xs (p / 4096) 0) ≡ zs = ap (λ (a : ℕ). bytes_of fs' (get_or xs a 0)) e ∙ ap (bytes_of fs') at ∙ here in
          let was : bytes_of fs (get_or xs (p / 4096) 0) ≡ bs = ap (λ (a : ℕ). bytes_of fs (get_or xs a 0)) e ∙ ap (bytes_of fs) at in
          let old : get_or ys p 0 ≡ get_or bs (p % 4096) 0 = get_or-bytes_in fs xs p lt ∙ ap (λ (zs : List ℕ). get_or zs (p % 4096) 0) was in
          rw now (elim (cases_lt p o) [
            | inl prefix ↦ get_or-zeroed_out ys o n p (inl prefix) inside ∙ old
                ∙ sym (get_or-zeroed_out bs (o % 4096) n (p % 4096) (inl (omega (arith, e))) within)
            | inr from ↦ elim (cases_lt p (o + n)) [
              | inl to ↦ get_or-zeroed_in ys o n p from to inside
                  ∙ sym (get_or-zeroed_in bs (o % 4096) n (p % 4096) (omega (arith, e)) (omega (arith, e)) within)
              | inr back ↦ get_or-zeroed_out ys o n p (inr back) inside ∙ old
                  ∙ sym (get_or-zeroed_out bs (o % 4096) n (p % 4096) (inr (omega (arith, e))) within)
            ]
          ])
      | inr apart ↦ let same : bytes_of fs' (get_or xs (p / 4096) 0) ≡ bytes_of fs (get_or xs (p / 4096) 0) =
          ap its_bytes (get_or-set_other fs f (get_or xs (p / 4096) 0) (Some zs) None (λ (d : get_or xs (p / 4096) 0 ≡ f). apart
          (once (p / 4096) (omega arith) d))) in
          rw same ((elim (cases_lt p o) [
            | inl prefix ↦ get_or-zeroed_out ys o n p (inl prefix) inside
            | inr from ↦ get_or-zeroed_out ys o n p (inr (omega (arith, apart, fits))) inside
          ]) ∙ get_or-bytes_in fs xs p lt)
    ])

zeroed_twice : (xs : List ℕ) (a n m : ℕ) → a + n + m ≤ length xs → zeroed (zeroed xs a n) (a + n) m ≡ zeroed xs a (n + m)
zeroed_twice xs a n m h =
    let ys = zeroed xs a n in let ly : length ys ≡ length xs = length-zeroed xs a n (omega arith) in
    let long : length (zeroed ys (a + n) m) ≡ length xs = length-zeroed ys (a + n) m (omega (arith, ly)) ∙ ly in
    same_number_lists (zeroed ys (a + n) m) (zeroed xs a (n + m)) (long ∙ sym (length-zeroed xs a (n + m) (omega arith)))
    (λ i lt. elim (cases_lt i (a + n)) [
      | inl less ↦ get_or-zeroed_out ys (a + n) m i (inl less) (omega (arith, ly)) ∙ (elim (cases_lt i a) [
        | inl prefix ↦ get_or-zeroed_out xs a n i (inl prefix) (omega arith) ∙ sym (get_or-zeroed_out xs a (n + m) i (inl prefix) (omega arith))
        | inr from ↦ get_or-zeroed_in xs a n i from less (omega arith) ∙ sym (get_or-zeroed_in xs a (n + m) i from (omega arith) (omega arith))
      ])
      | inr more ↦ elim (cases_lt i (a + n + m)) [
        | inl to ↦ get_or-zeroed_in ys (a + n) m i more to (omega (arith, ly)) ∙ sym (get_or-zeroed_in xs a (n + m) i (omega arith) (omega arith) (omega arith))
        | inr back ↦ get_or-zeroed_out ys (a + n) m i (inr back) (omega (arith, ly)) ∙ get_or-zeroed_out xs a n i (inr (omega arith)) (omega arith)
            ∙ sym (get_or-zeroed_out xs a (n + m) i (inr (omega arith)) (omega arith))
      ]
    ])

-- one page, and then the rest
pub cleared_again : (ss : Contents) (r : ℕ) (bs : List ℕ) (o n m k : ℕ) → r < length ss → o + n + m ≤ length bs → k ≡ n + m
    → set (set ss r (Some (zeroed bs o n))) r (Some (zeroed (content_of (set ss r (Some (zeroed bs o n))) r) (o + n) m)) ≡ set ss r (Some (zeroed bs o k))
cleared_again ss r bs o n m k lt h e =
    set-set ss r (Some (zeroed bs o n)) (Some (zeroed (content_of (set ss r (Some (zeroed bs o n))) r) (o + n) m))
    ∙ ap (λ (xs : List ℕ). set ss r (Some (zeroed xs (o + n) m))) (content_set ss r (zeroed bs o n) lt)
    ∙ ap (λ (xs : List ℕ). set ss r (Some xs)) (zeroed_twice bs o n m h ∙ ap (zeroed bs o) (sym e))
