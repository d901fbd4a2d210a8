-- The bytes of one frame, in the whole region and apart.
use Rattle.std.proofs.Common.{◌≡◌, ℕ, ◌+◌, ◌-◌, ◌*◌, ◌^◌, ◌<◌, ◌≤◌, inl, inr, List, [], ◌∷◌, ◌++◌, length, min, take, drop, set, get_or, refl, sym, ap, ◌∙◌}
use Rattle.std.proofs.Common.{arith, length-set, length-take, length-drop, length-append}
use Rattle.std.proofs.Math.Seq.{take-set-lt}
use Rattle.std.proofs.lemmas.List.{drop_at, take_all, drop-append-le, take-append-le, take-set-le, drop-set-lt, drop-set-add, get_or-take, get_or-drop}
use Rattle.std.proofs.lemmas.Grind.{same_number_lists}
use Rattle.std.specs.Int.{w32, to_le_bytes, from_le_bytes}
use Rattle.std.proofs.lemmas.Nat.{from_le_bytes-to_le_bytes_4}
use Rattle.std.proofs.lemmas.Bool.{cases_lt}
use Rattle.gq_pages.specs.Frame_bytes.{zeros, zeroed, word_at, with_bytes}
use Rattle.gq_pages.specs.Frame_map.{zero_frame}
use Rattle.gq_pages.specs.internal.Region_layout.{page}
use Rattle.gq_pages.proofs.Zeroed_byte_runs.{take-zeroed, take-zeroed_other, length-zeros, length-zeroed, get_or-zeroed_in, get_or-zeroed_out}

pub length-page : (bs : List ℕ) (k : ℕ) → length (page bs k) ≡ min 4096 (length bs - k * 4096)
unfolding page
length-page bs k = length-take 4096 (drop (k * 4096) bs) ∙ ap (min 4096) (length-drop (k * 4096) bs)

pub get_or-page : (bs : List ℕ) (k o : ℕ) → o < 4096 → get_or (page bs k) o 0 ≡ get_or bs (k * 4096 + o) 0
unfolding page
get_or-page bs k o h = get_or-take 4096 (drop (k * 4096) bs) o 0 h ∙ get_or-drop (k * 4096) bs o 0

pub page-set_same : (bs : List ℕ) (k o x : ℕ) → o < 4096 → page (set bs (k * 4096 + o) x) k ≡ set (page bs k) o x
unfolding page
page-set_same bs k o x h = ap (take 4096) (drop-set-add (k * 4096) bs o x) ∙ take-set-lt 4096 (drop (k * 4096) bs) o x h

pub page-set_other : (bs : List ℕ) (k o x j : ℕ) → o < 4096 → (j ≡ k → ⊥) → page (set bs (k * 4096 + o) x) j ≡ page bs j
unfolding page
page-set_other bs k o x j h other = elim (cases_lt j k) [
  | inl lt ↦ let i : ℕ = k * 4096 + o - j * 4096 in let e : k * 4096 + o ≡ j * 4096 + i = omega arith in
      ap (λ (m : ℕ). take 4096 (drop (j * 4096) (set bs m x))) e ∙ ap (take 4096) (drop-set-add (j * 4096) bs i x)
      ∙ take-set-le 4096 (drop (j * 4096) bs) i x (omega arith)
  | inr ge ↦ let more : k < j = omega (arith, other) in ap (take 4096) (drop-set-lt (j * 4096) bs (k * 4096 + o) x (omega arith))
]

pub page-zeroed_same : (bs : List ℕ) (k : ℕ) → k * 4096 + 4096 ≤ length bs → page (zeroed bs (k * 4096) 4096) k ≡ zero_frame
unfolding page zero_frame
page-zeroed_same bs k h = take-zeroed bs (k * 4096) 4096 h

pub page-zeroed_other : (bs : List ℕ) (k j : ℕ) → k * 4096 + 4096 ≤ length bs → (j ≡ k → ⊥) → page (zeroed bs (k * 4096) 4096) j ≡ page bs j
unfolding page
page-zeroed_other bs k j h other = take-zeroed_other bs (k * 4096) 4096 (j * 4096) 4096
    (elim (cases_lt j k) [ inl lt ↦ inl (omega arith) | inr ge ↦ inr (omega (arith, other)) ]) h

-- a part of a frame
pub page-cleared_same : (bs : List ℕ) (k o n : ℕ) → k * 4096 + 4096 ≤ length bs → o + n ≤ 4096 → page (zeroed bs (k * 4096 + o) n) k ≡ zeroed (page bs k) o n
page-cleared_same bs k o n h fits =
    let a : ℕ = k * 4096 + o in let zs = zeroed bs a n in let P = page bs k in
    let within : a + n ≤ length bs = omega arith in
    let full : length P ≡ 4096 = omega (arith, length-page bs k) in let inside : o + n ≤ length P = omega arith in
    let long : length (page zs k) ≡ length (zeroed P o n) = omega (arith, length-page zs k, length-zeroed bs a n within, length-zeroed P o n inside) in
    same_number_lists (page zs k) (zeroed P o n) long
    (λ i lt. let below : i < 4096 = omega (arith, length-zeroed P o n inside) in get_or-page zs k i below ∙ (elim (cases_lt i o) [
      | inl prefix ↦ get_or-zeroed_out bs a n (k * 4096 + i) (inl (omega arith)) within ∙ sym (get_or-page bs k i below)
          ∙ sym (get_or-zeroed_out P o n i (inl prefix) inside)
      | inr from ↦ elim (cases_lt i (o + n)) [
        | inl to ↦ get_or-zeroed_in bs a n (k * 4096 + i) (omega arith) (omega arith) within ∙ sym (get_or-zeroed_in P o n i from to inside)
        | inr back ↦ get_or-zeroed_out bs a n (k * 4096 + i) (inr (omega arith)) within ∙ sym (get_or-page bs k i below)
            ∙ sym (get_or-zeroed_out P o n i (inr back) inside)
      ]
    ]))

pub page-cleared_other : (bs : List ℕ) (k o n j : ℕ) → k * 4096 + 4096 ≤ length bs → o + n ≤ 4096 → (j ≡ k → ⊥)
    → page (zeroed bs (k * 4096 + o) n) j ≡ page bs j
unfolding page
page-cleared_other bs k o n j h fits other =
    take-zeroed_other bs (k * 4096 + o) n (j * 4096) 4096 (elim (cases_lt j k) [ inl lt ↦ inl (omega arith) | inr ge ↦ inr (omega (arith, other)) ])
    (omega arith)

pub length-with_bytes : (bs : List ℕ) (i : ℕ) (ws : List ℕ) → length (with_bytes bs i ws) ≡ length bs
length-with_bytes bs i [] = refl
length-with_bytes bs i (w ∷ ws) = length-with_bytes (set bs i w) (i + 1) ws ∙ length-set bs i w

pub page-with_bytes_same : (bs : List ℕ) (k o : ℕ) (ws : List ℕ) → o + length ws ≤ 4096 → page (with_bytes bs (k * 4096 + o) ws) k ≡ with_bytes (page bs k) o ws
page-with_bytes_same bs k o [] h = refl
page-with_bytes_same bs k o (w ∷ ws) h =
    let e : k * 4096 + o + 1 ≡ k * 4096 + (o + 1) = omega arith in
    ap (λ (m : ℕ). page (with_bytes (set bs (k * 4096 + o) w) m ws) k) e ∙ page-with_bytes_same (set bs (k * 4096 + o) w) k (o + 1) ws (omega arith)
    ∙ ap (λ (xs : List ℕ). with_bytes xs (o + 1) ws) (page-set_same bs k o w (omega arith))

pub page-with_bytes_other : (bs : List ℕ) (k o : ℕ) (ws : List ℕ) (j : ℕ) → o + length ws ≤ 4096 → (j ≡ k → ⊥)
    → page (with_bytes bs (k * 4096 + o) ws) j ≡ page bs j
page-with_bytes_other bs k o [] j h other = refl
page-with_bytes_other bs k o (w ∷ ws) j h other =
    let e : k * 4096 + o + 1 ≡ k * 4096 + (o + 1) = omega arith in
    ap (λ (m : ℕ). page (with_bytes (set bs (k * 4096 + o) w) m ws) j) e ∙ page-with_bytes_other (set bs (k * 4096 + o) w) k (o + 1) ws j (omega arith) other
    ∙ page-set_other bs k o w j (omega arith) other

pub word_at-page : (bs : List ℕ) (k o : ℕ) → o ≤ 4092 → word_at bs (k * 4096 + o) ≡ word_at (page bs k) o
word_at-page bs k o h =
    let P = page bs k in let a = drop (k * 4096 + o) bs in let b = drop o P in
    let long : length (take 4 a) ≡ length (take 4 b) =
    omega (arith, length-take 4 a, length-take 4 b, length-drop (k * 4096 + o) bs, length-drop o P, length-page bs k) in
    let same : take 4 a ≡ take 4 b = same_number_lists (take 4 a) (take 4 b) long
    (λ i lt. let below : i < 4 = omega (arith, length-take 4 a) in
    get_or-take 4 a i 0 below ∙ get_or-drop (k * 4096 + o) bs i 0 ∙ ap (λ (m : ℕ). get_or bs m 0) (omega arith) ∙ sym (get_or-page bs k (o + i) (omega arith))
    ∙ sym (get_or-drop o P i 0) ∙ sym (get_or-take 4 b i 0 below)) in
    ap (from_le_bytes w32) same

pub word_written : (xs : List ℕ) (w : ℕ) → 4 ≤ length xs → w < 2 ^ 32 → word_at (with_bytes xs 0 (to_le_bytes w32 w)) 0 ≡ w
word_written [] w h lt = absurd (omega arith)
word_written (a ∷ []) w h lt = absurd (omega arith)
word_written (a ∷ b ∷ []) w h lt = absurd (omega arith)
word_written (a ∷ b ∷ c ∷ []) w h lt = absurd (omega arith)
word_written (a ∷ b ∷ c ∷ d ∷ xs) w h lt = from_le_bytes-to_le_bytes_4 w lt

-- a frame behind the others
pub page-appended_same : (bs : List ℕ) (t : ℕ) → length bs ≡ t * 4096 → page (bs ++ zeros 4096) t ≡ zero_frame
unfolding page zero_frame
page-appended_same bs t size = ap (take 4096) (drop_at bs (zeros 4096) (t * 4096) size) ∙ take_all 4096 (zeros 4096) (omega (arith, length-zeros 4096))

page-appended_below : (bs : List ℕ) (t j : ℕ) → length bs ≡ t * 4096 → j < t → page (bs ++ zeros 4096) j ≡ page bs j
unfolding page
page-appended_below bs t j size lt =
    ap (take 4096) (drop-append-le (j * 4096) bs (zeros 4096) (omega arith))
    ∙ take-append-le 4096 (drop (j * 4096) bs) (zeros 4096) (omega (arith, length-drop (j * 4096) bs))

pub page-appended_other : (bs : List ℕ) (t j : ℕ) → length bs ≡ t * 4096 → (j ≡ t → ⊥) → page (bs ++ zeros 4096) j ≡ page bs j
page-appended_other bs t j size other = elim (cases_lt j t) [
  | inl lt ↦ page-appended_below bs t j size lt
  | inr ge ↦ let more : t < j = omega (arith, other) in
      let none : length (page bs j) ≡ 0 = omega (arith, length-page bs j) in
      let none' : length (page (bs ++ zeros 4096) j) ≡ 0 = omega (arith, length-page (bs ++ zeros 4096) j, length-append bs (zeros 4096), length-zeros 4096) in
      same_number_lists (page (bs ++ zeros 4096) j) (page bs j) (none' ∙ sym none) (λ i lt. absurd (omega arith))
]
