-- The bytes that lie in a list of frames.
use Rattle.std.proofs.Common.{◌≡◌, ℕ, zero, suc, ◌+◌, ◌-◌, ◌*◌, ◌/◌, ◌%◌, ◌<◌, ◌≤◌, inl, inr, List, [], ◌∷◌, ◌++◌, length, take, drop, set, get_or, Option}
use Rattle.std.proofs.Common.{Some, None, IsTrue, refl, sym, ap, subst, ◌∙◌, arith, length-append, length-set, length-take, length-drop}
use Rattle.std.proofs.lemmas.Bool.{cases_lt, cases_eq}
use Rattle.std.specs.Int.{w32, from_le_bytes}
use Rattle.std.proofs.lemmas.Grind.{same_number_lists}
use Rattle.std.proofs.lemmas.List.{get_or-set_same, get_or-set_other, set-set, get_or_append_left, get_or-append_right, get_or_at, get_or-take, get_or-drop}
use Rattle.std.proofs.lemmas.List.{length-replicate, get_or-replicate}
use Rattle.std.proofs.lemmas.List.FromFn.{length-map-range_with_len, get_or-map-range_with_len, fill_by_all}
use Rattle.gq_pages.specs.Frame_bytes.{zeros, word_at, with_bytes}
use Rattle.gq_pages.specs.Frame_map.{Frames, IsTaken, bytes_of, its_bytes, has_bytes, zero_frame}
use Rattle.gq_dataspace.specs.internal.Spaces_fields.{byte_in, bytes_in}
use Rattle.gq_dataspace.proofs.Dataspace_link_tables.{past}

-- ---- zeros
pub length-zeros : (n : ℕ) → length (zeros n) ≡ n
unfolding zeros
length-zeros n = length-replicate n 0

pub get_or-zeros : (n i : ℕ) → get_or (zeros n) i 0 ≡ 0
unfolding zeros
get_or-zeros n i = elim (cases_lt i n) [ inl lt ↦ get_or-replicate n i 0 0 lt | inr ge ↦ past (zeros n) i 0 (omega (arith, length-zeros n)) ]

pub zero_frame_is : zero_frame ≡ zeros 4096
unfolding zero_frame
zero_frame_is = refl

-- ---- frames with all their bytes
whole_taken : (f : Option (List ℕ)) → length (its_bytes f) ≡ 4096 → IsTrue (has_bytes f)
whole_taken None h = absurd (omega (arith, h))
whole_taken (Some bs) h = refl

pub is_taken : (fs : Frames) (f : ℕ) → length (bytes_of fs f) ≡ 4096 → IsTaken fs f
is_taken fs f h = whole_taken (get_or fs f None) h

pub is_there : (fs : Frames) (f : ℕ) → length (bytes_of fs f) ≡ 4096 → f < length fs
is_there fs f h = elim (cases_lt f (length fs)) [
  | inl lt ↦ lt
  | inr ge ↦ absurd
      (omega (arith, h, ap (λ (o : Option (List ℕ)). length (its_bytes o)) (past fs f None ge)))
]

-- ---- the bytes of a list of frames
pub length-bytes_in : (fs : Frames) (xs : List ℕ) → length (bytes_in fs xs) ≡ 4096 * length xs
unfolding bytes_in
length-bytes_in fs xs = length-map-range_with_len (byte_in fs xs) 0 (4096 * length xs)

pub get_or-bytes_in : (fs : Frames) (xs : List ℕ) (o : ℕ) → o < 4096 * length xs → get_or (bytes_in fs xs) o 0 ≡ get_or (bytes_of fs (get_or xs (o / 4096) 0))
    (o % 4096) 0
unfolding bytes_in byte_in
get_or-bytes_in fs xs o h = get_or-map-range_with_len (byte_in fs xs) 0 (4096 * length xs) o o 0 h (omega arith)

pub bytes_all : (fs : Frames) (xs bs : List ℕ) → length bs ≡ 4096 * length xs
    → ((o : ℕ) → o < 4096 * length xs → get_or bs o 0 ≡ get_or (bytes_of fs (get_or xs (o / 4096) 0)) (o % 4096) 0) → bytes_in fs xs ≡ bs
unfolding bytes_in byte_in
bytes_all fs xs bs long each = sym (fill_by_all (byte_in fs xs) bs (4096 * length xs) 0 long each)

pub bytes_same : (fs fs' : Frames) (xs : List ℕ) → ((i : ℕ) → i < length xs → get_or fs' (get_or xs i 0) None ≡ get_or fs (get_or xs i 0) None)
    → bytes_in fs' xs ≡ bytes_in fs xs
bytes_same fs fs' xs same = bytes_all fs' xs (bytes_in fs xs) (length-bytes_in fs xs)
    (λ o h. get_or-bytes_in fs xs o h ∙ ap (λ (f : Option (List ℕ)). get_or (its_bytes f) (o % 4096) 0) (sym (same (o / 4096) (omega arith))))

-- one byte is written
pub bytes_set : (fs : Frames) (xs : List ℕ) (o v : ℕ) → o < 4096 * length xs → length (bytes_of fs (get_or xs (o / 4096) 0)) ≡ 4096
    → ((i : ℕ) → i < length xs → get_or xs i 0 ≡ get_or xs (o / 4096) 0 → i ≡ o / 4096)
    → bytes_in (set fs (get_or xs (o / 4096) 0) (Some (set (bytes_of fs (get_or xs (o / 4096) 0)) (o % 4096) v))) xs ≡ set (bytes_in fs xs) o v
bytes_set fs xs o v h whole once =
    let f : ℕ = get_or xs (o / 4096) 0 in let bs : List ℕ = bytes_of fs f in let there : f < length fs = is_there fs f whole in
    let ys : List ℕ = bytes_in fs xs in
    let here : get_or (set fs f (Some (set bs (o % 4096) v))) f None ≡ Some (set bs (o % 4096) v) =
    get_or-set_same fs f (Some (set bs (o % 4096) v)) None there in
    let long : length ys ≡ 4096 * length xs = length-bytes_in fs xs in
    bytes_all (set fs f (Some (set bs (o % 4096) v))) xs (set ys o v) (length-set ys o v ∙ long)
    (λ p lt. elim (cases_eq p o) [
      | inl e ↦ rw e (get_or-set_same ys o v 0 (omega (arith, long)) ∙ sym (ap (λ (x : Option (List ℕ)). get_or (its_bytes x) (o % 4096) 0) here
          ∙ get_or-set_same bs (o % 4096) v 0 (omega (arith, whole))))
      | inr other ↦ get_or-set_other ys o p v 0 other ∙ get_or-bytes_in fs xs p lt ∙ (elim (cases_eq (p / 4096) (o / 4096)) [
        | inl e ↦ rw e (sym (ap (λ (x : Option (List ℕ)). get_or (its_bytes x) (p % 4096) 0) here
            ∙ get_or-set_other bs (o % 4096) (p % 4096) v 0 (λ (d : p % 4096 ≡ o % 4096). other (omega (arith, d, e)))))
        | inr apart ↦ ap (λ (x : Option (List ℕ)). get_or (its_bytes x) (p % 4096) 0)
            (sym (get_or-set_other fs f (get_or xs (p / 4096) 0) (Some (set bs (o % 4096) v)) None (λ (d : get_or xs (p / 4096) 0 ≡ f). apart
            (once (p / 4096) (omega arith) d))))
      ])
    ])

-- the same, where frame and offset go by names of their own
pub one_written : (fs : Frames) (xs : List ℕ) (f o i j v : ℕ) → o < 4096 * length xs → o / 4096 ≡ i → o % 4096 ≡ j → get_or xs i 0 ≡ f
    → length (bytes_of fs f) ≡ 4096
    → ((a : ℕ) → a < length xs → get_or xs a 0 ≡ f → a ≡ i) → bytes_in (set fs f (Some (set (bytes_of fs f) j v))) xs ≡ set (bytes_in fs xs) o v
one_written fs xs f o i j v h q r at whole once =
    let g : get_or xs (o / 4096) 0 ≡ f = ap (λ (a : ℕ). get_or xs a 0) q ∙ at in
    subst (λ (k : ℕ). bytes_in (set fs f (Some (set (bytes_of fs f) k v))) xs ≡ set (bytes_in fs xs) o v) r
    (subst (λ (x : ℕ). bytes_in (set fs x (Some (set (bytes_of fs x) (o % 4096) v))) xs ≡ set (bytes_in fs xs) o v) g
    (bytes_set fs xs o v h (ap (λ (x : ℕ). length (bytes_of fs x)) g ∙ whole) (λ a lt e. once a lt (e ∙ g) ∙ sym q)))

-- some bytes of one frame are written
pub length-with_bytes : (xs : List ℕ) (i : ℕ) (ws : List ℕ) → length (with_bytes xs i ws) ≡ length xs
length-with_bytes xs i [] = refl
length-with_bytes xs i (w ∷ ws) = length-with_bytes (set xs i w) (i + 1) ws ∙ length-set xs i w

same_frame : (fs : Frames) (f : ℕ) → f < length fs → IsTaken fs f → set fs f (Some (bytes_of fs f)) ≡ fs
same_frame [] f h taken = absurd (omega arith)
same_frame (None ∷ fs) zero h taken = cc
same_frame (Some bs ∷ fs) zero h taken = refl
same_frame (x ∷ fs) (suc f) h taken = ap (λ (ys : Frames). x ∷ ys) (same_frame fs f (omega arith) taken)

pub bytes_written : (fs : Frames) (xs : List ℕ) (f i j : ℕ) (ws : List ℕ) → i < length xs → get_or xs i 0 ≡ f → j + length ws ≤ 4096
    → length (bytes_of fs f) ≡ 4096
    → ((a : ℕ) → a < length xs → get_or xs a 0 ≡ f → a ≡ i)
    → bytes_in (set fs f (Some (with_bytes (bytes_of fs f) j ws))) xs ≡ with_bytes (bytes_in fs xs) (4096 * i + j) ws
bytes_written fs xs f i j [] h at fits whole once = ap (λ (gs : Frames). bytes_in gs xs) (same_frame fs f (is_there fs f whole) (is_taken fs f whole))
bytes_written fs xs f i j (w ∷ ws) h at fits whole once =
    let bs : List ℕ = bytes_of fs f in let fs' : Frames = set fs f (Some (set bs j w)) in let there : f < length fs = is_there fs f whole in
    let q : (4096 * i + j) / 4096 ≡ i = omega arith in let r : (4096 * i + j) % 4096 ≡ j = omega arith in
    let now : bytes_of fs' f ≡ set bs j w = ap its_bytes (get_or-set_same fs f (Some (set bs j w)) None there) in
    let one : bytes_in fs' xs ≡ set (bytes_in fs xs) (4096 * i + j) w = one_written fs xs f (4096 * i + j) i j w (omega arith) q r at whole once in
    let m : 4096 * i + j + 1 ≡ 4096 * i + (j + 1) = omega arith in
    let rest : bytes_in (set fs' f (Some (with_bytes (bytes_of fs' f) (j + 1) ws))) xs ≡ with_bytes (bytes_in fs' xs) (4096 * i + (j + 1)) ws =
    bytes_written fs' xs f i (j + 1) ws h at (omega arith) (ap length now ∙ length-set bs j w ∙ whole) once in
    let twice : set fs' f (Some (with_bytes (bytes_of fs' f) (j + 1) ws)) ≡ set fs f (Some (with_bytes (set bs j w) (j + 1) ws)) =
    set-set fs f (Some (set bs j w)) (Some (with_bytes (bytes_of fs' f) (j + 1) ws)) ∙ ap (λ (zs : List ℕ). set fs f (Some (with_bytes zs (j + 1) ws))) now in
    ap (λ (gs : Frames). bytes_in gs xs) (sym twice) ∙ rest ∙ (λ k. with_bytes (one k) (sym m k) ws)

-- ---- four bytes of one frame are read
pub word_in : (fs : Frames) (xs : List ℕ) (o : ℕ) → o + 4 ≤ 4096 * length xs → o % 4096 ≤ 4092 → length (bytes_of fs (get_or xs (o / 4096) 0)) ≡ 4096
    → word_at (bytes_of fs (get_or xs (o / 4096) 0)) (o % 4096) ≡ word_at (bytes_in fs xs) o
word_in fs xs o h fits whole =
    let bs : List ℕ = bytes_of fs (get_or xs (o / 4096) 0) in let ys : List ℕ = bytes_in fs xs in
    let a : List ℕ = drop (o % 4096) bs in let b : List ℕ = drop o ys in let long : length ys ≡ 4096 * length xs = length-bytes_in fs xs in
    let four : length (take 4 a) ≡ length (take 4 b) = omega (
      arith,
      length-take 4 a,
      length-take 4 b,
      length-drop (o % 4096) bs,
      length-drop o ys,
      whole,
      long,
    ) in
    let same : take 4 a ≡ take 4 b = same_number_lists (take 4 a) (take 4 b) four
    (λ i lt. let below : i < 4 = omega (arith, length-take 4 a) in let q : (o + i) / 4096 ≡ o / 4096 = omega arith in
    let r : (o + i) % 4096 ≡ o % 4096 + i = omega arith in
    get_or-take 4 a i 0 below ∙ get_or-drop (o % 4096) bs i 0
    ∙ (λ k. get_or (bytes_of fs (get_or xs (sym q k) 0)) (sym r k) 0)
    ∙ sym (get_or-bytes_in fs xs (o + i) (omega arith)) ∙ sym (get_or-drop o ys i 0) ∙ sym (get_or-take 4 b i 0 below)) in
    ap (from_le_bytes w32) same

-- ---- a frame more, a frame less
pub bytes_more : (fs fs' : Frames) (xs : List ℕ) (f : ℕ) → ((i : ℕ) → i < length xs → get_or fs' (get_or xs i 0) None ≡ get_or fs (get_or xs i 0) None)
    → bytes_of fs' f ≡ zero_frame
    → bytes_in fs' (xs ++ f ∷ []) ≡ bytes_in fs xs ++ zeros 4096
bytes_more fs fs' xs f same fresh =
    let ys : List ℕ = bytes_in fs xs in let long : length ys ≡ 4096 * length xs = length-bytes_in fs xs in
    let n : length (xs ++ f ∷ []) ≡ length xs + 1 = length-append xs (f ∷ []) in
    bytes_all fs' (xs ++ f ∷ []) (ys ++ zeros 4096) (omega (arith, length-append ys (zeros 4096), length-zeros 4096, long, n))
    (λ o h. elim (cases_lt o (4096 * length xs)) [
      | inl prefix ↦ get_or_append_left ys (zeros 4096) 0 o (omega (arith, long)) ∙ get_or-bytes_in fs xs o prefix
          ∙ ap (λ (x : Option (List ℕ)). get_or (its_bytes x) (o % 4096) 0) (sym (same (o / 4096) (omega arith)))
          ∙ ap (λ (x : ℕ). get_or (bytes_of fs' x) (o % 4096) 0) (sym (get_or_append_left xs (f ∷ []) 0 (o / 4096) (omega arith)))
      | inr back ↦ let last : length xs ≡ o / 4096 = omega (arith, h, n) in
          get_or-append_right ys (zeros 4096) (4096 * length xs) o 0 long back ∙ get_or-zeros 4096 (o - 4096 * length xs)
          ∙ sym (ap (λ (x : ℕ). get_or (bytes_of fs' x) (o % 4096) 0) (get_or_at xs f [] 0 (o / 4096) last)
          ∙ ap (λ (zs : List ℕ). get_or zs (o % 4096) 0) (fresh ∙ zero_frame_is) ∙ get_or-zeros 4096 (o % 4096))
    ])

pub bytes_fewer : (fs fs' : Frames) (xs : List ℕ) (f : ℕ) → ((i : ℕ) → i < length xs → get_or fs' (get_or xs i 0) None ≡ get_or fs (get_or xs i 0) None)
    → bytes_in fs' xs ≡ take (length (bytes_in fs (xs ++ f ∷ [])) - 4096) (bytes_in fs (xs ++ f ∷ []))
bytes_fewer fs fs' xs f same =
    let all : List ℕ = xs ++ f ∷ [] in let ys : List ℕ = bytes_in fs all in let long : length ys ≡ 4096 * length all = length-bytes_in fs all in
    let n : length all ≡ length xs + 1 = length-append xs (f ∷ []) in
    let m : length ys - 4096 ≡ 4096 * length xs = omega (arith, long, n) in
    rw m (bytes_all fs' xs (take (4096 * length xs) ys) (length-take (4096 * length xs) ys ∙ omega (arith, long, n))
    (λ o h. get_or-take (4096 * length xs) ys o 0 h ∙ get_or-bytes_in fs all o (omega (arith, n))
    ∙ ap (λ (x : ℕ). get_or (bytes_of fs x) (o % 4096) 0) (get_or_append_left xs (f ∷ []) 0 (o / 4096) (omega arith))
    ∙ ap (λ (x : Option (List ℕ)). get_or (its_bytes x) (o % 4096) 0) (sym (same (o / 4096) (omega arith)))))
