-- The dataspaces over frames and lists, and what each call does to them.
use Rattle.std.proofs.Common.{◌≡◌, ℕ, ◌-◌, ◌*◌, ◌<◌, ◌≤◌, inl, inr, List, [], ◌∷◌, ◌++◌, length, take, set, get_or, replicate, Option, Some, None, IsTrue, refl}
use Rattle.std.proofs.Common.{sym, ap, subst, ◌∙◌, arith, length-append, length-set}
use Rattle.std.proofs.lemmas.Bool.{cases_lt, cases_eq}
use Rattle.std.proofs.lemmas.Bool.Decides.{nat_tests}
use Rattle.std.proofs.lemmas.List.{get_or-set_same, get_or-set_other, length-replicate, get_or-replicate}
use Rattle.std.proofs.lemmas.List.FromFn.{length-map-range_with_len, get_or-map-range_with_len, fill_by_all}
use Rattle.gq_pages.specs.Frame_bytes.{zeros}
use Rattle.gq_pages.specs.Frame_map.{Frames, all_free, bytes_of, its_bytes, has_bytes, zero_frame}
use Rattle.gq_dataspace.specs.internal.Frame_lists.{Lists, list_at, AreApart}
use Rattle.gq_dataspace.specs.Dataspaces.{Contents, IsLive, content_of, shorter}
use Rattle.gq_dataspace.specs.internal.Spaces_fields.{bytes_in, space_in, spaces_in, AreWhole}
use Rattle.gq_dataspace.proofs.Dataspace_link_tables.{past, at_some}
use Rattle.gq_dataspace.proofs.Disjoint_frame_lists.{IsNew, list_at_same, list_at_other, grown_entry, shrunk_entry, left, none_long}
use Rattle.gq_dataspace.proofs.Frame_list_bytes.{length-bytes_in, bytes_same, bytes_more, bytes_fewer, is_there, zero_frame_is, length-zeros}

-- ---- what a contract sees
pub length-spaces_in : (fs : Frames) (ls : Lists) → length (spaces_in fs ls) ≡ length ls
unfolding spaces_in
length-spaces_in fs ls = length-map-range_with_len (λ r. space_in fs (list_at ls r)) 0 (length ls)

pub space_at : (fs : Frames) (ls : Lists) (r : ℕ) → get_or (spaces_in fs ls) r None ≡ space_in fs (list_at ls r)
unfolding spaces_in
space_at fs ls r = elim (cases_lt r (length ls)) [
  | inl lt ↦ get_or-map-range_with_len (λ r. space_in fs (list_at ls r)) 0 (length ls) r r None lt (omega arith)
  | inr ge ↦ past (spaces_in fs ls) r None (omega (arith, length-spaces_in fs ls)) ∙ ap (space_in fs) (sym (past ls r [] ge))
]

space_bytes : (fs : Frames) (xs : List ℕ) → its_bytes (space_in fs xs) ≡ bytes_in fs xs
unfolding bytes_in
space_bytes fs [] = refl
space_bytes fs (x ∷ xs) = refl

pub no_bytes : (fs : Frames) → bytes_in fs [] ≡ []
unfolding bytes_in
no_bytes fs = refl

pub content_at : (fs : Frames) (ls : Lists) (r : ℕ) → content_of (spaces_in fs ls) r ≡ bytes_in fs (list_at ls r)
content_at fs ls r = ap its_bytes (space_at fs ls r) ∙ space_bytes fs (list_at ls r)

pub length-content : (fs : Frames) (ls : Lists) (r : ℕ) → length (content_of (spaces_in fs ls) r) ≡ 4096 * length (list_at ls r)
length-content fs ls r = ap length (content_at fs ls r) ∙ length-bytes_in fs (list_at ls r)

live_list : (fs : Frames) (xs : List ℕ) → IsTrue (has_bytes (space_in fs xs)) → 0 < length xs
live_list fs [] h = cc
live_list fs (x ∷ xs) h = omega arith

pub live_some : (fs : Frames) (ls : Lists) (r : ℕ) → IsLive (spaces_in fs ls) r → 0 < length (list_at ls r)
live_some fs ls r h = live_list fs (list_at ls r) (ap has_bytes (sym (space_at fs ls r)) ∙ h)

space_some : (fs : Frames) (xs : List ℕ) → 0 < length xs → space_in fs xs ≡ Some (bytes_in fs xs)
space_some fs [] h = absurd (omega (arith, h))
space_some fs (x ∷ xs) h = refl

space_same : (fs fs' : Frames) (xs : List ℕ) → bytes_in fs' xs ≡ bytes_in fs xs → space_in fs' xs ≡ space_in fs xs
space_same fs fs' [] e = refl
space_same fs fs' (x ∷ xs) e = ap Some e

all_spaces : (fs : Frames) (ls : Lists) (n : ℕ) → length ls ≡ n → (ss : Contents) → length ss ≡ n
    → ((g : ℕ) → g < n → get_or ss g None ≡ space_in fs (list_at ls g)) → spaces_in fs ls ≡ ss
unfolding spaces_in
all_spaces fs ls n same ss long each = rw same (sym (fill_by_all (λ r. space_in fs (list_at ls r)) ss n None long each))

-- one dataspace is another
spaces_set : (fs fs' : Frames) (ls ls' : Lists) (r : ℕ) (v : Option (List ℕ)) → r < length ls → length ls' ≡ length ls → space_in fs' (list_at ls' r) ≡ v
    → ((g : ℕ) → (g ≡ r → ⊥) → space_in fs' (list_at ls' g) ≡ space_in fs (list_at ls g)) → spaces_in fs' ls' ≡ set (spaces_in fs ls) r v
spaces_set fs fs' ls ls' r v lt same here there =
    let ss = spaces_in fs ls in
    all_spaces fs' ls' (length ls) same (set ss r v) (length-set ss r v ∙ length-spaces_in fs ls)
    (λ g below. elim (cases_eq g r) [
      | inl e ↦ rw e (get_or-set_same ss r v None (omega (arith, length-spaces_in fs ls)) ∙ sym here)
      | inr other ↦ get_or-set_other ss r g v None other ∙ space_at fs ls g ∙ sym (there g other)
    ])

pub no_spaces : (fs : Frames) (n : ℕ) → spaces_in fs (replicate n []) ≡ all_free n
unfolding all_free
no_spaces fs n = all_spaces fs (replicate n []) n (length-replicate {A = List ℕ} n []) (replicate n None) (length-replicate {A = Option (List ℕ)} n None)
    (λ g lt. get_or-replicate n g None None lt ∙ ap (space_in fs) (sym (get_or-replicate {A = List ℕ} n g [] [] lt)))

pub none_whole : (fs : Frames) (n : ℕ) → AreWhole fs (replicate n [])
none_whole fs n r i h = absurd (omega (arith, h, none_long n r))

-- ---- a frame of a dataspace is written
pub writes : (fs : Frames) (ls : Lists) (r i f : ℕ) (bs content : List ℕ) → AreApart ls → i < length (list_at ls r) → get_or (list_at ls r) i 0 ≡ f
    → bytes_in (set fs f (Some bs)) (list_at ls r) ≡ content → spaces_in (set fs f (Some bs)) ls ≡ set (spaces_in fs ls) r (Some content)
writes fs ls r i f bs content apart lt at is =
    spaces_set fs (set fs f (Some bs)) ls ls r (Some content) (at_some ls r (omega arith)) refl (space_some (set fs f (Some bs)) (list_at ls r) (omega arith)
    ∙ ap Some is)
    (λ g other. space_same fs (set fs f (Some bs)) (list_at ls g) (bytes_same fs (set fs f (Some bs)) (list_at ls g)
    (λ j h. get_or-set_other fs f (get_or (list_at ls g) j 0) (Some bs) None (λ (e : get_or (list_at ls g) j 0 ≡ f). other (apart.once g r j i h lt (e
    ∙ sym at)).0))))

pub whole_written : (fs : Frames) (ls : Lists) (f : ℕ) (bs : List ℕ) → AreWhole fs ls → length bs ≡ 4096 → AreWhole (set fs f (Some bs)) ls
whole_written fs ls f bs whole long r i h = let x : ℕ = get_or (list_at ls r) i 0 in let there : x < length fs = is_there fs x (whole r i h) in
    elim (cases_eq x f) [
      | inl e ↦ ap (λ (o : Option (List ℕ)). length (its_bytes o)) (ap (λ (y : ℕ). get_or (set fs f (Some bs)) y None) e
          ∙ get_or-set_same fs f (Some bs) None (subst (λ (y : ℕ). y < length fs) e there)) ∙ long
      | inr other ↦ ap (λ (o : Option (List ℕ)). length (its_bytes o)) (get_or-set_other fs f x (Some bs) None other) ∙ whole r i h
    ]

-- ---- a dataspace gets a frame that was free
pub new_of : (fs : Frames) (ls : Lists) (f : ℕ) → AreWhole fs ls → get_or fs f None ≡ None → IsNew ls f
new_of fs ls f whole free g i h e =
    let none : length (bytes_of fs (get_or (list_at ls g) i 0)) ≡ 0 = ap (λ (x : ℕ). length (bytes_of fs x)) e
    ∙ ap (λ (o : Option (List ℕ)). length (its_bytes o)) free in
    omega (arith, none, whole g i h)

pub grows : (fs : Frames) (ls : Lists) (r f : ℕ) → r < length ls → f < length fs → IsNew ls f
    → spaces_in (set fs f (Some zero_frame)) (set ls r (list_at ls r ++ f ∷ [])) ≡ set (spaces_in fs ls) r (Some (bytes_in fs (list_at ls r) ++ zeros 4096))
grows fs ls r f lt there new =
    let fs' : Frames = set fs f (Some zero_frame) in let xs : List ℕ = list_at ls r in let ls' : Lists = set ls r (xs ++ f ∷ []) in
    let same : (g i : ℕ) → i < length (list_at ls g) → get_or fs' (get_or (list_at ls g) i 0) None ≡ get_or fs (get_or (list_at ls g) i 0) None =
    λ g i h. get_or-set_other fs f (get_or (list_at ls g) i 0) (Some zero_frame) None (new g i h) in
    let fresh : bytes_of fs' f ≡ zero_frame = ap its_bytes (get_or-set_same fs f (Some zero_frame) None there) in
    let some : 0 < length (xs ++ f ∷ []) = omega (arith, length-append xs (f ∷ [])) in
    spaces_set fs fs' ls ls' r (Some (bytes_in fs xs ++ zeros 4096)) lt (length-set ls r (xs ++ f ∷ []))
    (ap (space_in fs') (list_at_same ls r (xs ++ f ∷ []) lt) ∙ space_some fs' (xs ++ f ∷ []) some ∙ ap Some (bytes_more fs fs' xs f (same r) fresh))
    (λ g other. ap (space_in fs') (list_at_other ls r g (xs ++ f ∷ []) other) ∙ space_same fs fs' (list_at ls g) (bytes_same fs fs' (list_at ls g) (same g)))

pub whole_grown : (fs : Frames) (ls : Lists) (r f : ℕ) → AreWhole fs ls → r < length ls → f < length fs → IsNew ls f
    → AreWhole (set fs f (Some zero_frame)) (set ls r (list_at ls r ++ f ∷ []))
whole_grown fs ls r f whole lt there new g i h =
    let fs' : Frames = set fs f (Some zero_frame) in
    elim (grown_entry ls r f g i lt h) [
      | inl old ↦ ap (λ (x : ℕ). length (bytes_of fs' x)) old.1
          ∙ ap (λ (o : Option (List ℕ)). length (its_bytes o)) (get_or-set_other fs f (get_or (list_at ls g) i 0) (Some zero_frame) None (new g i old.0))
          ∙ whole g i old.0
      | inr last ↦ ap (λ (x : ℕ). length (bytes_of fs' x)) last.2
          ∙ ap (λ (o : Option (List ℕ)). length (its_bytes o)) (get_or-set_same fs f (Some zero_frame) None there) ∙ ap length zero_frame_is ∙ length-zeros 4096
    ]

pub short_set : (ls : Lists) (r n : ℕ) (xs : List ℕ) → ((g : ℕ) → length (list_at ls g) ≤ n) → length xs ≤ n → (g : ℕ) → length (list_at (set ls r xs) g) ≤ n
short_set ls r n xs short few g = elim (cases_eq g r) [
  | inl e ↦ elim (cases_lt r (length ls)) [
    | inl lt ↦ let is : list_at (set ls r xs) g ≡ xs = rw e (list_at_same ls r xs lt) in omega (arith, ap length is, few)
    | inr ge ↦ let is : list_at (set ls r xs) g ≡ [] = rw e (past (set ls r xs) r [] (omega (arith, length-set ls r xs))) in omega (arith, ap length is)
  ]
  | inr other ↦ omega (arith, ap length (list_at_other ls r g xs other), short g)
]

-- ---- a dataspace loses its last frame
shorter_is : (fs fs' : Frames) (ys : List ℕ) (f : ℕ) → ((i : ℕ) → i < length ys → get_or fs' (get_or ys i 0) None ≡ get_or fs (get_or ys i 0) None)
    → space_in fs' ys ≡ shorter (bytes_in fs (ys ++ f ∷ []))
unfolding shorter
shorter_is fs fs' [] f same = let long : length (bytes_in fs (f ∷ [])) ≡ 4096 = length-bytes_in fs (f ∷ []) in grind (arith, nat_tests)
shorter_is fs fs' (y ∷ ys) f same =
    let all : List ℕ = (y ∷ ys) ++ f ∷ [] in
    let long : 4096 < length (bytes_in fs all) = omega (arith, length-bytes_in fs all, length-append (y ∷ ys) (f ∷ [])) in
    let is : bytes_in fs' (y ∷ ys) ≡ take (length (bytes_in fs all) - 4096) (bytes_in fs all) = bytes_fewer fs fs' (y ∷ ys) f same in
    grind (arith, nat_tests)

pub shrinks : (fs : Frames) (ls : Lists) (r f : ℕ) (ys : List ℕ) → AreApart ls → r < length ls → list_at ls r ≡ ys ++ f ∷ []
    → spaces_in (set fs f None) (set ls r ys) ≡ set (spaces_in fs ls) r (shorter (bytes_in fs (list_at ls r)))
shrinks fs ls r f ys apart lt was =
    let fs' : Frames = set fs f None in let ls' : Lists = set ls r ys in
    let same : (g i : ℕ) → i < length (list_at ls' g) → get_or fs' (get_or (list_at ls' g) i 0) None ≡ get_or fs (get_or (list_at ls' g) i 0) None = λ g i h.
    get_or-set_other fs f (get_or (list_at ls' g) i 0) None None (left ls r f g i ys apart lt was h) in
    spaces_set fs fs' ls ls' r (shorter (bytes_in fs (list_at ls r))) lt (length-set ls r ys)
    (ap (space_in fs') (list_at_same ls r ys lt) ∙ shorter_is fs fs' ys f (subst (λ (zs : List ℕ). (i : ℕ) → i < length zs
    → get_or fs' (get_or zs i 0) None ≡ get_or fs (get_or zs i 0) None) (list_at_same ls r ys lt) (same r))
    ∙ ap (λ (zs : List ℕ). shorter (bytes_in fs zs)) (sym was))
    (λ g other. space_same fs fs' (list_at ls' g) (bytes_same fs fs' (list_at ls' g) (same g)) ∙ ap (space_in fs) (list_at_other ls r g ys other))

pub whole_shrunk : (fs : Frames) (ls : Lists) (r f : ℕ) (ys : List ℕ) → AreWhole fs ls → AreApart ls → r < length ls → list_at ls r ≡ ys ++ f ∷ []
    → AreWhole (set fs f None) (set ls r ys)
whole_shrunk fs ls r f ys whole apart lt was g i h =
    let old = shrunk_entry ls r f g i ys lt was h in
    ap (λ (o : Option (List ℕ)). length (its_bytes o)) (get_or-set_other fs f (get_or (list_at (set ls r ys) g) i 0) None None
    (left ls r f g i ys apart lt was h))
    ∙ ap (λ (x : ℕ). length (bytes_of fs x)) old.1 ∙ whole g i old.0
