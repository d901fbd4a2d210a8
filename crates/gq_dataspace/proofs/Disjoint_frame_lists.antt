-- Lists that are apart, as one of them grows or shrinks.
use Rattle.std.proofs.Common.{◌≡◌, ℕ, ◌+◌, ◌<◌, ◌⊎◌, inl, inr, List, [], ◌∷◌, ◌++◌, length, set, get_or, replicate, refl, sym, ap, ◌∙◌, arith, length-append}
use Rattle.std.proofs.lemmas.Bool.{cases_lt, cases_eq}
use Rattle.std.proofs.lemmas.List.{get_or-set_same, get_or-set_other, get_or_append_left, get_or_at, length-replicate, get_or-replicate}
use Rattle.gq_dataspace.specs.internal.Frame_lists.{Lists, list_at, AreApart, IsOwn}
use Rattle.gq_dataspace.proofs.Dataspace_link_tables.{past}

-- no list has the number f
abbrev pub IsNew : Lists → ℕ → Type 0
IsNew ls f = (g i : ℕ) → i < length (list_at ls g) → get_or (list_at ls g) i 0 ≡ f → ⊥

pub list_at_same : (ls : Lists) (r : ℕ) (xs : List ℕ) → r < length ls → list_at (set ls r xs) r ≡ xs
list_at_same ls r xs lt = get_or-set_same ls r xs [] lt

pub list_at_other : (ls : Lists) (r g : ℕ) (xs : List ℕ) → (g ≡ r → ⊥) → list_at (set ls r xs) g ≡ list_at ls g
list_at_other ls r g xs other = get_or-set_other ls r g xs [] other

-- an entry of a table in which f is added at the end of the list r
pub grown_entry : (ls : Lists) (r f g i : ℕ) → r < length ls → i < length (list_at (set ls r (list_at ls r ++ f ∷ [])) g)
    → ((i < length (list_at ls g)) × (get_or (list_at (set ls r (list_at ls r ++ f ∷ [])) g) i 0 ≡ get_or (list_at ls g) i 0))
    ⊎ ((g ≡ r) × (i ≡ length (list_at ls r)) × (get_or (list_at (set ls r (list_at ls r ++ f ∷ [])) g) i 0 ≡ f))
grown_entry ls r f g i lt h =
    let xs : List ℕ = list_at ls r in let zs : List ℕ = xs ++ f ∷ [] in let n : length zs ≡ length xs + 1 = length-append xs (f ∷ []) in
    elim (cases_eq g r) [
      | inl e ↦ let is : list_at (set ls r zs) g ≡ zs = rw e (list_at_same ls r zs lt) in let long : length (list_at (set ls r zs) g) ≡ length zs =
          ap length is in
          elim (cases_lt i (length xs)) [
            | inl prefix ↦ inl (
              rw e prefix,
              ap (λ (ys : List ℕ). get_or ys i 0) is ∙ get_or_append_left xs (f ∷ []) 0 i prefix
                  ∙ ap (λ (a : ℕ). get_or (list_at ls a) i 0) (sym e),
            )
            | inr back ↦ let last : length xs ≡ i = omega (arith, h, long, n) in
                inr (e, sym last, ap (λ (ys : List ℕ). get_or ys i 0) is ∙ get_or_at xs f [] 0 i last)
          ]
      | inr other ↦ let is : list_at (set ls r zs) g ≡ list_at ls g = list_at_other ls r g zs other in
          inl (omega (arith, h, ap length is), ap (λ (ys : List ℕ). get_or ys i 0) is)
    ]

pub apart_grown : (ls : Lists) (r f : ℕ) → AreApart ls → r < length ls → IsNew ls f → (0 ≡ length (list_at ls r) → f ≡ r)
    → AreApart (set ls r (list_at ls r ++ f ∷ []))
apart_grown ls r f apart lt new head = record {
  heads = λ g h. elim (grown_entry ls r f g 0 lt h) [ inl old ↦ old.1 ∙ apart.heads g old.0 | inr last ↦ last.2 ∙ head last.1 ∙ sym last.0 ];
  once = λ g k i j h h' e. elim (grown_entry ls r f g i lt h) [
    | inl old ↦ elim (grown_entry ls r f k j lt h') [
      | inl old' ↦ apart.once g k i j old.0 old'.0 (sym old.1 ∙ e ∙ old'.1)
      | inr last' ↦ absurd (new g i old.0 (sym old.1 ∙ e ∙ last'.2))
    ]
    | inr last ↦ elim (grown_entry ls r f k j lt h') [
      | inl old' ↦ absurd (new k j old'.0 (sym old'.1 ∙ sym e ∙ last.2))
      | inr last' ↦ (last.0 ∙ sym last'.0, last.1 ∙ sym last'.1)
    ]
  ];
}

-- an entry of a table in which the list r loses its last one
pub shrunk_entry : (ls : Lists) (r f g i : ℕ) (ys : List ℕ) → r < length ls → list_at ls r ≡ ys ++ f ∷ [] → i < length (list_at (set ls r ys) g)
    → (i < length (list_at ls g)) × (get_or (list_at (set ls r ys) g) i 0 ≡ get_or (list_at ls g) i 0) × (g ≡ r → i < length ys)
shrunk_entry ls r f g i ys lt was h =
    elim (cases_eq g r) [
      | inl e ↦ let is : list_at (set ls r ys) g ≡ ys = rw e (list_at_same ls r ys lt) in let prefix : i < length ys = omega (arith, h, ap length is) in
          let old : list_at ls g ≡ ys ++ f ∷ [] = rw e was in (
            omega (arith, prefix, ap length old, length-append ys (f ∷ [])),
            ap (λ (zs : List ℕ). get_or zs i 0) is
                ∙ sym (get_or_append_left ys (f ∷ []) 0 i prefix) ∙ ap (λ (zs : List ℕ). get_or zs i 0) (sym old),
            λ same. prefix,
          )
      | inr other ↦ let is : list_at (set ls r ys) g ≡ list_at ls g = list_at_other ls r g ys other in
          (omega (arith, h, ap length is), ap (λ (zs : List ℕ). get_or zs i 0) is, λ same. absurd (other same))
    ]

pub apart_shrunk : (ls : Lists) (r f : ℕ) (ys : List ℕ) → AreApart ls → r < length ls → list_at ls r ≡ ys ++ f ∷ [] → AreApart (set ls r ys)
apart_shrunk ls r f ys apart lt was = record {
  heads = λ g h. let old = shrunk_entry ls r f g 0 ys lt was h in old.1 ∙ apart.heads g old.0;
  once = λ g k i j h h' e. let old = shrunk_entry ls r f g i ys lt was h in let old' = shrunk_entry ls r f k j ys lt was h' in
      apart.once g k i j old.0 old'.0 (sym old.1 ∙ e ∙ old'.1);
}

-- a list that has an entry has its first one alone
pub own_some : (ls : Lists) (r : ℕ) → AreApart ls → 0 < length (list_at ls r) → IsOwn ls r
own_some ls r apart some g i h e = (apart.once g r i 0 h some (e ∙ sym (apart.heads r some))).0

pub own_new : (ls : Lists) (r : ℕ) → IsNew ls r → IsOwn ls r
own_new ls r new g i h e = absurd (new g i h e)

-- what is left of such a table has not the one that was taken off
pub left : (ls : Lists) (r f g i : ℕ) (ys : List ℕ) → AreApart ls → r < length ls → list_at ls r ≡ ys ++ f ∷ [] → i < length (list_at (set ls r ys) g)
    → get_or (list_at (set ls r ys) g) i 0 ≡ f → ⊥
left ls r f g i ys apart lt was h e =
    let old = shrunk_entry ls r f g i ys lt was h in let n : ℕ = length ys in
    let long : length (list_at ls r) ≡ n + 1 = ap length was ∙ length-append ys (f ∷ []) in
    let last : get_or (list_at ls r) n 0 ≡ f = ap (λ (zs : List ℕ). get_or zs n 0) was ∙ get_or_at ys f [] 0 n refl in
    let same : (g ≡ r) × (i ≡ n) = apart.once g r i n old.0 (omega (arith, long)) (sym old.1 ∙ e ∙ sym last) in
    omega (arith, same.1, old.2 same.0)

empty : (xs : List ℕ) → (0 < length xs → ⊥) → xs ≡ []
empty [] h = refl
empty (x ∷ xs) h = absurd (h (omega arith))

-- a number that no list has begins none
pub none_of : (ls : Lists) (f : ℕ) → AreApart ls → IsNew ls f → list_at ls f ≡ []
none_of ls f apart new = empty (list_at ls f) (λ (h : 0 < length (list_at ls f)). new f 0 h (apart.heads f h))

-- ---- lists without entries
pub none_long : (n r : ℕ) → length (list_at (replicate n []) r) ≡ 0
none_long n r = elim (cases_lt r n) [
  | inl lt ↦ ap length (get_or-replicate {A = List ℕ} n r [] [] lt)
  | inr ge ↦ ap length (past (replicate {A = List ℕ} n []) r [] (omega (arith, length-replicate {A = List ℕ} n [])))
]

pub none_apart : (n : ℕ) → AreApart (replicate n [])
none_apart n = record { heads = λ r h. absurd (omega (arith, h, none_long n r)); once = λ r g i j h h' e. absurd (omega (arith, h, none_long n r)) }
