-- A list that is made from another one, item by item.
use Rattle.std.proofs.Common.{◌≡◌, ℕ, suc, ◌+◌, ◌<◌, List, [], ◌∷◌, ◌++◌, length, get_or, drop, ap, sym, add-one, drop-cons, append_assoc}

-- the item at that place comes next
pub next_is : {A : Type 0} (all : List A) (i : ℕ) (x : A) → i < length all → x ≡ get_or all i x → drop i all ≡ x ∷ drop (i + 1) all
next_is all i x h is = rw (add-one i, drop-cons all i x) (ap (λ y. y ∷ drop (suc i) all) (sym is))

-- one item more is as it was
pub one_more : {A : Type 0} (made now all whole : List A) (i : ℕ) (x y : A) → i < length all → x ≡ get_or all i x → y ≡ x → now ≡ made ++ y ∷ [] →
    made ++ drop i all ≡ whole → now ++ drop (i + 1) all ≡ whole
one_more made now all whole i x y h is same n inv =
    let e = next_is all i x h is in
    rw (n, same, append_assoc) (rw e at inv)

-- what comes next was put at the end
pub onto : {A : Type 0} (made now first rest left whole : List A) → now ≡ made ++ first → left ≡ first ++ rest → made ++ left ≡ whole → now ++ rest ≡ whole
onto made now first rest left whole n e inv = rw (n, append_assoc) (rw e at inv)
