-- The first that passes a test, looked for one by one.
use Rattle.std.proofs.Common.{◌≡◌, ◌∙◌, ◌↔◌, ℕ, ◌+◌, ◌<◌, Bool, true, false, true≢false, List, length, drop, get_or, find, cond, Some, None, ap, refl, sym}
use Rattle.std.specs.Prelude.{IsTrue}
use Rattle.std.specs.Option.{option_or}
use Rattle.std.specs.List.{flat_map}
use Rattle.std.specs.Str.{bytes_eq}
use Rattle.std.proofs.lemmas.Slice.Eq.{bytes_eq-Decides}
use Rattle.std.proofs.lemmas.Bool.{false_from_ne_true}
use Rattle.std.proofs.lemmas.List.{drop_more}
use Rattle.std.proofs.lemmas.List.Folds.{find-append}

-- the next one passes
pub found_next : {X : Type 0} (p : X → Bool) (xs : List X) (i : ℕ) (d : X) → i < length xs → p (get_or xs i d) ≡ true
    → find p (drop i xs) ≡ Some (get_or xs i d)
found_next p xs i d less e = ap (find p) (drop_more xs i d less) ∙ ap (λ b. cond b (Some (get_or xs i d)) (find p (drop (i + 1) xs))) e

-- it does not
pub not_next : {X : Type 0} (p : X → Bool) (xs : List X) (i : ℕ) (d : X) → i < length xs → p (get_or xs i d) ≡ false
    → find p (drop i xs) ≡ find p (drop (i + 1) xs)
not_next p xs i d less e = ap (find p) (drop_more xs i d less) ∙ ap (λ b. cond b (Some (get_or xs i d)) (find p (drop (i + 1) xs))) e

-- the one that passes is in the next list, or in those after it
in_next : {X Y : Type 0} (p : X → Bool) (f : Y → List X) (ys : List Y) (i : ℕ) (d : Y) → i < length ys
    → find p (flat_map f (drop i ys)) ≡ option_or (find p (f (get_or ys i d))) (find p (flat_map f (drop (i + 1) ys)))
in_next p f ys i d less =
    ap (λ rest. find p (flat_map f rest)) (drop_more ys i d less) ∙ find-append p (f (get_or ys i d)) (flat_map f (drop (i + 1) ys))

-- a test that is true exactly where two texts are the same is the definition's
pub same_test : (test : Bool) (a b : List ℕ) → (IsTrue test ↔ (a ≡ b)) → test ≡ bytes_eq a b
same_test true a b h = sym ((bytes_eq-Decides a b).1 (h.0 refl))
same_test false a b h = sym (false_from_ne_true (bytes_eq a b) (λ e. true≢false (sym (h.1 ((bytes_eq-Decides a b).0 e)))))

-- no rule of the next list passes
pub none_in_next : {X Y : Type 0} (p : X → Bool) (f : Y → List X) (ys : List Y) (i : ℕ) (d : Y) → i < length ys → find p (f (get_or ys i d)) ≡ None
    → find p (flat_map f (drop i ys)) ≡ find p (flat_map f (drop (i + 1) ys))
none_in_next p f ys i d less e = in_next p f ys i d less ∙ ap (λ o. option_or o (find p (flat_map f (drop (i + 1) ys)))) e

-- one does
pub some_in_next : {X Y : Type 0} (p : X → Bool) (f : Y → List X) (ys : List Y) (i : ℕ) (d : Y) (x : X) → i < length ys
    → find p (f (get_or ys i d)) ≡ Some x
    → find p (flat_map f (drop i ys)) ≡ Some x
some_in_next p f ys i d x less e = in_next p f ys i d less ∙ ap (λ o. option_or o (find p (flat_map f (drop (i + 1) ys)))) e
