-- Items of two lists of which the same is said.
use Rattle.std.proofs.Common.{◌≡◌, ◌<◌, ℕ, List, length, get_or, map, arith, ap, sym, ◌∙◌}
use Rattle.std.proofs.lemmas.List.{get_or-map, length-map}

-- the items at one place are of one kind
pub same_item : {X Y A : Type 0} (f : X → A) (g : Y → A) (xs : List X) (ys : List Y) (i : ℕ) (x : X) (y : Y) → map f xs ≡ map g ys → i < length ys
    → x ≡ get_or xs i x → y ≡ get_or ys i y → f x ≡ g y
same_item f g xs ys i x y e less at_x at_y =
    let n : length xs ≡ length ys = sym (length-map xs f) ∙ (ap length e ∙ length-map ys g) in
    let less_x : i < length xs = omega (arith, less, n) in
    ap f at_x ∙ (sym (get_or-map f xs i x (f x) less_x) ∙ (ap (λ l. get_or l i (f x)) e ∙ (get_or-map g ys i y (f x) less ∙ sym (ap g at_y))))
