-- A text written a part at a time.
use Rattle.std.proofs.Common.{◌≡◌, ℕ, ◌+◌, ◌<◌, List, [], ◌∷◌, ◌++◌, length, take, drop, get_or, Option, ap, sym, ◌∙◌, subst, append_assoc, append-nil}
use Rattle.std.specs.List.{flat_map}
use Rattle.std.specs.Io.KnownBytes.{Appends}
use Rattle.std.proofs.lemmas.Grind.{flat_map-append}
use Rattle.std.proofs.lemmas.List.{take-append-drop, take_more}
use Rattle.std.proofs.Math.Seq.{take-append_seam}
use Rattle.gq_output.specs.Writes.{IsPrefix}
use Rattle.gq_output.proofs.Written_byte_facts.{appends_both}

-- the parts up to the next one, and those of which it is the next
parts_more : {X : Type 0} (f : X → List ℕ) (xs : List X) (i : ℕ) (d : X) → i < length xs
    → flat_map f (take (i + 1) xs) ≡ flat_map f (take i xs) ++ f (get_or xs i d)
parts_more f xs i d less =
    ap (flat_map f) (take_more xs i d less)
    ∙ (flat_map-append f (take i xs) (get_or xs i d ∷ []) ∙ ap (λ t. flat_map f (take i xs) ++ t) (append-nil (f (get_or xs i d))))

parts_all : {X : Type 0} (f : X → List ℕ) (xs : List X) (i : ℕ) (d : X) → i < length xs
    → flat_map f xs ≡ flat_map f (take i xs) ++ (f (get_or xs i d) ++ flat_map f (drop (i + 1) xs))
parts_all f xs i d less =
    ap (flat_map f) (sym (take-append-drop (i + 1) xs))
    ∙ (flat_map-append f (take (i + 1) xs) (drop (i + 1) xs)
    ∙ (ap (λ t. t ++ flat_map f (drop (i + 1) xs)) (parts_more f xs i d less)
    ∙ append_assoc (flat_map f (take i xs)) (f (get_or xs i d)) (flat_map f (drop (i + 1) xs))))

-- what a text begins with is a prefix of it
prefix_by : (old new : Option (List ℕ)) (begun rest text : List ℕ) → Appends old new begun → text ≡ begun ++ rest → IsPrefix old new text
prefix_by old new begun rest text h e = (length begun, subst (Appends old new) (sym (ap (take (length begun)) e ∙ take-append_seam begun rest)) h)

-- one part more was written
pub part_written : {X : Type 0} (f : X → List ℕ) (xs : List X) (i : ℕ) (d : X) → i < length xs → (old between new : Option (List ℕ))
    → Appends old between (flat_map f (take i xs)) → Appends between new (f (get_or xs i d)) → Appends old new (flat_map f (take (i + 1) xs))
part_written f xs i d less old between new h k =
    subst (Appends old new) (sym (parts_more f xs i d less))
    (appends_both old between new (flat_map f (take i xs)) (f (get_or xs i d)) h k)

-- a prefix of the next part was written
pub prefix_written : {X : Type 0} (f : X → List ℕ) (xs : List X) (i : ℕ) (d : X) → i < length xs → (old between new : Option (List ℕ))
    → Appends old between (flat_map f (take i xs)) → IsPrefix between new (f (get_or xs i d)) → IsPrefix old new (flat_map f xs)
prefix_written f xs i d less old between new h prefix =
    let k = prefix.0 in
    let begun = flat_map f (take i xs) in
    let part = f (get_or xs i d) in
    let rest = flat_map f (drop (i + 1) xs) in
    let whole : begun ++ (part ++ rest) ≡ (begun ++ take k part) ++ (drop k part ++ rest) =
    ap (λ p. begun ++ (p ++ rest)) (sym (take-append-drop k part))
    ∙ (ap (λ l. begun ++ l) (append_assoc (take k part) (drop k part) rest) ∙ sym (append_assoc begun (take k part) (drop k part ++ rest))) in
    prefix_by old new (begun ++ take k part) (drop k part ++ rest) (flat_map f xs) (appends_both old between new begun (take k part) h prefix.1)
    (parts_all f xs i d less ∙ whole)
