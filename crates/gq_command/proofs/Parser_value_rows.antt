-- A value that the parser found, among its rows.
use Rattle.std.proofs.Common.{◌≡◌, ◌∙◌, ℕ, refl, sym, ap, List, [], ◌∷◌, map, Option, Some, None, option_map}
use Rattle.std.specs.Prelude.{option_and_then, slice_get, find}
use Rattle.std.specs.Str.{bytes_eq}
use Rattle.std.specs.Borrow.{Bor}
use Rattle.clap.specs.Facts.{Entry}
use Rattle.clap.specs.Walk.{row_of, first_of, texts}
use Rattle.clap.proofs.WalkLemmas.{find-map}

first_text : (values : List (Bor (List ℕ))) → slice_get (texts values) 0 ≡ option_map (λ s. s.now) (slice_get values 0)
first_text [] = refl
first_text (v ∷ rest) = refl

abbrev pub first_in : List ℕ → List Entry → Option (List ℕ)
first_in id entries =
    option_and_then (λ a. option_map (λ s. s.now) (slice_get a.vals.items 0)) (option_map (λ e. e.1) (find (λ e. bytes_eq e.0.now id) entries))

pub first-row : (id : List ℕ) (entries : List Entry) → first_in id entries ≡ first_of id (map row_of entries)
first-row id entries = go (find (λ e. bytes_eq e.0.now id) entries)
    ∙ ap (option_and_then (λ r. slice_get r.values 0)) (find-map (λ r. bytes_eq r.id id) row_of entries)
  where
    go : (o : Option Entry) → option_and_then (λ a. option_map (λ s. s.now) (slice_get a.vals.items 0)) (option_map (λ e. e.1) o)
        ≡ option_and_then (λ r. slice_get r.values 0) (option_map row_of o)
    go None = refl
    go (Some e) = sym (first_text e.1.vals.items)
