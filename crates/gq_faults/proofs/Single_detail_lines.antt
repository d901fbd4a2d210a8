-- Texts without line feeds, and lines of details.
use Rattle.std.proofs.Common.{◌≡◌, ◌==◌, ℕ, Bool, true, false, not, cond, List, [], ◌∷◌, ◌++◌, filter, refl, ap, sym, ◌∙◌, append_assoc, append-nil, arith}
use Rattle.std.proofs.lemmas.Bool.Decides.{nat_tests}
use Rattle.gq_faults.specs.Details.{IsSingle, AreSingle, indented, AreDetails}

abbrev kept : ℕ → Bool
kept c = not (c == 10)

single_filtered : (words : List ℕ) → IsSingle (filter kept words)
single_filtered [] = tt
single_filtered (c ∷ rest) = by (c == 10) refl (single_filtered rest)
  where
    by : (b : Bool) → (c == 10) ≡ b → IsSingle (filter kept rest) → IsSingle (cond (not b) (c ∷ filter kept rest) (filter kept rest))
    by true e h = h
    by false e h = (grind (arith, nat_tests), h)

single_more : (details : List (List ℕ)) (words : List ℕ) → AreSingle details → IsSingle words → AreSingle (details ++ words ∷ [])
single_more [] words h k = (k, tt)
single_more (d ∷ rest) words h k = (h.0, single_more rest words h.1 k)

indented_more : (details : List (List ℕ)) (words : List ℕ) → indented (details ++ words ∷ []) ≡ indented details ++ (32 ∷ 32 ∷ words ++ 10 ∷ [])
indented_more [] words = append-nil (32 ∷ 32 ∷ words ++ 10 ∷ [])
indented_more (d ∷ rest) words =
    ap (λ l. (32 ∷ 32 ∷ d ++ 10 ∷ []) ++ l) (indented_more rest words)
    ∙ sym (append_assoc (32 ∷ 32 ∷ d ++ 10 ∷ []) (indented rest) (32 ∷ 32 ∷ words ++ 10 ∷ []))

-- details and one line more
pub more_details : (lines words more : List ℕ) → AreDetails lines → more ≡ ((lines ++ (32 ∷ 32 ∷ [])) ++ filter kept words) ++ 10 ∷ [] → AreDetails more
more_details lines words more h e = record {
  details = h.details ++ filter kept words ∷ [];
  single = single_more h.details (filter kept words) h.single (single_filtered words);
  is =
      e ∙ (append_assoc (lines ++ (32 ∷ 32 ∷ [])) (filter kept words) (10 ∷ [])
      ∙ (append_assoc lines (32 ∷ 32 ∷ []) (filter kept words ++ 10 ∷ [])
      ∙ (ap (λ l. l ++ (32 ∷ 32 ∷ filter kept words ++ 10 ∷ [])) h.is ∙ sym (indented_more h.details (filter kept words)))));
}
