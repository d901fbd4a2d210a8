-- The line of a key for which there is no rule.
use Rattle.std.proofs.Common.{◌≡◌, Bool, true, false, not, List, [], ◌∷◌, ◌++◌, ℕ, map, ap, sym, codes, true≢false}
use Rattle.gq_scenario.specs.Table_keys.{UnknownKey}
use Rattle.gq_scenario.specs.Top_table.{document_text, key_word}
use Rattle.gq_faults.specs.Found_lists.{when}

-- where no rule is for the key, what is found is its line alone, by the word that is printed for it
pub unknown_line : (ruled : Bool) → ruled ≡ false → (key printed : List ℕ) → printed ≡ key_word key
    → map document_text (when (not ruled) (UnknownKey key)) ≡ (codes "S4 UnknownKey " ++ printed) ∷ []
unknown_line true e key printed same = absurd (true≢false e)
unknown_line false e key printed same = ap (λ w. (codes "S4 UnknownKey " ++ w) ∷ []) (sym same)
