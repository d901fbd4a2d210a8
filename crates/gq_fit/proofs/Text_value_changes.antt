-- Texts with one more value changed.
use Rattle.std.proofs.Common.{◌≡◌, ◌∙◌, ℕ, ◌&&◌, Bool, true, List, [], ◌∷◌, ◌++◌, ap, sym, refl, append_assoc, drop, take}
use Rattle.std.proofs.lemmas.List.{take-append-drop}
use Rattle.std.proofs.lemmas.Bool.{and_parts}
use Rattle.gq_model.specs.machine.Lists.{all_of}
use Rattle.gq_fit.specs.Places.{Lexer, after_bytes, is_place}
use Rattle.gq_fit.specs.Value_edits.{Change, EndsAs, are_placed, is_change, is_spelled, is_value}

-- a text that is put at the end as it is
pub same_put : (with_gifts : Bool) (l : Lexer) (text before after : List ℕ) → after ≡ before ++ text → EndsAs with_gifts l text before after
same_put with_gifts l text before after put =
    record { text = text; differs = record { changes = []; last = text; was = refl; is = refl; values = refl; places = refl }; put = put }

both_true : (a b : Bool) → a ≡ true → b ≡ true → a && b ≡ true
both_true a b x y = λ j. x j && y j

-- a text that was split twice
pub split_twice : (whole kept after value left : List ℕ) (i k : ℕ) → kept ≡ take i whole → after ≡ drop i whole → value ≡ take k after → left ≡ drop k after
    → whole ≡ kept ++ (value ++ left)
split_twice whole kept after value left i k a b c d =
    sym (take-append-drop i whole)
    ∙ ((λ j. sym a j ++ sym b j) ∙ ap (λ t. kept ++ t) (sym (take-append-drop k after) ∙ (λ j. sym c j ++ sym d j)))

-- what was tested is a change
pub changed : (is : Bool) (old new : List ℕ) → is ≡ true → is ≡ (is_value old && is_spelled new) → (is_value old ≡ true) × (is_spelled new ≡ true)
changed is old new holds same = and_parts (is_value old) (is_spelled new) (sym same ∙ holds)

-- one more change before the others
pub one_more : (with_gifts : Bool) (l there behind : Lexer) (whole kept old new rest before then after : List ℕ) → whole ≡ kept ++ (old ++ rest)
    → is_value old ≡ true → is_spelled new ≡ true → there ≡ after_bytes l kept → behind ≡ after_bytes there old → is_place with_gifts there ≡ true
    → then ≡ (before ++ kept) ++ new → EndsAs with_gifts behind rest then after → EndsAs with_gifts l whole before after
one_more with_gifts l there behind whole kept old new rest before then after was valued spelled is_there is_behind placed put ends =
    let d = ends.differs in
    let change : Change = record { kept = kept; old = old; new = new } in
    record {
      text = kept ++ (new ++ ends.text);
      differs = record {
        changes = change ∷ d.changes;
        last = d.last;
        was = was ∙ ap (λ r. kept ++ (old ++ r)) d.was;
        is = ap (λ r. kept ++ (new ++ r)) d.is;
        values = both_true (is_change change) (all_of is_change d.changes) (both_true (is_value old) (is_spelled new) valued spelled) d.values;
        places =
            both_true (is_place with_gifts (after_bytes l kept)) (are_placed with_gifts (after_bytes (after_bytes l kept) old) d.changes)
            (ap (is_place with_gifts) (sym is_there) ∙ placed)
            (ap (λ b. are_placed with_gifts b d.changes) (ap (λ t. after_bytes t old) (sym is_there) ∙ sym is_behind) ∙ d.places);
      };
      put =
          ends.put
          ∙ (ap (λ t. t ++ ends.text) put
          ∙ (append_assoc (before ++ kept) new ends.text ∙ append_assoc before kept (new ++ ends.text)));
    }
