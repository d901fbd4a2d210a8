-- The lines of a text that begin with some bytes, piece by piece.
use Rattle.std.proofs.Common.{◌≡◌, ◌∙◌, ◌==◌, ℕ, ◌+◌, Bool, true, false, List, [], ◌∷◌, ◌++◌, length, refl, ap, sym, subst, arith}
use Rattle.std.proofs.Common.{append_assoc, append-nil, length-append}
use Rattle.std.specs.Prelude.{◌&&◌, if◌then◌else◌}
use Rattle.std.proofs.lemmas.Bool.{and_parts}
use Rattle.std.proofs.lemmas.Bool.Decides.{nat_tests}
use Rattle.gq_model.specs.machine.Lists.{all_of}
use Rattle.gq_views.specs.Listing.{joined}
use Rattle.gq_views.proofs.Listed_lines.{is_printed, none_from, pieces_prefix}
use Rattle.gq_traces.specs.Lines_of.{beginning, begins, lines_of}
use Rattle.gq_traces.proofs.Printed_numbers.{IsPrinted}

-- LINES

-- a text that is one line
pub record IsLine (text : List ℕ) : Type 0 where
  pub line : List ℕ
  pub printed : IsPrinted line
  pub is : text ≡ line ++ 10 ∷ []

-- whether it begins so does not hang on its end
begins_line : (prefix line : List ℕ) → IsPrinted prefix → begins prefix (line ++ 10 ∷ []) ≡ begins prefix line
begins_line [] line h = refl
begins_line (c ∷ prefix) [] h =
    let t = and_parts (is_printed c) (all_of is_printed prefix) h in
    let other : (c == 10) ≡ false = grind (arith, nat_tests) in ap (λ (b : Bool). b && begins prefix []) other
begins_line (c ∷ prefix) (d ∷ line) h =
    let t = and_parts (is_printed c) (all_of is_printed prefix) h in ap (λ (b : Bool). (c == d) && b) (begins_line prefix line t.1)

-- TEXTS

joined_both : (xs ys : List (List ℕ)) → joined (xs ++ ys) ≡ joined xs ++ joined ys
joined_both [] ys = refl
joined_both (x ∷ xs) ys = ap (λ (t : List ℕ). x ++ 10 ∷ t) (joined_both xs ys) ∙ sym (append_assoc x (10 ∷ joined xs) (joined ys))

-- whole lines, of which so many begin so, which are these together
pub record Gives (prefix text kept : List ℕ) (count : ℕ) : Type 0 where
  pub found : List (List ℕ)
  pub more : (rest : List ℕ) → lines_of prefix (text ++ rest) ≡ found ++ lines_of prefix rest
  pub joins : joined found ≡ kept
  pub counts : length found ≡ count

pub gives_nothing : (prefix : List ℕ) → Gives prefix [] [] 0
gives_nothing prefix = record { found = []; more = λ rest. refl; joins = refl; counts = refl }

pub gives_both : (prefix a b k l : List ℕ) (n m : ℕ) → Gives prefix a k n → Gives prefix b l m → Gives prefix (a ++ b) (k ++ l) (n + m)
gives_both prefix a b k l n m h g = record {
  found = h.found ++ g.found;
  more = λ rest.
      ap (lines_of prefix) (append_assoc a b rest) ∙ h.more (b ++ rest) ∙ ap (λ (t : List (List ℕ)). h.found ++ t) (g.more rest)
      ∙ sym (append_assoc h.found g.found (lines_of prefix rest));
  joins = joined_both h.found g.found ∙ ap (λ t. t ++ joined g.found) h.joins ∙ ap (λ t. k ++ t) g.joins;
  counts = length-append h.found g.found ∙ ap (λ i. i + length g.found) h.counts ∙ ap (λ i. n + i) g.counts;
}

pub gives_text : (prefix a b k : List ℕ) (n : ℕ) → a ≡ b → Gives prefix a k n → Gives prefix b k n
gives_text prefix a b k n e h = subst (λ t. Gives prefix t k n) e h

pub gives_as : (prefix a k l : List ℕ) (n m : ℕ) → k ≡ l → n ≡ m → Gives prefix a k n → Gives prefix a l m
gives_as prefix a k l n m e f h = subst (λ i. Gives prefix a l i) f (subst (λ t. Gives prefix a t n) e h)

module _ (prefix : List ℕ) (plain : IsPrinted prefix) where
  next_line : (text rest : List ℕ) (h : IsLine text)
      → lines_of prefix (text ++ rest) ≡ (if begins prefix h.line then h.line ∷ lines_of prefix rest else lines_of prefix rest)
  next_line text rest h =
      ap (λ t. lines_of prefix (t ++ rest)) h.is ∙ ap (lines_of prefix) (append_assoc h.line (10 ∷ []) rest)
      ∙ ap (beginning prefix)
      (pieces_prefix (λ c. c == 10) 10 refl h.line rest (none_from is_printed (λ c. c == 10) (λ c p. grind (arith, nat_tests)) h.line h.printed))

  starts : (text : List ℕ) (h : IsLine text) (b : Bool) → begins prefix text ≡ b → begins prefix h.line ≡ b
  starts text h b e = sym (begins_line prefix h.line plain) ∙ ap (begins prefix) (sym h.is) ∙ e

  -- a line that begins so
  pub gives_line : (text : List ℕ) → IsLine text → begins prefix text ≡ true → Gives prefix text text 1
  gives_line text h e = record {
    found = h.line ∷ [];
    more = λ rest. next_line text rest h ∙ ap (λ (b : Bool). if b then h.line ∷ lines_of prefix rest else lines_of prefix rest) (starts text h true e);
    joins = sym h.is;
    counts = refl;
  }

  -- and one that does not
  pub gives_none : (text : List ℕ) → IsLine text → begins prefix text ≡ false → Gives prefix text [] 0
  gives_none text h e = record {
    found = [];
    more = λ rest. next_line text rest h ∙ ap (λ (b : Bool). if b then h.line ∷ lines_of prefix rest else lines_of prefix rest) (starts text h false e);
    joins = refl;
    counts = refl;
  }

-- of a whole text
pub given : (prefix text kept : List ℕ) (count : ℕ) → Gives prefix text kept count → begins prefix [] ≡ false
    → (joined (lines_of prefix text) ≡ kept) × (length (lines_of prefix text) ≡ count)
given prefix text kept count h e =
    let all : lines_of prefix text ≡ h.found =
    ap (lines_of prefix) (sym (append-nil text)) ∙ h.more [] ∙ ap (λ (b : Bool). h.found ++ (if b then [] ∷ [] else [])) e ∙ append-nil h.found in
    (ap joined all ∙ h.joins, ap length all ∙ h.counts)
