-- The lines of sections as a text that grows at its end.
use Rattle.std.proofs.Common.{◌≡◌, ◌∙◌, ℕ, suc, ◌+◌, ◌<◌, ◌≤◌, List, [], ◌∷◌, ◌++◌, length, get_or, drop, ap, sym, arith, append_assoc}
use Rattle.std.proofs.Common.{codes, add-one, drop-cons}
use Rattle.std.proofs.lemmas.List.Sums.{sum_by-cons}
use Rattle.gq_model.specs.declared.section.Section.{Section}
use Rattle.gq_model.specs.machine.Program.{Program, Statements, size}
use Rattle.gq_model.specs.machine.Sections.{section_word}
use Rattle.gq_views.specs.internal.Section_statement_counts.{total}
use Rattle.gq_views.specs.Listing.{joined, line, listing, locals_lines, sections_lines, statements_lines}
use Rattle.gq_views.proofs.Printed_statements.{joined_append}

-- a section's lines, one piece after the other
pub section_text : (section : Section) (body : Statements) (t u v w x : List ℕ) → u ≡ t ++ section_word section → v ≡ u ++ 10 ∷ []
    → w ≡ v ++ joined (statements_lines 1 body) → x ≡ w ++ line 0 (codes "end") → x ≡ t ++ joined (sections_lines ((section, body) ∷ []))
section_text section body t u v w x p q r s =
    let inner = statements_lines 1 body in
    three t (section_word section) (joined inner) (line 0 (codes "end")) u v w x p q r s
    ∙ ap (λ l. t ++ (section_word section ++ 10 ∷ l)) (sym (joined_append inner (codes "end" ∷ [])))
  where
    three : (t a b c u v w x : List ℕ) → u ≡ t ++ a → v ≡ u ++ 10 ∷ [] → w ≡ v ++ b → x ≡ w ++ c → x ≡ t ++ (a ++ 10 ∷ (b ++ c))
    three t a b c u v w x p q r s = rw (s, r, q, p) (simp append_assoc)

pub next_is : {A : Type 0} (all : List A) (i : ℕ) (x : A) → i < length all → x ≡ get_or all i x → drop i all ≡ x ∷ drop (i + 1) all
next_is all i x h is = rw (add-one i, drop-cons all i x) (ap (λ y. y ∷ drop (suc i) all) (sym is))

sections_first : (p : Section × Statements) (rest : List (Section × Statements))
    → joined (sections_lines (p ∷ rest)) ≡ joined (sections_lines (p ∷ [])) ++ joined (sections_lines rest)
sections_first p rest =
    ap joined (ap (λ t. section_word p.0 ∷ t) (sym (append_assoc (statements_lines 1 p.1) (codes "end" ∷ []) (sections_lines rest))))
    ∙ joined_append (sections_lines (p ∷ [])) (sections_lines rest)

module _ (all : List (Section × Statements)) (i : ℕ) (p : Section × Statements) (within : i < length all) (is : p ≡ get_or all i p) where
  -- the text of what is left is that of the section that stands there and that of what follows
  pub sections_here : joined (sections_lines (drop i all)) ≡ joined (sections_lines (p ∷ [])) ++ joined (sections_lines (drop (i + 1) all))
  sections_here = ap (λ l. joined (sections_lines l)) (next_is all i p within is) ∙ sections_first p (drop (i + 1) all)

  counted : total (drop i all) ≡ size p.1 + total (drop (i + 1) all)
  counted = ap total (next_is all i p within is) ∙ sum_by-cons (λ q. size q.1) p (drop (i + 1) all)

  -- each section is as few as all that are left, and so is what follows
  pub few_here : (n : ℕ) → total (drop i all) ≤ n → size p.1 ≤ n
  few_here n h = omega (arith, h, counted)

  pub few_after : (n : ℕ) → total (drop i all) ≤ n → total (drop (i + 1) all) ≤ n
  few_after n h = omega (arith, h, counted)

-- locals and sections, one after the other
pub listing_text : (p : Program) (none t u : List ℕ) → none ≡ [] → t ≡ none ++ joined (locals_lines 0 p.locals)
    → u ≡ t ++ joined (sections_lines p.sections) → u ≡ listing p
listing_text p none t u n e h =
    h
    ∙ (ap (λ l. l ++ joined (sections_lines p.sections)) (e ∙ ap (λ l. l ++ joined (locals_lines 0 p.locals)) n)
    ∙ sym (joined_append (locals_lines 0 p.locals) (sections_lines p.sections)))
