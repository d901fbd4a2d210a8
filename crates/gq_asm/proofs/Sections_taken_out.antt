-- Sections, one taken out at a time.
use Rattle.std.proofs.Common.{◌≡◌, ◌<◌, ◌+◌, ℕ, suc, true, false, not, List, [], ◌∷◌, ◌++◌, length, get_or, take, drop, Some, None, refl}
use Rattle.std.proofs.Common.{sym, ap, ◌∙◌, add-one, drop-cons, append_assoc, append-nil}
use Rattle.std.proofs.lemmas.Bool.{and_parts, not-true}
use Rattle.gq_model.specs.declared.section.Section.{Section}
use Rattle.gq_model.specs.declared.section.Section.TheVariants.{Main}
use Rattle.gq_model.specs.machine.Program.{Statements, section_in}
use Rattle.gq_model.specs.machine.Sections.{same_section}
use Rattle.gq_model.specs.texts.Text.{section_entry, in_order}
use Rattle.gq_asm.specs.internal.Section_order.{without, IsFirstAt, differs_from, is_distinct}
use Rattle.gq_asm.proofs.Pieces_at_start.{by_test}
use Rattle.gq_model.proofs.Rules_laws.{same_section_is}

pub first_here : (s : Section) (given : List (Section × Statements)) (i : ℕ) (x : Section × Statements) → i < length given → x ≡ get_or given i x →
    same_section s x.0 ≡ true → section_in s (drop i given) ≡ section_in s given → take i given ++ without s (drop i given) ≡ without s given →
    IsFirstAt s given i
first_here s given i x h is same a b =
    let e : drop i given ≡ x ∷ drop (suc i) given = rw (drop-cons given i x) (ap (λ y. y ∷ drop (suc i) given) (sym is)) in
    let found : section_in s (drop i given) ≡ Some x.1 = rw e (rw same refl) in
    let rest : without s (drop i given) ≡ drop (suc i) given = rw e (rw same refl) in
    record {
      inside = h;
      found =
          λ d. sym a ∙ found ∙
          (let k : drop i given ≡ get_or given i d ∷ drop (suc i) given = drop-cons given i d h in let j : x ≡ get_or given i d = cc in ap (λ y. Some y.1) j);
      rest = rw rest at b;
    }

pub section_in-without : (s t : Section) (given : List (Section × Statements)) → same_section t s ≡ false → section_in t (without s given) ≡ section_in t given
section_in-without s t [] h = refl
section_in-without s t (p ∷ rest) h =
    by_test (same_section s p.0)
    (λ e. let k : same_section t p.0 ≡ false = rw (← same_section_is s p.0 e) h in rw e (rw k refl))
    (λ e. rw e (rw (section_in-without s t rest h) refl))

pub in_order-without : (s : Section) (given : List (Section × Statements)) (order : List Section) → differs_from s order ≡ true →
    in_order (without s given) order ≡ in_order given order
in_order-without s given [] h = refl
in_order-without s given (t ∷ rest) h =
    let k = and_parts (not (same_section t s)) (differs_from s rest) h in
    rw (section_in-without s t given (not-true (same_section t s) k.0), in_order-without s given rest k.1) refl

pub order_step : (given sections after : List (Section × Statements)) (order : List Section) (i : ℕ) (s d : Section) → i < length order → s ≡ get_or order i d →
    is_distinct (drop i order) ≡ true → after ≡ sections ++ section_entry s (section_in s given) →
    (after ++ in_order (without s given) (drop (i + 1) order) ≡ sections ++ in_order given (drop i order)) × (is_distinct (drop (i + 1) order) ≡ true)
order_step given sections after order i s d h is distinct now =
    let e : drop i order ≡ s ∷ drop (suc i) order = rw (drop-cons order i d) (ap (λ y. y ∷ drop (suc i) order) (sym is)) in
    let k = and_parts (differs_from s (drop (suc i) order)) (is_distinct (drop (suc i) order)) (rw e at distinct) in
    (rw (add-one i, e, now, in_order-without s given (drop (suc i) order) k.0, append_assoc) refl, rw (add-one i) k.1)

pub order_some : (given left sections after : List (Section × Statements)) (whole : List (Section × Statements)) (order : List Section) (i : ℕ)
    (body : Statements) → i < length order → (sections ++ in_order given (drop i order) ≡ whole) × (is_distinct (drop i order) ≡ true) →
    Some body ≡ section_in (get_or order i Main) given → left ≡ without (get_or order i Main) given → after ≡ sections ++ (get_or order i Main, body) ∷ [] →
    (after ++ in_order left (drop (i + 1) order) ≡ whole) × (is_distinct (drop (i + 1) order) ≡ true)
order_some given left sections after whole order i body h k found rest now =
    let step =
    order_step given sections after order i (get_or order i Main) Main h refl k.1 (now ∙ ap (λ o. sections ++ section_entry (get_or order i Main) o) found)
    in
    (rw rest (step.0 ∙ k.0), step.1)

pub order_none : (given left sections after : List (Section × Statements)) (whole : List (Section × Statements)) (order : List Section) (i : ℕ) →
    i < length order → (sections ++ in_order given (drop i order) ≡ whole) × (is_distinct (drop i order) ≡ true) →
    None ≡ section_in (get_or order i Main) given → left ≡ without (get_or order i Main) given → after ≡ sections →
    (after ++ in_order left (drop (i + 1) order) ≡ whole) × (is_distinct (drop (i + 1) order) ≡ true)
order_none given left sections after whole order i h k found rest now =
    let step =
    order_step given sections after order i (get_or order i Main) Main h refl k.1
    (now ∙ (sym (append-nil sections) ∙ ap (λ o. sections ++ section_entry (get_or order i Main) o) found)) in
    (rw rest (step.0 ∙ k.0), step.1)
