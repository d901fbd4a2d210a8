-- The bytes of sections, one after the other.
use Rattle.std.proofs.Common.{◌≡◌, ℕ, suc, ◌+◌, ◌<◌, List, ◌∷◌, ◌++◌, length, get_or, drop, IsTrue, ap, sym, ◌∙◌, add-one, drop-cons, append_assoc}
use Rattle.gq_model.specs.declared.section.Section.{Section}
use Rattle.gq_model.specs.machine.Program.{Statements, spelled}
use Rattle.gq_model.specs.texts.Code.{body_code, sections_code}
use Rattle.gq_code.specs.Codes.{has_code}
use Rattle.gq_code.specs.internal.Coded_sections.{have_codes}
use Rattle.gq_code.proofs.Coded_statements.{parts}

next_is : (sections : List (Section × Statements)) (i : ℕ) (x : Section × Statements) → i < length sections → x ≡ get_or sections i x →
    drop i sections ≡ x ∷ drop (i + 1) sections
next_is sections i x h is = rw (add-one i, drop-cons sections i x) (ap (λ y. y ∷ drop (suc i) sections) (sym is))

joined : (made number now length_bytes code rest whole : List ℕ) → number ≡ made ++ length_bytes → now ≡ number ++ code →
    made ++ (length_bytes ++ (code ++ rest)) ≡ whole → now ++ rest ≡ whole
joined made number now length_bytes code rest whole e f h = rw (f, e, append_assoc, append_assoc) h

-- the bytes of one section more were put at the end, after their number
pub section_more : (made number now code : List ℕ) (n : ℕ) (whole : List ℕ) (sections : List (Section × Statements)) (i : ℕ) (x : Section × Statements) →
    i < length sections → x ≡ get_or sections i x → number ≡ made ++ spelled 4 n → now ≡ number ++ code → n ≡ length code → code ≡ body_code x.1 →
    made ++ sections_code (drop i sections) ≡ whole → now ++ sections_code (drop (i + 1) sections) ≡ whole
section_more made number now code n whole sections i x h is e f g k inv =
    let rest = sections_code (drop (i + 1) sections) in
    joined made number now (spelled 4 n) code rest whole e f
    (ap (λ m. made ++ (spelled 4 m ++ (code ++ rest))) g
    ∙ (ap (λ (c : List ℕ). made ++ (spelled 4 (length c) ++ (c ++ rest))) k
    ∙ (ap (λ s. made ++ sections_code s) (sym (next_is sections i x h is)) ∙ inv)))

-- those that are left have codes
pub have_more : (sections : List (Section × Statements)) (i : ℕ) (x : Section × Statements) → i < length sections → x ≡ get_or sections i x →
    IsTrue (have_codes (drop i sections)) → IsTrue (have_codes (drop (i + 1) sections))
have_more sections i x h is all = (parts (has_code x.1) (have_codes (drop (i + 1) sections)) (rw (next_is sections i x h is) at all)).1
