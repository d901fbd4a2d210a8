-- What comes next at the places of the sections of a program.
use Rattle.std.proofs.Common.{◌≡◌, ℕ, zero, suc, ◌+◌, ◌<◌, ◌≤◌, inl, inr, true, false, ◌&&◌, List, [], ◌∷◌, ◌++◌, length, drop, get_or}
use Rattle.std.proofs.Common.{Option, Some, refl, ap, sym, ◌∙◌, subst, arith}
use Rattle.std.specs.Prelude.{if◌then◌else◌, slice_get, sum_by, nat_le, ◌==◌}
use Rattle.std.proofs.lemmas.Bool.{and_parts, cases_lt, leb-true}
use Rattle.std.proofs.lemmas.List.{get_or_past}
use Rattle.std.proofs.lemmas.List.Sums.{sum_by-cons}
use Rattle.std.proofs.lemmas.Option.{slice_get-get_or}
use Rattle.gq_model.specs.declared.section.Section.{Section}
use Rattle.gq_model.specs.machine.Lists.{all_of, between}
use Rattle.gq_model.specs.machine.Program.{Program, Statements, body_of, section_in, size}
use Rattle.gq_model.specs.machine.Sections.{same_section}
use Rattle.gq_model.specs.texts.Code.{IsProgram, are_sections, greatest_statements}
use Rattle.gq_model.specs.texts.Operands.{greatest_number}
use Rattle.gq_model.proofs.Small_facts.{none_some, some_same}
use Rattle.gq_bytecode.specs.Bytecode_layout.{width}
use Rattle.gq_bytecode.proofs.Numbered_long_statements.{width_size}
use Rattle.gq_outcomes.specs.declared.asks.Asks.{Asks}
use Rattle.gq_outcomes.specs.declared.asks.Asks.TheVariants as asks
use Rattle.gq_outcomes.specs.declared.asks.SectionAsks.{SectionAsks}
use Rattle.gq_outcomes.specs.internal.Asks.{AreOfSections, IsOfSection, asks_of}
use Rattle.gq_outcomes.specs.internal.Left.{ahead_in}
use Rattle.gq_outcomes.proofs.keys.Left.{no_more}

-- one place more
pub each_more : (P : ℕ → Asks → Type 0) (xs : List Asks) (x : Asks) (n : ℕ) → length xs ≡ n → ((k : ℕ) (a : Asks) → slice_get xs k ≡ Some a → P k a) → P n x
    → (k : ℕ) (a : Asks) → slice_get (xs ++ x ∷ []) k ≡ Some a → P k a
each_more P [] x n count each here zero a e = subst (P 0) (some_same e) (subst (λ j. P j x) (sym count) here)
each_more P [] x n count each here (suc k) a e = absurd (none_some e)
each_more P (y ∷ xs) x zero count each here k a e = absurd (omega (arith, count))
each_more P (y ∷ xs) x (suc n) count each here zero a e = each 0 a e
each_more P (y ∷ xs) x (suc n) count each here (suc k) a e =
    each_more (λ j. P (suc j)) xs x n (omega (arith, count)) (λ j. each (suc j)) here k a e

pub count_more : (xs : List Asks) (x : Asks) (n : ℕ) → length xs ≡ n → length (xs ++ x ∷ []) ≡ n + 1
count_more [] x n e = omega (arith, e)
count_more (y ∷ xs) x zero e = absurd (omega (arith, e))
count_more (y ∷ xs) x (suc n) e = let h = count_more xs x n (omega (arith, e)) in omega (arith, h)

module _ (server : List ℕ → Option ℕ) where
  -- one section more
  pub sections_more : (sections : List (Section × Statements)) (found : List SectionAsks) (p : Section × Statements) (s : SectionAsks)
      → AreOfSections server sections found → IsOfSection server p s → AreOfSections server (sections ++ p ∷ []) (found ++ s ∷ [])
  sections_more [] [] p s h here = (here, tt)
  sections_more [] (t ∷ found) p s h here = absurd h
  sections_more (q ∷ sections) [] p s h here = absurd h
  sections_more (q ∷ sections) (t ∷ found) p s h here = (h.0, sections_more sections found p s h.1 here)

  -- the section of a part
  pub part_here : (sections : List (Section × Statements)) (found : List SectionAsks) (k : ℕ) (s : SectionAsks) → AreOfSections server sections found
      → k < length found → s ≡ get_or found k s → (p : Section × Statements) × (drop k sections ≡ p ∷ drop (k + 1) sections) × IsOfSection server p s
  part_here [] [] k s h l e = absurd (omega (arith, l))
  part_here [] (t ∷ found) k s h l e = absurd h
  part_here (q ∷ sections) [] k s h l e = absurd h
  part_here (q ∷ sections) (t ∷ found) zero s h l e = (q, refl, subst (IsOfSection server q) (sym e) h.0)
  part_here (q ∷ sections) (t ∷ found) (suc k) s h l e =
      let r = part_here sections found k s h.1 (omega (arith, l)) e in
      let on : suc (k + 1) ≡ suc k + 1 = omega arith in (r.0, r.1 ∙ ap (λ n. r.0 ∷ drop n (q ∷ sections)) on, r.2)

  pub no_part : (sections : List (Section × Statements)) (found : List SectionAsks) (k : ℕ) → AreOfSections server sections found → length found ≤ k
      → drop k sections ≡ []
  no_part [] [] zero h l = refl
  no_part [] [] (suc k) h l = refl
  no_part [] (t ∷ found) k h l = absurd h
  no_part (q ∷ sections) [] k h l = absurd h
  no_part (q ∷ sections) (t ∷ found) zero h l = absurd (omega (arith, l))
  no_part (q ∷ sections) (t ∷ found) (suc k) h l = no_part sections found k h.1 (omega (arith, l))

  module _ (section : Section) (sections : List (Section × Statements)) (found : List SectionAsks) (k : ℕ) (s : SectionAsks)
      (h : AreOfSections server sections found) (l : k < length found) (e : s ≡ get_or found k s)
      (so_far : section_in section sections ≡ section_in section (drop k sections)) where
    -- another section
    pub part_past : same_section section s.section ≡ false → section_in section sections ≡ section_in section (drop (k + 1) sections)
    part_past other =
        let here = part_here sections found k s h l e in
        let p = here.0 in
        so_far ∙ ap (section_in section) here.1
        ∙ ap (λ b. if b then Some p.1 else section_in section (drop (k + 1) sections)) (sym (ap (same_section section) here.2.section) ∙ other)

    -- this section
    pub part_found : same_section section s.section ≡ true
        → IsOfSection server (section, body_of (section_in section sections)) (record s { section = section })
    part_found this =
        let here = part_here sections found k s h l e in
        let p = here.0 in
        let is = so_far ∙ ap (section_in section) here.1
        ∙ ap (λ b. if b then Some p.1 else section_in section (drop (k + 1) sections)) (sym (ap (same_section section) here.2.section) ∙ this) in
        record {
          section = refl;
          count = here.2.count ∙ ap (λ o. suc (width (body_of o))) (sym is);
          each = λ j a found. here.2.each j a found ∙ ap (λ o. asks_of server (ahead_in (body_of o) j)) (sym is);
        }

    -- what comes next at a place of it
    pub at_place : same_section section s.section ≡ true → (j : ℕ)
        → get_or s.asks.items j asks.Nothing ≡ asks_of server (ahead_in (body_of (section_in section sections)) j)
    at_place this j = elim (cases_lt j (length s.asks.items)) [
      | inl less ↦ (part_found this).each j (get_or s.asks.items j asks.Nothing) (slice_get-get_or s.asks.items j asks.Nothing less)
      | inr past ↦
          let count = (part_found this).count in
          get_or_past s.asks.items j asks.Nothing past
          ∙ ap (asks_of server) (sym (no_more (body_of (section_in section sections)) j (omega (arith, count, past))))
    ]

  -- no section
  pub none_found : (section : Section) (sections : List (Section × Statements)) (found : List SectionAsks) (k j : ℕ) → AreOfSections server sections found
      → length found ≤ k → section_in section sections ≡ section_in section (drop k sections)
      → asks.Nothing ≡ asks_of server (ahead_in (body_of (section_in section sections)) j)
  none_found section sections found k j h l so_far =
      let is = so_far ∙ ap (section_in section) (no_part sections found k h l) in
      ap (λ o. asks_of server (ahead_in (body_of o) j)) (sym is)

-- WIDTHS

few_at : (n : ℕ) (sections : List (Section × Statements)) (i : ℕ) (s : Section × Statements) → sum_by (λ (t : Section × Statements). size t.1) sections ≤ n
    → i < length sections → s ≡ get_or sections i s → size s.1 ≤ n
few_at n [] i s few l e = absurd (omega (arith, l))
few_at n (t ∷ sections) zero s few l e =
    let sum = sum_by-cons (λ (u : Section × Statements). size u.1) t sections in
    let same = ap (λ (u : Section × Statements). size u.1) e in omega (arith, sum, few, same)
few_at n (t ∷ sections) (suc i) s few l e =
    let sum = sum_by-cons (λ (u : Section × Statements). size u.1) t sections in few_at n sections i s (omega (arith, sum, few)) (omega (arith, l)) e

-- no section of a program is wide
pub narrow : (p : Program) → IsProgram p → (i : ℕ) (s : Section × Statements) → i < length p.sections → s ≡ get_or p.sections i s → width s.1 ≤ 65536
narrow p h i s l e =
    let a = length p.locals == 8 && all_of (between 0 greatest_number) p.locals in
    let few = nat_le (sum_by (λ s. size s.1) p.sections) greatest_statements in
    let q = and_parts (a && are_sections 0 p.sections) few h in
    let small = few_at 4096 p.sections i s (leb-true (sum_by (λ s. size s.1) p.sections) greatest_statements q.1) l e in
    let wide = width_size s.1 in omega (arith, small, wide)
