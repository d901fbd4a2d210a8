-- The lines of statements of a kind as a text that grows at its end.
use Rattle.std.proofs.Common.{◌≡◌, ◌∙◌, ℕ, suc, ◌+◌, ◌<◌, ◌≤◌, Bool, true, false, cond, List, [], ◌∷◌, ◌++◌}
use Rattle.std.proofs.Common.{map, length, get_or, drop, ap, sym, refl, arith}
use Rattle.std.proofs.Common.{append_assoc, append-nil}
use Rattle.std.proofs.lemmas.List.{map-append}
use Rattle.gq_model.specs.declared.program.Instruction.{Instruction}
use Rattle.gq_model.specs.declared.section.Section.{Section}
use Rattle.gq_model.specs.machine.Program.{Statements, Done, Do, size}
use Rattle.gq_program.specs.Statement_trees.{tree_of}
use Rattle.gq_program.specs.declared.program_tree.Statement.{Statement}
use Rattle.gq_program.specs.declared.program_tree.Statement.TheVariants.{Plain, If, Loop}
use Rattle.gq_program.proofs.Statement_list_sizes.{here_is, size_first}
use Rattle.gq_resolve.proofs.Mapped_list_growth.{next_is, onto}
use Rattle.std.specs.Prelude.{sum_by}
use Rattle.std.proofs.lemmas.List.Sums.{sum_by-cons}
use Rattle.gq_races.specs.Races.{Stated, found_in, each_stated, stated_in}
use Rattle.gq_races.specs.Race_text.{prefix_of, effect_text, opened_text}
use Rattle.gq_races.specs.internal.Kind_lines.{effect_line, opened_line}
use Rattle.gq_views.specs.Listing.{joined}

pub joined_append : (a b : List (List ℕ)) → joined (a ++ b) ≡ joined a ++ joined b
joined_append [] b = refl
joined_append (l ∷ a) b = ap (λ t. l ++ 10 ∷ t) (joined_append a b) ∙ sym (append_assoc l (10 ∷ joined a) (joined b))

module _ (test : Instruction → Bool) (text : ℕ × Instruction → List ℕ) where
  -- these statements and those
  pub texts_append : (a b : List (ℕ × Instruction)) → joined (map text (a ++ b)) ≡ joined (map text a) ++ joined (map text b)
  texts_append a b = ap joined (map-append text a b) ∙ joined_append (map text a) (map text b)

  found_at : (m n : ℕ) (s : Statements) → m ≡ n → found_in test m s ≡ found_in test n s
  found_at m n s e = ap (λ k. found_in test k s) e

  found_first : (n : ℕ) (st : Statement) (rest : List Statement)
      → found_in test n (tree_of (st ∷ rest)) ≡ found_in test n (tree_of (st ∷ [])) ++ found_in test (n + size (tree_of (st ∷ []))) (tree_of rest)
  found_first n (Plain i) rest =
      let here : List (ℕ × Instruction) = cond (test i) ((n, i) ∷ []) [] in
      ap (λ l. here ++ l) (found_at (suc n) (n + 1) (tree_of rest) (omega arith))
      ∙ ap (λ l. l ++ found_in test (n + 1) (tree_of rest)) (sym (append-nil here))
  found_first n (If arm other) rest =
      let a = found_in test (suc n) arm in
      let o = found_in test (suc n + size arm) other in
      ap (λ l. (a ++ o) ++ l) (found_at (suc n + size arm + size other) (n + size (tree_of (If arm other ∷ []))) (tree_of rest) (omega arith))
      ∙ ap (λ l. l ++ found_in test (n + size (tree_of (If arm other ∷ []))) (tree_of rest)) (sym (append-nil (a ++ o)))
  found_first n (Loop count body) rest =
      let b = found_in test (suc n) body in
      ap (λ l. b ++ l) (found_at (suc n + size body) (n + size (tree_of (Loop count body ∷ []))) (tree_of rest) (omega arith))
      ∙ ap (λ l. l ++ found_in test (n + size (tree_of (Loop count body ∷ []))) (tree_of rest)) (sym (append-nil b))

  module _ (items : List Statement) (i : ℕ) (st : Statement) (within : i < length items) (is : st ≡ get_or items i st) where
    -- the lines of what is left are those of the statement that stands there and those of what follows
    pub found_here : (n : ℕ) → joined (map text (found_in test n (tree_of (drop i items))))
        ≡ joined (map text (found_in test n (tree_of (st ∷ []))))
        ++ joined (map text (found_in test (n + size (tree_of (st ∷ []))) (tree_of (drop (i + 1) items))))
    found_here n =
        ap (λ l. joined (map text (found_in test n (tree_of l)))) (here_is items i st within is)
        ∙ (ap (λ l. joined (map text l)) (found_first n st (drop (i + 1) items))
        ∙ texts_append (found_in test n (tree_of (st ∷ []))) (found_in test (n + size (tree_of (st ∷ []))) (tree_of (drop (i + 1) items))))

    -- and so are their numbers
    pub sizes_here : size (tree_of (drop i items)) ≡ size (tree_of (st ∷ [])) + size (tree_of (drop (i + 1) items))
    sizes_here = ap (λ l. size (tree_of l)) (here_is items i st within is) ∙ size_first st (drop (i + 1) items)

    -- a statement's lines were put at the end
    pub statement_put : (n m : ℕ) (old more whole : List ℕ) → m ≡ n + size (tree_of (st ∷ []))
        → more ≡ old ++ joined (map text (found_in test n (tree_of (st ∷ []))))
        → old ++ joined (map text (found_in test n (tree_of (drop i items)))) ≡ whole
        → more ++ joined (map text (found_in test m (tree_of (drop (i + 1) items)))) ≡ whole
    statement_put n m old more whole next put inv =
        let here = joined (map text (found_in test n (tree_of (st ∷ [])))) in
        let after = joined (map text (found_in test (n + size (tree_of (st ∷ []))) (tree_of (drop (i + 1) items)))) in
        rw (put, next) (append_assoc old here after ∙ (ap (λ t. old ++ t) (sym (found_here n)) ∙ inv))

  -- one statement without statements in it
  pub plain_text : (n : ℕ) (i : Instruction) → test i ≡ true
      → joined (map text (found_in test n (Do i Done))) ≡ text (n, i) ++ 10 ∷ []
  plain_text n i e = ap (λ b. joined (map text (cond b ((n, i) ∷ []) [] ++ []))) e

  pub plain_none : (n : ℕ) (i : Instruction) (t : List ℕ) → test i ≡ false
      → t ≡ t ++ joined (map text (found_in test n (Do i Done)))
  plain_none n i t e = sym (ap (λ b. t ++ joined (map text (cond b ((n, i) ∷ []) [] ++ []))) e ∙ append-nil t)

  -- the arms of an `if`
  pub arms_text : (n m k : ℕ) (arm other : Statements) (t u v : List ℕ) → m ≡ n + 1 → k ≡ m + size arm
      → u ≡ t ++ joined (map text (found_in test m arm)) → v ≡ u ++ joined (map text (found_in test k other))
      → v ≡ t ++ joined (map text (found_in test n (tree_of (If arm other ∷ []))))
  arms_text n m k arm other t u v next after p q =
      let first = found_in test (suc n) arm in
      let second = found_in test (suc n + size arm) other in
      let at : m ≡ suc n = omega (arith, next) in
      let there : k ≡ suc n + size arm = omega (arith, next, after) in
      rw (q, p, there, at) (append_assoc t (joined (map text first)) (joined (map text second))
      ∙ ap (λ l. t ++ l) (sym (texts_append first second) ∙ ap (λ l. joined (map text l)) (sym (append-nil (first ++ second)))))

  pub body_text : (n m : ℕ) (count : ℕ) (body : Statements) (t u : List ℕ) → m ≡ n + 1
      → u ≡ t ++ joined (map text (found_in test m body))
      → u ≡ t ++ joined (map text (found_in test n (tree_of (Loop count body ∷ []))))
  body_text n m count body t u next p =
      let at : m ≡ suc n = omega (arith, next) in
      rw (p, at) (ap (λ l. t ++ joined (map text l)) (sym (append-nil (found_in test (suc n) body))))

-- SECTIONS

-- what a statement's line is behind the prefix of its section, and with its leaf and section
module _ (line : List ℕ → ℕ × Instruction → List ℕ) (text : Stated → List ℕ)
    (same : (leaf : List ℕ) (section : Section) (c : ℕ × Instruction)
    → line (prefix_of leaf section) c ≡ text (record { leaf = leaf; section = section; place = c.0; statement = c.1 })) (leaf : List ℕ) where
  pub each_text : (section : Section) (found : List (ℕ × Instruction)) → map (line (prefix_of leaf section)) found ≡ map text (each_stated leaf section found)
  each_text section [] = refl
  each_text section (c ∷ found) = λ e. same leaf section c e ∷ each_text section found e

module _ (test : Section → Instruction → Bool) (line : List ℕ → ℕ × Instruction → List ℕ) (text : Stated → List ℕ)
    (same : (leaf : List ℕ) (section : Section) (c : ℕ × Instruction)
    → line (prefix_of leaf section) c ≡ text (record { leaf = leaf; section = section; place = c.0; statement = c.1 })) (leaf : List ℕ) where
  -- the lines of a section
  pub section_lines : (section : Section) (body : Statements) (prefix t u : List ℕ) → prefix ≡ prefix_of leaf section
      → u ≡ t ++ joined (map (line prefix) (found_in (test section) 1 body)) → u ≡ t ++ joined (map text (stated_in test leaf ((section, body) ∷ [])))
  section_lines section body prefix t u e p =
      let found = found_in (test section) 1 body in
      p
      ∙ (ap (λ f. t ++ joined (map (line f) found)) e
      ∙ (ap (λ l. t ++ joined l) (each_text line text same leaf section found)
      ∙ ap (λ l. t ++ joined (map text l)) (sym (append-nil (each_stated leaf section found)))))

  module _ (all : List (Section × Statements)) (i : ℕ) (p : Section × Statements) (within : i < length all) (is : p ≡ get_or all i p) where
    abbrev reported : List (Section × Statements) → List ℕ
    reported sections = joined (map text (stated_in test leaf sections))

    stated_here : stated_in test leaf (drop i all) ≡ stated_in test leaf (p ∷ []) ++ stated_in test leaf (drop (i + 1) all)
    stated_here =
        ap (stated_in test leaf) (next_is all i p within is)
        ∙ ap (λ l. l ++ stated_in test leaf (drop (i + 1) all)) (sym (append-nil (each_stated leaf p.0 (found_in (test p.0) 1 p.1))))

    printed_here : reported (drop i all) ≡ reported (p ∷ []) ++ reported (drop (i + 1) all)
    printed_here =
        ap (λ l. joined (map text l)) stated_here
        ∙ (ap joined (map-append text (stated_in test leaf (p ∷ [])) (stated_in test leaf (drop (i + 1) all)))
        ∙ joined_append (map text (stated_in test leaf (p ∷ []))) (map text (stated_in test leaf (drop (i + 1) all))))

    pub section_put : (old more whole : List ℕ) → more ≡ old ++ reported (p ∷ []) → old ++ reported (drop i all) ≡ whole → more ++ reported
        (drop (i + 1) all) ≡ whole
    section_put old more whole put inv = onto old more (reported (p ∷ [])) (reported (drop (i + 1) all)) (reported (drop i all)) whole put printed_here inv

module _ (all : List (Section × Statements)) (i : ℕ) (p : Section × Statements) (within : i < length all) (is : p ≡ get_or all i p) where
  counted : sum_by (λ q. size q.1) (drop i all) ≡ size p.1 + sum_by (λ q. size q.1) (drop (i + 1) all)
  counted = ap (sum_by (λ q. size q.1)) (next_is all i p within is) ∙ sum_by-cons (λ q. size q.1) p (drop (i + 1) all)

  -- each section is as few as all that are left, and so is what follows
  pub few_here : (n : ℕ) → sum_by (λ q. size q.1) (drop i all) ≤ n → size p.1 ≤ n
  few_here n h = omega (arith, h, counted)

  pub few_after : (n : ℕ) → sum_by (λ q. size q.1) (drop i all) ≤ n → sum_by (λ q. size q.1) (drop (i + 1) all) ≤ n
  few_after n h = omega (arith, h, counted)

-- races and orders, and where sessions are opened
pub effect_same : (leaf : List ℕ) (section : Section) (c : ℕ × Instruction)
    → effect_line (prefix_of leaf section) c ≡ effect_text (record { leaf = leaf; section = section; place = c.0; statement = c.1 })
effect_same leaf section c = refl

pub opened_same : (leaf : List ℕ) (section : Section) (c : ℕ × Instruction)
    → opened_line (prefix_of leaf section) c ≡ opened_text (record { leaf = leaf; section = section; place = c.0; statement = c.1 })
opened_same leaf section c = refl
