-- The lines of statements as a text that grows at its end.
use Rattle.std.proofs.Common.{◌≡◌, ◌∙◌, ℕ, suc, ◌+◌, ◌<◌, List, [], ◌∷◌, ◌++◌, length, get_or, drop, ap, sym, refl, arith, append_assoc, append-nil}
use Rattle.std.proofs.Common.{codes}
use Rattle.gq_model.specs.machine.Program.{Statements, Done}
use Rattle.gq_model.specs.machine.Program as program
use Rattle.gq_program.specs.Statement_trees.{tree_of}
use Rattle.gq_program.specs.declared.program_tree.Statement.{Statement}
use Rattle.gq_program.specs.declared.program_tree.Statement.TheVariants.{Plain, If, Loop}
use Rattle.gq_program.proofs.Statement_list_sizes.{here_is}
use Rattle.gq_views.specs.Listing.{indented, joined, line, loop_text, other_lines, statements_lines}

pub joined_append : (a b : List (List ℕ)) → joined (a ++ b) ≡ joined a ++ joined b
joined_append [] b = refl
joined_append (l ∷ a) b =
    ap (λ t. l ++ 10 ∷ t) (joined_append a b) ∙ sym (append_assoc l (10 ∷ joined a) (joined b))

-- a line before others
pub line_before : (d : ℕ) (t : List ℕ) (rest : List (List ℕ)) → joined (indented d t ∷ rest) ≡ line d t ++ joined rest
line_before d t rest = joined_append (indented d t ∷ []) rest

-- STATEMENTS

lines_first : (d : ℕ) (st : Statement) (rest : List Statement)
    → statements_lines d (tree_of (st ∷ rest)) ≡ statements_lines d (tree_of (st ∷ [])) ++ statements_lines d (tree_of rest)
lines_first d (Plain i) rest = refl
lines_first d (If arm other) rest =
    ap (λ t. indented d (codes "if") ∷ t) (sym (append_assoc (statements_lines (suc d) arm ++ other_lines d other (statements_lines (suc d) other))
    (indented d (codes "end") ∷ []) (statements_lines d (tree_of rest))))
lines_first d (Loop count body) rest =
    ap (λ t. indented d (loop_text count) ∷ t) (sym (append_assoc (statements_lines (suc d) body) (indented d (codes "end") ∷ []) (statements_lines d
    (tree_of rest))))

-- the text of what is left is that of the statement that stands there and that of what follows
pub text_here : (d : ℕ) (items : List Statement) (i : ℕ) (st : Statement) → i < length items → st ≡ get_or items i st
    → joined (statements_lines d (tree_of (drop i items)))
    ≡ joined (statements_lines d (tree_of (st ∷ []))) ++ joined (statements_lines d (tree_of (drop (i + 1) items)))
text_here d items i st h e =
    ap (λ l. joined (statements_lines d (tree_of l))) (here_is items i st h e)
    ∙ (ap joined (lines_first d st (drop (i + 1) items))
    ∙ joined_append (statements_lines d (tree_of (st ∷ []))) (statements_lines d (tree_of (drop (i + 1) items))))

-- what is put at the end stands before what is left
pub grown : {A : Type 0} (old more first rest left : List A) → more ≡ old ++ first → left ≡ first ++ rest → more ++ rest ≡ old ++ left
grown old more first rest left e h = rw (e, h) (append_assoc old first rest)

-- BLOCKS

module _ (d e : ℕ) (deeper : e ≡ d + 1) where
  inside : e ≡ suc d
  inside = omega (arith, deeper)

  pub if_text : (arm other : Statements) (t u v w x : List ℕ) → u ≡ t ++ line d (codes "if") → v ≡ u ++ joined (statements_lines e arm)
      → w ≡ v ++ joined (other_lines d other (statements_lines e other)) → x ≡ w ++ line d (codes "end")
      → x ≡ t ++ joined (statements_lines d (program.If arm other Done))
  if_text arm other t u v w x p q r s =
      let a = statements_lines e arm in
      let o = other_lines d other (statements_lines e other) in
      let whole : joined (statements_lines d (program.If arm other Done)) ≡ line d (codes "if") ++ (joined a ++ (joined o ++ line d (codes "end"))) =
      ap (λ n. joined (indented d (codes "if") ∷ ((statements_lines n arm ++ other_lines d other (statements_lines n other)) ++ indented d (codes "end") ∷ [])))
      (sym inside)
      ∙ (line_before d (codes "if") ((a ++ o) ++ indented d (codes "end") ∷ [])
      ∙ ap (λ l. line d (codes "if") ++ l) (joined_append (a ++ o) (indented d (codes "end") ∷ [])
      ∙ (ap (λ l. l ++ line d (codes "end")) (joined_append a o) ∙ append_assoc (joined a) (joined o) (line d (codes "end"))))) in
      four t (line d (codes "if")) (joined a) (joined o) (line d (codes "end")) u v w x p q r s ∙ ap (λ l. t ++ l) (sym whole)
    where
      four : (t a b c f u v w x : List ℕ) → u ≡ t ++ a → v ≡ u ++ b → w ≡ v ++ c → x ≡ w ++ f → x ≡ t ++ (a ++ (b ++ (c ++ f)))
      four t a b c f u v w x p q r s = rw (s, r, q, p) (simp append_assoc)

  pub loop_text_is : (count : ℕ) (body : Statements) (t u v x : List ℕ) → u ≡ t ++ line d (loop_text count) → v ≡ u ++ joined (statements_lines e body)
      → x ≡ v ++ line d (codes "end")
      → x ≡ t ++ joined (statements_lines d (program.Loop count body Done))
  loop_text_is count body t u v x p q r =
      let b = statements_lines e body in
      let whole : joined (statements_lines d (program.Loop count body Done)) ≡ line d (loop_text count) ++ (joined b ++ line d (codes "end")) =
      ap (λ n. joined (indented d (loop_text count) ∷ (statements_lines n body ++ indented d (codes "end") ∷ []))) (sym inside)
      ∙ (line_before d (loop_text count) (b ++ indented d (codes "end") ∷ [])
      ∙ ap (λ l. line d (loop_text count) ++ l) (joined_append b (indented d (codes "end") ∷ []))) in
      three t (line d (loop_text count)) (joined b) (line d (codes "end")) u v x p q r ∙ ap (λ l. t ++ l) (sym whole)
    where
      three : (t a b f u v x : List ℕ) → u ≡ t ++ a → v ≡ u ++ b → x ≡ v ++ f → x ≡ t ++ (a ++ (b ++ f))
      three t a b f u v x p q r = rw (r, q, p) (simp append_assoc)

-- the second arm is reported where it has statements
module _ (d : ℕ) (lines : List (List ℕ)) where
  printed_other : (st : Statement) (rest : List Statement) → other_lines d (tree_of (st ∷ rest)) lines ≡ indented d (codes "else") ∷ lines
  printed_other (Plain i) rest = refl
  printed_other (If arm other) rest = refl
  printed_other (Loop count body) rest = refl

  pub other_text : (items : List Statement) → 0 < length items → (t u x : List ℕ) → u ≡ t ++ line d (codes "else") → x ≡ u ++ joined lines
      → x ≡ t ++ joined (other_lines d (tree_of items) lines)
  other_text [] h t u x p q = absurd (omega (arith, h))
  other_text (st ∷ rest) h t u x p q =
      rw (q, p) (append_assoc t (line d (codes "else")) (joined lines)
      ∙ ap (λ l. t ++ l) (sym (ap joined (printed_other st rest) ∙ line_before d (codes "else") lines)))

  pub no_other : (items : List Statement) → length items ≡ 0 → (t : List ℕ) → t ≡ t ++ joined (other_lines d (tree_of items) lines)
  no_other [] h t = sym (append-nil t)
  no_other (st ∷ rest) h t = absurd (omega (arith, h))
