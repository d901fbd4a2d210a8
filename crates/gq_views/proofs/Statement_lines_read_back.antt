-- The lines of statements are read back as the statements.
use Rattle.std.proofs.Common.{◌≡◌, ◌∙◌, ℕ, suc, ◌+◌, ◌-◌, ◌<◌, ◌≤◌, Bool, true, List, [], ◌∷◌, ◌++◌, length, Option, Ok, Err}
use Rattle.std.proofs.Common.{refl, ap, ap₂, sym, subst, arith, append_assoc, length-append}
use Rattle.std.specs.Prelude.{◌&&◌, nat_le, nat_lt, if◌then◌else◌, decimal, codes}
use Rattle.std.proofs.lemmas.Bool.{and_parts, leb-true, lt-ltb, ltb-true}
use Rattle.gq_model.specs.declared.fault.TextFault.TheVariants as fault
use Rattle.gq_model.specs.declared.section.Section.{Section}
use Rattle.gq_model.specs.machine.Lists.{all_of, between}
use Rattle.gq_model.specs.machine.Program.{Statements, Done, Do, If, Loop, ◌then◌, size}
use Rattle.gq_model.specs.texts.Letters.{number_in, words}
use Rattle.gq_model.specs.texts.Operands.{in_range, operands}
use Rattle.gq_model.specs.texts.Code.{greatest_statements, is_body}
use Rattle.gq_model.specs.texts.Spelling.{found}
use Rattle.gq_model.specs.texts.Text.{BlockKind, OpenBlock, Reading, Read, First_arm, Second_arm, Loop_body, at_end, line_read, lines_read}
use Rattle.gq_model.specs.texts.Text.{on_line, opening}
use Rattle.gq_views.specs.Listing.{indented, instruction_text, loop_text, other_lines, statements_lines}
use Rattle.gq_views.proofs.Listed_numbers.{number_of_32}
use Rattle.gq_views.proofs.Listed_lines.{words_indent, word_alone, word_first}
use Rattle.gq_views.proofs.Listed_operands.{number_word}
use Rattle.gq_views.proofs.Listed_reads.{instruction_line}

-- LISTS OF STATEMENTS

pub then_done : (s : Statements) → s then Done ≡ s
then_done Done = refl
then_done (Do i rest) = ap (Do i) (then_done rest)
then_done (If arm other rest) = ap (If arm other) (then_done rest)
then_done (Loop n body rest) = ap (Loop n body) (then_done rest)

pub then_assoc : (a b c : Statements) → (a then b) then c ≡ a then (b then c)
then_assoc Done b c = refl
then_assoc (Do i rest) b c = ap (Do i) (then_assoc rest b c)
then_assoc (If arm other rest) b c = ap (If arm other) (then_assoc rest b c)
then_assoc (Loop n body rest) b c = ap (Loop n body) (then_assoc rest b c)

-- READING ON

-- these lines, of which the first is the k-th, lead from one reading to another, whatever comes after them
abbrev pub LeadsAt : ℕ → Reading → List (List ℕ) → Reading → Type 0
LeadsAt k r ls s = (more : List (List ℕ)) → lines_read r k (ls ++ more) ≡ lines_read s (k + length ls) more

pub leads_none : (k : ℕ) (r s : Reading) → r ≡ s → LeadsAt k r [] s
leads_none k r s e more = ap₂ (λ (t : Reading) (j : ℕ). lines_read t j more) e (omega arith)

pub leads_one : (k : ℕ) (r s : Reading) (l : List ℕ) → line_read r k l (words l) ≡ Ok s → LeadsAt k r (l ∷ []) s
leads_one k r s l h more =
    let e : suc k ≡ k + 1 = omega arith in
    ap (λ (o : Read). on_line k o (λ t. lines_read t (suc k) more)) h ∙ ap (λ (j : ℕ). lines_read s j more) e

pub leads_both : (k : ℕ) (r s t : Reading) (ls ms : List (List ℕ)) → LeadsAt k r ls s → LeadsAt (k + length ls) s ms t → LeadsAt k r (ls ++ ms) t
leads_both k r s t ls ms h g more =
    let e : (k + length ls) + length ms ≡ k + length (ls ++ ms) = omega (arith, length-append ls ms) in
    ap (lines_read r k) (append_assoc ls ms more) ∙ h (ms ++ more) ∙ g more ∙ ap (λ (j : ℕ). lines_read t j more) e

pub leads_to : (k : ℕ) (r s t : Reading) (ls : List (List ℕ)) → LeadsAt k r ls s → s ≡ t → LeadsAt k r ls t
leads_to k r s t ls h e = subst (LeadsAt k r ls) e h

-- BLOCKS

abbrev pub with_more : OpenBlock → Statements → OpenBlock
with_more b s = record b { before = b.before then s }

module _ (L : List (ℕ × ℕ)) (S : List (Section × Statements)) where
  abbrev pub at : ℕ → List OpenBlock → Reading
  at c bs = record { limits = L; sections = S; count = c; blocks = bs }

  abbrev pub opened : BlockKind → ℕ → Statements → OpenBlock
  opened kind k s = record { kind = kind; line = k; before = s }

  same_at : (c e : ℕ) (b : OpenBlock) (s t : Statements) (bs : List OpenBlock) → c ≡ e → s ≡ t
      → at c (record b { before = s } ∷ bs) ≡ at e (record b { before = t } ∷ bs)
  same_at c e b s t bs p q = ap₂ (λ (n : ℕ) (u : Statements). at n (record b { before = u } ∷ bs)) p q

  -- a line that is one word
  word_line : (r : Reading) (k d : ℕ) (w : List ℕ) → words w ≡ w ∷ [] → line_read r k (indented d w) (words (indented d w)) ≡ line_read r k (indented d w)
      (w ∷ [])
  word_line r k d w e = ap (line_read r k (indented d w)) (words_indent d w ∙ e)

  if_line : (k d c : ℕ) (b : OpenBlock) (bs : List OpenBlock) → c < greatest_statements → length (b ∷ bs) < 5
      → LeadsAt k (at c (b ∷ bs)) (indented d (codes "if") ∷ []) (at (suc c) (opened First_arm k Done ∷ b ∷ bs))
  if_line k d c b bs few flat =
      let r = at c (b ∷ bs) in
      let s = at (suc c) (opened First_arm k Done ∷ b ∷ bs) in
      let inner : Read = if nat_lt (length (b ∷ bs)) 5 then Ok s else Err fault.TooLong in
      leads_one k r s (indented d (codes "if")) (word_line r k d (codes "if") refl
      ∙ ap (λ (t : Bool). if t then inner else Err fault.TooLong) (lt-ltb c greatest_statements few)
      ∙ ap (λ (t : Bool). if t then Ok s else Err fault.TooLong) (lt-ltb (length (b ∷ bs)) 5 flat))

  loop_line : (k d c n : ℕ) (b : OpenBlock) (bs : List OpenBlock) → c < greatest_statements → length (b ∷ bs) < 5 → between 1 65535 n ≡ true
      → LeadsAt k (at c (b ∷ bs)) (indented d (loop_text n) ∷ []) (at (suc c) (opened (Loop_body n) k Done ∷ b ∷ bs))
  loop_line k d c n b bs few flat fits =
      let r = at c (b ∷ bs) in
      let s = at (suc c) (opened (Loop_body n) k Done ∷ b ∷ bs) in
      let u = and_parts (nat_le 1 n) (nat_le n 65535) fits in
      let at_most = leb-true n 65535 u.1 in
      let w = number_word n (omega (arith, at_most)) in
      let inside : List (List ℕ) → Read = λ ws. line_read r k (indented d (loop_text n)) (codes "loop" ∷ ws) in
      let number : Read = found (number_in 10 1 65535 (decimal n)) fault.BadNumber (λ m. at_end [] (Ok (opening (at (suc c) (b ∷ bs)) (Loop_body m) k))) in
      let inner : Read = if nat_lt (length (b ∷ bs)) 5 then number else Err fault.TooLong in
      leads_one k r s (indented d (loop_text n)) (
      ap (line_read r k (indented d (loop_text n))) (words_indent d (loop_text n) ∙ word_first 108 (111 ∷ 111 ∷ 112 ∷ []) (decimal n) refl)
      ∙ ap inside (ap words w.is ∙ word_alone w.first w.rest w.solid ∙ ap (λ (t : List ℕ). t ∷ []) (sym w.is))
      ∙ ap (λ (t : Bool). if t then inner else Err fault.TooLong) (lt-ltb c greatest_statements few)
      ∙ ap (λ (t : Bool). if t then number else Err fault.TooLong) (lt-ltb (length (b ∷ bs)) 5 flat)
      ∙ ap (λ (o : Option ℕ). found o fault.BadNumber (λ m. at_end [] (Ok (opening (at (suc c) (b ∷ bs)) (Loop_body m) k))))
      (number_of_32 1 65535 n (omega (arith, at_most)) fits))

  end_if : (k d c j : ℕ) (arm : Statements) (b : OpenBlock) (bs : List OpenBlock)
      → LeadsAt k (at c (opened First_arm j arm ∷ b ∷ bs)) (indented d (codes "end") ∷ []) (at c (with_more b (If arm Done Done) ∷ bs))
  end_if k d c j arm b bs = leads_one k _ _ (indented d (codes "end")) (word_line (at c (opened First_arm j arm ∷ b ∷ bs)) k d (codes "end") refl)

  else_line : (k d c j : ℕ) (arm : Statements) (b : OpenBlock) (bs : List OpenBlock)
      → LeadsAt k (at c (opened First_arm j arm ∷ b ∷ bs)) (indented d (codes "else") ∷ []) (at c (opened (Second_arm arm) j Done ∷ b ∷ bs))
  else_line k d c j arm b bs = leads_one k _ _ (indented d (codes "else")) (word_line (at c (opened First_arm j arm ∷ b ∷ bs)) k d (codes "else") refl)

  end_else : (k d c j : ℕ) (arm other : Statements) (b : OpenBlock) (bs : List OpenBlock)
      → LeadsAt k (at c (opened (Second_arm arm) j other ∷ b ∷ bs)) (indented d (codes "end") ∷ []) (at c (with_more b (If arm other Done) ∷ bs))
  end_else k d c j arm other b bs =
      leads_one k _ _ (indented d (codes "end")) (word_line (at c (opened (Second_arm arm) j other ∷ b ∷ bs)) k d (codes "end") refl)

  end_loop : (k d c j n : ℕ) (body : Statements) (b : OpenBlock) (bs : List OpenBlock)
      → LeadsAt k (at c (opened (Loop_body n) j body ∷ b ∷ bs)) (indented d (codes "end") ∷ []) (at c (with_more b (Loop n body Done) ∷ bs))
  end_loop k d c j n body b bs =
      leads_one k _ _ (indented d (codes "end")) (word_line (at c (opened (Loop_body n) j body ∷ b ∷ bs)) k d (codes "end") refl)

  -- from the end of the first arm to the end of the `if`, where there is a second one
  with_else : (k j d c : ℕ) (b : OpenBlock) (bs : List OpenBlock) (arm other : Statements)
      → LeadsAt (k + 1) (at c (opened (Second_arm arm) j Done ∷ b ∷ bs)) (statements_lines (suc d) other)
      (at (c + size other) (opened (Second_arm arm) j other ∷ b ∷ bs))
      → LeadsAt k (at c (opened First_arm j arm ∷ b ∷ bs)) ((indented d (codes "else") ∷ statements_lines (suc d) other) ++ indented d (codes "end") ∷ [])
      (at (c + size other) (with_more b (If arm other Done) ∷ bs))
  with_else k j d c b bs arm other ih =
      let r0 = at c (opened First_arm j arm ∷ b ∷ bs) in
      let r1 = at c (opened (Second_arm arm) j Done ∷ b ∷ bs) in
      let r2 = at (c + size other) (opened (Second_arm arm) j other ∷ b ∷ bs) in
      let r3 = at (c + size other) (with_more b (If arm other Done) ∷ bs) in
      let line = indented d (codes "else") in
      let inner = statements_lines (suc d) other in
      let prefix = leads_both k r0 r1 r2 (line ∷ []) inner (else_line k d c j arm b bs) ih in
      leads_both k r0 r2 r3 (line ∷ inner) (indented d (codes "end") ∷ []) prefix (end_else (k + length (line ∷ inner)) d (c + size other) j arm other b bs)

  arm_ends : (k j d c : ℕ) (b : OpenBlock) (bs : List OpenBlock) (arm other : Statements)
      → LeadsAt (k + 1) (at c (opened (Second_arm arm) j Done ∷ b ∷ bs)) (statements_lines (suc d) other)
      (at (c + size other) (opened (Second_arm arm) j other ∷ b ∷ bs))
      → LeadsAt k (at c (opened First_arm j arm ∷ b ∷ bs)) (other_lines d other (statements_lines (suc d) other) ++ indented d (codes "end") ∷ [])
      (at (c + size other) (with_more b (If arm other Done) ∷ bs))
  arm_ends k j d c b bs arm Done ih =
      leads_to k (at c (opened First_arm j arm ∷ b ∷ bs)) (at c (with_more b (If arm Done Done) ∷ bs)) (at (c + 0) (with_more b (If arm Done Done) ∷ bs))
      (indented d (codes "end") ∷ []) (end_if k d c j arm b bs)
      (same_at c (c + 0) b (b.before then If arm Done Done) (b.before then If arm Done Done) bs (omega arith) refl)
  arm_ends k j d c b bs arm (Do i rest) ih = with_else k j d c b bs arm (Do i rest) ih
  arm_ends k j d c b bs arm (If x y rest) ih = with_else k j d c b bs arm (If x y rest) ih
  arm_ends k j d c b bs arm (Loop n x rest) ih = with_else k j d c b bs arm (Loop n x rest) ih

  -- STATEMENTS

  pub statements_lead : (k n d c : ℕ) (b : OpenBlock) (bs : List OpenBlock) (s : Statements) → is_body n s ≡ true → length (b ∷ bs) + n ≤ 5
      → c + size s ≤ greatest_statements → LeadsAt k (at c (b ∷ bs)) (statements_lines d s) (at (c + size s) (with_more b s ∷ bs))
  statements_lead k n d c b bs Done h flat few =
      leads_none k (at c (b ∷ bs)) (at (c + 0) (with_more b Done ∷ bs)) (same_at c (c + 0) b b.before (b.before then Done) bs (omega arith) (sym
      (then_done b.before)))
  statements_lead k n d c b bs (Do i rest) h flat few =
      let t = and_parts (all_of in_range (operands i)) (is_body n rest) h in
      let line = indented d (instruction_text i) in
      let b' = with_more b (Do i Done) in
      let first = leads_one k (at c (b ∷ bs)) (at (suc c) (b' ∷ bs)) line (instruction_line (at c (b ∷ bs)) k d i b bs refl t.0 (omega (arith, few))) in
      let next = statements_lead (k + 1) n d (suc c) b' bs rest t.1 flat (omega (arith, few)) in
      leads_to k (at c (b ∷ bs)) (at (suc c + size rest) (with_more b' rest ∷ bs)) (at (c + size (Do i rest)) (with_more b (Do i rest) ∷ bs))
      (statements_lines d (Do i rest))
      (leads_both k (at c (b ∷ bs)) (at (suc c) (b' ∷ bs)) (at (suc c + size rest) (with_more b' rest ∷ bs)) (line ∷ []) (statements_lines d rest) first next)
      (same_at (suc c + size rest) (c + size (Do i rest)) b ((b.before then Do i Done) then rest) (b.before then Do i rest) bs (omega arith)
      (then_assoc b.before (Do i Done) rest))
  statements_lead k n d c b bs (Loop m body rest) h flat few =
      let t = and_parts (nat_lt 0 n && between 1 65535 m && is_body (n - 1) body) (is_body n rest) h in
      let u = and_parts (nat_lt 0 n && between 1 65535 m) (is_body (n - 1) body) t.0 in
      let v = and_parts (nat_lt 0 n) (between 1 65535 m) u.0 in
      let deep = ltb-true 0 n v.0 in
      let open_line = indented d (loop_text m) in
      let end_line = indented d (codes "end") in
      let b' = with_more b (Loop m body Done) in
      let inner = statements_lines (suc d) body in
      let j = k + length (open_line ∷ []) in
      let i = j + length inner in
      let r0 = at c (b ∷ bs) in
      let r1 = at (suc c) (opened (Loop_body m) k Done ∷ b ∷ bs) in
      let r2 = at (suc c + size body) (opened (Loop_body m) k body ∷ b ∷ bs) in
      let r3 = at (suc c + size body) (b' ∷ bs) in
      let r4 = at (suc c + size body + size rest) (with_more b' rest ∷ bs) in
      let first = loop_line k d c m b bs (omega (arith, few)) (omega (arith, flat, deep)) v.1 in
      let second = statements_lead j (n - 1) (suc d) (suc c) (opened (Loop_body m) k Done) (b ∷ bs) body u.1 (omega (arith, flat, deep)) (omega (arith, few)) in
      let third = end_loop i d (suc c + size body) k m body b bs in
      let fourth = statements_lead (i + 1) n d (suc c + size body) b' bs rest t.1 flat (omega (arith, few)) in
      let tail = leads_both i r2 r3 r4 (end_line ∷ []) (statements_lines d rest) third fourth in
      let whole = leads_both k r0 r1 r4 (open_line ∷ []) (inner ++ end_line ∷ statements_lines d rest) first
      (leads_both j r1 r2 r4 inner (end_line ∷ statements_lines d rest) second tail) in
      leads_to k r0 r4 (at (c + size (Loop m body rest)) (with_more b (Loop m body rest) ∷ bs)) (statements_lines d (Loop m body rest)) whole
      (same_at (suc c + size body + size rest) (c + size (Loop m body rest)) b ((b.before then Loop m body Done) then rest) (b.before then Loop m body rest) bs
      (omega arith) (then_assoc b.before (Loop m body Done) rest))
  statements_lead k n d c b bs (If arm other rest) h flat few =
      let t = and_parts (nat_lt 0 n && is_body (n - 1) arm && is_body (n - 1) other) (is_body n rest) h in
      let u = and_parts (nat_lt 0 n && is_body (n - 1) arm) (is_body (n - 1) other) t.0 in
      let v = and_parts (nat_lt 0 n) (is_body (n - 1) arm) u.0 in
      let deep = ltb-true 0 n v.0 in
      let open_line = indented d (codes "if") in
      let b' = with_more b (If arm other Done) in
      let inner = statements_lines (suc d) arm in
      let j = k + length (open_line ∷ []) in
      let i = j + length inner in
      let r0 = at c (b ∷ bs) in
      let r1 = at (suc c) (opened First_arm k Done ∷ b ∷ bs) in
      let r2 = at (suc c + size arm) (opened First_arm k arm ∷ b ∷ bs) in
      let r3 = at (suc c + size arm + size other) (b' ∷ bs) in
      let r4 = at (suc c + size arm + size other + size rest) (with_more b' rest ∷ bs) in
      let closing = other_lines d other (statements_lines (suc d) other) in
      let first = if_line k d c b bs (omega (arith, few)) (omega (arith, flat, deep)) in
      let second = statements_lead j (n - 1) (suc d) (suc c) (opened First_arm k Done) (b ∷ bs) arm v.1 (omega (arith, flat, deep)) (omega (arith, few)) in
      let ih = statements_lead (i + 1) (n - 1) (suc d) (suc c + size arm) (opened (Second_arm arm) k Done) (b ∷ bs) other u.1 (omega (arith, flat, deep))
      (omega (arith, few)) in
      let third = arm_ends i k d (suc c + size arm) b bs arm other ih in
      let m = i + length (closing ++ indented d (codes "end") ∷ []) in
      let fourth = statements_lead m n d (suc c + size arm + size other) b' bs rest t.1 flat (omega (arith, few)) in
      let tail = leads_both i r2 r3 r4 (closing ++ indented d (codes "end") ∷ []) (statements_lines d rest) third fourth in
      let tail' = subst (λ (ls : List (List ℕ)). LeadsAt i r2 ls r4) (append_assoc closing (indented d (codes "end") ∷ []) (statements_lines d rest)) tail in
      let last : List (List ℕ) = indented d (codes "end") ∷ statements_lines d rest in
      let right = leads_both k r0 r1 r4 (open_line ∷ []) (inner ++ (closing ++ last)) first (leads_both j r1 r2 r4 inner (closing ++ last) second tail') in
      let whole = subst (λ (ls : List (List ℕ)). LeadsAt k r0 (open_line ∷ ls) r4) (sym (append_assoc inner closing last)) right in
      leads_to k r0 r4 (at (c + size (If arm other rest)) (with_more b (If arm other rest) ∷ bs)) (statements_lines d (If arm other rest)) whole
      (same_at (suc c + size arm + size other + size rest) (c + size (If arm other rest)) b ((b.before then If arm other Done) then rest)
      (b.before then If arm other rest) bs (omega arith) (then_assoc b.before (If arm other Done) rest))
