-- Entries that are put, and what is read of them.
use Rattle.std.proofs.Common.{◌≡◌, ◌∙◌, ℕ, zero, suc, ◌+◌, ◌<◌, ◌≤◌, List, [], ◌∷◌, ◌++◌, length, get_or, drop, Option, Some, None, refl, ap, sym, subst, arith}
use Rattle.std.specs.Prelude.{slice_get}
use Rattle.gq_model.specs.declared.program.Instruction.{Instruction}
use Rattle.gq_model.specs.machine.Program.{Statements, Done, size}
use Rattle.gq_model.specs.machine.Program as program
use Rattle.gq_model.proofs.Small_facts.{none_some}
use Rattle.gq_program.specs.Statement_trees.{tree_of}
use Rattle.gq_program.specs.declared.program_tree.Statement.{Statement}
use Rattle.gq_program.specs.declared.program_tree.Statement.TheVariants.{Plain, If, Loop}
use Rattle.gq_program.proofs.Statement_list_sizes.{here_is, size_first}
use Rattle.gq_views.specs.Listing.{instruction_text}
use Rattle.gq_traces.specs.Step_positions.{Chooses, Does, Ends, NumberedStatements, Repeats, numbered}
use Rattle.gq_traces.specs.declared.numbered_program.NumberedStatement.{NumberedStatement}
use Rattle.gq_traces.specs.declared.numbered_program.NumberedProgram.{NumberedProgram as Entries}
use Rattle.gq_traces.specs.declared.numbered_program.Way.{Way}
use Rattle.gq_traces.specs.declared.numbered_program.Way.TheVariants as way
use Rattle.gq_traces.specs.internal.Flat.{IsIf, IsLoop, IsPlain, IsRead, Keeps, Puts, PutsEntry}
use Rattle.gq_traces.proofs.Turn_text_parts.{drop_all}

-- the count of statements up to one that stands there
pub size_next : (items : List Statement) (i : ℕ) (s : Statement) → i < length items → s ≡ get_or items i s
    → size (tree_of (drop i items)) ≡ size (tree_of (s ∷ [])) + size (tree_of (drop (i + 1) items))
size_next items i s less e = ap (λ l. size (tree_of l)) (here_is items i s less e) ∙ size_first s (drop (i + 1) items)

-- ONE ENTRY MORE

stays : (es : List NumberedStatement) (e : NumberedStatement) (p : ℕ) (x : NumberedStatement) → slice_get es p ≡ Some x → slice_get (es ++ e ∷ []) p ≡ Some x
stays [] e p x h = absurd (none_some h)
stays (y ∷ es) e zero x h = h
stays (y ∷ es) e (suc p) x h = stays es e p x h

last : (es : List NumberedStatement) (e : NumberedStatement) → slice_get (es ++ e ∷ []) (length es) ≡ Some e
last [] e = refl
last (y ∷ es) e = last es e

plain_stays : (P Q : List ℕ → Option ℕ → Type 0) → ((t : List ℕ) (n : Option ℕ) → P t n → Q t n) → (w : Way) → IsPlain P w → IsPlain Q w
plain_stays P Q f (way.Plain text next) h = f text.items next h
plain_stays P Q f (way.If arm other) h = h
plain_stays P Q f (way.Loop count body next) h = h

if_stays : (P Q : Option ℕ → Option ℕ → Type 0) → ((a o : Option ℕ) → P a o → Q a o) → (w : Way) → IsIf P w → IsIf Q w
if_stays P Q f (way.Plain text next) h = h
if_stays P Q f (way.If arm other) h = f arm other h
if_stays P Q f (way.Loop count body next) h = h

loop_stays : (P Q : ℕ → Option ℕ → Option ℕ → Type 0) → ((m : ℕ) (b r : Option ℕ) → P m b r → Q m b r) → (w : Way) → IsLoop P w → IsLoop Q w
loop_stays P Q f (way.Plain text next) h = h
loop_stays P Q f (way.If arm other) h = h
loop_stays P Q f (way.Loop count body next) h = f count body next h

-- what is read of entries is read of them with one more
pub still_read : (es : List NumberedStatement) (e : NumberedStatement) → Keeps es (es ++ e ∷ [])
still_read es e next Ends h = h
still_read es e next (Does k text rest) h =
    (h.0, h.1, h.2, stays es e h.0 _ h.3, plain_stays _ _ (λ t n p. (p.0, still_read es e n rest p.1)) h.1 h.4)
still_read es e next (Chooses k arm other) h =
    (h.0, h.1, h.2, stays es e h.0 _ h.3, if_stays _ _ (λ a o p. (still_read es e a arm p.0, still_read es e o other p.1)) h.1 h.4)
still_read es e next (Repeats k n body rest) h = (
  h.0,
  h.1,
  h.2,
  stays es e h.0 _ h.3,
  loop_stays _ _ (λ m b r p. (p.0, still_read es e b body p.1, still_read es e r rest p.2)) h.1 h.4,
)

-- an entry that is put behind all others
pub entry_put : (old new : Entries) (w : Way) (place : ℕ) (first : Option ℕ) → place ≡ length old.entries.items
    → new.entries.items ≡ old.entries.items ++ record { number = old.left; way = w } ∷ [] → old.left ≡ suc new.left → new.parts ≡ old.parts
    → first ≡ Some place → PutsEntry old new w first
entry_put old new w place first at put left parts is =
    let es = old.entries.items in
    let e : NumberedStatement = record { number = old.left; way = w } in
    record {
      number = left;
      here = (
        place,
        w,
        is,
        ap (λ l. slice_get l place) put ∙ ap (slice_get (es ++ e ∷ [])) at ∙ last es e
            ∙ ap (λ k. Some (of k)) left,
        refl,
      );
      keeps = λ next t h. subst (λ l. IsRead l next t) (sym put) (still_read es e next t h);
      parts = parts;
    }
  where
    of : ℕ → NumberedStatement
    of k = record { number = k; way = w }

-- STATEMENTS

numbered_first : (k : ℕ) (s : Statement) (ss : List Statement) (after : NumberedStatements)
    → numbered k (tree_of (s ∷ [])) (numbered (k + size (tree_of (s ∷ []))) (tree_of ss) after) ≡ numbered k (tree_of (s ∷ ss)) after
numbered_first k (Plain i) ss after =
    let e : k + 1 ≡ suc k = omega arith in ap (λ n. Does k (instruction_text i) (numbered n (tree_of ss) after)) e
numbered_first k (If arm other) ss after =
    let e : k + (1 + size arm + size other + 0) ≡ suc k + size arm + size other = omega arith in
    ap (λ n. numbered k (program.If arm other Done) (numbered n (tree_of ss) after)) e
numbered_first k (Loop count body) ss after =
    let e : k + (1 + size body + 0) ≡ suc k + size body = omega arith in
    ap (λ n. numbered k (program.Loop count body Done) (numbered n (tree_of ss) after)) e

-- one with no statement in it
pub plain_put : (old new : Entries) (next first : Option ℕ) (i : Instruction) (w : Way) → IsPlain (λ t n. (t ≡ instruction_text i) × (n ≡ next)) w
    → PutsEntry old new w first → Puts old new (program.Do i Done) next first
plain_put old new next first i w is p =
    let number = p.number in
    let es = new.entries.items in
    record {
      number = omega (arith, number);
      reads = λ after h.
          let here = p.here in (
            here.0,
            here.1,
            here.2,
            here.3,
            subst (IsPlain (λ t n. (t ≡ instruction_text i) × IsRead es n after)) (sym here.4)
                (plain_stays _ _ (λ t n q. (q.0, subst (λ m. IsRead es m after) (sym q.1) (p.keeps next after h))) w is),
          );
      keeps = p.keeps;
      parts = p.parts;
    }

-- an `if`, of which the second arm was put first
pub if_put : (old one two new : Entries) (next a o first : Option ℕ) (arm other : Statements) → Puts old one other next o → Puts one two arm next a
    → PutsEntry two new (way.If a o) first → Puts old new (program.If arm other Done) next first
if_put old one two new next a o first arm other q r p =
    let n = q.number in
    let m = r.number in
    let l = p.number in
    let es = new.entries.items in
    record {
      number = omega (arith, n, m, l);
      reads = λ after h.
          let here = p.here in
          let then_arm : IsRead es a (numbered (suc (suc new.left)) arm after) =
          subst (λ k. IsRead es a (numbered (suc k) arm after)) l (p.keeps a _ (r.reads after (q.keeps next after h))) in
          let at : suc one.left ≡ suc (suc new.left) + size arm = omega (arith, m, l) in
          let then_other : IsRead es o (numbered (suc (suc new.left) + size arm) other after) =
          subst (λ k. IsRead es o (numbered k other after)) at (p.keeps o _ (r.keeps o _ (q.reads after h))) in (
            here.0,
            here.1,
            here.2,
            here.3,
            subst (IsIf (λ x y. IsRead es x (numbered (suc (suc new.left)) arm after) × IsRead es y (numbered (suc (suc new.left) + size arm) other after)))
                (sym here.4) (then_arm, then_other),
          );
      keeps = λ n t h. p.keeps n t (r.keeps n t (q.keeps n t h));
      parts = p.parts ∙ r.parts ∙ q.parts;
    }

-- a loop
pub loop_put : (old one new : Entries) (next b first : Option ℕ) (count : ℕ) (body : Statements) → Puts old one body None b
    → PutsEntry one new (way.Loop count b next) first → Puts old new (program.Loop count body Done) next first
loop_put old one new next b first count body q p =
    let n = q.number in
    let l = p.number in
    let es = new.entries.items in
    record {
      number = omega (arith, n, l);
      reads = λ after h.
          let here = p.here in
          let inside : IsRead es b (numbered (suc (suc new.left)) body Ends) =
          subst (λ k. IsRead es b (numbered (suc k) body Ends)) l (p.keeps b _ (q.reads Ends refl)) in (
            here.0,
            here.1,
            here.2,
            here.3,
            subst (IsLoop (λ m x r. (m ≡ count) × IsRead es x (numbered (suc (suc new.left)) body Ends) × IsRead es r after))
                (sym here.4) (refl, inside, p.keeps next after (q.keeps next after h)),
          );
      keeps = λ n t h. p.keeps n t (q.keeps n t h);
      parts = p.parts ∙ q.parts;
    }

-- none
pub none_put : (es : Entries) (next : Option ℕ) (items : List Statement) (n : ℕ) → n ≡ length items → Puts es es (tree_of (drop n items)) next next
none_put es next items n all =
    subst (λ l. Puts es es (tree_of l) next next) (sym (drop_all items n all)) (record {
      number = omega arith;
      reads = λ after h. h;
      keeps = λ n t h. h;
      parts = refl;
    })

-- one before others
before : (old one new : Entries) (next n first : Option ℕ) (s : Statement) (ss : List Statement) → Puts old one (tree_of ss) next n
    → Puts one new (tree_of (s ∷ [])) n first → Puts old new (tree_of (s ∷ ss)) next first
before old one new next n first s ss q p =
    let all = size_first s ss in
    let m = q.number in
    let l = p.number in
    let at : suc one.left ≡ suc new.left + size (tree_of (s ∷ [])) = omega (arith, l) in
    record {
      number = omega (arith, all, m, l);
      reads = λ after h.
          subst (IsRead new.entries.items first) (numbered_first (suc new.left) s ss after)
          (p.reads _ (subst (λ k. IsRead one.entries.items n (numbered k (tree_of ss) after)) at (q.reads after h)));
      keeps = λ n t h. p.keeps n t (q.keeps n t h);
      parts = p.parts ∙ q.parts;
    }

pub put_before : (old one new : Entries) (next n first : Option ℕ) (items : List Statement) (rest i : ℕ) (s : Statement) → rest ≡ suc i → i < length items
    → s ≡ get_or items i s → Puts old one (tree_of (drop rest items)) next n → Puts one new (tree_of (s ∷ [])) n first
    → Puts old new (tree_of (drop i items)) next first
put_before old one new next n first items rest i s at less is q p =
    let more : rest ≡ i + 1 = omega (arith, at) in
    subst (λ l. Puts old new (tree_of l) next first) (sym (here_is items i s less is))
    (before old one new next n first s (drop (i + 1) items) (subst (λ k. Puts old one (tree_of (drop k items)) next n) more q) p)

pub size_drop : (items : List Statement) (i : ℕ) → size (tree_of (drop i items)) ≤ size (tree_of items)
size_drop items zero = omega arith
size_drop [] (suc i) = omega arith
size_drop (s ∷ items) (suc i) = let h = size_drop items i in let k = size_first s items in omega (arith, h, k)

-- there is room for the next one
pub room_before : (left all n : ℕ) (items : List Statement) (rest i : ℕ) (s : Statement) → rest ≡ suc i → i < length items → s ≡ get_or items i s
    → all ≡ left + size (tree_of (drop rest items)) → size (tree_of items) ≤ all → size (tree_of (s ∷ [])) ≤ left
room_before left all n items rest i s at less is sum few =
    let more : rest ≡ i + 1 = omega (arith, at) in
    let here = size_next items i s less is in
    let same = ap (λ k. size (tree_of (drop k items))) more in
    let most = size_drop items i in
    omega (arith, here, same, sum, few, most)
