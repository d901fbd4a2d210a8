-- The key of what is left at a place is found by the statements.
use Rattle.std.proofs.Common.{◌≡◌, ℕ, zero, suc, ◌+◌, ◌-◌, ◌<◌, ◌≤◌, inl, inr, List, [], ◌∷◌, ◌++◌, length, drop, get_or, Option, Some, None, refl, ap}
use Rattle.std.proofs.Common.{sym, ◌∙◌}
use Rattle.std.proofs.Common.{append_assoc, append-nil, arith}
use Rattle.std.specs.Prelude.{nat_lt, if◌then◌else◌, slice_get, slice_index}
use Rattle.std.proofs.lemmas.Bool.{cases_lt, le-ltb, lt-ltb}
use Rattle.gq_model.specs.declared.program.Instruction.{Instruction}
use Rattle.gq_model.specs.machine.Program.{Statements, Done, Do, If, Loop, ◌then◌}
use Rattle.gq_model.proofs.Small_facts.{get_within, none_some, some_same}
use Rattle.gq_program.proofs.Statement_list_sizes.{here_is}
use Rattle.gq_program.specs.Statement_trees.{tree_of}
use Rattle.gq_program.specs.declared.program_tree.Statement.{Statement}
use Rattle.gq_program.specs.declared.program_tree.Statement.TheVariants as statement
use Rattle.gq_bytecode.specs.Bytecode_layout.{width}
use Rattle.gq_bytecode.specs.Code_positions.{CodePosition, OpenLoop, frame, opened, place, place_at, place_or_end, places}
use Rattle.gq_bytecode.specs.declared.operation.Operation.TheVariants as operation
use Rattle.gq_bytecode.proofs.Code_position_tables.{width_is}
use Rattle.gq_outcomes.specs.internal.Keys.{instruction_key, left_key, loop_key, loops_key, number_key, statements_key}
use Rattle.gq_outcomes.specs.internal.Left.{Ahead, Nothing, Instructs, Other, ahead, ahead_in, in_round, instruction_of, left_in, or_else}

-- PLACES OF LISTS

first_part : {A : Type 0} (xs ys : List A) (i : ℕ) → i < length xs → slice_get (xs ++ ys) i ≡ slice_get xs i
first_part [] ys i l = absurd (omega (arith, l))
first_part (x ∷ xs) ys zero l = refl
first_part (x ∷ xs) ys (suc i) l = first_part xs ys i (omega (arith, l))

second_part : {A : Type 0} (xs ys : List A) (i k : ℕ) → i ≡ length xs + k → slice_get (xs ++ ys) i ≡ slice_get ys k
second_part [] ys i k e = ap (slice_get ys) (omega (arith, e))
second_part (x ∷ xs) ys zero k e = absurd (omega (arith, e))
second_part (x ∷ xs) ys (suc i) k e = second_part xs ys i k (omega (arith, e))

-- STATEMENTS ONE AFTER THE OTHER

pub key_then : (a b : Statements) → statements_key (a then b) ≡ statements_key a ++ statements_key b
key_then Done b = refl
key_then (Do i rest) b =
    ap (λ l. 2 ∷ (instruction_key i ++ l)) (key_then rest b)
    ∙ ap (λ l. 2 ∷ l) (sym (append_assoc (instruction_key i) (statements_key rest) (statements_key b)))
key_then (If arm other rest) b =
    ap (λ l. 3 ∷ (statements_key arm ++ 0 ∷ (statements_key other ++ 0 ∷ l))) (key_then rest b)
    ∙ ap (λ l. 3 ∷ l) (sym (append_assoc (statements_key arm) (0 ∷ (statements_key other ++ 0 ∷ statements_key rest)) (statements_key b)
    ∙ ap (λ l. statements_key arm ++ 0 ∷ l) (append_assoc (statements_key other) (0 ∷ statements_key rest) (statements_key b))))
key_then (Loop n body rest) b =
    ap (λ l. 4 ∷ (number_key n ++ (statements_key body ++ 0 ∷ l))) (key_then rest b)
    ∙ ap (λ l. 4 ∷ l) (sym (append_assoc (number_key n) (statements_key body ++ 0 ∷ statements_key rest) (statements_key b)
    ∙ ap (λ l. number_key n ++ l) (append_assoc (statements_key body) (0 ∷ statements_key rest) (statements_key b))))

-- PLACES

-- where a place of statements is, and what is left there
abbrev key_at : List ℕ → CodePosition → List ℕ
key_at rounds p = left_key p.todo (opened p.around rounds)

-- what is behind statements that have this after them, inside these loops
abbrev behind : List ℕ → Statements → List OpenLoop → List ℕ
behind rounds after around = statements_key after ++ loops_key (opened around rounds)

short : (a b : Statements) (l : List ℕ) → statements_key (a then b) ++ l ≡ statements_key a ++ (statements_key b ++ l)
short a b l = ap (λ t. t ++ l) (key_then a b) ∙ append_assoc (statements_key a) (statements_key b) l

pub cond_true : {A : Type 0} (a b : ℕ) (x y : A) → a < b → (if nat_lt a b then x else y) ≡ x
cond_true a b x y l = ap (λ c. if c then x else y) (lt-ltb a b l)

pub cond_false : {A : Type 0} (a b : ℕ) (x y : A) → b ≤ a → (if nat_lt a b then x else y) ≡ y
cond_false a b x y l = ap (λ c. if c then x else y) (le-ltb a b l)

-- past the end nothing is left
past_end : (rounds : List ℕ) (d : ℕ) (s : Statements) (p : ℕ) → width s ≤ p → left_in rounds d s p ≡ []
past_end rounds d Done p l = refl
past_end rounds d (Do i rest) zero l = absurd (omega (arith, l))
past_end rounds d (Do i rest) (suc p) l = past_end rounds d rest p (omega (arith, l))
past_end rounds d (If arm other rest) zero l = absurd (omega (arith, l))
past_end rounds d (If arm other rest) (suc p) l =
    cond_false p (suc (width arm)) _ _ (omega (arith, l)) ∙ cond_false (p - suc (width arm)) (width other) _ _ (omega (arith, l))
    ∙ past_end rounds d rest (p - suc (width arm) - width other) (omega (arith, l))
past_end rounds d (Loop n body rest) zero l = absurd (omega (arith, l))
past_end rounds d (Loop n body rest) (suc p) l =
    cond_false p (suc (width body)) _ _ (omega (arith, l)) ∙ past_end rounds d rest (p - suc (width body)) (omega (arith, l))

-- the key at a place of statements
pub left_is : (rounds : List ℕ) (s after : Statements) (around : List OpenLoop) (p : ℕ) (here : CodePosition) → slice_get (places s after around) p ≡ Some here
    → key_at rounds here ≡ left_in rounds (length around) s p ++ behind rounds after around
left_is rounds Done after around p here e = absurd (none_some e)
left_is rounds (Do i rest) after around zero here e =
    ap (key_at rounds) (sym (some_same e))
    ∙ ap (λ l. l ++ loops_key (opened around rounds)) (key_then (Do i rest) after)
    ∙ append_assoc (statements_key (Do i rest)) (statements_key after) (loops_key (opened around rounds))
left_is rounds (Do i rest) after around (suc p) here e = left_is rounds rest after around p here e
left_is rounds (If arm other rest) after around zero here e =
    ap (key_at rounds) (sym (some_same e))
    ∙ ap (λ l. l ++ loops_key (opened around rounds)) (key_then (If arm other rest) after)
    ∙ append_assoc (statements_key (If arm other rest)) (statements_key after) (loops_key (opened around rounds))
left_is rounds (If arm other rest) after around (suc p) here e =
    let next = rest then after in
    let d = length around in
    let arms = places arm next around in
    let jump = place (operation.Jump (width other)) next around in
    let others = places other next around in
    let rests = places rest after around in
    let tail = behind rounds after around in
    let n = width_is arm next around in
    let m = width_is other next around in
    let on = λ (t : List ℕ). ap (λ l. t ++ l) (short rest after (loops_key (opened around rounds))) ∙ sym (append_assoc t (statements_key rest) tail) in
    elim (cases_lt p (width arm)) [
      | inl a ↦
          let inner = left_is rounds arm next around p here (sym (first_part arms (jump ∷ (others ++ rests)) p (omega (arith, a, n))) ∙ e) in
          inner ∙ on (left_in rounds d arm p) ∙ ap (λ l. l ++ tail) (sym (cond_true p (suc (width arm)) _ _ (omega (arith, a))))
      | inr a ↦ elim (cases_lt p (suc (width arm))) [
        | inl b ↦
            let at : slice_get (jump ∷ (others ++ rests)) 0 ≡ Some here = sym (second_part arms (jump ∷ (others ++ rests)) p 0 (omega (arith, a, b, n))) ∙ e in
            ap (key_at rounds) (sym (some_same at)) ∙ on [] ∙ ap (λ l. (l ++ statements_key rest) ++ tail) (sym (past_end rounds d arm p a))
            ∙ ap (λ l. l ++ tail) (sym (cond_true p (suc (width arm)) _ _ b))
        | inr b ↦
            let q = p - suc (width arm) in
            let at : slice_get (others ++ rests) q ≡ Some here = sym (second_part arms (jump ∷ (others ++ rests)) p (suc q) (omega (arith, b, n))) ∙ e in
            elim (cases_lt q (width other)) [
              | inl c ↦
                  let inner = left_is rounds other next around q here (sym (first_part others rests q (omega (arith, c, m))) ∙ at) in
                  inner ∙ on (left_in rounds d other q) ∙ ap (λ l. l ++ tail) (sym (cond_true q (width other) _ _ c))
                  ∙ ap (λ l. l ++ tail) (sym (cond_false p (suc (width arm)) _ _ b))
              | inr c ↦
                  let inner = left_is rounds rest after around (q - width other) here (sym (second_part others rests q (q - width other) (omega (arith, c, m)))
                  ∙ at) in
                  inner ∙ ap (λ l. l ++ tail) (sym (cond_false q (width other) _ _ c)) ∙ ap (λ l. l ++ tail) (sym (cond_false p (suc (width arm)) _ _ b))
            ]
      ]
    ]
left_is rounds (Loop n body rest) after around zero here e =
    ap (key_at rounds) (sym (some_same e))
    ∙ ap (λ l. l ++ loops_key (opened around rounds)) (key_then (Loop n body rest) after)
    ∙ append_assoc (statements_key (Loop n body rest)) (statements_key after) (loops_key (opened around rounds))
left_is rounds (Loop n body rest) after around (suc p) here e =
    let next = rest then after in
    let d = length around in
    let inside = frame n body next ∷ around in
    let bodies = places body Done inside in
    let again = place (operation.Again d n (width body)) Done inside in
    let rests = places rest after around in
    let tail = behind rounds after around in
    let loop = loop_key (slice_index rounds d) n body in
    let m = width_is body Done inside in
    let on : (t : List ℕ) → t ++ behind rounds Done inside ≡ (t ++ (loop ++ statements_key rest)) ++ tail =
    λ t. ap (λ l. t ++ (loop ++ l)) (short rest after (loops_key (opened around rounds)))
    ∙ ap (λ l. t ++ l) (sym (append_assoc loop (statements_key rest) tail)) ∙ sym (append_assoc t (loop ++ statements_key rest) tail) in
    elim (cases_lt p (width body)) [
      | inl a ↦
          let inner = left_is rounds body Done inside p here (sym (first_part bodies (again ∷ rests) p (omega (arith, a, m))) ∙ e) in
          inner ∙ on (left_in rounds (suc d) body p) ∙ ap (λ l. l ++ tail) (sym (cond_true p (suc (width body)) _ _ (omega (arith, a))))
      | inr a ↦ elim (cases_lt p (suc (width body))) [
        | inl b ↦
            let at : slice_get (again ∷ rests) 0 ≡ Some here = sym (second_part bodies (again ∷ rests) p 0 (omega (arith, a, b, m))) ∙ e in
            ap (key_at rounds) (sym (some_same at)) ∙ on [] ∙ ap (λ l. (l ++ (loop ++ statements_key rest)) ++ tail) (sym (past_end rounds (suc d) body p a))
            ∙ ap (λ l. l ++ tail) (sym (cond_true p (suc (width body)) _ _ b))
        | inr b ↦
            let q = p - suc (width body) in
            let at : slice_get rests q ≡ Some here = sym (second_part bodies (again ∷ rests) p (suc q) (omega (arith, b, m))) ∙ e in
            left_is rounds rest after around q here at ∙ ap (λ l. l ++ tail) (sym (cond_false p (suc (width body)) _ _ b))
      ]
    ]

-- SECTIONS

-- at each place of a section, also past its end
pub section_left : (rounds : List ℕ) (body : Statements) (p : ℕ)
    → left_key (place_at body p).todo (opened (place_at body p).around rounds) ≡ left_in rounds 0 body p ++ 0 ∷ []
section_left rounds body p =
    let all = places body Done [] in
    let end = place operation.End Done [] in
    let n = width_is body Done [] in
    elim (cases_lt p (width body)) [
      | inl a ↦
          let here = get_within all p (omega (arith, a, n)) in
          ap (λ o. key_at rounds (place_or_end o)) (first_part all (end ∷ []) p (omega (arith, a, n)) ∙ here.1) ∙ left_is rounds body Done [] p here.0 here.1
      | inr a ↦
          let q = p - width body in
          ap (λ o. key_at rounds (place_or_end o)) (second_part all (end ∷ []) p q (omega (arith, a, n))) ∙ ends q
          ∙ ap (λ l. l ++ 0 ∷ []) (sym (past_end rounds 0 body p a))
    ]
  where
    ends : (q : ℕ) → key_at rounds (place_or_end (slice_get (place operation.End Done [] ∷ []) q)) ≡ 0 ∷ []
    ends zero = refl
    ends (suc q) = refl

-- WHAT COMES NEXT

ahead_then : (a b : Statements) → ahead (a then b) ≡ or_else (ahead a) (ahead b)
ahead_then Done b = refl
ahead_then (Do i rest) b = refl
ahead_then (If arm other rest) b = refl
ahead_then (Loop n body rest) b = refl

or_or : (a b c : Ahead) → or_else a (or_else b c) ≡ or_else (or_else a b) c
or_or Nothing b c = refl
or_or (Instructs i) b c = refl
or_or Other b c = refl

in_loop : (a b : Ahead) → instruction_of (or_else a Nothing) ≡ instruction_of (or_else (in_round a) b)
in_loop Nothing b = refl
in_loop (Instructs i) b = refl
in_loop Other b = refl

pub no_more : (s : Statements) (p : ℕ) → width s ≤ p → ahead_in s p ≡ Nothing
no_more Done p l = refl
no_more (Do i rest) zero l = absurd (omega (arith, l))
no_more (Do i rest) (suc p) l = no_more rest p (omega (arith, l))
no_more (If arm other rest) zero l = absurd (omega (arith, l))
no_more (If arm other rest) (suc p) l =
    cond_false p (suc (width arm)) _ _ (omega (arith, l)) ∙ cond_false (p - suc (width arm)) (width other) _ _ (omega (arith, l))
    ∙ no_more rest (p - suc (width arm) - width other) (omega (arith, l))
no_more (Loop n body rest) zero l = absurd (omega (arith, l))
no_more (Loop n body rest) (suc p) l =
    cond_false p (suc (width body)) _ _ (omega (arith, l)) ∙ no_more rest (p - suc (width body)) (omega (arith, l))

abbrev next_at : CodePosition → Option Instruction
next_at p = instruction_of (ahead p.todo)

pub ahead_is : (s after : Statements) (around : List OpenLoop) (p : ℕ) (here : CodePosition) → slice_get (places s after around) p ≡ Some here
    → next_at here ≡ instruction_of (or_else (ahead_in s p) (ahead after))
ahead_is Done after around p here e = absurd (none_some e)
ahead_is (Do i rest) after around zero here e = ap next_at (sym (some_same e))
ahead_is (Do i rest) after around (suc p) here e = ahead_is rest after around p here e
ahead_is (If arm other rest) after around zero here e = ap next_at (sym (some_same e))
ahead_is (If arm other rest) after around (suc p) here e =
    let next = rest then after in
    let arms = places arm next around in
    let jump = place (operation.Jump (width other)) next around in
    let others = places other next around in
    let rests = places rest after around in
    let n = width_is arm next around in
    let m = width_is other next around in
    let last = λ (x : Ahead). instruction_of (or_else x (ahead after)) in
    let on : (x : Ahead) → instruction_of (or_else x (ahead next)) ≡ last (or_else x (ahead rest)) =
    λ x. ap (λ y. instruction_of (or_else x y)) (ahead_then rest after) ∙ ap instruction_of (or_or x (ahead rest) (ahead after)) in
    elim (cases_lt p (width arm)) [
      | inl a ↦
          let inner = ahead_is arm next around p here (sym (first_part arms (jump ∷ (others ++ rests)) p (omega (arith, a, n))) ∙ e) in
          inner ∙ on (ahead_in arm p) ∙ ap last (sym (cond_true p (suc (width arm)) _ _ (omega (arith, a))))
      | inr a ↦ elim (cases_lt p (suc (width arm))) [
        | inl b ↦
            let at : slice_get (jump ∷ (others ++ rests)) 0 ≡ Some here = sym (second_part arms (jump ∷ (others ++ rests)) p 0 (omega (arith, a, b, n))) ∙ e in
            ap next_at (sym (some_same at)) ∙ on Nothing ∙ ap (λ x. last (or_else x (ahead rest))) (sym (no_more arm p a))
            ∙ ap last (sym (cond_true p (suc (width arm)) _ _ b))
        | inr b ↦
            let q = p - suc (width arm) in
            let at : slice_get (others ++ rests) q ≡ Some here = sym (second_part arms (jump ∷ (others ++ rests)) p (suc q) (omega (arith, b, n))) ∙ e in
            elim (cases_lt q (width other)) [
              | inl c ↦
                  let inner = ahead_is other next around q here (sym (first_part others rests q (omega (arith, c, m))) ∙ at) in
                  inner ∙ on (ahead_in other q) ∙ ap last (sym (cond_true q (width other) _ _ c)) ∙ ap last (sym (cond_false p (suc (width arm)) _ _ b))
              | inr c ↦
                  let inner = ahead_is rest after around (q - width other) here (sym (second_part others rests q (q - width other) (omega (arith, c, m))) ∙ at)
                  in
                  inner ∙ ap last (sym (cond_false q (width other) _ _ c)) ∙ ap last (sym (cond_false p (suc (width arm)) _ _ b))
            ]
      ]
    ]
ahead_is (Loop n body rest) after around zero here e = ap next_at (sym (some_same e))
ahead_is (Loop n body rest) after around (suc p) here e =
    let next = rest then after in
    let d = length around in
    let inside = frame n body next ∷ around in
    let bodies = places body Done inside in
    let again = place (operation.Again d n (width body)) Done inside in
    let rests = places rest after around in
    let m = width_is body Done inside in
    let last = λ (x : Ahead). instruction_of (or_else x (ahead after)) in
    elim (cases_lt p (width body)) [
      | inl a ↦
          let inner = ahead_is body Done inside p here (sym (first_part bodies (again ∷ rests) p (omega (arith, a, m))) ∙ e) in
          inner ∙ in_loop (ahead_in body p) (ahead after) ∙ ap last (sym (cond_true p (suc (width body)) _ _ (omega (arith, a))))
      | inr a ↦ elim (cases_lt p (suc (width body))) [
        | inl b ↦
            let at : slice_get (again ∷ rests) 0 ≡ Some here = sym (second_part bodies (again ∷ rests) p 0 (omega (arith, a, b, m))) ∙ e in
            ap next_at (sym (some_same at)) ∙ ap (λ x. last (in_round x)) (sym (no_more body p a)) ∙ ap last (sym (cond_true p (suc (width body)) _ _ b))
        | inr b ↦
            let q = p - suc (width body) in
            let at : slice_get rests q ≡ Some here = sym (second_part bodies (again ∷ rests) p (suc q) (omega (arith, b, m))) ∙ e in
            ahead_is rest after around q here at ∙ ap last (sym (cond_false p (suc (width body)) _ _ b))
      ]
    ]

left_alone : (a : Ahead) → instruction_of (or_else a Nothing) ≡ instruction_of a
left_alone Nothing = refl
left_alone (Instructs i) = refl
left_alone Other = refl

-- the instruction that comes next at a place of a section
pub section_ahead : (body : Statements) (p : ℕ) → next_at (place_at body p) ≡ instruction_of (ahead_in body p)
section_ahead body p =
    let all = places body Done [] in
    let end = place operation.End Done [] in
    let n = width_is body Done [] in
    elim (cases_lt p (width body)) [
      | inl a ↦
          let here = get_within all p (omega (arith, a, n)) in
          ap (λ o. next_at (place_or_end o)) (first_part all (end ∷ []) p (omega (arith, a, n)) ∙ here.1)
          ∙ ahead_is body Done [] p here.0 here.1 ∙ left_alone (ahead_in body p)
      | inr a ↦
          let q = p - width body in
          ap (λ o. next_at (place_or_end o)) (second_part all (end ∷ []) p q (omega (arith, a, n))) ∙ ends q
          ∙ ap instruction_of (sym (no_more body p a))
    ]
  where
    ends : (q : ℕ) → next_at (place_or_end (slice_get (place operation.End Done [] ∷ []) q)) ≡ None
    ends zero = refl
    ends (suc q) = refl

-- STATEMENTS IN A LIST

pub first_key : (s : Statement) (rest : List Statement) → statements_key (tree_of (s ∷ rest)) ≡ statements_key (tree_of (s ∷ [])) ++ statements_key (tree_of
    rest)
first_key (statement.Plain i) rest = key_then (Do i Done) (tree_of rest)
first_key (statement.If arm other) rest = key_then (If arm other Done) (tree_of rest)
first_key (statement.Loop n body) rest = key_then (Loop n body Done) (tree_of rest)

pub first_width : (s : Statement) (rest : List Statement) → width (tree_of (s ∷ rest)) ≡ width (tree_of (s ∷ [])) + width (tree_of rest)
first_width (statement.Plain i) rest = omega arith
first_width (statement.If arm other) rest = omega arith
first_width (statement.Loop n body) rest = omega arith

no_end : (a b : List ℕ) → a ++ b ≡ (a ++ []) ++ b
no_end a b = ap (λ l. l ++ b) (sym (append-nil a))

-- in the first statement
pub first_left : (rounds : List ℕ) (d : ℕ) (s : Statement) (rest : List Statement) (p : ℕ) → p < width (tree_of (s ∷ []))
    → left_in rounds d (tree_of (s ∷ rest)) p ≡ left_in rounds d (tree_of (s ∷ [])) p ++ statements_key (tree_of rest)
first_left rounds d (statement.Plain i) rest zero l = first_key (statement.Plain i) rest
first_left rounds d (statement.Plain i) rest (suc p) l = absurd (omega (arith, l))
first_left rounds d (statement.If arm other) rest zero l = first_key (statement.If arm other) rest
first_left rounds d (statement.If arm other) rest (suc p) l = elim (cases_lt p (suc (width arm))) [
  | inl a ↦
      cond_true p (suc (width arm)) _ _ a ∙ no_end (left_in rounds d arm p) (statements_key (tree_of rest))
      ∙ ap (λ t. t ++ statements_key (tree_of rest)) (sym (cond_true p (suc (width arm)) _ _ a))
  | inr a ↦
      let q = p - suc (width arm) in
      let b : q < width other = omega (arith, a, l) in
      cond_false p (suc (width arm)) _ _ a ∙ cond_true q (width other) _ _ b ∙ no_end (left_in rounds d other q) (statements_key (tree_of rest))
      ∙ ap (λ t. t ++ statements_key (tree_of rest)) (sym (cond_false p (suc (width arm)) _ _ a ∙ cond_true q (width other) _ _ b))
]
first_left rounds d (statement.Loop n body) rest zero l = first_key (statement.Loop n body) rest
first_left rounds d (statement.Loop n body) rest (suc p) l =
    let a : p < suc (width body) = omega (arith, l) in
    let loop = loop_key (slice_index rounds d) n body in
    cond_true p (suc (width body)) _ _ a
    ∙ ap (λ t. left_in rounds (suc d) body p ++ t) (no_end loop (statements_key (tree_of rest)))
    ∙ sym (append_assoc (left_in rounds (suc d) body p) (loop ++ []) (statements_key (tree_of rest)))
    ∙ ap (λ t. t ++ statements_key (tree_of rest)) (sym (cond_true p (suc (width body)) _ _ a))

-- behind the first statement
pub later_left : (rounds : List ℕ) (d : ℕ) (s : Statement) (rest : List Statement) (p : ℕ) → width (tree_of (s ∷ [])) ≤ p
    → left_in rounds d (tree_of (s ∷ rest)) p ≡ left_in rounds d (tree_of rest) (p - width (tree_of (s ∷ [])))
later_left rounds d (statement.Plain i) rest zero l = absurd (omega (arith, l))
later_left rounds d (statement.Plain i) rest (suc p) l = ap (left_in rounds d (tree_of rest)) (omega (arith, l))
later_left rounds d (statement.If arm other) rest zero l = absurd (omega (arith, l))
later_left rounds d (statement.If arm other) rest (suc p) l =
    let a : suc (width arm) ≤ p = omega (arith, l) in
    let b : width other ≤ p - suc (width arm) = omega (arith, l) in
    cond_false p (suc (width arm)) _ _ a ∙ cond_false (p - suc (width arm)) (width other) _ _ b ∙ ap (left_in rounds d (tree_of rest)) (omega (arith, l))
later_left rounds d (statement.Loop n body) rest zero l = absurd (omega (arith, l))
later_left rounds d (statement.Loop n body) rest (suc p) l =
    let a : suc (width body) ≤ p = omega (arith, l) in
    cond_false p (suc (width body)) _ _ a ∙ ap (left_in rounds d (tree_of rest)) (omega (arith, l))

-- in an arm
pub left_in_arm : (rounds : List ℕ) (d : ℕ) (arm other : Statements) (p : ℕ) → 0 < p → p ≤ width arm + 1
    → left_in rounds d (If arm other Done) p ≡ left_in rounds d arm (p - 1)
left_in_arm rounds d arm other zero some l = absurd (omega (arith, some))
left_in_arm rounds d arm other (suc p) some l =
    cond_true p (suc (width arm)) _ _ (omega (arith, l)) ∙ append-nil (left_in rounds d arm p) ∙ ap (left_in rounds d arm) (omega arith)

pub left_in_other : (rounds : List ℕ) (d : ℕ) (arm other : Statements) (p : ℕ) → width arm + 1 < p → p < width (If arm other Done)
    → left_in rounds d (If arm other Done) p ≡ left_in rounds d other (p - width arm - 2)
left_in_other rounds d arm other zero some l = absurd (omega (arith, some))
left_in_other rounds d arm other (suc p) some l =
    cond_false p (suc (width arm)) _ _ (omega (arith, some)) ∙ cond_true (p - suc (width arm)) (width other) _ _ (omega (arith, some, l))
    ∙ append-nil (left_in rounds d other (p - suc (width arm))) ∙ ap (left_in rounds d other) (omega (arith, some))

-- in a loop
pub left_in_loop : (rounds : List ℕ) (d n : ℕ) (body : Statements) (p : ℕ) → 0 < p → p < width (Loop n body Done)
    → left_in rounds d (Loop n body Done) p ≡ left_in rounds (d + 1) body (p - 1) ++ loop_key (slice_index rounds d) n body
left_in_loop rounds d n body zero some l = absurd (omega (arith, some))
left_in_loop rounds d n body (suc p) some l =
    cond_true p (suc (width body)) _ _ (omega (arith, l))
    ∙ ap (λ t. left_in rounds (suc d) body p ++ t) (append-nil (loop_key (slice_index rounds d) n body))
    ∙ (λ i. left_in rounds (deeper i) body (same i) ++ loop_key (slice_index rounds d) n body)
  where
    deeper : suc d ≡ d + 1
    deeper = omega arith

    same : p ≡ suc p - 1
    same = omega arith

-- STATEMENTS ONE BY ONE

pub all_here : (items : List Statement) (i : ℕ) (s : Statement) → i < length items → s ≡ get_or items i s
    → statements_key (tree_of (drop i items)) ≡ statements_key (tree_of (s ∷ [])) ++ statements_key (tree_of (drop (i + 1) items))
all_here items i s l e = ap (λ t. statements_key (tree_of t)) (here_is items i s l e) ∙ first_key s (drop (i + 1) items)

pub width_here : (items : List Statement) (i : ℕ) (s : Statement) → i < length items → s ≡ get_or items i s
    → width (tree_of (drop i items)) ≡ width (tree_of (s ∷ [])) + width (tree_of (drop (i + 1) items))
width_here items i s l e = ap (λ t. width (tree_of t)) (here_is items i s l e) ∙ first_width s (drop (i + 1) items)

pub left_here : (rounds : List ℕ) (d : ℕ) (items : List Statement) (i : ℕ) (s : Statement) (p : ℕ) → i < length items → s ≡ get_or items i s
    → p < width (tree_of (s ∷ []))
    → left_in rounds d (tree_of (drop i items)) p ≡ left_in rounds d (tree_of (s ∷ [])) p ++ statements_key (tree_of (drop (i + 1) items))
left_here rounds d items i s p l e inside =
    ap (λ t. left_in rounds d (tree_of t) p) (here_is items i s l e) ∙ first_left rounds d s (drop (i + 1) items) p inside

pub left_later : (rounds : List ℕ) (d : ℕ) (items : List Statement) (i : ℕ) (s : Statement) (p : ℕ) → i < length items → s ≡ get_or items i s
    → width (tree_of (s ∷ [])) ≤ p
    → left_in rounds d (tree_of (drop i items)) p ≡ left_in rounds d (tree_of (drop (i + 1) items)) (p - width (tree_of (s ∷ [])))
left_later rounds d items i s p l e past =
    ap (λ t. left_in rounds d (tree_of t) p) (here_is items i s l e) ∙ later_left rounds d s (drop (i + 1) items) p past
