-- The statements that do not fit into eight bytes say a text or open a session.
use Rattle.std.proofs.Common.{◌≡◌, ◌+◌, ◌-◌, ◌<◌, ◌≤◌, ℕ, zero, suc, List, [], ◌∷◌, ◌++◌, length, Option, Some, None, refl, sym, ap, subst, ◌∙◌, arith}
use Rattle.std.proofs.Common.{length-append}
use Rattle.std.specs.Prelude.{slice_get}
use Rattle.gq_model.specs.declared.program.Instruction.{Instruction}
use Rattle.gq_model.specs.declared.program.Instruction.TheVariants.{Open, Say}
use Rattle.gq_model.specs.machine.Program.{Statements, Done, Do, If, Loop}
use Rattle.gq_model.proofs.Small_facts.{none_some, some_same}
use Rattle.gq_bytecode.specs.declared.operation.Operation.{Operation}
use Rattle.gq_bytecode.specs.declared.operation.Operation.TheVariants.{End, Long}
use Rattle.gq_bytecode.specs.Bytecode_layout.{IsCodeOf, operations, long_of, long_one, next_number, numbered, with_number}
use Rattle.gq_bytecode.proofs.Numbered_long_statements.{number_after, number_append, number_operations}
use Rattle.gq_machine.specs.internal.Longs.{IsLongOne}

-- ALL LONG STATEMENTS OF A BODY

abbrev AllLong : List Instruction → Type 0
AllLong [] = Unit {0}
AllLong (i ∷ rest) = IsLongOne i × AllLong rest

long_append : (xs ys : List Instruction) → AllLong xs → AllLong ys → AllLong (xs ++ ys)
long_append [] ys h k = k
long_append (x ∷ xs) ys h k = (h.0, long_append xs ys h.1 k)

one_long : (i : Instruction) → AllLong (long_one i)
one_long (Say text) = (tt, tt)
one_long (Open place name n) = (tt, tt)
one_long _ = tt

all_long : (s : Statements) → AllLong (long_of s)
all_long Done = tt
all_long (Do i rest) = long_append (long_one i) (long_of rest) (one_long i) (all_long rest)
all_long (If arm other rest) =
    long_append (long_of arm) (long_of other ++ long_of rest) (all_long arm) (long_append (long_of other) (long_of rest) (all_long other) (all_long rest))
all_long (Loop n body rest) = long_append (long_of body) (long_of rest) (all_long body) (all_long rest)

-- NUMBERS

next_more : (k : ℕ) (does : Operation) → k ≤ next_number k does
next_more k (Long m) = omega arith
next_more k _ = omega arith

after_more : (k : ℕ) (code : List Operation) → k ≤ number_after k code
after_more k [] = omega arith
after_more k (does ∷ rest) = let a = next_more k does in let b = after_more (next_number k does) rest in omega (arith, a, b)

-- a number is one of those that the code has
record Between (k end n : ℕ) : Type 0 where
  least : k ≤ n
  below : n < end

here : (k n : ℕ) (does : Operation) (rest : List Operation) → with_number k does ≡ Long n → Between k (number_after (next_number k does) rest) n
here k n (Long m) rest e =
    let same : k ≡ n = ap number_or e in let after = after_more (suc k) rest in record { least = omega (arith, same); below = omega (arith, same, after) }
  where
    number_or : Operation → ℕ
    number_or (Long m) = m
    number_or _ = 0
here k n _ rest e = cc

between : (k : ℕ) (code : List Operation) (p n : ℕ) → slice_get (numbered k code) p ≡ Some (Long n) → Between k (number_after k code) n
between k [] p n e = absurd (none_some e)
between k (does ∷ rest) zero n e = here k n does rest (some_same e)
between k (does ∷ rest) (suc p) n e =
    let b = between (next_number k does) rest p n e in
    let least = b.least in
    let more = next_more k does in
    record { least = omega (arith, least, more); below = b.below }

-- THE LIST

behind : (before xs : List Instruction) (n m : ℕ) → n ≡ length before + m → slice_get (before ++ xs) n ≡ slice_get xs m
behind [] xs n m e = let same : n ≡ m = omega (arith, e) in ap (slice_get xs) same
behind (b ∷ before) xs zero m e = absurd (omega (arith, e))
behind (b ∷ before) xs (suc n) m e = behind before xs n m (omega (arith, e))

long_at : (xs after : List Instruction) (m : ℕ) (i : Instruction) → AllLong xs → m < length xs → slice_get (xs ++ after) m ≡ Some i → IsLongOne i
long_at [] after m i h less e = absurd (omega (arith, less))
long_at (x ∷ xs) after zero i h less e = subst IsLongOne (some_same e) h.0
long_at (x ∷ xs) after (suc m) i h less e = long_at xs after m i h.1 (omega (arith, less)) e

-- what a long statement of the code is
pub long_kind : (code : List Operation) (longs : List Instruction) (body : Statements) (p n : ℕ) (i : Instruction) → IsCodeOf code longs body
    → slice_get code p ≡ Some (Long n) → slice_get longs n ≡ Some i → IsLongOne i
long_kind code longs body p n i of there listed =
    let b = between of.first (operations 0 body ++ End ∷ []) p n (ap (λ c. slice_get c p) (sym of.code_is) ∙ there) in
    let end : number_after of.first (operations 0 body ++ End ∷ []) ≡ of.first + length (long_of body) =
    number_append of.first (operations 0 body) (End ∷ []) ∙ number_operations of.first 0 body in
    let first = of.first_is in
    let least = b.least in
    let below = b.below in
    let m = n - length of.before in
    long_at (long_of body) of.after m i (all_long body) (omega (arith, end, first, least, below))
    (sym (behind of.before (long_of body ++ of.after) n m (omega (arith, first, least))) ∙ ap (λ xs. slice_get xs n) (sym of.longs_are) ∙ listed)
