-- The code of statements is read back as these statements.
use Rattle.std.proofs.Common.{◌≡◌, ℕ, zero, suc, ◌+◌, ◌-◌, ◌*◌, ◌<◌, ◌≤◌, List, ◌∷◌, ◌++◌, length, true, false, ◌==◌, if◌then◌else◌, Ok, Err}
use Rattle.std.proofs.Common.{ap, ◌∙◌, arith, append_assoc}
use Rattle.std.specs.Prelude.{nat_lt, nat_le, ◌&&◌}
use Rattle.std.proofs.lemmas.Bool.{and_parts, lt-ltb, leb-true, cond-true, cond-false}
use Rattle.std.proofs.lemmas.Bool.Decides.{nat_tests}
use Rattle.gq_model.specs.declared.program.Instruction.{Instruction}
use Rattle.gq_model.specs.declared.fault.CodeFault.TheVariants.{Truncated, BadNesting, BadOperand, TooLong}
use Rattle.gq_model.specs.machine.Program.{Statements, Done, Do, If, Loop, size, spelled}
use Rattle.gq_model.specs.machine.Lists.{all_of, between}
use Rattle.gq_model.specs.texts.Operands.{opcode, operands, in_range, operands_code}
use Rattle.gq_model.specs.texts.Code.{is_body, body_code, body_length, greatest_statements}
use Rattle.gq_model.specs.texts.Spelling.{spellings, shape_of_opcode}
use Rattle.gq_model.specs.texts.Decode.{decoded_then, number_at, checked, cut, operands_at}
use Rattle.gq_model.proofs.Code_laws.{number_at-spelled_2, number_at-spelled_4, cut-append, checked_true}
use Rattle.gq_model.proofs.Instruction_laws.{each_spelled, opcode_small, instruction_back}
use Rattle.gq_code.specs.internal.Bodies.{body_in, opened_at, arms_at, round_at, plain_at, choice_with, round_with, instruction_at, statement_with}
use Rattle.gq_code.specs.internal.Bodies.{continued, section_at}
use Rattle.gq_code.proofs.Coded_body_decoding.{then_along, body_in-cons}
use Rattle.gq_code.proofs.Code_lengths.{body_short}

-- PARTS

-- an instruction's number is that of no `if` and no loop
abbrev IsPlain : Instruction → Type 0
IsPlain i = (opcode i == 0x40 ≡ false) × (opcode i == 0x41 ≡ false)

each_plain : (i : Instruction) → IsPlain i
each_plain i = let small = opcode_small i in (other (opcode i) 0x40 (omega (arith, small)), other (opcode i) 0x41 (omega (arith, small)))
  where
    other : (a b : ℕ) → a < b → (a == b) ≡ false
    other a b less = grind (arith, nat_tests, less)

plain_back : (i : Instruction) (k : ℕ) (rest : List ℕ) → all_of in_range (operands i) ≡ true → k < greatest_statements →
    plain_at (shape_of_opcode (opcode i) spellings) k (operands_code (operands i) ++ rest) ≡ Ok (i, (suc k, rest))
plain_back i k rest h less =
    let bytes = operands_code (operands i) ++ rest in
    ap (λ o. plain_at o k bytes) (each_spelled i).1
    ∙ (cond-true (nat_lt k greatest_statements) (decoded_then (operands_at (each_spelled i).0 bytes) (λ p.
    Ok (p.0, (suc k, p.1)))) (Err TooLong) (lt-ltb k greatest_statements less)
    ∙ ap (λ x. decoded_then x (λ p. Ok (p.0, (suc k, p.1)))) (instruction_back i rest h))

opened_back : (d k : ℕ) → k < greatest_statements → opened_at (suc d) k ≡ Ok (d, suc k)
opened_back d k less = cond-true (nat_lt k greatest_statements) (Ok (d, suc k)) (Err TooLong) (lt-ltb k greatest_statements less)

arms_is : (a b : ℕ) (bytes second third fourth arm other rest : List ℕ) → number_at 4 BadNesting bytes ≡ Ok (a, second) →
    number_at 4 BadNesting second ≡ Ok (b, third) → cut a BadNesting third ≡ Ok (arm, fourth) → cut b BadNesting fourth ≡ Ok (other, rest) →
    arms_at bytes ≡ Ok (arm, (other, rest))
arms_is a b bytes second third fourth arm other rest e f g h = then_along _ e ∙ (then_along _ f ∙ (then_along _ g ∙ then_along _ h))

arms_back : (arm other rest : List ℕ) → length arm ≤ 4294967295 → length other ≤ 4294967295 →
    arms_at (body_length arm ++ body_length other ++ arm ++ other ++ rest) ≡ Ok (arm, (other, rest))
arms_back arm other rest h k =
    let a = length arm in
    let b = length other in
    ap (λ l. arms_at (spelled 4 a ++ (spelled 4 b ++ l))) (append_assoc arm other rest)
    ∙ arms_is a b (spelled 4 a ++ (spelled 4 b ++ (arm ++ (other ++ rest)))) (spelled 4 b ++ (arm ++ (other ++ rest))) (arm ++ (other ++ rest)) (other ++
    rest) arm other rest (number_at-spelled_4 BadNesting a (spelled 4 b ++ (arm ++ (other ++ rest))) h) (number_at-spelled_4 BadNesting b (arm ++
    (other ++ rest)) k) (cut-append BadNesting arm (other ++ rest)) (cut-append BadNesting other rest)

round_is : (c b : ℕ) (bytes second third body rest : List ℕ) → number_at 2 BadNesting bytes ≡ Ok (c, second) →
    checked {A = ℕ × List ℕ} (nat_lt 0 c) BadOperand (c, second) ≡ Ok (c, second) → number_at 4 BadNesting second ≡ Ok (b, third) →
    cut b BadNesting third ≡ Ok (body, rest) → round_at bytes ≡ Ok (c, (body, rest))
round_is c b bytes second third body rest e f g h = then_along _ e ∙ (then_along _ f ∙ (then_along _ g ∙ then_along _ h))

round_back : (c : ℕ) (body rest : List ℕ) → 0 < c → c ≤ 65535 → length body ≤ 4294967295 →
    round_at (spelled 2 c ++ body_length body ++ body ++ rest) ≡ Ok (c, (body, rest))
round_back c body rest some h k =
    let b = length body in
    let second = spelled 4 b ++ (body ++ rest) in
    round_is c b (spelled 2 c ++ second) second (body ++
    rest) body rest (number_at-spelled_2 BadNesting c second h) (checked_true {A = ℕ ×
    List ℕ} (nat_lt 0 c) BadOperand (c, second) (lt-ltb 0 c some)) (number_at-spelled_4 BadNesting b (body ++ rest) k) (cut-append BadNesting body rest)

-- STATEMENTS

do_back : (i : Instruction) (n k : ℕ) (rest : List ℕ) → all_of in_range (operands i) ≡ true → k < greatest_statements →
    statement_with body_in (opcode i) n k (operands_code (operands i) ++ rest) ≡ Ok (Do i Done, (suc k, rest))
do_back i n k rest h less =
    let bytes = operands_code (operands i) ++ rest in
    let op = opcode i in
    cond-false (op == 0x40) (choice_with body_in n k bytes) (if op == 0x41 then round_with body_in n k bytes else instruction_at op k bytes) (each_plain i).0
    ∙ (cond-false (op == 0x41) (round_with body_in n k bytes) (instruction_at op k bytes) (each_plain i).1
    ∙ ap (λ x. decoded_then x (λ p. Ok (Do p.0 Done, p.1))) (plain_back i k rest h less))

if_back : (d k m l : ℕ) (bytes arm other rest : List ℕ) (x y : Statements) → opened_at (suc d) k ≡ Ok (d, suc k) → arms_at bytes ≡ Ok (arm, (other, rest)) →
    body_in d (suc k) arm ≡ Ok (x, m) → body_in d m other ≡ Ok (y, l) → choice_with body_in (suc d) k bytes ≡ Ok (If x y Done, (l, rest))
if_back d k m l bytes arm other rest x y e f g h = then_along _ e ∙ (then_along _ f ∙ (then_along _ g ∙ then_along _ h))

loop_back : (c d k m : ℕ) (bytes body rest : List ℕ) (x : Statements) → opened_at (suc d) k ≡ Ok (d, suc k) → round_at bytes ≡ Ok (c, (body, rest)) →
    body_in d (suc k) body ≡ Ok (x, m) → round_with body_in (suc d) k bytes ≡ Ok (Loop c x Done, (m, rest))
loop_back c d k m bytes body rest x e f g = then_along _ e ∙ (then_along _ f ∙ then_along _ g)

-- a statement and what follows it
body_next : (n k op m l : ℕ) (bytes rest : List ℕ) (s z : Statements) → statement_with body_in op n k bytes ≡ Ok (s, (m, rest)) → body_in n m rest ≡ Ok (z, l) →
    body_in n k (op ∷ bytes) ≡ continued s (Ok (z, l))
body_next n k op m l bytes rest s z e f = body_in-cons n k op bytes ∙ (then_along _ e ∙ ap (continued s) f)

-- so many statements have a code whose length fits into four bytes
short : (n size : ℕ) → n ≤ 66 * size → size ≤ 4096 → n ≤ 4294967295
short n size h k = omega (arith, h, k)

pub body_back : (b : Statements) (n k : ℕ) → is_body n b ≡ true → k + size b ≤ greatest_statements → body_in n k (body_code b) ≡ Ok (b, k + size b)
body_back Done n k h few = ap (λ m. Ok (Done, m)) {x = k} {y = k + 0} (omega arith)
body_back (Do i rest) n k h few =
    let p = and_parts (all_of in_range (operands i)) (is_body n rest) h in
    let less : suc k ≤ greatest_statements = omega (arith, few) in
    let after = body_back rest n (suc k) p.1 (omega (arith, few)) in
    body_next n k (opcode i) (suc k) (suc k + size rest) (operands_code (operands i) ++
    body_code rest) (body_code rest) (Do i Done) rest (do_back i n k (body_code rest) p.0 less) after
    ∙ ap (λ m. Ok (Do i rest, m)) {x = suc k + size rest} {y = k + (1 + size rest)} (omega arith)
body_back (If arm other rest) zero k h few = cc
body_back (Loop c body rest) zero k h few = cc
body_back (If arm other rest) (suc d) k h few =
    let same : suc d - 1 ≡ d = omega arith in
    let p = and_parts (nat_lt 0 (suc d) && is_body (suc d - 1) arm && is_body (suc d - 1) other) (is_body (suc d) rest) h in
    let q = and_parts (nat_lt 0 (suc d) && is_body (suc d - 1) arm) (is_body (suc d - 1) other) p.0 in
    let a : is_body d arm ≡ true = rw same at ((and_parts (nat_lt 0 (suc d)) (is_body (suc d - 1) arm) q.0).1) in
    let b : is_body d other ≡ true = rw same at q.1 in
    let less : suc k ≤ greatest_statements = omega (arith, few) in
    let first = body_back arm d (suc k) a (omega (arith, few)) in
    let second = body_back other d (suc k + size arm) b (omega (arith, few)) in
    let after = body_back rest (suc d) (suc k + size arm + size other) p.1 (omega (arith, few)) in
    let x = body_code arm in
    let y = body_code other in
    let z = body_code rest in
    let bytes = body_length x ++ body_length y ++ x ++ y ++ z in
    let here =
    if_back d k (suc k + size arm) (suc k + size arm +
    size other) bytes x y z arm other (opened_back d k less) (arms_back x y z (short (length x) (size arm) (body_short d arm a) (omega (arith, few)))
    (short (length y) (size other) (body_short d other b) (omega (arith, few)))) first second in
    body_next (suc d) k 0x40 (suc k + size arm + size other) (suc k + size arm + size other + size rest) bytes z (If arm other Done) rest here after
    ∙ ap (λ m. Ok (If arm other rest, m)) {x = suc k + size arm + size other + size rest} {y = k + (1 + size arm + size other + size rest)} (omega arith)
body_back (Loop c body rest) (suc d) k h few =
    let same : suc d - 1 ≡ d = omega arith in
    let p = and_parts (nat_lt 0 (suc d) && between 1 65535 c && is_body (suc d - 1) body) (is_body (suc d) rest) h in
    let q = and_parts (nat_lt 0 (suc d) && between 1 65535 c) (is_body (suc d - 1) body) p.0 in
    let range = and_parts (nat_le 1 c) (nat_le c 65535) ((and_parts (nat_lt 0 (suc d)) (between 1 65535 c) q.0).1) in
    let a : is_body d body ≡ true = rw same at q.1 in
    let less : suc k ≤ greatest_statements = omega (arith, few) in
    let first = body_back body d (suc k) a (omega (arith, few)) in
    let after = body_back rest (suc d) (suc k + size body) p.1 (omega (arith, few)) in
    let x = body_code body in
    let z = body_code rest in
    let bytes = spelled 2 c ++ body_length x ++ x ++ z in
    let here =
    loop_back c d k (suc k +
    size body) bytes x z body (opened_back d k less) (round_back c x z (leb-true 1 c range.0) (leb-true c 65535 range.1)
    (short (length x) (size body) (body_short d body a) (omega (arith, few)))) first in
    body_next (suc d) k 0x41 (suc k + size body) (suc k + size body + size rest) bytes z (Loop c body Done) rest here after
    ∙ ap (λ m. Ok (Loop c body rest, m)) {x = suc k + size body + size rest} {y = k + (1 + size body + size rest)} (omega arith)

-- SECTIONS

section_is : (k a m : ℕ) (bytes second body rest : List ℕ) (x : Statements) → number_at 4 Truncated bytes ≡ Ok (a, second) →
    cut a Truncated second ≡ Ok (body, rest) → body_in 4 k body ≡ Ok (x, m) → section_at k bytes ≡ Ok (x, (m, rest))
section_is k a m bytes second body rest x e f g = then_along _ e ∙ (then_along _ f ∙ then_along _ g)

-- a section after its length, before other bytes
pub section_back : (b : Statements) (k : ℕ) (rest : List ℕ) → is_body 4 b ≡ true → k + size b ≤ greatest_statements →
    section_at k (body_length (body_code b) ++ (body_code b ++ rest)) ≡ Ok (b, (k + size b, rest))
section_back b k rest h few =
    let code = body_code b in
    section_is k (length code) (k + size b) (body_length code ++ (code ++ rest)) (code ++
    rest) code rest b (number_at-spelled_4 Truncated (length code) (code ++
    rest) (short (length code) (size b) (body_short 4 b h) (omega (arith, few)))) (cut-append Truncated code rest) (body_back b 4 k h few)
