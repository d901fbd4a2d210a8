-- What is decoded as statements stands in the bytes as it is spelled, and is in range.
use Rattle.std.proofs.Common.{◌≡◌, ℕ, zero, suc, ◌+◌, ◌-◌, ◌<◌, ◌≤◌, List, [], ◌∷◌, ◌++◌, length, true, Option, Some, None, Ok, refl, sym, ap, ◌∙◌, arith}
use Rattle.std.proofs.Common.{append_assoc}
use Rattle.std.specs.Prelude.{nat_lt, nat_le, ◌==◌, ◌&&◌}
use Rattle.std.proofs.lemmas.Bool.{and_from, ltb-true, lt-ltb, le-leb, eqb-true, cond_both}
use Rattle.gq_model.specs.machine.Program.{Instruction, Do, If, Loop, size, spelled}
use Rattle.gq_model.specs.machine.Lists.{all_of, between}
use Rattle.gq_model.specs.texts.Operands.{opcode, operands, in_range, operands_code}
use Rattle.gq_model.specs.texts.Code.{is_body, body_code, body_length, greatest_statements}
use Rattle.gq_model.specs.texts.Spelling.{Shape, spellings, shape_of_opcode}
use Rattle.gq_model.specs.texts.Decode.{BadNesting, BadOperand, Decoded, decoded_then, cut, number_at, checked, operands_at, Body, one_more, one_deeper, plain}
use Rattle.gq_model.specs.texts.Decode.{body_at}
use Rattle.gq_model.proofs.Holding_results.{Holds, holds_then}
use Rattle.gq_model.proofs.Byte_number_spelling.{AreBytes}
use Rattle.gq_model.proofs.Shape_spelling.{opcode_fills}
use Rattle.gq_model.proofs.Decoded_operands.{number_holds, cut_holds, checked_holds, operands_holds, IsNumber}

-- statements with at most n blocks in one another, after k others
pub record IsBody (n k : ℕ) (bytes : List ℕ) (x : Body) : Type 0 where
  pub body : is_body n x.0 ≡ true
  pub count : x.1 ≡ k + size x.0
  pub few : k ≤ greatest_statements → x.1 ≤ greatest_statements
  pub code : bytes ≡ body_code x.0

deeper_holds : {A : Type 0} (P : A → Type 0) (n : ℕ) (go : ℕ → Decoded A) → ((d : ℕ) → n ≡ suc d → Holds P (go d)) → Holds P (one_deeper n go)
deeper_holds P zero go h = tt
deeper_holds P (suc d) go h = h d refl

more_holds : {A : Type 0} (P : A → Type 0) (k : ℕ) (go : ℕ → Decoded A) → (k < greatest_statements → Holds P (go (suc k))) → Holds P (one_more k go)
more_holds P k go h = cond_both (nat_lt k greatest_statements) (go (suc k)) _ (Holds P) (λ t. h (ltb-true k greatest_statements t)) (λ _. tt)

plain_holds : (P : Body → Type 0) (o : Option Shape) (k : ℕ) (bytes : List ℕ) (go : Instruction × List ℕ → ℕ → Decoded Body)
    → ((shape : Shape) → o ≡ Some shape → k < greatest_statements → Holds P (decoded_then (operands_at shape bytes) (λ p. go p (suc k))))
    → Holds P (plain o k bytes go)
plain_holds P None k bytes go h = tt
plain_holds P (Some shape) k bytes go h = more_holds P k (λ m. decoded_then (operands_at shape bytes) (λ p. go p m)) (λ t. h shape refl t)

-- the lengths of both arms stand before them, a loop's before its body
arms_code : (a b : ℕ) (first second rest arm other after : List ℕ) → first ≡ arm → second ≡ other → rest ≡ after → length first ≡ a → length second ≡ b
    → spelled 4 a ++ spelled 4 b ++ first ++ second ++ rest ≡ body_length arm ++ body_length other ++ arm ++ other ++ after
arms_code a b first second rest arm other after e f g l m = rw (← e, ← f, ← g, ← l, ← m) refl

round_code : (c b : ℕ) (body rest inner after : List ℕ) → body ≡ inner → rest ≡ after → length body ≡ b
    → spelled 2 c ++ spelled 4 b ++ body ++ rest ≡ spelled 2 c ++ body_length inner ++ inner ++ after
round_code c b body rest inner after e f l = rw (← e, ← f, ← l) refl

-- each way on, from what was read

do_is : (n k op : ℕ) (i : Instruction) (bytes rest : List ℕ) (z : Body) → k < greatest_statements → opcode i ≡ op → all_of in_range (operands i) ≡ true
    → bytes ≡ operands_code (operands i) ++ rest → IsBody n (suc k) rest z → IsBody n k (op ∷ bytes) (Do i z.0, z.1)
do_is n k op i bytes rest z less number fits whole b = record {
  body = and_from (all_of in_range (operands i)) (is_body n z.0) fits b.body;
  count = omega (arith, b.count);
  few = λ _. b.few less;
  code = rw (← number, whole, ← b.code) refl;
}

if_is : (n d k a b : ℕ) (bytes first second rest : List ℕ) (x y z : Body) → k < greatest_statements → n ≡ suc d
    → bytes ≡ spelled 4 a ++ spelled 4 b ++ first ++ second ++ rest → length first ≡ a → length second ≡ b → IsBody d (suc k) first x → IsBody d x.1 second y
    → IsBody n y.1 rest z → IsBody n k (0x40 ∷ bytes) (If x.0 y.0 z.0, z.1)
if_is n d k a b bytes first second rest x y z less deep whole long other_long p q r =
    let d_is : n - 1 ≡ d = omega (arith, deep) in
    let arm : is_body (n - 1) x.0 ≡ true = rw d_is p.body in
    let other : is_body (n - 1) y.0 ≡ true = rw d_is q.body in
    let positive : nat_lt 0 n ≡ true = lt-ltb 0 n (omega (arith, deep)) in
    record {
      body = and_from (nat_lt 0 n && is_body (n - 1) x.0 && is_body (n - 1) y.0) (is_body n z.0)
          (and_from (nat_lt 0 n && is_body (n - 1) x.0) (is_body (n - 1) y.0) (and_from (nat_lt 0 n) (is_body (n - 1) x.0) positive arm) other) r.body;
      count = omega (arith, p.count, q.count, r.count);
      few = λ _. r.few (q.few (p.few less));
      code = ap (λ l. 0x40 ∷ l) (whole ∙ arms_code a b first second rest (body_code x.0) (body_code y.0) (body_code z.0) p.code q.code r.code long other_long);
    }

loop_is : (n d k c b : ℕ) (bytes body rest : List ℕ) (x z : Body) → k < greatest_statements → n ≡ suc d → 0 < c → c < 65536
    → bytes ≡ spelled 2 c ++ spelled 4 b ++ body ++ rest → length body ≡ b → IsBody d (suc k) body x → IsBody n x.1 rest z
    → IsBody n k (0x41 ∷ bytes) (Loop c x.0 z.0, z.1)
loop_is n d k c b bytes body rest x z less deep some below whole long p r =
    let d_is : n - 1 ≡ d = omega (arith, deep) in
    let inner : is_body (n - 1) x.0 ≡ true = rw d_is p.body in
    let positive : nat_lt 0 n ≡ true = lt-ltb 0 n (omega (arith, deep)) in
    let low : nat_le 1 c ≡ true = le-leb 1 c some in
    let high : nat_le c 65535 ≡ true = le-leb c 65535 (omega (arith, below)) in
    record {
      body = and_from (nat_lt 0 n && between 1 65535 c && is_body (n - 1) x.0) (is_body n z.0)
          (and_from (nat_lt 0 n && between 1 65535 c) (is_body (n - 1) x.0)
          (and_from (nat_lt 0 n) (between 1 65535 c) positive (and_from (nat_le 1 c) (nat_le c 65535) low high)) inner) r.body;
      count = omega (arith, p.count, r.count);
      few = λ _. r.few (p.few less);
      code = ap (λ l. 0x41 ∷ l) (whole ∙ round_code c b body rest (body_code x.0) (body_code z.0) p.code r.code long);
    }

-- ALL STATEMENTS

-- where bodies are read so with this fuel
abbrev Reads : ℕ → Type 0
Reads fuel = (n k : ℕ) (bytes : List ℕ) → AreBytes bytes → Holds (IsBody n k bytes) (body_at fuel n k bytes)

-- the arms of an `if` in d blocks, the m-th statement, and what follows it
abbrev choice_from : ℕ → ℕ → List ℕ → ℕ → ℕ → Decoded Body
choice_from fuel n bytes d m =
    decoded_then (number_at 4 BadNesting bytes) (λ a. decoded_then (number_at 4 BadNesting a.1) (λ b.
    decoded_then (cut a.0 BadNesting b.1) (λ arm. decoded_then (cut b.0 BadNesting arm.1) (λ other.
    decoded_then (body_at fuel d m arm.0) (λ x. decoded_then (body_at fuel d x.1 other.0) (λ y.
    decoded_then (body_at fuel n y.1 other.1) (λ z. Ok (If x.0 y.0 z.0, z.1))))))))

-- a loop
abbrev round_from : ℕ → ℕ → List ℕ → ℕ → ℕ → Decoded Body
round_from fuel n bytes d m =
    decoded_then (number_at 2 BadNesting bytes) (λ c. decoded_then (checked (nat_lt 0 c.0) BadOperand c) (λ c.
    decoded_then (number_at 4 BadNesting c.1) (λ b. decoded_then (cut b.0 BadNesting b.1) (λ body.
    decoded_then (body_at fuel d m body.0) (λ x. decoded_then (body_at fuel n x.1 body.1) (λ z. Ok (Loop c.0 x.0 z.0, z.1)))))))

choice_holds : (fuel n k : ℕ) (bytes : List ℕ) → AreBytes bytes → Reads fuel
    → Holds (IsBody n k (0x40 ∷ bytes)) (one_deeper n (λ d. one_more k (choice_from fuel n bytes d)))
choice_holds fuel n k bytes h reads =
    let P = IsBody n k (0x40 ∷ bytes) in
    deeper_holds P n (λ d. one_more k (choice_from fuel n bytes d)) (λ d deep. more_holds P k (choice_from fuel n bytes d) (λ less.
    holds_then P (number_at 4 BadNesting bytes) _ (number_holds 4 BadNesting bytes h) (λ a na.
    holds_then P (number_at 4 BadNesting a.1) _ (number_holds 4 BadNesting a.1 na.rest) (λ b nb.
    holds_then P (cut a.0 BadNesting b.1) _ (cut_holds a.0 BadNesting b.1 nb.rest) (λ arm ca.
    holds_then P (cut b.0 BadNesting arm.1) _ (cut_holds b.0 BadNesting arm.1 ca.rest) (λ other co.
    holds_then P (body_at fuel d (suc k) arm.0) _ (reads d (suc k) arm.0 ca.first) (λ x bx.
    holds_then P (body_at fuel d x.1 other.0) _ (reads d x.1 other.0 co.first) (λ y by.
    holds_then P (body_at fuel n y.1 other.1) _ (reads n y.1 other.1 co.rest) (λ z bz.
    if_is n d k a.0 b.0 bytes arm.0 other.0 other.1 x y z less deep
    (na.whole ∙ ap (λ l. spelled 4 a.0 ++ l) (nb.whole ∙ ap (λ l. spelled 4 b.0 ++ l) (ca.whole
    ∙ (ap (λ l. arm.0 ++ l) co.whole ∙ sym (append_assoc arm.0 other.0 other.1)))))
    ca.long co.long bx by bz)))))))))

round_holds : (fuel n k : ℕ) (bytes : List ℕ) → AreBytes bytes → Reads fuel
    → Holds (IsBody n k (0x41 ∷ bytes)) (one_deeper n (λ d. one_more k (round_from fuel n bytes d)))
round_holds fuel n k bytes h reads =
    let P = IsBody n k (0x41 ∷ bytes) in
    deeper_holds P n (λ d. one_more k (round_from fuel n bytes d)) (λ d deep. more_holds P k (round_from fuel n bytes d) (λ less.
    holds_then P (number_at 2 BadNesting bytes) _ (number_holds 2 BadNesting bytes h) (λ c nc.
    holds_then {P = λ q. (q ≡ c) × (nat_lt 0 q.0 ≡ true)} P (checked (nat_lt 0 c.0) BadOperand c) _
    (checked_holds _ (nat_lt 0 c.0) BadOperand c (λ t. (refl, t))) (λ q some.
    let nq : IsNumber 2 bytes q = rw some.0 nc in
    holds_then P (number_at 4 BadNesting q.1) _ (number_holds 4 BadNesting q.1 nq.rest) (λ b nb.
    holds_then P (cut b.0 BadNesting b.1) _ (cut_holds b.0 BadNesting b.1 nb.rest) (λ body cb.
    holds_then P (body_at fuel d (suc k) body.0) _ (reads d (suc k) body.0 cb.first) (λ x bx.
    holds_then P (body_at fuel n x.1 body.1) _ (reads n x.1 body.1 cb.rest) (λ z bz.
    loop_is n d k q.0 b.0 bytes body.0 body.1 x z less deep (ltb-true 0 q.0 some.1) (nq.short.1 refl)
    (nq.whole ∙ ap (λ l. spelled 2 q.0 ++ l) (nb.whole ∙ ap (λ l. spelled 4 b.0 ++ l) cb.whole))
    cb.long bx bz))))))))

other_holds : (fuel n k op : ℕ) (bytes : List ℕ) → AreBytes bytes → Reads fuel
    → Holds (IsBody n k (op ∷ bytes)) (plain (shape_of_opcode op spellings) k bytes (λ p m. decoded_then (body_at fuel n m p.1) (λ z. Ok (Do p.0 z.0, z.1))))
other_holds fuel n k op bytes h reads =
    let P = IsBody n k (op ∷ bytes) in
    plain_holds P (shape_of_opcode op spellings) k bytes _ (λ shape found less.
    holds_then P (operands_at shape bytes) _ (operands_holds shape op [] bytes (opcode_fills op shape found) refl h) (λ p i.
    holds_then P (body_at fuel n (suc k) p.1) _ (reads n (suc k) p.1 i.rest) (λ z bz. do_is n k op p.0 bytes p.1 z less i.number i.fits i.whole bz)))

pub body_holds : (fuel : ℕ) → Reads fuel
body_holds zero n k [] h = record { body = refl; count = omega arith; few = λ l. l; code = refl }
body_holds (suc fuel) n k [] h = record { body = refl; count = omega arith; few = λ l. l; code = refl }
body_holds zero n k (op ∷ bytes) h = tt
body_holds (suc fuel) n k (op ∷ bytes) h =
    cond_both (op == 0x40) _ _ (Holds (IsBody n k (op ∷ bytes)))
    (λ t. rw (eqb-true op 0x40 t) (choice_holds fuel n k bytes h.1 (body_holds fuel)))
    (λ _. cond_both (op == 0x41) _ _ (Holds (IsBody n k (op ∷ bytes)))
    (λ t. rw (eqb-true op 0x41 t) (round_holds fuel n k bytes h.1 (body_holds fuel)))
    (λ _. other_holds fuel n k op bytes h.1 (body_holds fuel)))
