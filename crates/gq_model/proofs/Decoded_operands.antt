-- What is decoded as operands stands in the bytes as it is spelled.
use Rattle.std.proofs.Common.{◌≡◌, ℕ, zero, suc, ◌%◌, ◌-◌, ◌<◌, ◌≤◌, List, [], ◌∷◌, ◌++◌, length, Bool, true, false, Option, Some, None, Ok, Err, refl, sym, ap}
use Rattle.std.proofs.Common.{◌∙◌, arith, append_assoc, append-nil}
use Rattle.std.specs.Prelude.{nat_lt, nat_le, ◌==◌, ◌&&◌, if◌then◌else◌}
use Rattle.std.proofs.lemmas.Bool.{and_parts, and_from, ltb-true, ltb-false, lt-ltb, eqb-true, cond_both}
use Rattle.gq_model.specs.machine.Program.{OperandSlot, Own, Shared, Object, Instruction, spelled, little}
use Rattle.gq_model.specs.machine.Lists.{all_of, between}
use Rattle.gq_model.specs.texts.Letters.{is_name_byte, is_said_byte}
use Rattle.gq_model.specs.texts.Operands
use Rattle.gq_model.specs.texts.Operands.{Operand, opcode, operands, in_range, is_slot, is_slot_or_object, slot_code, operand_code, operands_code}
use Rattle.gq_model.specs.texts.Spelling
use Rattle.gq_model.specs.texts.Spelling.{Shape, Made}
use Rattle.gq_model.specs.texts.Decode.{CodeFault, BadNesting, BadOperand, Decoded, first_onto, cut, number_at, checked, place_of, found, text_at, operands_at}
use Rattle.gq_model.proofs.Holding_results.{Holds, holds_then}
use Rattle.gq_model.proofs.Byte_number_spelling.{AreBytes, spelled-little}
use Rattle.gq_model.proofs.Shape_spelling.{Fills}

-- PARTS

-- the first n of these bytes and what follows them
pub record IsCut (n : ℕ) (bytes : List ℕ) (p : List ℕ × List ℕ) : Type 0 where
  pub whole : bytes ≡ p.0 ++ p.1
  pub long : length p.0 ≡ n
  pub first : AreBytes p.0
  pub rest : AreBytes p.1

cut_onto : (b n : ℕ) (bytes : List ℕ) (x : Decoded (List ℕ × List ℕ)) → b < 256 → Holds (IsCut n bytes) x → Holds (IsCut (suc n) (b ∷ bytes)) (first_onto b x)
cut_onto b n bytes (Ok p) h c = record { whole = ap (λ l. b ∷ l) c.whole; long = omega (arith, c.long); first = (h, c.first); rest = c.rest }
cut_onto b n bytes (Err fault) h c = tt

pub cut_holds : (n : ℕ) (fault : CodeFault) (bytes : List ℕ) → AreBytes bytes → Holds (IsCut n bytes) (cut n fault bytes)
cut_holds zero fault bytes h = record { whole = refl; long = refl; first = tt; rest = h }
cut_holds (suc n) fault [] h = tt
cut_holds (suc n) fault (b ∷ bytes) h = cut_onto b n bytes (cut n fault bytes) h.0 (cut_holds n fault bytes h.1)

-- a number of so many bytes and what follows it
pub record IsNumber (width : ℕ) (bytes : List ℕ) (p : ℕ × List ℕ) : Type 0 where
  pub whole : bytes ≡ spelled width p.0 ++ p.1
  pub short : (width ≡ 1 → p.0 < 256) × (width ≡ 2 → p.0 < 65536)
  pub rest : AreBytes p.1

number_short : (bytes : List ℕ) → AreBytes bytes → (length bytes ≡ 1 → little bytes < 256) × (length bytes ≡ 2 → little bytes < 65536)
number_short [] h = (λ e. omega (arith, e), λ e. omega (arith, e))
number_short (a ∷ []) h = (λ e. omega (arith, h.0), λ e. omega (arith, e))
number_short (a ∷ b ∷ []) h = (λ e. omega (arith, e), λ e. omega (arith, h.0, h.1.0))
number_short (a ∷ b ∷ c ∷ rest) h = (λ e. omega (arith, e), λ e. omega (arith, e))

pub number_holds : (width : ℕ) (fault : CodeFault) (bytes : List ℕ) → AreBytes bytes → Holds (IsNumber width bytes) (number_at width fault bytes)
number_holds width fault bytes h =
    holds_then (IsNumber width bytes) (cut width fault bytes) (λ p. Ok (little p.0, p.1)) (cut_holds width fault bytes h) (λ p c.
    record {
      whole = c.whole ∙ ap (λ l. l ++ p.1) (sym (spelled-little p.0 c.first) ∙ ap (λ n. spelled n (little p.0)) c.long);
      short = rw (← c.long) (number_short p.0 c.first);
      rest = c.rest;
    })

-- what passes a test
pub checked_holds : {A : Type 0} (P : A → Type 0) (b : Bool) (fault : CodeFault) (a : A) → (b ≡ true → P a) → Holds P (checked b fault a)
checked_holds P true fault a h = h refl
checked_holds P false fault a h = tt

pub found_holds : {A B : Type 0} (P : B → Type 0) (o : Option A) (go : A → Decoded B) → ((a : A) → o ≡ Some a → Holds P (go a)) → Holds P (found o go)
found_holds P None go h = tt
found_holds P (Some a) go h = h a refl

-- a text after its length, and what follows it
pub record IsText (low high : ℕ) (test : ℕ → Bool) (bytes : List ℕ) (p : List ℕ × List ℕ) : Type 0 where
  pub whole : bytes ≡ (length p.0 ∷ p.0) ++ p.1
  pub long : between low high (length p.0) ≡ true
  pub fits : all_of test p.0 ≡ true
  pub rest : AreBytes p.1

pub one_byte : (n : ℕ) → n < 256 → spelled 1 n ≡ n ∷ []
one_byte n h = let same : n % 256 ≡ n = omega (arith, h) in rw same refl

pub text_holds : (low high : ℕ) (test : ℕ → Bool) (bytes : List ℕ) → AreBytes bytes → Holds (IsText low high test bytes) (text_at low high test bytes)
text_holds low high test bytes h =
    let P = IsText low high test bytes in
    holds_then P (number_at 1 BadNesting bytes) _ (number_holds 1 BadNesting bytes h) (λ p n.
    holds_then {P = λ q. (q ≡ p) × (between low high q.0 ≡ true)} P (checked (between low high p.0) BadOperand p) _
    (checked_holds _ (between low high p.0) BadOperand p (λ t. (refl, t))) (λ q k.
    let more : AreBytes q.1 = rw k.0 n.rest in
    holds_then P (cut q.0 BadNesting q.1) _ (cut_holds q.0 BadNesting q.1 more) (λ r c.
    checked_holds P (all_of test r.0) BadOperand r (λ t.
    let small : q.0 < 256 = rw k.0 (n.short.0 refl) in
    let start : bytes ≡ q.0 ∷ q.1 = rw k.0 (n.whole ∙ ap (λ l. l ++ p.1) (one_byte p.0 (n.short.0 refl))) in
    record {
      whole = start ∙ (ap (λ l. q.0 ∷ l) c.whole ∙ ap (λ n. n ∷ r.0 ++ r.1) (sym c.long));
      long = rw c.long k.1;
      fits = t;
      rest = c.rest;
    }))))

-- SLOTS

-- a slot of that number
record IsPlace (object : Bool) (n : ℕ) (p : OperandSlot) : Type 0 where
  code : slot_code p ≡ n
  fits : (if object then is_slot_or_object p else is_slot p) ≡ true

own_fits : (object : Bool) (i : ℕ) → nat_lt i 64 ≡ true → (if object then is_slot_or_object (Own i) else is_slot (Own i)) ≡ true
own_fits true i h = h
own_fits false i h = h

shared_fits : (object : Bool) (i : ℕ) → nat_lt i 8 ≡ true → (if object then is_slot_or_object (Shared i) else is_slot (Shared i)) ≡ true
shared_fits true i h = h
shared_fits false i h = h

object_fits : (object : Bool) → object ≡ true → (if object then is_slot_or_object Object else is_slot Object) ≡ true
object_fits true e = refl
object_fits false e = cc

-- past the own slots
past_own : (object : Bool) (n : ℕ) (p : OperandSlot) → 64 ≤ n
    → (if nat_lt n 72 then Some (Shared (n - 64)) else (if object && n == 72 then Some Object else None)) ≡ Some p → IsPlace object n p
past_own object n p above e =
    cond_both (nat_lt n 72) (Some (Shared (n - 64))) (if object && n == 72 then Some Object else None) (λ o. o ≡ Some p → IsPlace object n p)
    (λ t same.
    let below = ltb-true n 72 t in
    let here : IsPlace object n (Shared (n - 64)) = record {
      code = omega (arith, above);
      fits = shared_fits object (n - 64) (lt-ltb (n - 64) 8 (omega (arith, above, below)));
    } in
    let is : Shared (n - 64) ≡ p = cc in rw is at here)
    (λ _ last.
    cond_both (object && n == 72) (Some Object) None (λ o. o ≡ Some p → IsPlace object n p)
    (λ t same.
    let parts = and_parts object (n == 72) t in
    let here : IsPlace object n Object = record { code = sym (eqb-true n 72 parts.1); fits = object_fits object parts.0 } in
    let is : Object ≡ p = cc in rw is at here)
    (λ _ none. cc)
    last)
    e

place_is : (object : Bool) (n : ℕ) (p : OperandSlot) → place_of object n ≡ Some p → IsPlace object n p
place_is object n p e =
    cond_both (nat_lt n 64) (Some (Own n)) (if nat_lt n 72 then Some (Shared (n - 64)) else (if object && n == 72 then Some Object else None)) (λ o. o ≡ Some p
    → IsPlace object n p)
    (λ t same. let here : IsPlace object n (Own n) = record { code = refl; fits = own_fits object n t } in let is : Own n ≡ p = cc in rw is at here)
    (λ t more. past_own object n p (ltb-false n 64 t) more)
    e

-- OPERANDS

-- the instruction, after these operands of it, and what follows it
pub record IsInstruction (op : ℕ) (before : List Operand) (bytes : List ℕ) (p : Instruction × List ℕ) : Type 0 where
  pub number : opcode p.0 ≡ op
  pub fits : all_of in_range (operands p.0) ≡ true
  pub whole : operands_code before ++ bytes ≡ operands_code (operands p.0) ++ p.1
  pub rest : AreBytes p.1

operands_code-append : (ops more : List Operand) → operands_code (ops ++ more) ≡ operands_code ops ++ operands_code more
operands_code-append [] more = refl
operands_code-append (o ∷ ops) more = ap (λ l. operand_code o ++ l) (operands_code-append ops more)
    ∙ sym (append_assoc (operand_code o) (operands_code ops) (operands_code more))

pub all_of-append : {A : Type 0} (test : A → Bool) (xs ys : List A) → all_of test xs ≡ true → all_of test ys ≡ true → all_of test (xs ++ ys) ≡ true
all_of-append test [] ys h k = k
all_of-append test (x ∷ xs) ys h k = let p = and_parts (test x) (all_of test xs) h in
    and_from (test x) (all_of test (xs ++ ys)) p.0 (all_of-append test xs ys p.1 k)

pub one_more : (before : List Operand) (o : Operand) → all_of in_range before ≡ true → in_range o ≡ true → all_of in_range (before ++ o ∷ []) ≡ true
one_more before o h k = all_of-append in_range before (o ∷ []) h (and_from (in_range o) true k refl)

-- the next operand, and the others
on_from : (op : ℕ) (before : List Operand) (o : Operand) (bytes rest : List ℕ) (x : Decoded (Instruction × List ℕ)) → bytes ≡ operand_code o ++ rest
    → Holds (IsInstruction op (before ++ o ∷ []) rest) x → Holds (IsInstruction op before bytes) x
on_from op before o bytes rest (Ok p) e i =
    let code : operands_code (before ++ o ∷ []) ++ rest ≡ operands_code before ++ bytes = rw (operands_code-append, append_assoc, append-nil, e) refl in
    record { number = i.number; fits = i.fits; whole = sym code ∙ i.whole; rest = i.rest }
on_from op before o bytes rest (Err fault) e i = tt

pub operands_holds : (shape : Shape) (op : ℕ) (before : List Operand) (bytes : List ℕ) → Fills op before shape → all_of in_range before ≡ true → AreBytes bytes
    → Holds (IsInstruction op before bytes) (operands_at shape bytes)
operands_holds (Made i) op before bytes f fit h = record { number = f.0; fits = rw f.1 fit; whole = rw f.1 refl; rest = h }
operands_holds (Spelling.Number width low high go) op before bytes f fit h =
    let P = IsInstruction op before bytes in
    holds_then P (number_at width BadNesting bytes) _ (number_holds width BadNesting bytes h) (λ p n.
    holds_then {P = λ q. (q ≡ p) × (between low high q.0 ≡ true)} P (checked (between low high p.0) BadOperand p) _
    (checked_holds _ (between low high p.0) BadOperand p (λ t. (refl, t))) (λ q k.
    let o = Operands.Number width low high q.0 in
    on_from op before o bytes q.1 (operands_at (go q.0) q.1) (rw k.0 n.whole)
    (operands_holds (go q.0) op (before ++ o ∷ []) q.1 (f q.0) (one_more before o fit k.1) (rw k.0 n.rest))))
operands_holds (Spelling.Slot false go) op before bytes f fit h =
    let P = IsInstruction op before bytes in
    holds_then P (number_at 1 BadNesting bytes) _ (number_holds 1 BadNesting bytes h) (λ p n.
    found_holds P (place_of false p.0) _ (λ s is.
    let at = place_is false p.0 s is in
    let start : bytes ≡ slot_code s ∷ p.1 = n.whole ∙ ap (λ l. l ++ p.1) (one_byte p.0 (n.short.0 refl) ∙ ap (λ n. n ∷ []) (sym at.code)) in
    on_from op before (Operands.Slot s) bytes p.1 (operands_at (go s) p.1) start
    (operands_holds (go s) op (before ++ Operands.Slot s ∷ []) p.1 (f s) (one_more before (Operands.Slot s) fit at.fits) n.rest)))
operands_holds (Spelling.Slot true go) op before bytes f fit h =
    let P = IsInstruction op before bytes in
    holds_then P (number_at 1 BadNesting bytes) _ (number_holds 1 BadNesting bytes h) (λ p n.
    found_holds P (place_of true p.0) _ (λ s is.
    let at = place_is true p.0 s is in
    let start : bytes ≡ slot_code s ∷ p.1 = n.whole ∙ ap (λ l. l ++ p.1) (one_byte p.0 (n.short.0 refl) ∙ ap (λ n. n ∷ []) (sym at.code)) in
    on_from op before (Operands.Bytes s) bytes p.1 (operands_at (go s) p.1) start
    (operands_holds (go s) op (before ++ Operands.Bytes s ∷ []) p.1 (f s) (one_more before (Operands.Bytes s) fit at.fits) n.rest)))
operands_holds (Spelling.Service go) op before bytes f fit h =
    let P = IsInstruction op before bytes in
    holds_then P (text_at 1 16 is_name_byte bytes) _ (text_holds 1 16 is_name_byte bytes h) (λ p t.
    let o = Operands.Service p.0 in
    on_from op before o bytes p.1 (operands_at (go p.0) p.1) t.whole
    (operands_holds (go p.0) op (before ++ o ∷ []) p.1 (f p.0)
    (one_more before o fit (and_from (between 1 16 (length p.0)) (all_of is_name_byte p.0) t.long t.fits)) t.rest))
operands_holds (Spelling.Said go) op before bytes f fit h =
    let P = IsInstruction op before bytes in
    holds_then P (text_at 0 64 is_said_byte bytes) _ (text_holds 0 64 is_said_byte bytes h) (λ p t.
    let o = Operands.Text p.0 in
    let short = (and_parts (nat_le 0 (length p.0)) (nat_le (length p.0) 64) t.long).1 in
    on_from op before o bytes p.1 (operands_at (go p.0) p.1) t.whole
    (operands_holds (go p.0) op (before ++ o ∷ []) p.1 (f p.0)
    (one_more before o fit (and_from (nat_le (length p.0) 64) (all_of is_said_byte p.0) short t.fits)) t.rest))
