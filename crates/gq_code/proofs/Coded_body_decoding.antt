-- Bodies as bytes spell them: a statement and what follows it, whatever the fuel.
use Rattle.std.proofs.Common.{◌≡◌, ◌≤◌, ◌<◌, ◌-◌, take, drop, get_or, ℕ, zero, suc, arith, ◌==◌, if◌then◌else◌, Bool, true, false, Option, Some, None}
use Rattle.std.proofs.Common.{List, [], ◌∷◌, length, Ok, Err, refl, ap, sym, ◌∙◌}
use Rattle.std.specs.Prelude.{nat_lt}
use Rattle.gq_model.specs.declared.program.Instruction.{Instruction}
use Rattle.gq_model.specs.declared.fault.CodeFault.{CodeFault}
use Rattle.gq_model.specs.declared.fault.CodeFault.TheVariants.{BadNesting, BadOperand, TooLong}
use Rattle.gq_model.specs.machine.Lists.{all_of, between}
use Rattle.gq_model.specs.texts.Letters.{is_name_byte, is_said_byte}
use Rattle.gq_model.specs.machine.Program.{Statements, Done, Do, If, Loop, ◌then◌}
use Rattle.gq_model.specs.texts.Code.{greatest_statements}
use Rattle.gq_model.specs.texts.Spelling.{Shape, Made, Number, Slot, Service, Said, spellings, shape_of_opcode}
use Rattle.gq_model.specs.texts.Decode.{Decoded, decoded_then, first_onto, cut, number_at, checked, place_of, found, text_at, operands_at, Body}
use Rattle.gq_model.specs.texts.Decode.{one_more, one_deeper, plain, body_at}
use Rattle.gq_code.specs.internal.Bodies.{body_in, opened_at, arms_at, round_at, plain_at, choice_with, round_with, statement_with, instruction_at}
use Rattle.gq_code.specs.internal.Bodies.{continued, put_at, placed, One, Fails}
use Rattle.gq_code.specs.declared.decode.DecodeError.{DecodeError}
use Rattle.gq_code.specs.declared.decode.DecodeError.TheVariants.{Memory, Fault}
use Rattle.gq_code.proofs.Code_byte_parts.{prefix}
use Rattle.gq_model.proofs.Holding_results.{Holds, holds_then}

-- LISTS OF STATEMENTS

then_assoc : (a b c : Statements) → (a then b) then c ≡ a then (b then c)
then_assoc Done b c = refl
then_assoc (Do i rest) b c = ap (Do i) (then_assoc rest b c)
then_assoc (If arm other rest) b c = ap (If arm other) (then_assoc rest b c)
then_assoc (Loop n body rest) b c = ap (Loop n body) (then_assoc rest b c)

then_done : (a : Statements) → a then Done ≡ a
then_done Done = refl
then_done (Do i rest) = ap (Do i) (then_done rest)
then_done (If arm other rest) = ap (If arm other) (then_done rest)
then_done (Loop n body rest) = ap (Loop n body) (then_done rest)

continued_twice : (a b : Statements) (x : Decoded Body) → continued (a then b) x ≡ continued a (continued b x)
continued_twice a b (Ok z) = ap (λ s. Ok (s, z.1)) (then_assoc a b z.0)
continued_twice a b (Err f) = refl

-- STEPS

-- where each way on has a part that comes first, so has the whole
pub through : {A B C : Type 0} (x : Decoded A) (f : A → Decoded B) (g : B → Decoded C) (h : A → Decoded C) → ((a : A) → h a ≡ decoded_then (f a) g) →
    decoded_then x h ≡ decoded_then (decoded_then x f) g
through (Ok a) f g h e = e a
through (Err fault) f g h e = refl

through_if : {A C : Type 0} (b : Bool) (fault : CodeFault) (x : Decoded A) (y : Decoded C) (g : A → Decoded C) → y ≡ decoded_then x g →
    (if b then y else Err fault) ≡ decoded_then (if b then x else Err fault) g
through_if true fault x y g e = e
through_if false fault x y g e = refl

opened_if : {B C : Type 0} (b : Bool) (d m : ℕ) (f : ℕ × ℕ → Decoded B) (g : B → Decoded C) (y : Decoded C) → y ≡ decoded_then (f (d, m)) g →
    (if b then y else Err TooLong) ≡ decoded_then (decoded_then (if b then Ok (d, m) else Err TooLong) f) g
opened_if true d m f g y e = e
opened_if false d m f g y e = refl

through_opened : {B C : Type 0} (n k : ℕ) (f : ℕ × ℕ → Decoded B) (g : B → Decoded C) (h : ℕ → ℕ → Decoded C) →
    ((d m : ℕ) → h d m ≡ decoded_then (f (d, m)) g) → one_deeper n (λ d. one_more k (λ m. h d m)) ≡ decoded_then (decoded_then (opened_at n k) f) g
through_opened zero k f g h e = refl
through_opened (suc d) k f g h e = opened_if (nat_lt k greatest_statements) d (suc k) f g (h d (suc k)) (e d (suc k))

plain_through : (o : Option Shape) (k : ℕ) (bytes : List ℕ) (go : Instruction × List ℕ → ℕ → Decoded Body) →
    plain o k bytes go ≡ decoded_then (plain_at o k bytes) (λ p. go (p.0, p.1.1) p.1.0)
plain_through None k bytes go = refl
plain_through (Some shape) k bytes go = through_if (nat_lt k greatest_statements) _ _ _ _ (through (operands_at shape bytes) _ _ _ (λ p. refl))

arms_through : {C : Type 0} (bytes : List ℕ) (g : List ℕ × (List ℕ × List ℕ) → Decoded C) →
    decoded_then (number_at 4 BadNesting bytes) (λ a.
    decoded_then (number_at 4 BadNesting a.1) (λ b.
    decoded_then (cut a.0 BadNesting b.1) (λ arm.
    decoded_then (cut b.0 BadNesting arm.1) (λ other. g (arm.0, (other.0, other.1)))))) ≡ decoded_then (arms_at bytes) g
arms_through bytes g =
    through (number_at 4 BadNesting bytes) _ _ _ (λ a.
    through (number_at 4 BadNesting a.1) _ _ _ (λ b. through (cut a.0 BadNesting b.1) _ _ _ (λ arm. through (cut b.0 BadNesting arm.1) _ _ _ (λ other. refl))))

round_through : {C : Type 0} (bytes : List ℕ) (g : ℕ × (List ℕ × List ℕ) → Decoded C) →
    decoded_then (number_at 2 BadNesting bytes) (λ c.
    decoded_then (checked (nat_lt 0 c.0) BadOperand c) (λ c.
    decoded_then (number_at 4 BadNesting c.1) (λ b.
    decoded_then (cut b.0 BadNesting b.1) (λ body. g (c.0, (body.0, body.1)))))) ≡ decoded_then (round_at bytes) g
round_through bytes g =
    through (number_at 2 BadNesting bytes) _ _ _ (λ c.
    through (checked (nat_lt 0 c.0) BadOperand c) _ _ _ (λ c.
    through (number_at 4 BadNesting c.1) _ _ _ (λ b. through (cut b.0 BadNesting b.1) _ _ _ (λ body. refl))))

-- a statement of any of the three kinds
if_through : {A C : Type 0} (b c : Bool) (x y z : Decoded A) (u v w : Decoded C) (g : A → Decoded C) → u ≡ decoded_then x g → v ≡ decoded_then y g →
    w ≡ decoded_then z g → (if b then u else (if c then v else w)) ≡ decoded_then (if b then x else (if c then y else z)) g
if_through true c x y z u v w g e f h = e
if_through false true x y z u v w g e f h = f
if_through false false x y z u v w g e f h = h

-- the first statement, then what follows it
body-step : (fuel n k op : ℕ) (bytes : List ℕ) →
    body_at (suc fuel) n k (op ∷ bytes) ≡ decoded_then (statement_with (body_at fuel) op n k bytes) (λ s. continued s.0 (body_at fuel n s.1.0 s.1.1))
body-step fuel n k op bytes =
    if_through (op == 0x40) (op == 0x41) _ _ _ _ _ _ _
    (through_opened n k _ _ _
    (λ d m. arms_through bytes _ ∙
    through (arms_at bytes) _ _ _ (λ a. through (body_at fuel d m a.0) _ _ _ (λ x. through (body_at fuel d x.1 a.1.0) _ _ _ (λ y. refl)))))
    (through_opened n k _ _ _ (λ d m. round_through bytes _ ∙ through (round_at bytes) _ _ _ (λ r. through (body_at fuel d m r.1.0) _ _ _ (λ x. refl))))
    (plain_through (shape_of_opcode op spellings) k bytes _ ∙ through (plain_at (shape_of_opcode op spellings) k bytes) _ _ _ (λ p. refl))

-- LENGTHS

same_then : {A B : Type 0} {P : A → Type 0} (x : Decoded A) {f g : A → Decoded B} → Holds P x → ((a : A) → P a → f a ≡ g a) →
    decoded_then x f ≡ decoded_then x g
same_then (Ok a) h e = e a h
same_then (Err fault) h e = refl

holds_if : {A : Type 0} (P : A → Type 0) (b : Bool) (fault : CodeFault) (x : Decoded A) → Holds P x → Holds P (if b then x else Err fault)
holds_if P true fault x h = h
holds_if P false fault x h = tt

-- what was cut off, and what is left
abbrev AreParts : ℕ → List ℕ × List ℕ → Type 0
AreParts n p = (length p.0 ≤ n) × (length p.1 ≤ n)

parts_onto : (b n : ℕ) (x : Decoded (List ℕ × List ℕ)) → Holds (AreParts n) x → Holds (AreParts (suc n)) (first_onto b x)
parts_onto b n (Ok p) h = (omega (arith, h.0), omega (arith, h.1))
parts_onto b n (Err fault) h = tt

cut_parts : (n : ℕ) (fault : CodeFault) (bytes : List ℕ) → Holds (AreParts (length bytes)) (cut n fault bytes)
cut_parts zero fault bytes = (omega arith, omega arith)
cut_parts (suc n) fault [] = tt
cut_parts (suc n) fault (b ∷ bytes) = parts_onto b (length bytes) (cut n fault bytes) (cut_parts n fault bytes)

-- what is left is no longer
abbrev IsRest : {A : Type 0} → ℕ → A × List ℕ → Type 0
IsRest n p = length p.1 ≤ n

number_rest : (width : ℕ) (fault : CodeFault) (bytes : List ℕ) → Holds (IsRest (length bytes)) (number_at width fault bytes)
number_rest width fault bytes = holds_then _ (cut width fault bytes) _ (cut_parts width fault bytes) (λ p h. h.1)

checked_holds : {A : Type 0} (P : A → Type 0) (b : Bool) (fault : CodeFault) (a : A) → P a → Holds P (checked b fault a)
checked_holds P true fault a h = h
checked_holds P false fault a h = tt

text_rest : (low high : ℕ) (test : ℕ → Bool) (bytes : List ℕ) → Holds (IsRest (length bytes)) (text_at low high test bytes)
text_rest low high test bytes =
    holds_then _ (number_at 1 BadNesting bytes) _ (number_rest 1 BadNesting bytes) (λ p h.
    holds_then _ (checked (between low high p.0) BadOperand p) _ (checked_holds (IsRest (length bytes)) (between low high p.0) BadOperand p h) (λ q h.
    holds_then _ (cut q.0 BadNesting q.1) _ (cut_parts q.0 BadNesting q.1) (λ r k.
    checked_holds (IsRest (length bytes)) (all_of test r.0) BadOperand r (omega (arith, h, k.1)))))

found_holds : {A B : Type 0} (P : B → Type 0) (o : Option A) (go : A → Decoded B) → ((a : A) → Holds P (go a)) → Holds P (found o go)
found_holds P None go h = tt
found_holds P (Some a) go h = h a

looser : {A : Type 0} (n m : ℕ) (x : Decoded (A × List ℕ)) → n ≤ m → Holds (IsRest n) x → Holds (IsRest m) x
looser n m (Ok p) l h = omega (arith, l, h)
looser n m (Err fault) l h = tt

operands_rest : (shape : Shape) (bytes : List ℕ) → Holds (IsRest (length bytes)) (operands_at shape bytes)
operands_rest (Made i) bytes = omega arith
operands_rest (Number width low high go) bytes =
    holds_then _ (number_at width BadNesting bytes) _ (number_rest width BadNesting bytes) (λ p h.
    holds_then _ (checked (between low high p.0) BadOperand p) _ (checked_holds (IsRest (length bytes)) (between low high p.0) BadOperand p h) (λ q h.
    looser (length q.1) (length bytes) (operands_at (go q.0) q.1) h (operands_rest (go q.0) q.1)))
operands_rest (Slot object go) bytes =
    holds_then _ (number_at 1 BadNesting bytes) _ (number_rest 1 BadNesting bytes) (λ p h.
    found_holds (IsRest (length bytes)) (place_of object p.0) _ (λ s. looser (length p.1) (length bytes) (operands_at (go s) p.1) h (operands_rest (go s) p.1)))
operands_rest (Service go) bytes =
    holds_then _ (text_at 1 16 is_name_byte bytes) _ (text_rest 1 16 is_name_byte bytes) (λ p h.
    looser (length p.1) (length bytes) (operands_at (go p.0) p.1) h (operands_rest (go p.0) p.1))
operands_rest (Said go) bytes =
    holds_then _ (text_at 0 64 is_said_byte bytes) _ (text_rest 0 64 is_said_byte bytes) (λ p h.
    looser (length p.1) (length bytes) (operands_at (go p.0) p.1) h (operands_rest (go p.0) p.1))

-- three parts, of which the last two are no longer
abbrev AreThree : {A : Type 0} → ℕ → A × (List ℕ × List ℕ) → Type 0
AreThree n p = AreParts n p.1

abbrev AreArms : ℕ → List ℕ × (List ℕ × List ℕ) → Type 0
AreArms n p = (length p.0 ≤ n) × AreParts n p.1

arms_parts : (bytes : List ℕ) → Holds (AreArms (length bytes)) (arms_at bytes)
arms_parts bytes =
    holds_then _ (number_at 4 BadNesting bytes) _ (number_rest 4 BadNesting bytes) (λ a ha.
    holds_then _ (number_at 4 BadNesting a.1) _ (number_rest 4 BadNesting a.1) (λ b hb.
    holds_then _ (cut a.0 BadNesting b.1) _ (cut_parts a.0 BadNesting b.1) (λ arm hc.
    holds_then _ (cut b.0 BadNesting arm.1) _ (cut_parts b.0 BadNesting arm.1) (λ other hd.
    (omega (arith, ha, hb, hc.0), (omega (arith, ha, hb, hc.1, hd.0), omega (arith, ha, hb, hc.1, hd.1)))))))

round_parts : (bytes : List ℕ) → Holds (AreThree (length bytes)) (round_at bytes)
round_parts bytes =
    holds_then _ (number_at 2 BadNesting bytes) _ (number_rest 2 BadNesting bytes) (λ c hc.
    holds_then _ (checked (nat_lt 0 c.0) BadOperand c) _ (checked_holds (IsRest (length bytes)) (nat_lt 0 c.0) BadOperand c hc) (λ c hc.
    holds_then _ (number_at 4 BadNesting c.1) _ (number_rest 4 BadNesting c.1) (λ b hb.
    holds_then _ (cut b.0 BadNesting b.1) _ (cut_parts b.0 BadNesting b.1) (λ body hd.
    (omega (arith, hc, hb, hd.0), omega (arith, hc, hb, hd.1))))))

-- what follows the statement is no longer
abbrev IsAfter : {A : Type 0} → ℕ → A × (ℕ × List ℕ) → Type 0
IsAfter n s = length s.1.1 ≤ n

plain_rest : (o : Option Shape) (k : ℕ) (bytes : List ℕ) → Holds (IsAfter (length bytes)) (plain_at o k bytes)
plain_rest None k bytes = tt
plain_rest (Some shape) k bytes =
    holds_if (IsAfter (length bytes)) (nat_lt k greatest_statements) _ _ (holds_then _ (operands_at shape bytes) _ (operands_rest shape bytes) (λ p h. h))

-- nothing is known
abbrev Anything : {A : Type 0} → A → Type 0
Anything a = Unit {0}

anyhow : {A : Type 0} (x : Decoded A) → Holds Anything x
anyhow (Ok a) = tt
anyhow (Err fault) = tt

choice_rest : (body : ℕ → ℕ → List ℕ → Decoded Body) (n k : ℕ) (bytes : List ℕ) → Holds (IsAfter (length bytes)) (choice_with body n k bytes)
choice_rest body n k bytes =
    holds_then _ (opened_at n k) _ (anyhow (opened_at n k)) (λ o _.
    holds_then _ (arms_at bytes) _ (arms_parts bytes) (λ a h.
    holds_then _ (body o.0 o.1 a.0) _ (anyhow (body o.0 o.1 a.0)) (λ x _.
    holds_then _ (body o.0 x.1 a.1.0) _ (anyhow (body o.0 x.1 a.1.0)) (λ y _. h.1.1))))

round_rest : (body : ℕ → ℕ → List ℕ → Decoded Body) (n k : ℕ) (bytes : List ℕ) → Holds (IsAfter (length bytes)) (round_with body n k bytes)
round_rest body n k bytes =
    holds_then _ (opened_at n k) _ (anyhow (opened_at n k)) (λ o _.
    holds_then _ (round_at bytes) _ (round_parts bytes) (λ r h.
    holds_then _ (body o.0 o.1 r.1.0) _ (anyhow (body o.0 o.1 r.1.0)) (λ x _. h.1)))

one_of : {A : Type 0} (P : A → Type 0) (b c : Bool) (x y z : Decoded A) → Holds P x → Holds P y → Holds P z → Holds P (if b then x else (if c then y else z))
one_of P true c x y z h k l = h
one_of P false true x y z h k l = k
one_of P false false x y z h k l = l

statement_rest : (body : ℕ → ℕ → List ℕ → Decoded Body) (op n k : ℕ) (bytes : List ℕ) → Holds (IsAfter (length bytes)) (statement_with body op n k bytes)
statement_rest body op n k bytes =
    one_of (IsAfter (length bytes)) (op == 0x40) (op == 0x41) _ _ _ (choice_rest body n k bytes) (round_rest body n k bytes)
    (holds_then _ (plain_at (shape_of_opcode op spellings) k bytes) _ (plain_rest (shape_of_opcode op spellings) k bytes) (λ p h. h))

-- FUEL

-- two ways to read bodies that agree where these have no more bytes
abbrev Agree : ℕ → (ℕ → ℕ → List ℕ → Decoded Body) → (ℕ → ℕ → List ℕ → Decoded Body) → Type 0
Agree most one other = (n k : ℕ) (bytes : List ℕ) → length bytes ≤ most → one n k bytes ≡ other n k bytes

pub then_along : {A B : Type 0} {x y : Decoded A} (f : A → Decoded B) → x ≡ y → decoded_then x f ≡ decoded_then y f
then_along f e = ap (λ x. decoded_then x f) e

if_same : {A : Type 0} (b c : Bool) (x y z u v : Decoded A) → x ≡ u → y ≡ v → (if b then x else (if c then y else z)) ≡ (if b then u else (if c then v else z))
if_same true c x y z u v e f = e
if_same false true x y z u v e f = f
if_same false false x y z u v e f = refl

statement_same : (one other : ℕ → ℕ → List ℕ → Decoded Body) (op n k : ℕ) (bytes : List ℕ) → Agree (length bytes) one other →
    statement_with one op n k bytes ≡ statement_with other op n k bytes
statement_same one other op n k bytes e =
    if_same (op == 0x40) (op == 0x41) _ _ _ _ _
    (same_then (opened_at n k) (anyhow (opened_at n k)) (λ o _.
    same_then (arms_at bytes) (arms_parts bytes) (λ a h.
    then_along _ (e o.0 o.1 a.0 h.0) ∙ same_then (other o.0 o.1 a.0) (anyhow (other o.0 o.1 a.0)) (λ x _. then_along _ (e o.0 x.1 a.1.0 h.1.0)))))
    (same_then (opened_at n k) (anyhow (opened_at n k)) (λ o _.
    same_then (round_at bytes) (round_parts bytes) (λ r h. then_along _ (e o.0 o.1 r.1.0 h.0))))

fuel_same : (f g n k : ℕ) (bytes : List ℕ) → length bytes ≤ f → length bytes ≤ g → body_at f n k bytes ≡ body_at g n k bytes
fuel_same zero zero n k bytes h l = refl
fuel_same zero (suc g) n k [] h l = refl
fuel_same (suc f) zero n k [] h l = refl
fuel_same (suc f) (suc g) n k [] h l = refl
fuel_same zero (suc g) n k (op ∷ bytes) h l = absurd (omega (arith, h))
fuel_same (suc f) zero n k (op ∷ bytes) h l = absurd (omega (arith, l))
fuel_same (suc f) (suc g) n k (op ∷ bytes) h l =
    body-step f n k op bytes
    ∙ (then_along _ (statement_same (body_at f) (body_at g) op n k bytes (λ n k b s. fuel_same f g n k b (omega (arith, h, s)) (omega (arith, l, s))))
    ∙ (same_then (statement_with (body_at g) op n k bytes) (statement_rest (body_at g) op n k bytes) (λ s r.
    ap (continued s.0) (fuel_same f g n s.1.0 s.1.1 (omega (arith, h, r)) (omega (arith, l, r))))
    ∙ sym (body-step g n k op bytes)))

-- the first statement of a body, then what follows it
pub body_in-cons : (n k op : ℕ) (bytes : List ℕ) →
    body_in n k (op ∷ bytes) ≡ decoded_then (statement_with body_in op n k bytes) (λ s. continued s.0 (body_in n s.1.0 s.1.1))
body_in-cons n k op bytes =
    let f = length bytes in
    body-step f n k op bytes
    ∙ (then_along _ (statement_same (body_at f) body_in op n k bytes (λ n k b s. fuel_same f (length b) n k b s (omega arith)))
    ∙ same_then (statement_with body_in op n k bytes) (statement_rest body_in op n k bytes) (λ s r.
    ap (continued s.0) (fuel_same f (length s.1.1) n s.1.0 s.1.1 r (omega arith))))

-- READING

-- one statement more
body_turn : (made : Statements) (n k op m : ℕ) (bytes rest : List ℕ) (s : Statements) → statement_with body_in op n k bytes ≡ Ok (s, (m, rest)) →
    continued (made then s) (body_in n m rest) ≡ continued made (body_in n k (op ∷ bytes))
body_turn made n k op m bytes rest s e =
    continued_twice made s (body_in n m rest)
    ∙ ap (continued made) (sym (body_in-cons n k op bytes ∙ then_along _ e))

pub loop_turn : (made s pushed : Statements) (n k m : ℕ) (left after : List ℕ) (all : Decoded Body) → 1 ≤ length left →
    continued made (body_in n k left) ≡ all → statement_with body_in (get_or left 0 0) n k (take (length left - 1) (drop 1 left)) ≡ Ok (s, (m, after)) →
    pushed ≡ made then s → continued pushed (body_in n m after) ≡ all
loop_turn made s pushed n k m left after all h inv e p =
    ap (λ t. continued t (body_in n m after)) p
    ∙ (body_turn made n k (get_or left 0 0) m (take (length left - 1) (drop 1 left)) after s e
    ∙ (ap (λ l. continued made (body_in n k l)) (sym (prefix left h)) ∙ inv))

placed_same : (made pushed s : Statements) (k m : ℕ) (rest after : List ℕ) → placed made (Ok (s, (k, rest))) ≡ Ok (pushed, (m, after)) →
    ◌≡◌ {A = Decoded One} (Ok (s, (k, rest))) (Ok (s, (m, after)))
placed_same made pushed s k m rest after p = let e : ◌≡◌ {A = One} (made then s, (k, rest)) (pushed, (m, after)) = cc in ap (λ q. Ok (s, q.1)) e

placed_then : (made pushed s : Statements) (k m : ℕ) (rest after : List ℕ) → placed made (Ok (s, (k, rest))) ≡ Ok (pushed, (m, after)) →
    pushed ≡ made then s
placed_then made pushed s k m rest after p = let e : ◌≡◌ {A = One} (made then s, (k, rest)) (pushed, (m, after)) = cc in sym (ap (λ q. q.0) e)

loop_one : (made pushed : Statements) (n k m : ℕ) (left after : List ℕ) (all : Decoded Body) (one : Decoded One) → 1 ≤ length left →
    continued made (body_in n k left) ≡ all → statement_with body_in (get_or left 0 0) n k (take (length left - 1) (drop 1 left)) ≡ one →
    placed made one ≡ Ok (pushed, (m, after)) → continued pushed (body_in n m after) ≡ all
loop_one made pushed n k m left after all (Ok (s, (count, rest))) h inv e p =
    loop_turn made s pushed n k m left after all h inv (e ∙ placed_same made pushed s count m rest after p) (placed_then made pushed s count m rest after p)
loop_one made pushed n k m left after all (Err fault) h inv e p = cc

pub loop_placed : (made pushed : Statements) (n k m : ℕ) (left after : List ℕ) (all : Decoded Body) → 1 ≤ length left →
    continued made (body_in n k left) ≡ all →
    placed made (statement_with body_in (get_or left 0 0) n k (take (length left - 1) (drop 1 left))) ≡ Ok (pushed, (m, after)) →
    continued pushed (body_in n m after) ≡ all
loop_placed made pushed n k m left after all h inv p = loop_one made pushed n k m left after all _ h inv refl p

-- no statement at the end of others: it has a fault
pub placed_stop : (e : DecodeError) (made : Statements) (one : Decoded One) → Fails e (placed made one) → Fails e one
placed_stop (Memory error) made one h = tt
placed_stop (Fault fault) made (Ok s) h = cc
placed_stop (Fault fault) made (Err f) h = h

-- A STATEMENT WITH NO STATEMENT IN IT, AT THE END OF OTHERS

counted_on : {A : Type 0} (b : Bool) (k m : ℕ) (go : ℕ → Decoded A) → ◌≡◌ {A = Decoded ℕ} (if b then Ok k else Err TooLong) (Ok m) →
    (if b then go k else Err TooLong) ≡ go m
counted_on true k m go e = let p : k ≡ m = cc in ap go p
counted_on false k m go e = cc

plain_counted : (o : Option Shape) (shape : Shape) (k m : ℕ) (bytes : List ℕ) → Some shape ≡ o → one_more k (λ m. Ok m) ≡ Ok m →
    plain_at o k bytes ≡ decoded_then (operands_at shape bytes) (λ p. Ok (p.0, (m, p.1)))
plain_counted o shape k m bytes e c =
    ap (λ o. plain_at o k bytes) (sym e)
    ∙ counted_on (nat_lt k greatest_statements) (suc k) m (λ m. decoded_then (operands_at shape bytes) (λ p. Ok (p.0, (m, p.1)))) c

-- what was read, at the end of others
abbrev Placed : Statements → ℕ → Decoded (Instruction × List ℕ) → Decoded One
Placed made m read = placed made (decoded_then (decoded_then {B = Instruction × (ℕ × List ℕ)} read (λ p. Ok (p.0, (m, p.1)))) (λ p. Ok (Do p.0 Done, p.1)))

placed_ok : (made pushed : Statements) (m : ℕ) (read : Decoded (Instruction × List ℕ)) (rest : List ℕ) → put_at made read ≡ Ok (pushed, rest) →
    Placed made m read ≡ Ok (pushed, (m, rest))
placed_ok made pushed m (Ok (i, bytes)) rest e =
    let p : ◌≡◌ {A = Statements × List ℕ} (made then Do i Done, bytes) (pushed, rest) = cc in
    ap (λ q. Ok (q.0, (m, q.1))) p
placed_ok made pushed m (Err fault) rest e = cc

placed_err : (made : Statements) (m : ℕ) (read : Decoded (Instruction × List ℕ)) (fault : CodeFault) → put_at made read ≡ Err fault →
    Placed made m read ≡ Err fault
placed_err made m (Ok (i, bytes)) fault e = cc
placed_err made m (Err f) fault e = cc

pub coded_ok : (made pushed : Statements) (op : ℕ) (shape : Shape) (k m : ℕ) (bytes rest : List ℕ) → Some shape ≡ shape_of_opcode op spellings →
    one_more k (λ m. Ok m) ≡ Ok m → put_at made (operands_at shape bytes) ≡ Ok (pushed, rest) →
    placed made (instruction_at op k bytes) ≡ Ok (pushed, (m, rest))
coded_ok made pushed op shape k m bytes rest e c p =
    ap (λ d. placed made (decoded_then d (λ p. Ok (Do p.0 Done, p.1)))) (plain_counted (shape_of_opcode op spellings) shape k m bytes e c)
    ∙ placed_ok made pushed m (operands_at shape bytes) rest p

pub coded_err : (error : DecodeError) (made : Statements) (op : ℕ) (shape : Shape) (k m : ℕ) (bytes : List ℕ) → Some shape ≡ shape_of_opcode op spellings →
    one_more k (λ m. Ok m) ≡ Ok m → Fails error (put_at made (operands_at shape bytes)) → Fails error (placed made (instruction_at op k bytes))
coded_err (Memory error) made op shape k m bytes e c p = tt
coded_err (Fault fault) made op shape k m bytes e c p =
    ap (λ d. placed made (decoded_then d (λ p. Ok (Do p.0 Done, p.1)))) (plain_counted (shape_of_opcode op spellings) shape k m bytes e c)
    ∙ placed_err made m (operands_at shape bytes) fault p

-- a statement that has a fault
body_stop : (made : Statements) (n k op : ℕ) (bytes : List ℕ) (fault : CodeFault) → statement_with body_in op n k bytes ≡ Err fault →
    continued made (body_in n k (op ∷ bytes)) ≡ Err fault
body_stop made n k op bytes fault e = ap (continued made) (body_in-cons n k op bytes ∙ then_along _ e)

pub loop_stop : (e : DecodeError) (made : Statements) (n k : ℕ) (left : List ℕ) (all : Decoded Body) → 1 ≤ length left →
    continued made (body_in n k left) ≡ all → Fails e (statement_with body_in (get_or left 0 0) n k (take (length left - 1) (drop 1 left))) → Fails e all
loop_stop (Memory error) made n k left all h inv e = tt
loop_stop (Fault fault) made n k left all h inv e =
    sym inv
    ∙ (ap (λ l. continued made (body_in n k l)) (prefix left h)
    ∙ body_stop made n k (get_or left 0 0) (take (length left - 1) (drop 1 left)) fault e)

-- no more statements
pub loop_end : (made : Statements) (n k : ℕ) (left : List ℕ) (all : Decoded Body) → length left < 1 → continued made (body_in n k left) ≡ all →
    all ≡ Ok (made, k)
loop_end made n k [] all h inv = sym inv ∙ ap (λ s. Ok (s, k)) (then_done made)
loop_end made n k (b ∷ left) all h inv = absurd (omega (arith, h))
