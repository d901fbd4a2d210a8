-- Keys of what statements and slots are made of.
use Rattle.std.proofs.Common.{◌≡◌, ℕ, List, [], ◌∷◌, ◌++◌, drop, get_or, refl, ap, sym, ◌∙◌, arith}
use Rattle.gq_model.specs.declared.phase.Phase.{Phase}
use Rattle.gq_model.specs.declared.phase.Phase.TheVariants.{Pending, Running, Blocked, Serving, Handling, Exited}
use Rattle.gq_model.specs.declared.program.Form.{Form}
use Rattle.gq_model.specs.declared.program.Form.TheVariants.{Block, Slice, Space}
use Rattle.gq_model.specs.declared.program.OperandSlot.{OperandSlot}
use Rattle.gq_model.specs.declared.program.OperandSlot.TheVariants.{Own, Shared, Object}
use Rattle.gq_model.specs.declared.program.Width.{Width}
use Rattle.gq_model.specs.declared.program.Width.TheVariants.{Byte, Word}
use Rattle.gq_model.specs.declared.program.Operator.{Operator}
use Rattle.gq_model.specs.declared.program.Operator.TheVariants.{Add, Subtract, Multiply, And, Equal, Less}
use Rattle.gq_model.specs.declared.program.Bare.TheVariants.{Drop, Dup, Combine}
use Rattle.gq_model.specs.declared.program.WithNumber.{WithNumber}
use Rattle.gq_model.specs.declared.program.WithNumber.TheVariants.{Push, Divide, Modulo, Get, Set, Index, Input}
use Rattle.gq_model.specs.declared.program.OperandStatement.{OperandStatement}
use Rattle.gq_model.specs.declared.program.OperandStatement.TheVariants.{Plain, Numbered}
use Rattle.gq_model.specs.declared.program.Instruction.{Instruction}
use Rattle.gq_model.specs.declared.program.Instruction.TheVariants.{Say, Out, Operands, Make, MakePool, Load, Store, Free, Take, Give, Peek, Poke, Open}
use Rattle.gq_model.specs.declared.program.Instruction.TheVariants.{Upgrade, Call, Close}
use Rattle.gq_model.specs.declared.section.Section.TheVariants.{Main, Opening, Upgrading, Calling, Closing, Reacting}
use Rattle.gq_outcomes.specs.internal.Keys.{bare_key, form_tag, instruction_key, number_key, operand_slot_key, operands_key, operator_tag, phase_tag}
use Rattle.gq_outcomes.specs.internal.Keys.{section_key, text_key, width_tag, with_number_tag}
use Rattle.gq_outcomes.proofs.keys.Numbers.{IsFree, both_free, number_free, tag_free, tail_is, text_free}

-- TAGS

pub form_same : (a b : Form) → form_tag a ≡ form_tag b → a ≡ b
form_same Block Block e = refl
form_same Slice Slice e = refl
form_same Space Space e = refl
form_same _ _ e = absurd (omega (arith, e))

width_same : (a b : Width) → width_tag a ≡ width_tag b → a ≡ b
width_same Byte Byte e = refl
width_same Word Word e = refl
width_same _ _ e = absurd (omega (arith, e))

operator_same : (a b : Operator) → operator_tag a ≡ operator_tag b → a ≡ b
operator_same Add Add e = refl
operator_same Subtract Subtract e = refl
operator_same Multiply Multiply e = refl
operator_same And And e = refl
operator_same Equal Equal e = refl
operator_same Less Less e = refl
operator_same _ _ e = absurd (omega (arith, e))

with_number_same : (a b : WithNumber) → with_number_tag a ≡ with_number_tag b → a ≡ b
with_number_same Push Push e = refl
with_number_same Divide Divide e = refl
with_number_same Modulo Modulo e = refl
with_number_same Get Get e = refl
with_number_same Set Set e = refl
with_number_same Index Index e = refl
with_number_same Input Input e = refl
with_number_same _ _ e = absurd (omega (arith, e))

pub phase_same : (a b : Phase) → phase_tag a ≡ phase_tag b → a ≡ b
phase_same Pending Pending e = refl
phase_same Running Running e = refl
phase_same Blocked Blocked e = refl
phase_same Serving Serving e = refl
phase_same Handling Handling e = refl
phase_same Exited Exited e = refl
phase_same _ _ e = absurd (omega (arith, e))

-- a tag before a key
pub tagged : {A B : Type 0} (tag : A → ℕ) → ((a b : A) → tag a ≡ tag b → a ≡ b) → (f : B → List ℕ) → IsFree f → IsFree (λ (p : A × B). tag p.0 ∷ f p.1)
tagged tag same f h p q r s e = both_free (λ a. tag a ∷ []) f (tag_free tag same) h p q r s e

-- PARTS

pub operand_slot_free : IsFree operand_slot_key
operand_slot_free (Own i) (Own j) r s e = let p = number_free i j r s (tail_is 0 0 (number_key i ++ r) (number_key j ++ s) e) in (ap Own p.0, p.1)
operand_slot_free (Shared i) (Shared j) r s e =
    let p = number_free i j r s (tail_is 1 1 (number_key i ++ r) (number_key j ++ s) e) in (ap Shared p.0, p.1)
operand_slot_free Object Object r s e = (refl, tail_is 2 2 r s e)
operand_slot_free _ _ r s e = absurd (cc e)

bare_free : IsFree bare_key
bare_free Drop Drop r s e = (refl, tail_is 0 0 r s e)
bare_free Dup Dup r s e = (refl, tail_is 1 1 r s e)
bare_free (Combine f) (Combine g) r s e =
    let p = tag_free operator_tag operator_same f g r s (tail_is 2 2 (operator_tag f ∷ r) (operator_tag g ∷ s) e) in (ap Combine p.0, p.1)
bare_free _ _ r s e = absurd (cc e)

operands_free : IsFree operands_key
operands_free (Plain a) (Plain b) r s e = let p = bare_free a b r s (tail_is 0 0 (bare_key a ++ r) (bare_key b ++ s) e) in (ap Plain p.0, p.1)
operands_free (Numbered a n) (Numbered b m) r s e =
    let p = tagged with_number_tag with_number_same number_key number_free (a, n) (b, m) r s
    (tail_is 1 1 (with_number_tag a ∷ (number_key n ++ r)) (with_number_tag b ∷ (number_key m ++ s)) e) in
    (ap (λ (q : WithNumber × ℕ). Numbered q.0 q.1) p.0, p.1)
operands_free _ _ r s e = absurd (cc e)

pub section_free : IsFree section_key
section_free Main Main r s e = (refl, tail_is 0 0 r s e)
section_free Opening Opening r s e = (refl, tail_is 1 1 r s e)
section_free (Upgrading i) (Upgrading j) r s e =
    let p = number_free i j r s (tail_is 2 2 (number_key i ++ r) (number_key j ++ s) e) in (ap Upgrading p.0, p.1)
section_free (Calling i) (Calling j) r s e =
    let p = number_free i j r s (tail_is 3 3 (number_key i ++ r) (number_key j ++ s) e) in (ap Calling p.0, p.1)
section_free (Closing i) (Closing j) r s e =
    let p = number_free i j r s (tail_is 4 4 (number_key i ++ r) (number_key j ++ s) e) in (ap Closing p.0, p.1)
section_free (Reacting i) (Reacting j) r s e =
    let p = number_free i j r s (tail_is 5 5 (number_key i ++ r) (number_key j ++ s) e) in (ap Reacting p.0, p.1)
section_free _ _ r s e = absurd (cc e)

-- INSTRUCTIONS

slot_and_number : IsFree (λ (p : OperandSlot × ℕ). operand_slot_key p.0 ++ number_key p.1)
slot_and_number = both_free operand_slot_key number_key operand_slot_free number_free

numbers_free : IsFree (λ (p : ℕ × ℕ). number_key p.0 ++ number_key p.1)
numbers_free = both_free number_key number_key number_free number_free

abbrev past : List ℕ → List ℕ
past l = drop 1 l

abbrev tag_of : Instruction → ℕ
tag_of (Say text) = 0
tag_of Out = 1
tag_of (Operands s) = 2
tag_of (Make form p n) = 3
tag_of (MakePool p n m) = 4
tag_of (Load width p) = 5
tag_of (Store width p) = 6
tag_of (Free p) = 7
tag_of (Take p) = 8
tag_of (Give p) = 9
tag_of (Peek p) = 10
tag_of (Poke p) = 11
tag_of (Open p service n) = 12
tag_of (Upgrade p n) = 13
tag_of (Call p) = 14
tag_of (Close p) = 15

begins : (i : Instruction) (r : List ℕ) → get_or (instruction_key i ++ r) 0 0 ≡ tag_of i
begins (Say text) r = refl
begins Out r = refl
begins (Operands s) r = refl
begins (Make form p n) r = refl
begins (MakePool p n m) r = refl
begins (Load width p) r = refl
begins (Store width p) r = refl
begins (Free p) r = refl
begins (Take p) r = refl
begins (Give p) r = refl
begins (Peek p) r = refl
begins (Poke p) r = refl
begins (Open p service n) r = refl
begins (Upgrade p n) r = refl
begins (Call p) r = refl
begins (Close p) r = refl

tags_are : (i j : Instruction) (r s : List ℕ) → instruction_key i ++ r ≡ instruction_key j ++ s → tag_of i ≡ tag_of j
tags_are i j r s e = sym (begins i r) ∙ ap (λ l. get_or l 0 0) e ∙ begins j s

-- one statement against any other
say_free : (a : List ℕ) (j : Instruction) (r s : List ℕ) → instruction_key (Say a) ++ r ≡ instruction_key j ++ s → ((Say a) ≡ j) × (r ≡ s)
say_free a (Say b) r s e =
    let p = text_free a b r s (ap past e) in (ap Say p.0, p.1)
say_free a j r s e = absurd (omega (arith, tags_are (Say a) j r s e))

out_free : (j : Instruction) (r s : List ℕ) → instruction_key Out ++ r ≡ instruction_key j ++ s → (Out ≡ j) × (r ≡ s)
out_free Out r s e =
    (refl, ap past e)
out_free j r s e = absurd (omega (arith, tags_are Out j r s e))

on_operands_free : (a : OperandStatement) (j : Instruction) (r s : List ℕ) → instruction_key (Operands a) ++ r ≡ instruction_key j ++ s → ((Operands a) ≡ j) ×
    (r ≡ s)
on_operands_free a (Operands b) r s e =
    let p = operands_free a b r s (ap past e) in (ap Operands p.0, p.1)
on_operands_free a j r s e = absurd (omega (arith, tags_are (Operands a) j r s e))

make_free : (f : Form) (a : OperandSlot) (n : ℕ) (j : Instruction) (r s : List ℕ) → instruction_key (Make f a n) ++ r ≡ instruction_key j ++ s → ((Make f a n)
    ≡ j) × (r ≡ s)
make_free f a n (Make g b m) r s e =
    let p = tagged form_tag form_same (λ (q : OperandSlot × ℕ). operand_slot_key q.0 ++ number_key q.1) slot_and_number (f, (a, n)) (g, (b, m)) r s (ap past e)
    in
    (ap (λ (q : Form × (OperandSlot × ℕ)). Make q.0 q.1.0 q.1.1) p.0, p.1)
make_free f a n j r s e = absurd (omega (arith, tags_are (Make f a n) j r s e))

make_pool_free : (a : OperandSlot) (n : ℕ) (k : ℕ) (j : Instruction) (r s : List ℕ) → instruction_key (MakePool a n k) ++ r ≡ instruction_key j ++ s →
    ((MakePool a n k) ≡ j) × (r ≡ s)
make_pool_free a n k (MakePool b m l) r s e =
    let p = both_free operand_slot_key (λ (q : ℕ × ℕ). number_key q.0 ++ number_key q.1) operand_slot_free numbers_free (a, (n, k)) (b, (m, l)) r s (ap past e)
    in
    (ap (λ (q : OperandSlot × (ℕ × ℕ)). MakePool q.0 q.1.0 q.1.1) p.0, p.1)
make_pool_free a n k j r s e = absurd (omega (arith, tags_are (MakePool a n k) j r s e))

load_free : (v : Width) (a : OperandSlot) (j : Instruction) (r s : List ℕ) → instruction_key (Load v a) ++ r ≡ instruction_key j ++ s → ((Load v a) ≡ j) × (r ≡
    s)
load_free v a (Load w b) r s e =
    let p = tagged width_tag width_same operand_slot_key operand_slot_free (v, a) (w, b) r s (ap past e) in
    (ap (λ (q : Width × OperandSlot). Load q.0 q.1) p.0, p.1)
load_free v a j r s e = absurd (omega (arith, tags_are (Load v a) j r s e))

store_free : (v : Width) (a : OperandSlot) (j : Instruction) (r s : List ℕ) → instruction_key (Store v a) ++ r ≡ instruction_key j ++ s → ((Store v a) ≡ j) ×
    (r ≡ s)
store_free v a (Store w b) r s e =
    let p = tagged width_tag width_same operand_slot_key operand_slot_free (v, a) (w, b) r s (ap past e) in
    (ap (λ (q : Width × OperandSlot). Store q.0 q.1) p.0, p.1)
store_free v a j r s e = absurd (omega (arith, tags_are (Store v a) j r s e))

free_free : (a : OperandSlot) (j : Instruction) (r s : List ℕ) → instruction_key (Free a) ++ r ≡ instruction_key j ++ s → ((Free a) ≡ j) × (r ≡ s)
free_free a (Free b) r s e =
    let p = operand_slot_free a b r s (ap past e) in (ap Free p.0, p.1)
free_free a j r s e = absurd (omega (arith, tags_are (Free a) j r s e))

take_free : (a : OperandSlot) (j : Instruction) (r s : List ℕ) → instruction_key (Take a) ++ r ≡ instruction_key j ++ s → ((Take a) ≡ j) × (r ≡ s)
take_free a (Take b) r s e =
    let p = operand_slot_free a b r s (ap past e) in (ap Take p.0, p.1)
take_free a j r s e = absurd (omega (arith, tags_are (Take a) j r s e))

give_free : (a : OperandSlot) (j : Instruction) (r s : List ℕ) → instruction_key (Give a) ++ r ≡ instruction_key j ++ s → ((Give a) ≡ j) × (r ≡ s)
give_free a (Give b) r s e =
    let p = operand_slot_free a b r s (ap past e) in (ap Give p.0, p.1)
give_free a j r s e = absurd (omega (arith, tags_are (Give a) j r s e))

peek_free : (a : OperandSlot) (j : Instruction) (r s : List ℕ) → instruction_key (Peek a) ++ r ≡ instruction_key j ++ s → ((Peek a) ≡ j) × (r ≡ s)
peek_free a (Peek b) r s e =
    let p = operand_slot_free a b r s (ap past e) in (ap Peek p.0, p.1)
peek_free a j r s e = absurd (omega (arith, tags_are (Peek a) j r s e))

poke_free : (a : OperandSlot) (j : Instruction) (r s : List ℕ) → instruction_key (Poke a) ++ r ≡ instruction_key j ++ s → ((Poke a) ≡ j) × (r ≡ s)
poke_free a (Poke b) r s e =
    let p = operand_slot_free a b r s (ap past e) in (ap Poke p.0, p.1)
poke_free a j r s e = absurd (omega (arith, tags_are (Poke a) j r s e))

open_free : (a : OperandSlot) (x : List ℕ) (n : ℕ) (j : Instruction) (r s : List ℕ) → instruction_key (Open a x n) ++ r ≡ instruction_key j ++ s → ((Open a x
    n) ≡ j) × (r ≡ s)
open_free a x n (Open b y m) r s e =
    let p = both_free operand_slot_key (λ (q : List ℕ × ℕ). text_key q.0 ++ number_key q.1) operand_slot_free
    (both_free text_key number_key text_free number_free) (a, (x, n)) (b, (y, m)) r s (ap past e) in
    (ap (λ (q : OperandSlot × (List ℕ × ℕ)). Open q.0 q.1.0 q.1.1) p.0, p.1)
open_free a x n j r s e = absurd (omega (arith, tags_are (Open a x n) j r s e))

upgrade_free : (a : OperandSlot) (n : ℕ) (j : Instruction) (r s : List ℕ) → instruction_key (Upgrade a n) ++ r ≡ instruction_key j ++ s → ((Upgrade a n) ≡ j) ×
    (r ≡ s)
upgrade_free a n (Upgrade b m) r s e =
    let p = slot_and_number (a, n) (b, m) r s (ap past e) in (ap (λ (q : OperandSlot × ℕ). Upgrade q.0 q.1) p.0, p.1)
upgrade_free a n j r s e = absurd (omega (arith, tags_are (Upgrade a n) j r s e))

call_free : (a : OperandSlot) (j : Instruction) (r s : List ℕ) → instruction_key (Call a) ++ r ≡ instruction_key j ++ s → ((Call a) ≡ j) × (r ≡ s)
call_free a (Call b) r s e =
    let p = operand_slot_free a b r s (ap past e) in (ap Call p.0, p.1)
call_free a j r s e = absurd (omega (arith, tags_are (Call a) j r s e))

close_free : (a : OperandSlot) (j : Instruction) (r s : List ℕ) → instruction_key (Close a) ++ r ≡ instruction_key j ++ s → ((Close a) ≡ j) × (r ≡ s)
close_free a (Close b) r s e =
    let p = operand_slot_free a b r s (ap past e) in (ap Close p.0, p.1)
close_free a j r s e = absurd (omega (arith, tags_are (Close a) j r s e))

pub instruction_free : IsFree instruction_key
instruction_free (Say a) j r s e = say_free a j r s e
instruction_free Out j r s e = out_free j r s e
instruction_free (Operands a) j r s e = on_operands_free a j r s e
instruction_free (Make f a n) j r s e = make_free f a n j r s e
instruction_free (MakePool a n k) j r s e = make_pool_free a n k j r s e
instruction_free (Load v a) j r s e = load_free v a j r s e
instruction_free (Store v a) j r s e = store_free v a j r s e
instruction_free (Free a) j r s e = free_free a j r s e
instruction_free (Take a) j r s e = take_free a j r s e
instruction_free (Give a) j r s e = give_free a j r s e
instruction_free (Peek a) j r s e = peek_free a j r s e
instruction_free (Poke a) j r s e = poke_free a j r s e
instruction_free (Open a x n) j r s e = open_free a x n j r s e
instruction_free (Upgrade a n) j r s e = upgrade_free a n j r s e
instruction_free (Call a) j r s e = call_free a j r s e
instruction_free (Close a) j r s e = close_free a j r s e
