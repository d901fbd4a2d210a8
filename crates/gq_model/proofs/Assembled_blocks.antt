-- What has been read of a text is a part of a program, block by block.
use Rattle.std.proofs.Common.{◌≡◌, ℕ, ◌+◌, ◌-◌, ◌<◌, ◌≤◌, List, [], ◌∷◌, length, true, refl, arith}
use Rattle.std.specs.Prelude.{nat_lt, ◌&&◌}
use Rattle.std.proofs.lemmas.Bool.{and_parts, and_from, lt-ltb}
use Rattle.gq_model.specs.machine.Program.{Statements, Done, Do, If, Loop, ◌then◌, size}
use Rattle.gq_model.specs.machine.Lists.{all_of, between}
use Rattle.gq_model.specs.texts.Operands.{operands, in_range}
use Rattle.gq_model.specs.texts.Code.{is_body, greatest_statements}
use Rattle.gq_model.specs.machine.Sections.{is_section}
use Rattle.gq_model.specs.texts.Text.{BlockKind, Section_block, First_arm, Second_arm, Loop_body, OpenBlock, Reading, add_to, close_block}
use Rattle.gq_model.proofs.Assembled_sections.{AreLimits, AreGiven, sections_size}

-- ONE LIST AFTER ANOTHER

pub body_then : (n : ℕ) (a b : Statements) → is_body n a ≡ true → is_body n b ≡ true → is_body n (a then b) ≡ true
body_then n Done b h k = k
body_then n (Do i rest) b h k =
    let p = and_parts (all_of in_range (operands i)) (is_body n rest) h in
    and_from (all_of in_range (operands i)) (is_body n (rest then b)) p.0 (body_then n rest b p.1 k)
body_then n (If arm other rest) b h k =
    let p = and_parts (nat_lt 0 n && is_body (n - 1) arm && is_body (n - 1) other) (is_body n rest) h in
    and_from (nat_lt 0 n && is_body (n - 1) arm && is_body (n - 1) other) (is_body n (rest then b)) p.0 (body_then n rest b p.1 k)
body_then n (Loop c body rest) b h k =
    let p = and_parts (nat_lt 0 n && between 1 65535 c && is_body (n - 1) body) (is_body n rest) h in
    and_from (nat_lt 0 n && between 1 65535 c && is_body (n - 1) body) (is_body n (rest then b)) p.0 (body_then n rest b p.1 k)

pub size_then : (a b : Statements) → size (a then b) ≡ size a + size b
size_then Done b = omega arith
size_then (Do i rest) b = omega (arith, size_then rest b)
size_then (If arm other rest) b = omega (arith, size_then rest b)
size_then (Loop c body rest) b = omega (arith, size_then rest b)

-- BLOCKS

-- what stands in a section is no section; n blocks may be opened in the block
abbrev IsKind : List OpenBlock → BlockKind → ℕ → Type 0
IsKind [] (Section_block s) n = is_section s ≡ true
IsKind (b ∷ outer) First_arm n = Unit {0}
IsKind (b ∷ outer) (Second_arm arm) n = is_body n arm ≡ true
IsKind (b ∷ outer) (Loop_body c) n = between 1 65535 c ≡ true
IsKind _ _ n = ⊥

-- how many blocks may be opened in a block with these around it
abbrev room : List OpenBlock → ℕ
room outer = 4 - length outer

pub record IsOpen (kind : BlockKind) (before : Statements) (outer : List OpenBlock) : Type 0 where
  pub kind_is : IsKind outer kind (room outer)
  pub body : is_body (room outer) before ≡ true
  pub few : length outer ≤ 4

abbrev pub AreOpen : List OpenBlock → Type 0
AreOpen [] = Unit {0}
AreOpen (b ∷ outer) = IsOpen b.kind b.before outer × AreOpen outer

-- the statements of a block, with the `if` or loop that it is of
abbrev block_size : BlockKind → Statements → ℕ
block_size (Section_block s) before = size before
block_size First_arm before = 1 + size before
block_size (Second_arm arm) before = 1 + size arm + size before
block_size (Loop_body c) before = 1 + size before

abbrev pub blocks_size : List OpenBlock → ℕ
blocks_size [] = 0
blocks_size (b ∷ outer) = block_size b.kind b.before + blocks_size outer

-- READINGS

-- all parts are in range, and their statements are counted
pub record IsReading (r : Reading) : Type 0 where
  pub limits : AreLimits r.limits
  pub sections : AreGiven r.sections
  pub blocks : AreOpen r.blocks
  pub count : sections_size r.sections + blocks_size r.blocks ≡ r.count
  pub few : r.count ≤ greatest_statements

-- statements at the end of the innermost block
block_size_then : (kind : BlockKind) (before new : Statements) → block_size kind (before then new) ≡ block_size kind before + size new
block_size_then (Section_block s) before new = size_then before new
block_size_then First_arm before new = omega (arith, size_then before new)
block_size_then (Second_arm arm) before new = omega (arith, size_then before new)
block_size_then (Loop_body c) before new = omega (arith, size_then before new)

open_then : (kind : BlockKind) (before new : Statements) (outer : List OpenBlock) → IsOpen kind before outer → is_body (room outer) new ≡ true
    → IsOpen kind (before then new) outer
open_then kind before new outer h k = record { kind_is = h.kind_is; body = body_then (room outer) before new h.body k; few = h.few }

-- with these statements at the end of the innermost block
pub added : (r : Reading) (new : Statements) (b : OpenBlock) (outer : List OpenBlock) (count : ℕ) → AreLimits r.limits → AreGiven r.sections
    → AreOpen (b ∷ outer) → is_body (room outer) new ≡ true → sections_size r.sections + (block_size b.kind b.before + blocks_size outer) + size new ≡ count
    → count ≤ greatest_statements → IsReading (record r { count = count; blocks = add_to new (b ∷ outer) })
added r new b outer count l s o k c f = record {
  limits = l;
  sections = s;
  blocks = (open_then b.kind b.before new outer o.0 k, o.1);
  count = omega (arith, c, block_size_then b.kind b.before new);
  few = f;
}

-- a block is closed
room_less : (b : OpenBlock) (outer : List OpenBlock) → length (b ∷ outer) ≤ 4 → (room outer - 1 ≡ room (b ∷ outer)) × (0 < room outer)
room_less b outer h = (omega (arith, h), omega (arith, h))

if_body : (n m : ℕ) (arm other : Statements) → n - 1 ≡ m → 0 < n → is_body m arm ≡ true → is_body m other ≡ true → is_body n (If arm other Done) ≡ true
if_body n m arm other e some h k =
    let a : is_body (n - 1) arm ≡ true = rw e h in
    let b : is_body (n - 1) other ≡ true = rw e k in
    and_from (nat_lt 0 n && is_body (n - 1) arm && is_body (n - 1) other) true
    (and_from (nat_lt 0 n && is_body (n - 1) arm) (is_body (n - 1) other) (and_from (nat_lt 0 n) (is_body (n - 1) arm) (lt-ltb 0 n some) a) b) refl

loop_body : (n m c : ℕ) (body : Statements) → n - 1 ≡ m → 0 < n → between 1 65535 c ≡ true → is_body m body ≡ true → is_body n (Loop c body Done) ≡ true
loop_body n m c body e some t h =
    let b : is_body (n - 1) body ≡ true = rw e h in
    and_from (nat_lt 0 n && between 1 65535 c && is_body (n - 1) body) true
    (and_from (nat_lt 0 n && between 1 65535 c) (is_body (n - 1) body) (and_from (nat_lt 0 n) (between 1 65535 c) (lt-ltb 0 n some) t) b) refl

pub closed : (r : Reading) (kind : BlockKind) (before : Statements) (outer : List OpenBlock) → AreLimits r.limits → AreGiven r.sections
    → IsOpen kind before outer → AreOpen outer → sections_size r.sections + (block_size kind before + blocks_size outer) ≡ r.count
    → r.count ≤ greatest_statements → IsReading (close_block r kind before outer)
closed r (Section_block s) before [] l g h o c f = record { limits = l; sections = (h.kind_is, h.body, g); blocks = tt; count = omega (arith, c); few = f }
closed r First_arm before (b ∷ outer) l g h o c f =
    let less = room_less b outer h.few in
    added r (If before Done Done) b outer r.count l g o (if_body (room outer) (room (b ∷ outer)) before Done less.0 less.1 h.body refl) (omega (arith, c)) f
closed r (Second_arm arm) before (b ∷ outer) l g h o c f =
    let less = room_less b outer h.few in
    added r (If arm before Done) b outer r.count l g o (if_body (room outer) (room (b ∷ outer)) arm before less.0 less.1 h.kind_is h.body) (omega (arith, c)) f
closed r (Loop_body n) before (b ∷ outer) l g h o c f =
    let less = room_less b outer h.few in
    added r (Loop n before Done) b outer r.count l g o (loop_body (room outer) (room (b ∷ outer)) n before less.0 less.1 h.kind_is h.body) (omega (arith, c)) f
closed r kind before outer l g h o c f = absurd (h.kind_is)
