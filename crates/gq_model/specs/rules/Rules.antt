-- The rules for one statement.
use Rattle.std.specs.Prelude.{ℕ, suc, ◌+◌, ◌-◌, ◌*◌, ◌/◌, ◌^◌, min, nat_lt, nat_le, ◌==◌, if◌then◌else◌, Bool, true, false, ◌&&◌, not, List, [], ◌∷◌, length}
use Rattle.std.specs.Prelude.{Option, Some, None, Result, Ok, Err, slice_get, slice_index, slice_index_or}
use Rattle.gq_model.specs.machine.Amounts.{Resource, Ram, Caps, Amount, amount, part, plus}
use Rattle.gq_model.specs.machine.Program.{OperandSlot, Own, Shared, Object, Block, Slice, Space, Width, Byte, Word, bytes_of, Operator, Add, Subtract}
use Rattle.gq_model.specs.machine.Program.{Multiply}
use Rattle.gq_model.specs.machine.Program.{And, Equal, Less, Drop, Dup, Combine, Push, Divide, Modulo, Get, Set, Index, Input, OperandStatement, Plain}
use Rattle.gq_model.specs.machine.Program.{Numbered}
use Rattle.gq_model.specs.machine.Program.{Instruction, Say, Out, Operands, Make, MakePool, Load, Store, Free, Take, Give, Peek, Poke, Open, Upgrade, Call}
use Rattle.gq_model.specs.machine.Program.{Close}
use Rattle.gq_model.specs.machine.Sections.{Section, Main, Reacting, level_of, is_start_section}
use Rattle.gq_tariff.specs.Prices.{up}
use Rattle.gq_model.specs.machine.Scenario.{Interface, interface_in, number_of}
use Rattle.gq_model.specs.rules.Kinds.{Kind, Empty_kind, Memory, Pool_kind, Link_kind, AbstractState, Context, kind_at, with_kind, need_of}
use Rattle.gq_model.specs.rules.Kinds.{session_cost}
pub use Rattle.gq_model.specs.declared.fault.Rule.{Rule}
pub use Rattle.gq_model.specs.declared.fault.Rule.TheVariants.{MissingOperand, StackTooDeep, LeftoverOperand, WrongKind, SlotInUse, OutOfRange, ValueTooLarge}
pub use Rattle.gq_model.specs.declared.fault.Rule.TheVariants.{JoinDiffers, SessionBankChanged, OwnBankChanged, HeapInSession, ShortDonation, OverNeed}
pub use Rattle.gq_model.specs.declared.fault.Rule.TheVariants.{LinkLeftOpen, UnknownService, MissingSection, BudgetTooLarge, OverCaps, NoInput}
pub use Rattle.gq_model.specs.machine.Memory.{is_later}

-- the state after a statement, or the rule of least number that is broken there
abbrev pub Judged : Type 0
Judged = Result AbstractState Rule

-- goes on where the test holds
abbrev pub must : Bool → Rule → Judged → Judged
must true rule next = next
must false rule next = Err rule

-- goes on with what is there
abbrev pub given : {A : Type 0} → Option A → Rule → (A → Judged) → Judged
given None rule go = Err rule
given (Some a) rule go = go a

-- goes on with the bound of the top operand and those below it
abbrev pub top : List ℕ → (ℕ → List ℕ → Judged) → Judged
top [] go = Err MissingOperand
top (a ∷ rest) go = go a rest

-- goes on with the bound of the top operand and the state without it
abbrev pub popped : AbstractState → (ℕ → AbstractState → Judged) → Judged
popped s go = top s.bounds (λ a rest. go a (record s { bounds = rest }))

-- one operand more, of at most 16
abbrev pub pushed : ℕ → AbstractState → Judged
pushed a s = must (nat_lt (length s.bounds) 16) StackTooDeep (Ok (record s { bounds = a ∷ s.bounds }))

-- the greatest number of 32 bits
abbrev pub most : ℕ
most = 2 ^ 32 - 1

-- SLOTS

abbrev pub is_empty_kind : Kind → Bool
is_empty_kind Empty_kind = true
is_empty_kind _ = false

-- what can be freed
abbrev pub is_memory_kind : Kind → Bool
is_memory_kind (Memory form n) = true
is_memory_kind (Pool_kind n m) = true
is_memory_kind _ = false

-- what the heap has places for
abbrev pub is_heap_kind : Kind → Bool
is_heap_kind (Memory Block n) = true
is_heap_kind (Pool_kind n m) = true
is_heap_kind _ = false

-- no own slot is changed but in `main`
abbrev pub may_change : Context → OperandSlot → Bool
may_change c (Own i) = is_start_section c.section
may_change c (Shared i) = true
may_change c Object = true

abbrev pub is_shared : OperandSlot → Bool
is_shared (Shared i) = true
is_shared _ = false

-- the first slot of a session with a buffer stays from `open` to `close`
abbrev pub is_kept : Context → OperandSlot → Bool
is_kept c (Shared i) = i == 0 && is_later c.section && nat_lt 0 (number_of c.subject.provided (λ i. i.buffer))
is_kept c _ = false

-- the bytes of a buffer, where there is one
abbrev pub shared_bytes : ℕ → Option ℕ
shared_bytes n = if n == 0 then None else Some (up n)

-- how many bytes a slot gives access to; a link does so to its interface's buffer
abbrev pub reach : Context → Option Kind → Option ℕ
reach c (Some (Memory Space n)) = Some (up n)
reach c (Some (Memory Slice n)) = Some n
reach c (Some (Memory Block n)) = Some n
reach c (Some (Link_kind service level given)) = shared_bytes (number_of (interface_in service c.subject.interfaces) (λ i. i.buffer))
reach c _ = None

-- the entry size and the entries of a pool
abbrev pub pool_kind : Option Kind → Option (ℕ × ℕ)
pool_kind (Some (Pool_kind n m)) = Some (n, m)
pool_kind _ = None

-- the service, the level and what was given of a link
abbrev pub link_kind : Option Kind → Option (List ℕ × ℕ × Amount)
link_kind (Some (Link_kind service level given)) = Some (service, level, given)
link_kind _ = None

-- puts a kind into a slot that is there and Empty
abbrev pub fill : Context → AbstractState → OperandSlot → Kind → Judged
fill c s place kind =
    given (kind_at c s place) WrongKind (λ old. must (is_empty_kind old) SlotInUse (must (may_change c place) OwnBankChanged
    (must (not (is_heap_kind kind && is_shared place)) HeapInSession (Ok (with_kind s place kind)))))

-- makes a slot Empty that holds memory
abbrev pub freed : Context → AbstractState → OperandSlot → Judged
freed c s place =
    given (kind_at c s place) WrongKind (λ k. must (is_memory_kind k) WrongKind (must (not (is_kept c place)) SessionBankChanged
    (must (may_change c place) OwnBankChanged (Ok (with_kind s place Empty_kind)))))

-- goes on with a pool of which this entry is within range
abbrev pub pooled : Context → AbstractState → OperandSlot → ℕ → (ℕ → Judged) → Judged
pooled c s place i go = given (pool_kind (kind_at c s place)) WrongKind (λ p. must (nat_lt i p.1) OutOfRange (go p.0))

-- goes on where these bytes are within reach
abbrev pub reached : Context → AbstractState → OperandSlot → ℕ → Width → Judged → Judged
reached c s place i width next =
    given (reach c (kind_at c s place)) WrongKind (λ n. must (nat_le (i + bytes_of width) n) OutOfRange next)

-- SESSIONS

-- goes on with an interface's link
abbrev pub linked : Context → AbstractState → OperandSlot → (List ℕ → ℕ → Amount → Interface → Judged) → Judged
linked c s place go =
    given (link_kind (kind_at c s place)) WrongKind (λ l. given (interface_in l.0 c.subject.interfaces) UnknownService (go l.0 l.1 l.2))

-- a donation covers the need in bytes, and in capabilities is the need
abbrev pub opened : Context → AbstractState → OperandSlot → List ℕ → ℕ → Judged
opened c s place service n =
    given (kind_at c s place) WrongKind (λ old. must (is_empty_kind old) SlotInUse (must (may_change c place) OwnBankChanged
    (given (interface_in service c.subject.interfaces) UnknownService (λ i. must (nat_le i.need.ram n) ShortDonation
    (Ok (with_kind s place (Link_kind service 0 (amount n i.need.caps))))))))

-- an upgrade leads to the next level, if there is one
abbrev pub upgraded : Context → AbstractState → OperandSlot → ℕ → Judged
upgraded c s place n =
    linked c s place (λ service level given i. must (nat_lt level (length i.upgrades)) OutOfRange (must (may_change c place) OwnBankChanged
    (let next = slice_index_or i.upgrades level (amount 0 0) in
    must (nat_le next.ram n) ShortDonation (Ok (with_kind s place (Link_kind service (suc level) (plus given (amount n next.caps))))))))

-- a call's argument is within the interface's bound, and so is its reply
abbrev pub called : Context → AbstractState → ℕ → OperandSlot → Judged
called c s a place = linked c s place (λ service level given i. must (nat_le a i.arg) ValueTooLarge (pushed i.reply s))

abbrev pub closed : Context → AbstractState → OperandSlot → Judged
closed c s place = linked c s place (λ service level given i. must (may_change c place) OwnBankChanged (Ok (with_kind s place Empty_kind)))

-- STATEMENTS

-- the greatest value that an operator makes
abbrev pub bound_of : Operator → ℕ → ℕ → ℕ
bound_of Add a b = min (a + b) most
bound_of Subtract a b = most
bound_of Multiply a b = min (a * b) most
bound_of And a b = min a b
bound_of Equal a b = 1
bound_of Less a b = 1

-- the greatest value that is loaded
abbrev pub loaded_bound : Width → ℕ
loaded_bound Byte = 255
loaded_bound Word = most

-- the greatest values of the operands after a statement on operands alone, or the rule that is broken there
abbrev pub Bounded : Type 0
Bounded = Result (List ℕ) Rule

-- goes on with the bound of the top operand and those below it
abbrev pub bounded : List ℕ → (ℕ → List ℕ → Bounded) → Bounded
bounded [] go = Err MissingOperand
bounded (a ∷ rest) go = go a rest

-- these bounds where the test holds
abbrev pub bounds_if : Bool → Rule → List ℕ → Bounded
bounds_if true rule bounds = Ok bounds
bounds_if false rule bounds = Err rule

-- one operand more, of at most 16
abbrev pub raised : ℕ → List ℕ → Bounded
raised a bounds = bounds_if (nat_lt (length bounds) 16) StackTooDeep (a ∷ bounds)

-- the round of a loop on top, if the loop is open, which has so many rounds
abbrev pub round_raised : Option ℕ → List ℕ → Bounded
round_raised None bounds = Err MissingOperand
round_raised (Some n) bounds = raised (n - 1) bounds

-- where there is no room for one more operand, that is broken, else that there is no such input
abbrev pub without_input : Bounded → Bounded
without_input (Ok bounds) = Err NoInput
without_input (Err rule) = Err rule

-- an input on top, which is at most its greatest value, if the leaf has this input
abbrev pub input_raised : Option ℕ → List ℕ → Bounded
input_raised None bounds = without_input (raised 0 bounds)
input_raised (Some n) bounds = raised n bounds

-- what such a statement reads beside the operands: the greatest values of the locals, the counts of the loops around, the innermost first, and the
-- greatest values of the inputs
pub record Limits : Type 0 where
  pub locals : List ℕ
  pub counts : List ℕ
  pub inputs : List ℕ

abbrev pub limits : Context → Limits
limits c = record { locals = c.subject.program.locals; counts = c.counts; inputs = c.subject.inputs }

abbrev pub bounds_after : Limits → List ℕ → OperandStatement → Bounded
bounds_after l bounds (Plain Drop) = bounded bounds (λ a rest. Ok rest)
bounds_after l bounds (Plain Dup) = bounded bounds (λ a rest. raised a (a ∷ rest))
bounds_after l bounds (Plain (Combine f)) = bounded bounds (λ b below. bounded below (λ a rest. raised (bound_of f a b) rest))
bounds_after l bounds (Numbered Push n) = raised n bounds
bounds_after l bounds (Numbered Divide n) = bounded bounds (λ a rest. raised (a / n) rest)
bounds_after l bounds (Numbered Modulo n) = bounded bounds (λ a rest. raised (min a (n - 1)) rest)
bounds_after l bounds (Numbered Get n) = raised (slice_index l.locals n) bounds
bounds_after l bounds (Numbered Set n) = bounded bounds (λ a rest. bounds_if (nat_le a (slice_index l.locals n)) ValueTooLarge rest)
bounds_after l bounds (Numbered Index n) = round_raised (slice_get l.counts n) bounds
bounds_after l bounds (Numbered Input n) = input_raised (slice_get l.inputs n) bounds

-- the state with the bounds that such a statement leaves
abbrev pub with_bounds : AbstractState → Bounded → Judged
with_bounds s (Ok bounds) = Ok (record s { bounds = bounds })
with_bounds s (Err rule) = Err rule

-- the state after an instruction
abbrev pub judge : Context → AbstractState → Instruction → Judged
judge c s (Say text) = Ok s
judge c s Out = popped s (λ a t. Ok t)
judge c s (Operands o) = with_bounds s (bounds_after (limits c) s.bounds o)
judge c s (Make form place n) = fill c s place (Memory form n)
judge c s (MakePool place n m) = fill c s place (Pool_kind n m)
judge c s (Load width place) = popped s (λ i t. reached c s place i width (pushed (loaded_bound width) t))
judge c s (Store width place) = popped s (λ v t. popped t (λ i u. reached c s place i width (Ok u)))
judge c s (Free place) = freed c s place
judge c s (Take place) = popped s (λ i t. pooled c s place i (λ n. pushed 1 t))
judge c s (Give place) = popped s (λ i t. pooled c s place i (λ n. pushed 1 t))
judge c s (Peek place) = popped s (λ k t. popped t (λ i u. pooled c s place i (λ n. must (nat_lt k n) OutOfRange (pushed 255 u))))
judge c s (Poke place) = popped s (λ b t. popped t (λ k u. popped u (λ i v. pooled c s place i (λ n. must (nat_lt k n) OutOfRange (Ok v)))))
judge c s (Open place service n) = opened c s place service n
judge c s (Upgrade place n) = upgraded c s place n
judge c s (Call place) = popped s (λ a t. called c t a place)
judge c s (Close place) = closed c s place

abbrev pub and_then : Judged → (AbstractState → Judged) → Judged
and_then (Ok s) go = go s
and_then (Err rule) go = Err rule

-- WHAT A SESSION COSTS

abbrev pub over : Resource → Rule
over Ram = OverNeed
over Caps = OverCaps

-- a session costs no more of these resources than is given for it
abbrev pub covered : List Resource → Interface → ℕ → AbstractState → Judged
covered [] i level s = Ok s
covered (r ∷ resources) i level s =
    must (nat_le (session_cost r i s.bank) (part r (need_of i level))) (over r) (covered resources i level s)

-- so it is where a session is current
abbrev pub within_need : Section → Option Interface → AbstractState → Judged
within_need Main provided s = Ok s
within_need (Reacting i) provided s = Ok s
within_need section None s = Ok s
within_need section (Some i) s = covered i.counted i (level_of section) s

-- an instruction, and what the session costs after it
abbrev pub judged : Context → AbstractState → Instruction → Judged
judged c s i = and_then (judge c s i) (within_need c.section c.subject.provided)
