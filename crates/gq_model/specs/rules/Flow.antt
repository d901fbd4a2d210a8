-- The rules for lists of statements and for sections, each fault with its place.
use Rattle.std.specs.Prelude.{ℕ, zero, suc, ◌+◌, nat_le, ◌==◌, Bool, true, false, ◌&&◌, not, List, [], ◌∷◌, ◌++◌, Option, Some, None, Result, Ok, Err}
use Rattle.std.specs.Prelude.{slice_get}
use Rattle.gq_model.specs.machine.Program.{Space, Statements, Done, Do, If, Loop, size, section_in}
use Rattle.gq_model.specs.machine.Sections.{Section, Main, Opening, Upgrading, Calling, Closing, Reacting}
use Rattle.gq_model.specs.machine.Program.{body_of}
use Rattle.gq_model.specs.machine.Scenario.{Interface, number_of}
use Rattle.gq_model.specs.rules.Kinds.{Kind, Memory, Link_kind, AbstractState, Subject, Context, inside, same_kinds, no_kinds, own_empty}
use Rattle.gq_model.specs.rules.Rules.{Rule, LeftoverOperand, ValueTooLarge, JoinDiffers, SessionBankChanged, LinkLeftOpen, Judged, must, popped, and_then}
use Rattle.gq_model.specs.rules.Rules.{is_empty_kind, within_need, judged}

-- the state after a list, or the rule that is broken first and the number of its statement, which counts from 1
abbrev pub Flowed : Type 0
Flowed = Result AbstractState (Rule × ℕ)

-- the n-th statement is judged
abbrev pub at : ℕ → Judged → Flowed
at n (Ok s) = Ok s
at n (Err rule) = Err (rule, n)

-- numbers count on after n statements
abbrev pub later : ℕ → Flowed → Flowed
later n (Ok s) = Ok s
later n (Err fault) = Err (fault.0, n + fault.1)

abbrev pub flow_then : Flowed → (AbstractState → Flowed) → Flowed
flow_then (Ok s) go = go s
flow_then (Err fault) go = Err fault

abbrev pub is_nil : List ℕ → Bool
is_nil [] = true
is_nil (a ∷ rest) = false

-- no operand is left
abbrev pub none_left : AbstractState → Judged
none_left s = must (is_nil s.bounds) LeftoverOperand (Ok s)

-- the state in which both arms of an `if` start: the condition is the only operand
abbrev pub chosen_from : AbstractState → Judged
chosen_from s = popped s (λ a t. none_left t)

-- two ways lead to the same banks, with no operand left
abbrev pub join : AbstractState → AbstractState → Judged
join s t = must (is_nil s.bounds && is_nil t.bounds) LeftoverOperand (must (same_kinds s.own t.own && same_kinds s.bank t.bank) JoinDiffers (Ok s))

-- the state after a list of statements; a join is judged after what is inside
abbrev pub flow : Context → AbstractState → Statements → Flowed
flow c s Done = Ok s
flow c s (Do i rest) = flow_then (at 1 (judged c s i)) (λ t. later 1 (flow c t rest))
flow c s (If arm other rest) =
    flow_then (at 1 (chosen_from s)) (λ t.
    flow_then (later 1 (flow c t arm)) (λ u.
    flow_then (later (1 + size arm) (flow c t other)) (λ v.
    flow_then (at 1 (join u v)) (λ w.
    later (1 + size arm + size other) (flow c w rest)))))
flow c s (Loop n body rest) =
    flow_then (at 1 (none_left s)) (λ t.
    flow_then (later 1 (flow (inside c n) t body)) (λ u.
    flow_then (at 1 (join t u)) (λ w.
    later (1 + size body) (flow c w rest))))

-- the state that is reached, or this one where none is
abbrev pub state_or : AbstractState → Flowed → AbstractState
state_or s (Ok t) = t
state_or s (Err fault) = s

-- the states before the statements of a list and at its end
abbrev pub points : Context → AbstractState → Statements → List AbstractState
points c s Done = s ∷ []
points c s (Do i rest) = s ∷ points c (state_or s (at 1 (judged c s i))) rest
points c s (If arm other rest) =
    let t = record s { bounds = [] } in s ∷ points c t arm ++ points c t other ++ points c (state_or t (flow c t arm)) rest
points c s (Loop n body rest) = s ∷ points (inside c n) s body ++ points c s rest

-- SECTIONS

abbrev pub context : Subject → Section → Context
context v section = record { subject = v; section = section; counts = [] }

abbrev pub body : Subject → Section → Statements
body v section = body_of (section_in section v.program.sections)

-- a call starts with its argument
abbrev pub first_bounds : Option Interface → Section → List ℕ
first_bounds provided (Calling l) = number_of provided (λ i. i.arg) ∷ []
first_bounds provided _ = []

-- the own bank as `main` leaves it
abbrev pub own_after : Subject → List Kind
own_after v =
    let s : AbstractState = record { own = own_empty; bank = no_kinds; bounds = [] } in (state_or s (flow (context v Main) s (body v Main))).own

-- `main` starts with no slot in use
abbrev pub own_before : Subject → Section → List Kind
own_before v Main = own_empty
own_before v _ = own_after v

-- the session's bank that a section leaves
abbrev pub bank_by : Subject → Section → List Kind → List Kind
bank_by v section bank =
    let s : AbstractState = record { own = own_after v; bank = bank; bounds = first_bounds v.provided section } in
    (state_or s (flow (context v section) s (body v section))).bank

-- the bank of a session of level l between requests
abbrev pub bank_at : Subject → ℕ → List Kind
bank_at v zero = bank_by v Opening no_kinds
bank_at v (suc l) = bank_by v (Upgrading (suc l)) (bank_at v l)

-- the bank with which a section starts: an upgrade to level l + 1 starts with that of level l
abbrev pub bank_before : Subject → Section → List Kind
bank_before v Main = no_kinds
bank_before v Opening = no_kinds
bank_before v (Upgrading zero) = no_kinds
bank_before v (Upgrading (suc l)) = bank_at v l
bank_before v (Calling l) = bank_at v l
bank_before v (Closing l) = bank_at v l
bank_before v (Reacting i) = no_kinds

-- the state in which a section starts
abbrev pub start_of : Subject → Section → AbstractState
start_of v section = record { own = own_before v section; bank = bank_before v section; bounds = first_bounds v.provided section }

-- ENDS OF SECTIONS

abbrev pub has_link : List Kind → Bool
has_link [] = false
has_link (Link_kind s l a ∷ kinds) = true
has_link (_ ∷ kinds) = has_link kinds

abbrev pub is_space_kind : ℕ → Option Kind → Bool
is_space_kind n (Some (Memory Space m)) = m == n
is_space_kind n _ = false

abbrev pub bank_is_empty : List Kind → Bool
bank_is_empty [] = true
bank_is_empty (k ∷ kinds) = is_empty_kind k && bank_is_empty kinds

-- who provides nothing and has no signals ends without a link
abbrev pub main_end : Option Interface → ℕ → AbstractState → Judged
main_end None zero s = must (not (has_link s.own)) LinkLeftOpen (Ok s)
main_end None (suc n) s = Ok s
main_end (Some i) signals s = Ok s

-- a buffer is a space of just its size in the first slot
abbrev pub opening_end : ℕ → AbstractState → Judged
opening_end zero s = Ok s
opening_end (suc n) s = must (is_space_kind (suc n) (slice_get s.bank 0)) SessionBankChanged (Ok s)

-- a call leaves one operand within the bound, and the bank as it was
abbrev pub calling_end : Option Interface → List Kind → AbstractState → Judged
calling_end provided bank s =
    popped s (λ a t. must (is_nil t.bounds) LeftoverOperand (must (nat_le a (number_of provided (λ i. i.reply))) ValueTooLarge
    (must (same_kinds s.bank bank) SessionBankChanged (Ok t))))

-- what holds at a section's end
abbrev pub section_end : Subject → Section → AbstractState → Judged
section_end v Main s = and_then (none_left s) (main_end v.provided v.signals)
section_end v Opening s = and_then (none_left s) (opening_end (number_of v.provided (λ i. i.buffer)))
section_end v (Upgrading l) s = none_left s
section_end v (Calling l) s = calling_end v.provided (bank_at v l) s
section_end v (Closing l) s = and_then (none_left s) (λ t. must (bank_is_empty t.bank) SessionBankChanged (Ok t))
section_end v (Reacting i) s = none_left s

-- a section from its start, place 0, to its end, the place after its last statement
abbrev pub section_flow : Subject → Section → Flowed
section_flow v section =
    flow_then (at 0 (within_need section v.provided (start_of v section))) (λ s.
    flow_then (flow (context v section) s (body v section)) (λ t.
    at (suc (size (body v section))) (section_end v section t)))
