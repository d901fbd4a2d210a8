-- What has been read, as the definitions see it.
use Rattle.std.specs.Prelude.{◌≡◌, suc, nat_lt, if◌then◌else◌, List, [], ◌∷◌, length, Result, Ok, Err}
use Rattle.gq_model.specs.machine.Program.{Statements}
use Rattle.gq_model.specs.declared.fault.TextFault.{TextFault}
use Rattle.gq_model.specs.declared.fault.TextFault.TheVariants.{TooLong}
use Rattle.gq_model.specs.texts.Code.{greatest_statements}
use Rattle.gq_model.specs.texts.Text as text
use Rattle.gq_model.specs.texts.Text.{Read, add_to}
use Rattle.gq_asm.specs.declared.assembly_state.BlockKind.{BlockKind}
use Rattle.gq_asm.specs.declared.assembly_state.BlockKind.TheVariants.{Section, FirstArm, SecondArm, Loop}
use Rattle.gq_asm.specs.declared.assembly_state.OpenBlock.{OpenBlock}
use Rattle.gq_asm.specs.declared.assembly_state.Reading.{Reading}
use Rattle.gq_asm.specs.declared.asm_fault.LineError.{LineError}
use Rattle.gq_asm.specs.declared.asm_fault.LineError.TheVariants.{Memory, Fault}

-- What a function left, seen by view, is the answer, unless memory ran out.
abbrev pub Fails : {Y : Type 0} → LineError → Result Y TextFault → Type 0
Fails Memory answer = Unit {0}
Fails (Fault fault) answer = answer ≡ Err fault

abbrev pub AnswersBy : {X Y : Type 0} → (X → Y) → Result X LineError → Result Y TextFault → Type 0
AnswersBy view (Ok x) answer = answer ≡ Ok (view x)
AnswersBy view (Err error) answer = Fails error answer

abbrev pub kind_of : BlockKind → text.BlockKind
kind_of (Section s) = text.Section_block s
kind_of FirstArm = text.First_arm
kind_of (SecondArm arm) = text.Second_arm arm
kind_of (Loop count) = text.Loop_body count

abbrev pub block_of : OpenBlock → text.OpenBlock
block_of b = record { kind = kind_of b.kind; line = b.line; before = b.before }

abbrev pub blocks_of : List OpenBlock → List text.OpenBlock
blocks_of [] = []
blocks_of (b ∷ rest) = block_of b ∷ blocks_of rest

abbrev pub reading_of : Reading → text.Reading
reading_of r = record { limits = r.limits.items; sections = r.sections.items; count = r.count; blocks = blocks_of r.blocks.items }

-- one statement more
abbrev pub counted_at : text.Reading → Read
counted_at r = if nat_lt r.count greatest_statements then Ok (record r { count = suc r.count }) else Err TooLong

-- one block more
abbrev pub nested_in : text.Reading → Read
nested_in r = if nat_lt (length r.blocks) 5 then Ok r else Err TooLong

-- the same with these statements at the end of the innermost block
abbrev pub with_added : Statements → text.Reading → text.Reading
with_added new r = record r { blocks = add_to new r.blocks }
