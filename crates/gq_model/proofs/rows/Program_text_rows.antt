-- Program text and code, by computation.
use Rattle.std.proofs.Common.{◌≡◌, ℕ, List, [], ◌∷◌, ◌++◌, refl}
use Rattle.std.specs.Prelude.{codes, true, false, Result, Ok, Err, replicate, take, zero, suc}
use Rattle.gq_model.specs.machine.Program.{Own, Shared, Object, Block, Slice, Space, Byte, Word, Add, Subtract, Multiply, And, Equal, Less, Say, Out}
use Rattle.gq_model.specs.machine.Program.{Make, MakePool, Load, Store, Free, Take, Give, Peek, Poke, Open}
use Rattle.gq_model.specs.machine.Program.{Upgrade, Call, Close, Done, Do, If, Loop, ◌then◌, Program}
use Rattle.gq_model.specs.machine.Sections.{Main, Calling}
use Rattle.gq_model.specs.texts.Code.{code_of, hex_of, is_program}
use Rattle.gq_model.specs.texts.Decode.{Decoded, Truncated, TrailingBytes, BadNesting, decoded}
use Rattle.gq_model.specs.texts.Spelling.{TextFault, UnknownWord, BadNumber, BadSlot, Unclosed, StrayEnd, BadText, SectionTwice, TooLong}
use Rattle.gq_model.specs.texts.Text.{assembled}
use Rattle.gq_model.proofs.Sample_scenarios.{all_do, hello_leaf, echo_server, program, main_of, log_server, pool_main}
use Rattle.gq_model.proofs.Statement_word_rows.{drop, dup, combine, push, divide, modulo, get, set, index}

abbrev Assembled : Type 0
Assembled = Result Program (TextFault × ℕ)

-- CODE

hello_code : hex_of (code_of hello_leaf.program) ≡ codes "00010007000000010568656c6c6f"
hello_code = refl

-- an empty program is three bytes
empty_code : code_of (program []) ≡ 0 ∷ 0 ∷ 0 ∷ []
empty_code = refl

-- an `if` with one arm
if_code : hex_of (code_of (program ((Main, Do (push 1) (If (Do Out Done) Done Done)) ∷ []))) ≡ codes "0001000f000000030100000040010000000000000002"
if_code = refl

-- a limit, a loop and a session slot
limit_code : hex_of (code_of (record {
  sections = (Main, Done)
      ∷ (Calling 1, Loop 258 (Do (Load Byte Object) (Do drop Done)) (Do (MakePool (Shared 3) 16 1024) Done)) ∷ [];
  locals = 1000 ∷ replicate 7 4294967295;
}))
    ≡ codes "01e803000041000000000010000000410201030000002548042343100000" ++ codes "04"
limit_code = refl

in_range : (is_program hello_leaf.program ≡ true) × (is_program echo_server.program ≡ true) × (is_program (log_server []).program ≡ true)
    × (is_program (program ((Main, pool_main) ∷ [])) ≡ true)
in_range = (refl, refl, refl, refl)

-- a division by 0, an object to be freed and a fifth block are out of range
out_of_range : (is_program (main_of (divide 0 ∷ [])) ≡ false) × (is_program (main_of (Free Object ∷ [])) ≡ false)
    × (is_program (program ((Main, Loop 1 (Loop 1 (Loop 1 (Loop 1 (Loop 1 Done Done) Done) Done) Done) Done) ∷ [])) ≡ false)
out_of_range = (refl, refl, refl)

-- BYTES READ

abbrev echo_code : List ℕ
echo_code = code_of echo_server.program

hello_decoded : decoded (code_of hello_leaf.program) ≡ Ok hello_leaf.program
hello_decoded = refl

log_decoded : decoded (code_of (log_server (Make Space (Shared 0) 16 ∷ [])).program) ≡ Ok (log_server (Make Space (Shared 0) 16 ∷ [])).program
log_decoded = refl

pool_decoded : decoded (code_of (program ((Main, pool_main) ∷ []))) ≡ Ok (program ((Main, pool_main) ∷ []))
pool_decoded = refl

-- each proper prefix
abbrev prefixes : ℕ → List ℕ → List (Decoded Program)
prefixes zero bytes = []
prefixes (suc n) bytes = decoded (take n bytes) ∷ prefixes n bytes

hello_prefixes : prefixes 14 (code_of hello_leaf.program) ≡ replicate 14 (Err Truncated)
hello_prefixes = refl

hello_and_more : decoded (code_of hello_leaf.program ++ 0 ∷ []) ≡ Err TrailingBytes
hello_and_more = refl

-- an arm of 255 bytes
long_arm : decoded (0x00 ∷ 0x01 ∷ 0x00 ∷ 0x0e ∷ 0x00 ∷ 0x00 ∷ 0x00 ∷ 0x03 ∷ 0x01 ∷ 0x00 ∷ 0x00 ∷ 0x00 ∷ 0x40 ∷ 0xff ∷ replicate 7 0) ≡ Err BadNesting
long_arm = refl

-- TEXT

hello_text : assembled (codes "main\nsay \"hello\"\nend\n") ≡ Ok hello_leaf.program
hello_text = refl

hello_text_no_line_feed : assembled (codes "main\nsay \"hello\"\nend") ≡ Ok hello_leaf.program
hello_text_no_line_feed = refl

hello_text_blanks : assembled (codes "# a comment\r\n\r\n\tmain \r\n  say\t\"hello\" \t\r\n # more\r\nend\r\n") ≡ Ok hello_leaf.program
hello_text_blanks = refl

-- sections in any order
echo_text : assembled (codes "main\nend\nopen\nend\nclose 0\nend\ncall 0\npush 2\nmul\nend\n") ≡ Ok echo_server.program
echo_text = refl

log_text : assembled
    ((codes "main\nend\nopen\nspace s0 16\nend\nup 1\nslice s1 64\nend\ncall 0\nload s0\nend\ncall 1\nload s0\nend\nclose 0\nfree s0\nend\nclose 1\nfree s1\n"
    ++ codes "free s0\nend\n")) ≡ Ok (log_server (Make Space (Shared 0) 16 ∷ [])).program
log_text = refl

blocks_text : assembled (codes "main\npush 1\nif\nloop 3\nindex 0\ndrop\nend\nelse\nout\nend\nout\nend\n")
    ≡ Ok (program ((Main, Do (push 1) (If (Loop 3 (Do (index 0) (Do drop Done)) Done) (Do Out Done) (Do Out Done))) ∷ []))
blocks_text = refl

limit_text : assembled (codes "local 0 1000\nmain\nload obj\nend\n")
    ≡ Ok (record { sections = (Main, Do (Load Byte Object) Done) ∷ []; locals = 1000 ∷ replicate 7 4294967295 })
limit_text = refl

-- FAULTS OF TEXT

word_unknown : assembled (codes "main\nfoo\nend\n") ≡ Err (UnknownWord, 2)
word_unknown = refl

word_too_many : assembled (codes "main\npush 1 2\nend\n") ≡ Err (UnknownWord, 2)
word_too_many = refl

word_outside : assembled (codes "push 1\n") ≡ Err (UnknownWord, 1)
word_outside = refl

number_missing : assembled (codes "main\npush\nend\n") ≡ Err (BadNumber, 2)
number_missing = refl

number_too_large : assembled (codes "main\npush 4294967296\nend\n") ≡ Err (BadNumber, 2)
number_too_large = refl

number_too_long : assembled (codes "main\npush 00000000001\nend\n") ≡ Err (BadNumber, 2)
number_too_long = refl

number_zero : assembled (codes "main\ndiv 0\nend\n") ≡ Err (BadNumber, 2)
number_zero = refl

loop_zero : assembled (codes "main\nloop 0\nend\nend\n") ≡ Err (BadNumber, 2)
loop_zero = refl

slot_missing : assembled (codes "main\nfree\nend\n") ≡ Err (BadSlot, 2)
slot_missing = refl

slot_too_large : assembled (codes "main\nfree o64\nend\n") ≡ Err (BadSlot, 2)
slot_too_large = refl

slot_leading_zero : assembled (codes "main\nfree o01\nend\n") ≡ Err (BadSlot, 2)
slot_leading_zero = refl

slot_object : assembled (codes "main\nfree obj\nend\n") ≡ Err (BadSlot, 2)
slot_object = refl

slot_then_number : assembled (codes "main\nspace o64 0\nend\n") ≡ Err (BadSlot, 2)
slot_then_number = refl

block_unclosed : assembled (codes "main\nloop 2\npush 1\n") ≡ Err (Unclosed, 2)
block_unclosed = refl

section_unclosed : assembled (codes "\nmain\n") ≡ Err (Unclosed, 2)
section_unclosed = refl

fault_before_unclosed : assembled (codes "main\nfoo") ≡ Err (UnknownWord, 2)
fault_before_unclosed = refl

end_stray : assembled (codes "end\n") ≡ Err (StrayEnd, 1)
end_stray = refl

else_stray : assembled (codes "main\nelse\nend\n") ≡ Err (StrayEnd, 2)
else_stray = refl

else_twice : assembled (codes "main\npush 1\nif\nelse\nelse\nend\nend\n") ≡ Err (StrayEnd, 5)
else_twice = refl

text_missing : assembled (codes "main\nsay\nend\n") ≡ Err (BadText, 2)
text_missing = refl

text_open : assembled (codes "main\nsay \"a\nend\n") ≡ Err (BadText, 2)
text_open = refl

text_followed : assembled (codes "main\nsay \"a\" b\nend\n") ≡ Err (BadText, 2)
text_followed = refl

name_bad : assembled (codes "main\nopen o0 a.b 1\nend\n") ≡ Err (BadText, 2)
name_bad = refl

section_twice : assembled (codes "main\nend\nmain\nend\n") ≡ Err (SectionTwice, 3)
section_twice = refl

local_twice : assembled (codes "local 3 1\nlocal 3 4294967295\n") ≡ Err (SectionTwice, 2)
local_twice = refl

local_twice_first : assembled (codes "local 0 1\nlocal 0 x\n") ≡ Err (SectionTwice, 2)
local_twice_first = refl

call_twice : assembled (codes "call 0\nend\ncall 0 x\n") ≡ Err (SectionTwice, 3)
call_twice = refl

fifth_nesting : assembled (codes "main\nloop 1\nloop 1\nloop 1\nloop 1\nloop 0\n") ≡ Err (TooLong, 6)
fifth_nesting = refl

return_at_the_end : assembled (codes "main\r") ≡ Err (UnknownWord, 1)
return_at_the_end = refl

-- EVERY STATEMENT

abbrev every_statement : Program
every_statement = record {
  sections = (
    Calling 3,
    all_do
        (Say (codes "a b") ∷ Out ∷ push 4294967295 ∷ drop ∷ dup ∷ combine Add ∷ combine Subtract ∷ combine Multiply ∷ divide 7 ∷ modulo 258 ∷ combine And
        ∷ combine Equal ∷ combine Less ∷ get 7 ∷ set 3 ∷ index 2 ∷ Make Space (Own 63) 67108864 ∷ Make Slice (Shared 7) 1 ∷ Make Block (Own 0) 2049
        ∷ MakePool (Own 1) 2048 1024 ∷ Free (Own 1) ∷ Load Byte Object ∷ Store Byte (Shared 0) ∷ Load Word (Own 2) ∷ Store Word Object ∷ Take (Own 1)
        ∷ Give (Own 1)
        ∷ Peek (Own 1) ∷ Poke (Own 1) ∷ Open (Own 3) (codes "a-B_9") 0 ∷ Upgrade (Own 3) 70000 ∷ Call (Own 3) ∷ Close (Own 3) ∷ []) then Loop 65535
        (If Done Done Done) Done,
  ) ∷ [];
  locals = replicate 7 4294967295 ++ 5 ∷ [];
}

every_statement_text : assembled
    ((codes "local 7 5\ncall 3\nsay \"a b\"\nout\npush 4294967295\ndrop\ndup\nadd\nsub\nmul\ndiv 7\nmod 258\nand\neq\nlt\nget 7\nset 3\nindex 2\n"
    ++ codes "space o63 67108864\nslice s7 1\nblock o0 2049\npool o1 2048 1024\nfree o1\nload obj\nstore s0\nload4 o2\nstore4 obj\ntake o1\ngive o1\npeek o1\n"
    ++ codes "poke o1\nopen o3 a-B_9 0\nupgrade o3 70000\ncall o3\nclose o3\nloop 65535\nif\nelse\nend\nend\nend\n")) ≡ Ok every_statement
every_statement_text = refl

every_statement_code : (is_program every_statement ≡ true) × (decoded (code_of every_statement) ≡ Ok every_statement)
every_statement_code = (refl, refl)
