-- Worked runs of leaves without sessions, by computation.
use Rattle.std.proofs.Common.{◌++◌, ◌≡◌, [], ◌∷◌, None, refl}
use Rattle.std.specs.Prelude.{codes}
use Rattle.std.specs.Fmt.{digits}
use Rattle.gq_model.specs.machine.Program.{Own, Block, Slice, Space, Byte, Word, Out, Make, Load, Store, Free}
use Rattle.gq_model.specs.machine.Accounts.{whole}
use Rattle.gq_model.specs.machine.Scenario.{End}
use Rattle.gq_model.proofs.Sample_scenarios.{hello, hello_below, scenario, one, row_of_leaves, started}
use Rattle.gq_model.proofs.Statement_word_rows.{push}
use Rattle.gq_model.specs.machine.Run.{Turns}

hello_run : whole hello (started (2 ∷ [])) ((0, Turns 2) ∷ []) ≡ codes
    "[init -> hello] hello\naccount init quota 65536\naccount init -> hello quota 0 used 0 steps 2/2 exited\n"
unfolding digits
hello_run = refl

hello_long : whole hello (started (2 ∷ [])) ((0, Turns 1000) ∷ []) ≡ codes
    "[init -> hello] hello\naccount init quota 65536\naccount init -> hello quota 0 used 0 steps 2/2 exited\n"
unfolding digits
hello_long = refl

hello_no_turns : whole hello (started (2 ∷ [])) [] ≡ codes "account init quota 61440\naccount init -> hello quota 4096 used 0 steps 0/2 running\n"
unfolding digits
hello_no_turns = refl

no_leaves : whole (scenario 65536 End) [] [] ≡ codes "account init quota 65536\n"
unfolding digits
no_leaves = refl

hello_below_no_turns : whole hello_below (started (2 ∷ [])) [] ≡ codes
    "account init quota 49152\naccount init -> a quota 12288\naccount init -> a -> hello quota 4096 used 0 steps 0/2 running\n"
unfolding digits
hello_below_no_turns = refl

hello_below_run : whole hello_below (started (2 ∷ [])) ((0, Turns 2) ∷ [])
    ≡ codes "[init -> a -> hello] hello\naccount init quota 49152\naccount init -> a quota 16384\naccount init -> a -> hello quota 0 used 0 steps 2/2 exited\n"
unfolding digits
hello_below_run = refl

-- PRICES

space_fits : whole (one 65536 4096 (Make Space (Own 0) 4096 ∷ [])) (started (2 ∷ [])) ((0, Turns 1) ∷ [])
    ≡ codes "account init quota 61440\naccount init -> a quota 4096 used 4096 steps 1/2 running\n"
unfolding digits
space_fits = refl

-- a wrong step ends the run: no account line is written
space_too_large : whole (one 65536 4096 (Make Space (Own 0) 4097 ∷ [])) [] ((0, Turns 1) ∷ []) ≡ []
unfolding digits
space_too_large = refl

slice_in_a_page : whole (one 65536 8192 (Make Slice (Own 0) 4064 ∷ [])) (started (2 ∷ [])) ((0, Turns 1) ∷ [])
    ≡ codes "account init quota 57344\naccount init -> a quota 8192 used 4096 steps 1/2 running\n"
unfolding digits
slice_in_a_page = refl

slice_in_two_pages : whole (one 65536 8192 (Make Slice (Own 0) 4065 ∷ [])) (started (2 ∷ [])) ((0, Turns 1) ∷ [])
    ≡ codes "account init quota 57344\naccount init -> a quota 8192 used 8192 steps 1/2 running\n"
unfolding digits
slice_in_two_pages = refl

large_block : whole (one 65536 8192 (Make Block (Own 0) 2049 ∷ Free (Own 0) ∷ [])) (started (3 ∷ [])) ((0, Turns 1) ∷ [])
    ≡ codes "account init quota 57344\naccount init -> a quota 8192 used 4096 steps 1/3 running\n"
unfolding digits
large_block = refl

-- a large block goes back, a chunk of the heap stays
large_block_freed : whole (one 65536 8192 (Make Block (Own 0) 2049 ∷ Free (Own 0) ∷ [])) (started (3 ∷ [])) ((0, Turns 2) ∷ [])
    ≡ codes "account init quota 57344\naccount init -> a quota 8192 used 0 steps 2/3 running\n"
unfolding digits
large_block_freed = refl

small_block_freed : whole (one 65536 8192 (Make Block (Own 0) 2048 ∷ Free (Own 0) ∷ [])) (started (3 ∷ [])) ((0, Turns 2) ∷ [])
    ≡ codes "account init quota 57344\naccount init -> a quota 8192 used 4096 steps 2/3 running\n"
unfolding digits
small_block_freed = refl

-- BYTES

-- four bytes across the border of two pages that need not lie together
scattered_pages : whole (one 12288 12288 (Make Space (Own 0) 4096 ∷ Make Space (Own 1) 4096 ∷ Make Space (Own 2) 4096 ∷ Free (Own 0) ∷ Free (Own 2)
    ∷ Make Space (Own 3) 8192 ∷ push 4094 ∷ push 1 ∷ Store Byte (Own 3) ∷ push 4095 ∷ push 2 ∷ Store Byte (Own 3) ∷ push 4096 ∷ push 3 ∷ Store Byte (Own 3)
    ∷ push 4097 ∷ push 4 ∷ Store Byte (Own 3) ∷ push 4094 ∷ Load Word (Own 3) ∷ Out ∷ [])) (started (22 ∷ [])) ((0, Turns 22) ∷ [])
    ≡ codes "[init -> a] 67305985\naccount init quota 12288\naccount init -> a quota 0 used 0 steps 22/22 exited\n"
unfolding digits
scattered_pages = refl

-- new memory is zero
new_memory : whole (one 4096 4096 (Make Space (Own 0) 4096 ∷ push 5 ∷ push 9 ∷ Store Byte (Own 0) ∷ Free (Own 0) ∷ Make Space (Own 1) 4096 ∷ push 5
    ∷ Load Byte (Own 1) ∷ Out ∷ [])) (started (10 ∷ [])) ((0, Turns 10) ∷ [])
    ≡ codes "[init -> a] 0\naccount init quota 4096\naccount init -> a quota 0 used 0 steps 10/10 exited\n"
unfolding digits
new_memory = refl

blocks_apart : whole (one 4096 4096 (Make Block (Own 0) 16 ∷ Make Block (Own 1) 16 ∷ Free (Own 0) ∷ Free (Own 1) ∷ Make Block (Own 2) 16 ∷ Make Block (Own 3) 16
    ∷ push 0 ∷ push 7 ∷ Store Byte (Own 2) ∷ push 0 ∷ push 9 ∷ Store Byte (Own 3) ∷ push 0 ∷ Load Byte (Own 2) ∷ Out ∷ [])) (started (16 ∷ []))
    ((0, Turns 16) ∷ [])
    ≡ codes "[init -> a] 7\naccount init quota 4096\naccount init -> a quota 0 used 0 steps 16/16 exited\n"
unfolding digits
blocks_apart = refl

blocks_before_the_end : whole (one 4096 4096 (Make Block (Own 0) 16 ∷ Make Block (Own 1) 16 ∷ Free (Own 0) ∷ Free (Own 1) ∷ Make Block (Own 2) 16
    ∷ Make Block (Own 3) 16 ∷ push 0 ∷ push 7 ∷ Store Byte (Own 2) ∷ push 0 ∷ push 9 ∷ Store Byte (Own 3) ∷ push 0 ∷ Load Byte (Own 2) ∷ Out ∷ []))
    (started (16 ∷ []))
    ((0, Turns 15) ∷ []) ≡ codes "[init -> a] 7\naccount init quota 0\naccount init -> a quota 4096 used 4096 steps 15/16 running\n"
unfolding digits
blocks_before_the_end = refl

-- LEAVES THAT START AFTER OTHERS

pending_at_first : whole (row_of_leaves 8192 None) (started (2 ∷ 2 ∷ 2 ∷ [])) []
    ≡ (codes "account init quota 0\naccount init -> one quota 8192 used 0 steps 0/2 running\naccount init -> two quota 0 used 0 steps 0/2 pending\n"
    ++ codes "account init -> three quota 0 used 0 steps 0/2 pending\n")
unfolding digits
pending_at_first = refl

second_after_first : whole (row_of_leaves 8192 None) (started (2 ∷ 2 ∷ 2 ∷ [])) ((1, Turns 5) ∷ (0, Turns 2) ∷ [])
    ≡ (codes "[init -> one] a\naccount init quota 0\naccount init -> one quota 0 used 0 steps 2/2 exited\n"
    ++ codes "account init -> two quota 8192 used 0 steps 0/2 running\naccount init -> three quota 0 used 0 steps 0/2 pending\n")
unfolding digits
second_after_first = refl

third_after_second : whole (row_of_leaves 8192 None) (started (2 ∷ 2 ∷ 2 ∷ [])) ((0, Turns 2) ∷ (1, Turns 2) ∷ [])
    ≡ (codes "[init -> one] a\n[init -> two] b\naccount init quota 4096\naccount init -> one quota 0 used 0 steps 2/2 exited\n"
    ++ codes "account init -> two quota 0 used 0 steps 2/2 exited\naccount init -> three quota 4096 used 0 steps 0/2 running\n")
unfolding digits
third_after_second = refl

all_have_ended : whole (row_of_leaves 8192 None) (started (2 ∷ 2 ∷ 2 ∷ [])) ((0, Turns 2) ∷ (1, Turns 2) ∷ (2, Turns 2) ∷ [])
    ≡ (codes "[init -> one] a\n[init -> two] b\n[init -> three] c\naccount init quota 8192\naccount init -> one quota 0 used 0 steps 2/2 exited\n"
    ++ codes "account init -> two quota 0 used 0 steps 2/2 exited\naccount init -> three quota 0 used 0 steps 2/2 exited\n")
unfolding digits
all_have_ended = refl
