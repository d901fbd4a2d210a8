-- Worked runs of sessions, by computation.
use Rattle.std.proofs.Common.{◌++◌, ◌≡◌, [], ◌∷◌, refl}
use Rattle.std.specs.Prelude.{codes}
use Rattle.std.specs.Fmt.{digits}
use Rattle.gq_model.specs.machine.Accounts.{whole}
use Rattle.gq_model.proofs.Sample_scenarios.{echo_of, echo_turns, echo_twice, echo_nested, chain, good_log, log_of, echo_with_caps, two_blocks, started}
use Rattle.gq_model.specs.machine.Run.{Turns}

echo_run : whole (echo_of 8192) (started (9 ∷ 6 ∷ [])) echo_turns
    ≡ codes
    "[init -> cli] 42\naccount init quota 61440\naccount init -> srv quota 4096 used 0 steps 9/9 serving\naccount init -> cli quota 0 used 0 steps 6/6 exited\n"
unfolding digits
echo_run = refl

echo_opened : whole (echo_of 8192) (started (9 ∷ 6 ∷ [])) ((0, Turns 1) ∷ (1, Turns 1) ∷ [])
    ≡ codes "account init quota 45056\naccount init -> srv quota 12288 used 0 steps 1/9 serving\naccount init -> cli quota 8192 used 0 steps 1/6 blocked\n"
unfolding digits
echo_opened = refl

echo_accepted : whole (echo_of 8192) (started (9 ∷ 6 ∷ [])) ((0, Turns 1) ∷ (1, Turns 1) ∷ (0, Turns 1) ∷ [])
    ≡ codes "account init quota 45056\naccount init -> srv quota 12288 used 4096 steps 2/9 handling\naccount init -> cli quota 8192 used 0 steps 1/6 blocked\n"
unfolding digits
echo_accepted = refl

-- a donation below the need, unverified
echo_short : whole (echo_of 8191) (started (0 ∷ 0 ∷ [])) echo_turns
    ≡ codes
    "[init -> cli] 42\naccount init quota 61440\naccount init -> srv quota 4096 used 0 steps 9/0 serving\naccount init -> cli quota 0 used 0 steps 6/0 exited\n"
unfolding digits
echo_short = refl

-- a donation above the need goes back whole
echo_surplus : whole (echo_of 8193) (started (9 ∷ 6 ∷ [])) ((0, Turns 1) ∷ (1, Turns 1) ∷ [])
    ≡ codes "account init quota 45056\naccount init -> srv quota 12289 used 0 steps 1/9 serving\naccount init -> cli quota 8191 used 0 steps 1/6 blocked\n"
unfolding digits
echo_surplus = refl

echo_surplus_back : whole (echo_of 8193) (started (9 ∷ 6 ∷ [])) echo_turns
    ≡ codes
    "[init -> cli] 42\naccount init quota 61440\naccount init -> srv quota 4096 used 0 steps 9/9 serving\naccount init -> cli quota 0 used 0 steps 6/6 exited\n"
unfolding digits
echo_surplus_back = refl

one_then_two : whole echo_twice (started (17 ∷ 6 ∷ 6 ∷ [])) ((0, Turns 1) ∷ (1, Turns 1) ∷ (0, Turns 2) ∷ (1, Turns 2) ∷ (0, Turns 4) ∷ (1, Turns 2) ∷
    (0, Turns 2) ∷
    (1, Turns 1) ∷ (2, Turns 1) ∷ (0, Turns 2) ∷ (2, Turns 2) ∷ (0, Turns 4)
    ∷ (2, Turns 2) ∷ (0, Turns 2) ∷ (2, Turns 1) ∷ [])
    ≡ (codes "[init -> one] 2\n[init -> two] 4\naccount init quota 61440\naccount init -> srv quota 4096 used 0 steps 17/17 serving\n"
    ++ codes "account init -> one quota 0 used 0 steps 6/6 exited\naccount init -> two quota 0 used 0 steps 6/6 exited\n")
unfolding digits
one_then_two = refl

-- the oldest request is accepted first
two_before_one : whole echo_twice (started (17 ∷ 6 ∷ 6 ∷ [])) ((0, Turns 1) ∷ (2, Turns 1) ∷ (1, Turns 1) ∷ (0, Turns 4) ∷ (2, Turns 2) ∷ (1, Turns 2) ∷
    (0, Turns 8) ∷
    (2, Turns 2) ∷ (1, Turns 2) ∷ (0, Turns 4) ∷ (1, Turns 1) ∷ (2, Turns 1)
    ∷ []) ≡ (codes "[init -> two] 4\n[init -> one] 2\naccount init quota 61440\naccount init -> srv quota 4096 used 0 steps 17/17 serving\n"
    ++ codes "account init -> one quota 0 used 0 steps 6/6 exited\naccount init -> two quota 0 used 0 steps 6/6 exited\n")
unfolding digits
two_before_one = refl

two_accepted : whole echo_twice (started (17 ∷ 6 ∷ 6 ∷ [])) ((0, Turns 1) ∷ (2, Turns 1) ∷ (1, Turns 1) ∷ (0, Turns 2) ∷ [])
    ≡ (codes "account init quota 45056\naccount init -> srv quota 20480 used 4096 steps 3/17 serving\naccount init -> one quota 0 used 0 steps 1/6 blocked\n"
    ++ codes "account init -> two quota 0 used 0 steps 1/6 running\n")
unfolding digits
two_accepted = refl

nested_opened : whole echo_nested (started (9 ∷ 6 ∷ [])) ((0, Turns 1) ∷ (1, Turns 1) ∷ [])
    ≡ (codes "account init quota 20480\naccount init -> srv quota 12288 used 0 steps 1/9 serving\naccount init -> apps quota 16384\n"
    ++ codes "account init -> apps -> inner quota 8192\naccount init -> apps -> inner -> cli quota 8192 used 0 steps 1/6 blocked\n")
unfolding digits
nested_opened = refl

nested_run : whole echo_nested (started (9 ∷ 6 ∷ [])) echo_turns
    ≡ (codes "[init -> apps -> inner -> cli] 42\naccount init quota 20480\naccount init -> srv quota 4096 used 0 steps 9/9 serving\n"
    ++ codes "account init -> apps quota 16384\naccount init -> apps -> inner quota 24576\n"
    ++ codes "account init -> apps -> inner -> cli quota 0 used 0 steps 6/6 exited\n")
unfolding digits
nested_run = refl

-- A SERVER THAT IS A CLIENT

chain_run : whole chain (started (7 ∷ 9 ∷ 6 ∷ [])) ((0, Turns 1) ∷ (1, Turns 1) ∷ (0, Turns 2) ∷ (1, Turns 1) ∷ (2, Turns 1) ∷ (1, Turns 2) ∷ (2, Turns 2) ∷
    (1, Turns 2) ∷ (0, Turns 4) ∷ (1, Turns 1) ∷ (2, Turns 2) ∷ (1, Turns 2) ∷ (2, Turns 1)
    ∷ []) ≡ (codes "[init -> cli] 42\naccount init quota 53248\naccount init -> srv quota 12288 used 4096 steps 7/7 serving\n"
    ++ codes "account init -> mid quota 0 used 0 steps 9/9 serving\naccount init -> cli quota 0 used 0 steps 6/6 exited\n")
unfolding digits
chain_run = refl

-- A SHARED BUFFER

log_run : whole good_log (started (17 ∷ 13 ∷ [])) ((0, Turns 1) ∷ (1, Turns 1) ∷ (0, Turns 3) ∷ (1, Turns 5) ∷ (0, Turns 3) ∷ (1, Turns 2) ∷ (0, Turns 3) ∷
    (1, Turns 2) ∷ (0, Turns 3) ∷ (1, Turns 2) ∷ (0, Turns 4) ∷ (1, Turns 1) ∷ [])
    ≡ (codes "[init -> cli] 77\n[init -> cli] 77\naccount init quota 65536\naccount init -> srv quota 0 used 0 steps 17/17 serving\n"
    ++ codes "account init -> cli quota 0 used 0 steps 13/13 exited\n")
unfolding digits
log_run = refl

log_upgraded : whole good_log (started (17 ∷ 13 ∷ [])) ((0, Turns 1) ∷ (1, Turns 1) ∷ (0, Turns 3) ∷ (1, Turns 5) ∷ (0, Turns 3) ∷ (1, Turns 2) ∷ (0, Turns 3)
    ∷ [])
    ≡ (codes "[init -> cli] 77\naccount init quota 53248\naccount init -> srv quota 12288 used 12288 steps 10/17 serving\n"
    ++ codes "account init -> cli quota 0 used 0 steps 8/13 running\n")
unfolding digits
log_upgraded = refl

-- without the buffer the end of `open` is wrong
log_without_buffer : whole (log_of []) [] ((0, Turns 1) ∷ (1, Turns 1) ∷ (0, Turns 3) ∷ []) ≡ []
unfolding digits
log_without_buffer = refl

-- WITH CAPABILITIES

caps_lent : whole (echo_with_caps 1 1) (started (9 ∷ 6 ∷ [])) ((0, Turns 1) ∷ (1, Turns 1) ∷ (0, Turns 1) ∷ [])
    ≡ (codes "account init quota 45056 caps 9\naccount init -> srv quota 12288 used 4096 caps 1 taken 1 steps 2/9 handling\n"
    ++ codes "account init -> cli quota 8192 used 0 caps 0 taken 0 steps 1/6 blocked\n")
unfolding digits
caps_lent = refl

caps_back : whole (echo_with_caps 1 1) (started (9 ∷ 6 ∷ [])) echo_turns
    ≡ (codes "[init -> cli] 42\naccount init quota 61440 caps 10\naccount init -> srv quota 4096 used 0 caps 0 taken 0 steps 9/9 serving\n"
    ++ codes "account init -> cli quota 0 used 0 caps 0 taken 0 steps 6/6 exited\n")
unfolding digits
caps_back = refl

-- the second class of blocks needs a second capability
caps_missing : whole two_blocks [] ((0, Turns 2) ∷ []) ≡ []
unfolding digits
caps_missing = refl
