-- A worked example, by computation.
use Rattle.std.proofs.Common.{◌≡◌, [], ◌∷◌, ◌++◌, refl}
use Rattle.std.specs.Prelude.{codes, true, false}
use Rattle.std.specs.Fmt.{digits}
use Rattle.gq_model.specs.machine.Scenario.{Scenario}
use Rattle.gq_model.proofs.Sample_scenarios.{echo, echo_sections, echo_client, echo_turns, leaves, served, server}
use Rattle.gq_traces.specs.Trace.{trace_text}

abbrev echo_row : Scenario
echo_row = served ((codes "echo", echo) ∷ []) (leaves (server (codes "srv") 0 (codes "echo") echo_sections ∷ echo_client (codes "cli") 16384 8192 21 ∷ []))

echo_trace : trace_text false echo_row echo_turns ≡ codes "turn 1 init -> srv main at 1\n" ++ codes "account init -> srv quota 0 used 0 steps 1/9 serving\n"
    ++ codes "turn 2 init -> cli main at 1 open o0 echo 8192\n" ++ codes "account init -> srv quota 8192 used 0 steps 1/9 serving\n" ++ codes
    "account init -> cli quota 8192 used 0 steps 1/6 blocked\n" ++ codes "session 0 echo of init -> srv for init -> cli at level 0 lends 8192, open waits\n"
    ++ codes "turn 3 init -> srv open at 0\n" ++ codes "account init -> srv quota 8192 used 4096 steps 2/9 handling\n" ++ codes
    "session 0 echo of init -> srv for init -> cli at level 0 lends 8192, open at hand\n" ++ codes "turn 4 init -> srv open at 1\n" ++ codes
    "account init -> srv quota 8192 used 4096 steps 3/9 serving\n" ++ codes "account init -> cli quota 8192 used 0 steps 1/6 running\n" ++ codes
    "session 0 echo of init -> srv for init -> cli at level 0 lends 8192\n" ++ codes "turn 6 init -> cli main at 3 call o0\n" ++ codes
    "account init -> cli quota 8192 used 0 steps 3/6 blocked\n" ++ codes
    "session 0 echo of init -> srv for init -> cli at level 0 lends 8192, call 0 waits\n" ++ codes "turn 7 init -> srv call 0 at 0\n" ++ codes
    "account init -> srv quota 8192 used 4096 steps 4/9 handling\n" ++ codes
    "session 0 echo of init -> srv for init -> cli at level 0 lends 8192, call 0 at hand\n" ++ codes "turn 10 init -> srv call 0 at 3\n" ++ codes
    "account init -> srv quota 8192 used 4096 steps 7/9 serving\n" ++ codes "account init -> cli quota 8192 used 0 steps 3/6 running\n" ++ codes
    "session 0 echo of init -> srv for init -> cli at level 0 lends 8192\n" ++ codes "turn 11 init -> cli main at 4 out\n" ++ codes "[init -> cli] 42\n" ++
    codes "turn 12 init -> cli main at 5 close o0\n" ++ codes "account init -> cli quota 8192 used 0 steps 5/6 blocked\n" ++ codes
    "session 0 echo of init -> srv for init -> cli at level 0 lends 8192, close 0 waits\n" ++ codes "turn 13 init -> srv close 0 at 0\n" ++ codes
    "account init -> srv quota 8192 used 4096 steps 8/9 handling\n" ++ codes
    "session 0 echo of init -> srv for init -> cli at level 0 lends 8192, close 0 at hand\n" ++ codes "turn 14 init -> srv close 0 at 1\n" ++ codes
    "account init -> srv quota 0 used 0 steps 9/9 serving\n" ++ codes "account init -> cli quota 16384 used 0 steps 5/6 running\n" ++ codes
    "session 0 ends\n" ++ codes "turn 15 init -> cli main at 6\n" ++ codes "account init quota 65536\n" ++ codes
    "account init -> cli quota 0 used 0 steps 6/6 exited\n" ++ codes "end after 15 turns\n" ++ codes "account init quota 65536\n" ++ codes
    "account init -> srv quota 0 used 0 steps 9/9 serving\n" ++ codes "account init -> cli quota 0 used 0 steps 6/6 exited\n"
unfolding digits
echo_trace = refl

echo_trace_all : trace_text true echo_row echo_turns ≡ codes "turn 1 init -> srv main at 1\n" ++ codes
    "account init -> srv quota 0 used 0 steps 1/9 serving\n" ++ codes "turn 2 init -> cli main at 1 open o0 echo 8192\n" ++ codes
    "account init -> srv quota 8192 used 0 steps 1/9 serving\n" ++ codes "account init -> cli quota 8192 used 0 steps 1/6 blocked\n" ++ codes
    "session 0 echo of init -> srv for init -> cli at level 0 lends 8192, open waits\n" ++ codes "turn 3 init -> srv open at 0\n" ++ codes
    "account init -> srv quota 8192 used 4096 steps 2/9 handling\n" ++ codes
    "session 0 echo of init -> srv for init -> cli at level 0 lends 8192, open at hand\n" ++ codes "turn 4 init -> srv open at 1\n" ++ codes
    "account init -> srv quota 8192 used 4096 steps 3/9 serving\n" ++ codes "account init -> cli quota 8192 used 0 steps 1/6 running\n" ++ codes
    "session 0 echo of init -> srv for init -> cli at level 0 lends 8192\n" ++ codes "turn 5 init -> cli main at 2 push 21\n" ++ codes
    "turn 6 init -> cli main at 3 call o0\n" ++ codes "account init -> cli quota 8192 used 0 steps 3/6 blocked\n" ++ codes
    "session 0 echo of init -> srv for init -> cli at level 0 lends 8192, call 0 waits\n" ++ codes "turn 7 init -> srv call 0 at 0\n" ++ codes
    "account init -> srv quota 8192 used 4096 steps 4/9 handling\n" ++ codes
    "session 0 echo of init -> srv for init -> cli at level 0 lends 8192, call 0 at hand\n" ++ codes "turn 8 init -> srv call 0 at 1 push 2\n" ++ codes
    "turn 9 init -> srv call 0 at 2 mul\n" ++ codes "turn 10 init -> srv call 0 at 3\n" ++ codes
    "account init -> srv quota 8192 used 4096 steps 7/9 serving\n" ++ codes "account init -> cli quota 8192 used 0 steps 3/6 running\n" ++ codes
    "session 0 echo of init -> srv for init -> cli at level 0 lends 8192\n" ++ codes "turn 11 init -> cli main at 4 out\n" ++ codes "[init -> cli] 42\n" ++
    codes "turn 12 init -> cli main at 5 close o0\n" ++ codes "account init -> cli quota 8192 used 0 steps 5/6 blocked\n" ++ codes
    "session 0 echo of init -> srv for init -> cli at level 0 lends 8192, close 0 waits\n" ++ codes "turn 13 init -> srv close 0 at 0\n" ++ codes
    "account init -> srv quota 8192 used 4096 steps 8/9 handling\n" ++ codes
    "session 0 echo of init -> srv for init -> cli at level 0 lends 8192, close 0 at hand\n" ++ codes "turn 14 init -> srv close 0 at 1\n" ++ codes
    "account init -> srv quota 0 used 0 steps 9/9 serving\n" ++ codes "account init -> cli quota 16384 used 0 steps 5/6 running\n" ++ codes
    "session 0 ends\n" ++ codes "turn 15 init -> cli main at 6\n" ++ codes "account init quota 65536\n" ++ codes
    "account init -> cli quota 0 used 0 steps 6/6 exited\n" ++ codes "end after 15 turns\n" ++ codes "account init quota 65536\n" ++ codes
    "account init -> srv quota 0 used 0 steps 9/9 serving\n" ++ codes "account init -> cli quota 0 used 0 steps 6/6 exited\n"
unfolding digits
echo_trace_all = refl
