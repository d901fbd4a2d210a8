-- Accepted scenarios and their budgets, by computation.
use Rattle.std.proofs.Common.{◌≡◌, None, refl}
use Rattle.std.specs.Prelude.{codes}
use Rattle.std.specs.Fmt.{digits}
use Rattle.gq_model.specs.rules.Accept.{IsAccepted, budget_lines}
use Rattle.gq_model.proofs.Sample_scenarios.{hello, hello_below, echo_of, echo_twice, echo_nested, chain, good_log, pooled, row_of_leaves, echo_with_caps}

-- ACCEPTED

hello_accepted : IsAccepted hello
hello_accepted = refl

hello_below_accepted : IsAccepted hello_below
hello_below_accepted = refl

echo_accepted : IsAccepted (echo_of 8192)
echo_accepted = refl

echo_twice_accepted : IsAccepted echo_twice
echo_twice_accepted = refl

echo_nested_accepted : IsAccepted echo_nested
echo_nested_accepted = refl

chain_accepted : IsAccepted chain
chain_accepted = refl

log_accepted : IsAccepted good_log
log_accepted = refl

pooled_accepted : IsAccepted pooled
pooled_accepted = refl

after_accepted : IsAccepted (row_of_leaves 8192 None)
after_accepted = refl

caps_accepted : IsAccepted (echo_with_caps 1 1)
caps_accepted = refl

-- BUDGETS

hello_budget : budget_lines hello ≡ codes "budget init -> hello own 0 steps 2\n"
unfolding digits
hello_budget = refl

-- a pool counts as full
pooled_budget : budget_lines pooled ≡ codes "budget init -> a own 20480 steps 3848\n"
unfolding digits
pooled_budget = refl

echo_budget : budget_lines (echo_of 8192) ≡ codes "budget init -> srv own 0 steps 9\nbudget init -> cli own 8192 steps 6\n"
unfolding digits
echo_budget = refl

echo_twice_budget : budget_lines echo_twice
    ≡ codes "budget init -> srv own 0 steps 17\nbudget init -> one own 8192 steps 6\nbudget init -> two own 8192 steps 6\n"
unfolding digits
echo_twice_budget = refl

chain_budget : budget_lines chain ≡ codes "budget init -> srv own 0 steps 7\nbudget init -> mid own 8192 steps 9\nbudget init -> cli own 4096 steps 6\n"
unfolding digits
chain_budget = refl

log_budget : budget_lines good_log ≡ codes "budget init -> srv own 0 steps 17\nbudget init -> cli own 12288 steps 13\n"
unfolding digits
log_budget = refl

caps_budget : budget_lines (echo_with_caps 1 1) ≡ codes "budget init -> srv own 0 caps 0 steps 9\nbudget init -> cli own 8192 caps 1 steps 6\n"
unfolding digits
caps_budget = refl
