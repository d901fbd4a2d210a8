-- Turns and quantities, by computation.
use Rattle.std.proofs.Common.{◌≡◌, [], ◌∷◌, refl}
use Rattle.std.specs.Prelude.{codes, Ok, Err, ◌^◌}
use Rattle.gq_tariff.specs.declared.quantity.QuantityFault.TheVariants.{Empty, BadCharacter, TooLarge}
use Rattle.gq_tariff.specs.Quantities.{quantity_of}
use Rattle.gq_model.specs.texts.Turns.{BadLine, NoSuchComponent, TooMany, NoInput, InputTooLarge, turned}
use Rattle.gq_model.proofs.Sample_scenarios.{scenario, leaf, leaves, main_of, hello, echo_of, echo_turns, started}
use Rattle.std.specs.Fmt.{digits}
use Rattle.std.proofs.Common.{ℕ, List}
use Rattle.gq_model.specs.machine.Scenario.{LeafNode, Scenario}
use Rattle.gq_model.specs.machine.Program.{Out}
use Rattle.gq_model.specs.machine.Accounts.{whole}
use Rattle.gq_model.proofs.Statement_word_rows.{input}
use Rattle.gq_model.specs.machine.Run.{Turns, Sets}
use Rattle.gq_model.specs.machine.Rest.{to_rest}

hello_turns : turned hello (codes "hello 2\n") ≡ Ok ((0, Turns 2) ∷ [])
hello_turns = refl

echo_turns_text : turned (echo_of 8192) (codes "srv 1\ncli 1\nsrv 2\ncli 2\nsrv 4\ncli 2\nsrv 2\ncli 1\n") ≡ Ok echo_turns
echo_turns_text = refl

comment_turns : turned hello (codes "#x\r\n\r\nhello 2") ≡ Ok ((0, Turns 2) ∷ [])
comment_turns = refl

no_turns : turned hello (codes "") ≡ Ok []
no_turns = refl

name_of_an_init : turned hello (codes "init 1") ≡ Err (NoSuchComponent, 1)
name_of_an_init = refl

zero_turns : turned hello (codes "hello 0") ≡ Err (BadLine, 1)
zero_turns = refl

leading_zero : turned hello (codes "hello 01") ≡ Err (BadLine, 1)
leading_zero = refl

two_spaces : turned hello (codes "hello  1") ≡ Err (BadLine, 1)
two_spaces = refl

eight_digits : turned hello (codes "hello 10000000") ≡ Err (BadLine, 1)
eight_digits = refl

too_many_turns : turned hello (codes "hello 1000000\nhello 1000000\n") ≡ Err (TooMany, 2)
too_many_turns = refl

return_at_the_end : turned hello (codes "hello 1\r") ≡ Err (BadLine, 1)
return_at_the_end = refl

-- a leaf with two inputs
abbrev heated : ℕ → Scenario
heated version =
    record (scenario 65536 (leaves (record (leaf (codes "heat") 4096 (main_of (input 0 ∷ Out ∷ []))) { inputs = 100 ∷ 1 ∷ [] } ∷ []))) { version = version }

settings : turned (heated 3) (codes "heat.0 = 100\nheat 1\nheat.1 = 0001\n") ≡ Ok ((0, Sets 0 100) ∷ (0, Turns 1) ∷ (0, Sets 1 1) ∷ [])
settings = refl

no_settings : turned (heated 2) (codes "heat.0 = 100") ≡ Err (BadLine, 1)
no_settings = refl

no_equals : turned (heated 3) (codes "heat.0 100") ≡ Err (BadLine, 1)
no_equals = refl

eighth_input : turned (heated 3) (codes "heat.8 = 100") ≡ Err (BadLine, 1)
eighth_input = refl

too_many_digits : turned (heated 3) (codes "heat.0 = 00000000001") ≡ Err (BadLine, 1)
too_many_digits = refl

no_such_leaf : turned (heated 3) (codes "cool.7 = 1") ≡ Err (NoSuchComponent, 1)
no_such_leaf = refl

no_such_input : turned (heated 3) (codes "heat.2 = 1000") ≡ Err (NoInput, 1)
no_such_input = refl

input_too_large : turned (heated 3) (codes "heat.0 = 101") ≡ Err (InputTooLarge, 1)
input_too_large = refl

-- a setting counts for nothing
settings_count_nothing : turned (heated 3) (codes "heat 1000000\nheat.0 = 1\nheat 1") ≡ Err (TooMany, 3)
settings_count_nothing = refl

-- a leaf reads what was set last, and 0 before
heated_run : whole (heated 3) (started (3 ∷ [])) ((0, Sets 0 7) ∷ (0, Sets 0 42) ∷ (0, Turns 1) ∷ (0, Sets 0 1) ∷ (0, Turns 2) ∷ []) ≡ codes
    "[init -> heat] 42\naccount init quota 65536 caps 0\naccount init -> heat quota 0 used 0 caps 0 taken 0 steps 3/3 exited\n"
unfolding digits
heated_run = refl

-- LINES THAT BRING ALL TO REST

abbrev heater : List ℕ → LeafNode
heater name = record (leaf name 4096 (main_of (input 0 ∷ Out ∷ []))) { inputs = 100 ∷ [] }

-- two leaves, each of which takes three steps
abbrev pair : ℕ → Scenario
pair version = record (scenario 65536 (leaves (heater (codes "a") ∷ heater (codes "b") ∷ []))) { version = version }

rest_in_its_place : turned (pair 4) (codes "a 1\nrest\na.0 = 5\nrest\nb 1\n") ≡ Ok (
    (0, Turns 1) ∷ (0, Turns 2) ∷ (1, Turns 3) ∷ (0, Sets 0 5) ∷ (1, Turns 1) ∷ [])
unfolding to_rest
rest_in_its_place = refl

no_rest : turned (pair 3) (codes "rest") ≡ Err (BadLine, 1)
no_rest = refl

leaf_of_that_name : turned (pair 4) (codes "rest 1") ≡ Err (NoSuchComponent, 1)
leaf_of_that_name = refl

-- they count for nothing
rests_count_nothing : turned (pair 4) (codes "a 1000000\nrest\na 1") ≡ Err (TooMany, 3)
rests_count_nothing = refl

eight_k : quantity_of (codes "8K") ≡ Ok 8192
eight_k = refl

all_g : quantity_of (codes "1024G") ≡ Ok (2 ^ 40)
all_g = refl

nothing : quantity_of (codes "") ≡ Err Empty
nothing = refl

small_k : quantity_of (codes "8k") ≡ Err BadCharacter
small_k = refl

k_alone : quantity_of (codes "K") ≡ Err BadCharacter
k_alone = refl

k_twice : quantity_of (codes "8KK") ≡ Err BadCharacter
k_twice = refl

large_g : quantity_of (codes "2000G") ≡ Err TooLarge
large_g = refl

plain : quantity_of (codes "65536") ≡ Ok 65536
plain = refl
