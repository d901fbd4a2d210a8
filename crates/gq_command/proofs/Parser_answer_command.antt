-- What the parser's answers say of the command.
use Rattle.std.proofs.Common.{◌≡◌, ◌≢◌, ◌∙◌, inl, inr, ℕ, ◌==◌, true≢false, ne_eqb, Bool, true, false, cond, refl, sym, ap, ap₂, subst, arith, List, [], ◌∷◌}
use Rattle.std.proofs.Common.{map, length, Option, Some, None, codes}
use Rattle.std.specs.Borrow.{Bor}
use Rattle.clap.specs.Words.{Kinds, HasKind, IsAmong, Row, Text, fault_of, is_simple, is_simple_and_free, kind_of, subcommand_of}
use Rattle.clap.specs.Walk.{is_empty}
use Rattle.clap.specs.declared.error.Error.{Error}
use Rattle.clap.specs.declared.error.kind.ErrorKind.{ErrorKind}
use Rattle.clap.specs.declared.error.kind.ErrorKind.TheVariants.{DisplayHelp, DisplayVersion, OutOfMemory}
use Rattle.clap.proofs.OnLiterals.{clap_on_literals}
use Rattle.gq_command.specs.CommandLine.{IsAsked, IsMisused, IsUsage, IsWanted, Wanted, Scenario_wanted, Leaf_wanted, Turns_wanted, Fit_wanted, Rule_wanted}
use Rattle.gq_command.specs.CommandLine.{trade, wanted, wanted_in}
use Rattle.gq_command.specs.internal.Command_entries.{IsShown}
use Rattle.gq_command.specs.declared.command.Command.{Command}
use Rattle.gq_command.specs.declared.command.Command.TheVariants.{OfScenario, OfLeaf, OfTurns, Fit, Faults, Rule, Version, Stored, Help}
use Rattle.gq_command.specs.declared.command.ScenarioCommand.TheVariants.{Check, Tree, Graph}
use Rattle.gq_command.specs.declared.command.Fitting.TheVariants.{Quantities, Donations}
use Rattle.gq_command.specs.declared.command.LeafCommand.TheVariants as of_a_leaf
use Rattle.gq_command.specs.declared.command.TurnsCommand.TheVariants.{Run, State}
use Rattle.gq_command.specs.declared.command.CommandError.{CommandError}
use Rattle.gq_command.specs.declared.command.CommandError.TheVariants.{Memory, Usage}

pub trade_simple : is_simple trade ≡ true
unfolding clap_on_literals
trade_simple = refl

pub trade_free : is_simple_and_free trade ≡ true
unfolding clap_on_literals
trade_free = refl

pub some_words : (words : List (Bor (List ℕ))) (is_empty : Bool) → is_empty ≡ (length words == 0) → is_empty ≡ false → map (λ word. word.now) words ≢ []
some_words [] is_empty is empty_not = absurd (true≢false (sym is ∙ empty_not))
some_words (word ∷ rest) is_empty is empty_not = λ e. absurd (omega (arith, ap length e))

-- what is wanted, in what the parser made of the words
abbrev chosen : Kinds → Option (Text × List Row) → Option Wanted
chosen faults found = cond (is_empty faults) (wanted_in found) None

pub asked-ok : (words : List Text) (found : Option (Text × List Row)) (command : Command) → words ≢ [] → fault_of trade words ≡ []
    → found ≡ subcommand_of trade words
    → IsWanted (wanted_in found) command → IsAsked words command
asked-ok words found (OfScenario command scenario) ne passes is h = (ne, ap₂ chosen passes (sym is) ∙ h)
asked-ok words found (OfLeaf command scenario leaf) ne passes is h = (ne, ap₂ chosen passes (sym is) ∙ h)
asked-ok words found (OfTurns command scenario turns) ne passes is h = (ne, ap₂ chosen passes (sym is) ∙ h)
asked-ok words found (Fit fitting scenario) ne passes is h = (ne, ap₂ chosen passes (sym is) ∙ h)
asked-ok words found (Faults scenario turns) ne passes is h = (ne, ap₂ chosen passes (sym is) ∙ h)
asked-ok words found (Rule code) ne passes is h = (ne, ap₂ chosen passes (sym is) ∙ h)
asked-ok words found Version ne passes is h = absurd h
asked-ok words found Stored ne passes is h = absurd h
asked-ok words found (Help text) ne passes is h = absurd h

one_kind : {k : ErrorKind} → ◌≢◌ {A = Kinds} [] (k ∷ [])
one_kind e = absurd (omega (arith, ap length e))

pub misused-ok : (words : List Text) (found : Option (Text × List Row)) (e : CommandError) → words ≢ [] → fault_of trade words ≡ []
    → found ≡ subcommand_of trade words
    → (IsUsage e → wanted_in found ≡ None) → IsMisused words e
misused-ok words found (Memory refused) ne passes is h = ne
misused-ok words found (Usage said) ne passes is h =
    (ne, ap₂ chosen passes (sym is) ∙ h (tt {0}), λ d. one_kind (sym passes ∙ d), λ d. one_kind (sym passes ∙ d))

among : (kinds : Kinds) (e : Error) → kind_of e ≢ OutOfMemory → HasKind kinds e → IsAmong (kind_of e) kinds
among kinds e ne (inl memory) = absurd (ne memory)
among kinds e ne (inr kind) = kind

not_empty : (k : ErrorKind) (kinds : Kinds) → IsAmong k kinds → is_empty kinds ≡ false
not_empty k [] h = absurd h
not_empty k (x ∷ rest) h = ne_eqb (length (x ∷ rest)) 0 (λ e. absurd (omega arith))

not_alone : (k one : ErrorKind) → IsAmong k (one ∷ []) → k ≡ one
not_alone k one (inl e) = e
not_alone k one (inr h) = absurd h

help_not_memory : ◌≢◌ {A = ErrorKind} DisplayHelp OutOfMemory
help_not_memory e = cc

version_not_memory : ◌≢◌ {A = ErrorKind} DisplayVersion OutOfMemory
version_not_memory e = cc

pub asked-err : (words : List Text) (error : Error) (command : Command) → words ≢ [] → HasKind (fault_of trade words) error
    → IsShown (kind_of error) command → IsAsked words command
asked-err words error (OfScenario command scenario) ne kinds h = absurd h
asked-err words error (OfLeaf command scenario leaf) ne kinds h = absurd h
asked-err words error (OfTurns command scenario turns) ne kinds h = absurd h
asked-err words error (Fit fitting scenario) ne kinds h = absurd h
asked-err words error (Faults scenario turns) ne kinds h = absurd h
asked-err words error (Rule code) ne kinds h = absurd h
asked-err words error Stored ne kinds h = absurd h
asked-err words error Version ne kinds h =
    (ne, subst (λ k. IsAmong k (fault_of trade words)) h (among (fault_of trade words) error (λ e. version_not_memory (sym h ∙ e)) kinds))
asked-err words error (Help text) ne kinds h =
    (ne, subst (λ k. IsAmong k (fault_of trade words)) h (among (fault_of trade words) error (λ e. help_not_memory (sym h ∙ e)) kinds))

pub misused-err : (words : List Text) (error : Error) (e : CommandError) → words ≢ [] → HasKind (fault_of trade words) error
    → (IsUsage e → (kind_of error ≢ DisplayHelp) × (kind_of error ≢ DisplayVersion) × (kind_of error ≢ OutOfMemory)) → IsMisused words e
misused-err words error (Memory refused) ne kinds h = ne
misused-err words error (Usage said) ne kinds h =
    let is : IsAmong (kind_of error) (fault_of trade words) = among (fault_of trade words) error (h (tt {0})).2 kinds in (
      ne,
      ap (λ b. cond b (wanted_in (subcommand_of trade words)) None) (not_empty (kind_of error) (fault_of trade words) is),
      λ d. (h (tt {0})).0 (not_alone (kind_of error) DisplayHelp (subst (IsAmong (kind_of error)) d is)),
      λ d. (h (tt {0})).1 (not_alone (kind_of error) DisplayVersion (subst (IsAmong (kind_of error)) d is)),
    )

-- SAMPLES

check_is_wanted : wanted (codes "check" ∷ codes "hello.toml" ∷ []) ≡ Some (Scenario_wanted Check (codes "hello.toml"))
unfolding clap_on_literals
check_is_wanted = refl

run_is_wanted : wanted (codes "run" ∷ codes "hello.toml" ∷ codes "hello.turns" ∷ []) ≡ Some (Turns_wanted Run (codes "hello.toml") (codes "hello.turns"))
unfolding clap_on_literals
run_is_wanted = refl

asm_is_wanted : wanted (codes "asm" ∷ codes "hello.toml" ∷ codes "hello" ∷ []) ≡ Some (Leaf_wanted of_a_leaf.Asm (codes "hello.toml") (codes "hello"))
unfolding clap_on_literals
asm_is_wanted = refl

list_is_wanted : wanted (codes "list" ∷ codes "hello.toml" ∷ codes "hello" ∷ []) ≡ Some (Leaf_wanted of_a_leaf.List (codes "hello.toml") (codes "hello"))
unfolding clap_on_literals
list_is_wanted = refl

numbers_are_wanted : wanted (codes "list" ∷ codes "--numbers" ∷ codes "hello.toml" ∷ codes "hello" ∷ [])
    ≡ Some (Leaf_wanted of_a_leaf.ListNumbers (codes "hello.toml") (codes "hello"))
unfolding clap_on_literals
numbers_are_wanted = refl

tree_is_wanted : wanted (codes "tree" ∷ codes "hello.toml" ∷ []) ≡ Some (Scenario_wanted Tree (codes "hello.toml"))
unfolding clap_on_literals
tree_is_wanted = refl

-- an option stands before the path or after it
graph_is_wanted : wanted (codes "tree" ∷ codes "--dot" ∷ codes "hello.toml" ∷ []) ≡ Some (Scenario_wanted Graph (codes "hello.toml"))
unfolding clap_on_literals
graph_is_wanted = refl

graph_is_wanted_last : wanted (codes "tree" ∷ codes "hello.toml" ∷ codes "--dot" ∷ []) ≡ Some (Scenario_wanted Graph (codes "hello.toml"))
unfolding clap_on_literals
graph_is_wanted_last = refl

state_is_wanted : wanted (codes "state" ∷ codes "hello.toml" ∷ codes "hello.turns" ∷ [])
    ≡ Some (Turns_wanted (State None) (codes "hello.toml") (codes "hello.turns"))
unfolding clap_on_literals
state_is_wanted = refl

state_at_is_wanted : wanted (codes "state" ∷ codes "--at" ∷ codes "12" ∷ codes "hello.toml" ∷ codes "hello.turns" ∷ [])
    ≡ Some (Turns_wanted (State (Some 12)) (codes "hello.toml") (codes "hello.turns"))
unfolding clap_on_literals
state_at_is_wanted = refl

state_at_no_number_is_misused : wanted (codes "state" ∷ codes "--at=4294967296" ∷ codes "hello.toml" ∷ codes "hello.turns" ∷ []) ≡ None
unfolding clap_on_literals
state_at_no_number_is_misused = refl

fit_is_wanted : wanted (codes "fit" ∷ codes "hello.toml" ∷ []) ≡ Some (Fit_wanted Quantities (codes "hello.toml"))
unfolding clap_on_literals
fit_is_wanted = refl

donations_are_wanted : wanted (codes "fit" ∷ codes "--donations" ∷ codes "hello.toml" ∷ []) ≡ Some (Fit_wanted Donations (codes "hello.toml"))
unfolding clap_on_literals
donations_are_wanted = refl

rule_is_wanted : wanted (codes "rule" ∷ codes "v12" ∷ []) ≡ Some (Rule_wanted (Some (codes "v12")))
unfolding clap_on_literals
rule_is_wanted = refl

rules_are_wanted : wanted (codes "rule" ∷ []) ≡ Some (Rule_wanted None)
unfolding clap_on_literals
rules_are_wanted = refl

-- a name that begins with a hyphen stands after two of them
hyphen_is_wanted : wanted (codes "asm" ∷ codes "hello.toml" ∷ codes "--" ∷ codes "-x" ∷ []) ≡ Some (Leaf_wanted of_a_leaf.Asm (codes "hello.toml") (codes "-x"))
unfolding clap_on_literals
hyphen_is_wanted = refl

one_path_is_misused : wanted (codes "run" ∷ codes "hello.toml" ∷ []) ≡ None
unfolding clap_on_literals
one_path_is_misused = refl

option_of_another_is_misused : wanted (codes "check" ∷ codes "--dot" ∷ codes "hello.toml" ∷ []) ≡ None
unfolding clap_on_literals
option_of_another_is_misused = refl

option_twice_is_misused : wanted (codes "tree" ∷ codes "--dot" ∷ codes "--dot" ∷ codes "hello.toml" ∷ []) ≡ None
unfolding clap_on_literals
option_twice_is_misused = refl

flag_is_help : fault_of trade (codes "--help" ∷ []) ≡ DisplayHelp ∷ []
unfolding clap_on_literals
flag_is_help = refl

flag_is_version : fault_of trade (codes "--version" ∷ []) ≡ DisplayVersion ∷ []
unfolding clap_on_literals
flag_is_version = refl

no_command_is_misused : wanted (codes "--" ∷ []) ≡ None
unfolding clap_on_literals
no_command_is_misused = refl
