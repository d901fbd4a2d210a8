-- The texts of refusals.
use Rattle.std.specs.Prelude.{ℕ, List, [], ◌++◌, Option, Some, None, codes, decimal}
use Rattle.gq_model.specs.machine.Amounts.{Ram, Caps}
use Rattle.gq_model.specs.machine.Sections.{section_word}
use Rattle.gq_model.specs.machine.Routes.{Routed, To, No_route, Ambiguous, Provides_differs}
use Rattle.gq_model.specs.rules.Rules
use Rattle.gq_model.specs.rules.Rules.{Rule}
use Rattle.gq_model.specs.rules.Verdict.{Fault}
use Rattle.gq_model.specs.declared.fault.TextFault.{TextFault}
use Rattle.gq_model.specs.declared.fault.TextFault.TheVariants as text
use Rattle.gq_model.specs.declared.fault.CodeFault.{CodeFault}
use Rattle.gq_model.specs.declared.fault.CodeFault.TheVariants as code
use Rattle.gq_model.specs.declared.fault.TurnFault.{TurnFault}
use Rattle.gq_model.specs.declared.fault.TurnFault.TheVariants as turn
use Rattle.gq_model.specs.rules.Resolve.{Unresolved, Quanta_exceed, Caps_exceed, Bad_offer, Bad_after, Cycle, Unrouted}
use Rattle.gq_model.specs.rules.Accept.{Refusal, Bad_program, Not_resolved, Over_own, Over_steps}

abbrev pub rule_word : Rule → List ℕ
rule_word Rules.MissingOperand = codes "V1 MissingOperand"
rule_word Rules.StackTooDeep = codes "V2 StackTooDeep"
rule_word Rules.LeftoverOperand = codes "V3 LeftoverOperand"
rule_word Rules.WrongKind = codes "V4 WrongKind"
rule_word Rules.SlotInUse = codes "V5 SlotInUse"
rule_word Rules.OutOfRange = codes "V6 OutOfRange"
rule_word Rules.ValueTooLarge = codes "V7 ValueTooLarge"
rule_word Rules.JoinDiffers = codes "V8 JoinDiffers"
rule_word Rules.SessionBankChanged = codes "V9 SessionBankChanged"
rule_word Rules.OwnBankChanged = codes "V10 OwnBankChanged"
rule_word Rules.HeapInSession = codes "V11 HeapInSession"
rule_word Rules.ShortDonation = codes "V12 ShortDonation"
rule_word Rules.OverNeed = codes "V13 OverNeed"
rule_word Rules.LinkLeftOpen = codes "V14 LinkLeftOpen"
rule_word Rules.UnknownService = codes "V15 UnknownService"
rule_word Rules.MissingSection = codes "V16 MissingSection"
rule_word Rules.BudgetTooLarge = codes "V17 BudgetTooLarge"
rule_word Rules.OverCaps = codes "V18 OverCaps"
rule_word Rules.NoInput = codes "V19 NoInput"

abbrev pub text_fault_word : TextFault → List ℕ
text_fault_word text.UnknownWord = codes "M1 UnknownWord"
text_fault_word text.BadNumber = codes "M2 BadNumber"
text_fault_word text.BadSlot = codes "M3 BadSlot"
text_fault_word text.Unclosed = codes "M4 Unclosed"
text_fault_word text.StrayEnd = codes "M5 StrayEnd"
text_fault_word text.BadText = codes "M6 BadText"
text_fault_word text.SectionTwice = codes "M7 SectionTwice"
text_fault_word text.TooLong = codes "M8 TooLong"

abbrev pub code_fault_word : CodeFault → List ℕ
code_fault_word code.Truncated = codes "C1 Truncated"
code_fault_word code.UnknownOpcode = codes "C2 UnknownOpcode"
code_fault_word code.BadOperand = codes "C3 BadOperand"
code_fault_word code.BadNesting = codes "C4 BadNesting"
code_fault_word code.TooLong = codes "C5 TooLong"
code_fault_word code.TrailingBytes = codes "C6 TrailingBytes"

abbrev pub turn_fault_word : TurnFault → List ℕ
turn_fault_word turn.BadLine = codes "U1 BadLine"
turn_fault_word turn.NoSuchComponent = codes "U2 NoSuchComponent"
turn_fault_word turn.TooMany = codes "U3 TooMany"
turn_fault_word turn.NoInput = codes "U4 NoInput"
turn_fault_word turn.InputTooLarge = codes "U5 InputTooLarge"
turn_fault_word turn.NoSignal = codes "U6 NoSignal"

abbrev pub route_word : Routed → List ℕ
route_word (To name) = []
route_word No_route = codes "S8 NoRoute "
route_word Ambiguous = codes "S9 Ambiguous "
route_word Provides_differs = codes "S12 ProvidesDiffers "

abbrev pub unresolved_text : Unresolved → List ℕ
unresolved_text (Quanta_exceed name) = codes "S11 QuantaExceed " ++ name
unresolved_text (Caps_exceed name) = codes "S14 CapsExceed " ++ name
unresolved_text (Bad_offer name) = codes "S15 BadOffer " ++ name
unresolved_text (Bad_after name) = codes "S13 BadAfter " ++ name
unresolved_text (Cycle name) = codes "S10 Cycle " ++ name
unresolved_text (Unrouted why name service) = route_word why ++ name ++ codes " " ++ service

-- a rule with its section and the number of its statement
abbrev pub program_text : Fault → List ℕ
program_text fault = rule_word fault.rule ++ codes " in " ++ section_word fault.section ++ codes " at " ++ decimal fault.place

abbrev pub refusal_text : Refusal → List ℕ
refusal_text (Bad_program leaf fault) = leaf ++ codes ": " ++ program_text fault
refusal_text (Not_resolved fault) = unresolved_text fault
refusal_text (Over_own Ram leaf own quantum) = leaf ++ codes ": B1 OverQuantum own " ++ decimal own ++ codes " quantum " ++ decimal quantum
refusal_text (Over_own Caps leaf own quantum) = leaf ++ codes ": B3 OverCaps own " ++ decimal own ++ codes " caps " ++ decimal quantum
refusal_text (Over_steps leaf) = leaf ++ codes ": B2 OverSteps"

abbrev pub said_of : Option Refusal → List ℕ
said_of None = []
said_of (Some refusal) = refusal_text refusal
