-- How often sections run, round by round.
use Rattle.std.specs.Prelude.{ℕ, zero, suc, ◌+◌, ◌*◌, if◌then◌else◌, Bool, List, [], ◌∷◌, ◌++◌, Option, Some, None, get_or}
use Rattle.gq_model.specs.machine.Sections.{same_section}
use Rattle.gq_model.specs.rules.Use.{Cause, starts_main, is_signal}
use Rattle.gq_model.specs.declared.section.Section.{Section}
use Rattle.gq_model.specs.declared.section.Section.TheVariants.{Main, Reacting}
use Rattle.gq_verify.specs.declared.asked.Asker.{Asker}
use Rattle.gq_verify.specs.Requested.{Requested}
use Rattle.gq_verify.specs.Askers.{askers_of}
use Rattle.gq_verify.specs.Saturated_numbers.{saturated}
use Rattle.gq_budget.specs.Leaf_section_counts.{Counted}
use Rattle.gq_budget.specs.internal.Product_sums.{products}

-- WHO ASKS

-- a leaf's number and its sections, and who asks for them
pub record Asks : Type 0 where
  pub number : ℕ
  pub sections : List Section
  pub askers : List Asker

-- the requests of these sections of the y-th leaf for those of a service; the first of them is its k-th
abbrev pub askers_in : List ℕ → ℕ → ℕ → List (List Requested) → List Asker
askers_in service y k [] = []
askers_in service y k (asked ∷ rest) = askers_of service y k asked ++ askers_in service y (suc k) rest

-- a leaf that does not lead asks for nothing
abbrev pub leaf_askers : List ℕ → ℕ → Counted → Bool → List Asker
leaf_askers service y leaf leads = if leads then askers_in service y 0 leaf.requests else []

-- the requests of these leaves, of which the first is the y-th
abbrev pub askers_by : List ℕ → ℕ → List Counted → List Bool → List Asker
askers_by service y (leaf ∷ leaves) (leads ∷ rest) = leaf_askers service y leaf leads ++ askers_by service (suc y) leaves rest
askers_by service y [] leads = []
askers_by service y (leaf ∷ leaves) [] = []

-- nobody asks for the sections of a leaf that provides no service
abbrev pub askers_for : List Counted → List Bool → Option (List ℕ) → List Asker
askers_for leaves leads None = []
askers_for leaves leads (Some service) = askers_by service 0 leaves leads

-- of each of these leaves, of which the first is the x-th
abbrev pub all_asks : List Counted → ℕ → List Counted → List (List Bool) → List Asks
all_asks leaves x (leaf ∷ rest) (leads ∷ more) =
    record { number = x; sections = leaf.sections; askers = askers_for leaves leads leaf.provides } ∷ all_asks leaves (suc x) rest more
all_asks leaves x [] leads = []
all_asks leaves x (leaf ∷ rest) [] = []

-- who asks for the sections of all leaves, and how many uses a chain has at most
pub record Used : Type 0 where
  pub asks : List Asks
  pub longest : ℕ

-- HOW OFTEN

-- how often the section that asks runs, by a table of each section of each leaf
abbrev pub runs : List (List ℕ) → Asker → ℕ
runs table a = get_or (get_or table a.leaf []) a.part 0

-- how often these ask for a section
abbrev pub asked_sum : Section → List Asker → List (List ℕ) → ℕ
asked_sum section [] table = 0
asked_sum section (a ∷ rest) table = (if same_section section a.section then a.count else 0) * runs table a + asked_sum section rest table

-- what the cause runs it runs once; a section of the x-th leaf's service runs as often as it is asked for
abbrev pub often : Cause → ℕ → Section → List Asker → List (List ℕ) → ℕ
often cause x Main askers table = starts_main cause
often cause x (Reacting i) askers table = if is_signal cause x i then 1 else 0
often cause x section askers table = saturated (asked_sum section askers table)

abbrev pub leaf_round : Cause → ℕ → List Section → List Asker → List (List ℕ) → List ℕ
leaf_round cause x [] askers table = []
leaf_round cause x (section ∷ rest) askers table = often cause x section askers table ∷ leaf_round cause x rest askers table

abbrev pub round : Cause → List Asks → List (List ℕ) → List (List ℕ)
round cause [] table = []
round cause (asks ∷ rest) table = leaf_round cause asks.number asks.sections asks.askers table ∷ round cause rest table

-- after so many rounds more
abbrev pub rounds : Cause → ℕ → List Asks → List (List ℕ) → List (List ℕ)
rounds cause zero asks table = table
rounds cause (suc n) asks table = round cause asks (rounds cause n asks table)

-- what the sections of each of these leaves cost, where they run so often
abbrev pub budgets_by : List Counted → List (List ℕ) → List ℕ
budgets_by (leaf ∷ leaves) (often ∷ more) = saturated (products leaf.costs often) ∷ budgets_by leaves more
budgets_by [] often = []
budgets_by (leaf ∷ leaves) [] = []
