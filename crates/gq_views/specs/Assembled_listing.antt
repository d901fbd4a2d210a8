-- What the text that `list` writes of a leaf is assembled as.
use Rattle.std.specs.Prelude.{◌≡◌, ℕ, List, Some, Ok}
use Rattle.gq_model.specs.machine.Program.{Program}
use Rattle.gq_model.specs.machine.Scenario.{Source, As_text, As_code, LeafNode, Scenario, components}
use Rattle.gq_model.specs.texts.Decode.{decoded}
use Rattle.gq_model.specs.texts.Text.{assembled}
use Rattle.gq_scenario.specs.Top_table.{scenario_in}
use Rattle.gq_load.specs.Named.{leaf_named}
use Rattle.gq_views.specs.declared.margin.Margin.TheVariants.{Plain}
use Rattle.gq_views.specs.Listing.{listing}
use Rattle.gq_views.specs.Numbered.{NumbersListing, program_rows, text_of}
use Rattle.gq_views.specs.Views_written.{list_written}

-- the program that a leaf's own text is assembled as, or that its code is decoded to
abbrev pub IsGivenBy : Source → Program → Type 0
IsGivenBy (As_text text) p = assembled text ≡ Ok p
IsGivenBy (As_code code) p = decoded code ≡ Ok p

-- from bytes to bytes: the scenario is read, it has a leaf of that name, and the text is assembled as the program that this leaf is given
pub record ListsProgram (scenario name text : List ℕ) : Type 0 where
  pub read : Scenario
  pub reads : scenario_in scenario ≡ Ok read
  pub leaf : LeafNode
  pub named : leaf_named name (components read) ≡ Some leaf
  pub given : IsGivenBy leaf.source leaf.program
  pub back : assembled text ≡ Ok leaf.program

-- from bytes to bytes: the text is the numbered one of a program, of which the listing is written without numbers
pub record ListsNumbers (scenario name text : List ℕ) : Type 0 where
  pub program : Program
  pub plain : list_written Plain scenario name ≡ Ok (listing program)
  pub numbered : text ≡ text_of (program_rows program)
  pub lines : NumbersListing program
