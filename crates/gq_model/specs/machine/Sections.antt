-- The sections of programs: a table of their kinds, which sections there are, their order and their words.
use Rattle.std.specs.Prelude.{ℕ, zero, suc, ◌+◌, nat_le, ◌==◌, Bool, true, false, ◌&&◌, List, [], ◌∷◌, ◌++◌, Option, Some, None, codes, decimal}
pub use Rattle.gq_model.specs.declared.section.Section.{Section}
pub use Rattle.gq_model.specs.declared.section.Section.TheVariants.{Main, Opening, Upgrading, Calling, Closing, Reacting}
pub use Rattle.gq_model.specs.declared.section.SectionKind.{SectionKind}
use Rattle.gq_model.specs.declared.section.SectionKind.TheVariants as kind

-- THE TABLE

-- what begins a section: the start of the system, a request, or a signal
pub data Beginning : Type 0 where
  At_start By_request By_signal : Beginning

-- a kind of section: the word of its heading, the least and the greatest level behind it, the number of its level 0, and what begins it
pub record Row : Type 0 where
  pub word : List ℕ
  pub levels : Option (ℕ × ℕ)
  pub first : ℕ
  pub begun : Beginning

abbrev pub row : SectionKind → Row
row kind.Main = record { word = codes "main"; levels = None; first = 0; begun = At_start }
row kind.Opening = record { word = codes "open"; levels = None; first = 1; begun = By_request }
row kind.Upgrading = record { word = codes "up"; levels = Some (1, 3); first = 1; begun = By_request }
row kind.Calling = record { word = codes "call"; levels = Some (0, 3); first = 5; begun = By_request }
row kind.Closing = record { word = codes "close"; levels = Some (0, 3); first = 9; begun = By_request }
row kind.Reacting = record { word = codes "on"; levels = Some (0, 2); first = 13; begun = By_signal }

abbrev pub all_kinds : List SectionKind
all_kinds = kind.Main ∷ kind.Opening ∷ kind.Upgrading ∷ kind.Calling ∷ kind.Closing ∷ kind.Reacting ∷ []

-- SECTIONS

abbrev pub kind_of : Section → SectionKind
kind_of Main = kind.Main
kind_of Opening = kind.Opening
kind_of (Upgrading l) = kind.Upgrading
kind_of (Calling l) = kind.Calling
kind_of (Closing l) = kind.Closing
kind_of (Reacting i) = kind.Reacting

-- the number of its heading: the level of its session, or a signal's number; 0 where it has none
abbrev pub level_of : Section → ℕ
level_of Main = 0
level_of Opening = 0
level_of (Upgrading l) = l
level_of (Calling l) = l
level_of (Closing l) = l
level_of (Reacting i) = i

-- the section of a kind and a level
abbrev pub of_kind : SectionKind → ℕ → Section
of_kind kind.Main l = Main
of_kind kind.Opening l = Opening
of_kind kind.Upgrading l = Upgrading l
of_kind kind.Calling l = Calling l
of_kind kind.Closing l = Closing l
of_kind kind.Reacting i = Reacting i

abbrev pub same_section : Section → Section → Bool
same_section Main Main = true
same_section Opening Opening = true
same_section (Upgrading a) (Upgrading b) = a == b
same_section (Calling a) (Calling b) = a == b
same_section (Closing a) (Closing b) = a == b
same_section (Reacting a) (Reacting b) = a == b
same_section _ _ = false

-- every level is from 0 on
abbrev pub is_from : ℕ → ℕ → Bool
is_from zero l = true
is_from (suc least) l = nat_le (suc least) l

-- whether a kind with these levels has this one
abbrev pub has_level : Option (ℕ × ℕ) → ℕ → Bool
has_level None l = true
has_level (Some levels) l = is_from levels.0 l && nat_le l levels.1

abbrev pub is_section : Section → Bool
is_section s = has_level (row (kind_of s)).levels (level_of s)

-- its place among all
abbrev pub section_number : Section → ℕ
section_number s = (row (kind_of s)).first + level_of s

-- the sections in their order
abbrev pub all_sections : List Section
all_sections =
    Main ∷ Opening ∷ Upgrading 1 ∷ Upgrading 2 ∷ Upgrading 3 ∷ Calling 0 ∷ Calling 1 ∷ Calling 2 ∷ Calling 3 ∷ Closing 0 ∷ Closing 1 ∷ Closing 2 ∷ Closing 3
    ∷ Reacting 0 ∷ Reacting 1 ∷ Reacting 2 ∷ []

-- where no request begins it, no session is current
abbrev pub without_session : Beginning → Bool
without_session At_start = true
without_session By_request = false
without_session By_signal = true

-- a section of the leaf's own, in which no session is current
abbrev pub is_own_section : Section → Bool
is_own_section s = without_session (row (kind_of s)).begun

abbrev pub is_at_start : Beginning → Bool
is_at_start At_start = true
is_at_start By_request = false
is_at_start By_signal = false

-- the one section that changes the leaf's own slots: what is done at the start
abbrev pub is_start_section : Section → Bool
is_start_section s = is_at_start (row (kind_of s)).begun

-- WORDS

-- a level stands behind the word
abbrev pub level_text : Option (ℕ × ℕ) → ℕ → List ℕ
level_text None l = []
level_text (Some levels) l = codes " " ++ decimal l

abbrev pub section_word : Section → List ℕ
section_word s = (row (kind_of s)).word ++ level_text (row (kind_of s)).levels (level_of s)
