-- Interfaces as they are kept: at most 64, in the order of their names.
use Rattle.std.specs.Prelude.{ℕ, suc, map, nat_le, Bool, true, false, ◌&&◌, List, [], ◌∷◌, length, Option, Some, None, if◌then◌else◌}
use Rattle.std.specs.Ordering.{nat_cmp, is_lt}
use Rattle.std.specs.Cmp.Lexicographic.{slice_cmp}
use Rattle.gq_model.specs.machine.Amounts.{Resource, Ram, Caps, Amount, amount, counted_in}
use Rattle.gq_model.specs.machine.Lists.{any_of}
use Rattle.gq_model.specs.machine.Program.{text_eq}
use Rattle.gq_model.specs.machine.Scenario.{Interface, Interfaces}
use Rattle.gq_program.specs.declared.interface.Counts.{Counts}
use Rattle.gq_program.specs.declared.interface.Counts.TheVariants.{Nothing, Bytes, BytesAndCaps}

-- versions from 2 on count capabilities
abbrev pub version_of : Option ℕ → ℕ
version_of None = 1
version_of (Some caps) = 2

abbrev pub or_none : Option ℕ → ℕ
or_none None = 0
or_none (Some n) = n

-- the interface of these numbers, whose capabilities are given from version 2 on
abbrev pub interface_of : ℕ → ℕ → ℕ → Option ℕ → ℕ → List Amount → ℕ → Interface
interface_of arg reply need caps object upgrades buffer =
    record {
      arg = arg;
      reply = reply;
      need = amount need (or_none caps);
      object = object;
      upgrades = upgrades;
      buffer = buffer;
      counted = counted_in (version_of caps);
    }

-- its sessions may cost no more than is given for them, or anything
abbrev pub bounded_by : Bool → Interface → Interface
bounded_by true i = i
bounded_by false i = record i { counted = [] }

-- the capabilities of an amount alone
abbrev pub capped : Amount → Amount
capped a = amount 0 a.caps

-- an interface that asks for no bytes, and whose sessions may cost anything
abbrev pub unbounded : Interface → Interface
unbounded i = record i { need = capped i.need; upgrades = map capped i.upgrades; counted = [] }

abbrev pub unbounded_entry : List ℕ × Interface → List ℕ × Interface
unbounded_entry e = (e.0, unbounded e.1)

-- the same of all
abbrev pub all_unbounded : Interfaces → Interfaces
all_unbounded = map unbounded_entry

-- where the interface of a service stands among these, of which the first is the k-th
abbrev pub place_from : ℕ → List ℕ → Interfaces → Option ℕ
place_from k service [] = None
place_from k service (e ∷ rest) = if text_eq service e.0 then Some k else place_from (suc k) service rest

abbrev pub place_in : List ℕ → Interfaces → Option ℕ
place_in = place_from 0

-- what is counted of a session
abbrev pub counted_by : Counts → List Resource
counted_by Nothing = []
counted_by Bytes = Ram ∷ []
counted_by BytesAndCaps = Ram ∷ Caps ∷ []

abbrev pub is_caps : Resource → Bool
is_caps Ram = false
is_caps Caps = true

-- the capabilities that a session needs, where they are counted
abbrev pub need_caps : Interface → Option ℕ
need_caps i = if any_of is_caps i.counted then Some i.need.caps else None

-- the name comes before those of these
abbrev pub is_before : List ℕ → Interfaces → Bool
is_before name [] = true
is_before name (e ∷ rest) = is_lt (slice_cmp nat_cmp name e.0)

-- the names rise in byte order
abbrev pub is_rising : Interfaces → Bool
is_rising [] = true
is_rising (e ∷ rest) = is_before e.0 rest && is_rising rest

abbrev pub are_interfaces : Interfaces → Bool
are_interfaces entries = nat_le (length entries) 64 && is_rising entries
