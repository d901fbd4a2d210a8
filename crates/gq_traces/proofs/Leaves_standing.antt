-- Where all leaves stand.
use Rattle.std.proofs.Common.{◌≡◌, ◌∙◌, ℕ, zero, suc, ◌+◌, ◌<◌, List, [], ◌∷◌, ◌++◌, length, map, get_or, take, Option, Some, None, refl, ap, sym, subst, arith}
use Rattle.std.specs.Prelude.{IfSome, slice_get, slice_set}
use Rattle.gq_model.specs.declared.section.Section.TheVariants.{Main}
use Rattle.gq_model.specs.machine.Program.{Program, Statements}
use Rattle.gq_model.specs.machine.Scenario.{Component}
use Rattle.gq_model.proofs.Small_facts.{none_some, some_same}
use Rattle.gq_traces.specs.Step_positions.{Ahead, Ends, ahead, body_in, numbered, start_aheads}
use Rattle.gq_traces.specs.declared.numbered_program.NumberedProgram.{NumberedProgram as Entries}
use Rattle.gq_traces.specs.declared.numbered_program.NumberedSection.{NumberedSection}
use Rattle.gq_traces.specs.declared.tracker.Ahead as places
use Rattle.gq_traces.specs.internal.Flat.{AllStand, AreAheads, AreEntered, ArePrograms, IsAhead, IsPart, IsProgramOf, IsRead, Stands}

abbrev pub program : Component → Program
program c = c.node.program

-- A LEAF AMONG ALL

-- the program of a leaf
pub program_at : (all : List Entries) (cs : List Component) (x : ℕ) (es : Entries) (c : Component) → ArePrograms all (map program cs) → x < length all
    → es ≡ get_or all x es → slice_get cs x ≡ Some c → IsProgramOf es c.node.program
program_at [] cs x es c h less is there = absurd (omega (arith, less))
program_at (e ∷ all) [] x es c h less is there = absurd h
program_at (e ∷ all) (d ∷ cs) zero es c h less is there =
    subst (λ (z : Component). IsProgramOf es z.node.program) (some_same there) (subst (λ z. IsProgramOf z d.node.program) (sym is) h.0)
program_at (e ∷ all) (d ∷ cs) (suc x) es c h less is there = program_at all cs x es c h.1 (omega (arith, less)) is there

pub programs_long : (all : List Entries) (cs : List Component) → ArePrograms all (map program cs) → length all ≡ length cs
programs_long [] [] h = refl
programs_long [] (c ∷ cs) h = absurd h
programs_long (e ∷ all) [] h = absurd h
programs_long (e ∷ all) (c ∷ cs) h = ap suc (programs_long all cs h.1)

pub stand_long : (all : List Entries) (stands : List places.Ahead) → AllStand all stands → length stands ≡ length all
stand_long [] [] h = refl
stand_long [] (a ∷ stands) h = absurd h
stand_long (e ∷ all) [] h = absurd h
stand_long (e ∷ all) (a ∷ stands) h = ap suc (stand_long all stands h.1)

-- where it stands
pub stand_at : (all : List Entries) (stands : List places.Ahead) (x : ℕ) (es : Entries) (a : places.Ahead) → AllStand all stands → x < length all
    → es ≡ get_or all x es → a ≡ get_or stands x a → Stands es.entries.items a
stand_at [] stands x es a h less is at = absurd (omega (arith, less))
stand_at (e ∷ all) [] x es a h less is at = absurd h
stand_at (e ∷ all) (b ∷ stands) zero es a h less is at =
    subst (λ z. Stands es.entries.items z) (sym at) (subst (λ (z : Entries). Stands z.entries.items b) (sym is) h.0)
stand_at (e ∷ all) (b ∷ stands) (suc x) es a h less is at = stand_at all stands x es a h.1 (omega (arith, less)) is at

-- by what is reported of it
pub record Printed_at (es : Entries) (a : places.Ahead) (ts : List Ahead) (x : ℕ) : Type 0 where
  pub ahead : Ahead
  pub there : slice_get ts x ≡ Some ahead
  pub is : IsAhead es.entries.items a ahead

pub reported_at : (all : List Entries) (stands : List places.Ahead) (ts : List Ahead) (x : ℕ) (es : Entries) (a : places.Ahead) → AreAheads all stands ts → x <
    length all
    → es ≡ get_or all x es → a ≡ get_or stands x a → Printed_at es a ts x
reported_at [] stands ts x es a h less is at = absurd (omega (arith, less))
reported_at (e ∷ all) [] ts x es a h less is at = absurd h
reported_at (e ∷ all) (b ∷ stands) [] x es a h less is at = absurd h
reported_at (e ∷ all) (b ∷ stands) (t ∷ ts) zero es a h less is at = record {
  ahead = t;
  there = refl;
  is = subst (λ z. IsAhead es.entries.items z t) (sym at) (subst (λ (z : Entries). IsAhead z.entries.items b t) (sym is) h.0);
}
reported_at (e ∷ all) (b ∷ stands) (t ∷ ts) (suc x) es a h less is at =
    let g = reported_at all stands ts x es a h.1 (omega (arith, less)) is at in record { ahead = g.ahead; there = g.there; is = g.is }

-- it stands elsewhere
pub stands_now : (all : List Entries) (stands : List places.Ahead) (ts : List Ahead) (x : ℕ) (es : Entries) (a : places.Ahead) (t : Ahead) → AreAheads all
    stands ts
    → x < length all → es ≡ get_or all x es → IsAhead es.entries.items a t → AreAheads all (slice_set stands x a) (slice_set ts x t)
stands_now [] stands ts x es a t h less is now = absurd (omega (arith, less))
stands_now (e ∷ all) [] ts x es a t h less is now = absurd h
stands_now (e ∷ all) (b ∷ stands) [] x es a t h less is now = absurd h
stands_now (e ∷ all) (b ∷ stands) (u ∷ ts) zero es a t h less is now = (subst (λ (z : Entries). IsAhead z.entries.items a t) is now, h.1)
stands_now (e ∷ all) (b ∷ stands) (u ∷ ts) (suc x) es a t h less is now = (h.0, stands_now all stands ts x es a t h.1 (omega (arith, less)) is now)

pub all_stand : (all : List Entries) (stands : List places.Ahead) (ts : List Ahead) → AreAheads all stands ts → AllStand all stands
all_stand [] [] [] h = tt
all_stand [] [] (t ∷ ts) h = absurd h
all_stand [] (a ∷ stands) ts h = absurd h
all_stand (e ∷ all) [] ts h = absurd h
all_stand (e ∷ all) (a ∷ stands) [] h = absurd h
all_stand (e ∷ all) (a ∷ stands) (t ∷ ts) h = (record { ahead = t; is = h.0 }, all_stand all stands ts h.1)

-- each leaf that stands somewhere stands at something
pub stand_list : (all : List Entries) (stands : List places.Ahead) → AllStand all stands → (ts : List Ahead) × AreAheads all stands ts
stand_list [] [] h = ([], tt)
stand_list [] (a ∷ stands) h = absurd h
stand_list (e ∷ all) [] h = absurd h
stand_list (e ∷ all) (a ∷ stands) h = let rest = stand_list all stands h.1 in (h.0.ahead ∷ rest.0, (h.0.is, rest.1))

-- AT THE START OF A SECTION

pub at_start : (es : Entries) (body : Statements) (p : NumberedSection) (a : places.Ahead) → IsPart es body p → a.next ≡ p.first → a.loops.items ≡ []
    → IsAhead es.entries.items a (ahead body)
at_start es body p a h next loops = record {
  reads = subst (λ n. IsRead es.entries.items n (numbered 1 body Ends)) (sym next) h.reads;
  loops = subst (λ l. AreEntered es.entries.items l []) (sym loops) tt;
  deep = h.deep;
  deep_loops = tt;
}

-- one more stands at the start
pub one_more : (all : List Entries) (stands : List places.Ahead) (ts : List Ahead) (es : Entries) (a : places.Ahead) (t : Ahead) → AreAheads all stands ts
    → IsAhead es.entries.items a t → AreAheads (all ++ es ∷ []) (stands ++ a ∷ []) (ts ++ t ∷ [])
one_more [] [] [] es a t h is = (is, tt)
one_more [] [] (u ∷ ts) es a t h is = absurd h
one_more [] (b ∷ stands) ts es a t h is = absurd h
one_more (e ∷ all) [] ts es a t h is = absurd h
one_more (e ∷ all) (b ∷ stands) [] es a t h is = absurd h
one_more (e ∷ all) (b ∷ stands) (u ∷ ts) es a t h is = (h.0, one_more all stands ts es a t h.1 is)

-- the component of the next one
pub record Next_component (cs : List Component) (i : ℕ) (es : Entries) : Type 0 where
  pub component : Component
  pub starts : start_aheads (take (i + 1) cs) ≡ start_aheads (take i cs) ++ ahead (body_in component Main) ∷ []
  pub is : IsProgramOf es component.node.program

starts_more : (cs : List Component) (i : ℕ) (c : Component) → slice_get cs i ≡ Some c
    → start_aheads (take (i + 1) cs) ≡ start_aheads (take i cs) ++ ahead (body_in c Main) ∷ []
starts_more cs i c there = let one : i + 1 ≡ suc i = omega arith in ap (λ n. start_aheads (take n cs)) one ∙ by cs i there
  where
    by : (cs : List Component) (i : ℕ) → slice_get cs i ≡ Some c → start_aheads (take (suc i) cs) ≡ start_aheads (take i cs) ++ ahead (body_in c Main) ∷ []
    by [] i e = absurd (none_some e)
    by (d ∷ cs) zero e = ap (λ (z : Component). ahead (body_in z Main) ∷ []) (some_same e)
    by (d ∷ cs) (suc i) e = ap (λ l. ahead (body_in d Main) ∷ l) (by cs i e)

component_there : (cs : List Component) (x : ℕ) → x < length cs → (c : Component) × (slice_get cs x ≡ Some c)
component_there [] x less = absurd (omega (arith, less))
component_there (c ∷ cs) zero less = (c, refl)
component_there (c ∷ cs) (suc x) less = component_there cs x (omega (arith, less))

pub next_component : (all : List Entries) (cs : List Component) (i : ℕ) (es : Entries) → ArePrograms all (map program cs) → i < length all
    → es ≡ get_or all i es → Next_component cs i es
next_component all cs i es h less is =
    let long = programs_long all cs h in
    let c = component_there cs i (omega (arith, less, long)) in
    record { component = c.0; starts = starts_more cs i c.0 c.1; is = program_at all cs i es c.0 h less is c.1 }

-- AT ONE LEAF

pub there_is : {A : Type 0} (xs : List A) (x : ℕ) → x < length xs → (a : A) × (slice_get xs x ≡ Some a)
there_is [] x less = absurd (omega (arith, less))
there_is (a ∷ xs) zero less = (a, refl)
there_is (a ∷ xs) (suc x) less = there_is xs x (omega (arith, less))

pub printed_there : (all : List Entries) (stands : List places.Ahead) (ts : List Ahead) (x : ℕ) → AreAheads all stands ts → x < length all
    → (t : Ahead) × (slice_get ts x ≡ Some t)
printed_there [] stands ts x h less = absurd (omega (arith, less))
printed_there (e ∷ all) [] ts x h less = absurd h
printed_there (e ∷ all) (a ∷ stands) [] x h less = absurd h
printed_there (e ∷ all) (a ∷ stands) (t ∷ ts) zero h less = (t, refl)
printed_there (e ∷ all) (a ∷ stands) (t ∷ ts) (suc x) h less = printed_there all stands ts x h.1 (omega (arith, less))

pub from_some : {A : Type 0} (o : Option A) (P : A → Type 0) (a : A) → o ≡ Some a → IfSome o P → P a
from_some None P a e h = absurd (none_some e)
from_some (Some b) P a e h = subst P (some_same e) h

module _ (all : List Entries) (stands : List places.Ahead) (x : ℕ) (within : x < length all) (k n : ℕ) (at_k : k ≡ x) (at_n : n ≡ x) (es : Entries)
    (a : places.Ahead) (is : es ≡ get_or all n es) (at : a ≡ get_or stands k a) where
  is_there : es ≡ get_or all x es
  is_there = is ∙ ap (λ j. get_or all j es) at_n

  stands_there : a ≡ get_or stands x a
  stands_there = at ∙ ap (λ j. get_or stands j a) at_k

  pub stand_here : AllStand all stands → Stands es.entries.items a
  stand_here h = stand_at all stands x es a h within is_there stands_there

  pub program_here : (cs : List Component) (c : Component) → ArePrograms all (map program cs) → slice_get cs x ≡ Some c → IsProgramOf es c.node.program
  program_here cs c programs there = program_at all cs x es c programs within is_there there

  pub ahead_here : (ts : List Ahead) (t : Ahead) → AreAheads all stands ts → slice_get ts x ≡ Some t → IsAhead es.entries.items a t
  ahead_here ts t h there =
      let g = reported_at all stands ts x es a h within is_there stands_there in
      subst (IsAhead es.entries.items a) (some_same (sym g.there ∙ there)) g.is

  pub stands_then : (ts : List Ahead) (b : places.Ahead) (t : Ahead) → AreAheads all stands ts → IsAhead es.entries.items b t
      → AreAheads all (slice_set stands k b) (slice_set ts x t)
  stands_then ts b t h now =
      subst (λ j. AreAheads all (slice_set stands j b) (slice_set ts x t)) (sym at_k) (stands_now all stands ts x es b t h within is_there now)
