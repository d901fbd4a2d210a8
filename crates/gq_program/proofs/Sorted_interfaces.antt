-- Interfaces in the order of their names.
use Rattle.std.proofs.Common.{◌≡◌, ℕ, zero, suc, ◌<◌, Bool, true, false, cond, List, [], ◌∷◌, length, get_or, nat_le, Some, refl, ap, sym, ◌∙◌}
use Rattle.std.specs.Prelude.{slice_get}
use Rattle.std.specs.Ordering.{nat_cmp, is_lt, ordering_reverse}
use Rattle.std.specs.declared.cmp.Ordering.{Ordering}
use Rattle.std.specs.declared.cmp.Ordering.TheVariants.{Less, Equal, Greater}
use Rattle.std.specs.Cmp.Lexicographic.{slice_cmp}
use Rattle.std.proofs.lemmas.Cmp.{nat_list_cmp_total}
use Rattle.std.proofs.lemmas.Bool.{and_parts}
use Rattle.std.proofs.lemmas.Option.{slice_get_read}
use Rattle.gq_model.specs.machine.Program.{text_eq}
use Rattle.gq_model.specs.machine.Scenario.{Interface, Interfaces, interface_in}
use Rattle.gq_model.proofs.Small_facts.{none_some, some_same, text_is, text_self}
use Rattle.gq_program.specs.Interfaces.{is_before, is_rising, are_interfaces}

is_less : (o : Ordering) → is_lt o ≡ true → o ≡ Less
is_less Less e = refl
is_less Equal e = cc
is_less Greater e = cc

-- the first name comes before those that follow
first_less : (e : List ℕ × Interface) (rest : Interfaces) → is_rising (e ∷ rest) ≡ true → (i : ℕ) (d : List ℕ × Interface) → slice_get rest i ≡ Some d
    → slice_cmp nat_cmp e.0 d.0 ≡ Less
first_less e [] rises i d there = absurd (none_some there)
first_less e (r ∷ rest) rises zero d there =
    let p = and_parts (is_lt (slice_cmp nat_cmp e.0 r.0)) (is_rising (r ∷ rest)) rises in
    ap (λ (f : List ℕ × Interface). slice_cmp nat_cmp e.0 f.0) (sym (some_same there)) ∙ is_less (slice_cmp nat_cmp e.0 r.0) p.0
first_less e (r ∷ rest) rises (suc i) d there =
    let p = and_parts (is_lt (slice_cmp nat_cmp e.0 r.0)) (is_rising (r ∷ rest)) rises in
    nat_list_cmp_total.trans e.0 r.0 d.0 (is_less (slice_cmp nat_cmp e.0 r.0) p.0) (first_less r rest p.1 i d there)

not_less : (o : Ordering) → o ≡ ordering_reverse o → o ≡ Less → ⊥
not_less Less e f = cc
not_less Equal e f = cc
not_less Greater e f = cc

apart : (name other : List ℕ) → slice_cmp nat_cmp other name ≡ Less → text_eq name other ≡ false
apart name other less = by (text_eq name other) refl
  where
    by : (b : Bool) → text_eq name other ≡ b → b ≡ false
    by false e = refl
    by true e =
        absurd (not_less (slice_cmp nat_cmp name name) (nat_list_cmp_total.antisymm name name)
        (ap (λ (n : List ℕ). slice_cmp nat_cmp n name) (text_is name other e) ∙ less))

-- the interface that stands there is that of its name
pub rising_entry : (interfaces : Interfaces) → is_rising interfaces ≡ true → (i : ℕ) (d : List ℕ × Interface) → slice_get interfaces i ≡ Some d
    → interface_in d.0 interfaces ≡ Some d.1
rising_entry [] rises i d there = absurd (none_some there)
rising_entry (e ∷ rest) rises zero d there =
    ap (λ (f : List ℕ × Interface). interface_in f.0 (e ∷ rest)) (sym (some_same there))
    ∙ (ap (λ b. cond b (Some e.1) (interface_in e.0 rest)) (text_self e.0) ∙ ap (λ (f : List ℕ × Interface). Some f.1) (some_same there))
rising_entry (e ∷ rest) rises (suc i) d there =
    let p = and_parts (is_before e.0 rest) (is_rising rest) rises in
    ap (λ b. cond b (Some e.1) (interface_in d.0 rest)) (apart d.0 e.0 (first_less e rest rises i d there)) ∙ rising_entry rest p.1 i d there

pub named_there : (name : List ℕ) (interfaces : Interfaces) (i : ℕ) (d : List ℕ × Interface) → are_interfaces interfaces ≡ true → i < length interfaces
    → d ≡ get_or interfaces i d → text_eq name d.0 ≡ true → Some d.1 ≡ interface_in name interfaces
named_there name interfaces i d order less there same =
    let p = and_parts (nat_le (length interfaces) 64) (is_rising interfaces) order in
    sym (ap (λ n. interface_in n interfaces) (text_is name d.0 same)
    ∙ rising_entry interfaces p.1 i d (slice_get_read interfaces (length interfaces) i d refl less there))
