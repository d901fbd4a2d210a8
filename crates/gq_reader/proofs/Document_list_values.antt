-- Values of lists, and keys of tables.
use Rattle.std.proofs.Common.{◌≡◌, ℕ, suc, Bool, true, ◌&&◌, ◌||◌, ◌==◌, nat_le, List, [], ◌∷◌, length, Option, Some, None, is_some, Ordering, Less, Equal}
use Rattle.std.proofs.Common.{Greater, nat_cmp, option_map, refl, ap, sym, ◌∙◌, arith}
use Rattle.std.specs.Ordering.{is_eq, match_ordering}
use Rattle.std.specs.Cmp.Lexicographic.{slice_cmp}
use Rattle.std.proofs.lemmas.Bool.Decides.{nat_tests}
use Rattle.std.proofs.lemmas.Map.Text.{is_eq-slice_cmp}
use Rattle.toml.specs.Data.{Data, Items, Members, no_members, member, get_member}
use Rattle.toml.specs.View.{items_view}
use Rattle.toml.specs.declared.value.Value.{Value}
use Rattle.gq_model.specs.machine.Lists.{any_of, between}
use Rattle.gq_model.specs.machine.Program.{text_eq}
use Rattle.gq_scenario.specs.Table_keys.{listed, list_length}
use Rattle.gq_scenario.specs.Document.{keys_of}
use Rattle.gq_scenario.proofs.List_image_equality.{text_eq-pointwise}

pub listed_length : (vs : List Value) → length (listed (items_view vs)) ≡ length vs
listed_length [] = refl
listed_length (v ∷ vs) = ap suc (listed_length vs)

pub few_listed : (high : ℕ) (fit : Bool) (n m : ℕ) → fit ≡ true → m ≡ n → nat_le m high ≡ (fit && between 0 high n)
few_listed high fit n m e f = grind (arith, nat_tests)

pub as_many : (fit : Bool) (n m count : ℕ) → fit ≡ true → m ≡ n → (m == count) ≡ (fit && n == count)
as_many fit n m count e f = rw (e, f) refl

pub counted : (vs : List Value) (o : Option Items) → Some (items_view vs) ≡ o → length vs ≡ list_length o
counted vs None e = cc
counted vs (Some items) e = sym (listed_length vs) ∙ ap list_length e

-- KEYS

among_by : (o : Ordering) (got : Option Data) (d : Data) (any : Bool) → is_some got ≡ any → is_some (match_ordering o got (Some d) got) ≡ (is_eq o || any)
among_by Less got d any e = e
among_by Equal got d any e = refl
among_by Greater got d any e = e

-- a key has a value just where it is one of the keys
pub among : (key : List ℕ) (entries : Members) → is_some (get_member key entries) ≡ any_of (text_eq key) (keys_of entries)
among key no_members = refl
among key (member l d rest) =
    among_by (slice_cmp nat_cmp key l) (get_member key rest) d (any_of (text_eq key) (keys_of rest)) (among key rest)
    ∙ ap (λ b. b || any_of (text_eq key) (keys_of rest)) (is_eq-slice_cmp key l ∙ sym (text_eq-pointwise key l))

mapped : {A B : Type 0} (f : A → B) (o : Option A) (p : Option B) → option_map f o ≡ p → is_some o ≡ is_some p
mapped f None None e = refl
mapped f None (Some b) e = cc
mapped f (Some a) None e = cc
mapped f (Some a) (Some b) e = refl

pub among_found : {A : Type 0} (f : A → Data) (o : Option A) (key : List ℕ) (entries : Members) → option_map f o ≡ get_member key entries
    → is_some o ≡ any_of (text_eq key) (keys_of entries)
among_found f o key entries e = mapped f o (get_member key entries) e ∙ among key entries
