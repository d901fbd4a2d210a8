-- Keys of tables.
use Rattle.std.proofs.Common.{◌≡◌, ℕ, ◌+◌, ◌<◌, Bool, true, false, ◌||◌, cond, eqb, List, length, map, get_or, drop, Some, refl, sym, ◌∙◌, rules}
use Rattle.std.specs.Cmp.Lexicographic.{pointwise}
use Rattle.std.proofs.lemmas.List.{drop_more}
use Rattle.std.proofs.lemmas.Slice.Eq.{compares_Decides}
use Rattle.gq_model.specs.machine.Lists.{any_of}
use Rattle.gq_model.specs.machine.Program.{text_eq}
use Rattle.gq_scenario.specs.declared.key.Key.{Key}
use Rattle.gq_scenario.specs.Fault_words.{key_text}
use Rattle.toml.specs.Data.{Data, Members, member}
use Rattle.gq_scenario.specs.Table_keys.{KeyRule, UnknownKey, unknown_key}
use Rattle.gq_scenario.proofs.List_image_equality.{text_eq-pointwise}
use Rattle.gq_model.proofs.Small_facts.{text_is}

pub text_eq-same : (a b : List ℕ) → a ≡ b → text_eq a b ≡ true
text_eq-same a b e = (compares_Decides text_eq (search rules) a b).1 e

-- what `==` on two texts says
pub text_eq-read : (a b word : List ℕ) (r t : Bool) → r ≡ pointwise eqb a word → word ≡ b → r ≡ t → text_eq a b ≡ t
text_eq-read a b word r t e f g = rw (← f) (text_eq-pointwise a word ∙ (sym e ∙ g))

pub any_of-drop : (text : List ℕ) (keys : List Key) (i : ℕ) (d : Key) → i < length keys
    → any_of (text_eq text) (map key_text (drop i keys))
    ≡ (text_eq text (key_text (get_or keys i d)) || any_of (text_eq text) (map key_text (drop (i + 1) keys)))
any_of-drop text keys i d h = rw (drop_more keys i d h) refl

pub key_found : (text other : List ℕ) (keys : List Key) (i : ℕ) (d : Key) → i < length keys → text_eq text (key_text (get_or keys i d)) ≡ true
    → any_of (text_eq text) (map key_text (drop i keys)) ≡ any_of (text_eq text) (map key_text keys)
    → key_text (get_or keys i d) ≡ cond (any_of (text_eq text) (map key_text keys)) text other
key_found text other keys i d h e all =
    let there : any_of (text_eq text) (map key_text keys) ≡ true = sym all ∙ (any_of-drop text keys i d h ∙ rw e refl) in
    rw there (sym (text_is text (key_text (get_or keys i d)) e))

pub other_key : (text : List ℕ) (keys : List Key) (i : ℕ) (d : Key) → i < length keys → text_eq text (key_text (get_or keys i d)) ≡ false
    → any_of (text_eq text) (map key_text (drop (i + 1) keys)) ≡ any_of (text_eq text) (map key_text (drop i keys))
other_key text keys i d h e = rw (any_of-drop text keys i d h, e) refl

-- UNKNOWN KEYS

pub unknown_first : (rules : List KeyRule) (key text : List ℕ) (d : Data) (rest : Members) (b : Bool) → b ≡ any_of (λ r. text_eq text r.key) rules → text ≡ key
    → b ≡ false
    → unknown_key rules (member key d rest) ≡ Some (UnknownKey text)
unknown_first rules key text d rest b e same f = rw (← same, sym e ∙ f)

pub unknown_other : (rules : List KeyRule) (key text : List ℕ) (d : Data) (rest : Members) (b : Bool) → b ≡ any_of (λ r. text_eq text r.key) rules → text ≡ key
    → b ≡ true
    → unknown_key rules (member key d rest) ≡ unknown_key rules rest
unknown_other rules key text d rest b e same f = rw (← same, sym e ∙ f)
