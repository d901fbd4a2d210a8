-- Faults that are put at the end of those that were found.
use Rattle.std.proofs.Common.{◌≡◌, ◌<◌, ◌≤◌, ◌+◌, ℕ, List, [], ◌∷◌, ◌++◌, length, map, get_or, take}
use Rattle.std.proofs.Common.{drop, Option, Some, None, option_map, Result, refl, ap}
use Rattle.std.proofs.Common.{sym, ◌∙◌, append_assoc, append-nil}
use Rattle.std.specs.Prelude.{OnOk}
use Rattle.std.proofs.lemmas.List.{drop_more, drop_all, take_more}
use Rattle.gq_output.proofs.Written_byte_facts.{on_ok}
use Rattle.gq_model.specs.machine.Scenario.{Component}
use Rattle.gq_model.specs.rules.Resolve.{Unresolved, Bad_after, is_bad_after, with_name}
use Rattle.gq_model.proofs.Small_facts.{or_first_none, some_same}
use Rattle.gq_load.specs.Load.{LoadRefusal, fault_text, source_fault, sources_fault}
use Rattle.gq_load.specs.Load_faults.{Prints, load_fault_text}
use Rattle.gq_load.specs.declared.load_fault.LoadFault.{LoadFault}
use Rattle.gq_resolve.specs.internal.Afters.{named_by}
use Rattle.gq_faults.specs.Found_lists.{all_found, listed_if, when}
use Rattle.gq_faults.specs.Scenario_faults.{after_faults}
use Rattle.gq_faults.proofs.Joined_fault_lists.{map-append}

pub mapped_next : {A B C : Type 0} (t : B → C) (f : A → List B) (xs : List A) (i : ℕ) (x : A) → i < length xs → x ≡ get_or xs i x
    → map t (all_found f (drop i xs)) ≡ map t (f x) ++ map t (all_found f (drop (i + 1) xs))
mapped_next t f xs i x less is = rw (drop_more xs i x less, ← is) (map-append t (f x) (all_found f (drop (i + 1) xs)))

pub mapped_end : {A B C : Type 0} (t : B → C) (f : A → List B) (xs : List A) (i : ℕ) → length xs ≤ i → map t (all_found f (drop i xs)) ≡ []
mapped_end t f xs i past = rw (drop_all i xs past) refl

-- nothing is left to be put there
pub all_there : {A : Type 0} (old rest all : List A) → old ++ rest ≡ all → rest ≡ [] → old ≡ all
all_there old rest all e none = sym (append-nil old) ∙ (ap (λ l. old ++ l) (sym none) ∙ e)

-- one after the other
pub two_more : {A B : Type 0} (t : B → A) (old mid new : List A) (x y : List B) → mid ≡ old ++ map t x → new ≡ mid ++ map t y → new ≡ old ++ map t (x ++ y)
two_more t old mid new x y e f =
    f ∙ (ap (λ l. l ++ map t y) e ∙ (append_assoc old (map t x) (map t y) ∙ ap (λ l. old ++ l) (sym (map-append t x y))))

pub then_two : {A B E F : Type 0} (t : B → A) (old mid new : List A) (x y : List B) (r : Result E F) → mid ≡ old ++ map t x → OnOk r (new ≡ mid ++ map t y)
    → OnOk r (new ≡ old ++ map t (x ++ y))
then_two t old mid new x y r e h = on_ok (new ≡ mid ++ map t y) (new ≡ old ++ map t (x ++ y)) r (two_more t old mid new x y e) h

-- a fault that prints the line of the definition's
pub printed : (f : LoadFault) (o : Option LoadRefusal) → Prints f o → load_fault_text f ∷ [] ≡ map fault_text (listed_if o)
printed f None h = absurd h
printed f (Some fault) h = ap (λ l. l ∷ []) h

pub none_added : {A B : Type 0} (t : B → A) (old : List A) (o : Option B) → o ≡ None → old ≡ old ++ map t (listed_if o)
none_added t old o e = rw e (sym (append-nil old))

-- LEAVES THAT START AFTER OTHERS

named_more : (names : List (List ℕ)) (cs : List Component) (c : Component) → named_by names (cs ++ c ∷ []) ≡ with_name c.node.after (named_by names cs)
named_more names [] c = refl
named_more names (first ∷ cs) c = named_more (with_name first.node.after names) cs c

pub after_next : {C : Type 0} (t : Unresolved → C) (all : List Component) (i : ℕ) (c : Component) → i < length all → c ≡ get_or all i c
    → map t (after_faults all (named_by [] (take i all)) (drop i all))
    ≡ map t (when (is_bad_after all (named_by [] (take i all)) c c.node.after) (Bad_after c.node.name))
    ++ map t (after_faults all (named_by [] (take (i + 1) all)) (drop (i + 1) all))
after_next t all i c less is =
    let more : named_by [] (take (i + 1) all) ≡ with_name c.node.after (named_by [] (take i all)) =
    rw (take_more all i c less, ← is) (named_more [] (take i all) c) in
    rw (drop_more all i c less, ← is, more) (map-append t _ _)

pub after_end : {C : Type 0} (t : Unresolved → C) (all : List Component) (names : List (List ℕ)) (i : ℕ) → length all ≤ i
    → map t (after_faults all names (drop i all)) ≡ []
after_end t all names i past = rw (drop_all i all past) refl

-- PROGRAMS

pub sources_next : (cs : List Component) (i : ℕ) (c : Component) → i < length cs → c ≡ get_or cs i c → sources_fault (drop i cs) ≡ None
    → (source_fault c.node.name c.node.source ≡ None) × (sources_fault (drop (i + 1) cs) ≡ None)
sources_next cs i c less is none =
    or_first_none (source_fault c.node.name c.node.source) (sources_fault (drop (i + 1) cs)) (sym (rw (drop_more cs i c less, ← is) refl) ∙ none)

same_line : (f : LoadFault) (o : Option LoadRefusal) → Some (load_fault_text f) ≡ option_map fault_text o → load_fault_text f ∷ [] ≡ map fault_text
    (listed_if o)
same_line f None e = absurd cc
same_line f (Some fault) e = ap (λ l. l ∷ []) (some_same e)

pub one_printed : {E F : Type 0} (old new : List (List ℕ)) (f : LoadFault) (o : Option LoadRefusal) (r : Result E F)
    → Some (load_fault_text f) ≡ option_map fault_text o
    → OnOk r (new ≡ old ++ load_fault_text f ∷ []) → OnOk r (new ≡ old ++ map fault_text (listed_if o))
one_printed old new f o r e h =
    on_ok (new ≡ old ++ load_fault_text f ∷ []) (new ≡ old ++ map fault_text (listed_if o)) r (λ g. g ∙ ap (λ l. old ++ l) (same_line f o e)) h

pub none_printed : (old : List (List ℕ)) (o : Option LoadRefusal) → None ≡ option_map fault_text o → old ≡ old ++ map fault_text (listed_if o)
none_printed old None e = sym (append-nil old)
none_printed old (Some fault) e = absurd cc

-- WHAT IS FOUND OF EACH

pub found_next : {A B : Type 0} (f : A → List B) (xs : List A) (i : ℕ) (x : A) → i < length xs → x ≡ get_or xs i x
    → all_found f (drop i xs) ≡ f x ++ all_found f (drop (i + 1) xs)
found_next f xs i x less is = rw (drop_more xs i x less, ← is) refl

pub found_end : {A B : Type 0} (f : A → List B) (xs : List A) (i : ℕ) → length xs ≤ i → all_found f (drop i xs) ≡ []
found_end f xs i past = rw (drop_all i xs past) refl
