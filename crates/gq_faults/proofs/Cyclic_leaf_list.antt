-- Leaves that reach themselves, by the servers of the services that lead somewhere.
use Rattle.std.proofs.Common.{◌≡◌, ◌<◌, ◌≤◌, ◌+◌, ◌==◌, ℕ, zero, suc, Bool, true, false, ◌||◌, List, [], ◌∷◌, ◌++◌, length, map, get_or, drop}
use Rattle.std.proofs.Common.{Option, Some, None, option_map, Result, refl, ap, sym, ◌∙◌, ◌⊎◌, inl, inr, add-one, append-nil, arith}
use Rattle.std.specs.Prelude.{OnOk, slice_get}
use Rattle.std.proofs.lemmas.List.{drop_more, drop_all, length-map}
use Rattle.std.proofs.lemmas.Option.{slice_get-map, slice_get_cases, slice_get_read}
use Rattle.gq_output.proofs.Written_byte_facts.{on_ok}
use Rattle.gq_model.specs.machine.Lists.{any_of}
use Rattle.gq_model.specs.machine.Routes.{server_of}
use Rattle.gq_model.specs.machine.Scenario.{System, Component}
use Rattle.gq_model.specs.rules.Resolve.{Unresolved, Cycle}
use Rattle.gq_model.specs.rules.Use.{services, used_at, reaches}
use Rattle.gq_model.specs.texts.Fault_texts.{unresolved_text}
use Rattle.gq_model.proofs.Small_facts.{some_same}
use Rattle.gq_resolve.specs.Reaching.{used_there, reaches_by}
use Rattle.gq_resolve.proofs.Use_chain_flags.{any_of-same, led_to, used_by}
use Rattle.gq_faults.specs.Scenario_faults.{cycles}
use Rattle.gq_faults.specs.Found_lists.{all_found, listed_if, when}
use Rattle.gq_faults.specs.Uses.{used_of}
use Rattle.gq_faults.proofs.Joined_fault_lists.{map-append, then_more}

-- WHAT A LEAF USES

server_here : (f : ℕ → Bool) (o : Option ℕ) (l : List ℕ) (b : Bool) → any_of f l ≡ b → any_of f (listed_if o ++ l) ≡ (led_to f o || b)
server_here f None l b h = h
server_here f (Some n) l b h = ap (λ t. f n || t) h

-- a test holds of one of these servers where it holds of the server of one of these services
any_server : (f : ℕ → Bool) (server : List ℕ → Option ℕ) (l : List (List ℕ))
    → any_of f (all_found (λ service. listed_if (server service)) l) ≡ any_of (λ service. led_to f (server service)) l
any_server f server [] = refl
any_server f server (s ∷ l) =
    server_here f (server s) (all_found (λ service. listed_if (server service)) l) (any_of (λ service. led_to f (server service)) l) (any_server f server l)

module _ (system : System) (used : List (List ℕ)) (is : used ≡ map (used_of system.components) system.components) where
  uses_there : (f : ℕ → Bool) (o : Option Component)
      → any_of f (used_there (option_map (used_of system.components) o)) ≡ any_of f (used_at system o)
  uses_there f None = refl
  uses_there f (Some c) = any_server f (server_of system c) (services c) ∙ sym (used_by f system c)

  uses_at : (f : ℕ → Bool) (x : ℕ) → any_of f (used_there (slice_get used x)) ≡ any_of f (used_at system (slice_get system.components x))
  uses_at f x =
      ap (λ u. any_of f (used_there (slice_get u x))) is
      ∙ (ap (λ o. any_of f (used_there o)) (slice_get-map (used_of system.components) system.components x) ∙ uses_there f (slice_get system.components x))

  chains_same : (n y x : ℕ) → reaches_by n used y x ≡ reaches n system y x
  chains_same zero y x = refl
  chains_same (suc n) y x =
      uses_at (λ z. z == y || reaches_by n used y z) x
      ∙ any_of-same (λ z. z == y || reaches_by n used y z) (λ z. z == y || reaches n system y z) (used_at system (slice_get system.components x))
      (λ z. ap (λ b. z == y || b) (chains_same n y z))

  -- a leaf reaches itself by the lists just where it does by the definition
  round_same : (n x : ℕ) → n ≡ length system.components → reaches_by n used x x ≡ reaches (length system.components) system x x
  round_same n x e = chains_same n x x ∙ ap (λ n. reaches n system x x) e

-- LEAVES ONE AFTER THE OTHER

-- the leaf at a place that is there
at_place : {A : Type 0} (xs : List A) (i : ℕ) → i < length xs → (x : A) × (slice_get xs i ≡ Some x) × (x ≡ get_or xs i x)
at_place {A} xs i less = by (slice_get_cases xs i).1
  where
    by : ((x : A) × (i < length xs) × (slice_get xs i ≡ Some x) × (get_or xs i x ≡ x)) ⊎ ((length xs ≤ i) × (slice_get xs i ≡ None))
        → (x : A) × (slice_get xs i ≡ Some x) × (x ≡ get_or xs i x)
    by (inl p) = (p.0, p.2, sym p.3)
    by (inr p) = absurd (omega (arith, p.0))

mapped_cycles : (all : System) (cs : List Component) (i : ℕ) (c : Component) → i < length cs → c ≡ get_or cs i c
    → map unresolved_text (cycles all i (drop i cs))
    ≡ map unresolved_text (when (reaches (length all.components) all i i) (Cycle c.node.name)) ++ map unresolved_text (cycles all (i + 1) (drop (i + 1) cs))
mapped_cycles all cs i c less is =
    rw (drop_more cs i c less, ← is, add-one) (map-append unresolved_text (when (reaches (length all.components) all i i) (Cycle c.node.name)) _)

-- those up to a place were put there, and then the leaf at that place, where it reaches itself
pub next_cycle : (all : System) (cs : List Component) (used : List (List ℕ)) (n i : ℕ) (old new end : List (List ℕ)) → all.components ≡ cs
    → used ≡ map (used_of cs) cs → n ≡ length used → i < length cs
    → ((c : Component) → slice_get cs i ≡ Some c → new ≡ old ++ map unresolved_text (when (reaches_by n used i i) (Cycle c.node.name)))
    → old ++ map unresolved_text (cycles all i (drop i cs)) ≡ end → new ++ map unresolved_text (cycles all (i + 1) (drop (i + 1) cs)) ≡ end
next_cycle all cs used n i old new end of is long less put before =
    let (c, here, at) = at_place cs i less in
    let uses : used ≡ map (used_of all.components) all.components = rw of is in
    let many : n ≡ length all.components =
    long ∙ (ap length is ∙ (length-map cs (used_of cs) ∙ sym (ap length of))) in
    then_more end old new (map unresolved_text (cycles all i (drop i cs)))
    (map unresolved_text (when (reaches (length all.components) all i i) (Cycle c.node.name)))
    (map unresolved_text (cycles all (i + 1) (drop (i + 1) cs)))
    (put c here ∙ ap (λ b. old ++ map unresolved_text (when b (Cycle c.node.name))) (round_same all used uses n i many))
    (mapped_cycles all cs i c less at) before

pub end_cycles : (all : System) (cs : List Component) (i : ℕ) → length cs ≤ i → map unresolved_text (cycles all i (drop i cs)) ≡ []
end_cycles all cs i past = rw (drop_all i cs past) refl

-- ONE LEAF

-- the leaf of this place is put there
pub put_cycle : {E F : Type 0} (cs : List Component) (i : ℕ) (x c : Component) (name : List ℕ) (old new : List (List ℕ)) (r : Result E F) → i < length cs
    → x ≡ get_or cs i x → slice_get cs i ≡ Some c → name ≡ x.node.name → OnOk r (new ≡ old ++ unresolved_text (Cycle name) ∷ [])
    → OnOk r (new ≡ old ++ unresolved_text (Cycle c.node.name) ∷ [])
put_cycle cs i x c name old new r less is at named h =
    let same : x ≡ c = some_same (sym (slice_get_read cs (length cs) i x refl less is) ∙ at) in
    on_ok (new ≡ old ++ unresolved_text (Cycle name) ∷ []) (new ≡ old ++ unresolved_text (Cycle c.node.name) ∷ []) r
    (λ e. e ∙ ap (λ n. old ++ unresolved_text (Cycle n) ∷ []) (named ∙ ap (λ d. d.node.name) same)) h

pub one_when : {E F : Type 0} (old new : List (List ℕ)) (b : Bool) (u : Unresolved) (r : Result E F) → true ≡ b
    → OnOk r (new ≡ old ++ unresolved_text u ∷ []) → OnOk r (new ≡ old ++ map unresolved_text (when b u))
one_when old new b u r e h =
    on_ok (new ≡ old ++ unresolved_text u ∷ []) (new ≡ old ++ map unresolved_text (when b u)) r
    (λ g. g ∙ ap (λ b. old ++ map unresolved_text (when b u)) e) h

pub none_when : (old : List (List ℕ)) (b : Bool) (u : Unresolved) → false ≡ b → old ≡ old ++ map unresolved_text (when b u)
none_when old b u e = sym (append-nil old) ∙ ap (λ b. old ++ map unresolved_text (when b u)) e

-- the lists of all leaves, as far as they were made
pub used_next : {V : Type 0} (items : V → List ℕ) (old : List V) (v : V) (vs : List V) (f : Component → List ℕ) (xs : List Component) (i : ℕ) (x : Component)
    → vs ≡ old ++ v ∷ [] → items v ≡ f x → i < length xs → x ≡ get_or xs i x
    → map items old ++ map f (drop i xs) ≡ map f xs → map items vs ++ map f (drop (i + 1) xs) ≡ map f xs
used_next items old v vs f xs i x e same less is before =
    then_more (map f xs) (map items old) (map items vs) (map f (drop i xs)) (f x ∷ []) (map f (drop (i + 1) xs))
    (ap (map items) e ∙ (map-append items old (v ∷ []) ∙ ap (λ l. map items old ++ l ∷ []) same))
    (rw (drop_more xs i x less, ← is) refl) before

pub used_end : (f : Component → List ℕ) (xs : List Component) (i : ℕ) → length xs ≤ i → map f (drop i xs) ≡ []
used_end f xs i past = rw (drop_all i xs past) refl
