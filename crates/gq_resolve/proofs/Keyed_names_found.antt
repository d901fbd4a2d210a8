-- Names by the numbers that are made of them, and nodes by those of the services that they provide.
use Rattle.std.proofs.Common.{◌≡◌, ◌<◌, ◌≤◌, ◌+◌, ℕ, zero, suc, arith, Bool, true, false, List, [], ◌∷◌, ◌++◌, take, drop, length}
use Rattle.std.proofs.Common.{get_or, Option, Some, None, refl, ap, sym}
use Rattle.std.proofs.Common.{◌∙◌, ◌⊎◌, inl, inr, append-nil, map}
use Rattle.std.proofs.Math.ListN.{drop_of_length-le}
use Rattle.std.proofs.lemmas.List.{take_more, length-take, take-append-drop}
use Rattle.std.proofs.lemmas.Bool.{true≢false, and_parts}
use Rattle.gq_model.specs.machine.Lists.{any_of}
use Rattle.gq_model.specs.machine.Program.{text_eq}
use Rattle.gq_model.specs.machine.Scenario.{Component, Nodes, Offers}
use Rattle.gq_model.specs.machine.Routes.{Routed, is_service, offer_of, offered, providers, numbered}
use Rattle.gq_scenario.specs.Component_trees.{nodes_of}
use Rattle.gq_scenario.specs.declared.scenario.Node.{Node}
use Rattle.gq_scenario.specs.declared.scenario.Node.TheVariants.{Leaf, Init}
use Rattle.gq_program.specs.Name_keys.{key_of}
use Rattle.gq_resolve.specs.internal.Search_keys.{provided_key, node_key, keys_of, is_silent, are_silent, name_keys, route_keys}
use Rattle.gq_resolve.specs.Served.{server_in}
use Rattle.gq_model.proofs.Small_facts.{text_is}
use Rattle.gq_program.proofs.Skipped_list_ends.{skipped, rest, not_both}
use Rattle.gq_resolve.proofs.Names_by_key as named

not_so : (b : Bool) → (b ≡ true → ⊥) → b ≡ false
not_so false h = refl
not_so true h = absurd (h refl)

-- a service with another number is another one
other_service : (provided : Option (List ℕ)) (service : List ℕ) → (provided_key provided ≡ key_of service → ⊥) → is_service provided service ≡ false
other_service None service differ = refl
other_service (Some s) service differ = not_so (text_eq s service) (λ same. differ (ap key_of (text_is s service same)))

-- NODES

pub length_keys : (items : List Node) → length (keys_of (nodes_of items)) ≡ length items
length_keys [] = refl
length_keys (Leaf node ∷ rest) = ap suc (length_keys rest)
length_keys (Init node children ∷ rest) = ap suc (length_keys rest)

key_at : (items : List Node) (i : ℕ) (node : Node) → i < length items → get_or (keys_of (nodes_of items)) i 0 ≡ node_key (get_or items i node)
key_at [] i node less = absurd (omega (arith, less))
key_at (Leaf leaf ∷ rest) zero node less = refl
key_at (Init init children ∷ rest) zero node less = refl
key_at (Leaf leaf ∷ rest) (suc i) node less = key_at rest i node (omega (arith, less))
key_at (Init init children ∷ rest) (suc i) node less = key_at rest i node (omega (arith, less))

keys_append : (xs : List Node) (x : Node) → keys_of (nodes_of (xs ++ x ∷ [])) ≡ keys_of (nodes_of xs) ++ node_key x ∷ []
keys_append [] (Leaf node) = refl
keys_append [] (Init node children) = refl
keys_append (Leaf node ∷ rest) x = ap (λ (l : List ℕ). provided_key node.provides ∷ l) (keys_append rest x)
keys_append (Init node children ∷ rest) x = ap (λ (l : List ℕ). 0 ∷ l) (keys_append rest x)

-- the numbers of one node more
pub keys_more : (items : List Node) (i : ℕ) (node : Node) → i < length items → node ≡ get_or items i node →
    keys_of (nodes_of (take i items)) ++ node_key node ∷ [] ≡ keys_of (nodes_of (take (i + 1) items))
keys_more items i node less at =
    sym (keys_append (take i items) node)
    ∙ ap (λ (l : List Node). keys_of (nodes_of l)) (ap (λ (x : Node). take i items ++ x ∷ []) at ∙ sym (take_more items i node less))

pub as_many : (items : List Node) (i : ℕ) → i ≤ length items → length (keys_of (nodes_of (take i items))) ≡ i
as_many items i few = length_keys (take i items) ∙ (length-take i items ∙ omega (arith, few))

-- all of them
pub all_taken : (items : List Node) (i : ℕ) → length items ≤ i → take i items ≡ items
all_taken items i past =
    sym (append-nil (take i items)) ∙ (ap (λ (l : List Node). take i items ++ l) (sym (drop_of_length-le items past)) ∙ take-append-drop i items)

-- this node is no init that offers anything
abbrev is_quiet : Node → Bool
is_quiet (Leaf node) = true
is_quiet (Init node children) = is_silent node.offers

quiet_at : (items : List Node) (i : ℕ) (node : Node) → are_silent (nodes_of items) ≡ true → i < length items → is_quiet (get_or items i node) ≡ true
quiet_at [] i node silent less = absurd (omega (arith, less))
quiet_at (Leaf leaf ∷ rest) zero node silent less = refl
quiet_at (Init init children ∷ rest) zero node silent less = (and_parts (is_silent init.offers) (are_silent (nodes_of rest)) silent).0
quiet_at (Leaf leaf ∷ rest) (suc i) node silent less = quiet_at rest i node silent (omega (arith, less))
quiet_at (Init init children ∷ rest) (suc i) node silent less =
    quiet_at rest i node (and_parts (is_silent init.offers) (are_silent (nodes_of rest)) silent).1 (omega (arith, less))

-- where nothing is offered no service is
not_offered : (offers : Offers) (service : List ℕ) (children : Nodes) → is_silent offers ≡ true → offered (offer_of offers service) service children ≡ []
not_offered [] service children silent = refl
not_offered (o ∷ rest) service children silent = absurd (true≢false (sym silent))

module _ (service : List ℕ) where
  -- a node with another number, which offers nothing, does not serve the service
  abbrev IsOther : Node → Type 0
  IsOther node = (node_key node ≡ key_of service → ⊥) × (is_quiet node ≡ true)

  without : (node : Node) (rest : List Node) → IsOther node → providers service (nodes_of (node ∷ rest)) ≡ providers service (nodes_of rest)
  without (Leaf node) rest other = rw (other_service node.provides service other.0) refl
  without (Init node children) rest other = ap (λ (l : List Routed). l ++ providers service (nodes_of rest)) (not_offered node.offers service children other.1)

  module _ (items : List Node) (key first end : ℕ) (k : key ≡ key_of service)
      (within : (i : ℕ) → i < length (keys_of (nodes_of items)) → get_or (keys_of (nodes_of items)) i 0 ≡ key → (first ≤ i) × (i < end))
      (silent : are_silent (nodes_of items) ≡ true) where
    others : (i : ℕ) → i < length items → (i < first) ⊎ (end ≤ i) → (e : Node) → IsOther (get_or items i e)
    others i less out e = (
      (λ same.
          let many = length_keys items in not_both i first end (within i (omega (arith, less, many)) (key_at items i e less ∙ (same ∙ sym k))) out),
      quiet_at items i e silent less,
    )

    -- those before the first place provide nothing
    pub first_providers : providers service (nodes_of (drop first items)) ≡ providers service (nodes_of items)
    first_providers = skipped IsOther (λ (l : List Node). providers service (nodes_of l)) without items first end others

    -- nor do those from the last place on
    pub last_providers : (n : ℕ) → end ≤ n → providers service (nodes_of (drop n items)) ≡ []
    last_providers n past = rest IsOther (λ (l : List Node). providers service (nodes_of l)) without items first end n others past

-- LEAVES

-- the numbers of one leaf more
pub names_more : (items : List Component) (i : ℕ) (c : Component) → i < length items → c ≡ get_or items i c →
    name_keys (take i items) ++ key_of c.node.name ∷ [] ≡ name_keys (take (i + 1) items)
names_more items i c less at =
    sym (named.keys_append (λ (c : Component). c.node.name) (take i items) c)
    ∙ ap name_keys (ap (λ (x : Component). take i items ++ x ∷ []) at ∙ sym (take_more items i c less))

pub as_many_names : (items : List Component) (i : ℕ) → i ≤ length items → length (name_keys (take i items)) ≡ i
as_many_names items i few = named.length_keys (λ (c : Component). c.node.name) (take i items) ∙ (length-take i items ∙ omega (arith, few))

module _ (name : List ℕ) where
  abbrev IsOtherName : Component → Type 0
  IsOtherName c = key_of c.node.name ≡ key_of name → ⊥

  next_number : (c : Component) (rest : List Component) (x : ℕ) → IsOtherName c → numbered x name (c ∷ rest) ≡ numbered (suc x) name rest
  next_number c rest x differ = rw (not_so (text_eq name c.node.name) (λ same. differ (ap key_of (sym (text_is name c.node.name same))))) refl

  before_number : (items : List Component) (n x : ℕ) → ((i : ℕ) → i < length items → i < n → (e : Component) → IsOtherName (get_or items i e)) →
      numbered (x + n) name (drop n items) ≡ numbered x name items
  before_number items zero x h = ap (λ (k : ℕ). numbered k name items) (omega arith)
  before_number [] (suc n) x h = refl
  before_number (c ∷ rest) (suc n) x h =
      ap (λ (k : ℕ). numbered k name (drop n rest)) (omega arith)
      ∙ (before_number rest n (suc x) (λ i less early e. h (suc i) (omega (arith, less)) (omega (arith, early)) e)
      ∙ sym (next_number c rest x (h 0 (omega arith) (omega arith) c)))

  after_number : (items : List Component) (n x : ℕ) → ((i : ℕ) → i < length items → n ≤ i → (e : Component) → IsOtherName (get_or items i e)) →
      numbered x name (drop n items) ≡ None
  after_number [] zero x h = refl
  after_number [] (suc n) x h = refl
  after_number (c ∷ rest) zero x h =
      next_number c rest x (h 0 (omega arith) (omega arith) c)
      ∙ after_number rest zero (suc x) (λ i less late e. h (suc i) (omega (arith, less)) (omega arith) e)
  after_number (c ∷ rest) (suc n) x h = after_number rest n x (λ i less late e. h (suc i) (omega (arith, less)) (omega (arith, late)) e)

  module _ (items : List Component) (key first end : ℕ) (k : key ≡ key_of name)
      (within : (i : ℕ) → i < length (name_keys items) → get_or (name_keys items) i 0 ≡ key → (first ≤ i) × (i < end)) where
    other_names : (i : ℕ) → i < length items → (i < first) ⊎ (end ≤ i) → (e : Component) → IsOtherName (get_or items i e)
    other_names = named.others (λ (c : Component). c.node.name) name items key first end k within

    -- none before the first place has the name
    pub first_number : numbered first name (drop first items) ≡ numbered 0 name items
    first_number =
        ap (λ (n : ℕ). numbered n name (drop first items)) (omega arith)
        ∙ before_number items first 0 (λ i less early e. other_names i less (inl early) e)

    -- nor has one from the last place on
    pub last_number : (n : ℕ) → end ≤ n → numbered n name (drop n items) ≡ None
    last_number n past = after_number items n n (λ i less late e. other_names i less (inr (omega (arith, past, late))) e)

-- SERVICES

module _ (service : List ℕ) where
  other_text : (s : List ℕ) → (key_of s ≡ key_of service → ⊥) → text_eq service s ≡ false
  other_text s differ = not_so (text_eq service s) (λ same. differ (ap key_of (sym (text_is service s same))))

  abbrev IsOtherText : List ℕ → Type 0
  IsOtherText s = key_of s ≡ key_of service → ⊥

  next_text : (s : List ℕ) (rest : List (List ℕ)) → IsOtherText s → any_of (text_eq service) (s ∷ rest) ≡ any_of (text_eq service) rest
  next_text s rest differ = rw (other_text s differ) refl

  module _ (items : List (List ℕ)) (key first end : ℕ) (k : key ≡ key_of service)
      (within : (i : ℕ) → i < length (map key_of items) → get_or (map key_of items) i 0 ≡ key → (first ≤ i) × (i < end)) where
    -- none before the first place is the service
    pub first_among : any_of (text_eq service) (drop first items) ≡ any_of (text_eq service) items
    first_among =
        skipped IsOtherText (any_of (text_eq service)) next_text items first end (named.others (λ (s : List ℕ). s) service items key first end k within)

    -- nor is one from the last place on
    pub last_among : (n : ℕ) → end ≤ n → any_of (text_eq service) (drop n items) ≡ false
    last_among n past =
        rest IsOtherText (any_of (text_eq service)) next_text items first end n (named.others (λ (s : List ℕ). s) service items key first end k within) past

  abbrev IsOtherRoute : List ℕ × ℕ → Type 0
  IsOtherRoute e = key_of e.0 ≡ key_of service → ⊥

  next_route : (e : List ℕ × ℕ) (rest : List (List ℕ × ℕ)) → IsOtherRoute e → server_in service (e ∷ rest) ≡ server_in service rest
  next_route e rest differ = rw (other_text e.0 differ) refl

  module _ (items : List (List ℕ × ℕ)) (key first end : ℕ) (k : key ≡ key_of service)
      (within : (i : ℕ) → i < length (route_keys items) → get_or (route_keys items) i 0 ≡ key → (first ≤ i) × (i < end)) where
    other_routes : (i : ℕ) → i < length items → (i < first) ⊎ (end ≤ i) → (e : List ℕ × ℕ) → IsOtherRoute (get_or items i e)
    other_routes = named.others (λ (e : List ℕ × ℕ). e.0) service items key first end k within

    -- no route before the first place is for the service
    pub first_route : server_in service (drop first items) ≡ server_in service items
    first_route = skipped IsOtherRoute (server_in service) next_route items first end other_routes

    -- nor is one from the last place on
    pub last_route : (n : ℕ) → end ≤ n → server_in service (drop n items) ≡ None
    last_route n past = rest IsOtherRoute (server_in service) next_route items first end n other_routes past
