-- Where the `open` statements of a leaf lead.
use Rattle.std.proofs.Common.{◌≡◌, ℕ, zero, suc, ◌+◌, ◌<◌, Bool, true, false, cond, List, [], ◌∷◌, ◌++◌, length, get_or, Option, Some, None, IfSome, refl, ap}
use Rattle.std.proofs.Common.{sym, subst, ◌∙◌, arith, option_map, below_more}
use Rattle.std.specs.Prelude.{slice_get}
use Rattle.std.proofs.lemmas.Option.{slice_get-map, slice_get_within}
use Rattle.gq_model.specs.declared.program.Instruction.{Instruction}
use Rattle.gq_model.specs.declared.program.Instruction.TheVariants.{Open}
use Rattle.gq_model.specs.machine.Lists.{any_of}
use Rattle.gq_model.specs.machine.Program.{text_eq}
use Rattle.gq_model.specs.machine.Routes.{server_of}
use Rattle.gq_model.specs.machine.Scenario.{Component, Interface, Interfaces, Scenario, components, interface_in, open_caps, system}
use Rattle.gq_model.specs.rules.Use.{services}
use Rattle.gq_model.proofs.Small_facts.{none_some, some_same, text_is}
use Rattle.gq_bytecode.specs.Programs.{IsCodeOfProgram, ProgramCode}
use Rattle.gq_resolve.specs.NodeTables.{interface_number, leaf_row, leaf_rows, opened_server}
use Rattle.gq_resolve.proofs.Node_table_rows.{row_at}
use Rattle.gq_laws.specs.Ready.{IsReady}
use Rattle.gq_prepared.specs.Prepared.{AreOpenings, names_of}
use Rattle.gq_prepared.specs.internal.Open_targets.{IsOpened, IsOpenedBy, IsServed}
use Rattle.gq_prepared.specs.declared.openings.Opening.{Opening}
use Rattle.gq_prepared.proofs.Interfaces_by_name.{entry_at, name_at}
use Rattle.gq_prepared.proofs.Opened_code_services.{IsStatedLaw, opened}

-- BY NUMBERS

-- where a service stands among interfaces, the first of which has the number k
pub record IsFound (k : ℕ) (service : List ℕ) (interfaces : Interfaces) (n : ℕ) : Type 0 where
  pub at : ℕ
  pub is : n ≡ k + at
  pub entry : List ℕ × Interface
  pub there : slice_get interfaces at ≡ Some entry
  pub name : service ≡ entry.0
  pub interface : interface_in service interfaces ≡ Some entry.1

found_here : (b : Bool) (k : ℕ) (service : List ℕ) (e : List ℕ × Interface) (rest : Interfaces) (n : ℕ) → text_eq service e.0 ≡ b
    → cond b (Some k) (interface_number (suc k) service rest) ≡ Some n → (interface_number (suc k) service rest ≡ Some n → IsFound (suc k) service rest n)
    → IsFound k service (e ∷ rest) n
found_here true k service e rest n t f later =
    record {
      at = 0;
      is = sym (some_same f) ∙ (omega arith);
      entry = e;
      there = refl;
      name = text_is service e.0 t;
      interface = ap (λ b. cond b (Some e.1) (interface_in service rest)) t;
    }
found_here false k service e rest n t f later =
    let r = later f in
    let is = r.is in
    record {
      at = suc r.at;
      is = omega (arith, is);
      entry = r.entry;
      there = r.there;
      name = r.name;
      interface = ap (λ b. cond b (Some e.1) (interface_in service rest)) t ∙ r.interface;
    }

pub number_found : (k : ℕ) (service : List ℕ) (interfaces : Interfaces) (n : ℕ) → interface_number k service interfaces ≡ Some n
    → IsFound k service interfaces n
number_found k service [] n e = absurd (none_some e)
number_found k service (d ∷ rest) n e = found_here (text_eq service d.0) k service d rest n refl e (number_found (suc k) service rest n)

missing_here : (b : Bool) (k : ℕ) (service : List ℕ) (e : List ℕ × Interface) (rest : Interfaces)
    → cond b (Some k) (interface_number (suc k) service rest) ≡ None → (interface_number (suc k) service rest ≡ None → interface_in service rest ≡ None)
    → cond b (Some e.1) (interface_in service rest) ≡ None
missing_here true k service e rest f later = absurd (none_some (sym f))
missing_here false k service e rest f later = later f

pub number_missing : (k : ℕ) (service : List ℕ) (interfaces : Interfaces) → interface_number k service interfaces ≡ None
    → interface_in service interfaces ≡ None
number_missing k service [] e = refl
number_missing k service (d ∷ rest) e = missing_here (text_eq service d.0) k service d rest e (number_missing (suc k) service rest)

-- SERVERS

if_some : {A : Type 0} (o : Option A) (P : A → Type 0) → ((a : A) → o ≡ Some a → P a) → IfSome o P
if_some None P h = tt
if_some (Some a) P h = h a refl

some_if : {A : Type 0} (o : Option A) (P : A → Type 0) (a : A) → o ≡ Some a → IfSome o P → P a
some_if {A} o P a e h = subst (λ (p : Option A). IfSome p P) e h

-- the server in the row of a leaf
pub served_row : (s : Scenario) (leaf number : ℕ) (server : Option ℕ) → leaf < length (components s) → number < length s.interfaces
    → IfSome (slice_get (leaf_rows s) leaf) (λ r. IfSome (slice_get r.servers number) (λ it. server ≡ it))
    → IfSome (slice_get (components s) leaf) (λ c. IsServed s c number server)
served_row s leaf number server less within reported =
    let row = row_at s leaf less in
    let e = entry_at s.interfaces number within in
    let c = row.component in
    let servers : slice_get (leaf_row s row.place c).servers number ≡ Some (opened_server (system s) c e.0.0) =
    slice_get-map (λ (d : List ℕ × Interface). opened_server (system s) c d.0) s.interfaces number
    ∙ ap (option_map (λ (d : List ℕ × Interface). opened_server (system s) c d.0)) e.1 in
    let here : IfSome (slice_get (leaf_row s row.place c).servers number) (λ it. server ≡ it) =
    some_if (slice_get (leaf_rows s) leaf) (λ r. IfSome (slice_get r.servers number) (λ it. server ≡ it)) (leaf_row s row.place c) row.row reported in
    let is : server ≡ opened_server (system s) c e.0.0 =
    some_if (slice_get (leaf_row s row.place c).servers number) (λ it. server ≡ it) (opened_server (system s) c e.0.0) servers here in
    subst (λ (o : Option Component). IfSome o (λ d. IsServed s d number server)) (sym row.there)
    (is ∙ ap (opened_server (system s) c) (sym (name_at s.interfaces number e.0 e.1)))

-- that a service which is routed has an interface
abbrev pub IsDeclaredLaw : Type 0
IsDeclaredLaw =
    (s : Scenario) (x y : ℕ) (c : Component) (service : List ℕ) → IsReady s → slice_get (components s) x ≡ Some c
    → server_of (system s) c service ≡ Some y → (i : Interface) × (interface_in service s.interfaces ≡ Some i)

unserved : (o : Option ℕ) (found : Option Interface) → found ≡ None → ((y : ℕ) → o ≡ Some y → (i : Interface) × (found ≡ Some i)) → o ≡ None
unserved None found e h = refl
unserved (Some y) found e h = let i = h y refl in absurd (none_some (sym e ∙ i.1))

not_opened : (b : Bool) (o : Option ℕ) → o ≡ None → cond b o None ≡ None
not_opened true o e = e
not_opened false o e = refl

-- a service without interface leads nowhere
pub opened_nowhere : IsDeclaredLaw → (s : Scenario) (x : ℕ) (name : List ℕ) (o : Opening) → IsReady s → interface_number 0 name s.interfaces ≡ None
    → o ≡ record { service = 0; server = None; caps = 0 } → IfSome (slice_get (components s) x) (λ c. IsOpened s c name o)
opened_nowhere law s x name o ready missing is =
    let none = number_missing 0 name s.interfaces missing in
    let server : o.server ≡ None = ap (λ (p : Opening). p.server) is in
    if_some (slice_get (components s) x) (λ c. IsOpened s c name o) (λ c there. record {
      server = not_opened (any_of (text_eq name) (services c)) (server_of (system s) c name)
          (unserved (server_of (system s) c name) (interface_in name s.interfaces) none (λ y e. law s x y c name ready there e)) ∙ sym server;
      service = λ y e. absurd (none_some (sym server ∙ e));
      caps = ap (λ (p : Opening). p.caps) is ∙ ap open_caps (sym none);
    })

-- one with an interface leads to its server
pub opened_there : (s : Scenario) (x number caps : ℕ) (name : List ℕ) (server : Option ℕ) (e : List ℕ × Interface)
    → interface_number 0 name s.interfaces ≡ Some number → slice_get s.interfaces number ≡ Some e → caps ≡ e.1.need.caps
    → IfSome (slice_get (components s) x) (λ c. IsServed s c number server)
    → IfSome (slice_get (components s) x) (λ c. IsOpened s c name (record { service = number; server = server; caps = caps }))
opened_there s x number caps name server e found there given served =
    let f = number_found 0 name s.interfaces number found in
    let at : f.at ≡ number = sym (f.is ∙ omega arith) in
    let same : f.entry ≡ e = some_same (sym f.there ∙ (ap (slice_get s.interfaces) at ∙ there)) in
    let named : get_or (names_of s) number [] ≡ name = name_at s.interfaces number e there ∙ (ap (λ (d : List ℕ × Interface). d.0) (sym same) ∙ sym f.name) in
    if_some (slice_get (components s) x) (λ c. IsOpened s c name (record { service = number; server = server; caps = caps })) (λ c here. record {
      server = ap (opened_server (system s) c) (sym named) ∙ sym (some_if (slice_get (components s) x) (λ d. IsServed s d number server) c here served);
      service = λ y h. (slice_get_within s.interfaces number e there, named);
      caps = given ∙ (ap (λ (d : List ℕ × Interface). d.1.need.caps) (sym same) ∙ ap open_caps (sym f.interface));
    })

pub within_found : (service : List ℕ) (interfaces : Interfaces) (n : ℕ) → interface_number 0 service interfaces ≡ Some n → n < length interfaces
within_found service interfaces n e =
    let f = number_found 0 service interfaces n e in
    let is = f.is in
    let less = slice_get_within interfaces f.at f.entry f.there in omega (arith, is, less)

-- ALL STATEMENTS

-- the first statements have their openings
abbrev pub LedSoFar : Scenario → ℕ → List Instruction → List Opening → ℕ → Type 0
LedSoFar s x longs os i =
    (k : ℕ) (statement : Instruction) → k < i → slice_get longs k ≡ Some statement
    → (o : Opening) × (slice_get os k ≡ Some o) × IfSome (slice_get (components s) x) (λ c. IsOpenedBy s c statement o)

get_prefix : (os : List Opening) (o : Opening) (k : ℕ) (p : Opening) → slice_get os k ≡ Some p → slice_get (os ++ o ∷ []) k ≡ Some p
get_prefix [] o k p e = absurd (none_some e)
get_prefix (q ∷ os) o zero p e = e
get_prefix (q ∷ os) o (suc k) p e = get_prefix os o k p e

get_last : (os : List Opening) (o : Opening) → slice_get (os ++ o ∷ []) (length os) ≡ Some o
get_last [] o = refl
get_last (q ∷ os) o = get_last os o

-- one statement more
pub one_led : (s : Scenario) (x : ℕ) (longs : List Instruction) (old new : List Opening) (o : Opening) (i : ℕ) (statement : Instruction) → new ≡ old ++ o ∷ []
    → length old ≡ i → slice_get longs i ≡ Some statement → IfSome (slice_get (components s) x) (λ c. IsOpenedBy s c statement o)
    → LedSoFar s x longs old i → LedSoFar s x longs new (i + 1)
one_led s x longs old new o i statement grown long here is sofar k other less there = below_more P i before last k less other there
  where
    P : ℕ → Type 0
    P k = (other : Instruction) → slice_get longs k ≡ Some other
        → (p : Opening) × (slice_get new k ≡ Some p) × IfSome (slice_get (components s) x) (λ c. IsOpenedBy s c other p)

    before : (k : ℕ) → k < i → P k
    before k less other there =
        let p = sofar k other less there in (p.0, ap (λ l. slice_get l k) grown ∙ get_prefix old o k p.0 p.1, p.2)

    last : P i
    last other there =
        let same : statement ≡ other = some_same (sym here ∙ there) in (
          o,
          ap (λ l. slice_get l i) grown ∙ (ap (λ m. slice_get (old ++ o ∷ []) m) (sym long) ∙ get_last old o),
          subst (λ (z : Instruction). IfSome (slice_get (components s) x) (λ c. IsOpenedBy s c z o)) same is,
        )

-- with all of them, each `open` of the program has its opening
pub all_led : IsStatedLaw → (s : Scenario) (x : ℕ) (code : ProgramCode) (os : List Opening)
    → IfSome (slice_get (components s) x) (λ c. IsCodeOfProgram code c.node.program.sections) → LedSoFar s x code.longs os (length code.longs)
    → IfSome (slice_get (components s) x) (λ c. AreOpenings s c code os)
all_led law s x code os is led =
    if_some (slice_get (components s) x) (λ c. AreOpenings s c code os) (λ c here section ops body p number place name n found has stands long.
    let l = led number (Open place name n) (slice_get_within code.longs number (Open place name n) long) long in
    let o = l.0 in
    let opens : IsOpened s c name o = some_if (slice_get (components s) x) (λ d. IsOpenedBy s d (Open place name n) o) c here l.2 in
    let among : any_of (text_eq name) (services c) ≡ true =
    opened law c code (some_if (slice_get (components s) x) (λ d. IsCodeOfProgram code d.node.program.sections) c here is) section ops body p number place
    name n found has stands long in (
      o,
      l.1,
      record {
        server = sym (ap (λ b. cond b (server_of (system s) c name) None) among) ∙ opens.server;
        service = opens.service;
        caps = opens.caps;
      },
    ))
