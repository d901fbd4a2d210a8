-- Services that inits offer: where they lead, which offers are refused, and a run through two of them, by computation.
use Rattle.std.proofs.Common.{◌++◌, ◌≡◌, ℕ, List, [], ◌∷◌, refl}
use Rattle.std.specs.Prelude.{codes}
use Rattle.std.specs.Fmt.{digits}
use Rattle.gq_model.specs.machine.Accounts.{whole}
use Rattle.gq_model.specs.machine.Run.{Turns}
use Rattle.gq_model.specs.machine.Scenario.{Scenario, InitNode, Nodes, End, Init_node}
use Rattle.gq_model.specs.machine.Routes.{To, No_route, Ambiguous, Provides_differs, child_named, providers, only}
use Rattle.gq_model.specs.rules.Accept.{refusal}
use Rattle.gq_model.specs.texts.Fault_texts.{said_of}
use Rattle.gq_model.proofs.Sample_scenarios.{leaves, init_node, served, echo, echo_server, echo_client, echo_turns, hello_leaf, started}

-- an init with so many bytes that offers the echo of a child
abbrev offering : List ℕ → ℕ → List ℕ → InitNode
offering name ram child = record (init_node name ram) { offers = (codes "echo", child) ∷ [] }

-- the server below two inits, of which each offers its echo
abbrev drivers : Nodes → Nodes
drivers rest =
    Init_node (offering (codes "drivers") 16384 (codes "inner")) (Init_node (offering (codes "inner") 8192 (codes "srv")) (leaves (echo_server ∷ [])) End) rest

abbrev echo_offered : Scenario
echo_offered = served ((codes "echo", echo) ∷ []) (drivers (leaves (echo_client (codes "cli") 16384 8192 21 ∷ [])))

-- the server behind a child is the leaf, through both
leads_through_both : child_named (codes "drivers") (codes "echo") (drivers End) ≡ To (codes "srv")
leads_through_both = refl

any_child_leads_through_both : only (providers (codes "echo") (drivers End)) ≡ To (codes "srv")
any_child_leads_through_both = refl

-- an init that offers something else does not serve it
another_service : child_named (codes "drivers") (codes "log") (drivers End) ≡ Provides_differs
another_service = refl

nobody_serves : only (providers (codes "log") (drivers End)) ≡ No_route
nobody_serves = refl

-- a leaf and an init that serve the same are two
two_serve : only (providers (codes "echo") (drivers (leaves (echo_server ∷ [])))) ≡ Ambiguous
two_serve = refl

accepted : said_of (refusal echo_offered) ≡ []
unfolding digits
accepted = refl

-- an offer leads to a child: not to an init's own name, nor to a grandchild
abbrev offered_by : InitNode → Scenario
offered_by node = served ((codes "echo", echo) ∷ []) (Init_node node (leaves (echo_server ∷ hello_leaf ∷ [])) End)

itself_offered : said_of (refusal (offered_by (offering (codes "drivers") 8192 (codes "drivers")))) ≡ codes "S15 BadOffer drivers"
unfolding digits
itself_offered = refl

grandchild_offered : said_of (refusal (served ((codes "echo", echo) ∷ []) (Init_node (offering (codes "drivers") 16384 (codes "srv"))
    (Init_node (offering (codes "inner") 8192 (codes "srv")) (leaves (echo_server ∷ [])) End) End))) ≡ codes "S15 BadOffer drivers"
unfolding digits
grandchild_offered = refl

-- the child has to serve it
no_server_offered : said_of (refusal (offered_by (offering (codes "drivers") 8192 (codes "hello")))) ≡ codes "S15 BadOffer drivers"
unfolding digits
no_server_offered = refl

-- there has to be an interface
undeclared : said_of (refusal (served [] (Init_node (offering (codes "drivers") 8192 (codes "srv")) (leaves (hello_leaf ∷ [])) End)))
    ≡ codes "S15 BadOffer drivers"
unfolding digits
undeclared = refl

-- the first init in preorder is the one that is reported
outer_before_inner : said_of (refusal (served ((codes "echo", echo) ∷ []) (Init_node (offering (codes "drivers") 16384 (codes "srv"))
    (Init_node (offering (codes "inner") 8192 (codes "hello")) (leaves (echo_server ∷ [])) End) End))) ≡ codes "S15 BadOffer drivers"
unfolding digits
outer_before_inner = refl

-- the donation goes down to the server through both inits, which keep nothing, and returns whole
offered_opened : whole echo_offered (started (9 ∷ 6 ∷ [])) ((0, Turns 1) ∷ (1, Turns 1) ∷ [])
    ≡ (codes "account init quota 32768\naccount init -> drivers quota 8192\naccount init -> drivers -> inner quota 4096\n"
    ++ codes "account init -> drivers -> inner -> srv quota 12288 used 0 steps 1/9 serving\naccount init -> cli quota 8192 used 0 steps 1/6 blocked\n")
unfolding digits
offered_opened = refl

offered_run : whole echo_offered (started (9 ∷ 6 ∷ [])) echo_turns
    ≡ (codes "[init -> cli] 42\naccount init quota 49152\naccount init -> drivers quota 8192\naccount init -> drivers -> inner quota 4096\n"
    ++ codes "account init -> drivers -> inner -> srv quota 4096 used 0 steps 9/9 serving\naccount init -> cli quota 0 used 0 steps 6/6 exited\n")
unfolding digits
offered_run = refl
