-- what is taken for granted of scenarios, and the worlds that they come to
pub mod Names
pub mod Resolved_scenarios
pub mod Sound_scenarios
pub mod Reached_worlds
-- what holds of turns and worlds, whatever the rules of the verifier say
pub mod Turn_effects
pub mod Shapes
pub mod Session_links
-- where leaves stand by the rules of the verifier, and what statements, requests and replies do then
pub mod Current_section_facts
pub mod Typed
pub mod Moves
pub mod Inside_steps
pub mod Asking
pub mod Section_rules
pub mod Reply_stances
pub mod Typing
-- what stands in each world of a scenario that is accepted
pub mod Stands
-- which scenarios can be run, accepted or not
pub mod Ready
-- room for replies
pub mod Room
-- in which phases leaves can be
pub mod Leaf_phases
-- how work goes on, and ends
pub mod Progress
-- what follows signals from a world at rest on
pub mod Reactions
-- groups that are apart: no turn of the rest changes anything of them
pub mod Separation
-- what is seen of a group, and its turns alone
pub mod Group_alone
-- what a world has, with other numbers of sessions
pub mod Renamed
-- what only proofs and invariants speak of
pub mod internal
