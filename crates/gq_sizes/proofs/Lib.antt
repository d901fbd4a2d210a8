pub mod Gifts_shown
pub mod Slot_costs
pub mod Saturated_cost_sums
pub mod Section_level_bound
pub mod Capability_need_rounds
pub mod Asked_level_sums
pub mod Least_gifts
pub mod Maximum_search
pub mod Provider_maximum_search
pub mod Number_table_rows
pub mod Eight_list_facts
pub mod Judged_leaf_subjects
pub mod Sized_texts
pub mod Printed_interfaces
pub mod Printed_short_opens
pub mod Least_leaves
pub mod Printed_size_nodes
pub mod Judgement_under_larger_gifts
pub mod Flow_under_larger_gifts
pub mod Program_under_larger_gifts
pub mod Statement_point_predicates
pub mod Level_sums_cover
pub mod Session_cost_comparison
pub mod Least_sizes_fit
pub mod Opens_give_enough
pub mod Equal_section_gifts
pub mod Faultless_without_quantities
pub mod Accepted_gifts_needs
pub mod Equal_route_targets
pub mod Equal_section_requests
pub mod Own_need_comparison
pub mod Costs_without_quantities
pub mod Levels_of_sections
pub mod Freed_scenarios
pub mod Session_needs_bounded
pub mod Accepted_opens_pay
pub mod Node_quanta_suffice
pub mod Accepted_sizes_suffice
pub mod Start_chain_quanta
pub mod Sized_program_points
pub mod Resolved_without_quantities
pub mod Sized_nodes
pub mod Sized_scenario_accepted
pub mod Judged_scenarios
pub mod Session_chains_end
pub mod Settled_capability_needs
pub mod Any_test_search
pub mod Session_chain_rounds
pub mod Least_sizes_printed
pub mod Judged_texts
mod Sized_rows
pub mod Leaves_endless
mod Compared_text_equality
mod Nodes_apart
mod Giving_right
mod Upgrades_apart
mod Just_asked_levels
mod First_endless_search
mod Least_number_rows
mod Donated_lists
