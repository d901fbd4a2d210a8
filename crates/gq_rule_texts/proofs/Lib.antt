pub mod First_rule_found
pub mod Rule_text_parts
