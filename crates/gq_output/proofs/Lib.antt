pub mod Written_byte_facts
