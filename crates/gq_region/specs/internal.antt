pub mod Region_fields
