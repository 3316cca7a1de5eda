pub mod CalmEvents
