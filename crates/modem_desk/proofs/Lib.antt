pub mod queue_rule
pub mod desk_places
