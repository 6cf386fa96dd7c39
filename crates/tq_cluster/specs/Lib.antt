pub mod Cluster
pub mod Told
pub mod Rounds
pub mod Clients
pub mod Rule
