-- The lemmas of amqp_recut.
pub mod Cutting
pub mod Gathering
pub mod Piecing
pub mod Stepping
pub mod Running
pub mod Writing
pub mod LawsChannels
pub mod LawsPieces
pub mod LawsUnits
pub mod LawsOnce
pub mod LawsAgain
