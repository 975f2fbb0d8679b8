pub mod ReplicaRows
pub mod StoringPages
pub mod ApplyingEntries
pub mod NewReplicas
pub mod GatheringCommits
pub mod TellingCommits
pub mod ChangingParts
