pub mod ReplicaValues
