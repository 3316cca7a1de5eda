mod AnyLaws
mod ClientLaws
mod MemberLaws
mod ObserverLaws
mod ReplicaLaws
