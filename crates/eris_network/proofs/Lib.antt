mod AddLaws
mod CountedLaws
mod KeptLaws
mod LimitLaws
mod NetworkLaws
mod WaitingLaws
