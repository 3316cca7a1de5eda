pub mod BodyLaws
pub mod KeyLaws
pub mod NameParts
pub mod PlanLaws
pub mod PlanSizes
pub mod ValueLaws
