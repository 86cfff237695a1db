pub mod Dependence
pub mod FlowLaws
pub mod FlowMeets
pub mod FlowRuns
pub mod FlowSites
pub mod FlowUnion
