mod CallRuns
mod Outcomes
mod PlanExamples
mod Programs
mod SavingExamples
mod StoreRuns
