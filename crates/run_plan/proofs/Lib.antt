mod SiteLemmas
mod PlanLemmas
mod ToldLemmas
mod ProgramLemmas
