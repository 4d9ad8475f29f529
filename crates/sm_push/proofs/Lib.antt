mod HeadLemmas
pub mod Fronts
pub mod Stable
pub mod Walking
pub mod Steps
mod Counts
mod HeaderLemmas
mod HeaderValid
mod Boxes
mod Splits
pub mod Limits
mod Valid
mod MoofLemmas
mod WrittenHeader
pub mod RuleHeads
mod RuleSteps
pub mod RuleBodies
mod Joined
mod HeaderApart
