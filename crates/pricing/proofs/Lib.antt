pub mod Costs
pub mod Trials
pub mod PlainSums
pub mod Centroids
pub mod AddedUp
pub mod CentroidPrices
pub mod OnePrice
