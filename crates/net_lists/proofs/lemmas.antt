pub mod LinkLists
pub mod Counting
pub mod RouteLists
pub mod NoRoutes
pub mod Going
