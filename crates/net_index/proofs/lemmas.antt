pub mod LinkIndexes
pub mod RouteIndexes
