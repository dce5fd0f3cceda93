pub mod GaveWay
mod Walks
