mod Edges
mod Outlasting
