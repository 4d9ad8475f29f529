mod Facts
mod RowLemmas
