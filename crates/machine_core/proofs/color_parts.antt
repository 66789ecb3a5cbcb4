pub mod EnlistLemmas
