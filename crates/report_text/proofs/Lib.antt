pub mod CommasLemmas
