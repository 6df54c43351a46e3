pub mod GivenTerms
