mod WorkedTrees
mod BestFound
mod Searched
mod PhraseFields
mod HeldTerms
