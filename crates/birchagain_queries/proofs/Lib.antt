mod TypedForms
mod Clauses
mod Words
