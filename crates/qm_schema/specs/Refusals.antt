-- The numbers of refusals: their places in the list of all, from 1.
use Rattle.std.specs.Prelude.{ℕ}
use Rattle.qm_schema.specs.declared.error.QueryError.{QueryError}
use Rattle.qm_schema.specs.declared.error.QueryError.TheVariants.{TooFewTerms, EmptyPrefix, MixedFields, OffsetTooLarge, UnknownField, NotIndexed, NoPositions}
use Rattle.qm_schema.specs.declared.error.QueryError.TheVariants.{TieBreaker, ScoreBound, DoesNotMatch, NoSuchSegment, Provider, Memory, TooManyDocuments}
use Rattle.qm_schema.specs.declared.error.QueryError.TheVariants.{BadDocument, BadBlockLength, BadNorms, TooManySegments}

abbrev pub refusal_number : QueryError → ℕ
refusal_number TooFewTerms = 1
refusal_number EmptyPrefix = 2
refusal_number MixedFields = 3
refusal_number (OffsetTooLarge offset) = 4
refusal_number UnknownField = 5
refusal_number NotIndexed = 6
refusal_number NoPositions = 7
refusal_number TieBreaker = 8
refusal_number ScoreBound = 9
refusal_number (DoesNotMatch document) = 10
refusal_number (NoSuchSegment segment) = 11
refusal_number (Provider code) = 12
refusal_number Memory = 13
refusal_number TooManyDocuments = 14
refusal_number BadDocument = 15
refusal_number BadBlockLength = 16
refusal_number BadNorms = 17
refusal_number TooManySegments = 18
