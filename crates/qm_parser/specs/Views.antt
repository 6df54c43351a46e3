-- What the trees and the tokens of the program stand for in the language.
use Rattle.std.specs.Prelude.{string_bytes}
use Rattle.std.specs.Box.{box_value}
use Rattle.qm_parser.specs.Pieces.{Piece, and_piece, close_piece, leaf_piece, name_piece, open_piece, or_piece, sign_piece}
use Rattle.qm_parser.specs.Query.{Leaf, Query, all, beginning, boolean, boost, clauses_of, empty, field, leaf, phrase, phrase_beginning, word}
use Rattle.qm_parser.specs.Tokens.{Token}
use Rattle.qm_parser.specs.declared.parsed_query.ParsedLeaf.{ParsedLeaf}
use Rattle.qm_parser.specs.declared.parsed_query.ParsedLeaf.TheVariants as parsed_leaf
use Rattle.qm_parser.specs.declared.parsed_query.ParsedQuery.{ParsedQuery}
use Rattle.qm_parser.specs.declared.parsed_query.ParsedQuery.TheFolds.{fold-ParsedQuery}
use Rattle.qm_parser.specs.declared.parsed_query.ParsedQuery.TheOpen.{ParsedQuery-F}
use Rattle.qm_parser.specs.declared.parsed_query.ParsedQuery.TheOpen as open_query
use Rattle.qm_parser.specs.declared.parsed_query.Sign.{Sign}
use Rattle.qm_parser.specs.declared.token.ReadPiece.{ReadPiece}
use Rattle.qm_parser.specs.declared.token.ReadPiece.TheVariants as read_piece
use Rattle.qm_parser.specs.declared.token.ReadToken.{ReadToken}

-- a word, a phrase or all documents
abbrev pub leaf_of : ParsedLeaf → Leaf
leaf_of parsed_leaf.All = all
leaf_of (parsed_leaf.Word w) = word (string_bytes w)
leaf_of (parsed_leaf.Prefix w) = beginning (string_bytes w)
leaf_of (parsed_leaf.Phrase text slop) = phrase (string_bytes text) slop
leaf_of (parsed_leaf.PhrasePrefix text) = phrase_beginning (string_bytes text)

-- a query, where each query inside is known
abbrev pub layer_of : ParsedQuery-F Query → Query
layer_of open_query.Empty = empty
layer_of (open_query.Leaf l) = leaf (leaf_of l)
layer_of (open_query.Field name q) = field (string_bytes name) (box_value q)
layer_of (open_query.Boost factor q) = boost factor (box_value q)
layer_of (open_query.Boolean clauses) = boolean (clauses_of clauses.items)

-- a tree
abbrev pub query_of : ParsedQuery → Query
query_of = fold-ParsedQuery Query layer_of

-- a clause
abbrev pub clause_of : Sign × ParsedQuery → Sign × Query
clause_of c = (c.0, query_of c.1)

-- a token
abbrev pub piece_of : ReadPiece → Piece
piece_of (read_piece.Leaf l factor) = leaf_piece (leaf_of l) factor
piece_of (read_piece.Name name) = name_piece (string_bytes name)
piece_of (read_piece.Sign sign) = sign_piece sign
piece_of read_piece.And = and_piece
piece_of read_piece.Or = or_piece
piece_of read_piece.Open = open_piece
piece_of (read_piece.Close factor) = close_piece factor

-- a token and its place
abbrev pub token_of : ReadToken → Token
token_of t = record { piece = piece_of t.piece; place = t.place }
