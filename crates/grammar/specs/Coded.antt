-- Kinds of tokens and fixities as numbers, as the code holds them.
use Rattle.std.specs.Prelude.{true, false, ℕ, eqb}
use Rattle.grammar.specs.Bytes.{Bytes}
use Rattle.grammar.specs.Token.{symbol, number, quoted, opening, closing, semicolon, keyword_let, keyword_in, keyword_end}
use Rattle.grammar.specs.Token.{Token, atom, structure, structure_number, undoubled}
use Rattle.grammar.specs.Operator.{Fixity, Prefix, Infix, Postfix}

-- The number of a token's kind.
unfoldable pub kind_of : Token → ℕ
kind_of (atom (symbol w)) = 1
kind_of (atom (number d)) = 2
kind_of (atom (quoted c)) = 3
kind_of (structure s) = structure_number s

-- The token of a kind with these bytes, as written.
unfoldable pub token_of : ℕ → Bytes → Token
token_of kind w =
    elim (eqb kind 1) [
      | true ↦ atom (symbol w)
      | false ↦
          elim (eqb kind 2) [
            | true ↦ atom (number w)
            | false ↦
                elim (eqb kind 3) [
                  | true ↦ atom (quoted (undoubled w))
                  | false ↦
                      elim (eqb kind 4) [
                        | true ↦ structure opening
                        | false ↦
                            elim (eqb kind 5) [
                              | true ↦ structure closing
                              | false ↦
                                  elim (eqb kind 6) [
                                    | true ↦ structure semicolon
                                    | false ↦
                                        elim (eqb kind 7) [
                                          | true ↦ structure keyword_let
                                          | false ↦
                                              elim (eqb kind 8) [ true ↦ structure keyword_in | false ↦ structure keyword_end ]
                                        ]
                                  ]
                            ]
                      ]
                ]
          ]
    ]

-- Fixities as numbers: 1 infix, 2 prefix, 3 (or any other) postfix.
unfoldable pub fixity_code : Fixity → ℕ
fixity_code Infix = 1
fixity_code Prefix = 2
fixity_code Postfix = 3

unfoldable pub fixity_of : ℕ → Fixity
fixity_of f = elim (eqb f 1) [ true ↦ Infix | false ↦ elim (eqb f 2) [ true ↦ Prefix | false ↦ Postfix ] ]
