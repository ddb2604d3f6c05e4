-- Document 01, "Trees": the spans and the blocks of a text. Nothing here says how they are found.
use Rattle.std.specs.Prelude.{◌≡◌, List, ◌∷◌, ◌++◌, ℕ, suc, ◌+◌, length}
use Rattle.std.proofs.Math.Option.{Option, none, some}
use Rattle.grammar.specs.Token.{Token}
use Rattle.grammar.specs.Operator.{Table}
use Rattle.grammar.specs.Declaration.{Declaration, declare_all, start_table, all_tokens}
use Rattle.grammar.specs.Span.{Item, pair, scope, all_item_tokens, ItemsOf}

-- "A span is the whole text, the inside of a bracket pair, or a block's body": the number of its opener ("0, the `(`, or the `in`": none
-- for the whole text), the operators in force and its items.
pub record Span : Type 0 where
  pub opener : Option ℕ
  pub table : Table
  pub contents : List Item

-- The number of a span's first token.
abbrev pub start_of : Option ℕ → ℕ
start_of none = 0
start_of (some i) = suc i

-- The number of the token behind the items `xs` at the front of a span.
abbrev pub number_behind : Span → List Item → ℕ
number_behind s xs = start_of s.opener + length (all_item_tokens xs)

abbrev pub whole_span : List Item → Span
whole_span is = record { opener = none; table = start_table; contents = is }

-- The inside of the bracket pair, and the body of the block, that stands behind the items `xs`; its own items are `ks`.
-- "The body is read under the outer table with these changes; after `end` the outer table is back."
abbrev pub pair_span : Span → List Item → List Item → Span
pair_span s xs ks = record { opener = some (number_behind s xs); table = s.table; contents = ks }

abbrev pub body_span : Span → List Item → List Declaration → List Item → Span
body_span s xs ds ks =
    record { opener = some (suc (number_behind s xs + length (all_tokens ds))); table = declare_all s.table ds; contents = ks }

-- The spans in a span: it itself, and those in the bracket pairs and blocks among its items.
pub data SpanIn : Span → Span → Type 0 where
  itself : {s : Span} → SpanIn s s
  in_pair :
      {s r : Span} (xs : List Item) (us : List Token) (ys : List Item) (ks : List Item) → s.contents ≡ xs ++ pair us ∷ ys → ItemsOf us ks
      → SpanIn (pair_span s xs ks) r → SpanIn s r
  in_body :
      {s r : Span} (xs : List Item) (ds : List Declaration) (us : List Token) (ys : List Item) (ks : List Item)
      → s.contents ≡ xs ++ scope (all_tokens ds) us ∷ ys → ItemsOf us ks → SpanIn (body_span s xs ds ks) r → SpanIn s r

-- The spans of a text with the tokens `ts`.
abbrev pub SpanOf : List Token → Span → Type 0
SpanOf ts r = (is : List Item) × ItemsOf ts is × SpanIn (whole_span is) r

-- The blocks of a text: the operators in force where a block stands, the number of its `let`, and the tokens of its declaration part.
pub record BlockOf (ts : List Token) (T : Table) (i : ℕ) (ds : List Token) : Type 0 where
  pub span : Span
  pub among : SpanOf ts span
  pub before : List Item
  pub body : List Token
  pub after : List Item
  pub cut : span.contents ≡ before ++ scope ds body ∷ after
  pub table : T ≡ span.table
  pub number : i ≡ number_behind span before
