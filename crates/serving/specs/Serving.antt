-- What a service leaves of a text: by document 01's answer and the definition of the service.
use Rattle.std.specs.Prelude.{◌≡◌, List, [], ℕ, Ok, Err}
use Rattle.grammar.specs.Bytes.{Bytes}
use Rattle.grammar.specs.Answer as G
use Rattle.std.specs.declared.result.Result.{Result}
use Rattle.refusals.specs.declared.Refused.{Refused}
use Rattle.refusals.specs.Numbers.{number_of, IsRefused}
use Rattle.checks.specs.declared.Unread.{Unread}
use Rattle.checks.specs.declared.Unread.TheVariants as Why
use Rattle.serving.specs.declared.Service.{Service}
use Rattle.serving.specs.declared.Service.TheVariants.{Read, Canonicalize, Locate}

-- "The answer is (number, place, count)." "Read: 0, 0, nodes or bytes written." "Refused: count 0".
abbrev pub answer_of : Result ℕ Refused → G.Answer
answer_of (Ok c) = record { number = 0; offset = 0; count = c }
answer_of (Err e) = record { number = number_of e.refusal; offset = e.at; count = 0 }

-- With the contents of the lent buffer afterwards.
unfoldable pub result_of : Result ℕ Refused → List ℕ → G.Result
result_of s buffer = record { answer = answer_of s; buffer = buffer }

-- Reading: the text, the node table before and after, the answer. Canonicalizing: the same with a buffer.
abbrev pub Reads : Bytes → List ℕ → List ℕ → Result ℕ Refused → Type 0
Reads text table table' s = result_of s table' ≡ G.read text table

abbrev pub Canonicalizes : Bytes → List ℕ → List ℕ → Result ℕ Refused → Type 0
Canonicalizes text buffer buffer' s = result_of s buffer' ≡ G.canonicalize text buffer

-- The place of 11 for each service: that of the span without a tree, or that at which it is lost.
unfoldable pub treeless_place : Service → ℕ → ℕ → ℕ
treeless_place Read span lost = span
treeless_place Canonicalize span lost = span
treeless_place Locate span lost = lost

-- The refusal that a service gives of a text that is not read.
abbrev pub RefusesFor : Service → Unread → Refused → Type 0
RefusesFor service (Why.Refused r at) e = IsRefused (number_of r) at e
RefusesFor service (Why.NoTree span lost) e = IsRefused 11 (treeless_place service span lost) e

-- What a service is lent, of a node table and a buffer, and what it leaves.
unfoldable pub lent : Service → List ℕ → List ℕ → List ℕ
lent Read table buffer = table
lent Canonicalize table buffer = buffer
lent Locate table buffer = []

unfoldable pub leaves : Service → Bytes → List ℕ → List ℕ → G.Result
leaves Read text table buffer = G.read text table
leaves Canonicalize text table buffer = G.canonicalize text buffer
leaves Locate text table buffer = G.locate text

-- A service leaves that, and what it is not lent as it was.
pub record Serves (service : Service) (text : Bytes) (table table' buffer buffer' : List ℕ) (s : Result ℕ Refused) : Type 0 where
  pub own : result_of s (lent service table' buffer') ≡ leaves service text table buffer
  pub same_table : (service ≡ Read → ⊥) → table' ≡ table
  pub same_buffer : (service ≡ Canonicalize → ⊥) → buffer' ≡ buffer
