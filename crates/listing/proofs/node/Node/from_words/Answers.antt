-- The kind has the word of its number, and each other field is its word.
use mathlib.Core.Path.{refl}
use Rattle.listing.proofs.NodeText.{decoded_word}
use Rattle.listing.proofs.node.Node.from_words.Goals as goal

pub returns : goal.returns
returns c = record {
  kind = rw c.ok.ensures.value (decoded_word _ c.try_from.result c.try_from.ensures);
  first = refl;
  second = refl;
  offset = refl;
  length = refl;
  precedence = refl;
}
