-- Calls of `locate`: the checks with 11 where the text is lost; nothing that is read is refused, and nothing is counted or written.
use mathlib.Core.Path.{◌≡◌, refl, sym, ap, ◌∙◌}
use mathlib.Core.List.{[]}
use Rattle.grammar.specs.Bytes.{Bytes}
use Rattle.grammar.specs.Outcome.{passed}
use Rattle.grammar.specs.Claim.{LostAt}
use Rattle.grammar.specs.Answer as G
use Rattle.grammar.specs.Answer.{Reading, Written, located_text, nothing_written}
use Rattle.grammar.proofs.Logic.{impossible}
use Rattle.reader.specs.declared.Answer.{Answer}
use Rattle.reader.specs.Answered.{Locates}
use Rattle.reader.specs.Demands.{NoneOwn, RightPlace}
use Rattle.reader.proofs.Calls as Calls
use Rattle.reader.proofs.Calls.{Gives, Call, lost_checks}
use Rattle.reader.proofs.Settled as Settled

gives : Gives NoneOwn nothing_written
unfolding nothing_written
gives = record { judged = λ r n p. (λ h. impossible cc, λ o. absurd o); numbers = λ t n p o. absurd o }

none_counted : (r : Reading) (w : Written) → nothing_written r ≡ passed w → w.counted ≡ 0
unfolding nothing_written
none_counted r w h = let y : ◌≡◌ {A = Written} (record { counted = 0; contents = [] }) w = cc in sym (ap (λ v. v.counted) y)

module _ (text : Bytes) (a : Answer) (h : Locates text a) where
  call : Call LostAt NoneOwn nothing_written text [] [] a
  unfolding G.locate
  call = record { gives = gives; outcome = located_text text; checks = lost_checks text; result = h }

  pub answers : RightPlace text a
  answers =
      record {
        answers = Calls.answers call;
        held =
            λ z t i.
            let (r, e, w, g, c, b) = Calls.success-read call z in
            (c ∙ none_counted r w g, refl);
      }

-- Whatever else meets that is the same answer.
pub settled : (text : Bytes) (a b : Answer) → Locates text a → RightPlace text b → a ≡ b
settled text a b h g =
    (Settled.settled (answers text a h) g (λ t C C' c d x y. (x.0 ∙ sym y.0, x.1 ∙ sym y.1))).0
