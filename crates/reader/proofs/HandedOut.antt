-- What is handed out of what the front answers keeps the promise of each service.
use mathlib.Core.Path.{◌≡◌, refl, ◌∙◌}
use mathlib.Core.List.{List, []}
use Prim.Native.Nat.{ℕ}
use Rattle.grammar.specs.Bytes.{Bytes}
use Rattle.serving.specs.Serving as S
use Rattle.serving.specs.Serving.{lent, leaves, Serves}
use Rattle.std.specs.Prelude.{Ok, Err}
use Rattle.std.specs.declared.result.Result.{Result}
use Rattle.refusals.specs.declared.Refused.{Refused}
use Rattle.serving.specs.declared.Service.TheVariants.{Read, Canonicalize, Locate}
use Rattle.reader.specs.declared.Answer.{Answer}
use Rattle.reader.specs.Answered.{answer_from, result_of, Reads, Canonicalizes, Locates}

-- Each number is handed on.
handed : (s : Result ℕ Refused) (B : List ℕ) → result_of (answer_from s) B ≡ S.result_of s B
unfolding answer_from result_of S.result_of
handed (Ok c) B = refl
handed (Err e) B = refl

module _ {text : Bytes} {N N' B B' : List ℕ} {s : Result ℕ Refused} {a : Answer} (e : a ≡ answer_from s) where
  pub read_handed_out : Serves Read text N N' B B' s → Reads text N N' a
  unfolding lent leaves
  read_handed_out h = rw e (handed s N' ∙ h.own)

  pub canonicalize_handed_out : Serves Canonicalize text N N' B B' s → Canonicalizes text B B' a
  unfolding lent leaves
  canonicalize_handed_out h = rw e (handed s B' ∙ h.own)

  pub locate_handed_out : Serves Locate text N N' B B' s → Locates text a
  unfolding lent leaves
  locate_handed_out h = rw e (handed s [] ∙ h.own)
