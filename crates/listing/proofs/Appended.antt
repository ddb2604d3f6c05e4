-- Bytes that a writer was given one part after another, bytes that are known by an equation, and bytes that waited and were sent.
use Rattle.std.proofs.Common.{◌≡◌, List, ℕ, [], ◌++◌, None, Some, Ok, Err, IsOk, OnOk, Result, subst, ap, ◌∙◌, append-nil}
use Rattle.std.specs.declared.option.Option.{Option}
use Rattle.std.specs.Io.KnownBytes.{Appends, append_known}
use Rattle.std.proofs.KnownBytes.{Appends-trans}

pub appended_same : (old new : Option (List ℕ)) {p q : List ℕ} → p ≡ q → Appends old new p → Appends old new q
appended_same old new e h = subst (λ (x : List ℕ). Appends old new x) e h

module _ {A E : Type 0} where
  pub ok_same
      : (r : Result A E) (old new : Option (List ℕ)) {p q : List ℕ} → p ≡ q → OnOk r (Appends old new p) → OnOk r (Appends old new q)
  ok_same r old new e h = subst (λ (x : List ℕ). OnOk r (Appends old new x)) e h

  pub ok_then
      : (r : Result A E) (a b c : Option (List ℕ)) (p q : List ℕ) → Appends a b p → OnOk r (Appends b c q) → OnOk r (Appends a c (p ++ q))
  ok_then (Ok x) a b c p q g h = Appends-trans a b c p q g h
  ok_then (Err x) a b c p q g h = tt

-- Nothing waited at first, and a writer's bytes, with those that wait behind them, grew by `p`. Where what waits is sent, the writer's own
-- bytes have grown by `p`.
pub appended-sent
    : (a b c : Option (List ℕ)) (first last p : List ℕ) → first ≡ [] → Appends (append_known a first) (append_known b last) p → Appends b c last
    → Appends a c p
appended-sent None b c first last p e g h = tt
appended-sent (Some x) None c first last p e g h = absurd g
appended-sent (Some x) (Some y) None first last p e g h = absurd h
appended-sent (Some x) (Some y) (Some z) first last p e g h =
    h ∙ g ∙ ap (λ (l : List ℕ). (x ++ l) ++ p) e ∙ ap (λ (l : List ℕ). l ++ p) (append-nil x)

pub at_ok : {A E P : Type 0} (r : Result A E) → IsOk r → OnOk r P → P
at_ok (Ok x) is h = h
at_ok (Err x) is h = absurd (cc)
