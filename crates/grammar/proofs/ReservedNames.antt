-- Which operators are reserved matters to a text only through the operators that it declares: where two choices agree on these, the same
-- rows hold of the text. A row names the declarations in front of it and its own, and each of them is one of the text.
use mathlib.Core.Path.{◌≡◌, refl, sym, ap, ◌∙◌}
use mathlib.Core.Bool.{Bool, true}
use mathlib.Core.List.{List, [], ◌∷◌, ◌++◌, append_assoc, append-nil}
use Prim.Native.Nat.{ℕ}
use Rattle.grammar.specs.Bytes.{Bytes}
use Rattle.grammar.specs.Token.{Token}
use Rattle.grammar.specs.Spelling.{Spells}
use Rattle.grammar.specs.Operator.{Table}
use Rattle.grammar.specs.Declaration.{Declaration, declaration_tokens, all_tokens, is_declaration, are_declarations, operator_of}
use Rattle.grammar.specs.Spans.{BlockOf}
use Rattle.grammar.specs.Fault.{
  Rules,
  TakeEffect,
  unchanged,
  changed,
  DeclarationFault,
  malformed,
  names_reserved,
  overfull,
  unlawful,
  BlockFault,
  FaultUnder,
  Declares,
}
use Rattle.grammar.proofs.Declarations.{declarations_first}
use Rattle.grammar.proofs.DeclarationFaults.{effect-allowed}
use Rattle.grammar.proofs.RulesAlike.{Alike, same_block, same_fault}

-- One more declaration behind others.
more_tokens : (done : List Declaration) (d : Declaration) (rest : List Token) → all_tokens (done ++ d ∷ []) ++ rest ≡ all_tokens done ++ (declaration_tokens d ++ rest)
unfolding all_tokens
more_tokens [] d rest = ap (λ ts. ts ++ rest) (append-nil (declaration_tokens d))
more_tokens (c ∷ done) d rest =
    append_assoc (declaration_tokens c) (all_tokens (done ++ d ∷ [])) rest
    ∙ ap (◌++◌ (declaration_tokens c)) (more_tokens done d rest)
    ∙ sym (append_assoc (declaration_tokens c) (all_tokens done) (declaration_tokens d ++ rest))

more_allowed : (done : List Declaration) (d : Declaration) → are_declarations done ≡ true → is_declaration d ≡ true → are_declarations (done ++ d ∷ []) ≡ true
unfolding are_declarations
more_allowed [] d e a = rw (a, are_declarations) refl
more_allowed (c ∷ done) d e a = let (p, q) = declarations_first c done e in rw (p, are_declarations) (more_allowed done d q a)

-- The two choices agree on what the text declares.
abbrev Agreed : (Bytes → Bool) → (Bytes → Bool) → Bytes → Type 0
Agreed R S text = (d : Declaration) → Declares text d → R (operator_of d) ≡ S (operator_of d)

-- All else is as it is.
abbrev reserving : (Table → Type 0) → (Bytes → Bool) → Rules
reserving overloading reserved = record { reserved = reserved; overloading = overloading }

module _ (O : Table → Type 0) (R S : Bytes → Bool) (text : Bytes) (agreed : Agreed R S text) {ts : List Token} (spelled : Spells text ts) where
  -- A fault of one of its declaration parts.
  module _ {T : Table} {j : ℕ} {part : List Token} (block : BlockOf ts T j part) where
    same_test :
        (done : List Declaration) (d : Declaration) (rest : List Token) → part ≡ all_tokens done ++ (declaration_tokens d ++ rest)
        → are_declarations done ≡ true → is_declaration d ≡ true → R (operator_of d) ≡ S (operator_of d)
    same_test done d rest e a b =
        agreed d
        (record {
          tokens = ts;
          spelled = spelled;
          table = T;
          number = j;
          part = part;
          block = block;
          before = done;
          after = rest;
          cut = e;
          complete = (a, b);
        })

    same_effect :
        {U W : Table} {ds : List Declaration} (done : List Declaration) (rest : List Token) → part ≡ all_tokens done ++ (all_tokens ds ++ rest)
        → are_declarations done ≡ true → TakeEffect R U ds W → TakeEffect S U ds W
    unfolding all_tokens
    same_effect done rest e a unchanged = unchanged
    same_effect done rest e a (changed {d = d} {ds} b r l f) =
        let h : part ≡ all_tokens done ++ (declaration_tokens d ++ (all_tokens ds ++ rest)) =
        e ∙ ap (◌++◌ (all_tokens done)) (append_assoc (declaration_tokens d) (all_tokens ds) rest) in
        changed b (sym (same_test done d (all_tokens ds ++ rest) h a b) ∙ r) l
        (same_effect (done ++ d ∷ []) rest (h ∙ sym (more_tokens done d (all_tokens ds ++ rest))) (more_allowed done d a b) f)

    effect : {U : Table} {ds : List Declaration} (rest : List Token) → part ≡ all_tokens ds ++ rest → TakeEffect R T ds U → TakeEffect S T ds U
    unfolding all_tokens are_declarations
    effect rest e f = same_effect [] rest e refl f

    part_fault : {n k : ℕ} → DeclarationFault (reserving O R) T part n k → DeclarationFault (reserving O S) T part n k
    part_fault (malformed ds t rest e f u) = malformed ds t rest e (effect (t ∷ rest) e f) u
    part_fault (names_reserved ds d rest e f a r) =
        names_reserved ds d rest e (effect (declaration_tokens d ++ rest) e f) a (sym (same_test ds d rest e (effect-allowed f) a) ∙ r)
    part_fault (overfull ds d rest e f a r m) =
        overfull ds d rest e (effect (declaration_tokens d ++ rest) e f) a (sym (same_test ds d rest e (effect-allowed f) a) ∙ r) m
    part_fault (unlawful ds e f c) = unlawful ds e (effect [] (e ∙ sym (append-nil (all_tokens ds))) f) c

module _ (O : Table → Type 0) (R S : Bytes → Bool) (text : Bytes) (agreed : Agreed R S text) where
  block_fault : {ts : List Token} {n i : ℕ} → Spells text ts → BlockFault (reserving O R) ts n i → BlockFault (reserving O S) ts n i
  block_fault s b =
      same_block b (part_fault O R S text agreed s b.block b.fault)
      (λ T j ds m k c f. b.first T j ds m k c (part_fault O S R text (λ d h. sym (agreed d h)) s c f))

  fault_also : {n p : ℕ} → FaultUnder (reserving O R) text n p → FaultUnder (reserving O S) text n p
  fault_also = same_fault (λ ts n i z o b. block_fault z.spelled b)

pub reserved_alike : (O : Table → Type 0) (R S : Bytes → Bool) (text : Bytes) → Agreed R S text → Alike (reserving O R) (reserving O S) text
reserved_alike O R S text agreed n p = (fault_also O R S text agreed, fault_also O S R text (λ d h. sym (agreed d h)))
