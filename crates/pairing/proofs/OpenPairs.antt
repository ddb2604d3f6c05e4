-- The tokens read so far, by what is open: items one behind the other up to the outermost opener, and from each opener to the next.
-- A closer is stored at the innermost opener, which stands in none of these items, so they are kept; then its pair is an item too.
use mathlib.Core.Path.{◌≡◌, refl, sym, ap, ◌∙◌}
use mathlib.Core.List.{List, [], ◌∷◌}
use Prim.Native.Nat.{ℕ, suc, ◌≤◌, ◌<◌}
use native.Mathlib.Omega.{arith}
use lib.ListN.{length, get_or, set}
use lib.Seq.{get_or-set_same, get_or-set_other}
use Rattle.grammar.specs.Open.{Open, in_bracket, in_declarations, in_body, OutsideDeclarations}
use Rattle.grammar.proofs.Logic.{below}
use Rattle.rows.specs.declared.token.Token.{Token}
use Rattle.rows.specs.Kinds.{kind_code}
use Rattle.rows.specs.Fields.{TokenRow, blank, token, kind, closer, Holds}
use Rattle.rows.specs.Tokens.{Paired, done, single, bracket, block, IsAtomKind, IsQuietKind}
use Rattle.rows.proofs.Fields.{store_same, other-field, other_entry}
use Rattle.rows.proofs.PairedCases.{paired_ordered}
use Rattle.pairing.specs.declared.Innermost.{Innermost}
use Rattle.pairing.specs.declared.Innermost.TheVariants.{Nothing, Bracket, Declarations, Body}
use Rattle.pairing.specs.declared.OpenPair.{OpenPair}
use Rattle.pairing.specs.Pairing.{innermost_of, KeptToken}

-- What stands in the array at a depth.
abbrev pub no_pair : OpenPair
no_pair = record { pair = Nothing; opener = 0 }

abbrev pub pair_at : List OpenPair → ℕ → OpenPair
pair_at S d = get_or S d no_pair

abbrev pub opened : Innermost → ℕ → OpenPair
opened p a = record { pair = p; opener = a }

-- The row with a closer stored at token `a`.
abbrev closed_by : Token → ℕ → Token
closed_by t v = record { kind = t.kind; start = t.start; size = t.size; closer = v }

abbrev pub close_at : TokenRow → ℕ → ℕ → TokenRow
close_at K a v = set K a (closed_by (token K a) v)

-- Behind `let`, up to token `n`.
abbrev pub Quiet : TokenRow → ℕ → ℕ → Type 0
Quiet K i n = (j : ℕ) → i < j → j < n → IsQuietKind (kind K j)

-- What is open, up to token `n`: its first token and its last opener.
pub data Begun (K : TokenRow) : Open → ℕ → ℕ → ℕ → Type 0 where
  bracket_open : {k n : ℕ} → kind K k ≡ 4 → k < n → Paired K (suc k) n → Begun K in_bracket k k n
  declarations_open : {k n : ℕ} → kind K k ≡ 7 → k < n → Quiet K k n → Begun K in_declarations k k n
  body_open :
      {k c n : ℕ} → kind K k ≡ 7 → closer K k ≡ c → k < c → kind K c ≡ 8 → Quiet K k c → c < n → Paired K (suc c) n
      → Begun K in_body k c n

-- All that is open; the array has what each is and its last opener.
pub data OpenPairs (K : TokenRow) (S : List OpenPair) : List Open → ℕ → Type 0 where
  none_open : {n : ℕ} → (pair_at S 0).pair ≡ Nothing → Paired K 0 n → OpenPairs K S [] n
  one_more :
      {o : Open} {os : List Open} {n k a : ℕ} → OutsideDeclarations os → pair_at S (suc (length os)) ≡ opened (innermost_of (o ∷ os)) a
      → Begun K o k a n → OpenPairs K S os k → OpenPairs K S (o ∷ os) n

-- One more item.
before_end : {K : TokenRow} {i n to : ℕ} → i < n → Paired K n to → i < to
before_end l q = omega (arith, paired_ordered q)

paired_append : {K : TokenRow} {i n to : ℕ} → Paired K i n → Paired K n to → Paired K i to
paired_append done q = q
paired_append (single l k p) q = single (before_end l q) k (paired_append p q)
paired_append (bracket c k w l m y p r) q = bracket c k w l (before_end m q) y p (paired_append r q)
paired_append (block c e k w v l m n y z f p r) q = block c e k w v l m (before_end n q) y z f p (paired_append r q)

pairs_item :
    {K : TokenRow} {S : List OpenPair} {os : List Open} {n m : ℕ} → OutsideDeclarations os → OpenPairs K S os n → Paired K n m → OpenPairs K S os m
pairs_item r (none_open s p) q = none_open s (paired_append p q)
pairs_item r (one_more t s (bracket_open e l p) w) q = one_more t s (bracket_open e (before_end l q) (paired_append p q)) w
pairs_item r (one_more t s (declarations_open e l f) w) q = absurd r
pairs_item r (one_more t s (body_open e v l f z m p) w) q = one_more t s (body_open e v l f z (before_end m q) (paired_append p q)) w

begun_ordered : {K : TokenRow} {o : Open} {k a n : ℕ} → Begun K o k a n → (k ≤ a) × (a < n)
begun_ordered (bracket_open e l p) = (omega arith, l)
begun_ordered (declarations_open e l q) = (omega arith, l)
begun_ordered (body_open e v l f q m p) = (omega arith, m)

module _ {K : TokenRow} {S : List OpenPair} where
  pub pairs_innermost : {os : List Open} {n : ℕ} → OpenPairs K S os n → (pair_at S (length os)).pair ≡ innermost_of os
  unfolding innermost_of
  pairs_innermost (none_open s p) = s
  pairs_innermost (one_more r s b w) = rw s

  pub pairs_opener : {os : List Open} {n : ℕ} → OpenPairs K S os n → 0 < length os → (pair_at S (length os)).opener < n
  pairs_opener (none_open s p) h = absurd (omega arith)
  pairs_opener (one_more r s b w) h = rw s (begun_ordered b).1

  -- One more token among declarations.
  pub pairs_quiet :
      {os : List Open} {n : ℕ} → OpenPairs K S (in_declarations ∷ os) n → IsQuietKind (kind K n) → OpenPairs K S (in_declarations ∷ os) (suc n)
  pairs_quiet {n = n} (one_more {k = k} r s (declarations_open e l f) w) q =
      let m : k < suc n = omega arith in
      one_more r s (declarations_open e m (λ j x y. below j n (f j x) (λ z. let g : j ≡ n = omega arith in rw g q))) w

  -- An atom can stand everywhere.
  pub pairs_atom : (os : List Open) {n : ℕ} → OpenPairs K S os n → IsAtomKind (kind K n) → OpenPairs K S os (suc n)
  pairs_atom os {n} w k = place os w
    where
      next : Paired K n (suc n)
      next = let l : n < suc n = omega arith in single l k done

      place : (qs : List Open) → OpenPairs K S qs n → OpenPairs K S qs (suc n)
      place [] v = pairs_item tt v next
      place (in_bracket ∷ qs) v = pairs_item tt v next
      place (in_declarations ∷ qs) v =
          pairs_quiet v (k.0, omega (arith, k.1), (λ e. omega (arith, k.1)), (λ e. omega (arith, k.1)))
      place (in_body ∷ qs) v = pairs_item tt v next

  -- The array can be written above what is open.
  pairs_below : (j : ℕ) (x : OpenPair) {os : List Open} {n : ℕ} → length os < j → OpenPairs K S os n → OpenPairs K (set S j x) os n
  pairs_below j x h (none_open s p) = none_open (rw (get_or-set_other S j 0 x no_pair (λ e. omega arith)) s) p
  pairs_below j x h (one_more {os = os} r s b w) =
      one_more r (get_or-set_other S j (suc (length os)) x no_pair (λ e. omega arith) ∙ s) b (pairs_below j x (omega arith) w)

-- The closer `v` stored at token `a`.
module _ (K : TokenRow) (a v : ℕ) (w : a < length K) where
  abbrev stored : Token
  stored = closed_by (token K a) v

  pub kept_stored : (j : ℕ) → KeptToken K (close_at K a v) j
  kept_stored j =
      record {
        kinds = other-field (λ (t : Token). kind_code t.kind) K a j stored blank refl;
        starts = other-field (λ (t : Token). t.start) K a j stored blank refl;
        sizes = other-field (λ (t : Token). t.size) K a j stored blank refl;
      }

  kind_stored : (j : ℕ) → kind (close_at K a v) j ≡ kind K j
  kind_stored j = (kept_stored j).kinds

  closer_stored : (j : ℕ) → (j ≡ a → ⊥) → closer (close_at K a v) j ≡ closer K j
  closer_stored j d = ap (λ (t : Token). t.closer) (other_entry K a j stored blank (λ e. d (sym e)))

  closer_new : closer (close_at K a v) a ≡ v
  closer_new = store_same (λ (t : Token). t.closer) K a stored blank w

  quiet_stored : {i n : ℕ} → Quiet K i n → Quiet (close_at K a v) i n
  quiet_stored f j x y = rw (kind_stored j) (f j x y)

  -- Items among which that token does not stand are kept.
  paired_stored : {i to : ℕ} → (i ≤ a → a < to → ⊥) → Paired K i to → Paired (close_at K a v) i to
  paired_stored d done = done
  paired_stored d (single {i = i} l k p) = single l (rw (kind_stored i) k) (paired_stored (λ x. d (omega arith)) p)
  paired_stored d (bracket {i = i} c k w l m y p q) =
      bracket c (kind_stored i ∙ k) (closer_stored i (λ x. d (omega arith) (omega arith)) ∙ w) l m (kind_stored c ∙ y)
      (paired_stored (λ x z. d (omega arith) (omega arith)) p) (paired_stored (λ x. d (omega arith)) q)
  paired_stored d (block {i = i} c e k w u l m n y z f p q) =
      block c e (kind_stored i ∙ k) (closer_stored i (λ x. d (omega arith) (omega arith)) ∙ w)
      (closer_stored c (λ x. d (omega arith) (omega arith)) ∙ u) l m n (kind_stored c ∙ y) (kind_stored e ∙ z) (quiet_stored f)
      (paired_stored (λ x s. d (omega arith) (omega arith)) p) (paired_stored (λ x. d (omega arith)) q)

  -- And so is all that is open before it.
  begun_stored : {o : Open} {k b n : ℕ} → n ≤ a → Begun K o k b n → Begun (close_at K a v) o k b n
  begun_stored h (bracket_open {k = k} e l p) = bracket_open (kind_stored k ∙ e) l (paired_stored (λ x y. omega arith) p)
  begun_stored h (declarations_open {k = k} e l f) = declarations_open (kind_stored k ∙ e) l (quiet_stored f)
  begun_stored h (body_open {k = k} {c = c} e u l f q m p) =
      body_open (kind_stored k ∙ e) (closer_stored k (λ x. omega arith) ∙ u) l (kind_stored c ∙ f) (quiet_stored q) m
      (paired_stored (λ x y. omega arith) p)

  pairs_stored : {S : List OpenPair} {os : List Open} {n : ℕ} → n ≤ a → OpenPairs K S os n → OpenPairs (close_at K a v) S os n
  pairs_stored h (none_open s p) = none_open s (paired_stored (λ x y. omega arith) p)
  pairs_stored h (one_more r s b w) = one_more r s (begun_stored h b) (pairs_stored (omega (arith, begun_ordered b)) w)

-- One more is open, where the array has room.
pairs_push :
    {K : TokenRow} {S : List OpenPair} {os : List Open} {n : ℕ} {o : Open} {k a : ℕ} {p : Innermost} → suc (length os) < length S
    → OutsideDeclarations os → p ≡ innermost_of (o ∷ os) → Begun K o k a n → OpenPairs K S os k
    → OpenPairs K (set S (suc (length os)) (opened p a)) (o ∷ os) n
pairs_push {S = S} {os = os} {a = a} {p = p} l r c b w =
    let j = suc (length os) in
    one_more r (get_or-set_same S j (opened p a) no_pair l ∙ ap (λ q. opened q a) c) b (pairs_below j (opened p a) (omega arith) w)

module _ {K : TokenRow} {S : List OpenPair} {os : List Open} {n : ℕ} (l : suc (length os) < length S) where
  -- Token `n` opens a bracket pair or a block.
  pub pairs_opens :
      OutsideDeclarations os → kind K n ≡ 4 → OpenPairs K S os n → OpenPairs K (set S (suc (length os)) (opened Bracket n)) (in_bracket ∷ os) (suc n)
  unfolding innermost_of
  pairs_opens r e w = let x : n < suc n = omega arith in pairs_push l r refl (bracket_open e x done) w

  pub pairs_begins :
      OutsideDeclarations os → kind K n ≡ 7 → OpenPairs K S os n
      → OpenPairs K (set S (suc (length os)) (opened Declarations n)) (in_declarations ∷ os) (suc n)
  unfolding innermost_of
  pairs_begins r e w =
      let x : n < suc n = omega arith in
      pairs_push l r refl (declarations_open e x (λ i y z. absurd (omega arith))) w

  -- It is the `in` of a block.
  pub pairs_turns :
      Holds K n → kind K n ≡ 8 → OpenPairs K S (in_declarations ∷ os) n
      → OpenPairs (close_at K (pair_at S (suc (length os))).opener n) (set S (suc (length os)) (opened Body n)) (in_body ∷ os) (suc n)
  unfolding innermost_of
  pairs_turns h y (one_more {a = a} r s (declarations_open e g f) w) =
      let x : n < suc n = omega arith in
      let m : a < length K = omega arith in
      rw s
      (pairs_push l r refl
      (body_open (kind_stored K a n m a ∙ e) (closer_new K a n m) g (kind_stored K a n m n ∙ y) (quiet_stored K a n m f) x done)
      (pairs_stored K a n m (omega arith) w))

-- It closes a bracket pair or a block.
module _ {K : TokenRow} {S : List OpenPair} {os : List Open} {n : ℕ} (h : Holds K n) where
  pub pairs_closes : kind K n ≡ 5 → OpenPairs K S (in_bracket ∷ os) n → OpenPairs (close_at K (pair_at S (suc (length os))).opener n) S os (suc n)
  pairs_closes y (one_more {a = a} r s (bracket_open e l p) w) =
      let x : n < suc n = omega arith in
      let m : a < length K = omega arith in
      rw s
      (pairs_item r (pairs_stored K a n m (omega arith) w)
      (bracket n (kind_stored K a n m a ∙ e) (closer_new K a n m) l x (kind_stored K a n m n ∙ y)
      (paired_stored K a n m (λ i j. omega arith) p) done))

  pub pairs_ends : kind K n ≡ 9 → OpenPairs K S (in_body ∷ os) n → OpenPairs (close_at K (pair_at S (suc (length os))).opener n) S os (suc n)
  pairs_ends y (one_more {k = k} {a = a} r s (body_open e v l f q m p) w) =
      let x : n < suc n = omega arith in
      let b : a < length K = omega arith in
      rw s
      (pairs_item r (pairs_stored K a n b (omega arith) w)
      (block a n (kind_stored K a n b k ∙ e) (closer_stored K a n b k (λ i. omega arith) ∙ v) (closer_new K a n b) l m x
      (kind_stored K a n b a ∙ f) (kind_stored K a n b n ∙ y) (quiet_stored K a n b q) (paired_stored K a n b (λ i j. omega arith) p) done))

-- At the end, with nothing open, all tokens are paired.
pub pairs_done : {K : TokenRow} {S : List OpenPair} {n : ℕ} → OpenPairs K S [] n → Paired K 0 n
pairs_done (none_open s p) = p
