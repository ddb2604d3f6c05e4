-- What `pair_up` keeps from token to token: the arrays and the row hold what is open, and from there the answer comes out as from the
-- start. One law for each answer of `move_of`.
use mathlib.Core.Path.{◌≡◌, refl, sym, ap, ◌∙◌}
use mathlib.Core.Bool.{Bool, true, false}
use mathlib.Core.List.{List, [], ◌∷◌}
use Prim.Native.Nat.{ℕ, suc, ◌+◌, ◌-◌, ◌≤◌, ◌<◌}
use native.Mathlib.Numerals.{add-one}
use native.Mathlib.Omega.{arith}
use lib.Dec.{leb, lit≤}
use lib.ListN.{length, set, length-set}
use borrow.Author.Tests.{leb-false, le-ltb, eq-eqb, ne_eqb}
use Rattle.std.specs.declared.result.Result.TheVariants.{Ok, Err}
use Rattle.grammar.specs.Open.{Open, in_bracket, in_declarations, in_body, deepest}
use Rattle.grammar.specs.Token.{Structure, structure_number}
use Rattle.grammar.specs.Outcome.{refused}
use Rattle.grammar.specs.Nesting.{Move, stays, enters, becomes, leaves, within, move, close_innermost, nesting}
use Rattle.grammar.specs.Coded.{token_of}
use Rattle.grammar.proofs.Logic.{impossible}
use Rattle.grammar.proofs.Nested.{moved, Allowed, nesting_step, opening_enters, let_enters}
use Rattle.refusals.specs.declared.Refusal.TheVariants.{Unpaired, TooDeep}
use Rattle.refusals.specs.declared.Refused.{Refused}
use Rattle.refusals.specs.Numbers.{IsRefused}
use Rattle.rows.specs.Fields.{TokenRow, kind, Holds}
use Rattle.rows.specs.Tokens.{done, IsAtomKind}
use Rattle.rows.proofs.KindNumbers.{code_bounds}
use Rattle.pairing.specs.declared.Innermost.{Innermost}
use Rattle.pairing.specs.declared.Innermost.TheVariants.{Nothing, Bracket, Declarations, Body}
use Rattle.pairing.specs.declared.Move as Declared
use Rattle.pairing.specs.declared.Move.TheVariants.{Stay, Break, Open as Opens, Turn, Close}
use Rattle.pairing.specs.declared.OpenPair.{OpenPair}
use Rattle.pairing.specs.Pairing.{innermost_of, coded_move, has_block, tokens_by, KeptToken, Pairing}
use Rattle.pairing.proofs.Moves.{Does, opens, closes, separates, begins, turns, ends, breaks}
use Rattle.pairing.proofs.Moves.{move_does, structure_kind, structure_token, atom_kind-stays}
use Rattle.pairing.proofs.OpenPairs.{
  pair_at,
  opened,
  close_at,
  kept_stored,
  OpenPairs,
  none_open,
  pairs_innermost,
  pairs_opener,
  pairs_quiet,
  pairs_atom,
  pairs_opens,
  pairs_begins,
  pairs_turns,
  pairs_closes,
  pairs_ends,
  pairs_done,
}

-- Only closers are written.
pub record Kept (K₀ K : TokenRow) : Type 0 where
  pub long : length K ≡ length K₀
  pub same : (j : ℕ) → KeptToken K₀ K j

kept_closed : {K₀ : TokenRow} (K : TokenRow) (a v : ℕ) → a < length K → Kept K₀ K → Kept K₀ (close_at K a v)
kept_closed K a v l h =
    record {
      long = length-set K a _ ∙ h.long;
      same =
          λ j.
          let x = kept_stored K a v l j in
          let y = h.same j in
          record { kinds = x.kinds ∙ y.kinds; starts = x.starts ∙ y.starts; sizes = x.sizes ∙ y.sizes };
    }

-- Before token `i`, with `os` open.
pub record Walk (K₀ : TokenRow) (count : ℕ) (K : TokenRow) (S : List OpenPair) (depth i : ℕ) (os : List Open) : Type 0 where
  pub deep : depth ≡ length os
  pub room : depth ≤ 32
  pub behind : i ≤ count
  pub long : length S ≡ 33
  pub held : OpenPairs K S os i
  pub kept : Kept K₀ K
  pub answer : nesting [] 0 (tokens_by K₀ 0 count) ≡ nesting os i (tokens_by K₀ i (count - i))

abbrev pub Walks : TokenRow → ℕ → TokenRow → List OpenPair → ℕ → ℕ → Type 0
Walks K₀ count K S depth i = (os : List Open) × Walk K₀ count K S depth i os

-- Token `i` of the row is one of structure, and that is what it does where `os` is open.
abbrev pub Made : TokenRow → ℕ → List Open → Declared.Move → Type 0
Made K i os r = (s : Structure) × (kind K i ≡ structure_number s) × Does os s r

-- What was seen before token `i`: whether a block has its `in` there.
abbrev pub Seen : TokenRow → Bool → ℕ → Type 0
Seen K₀ blocks i = blocks ≡ has_block K₀ i

pub seen_none : (K : TokenRow) → Seen K false 0
unfolding has_block
seen_none K = refl

-- Only an `in` turns.
not_in : {os : List Open} {s : Structure} {r : Declared.Move} → Does os s r → (r ≡ Turn → ⊥) → (r ≡ Break → ⊥) → structure_number s ≡ 8 → ⊥
unfolding structure_number
not_in (opens x) t b e = omega arith
not_in closes t b e = omega arith
not_in separates t b e = omega arith
not_in (begins x) t b e = omega arith
not_in turns t b e = t refl
not_in ends t b e = omega arith
not_in (breaks x) t b e = b refl

turns_kind : (K : TokenRow) (i : ℕ) {os : List Open} → Made K i os Turn → kind K i ≡ 8
unfolding structure_number
turns_kind K i (s, e, turns) = e

-- The next token and those behind it.
tokens_next :
    (K : TokenRow) (i count : ℕ) → i < count → tokens_by K i (count - i) ≡ token_of (kind K i) [] ∷ tokens_by K (suc i) (count - suc i)
unfolding tokens_by
tokens_next K i count l = let e : count - i ≡ suc (count - suc i) = omega arith in rw e

-- The refusals.
abbrev pub unpaired : ℕ → Refused
unpaired i = record { refusal = Unpaired; at = i }

abbrev pub too_deep : ℕ → Refused
too_deep i = record { refusal = TooDeep; at = i }

refusing :
    {K₀ K : TokenRow} {count n p : ℕ} (r : Refused) → IsRefused n p r → Kept K₀ K → nesting [] 0 (tokens_by K₀ 0 count) ≡ refused n p
    → Pairing K₀ count K (Err r)
refusing r i h e =
    record { answer = rw e i; long = h.long; kept = h.same; closed = λ b f. impossible cc }

module _
    {K₀ : TokenRow} {count : ℕ} {K : TokenRow} {S : List OpenPair} {depth i : ℕ} {os : List Open} (w : Walk K₀ count K S depth i os) (l : i < count)
  where
    pub walk_made :
        {a : Bool} {r d : Declared.Move} → a ≡ leb (kind K i) 3 → a ≡ false
        → ((qs : List Open) → (pair_at S depth).pair ≡ innermost_of qs → r ≡ coded_move (move qs (token_of (kind K i) []))) → r ≡ d
        → Made K i os d
    walk_made e n f m =
        let (s, k) = structure_kind (kind K i) (leb-false (kind K i) 3 (sym e ∙ n)) (code_bounds _).1 in
        let p : (pair_at S depth).pair ≡ innermost_of os = rw w.deep (pairs_innermost w.held) in
        (s, k, move_does os s _ (sym m ∙ (rw (structure_token (kind K i) s k) at (f os p))))

    seen_next : {blocks : Bool} → (kind K i ≡ 8 → ⊥) → Seen K₀ blocks i → Seen K₀ blocks (i + 1)
    unfolding has_block
    seen_next n u = rw (add-one i, ne_eqb (kind K₀ i) 8 (λ e. n ((w.kept.same i).kinds ∙ e)), has_block) u

    pub seen_block : Made K i os Turn → Seen K₀ true (i + 1)
    unfolding has_block
    seen_block m = rw (add-one i, eq-eqb (kind K₀ i) 8 (sym (w.kept.same i).kinds ∙ turns_kind K i m), has_block)

    pub seen_atom : {blocks : Bool} → kind K i ≤ 3 → Seen K₀ blocks i → Seen K₀ blocks (i + 1)
    seen_atom h u = seen_next (λ e. omega arith) u

    pub seen_made :
        {blocks : Bool} {r : Declared.Move} → Made K i os r → (r ≡ Turn → ⊥) → (r ≡ Break → ⊥) → Seen K₀ blocks i → Seen K₀ blocks (i + 1)
    seen_made (s, e, d) t b u = seen_next (λ f. not_in d t b (sym e ∙ f)) u

    answer_next : nesting [] 0 (tokens_by K₀ 0 count) ≡ nesting os i (token_of (kind K i) [] ∷ tokens_by K₀ (suc i) (count - suc i))
    answer_next = w.answer ∙ rw (tokens_next K₀ i count l, ← ((w.kept.same i).kinds))

    -- One token on.
    next :
        (m : Move) → move os (token_of (kind K i) []) ≡ m → Allowed os m → {K' : TokenRow} {S' : List OpenPair} {d : ℕ} {qs : List Open} → moved os m ≡ qs
        → d ≡ length qs → d ≤ 32 → length S' ≡ 33 → Kept K₀ K' → OpenPairs K' S' qs (suc i)
        → Walks K₀ count K' S' d (i + 1)
    next m e a {qs = qs} q d r s k v =
        rw (add-one i) (
          qs,
          record {
            deep = d;
            room = r;
            behind = l;
            long = s;
            held = v;
            kept = k;
            answer = answer_next ∙ nesting_step os i (token_of (kind K i) []) (tokens_by K₀ (suc i) (count - suc i)) m e a ∙ rw q;
          },
        )

    unchanged : move os (token_of (kind K i) []) ≡ stays → OpenPairs K S os (suc i) → Walks K₀ count K S depth (i + 1)
    unfolding moved
    unchanged e v = next stays e tt refl w.deep w.room w.long w.kept v

    deeper :
        (o : Open) (p : Innermost) → move os (token_of (kind K i) []) ≡ enters o → depth < 32
        → (suc (length os) < length S → OpenPairs K (set S (suc (length os)) (opened p i)) (o ∷ os) (suc i))
        → Walks K₀ count K (set S (depth + 1) (opened p i)) (depth + 1) (i + 1)
    unfolding moved
    deeper o p e h v =
        let d : depth + 1 ≡ suc (length os) = omega (arith, w.deep) in
        let x : suc (length os) < length S = omega (arith, w.deep, w.long) in
        rw d
        (next (enters o) e (omega (arith, w.deep)) refl refl (omega (arith, w.deep)) (simp length-set w.long) w.kept (v x))

    too_deep_lem : (o : Open) → move os (token_of (kind K i) []) ≡ enters o → 32 ≤ depth → Pairing K₀ count K (Err (too_deep i))
    unfolding nesting
    too_deep_lem o e h = refusing _ (record { numbered = refl; placed = refl }) w.kept (rw (answer_next, e, nesting, le-ltb (length os) deepest (omega (arith, w.deep))))

    -- An atom.
    pub walk_atom : kind K i ≤ 3 → Walks K₀ count K S depth (i + 1)
    walk_atom h =
        let k : IsAtomKind (kind K i) = ((code_bounds _).0, h) in
        unchanged (atom_kind-stays os (kind K i) k) (pairs_atom os w.held k)

-- What the next token does, by the answer of `move_of`.
module _ {K₀ : TokenRow} {count : ℕ} {K : TokenRow} {S : List OpenPair} {depth i : ℕ} where
  pub walk_stays :
      {os : List Open} → Walk K₀ count K S depth i os → i < count → Made K i os Stay → Walks K₀ count K S depth (i + 1)
  unfolding structure_number token_of move within
  walk_stays w l (s, e, separates) =
      let k : kind K i ≡ 6 = e in
      unchanged w l (rw k refl) (pairs_quiet w.held (omega arith, omega arith, (λ f. omega arith), (λ f. omega arith)))

  pub walk_breaks :
      {os : List Open} → Walk K₀ count K S depth i os → i < count → Made K i os Break → Pairing K₀ count K (Err (unpaired i))
  unfolding nesting
  walk_breaks w l (s, e, breaks b) = refusing _ (record { numbered = refl; placed = refl }) w.kept (rw (answer_next w l, structure_token (kind K i) s e, b, nesting))

  pub walk_deep :
      {os : List Open} {p : Innermost} → Walk K₀ count K S depth i os → i < count → Made K i os (Opens p) → 32 ≤ depth
      → Pairing K₀ count K (Err (too_deep i))
  unfolding structure_number token_of
  walk_deep {os} w l (s, e, opens r) h = too_deep_lem w l in_bracket (rw e (opening_enters os r)) h
  walk_deep {os} w l (s, e, begins r) h = too_deep_lem w l in_declarations (rw e (let_enters os r)) h

  pub walk_enters :
      {os : List Open} {p : Innermost} → Walk K₀ count K S depth i os → i < count → Made K i os (Opens p) → depth < 32
      → Walks K₀ count K (set S (depth + 1) (opened p i)) (depth + 1) (i + 1)
  unfolding structure_number token_of
  walk_enters {os} w l (s, e, opens r) h =
      deeper w l in_bracket Bracket (rw e (opening_enters os r)) h (λ x. pairs_opens x r e w.held)
  walk_enters {os} w l (s, e, begins r) h =
      deeper w l in_declarations Declarations (rw e (let_enters os r)) h (λ x. pairs_begins x r e w.held)

  -- It closes what is open innermost, or is the `in` of that: then something is open, and its opener is a token before.
  opener : {os : List Open} → Walk K₀ count K S depth i os → 0 < length os → (0 < depth) × ((pair_at S depth).opener < i)
  opener w h = rw w.deep (h, pairs_opener w.held h)

  pub turns_open : {os : List Open} → Walk K₀ count K S depth i os → Made K i os Turn → (0 < depth) × ((pair_at S depth).opener < i)
  turns_open w (s, e, turns) = opener w (omega arith)

  pub closes_open : {os : List Open} → Walk K₀ count K S depth i os → Made K i os Close → (0 < depth) × ((pair_at S depth).opener < i)
  closes_open w (s, e, closes) = opener w (omega arith)
  closes_open w (s, e, ends) = opener w (omega arith)

  module _ (h : Holds K₀ count) (l : i < count) where
    holds : {os : List Open} → Walk K₀ count K S depth i os → Holds K i
    holds w = omega (arith, w.kept.long)

    pub walk_turns :
        {os : List Open} → Walk K₀ count K S depth i os → Made K i os Turn
        → Walks K₀ count (close_at K (pair_at S depth).opener i) (set S depth (opened Body i)) depth (i + 1)
    unfolding structure_number token_of move within moved close_innermost
    walk_turns w (s, e, turns {os = os}) =
        let k : kind K i ≡ 8 = e in
        let x : suc (length os) < length S = omega (arith, w.deep, w.room, w.long) in
        let o = pairs_opener w.held (omega arith) in
        rw w.deep
        (next w l (becomes in_body) (rw k refl) tt refl refl (omega (arith, w.deep, w.room)) (simp length-set w.long)
        (kept_closed K _ i (omega (arith, o, (holds w).1)) w.kept) (pairs_turns x (holds w) k w.held))

    -- One less is open.
    shallower :
        {o : Open} {os : List Open} → Walk K₀ count K S depth i (o ∷ os) → move (o ∷ os) (token_of (kind K i) []) ≡ leaves
        → OpenPairs (close_at K (pair_at S (suc (length os))).opener i) S os (suc i)
        → Walks K₀ count (close_at K (pair_at S depth).opener i) S (depth - 1) (i + 1)
    unfolding moved close_innermost
    shallower w e v =
        let o = pairs_opener w.held (omega arith) in
        rw w.deep
        (next w l leaves e tt refl (omega arith) (omega (arith, w.deep, w.room)) w.long (kept_closed K _ i (omega (arith, o, (holds w).1)) w.kept) v)

    pub walk_closes :
        {os : List Open} → Walk K₀ count K S depth i os → Made K i os Close
        → Walks K₀ count (close_at K (pair_at S depth).opener i) S (depth - 1) (i + 1)
    unfolding structure_number token_of move within
    walk_closes w (s, e, closes) = let k : kind K i ≡ 5 = e in shallower w (rw k refl) (pairs_closes (holds w) k w.held)
    walk_closes w (s, e, ends) = let k : kind K i ≡ 9 = e in shallower w (rw k refl) (pairs_ends (holds w) k w.held)

-- Behind the last token: what is open there, if anything, is not closed.
module _ {K₀ : TokenRow} {count : ℕ} {K : TokenRow} {S : List OpenPair} {depth i : ℕ} (l : count ≤ i) where
  answer_end : {os : List Open} → Walk K₀ count K S depth i os → nesting [] 0 (tokens_by K₀ 0 count) ≡ nesting os count []
  unfolding tokens_by
  answer_end w =
      let z : count - i ≡ 0 = omega arith in
      let e : i ≡ count = omega (arith, w.behind) in
      w.answer ∙ rw (z, e)

  pub walk_unclosed : (os : List Open) → Walk K₀ count K S depth i os → 0 < depth → Pairing K₀ count K (Err (unpaired count))
  unfolding nesting
  walk_unclosed [] w h = absurd (omega (arith, w.deep))
  walk_unclosed (o ∷ os) w h = refusing _ (record { numbered = refl; placed = refl }) w.kept (answer_end w)

  pub walk_passed :
      (os : List Open) (blocks : Bool) → Walk K₀ count K S depth i os → Seen K₀ blocks i → depth ≤ 0 → Pairing K₀ count K (Ok blocks)
  unfolding nesting
  walk_passed (o ∷ os) blocks w u h = absurd (omega (arith, w.deep))
  walk_passed [] blocks w u h =
      let e : i ≡ count = omega (arith, w.behind) in
      record {
        answer = rw (answer_end w) (ap Ok (u ∙ ap (has_block K₀) e));
        long = w.kept.long;
        kept = w.kept.same;
        closed = λ b f. rw e at (pairs_done w.held);
      }

-- Before the first.
pub walk_starts : (K : TokenRow) (count : ℕ) (S : List OpenPair) → length S ≡ 33 → (pair_at S 0).pair ≡ Nothing → Walks K count K S 0 0
walk_starts K count S s z =
    let e : count - 0 ≡ count = omega arith in (
      [],
      record {
        deep = refl;
        room = lit≤ tt;
        behind = omega arith;
        long = s;
        held = none_open z done;
        kept = record { long = refl; same = λ j. record { kinds = refl; starts = refl; sizes = refl } };
        answer = rw e;
      },
    )
