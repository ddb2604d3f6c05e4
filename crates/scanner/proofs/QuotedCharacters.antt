-- The characters of a quoted name, one by one: at each place stands a pair of quotes, another byte that can stand there, or no character.
-- Those found so far and those behind the place are all of them, and as written they end at the place.
use mathlib.Core.Path.{◌≡◌, refl, sym, ap, subst, ◌∙◌}
use mathlib.Core.Bool.{Bool, true, false}
use mathlib.Core.Logic.{◌⊎◌, inl, inr}
use mathlib.Core.List.{[], ◌∷◌, ◌++◌, append_assoc, append-nil}
use Prim.Native.Nat.{ℕ, ◌+◌, ◌≤◌, ◌<◌}
use native.Mathlib.Omega.{arith}
use lib.ListN.{length, take, drop, get_or, length-append, length-drop, drop_of_length-le, get_or-eq_default}
use lib.Seq.{drop-append_seam, drop-drop}
use Rattle.grammar.specs.Bytes.{Bytes}
use Rattle.grammar.specs.Token.{in_quotes, is_quote, doubled}
use Rattle.grammar.specs.Spelling.{Stops}
use Rattle.grammar.specs.Scan.{characters_at, characters_behind}
use Rattle.grammar.proofs.Logic.{below, clash}
use Rattle.grammar.proofs.Doubling.{a_quote, doubled-other, doubled-append, doubled-length}
use Rattle.grammar.proofs.Doubling.{characters-other, characters_bad, characters_pair, characters-closed}
use Rattle.byte_strings.proofs.Suffixes.{drop_next}
use Rattle.scanner.specs.Scanning.{first_size}

-- How many bytes a first character has, where the characters are known.
none_sized : (u : Bytes) → characters_at u ≡ [] → first_size u ≡ 0
unfolding doubled
none_sized u e = ap (λ c. length (doubled (take 1 c))) e

one_sized : (u : Bytes) (b : ℕ) (r : Bytes) → characters_at u ≡ b ∷ r → first_size u ≡ length (doubled (b ∷ []))
one_sized u b r e = ap (λ c. length (doubled (take 1 c))) e

-- The first character, and those behind it.
record FirstCharacter (u : Bytes) : Type 0 where
  first : ℕ
  characters : characters_at u ≡ first ∷ characters_at (drop (first_size u) u)
  within : first_size u ≤ length u

first_is :
    (b : ℕ) (front rest : Bytes) → characters_at (front ++ rest) ≡ b ∷ characters_at rest → doubled (b ∷ []) ≡ front
    → FirstCharacter (front ++ rest)
first_is b front rest e d = record {
  first = b;
  characters = e ∙ ap (λ v. b ∷ characters_at v) (sym (ap (λ n. drop n (front ++ rest)) size ∙ drop-append_seam front rest));
  within = omega (arith, size, length-append front rest);
}
  where
    size : first_size (front ++ rest) ≡ length front
    size = one_sized (front ++ rest) b (characters_at rest) e ∙ ap length d

-- Bytes have no character at the front, or a first one.
abbrev NoneOrFirst : Bytes → Type 0
NoneOrFirst u = (characters_at u ≡ []) ⊎ FirstCharacter u

behind-quote : (u : Bytes) → NoneOrFirst (39 ∷ u)
unfolding doubled is_quote
behind-quote [] = inl (characters-closed [] tt)
behind-quote (b ∷ u) = go (is_quote b) refl
  where
    go : (x : Bool) → is_quote b ≡ x → NoneOrFirst (39 ∷ b ∷ u)
    go true e = subst (λ q. NoneOrFirst (39 ∷ q ∷ u)) (sym (a_quote b e)) (inr (first_is 39 (39 ∷ 39 ∷ []) u (characters_pair u) refl))
    go false e = inl (characters-closed (b ∷ u) e)

first_character : (u : Bytes) → NoneOrFirst u
unfolding characters_at characters_behind doubled
first_character [] = inl refl
first_character (b ∷ u) = go (is_quote b) (in_quotes b) refl refl
  where
    go : (x y : Bool) → is_quote b ≡ x → in_quotes b ≡ y → NoneOrFirst (b ∷ u)
    go true y e f = subst (λ q. NoneOrFirst (q ∷ u)) (sym (a_quote b e)) (behind-quote u)
    go false true e f = inr (first_is b (b ∷ []) u (characters-other b u e f) (doubled-other b [] e))
    go false false e f = inl (characters_bad b u e f)

-- By what stands at a place of a text.
module _ (s : Bytes) where
  pub quoted_none : (i : ℕ) → length s ≤ i → is_quote (get_or s i 0) ≡ false
  unfolding is_quote
  quoted_none i h = ap is_quote (get_or-eq_default s 0 h)

  pub quote-within : (i : ℕ) → is_quote (get_or s i 0) ≡ true → i < length s
  quote-within i e = below i (length s) (λ l. l) (λ l. absurd (clash e (quoted_none i l)))

  stops_at : (i : ℕ) → is_quote (get_or s i 0) ≡ false → Stops is_quote (drop i s)
  stops_at i e =
      below i (length s) (λ l. subst (Stops is_quote) (sym (drop_next s i l)) e) (λ l. subst (Stops is_quote) (sym (drop_of_length-le s l)) tt)

  module _ (i : ℕ) where
    pub size_end : length s ≤ i → first_size (drop i s) ≡ 0
    unfolding characters_at characters_behind
    size_end h = none_sized (drop i s) (ap characters_at (drop_of_length-le s h))

    module _ (h : i < length s) where
      abbrev rest : Bytes
      rest = drop (i + 1) s

      pub size_pair : is_quote (get_or s i 0) ≡ true → is_quote (get_or s (i + 1) 0) ≡ true → first_size (drop i s) ≡ 2
      unfolding doubled is_quote
      size_pair e f = one_sized (drop i s) 39 _ (ap characters_at pair ∙ characters_pair (drop (i + 1 + 1) s))
        where
          behind : drop (i + 1) s ≡ get_or s (i + 1) 0 ∷ drop (i + 1 + 1) s
          behind = drop_next s (i + 1) (quote-within (i + 1) f)

          pair : drop i s ≡ 39 ∷ 39 ∷ drop (i + 1 + 1) s
          pair =
              drop_next s i h
              ∙ ap (λ b. b ∷ rest) (a_quote _ e)
              ∙ ap (◌∷◌ 39) (behind ∙ ap (λ b. b ∷ drop (i + 1 + 1) s) (a_quote _ f))

      pub size_lone : is_quote (get_or s i 0) ≡ true → is_quote (get_or s (i + 1) 0) ≡ false → first_size (drop i s) ≡ 0
      size_lone e f =
          none_sized (drop i s)
          (ap characters_at (drop_next s i h ∙ ap (λ b. b ∷ rest) (a_quote _ e)) ∙ characters-closed rest (stops_at (i + 1) f))

      module _ (e : is_quote (get_or s i 0) ≡ false) where
        pub size_bad : in_quotes (get_or s i 0) ≡ false → first_size (drop i s) ≡ 0
        size_bad f = none_sized (drop i s) (ap characters_at (drop_next s i h) ∙ characters_bad _ rest e f)

        pub size_one : in_quotes (get_or s i 0) ≡ true → first_size (drop i s) ≡ 1
        unfolding doubled
        size_one f =
            one_sized (drop i s) _ _ (ap characters_at (drop_next s i h) ∙ characters-other _ rest e f)
            ∙ ap length (doubled-other _ [] e)

-- The characters from `from` to `place` are counted.
pub record Counted (s : Bytes) (from place n : ℕ) : Type 0 where
  pub found : Bytes
  pub characters : characters_at (drop from s) ≡ found ++ characters_at (drop place s)
  pub many : length found ≡ n
  pub ends : place ≡ from + length (doubled found)
  pub within : place ≤ length s

pub none_counted : (s : Bytes) (from : ℕ) → from ≤ length s → Counted s from from 0
unfolding doubled
none_counted s from h = record { found = []; characters = refl; many = refl; ends = omega arith; within = h }

pub counted_few : {s : Bytes} {from place n : ℕ} → Counted s from place n → n ≤ length s
counted_few v = omega (arith, v.many, v.ends, v.within, doubled-length v.found)

module _ {s : Bytes} {from place n next : ℕ} (v : Counted s from place n) (e : next ≡ place + first_size (drop place s)) where
  pub next_counted : place < next → Counted s from next (n + 1)
  next_counted l = go (first_character (drop place s))
    where
      go : NoneOrFirst (drop place s) → Counted s from next (n + 1)
      go (inl f) = absurd (omega (arith, none_sized (drop place s) f))
      go (inr f) =
          let behind : drop (first_size (drop place s)) (drop place s) ≡ drop next s =
          drop-drop (first_size (drop place s)) place s ∙ ap (λ k. drop k s) (sym e) in
          record {
            found = v.found ++ f.first ∷ [];
            characters =
                v.characters
                ∙ ap (◌++◌ v.found) (f.characters ∙ ap (λ w. f.first ∷ characters_at w) behind)
                ∙ sym (append_assoc v.found (f.first ∷ []) (characters_at (drop next s)));
            many = omega (arith, length-append v.found (f.first ∷ []), v.many);
            ends =
                omega (
                  arith,
                  v.ends,
                  one_sized (drop place s) f.first _ f.characters,
                  ap length (doubled-append v.found (f.first ∷ [])),
                  length-append (doubled v.found) (doubled (f.first ∷ [])),
                );
            within = omega (arith, f.within, length-drop place s, v.within);
          }

  pub all_counted : next ≤ place → characters_at (drop from s) ≡ v.found
  all_counted l = v.characters ∙ ap (◌++◌ v.found) (go (first_character (drop place s))) ∙ append-nil v.found
    where
      go : NoneOrFirst (drop place s) → characters_at (drop place s) ≡ []
      go (inl f) = f
      go (inr f) = absurd (omega (arith, one_sized (drop place s) f.first _ f.characters, doubled-length (f.first ∷ [])))
