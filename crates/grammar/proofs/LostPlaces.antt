-- A text refused with 11 is lost at one place, at which the search stops: the place that locating gives.
-- The first span without a tree is one, since the spans of a text start at different tokens.
use mathlib.Core.Path.{◌≡◌, refl, sym, ap, subst, ◌∙◌}
use mathlib.Core.Logic.{◌↔◌}
use mathlib.Core.List.{List, ◌∷◌, ◌++◌, Memᴰ}
use mathlib.Core.Option.{Option, none, some}
use Prim.Native.Nat.{ℕ, suc, ◌≤◌}
use native.Mathlib.Omega.{arith}
use lib.ListN.{length, length-append}
use Rattle.grammar.specs.Bytes.{Bytes}
use Rattle.grammar.specs.Token.{Token}
use Rattle.grammar.specs.Outcome.{refused, passed}
use Rattle.grammar.specs.Fault.{most_tokens, Past}
use Rattle.grammar.specs.Scan.{Placed, scan}
use Rattle.grammar.specs.Declaration.{start_table}
use Rattle.grammar.specs.Span.{Item, all_item_tokens}
use Rattle.grammar.specs.Spans.{Span, start_of, number_behind}
use Rattle.grammar.specs.Continuation.{LostBehind}
use Rattle.grammar.specs.Climb.{Ending, stops, search}
use Rattle.grammar.specs.Blocks.{first_without, lost_token, tree_of}
use Rattle.grammar.specs.Answer.{PastChecks, tokens_of, offset_of, spans_of, read_text, lost_offset}
use Rattle.grammar.specs.Claim.{LostAt}
use Rattle.grammar.proofs.Logic.{impossible}
use Rattle.grammar.proofs.Scanned.{length_tokens}
use Rattle.grammar.proofs.TokenFaults.{token_at}
use Rattle.grammar.proofs.ItemsNested.{append_tokens}
use Rattle.grammar.proofs.SpanOrder.{same_span, span_within}
use Rattle.grammar.proofs.ClimbExact.{stops_exactly}
use Rattle.grammar.proofs.Readings.{span_lawful, FirstListed, refusal_at, spans_pass, refused_treeless}
use Rattle.grammar.proofs.Faults.{checked_past, past_checked}
use Rattle.grammar.proofs.Rules.{listed, first_in_list, eleven_exactly}

one_stop : {o : Ending} {k j : ℕ} → o ≡ stops k → o ≡ stops j → k ≡ j
one_stop e f = cc

module _ (text : Bytes) (ps : List Placed) (h : PastChecks text ps) where
  abbrev ts : List Token
  ts = tokens_of ps

  -- The search of a span stops exactly where it is lost.
  stops_lost :
      (s : Span) → Memᴰ s (spans_of ps) → (k : ℕ)
      → (search s.table (start_of s.opener) s.contents ≡ stops k)
      ↔ ((before : List Item) × LostBehind s.table s.contents before × (k ≡ number_behind s before))
  stops_lost s m k =
      let l = span_lawful text ps h s m in
      stops_exactly s.table l.0 l.1 (start_of s.opener) s.contents k

  -- The token behind some of a span's items is one of the text, or its end.
  number_within : (s : Span) → Memᴰ s (spans_of ps) → (before after : List Item) → s.contents ≡ before ++ after → number_behind s before ≤ length ps
  number_within s m before after e =
      omega (
        arith,
        span_within (suc (length ps)) start_table ts h.nested s m,
        ap (λ is. length (all_item_tokens is)) e,
        ap length (append_tokens before after),
        length-append (all_item_tokens before) (all_item_tokens after),
        length_tokens ps,
      )

  -- Where a text has no tree, what it is lost at is a token, or its end.
  pub lost_within : tree_of start_table ts ≡ none → lost_token (spans_of ps) ≤ length ps
  lost_within e = go (first_without (spans_of ps)) refl
    where
      go : (o : Option (Option ℕ)) → first_without (spans_of ps) ≡ o → lost_token (spans_of ps) ≤ length ps
      go none q = let t = spans_pass text ps h q in let z : some t.0 ≡ none = sym t.1 ∙ e in impossible cc
      go (some o) q =
          let f = refusal_at text ps h o q in
          let (before, l, k) = (stops_lost f.span f.among (lost_token (spans_of ps))).0 f.stopped in
          omega (arith, k, number_within f.span f.among before l.after l.cut)

  pub lost_exactly : (q : ℕ) → FirstListed text ps q → (p : ℕ) → LostAt text ts p ↔ (p ≡ offset_of text ps (lost_token (spans_of ps)))
  lost_exactly q f p = (given, back)
    where
      given : LostAt text ts p → p ≡ offset_of text ps (lost_token (spans_of ps))
      given w =
          let r = w.without.span in
          let m = (listed text ps h r).0 w.without.among in
          let a = f.first r m w.without.treeless in
          let b = w.without.first f.span ((listed text ps h f.span).1 f.among) f.treeless in
          let same = same_span (suc (length ps)) start_table ts h.nested f.span r f.among m (omega arith) in
          let own = rw same at f.stopped in
          let other = (stops_lost r m (number_behind r w.before)).1 (w.before, w.lost, refl) in
          let n = number_within r m w.before w.lost.after w.lost.cut in
          (token_at text ps h.scanned (number_behind r w.before) p n).0 w.place ∙ ap (offset_of text ps) (one_stop other own)

      back : p ≡ offset_of text ps (lost_token (spans_of ps)) → LostAt text ts p
      back e =
          let s = f.span in
          let (before, l, k) = (stops_lost s f.among (lost_token (spans_of ps))).0 f.stopped in
          let n = number_within s f.among before l.after l.cut in
          record {
            opener = q;
            without = first_in_list text ps h q f;
            before = before;
            lost = l;
            place = (token_at text ps h.scanned (number_behind s before) p n).1 (e ∙ ap (offset_of text ps) k);
          }

-- The place that locating gives to a text refused with 11 is that at which it is lost.
pub lost_eleven :
    (text : Bytes) (p : ℕ)
    → ((q : ℕ) × (read_text text ≡ refused 11 q) × (p ≡ lost_offset text (scan most_tokens 0 text)))
    ↔ ((x : Token) × (ts : List Token) × Past text (x ∷ ts) × LostAt text (x ∷ ts) p)
unfolding tokens_of lost_offset
lost_eleven text p = (given, back)
  where
    placed : (ps : List Placed) → PastChecks text ps → lost_offset text (scan most_tokens 0 text) ≡ offset_of text ps (lost_token (spans_of ps))
    placed ps h = ap (lost_offset text) h.scanned

    given :
        (q : ℕ) × (read_text text ≡ refused 11 q) × (p ≡ lost_offset text (scan most_tokens 0 text))
        → (x : Token) × (ts : List Token) × Past text (x ∷ ts) × LostAt text (x ∷ ts) p
    given (q, e, f) =
        let (y, ys, h, never, l) = refused_treeless text q e in
        (y.token, tokens_of ys, checked_past text (y ∷ ys) h, (lost_exactly text (y ∷ ys) h q l p).1 (f ∙ placed (y ∷ ys) h))

    back :
        (x : Token) × (ts : List Token) × Past text (x ∷ ts) × LostAt text (x ∷ ts) p
        → (q : ℕ) × (read_text text ≡ refused 11 q) × (p ≡ lost_offset text (scan most_tokens 0 text))
    back (x, ts, past, w) =
        let e = (eleven_exactly text w.opener).1 (x, ts, past, w.without) in
        let (y, ys, h, never, l) = refused_treeless text w.opener e in
        let (ps, c, q) = past_checked text (x ∷ ts) past in
        let z : passed ps ≡ passed (y ∷ ys) = sym c.scanned ∙ h.scanned in
        let same : ps ≡ y ∷ ys = cc in
        let tokens : x ∷ ts ≡ tokens_of (y ∷ ys) = sym q ∙ ap tokens_of same in
        let own : LostAt text (tokens_of (y ∷ ys)) p = subst (λ us. LostAt text us p) tokens w in
        (w.opener, e, (lost_exactly text (y ∷ ys) h w.opener l p).0 own ∙ sym (placed (y ∷ ys) h))

-- There is one such place.
pub one_lost : (text : Bytes) (x : Token) (ts : List Token) → Past text (x ∷ ts) → (p q : ℕ) → LostAt text (x ∷ ts) p → LostAt text (x ∷ ts) q → p ≡ q
one_lost text x ts past p q a b =
    ((lost_eleven text p).1 (x, ts, past, a)).2 ∙ sym ((lost_eleven text q).1 (x, ts, past, b)).2
