-- The whole text, then the spans in the order of their openers: what is known of those searched before stays so, and what makes no node
-- is counted up to the next opener.
use mathlib.Core.Path.{◌≡◌, sym, subst, ◌∙◌}
use mathlib.Core.Bool.{false}
use mathlib.Core.Logic.{◌⊎◌, inl, inr, ⊎_elim}
use mathlib.Core.Option.{none, some}
use Prim.Native.Nat.{ℕ, suc, ◌+◌, ◌-◌, ◌≤◌, ◌<◌}
use native.Mathlib.Numerals.{add-one}
use native.Mathlib.Omega.{arith}
use lib.ListN.{length, set}
use borrow.Author.Tests.{eqb-true, eqb-false}
use Rattle.std.specs.declared.result.Result.{Result}
use Rattle.std.specs.declared.result.Result.TheVariants.{Ok, Err}
use Rattle.grammar.specs.Bytes.{Bytes}
use Rattle.grammar.specs.Operator.{Table}
use Rattle.grammar.proofs.Logic.{clash, below}
use Rattle.rows.specs.Fields.{TokenRow, NoteRow, RootRow, kind, closer, right, Within}
use Rattle.rows.proofs.Fields.{within}
use Rattle.rows.proofs.PairedCases.{agrees_paired}
use Rattle.climb.specs.declared.search.Lost.{Lost}
use Rattle.climb.specs.Beside.{opens_span}
use Rattle.climb.specs.Searched.{Rows, InForce, Searched, Checks, opener_in, treeless}
use Rattle.grammar.specs.Blocks.{tree_of}
use Rattle.rows.specs.Tokens.{range}
use Rattle.climb.proofs.Spare.{
  spare_to,
  spare_opens,
  spare_let,
  spare_none,
  spare_quiet,
  spare_atom,
  atom_opens_none,
  quiet_opens_none,
  spare_cut,
  spare_next,
  spare_done,
  spare_last,
  spare_nothing,
}
use Rattle.climb.proofs.Parts.{Parts, parts, parts_spare}
use Rattle.climb.proofs.Lets.{let_test, LetAt, let_at}
use Rattle.climb.proofs.Openers.{SpanAt, span_at}
use Rattle.climb.proofs.Found.{
  searched_found,
  found_within,
  searched_none,
  stays_round,
  before_none,
  before_quiet,
  noted_outside,
  before_opened,
}
use Rattle.climb.proofs.Treeless.{whole_refused, behind_refused, refused_answer}
use Rattle.climb.proofs.Hanging.{text_hung, text_answer}
use Rattle.climb.proofs.spans.check.Invariants.{State, Whole, Behind}
use Rattle.climb.proofs.spans.check.Goals as goal
use Rattle.climb.proofs.spans.check.Goals.{Joined-from-eq0, then-from-eq0, else-from-eq0}

state-at : {K : TokenRow} {R : NoteRow} {n whole : ℕ} {O : RootRow} {nodes i j : ℕ} → j ≡ i → State K R n whole O nodes i → State K R n whole O nodes j
state-at e s = rw e s

state-as :
    {K : TokenRow} {R : NoteRow} {n i whole whole' nodes nodes' : ℕ} {O O' : RootRow} → O' ≡ O → whole' ≡ whole → nodes' ≡ nodes
    → State K R n whole O nodes i → State K R n whole' O' nodes' i
state-as e f g s = rw (e, f, g) s

-- The roles are those under some operators.
abbrev Known : TokenRow → NoteRow → ℕ → Type 0
Known K R n = (text : Bytes) × (T : Table) × InForce text T K R 0 n

-- The span that comes next.
abbrev Comes : TokenRow → NoteRow → ℕ → ℕ → RootRow → ℕ → ℕ → ℕ → Type 0
Comes K R n whole O nodes from to = Whole n nodes from to ⊎ Behind K R n whole O nodes from to

tokens-hold : {K : TokenRow} {R : NoteRow} {O : RootRow} {n : ℕ} → Rows K R O n → (j : ℕ) → j < n → Within K j
tokens-hold {K = K} {n = n} r j h = within n K j r.tokens h

roots-hold : {K : TokenRow} {R : NoteRow} {O : RootRow} {n : ℕ} → Rows K R O n → (P : RootRow) → length P ≡ length O → (j : ℕ) → j < n → Within P j
roots-hold {n = n} r P e j h = within n P j (r.roots.0, omega (arith, r.roots.1, e)) h

parts-of : {K : TokenRow} {R : NoteRow} {n : ℕ} (k : Known K R n) → Parts k.0 K R k.1 0 n
parts-of {K = K} {R = R} k = parts k.0 K R k.2.bounded k.2.agrees

-- The tokens counted so far are no more than there are.
spare-room : {K : TokenRow} {R : NoteRow} {n : ℕ} → Known K R n → (m : ℕ) → m ≤ n → spare_to K 0 m ≤ n
spare-room {K = K} {n = n} k m h = omega (arith, parts_spare (parts-of k), spare_cut K 0 m n (omega arith) h)

span-behind : {K : TokenRow} {R : NoteRow} {O : RootRow} {n whole nodes from to : ℕ} (k : Known K R n) (b : Behind K R n whole O nodes from to) → SpanAt k.0 K R b.opener n
span-behind k b = span_at (parts-of k) b.opener (omega arith) b.inside b.opens

whole-at : {K : TokenRow} {R : NoteRow} {O : RootRow} {n whole nodes from to : ℕ} → Comes K R n whole O nodes from to → from ≡ 0 → Whole n nodes from to
whole-at s e = ⊎_elim (λ w. w) (λ b. absurd (omega (arith, b.begins))) s

behind-at :
    {K : TokenRow} {R : NoteRow} {O : RootRow} {n whole nodes from to : ℕ} → Comes K R n whole O nodes from to → (from ≡ 0 → ⊥) → Behind K R n whole O nodes from to
behind-at s n = ⊎_elim (λ w. absurd (n w.first)) (λ b. b) s

-- It lies in the text, and its operators are in force.
record Next (K : TokenRow) (R : NoteRow) (n from to : ℕ) : Type 0 where
  within_text : to ≤ n
  begun : from ≤ n
  force : (text : Bytes) × (T : Table) × InForce text T K R from to

in-force-at :
    {text : Bytes} {T : Table} {K : TokenRow} {R : NoteRow} {from to from' to' : ℕ} → from ≡ from' → to ≡ to' → InForce text T K R from' to'
    → InForce text T K R from to
in-force-at e f h = rw (e, f) h

next : {K : TokenRow} {R : NoteRow} {O : RootRow} {n whole nodes from to : ℕ} → Known K R n → Comes K R n whole O nodes from to → Next K R n from to
next k s =
    ⊎_elim
    (λ w. record { within_text = omega (arith, w.all); begun = omega (arith, w.first); force = (k.0, k.1, in-force-at w.first w.all k.2) })
    (λ b.
    let x = span-behind k b in
    record {
      within_text = omega (arith, b.ends, x.within);
      begun = omega (arith, b.begins, b.inside);
      force = (k.0, x.table, in-force-at b.begins b.ends x.known);
    })
    s

searched-at :
    {K : TokenRow} {R : NoteRow} {O P : RootRow} {r : Result ℕ Lost} {from to from' to' : ℕ} → from ≡ from' → to ≡ to'
    → Searched K R from to O P r → Searched K R from' to' O P r
searched-at e f s = rw (← e, ← f) s

-- It has a tree.
root-small :
    {K : TokenRow} {R : NoteRow} {O O' : RootRow} {P : RootRow} {n whole nodes from to at : ℕ} → Rows K R O n → Known K R n → Comes K R n whole O' nodes from to
    → Searched K R from to O' P (Ok at) → at < 1024
root-small {K = K} {R = R} {O' = O'} {P = P} {from = from} {to = to} {at = at} r k s h =
    let x = next k s in
    let (text, U, f) = x.force in
    omega (
      arith,
      found_within K R P from to (suc at) text U f (searched_found K R O' P from to at h text U f),
      x.within_text,
      r.tokens.0,
    )

-- That of the whole text.
whole-noted :
    {K : TokenRow} {R : NoteRow} {O : RootRow} {P : RootRow} {n whole nodes from to at : ℕ} → Comes K R n whole O nodes from to → Searched K R from to O P (Ok at)
    → from ≡ 0 → State K R n at P nodes from
whole-noted {K = K} {R = R} {O = O} {P = P} {n = n} {at = at} s h e =
    let w = whole-at s e in
    state-at e
    (record {
      before = before_none K R _;
      whole-text = searched_found K R O P 0 n at (searched-at w.first w.all h);
      counted = omega (arith, w.uncounted, spare_done K 0);
      in_text_lem = omega arith;
    })

-- That of the span behind an opener, at which it is stored: a node is left for its closer.
node-left : {K : TokenRow} {R : NoteRow} {O : RootRow} {n whole nodes from to : ℕ} → Known K R n → Behind K R n whole O nodes from to → 1 ≤ nodes
node-left {K = K} k b =
    omega (
      arith,
      b.state.counted,
      spare-room k (suc b.opener) b.inside,
      spare_last K 0 b.opener (omega arith),
      spare_opens K b.opener b.opens,
    )

opener-noted :
    {K : TokenRow} {R : NoteRow} {O₀ O P : RootRow} {n whole nodes from to at : ℕ} → Rows K R O₀ n → Known K R n → Comes K R n whole O nodes from to
    → Searched K R from to O P (Ok at) → length P ≡ length O₀ → (from ≡ 0 → ⊥)
    → State K R n whole (set P (from - 1) (record { left = at + 1; right = right P (from - 1) })) (nodes - 1) from
opener-noted {K = K} {R = R} {O = O} {P = P} {from = from} {at = at} r k c h e n =
    let b = behind-at c n in
    let x = span-behind k b in
    let s = searched-at b.begins b.ends h in
    let f = searched_found K R _ P (suc b.opener) (closer K b.opener) at s in
    let i : from - 1 ≡ b.opener = omega (arith, b.begins) in
    rw (i, add-one at)
    (state-at b.begins
    (record {
      before = before_opened K R O P b.opener (suc at) _ x.before s.kept (roots-hold r P e b.opener b.inside) b.state.before b.opens f;
      whole-text =
          stays_round K R O _ 0 _ _ b.state.whole-text b.opener (omega arith) b.opens
          (noted_outside K R O P b.opener (suc at) _ x.before s.kept);
      counted = omega (arith, node-left k b, b.state.counted, spare_last K 0 b.opener (omega arith), spare_opens K b.opener b.opens);
      in_text_lem = b.inside;
    }))

-- Where the two ways meet.
noted :
    (c : Joined-from-eq0)
    → State c.args.tokens.now c.args.notes.now c.args.count c.if-from-eq0.whole c.if-from-eq0.roots c.if-from-eq0.nodes c.spans.from
noted c =
    let s = c.spans.invariant in
    let h = c.in-Ok.ensures in
    elim c.if-from-eq0.branch [
      | then-from-eq0 w ↦ state-as w.roots-is w.whole-is w.nodes-is (whole-noted s.0 h w.if-from-eq0.true)
      | else-from-eq0 w ↦
          state-as w.roots-is w.whole-is w.nodes-is
          (opener-noted c.requires.0 c.requires.2 s.0 h (c.root.ensures.kept.long ∙ s.1) w.if-from-eq0.false)
    ]

row-long : (c : Joined-from-eq0) → length c.if-from-eq0.roots ≡ length c.args.roots.now
row-long c = c.if-from-eq0.auto.roots ∙ (c.root.ensures.kept.long ∙ c.spans.invariant.1)

-- At a `let`: the tokens up to its `in` are counted.
let-here : {K : TokenRow} {R : NoteRow} {n : ℕ} → Known K R n → (i : ℕ) → i < n → kind K i ≡ 7 → LetAt K i n
let-here k i h e = let_at (agrees_paired k.2.agrees) i (omega arith) h e

let-spared : {K : TokenRow} {i n : ℕ} → kind K i ≡ 7 → LetAt K i n → spare_to K 0 (closer K i) ≡ spare_to K 0 i + (closer K i - i)
let-spared {K = K} {i = i} e x =
    omega (
      arith,
      spare_cut K 0 i (closer K i) (omega arith) (omega (arith, x.before)),
      spare_next K i (closer K i) x.before,
      spare_let K i e,
      spare_nothing K (suc i) (closer K i) (λ j a b. spare_quiet K j (x.quiet j a b)),
    )

let-counted :
    {K : TokenRow} {R : NoteRow} {n nodes i : ℕ} → Known K R n → nodes + spare_to K 0 i ≡ n → kind K i ≡ 7 → LetAt K i n → closer K i - i ≤ nodes
let-counted {K = K} {i = i} k s e x = omega (arith, let-spared e x, s, spare-room k (closer K i) (omega (arith, x.within)))

later-or-same : (m j : ℕ) → m ≤ j → (m < j) ⊎ (j ≡ m)
later-or-same m j u = below m j inl (λ h. inr (omega arith))

-- All is searched.
ended-answer :
    {K : TokenRow} {R : NoteRow} {O : RootRow} {n whole nodes i : ℕ} → State K R n whole O nodes i → n ≤ i → (text : Bytes) (T : Table) → InForce text T K R 0 n
    → Checks text T K n O (tree_of T (range text K 0 n)) (Ok (record { nodes = nodes; root = whole }))
ended-answer {K = K} {R = R} {O = O} {n = n} {whole = whole} {nodes = nodes} {i = i} s l text T f =
    let all : i ≡ n = omega (arith, s.in_text_lem) in
    text_answer text K R O T n nodes whole
    (text_hung text K R O T n _ f (s.whole-text text T f) (rw all at s.before))
    (rw all at s.counted)

pub root-requires : goal.root-requires
root-requires c =
    let x = next c.requires.2 c.spans.invariant.0 in
    let r = c.requires.0 in
    let l = x.within_text in (
      record {
        tokens = (omega (arith, r.tokens.0), omega (arith, r.tokens.1));
        roles = (omega (arith, r.roles.0), omega (arith, r.roles.1));
        roots = (omega (arith, r.roots.0), omega (arith, r.roots.1, c.spans.invariant.1));
      },
      x.force,
    )

pub overflow_add-roots : goal.overflow_add-roots
overflow_add-roots c = omega (arith, root-small c.requires.0 c.requires.2 c.spans.invariant.0 c.in-Ok.ensures)

pub overflow_cast-roots : goal.overflow_cast-roots
overflow_cast-roots c = omega (arith, root-small c.requires.0 c.requires.2 c.spans.invariant.0 c.in-Ok.ensures)

pub overflow_sub-nodes : goal.overflow_sub-nodes
overflow_sub-nodes c = node-left c.requires.2 (behind-at c.spans.invariant.0 c.if-from-eq0.false)

pub loop-i-init : goal.loop-i-init
loop-i-init c = (noted (goal.at.loop-i-init c).Joined-from-eq0, omega arith)

pub overflow_sub-nodes-then-eq : goal.overflow_sub-nodes-then-eq
overflow_sub-nodes-then-eq c =
    let x = let-here c.requires.2 c.loop-i.i c.if-count-i.false (eqb-true _ 7 (sym (c.eq.ensures ∙ let_test _) ∙ c.if-eq.true)) in
    omega (arith, x.before)

pub overflow_sub-nodes-then-eq-2 : goal.overflow_sub-nodes-then-eq-2
overflow_sub-nodes-then-eq-2 c =
    let e = eqb-true _ 7 (sym (c.eq.ensures ∙ let_test _) ∙ c.if-eq.true) in
    let x = let-here c.requires.2 c.loop-i.i c.if-count-i.false e in
    omega (arith, let-counted c.requires.2 c.loop-i.invariant.0.counted e x)

pub loop-i-smaller-then-eq : goal.loop-i-smaller-then-eq
loop-i-smaller-then-eq c =
    let x = let-here c.requires.2 c.loop-i.i c.if-count-i.false (eqb-true _ 7 (sym (c.eq.ensures ∙ let_test _) ∙ c.if-eq.true)) in
    omega (arith, x.before)

pub loop-i-preserved-then-eq : goal.loop-i-preserved-then-eq
loop-i-preserved-then-eq c =
    let s = c.loop-i.invariant.0 in
    let k = c.args.tokens.now in
    let i = c.loop-i.i in
    let e = eqb-true _ 7 (sym (c.eq.ensures ∙ let_test _) ∙ c.if-eq.true) in
    let x = let-here c.requires.2 i c.if-count-i.false e in
    let opens-none : opens_span (kind k i) ≡ false = sym c.opens_span.ensures ∙ c.if-opens_span.false in (
      record {
        before =
            before_quiet k c.args.notes.now _ i (closer k i) s.before
            (λ j u v o.
            ⊎_elim (λ m. absurd (quiet_opens_none k j (x.quiet j m v) o)) (λ q. clash (rw q at o) opens-none) (later-or-same i j u));
        whole-text = s.whole-text;
        counted = omega (arith, let-spared e x, s.counted, let-counted c.requires.2 s.counted e x);
        in_text_lem = omega (arith, x.within);
      },
      omega (arith, c.loop-i.invariant.1, x.before),
    )

pub loop-i-preserved : goal.loop-i-preserved
loop-i-preserved c =
    let k = c.args.tokens.now in
    let j = c.loop-i.i in
    let s = c.loop-i.invariant.0 in
    let opens-none : opens_span (kind k j) ≡ false = sym c.opens_span.ensures ∙ c.if-opens_span.false in
    rw (add-one j) (
      record {
        before =
            before_quiet k c.args.notes.now _ j (suc j) s.before
            (λ m x y o. let same : m ≡ j = omega arith in clash (rw same at o) opens-none);
        whole-text = s.whole-text;
        counted =
            omega (
              arith,
              s.counted,
              spare_last k 0 j (omega arith),
              spare_none k j opens-none (eqb-false _ 7 (sym (c.eq.ensures ∙ let_test _) ∙ c.if-eq.false)),
            );
        in_text_lem = c.if-count-i.false;
      },
      omega (arith, c.loop-i.invariant.1),
    )

pub returns-then-from-eq0-2 : goal.returns-then-from-eq0-2
unfolding opener_in
returns-then-from-eq0-2 c =
    let K = c.args.tokens.now in
    let R = c.args.notes.now in
    let n = c.args.count in
    let w = whole-at c.spans.invariant.0 c.if-from-eq0-2.true in
    let k = c.in-Err.field-0.at in
    let s = searched-at w.first w.all c.in-Err.ensures in
    record {
      answer =
          λ text T f.
          refused_answer text K R T n _ none k (whole_refused text K R T n k (searched_none K R _ _ 0 n k s text T f));
      long = c.root.ensures.kept.long ∙ c.spans.invariant.1;
    }

pub returns-else-from-eq0-2 : goal.returns-else-from-eq0-2
unfolding opener_in
returns-else-from-eq0-2 c =
    let K = c.args.tokens.now in
    let R = c.args.notes.now in
    let n = c.args.count in
    let b = behind-at c.spans.invariant.0 c.if-from-eq0-2.false in
    let row = c.root.new.roots in
    let k = c.in-Err.field-0.at in
    let s = searched-at b.begins b.ends c.in-Err.ensures in
    let e : c.spans.from - 1 ≡ b.opener = omega (arith, b.begins) in
    record {
      answer =
          λ text T f.
          let t = b.state.whole-text text T f in
          subst (λ j. Checks text T K n row (tree_of T (range text K 0 n)) (Err (treeless (some j) k))) (sym e)
          (refused_answer text K R T n row (some b.opener) k
          (behind_refused text K R T n b.opener k (parts text K R f.bounded f.agrees) t.tree t.found b.inside b.opens
          (λ m l op U g. let x = b.state.before m l op text U g in (x.tree, x.found))
          (searched_none K R _ row (suc b.opener) (closer K b.opener) k s text)));
      long = c.root.ensures.kept.long ∙ c.spans.invariant.1;
    }

pub returns-then-not-nested : goal.returns-then-not-nested
returns-then-not-nested c =
    let j = (goal.at.returns-then-not-nested c).Joined-from-eq0 in
    let K = c.args.tokens.now in
    let R = c.args.notes.now in
    let n = c.args.count in
    let s = noted j in
    let low = c.requires.1 c.if-not-nested.true in
    let spares-none : (m : ℕ) → m ≤ n → spare_to K 0 m ≡ 0 = λ m l. spare_nothing K 0 m (λ i x y. spare_atom K i (low i (omega arith))) in
    record {
      answer =
          λ text T f.
          text_answer text K R _ T n _ _
          (text_hung text K R _ T n _ f (s.whole-text text T f) (λ i b o. absurd (atom_opens_none K i (low i b) o)))
          (omega (arith, s.counted, spares-none c.spans.from s.in_text_lem, spares-none n (omega arith)));
      long = row-long j;
    }

pub returns-then-count-i : goal.returns-then-count-i
returns-then-count-i c =
    record {
      answer = ended-answer c.loop-i.invariant.0 c.if-count-i.true;
      long = row-long (goal.at.returns-then-count-i c).Joined-from-eq0;
    }
