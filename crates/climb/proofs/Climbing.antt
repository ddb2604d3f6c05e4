-- The state of the search against the pass over the items: which operators wait, what has been read, and that the tree of the span is
-- what the pass makes of these and of the rest. Each step of the search is a step of the pass.
use mathlib.Core.Path.{◌≡◌, refl, sym, ap, ◌∙◌}
use mathlib.Core.Bool.{true, false}
use mathlib.Core.Logic.{◌⊎◌, inl, inr}
use mathlib.Core.List.{[]}
use mathlib.Core.Option.{Option, none, some}
use Prim.Native.Nat.{ℕ, suc, ◌+◌, ◌≤◌, ◌<◌}
use native.Mathlib.Omega.{arith}
use Rattle.std.specs.declared.result.Result.TheVariants.{Ok}
use Rattle.grammar.specs.Bytes.{Bytes}
use Rattle.grammar.specs.Operator.{Role, Table, role}
use Rattle.grammar.specs.Span.{Item, single, pair, scope, items}
use Rattle.grammar.specs.SpanTree.{SpanTree, missing, operand, apply, present, role_over, root}
use Rattle.grammar.specs.Climb.{
  Stack,
  empty,
  waiting,
  pushed,
  closed,
  takes,
  arrives,
  postfix_last,
  finish,
  Ending,
  stops,
  ending,
  climb_from,
  unread,
  search,
}
use Rattle.grammar.proofs.ClimbReached.{at}
use Rattle.grammar.proofs.Logic.{impossible, clash}
use Rattle.rows.specs.Fields.{TokenRow, NoteRow, RootRow, operands, arrival, left, right}
use Rattle.rows.specs.Codes.{role_code, role_of, Fit, Bounded, arrival_of, gives_way_to}
use Rattle.rows.specs.Tokens.{range}
use Rattle.rows.specs.Agreeing.{Agrees}
use Rattle.rows.proofs.Codes.{role-code}
use Rattle.rows.proofs.PairedCases.{agrees_paired, paired_ordered}
use Rattle.rows.proofs.PairedItems.{items_done}
use Rattle.climb.specs.Searched.{width, span_mark, SpanRooted, Searches, InForce}
use Rattle.climb.specs.Beside.{item_end, arrives_at}
use Rattle.rows.specs.InUse.{role_beside}
use Rattle.climb.proofs.Roles.{fit_over, gives_same, gives_last}
use Rattle.climb.proofs.Pass.{
  Next,
  last,
  comes,
  pass_operand,
  pass_untaken,
  pass_two,
  pass_waits,
  pass_refuses,
  pushed_waits,
  pass_closes,
  AllTake,
  arrives-takes,
  final_left,
}
use Rattle.climb.proofs.Coming.{OperatorAt, operand_at, operator_at}
use Rattle.climb.proofs.Waiting.{
  width_missing,
  width_operand,
  width_apply,
  mark_most,
  Same,
  Built,
  WaitsAt,
  Waits,
  waits_behind,
  built_kept,
  waits_kept,
  over-code,
  taking-code,
}
use Rattle.climb.proofs.Arrives.{widest, TakingCode, untaken, taken, arrives-same}

-- The innermost operator that waits does not give way, if one waits.
abbrev pub Stops : NoteRow → RootRow → ℕ → ℕ → ℕ → Type 0
Stops R O h d v = (h ≡ 0) ⊎ ((a : ℕ) × (h ≡ suc a) × (gives_way_to (role_of (role_beside R a (left O a) d)) v ≡ false))

module _ (text : Bytes) (T : Table) (K : TokenRow) (R : NoteRow) (from to : ℕ) where
  abbrev pub found : Ending
  found = search T from (items (range text K from to))

  -- The pass stops at token `i`.
  abbrev pub Halts : ℕ → Type 0
  Halts i = found ≡ stops i

  -- `h` is one more than the innermost operator that waits, `d` one more than the root of what has been read, 0 for none, and `q` the
  -- number of that root's role, `k` that of the role in which what waits takes an operand; `i` is the token that comes.
  pub record Climbing (O : RootRow) (h d q k i : ℕ) : Type 0 where
    pub stack : Stack
    pub current : SpanTree
    pub start : ℕ
    pub chain : Waits T R from O stack h start
    pub built : Built T R O start current
    pub mark : d ≡ span_mark start current
    pub inner : q ≡ role_code (root T current)
    pub behind : i ≡ start + width current
    pub rest : Agrees text K R T i to
    pub takes_by : d ≡ 0 → TakingCode T stack k
    pub is_taken : present current ≡ true → takes T stack ≡ true
    pub all_take : AllTake T stack
    pub finds : found ≡ climb_from T i (at stack current) (items (range text K i to))

  -- The same with the innermost operator that waits taken off, at token `a`.
  pub record Top (O : RootRow) (d q i a : ℕ) : Type 0 where
    pub before : SpanTree
    pub name : Bytes
    pub outer : Stack
    pub current : SpanTree
    pub start : ℕ
    pub waits_at : WaitsAt T R O start a before name
    pub chain : Waits T R from O outer (right O a) start
    pub built : Built T R O (suc a) current
    pub mark : d ≡ span_mark (suc a) current
    pub inner : q ≡ role_code (root T current)
    pub behind : i ≡ suc a + width current
    pub rest : Agrees text K R T i to
    pub is_taken : present current ≡ true → takes T (waiting before name outer) ≡ true
    pub all_take : AllTake T (waiting before name outer)
    pub finds : found ≡ climb_from T i (at (waiting before name outer) current) (items (range text K i to))

  pub begins : (O : RootRow) → InForce text T K R from to → Climbing O 0 0 0 widest from
  unfolding search unread span_mark root role_code present
  begins O f =
      record {
        stack = empty;
        current = missing;
        start = from;
        chain = (refl, refl);
        built = record { rooted = tt };
        mark = refl;
        inner = refl;
        behind = omega (arith, width_missing);
        rest = f.agrees;
        takes_by = λ e. refl;
        is_taken = λ e. absurd (clash e refl);
        all_take = tt;
        finds = refl;
      }

  pub top : (O : RootRow) (h d q k i a : ℕ) → Climbing O h d q k i → h ≡ suc a → Top O d q i a
  top O h d q k i a x e = go x.stack x.chain x.is_taken x.all_take x.finds
    where
      go :
          (w : Stack) → Waits T R from O w h x.start → (present x.current ≡ true → takes T w ≡ true) → AllTake T w
          → found ≡ climb_from T i (at w x.current) (items (range text K i to)) → Top O d q i a
      go empty c u v f = absurd (omega arith)
      go (waiting l m w) (s, b, p, g, t, c) u v f =
          let same : b ≡ a = omega arith in
          let here : x.start ≡ suc a = omega arith in
          record {
            before = l;
            name = m;
            outer = w;
            current = x.current;
            start = s;
            waits_at = rw same at t;
            chain = rw same at c;
            built = rw here at x.built;
            mark = rw here at x.mark;
            inner = x.inner;
            behind = rw here at x.behind;
            rest = x.rest;
            is_taken = u;
            all_take = v;
            finds = f;
          }

  -- Where things stand.
  pub bounds : (O : RootRow) (h d q k i : ℕ) → Climbing O h d q k i → (from ≤ i) × (i ≤ to) × (h ≤ i) × (d ≤ i)
  bounds O h d q k i x =
      let b = waits_behind T R from O x.stack h x.start x.chain in
      let m = mark_most x.start x.current in
      (omega (arith, x.behind), paired_ordered (agrees_paired x.rest), omega (arith, x.behind), omega (arith, x.behind, x.mark))

  pub top_bounds : (O : RootRow) (d q i a : ℕ) → Top O d q i a → (from ≤ a) × (a < i) × (right O a ≤ a)
  top_bounds O d q i a x =
      let b = waits_behind T R from O x.outer (right O a) x.start x.chain in
      (omega (arith, x.waits_at.place), omega (arith, x.behind), omega (arith, x.waits_at.place))

  -- An operand comes behind another one.
  shown : (s : SpanTree) (i : ℕ) → (span_mark i s ≡ 0 → ⊥) → present s ≡ true
  unfolding span_mark present
  shown missing i n = absurd (n refl)
  shown (operand x) i n = refl
  shown (apply l m r) i n = refl

  absent : (s : SpanTree) (i : ℕ) → span_mark i s ≡ 0 → s ≡ missing
  unfolding span_mark
  absent missing i e = refl
  absent (operand x) i e = impossible cc
  absent (apply l m r) i e = impossible cc

  pub refuses :
      (O : RootRow) (h d q k i : ℕ) → Climbing O h d q k i → i < to → arrival R i ≡ 0 → (d ≡ 0 → ⊥) → Halts i
  refuses O h d q k i x l e n =
      let y = operand_at x.rest l e in
      let s = shown x.current x.start (λ z. n (x.mark ∙ z)) in
      x.finds ∙ rw y.comes (pass_two T i x.stack x.current y.item _ y.is_one s)

  -- An operand comes, and is not taken.
  pub untaken_here :
      (O : RootRow) (h d q k i : ℕ) → Bounded T → Climbing O h d q k i → i < to → arrival R i ≡ 0 → d ≡ 0 → k ≡ 0 → Halts i
  untaken_here O h d q k i b x l e n z =
      let y = operand_at x.rest l e in
      let o = absent x.current x.start (sym x.mark ∙ n) in
      x.finds ∙ rw (y.comes, o) (pass_untaken T i x.stack y.item _ y.is_one (untaken T b x.stack k (x.takes_by n) z))

  -- An operand comes behind none.
  single_rooted : (O : RootRow) (i : ℕ) (x : Item) → left O i ≡ 0 → right O i ≡ 0 → SpanRooted O i (operand x)
  single_rooted O i (single a) e f = (e, f)
  single_rooted O i (pair ts) e f = tt
  single_rooted O i (scope ds ts) e f = tt

  pub takes_operand :
      (O O' : RootRow) (h d q k i : ℕ) → Bounded T → Climbing O h d q k i → i < to → arrival R i ≡ 0 → d ≡ 0 → (k ≡ 0 → ⊥)
      → left O' i ≡ 0 → right O' i ≡ 0 → Same O O' from i → Climbing O' h (suc i) 0 k (item_end K i)
  unfolding span_mark root role_code
  takes_operand O O' h d q k i b x l e n z p r f =
      let y = operand_at x.rest l e in
      let o = absent x.current x.start (sym x.mark ∙ n) in
      let here : i ≡ x.start = omega (arith, x.behind, ap width o, width_missing) in
      let kept = waits_kept T R from O O' x.stack h x.start (λ j a b. f j a (omega arith)) x.chain in
      let t = taken T b x.stack k (x.takes_by n) z in
      record {
        stack = x.stack;
        current = operand y.item;
        start = i;
        chain = rw here kept;
        built = record { rooted = single_rooted O' i y.item p r };
        mark = refl;
        inner = refl;
        behind = y.behind ∙ ap (λ n. i + n) (sym (width_operand y.item));
        rest = y.rest;
        takes_by = λ w. absurd (omega arith);
        is_taken = λ w. t;
        all_take = x.all_take;
        finds = x.finds ∙ rw (o, y.comes) (pass_operand T i (item_end K i) x.stack y.item _ y.behind y.is_one t);
      }

  module _ (b : Bounded T) where
    -- What comes next has the number that the search holds against the operators that wait.
    pub next_operator : (i v : ℕ) → Agrees text K R T i to → i < to → v ≡ arrival R i → (v ≡ 0 → ⊥) → Next T (items (range text K i to)) v
    next_operator i v g l e n =
        let y = operator_at g l (λ z. n (e ∙ z)) in
        comes y.name (items (range text K (suc i) to)) y.comes (e ∙ y.number) y.is_one

    nothing_left : (i : ℕ) → Agrees text K R T i to → to ≤ i → items (range text K i to) ≡ []
    nothing_left i g l =
        let same : i ≡ to = omega (arith, paired_ordered (agrees_paired g)) in
        rw same (items_done text K to)

    pub next_last : (i v : ℕ) → Agrees text K R T i to → to ≤ i → v ≡ 2047 → Next T (items (range text K i to)) v
    next_last i v g l e = last (nothing_left i g l) e

    module _ (O : RootRow) (d q i a : ℕ) (x : Top O d q i a) where
      -- The numbers of the roles that the search reads.
      pub code : role_beside R a (left O a) d ≡ role_code (role_over T x.before x.name x.current)
      code =
          over-code T R a x.name x.waits_at.operates x.before x.current (left O a) d x.start (suc a) x.waits_at.own x.mark

      in_role : role_of (role_beside R a (left O a) d) ≡ role_over T x.before x.name x.current
      in_role = ap role_of code ∙ role-code (role_over T x.before x.name x.current) (fit_over T b x.before x.name x.current)

      module _ (v : ℕ) (n : Next T (items (range text K i to)) v) (g : gives_way_to (role_of (role_beside R a (left O a) d)) v ≡ true) where
        finds_closed : found ≡ climb_from T i (at x.outer (apply x.before x.name x.current)) (items (range text K i to))
        finds_closed =
            x.finds ∙ pass_closes T x.before x.name x.outer x.current b i _ v n (rw in_role at g)

        -- It closes, and is what has been read.
        pub closes :
            (h : ℕ) → h ≡ suc a → (O' : RootRow)
            → right O' a ≡ d → left O' a ≡ left O a → ((j : ℕ) → (j ≡ a → ⊥) → operands O' j ≡ operands O j)
            → (k : ℕ) → Climbing O' (right O a) h (role_beside R a (left O a) d) k i
        unfolding span_mark root
        closes h y O' p r f k =
            let w = x.waits_at in
            let l = w.before in
            let place = w.place in
            record {
              stack = x.outer;
              current = apply x.before x.name x.current;
              start = x.start;
              chain = waits_kept T R from O O' x.outer (right O a) x.start (λ j z u. f j (λ s. omega arith)) x.chain;
              built = record {
                rooted =
                    rw (← place) (
                      r ∙ w.own,
                      p ∙ x.mark,
                      (built_kept T R O O' x.start x.before (λ j z u. f j (λ s. omega arith)) l).rooted,
                      (built_kept T R O O' (suc a) x.current (λ j z u. f j (λ s. omega arith)) x.built).rooted,
                    );
              };
              mark = y ∙ ap suc place;
              inner = code;
              behind = omega (arith, x.behind, width_apply x.before x.name x.current);
              rest = x.rest;
              takes_by = λ z. absurd (omega arith);
              is_taken = λ z. x.all_take.0;
              all_take = x.all_take.1;
              finds = finds_closed;
            }

    module _ (O : RootRow) (h d q k i : ℕ) (x : Climbing O h d q k i) where
      -- So the operator that comes waits.
      stays :
          (v : ℕ) → Stops R O h d v → (m : Bytes) → v ≡ arrival_of (role T m) → pushed T m x.stack x.current ≡ waiting x.current m x.stack
      unfolding pushed
      stays v s m e = go x.stack x.chain
        where
          go : (w : Stack) → Waits T R from O w h x.start → pushed T m w x.current ≡ waiting x.current m w
          go empty c = refl
          go (waiting l t w) (y, a, p, g, u, c) =
              pushed_waits T l t w x.current m
              (sym (gives_same T m (role_over T l t x.current) fit) ∙ (ap (gives_way_to (role_over T l t x.current)) (sym e) ∙ not_given s))
            where
              fit : Fit (role_over T l t x.current)
              fit = fit_over T b l t x.current

              own : role_of (role_beside R a (left O a) d) ≡ role_over T l t x.current
              own =
                  ap role_of (over-code T R a t u.operates l x.current (left O a) d y x.start u.own x.mark)
                  ∙ role-code (role_over T l t x.current) fit

              not_given : Stops R O h d v → gives_way_to (role_over T l t x.current) v ≡ false
              not_given (inl z) = absurd (omega arith)
              not_given (inr (a', z, f)) = let same : a' ≡ a = omega arith in rw (← own, ← same) f

      -- The test of it.
      tested : (l : i < to) (n : arrival R i ≡ 0 → ⊥) → arrives_at R i d q k ≡ arrives T x.current (operator_at x.rest l n).name x.stack
      tested l n =
          let y = operator_at x.rest l n in
          arrives-same T b R i y.name y.noted x.current x.stack x.start d q k x.mark x.inner x.takes_by

      module _ (v : ℕ) (s : Stops R O h d v) (l : i < to) (e : v ≡ arrival R i) (n : v ≡ 0 → ⊥) where
        abbrev come : OperatorAt text T K R i to
        come = operator_at x.rest l (λ z. n (e ∙ z))

        keeps : pushed T come.name x.stack x.current ≡ waiting x.current come.name x.stack
        keeps = stays v s come.name (e ∙ come.number)

        pub refused_here : arrives_at R i d q k ≡ false → Halts i
        refused_here t =
            x.finds ∙ rw come.comes (pass_refuses T i x.stack x.current come.name _ come.is_one keeps (sym (tested l (λ z. n (e ∙ z))) ∙ t))

        pub waits :
            arrives_at R i d q k ≡ true → (O' : RootRow) → left O' i ≡ d → right O' i ≡ h → Same O O' from i
            → Climbing O' (suc i) 0 0 (role_beside R i d 1) (suc i)
        unfolding span_mark root role_code present
        waits a O' p r f =
            let y = come in
            let ok = sym (tested l (λ z. n (e ∙ z))) ∙ a in
            let bound = waits_behind T R from O x.stack h x.start x.chain in
            let place = x.behind in
            let by = taking-code T R i y.name y.noted x.current d x.start x.mark in
            record {
              stack = waiting x.current y.name x.stack;
              current = missing;
              start = suc i;
              chain = (
                x.start,
                i,
                refl,
                refl,
                record {
                  place = place;
                  before = built_kept T R O O' x.start x.current (λ j u c. f j (omega arith) (omega arith)) x.built;
                  operates = record { noted = y.noted; is_one = λ z. n (e ∙ z) };
                  own = p ∙ x.mark;
                },
                rw r (waits_kept T R from O O' x.stack h x.start (λ j u c. f j u (omega arith)) x.chain),
              );
              built = record { rooted = tt };
              mark = refl;
              inner = refl;
              behind = omega (arith, width_missing);
              rest = y.rest;
              takes_by = λ z. by;
              is_taken = λ z. absurd (clash z refl);
              all_take = (arrives-takes T x.current y.name x.stack x.is_taken ok, x.all_take);
              finds = x.finds ∙ rw y.comes (pass_waits T i x.stack x.current y.name _ y.is_one keeps ok);
            }

    -- Nothing more comes, and an operator waits in no role.
    no_role_none : (o : Option Role) → Fit o → gives_way_to o 2047 ≡ false → o ≡ none
    no_role_none none f e = refl
    no_role_none (some q) f e = absurd (clash (gives_last q f.1) e)

    pub left_over :
        (O : RootRow) (d q i a : ℕ) → Top O d q i a → to ≤ i → gives_way_to (role_of (role_beside R a (left O a) d)) 2047 ≡ false → Halts i
    unfolding climb_from ending
    left_over O d q i a x l g =
        let o = no_role_none _ (fit_over T b x.before x.name x.current) (rw (in_role O d q i a x) at g) in
        let e = final_left T x.before x.name x.outer x.current x.is_taken o in
        x.finds ∙ rw (nothing_left i x.rest l, e)

    -- Nothing more comes, and none waits: what has been read is the tree, if anything has.
    alone : (O : RootRow) (w : Stack) (h e : ℕ) → Waits T R from O w h e → h ≡ 0 → (w ≡ empty) × (e ≡ from)
    alone O empty h e c z = (refl, c.1)
    alone O (waiting l m w) h e c z = absurd (omega (arith, c.2))

    module _ (O : RootRow) (h d q k i : ℕ) (x : Climbing O h d q k i) (l : to ≤ i) (z : h ≡ 0) where
      finds_read : found ≡ ending i (finish T (at empty x.current))
      unfolding climb_from
      finds_read = x.finds ∙ rw (nothing_left i x.rest l, (alone O x.stack h x.start x.chain z).0)

      pub nothing_read : d ≡ 0 → Halts i
      unfolding finish postfix_last ending present
      nothing_read e = finds_read ∙ rw (absent x.current x.start (sym x.mark ∙ e))

      pub ends : (a : ℕ) → d ≡ suc a → Searches O from found (Ok a)
      unfolding finish closed ending
      ends a e =
          let o = x.current in
          let there = shown o x.start (λ y. omega (arith, x.mark)) in
          let first = (alone O x.stack h x.start x.chain z).1 in
          let is : found ≡ Ending.found o = finds_read ∙ rw (finish, there) in
          rw (is, ← first) ((a, refl, sym e ∙ x.mark), x.built.rooted)
