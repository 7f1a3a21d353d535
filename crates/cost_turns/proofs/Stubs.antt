-- The runtime's own functions run forwards.
use Rattle.std.proofs.Common.{◌≡◌, ℕ, zero, suc, ◌+◌, ◌<◌, ◌≤◌, List, [], ◌∷◌, take, Some, None, ap, subst, arith}
use Rattle.std.specs.Prelude.{ℤ, slice_get}
use Rattle.linear_forms.specs.Linear.{LinearOp, plain, label, jump, jump_zero, pad, jump_filter, free, resume, unexpected, return}
use Rattle.linear_forms.specs.Tables.{Cover, bare, padded}
use Rattle.linear_forms.specs.Stub.{Function, compiled, end_catch, terminating, call_unexpected, CodeOp, linear, runtime, leave_newest, StubRow, stub_rows, stub_op, stub_cover}
use Rattle.cost_paths.specs.Control.{label_of}
use Rattle.cost_turns.specs.Weights.{rows_weight}

-- what stands before a place
abbrev pub before : (CodeOp → ℕ) → List StubRow → ℕ → ℕ
before weigh rows p = rows_weight weigh (take p rows)

pub ahead : (weigh : CodeOp → ℕ) (rows : List StubRow) (p q : ℕ) (o : CodeOp) → elim (slice_get rows p) [ None ↦ None | Some x ↦ Some x.op ] ≡ Some o → p < q →
    before weigh rows p + weigh o ≤ before weigh rows q
ahead weigh [] p q o e lt = absurd (cc e)
ahead weigh (x ∷ rows) p zero o e lt = absurd (omega (arith, lt))
ahead weigh (x ∷ rows) zero (suc q) o e lt = let same : x.op ≡ o = cc e in let weights = ap weigh same in omega (arith, weights)
ahead weigh (x ∷ rows) (suc p) (suc q) o e lt = omega (arith, ahead weigh rows p q o e (omega (arith, lt)))

pub within_all : (weigh : CodeOp → ℕ) (rows : List StubRow) (p : ℕ) → before weigh rows p ≤ rows_weight weigh rows
within_all weigh [] zero = omega arith
within_all weigh [] (suc p) = omega arith
within_all weigh (x ∷ rows) zero = omega arith
within_all weigh (x ∷ rows) (suc p) = omega (arith, within_all weigh rows p)

-- each jump of a row and each pad of its cover is ahead of it
abbrev JumpAhead : ℕ → CodeOp → Type 0
JumpAhead k (linear (jump l)) = k < l
JumpAhead k (linear (jump_zero v l)) = k < l
JumpAhead k (linear (jump_filter s n l)) = k < l
JumpAhead k (runtime (leave_newest o d l)) = k < l
JumpAhead k o = Unit {0}

abbrev CoverAhead : ℕ → Cover → Type 0
CoverAhead k (padded q chain) = k < q
CoverAhead k c = Unit {0}

record RowAhead (k : ℕ) (x : StubRow) : Type 0 where
  jump : JumpAhead k x.op
  cover : CoverAhead k x.cover

abbrev RowsAhead : ℕ → List StubRow → Type 0
RowsAhead k [] = Unit {0}
RowsAhead k (x ∷ rows) = RowAhead k x × RowsAhead (k + 1) rows

still : (k : ℕ) (x : StubRow) → JumpAhead k x.op → CoverAhead k x.cover → RowAhead k x
still k x h c = record { jump = h; cover = c }

-- they are the runtime's own
abbrev pub IsStub : Function → Type 0
IsStub (compiled n) = ⊥
IsStub f = Unit {0}

all_ahead : (f : Function) → IsStub f → RowsAhead 0 (stub_rows f)
all_ahead (compiled n) h = absurd h
all_ahead end_catch h = (still 0 _ (omega arith) tt, (still 1 _ tt (omega arith), (still 2 _ tt tt, (still 3 _ tt tt, (still 4 _ tt tt, (still 5 _ tt tt, (still 6 _ tt tt, tt)))))))
all_ahead terminating h = (still 0 _ tt tt, (still 1 _ tt tt, tt))
all_ahead call_unexpected h = (
  still 0 _ tt tt,
  (
    still 1 _ tt (omega arith),
    (
      still 2 _ tt tt,
      (
        still 3 _ tt tt,
        (
          still 4 _ (omega arith) tt,
          (
            still 5 _ tt tt,
            (
              still 6 _ tt tt,
              (
                still 7 _ (omega arith) tt,
                (
                  still 8 _ (omega arith) tt,
                  (
                    still 9 _ tt tt,
                    (
                      still 10 _ tt (omega arith),
                      (still 11 _ tt tt, (still 12 _ tt tt, (still 13 _ tt (omega arith), (still 14 _ tt tt, (still 15 _ tt tt, (still 16 _ tt tt, (still 17 _ tt tt, tt))))))),
                    ),
                  ),
                ),
              ),
            ),
          ),
        ),
      ),
    ),
  ),
)

some_op : (a b : CodeOp) → Some a ≡ Some b → a ≡ b
some_op a b e = cc e

op_ahead : (k p : ℕ) (rows : List StubRow) (o : CodeOp) → RowsAhead k rows → elim (slice_get rows p) [ None ↦ None | Some x ↦ Some x.op ] ≡ Some o → JumpAhead (k + p) o
op_ahead k p [] o h e = absurd (cc e)
op_ahead k zero (x ∷ rows) o h e = let place : k ≡ k + 0 = omega arith in subst (λ n. JumpAhead n o) place (subst (JumpAhead k) (some_op x.op o e) h.0.jump)
op_ahead k (suc p) (x ∷ rows) o h e = let place : k + 1 + p ≡ k + suc p = omega arith in subst (λ n. JumpAhead n o) place (op_ahead (k + 1) p rows o h.1 e)

cover_ahead : (k p : ℕ) (rows : List StubRow) → RowsAhead k rows → CoverAhead (k + p) (elim (slice_get rows p) [ None ↦ bare | Some x ↦ x.cover ])
cover_ahead k p [] h = tt
cover_ahead k zero (x ∷ rows) h = let place : k ≡ k + 0 = omega arith in subst (λ n. CoverAhead n x.cover) place h.0.cover
cover_ahead k (suc p) (x ∷ rows) h =
    let place : k + 1 + p ≡ k + suc p = omega arith in
    subst (λ n. CoverAhead n (elim (slice_get rows p) [ None ↦ bare | Some y ↦ y.cover ])) place (cover_ahead (k + 1) p rows h.1)

from_zero : (p : ℕ) → 0 + p ≡ p
from_zero p = omega arith

pub stub_jump : (f : Function) (p : ℕ) (o : LinearOp) (l : ℕ) → IsStub f → stub_op f p ≡ Some (linear o) → label_of o ≡ Some l → p < l
stub_jump f p o l h e own = by o (subst (λ n. JumpAhead n (linear o)) (from_zero p) (op_ahead 0 p (stub_rows f) (linear o) (all_ahead f h) e)) own
  where
    moved : (m : ℕ) → p < m → Some m ≡ Some l → p < l
    moved m lt same = let number : m ≡ l = cc same in omega (arith, lt, number)

    by : (o : LinearOp) → JumpAhead p (linear o) → label_of o ≡ Some l → p < l
    by (jump m) lt same = moved m lt same
    by (jump_zero v m) lt same = moved m lt same
    by (jump_filter s n m) lt same = moved m lt same
    by (plain x) lt same = absurd (cc same)
    by (label m) lt same = absurd (cc same)
    by (pad a b) lt same = absurd (cc same)
    by (free s) lt same = absurd (cc same)
    by (resume s) lt same = absurd (cc same)
    by (unexpected a b) lt same = absurd (cc same)
    by (return x) lt same = absurd (cc same)

pub stub_skip : (f : Function) (p o d l : ℕ) → IsStub f → stub_op f p ≡ Some (runtime (leave_newest o d l)) → p < l
stub_skip f p o d l h e = subst (λ n. n < l) (from_zero p) (op_ahead 0 p (stub_rows f) (runtime (leave_newest o d l)) (all_ahead f h) e)

pub stub_pad : (f : Function) (p q : ℕ) (chain : List ℤ) → IsStub f → stub_cover f p ≡ padded q chain → p < q
stub_pad f p q chain h e = subst (CoverAhead p) e (subst (λ n. CoverAhead n (stub_cover f p)) (from_zero p) (cover_ahead 0 p (stub_rows f) (all_ahead f h)))
