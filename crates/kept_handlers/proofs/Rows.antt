-- What the tables say of the runtime's own functions, and what linear code has behind its pads.
use Rattle.std.proofs.Common.{◌≡◌, ℕ, zero, suc, ◌+◌, ◌≤◌, ℤ, true, false, List, [], ◌∷◌, Option, Some, None, refl, ap, ◌∙◌, subst, if◌then◌else◌, arith}
use Rattle.std.specs.Prelude.{⊤, nat_le, slice_get}
use Rattle.std.proofs.lemmas.Bool.Decides.{nat_tests}
use Rattle.region_forms.specs.Form.{leave}
use Rattle.region_forms.specs.World.{Word, number_word, address_in, Frame, World, with_slot}
use Rattle.linear_forms.specs.Linear.{LinearOp, plain, pad}
use Rattle.linear_forms.specs.Tables.{Cover, bare, unpadded, padded}
use Rattle.linear_forms.specs.Stub.{Function, compiled, end_catch, terminating, call_unexpected, CodeOp, linear, runtime, StubRow, call_unexpected_rows, stub_op, stub_cover}
use Rattle.linear_forms.specs.Activation.{Code, compiled_op, fetch, look}
use Rattle.linear_forms.specs.Operation.{wanted_by}
use Rattle.flight_homes.specs.Nest.{is_terminate}
use Rattle.linear_invariant.specs.Calls.{Waits}
use Rattle.kept_handlers.specs.Depths.{Depths, leaving_depth, unexpected_depth, depth_at, CodeOpens}
use Rattle.kept_handlers.specs.Handlers.{depth_below, IsStopped, KeepsStopped, WaitsForHandler}
use Rattle.kept_handlers.proofs.Kept.{called}

-- Of a row of call_unexpected: a place with a pad keeps what was stopped and has as many handlers as there are behind the pad; pads have slots 4 and 5, and
-- no operation has a place for a value.
abbrev CoverRight : ℕ → Cover → Type 0
CoverRight p bare = ⊤
CoverRight p unpadded = ⊤
CoverRight p (padded q chain) = (1 ≤ p) × (p ≤ 13) × (unexpected_depth (q + 1) ≤ unexpected_depth p)

abbrev PadRight : Option CodeOp → Type 0
PadRight None = ⊤
PadRight (Some (runtime o)) = ⊤
PadRight (Some (linear (pad o s))) = (4 ≡ o) × (5 ≡ s)
PadRight (Some (linear o)) = ⊤

abbrev RowsRight : ℕ → List StubRow → Type 0
RowsRight i [] = ⊤
RowsRight i (x ∷ xs) = (CoverRight i x.cover × PadRight (Some x.op) × (wanted_by (Some x.op) ≡ None)) × RowsRight (i + 1) xs

own_rows : RowsRight 0 call_unexpected_rows
own_rows =
    let guarded : ((1 ≤ 1) × (1 ≤ 13) × (unexpected_depth 4 ≤ unexpected_depth 1)) × ⊤ × (wanted_by None ≡ None) = ((omega arith, omega arith, omega arith), tt, refl) in
    let again : ((1 ≤ 10) × (10 ≤ 13) × (unexpected_depth 15 ≤ unexpected_depth 10)) × ⊤ × (wanted_by None ≡ None) = ((omega arith, omega arith, omega arith), tt, refl) in
    let instead : ((1 ≤ 13) × (13 ≤ 13) × (unexpected_depth 15 ≤ unexpected_depth 13)) × ⊤ × (wanted_by None ≡ None) = ((omega arith, omega arith, omega arith), tt, refl) in
    let other : ⊤ × ⊤ × (wanted_by None ≡ None) = (tt, tt, refl) in
    let pads : ⊤ × ((4 ≡ 4) × (5 ≡ 5)) × (wanted_by None ≡ None) = (tt, (refl, refl), refl) in
    (other, (guarded, (other, (pads, (other, (other, (other, (other, (other, (other, (again, (other, (other, (instead, (pads, (other, (other, (other, tt))))))))))))))))))

row_cover : (rows : List StubRow) (i p : ℕ) → RowsRight i rows → CoverRight (i + p) (elim (slice_get rows p) [ None ↦ bare | Some x ↦ x.cover ])
row_cover [] i p h = tt
row_cover (x ∷ xs) i zero h = let same : i ≡ i + 0 = omega arith in subst (λ n. CoverRight n x.cover) same h.0.0
row_cover (x ∷ xs) i (suc p) h =
    let same : i + 1 + p ≡ i + suc p = omega arith in subst (λ n. CoverRight n (elim (slice_get xs p) [ None ↦ bare | Some x ↦ x.cover ])) same (row_cover xs (i + 1) p h.1)

row_pad : (rows : List StubRow) (i p : ℕ) → RowsRight i rows → PadRight (elim (slice_get rows p) [ None ↦ None | Some x ↦ Some x.op ])
row_pad [] i p h = tt
row_pad (x ∷ xs) i zero h = h.0.1
row_pad (x ∷ xs) i (suc p) h = row_pad xs (i + 1) p h.1

row_wants : (rows : List StubRow) (i p : ℕ) → RowsRight i rows → wanted_by (elim (slice_get rows p) [ None ↦ None | Some x ↦ Some x.op ]) ≡ None
row_wants [] i p h = refl
row_wants (x ∷ xs) i zero h = h.0.2
row_wants (x ∷ xs) i (suc p) h = row_wants xs (i + 1) p h.1

pub own_wants : (p : ℕ) → wanted_by (stub_op call_unexpected p) ≡ None
own_wants p = row_wants call_unexpected_rows 0 p own_rows

own_pad : (p o s : ℕ) → stub_op call_unexpected p ≡ Some (linear (pad o s)) → (4 ≡ o) × (5 ≡ s)
own_pad p o s e = subst PadRight e (row_pad call_unexpected_rows 0 p own_rows)

pub own_cover : (p q : ℕ) (chain : List ℤ) → stub_cover call_unexpected p ≡ padded q chain → (1 ≤ p) × (p ≤ 13) × (unexpected_depth (q + 1) ≤ unexpected_depth p)
own_cover p q chain e =
    let same : 0 + p ≡ p = omega arith in
    subst (CoverRight p) e (subst (λ n. CoverRight n (stub_cover call_unexpected p)) same (row_cover call_unexpected_rows 0 p own_rows))

-- nothing comes out of terminate
pub ending_bare : (code : Code) (p : ℕ) → look code terminating p ≡ bare
ending_bare code zero = refl
ending_bare code (suc zero) = refl
ending_bare code (suc (suc p)) = refl

pub not_ending : (code : Code) (f : Function) (p : ℕ) → (look code f p ≡ bare → ⊥) → is_terminate f ≡ false
not_ending code (compiled n) p h = refl
not_ending code end_catch p h = refl
not_ending code terminating p h = absurd (h (ending_bare code p))
not_ending code call_unexpected p h = refl

-- behind its first operation end_catch has left what it leaves
pub left_by_now : (q : ℕ) → leaving_depth (q + 1) ≡ 0
left_by_now q = let from : nat_le 1 (q + 1) ≡ true = grind (arith, nat_tests) in ap (λ b. if b then 0 else 1) from

module _ (code : Code) (d : Depths) (opened : CodeOpens code d) where
  -- behind the pad of a place there are so many handlers at most
  abbrev pub Lands : Function → ℕ → ℕ → Type 0
  Lands f p most = (q : ℕ) (chain : List ℤ) → look code f p ≡ padded q chain → depth_at d f (q + 1) ≤ most

  -- in the newest call
  pub newest_lands : (f : Function) (p : ℕ) (o : LinearOp) → fetch code f p ≡ Some (linear o) → Lands f p (depth_at d f p)
  newest_lands (compiled n) p o there q chain covers = let behind = opened.behind n p q chain o there covers in omega (arith, behind)
  newest_lands end_catch p o there q chain covers = let none = left_by_now q in omega (arith, none)
  newest_lands terminating p o there q chain covers = omega arith
  newest_lands call_unexpected p o there q chain covers = (own_cover p q chain covers).2

  linear_there : (x : Option LinearOp) (op : CodeOp) → compiled_op x ≡ Some op → (o : LinearOp) × (op ≡ linear o)
  linear_there None op e = absurd (cc e)
  linear_there (Some o) op e = let same : op ≡ linear o = cc e in (o, same)

  waiting_lands : (g : Function) (n p q : ℕ) (x : Frame) (chain : List ℤ) → is_terminate g ≡ false → Waits code (Some g) (called (compiled n) p x) → code.cover_at n p ≡ padded q chain → d n (q + 1) ≤ depth_below d (Some g) (called (compiled n) p x)
  waiting_lands (compiled m) n p q x chain other waits covers =
      let it = linear_there (code.op_at n p) waits.op waits.there in
      let behind = opened.behind n p q chain it.0 (waits.there ∙ ap (λ y. Some y) it.1) covers in
      omega (arith, behind)
  waiting_lands end_catch n p q x chain other waits covers =
      let behind = opened.behind n p q chain (plain leave) (waits.there ∙ ap (λ y. Some y) waits.made) covers in
      omega (arith, behind)
  waiting_lands terminating n p q x chain other waits covers = absurd (cc other)
  waiting_lands call_unexpected n p q x chain other waits covers =
      let it = linear_there (code.op_at n p) waits.op waits.there in
      let behind = opened.behind n p q chain it.0 (waits.there ∙ ap (λ y. Some y) it.1) covers in
      omega (arith, behind)

  own_lands : (g : Function) (p q : ℕ) (x : Frame) (chain : List ℤ) → is_terminate g ≡ false → WaitsForHandler (Some g) (called call_unexpected p x) → stub_cover call_unexpected p ≡ padded q chain →
      unexpected_depth (q + 1) ≤ depth_below d (Some g) (called call_unexpected p x)
  own_lands (compiled m) p q x chain other waits covers = (own_cover p q chain covers).2
  own_lands end_catch p q x chain other waits covers = let up_to = (own_cover p q chain covers).1 in let from = waits refl in absurd (omega (arith, up_to, from))
  own_lands terminating p q x chain other waits covers = absurd (cc other)
  own_lands call_unexpected p q x chain other waits covers = (own_cover p q chain covers).2

  -- in a call that waits
  pub below_lands : (g f : Function) (p : ℕ) (x : Frame) → is_terminate g ≡ false → Waits code (Some g) (called f p x) → WaitsForHandler (Some g) (called f p x) → Lands f p (depth_below d (Some g) (called f p x))
  below_lands g (compiled n) p x other waits handler q chain covers = waiting_lands g n p q x chain other waits covers
  below_lands g end_catch p x other waits handler q chain covers = let none = left_by_now q in omega (arith, none)
  below_lands g terminating p x other waits handler q chain covers = omega arith
  below_lands g call_unexpected p x other waits handler q chain covers = own_lands g p q x chain other handler covers

  -- what was stopped is kept behind a pad
  module _ (older p q : ℕ) (x : Frame) (v : World) (a b : ℕ) (word : Word) (z : ℤ) where
    abbrev landed : Frame
    landed = with_slot b (number_word z) (with_slot a word x)

    object_kept : (4 ≡ a) × (5 ≡ b) → landed.slots 0 ≡ x.slots 0
    object_kept e =
        subst (λ b. (with_slot b (number_word z) (with_slot a word x)).slots 0 ≡ x.slots 0) e.1 (subst (λ a. (with_slot 5 (number_word z) (with_slot a word x)).slots 0 ≡ x.slots 0) e.0 refl)

    own_behind : (chain : List ℤ) → stub_cover call_unexpected p ≡ padded q chain → stub_op call_unexpected q ≡ Some (linear (pad a b)) → KeepsStopped call_unexpected (called call_unexpected p x) older v →
        IsStopped (called call_unexpected (q + 1) landed) older v
    own_behind chain covers pads h =
        let within = own_cover p q chain covers in
        let up_to = within.1 in
        let it = h within.0 (omega (arith, up_to)) in
        record {
          number = it.number;
          object = ap address_in (object_kept (own_pad q a b pads)) ∙ it.object;
          handled = it.handled;
          type = it.type;
          destructor = it.destructor;
          kept = it.kept;
          native = it.native;
        }

    pub stopped_behind : (f : Function) (chain : List ℤ) → look code f p ≡ padded q chain → fetch code f q ≡ Some (linear (pad a b)) → KeepsStopped f (called f p x) older v → KeepsStopped f (called f (q + 1) landed) older v
    stopped_behind (compiled n) chain covers pads h = tt
    stopped_behind end_catch chain covers pads h = tt
    stopped_behind terminating chain covers pads h = tt
    stopped_behind call_unexpected chain covers pads h = λ first last. own_behind chain covers pads h
