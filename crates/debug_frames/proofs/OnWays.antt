-- Two FDEs on the way, from change to change: a step, and what is decided at the end.
use Rattle.std.proofs.Common.{◌≡◌, ◌≤◌, ◌<◌, ℕ, Bool, true, false, nat_lt, Option, Some, None, refl, ap, sym, ◌∙◌, arith, option_map, subst}
use Rattle.std.specs.Prelude.{IfSome}
use Rattle.std.proofs.lemmas.Bool.Decides.{nat_tests}
use Rattle.eh_bytes.specs.Memory.{Memory}
use Rattle.table_forms.specs.declared.found.Row.{Row}
use Rattle.table_forms.specs.Fde.{Fde, row_at}
use Rattle.table_forms.specs.Frames.{Frames}
use Rattle.frame_read.specs.ReadsFrames.{Listing}
use Rattle.frame_read.specs.SeenRow.{state_seen}
use Rattle.frame_read.specs.RowWalk.{HoldsUntil, IsWalk}
use Rattle.frame_read.specs.declared.row_walk.RowWalk.{RowWalk}
use Rattle.frame_read.specs.declared.listed.Fde as shown
use Rattle.debug_frames.specs.Decided.{Decides, FirstAt, SameFrom}
use Rattle.debug_frames.specs.Least.{lesser}
use Rattle.debug_frames.specs.OnWay.{OnWay}
use Rattle.debug_frames.specs.Pair.{IsPair, differing, with_rows}
use Rattle.debug_frames.specs.SameRow.{is_row}
use Rattle.debug_frames.proofs.ChangesDecide.{lesser_over, under_both}
use Rattle.debug_frames.proofs.Decided.{changes_decide}

-- the row of a location up to which it holds on
row_holds : (f : Fde) (pc : ℕ) (row : Row) (until : Option ℕ) → HoldsUntil f pc row until → (q : ℕ) → pc ≤ q → IfSome until (λ l. q < l) → row_at f q ≡ row
row_holds f pc row None h q from over = h q from
row_holds f pc row (Some l) h q from over = h.1 q from over

holds_behind : (f : Fde) (pc : ℕ) (row : Row) (until : Option ℕ) → HoldsUntil f pc row until → IfSome until (λ l. pc < l)
holds_behind f pc row None h = tt
holds_behind f pc row (Some l) h = h.0

pub row_here : (f : Fde) (pc : ℕ) (row : Row) (until : Option ℕ) → HoldsUntil f pc row until → row_at f pc ≡ row
row_here f pc row until h = row_holds f pc row until h pc (omega arith) (holds_behind f pc row until h)

-- the lesser location up to which two rows hold on lies behind
pub until_behind : (f g : Fde) (pc : ℕ) (row other : Row) (u v : Option ℕ) → HoldsUntil f pc row u → HoldsUntil g pc other v → IfSome (lesser u v) (λ l. pc < l)
until_behind f g pc row other u v h k = lesser_over pc u v (holds_behind f pc row u h) (holds_behind g pc other v k)

-- rows that are the same at a location are so as long as both hold on
pub same_until : (f g : Fde) (start pc end : ℕ) (row other : Row) (u v : Option ℕ) → HoldsUntil f pc row u → HoldsUntil g pc other v → is_row row other ≡ true → SameFrom f g start pc →
    ((q : ℕ) → q < end → IfSome (lesser u v) (λ l. q < l)) → SameFrom f g start end
same_until f g start pc end row other u v h k alike before over = λ q from to. by q from to (nat_lt q pc) refl
  where
    by : (q : ℕ) → start ≤ q → q < end → (b : Bool) → nat_lt q pc ≡ b → is_row (row_at f q) (row_at g q) ≡ true
    by q from to true is = before q from (grind (arith, nat_tests, is))
    by q from to false is =
        let behind : pc ≤ q = grind (arith, nat_tests, is) in
        let both = under_both q u v (over q to) in
        ap (λ r. is_row r (row_at g q)) (row_holds f pc row u h q behind both.0) ∙ ap (is_row row) (row_holds g pc other v k q behind both.1) ∙ alike

-- what decides all locations is one
differs_not : (f g : Fde) (pc end a b : ℕ) → FirstAt f g pc end a → FirstAt f g pc end b → a < b → ⊥
differs_not f g pc end a b first second less = let yes : is_row (row_at f a) (row_at g a) ≡ true = second.before a first.later less in let no = first.apart in cc

same_first : (f g : Fde) (pc end a b : ℕ) → FirstAt f g pc end a → FirstAt f g pc end b → a ≡ b
same_first f g pc end a b first second = by (nat_lt a b) (nat_lt b a) refl refl
  where
    by : (x y : Bool) → nat_lt a b ≡ x → nat_lt b a ≡ y → a ≡ b
    by true y is is' = absurd (differs_not f g pc end a b first second (grind (arith, nat_tests, is)))
    by false true is is' = absurd (differs_not f g pc end b a second first (grind (arith, nat_tests, is')))
    by false false is is' = grind (arith, nat_tests, is, is')

same_decision : (f g : Fde) (pc end : ℕ) (x y : Option ℕ) → Decides f g pc end x → Decides f g pc end y → x ≡ y
same_decision f g pc end None None h k = refl
same_decision f g pc end None (Some b) h k = let yes : is_row (row_at f b) (row_at g b) ≡ true = h b k.later k.inside in let no = k.apart in absurd cc
same_decision f g pc end (Some a) None h k = let yes : is_row (row_at f a) (row_at g a) ≡ true = k a h.later h.inside in let no = h.apart in absurd cc
same_decision f g pc end (Some a) (Some b) h k = ap (λ n. Some n) (same_first f g pc end a b h k)

pub decided_pair : {memory : Memory} {list : Listing} {debug : Frames} {fde : shown.Fde} {number start end : ℕ} (p : IsPair memory list debug fde number start end) (x : Option ℕ) →
    Decides p.first p.second start end x → option_map (with_rows p.first p.second) x ≡ differing p.first p.second start end
decided_pair {start = start} {end = end} p x h =
    let b = p.both in
    ap (option_map (with_rows p.first p.second))
    (same_decision p.first p.second start end x _ h (changes_decide p.first p.second start end b.first b.second b.first_end b.second_end))

-- ---- at a location of the walk
-- what a walk gives there
abbrev pub GoesTo : RowWalk → RowWalk → ℕ → Option ℕ → Type 0
GoesTo v w pc until = (f : Fde) (from : ℕ) → IsWalk v f from → from ≤ pc → IsWalk w f pc × HoldsUntil f pc (state_seen w.folding.row) until

-- both walks have come there, with these rows
pub record AtPlace (f g : Fde) (v w : RowWalk) (pc : ℕ) (row other : Row) (u t : Option ℕ) : Type 0 where
  pub first_walk : IsWalk v f pc
  pub first : HoldsUntil f pc row u
  pub second_walk : IsWalk w g pc
  pub second : HoldsUntil g pc other t

pub at_place : {f g : Fde} {v w : RowWalk} {start pc : ℕ} {v' w' : RowWalk} {row other : Row} {u t : Option ℕ} → OnWay f g v w start pc → GoesTo v v' pc u → GoesTo w w' pc t →
    row ≡ state_seen v'.folding.row → other ≡ state_seen w'.folding.row → AtPlace f g v' w' pc row other u t
at_place {f = f} {g = g} {pc = pc} {u = u} {t = t} way goes goes' is is' =
    let a = goes f way.first_at way.first_walk way.first_before in let b = goes' g way.second_at way.second_walk way.second_before in
    record { first_walk = a.0; first = subst (λ r. HoldsUntil f pc r u) (sym is) a.1; second_walk = b.0; second = subst (λ r. HoldsUntil g pc r t) (sym is') b.1 }

module _ {f g : Fde} {v w : RowWalk} {start pc : ℕ} {row other : Row} {u t : Option ℕ} (a : AtPlace f g v w pc row other u t) (before : SameFrom f g start pc) where
  rows_here : (b : Bool) → is_row row other ≡ b → is_row (row_at f pc) (row_at g pc) ≡ b
  rows_here b is = ap (λ r. is_row r (row_at g pc)) (row_here f pc row u a.first) ∙ ap (is_row row) (row_here g pc other t a.second) ∙ is

  -- the first location where they differ
  pub differs_here : (end : ℕ) → start ≤ pc → pc < end → is_row row other ≡ false → FirstAt f g start end pc
  differs_here end low high is = record { later = low; inside = high; apart = rows_here false is; before = before }

  pub rows_there : Some (pc, row, other) ≡ option_map (with_rows f g) (Some pc)
  rows_there = sym (ap (λ r. Some (pc, r, row_at g pc)) (row_here f pc row u a.first) ∙ ap (λ r. Some (pc, row, r)) (row_here g pc other t a.second))

  -- on to where one of the rows may change
  pub goes_behind : (l : ℕ) → lesser u t ≡ Some l → pc < l
  goes_behind l is = subst (λ (o : Option ℕ). IfSome o (λ m. pc < m)) is (until_behind f g pc row other u t a.first a.second)

  pub on_way : (l : ℕ) → is_row row other ≡ true → lesser u t ≡ Some l → OnWay f g v w start l
  on_way l alike is =
      let behind = goes_behind l is in
      record {
        first_at = pc;
        first_walk = a.first_walk;
        first_before = omega (arith, behind);
        second_at = pc;
        second_walk = a.second_walk;
        second_before = omega (arith, behind);
        same = same_until f g start pc l row other u t a.first a.second alike before (λ q to. subst (λ (o : Option ℕ). IfSome o (λ m. q < m)) (sym is) to);
      }

  -- or to the end, where that comes first
  pub same_out : (end : ℕ) → is_row row other ≡ true → IfSome (lesser u t) (λ l. end ≤ l) → SameFrom f g start end
  same_out end alike far = same_until f g start pc end row other u t a.first a.second alike before (λ q to. under (lesser u t) far q to)
    where
      under : (o : Option ℕ) → IfSome o (λ l. end ≤ l) → (q : ℕ) → q < end → IfSome o (λ l. q < l)
      under None h q to = tt
      under (Some l) h q to = omega (arith, h, to)
