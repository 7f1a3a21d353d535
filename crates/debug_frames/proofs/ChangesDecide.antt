-- Rows that are the same at the locations of their changes are the same at all locations.
use Rattle.std.proofs.Common.{◌≡◌, ◌<◌, ◌≤◌, ℕ, zero, suc, Bool, true, false, List, [], ◌∷◌, ◌++◌, refl, ap, sym, ◌∙◌, arith, subst, ◌+◌, ◌-◌, if◌then◌else◌}
use Rattle.std.specs.Prelude.{Option, Some, None, IfSome, fold, filter, min, nat_lt, nat_le, ◌&&◌}
use Rattle.std.specs.List.{AllByRecursion}
use Rattle.std.proofs.lemmas.Bool.{cond_both}
use Rattle.std.proofs.lemmas.Bool.Decides.{nat_tests}
use Rattle.table_forms.specs.Row.{locations_from, least_of, next_location_of}
use Rattle.table_forms.specs.Fde.{Fde, row_at, next_location}
use Rattle.debug_frames.specs.SameRow.{is_row}
use Rattle.debug_frames.specs.Least.{lesser}
use Rattle.debug_frames.specs.Changes.{next_change, differ_from, difference_within}
use Rattle.debug_frames.specs.Decided.{Decides, InBoth}
use Rattle.debug_frames.proofs.RowStays.{row_stays}

-- what is found of some numbers is above a bound of all
least_over : (b : ℕ) (ns : List ℕ) (a : ℕ) → b < a → AllByRecursion (λ n. b < n) ns → b < fold min a ns
least_over b [] a over all = over
least_over b (n ∷ ns) a over all = let first = all.0 in least_over b ns (min a n) (omega (arith, over, first)) all.1

found_over : (b : ℕ) (test : ℕ → Bool) → ((n : ℕ) → test n ≡ true → b < n) → (ns : List ℕ) → IfSome (least_of (filter test ns)) (λ m. b < m)
found_over b test passes ns = least (filter test ns) (all ns)
  where
    all : (ms : List ℕ) → AllByRecursion (λ n. b < n) (filter test ms)
    all [] = tt
    all (m ∷ ms) = cond_both (test m) (m ∷ filter test ms) (filter test ms) (AllByRecursion (λ n. b < n)) (λ e. (passes m e, all ms)) (λ _. all ms)

    least : (ms : List ℕ) → AllByRecursion (λ n. b < n) ms → IfSome (least_of ms) (λ m. b < m)
    least [] over = tt
    least (m ∷ ms) over = least_over b ms m over.0 over.1

-- the next location lies behind
pub next_behind : (f : Fde) (pc : ℕ) → IfSome (next_location f pc) (λ l. pc < l)
unfolding next_location_of
next_behind f pc =
    found_over pc (λ l. nat_lt pc l && nat_le f.region.start l && nat_lt l (f.region.start + f.region.length)) one
    (locations_from f.region.start (f.cie.instructions ++ f.instructions))
  where
    one : (l : ℕ) → (nat_lt pc l && nat_le f.region.start l && nat_lt l (f.region.start + f.region.length)) ≡ true → pc < l
    one l e = step (nat_lt pc l) refl e
      where
        step : (b : Bool) → nat_lt pc l ≡ b → (b && nat_le f.region.start l && nat_lt l (f.region.start + f.region.length)) ≡ true → pc < l
        step true is e' = grind (arith, nat_tests, is)
        step false is e' = cc

pub lesser_over : (b : ℕ) (o p : Option ℕ) → IfSome o (λ l. b < l) → IfSome p (λ l. b < l) → IfSome (lesser o p) (λ l. b < l)
lesser_over b None p first second = second
lesser_over b (Some n) None first second = first
lesser_over b (Some n) (Some m) first second = omega (arith, first, second)

pub under_both : (q : ℕ) (o p : Option ℕ) → IfSome (lesser o p) (λ l. q < l) → IfSome o (λ l. q < l) × IfSome p (λ l. q < l)
under_both q None p over = (tt, over)
under_both q (Some n) None over = (over, tt)
under_both q (Some n) (Some m) over = (omega (arith, over), omega (arith, over))

stay_same : (f g : Fde) (pc end q : ℕ) → InBoth f g pc end → pc ≤ q → q < end → IfSome (next_change f g pc) (λ l. q < l) →
    is_row (row_at f q) (row_at g q) ≡ is_row (row_at f pc) (row_at g pc)
stay_same f g pc end q in_both up high over =
    let both = under_both q (next_location f pc) (next_location g pc) over in
    let first_end = in_both.first_end in
    let second_end = in_both.second_end in
    let one = row_stays f pc q in_both.first up (omega (arith, high, first_end)) both.0 in
    let two = row_stays g pc q in_both.second up (omega (arith, high, second_end)) both.1 in
    ap (λ r. is_row r (row_at g q)) one ∙ ap (is_row (row_at f pc)) two

-- from the next change on it goes on
goes_on : (f g : Fde) (pc end l : ℕ) → pc < l → ((q : ℕ) → pc ≤ q → q < end → q < l → is_row (row_at f q) (row_at g q) ≡ true) → (o : Option ℕ) → Decides f g l end o → Decides f g pc end o
goes_on f g pc end l behind same None rest = λ q up high. step q up high (nat_lt q l) refl
  where
    step : (q : ℕ) → pc ≤ q → q < end → (b : Bool) → nat_lt q l ≡ b → is_row (row_at f q) (row_at g q) ≡ true
    step q up high true e = same q up high (grind (arith, nat_tests, e))
    step q up high false e = rest q (grind (arith, nat_tests, e)) high
goes_on f g pc end l behind same (Some at) rest =
    let later = rest.later in
    let within = rest.inside in
    record {
      later = omega (arith, later, behind);
      inside = rest.inside;
      apart = rest.apart;
      before = λ q up high. step q up high within (nat_lt q l) refl;
    }
  where
    step : (q : ℕ) → pc ≤ q → q < at → at < end → (b : Bool) → nat_lt q l ≡ b → is_row (row_at f q) (row_at g q) ≡ true
    step q up high within true e = same q up (omega (arith, high, within)) (grind (arith, nat_tests, e))
    step q up high within false e = rest.before q (grind (arith, nat_tests, e)) high

pub decides : (n : ℕ) (f g : Fde) (end pc : ℕ) → end - pc ≤ n → InBoth f g pc end → Decides f g pc end (difference_within n f g end pc)
unfolding difference_within
decides zero f g end pc enough in_both = λ q up high. absurd (omega (arith, enough, up, high))
decides (suc n) f g end pc enough in_both = step (nat_lt pc end) refl (λ l less both. decides n f g end l less both)
  where
    More : Type 0
    More = (l : ℕ) → end - l ≤ n → InBoth f g l end → Decides f g l end (difference_within n f g end l)

    at_next : (o : Option ℕ) → next_change f g pc ≡ o → pc < end → is_row (row_at f pc) (row_at g pc) ≡ true → More →
        Decides f g pc end (differ_from true pc o (difference_within n f g end))
    at_next None is low same more = λ q up high. stay_same f g pc end q in_both up high (subst (λ o. IfSome o (λ l. q < l)) (sym is) tt) ∙ same
    at_next (Some l) is low same more =
        let behind : pc < l = subst (λ o. IfSome o (λ m. pc < m)) is (lesser_over pc (next_location f pc) (next_location g pc) (next_behind f pc) (next_behind g pc)) in
        let first = in_both.first in
        let second = in_both.second in
        let further : InBoth f g l end = record {
          first = omega (arith, first, behind);
          second = omega (arith, second, behind);
          first_end = in_both.first_end;
          second_end = in_both.second_end;
        } in
        goes_on f g pc end l behind (λ q up high under. stay_same f g pc end q in_both up high (subst (λ o. IfSome o (λ m. q < m)) (sym is) under) ∙ same)
        (difference_within n f g end l) (more l (omega (arith, enough, behind)) further)

    at_pc : (b : Bool) → is_row (row_at f pc) (row_at g pc) ≡ b → pc < end → More →
        Decides f g pc end (differ_from b pc (next_change f g pc) (difference_within n f g end))
    at_pc true same low more = at_next (next_change f g pc) refl low same more
    at_pc false apart low more = record { later = omega arith; inside = low; apart = apart; before = λ q up high. absurd (omega (arith, up, high)) }

    step : (b : Bool) → nat_lt pc end ≡ b → More →
        Decides f g pc end (if b then differ_from (is_row (row_at f pc) (row_at g pc)) pc (next_change f g pc) (difference_within n f g end) else None)
    step true e more = at_pc (is_row (row_at f pc) (row_at g pc)) refl (grind (arith, nat_tests, e)) more
    step false e more = λ q up high. absurd (grind (arith, nat_tests, e, up, high))
