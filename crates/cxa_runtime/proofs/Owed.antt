-- Each change of the exceptions leaves room for those that are uncaught.
use Rattle.std.proofs.Common.{◌≡◌, ◌∙◌, refl, sym, ap, subst, ℕ, zero, suc, ◌+◌, ◌-◌, ◌<◌, ◌≤◌, ◌==◌, Bool, true, false, cond, nat_eq, [], ◌∷◌, length, slice_set, count_by, is_some, Option, Some, None, ℤ, pos, negsuc, arith}
use Rattle.std.specs.List.{IsDistinct, list_all}
use Rattle.std.proofs.lemmas.List.Sums.{count_by-le-length, sum_by-cons, sum_by-set}
use Rattle.caught_stack.specs.declared.header.Header.{Header}
use Rattle.caught_stack.specs.declared.ended.Ended.TheVariants.{Last}
use Rattle.caught_stack.specs.Slots.{is_in}
use Rattle.caught_stack.specs.Live.{Live, header_of, is_vacant}
use Rattle.caught_stack.specs.Caught.{Caught, slots_of, is_caught, is_counted}
use Rattle.caught_stack.specs.Exceptions.{Exceptions, IsSound, no_exceptions}
use Rattle.caught_stack.specs.Allocate.{with_header, freed}
use Rattle.caught_stack.specs.Begin.{one_more, begun, begun_on}
use Rattle.caught_stack.specs.End.{ended, ended_on, one_fewer, with_count}
use Rattle.caught_stack.specs.Rethrow.{rethrown, rethrown_on}
use Rattle.caught_stack.proofs.Bools.{and_true, both_true, eq_true}
use Rattle.caught_stack.proofs.Headers.{header_is, header_changed, header_kept, vacant_below, vacant_not_live}
use Rattle.caught_stack.proofs.Stacks.{all_also, all_but, not_in_by, not_below_top}
use Rattle.cxa_runtime.specs.Owed.{IsOwed, is_built, is_built_as, is_handled}

abbrev one_if : Bool → ℕ
one_if b = cond b 1 0

-- one exception more is uncaught
abbrev pub raised : Exceptions → Exceptions
raised e = record e { uncaught = e.uncaught + 1 }

abbrev built_at : Live → ℕ → Bool
built_at live slot = is_built (header_of live slot)

-- how many are built, when a slot changes
built_changed : (live : Live) (slot : ℕ) (h : Option Header) → slot < length live →
    count_by is_built (slice_set live slot h) + one_if (built_at live slot) ≡ count_by is_built live + one_if (is_built h)
built_changed live slot h low =
    ap (λ o. count_by is_built (slice_set live slot h) + one_if (is_built o)) (header_is live slot)
    ∙ sum_by-set (λ o. one_if (is_built o)) live slot h None low

handled_more : (entry : ℕ × ℤ) (more : Caught) → count_by is_handled (entry ∷ more) ≡ one_if (is_handled entry) + count_by is_handled more
handled_more entry more = sum_by-cons (λ x. one_if (is_handled x)) entry more

one_at_most : (b : Bool) → one_if b ≤ 1
one_at_most true = omega arith
one_at_most false = omega arith

-- no exception, at first
pub owed_at_first : IsOwed no_exceptions
owed_at_first = record { built = refl; owed = omega arith }

-- a slot that is not built is not caught
pub unbuilt_not_caught : (e : Exceptions) (slot : ℕ) → IsOwed e → built_at e.live slot ≡ false → is_caught e.caught slot ≡ false
unbuilt_not_caught e slot o h = not_in_by (built_at e.live) (slots_of e.caught) slot o.built h

pub vacant_unbuilt : (live : Live) (slot : ℕ) → is_vacant live slot ≡ true → built_at live slot ≡ false
vacant_unbuilt live slot v = go (header_of live slot) (vacant_not_live live slot v)
  where
    go : (h : Option Header) → is_some h ≡ false → is_built h ≡ false
    go None e = refl
    go (Some h) e = absurd (cc e)

others_built : (e : Exceptions) (slot : ℕ) (h : Option Header) → IsOwed e → is_caught e.caught slot ≡ false → list_all (built_at (slice_set e.live slot h)) (slots_of e.caught) ≡ true
others_built e slot h o out =
    all_but (built_at e.live) (built_at (slice_set e.live slot h)) (slots_of e.caught) slot out (λ t other. ap is_built (header_kept e.live slot t h other)) ∙ o.built

built_still : (live : Live) (slot t : ℕ) (h : Header) → slot < length live → is_built_as h.kind ≡ true → built_at live t ≡ true → built_at (slice_set live slot (Some h)) t ≡ true
built_still live slot t h low b was = go (nat_eq slot t) refl
  where
    go : (x : Bool) → nat_eq slot t ≡ x → built_at (slice_set live slot (Some h)) t ≡ true
    go true same = let equal : slot ≡ t = eq_true slot t same in subst (λ u. built_at (slice_set live slot (Some h)) u ≡ true) equal (ap is_built (header_changed live slot (Some h) low) ∙ b)
    go false other = ap is_built (header_kept live slot t (Some h) other) ∙ was

-- a header that is built stands in the place of another, and no more is uncaught than is built
with_built : (e : Exceptions) (slot : ℕ) (h : Header) (uncaught : ℕ) → slot < length e.live → is_built_as h.kind ≡ true → IsOwed e →
    uncaught + one_if (built_at e.live slot) ≤ e.uncaught + 1 → IsOwed (record (with_header slot h e) { uncaught = uncaught })
with_built e slot h uncaught low b o few =
    let changed = built_changed e.live slot (Some h) low in
    let one : one_if (is_built (Some h)) ≡ 1 = ap one_if b in
    let owed = o.owed in
    record {
      built = all_also (built_at e.live) (built_at (slice_set e.live slot (Some h))) (slots_of e.caught) o.built (λ t was. built_still e.live slot t h low b was);
      owed = omega arith;
    }

-- an object is made
pub owed_made : (e : Exceptions) (slot : ℕ) (h : Header) → IsSound e → IsOwed e → is_vacant e.live slot ≡ true → is_built_as h.kind ≡ false → IsOwed (with_header slot h e)
owed_made e slot h s o v b =
    let long = s.slots in
    let below = vacant_below e.live slot v in
    let changed = built_changed e.live slot (Some h) (omega arith) in
    let none : one_if (is_built (Some h)) ≡ 0 = ap one_if b in
    let unbuilt = vacant_unbuilt e.live slot v in
    let was : one_if (built_at e.live slot) ≡ 0 = ap one_if unbuilt in
    let owed = o.owed in
    record { built = others_built e slot (Some h) o (unbuilt_not_caught e slot o unbuilt); owed = omega arith }

-- an object that is not built, or not there yet, is thrown or raised
pub owed_raised : (e : Exceptions) (slot : ℕ) (h : Header) → IsOwed e → slot < length e.live → built_at e.live slot ≡ false → is_built_as h.kind ≡ true → IsOwed (raised (with_header slot h e))
owed_raised e slot h o low unbuilt b =
    let was : one_if (built_at e.live slot) ≡ 0 = ap one_if unbuilt in
    with_built e slot h (e.uncaught + 1) low b o (omega arith)

-- a foreign exception that nothing handles has its object, and is not uncaught
pub owed_passed : (e : Exceptions) (slot : ℕ) (h : Header) → IsOwed e → slot < length e.live → is_built_as h.kind ≡ true → IsOwed (with_header slot h e)
owed_passed e slot h o low b = with_built e slot h e.uncaught low b o (let most = one_at_most (built_at e.live slot) in omega arith)

-- an exception is entered
begun_handled : (slot : ℕ) (caught : Caught) → count_by is_handled (begun_on slot caught) ≤ count_by is_handled caught + 1
begun_handled slot [] = omega (arith, handled_more (slot, pos 1) [])
begun_handled slot ((s, n) ∷ more) = go (s == slot)
  where
    go : (b : Bool) → count_by is_handled (cond b ((s, one_more n) ∷ more) ((slot, pos 1) ∷ (s, n) ∷ more)) ≤ count_by is_handled ((s, n) ∷ more) + 1
    go true =
        let after = handled_more (s, one_more n) more in
        let before = handled_more (s, n) more in
        let most = one_at_most (is_handled (s, one_more n)) in
        omega arith
    go false = let after = handled_more (slot, pos 1) ((s, n) ∷ more) in omega arith

begun_built : (live : Live) (slot : ℕ) (caught : Caught) → built_at live slot ≡ true → list_all (built_at live) (slots_of caught) ≡ true → list_all (built_at live) (slots_of (begun_on slot caught)) ≡ true
begun_built live slot [] b all = both_true (built_at live slot) true b refl
begun_built live slot ((s, n) ∷ more) b all = go (s == slot)
  where
    go : (x : Bool) → list_all (built_at live) (slots_of (cond x ((s, one_more n) ∷ more) ((slot, pos 1) ∷ (s, n) ∷ more))) ≡ true
    go true = all
    go false = both_true (built_at live slot) (list_all (built_at live) (s ∷ slots_of more)) b all

pub owed_begun : (e : Exceptions) (slot : ℕ) → IsOwed e → built_at e.live slot ≡ true → 0 < e.uncaught → IsOwed (begun slot e)
owed_begun e slot o b some =
    let owed = o.owed in
    let more = begun_handled slot e.caught in
    record { built = begun_built e.live slot e.caught b o.built; owed = omega arith }

-- an exception is thrown again
rethrown_by : (e : Exceptions) (c : Caught) → e.caught ≡ c → IsOwed e → IsOwed (rethrown_on c e).1
rethrown_by e [] h o = o
rethrown_by e ((slot, pos zero) ∷ more) h o = o
rethrown_by e ((slot, negsuc n) ∷ more) h o = o
rethrown_by e ((slot, pos (suc n)) ∷ more) h o =
    let before = handled_more (slot, pos (suc n)) more in
    let after = handled_more (slot, negsuc n) more in
    let owed = subst (λ x. e.uncaught + count_by is_handled x ≤ count_by is_built e.live) h o.owed in
    record { built = ap (λ x. list_all (built_at e.live) (slots_of x)) (sym h) ∙ o.built; owed = omega arith }

pub owed_rethrown : (e : Exceptions) → IsOwed e → IsOwed (rethrown e).1
owed_rethrown e o = rethrown_by e e.caught refl o

-- the newest handler is left
counted_handled : (slot : ℕ) (n : ℤ) (more : Caught) → count_by is_handled (with_count slot (one_fewer n) more) ≤ count_by is_handled ((slot, n) ∷ more)
counted_handled slot (pos zero) more = let before = handled_more (slot, pos 0) more in omega arith
counted_handled slot (pos (suc zero)) more = let before = handled_more (slot, pos 1) more in omega arith
counted_handled slot (pos (suc (suc n))) more =
    let before = handled_more (slot, pos (suc (suc n))) more in
    let after : count_by is_handled (with_count slot (one_fewer (pos (suc (suc n)))) more) ≡ 1 + count_by is_handled more =
    (let less : suc (suc n) - 1 ≡ suc n = omega arith in ap (λ k. count_by is_handled (with_count slot (pos k) more)) less) ∙ handled_more (slot, pos (suc n)) more in
    omega arith
counted_handled slot (negsuc zero) more = let before = handled_more (slot, negsuc 0) more in omega arith
counted_handled slot (negsuc (suc n)) more =
    let before = handled_more (slot, negsuc (suc n)) more in
    let after = handled_more (slot, negsuc n) more in
    omega arith

counted_built : (live : Live) (slot : ℕ) (n : ℤ) (more : Caught) → list_all (built_at live) (slot ∷ slots_of more) ≡ true → list_all (built_at live) (slots_of (with_count slot n more)) ≡ true
counted_built live slot (pos zero) more all = (and_true (built_at live slot) (list_all (built_at live) (slots_of more)) all).1
counted_built live slot (pos (suc n)) more all = all
counted_built live slot (negsuc n) more all = all

ended_by : (e : Exceptions) (c : Caught) → e.caught ≡ c → IsOwed e → IsOwed (record e { caught = (ended_on c).1 })
ended_by e [] h o = record { built = refl; owed = let owed = o.owed in omega arith }
ended_by e ((slot, n) ∷ more) h o =
    let built = ap (λ x. list_all (built_at e.live) (slots_of x)) (sym h) ∙ o.built in
    let owed = subst (λ x. e.uncaught + count_by is_handled x ≤ count_by is_built e.live) h o.owed in
    let fewer = counted_handled slot n more in
    record { built = counted_built e.live slot (one_fewer n) more built; owed = omega arith }

pub owed_ended : (e : Exceptions) → IsOwed e → IsOwed (ended e).1
owed_ended e o = ended_by e e.caught refl o

-- the last handler of an exception is left: what was the newest, with one handler
pub record IsLast (e : Exceptions) (slot : ℕ) : Type 0 where
  pub more : Caught
  pub before : e.caught ≡ (slot, pos 1) ∷ more
  pub after : (ended e).1.caught ≡ more
  pub out : is_in (slots_of more) slot ≡ false

last_by : (e : Exceptions) (c : Caught) (slot : ℕ) → e.caught ≡ c → IsSound e → (ended_on c).0 ≡ Some (Last slot) → IsLast e slot
last_by e [] slot h s l = absurd (cc l)
last_by e ((t, pos zero) ∷ more) slot h s l =
    let counted : false ≡ true = sym (ap (λ x. list_all (λ entry. is_counted entry.1) x) h) ∙ s.counted in
    absurd (cc counted)
last_by e ((t, pos (suc (suc n))) ∷ more) slot h s l = absurd (cc l)
last_by e ((t, negsuc n) ∷ more) slot h s l = absurd (cc l)
last_by e ((t, pos (suc zero)) ∷ more) slot h s l =
    let same : t ≡ slot = cc l in
    let once = subst (λ x. IsDistinct nat_eq (slots_of x)) h s.once in
    record {
      more = more;
      before = h ∙ ap (λ u. (u, pos 1) ∷ more) same;
      after = ap (λ x. (ended_on x).1) h;
      out = subst (λ u. is_in (slots_of more) u ≡ false) same (not_below_top t (slots_of more) once);
    }

pub is_last : (e : Exceptions) (slot : ℕ) → IsSound e → (ended e).0 ≡ Some (Last slot) → IsLast e slot
is_last e slot s l = last_by e e.caught slot refl s l

-- the exception that is left is live, built, and no longer caught
pub last_is_built : (e : Exceptions) (slot : ℕ) → IsOwed e → IsLast e slot → built_at e.live slot ≡ true
last_is_built e slot o l =
    let all = ap (λ x. list_all (built_at e.live) (slots_of x)) (sym l.before) ∙ o.built in
    (and_true (built_at e.live slot) (list_all (built_at e.live) (slots_of l.more)) all).0

pub last_not_caught : (e : Exceptions) (slot : ℕ) → IsLast e slot → is_caught (ended e).1.caught slot ≡ false
last_not_caught e slot l = ap (λ c. is_caught c slot) l.after ∙ l.out

-- its object is given back, or counts as building again
pub owed_last : (e : Exceptions) (slot : ℕ) (h : Option Header) → IsOwed e → IsLast e slot → slot < length e.live → is_built h ≡ false → IsOwed (record (ended e).1 { live = slice_set e.live slot h })
owed_last e slot h o l low b =
    let all = ap (λ x. list_all (built_at e.live) (slots_of x)) (sym l.before) ∙ o.built in
    let rest = (and_true (built_at e.live slot) (list_all (built_at e.live) (slots_of l.more)) all).1 in
    let was : one_if (built_at e.live slot) ≡ 1 = ap one_if (last_is_built e slot o l) in
    let none : one_if (is_built h) ≡ 0 = ap one_if b in
    let changed = built_changed e.live slot h low in
    let owed = subst (λ x. e.uncaught + count_by is_handled x ≤ count_by is_built e.live) l.before o.owed in
    let before = handled_more (slot, pos 1) l.more in
    let after : count_by is_handled (ended e).1.caught ≡ count_by is_handled l.more = ap (count_by is_handled) l.after in
    record {
      built =
          ap (λ x. list_all (built_at (slice_set e.live slot h)) (slots_of x)) l.after
          ∙ all_but (built_at e.live) (built_at (slice_set e.live slot h)) (slots_of l.more) slot l.out (λ t other. ap is_built (header_kept e.live slot t h other))
          ∙ rest;
      owed = omega arith;
    }

-- an object that is building is given back
pub owed_freed : (e : Exceptions) (slot : ℕ) → IsOwed e → slot < length e.live → built_at e.live slot ≡ false → IsOwed (freed slot e)
owed_freed e slot o low b =
    let was : one_if (built_at e.live slot) ≡ 0 = ap one_if b in
    let changed = built_changed e.live slot None low in
    let owed = o.owed in
    record { built = others_built e slot None o (unbuilt_not_caught e slot o b); owed = omega arith }

-- there is always room for one more
pub few_uncaught : (e : Exceptions) → IsSound e → IsOwed e → e.uncaught < 2048
few_uncaught e s o =
    let owed = o.owed in
    let most = count_by-le-length is_built e.live in
    let long = s.slots in
    omega arith
