-- Worlds that are alike for exceptions, and the numbers that exceptions have.
use Rattle.std.proofs.Common.{◌≡◌, ℕ, zero, suc, ◌+◌, ◌≤◌, ◌<◌, Bool, true, false, ◌==◌, List, [], ◌∷◌, ◌++◌, length, length-set, Some, refl, sym, ap, ◌∙◌, subst, if◌then◌else◌, arith}
use Rattle.std.specs.Prelude.{not, ◌||◌, slice_get, slice_set}
use Rattle.std.specs.List.{AllByRecursion}
use Rattle.std.proofs.lemmas.Bool.Decides.{nat_tests}
use Rattle.eh_outer.specs.declared.module.Reply.{Reply}
use Rattle.eh_outer.specs.Domain.{RepliesAreInts}
use Rattle.meaning_forms.specs.Class.{some_of}
use Rattle.region_forms.specs.Form.{Kinds, SlotKind, int_slot, address_slot, object_slot, help_slot}
use Rattle.region_forms.specs.Caught.{Entry}
use Rattle.region_forms.specs.Lives.{is_built, is_on_top}
use Rattle.region_forms.specs.World.{Word, nothing, number_word, address_word, flying, unwinding, World, Exception, building, Live, exception_in}
use Rattle.region_forms.specs.Effect.{bytes_after, int_passed_to, world_passed, new_world}
use Rattle.flight_homes.specs.Lives.{Known, LiveKnown}
use Rattle.linear_invariant.specs.Handled.{Unhandled}
use Rattle.linear_invariant.proofs.Worlds.{Quiet, itself, quiet_then}

-- the world as it is seen from outside

pub quiet : (w v : World) → v.live ≡ w.live → v.caught ≡ w.caught → v.last_number ≡ w.last_number → v.input ≡ w.input → v.replies ≡ w.replies → Quiet w v
quiet w v l c n i r = record {
  live = l;
  caught = c;
  last = n;
  given = λ g. record {
    bytes = subst (AllByRecursion (λ b. b < 256)) (sym i) g.bytes;
    few = subst (λ xs. length xs ≤ 64) (sym r) g.few;
    fit = subst (AllByRecursion RepliesAreInts) (sym r) g.fit;
  };
}

pub bytes_left : (xs : List ℕ) → AllByRecursion (λ b. b < 256) xs → AllByRecursion (λ b. b < 256) (bytes_after xs)
bytes_left [] h = tt
bytes_left (x ∷ xs) h = h.1

fit_at : (xs : List (List Reply)) (i : ℕ) (y : List Reply) → AllByRecursion RepliesAreInts xs → slice_get xs i ≡ Some y → RepliesAreInts y
fit_at [] i y h e = absurd (cc e)
fit_at (x ∷ xs) zero y h e = let same : x ≡ y = cc e in subst RepliesAreInts same h.0
fit_at (x ∷ xs) (suc i) y h e = fit_at xs i y h.1 e

fit_set : (xs : List (List Reply)) (i : ℕ) (y : List Reply) → AllByRecursion RepliesAreInts xs → RepliesAreInts y → AllByRecursion RepliesAreInts (slice_set xs i y)
fit_set [] i y h own = tt
fit_set (x ∷ xs) zero y h own = (own, h.1)
fit_set (x ∷ xs) (suc i) y h own = (h.0, fit_set xs i y h.1 own)

pub fewer_replies : (w : World) (i : ℕ) (y : Reply) (left : List Reply) → slice_get w.replies i ≡ Some (y ∷ left) → Quiet w (record w { replies = slice_set w.replies i left })
fewer_replies w i y left e = record {
  live = refl;
  caught = refl;
  last = refl;
  given = λ g.
      let lengths = length-set w.replies i left in
      let few = g.few in
      record { bytes = g.bytes; few = omega (arith, lengths, few); fit = fit_set w.replies i left g.fit (fit_at w.replies i (y ∷ left) g.fit e).1 };
}

-- what a call is passed

passed_one : (t : SlotKind) (c s : ℕ) (word : Word) (w : World) → Quiet w (int_passed_to t c s word w)
passed_one int_slot c s (number_word v) w = quiet w _ refl refl refl refl refl
passed_one int_slot c s nothing w = itself w
passed_one int_slot c s (address_word a) w = itself w
passed_one int_slot c s (flying e t) w = itself w
passed_one int_slot c s (unwinding z) w = itself w
passed_one address_slot c s word w = itself w
passed_one object_slot c s word w = itself w
passed_one help_slot c s word w = itself w

passed_quiet : (ks : Kinds) (c s : ℕ) (given : List Word) (w : World) → Quiet w (world_passed ks c s given w)
passed_quiet ks c s [] w = itself w
passed_quiet ks c s (x ∷ given) w =
    let v = int_passed_to (ks s) c s x w in quiet_then w v (world_passed ks c (s + 1) given v) (passed_one (ks s) c s x w) (passed_quiet ks c (s + 1) given v)

pub call_quiet : (ks : Kinds) (given : List Word) (depth : ℕ) (w : World) → Quiet w (new_world ks given depth w)
call_quiet ks given depth w =
    let v = world_passed ks w.calls 0 given w in quiet_then w v (new_world ks given depth w) (passed_quiet ks w.calls 0 given w) (quiet v _ refl refl refl refl refl)

-- exceptions have numbers from 1 on

pub built_number : (known : Known) (n : ℕ) (xs : List Live) (e : ℕ) → AllByRecursion (LiveKnown known n) xs → is_built (exception_in xs e) ≡ true → (1 ≤ e) × (e ≤ n)
built_number known n [] e h b = absurd (cc b)
built_number known n (x ∷ xs) e h b = go (x.number == e) refl b (λ r. built_number known n xs e h.1 r)
  where
    go : (c : Bool) → (x.number == e) ≡ c → is_built (if c then x.exception else exception_in xs e) ≡ true → (is_built (exception_in xs e) ≡ true → (1 ≤ e) × (e ≤ n)) → (1 ≤ e) × (e ≤ n)
    go true i b rest = let same : x.number ≡ e = grind (arith, nat_tests, i) in (omega (arith, same, h.0.first), omega (arith, same, h.0.given))
    go false i b rest = rest b

pub live_number : (known : Known) (n : ℕ) (xs : List Live) (e : ℕ) → AllByRecursion (LiveKnown known n) xs → some_of (λ x. x.number == e) xs ≡ true → (1 ≤ e) × (e ≤ n)
live_number known n [] e h b = absurd (cc b)
live_number known n (x ∷ xs) e h b = go (x.number == e) refl b (λ r. live_number known n xs e h.1 r)
  where
    go : (c : Bool) → (x.number == e) ≡ c → (c || some_of (λ z. z.number == e) xs) ≡ true → (some_of (λ z. z.number == e) xs ≡ true → (1 ≤ e) × (e ≤ n)) → (1 ≤ e) × (e ≤ n)
    go true i b rest = let same : x.number ≡ e = grind (arith, nat_tests, i) in (omega (arith, same, h.0.first), omega (arith, same, h.0.given))
    go false i b rest = rest b

pub found_new : (known : Known) (n : ℕ) (y : Exception) (xs : List Live) → AllByRecursion (LiveKnown known n) xs → exception_in (xs ++ record { number = n + 1; exception = y } ∷ []) (n + 1) ≡ y
found_new known n y [] h = let self : (n + 1 == n + 1) ≡ true = grind (arith, nat_tests) in ap (λ b. if b then y else building) self
found_new known n y (x ∷ xs) h =
    let le = h.0.given in
    let other : (x.number == n + 1) ≡ false = grind (arith, nat_tests, le) in
    ap (λ b. if b then x.exception else exception_in (xs ++ record { number = n + 1; exception = y } ∷ []) (n + 1)) other ∙ found_new known n y xs h.1

pub some_same : {A : Type 0} {y z : A} → Some y ≡ Some z → y ≡ z
some_same i = cc i

-- what no handler has is on top
pub unhandled_top : (e : ℕ) (xs : List Entry) → Unhandled e xs → is_on_top e xs ≡ true
unhandled_top e [] h = refl
unhandled_top e (x ∷ xs) h = by (x.number == e) (some_of (λ y. y.number == e) xs) (none xs h.1)
  where
    none : (ys : List Entry) → Unhandled e ys → some_of (λ y. y.number == e) ys ≡ false
    none [] h = refl
    none (y ∷ ys) h = ap (λ b. b || some_of (λ z. z.number == e) ys) h.0 ∙ none ys h.1

    by : (b c : Bool) → c ≡ false → (b || not c) ≡ true
    by true c i = refl
    by false true i = absurd (cc i)
    by false false i = refl
