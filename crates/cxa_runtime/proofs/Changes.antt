-- What each change of the exception objects needs, and what it leaves.
use Rattle.std.proofs.Common.{◌≡◌, ◌∙◌, refl, sym, ap, subst, ℕ, ◌+◌, ◌<◌, ◌==◌, ◌||◌, Bool, true, false, cond, not, nat_eq, nat_lt, [], ◌∷◌, length, Option, Some, None, option_map, option_and_then, is_some, IfSome, count_by, ℤ, arith, IsTrue}
use Rattle.std.specs.List.{list_any, IsDistinct}
use Rattle.std.specs.Option.{option_eq, option_map_or}
use Rattle.std.proofs.lemmas.Bool.Decides.{nat_tests}
use Rattle.std.proofs.lemmas.List.Sums.{count_by-le-length, sum_by-cons}
use Rattle.caught_stack.specs.declared.header.Header.{Header}
use Rattle.caught_stack.specs.declared.header.HeaderKind.{HeaderKind}
use Rattle.caught_stack.specs.declared.header.HeaderKind.TheVariants.{Building, Native, Foreign}
use Rattle.caught_stack.specs.declared.ended.Ended.{Ended}
use Rattle.caught_stack.specs.declared.ended.Ended.TheVariants.{Last}
use Rattle.caught_stack.specs.Live.{Live, slots, header_of, is_vacant, live_count}
use Rattle.caught_stack.specs.Caught.{Caught, slots_of, is_caught, is_newest, newest}
use Rattle.caught_stack.specs.Exceptions.{Exceptions, IsSound}
use Rattle.caught_stack.specs.Allocate.{Allocates, freed, with_header}
use Rattle.caught_stack.specs.End.{ended}
use Rattle.caught_stack.specs.Slots.{is_in}
use Rattle.caught_stack.proofs.Bools.{eq_true, or_false}
use Rattle.caught_stack.proofs.Headers.{header_changed, live_below, vacant_below}
use Rattle.caught_stack.proofs.Stacks.{not_below_top}
use Rattle.cxa_runtime.specs.Owed.{IsOwed, is_built, is_built_as}
use Rattle.cxa_runtime.specs.declared.object.Object.{Object}
use Rattle.cxa_runtime.specs.Objects.{is_building, object_in, first_vacant_from, slot_for}
use Rattle.cxa_runtime.specs.Leaving.{newest_object, building_again}
use Rattle.cxa_runtime.specs.MayBegin.{holds_other}
use Rattle.cxa_runtime.specs.Flying.{one_uncaught}
use Rattle.cxa_runtime.proofs.Owed.{owed_made, owed_passed, owed_raised, owed_freed, owed_last, unbuilt_not_caught, vacant_unbuilt, IsLast, is_last, last_not_caught}

-- an object that is building is not built
pub building_unbuilt : (kind : HeaderKind) → is_building kind ≡ true → is_built_as kind ≡ false
building_unbuilt Building b = refl
building_unbuilt (Native type destructor) b = absurd (cc b)
building_unbuilt (Foreign k token) b = absurd (cc b)

pub unbuilt_at : (live : Live) (slot : ℕ) (h : Header) → header_of live slot ≡ Some h → is_building h.kind ≡ true → is_built (header_of live slot) ≡ false
unbuilt_at live slot h at b = ap is_built at ∙ building_unbuilt h.kind b

pub below_of : (live : Live) (slot : ℕ) (h : Header) → header_of live slot ≡ Some h → slot < length live
below_of live slot h at = live_below live slot (ap is_some at)

-- an object that is building is not caught
pub building_not_caught : (e : Exceptions) (slot : ℕ) (h : Header) → IsOwed e → header_of e.live slot ≡ Some h → is_building h.kind ≡ true → is_caught e.caught slot ≡ false
building_not_caught e slot h o at b = unbuilt_not_caught e slot o (unbuilt_at e.live slot h at b)

pub building_out : (e : Exceptions) (slot : ℕ) (h : Header) → IsOwed e → header_of e.live slot ≡ Some h → is_building h.kind ≡ true → IsTrue (not (is_caught e.caught slot))
building_out e slot h o at b = ap not (building_not_caught e slot h o at b)

pub freed_owed : (e : Exceptions) (slot : ℕ) (h : Header) → IsOwed e → header_of e.live slot ≡ Some h → is_building h.kind ≡ true → IsOwed (freed slot e)
freed_owed e slot h o at b = owed_freed e slot o (below_of e.live slot h at) (unbuilt_at e.live slot h at b)

pub thrown_owed : (e : Exceptions) (slot : ℕ) (h new : Header) → IsOwed e → header_of e.live slot ≡ Some h → is_building h.kind ≡ true → is_built_as new.kind ≡ true →
    IsOwed (one_uncaught (with_header slot new e))
thrown_owed e slot h new o at b t = owed_raised e slot new o (below_of e.live slot h at) (unbuilt_at e.live slot h at b) t

pub thrown_live : (e : Exceptions) (slot : ℕ) (h new : Header) → header_of e.live slot ≡ Some h → header_of (with_header slot new e).live slot ≡ Some new
thrown_live e slot h new at = header_changed e.live slot (Some new) (below_of e.live slot h at)

pub aimed_owed : (e : Exceptions) (slot : ℕ) (h new : Header) → IsOwed e → header_of e.live slot ≡ Some h → is_built_as new.kind ≡ true → IsOwed (with_header slot new e)
aimed_owed e slot h new o at t = owed_passed e slot new o (below_of e.live slot h at) t

vacant_low : (e : Exceptions) (slot : ℕ) → IsSound e → is_vacant e.live slot ≡ true → slot < length e.live
vacant_low e slot s v = let long = s.slots in let below = vacant_below e.live slot v in omega arith

-- a new object, by the slot that was given
pub received_owed : (e : Exceptions) (slot : ℕ) (h : Header) → IsSound e → IsOwed e → is_vacant e.live slot ≡ true → is_built_as h.kind ≡ true → IsOwed (with_header slot h e)
received_owed e slot h s o v b = owed_passed e slot h o (vacant_low e slot s v) b

pub received_ready : (e : Exceptions) (slot : ℕ) (h : Header) → IsSound e → IsOwed e → is_vacant e.live slot ≡ true → is_built_as h.kind ≡ true → IsOwed (one_uncaught (with_header slot h e))
received_ready e slot h s o v b = owed_raised e slot h o (vacant_low e slot s v) (vacant_unbuilt e.live slot v) b

pub made_owed : (e : Exceptions) (slot : ℕ) (h : Header) → IsSound e → IsOwed e → is_vacant e.live slot ≡ true → is_building h.kind ≡ true → IsOwed (with_header slot h e)
made_owed e slot h s o v b = owed_made e slot h s o v (building_unbuilt h.kind b)

-- an object that is found, and its header
pub object_known : (slot : ℕ) (h : Option Header) (o : Object) → option_map (λ x. record { slot = slot; header = x }) h ≡ Some o → (slot ≡ o.slot) × (h ≡ Some o.header)
object_known slot None o found = absurd (cc found)
object_known slot (Some x) o found =
    let here : Object = record { slot = slot; header = x } in
    let same : here ≡ o = cc found in
    (ap (λ (y : Object). y.slot) same, ap (λ (y : Object). Some y.header) same)

pub newest_known : (e : Exceptions) (o : Object) → newest_object e ≡ Some o → (newest e.caught ≡ Some o.slot) × (header_of e.live o.slot ≡ Some o.header)
newest_known e o found = go (newest e.caught) refl
  where
    go : (top : Option ℕ) → newest e.caught ≡ top → (newest e.caught ≡ Some o.slot) × (header_of e.live o.slot ≡ Some o.header)
    go None h = absurd (let none : None ≡ Some o = sym (ap (λ t. option_and_then (object_in e.live) t) h) ∙ found in cc none)
    go (Some slot) h =
        let known = object_known slot (header_of e.live slot) o (sym (ap (λ t. option_and_then (object_in e.live) t) h) ∙ found) in
        (h ∙ ap Some known.0, ap (header_of e.live) (sym known.0) ∙ known.1)

-- the newest object, which its last handler leaves
pub last_object : (e new : Exceptions) (o : Object) (left : Option Ended) (slot : ℕ) → IsSound e → newest_object e ≡ Some o → (left, new) ≡ ended e → left ≡ Some (Last slot) → IsLast e o.slot
last_object e new o left slot s found h last =
    let was : (ended e).0 ≡ Some (Last slot) = sym (ap (λ p. p.0) h) ∙ last in
    let l = is_last e slot s was in
    let top : Some slot ≡ Some o.slot = sym (ap newest l.before) ∙ (newest_known e o found).0 in
    let same : slot ≡ o.slot = cc top in
    subst (IsLast e) same l

pub native_let_go : (e new : Exceptions) (o : Object) (left : Option Ended) (slot : ℕ) → IsSound e → IsOwed e → newest_object e ≡ Some o → (left, new) ≡ ended e → left ≡ Some (Last slot) →
    IsOwed (with_header o.slot (building_again o.header) new)
native_let_go e new o left slot s owed found h last =
    let l = last_object e new o left slot s found h last in
    let low = below_of e.live o.slot o.header (newest_known e o found).1 in
    let after : new ≡ (ended e).1 = ap (λ p. p.1) h in
    subst (λ x. IsOwed (with_header o.slot (building_again o.header) x)) (sym after) (owed_last e o.slot (Some (building_again o.header)) owed l low refl)

pub foreign_let_go : (e new : Exceptions) (o : Object) (left : Option Ended) (slot : ℕ) → IsSound e → IsOwed e → newest_object e ≡ Some o → (left, new) ≡ ended e → left ≡ Some (Last slot) →
    IsOwed (freed o.slot new)
foreign_let_go e new o left slot s owed found h last =
    let l = last_object e new o left slot s found h last in
    let low = below_of e.live o.slot o.header (newest_known e o found).1 in
    let after : new ≡ (ended e).1 = ap (λ p. p.1) h in
    subst (λ x. IsOwed (freed o.slot x)) (sym after) (owed_last e o.slot None owed l low refl)

pub last_out : (e new : Exceptions) (o : Object) (left : Option Ended) (slot : ℕ) → IsSound e → newest_object e ≡ Some o → (left, new) ≡ ended e → left ≡ Some (Last slot) →
    IsTrue (not (is_caught new.caught o.slot))
last_out e new o left slot s found h last =
    let l = last_object e new o left slot s found h last in
    ap (λ p. not (is_caught p.1.caught o.slot)) h ∙ ap not (last_not_caught e o.slot l)

-- where all slots are live, none can be given
none_vacant : (live : Live) (n : ℕ) → count_by is_some live ≡ length live → first_vacant_from n live ≡ None
unfolding first_vacant_from
none_vacant [] n all = refl
none_vacant (None ∷ more) n all =
    let first = sum_by-cons (λ (o : Option Header). cond (is_some o) 1 0) None more in
    let most = count_by-le-length is_some more in
    absurd (omega arith)
none_vacant (Some h ∷ more) n all =
    let first = sum_by-cons (λ (o : Option Header). cond (is_some o) 1 0) (Some h) more in
    none_vacant more (n + 1) (omega arith)

pub full_gives_none : (e : Exceptions) → IsSound e → live_count e.live ≡ slots → slot_for e.live slots ≡ None
full_gives_none e s all = none_vacant e.live 0 (all ∙ sym s.slots)

-- the slot that was given is one that could be wished for
pub wished_by : (e new : Exceptions) (h : Header) (given : Option ℕ) → IsSound e → (is_some given ≡ false → live_count e.live ≡ slots) → Allocates h e new given →
    (wish : ℕ) × (slot_for e.live wish ≡ given)
wished_by e new h None s full a = (slots, full_gives_none e s (full refl))
wished_by e new h (Some slot) s full a = (slot, ap (λ b. cond b (Some slot) (first_vacant_from 0 e.live)) a.0)

pub receive_live : (e new : Exceptions) (h : Header) (given : Option ℕ) → IsSound e → Allocates h e new given → IfSome given (λ slot. header_of new.live slot ≡ Some h)
receive_live e new h None s a = tt
receive_live e new h (Some slot) s a = ap (λ x. header_of x.live slot) a.1 ∙ header_changed e.live slot (Some h) (vacant_low e slot s a.0)

-- by what the allocation gave
pub make_owed : (e new : Exceptions) (h : Header) (given : Option ℕ) → IsSound e → IsOwed e → is_building h.kind ≡ true → Allocates h e new given → IsOwed new
make_owed e new h None s o b a = subst IsOwed (sym a) o
make_owed e new h (Some slot) s o b a = subst IsOwed (sym a.1) (made_owed e slot h s o a.0 b)

pub receive_owed : (e new : Exceptions) (h : Header) (given : Option ℕ) → IsSound e → IsOwed e → is_built_as h.kind ≡ true → Allocates h e new given → IsOwed new
receive_owed e new h None s o b a = subst IsOwed (sym a) o
receive_owed e new h (Some slot) s o b a = subst IsOwed (sym a.1) (received_owed e slot h s o a.0 b)

pub receive_ready : (e new : Exceptions) (h : Header) (given : Option ℕ) → IsSound e → IsOwed e → is_built_as h.kind ≡ true → Allocates h e new given →
    IfSome given (λ slot. IsOwed (one_uncaught new))
receive_ready e new h None s o b a = tt
receive_ready e new h (Some slot) s o b a = subst (λ x. IsOwed (one_uncaught x)) (sym a.1) (received_ready e slot h s o a.0 b)

-- a slot that is not another one
apart : (s t : ℕ) → nat_eq s t ≡ false → not (t == s) ≡ true
apart s t other = grind (arith, nat_tests)

deeper : (x : ℕ × ℤ) (xs : Caught) (k : ℕ) → nat_lt (k + 1) (length (x ∷ xs)) ≡ nat_lt k (length xs)
deeper x xs k = grind (arith, nat_tests)

not_empty : (x : ℕ × ℤ) (xs : Caught) → nat_lt 0 (length (x ∷ xs)) ≡ true
not_empty x xs = grind (arith, nat_tests)

any_at_once : (p : ℕ × ℤ → Bool) (x : ℕ × ℤ) (xs : Caught) → p x ≡ true → list_any p (x ∷ xs) ≡ nat_lt 0 (length (x ∷ xs))
any_at_once p x xs h = ap (λ b. b || list_any p xs) h ∙ sym (not_empty x xs)

any_below : (p : ℕ × ℤ → Bool) (x : ℕ × ℤ) (xs : Caught) → p x ≡ false → list_any p (x ∷ xs) ≡ list_any p xs
any_below p x xs h = ap (λ b. b || list_any p xs) h

-- below the most recent exception, each other one is another
others_below : (s : ℕ) (more : Caught) → IsDistinct nat_eq (s ∷ slots_of more) → holds_other more s ≡ nat_lt 0 (length more)
others_below s [] once = refl
others_below s ((t, k) ∷ more) once =
    let out : is_in (t ∷ slots_of more) s ≡ false = not_below_top s (t ∷ slots_of more) once in
    any_at_once (λ entry. not (entry.0 == s)) (t, k) more (apart s t (or_false (nat_eq s t) (is_in (slots_of more) s) out).0)

itself : (s : ℕ) → not (s == s) ≡ false
itself s = grind (arith, nat_tests)

-- another exception is caught than the most recent one where the stack is deeper than 1
at_newest : (c : Caught) (slot : ℕ) → IsDistinct nat_eq (slots_of c) → newest c ≡ Some slot → holds_other c slot ≡ nat_lt 1 (length c)
at_newest [] slot once top = absurd (cc top)
at_newest ((s, n) ∷ more) slot once top =
    let same : s ≡ slot = cc top in
    subst (λ x. holds_other ((s, n) ∷ more) x ≡ nat_lt 1 (length ((s, n) ∷ more))) same
    (any_below (λ entry. not (entry.0 == s)) (s, n) more (itself s) ∙ others_below s more once ∙ sym (deeper (s, n) more 0))

pub holds_other_at : (e : Exceptions) (slot : ℕ) → IsSound e → newest e.caught ≡ Some slot → holds_other e.caught slot ≡ nat_lt 1 (length e.caught)
holds_other_at e slot s top = at_newest e.caught slot s.once top

-- and than one that is not, where any is
pub holds_other_but : (c : Caught) (slot : ℕ) → is_newest c slot ≡ false → holds_other c slot ≡ nat_lt 0 (length c)
holds_other_but [] slot h = refl
holds_other_but ((s, n) ∷ more) slot h =
    let other : not (s == slot) ≡ true = ap not h in
    any_at_once (λ entry. not (entry.0 == slot)) (s, n) more other

-- a test of the most recent exception
pub top_same : (top : Option ℕ) (slot : ℕ) → true ≡ option_eq nat_eq top (Some slot) → top ≡ Some slot
top_same None slot h = absurd (cc h)
top_same (Some s) slot h = ap Some (eq_true s slot (sym h))

pub top_other : (c : Caught) (slot : ℕ) (top : Option ℕ) → top ≡ newest c → false ≡ option_eq nat_eq top (Some slot) → is_newest c slot ≡ false
top_other c slot None e h = ap (λ t. option_map_or (λ x. x == slot) t false) (sym e)
top_other c slot (Some s) e h = ap (λ t. option_map_or (λ x. x == slot) t false) (sym e) ∙ sym h
