-- Ints that are written to kept variables.
use Rattle.std.proofs.Common.{◌≡◌, ◌≢◌, ◌∙◌, refl, sym, ap, subst, arith, ℕ, zero, suc, ◌+◌, ◌<◌, ℤ, Bool, true, false, List, [], ◌∷◌, length, Some}
use Rattle.std.specs.Prelude.{slice_get, slice_set, slice_index, ◌==◌, ◌&&◌, nat_lt, if◌then◌else◌}
use Rattle.std.proofs.lemmas.Bool.Decides.{nat_tests}
use Rattle.std.proofs.lemmas.List.{get_or-set_same, get_or-set_other}
use Rattle.std.proofs.lemmas.Option.{slice_get_within}
use Rattle.region_forms.specs.World.{of_variable, Frame, World, written}
use Rattle.linear_forms.specs.Linear.{FunctionCode}
use Rattle.machine_forms.specs.Kept.{untaken, kept_slots}
use Rattle.machine_forms.proofs.Chosen.{variables_are_kept, Rises, above, taken_rise, untaken_rise}
use Rattle.machine_pieces.specs.Numbers.{IsInt, extended}
use Rattle.machine_pieces.specs.Keeping.{KeptHolds}
use Rattle.machine_pieces.specs.Laws.{KeptAreWritten}

-- one place for each
apart_places : (s : ℕ) (ks : List ℕ) (i j a b : ℕ) → Rises s ks → slice_get ks i ≡ Some a → slice_get ks j ≡ Some b → i < j → a < b
apart_places s [] i j a b h ea eb less = absurd (cc ea)
apart_places s (k ∷ ks) zero zero a b h ea eb less = absurd (omega (arith, less))
apart_places s (k ∷ ks) zero (suc j) a b h ea eb less =
    let same : k ≡ a = cc ea in
    let more = above (k + 1) j b ks h.1 eb in
    omega (arith, same, more)
apart_places s (k ∷ ks) (suc i) zero a b h ea eb less = absurd (omega (arith, less))
apart_places s (k ∷ ks) (suc i) (suc j) a b h ea eb less = apart_places (k + 1) ks i j a b h.1 ea eb (omega (arith, less))

kept_rise : (g : FunctionCode) → Rises 0 (kept_slots g)
unfolding kept_slots
kept_rise g = taken_rise 10 0 (untaken g.ops 0 g.slots) (untaken_rise g.ops g.slots 0)

index_few : (g : FunctionCode) (j s : ℕ) → slice_get (kept_slots g) j ≡ Some s → j < 10
index_few g j s e = let few = (variables_are_kept g).few in let inside = slice_get_within (kept_slots g) j s e in omega (arith, few, inside)

-- of the same slot the place is the same
same_place : (g : FunctionCode) (i j s : ℕ) → slice_get (kept_slots g) i ≡ Some s → slice_get (kept_slots g) j ≡ Some s → i ≡ j
same_place g i j s ei ej = by (nat_lt i j) (nat_lt j i) refl refl
  where
    by : (a b : Bool) → nat_lt i j ≡ a → nat_lt j i ≡ b → i ≡ j
    by true b ea eb =
        let less : i < j = grind (arith, nat_tests, ea) in
        let wrong = apart_places 0 (kept_slots g) i j s s (kept_rise g) ei ej less in absurd (omega (arith, wrong))
    by false true ea eb =
        let less : j < i = grind (arith, nat_tests, eb) in
        let wrong = apart_places 0 (kept_slots g) j i s s (kept_rise g) ej ei less in absurd (omega (arith, wrong))
    by false false ea eb = grind (arith, nat_tests, ea, eb)

own : (g : FunctionCode) (frame : Frame) (w : World) (regs : List ℕ) (j s : ℕ) (z : ℤ) → slice_get (kept_slots g) j ≡ Some s → IsInt z → length regs ≡ 10 → KeptHolds (kept_slots g) frame w regs →
    KeptHolds (kept_slots g) frame (written (record { base = of_variable frame.call s; offset = 0 }) z w) (slice_set regs j (extended z))
own g frame w regs j s z is int many keeps i t y there got = by (s == t) refl got
  where
    one : s ≡ t → i ≡ j
    one same = same_place g i j t there (is ∙ ap (λ k. Some k) same)

    by : (b : Bool) → (s == t) ≡ b → (if (0 == 0) && (frame.call == frame.call && s == t) then Some z else w.memory (record { base = of_variable frame.call t; offset = 0 })) ≡ Some y →
        IsInt y × (slice_index (slice_set regs j (extended z)) i ≡ extended y)
    by true e got =
        let same : s ≡ t = grind (arith, nat_tests, e) in
        let me : (frame.call == frame.call) ≡ true = grind (arith, nat_tests) in
        let test : ((0 == 0) && (frame.call == frame.call && s == t)) ≡ true = rw (me, e) refl in
        let value : z ≡ y = let found : Some z ≡ Some y = ap (λ c. if c then Some z else w.memory (record { base = of_variable frame.call t; offset = 0 })) (sym test) ∙ got in cc found in
        let few = index_few g j s is in
        (subst IsInt value int, ap (slice_index (slice_set regs j (extended z))) (one same) ∙ get_or-set_same regs j (extended z) 0 (omega (arith, few, many)) ∙ ap extended value)
    by false e got =
        let other : i ≢ j = λ k. let both : Some t ≡ Some s = sym there ∙ (ap (slice_get (kept_slots g)) k ∙ is) in let eq : t ≡ s = cc both in let bad : s ≢ t = grind (arith, nat_tests, e) in bad (sym eq) in
        let me : (frame.call == frame.call) ≡ true = grind (arith, nat_tests) in
        let test : ((0 == 0) && (frame.call == frame.call && s == t)) ≡ false = rw (me, e) refl in
        let found : w.memory (record { base = of_variable frame.call t; offset = 0 }) ≡ Some y = ap (λ c. if c then Some z else w.memory (record { base = of_variable frame.call t; offset = 0 })) (sym test) ∙ got in
        let old = keeps i t y there found in
        (old.0, get_or-set_other regs j i (extended z) 0 other ∙ old.1)

other : (kept : List ℕ) (frame : Frame) (w : World) (regs : List ℕ) (c s : ℕ) (z : ℤ) → frame.call ≢ c → KeptHolds kept frame w regs →
    KeptHolds kept frame (written (record { base = of_variable c s; offset = 0 }) z w) regs
other kept frame w regs c s z ne keeps i t y there got =
    let test : ((0 == 0) && (c == frame.call && s == t)) ≡ false = let no : (c == frame.call) ≡ false = grind (arith, nat_tests, ne) in rw no refl in
    keeps i t y there (ap (λ b. if b then Some z else w.memory (record { base = of_variable frame.call t; offset = 0 })) (sym test) ∙ got)

pub kept_are_written : KeptAreWritten
kept_are_written = record { own = own; other = other }
