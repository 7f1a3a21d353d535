-- Registers of kept variables.
use Rattle.std.proofs.Common.{◌≡◌, ◌∙◌, refl, sym, ap, arith, ℕ, zero, suc, ◌<◌, ◌==◌, Bool, true, false, List, [], ◌∷◌, map, Some}
use Rattle.std.specs.Prelude.{◌&&◌, nat_lt, slice_get, slice_index, if◌then◌else◌}
use Rattle.std.specs.List.{list_all}
use Rattle.std.proofs.lemmas.Bool.Decides.{nat_tests}
use Rattle.rv64_isa.specs.State.{State, reg_of, with_reg}
use Rattle.rv64_isa.specs.Step.{x}
use Rattle.machine_forms.specs.Registers.{register, saved_registers}
use Rattle.machine_forms.specs.KeptCode.{register_among, register_of}
use Rattle.machine_pieces.specs.Going.{IsKept, MaySet}
use Rattle.machine_pieces.specs.Keeping.{saved_of}
use Rattle.machine_pieces.proofs.Registers.{read_other, places, value_place, value_found}

-- where a variable stands among those that are kept, its register stands among theirs
pub record Among (registers kept : List ℕ) (s r : ℕ) : Type 0 where
  pub place : ℕ
  pub slot : slice_get kept place ≡ Some s
  pub register : slice_get registers place ≡ Some r

pub among : (rs ks : List ℕ) (s r : ℕ) → register_among rs ks s ≡ Some r → Among rs ks s r
among [] ks s r e = absurd (cc e)
among (q ∷ rs) [] s r e = absurd (cc e)
among (q ∷ rs) (k ∷ ks) s r e = by (λ h. among rs ks s r h) (k == s) refl e
  where
    by : (register_among rs ks s ≡ Some r → Among rs ks s r) → (b : Bool) → (k == s) ≡ b → (if b then Some q else register_among rs ks s) ≡ Some r → Among (q ∷ rs) (k ∷ ks) s r
    by more true is e =
        let same : k ≡ s = grind (arith, nat_tests, is) in
        record { place = 0; slot = ap (λ i. Some i) same; register = e }
    by more false is e = let rest = more e in record { place = suc rest.place; slot = rest.slot; register = rest.register }

-- what the register at a place holds
pub held_at : (f : ℕ → ℕ) (rs : List ℕ) (j r : ℕ) → slice_get rs j ≡ Some r → slice_index (map f rs) j ≡ f r
held_at f [] j r e = absurd (cc e)
held_at f (q ∷ rs) zero r e = let same : q ≡ r = cc e in ap f same
held_at f (q ∷ rs) (suc j) r e = held_at f rs j r e

-- what holds of each of some holds of the one at a place
all_at : (p : ℕ → Bool) (rs : List ℕ) (j r : ℕ) → list_all p rs ≡ true → slice_get rs j ≡ Some r → p r ≡ true
all_at p [] j r h e = absurd (cc e)
all_at p (q ∷ rs) j r h e = by (λ i more there. all_at p rs i r more there) (p q) refl h j e
  where
    by : ((i : ℕ) → list_all p rs ≡ true → slice_get rs i ≡ Some r → p r ≡ true) → (b : Bool) → p q ≡ b → (b && list_all p rs) ≡ true → (i : ℕ) → slice_get (q ∷ rs) i ≡ Some r → p r ≡ true
    by more true is h zero e = let same : q ≡ r = cc e in ap p (sym same) ∙ is
    by more true is h (suc i) e = more i h e
    by more false is h i e = absurd (cc h)

-- none of these registers is x0, ra, sp or one for values
pub record IsSaved (r : ℕ) : Type 0 where
  pub above : 5 < r
  pub below : r < 32
  pub aside : value_place r ≡ 15

pub saved_is : (j r : ℕ) → slice_get saved_registers j ≡ Some r → IsSaved r
unfolding places value_place
saved_is j r e =
    let above = all_at (λ q. nat_lt 5 q) saved_registers j r refl e in
    let below = all_at (λ q. nat_lt q 32) saved_registers j r refl e in
    let aside = all_at (λ q. value_place q == 15) saved_registers j r refl e in
    record { above = grind (arith, nat_tests, above); below = grind (arith, nat_tests, below); aside = grind (arith, nat_tests, aside) }

pub register_is : (kept : List ℕ) (s r : ℕ) → register_of kept s ≡ Some r → IsSaved r
register_is kept s r e = let h = among saved_registers kept s r e in saved_is h.place r h.register

-- values leave them
pub kept_saved : (k r : ℕ) → IsSaved r → IsKept k r
kept_saved k r h i low small e = omega (arith, sym (value_found i small) ∙ ap value_place (sym e) ∙ h.aside, small)

pub may_saved : (r : ℕ) → IsSaved r → MaySet r
may_saved r h = (λ e. omega (arith, h.above, e), h.below)

-- what changes none of them leaves all
map_same : (f g : ℕ → ℕ) (rs : List ℕ) → ((j r : ℕ) → slice_get rs j ≡ Some r → f r ≡ g r) → map f rs ≡ map g rs
map_same f g [] h = refl
map_same f g (r ∷ rs) h = ap (λ a. a ∷ map f rs) (h 0 r refl) ∙ ap (λ l. g r ∷ l) (map_same f g rs (λ j q e. h (suc j) q e))

pub same_saved : (s t : State) → ((r : ℕ) → IsSaved r → x t r ≡ x s r) → saved_of t ≡ saved_of s
same_saved s t h = map_same (x t) (x s) saved_registers (λ j r e. h r (saved_is j r e))

-- nor does what is given in a0 and a1
pub given_saved : (s t : State) (a b : ℕ) → t.regs ≡ with_reg (with_reg s.regs (register 0) a) (register 1) b → saved_of t ≡ saved_of s
given_saved s t a b is =
    same_saved s t
    (λ r saved. ap (λ regs. reg_of regs r) is
    ∙ (read_other (with_reg s.regs (register 0) a) (register 1) r b (kept_saved 0 r saved 1 (omega arith) (omega arith)) ∙ read_other s.regs (register 0) r a (kept_saved 0 r saved 0 (omega arith) (omega arith))))
