-- The FDEs of a reading that have places, in the order of their locations, lead where the list of all leads.
use Rattle.std.proofs.Common.{◌≡◌, ◌+◌, ◌≤◌, ℕ, Bool, true, false, nat_lt, List, [], ◌∷◌, map, find, filter, Option, Some, None, option_map, refl, ap, sym, subst, ◌∙◌, arith, if◌then◌else◌}
use Rattle.std.specs.List.{AllByRecursion}
use Rattle.std.proofs.lemmas.Bool.Decides.{nat_tests}
use Rattle.eh_bytes.proofs.Mapped.{find_map}
use Rattle.table_forms.specs.Fde as forms
use Rattle.table_forms.specs.Frames.{sorted}
use Rattle.frame_read.specs.InOrder.{holds, has_place, InOrder, IsOrder}
use Rattle.frame_read.specs.Listed.{fde_listed}
use Rattle.frame_read.specs.Sound.{AreApart}
use Rattle.frame_read.specs.declared.listed.Fde.{Fde}
use Rattle.frame_read.proofs.Apart.{AreOrdered, ordered, apart_sorted, in_sorted, from_sorted, found_one, found_is}

-- each that has a place begins at n or later
abbrev BeginsFrom : ℕ → List forms.Fde → Type 0
BeginsFrom n fs = AllByRecursion (λ f. nat_lt 0 f.region.length ≡ true → n ≤ f.region.start) fs

from_zero : (fs : List forms.Fde) → BeginsFrom 0 fs
from_zero [] = tt
from_zero (f ∷ fs) = (λ e. omega arith, from_zero fs)

-- behind one that has a place
behind : (f : forms.Fde) (fs : List forms.Fde) → nat_lt 0 f.region.length ≡ true → AllByRecursion (λ g. f.region.start ≤ g.region.start) fs →
    AllByRecursion (λ g. forms.overlap f.region g.region ≡ false) fs → BeginsFrom (f.region.start + f.region.length) fs
behind f [] long up apart = tt
behind f (g ∷ gs) long up apart = (λ e. let a = up.0 in let b = apart.0 in grind (arith, nat_tests, long, e, a, b), behind f gs long up.1 apart.1)

rises : (n : ℕ) (fs : List forms.Fde) → BeginsFrom n fs → AreOrdered fs → AreApart fs → InOrder n (filter has_place (map fde_listed fs))
rises n [] from up apart = refl
rises n (f ∷ fs) from up apart = by (λ m later. rises m fs later up.1 apart.1) (nat_lt 0 f.region.length) refl
  where
    rest : List Fde
    rest = filter has_place (map fde_listed fs)

    by : ((m : ℕ) → BeginsFrom m fs → InOrder m rest) → (b : Bool) → nat_lt 0 f.region.length ≡ b → InOrder n (if b then fde_listed f ∷ rest else rest)
    by more true e = (from.0 e, more (f.region.start + f.region.length) (behind f fs e up.0 apart.0))
    by more false e = more n from.1

-- one without a place has none that is sought
found_placed : (pc : ℕ) (fs : List Fde) → find (holds pc) (filter has_place fs) ≡ find (holds pc) fs
found_placed pc [] = refl
found_placed pc (f ∷ fs) = by (found_placed pc fs) (has_place f) refl
  where
    by : find (holds pc) (filter has_place fs) ≡ find (holds pc) fs → (b : Bool) → has_place f ≡ b →
        find (holds pc) (if b then f ∷ filter has_place fs else filter has_place fs) ≡ (if holds pc f then Some f else find (holds pc) fs)
    by later true e = ap (λ o. if holds pc f then Some f else o) later
    by later false e =
        let no : holds pc f ≡ false = grind (arith, nat_tests, e) in
        later ∙ sym (ap (λ b. if b then Some f else find (holds pc) fs) no)

-- the order changes nothing, since no place has two
found_sorted : (fs : List forms.Fde) (pc : ℕ) → AreApart fs → forms.fde_for (sorted fs) pc ≡ forms.fde_for fs pc
found_sorted fs pc apart = by (forms.fde_for fs pc) refl
  where
    none : forms.fde_for fs pc ≡ None → (o : Option forms.Fde) → forms.fde_for (sorted fs) pc ≡ o → o ≡ None
    none nowhere None e = refl
    none nowhere (Some g) e =
        let r = found_is (sorted fs) g pc e in
        let wrong : None ≡ Some g = sym nowhere ∙ found_one fs g pc apart (from_sorted g fs r.0) r.1 in absurd cc

    by : (o : Option forms.Fde) → forms.fde_for fs pc ≡ o → forms.fde_for (sorted fs) pc ≡ o
    by None e = none e (forms.fde_for (sorted fs) pc) refl
    by (Some f) e = let r = found_is fs f pc e in found_one (sorted fs) f pc (apart_sorted fs apart) (in_sorted f fs r.0) r.1

pub is_order : (fs : List forms.Fde) (fdes order placed : List Fde) → AreApart fs → fdes ≡ map fde_listed fs → order ≡ map fde_listed (sorted fs) → placed ≡ filter has_place order →
    IsOrder fdes placed
is_order fs fdes order placed apart listed sort kept = record {
  rising = subst (InOrder 0) (sym whole) (rises 0 (sorted fs) (from_zero (sorted fs)) (ordered fs) (apart_sorted fs apart));
  same = λ pc.
      ap (find (holds pc)) whole ∙ found_placed pc (map fde_listed (sorted fs)) ∙ find_map fde_listed (holds pc) (sorted fs) ∙
      ap (option_map fde_listed) (found_sorted fs pc apart) ∙ sym (find_map fde_listed (holds pc) fs) ∙ ap (find (holds pc)) (sym listed);
}
  where
    whole : placed ≡ filter has_place (map fde_listed (sorted fs))
    whole = kept ∙ ap (filter has_place) sort
