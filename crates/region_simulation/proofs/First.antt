-- The state before main stands for the world before main.
use Rattle.std.proofs.Common.{◌≡◌, ℕ, zero, suc, ◌<◌, ℤ, List, [], ◌∷◌, Option, Some, None, refl, sym, ap, ◌∙◌, subst, arith, length}
use Rattle.std.specs.Prelude.{map, slice_get, unwrap_or}
use Rattle.cxx_ast.specs.Plain.{Checked}
use Rattle.meaning_forms.specs.Class.{int_type}
use Rattle.meaning_forms.specs.Part.{cell, part_at}
use Rattle.meaning_forms.specs.Meaning.{global_object}
use Rattle.region_forms.specs.World.{of_global}
use Rattle.region_forms.specs.Meaning.{global_memory}
use Rattle.region_simulation.specs.Typed.{Shaped}
use Rattle.region_simulation.specs.Places.{Stood, address_along}
use Rattle.region_simulation.specs.Stands.{IsMade}
use Rattle.region_simulation.specs.First.{first_places, FirstStands}
use Rattle.region_simulation.proofs.Paths.{some_same}
use Rattle.region_simulation.proofs.Parts.{nothing_there, not_set}

global_is : (xs : List ℤ) (o : ℕ) (v : ℤ) → slice_get xs o ≡ Some v → unwrap_or (slice_get (map global_object xs) o) (cell None) ≡ cell (Some v)
global_is [] o v e = absurd (cc e)
global_is (x ∷ xs) zero v e = ap (λ y. cell y) e
global_is (x ∷ xs) (suc o) v e = global_is xs o v e

global_below : (xs : List ℤ) (o : ℕ) (v : ℤ) → slice_get xs o ≡ Some v → o < length (map global_object xs)
global_below [] o v e = absurd (cc e)
global_below (x ∷ xs) zero v e = omega arith
global_below (x ∷ xs) (suc o) v e = let h = global_below xs o v e in omega (arith, h)

global_there : (xs : List ℤ) (o : ℕ) → o < length xs → (v : ℤ) × (slice_get xs o ≡ Some v)
global_there [] o lt = absurd (omega (arith, lt))
global_there (x ∷ xs) zero lt = (x, refl)
global_there (x ∷ xs) (suc o) lt = global_there xs o (omega (arith, lt))

-- what stands is a global
record IsGlobal (p : Checked) (o : ℕ) (x : Stood) : Type 0 where
  value : ℤ
  there : slice_get p.globals o ≡ Some value
  is : x ≡ record { base = of_global o; type = int_type }

is_global : (p : Checked) (o : ℕ) (x : Stood) → first_places p o ≡ Some x → IsGlobal p o x
is_global p o x e = go (slice_get p.globals o) refl e
  where
    go : (y : Option ℤ) → slice_get p.globals o ≡ y → elim y [ None ↦ None | Some v ↦ Some (record { base = of_global o; type = int_type }) ] ≡ Some x → IsGlobal p o x
    go None is e = absurd (cc e)
    go (Some v) is e = record { value = v; there = is; is = sym (some_same e) }

pub first_stands : FirstStands
first_stands l p input replies turns = record {
  world = refl;
  turns = refl;
  memory = record {
    made = λ o x e. (let g = is_global p o x e in global_below p.globals o g.value g.there);
    apart = λ o q x y e f same. (let g = is_global p o x e in let h = is_global p q y f in number_of_global o q (sym (ap (λ z. z.base) g.is) ∙ same ∙ ap (λ z. z.base) h.is));
    shaped = λ o x e. (let g = is_global p o x e in
        subst (λ z. Shaped p z.type (unwrap_or (slice_get (map global_object p.globals) o) (cell None))) (sym g.is)
        (subst (Shaped p int_type) (sym (global_is p.globals o g.value g.there)) tt));
    holds = λ o x path v e is. (let g = is_global p o x e in
        subst (λ z. global_memory p.globals (address_along l p z path).base (address_along l p z path).offset ≡ Some v) (sym g.is)
        (holds o g.value path v g.there (ap (λ q. part_at q path) (sym (global_is p.globals o g.value g.there)) ∙ is)));
  };
  globals = λ g lt. (let (v, e) = global_there p.globals g lt in
      ap {A = Option ℤ} (λ y. elim y [ None ↦ None | Some v ↦ Some (record { base = of_global g; type = int_type }) ]) e);
  exceptions = λ i e o t kept there. absurd (cc there);
  made = λ o x e. (let g = is_global p o x e in subst (λ z. IsMade 0 0 [] z.base) (sym g.is) tt);
  sound = record {
    handled = λ e h. absurd (cc h);
    travelling = λ e h. absurd (cc h);
    entered = λ e h. absurd (cc h);
    thrown = λ e h. absurd (cc h);
    live = λ i x h. absurd (cc h);
    together = tt;
  };
  handlers = (tt, tt);
  kept = λ i e o t kept there. absurd (cc there);
}
  where
    number_of_global : (m n : ℕ) → of_global m ≡ of_global n → m ≡ n
    number_of_global m n e = cc e

    same_int : (m n : ℤ) → cell (Some m) ≡ cell (Some n) → Some m ≡ Some n
    same_int m n e = cc e

    holds : (o : ℕ) (u : ℤ) (path : List ℕ) (n : ℤ) → slice_get p.globals o ≡ Some u → part_at (cell (Some u)) path ≡ cell (Some n)
        → global_memory p.globals (of_global o) (address_along l p (record { base = of_global o; type = int_type }) path).offset ≡ Some n
    holds o u [] n e is = e ∙ same_int u n is
    holds o u (i ∷ path) n e is = absurd (not_set n (sym (nothing_there path) ∙ is))
