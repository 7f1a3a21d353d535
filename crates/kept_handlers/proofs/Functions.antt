-- The code of each function in step goes on with no more handlers than there are.
use Rattle.std.proofs.Common.{◌≡◌, ℕ, zero, suc, ◌+◌, ◌≤◌, ℤ, Bool, true, false, List, [], ◌∷◌, ◌++◌, map, length, length-append, Some, refl, sym, ap, ◌∙◌, subst, arith}
use Rattle.std.specs.Prelude.{slice_get, ◌&&◌}
use Rattle.region_forms.specs.Form.{evaluate, store, bind, call, construct, destroy, make, throw, rethrow, enter, leave, RegionFunction}
use Rattle.linear_forms.specs.Linear.{FunctionCode, LinearOp, plain, label, jump, jump_zero, pad, jump_filter, free, resume, unexpected, return}
use Rattle.linear_forms.specs.Tables.{unpadded, padded, look_up}
use Rattle.linear_forms.specs.Sites.{Placed}
use Rattle.linear_forms.specs.Emission.{quiet}
use Rattle.linear_forms.specs.Code.{region_code}
use Rattle.linear_forms.specs.Unit.{emitting, placed_code, function_code}
use Rattle.cost_paths.specs.Control.{goes_on, label_of, place_of}
use Rattle.cost_paths.proofs.Ranks.{has_front, has_back}
use Rattle.cost_paths.proofs.Regions.{has_end}
use Rattle.cost_paths.proofs.Missing.{missing, both_without, no_labels, function_has}
use Rattle.kept_handlers.specs.Depths.{opens, leaves}
use Rattle.kept_handlers.specs.Left.{is_even, region_in_step}
use Rattle.kept_handlers.proofs.Scanning.{Phase, off, caught, left, Scan, lower, elsewhere, behind_leave, after, with_open, Even, even_parts, evenly, region_after}
use Rattle.kept_handlers.proofs.Opening.{Has, depth, moved, comes_to, CoverOpens, LeaveOpens, JumpOpens, Opens, AllOpen, both_open, has_many}
use Rattle.kept_handlers.proofs.Regions.{region_opens}
use Rattle.kept_handlers.proofs.Ends.{region_ends}

-- what is open in front of the operation at a place
abbrev pub scan_at : Scan → List LinearOp → ℕ → Scan
scan_at s [] p = s
scan_at s (o ∷ ops) zero = s
scan_at s (o ∷ ops) (suc p) = scan_at (after s o) ops p

pub scan_first : (s : Scan) (ops : List LinearOp) → scan_at s ops 0 ≡ s
scan_first s [] = refl
scan_first s (o ∷ ops) = refl

scan_moves : (ops : List LinearOp) (s : Scan) (p : ℕ) (o : LinearOp) → slice_get ops p ≡ Some o → scan_at s ops (p + 1) ≡ after (scan_at s ops p) o
scan_moves [] s p o e = absurd (cc e)
scan_moves (x ∷ ops) s zero o e = let same : x ≡ o = cc e in scan_first (after s x) ops ∙ ap (after s) same
scan_moves (x ∷ ops) s (suc p) o e = let next : suc p + 1 ≡ suc (p + 1) = omega arith in ap (scan_at s (x ∷ ops)) next ∙ scan_moves ops (after s x) p o e

-- how many handlers are open at a place of a function
abbrev pub open_at : FunctionCode → ℕ → ℕ
open_at g p = (scan_at (elsewhere 0) g.ops p).many

-- what is asked of one function
pub record FunctionOpens (g : FunctionCode) : Type 0 where
  pub next : (p : ℕ) (o : LinearOp) → slice_get g.ops p ≡ Some o → goes_on o ≡ true → open_at g (p + 1) + leaves o ≤ open_at g p + opens o
  pub jump : (p l : ℕ) (o : LinearOp) → slice_get g.ops p ≡ Some o → label_of o ≡ Some l → open_at g (place_of g l) ≤ open_at g p
  pub behind : (p pad : ℕ) (chain : List ℤ) (o : LinearOp) → slice_get g.ops p ≡ Some o → look_up g.sites p ≡ padded pad chain → open_at g (pad + 1) + leaves o ≤ open_at g p

lower_less : (n : ℕ) → 1 ≤ n → lower n + 1 ≤ n + 0
lower_less zero h = absurd (omega (arith, h))
lower_less (suc n) h = omega arith

leaves_less : (s : Phase) (n : ℕ) → 1 ≤ n → (behind_leave s n).many + 1 ≤ n + 0
leaves_less off n h = lower_less n h
leaves_less caught n h = lower_less n h
leaves_less left n h = lower_less n h

module _ (f : RegionFunction) where
  abbrev g : FunctionCode
  g = function_code f

  abbrev body : List Placed
  body = region_code (emitting f) unpadded [] 0 0 f.body

  abbrev last : List Placed
  last = quiet (return f.result) ∷ []

  abbrev at : ℕ → Scan
  at = scan_at (elsewhere 0) g.ops

  moves : (p : ℕ) (o : LinearOp) → slice_get g.ops p ≡ Some o → at (p + 1) ≡ after (at p) o
  moves p o e = scan_moves g.ops (elsewhere 0) p o e

  first : at 0 ≡ elsewhere 0
  first = scan_first (elsewhere 0) g.ops

  in_body : Has g at moves 0 body
  in_body = has_front g 0 body last (function_has f)

  in_last : Has g at moves (0 + length body) last
  in_last = has_back g 0 (0 + length body) body last refl (function_has f)

  module _ (even : Even f.body) where
    at_end : at (0 + length body) ≡ elsewhere 0
    at_end = comes_to g at moves 0 (0 + length body) (elsewhere 0) (elsewhere 0) body refl in_body first
        (evenly (emitting f) f.body 0 body even (region_after (emitting f) f.body unpadded [] 0 0 0 even.steps))

    -- an exit out of everything goes where none is open
    outermost : depth g at moves (place_of g 0) ≤ 0
    outermost = go (has_end f.body) refl
      where
        ended : (front : List Placed) → body ≡ front ++ quiet (label 0) ∷ [] → depth g at moves (place_of g 0) ≤ 0
        ended front e =
            let has = subst (Has g at moves 0) e in_body in
            let z = 0 + length front in
            let has_z = has_back g 0 z front (quiet (label 0) ∷ []) refl has in
            let behind = moves z (label 0) has_z.0 in
            let lengths : z + 1 ≡ 0 + length body = sym (ap (λ is. 0 + length is) e ∙ omega (arith, length-append front (quiet (label 0) ∷ []))) in
            let none : elsewhere (depth g at moves z) ≡ elsewhere 0 = sym behind ∙ (ap at lengths ∙ at_end) in
            let many = ap (λ s. s.many) none in
            let place = ap (depth g at moves) has_z.2 in
            omega (arith, many, place)

        go : (b : Bool) → has_end f.body ≡ b → depth g at moves (place_of g 0) ≤ 0
        go true e = let h = region_ends (emitting f) f.body unpadded [] 0 0 e in ended h.front h.same
        go false e =
            let without = both_without body last (no_labels (emitting f) f.body unpadded [] 0 0 e) (tt, tt) in
            let place = missing (placed_code f) 0 0 without in
            let lengths : 0 + length (placed_code f) ≡ 0 + length body + 1 = omega (arith, length-append body last) in
            let many = has_many g at moves (place_of g 0) (elsewhere 0) (ap at (place ∙ lengths) ∙ moved g at moves (0 + length body) (elsewhere 0) (return f.result) at_end in_last.0) in
            omega (arith, many)

    all_open : AllOpen g at moves 0 (placed_code f)
    all_open =
        both_open g at moves 0 (0 + length body) body last refl
        (region_opens g at moves (emitting f) f.body unpadded [] 0 0 0 0 refl even.steps in_body (first ∙ sym (ap (λ b. with_open b 0) even.leaves)) (record { exits = λ m. outermost; cover = tt }))
        ((tt, tt, tt), tt)

    -- the operation at a place
    record Found (p : ℕ) (o : LinearOp) : Type 0 where
      it : Placed
      is : it.op ≡ o
      covers : look_up g.sites p ≡ it.cover
      opens : Opens g at moves p it

    found : (is : List Placed) (q k p : ℕ) (o : LinearOp) → p ≡ q + k → Has g at moves q is → AllOpen g at moves q is → slice_get (map (λ x. x.op) is) k ≡ Some o → Found p o
    found [] q k p o e has all there = absurd (cc there)
    found (x ∷ is) q zero p o e has all there =
        let same : q ≡ p = omega (arith, e) in
        let is_it : x.op ≡ o = cc there in
        subst (λ n. Found n o) same (record { it = x; is = is_it; covers = has.1; opens = all.0 })
    found (x ∷ is) q (suc k) p o e has all there = found is (q + 1) k p o (omega (arith, e)) has.3 all.1 there

    found_at : (p : ℕ) (o : LinearOp) → slice_get g.ops p ≡ Some o → Found p o
    found_at p o e = found (placed_code f) 0 p p o (omega arith) (function_has f) all_open e

    goes : (s : Scan) (o : LinearOp) → goes_on o ≡ true → LeaveOpens g at moves s.many o → (after s o).many + leaves o ≤ s.many + opens o
    goes s (plain (evaluate v)) e h = omega arith
    goes s (plain (store p v)) e h = omega arith
    goes s (plain (bind x p)) e h = omega arith
    goes s (plain (call c args)) e h = omega arith
    goes s (plain (construct p k args)) e h = omega arith
    goes s (plain (destroy p k)) e h = omega arith
    goes s (plain (make x)) e h = omega arith
    goes s (plain (throw x t d)) e h = omega arith
    goes s (plain rethrow) e h = omega arith
    goes s (plain (enter x)) e h = omega arith
    goes s (plain leave) e h = leaves_less s.phase s.many h
    goes s (label l) e h = omega arith
    goes s (jump l) e h = absurd (cc e)
    goes s (jump_zero v l) e h = omega arith
    goes s (pad o x) e h = omega arith
    goes s (jump_filter x n l) e h = omega arith
    goes s (free x) e h = omega arith
    goes s (resume x) e h = absurd (cc e)
    goes s (unexpected o x) e h = absurd (cc e)
    goes s (return result) e h = absurd (cc e)

    jumps : (n l : ℕ) (o : LinearOp) → label_of o ≡ Some l → JumpOpens g at moves n o → depth g at moves (place_of g l) ≤ n
    jumps n l (plain o) e h = absurd (cc e)
    jumps n l (label m) e h = absurd (cc e)
    jumps n l (jump m) e h = let same : m ≡ l = cc e in subst (λ k. depth g at moves (place_of g k) ≤ n) same h
    jumps n l (jump_zero v m) e h = let same : m ≡ l = cc e in subst (λ k. depth g at moves (place_of g k) ≤ n) same h
    jumps n l (pad o x) e h = absurd (cc e)
    jumps n l (jump_filter x z m) e h = let same : m ≡ l = cc e in subst (λ k. depth g at moves (place_of g k) ≤ n) same h
    jumps n l (free x) e h = absurd (cc e)
    jumps n l (resume x) e h = absurd (cc e)
    jumps n l (unexpected o x) e h = absurd (cc e)
    jumps n l (return result) e h = absurd (cc e)

    is_open : FunctionOpens g
    is_open = record {
      next = λ p o e on.
          let h = found_at p o e in
          let many = ap (λ s. s.many) (moves p o e) in
          let le = goes (at p) o on (subst (LeaveOpens g at moves (depth g at moves p)) h.is h.opens.0) in
          omega (arith, many, le);
      jump = λ p l o e to.
          let h = found_at p o e in
          jumps (depth g at moves p) l o to (subst (JumpOpens g at moves (depth g at moves p)) h.is h.opens.1);
      behind = λ p pad chain o e covers.
          let h = found_at p o e in
          let same = ap leaves h.is in
          let le = subst (CoverOpens g at moves (depth g at moves p) (leaves h.it.op)) (sym h.covers ∙ covers) h.opens.2 in
          omega (arith, same, le);
    }

pub functions_open : (f : RegionFunction) → (is_even f.body && region_in_step f.body) ≡ true → FunctionOpens (function_code f)
functions_open f e = is_open f (even_parts f.body e)
