-- Code without labels, and what stands in the code of a function.
use Rattle.std.proofs.Common.{◌≡◌, ℕ, zero, suc, ◌+◌, ◌<◌, Bool, true, false, List, [], ◌∷◌, ◌++◌, map, length, Some, refl, ◌∙◌, arith}
use Rattle.std.specs.Prelude.{slice_get, if◌then◌else◌}
use Rattle.region_forms.specs.Form.{Region, seq, op, branch, loop, protect, catch, limit, barrier, leave_region, RegionFunction}
use Rattle.linear_forms.specs.Linear.{LinearOp, plain, label, jump, jump_zero, pad, jump_filter, free, resume, unexpected, return}
use Rattle.linear_forms.specs.Tables.{Cover, label_place}
use Rattle.linear_forms.specs.Sites.{Placed}
use Rattle.linear_forms.specs.CodeRuns.{HasAt}
use Rattle.linear_forms.specs.Exits.{Exit, inner, first_label, crosses, name_of}
use Rattle.linear_forms.specs.Emission.{Emitting, quiet, set_way}
use Rattle.linear_forms.specs.Code.{region_code}
use Rattle.linear_forms.specs.Unit.{placed_code, function_code}
use Rattle.linear_forms.proofs.Standing.{functions_stand}
use Rattle.cost_paths.proofs.Ranks.{alone}
use Rattle.cost_paths.proofs.Regions.{has_end}

-- code without labels
abbrev pub NotLabel : LinearOp → Type 0
NotLabel (label l) = ⊥
NotLabel o = Unit {0}

abbrev pub NoLabels : List Placed → Type 0
NoLabels [] = Unit {0}
NoLabels (x ∷ is) = NotLabel x.op × NoLabels is

passed : (o : LinearOp) (ops : List LinearOp) (l p : ℕ) → NotLabel o → label_place (o ∷ ops) l p ≡ label_place ops l (p + 1)
passed (plain o) ops l p h = refl
passed (label m) ops l p h = absurd h
passed (jump m) ops l p h = refl
passed (jump_zero v m) ops l p h = refl
passed (pad o s) ops l p h = refl
passed (jump_filter s n m) ops l p h = refl
passed (free s) ops l p h = refl
passed (resume s) ops l p h = refl
passed (unexpected o s) ops l p h = refl
passed (return result) ops l p h = refl

-- a label that does not stand is found behind the last operation
pub missing : (is : List Placed) (l p : ℕ) → NoLabels is → label_place (map (λ x. x.op) is) l p ≡ p + length is
missing [] l p h = omega arith
missing (x ∷ is) l p h = let next = missing is l (p + 1) h.1 in passed x.op (map (λ y. y.op) is) l p h.0 ∙ omega (arith, next)

pub both_without : (is js : List Placed) → NoLabels is → NoLabels js → NoLabels (is ++ js)
both_without [] js h k = k
both_without (x ∷ is) js h k = (h.0, both_without is js h.1 k)

pub no_labels : (em : Emitting) (r : Region) (c : Cover) (xs : List Exit) (l p : ℕ) → has_end r ≡ false → NoLabels (region_code em c xs l p r)
no_labels em (seq rs) c xs l p e = absurd (cc e)
no_labels em (op o) c xs l p e = (tt, tt)
no_labels em (branch v a b) c xs l p e = absurd (cc e)
no_labels em (loop v a) c xs l p e = absurd (cc e)
no_labels em (protect a cl) c xs l p e = absurd (cc e)
no_labels em (catch a cs) c xs l p e = absurd (cc e)
no_labels em (limit a types) c xs l p e = absurd (cc e)
no_labels em (barrier a) c xs l p e = absurd (cc e)
no_labels em (leave_region n) c xs l p e = go (crosses (inner n) xs)
  where
    go : (b : Bool) → NoLabels (if b then set_way em (name_of (inner n) xs) ∷ quiet (jump (first_label (inner n) xs)) ∷ [] else quiet (jump (first_label (inner n) xs)) ∷ [])
    go true = (tt, (tt, tt))
    go false = (tt, tt)

-- code that has an operation there goes on there
pub op_inside : (is : List Placed) (p : ℕ) (o : LinearOp) → slice_get (map (λ x. x.op) is) p ≡ Some o → p < length is
op_inside [] p o e = absurd (cc e)
op_inside (x ∷ is) zero o e = omega arith
op_inside (x ∷ is) (suc p) o e = omega (arith, op_inside is p o e)

pub function_has : (f : RegionFunction) → HasAt (alone (function_code f)) 0 0 (placed_code f)
function_has f = (functions_stand (record { functions = f ∷ []; types = []; globals = []; tokens = 0; main = 0 }) 0 f refl).has
