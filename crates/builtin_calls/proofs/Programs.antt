-- What regions give, their linear code gives, and so each operation of every checked program.
use Rattle.std.proofs.Common.{◌≡◌, ℕ, zero, suc, List, [], ◌∷◌, map, length, Option, Some, None, refl, sym, ap, subst, arith}
use Rattle.std.specs.Prelude.{⊤, slice_get, unwrap_or}
use Rattle.std.specs.List.{AllByRecursion}
use Rattle.std.proofs.lemmas.List.{length-map}
use Rattle.cxx_ast.specs.Plain.{Checked}
use Rattle.cxx_ast.specs.Checked.{IsChecked}
use Rattle.region_forms.specs.Form.{RegionFunction, Regions}
use Rattle.region_forms.specs.Layout.{layout_of}
use Rattle.region_forms.specs.LowerProgram.{regions_of}
use Rattle.linear_forms.specs.Linear.{LinearOp, plain, label, jump, jump_zero, pad, jump_filter, free, resume, unexpected, return}
use Rattle.linear_forms.specs.Tables.{unpadded}
use Rattle.linear_forms.specs.Emission.{Emitting, quiet}
use Rattle.linear_forms.specs.Code.{region_code}
use Rattle.linear_forms.specs.Unit.{emitting, placed_code, function_code, unit_of}
use Rattle.linear_forms.specs.UnitRun.{no_code, code_at}
use Rattle.source_bounds.specs.Compiled.{unit_for}
use Rattle.address_bounds.specs.Everywhere.{holders}
use Rattle.address_bounds.proofs.Codes.{Shows, both_placed, region_placed, ops_are}
use Rattle.flight_homes.proofs.Programs.{code_is}
use Rattle.linear_premises.proofs.Programs.{checked_programs_fit}
use Rattle.builtin_calls.specs.Fits.{BuiltinFits, BuiltinCallsFit}
use Rattle.builtin_calls.proofs.Lowered.{gives}
use Rattle.builtin_calls.proofs.LoweredPrograms.{IsGood, program_good}
use Rattle.builtin_calls.proofs.Forms.{LinearFits, HandlersThere, has_form}

-- what code adds calls no built-in function
shown : (em : Emitting) (most : ℕ) → Shows gives LinearFits em ⊤ most
shown em most = record {
  operation = λ o h. h;
  leaves = tt;
  test = λ v l h. tt;
  caught = λ s w h. tt;
  freed = λ s h. tt;
  way_set = λ n few w. tt;
  way_test = λ n l few w. tt;
  labels = λ l. tt;
  jumps = λ l. tt;
  pads = λ w. tt;
  filters = λ n l w. tt;
  resumes = λ w. tt;
  passes = λ w. tt;
}

function_gives : (f : RegionFunction) → IsGood f → (place : ℕ) (o : LinearOp) → slice_get (function_code f).ops place ≡ Some o → LinearFits o
function_gives f h place o e =
    let em : Emitting = emitting f in
    let most : ℕ = holders f.body in
    let s = shown em most in
    ops_are gives LinearFits em ⊤ most s (placed_code f)
    (both_placed gives LinearFits em ⊤ most s (region_code em unpadded [] 0 0 f.body) (quiet (return f.result) ∷ [])
    (region_placed gives LinearFits em ⊤ most s unpadded [] 0 0 f.body (λ k q. tt) (λ q. tt) (omega arith) h) (tt, tt)) place o e

one_good : (fs : List RegionFunction) (n : ℕ) (f : RegionFunction) → AllByRecursion IsGood fs → slice_get fs n ≡ Some f → IsGood f
one_good [] n f h e = absurd (cc e)
one_good (g ∷ fs) zero f h e = let same : g ≡ f = cc e in subst IsGood same h.0
one_good (g ∷ fs) (suc n) f h e = one_good fs n f h.1 e

nothing_there : {A B : Type 0} (f : A → B) (xs : List A) (n : ℕ) → slice_get xs n ≡ None → slice_get (map f xs) n ≡ None
nothing_there f [] n e = refl
nothing_there f (x ∷ xs) zero e = absurd (cc e)
nothing_there f (x ∷ xs) (suc n) e = nothing_there f xs n e

empty : {X : Type 0} (p : ℕ) (o : LinearOp) → slice_get {X = LinearOp} [] p ≡ Some o → X
empty p o e = absurd (cc e)

code_gives : (r : Regions) → AllByRecursion IsGood r.functions → (n place : ℕ) (o : LinearOp) → slice_get (code_at (unit_of r) n).ops place ≡ Some o → LinearFits o
code_gives r good n place o e = go (slice_get r.functions n) refl
  where
    go : (f : Option RegionFunction) → slice_get r.functions n ≡ f → LinearFits o
    go None i =
        let none : code_at (unit_of r) n ≡ no_code = ap (λ x. unwrap_or x no_code) (nothing_there function_code r.functions n i) in
        empty place o (subst (λ g. slice_get g.ops place ≡ Some o) none e)
    go (Some f) i = function_gives f (one_good r.functions n f good i) place o (subst (λ g. slice_get g.ops place ≡ Some o) (code_is r n f i) e)

handlers_there : (p : Checked) → IsChecked p → (n place : ℕ) (o : LinearOp) → slice_get (code_at (unit_for p) n).ops place ≡ Some o → HandlersThere (regions_of p (layout_of p)) o
handlers_there p c n place (plain o) e = (checked_programs_fit p c).1.1.names.operations n place o e
handlers_there p c n place (label l) e = tt
handlers_there p c n place (jump l) e = tt
handlers_there p c n place (jump_zero v l) e = tt
handlers_there p c n place (pad x y) e = tt
handlers_there p c n place (jump_filter x y l) e = tt
handlers_there p c n place (free x) e = tt
handlers_there p c n place (resume x) e = tt
handlers_there p c n place (unexpected x y) e = tt
handlers_there p c n place (return x) e = tt

pub builtin_calls_fit : BuiltinCallsFit
builtin_calls_fit p c n place o e =
    let r : Regions = regions_of p (layout_of p) in
    let count : length (unit_for p).functions ≡ length r.functions = length-map r.functions function_code in
    subst (λ m. BuiltinFits m o) (sym count) (has_form r o (code_gives r (program_good p (layout_of p) c) n place o e) (handlers_there p c n place o e))
