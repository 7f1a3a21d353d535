-- What stands around the body of a declared function.
use Rattle.std.proofs.Common.{◌≡◌, ◌∙◌, ◌+◌, ℕ, Bool, ◌∷◌, length, Option, ap}
use Rattle.cxx_ast.specs.Plain.{Function}
use Rattle.region_forms.specs.Form.{Region, RegionFunction, in_order}
use Rattle.region_forms.specs.LowerExpression.{Lowering}
use Rattle.region_forms.specs.LowerProgram.{body_of, last_result, limited, result_for, with_body}

-- the body under its specification, and the result at its end
abbrev pub guarded : Bool → ℕ → Function → Lowering → Region
guarded is_main k f l = in_order (limited l f.specification (body_of l f.kind k f) 1 ∷ last_result l is_main)

-- a declared function, by what its lowering is given
abbrev pub declared_by : Bool → Bool → ℕ → Function → Lowering → RegionFunction
declared_by is_member is_main k f l =
    with_body l.layout is_member l.variables (l.first_variable + length f.parameters) f.name.text (result_for l f.result) (guarded is_main k f l)

pub declared_so : (is_member is_main : Bool) (k : ℕ) (f : Function) (l : Lowering) (n : ℕ) (slot : Option ℕ) (body : Region) →
    n ≡ l.first_variable + length f.parameters → slot ≡ result_for l f.result → body ≡ guarded is_main k f l →
    with_body l.layout is_member l.variables n f.name.text slot body ≡ declared_by is_member is_main k f l
declared_so is_member is_main k f l n slot body parameters result done =
    let m = l.first_variable + length f.parameters in
    ap (λ x. with_body l.layout is_member l.variables x f.name.text slot body) parameters
    ∙ (ap (λ x. with_body l.layout is_member l.variables m f.name.text x body) result
    ∙ ap (λ x. with_body l.layout is_member l.variables m f.name.text (result_for l f.result) x) done)
