-- The tables of functions, and of the functions of checked programs.
use Rattle.std.proofs.Common.{◌≡◌, ℕ, zero, suc, ℤ, Bool, true, List, [], ◌∷◌, map, length, Some, refl, sym, ap, ◌∙◌, subst}
use Rattle.std.specs.Prelude.{slice_get, nat_le, nat_lt, ◌&&◌, ◌==◌}
use Rattle.linear_forms.proofs.Integers.{both_hold}
use Rattle.region_forms.specs.Form.{RegionFunction, Regions, function_at}
use Rattle.std.proofs.lemmas.List.{length-map}
use Rattle.linear_forms.specs.Filters.{types_in, lists_in}
use Rattle.region_forms.specs.Guard.{Guard}
use Rattle.region_forms.specs.WellFormed.{every, region_test, result_test, rows_test, function_test}
use Rattle.linear_forms.specs.Linear.{LinearOp, return}
use Rattle.linear_forms.specs.Tables.{Sense, unpadded, sense_in}
use Rattle.linear_forms.specs.Sites.{Placed, cover_in}
use Rattle.linear_forms.specs.Emission.{quiet}
use Rattle.linear_forms.specs.Code.{region_code}
use Rattle.linear_forms.specs.Unit.{emitting, placed_code}
use Rattle.linear_forms.proofs.Merging.{sites_are_right}
use Rattle.linear_forms.proofs.Meaning.{filters_are_right}
use Rattle.region_forms.specs.Layout.{layout_of}
use Rattle.region_forms.specs.LowerProgram.{regions_of}
use Rattle.region_formed.specs.WellFormed.{CheckedRegionsAreWellFormed}
use Rattle.handler_choice.specs.Around.{goes_out, guards_in, guards_of}
use Rattle.handler_choice.specs.Says.{Says}
use Rattle.handler_choice.specs.Laws.{GuardsAreSaid, CheckedGuardsAreSaid}
use Rattle.handler_choice.proofs.Regions.{AllSaid, as_many, both_said, region_said}

-- at a place of code
said_at : (senses : ℤ → Sense) (code : List Placed) (guards : List (List Guard)) (p : ℕ) (x : LinearOp) → AllSaid senses code guards → slice_get (map (λ y. y.op) code) p ≡ Some x → goes_out x ≡ true →
    (gs : List Guard) × (slice_get guards p ≡ Some gs) × Says senses gs (cover_in code p)
said_at senses [] guards p x h is out = absurd (cc is)
said_at senses (y ∷ code) [] p x h is out = absurd h
said_at senses (y ∷ code) (gs ∷ guards) zero x h is out = (gs, refl, h.0 (ap goes_out (the is) ∙ out))
  where
    the : Some y.op ≡ Some x → y.op ≡ x
    the e = cc e
said_at senses (y ∷ code) (gs ∷ guards) (suc p) x h is out = said_at senses code guards p x h.1 is out

module _ (r : Regions) (f : RegionFunction) (w : function_test r f ≡ true) where
  -- the covers of all its code
  all_said : AllSaid (sense_in (types_in f.body) (lists_in f.body)) (placed_code f) (guards_of f)
  all_said =
      let senses = sense_in (types_in f.body) (lists_in f.body) in
      let body = region_code (emitting f) unpadded [] 0 0 f.body in
      let test = (both_hold (result_test f.slots f.result) (region_test r f.slots 0 f.body) (both_hold (nat_le f.parameters (length f.slots)) (result_test f.slots f.result && region_test r f.slots 0 f.body) w).1).1 in
      let inside = region_said senses (emitting f) r f.slots f.body [] unpadded [] 0 0 0 test (filters_are_right f.body) tt refl in
      both_said senses body (quiet (return f.result) ∷ []) (guards_in [] [] f.body) ([] ∷ []) inside ((λ e. absurd (cc e)), tt)

pub guards_are_said : GuardsAreSaid
guards_are_said r f w = record {
  beside = as_many (sense_in (types_in f.body) (lists_in f.body)) (placed_code f) (guards_of f) (all_said r f w) ∙ sym (length-map (placed_code f) (λ (x : Placed). x.op));
  guarded = λ place operation is out.
      let senses = sense_in (types_in f.body) (lists_in f.body) in
      let there = said_at senses (placed_code f) (guards_of f) place operation (all_said r f w) is out in
      record { guards = there.0; around = there.1; said = subst (Says senses there.0) (sym (sites_are_right.said (placed_code f) place)) there.2 };
}

-- one of a list of which a test holds
one_of : {A : Type 0} (test : A → Bool) (xs : List A) (n : ℕ) (x : A) → every test xs ≡ true → slice_get xs n ≡ Some x → test x ≡ true
one_of test [] n x h e = absurd (cc e)
one_of test (y ∷ ys) zero x h e = ap test (sym (the e)) ∙ (both_hold (test y) (every test ys) h).0
  where
    the : Some y ≡ Some x → y ≡ x
    the q = cc q
one_of test (y ∷ ys) (suc n) x h e = one_of test ys n x (both_hold (test y) (every test ys) h).1 e

pub checked_guards_are_said : CheckedRegionsAreWellFormed → CheckedGuardsAreSaid
checked_guards_are_said formed p checked n f is =
    let r = regions_of p (layout_of p) in
    let main = both_hold (nat_lt r.main (length r.functions)) ((function_at r r.main).parameters == 0 && (rows_test 0 r.types && every (function_test r) r.functions)) (formed p checked) in
    let rest = both_hold ((function_at r r.main).parameters == 0) (rows_test 0 r.types && every (function_test r) r.functions) main.1 in
    let fine = (both_hold (rows_test 0 r.types) (every (function_test r) r.functions) rest.1).1 in
    guards_are_said r f (one_of (function_test r) r.functions n f fine is)
