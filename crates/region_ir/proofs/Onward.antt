-- Arguments one after the other.
use Rattle.std.proofs.Common.{◌≡◌, ◌∙◌, ℕ, ◌+◌, Bool, true, false, ◌||◌, List, [], ◌∷◌, ◌++◌, map, drop, refl, ap, sym, subst, append_assoc, arith}
use Rattle.std.proofs.lemmas.Bool.Decides.{nat_tests}
use Rattle.std.proofs.lemmas.List.{append-nil}
use Rattle.std.specs.Prelude.{if◌then◌else◌, nat_lt}
use Rattle.cxx_ast.specs.declared.types.Ty.{Ty}
use Rattle.cxx_ast.specs.Plain.{Expression, Expressions, no_expressions, expression_then}
use Rattle.meaning_forms.specs.Expression.{lvalue_of, names_of}
use Rattle.region_forms.specs.Form.{Argument, Place, Region}
use Rattle.region_forms.specs.LowerExpression.{Lowering, Lowered, LoweredArguments, has_call, some_call, lower, lower_arguments, refers, place_of, stored_in, address_passed, int_passed}
use Rattle.region_ir.specs.declared.value.Arg.{Arg as ArgTree}
use Rattle.region_ir.specs.declared.region.Region.{Region as RegionTree}
use Rattle.region_ir.specs.Passed.{Passes, PassesOne, calls_among, none_passed, one_passed}
use Rattle.region_ir.specs.View.{argument_of, region_of}
use Rattle.region_ir.proofs.Quiet.{arguments_quiet}

-- the first argument, then those behind it
record Split (total one rest : LoweredArguments) : Type 0 where
  put : total.before ≡ one.before ++ rest.before
  passed : total.arguments ≡ one.arguments ++ rest.arguments

split : (b c : Bool) (p : Place) (t : ℕ) (a : Lowered) (rest : ℕ → LoweredArguments) → (c ≡ false → (u : ℕ) → (rest u).before ≡ []) →
    Split (if b then address_passed p (rest t) else int_passed c t a rest) (if b then address_passed p (none_passed t) else int_passed c t a none_passed)
    (rest (if b then address_passed p (none_passed t) else int_passed c t a none_passed).next)
split true c p t a rest q = record { put = refl; passed = refl }
split false true p t a rest q = record { put = sym (append_assoc a.before (stored_in t a.value ∷ []) (rest (t + 1)).before); passed = refl }
split false false p t a rest q = record { put = sym (ap (λ xs. a.before ++ xs) (q refl a.next) ∙ append-nil a.before); passed = refl }

-- what is passed so far and what is left are the arguments
pub record PassedSoFar (total rest : LoweredArguments) (others : List Region) (now : List RegionTree) (first : List Argument) (given : List ArgTree) : Type 0 where
  pub put : map region_of now ++ rest.before ≡ others ++ total.before
  pub passed : map argument_of given ++ rest.arguments ≡ first ++ total.arguments

-- one argument more is
pub one_so_far : (l : Lowering) (total : LoweredArguments) (others : List Region) (first : List Argument) (e : Expression) (es left : Expressions) (types later : List Ty)
    (t u : ℕ) (b c : Bool) (old now : List RegionTree) (had given : List ArgTree) → left ≡ expression_then e es →
    PassedSoFar total (lower_arguments l left types t) others old first had → b ≡ refers types → c ≡ some_call es → later ≡ drop 1 types →
    PassesOne (one_passed l b c e t) (map region_of old) now (map argument_of had) given u →
    PassedSoFar total (lower_arguments l es later u) others now first given
one_so_far l total others first e es left types later t u b c old now had given n before r s more h =
    let p = place_of l (names_of (lvalue_of e)) in
    let rests = λ (v : ℕ). lower_arguments l es (drop 1 types) v in
    let one = one_passed l b c e t in
    let rest = rests one.next in
    let apart : Split (if b then address_passed p (rests t) else int_passed c t (lower l e t) rests) one rest =
    split b c p t (lower l e t) rests (λ none v. arguments_quiet l es (drop 1 types) v (sym s ∙ none)) in
    let whole : lower_arguments l left types t ≡ (if b then address_passed p (rests t) else int_passed c t (lower l e t) rests) =
    ap (λ xs. lower_arguments l xs types t) n ∙
    (ap (λ x. if x then address_passed p (rests t) else int_passed (some_call es) t (lower l e t) rests) (sym r) ∙
    ap (λ x. if b then address_passed p (rests t) else int_passed x t (lower l e t) rests) (sym s)) in
    let next : PassedSoFar total rest others now first given = record {
      put = ap (λ xs. xs ++ rest.before) h.pass.put ∙ (append_assoc (map region_of old) one.before rest.before ∙
          (ap (λ xs. map region_of old ++ xs) (sym (ap (λ x. x.before) whole ∙ apart.put)) ∙ before.put));
      passed = ap (λ xs. xs ++ rest.arguments) h.pass.passed ∙ (append_assoc (map argument_of had) one.arguments rest.arguments ∙
          (ap (λ xs. map argument_of had ++ xs) (sym (ap (λ x. x.arguments) whole ∙ apart.passed)) ∙ before.passed));
    } in
    subst (λ v. PassedSoFar total (lower_arguments l es later v) others now first given) (sym h.behind)
    (subst (λ ts. PassedSoFar total (lower_arguments l es ts one.next) others now first given) (sym more) next)

-- all are
pub all_so_far : (l : Lowering) (total : LoweredArguments) (others : List Region) (first : List Argument) (types : List Ty) (t : ℕ) (now : List RegionTree) (given : List ArgTree) →
    PassedSoFar total (lower_arguments l no_expressions types t) others now first given → Passes total others now first given
all_so_far l total others first types t now given h = record {
  put = sym (append-nil (map region_of now)) ∙ h.put;
  passed = sym (append-nil (map argument_of given)) ∙ h.passed;
}

positive : (n : ℕ) → nat_lt 0 (1 + n) ≡ true
positive n = grind (arith, nat_tests)

some_of : (b c : Bool) (n : ℕ) → nat_lt 0 n ≡ c → nat_lt 0 ((if b then 1 else 0) + n) ≡ (b || c)
some_of true c n h = positive n
some_of false c n h =
    let same : 0 + n ≡ n = omega arith in
    ap (λ k. nat_lt 0 k) same ∙ h

-- some expressions make calls where the number of those that do is not 0
pub some_among : (es : Expressions) → nat_lt 0 (calls_among es) ≡ some_call es
some_among no_expressions = refl
some_among (expression_then e es) = some_of (has_call e) (some_call es) (calls_among es) (some_among es)
