-- Declarations that agree say the same.
use Rattle.std.proofs.Common.{◌≡◌, ℕ, zero, suc, Bool, true, false, ◌&&◌, ◌||◌, not, List, [], ◌∷◌, Option, Some, None, refl, ap, ◌∙◌, sym, subst, cond, bytes_eq, nat_eq, nat_lt, length, map, option_map, position, slice_index_or, is_some, arith}
use Rattle.std.proofs.lemmas.Bool.Decides.{nat_tests}
use Rattle.std.proofs.lemmas.Slice.Eq.{bytes_eq-Decides}
use Rattle.cxx_ast.specs.Environment.{Kind, int_kind, truth_kind, void_kind, class_kind, no_kind, same_kind, Passing, Signature}
use Rattle.cxx_ast.specs.ClassRules.{same_test}
use Rattle.cxx_ast.specs.Broken.{same_passing, same_parameters, has_kind, all_in, same_allowed, agree, differs_from}
use Rattle.cxx_ast.proofs.KindLaws.{same_test_is, same_kind_is}
use Rattle.cxx_ast.proofs.Positions.{position-cons}
use Rattle.cxx_rules.specs.SignaturesOf.{first_named}
use Rattle.cxx_rules.proofs.MemberNames.{right_true}
use Rattle.cxx_rules.proofs.TextLaws.{some_suc}

pub both_true : (a b : Bool) → (a && b) ≡ true → (a ≡ true) × (b ≡ true)
both_true true b h = (refl, h)
both_true false b h = absurd (cc h)

nat_itself : (n : ℕ) → nat_eq n n ≡ true
nat_itself n = grind (arith, nat_tests)

kind_itself : (k : Kind) → same_kind k k ≡ true
kind_itself int_kind = refl
kind_itself truth_kind = refl
kind_itself void_kind = refl
kind_itself no_kind = refl
kind_itself (class_kind k) = nat_itself k

-- a parameter is of the same type as the one or as the other of two of the same type
passing_alike : (t p q : Passing) → same_passing p q ≡ true → same_passing t q ≡ same_passing t p
passing_alike t p q h =
    let parts = both_true (same_kind p.kind q.kind && same_test p.is_reference q.is_reference) (same_test p.is_const q.is_const) h in
    let first = both_true (same_kind p.kind q.kind) (same_test p.is_reference q.is_reference) parts.0 in
    ap (λ k. same_kind t.kind k && same_test t.is_reference q.is_reference && same_test t.is_const q.is_const) (sym (same_kind_is p.kind q.kind first.0))
    ∙ ap (λ b. same_kind t.kind p.kind && same_test t.is_reference b && same_test t.is_const q.is_const) (sym (same_test_is p.is_reference q.is_reference first.1))
    ∙ ap (λ b. same_kind t.kind p.kind && same_test t.is_reference p.is_reference && same_test t.is_const b) (sym (same_test_is p.is_const q.is_const parts.1))

parameters_alike : (ts ps qs : List Passing) → same_parameters ps qs ≡ true → same_parameters ts qs ≡ same_parameters ts ps
parameters_alike ts [] [] h = refl
parameters_alike ts [] (q ∷ qs) h = absurd (cc h)
parameters_alike ts (p ∷ ps) [] h = absurd (cc h)
parameters_alike [] (p ∷ ps) (q ∷ qs) h = refl
parameters_alike (t ∷ ts) (p ∷ ps) (q ∷ qs) h =
    let parts = both_true (same_passing p q) (same_parameters ps qs) h in
    ap (λ b. b && same_parameters ts qs) (passing_alike t p q parts.0) ∙ ap (λ b. same_passing t p && b) (parameters_alike ts ps qs parts.1)

lt_none : (i : ℕ) → nat_lt i 0 ≡ false
lt_none i = grind (arith, nat_tests)

lt_more : (i n : ℕ) → nat_lt (suc i) (suc n) ≡ nat_lt i n
lt_more i n = grind (arith, nat_tests)

-- a list has the type that stands at a place of it
pub has_at : {R : Type 0} (f : R → Kind) (x : Kind) (ks : List R) (i : ℕ) (d k : R) →
    true ≡ nat_lt i (length ks) → k ≡ slice_index_or ks i d → same_kind (f k) x ≡ true → has_kind x (map f ks) ≡ true
has_at f x [] i d k h e s = let none : true ≡ false = h ∙ lt_none i in absurd (cc none)
has_at f x (j ∷ ks) zero d k h e s = ap (λ b. b || has_kind x (map f ks)) (ap (λ y. same_kind (f y) x) (sym e) ∙ s)
has_at f x (j ∷ ks) (suc i) d k h e s = right_true (same_kind (f j) x) (has_kind x (map f ks)) (has_at f x ks i d k (h ∙ lt_more i (length ks)) e s)

-- a list has a type exactly where it has a place for it
pub has_place : {R : Type 0} (f : R → Kind) (x : Kind) (ks : List R) → is_some (position (λ k. same_kind (f k) x) ks) ≡ has_kind x (map f ks)
has_place f x [] = refl
has_place f x (k ∷ ks) = ap is_some (position-cons (λ j. same_kind (f j) x) k ks) ∙ by (same_kind (f k) x) (has_place f x ks)
  where
    by : (b : Bool) → is_some (position (λ j. same_kind (f j) x) ks) ≡ has_kind x (map f ks) →
        is_some (cond b (Some 0) (option_map suc (position (λ j. same_kind (f j) x) ks))) ≡ (b || has_kind x (map f ks))
    by true h = refl
    by false h = some_suc (position (λ j. same_kind (f j) x) ks) ∙ h

-- what a list has is in another that has all of it
kept : (k : Kind) (js ks : List Kind) → all_in js ks ≡ true → has_kind k js ≡ true → has_kind k ks ≡ true
kept k [] ks all h = absurd (cc h)
kept k (j ∷ js) ks all h =
    let parts = both_true (has_kind j ks) (all_in js ks) all in
    by (same_kind j k) refl parts.0 (kept k js ks parts.1)
  where
    by : (b : Bool) → same_kind j k ≡ b → has_kind j ks ≡ true → (has_kind k js ≡ true → has_kind k ks ≡ true) → has_kind k ks ≡ true
    by true e first rest = subst (λ x. has_kind x ks ≡ true) (same_kind_is j k e) first
    by false e first rest = rest (sym (ap (λ b. b || has_kind k js) e) ∙ h)

all_kept : (is js ks : List Kind) → all_in js ks ≡ true → all_in is js ≡ true → all_in is ks ≡ true
all_kept [] js ks all h = refl
all_kept (i ∷ is) js ks all h =
    let parts = both_true (has_kind i js) (all_in is js) h in
    let a = kept i js ks all parts.0 in let b = all_kept is js ks all parts.1 in rw a b

same_bools : (a b : Bool) → (a ≡ true → b ≡ true) → (b ≡ true → a ≡ true) → a ≡ b
same_bools true b f g = sym (f refl)
same_bools false true f g = g refl
same_bools false false f g = refl

-- two specifications of the same types agree with the same others
allowed_same : (t f s : Option (List Kind)) → same_allowed f s ≡ true → same_allowed t s ≡ same_allowed t f
allowed_same t None None h = refl
allowed_same t None (Some ss) h = absurd (cc h)
allowed_same t (Some fs) None h = absurd (cc h)
allowed_same None (Some fs) (Some ss) h = refl
allowed_same (Some ts) (Some fs) (Some ss) h =
    let parts = both_true (all_in fs ss) (all_in ss fs) h in
    let within = same_bools (all_in ts ss) (all_in ts fs) (λ a. all_kept ts ss fs parts.1 a) (λ a. all_kept ts fs ss parts.0 a) in
    let round = same_bools (all_in ss ts) (all_in fs ts) (λ a. all_kept fs ss ts a parts.0) (λ a. all_kept ss fs ts a parts.1) in
    rw within (rw round refl)

-- a declaration agrees with the one or with the other of two that agree
pub agree_same : (t f s : Signature) → agree f s ≡ true → agree t s ≡ agree t f
agree_same t f s h =
    let parts = both_true (same_kind f.result s.result && same_parameters f.parameters s.parameters) (same_allowed f.allowed s.allowed) h in
    let first = both_true (same_kind f.result s.result) (same_parameters f.parameters s.parameters) parts.0 in
    let result = same_kind_is f.result s.result first.0 in
    let parameters = parameters_alike t.parameters f.parameters s.parameters first.1 in
    ap (λ k. same_kind t.result k && same_parameters t.parameters s.parameters && same_allowed t.allowed s.allowed) (sym result)
    ∙ ap (λ b. same_kind t.result f.result && b && same_allowed t.allowed s.allowed) parameters
    ∙ ap (λ b. same_kind t.result f.result && same_parameters t.parameters f.parameters && b) (allowed_same t.allowed f.allowed s.allowed parts.1)

all_itself : (js ks : List Kind) → ((k : Kind) → has_kind k js ≡ true → has_kind k ks ≡ true) → all_in js ks ≡ true
all_itself [] ks h = refl
all_itself (j ∷ js) ks h =
    let a = h j (ap (λ b. b || has_kind j js) (kind_itself j)) in
    let b = all_itself js ks (λ k e. h k (right_true (same_kind j k) (has_kind k js) e)) in
    rw a b

allowed_itself : (o : Option (List Kind)) → same_allowed o o ≡ true
allowed_itself None = refl
allowed_itself (Some ks) = let a = all_itself ks ks (λ k h. h) in rw a refl

test_itself : (b : Bool) → same_test b b ≡ true
test_itself true = refl
test_itself false = refl

parameters_itself : (ps : List Passing) → same_parameters ps ps ≡ true
parameters_itself [] = refl
parameters_itself (p ∷ ps) = rw (kind_itself p.kind, test_itself p.is_reference, test_itself p.is_const, parameters_itself ps) refl

pub agree_itself : (s : Signature) → agree s s ≡ true
agree_itself s = rw (kind_itself s.result, parameters_itself s.parameters, allowed_itself s.allowed) refl

-- where the first of a name agrees with a declaration of the name, the others differ from it or from the first alike
pub differs_alike : (ss : List Signature) (f s : Signature) → f.name.text ≡ s.name.text → agree f s ≡ true → differs_from ss s ≡ differs_from ss f
differs_alike [] f s n h = refl
differs_alike (t ∷ ss) f s n h =
    ap (λ x. (bytes_eq t.name.text x && not (agree t s)) || differs_from ss s) (sym n)
    ∙ ap (λ b. (bytes_eq t.name.text f.name.text && not b) || differs_from ss s) (agree_same t f s h)
    ∙ ap (λ b. (bytes_eq t.name.text f.name.text && not (agree t f)) || b) (differs_alike ss f s n h)

-- where it differs, one does
pub first_differs : (ss : List Signature) (f s : Signature) → first_named s.name.text ss ≡ Some f → agree f s ≡ false → differs_from ss s ≡ true
first_differs [] f s e h = absurd (cc e)
first_differs (t ∷ ss) f s e h = by (bytes_eq t.name.text s.name.text) refl (λ rest. first_differs ss f s rest h)
  where
    by : (b : Bool) → bytes_eq t.name.text s.name.text ≡ b → (first_named s.name.text ss ≡ Some f → differs_from ss s ≡ true) → differs_from (t ∷ ss) s ≡ true
    by true q rest =
        let same : Some t ≡ Some f = sym (ap (λ b. cond b (Some t) (first_named s.name.text ss)) q) ∙ e in
        let is : t ≡ f = cc in
        ap (λ b. (b && not (agree t s)) || differs_from ss s) q ∙ ap (λ x. not (agree x s) || differs_from ss s) is ∙ ap (λ b. not b || differs_from ss s) h
    by false q rest =
        let next : first_named s.name.text ss ≡ Some f = sym (ap (λ b. cond b (Some t) (first_named s.name.text ss)) q) ∙ e in
        ap (λ b. (b && not (agree t s)) || differs_from ss s) q ∙ rest next

-- the first of a name has it
pub first_has : (text : List ℕ) (ss : List Signature) (f : Signature) → first_named text ss ≡ Some f → f.name.text ≡ text
first_has text [] f e = absurd (cc e)
first_has text (t ∷ ss) f e = by (bytes_eq t.name.text text) refl (first_has text ss f)
  where
    by : (b : Bool) → bytes_eq t.name.text text ≡ b → (first_named text ss ≡ Some f → f.name.text ≡ text) → f.name.text ≡ text
    by true q rest =
        let same : Some t ≡ Some f = sym (ap (λ b. cond b (Some t) (first_named text ss)) q) ∙ e in
        let is : t ≡ f = cc in ap (λ (x : Signature). x.name.text) (sym is) ∙ (bytes_eq-Decides t.name.text text).0 q
    by false q rest = rest (sym (ap (λ b. cond b (Some t) (first_named text ss)) q) ∙ e)

-- one of the declarations of a name differs from another exactly where one differs from the first, or the first does
pub differs_by : (ss : List Signature) (f s : Signature) → first_named s.name.text ss ≡ Some f → differs_from ss s ≡ (differs_from ss f || not (agree f s))
differs_by ss f s e = by (agree f s) refl
  where
    or_true : (a : Bool) → true ≡ (a || true)
    or_true true = refl
    or_true false = refl

    or_false : (a : Bool) → a ≡ (a || false)
    or_false true = refl
    or_false false = refl

    by : (b : Bool) → agree f s ≡ b → differs_from ss s ≡ (differs_from ss f || not (agree f s))
    by true h = differs_alike ss f s (first_has s.name.text ss f e) h ∙ or_false (differs_from ss f) ∙ ap (λ b. differs_from ss f || not b) (sym h)
    by false h = first_differs ss f s e h ∙ or_true (differs_from ss f) ∙ ap (λ b. differs_from ss f || not b) (sym h)

-- where none has the name, none differs
pub none_differs : (ss : List Signature) (s : Signature) → first_named s.name.text ss ≡ None → differs_from ss s ≡ false
none_differs [] s e = refl
none_differs (t ∷ ss) s e = by (bytes_eq t.name.text s.name.text) refl (none_differs ss s)
  where
    by : (b : Bool) → bytes_eq t.name.text s.name.text ≡ b → (first_named s.name.text ss ≡ None → differs_from ss s ≡ false) → differs_from (t ∷ ss) s ≡ false
    by true q rest = let h : Some t ≡ None = sym (ap (λ b. cond b (Some t) (first_named s.name.text ss)) q) ∙ e in absurd (cc h)
    by false q rest =
        ap (λ b. (b && not (agree t s)) || differs_from ss s) q
        ∙ rest (sym (ap (λ b. cond b (Some t) (first_named s.name.text ss)) q) ∙ e)
