-- The names of the parts of classes.
use Rattle.std.proofs.Common.{◌≡◌, ℕ, zero, suc, Bool, true, false, ◌||◌, List, [], ◌∷◌, ◌++◌, Option, Some, None, Result, Ok, Err, OnOk, OnErr, refl, ap, ◌∙◌, sym, bytes_eq, position, subst, take, slice_get}
use Rattle.std.proofs.lemmas.Slice.Eq.{bytes_eq-Decides}
use Rattle.std.specs.Prelude.{⊤}
use Rattle.cxx_ast.specs.Environment.{ClassEntry, Environment, unknown}
use Rattle.cxx_ast.specs.FunctionRules.{has_text}
use Rattle.cxx_ast.specs.Lookup.{field_named, method_named, first_of_two, member_of}
use Rattle.cxx_rules.specs.NamesOf.{field_texts, function_texts}
use Rattle.cxx_rules.specs.Known.{part_names, HaveMembers, HasNoMember}
use Rattle.cxx_rules.specs.Positions.{AreAmong, AreWith}
use Rattle.cxx_rules.proofs.LookupLaws.{no_field, no_method}
use Rattle.cxx_rules.proofs.TextLaws.{has_position, none_by}

or_more : (a b c : Bool) → (a || (b || c)) ≡ ((a || b) || c)
or_more true b c = refl
or_more false b c = refl

pub has_append : (q : List ℕ) (xs ys : List (List ℕ)) → has_text q (xs ++ ys) ≡ (has_text q xs || has_text q ys)
has_append q [] ys = refl
has_append q (x ∷ xs) ys = ap (λ b. bytes_eq x q || b) (has_append q xs ys) ∙ or_more (bytes_eq x q) (has_text q xs) (has_text q ys)

left_true : (a b : Bool) → a ≡ true → (a || b) ≡ true
left_true a b e = rw e refl

pub right_true : (a b : Bool) → b ≡ true → (a || b) ≡ true
right_true true b e = refl
right_true false b e = e

either : (a b : Bool) {X : Type 0} → (a || b) ≡ true → (a ≡ true → X) → (b ≡ true → X) → X
either true b e f g = f refl
either false b e f g = g e

both_false : (a b : Bool) → (a || b) ≡ false → (a ≡ false) × (b ≡ false)
both_false true b e = absurd (cc e)
both_false false b e = (refl, e)

-- a name that is among the texts already, or is put behind them
pub with_one : (text : List ℕ) (old : List (List ℕ)) → has_text text old ≡ true → AreWith old (text ∷ []) old
with_one text old there = (λ q h. h, λ q h. one q h)
  where
    one : (q : List ℕ) → (bytes_eq text q || false) ≡ true → has_text q old ≡ true
    one q h = either (bytes_eq text q) false h (λ e. subst (λ t. has_text t old ≡ true) ((bytes_eq-Decides text q).0 e) there) (λ e. absurd (cc e))

pub with_last : (text : List ℕ) (old : List (List ℕ)) → AreWith old (text ∷ []) (old ++ text ∷ [])
with_last text old = (
  λ q h. has_append q old (text ∷ []) ∙ left_true (has_text q old) (has_text q (text ∷ [])) h,
  λ q h. has_append q old (text ∷ []) ∙ right_true (has_text q old) (has_text q (text ∷ [])) h,
)

-- whether it was put there or not, the texts before it are still there
pub added_kept : {T E : Type 0} (r : Result T E) (text : List ℕ) (old new : List (List ℕ)) → OnOk r (new ≡ old ++ text ∷ []) → OnErr r (new ≡ old) → AreAmong old new
added_kept (Ok x) text old new e f = subst (AreAmong old) (sym e) (with_last text old).0
added_kept (Err x) text old new e f = subst (AreAmong old) (sym f) (λ q h. h)

pub with_none : (old : List (List ℕ)) → AreWith old [] old
with_none old = (λ q h. h, λ q h. absurd (cc h))

pub with_both : (old mid new first more : List (List ℕ)) → AreWith old first mid → AreWith mid more new → AreWith old (first ++ more) new
with_both old mid new first more f g = (
  λ q h. g.0 q (f.0 q h),
  λ q h. either (has_text q first) (has_text q more) (sym (has_append q first more) ∙ h) (λ e. g.0 q (f.1 q e)) (λ e. g.1 q e),
)

-- more texts have the names too
pub members_kept : (old new : List (List ℕ)) (cs : List ClassEntry) → AreAmong old new → HaveMembers old cs → HaveMembers new cs
members_kept old new [] among have = have
members_kept old new (c ∷ cs) among have = (λ q h. among q (have.0 q h), members_kept old new cs among have.1)

pub members_push : (members : List (List ℕ)) (cs : List ClassEntry) (c : ClassEntry) → HaveMembers members cs → AreAmong (part_names c) members →
    HaveMembers members (cs ++ c ∷ [])
members_push members [] c have among = (among, have)
members_push members (d ∷ cs) c have among = (have.0, members_push members cs c have.1 among)

pub members_taken : (members : List (List ℕ)) (n : ℕ) (cs : List ClassEntry) → HaveMembers members cs → HaveMembers members (take n cs)
members_taken members zero cs have = nothing members cs have
  where
    nothing : (members : List (List ℕ)) (cs : List ClassEntry) → HaveMembers members cs → HaveMembers members []
    nothing members [] have = have
    nothing members (c ∷ cs) have = nothing members cs have.1
members_taken members (suc n) [] have = have
members_taken members (suc n) (c ∷ cs) have = (have.0, members_taken members n cs have.1)

-- a name that is not among them is that of no part
pub no_member : (text : List ℕ) (members : List (List ℕ)) (cs : List ClassEntry) → has_text text members ≡ false → HaveMembers members cs → HasNoMember text cs
no_member text members [] none have = have
no_member text members (c ∷ cs) none have = (by (has_text text (part_names c)) refl, no_member text members cs none have.1)
  where
    by : (b : Bool) → has_text text (part_names c) ≡ b → has_text text (part_names c) ≡ false
    by true e = absurd (let h = have.0 text e in cc (sym h ∙ none))
    by false e = e

not_placed : (text : List ℕ) (names : List (List ℕ)) → has_text text names ≡ false → position (λ d. bytes_eq d text) names ≡ None
not_placed text names e = none_by (position (λ d. bytes_eq d text) names) (has_position text names ∙ e)

-- and means nothing as a member
pub means_nothing : (n : ℕ) (env : Environment) (k : ℕ) (limit : Option ℕ) (text : List ℕ) → HasNoMember text env.classes → member_of n env k limit text ≡ unknown
means_nothing zero env k limit text none = refl
means_nothing (suc n) env k limit text none = by (λ b. means_nothing n env b limit text none) (slice_get env.classes k) (in_class env.classes k none)
  where
    IsBare : Option ClassEntry → Type 0
    IsBare None = ⊤
    IsBare (Some c) = has_text text (part_names c) ≡ false

    in_class : (cs : List ClassEntry) (i : ℕ) → HasNoMember text cs → IsBare (slice_get cs i)
    in_class [] i h = h
    in_class (c ∷ cs) zero h = h.0
    in_class (c ∷ cs) (suc i) h = in_class cs i h.1

    go_on : ((b : ℕ) → member_of n env b limit text ≡ unknown) → (base : Option ℕ) → elim base [ None ↦ unknown | Some b ↦ member_of n env b limit text ] ≡ unknown
    go_on rest None = refl
    go_on rest (Some b) = rest b

    by : ((b : ℕ) → member_of n env b limit text ≡ unknown) → (o : Option ClassEntry) → IsBare o →
        elim o [
          | None ↦ unknown
          | Some c ↦ elim (first_of_two (field_named limit text k 0 c.fields) (method_named limit text k 0 c.functions)) [
            | Some found ↦ found.meaning
            | None ↦ elim c.base [ None ↦ unknown | Some b ↦ member_of n env b limit text ]
          ]
        ] ≡ unknown
    by rest None h = refl
    by rest (Some c) h =
        let parts = both_false (has_text text (field_texts c.fields)) (has_text text (function_texts c.functions)) (sym (has_append text (field_texts c.fields) (function_texts c.functions)) ∙ h) in
        let fields = no_field limit text k 0 c.fields (not_placed text (field_texts c.fields) parts.0) in
        let functions = no_method limit text k 0 c.functions (not_placed text (function_texts c.functions) parts.1) in
        rw fields (rw functions (go_on rest c.base))
