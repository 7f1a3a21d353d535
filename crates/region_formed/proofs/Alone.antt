-- A class's name means no member.
use Rattle.std.proofs.Common.{◌≡◌, ◌∙◌, ◌+◌, ◌&&◌, ℕ, zero, suc, Bool, true, false, List, [], ◌∷◌, length, Option, Some, None, bytes_eq, if◌then◌else◌, refl, sym, ap}
use Rattle.std.specs.Prelude.{slice_get}
use Rattle.std.proofs.lemmas.Slice.Eq.{bytes_eq-Decides}
use Rattle.cxx_ast.specs.Environment.{Signature, Field, ClassEntry, Environment, Scope, unknown, a_field, a_method}
use Rattle.cxx_ast.specs.Lookup.{in_reach, field_named, is_method, method_named, first_of_two, member_of, own_meaning}
use Rattle.cxx_ast.specs.FunctionRules.{has_text}
use Rattle.cxx_ast.specs.Grammatical.{Each}
use Rattle.cxx_ast.specs.Plain.{Checked}
use Rattle.region_formed.proofs.Meant.{Meant}

-- a name among some differs from one that is not
pub texts_differ : (special : List (List ℕ)) (a b : List ℕ) → has_text a special ≡ true → has_text b special ≡ false → bytes_eq b a ≡ false
texts_differ special a b h k = go (bytes_eq b a) refl
  where
    go : (x : Bool) → bytes_eq b a ≡ x → bytes_eq b a ≡ false
    go true e = let same : b ≡ a = (bytes_eq-Decides b a).0 e in absurd (cc (sym h ∙ (ap (λ t. has_text t special) (sym same) ∙ k)))
    go false e = e

and_false : (a b : Bool) → b ≡ false → (a && b) ≡ false
and_false true b h = h
and_false false b h = refl

module _ (special : List (List ℕ)) (text : List ℕ) (h : has_text text special ≡ true) where
  no_field : (limit : Option ℕ) (k i : ℕ) (fs : List Field) → Each (λ (f : Field). has_text f.name.text special ≡ false) fs → field_named limit text k i fs ≡ None
  no_field limit k i [] a = refl
  no_field limit k i (f ∷ fs) a =
      ap (λ b. if b then Some (record { place = f.name.place; meaning = a_field k i f.kind }) else field_named limit text k (i + 1) fs)
      (and_false (in_reach limit f.name) (bytes_eq f.name.text text) (texts_differ special text f.name.text h a.0)) ∙ no_field limit k (i + 1) fs a.1

  no_method : (limit : Option ℕ) (k i : ℕ) (ss : List Signature) → Each (λ (s : Signature). is_method s.form ≡ true → has_text s.name.text special ≡ false) ss →
      method_named limit text k i ss ≡ None
  no_method limit k i [] a = refl
  no_method limit k i (s ∷ ss) a =
      ap (λ b. if b then Some (record { place = s.name.place; meaning = a_method k i s }) else method_named limit text k (i + 1) ss)
      (other (is_method s.form) refl) ∙ no_method limit k (i + 1) ss a.1
    where
      other : (b : Bool) → is_method s.form ≡ b → (is_method s.form && in_reach limit s.name && bytes_eq s.name.text text) ≡ false
      other true e =
          and_false (is_method s.form && in_reach limit s.name) (bytes_eq s.name.text text) (texts_differ special text s.name.text h (a.0 e))
      other false e = ap (λ c. c && in_reach limit s.name && bytes_eq s.name.text text) e

module _ (p : Checked) (defined special : List (List ℕ)) (env : Environment) (m : Meant p defined special env) (text : List ℕ) (h : has_text text special ≡ true) where
  no_member : (n k : ℕ) (limit : Option ℕ) → member_of n env k limit text ≡ unknown
  no_member zero k limit = refl
  no_member (suc n) k limit = of_class (slice_get env.classes k) refl (λ b. no_member n b limit)
    where
      of_base : (base : Option ℕ) → ((b : ℕ) → member_of n env b limit text ≡ unknown) →
          elim base [ None ↦ unknown | Some b ↦ member_of n env b limit text ] ≡ unknown
      of_base None rest = refl
      of_base (Some b) rest = rest b

      of_class : (o : Option ClassEntry) → slice_get env.classes k ≡ o → ((b : ℕ) → member_of n env b limit text ≡ unknown) →
          elim o [
            | None ↦ unknown
            | Some c ↦ elim (first_of_two (field_named limit text k 0 c.fields) (method_named limit text k 0 c.functions)) [
              | Some found ↦ found.meaning
              | None ↦ elim c.base [ None ↦ unknown | Some b ↦ member_of n env b limit text ]
            ]
          ] ≡ unknown
      of_class None e rest = refl
      of_class (Some c) e rest =
          let alone = (m.classes k c e).alone in
          rw (no_field special text h limit k 0 c.fields alone.fields) (rw (no_method special text h limit k 0 c.functions alone.methods) (of_base c.base rest))

  pub own_unknown : (sc : Scope) → own_meaning env sc text ≡ unknown
  own_unknown sc = go sc.own
    where
      go : (o : Option ℕ) → elim o [ None ↦ unknown | Some k ↦ member_of (length env.classes) env k sc.limit text ] ≡ unknown
      go None = refl
      go (Some k) = no_member (length env.classes) k sc.limit
