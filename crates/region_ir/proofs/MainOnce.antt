-- Where main is defined before, no declaration defines it again.
use Rattle.std.proofs.Common.{◌≡◌, ◌∙◌, ℕ, Bool, true, false, ◌&&◌, ◌||◌, List, [], ◌∷◌, ◌++◌, Option, Some, None, refl, sym, ap, subst, codes, bytes_eq, find}
use Rattle.std.specs.Option.{option_or}
use Rattle.std.specs.Prelude.{if◌then◌else◌}
use Rattle.std.proofs.lemmas.Bool.{and_parts}
use Rattle.std.proofs.lemmas.List.Folds.{find-append}
use Rattle.std.proofs.lemmas.Slice.Eq.{bytes_eq-Decides}
use Rattle.cxx_ast.specs.Plain.{Function, Declaration, class_declaration, global_declaration, function_declaration}
use Rattle.cxx_ast.specs.Finding.{breaks_if}
use Rattle.cxx_ast.specs.Rule.{redeclared, specification_mismatch}
use Rattle.cxx_ast.specs.Environment.{Signature, Thing, global_thing, class_thing, function_thing, Entry, Environment}
use Rattle.cxx_ast.specs.Lookup.{entry_of}
use Rattle.cxx_ast.specs.Locals.{outermost}
use Rattle.cxx_ast.specs.TypeNames.{has_body, signature}
use Rattle.cxx_ast.specs.Declare.{with_name, next_class, with_signature, declare_behind, body_environment}
use Rattle.cxx_ast.specs.FunctionRules.{function_found}
use Rattle.cxx_ast.specs.Broken.{differs_from, defined_in, function_name_found, declaration_found, declarations_found, is_main, has_main}
use Rattle.region_ir.proofs.Sound.{Sound, sound_parts, not_broken}

-- the name of main
abbrev pub main_text : List ℕ
main_text = codes "main"

-- a name that the test finds is that of main
pub named_main : (text : List ℕ) → bytes_eq text main_text ≡ true → text ≡ main_text
named_main text h = (bytes_eq-Decides text main_text).0 h

-- main is defined among what is known
pub record Defined (env : Environment) : Type 0 where
  pub entry : Entry
  pub there : entry_of env main_text ≡ Some entry
  pub defined : defined_in env.signatures main_text ≡ true

or_more : (b c d : Bool) → (c ≡ true → d ≡ true) → (b || c) ≡ true → (b || d) ≡ true
or_more true c d h k = refl
or_more false c d h k = h k

defined_more : (ss ts : List Signature) → defined_in ss main_text ≡ true → defined_in (ss ++ ts) main_text ≡ true
defined_more [] ts h = absurd (cc h)
defined_more (s ∷ ss) ts h =
    or_more (bytes_eq s.name.text main_text && s.is_defined) (defined_in ss main_text) (defined_in (ss ++ ts) main_text) (defined_more ss ts) h

or_last : (b c : Bool) → c ≡ true → (b || c) ≡ true
or_last true c h = refl
or_last false c h = h

or_first : (b c : Bool) → b ≡ true → (b || c) ≡ true
or_first true c h = refl
or_first false c h = absurd (cc h)

defined_last : (ss : List Signature) (s : Signature) → (bytes_eq s.name.text main_text && s.is_defined) ≡ true → defined_in (ss ++ s ∷ []) main_text ≡ true
defined_last [] s h = or_first (bytes_eq s.name.text main_text && s.is_defined) false h
defined_last (t ∷ ss) s h = or_last (bytes_eq t.name.text main_text && t.is_defined) (defined_in (ss ++ s ∷ []) main_text) (defined_last ss s h)

entry_more : (names more : List Entry) (e : Entry) → find (λ x. bytes_eq x.text main_text) names ≡ Some e →
    find (λ x. bytes_eq x.text main_text) (names ++ more) ≡ Some e
entry_more names more e h =
    find-append (λ x. bytes_eq x.text main_text) names more ∙ ap (λ o. option_or o (find (λ x. bytes_eq x.text main_text) more)) h

-- it stays so
name_kept : (env : Environment) (text : List ℕ) (t : Thing) → Defined env → Defined (with_name env text t)
name_kept env text t h = go (entry_of env text)
  where
    go : (o : Option Entry) → Defined (elim o [ Some e ↦ env | None ↦ record env { names = env.names ++ (record { text = text; thing = t } ∷ []) } ])
    go (Some e) = h
    go None = record { entry = h.entry; there = entry_more env.names (record { text = text; thing = t } ∷ []) h.entry h.there; defined = h.defined }

signature_kept : (env : Environment) (s : Signature) → Defined env → Defined (with_signature env s)
signature_kept env s h = go (entry_of env s.name.text)
  where
    one_more : (env : Environment) → Defined env → Defined (record env { signatures = env.signatures ++ (s ∷ []) })
    one_more env h = record { entry = h.entry; there = h.there; defined = defined_more env.signatures (s ∷ []) h.defined }

    more : Defined (record (with_name env s.name.text function_thing) { signatures = env.signatures ++ (s ∷ []) })
    more = let k = name_kept env s.name.text function_thing h in
        record { entry = k.entry; there = k.there; defined = defined_more env.signatures (s ∷ []) h.defined }

    old : (t : Thing) → Defined (elim t [ function_thing ↦ record env { signatures = env.signatures ++ (s ∷ []) } | _ ↦ env ])
    old (global_thing g) = h
    old (class_thing k) = h
    old function_thing = one_more env h

    go : (o : Option Entry) → Defined (elim o [
      | None ↦ record (with_name env s.name.text function_thing) { signatures = env.signatures ++ (s ∷ []) }
      | Some e ↦ elim e.thing [ function_thing ↦ record env { signatures = env.signatures ++ (s ∷ []) } | _ ↦ env ]
    ])
    go None = more
    go (Some e) = old e.thing

kept : (env : Environment) (d : Declaration) → Defined env → Defined (declare_behind env d)
kept env (class_declaration c) h =
    let k = name_kept env c.name.text (class_thing (next_class env)) h in record { entry = k.entry; there = k.there; defined = k.defined }
kept env (global_declaration n value) h =
    let k = name_kept env n.text (global_thing env.globals) h in record { entry = k.entry; there = k.there; defined = k.defined }
kept env (function_declaration f) h = signature_kept env (signature env outermost f) h

-- a definition of main where it is defined
again : (env : Environment) (s : Signature) → Defined env → Sound (function_name_found env s (entry_of env s.name.text)) →
    (bytes_eq s.name.text main_text && s.is_defined) ≡ true → ⊥
again env s h sound e = go h.entry.thing (subst (λ o. Sound (function_name_found env s o)) found sound)
  where
    parts : (bytes_eq s.name.text main_text ≡ true) × (s.is_defined ≡ true)
    parts = and_parts (bytes_eq s.name.text main_text) s.is_defined e

    found : entry_of env s.name.text ≡ Some h.entry
    found = ap (entry_of env) (named_main s.name.text parts.0) ∙ h.there

    twice : (s.is_defined && defined_in env.signatures s.name.text) ≡ true
    twice = ap (λ b. b && defined_in env.signatures s.name.text) parts.1
        ∙ (ap (defined_in env.signatures) (named_main s.name.text parts.0) ∙ h.defined)

    go : (t : Thing) → Sound (function_name_found env s (Some (record { text = h.entry.text; thing = t }))) → ⊥
    go (global_thing g) q = absurd (cc q)
    go (class_thing k) q = absurd (cc q)
    go function_thing q =
        let last = (sound_parts (breaks_if (differs_from env.signatures s) specification_mismatch s.name.place)
        (breaks_if (s.is_defined && defined_in env.signatures s.name.text) redeclared s.name.place) q).1 in
        let no = not_broken (s.is_defined && defined_in env.signatures s.name.text) redeclared s.name.place last in
        absurd (cc (sym twice ∙ no))

-- a function without main's name or without a body is not main
pub not_main : (f : Function) → (bytes_eq f.name.text main_text && has_body f.body) ≡ false → is_main f ≡ false
not_main f h = rw h refl

-- what breaks no rule in a function's name
pub name_sound : (env : Environment) (f : Function) → Sound (declaration_found env (function_declaration f)) →
    Sound (function_name_found env (signature env outermost f) (entry_of env f.name.text))
name_sound env f h =
    (sound_parts (function_name_found env (signature env outermost f) (entry_of env f.name.text))
    (function_found env outermost (body_environment env f) None f) h).0

false_else : (b : Bool) → (b ≡ true → ⊥) → b ≡ false
false_else true h = absurd (h refl)
false_else false h = refl

neither : (a b : Bool) → a ≡ false → b ≡ false → (a || b) ≡ false
neither true b h k = absurd (cc h)
neither false b h k = k

pub no_more : (env : Environment) (ds : List Declaration) → Defined env → Sound (declarations_found env ds) → has_main ds ≡ false
no_more env [] h s = refl
no_more env (class_declaration c ∷ ds) h s =
    let d = class_declaration c in
    no_more (declare_behind env d) ds (kept env d h) (sound_parts (declaration_found env d) (declarations_found (declare_behind env d) ds) s).1
no_more env (global_declaration n value ∷ ds) h s =
    let d = global_declaration n value in
    no_more (declare_behind env d) ds (kept env d h) (sound_parts (declaration_found env d) (declarations_found (declare_behind env d) ds) s).1
no_more env (function_declaration f ∷ ds) h s =
    let d = function_declaration f in
    let parts = sound_parts (declaration_found env d) (declarations_found (declare_behind env d) ds) s in
    neither (is_main f) (has_main ds)
    (not_main f (false_else (bytes_eq f.name.text main_text && has_body f.body) (again env (signature env outermost f) h (name_sound env f parts.0))))
    (no_more (declare_behind env d) ds (kept env d h) parts.1)

-- main is defined behind its definition
pub now_defined : (env : Environment) (s : Signature) → (bytes_eq s.name.text main_text && s.is_defined) ≡ true →
    Sound (function_name_found env s (entry_of env s.name.text)) → Defined (with_signature env s)
now_defined env s e sound = go (entry_of env s.name.text) refl sound
  where
    parts : (bytes_eq s.name.text main_text ≡ true) × (s.is_defined ≡ true)
    parts = and_parts (bytes_eq s.name.text main_text) s.is_defined e

    entry : Entry
    entry = record { text = s.name.text; thing = function_thing }

    new : entry_of env s.name.text ≡ None → entry_of (with_name env s.name.text function_thing) main_text ≡ Some entry
    new q =
        let none : entry_of env main_text ≡ None = ap (entry_of env) (sym (named_main s.name.text parts.0)) ∙ q in
        let same : with_name env s.name.text function_thing ≡ record env { names = env.names ++ (entry ∷ []) } =
        ap (λ o. elim o [ Some e ↦ env | None ↦ record env { names = env.names ++ (entry ∷ []) } ]) q in
        ap (λ x. entry_of x main_text) same
        ∙ (find-append (λ x. bytes_eq x.text main_text) env.names (entry ∷ [])
        ∙ (ap (λ o. option_or o (find (λ x. bytes_eq x.text main_text) (entry ∷ []))) none
        ∙ ap (λ b. if b then Some entry else None) parts.0))

    old : (x : Entry) (t : Thing) → entry_of env s.name.text ≡ Some x → Sound (function_name_found env s (Some (record { text = x.text; thing = t }))) →
        Defined (elim t [ function_thing ↦ record env { signatures = env.signatures ++ (s ∷ []) } | _ ↦ env ])
    old x (global_thing g) q k = absurd (cc k)
    old x (class_thing c) q k = absurd (cc k)
    old x function_thing q k = record {
      entry = x;
      there = ap (entry_of env) (sym (named_main s.name.text parts.0)) ∙ q;
      defined = defined_last env.signatures s e;
    }

    go : (o : Option Entry) → entry_of env s.name.text ≡ o → Sound (function_name_found env s o) → Defined (elim o [
      | None ↦ record (with_name env s.name.text function_thing) { signatures = env.signatures ++ (s ∷ []) }
      | Some e ↦ elim e.thing [ function_thing ↦ record env { signatures = env.signatures ++ (s ∷ []) } | _ ↦ env ]
    ])
    go None q k = record { entry = entry; there = new q; defined = defined_last env.signatures s e }
    go (Some x) q k = old x x.thing q k
