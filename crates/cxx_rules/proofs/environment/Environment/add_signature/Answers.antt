use Rattle.std.proofs.Common.{◌≡◌, ℕ, List, ap, ◌∙◌, sym, subst, Option, None, Some, option_map, refl, OnOk, ◌++◌, ◌∷◌, []}
use Rattle.cxx_ast.specs.Declare.{with_name, with_signature}
use Rattle.cxx_ast.specs.Environment.{Entry, Environment, Signature, Thing, function_thing}
use Rattle.cxx_ast.specs.Lookup.{entry_of}
use Rattle.cxx_rules.specs.Known.{with_declaration}
use Rattle.cxx_rules.specs.NamesOf.{thing_of}
use Rattle.cxx_rules.proofs.environment.Environment.add_signature.Goals as goal

no_entry : (o : Option Entry) → None ≡ option_map (λ e. e.thing) o → o ≡ None
no_entry None h = refl
no_entry (Some e) h = cc

-- a name more, where the scope has this of it
abbrev named : Environment → List ℕ → Thing → Option Entry → Environment
named env text thing o = elim o [ Some e ↦ env | None ↦ record env { names = env.names ++ (record { text = text; thing = thing } ∷ []) } ]

signed : (env : Environment) (s : Signature) → entry_of env s.name.text ≡ None → with_declaration (with_name env s.name.text function_thing) s ≡ with_signature env s
signed env s e =
    let w : Environment = with_name env s.name.text function_thing in
    ap {A = List Signature} {B = Environment} (λ ss. record w { signatures = ss ++ (s ∷ []) }) (kept (entry_of env s.name.text)) ∙ by (entry_of env s.name.text) w e
  where
    kept : (o : Option Entry) → (named env s.name.text function_thing o).signatures ≡ env.signatures
    kept None = refl
    kept (Some e) = refl

    by : (o : Option Entry) (w : Environment) → o ≡ None →
        record w { signatures = env.signatures ++ (s ∷ []) }
        ≡ elim o [
          | None ↦ record w { signatures = env.signatures ++ (s ∷ []) }
          | Some e ↦ elim e.thing [ function_thing ↦ record env { signatures = env.signatures ++ (s ∷ []) } | _ ↦ env ]
        ]
    by None w h = refl
    by (Some e) w h = absurd (cc h)

pub returns-in_ok-add_name-in-None : goal.returns-in_ok-add_name-in-None
returns-in_ok-add_name-in-None c =
    let env = c.args.self.now in
    let s = c.args.signature in
    let text = c.as_bytes-text.ensures ∙ ap (λ n. n.text) c.name.ensures in
    let none = no_entry (entry_of env c.as_bytes-text.result.now) (ap (option_map thing_of) (sym c.in-None.is) ∙ c.thing.ensures) in
    let named = c.in_ok-add_name-in-None.ensures ∙ ap (λ t. with_name env t function_thing) text in
    subst (λ x. OnOk c.add_declaration.result (c.add_declaration.new.self ≡ x))
    (ap (λ e. with_declaration e s) named ∙ signed env s (ap (entry_of env) (sym text) ∙ none)) c.add_declaration.ensures
