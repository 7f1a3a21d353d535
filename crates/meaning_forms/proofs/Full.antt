-- With 1,024 live exceptions terminate is called in place of a throw, and a module's token is not cleaned.
use Rattle.std.specs.Prelude.{◌≡◌, refl, ℕ, pos, [], ◌∷◌, Some, None, replicate}
use Rattle.cxx_ast.specs.declared.name.Bound.TheVariants.{Builtin}
use Rattle.cxx_ast.specs.declared.name.Builtin.TheVariants.{Module}
use Rattle.cxx_ast.specs.declared.types.Ty.TheVariants.{Int}
use Rattle.cxx_ast.specs.declared.declaration.FuncKind.TheVariants.{Plain}
use Rattle.cxx_ast.specs.Plain.{number, call, no_expressions, expression_then, throw, try, evaluate, Statement, no_statements, statement_then, no_handlers, handler_then, Checked}
use Rattle.run_items.specs.declared.item.Item.TheVariants.{Make, Foreign, Enter, Leave, Destroy, Free, Clean}
use Rattle.meaning_forms.specs.declared.ending.MeanEnd.TheVariants.{Aborted}
use Rattle.eh_outer.specs.declared.module.Reply.TheVariants.{Raise}
use Rattle.meaning_forms.specs.World.{building, nowhere}
use Rattle.meaning_forms.specs.Context.{no_context}
use Rattle.meaning_forms.specs.Running.{function}
use Rattle.meaning_forms.specs.Call.{call_with}
use Rattle.meaning_forms.specs.Meaning.{Meaning, after_main, first_world}
use Rattle.meaning_forms.proofs.Trees.{nm, fn, ck}

-- `try { .. } catch (...) { }` in main
main_trying : Statement → Checked
main_trying s =
    ck [] [] (fn Plain Int [] None [] (statement_then (try (statement_then s no_statements) (handler_then None None no_statements 0 no_handlers)) no_statements) ∷ []) 0

throw_one : Checked
unfolding main_trying
throw_one = main_trying (throw 0 (Some (number (pos 1) 0)))

ask_module : Checked
unfolding main_trying
ask_module =
    main_trying (evaluate (call (nm (Builtin Module) ∷ []) (expression_then (number (pos 0) 0) (expression_then (number (pos 0) 0) no_expressions))))

-- the meaning where so many exceptions are live at the start
meaning_with : Checked → ℕ → Meaning
meaning_with p n =
    after_main
    (call_with p 128 11 (function 0) nowhere [] no_context
    (record (first_world p [] ((Raise 9 ∷ []) ∷ []) 10) { live = replicate n (record { number = 0; exception = building }) }))

throw-below : (meaning_with throw_one 1023).items ≡ Make 1 ∷ Enter 1 ∷ Leave 1 ∷ Destroy 1 ∷ Free 1 ∷ []
unfolding meaning_with throw_one
throw-below = refl

throw-full : (meaning_with throw_one 1024).items ≡ []
unfolding meaning_with throw_one
throw-full = refl

throw-full_end : (meaning_with throw_one 1024).end ≡ Aborted
unfolding meaning_with throw_one
throw-full_end = refl

module-below : (meaning_with ask_module 1023).items ≡ Foreign 1 0 9 ∷ Enter 1 ∷ Leave 1 ∷ Clean 0 9 ∷ []
unfolding meaning_with ask_module
module-below = refl

module-full : (meaning_with ask_module 1024).items ≡ []
unfolding meaning_with ask_module
module-full = refl

-- the reply is used up
module-full_replies : (meaning_with ask_module 1024).replies ≡ [] ∷ []
unfolding meaning_with ask_module
module-full_replies = refl
