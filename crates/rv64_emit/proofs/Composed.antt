-- The parts of a unit's functions.
use Rattle.std.proofs.Common.{◌≡◌, ◌∙◌, ℕ, ◌+◌, List, [], ◌∷◌, ◌++◌, flat_map, length, map, sym, ap, append_assoc}
use Rattle.std.specs.Prelude.{nat_eq, unwrap_or}
use Rattle.std.proofs.lemmas.List.{length-map, map_push}
use Rattle.indexmap.specs.IndexMap.{get}
use Rattle.eh_bytes.specs.declared.unit.EmittedFunc.{EmittedFunc}
use Rattle.eh_bytes.specs.Listed.{listed_function}
use Rattle.linear_forms.specs.Linear.{FunctionCode, LinearOp}
use Rattle.linear_forms.specs.Tables.{label_place}
use Rattle.machine_forms.specs.Piece.{Piece}
use Rattle.machine_forms.specs.Shape.{Shape}
use Rattle.machine_forms.specs.LinearCode.{linear_code}
use Rattle.machine_forms.specs.Routine.{Routine, listed_routine, listed_routines, routine_words}
use Rattle.machine_forms.specs.Emitted.{function_front, function_routine, shape_of}
use Rattle.rv64_emit.specs.declared.body.Body.{Body}
use Rattle.rv64_emit.specs.Body.{StandsFor}
use Rattle.rv64_emit.specs.Starts.{starts_from}
use Rattle.rv64_emit.proofs.Bodies.{words_counted}

-- one function more, before those that are left
pub next_listed : (listed : List EmittedFunc) (f : EmittedFunc) (end end' : ℕ) (r : Routine) (rs : List Routine) → listed_function f ≡ listed_routine end r →
    end' ≡ end + routine_words r → map listed_function (listed ++ f ∷ []) ++ listed_routines end' rs ≡ map listed_function listed ++ listed_routines end (r ∷ rs)
next_listed listed f end end' r rs e next =
    ap (λ l. l ++ listed_routines end' rs) (map_push listed_function listed f)
    ∙ (append_assoc (map listed_function listed) (listed_function f ∷ []) (listed_routines end' rs)
    ∙ (ap (λ x. map listed_function listed ++ x ∷ listed_routines end' rs) e
    ∙ ap (λ n. map listed_function listed ++ listed_routine end r ∷ listed_routines n rs) next))

-- the code of a function
pub body_stands : (b : Body) (g : FunctionCode) (frame : Shape) (none some : List Piece) (ops : List LinearOp) (count : ℕ) → frame ≡ shape_of g → none ≡ [] →
    some ≡ none ++ function_front frame g.parameters → ops ≡ g.ops → b.code ≡ some ++ flat_map (λ x. x) (map (linear_code frame) ops) →
    b.starts.words.items ≡ starts_from (length some) (map (linear_code frame) ops) → b.starts.end ≡ length b.code → count ≡ length ops →
    ((l : ℕ) → unwrap_or (get nat_eq b.labels l) count ≡ label_place ops l 0) → StandsFor b (function_routine g)
body_stands b g frame none some ops count ef en es eo code words end ec labels =
    let r = function_routine g in
    let front : some ≡ r.front = es ∙ (ap (λ l. l ++ function_front frame g.parameters) en ∙ ap (λ s. function_front s g.parameters) ef) in
    let blocks : map (linear_code frame) ops ≡ r.blocks = ap (λ s. map (linear_code s) ops) ef ∙ ap (map (linear_code (shape_of g))) eo in
    let whole : b.code ≡ r.front ++ flat_map (λ x. x) r.blocks
    = code ∙ (ap (λ l. l ++ flat_map (λ x. x) (map (linear_code frame) ops)) front ∙ ap (λ l. r.front ++ flat_map (λ x. x) l) blocks) in
    let many : length r.blocks ≡ count = sym (ec ∙ (sym (length-map ops (linear_code frame)) ∙ ap length blocks)) in
    record {
      code = whole;
      starts = record {
        words = words ∙ (ap (λ l. starts_from (length l) (map (linear_code frame) ops)) front ∙ ap (starts_from (length r.front)) blocks);
        end = end ∙ (ap length whole ∙ words_counted r);
      };
      labels = λ l. ap (unwrap_or (get nat_eq b.labels l)) many ∙ (labels l ∙ ap (λ os. label_place os l 0) eo);
    }
