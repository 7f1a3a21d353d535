-- The lines of one item.
use Rattle.std.proofs.Common.{◌≡◌, ℕ, Bool, true, false, List, [], ◌∷◌, refl, sym, subst}
use Rattle.std.specs.Prelude.{Result, Ok, Err, map, filter}
use Rattle.eh_outer.specs.Sink.{SinkView, Puts}
use Rattle.eh_outer.specs.declared.sink.SinkError.{SinkError}
use Rattle.eh_outer.specs.declared.sink.SinkError.TheVariants.{Failed}
use Rattle.run_items.specs.declared.item.Item.{Item}
use Rattle.run_items.specs.Line.{is_printed, line_of, lines_of}
use Rattle.run_items.specs.Output.{PutsAll}
use Rattle.run_items.proofs.Puts.{takes_none, takes_one, fails_first}

one_line : (trace : Bool) (item : Item) → is_printed trace item ≡ true → lines_of trace (item ∷ []) ≡ line_of item ∷ []
one_line trace item e = rw e refl

no_line : (trace : Bool) (item : Item) → is_printed trace item ≡ false → lines_of trace (item ∷ []) ≡ []
no_line trace item e = rw e refl

one_put : (piece : List ℕ) (old new : SinkView) (result : Result (Unit {0}) SinkError) → Puts piece old new result → PutsAll (piece ∷ []) old new result
one_put piece old new (Ok done) h = takes_one piece old new h
one_put piece old new (Err Failed) h = fails_first piece [] old new h

pub printed : (trace : Bool) (item : Item) (old new : SinkView) (result : Result (Unit {0}) SinkError) → is_printed trace item ≡ true → Puts (line_of item) old new result → PutsAll (lines_of trace (item ∷ [])) old new result
printed trace item old new result e h = subst (λ lines. PutsAll lines old new result) (sym (one_line trace item e)) (one_put (line_of item) old new result h)

pub passed_over : (trace : Bool) (item : Item) (old : SinkView) → is_printed trace item ≡ false → PutsAll (lines_of trace (item ∷ [])) old old (Ok tt)
passed_over trace item old e = subst (λ lines. PutsAll lines old old (Ok tt)) (sym (no_line trace item e)) (takes_none old)
