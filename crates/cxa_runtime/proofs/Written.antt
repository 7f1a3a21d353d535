-- The lines of two items.
use Rattle.std.proofs.Common.{◌≡◌, refl, subst, sym, Bool, true, false, cond, [], ◌∷◌, ◌++◌, map, Result, Ok, Err}
use Rattle.eh_outer.specs.Sink.{SinkView}
use Rattle.eh_outer.specs.declared.sink.SinkError.{SinkError}
use Rattle.eh_outer.specs.declared.sink.SinkError.TheVariants.{Failed}
use Rattle.run_items.specs.declared.item.Item.{Item}
use Rattle.run_items.specs.Line.{is_printed, line_of, lines_of}
use Rattle.run_items.specs.Output.{TakesAll, FailsAmong, PutsAll}
use Rattle.run_items.proofs.Puts.{takes_more, fails_more, fails_before}

lines_both : (trace : Bool) (a b : Item) → lines_of trace (a ∷ b ∷ []) ≡ lines_of trace (a ∷ []) ++ lines_of trace (b ∷ [])
lines_both trace a b = go (is_printed trace a) (is_printed trace b)
  where
    go : (x y : Bool) → map line_of (cond x (a ∷ cond y (b ∷ []) []) (cond y (b ∷ []) [])) ≡ map line_of (cond x (a ∷ []) []) ++ map line_of (cond y (b ∷ []) [])
    go true true = refl
    go true false = refl
    go false true = refl
    go false false = refl

pub put_failed : (trace : Bool) (a b : Item) (old new : SinkView) (e : SinkError) → PutsAll (lines_of trace (a ∷ [])) old new (Err e) → PutsAll (lines_of trace (a ∷ b ∷ [])) old new (Err e)
put_failed trace a b old new Failed h = subst (λ p. FailsAmong p old new) (sym (lines_both trace a b)) (fails_before (lines_of trace (a ∷ [])) (lines_of trace (b ∷ [])) old new h)

pub put_more : (trace : Bool) (a b : Item) (old mid new : SinkView) (r : Result (Unit {0}) SinkError) → TakesAll (lines_of trace (a ∷ [])) old mid → PutsAll (lines_of trace (b ∷ [])) mid new r →
    PutsAll (lines_of trace (a ∷ b ∷ [])) old new r
put_more trace a b old mid new (Ok u) first h = subst (λ p. TakesAll p old new) (sym (lines_both trace a b)) (takes_more (lines_of trace (a ∷ [])) (lines_of trace (b ∷ [])) old mid new first h)
put_more trace a b old mid new (Err Failed) first h = subst (λ p. FailsAmong p old new) (sym (lines_both trace a b)) (fails_more (lines_of trace (a ∷ [])) (lines_of trace (b ∷ [])) old mid new first h)
