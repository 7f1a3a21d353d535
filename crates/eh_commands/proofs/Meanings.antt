-- The lines of a meaning, put one after another.
use Rattle.std.proofs.Common.{◌≡◌, ◌∙◌, refl, sym, ap, subst, ℕ, Bool, List, [], ◌∷◌, ◌++◌, append_assoc, append-nil}
use Rattle.std.specs.Prelude.{Result, Ok, Err, map, filter}
use Rattle.std.proofs.lemmas.List.{map-append}
use Rattle.std.proofs.lemmas.List.Elements.{filter-append}
use Rattle.eh_outer.specs.Sink.{SinkView, Puts}
use Rattle.eh_outer.specs.declared.sink.SinkError.{SinkError}
use Rattle.eh_outer.specs.declared.sink.SinkError.TheVariants.{Failed}
use Rattle.run_items.specs.declared.item.Item.{Item}
use Rattle.run_items.specs.Line.{is_printed, line_of, lines_of}
use Rattle.run_items.specs.Output.{TakesAll, FailsAmong, PutsAll}
use Rattle.run_items.proofs.Puts.{takes_none, takes_one, takes_more, fails_first, fails_more, fails_before}

-- the lines of these items went out, and the rest is still to go
pub record ItemsSoFar (trace : Bool) (all rest : List Item) (old now : SinkView) : Type 0 where
  pub gone : List Item
  pub split : all ≡ gone ++ rest
  pub puts : TakesAll (lines_of trace gone) old now

pub lines_more : (trace : Bool) (a b : List Item) → lines_of trace (a ++ b) ≡ lines_of trace a ++ lines_of trace b
lines_more trace a b = ap (map line_of) (filter-append (is_printed trace) a b) ∙ map-append line_of (filter (is_printed trace) a) (filter (is_printed trace) b)

pub none_gone : (trace : Bool) (all : List Item) (old : SinkView) → ItemsSoFar trace all all old old
none_gone trace all old = record { gone = []; split = refl; puts = takes_none old }

pub one_gone : (trace : Bool) (all rest : List Item) (item : Item) (others : List Item) (old now new : SinkView) → ItemsSoFar trace all rest old now → rest ≡ item ∷ others →
    TakesAll (lines_of trace (item ∷ [])) now new → ItemsSoFar trace all others old new
one_gone trace all rest item others old now new so e puts = record {
  gone = so.gone ++ item ∷ [];
  split = so.split ∙ ap (λ r. so.gone ++ r) e ∙ sym (append_assoc so.gone (item ∷ []) others);
  puts = subst (λ lines. TakesAll lines old new) (sym (lines_more trace so.gone (item ∷ []))) (takes_more (lines_of trace so.gone) (lines_of trace (item ∷ [])) old now new so.puts puts);
}

pub one_failed : (trace : Bool) (all rest : List Item) (item : Item) (others : List Item) (old now new : SinkView) → ItemsSoFar trace all rest old now → rest ≡ item ∷ others →
    FailsAmong (lines_of trace (item ∷ [])) now new → FailsAmong (lines_of trace all) old new
one_failed trace all rest item others old now new so e fails =
    let here = fails_more (lines_of trace so.gone) (lines_of trace (item ∷ [])) old now new so.puts fails in
    let more = fails_before (lines_of trace so.gone ++ lines_of trace (item ∷ [])) (lines_of trace others) old new here in
    let split : lines_of trace all ≡ (lines_of trace so.gone ++ lines_of trace (item ∷ [])) ++ lines_of trace others =
    ap (lines_of trace) (so.split ∙ ap (λ r. so.gone ++ r) e) ∙ lines_more trace so.gone (item ∷ others)
    ∙ ap (λ t. lines_of trace so.gone ++ t) (lines_more trace (item ∷ []) others) ∙ sym (append_assoc (lines_of trace so.gone) (lines_of trace (item ∷ [])) (lines_of trace others)) in
    subst (λ lines. FailsAmong lines old new) (sym split) more

pub one_cut : (trace : Bool) (all rest : List Item) (item : Item) (others : List Item) (old now new : SinkView) (e : SinkError) → ItemsSoFar trace all rest old now → rest ≡ item ∷ others →
    PutsAll (lines_of trace (item ∷ [])) now new (Err e) → PutsAll (lines_of trace all) old new (Err e)
one_cut trace all rest item others old now new Failed so is fails = one_failed trace all rest item others old now new so is fails

pub all_gone : (trace : Bool) (all rest : List Item) (old now : SinkView) → ItemsSoFar trace all rest old now → rest ≡ [] → TakesAll (lines_of trace all) old now
all_gone trace all rest old now so e = subst (λ items. TakesAll (lines_of trace items) old now) (sym (so.split ∙ ap (λ r. so.gone ++ r) e ∙ append-nil so.gone)) so.puts

-- a last line behind others
pub ended : (lines : List (List ℕ)) (last : List ℕ) (old now new : SinkView) (result : Result (Unit {0}) SinkError) → TakesAll lines old now → Puts last now new result → PutsAll (lines ++ last ∷ []) old new result
ended lines last old now new (Ok done) took h = takes_more lines (last ∷ []) old now new took (takes_one last now new h)
ended lines last old now new (Err Failed) took h = fails_more lines (last ∷ []) old now new took (fails_first last [] now new h)

pub cut_short : (lines : List (List ℕ)) (last : List ℕ) (old new : SinkView) → FailsAmong lines old new → FailsAmong (lines ++ last ∷ []) old new
cut_short lines last old new fails = fails_before lines (last ∷ []) old new fails
