-- The pieces of what is told, one behind the other.
use Rattle.std.proofs.Common.{◌≡◌, ◌∙◌, refl, sym, ap, subst, ℕ, Bool, true, false, List, [], ◌∷◌, ◌++◌, map, append-nil, Option, Some, None}
use Rattle.std.specs.Prelude.{Result, Ok, Err, filter}
use Rattle.std.proofs.lemmas.List.{map-append}
use Rattle.std.proofs.lemmas.List.Elements.{filter-append}
use Rattle.eh_outer.specs.Sink.{SinkView, Puts}
use Rattle.eh_outer.specs.declared.sink.SinkError.{SinkError}
use Rattle.eh_outer.specs.declared.sink.SinkError.TheVariants.{Failed}
use Rattle.run_items.specs.declared.item.Item.{Item}
use Rattle.run_items.specs.Line as plain
use Rattle.run_items.specs.Output.{TakesAll, PutsAll}
use Rattle.run_items.proofs.Puts.{takes_none, takes_one, takes_more, fails_first, fails_more, fails_before}
use Rattle.cxa_runtime.specs.declared.effect.End.{End}
use Rattle.run_ends.specs.EndLine.{end_line}
use Rattle.hart_sched.specs.Laws.{ended_as}
use Rattle.hart_sched.specs.Run.{told_by}
use Rattle.hart_sched.specs.Seats.{pieces_told, told_then}
use Rattle.hart_sched.specs.Text.{Marked, line_of, is_printed, piece_of}
use Rattle.hart_sched.specs.Turn.{Told, shown}

pub pieces_both : (trace : Bool) (a b : List (ℕ × Told)) → pieces_told trace (a ++ b) ≡ pieces_told trace a ++ pieces_told trace b
pieces_both trace a b =
    let printed : ℕ × Told → Bool = λ t. is_printed trace t.1 in
    let marked : ℕ × Told → Marked = λ t. (t.0, line_of t.1) in
    ap (λ (told : List (ℕ × Told)). map piece_of (map marked told)) (filter-append printed a b) ∙ ap (map piece_of) (map-append marked (filter printed a) (filter printed b)) ∙
    map-append piece_of (map marked (filter printed a)) (map marked (filter printed b))

-- pieces behind pieces
pub puts_then : (a b : List (List ℕ)) (old mid new : SinkView) (result : Result (Unit {0}) SinkError) → TakesAll a old mid → PutsAll b mid new result → PutsAll (a ++ b) old new result
puts_then a b old mid new (Ok done) first second = takes_more a b old mid new first second
puts_then a b old mid new (Err Failed) first second = fails_more a b old mid new first second

pub puts_fail : (a b : List (List ℕ)) (old new : SinkView) (e : SinkError) → PutsAll a old new (Err e) → PutsAll (a ++ b) old new (Err e)
puts_fail a b old new Failed first = fails_before a b old new first

pub puts_one : (piece : List ℕ) (old new : SinkView) (result : Result (Unit {0}) SinkError) → Puts piece old new result → PutsAll (piece ∷ []) old new result
puts_one piece old new (Ok done) h = takes_one piece old new h
puts_one piece old new (Err Failed) h = fails_first piece [] old new h

-- ---- of an item
one_piece : (trace : Bool) (k : ℕ) (item : Item) → plain.is_printed trace item ≡ true → pieces_told trace (told_then k (item ∷ []) None) ≡ piece_of (k, plain.line_of item) ∷ []
one_piece trace k item e = rw e refl

no_piece : (trace : Bool) (k : ℕ) (item : Item) → plain.is_printed trace item ≡ false → pieces_told trace (told_then k (item ∷ []) None) ≡ []
no_piece trace k item e = rw e refl

pub printed : (trace : Bool) (k : ℕ) (item : Item) (old new : SinkView) (result : Result (Unit {0}) SinkError) → plain.is_printed trace item ≡ true → Puts (piece_of (k, plain.line_of item)) old new result →
    PutsAll (pieces_told trace (told_then k (item ∷ []) None)) old new result
printed trace k item old new result e h = subst (λ pieces. PutsAll pieces old new result) (sym (one_piece trace k item e)) (puts_one (piece_of (k, plain.line_of item)) old new result h)

pub passed_over : (trace : Bool) (k : ℕ) (item : Item) (old : SinkView) → plain.is_printed trace item ≡ false → PutsAll (pieces_told trace (told_then k (item ∷ []) None)) old old (Ok tt)
passed_over trace k item old e = subst (λ pieces. PutsAll pieces old old (Ok tt)) (sym (no_piece trace k item e)) (takes_none old)

-- ---- told behind told
pub puts_more : (trace : Bool) (a b : List (ℕ × Told)) (old mid new : SinkView) (result : Result (Unit {0}) SinkError) → TakesAll (pieces_told trace a) old mid → PutsAll (pieces_told trace b) mid new result →
    PutsAll (pieces_told trace (a ++ b)) old new result
puts_more trace a b old mid new result first second =
    subst (λ pieces. PutsAll pieces old new result) (sym (pieces_both trace a b)) (puts_then (pieces_told trace a) (pieces_told trace b) old mid new result first second)

pub puts_before : (trace : Bool) (a b : List (ℕ × Told)) (old new : SinkView) (e : SinkError) → PutsAll (pieces_told trace a) old new (Err e) → PutsAll (pieces_told trace (a ++ b)) old new (Err e)
puts_before trace a b old new e first = subst (λ pieces. PutsAll pieces old new (Err e)) (sym (pieces_both trace a b)) (puts_fail (pieces_told trace a) (pieces_told trace b) old new e first)

told_split : (k : ℕ) (items : List Item) (end : Option End) → told_then k items None ++ told_then k [] end ≡ told_then k items end
told_split k items end =
    ap (λ (told : List Told). told_by k told ++ told_by k (ended_as end)) (append-nil (map shown items)) ∙ sym (map-append (λ (t : Told). (k, t)) (map shown items) (ended_as end))

-- items, and the end
pub then_end : (trace : Bool) (k : ℕ) (items : List Item) (end : Option End) (old mid new : SinkView) (result : Result (Unit {0}) SinkError) → TakesAll (pieces_told trace (told_then k items None)) old mid →
    PutsAll (pieces_told trace (told_then k [] end)) mid new result → PutsAll (pieces_told trace (told_then k items end)) old new result
then_end trace k items end old mid new result first second =
    subst (λ (told : List (ℕ × Told)). PutsAll (pieces_told trace told) old new result) (told_split k items end) (puts_more trace (told_then k items None) (told_then k [] end) old mid new result first second)

pub before_end : (trace : Bool) (k : ℕ) (items : List Item) (end : Option End) (old new : SinkView) (e : SinkError) → PutsAll (pieces_told trace (told_then k items None)) old new (Err e) →
    PutsAll (pieces_told trace (told_then k items end)) old new (Err e)
before_end trace k items end old new e first =
    subst (λ (told : List (ℕ × Told)). PutsAll (pieces_told trace told) old new (Err e)) (told_split k items end) (puts_before trace (told_then k items None) (told_then k [] end) old new e first)

-- the end alone
pub end_put : (trace : Bool) (k : ℕ) (o : Option End) (end : End) (old new : SinkView) (result : Result (Unit {0}) SinkError) → o ≡ Some end → Puts (piece_of (k, end_line end)) old new result →
    PutsAll (pieces_told trace (told_then k [] o)) old new result
end_put trace k o end old new result is h =
    subst (λ (o : Option End). PutsAll (pieces_told trace (told_then k [] o)) old new result) (sym is) (puts_one (piece_of (k, end_line end)) old new result h)
