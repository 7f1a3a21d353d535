-- Lines that are put one after another.
use Rattle.std.proofs.Common.{List, [], ◌∷◌, ℕ}
use Rattle.std.specs.Prelude.{Result, Ok, Err}
use Rattle.eh_outer.specs.Sink.{SinkView, Puts}
use Rattle.eh_outer.specs.declared.sink.SinkError.{SinkError}
use Rattle.eh_outer.specs.declared.sink.SinkError.TheVariants.{Failed}
use Rattle.run_items.specs.Output.{PutsAll}
use Rattle.run_items.proofs.Puts.{takes_one, takes_more, fails_first, fails_more}
use Rattle.eh_commands.proofs.Meanings.{ended}

pub end_failed : (line : List ℕ) (others : List (List ℕ)) (old new : SinkView) (e : SinkError) → Puts line old new (Err e) → PutsAll (line ∷ others) old new (Err e)
end_failed line others old new Failed h = fails_first line others old new h

pub end_put : (line : List ℕ) (old new : SinkView) → Puts line old new (Ok tt) → PutsAll (line ∷ []) old new (Ok tt)
end_put line old new h = takes_one line old new h

pub count_put : (line last : List ℕ) (old now new : SinkView) (result : Result (Unit {0}) SinkError) → Puts line old now (Ok tt) → Puts last now new result →
    PutsAll (line ∷ last ∷ []) old new result
count_put line last old now new result first second = ended (line ∷ []) last old now new result (takes_one line old now first) second

-- a line before others
pub put_before : (line : List ℕ) (others : List (List ℕ)) (old now new : SinkView) (result : Result (Unit {0}) SinkError) → Puts line old now (Ok tt) → PutsAll others now new result →
    PutsAll (line ∷ others) old new result
put_before line others old now new (Ok done) first more = takes_more (line ∷ []) others old now new (takes_one line old now first) more
put_before line others old now new (Err Failed) first more = fails_more (line ∷ []) others old now new (takes_one line old now first) more
