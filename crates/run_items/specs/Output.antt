-- What is written on a sink, put by put: each line is one piece.
use Rattle.std.specs.Prelude.{◌≡◌, ◌≤◌, length, take, Some, IfSome, Result, Ok, Err, ℕ, List, ◌∷◌, ◌++◌}
use Rattle.std.specs.List.{flat_map}
use Rattle.eh_outer.specs.Store.{Rose}
use Rattle.eh_outer.specs.Sink.{SinkView, Gains}
use Rattle.eh_outer.specs.declared.sink.SinkError.{SinkError}
use Rattle.eh_outer.specs.declared.sink.SinkError.TheVariants.{Failed}

-- the bytes of the pieces
abbrev pub bytes_of : List (List ℕ) → List ℕ
bytes_of pieces = flat_map (λ piece. piece) pieces

-- the sink took these pieces
pub record TakesAll (pieces : List (List ℕ)) (old new : SinkView) : Type 0 where
  pub gains : Gains (bytes_of pieces) old new
  pub later : old.faults ≤ new.faults
  pub wanted : new.wanted ≡ old.wanted

-- the sink failed at one of these pieces: it took those before whole, and of that one a front
pub record FailsAmong (pieces : List (List ℕ)) (old new : SinkView) : Type 0 where
  pub gone : List (List ℕ)
  pub piece : List ℕ
  pub others : List (List ℕ)
  pub split : pieces ≡ gone ++ piece ∷ others
  pub rose : Rose old.faults new.faults
  pub wanted : new.wanted ≡ length piece
  pub front : IfSome old.taken (λ taken. (k : ℕ) × (new.taken ≡ Some (taken ++ (bytes_of gone ++ take k piece))))

-- the sink took all the pieces, or failed at one
abbrev pub PutsAll : List (List ℕ) → SinkView → SinkView → Result Unit SinkError → Type 0
PutsAll pieces old new (Ok done) = TakesAll pieces old new
PutsAll pieces old new (Err Failed) = FailsAmong pieces old new
