-- What a sink tells of itself, and what a put does to that.
use Rattle.std.specs.Prelude.{◌≡◌, ◌≤◌, ℕ, List, ◌++◌, length, take, Option, Some, IfSome, Result, Ok, Err}
use Rattle.eh_outer.specs.declared.sink.SinkError.{SinkError}
use Rattle.eh_outer.specs.declared.sink.SinkError.TheVariants.{Failed}
use Rattle.eh_outer.specs.Store.{Rose}

-- a sink: the bytes that it took, where it tells them, its count of failed puts, and the length of the last piece that failed
pub record SinkView : Type 0 where
  pub taken : Option (List ℕ)
  pub faults : ℕ
  pub wanted : ℕ

-- where the sink tells what it took, it took these bytes after the old ones
abbrev pub Gains : List ℕ → SinkView → SinkView → Type 0
Gains bytes old new = IfSome old.taken (λ taken. new.taken ≡ Some (taken ++ bytes))

-- the sink took the piece
pub record Takes (piece : List ℕ) (old new : SinkView) : Type 0 where
  pub gains : Gains piece old new
  pub later : old.faults ≤ new.faults
  pub wanted : new.wanted ≡ old.wanted

-- the sink failed, and took a front of the piece
pub record Fails (piece : List ℕ) (old new : SinkView) : Type 0 where
  pub front : IfSome old.taken (λ taken. (k : ℕ) × (new.taken ≡ Some (taken ++ take k piece)))
  pub rose : Rose old.faults new.faults
  pub wanted : new.wanted ≡ length piece

-- when a put gives each of its answers, and what it leaves
abbrev pub Puts : List ℕ → SinkView → SinkView → Result Unit SinkError → Type 0
Puts piece old new (Ok done) = Takes piece old new
Puts piece old new (Err Failed) = Fails piece old new
