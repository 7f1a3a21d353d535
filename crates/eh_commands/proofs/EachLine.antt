-- Lines that are put one after the other.
use Rattle.std.proofs.Common.{◌≡◌, ℕ, List, [], ◌∷◌, ◌++◌, refl, sym, subst, ◌∙◌, append_assoc, append-nil}
use Rattle.eh_outer.specs.Sink.{SinkView, Takes, Fails}
use Rattle.run_items.specs.Output.{TakesAll, FailsAmong}
use Rattle.run_items.proofs.Puts.{takes_none, takes_one, takes_more, fails_first, fails_more}

-- those in front of the rest went out
pub record EachSoFar (all rest : List (List ℕ)) (old new : SinkView) : Type 0 where
  pub lines : List (List ℕ)
  pub split : all ≡ lines ++ rest
  pub puts : TakesAll lines old new

pub none_yet : (all : List (List ℕ)) (s : SinkView) → EachSoFar all all s s
none_yet all s = record { lines = []; split = refl; puts = takes_none s }

-- with the next line
pub one_further : (all : List (List ℕ)) (line : List ℕ) (rest : List (List ℕ)) (old mid new : SinkView) → EachSoFar all (line ∷ rest) old mid → Takes line mid new → EachSoFar all rest old new
one_further all line rest old mid new so_far took = record {
  lines = so_far.lines ++ line ∷ [];
  split = so_far.split ∙ sym (append_assoc so_far.lines (line ∷ []) rest);
  puts = takes_more so_far.lines (line ∷ []) old mid new so_far.puts (takes_one line mid new took);
}

-- all of them
pub each_taken : (all : List (List ℕ)) (old new : SinkView) → EachSoFar all [] old new → TakesAll all old new
each_taken all old new so_far = subst (λ ls. TakesAll ls old new) (sym (so_far.split ∙ append-nil so_far.lines)) so_far.puts

-- the next line failed
pub one_fails : (all : List (List ℕ)) (line : List ℕ) (rest : List (List ℕ)) (old mid new : SinkView) → EachSoFar all (line ∷ rest) old mid → Fails line mid new → FailsAmong all old new
one_fails all line rest old mid new so_far failed =
    subst (λ ls. FailsAmong ls old new) (sym so_far.split) (fails_more so_far.lines (line ∷ rest) old mid new so_far.puts (fails_first line rest mid new failed))
